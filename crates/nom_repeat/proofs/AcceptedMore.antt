-- Lemmas on the acceptances of a first item and those after it.
use Rattle.std.proofs.Common.{◌≡◌, ◌∙◌, Bool, ℕ, ◌+◌, ◌<◌, ◌≤◌, ◌⊎◌, Some, None, List, [], ◌∷◌, ◌++◌, refl, arith, ap, subst, inl, inr}
use Rattle.nom_internal.specs.Prelude.{Errors, ErrorKind, Model, IsSuffixOf, Outcome, Accept, Refuse, Stop, Meaning, after, GoesOn, Then, sequence_meaning}
use Rattle.nom_repeat.specs.Items.{items_meaning}
use Rattle.nom_repeat.specs.Bounds.{any_limits, one_limits}
use Rattle.nom_repeat.specs.Accepted.{InTurn, OneAndMore, AcceptsOneAndMore}
use Rattle.nom_repeat.specs.declared.items.TooFew.{TooFew}
use Rattle.nom_repeat.proofs.AcceptedItems.{accepted_in_turn, in_turn_accepted}

-- what is accepted after something else
pub after_accepts : {P T : Type 0} (a n : ℕ) (f : P → T) (v : T) (o : Outcome P) → Accept n v ≡ after a f o → (c : ℕ) × (u : P) × (o ≡ Accept c u) ×
    (n ≡ a + c) × (v ≡ f u)
after_accepts a n f v (Accept c u) e = (c, u, refl, cc (e), cc (e))
after_accepts a n f v Refuse e = absurd (cc (e))
after_accepts a n f v (Stop why) e = absurd (cc (e))

-- a sequence accepts what its first part accepts, and then what follows
pub first_accepts : {I A P Q T : Type 0} (w : Model I A) (tree : P → Q → T) (First : I → Outcome P → Type 0) (Next : P → I → Outcome Q → Type 0) (i : I)
    (n : ℕ) (v : T) → Then w tree First Next i (Accept n v) → (a c : ℕ) × (u : P) × (j : I) × (x : Q) × First i (Accept a u) × IsSuffixOf w i a j ×
    Next u j (Accept c x) × (n ≡ a + c) × (v ≡ tree u x)
first_accepts {I} {P = P} {Q = Q} {T = T} w tree First Next i n v t = of t.first t.answered t.goes_on
  where
    of : (o : Outcome P) → First i o → GoesOn w tree Next i o (Accept n v) → (a c : ℕ) × (u : P) × (j : I) × (x : Q) × First i (Accept a u) ×
        IsSuffixOf w i a j × Next u j (Accept c x) × (n ≡ a + c) × (v ≡ tree u x)
    of (Accept a u) h g =
        let e = after_accepts a n (tree u) v g.1 g.4 in
        (a, e.0, u, g.0, e.1, h, g.2, subst (λ o. Next u g.0 o) e.2 g.3, e.3, e.4)
    of Refuse h g = absurd (cc (g))
    of (Stop why) h g = absurd (cc (g))

module _ {I A V : Type 0} (w : Model I A) (Item : I → Outcome V → Type 0) where
  -- one item
  pub only_item : (i : I) (n : ℕ) (vs : List V) → InTurn w Item (λ _. Unit {0}) 1 (Some 1) i n vs → (v : V) × (vs ≡ v ∷ []) × Item i (Accept n v)
  only_item i n [] p = absurd (none p.1)
    where
      none : (((0 < 1) × Item i Refuse × (1 ≤ 0)) ⊎ ((0 < 1) → ⊥)) → ⊥
      none (inl z) = omega (arith, z.2)
      none (inr z) = z (omega arith)
  only_item i n (v ∷ []) p = (v, refl, subst (λ c. Item i (Accept c v)) (omega (arith, p.6, (p.5).0)) (p.3).1)
  only_item i n (v ∷ u ∷ vs) p = absurd (omega (arith, ((p.5).3).0))

  pub is_only_item : (i j : I) (n : ℕ) (v : V) → Item i (Accept n v) → IsSuffixOf w i n j → InTurn w Item (λ _. Unit {0}) 1 (Some 1) i n (v ∷ [])
  is_only_item i j n v h r = (n, 0, j, (omega arith, h, tt), r, (refl, inr (λ z. omega (arith, z))), omega arith)

module _ {I A V E : Type 0} (w : Model I A) (errs : Errors I E) (few : TooFew) (start : Bool) (kind : ErrorKind) (G H : Type 0) (m p : Meaning I V E) where
  abbrev both : Meaning I (List V) E
  both = sequence_meaning w (λ vs us. vs ++ us) (λ o. o) (λ o. o) (items_meaning w errs (one_limits few start) G m) (items_meaning w errs (any_limits kind) H p)

  pub one_and_more_accept : AcceptsOneAndMore w m p both
  one_and_more_accept s i n vs = (forward, backward)
    where
      forward : both.answers s i (Accept n vs) → OneAndMore w (m.answers s) (InTurn w (p.answers s) (λ a. 0 < a) 0 None) i n vs
      forward t =
          let f = first_accepts w (λ us ws. us ++ ws) ((items_meaning w errs (one_limits few start) G m).answers s)
          (λ _. (items_meaning w errs (any_limits kind) H p).answers s) i n vs t in
          let one = only_item w (m.answers s) i f.0 f.2 (accepted_in_turn w errs (one_limits few start) G m s i f.0 f.2 f.5) in
          record {
            first_length = f.0;
            tree = one.0;
            rest = f.3;
            more_length = f.1;
            trees = f.4;
            accepted = one.2;
            rest_is = f.6;
            more = accepted_in_turn w errs (any_limits kind) H p s f.3 f.1 f.4 f.7;
            length_is = f.8;
            trees_are = let front : f.2 ≡ one.0 ∷ [] = one.1 in let whole : vs ≡ f.2 ++ f.4 = f.9 in whole ∙ ap (λ us. us ++ f.4) front;
          }

      backward : OneAndMore w (m.answers s) (InTurn w (p.answers s) (λ a. 0 < a) 0 None) i n vs → both.answers s i (Accept n vs)
      backward h = record {
        first = Accept h.first_length (h.tree ∷ []);
        answered = in_turn_accepted w errs (one_limits few start) G m s i h.first_length (h.tree ∷ [])
            (is_only_item w (m.answers s) i h.rest h.first_length h.tree h.accepted h.rest_is);
        goes_on = (
          h.rest,
          Accept h.more_length h.trees,
          h.rest_is,
          in_turn_accepted w errs (any_limits kind) H p s h.rest h.more_length h.trees h.more,
          cc (h.length_is, h.trees_are),
        );
      }
