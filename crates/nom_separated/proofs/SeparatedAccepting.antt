-- Lemmas on the acceptances of lists with a separator between their items.
use Rattle.std.proofs.Common.{◌≡◌, ◌∙◌, Bool, false, ℕ, ◌+◌, ◌<◌, ◌⊎◌, Some, None, List, [], ◌∷◌, ◌++◌, refl, arith, ap, subst, sym, inl, inr}
use Rattle.nom_internal.specs.Prelude.{Errors, Model, InputLaws, IsSuffixOf, Accept, Refuse, Meaning}
use Rattle.nom_error.specs.declared.kind.ErrorKind.TheVariants as Kind
use Rattle.nom_repeat.specs.Accepted.{InTurn, AcceptsOneAndMore, OneAndMore}
use Rattle.nom_repeat.specs.declared.items.TooFew.TheVariants.{Passed}
use Rattle.nom_repeat.proofs.AcceptedItems.{accepted_in_turn, in_turn_accepted}
use Rattle.nom_repeat.proofs.AcceptedMore.{one_and_more_accept, first_accepts}
use Rattle.nom_sequence.specs.Sequences.{preceded_meaning}
use Rattle.nom_separated.specs.Promises.{AcceptsNoneOrMore}
use Rattle.nom_separated.specs.Separated.{optional_limits, optional_meaning, following, separated0_meaning, separated1_meaning}
use Rattle.nom_repeat.specs.Bounds.{any_limits}

module _ {I A P V E : Type 0} (w : Model I A) (errs : Errors I E) (separator : Meaning I P E) (m : Meaning I V E) where
  pub separated1_accepts_more : AcceptsOneAndMore w m (preceded_meaning w separator m) (separated1_meaning w errs separator m)
  separated1_accepts_more = one_and_more_accept w errs Passed false Kind.SeparatedList (Unit {0}) (Unit {0}) m (preceded_meaning w separator m)

  -- none, or a first item and those after it
  no_item : (i : I) (n : ℕ) (s : Bool) → InTurn w (m.answers s) (λ _. Unit {0}) 0 (Some 1) i n [] → m.answers s i Refuse × (n ≡ 0)
  no_item i n s (e, inl z) = (z.1, e)
  no_item i n s (e, inr z) = absurd (z (omega arith))

  optional_item : (i : I) (n : ℕ) (s : Bool) (v : V) (vs : List V) → InTurn w (m.answers s) (λ _. Unit {0}) 0 (Some 1) i n (v ∷ vs) → (vs ≡ []) ×
      m.answers s i (Accept n v)
  optional_item i n s v [] p = (refl, subst (λ c. m.answers s i (Accept c v)) (omega (arith, p.6, (p.5).0)) (p.3).1)
  optional_item i n s v (u ∷ vs) p = absurd (omega (arith, ((p.5).3).0))

  more_items : (s : Bool) (i j : I) (n a c : ℕ) (us xs vs : List V) → InTurn w (m.answers s) (λ _. Unit {0}) 0 (Some 1) i a us → IsSuffixOf w i a j →
      ((following w errs separator m).at us).answers s j (Accept c xs) → n ≡ a + c → vs ≡ us ++ xs → (m.answers s i Refuse × (n ≡ 0) × (vs ≡ [])) ⊎
      OneAndMore w (m.answers s) (InTurn w ((preceded_meaning w separator m).answers s) (λ b. 0 < b) 0 None) i n vs
  more_items s i j n a c [] xs vs h r f e g =
      let none = no_item i a s h in
      inl (none.0, omega (arith, e, none.1, f.0), g ∙ f.1)
  more_items s i j n a c (u ∷ us) xs vs h r f e g =
      let one = optional_item i a s u us h in
      let after : us ++ xs ≡ xs = ap (λ z. z ++ xs) one.0 in
      inr (record {
        first_length = a;
        tree = u;
        rest = j;
        more_length = c;
        trees = xs;
        accepted = one.1;
        rest_is = r;
        more = accepted_in_turn w errs (any_limits Kind.SeparatedList) (Unit {0}) (preceded_meaning w separator m) s j c xs f;
        length_is = e;
        trees_are = g ∙ ap (λ z. u ∷ z) after;
      })

  pub separated0_accepts_more : InputLaws w → AcceptsNoneOrMore w m (preceded_meaning w separator m) (separated0_meaning w errs separator m)
  separated0_accepts_more l s i n vs k = (forward, λ h. backward h k)
    where
      forward : (separated0_meaning w errs separator m).answers s i (Accept n vs) → (m.answers s i Refuse × (n ≡ 0) × (vs ≡ [])) ⊎
          OneAndMore w (m.answers s) (InTurn w ((preceded_meaning w separator m).answers s) (λ b. 0 < b) 0 None) i n vs
      forward t =
          let f = first_accepts w (λ us ws. us ++ ws) ((optional_meaning w errs (Unit {0}) m).answers s)
          (λ u. ((following w errs separator m).at u).answers s) i n vs t in
          more_items s i f.3 n f.0 f.1 f.2 f.4 vs (accepted_in_turn w errs optional_limits (Unit {0}) m s i f.0 f.2 f.5) f.6 f.7 f.8 f.9

      backward : (m.answers s i Refuse × (n ≡ 0) × (vs ≡ [])) ⊎
          OneAndMore w (m.answers s) (InTurn w ((preceded_meaning w separator m).answers s) (λ b. 0 < b) 0 None) i n vs → w.IsKnown i →
          (separated0_meaning w errs separator m).answers s i (Accept n vs)
      backward (inl z) k = record {
        first = Accept 0 [];
        answered = in_turn_accepted w errs optional_limits (Unit {0}) m s i 0 [] (refl, inl (omega arith, z.0, omega arith));
        goes_on = (
          i,
          Accept 0 [],
          record { known = k; front = []; whole = refl; length_is = refl; mark_is = sym (l.mark_none (w.mark i)) },
          (refl, refl),
          cc (z.1, z.2),
        );
      }
      backward (inr h) k = record {
        first = Accept h.first_length (h.tree ∷ []);
        answered = in_turn_accepted w errs optional_limits (Unit {0}) m s i h.first_length (h.tree ∷ [])
            (h.first_length, 0, h.rest, (omega arith, h.accepted, tt), h.rest_is, (refl, inr (λ z. omega (arith, z))), omega arith);
        goes_on = (
          h.rest,
          Accept h.more_length h.trees,
          h.rest_is,
          in_turn_accepted w errs (any_limits Kind.SeparatedList) (Unit {0}) (preceded_meaning w separator m) s h.rest h.more_length h.trees h.more,
          cc (h.length_is, h.trees_are),
        );
      }
