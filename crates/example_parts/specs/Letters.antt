-- One letter of an input of bytes.
use Rattle.std.specs.Prelude.{◌≡◌, ℕ, Bool, true, false, ◌⊎◌, List, [], ◌∷◌, ◌++◌, Some}
use Rattle.std.proofs.Common.{arith, sym, ◌∙◌, ap, subst, inl, inr}
use Rattle.nom_error.specs.declared.kind.ErrorKind.TheVariants.{Char}
use Rattle.nom_internal.specs.Prelude.{Errors, is_alpha_code, Model, IsBoundary, Related, Meaning, IsLawful, IsSteady, Leaf, LeafLaws, leaf_meaning}
use Rattle.nom_internal.specs.Prelude.{leaf_lawful, leaf_steady}
use Rattle.nom_bytes.specs.Stays.{closed_stays, open_stays}

-- the items begin with one
pub record BeginsWith (xs : List ℕ) (b : ℕ) : Type 0 where
  pub rest : List ℕ
  pub whole : xs ≡ b ∷ rest

-- the first item is no letter
pub record BeginsOther (xs : List ℕ) : Type 0 where
  pub byte : ℕ
  pub begins : BeginsWith xs byte
  pub is_other : is_alpha_code byte ≡ false

module _ {I : Type 0} (w : Model I ℕ) where
  -- a letter, as its number; any other item is refused, and where there is none, 1 is needed, or in the complete mode it is refused
  abbrev pub letters : Leaf I ℕ
  letters = record {
    Accepts = λ s i n b. (n ≡ w.item_len b) × (is_alpha_code b ≡ true) × BeginsWith (w.elements i) b;
    Refuses = λ s i. BeginsOther (w.elements i) ⊎ ((s ≡ false) × (w.elements i ≡ []));
    Lacks = λ i k. (w.elements i ≡ []) × (k ≡ Some 1);
  }

  abbrev pub letter_meaning : {E : Type 0} → Errors I E → Meaning I ℕ E
  letter_meaning errs = leaf_meaning (λ i. errs.of_kind i Char) errs.grows letters

one_first : (xs : List ℕ) (a b : ℕ) → BeginsWith xs a → BeginsWith xs b → a ≡ b
one_first xs a b p q =
    let both : a ∷ p.rest ≡ b ∷ q.rest = sym p.whole ∙ q.whole in
    cc (both)

none_first : {P : Type 0} (xs : List ℕ) (b : ℕ) → BeginsWith xs b → xs ≡ [] → P
none_first xs b p e = absurd (cc (p.whole, e))

both_classes : {P : Type 0} (a b : ℕ) → a ≡ b → is_alpha_code a ≡ true → is_alpha_code b ≡ false → P
both_classes a b e p q =
    let clash : true ≡ false = sym p ∙ (ap is_alpha_code e ∙ q) in
    absurd (cc (clash))

-- what the items begin with stays as more follow
begins_more : (xs ys more : List ℕ) (b : ℕ) → ys ≡ xs ++ more → BeginsWith xs b → BeginsWith ys b
begins_more xs ys more b e p = record { rest = p.rest ++ more; whole = e ∙ ap (λ zs. zs ++ more) p.whole }

module _ {I : Type 0} (w : Model I ℕ) where
  pub letter_place : (i : I) (n b : ℕ) → n ≡ w.item_len b → BeginsWith (w.elements i) b → IsBoundary w i n
  letter_place i n b e p = record { front = b ∷ []; rest = p.rest; whole = p.whole; length_is = omega (arith, e) }

  abbrev Refused : Bool → I → Type 0
  Refused s i = BeginsOther (w.elements i) ⊎ ((s ≡ false) × (w.elements i ≡ []))

  letter_refused : (s : Bool) (i : I) (b : ℕ) → is_alpha_code b ≡ true → BeginsWith (w.elements i) b → Refused s i → ⊥
  letter_refused s i b p f (inl q) = both_classes b q.byte (one_first (w.elements i) b q.byte f q.begins) p q.is_other
  letter_refused s i b p f (inr q) = none_first (w.elements i) b f q.1

  refused_lacks : (i : I) → Refused true i → w.elements i ≡ [] → ⊥
  refused_lacks i (inl q) e = none_first (w.elements i) q.byte q.begins e
  refused_lacks i (inr q) e = cc (q.0)

  refused_stays : (longer s : Bool) → (longer ≡ true → s ≡ true) → (x y : I) → w.IsKnown x → w.IsKnown y → Related w longer x y → Refused s x → Refused s y
  refused_stays longer s only x y kx ky r (inl q) =
      inl (open_stays w BeginsOther (λ x y kx ky e q. record
      { byte = q.byte; begins = begins_more (w.elements x) (w.elements y) e.more q.byte e.whole q.begins; is_other = q.is_other }) longer x y kx ky r q)
  refused_stays longer s only x y kx ky r (inr q) = inr (q.0, closed_stays w (λ xs. xs ≡ []) longer s only x y r q.0 q.1)

  refused_settles : (i : I) → Refused true i → Refused false i
  refused_settles i (inl q) = inl q
  refused_settles i (inr q) = absurd (cc (q.0))

  pub letter_laws : LeafLaws w (letters w)
  letter_laws = record {
    place = λ s i n b h a. letter_place i n b a.0 a.2;
    one_accepted = λ s i n m a b h p q. let e = one_first (w.elements i) a b p.2 q.2 in (p.0 ∙ (ap w.item_len e ∙ sym q.0), e);
    one_lack = λ i j k h a b. a.1 ∙ sym b.1;
    accepted_refused = λ s i n b h a r. letter_refused s i b a.1 a.2 r;
    accepted_lacks = λ i n b k h a l. none_first (w.elements i) b a.2 l.0;
    refused_lacks = λ i k h r l. refused_lacks i r l.0;
    accepted_stays = λ longer s only x y n b kx ky r a.
        (a.0, a.1, open_stays w (λ xs. BeginsWith xs b) (λ x y kx ky e p. begins_more (w.elements x) (w.elements y) e.more b e.whole p) longer x y kx ky r a.2);
    refused_stays = refused_stays;
    lack_consistent = λ x y k kx ky r a. subst (λ xs. (xs ≡ []) × (k ≡ Some 1)) r.elements_are a;
    accepted_settles = λ i n b h a. a;
    refused_settles = λ i h r. refused_settles i r;
  }

module _ {I E : Type 0} (w : Model I ℕ) (errs : Errors I E) where
  pub letter_lawful : IsLawful w (letter_meaning w errs)
  letter_lawful = leaf_lawful (letter_laws w)

  pub letter_steady : IsSteady w (letter_meaning w errs)
  letter_steady = leaf_steady (letter_laws w)
