-- The first item of an input, under a test.
use Rattle.std.specs.Prelude.{◌≡◌, ℕ, ◌==◌, Bool, true, false, ◌⊎◌, List, [], ◌∷◌, Option, Some, None}
use Rattle.std.specs.Char.{len_utf8}
use Rattle.nom_internal.specs.Prelude.{ErrorKind, Errors, Model, Meaning, Leaf, leaf_meaning}
use Rattle.nom_error.specs.declared.kind.ErrorKind.TheVariants as Kind
use Rattle.nom_character_first.specs.declared.first.Blame.{Blame}
use Rattle.nom_character_first.specs.declared.first.Blame.TheVariants.{OfKind, OfChar}

-- the errors of refusals: those for a kind, or those for a character that was wanted
abbrev pub blamed : {I E : Type 0} → Errors I E → Blame → I → E → Type 0
blamed errs (OfKind kind) i = errs.of_kind i kind
blamed errs (OfChar c) i = errs.of_char i c

module _ {I A : Type 0} (w : Model I A) where
  -- x is the first item of i
  pub record IsFirstItem (i : I) (x : A) : Type 0 where
    pub rest : List A
    pub whole : w.elements i ≡ x ∷ rest

  -- Test is what the test answers at an item: true where the item passes. The first item, where it passes, with its code point as tree; where it
  -- doesn't, it is refused. Where there is no item, more is needed, of a size or of an unknown one, or in the complete mode it is refused.
  abbrev pub heads : (code : A → ℕ) (Test : A → Bool → Type 0) (lack : Option ℕ) → Leaf I ℕ
  heads code Test lack = record {
    Accepts = λ s i n c. (x : A) × IsFirstItem i x × Test x true × (n ≡ w.item_len x) × (c ≡ code x);
    Refuses = λ s i. ((x : A) × IsFirstItem i x × Test x false) ⊎ ((s ≡ false) × (w.elements i ≡ []));
    Lacks = λ i k. (w.elements i ≡ []) × (k ≡ lack);
  }

  abbrev pub first_item_meaning : {E : Type 0} → (code : A → ℕ) → (Test : A → Bool → Type 0) → Errors I E → Blame → (lack : Option ℕ) →
      Meaning I ℕ E
  first_item_meaning code Test errs blame lack = leaf_meaning (blamed errs blame) errs.grows (heads code Test lack)

  -- a character; its length in UTF-8 lacks where there is no item
  abbrev pub char_meaning : {E : Type 0} → (code : A → ℕ) → Errors I E → ℕ → Meaning I ℕ E
  char_meaning code errs c = first_item_meaning code (λ x b. b ≡ (code x == c)) errs (OfChar c) (Some (len_utf8 c))

  -- an item that passes a test; none can tell what lacks where there is no item
  abbrev pub satisfy_meaning : {E : Type 0} → (code : A → ℕ) → (Test : A → Bool → Type 0) → Errors I E → ErrorKind → Meaning I ℕ E
  satisfy_meaning code Test errs kind = first_item_meaning code Test errs (OfKind kind) None

  -- any item; 1 lacks where there is none
  abbrev pub anychar_meaning : {E : Type 0} → (code : A → ℕ) → Errors I E → Meaning I ℕ E
  anychar_meaning code errs = first_item_meaning code (λ x b. b ≡ true) errs (OfKind Kind.Eof) (Some 1)
