-- The laws of numbers in base 16.
use Rattle.std.specs.Prelude.{◌≡◌, ℕ, true, false, ◌++◌, take, drop, Some, refl}
use Rattle.std.proofs.Common.{sym, ◌∙◌, ap, subst, append_assoc}
use Rattle.std.proofs.lemmas.List.{take-append-drop}
use Rattle.nom_error.specs.declared.kind.ErrorKind.TheVariants as Kind
use Rattle.nom_internal.specs.Prelude.{Errors, Model, AreValues, IsBoundary, items_len, Slice, IsFirst, first_related, Cause, Accept, Stop, Fails, Passes}
use Rattle.nom_internal.specs.Prelude.{plain_case}
use Rattle.nom_traits.specs.declared.character.AsciiClass.TheVariants as Class
use Rattle.nom_internal.specs.laws.CaseLaws.{CaseLaws, case_lawful, case_steady}
use Rattle.nom_internal.specs.laws.RecognizedLaws.{AcceptLaws, plain_laws}
use Rattle.nom_character.specs.ClassRuns.{class_lawful, class_steady}
use Rattle.nom_number_text.specs.laws.FloatLaws.{IsStream}
use Rattle.nom_number_text.specs.Hex.{FirstEight, hex_meaning}

module _ {I A : Type 0} (w : Model I A) (code : A → ℕ) where
  -- the first eight of a front are a front
  pub eight_place : (i : I) (n : ℕ) (t : Slice w) → IsFirst w i n t → IsBoundary w i (items_len w.item_len (take 8 t.items))
  eight_place i n t p = record {
    front = take 8 t.items;
    rest = drop 8 t.items ++ p.rest;
    whole = p.whole ∙ (ap (λ xs. xs ++ p.rest) (sym (take-append-drop 8 t.items)) ∙ append_assoc (take 8 t.items) (drop 8 t.items) p.rest);
    length_is = refl;
  }

  never_eight : (cause : Cause) (i : I) (n : ℕ) (t : Slice w) → FirstEight w code i n t (Stop (Fails cause)) → ⊥
  never_eight cause i n t s = absurd (cc (s.1))

  accepted_place : (i : I) (m n : ℕ) (t : Slice w) (v : ℕ) → FirstEight w code i m t (Accept n v) → IsBoundary w i n
  accepted_place i m n t v s = let same : items_len w.item_len (take 8 t.items) ≡ n = cc (s.1) in subst (λ z. IsBoundary w i z) same (eight_place i m t s.0)

  eight_laws : AcceptLaws w (FirstEight w code)
  eight_laws = record {
    same = λ longer x y n t o p kx ky r s k u. s.1 ∙ sym u.1;
    consistent = λ x y n t o kx ky r s. (first_related w false x y n t r s.0, s.1);
    place = λ i m n t v h p s. accepted_place i m n t v s;
    never_fails = λ cause i n t s. never_eight cause i n t s;
  }

  module _ (IsValue : A → Type 0) (values : (i : I) → w.IsKnown i → AreValues IsValue (w.elements i)) {E : Type 0} (errs : Errors I E) where
    hex_laws : CaseLaws {E = E} true w w (plain_case (λ _. true) (λ i. Passes (FirstEight w code i)))
    hex_laws = plain_laws w (FirstEight w code) eight_laws (λ _. true)

    pub hex_stream : IsStream w (hex_meaning w code errs)
    hex_stream =
        record {
          lawful = case_lawful hex_laws (class_lawful w IsValue values code errs Class.HexDigit (Some Kind.IsA));
          steady = case_steady hex_laws refl (class_steady w IsValue values code errs Class.HexDigit (Some Kind.IsA));
        }
