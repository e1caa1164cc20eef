-- Laws of reading back hexadecimal digits.
use Rattle.std.specs.Prelude.{◌≡◌, ℕ, ◌+◌, ◌*◌, ◌^◌, ◌<◌, ◌≤◌, Bool, true, false, ltb, List, [], ◌∷◌, length, map, take, Some, None, zero, suc, refl}
use Rattle.std.specs.List.{All}
use Rattle.std.proofs.Common.{arith, sym, ◌∙◌, ap, subst}
use Rattle.std.proofs.lemmas.Bool.{ltb-false, ltb-true}
use Rattle.std.proofs.lemmas.List.{length-map, take_all}
use Rattle.std.proofs.lemmas.List.Elements.{All-cons, All-head, All-nil, All-tail}
use Rattle.nom_error.specs.declared.kind.ErrorKind.TheVariants as Kind
use Rattle.nom_internal.specs.Prelude.{Accept, AreValues, Errors, Model, Passes, digits_after, has_code, items_len, valued, value_of}
use Rattle.nom_traits.specs.declared.character.AsciiClass.TheVariants as Class
use Rattle.nom_character.specs.ClassRuns.{IsOf, class_lawful, class_meaning, wanted_error, wanted_grows}
use Rattle.nom_number_text.specs.Hex.{FirstEight, hex_meaning, hex_number, hex_value}
use Rattle.nom_sink.specs.Numerals.{AreDigitsOf, digit_code}
use Rattle.nom_write.specs.Reads.{Reads}
use Rattle.nom_write.specs.Runs.{BeginsOther}
use Rattle.nom_write.specs.laws.RunReads.{run_items}

-- the codes of digits, and their values
hex_code : (d : ℕ) → d < 16 → has_code Class.HexDigit (digit_code d) ≡ true
hex_code d h = grind (arith, h)

hex_code_value : (d : ℕ) → d < 16 → hex_value (digit_code d) ≡ d
hex_code_value d h = grind (arith, h)

-- a number that digits follow, each of which makes it sixteen times as large
abbrev sixteen_times : (count : ℕ) → ℕ → ℕ
sixteen_times zero n = n
sixteen_times (suc count) n = sixteen_times count (16 * n)

grows : (count b v : ℕ) (ds : List ℕ) → b ≤ v → count ≤ length ds → sixteen_times count b ≤ digits_after 16 v ds
grows zero b v [] h k = h
grows zero b v (d ∷ ds) h k = grows zero b (16 * v + d) ds (omega (arith, h)) (omega arith)
grows (suc count) b v [] h k = absurd (omega (arith, k))
grows (suc count) b v (d ∷ ds) h k = grows count (16 * b) (16 * v + d) ds (omega (arith, h)) (omega (arith, k))

-- a number of 32 bits has eight digits at most
at_most_eight : (n : ℕ) (ds : List ℕ) → n < 2 ^ 32 → value_of 16 ds ≡ n → (0 < n → (es : List ℕ) → ds ≡ 0 ∷ es → ⊥) → (n ≡ 0 → ds ≡ 0 ∷ []) → length ds ≤ 8
at_most_eight zero ds below value none alone = omega (arith, ap length (alone refl))
at_most_eight (suc n) [] below value none alone = omega arith
at_most_eight (suc n) (zero ∷ ds) below value none alone = absurd (none (omega arith) ds refl)
at_most_eight (suc n) (suc d ∷ ds) below value none alone = few (ltb (length ds) 8) refl
  where
    few : (b : Bool) → ltb (length ds) 8 ≡ b → length (suc d ∷ ds) ≤ 8
    few true e = omega (arith, ltb-true (length ds) 8 e)
    few false e = absurd (omega (arith, below, value, grows 8 1 (16 * 0 + suc d) ds (omega arith) (ltb-false (length ds) 8 e)))

module _ {A : Type 0} (code : A → ℕ) (item_of : ℕ → A) (coded : (n : ℕ) → code (item_of n) ≡ n) where
  abbrev IsHex : A → Bool → Type 0
  IsHex = IsOf code Class.HexDigit

  abbrev items : List ℕ → List A
  items ds = map (λ d. item_of (digit_code d)) ds

  all_digits : (ds : List ℕ) → All (λ d. d < 16) ds → All (λ x. IsHex x true) (items ds)
  all_digits [] h = All-nil (λ x. IsHex x true)
  all_digits (d ∷ ds) h = All-cons (λ x. IsHex x true) (item_of (digit_code d)) (items ds)
      (ap (λ n. has_code Class.HexDigit n) (coded (digit_code d)) ∙ hex_code d (All-head (λ d. d < 16) d ds h)) (all_digits ds (All-tail (λ d. d < 16) d ds h))

  values : (ds : List ℕ) → All (λ d. d < 16) ds → map (λ x. hex_value (code x)) (items ds) ≡ ds
  values [] h = refl
  values (d ∷ ds) h = ap (λ z. z ∷ map (λ x. hex_value (code x)) (items ds))
      (ap hex_value (coded (digit_code d)) ∙ hex_code_value d (All-head (λ d. d < 16) d ds h)) ∙
      ap (λ zs. d ∷ zs) (values ds (All-tail (λ d. d < 16) d ds h))

  pub hex_reads : {I E : Type 0} (w : Model I A) (IsValue : A → Type 0) → ((i : I) → w.IsKnown i → AreValues IsValue (w.elements i)) →
      (errs : Errors I E) → Reads w (valued (hex_meaning w code errs)) (λ v xs. (v < 2 ^ 32) × AreDigitsOf item_of 16 v xs) (BeginsOther IsHex)
  hex_reads w IsValue values_of errs = record {
    reads = λ v xs f s. record {
      read = λ i rest o known e next a.
          let d = f.1 in
          let digits = subst (λ z. All (λ x. IsHex x true) z) (sym d.items) (all_digits d.digits d.below) in
          let count : length xs ≡ length d.digits = ap length d.items ∙ length-map d.digits (λ d. item_of (digit_code d)) in
          let run = run_items w IsHex 1 None (wanted_error errs (Some Kind.IsA)) (wanted_grows errs (Some Kind.IsA))
          (class_lawful w IsValue values_of code errs Class.HexDigit (Some Kind.IsA)) s xs digits (omega (arith, count, d.some)) tt (λ t. t.items ≡ xs)
          (λ t e. e) in
          let q = run.read i rest a.outcome known e next (subst (λ z. (class_meaning w code errs Class.HexDigit (Some Kind.IsA)).answers s z a.outcome)
          (sym a.at_is) a.answered) in
          let all : take 8 q.0.items ≡ xs = ap (λ z. take 8 z) q.2 ∙ take_all 8 xs (omega (
            arith,
            count,
            at_most_eight v d.digits f.0 d.number d.none_before d.alone,
          )) in
          let eight = subst (λ z. Passes (FirstEight w code i) z o) q.1 a.fact in
          let number : hex_number code xs ≡ v = ap (λ z. hex_number code z) d.items ∙ (ap (value_of 16) (values d.digits d.below) ∙ d.number) in (
            v,
            eight.1 ∙ (ap (λ z. Accept (items_len w.item_len z) (hex_number code z)) all ∙ ap (λ z. Accept (items_len w.item_len xs) z) number),
            refl,
          );
    };
  }
