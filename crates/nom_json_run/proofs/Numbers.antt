-- Where no number begins, and nothing of one is there.
use Rattle.std.specs.Prelude.{◌≡◌, ℕ, ◌+◌, ◌<◌, ◌==◌, ◌++◌, Bool, true, false, if◌then◌else◌, List, [], ◌∷◌, Option, Some, None, length, take, drop}
use Rattle.std.proofs.Common.{arith, refl, sym, ◌∙◌, ap, subst, length-drop}
use Rattle.std.proofs.lemmas.Bool.{eqb-true}
use Rattle.std.proofs.lemmas.List.{drop-append-le, drop-take, length-take, take-append-le, take-take}
use Rattle.nom_traits.specs.Classes.{is_dec_digit_code}
use Rattle.nom_json_run.specs.Json.{Leaves, after_exponent, after_fraction, after_number, after_unsigned, and_then, begins, first_is}
use Rattle.nom_json_run.specs.Parts.{IsPart, is_mark}
use Rattle.nom_json_run.specs.Scans.{BeginsAs, EndsNowhere, FailsAt}
use Rattle.nom_json_run.specs.declared.bracket.Fault.{Fault}
use Rattle.nom_json_run.specs.declared.bracket.Missing.TheVariants as Missing

not_true : (t : Bool) → (t ≡ true → ⊥) → t ≡ false
not_true true f = absurd (f refl)
not_true false f = refl

-- a digit is a number
no_minus : (b : ℕ) → is_dec_digit_code b ≡ true → (b == 45) ≡ false
no_minus b d = grind (arith, d)

either_way : (t : Bool) (o : Option (List ℕ)) → (if t then o else o) ≡ o
either_way true o = refl
either_way false o = refl

abbrev after_integer_part : List ℕ → Option (List ℕ)
after_integer_part cs = and_then (after_fraction cs) after_exponent

one_digit : (b : ℕ) → is_dec_digit_code b ≡ true → after_number (b ∷ []) ≡ Some []
one_digit b d =
    let e = no_minus b d in
    let first : after_number (b ∷ []) ≡ after_unsigned (b ∷ []) = ap (λ t. after_unsigned (if t then [] else b ∷ [])) e in
    let digit : after_unsigned (b ∷ []) ≡ and_then (if b == 48 then Some [] else Some []) after_integer_part =
    ap (λ t. and_then (if b == 48 then Some [] else (if t then Some [] else None)) after_integer_part) d in
    first ∙ (digit ∙ ap (λ o. and_then o after_integer_part) (either_way (b == 48) (Some [])))

-- bytes that go on after the one at a place
module _ (bytes : List ℕ) (at : ℕ) (less : at < length bytes) (more : List ℕ) where
  abbrev other_bytes : List ℕ
  other_bytes = take (at + 1) bytes ++ more

  some_taken : length (take (at + 1) bytes) ≡ at + 1
  some_taken = omega (arith, less, length-take (at + 1) bytes)

  begin_so : BeginsAs bytes at other_bytes
  begin_so = take-append-le (at + 1) (take (at + 1) bytes) more (omega (arith, some_taken)) ∙ take-take (at + 1) (at + 1) bytes (omega arith)

  go_on : drop at other_bytes ≡ take 1 (drop at bytes) ++ more
  go_on = drop-append-le at (take (at + 1) bytes) more (omega (arith, some_taken)) ∙ ap (λ xs. xs ++ more) (drop-take at 1 bytes)

module _ (bytes : List ℕ) (at : ℕ) (fails : (bs : List ℕ) → BeginsAs bytes at bs → EndsNowhere (Leaves after_number (drop at bs))) where
  nowhere : at < length bytes → (more : List ℕ) → after_number (take 1 (drop at bytes) ++ more) ≡ Some [] → ⊥
  nowhere less more e = fails (other_bytes bytes at less more) (begin_so bytes at less more) [] (ap after_number (go_on bytes at less more) ∙ e)

  none_begins : (i : List ℕ) → i ≡ drop at bytes → (first_is is_dec_digit_code i ≡ false) × (begins 45 i ≡ false)
  none_begins [] e = (refl, refl)
  none_begins (b ∷ bs) e =
      let less : at < length bytes = omega (arith, ap length e, length-drop at bytes) in
      let here : (more : List ℕ) → after_number (b ∷ more) ≡ Some [] → ⊥ =
      λ more f. nowhere less more (ap (λ xs. after_number (take 1 xs ++ more)) (sym e) ∙ f) in (
        not_true (is_dec_digit_code b) (λ d. here [] (one_digit b d)),
        not_true (b == 45) (λ m. here (48 ∷ []) (ap (λ c. after_number (c ∷ 48 ∷ [])) (eqb-true b 45 m))),
      )

-- of a number of which nothing is there a value is missing
module _ (bytes : List ℕ) (at : ℕ) (fault other : Fault) (same : other.at ≡ fault.at) (mark : first_is is_mark (drop at bytes) ≡ false)
    (failed : FailsAt bytes (λ i. EndsNowhere (Leaves after_number i)) at fault) where
  part_by : (t : Bool) → (fault.at == at) ≡ t → other.missing ≡ (if t then Missing.Value else fault.missing) → IsPart other.missing (drop fault.at bytes)
  part_by true e m =
      let here : fault.at ≡ at = eqb-true fault.at at e in
      let fails : (bs : List ℕ) → BeginsAs bytes at bs → EndsNowhere (Leaves after_number (drop at bs)) =
      λ bs s. failed.fails bs (subst (λ n. BeginsAs bytes n bs) (sym here) s) in
      let none = none_begins bytes at fails (drop at bytes) refl in
      subst (λ p. IsPart p (drop fault.at bytes)) (sym m) (subst (λ n. IsPart Missing.Value (drop n bytes)) (sym here) (mark, none.0, none.1))
  part_by false e m = subst (λ p. IsPart p (drop fault.at bytes)) (sym m) failed.part

  pub value_part : other.missing ≡ (if fault.at == at then Missing.Value else fault.missing) → IsPart other.missing (drop other.at bytes)
  value_part m = subst (λ n. IsPart other.missing (drop n bytes)) (sym same) (part_by (fault.at == at) refl m)
