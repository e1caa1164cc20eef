use Rattle.std.proofs.Common.{◌≡◌, ℕ, ◌+◌, ◌*◌, ◌<◌, ◌≤◌, List, [], ◌∷◌, length, get_or, sym, ◌∙◌, ap, subst, arith}
use Rattle.std.specs.Prelude.{cond}
use Rattle.std.specs.Char.{digit_value}
use Rattle.std.specs.Str.Parse.{digits_value}
use Rattle.std.proofs.lemmas.Str.{encodes-chars}
use Rattle.std.proofs.lemmas.Bool.{ne_eqb}
use Rattle.example_json.specs.Strings.{number_of_four}
use Rattle.example_json.proofs.strings.four.Goals as goal

-- the number of four bytes, and of others
four_bytes : (bs : List ℕ) → 4 ≤ length bs → length bs < 5 →
    4096 * digit_value (get_or bs 0 0) + 256 * digit_value (get_or bs 1 0) + 16 * digit_value (get_or bs 2 0) + digit_value (get_or bs 3 0) ≡ number_of_four bs
four_bytes [] h k = absurd (omega (arith, h))
four_bytes (a ∷ []) h k = absurd (omega (arith, h))
four_bytes (a ∷ (b ∷ [])) h k = absurd (omega (arith, h))
four_bytes (a ∷ (b ∷ (c ∷ []))) h k = absurd (omega (arith, h))
four_bytes (a ∷ (b ∷ (c ∷ (d ∷ [])))) h k = omega arith
four_bytes (a ∷ (b ∷ (c ∷ (d ∷ (f ∷ bs))))) h k = absurd (omega (arith, k))

other_bytes : (bs : List ℕ) → (length bs ≡ 4 → ⊥) → 0 ≡ number_of_four bs
other_bytes bs h = sym (ap (λ t. cond t (digits_value 16 bs) 0) (ne_eqb (length bs) 4 h))

pub returns-in-len4-clause-value : goal.returns-in-len4-clause-value
returns-in-len4-clause-value c =
    let told = four_bytes c.as_bytes.result.now c.in-len4.len_at_least c.in-len4.len_below in
    let sum : 4096 * c.digit.result + 256 * c.digit-in-len4.result + 16 * c.digit-in-len4-2.result + c.digit-in-len4-3.result ≡
    number_of_four c.as_bytes.result.now =
    omega (arith, told, c.digit.ensures.value, c.digit-in-len4.ensures.value, c.digit-in-len4-2.ensures.value, c.digit-in-len4-3.ensures.value) in
    subst (λ bs. 4096 * c.digit.result + 256 * c.digit-in-len4.result + 16 * c.digit-in-len4-2.result + c.digit-in-len4-3.result ≡
    number_of_four bs) (c.as_bytes.ensures.value ∙ sym (encodes-chars c.args.digits.now c.utf8.digits)) sum

pub returns-in_default-clause-value : goal.returns-in_default-clause-value
returns-in_default-clause-value c =
    let none = other_bytes c.as_bytes.result.now (λ e. omega (arith, e, c.in_default.len_below)) in
    subst (λ bs. 0 ≡ number_of_four bs) (c.as_bytes.ensures.value ∙ sym (encodes-chars c.args.digits.now c.utf8.digits)) none

pub returns-in_default-2-clause-value : goal.returns-in_default-2-clause-value
returns-in_default-2-clause-value c =
    let none = other_bytes c.as_bytes.result.now (λ e. omega (arith, e, c.in_default.len_at_least)) in
    subst (λ bs. 0 ≡ number_of_four bs) (c.as_bytes.ensures.value ∙ sym (encodes-chars c.args.digits.now c.utf8.digits)) none
