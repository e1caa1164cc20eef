-- Lemmas on the answers of a decimal integer.
use Rattle.std.proofs.Common.{◌≡◌, ℕ, ◌+◌, ◌<◌, Bool, true, false, Option, Ok, List, [], ◌∷◌, ◌++◌, length, refl, sym, ◌∙◌, ap, subst, arith}
use Rattle.std.specs.Prelude.{ℤ}
use Rattle.nom_internal.specs.Prelude.{Modes, Built, Errors, Model, items_len, IsBoundary, IsSuffixOf, InputLaws, items_len-append, rest_rest, ShowsMeaning}
use Rattle.nom_internal.proofs.Shown.{accepted}
use Rattle.nom_character_integer.specs.declared.integer.Unsigned.{Unsigned}
use Rattle.nom_character_integer.specs.declared.integer.Number.{Number}
use Rattle.nom_character_integer.specs.Integers.{digits_of, after_digits, decimal_number, with_sign, sign_of, is_negative, integer_of, integer_digits}
use Rattle.nom_character_integer.specs.Integers.{after_integer}
use Rattle.nom_character_integer.specs.Integers.{IsEnded, integer_meaning}
use Rattle.nom_character_integer.specs.laws.IntegerLaws.{digits_whole}
use Rattle.nom_character_integer.specs.Read.{AfterSign, IsRead, IsUnfit}

module _ {I A T : Type 0} (w : Model I A) (l : InputLaws w) (code : A → ℕ) (signed : Bool) (value : T → ℤ) (fits : ℤ → Type 0) (i : I) (u : Unsigned I)
    (b : AfterSign w code signed i u) where
  -- what is said of the list after the sign is said of the input
  same_integer : with_sign u.negative (decimal_number code (digits_of code (w.elements u.digits))) ≡ integer_of code signed (w.elements i)
  same_integer = ap (λ s. with_sign s (decimal_number code (digits_of code (w.elements u.digits)))) b.negative_is ∙
      ap (λ xs. with_sign (is_negative code signed (w.elements i)) (decimal_number code (digits_of code xs))) b.elements_are

  same_digits : digits_of code (w.elements u.digits) ≡ integer_digits code signed (w.elements i)
  same_digits = ap (digits_of code) b.elements_are

  same_after : after_digits code (w.elements u.digits) ≡ after_integer code signed (w.elements i)
  same_after = ap (after_digits code) b.elements_are

  pub unfit : IsUnfit w code fits u.negative u.digits → ¬ (fits (integer_of code signed (w.elements i)))
  unfit h f = h (subst fits (sym same_integer) f)

  module _ (n : Number T) (r : IsRead w code value fits u.negative u.digits n) where
    integer_is : value n.value ≡ integer_of code signed (w.elements i)
    integer_is = r.value_is ∙ same_integer

    pub integer_fits : fits (integer_of code signed (w.elements i))
    integer_fits = subst fits integer_is r.fitting

    pub digits_place : IsBoundary w u.digits n.length
    digits_place = record {
      front = digits_of code (w.elements u.digits);
      rest = after_digits code (w.elements u.digits);
      whole =
          digits_whole code (w.elements u.digits);
      length_is = sym r.length_is;
    }

    none_after : (xs : List A) → (0 < length xs → ⊥) → length xs ≡ 0
    none_after [] h = refl
    none_after (x ∷ xs) h = absurd (h (omega arith))

    pub unfollowed : n.followed ≡ false → length (after_integer code signed (w.elements i)) ≡ 0
    unfollowed h = none_after (after_integer code signed (w.elements i)) (λ p. not_followed (r.followed_is.1 (subst (λ xs. 0 < length xs) (sym same_after) p)))
      where
        not_followed : n.followed ≡ true → ⊥
        not_followed e = cc (e, h)

    pub ended : (s : Bool) → (n.followed ≡ false → s ≡ false) → IsEnded w code signed fits s (w.elements i)
    ended s h e = subst (λ xs. 0 < length xs) same_after (r.followed_is.0 (followed n.followed h))
      where
        followed : (f : Bool) → (f ≡ false → s ≡ false) → f ≡ true
        followed true k = refl
        followed false k = absurd (cc (e, k refl))

    pub no_digits : n.length ≡ 0 → length (integer_digits code signed (w.elements i)) ≡ 0
    no_digits e = none (integer_digits code signed (w.elements i)) (sym (ap (items_len w.item_len) same_digits) ∙ (sym r.length_is ∙ e))
      where
        none : (xs : List A) → items_len w.item_len xs ≡ 0 → length xs ≡ 0
        none [] h = refl
        none (x ∷ xs) h = absurd (omega (arith, h, l.positive x))

    pub some_digits : (n.length ≡ 0 → ⊥) → 0 < length (integer_digits code signed (w.elements i))
    some_digits h = some (integer_digits code signed (w.elements i)) (λ e. h (r.length_is ∙ (ap (items_len w.item_len) same_digits ∙ e)))
      where
        some : (xs : List A) → (items_len w.item_len xs ≡ 0 → ⊥) → 0 < length xs
        some [] k = absurd (k refl)
        some (x ∷ xs) k = omega arith

    module _ (mode : Modes) (j : I) (rest : IsSuffixOf w u.digits n.length j) where
      abbrev place : ℕ
      place = items_len w.item_len (sign_of code signed (w.elements i)) + n.length

      rest_is : IsSuffixOf w i place j
      rest_is = rest_rest w l i (items_len w.item_len (sign_of code signed (w.elements i))) u.digits n.length j b.rest_is rest

      place_is : place ≡ items_len w.item_len (sign_of code signed (w.elements i) ++ integer_digits code signed (w.elements i))
      place_is = omega (
        arith,
        r.length_is,
        ap (items_len w.item_len) same_digits,
        items_len-append w.item_len (sign_of code signed (w.elements i)) (integer_digits code signed (w.elements i)),
      )

      -- a number that was read is accepted
      pub integer_shown : {E : Type 0} (errs : Errors I E) (x : Option T) → (n.followed ≡ false → mode.streaming ≡ false) → (n.length ≡ 0 → ⊥) →
          Built mode.outputs (λ y. y ≡ n.value) x → ShowsMeaning w (λ z y. value y ≡ z) (integer_meaning w code signed fits errs) mode i (Ok (j, x))
      integer_shown errs x h k built =
          accepted (integer_of code signed (w.elements i)) rest_is (place_is, refl, integer_fits, some_digits k, ended mode.streaming h)
          (of_value mode.outputs x built)
        where
          of_value : (o : Bool) (x : Option T) → Built o (λ y. y ≡ n.value) x → Built o (λ y. value y ≡ integer_of code signed (w.elements i)) x
          of_value true x b = (b.0, b.1, ap value b.2 ∙ integer_is)
          of_value false x b = b
