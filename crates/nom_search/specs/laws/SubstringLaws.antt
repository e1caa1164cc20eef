-- The laws of a search for the first place of a needle.
use Rattle.std.specs.Prelude.{◌≡◌, ℕ, ◌≤◌, ◌⊎◌, List, [], ◌∷◌, ◌++◌, Option, Some, None, refl}
use Rattle.std.specs.Borrow.{Bor}
use Rattle.std.specs.Char.{len_utf8}
use Rattle.std.proofs.Common.{arith, sym, ◌∙◌, ap, subst, inl, inr, append_assoc}
use Rattle.nom_traits.specs.Input.{Model, items_len}
use Rattle.nom_traits.specs.Rests.{items_len-append}
use Rattle.nom_traits.specs.Bytes.{bytes_model}
use Rattle.nom_traits.specs.CompareTags.{one_longer}
use Rattle.nom_traits.specs.Text.{text_model}
use Rattle.nom_search.specs.Substrings.{FindLaws, IsFoundAt, FindsFirst, FindsBytes}

module _ {A : Type 0} (item_len : A → ℕ) (t : List A) where
  one_result : (xs : List A) (r s : Option ℕ) → FindsFirst item_len t xs r → FindsFirst item_len t xs s → r ≡ s
  one_result xs (Some n) (Some m) h k = ap Some (omega (arith, h.1 m k.0, k.1 n h.0))
  one_result xs (Some n) None h k = absurd (k n h.0)
  one_result xs None (Some m) h k = absurd (h m k.0)
  one_result xs None None h k = refl

  stands_more : (xs more : List A) (n : ℕ) → IsFoundAt item_len t xs n → IsFoundAt item_len t (xs ++ more) n
  stands_more xs more n s = record {
    before = s.before;
    rest = s.rest ++ more;
    whole = ap (λ ys. ys ++ more) s.whole ∙ (append_assoc s.before (t ++ s.rest) more ∙ ap (λ ys. s.before ++ ys) (append_assoc t s.rest more));
    length_is = s.length_is;
  }

  -- a needle that stands before the end of a place found stands in the shorter list
  least_more : (xs more : List A) (n m : ℕ) → FindsFirst item_len t xs (Some n) → IsFoundAt item_len t (xs ++ more) m → n ≤ m
  least_more xs more n m h k =
      elim (one_longer (k.before ++ t) xs k.rest more (append_assoc k.before t k.rest ∙ sym k.whole)) [
        | inl j ↦ h.1 m (record { before = k.before; rest = j.0; whole = j.1 ∙ append_assoc k.before t j.0; length_is = k.length_is })
        | inr j ↦
            let s = h.0 in
            omega (
              arith,
              s.length_is,
              k.length_is,
              ap (items_len item_len) s.whole,
              ap (items_len item_len) j.2,
              items_len-append item_len k.before t,
              items_len-append item_len xs (j.0 ∷ j.1),
              items_len-append item_len s.before (t ++ s.rest),
              items_len-append item_len t s.rest,
            )
      ]

  found_more : (xs more : List A) (n : ℕ) → FindsFirst item_len t xs (Some n) → FindsFirst item_len t (xs ++ more) (Some n)
  found_more xs more n h = (stands_more xs more n h.0, λ m k. least_more xs more n m h k)

pub first_finding : {I A : Type 0} (w : Model I A) → FindLaws {T = List A} w (FindsFirst w.item_len)
first_finding {A = A} w = record {
  one = λ t i r s u h k. one_result w.item_len t (w.elements i) r s h k;
  place = λ t i n u h. let s = h.0 in record { front = s.before; rest = t ++ s.rest; whole = s.whole; length_is = s.length_is };
  found_stays = λ t x y n h k e f. subst (λ xs. FindsFirst w.item_len t xs (Some n)) (sym e.whole) (found_more w.item_len t (w.elements x) e.more n f);
}

pub bytes_finding : FindLaws {I = Bor (List ℕ)} {T = List ℕ} bytes_model FindsBytes
bytes_finding = first_finding bytes_model

pub text_finding : FindLaws {I = Bor (List ℕ)} {T = List ℕ} text_model (FindsFirst len_utf8)
text_finding = first_finding text_model
