-- Items that are moved within the front of a slice.
use Rattle.std.proofs.Common.{arith, ◌≡◌, ℕ, zero, suc, ◌+◌, ◌-◌, ◌<◌, ◌≤◌, List, [], ◌∷◌, ◌++◌, length, take, drop, refl, sym, ◌∙◌, ap}
use Rattle.std.proofs.Common.{length-append, length-drop}
use Rattle.std.proofs.lemmas.List.{drop-take, length-take-le, take-take}
use Rattle.std.proofs.lemmas.Slice.{take-put_mid}
use borrow.Rule.Slice.PartMut.{put_mid}
use Rattle.nom_sink.specs.Written.{moved_behind}

-- a front is known by its length
front_is : {A : Type 0} (n u : ℕ) (xs : List A) → u ≤ n → (u < n → length xs ≤ u) → take n xs ≡ take u xs
front_is zero zero xs h k = refl
front_is zero (suc u) xs h k = absurd (omega (arith, h))
front_is (suc n) zero [] h k = refl
front_is (suc n) zero (x ∷ xs) h k = absurd (omega (arith, k (omega arith)))
front_is (suc n) (suc u) [] h k = refl
front_is (suc n) (suc u) (x ∷ xs) h k = ap (λ z. x ∷ z) (front_is n u xs (omega (arith, h)) (λ b. omega (arith, k (omega (arith, b)))))

-- a slice keeps its length when a part of it is put anew
pub same_length : {A : Type 0} (a k : ℕ) (xs ys : List A) → a + k ≤ length xs → length ys ≡ k → length (put_mid a k xs ys) ≡ length xs
same_length a k xs ys within long = omega (
  arith,
  length-append (take a xs) (ys ++ drop k (drop a xs)),
  length-append ys (drop k (drop a xs)),
  long,
  within,
  length-take-le a xs (omega (arith, within)),
  length-drop k (drop a xs),
  length-drop a xs,
)

pub moved_front : {A : Type 0} (buf new : List A) (used u s m : ℕ) → u ≤ used → u ≤ length buf → (u < used → length buf ≤ u) → s ≤ u →
    length new ≡ u - s →
    new ≡ drop (m - s) (take (u - s) (drop s buf)) ++ take (m - s) (take (u - s) (drop s buf)) →
    take used (put_mid s (u - s) buf new) ≡ moved_behind s m (take used buf)
moved_front buf new used u s m h k all within long is =
    let front : take used buf ≡ take u buf = front_is used u buf h all in
    let begins : take s (take u buf) ≡ take s buf = take-take s u buf within in
    let inner : drop s (take u buf) ≡ take (u - s) (drop s buf) =
    ap (λ n. drop s (take n buf)) {x = u} {y = s + (u - s)} (omega (arith, within)) ∙ drop-take s (u - s) buf in
    let same : length (put_mid s (u - s) buf new) ≡ length buf = same_length s (u - s) buf new (omega (arith, within, k)) long in
    let left : take used (put_mid s (u - s) buf new) ≡ take s buf ++ new =
    front_is used u (put_mid s (u - s) buf new) h (λ b. omega (arith, all b, same)) ∙ take-put_mid s (u - s) buf new u (omega (arith, long, within))
    (omega (arith, within, k)) in
    left ∙ (ap (λ z. take s buf ++ z) is ∙ sym (ap (λ z. moved_behind s m z) front ∙
    (ap (λ z. z ++ (drop (m - s) (drop s (take u buf)) ++ take (m - s) (drop s (take u buf)))) begins ∙
    ap (λ z. take s buf ++ (drop (m - s) z ++ take (m - s) z)) inner)))
