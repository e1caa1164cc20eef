-- The bytes of a buffer, where the first are used, and where more are written after them.
use Rattle.std.proofs.Common.{◌≡◌, ℕ, ◌+◌, ◌-◌, ◌≤◌, List, ◌++◌, length, take, drop, slice_range, refl, sym, ap, ◌∙◌, arith, append_assoc}
use Rattle.std.proofs.lemmas.List.{append-nil, take-take, take_at, drop_at, take-append-le, drop-append-le, drop-take, drop-drop, length-take-le, length-drop}
use lib.Seq.{take-add}

pub range_length : (xs : List ℕ) (start end : ℕ) → start ≤ end → end ≤ length xs → length (slice_range xs start end) ≡ end - start
range_length xs start end ordered within = length-take-le (end - start) (drop start xs) (omega (arith, length-drop start xs))

-- ys are written over what was after the end, and n of them are held then
grown : (xs ys others : List ℕ) (start end n : ℕ) → start ≤ end → end ≤ length xs → n ≤ length ys →
    slice_range (take end xs ++ (ys ++ others)) start (end + n) ≡ slice_range xs start end ++ take n ys
grown xs ys others start end n ordered within fits =
    let front = length-take-le end xs within in
    let held = drop start (take end xs) in
    let len : length held ≡ end - start = omega (arith, length-drop start (take end xs)) in
    let sum : end + n - start ≡ (end - start) + n = omega arith in
    let parts : end ≡ start + (end - start) = omega arith in
    let same : held ≡ take (end - start) (drop start xs) = ap (λ j. drop start (take j xs)) parts ∙ drop-take start (end - start) xs in
    let after = ys ++ others in
    ap (take (end + n - start)) (drop-append-le start (take end xs) after (omega arith)) ∙
    ap (λ j. take j (held ++ after)) sum ∙ take-add (end - start) n (held ++ after) ∙
    (rw (take_at held after _ len, drop_at held after _ len, take-append-le n ys others fits, same) refl)

kept : (xs ys others : List ℕ) (start end : ℕ) → start ≤ end → end ≤ length xs →
    slice_range (take end xs ++ (ys ++ others)) start end ≡ slice_range xs start end
kept xs ys others start end ordered within =
    let none : end ≡ end + 0 = omega arith in
    ap (slice_range (take end xs ++ (ys ++ others)) start) none ∙ grown xs ys others start end 0 ordered within (omega arith) ∙ append-nil _

-- what lies beyond a place is nothing to what lies before it
before : (xs : List ℕ) (len start end : ℕ) → start ≤ end → end ≤ len → slice_range (take len xs) start end ≡ slice_range xs start end
before xs len start end ordered within =
    let parts : len ≡ start + (len - start) = omega arith in
    ap (λ j. take (end - start) (drop start (take j xs))) parts ∙ ap (take (end - start)) (drop-take start (len - start) xs) ∙
    take-take (end - start) (len - start) (drop start xs) (omega arith)

joined : (a ys others more : List ℕ) → (a ++ (ys ++ others)) ++ more ≡ a ++ (ys ++ (others ++ more))
joined a ys others more = append_assoc a (ys ++ others) more ∙ ap (λ z. a ++ z) (append_assoc ys others more)

-- the same of a buffer of a length
pub grown_in : (len : ℕ) (xs ys others more : List ℕ) (start end n : ℕ) → start ≤ end → end ≤ length xs → n ≤ length ys → end + n ≤ len →
    slice_range (take len ((take end xs ++ (ys ++ others)) ++ more)) start (end + n) ≡ slice_range xs start end ++ take n ys
grown_in len xs ys others more start end n ordered within fits room =
    before ((take end xs ++ (ys ++ others)) ++ more) len start (end + n) (omega arith) room ∙
    ap (λ z. slice_range z start (end + n)) (joined (take end xs) ys others more) ∙ grown xs ys (others ++ more) start end n ordered within fits

pub kept_in : (len : ℕ) (xs ys others more : List ℕ) (start end : ℕ) → start ≤ end → end ≤ length xs → end ≤ len →
    slice_range (take len ((take end xs ++ (ys ++ others)) ++ more)) start end ≡ slice_range xs start end
kept_in len xs ys others more start end ordered within room =
    before ((take end xs ++ (ys ++ others)) ++ more) len start end ordered room ∙
    ap (λ z. slice_range z start end) (joined (take end xs) ys others more) ∙ kept xs ys (others ++ more) start end ordered within

-- the first count are used
pub consumed : (xs : List ℕ) (start end count : ℕ) → start + count ≤ end → slice_range xs (start + count) end ≡ drop count (slice_range xs start end)
consumed xs start end count inside =
    let parts : end - start ≡ count + (end - (start + count)) = omega arith in
    sym (ap (λ j. drop count (take j (drop start xs))) parts ∙ drop-take count _ (drop start xs) ∙
    ap (take (end - (start + count))) (drop-drop count start xs))
