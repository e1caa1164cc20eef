-- The first byte of an input, and the number that it writes.
use Rattle.std.proofs.Common.{◌≡◌, ℕ, ◌<◌, ◌-◌, Bool, true, false, suc, zero, List, [], ◌∷◌, ◌++◌, length, Option, Some, None, refl, sym, ◌∙◌, ap}
use Rattle.std.proofs.Common.{arith, length-append}
use Rattle.std.specs.Iterator.{AlwaysYields}
use Rattle.nom_internal.specs.Prelude.{size_of, Needed, Unknown, Built, Model, items_len, IsPrefixOf, InputLaws, IsCount, front_seen, place_slice, place_first}
use Rattle.nom_internal.specs.Prelude.{value_of}
use Rattle.nom_number.specs.Numbers.{lacking}

-- what the first call of an iterator over some items gives
first_given : {S : Type 0} (steps : S → Option ℕ → S → Type 0) (s t : S) (xs : List ℕ) (r : Option ℕ) → 0 < length xs →
    AlwaysYields steps (λ x. x) s xs → steps s r t → (b : ℕ) × (r ≡ Some b) × ((rest : List ℕ) × (xs ≡ b ∷ rest))
first_given steps s t [] r h g p = absurd (omega arith)
first_given steps s t (y ∷ ys) None h g p = absurd (g.0 t p)
first_given steps s t (y ∷ ys) (Some x) h g p = (x, refl, (ys, ap (λ z. z ∷ ys) (sym (g.1 x t p).0)))

pub first_built : {S : Type 0} (built : Bool) (steps : S → Option ℕ → S → Type 0) (s t : S) (xs : List ℕ) (r : Option ℕ) → built ≡ true →
    0 < length xs → AlwaysYields steps (λ x. x) s xs → steps s r t → Built built (λ b. (rest : List ℕ) × (xs ≡ b ∷ rest)) r
first_built true steps s t xs r e h g p = first_given steps s t xs r h g p
first_built false steps s t xs r e h g p = absurd (cc (e))

-- the byte is the value of a front of one item
pub value_first : (xs front rest : List ℕ) (b : ℕ) → xs ≡ front ++ rest → length front ≡ 1 → (more : List ℕ) × (xs ≡ b ∷ more) → b ≡ value_of 256 front
value_first xs [] rest b e h f = absurd (omega (arith, h))
value_first xs (x ∷ []) rest b e h f =
    let both : x ∷ ([] ++ rest) ≡ b ∷ f.0 = sym e ∙ f.1 in
    let same : x ≡ b = cc in
    omega (arith, same)
value_first xs (x ∷ (y ∷ ys)) rest b e h f = absurd (omega (arith, h))

pub some_more : (xs front rest : List ℕ) → xs ≡ front ++ rest → length front ≡ 1 → 0 < length xs
some_more xs front rest e h = omega (arith, ap length e, length-append front rest, h)

-- of one byte that isn't there all lacks
pub lacks_one : {A : Type 0} (item_len : A → ℕ) (xs : List A) → length xs < 1 → Some 1 ≡ lacking (1 - items_len item_len xs)
lacks_one item_len [] h = refl
lacks_one item_len (x ∷ xs) h = absurd (omega (arith, h))

-- a size of 0 is unknown
pub lacking_is : (k : Needed) (n : ℕ) → (n ≡ 0 → k ≡ Unknown) → (0 < n → size_of k ≡ Some n) → size_of k ≡ lacking n
lacking_is k zero a b = ap size_of (a refl)
lacking_is k (suc n) a b = b (omega arith)

-- what is taken of a count of items has that many
pub taken_count : {I A : Type 0} (w : Model I A) → InputLaws w → (i : I) (count n : ℕ) (v : I) → IsCount w i count n → IsPrefixOf w i n v →
    length (w.elements v) ≡ count
taken_count w l i count n v c f = ap length (front_seen w l i n v (place_slice w i n c.place) f (place_first w i n c.place)).elements_are ∙ c.count_is
