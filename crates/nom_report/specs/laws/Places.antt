-- The laws of places that are told by what is left.
use Rattle.std.specs.Prelude.{◌≡◌, ℕ, ◌+◌, ◌-◌, ◌<◌, ◌^◌, List, length, chars}
use Rattle.std.specs.Borrow.{Bor}
use Rattle.std.proofs.Common.{arith, ◌∙◌, ap}
use Rattle.nom_traits.specs.Input.{Model, items_len, IsSuffixOf}
use Rattle.nom_traits.specs.Rests.{items_len-append, items_len-ones}
use Rattle.nom_traits.specs.Bytes.{bytes_model}
use Rattle.nom_traits.specs.Text.{text_model, items_len-text}

-- how much further a rest lies, of an input of a length, below a bound
further : {I A : Type 0} (w : Model I A) (i j : I) (n most : ℕ) → IsSuffixOf w i n j → items_len w.item_len (w.elements i) < most →
    most - items_len w.item_len (w.elements j) ≡ (most - items_len w.item_len (w.elements i)) + n
further w i j n most p h =
    let e = ap (items_len w.item_len) p.whole ∙ items_len-append w.item_len p.front (w.elements j) in
    omega (arith, e, p.length_is, h)

place_of : (n m most : ℕ) → n ≡ m → most - n ≡ most - m
place_of n m most e = ap (λ k. most - k) e

pub bytes_rests : (i j : Bor (List ℕ)) (n : ℕ) → bytes_model.IsKnown i → IsSuffixOf bytes_model i n j →
    2 ^ 63 - length j.now ≡ (2 ^ 63 - length i.now) + n
bytes_rests i j n k p =
    let of_i = items_len-ones i.now in
    let of_j = items_len-ones j.now in
    let h = further bytes_model i j n (2 ^ 63) p (omega (arith, of_i, k.1)) in
    omega (arith, of_i, of_j, h)

pub text_rests : (i j : Bor (List ℕ)) (n : ℕ) → text_model.IsKnown i → IsSuffixOf text_model i n j →
    2 ^ 63 - length j.now ≡ (2 ^ 63 - length i.now) + n
text_rests i j n k p =
    let of_i = items_len-text (chars i.now) ∙ ap length k.2 in
    let of_j = items_len-text (chars j.now) ∙ ap length p.known.2 in
    let h = further text_model i j n (2 ^ 63) p (omega (arith, of_i, k.1)) in
    omega (arith, of_i, of_j, h)
