-- The mark after the items that a rest lies after.
use Rattle.std.proofs.Common.{◌≡◌, ℕ, sym, ◌∙◌}
use Rattle.nom_internal.specs.Prelude.{Model, InputLaws, IsPrefixOf, IsSuffixOf, same_cut}

-- the items of a front are those that its rest lies after
pub passed : {I A : Type 0} (w : Model I A) → InputLaws w → (i : I) (n : ℕ) (f j : I) → IsPrefixOf w i n f → (q : IsSuffixOf w i n j) → w.elements f ≡ q.front
passed w l i n f j p q =
    let cut = same_cut w.item_len l.positive (w.elements f) p.rest q.front (w.elements j) (sym p.whole ∙ q.whole) (p.length_is ∙ sym q.length_is) in
    cut.0
