-- Lemmas on the comparison of an input with a tag.
use Rattle.std.proofs.Common.{◌≡◌, ℕ, ◌-◌, ◌<◌, Bool, true, false, List, Ok, Err, Option, Some, refl, sym, ◌∙◌, ap, subst, arith}
use Rattle.nom_internal.specs.Prelude.{Needed, Incomplete, PResult, size_of, Errors, Built, Modes, CompareResult, Model, IsBoundary, IsSuffixOf, input_len}
use Rattle.nom_internal.specs.Prelude.{Slice, IsFirst, IsModelledBy, place_first, CompareLaws, ShowsMeaning}
use Rattle.nom_traits.specs.declared.compare.CompareResult.TheVariants as Compared
use Rattle.nom_internal.proofs.Shown.{accepted, undecided}
use Rattle.nom_bytes.specs.Tags.{compares_by, tag_meaning}

-- the laws hold of both ways to compare
pub comparing_by : {I A T : Type 0} {w : Model I A} {size : T → ℕ} {Compares Ignores : T → List A → CompareResult → Type 0} →
    CompareLaws w size Compares → CompareLaws w size Ignores → (ignores_case : Bool) → CompareLaws w size (compares_by Compares Ignores ignores_case)
comparing_by c d false = c
comparing_by c d true = d

module _ {I A T E : Type 0} (w : Model I A) (errs : Errors I E) (size : T → ℕ) (Compares : T → List A → CompareResult → Type 0)
    (c : CompareLaws w size Compares) (tag : T) (mode : Modes) (i : I) (known : w.IsKnown i) where
  abbrev Shows : PResult I I E → Type 0
  Shows r = ShowsMeaning w (IsModelledBy w) (tag_meaning w errs size Compares tag) mode i r

  pub tag_found : (n : ℕ) (j : I) (x : Option I) → n ≡ size tag → Compares tag (w.elements i) Compared.Ok → IsSuffixOf w i n j →
      ((t : Slice w) → IsFirst w i n t → Built mode.outputs (IsModelledBy w t) x) → Shows (Ok (j, x))
  tag_found n j x e a r built =
      let first = place_first w i n (subst (λ m. IsBoundary w i m) (sym e) (c.place tag i known a)) in
      accepted _ r (e, first, a) (built _ first)

  -- an input that ends inside the tag, of length n, is shorter
  pub tag_longer : (n m : ℕ) → n ≡ size tag → m ≡ input_len w i → Compares tag (w.elements i) Compared.Incomplete → m < n
  tag_longer n m e f a = omega (arith, e, f, c.shorter tag i known a)

  -- what is lacking of the tag is needed
  pub tag_begun : (n m : ℕ) (k : Needed) → mode.streaming ≡ true → n ≡ size tag → m ≡ input_len w i → Compares tag (w.elements i) Compared.Incomplete →
      (0 < n - m → size_of k ≡ Some (n - m)) → Shows (Err (Incomplete k))
  tag_begun n m k more e f a asks =
      let lack : n - m ≡ size tag - input_len w i = omega (arith, e, f) in
      let some : 0 < n - m = omega (arith, tag_longer n m e f a) in
      undecided (asks some ∙ ap Some lack) (more, (a, refl))
