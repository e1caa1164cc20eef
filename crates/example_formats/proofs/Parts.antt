-- Lemmas on the contents of a sum's brackets, and on a sum by its parts.
use Rattle.std.proofs.Common.{◌≡◌, ℕ, ◌-◌, zero, suc, List, Err, refl, subst, arith}
use mathlib.Core.HProp.{h_prop_ext}
use mathlib.Core.Path.{fun_ext}
use Rattle.nom_error.specs.declared.answer.Err.TheVariants as Answered
use Rattle.nom_operators.specs.declared.operation.Assoc.{Assoc}
use Rattle.example_formats.specs.declared.arithmetic.Fault.TheVariants.{TooDeep}
use Rattle.example_formats.specs.Arithmetic.{Any, Grammar, Inside, Parses, Text, FormResult, Worth}
use Rattle.example_formats.specs.Arithmetic.{func_of, levels}
use Rattle.example_formats.specs.Arithmetic.{Sum, sum_by, sum_in, sum_of, view}

pub inside_more : (d : ℕ) (i : Text) (r : FormResult Worth) → (d ≡ 0 → ⊥) → Parses (sum_of (d - 1)) i r → Inside d i r
inside_more zero i r n h = absurd (n refl)
inside_more (suc d) i r n h = let e : suc d - 1 ≡ d = omega arith in subst (λ k. Parses (sum_of k) i r) e h

-- what holds of a sum by its parts holds of it
pub sum_by_parts : {F : Type 0} (pre : F → Text → Type 0) (post : F → Text → FormResult Worth → Type 0) (P : Grammar Sum Worth → Type 0) {groups : List Assoc}
    {opens closes : ℕ} {f inside : F} → groups ≡ levels → opens ≡ 40 → closes ≡ 41 → f ≡ inside →
    P (sum_by groups opens closes (func_of view (pre f) (post f))) → P (sum_in (pre inside) (post inside))
sum_by_parts pre post P {groups} {opens} {closes} {f} {inside} l o c e h =
    subst (λ k. P (sum_by k 40 41 (func_of view (pre inside) (post inside)))) l (
    subst (λ k. P (sum_by groups k 41 (func_of view (pre inside) (post inside)))) o (
    subst (λ k. P (sum_by groups opens k (func_of view (pre inside) (post inside)))) c (
    subst (λ k. P (sum_by groups opens closes (func_of view (pre k) (post k)))) e h)))

takes_any : (Takes : Text → Type 0) → ((i : Text) → IsProp (Takes i)) → ((i : Text) → Takes i) → ◌≡◌ {A = Text → Type 0} Takes Any
takes_any Takes one all = fun_ext (λ i. h_prop_ext (one i) (λ x y. refl) (λ x. tt) (λ x. all i))

-- what is read as a sum, by what stands in its brackets, with a function that takes some texts, and takes all
pub sum_of_any : (d : ℕ) (Takes : Text → Type 0) (i : Text) (r : FormResult Worth) → Parses (sum_in Takes (Inside d)) i r → ((i : Text) → IsProp (Takes i)) →
    ((i : Text) → Takes i) → Parses (sum_of d) i r
sum_of_any d Takes i r h one all = let P : (Text → Type 0) → Type 0 = λ T. Parses (sum_in T (Inside d)) i r in subst P (takes_any Takes one all) h
