-- Lemmas on the sizes that are needed: two are equal where both are unknown, or one size.
use Rattle.std.proofs.Common.{rules, ◌≡◌, ◌<◌, IsTrue, ap, subst}
use Rattle.std.proofs.lemmas.Bool.{eqb-true, eq-eqb}
use Rattle.std.proofs.lemmas.Option.{same_Some}
use Rattle.std.proofs.Math.Bridge.{le_prop}
use Rattle.std.specs.declared.num.NonZeroUsize.{NonZeroUsize}
use Rattle.nom_error.specs.declared.answer.Needed.{Needed}
use Rattle.nom_error.specs.declared.answer.Needed.TheVariants.{Unknown, Size}
use Rattle.nom_error.specs.Answers.{size_of}
use Rattle.nom_error.specs.contracts.answer.NeededPartialEq.TheImpl as Same

-- a size is its number
same_size : (k l : NonZeroUsize) → k.value ≡ l.value → k ≡ l
same_size k l e =
    let make : 0 < k.value → NonZeroUsize = λ p. record { value = k.value; ok = p } in
    subst (λ v. (p : 0 < v) → k ≡ record { value = v; ok = p }) e (λ p. ap make (le_prop k.ok p)) l.ok

pub same_needs : (k l : Needed) → (IsTrue (Same.ghosts.eq k l) → k ≡ l) × (k ≡ l → IsTrue (Same.ghosts.eq k l))
same_needs Unknown Unknown = search rules
same_needs Unknown (Size l) = search rules
same_needs (Size k) Unknown = search rules
same_needs (Size k) (Size l) =
    (λ t. ap Size (same_size k l (eqb-true k.value l.value t)), λ e. eq-eqb k.value l.value (same_Some k.value l.value (ap size_of e)))
