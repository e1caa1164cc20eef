-- The width of a number.
use Rattle.std.proofs.Common.{◌≡◌, ℕ, List, subst, sym}
use Rattle.nom_internal.specs.Prelude.{Errors, Model, HasWidth, labelled, plain_case}
use Rattle.nom_internal.proofs.Widths.{case_width}
use Rattle.nom_bytes.specs.Takes.{take_meaning}
use Rattle.nom_bytes.proofs.TakeWidth.{take_width}
use Rattle.nom_number.specs.Numbers.{bytes_lack, number_meaning}

pub number_width : {I A N E : Type 0} (w : Model I A) (errs : Errors I E) (value : List A → N) (count : ℕ) {n : ℕ} → n ≡ count →
    HasWidth w (number_meaning w errs value count) n
number_width w errs value count e =
    subst (λ k. HasWidth w (number_meaning w errs value count) k) (sym e)
    (case_width (plain_case (λ b. b) (λ i a o. o ≡ labelled (λ t. value t.items) a)) (take_meaning w errs (bytes_lack w) count) (λ i j e. e)
    (λ i n t o e. (value t.items, e)) (λ mode i a h. h) (take_width w errs (bytes_lack w) count))
