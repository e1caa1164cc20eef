-- Laws of reading back a form that is all of an input.
use Rattle.std.specs.Prelude.{◌≡◌, Bool, false, List, [], refl}
use Rattle.std.proofs.Common.{sym, ◌∙◌, subst, append-nil}
use Rattle.nom_internal.specs.Prelude.{Accept, Errors, Grammar, InputLaws, Model, same_self}
use Rattle.nom_combinator.specs.Ends.{all_consuming_of, all_of, eof_meaning}
use Rattle.nom_combinator.specs.laws.AllLaws.{eof_lawful}
use Rattle.nom_write.specs.Reads.{IsEnd, Reads, ReadsAtEnd, ReadsBefore}
use Rattle.nom_write.specs.laws.SequenceReads.{as_whole, then_reads}

-- nothing is the end
end_reads : {I A E : Type 0} (w : Model I A) (errs : Errors I E) (s : Bool) →
    ReadsBefore w ((eof_meaning w errs).answers s) (λ t. Unit {0}) (λ rest. rest ≡ []) []
end_reads w errs s = record {
  read = λ i rest o known e f a. (
    all_of w i,
    (eof_lawful w errs).one_outcome s i i o (Accept 0 (all_of w i)) known known (same_self w i) a tt (e ∙ f, refl, refl),
    tt,
  );
}

-- a form that may stand at the end
pub whole_reads : {I A V O E : Type 0} {w : Model I A} (l : InputLaws w) (errs : Errors I E) {g : Grammar I V O E} {Form : O → List A → Type 0}
    {Follow : List A → Type 0} → Follow [] → Reads w g Form Follow → (v : O) (xs : List A) → Form v xs → (s : Bool) →
    ReadsBefore w ((all_consuming_of w errs g).meaning.answers s) (λ t. g.IsOutput t v) (λ rest. rest ≡ []) xs
whole_reads {w = w} l errs {g} {Form} {Follow} may p v xs f s = as_whole w (sym (append-nil xs)) (then_reads w l (λ u t. u) (g.meaning.answers s)
    (λ u. (eof_meaning w errs).answers s) (λ t. g.IsOutput t v) (λ t. Unit {0}) (λ t. g.IsOutput t v) (λ u t h k. h) Follow (λ rest. rest ≡ []) xs []
    (λ rest e. subst Follow (sym e) may) (p.reads v xs f s) (λ u h. end_reads w errs s))

-- a form that ends a complete input
pub whole_ends : {I A V O E : Type 0} {w : Model I A} (l : InputLaws w) (errs : Errors I E) {g : Grammar I V O E} {Form : O → List A → Type 0} →
    ReadsAtEnd w g Form → (v : O) (xs : List A) → Form v xs → ReadsBefore w ((all_consuming_of w errs g).meaning.answers false)
    (λ t. g.IsOutput t v) IsEnd xs
whole_ends {w = w} l errs {g} p v xs f = as_whole w (sym (append-nil xs)) (then_reads w l (λ u t. u) (g.meaning.answers false)
    (λ u. (eof_meaning w errs).answers false) (λ t. g.IsOutput t v) (λ t. Unit {0}) (λ t. g.IsOutput t v) (λ u t h k. h) IsEnd IsEnd xs []
    (λ rest e. e) (p.reads v xs f) (λ u h. end_reads w errs false))
