-- Lemmas on the answers of an item's function.
use Rattle.std.proofs.Common.{Ok, Err, refl, inl, inr}
use Rattle.nom_internal.specs.Prelude.{Errors, Failure, Incomplete, Needed, OutOfMemory, View, bytes_model, size_of, same_self}
use Rattle.nom_internal.specs.Prelude.{Accept, Fails, Needs, Outcome, Outright, Refuse, Stop}
use Rattle.nom_internal.specs.Outcome.{ParsesAnswer}
use Rattle.nom_internal.specs.Outcome.ParsesAnswer.{Parsed, ParseRanOut}
use Rattle.nom_error.specs.declared.answer.Err as Answer
use Rattle.nom_error.specs.declared.answer.Err.TheVariants as Stopped
use Rattle.nom_error.specs.declared.kind.ErrorKind.TheVariants as Kind
use Rattle.nom_error.specs.declared.value.Error.{Error}
use Rattle.nom_calls.specs.Func.{FuncAnswers, FuncBlames, FuncRunsOut, IsViewed, TakenAs}
use Rattle.nom_calls.specs.Func.FuncBlames.{OfRefusal, OfFailure, OfNoRest}
use Rattle.nom_calls.specs.Func.FuncRunsOut.{RunsOutInside}
use Rattle.nom_stream.specs.Functions.{CutsRest}
use Rattle.nom_stream.specs.Functions.CutsRest.{AtRest, AtNone}
use Rattle.nom_stream.specs.Items.{Answered, Bytes}

module _ {O : Type 0} {view : View O} {Gives : Bytes → Answered O → Type 0} {i : Bytes} where
  answered : (o : Outcome view.Value) (r : Answered O) → bytes_model.IsKnown i → Gives i r → TakenAs bytes_model view i r o →
      FuncAnswers bytes_model view Gives i o
  answered o r h g t = record { at = i; known = h; consistent = same_self bytes_model i; outcome = record { answer = r; given = g; told = t } }

module _ {O : Type 0} {view : View O} {errs : Errors Bytes (Error Bytes)} {Gives : Bytes → Answered O → Type 0} {i : Bytes} where
  pub item_cut : {left : Bytes} {v : O} {r : Answered O} → ((j : Bytes) → errs.of_kind j Kind.Fail (record { input = j; code = Kind.Fail })) →
      bytes_model.IsKnown i → Gives i (Ok (left, v)) → CutsRest i left v r →
      ParsesAnswer bytes_model (IsViewed view) i (FuncAnswers bytes_model view Gives i) (FuncBlames bytes_model errs Gives i)
      (FuncRunsOut bytes_model errs Gives i) r
  item_cut {left} {v} k h g (AtRest n j c s e) =
      Parsed (Accept n (view.value v)) (answered (Accept n (view.value v)) (Ok (left, v)) h g (inl (n, c, refl))) (j, v, s, refl, e)
  item_cut {left} {v} k h g (AtNone n e) =
      Parsed (Stop (Fails Outright)) (answered (Stop (Fails Outright)) (Ok (left, v)) h g (inr (n, refl))) (_, OfNoRest left v g n (k i), e)

  pub item_stopped : (f : Answer.Err (Error Bytes) (Error Bytes) Needed) → bytes_model.IsKnown i → Gives i (Err f) →
      ParsesAnswer bytes_model (IsViewed view) i (FuncAnswers bytes_model view Gives i) (FuncBlames bytes_model errs Gives i)
      (FuncRunsOut bytes_model errs Gives i) (Err f)
  item_stopped (Stopped.Incomplete n) h g =
      Parsed (Stop (Needs (size_of n))) (answered (Stop (Needs (size_of n))) (Err (Incomplete n)) h g refl) (n, refl, refl)
  item_stopped (Stopped.Error e) h g = Parsed Refuse (answered Refuse (Err (Stopped.Error e)) h g refl) (e, OfRefusal g, refl)
  item_stopped (Stopped.Failure e) h g =
      Parsed (Stop (Fails Outright)) (answered (Stop (Fails Outright)) (Err (Failure e)) h g refl) (e, OfFailure g, refl)
  item_stopped Stopped.OutOfMemory h g = ParseRanOut refl (RunsOutInside g)
