-- No memory is wanted for what is answered on a line.
use Rattle.std.specs.Prelude.{◌≡◌, ℕ, ℤ, Bool, true, false, Err, codes}
use Rattle.std.proofs.Common.{inl, inr}
use Rattle.nom_error.specs.declared.answer.Err.TheVariants as Answer
use Rattle.nom_error.specs.declared.value.Error.{Error}
use Rattle.nom_error.specs.Modes.{Modes, modes}
use Rattle.nom_branch.specs.Alternatives.{choice_meaning, next_meaning}
use Rattle.nom_internal.specs.Cases.{OnRefused}
use Rattle.nom_internal.specs.Cases.CaseRunsOut.{RunsOutBeside, RunsOutInPart}
use Rattle.nom_internal.specs.Outcome.ParsesAnswer.{ParseRanOut, Parsed}
use Rattle.nom_internal.specs.Prelude.{bytes_model, IResult, Meaning, Outcome, Accept, Refuse, Slice, Stop, Fails, Needs, ParsesOutcome}
use Rattle.nom_internal.specs.Prelude.{RunsOutFirst, RunsOutNext}
use Rattle.nom.specs.grammars.Bytes.{Bytes, BytesGrammar, Parses, decimal_of, map_of, or_of, pair_of, plain_errors, preceded_of, tag_of, take_of}
use Rattle.nom_messages_run.specs.declared.protocol.Message.{Message}
use Rattle.nom_messages_run.specs.declared.protocol.Message.TheVariants.{Ping, Text, Close}
use Rattle.nom_messages_run.specs.Typed.{Line, typed_of}

abbrev NoLack : {V : Type 0} → Meaning Bytes V (Error Bytes) → Type 0
NoLack m = (mode : Modes) (i : Bytes) → m.may_run_out mode i → ⊥

-- the branches of a choice, and what closes it
refused_none : {P : Type 0} (errors : Bool) (a : Outcome P) → OnRefused ((errors ≡ true) × ⊥) a → ⊥
refused_none errors (Accept n v) h = h
refused_none errors Refuse h = h.1
refused_none errors (Stop why) h = h

next_none : {P Q : Type 0} (a : Meaning Bytes P (Error Bytes)) (b : Meaning Bytes Q (Error Bytes)) → NoLack a → NoLack b →
    NoLack (next_meaning plain_errors a b)
next_none a b h k mode i (inl (RunsOutInPart j at r)) = h _ j r
next_none a b h k mode i (inl (RunsOutBeside r)) = r.fact
next_none a b h k mode i (inr (refused, inl (RunsOutInPart j at r))) = k _ j r
next_none a b h k mode i (inr (refused, inl (RunsOutBeside r))) = r.fact
next_none a b h k mode i (inr (refused, inr r)) = r.2

choice_none : {V : Type 0} (m : Meaning Bytes V (Error Bytes)) → NoLack m → NoLack (choice_meaning plain_errors m)
choice_none m h mode i (RunsOutInPart j at r) = h _ j r
choice_none m h mode i (RunsOutBeside r) = refused_none mode.errors r.outcome r.fact

-- the branches
abbrev ping_of : BytesGrammar (Slice bytes_model × ℤ) Message
ping_of = map_of (λ o. Ping o.1) (pair_of (tag_of (codes "ping ")) (decimal_of 32))

abbrev text_of : ℕ → BytesGrammar (Slice bytes_model) Message
text_of count = map_of Text (preceded_of (tag_of (codes "text ")) (take_of count))

abbrev close_of : BytesGrammar (Slice bytes_model) Message
close_of = map_of (λ _. Close) (tag_of (codes "close"))

ping_none : NoLack ping_of.meaning
ping_none mode i (RunsOutInPart j at (RunsOutFirst r)) = r.2
ping_none mode i (RunsOutInPart j at (RunsOutNext r)) = r.fact.2
ping_none mode i (RunsOutBeside r) = r.fact

text_none : (count : ℕ) → NoLack (text_of count).meaning
text_none count mode i (RunsOutInPart j at (RunsOutFirst r)) = r.2
text_none count mode i (RunsOutInPart j at (RunsOutNext r)) = r.fact.2
text_none count mode i (RunsOutBeside r) = r.fact

close_none : NoLack close_of.meaning
close_none mode i (RunsOutInPart j at r) = r.2
close_none mode i (RunsOutBeside r) = r.fact

two_none : (count : ℕ) → NoLack (or_of ping_of (text_of count)).meaning
two_none count = next_none ping_of.meaning (text_of count).meaning ping_none (text_none count)

all_none : (count : ℕ) → NoLack (or_of (or_of ping_of (text_of count)) close_of).meaning
all_none count = next_none (or_of ping_of (text_of count)).meaning close_of.meaning (two_none count) close_none

typed_none : (count : ℕ) → NoLack (typed_of count).meaning
typed_none count mode i (RunsOutFirst r) = choice_none (or_of (or_of ping_of (text_of count)) close_of).meaning (all_none count) mode i r
typed_none count mode i (RunsOutNext r) = r.fact.2

module _ (count : ℕ) (line : Bytes) (r : IResult Bytes Message (Error Bytes)) (is : r ≡ Err Answer.OutOfMemory) where
  no_outcome : (IsError : Error Bytes → Type 0) (o : Outcome Line) → ParsesOutcome bytes_model (typed_of count).IsOutput line IsError o r → ⊥
  no_outcome IsError (Accept n v) h = absurd (cc (is, h.4))
  no_outcome IsError Refuse h = absurd (cc (is, h.2))
  no_outcome IsError (Stop (Fails cause)) h = absurd (cc (is, h.2))
  no_outcome IsError (Stop (Needs k)) h = absurd (cc (is, h.2))

  pub none_lacks : Parses (typed_of count) false line r → ⊥
  none_lacks (ParseRanOut e h) = typed_none count (modes true true false) line h
  none_lacks (Parsed o a h) = no_outcome _ o h
