-- Lemmas on what is added to a sink, under other words.
use Rattle.std.proofs.Common.{List, Result, Ok, Err}
use Rattle.nom_sink.specs.declared.error.WriteError.{WriteError}
use Rattle.nom_sink.specs.Written.{SinkModel, Space, Written}

pub written_as : {S A : Type 0} {Form As : List A → Type 0} {Fails FailsAs : Space → WriteError → Type 0} (m : SinkModel S A) (old new : S)
    (r : Result (Unit {0}) WriteError) → ((xs : List A) → Form xs → As xs) → ((s : Space) (e : WriteError) → Fails s e → FailsAs s e) →
    Written Form Fails m old new r → Written As FailsAs m old new r
written_as m old new (Ok x) forms fails w = (w.0, w.1, forms w.0 w.2)
written_as m old new (Err e) forms fails w = (w.0, (w.1.0, w.1.1, fails _ e w.1.2))
