-- Items that are written, beside a fact, where there is another reason to fail.
use Rattle.std.proofs.Common.{◌≡◌, ◌⊎◌, List, Result, Ok, Err, inl, length}
use Rattle.nom_sink.specs.declared.error.WriteError.{WriteError}
use Rattle.nom_sink.specs.Written.{LacksRoom, SinkModel, Space, Written}

pub beside : {S A : Type 0} (Fact : Type 0) (items : List A) (Other : Space → WriteError → Type 0) (m : SinkModel S A) (old new : S)
    (r : Result (Unit {0}) WriteError) → Fact → Written (λ xs. xs ≡ items) (LacksRoom (length items)) m old new r →
    Written (λ xs. (xs ≡ items) × Fact) (λ s e. LacksRoom (length items) s e ⊎ Other s e) m old new r
beside Fact items Other m old new (Ok x) fact w = (w.0, w.1, (w.2, fact))
beside Fact items Other m old new (Err e) fact w = (w.0, (w.1.0, w.1.1, inl w.1.2))
