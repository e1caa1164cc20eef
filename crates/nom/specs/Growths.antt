-- Where a list or a text may run out of memory.
--
-- Its parts are frugal and its errors take no memory. Then the only growth is that of the list or text itself, and it grows by what was
-- accepted: so memory runs out only where outputs are built, and a first item or piece is accepted.
use Rattle.std.specs.Prelude.{◌≡◌, ℕ, Bool, true, ◌⊎◌}
use Rattle.nom_internal.specs.Prelude.{Errors, Modes, Model, Outcome, Accept, Refuse, Meaning, OnRest}
use Rattle.nom_bytes_escaped.specs.NextPieces.{AfterControl}

-- frugal, whatever is built, in both modes
abbrev pub AlwaysFrugal : {I V E : Type 0} → Meaning I V E → Type 0
AlwaysFrugal m = (mode : Modes) → m.IsFrugal mode

-- something is accepted at i
abbrev pub IsAccepted : {I V : Type 0} → (I → Outcome V → Type 0) → I → Type 0
IsAccepted {V = V} Item i = (n : ℕ) × (v : V) × Item i (Accept n v)

-- Where the parts are frugal and errors take no memory, memory runs out only where outputs are built and the fact holds of the input.
abbrev pub GrowsWhere : {I A V E : Type 0} → Model I A → Errors I E → Type 0 → (Bool → I → Type 0) → Meaning I V E → Type 0
GrowsWhere {I} w errs AreFrugal First whole =
    AreFrugal → (errs.grows → ⊥) → (mode : Modes) (i : I) → w.IsKnown i → whole.may_run_out mode i → (mode.outputs ≡ true) × First mode.streaming i

-- a list of the part m: its first item is accepted
abbrev pub GrowsByItems : {I A V T E : Type 0} → Model I A → Errors I E → Meaning I V E → Meaning I T E → Type 0
GrowsByItems w errs m whole = GrowsWhere w errs (AlwaysFrugal m) (λ s. IsAccepted (m.answers s)) whole

-- a list of the part m with separators: its first item is accepted
abbrev pub GrowsBySeparated : {I A P V T E : Type 0} → Model I A → Errors I E → Meaning I P E → Meaning I V E → Meaning I T E → Type 0
GrowsBySeparated w errs separator m whole = GrowsWhere w errs (AlwaysFrugal separator × AlwaysFrugal m) (λ s. IsAccepted (m.answers s)) whole

-- a list of the part m until an end: the end refuses, and the first item is accepted
abbrev pub GrowsUntil : {I A V T U E : Type 0} → Model I A → Errors I E → Meaning I V E → Meaning I T E → Meaning I U E → Type 0
GrowsUntil w errs m end whole =
    GrowsWhere w errs (AlwaysFrugal m × AlwaysFrugal end) (λ s i. end.answers s i Refuse × IsAccepted (m.answers s) i) whole

-- a list of the part m after its length: the length is accepted, and on the rest the first item
abbrev pub GrowsByCounted : {I A P V T E : Type 0} → Model I A → Errors I E → Meaning I P E → Meaning I V E → Meaning I T E → Type 0
GrowsByCounted w errs length m whole =
    GrowsWhere w errs (AlwaysFrugal length × AlwaysFrugal m) (λ s. OnRest w (length.answers s) (λ u j. IsAccepted (m.answers s) j)) whole

-- a text of pieces: the normal part accepts, or, where it refuses, the control character stands and on the rest the other part accepts
abbrev pub GrowsByPieces : {I A P V T E : Type 0} → Model I A → (A → Type 0) → Errors I E → Meaning I P E → Meaning I V E → Meaning I T E → Type 0
GrowsByPieces w IsControl errs m g whole =
    GrowsWhere w errs (AlwaysFrugal m × AlwaysFrugal g)
    (λ s i. IsAccepted (m.answers s) i ⊎ (m.answers s i Refuse × AfterControl w IsControl (IsAccepted (g.answers s)) i)) whole
