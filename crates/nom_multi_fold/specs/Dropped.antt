-- A part whose outputs are never built.
use Rattle.std.specs.Prelude.{◌≡◌, false}
use Rattle.nom_internal.specs.Prelude.{Accept, Meaning, Passes, plain_case, case_meaning}

-- the part's outcome, with its tree, while nothing is built of it
abbrev pub dropped_meaning : {I V E : Type 0} → Meaning I V E → Meaning I V E
dropped_meaning = case_meaning (plain_case (λ _. false) (λ i. Passes (λ n v o. o ≡ Accept n v)))
