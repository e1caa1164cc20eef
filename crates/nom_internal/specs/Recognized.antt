-- The slice that a part consumes.
use Rattle.std.specs.Prelude.{◌≡◌, ℕ, false}
use Rattle.nom_traits.specs.Input.{Model}
use Rattle.nom_traits.specs.Slices.{Slice, IsFirst}
use Rattle.nom_internal.specs.Outcome.{Outcome}
use Rattle.nom_internal.specs.Outcome.Outcome.{Accept}
use Rattle.nom_internal.specs.Meaning.{Meaning}
use Rattle.nom_internal.specs.Cases.{Passes, plain_case, case_meaning}

-- an acceptance of the first items of i, with their slice
abbrev pub IsSliced : {I A : Type 0} (w : Model I A) → I → ℕ → Outcome (Slice w) → Type 0
IsSliced w i n o = (t : Slice w) × IsFirst w i n t × (o ≡ Accept n t)

-- the slice that a part consumes, whose own outputs aren't built
abbrev pub recognized_meaning : {I A V E : Type 0} → (w : Model I A) → Meaning I V E → Meaning I (Slice w) E
recognized_meaning w = case_meaning (plain_case (λ _. false) (λ i. Passes (λ n u o. IsSliced w i n o)))
