-- Laws of reading back branches, each of which stands apart from all before it.
use Rattle.std.specs.Prelude.{ℕ, List, Option}
use Rattle.nom_branch.specs.Alternatives.{alt_of}
use Rattle.nom_internal.specs.Prelude.{Errors, Grammar, Model, either_of}
use Rattle.nom_sink.specs.declared.error.WriteError.{WriteError}
use Rattle.nom_sink.specs.Choices.{Either}
use Rattle.nom_sink.specs.Written.{Space}
use Rattle.nom_write.specs.Choices.{RefusesForms}
use Rattle.nom_write.specs.FirstSets.{Differ, HasFirst, CodeWords, or_first}
use Rattle.nom_write.specs.Reads.{Reads}
use Rattle.nom_write.specs.laws.ChoiceReads.{alt_reads, either_reads}
use Rattle.nom_write.specs.laws.FirstSetLaws.{differ_apart, or_begins}

module _ {I A V U O E : Type 0} {w : Model I A} {code : A → ℕ} (errs : Errors I E) {g : Grammar I V O E} {h : Grammar I U O E}
    {First Second : O → List A → Type 0} {FirstFails : O → Space → WriteError → Type 0} {Follow Next : List A → Type 0} {a b : Option CodeWords} where
  -- one of two that stand apart
  pub or_reads : Reads w g First Follow → HasFirst w code g First a → Reads w h Second Next → HasFirst w code h Second b →
      Differ a b (RefusesForms w g Second) →
      Reads w (either_of errs.joined errs.grows g h) (λ v. Either (First v) (FirstFails v) (Second v)) (λ rest. Follow rest × Next rest)
  or_reads p begun q begins apart = either_reads errs (differ_apart begun begins apart) p q

module _ {I A V O E : Type 0} (w : Model I A) (code : A → ℕ) (errs : Errors I E) (g : Grammar I V O E) (Form : O → List A → Type 0)
    (Follow : List A → Type 0) (words : Option CodeWords) (AreAllDisjoint : Type 0) where
  -- the branches so far: their forms are read back, and begin with a word of the words
  pub record ReadsLed : Type 0 where
    pub reads : g.meaning.IsSound → AreAllDisjoint → Reads w g Form Follow
    pub begins : HasFirst w code g Form words

pub first_read : {I A V O E : Type 0} {w : Model I A} {code : A → ℕ} (errs : Errors I E) {g : Grammar I V O E} {Form : O → List A → Type 0}
    {Follow : List A → Type 0} {words : Option CodeWords} {Can : Type 0} → (g.meaning.IsSound → Can → Reads w g Form Follow) → Can →
    HasFirst w code g Form words → ReadsLed w code errs g Form Follow words (Unit {0})
first_read errs p can begins = record { reads = λ k d. p k can; begins = begins }

module _ {I A V U O E : Type 0} {w : Model I A} {code : A → ℕ} {errs : Errors I E} {g : Grammar I V O E} {h : Grammar I U O E}
    {First Second : O → List A → Type 0} {FirstFails : O → Space → WriteError → Type 0} {Follow Next : List A → Type 0} {a b : Option CodeWords}
    {D Can : Type 0} (before : ReadsLed w code errs g First Follow a D) (reads : h.meaning.IsSound → Can → Reads w h Second Next) (can : Can)
    (begins : HasFirst w code h Second b) where
  pub next_read : ReadsLed w code errs (either_of errs.joined errs.grows g h) (λ v. Either (First v) (FirstFails v) (Second v))
      (λ rest. Follow rest × Next rest) (or_first a b) (D × Differ a b (RefusesForms w g Second))
  next_read = record {
    reads = λ k d. or_reads errs (before.reads k.0 d.0) before.begins (reads k.1 can) begins d.1;
    begins = or_begins errs before.begins begins;
  }

  pub last_read : g.meaning.IsSound × h.meaning.IsSound → D × Differ a b (RefusesForms w g Second) →
      Reads w (alt_of errs (either_of errs.joined errs.grows g h)) (λ v. Either (First v) (FirstFails v) (Second v)) (λ rest. Follow rest × Next rest)
  last_read k d = alt_reads errs (next_read.reads k d)
