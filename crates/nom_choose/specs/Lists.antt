-- Choices among the parsers of a list: the first that doesn't refuse.
use Rattle.std.specs.Prelude.{◌≡◌, ℕ, ◌+◌, List, [], ◌∷◌}
use Rattle.std.proofs.Common.{zero, suc}
use Rattle.nom_error.specs.declared.kind.ErrorKind.TheVariants.{Alt}
use Rattle.nom_internal.specs.Prelude.{Errors, Meaning, Leaf, leaf_meaning, labelled_meaning, closed_meaning, or_meaning, Grammar}

-- a parser that always refuses
abbrev pub no_branch : {I V : Type 0} → Leaf I V
no_branch = record {
  Accepts = λ s i n v. ⊥;
  Refuses = λ s i. Unit {0};
  Lacks = λ i k. ⊥;
}

-- a choice among no parsers: a refusal with `Alt` at the start
abbrev pub none_meaning : {I V E : Type 0} → Errors I E → Meaning I V E
none_meaning e = leaf_meaning (λ i. e.of_kind i Alt) e.grows no_branch

-- a parser of a list: its trees tell its place
abbrev pub branch_meaning : {I V E : Type 0} → ℕ → Meaning I V E → Meaning I (ℕ × V) E
branch_meaning k = labelled_meaning (λ t. (k, t))

module _ {S I V E : Type 0} (e : Errors I E) (part : S → Meaning I V E) where
  -- some parsers, and where all of them refuse those of a list, which stand from k on
  abbrev pub others_meaning : Meaning I (ℕ × V) E → ℕ → List S → Meaning I (ℕ × V) E
  others_meaning m k [] = m
  others_meaning m k (s ∷ ss) = others_meaning (or_meaning e.joined e.grows m (branch_meaning k (part s))) (k + 1) ss

  -- the first parser of a list that doesn't refuse; the errors of refusals are joined from left to right
  abbrev pub any_branch_meaning : List S → Meaning I (ℕ × V) E
  any_branch_meaning [] = none_meaning e
  any_branch_meaning (s ∷ ss) = others_meaning (branch_meaning 0 (part s)) 1 ss

  -- the same, with the error of a refusal closed by `Alt` at the start
  abbrev pub list_meaning : List S → Meaning I (ℕ × V) E
  list_meaning [] = none_meaning e
  list_meaning (s ∷ ss) = closed_meaning (λ i. e.appended i Alt) e.grows (any_branch_meaning (s ∷ ss))

-- s is the element at index k of a list
abbrev pub IsElementAt : {S : Type 0} → List S → ℕ → S → Type 0
IsElementAt [] k s = ⊥
IsElementAt (x ∷ xs) zero s = x ≡ s
IsElementAt (x ∷ xs) (suc k) s = IsElementAt xs k s

-- the fact of each element
abbrev pub Each : {S : Type 0} → (S → Type 0) → List S → Type 0
Each P [] = Unit {0}
Each P (x ∷ xs) = P x × Each P xs

-- which output a tree of one of a list of parsers stands for: one of the parser at the place that it tells
abbrev pub ListOutput : {S V O : Type 0} → (S → V → O → Type 0) → List S → ℕ × V → O → Type 0
ListOutput {S} IsOutput ss t o = (s : S) × IsElementAt ss t.0 s × IsOutput s t.1 o

-- the grammars of a list of parsers, by their states
abbrev pub list_of : {I S V O E : Type 0} → Errors I E → (S → Grammar I V O E) → List S → Grammar I (ℕ × V) O E
list_of e g ss = record { meaning = list_meaning e (λ s. (g s).meaning) ss; IsOutput = ListOutput (λ s. (g s).IsOutput) ss }
