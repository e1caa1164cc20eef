-- Where reports lie: in the input that was parsed.
use Rattle.std.specs.Prelude.{ℕ, ◌+◌, ◌≤◌, List}
use Rattle.nom_internal.specs.Prelude.{ErrorKind, Model, IsSuffixOf, input_len}
use Rattle.nom_report.specs.Reports.{report_contexts, report_errors}
use Rattle.nom_report.specs.declared.value.Report.{Report}

module _ {I A : Type 0} (w : Model I A) (place : I → ℕ) where
  -- not before the start of an input, and not behind its end
  pub record LiesIn (i : I) (e : Report I) : Type 0 where
    pub from_start : place i ≤ place e.at
    pub to_end : place e.at ≤ place i + input_len w i

  -- A report that is made at a rest of an input lies in it, and what is made of reports that do so does too.
  pub record StaysWithin : Type 0 where
    pub of_kind : (i j : I) (n : ℕ) (kind : ErrorKind) (e : Report I) → w.IsKnown i → IsSuffixOf w i n j → (report_errors place).of_kind j kind e → LiesIn i e
    pub of_char : (i j : I) (n c : ℕ) (e : Report I) → w.IsKnown i → IsSuffixOf w i n j → (report_errors place).of_char j c e → LiesIn i e
    pub joined : (i : I) (a b e : Report I) → (report_errors place).joined a b e → LiesIn i a → LiesIn i b → LiesIn i e
    pub appended : (i j : I) (kind : ErrorKind) (a e : Report I) → (report_errors place).appended j kind a e → LiesIn i a → LiesIn i e
    pub named : (i j : I) (name : List ℕ) (a e : Report I) → (report_contexts place).named j name a e → LiesIn i a → LiesIn i e
