-- Laws of reading back values in the place of outputs, and outputs that pass a test.
use Rattle.std.specs.Prelude.{◌≡◌, ℕ, Bool, true, List, ◌++◌, Option}
use Rattle.std.proofs.Common.{sym, ◌∙◌, ap, subst}
use Rattle.nom_internal.specs.Prelude.{Accept, Errors, GivesFor, Grammar, IsJudge, Model, Passes, items_len, Judged, kept_if}
use Rattle.nom_combinator.specs.Outputs.{GivesValue, value_by, verify_by}
use Rattle.nom_write.specs.FirstSets.{HasFirst, StartsWith, CodeWords}
use Rattle.nom_write.specs.Reads.{Anything, Reads, ReadsSome}
use Rattle.nom_write.specs.laws.FirstSetLaws.{become_refuses, fixed_begins}

module _ {I A V O R E : Type 0} {w : Model I A} (g : Grammar I V O E) (value : R) (IsSure : Type 0) (IsClone : R → Type 0)
    (items : List A) where
  -- items that stand for a value
  pub value_reads : ReadsSome w g items → Reads w (value_by value IsSure IsClone g) (λ v xs. IsClone v × (xs ≡ items)) Anything
  value_reads p = record {
    reads = λ v xs f s. record {
      read = λ i rest o known e k a.
          let q = (p.reads s).read i rest a.outcome known (e ∙ ap (λ z. z ++ rest) f.1) tt (subst (λ z. g.meaning.answers s z a.outcome) (sym a.at_is)
          a.answered) in (
            value,
            subst (λ z. Passes (GivesValue value) z o) q.1 a.fact ∙ ap (λ n. Accept n value) (ap (λ z. items_len w.item_len z) (sym f.1)),
            f.0,
          );
    };
  }

  pub value_begins : (code : A → ℕ) {words : Option CodeWords} → StartsWith w code g.meaning items words →
      HasFirst w code (value_by value IsSure IsClone g) (λ v xs. IsClone v × (xs ≡ items)) words
  value_begins code {words} p = fixed_begins code items (λ v xs f. f.1) (record {
    begins = p.begins;
    others = become_refuses (λ a o. Passes (GivesValue value) a o) _ (λ o e. e) (λ s i o a. a) p.others;
  })

module _ {I A V O E : Type 0} {w : Model I A} (errs : Errors I E) {g : Grammar I V O E} (Takes : O → Type 0) (Says : O → Bool → Type 0)
    {Form : O → List A → Type 0} where
  -- a form of a value that passes the test
  pub verify_reads : IsJudge g.IsOutput Says (λ b. b) → {Follow : List A → Type 0} → Reads w g Form Follow →
      Reads w (verify_by errs Takes Says g) (λ v xs. Says v true × Form v xs) Follow
  verify_reads judge {Follow} p = record {
    reads = λ v xs f s. record {
      read = λ i rest o known e k a.
          let q = (p.reads v xs f.1 s).read i rest a.outcome known e k (subst (λ z. g.meaning.answers s z a.outcome) (sym a.at_is) a.answered) in
          let n = items_len w.item_len xs in
          let j = subst (λ z. Passes (Judged (GivesFor g.IsOutput Says) (λ b. b)) z o) q.1 a.fact in
          (q.0, j.2 ∙ ap (λ b. kept_if b (Accept n q.0)) (sym (judge.fixed q.0 v j.1.output true j.0 q.2 j.1.is_output f.0 j.1.given)), (q.2, f.0));
    };
  }

  pub verify_begins : {code : A → ℕ} {words : Option CodeWords} → HasFirst w code g Form words →
      HasFirst w code (verify_by errs Takes Says g) (λ v xs. Says v true × Form v xs) words
  verify_begins {code} {words} p = record {
    begins = λ bs e v xs f. p.begins bs e v xs f.1;
    others = become_refuses (λ a o. Passes (Judged (GivesFor g.IsOutput Says) (λ b. b)) a o) _ (λ o e. e) (λ s i o a. a) p.others;
  }
