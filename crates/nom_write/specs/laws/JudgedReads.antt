-- Laws of reading back parts whose outputs a closure maps or refuses, with a way back.
use Rattle.std.specs.Prelude.{◌≡◌, ℕ, Bool, true, List, Option, Some, is_some, Result, Ok, is_ok, refl}
use Rattle.std.proofs.Common.{sym, ◌∙◌, ap, subst}
use Rattle.nom_error.specs.Errors.{Externals}
use Rattle.nom_internal.specs.Judged.{map_opt_by, map_res_by}
use Rattle.nom_internal.specs.Prelude.{Accept, Errors, GivesFor, Grammar, IsJudge, Judged, Model, Passes, items_len, judged_meaning, kept_if}
use Rattle.nom_write.specs.FirstSets.{HasFirst, CodeWords}
use Rattle.nom_write.specs.Reads.{Reads}
use Rattle.nom_write.specs.laws.FirstSetLaws.{become_refuses}

-- a grammar whose outputs a closure judges, and where what it gives fits, it is the one for a value of the whole
abbrev pub judged_by : {I V O R P E : Type 0} → (O → Type 0) → (O → R → Type 0) → (R → Bool) → (I → R → E → Type 0) → Type 0 → (P → R) →
    Grammar I V O E → Grammar I V P E
judged_by Takes Gives fits Makes Grows fit g = record {
  meaning = judged_meaning g.IsOutput Takes Gives fits Makes Grows g.meaning;
  IsOutput = GivesFor g.IsOutput (λ a v. Gives a (fit v));
}

module _ {I A V O R P E : Type 0} {w : Model I A} {g : Grammar I V O E} {Form : O → List A → Type 0} (Takes : O → Type 0) (Gives : O → R → Type 0)
    (fits : R → Bool) (Makes : I → R → E → Type 0) (Grows : Type 0) (fit : P → R) (Back : P → O → Type 0) where
  -- what stands for what a value is mapped back to stands for the value, of which the closure gives what fits
  judged_back_reads : ((v : P) → fits (fit v) ≡ true) → IsJudge g.IsOutput Gives fits → ((v : P) (x : O) → Back v x → Gives x (fit v)) →
      {Follow : List A → Type 0} → Reads w g Form Follow →
      Reads w (judged_by Takes Gives fits Makes Grows fit g) (λ v xs. (x : O) × Back v x × Form x xs) Follow
  judged_back_reads it_fits judge again p = record {
    reads = λ v xs f s. record {
      read = λ i rest o known e k a.
          let q = (p.reads f.0 xs f.2 s).read i rest a.outcome known e k (subst (λ z. g.meaning.answers s z a.outcome) (sym a.at_is) a.answered) in
          let j = subst (λ z. Passes (Judged (GivesFor g.IsOutput Gives) fits) z o) q.1 a.fact in
          let given = again v f.0 f.1 in
          let kept = judge.fixed q.0 j.1.output f.0 j.0 (fit v) j.1.is_output q.2 j.1.given given ∙ it_fits v in (
            q.0,
            j.2 ∙ ap (λ b. kept_if b (Accept (items_len w.item_len xs) q.0)) kept,
            record { output = f.0; is_output = q.2; given = given },
          );
    };
  }

  -- and it begins as the part does
  judged_back_begins : {code : A → ℕ} {words : Option CodeWords} → HasFirst w code g Form words →
      HasFirst w code (judged_by Takes Gives fits Makes Grows fit g) (λ v xs. (x : O) × Back v x × Form x xs) words
  judged_back_begins {code} {words} p = record {
    begins = λ bs e v xs f. p.begins bs e f.0 xs f.2;
    others = become_refuses (λ a o. Passes (Judged (GivesFor g.IsOutput Gives) fits) a o) _ (λ o e. e) (λ s i o a. a) p.others;
  }

module _ {I A V O P E : Type 0} {w : Model I A} {g : Grammar I V O E} {Form : O → List A → Type 0} (Takes : O → Type 0) where
  module _ (errs : Errors I E) (Gives : O → Option P → Type 0) (Back : P → O → Type 0) where
    pub map_opt_back_reads : IsJudge g.IsOutput Gives is_some → ((v : P) (x : O) → Back v x → Gives x (Some v)) → {Follow : List A → Type 0} →
        Reads w g Form Follow → Reads w (map_opt_by errs Takes Gives g) (λ v xs. (x : O) × Back v x × Form x xs) Follow
    map_opt_back_reads judge again p = judged_back_reads Takes Gives is_some _ errs.grows Some Back (λ v. refl) judge again p

    pub map_opt_back_begins : {code : A → ℕ} {words : Option CodeWords} → HasFirst w code g Form words →
        HasFirst w code (map_opt_by errs Takes Gives g) (λ v xs. (x : O) × Back v x × Form x xs) words
    map_opt_back_begins p = judged_back_begins Takes Gives is_some _ errs.grows Some Back p

  module _ {X : Type 0} (externals : Externals I X E) (Gives : O → Result P X → Type 0) (Back : P → O → Type 0) where
    pub map_res_back_reads : IsJudge g.IsOutput Gives is_ok → ((v : P) (x : O) → Back v x → Gives x (Ok v)) → {Follow : List A → Type 0} →
        Reads w g Form Follow → Reads w (map_res_by externals Takes Gives g) (λ v xs. (x : O) × Back v x × Form x xs) Follow
    map_res_back_reads judge again p = judged_back_reads Takes Gives is_ok _ externals.grows Ok Back (λ v. refl) judge again p

    pub map_res_back_begins : {code : A → ℕ} {words : Option CodeWords} → HasFirst w code g Form words →
        HasFirst w code (map_res_by externals Takes Gives g) (λ v xs. (x : O) × Back v x × Form x xs) words
    map_res_back_begins p = judged_back_begins Takes Gives is_ok _ externals.grows Ok Back p
