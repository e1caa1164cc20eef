-- Lemmas on the grammar of settings: what holds of it by the characters and sets of its parts holds of it.
use Rattle.std.proofs.Common.{◌≡◌, ℕ, List, chars, codes, subst, ◌↔◌}
use Rattle.std.specs.Prelude.{not, Contains, IsTrue, Vec}
use Rattle.nom_error.specs.declared.kind.ErrorKind.TheVariants.{IsNot}
use Rattle.nom_error.specs.declared.value.Error.{Error}
use Rattle.nom_error.specs.PlainErrors.{plain_errors}
use Rattle.nom_internal.specs.Prelude.{ErrorKind, Model, Slice}
use Rattle.nom_bytes.specs.ParsedRuns.{run1_meaning}
use Rattle.nom.specs.grammars.Grammar.{Grammar, all_consuming_of, char_of, complete_of, cut_of, many0_of, opt_of, pair_of, preceded_of, sliced}
use Rattle.nom.specs.grammars.Grammar.{terminated_of}
use Rattle.nom_settings_run.specs.Settings.{SectionTree, settings_of, value_of}

-- one character at least that a set doesn't hold; a refusal is of a kind
abbrev is_not_by : {I : Type 0} → (w : Model I ℕ) → List ℕ → ErrorKind → Grammar I (Slice w) I (Error I)
is_not_by w set kind = sliced w (run1_meaning w (λ c b. IsTrue (not b) ↔ Contains (chars set) c) plain_errors kind)

module _ {I M : Type 0} (w : Model I ℕ) where
  -- by the characters around a name, before a value and at the ends of lines, those that a name can't hold, and the kinds of their refusals
  module _ (opens closes sign cr lf cr₂ lf₂ : ℕ) (header name : List ℕ) (header_kind name_kind : ErrorKind) where
    abbrev written_of : Grammar I (List (SectionTree w)) (Vec (I × Vec (I × I) M) M) (Error I)
    written_of =
        let c = char_of w plain_errors in
        let title = terminated_of w (is_not_by w header header_kind) (pair_of w (c closes) (pair_of w (opt_of (c cr)) (c lf))) in
        let value = preceded_of w (c sign) (terminated_of w (value_of w) (pair_of w (opt_of (c cr₂)) (c lf₂))) in
        let settings = many0_of w plain_errors (pair_of w (is_not_by w name name_kind) (cut_of value)) in
        complete_of plain_errors (all_consuming_of w plain_errors (many0_of w plain_errors (pair_of w (preceded_of w (c opens) (cut_of title)) settings)))

  pub by_its_parts : (P : Grammar I (List (SectionTree w)) (Vec (I × Vec (I × I) M) M) (Error I) → Type 0) (opens closes sign cr lf cr₂ lf₂ : ℕ)
      (header name : List ℕ) (k l : ErrorKind) → opens ≡ 91 → closes ≡ 93 → sign ≡ 61 → cr ≡ 13 → lf ≡ 10 → cr₂ ≡ 13 → lf₂ ≡ 10 →
      header ≡ codes "]\r\n" → name ≡ codes "[=\r\n" → k ≡ IsNot → l ≡ IsNot → P (written_of opens closes sign cr lf cr₂ lf₂ header name k l) →
      P (settings_of w)
  by_its_parts P opens closes sign cr lf cr₂ lf₂ header name k l o c s e f e₂ f₂ h n a b g =
      subst (λ x. P (written_of x 93 61 13 10 13 10 (codes "]\r\n") (codes "[=\r\n") IsNot IsNot)) o (
      subst (λ x. P (written_of opens x 61 13 10 13 10 (codes "]\r\n") (codes "[=\r\n") IsNot IsNot)) c (
      subst (λ x. P (written_of opens closes x 13 10 13 10 (codes "]\r\n") (codes "[=\r\n") IsNot IsNot)) s (
      subst (λ x. P (written_of opens closes sign x 10 13 10 (codes "]\r\n") (codes "[=\r\n") IsNot IsNot)) e (
      subst (λ x. P (written_of opens closes sign cr x 13 10 (codes "]\r\n") (codes "[=\r\n") IsNot IsNot)) f (
      subst (λ x. P (written_of opens closes sign cr lf x 10 (codes "]\r\n") (codes "[=\r\n") IsNot IsNot)) e₂ (
      subst (λ x. P (written_of opens closes sign cr lf cr₂ x (codes "]\r\n") (codes "[=\r\n") IsNot IsNot)) f₂ (
      subst (λ x. P (written_of opens closes sign cr lf cr₂ lf₂ x (codes "[=\r\n") IsNot IsNot)) h (
      subst (λ x. P (written_of opens closes sign cr lf cr₂ lf₂ header x IsNot IsNot)) n (
      subst (λ x. P (written_of opens closes sign cr lf cr₂ lf₂ header name x IsNot)) a (
      subst (λ x. P (written_of opens closes sign cr lf cr₂ lf₂ header name k x)) b g))))))))))
