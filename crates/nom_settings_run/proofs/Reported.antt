-- The report, from the answer on a text.
use Rattle.std.specs.Str.{IsValidUpTo}
use Rattle.std.proofs.Common.{inl, inr, ◌≡◌, ℕ, false, List, take, Vec, Result, refl, sym, ◌∙◌, ap, subst}
use Rattle.std.specs.Prelude.{encode_utf8_all, IsUtf8, Option}
use Rattle.nom_internal.specs.Prelude.{Needed, Slice, IsModelledBy, Outcome, Accept, Refuse, Stop, Fails, Needs, ParsesOutcome, ParseRanOut, Parsed}
use Rattle.nom_error.specs.declared.answer.Err as Answer
use Rattle.nom_error.specs.declared.value.Error.{Error}
use Rattle.nom_combinator.specs.Verdicts.{complete_outcome}
use Rattle.nom_run.proofs.JoinedLines.{lines-same}
use Rattle.nom.specs.grammars.Grammar.{Parses}
use Rattle.nom_settings_run.specs.Settings.{SectionTree, SettingTree, section_of, setting_of, settings_of}
use Rattle.nom_located.specs.Located.{place}
use Rattle.nom_settings_run.specs.Report.{IsReport, IsSettingsReport, IsBytesReport, OfText, place_of, SaysSections, Text, bytes_of, entry_line, seen_there}
use Rattle.nom_settings_run.specs.Report.{section_text, section_tree_text, sections_text, setting_text, setting_tree_text, text_bytes, trees_text}

same_bytes : (t : Slice seen_there) (o : Text) → IsModelledBy seen_there t o → text_bytes o ≡ bytes_of t
same_bytes t o h = ap encode_utf8_all h.elements_are

pub same_line : (line column line' column' : ℕ) (s n v s' n' v' : List ℕ) → line ≡ line' → column ≡ column' → s ≡ s' → n ≡ n' → v ≡ v' →
    entry_line line column s n v ≡ entry_line line' column' s' n' v'
same_line line column line' column' s n v s' n' v' a b c d e =
    ap (λ x. entry_line x column s n v) a ∙ (ap (λ x. entry_line line' x s n v) b ∙ (ap (λ x. entry_line line' column' x n v) c
    ∙ (ap (λ x. entry_line line' column' s' x v) d ∙ ap (λ x. entry_line line' column' s' n' x) e)))

-- outputs have the lines of their trees
setting_same : (u : Slice seen_there) (s : Text) → IsModelledBy seen_there u s → (t : SettingTree seen_there) (o : Text × Text) →
    (setting_of seen_there).IsOutput t o → setting_text s o ≡ setting_tree_text u t
setting_same u s h t o k = same_line _ _ _ _ _ _ _ _ _ _ (ap (λ m. m.0.0.line) k.0.mark_is) (ap (λ m. m.0.0.column) k.0.mark_is) (same_bytes u s h)
    (same_bytes t.0 o.0 k.0) (same_bytes t.1 o.1 k.1)

section_same : {A : Type 0} (t : SectionTree seen_there) (o : Text × Vec (Text × Text) A) → (section_of seen_there {M = A}).IsOutput t o →
    section_text o.0 o.1.items ≡ section_tree_text t
section_same t o h = lines-same (setting_of seen_there).IsOutput (setting_tree_text t.0) (setting_text o.0) (setting_same t.0 o.0 h.0) t.1 o.1.items h.1

sections_same : {A : Type 0} (ts : List (SectionTree seen_there)) (v : Vec (Text × Vec (Text × Text) A) A) → (settings_of seen_there {M = A}).IsOutput ts v →
    sections_text v.items ≡ trees_text ts
sections_same {A} ts v h = lines-same (section_of seen_there {M = A}).IsOutput section_tree_text (λ o. section_text o.0 o.1.items) section_same ts v.items h

never_waits : {V : Type 0} (a : Outcome V) (k : Option ℕ) → Stop (Needs k) ≡ complete_outcome a → ⊥
never_waits (Accept n v) k h = cc (h)
never_waits Refuse k h = cc (h)
never_waits (Stop (Fails cause)) k h = cc (h)
never_waits (Stop (Needs d)) k h = cc (h)

abbrev AnswerErr : Type 0
AnswerErr = Answer.Err (Error Text) (Error Text) Needed

module _ {A : Type 0} (whole : Text) (answer : Result (Text × Vec (Text × Vec (Text × Text) A) A) AnswerErr) (text : List ℕ) (status : ℕ) where
  says : (Blames : Error Text → Type 0) (o : Outcome (List (SectionTree seen_there))) → ((k : Option ℕ) → o ≡ Stop (Needs k) → ⊥) →
      ParsesOutcome seen_there (settings_of seen_there {M = A}).IsOutput whole Blames o answer → IsSettingsReport answer text status →
      SaysSections Blames o text status
  says Blames (Accept n ts) never p t =
      let told = subst (λ a. IsSettingsReport a text status) p.4 t in
      (told.0 ∙ sections_same ts p.1 p.3, told.1)
  says Blames Refuse never p t = let told = subst (λ a. IsSettingsReport a text status) p.2 t in (p.0, p.1, told.0, told.1)
  says Blames (Stop (Fails cause)) never p t = let told = subst (λ a. IsSettingsReport a text status) p.2 t in (p.0, p.1, told.0, told.1)
  says Blames (Stop (Needs k)) never p t = never k refl

  pub of_text : (bytes : List ℕ) → IsUtf8 bytes → whole.fragment.now ≡ bytes → place_of whole ≡ place 0 1 1 →
      Parses seen_there (settings_of seen_there {M = A}) false whole answer → IsSettingsReport answer text status →
      OfText bytes text status
  of_text bytes u e b (ParseRanOut f h) t = absurd (subst (λ a. IsSettingsReport a text status) f t)
  of_text bytes u e b (Parsed o a p) t = record {
    utf8 = u;
    whole = whole;
    whole_is = e;
    begins = b;
    outcome = o;
    answered = a;
    says = says ((settings_of seen_there {M = A}).meaning.blames false whole) o (λ k f. never_waits a.outcome k (sym f ∙ a.fact)) p t;
  }

same_place : (o l c : ℕ) → o ≡ 0 → l ≡ 1 → c ≡ 1 → place o l c ≡ place 0 1 1
same_place o l c a b d = ap (λ x. place x l c) a ∙ (ap (λ x. place 0 x c) b ∙ ap (λ x. place 0 1 x) d)

pub report_of_text : {A : Type 0} (bytes cuts : List ℕ) (whole : Text) (answer : Result (Text × Vec (Text × Vec (Text × Text) A) A) AnswerErr)
    (text : List ℕ) (status : ℕ) → IsUtf8 bytes → whole.fragment.now ≡ bytes → whole.offset ≡ 0 → whole.line ≡ 1 → whole.column ≡ 1 →
    Parses seen_there (settings_of seen_there {M = A}) false whole answer → IsSettingsReport answer text status →
    IsReport bytes cuts text status
unfolding IsReport
report_of_text bytes cuts whole answer text status u e o l c p t =
    inl (of_text whole answer text status bytes u e (same_place whole.offset whole.line whole.column o l c) p t)

pub report_of_bytes : (bytes cuts text : List ℕ) (status count longest : ℕ) → count ≡ longest → IsValidUpTo bytes longest →
    IsBytesReport (take count bytes) text status → IsReport bytes cuts text status
unfolding IsReport
report_of_bytes bytes cuts text status count longest e v t = inr (record { count = count; longest = subst (IsValidUpTo bytes) (sym e) v; told = t })
