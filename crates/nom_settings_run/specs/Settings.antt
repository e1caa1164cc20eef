-- The grammar of settings in sections, over any input of characters.
use Rattle.std.specs.Prelude.{◌≡◌, ℕ, ◌==◌, ◌&&◌, not, Bool, List, Option, Vec, chars, codes}
use Rattle.nom_error.specs.declared.value.Error.{Error}
use Rattle.nom_error.specs.PlainErrors.{plain_errors}
use Rattle.nom_internal.specs.Prelude.{Model, Slice}
use Rattle.nom_bytes.specs.ParsedRuns.{run_meaning}
use Rattle.nom.specs.grammars.Grammar.{Grammar, all_consuming_of, char_of, complete_of, cut_of, is_not_of, many0_of, opt_of, pair_of, preceded_of}
use Rattle.nom.specs.grammars.Grammar.{sliced, terminated_of}

-- no end of a line
abbrev pub in_value : ℕ → Bool
in_value c = not (c == 13) && not (c == 10)

module _ {I : Type 0} (w : Model I ℕ) where
  -- the tree of a setting: its name, and its value
  abbrev pub SettingTree : Type 0
  SettingTree = Slice w × Slice w

  -- the tree of a section: its name, and its settings
  abbrev pub SectionTree : Type 0
  SectionTree = Slice w × List SettingTree

  -- the end of a line: `\r\n`, or `\n` alone
  abbrev pub end_of : Grammar I (Option ℕ × ℕ) (Option ℕ × ℕ) (Error I)
  end_of = pair_of w (opt_of (char_of w plain_errors 13)) (char_of w plain_errors 10)

  -- the characters up to the end of the line
  abbrev pub value_of : Grammar I (Slice w) I (Error I)
  value_of = sliced w (run_meaning w (λ c b. b ≡ in_value c))

  -- a name in brackets
  abbrev pub header_of : Grammar I (Slice w) I (Error I)
  header_of = preceded_of w (char_of w plain_errors 91)
      (cut_of (terminated_of w (is_not_of w plain_errors (chars (codes "]\r\n"))) (pair_of w (char_of w plain_errors 93) end_of)))

  -- a name, and a value after `=`
  abbrev pub setting_of : Grammar I SettingTree (I × I) (Error I)
  setting_of = pair_of w (is_not_of w plain_errors (chars (codes "[=\r\n")))
      (cut_of (preceded_of w (char_of w plain_errors 61) (terminated_of w value_of end_of)))

  abbrev pub section_of : {M : Type 0} → Grammar I SectionTree (I × Vec (I × I) M) (Error I)
  section_of = pair_of w header_of (many0_of w plain_errors setting_of)

  -- sections, and then the end
  abbrev pub settings_of : {M : Type 0} → Grammar I (List SectionTree) (Vec (I × Vec (I × I) M) M) (Error I)
  settings_of = complete_of plain_errors (all_consuming_of w plain_errors (many0_of w plain_errors section_of))
