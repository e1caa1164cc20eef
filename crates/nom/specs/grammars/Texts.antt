-- Grammars over texts, with `Error`: leaves, and the words of `Grammar` at `&str`.
use Rattle.std.specs.Prelude.{ℕ, Bool, ◌⊎◌, List, Vec, chars}
use Rattle.std.specs.Borrow.{Bor}
use Rattle.nom_internal.specs.Prelude.{IResult, text_model, Slice}
use Rattle.nom_error.specs.declared.value.Error.{Error}
pub use Rattle.nom_error.specs.PlainErrors.{plain_errors}
use Rattle.nom.specs.grammars.Grammar as Grammars
use Rattle.nom.specs.grammars.Grammar.{Grammar, sliced, valued}
pub use Rattle.nom.specs.grammars.Grammar.{map_of, opt_of}

abbrev pub Text : Type 0
Text = Bor (List ℕ)

abbrev pub TextGrammar : (V O : Type 0) → Type 1
TextGrammar V O = Grammar Text V O (Error Text)

-- what `parse` (true) and `parse_complete` (false) answer by the grammar
abbrev pub Parses : {V O : Type 0} → TextGrammar V O → Bool → Text → IResult Text O (Error Text) → Type 0
Parses = Grammars.Parses text_model

abbrev pub is_not_of : List ℕ → TextGrammar (Slice text_model) Text
is_not_of set = Grammars.is_not_of text_model plain_errors (chars set)

abbrev pub char_of : ℕ → TextGrammar ℕ ℕ
char_of = Grammars.char_of text_model plain_errors

abbrev pub pair_of : {V O U P : Type 0} → TextGrammar V O → TextGrammar U P → TextGrammar (V × U) (O × P)
pair_of = Grammars.pair_of text_model

abbrev pub terminated_of : {V O U P : Type 0} → TextGrammar V O → TextGrammar U P → TextGrammar V O
terminated_of = Grammars.terminated_of text_model

abbrev pub separated_pair_of : {V O S Q U P : Type 0} → TextGrammar V O → TextGrammar S Q → TextGrammar U P → TextGrammar (V × U) (O × P)
separated_pair_of = Grammars.separated_pair_of text_model

abbrev pub delimited_of : {V O U P S Q : Type 0} → TextGrammar V O → TextGrammar U P → TextGrammar S Q → TextGrammar U P
delimited_of = Grammars.delimited_of text_model

-- `alt_of (or_of (or_of g h) k)` is `alt((g, h, k))`
abbrev pub or_of : {V U O : Type 0} → TextGrammar V O → TextGrammar U O → TextGrammar (V ⊎ U) O
or_of = Grammars.or_of plain_errors

abbrev pub alt_of : {V O : Type 0} → TextGrammar V O → TextGrammar V O
alt_of = Grammars.alt_of plain_errors

abbrev pub many0_of : {V O M : Type 0} → TextGrammar V O → TextGrammar (List V) (Vec O M)
many0_of = Grammars.many0_of text_model plain_errors

abbrev pub all_consuming_of : {V O : Type 0} → TextGrammar V O → TextGrammar V O
all_consuming_of = Grammars.all_consuming_of text_model plain_errors
