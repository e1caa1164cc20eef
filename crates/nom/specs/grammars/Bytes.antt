-- Grammars over slices of bytes, with `Error`: leaves, and the words of `Grammar` at `&[u8]`.
use Rattle.std.specs.Prelude.{◌≡◌, ℕ, ℤ, pos, ◌-◌, Some, length, Bool, ◌⊎◌, List, Vec}
use Rattle.std.specs.Borrow.{Bor}
use Rattle.nom_internal.specs.Prelude.{IResult, bytes_model, Slice, ComparesBytes, View}
use Rattle.nom_error.specs.declared.kind.ErrorKind.TheVariants as Kind
use Rattle.nom_error.specs.declared.value.Error.{Error}
use Rattle.nom_traits.specs.declared.character.AsciiClass.TheVariants as Class
use Rattle.nom_bytes.specs.Tags.{tag_meaning}
use Rattle.nom_bytes.specs.Takes.{take_meaning}
use Rattle.nom_character.specs.ClassRuns.{class_meaning}
use Rattle.nom_character_integer.specs.Integers as Integers
use Rattle.nom_number.specs.Numbers.{unsigned_meaning}
pub use Rattle.nom_error.specs.PlainErrors.{plain_errors}
pub use Rattle.nom_number.specs.declared.order.Endianness.{Endianness}
pub use Rattle.nom_number.specs.declared.order.Endianness.TheVariants.{Big, Little, Native}
use Rattle.nom.specs.grammars.Grammar as Grammars
use Rattle.nom.specs.grammars.Grammar.{Grammar, sliced, valued}
pub use Rattle.nom.specs.grammars.Grammar.{map_of}

abbrev pub Bytes : Type 0
Bytes = Bor (List ℕ)

abbrev pub BytesGrammar : (V O : Type 0) → Type 1
BytesGrammar V O = Grammar Bytes V O (Error Bytes)

-- what `parse` (true) and `parse_complete` (false) answer by the grammar
abbrev pub Parses : {V O : Type 0} → BytesGrammar V O → Bool → Bytes → IResult Bytes O (Error Bytes) → Type 0
Parses = Grammars.Parses bytes_model

-- and as a part of others
abbrev pub AnswersAsPart : {V O : Type 0} → View O → BytesGrammar V O → Bool → Bytes → IResult Bytes O (Error Bytes) →
    Type 0
AnswersAsPart = Grammars.AnswersAsPart bytes_model

abbrev pub tag_of : List ℕ → BytesGrammar (Slice bytes_model) Bytes
tag_of t = sliced bytes_model (tag_meaning bytes_model plain_errors length ComparesBytes t)

abbrev pub take_of : ℕ → BytesGrammar (Slice bytes_model) Bytes
take_of count = sliced bytes_model (take_meaning bytes_model plain_errors (λ count xs. Some (count - length xs)) count)

abbrev pub is_not_of : List ℕ → BytesGrammar (Slice bytes_model) Bytes
is_not_of = Grammars.is_not_of bytes_model plain_errors

abbrev pub digit1_of : BytesGrammar (Slice bytes_model) Bytes
digit1_of = sliced bytes_model (class_meaning bytes_model (λ x. x) plain_errors Class.Digit (Some Kind.Digit))

abbrev pub pair_of : {V O U P : Type 0} → BytesGrammar V O → BytesGrammar U P → BytesGrammar (V × U) (O × P)
pair_of = Grammars.pair_of bytes_model

abbrev pub preceded_of : {V O U P : Type 0} → BytesGrammar V O → BytesGrammar U P → BytesGrammar U P
preceded_of = Grammars.preceded_of bytes_model

abbrev pub terminated_of : {V O U P : Type 0} → BytesGrammar V O → BytesGrammar U P → BytesGrammar V O
terminated_of = Grammars.terminated_of bytes_model

-- `alt_of (or_of (or_of g h) k)` is `alt((g, h, k))`
abbrev pub or_of : {V U O : Type 0} → BytesGrammar V O → BytesGrammar U O → BytesGrammar (V ⊎ U) O
or_of = Grammars.or_of plain_errors

abbrev pub alt_of : {V O : Type 0} → BytesGrammar V O → BytesGrammar V O
alt_of = Grammars.alt_of plain_errors

abbrev pub many0_of : {V O M : Type 0} → BytesGrammar V O → BytesGrammar (List V) (Vec O M)
many0_of = Grammars.many0_of bytes_model plain_errors

abbrev pub all_consuming_of : {V O : Type 0} → BytesGrammar V O → BytesGrammar V O
all_consuming_of = Grammars.all_consuming_of bytes_model plain_errors

-- a number of that many bytes, in an order
abbrev pub number_of : Endianness → ℕ → BytesGrammar ℕ ℕ
number_of endian count = valued (unsigned_meaning bytes_model plain_errors endian count)

abbrev pub length_data_of : {V : Type 0} → BytesGrammar V ℕ → BytesGrammar (V × Slice bytes_model) Bytes
length_data_of = Grammars.length_data_of bytes_model plain_errors (λ count xs. Some (count - length xs))

abbrev pub length_value_of : {V U O : Type 0} → BytesGrammar V ℕ → BytesGrammar U O → BytesGrammar U O
length_value_of = Grammars.length_value_of bytes_model plain_errors

-- decimal integers: `decimal_of 32` is `u32()`
abbrev pub decimal_of : (bits : ℕ) → BytesGrammar ℤ ℕ
decimal_of bits = record { meaning = Integers.unsigned_meaning bytes_model (λ x. x) bits plain_errors; IsOutput = λ z n. pos n ≡ z }

abbrev pub length_count_of : {V U P M : Type 0} → BytesGrammar V ℕ → BytesGrammar U P → BytesGrammar (List U) (Vec P M)
length_count_of = Grammars.length_count_of bytes_model plain_errors
