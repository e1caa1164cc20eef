-- The grammars of numbers and strings over bytes. Where the first byte of a part decides for it, the others are cut.
use Rattle.std.specs.Prelude.{◌<◌, ℕ, false, List, Option}
use Rattle.std.specs.Borrow.{Bor}
use Rattle.nom_error.specs.PlainErrors.{plain_errors}
use Rattle.nom_error.specs.declared.value.Error.{Error}
use Rattle.nom_internal.specs.Prelude.{ComparesBytes, IResult, bytes_model}
use Rattle.nom_internal.specs.TupleWords.{tuple_of_three}
use Rattle.nom_internal.specs.Word.{Answers, Word}
use Rattle.nom_combinator.specs.Words.{cut_of, recognize_of}
use Rattle.nom_json_run.specs.Tokens as Tokens

abbrev pub Bytes : Type 0
Bytes = Bor (List ℕ)

abbrev pub BytesWord : Type 0 → Type 1
BytesWord O = Word Bytes O (Error Bytes)

-- what `parse_complete` answers by the word
abbrev pub Parses : {O : Type 0} → BytesWord O → Bytes → IResult Bytes O (Error Bytes) → Type 0
Parses h = Answers bytes_model h false

abbrev pub IsByte : ℕ → Type 0
IsByte b = b < 256

abbrev pub tag_of : List ℕ → BytesWord Bytes
tag_of = Tokens.tag_of bytes_model plain_errors ComparesBytes

abbrev pub spaces_of : BytesWord Bytes
spaces_of = Tokens.spaces_of bytes_model plain_errors

abbrev pub digits_of : BytesWord Bytes
digits_of = Tokens.digits_of bytes_model plain_errors

abbrev pub char_of : ℕ → BytesWord ℕ
char_of = Tokens.char_of bytes_model plain_errors

abbrev pub one_of : List ℕ → BytesWord ℕ
one_of = Tokens.one_of bytes_model plain_errors

abbrev pub hex_of : BytesWord ℕ
hex_of = Tokens.hex_of bytes_model plain_errors IsByte

abbrev pub plain_of : BytesWord Bytes
plain_of = Tokens.plain_of bytes_model plain_errors IsByte

abbrev pub exponent_of : BytesWord (Option Bytes)
exponent_of = Tokens.exponent_of bytes_model plain_errors (λ _. cut_of)

abbrev pub number_of : BytesWord Bytes
number_of = Tokens.number_of bytes_model plain_errors (λ _. cut_of) ComparesBytes

abbrev pub escape_of : BytesWord ℕ
escape_of = Tokens.escape_of bytes_model plain_errors (λ _. cut_of) IsByte

-- characters and the quote that closes them
abbrev pub string_of : BytesWord Bytes
string_of = recognize_of bytes_model (tuple_of_three bytes_model plain_of (Tokens.escapes_of bytes_model plain_errors (λ _. cut_of) IsByte) (char_of 34))
