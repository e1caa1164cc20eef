-- Grammars over slices of bytes, with `Error`: the words of `Words`, by `tools/words`.
use Rattle.std.specs.Prelude.{◌≡◌, ◌-◌, ◌<◌, ℕ, Bool, List, Option, Some, None, Result, length, Contains, chars, ◌^◌, ℤ, pos, true, false, Vec, FitsSigned}
use Rattle.std.specs.Borrow.{Bor}
use Rattle.nom_ascii.specs.Sets.{Held}
pub use Rattle.nom_ascii.specs.Sets.{alphanumerics, alphas, and_of, digits, except_of, set_of, span_of}
use Rattle.nom_ascii.specs.declared.AsciiSet.{AsciiSet}
pub use Rattle.nom_error.specs.PlainErrors.{plain_errors}
use Rattle.nom_error.specs.declared.value.Error.{Error}
use Rattle.nom_internal.specs.Prelude.{ComparesBytes, ComparesBytesNoCase, IResult, View, bytes_model}
pub use Rattle.nom_internal.specs.Prelude.{option_view, pair_view, text_view, vec_view}
use Rattle.nom_internal.specs.Word as Internal
use Rattle.nom_internal.specs.Words as Plain
pub use Rattle.nom_internal.specs.Words.{mapping, Mapping, mapping_is}
use Rattle.nom_search.specs.Substrings.{FindsBytes}
use Rattle.nom_combinator.specs.Words as Combinator
use Rattle.nom_recursion.specs.Streams as Streams
use Rattle.nom.specs.ErrorTypes.{unnamed}
use Rattle.std.specs.Int.{FitsUnsignedBits, w8, w16, w32, w64, w128}
use Rattle.std.specs.declared.ops.Bound.{Bound}
use Rattle.nom_error.specs.declared.answer.OutOfMemory.{OutOfMemory}
use Rattle.nom_error.specs.declared.kind.ErrorKind.TheVariants as Kind
use Rattle.nom_internal.specs.FlatMap.{Maker}
use Rattle.nom_internal.specs.TupleWords as Tuple
use Rattle.nom_traits.specs.declared.character.AsciiClass.TheVariants as Class
use Rattle.nom_branch.specs.PermutationWords as Permutation
use Rattle.nom_branch.specs.Words as Branch
use Rattle.nom_bytes.specs.Tests.{failing, outside, passing, within}
use Rattle.nom_bytes.specs.Words as Runs
use Rattle.nom_bytes_escaped.specs.Words as Escaped
use Rattle.nom_calls.specs.Words as Calls
use Rattle.nom_character.specs.LineMatches.{crlf_in, line_ending_in, line_in}
use Rattle.nom_character.specs.Tests.{char_outside, char_passing, char_within}
use Rattle.nom_character.specs.Words as Character
use Rattle.nom_character_integer.specs.DigitWords as Digits
use Rattle.nom_character_integer.specs.Words as Integer
use Rattle.nom_combinator.specs.AllocWords as CombinatorAlloc
use Rattle.nom_multi.specs.LengthWords as Length
use Rattle.nom_multi.specs.Words as Multi
use Rattle.nom_multi_fold.specs.AllocWords as FoldAlloc
use Rattle.nom_multi_fold.specs.Words as Fold
use Rattle.nom_multi_fold.specs.Words.{folding}
use Rattle.nom_number.specs.Numbers.{signed_of}
use Rattle.nom_number.specs.Words as Number
use Rattle.nom_number_text.specs.Words as NumberText
use Rattle.nom_recursion.specs.Recursion as Recursion
use Rattle.nom_separated.specs.Words as Separated
use Rattle.nom_sequence.specs.Words as Sequence
pub use Rattle.nom_number.specs.declared.order.Endianness.{Endianness}
pub use Rattle.nom_number.specs.declared.order.Endianness.TheVariants.{Big, Little, Native}
use Rattle.nom.specs.Kits.{map_opted, map_resulted, mapped, plain_externals, verified}
pub use Rattle.nom.specs.Kits.{plain_view, slice_view}

abbrev pub Bytes : Type 0
Bytes = Bor (List ℕ)

abbrev pub BytesWord : Type 0 → Type 1
BytesWord O = Internal.Word Bytes O (Error Bytes)

-- what `parse` (true) and `parse_complete` (false) answer by the word
abbrev pub Parses : {O : Type 0} → BytesWord O → Bool → Bytes → IResult Bytes O (Error Bytes) → Type 0
Parses = Internal.Answers bytes_model

-- what a function of `streaming` ensures of its answer, by the word: that a decided one stays on every longer input
abbrev pub StreamsAs : {O : Type 0} → View O → BytesWord O → Bytes → IResult Bytes O (Error Bytes) → Type 0
StreamsAs = Streams.StreamsAs bytes_model

abbrev pub tag_of : List ℕ → BytesWord Bytes
tag_of t = Runs.tag_of bytes_model plain_errors length ComparesBytes t

-- without regard to the case of ASCII letters
abbrev pub tag_no_case_of : List ℕ → BytesWord Bytes
tag_no_case_of t = Runs.tag_of bytes_model plain_errors length ComparesBytesNoCase t

abbrev pub take_of : ℕ → BytesWord Bytes
take_of count = Runs.take_of bytes_model plain_errors (λ count xs. Some (count - length xs)) count

-- the items before the first place of a needle; the second asks for one at least
abbrev pub take_until_of : List ℕ → BytesWord Bytes
take_until_of needle = Runs.until_of bytes_model plain_errors FindsBytes false needle

abbrev pub take_until1_of : List ℕ → BytesWord Bytes
take_until1_of needle = Runs.until_of bytes_model plain_errors FindsBytes true needle

-- the items that a list holds, or doesn't hold, one at least
abbrev pub is_a_of : List ℕ → BytesWord Bytes
is_a_of set = Runs.run1_of bytes_model plain_errors Kind.IsA (within (Contains set))

abbrev pub is_not_of : List ℕ → BytesWord Bytes
is_not_of set = Runs.run1_of bytes_model plain_errors Kind.IsNot (outside (Contains set))

-- the same of an `AsciiSet`
abbrev pub is_a_set_of : AsciiSet → BytesWord Bytes
is_a_set_of set = Runs.run1_of bytes_model plain_errors Kind.IsA (within (Held set))

abbrev pub is_not_set_of : AsciiSet → BytesWord Bytes
is_not_set_of set = Runs.run1_of bytes_model plain_errors Kind.IsNot (outside (Held set))

-- the items up to the first that fails a test, or passes it
abbrev pub take_while_of : (ℕ → Bool) → BytesWord Bytes
take_while_of test = Runs.run_of bytes_model (passing (λ b. b < 256) (λ _. Unit {0}) (λ item b. b ≡ test item))

abbrev pub take_while1_of : (ℕ → Bool) → BytesWord Bytes
take_while1_of test = Runs.run1_of bytes_model plain_errors Kind.TakeWhile1 (passing (λ b. b < 256) (λ _. Unit {0}) (λ item b. b ≡ test item))

abbrev pub take_while_m_n_of : (m n : ℕ) → (ℕ → Bool) → BytesWord Bytes
take_while_m_n_of m n test = Runs.bounded_of bytes_model plain_errors m n (passing (λ b. b < 256) (λ _. Unit {0}) (λ item b. b ≡ test item))

abbrev pub take_till_of : (ℕ → Bool) → BytesWord Bytes
take_till_of test = Runs.run_of bytes_model (failing (λ b. b < 256) (λ _. Unit {0}) (λ item b. b ≡ test item))

abbrev pub take_till1_of : (ℕ → Bool) → BytesWord Bytes
take_till1_of test = Runs.run1_of bytes_model plain_errors Kind.TakeTill1 (failing (λ b. b < 256) (λ _. Unit {0}) (λ item b. b ≡ test item))

-- items without one that escapes the next, and what follows it
abbrev pub escaped_of : {O P : Type 0} → BytesWord O → ℕ → BytesWord P → BytesWord Bytes
escaped_of g c h = Escaped.escaped_of bytes_model plain_errors (λ x. x) g c h

-- the same, built: `parts` are those of the text, and the others what the outputs add to it
abbrev pub escaped_transform_of : {O P X A : Type 0} → (X → List A) → (O → List A) → (P → List A) → BytesWord O → ℕ → BytesWord P → BytesWord X
escaped_transform_of parts normal_adds escapable_adds g c h = Escaped.escaped_transform_of bytes_model plain_errors (λ x. x) parts normal_adds escapable_adds g
    c h

abbrev pub char_of : ℕ → BytesWord ℕ
char_of c = Character.char_of bytes_model plain_errors (λ x. x) c

abbrev pub satisfy_of : (ℕ → Bool) → BytesWord ℕ
satisfy_of test = Character.satisfy_of bytes_model plain_errors (λ x. x) Kind.Satisfy (char_passing (λ x. x) (λ b. b < 256) (λ _. Unit {0}) (λ c b. b ≡ test c))

abbrev pub one_of_of : List ℕ → BytesWord ℕ
one_of_of set = Character.satisfy_of bytes_model plain_errors (λ x. x) Kind.OneOf (char_within (λ x. x) (Contains (chars set)))

abbrev pub none_of_of : List ℕ → BytesWord ℕ
none_of_of set = Character.satisfy_of bytes_model plain_errors (λ x. x) Kind.NoneOf (char_outside (λ x. x) (Contains (chars set)))

-- the same of an `AsciiSet`
abbrev pub one_of_set_of : AsciiSet → BytesWord ℕ
one_of_set_of set = Character.satisfy_of bytes_model plain_errors (λ x. x) Kind.OneOf (char_within (λ x. x) (Held set))

abbrev pub none_of_set_of : AsciiSet → BytesWord ℕ
none_of_set_of set = Character.satisfy_of bytes_model plain_errors (λ x. x) Kind.NoneOf (char_outside (λ x. x) (Held set))

abbrev pub anychar_of : BytesWord ℕ
anychar_of = Character.anychar_of bytes_model plain_errors (λ x. x)

abbrev pub newline_of : BytesWord ℕ
newline_of = Character.char_of bytes_model plain_errors (λ x. x) 10

abbrev pub tab_of : BytesWord ℕ
tab_of = Character.char_of bytes_model plain_errors (λ x. x) 9

abbrev pub crlf_of : BytesWord Bytes
crlf_of = Character.match_of bytes_model plain_errors (crlf_in (λ x. x)) Kind.CrLf

abbrev pub line_ending_of : BytesWord Bytes
line_ending_of = Character.match_of bytes_model plain_errors (line_ending_in (λ x. x)) Kind.CrLf

abbrev pub not_line_ending_of : BytesWord Bytes
not_line_ending_of = Character.match_of bytes_model plain_errors (line_in (λ x. x)) Kind.Tag

-- runs of a class of ASCII characters
abbrev pub alpha0_of : BytesWord Bytes
alpha0_of = Character.class_of bytes_model plain_errors (λ x. x) Class.Alpha None

abbrev pub alpha1_of : BytesWord Bytes
alpha1_of = Character.class_of bytes_model plain_errors (λ x. x) Class.Alpha (Some Kind.Alpha)

abbrev pub digit0_of : BytesWord Bytes
digit0_of = Character.class_of bytes_model plain_errors (λ x. x) Class.Digit None

abbrev pub digit1_of : BytesWord Bytes
digit1_of = Character.class_of bytes_model plain_errors (λ x. x) Class.Digit (Some Kind.Digit)

abbrev pub hex_digit0_of : BytesWord Bytes
hex_digit0_of = Character.class_of bytes_model plain_errors (λ x. x) Class.HexDigit None

abbrev pub hex_digit1_of : BytesWord Bytes
hex_digit1_of = Character.class_of bytes_model plain_errors (λ x. x) Class.HexDigit (Some Kind.HexDigit)

abbrev pub oct_digit0_of : BytesWord Bytes
oct_digit0_of = Character.class_of bytes_model plain_errors (λ x. x) Class.OctDigit None

abbrev pub oct_digit1_of : BytesWord Bytes
oct_digit1_of = Character.class_of bytes_model plain_errors (λ x. x) Class.OctDigit (Some Kind.OctDigit)

abbrev pub bin_digit0_of : BytesWord Bytes
bin_digit0_of = Character.class_of bytes_model plain_errors (λ x. x) Class.BinDigit None

abbrev pub bin_digit1_of : BytesWord Bytes
bin_digit1_of = Character.class_of bytes_model plain_errors (λ x. x) Class.BinDigit (Some Kind.BinDigit)

abbrev pub alphanumeric0_of : BytesWord Bytes
alphanumeric0_of = Character.class_of bytes_model plain_errors (λ x. x) Class.Alphanumeric None

abbrev pub alphanumeric1_of : BytesWord Bytes
alphanumeric1_of = Character.class_of bytes_model plain_errors (λ x. x) Class.Alphanumeric (Some Kind.AlphaNumeric)

abbrev pub space0_of : BytesWord Bytes
space0_of = Character.class_of bytes_model plain_errors (λ x. x) Class.Space None

abbrev pub space1_of : BytesWord Bytes
space1_of = Character.class_of bytes_model plain_errors (λ x. x) Class.Space (Some Kind.Space)

abbrev pub multispace0_of : BytesWord Bytes
multispace0_of = Character.class_of bytes_model plain_errors (λ x. x) Class.MultiSpace None

abbrev pub multispace1_of : BytesWord Bytes
multispace1_of = Character.class_of bytes_model plain_errors (λ x. x) Class.MultiSpace (Some Kind.MultiSpace)

-- integers in decimal digits
abbrev pub u8_of : BytesWord ℕ
u8_of = Integer.integer_of bytes_model plain_errors (λ x. x) (λ n. pos n) (FitsUnsignedBits 8) false

abbrev pub u16_of : BytesWord ℕ
u16_of = Integer.integer_of bytes_model plain_errors (λ x. x) (λ n. pos n) (FitsUnsignedBits 16) false

abbrev pub u32_of : BytesWord ℕ
u32_of = Integer.integer_of bytes_model plain_errors (λ x. x) (λ n. pos n) (FitsUnsignedBits 32) false

abbrev pub u64_of : BytesWord ℕ
u64_of = Integer.integer_of bytes_model plain_errors (λ x. x) (λ n. pos n) (FitsUnsignedBits 64) false

abbrev pub u128_of : BytesWord ℕ
u128_of = Integer.integer_of bytes_model plain_errors (λ x. x) (λ n. pos n) (FitsUnsignedBits 128) false

abbrev pub usize_of : BytesWord ℕ
usize_of = Integer.integer_of bytes_model plain_errors (λ x. x) (λ n. pos n) (FitsUnsignedBits 64) false

abbrev pub i8_of : BytesWord ℤ
i8_of = Integer.integer_of bytes_model plain_errors (λ x. x) (λ z. z) (FitsSigned w8) true

abbrev pub i16_of : BytesWord ℤ
i16_of = Integer.integer_of bytes_model plain_errors (λ x. x) (λ z. z) (FitsSigned w16) true

abbrev pub i32_of : BytesWord ℤ
i32_of = Integer.integer_of bytes_model plain_errors (λ x. x) (λ z. z) (FitsSigned w32) true

abbrev pub i64_of : BytesWord ℤ
i64_of = Integer.integer_of bytes_model plain_errors (λ x. x) (λ z. z) (FitsSigned w64) true

abbrev pub i128_of : BytesWord ℤ
i128_of = Integer.integer_of bytes_model plain_errors (λ x. x) (λ z. z) (FitsSigned w128) true

abbrev pub isize_of : BytesWord ℤ
isize_of = Integer.integer_of bytes_model plain_errors (λ x. x) (λ z. z) (FitsSigned w64) true

-- numbers in n digits of a base, and in m to n
abbrev pub digits_u8_of : (base n : ℕ) → BytesWord ℕ
digits_u8_of base n = Digits.digits_of bytes_model plain_errors (λ x. x) (λ v. v) (2 ^ 8 - 1) base n n

abbrev pub digits_u16_of : (base n : ℕ) → BytesWord ℕ
digits_u16_of base n = Digits.digits_of bytes_model plain_errors (λ x. x) (λ v. v) (2 ^ 16 - 1) base n n

abbrev pub digits_u32_of : (base n : ℕ) → BytesWord ℕ
digits_u32_of base n = Digits.digits_of bytes_model plain_errors (λ x. x) (λ v. v) (2 ^ 32 - 1) base n n

abbrev pub digits_u64_of : (base n : ℕ) → BytesWord ℕ
digits_u64_of base n = Digits.digits_of bytes_model plain_errors (λ x. x) (λ v. v) (2 ^ 64 - 1) base n n

abbrev pub digits_u8_m_n_of : (base m n : ℕ) → BytesWord ℕ
digits_u8_m_n_of base m n = Digits.digits_of bytes_model plain_errors (λ x. x) (λ v. v) (2 ^ 8 - 1) base m n

abbrev pub digits_u16_m_n_of : (base m n : ℕ) → BytesWord ℕ
digits_u16_m_n_of base m n = Digits.digits_of bytes_model plain_errors (λ x. x) (λ v. v) (2 ^ 16 - 1) base m n

abbrev pub digits_u32_m_n_of : (base m n : ℕ) → BytesWord ℕ
digits_u32_m_n_of base m n = Digits.digits_of bytes_model plain_errors (λ x. x) (λ v. v) (2 ^ 32 - 1) base m n

abbrev pub digits_u64_m_n_of : (base m n : ℕ) → BytesWord ℕ
digits_u64_m_n_of base m n = Digits.digits_of bytes_model plain_errors (λ x. x) (λ v. v) (2 ^ 64 - 1) base m n

-- numbers of bytes; `u8()` and `i8()` of `number` are `be_u8()` and `be_i8()`
abbrev pub be_u8_of : BytesWord ℕ
be_u8_of = Number.number_of bytes_model plain_errors (λ n. n) Big 1

abbrev pub be_u16_of : BytesWord ℕ
be_u16_of = Number.number_of bytes_model plain_errors (λ n. n) Big 2

abbrev pub be_u24_of : BytesWord ℕ
be_u24_of = Number.number_of bytes_model plain_errors (λ n. n) Big 3

abbrev pub be_u32_of : BytesWord ℕ
be_u32_of = Number.number_of bytes_model plain_errors (λ n. n) Big 4

abbrev pub be_u64_of : BytesWord ℕ
be_u64_of = Number.number_of bytes_model plain_errors (λ n. n) Big 8

abbrev pub be_u128_of : BytesWord ℕ
be_u128_of = Number.number_of bytes_model plain_errors (λ n. n) Big 16

abbrev pub be_i8_of : BytesWord ℤ
be_i8_of = Number.number_of bytes_model plain_errors (λ n. signed_of 8 n) Big 1

abbrev pub be_i16_of : BytesWord ℤ
be_i16_of = Number.number_of bytes_model plain_errors (λ n. signed_of 16 n) Big 2

abbrev pub be_i24_of : BytesWord ℤ
be_i24_of = Number.number_of bytes_model plain_errors (λ n. signed_of 24 n) Big 3

abbrev pub be_i32_of : BytesWord ℤ
be_i32_of = Number.number_of bytes_model plain_errors (λ n. signed_of 32 n) Big 4

abbrev pub be_i64_of : BytesWord ℤ
be_i64_of = Number.number_of bytes_model plain_errors (λ n. signed_of 64 n) Big 8

abbrev pub be_i128_of : BytesWord ℤ
be_i128_of = Number.number_of bytes_model plain_errors (λ n. signed_of 128 n) Big 16

abbrev pub le_u8_of : BytesWord ℕ
le_u8_of = Number.number_of bytes_model plain_errors (λ n. n) Little 1

abbrev pub le_u16_of : BytesWord ℕ
le_u16_of = Number.number_of bytes_model plain_errors (λ n. n) Little 2

abbrev pub le_u24_of : BytesWord ℕ
le_u24_of = Number.number_of bytes_model plain_errors (λ n. n) Little 3

abbrev pub le_u32_of : BytesWord ℕ
le_u32_of = Number.number_of bytes_model plain_errors (λ n. n) Little 4

abbrev pub le_u64_of : BytesWord ℕ
le_u64_of = Number.number_of bytes_model plain_errors (λ n. n) Little 8

abbrev pub le_u128_of : BytesWord ℕ
le_u128_of = Number.number_of bytes_model plain_errors (λ n. n) Little 16

abbrev pub le_i8_of : BytesWord ℤ
le_i8_of = Number.number_of bytes_model plain_errors (λ n. signed_of 8 n) Little 1

abbrev pub le_i16_of : BytesWord ℤ
le_i16_of = Number.number_of bytes_model plain_errors (λ n. signed_of 16 n) Little 2

abbrev pub le_i24_of : BytesWord ℤ
le_i24_of = Number.number_of bytes_model plain_errors (λ n. signed_of 24 n) Little 3

abbrev pub le_i32_of : BytesWord ℤ
le_i32_of = Number.number_of bytes_model plain_errors (λ n. signed_of 32 n) Little 4

abbrev pub le_i64_of : BytesWord ℤ
le_i64_of = Number.number_of bytes_model plain_errors (λ n. signed_of 64 n) Little 8

abbrev pub le_i128_of : BytesWord ℤ
le_i128_of = Number.number_of bytes_model plain_errors (λ n. signed_of 128 n) Little 16

-- the same in an order that is passed: `u16(order)` and its like of `number`
abbrev pub endian_u16_of : Endianness → BytesWord ℕ
endian_u16_of order = Number.number_of bytes_model plain_errors (λ n. n) order 2

abbrev pub endian_u24_of : Endianness → BytesWord ℕ
endian_u24_of order = Number.number_of bytes_model plain_errors (λ n. n) order 3

abbrev pub endian_u32_of : Endianness → BytesWord ℕ
endian_u32_of order = Number.number_of bytes_model plain_errors (λ n. n) order 4

abbrev pub endian_u64_of : Endianness → BytesWord ℕ
endian_u64_of order = Number.number_of bytes_model plain_errors (λ n. n) order 8

abbrev pub endian_u128_of : Endianness → BytesWord ℕ
endian_u128_of order = Number.number_of bytes_model plain_errors (λ n. n) order 16

abbrev pub endian_i16_of : Endianness → BytesWord ℤ
endian_i16_of order = Number.number_of bytes_model plain_errors (λ n. signed_of 16 n) order 2

abbrev pub endian_i24_of : Endianness → BytesWord ℤ
endian_i24_of order = Number.number_of bytes_model plain_errors (λ n. signed_of 24 n) order 3

abbrev pub endian_i32_of : Endianness → BytesWord ℤ
endian_i32_of order = Number.number_of bytes_model plain_errors (λ n. signed_of 32 n) order 4

abbrev pub endian_i64_of : Endianness → BytesWord ℤ
endian_i64_of order = Number.number_of bytes_model plain_errors (λ n. signed_of 64 n) order 8

abbrev pub endian_i128_of : Endianness → BytesWord ℤ
endian_i128_of order = Number.number_of bytes_model plain_errors (λ n. signed_of 128 n) order 16

abbrev pub hex_u32_of : BytesWord ℕ
hex_u32_of = NumberText.hex_u32_of bytes_model plain_errors (λ x. x)

abbrev pub recognize_float_of : BytesWord Bytes
recognize_float_of = NumberText.recognize_float_of bytes_model plain_errors (λ x. x)

abbrev pub recognize_float_or_exceptions_of : BytesWord Bytes
recognize_float_or_exceptions_of = NumberText.exceptions_of bytes_model plain_errors (λ x. x) (NumberText.recognize_float_of bytes_model plain_errors (λ x. x))

abbrev pub recognize_float_parts_of : BytesWord (Bool × Bytes × Bytes × ℤ)
recognize_float_parts_of = NumberText.float_parts_of bytes_model plain_errors (λ x. x)

abbrev pub pair_of : {O P : Type 0} → BytesWord O → BytesWord P → BytesWord (O × P)
pair_of g h = Plain.pair_of bytes_model g h

abbrev pub preceded_of : {O P : Type 0} → BytesWord O → BytesWord P → BytesWord P
preceded_of g h = Sequence.preceded_of bytes_model g h

abbrev pub terminated_of : {O P : Type 0} → BytesWord O → BytesWord P → BytesWord O
terminated_of g h = Sequence.terminated_of bytes_model g h

abbrev pub separated_pair_of : {O P Q : Type 0} → BytesWord O → BytesWord Q → BytesWord P → BytesWord (O × P)
separated_pair_of g s h = Sequence.separated_pair_of bytes_model g s h

abbrev pub delimited_of : {O P Q : Type 0} → BytesWord O → BytesWord P → BytesWord Q → BytesWord P
delimited_of g h k = Sequence.delimited_of bytes_model g h k

-- several in turn
abbrev pub tuple_of_two : {A B : Type 0} → BytesWord A → BytesWord B → BytesWord (A × B)
tuple_of_two a b = Tuple.tuple_of_two bytes_model a b

abbrev pub tuple_of_three : {A B C : Type 0} → BytesWord A → BytesWord B → BytesWord C → BytesWord (A × B × C)
tuple_of_three a b c = Tuple.tuple_of_three bytes_model a b c

abbrev pub tuple_of_four : {A B C D : Type 0} → BytesWord A → BytesWord B → BytesWord C → BytesWord D → BytesWord (A × B × C × D)
tuple_of_four a b c d = Tuple.tuple_of_four bytes_model a b c d

abbrev pub tuple_of_five : {A B C D F : Type 0} → BytesWord A → BytesWord B → BytesWord C → BytesWord D → BytesWord F → BytesWord (A × B × C × D × F)
tuple_of_five a b c d f = Tuple.tuple_of_five bytes_model a b c d f

abbrev pub tuple_of_six : {A B C D F G : Type 0} → BytesWord A → BytesWord B → BytesWord C → BytesWord D → BytesWord F → BytesWord G →
    BytesWord (A × B × C × D × F × G)
tuple_of_six a b c d f g = Tuple.tuple_of_six bytes_model a b c d f g

abbrev pub tuple_of_seven : {A B C D F G H : Type 0} → BytesWord A → BytesWord B → BytesWord C → BytesWord D → BytesWord F → BytesWord G → BytesWord H →
    BytesWord (A × B × C × D × F × G × H)
tuple_of_seven a b c d f g h = Tuple.tuple_of_seven bytes_model a b c d f g h

abbrev pub tuple_of_eight : {A B C D F G H J : Type 0} → BytesWord A → BytesWord B → BytesWord C → BytesWord D → BytesWord F → BytesWord G → BytesWord H →
    BytesWord J → BytesWord (A × B × C × D × F × G × H × J)
tuple_of_eight a b c d f g h j = Tuple.tuple_of_eight bytes_model a b c d f g h j

-- `alt_of (or_of (or_of g h) k)` is `alt((g, h, k))`
abbrev pub or_of : {O : Type 0} → BytesWord O → BytesWord O → BytesWord O
or_of g h = Branch.or_of plain_errors g h

abbrev pub alt_of : {O : Type 0} → BytesWord O → BytesWord O
alt_of g = Branch.alt_of plain_errors g

-- the branches of a list, by their states
abbrev pub alt_list_of : {S O : Type 0} → (Internal.Words S Bytes O (Error Bytes)) → List S → BytesWord O
alt_list_of k ss = Branch.list_of plain_errors k ss

-- `or`, as a method
abbrev pub either_of : {O : Type 0} → BytesWord O → BytesWord O → BytesWord O
either_of g h = Plain.either_of (λ _ other e. e ≡ other) ⊥ g h

-- several in any order
abbrev pub permutation_of_two : {A B : Type 0} → BytesWord A → BytesWord B → BytesWord (A × B)
permutation_of_two a b = Permutation.permutation_of_two bytes_model plain_errors a b

abbrev pub permutation_of_three : {A B C : Type 0} → BytesWord A → BytesWord B → BytesWord C → BytesWord (A × B × C)
permutation_of_three a b c = Permutation.permutation_of_three bytes_model plain_errors a b c

abbrev pub permutation_of_four : {A B C D : Type 0} → BytesWord A → BytesWord B → BytesWord C → BytesWord D → BytesWord (A × B × C × D)
permutation_of_four a b c d = Permutation.permutation_of_four bytes_model plain_errors a b c d

abbrev pub permutation_of_five : {A B C D F : Type 0} → BytesWord A → BytesWord B → BytesWord C → BytesWord D → BytesWord F → BytesWord (A × B × C × D × F)
permutation_of_five a b c d f = Permutation.permutation_of_five bytes_model plain_errors a b c d f

abbrev pub permutation_of_six : {A B C D F G : Type 0} → BytesWord A → BytesWord B → BytesWord C → BytesWord D → BytesWord F → BytesWord G →
    BytesWord (A × B × C × D × F × G)
permutation_of_six a b c d f g = Permutation.permutation_of_six bytes_model plain_errors a b c d f g

abbrev pub permutation_of_seven : {A B C D F G H : Type 0} → BytesWord A → BytesWord B → BytesWord C → BytesWord D → BytesWord F → BytesWord G → BytesWord H →
    BytesWord (A × B × C × D × F × G × H)
permutation_of_seven a b c d f g h = Permutation.permutation_of_seven bytes_model plain_errors a b c d f g h

abbrev pub permutation_of_eight : {A B C D F G H J : Type 0} → BytesWord A → BytesWord B → BytesWord C → BytesWord D → BytesWord F → BytesWord G → BytesWord H →
    BytesWord J → BytesWord (A × B × C × D × F × G × H × J)
permutation_of_eight a b c d f g h j = Permutation.permutation_of_eight bytes_model plain_errors a b c d f g h j

abbrev pub opt_of : {O : Type 0} → BytesWord O → BytesWord (Option O)
opt_of g = Combinator.opt_of g

abbrev pub cut_of : {O : Type 0} → BytesWord O → BytesWord O
cut_of g = Combinator.cut_of g

abbrev pub peek_of : {O : Type 0} → BytesWord O → BytesWord O
peek_of g = Combinator.peek_of g

abbrev pub not_of : {O : Type 0} → BytesWord O → BytesWord (Unit {0})
not_of g = Combinator.not_of plain_errors g

abbrev pub complete_of : {O : Type 0} → BytesWord O → BytesWord O
complete_of g = Combinator.complete_of plain_errors g

abbrev pub all_consuming_of : {O : Type 0} → BytesWord O → BytesWord O
all_consuming_of g = Combinator.all_consuming_of bytes_model plain_errors g

abbrev pub recognize_of : {O : Type 0} → BytesWord O → BytesWord Bytes
recognize_of g = Combinator.recognize_of bytes_model g

abbrev pub consumed_of : {O : Type 0} → BytesWord O → BytesWord (Bytes × O)
consumed_of g = Combinator.consumed_of bytes_model g

abbrev pub cond_of : {O : Type 0} → Bool → BytesWord O → BytesWord (Option O)
cond_of b g = Combinator.cond_of b g

abbrev pub eof_of : BytesWord Bytes
eof_of = Combinator.eof_of bytes_model plain_errors

abbrev pub rest_of : BytesWord Bytes
rest_of = Combinator.rest_of bytes_model

abbrev pub rest_len_of : BytesWord ℕ
rest_len_of = Combinator.rest_len_of bytes_model

abbrev pub fail_of : {O : Type 0} → BytesWord O
fail_of = Combinator.fail_of plain_errors

-- a value that is copied, as a number: alone, and in the place of each output
abbrev pub success_of : {O : Type 0} → O → BytesWord O
success_of v = Combinator.success_of (λ a b. b ≡ a) v (Unit {0})

abbrev pub value_of : {O P : Type 0} → P → BytesWord O → BytesWord P
value_of v g = Combinator.value_of (λ a b. b ≡ a) v (Unit {0}) g

-- in one mode, whatever the call's: `true` is that of `parse`
abbrev pub fixed_of : {O : Type 0} → Bool → BytesWord O → BytesWord O
fixed_of mode g = Plain.fixed_of mode g

-- What a function returns for each output, a refusal where it returns `None`, and those of the outputs that pass a test. The words with
-- `_by` name what the function takes and gives.
abbrev pub map_of : {O P : Type 0} → (O → P) → BytesWord O → BytesWord P
map_of f g = mapped (λ _. Unit {0}) (λ o p. p ≡ f o) g

abbrev pub map_by : {O P : Type 0} → (O → Type 0) → (O → P → Type 0) → BytesWord O → BytesWord P
map_by Takes Gives g = mapped Takes Gives g

abbrev pub map_opt_of : {O P : Type 0} → (O → Option P) → BytesWord O → BytesWord P
map_opt_of f g = map_opted plain_errors (λ _. Unit {0}) (λ o p. p ≡ f o) g

abbrev pub map_opt_by : {O P : Type 0} → (O → Type 0) → (O → Option P → Type 0) → BytesWord O → BytesWord P
map_opt_by Takes Gives g = map_opted plain_errors Takes Gives g

-- a refusal with an error where it returns `Err`
abbrev pub map_res_of : {O P X : Type 0} → (O → Result P X) → BytesWord O → BytesWord P
map_res_of f g = map_resulted plain_externals (λ _. Unit {0}) (λ o r. r ≡ f o) g

abbrev pub map_res_by : {O P X : Type 0} → (O → Type 0) → (O → Result P X → Type 0) → BytesWord O → BytesWord P
map_res_by Takes Gives g = map_resulted plain_externals Takes Gives g

abbrev pub verify_of : {O : Type 0} → (O → Bool) → BytesWord O → BytesWord O
verify_of test g = verified plain_errors (λ _. Unit {0}) (λ p b. b ≡ test p.now) g

abbrev pub verify_by : {O : Type 0} → (Bor O → Type 0) → (Bor O → Bool → Type 0) → BytesWord O → BytesWord O
verify_by Takes Gives g = verified plain_errors Takes Gives g

-- by closures that may run out of memory
abbrev pub map_alloc_of : {O P : Type 0} → (O → Type 0) → (O → Result P OutOfMemory → Type 0) → BytesWord O → BytesWord P
map_alloc_of Takes Gives g = CombinatorAlloc.map_alloc_of (mapping Takes Gives) g

abbrev pub value_alloc_of : {O P : Type 0} → Type 0 → (Result P OutOfMemory → Type 0) → BytesWord O → BytesWord P
value_alloc_of CanMake Makes g = CombinatorAlloc.value_alloc_of CanMake Makes g

-- a name, that of the bytes of a literal, for the errors of a part
abbrev pub context_of : {O : Type 0} → List ℕ → BytesWord O → BytesWord O
context_of name g = Combinator.context_of unnamed name g

-- the parser that a closure returns for an output, by its state
abbrev pub flat_map_of : {O P H S : Type 0} → Maker O H S → (Internal.Words S Bytes P (Error Bytes)) → BytesWord O → BytesWord P
flat_map_of give k g = Plain.flat_map_of bytes_model give k g

abbrev pub many0_of : {O M : Type 0} → BytesWord O → BytesWord (Vec O M)
many0_of g = Multi.many0_of bytes_model plain_errors g

abbrev pub many1_of : {O M : Type 0} → BytesWord O → BytesWord (Vec O M)
many1_of g = Multi.many1_of bytes_model plain_errors g

abbrev pub count_of : {O M : Type 0} → ℕ → BytesWord O → BytesWord (Vec O M)
count_of n g = Multi.count_of bytes_model plain_errors n g

abbrev pub many_m_n_of : {O M : Type 0} → (m n : ℕ) → BytesWord O → BytesWord (Vec O M)
many_m_n_of m n g = Multi.many_m_n_of bytes_model plain_errors m n g

abbrev pub many_till_of : {O P M : Type 0} → BytesWord O → BytesWord P → BytesWord (Vec O M × P)
many_till_of g h = Multi.many_till_of bytes_model plain_errors g h

-- the separator comes first
abbrev pub separated_list0_of : {O Q M : Type 0} → BytesWord Q → BytesWord O → BytesWord (Vec O M)
separated_list0_of s g = Separated.separated_list0_of bytes_model plain_errors s g

abbrev pub separated_list1_of : {O Q M : Type 0} → BytesWord Q → BytesWord O → BytesWord (Vec O M)
separated_list1_of s g = Separated.separated_list1_of bytes_model plain_errors s g

abbrev pub fill_of : {O : Type 0} → ℕ → BytesWord O → BytesWord (Unit {0})
fill_of n g = Multi.fill_of bytes_model plain_errors n g

abbrev pub many0_count_of : {O : Type 0} → BytesWord O → BytesWord ℕ
many0_count_of g = Fold.many0_count_of bytes_model plain_errors g

abbrev pub many1_count_of : {O : Type 0} → BytesWord O → BytesWord ℕ
many1_count_of g = Fold.many1_count_of bytes_model plain_errors g

abbrev pub many_m_n_count_of : {O : Type 0} → (m n : ℕ) → BytesWord O → BytesWord ℕ
many_m_n_count_of m n g = Fold.many_m_n_count_of bytes_model plain_errors m n g

-- a length, and that many items; what is parsed on exactly that much; that many outputs
abbrev pub length_data_of : BytesWord ℕ → BytesWord Bytes
length_data_of n = Length.length_data_of bytes_model plain_errors (λ count xs. Some (count - length xs)) (λ k. k) n

abbrev pub length_value_of : {O : Type 0} → BytesWord ℕ → BytesWord O → BytesWord O
length_value_of n g = Length.length_value_of bytes_model plain_errors (λ k. k) n g

abbrev pub length_count_of : {O M : Type 0} → BytesWord ℕ → BytesWord O → BytesWord (Vec O M)
length_count_of n g = Length.length_count_of bytes_model plain_errors (λ k. k) n g

-- Folds: when the first closure can be called and what the second takes, then what the first gives and what the second. A range is
-- whether it is spent, and its bounds.
abbrev pub fold_many0_of : {O R : Type 0} → Type 0 → (R → O → Type 0) → (R → Type 0) → (R → O → R → Type 0) → BytesWord O → BytesWord R
fold_many0_of CanInit Takes Inits Gives g = Fold.fold_many0_of bytes_model plain_errors (folding CanInit Takes Inits Gives) g

abbrev pub fold_many1_of : {O R : Type 0} → Type 0 → (R → O → Type 0) → (R → Type 0) → (R → O → R → Type 0) → BytesWord O → BytesWord R
fold_many1_of CanInit Takes Inits Gives g = Fold.fold_many1_of bytes_model plain_errors (folding CanInit Takes Inits Gives) g

abbrev pub fold_many_m_n_of : {O R : Type 0} → (m n : ℕ) → Type 0 → (R → O → Type 0) → (R → Type 0) → (R → O → R → Type 0) → BytesWord O → BytesWord R
fold_many_m_n_of m n CanInit Takes Inits Gives g = Fold.fold_many_m_n_of bytes_model plain_errors m n (folding CanInit Takes Inits Gives) g

abbrev pub fold_of : {O R : Type 0} → Type 0 → (lower upper : Bound ℕ) → Type 0 → (R → O → Type 0) → (R → Type 0) → (R → O → R → Type 0) → BytesWord O →
    BytesWord R
fold_of IsSpent lower upper CanInit Takes Inits Gives g = Fold.fold_of bytes_model plain_errors IsSpent lower upper (folding CanInit Takes Inits Gives) g

abbrev pub many_of : {O C : Type 0} → (C → List O) → Type 0 → (lower upper : Bound ℕ) → BytesWord O → BytesWord C
many_of items IsSpent lower upper g = Fold.many_of bytes_model plain_errors items IsSpent lower upper g

abbrev pub fold_many0_alloc_of : {O R : Type 0} → Type 0 → (R → O → Type 0) → (Result R OutOfMemory → Type 0) → (R → O → Result R OutOfMemory → Type 0) →
    BytesWord O → BytesWord R
fold_many0_alloc_of CanInit Takes Inits Gives g = FoldAlloc.fold_many0_alloc_of bytes_model plain_errors (folding CanInit Takes Inits Gives) g

abbrev pub fold_many1_alloc_of : {O R : Type 0} → Type 0 → (R → O → Type 0) → (Result R OutOfMemory → Type 0) → (R → O → Result R OutOfMemory → Type 0) →
    BytesWord O → BytesWord R
fold_many1_alloc_of CanInit Takes Inits Gives g = FoldAlloc.fold_many1_alloc_of bytes_model plain_errors (folding CanInit Takes Inits Gives) g

-- A part that is a function: one whose contract is `Parses` of the word, as `parse` or as `parse_complete` answers, by the view of its output;
-- one that ensures a second clause too; and one by what it takes and gives.
abbrev pub func_of : {O : Type 0} → View O → BytesWord O → BytesWord O
func_of view g = Calls.called bytes_model plain_errors view g

abbrev pub complete_func_of : {O : Type 0} → View O → BytesWord O → BytesWord O
complete_func_of view g = Calls.given_of bytes_model plain_errors view (λ i. Unit {0}) (λ i r. Internal.Answers bytes_model g false i r)

abbrev pub stream_func_of : {O : Type 0} → View O → BytesWord O → BytesWord O
stream_func_of view g = Calls.stream_called bytes_model plain_errors view g

abbrev pub func_with : {O : Type 0} → View O → BytesWord O → (Bytes → IResult Bytes O (Error Bytes) → Type 0) → BytesWord O
func_with view g Also = Calls.called_with bytes_model plain_errors view g Also

abbrev pub complete_func_with : {O : Type 0} → View O → BytesWord O → (Bytes → IResult Bytes O (Error Bytes) → Type 0) → BytesWord O
complete_func_with view g Also = Calls.given_of bytes_model plain_errors view (λ i. Unit {0}) (λ i r. Internal.Answers bytes_model g false i r × Also i r)

abbrev pub stream_func_with : {O : Type 0} → View O → BytesWord O → (Bytes → IResult Bytes O (Error Bytes) → Type 0) → BytesWord O
stream_func_with view g Also = Calls.stream_called_with bytes_model plain_errors view g Also

abbrev pub func_by : {O : Type 0} → View O → (Bytes → Type 0) → (Bytes → IResult Bytes O (Error Bytes) → Type 0) → BytesWord O
func_by view Takes Gives = Calls.given_of bytes_model plain_errors view Takes Gives

abbrev pub stream_func_by : {O : Type 0} → View O → (Bytes → Type 0) → (Bytes → IResult Bytes O (Error Bytes) → Type 0) → BytesWord O
stream_func_by view Takes Gives = Calls.stream_given_of bytes_model plain_errors view Takes Gives

-- A grammar that contains itself, in a mode, with at most that many layers in each other: by the word of a layer, which takes that of the
-- layers inside it. And a rule of several, which takes those of the rules inside it: as such, and as a stream parser.
abbrev pub recursive_of : {O : Type 0} → Bool → View O → (BytesWord O → BytesWord O) → ℕ → BytesWord O
recursive_of streaming view layer_of depth = Recursion.recursive_of bytes_model plain_errors view streaming layer_of depth

abbrev pub recursive_rule_of : {O R : Type 0} → Bool → View O → ((R → BytesWord O) → R → BytesWord O) → ℕ → R → BytesWord O
recursive_rule_of streaming view rule_of depth rule = Recursion.recursive_rule_of bytes_model plain_errors view streaming rule_of depth rule

abbrev pub stream_rule_of : {O R : Type 0} → View O → ((R → BytesWord O) → R → BytesWord O) → ℕ → R → BytesWord O
stream_rule_of view rule_of depth rule = Streams.stream_rule_of bytes_model plain_errors view rule_of depth rule

-- the failure of what lies too deep
abbrev pub too_deep_of : {O : Type 0} → BytesWord O
too_deep_of = Recursion.too_deep_of plain_errors
