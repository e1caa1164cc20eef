-- The words of grammars, for the contracts of functions that parse. Each is named as its call, and is the grammar that its implementation is
-- proved to parse, over any input and with any error type. Those are what the kit names: `bytes`, `texts_with (kinds Syntax)`. A contract
-- `Parses kit word streaming input result` needs no proof of its own. What a word means is said by its law, as `many0_worded`.
-- `tools/words` writes `Bytes` and `Texts` from this list: the same at `&[u8]` and `&str`, with `Error`.
use Rattle.std.specs.Prelude.{◌≡◌, ◌-◌, ◌^◌, ℕ, ℤ, pos, Bool, true, false, List, Option, Some, None, Result, Vec, FitsSigned, length, Contains, chars}
use Rattle.std.specs.Borrow.{Bor}
use Rattle.std.specs.Int.{FitsUnsignedBits, w8, w16, w32, w64, w128}
use Rattle.std.specs.declared.ops.Bound.{Bound}
use Rattle.nom_error.specs.Errors.{Externals}
use Rattle.nom_error.specs.declared.answer.OutOfMemory.{OutOfMemory}
use Rattle.nom_error.specs.declared.kind.ErrorKind.TheVariants as Kind
use Rattle.nom_internal.specs.FlatMap.{Maker}
use Rattle.nom_internal.specs.Prelude.{IResult, View}
use Rattle.nom_internal.specs.TupleWords as Tuple
use Rattle.nom_internal.specs.Word as Internal
use Rattle.nom_internal.specs.Words as Plain
use Rattle.nom_traits.specs.declared.character.AsciiClass.TheVariants as Class
use Rattle.nom_ascii.specs.Sets.{Held}
use Rattle.nom_ascii.specs.declared.AsciiSet.{AsciiSet}
use Rattle.nom_branch.specs.PermutationWords as Permutation
use Rattle.nom_branch.specs.Words as Branch
use Rattle.nom_bytes.specs.Tests.{failing, outside, passing, within}
use Rattle.nom_bytes.specs.Words as Runs
use Rattle.nom_bytes_escaped.specs.Words as Escaped
use Rattle.nom_calls.specs.Words as Calls
use Rattle.nom_character.specs.LineMatches.{crlf_in, line_ending_in, line_in}
use Rattle.nom_character.specs.Tests.{char_outside, char_passing, char_within}
use Rattle.nom_character.specs.Words as Character
use Rattle.nom_character_integer.specs.DigitWords as Digits
use Rattle.nom_character_integer.specs.Words as Integer
use Rattle.nom_combinator.specs.AllocWords as CombinatorAlloc
use Rattle.nom_combinator.specs.Words as Combinator
use Rattle.nom_multi.specs.LengthWords as Length
use Rattle.nom_multi.specs.Words as Multi
use Rattle.nom_multi_fold.specs.AllocWords as FoldAlloc
use Rattle.nom_multi_fold.specs.Words as Fold
use Rattle.nom_multi_fold.specs.Words.{folding}
use Rattle.nom_number.specs.Numbers.{signed_of}
use Rattle.nom_number.specs.Words as Number
use Rattle.nom_number_text.specs.Words as NumberText
use Rattle.nom_recursion.specs.Recursion as Recursion
use Rattle.nom_recursion.specs.Streams as Streams
use Rattle.nom_separated.specs.Words as Separated
use Rattle.nom_sequence.specs.Words as Sequence
pub use Rattle.nom_ascii.specs.Sets.{alphanumerics, alphas, and_of, digits, except_of, set_of, span_of}
pub use Rattle.nom_error.specs.PlainErrors.{plain_errors}
pub use Rattle.nom_internal.specs.Prelude.{option_view, pair_view, text_view, vec_view}
pub use Rattle.nom_internal.specs.Words.{Mapping, mapping, mapping_is}
pub use Rattle.nom_number.specs.declared.order.Endianness.{Endianness}
pub use Rattle.nom_number.specs.declared.order.Endianness.TheVariants.{Big, Little, Native}
use Rattle.nom.specs.Kits.{map_opted, map_resulted, mapped, verified}
pub use Rattle.nom.specs.Kits.{Kit, Parses, StreamsAs, Word, byte_kit, bytes, bytes_with, item_kit, layer_at, plain_externals, plain_view, rule_at, slice_view}
pub use Rattle.nom.specs.Kits.{text_kit, texts, texts_with, with_contexts}

module _ {I E : Type 0} where
  -- bytes

  abbrev pub tag_of : List ℕ → Word I I E
  tag_of t = record { at = λ K. Runs.tag_of K.model K.errors length K.compares t }

  -- without regard to the case of ASCII letters
  abbrev pub tag_no_case_of : List ℕ → Word I I E
  tag_no_case_of t = record { at = λ K. Runs.tag_of K.model K.errors length K.compares_no_case t }

  abbrev pub take_of : ℕ → Word I I E
  take_of count = record { at = λ K. Runs.take_of K.model K.errors K.lack count }

  -- the items before the first place of a needle; the second asks for one at least
  abbrev pub take_until_of : List ℕ → Word I I E
  take_until_of needle = record { at = λ K. Runs.until_of K.model K.errors K.finds false (K.needle needle) }

  abbrev pub take_until1_of : List ℕ → Word I I E
  take_until1_of needle = record { at = λ K. Runs.until_of K.model K.errors K.finds true (K.needle needle) }

  -- the items that a list holds, or doesn't hold, one at least
  abbrev pub is_a_of : List ℕ → Word I I E
  is_a_of set = record { at = λ K. Runs.run1_of K.model K.errors Kind.IsA (within (K.holds set)) }

  abbrev pub is_not_of : List ℕ → Word I I E
  is_not_of set = record { at = λ K. Runs.run1_of K.model K.errors Kind.IsNot (outside (K.holds set)) }

  -- the same of an `AsciiSet`
  abbrev pub is_a_set_of : AsciiSet → Word I I E
  is_a_set_of set = record { at = λ K. Runs.run1_of K.model K.errors Kind.IsA (within (K.has set)) }

  abbrev pub is_not_set_of : AsciiSet → Word I I E
  is_not_set_of set = record { at = λ K. Runs.run1_of K.model K.errors Kind.IsNot (outside (K.has set)) }

  -- the items up to the first that fails a test, or passes it
  abbrev pub take_while_of : (ℕ → Bool) → Word I I E
  take_while_of test = record { at = λ K. Runs.run_of K.model (passing K.IsValue (λ _. Unit {0}) (K.answers test)) }

  abbrev pub take_while1_of : (ℕ → Bool) → Word I I E
  take_while1_of test = record { at = λ K. Runs.run1_of K.model K.errors Kind.TakeWhile1 (passing K.IsValue (λ _. Unit {0}) (K.answers test)) }

  abbrev pub take_while_m_n_of : (m n : ℕ) → (ℕ → Bool) → Word I I E
  take_while_m_n_of m n test = record { at = λ K. Runs.bounded_of K.model K.errors m n (passing K.IsValue (λ _. Unit {0}) (K.answers test)) }

  abbrev pub take_till_of : (ℕ → Bool) → Word I I E
  take_till_of test = record { at = λ K. Runs.run_of K.model (failing K.IsValue (λ _. Unit {0}) (K.answers test)) }

  abbrev pub take_till1_of : (ℕ → Bool) → Word I I E
  take_till1_of test = record { at = λ K. Runs.run1_of K.model K.errors Kind.TakeTill1 (failing K.IsValue (λ _. Unit {0}) (K.answers test)) }

  -- items without one that escapes the next, and what follows it
  abbrev pub escaped_of : {O P : Type 0} → Word I O E → ℕ → Word I P E → Word I I E
  escaped_of g c h = record { at = λ K. Escaped.escaped_of K.model K.errors K.code (g.at K) c (h.at K) }

  -- the same, built: `parts` are those of the text, and the others what the outputs add to it
  abbrev pub escaped_transform_of : {O P X A : Type 0} → (X → List A) → (O → List A) → (P → List A) → Word I O E → ℕ → Word I P E → Word I X E
  escaped_transform_of parts normal_adds escapable_adds g c h = record {
    at = λ K. Escaped.escaped_transform_of K.model K.errors K.code parts normal_adds escapable_adds (g.at K) c (h.at K);
  }

  -- character

  abbrev pub char_of : ℕ → Word I ℕ E
  char_of c = record { at = λ K. Character.char_of K.model K.errors K.code c }

  abbrev pub satisfy_of : (ℕ → Bool) → Word I ℕ E
  satisfy_of test = record {
    at = λ K. Character.satisfy_of K.model K.errors K.code Kind.Satisfy (char_passing K.code K.IsValue (λ _. Unit {0}) (λ c b. b ≡ test c));
  }

  abbrev pub one_of_of : List ℕ → Word I ℕ E
  one_of_of set = record { at = λ K. Character.satisfy_of K.model K.errors K.code Kind.OneOf (char_within K.code (Contains (chars set))) }

  abbrev pub none_of_of : List ℕ → Word I ℕ E
  none_of_of set = record { at = λ K. Character.satisfy_of K.model K.errors K.code Kind.NoneOf (char_outside K.code (Contains (chars set))) }

  -- the same of an `AsciiSet`
  abbrev pub one_of_set_of : AsciiSet → Word I ℕ E
  one_of_set_of set = record { at = λ K. Character.satisfy_of K.model K.errors K.code Kind.OneOf (char_within K.code (Held set)) }

  abbrev pub none_of_set_of : AsciiSet → Word I ℕ E
  none_of_set_of set = record { at = λ K. Character.satisfy_of K.model K.errors K.code Kind.NoneOf (char_outside K.code (Held set)) }

  abbrev pub anychar_of : Word I ℕ E
  anychar_of = record { at = λ K. Character.anychar_of K.model K.errors K.code }

  abbrev pub newline_of : Word I ℕ E
  newline_of = record { at = λ K. Character.char_of K.model K.errors K.code 10 }

  abbrev pub tab_of : Word I ℕ E
  tab_of = record { at = λ K. Character.char_of K.model K.errors K.code 9 }

  abbrev pub crlf_of : Word I I E
  crlf_of = record { at = λ K. Character.match_of K.model K.errors (crlf_in K.code) Kind.CrLf }

  abbrev pub line_ending_of : Word I I E
  line_ending_of = record { at = λ K. Character.match_of K.model K.errors (line_ending_in K.code) Kind.CrLf }

  abbrev pub not_line_ending_of : Word I I E
  not_line_ending_of = record { at = λ K. Character.match_of K.model K.errors (line_in K.code) Kind.Tag }

  -- runs of a class of ASCII characters
  abbrev pub alpha0_of : Word I I E
  alpha0_of = record { at = λ K. Character.class_of K.model K.errors K.code Class.Alpha None }

  abbrev pub alpha1_of : Word I I E
  alpha1_of = record { at = λ K. Character.class_of K.model K.errors K.code Class.Alpha (Some Kind.Alpha) }

  abbrev pub digit0_of : Word I I E
  digit0_of = record { at = λ K. Character.class_of K.model K.errors K.code Class.Digit None }

  abbrev pub digit1_of : Word I I E
  digit1_of = record { at = λ K. Character.class_of K.model K.errors K.code Class.Digit (Some Kind.Digit) }

  abbrev pub hex_digit0_of : Word I I E
  hex_digit0_of = record { at = λ K. Character.class_of K.model K.errors K.code Class.HexDigit None }

  abbrev pub hex_digit1_of : Word I I E
  hex_digit1_of = record { at = λ K. Character.class_of K.model K.errors K.code Class.HexDigit (Some Kind.HexDigit) }

  abbrev pub oct_digit0_of : Word I I E
  oct_digit0_of = record { at = λ K. Character.class_of K.model K.errors K.code Class.OctDigit None }

  abbrev pub oct_digit1_of : Word I I E
  oct_digit1_of = record { at = λ K. Character.class_of K.model K.errors K.code Class.OctDigit (Some Kind.OctDigit) }

  abbrev pub bin_digit0_of : Word I I E
  bin_digit0_of = record { at = λ K. Character.class_of K.model K.errors K.code Class.BinDigit None }

  abbrev pub bin_digit1_of : Word I I E
  bin_digit1_of = record { at = λ K. Character.class_of K.model K.errors K.code Class.BinDigit (Some Kind.BinDigit) }

  abbrev pub alphanumeric0_of : Word I I E
  alphanumeric0_of = record { at = λ K. Character.class_of K.model K.errors K.code Class.Alphanumeric None }

  abbrev pub alphanumeric1_of : Word I I E
  alphanumeric1_of = record { at = λ K. Character.class_of K.model K.errors K.code Class.Alphanumeric (Some Kind.AlphaNumeric) }

  abbrev pub space0_of : Word I I E
  space0_of = record { at = λ K. Character.class_of K.model K.errors K.code Class.Space None }

  abbrev pub space1_of : Word I I E
  space1_of = record { at = λ K. Character.class_of K.model K.errors K.code Class.Space (Some Kind.Space) }

  abbrev pub multispace0_of : Word I I E
  multispace0_of = record { at = λ K. Character.class_of K.model K.errors K.code Class.MultiSpace None }

  abbrev pub multispace1_of : Word I I E
  multispace1_of = record { at = λ K. Character.class_of K.model K.errors K.code Class.MultiSpace (Some Kind.MultiSpace) }

  -- integers in decimal digits
  abbrev pub u8_of : Word I ℕ E
  u8_of = record { at = λ K. Integer.integer_of K.model K.errors K.code (λ n. pos n) (FitsUnsignedBits 8) false }

  abbrev pub u16_of : Word I ℕ E
  u16_of = record { at = λ K. Integer.integer_of K.model K.errors K.code (λ n. pos n) (FitsUnsignedBits 16) false }

  abbrev pub u32_of : Word I ℕ E
  u32_of = record { at = λ K. Integer.integer_of K.model K.errors K.code (λ n. pos n) (FitsUnsignedBits 32) false }

  abbrev pub u64_of : Word I ℕ E
  u64_of = record { at = λ K. Integer.integer_of K.model K.errors K.code (λ n. pos n) (FitsUnsignedBits 64) false }

  abbrev pub u128_of : Word I ℕ E
  u128_of = record { at = λ K. Integer.integer_of K.model K.errors K.code (λ n. pos n) (FitsUnsignedBits 128) false }

  abbrev pub usize_of : Word I ℕ E
  usize_of = record { at = λ K. Integer.integer_of K.model K.errors K.code (λ n. pos n) (FitsUnsignedBits 64) false }

  abbrev pub i8_of : Word I ℤ E
  i8_of = record { at = λ K. Integer.integer_of K.model K.errors K.code (λ z. z) (FitsSigned w8) true }

  abbrev pub i16_of : Word I ℤ E
  i16_of = record { at = λ K. Integer.integer_of K.model K.errors K.code (λ z. z) (FitsSigned w16) true }

  abbrev pub i32_of : Word I ℤ E
  i32_of = record { at = λ K. Integer.integer_of K.model K.errors K.code (λ z. z) (FitsSigned w32) true }

  abbrev pub i64_of : Word I ℤ E
  i64_of = record { at = λ K. Integer.integer_of K.model K.errors K.code (λ z. z) (FitsSigned w64) true }

  abbrev pub i128_of : Word I ℤ E
  i128_of = record { at = λ K. Integer.integer_of K.model K.errors K.code (λ z. z) (FitsSigned w128) true }

  abbrev pub isize_of : Word I ℤ E
  isize_of = record { at = λ K. Integer.integer_of K.model K.errors K.code (λ z. z) (FitsSigned w64) true }

  -- numbers in n digits of a base, and in m to n
  abbrev pub digits_u8_of : (base n : ℕ) → Word I ℕ E
  digits_u8_of base n = record { at = λ K. Digits.digits_of K.model K.errors K.code (λ v. v) (2 ^ 8 - 1) base n n }

  abbrev pub digits_u16_of : (base n : ℕ) → Word I ℕ E
  digits_u16_of base n = record { at = λ K. Digits.digits_of K.model K.errors K.code (λ v. v) (2 ^ 16 - 1) base n n }

  abbrev pub digits_u32_of : (base n : ℕ) → Word I ℕ E
  digits_u32_of base n = record { at = λ K. Digits.digits_of K.model K.errors K.code (λ v. v) (2 ^ 32 - 1) base n n }

  abbrev pub digits_u64_of : (base n : ℕ) → Word I ℕ E
  digits_u64_of base n = record { at = λ K. Digits.digits_of K.model K.errors K.code (λ v. v) (2 ^ 64 - 1) base n n }

  abbrev pub digits_u8_m_n_of : (base m n : ℕ) → Word I ℕ E
  digits_u8_m_n_of base m n = record { at = λ K. Digits.digits_of K.model K.errors K.code (λ v. v) (2 ^ 8 - 1) base m n }

  abbrev pub digits_u16_m_n_of : (base m n : ℕ) → Word I ℕ E
  digits_u16_m_n_of base m n = record { at = λ K. Digits.digits_of K.model K.errors K.code (λ v. v) (2 ^ 16 - 1) base m n }

  abbrev pub digits_u32_m_n_of : (base m n : ℕ) → Word I ℕ E
  digits_u32_m_n_of base m n = record { at = λ K. Digits.digits_of K.model K.errors K.code (λ v. v) (2 ^ 32 - 1) base m n }

  abbrev pub digits_u64_m_n_of : (base m n : ℕ) → Word I ℕ E
  digits_u64_m_n_of base m n = record { at = λ K. Digits.digits_of K.model K.errors K.code (λ v. v) (2 ^ 64 - 1) base m n }

  -- number

  -- numbers of bytes; `u8()` and `i8()` of `number` are `be_u8()` and `be_i8()`
  abbrev pub be_u8_of : Word I ℕ E
  be_u8_of = record { at = λ K. Number.number_of K.bytes K.errors (λ n. n) Big 1 }

  abbrev pub be_u16_of : Word I ℕ E
  be_u16_of = record { at = λ K. Number.number_of K.bytes K.errors (λ n. n) Big 2 }

  abbrev pub be_u24_of : Word I ℕ E
  be_u24_of = record { at = λ K. Number.number_of K.bytes K.errors (λ n. n) Big 3 }

  abbrev pub be_u32_of : Word I ℕ E
  be_u32_of = record { at = λ K. Number.number_of K.bytes K.errors (λ n. n) Big 4 }

  abbrev pub be_u64_of : Word I ℕ E
  be_u64_of = record { at = λ K. Number.number_of K.bytes K.errors (λ n. n) Big 8 }

  abbrev pub be_u128_of : Word I ℕ E
  be_u128_of = record { at = λ K. Number.number_of K.bytes K.errors (λ n. n) Big 16 }

  abbrev pub be_i8_of : Word I ℤ E
  be_i8_of = record { at = λ K. Number.number_of K.bytes K.errors (λ n. signed_of 8 n) Big 1 }

  abbrev pub be_i16_of : Word I ℤ E
  be_i16_of = record { at = λ K. Number.number_of K.bytes K.errors (λ n. signed_of 16 n) Big 2 }

  abbrev pub be_i24_of : Word I ℤ E
  be_i24_of = record { at = λ K. Number.number_of K.bytes K.errors (λ n. signed_of 24 n) Big 3 }

  abbrev pub be_i32_of : Word I ℤ E
  be_i32_of = record { at = λ K. Number.number_of K.bytes K.errors (λ n. signed_of 32 n) Big 4 }

  abbrev pub be_i64_of : Word I ℤ E
  be_i64_of = record { at = λ K. Number.number_of K.bytes K.errors (λ n. signed_of 64 n) Big 8 }

  abbrev pub be_i128_of : Word I ℤ E
  be_i128_of = record { at = λ K. Number.number_of K.bytes K.errors (λ n. signed_of 128 n) Big 16 }

  abbrev pub le_u8_of : Word I ℕ E
  le_u8_of = record { at = λ K. Number.number_of K.bytes K.errors (λ n. n) Little 1 }

  abbrev pub le_u16_of : Word I ℕ E
  le_u16_of = record { at = λ K. Number.number_of K.bytes K.errors (λ n. n) Little 2 }

  abbrev pub le_u24_of : Word I ℕ E
  le_u24_of = record { at = λ K. Number.number_of K.bytes K.errors (λ n. n) Little 3 }

  abbrev pub le_u32_of : Word I ℕ E
  le_u32_of = record { at = λ K. Number.number_of K.bytes K.errors (λ n. n) Little 4 }

  abbrev pub le_u64_of : Word I ℕ E
  le_u64_of = record { at = λ K. Number.number_of K.bytes K.errors (λ n. n) Little 8 }

  abbrev pub le_u128_of : Word I ℕ E
  le_u128_of = record { at = λ K. Number.number_of K.bytes K.errors (λ n. n) Little 16 }

  abbrev pub le_i8_of : Word I ℤ E
  le_i8_of = record { at = λ K. Number.number_of K.bytes K.errors (λ n. signed_of 8 n) Little 1 }

  abbrev pub le_i16_of : Word I ℤ E
  le_i16_of = record { at = λ K. Number.number_of K.bytes K.errors (λ n. signed_of 16 n) Little 2 }

  abbrev pub le_i24_of : Word I ℤ E
  le_i24_of = record { at = λ K. Number.number_of K.bytes K.errors (λ n. signed_of 24 n) Little 3 }

  abbrev pub le_i32_of : Word I ℤ E
  le_i32_of = record { at = λ K. Number.number_of K.bytes K.errors (λ n. signed_of 32 n) Little 4 }

  abbrev pub le_i64_of : Word I ℤ E
  le_i64_of = record { at = λ K. Number.number_of K.bytes K.errors (λ n. signed_of 64 n) Little 8 }

  abbrev pub le_i128_of : Word I ℤ E
  le_i128_of = record { at = λ K. Number.number_of K.bytes K.errors (λ n. signed_of 128 n) Little 16 }

  -- the same in an order that is passed: `u16(order)` and its like of `number`
  abbrev pub endian_u16_of : Endianness → Word I ℕ E
  endian_u16_of order = record { at = λ K. Number.number_of K.bytes K.errors (λ n. n) order 2 }

  abbrev pub endian_u24_of : Endianness → Word I ℕ E
  endian_u24_of order = record { at = λ K. Number.number_of K.bytes K.errors (λ n. n) order 3 }

  abbrev pub endian_u32_of : Endianness → Word I ℕ E
  endian_u32_of order = record { at = λ K. Number.number_of K.bytes K.errors (λ n. n) order 4 }

  abbrev pub endian_u64_of : Endianness → Word I ℕ E
  endian_u64_of order = record { at = λ K. Number.number_of K.bytes K.errors (λ n. n) order 8 }

  abbrev pub endian_u128_of : Endianness → Word I ℕ E
  endian_u128_of order = record { at = λ K. Number.number_of K.bytes K.errors (λ n. n) order 16 }

  abbrev pub endian_i16_of : Endianness → Word I ℤ E
  endian_i16_of order = record { at = λ K. Number.number_of K.bytes K.errors (λ n. signed_of 16 n) order 2 }

  abbrev pub endian_i24_of : Endianness → Word I ℤ E
  endian_i24_of order = record { at = λ K. Number.number_of K.bytes K.errors (λ n. signed_of 24 n) order 3 }

  abbrev pub endian_i32_of : Endianness → Word I ℤ E
  endian_i32_of order = record { at = λ K. Number.number_of K.bytes K.errors (λ n. signed_of 32 n) order 4 }

  abbrev pub endian_i64_of : Endianness → Word I ℤ E
  endian_i64_of order = record { at = λ K. Number.number_of K.bytes K.errors (λ n. signed_of 64 n) order 8 }

  abbrev pub endian_i128_of : Endianness → Word I ℤ E
  endian_i128_of order = record { at = λ K. Number.number_of K.bytes K.errors (λ n. signed_of 128 n) order 16 }

  abbrev pub hex_u32_of : Word I ℕ E
  hex_u32_of = record { at = λ K. NumberText.hex_u32_of K.model K.errors K.code }

  abbrev pub recognize_float_of : Word I I E
  recognize_float_of = record { at = λ K. NumberText.recognize_float_of K.model K.errors K.code }

  abbrev pub recognize_float_or_exceptions_of : Word I I E
  recognize_float_or_exceptions_of = record {
    at = λ K. NumberText.exceptions_of K.model K.errors K.code (NumberText.recognize_float_of K.model K.errors K.code);
  }

  abbrev pub recognize_float_parts_of : Word I (Bool × I × I × ℤ) E
  recognize_float_parts_of = record { at = λ K. NumberText.float_parts_of K.model K.errors K.code }

  -- sequence

  abbrev pub pair_of : {O P : Type 0} → Word I O E → Word I P E → Word I (O × P) E
  pair_of g h = record { at = λ K. Plain.pair_of K.model (g.at K) (h.at K) }

  abbrev pub preceded_of : {O P : Type 0} → Word I O E → Word I P E → Word I P E
  preceded_of g h = record { at = λ K. Sequence.preceded_of K.model (g.at K) (h.at K) }

  abbrev pub terminated_of : {O P : Type 0} → Word I O E → Word I P E → Word I O E
  terminated_of g h = record { at = λ K. Sequence.terminated_of K.model (g.at K) (h.at K) }

  abbrev pub separated_pair_of : {O P Q : Type 0} → Word I O E → Word I Q E → Word I P E → Word I (O × P) E
  separated_pair_of g s h = record { at = λ K. Sequence.separated_pair_of K.model (g.at K) (s.at K) (h.at K) }

  abbrev pub delimited_of : {O P Q : Type 0} → Word I O E → Word I P E → Word I Q E → Word I P E
  delimited_of g h k = record { at = λ K. Sequence.delimited_of K.model (g.at K) (h.at K) (k.at K) }

  -- several in turn
  abbrev pub tuple_of_two : {A B : Type 0} → Word I A E → Word I B E → Word I (A × B) E
  tuple_of_two a b = record { at = λ K. Tuple.tuple_of_two K.model (a.at K) (b.at K) }

  abbrev pub tuple_of_three : {A B C : Type 0} → Word I A E → Word I B E → Word I C E → Word I (A × B × C) E
  tuple_of_three a b c = record { at = λ K. Tuple.tuple_of_three K.model (a.at K) (b.at K) (c.at K) }

  abbrev pub tuple_of_four : {A B C D : Type 0} → Word I A E → Word I B E → Word I C E → Word I D E → Word I (A × B × C × D) E
  tuple_of_four a b c d = record { at = λ K. Tuple.tuple_of_four K.model (a.at K) (b.at K) (c.at K) (d.at K) }

  abbrev pub tuple_of_five : {A B C D F : Type 0} → Word I A E → Word I B E → Word I C E → Word I D E → Word I F E → Word I (A × B × C × D × F) E
  tuple_of_five a b c d f = record { at = λ K. Tuple.tuple_of_five K.model (a.at K) (b.at K) (c.at K) (d.at K) (f.at K) }

  abbrev pub tuple_of_six : {A B C D F G : Type 0} → Word I A E → Word I B E → Word I C E → Word I D E → Word I F E → Word I G E →
      Word I (A × B × C × D × F × G) E
  tuple_of_six a b c d f g = record { at = λ K. Tuple.tuple_of_six K.model (a.at K) (b.at K) (c.at K) (d.at K) (f.at K) (g.at K) }

  abbrev pub tuple_of_seven : {A B C D F G H : Type 0} → Word I A E → Word I B E → Word I C E → Word I D E → Word I F E → Word I G E → Word I H E →
      Word I (A × B × C × D × F × G × H) E
  tuple_of_seven a b c d f g h = record { at = λ K. Tuple.tuple_of_seven K.model (a.at K) (b.at K) (c.at K) (d.at K) (f.at K) (g.at K) (h.at K) }

  abbrev pub tuple_of_eight : {A B C D F G H J : Type 0} → Word I A E → Word I B E → Word I C E → Word I D E → Word I F E → Word I G E → Word I H E →
      Word I J E → Word I (A × B × C × D × F × G × H × J) E
  tuple_of_eight a b c d f g h j = record { at = λ K. Tuple.tuple_of_eight K.model (a.at K) (b.at K) (c.at K) (d.at K) (f.at K) (g.at K) (h.at K) (j.at K) }

  -- branch

  -- `alt_of (or_of (or_of g h) k)` is `alt((g, h, k))`
  abbrev pub or_of : {O : Type 0} → Word I O E → Word I O E → Word I O E
  or_of g h = record { at = λ K. Branch.or_of K.errors (g.at K) (h.at K) }

  abbrev pub alt_of : {O : Type 0} → Word I O E → Word I O E
  alt_of g = record { at = λ K. Branch.alt_of K.errors (g.at K) }

  -- the branches of a list, by their states
  abbrev pub alt_list_of : {S O : Type 0} → ((K : Kit I E) → Internal.Words S I O E) → List S → Word I O E
  alt_list_of k ss = record { at = λ K. Branch.list_of K.errors (k K) ss }

  -- `or`, as a method
  abbrev pub either_of : {O : Type 0} → Word I O E → Word I O E → Word I O E
  either_of g h = record { at = λ K. Plain.either_of K.errors.joined K.errors.grows (g.at K) (h.at K) }

  -- several in any order
  abbrev pub permutation_of_two : {A B : Type 0} → Word I A E → Word I B E → Word I (A × B) E
  permutation_of_two a b = record { at = λ K. Permutation.permutation_of_two K.model K.errors (a.at K) (b.at K) }

  abbrev pub permutation_of_three : {A B C : Type 0} → Word I A E → Word I B E → Word I C E → Word I (A × B × C) E
  permutation_of_three a b c = record { at = λ K. Permutation.permutation_of_three K.model K.errors (a.at K) (b.at K) (c.at K) }

  abbrev pub permutation_of_four : {A B C D : Type 0} → Word I A E → Word I B E → Word I C E → Word I D E → Word I (A × B × C × D) E
  permutation_of_four a b c d = record { at = λ K. Permutation.permutation_of_four K.model K.errors (a.at K) (b.at K) (c.at K) (d.at K) }

  abbrev pub permutation_of_five : {A B C D F : Type 0} → Word I A E → Word I B E → Word I C E → Word I D E → Word I F E → Word I (A × B × C × D × F) E
  permutation_of_five a b c d f = record { at = λ K. Permutation.permutation_of_five K.model K.errors (a.at K) (b.at K) (c.at K) (d.at K) (f.at K) }

  abbrev pub permutation_of_six : {A B C D F G : Type 0} → Word I A E → Word I B E → Word I C E → Word I D E → Word I F E → Word I G E →
      Word I (A × B × C × D × F × G) E
  permutation_of_six a b c d f g = record { at = λ K. Permutation.permutation_of_six K.model K.errors (a.at K) (b.at K) (c.at K) (d.at K) (f.at K) (g.at K) }

  abbrev pub permutation_of_seven : {A B C D F G H : Type 0} → Word I A E → Word I B E → Word I C E → Word I D E → Word I F E → Word I G E → Word I H E →
      Word I (A × B × C × D × F × G × H) E
  permutation_of_seven a b c d f g h = record {
    at = λ K. Permutation.permutation_of_seven K.model K.errors (a.at K) (b.at K) (c.at K) (d.at K) (f.at K) (g.at K) (h.at K);
  }

  abbrev pub permutation_of_eight : {A B C D F G H J : Type 0} → Word I A E → Word I B E → Word I C E → Word I D E → Word I F E → Word I G E → Word I H E →
      Word I J E → Word I (A × B × C × D × F × G × H × J) E
  permutation_of_eight a b c d f g h j = record {
    at = λ K. Permutation.permutation_of_eight K.model K.errors (a.at K) (b.at K) (c.at K) (d.at K) (f.at K) (g.at K) (h.at K) (j.at K);
  }

  -- combinator

  abbrev pub opt_of : {O : Type 0} → Word I O E → Word I (Option O) E
  opt_of g = record { at = λ K. Combinator.opt_of (g.at K) }

  abbrev pub cut_of : {O : Type 0} → Word I O E → Word I O E
  cut_of g = record { at = λ K. Combinator.cut_of (g.at K) }

  abbrev pub peek_of : {O : Type 0} → Word I O E → Word I O E
  peek_of g = record { at = λ K. Combinator.peek_of (g.at K) }

  abbrev pub not_of : {O : Type 0} → Word I O E → Word I (Unit {0}) E
  not_of g = record { at = λ K. Combinator.not_of K.errors (g.at K) }

  abbrev pub complete_of : {O : Type 0} → Word I O E → Word I O E
  complete_of g = record { at = λ K. Combinator.complete_of K.errors (g.at K) }

  abbrev pub all_consuming_of : {O : Type 0} → Word I O E → Word I O E
  all_consuming_of g = record { at = λ K. Combinator.all_consuming_of K.model K.errors (g.at K) }

  abbrev pub recognize_of : {O : Type 0} → Word I O E → Word I I E
  recognize_of g = record { at = λ K. Combinator.recognize_of K.model (g.at K) }

  abbrev pub consumed_of : {O : Type 0} → Word I O E → Word I (I × O) E
  consumed_of g = record { at = λ K. Combinator.consumed_of K.model (g.at K) }

  abbrev pub cond_of : {O : Type 0} → Bool → Word I O E → Word I (Option O) E
  cond_of b g = record { at = λ K. Combinator.cond_of b (g.at K) }

  abbrev pub eof_of : Word I I E
  eof_of = record { at = λ K. Combinator.eof_of K.model K.errors }

  abbrev pub rest_of : Word I I E
  rest_of = record { at = λ K. Combinator.rest_of K.model }

  abbrev pub rest_len_of : Word I ℕ E
  rest_len_of = record { at = λ K. Combinator.rest_len_of K.model }

  abbrev pub fail_of : {O : Type 0} → Word I O E
  fail_of = record { at = λ K. Combinator.fail_of K.errors }

  -- a value that is copied, as a number: alone, and in the place of each output
  abbrev pub success_of : {O : Type 0} → O → Word I O E
  success_of v = record { at = λ K. Combinator.success_of (λ a b. b ≡ a) v (Unit {0}) }

  abbrev pub value_of : {O P : Type 0} → P → Word I O E → Word I P E
  value_of v g = record { at = λ K. Combinator.value_of (λ a b. b ≡ a) v (Unit {0}) (g.at K) }

  -- in one mode, whatever the call's: `true` is that of `parse`
  abbrev pub fixed_of : {O : Type 0} → Bool → Word I O E → Word I O E
  fixed_of mode g = record { at = λ K. Plain.fixed_of mode (g.at K) }

  -- What a function returns for each output, a refusal where it returns `None`, and those of the outputs that pass a test. The words with
  -- `_by` name what the function takes and gives.
  abbrev pub map_of : {O P : Type 0} → (O → P) → Word I O E → Word I P E
  map_of f g = record { at = λ K. mapped (λ _. Unit {0}) (λ o p. p ≡ f o) (g.at K) }

  abbrev pub map_by : {O P : Type 0} → (O → Type 0) → (O → P → Type 0) → Word I O E → Word I P E
  map_by Takes Gives g = record { at = λ K. mapped Takes Gives (g.at K) }

  abbrev pub map_opt_of : {O P : Type 0} → (O → Option P) → Word I O E → Word I P E
  map_opt_of f g = record { at = λ K. map_opted K.errors (λ _. Unit {0}) (λ o p. p ≡ f o) (g.at K) }

  abbrev pub map_opt_by : {O P : Type 0} → (O → Type 0) → (O → Option P → Type 0) → Word I O E → Word I P E
  map_opt_by Takes Gives g = record { at = λ K. map_opted K.errors Takes Gives (g.at K) }

  -- a refusal with an error where it returns `Err`
  abbrev pub map_res_of : {O P X : Type 0} → (O → Result P X) → Word I O E → Word I P E
  map_res_of f g = record { at = λ K. map_resulted (K.externals _) (λ _. Unit {0}) (λ o r. r ≡ f o) (g.at K) }

  abbrev pub map_res_by : {O P X : Type 0} → (O → Type 0) → (O → Result P X → Type 0) → Word I O E → Word I P E
  map_res_by Takes Gives g = record { at = λ K. map_resulted (K.externals _) Takes Gives (g.at K) }

  abbrev pub verify_of : {O : Type 0} → (O → Bool) → Word I O E → Word I O E
  verify_of test g = record { at = λ K. verified K.errors (λ _. Unit {0}) (λ p b. b ≡ test p.now) (g.at K) }

  abbrev pub verify_by : {O : Type 0} → (Bor O → Type 0) → (Bor O → Bool → Type 0) → Word I O E → Word I O E
  verify_by Takes Gives g = record { at = λ K. verified K.errors Takes Gives (g.at K) }

  -- by closures that may run out of memory
  abbrev pub map_alloc_of : {O P : Type 0} → (O → Type 0) → (O → Result P OutOfMemory → Type 0) → Word I O E → Word I P E
  map_alloc_of Takes Gives g = record { at = λ K. CombinatorAlloc.map_alloc_of (mapping Takes Gives) (g.at K) }

  abbrev pub value_alloc_of : {O P : Type 0} → Type 0 → (Result P OutOfMemory → Type 0) → Word I O E → Word I P E
  value_alloc_of CanMake Makes g = record { at = λ K. CombinatorAlloc.value_alloc_of CanMake Makes (g.at K) }

  -- a name, that of the bytes of a literal, for the errors of a part
  abbrev pub context_of : {O : Type 0} → List ℕ → Word I O E → Word I O E
  context_of name g = record { at = λ K. Combinator.context_of K.contexts name (g.at K) }

  -- the parser that a closure returns for an output, by its state
  abbrev pub flat_map_of : {O P H S : Type 0} → Maker O H S → ((K : Kit I E) → Internal.Words S I P E) → Word I O E → Word I P E
  flat_map_of give k g = record { at = λ K. Plain.flat_map_of K.model give (k K) (g.at K) }

  -- multi

  abbrev pub many0_of : {O M : Type 0} → Word I O E → Word I (Vec O M) E
  many0_of g = record { at = λ K. Multi.many0_of K.model K.errors (g.at K) }

  abbrev pub many1_of : {O M : Type 0} → Word I O E → Word I (Vec O M) E
  many1_of g = record { at = λ K. Multi.many1_of K.model K.errors (g.at K) }

  abbrev pub count_of : {O M : Type 0} → ℕ → Word I O E → Word I (Vec O M) E
  count_of n g = record { at = λ K. Multi.count_of K.model K.errors n (g.at K) }

  abbrev pub many_m_n_of : {O M : Type 0} → (m n : ℕ) → Word I O E → Word I (Vec O M) E
  many_m_n_of m n g = record { at = λ K. Multi.many_m_n_of K.model K.errors m n (g.at K) }

  abbrev pub many_till_of : {O P M : Type 0} → Word I O E → Word I P E → Word I (Vec O M × P) E
  many_till_of g h = record { at = λ K. Multi.many_till_of K.model K.errors (g.at K) (h.at K) }

  -- the separator comes first
  abbrev pub separated_list0_of : {O Q M : Type 0} → Word I Q E → Word I O E → Word I (Vec O M) E
  separated_list0_of s g = record { at = λ K. Separated.separated_list0_of K.model K.errors (s.at K) (g.at K) }

  abbrev pub separated_list1_of : {O Q M : Type 0} → Word I Q E → Word I O E → Word I (Vec O M) E
  separated_list1_of s g = record { at = λ K. Separated.separated_list1_of K.model K.errors (s.at K) (g.at K) }

  abbrev pub fill_of : {O : Type 0} → ℕ → Word I O E → Word I (Unit {0}) E
  fill_of n g = record { at = λ K. Multi.fill_of K.model K.errors n (g.at K) }

  abbrev pub many0_count_of : {O : Type 0} → Word I O E → Word I ℕ E
  many0_count_of g = record { at = λ K. Fold.many0_count_of K.model K.errors (g.at K) }

  abbrev pub many1_count_of : {O : Type 0} → Word I O E → Word I ℕ E
  many1_count_of g = record { at = λ K. Fold.many1_count_of K.model K.errors (g.at K) }

  abbrev pub many_m_n_count_of : {O : Type 0} → (m n : ℕ) → Word I O E → Word I ℕ E
  many_m_n_count_of m n g = record { at = λ K. Fold.many_m_n_count_of K.model K.errors m n (g.at K) }

  -- a length, and that many items; what is parsed on exactly that much; that many outputs
  abbrev pub length_data_of : Word I ℕ E → Word I I E
  length_data_of n = record { at = λ K. Length.length_data_of K.model K.errors K.lack (λ k. k) (n.at K) }

  abbrev pub length_value_of : {O : Type 0} → Word I ℕ E → Word I O E → Word I O E
  length_value_of n g = record { at = λ K. Length.length_value_of K.model K.errors (λ k. k) (n.at K) (g.at K) }

  abbrev pub length_count_of : {O M : Type 0} → Word I ℕ E → Word I O E → Word I (Vec O M) E
  length_count_of n g = record { at = λ K. Length.length_count_of K.model K.errors (λ k. k) (n.at K) (g.at K) }

  -- Folds: when the first closure can be called and what the second takes, then what the first gives and what the second. A range is
  -- whether it is spent, and its bounds.
  abbrev pub fold_many0_of : {O R : Type 0} → Type 0 → (R → O → Type 0) → (R → Type 0) → (R → O → R → Type 0) → Word I O E → Word I R E
  fold_many0_of CanInit Takes Inits Gives g = record { at = λ K. Fold.fold_many0_of K.model K.errors (folding CanInit Takes Inits Gives) (g.at K) }

  abbrev pub fold_many1_of : {O R : Type 0} → Type 0 → (R → O → Type 0) → (R → Type 0) → (R → O → R → Type 0) → Word I O E → Word I R E
  fold_many1_of CanInit Takes Inits Gives g = record { at = λ K. Fold.fold_many1_of K.model K.errors (folding CanInit Takes Inits Gives) (g.at K) }

  abbrev pub fold_many_m_n_of : {O R : Type 0} → (m n : ℕ) → Type 0 → (R → O → Type 0) → (R → Type 0) → (R → O → R → Type 0) → Word I O E → Word I R E
  fold_many_m_n_of m n CanInit Takes Inits Gives g = record {
    at = λ K. Fold.fold_many_m_n_of K.model K.errors m n (folding CanInit Takes Inits Gives) (g.at K);
  }

  abbrev pub fold_of : {O R : Type 0} → Type 0 → (lower upper : Bound ℕ) → Type 0 → (R → O → Type 0) → (R → Type 0) → (R → O → R → Type 0) → Word I O E →
      Word I R E
  fold_of IsSpent lower upper CanInit Takes Inits Gives g = record {
    at = λ K. Fold.fold_of K.model K.errors IsSpent lower upper (folding CanInit Takes Inits Gives) (g.at K);
  }

  abbrev pub many_of : {O C : Type 0} → (C → List O) → Type 0 → (lower upper : Bound ℕ) → Word I O E → Word I C E
  many_of items IsSpent lower upper g = record { at = λ K. Fold.many_of K.model K.errors items IsSpent lower upper (g.at K) }

  abbrev pub fold_many0_alloc_of : {O R : Type 0} → Type 0 → (R → O → Type 0) → (Result R OutOfMemory → Type 0) → (R → O → Result R OutOfMemory → Type 0) →
      Word I O E → Word I R E
  fold_many0_alloc_of CanInit Takes Inits Gives g = record {
    at = λ K. FoldAlloc.fold_many0_alloc_of K.model K.errors (folding CanInit Takes Inits Gives) (g.at K);
  }

  abbrev pub fold_many1_alloc_of : {O R : Type 0} → Type 0 → (R → O → Type 0) → (Result R OutOfMemory → Type 0) → (R → O → Result R OutOfMemory → Type 0) →
      Word I O E → Word I R E
  fold_many1_alloc_of CanInit Takes Inits Gives g = record {
    at = λ K. FoldAlloc.fold_many1_alloc_of K.model K.errors (folding CanInit Takes Inits Gives) (g.at K);
  }

  -- A part that is a function: one whose contract is `Parses` of the word, as `parse` or as `parse_complete` answers, by the view of its output;
  -- one that ensures a second clause too; and one by what it takes and gives.
  abbrev pub func_of : {O : Type 0} → View O → Word I O E → Word I O E
  func_of view g = record { at = λ K. Calls.called K.model K.errors view (g.at K) }

  abbrev pub complete_func_of : {O : Type 0} → View O → Word I O E → Word I O E
  complete_func_of view g = record { at = λ K. Calls.given_of K.model K.errors view (λ i. Unit {0}) (λ i r. Internal.Answers K.model (g.at K) false i r) }

  abbrev pub stream_func_of : {O : Type 0} → View O → Word I O E → Word I O E
  stream_func_of view g = record { at = λ K. Calls.stream_called K.model K.errors view (g.at K) }

  abbrev pub func_with : {O : Type 0} → View O → Word I O E → (I → IResult I O E → Type 0) → Word I O E
  func_with view g Also = record { at = λ K. Calls.called_with K.model K.errors view (g.at K) Also }

  abbrev pub complete_func_with : {O : Type 0} → View O → Word I O E → (I → IResult I O E → Type 0) → Word I O E
  complete_func_with view g Also = record {
    at = λ K. Calls.given_of K.model K.errors view (λ i. Unit {0}) (λ i r. Internal.Answers K.model (g.at K) false i r × Also i r);
  }

  abbrev pub stream_func_with : {O : Type 0} → View O → Word I O E → (I → IResult I O E → Type 0) → Word I O E
  stream_func_with view g Also = record { at = λ K. Calls.stream_called_with K.model K.errors view (g.at K) Also }

  abbrev pub func_by : {O : Type 0} → View O → (I → Type 0) → (I → IResult I O E → Type 0) → Word I O E
  func_by view Takes Gives = record { at = λ K. Calls.given_of K.model K.errors view Takes Gives }

  abbrev pub stream_func_by : {O : Type 0} → View O → (I → Type 0) → (I → IResult I O E → Type 0) → Word I O E
  stream_func_by view Takes Gives = record { at = λ K. Calls.stream_given_of K.model K.errors view Takes Gives }

  -- A grammar that contains itself, in a mode, with at most that many layers in each other: by the word of a layer, which takes that of the
  -- layers inside it. And a rule of several, which takes those of the rules inside it: as such, and as a stream parser.
  abbrev pub recursive_of : {O : Type 0} → Bool → View O → (Word I O E → Word I O E) → ℕ → Word I O E
  recursive_of streaming view layer_of depth = record {
    at = λ K. Recursion.recursive_of K.model K.errors view streaming (layer_at K layer_of) depth;
  }

  abbrev pub recursive_rule_of : {O R : Type 0} → Bool → View O → ((R → Word I O E) → R → Word I O E) → ℕ → R → Word I O E
  recursive_rule_of streaming view rule_of depth rule = record {
    at = λ K. Recursion.recursive_rule_of K.model K.errors view streaming (rule_at K rule_of) depth rule;
  }

  abbrev pub stream_rule_of : {O R : Type 0} → View O → ((R → Word I O E) → R → Word I O E) → ℕ → R → Word I O E
  stream_rule_of view rule_of depth rule = record { at = λ K. Streams.stream_rule_of K.model K.errors view (rule_at K rule_of) depth rule }

  -- the failure of what lies too deep
  abbrev pub too_deep_of : {O : Type 0} → Word I O E
  too_deep_of = record { at = λ K. Recursion.too_deep_of K.errors }

-- words that name the error type
module _ {I E : Type 0} where
  -- `map_res`, by how the error type takes the errors of the function
  abbrev pub map_res_with : {O P X : Type 0} → Externals I X E → (O → Type 0) → (O → Result P X → Type 0) → Word I O E → Word I P E
  map_res_with externals Takes Gives g = record { at = λ K. map_resulted externals Takes Gives (g.at K) }

  -- a part on the output of another, which is an input with a kit of its own
  abbrev pub and_then_of : {J O : Type 0} → Kit J E → Word I J E → Word J O E → Word I O E
  and_then_of inner g h = record { at = λ K. Plain.and_then_of K.model inner.model (g.at K) (h.at inner) }

  -- outputs and errors that are converted
  abbrev pub into_of : {D O P : Type 0} → Kit I D → (O → P → Type 0) → (D → E → Type 0) → Word I O D → Word I P E
  into_of inner Gives Converts g = record { at = λ K. Plain.into_of Gives Converts (g.at inner) }
