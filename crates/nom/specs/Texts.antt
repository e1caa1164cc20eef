-- Grammars over texts, with `Error`: the words of `Words`, by `tools/words`.
use Rattle.std.specs.Prelude.{◌≡◌, ◌-◌, ℕ, Bool, List, Option, Some, None, Result, length, Contains, chars, ◌^◌, ℤ, pos, true, false, Vec, FitsSigned}
use Rattle.std.specs.Borrow.{Bor}
use Rattle.std.specs.Char.{IsScalar, len_utf8}
use Rattle.nom_ascii.specs.Sets.{Held}
pub use Rattle.nom_ascii.specs.Sets.{alphanumerics, alphas, and_of, digits, except_of, set_of, span_of}
use Rattle.nom_ascii.specs.declared.AsciiSet.{AsciiSet}
pub use Rattle.nom_error.specs.PlainErrors.{plain_errors}
use Rattle.nom_error.specs.declared.value.Error.{Error}
use Rattle.nom_internal.specs.Prelude.{ComparesText, ComparesTextNoCase, IResult, View, text_model}
pub use Rattle.nom_internal.specs.Prelude.{option_view, pair_view, text_view, vec_view}
use Rattle.nom_internal.specs.Word as Internal
use Rattle.nom_internal.specs.Words as Plain
pub use Rattle.nom_internal.specs.Words.{mapping, Mapping, mapping_is}
use Rattle.nom_search.specs.Substrings.{FindsFirst}
use Rattle.nom_combinator.specs.Words as Combinator
use Rattle.nom_recursion.specs.Streams as Streams
use Rattle.nom.specs.ErrorTypes.{unnamed}
use Rattle.std.specs.Int.{FitsUnsignedBits, w8, w16, w32, w64, w128}
use Rattle.std.specs.declared.ops.Bound.{Bound}
use Rattle.nom_error.specs.declared.answer.OutOfMemory.{OutOfMemory}
use Rattle.nom_error.specs.declared.kind.ErrorKind.TheVariants as Kind
use Rattle.nom_internal.specs.FlatMap.{Maker}
use Rattle.nom_internal.specs.TupleWords as Tuple
use Rattle.nom_traits.specs.declared.character.AsciiClass.TheVariants as Class
use Rattle.nom_branch.specs.PermutationWords as Permutation
use Rattle.nom_branch.specs.Words as Branch
use Rattle.nom_bytes.specs.Tests.{failing, outside, passing, within}
use Rattle.nom_bytes.specs.Words as Runs
use Rattle.nom_bytes_escaped.specs.Words as Escaped
use Rattle.nom_calls.specs.Words as Calls
use Rattle.nom_character.specs.LineMatches.{crlf_in, line_ending_in, line_in}
use Rattle.nom_character.specs.Tests.{char_outside, char_passing, char_within}
use Rattle.nom_character.specs.Words as Character
use Rattle.nom_character_integer.specs.DigitWords as Digits
use Rattle.nom_character_integer.specs.Words as Integer
use Rattle.nom_combinator.specs.AllocWords as CombinatorAlloc
use Rattle.nom_multi.specs.LengthWords as Length
use Rattle.nom_multi.specs.Words as Multi
use Rattle.nom_multi_fold.specs.AllocWords as FoldAlloc
use Rattle.nom_multi_fold.specs.Words as Fold
use Rattle.nom_multi_fold.specs.Words.{folding}
use Rattle.nom_number_text.specs.Words as NumberText
use Rattle.nom_recursion.specs.Recursion as Recursion
use Rattle.nom_separated.specs.Words as Separated
use Rattle.nom_sequence.specs.Words as Sequence
pub use Rattle.nom_number.specs.declared.order.Endianness.{Endianness}
pub use Rattle.nom_number.specs.declared.order.Endianness.TheVariants.{Big, Little, Native}
use Rattle.nom.specs.Kits.{map_opted, map_resulted, mapped, plain_externals, verified}
pub use Rattle.nom.specs.Kits.{plain_view, slice_view}

abbrev pub Text : Type 0
Text = Bor (List ℕ)

abbrev pub TextWord : Type 0 → Type 1
TextWord O = Internal.Word Text O (Error Text)

-- what `parse` (true) and `parse_complete` (false) answer by the word
abbrev pub Parses : {O : Type 0} → TextWord O → Bool → Text → IResult Text O (Error Text) → Type 0
Parses = Internal.Answers text_model

-- what a function of `streaming` ensures of its answer, by the word: that a decided one stays on every longer input
abbrev pub StreamsAs : {O : Type 0} → View O → TextWord O → Text → IResult Text O (Error Text) → Type 0
StreamsAs = Streams.StreamsAs text_model

abbrev pub tag_of : List ℕ → TextWord Text
tag_of t = Runs.tag_of text_model plain_errors length ComparesText t

-- without regard to the case of ASCII letters
abbrev pub tag_no_case_of : List ℕ → TextWord Text
tag_no_case_of t = Runs.tag_of text_model plain_errors length ComparesTextNoCase t

abbrev pub take_of : ℕ → TextWord Text
take_of count = Runs.take_of text_model plain_errors (λ _ _. None) count

-- the items before the first place of a needle; the second asks for one at least
abbrev pub take_until_of : List ℕ → TextWord Text
take_until_of needle = Runs.until_of text_model plain_errors (FindsFirst len_utf8) false (chars needle)

abbrev pub take_until1_of : List ℕ → TextWord Text
take_until1_of needle = Runs.until_of text_model plain_errors (FindsFirst len_utf8) true (chars needle)

-- the items that a list holds, or doesn't hold, one at least
abbrev pub is_a_of : List ℕ → TextWord Text
is_a_of set = Runs.run1_of text_model plain_errors Kind.IsA (within (Contains (chars set)))

abbrev pub is_not_of : List ℕ → TextWord Text
is_not_of set = Runs.run1_of text_model plain_errors Kind.IsNot (outside (Contains (chars set)))

-- the same of an `AsciiSet`
abbrev pub is_a_set_of : AsciiSet → TextWord Text
is_a_set_of set = Runs.run1_of text_model plain_errors Kind.IsA (within (Held set))

abbrev pub is_not_set_of : AsciiSet → TextWord Text
is_not_set_of set = Runs.run1_of text_model plain_errors Kind.IsNot (outside (Held set))

-- the items up to the first that fails a test, or passes it
abbrev pub take_while_of : (ℕ → Bool) → TextWord Text
take_while_of test = Runs.run_of text_model (passing IsScalar (λ _. Unit {0}) (λ item b. b ≡ test item))

abbrev pub take_while1_of : (ℕ → Bool) → TextWord Text
take_while1_of test = Runs.run1_of text_model plain_errors Kind.TakeWhile1 (passing IsScalar (λ _. Unit {0}) (λ item b. b ≡ test item))

abbrev pub take_while_m_n_of : (m n : ℕ) → (ℕ → Bool) → TextWord Text
take_while_m_n_of m n test = Runs.bounded_of text_model plain_errors m n (passing IsScalar (λ _. Unit {0}) (λ item b. b ≡ test item))

abbrev pub take_till_of : (ℕ → Bool) → TextWord Text
take_till_of test = Runs.run_of text_model (failing IsScalar (λ _. Unit {0}) (λ item b. b ≡ test item))

abbrev pub take_till1_of : (ℕ → Bool) → TextWord Text
take_till1_of test = Runs.run1_of text_model plain_errors Kind.TakeTill1 (failing IsScalar (λ _. Unit {0}) (λ item b. b ≡ test item))

-- items without one that escapes the next, and what follows it
abbrev pub escaped_of : {O P : Type 0} → TextWord O → ℕ → TextWord P → TextWord Text
escaped_of g c h = Escaped.escaped_of text_model plain_errors (λ x. x) g c h

-- the same, built: `parts` are those of the text, and the others what the outputs add to it
abbrev pub escaped_transform_of : {O P X A : Type 0} → (X → List A) → (O → List A) → (P → List A) → TextWord O → ℕ → TextWord P → TextWord X
escaped_transform_of parts normal_adds escapable_adds g c h = Escaped.escaped_transform_of text_model plain_errors (λ x. x) parts normal_adds escapable_adds g c
    h

abbrev pub char_of : ℕ → TextWord ℕ
char_of c = Character.char_of text_model plain_errors (λ x. x) c

abbrev pub satisfy_of : (ℕ → Bool) → TextWord ℕ
satisfy_of test = Character.satisfy_of text_model plain_errors (λ x. x) Kind.Satisfy (char_passing (λ x. x) IsScalar (λ _. Unit {0}) (λ c b. b ≡ test c))

abbrev pub one_of_of : List ℕ → TextWord ℕ
one_of_of set = Character.satisfy_of text_model plain_errors (λ x. x) Kind.OneOf (char_within (λ x. x) (Contains (chars set)))

abbrev pub none_of_of : List ℕ → TextWord ℕ
none_of_of set = Character.satisfy_of text_model plain_errors (λ x. x) Kind.NoneOf (char_outside (λ x. x) (Contains (chars set)))

-- the same of an `AsciiSet`
abbrev pub one_of_set_of : AsciiSet → TextWord ℕ
one_of_set_of set = Character.satisfy_of text_model plain_errors (λ x. x) Kind.OneOf (char_within (λ x. x) (Held set))

abbrev pub none_of_set_of : AsciiSet → TextWord ℕ
none_of_set_of set = Character.satisfy_of text_model plain_errors (λ x. x) Kind.NoneOf (char_outside (λ x. x) (Held set))

abbrev pub anychar_of : TextWord ℕ
anychar_of = Character.anychar_of text_model plain_errors (λ x. x)

abbrev pub newline_of : TextWord ℕ
newline_of = Character.char_of text_model plain_errors (λ x. x) 10

abbrev pub tab_of : TextWord ℕ
tab_of = Character.char_of text_model plain_errors (λ x. x) 9

abbrev pub crlf_of : TextWord Text
crlf_of = Character.match_of text_model plain_errors (crlf_in (λ x. x)) Kind.CrLf

abbrev pub line_ending_of : TextWord Text
line_ending_of = Character.match_of text_model plain_errors (line_ending_in (λ x. x)) Kind.CrLf

abbrev pub not_line_ending_of : TextWord Text
not_line_ending_of = Character.match_of text_model plain_errors (line_in (λ x. x)) Kind.Tag

-- runs of a class of ASCII characters
abbrev pub alpha0_of : TextWord Text
alpha0_of = Character.class_of text_model plain_errors (λ x. x) Class.Alpha None

abbrev pub alpha1_of : TextWord Text
alpha1_of = Character.class_of text_model plain_errors (λ x. x) Class.Alpha (Some Kind.Alpha)

abbrev pub digit0_of : TextWord Text
digit0_of = Character.class_of text_model plain_errors (λ x. x) Class.Digit None

abbrev pub digit1_of : TextWord Text
digit1_of = Character.class_of text_model plain_errors (λ x. x) Class.Digit (Some Kind.Digit)

abbrev pub hex_digit0_of : TextWord Text
hex_digit0_of = Character.class_of text_model plain_errors (λ x. x) Class.HexDigit None

abbrev pub hex_digit1_of : TextWord Text
hex_digit1_of = Character.class_of text_model plain_errors (λ x. x) Class.HexDigit (Some Kind.HexDigit)

abbrev pub oct_digit0_of : TextWord Text
oct_digit0_of = Character.class_of text_model plain_errors (λ x. x) Class.OctDigit None

abbrev pub oct_digit1_of : TextWord Text
oct_digit1_of = Character.class_of text_model plain_errors (λ x. x) Class.OctDigit (Some Kind.OctDigit)

abbrev pub bin_digit0_of : TextWord Text
bin_digit0_of = Character.class_of text_model plain_errors (λ x. x) Class.BinDigit None

abbrev pub bin_digit1_of : TextWord Text
bin_digit1_of = Character.class_of text_model plain_errors (λ x. x) Class.BinDigit (Some Kind.BinDigit)

abbrev pub alphanumeric0_of : TextWord Text
alphanumeric0_of = Character.class_of text_model plain_errors (λ x. x) Class.Alphanumeric None

abbrev pub alphanumeric1_of : TextWord Text
alphanumeric1_of = Character.class_of text_model plain_errors (λ x. x) Class.Alphanumeric (Some Kind.AlphaNumeric)

abbrev pub space0_of : TextWord Text
space0_of = Character.class_of text_model plain_errors (λ x. x) Class.Space None

abbrev pub space1_of : TextWord Text
space1_of = Character.class_of text_model plain_errors (λ x. x) Class.Space (Some Kind.Space)

abbrev pub multispace0_of : TextWord Text
multispace0_of = Character.class_of text_model plain_errors (λ x. x) Class.MultiSpace None

abbrev pub multispace1_of : TextWord Text
multispace1_of = Character.class_of text_model plain_errors (λ x. x) Class.MultiSpace (Some Kind.MultiSpace)

-- integers in decimal digits
abbrev pub u8_of : TextWord ℕ
u8_of = Integer.integer_of text_model plain_errors (λ x. x) (λ n. pos n) (FitsUnsignedBits 8) false

abbrev pub u16_of : TextWord ℕ
u16_of = Integer.integer_of text_model plain_errors (λ x. x) (λ n. pos n) (FitsUnsignedBits 16) false

abbrev pub u32_of : TextWord ℕ
u32_of = Integer.integer_of text_model plain_errors (λ x. x) (λ n. pos n) (FitsUnsignedBits 32) false

abbrev pub u64_of : TextWord ℕ
u64_of = Integer.integer_of text_model plain_errors (λ x. x) (λ n. pos n) (FitsUnsignedBits 64) false

abbrev pub u128_of : TextWord ℕ
u128_of = Integer.integer_of text_model plain_errors (λ x. x) (λ n. pos n) (FitsUnsignedBits 128) false

abbrev pub usize_of : TextWord ℕ
usize_of = Integer.integer_of text_model plain_errors (λ x. x) (λ n. pos n) (FitsUnsignedBits 64) false

abbrev pub i8_of : TextWord ℤ
i8_of = Integer.integer_of text_model plain_errors (λ x. x) (λ z. z) (FitsSigned w8) true

abbrev pub i16_of : TextWord ℤ
i16_of = Integer.integer_of text_model plain_errors (λ x. x) (λ z. z) (FitsSigned w16) true

abbrev pub i32_of : TextWord ℤ
i32_of = Integer.integer_of text_model plain_errors (λ x. x) (λ z. z) (FitsSigned w32) true

abbrev pub i64_of : TextWord ℤ
i64_of = Integer.integer_of text_model plain_errors (λ x. x) (λ z. z) (FitsSigned w64) true

abbrev pub i128_of : TextWord ℤ
i128_of = Integer.integer_of text_model plain_errors (λ x. x) (λ z. z) (FitsSigned w128) true

abbrev pub isize_of : TextWord ℤ
isize_of = Integer.integer_of text_model plain_errors (λ x. x) (λ z. z) (FitsSigned w64) true

-- numbers in n digits of a base, and in m to n
abbrev pub digits_u8_of : (base n : ℕ) → TextWord ℕ
digits_u8_of base n = Digits.digits_of text_model plain_errors (λ x. x) (λ v. v) (2 ^ 8 - 1) base n n

abbrev pub digits_u16_of : (base n : ℕ) → TextWord ℕ
digits_u16_of base n = Digits.digits_of text_model plain_errors (λ x. x) (λ v. v) (2 ^ 16 - 1) base n n

abbrev pub digits_u32_of : (base n : ℕ) → TextWord ℕ
digits_u32_of base n = Digits.digits_of text_model plain_errors (λ x. x) (λ v. v) (2 ^ 32 - 1) base n n

abbrev pub digits_u64_of : (base n : ℕ) → TextWord ℕ
digits_u64_of base n = Digits.digits_of text_model plain_errors (λ x. x) (λ v. v) (2 ^ 64 - 1) base n n

abbrev pub digits_u8_m_n_of : (base m n : ℕ) → TextWord ℕ
digits_u8_m_n_of base m n = Digits.digits_of text_model plain_errors (λ x. x) (λ v. v) (2 ^ 8 - 1) base m n

abbrev pub digits_u16_m_n_of : (base m n : ℕ) → TextWord ℕ
digits_u16_m_n_of base m n = Digits.digits_of text_model plain_errors (λ x. x) (λ v. v) (2 ^ 16 - 1) base m n

abbrev pub digits_u32_m_n_of : (base m n : ℕ) → TextWord ℕ
digits_u32_m_n_of base m n = Digits.digits_of text_model plain_errors (λ x. x) (λ v. v) (2 ^ 32 - 1) base m n

abbrev pub digits_u64_m_n_of : (base m n : ℕ) → TextWord ℕ
digits_u64_m_n_of base m n = Digits.digits_of text_model plain_errors (λ x. x) (λ v. v) (2 ^ 64 - 1) base m n

abbrev pub hex_u32_of : TextWord ℕ
hex_u32_of = NumberText.hex_u32_of text_model plain_errors (λ x. x)

abbrev pub recognize_float_of : TextWord Text
recognize_float_of = NumberText.recognize_float_of text_model plain_errors (λ x. x)

abbrev pub recognize_float_or_exceptions_of : TextWord Text
recognize_float_or_exceptions_of = NumberText.exceptions_of text_model plain_errors (λ x. x) (NumberText.recognize_float_of text_model plain_errors (λ x. x))

abbrev pub recognize_float_parts_of : TextWord (Bool × Text × Text × ℤ)
recognize_float_parts_of = NumberText.float_parts_of text_model plain_errors (λ x. x)

abbrev pub pair_of : {O P : Type 0} → TextWord O → TextWord P → TextWord (O × P)
pair_of g h = Plain.pair_of text_model g h

abbrev pub preceded_of : {O P : Type 0} → TextWord O → TextWord P → TextWord P
preceded_of g h = Sequence.preceded_of text_model g h

abbrev pub terminated_of : {O P : Type 0} → TextWord O → TextWord P → TextWord O
terminated_of g h = Sequence.terminated_of text_model g h

abbrev pub separated_pair_of : {O P Q : Type 0} → TextWord O → TextWord Q → TextWord P → TextWord (O × P)
separated_pair_of g s h = Sequence.separated_pair_of text_model g s h

abbrev pub delimited_of : {O P Q : Type 0} → TextWord O → TextWord P → TextWord Q → TextWord P
delimited_of g h k = Sequence.delimited_of text_model g h k

-- several in turn
abbrev pub tuple_of_two : {A B : Type 0} → TextWord A → TextWord B → TextWord (A × B)
tuple_of_two a b = Tuple.tuple_of_two text_model a b

abbrev pub tuple_of_three : {A B C : Type 0} → TextWord A → TextWord B → TextWord C → TextWord (A × B × C)
tuple_of_three a b c = Tuple.tuple_of_three text_model a b c

abbrev pub tuple_of_four : {A B C D : Type 0} → TextWord A → TextWord B → TextWord C → TextWord D → TextWord (A × B × C × D)
tuple_of_four a b c d = Tuple.tuple_of_four text_model a b c d

abbrev pub tuple_of_five : {A B C D F : Type 0} → TextWord A → TextWord B → TextWord C → TextWord D → TextWord F → TextWord (A × B × C × D × F)
tuple_of_five a b c d f = Tuple.tuple_of_five text_model a b c d f

abbrev pub tuple_of_six : {A B C D F G : Type 0} → TextWord A → TextWord B → TextWord C → TextWord D → TextWord F → TextWord G →
    TextWord (A × B × C × D × F × G)
tuple_of_six a b c d f g = Tuple.tuple_of_six text_model a b c d f g

abbrev pub tuple_of_seven : {A B C D F G H : Type 0} → TextWord A → TextWord B → TextWord C → TextWord D → TextWord F → TextWord G → TextWord H →
    TextWord (A × B × C × D × F × G × H)
tuple_of_seven a b c d f g h = Tuple.tuple_of_seven text_model a b c d f g h

abbrev pub tuple_of_eight : {A B C D F G H J : Type 0} → TextWord A → TextWord B → TextWord C → TextWord D → TextWord F → TextWord G → TextWord H → TextWord J →
    TextWord (A × B × C × D × F × G × H × J)
tuple_of_eight a b c d f g h j = Tuple.tuple_of_eight text_model a b c d f g h j

-- `alt_of (or_of (or_of g h) k)` is `alt((g, h, k))`
abbrev pub or_of : {O : Type 0} → TextWord O → TextWord O → TextWord O
or_of g h = Branch.or_of plain_errors g h

abbrev pub alt_of : {O : Type 0} → TextWord O → TextWord O
alt_of g = Branch.alt_of plain_errors g

-- the branches of a list, by their states
abbrev pub alt_list_of : {S O : Type 0} → (Internal.Words S Text O (Error Text)) → List S → TextWord O
alt_list_of k ss = Branch.list_of plain_errors k ss

-- `or`, as a method
abbrev pub either_of : {O : Type 0} → TextWord O → TextWord O → TextWord O
either_of g h = Plain.either_of (λ _ other e. e ≡ other) ⊥ g h

-- several in any order
abbrev pub permutation_of_two : {A B : Type 0} → TextWord A → TextWord B → TextWord (A × B)
permutation_of_two a b = Permutation.permutation_of_two text_model plain_errors a b

abbrev pub permutation_of_three : {A B C : Type 0} → TextWord A → TextWord B → TextWord C → TextWord (A × B × C)
permutation_of_three a b c = Permutation.permutation_of_three text_model plain_errors a b c

abbrev pub permutation_of_four : {A B C D : Type 0} → TextWord A → TextWord B → TextWord C → TextWord D → TextWord (A × B × C × D)
permutation_of_four a b c d = Permutation.permutation_of_four text_model plain_errors a b c d

abbrev pub permutation_of_five : {A B C D F : Type 0} → TextWord A → TextWord B → TextWord C → TextWord D → TextWord F → TextWord (A × B × C × D × F)
permutation_of_five a b c d f = Permutation.permutation_of_five text_model plain_errors a b c d f

abbrev pub permutation_of_six : {A B C D F G : Type 0} → TextWord A → TextWord B → TextWord C → TextWord D → TextWord F → TextWord G →
    TextWord (A × B × C × D × F × G)
permutation_of_six a b c d f g = Permutation.permutation_of_six text_model plain_errors a b c d f g

abbrev pub permutation_of_seven : {A B C D F G H : Type 0} → TextWord A → TextWord B → TextWord C → TextWord D → TextWord F → TextWord G → TextWord H →
    TextWord (A × B × C × D × F × G × H)
permutation_of_seven a b c d f g h = Permutation.permutation_of_seven text_model plain_errors a b c d f g h

abbrev pub permutation_of_eight : {A B C D F G H J : Type 0} → TextWord A → TextWord B → TextWord C → TextWord D → TextWord F → TextWord G → TextWord H →
    TextWord J → TextWord (A × B × C × D × F × G × H × J)
permutation_of_eight a b c d f g h j = Permutation.permutation_of_eight text_model plain_errors a b c d f g h j

abbrev pub opt_of : {O : Type 0} → TextWord O → TextWord (Option O)
opt_of g = Combinator.opt_of g

abbrev pub cut_of : {O : Type 0} → TextWord O → TextWord O
cut_of g = Combinator.cut_of g

abbrev pub peek_of : {O : Type 0} → TextWord O → TextWord O
peek_of g = Combinator.peek_of g

abbrev pub not_of : {O : Type 0} → TextWord O → TextWord (Unit {0})
not_of g = Combinator.not_of plain_errors g

abbrev pub complete_of : {O : Type 0} → TextWord O → TextWord O
complete_of g = Combinator.complete_of plain_errors g

abbrev pub all_consuming_of : {O : Type 0} → TextWord O → TextWord O
all_consuming_of g = Combinator.all_consuming_of text_model plain_errors g

abbrev pub recognize_of : {O : Type 0} → TextWord O → TextWord Text
recognize_of g = Combinator.recognize_of text_model g

abbrev pub consumed_of : {O : Type 0} → TextWord O → TextWord (Text × O)
consumed_of g = Combinator.consumed_of text_model g

abbrev pub cond_of : {O : Type 0} → Bool → TextWord O → TextWord (Option O)
cond_of b g = Combinator.cond_of b g

abbrev pub eof_of : TextWord Text
eof_of = Combinator.eof_of text_model plain_errors

abbrev pub rest_of : TextWord Text
rest_of = Combinator.rest_of text_model

abbrev pub rest_len_of : TextWord ℕ
rest_len_of = Combinator.rest_len_of text_model

abbrev pub fail_of : {O : Type 0} → TextWord O
fail_of = Combinator.fail_of plain_errors

-- a value that is copied, as a number: alone, and in the place of each output
abbrev pub success_of : {O : Type 0} → O → TextWord O
success_of v = Combinator.success_of (λ a b. b ≡ a) v (Unit {0})

abbrev pub value_of : {O P : Type 0} → P → TextWord O → TextWord P
value_of v g = Combinator.value_of (λ a b. b ≡ a) v (Unit {0}) g

-- in one mode, whatever the call's: `true` is that of `parse`
abbrev pub fixed_of : {O : Type 0} → Bool → TextWord O → TextWord O
fixed_of mode g = Plain.fixed_of mode g

-- What a function returns for each output, a refusal where it returns `None`, and those of the outputs that pass a test. The words with
-- `_by` name what the function takes and gives.
abbrev pub map_of : {O P : Type 0} → (O → P) → TextWord O → TextWord P
map_of f g = mapped (λ _. Unit {0}) (λ o p. p ≡ f o) g

abbrev pub map_by : {O P : Type 0} → (O → Type 0) → (O → P → Type 0) → TextWord O → TextWord P
map_by Takes Gives g = mapped Takes Gives g

abbrev pub map_opt_of : {O P : Type 0} → (O → Option P) → TextWord O → TextWord P
map_opt_of f g = map_opted plain_errors (λ _. Unit {0}) (λ o p. p ≡ f o) g

abbrev pub map_opt_by : {O P : Type 0} → (O → Type 0) → (O → Option P → Type 0) → TextWord O → TextWord P
map_opt_by Takes Gives g = map_opted plain_errors Takes Gives g

-- a refusal with an error where it returns `Err`
abbrev pub map_res_of : {O P X : Type 0} → (O → Result P X) → TextWord O → TextWord P
map_res_of f g = map_resulted plain_externals (λ _. Unit {0}) (λ o r. r ≡ f o) g

abbrev pub map_res_by : {O P X : Type 0} → (O → Type 0) → (O → Result P X → Type 0) → TextWord O → TextWord P
map_res_by Takes Gives g = map_resulted plain_externals Takes Gives g

abbrev pub verify_of : {O : Type 0} → (O → Bool) → TextWord O → TextWord O
verify_of test g = verified plain_errors (λ _. Unit {0}) (λ p b. b ≡ test p.now) g

abbrev pub verify_by : {O : Type 0} → (Bor O → Type 0) → (Bor O → Bool → Type 0) → TextWord O → TextWord O
verify_by Takes Gives g = verified plain_errors Takes Gives g

-- by closures that may run out of memory
abbrev pub map_alloc_of : {O P : Type 0} → (O → Type 0) → (O → Result P OutOfMemory → Type 0) → TextWord O → TextWord P
map_alloc_of Takes Gives g = CombinatorAlloc.map_alloc_of (mapping Takes Gives) g

abbrev pub value_alloc_of : {O P : Type 0} → Type 0 → (Result P OutOfMemory → Type 0) → TextWord O → TextWord P
value_alloc_of CanMake Makes g = CombinatorAlloc.value_alloc_of CanMake Makes g

-- a name, that of the bytes of a literal, for the errors of a part
abbrev pub context_of : {O : Type 0} → List ℕ → TextWord O → TextWord O
context_of name g = Combinator.context_of unnamed name g

-- the parser that a closure returns for an output, by its state
abbrev pub flat_map_of : {O P H S : Type 0} → Maker O H S → (Internal.Words S Text P (Error Text)) → TextWord O → TextWord P
flat_map_of give k g = Plain.flat_map_of text_model give k g

abbrev pub many0_of : {O M : Type 0} → TextWord O → TextWord (Vec O M)
many0_of g = Multi.many0_of text_model plain_errors g

abbrev pub many1_of : {O M : Type 0} → TextWord O → TextWord (Vec O M)
many1_of g = Multi.many1_of text_model plain_errors g

abbrev pub count_of : {O M : Type 0} → ℕ → TextWord O → TextWord (Vec O M)
count_of n g = Multi.count_of text_model plain_errors n g

abbrev pub many_m_n_of : {O M : Type 0} → (m n : ℕ) → TextWord O → TextWord (Vec O M)
many_m_n_of m n g = Multi.many_m_n_of text_model plain_errors m n g

abbrev pub many_till_of : {O P M : Type 0} → TextWord O → TextWord P → TextWord (Vec O M × P)
many_till_of g h = Multi.many_till_of text_model plain_errors g h

-- the separator comes first
abbrev pub separated_list0_of : {O Q M : Type 0} → TextWord Q → TextWord O → TextWord (Vec O M)
separated_list0_of s g = Separated.separated_list0_of text_model plain_errors s g

abbrev pub separated_list1_of : {O Q M : Type 0} → TextWord Q → TextWord O → TextWord (Vec O M)
separated_list1_of s g = Separated.separated_list1_of text_model plain_errors s g

abbrev pub fill_of : {O : Type 0} → ℕ → TextWord O → TextWord (Unit {0})
fill_of n g = Multi.fill_of text_model plain_errors n g

abbrev pub many0_count_of : {O : Type 0} → TextWord O → TextWord ℕ
many0_count_of g = Fold.many0_count_of text_model plain_errors g

abbrev pub many1_count_of : {O : Type 0} → TextWord O → TextWord ℕ
many1_count_of g = Fold.many1_count_of text_model plain_errors g

abbrev pub many_m_n_count_of : {O : Type 0} → (m n : ℕ) → TextWord O → TextWord ℕ
many_m_n_count_of m n g = Fold.many_m_n_count_of text_model plain_errors m n g

-- a length, and that many items; what is parsed on exactly that much; that many outputs
abbrev pub length_data_of : TextWord ℕ → TextWord Text
length_data_of n = Length.length_data_of text_model plain_errors (λ _ _. None) (λ k. k) n

abbrev pub length_value_of : {O : Type 0} → TextWord ℕ → TextWord O → TextWord O
length_value_of n g = Length.length_value_of text_model plain_errors (λ k. k) n g

abbrev pub length_count_of : {O M : Type 0} → TextWord ℕ → TextWord O → TextWord (Vec O M)
length_count_of n g = Length.length_count_of text_model plain_errors (λ k. k) n g

-- Folds: when the first closure can be called and what the second takes, then what the first gives and what the second. A range is
-- whether it is spent, and its bounds.
abbrev pub fold_many0_of : {O R : Type 0} → Type 0 → (R → O → Type 0) → (R → Type 0) → (R → O → R → Type 0) → TextWord O → TextWord R
fold_many0_of CanInit Takes Inits Gives g = Fold.fold_many0_of text_model plain_errors (folding CanInit Takes Inits Gives) g

abbrev pub fold_many1_of : {O R : Type 0} → Type 0 → (R → O → Type 0) → (R → Type 0) → (R → O → R → Type 0) → TextWord O → TextWord R
fold_many1_of CanInit Takes Inits Gives g = Fold.fold_many1_of text_model plain_errors (folding CanInit Takes Inits Gives) g

abbrev pub fold_many_m_n_of : {O R : Type 0} → (m n : ℕ) → Type 0 → (R → O → Type 0) → (R → Type 0) → (R → O → R → Type 0) → TextWord O → TextWord R
fold_many_m_n_of m n CanInit Takes Inits Gives g = Fold.fold_many_m_n_of text_model plain_errors m n (folding CanInit Takes Inits Gives) g

abbrev pub fold_of : {O R : Type 0} → Type 0 → (lower upper : Bound ℕ) → Type 0 → (R → O → Type 0) → (R → Type 0) → (R → O → R → Type 0) → TextWord O →
    TextWord R
fold_of IsSpent lower upper CanInit Takes Inits Gives g = Fold.fold_of text_model plain_errors IsSpent lower upper (folding CanInit Takes Inits Gives) g

abbrev pub many_of : {O C : Type 0} → (C → List O) → Type 0 → (lower upper : Bound ℕ) → TextWord O → TextWord C
many_of items IsSpent lower upper g = Fold.many_of text_model plain_errors items IsSpent lower upper g

abbrev pub fold_many0_alloc_of : {O R : Type 0} → Type 0 → (R → O → Type 0) → (Result R OutOfMemory → Type 0) → (R → O → Result R OutOfMemory → Type 0) →
    TextWord O → TextWord R
fold_many0_alloc_of CanInit Takes Inits Gives g = FoldAlloc.fold_many0_alloc_of text_model plain_errors (folding CanInit Takes Inits Gives) g

abbrev pub fold_many1_alloc_of : {O R : Type 0} → Type 0 → (R → O → Type 0) → (Result R OutOfMemory → Type 0) → (R → O → Result R OutOfMemory → Type 0) →
    TextWord O → TextWord R
fold_many1_alloc_of CanInit Takes Inits Gives g = FoldAlloc.fold_many1_alloc_of text_model plain_errors (folding CanInit Takes Inits Gives) g

-- A part that is a function: one whose contract is `Parses` of the word, as `parse` or as `parse_complete` answers, by the view of its output;
-- one that ensures a second clause too; and one by what it takes and gives.
abbrev pub func_of : {O : Type 0} → View O → TextWord O → TextWord O
func_of view g = Calls.called text_model plain_errors view g

abbrev pub complete_func_of : {O : Type 0} → View O → TextWord O → TextWord O
complete_func_of view g = Calls.given_of text_model plain_errors view (λ i. Unit {0}) (λ i r. Internal.Answers text_model g false i r)

abbrev pub stream_func_of : {O : Type 0} → View O → TextWord O → TextWord O
stream_func_of view g = Calls.stream_called text_model plain_errors view g

abbrev pub func_with : {O : Type 0} → View O → TextWord O → (Text → IResult Text O (Error Text) → Type 0) → TextWord O
func_with view g Also = Calls.called_with text_model plain_errors view g Also

abbrev pub complete_func_with : {O : Type 0} → View O → TextWord O → (Text → IResult Text O (Error Text) → Type 0) → TextWord O
complete_func_with view g Also = Calls.given_of text_model plain_errors view (λ i. Unit {0}) (λ i r. Internal.Answers text_model g false i r × Also i r)

abbrev pub stream_func_with : {O : Type 0} → View O → TextWord O → (Text → IResult Text O (Error Text) → Type 0) → TextWord O
stream_func_with view g Also = Calls.stream_called_with text_model plain_errors view g Also

abbrev pub func_by : {O : Type 0} → View O → (Text → Type 0) → (Text → IResult Text O (Error Text) → Type 0) → TextWord O
func_by view Takes Gives = Calls.given_of text_model plain_errors view Takes Gives

abbrev pub stream_func_by : {O : Type 0} → View O → (Text → Type 0) → (Text → IResult Text O (Error Text) → Type 0) → TextWord O
stream_func_by view Takes Gives = Calls.stream_given_of text_model plain_errors view Takes Gives

-- A grammar that contains itself, in a mode, with at most that many layers in each other: by the word of a layer, which takes that of the
-- layers inside it. And a rule of several, which takes those of the rules inside it: as such, and as a stream parser.
abbrev pub recursive_of : {O : Type 0} → Bool → View O → (TextWord O → TextWord O) → ℕ → TextWord O
recursive_of streaming view layer_of depth = Recursion.recursive_of text_model plain_errors view streaming layer_of depth

abbrev pub recursive_rule_of : {O R : Type 0} → Bool → View O → ((R → TextWord O) → R → TextWord O) → ℕ → R → TextWord O
recursive_rule_of streaming view rule_of depth rule = Recursion.recursive_rule_of text_model plain_errors view streaming rule_of depth rule

abbrev pub stream_rule_of : {O R : Type 0} → View O → ((R → TextWord O) → R → TextWord O) → ℕ → R → TextWord O
stream_rule_of view rule_of depth rule = Streams.stream_rule_of text_model plain_errors view rule_of depth rule

-- the failure of what lies too deep
abbrev pub too_deep_of : {O : Type 0} → TextWord O
too_deep_of = Recursion.too_deep_of plain_errors
