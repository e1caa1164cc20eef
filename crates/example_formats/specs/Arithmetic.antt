-- Whole numbers with operators between them, and brackets: their grammar, and the values that it gives.
use Rattle.std.specs.Prelude.{◌^◌, length, ◌≡◌, ℕ, zero, suc, ◌==◌, ◌<◌, cond, false, ◌⊎◌, IsTrue, ◌↔◌, Contains, Option, Some, None, List, [], ◌∷◌}
use Rattle.std.specs.Prelude.{chars, codes, ℤ, pos, neg_ℤ, ◌+ℤ◌, ◌-ℤ◌, ◌*ℤ◌, encode_utf8_all, int_div, Result, Ok, Err, IfErr, FitsSigned}
use Rattle.std.specs.Borrow.{Bor}
use Rattle.std.specs.Int.{w64, int_pow, IsNonZero}
use Rattle.std.specs.Str.Parse.{ParsesSigned}
use Rattle.nom_internal.specs.Prelude.{IResult, ErrorKind, Errors, View, itself, pair_view, text_view, result_view, Slice, IsModelledBy, text_model}
use Rattle.nom_internal.specs.Prelude.{EitherOutput, Meaning, ParsesMeaning}
use Rattle.nom_error.specs.declared.answer.Err.TheVariants as Answered
use Rattle.nom_error.specs.declared.kind.ErrorKind.TheVariants as Kind
use Rattle.nom_traits.specs.declared.character.AsciiClass.TheVariants.{Digit}
use Rattle.nom_calls.specs.Func.{IsParser, IsViewed, TakesAll, func_meaning}
use Rattle.nom_character.specs.ClassRuns.{class_meaning}
use Rattle.nom_character_first.specs.FirstItem.{char_meaning, satisfy_meaning}
use Rattle.nom_sequence.specs.Sequences.{preceded_meaning, terminated_meaning}
use Rattle.nom_branch.specs.Alternatives.{choice_meaning, next_meaning}
use Rattle.nom_combinator.specs.Verdicts.{cut_meaning}
use Rattle.nom_combinator.specs.Ends.{fail_meaning}
use Rattle.nom_operators.specs.declared.operation.Assoc.{Assoc}
use Rattle.nom_operators.specs.declared.operation.Assoc.TheVariants.{Left, Right}
use Rattle.nom_operators.specs.declared.operation.Operation.{Operation}
use Rattle.nom_operators.specs.declared.operation.Operation.TheVariants.{Prefix, Postfix, Binary}
use Rattle.nom_precedence.specs.Expressions.{Term, Pair, precedence_meaning}
use Rattle.nom_precedence.specs.Operators.{HasLevel}
use Rattle.nom_operators.specs.Groups.{groups_left}
use Rattle.nom_precedence.specs.Values.{folding, StandsFor}
use Rattle.example_formats.specs.declared.arithmetic.Fault.{Fault}
use Rattle.example_formats.specs.declared.arithmetic.Wrong.{Wrong}
use Rattle.example_formats.specs.declared.arithmetic.Wrong.TheVariants.{Overflow, DivisionByZero, Exponent}

abbrev pub Text : Type 0
Text = Bor (List ℕ)

-- the value of a part; or why there is none, and the text from there on
abbrev pub Worth : Type 0
Worth = Result ℤ (Wrong × Text)

-- an operator by its character, after the text from there on
abbrev pub Sign : Type 0
Sign = Text × ℕ

abbrev pub FormResult : Type 0 → Type 0
FormResult O = IResult Text O Fault

-- values

-- the first where a condition holds, and else the second
abbrev pub If : Type 0 → Type 0 → Type 0 → Type 0
If Holds First Second = (Holds × First) ⊎ (¬ Holds × Second)

-- a number where it fits, and else an overflow at a place
abbrev pub Fits : ℤ → Text → Worth → Type 0
Fits z place v = If (FitsSigned w64 z) (v ≡ Ok z) (v ≡ Err (Overflow, place))

-- the number, if there is one
abbrev pub IsFitting : Option ℤ → Text → Worth → Type 0
IsFitting (Some z) place v = v ≡ Ok z
IsFitting None place v = v ≡ Err (Overflow, place)

-- The number that digits tell; an overflow where they tell none that fits.
abbrev pub IsNumber : Text → Text → Worth → Type 0
IsNumber place digits v = ParsesSigned w64 10 (encode_utf8_all (chars digits.now)) v × IfErr v (λ e. e ≡ (Overflow, place))

-- a power, whose exponent is a `u32`
abbrev pub Powers : ℤ → ℤ → Text → Worth → Type 0
Powers x y place v = ((k : ℕ) × (y ≡ pos k) × (k < 2 ^ 32) × Fits (int_pow x k) place v) ⊎
    (((k : ℕ) → y ≡ pos k → k < 2 ^ 32 → ⊥) × (v ≡ Err (Exponent, place)))

-- a quotient, rounded towards 0
abbrev pub Divides : ℤ → ℤ → Text → Worth → Type 0
Divides x y place v = If (IsNonZero w64 y) (Fits (int_div x y) place v) (v ≡ Err (DivisionByZero, place))

-- what an operator of two numbers gives: `^`, `*`, `/`, `+`, and else `-`
abbrev pub Operates : Sign → ℤ → ℤ → Worth → Type 0
Operates o x y v =
    If (o.1 ≡ 94) (Powers x y o.0 v) (
    If (o.1 ≡ 42) (Fits (x *ℤ y) o.0 v) (
    If (o.1 ≡ 47) (Divides x y o.0 v) (
    If (o.1 ≡ 43) (Fits (x +ℤ y) o.0 v) (Fits (x -ℤ y) o.0 v))))

-- What an operation gives. Where a side has no value, neither has it: of two faults the left one counts.
abbrev pub Joins : Sign → Worth → Worth → Worth → Type 0
Joins o (Err e) y v = v ≡ Err e
Joins o (Ok a) (Err e) v = v ≡ Err e
Joins o (Ok a) (Ok b) v = Operates o a b v

abbrev pub Negates : Text → Worth → Worth → Type 0
Negates place (Ok a) v = Fits (neg_ℤ a) place v
Negates place (Err e) v = v ≡ Err e

abbrev pub Applies : Operation Text (Unit {0}) Sign Worth → Worth → Type 0
Applies (Prefix place x) v = Negates place x v
Applies (Postfix x o) v = v ≡ x
Applies (Binary x o y) v = Joins o x y v

-- `^` binds the tightest, then `*` and `/`, and then `+` and `-`
abbrev pub level_of : ℕ → ℕ
level_of c = cond (c == 94) 0 (cond (c == 42) 1 (cond (c == 47) 1 2))

-- `^` is grouped from the right, and the others from the left
abbrev pub levels : List Assoc
levels = Right ∷ Left ∷ Left ∷ []

-- the grammar

abbrev pub faults : Errors Text Fault
faults = record {
  of_kind = λ i kind e. e ≡ Fault.Syntax i kind;
  appended = λ _ _ other e. e ≡ other;
  of_char = λ i _ e. e ≡ Fault.Syntax i Kind.Char;
  joined = λ _ other e. e ≡ other;
  grows = ⊥;
}

pub record Grammar (V O : Type 0) : Type 1 where
  pub meaning : Meaning Text V Fault
  pub IsOutput : V → O → Type 0

abbrev pub Parses : {V O : Type 0} → Grammar V O → Text → FormResult O → Type 0
Parses g i r = ParsesMeaning text_model g.IsOutput g.meaning false i r

abbrev pub view : View Worth
view = result_view itself (pair_view itself text_view)

-- What a grammar accepts becomes what a relation gives for it, and for the text from its start on.
abbrev pub IsGiven : {O P : Type 0} → (Text → O → P → Type 0) → Text → FormResult O → FormResult P → Type 0
IsGiven {P = P} Gives i (Ok (j, x)) r = (y : P) × Gives i x y × (r ≡ Ok (j, y))
IsGiven Gives i (Err e) r = r ≡ Err e

pub record Given {V O P : Type 0} (Gives : Text → O → P → Type 0) (g : Grammar V O) (i : Text) (r : FormResult P) : Type 0 where
  pub found : FormResult O
  pub parsed : Parses g i found
  pub given : IsGiven Gives i found r

-- a function as a part, by which texts it takes, and what it answers
abbrev pub func_of : {O : Type 0} (model : View O) → (Text → Type 0) → (Text → FormResult O → Type 0) → Grammar model.Value O
func_of model Takes Gives = record {
  meaning = func_meaning text_model model Gives faults (TakesAll text_model Takes) (IsParser text_model model Gives);
  IsOutput = IsViewed model;
}

-- it takes any text
abbrev pub Any : Text → Type 0
Any i = Unit {0}

abbrev pub char_of : ℕ → Grammar ℕ ℕ
char_of c = record { meaning = char_meaning text_model (λ x. x) faults c; IsOutput = λ t o. o ≡ t }

abbrev pub one_of_by : List ℕ → ErrorKind → Grammar ℕ ℕ
one_of_by set kind = record {
  meaning = satisfy_meaning text_model (λ x. x) (λ x b. IsTrue b ↔ Contains (chars set) x) faults kind;
  IsOutput =
      λ t o. o ≡ t;
}

abbrev pub digits_of : Grammar (Slice text_model) Text
digits_of = record { meaning = class_meaning text_model (λ x. x) faults Digit (Some Kind.Digit); IsOutput = IsModelledBy text_model }

abbrev pub IsPlace : Text → ℕ → Text → Type 0
IsPlace i x y = y ≡ i

abbrev pub IsLeveled : Text → ℕ → ℕ × Sign → Type 0
IsLeveled i c o = o ≡ (level_of c, (i, c))

abbrev pub sign_view : View (ℕ × Sign)
sign_view = pair_view itself (pair_view text_view itself)

abbrev pub minus_of : Grammar (List ℕ) Text
minus_of = func_of text_view Any (Given IsPlace (char_of 45))

abbrev pub number_of : Grammar view.Value Worth
number_of = func_of view Any (Given IsNumber digits_of)

abbrev pub operator_of : Grammar sign_view.Value (ℕ × Sign)
operator_of = func_of sign_view Any (Given IsLeveled (one_of_by (codes "^*/+-") Kind.OneOf))

-- what stands between two characters, after the first of which nothing else may stand
abbrev pub brackets_by : {V O : Type 0} (opens closes : ℕ) → Grammar V O → Grammar V O
brackets_by opens closes g = record {
  meaning = preceded_meaning text_model (char_of opens).meaning (terminated_meaning text_model (cut_meaning g.meaning) (cut_meaning (char_of closes).meaning));
  IsOutput = g.IsOutput;
}

abbrev pub Operand : Type 0
Operand = view.Value ⊎ view.Value

abbrev pub operand_by : (opens closes : ℕ) → Grammar view.Value Worth → Grammar Operand Worth
operand_by opens closes g = record {
  meaning = choice_meaning faults (next_meaning faults (brackets_by opens closes g).meaning number_of.meaning);
  IsOutput = EitherOutput g.IsOutput number_of.IsOutput;
}

abbrev pub none_of : Grammar (Unit {0}) (Unit {0})
none_of = record { meaning = fail_meaning faults; IsOutput = λ t o. o ≡ t }

abbrev pub Part : Type 0
Part = Term (List ℕ) Operand (Unit {0})

abbrev pub Sum : Type 0
Sum = Part × List (Pair sign_view.Value Part)

-- operands with operators between them, and `-` before them
abbrev pub sum_by : (groups : List Assoc) (opens closes : ℕ) → Grammar view.Value Worth → Grammar Sum Worth
sum_by groups opens closes inside = record {
  meaning = precedence_meaning text_model faults (Unit {0}) (HasLevel operator_of.IsOutput (λ o. o.0)) (length groups) minus_of.meaning
      (operand_by opens closes inside).meaning none_of.meaning operator_of.meaning;
  IsOutput = λ e v. StandsFor (folding minus_of.IsOutput (operand_by opens closes inside).IsOutput none_of.IsOutput operator_of.IsOutput Applies)
      (groups_left groups) e.0 e.1 v;
}

-- a sum, by what stands in its brackets
abbrev pub sum_in : (Text → Type 0) → (Text → FormResult Worth → Type 0) → Grammar Sum Worth
sum_in Takes Gives = sum_by levels 40 41 (func_of view Takes Gives)

-- What stands in a bracket, in which that many more may be nested: where none may, a failure.
abbrev pub Inside : ℕ → Text → FormResult Worth → Type 0
Inside zero i r = r ≡ Err (Answered.Failure (Fault.TooDeep i))
Inside (suc d) i r = Parses (sum_in Any (Inside d)) i r

abbrev pub sum_of : ℕ → Grammar Sum Worth
sum_of d = sum_in Any (Inside d)

-- a fault of a value is a failure
abbrev pub fault_of : Wrong → Text → Fault
fault_of Overflow place = Fault.Overflow place
fault_of DivisionByZero place = Fault.DivisionByZero place
fault_of Exponent place = Fault.Exponent place

abbrev pub IsWorthResult : FormResult Worth → FormResult ℤ → Type 0
IsWorthResult (Ok (rest, Ok z)) r = r ≡ Ok (rest, z)
IsWorthResult (Ok (rest, Err (why, place))) r = r ≡ Err (Answered.Failure (fault_of why place))
IsWorthResult (Err e) r = r ≡ Err e

-- what an expression answers: the value of a sum, or the fault that it has in its place
pub record Answers (depth : ℕ) (i : Text) (r : FormResult ℤ) : Type 0 where
  pub found : FormResult Worth
  pub parsed : Parses (sum_of depth) i found
  pub told : IsWorthResult found r
