-- JSON texts, by their grammar.
use Rattle.std.specs.Prelude.{◌≡◌, ℕ, zero, suc, ◌⊎◌, Bool, true, false, Option, Some, None, Vec, Ok, Err}
use Rattle.std.proofs.Common.{inl, inr, refl}
use Rattle.std.specs.List.{AllZip}
use Rattle.nom_internal.specs.Prelude.{Family, Grammar, IResult, Meaning, Outcome, Accept, Refuse, Stop, labelled_meaning, text_model}
use Rattle.nom_error.specs.declared.answer.Err.TheVariants as Answered
use Rattle.nom_error.specs.declared.value.Error.{Error}
use Rattle.nom_repeat.specs.Repeat.{Turn, Rule, repeat_meaning}
use Rattle.nom_repeat.specs.Repeat.Turn.{Takes, Ends}
use Rattle.nom.specs.Word.{word}
use Rattle.nom.specs.Texts.{Text, TextWord, eof_of, map_of, or_of, tuple_of_four, tuple_of_three, tuple_of_two}
use Rattle.example_json.specs.declared.tree.Json.{Json}
use Rattle.example_json.specs.declared.tree.Json.TheVariants as Value
use Rattle.example_json.specs.Scalars.{deep_of, number_of, spaces_of, text_of, token_of, word_of}

-- an answer after which another branch is tried
abbrev pub refuses : {T : Type 0} → IResult Text T (Error Text) → Bool
refuses (Ok x) = false
refuses (Err (Answered.Incomplete k)) = false
refuses (Err (Answered.Error e)) = true
refuses (Err (Answered.Failure e)) = false
refuses (Err Answered.OutOfMemory) = false

abbrev pub string_of : TextWord Json
string_of = map_of (λ o. Value.String o.0) (tuple_of_two text_of spaces_of)

abbrev pub scalar_of : TextWord Json
scalar_of = or_of (or_of word_of number_of) string_of

-- Items, one after another: a refusal ends them with success, and all else is passed on. Memory may be asked for to keep an item.
abbrev pub list_turn : {P : Type 0} → ℕ → Option (Outcome P) → Turn P (Unit {0})
list_turn k (Some (Accept n v)) = Takes n v
list_turn k (Some Refuse) = Ends (Accept 0 tt)
list_turn k (Some (Stop why)) = Ends (Stop why)
list_turn k None = Ends (Accept 0 tt)

abbrev pub IsTaken : {P : Type 0} → Option (Outcome P) → Type 0
IsTaken (Some (Accept n v)) = Unit {0}
IsTaken (Some Refuse) = ⊥
IsTaken (Some (Stop why)) = ⊥
IsTaken None = ⊥

abbrev pub list_rule : {P : Type 0} → Rule Text P P (Unit {0}) (Error Text)
list_rule = record {
  bound = None;
  turn = list_turn;
  Blames = λ _ _ _ _ P e. P e;
  part = λ _ mode. mode;
  Asks = λ _ _ a. IsTaken a;
  Runs = λ Part. Part;
  IsSound = λ Part. Part;
  IsFrugal = λ _ _. ⊥;
  NeverFails = λ Part. Part;
}

-- the first item by one grammar, and the further ones by another: a tree says which
module _ {V U O : Type 0} (first : Grammar Text V O (Error Text)) (further : Grammar Text U O (Error Text)) where
  abbrev pub item_at : ℕ → Meaning Text (V ⊎ U) (Error Text)
  item_at zero = labelled_meaning inl first.meaning
  item_at (suc k) = labelled_meaning inr further.meaning

  abbrev pub items_at : Family ℕ Text (V ⊎ U) (Error Text)
  items_at = record {
    at = item_at;
    Runs = first.meaning.Runs × further.meaning.Runs;
    IsSound = first.meaning.IsSound × further.meaning.IsSound;
    IsFrugal = λ _. ⊥;
    Settles = first.meaning.Settles × further.meaning.Settles;
    NeverFails = λ cause. first.meaning.NeverFails cause × further.meaning.NeverFails cause;
  }

  abbrev pub IsItem : V ⊎ U → O → Type 0
  IsItem (inl v) o = first.IsOutput v o
  IsItem (inr u) o = further.IsOutput u o

abbrev pub after_comma : {O : Type 0} → TextWord O → TextWord O
after_comma g = map_of (λ o. o.1) (tuple_of_two (token_of 44) g)

abbrev list_meant : {O M : Type 0} → TextWord O → TextWord (Vec O M)
list_meant g = word (record {
  meaning = repeat_meaning text_model list_rule (λ ts _. ts) (items_at g.grammar (after_comma g).grammar);
  IsOutput = λ ts o. AllZip (IsItem g.grammar (after_comma g).grammar) ts o.items;
})

-- any number of items, with commas between them; where a comma or what stands after it is refused, the list ends before the comma
pub list_of : {O M : Type 0} → TextWord O → TextWord (Vec O M)
list_of g = list_meant g

pub list_worded : {O M : Type 0} (g : TextWord O) → list_of {M = M} g ≡ list_meant g
unfolding list_of
list_worded g = refl

abbrev pub array_of : TextWord Json → TextWord Json
array_of g = map_of (λ o. Value.Array o.1) (tuple_of_three (token_of 91) (list_of g) (token_of 93))

abbrev pub member_of : TextWord Json → TextWord (Text × Json)
member_of g = map_of (λ o. (o.0, o.3)) (tuple_of_four text_of spaces_of (token_of 58) g)

abbrev pub object_of : TextWord Json → TextWord Json
object_of g = map_of (λ o. Value.Object o.1) (tuple_of_three (token_of 123) (list_of (member_of g)) (token_of 125))

-- a value in which that many brackets may be nested
abbrev pub value_of : ℕ → TextWord Json
value_of zero = or_of scalar_of deep_of
value_of (suc d) = or_of (or_of scalar_of (array_of (value_of d))) (object_of (value_of d))

abbrev pub json_of : ℕ → TextWord Json
json_of d = map_of (λ o. o.1) (tuple_of_two spaces_of (value_of d))

-- a whole text, with nothing after it
abbrev pub json_text_of : ℕ → TextWord Json
json_text_of d = map_of (λ o. o.0) (tuple_of_two (json_of d) eof_of)
