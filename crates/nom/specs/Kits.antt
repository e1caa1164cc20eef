-- What a word of a grammar is made for: an input and an error type, named by a kit, and how the leaves read the input's items.
use Rattle.std.specs.Prelude.{◌≡◌, ◌-◌, ◌<◌, ℕ, Bool, List, [], Option, Some, None, Result, length, Contains, chars}
use Rattle.std.specs.Borrow.{Bor}
use Rattle.std.specs.Char.{IsScalar, len_utf8}
use Rattle.nom_ascii.specs.Sets.{Held}
use Rattle.nom_ascii.specs.declared.AsciiSet.{AsciiSet}
use Rattle.nom_error.specs.Errors.{Contexts, Externals}
use Rattle.nom_error.specs.PlainErrors.{plain_errors}
use Rattle.nom_error.specs.declared.value.Error.{Error}
use Rattle.nom_internal.specs.Prelude.{CompareResult, ComparesBytes, ComparesBytesNoCase, ComparesText, ComparesTextNoCase, Errors, IResult, Model, View}
use Rattle.nom_internal.specs.Prelude.{behind_view, bytes_model, itself, text_model}
use Rattle.nom_internal.specs.Word as Internal
use Rattle.nom_internal.specs.Words as Plain
use Rattle.nom_internal.specs.Words.{mapping}
use Rattle.nom_search.specs.Substrings.{FindsBytes, FindsFirst}
use Rattle.nom_combinator.specs.Words as Combinator
use Rattle.nom_recursion.specs.Streams as Streams
use Rattle.nom.specs.ErrorTypes.{unnamed}

-- what an input and an error type are in proofs, and how leaves read items
pub record Kit (I E : Type 0) : Type 1 where
  pub Item : Type 0
  pub model : Model I Item
  pub errors : Errors I E
  pub contexts : Contexts I E
  pub externals : (X : Type 0) → Externals I X E
  -- the code point of an item
  pub code : Item → ℕ
  -- which items are values of their type, and what a test of code points answers at one
  pub IsValue : Item → Type 0
  pub answers : (ℕ → Bool) → Item → Bool → Type 0
  -- what is needed where there are fewer items than a count
  pub lack : ℕ → List Item → Option ℕ
  -- which items a list holds, given in the bytes of a literal
  pub holds : List ℕ → Item → Type 0
  -- which items an `AsciiSet` has
  pub has : AsciiSet → Item → Type 0
  -- how inputs compare with tags
  pub compares : List ℕ → List Item → CompareResult → Type 0
  pub compares_no_case : List ℕ → List Item → CompareResult → Type 0
  -- the items of a needle, and where it stands
  pub needle : List ℕ → List Item
  pub finds : List Item → List Item → Option ℕ → Type 0
  -- items as bytes, for numbers of bytes
  pub bytes : Model I ℕ

-- the grammar of outputs O, at each kit
pub record Word (I O E : Type 0) : Type 1 where
  pub at : Kit I E → Internal.Word I O E

-- what `parse` (true) and `parse_complete` (false) answer by the word
abbrev pub Parses : {I O E : Type 0} → Kit I E → Word I O E → Bool → I → IResult I O E → Type 0
Parses K g = Internal.Answers K.model (g.at K)

-- what a function of `streaming` ensures of its answer, by the word: that a decided one stays on every longer input
abbrev pub StreamsAs : {I O E : Type 0} → Kit I E → View O → Word I O E → I → IResult I O E → Type 0
StreamsAs K view g = Streams.StreamsAs K.model view (g.at K)

-- what becomes of the error of a closure: it is dropped, and an error is made as at a refusal
abbrev of_kinds : {I X E : Type 0} → Errors I E → Externals I X E
of_kinds errs = record { of_external = λ i kind _ e. errs.of_kind i kind e; grows = errs.grows }

-- the same of `Error`, as its crate says it
abbrev pub plain_externals : {I X : Type 0} → Externals I X (Error I)
plain_externals = record { of_external = λ i kind _ e. e ≡ record { input = i; code = kind }; grows = ⊥ }

-- inputs whose items are bytes, and whose items are characters, as code points
abbrev pub byte_kit : {I E : Type 0} → Model I ℕ → Errors I E → Kit I E
byte_kit w errs = record {
  Item = ℕ;
  model = w;
  errors = errs;
  contexts = unnamed;
  externals = λ _. of_kinds errs;
  code = λ b. b;
  IsValue = λ b. b < 256;
  answers = λ test b r. r ≡ test b;
  lack = λ count xs. Some (count - length xs);
  holds = Contains;
  has = Held;
  compares = ComparesBytes;
  compares_no_case = ComparesBytesNoCase;
  needle = λ xs. xs;
  finds = FindsBytes;
  bytes = w;
}

abbrev pub text_kit : {I E : Type 0} → Model I ℕ → Errors I E → Kit I E
text_kit w errs = record {
  Item = ℕ;
  model = w;
  errors = errs;
  contexts = unnamed;
  externals = λ _. of_kinds errs;
  code = λ c. c;
  IsValue = IsScalar;
  answers = λ test c r. r ≡ test c;
  lack = λ _ _. None;
  holds = λ set. Contains (chars set);
  has = Held;
  compares = ComparesText;
  compares_no_case = ComparesTextNoCase;
  needle = chars;
  finds = FindsFirst len_utf8;
  bytes = w;
}

-- an input of other items, whose leaves are its own: nothing is said of how they are read
abbrev pub item_kit : {I A E : Type 0} → Model I A → Errors I E → Kit I E
item_kit {A = A} w errs = record {
  Item = A;
  model = w;
  errors = errs;
  contexts = unnamed;
  externals = λ _. of_kinds errs;
  code = λ _. 0;
  IsValue = λ _. ⊥;
  answers = λ _ _ _. ⊥;
  lack = λ count xs. Some (count - length xs);
  holds = λ _ _. ⊥;
  has = λ _ _. ⊥;
  compares = λ _ _ _. ⊥;
  compares_no_case = λ _ _ _. ⊥;
  needle = λ _. [];
  finds = λ _ _ _. ⊥;
  bytes = record {
    elements = λ _. [];
    item_len = λ _. 1;
    Mark = Unit {0};
    mark = λ _. tt;
    mark_after = λ m _. m;
    IsKnown = w.IsKnown;
    IsMore = λ _. ⊥;
  };
}

-- slices of bytes, and texts: with an error type of one's own, and with `Error`
abbrev pub bytes_with : {E : Type 0} → Errors (Bor (List ℕ)) E → Kit (Bor (List ℕ)) E
bytes_with = byte_kit bytes_model

abbrev pub texts_with : {E : Type 0} → Errors (Bor (List ℕ)) E → Kit (Bor (List ℕ)) E
texts_with = text_kit text_model

-- a kit whose error type keeps the names of parts
abbrev pub with_contexts : {I E : Type 0} → Kit I E → Contexts I E → Kit I E
with_contexts K contexts = record K { contexts = contexts }

abbrev pub bytes : Kit (Bor (List ℕ)) (Error (Bor (List ℕ)))
bytes = record (bytes_with plain_errors) { externals = λ _. plain_externals }

abbrev pub texts : Kit (Bor (List ℕ)) (Error (Bor (List ℕ)))
texts = record (texts_with plain_errors) { externals = λ _. plain_externals }

-- by what the outputs of functions are compared: slices of bytes by what they hold, and values that hold no input by themselves
abbrev pub slice_view : View (Bor (List ℕ))
slice_view = behind_view

abbrev pub plain_view : {O : Type 0} → View O
plain_view = itself

-- the words of closures, by what one takes and gives
module _ {I O E : Type 0} where
  abbrev pub mapped : {P : Type 0} → (O → Type 0) → (O → P → Type 0) → Internal.Word I O E → Internal.Word I P E
  mapped Takes Gives = Plain.map_of (mapping Takes Gives)

  abbrev pub map_opted : {P : Type 0} → Errors I E → (O → Type 0) → (O → Option P → Type 0) → Internal.Word I O E → Internal.Word I P E
  map_opted errs Takes Gives = Plain.map_opt_of errs (mapping Takes Gives)

  abbrev pub map_resulted : {P X : Type 0} → Externals I X E → (O → Type 0) → (O → Result P X → Type 0) → Internal.Word I O E → Internal.Word I P E
  map_resulted externals Takes Gives = Plain.map_res_of externals (mapping Takes Gives)

  abbrev pub verified : Errors I E → (Bor O → Type 0) → (Bor O → Bool → Type 0) → Internal.Word I O E → Internal.Word I O E
  verified errs Takes Gives = Combinator.verify_of errs (mapping Takes Gives)

-- a layer of a grammar that contains itself, and its rules, at a kit: as `Layer` and `Rules` name them
module _ {I O E : Type 0} (K : Kit I E) where
  abbrev pub layer_at : (Word I O E → Word I O E) → Internal.Word I O E → Internal.Word I O E
  layer_at layer_of inner = (layer_of (record { at = λ _. inner })).at K

  abbrev pub rule_at : {R : Type 0} → ((R → Word I O E) → R → Word I O E) → (R → Internal.Word I O E) → R → Internal.Word I O E
  rule_at rule_of inner rule = (rule_of (λ r. record { at = λ _. inner r }) rule).at K
