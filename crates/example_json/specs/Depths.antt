-- The depth of brackets in a JSON text, and what is decided of a text up to a depth.
use Rattle.std.specs.Prelude.{ℕ, suc, max, ◌<◌, ◌≤◌, List, Ok, Err}
use Rattle.nom_internal.specs.Prelude.{IResult}
use Rattle.nom_error.specs.declared.answer.Err.TheVariants as Answered
use Rattle.nom_error.specs.declared.value.Error.{Error}
use Rattle.nom.specs.Texts.{Text}
use Rattle.nom_json_run.specs.Json.{IsJson, JsonInside, JsonItem, JsonItems, JsonValue}
use Rattle.nom_json_run.specs.Json.JsonInside.{nothing, some}
use Rattle.nom_json_run.specs.Json.JsonItem.{element, member}
use Rattle.nom_json_run.specs.Json.JsonItems.{last, more}
use Rattle.nom_json_run.specs.Json.JsonValue.{null, truth, untruth, number, text, brackets}
use Rattle.nom_json_run.specs.declared.bracket.Bracket.{Bracket}

abbrev mutual
  -- the most brackets that lie in each other
  pub nesting : {i r : List ℕ} → JsonValue i r → ℕ
  nesting (null s) = 0
  nesting (truth s) = 0
  nesting (untruth s) = 0
  nesting (number s) = 0
  nesting (text t) = 0
  nesting (brackets o j b inside e) = suc (nesting_inside inside)

  pub nesting_inside : {o : Bracket} {i r : List ℕ} → JsonInside o i r → ℕ
  nesting_inside (nothing b e) = 0
  nesting_inside (some j items b e) = nesting_items items

  pub nesting_items : {o : Bracket} {i r : List ℕ} → JsonItems o i r → ℕ
  nesting_items (last item) = nesting_item item
  nesting_items (more j item b items) = max (nesting_item item) (nesting_items items)

  pub nesting_item : {o : Bracket} {i r : List ℕ} → JsonItem o i r → ℕ
  nesting_item (element e v) = nesting v
  nesting_item (member j e name b v) = nesting v

-- Where it is accepted, a text is JSON, with that many brackets in each other at most. Where it is refused, it is no JSON; and where the answer is a
-- failure, it is none with so few.
abbrev pub DecidesJson : {T : Type 0} → ℕ → Text → IResult Text T (Error Text) → Type 0
DecidesJson depth t (Ok x) = (j : IsJson t.now) × (nesting j.1 ≤ depth)
DecidesJson depth t (Err (Answered.Error e)) = IsJson t.now → ⊥
DecidesJson depth t (Err (Answered.Failure e)) = (j : IsJson t.now) → depth < nesting j.1
DecidesJson depth t (Err (Answered.Incomplete k)) = ⊥
DecidesJson depth t (Err Answered.OutOfMemory) = Unit {0}
