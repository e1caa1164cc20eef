-- The match at the first items of an input, by a function of the list of items.
use Rattle.std.specs.Prelude.{◌≡◌, ℕ, ◌+◌, ◌==◌, ◌||◌, Bool, true, false, cond, List, [], ◌∷◌, length, Option, Some, None}
use Rattle.nom_internal.specs.Prelude.{ErrorKind, Errors, size_of, Model, IsSuffixOf, Slice, IsFirst, Meaning, Leaf, leaf_meaning}
use Rattle.nom_error.specs.declared.kind.ErrorKind.TheVariants as Kind
use Rattle.nom_character.specs.declared.line.Matched.{Matched}
use Rattle.nom_character.specs.declared.line.Matched.TheVariants as Found
use Rattle.nom_character_first.specs.FirstItem.{IsFirstItem}

-- the first n items are it; no list that begins so has it; or a longer list may have it, for which a size is needed, or an unknown one
pub data Match : Type 0 where
  Full : ℕ → Match
  Absent : Match
  Partial : Option ℕ → Match

-- where a list ends too early: more is needed where more may come, and else it is answered so
abbrev pub at_end : Bool → Option ℕ → Match → Match
at_end true lack pattern = Partial lack
at_end false lack pattern = pattern

-- one item more
abbrev pub one_item_more : Match → Match
one_item_more (Full n) = Full (n + 1)
one_item_more Absent = Absent
one_item_more (Partial lack) = Partial lack

-- By whether more may come. A list of items is one of code points: 13 is '\r' and 10 is '\n'.
module _ {A : Type 0} (code : A → ℕ) (streaming : Bool) where
  -- an `\n` that is wanted after an `\r`
  abbrev pub after_return : (found : Match) → (lack : Option ℕ) → List A → Match
  after_return found lack [] = at_end streaming lack Absent
  after_return found lack (x ∷ xs) = cond (code x == 10) found Absent

  -- `\r\n`
  abbrev pub crlf_in : List A → Match
  crlf_in [] = at_end streaming (Some 2) Absent
  crlf_in (x ∷ xs) = cond (code x == 13) (after_return (Full 2) (Some 2) xs) Absent

  -- `\n` or `\r\n`
  abbrev pub line_ending_in : List A → Match
  line_ending_in [] = at_end streaming (Some 1) Absent
  line_ending_in (x ∷ xs) = cond (code x == 10) (Full 1) (cond (code x == 13) (after_return (Full 2) (Some 2) xs) Absent)

  -- the items before the first `\n` or `\r\n`; before that no `\r` may stand
  abbrev pub line_in : List A → Match
  line_in [] = at_end streaming None (Full 0)
  line_in (x ∷ xs) = cond (code x == 10) (Full 0) (cond (code x == 13) (after_return (Full 0) None xs) (one_item_more (line_in xs)))

module _ {I A : Type 0} (w : Model I A) (pattern : Bool → List A → Match) where
  -- the first items that match; where the pattern is absent, it is refused; where it begins, more is needed
  abbrev pub match_leaf : Leaf I (Slice w)
  match_leaf = record {
    Accepts = λ s i n t. IsFirst w i n t × (pattern s (w.elements i) ≡ Full (length t.items));
    Refuses = λ s i. pattern s (w.elements i) ≡ Absent;
    Lacks = λ i k. pattern true (w.elements i) ≡ Partial k;
  }

  abbrev pub match_meaning : {E : Type 0} → Errors I E → ErrorKind → Meaning I (Slice w) E
  match_meaning errs kind = leaf_meaning (λ i. errs.of_kind i kind) errs.grows match_leaf

module _ {I A E : Type 0} (w : Model I A) (code : A → ℕ) (errs : Errors I E) where
  abbrev pub crlf_meaning : Meaning I (Slice w) E
  crlf_meaning = match_meaning w (crlf_in code) errs Kind.CrLf

  abbrev pub line_ending_meaning : Meaning I (Slice w) E
  line_ending_meaning = match_meaning w (line_ending_in code) errs Kind.CrLf

  abbrev pub line_meaning : Meaning I (Slice w) E
  line_meaning = match_meaning w (line_in code) errs Kind.Tag

-- what was matched at an input: the rest after it, or why there is none
abbrev pub IsMatched : {I A : Type 0} → Model I A → (Bool → List A → Match) → Bool → I → Matched I → Type 0
IsMatched w pattern s i (Found.Full j) = (n : ℕ) × (r : IsSuffixOf w i n j) × (pattern s (w.elements i) ≡ Full (length r.front))
IsMatched w pattern s i Found.Absent = pattern s (w.elements i) ≡ Absent
IsMatched w pattern s i (Found.Partial k) = (s ≡ true) × (pattern true (w.elements i) ≡ Partial (size_of k))

-- what was found where an `\n` is wanted
abbrev pub IsNewline : {I A : Type 0} → Model I A → (code : A → ℕ) → Bool → Option ℕ → I → Matched I → Type 0
IsNewline {A = A} w code s lack i (Found.Full j) =
    (x : A) × IsFirstItem w i x × IsSuffixOf w i (w.item_len x) j × ((found : Match) → after_return code s found lack (w.elements i) ≡ found)
IsNewline w code s lack i Found.Absent = (found : Match) → after_return code s found lack (w.elements i) ≡ Absent
IsNewline w code s lack i (Found.Partial k) = (s ≡ true) × ((found : Match) → after_return code s found lack (w.elements i) ≡ Partial (size_of k))

-- '\n' or '\r'
abbrev pub is_line_code : ℕ → Bool
is_line_code c = c == 10 || c == 13

-- what was found at an input that begins with an '\n' or an '\r': all of it stands after the line before
abbrev pub IsLineEnd : {I A : Type 0} → Model I A → (code : A → ℕ) → Bool → I → Matched I → Type 0
IsLineEnd w code s i (Found.Full j) = (j ≡ i) × (line_in code s (w.elements i) ≡ Full 0)
IsLineEnd w code s i Found.Absent = line_in code s (w.elements i) ≡ Absent
IsLineEnd w code s i (Found.Partial k) = (s ≡ true) × (line_in code s (w.elements i) ≡ Partial (size_of k))
