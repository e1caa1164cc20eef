-- Words without the case of ASCII letters.
use Rattle.std.specs.Prelude.{◌≡◌, ◌⊎◌, ℕ, ◌+◌, ◌<◌, ◌==◌, Bool, cond, List, [], ◌∷◌, length, codes, Some}
use Rattle.std.specs.Char.{to_ascii_lowercase}
use Rattle.nom_error.specs.declared.kind.ErrorKind.TheVariants as Kind
use Rattle.nom_internal.specs.Prelude.{Errors, Model, IsSuffixOf, Slice, renamed_meaning, Meaning, Grammar, sliced}
use Rattle.nom_branch.specs.Alternatives.{next_meaning, choice_meaning, alt_of, or_of}
use Rattle.nom_character.specs.LineMatches.{Match, at_end, one_item_more, match_meaning}
use Rattle.nom_character.specs.LineMatches.Match.{Full, Absent}
use Rattle.nom_number_text.specs.declared.word.WordAt.{WordAt}
use Rattle.nom_number_text.specs.declared.word.WordAt.TheVariants as Found
use Rattle.nom_number_text.specs.declared.word.Exception.{Exception}
use Rattle.nom_number_text.specs.declared.word.Exception.TheVariants as Named

-- A word is a list of code points in lower case. It stands at the first items where their code points, in lower case, are the word's, in turn.
-- Where the items end before it does, as many items lack as letters are left.
module _ {A : Type 0} (code : A → ℕ) where
  abbrev pub word_in : (word : List ℕ) → (streaming : Bool) → List A → Match
  word_in [] streaming xs = Full 0
  word_in (c ∷ cs) streaming [] = at_end streaming (Some (length cs + 1)) Absent
  word_in (c ∷ cs) streaming (x ∷ xs) = cond (to_ascii_lowercase (code x) == c) (one_item_more (word_in cs streaming xs)) Absent

-- a word, refused with `Float`
abbrev pub word_meaning : {I A E : Type 0} (w : Model I A) → (code : A → ℕ) → Errors I E → List ℕ → Meaning I (Slice w) E
word_meaning w code errs word = match_meaning w (word_in code word) errs Kind.Float

-- what stands at the start of an input, in either mode: all of the word, something else, or a beginning of it, with the number of letters that are missing
abbrev pub IsWordAt : {I A : Type 0} (w : Model I A) → (code : A → ℕ) → List ℕ → I → WordAt I → Type 0
IsWordAt w code word i (Found.Stands j) = (n : ℕ) × (r : IsSuffixOf w i n j) × ((s : Bool) → word_in code word s (w.elements i) ≡ Full (length r.front))
IsWordAt w code word i Found.Differs = (s : Bool) → word_in code word s (w.elements i) ≡ Absent
IsWordAt w code word i (Found.Lacks k) = (0 < k) × ((s : Bool) → word_in code word s (w.elements i) ≡ at_end s (Some k) Absent)

-- the letters of the words for what is no fraction
abbrev pub letters_of : Exception → List ℕ
letters_of Named.Nan = codes "nan"
letters_of Named.Infinity = codes "infinity"
letters_of Named.Inf = codes "inf"

-- a part, and where it refuses `nan`, `infinity` or `inf`, the first that isn't refused
abbrev pub exceptions_meaning : {I A P E : Type 0} (w : Model I A) → (code : A → ℕ) → Errors I E → Meaning I P E →
    Meaning I (((P ⊎ Slice w) ⊎ Slice w) ⊎ Slice w) E
exceptions_meaning w code errs first =
    choice_meaning errs (next_meaning errs
    (next_meaning errs (next_meaning errs first (word_meaning w code errs (codes "nan"))) (word_meaning w code errs (codes "infinity")))
    (word_meaning w code errs (codes "inf")))

-- a part whose errors become those of `Float` at the start
abbrev pub as_float_meaning : {I P E : Type 0} → Errors I E → Meaning I P E → Meaning I P E
as_float_meaning errs = renamed_meaning (λ i _. errs.of_kind i Kind.Float) errs.grows

-- a grammar, and where it refuses `nan`, `infinity` or `inf`
abbrev pub exceptions_of : {I A V E : Type 0} (w : Model I A) → (code : A → ℕ) → Errors I E → Grammar I V I E →
    Grammar I (((V ⊎ Slice w) ⊎ Slice w) ⊎ Slice w) I E
exceptions_of w code errs g =
    alt_of errs (or_of errs (or_of errs (or_of errs g (sliced w (word_meaning w code errs (codes "nan")))) (sliced w (word_meaning w code errs
    (codes "infinity"))))
    (sliced w (word_meaning w code errs (codes "inf"))))

-- a grammar whose errors become those of `Float` at the start
abbrev pub as_float_of : {I V O E : Type 0} → Errors I E → Grammar I V O E → Grammar I V O E
as_float_of errs g = record { meaning = as_float_meaning errs g.meaning; IsOutput = g.IsOutput }
