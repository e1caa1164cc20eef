-- The words of this crate's parsers. `code` is the code point of an item.
use Rattle.std.specs.Prelude.{◌≡◌, ℕ, Bool, List, Option}
use Rattle.std.proofs.Common.{refl, ap, ap₂}
use Rattle.nom_internal.specs.Prelude.{ErrorKind, Errors, Model, premised, sliced, valued}
use Rattle.nom_internal.specs.Word.{Word, word}
use Rattle.nom_traits.specs.declared.character.AsciiClass.{AsciiClass}
use Rattle.nom_bytes.specs.Tests.{Test}
use Rattle.nom_character_first.specs.FirstItem.{anychar_meaning, char_meaning, satisfy_meaning}
use Rattle.nom_character.specs.ClassRuns.{class_meaning}
use Rattle.nom_character.specs.LineMatches.{Match, match_meaning}

module _ {I A E : Type 0} (w : Model I A) (errs : Errors I E) (code : A → ℕ) where
  pub char_of : ℕ → Word I ℕ E
  char_of c = word (valued (char_meaning w code errs c))

  pub char_worded : (c : ℕ) → char_of c ≡ word (valued (char_meaning w code errs c))
  unfolding char_of
  char_worded c = refl

  pub char_same : {c d : ℕ} → c ≡ d → char_of c ≡ char_of d
  char_same p = ap char_of p

  -- a character that passes a test, with the kind of its refusals
  pub satisfy_of : ErrorKind → Test A → Word I ℕ E
  satisfy_of kind t = word (valued (premised t.Runs t.IsSound (satisfy_meaning w code t.answers errs kind)))

  module _ {s t : Test A} where
    pub satisfy_worded : (kind : ErrorKind) → s ≡ t → satisfy_of kind s ≡
        word (valued (premised t.Runs t.IsSound (satisfy_meaning w code t.answers errs kind)))
    unfolding satisfy_of
    satisfy_worded kind p = ap (satisfy_of kind) p

    pub satisfy_same : {kind other : ErrorKind} → kind ≡ other → s ≡ t → satisfy_of kind s ≡ satisfy_of other t
    satisfy_same q p = ap₂ satisfy_of q p

  pub anychar_of : Word I ℕ E
  anychar_of = word (valued (anychar_meaning w code errs))

  pub anychar_worded : anychar_of ≡ word (valued (anychar_meaning w code errs))
  unfolding anychar_of
  anychar_worded = refl

  -- a run of a class: where one item is wanted at least, with the kind of the refusal
  pub class_of : AsciiClass → Option ErrorKind → Word I I E
  class_of class wanted = word (sliced w (class_meaning w code errs class wanted))

  pub class_worded : (class : AsciiClass) (wanted : Option ErrorKind) → class_of class wanted ≡ word (sliced w (class_meaning w code errs class wanted))
  unfolding class_of
  class_worded class wanted = refl

  pub class_same : {a b : AsciiClass} {k l : Option ErrorKind} → a ≡ b → k ≡ l → class_of a k ≡ class_of b l
  class_same p q = ap₂ class_of p q

module _ {I A E : Type 0} (w : Model I A) (errs : Errors I E) where
  pub match_of : (Bool → List A → Match) → ErrorKind → Word I I E
  match_of pattern kind = word (sliced w (match_meaning w pattern errs kind))

  pub match_worded : (pattern : Bool → List A → Match) (kind : ErrorKind) → match_of pattern kind ≡ word (sliced w (match_meaning w pattern errs kind))
  unfolding match_of
  match_worded pattern kind = refl
