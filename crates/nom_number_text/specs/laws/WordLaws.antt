-- The laws of words, and of parts before them.
use Rattle.std.specs.Prelude.{◌≡◌, ℕ, ◌==◌, Bool, true, false, cond, List, [], ◌∷◌, ◌++◌, codes, refl}
use Rattle.std.proofs.Common.{ap}
use Rattle.std.specs.Char.{to_ascii_lowercase}
use Rattle.nom_error.specs.declared.kind.ErrorKind.TheVariants as Kind
use Rattle.nom_internal.specs.Prelude.{Errors, Model, IsSame, IsModelledBy, View, EitherOutput, IsPinned, slice_pinned, either_pinned, Meaning, IsLawful}
use Rattle.nom_internal.specs.Prelude.{IsSteady}
use Rattle.nom_internal.specs.laws.MappedLaws.{renamed_lawful, renamed_steady}
use Rattle.nom_branch.specs.laws.AlternativeLaws.{next_lawful, next_steady, choice_lawful, choice_steady}
use Rattle.nom_character.specs.LineMatches.{Match, one_item_more}
use Rattle.nom_character.specs.LineMatches.Match.{Full, Absent, Partial}
use Rattle.nom_character.specs.laws.LineMatchLaws.{IsSettled, LineMatchLaws, match_lawful, match_steady}
use Rattle.nom_number_text.specs.laws.FloatLaws.{IsStream}
use Rattle.nom_number_text.specs.Exceptions.{word_in, word_meaning, exceptions_meaning, as_float_meaning}

settled_less : (a : Match) → IsSettled (one_item_more a) → IsSettled a
settled_less (Full n) h = tt
settled_less Absent h = tt
settled_less (Partial lack) h = h

module _ {A : Type 0} (code : A → ℕ) where
  by_letter : (b : Bool) (p q : Match) → (IsSettled p → q ≡ p) → IsSettled (cond b (one_item_more p) Absent) →
      cond b (one_item_more q) Absent ≡ cond b (one_item_more p) Absent
  by_letter true p q f h = ap one_item_more (f (settled_less p h))
  by_letter false p q f h = refl

  word_stays : (word : List ℕ) (s : Bool) (xs more : List A) → IsSettled (word_in code word true xs) →
      word_in code word s (xs ++ more) ≡ word_in code word true xs
  word_stays [] s xs more h = refl
  word_stays (c ∷ cs) s [] more h = absurd h
  word_stays (c ∷ cs) s (x ∷ xs) more h = by_letter (to_ascii_lowercase (code x) == c) _ _ (word_stays cs s xs more) h

  pub word_laws : (word : List ℕ) → LineMatchLaws (word_in code word)
  word_laws word = record { stays = word_stays word }

module _ {I A E : Type 0} (w : Model I A) (code : A → ℕ) (errs : Errors I E) where
  pub word_stream : (word : List ℕ) → IsStream w (word_meaning w code errs word)
  word_stream word = record {
    lawful = match_lawful w (word_in code word) (word_laws code word) errs Kind.Float;
    steady = match_steady w (word_in code word) (word_laws code word) errs Kind.Float;
  }

  module _ {P : Type 0} {a : Meaning I P E} where
    pub as_float_stream : IsStream w a → IsStream w (as_float_meaning errs a)
    as_float_stream p = record { lawful = renamed_lawful p.lawful; steady = renamed_steady p.steady }

    -- a part, and the three words
    pub exceptions_lawful : IsLawful w a → IsLawful w (exceptions_meaning w code errs a)
    exceptions_lawful p = choice_lawful errs
        (next_lawful errs (next_lawful errs (next_lawful errs p (word_stream (codes "nan")).lawful) (word_stream (codes "infinity")).lawful)
        (word_stream (codes "inf")).lawful)

    pub exceptions_steady : IsSteady w a → IsSteady w (exceptions_meaning w code errs a)
    exceptions_steady p = choice_steady errs
        (next_steady errs (next_steady errs (next_steady errs p (word_stream (codes "nan")).steady) (word_stream (codes "infinity")).steady)
        (word_stream (codes "inf")).steady)

pub exceptions_pinned : {I A P : Type 0} {w : Model I A} {view : View I} {IsOutput : P → I → Type 0} →
    ((x y : I) → IsSame w x y → view.value x ≡ view.value y) → IsPinned view IsOutput →
    IsPinned view (EitherOutput (EitherOutput (EitherOutput IsOutput (IsModelledBy w)) (IsModelledBy w)) (IsModelledBy w))
exceptions_pinned views p =
    let slice = slice_pinned views in
    either_pinned (either_pinned (either_pinned p slice) slice) slice
