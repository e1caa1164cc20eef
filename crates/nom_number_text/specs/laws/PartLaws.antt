-- The laws of the parts of a decimal fraction.
use Rattle.std.specs.Prelude.{◌≡◌, ℕ, None}
use Rattle.std.specs.Int.{w32}
use Rattle.std.proofs.Common.{sym, ◌∙◌}
use Rattle.nom_internal.specs.Prelude.{Errors, Model, InputLaws, AreValues, IsSame, View, itself, view_4, Meaning, IsModelledBy, IsPinned, slice_pinned}
use Rattle.nom_traits.specs.declared.character.AsciiClass.TheVariants as Class
use Rattle.nom_character.specs.ClassRuns.{class_lawful, class_steady}
use Rattle.nom_character_first.specs.FirstItem.{char_meaning}
use Rattle.nom_sequence.specs.Sequences.{preceded_meaning}
use Rattle.nom_sequence.specs.laws.SequenceLaws.{preceded_lawful, preceded_steady}
use Rattle.nom_character_integer.specs.Integers.{signed_meaning}
use Rattle.nom_character_integer.specs.laws.IntegerLaws.{signed_lawful, signed_steady}
use Rattle.nom_number_text.specs.laws.FloatLaws.{IsStream, opt_stream, cut_stream, pair_stream, choice_stream, char_stream, either_stream, digits_stream}
use Rattle.nom_number_text.specs.laws.WordLaws.{as_float_stream}
use Rattle.nom_number_text.specs.Parts.{digits0_meaning, after_meaning, both_meaning, mantissa_meaning, power_meaning, parts_meaning, IsParts}
use Rattle.nom_number_text.specs.Parts.{integer_slice, fraction_slice, before_of, after_of}

module _ {I A P Q E : Type 0} {w : Model I A} (l : InputLaws w) {a : Meaning I P E} (p : IsStream w a) {b : Meaning I Q E} (q : IsStream w b) where
  preceded_stream : IsStream w (preceded_meaning w a b)
  preceded_stream = record { lawful = preceded_lawful l p.lawful q.lawful; steady = preceded_steady l p.steady q.steady }

module _ {I A E : Type 0} (w : Model I A) (l : InputLaws w) (IsValue : A → Type 0) (values : (i : I) → w.IsKnown i → AreValues IsValue (w.elements i))
    (code : A → ℕ) (errs : Errors I E) where
  digits0_stream : IsStream w (digits0_meaning w code errs)
  digits0_stream = record {
    lawful = class_lawful w IsValue values code errs Class.Digit None;
    steady = class_steady w IsValue values code errs Class.Digit None;
  }

  point : IsStream w (char_meaning w code errs 46)
  point = char_stream w l IsValue values code errs 46

  after_stream : IsStream w (after_meaning w code errs)
  after_stream = choice_stream (preceded_stream l point digits0_stream) digits0_stream errs

  both_stream : IsStream w (both_meaning w code errs)
  both_stream =
      let digits = digits_stream w l IsValue values code errs in
      choice_stream (pair_stream digits after_stream l) (pair_stream digits0_stream (preceded_stream l point digits) l) errs

  mantissa_stream : IsStream w (mantissa_meaning w code errs)
  mantissa_stream = as_float_stream w code errs (pair_stream (opt_stream (either_stream w l IsValue values code errs 43 45)) both_stream l)

  power_stream : IsStream w (power_meaning w code errs)
  power_stream =
      let number : IsStream w (signed_meaning w code w32 errs) = record { lawful = signed_lawful w code errs w32; steady = signed_steady w code errs w32 } in
      opt_stream (preceded_stream l (either_stream w l IsValue values code errs 101 69) (cut_stream number))

  pub parts_stream : IsStream w (parts_meaning w code errs)
  parts_stream = pair_stream mantissa_stream power_stream l

-- the parts of one tree are one
pub parts_pinned : {I A : Type 0} (w : Model I A) {view : View I} → ((x y : I) → IsSame w x y → view.value x ≡ view.value y) → (code : A → ℕ) →
    IsPinned (view_4 itself view view itself) (IsParts w code)
parts_pinned w {view = view} views code = record {
  one_view = λ t o n p q.
      let slice : IsPinned view (IsModelledBy w) = slice_pinned views in
      cc (
        p.0 ∙ sym q.0,
        slice.one_view (integer_slice w code (before_of w t.0.1)) o.1 n.1 p.1 q.1,
        slice.one_view (fraction_slice w code (after_of w t.0.1)) o.2 n.2 p.2 q.2,
        p.3 ∙ sym q.3,
      );
}
