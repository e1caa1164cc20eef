-- Lemmas on the answers of the parsers of bit fields.
use Rattle.std.proofs.Common.{◌≡◌, ℕ, ◌<◌, ◌≤◌, ◌^◌, Bool, length, Option, take, drop, sym, ◌∙◌, ap, inl, inr, arith, length-append}
use Rattle.std.proofs.lemmas.List.{length-take-le, take-append-drop}
use Rattle.std.proofs.Math.Pow.{pow_mono}
use Rattle.nom_internal.specs.Prelude.{Needed, Refuses, Model, items_len-ones, bits_model, spelled}
use Rattle.nom_error.specs.declared.answer.Err as Answer
use Rattle.nom_internal.proofs.Shown.{built_error}
use Rattle.nom_bits.specs.BitRests.{SplitsAt}
use Rattle.nom_bits.specs.Fields.{IsField}

-- an error of which a further fact follows
pub refuses_as : {E : Type 0} {P Q : E → Type 0} {Grows : Type 0} {errors : Bool} {r : Answer.Err E (Option E) Needed} → ((e : E) → P e → Q e) →
    Refuses P Grows errors r → Refuses Q Grows errors r
refuses_as f (inl h) = inl h
refuses_as {P = P} {Q = Q} {errors = errors} f (inr h) = inr (h.0, built_error errors P Q h.0 f h.1, h.2)

-- a number of that many bits fits a type of at least as many
pub fits_width : (number count width : ℕ) → number < 2 ^ count → count ≤ width → number < 2 ^ width
fits_width number count width h k = omega (arith, h, pow_mono {i = count} {j = width} k)

module _ {I : Type 0} (w : Model I ℕ) {i start rest : I × ℕ} {count : ℕ} (s : SplitsAt w i count start rest) where
  -- there are as many bits
  pub split_within : count ≤ length ((bits_model w).elements start)
  split_within = omega (
    arith,
    ap length s.bits_are,
    ap length s.rest_is.whole,
    length-append s.rest_is.front ((bits_model w).elements rest),
    items_len-ones s.rest_is.front,
    s.rest_is.length_is,
  )

  pub split_long : count ≤ length ((bits_model w).elements i)
  split_long = omega (arith, split_within, ap length s.bits_are)

  pub split_field : {number : ℕ} → number ≡ spelled (take count ((bits_model w).elements start)) → IsField w i count number
  split_field e =
      let bs = (bits_model w).elements start in
      record {
        field = take count bs;
        rest = drop count bs;
        whole = sym s.bits_are ∙ sym (take-append-drop count bs);
        count_is =
            length-take-le count bs split_within;
        number_is = sym e;
      }
