-- Forms of runs.
use Rattle.std.specs.Prelude.{ℕ, ◌≤◌, Bool, List, length, Option, Some, None}
use Rattle.std.proofs.Common.{arith, sym, ◌∙◌, inl, inr}
use Rattle.nom_internal.specs.Prelude.{Meaning, Model, Slice, leaf_meaning, premised, sliced}
use Rattle.nom_bytes.specs.ParsedRuns.{IsEnough, runs}
use Rattle.nom_write.specs.Runs.{IsRunForm}
use Rattle.nom_write_canonical.specs.Forms.{AcceptsForms, IsOneForm}

-- a run may have the least number of items
abbrev pub IsRoom : ℕ → Option ℕ → Type 0
IsRoom least (Some most) = least ≤ most
IsRoom least None = Unit {0}

enough : (least : ℕ) (bound : Option ℕ) (count after : ℕ) → IsRoom least bound → IsEnough least bound count after → least ≤ count
enough least bound count after room (inl h) = h
enough least (Some most) count after room (inr h) = omega (arith, room, h.0)
enough least None count after room (inr h) = absurd h.0

module _ {I A E : Type 0} (w : Model I A) (Test : A → Bool → Type 0) (least : ℕ) (bound : Option ℕ) where
  pub run_accepts : (Blames : I → E → Type 0) (Grows : Type 0) → IsRoom least bound →
      AcceptsForms w (sliced w (leaf_meaning Blames Grows (runs w Test bound least))) (IsRunForm w Test least bound)
  run_accepts Blames Grows room = record {
    accepts = λ s. record {
      front = λ i n t known a.
          let first = (a.0).first in
          record {
            front = t.items;
            rest = first.rest;
            whole = first.whole;
            length_is = first.length_is;
            fact = λ v m. record {
              holds = record { known = m.known; elements_are = m.elements_are };
              meets = (a.0).meets;
              enough = enough least bound (length t.items) (length first.rest) room a.1;
              within = (a.0).bounded;
            };
          };
    };
  }

-- under premises of a parser's own
pub premised_accepts : {I A E : Type 0} {w : Model I A} {m : Meaning I (Slice w) E} (Runs IsSound : Type 0) {Form : I → List A → Type 0} →
    AcceptsForms w (sliced w m) Form → AcceptsForms w (sliced w (premised Runs IsSound m)) Form
premised_accepts Runs IsSound p = record { accepts = λ s. record { front = λ i n t known a. (p.accepts s).front i n t known a } }

pub run_one : {I A : Type 0} {IsValue : A → Type 0} {w : Model I A} {Test : A → Bool → Type 0} {least : ℕ} {bound : Option ℕ} {v : I} →
    IsOneForm IsValue (IsRunForm w Test least bound v)
run_one = record { one = λ xs ys h k a b. sym (a.holds).elements_are ∙ (b.holds).elements_are }
