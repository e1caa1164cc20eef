-- A frame is what is written of it.
use Rattle.std.specs.Prelude.{◌≡◌, ℕ, false, List, [], ◌∷◌, length, Vec, Option, refl}
use Rattle.std.proofs.Common.{arith, subst}
use Rattle.nom.specs.grammars.Bytes.{length_count_of, number_of}
use Rattle.nom_internal.specs.Prelude.{itself, vec_view}
use Rattle.nom_number.specs.Numbers.{binary_number}
use Rattle.nom_number.specs.declared.order.Endianness.{Endianness}
use Rattle.nom_number.specs.declared.order.Endianness.TheVariants.{Big}
use Rattle.nom_sink.specs.Lists.{EachForm, ItemForm}
use Rattle.nom_sink.specs.Parts.{Both}
use Rattle.nom_write.specs.Lengths.{FormOfSize}
use Rattle.nom_write_stream.specs.Outgoing.{IsItem}
use Rattle.nom_write_stream.specs.Pipes.{ItemsOfPipe}
use Rattle.example_streams.specs.Pipes.{FramesOfPipe, IsFrame, frame_of}

-- a byte is its own form
abbrev Byte : ℕ → List ℕ → Type 0
Byte v xs = xs ≡ v ∷ []

-- a form of the length, as the writer of a number has it
abbrev Size : Endianness → ℕ → List ℕ → Type 0
Size order n xs = (length xs ≡ 2) × (binary_number order xs ≡ n)

abbrev pub FrameForm : Endianness → List ℕ → List ℕ → Type 0
FrameForm order vs = Both (FormOfSize (λ n. n) (Size order) (length vs)) (EachForm (ItemForm false Byte) vs)

bytes_each : (vs : List ℕ) → EachForm (ItemForm false Byte) vs vs
bytes_each [] = refl
bytes_each (v ∷ vs) = record { front = v ∷ []; back = vs; whole = refl; first = (refl, λ e. absurd (cc (e))); second = bytes_each vs }

-- a frame is what is written of it
frame_form : (most : ℕ) (vs xs : List ℕ) → IsItem (IsFrame vs) most xs → IsItem (FrameForm Big vs) most xs
frame_form most vs xs i =
    let f = i.form in
    record {
      form = record {
        front = f.high ∷ f.low ∷ [];
        back = vs;
        whole = f.whole;
        first = (length vs, refl, (refl, omega (arith, f.length_is)));
        second = bytes_each vs;
      };
      some = i.some;
      fits = i.fits;
      known = i.known;
    }

frames_form : {A : Type 0} → (most : ℕ) (frames : List (Vec ℕ A)) (xs : List ℕ) → EachForm (λ v. IsItem (IsFrame v.items) most) frames xs →
    EachForm (λ v. IsItem (FrameForm Big v.items) most) frames xs
frames_form most [] xs h = h
frames_form most (v ∷ frames) xs h = record {
  front = h.front;
  back = h.back;
  whole = h.whole;
  first = frame_form most v.items h.front h.first;
  second = frames_form most frames h.back h.second;
}

-- what holds of what is written of frames holds of frames
as_frames : (A B : Type 0) {R W : Type 0} (left : R → Option (List ℕ)) (contents : W → Option (List ℕ)) →
    ItemsOfPipe A B left contents (vec_view itself) (Unit {0}) (frame_of {A = A}) (λ v. FrameForm Big v.items) → FramesOfPipe A B left contents
as_frames A B left contents p a b v vs xs before taken each = p a b v vs xs before taken (frames_form a.most (v ∷ vs) xs each)

pub of_frames : (A B : Type 0) {R W : Type 0} (left : R → Option (List ℕ)) (contents : W → Option (List ℕ)) (order : Endianness) → order ≡ Big →
    ItemsOfPipe A B left contents (vec_view itself) (Unit {0}) (length_count_of {M = A} (number_of order 2) (number_of Big 1))
    (λ v. FrameForm order v.items) → FramesOfPipe A B left contents
of_frames A B left contents order is p = as_frames A B left contents (subst (λ z. ItemsOfPipe A B left contents (vec_view itself) (Unit {0})
    (length_count_of {M = A} (number_of z 2) (number_of Big 1)) (λ v. FrameForm z v.items)) is p)
