-- Frames.
use Rattle.std.specs.Prelude.{◌≡◌, ℕ, ◌+◌, ◌*◌, List, ◌∷◌, length, Vec, Option}
use Rattle.nom_internal.specs.Prelude.{itself, vec_view}
use Rattle.nom.specs.grammars.Bytes.{BytesGrammar, Big, length_count_of, number_of}
use Rattle.nom_write_stream.specs.Pipes.{ItemsOfPipe}

-- a length of two bytes, the highest first, and as many bytes
abbrev pub frame_of : {A : Type 0} → BytesGrammar (List ℕ) (Vec ℕ A)
frame_of = length_count_of (number_of Big 2) (number_of Big 1)

-- the bytes of a frame
pub record IsFrame (frame xs : List ℕ) : Type 0 where
  pub high : ℕ
  pub low : ℕ
  pub length_is : 256 * high + low ≡ length frame
  pub whole : xs ≡ high ∷ low ∷ frame

-- frames that were written are those that are read; a frame is compared by its bytes
abbrev pub FramesOfPipe : (A B : Type 0) {R W : Type 0} → (R → Option (List ℕ)) → (W → Option (List ℕ)) → Type 0
FramesOfPipe A B left contents = ItemsOfPipe A B left contents (vec_view itself) (Unit {0}) (frame_of {A = A}) (λ v. IsFrame v.items)
