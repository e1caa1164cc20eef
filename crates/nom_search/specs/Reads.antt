-- Inputs that are read as bytes.
use Rattle.std.specs.Prelude.{◌≡◌, ℕ, ◌<◌, List, [], ◌∷◌, ◌++◌, length, slice_index, refl, chars, encode_utf8, encode_utf8_all}
use Rattle.std.specs.Borrow.{Bor}
use Rattle.std.proofs.Common.{arith, zero, suc, sym, ◌∙◌, ap, append-nil, length-append}
use Rattle.std.proofs.lemmas.Str.{encode_ascii, encodes-chars, inside_one, length-encode}
use Rattle.nom_traits.specs.Input.{Model, items_len, input_len}
use Rattle.nom_traits.specs.Bytes.{bytes_model}
use Rattle.nom_traits.specs.Text.{text_model}

-- the bytes of a list of items
abbrev pub read_all : {A : Type 0} → (A → List ℕ) → List A → List ℕ
read_all read [] = []
read_all read (x ∷ xs) = read x ++ read_all read xs

-- the bytes of a value are those of its items
pub record ReadsBytes {I A : Type 0} (w : Model I A) (bytes : I → List ℕ) (read : A → List ℕ) : Type 0 where
  pub whole : (i : I) → w.IsKnown i → bytes i ≡ read_all read (w.elements i)
  -- an item has as many bytes as its length
  pub size : (a : A) → length (read a) ≡ w.item_len a
  -- a byte of ASCII is an item of its own
  pub alone : (a : A) (k : ℕ) → k < length (read a) → slice_index (read a) k < 128 → read a ≡ slice_index (read a) k ∷ []

module _ {I A : Type 0} (w : Model I A) (bytes : I → List ℕ) (read : A → List ℕ) (r : ReadsBytes w bytes read) where
  read_length : (xs : List A) → length (read_all read xs) ≡ items_len w.item_len xs
  read_length [] = refl
  read_length (x ∷ xs) = omega (arith, length-append (read x) (read_all read xs), r.size x, read_length xs)

  -- the bytes are as many as the length
  pub bytes_length : (i : I) → w.IsKnown i → length (bytes i) ≡ input_len w i
  bytes_length i h = ap length (r.whole i h) ∙ read_length (w.elements i)

each_byte : (bs : List ℕ) → bs ≡ read_all (λ b. b ∷ []) bs
each_byte [] = refl
each_byte (b ∷ bs) = ap (λ ys. b ∷ ys) (each_byte bs)

byte_alone : (b k : ℕ) → k < 1 → b ∷ [] ≡ slice_index (b ∷ []) k ∷ []
byte_alone b zero h = refl
byte_alone b (suc k) h = absurd (omega (arith, h))

pub bytes_read : ReadsBytes {I = Bor (List ℕ)} bytes_model (λ s. s.now) (λ b. b ∷ [])
bytes_read = record {
  whole = λ i _. each_byte i.now;
  size = λ _. refl;
  alone = λ b k h _. byte_alone b k h;
}

each_char : (cs : List ℕ) → encode_utf8_all cs ≡ read_all encode_utf8 cs
each_char [] = refl
each_char (c ∷ cs) = ap (λ ys. encode_utf8 c ++ ys) (each_char cs)

-- a byte of ASCII is a character of its own
pub char_alone : (c k : ℕ) → k < length (encode_utf8 c) → slice_index (encode_utf8 c) k < 128 → encode_utf8 c ≡ slice_index (encode_utf8 c) k ∷ []
char_alone c k h a =
    let same = inside_one c [] (encode_utf8 c) k (sym (append-nil (encode_utf8 c))) h a in
    encode_ascii c (omega (arith, same, a)) ∙ ap (λ b. b ∷ []) same

pub text_read : ReadsBytes {I = Bor (List ℕ)} text_model (λ s. s.now) encode_utf8
text_read = record {
  whole = λ i h. sym (encodes-chars i.now h.0) ∙ each_char (chars i.now);
  size = length-encode;
  alone = char_alone;
}
