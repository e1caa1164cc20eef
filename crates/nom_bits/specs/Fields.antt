-- Bit fields.
use Rattle.std.specs.Prelude.{◌≡◌, ℕ, ◌<◌, ◌≤◌, nat_eq, ◌⊎◌, Bool, false, List, ◌++◌, length, Some}
use Rattle.nom_error.specs.declared.kind.ErrorKind.TheVariants as Kind
use Rattle.nom_internal.specs.Prelude.{Errors, Model, bits_model, spelled, Meaning, Leaf, leaf_meaning, labelled_meaning, premised}

module _ {I : Type 0} (w : Model I ℕ) where
  -- the next bits, as many as count, spell a number
  pub record IsField (i : I × ℕ) (count number : ℕ) : Type 0 where
    pub field : List Bool
    pub rest : List Bool
    pub whole : (bits_model w).elements i ≡ field ++ rest
    pub count_is : length field ≡ count
    pub number_is : spelled field ≡ number

  -- there are fewer bits than count
  abbrev pub IsShort : I × ℕ → ℕ → Type 0
  IsShort i count = length ((bits_model w).elements i) < count

  -- the number that the next bits spell; where there are fewer, all of them are needed, or in the complete mode they are refused
  abbrev pub fields : ℕ → Leaf (I × ℕ) ℕ
  fields count = record {
    Accepts = λ s i n number. (n ≡ count) × IsField i count number;
    Refuses = λ s i. (s ≡ false) × IsShort i count;
    Lacks = λ i k. IsShort i count × (k ≡ Some count);
  }

  -- the same where the number is the wanted one; another is refused
  abbrev pub tagged_fields : ℕ → ℕ → Leaf (I × ℕ) ℕ
  tagged_fields wanted count = record {
    Accepts = λ s i n number. (n ≡ count) × IsField i count number × (number ≡ wanted);
    Refuses = λ s i. ((s ≡ false) × IsShort i count) ⊎ ((number : ℕ) × IsField i count number × (number ≡ wanted → ⊥));
    Lacks = λ i k. IsShort i count × (k ≡ Some count);
  }

  -- a refusal: bits are missing, or another number stands there
  abbrev pub TagBlames : {E : Type 0} → Errors (I × ℕ) E → ℕ → I × ℕ → E → Type 0
  TagBlames errs count i e = (IsShort i count × errs.of_kind i Kind.Eof e) ⊎ ((count ≤ length ((bits_model w).elements i)) × errs.of_kind i Kind.TagBits e)

  -- a number takes that many bits at most: that is the premise of a call
  abbrev pub take_meaning : {E : Type 0} → Errors (I × ℕ) E → (width count : ℕ) → Meaning (I × ℕ) ℕ E
  take_meaning errs width count = premised (count ≤ width) (Unit {0}) (leaf_meaning (λ i. errs.of_kind i Kind.Eof) errs.grows (fields count))

  abbrev pub tag_meaning : {E : Type 0} → Errors (I × ℕ) E → (width wanted count : ℕ) → Meaning (I × ℕ) ℕ E
  tag_meaning errs width wanted count = premised (count ≤ width) (Unit {0}) (leaf_meaning (TagBlames errs count) errs.grows (tagged_fields wanted count))

  -- the next bit: a field of one bit is 1
  abbrev pub bool_meaning : {E : Type 0} → Errors (I × ℕ) E → Meaning (I × ℕ) Bool E
  bool_meaning errs = labelled_meaning (λ number. nat_eq number 1) (leaf_meaning (λ i. errs.of_kind i Kind.Eof) errs.grows (fields 1))
