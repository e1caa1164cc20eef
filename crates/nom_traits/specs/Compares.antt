-- Comparisons with tags.
use Rattle.std.specs.Prelude.{◌≡◌, ℕ, ◌<◌, List, ◌∷◌, ◌++◌, encode_utf8_all}
use Rattle.std.specs.Str.{str_to_ascii_lowercase}
use Rattle.nom_traits.specs.declared.compare.CompareResult.{CompareResult}
use Rattle.nom_traits.specs.declared.compare.CompareResult.TheVariants as Compared
use Rattle.nom_traits.specs.Input.{Model, IsBoundary, Extends, input_len}

-- the laws of a comparison of inputs with tags, each of a length
pub record CompareLaws {I A T : Type 0} (w : Model I A) (size : T → ℕ) (Compares : T → List A → CompareResult → Type 0) : Type 0 where
  pub one : (t : T) (i : I) (r s : CompareResult) → w.IsKnown i → Compares t (w.elements i) r → Compares t (w.elements i) s → r ≡ s
  -- the tag ends at a place
  pub place : (t : T) (i : I) → w.IsKnown i → Compares t (w.elements i) Compared.Ok → IsBoundary w i (size t)
  -- the items are fewer than the tag's
  pub shorter : (t : T) (i : I) → w.IsKnown i → Compares t (w.elements i) Compared.Incomplete → input_len w i < size t
  -- what is decided stays
  pub ok_stays : (t : T) (x y : I) → w.IsKnown x → w.IsKnown y → Extends w x y → Compares t (w.elements x) Compared.Ok → Compares t (w.elements y) Compared.Ok
  pub error_stays : (t : T) (x y : I) → w.IsKnown x → w.IsKnown y → Extends w x y → Compares t (w.elements x) Compared.Error →
      Compares t (w.elements y) Compared.Error

-- items that are read as bytes, against a tag of bytes: bytes of one form are alike
module _ {A : Type 0} (bytes : List A → List ℕ) (form : List ℕ → List ℕ) (t : List ℕ) (xs : List A) where
  -- the tag is the first items
  pub record IsFound : Type 0 where
    pub front : List A
    pub rest : List A
    pub whole : xs ≡ front ++ rest
    pub tag_is : form (bytes front) ≡ form t

  -- all items together are a proper front of the tag
  pub record IsBegun : Type 0 where
    pub byte : ℕ
    pub more : List ℕ
    pub tag_is : form t ≡ form (bytes xs) ++ (byte ∷ more)

  abbrev pub ComparesAs : CompareResult → Type 0
  ComparesAs Compared.Ok = IsFound
  ComparesAs Compared.Incomplete = IsBegun
  ComparesAs Compared.Error = (IsFound → ⊥) × (IsBegun → ⊥)

-- bytes against a tag
abbrev pub ComparesBytes : List ℕ → List ℕ → CompareResult → Type 0
ComparesBytes = ComparesAs (λ xs. xs) (λ t. t)

-- with ASCII letters folded
abbrev pub ComparesBytesNoCase : List ℕ → List ℕ → CompareResult → Type 0
ComparesBytesNoCase = ComparesAs (λ xs. xs) str_to_ascii_lowercase

-- characters against a tag of bytes
abbrev pub ComparesText : List ℕ → List ℕ → CompareResult → Type 0
ComparesText = ComparesAs encode_utf8_all (λ t. t)

-- with ASCII letters folded
abbrev pub ComparesTextNoCase : List ℕ → List ℕ → CompareResult → Type 0
ComparesTextNoCase = ComparesAs encode_utf8_all str_to_ascii_lowercase
