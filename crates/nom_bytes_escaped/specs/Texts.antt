-- The text that pieces make together.
use Rattle.std.specs.Prelude.{◌≡◌, List, [], ◌∷◌, ◌++◌, Option, Some, None}
use Rattle.std.proofs.Common.{sym, ◌∙◌, ap}
use Rattle.nom_internal.specs.Prelude.{View, IsPinned}
use Rattle.nom_bytes_escaped.specs.declared.next_piece.Piece.{Piece}
use Rattle.nom_bytes_escaped.specs.declared.next_piece.Piece.TheVariants.{Normal, Escapable}

module _ {U W O X P : Type 0} (IsNormal : U → O → Type 0) (IsEscapable : W → X → Type 0) (normal_adds : O → List P) (escapable_adds : X → List P) where
  -- what the value of a piece adds
  abbrev pub Adds : Piece U W → List P → Type 0
  Adds (Normal u) ps = (v : O) × IsNormal u v × (ps ≡ normal_adds v)
  Adds (Escapable u) ps = (v : X) × IsEscapable u v × (ps ≡ escapable_adds v)

  -- what the values of all pieces add, in their order
  abbrev pub AddAll : List (Piece U W) → List P → Type 0
  AddAll [] ps = ps ≡ []
  AddAll (v ∷ vs) ps = (first : List P) × (others : List P) × Adds v first × AddAll vs others × (ps ≡ first ++ others)

-- the text with a value more, where both are built
abbrev pub IsAppended : {T V P : Type 0} → (T → List P) → (V → List P) → Option T → Option V → Option T → Type 0
IsAppended parts added (Some text) (Some value) (Some new) = parts new ≡ parts text ++ added value
IsAppended parts added (Some text) (Some value) None = ⊥
IsAppended parts added (Some text) None new = new ≡ Some text
IsAppended parts added None value new = new ≡ None

-- both are built, and the text has to grow before the value fits
abbrev pub GrowsFor : {T V : Type 0} → (V → T → Type 0) → Option T → Option V → Type 0
GrowsFor grows (Some text) (Some value) = grows value text
GrowsFor grows (Some text) None = ⊥
GrowsFor grows None value = ⊥

-- the same for the value of a piece
abbrev pub GrowsForPiece : {T O X : Type 0} → (O → T → Type 0) → (X → T → Type 0) → Option T → Piece (Option O) (Option X) → Type 0
GrowsForPiece normal_grows escapable_grows text (Normal value) = GrowsFor normal_grows text value
GrowsForPiece normal_grows escapable_grows text (Escapable value) = GrowsFor escapable_grows text value

-- the text with the value of a piece more
abbrev pub IsExtended : {T O X P : Type 0} → (T → List P) → (O → List P) → (X → List P) → Option T → Piece (Option O) (Option X) → Option T → Type 0
IsExtended parts normal_adds escapable_adds text (Normal value) new = IsAppended parts normal_adds text value new
IsExtended parts normal_adds escapable_adds text (Escapable value) new = IsAppended parts escapable_adds text value new

-- texts of the same pieces, whose values are equal as viewed and add alike
module _ {U W O X P : Type 0} (IsNormal : U → O → Type 0) (IsEscapable : W → X → Type 0) (normal_adds : O → List P) (escapable_adds : X → List P)
    (o : View O) (x : View X) (normal_consistent : (a b : O) → o.value a ≡ o.value b → normal_adds a ≡ normal_adds b)
    (escapable_consistent : (a b : X) → x.value a ≡ x.value b → escapable_adds a ≡ escapable_adds b) (normal : IsPinned o IsNormal)
    (escapable : IsPinned x IsEscapable) where
  one_added : (v : Piece U W) (ps qs : List P) → Adds IsNormal IsEscapable normal_adds escapable_adds v ps →
      Adds IsNormal IsEscapable normal_adds escapable_adds v qs → ps ≡ qs
  one_added (Normal u) ps qs a b = a.2 ∙ (normal_consistent a.0 b.0 (normal.one_view u a.0 b.0 a.1 b.1) ∙ sym b.2)
  one_added (Escapable u) ps qs a b = a.2 ∙ (escapable_consistent a.0 b.0 (escapable.one_view u a.0 b.0 a.1 b.1) ∙ sym b.2)

  all_added : (vs : List (Piece U W)) (ps qs : List P) → AddAll IsNormal IsEscapable normal_adds escapable_adds vs ps →
      AddAll IsNormal IsEscapable normal_adds escapable_adds vs qs → ps ≡ qs
  all_added [] ps qs a b = a ∙ sym b
  all_added (v ∷ vs) ps qs a b =
      let heads = one_added v a.0 b.0 a.2 b.2 in
      let tails = all_added vs a.1 b.1 a.3 b.3 in
      a.4 ∙ (ap (λ z. z ++ a.1) heads ∙ (ap (λ z. b.0 ++ z) tails ∙ sym b.4))

pub texts_pinned : {T U W O X P : Type 0} {t : View T} {o : View O} {x : View X} {IsNormal : U → O → Type 0} {IsEscapable : W → X → Type 0} →
    (parts : T → List P) (normal_adds : O → List P) (escapable_adds : X → List P) → ((a b : T) → parts a ≡ parts b → t.value a ≡ t.value b) →
    ((a b : O) → o.value a ≡ o.value b → normal_adds a ≡ normal_adds b) → ((a b : X) → x.value a ≡ x.value b → escapable_adds a ≡ escapable_adds b) →
    IsPinned o IsNormal → IsPinned x IsEscapable → IsPinned t (λ vs text. AddAll IsNormal IsEscapable normal_adds escapable_adds vs (parts text))
texts_pinned {o = o} {x = x} {IsNormal = IsNormal} {IsEscapable = IsEscapable} parts normal_adds escapable_adds model f g p q = record {
  one_view = λ vs a b h k. model a b (all_added IsNormal IsEscapable normal_adds escapable_adds o x f g p q vs (parts a) (parts b) h k);
}
