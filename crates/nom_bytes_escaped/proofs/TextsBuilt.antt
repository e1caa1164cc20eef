-- A text that is built of pieces.
use Rattle.std.proofs.Common.{◌≡◌, List, [], ◌∷◌, ◌++◌, Option, Some, None, Bool, true, false, rules, refl, sym, ◌∙◌, ap, subst, append_assoc, append-nil}
use Rattle.std.specs.Prelude.{IsSome}
use Rattle.nom_internal.specs.Prelude.{Built}
use Rattle.nom_bytes_escaped.specs.declared.next_piece.Piece.{Piece}
use Rattle.nom_bytes_escaped.specs.declared.next_piece.Piece.TheVariants.{Normal, Escapable}
use Rattle.nom_bytes_escaped.specs.NextPieces.{IsPiece}
use Rattle.nom_bytes_escaped.specs.Texts.{Adds, AddAll, GrowsFor, GrowsForPiece, IsAppended, IsExtended}

-- a text that has to grow is there
grows_is_some : {T V : Type 0} (grows : V → T → Type 0) (text : Option T) (value : Option V) → GrowsFor grows text value → IsSome text
grows_is_some grows (Some t) (Some v) h = refl
grows_is_some grows (Some t) None h = absurd h
grows_is_some grows None value h = absurd h

pub growing_is_some : {T O X : Type 0} (normal_grows : O → T → Type 0) (escapable_grows : X → T → Type 0) (text : Option T)
    (piece : Piece (Option O) (Option X)) → GrowsForPiece normal_grows escapable_grows text piece → IsSome text
growing_is_some normal_grows escapable_grows text (Normal value) h = grows_is_some normal_grows text value h
growing_is_some normal_grows escapable_grows text (Escapable value) h = grows_is_some escapable_grows text value h

-- there is a value only where values are built
pub some_is_built : {T : Type 0} (P : T → Type 0) (builds : Bool) (o : Option T) → IsSome o → Built builds P o → builds ≡ true
some_is_built P true o h b = refl
some_is_built P false (Some t) h b = absurd (cc (b))
some_is_built P false None h b = absurd (search rules)

module _ {U W O X P : Type 0} (IsNormal : U → O → Type 0) (IsEscapable : W → X → Type 0) (normal_adds : O → List P) (escapable_adds : X → List P) where
  add_push : (vs : List (Piece U W)) (ps qs : List P) (v : Piece U W) → AddAll IsNormal IsEscapable normal_adds escapable_adds vs ps →
      Adds IsNormal IsEscapable normal_adds escapable_adds v qs → AddAll IsNormal IsEscapable normal_adds escapable_adds (vs ++ v ∷ []) (ps ++ qs)
  add_push [] ps qs v h a = (qs, [], a, refl, ap (λ z. z ++ qs) h ∙ sym (append-nil qs))
  add_push (u ∷ us) ps qs v h a = (h.0, h.1 ++ qs, h.2, add_push us h.1 qs v h.3 a, ap (λ z. z ++ qs) h.4 ∙ append_assoc h.0 h.1 qs)

  module _ {T : Type 0} (parts : T → List P) (vs : List (Piece U W)) (v : Piece U W) where
    -- the text with a value more
    text_appended : {V : Type 0} (added : V → List P) (IsValue : V → Type 0) →
        ((x : V) → IsValue x → Adds IsNormal IsEscapable normal_adds escapable_adds v (added x)) →
        (builds : Bool) (old : Option T) (value : Option V) (new : Option T) → IsAppended parts added old value new →
        Built builds (λ t. AddAll IsNormal IsEscapable normal_adds escapable_adds vs (parts t)) old → Built builds IsValue value →
        Built builds (λ t. AddAll IsNormal IsEscapable normal_adds escapable_adds (vs ++ v ∷ []) (parts t)) new
    text_appended added IsValue f true (Some t) (Some x) (Some n) g b c =
        let text : b.0 ≡ t = cc (b.1) in
        let value : c.0 ≡ x = cc (c.1) in
        let before = subst (λ z. AddAll IsNormal IsEscapable normal_adds escapable_adds vs (parts z)) text b.2 in (
          n,
          refl,
          subst (λ z. AddAll IsNormal IsEscapable normal_adds escapable_adds (vs ++ v ∷ []) z) (sym g)
              (add_push vs (parts t) (added x) v before (f x (subst (λ z. IsValue z) value c.2))),
        )
    text_appended added IsValue f true (Some t) (Some x) None g b c = absurd g
    text_appended added IsValue f true (Some t) None n g b c = absurd (cc (c.1))
    text_appended added IsValue f true None x n g b c = absurd (cc (b.1))
    text_appended added IsValue f false (Some t) x n g b c = absurd (cc (b))
    text_appended added IsValue f false None x n g b c = g

  -- the text with the value of a piece more
  pub text_extended : {T : Type 0} (parts : T → List P) (vs : List (Piece U W)) (v : Piece U W) (builds : Bool) (old : Option T)
      (piece : Piece (Option O) (Option X)) (new : Option T) → IsExtended parts normal_adds escapable_adds old piece new →
      Built builds (λ t. AddAll IsNormal IsEscapable normal_adds escapable_adds vs (parts t)) old → IsPiece builds IsNormal IsEscapable v piece →
      Built builds (λ t. AddAll IsNormal IsEscapable normal_adds escapable_adds (vs ++ v ∷ []) (parts t)) new
  text_extended parts vs (Normal u) builds old (Normal b) new g h p =
      text_appended parts vs (Normal u) normal_adds (IsNormal u) (λ x k. (x, k, refl)) builds old b new g h p
  text_extended parts vs (Normal u) builds old (Escapable b) new g h p = absurd p
  text_extended parts vs (Escapable u) builds old (Normal b) new g h p = absurd p
  text_extended parts vs (Escapable u) builds old (Escapable b) new g h p =
      text_appended parts vs (Escapable u) escapable_adds (IsEscapable u) (λ x k. (x, k, refl)) builds old b new g h p
