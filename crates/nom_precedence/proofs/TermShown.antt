-- Lemmas on the value that is built of a term.
use Rattle.std.proofs.Common.{◌≡◌, Bool, true, false, Option, Some, None, MatchOption, List, [], ◌∷◌, refl, ◌∙◌, ap, subst}
use Rattle.std.specs.List.{AllZip}
use Rattle.nom.specs.Prelude.{Built, BuiltFrom, BuiltFromBoth}
use Rattle.nom.specs.Accumulated.{Adds, Accumulated}
use Rattle.nom_precedence.specs.Expressions.{Tail, term_of}
use Rattle.nom_precedence.specs.Readings.{AppliedPushes, Before}
use Rattle.nom_precedence.specs.Values.{PostfixesBy, PrefixesBy, TailBy, TermBy}
use Rattle.nom_operators.proofs.PrefixesShown.{ListPushes, list_of_none}
use Rattle.nom_precedence.proofs.ReadShown.{built_from_both}

module _ {K L O G Q : Type 0} (value : K → Option O) (fold : K → L) (Gives : L → O → G → O → Type 0) (IsPostfix : Q → G → Type 0) where
  -- the value under all postfixes
  adds_give : (k : K) (qs : List Q) (cs : List G) (new : K) (x : O) → AllZip IsPostfix qs cs → value k ≡ Some x →
      Adds (AppliedPushes value fold Gives) k cs new → (y : O) × (value new ≡ Some y) × PostfixesBy IsPostfix (Gives (fold k)) x qs y
  adds_give k [] [] new x z e a = (x, ap value a ∙ e, refl)
  adds_give k [] (c ∷ cs) new x z e a = absurd z
  adds_give k (q ∷ qs) [] new x z e a = absurd z
  adds_give k (q ∷ qs) (c ∷ cs) new x z e a =
      let g = a.1 in
      let r = adds_give a.0 qs cs new g.rest z.1 g.after_is a.2 in
      let same : g.before ≡ x = cc (g.before_is, e) in (
        r.0,
        r.1,
        (c, g.rest, z.0, subst (λ s. Gives (fold k) s c g.rest) same g.given, subst (λ f. PostfixesBy IsPostfix (Gives f) g.rest qs r.0) g.fold_is r.2),
      )

module _ {K L O G V Q : Type 0} (value : K → Option O) (fold : K → L) (Gives : L → O → G → O → Type 0) (CanPush : K → Type 0)
    (IsOperand : V → O → Type 0) (IsPostfix : Q → G → Type 0) (f : L) (v : V) (qs : List Q) where
  -- an operand that is built, and what is kept of the postfixes after it
  pub tail_built : (outputs : Bool) (x : Option O) (first k : Option K) (z : Option O) → BuiltFrom true (λ y k. (value k ≡ Some y) × (fold k ≡ f)) x first →
      MatchOption k (z ≡ None) (λ m. z ≡ value m) → Built outputs (IsOperand v) x →
      Built outputs (Accumulated (AppliedPushes value fold Gives) CanPush IsPostfix first qs) k → Built outputs (TailBy IsOperand IsPostfix (Gives f) (v, qs)) z
  tail_built true (Some a) first (Some m) z c e b d =
      let is : b.0 ≡ a = cc (b.1) in
      let one : m ≡ d.0 = cc (d.1) in
      let kept = d.2 in
      let start : kept.first ≡ c.0 = cc (kept.first_is, c.1) in
      let held = c.2 in
      let r = adds_give value fold Gives IsPostfix kept.first qs kept.outputs d.0 a kept.are_outputs (ap value start ∙ held.0) kept.added in (
        r.0,
        e ∙ (ap value one ∙ r.1),
        record {
          operand = a;
          is_operand = subst (IsOperand v) is b.2;
          postfixes_give = subst (λ h. PostfixesBy IsPostfix (Gives h) a qs r.0) (ap fold start ∙ held.1) r.2;
        },
      )
  tail_built true (Some a) first None z c e b d = absurd (cc (d.1))
  tail_built true None first k z c e b d = absurd (cc (b.1))
  tail_built false x first (Some m) z c e b d = absurd (cc (d))
  tail_built false x first None z c e b d = e

-- the prefixes that were kept are applied to it
before_gives : {P F O : Type 0} (IsPrefix : P → F → Type 0) (OnPrefix : F → O → O → Type 0) (ps : List P) (cs : List F) (x y : O) → AllZip IsPrefix ps cs →
    Before OnPrefix cs x y → PrefixesBy IsPrefix OnPrefix ps x y
before_gives IsPrefix OnPrefix [] [] x y z h = h
before_gives IsPrefix OnPrefix [] (c ∷ cs) x y z h = absurd z
before_gives IsPrefix OnPrefix (p ∷ ps) [] x y z h = absurd z
before_gives IsPrefix OnPrefix (p ∷ ps) (c ∷ cs) x y z h = (c, h.0, z.0, before_gives IsPrefix OnPrefix ps cs x h.0 z.1 h.1, h.2)

module _ {P V Q F O G K : Type 0} (items : K → List F) (CanPush : K → Type 0) (IsPrefix : P → F → Type 0) (IsOperand : V → O → Type 0)
    (IsPostfix : Q → G → Type 0) (OnPrefix : F → O → O → Type 0) (OnPostfix : O → G → O → Type 0) (ps : List P) (t : Tail V Q) where
  -- a term's value, from the prefixes that were kept and the value after them
  pub term_built : (outputs : Bool) (start kept : Option K) (x y : Option O) → Built outputs (λ k. items k ≡ []) start →
      Built outputs (Accumulated (ListPushes items) CanPush IsPrefix start ps) kept → Built outputs (TailBy IsOperand IsPostfix OnPostfix t) x →
      BuiltFromBoth true (λ k a b. Before OnPrefix (items k) a b) kept x y →
      Built outputs (TermBy IsPrefix IsOperand IsPostfix OnPrefix OnPostfix (term_of ps t)) y
  term_built outputs start kept x y e h q b = built_from_both outputs kept x y (λ cs a d h k s. record {
    operand = k.operand;
    is_operand = k.is_operand;
    rest = a;
    postfixes_give = k.postfixes_give;
    prefixes_give = before_gives IsPrefix OnPrefix ps (items cs) a d (list_of_none items CanPush IsPrefix outputs start ps cs e h) s;
  }) h q b
