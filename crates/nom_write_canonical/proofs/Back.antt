-- Lemmas on items that were accepted and are written again: they are the same.
use Rattle.std.proofs.Common.{◌≡◌, ℕ, Bool, List, ◌++◌, Ok, sym, ◌∙◌, ap, subst}
use Rattle.nom_internal.specs.Prelude.{Accept, AreValues, Grammar, InputLaws, IsSuffixOf, Model, Outcome, ParseRanOut, Parsed, ParsesOutcome}
use Rattle.nom_internal.specs.Prelude.{Fails, Needs, Refuse, Stop}
use Rattle.nom_write.specs.laws.SequenceReads.{rest_follows}
use Rattle.nom_write_canonical.specs.Forms.{AcceptsForms, IsOneForm, WritesBack}
use Rattle.nom_write_canonical.specs.laws.SequenceForms.{values_apart}

module _ {I A V O E : Type 0} (w : Model I A) (IsValue : A → Type 0) (l : InputLaws w) (g : Grammar I V O E) (Form : O → List A → Type 0)
    (known_values : (i : I) → w.IsKnown i → AreValues IsValue (w.elements i)) (accepts : AcceptsForms w g Form)
    (one : (v : O) → IsOneForm IsValue (Form v)) where
  -- a form of an output of a tree that was accepted
  tree_back : (s : Bool) (i j : I) (n : ℕ) (t : V) (v : O) (xs : List A) → w.IsKnown i → g.meaning.answers s i (Accept n t) → IsSuffixOf w i n j →
      g.IsOutput t v → AreValues IsValue xs → Form v xs → w.elements i ≡ xs ++ w.elements j
  tree_back s i j n t v xs known a suffix output bytes form =
      let k = (accepts.accepts s).front i n t known a in
      let consumed = values_apart IsValue k.front k.rest (subst (AreValues IsValue) k.whole (known_values i known)) in
      let same : k.front ≡ xs = (one v).one k.front xs consumed.0 bytes (k.fact v output) form in
      let rest : w.elements j ≡ k.rest = rest_follows w l i j k.front k.rest k.whole (subst (λ m. IsSuffixOf w i m j) (sym k.length_is) suffix) in
      k.whole ∙ (ap (λ z. z ++ k.rest) same ∙ ap (λ z. xs ++ z) (sym rest))

  outcome_back : (s : Bool) (i j : I) (v : O) (xs : List A) → w.IsKnown i → (Blames : E → Type 0) (o : Outcome V) → g.meaning.answers s i o →
      ParsesOutcome w g.IsOutput i Blames o (Ok (j, v)) → AreValues IsValue xs → Form v xs → w.elements i ≡ xs ++ w.elements j
  outcome_back s i j v xs known Blames (Accept n t) a h bytes form =
      let pair : ◌≡◌ {A = I × O} (j, v) (h.0, h.1) = cc (h.4) in
      let rest : j ≡ h.0 = ap (λ p. p.0) pair in
      let output : v ≡ h.1 = ap (λ p. p.1) pair in
      tree_back s i j n t v xs known a (subst (λ z. IsSuffixOf w i n z) (sym rest) h.2) (subst (λ z. g.IsOutput t z) (sym output) h.3) bytes form
  outcome_back s i j v xs known Blames Refuse a h bytes form = absurd (cc (h.2))
  outcome_back s i j v xs known Blames (Stop (Fails cause)) a h bytes form = absurd (cc (h.2))
  outcome_back s i j v xs known Blames (Stop (Needs k)) a h bytes form = absurd (cc (h.2))

  pub writes_back : WritesBack w IsValue g Form
  writes_back s i j v xs known (ParseRanOut e h) bytes form = absurd (cc (e))
  writes_back s i j v xs known (Parsed o a h) bytes form = outcome_back s i j v xs known (g.meaning.blames s i) o a h bytes form
