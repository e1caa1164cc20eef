-- Lemmas on the answers on a complete input, by what was answered where more might have come.
use Rattle.std.proofs.Common.{◌≡◌, true, false, Ok, Err, sym, subst, ◌⊎◌, inl, inr}
use Rattle.nom_internal.specs.Prelude.{IResult, OutOfMemory, Model, InputLaws, same_self, rest_related, View, IsPinned, Outcome, Accept, Refuse, Stop, Fails}
use Rattle.nom_internal.specs.Prelude.{Needs, Outright, TooLarge, ParsesOutcome, IsDecided, ParseRanOut, Parsed, Meaning, IsLawful, ParsesMeaning}
use Rattle.nom_internal.specs.Promises.{IsBlamed, Completes}

module _ {I A V O E : Type 0} (w : Model I A) (l : InputLaws w) (view : View O) (Pins : Type 0) (IsOutput : V → O → Type 0)
    (pinned : Pins → IsPinned view IsOutput) (m : Meaning I V E) (laws : IsLawful w m) (settles : m.Settles) (x : I) (known : w.IsKnown x) where
  abbrev Shown : IResult I O E → IResult I O E → Type 0
  Shown r s = Completes w view Pins IsOutput m x r s

  -- of one decided outcome the errors of either mode are those of both
  module _ (o : Outcome V) (a : m.answers true x o) (b : m.answers false x o) (d : IsDecided o) (e : E) where
    first_blamed : m.blames true x e → IsBlamed w view Pins IsOutput m x e
    first_blamed h = (h, laws.blames_consistent settles true x o e known a b d h)

    second_blamed : m.blames false x e → IsBlamed w view Pins IsOutput m x e
    second_blamed h = (laws.blames_consistent settles false x o e known b a d h, h)

  of_one : (o : Outcome V) (r s : IResult I O E) → m.answers true x o → m.answers false x o → IsDecided o →
      ParsesOutcome w IsOutput x (m.blames true x) o r → ParsesOutcome w IsOutput x (m.blames false x) o s → Shown r s
  of_one (Accept n v) r s a b d h t =
      let same = rest_related w l false x x n h.0 t.0 (same_self w x) h.2 t.2 in
      let answer : Shown (Ok (h.0, h.1)) s = (t.0, t.1, same, (λ p. (pinned p).one_view v h.1 t.1 h.3 t.3), t.4) in
      subst (λ z. Shown z s) (sym h.4) answer
  of_one Refuse r s a b d h t = subst (λ z. Shown z s) (sym h.2) (t.0, t.2, first_blamed Refuse a b d h.0 h.1, second_blamed Refuse a b d t.0 t.1)
  of_one (Stop (Fails Outright)) r s a b d h t =
      subst (λ z. Shown z s) (sym h.2) (inr (t.0, t.2, first_blamed (Stop (Fails Outright)) a b d h.0 h.1, second_blamed (Stop (Fails Outright)) a b d t.0 t.1))
  of_one (Stop (Fails TooLarge)) r s a b d h t = absurd d
  of_one (Stop (Needs k)) r s a b d h t = absurd d

  of_decided : (o p : Outcome V) (r s : IResult I O E) → m.answers true x o → m.answers false x p → IsDecided o →
      ParsesOutcome w IsOutput x (m.blames true x) o r → ParsesOutcome w IsOutput x (m.blames false x) p s → Shown r s
  of_decided o p r s a b d h t =
      let c = laws.settles settles x x o known known (same_self w x) a d in
      let e = laws.one_outcome false x x o p known known (same_self w x) c tt b in
      of_one o r s a c d h (subst (λ z. ParsesOutcome w IsOutput x (m.blames false x) z s) (sym e) t)

  of_outcomes : (o p : Outcome V) (r s : IResult I O E) → m.answers true x o → m.answers false x p →
      ParsesOutcome w IsOutput x (m.blames true x) o r → ParsesOutcome w IsOutput x (m.blames false x) p s → Shown r s
  of_outcomes (Accept n v) p r s a b h t = of_decided (Accept n v) p r s a b tt h t
  of_outcomes Refuse p r s a b h t = of_decided Refuse p r s a b tt h t
  of_outcomes (Stop (Fails Outright)) p r s a b h t = of_decided (Stop (Fails Outright)) p r s a b tt h t
  of_outcomes (Stop (Fails TooLarge)) p r s a b h t = subst (λ z. Shown z s) (sym h.2) (inl a)
  of_outcomes (Stop (Needs k)) p r s a b h t = subst (λ z. Shown z s) (sym h.2) tt

  pub completes : (r s : IResult I O E) → ParsesMeaning w IsOutput m true x r → ParsesMeaning w IsOutput m false x s →
      (s ≡ Err OutOfMemory) ⊎ Shown r s
  completes r s (ParseRanOut e h) t = inr (subst (λ z. Shown z s) (sym e) tt)
  completes r s (Parsed o a h) (ParseRanOut e f) = inl e
  completes r s (Parsed o a h) (Parsed p b t) = inr (of_outcomes o p r s a b h t)
