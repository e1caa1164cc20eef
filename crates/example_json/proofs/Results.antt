-- Lemmas on what an answer says of a parser: that it accepted, or that it refused.
use Rattle.std.proofs.Common.{◌≡◌, ℕ, true, false, Ok, sym, ◌∙◌, ap, subst}
use Rattle.nom_internal.specs.Prelude.{IResult, IsSuffixOf, text_model, Outcome, Accept, Refuse, Stop, Fails, Needs, ParsesAnswer, ParseRanOut, Parsed}
use Rattle.nom_error.specs.declared.value.Error.{Error}
use Rattle.nom.specs.Texts.{Text}
use Rattle.example_json.specs.Json.{refuses}

abbrev pub TextResult : Type 0 → Type 0
TextResult O = IResult Text O (Error Text)

-- an acceptance that was answered
pub record Taken {V O : Type 0} (IsOutput : V → O → Type 0) (Answers : Outcome V → Type 0) (i j : Text) (x : O) : Type 0 where
  pub length : ℕ
  pub tree : V
  pub answered : Answers (Accept length tree)
  pub rest_is : IsSuffixOf text_model i length j
  pub output_is : IsOutput tree x

module _ {V O : Type 0} {IsOutput : V → O → Type 0} {Answers : Outcome V → Type 0} {IsError : Error Text → Type 0} {RunsOut : Type 0} {i : Text} where
  module _ {j : Text} {x : O} where
    pub taken : {r : TextResult O} → r ≡ Ok (j, x) → ParsesAnswer text_model IsOutput i Answers IsError RunsOut r → Taken IsOutput Answers i j x
    taken is (ParseRanOut e h) = absurd (cc (is, e))
    taken is (Parsed (Accept n v) a p) =
        let same : ◌≡◌ {A = Text × O} (j, x) (p.0, p.1) = cc (is, p.4) in
        record {
          length = n;
          tree = v;
          answered = a;
          rest_is = subst (λ k. IsSuffixOf text_model i n k) (sym (ap (λ q. q.0) same)) p.2;
          output_is = subst (λ y. IsOutput v y) (sym (ap (λ q. q.1) same)) p.3;
        }
    taken is (Parsed Refuse a p) = absurd (cc (is, p.2))
    taken is (Parsed (Stop (Fails cause)) a p) = absurd (cc (is, p.2))
    taken is (Parsed (Stop (Needs k)) a p) = absurd (cc (is, p.2))

    pub told : {r : TextResult O} → r ≡ Ok (j, x) → Taken IsOutput Answers i j x → ParsesAnswer text_model IsOutput i Answers IsError RunsOut r
    told is t = Parsed (Accept t.length t.tree) t.answered (j, x, t.rest_is, t.output_is, is)

  pub refused : {r : TextResult O} → true ≡ refuses r → ParsesAnswer text_model IsOutput i Answers IsError RunsOut r →
      Answers Refuse × ((e : Error Text) × IsError e)
  refused q (ParseRanOut e z) = let no : true ≡ false = q ∙ ap refuses e in absurd (cc (no))
  refused q (Parsed (Accept n v) a p) = let no : true ≡ false = q ∙ ap refuses p.4 in absurd (cc (no))
  refused q (Parsed Refuse a p) = (a, (p.0, p.1))
  refused q (Parsed (Stop (Fails cause)) a p) = let no : true ≡ false = q ∙ ap refuses p.2 in absurd (cc (no))
  refused q (Parsed (Stop (Needs k)) a p) = let no : true ≡ false = q ∙ ap refuses p.2 in absurd (cc (no))
