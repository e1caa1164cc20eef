-- Functions as parts of a grammar.
use Rattle.std.proofs.Common.{◌≡◌, ℕ, false, true, List, Ok, Err, refl, sym, subst}
use Rattle.nom_internal.specs.Prelude.{Needed, modes, ErrorKind, text_model, Outcome, Accept, Refuse, Stop, Fails}
use Rattle.nom_internal.specs.Prelude.{Needs, ParsesAnswer, ParseRanOut, Parsed}
use Rattle.nom_error.specs.declared.answer.Err as Answer
use Rattle.example_formats.specs.declared.arithmetic.Fault.{Fault}
use Rattle.example_formats.specs.Arithmetic.{Given, Grammar, IsGiven, Parses, Text, FormResult}

module _ {V O P : Type 0} (g : Grammar V O) (Gives : Text → O → P → Type 0) {i : Text} {s : FormResult O} where
  pub given_stops : {e : Answer.Err Fault Fault Needed} {r : FormResult P} → s ≡ Err e → r ≡ Err e → Parses g i s → Given Gives g i r
  given_stops {e} {r} is q h = record { found = s; parsed = h; given = subst (λ f. IsGiven Gives i f r) (sym is) q }

  pub given_takes : {j : Text} {x : O} {y : P} → s ≡ Ok (j, x) → Gives i x y → Parses g i s → Given Gives g i (Ok (j, y))
  given_takes {j} {x} {y} is k h = record { found = s; parsed = h; given = subst (λ f. IsGiven Gives i f (Ok (j, y))) (sym is) (y, k, refl) }

-- what holds by a set of characters and a kind that are told
pub by_set : {set list : List ℕ} {kind own : ErrorKind} (Fact : List ℕ → ErrorKind → Type 0) → list ≡ set → own ≡ kind → Fact list own → Fact set kind
by_set {set} {list} {kind} {own} Fact e f h = subst (λ k. Fact set k) f (subst (λ l. Fact l own) e h)

-- what is answered by one meaning is by a grammar, where its outcomes, errors and outputs are the grammar's
pub parses_by : {V O : Type 0} (g : Grammar V O) {F : V → O → Type 0} {A : Outcome V → Type 0} {X : Fault → Type 0} {R : Type 0} {i : Text} {r : FormResult O}
    → ParsesAnswer text_model F i A X R r → ((t : V) (o : O) → F t o → g.IsOutput t o) → ((o : Outcome V) → A o → g.meaning.answers false i o) →
    ((e : Fault) → X e → g.meaning.blames false i e) → (R → g.meaning.may_run_out (modes true true false) i) → Parses g i r
parses_by g (ParseRanOut e h) f a x s = ParseRanOut e (s h)
parses_by g (Parsed (Accept n t) h p) f a x s = Parsed (Accept n t) (a (Accept n t) h) (p.0, p.1, p.2, f t p.1 p.3, p.4)
parses_by g (Parsed Refuse h p) f a x s = Parsed Refuse (a Refuse h) (p.0, x p.0 p.1, p.2)
parses_by g (Parsed (Stop (Fails cause)) h p) f a x s = Parsed (Stop (Fails cause)) (a (Stop (Fails cause)) h) (p.0, x p.0 p.1, p.2)
parses_by g (Parsed (Stop (Needs k)) h p) f a x s = Parsed (Stop (Needs k)) (a (Stop (Needs k)) h) (p.0, p.1, p.2)
