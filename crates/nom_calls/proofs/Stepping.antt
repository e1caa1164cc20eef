-- Lemmas on one call of `next`.
use Rattle.std.proofs.Common.{◌≡◌, Option, sym, subst}
use Rattle.nom_internal.specs.Prelude.{Model, Meaning, ParsesMeaning, IResult}
use Rattle.std.specs.Prelude.{true}
use Rattle.nom_calls.specs.Steps.{Moves, Gives, IsStep}
use Rattle.nom_calls.specs.declared.items.State.{State}
use Rattle.nom_calls.specs.declared.items.State.TheVariants.{Running}

module _ {I A V O E S : Type 0} {w : Model I A} {IsOutput : V → O → Type 0} {m : Meaning I V E} {p q : S} {i : I} {s : State E} where
  -- one that runs gives what the parser's answer says
  pub stepped : {r : Option O} {j : I} {t : State E} (answer : IResult I O E) → q ≡ p → s ≡ Running →
      ParsesMeaning w IsOutput m true i answer → Moves i answer r j t → IsStep w IsOutput m p q i s r j t
  stepped {r = r} {j = j} {t = t} answer kept running shown moves =
      record { kept = kept; gives = subst (λ z. Gives w IsOutput m i z r j t) (sym running) (answer, shown, moves) }
