-- Lemmas on the prefixes of a term.
use Rattle.std.proofs.Common.{◌≡◌, ◌++◌, List, [], ◌∷◌, refl, sym, subst}
use Rattle.nom_precedence.specs.Readings.{Before}

-- prefixes, the last of which is applied first
pub before_last : {P X : Type 0} (Gives : P → X → X → Type 0) (items rest : List P) (p : P) (x y z : X) → items ≡ rest ++ p ∷ [] → Gives p x y →
    Before Gives rest y z → Before Gives items x z
before_last {P} {X} Gives items rest p x y z e g h = subst (λ ps. Before Gives ps x z) (sym e) (all rest z h)
  where
    all : (ps : List P) (u : X) → Before Gives ps y u → Before Gives (ps ++ p ∷ []) x u
    all [] u k = (x, refl, subst (λ v. Gives p x v) (sym k) g)
    all (q ∷ ps) u k = (k.0, all ps k.0 k.1, k.2)
