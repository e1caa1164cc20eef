-- Tests of items.
use Rattle.std.specs.Prelude.{Bool, true, false, IsTrue, ◌↔◌, refl}

-- no value is answered in both ways
abbrev pub IsFixed : {A : Type 0} → (A → Type 0) → (A → Bool → Type 0) → Type 0
IsFixed {A} IsValue Answers = (x : A) → IsValue x → Answers x true → Answers x false → ⊥

-- an answer that is true exactly where a fact holds is one answer
pub one_answer : {P : Type 0} → IsTrue true ↔ P → IsTrue false ↔ P → ⊥
one_answer t f = cc (f.1 (t.0 refl))
