-- How many members of a permutation aren't applied, and what applying one does to that.
use Rattle.std.specs.Prelude.{◌≡◌, ℕ, ◌+◌, List, [], ◌∷◌, Option, Some, None}
use Rattle.std.proofs.Common.{arith, ap, suc}
use Rattle.nom_branch.specs.Members.{Member}

abbrev pub count_of_left : {P : Type 0} → Option P → ℕ
count_of_left (Some v) = 0
count_of_left None = 1

-- how many of the members aren't applied
abbrev pub left : {I T E : Type 0} → List (Member I T E) → T → ℕ
left [] t = 0
left (m ∷ ms) t = count_of_left (m.tree t) + left ms t

-- to apply the member, of all of them, leaves one fewer
abbrev pub LeavesOneFewer : {I T E : Type 0} → List (Member I T E) → Member I T E → Type 0
LeavesOneFewer {T = T} all m = (t : T) (v : m.Tree) → m.tree t ≡ None → left all t ≡ suc (left all (m.put t v))

-- of the members of a tuple: the one that is applied, and those before it
pub here : {P : Type 0} (x : Option P) (n : ℕ) → x ≡ None → count_of_left x + n ≡ suc (0 + n)
here x n e = omega (arith, ap count_of_left e)

pub there : (k m n : ℕ) → m ≡ suc n → k + m ≡ suc (k + n)
there k m n e = omega (arith, e)
