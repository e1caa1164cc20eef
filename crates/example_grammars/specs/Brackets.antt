-- Nested brackets: as many that close as opened before them.
use Rattle.std.specs.Prelude.{◌≡◌, ℕ, ◌+◌, ◌≤◌, ◌<◌, ◌==◌, cond, List, [], ◌∷◌, drop, length}
use Rattle.std.specs.Borrow.{Bor}
use Rattle.std.proofs.Common.{arith, sym, ◌∙◌, ap, subst, length-drop}
use Rattle.nom_error.specs.declared.kind.ErrorKind.TheVariants.{Char}
use Rattle.nom_error.specs.declared.value.Error.{Error}
use Rattle.nom_internal.specs.Prelude.{bytes_model, IsSuffixOf, Meaning, IsLawful, leaf_meaning}
use Rattle.nom_traits.proofs.ByteCuts.{byte_place}
use Rattle.nom_combinator.specs.Ends.{plain_leaf}
use Rattle.nom_combinator.specs.laws.AllLaws.{PlainLaws, plain_lawful}

abbrev Bytes : Type 0
Bytes = Bor (List ℕ)

-- how many of the first bytes are the one that is sought
abbrev pub run_of : ℕ → List ℕ → ℕ
run_of byte [] = 0
run_of byte (x ∷ xs) = cond (x == byte) (1 + run_of byte xs) 0

-- how many brackets open at first, and how many close right after those
abbrev pub opened : List ℕ → ℕ
opened xs = run_of 40 xs

abbrev pub closed : List ℕ → ℕ
closed xs = run_of 41 (drop (opened xs) xs)

-- As many brackets as opened are closed after them, and the depth is how many; what follows is left.
abbrev pub IsNested : Bytes → (length depth : ℕ) → Type 0
IsNested i n d = (d ≡ opened i.now) × (d ≤ closed i.now) × (n ≡ d + d)

-- fewer close than opened
abbrev pub IsOpen : Bytes → Type 0
IsOpen i = closed i.now < opened i.now

-- the error for the kind Char at the place where a bracket should close
abbrev pub MissesBracket : Bytes → Error Bytes → Type 0
MissesBracket i e = IsSuffixOf bytes_model i (opened i.now + closed i.now) e.input × (e.code ≡ Char)

abbrev pub brackets_meaning : Meaning Bytes ℕ (Error Bytes)
brackets_meaning = leaf_meaning MissesBracket ⊥ (plain_leaf IsNested IsOpen)

run_within : (byte : ℕ) (xs : List ℕ) → run_of byte xs ≤ length xs
run_within byte [] = omega arith
run_within byte (x ∷ xs) = let h = run_within byte xs in grind arith

nested_within : (i : Bytes) (n d : ℕ) → IsNested i n d → n ≤ length i.now
nested_within i n d a = omega (arith, a.0, a.1, a.2, run_within 40 i.now, run_within 41 (drop (opened i.now) i.now), length-drop (opened i.now) i.now)

brackets_laws : PlainLaws bytes_model IsNested IsOpen
brackets_laws = record {
  place = λ i n d a. byte_place i n (nested_within i n d a);
  one_accepted = λ i n m c d a b. let same : c ≡ d = a.0 ∙ sym b.0 in (a.2 ∙ (ap (λ k. k + k) same ∙ sym b.2), same);
  never_both = λ i n d a b. omega (arith, a.0, a.1, b);
  accepted_consistent = λ x y n d r a. subst (λ xs. (d ≡ opened xs) × (d ≤ closed xs) × (n ≡ d + d)) r.elements_are a;
  refused_consistent = λ x y r a. subst (λ xs. closed xs < opened xs) r.elements_are a;
}

pub brackets_lawful : IsLawful bytes_model brackets_meaning
brackets_lawful = plain_lawful bytes_model IsNested IsOpen brackets_laws MissesBracket ⊥
