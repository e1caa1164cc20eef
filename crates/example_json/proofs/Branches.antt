-- Lemmas on the answers of a value, by which branch it is.
use Rattle.std.proofs.Common.{◌≡◌, ℕ, zero, suc, ◌-◌, true, false, arith, sym, subst}
use Rattle.nom.specs.Texts.{Text, Parses, or_of}
use Rattle.example_json.specs.declared.tree.Json.{Json}
use Rattle.example_json.specs.Json.{array_of, object_of, refuses, scalar_of, value_of}
use Rattle.example_json.specs.Scalars.{deep_of}
use Rattle.example_json.proofs.Choices.{first_branch, next_branch}
use Rattle.example_json.proofs.Results.{TextResult}

one_less : (d : ℕ) → (suc d) - 1 ≡ d
one_less d = omega arith

module _ (i : Text) (r : TextResult Json) where
  pub a_scalar : (d : ℕ) → Parses scalar_of false i r → false ≡ refuses r → Parses (value_of d) false i r
  a_scalar zero h stays = first_branch scalar_of deep_of i r h stays
  a_scalar (suc d) h stays = first_branch (or_of scalar_of (array_of (value_of d))) (object_of (value_of d)) i r
      (first_branch scalar_of (array_of (value_of d)) i r h stays) stays

  module _ (s : TextResult Json) (f : Parses scalar_of false i s) (is : true ≡ refuses s) where
    pub none_deeper : (d : ℕ) → d ≡ 0 → Parses deep_of false i r → Parses (value_of d) false i r
    none_deeper d e h = subst (λ n. Parses (value_of n) false i r) (sym e) (next_branch scalar_of deep_of i s r f is h)

    pub an_array : (d : ℕ) → (d ≡ 0 → ⊥) → Parses (array_of (value_of (d - 1))) false i r → false ≡ refuses r → Parses (value_of d) false i r
    an_array zero some h stays = absurd (some (omega arith))
    an_array (suc d) some h stays =
        first_branch (or_of scalar_of (array_of (value_of d))) (object_of (value_of d)) i r
        (next_branch scalar_of (array_of (value_of d)) i s r f is (subst (λ n. Parses (array_of (value_of n)) false i r) (one_less d) h)) stays

    pub an_object : (d : ℕ) → (d ≡ 0 → ⊥) → (t : TextResult Json) → Parses (array_of (value_of (d - 1))) false i t → true ≡ refuses t →
        Parses (object_of (value_of (d - 1))) false i r → Parses (value_of d) false i r
    an_object zero some t g isnt h = absurd (some (omega arith))
    an_object (suc d) some t g isnt h =
        next_branch (or_of scalar_of (array_of (value_of d))) (object_of (value_of d)) i t r
        (next_branch scalar_of (array_of (value_of d)) i s t f is (subst (λ n. Parses (array_of (value_of n)) false i t) (one_less d) g)) isnt
        (subst (λ n. Parses (object_of (value_of n)) false i r) (one_less d) h)
