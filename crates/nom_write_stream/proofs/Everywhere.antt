-- Lemmas on parsers with an outcome at every input: parts in turn, a part whose outcome becomes another, items that are taken.
use Rattle.std.specs.Prelude.{◌≡◌, ℕ, ◌<◌, ◌≤◌, ◌⊎◌, true, List, [], ◌∷◌, ◌++◌, length, take, drop, Option, refl}
use Rattle.std.proofs.Common.{arith, ap, sym, subst, length-append, inl, inr}
use Rattle.std.proofs.lemmas.Bool.{cases_lt}
use Rattle.std.proofs.lemmas.List.{length-take-le, take-append-drop}
use Rattle.nom_internal.specs.Leaf.{LeafAnswers}
use Rattle.nom_bytes.specs.Takes.{takes}
use Rattle.nom_internal.specs.Prelude.{bytes_model, AreValues, IsBoundary, Outcome, Accept, Refuse, Stop, Needs, Slice, items_len}
use Rattle.nom_internal.specs.Prelude.{IsSuffixOf, after, Then, OnPart, OfValue}
use Rattle.nom_internal.specs.Meaning.{Within}
use Rattle.nom_stream.specs.Items.{Bytes}
use Rattle.nom_write_stream.specs.Pipes.{HasOutcome}

pub values_after : (xs ys : List ℕ) → AreValues (λ b. b < 256) (xs ++ ys) → AreValues (λ b. b < 256) ys
values_after [] ys h = h
values_after (x ∷ xs) ys h = values_after xs ys h.1

-- the rest after what is accepted
pub rest_of : (i : Bytes) (n : ℕ) → bytes_model.IsKnown i → IsBoundary bytes_model i n → (j : Bytes) × IsSuffixOf bytes_model i n j
rest_of i n known b =
    let j : Bytes = record { ref_ptr = (0, 0); now = b.rest } in
    let there : bytes_model.IsKnown j = (
      values_after b.front b.rest (subst (AreValues (λ b. b < 256)) b.whole known.0),
      omega (arith, known.1, ap length b.whole, length-append b.front b.rest),
    ) in
    (j, record { known = there; front = b.front; whole = b.whole; length_is = b.length_is; mark_is = refl })

-- a part, and what follows its tree on the rest
module _ {P Q T : Type 0} {tree : P → Q → T} {First : Bytes → Outcome P → Type 0} {Next : P → Bytes → Outcome Q → Type 0}
    (within : Within bytes_model First) (next : (u : P) → HasOutcome (Next u)) where
  goes_on : (i : Bytes) → bytes_model.IsKnown i → (o : Outcome P) → First i o → (p : Outcome T) × Then bytes_model tree First Next i p
  goes_on i known (Accept n u) a =
      let rest = rest_of i n known (within i n u known a) in
      let p = (next u).outcome rest.0 (rest.1).known in
      (after n (tree u) p.0, record { first = Accept n u; answered = a; goes_on = (rest.0, p.0, rest.1, p.1, refl) })
  goes_on i known Refuse a = (Refuse, record { first = Refuse; answered = a; goes_on = refl })
  goes_on i known (Stop why) a = (Stop why, record { first = Stop why; answered = a; goes_on = refl })

  pub then_outcome : HasOutcome First → HasOutcome (Then bytes_model tree First Next)
  then_outcome first = record { outcome = λ i known. let p = first.outcome i known in goes_on i known p.0 p.1 }

-- a part at the same input, each of whose outcomes becomes one
pub case_outcome : {P T : Type 0} {Part : Bytes → Outcome P → Type 0} {Becomes : Bytes → Outcome P → Outcome T → Type 0} →
    ((i : Bytes) (a : Outcome P) → (o : Outcome T) × Becomes i a o) → HasOutcome Part →
    HasOutcome (λ i o. OnPart (λ (x y : Bytes). x ≡ y) Part (λ _ a. Becomes i a o) i)
case_outcome becomes part = record {
  outcome = λ i known.
      let p = part.outcome i known in
      let o = becomes i p.0 in
      (o.0, record { at = i; at_is = refl; outcome = p.0; answered = p.1; fact = o.1 });
}

-- what is meant by a value that a tree stands for
pub of_value_outcome : {V Q : Type 0} {IsValue : V → Type 0} {Next : V → Bytes → Outcome Q → Type 0} (v : V) → IsValue v → HasOutcome (Next v) →
    HasOutcome (λ i o. OfValue IsValue (λ k. Next k i o))
of_value_outcome v is next = record {
  outcome = λ i known. let p = next.outcome i known in (p.0, record { value = v; is_value = is; fact = p.1 });
}

-- as many items as are taken, or a lack
module _ (lack : ℕ → List ℕ → Option ℕ) (count : ℕ) where
  taken : (i : Bytes) → (length i.now < count) ⊎ (count ≤ length i.now) →
      (o : Outcome (Slice bytes_model)) × LeafAnswers (takes bytes_model lack count) true i o
  taken i (inl few) = (Stop (Needs (lack count i.now)), (refl, (few, refl)))
  taken i (inr enough) =
      let t : Slice bytes_model = record { items = take count i.now; mark = tt } in (
        Accept (items_len (λ _. 1) t.items) t,
        (
          record { rest = drop count i.now; whole = sym (take-append-drop count i.now); length_is = refl; mark_is = refl },
          length-take-le count i.now enough,
        ),
      )

  pub take_outcome : HasOutcome (LeafAnswers (takes bytes_model lack count) true)
  take_outcome = record { outcome = λ i known. taken i (cases_lt (length i.now) count) }
