-- The outcome that a stream tells of what it holds.
use Rattle.std.proofs.Common.{arith, ◌≡◌, ℕ, ◌+◌, ◌⊎◌, true, List, ◌++◌, length, Option, Ok, Err, sym, ◌∙◌}
use Rattle.std.proofs.Common.{ap, subst, inl, inr}
use Rattle.std.proofs.Common.{length-append}
use Rattle.nom_error.specs.declared.answer.Err.TheVariants as Stops
use Rattle.nom_error.specs.declared.kind.ErrorKind.{ErrorKind}
use Rattle.nom_error.specs.declared.value.Error.{Error}
use Rattle.nom_internal.specs.Prelude.{bytes_model, Grammar, items_len-ones, Needed, Outcome, Accept, Refuse, Stop, Fails, Needs, Parses, ParseRanOut, Parsed}
use Rattle.nom_stream.specs.Items.{Answered, Bytes, Taken, Takes, undecided}
use Rattle.nom_stream.specs.Items as Items

module _ {V O : Type 0} (g : Grammar Bytes V O (Error Bytes)) (x : Bytes) (new : List ℕ) (taken : Taken O) where
  -- what is taken where this is the outcome at x
  abbrev pub TakenFor : Outcome V → Type 0
  TakenFor (Accept n v) = (o : O) × g.IsOutput v o × (taken ≡ Ok (n, o)) × ((front : List ℕ) × (length front ≡ n) × (x.now ≡ front ++ new))
  TakenFor Refuse = (k : ErrorKind) × (at : ℕ) × (taken ≡ Err (Stops.Error (k, at)))
  TakenFor (Stop (Fails cause)) = (k : ErrorKind) × (at : ℕ) × (taken ≡ Err (Stops.Failure (k, at)))
  TakenFor (Stop (Needs j)) = (k : Needed) × (taken ≡ undecided k)

  -- an outcome is told, or memory ran out in the parser
  abbrev pub TellsOutcome : Type 0
  TellsOutcome = ((p : Outcome V) × g.meaning.answers true x p × TakenFor p) ⊎ ((new ≡ x.now) × (taken ≡ Err Stops.OutOfMemory))

  same_size : (m n : ℕ) (front rest : List ℕ) → m + length rest ≡ length x.now → x.now ≡ front ++ rest → length front ≡ n → m ≡ n
  same_size m n front rest a e f = omega (arith, a, ap length e, length-append front rest, f)

  outcome : (r : Answered O) → Parses bytes_model g true x r → Items.Took x new r taken → TellsOutcome
  outcome r (ParseRanOut e q) k = inr (subst (λ z. Items.Took x new z taken) e k)
  outcome r (Parsed (Accept n v) a h) k =
      let took = subst (λ z. Items.Took x new z taken) h.4 k in
      let size = items_len-ones (h.2).front in
      let long : length (h.2).front ≡ n = sym size ∙ (h.2).length_is in
      let same : took.0 ≡ n = same_size took.0 n (h.2).front (h.0).now took.1 (h.2).whole long in
      inl (
        Accept n v,
        a,
        (
          h.1,
          h.3,
          took.3 ∙ ap (λ m. Ok (m, h.1)) same,
          ((h.2).front, long, (h.2).whole ∙ ap (λ z. (h.2).front ++ z) (sym took.2)),
        ),
      )
  outcome r (Parsed Refuse a h) k =
      let took = subst (λ z. Items.Took x new z taken) h.2 k in
      inl (Refuse, a, ((h.0).code, length (h.0).input.now, took.1))
  outcome r (Parsed (Stop (Fails cause)) a h) k =
      let took = subst (λ z. Items.Took x new z taken) h.2 k in
      inl (Stop (Fails cause), a, ((h.0).code, length (h.0).input.now, took.1))
  outcome r (Parsed (Stop (Needs j)) a h) k =
      let took = subst (λ z. Items.Took x new z taken) h.2 k in
      inl (Stop (Needs j), a, (h.0, took.1))

pub told : {V O : Type 0} (g : Grammar Bytes V O (Error Bytes)) (old new : List ℕ) (taken : Taken O) → (t : Takes g true old new taken) →
    TellsOutcome g t.input new taken
told g old new taken t = outcome g t.input new taken t.answer t.parses.shown t.took

-- where more is needed that is the outcome
pub lacks : {V O : Type 0} (g : Grammar Bytes V O (Error Bytes)) (old new : List ℕ) (k : Needed) → (t : Takes g true old new (undecided k)) →
    (j : Option ℕ) × g.meaning.answers true t.input (Stop (Needs j))
lacks {V} {O} g old new k t = by (told g old new (undecided k) t)
  where
    by : TellsOutcome g t.input new (undecided k) → (j : Option ℕ) × g.meaning.answers true t.input (Stop (Needs j))
    by (inl (Accept n v, a, h)) = absurd (cc (h.2))
    by (inl (Refuse, a, h)) = absurd (cc (h.2))
    by (inl (Stop (Fails cause), a, h)) = absurd (cc (h.2))
    by (inl (Stop (Needs j), a, h)) = (j, a)
    by (inr h) = absurd (cc (h.1))
