-- The words of this crate's parsers.
use Rattle.std.specs.Prelude.{◌≡◌, ℕ, Bool, List, Option}
use Rattle.std.proofs.Common.{refl, ap, ap₂}
use Rattle.nom_internal.specs.Prelude.{CompareResult, ErrorKind, Errors, Model, premised, sliced}
use Rattle.nom_internal.specs.Word.{Word, word}
use Rattle.nom_bytes.specs.ParsedRuns.{bounded_meaning, run_meaning, run1_meaning}
use Rattle.nom_bytes.specs.Tags.{tag_meaning}
use Rattle.nom_bytes.specs.Takes.{take_meaning}
use Rattle.nom_bytes.specs.Tests.{Test}
use Rattle.nom_bytes.specs.Untils.{until_meaning}

-- `lack` is what is needed where there are fewer items than a count
module _ {I A E : Type 0} (w : Model I A) (errs : Errors I E) (lack : ℕ → List A → Option ℕ) where
  pub take_of : ℕ → Word I I E
  take_of count = word (sliced w (take_meaning w errs lack count))

  pub take_worded : (count : ℕ) → take_of count ≡ word (sliced w (take_meaning w errs lack count))
  unfolding take_of
  take_worded count = refl

  pub take_same : {m n : ℕ} → m ≡ n → take_of m ≡ take_of n
  take_same p = ap take_of p

-- `compares` is how inputs compare with tags
module _ {I A E : Type 0} (w : Model I A) (errs : Errors I E) {T : Type 0} (size : T → ℕ) (compares : T → List A → CompareResult → Type 0) where
  pub tag_of : T → Word I I E
  tag_of tag = word (sliced w (tag_meaning w errs size compares tag))

  pub tag_worded : (tag : T) → tag_of tag ≡ word (sliced w (tag_meaning w errs size compares tag))
  unfolding tag_of
  tag_worded tag = refl

  pub tag_same : {s t : T} → s ≡ t → tag_of s ≡ tag_of t
  tag_same p = ap tag_of p

-- The items before a needle: `finds` is where it stands, and `one` asks for one item at least.
module _ {I A E : Type 0} (w : Model I A) (errs : Errors I E) {T : Type 0} (finds : T → List A → Option ℕ → Type 0) (one : Bool) where
  pub until_of : T → Word I I E
  until_of needle = word (sliced w (until_meaning w errs finds one needle))

  pub until_worded : (needle : T) → until_of needle ≡ word (sliced w (until_meaning w errs finds one needle))
  unfolding until_of
  until_worded needle = refl

  pub until_same : {s t : T} → s ≡ t → until_of s ≡ until_of t
  until_same p = ap until_of p

-- a run that may be empty
module _ {I A E : Type 0} (w : Model I A) where
  pub run_of : Test A → Word I I E
  run_of t = word (sliced w (premised t.Runs t.IsSound (run_meaning w t.answers)))

  module _ {s t : Test A} where
    pub run_worded : s ≡ t → run_of s ≡ word (sliced w (premised t.Runs t.IsSound (run_meaning w t.answers)))
    unfolding run_of
    run_worded p = ap run_of p

    pub run_same : s ≡ t → run_of s ≡ run_of t
    run_same p = ap run_of p

module _ {I A E : Type 0} (w : Model I A) (errs : Errors I E) where
  -- a run of one item at least, with the kind of its refusals
  pub run1_of : ErrorKind → Test A → Word I I E
  run1_of kind t = word (sliced w (premised t.Runs t.IsSound (run1_meaning w t.answers errs kind)))

  -- a run with a lower and an upper bound
  pub bounded_of : (least most : ℕ) → Test A → Word I I E
  bounded_of least most t = word (sliced w (premised t.Runs t.IsSound (bounded_meaning w t.answers errs least most)))

  module _ {s t : Test A} where
    pub run1_worded : (kind : ErrorKind) → s ≡ t → run1_of kind s ≡ word (sliced w (premised t.Runs t.IsSound (run1_meaning w t.answers errs kind)))
    unfolding run1_of
    run1_worded kind p = ap (run1_of kind) p

    pub run1_same : {kind other : ErrorKind} → kind ≡ other → s ≡ t → run1_of kind s ≡ run1_of other t
    run1_same q p = ap₂ run1_of q p

    pub bounded_worded : (least most : ℕ) → s ≡ t → bounded_of least most s ≡
        word (sliced w (premised t.Runs t.IsSound (bounded_meaning w t.answers errs least most)))
    unfolding bounded_of
    bounded_worded least most p = ap (bounded_of least most) p

    pub bounded_same : {k l m n : ℕ} → k ≡ l → m ≡ n → s ≡ t → bounded_of k m s ≡ bounded_of l n t
    bounded_same q r p = λ i. bounded_of (q i) (r i) (p i)
