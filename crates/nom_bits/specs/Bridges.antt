-- Parsers of bits among parsers of bytes, and of bytes among parsers of bits.
use Rattle.std.specs.Prelude.{◌≡◌, ℕ, ◌+◌, ◌*◌, ◌/◌, ◌^◌, ◌<◌, ◌≤◌, ◌⊎◌, true, Option, Some, None}
use Rattle.nom_internal.specs.Prelude.{Needed, Incomplete, Error, Failure, OutOfMemory, size_of, Errors, with_streaming, Model, IsSuffixOf, IsCount}
use Rattle.nom_internal.specs.Prelude.{AreBytes, Grammar}
use Rattle.nom_internal.specs.Prelude.{bits_model, Outcome, Accept, Refuse, Stop, Fails, Needs, TooLarge, IsFault, Meaning, Case, case_meaning, Always}
use Rattle.nom_internal.specs.Prelude.{ConvertsSome, Outright}
use Rattle.nom_error.specs.declared.answer.Err as Answer
use Rattle.nom_error.specs.declared.kind.ErrorKind.TheVariants as Kind
use Rattle.nom_bits.specs.BitRests.{bits_ahead}

-- a count of bits in bytes, rounded up
abbrev pub rounded_up : ℕ → ℕ
rounded_up n = (n + 7) / 8

-- bits that are needed, in bytes
abbrev pub bytes_needed : Option ℕ → Option ℕ
bytes_needed (Some n) = Some (n / 8 + 1)
bytes_needed None = None

-- the part's error, converted
abbrev pub ConvertedBlame : {T E F : Type 0} → (E → F → Type 0) → Outcome T → (E → Type 0) → F → Type 0
ConvertedBlame {E = E} Converts a Part f = (e : E) × IsFault a × Part e × Converts e f

module _ {I T : Type 0} (w : Model I ℕ) where
  -- the bytes that are begun are consumed
  abbrev pub BitsBecome : I → Outcome T → Outcome T → Type 0
  BitsBecome i (Accept n t) o = (m : ℕ) × IsCount w i (rounded_up n) m × (o ≡ Accept m t)
  BitsBecome i Refuse o = o ≡ Refuse
  BitsBecome i (Stop (Fails cause)) o = o ≡ Stop (Fails cause)
  BitsBecome i (Stop (Needs k)) o = o ≡ Stop (Needs (bytes_needed k))

  -- The bits up to the next whole byte are consumed, and the bits of the bytes that the part consumes, as many as eight times
  -- their count.
  pub record BytesAccept (i : I × ℕ) (n : ℕ) (t : T) (o : Outcome T) : Type 0 where
    pub at : I
    pub at_is : IsSuffixOf (bits_model w) i (bits_ahead w i) (at, 0)
    pub count : ℕ
    pub counted : IsCount w at count n
    pub outcome_is : o ≡ Accept (bits_ahead w i + 8 * count) t

-- eight times what is needed doesn't fit a size
abbrev pub IsTooLarge : Option ℕ → Type 0
IsTooLarge (Some n) = 2 ^ 64 ≤ 8 * n
IsTooLarge None = ⊥

-- bytes that are needed, in bits
abbrev pub BitsNeeded : Option ℕ → Option ℕ → Type 0
BitsNeeded (Some n) k = (8 * n < 2 ^ 64) × (k ≡ Some (8 * n))
BitsNeeded None k = k ≡ None

module _ {I T : Type 0} (w : Model I ℕ) where
  abbrev pub BytesBecome : I × ℕ → Outcome T → Outcome T → Type 0
  BytesBecome i (Accept n t) o = BytesAccept w i n t o
  BytesBecome i Refuse o = o ≡ Refuse
  BytesBecome i (Stop (Fails cause)) o = o ≡ Stop (Fails cause)
  BytesBecome i (Stop (Needs k)) o = (IsTooLarge k × (o ≡ Stop (Fails TooLarge))) ⊎ ((j : Option ℕ) × BitsNeeded k j × (o ≡ Stop (Needs j)))

-- what is needed is too large, and the fact holds
abbrev pub OnTooLarge : {T : Type 0} → Type 0 → Outcome T → Type 0
OnTooLarge Fact (Accept n t) = ⊥
OnTooLarge Fact Refuse = ⊥
OnTooLarge Fact (Stop (Fails cause)) = ⊥
OnTooLarge Fact (Stop (Needs k)) = IsTooLarge k × Fact

module _ {I T E F : Type 0} (w : Model I ℕ) (Converts : E → F → Type 0) where
  -- A parser of bits runs, streaming, at the first bit of an input of bytes; what it answers, in bytes. That the items are
  -- bytes holds of every known input; what a longer one adds is then the bits of bytes.
  abbrev pub bits_case : Case I (I × ℕ) T T E F
  bits_case = record {
    At = λ i j. (j ≡ (i, 0)) × AreBytes (w.elements i);
    mode = Always true;
    Becomes = BitsBecome w;
    Blames = λ i. ConvertedBlame Converts;
    part = with_streaming true;
    Asks = λ _ i a. ⊥;
    Runs = λ Part. Part;
    IsSound = λ Part. Part;
    IsFrugal = λ Part mode. Part (with_streaming true mode);
    NeverFails = λ Part. Part;
  }

  abbrev pub bits_meaning : Meaning (I × ℕ) T E → Meaning I T F
  bits_meaning = case_meaning bits_case

module _ {I T E F : Type 0} (w : Model I ℕ) (errs : Errors (I × ℕ) F) (Converts : E → F → Type 0) where
  -- the error of what is too large is made at the start
  abbrev pub BytesBlame : I × ℕ → Outcome T → (E → Type 0) → F → Type 0
  BytesBlame i a Part f = ConvertedBlame Converts a Part f ⊎ OnTooLarge (errs.of_kind i Kind.TooLarge f) a

  -- A parser of bytes runs, streaming, from the next whole byte on; what it answers, in bits.
  abbrev pub bytes_case : Case (I × ℕ) I T T E F
  bytes_case = record {
    At = λ i j. IsSuffixOf (bits_model w) i (bits_ahead w i) (j, 0);
    mode = Always true;
    Becomes = BytesBecome w;
    Blames = BytesBlame;
    part = with_streaming true;
    Asks = λ _ i. OnTooLarge errs.grows;
    Runs = λ Part. Part;
    IsSound = λ Part. Part;
    IsFrugal = λ Part mode. Part (with_streaming true mode) × (errs.grows → ⊥);
    NeverFails = λ Part cause. Part cause × (cause ≡ Outright);
  }

  abbrev pub bytes_meaning : Meaning I T E → Meaning (I × ℕ) T F
  bytes_meaning = case_meaning bytes_case

-- what is needed in bits, or none where it is too large
abbrev pub IsNeed : Needed → Option Needed → Type 0
IsNeed k (Some j) = BitsNeeded (size_of k) (size_of j)
IsNeed k None = IsTooLarge (size_of k)

module _ {E F : Type 0} (Converts : E → F → Type 0) where
  -- what is answered in place of an acceptance, in bytes
  abbrev pub InBytes : Answer.Err E (Option E) Needed → Answer.Err F (Option F) Needed → Type 0
  InBytes (Incomplete k) r = (j : Needed) × (size_of j ≡ bytes_needed (size_of k)) × (r ≡ Incomplete j)
  InBytes (Error x) r = (y : Option F) × ConvertsSome Converts x y × (r ≡ Error y)
  InBytes (Failure e) r = (f : F) × Converts e f × (r ≡ Failure f)
  InBytes OutOfMemory r = r ≡ OutOfMemory

-- a failure, since it is too large, or no memory for its error
abbrev pub IsTooLargeAt : {I F : Type 0} → Errors I F → I → Answer.Err F (Option F) Needed → Type 0
IsTooLargeAt {F = F} errs i r = ((f : F) × errs.of_kind i Kind.TooLarge f × (r ≡ Failure f)) ⊎ (errs.grows × (r ≡ OutOfMemory))

module _ {I E F : Type 0} (Converts : E → F → Type 0) (errs : Errors I F) (i : I) where
  -- what is answered in place of an acceptance, in bits
  abbrev pub InBits : Answer.Err E (Option E) Needed → Answer.Err F (Option F) Needed → Type 0
  InBits (Incomplete k) r = (IsTooLarge (size_of k) × IsTooLargeAt errs i r) ⊎ ((j : Needed) × BitsNeeded (size_of k) (size_of j) × (r ≡ Incomplete j))
  InBits (Error x) r = (y : Option F) × ConvertsSome Converts x y × (r ≡ Error y)
  InBits (Failure e) r = (f : F) × Converts e f × (r ≡ Failure f)
  InBits OutOfMemory r = r ≡ OutOfMemory

-- a grammar of bits among bytes
abbrev pub bits_of : {I V O E F : Type 0} → Model I ℕ → (E → F → Type 0) → Grammar (I × ℕ) V O E → Grammar I V O F
bits_of w Converts g = record { meaning = bits_meaning w Converts g.meaning; IsOutput = g.IsOutput }

-- a grammar of bytes among bits
abbrev pub bytes_of : {I V O E F : Type 0} → Model I ℕ → Errors (I × ℕ) F → (E → F → Type 0) → Grammar I V O E → Grammar (I × ℕ) V O F
bytes_of w errs Converts g = record { meaning = bytes_meaning w errs Converts g.meaning; IsOutput = g.IsOutput }

-- what a call of a parser of bits owes among bytes, besides its outcome: a byte of which it consumed some bits is consumed
pub data BitsSideCondition {I : Type 0} (w : Model I ℕ) (Part : Option (I × ℕ) → Type 0) (rest : Option I) : Type 0 where
  NoBits : Part None → rest ≡ None → BitsSideCondition w Part rest
  SomeBits : (k : I × ℕ) (j : I) → Part (Some k) → IsSuffixOf (bits_model w) k (bits_ahead w k) (j, 0) → rest ≡ Some j → BitsSideCondition w Part rest

-- what a call of a parser of bytes owes among bits, besides its outcome: it runs from the next whole byte on, and rests at one
pub data BytesSideCondition {I : Type 0} (w : Model I ℕ) (Part : I → Option I → Type 0) (i : I × ℕ) (rest : Option (I × ℕ)) : Type 0 where
  NoBytes : (start : I) → IsSuffixOf (bits_model w) i (bits_ahead w i) (start, 0) → Part start None → rest ≡ None → BytesSideCondition w Part i rest
  SomeBytes : (start j : I) → IsSuffixOf (bits_model w) i (bits_ahead w i) (start, 0) → Part start (Some j) → rest ≡ Some (j, 0) →
      BytesSideCondition w Part i rest
