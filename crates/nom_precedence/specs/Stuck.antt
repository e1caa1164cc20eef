-- Parts that may be stuck: such a part consumed nothing, where each of its kind must consume. It is a refusal of the whole, at the place
-- where it is stuck; but below the whole it is told from the refusals of parts, which end what they end, so it is a tree of its own.
-- A tree is read whole, or the part is stuck after what was consumed.
use Rattle.std.specs.Prelude.{◌≡◌, ◌⊎◌, ℕ, true}
use Rattle.nom.specs.Prelude.{Errors, Model, IsSuffixOf, Outcome, Accept, Refuse, Stop, IsFault, Meaning, Family, Case, case_meaning, Passes}
use Rattle.nom.specs.Prelude.{plain_case, then_meaning, sequence_meaning, success_meaning}
use Rattle.nom.specs.ErrorKind.TheVariants as Kind
use Rattle.nom_precedence.specs.declared.read.Read.{Read}
use Rattle.nom_precedence.specs.declared.read.Read.TheVariants.{Whole, Stuck}

-- a tree that is made of one that was read whole
abbrev pub read_map : {V W : Type 0} → (V → W) → Read V → Read W
read_map f (Whole v) = Whole (f v)
read_map f Stuck = Stuck

-- both_read are read whole, or one is stuck
abbrev pub both_read : {V W T : Type 0} → (V → W → T) → Read V → Read W → Read T
both_read f (Whole v) r = read_map (f v) r
both_read f Stuck r = Stuck

-- after what is stuck nothing is read
abbrev pub read_after : {I V W E : Type 0} → Meaning I (Read W) E → Read V → Meaning I (Read W) E
read_after m (Whole v) = m
read_after m Stuck = success_meaning Stuck

abbrev pub unless_stuck : {I V W E : Type 0} → Meaning I (Read W) E → Family (Read V) I (Read W) E
unless_stuck m = record { at = read_after m; Runs = m.Runs; IsSound = m.IsSound; IsFrugal = m.IsFrugal; Settles = m.Settles; NeverFails = m.NeverFails }

-- a part, and another after it, unless it is stuck
abbrev pub read_both : {I A V W T E : Type 0} → Model I A → (V → W → T) → Meaning I (Read V) E → Meaning I (Read W) E → Meaning I (Read T) E
read_both w tree a b = then_meaning w (both_read tree) (λ o. o) (λ o. o) a (unless_stuck b)

-- a part that is never stuck, and another after it
abbrev pub read_next : {I A V W T E : Type 0} → Model I A → (V → W → T) → Meaning I V E → Meaning I (Read W) E → Meaning I (Read T) E
read_next w tree a b = sequence_meaning w (λ v. read_map (tree v)) (λ o. o) (λ o. o) a b

-- At last: what was read whole is accepted, and what is stuck is refused.
abbrev pub freed : {V : Type 0} → ℕ → Read V → Outcome V
freed n (Whole v) = Accept n v
freed n Stuck = Refuse

-- of what is stuck after a length the fact holds
abbrev pub IfStuck : {V : Type 0} → (ℕ → Type 0) → Outcome (Read V) → Type 0
IfStuck Fact (Accept n (Whole v)) = ⊥
IfStuck Fact (Accept n Stuck) = Fact n
IfStuck Fact Refuse = ⊥
IfStuck Fact (Stop why) = ⊥

-- the error at the place where it is stuck
pub record StuckAt {I A E : Type 0} (w : Model I A) (errs : Errors I E) (i : I) (n : ℕ) (e : E) : Type 0 where
  pub rest : I
  pub rest_is : IsSuffixOf w i n rest
  pub error_is : errs.of_kind rest Kind.Precedence e

abbrev pub freed_case : {I A V E : Type 0} → Model I A → Errors I E → Case I I (Read V) V E E
freed_case w errs = record (plain_case (λ b. b) (λ i. Passes (λ n u o. o ≡ freed n u))) {
  Blames = λ i a P e. IfStuck (λ n. StuckAt w errs i n e) a ⊎ (IsFault a × P e);
  Asks = λ mode i. IfStuck (λ _. (mode.errors ≡ true) × errs.grows);
  IsFrugal = λ Part mode. Part mode × (mode.errors ≡ true → errs.grows → ⊥);
}

abbrev pub freed_meaning : {I A V E : Type 0} → Model I A → Errors I E → Meaning I (Read V) E → Meaning I V E
freed_meaning w errs m = case_meaning (freed_case w errs) m
