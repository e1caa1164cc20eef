-- Lemmas on the answers of parts in sequence, of which one may be stuck.
use Rattle.std.proofs.Common.{◌≡◌, ℕ, Bool, true, false, Ok, Err, Option, Some, None, refl, sym, ◌∙◌, ap, subst, []}
use Rattle.nom.specs.Prelude.{PResult, Needed, Built, BuiltFrom, BuiltFromBoth, Modes, modes, Model, InputLaws, IsSuffixOf, Outcome, Accept, ShowsAnswer}
use Rattle.nom.specs.Prelude.{Shown, Meaning, OnPart, labelled, labelled_meaning}
use Rattle.nom.specs.Err as Answer
use Rattle.nom.proofs.Cased.{here, labels_err}
use Rattle.nom.proofs.Choices.{built_fact}
use Rattle.nom.proofs.Shown.{ShowsThen, accepts, then_ok, output_ok}
use Rattle.nom_precedence.specs.Stuck.{both_read, read_map}
use Rattle.nom_precedence.specs.Readings.{AreKept, IsRead, Reading, ShowsRead, ShowsBuilt}
use Rattle.nom_precedence.specs.Readings.IsRead.{IsWhole, IsStuck}
use Rattle.nom_precedence.specs.declared.read.Read.{Read}
use Rattle.nom_precedence.specs.declared.read.Read.TheVariants.{Whole, Stuck}

-- a meaning by what it answers in one mode
abbrev pub of_answers : {I V E : Type 0} → (I → Outcome V → Type 0) → (I → E → Type 0) → (I → Type 0) → Meaning I V E
of_answers Answers Blames RunsOut = record {
  Runs = Unit {0};
  IsSound = Unit {0};
  answers = λ _. Answers;
  blames = λ _. Blames;
  may_run_out = λ _. RunsOut;
  IsFrugal = λ _. Unit {0};
  Settles = Unit {0};
  NeverFails = λ _. Unit {0};
}

-- what is told is the output
pub told_ok : {I A V O E : Type 0} {w : Model I A} {IsOutput : V → O → Type 0} {mode : Modes} {i : I} {Answers : Outcome V → Type 0}
    {IsError : E → Type 0} {RunsOut : Type 0} {j : I} {o : Option O} {t s : O} → o ≡ Some t → t ≡ s →
    ShowsAnswer w IsOutput mode i Answers IsError RunsOut (Ok (j, o)) → ShowsAnswer w IsOutput mode i Answers IsError RunsOut (Ok (j, Some s))
told_ok {w = w} {IsOutput} {mode} {i} {Answers} {IsError} {RunsOut} {j} {o} {t} {s} e f h = let same : o ≡ Some s = cc (e, f) in
    subst (λ z. ShowsAnswer w IsOutput mode i Answers IsError RunsOut (Ok (j, z))) same h

-- what is built from what is built
pub built_from : {X Y : Type 0} (builds : Bool) {P : X → Type 0} {Q : Y → Type 0} {Gives : X → Y → Type 0} {x : Option X} (y : Option Y) →
    ((a : X) (b : Y) → x ≡ Some a → P a → Gives a b → Q b) → Built builds P x → BuiltFrom true Gives x y → Built builds Q y
built_from true {P = P} {x = Some a} y f h g = let same : a ≡ h.0 = cc (h.1) in (g.0, g.1, f a g.0 refl (subst P (sym same) h.2) g.2)
built_from true {x = None} y f h g = absurd (cc (h.1))
built_from false {x = Some a} y f h g = absurd (cc (h))
built_from false {x = None} y f h g = g

pub built_from_both : {X Y Z : Type 0} (builds : Bool) {P : X → Type 0} {Q : Y → Type 0} {R : Z → Type 0} {Gives : X → Y → Z → Type 0} (x : Option X)
    (y : Option Y) (z : Option Z) → ((a : X) (b : Y) (c : Z) → P a → Q b → Gives a b c → R c) → Built builds P x → Built builds Q y →
    BuiltFromBoth true Gives x y z → Built builds R z
built_from_both true {P = P} {Q = Q} (Some a) (Some b) z f h k g =
    let first : a ≡ h.0 = cc (h.1) in
    let second : b ≡ k.0 = cc (k.1) in
    (g.0, g.1, f a b g.0 (subst P (sym first) h.2) (subst Q (sym second) k.2) g.2)
built_from_both true (Some a) None z f h k g = absurd (cc (k.1))
built_from_both true None y z f h k g = absurd (cc (h.1))
built_from_both false (Some a) y z f h k g = absurd (cc (h))
built_from_both false None y z f h k g = g

-- an item that was read whole, with what is built of it
pub record Item {I A V Y : Type 0} (w : Model I A) (Answers : Outcome (Read V) → Type 0) (IsItem : V → Y → Type 0) (outputs : Bool) (i j : I)
    (y : Option Y) : Type 0 where
  pub length : ℕ
  pub tree : V
  pub answered : Answers (Accept length (Whole tree))
  pub rest_is : IsSuffixOf w i length j
  pub built_is : Built outputs (IsItem tree) y

is_whole : {V Y : Type 0} {outputs : Bool} {IsItem : V → Y → Type 0} {u : Read V} {y : Option Y} → IsRead outputs IsItem u (Whole y) →
    (v : V) × (u ≡ Whole v) × Built outputs (IsItem v) y
is_whole {outputs = outputs} {IsItem} {y = y} (IsWhole v x e f h) = let same : x ≡ y = cc (f) in (v, e, subst (Built outputs (IsItem v)) same h)
is_whole (IsStuck e f) = absurd (cc (f))

is_stuck : {V Y : Type 0} {outputs : Bool} {IsItem : V → Y → Type 0} {u : Read V} → IsRead outputs IsItem u Stuck → u ≡ Stuck
is_stuck (IsWhole v x e f h) = absurd (cc (f))
is_stuck (IsStuck e f) = e

-- what is told of a tree is told of one that is made of it
pub read_more : {V T X : Type 0} {outputs : Bool} {IsItem : V → X → Type 0} {IsResult : T → X → Type 0} (f : V → T) {u : Read V} {r : Read (Option X)} →
    ((v : V) (x : Option X) → Built outputs (IsItem v) x → Built outputs (IsResult (f v)) x) → IsRead outputs IsItem u r →
    IsRead outputs IsResult (read_map f u) r
read_more f k (IsWhole v x e g h) = IsWhole (f v) x (ap (read_map f) e) g (k v x h)
read_more f k (IsStuck e g) = IsStuck (ap (read_map f) e) g

module _ {I A V Y E : Type 0} {w : Model I A} {IsItem : V → Y → Type 0} {outputs errors streaming : Bool} {i j : I} {Answers : Outcome (Read V) → Type 0}
    {IsError : E → Type 0} {RunsOut : Type 0} where
  pub item_of : {y : Option Y} → ShowsAnswer w (IsRead outputs IsItem) (modes true errors streaming) i Answers IsError RunsOut (Ok (j, Some (Whole y))) →
      Item w Answers IsItem outputs i j y
  item_of h =
      let a = accepts h in
      let t = is_whole (built_fact true _ _ _ a.built_is refl) in
      record { length = a.length; tree = t.0; answered = subst (λ u. Answers (Accept a.length u)) t.1 a.answered; rest_is = a.rest_is; built_is = t.2 }

  pub stuck_of : ShowsAnswer w (IsRead outputs IsItem) (modes true errors streaming) i Answers IsError RunsOut (Ok (j, Some Stuck)) →
      (n : ℕ) × Answers (Accept n Stuck) × IsSuffixOf w i n j
  stuck_of h =
      let a = accepts h in
      (a.length, subst (λ u. Answers (Accept a.length u)) (is_stuck (built_fact true _ _ _ a.built_is refl)) a.answered, a.rest_is)

  -- what follows a part that was read whole answers for both_read: it is stuck, or whole
  module _ {T Z : Type 0} {IsResult : T → Z → Type 0} {f : V → T} where
    pub stuck_after : ShowsAnswer w (IsRead outputs IsItem) (modes true errors streaming) i Answers IsError RunsOut (Ok (j, Some Stuck)) →
        ShowsAnswer w (λ u. IsRead outputs IsResult (read_map f u)) (modes true errors streaming) i Answers IsError RunsOut (Ok (j, Some Stuck))
    stuck_after h = output_ok h (λ u b. (Stuck, refl, IsStuck (ap (read_map f) (is_stuck (built_fact true _ _ _ b refl))) refl))

    pub whole_after : {y : Option Y} {z : Option Z} → ((v : V) → Built outputs (IsItem v) y → Built outputs (IsResult (f v)) z) →
        ShowsAnswer w (IsRead outputs IsItem) (modes true errors streaming) i Answers IsError RunsOut (Ok (j, Some (Whole y))) →
        ShowsAnswer w (λ u. IsRead outputs IsResult (read_map f u)) (modes true errors streaming) i Answers IsError RunsOut (Ok (j, Some (Whole z)))
    whole_after {z = z} g h = output_ok h (λ u b.
        let t = is_whole (built_fact true _ _ _ b refl) in
        (Whole z, refl, IsWhole (f t.0) z (ap (read_map f) t.1) refl (g t.0 t.2)))

-- a part that is never stuck
module _ {I A V X E : Type 0} {w : Model I A} {IsOutput : V → X → Type 0} {outputs errors streaming : Bool} {i : I} {Answers : I → Outcome V → Type 0} where
  pub whole_item : {IsError : E → Type 0} {RunsOut : Type 0} {j : I} {x : Option X} →
      ShowsAnswer w IsOutput (modes outputs errors streaming) i (Answers i) IsError RunsOut (Ok (j, x)) →
      Item w (λ o. OnPart (λ i j. i ≡ j) Answers (λ _ a. o ≡ labelled Whole a) i) IsOutput outputs i j x
  whole_item h =
      let a = accepts h in
      record { length = a.length; tree = a.tree; answered = here (Accept a.length a.tree) a.answered refl; rest_is = a.rest_is; built_is = a.built_is }

  pub whole_err : {Blames : I → E → Type 0} {RunsOut : I → Type 0} {f : Answer.Err E (Option E) Needed} →
      ShowsAnswer w IsOutput (modes outputs errors streaming) i (Answers i) (Blames i) (RunsOut i) (Err f) →
      ShowsBuilt w (IsRead outputs IsOutput) (labelled_meaning Whole (of_answers Answers Blames RunsOut)) (modes outputs errors streaming) i (Err f)
  whole_err {Blames} {RunsOut} {f} h =
      labels_err w Whole IsOutput (IsRead outputs IsOutput) (of_answers Answers Blames RunsOut) true (modes outputs errors streaming) i f h

-- three states are kept, and the fourth is the same
pub kept_three : {S T U R : Type 0} {a x : S} {b y : T} {c z : U} {d : R} → a ≡ x → b ≡ y → c ≡ z → AreKept a x b y c z d d
kept_three e f g = record { prefix = e; operand = f; postfix = g; binary = refl }

-- states that are kept twice are kept
pub kept_more : {S T U R : Type 0} {a b c : S} {d e f : T} {g h i : U} {j k l : R} → AreKept a b d e g h j k → AreKept b c e f h i k l → AreKept a c d f g i j l
kept_more p q = record { prefix = p.prefix ∙ q.prefix; operand = p.operand ∙ q.operand; postfix = p.postfix ∙ q.postfix; binary = p.binary ∙ q.binary }

-- the same at equal states of four parts
pub at_states : {S T U R I A V X E : Type 0} {w : Model I A} (reading : S → T → U → R → Reading I V X E) {mode : Modes} {i : I}
    {r : PResult I (Read (Option X)) E} {a x : S} {b y : T} {c z : U} {d v : R} → AreKept a x b y c z d v →
    ShowsRead w (reading a b c d) mode i r → ShowsRead w (reading x y z v) mode i r
at_states reading k s = rw (← k.prefix, ← k.operand, ← k.postfix, ← k.binary) s

module _ {I A V W T X Z E : Type 0} {w : Model I A} (l : InputLaws w) {tree : V → W → T} {First : I → Outcome (Read V) → Type 0}
    {FirstBlames : I → E → Type 0} {FirstRunsOut : I → Type 0} {Next : Read V → I → Outcome (Read W) → Type 0} {NextBlames : Read V → I → E → Type 0}
    {NextRunsOut : Read V → I → Type 0} {IsFirst : V → X → Type 0} {IsResult : T → Z → Type 0} {outputs errors streaming : Bool} {i j : I} where
  -- a first part is stuck, after which nothing is read
  pub first_stuck : Next Stuck j (Accept 0 Stuck) →
      ShowsAnswer w (IsRead outputs IsFirst) (modes true errors streaming) i (First i) (FirstBlames i) (FirstRunsOut i) (Ok (j, Some Stuck)) →
      ShowsThen w (both_read tree) First FirstBlames FirstRunsOut Next NextBlames NextRunsOut (IsRead outputs IsResult) (modes true errors streaming) i
      (Ok (j, Some Stuck))
  first_stuck a h = then_ok l h (λ u p.
      let e = is_stuck (built_fact true _ _ _ p refl) in
      Shown (Accept 0 Stuck) (subst (λ v. Next v j (Accept 0 Stuck)) (sym e) a) (
        j,
        Some Stuck,
        record { known = (accepts h).rest_is.known; front = []; whole = refl; length_is = refl; mark_is = sym (l.mark_none (w.mark j)) },
        (Stuck, refl, IsStuck (ap (λ v. both_read tree v Stuck) e) refl),
        refl,
      ))

  -- it was read whole, and what follows answers for both_read
  pub first_whole : {x : Option X} {r : PResult I (Read (Option Z)) E} →
      ShowsAnswer w (IsRead outputs IsFirst) (modes true errors streaming) i (First i) (FirstBlames i) (FirstRunsOut i) (Ok (j, Some (Whole x))) →
      ((v : V) → Built outputs (IsFirst v) x → ShowsAnswer w (λ u. IsRead outputs IsResult (both_read tree (Whole v) u)) (modes true errors streaming) j
      (Next (Whole v) j) (NextBlames (Whole v) j) (NextRunsOut (Whole v) j) r) →
      ShowsThen w (both_read tree) First FirstBlames FirstRunsOut Next NextBlames NextRunsOut (IsRead outputs IsResult) (modes true errors streaming) i r
  first_whole {r = r} h k = then_ok l h (λ u p.
      let t = is_whole (built_fact true _ _ _ p refl) in
      subst (λ v. ShowsAnswer w (λ u. IsRead outputs IsResult (both_read tree v u)) (modes true errors streaming) j (Next v j) (NextBlames v j)
      (NextRunsOut v j) r) (sym t.1) (k t.0 t.2))
