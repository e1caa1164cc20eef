-- The laws of repetitions.
use Rattle.std.specs.Prelude.{◌≡◌, ℕ, ◌+◌, Bool, true, false, not, ◌⊎◌, Option, Some, None, List, [], ◌∷◌, refl}
use Rattle.std.proofs.Common.{arith, sym, ◌∙◌, ap, subst, inl, inr}
use Rattle.nom_internal.specs.Prelude.{Modes, Model, InputLaws, IsSuffixOf, IsBoundary, IsSame, Related, same_self, rest_related, rest_consistent, place_more}
use Rattle.nom_internal.specs.Prelude.{Outcome, Cause, Accept, Refuse, Stop, Fails, IsDecided, IsLawful, IsSteady, Keeps, Agree, Carries, Within, SameBlame}
use Rattle.nom_internal.specs.Prelude.{place_zero, Family, IsLawfulFamily, AnyKey, after}
use Rattle.nom_internal.specs.laws.PartLaws.{keeps_mapped, failure_mapped, transfers}
use Rattle.nom_repeat.specs.Repeat.{Turn, Pieces, Reaches, Repeats, IsBelow, Replies, Ran, OnReply, TurnsBy, Rule, repeat_meaning}
use Rattle.nom_repeat.specs.Repeat.Turn.{Takes, Ends}

-- which turns a longer input keeps (true), and one equal as a model (false)
abbrev pub KeepsTurn : {V T : Type 0} → Bool → Turn V T → Type 0
KeepsTurn longer (Takes n v) = Unit {0}
KeepsTurn longer (Ends o) = Keeps longer o

-- which replies a longer input keeps (true), and one equal as a model (false)
abbrev pub KeepsReply : {P : Type 0} → Bool → Option (Outcome P) → Type 0
KeepsReply longer (Some o) = Keeps longer o
KeepsReply longer None = Unit {0}

-- an end after n items of the input consumes nothing, or what the part accepted
abbrev pub EndsTurn : {P : Type 0} → ℕ → Option (Outcome P) → Type 0
EndsTurn n (Some (Accept m u)) = (n ≡ 0) ⊎ (n ≡ m)
EndsTurn n (Some Refuse) = n ≡ 0
EndsTurn n (Some (Stop why)) = n ≡ 0
EndsTurn n None = n ≡ 0

-- two lists of items that end alike
pub record EndConsistent {V T : Type 0} (vs us : List V) (n m : ℕ) (p q : Outcome T) : Type 0 where
  pub trees_are : vs ≡ us
  pub taken_is : n ≡ m
  pub ending_is : p ≡ q

module _ {I A : Type 0} (w : Model I A) {V T : Type 0} where
  -- on related inputs the first relation's turn, where it is kept, is the second's
  abbrev pub AgreeTurns : Bool → (ℕ → I → Turn V T → Type 0) → (ℕ → I → Turn V T → Type 0) → Type 0
  AgreeTurns longer F G = (k : ℕ) (x y : I) (s t : Turn V T) → w.IsKnown x → w.IsKnown y → Related w longer x y → F k x s → KeepsTurn longer s → G k y t → s ≡ t

  -- on inputs equal as models a turn of the first relation, if only a decided one (true), is one of the second's
  abbrev pub CarriesTurns : Bool → (ℕ → I → Turn V T → Type 0) → (ℕ → I → Turn V T → Type 0) → Type 0
  CarriesTurns decided F G = (k : ℕ) (x y : I) (t : Turn V T) → w.IsKnown x → w.IsKnown y → IsSame w x y → F k x t → KeepsTurn decided t → G k y t

module _ {I A V T : Type 0} (w : Model I A) (l : InputLaws w) (longer : Bool) (F G : ℕ → I → Turn V T → Type 0) where
  pieces_agree : AgreeTurns w longer F G → (k : ℕ) (x y : I) (vs us : List V) (n m : ℕ) (p q : Outcome T) → w.IsKnown x → w.IsKnown y →
      Related w longer x y → Keeps longer p → Pieces w F (λ h j. F h j (Ends p)) k x vs n → Pieces w G (λ h j. G h j (Ends q)) k y us m →
      EndConsistent vs us n m p q
  pieces_agree f k x y [] [] n m p q kx ky r d a b =
      let e = f k x y (Ends p) (Ends q) kx ky r a.1 d b.1 in
      record { trees_are = refl; taken_is = a.0 ∙ sym b.0; ending_is = cc }
  pieces_agree f k x y [] (u ∷ us) n m p q kx ky r d a b =
      let e = f k x y (Ends p) (Takes b.0 u) kx ky r a.1 d b.3 in absurd (cc)
  pieces_agree f k x y (v ∷ vs) [] n m p q kx ky r d a b =
      let e = f k x y (Takes a.0 v) (Ends q) kx ky r a.3 tt b.1 in absurd (cc)
  pieces_agree f k x y (v ∷ vs) (u ∷ us) n m p q kx ky r d a b =
      let e = f k x y (Takes a.0 v) (Takes b.0 u) kx ky r a.3 tt b.3 in
      let lengths : a.0 ≡ b.0 = cc in
      let heads : v ≡ u = cc in
      let z = rest_related w l longer x y a.0 a.2 b.2 r a.4 (subst (λ c. IsSuffixOf w y c b.2) (sym lengths) b.4) in
      let t = pieces_agree f (k + 1) a.2 b.2 vs us a.1 b.1 p q (a.4).known (b.4).known z d a.5 b.5 in
      record { trees_are = cc (t.trees_are, heads); taken_is = omega (arith, t.taken_is, lengths, a.6, b.6); ending_is = t.ending_is }

  pub repeats_agree : {R : Type 0} (tree : List V → T → R) → AgreeTurns w longer F G → Agree w longer (Repeats w F tree) (Repeats w G tree)
  repeats_agree tree f x y o p kx ky r a d b =
      let kept = keeps_mapped longer (λ m. a.taken + m) (tree a.trees) a.ending (subst (λ z. Keeps longer z) a.outcome_is d) in
      let e = pieces_agree f 0 x y a.trees b.trees a.taken b.taken a.ending b.ending kx ky r kept a.pieces b.pieces in
      a.outcome_is ∙ (ap (λ z. after z (tree a.trees) a.ending) e.taken_is ∙
      (ap (λ z. after b.taken (tree z) a.ending) e.trees_are ∙ (ap (λ z. after b.taken (tree b.trees) z) e.ending_is ∙ sym b.outcome_is)))

module _ {I A V T : Type 0} (w : Model I A) (F : ℕ → I → Turn V T → Type 0) where
  pieces_place : (m : ℕ) {P : ℕ → I → Type 0} → ((k : ℕ) (j : I) → w.IsKnown j → P k j → IsBoundary w j m) → (k : ℕ) (i : I) (vs : List V) (n : ℕ) →
      w.IsKnown i → Pieces w F P k i vs n → IsBoundary w i (n + m)
  pieces_place m f k i [] n h p = subst (λ z. IsBoundary w i z) (omega (arith, p.0)) (f k i h p.1)
  pieces_place m f k i (v ∷ vs) n h p =
      subst (λ z. IsBoundary w i z) (omega (arith, p.6)) (place_more w i p.0 p.2 (p.1 + m) p.4 (pieces_place m f (k + 1) p.2 vs p.1 (p.4).known p.5))

  repeats_place : {R : Type 0} (tree : List V → T → R) → ((k : ℕ) (j : I) (n : ℕ) (t : T) → w.IsKnown j → F k j (Ends (Accept n t)) → IsBoundary w j n) →
      (i : I) (n : ℕ) (v : R) (vs : List V) (taken : ℕ) (ending : Outcome T) → w.IsKnown i → Pieces w F (λ k j. F k j (Ends ending)) 0 i vs taken →
      Accept n v ≡ after taken (tree vs) ending → IsBoundary w i n
  repeats_place tree f i n v vs taken (Accept m t) h p e =
      let same : taken + m ≡ n = cc in
      subst (λ z. IsBoundary w i z) same (pieces_place m (λ k j kj z. f k j m t kj z) 0 i vs taken h p)
  repeats_place tree f i n v vs taken Refuse h p e = absurd (cc)
  repeats_place tree f i n v vs taken (Stop why) h p e = absurd (cc)

  pub repeats_within : {R : Type 0} (tree : List V → T → R) →
      ((k : ℕ) (j : I) (n : ℕ) (t : T) → w.IsKnown j → F k j (Ends (Accept n t)) → IsBoundary w j n) → Within w (Repeats w F tree)
  repeats_within tree f i n v h a = repeats_place tree f i n v a.trees a.taken a.ending h a.pieces a.outcome_is

  -- a fact that holds nowhere holds at no place that is reached
  pieces_never : (Fact : ℕ → I → Type 0) → ((k : ℕ) (j : I) → w.IsKnown j → Fact k j → ⊥) → (k : ℕ) (i : I) (vs : List V) (n : ℕ) → w.IsKnown i →
      Pieces w F Fact k i vs n → ⊥
  pieces_never Fact f k i [] n h p = f k i h p.1
  pieces_never Fact f k i (v ∷ vs) n h p = pieces_never Fact f (k + 1) p.2 vs p.1 (p.4).known p.5

  pub reaches_never : (Fact : ℕ → I → Type 0) → ((k : ℕ) (j : I) → w.IsKnown j → Fact k j → ⊥) → (i : I) → w.IsKnown i → Reaches w F Fact i → ⊥
  reaches_never Fact f i h r = pieces_never Fact f 0 i r.trees r.taken h r.pieces

  pub repeats_never : {R : Type 0} (tree : List V → T → R) (cause : Cause) → ((k : ℕ) (j : I) → w.IsKnown j → F k j (Ends (Stop (Fails cause))) → ⊥) →
      (i : I) → w.IsKnown i → Repeats w F tree i (Stop (Fails cause)) → ⊥
  repeats_never tree cause f i h a =
      let e = failure_mapped cause (λ m. a.taken + m) (tree a.trees) a.ending a.outcome_is in
      pieces_never (λ k j. F k j (Ends (Stop (Fails cause)))) f 0 i a.trees a.taken h
      (subst (λ z. Pieces w F (λ k j. F k j (Ends z)) 0 i a.trees a.taken) e a.pieces)

module _ {I A V T : Type 0} (w : Model I A) (F G : ℕ → I → Turn V T → Type 0) where
  -- decided turns of the first relation, that are the second's at each place
  pub pieces_along : ((k : ℕ) (i : I) (t : Turn V T) → w.IsKnown i → F k i t → KeepsTurn true t → G k i t) → {P Q : ℕ → I → Type 0} →
      ((k : ℕ) (i : I) → w.IsKnown i → P k i → Q k i) → (k : ℕ) (i : I) (vs : List V) (n : ℕ) → w.IsKnown i → Pieces w F P k i vs n → Pieces w G Q k i vs n
  pieces_along f g k i [] n h p = (p.0, g k i h p.1)
  pieces_along f g k i (v ∷ vs) n h p = (p.0, p.1, p.2, f k i (Takes p.0 v) h p.3 tt, p.4, pieces_along f g (k + 1) p.2 vs p.1 (p.4).known p.5, p.6)

module _ {I A V T : Type 0} (w : Model I A) (decided : Bool) (F G : ℕ → I → Turn V T → Type 0) where
  pub pieces_carry : CarriesTurns w decided F G → {P Q : ℕ → I → Type 0} →
      ((k : ℕ) (x y : I) → w.IsKnown x → w.IsKnown y → IsSame w x y → P k x → Q k y) → (k : ℕ) (x y : I) (vs : List V) (n : ℕ) → w.IsKnown x →
      w.IsKnown y → IsSame w x y → Pieces w F P k x vs n → Pieces w G Q k y vs n
  pieces_carry f g k x y [] n kx ky r p = (p.0, g k x y kx ky r p.1)
  pieces_carry f g k x y (v ∷ vs) n kx ky r p = (
    p.0,
    p.1,
    p.2,
    f k x y (Takes p.0 v) kx ky r p.3 tt,
    rest_consistent w x y p.0 p.2 r p.4,
    pieces_carry f g (k + 1) p.2 p.2 vs p.1 (p.4).known (p.4).known (same_self w p.2) p.5,
    p.6,
  )

  pub repeats_carry : {R : Type 0} (tree : List V → T → R) → CarriesTurns w decided F G → Carries w decided (Repeats w F tree) (Repeats w G tree)
  repeats_carry tree f x y o kx ky r a d =
      let kept = keeps_mapped decided (λ m. a.taken + m) (tree a.trees) a.ending (subst (λ z. Keeps decided z) a.outcome_is d) in
      record {
        trees = a.trees;
        taken = a.taken;
        ending = a.ending;
        pieces = pieces_carry f (λ k j h kj kh q z. f k j h (Ends a.ending) kj kh q z kept) 0 x y a.trees a.taken kx ky r a.pieces;
        outcome_is = a.outcome_is;
      }

-- a turn of two relations at once
abbrev pub BothTurns : {I V T : Type 0} → (ℕ → I → Turn V T → Type 0) → (ℕ → I → Turn V T → Type 0) → ℕ → I → Turn V T → Type 0
BothTurns F G k i t = F k i t × G k i t

module _ {I A V T : Type 0} (w : Model I A) (l : InputLaws w) (F G : ℕ → I → Turn V T → Type 0) where
  -- Where both relations decide on alike turns, what is said of a place that the first reaches is said of it by the second: the
  -- fact goes over at a place at which both have a decided turn, and the first's turns are the second's.
  pieces_reach : AgreeTurns w false F F → CarriesTurns w false G G → (Fact Said : ℕ → I → Type 0) →
      ((k : ℕ) (x z : I) (t : Turn V T) → w.IsKnown x → w.IsKnown z → IsSame w x z → BothTurns F G k x t → KeepsTurn true t → Fact k z → Said k z) →
      (k : ℕ) (x z : I) (vs us : List V) (n m : ℕ) (p : Outcome T) → w.IsKnown x → w.IsKnown z → IsSame w x z → IsDecided p →
      Pieces w (BothTurns F G) (λ h j. BothTurns F G h j (Ends p)) k x vs n → Pieces w F Fact k z us m → Pieces w G Said k z us m
  pieces_reach f g Fact Said goes k x z [] [] n m p kx kz r d a b = (b.0, goes k x z (Ends p) kx kz r a.1 d b.1)
  pieces_reach f g Fact Said goes k x z (v ∷ vs) [] n m p kx kz r d a b = (b.0, goes k x z (Takes a.0 v) kx kz r a.3 tt b.1)
  pieces_reach f g Fact Said goes k x z [] (u ∷ us) n m p kx kz r d a b =
      let e = f k x z (Ends p) (Takes b.0 u) kx kz r (a.1).0 tt b.3 in absurd (cc)
  pieces_reach f g Fact Said goes k x z (v ∷ vs) (u ∷ us) n m p kx kz r d a b =
      let e = f k x z (Takes a.0 v) (Takes b.0 u) kx kz r (a.3).0 tt b.3 in
      let lengths : a.0 ≡ b.0 = cc in
      let rests = rest_related w l false x z a.0 a.2 b.2 r a.4 (subst (λ c. IsSuffixOf w z c b.2) (sym lengths) b.4) in
      let turn : G k z (Takes b.0 u) = subst (λ t. G k z t) e (g k x z (Takes a.0 v) kx kz r (a.3).1 tt) in
      (b.0, b.1, b.2, turn, b.4, pieces_reach f g Fact Said goes (k + 1) a.2 b.2 vs us a.1 b.1 p (a.4).known (b.4).known rests d a.5 b.5, b.6)

  pub reaches_too : AgreeTurns w false F F → CarriesTurns w false G G → (Fact Said : ℕ → I → Type 0) →
      ((k : ℕ) (x z : I) (t : Turn V T) → w.IsKnown x → w.IsKnown z → IsSame w x z → BothTurns F G k x t → KeepsTurn true t → Fact k z → Said k z) →
      (i : I) (vs : List V) (n : ℕ) (p : Outcome T) → w.IsKnown i → IsDecided p → Pieces w (BothTurns F G) (λ h j. BothTurns F G h j (Ends p)) 0 i vs n →
      Reaches w F Fact i → Reaches w G Said i
  reaches_too f g Fact Said goes i vs n p h d a b = record {
    trees = b.trees;
    taken = b.taken;
    pieces = pieces_reach f g Fact Said goes 0 i i vs b.trees n b.taken p h h (same_self w i) d a b.pieces;
  }

-- what a rule must keep
pub record RuleLaws {I P V T E : Type 0} (r : Rule I P V T E) : Type 1 where
  -- a decided turn comes of a decided outcome
  pub decided : (k : ℕ) (a : Option (Outcome P)) → KeepsTurn true (r.turn k a) → KeepsReply true a
  -- an end with success consumes nothing of its own, or what the part accepted
  pub ends : (k : ℕ) (a : Option (Outcome P)) (n : ℕ) (t : T) → Ends (Accept n t) ≡ r.turn k a → EndsTurn n a
  -- the errors of the part, where it ran, stand for themselves
  pub blames : (i : I) (k : ℕ) (j : I) (a : Option (Outcome P)) (X Y : E → Type 0) (e : E) → (Ran a → (f : E) → X f → Y f) → r.Blames i k j a X e →
      r.Blames i k j a Y e
  -- where it is frugal, so is the part, and it asks for no memory
  pub part_frugal : (PartIs : Modes → Type 0) (mode : Modes) (k : ℕ) → r.IsFrugal PartIs mode → PartIs (r.part k mode)
  pub asks_none : (PartIs : Modes → Type 0) (mode : Modes) (k : ℕ) (a : Option (Outcome P)) → r.IsFrugal PartIs mode → r.Asks mode k a → ⊥
  -- where it never fails, nor does the part, and it fails where the part does
  pub never_fails : (Part : Cause → Type 0) (cause : Cause) (k : ℕ) (a : Option (Outcome P)) → r.NeverFails Part cause →
      Ends (Stop (Fails cause)) ≡ r.turn k a → Part cause × (a ≡ Some (Stop (Fails cause)))

-- related inputs have one reply
module _ {I A P : Type 0} (w : Model I A) (bound : Option ℕ) where
  reply_agree : (longer : Bool) (F G : ℕ → I → Outcome P → Type 0) → ((k : ℕ) → Agree w longer (F k) (G k)) →
      (k : ℕ) (x y : I) (a b : Option (Outcome P)) → w.IsKnown x → w.IsKnown y → Related w longer x y → Replies bound F k x a → KeepsReply longer a →
      Replies bound G k y b → a ≡ b
  reply_agree longer F G f k x y (Some o) (Some p) kx ky r h d g = ap Some (f k x y o p kx ky r h.1 d g.1)
  reply_agree longer F G f k x y (Some o) None kx ky r h d g = absurd (g h.0)
  reply_agree longer F G f k x y None (Some p) kx ky r h d g = absurd (h g.0)
  reply_agree longer F G f k x y None None kx ky r h d g = refl

  reply_carries : (decided : Bool) (F G : ℕ → I → Outcome P → Type 0) → ((k : ℕ) → Carries w decided (F k) (G k)) →
      (k : ℕ) (x y : I) (a : Option (Outcome P)) → w.IsKnown x → w.IsKnown y → IsSame w x y → Replies bound F k x a → KeepsReply decided a →
      Replies bound G k y a
  reply_carries decided F G f k x y (Some o) kx ky r h d = (h.0, f k x y o kx ky r h.1 d)
  reply_carries decided F G f k x y None kx ky r h d = h

keeps_any : {V T : Type 0} (y : Turn V T) → KeepsTurn false y
keeps_any (Takes n v) = tt
keeps_any (Ends o) = tt

keeps_consistent : {P : Type 0} (a : Option (Outcome P)) → KeepsReply false a
keeps_consistent (Some o) = tt
keeps_consistent None = tt

module _ {I A P V T : Type 0} (w : Model I A) (bound : Option ℕ) (turn : ℕ → Option (Outcome P) → Turn V T)
    (decided : (k : ℕ) (a : Option (Outcome P)) → KeepsTurn true (turn k a) → KeepsReply true a) where
  kept_reply : (longer : Bool) (k : ℕ) (a : Option (Outcome P)) → KeepsTurn longer (turn k a) → KeepsReply longer a
  kept_reply true k a h = decided k a h
  kept_reply false k a h = keeps_consistent a

  turns_agree : (longer : Bool) (F G : ℕ → I → Outcome P → Type 0) → ((k : ℕ) → Agree w longer (F k) (G k)) →
      AgreeTurns w longer (TurnsBy bound turn F) (TurnsBy bound turn G)
  turns_agree longer F G f k x y s t kx ky r a d b =
      let kept = kept_reply longer k a.reply (subst (λ z. KeepsTurn longer z) a.fact d) in
      a.fact ∙ (ap (λ z. turn k z) (reply_agree w bound longer F G f k x y a.reply b.reply kx ky r a.replied kept b.replied) ∙ sym b.fact)

  turns_carry : (kept : Bool) (F G : ℕ → I → Outcome P → Type 0) → ((k : ℕ) → Carries w kept (F k) (G k)) →
      CarriesTurns w kept (TurnsBy bound turn F) (TurnsBy bound turn G)
  turns_carry kept F G f k x y t kx ky r a d = record {
    reply = a.reply;
    replied = reply_carries w bound kept F G f k x y a.reply kx ky r a.replied (kept_reply kept k a.reply (subst (λ z. KeepsTurn kept z) a.fact d));
    fact = a.fact;
  }

module _ {I A P V T R E : Type 0} (w : Model I A) (l : InputLaws w) (r : Rule I P V T E) (rl : RuleLaws r) (tree : List V → T → R) (f : Family ℕ I P E) where
  abbrev Part : Bool → ℕ → I → Outcome P → Type 0
  Part s k = (f.at k).answers s

  abbrev Turns : Bool → ℕ → I → Turn V T → Type 0
  Turns s = TurnsBy r.bound r.turn (Part s)

  -- an end with success is within the input
  end_place : (s : Bool) → ((k : ℕ) → Within w (Part s k)) → (k : ℕ) (j : I) (n : ℕ) (a : Option (Outcome P)) → w.IsKnown j →
      Replies r.bound (Part s) k j a → EndsTurn n a → IsBoundary w j n
  end_place s g k j n (Some (Accept x u)) h p (inl e) = place_zero w j n e
  end_place s g k j n (Some (Accept x u)) h p (inr e) = subst (λ z. IsBoundary w j z) (sym e) (g k j x u h p.1)
  end_place s g k j n (Some Refuse) h p e = place_zero w j n e
  end_place s g k j n (Some (Stop why)) h p e = place_zero w j n e
  end_place s g k j n None h p e = place_zero w j n e

  -- what the part replies at a place is blamed by an error
  abbrev Blamed : Bool → I → E → ℕ → I → Type 0
  Blamed s i e k j = OnReply r.bound (Part s) (λ a. r.Blames i k j a ((f.at k).blames s j) e) k j

  module _ (q : IsLawfulFamily w AnyKey f) where
    agree : (s : Bool) → AgreeTurns w false (Turns s) (Turns s)
    agree s = turns_agree w r.bound r.turn rl.decided false (Part s) (Part s) (λ k. (q.lawful k tt).one_outcome s)

    consistent : (s : Bool) → CarriesTurns w false (Turns s) (Turns s)
    consistent s = turns_carry w r.bound r.turn rl.decided false (Part s) (Part s) (λ k. (q.lawful k tt).consistent s)

    settle : f.Settles → CarriesTurns w true (Turns true) (Turns false)
    settle t = turns_carry w r.bound r.turn rl.decided true (Part true) (Part false) (λ k. (q.lawful k tt).settles (q.settles t k tt))

    -- a reply of one mode, where both modes have an equal decided turn, is one of the other, with its blames
    part_blames : f.Settles → (s : Bool) (k : ℕ) (j : I) (a : Option (Outcome P)) → w.IsKnown j → Replies r.bound (Part s) k j a →
        Replies r.bound (Part (not s)) k j a → KeepsReply true a → Ran a → (e : E) → (f.at k).blames s j e → (f.at k).blames (not s) j e
    part_blames t s k j (Some o) h a b d ran e z = (q.lawful k tt).blames_consistent (q.settles t k tt) s j o e h a.1 b.1 d z
    part_blames t s k j None h a b d ran e z = absurd ran

    blamed_too : f.Settles → (s : Bool) (i : I) (e : E) (k : ℕ) (x z : I) (turn : Turn V T) → w.IsKnown x → w.IsKnown z → IsSame w x z →
        BothTurns (Turns s) (Turns (not s)) k x turn → KeepsTurn true turn → Blamed s i e k z → Blamed (not s) i e k z
    blamed_too t s i e k x z turn kx kz same both d b =
        let mine : Turns s k z (r.turn k b.reply) = record { reply = b.reply; replied = b.replied; fact = refl } in
        let is : turn ≡ r.turn k b.reply = agree s k x z turn (r.turn k b.reply) kx kz same both.0 (keeps_any turn) mine in
        let decided = rl.decided k b.reply (subst (λ y. KeepsTurn true y) is d) in
        let yours = consistent (not s) k x z turn kx kz same both.1 (keeps_any turn) in
        let there = meets t s k z b.reply yours.reply kz b.replied yours.replied decided
        (rl.decided k yours.reply (subst (λ y. KeepsTurn true y) yours.fact d)) in
        let replied : Replies r.bound (Part (not s)) k z b.reply = subst (λ y. Replies r.bound (Part (not s)) k z y) (sym there) yours.replied in
        record {
          reply = b.reply;
          replied = replied;
          fact = rl.blames i k z b.reply ((f.at k).blames s z) ((f.at k).blames (not s) z) e (part_blames t s k z b.reply kz b.replied replied decided) b.fact;
        }
      where
        meets : f.Settles → (m : Bool) (c : ℕ) (j : I) (a u : Option (Outcome P)) → w.IsKnown j → Replies r.bound (Part m) c j a →
            Replies r.bound (Part (not m)) c j u → KeepsReply true a → KeepsReply true u → a ≡ u
        meets y m c j (Some o) (Some p) h p0 p1 d0 d1 =
            ap Some ((transfers w (f.at c) (q.lawful c tt) (q.settles y c tt) m).meets j j o p h h (same_self w j) p0.1 p1.1 d0 d1)
        meets y m c j (Some o) None h p0 p1 d0 d1 = absurd (p1 p0.0)
        meets y m c j None (Some p) h p0 p1 d0 d1 = absurd (p0 p1.0)
        meets y m c j None None h p0 p1 d0 d1 = refl

    -- the streaming items are the complete ones
    in_both : f.Settles → (s : Bool) (i : I) (vs : List V) (n : ℕ) (p : Outcome T) → w.IsKnown i → IsDecided p →
        Pieces w (Turns true) (λ k j. Turns true k j (Ends p)) 0 i vs n →
        Pieces w (BothTurns (Turns s) (Turns (not s))) (λ k j. BothTurns (Turns s) (Turns (not s)) k j (Ends p)) 0 i vs n
    in_both t true i vs n p h d a =
        pieces_along w (Turns true) (BothTurns (Turns true) (Turns false)) (λ k j u kj z y. (z, settle t k j j u kj kj (same_self w j) z y))
        (λ k j kj z. (z, settle t k j j (Ends p) kj kj (same_self w j) z d)) 0 i vs n h a
    in_both t false i vs n p h d a =
        pieces_along w (Turns true) (BothTurns (Turns false) (Turns true)) (λ k j u kj z y. (settle t k j j u kj kj (same_self w j) z y, z))
        (λ k j kj z. (settle t k j j (Ends p) kj kj (same_self w j) z d, z)) 0 i vs n h a

    blames_consistent : f.Settles → (s : Bool) (i : I) (o : Outcome R) (e : E) → w.IsKnown i → Repeats w (Turns true) tree i o → IsDecided o →
        (repeat_meaning w r tree f).blames s i e → (repeat_meaning w r tree f).blames (not s) i e
    blames_consistent t s i o e h a d b =
        let decided = keeps_mapped true (λ m. a.taken + m) (tree a.trees) a.ending (subst (λ z. IsDecided z) a.outcome_is d) in
        reaches_too w l (Turns s) (Turns (not s)) (agree s) (consistent (not s)) (Blamed s i e) (Blamed (not s) i e)
        (blamed_too t s i e) i a.trees a.taken a.ending h decided (in_both t s i a.trees a.taken a.ending h decided a.pieces) b

    both_blames : f.Settles → (s : Bool) →
        SameBlame w (Repeats w (Turns s) tree) (Repeats w (Turns (not s)) tree) ((repeat_meaning w r tree f).blames s)
        ((repeat_meaning w r tree f).blames (not s))
    both_blames t true i o e h a b d z = blames_consistent t true i o e h a d z
    both_blames t false i o e h a b d z = blames_consistent t false i o e h b d z

    never_asks : (mode : Modes) → r.IsFrugal f.IsFrugal mode → (k : ℕ) (j : I) → w.IsKnown j →
        OnReply r.bound (Part mode.streaming) (r.Asks mode k) k j ⊎ (IsBelow r.bound k × (f.at k).may_run_out (r.part k mode) j) → ⊥
    never_asks mode g k j h (inl a) = rl.asks_none f.IsFrugal mode k a.reply g a.fact
    never_asks mode g k j h (inr a) = (q.lawful k tt).frugal (r.part k mode) j h (q.frugal (r.part k mode) (rl.part_frugal f.IsFrugal mode k g) k tt) a.1

    never : (cause : Cause) (s : Bool) → r.NeverFails f.NeverFails cause → (k : ℕ) (j : I) → w.IsKnown j → Turns s k j (Ends (Stop (Fails cause))) → ⊥
    never cause s g k j h a =
        let n = rl.never_fails f.NeverFails cause k a.reply g a.fact in
        (q.lawful k tt).never_fails cause (q.never_fails cause n.0 k tt) s j h (subst (λ z. Replies r.bound (Part s) k j z) n.1 a.replied).1

    is_lawful : IsLawful w (repeat_meaning w r tree f)
    is_lawful = record {
      within = λ s. repeats_within w (Turns s) tree
          (λ k j n t kj z. end_place s (λ c. (q.lawful c tt).within s) k j n z.reply kj z.replied (rl.ends k z.reply n t z.fact));
      one_outcome = λ s. repeats_agree w l false (Turns s) (Turns s) tree (agree s);
      consistent = λ s. repeats_carry w false (Turns s) (Turns s) tree (consistent s);
      frugal = λ mode i h g. reaches_never w (Turns mode.streaming)
          (λ k j. OnReply r.bound (Part mode.streaming) (r.Asks mode k) k j ⊎ (IsBelow r.bound k × (f.at k).may_run_out (r.part k mode) j))
          (never_asks mode g) i h;
      settles = λ t. repeats_carry w true (Turns true) (Turns false) tree (settle t);
      blames_consistent = both_blames;
      never_fails = λ cause g s i h. repeats_never w (Turns s) tree cause (never cause s g) i h;
    }

  are_steady : ((k : ℕ) → IsSteady w (f.at k)) → IsSteady w (repeat_meaning w r tree f)
  are_steady st = record {
    stays = repeats_agree w l true (Turns true) (Turns true) tree
        (turns_agree w r.bound r.turn rl.decided true (Part true) (Part true) (λ k. (st k).stays));
  }

module _ {I A P V T R E : Type 0} {w : Model I A} (l : InputLaws w) {r : Rule I P V T E} (rl : RuleLaws r) {tree : List V → T → R} (f : Family ℕ I P E) where
  pub repeat_lawful : IsLawfulFamily w AnyKey f → IsLawful w (repeat_meaning w r tree f)
  repeat_lawful q = is_lawful w l r rl tree f q

  pub repeat_steady : ((k : ℕ) → IsSteady w (f.at k)) → IsSteady w (repeat_meaning w r tree f)
  repeat_steady st = are_steady w l r rl tree f st
