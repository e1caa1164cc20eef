-- The laws of a part that is followed by another.
use Rattle.std.specs.Prelude.{◌≡◌, ℕ, ◌+◌, Bool, true, false, not}
use Rattle.std.proofs.Common.{sym, ◌∙◌, ap, subst}
use Rattle.nom_internal.specs.Prelude.{Modes, Model, InputLaws, IsSuffixOf, IsBoundary, IsSame, Related, same_self, rest_related, rest_consistent, place_more}
use Rattle.nom_internal.specs.Prelude.{Outcome, Cause, Accept, Refuse, Stop, Fails, IsDecided, IsFault, OnOutcome, Meaning, IsLawful}
use Rattle.nom_internal.specs.Prelude.{IsSteady, Keeps, Agree, Carries, Within, SameBlame, Family, IsLawfulFamily, AnyKey, always, always_lawful, after, GoesOn}
use Rattle.nom_internal.specs.Prelude.{Then, ThenBlames, then_meaning, sequence_meaning, RunsOutFirst, RunsOutNext}
use Rattle.nom_internal.specs.laws.PartLaws.{keeps_mapped, failure_mapped, Transfers, transfers, blame_transferred}
use Rattle.nom_internal.specs.Sequence.ThenBlames.{BlamesFirst, BlamesNext}

-- where what follows is kept, so is the first part
module _ {I A P Q T : Type 0} (w : Model I A) (tree : P → Q → T) (N : P → I → Outcome Q → Type 0) where
  pub keeps_first : (longer : Bool) (x : I) (a : Outcome P) (o : Outcome T) → Keeps longer o → GoesOn w tree N x a o → Keeps longer a
  keeps_first true x (Accept n u) o k s = tt
  keeps_first true x Refuse o k s = tt
  keeps_first true x (Stop why) o k s = subst (λ y. IsDecided y) s k
  keeps_first false x a o k s = tt

module _ {I A P Q T : Type 0} (w : Model I A) (l : InputLaws w) (tree : P → Q → T) (longer : Bool) (F G : I → Outcome P → Type 0)
    (N M : P → I → Outcome Q → Type 0) where
  goes_agree : ((u : P) → Agree w longer (N u) (M u)) → (x y : I) (a : Outcome P) (o p : Outcome T) → w.IsKnown x → w.IsKnown y → Related w longer x y →
      Keeps longer o → GoesOn w tree N x a o → GoesOn w tree M y a p → o ≡ p
  goes_agree h x y (Accept n u) o p kx ky r k s t =
      let q : Outcome Q = s.1 in
      let e = h u s.0 t.0 s.1 t.1 s.2.known t.2.known (rest_related w l longer x y n s.0 t.0 r s.2 t.2) s.3
      (keeps_mapped longer (λ m. n + m) (tree u) q (subst (λ z. Keeps longer z) s.4 k)) t.3 in
      s.4 ∙ (ap (λ z. after n (tree u) z) e ∙ sym t.4)
  goes_agree h x y Refuse o p kx ky r k s t = s ∙ sym t
  goes_agree h x y (Stop why) o p kx ky r k s t = s ∙ sym t

  pub then_agree : Agree w longer F G → ((u : P) → Agree w longer (N u) (M u)) → Agree w longer (Then w tree F N) (Then w tree G M)
  then_agree f h x y o p kx ky r s k t =
      let e = f x y s.first t.first kx ky r s.answered (keeps_first w tree N longer x s.first o k s.goes_on) t.answered in
      goes_agree h x y s.first o p kx ky r k s.goes_on (subst (λ z. GoesOn w tree M y z p) (sym e) t.goes_on)

module _ {I A P Q T : Type 0} (w : Model I A) (tree : P → Q → T) (decided : Bool) (F G : I → Outcome P → Type 0) (N M : P → I → Outcome Q → Type 0) where
  goes_carries : ((u : P) → Carries w decided (N u) (M u)) → (x y : I) (a : Outcome P) (o : Outcome T) → IsSame w x y → Keeps decided o →
      GoesOn w tree N x a o → GoesOn w tree M y a o
  goes_carries g x y (Accept n u) o r k t = (
    t.0,
    t.1,
    rest_consistent w x y n t.0 r t.2,
    g u t.0 t.0 t.1 t.2.known t.2.known (same_self w t.0) t.3 (keeps_mapped decided (λ m. n + m) (tree u) t.1 (subst (λ z. Keeps decided z) t.4 k)),
    t.4,
  )
  goes_carries g x y Refuse o r k t = t
  goes_carries g x y (Stop why) o r k t = t

  pub then_carries : Carries w decided F G → ((u : P) → Carries w decided (N u) (M u)) → Carries w decided (Then w tree F N) (Then w tree G M)
  then_carries f g x y o kx ky r t k = record {
    first = t.first;
    answered = f x y t.first kx ky r t.answered (keeps_first w tree N decided x t.first o k t.goes_on);
    goes_on = goes_carries g x y t.first o r k t.goes_on;
  }

module _ {I A P Q T : Type 0} (w : Model I A) (tree : P → Q → T) (F : I → Outcome P → Type 0) (N : P → I → Outcome Q → Type 0) where
  goes_within : ((u : P) → Within w (N u)) → (i : I) (n m : ℕ) (v : T) (u : P) (j : I) (p : Outcome Q) → IsSuffixOf w i m j → N u j p →
      Accept n v ≡ after m (tree u) p → IsBoundary w i n
  goes_within g i n m v u j (Accept k x) r b e =
      let same : m + k ≡ n = cc in
      subst (λ t. IsBoundary w i t) same (place_more w i m j k r (g u j k x r.known b))
  goes_within g i n m v u j Refuse r b e = cc
  goes_within g i n m v u j (Stop why) r b e = cc

  first_within : ((u : P) → Within w (N u)) → (i : I) (n : ℕ) (v : T) (a : Outcome P) → GoesOn w tree N i a (Accept n v) → IsBoundary w i n
  first_within g i n v (Accept m u) t = goes_within g i n m v u t.0 t.1 t.2 t.3 t.4
  first_within g i n v Refuse t = cc
  first_within g i n v (Stop why) t = cc

  pub then_within : ((u : P) → Within w (N u)) → Within w (Then w tree F N)
  then_within g i n v h t = first_within g i n v t.first t.goes_on

  never_goes : (cause : Cause) → ((i : I) → w.IsKnown i → F i (Stop (Fails cause)) → ⊥) → ((u : P) (i : I) → w.IsKnown i → N u i (Stop (Fails cause)) → ⊥) →
      (i : I) → w.IsKnown i → (a : Outcome P) → F i a → GoesOn w tree N i a (Stop (Fails cause)) → ⊥
  never_goes cause f g i h (Accept n u) b t = g u t.0 (t.2).known (subst (λ z. N u t.0 z) (failure_mapped cause (λ m. n + m) (tree u) t.1 t.4) t.3)
  never_goes cause f g i h Refuse b t = absurd (cc (t))
  never_goes cause f g i h (Stop why) b t = f i h (subst (λ z. F i z) (cc (t)) b)

module _ {I A P Q T E : Type 0} (w : Model I A) (l : InputLaws w) (tree : P → Q → T) (F G : I → Outcome P → Type 0) (B C : I → E → Type 0)
    (N M : P → I → Outcome Q → Type 0) (D H : P → I → E → Type 0) (f : Transfers w F G B C) (g : (u : P) → Transfers w (N u) (M u) (D u) (H u)) where
  next_blamed : (i : I) (n : ℕ) (u : P) (j : I) (o : Outcome T) (e : E) → IsDecided o → IsSuffixOf w i n j → GoesOn w tree N i (Accept n u) o →
      GoesOn w tree M i (Accept n u) o → OnOutcome IsFault (N u) (D u j e) j → OnOutcome IsFault (M u) (H u j e) j
  next_blamed i n u j o e d r s t b =
      blame_transferred w (N u) (M u) (D u) (H u)
      (g u) j s.0 t.0 s.1 t.1 e r.known s.2.known t.2.known (rest_related w l false i i n j s.0 (same_self w i) r s.2)
      (rest_related w l false i i n t.0 j (same_self w i) t.2 r) s.3 t.3
      (keeps_mapped true (λ m. n + m) (tree u) s.1 (subst (λ z. IsDecided z) s.4 d))
      (keeps_mapped true (λ m. n + m) (tree u) t.1 (subst (λ z. IsDecided z) t.4 d)) IsFault b

  pub then_blames : SameBlame w (Then w tree F N) (Then w tree G M) (ThenBlames w F B N D) (ThenBlames w G C M H)
  then_blames i o e h s t d (BlamesFirst b) =
      BlamesFirst (blame_transferred w F G B C f i i i s.first t.first e h h h (same_self w i)
      (same_self w i) s.answered t.answered (keeps_first w tree N true i s.first o d s.goes_on) (keeps_first w tree M true i t.first o d t.goes_on) IsFault b)
  then_blames i o e h s t d (BlamesNext r) =
      let a : Outcome P = Accept r.length r.tree in
      let mine : a ≡ s.first = f.one i i a s.first h h (same_self w i) r.accepted tt s.answered in
      let yours : a ≡ t.first = f.meets i i a t.first h h (same_self w i) r.accepted t.answered tt (keeps_first w tree M true i t.first o d t.goes_on) in
      BlamesNext (record {
        length = r.length;
        tree = r.tree;
        rest = r.rest;
        accepted = subst (λ z. G i z) (sym yours) t.answered;
        rest_is = r.rest_is;
        fact = next_blamed i r.length r.tree r.rest o e d r.rest_is (subst (λ z. GoesOn w tree N i z o) (sym mine) s.goes_on)
            (subst (λ z. GoesOn w tree M i z o) (sym yours) t.goes_on) r.fact;
      })

module _ {I A P Q T E : Type 0} (w : Model I A) (tree : P → Q → T) (first_mode next_mode : Modes → Modes) (a : Meaning I P E) (f : Family P I Q E) where
  then_frugal : IsLawful w a → IsLawfulFamily w AnyKey f → (mode : Modes) (i : I) → w.IsKnown i → a.IsFrugal (first_mode mode) ×
      f.IsFrugal (next_mode mode) → (then_meaning w tree first_mode next_mode a f).may_run_out mode i → ⊥
  then_frugal p q mode i h g (RunsOutFirst r) = p.frugal (first_mode mode) i h g.0 r
  then_frugal p q mode i h g (RunsOutNext r) =
      (q.lawful r.tree tt).frugal (next_mode mode) r.rest (r.rest_is).known (q.frugal (next_mode mode) g.1 r.tree tt) r.fact

module _ {I A P Q T E : Type 0} {w : Model I A} (l : InputLaws w) {tree : P → Q → T} {first_mode next_mode : Modes → Modes} {a : Meaning I P E}
    (f : Family P I Q E) where
  pub then_lawful : IsLawful w a → IsLawfulFamily w AnyKey f → IsLawful w (then_meaning w tree first_mode next_mode a f)
  then_lawful p q = record {
    within = λ s. then_within w tree (a.answers s) (λ u. (f.at u).answers s) (λ u. (q.lawful u tt).within s);
    one_outcome = λ s. then_agree w l tree false (a.answers s) (a.answers s) (λ u. (f.at u).answers s) (λ u. (f.at u).answers s) (p.one_outcome s)
        (λ u. (q.lawful u tt).one_outcome s);
    consistent = λ s. then_carries w tree false (a.answers s) (a.answers s) (λ u. (f.at u).answers s) (λ u. (f.at u).answers s) (p.consistent s)
        (λ u. (q.lawful u tt).consistent s);
    frugal = then_frugal w tree first_mode next_mode a f p q;
    settles = λ t. then_carries w tree true (a.answers true) (a.answers false) (λ u. (f.at u).answers true) (λ u. (f.at u).answers false)
        (p.settles t.0) (λ u. (q.lawful u tt).settles (q.settles t.1 u tt));
    blames_consistent = λ t s. then_blames w l tree (a.answers s) (a.answers (not s)) (a.blames s) (a.blames (not s)) (λ u. (f.at u).answers s)
        (λ u. (f.at u).answers (not s)) (λ u. (f.at u).blames s) (λ u. (f.at u).blames (not s)) (transfers w a p t.0 s)
        (λ u. transfers w (f.at u) (q.lawful u tt) (q.settles t.1 u tt) s);
    never_fails = λ cause g s i h t. never_goes w tree (a.answers s) (λ u. (f.at u).answers s) cause (p.never_fails cause g.0 s)
        (λ u. (q.lawful u tt).never_fails cause (q.never_fails cause g.1 u tt) s) i h t.first t.answered t.goes_on;
  }

  pub then_steady : IsSteady w a → ((u : P) → IsSteady w (f.at u)) → IsSteady w (then_meaning w tree first_mode next_mode a f)
  then_steady p q = record {
    stays = then_agree w l tree true (a.answers true) (a.answers true) (λ u. (f.at u).answers true) (λ u. (f.at u).answers true) p.stays (λ u. (q u).stays);
  }

-- sequences
module _ {I A P Q T E : Type 0} {w : Model I A} (l : InputLaws w) {tree : P → Q → T} {first_mode second_mode : Modes → Modes} {a : Meaning I P E}
    {b : Meaning I Q E} where
  pub sequence_lawful : IsLawful w a → IsLawful w b → IsLawful w (sequence_meaning w tree first_mode second_mode a b)
  sequence_lawful p q = then_lawful l (always b) p (always_lawful q)

  pub sequence_steady : IsSteady w a → IsSteady w b → IsSteady w (sequence_meaning w tree first_mode second_mode a b)
  sequence_steady p q = then_steady l (always b) p (λ _. q)
