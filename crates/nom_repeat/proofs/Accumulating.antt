-- Lemmas on the accumulation of items, as they come.
use Rattle.std.proofs.Common.{◌≡◌, ◌++◌, ◌∷◌, [], List, Option, Some, None, Bool, true, false, refl, sym, ◌∙◌, subst}
use Rattle.std.specs.List.{AllZip}
use Rattle.nom_internal.specs.Prelude.{Built}
use Rattle.nom_internal.proofs.Shown.{built_error}
use Rattle.nom_repeat.specs.Accumulated.{PushesBoth, LacksRoomBoth, Adds, Accumulated}

none_some : {X : Type 0} (x : X) → None ≡ Some x → ⊥
none_some x e = absurd (cc (e))

pub zip_push : {V O : Type 0} (P : V → O → Type 0) (vs : List V) (os : List O) (v : V) (o : O) → AllZip P vs os → P v o → AllZip P (vs ++ v ∷ []) (os ++ o ∷ [])
zip_push P [] [] v o h p = (p, tt)
zip_push P [] (x ∷ os) v o h p = absurd h
zip_push P (u ∷ vs) [] v o h p = absurd h
zip_push P (u ∷ vs) (x ∷ os) v o h p = (h.0, zip_push P vs os v o h.1 p)

module _ {V T K : Type 0} (Pushes : K → T → K → Type 0) (CanPush : K → Type 0) (P : V → T → Type 0) where
  adds_more : (k : K) (xs : List T) (mid : K) (x : T) (new : K) → Adds Pushes k xs mid → Pushes mid x new → Adds Pushes k (xs ++ x ∷ []) new
  adds_more k [] mid x new a g = (new, subst (λ z. Pushes z x new) a g, refl)
  adds_more k (y ∷ xs) mid x new a g = (a.0, a.1, adds_more a.0 xs mid x new a.2 g)

  -- nothing yet
  pub kept_none : (builds : Bool) (before : Option K) → Built builds CanPush before → Built builds (Accumulated Pushes CanPush P before []) before
  kept_none true before h = (h.0, h.1, record { first = h.0; first_is = h.1; outputs = []; are_outputs = tt; added = refl; ready = h.2 })
  kept_none false before h = h

  kept_more : (before : Option K) (vs : List V) (v : V) (k : K) (x : T) (new : K) → Accumulated Pushes CanPush P before vs k → P v x → Pushes k x new →
      CanPush new → Accumulated Pushes CanPush P before (vs ++ v ∷ []) new
  kept_more before vs v k x new h p g r = record {
    first = h.first;
    first_is = h.first_is;
    outputs = h.outputs ++ x ∷ [];
    are_outputs = zip_push P vs h.outputs v x h.are_outputs p;
    added = adds_more h.first h.outputs k x new h.added g;
    ready = r;
  }

  -- one item more
  pub pushed : (before : Option K) (builds : Bool) (vs : List V) (v : V) (old new : Option K) (item : Option T) → PushesBoth Pushes CanPush old item new →
      Built builds (Accumulated Pushes CanPush P before vs) old → Built builds (P v) item →
      Built builds (Accumulated Pushes CanPush P before (vs ++ v ∷ [])) new
  pushed before true vs v (Some k) (Some n) (Some x) g b c =
      let one : k ≡ b.0 = cc (b.1) in
      let item : x ≡ c.0 = cc (c.1) in
      (n, refl, kept_more before vs v k x n (subst (λ z. Accumulated Pushes CanPush P before vs z) (sym one) b.2) (subst (λ z. P v z) (sym item) c.2) g.0 g.1)
  pushed before true vs v (Some k) None (Some x) g b c = absurd g
  pushed before true vs v (Some k) n None g b c = absurd (none_some c.0 c.1)
  pushed before true vs v None n x g b c = absurd (none_some b.0 b.1)
  pushed before false vs v (Some k) x n g b c = absurd (none_some k (sym b))
  pushed before false vs v None x n g b c = g

module _ {V T K : Type 0} (Pushes : K → T → K → Type 0) (CanPush : K → Type 0) (P : V → T → Type 0) where
  adds_both : (k : K) (xs : List T) (mid : K) (ys : List T) (new : K) → Adds Pushes k xs mid → Adds Pushes mid ys new → Adds Pushes k (xs ++ ys) new
  adds_both k [] mid ys new a b = subst (λ z. Adds Pushes z ys new) a b
  adds_both k (x ∷ xs) mid ys new a b = (a.0, a.1, adds_both a.0 xs mid ys new a.2 b)

  zip_both : (vs us : List V) (xs ys : List T) → AllZip P vs xs → AllZip P us ys → AllZip P (vs ++ us) (xs ++ ys)
  zip_both [] us [] ys h p = p
  zip_both [] us (x ∷ xs) ys h p = absurd h
  zip_both (v ∷ vs) us [] ys h p = absurd h
  zip_both (v ∷ vs) us (x ∷ xs) ys h p = (h.0, zip_both vs us xs ys h.1 p)

  kept_one : (before : Option K) (vs us : List V) (mid new : K) → Accumulated Pushes CanPush P before vs mid →
      (b : Accumulated Pushes CanPush P (Some mid) us new) →
      Accumulated Pushes CanPush P before (vs ++ us) new
  kept_one before vs us mid new a b =
      let same : mid ≡ b.first = cc (b.first_is) in
      record {
        first = a.first;
        first_is = a.first_is;
        outputs = a.outputs ++ b.outputs;
        are_outputs = zip_both vs us a.outputs b.outputs a.are_outputs b.are_outputs;
        added = adds_both a.first a.outputs mid b.outputs new a.added (subst (λ z. Adds Pushes z b.outputs new) (sym same) b.added);
        ready = b.ready;
      }

  -- items, and then more of them
  pub kept_both : (builds : Bool) (before mid : Option K) (vs us : List V) (new : K) → Built builds (Accumulated Pushes CanPush P before vs) mid →
      Accumulated Pushes CanPush P mid us new → Accumulated Pushes CanPush P before (vs ++ us) new
  kept_both true before mid vs us new a b = kept_one before vs us a.0 new a.2 (subst (λ z. Accumulated Pushes CanPush P z us new) a.1 b)
  kept_both false before mid vs us new a b = absurd (none_some b.first (sym a ∙ b.first_is))

  -- and one item more may be kept
  pub kept_ready : (builds : Bool) (before kept : Option K) (vs : List V) → Built builds (Accumulated Pushes CanPush P before vs) kept →
      Built builds CanPush kept
  kept_ready builds before kept vs h = built_error builds _ CanPush kept (λ k z. z.ready) h

-- what is built, whatever it is
pub built_any : {X : Type 0} (builds : Bool) (P : X → Type 0) (x : Option X) → Built builds P x → Built builds (λ _. Unit {0}) x
built_any builds P x h = built_error builds P (λ _. Unit {0}) x (λ _ _. tt) h

-- where room is lacking, something is kept, so it is built
pub room_built : {T K : Type 0} (LacksRoom : K → T → K → Type 0) (P : K → Type 0) (builds : Bool) (k : Option K) (x : Option T)
    (new : Option K) → Built builds P k → LacksRoomBoth LacksRoom k x new → builds ≡ true
room_built LacksRoom P true k x new b h = refl
room_built LacksRoom P false k x new b h = absurd (subst (λ z. LacksRoomBoth LacksRoom z x new) b h)

pub room_grows : {T K : Type 0} (LacksRoom : K → T → K → Type 0) (Grows : Type 0) → ((k : K) (x : T) (new : K) → LacksRoom k x new → Grows) →
    (k : Option K) (x : Option T) (new : Option K) → LacksRoomBoth LacksRoom k x new → Grows
room_grows LacksRoom Grows f (Some k) (Some x) (Some new) h = f k x new h
room_grows LacksRoom Grows f (Some k) (Some x) None h = absurd h
room_grows LacksRoom Grows f (Some k) None new h = absurd h
room_grows LacksRoom Grows f None x new h = absurd h
