-- How many items there are, and how many may come.
use Rattle.std.proofs.Common.{◌≡◌, ℕ, ◌+◌, ◌-◌, ◌<◌, ◌≤◌, true, false, Option, Some, None, ◌⊎◌, List, [], ◌∷◌, ◌++◌, length, refl, arith, inl, inr, subst, sym}
use Rattle.std.specs.Prelude.{ltb, unwrap_or}
use Rattle.std.proofs.lemmas.Bool.{lt-ltb, le-ltb}
use Rattle.nom_internal.specs.Prelude.{ErrorKind}
use Rattle.nom_repeat.specs.Repeat.{IsBelow, AreBelow}
use Rattle.nom_repeat.specs.Items.{IsBounded, NeedsNone, IsOneMore}

-- the number of items taken, where there is a bound; else nothing asks for it
abbrev pub Counts : {V : Type 0} → Option ℕ → ℕ → List V → Type 0
Counts (Some most) count vs = count ≡ length vs
Counts None count vs = Unit {0}

-- What falls with each item: the length of what is left, where each item consumes; else the number of items that may come.
abbrev pub left : Option ErrorKind → Option ℕ → ℕ → ℕ → ℕ
left (Some kind) most count rest = rest
left None (Some most) count rest = most - count
left None None count rest = 0

pub counts_none : (V : Type 0) (most : Option ℕ) → Counts {V = V} most 0 []
counts_none V (Some n) = refl
counts_none V None = tt

pub counts_all : {V : Type 0} (most : Option ℕ) (count : ℕ) (vs : List V) → count ≡ length vs → Counts most count vs
counts_all (Some n) count vs e = e
counts_all None count vs e = tt

-- where no more are taken than may come, each is below the bound
pub are_below : (most : Option ℕ) {count : ℕ} (other : ℕ) → count ≤ unwrap_or most other → AreBelow most count
are_below (Some n) other h k z = omega (arith, h, z)
are_below None other h k z = tt

length_more : {V : Type 0} (vs : List V) (v : V) → length (vs ++ v ∷ []) ≡ length vs + 1
length_more [] v = refl
length_more (u ∷ vs) v = omega (arith, length_more vs v)

pub counts_more : {V : Type 0} (most : Option ℕ) (count more : ℕ) (vs : List V) (v : V) → Counts most count vs → IsOneMore most count more →
    Counts most more (vs ++ v ∷ [])
counts_more (Some n) count more vs v c h = omega (arith, c, h, length_more vs v)
counts_more None count more vs v c h = tt

module _ {V : Type 0} (most : Option ℕ) (count : ℕ) (vs : List V) where
  pub below : Counts most count vs → IsBelow most count → IsBelow most (length vs)
  below c h = of most c h
    where
      of : (m : Option ℕ) → Counts m count vs → IsBelow m count → IsBelow m (length vs)
      of (Some n) c h = subst (λ z. z < n) c h
      of None c h = tt

  pub at_bound : Counts most count vs → (IsBelow most count → ⊥) → IsBelow most (length vs) → ⊥
  at_bound c h z = of most c h z
    where
      of : (m : Option ℕ) → Counts m count vs → (IsBelow m count → ⊥) → IsBelow m (length vs) → ⊥
      of (Some n) c h z = h (subst (λ x. x < n) (sym c) z)
      of None c h z = h tt

  pub few_items : (least : ℕ) → Counts most count vs → NeedsNone most least → count < least → ltb (length vs) least ≡ true
  few_items least c n h = of most c n
    where
      of : (m : Option ℕ) → Counts m count vs → NeedsNone m least → ltb (length vs) least ≡ true
      of (Some k) c n = lt-ltb (length vs) least (subst (λ x. x < least) c h)
      of None c n = absurd (omega (arith, n, h))

  pub enough_items : (least : ℕ) → Counts most count vs → NeedsNone most least → least ≤ count → ltb (length vs) least ≡ false
  enough_items least c n h = of most c n
    where
      of : (m : Option ℕ) → Counts m count vs → NeedsNone m least → ltb (length vs) least ≡ false
      of (Some k) c n = le-ltb (length vs) least (subst (λ x. least ≤ x) c h)
      of None c n = le-ltb (length vs) least (omega (arith, n))

-- it falls
pub left_falls : (empty : Option ErrorKind) (most : Option ℕ) (count more before after n : ℕ) → IsBounded empty most → IsBelow most count →
    IsOneMore most count more → ((empty ≡ None) ⊎ (0 < n)) → before ≡ n + after → left empty most more after < left empty most count before
left_falls (Some kind) most count more before after n b h o (inl e) r = absurd (cc (e))
left_falls (Some kind) most count more before after n b h o (inr p) r = omega (arith, p, r)
left_falls None (Some m) count more before after n b h o p r = omega (arith, h, o)
left_falls None None count more before after n b h o p r = absurd b
