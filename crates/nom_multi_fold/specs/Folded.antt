-- The value of a fold, as it is carried from item to item.
use Rattle.std.specs.Prelude.{◌≡◌, Option, Some, None}

-- a closure took the value and the item to the next value, and the closure stayed
abbrev pub FoldPushes : {K B R T : Type 0} → (K → Option R) → (K → B) → (B → R → T → R → Type 0) → K → T → K → Type 0
FoldPushes {R = R} value fold Gives old x new = (r : R) × (y : R) × (value old ≡ Some r) × (value new ≡ Some y) × Gives (fold old) r x y × (fold new ≡ fold old)

-- there is a value, and the closure takes any value and any item
pub record CanFold {K B R T : Type 0} (value : K → Option R) (fold : K → B) (Takes : B → R → T → Type 0) (k : K) : Type 0 where
  pub carried : R
  pub is_carried : value k ≡ Some carried
  pub takes : (r : R) (x : T) → Takes (fold k) r x

-- a first value, and the closure
pub record IsStart {K B R : Type 0} (value : K → Option R) (fold : K → B) (Inits : R → Type 0) (f : B) (k : K) : Type 0 where
  pub first : R
  pub is_first : Inits first
  pub carries : value k ≡ Some first
  pub fold_is : fold k ≡ f

-- the value that is carried, where there is a fold
abbrev pub IsCarried : {K R : Type 0} → (K → Option R) → Option K → Option R → Type 0
IsCarried value (Some k) r = r ≡ value k
IsCarried value None r = r ≡ None
