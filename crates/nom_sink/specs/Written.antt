-- Sinks, and the effect of a writer's call on what they hold.
use Rattle.std.specs.Prelude.{◌≡◌, ℕ, ◌+◌, ◌-◌, ◌<◌, ◌≤◌, List, ◌++◌, length, take, drop, Result, Ok, Err}
use Rattle.nom_sink.specs.declared.error.WriteError.{WriteError}
use Rattle.nom_sink.specs.declared.error.WriteError.TheVariants.{OutOfMemory, Full, TooLong, Mismatch}

-- what there may be too little of
pub data Lack : Type 0 where
  OfMemory : Lack
  OfSpace : Lack

-- the error for it
abbrev pub lack_error : Lack → WriteError
lack_error OfMemory = OutOfMemory
lack_error OfSpace = Full

-- What a sink is: the items that it holds, for how many it has room in all, what it has too little of where it has no room, and the name of
-- the loan by which it holds a caller's slice, or 0.
pub record SinkModel (S A : Type 0) : Type 0 where
  pub items : S → List A
  pub room : S → ℕ
  pub lack : Lack
  pub loan : S → ℕ

-- a sink that holds no slice of a caller's
abbrev pub no_loan : {S : Type 0} → S → ℕ
no_loan s = 0

-- the items from a place on, up to a middle, moved behind those that follow them
abbrev pub moved_behind : {A : Type 0} → (start middle : ℕ) → List A → List A
moved_behind start middle xs = take start xs ++ (drop (middle - start) (drop start xs) ++ take (middle - start) (drop start xs))

-- where a part begins, for how many items in all there is room, and what lacks where there is none
pub record Space : Type 0 where
  pub lack : Lack
  pub room : ℕ
  pub start : ℕ

-- the space after some items
abbrev pub space_after : {A : Type 0} → Space → List A → Space
space_after s xs = record { lack = s.lack; room = s.room; start = s.start + length xs }

-- the space after what a sink holds
abbrev pub space_at : {A : Type 0} (lack : Lack) (room : ℕ) (items : List A) → Space
space_at lack room items = record { lack = lack; room = room; start = length items }

-- The sink holds a form of the value more. Or it holds what it did, and there is a reason, by how many items it held and for how many it
-- had room, at the call or later.
abbrev pub Written : {S A : Type 0} → (List A → Type 0) → (Space → WriteError → Type 0) → SinkModel S A → (old new : S) →
    Result (Unit {0}) WriteError → Type 0
Written {A = A} Form Fails m old new (Ok _) = (xs : List A) × (m.items new ≡ m.items old ++ xs) × Form xs
Written Form Fails m old new (Err e) = (m.items new ≡ m.items old) × ((room : ℕ) × (m.room old ≤ room) ×
    Fails (space_at m.lack room (m.items old)) e)

-- there is no room for that many items more
abbrev pub LacksRoom : (count : ℕ) → Space → WriteError → Type 0
LacksRoom count s e = (e ≡ lack_error s.lack) × (s.room < s.start + count)

-- an error for want of room
abbrev pub IsWantOfRoom : WriteError → Type 0
IsWantOfRoom OutOfMemory = Unit {0}
IsWantOfRoom Full = Unit {0}
IsWantOfRoom (TooLong n) = ⊥
IsWantOfRoom (Mismatch n) = ⊥

-- the error, with its place that many items before
abbrev pub moved_back : (count : ℕ) → WriteError → WriteError
moved_back count OutOfMemory = OutOfMemory
moved_back count Full = Full
moved_back count (TooLong n) = TooLong (n - count)
moved_back count (Mismatch n) = Mismatch (n - count)
