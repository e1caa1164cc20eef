-- Steps through a text, by the brackets that lie open.
use Rattle.std.specs.Prelude.{◌≡◌, ℕ, ◌+◌, ◌==◌, ◌<◌, ◌≤◌, ◌↔◌, true, false, List, [], ◌∷◌, length, drop, refl}
use Rattle.std.proofs.Common.{arith, sym, ap, subst, inl, inr, length-drop}
use Rattle.nom_json_run.specs.Json.{JsonInside, JsonItem, JsonItems, JsonValue, after_spaces, begins, closing, opening, rest}
use Rattle.nom_json_run.specs.Json.JsonValue.{brackets}
use Rattle.nom_json_run.specs.Json.JsonInside.{nothing, some}
use Rattle.nom_json_run.specs.Json.JsonItems.{last, more}
use Rattle.nom_json_run.specs.Scans.{BeginsAs, EndsNowhere, FailsAt, FailsFor}
use Rattle.nom_json_run.specs.Walk.{ClosesAll, ClosesAfter, ClosesInside, Further, IsKey, Stepped}
use Rattle.nom_json_run.specs.declared.bracket.Bracket.{Bracket}
use Rattle.nom_json_run.specs.declared.bracket.Bracket.TheVariants.{Array, Object}
use Rattle.nom_json_run.specs.declared.bracket.Awaits.TheVariants.{Value}
use Rattle.nom_json_run.specs.declared.bracket.Fault.{Fault}
use Rattle.nom_json_run.specs.declared.bracket.Step.TheVariants.{Go}
use Rattle.nom_json_run.proofs.Alike.{before, both, byte_passed, fails_map, first_there, for_all}
use Rattle.nom_json_run.proofs.Values.{bracket_from, differ, item_none, one_head}

opened_to : (o : Bracket) (inner : List Bracket) (i : List ℕ) → begins (opening o) i ≡ true → ClosesAfter (JsonValue i) inner →
    ClosesInside o inner (after_spaces (rest i))
opened_to o inner i e (r, v, c) =
    let found = bracket_from o i r e v in
    (found.0, found.1, subst (ClosesAll inner) found.2 c)

pub opened : (o : Bracket) (inner : List Bracket) (i j : List ℕ) → begins (opening o) i ≡ true → j ≡ after_spaces (rest i) →
    ClosesAfter (JsonValue i) inner ↔ ClosesInside o inner j
opened o inner i j e s = (
  λ h. subst (ClosesInside o inner) (sym s) (opened_to o inner i e h),
  λ h. let g = subst (ClosesInside o inner) s h in (after_spaces g.0, brackets o g.0 e g.1 refl, g.2),
)

items_none : (o : Bracket) (i j : List ℕ) → begins (closing o) i ≡ true → JsonItems o i j → ⊥
items_none o i j e (last it) = item_none o i e j it
items_none o i j e (more k it b its) = item_none o i e k it

closed_to : (o : Bracket) (inner : List Bracket) (i r : List ℕ) → begins (closing o) i ≡ true → JsonInside o i r → ClosesAll inner (after_spaces r) →
    ClosesAll inner (after_spaces (rest i))
closed_to o inner i r e (nothing b f) c = subst (λ xs. ClosesAll inner (after_spaces xs)) f c
closed_to o inner i r e (some j its b f) c = absurd (items_none o i j e its)

-- where the closing bracket follows the opening one
pub closed_at_once : (o : Bracket) (inner : List Bracket) (i j : List ℕ) → begins (closing o) i ≡ true → j ≡ after_spaces (rest i) →
    ClosesInside o inner i ↔ ClosesAll inner j
closed_at_once o inner i j e s = (
  λ h. subst (ClosesAll inner) (sym s) (closed_to o inner i h.0 e h.1 h.2),
  λ h. (rest i, nothing e refl, subst (ClosesAll inner) s h),
)

items_to : (o : Bracket) (inner : List Bracket) (i j : List ℕ) → JsonItems o i j → begins (closing o) j ≡ true → ClosesAll inner (after_spaces (rest j)) →
    ClosesAfter (JsonItem o i) (o ∷ inner)
items_to o inner i j (last it) e c = (j, it, (j, inl refl, e, c))
items_to o inner i j (more k it b its) e c = (k, it, (j, inr (b, its), e, c))

items_from : (o : Bracket) (i r j : List ℕ) → JsonItem o i r → Further o r j → JsonItems o i j
items_from o i r j it (inl e) = last (subst (JsonItem o i) e it)
items_from o i r j it (inr f) = more r it f.0 f.1

inside_to : (o : Bracket) (inner : List Bracket) (i r : List ℕ) → begins (closing o) i ≡ false → JsonInside o i r → ClosesAll inner (after_spaces r) →
    ClosesAfter (JsonItem o i) (o ∷ inner)
inside_to o inner i r n (nothing b f) c = absurd (differ (begins (closing o) i) b n)
inside_to o inner i r n (some j its e f) c = items_to o inner i j its e (subst (λ xs. ClosesAll inner (after_spaces xs)) f c)

-- where an item follows it
pub items_on : (o : Bracket) (inner : List Bracket) (i : List ℕ) → begins (closing o) i ≡ false →
    ClosesInside o inner i ↔ ClosesAfter (JsonItem o i) (o ∷ inner)
items_on o inner i n = (
  λ h. inside_to o inner i h.0 n h.1 h.2,
  λ h. let c = h.2 in (rest c.0, some c.0 (items_from o i h.0 c.0 h.1 c.1) c.2 refl, c.3),
)

-- an item that follows the opening bracket
pub item_opened : (o : Bracket) (inner : List Bracket) (bytes : List ℕ) (at item : ℕ) → at + 1 ≤ item → begins (opening o) (drop at bytes) ≡ true →
    begins (closing o) (drop item bytes) ≡ false → ((bs : List ℕ) → BeginsAs bytes item bs → drop item bs ≡ after_spaces (drop (at + 1) bs)) →
    (bs : List ℕ) → BeginsAs bytes item bs → ClosesAfter (JsonValue (drop at bs)) inner ↔ ClosesAfter (JsonItem o (drop item bs)) (o ∷ inner)
item_opened o inner bytes at item le e none follows bs s =
    let p = byte_passed (opening o) bytes at item le e follows bs s in
    both (opened o inner (drop at bs) (drop item bs) p.0 p.1)
    (items_on o inner (drop item bs) (first_there (λ b. b == closing o) bytes bs item item false (omega arith) s none))

closing_to : (o : Bracket) (inner : List Bracket) (r j : List ℕ) → begins (closing o) r ≡ true → Further o r j → ClosesAll inner (after_spaces (rest j)) →
    ClosesAll inner (after_spaces (rest r))
closing_to o inner r j e (inl p) c = subst (λ xs. ClosesAll inner (after_spaces (rest xs))) (sym p) c
closing_to Array inner r j e (inr f) c = absurd (one_head 93 44 r refl e f.0)
closing_to Object inner r j e (inr f) c = absurd (one_head 125 44 r refl e f.0)

-- after a value: the closing bracket
pub closing_on : (o : Bracket) (inner : List Bracket) (r k : List ℕ) → begins (closing o) r ≡ true → k ≡ after_spaces (rest r) →
    ClosesAll (o ∷ inner) r ↔ ClosesAll inner k
closing_on o inner r k e s = (
  λ h. subst (ClosesAll inner) (sym s) (closing_to o inner r h.0 e h.1 h.3),
  λ h. (r, inl refl, e, subst (ClosesAll inner) s h),
)

comma_head : (o : Bracket) (r : List ℕ) → begins 44 r ≡ true → begins (closing o) r ≡ true → ⊥
comma_head Array r b e = one_head 44 93 r refl b e
comma_head Object r b e = one_head 44 125 r refl b e

comma_to : (o : Bracket) (inner : List Bracket) (r j : List ℕ) → begins 44 r ≡ true → Further o r j → begins (closing o) j ≡ true →
    ClosesAll inner (after_spaces (rest j)) → ClosesAfter (JsonItem o (after_spaces (rest r))) (o ∷ inner)
comma_to o inner r j b (inl p) e c = absurd (comma_head o r b (subst (λ xs. begins (closing o) xs ≡ true) (sym p) e))
comma_to o inner r j b (inr f) e c = items_to o inner (after_spaces (rest r)) j f.1 e c

-- a comma, and an item after it
pub comma_on : (o : Bracket) (inner : List Bracket) (r i : List ℕ) → begins 44 r ≡ true → i ≡ after_spaces (rest r) →
    ClosesAll (o ∷ inner) r ↔ ClosesAfter (JsonItem o i) (o ∷ inner)
comma_on o inner r i b s = (
  λ h. subst (λ xs. ClosesAfter (JsonItem o xs) (o ∷ inner)) (sym s) (comma_to o inner r h.0 b h.1 h.2 h.3),
  λ h. let c = h.2 in (c.0, inr (b, subst (λ xs. JsonItems o xs c.0) s (items_from o i h.0 c.0 h.1 c.1)), c.2, c.3),
)

neither_to : (o : Bracket) (r j : List ℕ) → begins (closing o) r ≡ false → begins 44 r ≡ false → Further o r j → begins (closing o) j ≡ true → ⊥
neither_to o r j n m (inl p) e = differ (begins (closing o) r) (subst (λ xs. begins (closing o) xs ≡ true) (sym p) e) n
neither_to o r j n m (inr f) e = differ (begins 44 r) f.0 m

pub neither : (o : Bracket) (inner : List Bracket) (r : List ℕ) → begins (closing o) r ≡ false → begins 44 r ≡ false → ClosesAll (o ∷ inner) r → ⊥
neither o inner r n m h = neither_to o r h.0 n m h.1 h.2

-- an item is a value after its name
pub key_on : (o : Bracket) (inner : List Bracket) (i k : List ℕ) → ((r : List ℕ) → JsonItem o i r ↔ JsonValue k r) →
    ClosesAfter (JsonItem o i) inner ↔ ClosesAfter (JsonValue k) inner
key_on o inner i k same = (λ h. (h.0, (same h.0).0 h.1, h.2), λ h. (h.0, (same h.0).1 h.1, h.2))

-- an item at a place, in a step from an earlier one
pub item_goes : (bytes : List ℕ) (Before : List ℕ → Type 0) (o : Bracket) (inner lie : List Bracket) (at item stop : ℕ) → at < item → lie ≡ o ∷ inner →
    ((bs : List ℕ) → BeginsAs bytes item bs → Before (drop at bs) ↔ ClosesAfter (JsonItem o (drop item bs)) (o ∷ inner)) → IsKey bytes o item stop →
    Stepped bytes Before at lie (Go stop Value)
item_goes bytes Before o inner lie at item stop less pushed same key = (
  omega (arith, less, key.begins),
  key.within,
  λ bs s. subst (λ xs. Before (drop at bs) ↔ ClosesAfter (JsonValue (drop stop bs)) xs) (sym pushed)
      (both (same bs (before bytes bs item stop key.begins s)) (key_on o (o ∷ inner) (drop item bs) (drop stop bs) (key.same bs s))),
)

pub item_stops : (bytes : List ℕ) (Before : List ℕ → Type 0) (o : Bracket) (inner : List Bracket) (at item : ℕ) (fault : Fault) → at ≤ item →
    ((bs : List ℕ) → BeginsAs bytes item bs → Before (drop at bs) ↔ ClosesAfter (JsonItem o (drop item bs)) (o ∷ inner)) →
    FailsAt bytes (λ i. EndsNowhere (JsonItem o i)) item fault → FailsFor bytes (λ i. Before i → ⊥) at fault
item_stops bytes Before o inner at item fault le same failed = for_all bytes (λ i. Before i → ⊥) at fault
    (fails_map bytes (λ i. EndsNowhere (JsonItem o i)) (λ i. Before i → ⊥) at item fault le
    (λ bs s none b. let h = (same bs s).0 b in none h.0 h.1) failed)

pub no_value : (inner : List Bracket) (i : List ℕ) → ((r : List ℕ) → JsonValue i r → ⊥) → ClosesAfter (JsonValue i) inner → ⊥
no_value inner i none h = none h.0 h.1

pub begun : (i j : List ℕ) → j ≡ i → JsonValue i [] ↔ ClosesAfter (JsonValue j) []
begun i j e = (λ h. ([], subst (λ xs. JsonValue xs []) (sym e) h, refl), λ h. subst (λ r. JsonValue i r) h.2 (subst (λ xs. JsonValue xs h.0) e h.1))

pub not_end : (bs : List ℕ) (at : ℕ) → at < length bs → drop at bs ≡ [] → ⊥
not_end bs at h e =
    let none : length (drop at bs) ≡ 0 = ap length e in
    omega (arith, h, none, length-drop at bs)
