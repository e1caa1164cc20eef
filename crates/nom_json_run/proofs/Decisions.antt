-- How far a function of lists reads, as the bytes up to a place decide.
use Rattle.std.specs.Prelude.{◌≡◌, ℕ, ◌+◌, ◌≤◌, Bool, true, false, if◌then◌else◌, List, length, drop, Option, None, Some}
use Rattle.std.proofs.Common.{arith, ◌∙◌, ap, refl, length-drop, sym}
use Rattle.std.proofs.lemmas.List.{drop-drop}
use Rattle.nom_json_run.specs.Json.{Leaves, first_is, rest, and_then}
use Rattle.nom_json_run.specs.Scans.{BeginsAs, EndsNowhere, EndsOnly}
use Rattle.nom_json_run.proofs.Alike.{before, first_there, later}

-- what is left from a place on, or nothing, by whether a part is accepted up to it
abbrev pub left : Bool → ℕ → List ℕ → Option (List ℕ)
left true n bs = Some (drop n bs)
left false n bs = None

-- The bytes up to the place n, and the one there, decide it.
pub record Decides (after : List ℕ → Option (List ℕ)) (accepted : Bool) (xs : List ℕ) (n : ℕ) : Type 0 where
  pub within : n ≤ length xs
  pub same : (bs : List ℕ) → BeginsAs xs n bs → after bs ≡ left accepted n bs

left_after : (t : Bool) (n m : ℕ) (bs : List ℕ) → left t m (drop n bs) ≡ left t (n + m) bs
left_after true n m bs = ap Some (drop-drop m n bs)
left_after false n m bs = refl

module _ {a b : List ℕ → Option (List ℕ)} {t : Bool} {xs : List ℕ} {n : ℕ} where
  -- the same of another function that is equal
  pub decides_as : ((bs : List ℕ) → a bs ≡ b bs) → Decides b t xs n → Decides a t xs n
  decides_as same h = record { within = h.within; same = λ bs s. same bs ∙ h.same bs s }

  -- one part after another
  pub decides_then : {m : ℕ} → Decides a true xs n → Decides b t (drop n xs) m → Decides (λ bs. and_then (a bs) b) t xs (n + m)
  decides_then {m} h g = record {
    within = omega (arith, h.within, g.within, length-drop n xs);
    same = λ bs s.
        let le : n ≤ n + m = omega arith in
        ap (λ o. and_then o b) (h.same bs (before xs bs n (n + m) le s)) ∙ (g.same (drop n bs) (later xs bs n m s) ∙ left_after t n m bs);
  }

pub decides_not : (b : List ℕ → Option (List ℕ)) {a : List ℕ → Option (List ℕ)} {xs : List ℕ} {n : ℕ} → Decides a false xs n →
    Decides (λ bs. and_then (a bs) b) false xs n
decides_not b h = record { within = h.within; same = λ bs s. ap (λ o. and_then o b) (h.same bs s) }

-- a part that its first byte begins, by a test of it, and another where it doesn't
abbrev pub choose : (ℕ → Bool) → (next other : List ℕ → Option (List ℕ)) → List ℕ → Option (List ℕ)
choose test next other bs = if first_is test bs then next (rest bs) else other bs

abbrev pub led : (ℕ → Bool) → (List ℕ → Option (List ℕ)) → List ℕ → Option (List ℕ)
led test next = choose test next (λ _. None)

pub if_some : (t : Bool) (o : Option (List ℕ)) (r : List ℕ) → (if t then o else None) ≡ Some r → t ≡ true
if_some true o r e = refl
if_some false o r e = absurd (cc (e))

pub if_not : (t : Bool) (r : List ℕ) → (if t then Some r else None) ≡ None → t ≡ false
if_not true r e = absurd (cc (e))
if_not false r e = refl

if_then : (t : Bool) (o : Option (List ℕ)) (g : List ℕ → Option (List ℕ)) → (if t then and_then o g else None) ≡ and_then (if t then o else None) g
if_then true o g = refl
if_then false o g = refl

module _ (test : ℕ → Bool) (next : List ℕ → Option (List ℕ)) {xs : List ℕ} {n : ℕ} where
  pub led_first : Decides (led test next) true xs n → first_is test xs ≡ true
  led_first h = if_some (first_is test xs) (next (rest xs)) (drop n xs) (h.same xs refl)

  module _ (other : List ℕ → Option (List ℕ)) where
    pub chosen : {t : Bool} → first_is test xs ≡ true → Decides (led test next) t xs n → Decides (choose test next other) t xs n
    chosen e h = record {
      within = h.within;
      same = λ bs s.
          let le : 0 ≤ n = omega arith in
          let first = first_there test xs bs 0 n true le s e in
          ap (λ u. if u then next (rest bs) else other bs) first ∙ (sym (ap (λ u. if u then next (rest bs) else None) first) ∙ h.same bs s);
    }

    pub chosen_other : {t : Bool} → first_is test xs ≡ false → Decides other t xs n → Decides (choose test next other) t xs n
    chosen_other e h = record {
      within = h.within;
      same = λ bs s.
          let le : 0 ≤ n = omega arith in
          ap (λ u. if u then next (rest bs) else other bs) (first_there test xs bs 0 n false le s e) ∙ h.same bs s;
    }

  pub led_then : (g : List ℕ → Option (List ℕ)) {t : Bool} → Decides (λ bs. and_then (led test next bs) g) t xs n →
      Decides (led test (λ bs. and_then (next bs) g)) t xs n
  led_then g h = decides_as (λ bs. if_then (first_is test bs) (next (rest bs)) g) h

pub none_taken : (xs : List ℕ) → Decides Some true xs 0
none_taken xs = record { within = omega arith; same = λ bs s. refl }

-- a relation ends at a list alone, or nowhere
abbrev pub EndsIf : Bool → (List ℕ → Type 0) → List ℕ → Type 0
EndsIf true Ends j = EndsOnly Ends j
EndsIf false Ends j = EndsNowhere Ends

-- The bytes up to the place n, and the one there, decide where a part of them ends that begins with them, or that none does.
pub record Finds (Part : List ℕ → List ℕ → Type 0) (accepted : Bool) (xs : List ℕ) (n : ℕ) : Type 0 where
  pub within : n ≤ length xs
  pub ends : (bs : List ℕ) → BeginsAs xs n bs → EndsIf accepted (Part bs) (drop n bs)

ends_left : (t : Bool) (n : ℕ) (bs : List ℕ) (o : Option (List ℕ)) → o ≡ left t n bs → EndsIf t (λ r. o ≡ Some r) (drop n bs)
ends_left true n bs o e = λ r. (λ f. cc (e, f), λ f. cc (e, f))
ends_left false n bs o e = λ r f. cc (e, f)

pub decides_finds : {after : List ℕ → Option (List ℕ)} {t : Bool} {xs : List ℕ} {n : ℕ} → Decides after t xs n → Finds (Leaves after) t xs n
decides_finds {after} {t} {n = n} h = record { within = h.within; ends = λ bs s. ends_left t n bs (after bs) (h.same bs s) }
