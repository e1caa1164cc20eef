-- Lemmas on the expectations where a part is missing.
use Rattle.std.proofs.Common.{arith, ◌≡◌, ℕ, zero, suc, ◌-◌, ◌<◌, Bool, false, List, [], ◌∷◌, length, take, drop, Result, Ok, Err, IfOk}
use Rattle.std.proofs.Common.{◌∙◌, ap, subst, sym, inl, inr}
use Rattle.std.proofs.lemmas.List.{length-drop}
use Rattle.std.proofs.Math.Seq.{take-length}
use Rattle.std.specs.Prelude.{◌⊎◌, ◌||◌, if◌then◌else◌, MatchResult, slice_index_or}
use Rattle.std.specs.Borrow.{Bor}
use Rattle.nom_report.specs.declared.value.Report.{Report}
use Rattle.nom_report.specs.Around.{around}
use Rattle.nom_report.specs.Kept.{AddsExpectation, Joins, Kept, just, kept}
use Rattle.nom_report.specs.Left.{slice_place}
use Rattle.nom_report.specs.Reports.{IsFurthest, IsInside, IsLabelled, Wants}
use Rattle.nom_report.specs.Wanted.{Wanted, WantedChar, WantedKind, WantedLabel}
use Rattle.nom_json_run.specs.declared.bracket.Bracket.{Bracket}
use Rattle.nom_json_run.specs.declared.bracket.Bracket.TheVariants.{Array, Object}
use Rattle.nom_json_run.specs.declared.bracket.Fault.{Fault}
use Rattle.nom_json_run.specs.declared.bracket.Missing as Part
use Rattle.nom_json_run.specs.Json.{closing, opening}
use Rattle.nom_json_run.specs.Report.{IsWanted, JoinsOf, TellsFault, Wanting, before_is, or_closing}

abbrev Place : Type 0
Place = Bor (List ℕ)

only : (a b : Wanted) (i : ℕ) → i < 1 → b ≡ slice_index_or (a ∷ []) i b → b ≡ a
only a b zero h e = e
only a b (suc i) h e = absurd (omega (arith, h))

added : (a b : Wanted) (m both c : Kept) → (b ≡ a → ⊥) → AddsExpectation (just a) b c → both ≡ c → m.wanted ≡ both.wanted → m.more ≡ both.more || false →
    m ≡ record { wanted = a ∷ b ∷ []; more = false }
added a b m both c d (AddsExpectation.IsKnown among e) s w o = absurd (d (only a b among.0 among.1.0 among.1.1))
added a b m both c d (AddsExpectation.HasRoom new room e) s w o =
    let make : List Wanted → Bool → Kept = λ xs y. record { wanted = xs; more = y } in
    let same = s ∙ e in
    ap (λ xs. make xs m.more) (w ∙ ap (λ k. k.wanted) same) ∙ ap (make (a ∷ b ∷ [])) (o ∙ ap (λ k. k.more || false) same)
added a b m both c d (AddsExpectation.IsLeftOut new full e) s w o = absurd (omega (arith, full))

joined : (a b : Wanted) (k l m : Kept) → k ≡ just a → l ≡ just b → (b ≡ a → ⊥) → Joins k l m → m ≡ record { wanted = a ∷ b ∷ []; more = false }
joined a b k l m p q d j =
    let i : Joins (just a) (just b) m = subst (λ z. Joins z (just b) m) p (subst (λ z. Joins k z m) q j) in
    added a b m i.both i.added.0 d i.added.1 i.added.2 i.wanted_is i.more_is

-- two things are wanted at one place
both_want : (place : Place) (a b : Wanted) (x y e : Report Place) → Wanting place (a ∷ []) x → Wanting place (b ∷ []) y → (b ≡ a → ⊥) →
    IsFurthest slice_place x y e → Wanting place (a ∷ b ∷ []) e
both_want place a b x y e p q d (IsFurthest.FirstGotFurther further same) =
    absurd (omega (arith, further, ap slice_place (q.at_is ∙ sym p.at_is)))
both_want place a b x y e p q d (IsFurthest.SecondGotFurther further same) =
    absurd (omega (arith, further, ap slice_place (q.at_is ∙ sym p.at_is)))
both_want place a b x y e p q d (IsFurthest.GotAsFar w) = record {
  at_is = w.at_is ∙ p.at_is;
  expected_is = joined a b (kept x.expected) (kept y.expected) (kept e.expected) p.expected_is q.expected_is d w.expected_is;
  inside_is = ap around w.inside_is ∙ p.inside_is;
  all_inside = ap (λ i. i.more) w.inside_is ∙ p.all_inside;
}

of_ok : {E : Type 0} (place : Place) (ws : List Wanted) (x : Result (Report Place) E) (s : Report Place) → x ≡ Ok s → IfOk x (Wanting place ws) →
    Wanting place ws s
of_ok place ws x s e h = subst (λ z. IfOk z (Wanting place ws)) e h

pub either_wants : {E : Type 0} (place : Place) (a b : Wanted) (x y r : Result (Report Place) E) → (b ≡ a → ⊥) → IfOk x (Wanting place (a ∷ [])) →
    IfOk y (Wanting place (b ∷ [])) → IfOk r (JoinsOf x y) → IfOk r (Wanting place (a ∷ b ∷ []))
either_wants place a b x y (Ok e) d p q h =
    both_want place a b h.0 h.1 e (of_ok place (a ∷ []) x h.0 h.2 p) (of_ok place (b ∷ []) y h.1 h.3 q) d h.4
either_wants place a b x y (Err e) d p q h = tt

-- of what the functions of a report give
pub char_wants : {E : Type 0} (place : Place) (c : ℕ) (r : Result (Report Place) E) → MatchResult r (Wants place (WantedChar c)) (λ _. ⊥) →
    IfOk r (Wanting place (WantedChar c ∷ []))
char_wants place c (Ok e) w = record { at_is = w.at_is; expected_is = w.expected_is; inside_is = w.inside_is; all_inside = w.all_inside }
char_wants place c (Err e) w = tt

name_wants : (place : Place) (name : List ℕ) (it : Wanted) (a e : Report Place) → Wants place it a →
    IsLabelled slice_place place name a e ⊎ IsInside slice_place place name a e → Wanting place (WantedLabel name ∷ []) e
name_wants place name it a e w (inl l) = record {
  at_is = l.at_is ∙ w.at_is;
  expected_is = l.expected_is;
  inside_is = ap around l.inside_is ∙ w.inside_is;
  all_inside = ap (λ i. i.more) l.inside_is ∙ w.all_inside;
}
name_wants place name it a e w (inr i) = absurd (omega (arith, i.something_taken, ap slice_place w.at_is))

pub named_wants : {E : Type 0} (place : Place) (name : List ℕ) (it : Wanted) (a : Report Place) → Wants place it a → (r : Result (Report Place) E) →
    MatchResult r (λ e. IsLabelled slice_place place name a e ⊎ IsInside slice_place place name a e) (λ _. ⊥) →
    IfOk r (Wanting place (WantedLabel name ∷ []))
named_wants place name it a w (Ok e) h = name_wants place name it a e w h
named_wants place name it a w (Err e) h = tt

pub joins_of : {E : Type 0} (x y : Result (Report Place) E) (a b : Report Place) → x ≡ Ok a → y ≡ Ok b → (r : Result (Report Place) E) →
    MatchResult r (IsFurthest slice_place a b) (λ _. ⊥) → IfOk r (JoinsOf x y)
joins_of x y a b p q (Ok e) f = (a, b, p, q, f)
joins_of x y a b p q (Err e) f = tt

-- a fault is told
pub wanted_there : {E : Type 0} (bytes : List ℕ) (fault : Fault) (missing : Part.Missing) (ws : List Wanted) (place : Place) →
    fault.missing ≡ missing → IsWanted (take fault.at bytes) missing ws → (r : Result (Report Place) E) → IfOk r (Wanting place ws) →
    place.now ≡ drop fault.at bytes → IfOk r (TellsFault bytes fault)
wanted_there bytes fault missing ws place m i (Ok x) w e = record {
  wanted = ws;
  is_wanted = subst (λ z. IsWanted (take fault.at bytes) z ws) (sym m) i;
  place = place;
  place_is = e;
  wants = w;
}
wanted_there bytes fault missing ws place m i (Err x) w e = tt

-- the closing bracket is wanted where the opening one stands before
pub closing_wanted : (o : Bracket) (before : List ℕ) (wanted : Wanted) (t : Bool) → before_is (opening o) before ≡ t →
    wanted ∷ (if t then WantedChar (closing o) ∷ [] else []) ≡ or_closing before o wanted
closing_wanted o before wanted t e = ap (λ u. wanted ∷ (if u then WantedChar (closing o) ∷ [] else [])) (sym e)

-- a closing bracket is no comma
abbrev char_of : Wanted → ℕ
char_of (WantedChar c) = c
char_of (WantedKind k) = 0
char_of (WantedLabel name) = 0

pub no_comma : (bracket : Bracket) → WantedChar (closing bracket) ≡ WantedChar 44 → ⊥
no_comma Array e = let f : 93 ≡ 44 = ap char_of e in omega (arith, f)
no_comma Object e = let f : 125 ≡ 44 = ap char_of e in omega (arith, f)

-- all that stands from a place on
pub all_after : (bytes : List ℕ) (at : ℕ) → take (length bytes - at) (drop at bytes) ≡ drop at bytes
all_after bytes at = ap (λ n. take n (drop at bytes)) (sym (length-drop at bytes)) ∙ take-length (drop at bytes)
