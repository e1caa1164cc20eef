-- Lemmas on the split of an input after its run.
use Rattle.std.proofs.Common.{◌≡◌, ℕ, ◌-◌, ◌<◌, ◌≤◌, max, cond, ◌⊎◌, Bool, true, false, Ok, Option, Some, None, List, [], ◌∷◌, length, refl}
use Rattle.std.proofs.Common.{sym, ap, subst, arith, inl, inr}
use Rattle.std.specs.Prelude as Std
use Rattle.std.specs.List.{All}
use Rattle.std.proofs.lemmas.List.Elements.{All-nil}
use Rattle.nom_internal.specs.Prelude.{Needed, PResult, Refuses, Modes, Model, InputLaws, items_len, Stops, Slice, IsModelledBy, front_seen, leaf_meaning}
use Rattle.nom_internal.specs.Prelude.{ShowsMeaning}
use Rattle.nom_error.specs.declared.answer.Err as Answer
use Rattle.nom_traits.specs.Splits.{IsRunLength, IsRunEmpty, FrontBuilt, Splits}
use Rattle.nom_internal.proofs.Shown.{accepted, undecided, refused, built_error}
use Rattle.nom_bytes.specs.ParsedRuns.{IsEnough, IsRunSlice, runs}

-- what ends a run with no bound
stops_ends : {A : Type 0} (Ends Fails : A → Type 0) → ((x : A) → Ends x → Fails x) → (xs : List A) → Stops Ends xs → Stops (λ x. ⊥ ⊎ Fails x) xs
stops_ends Ends Fails f [] h = tt
stops_ends Ends Fails f (x ∷ xs) h = inr (f x h)

enough_items : {A : Type 0} (item_len : A → ℕ) (wanted : Bool) (xs : List A) (n : ℕ) → items_len item_len xs ≡ n → (wanted ≡ true → 0 < n) →
    cond wanted 1 0 ≤ length xs
enough_items item_len false xs n e h = omega arith
enough_items item_len true [] n e h = absurd (omega (arith, e, h refl))
enough_items item_len true (x ∷ xs) n e h = omega arith

none_enough : (wanted : Bool) (after : ℕ) → wanted ≡ true → IsEnough (cond wanted 1 0) None 0 after → ⊥
none_enough true after e (inl h) = omega (arith, h)
none_enough true after e (inr h) = h.0
none_enough false after e h = absurd (cc (e))

one_lacks : (wanted : Bool) (n : ℕ) → Some 1 ≡ Some (max 1 (cond wanted 1 0 - n))
one_lacks true n = let one : 1 ≡ max 1 (1 - n) = omega arith in ap Some one
one_lacks false n = let one : 1 ≡ max 1 (0 - n) = omega arith in ap Some one

module _ {I A : Type 0} (w : Model I A) (l : InputLaws w) (Meets Ends : A → Type 0) (Test : A → Bool → Type 0) (meets : (x : A) → Meets x → Test x true)
    (ends : (x : A) → Ends x → Test x false) where
  abbrev items_of : (s : Bool) (i : I) (n : ℕ) → IsRunLength w Meets Ends s i n → Slice w
  items_of s i n r = record { items = r.run; mark = w.mark i }

  abbrev run_of : (s : Bool) (i : I) (n : ℕ) (r : IsRunLength w Meets Ends s i n) → IsRunSlice w Test None s i n (items_of s i n r)
  run_of s i n r = record {
    first = record { rest = r.rest; whole = r.is_run.whole; length_is = r.length_is; mark_is = refl };
    meets = λ k d p. meets _ (r.is_run.meets k d p);
    bounded = tt;
    stops = stops_ends Ends (λ x. Test x false) ends r.rest r.is_run.stops;
    followed = r.followed;
  }

  abbrev no_run : (s : Bool) (i : I) → IsRunEmpty w Meets Ends s i → IsRunSlice w Test None s i 0 (record { items = []; mark = w.mark i })
  no_run s i r = record {
    first = record { rest = w.elements i; whole = refl; length_is = refl; mark_is = refl };
    meets = All-nil (λ x. Test x true);
    bounded = tt;
    stops = stops_ends Ends (λ x. Test x false) ends (w.elements i) r.stops;
    followed = r.followed;
  }

  module _ {E : Type 0} (wanted : Bool) (Blames : I → E → Type 0) (Grows : Type 0) (mode : Modes) (i : I) where
    abbrev Shows : PResult I I E → Type 0
    Shows r = ShowsMeaning w (IsModelledBy w) (leaf_meaning Blames Grows (runs w Test None (cond wanted 1 0))) mode i r

    -- a split after the run, where one item is wanted at least or none, shows the run's meaning, whatever its premise
    pub split_shown : (IsRefusal : Answer.Err E (Option E) Needed → Type 0) →
        ((e : Answer.Err E (Option E) Needed) → IsRefusal e → Refuses (Blames i) Grows mode.errors e) →
        (r : PResult I I E) →
        Splits w Meets Ends mode.streaming i wanted (FrontBuilt w mode.outputs) IsRefusal r → Shows r
    split_shown IsRefusal refuses (Ok p) h =
        let run = run_of mode.streaming i h.0 h.1 in
        let built = built_error mode.outputs _ _ p.1 (λ v f. front_seen w l i h.0 v (items_of mode.streaming i h.0 h.1) f run.first) h.4 in
        accepted (items_of mode.streaming i h.0 h.1) h.3 (run, inl (enough_items w.item_len wanted h.1.run h.0 h.1.length_is h.2)) built
    split_shown IsRefusal refuses (Std.Err e) (inl h) =
        let all : All (λ x. Test x true) (w.elements i) = λ k d p. meets _ (h.0.1 k d p) in
        subst (λ f. Shows (Std.Err f)) (sym h.1.2) (undecided h.1.1 (h.0.0, (all, tt, one_lacks wanted (items_len w.item_len (w.elements i)))))
    split_shown IsRefusal refuses (Std.Err e) (inr h) =
        refused (refuses e h.2) (0, record { items = []; mark = w.mark i }, no_run mode.streaming i h.1, none_enough wanted (length (w.elements i)) h.0)
