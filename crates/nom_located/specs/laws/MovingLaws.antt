-- The laws of inputs whose mark moves.
use Rattle.std.specs.Prelude.{◌≡◌, ℕ, ◌+◌, ◌<◌, List, [], ◌∷◌, ◌++◌, length, Option, Result, Ok, Err, MatchResult, refl}
use Rattle.std.proofs.Common.{arith, sym, ◌∙◌, ap, subst}
use Rattle.nom_error.specs.Answers.{size_of}
use Rattle.nom_error.specs.declared.answer.Needed.{Needed}
use Rattle.nom_traits.specs.Input.{Model, InputLaws, items_len, input_len, IsBoundary, IsPrefixOf, IsSuffixOf, IsSame, Extends}
use Rattle.nom_traits.specs.Rests.{items_len-append}
use Rattle.nom_traits.specs.Slices.{IsCount}
use Rattle.nom_traits.specs.View.{View}
use Rattle.nom_traits.specs.Compares.{CompareLaws}
use Rattle.nom_traits.specs.declared.compare.CompareResult.{CompareResult}
use Rattle.nom_search.specs.Reads.{ReadsBytes}
use Rattle.nom_search.specs.Substrings.{FindLaws}
use Rattle.nom_located.specs.Moving.{Moving, Fitting, moved, moving_model, moving_view, at_any_place}

pub moved_append : {M A : Type 0} (step : M → A → M) (m : M) (xs ys : List A) → moved step m (xs ++ ys) ≡ moved step (moved step m xs) ys
moved_append step m [] ys = refl
moved_append step m (x ∷ xs) ys = moved_append step (step m x) xs ys

pub both_are : {M L : Type 0} {m n : M} {k l : L} → m ≡ n → k ≡ l → ◌≡◌ {A = M × L} (m, k) (n, l)
both_are {M} {L} {m = m} {n = n} {k = k} {l = l} e f =
    let pair : M → L → M × L = λ x y. (x, y) in
    ap (λ x. pair x k) e ∙ ap (λ y. pair n y) f

pub always_fitting : {M A : Type 0} (item_len : A → ℕ) (step : M → A → M) → Fitting item_len step at_any_place
always_fitting item_len step = record { after_item = λ _ _ _ _. tt; before_less = λ _ _ _ _ _. tt }

module _ {M A : Type 0} (item_len : A → ℕ) (step : M → A → M) (Fits : M → ℕ → Type 0) (f : Fitting item_len step Fits) where
  -- a mark that fits goes on to fit after items
  pub fits_after : (m : M) (xs : List A) (n all : ℕ) → all ≡ items_len item_len xs + n → Fits m all → Fits (moved step m xs) n
  fits_after m [] n all e h = subst (Fits m) (omega (arith, e)) h
  fits_after m (x ∷ xs) n all e h = fits_after (step m x) xs n (items_len item_len xs + n) refl (f.after_item m x (items_len item_len xs + n)
      (subst (Fits m) (omega (arith, e)) h))

module _ {S I A : Type 0} (m : Moving S I A) (w : Model I A) where
  pub moving_lawful : InputLaws w → InputLaws (moving_model m w)
  moving_lawful l = record {
    positive = l.positive;
    mark_none = λ k. both_are refl (l.mark_none k.1);
    mark_more = λ k xs ys. both_are (moved_append m.step k.0 xs ys) (l.mark_more k.1 xs ys);
  }

  pub moving_same : (x y : S) → IsSame (moving_model m w) x y → IsSame w (m.held x) (m.held y)
  moving_same x y h = record { elements_are = h.elements_are; mark_is = ap (λ k. k.1) h.mark_is }

  pub same_moving : (x y : S) → IsSame w (m.held x) (m.held y) → m.mark x ≡ m.mark y → IsSame (moving_model m w) x y
  same_moving x y h e = record { elements_are = h.elements_are; mark_is = both_are e h.mark_is }

  -- the places are those of what is held
  pub place_moving : (x : S) (n : ℕ) → IsBoundary w (m.held x) n → IsBoundary (moving_model m w) x n
  place_moving x n p = record { front = p.front; rest = p.rest; whole = p.whole; length_is = p.length_is }

  module _ (f : Fitting w.item_len m.step m.Fits) where
    pub fits_front : (x : S) (n : ℕ) (j : I) → m.Fits (m.mark x) (input_len w (m.held x)) → IsPrefixOf w (m.held x) n j → m.Fits (m.mark x) (input_len w j)
    fits_front x n j h q =
        let e = ap (items_len w.item_len) q.whole ∙ items_len-append w.item_len (w.elements j) q.rest in
        f.before_less (m.mark x) (input_len w (m.held x)) (input_len w j) (omega (arith, e)) h

    -- a front has the mark of the whole
    pub front_moving : (x y : S) (n : ℕ) → m.Fits (m.mark x) (input_len w (m.held x)) → IsPrefixOf w (m.held x) n (m.held y) → m.mark y ≡ m.mark x →
        IsPrefixOf (moving_model m w) x n y
    front_moving x y n h p e = record {
      known = (p.known, subst (λ z. m.Fits z (input_len w (m.held y))) (sym e) (fits_front x n (m.held y) h p));
      rest = p.rest;
      whole = p.whole;
      length_is = p.length_is;
      mark_is = both_are e p.mark_is;
    }

    pub fits_rest : (x : S) (n : ℕ) (j : I) → m.Fits (m.mark x) (input_len w (m.held x)) → (q : IsSuffixOf w (m.held x) n j) →
        m.Fits (moved m.step (m.mark x) q.front) (input_len w j)
    fits_rest x n j h q =
        let e = ap (items_len w.item_len) q.whole ∙ items_len-append w.item_len q.front (w.elements j) in
        fits_after w.item_len m.step m.Fits f (m.mark x) q.front (input_len w j) (input_len w (m.held x)) e h

    -- a rest has the mark after the items that stand before it
    pub rest_moving : (x y : S) (n : ℕ) → m.Fits (m.mark x) (input_len w (m.held x)) → (q : IsSuffixOf w (m.held x) n (m.held y)) →
        m.mark y ≡ moved m.step (m.mark x) q.front → IsSuffixOf (moving_model m w) x n y
    rest_moving x y n h q e = record {
      known = (q.known, subst (λ z. m.Fits z (input_len w (m.held y))) (sym e) (fits_rest x n (m.held y) h q));
      front = q.front;
      whole = q.whole;
      length_is = q.length_is;
      mark_is = both_are e q.mark_is;
    }

  pub count_moving : (x : S) (count n : ℕ) → IsCount w (m.held x) count n → IsCount (moving_model m w) x count n
  unfolding place_moving
  count_moving x count n p = record { place = place_moving x n p.place; count_is = p.count_is }

  pub counts_moving : (x : S) (count : ℕ) (lack : ℕ → List A → Option ℕ) (r : Result ℕ Needed) →
      MatchResult r (IsCount w (m.held x) count) (λ k. (length (w.elements (m.held x)) < count) × (size_of k ≡ lack count (w.elements (m.held x)))) →
      MatchResult r (IsCount (moving_model m w) x count) (λ k. (length (w.elements (m.held x)) < count) × (size_of k ≡ lack count (w.elements (m.held x))))
  counts_moving x count lack (Ok n) h = count_moving x count n h
  counts_moving x count lack (Err k) h = h

  extends_moving : (x y : S) → Extends (moving_model m w) x y → Extends w (m.held x) (m.held y)
  extends_moving x y e = record { more = e.more; added = e.added; whole = e.whole; mark_is = ap (λ k. k.1) e.mark_is }

  pub moving_comparing : {T : Type 0} {size : T → ℕ} {Compares : T → List A → CompareResult → Type 0} → CompareLaws w size Compares →
      CompareLaws (moving_model m w) size Compares
  moving_comparing {size = size} c = record {
    one = λ t x r s k. c.one t (m.held x) r s k.0;
    place = λ t x k h. place_moving x (size t) (c.place t (m.held x) k.0 h);
    shorter = λ t x k h. c.shorter t (m.held x) k.0 h;
    ok_stays = λ t x y h k e r. c.ok_stays t (m.held x) (m.held y) h.0 k.0 (extends_moving x y e) r;
    error_stays = λ t x y h k e r. c.error_stays t (m.held x) (m.held y) h.0 k.0 (extends_moving x y e) r;
  }

  pub moving_finding : {T : Type 0} {Finds : T → List A → Option ℕ → Type 0} → FindLaws w Finds → FindLaws (moving_model m w) Finds
  moving_finding f = record {
    one = λ t x r s k. f.one t (m.held x) r s k.0;
    place = λ t x n k h. place_moving x n (f.place t (m.held x) n k.0 h);
    found_stays = λ t x y n h k e r. f.found_stays t (m.held x) (m.held y) n h.0 k.0 (extends_moving x y e) r;
  }

  pub moving_views : (v : View I) → ((i j : I) → IsSame w i j → v.value i ≡ v.value j) → (x y : S) → IsSame (moving_model m w) x y →
      (moving_view m v).value x ≡ (moving_view m v).value y
  moving_views v views x y h = both_are (ap (λ k. k.0) h.mark_is) (views (m.held x) (m.held y) (moving_same x y h))

  pub moving_injective : (v : View I) → ((i j : I) → v.value i ≡ v.value j → IsSame w i j) → (x y : S) →
      (moving_view m v).value x ≡ (moving_view m v).value y → IsSame (moving_model m w) x y
  moving_injective v tells x y e = same_moving x y (tells (m.held x) (m.held y) (ap (λ p. p.1) e)) (ap (λ p. p.0) e)

  pub moving_reads : {bytes : I → List ℕ} {read : A → List ℕ} → ReadsBytes w bytes read → ReadsBytes (moving_model m w) (λ x. bytes (m.held x)) read
  moving_reads r = record { whole = λ x h. r.whole (m.held x) h.0; size = r.size; alone = r.alone }
