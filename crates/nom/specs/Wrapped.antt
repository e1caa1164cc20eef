-- Inputs of a user's own type that hold another input, and a label that each front and rest keeps: the name of a file, say,
-- or nothing (`no_label`). Their model is that of what they hold, with the label as a part of the mark.
use Rattle.std.specs.Prelude.{◌≡◌, ℕ, ◌<◌, List, [], ◌++◌, length, Option, Result, Ok, Err, MatchResult}
use Rattle.std.proofs.Common.{ap, ◌∙◌}
use Rattle.nom_internal.specs.Prelude.{Needed, size_of, CompareResult, Model, InputLaws, IsBoundary, IsPrefixOf, IsSuffixOf, IsSame, Extends, IsCount, View}
use Rattle.nom_internal.specs.Prelude.{CompareLaws}

labelled : {M L : Type 0} (l : L) (m n : M) → m ≡ n → ◌≡◌ {A = M × L} (m, l) (n, l)
labelled {M} {L} l m n e =
    let with : M → M × L = λ k. (k, l) in
    ap with e

both_are : {M L : Type 0} {m n : M} {k l : L} → m ≡ n → k ≡ l → ◌≡◌ {A = M × L} (m, k) (n, l)
both_are {M} {L} {m = m} {n = n} {k = k} {l = l} e f =
    let pair : M → L → M × L = λ x y. (x, y) in
    ap (λ x. pair x k) e ∙ ap (λ y. pair n y) f

-- no label
abbrev pub no_label : {S : Type 0} → S → Unit {0}
no_label _ = tt

-- the view of what is held, with the label
abbrev pub wrapped_view : {S J L : Type 0} → (S → J) → (S → L) → View J → View S
wrapped_view {L = L} held label v = record { Value = v.Value × L; value = λ x. (v.value (held x), label x) }

module _ {S J A L : Type 0} (held : S → J) (label : S → L) (w : Model J A) where
  abbrev pub wrapped_model : Model S A
  wrapped_model = record {
    elements = λ x. w.elements (held x);
    item_len = w.item_len;
    Mark = w.Mark × L;
    mark = λ x. (w.mark (held x), label x);
    mark_after = λ m xs. (w.mark_after m.0 xs, m.1);
    IsKnown = λ x. w.IsKnown (held x);
    IsMore = w.IsMore;
  }

  pub wrapped_lawful : InputLaws w → InputLaws wrapped_model
  wrapped_lawful l = record {
    positive = l.positive;
    mark_none = λ m. labelled m.1 (w.mark_after m.0 []) m.0 (l.mark_none m.0);
    mark_more = λ m xs ys. labelled m.1 (w.mark_after m.0 (xs ++ ys)) (w.mark_after (w.mark_after m.0 xs) ys) (l.mark_more m.0 xs ys);
  }

  pub wrapped_same : (x y : S) → IsSame wrapped_model x y → IsSame w (held x) (held y)
  wrapped_same x y h = record { elements_are = h.elements_are; mark_is = ap (λ m. m.0) h.mark_is }

  pub same_held : (x y : S) → IsSame w (held x) (held y) → label x ≡ label y → IsSame wrapped_model x y
  same_held x y h e = record { elements_are = h.elements_are; mark_is = both_are h.mark_is e }

  pub held_place : (x : S) (n : ℕ) → IsBoundary wrapped_model x n → IsBoundary w (held x) n
  held_place x n p = record { front = p.front; rest = p.rest; whole = p.whole; length_is = p.length_is }

  pub place_held : (x : S) (n : ℕ) → IsBoundary w (held x) n → IsBoundary wrapped_model x n
  place_held x n p = record { front = p.front; rest = p.rest; whole = p.whole; length_is = p.length_is }

  pub front_held : (x y : S) (n : ℕ) → IsPrefixOf w (held x) n (held y) → label y ≡ label x → IsPrefixOf wrapped_model x n y
  front_held x y n p e = record { known = p.known; rest = p.rest; whole = p.whole; length_is = p.length_is; mark_is = both_are p.mark_is e }

  pub rest_held : (x y : S) (n : ℕ) → IsSuffixOf w (held x) n (held y) → label y ≡ label x → IsSuffixOf wrapped_model x n y
  rest_held x y n p e = record { known = p.known; front = p.front; whole = p.whole; length_is = p.length_is; mark_is = both_are p.mark_is e }

  pub count_held : (x : S) (count n : ℕ) → IsCount w (held x) count n → IsCount wrapped_model x count n
  unfolding place_held
  count_held x count n p = record { place = place_held x n p.place; count_is = p.count_is }

  extends_held : (x y : S) → Extends wrapped_model x y → Extends w (held x) (held y)
  extends_held x y e = record { more = e.more; added = e.added; whole = e.whole; mark_is = ap (λ m. m.0) e.mark_is }

  pub wrapped_comparing : {T : Type 0} {size : T → ℕ} {Compares : T → List A → CompareResult → Type 0} → CompareLaws w size Compares →
      CompareLaws wrapped_model size Compares
  wrapped_comparing {size = size} c = record {
    one = λ t x r s. c.one t (held x) r s;
    place = λ t x k h. place_held x (size t) (c.place t (held x) k h);
    shorter = λ t x k h. c.shorter t (held x) k h;
    ok_stays = λ t x y h k e r. c.ok_stays t (held x) (held y) h k (extends_held x y e) r;
    error_stays = λ t x y h k e r. c.error_stays t (held x) (held y) h k (extends_held x y e) r;
  }

  pub counts_wrapped : (x : S) (count : ℕ) (lack : ℕ → List A → Option ℕ) (r : Result ℕ Needed) →
      MatchResult r (IsCount w (held x) count) (λ k. (length (w.elements (held x)) < count) × (size_of k ≡ lack count (w.elements (held x)))) →
      MatchResult r (IsCount wrapped_model x count) (λ k. (length (w.elements (held x)) < count) × (size_of k ≡ lack count (w.elements (held x))))
  counts_wrapped x count lack (Ok n) h = count_held x count n h
  counts_wrapped x count lack (Err k) h = h

  pub wrapped_views : (v : View J) → ((i j : J) → IsSame w i j → v.value i ≡ v.value j) → (x y : S) → IsSame wrapped_model x y →
      (wrapped_view held label v).value x ≡ (wrapped_view held label v).value y
  wrapped_views v views x y h = both_are (views (held x) (held y) (wrapped_same x y h)) (ap (λ m. m.1) h.mark_is)

  pub wrapped_injective : (v : View J) → ((i j : J) → v.value i ≡ v.value j → IsSame w i j) → (x y : S) →
      (wrapped_view held label v).value x ≡ (wrapped_view held label v).value y → IsSame wrapped_model x y
  wrapped_injective v tells x y e = same_held x y (tells (held x) (held y) (ap (λ p. p.0) e)) (ap (λ p. p.1) e)
