-- The items of inputs, one by one, each with its place.
use Rattle.std.proofs.Common.{◌≡◌, ℕ, ◌+◌, ◌≤◌, ◌++◌, Option, Iter, Some, None, List, [], ◌∷◌, length, sym, ◌∙◌, ap, subst, refl, arith, append_assoc}
use Rattle.std.proofs.Common.{append-nil, length-append}
use Rattle.std.specs.Prelude.{encode_utf8, encode_utf8_all}
use Rattle.std.specs.Char.{len_utf8}
use Rattle.std.specs.Iterator.{AlwaysYields}
use Rattle.std.specs.Iterator.Adapters.{enumerate_source, enumerate_count, enumerate_steps}
use Rattle.std.specs.declared.iter.Copied.{Copied}
use Rattle.std.specs.declared.iter.Enumerate.{Enumerate}
use Rattle.std.proofs.iter.Yields.{copies}
use Rattle.std.proofs.lemmas.Fn.{fronts}
use Rattle.std.proofs.lemmas.Iterator.{YieldsList}
use Rattle.std.proofs.lemmas.Iterator.Consumers.{YieldsList-from_enumerate}
use Rattle.std.specs.List.{All, enumerate_from}
use Rattle.std.specs.Str.Iter.{char_indices_rest, char_indices_offset, char_indices_steps}
use Rattle.std.specs.declared.str.CharIndices.{CharIndices}
use Rattle.std.proofs.lemmas.List.Elements.{All-nil, All-cons, All-append}
use Rattle.std.proofs.lemmas.Str.{encode_same, length-encode, len_utf8_bounds}
use Rattle.nom_traits.specs.Input.{Model, items_len, placed}
use Rattle.nom_traits.specs.Rests.{items_len-append}
use Rattle.nom_traits.specs.Runs.{IsPosition}

-- items of length 1 are at their indices
pub placed_ones : {A : Type 0} (n : ℕ) (xs : List A) → enumerate_from n xs ≡ placed (λ _. 1) n xs
placed_ones n [] = refl
placed_ones n (x ∷ xs) = ap (λ ys. (n, x) ∷ ys) (placed_ones (n + 1) xs)

pub slice_walk : {A : Type 0} (e : Enumerate (Copied (Iter A))) (s : Copied (Iter A)) (xs : List A) → enumerate_source e ≡ s → enumerate_count e ≡ 0 →
    AlwaysYields (copies fronts) (λ x. x) s xs → AlwaysYields (enumerate_steps (copies fronts)) (λ p. p) e (placed (λ _. 1) 0 xs)
slice_walk e s xs f n h =
    let source : YieldsList (copies fronts) (λ x. x) (enumerate_source e) xs =
    record { runs = subst (λ z. AlwaysYields (copies fronts) (λ x. x) z xs) (sym f) h } in
    subst (λ ys. AlwaysYields (enumerate_steps (copies fronts)) (λ p. p) e ys) (placed_ones 0 xs) (YieldsList-from_enumerate source n).runs

pair_same : {A : Type 0} (p : ℕ × A) (n : ℕ) (x : A) → p.0 ≡ n → p.1 ≡ x → p ≡ (n, x)
pair_same {A} p n x e f =
    let pair : ℕ → A → ℕ × A = λ a b. (a, b) in
    ap (λ a. pair a p.1) e ∙ ap (λ b. pair n b) f

-- characters are at their places
pub text_placed : (cs : List ℕ) (n : ℕ) (s : CharIndices) → encode_utf8_all cs ≡ char_indices_rest s → n ≡ char_indices_offset s →
    AlwaysYields char_indices_steps (λ p. p) s (placed len_utf8 n cs)
text_placed [] n s e f = λ x j p. omega (
  arith,
  ap length e,
  ap length p.1,
  length-append (encode_utf8 x.1) (char_indices_rest j),
  length-encode x.1,
  (len_utf8_bounds x.1).0,
)
text_placed (c ∷ cs) n s e f = (
  λ j p. omega (arith, ap length e, p.0, length-append (encode_utf8 c) (encode_utf8_all cs), length-encode c, (len_utf8_bounds c).0),
  λ x j p.
      let k = encode_same c x.1 (encode_utf8_all cs) (char_indices_rest j) (e ∙ p.1) in
      (pair_same x n c (p.0 ∙ sym f) (sym k.0), text_placed cs (n + len_utf8 c) j k.1 (omega (arith, f, p.2, length-encode x.1, ap len_utf8 k.0))),
)

module _ {I A S : Type 0} (w : Model I A) (Meets Ends : A → Type 0) (steps : S → Option A → S → Type 0) where
  -- the items that were passed all meet the test, a place lies after them, and s gives the others
  pub record IsWalking (i : I) (place : ℕ) (s : S) : Type 0 where
    pub passed : List A
    pub rest : List A
    pub whole : w.elements i ≡ passed ++ rest
    pub meets : All Meets passed
    pub place_is : place ≡ items_len w.item_len passed
    pub gives : AlwaysYields steps (λ x. x) s rest

  -- the next item
  record IsNext (i : I) (n : ℕ) (x : A) (t : S) : Type 0 where
    passed : List A
    rest : List A
    whole : w.elements i ≡ passed ++ (x ∷ rest)
    meets : All Meets passed
    place : n ≡ items_len w.item_len passed
    gives : AlwaysYields steps (λ x. x) t rest

  next_of : (i : I) (s t : S) (n : ℕ) (x : A) (passed rest : List A) → w.elements i ≡ passed ++ rest → All Meets passed → n ≡ items_len w.item_len passed →
      AlwaysYields steps (λ x. x) s rest → steps s (Some x) t → IsNext i n x t
  next_of i s t n x passed [] e h p g k = absurd (g x t k)
  next_of i s t n x passed (y ∷ rest) e h p g k =
      let r = g.1 x t k in
      record {
        passed = passed;
        rest = rest;
        whole = e ∙ ap (λ z. passed ++ (z ∷ rest)) (sym r.0);
        meets = h;
        place = p;
        gives = r.1;
      }

  next_in : (i : I) (s t : S) (n : ℕ) (x : A) → IsWalking i n s → steps s (Some x) t → IsNext i n x t
  next_in i s t n x h k = next_of i s t n x h.passed h.rest h.whole h.meets h.place_is h.gives k

  ends_of : (i : I) (s t : S) (passed rest : List A) → w.elements i ≡ passed ++ rest → All Meets passed → AlwaysYields steps (λ x. x) s rest →
      steps s None t → All Meets (w.elements i)
  ends_of i s t passed [] e h g k = subst (All Meets) (sym (e ∙ append-nil passed)) h
  ends_of i s t passed (y ∷ rest) e h g k = absurd (g.0 t k)

module _ {I A S : Type 0} {w : Model I A} {Meets Ends : A → Type 0} {steps : S → Option A → S → Type 0} where
  pub walk_begins : {i : I} {s : S} → AlwaysYields steps (λ x. x) s (w.elements i) → IsWalking w Meets Ends steps i 0 s
  walk_begins {i = i} h = record { passed = []; rest = w.elements i; whole = refl; meets = All-nil Meets; place_is = refl; gives = h }

  -- the place after the next item is within the input
  pub walk_fits : {i : I} {s : S} (t : S) {n m : ℕ} (x : A) → IsWalking w Meets Ends steps i n s → steps s (Some x) t → m ≡ w.item_len x →
      n + m ≤ items_len w.item_len (w.elements i)
  walk_fits {i = i} {s = s} t {n = n} x h k e =
      let r = next_in w Meets Ends steps i s t n x h k in
      omega (arith, r.place, e, ap (λ ys. items_len w.item_len ys) r.whole, items_len-append w.item_len r.passed (x ∷ r.rest))

  pub walk_goes_on : {i : I} {s : S} (t : S) {n m : ℕ} (x : A) → IsWalking w Meets Ends steps i n s → steps s (Some x) t → m ≡ w.item_len x → Meets x →
      IsWalking w Meets Ends steps i (n + m) t
  walk_goes_on {i = i} {s = s} t {n = n} x h k e meets =
      let r = next_in w Meets Ends steps i s t n x h k in
      record {
        passed = r.passed ++ (x ∷ []);
        rest = r.rest;
        whole = r.whole ∙ sym (append_assoc r.passed (x ∷ []) r.rest);
        meets = All-append Meets r.passed (x ∷ []) r.meets (All-cons Meets x [] meets (All-nil Meets));
        place_is = omega (arith, r.place, e, items_len-append w.item_len r.passed (x ∷ []));
        gives = r.gives;
      }

  pub walk_stops : {i : I} {s : S} (t : S) {n : ℕ} (x : A) → IsWalking w Meets Ends steps i n s → steps s (Some x) t → Ends x →
      IsPosition w Meets Ends i (Some n)
  walk_stops {i = i} {s = s} t {n = n} x h k m =
      let r = next_in w Meets Ends steps i s t n x h k in
      record {
        run = r.passed;
        item = x;
        rest = r.rest;
        is_run = record { whole = r.whole; meets = r.meets; stops = m };
        length_is = sym r.place;
      }

  pub walk_ends : {i : I} {s : S} (t : S) {n : ℕ} → IsWalking w Meets Ends steps i n s → steps s None t → IsPosition w Meets Ends i None
  walk_ends {i = i} {s = s} t h k = ends_of w Meets Ends steps i s t h.passed h.rest h.whole h.meets h.gives k
