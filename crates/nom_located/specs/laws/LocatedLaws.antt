-- The laws of places.
use Rattle.std.specs.Prelude.{◌≡◌, ℕ, ◌+◌, ◌≤◌, Bool, true, false, nat_eq, List, [], ◌∷◌, ◌++◌, length, refl}
use Rattle.std.proofs.Common.{arith, sym, ◌∙◌, ap, subst, length-append}
use Rattle.nom_traits.specs.Input.{Model, InputLaws, items_len, IsPrefixOf, IsSuffixOf}
use Rattle.nom_traits.specs.Rests.{same_cut}
use Rattle.nom_search.specs.Reads.{read_all, ReadsBytes}
use Rattle.nom_located.specs.Moving.{Fitting, moved}
use Rattle.nom_located.specs.Located.{Place, place, step, past_bytes, FitsPlace, located, located_model}

pub past_append : (p : Place) (xs ys : List ℕ) → past_bytes p (xs ++ ys) ≡ past_bytes (past_bytes p xs) ys
past_append p [] ys = refl
past_append p (x ∷ xs) ys = past_append (step p (nat_eq x 10)) xs ys

-- a place, beside a label
pub same_label : {X : Type 0} (l : X) {p q : Place} → p ≡ q → ◌≡◌ {A = Place × X} (p, l) (q, l)
same_label {X} l e =
    let pair : Place → Place × X = λ p. (p, l) in
    ap pair e

-- the place after items is that after their bytes
pub moved_read : {A X : Type 0} (read : A → List ℕ) (p : Place) (l : X) (xs : List A) →
    ◌≡◌ {A = Place × X} (moved (λ q a. (past_bytes q.0 (read a), q.1)) (p, l) xs) (past_bytes p (read_all read xs), l)
moved_read read p l [] = refl
moved_read read p l (x ∷ xs) = moved_read read (past_bytes p (read x)) l xs ∙ same_label l (sym (past_append p (read x) (read_all read xs)))

step_offset : (p : Place) (b : Bool) → (step p b).offset ≡ p.offset + 1
step_offset p true = refl
step_offset p false = refl

pub past_offset : (p : Place) (bs : List ℕ) → (past_bytes p bs).offset ≡ p.offset + length bs
past_offset p [] = omega arith
past_offset p (b ∷ bs) = omega (arith, past_offset (step p (nat_eq b 10)) bs, step_offset p (nat_eq b 10))

pub step_fits : (p : Place) (b : Bool) (len : ℕ) → FitsPlace p (1 + len) → FitsPlace (step p b) len
step_fits p true len h = record {
  fits = omega (arith, h.fits);
  line_from = omega arith;
  line_to = omega (arith, h.line_to);
  column_from = omega
      arith;
  column_to = omega arith;
}
step_fits p false len h = record {
  fits = omega (arith, h.fits);
  line_from = h.line_from;
  line_to = omega (arith, h.line_to);
  column_from = omega
      arith;
  column_to = omega (arith, h.column_to);
}

pub past_fits : (p : Place) (bs : List ℕ) (len all : ℕ) → all ≡ length bs + len → FitsPlace p all → FitsPlace (past_bytes p bs) len
past_fits p [] len all e h = subst (FitsPlace p) (omega (arith, e)) h
past_fits p (b ∷ bs) len all e h = past_fits (step p (nat_eq b 10)) bs len (length bs + len) refl (step_fits p (nat_eq b 10) (length bs + len)
    (subst (FitsPlace p) (omega (arith, e)) h))

pub fewer_fits : (p : Place) (n k : ℕ) → k ≤ n → FitsPlace p n → FitsPlace p k
fewer_fits p n k le h = record {
  fits = omega (arith, h.fits, le);
  line_from = h.line_from;
  line_to = h.line_to;
  column_from = h.column_from;
  column_to = h.column_to;
}

module _ {I A : Type 0} (w : Model I A) (read : A → List ℕ) {bytes : I → List ℕ} (reads : ReadsBytes w bytes read) where
  pub located_fitting : {X : Type 0} → Fitting {M = Place × X} w.item_len (λ p a. (past_bytes p.0 (read a), p.1)) (λ p n. FitsPlace p.0 n)
  located_fitting = record {
    after_item = λ p a n h. past_fits p.0 (read a) n (w.item_len a + n) (ap (λ k. k + n) (sym (reads.size a))) h;
    before_less = λ p n k le h. fewer_fits p.0 n k le h;
  }

  pub length_read : (xs : List A) → length (read_all read xs) ≡ items_len w.item_len xs
  length_read [] = refl
  length_read (x ∷ xs) = omega (arith, length-append (read x) (read_all read xs), reads.size x, length_read xs)

  module _ {S X : Type 0} (fragment : S → I) (at : S → Place) (label : S → X) where
    -- the place after the bytes of a front, and the label
    pub place_after : InputLaws w → (x : S) (n : ℕ) (f j : I) (bs : List ℕ) (line column : ℕ) → IsPrefixOf w (fragment x) n f →
        (q : IsSuffixOf w (fragment x) n j) → bs ≡ bytes f → place ((at x).offset + length bs) line column ≡ past_bytes (at x) bs →
        ◌≡◌ {A = Place × X} (place ((at x).offset + n) line column, label x) (moved (located fragment at label read).step (at x, label x) q.front)
    place_after l x n f j bs line column p q b e =
        let cut = same_cut w.item_len l.positive (w.elements f) p.rest q.front (w.elements j) (sym p.whole ∙ q.whole) (p.length_is ∙ sym q.length_is) in
        let read_is : bs ≡ read_all read q.front = b ∙ (reads.whole f p.known ∙ ap (read_all read) cut.0) in
        let size : n ≡ length bs = sym q.length_is ∙ (sym (length_read q.front) ∙ ap length (sym read_is)) in
        same_label (label x) (ap (λ k. place ((at x).offset + k) line column) size ∙ (e ∙ ap (past_bytes (at x)) read_is))
        ∙ sym (moved_read read (at x) (label x) q.front)

    -- how far a rest lies from an input is the length of what stands before it
    pub rest_offset : (x y : S) (n : ℕ) → IsSuffixOf (located_model fragment at label read w) x n y → (at y).offset ≡ (at x).offset + n
    rest_offset x y n p = ap (λ m. (m.0.0).offset) p.mark_is ∙ (ap (λ q. (q.0).offset) (moved_read read (at x) (label x) p.front)
        ∙ omega (arith, past_offset (at x) (read_all read p.front), length_read p.front, p.length_is))

    -- a rest has the label of the whole
    pub rest_label : (x y : S) (n : ℕ) → IsSuffixOf (located_model fragment at label read w) x n y → label y ≡ label x
    rest_label x y n p = ap (λ m. m.0.1) p.mark_is ∙ ap (λ q. q.1) (moved_read read (at x) (label x) p.front)
