-- Ends of lines, found by a search.
use Rattle.std.specs.Prelude.{◌≡◌, ℕ, zero, suc, ◌+◌, ◌-◌, ◌<◌, ◌≤◌, Bool, true, false, nat_eq, List, length, drop, slice_index, refl, Some, None}
use Rattle.std.proofs.Common.{arith, ◌∙◌, ap, subst}
use Rattle.std.proofs.lemmas.List.{drop_more, drop_all}
use Rattle.memchr.specs.Find.{IsFirst, Nowhere, Passes, is_byte}
use Rattle.nom_located.specs.Located.{Place, FitsPlace, place, step, past_bytes}

no_end : (b : Bool) → ¬ (b ≡ true) → b ≡ false
no_end true h = absurd (h refl)
no_end false h = refl

same : (line : ℕ) {o q c d : ℕ} → o ≡ q → c ≡ d → place o line c ≡ place q line d
same line {q = q} {c = c} e f = ap (λ n. place n line c) e ∙ ap (λ n. place q line n) f

module _ (bs : List ℕ) where
  past_one : (p : Place) (i : ℕ) (b : Bool) → i < length bs → nat_eq (slice_index bs i) 10 ≡ b →
      past_bytes p (drop i bs) ≡ past_bytes (step p b) (drop (i + 1) bs)
  past_one p i b h e = ap (past_bytes p) (drop_more bs i 0 h) ∙ ap (λ c. past_bytes (step p c) (drop (i + 1) bs)) e

  same_place : (line column : ℕ) {o q i j : ℕ} → o ≡ q → i ≡ j → past_bytes (place o line column) (drop i bs) ≡ past_bytes (place q line column) (drop j bs)
  same_place line column {o = o} {j = j} e f = ap (λ n. past_bytes (place o line column) (drop n bs)) f
      ∙ ap (λ n. past_bytes (place n line column) (drop j bs)) e

  -- up to the next end of a line, and past that
  pub past_line : (n : ℕ) (p : Place) (i : ℕ) → i + n < length bs → Nowhere (Passes (is_byte 10) bs) i (i + n) → Passes (is_byte 10) bs (i + n) →
      past_bytes p (drop i bs) ≡ past_bytes (place (p.offset + (n + 1)) (p.line + 1) 1) (drop (i + (n + 1)) bs)
  past_line zero p i h none here = past_one p i true (omega (arith, h)) (subst (Passes (is_byte 10) bs) (omega arith) here) ∙ same_place (p.line + 1)
      1 (omega arith) (omega arith)
  past_line (suc n) p i h none here =
      let first = past_one p i false (omega (arith, h)) (no_end _ (none i (omega arith) (omega arith))) in
      let others = past_line n (step p false) (i + 1) (omega (arith, h)) (λ k low high. none k (omega arith) (omega arith))
      (subst (Passes (is_byte 10) bs) (omega arith) here) in
      first ∙ (others ∙ same_place (p.line + 1) 1 (omega arith) (omega arith))

  -- bytes that end no line
  pub past_run : (n : ℕ) (p : Place) (i : ℕ) → i + n ≡ length bs → Nowhere (Passes (is_byte 10) bs) i (length bs) →
      past_bytes p (drop i bs) ≡ place (p.offset + n) p.line (p.column + n)
  past_run zero p i h none = ap (past_bytes p) (drop_all i bs (omega (arith, h))) ∙ same p.line (omega arith) (omega arith)
  past_run (suc n) p i h none =
      let first = past_one p i false (omega (arith, h)) (no_end _ (none i (omega arith) (omega (arith, h)))) in
      let others = past_run n (step p false) (i + 1) (omega (arith, h)) (λ k low high. none k (omega arith) high) in
      first ∙ (others ∙ same p.line (omega arith) (omega arith))

  -- from a place on, past the next end of a line
  pub past_end : (offset line column i k : ℕ) → IsFirst (Passes (is_byte 10) bs) i (length bs) (Some k) →
      past_bytes (place (offset + i) line column) (drop i bs) ≡ past_bytes (place (offset + (k + 1)) (line + 1) 1) (drop (k + 1) bs)
  past_end offset line column i k h =
      let low = h.0.low in
      let at : k ≡ i + (k - i) = omega (arith, low) in
      let none = subst (Nowhere (Passes (is_byte 10) bs) i) at h.0.before in
      past_line (k - i) (place (offset + i) line column) i (omega (arith, low, h.0.high)) none (subst (Passes (is_byte 10) bs) at h.1)
      ∙ same_place (line + 1) 1 (omega (arith, low)) (omega (arith, low))

  -- from a place on, where no line ends any more
  pub past_all : (offset line column i : ℕ) → i ≤ length bs → IsFirst (Passes (is_byte 10) bs) i (length bs) None →
      past_bytes (place (offset + i) line column) (drop i bs) ≡ place (offset + length bs) line (column + (length bs - i))
  past_all offset line column i le none = past_run (length bs - i) (place (offset + i) line column) i (omega arith) none ∙ same line (omega arith) refl

pub fits_end : (offset line column i k len : ℕ) → i ≤ k → k < len → FitsPlace (place (offset + i) line column) (len - i) →
    FitsPlace (place (offset + (k + 1)) (line + 1) 1) (len - (k + 1))
fits_end offset line column i k len low high h = record {
  fits = omega (arith, h.fits);
  line_from = omega arith;
  line_to = omega (arith, h.line_to);
  column_from = omega arith;
  column_to = omega arith;
}
