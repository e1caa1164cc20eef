-- The place after bytes, as a reader counts.
use Rattle.std.specs.Prelude.{◌≡◌, ℕ, ◌+◌, Bool, true, false, cond, nat_eq, List, [], ◌∷◌, ◌++◌, length, take, refl}
use Rattle.std.proofs.Common.{arith, sym, ◌∙◌, ap, subst, append_assoc}
use Rattle.std.proofs.Math.Seq.{take-append_seam}
use Rattle.std.proofs.lemmas.List.Sums.{sum_by-cons}
use Rattle.nom_traits.specs.Input.{Model, IsSuffixOf}
use Rattle.nom_search.specs.Reads.{read_all, ReadsBytes}
use Rattle.nom_located.specs.Located.{Place, step, past_bytes, IsAfter, line_ends, located_model}
use Rattle.nom_located.specs.laws.LocatedLaws.{length_read, moved_read, past_append, past_offset}

more_ends : (b : ℕ) (bs : List ℕ) → line_ends (b ∷ bs) ≡ cond (nat_eq b 10) 1 0 + line_ends bs
more_ends b bs = sum_by-cons (λ c. cond (nat_eq c 10) 1 0) b bs

step_line : (p : Place) (b : Bool) → (step p b).line ≡ p.line + cond b 1 0
step_line p true = refl
step_line p false = omega arith

past_line : (p : Place) (bs : List ℕ) → (past_bytes p bs).line ≡ p.line + line_ends bs
past_line p [] = omega arith
past_line p (b ∷ bs) = omega (arith, past_line (step p (nat_eq b 10)) bs, step_line p (nat_eq b 10), more_ends b bs)

none_ends : (b : Bool) (n : ℕ) → cond b 1 0 + n ≡ 0 → (b ≡ false) × (n ≡ 0)
none_ends true n h = absurd (omega (arith, h))
none_ends false n h = (refl, omega (arith, h))

past_none : (p : Place) (bs : List ℕ) → line_ends bs ≡ 0 → (past_bytes p bs).column ≡ p.column + length bs
past_none p [] h = omega arith
past_none p (b ∷ bs) h =
    let none = none_ends (nat_eq b 10) (line_ends bs) (sym (more_ends b bs) ∙ h) in
    ap (λ c. (past_bytes (step p c) bs).column) none.0 ∙ omega (arith, past_none (step p false) bs none.1)

past_last : (p : Place) (before after : List ℕ) → line_ends after ≡ 0 → (past_bytes p (before ++ (10 ∷ after))).column ≡ 1 + length after
past_last p before after h = ap (λ q. q.column) (past_append p before (10 ∷ after)) ∙ past_none (step (past_bytes p before) true) after h

pub is_after : (p : Place) (bs : List ℕ) → IsAfter p bs (past_bytes p bs)
is_after p bs = record {
  offset_is = past_offset p bs;
  line_is = past_line p bs;
  column_is = λ before after e h. ap (λ cs. (past_bytes p cs).column) e ∙ past_last p before after h;
  column_in_line = past_none p bs;
}

read_append : {A : Type 0} (read : A → List ℕ) (xs ys : List A) → read_all read (xs ++ ys) ≡ read_all read xs ++ read_all read ys
read_append read [] ys = refl
read_append read (x ∷ xs) ys = ap (λ l. read x ++ l) (read_append read xs ys) ∙ sym (append_assoc (read x) (read_all read xs) (read_all read ys))

module _ {I A : Type 0} (w : Model I A) (read : A → List ℕ) {bytes : I → List ℕ} (reads : ReadsBytes w bytes read) {S X : Type 0} (fragment : S → I)
    (at : S → Place) (label : S → X) where
  -- the bytes of the items before a rest are the first bytes of the whole
  bytes_before : (x y : S) (n : ℕ) → w.IsKnown (fragment x) → (q : IsSuffixOf (located_model fragment at label read w) x n y) →
      read_all read q.front ≡ take n (bytes (fragment x))
  bytes_before x y n h q =
      let whole : bytes (fragment x) ≡ read_all read q.front ++ read_all read (w.elements (fragment y)) = reads.whole (fragment x) h
      ∙ (ap (read_all read) q.whole ∙ read_append read q.front (w.elements (fragment y))) in
      let size : n ≡ length (read_all read q.front) = sym q.length_is ∙ sym (length_read w read reads q.front) in
      sym (ap (take n) whole ∙ (ap (λ k. take k (read_all read q.front ++ read_all read (w.elements (fragment y)))) size
      ∙ take-append_seam (read_all read q.front) (read_all read (w.elements (fragment y)))))

  pub rest_after : (x y : S) (n : ℕ) → w.IsKnown (fragment x) → IsSuffixOf (located_model fragment at label read w) x n y →
      IsAfter (at x) (take n (bytes (fragment x))) (at y)
  rest_after x y n h q =
      let bs = bytes_before x y n h q in
      let there : at y ≡ past_bytes (at x) (take n (bytes (fragment x))) = ap (λ m. m.0.0) q.mark_is ∙ (ap (λ m. m.0) (moved_read read (at x) (label x) q.front)
      ∙ ap (past_bytes (at x)) bs) in
      subst (IsAfter (at x) (take n (bytes (fragment x)))) (sym there) (is_after (at x) (take n (bytes (fragment x))))
