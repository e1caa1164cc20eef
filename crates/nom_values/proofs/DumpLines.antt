-- Lines of dumps.
use Rattle.std.proofs.Common.{◌≡◌, ℕ, zero, suc, ◌+◌, ◌-◌, ◌*◌, ◌^◌, ◌<◌, ◌≤◌, ◌++◌, List, [], ◌∷◌, false, length, take, drop, refl, sym, ◌∙◌, ap}
use Rattle.std.proofs.Common.{subst, arith, append_assoc, append-nil, length-drop, inl, inr}
use Rattle.std.specs.Prelude.{replicate, min, Option, Some, IfSome, option_map}
use Rattle.std.specs.Fmt.{digits, padded_integral, format_spec, char_count}
use Rattle.std.proofs.lemmas.List.{replicate-append-replicate, drop_all, drop-drop, take_all}
use Rattle.std.proofs.lemmas.Bool.{cases_lt}
use Rattle.nom_values.specs.Dumps.{offset_digits, dump_line, dump_lines, hex_dump}

-- what `{:08x}` writes
offset_padded : (ds : List ℕ) → padded_integral (format_spec 32 0 4 8 (2 ^ 64 - 1)) false [] ds ≡ replicate (8 - length ds) 48 ++ ds
unfolding padded_integral char_count
offset_padded ds =
    let same : 8 - length ds - 0 - 0 ≡ 8 - length ds = omega arith in
    ap (λ k. replicate {A = ℕ} k 48 ++ (ds ++ [])) same ∙ ap (λ l. replicate {A = ℕ} (8 - length ds) 48 ++ l) (append-nil ds)

-- a number that is written by such a hole
pub offset_written : (f : List ℕ → List ℕ) (o : Option (List ℕ)) (text : List ℕ) (n : ℕ) → o ≡ Some (digits 16 false n)
    → f (digits 16 false n) ≡ padded_integral (format_spec 32 0 4 8 (2 ^ 64 - 1)) false [] (digits 16 false n)
    → IfSome (option_map f o) (λ bs. text ≡ bs) → text ≡ offset_digits n
offset_written f o text n e g h = subst (λ (r : Option (List ℕ)). IfSome (option_map f r) (λ bs. text ≡ bs)) e h ∙ (g ∙ offset_padded (digits 16 false n))

pub blanks_more : (n : ℕ) → replicate {A = ℕ} (3 * n) 32 ++ replicate 3 32 ≡ replicate (3 * (n + 1)) 32
blanks_more n = replicate-append-replicate (3 * n) 3 32 ∙ ap (λ k. replicate {A = ℕ} k 32) (omega arith)

after : (old f g : List ℕ) {e e' : List ℕ} → e ≡ old ++ f → e' ≡ e ++ g → e' ≡ old ++ (f ++ g)
after old f g p q = q ∙ ap (λ l. l ++ g) p ∙ append_assoc old f g

-- the parts of a line, one after another
pub line_joined : (old d x b m : List ℕ) {e1 e2 e3 e4 e5 e6 e7 : List ℕ} → e1 ≡ old ++ d → e2 ≡ e1 ++ (9 ∷ []) → e3 ≡ e2 ++ x → e4 ≡ e3 ++ b →
    e5 ≡ e4 ++ (9 ∷ []) → e6 ≡ e5 ++ m → e7 ≡ e6 ++ (10 ∷ [])
    → e7 ≡ old ++ (d ++ (9 ∷ (x ++ (b ++ (9 ∷ (m ++ (10 ∷ [])))))))
line_joined old d x b m h1 h2 h3 h4 h5 h6 h7 =
    let t : List ℕ = 9 ∷ [] in
    let n : List ℕ = 10 ∷ [] in
    after old (((((d ++ t) ++ x) ++ b) ++ t) ++ m) n
    (after old ((((d ++ t) ++ x) ++ b) ++ t) m
    (after old (((d ++ t) ++ x) ++ b) t (after old ((d ++ t) ++ x) b (after old (d ++ t) x (after old d t h1 h2) h3) h4) h5) h6) h7
    ∙ ap (λ l. old ++ l) (append_assoc ((((d ++ t) ++ x) ++ b) ++ t) m n ∙ append_assoc (((d ++ t) ++ x) ++ b) t (m ++ n) ∙
    append_assoc ((d ++ t) ++ x) b (t ++ (m ++ n)) ∙ append_assoc (d ++ t) x (b ++ (t ++ (m ++ n))) ∙ append_assoc d t (x ++ (b ++ (t ++ (m ++ n)))))

lines_none : (n chunk offset : ℕ) → dump_lines n chunk offset [] ≡ []
lines_none zero chunk offset = refl
lines_none (suc n) chunk offset = refl

lines_some : (n chunk offset : ℕ) (bs : List ℕ) → 0 < length bs → dump_lines (suc n) chunk offset bs ≡ dump_line chunk offset (take chunk bs) ++
    dump_lines n chunk (offset + chunk) (drop chunk bs)
lines_some n chunk offset [] h = absurd (omega (arith, h))
lines_some n chunk offset (b ∷ bs) h = refl

module _ (chunk from : ℕ) (bs : List ℕ) where
  pub lines_start : (items : List ℕ) → items ≡ [] → items ++ dump_lines (length bs) chunk (from + 0) bs ≡ hex_dump chunk from bs
  lines_start items e =
      let same : from + 0 ≡ from = omega arith in
      ap (λ l. l ++ dump_lines (length bs) chunk (from + 0) bs) e ∙ ap (λ o. dump_lines (length bs) chunk o bs) same

  -- no byte is left
  lines_past : (n offset passed : ℕ) → length bs ≤ passed → dump_lines n chunk offset (drop passed bs) ≡ []
  lines_past n offset passed h = ap (λ l. dump_lines n chunk offset l) (drop_all passed bs h) ∙ lines_none n chunk offset

  pub lines_end : (n passed : ℕ) (items whole : List ℕ) → length bs ≤ passed → items ++ dump_lines n chunk (from + passed) (drop passed bs) ≡ whole →
      items ≡ whole
  lines_end n passed items whole h e = sym (append-nil items) ∙ ap (λ l. items ++ l) (sym (lines_past n (from + passed) passed h)) ∙ e

  -- after the next line stand the same lines, whether or not it is full
  rest_lines : (n passed m : ℕ) → passed < length bs → m ≡ min chunk (length bs - passed)
      → dump_lines n chunk (from + (passed + m)) (drop (passed + m) bs) ≡ dump_lines n chunk (from + passed + chunk) (drop chunk (drop passed bs))
  rest_lines n passed m h e =
      elim (cases_lt (length bs - passed) chunk) [
        | inl short ↦
            lines_past n (from + (passed + m)) (passed + m) (omega (arith, e, short))
            ∙ sym (ap (λ l. dump_lines n chunk (from + passed + chunk) l) (drop-drop chunk passed bs) ∙
            lines_past n (from + passed + chunk) (passed + chunk) (omega (arith, short)))
        | inr full ↦
            let same : m ≡ chunk = omega (arith, e, full) in
            let offset : from + (passed + m) ≡ from + passed + chunk = omega (arith, same) in
            ap (λ o. dump_lines n chunk o (drop (passed + m) bs)) offset
            ∙ ap (λ k. dump_lines n chunk (from + passed + chunk) (drop (passed + k) bs)) same
            ∙ ap (λ l. dump_lines n chunk (from + passed + chunk) l) (sym (drop-drop chunk passed bs))
      ]

  pub line_step : (n passed m : ℕ) (items new part whole : List ℕ) → passed < length bs → m ≡ min chunk (length bs - passed) →
      part ≡ take chunk (drop passed bs)
      → new ≡ items ++ dump_line chunk (from + passed) part → items ++ dump_lines (suc n) chunk (from + passed) (drop passed bs) ≡ whole
      → new ++ dump_lines n chunk (from + (passed + m)) (drop (passed + m) bs) ≡ whole
  line_step n passed m items new part whole h e p q w =
      let line = dump_line chunk (from + passed) (take chunk (drop passed bs)) in
      let rest = dump_lines n chunk (from + passed + chunk) (drop chunk (drop passed bs)) in
      ap (λ l. l ++ dump_lines n chunk (from + (passed + m)) (drop (passed + m) bs)) (q ∙ ap (λ l. items ++ dump_line chunk (from + passed) l) p)
      ∙ ap (λ l. (items ++ line) ++ l) (rest_lines n passed m h e)
      ∙ append_assoc items line rest
      ∙ ap (λ l. items ++ l) (sym (lines_some n chunk (from + passed) (drop passed bs) (omega (arith, h, length-drop passed bs))))
      ∙ w

  -- a line of fewer bytes than a chunk is all that is left
  pub part_is : (passed m k : ℕ) → passed < length bs → m ≡ min chunk (length bs - passed) → k ≡ m → take k (drop passed bs) ≡ take chunk (drop passed bs)
  part_is passed m k h e f =
      elim (cases_lt (length bs - passed) chunk) [
        | inl short ↦ take_all k (drop passed bs) (omega (arith, e, f, short, length-drop passed bs)) ∙
            sym (take_all chunk (drop passed bs) (omega (arith, short, length-drop passed bs)))
        | inr full ↦ ap (λ j. take j (drop passed bs)) (omega (arith, e, f, full))
      ]
