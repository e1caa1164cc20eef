-- Runs in texts: those of the bytes, where ASCII tells what is in a run.
use Rattle.std.proofs.Common.{◌≡◌, ℕ, zero, suc, ◌+◌, ◌<◌, ◌++◌, Bool, true, false, not, List, [], ◌∷◌, Bor, length, take, get_or, refl, sym, ◌∙◌, ap, subst}
use Rattle.std.proofs.Common.{arith, inl, inr}
use Rattle.std.specs.Prelude.{Some, None, Option, chars, encode_utf8, encode_utf8_all, IsUtf8, nat_le, nat_lt, ◌||◌, ◌==◌}
use Rattle.std.specs.Int.{is_in_range}
use Rattle.std.specs.Str.{IsAscii}
use Rattle.std.specs.List.{All, list_all}
use Rattle.std.proofs.Math.Seq.{get_or-append_seam, take-append_seam}
use Rattle.std.proofs.lemmas.Bool.{and_parts, or_cases, leb-true, ltb-true, eqb-true, cases_Bool, false≢true, not-false}
use Rattle.std.proofs.lemmas.List.{append_cancel_left, length-append}
use Rattle.std.proofs.lemmas.List.Elements.{All-head, All-tail, All-same, All-nil, All-cons}
use Rattle.std.proofs.lemmas.Str.{IsUtf8-from_ascii, IsUtf8-take, IsCharBoundary-before_ascii, chars-append, chars-IsAscii, encode_ascii, encodes-chars}
use Rattle.std.proofs.lemmas.Str.{encodes-append, encodes-IsAscii, byte_from_char}
use Rattle.nom_traits.specs.Bytes.{bytes_model}
use Rattle.nom_traits.specs.Text.{text_model, items_len-text}
use Rattle.nom_traits.specs.Rests.{items_len-ones}
use Rattle.nom_traits.specs.Runs.{EndsAt, IsPosition}
use Rattle.nom_traits.specs.Classes.{is_alpha_code, is_dec_digit_code, is_hex_digit_code, is_space_code, is_newline_code, is_multispace_code}
use Rattle.nom_traits.specs.Classes.{has_code, is_listed, of_ascii, IsIn, IsInside, IsNotIn}
use Rattle.nom_traits.specs.declared.character.AsciiClass.{AsciiClass}
use Rattle.nom_traits.specs.declared.character.AsciiClass.TheVariants as Class
use Rattle.nom_traits.specs.declared.character.CodeSet.{CodeSet}
use Rattle.nom_traits.specs.declared.character.CodeSet.TheVariants as Set

in_range : (low high c : ℕ) → high < 128 → is_in_range low high c ≡ true → c < 128
in_range low high c h e = omega (arith, h, leb-true c high (and_parts (nat_le low c) (nat_le c high) e).1)

either_small : (x y : Bool) (c : ℕ) → (x ≡ true → c < 128) → (y ≡ true → c < 128) → (x || y) ≡ true → c < 128
either_small x y c f g h = elim (or_cases x y h) [ inl k ↦ f k | inr k ↦ g k ]

same_small : (k c : ℕ) → k < 128 → (c == k) ≡ true → c < 128
same_small k c h e = omega (arith, h, eqb-true c k e)

small_alpha : (c : ℕ) → is_alpha_code c ≡ true → c < 128
small_alpha c = either_small (is_in_range 65 90 c) (is_in_range 97 122 c) c (in_range 65 90 c (omega arith)) (in_range 97 122 c (omega arith))

small_digit : (c : ℕ) → is_dec_digit_code c ≡ true → c < 128
small_digit c = in_range 48 57 c (omega arith)

small_hex : (c : ℕ) → is_hex_digit_code c ≡ true → c < 128
small_hex c =
    either_small (is_dec_digit_code c) (is_in_range 65 70 c || is_in_range 97 102 c) c (small_digit c)
    (either_small (is_in_range 65 70 c) (is_in_range 97 102 c) c (in_range 65 70 c (omega arith)) (in_range 97 102 c (omega arith)))

small_space : (c : ℕ) → is_space_code c ≡ true → c < 128
small_space c = either_small (c == 32) (c == 9) c (same_small 32 c (omega arith)) (same_small 9 c (omega arith))

small_multispace : (c : ℕ) → is_multispace_code c ≡ true → c < 128
small_multispace c =
    either_small (is_space_code c) (is_newline_code c || c == 13) c (small_space c)
    (either_small (is_newline_code c) (c == 13) c (same_small 10 c (omega arith)) (same_small 13 c (omega arith)))

-- the classes are ASCII
small_class : (class : AsciiClass) (c : ℕ) → IsInside class c → c < 128
small_class Class.Alpha c h = small_alpha c h
small_class Class.Digit c h = small_digit c h
small_class Class.HexDigit c h = small_hex c h
small_class Class.OctDigit c h = in_range 48 55 c (omega arith) h
small_class Class.BinDigit c h = in_range 48 49 c (omega arith) h
small_class Class.Alphanumeric c h = either_small (is_alpha_code c) (is_dec_digit_code c) c (small_alpha c) (small_digit c) h
small_class Class.Space c h = small_space c h
small_class Class.MultiSpace c h = small_multispace c h

-- a run under a test that ASCII characters alone pass
module _ (test : ℕ → Bool) (small : (c : ℕ) → test c ≡ true → c < 128) where
  abbrev Meets : ℕ → Type 0
  Meets c = test c ≡ true

  abbrev Ends : ℕ → Type 0
  Ends c = test c ≡ false

  run_ascii : (xs : List ℕ) → All Meets xs → IsAscii xs
  run_ascii [] h i = omega arith
  run_ascii (x ∷ xs) h zero = small x (All-head Meets x xs h)
  run_ascii (x ∷ xs) h (suc i) = run_ascii xs (All-tail Meets x xs h) i

  -- the first byte that fails the test begins a character that fails it
  begins_outside : (b : ℕ) (rest cs : List ℕ) → encode_utf8_all cs ≡ b ∷ rest → Ends b → (c : ℕ) × (ds : List ℕ) × (cs ≡ c ∷ ds) × Ends c
  begins_outside b rest [] e out = absurd (cc (e))
  begins_outside b rest (c ∷ ds) e out =
      elim (cases_Bool (test c)) [
        | inl inside ↦
            let same : b ≡ c = byte_from_char (b ∷ rest) (encode_utf8_all ds) c (sym e) (small c inside) in
            absurd (false≢true (sym out ∙ (ap test same ∙ inside)))
        | inr outside ↦ (c, ds, refl, outside)
      ]

  all_inside : (bs : List ℕ) → All Meets bs → All Meets (chars bs)
  all_inside bs h = All-same Meets (chars bs) bs (chars-IsAscii bs (run_ascii bs h)) h

  text_ends : (i j : Bor (List ℕ)) (n : ℕ) → j.now ≡ i.now → IsUtf8 i.now → EndsAt bytes_model Meets Ends j n →
      EndsAt text_model Meets Ends i n
  text_ends i j n same u e =
      let run = e.run in
      let r = e.is_run in
      let ascii = run_ascii run r.meets in
      let whole : i.now ≡ run ++ (e.item ∷ e.rest) = sym same ∙ r.whole in
      let parts : chars i.now ≡ run ++ chars (e.item ∷ e.rest) =
      ap chars whole ∙ (chars-append run (e.item ∷ e.rest) (IsUtf8-from_ascii run ascii) ∙
      ap (λ z. z ++ chars (e.item ∷ e.rest)) (chars-IsAscii run ascii)) in
      let bytes : run ++ encode_utf8_all (chars (e.item ∷ e.rest)) ≡ run ++ (e.item ∷ e.rest) =
      sym (encodes-append run (chars (e.item ∷ e.rest)) ∙ ap (λ z. z ++ encode_utf8_all (chars (e.item ∷ e.rest))) (encodes-IsAscii run ascii)) ∙
      (sym (ap encode_utf8_all parts) ∙ (encodes-chars i.now u ∙ whole)) in
      let next = begins_outside e.item e.rest (chars (e.item ∷ e.rest)) (append_cancel_left run _ _ bytes) r.stops in
      record {
        run = run;
        item = next.0;
        rest = next.1;
        is_run = record { whole = parts ∙ ap (λ z. run ++ z) next.2; meets = r.meets; stops = next.3 };
        length_is = items_len-text run ∙ (ap length (encodes-IsAscii run ascii) ∙ (sym (items_len-ones run) ∙ e.length_is));
      }

  pub by_inside : (i j : Bor (List ℕ)) (r : Option ℕ) → j.now ≡ i.now → IsUtf8 i.now →
      IsPosition bytes_model Meets Ends j r → IsPosition text_model Meets Ends i r
  by_inside i j (Some n) same u h = text_ends i j n same u h
  by_inside i j None same u h = all_inside i.now (All-same Meets i.now j.now (sym same) h)

one_ascii : (c : ℕ) → c < 128 → IsAscii (c ∷ [])
one_ascii c h zero = h
one_ascii c h (suc i) = omega arith

-- a run under a test that all but ASCII characters pass
module _ (test : ℕ → Bool) (small : (c : ℕ) → test c ≡ false → c < 128) where
  abbrev Passes : ℕ → Type 0
  Passes c = test c ≡ true

  abbrev Fails : ℕ → Type 0
  Fails c = test c ≡ false

  -- a character whose bytes all pass passes: it is its only byte, or none of ASCII
  char_passes : (c : ℕ) (bs : List ℕ) → All Passes (encode_utf8 c ++ bs) → Passes c
  char_passes c bs h =
      elim (cases_Bool (test c)) [
        | inl passes ↦ passes
        | inr fails ↦
            All-head Passes c bs (subst (λ xs. All Passes (xs ++ bs)) (encode_ascii c (small c fails)) h)
      ]

  right_part : (xs ys : List ℕ) → All Passes (xs ++ ys) → All Passes ys
  right_part [] ys h = h
  right_part (x ∷ xs) ys h = right_part xs ys (All-tail Passes x (xs ++ ys) h)

  chars_pass : (cs : List ℕ) → All Passes (encode_utf8_all cs) → All Passes cs
  chars_pass [] h = All-nil Passes
  chars_pass (c ∷ cs) h =
      All-cons Passes c cs (char_passes c (encode_utf8_all cs) h) (chars_pass cs (right_part (encode_utf8 c) (encode_utf8_all cs) h))

  text_passes : (bs : List ℕ) → IsUtf8 bs → All Passes bs → All Passes (chars bs)
  text_passes bs u h = chars_pass (chars bs) (All-same Passes (encode_utf8_all (chars bs)) bs (encodes-chars bs u) h)

  text_stops : (i j : Bor (List ℕ)) (n : ℕ) → j.now ≡ i.now → IsUtf8 i.now → EndsAt bytes_model Passes Fails j n → EndsAt text_model Passes Fails i n
  text_stops i j n same u e =
      let run = e.run in
      let r = e.is_run in
      let whole : i.now ≡ run ++ (e.item ∷ e.rest) = sym same ∙ r.whole in
      let long : length i.now ≡ length run + length (e.item ∷ e.rest) = ap length whole ∙ length-append run (e.item ∷ e.rest) in
      let byte : get_or i.now (length run) 0 ≡ e.item = ap (λ bs. get_or bs (length run) 0) whole ∙ get_or-append_seam run e.item e.rest 0 in
      let item_small = small e.item r.stops in
      let seam = IsCharBoundary-before_ascii i.now (length run) (omega (arith, long)) (omega (arith, byte, item_small)) in
      let front : take (length run) i.now ≡ run = ap (take (length run)) whole ∙ take-append_seam run (e.item ∷ e.rest) in
      let run_utf8 : IsUtf8 run = subst IsUtf8 front (IsUtf8-take i.now (length run) u seam) in
      let one : IsAscii (e.item ∷ []) = one_ascii e.item item_small in
      let rest_is : chars (e.item ∷ e.rest) ≡ e.item ∷ chars e.rest =
      chars-append (e.item ∷ []) e.rest (IsUtf8-from_ascii (e.item ∷ []) one) ∙ ap (λ z. z ++ chars e.rest) (chars-IsAscii (e.item ∷ []) one) in
      record {
        run = chars run;
        item = e.item;
        rest = chars e.rest;
        is_run = record {
          whole = ap chars whole ∙ (chars-append run (e.item ∷ e.rest) run_utf8 ∙ ap (λ z. chars run ++ z) rest_is);
          meets = text_passes run run_utf8 r.meets;
          stops = r.stops;
        };
        length_is = items_len-text (chars run) ∙ (ap length (encodes-chars run run_utf8) ∙ (sym (items_len-ones run) ∙ e.length_is));
      }

  pub by_outside : (i j : Bor (List ℕ)) (r : Option ℕ) → j.now ≡ i.now → IsUtf8 i.now →
      IsPosition bytes_model Passes Fails j r → IsPosition text_model Passes Fails i r
  by_outside i j (Some n) same u h = text_stops i j n same u h
  by_outside i j None same u h = text_passes i.now u (All-same Passes i.now j.now (sym same) h)

-- a byte that a list of ASCII has is ASCII
small_listed : (list : List ℕ) (c : ℕ) → list_all (λ b. nat_lt b 128) list ≡ true → is_listed list c ≡ true → c < 128
small_listed [] c h found = absurd (cc (found))
small_listed (b ∷ list) c h found =
    let parts = and_parts (nat_lt b 128) (list_all (λ x. nat_lt x 128) list) h in
    elim (or_cases (b == c) (is_listed list c) found) [
      | inl same ↦ omega (arith, eqb-true b c same, ltb-true b 128 parts.0)
      | inr later ↦ small_listed list c parts.1 later
    ]

-- a run in a text is that in its bytes, where ASCII tells the set
pub text_position : (set : CodeSet) (i j : Bor (List ℕ)) (r : Option ℕ) → of_ascii set ≡ true → j.now ≡ i.now → IsUtf8 i.now →
    IsPosition bytes_model (IsIn set) (IsNotIn set) j r → IsPosition text_model (IsIn set) (IsNotIn set) i r
text_position (Set.Class class) i j r ascii same u h = by_inside (has_code class) (small_class class) i j r same u h
text_position (Set.OneOf list) i j r ascii same u h = by_inside (is_listed list.now) (λ c. small_listed list.now c ascii) i j r same u h
text_position (Set.NoneOf list) i j r ascii same u h =
    by_outside (λ c. not (is_listed list.now c)) (λ c out. small_listed list.now c ascii (not-false (is_listed list.now c) out)) i j r same u h
