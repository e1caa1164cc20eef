-- Characters and the bytes that spell them.
use Rattle.std.proofs.Common.{arith, ◌≡◌, ℕ, zero, suc, ◌+◌, ◌-◌, ◌*◌, ◌/◌, ◌<◌, ◌≤◌, true, List, [], ◌∷◌, ◌++◌, length, take, drop, get_or}
use Rattle.std.proofs.Common.{refl, sym, ◌∙◌, ap, subst, append_assoc, append-nil, length-append}
use Rattle.std.specs.Prelude.{chars, encode_utf8, encode_utf8_all, IsUtf8}
use Rattle.std.specs.Char.{len_utf8}
use Rattle.std.specs.Str.{all_scalars}
use Rattle.std.proofs.Math.Utf8.{scalar}
use Rattle.std.proofs.Math.Seq.{take-append_seam}
use Rattle.std.proofs.lemmas.Bool.{and_from}
use Rattle.std.proofs.lemmas.List.{drop_at, length-take, nil_from_length, take_all, take_more, take-append-drop}
use Rattle.std.proofs.lemmas.Str.{IsUtf8-append, IsUtf8-past_char, length-le-encodes}
use Rattle.std.proofs.lemmas.Str.{chars-nil, chars_past_char, chars-append, chars-encodes, chars_from_encodes}
use Rattle.std.proofs.lemmas.Str.{encodes-append, encodes-chars, len_utf8_bounds, length-encode, scalars-chars}
use Rattle.nom_traits.specs.Input.{items_len}
use Rattle.nom_traits.specs.Text.{both, items_len-text}
use Rattle.nom_sink.specs.Written.{moved_behind}

-- one character more
one_more : (bs : List ℕ) (c : ℕ) → IsUtf8 bs → IsUtf8 (encode_utf8 c) → chars (bs ++ encode_utf8 c) ≡ chars bs ++ c ∷ []
one_more bs c valid form = chars-append bs (encode_utf8 c) valid ∙
    ap (λ z. chars bs ++ z) (sym (chars_from_encodes (c ∷ []) (encode_utf8 c) form (append-nil (encode_utf8 c))))

-- the characters before the k-th are added
pub record Added (old : List ℕ) (items : List ℕ) (k : ℕ) (bs : List ℕ) : Type 0 where
  pub valid : IsUtf8 bs
  pub so_far : chars bs ≡ chars old ++ take k items
  pub more : List ℕ
  pub whole : bs ≡ old ++ more

pub none_added : (old items : List ℕ) → IsUtf8 old → Added old items 0 old
none_added old items valid = record { valid = valid; so_far = sym (append-nil (chars old)); more = []; whole = sym (append-nil old) }

pub one_added : (old items : List ℕ) (k : ℕ) (bs form new : List ℕ) (c : ℕ) → Added old items k bs → IsUtf8 form → form ≡ encode_utf8 c → k < length items →
    c ≡ get_or items k c → new ≡ bs ++ form → Added old items (k + 1) new
one_added old items k bs form new c a valid form_is below is new_is =
    let new_is : new ≡ bs ++ encode_utf8 c = new_is ∙ ap (λ z. bs ++ z) form_is in
    let form_valid = subst IsUtf8 form_is valid in
    record {
      valid = subst IsUtf8 (sym new_is) (IsUtf8-append bs (encode_utf8 c) a.valid form_valid);
      so_far = ap chars new_is ∙ (one_more bs c a.valid form_valid ∙ (ap (λ z. z ++ c ∷ []) a.so_far ∙ (append_assoc (chars old) (take k items) (c ∷ []) ∙
          ap (λ z. chars old ++ z) (ap (λ x. take k items ++ x ∷ []) is ∙ sym (take_more items k c below)))));
      more = a.more ++ encode_utf8 c;
      whole = new_is ∙ (ap (λ z. z ++ encode_utf8 c) a.whole ∙ append_assoc old a.more (encode_utf8 c));
    }

-- a text has at most four bytes for each character
four_each : (cs : List ℕ) → length (encode_utf8_all cs) ≤ 4 * length cs
four_each [] = omega arith
four_each (c ∷ cs) = omega (arith, four_each cs, length-append (encode_utf8 c) (encode_utf8_all cs), length-encode c, (len_utf8_bounds c).1)

four_each_char : (bs : List ℕ) → IsUtf8 bs → length bs ≤ 4 * length (chars bs)
four_each_char bs valid = subst (λ z. length z ≤ 4 * length (chars bs)) (encodes-chars bs valid) (four_each (chars bs))

-- the place after the first characters
abbrev pub place : ℕ → List ℕ → ℕ
place n cs = length (encode_utf8_all (take n cs))

pub place_is : (count n : ℕ) (cs front rest : List ℕ) → cs ≡ front ++ rest → length front ≡ count → items_len len_utf8 front ≡ n → n ≡ place count cs
place_is count n cs front rest whole long len = sym len ∙ (items_len-text front ∙ ap (λ z. length (encode_utf8_all z)) (sym
    (ap (λ z. take count z) whole ∙ (ap (λ k. take k (front ++ rest)) (sym long) ∙ take-append_seam front rest))))

pub place_end : (count : ℕ) (bs : List ℕ) → IsUtf8 bs → length (chars bs) < count → length bs ≡ place count (chars bs)
place_end count bs valid few = ap length (sym (encodes-chars bs valid)) ∙
    ap (λ z. length (encode_utf8_all z)) (sym (take_all count (chars bs) (omega (arith, few))))

-- bytes before and after a place
take_place : (n : ℕ) (cs : List ℕ) → take (place n cs) (encode_utf8_all cs) ≡ encode_utf8_all (take n cs)
take_place n cs = ap (λ z. take (place n cs) z) (ap encode_utf8_all (sym (take-append-drop n cs)) ∙ encodes-append (take n cs) (drop n cs)) ∙
    take-append_seam (encode_utf8_all (take n cs)) (encode_utf8_all (drop n cs))

drop_place : (n : ℕ) (cs : List ℕ) → drop (place n cs) (encode_utf8_all cs) ≡ encode_utf8_all (drop n cs)
drop_place n cs = ap (λ z. drop (place n cs) z) (ap encode_utf8_all (sym (take-append-drop n cs)) ∙ encodes-append (take n cs) (drop n cs)) ∙
    drop_at (encode_utf8_all (take n cs)) (encode_utf8_all (drop n cs)) (place n cs) refl

scalars_append : (xs ys : List ℕ) → all_scalars xs ≡ true → all_scalars ys ≡ true → all_scalars (xs ++ ys) ≡ true
scalars_append [] ys h k = k
scalars_append (x ∷ xs) ys h k = let b = both (scalar x) (all_scalars xs) h in and_from (scalar x) (all_scalars (xs ++ ys)) b.0 (scalars_append xs ys b.1 k)

scalars_take : (n : ℕ) (xs : List ℕ) → all_scalars xs ≡ true → all_scalars (take n xs) ≡ true
scalars_take zero xs h = refl
scalars_take (suc n) [] h = refl
scalars_take (suc n) (x ∷ xs) h = let b = both (scalar x) (all_scalars xs) h in and_from (scalar x) (all_scalars (take n xs)) b.0 (scalars_take n xs b.1)

scalars_drop : (n : ℕ) (xs : List ℕ) → all_scalars xs ≡ true → all_scalars (drop n xs) ≡ true
scalars_drop zero xs h = h
scalars_drop (suc n) [] h = refl
scalars_drop (suc n) (x ∷ xs) h = scalars_drop n xs (both (scalar x) (all_scalars xs) h).1

-- bytes that spell characters
pub record Spells (bs cs : List ℕ) : Type 0 where
  pub valid : IsUtf8 bs
  pub chars_are : chars bs ≡ cs

spells : (bs cs : List ℕ) → all_scalars cs ≡ true → bs ≡ encode_utf8_all cs → Spells bs cs
spells bs cs h e = record { valid = (cs, (h, sym e)); chars_are = ap chars e ∙ chars-encodes cs h }

pub first_chars : (bs : List ℕ) (n : ℕ) → IsUtf8 bs → Spells (take (place n (chars bs)) bs) (take n (chars bs))
first_chars bs n valid = spells (take (place n (chars bs)) bs) (take n (chars bs)) (scalars_take n (chars bs) (scalars-chars bs valid))
    (ap (λ z. take (place n (chars bs)) z) (sym (encodes-chars bs valid)) ∙ take_place n (chars bs))

-- between two places
take_none : {A : Type 0} (k : ℕ) → ◌≡◌ {A = List A} (take k []) []
take_none zero = refl
take_none (suc k) = refl

later : {A : Type 0} (n m : ℕ) (xs : List A) → n ≤ m → take m xs ≡ take n xs ++ take (m - n) (drop n xs)
later zero m xs h = ap (λ k. take k xs) {x = m} {y = m - 0} (omega arith)
later (suc n) zero xs h = absurd (omega (arith, h))
later (suc n) (suc m) [] h = sym (take_none (suc m - suc n))
later (suc n) (suc m) (x ∷ xs) h = ap (λ z. x ∷ z) (later n m xs (omega (arith, h)) ∙
    ap (λ k. take n xs ++ take k (drop n xs)) {x = m - n} {y = suc m - suc n} (omega arith))

place_later : (n m : ℕ) (cs : List ℕ) → n ≤ m → place m cs ≡ place n cs + place (m - n) (drop n cs)
place_later n m cs h = ap (λ z. length (encode_utf8_all z)) (later n m cs h) ∙
    (ap length (encodes-append (take n cs) (take (m - n) (drop n cs))) ∙
    length-append (encode_utf8_all (take n cs)) (encode_utf8_all (take (m - n) (drop n cs))))

pub places_in_turn : (n m : ℕ) (cs : List ℕ) → n ≤ m → place n cs ≤ place m cs
places_in_turn n m cs h = omega (arith, place_later n m cs h)

pub place_within : (n : ℕ) (bs : List ℕ) → IsUtf8 bs → place n (chars bs) ≤ length bs
place_within n bs valid = omega (
  arith,
  ap length (encodes-chars bs valid),
  ap length (ap encode_utf8_all (sym (take-append-drop n (chars bs))) ∙ encodes-append (take n (chars bs)) (drop n (chars bs))),
  length-append (encode_utf8_all (take n (chars bs))) (encode_utf8_all (drop n (chars bs))),
)

-- the characters from a place up to another, moved behind those that follow them
moved_bytes : (n m : ℕ) (cs : List ℕ) → n ≤ m → (s t : ℕ) → s ≡ place n cs → t ≡ place m cs →
    moved_behind s t (encode_utf8_all cs) ≡ encode_utf8_all (moved_behind n m cs)
moved_bytes n m cs h s t e f =
    let ds = drop n cs in
    let k : t - s ≡ place (m - n) ds = omega (arith, e, f, place_later n m cs h) in
    let front : take s (encode_utf8_all cs) ≡ encode_utf8_all (take n cs) = ap (λ j. take j (encode_utf8_all cs)) e ∙ take_place n cs in
    let rest : drop s (encode_utf8_all cs) ≡ encode_utf8_all ds = ap (λ j. drop j (encode_utf8_all cs)) e ∙ drop_place n cs in
    let back : drop (t - s) (drop s (encode_utf8_all cs)) ≡ encode_utf8_all (drop (m - n) ds) =
    ap (λ j. drop j (drop s (encode_utf8_all cs))) k ∙ (ap (λ z. drop (place (m - n) ds) z) rest ∙ drop_place (m - n) ds) in
    let part : take (t - s) (drop s (encode_utf8_all cs)) ≡ encode_utf8_all (take (m - n) ds) =
    ap (λ j. take j (drop s (encode_utf8_all cs))) k ∙ (ap (λ z. take (place (m - n) ds) z) rest ∙ take_place (m - n) ds) in
    ap (λ z. z ++ (drop (t - s) (drop s (encode_utf8_all cs)) ++ take (t - s) (drop s (encode_utf8_all cs)))) front ∙
    (ap (λ z. encode_utf8_all (take n cs) ++ (z ++ take (t - s) (drop s (encode_utf8_all cs)))) back ∙
    (ap (λ z. encode_utf8_all (take n cs) ++ (encode_utf8_all (drop (m - n) ds) ++ z)) part ∙
    sym (encodes-append (take n cs) (drop (m - n) ds ++ take (m - n) ds) ∙
    ap (λ z. encode_utf8_all (take n cs) ++ z) (encodes-append (drop (m - n) ds) (take (m - n) ds)))))

pub moved_chars : (bs : List ℕ) (n m s t : ℕ) → IsUtf8 bs → n ≤ m → s ≡ place n (chars bs) → t ≡ place m (chars bs) →
    Spells (moved_behind s t bs) (moved_behind n m (chars bs))
moved_chars bs n m s t valid h e f =
    let cs = chars bs in
    let all : all_scalars cs ≡ true = scalars-chars bs valid in
    spells (moved_behind s t bs) (moved_behind n m cs)
    (scalars_append (take n cs) (drop (m - n) (drop n cs) ++ take (m - n) (drop n cs)) (scalars_take n cs all)
    (scalars_append (drop (m - n) (drop n cs)) (take (m - n) (drop n cs)) (scalars_drop (m - n) (drop n cs) (scalars_drop n cs all))
    (scalars_take (m - n) (drop n cs) (scalars_drop n cs all))))
    (ap (λ z. moved_behind s t z) (sym (encodes-chars bs valid)) ∙ moved_bytes n m cs h s t e f)

-- There was no room for one character more: the room, in characters, is less than all would take.
pub no_room : (old items : List ℕ) (k cap size : ℕ) (bs : List ℕ) → Added old items k bs → k < length items → size ≤ 4 → cap < length bs + size →
    cap / 4 < length (chars old) + length items
no_room old items k cap size bs a below few full = omega (
  arith,
  full,
  few,
  below,
  four_each_char bs a.valid,
  ap length a.so_far,
  length-append (chars old) (take k items),
  length-take k items,
)

-- the characters of a text before the rest are added
pub record IsOnText (bs rest : List ℕ) (old new : List ℕ) : Type 0 where
  pub valid : IsUtf8 rest
  pub done : List ℕ
  pub all : chars bs ≡ done ++ chars rest
  pub whole : new ≡ old ++ done

pub text_begun : (bs rest old : List ℕ) → IsUtf8 bs → rest ≡ bs → IsOnText bs rest old old
text_begun bs rest old valid e = record {
  valid = subst IsUtf8 (sym e) valid;
  done = [];
  all = ap chars (sym e);
  whole = sym (append-nil old);
}

pub text_goes_on : (bs rest next old mid new : List ℕ) (c : ℕ) → IsOnText bs rest old mid → rest ≡ encode_utf8 c ++ next →
    (zs : List ℕ) × (new ≡ mid ++ zs) × (zs ≡ c ∷ []) → IsOnText bs next old new
text_goes_on bs rest next old mid new c a e w = record {
  valid = IsUtf8-past_char rest next c a.valid e;
  done = a.done ++ c ∷ [];
  all = a.all ∙ (ap (λ z. a.done ++ z) (chars_past_char rest next c a.valid e) ∙ sym (append_assoc a.done (c ∷ []) (chars next)));
  whole = w.1 ∙ (ap (λ z. mid ++ z) w.2 ∙ (ap (λ z. z ++ c ∷ []) a.whole ∙ append_assoc old a.done (c ∷ [])));
}

pub text_room : (bs rest next old mid : List ℕ) (c room : ℕ) → IsOnText bs rest old mid → rest ≡ encode_utf8 c ++ next → room < length mid + 1 →
    room < length old + length (chars bs)
text_room bs rest next old mid c room a e h = omega (
  arith,
  h,
  ap length a.whole,
  length-append old a.done,
  ap length a.all,
  length-append a.done (chars rest),
  ap length (chars_past_char rest next c a.valid e),
)

pub text_done : (bs rest old new : List ℕ) → IsOnText bs rest old new → length rest ≡ 0 → (xs : List ℕ) × (new ≡ old ++ xs) × (xs ≡ chars bs)
text_done bs rest old new a e = (
  a.done,
  a.whole,
  sym (a.all ∙ (ap (λ z. a.done ++ chars z) (nil_from_length rest e) ∙ (ap (λ z. a.done ++ z) chars-nil ∙ append-nil a.done))),
)

-- a text has no more characters than bytes
pub few_chars : (bs : List ℕ) → IsUtf8 bs → length (chars bs) ≤ length bs
few_chars bs valid = subst (λ z. length (chars bs) ≤ length z) (encodes-chars bs valid) (length-le-encodes (chars bs))

-- a list keeps its length when a part is moved
moved_length : {A : Type 0} (n m : ℕ) (xs : List A) → length (moved_behind n m xs) ≡ length xs
moved_length n m xs =
    let ys = drop n xs in
    omega (
      arith,
      length-append (take n xs) (drop (m - n) ys ++ take (m - n) ys),
      length-append (drop (m - n) ys) (take (m - n) ys),
      length-append (take n xs) ys,
      ap length (take-append-drop n xs),
      length-append (take (m - n) ys) (drop (m - n) ys),
      ap length (take-append-drop (m - n) ys),
    )

pub moved_count : (n m : ℕ) (bs new : List ℕ) (count : ℕ) → count ≡ length (chars bs) → chars new ≡ moved_behind n m (chars bs) → count ≡ length (chars new)
moved_count n m bs new count e f = e ∙ sym (ap length f ∙ moved_length n m (chars bs))

-- the same, of slices of the bytes
pub kept : (bs slice new : List ℕ) (n p : ℕ) → IsUtf8 bs → slice ≡ bs → p ≡ place n (chars slice) → new ≡ take p bs → Spells new (take n (chars bs))
kept bs slice new n p valid same p_is new_is = subst (λ z. Spells z (take n (chars bs)))
    (sym (new_is ∙ ap (λ k. take k bs) (p_is ∙ ap (λ z. place n (chars z)) same))) (first_chars bs n valid)

pub places_fit : (bs first second : List ℕ) (n m s t : ℕ) → IsUtf8 bs → first ≡ bs → second ≡ bs → n ≤ m → s ≡ place n (chars first) →
    t ≡ place m (chars second) → (s ≤ t) × (t ≤ length bs)
places_fit bs first second n m s t valid e f h s_is t_is =
    let s_place : s ≡ place n (chars bs) = s_is ∙ ap (λ z. place n (chars z)) e in
    let t_place : t ≡ place m (chars bs) = t_is ∙ ap (λ z. place m (chars z)) f in
    (omega (arith, s_place, t_place, places_in_turn n m (chars bs) h), omega (arith, t_place, place_within m bs valid))

pub moved_spells : (bs first second new : List ℕ) (n m s t : ℕ) → IsUtf8 bs → first ≡ bs → second ≡ bs → n ≤ m → s ≡ place n (chars first) →
    t ≡ place m (chars second) → new ≡ moved_behind s t bs → Spells new (moved_behind n m (chars bs))
moved_spells bs first second new n m s t valid e f h s_is t_is new_is = subst (λ z. Spells z (moved_behind n m (chars bs))) (sym new_is)
    (moved_chars bs n m s t valid h (s_is ∙ ap (λ z. place n (chars z)) e) (t_is ∙ ap (λ z. place m (chars z)) f))
