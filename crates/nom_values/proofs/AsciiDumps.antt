-- Dumps of ASCII bytes are ASCII.
use Rattle.std.proofs.Common.{◌≡◌, ℕ, zero, suc, ◌+◌, ◌-◌, ◌*◌, ◌/◌, ◌%◌, ◌<◌, ◌++◌, List, [], ◌∷◌, eqb, false, length, take, drop, map, replicate, arith}
use Rattle.std.specs.Prelude.{flat_map, nat_lt, nat_le, ◌||◌, encode_utf8_all}
use Rattle.std.specs.Int.{is_in_range}
use Rattle.std.specs.Str.{IsAscii}
use Rattle.std.specs.Fmt.{digits, digits_onto, digit_glyph}
use Rattle.std.proofs.lemmas.Bool.{cond_both}
use Rattle.std.proofs.lemmas.Str.{IsAscii-append, IsAscii-take, IsAscii-drop, IsUtf8-from_ascii}
use Rattle.bstr.specs.Utf8.{lossy_chars}
use Rattle.bstr.proofs.lemmas.EncodeLemmas.{lossy_chars-utf8}
use Rattle.nom_values.specs.Dumps.{hex_byte, shown_byte, offset_digits, dump_line, dump_lines, hex_dump}

ascii_nil : IsAscii []
ascii_nil i = omega arith

ascii_cons : (b : ℕ) (bs : List ℕ) → b < 128 → IsAscii bs → IsAscii (b ∷ bs)
ascii_cons b bs h k zero = h
ascii_cons b bs h k (suc i) = k i

ascii_replicate : (n b : ℕ) → b < 128 → IsAscii (replicate n b)
ascii_replicate zero b h = ascii_nil
ascii_replicate (suc n) b h = ascii_cons b (replicate n b) h (ascii_replicate n b h)

small_glyph : (d : ℕ) → d < 16 → digit_glyph false d < 128
small_glyph d h = cond_both (nat_lt d 10) (48 + d) (87 + d) (λ x. x < 128) (λ _. omega (arith, h)) (λ _. omega (arith, h))

ascii_onto : (k n : ℕ) (acc : List ℕ) → IsAscii acc → IsAscii (digits_onto k 16 false n acc)
ascii_onto zero n acc h = h
ascii_onto (suc k) n acc h =
    let more = digit_glyph false (n % 16) ∷ acc in
    let a : IsAscii more = ascii_cons (digit_glyph false (n % 16)) acc (small_glyph (n % 16) (omega arith)) h in
    cond_both (eqb (n / 16) 0) more (digits_onto k 16 false (n / 16) more) IsAscii (λ _. a) (λ _. ascii_onto k (n / 16) more a)

ascii_digits : (n : ℕ) → IsAscii (digits 16 false n)
unfolding digits
ascii_digits n = ascii_onto 64 n [] ascii_nil

ascii_hex : (bs : List ℕ) → IsAscii bs → IsAscii (flat_map hex_byte bs)
ascii_hex [] h = ascii_nil
ascii_hex (b ∷ bs) h =
    let small : b < 128 = h 0 in
    let low = digit_glyph false (b % 16) in
    let blank : List ℕ = 32 ∷ [] in
    IsAscii-append (hex_byte b) (flat_map hex_byte bs)
    (ascii_cons (digit_glyph false (b / 16)) (low ∷ blank) (small_glyph (b / 16) (omega (arith, small)))
    (ascii_cons low blank (small_glyph (b % 16) (omega arith)) (ascii_cons 32 [] (omega arith) ascii_nil)))
    (ascii_hex bs (λ i. h (suc i)))

ascii_shown : (bs : List ℕ) → IsAscii bs → IsAscii (map shown_byte bs)
ascii_shown [] h = ascii_nil
ascii_shown (b ∷ bs) h =
    let small : b < 128 = h 0 in
    ascii_cons (shown_byte b) (map shown_byte bs) (cond_both (is_in_range 32 126 b || nat_le 128 b) b 46 (λ x. x < 128) (λ _. small) (λ _. omega arith))
    (ascii_shown bs (λ i. h (suc i)))

ascii_line : (chunk offset : ℕ) (bs : List ℕ) → IsAscii bs → IsAscii (dump_line chunk offset bs)
ascii_line chunk offset bs h =
    let ds = digits 16 false offset in
    let end : List ℕ = 10 ∷ [] in
    let tail : List ℕ = 9 ∷ (map shown_byte bs ++ end) in
    let spaces : List ℕ = replicate (3 * (chunk - length bs)) 32 in
    let middle : List ℕ = 9 ∷ (flat_map hex_byte bs ++ (spaces ++ tail)) in
    let shown : IsAscii tail = ascii_cons 9 (map shown_byte bs ++ end) (omega arith)
    (IsAscii-append (map shown_byte bs) end (ascii_shown bs h) (ascii_cons 10 [] (omega arith) ascii_nil)) in
    let blanks : IsAscii (spaces ++ tail) = IsAscii-append spaces tail (ascii_replicate (3 * (chunk - length bs)) 32 (omega arith)) shown in
    IsAscii-append (offset_digits offset) middle
    (IsAscii-append (replicate (8 - length ds) 48) ds (ascii_replicate (8 - length ds) 48 (omega arith)) (ascii_digits offset))
    (ascii_cons 9 (flat_map hex_byte bs ++ (spaces ++ tail)) (omega arith) (IsAscii-append (flat_map hex_byte bs) (spaces ++ tail) (ascii_hex bs h) blanks))

ascii_lines : (n chunk offset : ℕ) (bs : List ℕ) → IsAscii bs → IsAscii (dump_lines n chunk offset bs)
ascii_lines zero chunk offset bs h = ascii_nil
ascii_lines (suc n) chunk offset [] h = ascii_nil
ascii_lines (suc n) chunk offset (b ∷ bs) h =
    IsAscii-append (dump_line chunk offset (take chunk (b ∷ bs))) (dump_lines n chunk (offset + chunk) (drop chunk (b ∷ bs)))
    (ascii_line chunk offset (take chunk (b ∷ bs)) (IsAscii-take (b ∷ bs) chunk h))
    (ascii_lines n chunk (offset + chunk) (drop chunk (b ∷ bs)) (IsAscii-drop (b ∷ bs) chunk h))

-- so they are texts as they are
pub ascii_text : (chunk from : ℕ) (bs : List ℕ) → IsAscii bs → encode_utf8_all (lossy_chars (hex_dump chunk from bs)) ≡ hex_dump chunk from bs
ascii_text chunk from bs h = lossy_chars-utf8 (hex_dump chunk from bs) (IsUtf8-from_ascii (hex_dump chunk from bs) (ascii_lines (length bs) chunk from bs h))
