-- Laws of reading back tags over texts.
use Rattle.std.specs.Prelude.{◌≡◌, ℕ, ◌<◌, ◌⊎◌, Bool, true, false, cond, eqb, nat_lt, ◌&&◌, List, [], ◌∷◌, ◌++◌, length, refl}
use Rattle.std.specs.Prelude.{chars, encode_utf8_all, IsUtf8}
use Rattle.std.specs.Borrow.{Bor}
use Rattle.std.specs.Char.{IsScalar, len_utf8}
use Rattle.std.specs.List.{list_all}
use Rattle.std.specs.Str.{all_scalars, is_utf8}
use Rattle.std.proofs.Common.{arith, sym, ◌∙◌, ap, subst, inl, inr, append_assoc}
use Rattle.std.proofs.Math.Utf8.{scalar}
use Rattle.std.proofs.lemmas.Bool.{and_from}
use Rattle.std.proofs.lemmas.Str.{chars-append, chars-encodes, encode_ascii, encodes-chars, IsUtf8-from_is_utf8, is_utf8-from_IsUtf8, scalars-chars}
use Rattle.nom_internal.specs.Prelude.{AreValues, Errors, IsFirst, IsModelledBy, Accept, Refuse, Stop, Fails, Needs, Slice, items_len}
use Rattle.nom_internal.specs.Prelude.{ComparesText, sliced, text_comparing}
use Rattle.nom_traits.specs.Text.{both, items_len-text, text_lawful, text_model, text_values}
use Rattle.nom_bytes.specs.Tags.{tag_meaning}
use Rattle.nom_bytes.specs.laws.TagLaws.{tag_lawful}
use Rattle.nom_write.specs.FirstSets.{StartsWith, first_of}
use Rattle.nom_write.specs.Reads.{Anything, Holds, NoItem, Reads, ReadsBefore, ReadsSome}
use Rattle.nom_write.specs.Texts.{text_items}
use Rattle.nom_write.specs.laws.FirstSetLaws.{first_starts, other_item}
use Rattle.nom_write.specs.laws.LeafReads.{lawful_reads, no_errors}
use Rattle.nom_write.specs.laws.SequenceReads.{as_whole}

-- ASCII is spelled by itself
below : (b : ℕ) → nat_lt b 128 ≡ true → b < 128
below b h = grind (arith, h)

ascii_scalar : (b : ℕ) → b < 128 → scalar b ≡ true
ascii_scalar b h = grind (arith, h)

ascii_spelled : (bs : List ℕ) → list_all (λ b. nat_lt b 128) bs ≡ true → (all_scalars bs ≡ true) × (encode_utf8_all bs ≡ bs)
ascii_spelled [] h = (refl, refl)
ascii_spelled (b ∷ bs) h =
    let parts = both (nat_lt b 128) (list_all (λ b. nat_lt b 128) bs) h in
    let more = ascii_spelled bs parts.1 in
    let small = below b parts.0 in (
      and_from (scalar b) (all_scalars bs) (ascii_scalar b small) more.0,
      ap (λ z. z ++ encode_utf8_all bs) (encode_ascii b small) ∙ ap (λ z. b ∷ z) more.1,
    )

-- the characters of a text, or those and one that no text has
abbrev Viewed : List ℕ → List ℕ → Type 0
Viewed bs items = (IsUtf8 bs × (items ≡ chars bs)) ⊎ (items ≡ chars bs ++ 55296 ∷ [])

viewed : (bs : List ℕ) → Viewed bs (text_items bs)
viewed bs = by (list_all (λ b. nat_lt b 128) bs) refl (is_utf8 bs) refl
  where
    by : (a : Bool) → list_all (λ b. nat_lt b 128) bs ≡ a → (u : Bool) → is_utf8 bs ≡ u → Viewed bs (cond a bs (cond u (chars bs) (chars bs ++ 55296 ∷ [])))
    by true a u k =
        let s = ascii_spelled bs a in
        inl ((bs, (s.0, s.1)), sym (ap chars (sym s.1) ∙ chars-encodes bs s.0))
    by false a true k = inl (IsUtf8-from_is_utf8 bs k, refl)
    by false a false k = inr refl

no_surrogate : (xs ys : List ℕ) → AreValues IsScalar (xs ++ 55296 ∷ ys) → ⊥
no_surrogate [] ys h = absurd (cc (h.0))
no_surrogate (x ∷ xs) ys h = no_surrogate xs ys h.1

-- the characters of valid bytes
pub valid_items : (bs : List ℕ) → IsUtf8 bs → text_items bs ≡ chars bs
valid_items bs valid = by (list_all (λ b. nat_lt b 128) bs) refl
  where
    by : (a : Bool) → list_all (λ b. nat_lt b 128) bs ≡ a → cond a bs (cond (is_utf8 bs) (chars bs) (chars bs ++ 55296 ∷ [])) ≡ chars bs
    by true a = let s = ascii_spelled bs a in sym (ap chars (sym s.1) ∙ chars-encodes bs s.0)
    by false a = ap (λ u. cond u (chars bs) (chars bs ++ 55296 ∷ [])) (is_utf8-from_IsUtf8 bs valid)

text_tag_items : (tag : List ℕ) (s : Bool) (IsTree : Slice text_model → Type 0) → ((t : Slice text_model) → t.items ≡ text_items tag → IsTree t) →
    ReadsBefore text_model ((tag_meaning text_model no_errors length ComparesText tag).answers s) IsTree Anything (text_items tag)
text_tag_items tag s IsTree stands = elim (viewed tag) [
  | inl v ↦ as_whole text_model v.1 (lawful_reads text_model (tag_meaning text_model no_errors length ComparesText tag)
      (tag_lawful text_model text_lawful no_errors length ComparesText text_comparing tag) s IsTree (chars tag) (λ i rest known e.
      let t : Slice text_model = record { items = chars tag; mark = tt } in
      let first : IsFirst text_model i (items_len len_utf8 (chars tag)) t = record { rest = rest; whole = e; length_is = refl; mark_is = refl } in
      let spelled = encodes-chars tag v.0 in (
        t,
        (items_len-text (chars tag) ∙ ap length spelled, first, record { front = chars tag; rest = rest; whole = e; tag_is = spelled }),
        stands t (sym v.1),
      )))
  | inr e ↦ record {
    read = λ i rest o known el f a. absurd (no_surrogate (chars tag) rest (subst (AreValues IsScalar)
        (el ∙ (ap (λ z. z ++ rest) e ∙ append_assoc (chars tag) (55296 ∷ []) rest)) (text_values i known)));
  }
]

pub scalars_front : (xs ys : List ℕ) → all_scalars (xs ++ ys) ≡ true → all_scalars xs ≡ true
scalars_front [] ys h = refl
scalars_front (x ∷ xs) ys h = let b = both (scalar x) (all_scalars (xs ++ ys)) h in and_from (scalar x) (all_scalars xs) b.0 (scalars_front xs ys b.1)

-- what begins with the characters of a tag begins with its first item
other_lead : (tag zs : List ℕ) (a c : ℕ) (more : List ℕ) → text_items tag ≡ a ∷ more → chars tag ≡ c ∷ zs → a ≡ c
other_lead tag zs a c more is head = elim (viewed tag) [
  | inl v ↦ cc (sym is ∙ (v.1 ∙ head))
  | inr e ↦ cc (sym is ∙ (e ∙ ap (λ z. z ++ 55296 ∷ []) head))
]

module _ {E : Type 0} (errs : Errors (Bor (List ℕ)) E) (tag : List ℕ) where
  pub text_tag_reads_some : ReadsSome text_model (sliced text_model (tag_meaning text_model errs length ComparesText tag)) (text_items tag)
  text_tag_reads_some = record { reads = λ s. text_tag_items tag s (λ _. Unit {0}) (λ t h. tt) }

  pub text_tag_reads : Reads text_model (sliced text_model (tag_meaning text_model errs length ComparesText tag)) (λ v xs.
      (xs ≡ text_items tag) × Holds text_model v (text_items tag)) Anything
  text_tag_reads = record {
    reads = λ v xs f s. as_whole text_model f.0 (text_tag_items tag s (λ t. IsModelledBy text_model t v)
        (λ t h. record { known = f.1.known; elements_are = f.1.elements_are ∙ sym h; mark_is = refl }));
  }

  refuses : (a : ℕ) (more : List ℕ) → text_items tag ≡ a ∷ more → (c : ℕ) (rest : List ℕ) → eqb a c ≡ false →
      NoItem text_model (tag_meaning text_model errs length ComparesText tag) (c ∷ rest)
  refuses a more is c rest other s i (Accept n t) known e k = by k.2.front k.2.whole k.2.tag_is
    where
      by : (front : List ℕ) → chars i.now ≡ front ++ k.2.rest → encode_utf8_all front ≡ tag → Accept n t ≡ Refuse
      by [] whole spelled = absurd (cc (ap text_items spelled ∙ is))
      by (x ∷ xs) whole spelled =
          let all : all_scalars ((x ∷ xs) ++ k.2.rest) ≡ true = subst (λ z. all_scalars z ≡ true) whole (scalars-chars i.now known.0) in
          let head : x ≡ c = cc (sym whole ∙ e) in
          let front : chars tag ≡ x ∷ xs = ap chars (sym spelled) ∙ chars-encodes (x ∷ xs) (scalars_front (x ∷ xs) k.2.rest all) in
          absurd (other_item (λ z. z) a c other (other_lead tag xs a c more is (front ∙ ap (λ z. z ∷ xs) head)))
  refuses a more is c rest other s i Refuse known e k = refl
  refuses a more is c rest other s i (Stop (Fails cause)) known e k = absurd k
  refuses a more is c rest other s i (Stop (Needs m)) known e k =
      let begun = k.1.0 in
      let ys = begun.byte ∷ begun.more in
      let spelled : tag ≡ i.now ++ ys = begun.tag_is ∙ ap (λ z. z ++ ys) (encodes-chars i.now known.0) in
      let head = ap chars spelled ∙ (chars-append i.now ys known.0 ∙ ap (λ z. z ++ chars ys) e) in
      absurd (other_item (λ z. z) a c other (other_lead tag (rest ++ chars ys) a c more is head))

  pub text_tag_starts : StartsWith text_model (λ x. x) (tag_meaning text_model errs length ComparesText tag) (text_items tag)
      (first_of (λ x. x) (text_items tag))
  text_tag_starts = first_starts (λ x. x) (tag_meaning text_model errs length ComparesText tag) (text_items tag) refuses
