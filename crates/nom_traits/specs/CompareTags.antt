-- The laws of comparisons with tags of bytes.
use Rattle.std.specs.Prelude.{◌≡◌, ℕ, ◌<◌, ◌⊎◌, List, [], ◌∷◌, ◌++◌, length, refl, encode_utf8_all}
use Rattle.std.specs.Borrow.{Bor}
use Rattle.std.specs.Char.{to_ascii_lowercase}
use Rattle.std.specs.Str.{str_to_ascii_lowercase}
use Rattle.std.proofs.Common.{arith, sym, ◌∙◌, ap, subst, inl, inr, append_assoc, length-append}
use Rattle.std.proofs.lemmas.List.{length-map, map-append}
use Rattle.std.proofs.lemmas.Str.{encodes-append}
use Rattle.nom_traits.specs.declared.compare.CompareResult.{CompareResult}
use Rattle.nom_traits.specs.declared.compare.CompareResult.TheVariants as Compared
use Rattle.nom_traits.specs.Input.{Model, InputLaws, items_len}
use Rattle.nom_traits.specs.Rests.{items_len-ones}
use Rattle.nom_traits.specs.Bytes.{bytes_model, bytes_lawful}
use Rattle.nom_traits.specs.Text.{text_model, text_lawful, items_len-text}
use Rattle.nom_traits.specs.Compares.{CompareLaws, IsFound, IsBegun, ComparesAs, ComparesBytes, ComparesBytesNoCase, ComparesText, ComparesTextNoCase}

-- a form of bytes: each byte has one
pub record IsForm (form : List ℕ → List ℕ) : Type 0 where
  pub append : (xs ys : List ℕ) → form (xs ++ ys) ≡ form xs ++ form ys
  pub size : (xs : List ℕ) → length (form xs) ≡ length xs

pub itself_form : IsForm (λ t. t)
itself_form = record { append = λ _ _. refl; size = λ _. refl }

pub folded_form : IsForm str_to_ascii_lowercase
folded_form = record { append = λ xs ys. map-append to_ascii_lowercase xs ys; size = λ xs. length-map xs to_ascii_lowercase }

-- items are read as bytes, each as many as its length
pub record ReadsAsBytes {I A : Type 0} (w : Model I A) (bytes : List A → List ℕ) : Type 0 where
  pub append : (xs ys : List A) → bytes (xs ++ ys) ≡ bytes xs ++ bytes ys
  pub size : (xs : List A) → items_len w.item_len xs ≡ length (bytes xs)

pub bytes_are_bytes : ReadsAsBytes bytes_model (λ xs. xs)
bytes_are_bytes = record { append = λ _ _. refl; size = items_len-ones }

pub text_is_bytes : ReadsAsBytes text_model encode_utf8_all
text_is_bytes = record { append = encodes-append; size = items_len-text }

-- of two lists in front of one, one is a front of the other
pub one_longer : {A : Type 0} (t xs ys more : List A) → t ++ ys ≡ xs ++ more → ((rest : List A) × (xs ≡ t ++ rest)) ⊎
    ((x : A) × (rest : List A) × (t ≡ xs ++ (x ∷ rest)))
one_longer [] xs ys more e = inl (xs, refl)
one_longer (a ∷ t) [] ys more e = inr (a, t, refl)
one_longer (a ∷ t) (b ∷ xs) ys more e =
    let heads : a ≡ b = cc in
    let tails : t ++ ys ≡ xs ++ more = cc in
    elim (one_longer t xs ys more tails) [ inl h ↦ inl (h.0, cc (heads, h.1)) | inr h ↦ inr (h.0, h.1, cc (heads, h.2)) ]

pub first_of_some : (ys : List ℕ) → 0 < length ys → (x : ℕ) × (rest : List ℕ) × (ys ≡ x ∷ rest)
first_of_some [] h = absurd (omega arith)
first_of_some (x ∷ rest) h = (x, rest, refl)

module _ {A : Type 0} (bytes : List A → List ℕ) (form : List ℕ → List ℕ) (t : List ℕ) (xs : List A) where
  pub begun_with : (ys : List ℕ) → 0 < length ys → form t ≡ form (bytes xs) ++ ys → IsBegun bytes form t xs
  begun_with ys h e = let k = first_of_some ys h in record { byte = k.0; more = k.1; tag_is = e ∙ ap (λ zs. form (bytes xs) ++ zs) k.2 }

module _ {I A : Type 0} (w : Model I A) (l : InputLaws w) (bytes : List A → List ℕ) (b : ReadsAsBytes w bytes) (form : List ℕ → List ℕ) (f : IsForm form)
    (t : List ℕ) where
  found_size : (xs : List A) (k : IsFound bytes form t xs) → length (bytes k.front) ≡ length t
  found_size xs k = sym (f.size (bytes k.front)) ∙ (ap length k.tag_is ∙ f.size t)

  begun_size : (xs : List A) → IsBegun bytes form t xs → length (bytes xs) < length t
  begun_size xs k = omega (arith, ap length k.tag_is, length-append (form (bytes xs)) (k.byte ∷ k.more), f.size t, f.size (bytes xs))

  pub found_not_begun : (xs : List A) → IsFound bytes form t xs → IsBegun bytes form t xs → ⊥
  found_not_begun xs h k = omega (
    arith,
    found_size xs h,
    begun_size xs k,
    ap (λ ys. length (bytes ys)) h.whole,
    ap length (b.append h.front h.rest),
    length-append (bytes h.front) (bytes h.rest),
  )

  one_result : (xs : List A) (r s : CompareResult) → ComparesAs bytes form t xs r → ComparesAs bytes form t xs s → r ≡ s
  one_result xs Compared.Ok Compared.Ok h k = refl
  one_result xs Compared.Ok Compared.Incomplete h k = absurd (found_not_begun xs h k)
  one_result xs Compared.Ok Compared.Error h k = absurd (k.0 h)
  one_result xs Compared.Incomplete Compared.Ok h k = absurd (found_not_begun xs k h)
  one_result xs Compared.Incomplete Compared.Incomplete h k = refl
  one_result xs Compared.Incomplete Compared.Error h k = absurd (k.1 h)
  one_result xs Compared.Error Compared.Ok h k = absurd (h.0 k)
  one_result xs Compared.Error Compared.Incomplete h k = absurd (h.1 k)
  one_result xs Compared.Error Compared.Error h k = refl

  form_parts : (xs ys : List A) → form (bytes (xs ++ ys)) ≡ form (bytes xs) ++ form (bytes ys)
  form_parts xs ys = ap form (b.append xs ys) ∙ f.append (bytes xs) (bytes ys)

  some_bytes : (x : A) (rest : List A) → 0 < length (form (bytes (x ∷ rest)))
  some_bytes x rest = omega (arith, f.size (bytes (x ∷ rest)), b.size (x ∷ rest), l.positive x)

  error_kept : (xs more : List A) → ComparesAs bytes form t xs Compared.Error → ComparesAs bytes form t (xs ++ more) Compared.Error
  error_kept xs more h = (
    λ k. elim (one_longer k.front xs k.rest more (sym k.whole)) [
      | inl j ↦ h.0 (record { front = k.front; rest = j.0; whole = j.1; tag_is = k.tag_is })
      | inr j ↦ h.1 (begun_with bytes form t xs (form (bytes (j.0 ∷ j.1))) (some_bytes j.0 j.1)
          (sym k.tag_is ∙ (ap (λ ys. form (bytes ys)) j.2 ∙ form_parts xs (j.0 ∷ j.1))))
    ],
    λ k. h.1 (begun_with bytes form t xs (form (bytes more) ++ (k.byte ∷ k.more)) (omega (arith, length-append (form (bytes more)) (k.byte ∷ k.more)))
        (k.tag_is ∙ (ap (λ ys. ys ++ (k.byte ∷ k.more)) (form_parts xs more) ∙ append_assoc (form (bytes xs)) (form (bytes more)) (k.byte ∷ k.more)))),
  )

module _ {I A : Type 0} (w : Model I A) (l : InputLaws w) (bytes : List A → List ℕ) (b : ReadsAsBytes w bytes) (form : List ℕ → List ℕ) (f : IsForm form) where
  comparing : CompareLaws {T = List ℕ} w length (ComparesAs bytes form)
  comparing = record {
    one = λ t i r s h j k. one_result w l bytes b form f t (w.elements i) r s j k;
    place = λ t i h k. record {
      front = k.front;
      rest = k.rest;
      whole = k.whole;
      length_is = b.size k.front ∙
          found_size w l bytes b form f t (w.elements i) k;
    };
    shorter = λ t i h k. omega (arith, b.size (w.elements i), begun_size w l bytes b form f t (w.elements i) k);
    ok_stays = λ t x y h k e r. record {
      front = r.front;
      rest = r.rest ++ e.more;
      whole = e.whole ∙
          (ap (λ xs. xs ++ e.more) r.whole ∙ append_assoc r.front r.rest e.more);
      tag_is = r.tag_is;
    };
    error_stays = λ t x y h k e r. subst (λ xs. ComparesAs bytes form t xs Compared.Error) (sym e.whole)
        (error_kept w l bytes b form f t (w.elements x) e.more r);
  }

pub bytes_comparing : CompareLaws {I = Bor (List ℕ)} {T = List ℕ} bytes_model length ComparesBytes
bytes_comparing = comparing bytes_model bytes_lawful (λ xs. xs) bytes_are_bytes (λ t. t) itself_form

pub bytes_comparing_no_case : CompareLaws {I = Bor (List ℕ)} {T = List ℕ} bytes_model length ComparesBytesNoCase
bytes_comparing_no_case = comparing bytes_model bytes_lawful (λ xs. xs) bytes_are_bytes str_to_ascii_lowercase folded_form

pub text_comparing : CompareLaws {I = Bor (List ℕ)} {T = List ℕ} text_model length ComparesText
text_comparing = comparing text_model text_lawful encode_utf8_all text_is_bytes (λ t. t) itself_form

pub text_comparing_no_case : CompareLaws {I = Bor (List ℕ)} {T = List ℕ} text_model length ComparesTextNoCase
text_comparing_no_case = comparing text_model text_lawful encode_utf8_all text_is_bytes str_to_ascii_lowercase folded_form
