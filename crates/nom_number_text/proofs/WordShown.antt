-- Lemmas on the match of a word that was found at the start of an input.
use Rattle.std.proofs.Common.{◌≡◌, ℕ, ◌+◌, ◌-◌, ◌==◌, ◌<◌, ◌≤◌, Bool, true, false, cond, Option, Some, Ok, Err, List, [], ◌∷◌, ◌++◌, drop}
use Rattle.std.proofs.Common.{get_or, length, refl, sym, ◌∙◌, ap, subst, arith, length-append, append_assoc}
use Rattle.std.specs.Char.{to_ascii_lowercase}
use Rattle.std.proofs.lemmas.Bool.Decides.{nat_tests}
use Rattle.std.proofs.lemmas.List.{drop_more, drop_all, length-drop}
use Rattle.nom_error.specs.declared.kind.ErrorKind.TheVariants as Kind
use Rattle.nom_internal.specs.Prelude.{Needed, Incomplete, PResult, Refuses, size_of, Errors, Built, Modes, Slice, IsFirst, IsModelledBy, ShowsMeaning, Model}
use Rattle.nom_internal.specs.Prelude.{InputLaws, IsSuffixOf, items_len, rest_rest, items_len-append}
use Rattle.nom_error.specs.declared.answer.Err as Answer
use Rattle.nom_internal.proofs.Shown.{accepted, undecided, refused}
use Rattle.nom_character_first.specs.FirstItem.{IsFirstItem}
use Rattle.nom_character.specs.LineMatches.{Match, at_end, one_item_more}
use Rattle.nom_character.specs.LineMatches.Match.{Full, Absent, Partial}
use Rattle.nom_character.proofs.LineMatching.{after_head, before_rest}
use Rattle.nom_number_text.specs.declared.word.WordAt.TheVariants as Found
use Rattle.nom_number_text.specs.Exceptions.{word_in, word_meaning, IsWordAt}

-- that many items before
abbrev pub later : ℕ → Match → Match
later k (Full n) = Full (n + k)
later k Absent = Absent
later k (Partial lack) = Partial lack

later_none : (a : Match) → a ≡ later 0 a
later_none (Full n) = ap Full (omega arith)
later_none Absent = refl
later_none (Partial lack) = refl

later_more : (k : ℕ) (a : Match) → later k (one_item_more a) ≡ later (k + 1) a
later_more k (Full n) = ap Full (omega arith)
later_more k Absent = refl
later_more k (Partial lack) = refl

later_end : (k : ℕ) (s : Bool) (lack : Option ℕ) → later k (at_end s lack Absent) ≡ at_end s lack Absent
later_end k true lack = refl
later_end k false lack = refl

by_letter : (b : Bool) (p : Match) → b ≡ true → cond b p Absent ≡ p
by_letter true p e = refl
by_letter false p e = absurd (cc (e))

is_letter : (c d : ℕ) → c ≡ d → (c == d) ≡ true
is_letter c d e = grind (arith, nat_tests, e)

another_letter : (c d : ℕ) → (c ≡ d → ⊥) → (c == d) ≡ false
another_letter c d e = grind (arith, nat_tests, e)

module _ {I A : Type 0} (w : Model I A) (code : A → ℕ) (word : List ℕ) (i : I) where
  -- the first letters, as many as k, were found, and this is the rest after them
  pub record IsFound (k : ℕ) (j : I) : Type 0 where
    pub place : ℕ
    pub rest_is : IsSuffixOf w i place j
    pub count_is : length rest_is.front ≡ k
    pub word_is : (s : Bool) → word_in code word s (w.elements i) ≡ later k (word_in code (drop k word) s (w.elements j))

  pub found_none : InputLaws w → w.IsKnown i → IsFound 0 i
  found_none l h = record {
    place = 0;
    rest_is = record { known = h; front = []; whole = refl; length_is = refl; mark_is = sym (l.mark_none (w.mark i)) };
    count_is = refl;
    word_is = λ s. later_none (word_in code word s (w.elements i));
  }

  module _ (k : ℕ) (j : I) (f : IsFound k j) where
    -- all letters
    pub found_all : length word ≤ k → IsWordAt w code word i (Found.Stands j)
    found_all h = (
      f.place,
      f.rest_is,
      λ s. f.word_is s ∙
          (ap (λ cs. later k (word_in code cs s (w.elements j))) (drop_all k word h) ∙ ap Full (after f.count_is)),
    )
      where
        after : length f.rest_is.front ≡ k → 0 + k ≡ length f.rest_is.front
        after e = omega (arith, e)

    module _ (c d : ℕ) (within : k < length word) (letter : c ≡ get_or word k d) where
      next_letter : drop k word ≡ c ∷ drop (k + 1) word
      next_letter = drop_more word k d within ∙ ap (λ z. z ∷ drop (k + 1) word) (sym letter)

      next_is : (s : Bool) → word_in code word s (w.elements i) ≡ later k (word_in code (c ∷ drop (k + 1) word) s (w.elements j))
      next_is s = f.word_is s ∙ ap (λ cs. later k (word_in code cs s (w.elements j))) next_letter

      pub found_lacks : (n : ℕ) → n ≡ length word - k → w.elements j ≡ [] → IsWordAt w code word i (Found.Lacks n)
      found_lacks n e none =
          let left : length (drop (k + 1) word) + 1 ≡ n = omega (arith, e, within, length-drop (k + 1) word) in (
            omega (arith, e, within),
            λ s. next_is s ∙
                (ap (λ xs. later k (word_in code (c ∷ drop (k + 1) word) s xs)) none ∙
                (later_end k s (Some (length (drop (k + 1) word) + 1)) ∙ ap (λ m. at_end s (Some m) Absent) left)),
          )

      module _ (x : A) (p : IsFirstItem w j x) where
        pub found_more : InputLaws w → (n : ℕ) (m : I) → n ≡ w.item_len x → IsSuffixOf w j n m → to_ascii_lowercase (code x) ≡ c → IsFound (k + 1) m
        found_more l n m e rest same =
            let r = subst (λ z. IsSuffixOf w j z m) e rest in
            let both = rest_rest w l i f.place j (w.item_len x) m f.rest_is r in
            let items = after_head w l j m x p r in
            let one : items_len w.item_len (x ∷ []) ≡ w.item_len x = omega arith in
            let letters = f.rest_is.front ++ x ∷ [] in
            let whole : w.elements i ≡ letters ++ w.elements m =
            f.rest_is.whole ∙ (ap (λ xs. f.rest_is.front ++ xs) items ∙ sym (append_assoc f.rest_is.front (x ∷ []) (w.elements m))) in
            let long : items_len w.item_len letters ≡ f.place + w.item_len x = omega
            (arith, one, f.rest_is.length_is, items_len-append w.item_len f.rest_is.front (x ∷ [])) in
            let front : both.front ≡ letters = before_rest w l i m (f.place + w.item_len x) letters both whole long in
            record {
              place = f.place + w.item_len x;
              rest_is = both;
              count_is = omega (arith, f.count_is, ap length front, length-append f.rest_is.front (x ∷ []));
              word_is = λ s. next_is s ∙ (ap (λ xs. later k (word_in code (c ∷ drop (k + 1) word) s xs)) items ∙
                  (ap (later k) (by_letter (to_ascii_lowercase (code x) == c) (one_item_more (word_in code (drop (k + 1) word) s (w.elements m)))
                  (is_letter (to_ascii_lowercase (code x)) c same)) ∙ later_more k (word_in code (drop (k + 1) word) s (w.elements m))));
            }

module _ {I A E : Type 0} (w : Model I A) (code : A → ℕ) (errs : Errors I E) (mode : Modes) (i : I) (word letters : List ℕ) (same : letters ≡ word) where
  abbrev WordShown : PResult I I E → Type 0
  WordShown = ShowsMeaning w (IsModelledBy w) (word_meaning w code errs word) mode i

  pub word_stands : (j : I) (x : Option I) → (f : IsWordAt w code letters i (Found.Stands j)) →
      ((n : ℕ) (t : Slice w) → IsSuffixOf w i n j → IsFirst w i n t → Built mode.outputs (IsModelledBy w t) x) → WordShown (Ok (j, x))
  word_stands j x f built =
      let slice : Slice w = record { items = f.1.front; mark = w.mark i } in
      let first : IsFirst w i f.0 slice = record { rest = w.elements j; whole = f.1.whole; length_is = f.1.length_is; mark_is = refl } in
      accepted slice f.1 (first, subst (λ cs. word_in code cs mode.streaming (w.elements i) ≡ Full (length f.1.front)) same (f.2 mode.streaming))
      (built f.0 slice f.1 first)

  pub word_absent : (f : Answer.Err E (Option E) Needed) → IsWordAt w code letters i Found.Differs →
      Refuses (errs.of_kind i Kind.Float) errs.grows mode.errors f → WordShown (Err f)
  word_absent f h r = refused r (subst (λ cs. word_in code cs mode.streaming (w.elements i) ≡ Absent) same (h mode.streaming))

  module _ (k : ℕ) (h : IsWordAt w code letters i (Found.Lacks k)) where
    lacks : (s : Bool) → word_in code word s (w.elements i) ≡ at_end s (Some k) Absent
    lacks s = subst (λ cs. word_in code cs s (w.elements i) ≡ at_end s (Some k) Absent) same (h.1 s)

    pub word_lacks : (n : Needed) → mode.streaming ≡ true → size_of n ≡ Some k → WordShown (Err (Incomplete n))
    word_lacks n s e = undecided refl (s, lacks true ∙ ap Partial (sym e))

    pub word_ends : (f : Answer.Err E (Option E) Needed) → mode.streaming ≡ false → Refuses (errs.of_kind i Kind.Float) errs.grows mode.errors f →
        WordShown (Err f)
    word_ends f s r = refused r (subst (λ b. word_in code word b (w.elements i) ≡ Absent) (sym s) (lacks false))
