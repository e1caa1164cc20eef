-- Lemmas on the answers of a number in base 16.
use Rattle.std.proofs.Common.{◌≡◌, ℕ, true, Option, Some, Ok, Err, take, refl, sym, ◌∙◌, ap, subst, arith}
use Rattle.std.proofs.lemmas.List.{take-append-le, take_all}
use Rattle.nom_internal.specs.Prelude.{PResult, Needed, Errors, Built, Modes, with_outputs, Model, InputLaws, IsPrefixOf, IsBoundary, IsSuffixOf, input_len}
use Rattle.nom_internal.specs.Prelude.{items_len, same_cut, Slice, IsModelledBy, IsCount, Accept, Shown, ShowsMeaning}
use Rattle.nom_error.specs.declared.kind.ErrorKind.TheVariants as Kind
use Rattle.nom_error.specs.declared.answer.Err as Answer
use Rattle.nom_traits.specs.declared.character.AsciiClass.TheVariants as Class
use Rattle.nom_internal.proofs.Cased.{here, plain_err}
use Rattle.nom_internal.proofs.Shown.{accepts}
use Rattle.nom_character.specs.ClassRuns.{class_meaning}
use Rattle.nom_number_text.specs.Hex.{hex_number, FirstEight, hex_meaning}
use Rattle.nom_number_text.specs.laws.HexLaws.{eight_place}

module _ {I A : Type 0} (w : Model I A) (l : InputLaws w) where
  -- a front of that many items
  pub count_front : (count : ℕ) (i : I) (n : ℕ) (j : I) → IsCount w i count n → IsPrefixOf w i n j → w.elements j ≡ take count (w.elements i)
  count_front count i n j c f =
      let cut = same_cut w.item_len l.positive (w.elements j) f.rest c.place.front c.place.rest (sym f.whole ∙ c.place.whole)
      (f.length_is ∙ sym c.place.length_is) in
      let all : take count c.place.front ≡ c.place.front = take_all count c.place.front (omega (arith, c.count_is)) in
      cut.0 ∙ (sym all ∙ (sym (take-append-le count c.place.front c.place.rest (omega (arith, c.count_is))) ∙ ap (take count) (sym c.place.whole)))

module _ {I A E : Type 0} (w : Model I A) (code : A → ℕ) (errs : Errors I E) (mode : Modes) (i : I) where
  abbrev RunShown : PResult I I E → Type 0
  RunShown = ShowsMeaning w (IsModelledBy w) (class_meaning w code errs Class.HexDigit (Some Kind.IsA)) (with_outputs true mode) i

  abbrev HexShown : PResult I ℕ E → Type 0
  HexShown = ShowsMeaning w (λ t v. v ≡ t) (hex_meaning w code errs) mode i

  pub hex_err : (f : Answer.Err E (Option E) Needed) (r : PResult I ℕ E) → RunShown (Err f) → r ≡ Err f → HexShown r
  hex_err f r h e = subst HexShown (sym e)
      (plain_err w (IsModelledBy w) (λ t v. v ≡ t) (λ _. true) (FirstEight w code) (class_meaning w code errs Class.HexDigit (Some Kind.IsA)) mode i f h)

  -- the first eight digits of the run
  module _ (j : I) (x : Option I) (run digits : I) (h : RunShown (Ok (j, x))) (e : x ≡ Some run) (d : w.elements digits ≡ take 8 (w.elements run)) where
    abbrev tree : Slice w
    tree = (accepts h).tree

    digits_are : w.elements digits ≡ take 8 tree.items
    digits_are =
        let b = (accepts h).built_is in
        let same : b.0 ≡ run = cc (b.1, e) in
        d ∙ ap (take 8) (ap w.elements (sym same) ∙ b.2.elements_are)

    pub hex_place : (n : ℕ) → n ≡ input_len w digits → IsBoundary w i n
    hex_place n p = subst (IsBoundary w i) (sym (p ∙ ap (items_len w.item_len) digits_are))
        (eight_place w code i (accepts h).length tree (accepts h).answered.0.first)

    pub hex_ok : (n : ℕ) (k : I) (b : Option ℕ) → n ≡ input_len w digits → IsSuffixOf w i n k →
        Built mode.outputs (λ v. v ≡ hex_number code (w.elements digits)) b → HexShown (Ok (k, b))
    hex_ok n k b p r built =
        let number = hex_number code (take 8 tree.items) in
        let length = items_len w.item_len (take 8 tree.items) in
        Shown (Accept length number) (here (Accept (accepts h).length tree) (accepts h).answered ((accepts h).answered.0.first, refl)) (
          k,
          b,
          subst (λ m. IsSuffixOf w i m k) (p ∙ ap (items_len w.item_len) digits_are) r,
          subst (λ xs. Built mode.outputs (λ v. v ≡ hex_number code xs) b) digits_are built,
          refl,
        )
