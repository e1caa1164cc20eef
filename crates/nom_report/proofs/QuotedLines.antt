-- The lines of texts, by what std's words say of characters that are sought.
use Rattle.std.proofs.Common.{◌≡◌, ℕ, List, ◌∷◌, ◌++◌, None, eqb, take, drop, sym, ◌∙◌, ap, subst, refl, lit<}
use Rattle.std.specs.Str.{NoCharPasses}
use Rattle.std.specs.Str.Pattern.{FindsChar, RFindsChar, FindsCharSuffix, SplitsAroundMatch}
use Rattle.std.proofs.lemmas.List.{take-append-drop}
use Rattle.std.proofs.lemmas.Str.Pattern.{NoCharPasses-char, drop_at_char, strip_suffix_char}
use Rattle.nom_report.specs.Quotes.{HasNoEnd, IsLastLine, IsFirstLine, IsWithoutReturn}
use Rattle.nom_report.specs.Quotes.IsLastLine.{IsAll, IsAfterEnd}
use Rattle.nom_report.specs.Quotes.IsFirstLine.{IsRest, IsBeforeEnd}
use Rattle.nom_report.specs.Quotes.IsWithoutReturn.{HasNone}

no_end : (bs : List ℕ) → NoCharPasses (λ d. eqb d 10) bs → HasNoEnd bs
no_end bs h i l = NoCharPasses-char 10 bs i h (lit< tt) l

pub last_is : (bs front back : List ℕ) → SplitsAroundMatch (RFindsChar 10) bs front back → IsLastLine bs back
last_is bs front back (i, j, f, e, k, le, l, m) =
    let at_end : drop i bs ≡ 10 ∷ back = drop_at_char 10 bs i j f.1 (lit< tt) ∙ ap (λ z. 10 ∷ z) (sym k) in
    IsAfterEnd (take i bs) (sym (take-append-drop i bs) ∙ ap (λ z. take i bs ++ z) at_end) (subst HasNoEnd (sym k) (no_end (drop j bs) f.0))

pub last_is_all : (bs : List ℕ) → RFindsChar 10 bs None → IsLastLine bs bs
last_is_all bs h = IsAll refl (no_end bs h)

pub no_return : (bs : List ℕ) → FindsCharSuffix 13 bs None → IsWithoutReturn bs bs
no_return bs h = HasNone (strip_suffix_char 13 bs None h (lit< tt)) refl

pub first_is_all : (bs : List ℕ) → FindsChar 10 bs None → IsFirstLine bs bs
first_is_all bs h = IsRest refl (no_end bs h)

pub first_is : (bs front back line : List ℕ) → SplitsAroundMatch (FindsChar 10) bs front back → IsWithoutReturn front line → IsFirstLine bs line
first_is bs front back line (i, j, f, e, k, le, l, m) w =
    let at_end : drop i bs ≡ 10 ∷ back = drop_at_char 10 bs i j f.1 (lit< tt) ∙ ap (λ z. 10 ∷ z) (sym k) in
    let whole : bs ≡ front ++ (10 ∷ back) = sym (take-append-drop i bs) ∙ (ap (λ z. take i bs ++ z) at_end ∙ ap (λ z. z ++ (10 ∷ back)) (sym e)) in
    IsBeforeEnd front back whole (subst HasNoEnd (sym e) (no_end (take i bs) f.0)) w
