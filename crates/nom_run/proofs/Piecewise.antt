-- Pieces of a text, one after another.
use Rattle.std.proofs.Common.{◌≡◌, ℕ, ◌+◌, ◌<◌, List, [], ◌++◌, length, take, drop, get_or, Result, Ok, Err, append_assoc}
use Rattle.std.proofs.Common.{refl, sym, ◌∙◌, ap, subst}
use Rattle.std.proofs.lemmas.List.{take-append-drop}
use Rattle.nom_io.specs.Account.{Account}
use Rattle.nom_io.specs.Written.{WroteBut, WroteFront}
use Rattle.nom_io.proofs.Written.{begun_but, begun_longer, but_then, wrote_none}
use Rattle.nom_run.specs.declared.error.RunError.{RunError}
use Rattle.nom_run.specs.Pieces.{Puts}
use Rattle.nom_run.specs.Pieces.Puts.{Added, Broken}
use Rattle.nom_run.specs.Texts.{lines_text}
use Rattle.nom_run.proofs.JoinedLines.{lines-append, lines-more}

-- a text is only held
pub puts_held : {a : Account} {held text left : List ℕ} {x : Unit {0}} → left ≡ held ++ text → Puts a a held text left (Ok x)
puts_held e = Added refl (record { front = []; parts = sym e; wrote = wrote_none })

module _ {a b : Account} {held text left : List ℕ} where
  -- the same text, and the same that was held
  pub puts_same : {other : List ℕ} {r : Result (Unit {0}) RunError} → text ≡ other → Puts a b held text left r → Puts a b held other left r
  puts_same {r = r} e p = subst (λ z. Puts a b held z left r) e p

  pub puts_from : {other : List ℕ} {r : Result (Unit {0}) RunError} → held ≡ other → Puts a b held text left r → Puts a b other text left r
  puts_from {r = r} e p = subst (λ z. Puts a b z text left r) e p

  -- what was held is a part of the text
  pub puts_whole : {r : Result (Unit {0}) RunError} → Puts a b held text left r → Puts a b [] (held ++ text) left r
  puts_whole (Added e w) = Added e w
  puts_whole (Broken e w) = Broken e w

  -- nothing of what follows is added
  pub puts_first : {all other : List ℕ} {e : RunError} (second : List ℕ) → text ++ second ≡ all → Puts a b held text left (Err e) →
      Puts a b held all other (Err e)
  puts_first second whole (Added e w) = absurd (cc (e))
  puts_first second whole (Broken e w) =
      Broken e (subst (WroteFront a b) (append_assoc held text second ∙ ap (λ z. held ++ z) whole) (begun_longer second w))

  -- another text is added after it
  pub puts_both : {c : Account} {second all rest : List ℕ} {x : Unit {0}} {r : Result (Unit {0}) RunError} → text ++ second ≡ all →
      Puts a b held text left (Ok x) → Puts b c left second rest r → Puts a c held all rest r
  puts_both whole (Broken e w) q = absurd (cc (e))
  puts_both {c} {second} {rest = rest} whole (Added d w) (Added e v) = Added e
      (subst (λ t. WroteBut a c t rest) (append_assoc held text second ∙ ap (λ z. held ++ z) whole) (but_then second w v))
  puts_both {c} {second} whole (Added d w) (Broken e v) = Broken e
      (subst (WroteFront a c) (append_assoc held text second ∙ ap (λ z. held ++ z) whole) (begun_but second w v))

-- the lines of one more item, and those of all
module _ {X : Type 0} (line : X → List ℕ) (xs : List X) (i : ℕ) (d : X) (within : i < length xs) (x : X) (is : x ≡ get_or xs i d) where
  pub lines_then : lines_text line (take i xs) ++ line x ≡ lines_text line (take (i + 1) xs)
  lines_then = ap (λ z. lines_text line (take i xs) ++ line z) is ∙ sym (lines-more line xs i d within)

  pub lines_rest : lines_text line (take i xs) ++ (line x ++ lines_text line (drop (i + 1) xs)) ≡ lines_text line xs
  lines_rest = sym (append_assoc (lines_text line (take i xs)) (line x) (lines_text line (drop (i + 1) xs))) ∙
      (ap (λ z. z ++ lines_text line (drop (i + 1) xs)) lines_then ∙ (sym (lines-append line (take (i + 1) xs) (drop (i + 1) xs)) ∙
      ap (lines_text line) (take-append-drop (i + 1) xs)))
