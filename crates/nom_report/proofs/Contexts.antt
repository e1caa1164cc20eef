-- Contexts that are told one after another.
use Rattle.std.proofs.Common.{◌≡◌, ℕ, ◌+◌, ◌<◌, List, [], ◌∷◌, ◌++◌, map, take, length, get_or, refl, sym, ◌∙◌, ap, subst}
use Rattle.std.proofs.Common.{append_assoc, append-nil}
use Rattle.std.specs.List.{flat_map}
use Rattle.std.proofs.lemmas.Grind.{flat_map-append}
use Rattle.std.proofs.lemmas.List.{map_more}
use Rattle.nom_report.specs.Named.{Context}
use Rattle.nom_report.specs.Rendered.{TellsContext, TellsContexts}

tells_then : (source : List ℕ) (start : ℕ) (cs : List Context) (c : Context) (t u : List ℕ) → TellsContexts source start cs t →
    TellsContext source start c u → TellsContexts source start (cs ++ (c ∷ [])) (t ++ u)
tells_then source start [] c t u h k = (u, [], k, refl, ap (λ z. z ++ u) h ∙ sym (append-nil u))
tells_then source start (x ∷ cs) c t u (first, rest, f, r, e) k =
    (first, rest ++ u, f, tells_then source start cs c rest u r k, ap (λ z. z ++ u) e ∙ append_assoc first rest u)

-- one more of the contexts, and the text that has grown by what tells of it
pub told_more : {X : Type 0} (source : List ℕ) (start : ℕ) (f : X → Context) (xs : List X) (i : ℕ) (d : X) (new before begin : List ℕ) →
    i < length xs →
    (t : List ℕ) × TellsContexts source start (map f (take i xs)) t × (before ≡ begin ++ t) →
    (u : List ℕ) × TellsContext source start (f (get_or xs i d)) u × (new ≡ before ++ u) →
    (v : List ℕ) × TellsContexts source start (map f (take (i + 1) xs)) v × (new ≡ begin ++ v)
told_more source start f xs i d new before begin l (t, h, e) (u, k, q) = (
  t ++ u,
  subst (λ cs. TellsContexts source start cs (t ++ u)) (sym (map_more f xs i d l)) (tells_then source start (map f (take i xs)) (f (get_or xs i d)) t u h k),
  q ∙ (ap (λ z. z ++ u) e ∙ append_assoc begin t u),
)

-- one more of the parts of a text
pub each_more : {X Y : Type 0} (text : Y → List ℕ) (f : X → Y) (xs : List X) (i : ℕ) (d : X) → i < length xs →
    flat_map text (map f (take (i + 1) xs)) ≡ flat_map text (map f (take i xs)) ++ text (f (get_or xs i d))
each_more text f xs i d l = ap (flat_map text) (map_more f xs i d l) ∙ (flat_map-append text (map f (take i xs)) (f (get_or xs i d) ∷ [])
    ∙ ap (λ z. flat_map text (map f (take i xs)) ++ z) (append-nil (text (f (get_or xs i d)))))
