-- The promises of lists with a separator, on their meanings.
use Rattle.std.specs.Prelude.{◌≡◌, ℕ, ◌<◌, ◌⊎◌, ◌↔◌, Bool, None, List, []}
use Rattle.nom_internal.specs.Prelude.{Model, Accept, Refuse, Meaning}
use Rattle.nom_repeat.specs.Accepted.{InTurn, OneAndMore}

-- What a list of the part m accepts that may be empty: none, where the part refuses; or a first item, and after it just the items
-- that the part p accepts in turn, none of them empty.
abbrev pub AcceptsNoneOrMore : {I A V E : Type 0} → Model I A → Meaning I V E → Meaning I V E → Meaning I (List V) E → Type 0
AcceptsNoneOrMore {I} {V = V} w m p whole = (s : Bool) (i : I) (n : ℕ) (vs : List V) → w.IsKnown i → whole.answers s i (Accept n vs) ↔
    ((m.answers s i Refuse × (n ≡ 0) × (vs ≡ [])) ⊎ OneAndMore w (m.answers s) (InTurn w (p.answers s) (λ a. 0 < a) 0 None) i n vs)
