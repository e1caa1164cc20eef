-- Characters are compared as they are.
use Rattle.std.specs.Prelude.{◌≡◌, ℕ, List, map}
use Rattle.std.proofs.Common.{sym, ◌∙◌}
use Rattle.std.proofs.lemmas.List.{map-id}

pub same_characters : (cs ds : List ℕ) → map (λ (c : ℕ). c) cs ≡ map (λ (c : ℕ). c) ds → cs ≡ ds
same_characters cs ds h = sym (map-id cs) ∙ h ∙ map-id ds
