-- Lemmas on sending: what was held is written, and an item is added, one step after another.
use Rattle.std.proofs.Common.{◌≡◌, ℕ, List, [], ◌++◌, Option, sym, ◌∙◌, ap, subst, append_assoc, append-nil}
use Rattle.std.specs.Io.KnownBytes.{Appends}
use Rattle.nom_write_stream.specs.declared.outgoing.Outgoing.{Outgoing}
use Rattle.nom_write_stream.specs.Outgoing.{Sends, held_of}
use Rattle.nom_io.specs.Faults.{NoFault}
use Rattle.nom_io.proofs.Known.{appends_more, appends_none}

module _ {W A : Type 0} (contents : W → Option (List ℕ)) where
  -- nothing is written, and these bytes are held more
  pub sends_added : (a b : Outgoing W A) (xs : List ℕ) → held_of b ≡ held_of a ++ xs → b.target ≡ a.target → Sends contents a b xs
  sends_added a b xs h t = (
    [],
    sym h,
    subst (λ z. Appends (contents a.target.inner) (contents z.inner) []) (sym t) (appends_none (contents a.target.inner)),
  )

  pub sends_none : (a b : Outgoing W A) → held_of b ≡ held_of a → b.target ≡ a.target → Sends contents a b []
  sends_none a b h t = sends_added a b [] (h ∙ sym (append-nil (held_of a))) t

  pub sends_then : (a b c : Outgoing W A) (xs ys : List ℕ) → Sends contents a b xs → Sends contents b c ys → Sends contents a c (xs ++ ys)
  sends_then a b c xs ys p q = (
    p.0 ++ q.0,
    sym (append_assoc (held_of a) xs ys) ∙ (ap (λ z. z ++ ys) p.1 ∙ (append_assoc p.0 (held_of b) ys ∙ (ap (λ z. p.0 ++ z) q.1 ∙
        sym (append_assoc p.0 q.0 (held_of c))))),
    appends_more (contents a.target.inner) (contents b.target.inner) (contents c.target.inner) p.0 q.0 p.2 q.2,
  )

-- no call was made
pub no_call : {W A : Type 0} (a b : Outgoing W A) → b.target ≡ a.target → NoFault a.target.faults b.target.faults
no_call a b t = (ap (λ z. z.faults.count) t, ap (λ z. z.faults.last) t)
