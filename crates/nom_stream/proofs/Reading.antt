-- Lemmas on the bytes that are read over several reads.
use Rattle.std.proofs.Common.{◌≡◌, ℕ, List, [], ◌++◌, Option, sym, ◌∙◌, ap, subst}
use Rattle.std.proofs.Common.{append_assoc, append-nil}
use Rattle.std.specs.Io.KnownBytes.{Consumes}
use Rattle.nom_io.proofs.Known.{consumes_more, consumes_none}
use Rattle.nom_stream.specs.declared.stream.Stream.{Stream}
use Rattle.nom_stream.specs.Held.{held_of}
use Rattle.nom_stream.specs.Streams.{Gives}

module _ {R A : Type 0} (left : R → Option (List ℕ)) where
  -- nothing is read where all stays as it is
  pub gives_none : (s t : Stream R A) → t.source ≡ s.source → held_of t.held ≡ held_of s.held → Gives left s t []
  gives_none s t e h = record {
    consumed = subst (λ z. Consumes (left s.source.inner) (left z.inner) []) (sym e) (consumes_none (left s.source.inner));
    added = h ∙ sym (append-nil (held_of s.held));
  }

  -- more was read
  pub gives_more : (s u w t : Stream R A) (xs ys : List ℕ) → Gives left s u xs → w.source ≡ u.source → held_of w.held ≡ held_of u.held →
      Gives left w t ys → Gives left s t (xs ++ ys)
  gives_more s u w t xs ys f e h g = record {
    consumed = consumes_more (left s.source.inner) (left u.source.inner) (left t.source.inner) xs ys f.consumed
        (subst (λ z. Consumes (left z.inner) (left t.source.inner) ys) e g.consumed);
    added = g.added ∙ ap (λ z. z ++ ys) (h ∙ f.added) ∙ append_assoc (held_of s.held) xs ys;
  }
