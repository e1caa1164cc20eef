-- One item is added to what is held.
use Rattle.std.proofs.Common.{arith, ◌≡◌, ℕ, ◌+◌, ◌<◌, ◌≤◌, List, ◌++◌, length, None, refl, ap, subst, inl, inr}
use Rattle.std.proofs.Common.{length-append}
use Rattle.nom_internal.specs.Prelude.{AreValues}
use Rattle.nom_sink.specs.declared.error.WriteError.{WriteError}
use Rattle.nom_sink.specs.declared.error.WriteError.TheVariants as Write
use Rattle.nom_sink.specs.Written.{Space}
use Rattle.nom_sink.specs.Written.Lack.{OfSpace}
use Rattle.nom_write_stream.specs.Outgoing.{FitsInput, IsItem, NoRoom}
use Rattle.nom_write_stream.specs.Reasons.{why_unwritten}
use Rattle.nom_write_stream.proofs.Everywhere.{values_after}

full : (e : WriteError) (start : ℕ) → why_unwritten e start ≡ None → e ≡ Write.Full
full Write.OutOfMemory start h = absurd (cc (h))
full Write.Full start h = refl
full (Write.TooLong n) start h = absurd (cc (h))
full (Write.Mismatch n) start h = absurd (cc (h))

module _ (Form : List ℕ → Type 0) (Fails : Space → WriteError → Type 0) (most start last : ℕ) (old xs new : List ℕ) (starts : start ≡ length old)
    (ends : last ≡ length new) (added : new ≡ old ++ xs) (form : Form xs) where
  longer : last ≡ start + length xs
  longer = omega (arith, starts, ends, ap length added, length-append old xs)

  -- there was no room for it
  pub too_long : most < last → NoRoom Form Fails most (length old)
  too_long over = inr (xs, form, omega (arith, over, longer, starts))

  -- there was
  pub added_item : last ≤ most → (last ≡ start → ⊥) → FitsInput new → (ys : List ℕ) × IsItem Form most ys × (new ≡ old ++ ys)
  added_item within some known = (
    xs,
    record {
      form = form;
      some = omega (arith, longer, some);
      fits = omega (arith, longer, within);
      known = (values_after old xs (subst (AreValues (λ b. b < 256)) added known.0), omega (arith, known.1, ap length added, length-append old xs));
    },
    added,
  )

-- there is no room in the memory that is taken
pub no_room_now : (Form : List ℕ → Type 0) (Fails : Space → WriteError → Type 0) (most room start from : ℕ) (e : WriteError) →
    why_unwritten e from ≡ None →
    most ≤ room → Fails (record { lack = OfSpace; room = room; start = start }) e → NoRoom Form Fails most start
no_room_now Form Fails most room start from e none enough f = inl (record {
  room = room;
  enough = enough;
  fails = subst (Fails (record { lack = OfSpace; room = room; start = start })) (full e from none) f;
})
