-- Why a frame isn't written, by what its writer says.
use Rattle.std.proofs.Common.{arith, ◌≡◌, ℕ, ◌+◌, ◌<◌, ◌⊎◌, List, [], length, Option, Result, Ok, Err, IfErr, ap, inl, inr, length-append}
use Rattle.nom_internal.specs.Prelude.{bytes_model}
use Rattle.nom.specs.grammars.Bytes.{Bytes}
use Rattle.nom_number.specs.Numbers.{binary_number}
use Rattle.nom_number.specs.declared.order.Endianness.{Endianness}
use Rattle.nom_sink.specs.declared.error.WriteError.{WriteError}
use Rattle.nom_sink.specs.declared.error.WriteError.TheVariants as Write
use Rattle.nom_sink.specs.Parts.{Both, BothFail}
use Rattle.nom_sink.specs.Written.{LacksRoom, Space}
use Rattle.nom_sink.specs.Written.Lack.{OfSpace}
use Rattle.nom_write.specs.Lengths.{FormOfSize, SizeFails}
use Rattle.nom_write.specs.Reads.{Holds}
use Rattle.nom_write_stream.specs.declared.outgoing.Outgoing.{Outgoing}
use Rattle.nom_write_stream.specs.declared.outgoing.Unwritten.{Unwritten}
use Rattle.nom_write_stream.specs.declared.outgoing.Unwritten.TheVariants.{TooLong, Mismatch, Nothing, OverLimit, Fault, OutOfMemory}
use Rattle.nom_write_stream.specs.Outgoing.{WritesItem, CountsUnwritten, FailsWith, NoRoom, WhyNot}
use Rattle.nom_messages_run.specs.Sent.{SendsNone, WhyUnframed}

-- Bytes after their length, as the writer of these has it.
module _ (order : Endianness) (body : Bytes) where
  abbrev Size : ℕ → List ℕ → Type 0
  Size n xs = (length xs ≡ 2) × (binary_number order xs ≡ n)

  abbrev SizeLacks : ℕ → Space → WriteError → Type 0
  SizeLacks n s e = LacksRoom 2 s e ⊎ (⊥ × (e ≡ Write.TooLong s.start))

  abbrev pub FrameForm : List ℕ → Type 0
  FrameForm = Both (FormOfSize (λ n. n) Size (length body.now)) (Holds bytes_model body)

  abbrev pub FrameFails : Space → WriteError → Type 0
  FrameFails = BothFail (FormOfSize (λ n. n) Size (length body.now)) (SizeFails (λ n. n) (λ n. 65535 < n) SizeLacks (length body.now))
      (LacksRoom (length body.now))

  frame_len : (xs : List ℕ) → FrameForm xs → length xs ≡ 2 + length body.now
  frame_len xs f = omega (arith, ap length f.whole, length-append f.front f.back, f.first.2.0, ap length f.second.elements_are)

  -- there is too little room, or the length can't say how many they are
  told : (room start : ℕ) (e : WriteError) → FrameFails (record { lack = OfSpace; room = room; start = start }) e →
      ((e ≡ Write.Full) × (room < start + (2 + length body.now))) ⊎ ((65535 < length body.now) × (e ≡ Write.TooLong start))
  told room start e (inl (inl f)) = inr f
  told room start e (inl (inr (k, size, inl f))) = inl (f.0, omega (arith, f.1))
  told room start e (inl (inr (k, size, inr f))) = absurd f.0
  told room start e (inr (xs, form, f)) = inl (f.0, omega (arith, f.1, form.2.0))

  module _ {W B : Type 0} (a b : Outgoing W B) where
    too_long : (start place : ℕ) → FailsWith FrameForm FrameFails a.most start (Write.TooLong place) → 65535 < length body.now
    too_long start place w = by (told w.room start (Write.TooLong place) w.fails)
      where
        by : ((Write.TooLong place ≡ Write.Full) × (w.room < start + (2 + length body.now))) ⊎
            ((65535 < length body.now) × (Write.TooLong place ≡ Write.TooLong start)) → 65535 < length body.now
        by (inl f) = absurd (cc (f.0))
        by (inr f) = f.0

    never : (start : ℕ) (e : WriteError) → (e ≡ Write.Full → ⊥) → (e ≡ Write.TooLong start → ⊥) →
        FailsWith FrameForm FrameFails a.most start e → ⊥
    never start e full long w = by (told w.room start e w.fails)
      where
        by : ((e ≡ Write.Full) × (w.room < start + (2 + length body.now))) ⊎ ((65535 < length body.now) × (e ≡ Write.TooLong start)) → ⊥
        by (inl f) = full f.0
        by (inr f) = long f.1

    over : NoRoom FrameForm FrameFails a.most 0 → a.most < 2 + length body.now
    over (inl w) = by (told w.room 0 Write.Full w.fails)
      where
        by : ((Write.Full ≡ Write.Full) × (w.room < 0 + (2 + length body.now))) ⊎ ((65535 < length body.now) × (Write.Full ≡ Write.TooLong 0)) →
            a.most < 2 + length body.now
        by (inl f) = omega (arith, f.1, w.enough)
        by (inr f) = absurd (cc (f.1))
    over (inr (xs, form, long)) = omega (arith, long, frame_len xs form)

    unframed : (why : Unwritten) → WhyNot FrameForm FrameFails a.most why → CountsUnwritten a b why → WhyUnframed a b body.now why
    unframed (TooLong at) w n = (too_long w.0 w.1 w.3, n)
    unframed (Mismatch at) w n = never w.0 (Write.Mismatch w.1) (λ e. absurd (cc (e))) (λ e. absurd (cc (e))) w.3
    unframed Nothing w n = absurd (omega (arith, frame_len [] w))
    unframed OverLimit w n = (over w, n)
    unframed (Fault e) w n = n
    unframed OutOfMemory w n = never w.0 Write.OutOfMemory (λ e. absurd (cc (e))) (λ e. absurd (cc (e))) w.2

    pub not_framed : (contents : W → Option (List ℕ)) (r : Result (Unit {0}) Unwritten) → WritesItem contents a b FrameForm FrameFails r →
        IfErr r (λ why. SendsNone contents a b × WhyUnframed a b body.now why)
    not_framed contents (Ok x) h = tt
    not_framed contents (Err why) h = (h.0, unframed why h.1 h.2)
