-- Lines whose messages were sent, one more at a time.
use Rattle.std.proofs.Common.{arith, ◌≡◌, ℕ, ◌+◌, ◌≤◌, List, [], ◌∷◌, ◌++◌, length, Option, refl, length-append}
use Rattle.std.specs.List.{All}
use Rattle.std.proofs.lemmas.List.Elements.{All-nil, All-push}
use Rattle.nom_stream.specs.declared.stream.Stream.{Stream}
use Rattle.nom_write_stream.specs.declared.outgoing.Outgoing.{Outgoing}
use Rattle.nom_messages_run.specs.declared.protocol.Message.{Message}
use Rattle.nom_messages_run.specs.Forms.{body_len}
use Rattle.nom_messages_run.specs.Sent.{SaysMessage, SendsMessage, SentLines, TakesLine}

abbrev pub Fit : ℕ → List Message → Type 0
Fit room messages = All (λ m. body_len m ≤ room) messages

module _ {R A W B : Type 0} (left : R → Option (List ℕ)) (contents : W → Option (List ℕ)) (s : Stream R A) (a : Outgoing W B) where
  -- so many lines came, and their messages were sent; there is memory for the body of each
  pub record Going (count room : ℕ) (t : Stream R A) (b : Outgoing W B) : Type 0 where
    pub messages : List Message
    pub counted : length messages ≡ count
    pub lines : SentLines left contents s a messages t b
    pub within : Fit room messages

  pub none_yet : (room : ℕ) → Going 0 room s a
  none_yet room = record { messages = []; counted = refl; lines = SentLines.none; within = All-nil (λ m. body_len m ≤ room) }

  pub one_more : (count room room' : ℕ) (t u : Stream R A) (b c : Outgoing W B) → Going count room t b → (xs : List ℕ) (m : Message) →
      TakesLine left t u xs → SaysMessage xs m → SendsMessage contents b c m → room ≤ room' → body_len m ≤ room' → Going (count + 1) room' u c
  one_more count room room' t u b c g xs m takes says sends grows fits = record {
    messages = g.messages ++ m ∷ [];
    counted = omega (arith, g.counted, length-append g.messages (m ∷ []));
    lines = SentLines.line xs m g.lines takes says sends;
    within = All-push (λ m. body_len m ≤ room') g.messages m (λ k d h. omega (arith, grows, g.within k d h)) fits;
  }
