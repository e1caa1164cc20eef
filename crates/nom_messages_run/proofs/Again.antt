-- Messages that were sent are told by who reads what was written.
use Rattle.std.proofs.Common.{arith, ◌≡◌, ℕ, ◌+◌, ◌-◌, ◌^◌, ◌<◌, ◌≤◌, Bool, true, false, List, [], ◌∷◌, ◌++◌, length, take, drop, map, Option, Some, None}
use Rattle.std.proofs.Common.{Ok, Err, refl, sym, ◌∙◌, ap, subst, inl, inr, append_assoc, append-nil, length-append, lit<}
use Rattle.std.proofs.Math.Seq.{drop-append_seam, take-append_seam}
use Rattle.std.specs.Prelude.{codes}
use Rattle.std.specs.Io.KnownBytes.{Appends}
use Rattle.nom_internal.specs.Prelude.{bytes_lawful, bytes_model, AreValues, IsPinned, IsSuffixOf, NeverTooLarge, Outcome, Accept, items_len}
use Rattle.nom_internal.specs.Prelude.{items_len-ones, itself}
use Rattle.nom_calls.specs.Iterated.{AreItems}
use Rattle.nom_run.specs.Texts.{bytes_text, lines_text}
use Rattle.nom_sink.specs.Lists.{EachForm}
use Rattle.nom_stream.specs.declared.stream.Stop as Why
use Rattle.nom_stream.specs.declared.stream.Stop.TheVariants as Stop
use Rattle.nom_stream.specs.declared.stream.Stream.{Stream}
use Rattle.nom_stream.specs.Held.{last_of}
use Rattle.nom_stream.specs.Items.{Bytes}
use Rattle.nom_stream.specs.Streams.{Decides, ItemResult}
use Rattle.nom_stream.specs.Wholes.{AnswersWhole, AtWhole, BytesOfWhole, Calls, HasLeft, ItemsOfWhole}
use Rattle.nom_write.specs.Reads.{Anything}
use Rattle.nom_write.specs.laws.SequenceReads.{rest_follows}
use Rattle.nom_write_stream.specs.declared.outgoing.Outgoing.{Outgoing}
use Rattle.nom_write_stream.specs.Outgoing.{IsItem, Sends}
use Rattle.nom_write_stream.specs.Pipes.{TellsItems}
use Rattle.nom_write_stream.proofs.Everywhere.{rest_of, values_after}
use Rattle.nom_write_stream.proofs.Piped.{items_of_forms}
use Rattle.nom_write_stream.proofs.Sending.{sends_none, sends_then}
use Rattle.nom_messages_run.specs.declared.protocol.Message.{Message}
use Rattle.nom_messages_run.specs.declared.protocol.Message.TheVariants as Sent
use Rattle.nom_messages_run.specs.Protocol.{Body}
use Rattle.nom_messages_run.specs.Messages.{message_of}
use Rattle.nom_messages_run.specs.declared.messages.Received.{Received}
use Rattle.nom_messages_run.specs.declared.messages.Received.TheVariants.{Ping, Text, Close}
use Rattle.nom_messages_run.specs.Back.{CutsShort, IsReceived, SentReadBack, TellsBack, received}
use Rattle.nom_messages_run.specs.Forms.{IsBody, IsMessage}
use Rattle.nom_messages_run.specs.Pipe.{Ends, Lines, ending_status, ending_text, received_text, stopped}
use Rattle.nom_messages_run.specs.Report.{message_text}
use Rattle.nom_messages_run.specs.Sent.{SentLines}
use Rattle.nom_messages_run.proofs.Answered.{message_lawful, message_outcome, message_steady}
use Rattle.nom_messages_run.proofs.ReadBack.{stream_reads_back}

-- what was sent of messages: forms of them, one after another
abbrev AreSent : List Message → List ℕ → Type 0
AreSent = EachForm (λ m. IsItem (IsMessage m) 259)

one_more : (messages : List Message) (m : Message) (xs ys : List ℕ) → AreSent messages xs → IsItem (IsMessage m) 259 ys →
    AreSent (messages ++ m ∷ []) (xs ++ ys)
one_more [] m xs ys h f = record {
  front = ys;
  back = [];
  whole = ap (λ z. z ++ ys) h ∙ sym (append-nil ys);
  first = f;
  second = refl;
}
one_more (n ∷ messages) m xs ys h f = record {
  front = h.front;
  back = h.back ++ ys;
  whole = ap (λ z. z ++ ys) h.whole ∙ append_assoc h.front h.back ys;
  first = h.first;
  second = one_more messages m h.back ys h.second f;
}

-- none is longer: a text has 255 bytes at the most
body_short : (m : Message) (body : List ℕ) → IsBody m body → AreValues (λ b. b < 256) body → length body ≤ 257
body_short (Sent.Ping number) body h known = omega (arith, ap length h.1, h.2)
body_short (Sent.Text bytes) body h known =
    let values = subst (AreValues (λ b. b < 256)) h known in omega (arith, ap length h, values.1.0)
body_short Sent.Close body h known = omega (arith, ap length h)

short : (most : ℕ) (m : Message) (xs : List ℕ) → IsItem (IsMessage m) most xs → IsItem (IsMessage m) 259 xs
short most m xs i =
    let frame = i.form.2 in
    let values = values_after frame.size i.form.0 (subst (AreValues (λ b. b < 256)) frame.whole i.known.0) in
    let within : length xs ≤ 259 = omega (
      arith,
      ap length frame.whole,
      length-append frame.size i.form.0,
      frame.two,
      body_short m i.form.0 i.form.1 values,
    ) in
    record { form = i.form; some = i.some; fits = within; known = i.known }

module _ {R A W B : Type 0} (left : R → Option (List ℕ)) (contents : W → Option (List ℕ)) (s : Stream R A) (a : Outgoing W B) where
  sent_forms : (messages : List Message) (t : Stream R A) (b : Outgoing W B) → SentLines left contents s a messages t b →
      (xs : List ℕ) × AreSent messages xs × Sends contents a b xs
  sent_forms messages t b SentLines.none = ([], refl, sends_none contents a a refl refl)
  sent_forms messages t b (SentLines.line {messages = before} {b = mid} xs m lines takes says sends) =
      let k = sent_forms before _ mid lines in (
        k.0 ++ sends.0,
        one_more before m k.0 sends.0 k.1 (short mid.most m sends.0 sends.1),
        sends_then contents a mid b k.0 sends.0 k.2 sends.2,
      )

-- they are bytes
values_both : (xs ys : List ℕ) → AreValues (λ b. b < 256) xs → AreValues (λ b. b < 256) ys → AreValues (λ b. b < 256) (xs ++ ys)
values_both [] ys h k = k
values_both (x ∷ xs) ys h k = (h.0, values_both xs ys h.1 k)

sent_values : (messages : List Message) (xs : List ℕ) → AreSent messages xs → AreValues (λ b. b < 256) xs
sent_values [] xs h = subst (AreValues (λ b. b < 256)) (sym h) tt
sent_values (m ∷ messages) xs h =
    subst (AreValues (λ b. b < 256)) (sym h.whole) (values_both h.front h.back (h.first).known.0 (sent_values messages h.back h.second))

-- as a stream has them
as_received : (messages : List Message) (xs : List ℕ) → AreSent messages xs → EachForm (λ v. IsItem (IsReceived v) 259) (map received messages) xs
as_received [] xs h = h
as_received (m ∷ messages) xs h = record {
  front = h.front;
  back = h.back;
  whole = h.whole;
  first = record { form = (m, (h.first).form, refl); some = (h.first).some; fits = (h.first).fits; known = (h.first).known };
  second = as_received messages h.back h.second;
}

-- there is a message, of three bytes
close_item : IsItem (IsReceived Close) 259 (0 ∷ 1 ∷ 3 ∷ [])
close_item = record {
  form = (Sent.Close, (3 ∷ [], refl, record { size = 0 ∷ 1 ∷ []; two = refl; counts = omega arith; whole = refl }), refl);
  some = omega arith;
  fits = omega arith;
  known = ((lit< tt, (lit< tt, (lit< tt, tt))), lit< tt);
}

-- the one output of a tree
output_of : Body → Received
output_of (inl (inl t)) = Ping t.1
output_of (inl (inr t)) = Text (length t.1.items)
output_of (inr t) = Close

one_output : (t : Body) (r : Received) → message_of.IsOutput t r → r ≡ output_of t
unfolding output_of
one_output (inl (inl t)) r h = h.given ∙ ap Ping h.is_output.1
one_output (inl (inr t)) r h = h.given ∙ ap (λ xs. Text (length xs)) h.is_output.elements_are
one_output (inr t) r h = h.given

pinned : IsPinned itself message_of.IsOutput
pinned = record { one_view = λ t a b h k. one_output t a h ∙ sym (one_output t b k) }

never : NeverTooLarge message_of.meaning
never = search

cancel : (xs ys zs : List ℕ) → xs ++ ys ≡ xs ++ zs → ys ≡ zs
cancel [] ys zs e = e
cancel (x ∷ xs) ys zs e = cancel xs ys zs (cc (e))

appended : (a b : Option (List ℕ)) (before taken written : List ℕ) → a ≡ Some before → b ≡ Some (before ++ taken) → Appends a b written → taken ≡ written
appended None b before taken written e f h = absurd (cc (e))
appended (Some a) None before taken written e f h = absurd (cc (f))
appended (Some a) (Some b) before taken written e f h =
    let same : a ≡ before = cc (e) in
    let there : b ≡ before ++ taken = cc (f) in
    cancel before taken written (sym there ∙ (h ∙ ap (λ z. z ++ written) same))

-- a text is the last bytes of its message
line_of : (m : Message) (xs : List ℕ) → IsMessage m xs → received_text (received m) xs ≡ message_text m
line_of (Sent.Ping number) xs h = refl
line_of (Sent.Text bytes) xs h =
    let frame = h.2 in
    let front = frame.size ++ (2 ∷ length bytes.now ∷ []) in
    let whole : xs ≡ front ++ bytes.now =
    frame.whole ∙ (ap (λ z. frame.size ++ z) h.1 ∙ sym (append_assoc frame.size (2 ∷ length bytes.now ∷ []) bytes.now)) in
    let count : length xs - length bytes.now ≡ length front = omega (arith, ap length whole, length-append front bytes.now) in
    ap (bytes_text (codes "text ")) (ap (λ n. drop n xs) count ∙ (ap (λ z. drop (length front) z) whole ∙ drop-append_seam front bytes.now))
line_of Sent.Close xs h = refl

calls_of : List (ℕ × Received) → ItemResult Received → List (ItemResult Received)
calls_of [] r = r ∷ []
calls_of (p ∷ ps) r = Ok (Some p) ∷ calls_of ps r

module _ {R A : Type 0} (left : R → Option (List ℕ)) where
  are_calls : (messages : List (ℕ × Received)) (s t u : Stream R A) (text : List ℕ) (r : ItemResult Received) → Lines left message_of messages s t text →
      Decides left message_of t u r → Calls left message_of (calls_of messages r) s u
  unfolding calls_of
  are_calls [] s t u text r h d = (u, subst (λ z. Decides left message_of z u r) h.0 d, refl)
  are_calls ((n, o) ∷ messages) s t u text r h d = (h.0, h.1, are_calls messages h.0 t u h.2.0 r h.2.2 d)

  module _ (answers : AnswersWhole A left message_of) (items : ItemsOfWhole A left message_of) (bytes : BytesOfWhole A left message_of) where
    -- of one message: it is told, its bytes are lent, and those after it are left
    pub record IsNextMessage (s u : Stream R A) (n : ℕ) (o : Received) (m : Message) (xs rest : List ℕ) : Type 0 where
      pub is : o ≡ received m
      pub lent : last_of n u.held ≡ xs
      pub place : Bytes
      pub known : bytes_model.IsKnown place
      pub after : place.now ≡ rest
      pub left_then : HasLeft left u place.now
      pub offset : u.offset ≤ 2 ^ 64 - 1

    at_whole : (complete : Bool) (whole : Bytes) (p : Outcome Body) (n : ℕ) (t : Body) → message_of.meaning.answers true whole p → p ≡ Accept n t →
        AtWhole message_of.meaning complete whole (Accept n t)
    at_whole false whole p n t a e = subst (message_of.meaning.answers true whole) e a
    at_whole true whole p n t a e = inl (subst (message_of.meaning.answers true whole) e a, λ h. h)

    is_told : (s u : Stream R A) (n : ℕ) (o : Received) → Decides left message_of s u (Ok (Some (n, o))) → (m : Message) (xs rest : List ℕ) →
        IsMessage m xs → (whole : Bytes) → bytes_model.IsKnown whole → whole.now ≡ xs ++ rest → HasLeft left s whole.now → s.offset ≤ 2 ^ 64 - 1 →
        IsNextMessage s u n o m xs rest
    is_told s u n o d m xs rest form whole known e has low =
        let p = message_outcome.outcome whole known in
        let took = (stream_reads_back.reads (received m) xs (m, form, refl) true).read whole rest p.0 known e tt p.1 in
        let size = items_len bytes_model.item_len xs in
        let at = at_whole s.settings.complete whole p.0 size took.0 p.1 took.1 in
        let told = answers s u (Ok (Some (n, o))) d whole known has (Accept size took.0) at in
        let both : ◌≡◌ {A = Outcome Body} (Accept n told.0) (Accept size took.0) = told.2 in
        let long : n ≡ size = cc (both) in
        let same : told.0 ≡ took.0 = cc (both) in
        let count : n ≡ length xs = long ∙ items_len-ones xs in
        let next = rest_of whole size known (message_lawful.within true whole size took.0 known (subst (message_of.meaning.answers true whole) took.1 p.1)) in
        let one : AreItems bytes_model (AtWhole message_of.meaning s.settings.complete) 1 whole (took.0 ∷ []) = (size, next.0, at, next.1, refl) in
        let k = items s u (Ok (Some (n, o)) ∷ []) (u, d, refl) whole known has low 0 (took.0 ∷ []) one in
        let used : n + 0 ≡ size = omega (arith, long) in
        let begins = subst (λ z. IsSuffixOf bytes_model whole z k.place) used k.begins in
        let counted : u.offset ≤ 2 ^ 64 - 1 = omega (arith, d.offset) in
        record {
          is = one_output told.0 o told.1 ∙ (ap output_of same ∙ sym (one_output took.0 (received m) took.2));
          lent = bytes s u n o d whole.now has ∙ (ap (λ z. take z whole.now) count ∙ (ap (λ z. take (length xs) z) e ∙ take-append_seam xs rest));
          place = k.place;
          known = begins.known;
          after = rest_follows bytes_model bytes_lawful whole k.place xs rest e begins;
          left_then = k.left_then;
          offset = counted;
        }

    abbrev AreReceived : Type 0 → List Message → List (ItemResult Received) → Type 0
    AreReceived Short ms rs = TellsItems itself (Unit {0}) Short (map received ms) rs

    pub record Listed (Short : Type 0) (messages : List Message) (text : List ℕ) (r : ItemResult Received) : Type 0 where
      pub first : List Message
      pub others : List Message
      pub all : messages ≡ first ++ others
      pub lines : text ≡ lines_text message_text first
      pub last : AreReceived Short others (r ∷ [])

    listed : (Short : Type 0) (given : List (ℕ × Received)) (messages : List Message) (whole : Bytes) → bytes_model.IsKnown whole →
        AreSent messages whole.now → (s t : Stream R A) (text : List ℕ) → Lines left message_of given s t text → HasLeft left s whole.now →
        s.offset ≤ 2 ^ 64 - 1 → (r : ItemResult Received) → AreReceived Short messages (calls_of given r) → Listed Short messages text r
    unfolding calls_of
    listed Short [] messages whole known h s t text lines has low r tells = record {
      first = [];
      others = messages;
      all = refl;
      lines = lines.1;
      last = tells;
    }
    listed Short ((n, o) ∷ given) [] whole known h s t text lines has low r tells = absurd tells
    listed Short ((n, o) ∷ given) (m ∷ messages) whole known h s t text lines has low r tells =
        let k = is_told s lines.0 n o lines.1 m h.front h.back (h.first).form whole known h.whole has low in
        let rest = listed Short given messages k.place k.known (subst (AreSent messages) (sym k.after) h.second) lines.0 t lines.2.0 lines.2.2
        k.left_then k.offset r tells.1 in
        let line : received_text o (last_of n (lines.0).held) ≡ message_text m =
        ap (λ z. received_text z (last_of n (lines.0).held)) k.is ∙ (ap (received_text (received m)) k.lent ∙ line_of m h.front (h.first).form) in
        record {
          first = m ∷ rest.first;
          others = rest.others;
          all = ap (λ z. m ∷ z) rest.all;
          lines = lines.2.1 ∙ (ap (λ z. z ++ lines.2.0) line ∙ ap (λ z. message_text m ++ z) rest.lines);
          last = rest.last;
        }

    module _ (most : ℕ) (messages : List Message) (lines : List ℕ) (offset : ℕ) where
      abbrev TellsSo : Option Why.Stop → Type 0
      TellsSo why = TellsBack messages most offset (lines ++ ending_text why offset) (ending_status why)

      told_all : (others : List Message) → (k : Listed (most < 259) messages lines (Ok None)) → k.others ≡ others →
          AreReceived (most < 259) others (Ok None ∷ []) → TellsSo None
      told_all [] k e h = TellsBack.Whole (ap (λ z. z ++ ending_text None offset) (k.lines ∙ ap (lines_text message_text)
          (sym (append-nil k.first) ∙ (ap (λ z. k.first ++ z) (sym e) ∙ sym k.all)))) refl
      told_all (m ∷ others) k e h = absurd h

      told_some : (why : Why.Stop) (k : Listed (most < 259) messages lines (Err why)) → CutsShort most why → ending_status (Some why) ≡ 3 →
          TellsSo (Some why)
      told_some why k h is = TellsBack.Short k.first k.others why k.all h (ap (λ z. z ++ ending_text (Some why) offset) k.lines) is

      cuts_short : (why : Why.Stop) (others : List Message) → AreReceived (most < 259) others (Err why ∷ []) →
          CutsShort most why × (ending_status (Some why) ≡ 3)
      cuts_short (Stop.Refused kind len) [] h = absurd h
      cuts_short (Stop.Refused kind len) (m ∷ others) h = absurd h
      cuts_short (Stop.Failed kind len) [] h = absurd h
      cuts_short (Stop.Failed kind len) (m ∷ others) h = absurd h
      cuts_short Stop.Nothing [] h = absurd h
      cuts_short Stop.Nothing (m ∷ others) h = absurd h
      cuts_short (Stop.Incomplete needed) [] h = absurd h
      cuts_short (Stop.Incomplete needed) (m ∷ others) h = absurd h
      cuts_short Stop.TooLong [] h = (h.0, refl)
      cuts_short Stop.TooLong (m ∷ others) h = (h.0, refl)
      cuts_short (Stop.Fault error) others h = (tt, refl)
      cuts_short Stop.OutOfMemory others h = (tt, refl)

      told_by : (why : Option Why.Stop) → Listed (most < 259) messages lines (stopped why) → TellsSo why
      told_by None k = told_all k.others k refl k.last
      told_by (Some why) k = let c = cuts_short why k.others k.last in told_some why k c.0 c.1

    -- what is told where a stream has forms of messages
    tells_back : (messages : List Message) (xs : List ℕ) → AreSent messages xs → length xs < 2 ^ 63 → (s t : Stream R A) (text : List ℕ) (status : ℕ) →
        HasLeft left s xs → s.offset ≤ 2 ^ 64 - 1 → Ends left message_of s t text status → TellsBack messages s.settings.most t.offset text status
    tells_back messages xs h few s t text status has low e =
        let whole : Bytes = record { ref_ptr = (0, 0); now = xs } in
        let calls = are_calls e.messages s e.before t e.lines (stopped e.why) e.listed e.last in
        let tells = items_of_forms itself (Unit {0}) message_of message_lawful message_steady (λ _. pinned) never message_outcome IsReceived Anything
        (λ rest. tt) stream_reads_back A left 259 Close (0 ∷ 1 ∷ 3 ∷ []) close_item (map received messages) xs (as_received messages xs h) s t
        (calls_of e.messages (stopped e.why)) has calls in
        let k = listed (s.settings.most < 259) e.messages messages whole (sent_values messages xs h, few) h s e.before
        e.lines e.listed has low (stopped e.why) tells in
        subst (λ z. TellsBack messages s.settings.most t.offset text z) (sym e.status_is)
        (subst (λ z. TellsBack messages s.settings.most t.offset z (ending_status e.why)) (sym e.text_is)
        (told_by s.settings.most messages e.lines t.offset e.why k))

module _ (A B C : Type 0) {R W S : Type 0} (left : R → Option (List ℕ)) (contents : W → Option (List ℕ)) (left' : S → Option (List ℕ))
    (answers : AnswersWhole C left' message_of) (items : ItemsOfWhole C left' message_of) (bytes : BytesOfWhole C left' message_of) where
  pub sent_read_back : SentReadBack A B C left contents left'
  sent_read_back s t a b h sent before taken none none' was is few u v old new status has low wrote =
      let until = sent.until in
      let k = sent_forms left contents s a until.messages until.stream until.outgoing until.lines in
      let rest = sends_then contents until.outgoing sent.outgoing b [] [] until.nothing sent.nothing in
      let all = sends_then contents a until.outgoing b k.0 [] k.2 rest in
      let took : taken ≡ all.0 = appended (contents a.target.inner) (contents b.target.inner) before taken all.0 was is all.2 in
      let whole : k.0 ≡ all.0 = sym (append-nil k.0) ∙ (ap (λ z. z ++ (k.0 ++ [])) (sym none) ∙ (all.1 ∙ (ap (λ z. all.0 ++ z) none' ∙
      append-nil all.0))) in
      let same : taken ≡ k.0 = took ∙ sym whole in (
        wrote.0,
        wrote.2,
        tells_back left' answers items bytes until.messages k.0 k.1 (subst (λ z. length z < 2 ^ 63) same few) u v wrote.0 status
            (subst (HasLeft left' u) same has) low wrote.1,
      )
