-- The bytes of messages are read back, by the parts of their grammar.
use Rattle.std.specs.Prelude.{◌≡◌, ℕ, ◌-◌, ◌<◌, ◌^◌, List, [], ◌∷◌, ◌++◌, length, Some, refl}
use Rattle.std.proofs.Common.{arith, sym, ◌∙◌, ap, subst, inl, inr, length-append, lit<}
use Rattle.nom_internal.specs.Prelude.{bytes_lawful, bytes_model, AreValues, IsOne, Slice}
use Rattle.nom.specs.grammars.Bytes.{Big, Bytes, BytesGrammar, all_consuming_of, alt_of, length_data_of, length_value_of, map_of, number_of, or_of}
use Rattle.nom.specs.grammars.Bytes.{pair_of, plain_errors, preceded_of, tag_of}
use Rattle.nom_multi.specs.Lengths.{HasSize}
use Rattle.nom_number.specs.Numbers.{binary_number}
use Rattle.nom_sink.specs.declared.error.WriteError.{WriteError}
use Rattle.nom_sink.specs.declared.error.WriteError.TheVariants as Write
use Rattle.nom_sink.specs.Choices.{Either, IsUnfit}
use Rattle.nom_sink.specs.Parts.{AfterLength, Both}
use Rattle.nom_sink.specs.Written.{Space}
use Rattle.nom_sink.specs.Written.Lack.{OfSpace}
use Rattle.nom_write.specs.FirstSets.{HasFirst}
use Rattle.nom_write.specs.Lengths.{FormOfSize}
use Rattle.nom_write.specs.Reads.{Anything, Holds, Reads}
use Rattle.nom_write.specs.laws.ChoiceReads.{alt_reads, either_reads, map_back_reads}
use Rattle.nom_write.specs.laws.FirstSetLaws.{both_begins, differ_apart, or_begins, fixed_begins, map_begins}
use Rattle.nom_write.specs.laws.FirstSetLaws.{pair_begins, preceded_begins, tag_starts}
use Rattle.nom_write.specs.laws.LeafReads.{binary_reads, tag_reads, tag_reads_some}
use Rattle.nom_write.specs.laws.LengthReads.{length_data_reads, length_value_reads}
use Rattle.nom_write.specs.laws.SequenceReads.{pair_reads, preceded_reads}
use Rattle.nom_write.specs.laws.WholeReads.{whole_reads}
use Rattle.nom_write_stream.proofs.Everywhere.{values_after}
use Rattle.nom_messages_run.specs.Protocol.{Body}
use Rattle.nom_messages_run.specs.declared.protocol.Message.{Message}
use Rattle.nom_messages_run.specs.declared.protocol.Message.TheVariants as Sent
use Rattle.nom_messages_run.specs.declared.messages.Received.TheVariants as Received
use Rattle.nom_messages_run.specs.Forms.{IsBody, IsMessage}
use Rattle.nom_messages_run.specs.Back.{FileReadsBack, StreamReadsBack, received}

-- a number's bytes, the highest first
abbrev Number : (count : ℕ) → ℕ → List ℕ → Type 0
Number count n xs = (length xs ≡ count) × (binary_number Big xs ≡ n)

number_reads : (count : ℕ) → Reads bytes_model (number_of Big count) (Number count) Anything
number_reads count = binary_reads bytes_model plain_errors (λ n. n) Big count

pub one_size : (count : ℕ) → IsOne (HasSize (number_of Big count).IsOutput (λ n. n))
one_size count = λ u m n p q. cc (p.size_is, q.size_is, p.is_output, q.is_output)

-- the byte of a kind
abbrev Kind : ℕ → Bytes → List ℕ → Type 0
Kind kind v xs = (xs ≡ kind ∷ []) × Holds bytes_model v (kind ∷ [])

abbrev Counted : Bytes → List ℕ → Type 0
Counted v = Both (FormOfSize (λ n. n) (Number 1) (length v.now)) (Holds bytes_model v)

pub values_before : (xs ys : List ℕ) → AreValues (λ b. b < 256) (xs ++ ys) → AreValues (λ b. b < 256) xs
values_before [] ys h = tt
values_before (x ∷ xs) ys h = (h.0, values_before xs ys h.1)

-- whatever the reason why one kind isn't another
abbrev Any : {M : Type 0} → M → Space → WriteError → Type 0
Any v s e = Unit {0}

module _ {M : Type 0} (ping : ℕ → M) (text : Bytes → M) (close : M) where
  abbrev ping_of : BytesGrammar (Slice bytes_model × ℕ) M
  ping_of = map_of (λ o. ping o.1) (pair_of (tag_of (1 ∷ [])) (number_of Big 4))

  abbrev text_of : BytesGrammar (ℕ × Slice bytes_model) M
  text_of = map_of text (preceded_of (tag_of (2 ∷ [])) (length_data_of (number_of Big 1)))

  abbrev close_of : BytesGrammar (Slice bytes_model) M
  close_of = map_of (λ _. close) (tag_of (3 ∷ []))

  abbrev PingForm : M → List ℕ → Type 0
  PingForm v xs = (x : Bytes × ℕ) × (v ≡ ping x.1) × Both (Kind 1 x.0) (Number 4 x.1) xs

  abbrev TextForm : M → List ℕ → Type 0
  TextForm v xs = (x : Bytes) × (v ≡ text x) × Both (λ ys. ys ≡ 2 ∷ []) (Counted x) xs

  abbrev CloseForm : M → List ℕ → Type 0
  CloseForm v xs = (x : Bytes) × (v ≡ close) × Kind 3 x xs

  ping_reads : Reads bytes_model ping_of PingForm Anything
  ping_reads = map_back_reads (λ _. Unit {0}) (λ o v. v ≡ ping o.1) (λ v x. v ≡ ping x.1) (λ v x h. h)
      (pair_reads bytes_lawful {First = Anything} {Next = Anything} (λ ys rest f n. tt) (tag_reads plain_errors (1 ∷ [])) (number_reads 4))

  text_reads : Reads bytes_model text_of TextForm Anything
  text_reads = map_back_reads (λ _. Unit {0}) (λ o v. v ≡ text o) (λ v x. v ≡ text x) (λ v x h. h)
      (preceded_reads bytes_lawful (tag_reads_some plain_errors (2 ∷ [])) (length_data_reads bytes_lawful plain_errors (λ n. n) (one_size 1)
      (λ rest. tt) (number_reads 1) (λ count xs. Some (count - length xs)) (λ m n. refl)))

  close_reads : Reads bytes_model close_of CloseForm Anything
  close_reads = map_back_reads (λ _. Unit {0}) (λ o v. v ≡ close) (λ v x. v ≡ close) (λ v x h. h) (tag_reads plain_errors (3 ∷ []))

  ping_begins : HasFirst bytes_model (λ c. c) ping_of PingForm (Some ((1 ∷ []) ∷ []))
  ping_begins = map_begins (both_begins (pair_begins (fixed_begins (λ c. c) (1 ∷ []) (λ v xs f. f.0) (tag_starts plain_errors (1 ∷ []))) (number_of Big 4)))

  text_begins : HasFirst bytes_model (λ c. c) text_of TextForm (Some ((2 ∷ []) ∷ []))
  text_begins = map_begins (preceded_begins (λ c. c) (tag_of (2 ∷ [])) (2 ∷ []) (tag_starts plain_errors (2 ∷ [])))

  close_begins : HasFirst bytes_model (λ c. c) close_of CloseForm (Some ((3 ∷ []) ∷ []))
  close_begins = map_begins (fixed_begins (λ c. c) (3 ∷ []) (λ v xs f. f.0) (tag_starts plain_errors (3 ∷ [])))

  abbrev BodyForm : M → List ℕ → Type 0
  BodyForm v = Either (Either (PingForm v) (Any v) (TextForm v)) (Any v) (CloseForm v)

  two_begins : HasFirst bytes_model (λ c. c) (or_of ping_of text_of) (λ v. Either (PingForm v) (Any v) (TextForm v)) (Some ((1 ∷ []) ∷ (2 ∷ []) ∷ []))
  two_begins = or_begins plain_errors ping_begins text_begins

  choice_reads : Reads bytes_model (or_of (or_of ping_of text_of) close_of) BodyForm (λ rest. (Anything rest × Anything rest) × Anything rest)
  choice_reads = either_reads plain_errors (differ_apart two_begins close_begins refl)
      (either_reads plain_errors (differ_apart ping_begins text_begins refl) ping_reads text_reads) close_reads

  abbrev body_by : BytesGrammar Body M
  body_by = alt_of (or_of (or_of ping_of text_of) close_of)

  body_reads : Reads bytes_model (all_consuming_of body_by) BodyForm (λ rest. rest ≡ [])
  body_reads = record { reads = whole_reads bytes_lawful plain_errors ((tt, tt), tt) (alt_reads plain_errors choice_reads) }

  abbrev message_by : BytesGrammar Body M
  message_by = length_value_of (number_of Big 2) (all_consuming_of body_by)

  by_parts : Reads bytes_model message_by (λ v. AfterLength (FormOfSize (λ n. n) (Number 2)) (BodyForm v)) Anything
  by_parts = length_value_reads bytes_lawful plain_errors (λ n. n) (one_size 2) (λ rest. tt) (number_reads 2) (λ b. refl) refl body_reads

  -- what is made of a message
  abbrev made : Message → M
  made (Sent.Ping number) = ping number
  made (Sent.Text bytes) = text bytes
  made Sent.Close = close

  unfit : (v : M) → IsUnfit (Any v)
  unfit v = (record { lack = OfSpace; room = 0; start = 0 }, Write.Mismatch 0, tt, λ h. h)

  abbrev bytes_of : List ℕ → Bytes
  bytes_of xs = record { ref_ptr = (0, 0); now = xs }

  body_form : (m : Message) (body : List ℕ) → IsBody m body → AreValues (λ b. b < 256) body → length body < 2 ^ 63 → BodyForm (made m) body
  body_form (Sent.Ping number) body (ys, whole, four, is) values short = inl (inl (
    (bytes_of (1 ∷ []), number),
    refl,
    record {
      front = 1 ∷ [];
      back = ys;
      whole = whole;
      first = (refl, record { known = ((lit< tt, tt), lit< tt); elements_are = refl });
      second = (four, is);
    },
  ))
  body_form (Sent.Text bytes) body whole values short =
      let all = subst (AreValues (λ b. b < 256)) whole values in
      inl (inr (
        unfit (text bytes),
        (
          bytes,
          refl,
          record {
            front = 2 ∷ [];
            back = length bytes.now ∷ bytes.now;
            whole = whole;
            first = refl;
            second = record {
              front = length bytes.now ∷ [];
              back = bytes.now;
              whole = refl;
              first = (length bytes.now, refl, (refl, omega arith));
              second = record { known = (all.1.1, omega (arith, short, ap length whole)); elements_are = refl };
            };
          },
        ),
      ))
  body_form Sent.Close body whole values short = inr (
    unfit close,
    (
      bytes_of (3 ∷ []),
      refl,
      (whole, record { known = ((lit< tt, tt), lit< tt); elements_are = refl }),
    ),
  )

  pub message_reads : Reads bytes_model message_by (λ v xs. (m : Message) × IsMessage m xs × (v ≡ made m)) Anything
  message_reads = record {
    reads = λ v xs f s. record {
      read = λ i rest o known e k a.
          let m = f.0 in
          let body = f.1.0 in
          let frame = f.1.2 in
          let values = values_after frame.size body (subst (AreValues (λ b. b < 256)) frame.whole
          (values_before xs rest (subst (AreValues (λ b. b < 256)) e known.0))) in
          let short : length body < 2 ^ 63 = omega (
            arith,
            known.1,
            ap length e,
            length-append xs rest,
            ap length frame.whole,
            length-append frame.size body,
          ) in
          let form : AfterLength (FormOfSize (λ n. n) (Number 2)) (BodyForm (made m)) xs = record {
            front = frame.size;
            back = body;
            whole = frame.whole;
            size = (length body, refl, (frame.two, frame.counts));
            part = body_form m body f.1.1 values short;
          } in
          (by_parts.reads v xs (subst (λ z. AfterLength (FormOfSize (λ n. n) (Number 2)) (BodyForm z) xs) (sym f.2) form) s).read i rest o known e k a;
    };
  }

made_received : (m : Message) → received m ≡ made Received.Ping (λ bytes. Received.Text (length bytes.now)) Received.Close m
made_received (Sent.Ping number) = refl
made_received (Sent.Text bytes) = refl
made_received Sent.Close = refl

made_sent : (m : Message) → m ≡ made Sent.Ping Sent.Text Sent.Close m
made_sent (Sent.Ping number) = refl
made_sent (Sent.Text bytes) = refl
made_sent Sent.Close = refl

pub stream_reads_back : StreamReadsBack
stream_reads_back = record {
  reads = λ v xs f. (message_reads Received.Ping (λ bytes. Received.Text (length bytes.now)) Received.Close).reads v xs
      (f.0, f.1, f.2 ∙ made_received f.0);
}

pub file_reads_back : FileReadsBack
file_reads_back = record { reads = λ v xs f. (message_reads Sent.Ping Sent.Text Sent.Close).reads v xs (v, f, made_sent v) }
