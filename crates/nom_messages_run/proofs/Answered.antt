-- Every input has an outcome by the grammar of messages, and the laws of its parts hold.
use Rattle.std.specs.Prelude.{◌≡◌, ℕ, ◌-◌, ◌<◌, ◌≤◌, ◌⊎◌, Bool, true, false, eqb, List, [], ◌∷◌, ◌++◌, length, take, drop, Some, refl}
use Rattle.std.proofs.Common.{arith, sym, ◌∙◌, ap, subst, inl, inr, length-append}
use Rattle.std.proofs.lemmas.Bool.{cases_lt, eq-eqb, eqb-true}
use Rattle.std.proofs.lemmas.List.{length-take-le, take-append-drop}
use Rattle.nom_internal.specs.Leaf.{LeafAnswers}
use Rattle.nom_internal.specs.Bounded.{held}
use Rattle.nom_internal.specs.Prelude.{AreValues, IsLawful, IsSteady, Meaning, OnRefusal, Outcome, Accept, Refuse, Stop, Needs, Slice, after}
use Rattle.nom_internal.specs.Prelude.{bytes_comparing, bytes_lawful, bytes_model, ComparesBytes, input_len, items_len, items_len-ones, labelled, with_outputs}
use Rattle.nom_internal.specs.laws.CaseLaws.{labelled_lawful, labelled_steady}
use Rattle.nom_internal.specs.laws.MappedLaws.{map_lawful}
use Rattle.nom_internal.specs.laws.SequenceLaws.{sequence_lawful}
use Rattle.nom_branch.specs.laws.AlternativeLaws.{choice_lawful, next_lawful}
use Rattle.nom_bytes.specs.Tags.{tags}
use Rattle.nom_bytes.specs.laws.TagLaws.{tag_lawful}
use Rattle.nom_bytes.specs.laws.TakeLaws.{take_lawful, take_steady}
use Rattle.nom_combinator.specs.Ends.{all_of, eof_meaning}
use Rattle.nom_combinator.specs.laws.AllLaws.{eof_lawful}
use Rattle.nom_multi.specs.Values.{settled, values_by_length}
use Rattle.nom_multi.specs.laws.LengthLaws.{length_data_lawful}
use Rattle.nom_multi.specs.laws.ValueLaws.{length_value_lawful, length_value_steady}
use Rattle.nom_number.specs.Numbers.{binary_number, bytes_lack}
use Rattle.nom_sequence.specs.laws.SequenceLaws.{preceded_lawful}
use Rattle.nom.specs.grammars.Bytes.{Big, Bytes, all_consuming_of, length_data_of, number_of, pair_of, plain_errors, preceded_of, tag_of}
use Rattle.nom_error.specs.declared.value.Error.{Error}
use Rattle.nom_write_stream.specs.Pipes.{HasOutcome}
use Rattle.nom_write_stream.proofs.Everywhere.{case_outcome, of_value_outcome, rest_of, then_outcome}
use Rattle.nom_write_stream.proofs.Members.{length_data_outcome, number_outcome}
use Rattle.nom_messages_run.specs.Messages.{body_of, message_of}
use Rattle.nom_messages_run.proofs.ReadBack.{one_size, values_before}

-- one of two
module _ {V : Type 0} {First Next : Bytes → Outcome V → Type 0} (next : HasOutcome Next) where
  goes_on : (i : Bytes) → bytes_model.IsKnown i → (a : Outcome V) → First i a → (o : Outcome V) × OnRefusal First Next i o
  goes_on i known (Accept n v) h = (Accept n v, record { first = Accept n v; answered = h; goes_on = refl })
  goes_on i known Refuse h = let q = next.outcome i known in (q.0, record { first = Refuse; answered = h; goes_on = q.1 })
  goes_on i known (Stop why) h = (Stop why, record { first = Stop why; answered = h; goes_on = refl })

  choice_outcome : HasOutcome First → HasOutcome (OnRefusal First Next)
  choice_outcome first = record { outcome = λ i known. let p = first.outcome i known in goes_on i known p.0 p.1 }

-- a byte of a kind
module _ (kind : ℕ) (i : Bytes) where
  abbrev Tags : Outcome (Slice bytes_model) → Type 0
  Tags o = LeafAnswers (tags bytes_model length ComparesBytes (kind ∷ [])) true i o

  heads : (a b : ℕ) (xs ys : List ℕ) → a ∷ xs ≡ b ∷ ys → a ≡ b
  heads a b xs ys e = cc (e)

  at_byte : (x : ℕ) (xs : List ℕ) → i.now ≡ x ∷ xs → (same : Bool) → eqb x kind ≡ same → (o : Outcome (Slice bytes_model)) × Tags o
  at_byte x xs e true same =
      let t : Slice bytes_model = record { items = x ∷ []; mark = tt } in (
        Accept 1 t,
        (
          refl,
          record { rest = xs; whole = e; length_is = refl; mark_is = refl },
          record { front = x ∷ []; rest = xs; whole = e; tag_is = ap (λ z. z ∷ []) (eqb-true x kind same) },
        ),
      )
  at_byte x xs e false other = (
    Refuse,
    inl (
      λ f. absurd (cc (other, eq-eqb x kind (heads x kind xs f.rest (sym e ∙ (f.whole ∙ ap (λ z. z ++ f.rest) f.tag_is))))),
      λ b. absurd (omega (arith, ap length b.tag_is, length-append i.now (b.byte ∷ b.more), ap length e)),
    ),
  )

  at_first : (xs : List ℕ) → i.now ≡ xs → (o : Outcome (Slice bytes_model)) × Tags o
  at_first [] e = (
    Stop (Needs (Some (length (kind ∷ []) - input_len bytes_model i))),
    (refl, (record { byte = kind; more = []; tag_is = ap (λ z. z ++ kind ∷ []) (sym e) }, refl)),
  )
  at_first (x ∷ xs) e = at_byte x xs e (eqb x kind) refl

tag_outcome : (kind : ℕ) → HasOutcome ((tag_of (kind ∷ [])).meaning.answers true)
tag_outcome kind = record { outcome = λ i known. at_first kind i i.now refl }

-- the end
at_end : (i : Bytes) (xs : List ℕ) → i.now ≡ xs → (o : Outcome (Slice bytes_model)) × (eof_meaning bytes_model plain_errors).answers true i o
at_end i [] e = (Accept 0 (all_of bytes_model i), (e, refl, refl))
at_end i (x ∷ xs) e = (Refuse, λ none. absurd (cc (none, e)))

end_outcome : HasOutcome ((eof_meaning bytes_model plain_errors).answers true)
end_outcome = record { outcome = λ i known. at_end i i.now refl }

-- a part on the first bytes
module _ {V : Type 0} (m : Meaning Bytes V (Error Bytes)) (part : HasOutcome (m.answers true)) (n : ℕ) where
  abbrev Values : Bytes → Outcome V → Type 0
  Values = ((values_by_length bytes_model plain_errors m).at n).answers true

  in_window : (i : Bytes) → bytes_model.IsKnown i → (length i.now < n) ⊎ (n ≤ length i.now) → (o : Outcome V) × Values i o
  in_window i known (inl few) =
      let lack : Outcome (Slice bytes_model) = Stop (Needs (Some (n - input_len bytes_model i))) in (
        Stop (Needs (Some (n - input_len bytes_model i))),
        record {
          first = lack;
          answered = record {
            at = i;
            at_is = refl;
            outcome = lack;
            answered = (refl, (omega (arith, few, items_len-ones i.now), refl));
            fact = refl;
          };
          goes_on = refl;
        },
      )
  in_window i known (inr enough) =
      let xs = take n i.now in
      let t : Slice bytes_model = record { items = xs; mark = tt } in
      let j : Bytes = record { ref_ptr = (0, 0); now = xs } in
      let whole : i.now ≡ xs ++ drop n i.now = sym (take-append-drop n i.now) in
      let size : items_len bytes_model.item_len xs ≡ n = items_len-ones xs ∙ length-take-le n i.now enough in
      let there : bytes_model.IsKnown j = (
        values_before xs (drop n i.now) (subst (AreValues (λ b. b < 256)) whole known.0),
        omega (arith, known.1, length-take-le n i.now enough, enough),
      ) in
      let p = part.outcome j there in
      let rest = rest_of i n known (record { front = xs; rest = drop n i.now; whole = whole; length_is = size }) in (
        after n (λ t. t) (held (settled p.0)),
        record {
          first = Accept n t;
          answered = record {
            at = i;
            at_is = refl;
            outcome = Accept n t;
            answered = (record { rest = drop n i.now; whole = whole; length_is = size; mark_is = refl }, refl);
            fact = refl;
          };
          goes_on = (
            rest.0,
            held (settled p.0),
            rest.1,
            record {
              at = j;
              at_is = record { is_output = record { known = there; elements_are = refl; mark_is = refl }; known = there };
              outcome = settled p.0;
              answered = (p.0, p.1, refl);
              fact = refl;
            },
            refl,
          );
        },
      )

  value_outcome : HasOutcome Values
  value_outcome = record { outcome = λ i known. in_window i known (cases_lt (length i.now) n) }

-- numbers
number_lawful : (count : ℕ) → IsLawful bytes_model (number_of Big count).meaning
number_lawful count = labelled_lawful (take_lawful bytes_model plain_errors (bytes_lack bytes_model) count)

number_steady : (count : ℕ) → IsSteady bytes_model (number_of Big count).meaning
number_steady count = labelled_steady (take_steady bytes_model plain_errors (bytes_lack bytes_model) count)

-- bodies
kind_lawful : (kind : ℕ) → IsLawful bytes_model (tag_of (kind ∷ [])).meaning
kind_lawful kind = tag_lawful bytes_model bytes_lawful plain_errors length ComparesBytes bytes_comparing (kind ∷ [])

ping_lawful : IsLawful bytes_model (pair_of (tag_of (1 ∷ [])) (number_of Big 4)).meaning
ping_lawful = sequence_lawful bytes_lawful {first_mode = λ o. o} {second_mode = λ o. o} (kind_lawful 1) (number_lawful 4)

text_lawful : IsLawful bytes_model (preceded_of (tag_of (2 ∷ [])) (length_data_of (number_of Big 1))).meaning
text_lawful = preceded_lawful bytes_lawful (kind_lawful 2)
    (length_data_lawful bytes_lawful plain_errors (λ count xs. Some (count - length xs)) (one_size 1) (number_lawful 1))

body_lawful : IsLawful bytes_model body_of.meaning
body_lawful = choice_lawful plain_errors (next_lawful plain_errors (next_lawful plain_errors (map_lawful ping_lawful) (map_lawful text_lawful))
    (map_lawful (kind_lawful 3)))

ping_outcome : HasOutcome ((pair_of (tag_of (1 ∷ [])) (number_of Big 4)).meaning.answers true)
ping_outcome = then_outcome ((kind_lawful 1).within true) (λ u. number_outcome plain_errors (binary_number Big) 4) (tag_outcome 1)

text_outcome : HasOutcome ((preceded_of (tag_of (2 ∷ [])) (length_data_of (number_of Big 1))).meaning.answers true)
text_outcome = then_outcome ((kind_lawful 2).within true) (λ u. length_data_outcome plain_errors (λ n. n) (number_of Big 1) (number_lawful 1)
    (λ u. (u, refl)) (number_outcome plain_errors (binary_number Big) 1) (λ count xs. Some (count - length xs))) (tag_outcome 2)

body_outcome : HasOutcome (body_of.meaning.answers true)
body_outcome = case_outcome (λ i a. (a, refl)) (choice_outcome
    (case_outcome (λ i a. (labelled inr a, refl)) (case_outcome (λ i a. (a, refl)) (tag_outcome 3)))
    (case_outcome (λ i a. (labelled inl a, refl)) (choice_outcome
    (case_outcome (λ i a. (labelled inr a, refl)) (case_outcome (λ i a. (a, refl)) text_outcome))
    (case_outcome (λ i a. (labelled inl a, refl)) (case_outcome (λ i a. (a, refl)) ping_outcome)))))

whole_lawful : IsLawful bytes_model (all_consuming_of body_of).meaning
whole_lawful = sequence_lawful bytes_lawful {first_mode = λ o. o} {second_mode = with_outputs false} body_lawful (eof_lawful bytes_model plain_errors)

whole_outcome : HasOutcome ((all_consuming_of body_of).meaning.answers true)
whole_outcome = then_outcome (body_lawful.within true) (λ u. end_outcome) body_outcome

-- messages
pub message_lawful : IsLawful bytes_model message_of.meaning
message_lawful = length_value_lawful bytes_lawful plain_errors whole_lawful (one_size 2) (number_lawful 2)

pub message_steady : IsSteady bytes_model message_of.meaning
message_steady = length_value_steady bytes_lawful plain_errors whole_lawful (one_size 2) (number_steady 2)

pub message_outcome : HasOutcome (message_of.meaning.answers true)
message_outcome = then_outcome ((number_lawful 2).within true) (λ u. of_value_outcome u (record { output = u; is_output = refl; size_is = refl })
    (value_outcome (all_consuming_of body_of).meaning whole_outcome u)) (number_outcome plain_errors (binary_number Big) 2)
