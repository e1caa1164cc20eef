-- A text of plain characters alone means itself.
use Rattle.std.proofs.Common.{◌≡◌, ℕ, zero, suc, ◌+◌, ◌<◌, ◌⊎◌, false, true, List, [], ◌∷◌, ◌++◌, length, append-nil, Ok, Err, Some, None, refl, sym, ◌∙◌}
use Rattle.std.proofs.Common.{ap, subst, inl, inr, arith}
use Rattle.std.specs.Prelude.{Bool, ◌==◌, String, chars, encode_utf8, encode_utf8_all, string_bytes, IsUtf8}
use Rattle.std.specs.Char.{IsScalar}
use Rattle.std.specs.Cow.{cow_str_bytes}
use Rattle.std.specs.List.{All}
use Rattle.std.proofs.lemmas.Bool.{ne_eqb}
use Rattle.std.proofs.lemmas.List.Elements.{All-head, All-tail}
use Rattle.std.proofs.lemmas.Str.{chars-nil, encodes-chars}
use Rattle.std.specs.declared.borrow.CowStr.{CowStr}
use Rattle.std.specs.declared.borrow.CowStr.TheVariants.{Borrowed, Owned}
use Rattle.nom_internal.specs.Prelude.{Needed, IsSuffixOf, items_len, same_cut, Slice, Stops, IsModelledBy, text_model, text_lawful, Accept, Refuse, Stop}
use Rattle.nom_internal.specs.Prelude.{Fails, Needs, ParseRanOut, Parsed, Meaning, premised}
use Rattle.nom_error.specs.declared.answer.Err as Answer
use Rattle.nom_error.specs.declared.kind.ErrorKind.TheVariants.{TakeWhile1}
use Rattle.nom_error.specs.declared.value.Error.{Error}
use Rattle.nom_internal.proofs.Consumed.{rest_self}
use Rattle.nom_bytes.specs.ParsedRuns.{IsRunSlice, run1_meaning, run_meaning}
use Rattle.nom_bytes.specs.Predicates.{IsFixed}
use Rattle.nom_bytes.specs.Tests.{passing_worded}
use Rattle.nom_bytes.specs.Words.{run1_worded}
use Rattle.nom_bytes_escaped.specs.declared.next_piece.Piece.{Piece}
use Rattle.nom_bytes_escaped.specs.declared.next_piece.Piece.TheVariants.{Normal}
use Rattle.nom_bytes_escaped.specs.declared.next_piece.NextPiece.{NextPiece}
use Rattle.nom_bytes_escaped.specs.declared.next_piece.NextPiece.TheVariants.{Found, Done}
use Rattle.nom_bytes_escaped.specs.Escapes.{escaped_transform_meaning}
use Rattle.nom_bytes_escaped.specs.NextPieces.{next_piece_meaning}
use Rattle.nom_bytes_escaped.specs.Texts.{AddAll}
use Rattle.nom_bytes_escaped.specs.Words.{escaped_transform_worded}
use Rattle.nom_combinator.specs.Words.{all_consuming_worded}
use Rattle.nom.specs.Word.{answers_by, parses_by, word}
use Rattle.nom.specs.Texts as Words
use Rattle.nom.specs.Texts.{Text, plain_errors}
use Rattle.nom.specs.grammars.Grammar.{sliced}
use Rattle.nom.specs.grammars.Texts.{TextGrammar, Parses, all_consuming_of}
use Rattle.nom_json_run.specs.Json.{is_plain_code}
use Rattle.example_json.specs.Strings.{decoded_of, escape_of, unescaped_by, unescaped_of}
use Rattle.example_json.proofs.Results.{TextResult, Taken, taken, told}

abbrev Part : Type 0
Part = Slice text_model

abbrev EscapeTree : Type 0
EscapeTree = escape_of.Tree

-- plain characters, one at least
abbrev plain1 : TextGrammar Part Text
plain1 = sliced text_model (premised ((c : ℕ) → Unit {0}) (IsFixed IsScalar (λ c b. b ≡ is_plain_code c))
    (run1_meaning text_model (λ c b. b ≡ is_plain_code c) plain_errors TakeWhile1))

-- the plain characters at the start, if there are any
abbrev pub plain_run : TextGrammar Part Text
plain_run = sliced text_model (run_meaning text_model (λ c b. b ≡ is_plain_code c))

pub never_stops : {i : Text} {s : TextResult Text} {e : Answer.Err (Error Text) (Error Text) Needed} → s ≡ Err e → Parses plain_run false i s → ⊥
never_stops is (ParseRanOut e h) = absurd h.2
never_stops is (Parsed (Accept n v) a p) = cc (is, p.4)
never_stops is (Parsed Refuse a p) = p.1
never_stops is (Parsed (Stop (Fails cause)) a p) = a
never_stops is (Parsed (Stop (Needs k)) a p) = cc (a.0)

abbrev Pieces : Type 0
Pieces = List (Piece Part EscapeTree)

abbrev next_pieces : Meaning Text (NextPiece (Piece Part EscapeTree)) (Error Text)
next_pieces = next_piece_meaning text_model (λ x. x ≡ 92) None plain1.meaning escape_of.grammar.meaning

abbrev pieces : Meaning Text Pieces (Error Text)
pieces = escaped_transform_meaning text_model plain_errors (λ x. x ≡ 92) plain1.meaning escape_of.grammar.meaning

-- the bytes that characters and escapes add to a text
abbrev Means : Pieces → List ℕ → Type 0
Means = AddAll plain1.IsOutput escape_of.grammar.IsOutput (λ text. encode_utf8_all (chars text.now)) encode_utf8

-- what the word of a string means
abbrev meant : {X : Type 0} → (X → List ℕ) → TextGrammar Pieces X
meant bytes = all_consuming_of (record { meaning = pieces; IsOutput = λ vs text. Means vs (bytes text) })

meant_is : {X : Type 0} (bytes : X → List ℕ) → unescaped_by bytes ≡ word (meant bytes)
meant_is bytes = all_consuming_worded text_model plain_errors (escaped_transform_worded text_model plain_errors (λ x. x) bytes
    (λ text. encode_utf8_all (chars text.now)) encode_utf8 92
    (run1_worded text_model plain_errors TakeWhile1 (passing_worded IsScalar (λ _. Unit {0}) (λ c b. b ≡ is_plain_code c))) refl)

-- nothing stands at the end
done_at : (j : Text) → text_model.IsKnown j → chars j.now ≡ [] → next_pieces.answers false j (Accept 0 Done)
done_at j known e = record {
  first = Accept 0 false;
  answered = (refl, (refl, ap length e));
  goes_on =
      (j, Accept 0 Done, rest_self text_model text_lawful j known, (refl, refl), refl);
}

abbrev Runs : Text → ℕ → Part → Type 0
Runs i n u = IsRunSlice text_model (λ c b. b ≡ is_plain_code c) None false i n u

-- a run of plain characters is a piece
found_at : (i : Text) → text_model.IsKnown i → (n : ℕ) (u : Part) → Runs i n u → 0 < length u.items → next_pieces.answers false i (Accept n (Found (Normal u)))
found_at i known n u r h = record {
  first = Accept 0 true;
  answered = (refl, some_left (chars i.now) u.items r.first.rest r.first.whole h);
  goes_on = (
    i,
    Accept n (Found (Normal u)),
    rest_self text_model text_lawful i known,
    record {
      first = Accept n (Found (Normal u));
      answered =
          record { at = i; at_is = refl; outcome = Accept n u; answered = (r, inl (omega (arith, h))); fact = refl };
      goes_on = refl;
    },
    ap (λ m. Accept m (Found (Normal u))) (omega arith),
  );
}
  where
    some_left : (xs ys zs : List ℕ) → xs ≡ ys ++ zs → 0 < length ys → 0 < length xs
    some_left xs [] zs e h = absurd (omega (arith, h))
    some_left xs (y ∷ ys) zs e h = omega (arith, ap length e)

-- all of a text is in its run
record IsItself (i : Text) (n : ℕ) (u : Part) : Type 0 where
  trees : Pieces
  answered : pieces.answers false i (Accept n trees)
  means : (x : Text) → IsModelledBy text_model u x → IsUtf8 x.now → Means trees x.now

module _ (i j : Text) (known : text_model.IsKnown i) (u : Part) (at_end : chars j.now ≡ []) where
  itself : (n : ℕ) (items : List ℕ) → u.items ≡ items → Runs i n u → IsSuffixOf text_model i n j → IsItself i n u
  itself n [] e r q =
      let c = same_cut text_model.item_len text_lawful.positive q.front (chars j.now) u.items r.first.rest (sym q.whole ∙ r.first.whole)
      (q.length_is ∙ sym r.first.length_is) in
      let none : chars i.now ≡ [] = q.whole ∙ (ap (λ xs. xs ++ chars j.now) (c.0 ∙ e) ∙ at_end) in
      let nothing : n ≡ 0 = sym r.first.length_is ∙ ap (λ xs. items_len text_model.item_len xs) e in
      record {
        trees = [];
        answered = subst (λ m. pieces.answers false i (Accept m [])) (sym nothing)
            (record {
              trees = [];
              taken = 0;
              ending = Accept 0 None;
              pieces =
                  (refl, record { reply = Some (Accept 0 Done); replied = (tt, done_at i known none); fact = refl });
              outcome_is = refl;
            });
        means = λ x s k. sym (encodes-chars x.now k) ∙ ap encode_utf8_all (s.elements_are ∙ e);
      }
  itself zero (d ∷ items) e r q = absurd (omega (arith, r.first.length_is, ap (λ xs. items_len text_model.item_len xs) e, text_lawful.positive d))
  itself (suc n) (d ∷ items) e r q =
      record {
        trees = Normal u ∷ [];
        answered = record {
          trees = Normal u ∷ [];
          taken = suc n;
          ending = Accept 0 None;
          pieces = (
            suc n,
            0,
            j,
            record {
              reply = Some (Accept (suc n) (Found (Normal u)));
              replied =
                  (tt, found_at i known (suc n) u r (omega (arith, ap length e)));
              fact = refl;
            },
            q,
            (refl, record { reply = Some (Accept 0 Done); replied = (tt, done_at j q.known at_end); fact = refl }),
            omega arith,
          );
          outcome_is =
              ap (λ m. Accept m (Normal u ∷ [])) (omega arith);
        };
        means = λ x s k. (
          encode_utf8_all (chars x.now),
          [],
          (x, s, refl),
          refl,
          sym (encodes-chars x.now k) ∙
              sym (append-nil (encode_utf8_all (chars x.now))),
        );
      }

module _ (M : Type 0) (i : Text) where
  abbrev Reads : Text → CowStr M → Type 0
  Reads j x = Words.Parses decoded_of false i (Ok (j, x))

  pub borrowed : (j x : Text) → text_model.IsKnown i → text_model.IsKnown x → chars j.now ≡ [] →
      Taken plain_run.IsOutput (plain_run.meaning.answers false i) i j x → Reads j (Borrowed x)
  borrowed j x known model at_end t =
      let p = itself i j known t.tree at_end t.length t.tree.items refl t.answered.0 t.rest_is in
      answers_by text_model (meant_is cow_str_bytes) (told refl (record {
        length = t.length + 0;
        tree = p.trees;
        answered = record {
          first = Accept t.length p.trees;
          answered = p.answered;
          goes_on =
              (j, Accept 0 (record { items = chars j.now; mark = tt }), t.rest_is, (at_end, refl, refl), refl);
        };
        rest_is = subst (λ n. IsSuffixOf text_model i n j) (omega arith) t.rest_is;
        output_is = p.means x t.output_is model.0;
      }))

  -- a text that was put together
  pub owned : (j : Text) (x : String M) → Words.Parses unescaped_of false i (Ok (j, x)) → Reads j (Owned x)
  owned j x h =
      let t = taken refl (parses_by text_model (meant_is string_bytes) h) in
      answers_by text_model (meant_is cow_str_bytes)
      (told refl (record { length = t.length; tree = t.tree; answered = t.answered; rest_is = t.rest_is; output_is = t.output_is }))

  stopped : {e : Answer.Err (Error Text) (Error Text) Needed} {r : TextResult (CowStr M)} {s : TextResult (String M)} → s ≡ Err e → r ≡ Err e →
      Parses (meant string_bytes) false i s → Parses (meant cow_str_bytes) false i r
  stopped is q (ParseRanOut e z) = ParseRanOut (cc (is, q, e)) z
  stopped is q (Parsed (Accept n v) a p) = absurd (cc (is, p.4))
  stopped is q (Parsed Refuse a p) = Parsed Refuse a (p.0, p.1, cc (is, q, p.2))
  stopped is q (Parsed (Stop (Fails cause)) a p) = Parsed (Stop (Fails cause)) a (p.0, p.1, cc (is, q, p.2))
  stopped is q (Parsed (Stop (Needs k)) a p) = Parsed (Stop (Needs k)) a (p.0, p.1, cc (is, q, p.2))

  pub owned_stops : (e : Answer.Err (Error Text) (Error Text) Needed) (r : TextResult (CowStr M)) (s : TextResult (String M)) → s ≡ Err e → r ≡ Err e →
      Words.Parses unescaped_of false i s → Words.Parses decoded_of false i r
  owned_stops e r s is q h = answers_by text_model (meant_is cow_str_bytes) (stopped is q (parses_by text_model (meant_is string_bytes) h))

-- no byte, and so no character
pub none_left : (bytes : List ℕ) (b : Bool) → b ≡ (length bytes == 0) → b ≡ true → chars bytes ≡ []
none_left [] b e h = chars-nil
none_left (c ∷ bytes) b e h = let never : false ≡ true = sym (ne_eqb (length (c ∷ bytes)) 0 (λ z. omega (arith, z))) ∙ (sym e ∙ h) in absurd (cc (never))

-- all after a front meets what all meets
all_after : (P : ℕ → Type 0) (xs ys : List ℕ) → All P (xs ++ ys) → All P ys
all_after P [] ys h = h
all_after P (x ∷ xs) ys h = all_after P xs ys (All-tail P x (xs ++ ys) h)

some_left : (bytes : List ℕ) → IsUtf8 bytes → (length bytes == 0) ≡ false → chars bytes ≡ [] → ⊥
some_left bytes k e h =
    let none : [] ≡ bytes = ap encode_utf8_all (sym h) ∙ encodes-chars bytes k in
    let never : true ≡ false = subst (λ bs. (length bs == 0) ≡ false) (sym none) e in
    cc (never)

stopped_there : (cs : List ℕ) → (cs ≡ [] → ⊥) → Stops (λ c. ⊥ ⊎ (false ≡ is_plain_code c)) cs → All (λ c. is_plain_code c ≡ true) cs → ⊥
stopped_there [] n s a = n refl
stopped_there (c ∷ cs) n (inl h) a = h
stopped_there (c ∷ cs) n (inr e) a = let never : false ≡ true = e ∙ All-head (λ x. is_plain_code x ≡ true) c cs a in cc (never)

-- where a text is left after the plain characters, not all of them are plain
pub not_plain : {i j x : Text} → Taken plain_run.IsOutput (plain_run.meaning.answers false i) i j x → (b : Bool) → b ≡ (length j.now == 0) →
    b ≡ false → All (λ c. is_plain_code c ≡ true) (chars i.now) → ⊥
not_plain {i} {j} t b e f all =
    let r = t.answered.0 in
    let q = t.rest_is in
    let c = same_cut text_model.item_len text_lawful.positive q.front (chars j.now) t.tree.items r.first.rest (sym q.whole ∙ r.first.whole)
    (q.length_is ∙ sym r.first.length_is) in
    let after = all_after (λ x. is_plain_code x ≡ true) q.front (chars j.now) (subst (All (λ x. is_plain_code x ≡ true)) q.whole all) in
    stopped_there (chars j.now) (some_left j.now q.known.0 (sym e ∙ f)) (subst (Stops (λ x. ⊥ ⊎ (false ≡ is_plain_code x))) (sym c.1) r.stops) after
