-- Values and whole texts, described: values hold values, down to a depth.
use Rattle.std.specs.Prelude.{◌≡◌, ℕ, zero, suc, ◌==◌, ◌<◌, ◌≤◌, ◌⊎◌, ◌||◌, Bool, true, false, List, [], ◌∷◌, Some, codes}
use Rattle.std.proofs.Common.{arith, sym, ◌∙◌, ap, ap₂, refl, subst, inl, inr}
use Rattle.std.proofs.lemmas.Bool.{eq-eqb, eqb-true}
use Rattle.nom_error.specs.declared.value.Error.{Error}
use Rattle.nom_traits.specs.Classes.{is_listed}
use Rattle.nom_internal.specs.Prelude.{Accept, Fails, IResult, Needs, Outcome, ParseRanOut, Parsed, ParsesOutcome, Passes, Refuse, Stop, plain_case}
use Rattle.nom_internal.specs.Prelude.{text_model}
use Rattle.nom_combinator.specs.Ends.{fail_leaf}
use Rattle.nom_combinator.specs.Verdicts.{Looks, NeverCut, cut_outcome, verdict_case}
use Rattle.nom_combinator.specs.Words.{cut_worded, fail_worded, peek_worded}
use Rattle.nom.specs.Word.{parses_by}
use Rattle.nom.specs.Texts.{Parses, Text, TextWord, cut_of, fail_of, one_of_of, pair_of, peek_of, plain_errors}
use Rattle.nom_json_run.specs.Json.{IsValue, JsonItem, JsonValue, after_byte, after_spaces, begins, closing, first_is, rest}
use Rattle.nom_json_run.specs.Json.JsonItem.{element, member}
use Rattle.nom_json_run.specs.Json.JsonValue.{null, truth, untruth, number, text, brackets}
use Rattle.nom_json_run.specs.declared.bracket.Bracket.{Bracket}
use Rattle.nom_json_run.specs.declared.bracket.Bracket.TheVariants.{Array, Object}
use Rattle.nom_json_run.proofs.Strings.{some_is}
use Rattle.nom_json_run.proofs.Decisions.{if_not, if_some}
use Rattle.nom_json_run.proofs.Grammars.{same_truth}
use Rattle.nom_json_run.proofs.Values.{differ, head_is, word_begins}
use Rattle.nom_json_run.specs.Parts.BeginsWord.{as_null, as_true, as_false}
use Rattle.example_json.specs.Depths.{DecidesJson, nesting, nesting_item}
use Rattle.example_json.specs.Json.{json_text_of, member_of, scalar_of, value_of}
use Rattle.example_json.specs.Scalars.{deep_of, spaces_of}
use Rattle.example_json.specs.declared.tree.Json.{Json}
use Rattle.example_json.proofs.Described.{Described, Ending, Endings, EndsSo, Failing, Gives, Leaving, Refusing, by, case_described, cut_none}
use Rattle.example_json.proofs.Described.{described_as, leaf_described, map_by, pair_by, preceded_by, tuple_by}
use Rattle.example_json.proofs.DescribedScalars.{Branch, IsBrokenOff, apart, branch_or, first_left, first_or, first_right, is_number, is_word}
use Rattle.example_json.proofs.DescribedScalars.{number_described, number_starts, word_described, word_starts}
use Rattle.example_json.proofs.DescribedStrings.{Alone, Quoted, string_described, text_described}
use Rattle.example_json.proofs.DescribedTokens.{AtEnd, end_by, one_of_by, spaces_by, token_by}
use Rattle.example_json.proofs.DescribedValues.{Behind, Item, behind_by, brackets_described, list_described, opened, small_closing}

-- the first bytes of values
abbrev is_scalar : ℕ → Bool
is_scalar b = (is_word b || is_number b) || b == 34

abbrev is_start : ℕ → Bool
is_start b = (is_scalar b || b == 91) || b == 123

scalar_described : (d : ℕ) → Described (Branch is_scalar d) scalar_of
scalar_described d = branch_or (λ b. is_word b || is_number b) (λ b. b == 34) d (branch_or is_word is_number d (word_described d) (number_described d))
    (string_described d)

-- a bracket that lies too deep
abbrev is_open : ℕ → Bool
is_open b = b == 91 || b == 123

abbrev Looking : Endings
Looking xs (Leaving ys) = first_is is_open xs ≡ true
Looking xs Refusing = first_is is_open xs ≡ false
Looking xs Failing = ⊥

opens : (b : ℕ) → is_listed (codes "[{") b ≡ is_open b
opens b = ap₂ (λ x y. x || y) (swapped 91) (or_false (123 == b) ∙ swapped 123) where
  swapped : (c : ℕ) → (c == b) ≡ (b == c)
  swapped c = same_truth (c == b) (b == c) (λ e. eq-eqb b c (sym (eqb-true c b e))) (λ e. eq-eqb c b (sym (eqb-true b c e)))

  or_false : (x : Bool) → (x || false) ≡ x
  or_false true = refl
  or_false false = refl

looked : (xs : List ℕ) → first_is (is_listed (codes "[{")) xs ≡ first_is is_open xs
looked [] = refl
looked (b ∷ bs) = opens b

look_ends : {P : Type 0} (xs : List ℕ) (a o : Outcome P) → Passes Looks a o → EndsSo (Gives (after_byte (is_listed (codes "[{")))) xs a → EndsSo Looking xs o
look_ends xs (Accept n v) o e h = subst (EndsSo Looking xs) (sym e) (
  xs,
  cut_none xs,
  sym (looked xs) ∙ if_some (first_is (is_listed (codes "[{")) xs) (Some (rest xs)) h.0 h.2,
)
look_ends xs Refuse o e h = subst (EndsSo Looking xs) (sym e) (sym (looked xs) ∙ if_not (first_is (is_listed (codes "[{")) xs) (rest xs) h)
look_ends xs (Stop (Fails c)) o e h = absurd h
look_ends xs (Stop (Needs k)) o e h = absurd h

look_described : Described Looking (peek_of (one_of_of (codes "[{")))
look_described = by (peek_worded refl) (case_described (one_of_by (codes "[{") refl).meant (plain_case (λ b. b) (λ i. Passes Looks)) (λ i j e. e) refl Looking
    (λ i a o e h. look_ends i.now a o e h))

-- what is refused always, and what fails
abbrev Only : Ending → Endings
Only Refusing xs Refusing = Unit {0}
Only Failing xs Failing = Unit {0}
Only other xs e = ⊥

fails_ends : {V : Type 0} (xs : List ℕ) (a o : Outcome V) → o ≡ cut_outcome a → EndsSo (Only Refusing) xs a → EndsSo (Only Failing) xs o
fails_ends xs (Accept n v) o e h = absurd h.2
fails_ends xs Refuse o e h = subst (EndsSo (Only Failing) xs) (sym e) tt
fails_ends xs (Stop (Fails c)) o e h = absurd h
fails_ends xs (Stop (Needs k)) o e h = absurd h

fails_described : {V : Type 0} → Described (Only Failing) (cut_of (fail_of {O = V}))
fails_described = by (cut_worded (fail_worded plain_errors)) (case_described
    (leaf_described fail_leaf (Only Refusing) (λ i n v known h. absurd h) (λ i known h. tt) (Unit {0}) (Unit {0}))
    (verdict_case cut_outcome (λ _. true) NeverCut) (λ i j e. e) refl (Only Failing) (λ i a o e h. fails_ends i.now a o e h))

too_deep : (xs : List ℕ) → first_is is_open xs ≡ true → (r : List ℕ) (v : JsonValue xs r) → 0 < nesting v
too_deep xs h r v = elim (first_or (λ b. b == 91) (λ b. b == 123) xs h) [
  | inl b ↦ omega (arith, (opened Array v b).deeper)
  | inr b ↦ omega (arith, (opened Object v b).deeper)
]

deep_ends : (xs ys : List ℕ) (e : Ending) → Looking xs (Leaving ys) → Only Failing ys e → Branch is_open 0 xs e
deep_ends xs ys (Leaving zs) h f = absurd f
deep_ends xs ys Refusing h f = absurd f
deep_ends xs ys Failing h f = (h, too_deep xs h)

deep_described : Described (Branch is_open 0) deep_of
deep_described = preceded_by (Branch is_open 0) look_described fails_described deep_ends (λ xs h s. absurd (differ (first_is is_open xs) s h))
    (λ xs h. absurd h)

-- which values begin so
or_assoc : (x y z : Bool) → (x || (y || z)) ≡ ((x || y) || z)
or_assoc true y z = refl
or_assoc false y z = refl

value_starts : {xs r : List ℕ} → JsonValue xs r → first_is is_start xs ≡ true
value_starts {xs} v = starts v where
  of_scalar : first_is is_scalar xs ≡ true → first_is is_start xs ≡ true
  of_scalar h = first_left (λ b. is_scalar b || b == 91) (λ b. b == 123) xs (first_left is_scalar (λ b. b == 91) xs h)

  of_plain : first_is (λ b. is_word b || is_number b) xs ≡ true → first_is is_start xs ≡ true
  of_plain h = of_scalar (first_left (λ b. is_word b || is_number b) (λ b. b == 34) xs h)

  of_word : first_is is_word xs ≡ true → first_is is_start xs ≡ true
  of_word h = of_plain (first_left is_word is_number xs h)

  starts : {r : List ℕ} → JsonValue xs r → first_is is_start xs ≡ true
  starts (null s) = of_word (word_starts (codes "null") xs (as_null refl (word_begins 110 (codes "ull") xs s.0 s.1)))
  starts (truth s) = of_word (word_starts (codes "true") xs (as_true refl (word_begins 116 (codes "rue") xs s.0 s.1)))
  starts (untruth s) = of_word (word_starts (codes "false") xs (as_false refl (word_begins 102 (codes "alse") xs s.0 s.1)))
  starts (number s) = of_plain (first_right is_word is_number xs (number_starts xs _ s.0 s.1))
  starts (text t) = of_scalar (first_right (λ b. is_word b || is_number b) (λ b. b == 34) xs t.0)
  starts (brackets Array j b v p) = first_left (λ b. is_scalar b || b == 91) (λ b. b == 123) xs (first_right is_scalar (λ b. b == 91) xs b)
  starts (brackets Object j b v p) = first_right (λ b. is_scalar b || b == 91) (λ b. b == 123) xs b

not_closing : (o : Bracket) (xs : List ℕ) (t : Bool) → begins (closing o) xs ≡ t → first_is is_start xs ≡ true → t ≡ false
not_closing Array xs true b h = absurd (apart 93 is_start xs refl b h)
not_closing Object xs true b h = absurd (apart 125 is_start xs refl b h)
not_closing o xs false b h = refl

-- items
element_item : (d : ℕ) (xs : List ℕ) (e : Ending) → Branch is_start d xs e → Item Array d xs e
element_item d xs (Leaving ys) h = record {
  starts = not_closing Array xs (begins 93 xs) refl h.starts;
  found = found h.found;
  only = λ r v. only r v;
}
  where
    found : ((v : JsonValue xs ys) × (nesting v ≤ d)) ⊎ IsBrokenOff ys → ((v : JsonItem Array xs ys) × (nesting_item v ≤ d)) ⊎ IsBrokenOff ys
    found (inl v) = inl (element refl v.0, v.1)
    found (inr b) = inr b

    only : (r : List ℕ) → JsonItem Array xs r → r ≡ ys
    only r (element p v) = h.only r v
    only r (member j p name b v) = absurd (cc (p))
element_item d xs Refusing h = none where
  none : (r : List ℕ) → JsonItem Array xs r → ⊥
  none r (element p v) = h (value_starts v) r v
  none r (member j p name b v) = cc (p)
element_item d xs Failing h = (not_closing Array xs (begins 93 xs) refl h.0, deep) where
  deep : (r : List ℕ) (v : JsonItem Array xs r) → d < nesting_item v
  deep r (element p v) = h.1 r v
  deep r (member j p name b v) = absurd (cc (p))

-- white space, and what stands after it
abbrev Spaced : Endings → Endings
Spaced R xs e = R (after_spaces xs) e

spaced_by : {O : Type 0} (R : Endings) {g : TextWord O} → Described R g → Described (Spaced R) (pair_of spaces_of g)
spaced_by R d = pair_by (Spaced R) spaces_by d (λ xs ys e p h. subst (λ l. R l e) (sym (some_is (after_spaces xs) ys p)) h) (λ xs h. cc (h)) (λ xs h. absurd h)

module _ (d : ℕ) (xs ys : List ℕ) (name : Alone Quoted xs (Leaving ys)) where
  -- what follows the name
  after_name : {r : List ℕ} (v : JsonItem Object xs r) → (begins 58 (after_spaces ys) ≡ true) ×
      ((w : JsonValue (after_spaces (rest (after_spaces ys))) r) × (nesting w ≡ nesting_item v))
  after_name (element p v) = absurd (cc (p))
  after_name {r} (member j p n b v) = moved (n.1.2 ∙ ap after_spaces (name.1 n.1.0 (n.0, n.1.1))) b v where
    moved : {j k : List ℕ} → j ≡ k → begins 58 j ≡ true → (v : JsonValue (after_spaces (rest j)) r) →
        (begins 58 k ≡ true) × ((w : JsonValue (after_spaces (rest k)) r) × (nesting w ≡ nesting v))
    moved {j} e b = subst (λ k. (v : JsonValue (after_spaces (rest j)) r) →
        (begins 58 k ≡ true) × ((w : JsonValue (after_spaces (rest k)) r) × (nesting w ≡ nesting v))) e (λ v. (b, (v, refl)))

  no_bracket : begins 125 xs ≡ false
  no_bracket = subst (λ l. begins 125 l ≡ false) (sym (head_is 34 xs name.0.0)) refl

  member_ends : (e : Ending) → Spaced (Behind 58 (Branch is_start d)) ys e → Item Object d xs e
  member_ends (Leaving zs) (b, h) = record {
    starts = no_bracket;
    found = found h.found;
    only = λ r v. let w = after_name v in h.only r w.1.0;
  }
    where
      found : ((v : JsonValue (after_spaces (rest (after_spaces ys))) zs) × (nesting v ≤ d)) ⊎ IsBrokenOff zs →
          ((v : JsonItem Object xs zs) × (nesting_item v ≤ d)) ⊎ IsBrokenOff zs
      found (inl v) = inl (member (after_spaces ys) refl (name.0.0, (ys, name.0.1, refl)) b v.0, v.1)
      found (inr b) = inr b
  member_ends Refusing n = λ r v. let w = after_name v in n w.0 (value_starts w.1.0) r w.1.0
  member_ends Failing (b, h) = (no_bracket, λ r v. let w = after_name v in let deep = h.1 r w.1.0 in omega (arith, deep, w.1.1))

no_name : (d : ℕ) (xs : List ℕ) → Alone Quoted xs Refusing → Item Object d xs Refusing
no_name d xs h r (element p v) = cc (p)
no_name d xs h r (member j p n b v) = h n.1.0 (n.0, n.1.1)

member_described : {g : TextWord Json} (d : ℕ) → Described (Branch is_start d) g → Described (Item Object d) (member_of g)
member_described d v = map_by (tuple_by (pair_by (Item Object d) text_described (spaced_by (Behind 58 (Branch is_start d))
    (behind_by 58 (omega arith) (Branch is_start d) v))
    (λ xs ys e name h. member_ends d xs ys name e h) (no_name d) (λ xs h. absurd h)) _) _

-- values
branch_as : (d : ℕ) (xs : List ℕ) (e : Ending) → Branch (λ b. is_scalar b || is_open b) d xs e → Branch is_start d xs e
branch_as d xs e h = moved e h where
  same : (xs : List ℕ) → first_is (λ b. is_scalar b || is_open b) xs ≡ first_is is_start xs
  same [] = refl
  same (b ∷ bs) = or_assoc (is_scalar b) (b == 91) (b == 123)

  moved : (e : Ending) → Branch (λ b. is_scalar b || is_open b) d xs e → Branch is_start d xs e
  moved (Leaving ys) h = record { starts = sym (same xs) ∙ h.starts; found = h.found; only = h.only }
  moved Refusing h = λ s. h (same xs ∙ s)
  moved Failing h = (sym (same xs) ∙ h.0, h.1)

value_described : (d : ℕ) → Described (Branch is_start d) (value_of d)
value_described zero = described_as (branch_as 0) (branch_or is_scalar is_open 0 (scalar_described 0) deep_described)
value_described (suc d) =
    let value = value_described d in
    let elements = list_described Array d (described_as (element_item d) value) in
    let members = list_described Object d (member_described d value) in
    let array = map_by (tuple_by (brackets_described Array d elements (token_by 93 (small_closing Array))) _) _ in
    let object = map_by (tuple_by (brackets_described Object d members (token_by 125 (small_closing Object))) _) _ in
    branch_or (λ b. is_scalar b || b == 91) (λ b. b == 123) (suc d) (branch_or is_scalar (λ b. b == 91) (suc d) (scalar_described (suc d)) array) object

-- whole texts
abbrev Whole : ℕ → Endings
Whole d xs (Leaving ys) = (v : IsValue xs) × (nesting v ≤ d)
Whole d xs Refusing = IsValue xs → ⊥
Whole d xs Failing = (v : IsValue xs) → d < nesting v

whole_ends : (d : ℕ) (xs ys : List ℕ) (e : Ending) → Spaced (Branch is_start d) xs (Leaving ys) → AtEnd ys e → Whole d xs e
whole_ends d xs ys (Leaving zs) h (p, q) = whole h.found where
  whole : ((v : JsonValue (after_spaces xs) ys) × (nesting v ≤ d)) ⊎ IsBrokenOff ys → (v : IsValue xs) × (nesting v ≤ d)
  whole (inl v) = subst (λ l. (w : JsonValue (after_spaces xs) l) × (nesting w ≤ d)) p v
  whole (inr b) = let never : false ≡ true = subst IsBrokenOff p b in absurd (cc (never))
whole_ends d xs ys Refusing h n = λ v. n (sym (h.only [] v))
whole_ends d xs ys Failing h f = absurd f

text_described_whole : (d : ℕ) → Described (Whole d) (json_text_of d)
text_described_whole d = map_by (tuple_by (pair_by (Whole d) (map_by (tuple_by (spaced_by (Branch is_start d) (value_described d)) _) _) end_by (whole_ends d)
    (λ xs h v. h (value_starts v) [] v) (λ xs h. h.1 [])) _) _

module _ (d : ℕ) (i : Text) (known : text_model.IsKnown i) (r : IResult Text Json (Error Text)) where
  by_outcome : (o : Outcome (json_text_of d).Tree) → EndsSo (Whole d) i.now o →
      ParsesOutcome text_model (json_text_of d).grammar.IsOutput i ((json_text_of d).grammar.meaning.blames false i) o r → DecidesJson d i r
  by_outcome (Accept n v) h p = subst (DecidesJson d i) (sym p.4) ((known.0, h.2.0), h.2.1)
  by_outcome Refuse h p = subst (DecidesJson d i) (sym p.2) (λ j. h j.1)
  by_outcome (Stop (Fails c)) h p = subst (DecidesJson d i) (sym p.2) (λ j. h j.1)
  by_outcome (Stop (Needs k)) h p = absurd h

  pub decides : Parses (json_text_of d) false i r → DecidesJson d i r
  decides h = elim (parses_by text_model {h = json_text_of d} {g = (json_text_of d).grammar} refl h) [
    | ParseRanOut e z ↦ subst (DecidesJson d i) (sym e) tt
    | Parsed o a p ↦ by_outcome o ((text_described_whole d).meant.ends i o known a) p
  ]
