-- Lemmas on the answers of the parser of a name and its value.
use Rattle.std.proofs.Common.{◌≡◌, ℕ, ◌+◌, Bool, true, false, List, [], ◌∷◌, ◌++◌, Bor, sym, ◌∙◌, ap, subst, arith, append_assoc, refl, rules}
use Rattle.std.specs.Prelude.{◌==◌, chars, Some, None, IfOk}
use Rattle.std.specs.Char.{len_utf8}
use Rattle.std.specs.List.{All}
use Rattle.nom_internal.specs.Prelude.{IResult, IsSuffixOf, IsBoundary, same_cut, items_len-append, rest_rest, Stops, Slice, IsModelledBy, first_place}
use Rattle.nom_internal.specs.Prelude.{text_model, text_lawful, Outcome, Accept, Refuse, Stop, ParsesAnswer, ParseRanOut, Parsed, LeafAnswers, Then}
use Rattle.nom_internal.specs.Prelude.{Fails, Needs}
use Rattle.nom_internal.specs.Cases.{OnPart}
use Rattle.nom_bytes.specs.ParsedRuns.{runs}
use Rattle.nom_character_first.specs.FirstItem.{heads}
use Rattle.example_formats.specs.Named.{IsNamed, in_name, in_value}
use Rattle.example_formats.proofs.FirstItem.{run_read, after_head}
use Rattle.example_formats.proofs.Sequences.{AreBoth, both}

abbrev Text : Type 0
Text = Bor (List ℕ)

-- a rest that lies after another one
rest_between : (i b j : Text) (n k m : ℕ) → IsSuffixOf text_model i k b → IsSuffixOf text_model i n j → n ≡ k + m → IsBoundary text_model b m →
    IsSuffixOf text_model b m j
rest_between i b j n k m p q e at =
    let whole : (p.front ++ at.front) ++ at.rest ≡ q.front ++ chars j.now =
    append_assoc p.front at.front at.rest ∙ (ap (λ xs. p.front ++ xs) (sym at.whole) ∙ (sym p.whole ∙ q.whole)) in
    let cut = same_cut len_utf8 text_lawful.positive (p.front ++ at.front) at.rest q.front (chars j.now) whole
    (omega (arith, items_len-append len_utf8 p.front at.front, p.length_is, at.length_is, q.length_is, e)) in
    record {
      known = q.known;
      front = at.front;
      whole = at.whole ∙ ap (λ xs. at.front ++ xs) cut.1;
      length_is = at.length_is;
      mark_is = refl;
    }

all_as : {P Q : ℕ → Type 0} (xs : List ℕ) → ((c : ℕ) → P c → Q c) → All P xs → All Q xs
all_as xs f h = search rules

stops_as : {P Q : ℕ → Type 0} (xs : List ℕ) → ((c : ℕ) → P c → Q c) → Stops P xs → Stops Q xs
stops_as [] f h = tt
stops_as (x ∷ xs) f h = f x h

-- what a part answers whose errors get a name: as the part does
abbrev Renamed : {V : Type 0} → (Text → Outcome V → Type 0) → Text → Outcome V → Type 0
Renamed Part i o = OnPart (λ j k. j ≡ k) Part (λ _ a. o ≡ a) i

unnamed : {V : Type 0} (Part : Text → Outcome V → Type 0) (i : Text) (o : Outcome V) → Renamed Part i o → Part i o
unnamed Part i o h = subst (λ j. Part j o) (sym h.at_is) (subst (Part h.at) (sym h.fact) h.answered)

module _ (Names Values : ℕ → Bool → Type 0) (sign : ℕ) (is_sign : sign ≡ 61) (names : (c : ℕ) (b : Bool) → Names c b → b ≡ in_name c)
    (values : (c : ℕ) (b : Bool) → Values c b → b ≡ in_value c) where
  abbrev NamePart : Text → Outcome (Slice text_model) → Type 0
  NamePart = LeafAnswers (runs text_model Names None 1) false

  abbrev NameAnswers : Text → Outcome (Slice text_model) → Type 0
  NameAnswers = Renamed NamePart

  abbrev SignAnswers : Text → Outcome ℕ → Type 0
  SignAnswers = LeafAnswers (heads text_model (λ x. x) (λ x b. b ≡ (x == sign)) (Some (len_utf8 sign))) false

  abbrev ValuePart : Text → Outcome (Slice text_model) → Type 0
  ValuePart = LeafAnswers (runs text_model Values None 1) false

  abbrev ValueAnswers : Text → Outcome (Slice text_model) → Type 0
  ValueAnswers = Renamed ValuePart

  abbrev AfterName : Text → Outcome (Slice text_model) → Type 0
  AfterName = Then text_model (λ u v. v) SignAnswers (λ _. ValueAnswers)

  abbrev LineAnswers : Text → Outcome (Slice text_model × Slice text_model) → Type 0
  LineAnswers = Then text_model (λ u v. (u, v)) NameAnswers (λ _. AfterName)

  named_by : (i j d v : Text) (n : ℕ) (t : Slice text_model × Slice text_model) →
      (line : AreBoth text_model (λ u v. (u, v)) NameAnswers (λ _. AfterName) i n t) →
      AreBoth text_model (λ u v. v) SignAnswers (λ _. ValueAnswers) line.between line.second_length line.second → IsSuffixOf text_model i n j →
      IsModelledBy text_model t.0 d → IsModelledBy text_model t.1 v → IsNamed (chars i.now) (chars d.now) (chars v.now) (chars j.now)
  named_by i j d v n t line after r sd sv =
      let name = run_read Names i d line.between line.first_length line.first (unnamed NamePart i _ line.first_accepts) line.rest_is
      (subst (λ s. IsModelledBy text_model s d) (ap (λ x. x.0) line.tree_is) sd) in
      let at = after.first_accepts in
      let equals = after_head sign at.0 after.first_length at.1.rest line.between after.between at.1.whole at.2 at.3 after.rest_is in
      let run = unnamed ValuePart after.between _ after.second_accepts in
      let place = first_place text_model after.between after.second_length after.second run.0.first in
      let before = rest_rest text_model text_lawful i line.first_length line.between after.first_length after.between line.rest_is after.rest_is in
      let rest = rest_between i after.between j n (line.first_length + after.first_length) after.second_length before r
      (omega (arith, line.length_is, after.length_is)) place in
      let value = run_read Values after.between v j after.second_length after.second run rest
      (subst (λ s. IsModelledBy text_model s v) (ap (λ x. x.1) line.tree_is ∙ after.tree_is) sv) in
      record {
        whole = name.whole ∙ ap (λ xs. chars d.now ++ xs) (equals ∙ (ap (λ c. c ∷ chars after.between.now) is_sign ∙ ap (λ xs. 61 ∷ xs) value.whole));
        some_name = name.some;
        is_name = all_as (chars d.now) (λ c h. sym (names c true h)) name.meets;
        some_value = value.some;
        is_value = all_as (chars v.now) (λ c h. sym (values c true h)) value.meets;
        ends = stops_as (chars j.now) (λ c h. sym (values c false h)) value.stops;
      }

  abbrev IsLine : Text → (Text × (Text × Text)) → Type 0
  IsLine i a = IsNamed (chars i.now) (chars (a.1.0).now) (chars (a.1.1).now) (chars (a.0).now)

  pub named_answer : {E : Type 0} {IsError : E → Type 0} {RunsOut : Type 0} (i : Text) (r : IResult Text (Text × Text) E) →
      ParsesAnswer text_model (λ t o. IsModelledBy text_model t.0 o.0 × IsModelledBy text_model t.1 o.1) i (LineAnswers i) IsError RunsOut r → IfOk r (IsLine i)
  named_answer i r (ParseRanOut e h) = subst (λ x. IfOk x (IsLine i)) (sym e) tt
  named_answer i r (Parsed (Accept n t) a p) =
      let line = both text_model (λ u v. (u, v)) NameAnswers (λ _. AfterName) i n t a in
      let after = both text_model (λ u v. v) SignAnswers (λ _. ValueAnswers) line.between line.second_length line.second line.second_accepts in
      subst (λ x. IfOk x (IsLine i)) (sym p.4) (named_by i p.0 (p.1).0 (p.1).1 n t line after p.2 (p.3).0 (p.3).1)
  named_answer i r (Parsed Refuse a p) = subst (λ x. IfOk x (IsLine i)) (sym p.2) tt
  named_answer i r (Parsed (Stop (Fails cause)) a p) = subst (λ x. IfOk x (IsLine i)) (sym p.2) tt
  named_answer i r (Parsed (Stop (Needs k)) a p) = subst (λ x. IfOk x (IsLine i)) (sym p.2) tt
