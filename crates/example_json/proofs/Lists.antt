-- Lemmas on the answers of the loops of lists, by what each item answered.
use Rattle.std.proofs.Common.{◌≡◌, ℕ, ◌+◌, ◌<◌, zero, suc, ◌⊎◌, true, false, List, [], ◌∷◌, ◌++◌, length, length-append, Result, Ok, Err, Some, None}
use Rattle.std.proofs.Common.{Vec, refl, sym, ap, subst, inl, inr, arith}
use Rattle.std.specs.Prelude.{if◌then◌else◌, is_err, is_ok}
use Rattle.std.specs.List.{AllZip}
use Rattle.nom_internal.specs.Prelude.{Grammar, Needed, modes, IsSuffixOf, text_model, text_lawful, Outcome, Accept, Refuse, Stop, Fails, Needs}
use Rattle.nom_internal.specs.Prelude.{ParseRanOut, Parsed, ParsesMeaning, RunsOutInPart, after, labelled_meaning}
use Rattle.nom_error.specs.declared.answer.Err as Answer
use Rattle.nom_error.specs.declared.answer.Err.TheVariants as Answered
use Rattle.nom_error.specs.declared.value.Error.{Error}
use Rattle.nom_internal.proofs.Consumed.{rest_self}
use Rattle.nom_repeat.specs.Repeat.{Turn, Reaches, Repeats, OnReply, TurnsBy}
use Rattle.nom_repeat.specs.Repeat.Turn.{Ends}
use Rattle.nom_repeat.proofs.Repeated.{Collected, collected_more, pieces_end}
use Rattle.nom_repeat.proofs.Accumulating.{zip_push}
use Rattle.nom.specs.Word.{answers_by, parses_by}
use Rattle.nom.specs.grammars.Texts as Grammars
use Rattle.nom.specs.Texts.{Parses, Text, TextWord}
use Rattle.example_json.specs.Json.{IsItem, IsTaken, after_comma, item_at, list_of, list_turn, list_worded, refuses}
use Rattle.example_json.proofs.Results.{TextResult, taken, refused}

-- what a grammar answers as one of two, with a tree that says which
labelled_parses : {V W O : Type 0} (label : V → W) (g : Grammar Text V O (Error Text)) {IsOutput : W → O → Type 0} →
    ((v : V) (o : O) → g.IsOutput v o → IsOutput (label v) o) → {i : Text} {r : TextResult O} → Grammars.Parses g false i r →
    ParsesMeaning text_model IsOutput (labelled_meaning label g.meaning) false i r
labelled_parses label g is {i} (ParseRanOut e z) = ParseRanOut e (RunsOutInPart i refl z)
labelled_parses label g is {i} (Parsed (Accept n v) a p) =
    Parsed (Accept n (label v)) (record { at = i; at_is = refl; outcome = Accept n v; answered = a; fact = refl }) (p.0, p.1, p.2, is v p.1 p.3, p.4)
labelled_parses label g is {i} (Parsed Refuse a p) =
    Parsed Refuse (record { at = i; at_is = refl; outcome = Refuse; answered = a; fact = refl })
    (p.0, record { at = i; at_is = refl; outcome = Refuse; answered = a; fact = p.1 }, p.2)
labelled_parses label g is {i} (Parsed (Stop (Fails cause)) a p) =
    Parsed (Stop (Fails cause)) (record { at = i; at_is = refl; outcome = Stop (Fails cause); answered = a; fact = refl })
    (p.0, record { at = i; at_is = refl; outcome = Stop (Fails cause); answered = a; fact = p.1 }, p.2)
labelled_parses label g is {i} (Parsed (Stop (Needs k)) a p) =
    Parsed (Stop (Needs k)) (record { at = i; at_is = refl; outcome = Stop (Needs k); answered = a; fact = refl }) p

module _ {O : Type 0} (g : TextWord O) where
  abbrev further : TextWord O
  further = after_comma g

  abbrev Tree : Type 0
  Tree = g.Tree ⊎ further.Tree

  abbrev Held : Tree → O → Type 0
  Held = IsItem g.grammar further.grammar

  -- the turns of a list
  abbrev Turns : ℕ → Text → Turn Tree (Unit {0}) → Type 0
  Turns = TurnsBy None list_turn (λ k. (item_at g.grammar further.grammar k).answers false)

  -- items that were taken up to a place, and their outputs
  abbrev Reached : (start place : Text) → (List Tree → Type 0) → Type 0
  Reached start place Fact = Collected text_model Turns Fact start place

  abbrev pub Listed : (start place : Text) → List O → Type 0
  Listed start place outputs = Reached start place (λ vs. AllZip Held vs outputs × (0 < length vs))

  -- what the part for that many items before it answers
  abbrev AnswersAt : ℕ → Text → TextResult O → Type 0
  AnswersAt n j s = ParsesMeaning text_model Held (item_at g.grammar further.grammar n) false j s

  pub first_item : (j : Text) (s : TextResult O) → Parses g false j s → AnswersAt 0 j s
  first_item j s h = labelled_parses inl g.grammar {IsOutput = Held} (λ v o h. h) (parses_by text_model refl h)

  pub further_item : (n : ℕ) → 0 < n → (j : Text) (s : TextResult O) → Parses further false j s → AnswersAt n j s
  further_item zero some j s h = absurd (omega (arith, some))
  further_item (suc n) some j s h = labelled_parses inr further.grammar {IsOutput = Held} (λ v o h. h) (parses_by text_model refl h)

  -- A place is reached, and what the part for it answers ends the list, or is taken.
  module _ {Fact : List Tree → Type 0} {i j : Text} (c : Reached i j Fact) where
    reaches : (Says : ℕ → Text → Type 0) → Says (length c.trees) j → Reaches text_model Turns Says i
    reaches Says h = record {
      trees = c.trees;
      taken = c.taken;
      pieces = pieces_end text_model Turns Says j (length c.trees) h 0 i c.trees c.taken (omega arith) c.pieces;
    }

    abbrev PartAt : Outcome Tree → Type 0
    PartAt = (item_at g.grammar further.grammar (length c.trees)).answers false j

    ends : (a : Outcome Tree) → PartAt a → (o : Outcome (Unit {0})) → Ends o ≡ list_turn (length c.trees) (Some a) →
        Repeats text_model Turns (λ vs _. vs) i (after c.taken (λ _. c.trees) o)
    ends a p o t = record {
      trees = c.trees;
      taken = c.taken;
      ending = o;
      pieces =
          pieces_end text_model Turns (λ k x. Turns k x (Ends o)) j (length c.trees)
          (record { reply = Some a; replied = (tt, p); fact = t }) 0 i c.trees c.taken (omega arith) c.pieces;
      outcome_is = refl;
    }

    blames : (a : Outcome Tree) → PartAt a → (e : Error Text) → (item_at g.grammar further.grammar (length c.trees)).blames false j e →
        Reaches text_model Turns
        (λ k x. OnReply None (λ k. (item_at g.grammar further.grammar k).answers false)
        (λ _. (item_at g.grammar further.grammar k).blames false x e) k x) i
    blames a p e h = reaches (λ k x. OnReply None (λ k. (item_at g.grammar further.grammar k).answers false)
        (λ _. (item_at g.grammar further.grammar k).blames false x e) k x)
        (record { reply = Some a; replied = (tt, p); fact = h })

    abbrev RunsOut : ℕ → Text → Type 0
    RunsOut k x = OnReply None (λ k. (item_at g.grammar further.grammar k).answers false) (λ a. IsTaken a) k x ⊎
        (Unit {0} × (item_at g.grammar further.grammar k).may_run_out (modes true true false) x)

    module _ {s : TextResult O} (h : AnswersAt (length c.trees) j s) where
      module _ {M : Type 0} {r : TextResult (Vec O M)} where
        -- the part refuses: all that was taken is the list
        pub ended : true ≡ refuses s → {list : Vec O M} → AllZip Held c.trees list.items → r ≡ Ok (j, list) → Parses (list_of g) false i r
        ended is {list} held q = answers_by text_model (list_worded g) (Parsed (Accept (c.taken + 0) c.trees) (ends Refuse (refused is h).0 (Accept 0 tt) refl)
            (j, list, subst (λ n. IsSuffixOf text_model i n j) (omega arith) c.rest_is, held, q))

        -- there is no memory to keep an item
        pub lacking : {k : Text} {x : O} → s ≡ Ok (k, x) → r ≡ Err Answered.OutOfMemory → Parses (list_of g) false i r
        lacking is q =
            let t = taken is h in
            answers_by text_model (list_worded g) (ParseRanOut q (reaches RunsOut
            (inl (record { reply = Some (Accept t.length t.tree); replied = (tt, t.answered); fact = tt }))))

        stopped_by : {e : Answer.Err (Error Text) (Error Text) Needed} → s ≡ Err e → r ≡ Err e → false ≡ refuses s →
            AnswersAt (length c.trees) j s → Parses (list_of g) false i r
        stopped_by is q stays (ParseRanOut e z) = answers_by text_model (list_worded g) (ParseRanOut (cc (is, q, e)) (reaches RunsOut (inr (tt, z))))
        stopped_by is q stays (Parsed (Accept n v) a p) = absurd (cc (is, p.4))
        stopped_by is q stays (Parsed Refuse a p) = let never : false ≡ true = cc (stays, ap refuses p.2) in absurd (cc (never))
        stopped_by is q stays (Parsed (Stop (Fails cause)) a p) = answers_by text_model (list_worded g) (Parsed (Stop (Fails cause))
            (ends (Stop (Fails cause)) a (Stop (Fails cause)) refl) (p.0, blames (Stop (Fails cause)) a p.0 p.1, cc (is, q, p.2)))
        stopped_by is q stays (Parsed (Stop (Needs k)) a p) = answers_by text_model (list_worded g) (Parsed (Stop (Needs k))
            (ends (Stop (Needs k)) a (Stop (Needs k)) refl) (p.0, p.1, cc (is, q, p.2)))

        -- it stops
        pub stopped : {e : Answer.Err (Error Text) (Error Text) Needed} → s ≡ Err e → r ≡ Err e → false ≡ refuses s → Parses (list_of g) false i r
        stopped is q stays = stopped_by is q stays h

      pub kept : {k : Text} {x : O} → s ≡ Ok (k, x) → (outputs more : List O) → AllZip Held c.trees outputs → more ≡ outputs ++ x ∷ [] → Listed i k more
      kept {k} {x} is outputs more held e =
          let t = taken is h in
          collected_more text_lawful Turns t.tree c (record { reply = Some (Accept t.length t.tree); replied = (tt, t.answered); fact = refl }) t.rest_is (
            subst (λ xs. AllZip Held (c.trees ++ t.tree ∷ []) xs) (sym e) (zip_push Held c.trees outputs t.tree x held t.output_is),
            omega (arith, length-append c.trees (t.tree ∷ [])),
          )

  -- no item yet
  abbrev pub none_yet : (i : Text) → text_model.IsKnown i → Reached i i (λ vs. vs ≡ [])
  none_yet i known = record { trees = []; taken = 0; pieces = (refl, refl); rest_is = rest_self text_model text_lawful i known; held = refl }

  pub none_held : (outputs : List O) → outputs ≡ [] → AllZip Held [] outputs
  none_held outputs e = subst (λ xs. AllZip Held [] xs) (sym e) tt

-- the items after a growth that succeeded
pub grown : {T E X : Type 0} (r : Result T E) (items more old : List X) → items ≡ (if is_ok r then more else old) → is_err r ≡ false → items ≡ more
grown (Ok x) items more old h e = h
grown (Err x) items more old h e = cc (e)
