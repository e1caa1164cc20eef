-- Lemmas on the messages of a whole: what is written is that of the whole.
use Rattle.std.proofs.Common.{arith, ◌≡◌, ℕ, zero, suc, ◌+◌, ◌-◌, ◌^◌, ◌<◌, ◌≤◌, min, Bool, true, false, List, [], ◌∷◌, ◌++◌, length, Option, Some, None}
use Rattle.std.proofs.Common.{Ok, refl, sym, ◌∙◌, ap, subst, take}
use Rattle.nom_io.specs.Account.{Account}
use Rattle.nom_io.specs.Written.{Wrote}
use Rattle.std.specs.List.{AllZip}
use Rattle.nom_error.specs.declared.value.Error.{Error}
use Rattle.nom_internal.specs.Prelude.{bytes_model, bytes_lawful, IsSuffixOf, rest_rest, Outcome, Accept, Stop, Needs, Meaning, IsLawful, Grammar}
use Rattle.nom_calls.specs.Iterated.{AreItems}
use Rattle.nom_calls.specs.Iterated as Iterated
use Rattle.nom_stream.specs.declared.stream.Stop as Why
use Rattle.nom_stream.specs.declared.stream.Stop.TheVariants as Stop
use Rattle.nom_stream.specs.declared.stream.Stream.{Stream}
use Rattle.nom_stream.specs.Held.{last_of}
use Rattle.nom_stream.specs.Items.{Bytes}
use Rattle.nom_stream.specs.Streams.{Answers, Decides, ItemResult, counted}
use Rattle.nom_stream.specs.Streams.Answers.{Decided, AtEnd, Full, Faulted, Lacking}
use Rattle.nom_stream.specs.Wholes.{AnswersWhole, AtWhole, BytesOfWhole, HasLeft, ItemsOfWhole, TellsWhole}
use Rattle.nom_messages_run.specs.declared.messages.Received.{Received}
use Rattle.nom_messages_run.specs.Pipe.{Ends, Lines, received_text, stopped}
use Rattle.nom_messages_run.specs.Whole.{IsTheEnd, LinesOf, LinesOfWhole, WroteWhole}

abbrev AllItems : {V : Type 0} → Meaning Bytes V (Error Bytes) → Bool → ℕ → Bytes → List V → Type 0
AllItems m complete = AreItems bytes_model (AtWhole m complete)

-- items that have ended below a limit are those up to each limit above them
module _ {V : Type 0} (m : Meaning Bytes V (Error Bytes)) (complete : Bool) where
  other_limit : (limit other : ℕ) (i : Bytes) (vs : List V) → length vs < limit → length vs < other → AllItems m complete limit i vs →
      AllItems m complete other i vs
  other_limit zero other i vs low below a = absurd (omega (arith, low))
  other_limit (suc limit) zero i vs low below a = absurd (omega (arith, below))
  other_limit (suc limit) (suc other) i [] low below a = a
  other_limit (suc limit) (suc other) i (v ∷ vs) low below a =
      (a.0, a.1, a.2, a.3, other_limit limit other a.1 vs (omega (arith, low)) (omega (arith, below)) a.4)

-- the trees of one item, of which the first is known
one_tree : {V O : Type 0} (IsItem : V → O → Type 0) (o : O) (v : V) (vs first others : List V) → AllZip IsItem first (o ∷ []) →
    v ∷ vs ≡ first ++ others → others ≡ vs
one_tree IsItem o v vs [] others z e = absurd z
one_tree IsItem o v vs (f ∷ []) others z e = cc (e)
one_tree IsItem o v vs (f ∷ g ∷ fs) others z e = absurd z.1

-- an answer that is no item leaves the offset
still : (offset : ℕ) (why : Option Why.Stop) → counted offset (stopped why) ≡ offset
still offset None = refl
still offset (Some why) = refl

module _ {R A V : Type 0} (left : R → Option (List ℕ)) (grammar : Grammar Bytes V Received (Error Bytes)) where
  -- the lines of the first items, and what is after them
  record Listed (s t : Stream R A) (whole : Bytes) (limit : ℕ) (trees : List V) (text : List ℕ) : Type 0 where
    pub first : List V
    pub others : List V
    pub trees_are : trees ≡ first ++ others
    pub place : Bytes
    pub known : bytes_model.IsKnown place
    pub lines_are : LinesOf grammar s.settings.complete first whole place text
    pub used : ℕ
    pub begins : IsSuffixOf bytes_model whole used place
    pub left_then : HasLeft left t place.now
    pub go_on : AllItems grammar.meaning s.settings.complete limit place others
    pub offset : t.offset ≡ min (s.offset + used) (2 ^ 64 - 1)
    pub settings : t.settings ≡ s.settings

  -- every answer rests on meanings that are lawful where they are sound
  lawful_of : grammar.meaning.IsSound → (u t : Stream R A) (r : ItemResult Received) → Answers grammar u t r → IsLawful bytes_model grammar.meaning
  lawful_of sound u t r (Decided taken d g l e) = g.parses.lawful sound
  lawful_of sound u t r (AtEnd e k g h) = g.parses.lawful sound
  lawful_of sound u t r (Full g a b w e) = (w.1).parses.lawful sound
  lawful_of sound u t r (Faulted why b w e) = (w.1).parses.lawful sound
  lawful_of sound u t r (Lacking l b w e) = (w.1).parses.lawful sound

  -- where the last line tells that there is no further item, none is accepted
  none_accepted : (lawful : IsLawful bytes_model grammar.meaning) (t : Stream R A) (complete : Bool) (place : Bytes) → bytes_model.IsKnown place →
      (why : Option Why.Stop) (k : ℕ) (v : V) → AtWhole grammar.meaning complete place (Accept k v) → TellsWhole grammar t (stopped why) place (Accept k v) →
      IsTheEnd complete why → ⊥
  none_accepted lawful t false place known None k v a told end =
      let same : Accept k v ≡ Stop (Needs told.1) = lawful.one_outcome true place place (Accept k v) (Stop (Needs told.1)) known known
      (record { elements_are = refl; mark_is = refl }) a tt told.2 in
      cc (same)
  none_accepted lawful t true place known None k v a told end = cc (end)
  none_accepted lawful t complete place known (Some (Stop.Refused e at)) k v a told end = cc (told)
  none_accepted lawful t complete place known (Some (Stop.Failed e at)) k v a told end = absurd end
  none_accepted lawful t complete place known (Some Stop.Nothing) k v a told end = absurd end
  none_accepted lawful t complete place known (Some (Stop.Incomplete n)) k v a told end = cc (told.1)
  none_accepted lawful t complete place known (Some Stop.TooLong) k v a told end = absurd end
  none_accepted lawful t complete place known (Some (Stop.Fault e)) k v a told end = absurd end
  none_accepted lawful t complete place known (Some Stop.OutOfMemory) k v a told end = absurd end

  -- an item before those that follow
  prepend : (s u t : Stream R A) (n : ℕ) (o : Received) (bytes rest : List ℕ) (whole next : Bytes) (limit : ℕ) (v : V) (vs : List V) →
      bytes ≡ take n whole.now → AtWhole grammar.meaning s.settings.complete whole (Accept n v) → grammar.IsOutput v o → IsSuffixOf bytes_model whole n next →
      u.offset ≡ min (s.offset + n) (2 ^ 64 - 1) → u.settings ≡ s.settings →
      Listed u t next limit vs rest → Listed s t whole limit (v ∷ vs) (received_text o bytes ++ rest)
  prepend s u t n o bytes rest whole next limit v vs first a item begins offset settings k = record {
    first = v ∷ k.first;
    others = k.others;
    trees_are = ap (λ z. v ∷ z) k.trees_are;
    place = k.place;
    known = k.known;
    lines_are = (
      n,
      a,
      (
        o,
        item,
        (
          next,
          begins,
          (rest, ap (λ z. received_text o z ++ rest) first, subst (λ z. LinesOf grammar z.complete k.first next k.place rest) settings k.lines_are),
        ),
      ),
    );
    used = n + k.used;
    begins = rest_rest bytes_model bytes_lawful whole n next k.used k.place begins k.begins;
    left_then = k.left_then;
    go_on = subst (λ z. AllItems grammar.meaning z.complete limit k.place k.others) settings k.go_on;
    offset = omega (arith, k.offset, offset);
    settings = k.settings ∙ settings;
  }

  module _ (sound : grammar.meaning.IsSound) (answers : AnswersWhole A left grammar) (items : ItemsOfWhole A left grammar)
      (bytes : BytesOfWhole A left grammar) where
    abbrev AreListed : Stream R A → Stream R A → ℕ → List ℕ → Type 0
    AreListed s t count text =
        (whole : Bytes) → bytes_model.IsKnown whole → HasLeft left s whole.now → s.offset ≤ 2 ^ 64 - 1 →
        (limit : ℕ) (trees : List V) → AllItems grammar.meaning s.settings.complete (count + limit) whole trees → Listed s t whole limit trees text

    -- an item that a call gave
    item_first : (s u t : Stream R A) (n : ℕ) (o : Received) (count : ℕ) (rest : List ℕ) → Decides left grammar s u (Ok (Some (n, o))) →
        AreListed u t count rest → (whole : Bytes) → bytes_model.IsKnown whole → HasLeft left s whole.now → s.offset ≤ 2 ^ 64 - 1 →
        (limit : ℕ) (trees : List V) → AllItems grammar.meaning s.settings.complete (suc (count + limit)) whole trees →
        Listed s t whole limit trees (received_text o (last_of n u.held) ++ rest)
    item_first s u t n o count rest d others whole known has low limit [] a =
        let told = answers s u (Ok (Some (n, o))) d whole known has a.0 a.1 in
        absurd (subst Iterated.Ends (sym told.2) a.2)
    item_first s u t n o count rest d others whole known has low limit (v ∷ vs) a =
        let told = answers s u (Ok (Some (n, o))) d whole known has (Accept a.0 v) a.2 in
        let tree : told.0 ≡ v = cc (told.2) in
        let size : a.0 ≡ n = cc (told.2) in
        let one : suc (count + limit) ≡ 1 + (count + limit) = omega arith in
        let w = items s u (Ok (Some (n, o)) ∷ []) (u, d, refl) whole known has low (count + limit) (v ∷ vs)
        (subst (λ z. AllItems grammar.meaning s.settings.complete z whole (v ∷ vs)) one a) in
        let all : n + 0 ≡ n = omega arith in
        let next = w.place in
        let same : w.others ≡ vs = one_tree grammar.IsOutput o v vs w.first w.others w.items w.trees_are in
        let begins : IsSuffixOf bytes_model whole n next = subst (λ z. IsSuffixOf bytes_model whole z next) all w.begins in
        let offset : u.offset ≡ min (s.offset + n) (2 ^ 64 - 1) = omega (arith, w.offset) in
        prepend s u t n o (last_of n u.held) rest whole next limit v vs (bytes s u n o d whole.now has)
        (subst (λ z. AtWhole grammar.meaning s.settings.complete whole (Accept z v)) size a.2)
        (subst (λ z. grammar.IsOutput z o) tree told.1) begins offset w.settings
        (others next begins.known w.left_then (omega (arith, offset)) limit vs
        (subst (λ z. AllItems grammar.meaning z.complete (count + limit) next vs) (sym w.settings)
        (subst (AllItems grammar.meaning s.settings.complete (count + limit) next) same w.go_on)))

    are_listed : (messages : List (ℕ × Received)) (s t : Stream R A) (text : List ℕ) → Lines left grammar messages s t text →
        AreListed s t (length messages) text
    are_listed [] s t text h whole known has low limit trees a =
        let none : 0 + limit ≡ limit = omega arith in
        record {
          first = [];
          others = trees;
          trees_are = refl;
          place = whole;
          known = known;
          lines_are = (refl, h.1);
          used = 0;
          begins = record { known = known; front = []; whole = refl; length_is = refl; mark_is = refl };
          left_then = subst (λ z. HasLeft left z whole.now) (sym h.0) has;
          go_on = subst (λ z. AllItems grammar.meaning s.settings.complete z whole trees) none a;
          offset = omega (arith, low, ap (λ z. z.offset) h.0);
          settings = ap (λ z. z.settings) h.0;
        }
    are_listed ((n, o) ∷ messages) s t text h whole known has low limit trees a =
        let one_more : length ((n, o) ∷ messages) + limit ≡ suc (length messages + limit) = omega arith in
        let rest = h.2 in
        subst (Listed s t whole limit trees) (sym rest.1)
        (item_first s h.0 t n o (length messages) rest.0 h.1 (are_listed messages h.0 t rest.0 rest.2) whole known has low limit trees
        (subst (λ z. AllItems grammar.meaning s.settings.complete z whole trees) one_more a))

    -- the last line after the others
    module _ (s t : Stream R A) (old new : Account) (status : ℕ) (text : List ℕ) (e : Ends left grammar s t text status)
        (wrote : Wrote old new text) (whole : Bytes) (limit : ℕ) (trees : List V)
        (k : Listed s e.before whole (suc limit) trees e.lines) where
      told : (outcome : Outcome V) → AtWhole grammar.meaning s.settings.complete k.place outcome → TellsWhole grammar t (stopped e.why) k.place outcome
      told outcome a = answers e.before t (stopped e.why) e.last k.place k.known k.left_then outcome
          (subst (λ z. AtWhole grammar.meaning z.complete k.place outcome) (sym k.settings) a)

      with_last : (outcome : Outcome V) → AtWhole grammar.meaning s.settings.complete k.place outcome → (IsTheEnd s.settings.complete e.why → k.others ≡ []) →
          WroteWhole grammar s t old new status whole trees
      with_last outcome a all = record {
        first = k.first;
        others = k.others;
        trees_are = k.trees_are;
        place = k.place;
        lines = e.lines;
        lines_are = k.lines_are;
        why = e.why;
        wrote = subst (Wrote old new) e.text_is wrote;
        status_is = e.status_is;
        used = k.used;
        begins = k.begins;
        offset = (e.last).offset ∙ still (e.before).offset e.why ∙ k.offset;
        outcome = outcome;
        answers = a;
        told = told outcome a;
        are_all = all;
      }

      last_line : (others : List V) → k.others ≡ others → WroteWhole grammar s t old new status whole trees
      last_line [] is =
          let p = subst (AllItems grammar.meaning s.settings.complete (suc limit) k.place) is k.go_on in
          with_last p.0 p.1 (λ _. is)
      last_line (v ∷ vs) is =
          let p = subst (AllItems grammar.meaning s.settings.complete (suc limit) k.place) is k.go_on in
          let lawful = lawful_of sound (e.last).filled t (stopped e.why) (e.last).answers in
          with_last (Accept p.0 v) p.2
          (λ end. absurd (none_accepted lawful t s.settings.complete k.place k.known e.why p.0 v p.2 (told (Accept p.0 v) p.2) end))

    pub lines_whole : LinesOfWhole A left grammar
    lines_whole s t old new status w whole known has low limit trees a below =
        let e = w.1 in
        let more = other_limit grammar.meaning s.settings.complete limit (length e.messages + suc (length trees)) whole trees below (omega arith) a in
        let k = are_listed e.messages s e.before e.lines e.listed whole known has low (suc (length trees)) trees more in
        last_line s t old new status w.0 e w.2 whole (length trees) trees k k.others refl
