-- Lists of items, and values with brackets, described.
use Rattle.std.specs.Prelude.{◌≡◌, ℕ, zero, suc, max, ◌+◌, ◌==◌, ◌<◌, ◌≤◌, ◌⊎◌, true, false, List, [], ◌∷◌, Option, None, Some, codes}
use Rattle.std.proofs.Common.{arith, sym, ◌∙◌, ap, refl, subst, inl, inr}
use Rattle.nom_error.specs.declared.value.Error.{Error}
use Rattle.nom_internal.specs.Prelude.{Accept, Fails, Meaning, Needs, Outcome, Refuse, Stop, after, labelled, text_model}
use Rattle.nom_repeat.specs.Repeat.{Pieces, Replies, Turn, TurnsBy}
use Rattle.nom_repeat.specs.Repeat.Turn.{Ends, Takes}
use Rattle.nom.specs.Texts.{Text, TextWord, pair_of}
use Rattle.nom_json_run.specs.Json.{JsonInside, JsonItem, JsonItems, JsonValue, after_spaces, begins, closing, first_is, opening, rest}
use Rattle.nom_json_run.specs.Json.JsonInside.{nothing, some}
use Rattle.nom_json_run.specs.Json.JsonItems.{last, more}
use Rattle.nom_json_run.specs.Json.JsonValue.{null, truth, untruth, number, text, brackets}
use Rattle.nom_json_run.specs.Walk.{Further}
use Rattle.nom_json_run.specs.declared.bracket.Bracket.{Bracket}
use Rattle.nom_json_run.specs.declared.bracket.Bracket.TheVariants.{Array, Object}
use Rattle.nom_json_run.proofs.Values.{differ, one_head, word_begins}
use Rattle.example_json.specs.Depths.{nesting, nesting_inside, nesting_item, nesting_items}
use Rattle.example_json.specs.Json.{after_comma, list_of, list_turn, list_worded}
use Rattle.example_json.specs.Json.{item_at}
use Rattle.example_json.specs.Scalars.{token_of}
use Rattle.example_json.proofs.Described.{Described, Describes, Ending, Endings, EndsSo, Failing, Gives, Leaving, Refusing, by, cut_rest}
use Rattle.example_json.proofs.Described.{TurnSays, ended, one_more}
use Rattle.example_json.proofs.Described.{described_as, like_described, map_by, one_cut, pair_by, tuple_by}
use Rattle.example_json.proofs.DescribedScalars.{Branch, IsBrokenOff, apart, is_mark_of_more, is_number}
use Rattle.example_json.proofs.DescribedScalars.{number_starts}
use Rattle.example_json.proofs.DescribedTokens.{after_token, token_by, token_left, token_not}

-- a character, white space, and what stands after them
abbrev pub Behind : ℕ → Endings → Endings
Behind c R xs (Leaving ys) = (begins c xs ≡ true) × R (after_spaces (rest xs)) (Leaving ys)
Behind c R xs Refusing = begins c xs ≡ true → R (after_spaces (rest xs)) Refusing
Behind c R xs Failing = (begins c xs ≡ true) × R (after_spaces (rest xs)) Failing

behind_at : (c : ℕ) (R : Endings) (xs : List ℕ) (e : Ending) → begins c xs ≡ true → R (after_spaces (rest xs)) e → Behind c R xs e
behind_at c R xs (Leaving ys) b h = (b, h)
behind_at c R xs Refusing b h = λ _. h
behind_at c R xs Failing b h = (b, h)

pub behind_by : {O : Type 0} (c : ℕ) → c < 128 → (R : Endings) {g : TextWord O} → Described R g → Described (Behind c R) (pair_of (token_of c) g)
behind_by c small R d = pair_by (Behind c R) (token_by c small) d
    (λ xs ys e t h. let l = token_left c xs ys t in behind_at c R xs e l.0 (subst (λ zs. R zs e) (sym l.1) h))
    (λ xs t b. absurd (token_not c xs t b)) (λ xs h. absurd h)

-- where the number is broken off no character of these stands
not_broken : (c : ℕ) (xs : List ℕ) → is_mark_of_more c ≡ false → begins c xs ≡ true → IsBrokenOff xs → ⊥
not_broken c xs n b h = apart c is_mark_of_more xs n b h

closing_whole : (o : Bracket) (xs : List ℕ) → begins (closing o) xs ≡ true → IsBrokenOff xs → ⊥
closing_whole Array xs b h = not_broken 93 xs refl b h
closing_whole Object xs b h = not_broken 125 xs refl b h

closing_comma : (o : Bracket) (xs : List ℕ) → begins (closing o) xs ≡ true → begins 44 xs ≡ true → ⊥
closing_comma Array xs b h = one_head 93 44 xs refl b h
closing_comma Object xs b h = one_head 125 44 xs refl b h

-- an item between brackets
pub record IsItemRead (o : Bracket) (d : ℕ) (xs ys : List ℕ) : Type 0 where
  pub starts : begins (closing o) xs ≡ false
  pub found : ((v : JsonItem o xs ys) × (nesting_item v ≤ d)) ⊎ IsBrokenOff ys
  pub only : (r : List ℕ) → JsonItem o xs r → r ≡ ys

abbrev pub Item : Bracket → ℕ → Endings
Item o d xs (Leaving ys) = IsItemRead o d xs ys
Item o d xs Refusing = (r : List ℕ) → JsonItem o xs r → ⊥
Item o d xs Failing = (begins (closing o) xs ≡ false) × ((r : List ℕ) (v : JsonItem o xs r) → d < nesting_item v)

-- further items, each after a comma
abbrev nesting_further : {o : Bracket} {r s : List ℕ} → Further o r s → ℕ
nesting_further (inl e) = 0
nesting_further (inr f) = nesting_items f.1

-- the first item, and what follows it
record Divided {o : Bracket} {i r : List ℕ} (v : JsonItems o i r) : Type 0 where
  place : List ℕ
  item : JsonItem o i place
  others : Further o place r
  deepest : nesting_items v ≡ max (nesting_item item) (nesting_further others)

divided : {o : Bracket} {i r : List ℕ} (v : JsonItems o i r) → Divided v
divided (last {r = r} item) = record { place = r; item = item; others = inl refl; deepest = omega arith }
divided (more j item b items) = record { place = j; item = item; others = inr (b, items); deepest = refl }

joined : {o : Bracket} {i j r : List ℕ} (d : ℕ) (item : JsonItem o i j) → nesting_item item ≤ d → (f : Further o j r) → nesting_further f ≤ d →
    (v : JsonItems o i r) × (nesting_items v ≤ d)
joined {o} {i} {j} {r} d item le (inl e) less = subst (λ s. (v : JsonItems o i s) × (nesting_items v ≤ d)) e (last item, le)
joined d item le (inr f) less = (more _ item f.0 f.1, omega (arith, le, less))

pub record AreRead (o : Bracket) (d : ℕ) (xs ys : List ℕ) : Type 0 where
  pub found : ((f : Further o xs ys) × (nesting_further f ≤ d)) ⊎ IsBrokenOff ys
  pub only : (r : List ℕ) → Further o xs r → begins (closing o) r ≡ true → r ≡ ys

-- after one item at least
abbrev Others : Bracket → ℕ → Endings
Others o d xs (Leaving ys) = AreRead o d xs ys
Others o d xs Refusing = ⊥
Others o d xs Failing = (r : List ℕ) (f : Further o xs r) → begins (closing o) r ≡ true → d < nesting_further f

-- where the next one is refused, or fails
no_others : (o : Bracket) (d : ℕ) (xs : List ℕ) → Behind 44 (Item o d) xs Refusing → Others o d xs (Leaving xs)
no_others o d xs n = record { found = inl (inl refl, omega arith); only = λ r f b. only_end r f b } where
  only_end : (r : List ℕ) → Further o xs r → begins (closing o) r ≡ true → r ≡ xs
  only_end r (inl e) b = sym e
  only_end r (inr f) b = let v = divided f.1 in absurd (n f.0 v.place v.item)

others_fail : (o : Bracket) (d : ℕ) (xs : List ℕ) → Behind 44 (Item o d) xs Failing → Others o d xs Failing
others_fail o d xs h r (inl e) b = absurd (closing_comma o xs (subst (λ ys. begins (closing o) ys ≡ true) (sym e) b) h.0)
others_fail o d xs h r (inr f) b =
    let v = divided f.1 in
    let deep = h.1.1 v.place v.item in
    omega (arith, v.deepest, deep)

-- an item, and then others
item_found : (o : Bracket) (d : ℕ) (xs ys zs : List ℕ) → ((v : JsonItem o xs ys) × (nesting_item v ≤ d)) ⊎ IsBrokenOff ys →
    ((f : Further o ys zs) × (nesting_further f ≤ d)) ⊎ IsBrokenOff zs → ((v : JsonItems o xs zs) × (nesting_items v ≤ d)) ⊎ IsBrokenOff zs
item_found o d xs ys zs i (inr b) = inr b
item_found o d xs ys zs (inl v) (inl f) = inl (joined d v.0 v.1 f.0 f.1)
item_found o d xs ys zs (inr b) (inl (inl e, le)) = inr (subst IsBrokenOff e b)
item_found o d xs ys zs (inr b) (inl (inr f, le)) = absurd (not_broken 44 ys refl f.0 b)

item_only : (o : Bracket) (d : ℕ) (xs ys zs r : List ℕ) → ((s : List ℕ) → JsonItem o xs s → s ≡ ys) → AreRead o d ys zs → JsonItems o xs r →
    begins (closing o) r ≡ true → r ≡ zs
item_only o d xs ys zs r only others v b =
    let p = divided v in
    others.only r (subst (λ s. Further o s r) (only p.place p.item) p.others) b

item_deep : (o : Bracket) (d : ℕ) (xs ys r : List ℕ) → ((s : List ℕ) → JsonItem o xs s → s ≡ ys) → Others o d ys Failing → (v : JsonItems o xs r) →
    begins (closing o) r ≡ true → d < nesting_items v
item_deep o d xs ys r only others v b =
    let p = divided v in
    let deep = others_at p.place (only p.place p.item) p.others in
    omega (arith, p.deepest, deep)
  where
    others_at : (s : List ℕ) → s ≡ ys → (f : Further o s r) → d < nesting_further f
    others_at s e f = subst (λ s. (f : Further o s r) → d < nesting_further f) (sym e) (λ f. others r f b) f

-- Lists: any number of items, with commas between them.
pub record IsListRead (o : Bracket) (d : ℕ) (xs ys : List ℕ) : Type 0 where
  pub found : (xs ≡ ys) ⊎ ((begins (closing o) xs ≡ false) × (((v : JsonItems o xs ys) × (nesting_items v ≤ d)) ⊎ IsBrokenOff ys))
  pub only : (r : List ℕ) → JsonItems o xs r → begins (closing o) r ≡ true → r ≡ ys

abbrev pub Items : Bracket → ℕ → Endings
Items o d xs (Leaving ys) = IsListRead o d xs ys
Items o d xs Refusing = ⊥
Items o d xs Failing = (begins (closing o) xs ≡ false) × ((r : List ℕ) (v : JsonItems o xs r) → begins (closing o) r ≡ true → d < nesting_items v)

module _ {O : Type 0} {g : TextWord O} (o : Bracket) (d : ℕ) (item : Described (Item o d) g) where
  next_described : Described (Behind 44 (Item o d)) (after_comma g)
  next_described = map_by (tuple_by (behind_by 44 (omega arith) (Item o d) item) _) _

  abbrev Tree : Type 0
  Tree = g.Tree ⊎ (after_comma g).Tree

  abbrev part_at : ℕ → Meaning Text Tree (Error Text)
  part_at = item_at g.grammar (after_comma g).grammar

  abbrev Turns : ℕ → Text → Turn Tree (Unit {0}) → Type 0
  Turns = TurnsBy None list_turn (λ k. (part_at k).answers false)

  first_part : Describes (Item o d) (part_at 0)
  first_part = like_described item.meant (λ b. b) (λ i a p. p ≡ labelled inl a) (λ i a p e. (inl, e))

  next_part : (k : ℕ) → 0 < k → Describes (Behind 44 (Item o d)) (part_at k)
  next_part zero h = absurd (omega (arith, h))
  next_part (suc k) h = like_described next_described.meant (λ b. b) (λ i a p. p ≡ labelled inr a) (λ i a p e. (inr, e))

  turn_says : (R : Endings) (k : ℕ) (i : Text) (x : Option (Outcome Tree)) → Describes R (part_at k) → text_model.IsKnown i →
      Replies None (λ k. (part_at k).answers false) k i x → TurnSays R i.now (list_turn k x)
  turn_says R k i (Some (Accept n v)) p known h = p.ends i (Accept n v) known h.1
  turn_says R k i (Some Refuse) p known h = (refl, p.ends i Refuse known h.1)
  turn_says R k i (Some (Stop (Fails c))) p known h = p.ends i (Stop (Fails c)) known h.1
  turn_says R k i (Some (Stop (Needs n))) p known h = p.ends i (Stop (Needs n)) known h.1
  turn_says R k i None p known h = absurd (h tt)

  says : (R : Endings) (k : ℕ) (i : Text) (t : Turn Tree (Unit {0})) → Describes R (part_at k) → text_model.IsKnown i → Turns k i t → TurnSays R i.now t
  says R k i t p known h = subst (TurnSays R i.now) (sym h.fact) (turn_says R k i h.reply p known h.replied)

  -- a comma and an item, and then others
  other_read : (xs ys zs : List ℕ) → Behind 44 (Item o d) xs (Leaving ys) → AreRead o d ys zs → AreRead o d xs zs
  other_read xs ys zs (b, i) others = record { found = there (item_found o d (after_spaces (rest xs)) ys zs i.found others.found); only = at_end } where
    there : ((v : JsonItems o (after_spaces (rest xs)) zs) × (nesting_items v ≤ d)) ⊎ IsBrokenOff zs →
        ((f : Further o xs zs) × (nesting_further f ≤ d)) ⊎ IsBrokenOff zs
    there (inl v) = inl (inr (b, v.0), v.1)
    there (inr e) = inr e

    at_end : (r : List ℕ) → Further o xs r → begins (closing o) r ≡ true → r ≡ zs
    at_end r (inl e) c = absurd (closing_comma o xs (subst (λ l. begins (closing o) l ≡ true) (sym e) c) b)
    at_end r (inr f) c = item_only o d (after_spaces (rest xs)) ys zs r i.only others f.1 c

  other_fails : (xs ys : List ℕ) → Behind 44 (Item o d) xs (Leaving ys) → Others o d ys Failing → Others o d xs Failing
  other_fails xs ys (b, i) others r (inl e) c = absurd (closing_comma o xs (subst (λ l. begins (closing o) l ≡ true) (sym e) c) b)
  other_fails xs ys (b, i) others r (inr f) c = item_deep o d (after_spaces (rest xs)) ys r i.only others f.1 c

  others_end : {T : Type 0} (us : T) (e : Outcome (Unit {0})) (k : ℕ) → 0 < k → (i : Text) → text_model.IsKnown i → (vs : List Tree) (n : ℕ) →
      Pieces text_model Turns (λ k j. Turns k j (Ends e)) k i vs n → EndsSo (Others o d) i.now (after n (λ _. us) e)
  others_end us e k later i known [] n p =
      let h = says (Behind 44 (Item o d)) k i (Ends e) (next_part k later) known p.1 in
      subst (λ n. EndsSo (Others o d) i.now (after n (λ _. us) e)) (sym p.0)
      (ended Tree (Behind 44 (Item o d)) (Others o d) us i.now e (no_others o d i.now) (others_fail o d i.now) h)
  others_end us e k later i known (v ∷ vs) n (a, l, j, t, s, p, sum) =
      let h = says (Behind 44 (Item o d)) k i (Takes a v) (next_part k later) known t in
      let there = subst (λ ys. Behind 44 (Item o d) i.now (Leaving ys)) (one_cut h.1 (cut_rest known s)) h.2 in
      subst (λ n. EndsSo (Others o d) i.now (after n (λ _. us) e)) (sym sum)
      (one_more (Behind 44 (Item o d)) (Others o d) (Others o d) us i.now j.now a l e (cut_rest known s) there
      (λ zs. other_read i.now j.now zs) (λ x. x) (other_fails i.now j.now)
      (others_end us e (k + 1) (omega arith) j s.known vs l p))

  -- the first item, or none
  no_items : (xs : List ℕ) → Item o d xs Refusing → Items o d xs (Leaving xs)
  no_items xs n = record { found = inl refl; only = λ r v c. let p = divided v in absurd (n p.place p.item) }

  items_fail : (xs : List ℕ) → Item o d xs Failing → Items o d xs Failing
  items_fail xs (s, deep) = (s, λ r v c. let p = divided v in let h = deep p.place p.item in omega (arith, p.deepest, h))

  items_read : (xs ys zs : List ℕ) → IsItemRead o d xs ys → AreRead o d ys zs → IsListRead o d xs zs
  items_read xs ys zs i others = record {
    found = inr (i.starts, item_found o d xs ys zs i.found others.found);
    only = λ r v c. item_only o d xs ys zs r i.only others v c;
  }

  list_end : {T : Type 0} (us : T) (e : Outcome (Unit {0})) (i : Text) → text_model.IsKnown i → (vs : List Tree) (n : ℕ) →
      Pieces text_model Turns (λ k j. Turns k j (Ends e)) 0 i vs n → EndsSo (Items o d) i.now (after n (λ _. us) e)
  list_end us e i known [] n p =
      let h = says (Item o d) 0 i (Ends e) first_part known p.1 in
      subst (λ n. EndsSo (Items o d) i.now (after n (λ _. us) e)) (sym p.0)
      (ended Tree (Item o d) (Items o d) us i.now e (no_items i.now) (items_fail i.now) h)
  list_end us e i known (v ∷ vs) n (a, l, j, t, s, p, sum) =
      let h = says (Item o d) 0 i (Takes a v) first_part known t in
      let there = subst (λ ys. Item o d i.now (Leaving ys)) (one_cut h.1 (cut_rest known s)) h.2 in
      subst (λ n. EndsSo (Items o d) i.now (after n (λ _. us) e)) (sym sum)
      (one_more (Item o d) (Others o d) (Items o d) us i.now j.now a l e (cut_rest known s) there
      (λ zs. items_read i.now j.now zs) (λ x. x) (λ x others. (x.starts, λ r w c. item_deep o d i.now j.now r x.only others w c))
      (others_end us e 1 (omega arith) j s.known vs l p))

  pub list_described : {M : Type 0} → Described (Items o d) (list_of {M = M} g)
  list_described = by (list_worded g) (record {
    ends = λ i e known h. subst (EndsSo (Items o d) i.now) (sym h.outcome_is) (list_end h.trees h.ending i known h.trees h.taken h.pieces);
  })

-- what stands between brackets, with the closing one and white space
abbrev Inside : Bracket → ℕ → Endings
Inside o d xs (Leaving zs) = ((j : List ℕ) × (v : JsonInside o xs j) × (nesting_inside v ≤ d) × (after_spaces j ≡ zs)) ×
    ((j : List ℕ) → JsonInside o xs j → after_spaces j ≡ zs)
Inside o d xs Refusing = (j : List ℕ) → JsonInside o xs j → ⊥
Inside o d xs Failing = (j : List ℕ) (v : JsonInside o xs j) → d < nesting_inside v

inside_found : (o : Bracket) (d : ℕ) (xs ys zs : List ℕ) → begins (closing o) ys ≡ true → after_spaces (rest ys) ≡ zs →
    (xs ≡ ys) ⊎ ((begins (closing o) xs ≡ false) × (((v : JsonItems o xs ys) × (nesting_items v ≤ d)) ⊎ IsBrokenOff ys)) →
    (j : List ℕ) × (v : JsonInside o xs j) × (nesting_inside v ≤ d) × (after_spaces j ≡ zs)
inside_found o d xs ys zs b e (inl p) = (rest ys, nothing (subst (λ l. begins (closing o) l ≡ true) (sym p) b) (sym (ap rest p)), omega arith, e)
inside_found o d xs ys zs b e (inr (s, inl v)) = (rest ys, some ys v.0 b refl, v.1, e)
inside_found o d xs ys zs b e (inr (s, inr h)) = absurd (closing_whole o ys b h)

-- where the closing bracket comes first no item was read
at_once : (o : Bracket) (d : ℕ) (xs ys : List ℕ) → begins (closing o) xs ≡ true →
    (xs ≡ ys) ⊎ ((begins (closing o) xs ≡ false) × (((v : JsonItems o xs ys) × (nesting_items v ≤ d)) ⊎ IsBrokenOff ys)) → xs ≡ ys
at_once o d xs ys b (inl p) = p
at_once o d xs ys b (inr (s, h)) = absurd (differ (begins (closing o) xs) b s)

inside_place : (o : Bracket) (d : ℕ) (xs ys j : List ℕ) → IsListRead o d xs ys → JsonInside o xs j → (begins (closing o) ys ≡ true) × (j ≡ rest ys)
inside_place o d xs ys j l (nothing b e) =
    let p = at_once o d xs ys b l.found in
    (subst (λ k. begins (closing o) k ≡ true) p b, e ∙ ap rest p)
inside_place o d xs ys j l (some k v b e) =
    let p = l.only k v b in
    (subst (λ k. begins (closing o) k ≡ true) p b, e ∙ ap rest p)

inside_fails : (o : Bracket) (d : ℕ) (xs : List ℕ) → Items o d xs Failing → Inside o d xs Failing
inside_fails o d xs (s, deep) j (nothing b e) = absurd (differ (begins (closing o) xs) b s)
inside_fails o d xs (s, deep) j (some k v b e) = deep k v b

inside_ends : (o : Bracket) (d : ℕ) (xs ys : List ℕ) (e : Ending) → IsListRead o d xs ys → Gives (after_token (closing o)) ys e → Inside o d xs e
inside_ends o d xs ys (Leaving zs) l h =
    let t = token_left (closing o) ys zs h in
    (inside_found o d xs ys zs t.0 t.1 l.found, λ j v. ap after_spaces (inside_place o d xs ys j l v).1 ∙ t.1)
inside_ends o d xs ys Refusing l h = λ j v. token_not (closing o) ys h (inside_place o d xs ys j l v).0
inside_ends o d xs ys Failing l h = absurd h

-- the brackets of a value that begins with one
small_opening : (o : Bracket) → opening o < 128
small_opening Array = omega arith
small_opening Object = omega arith

pub small_closing : (o : Bracket) → closing o < 128
small_closing Array = omega arith
small_closing Object = omega arith

other_opening : (c : ℕ) → (c == 91) ≡ false → (c == 123) ≡ false → (o : Bracket) (xs : List ℕ) → begins c xs ≡ true → begins (opening o) xs ≡ true → ⊥
other_opening c n m Array xs b h = one_head c 91 xs n b h
other_opening c n m Object xs b h = one_head c 123 xs m b h

no_number_opens : (o : Bracket) (xs : List ℕ) → begins (opening o) xs ≡ true → first_is is_number xs ≡ true → ⊥
no_number_opens Array xs b h = apart 91 is_number xs refl b h
no_number_opens Object xs b h = apart 123 is_number xs refl b h

pub record Opened (o : Bracket) {xs r : List ℕ} (v : JsonValue xs r) : Type 0 where
  pub place : List ℕ
  pub inside : JsonInside o (after_spaces (rest xs)) place
  pub left : r ≡ after_spaces place
  pub deeper : nesting v ≡ suc (nesting_inside inside)

pub opened : (o : Bracket) {xs r : List ℕ} (v : JsonValue xs r) → begins (opening o) xs ≡ true → Opened o v
opened o {xs} (null s) b = absurd (other_opening 110 refl refl o xs (word_begins 110 (codes "ull") xs s.0 s.1) b)
opened o {xs} (truth s) b = absurd (other_opening 116 refl refl o xs (word_begins 116 (codes "rue") xs s.0 s.1) b)
opened o {xs} (untruth s) b = absurd (other_opening 102 refl refl o xs (word_begins 102 (codes "alse") xs s.0 s.1) b)
opened o {xs} (number s) b = absurd (no_number_opens o xs b (number_starts xs _ s.0 s.1))
opened o {xs} (text t) b = absurd (other_opening 34 refl refl o xs t.0 b)
opened Array (brackets Array j e v p) b = record { place = j; inside = v; left = p; deeper = refl }
opened Array {xs} (brackets Object j e v p) b = absurd (one_head 91 123 xs refl b e)
opened Object {xs} (brackets Array j e v p) b = absurd (one_head 123 91 xs refl b e)
opened Object (brackets Object j e v p) b = record { place = j; inside = v; left = p; deeper = refl }

bracket_branch : (o : Bracket) (d : ℕ) (xs : List ℕ) (e : Ending) → Behind (opening o) (Inside o d) xs e → Branch (λ b. b == opening o) (suc d) xs e
bracket_branch o d xs (Leaving zs) (b, (found, only)) =
    let le = found.2 in
    record {
      starts = b;
      found = inl (brackets o found.0 b found.1 (sym found.3), omega (arith, le));
      only = λ r v. let w = opened o v b in w.left ∙ only w.place w.inside;
    }
bracket_branch o d xs Refusing n = λ b r v. let w = opened o v b in n b w.place w.inside
bracket_branch o d xs Failing (b, deep) = (b, λ r v. let w = opened o v b in let h = deep w.place w.inside in omega (arith, h, w.deeper))

module _ {O P : Type 0} {g : TextWord O} {h : TextWord P} (o : Bracket) (d : ℕ) (list : Described (Items o d) g)
    (close : Described (Gives (after_token (closing o))) h) where
  pub brackets_described : Described (Branch (λ b. b == opening o) (suc d)) (pair_of (token_of (opening o)) (pair_of g h))
  brackets_described = described_as (bracket_branch o d) (behind_by (opening o) (small_opening o) (Inside o d)
      (pair_by (Inside o d) list close (inside_ends o d) (λ xs h. absurd h) (inside_fails o d)))
