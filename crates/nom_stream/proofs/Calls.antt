-- The items that calls give are those of the whole.
use Rattle.std.proofs.Common.{arith, ◌≡◌, ℕ, suc, ◌+◌, ◌-◌, ◌^◌, ◌≤◌, min, Bool, List, [], ◌∷◌, ◌++◌, length, Option, Some, None, Ok, Err, refl, sym}
use Rattle.std.proofs.Common.{◌∙◌, ap, subst}
use Rattle.std.specs.List.{AllZip}
use Rattle.nom_error.specs.declared.value.Error.{Error}
use Rattle.nom_internal.specs.Prelude.{bytes_model, bytes_lawful, IsSuffixOf, rest_rest, same_cut, items_len-ones, Accept, Meaning, Grammar}
use Rattle.nom_calls.specs.Iterated.{AreItems, Ends}
use Rattle.nom_stream.specs.declared.stream.Stream.{Stream}
use Rattle.nom_stream.specs.Items.{Bytes}
use Rattle.nom_stream.specs.Streams.{Decides, ItemResult, counted}
use Rattle.nom_stream.specs.Wholes.{AreOfWhole, AtWhole, Calls, HasLeft, ItemsOfWhole, items_of, used_by, used_of}
use Rattle.nom_stream.proofs.Outcomes.{nil_of}
use Rattle.nom_stream.proofs.Wholes.{answers_whole, left_after}

abbrev AllItems : {V : Type 0} → Meaning Bytes V (Error Bytes) → Bool → ℕ → Bytes → List V → Type 0
AllItems m complete = AreItems bytes_model (AtWhole m complete)

module _ {R A V O : Type 0} (left : R → Option (List ℕ)) (grammar : Grammar Bytes V O (Error Bytes)) (sound : grammar.meaning.IsSound) where
  -- after an answer that gave no item the same bytes are left
  still_left : (s t : Stream R A) (r : ItemResult O) (whole : Bytes) → used_of r ≡ 0 → Decides left grammar s t r → HasLeft left s whole.now →
      HasLeft left t whole.now
  still_left s t r whole none d has =
      let l = left_after left grammar s t r whole.now d has in
      let front : l.0 ≡ [] = nil_of l.0 (l.1 ∙ none) in
      subst (HasLeft left t) (sym (l.2.2 ∙ ap (λ z. z ++ l.2.0) front)) l.2.1

  skip : (s u t : Stream R A) (r : ItemResult O) (rs : List (ItemResult O)) (whole : Bytes) (limit : ℕ) (trees : List V) → used_of r ≡ 0 →
      counted s.offset r ≡ s.offset → items_of (r ∷ rs) ≡ items_of rs → Decides left grammar s u r →
      AreOfWhole left grammar u t rs whole limit trees → AreOfWhole left grammar s t (r ∷ rs) whole limit trees
  skip s u t r rs whole limit trees none count same d k =
      let total : used_by rs ≡ used_by (r ∷ rs) = omega (arith, none) in
      record {
        first = k.first;
        others = k.others;
        trees_are = k.trees_are;
        items = subst (λ z. AllZip grammar.IsOutput k.first z) (sym same) k.items;
        place = k.place;
        begins = subst (λ z. IsSuffixOf bytes_model whole z k.place) total k.begins;
        left_then = k.left_then;
        go_on = subst (λ z. AllItems grammar.meaning z.complete limit k.place k.others) d.settings.1 k.go_on;
        offset = omega (arith, k.offset, d.offset, count, none);
        settings = k.settings ∙ d.settings.1;
      }

  abbrev AreSo : Stream R A → Stream R A → List (ItemResult O) → Type 0
  AreSo s t rs =
      (whole : Bytes) → bytes_model.IsKnown whole → HasLeft left s whole.now → s.offset ≤ 2 ^ 64 - 1 →
      (limit : ℕ) (trees : List V) → AllItems grammar.meaning s.settings.complete (length (items_of rs) + limit) whole trees →
      AreOfWhole left grammar s t rs whole limit trees

  -- an item before those that follow
  prepend : (s u t : Stream R A) (n : ℕ) (o : O) (rs : List (ItemResult O)) (whole next : Bytes) (size limit : ℕ) (v : V) (vs : List V) →
      Decides left grammar s u (Ok (Some (n, o))) → n ≡ size → grammar.IsOutput v o → IsSuffixOf bytes_model whole size next →
      AreOfWhole left grammar u t rs next limit vs → AreOfWhole left grammar s t (Ok (Some (n, o)) ∷ rs) whole limit (v ∷ vs)
  prepend s u t n o rs whole next size limit v vs d count item rest k =
      let counts : u.offset ≡ min (s.offset + n) (2 ^ 64 - 1) = d.offset in
      let all : size + used_by rs ≡ used_by (Ok (Some (n, o)) ∷ rs) = omega (arith, count) in
      record {
        first = v ∷ k.first;
        others = k.others;
        trees_are = ap (λ z. v ∷ z) k.trees_are;
        items = (item, k.items);
        place = k.place;
        begins = subst (λ z. IsSuffixOf bytes_model whole z k.place) all
            (rest_rest bytes_model bytes_lawful whole size next (used_by rs) k.place rest k.begins);
        left_then = k.left_then;
        go_on = subst (λ z. AllItems grammar.meaning z.complete limit k.place k.others) d.settings.1 k.go_on;
        offset = omega (arith, k.offset, counts);
        settings = k.settings ∙ d.settings.1;
      }

  item_first : (s u t : Stream R A) (n : ℕ) (o : O) (rs : List (ItemResult O)) → Decides left grammar s u (Ok (Some (n, o))) → AreSo u t rs →
      (whole : Bytes) → bytes_model.IsKnown whole → HasLeft left s whole.now → s.offset ≤ 2 ^ 64 - 1 →
      (limit : ℕ) (trees : List V) → AllItems grammar.meaning s.settings.complete (suc (length (items_of rs) + limit)) whole trees →
      AreOfWhole left grammar s t (Ok (Some (n, o)) ∷ rs) whole limit trees
  item_first s u t n o rs d others whole known has low limit [] a =
      let told = answers_whole left grammar sound s u (Ok (Some (n, o))) d whole known has a.0 a.1 in
      absurd (subst Ends (sym told.2) a.2)
  item_first s u t n o rs d others whole known has low limit (v ∷ vs) a =
      let size = a.0 in
      let next = a.1 in
      let rest = a.3 in
      let told = answers_whole left grammar sound s u (Ok (Some (n, o))) d whole known has (Accept size v) a.2 in
      let tree : told.0 ≡ v = cc (told.2) in
      let count : n ≡ size = cc (told.2) in
      let l = left_after left grammar s u (Ok (Some (n, o))) whole.now d has in
      let cut = same_cut (λ (b : ℕ). 1) (λ b. omega arith) l.0 l.2.0 rest.front next.now (sym l.2.2 ∙ rest.whole)
      (items_len-ones l.0 ∙ l.1 ∙ count ∙ sym rest.length_is) in
      let then : HasLeft left u next.now = subst (HasLeft left u) cut.1 l.2.1 in
      let counts : u.offset ≡ min (s.offset + n) (2 ^ 64 - 1) = d.offset in
      prepend s u t n o rs whole next size limit v vs d count (subst (λ z. grammar.IsOutput z o) tree told.1) rest
      (others next rest.known then (omega (arith, counts)) limit vs
      (subst (λ z. AllItems grammar.meaning z.complete (length (items_of rs) + limit) next vs) (sym d.settings.1) a.4))

  are_so : (rs : List (ItemResult O)) (s t : Stream R A) → Calls left grammar rs s t → AreSo s t rs
  are_so [] s t e whole known has low limit trees a =
      let none : 0 + limit ≡ limit = omega arith in
      record {
        first = [];
        others = trees;
        trees_are = refl;
        items = tt;
        place = whole;
        begins = record { known = known; front = []; whole = refl; length_is = refl; mark_is = refl };
        left_then = subst (λ z. HasLeft left z whole.now) (sym e) has;
        go_on = subst (λ z. AllItems grammar.meaning s.settings.complete z whole trees) none a;
        offset = omega (arith, low, ap (λ z. z.offset) e);
        settings = ap (λ z. z.settings) e;
      }
  are_so (Ok (Some (n, o)) ∷ rs) s t h whole known has low limit trees a =
      let one_more : length (items_of (Ok (Some (n, o)) ∷ rs)) + limit ≡ suc (length (items_of rs) + limit) = omega arith in
      item_first s h.0 t n o rs h.1 (are_so rs h.0 t h.2) whole known has low limit trees (subst (λ z. AllItems grammar.meaning
      s.settings.complete z whole trees) one_more a)
  are_so (Ok None ∷ rs) s t h whole known has low limit trees a =
      let d = h.1 in
      let counts : (h.0).offset ≡ s.offset = d.offset in
      skip s h.0 t (Ok None) rs whole limit trees refl refl refl d
      (are_so rs h.0 t h.2 whole known (still_left s h.0 (Ok None) whole refl d has)
      (omega (arith, low, counts)) limit trees (subst (λ z. AllItems grammar.meaning z.complete (length (items_of rs) + limit) whole trees)
      (sym d.settings.1) a))
  are_so (Err e ∷ rs) s t h whole known has low limit trees a =
      let d = h.1 in
      let counts : (h.0).offset ≡ s.offset = d.offset in
      skip s h.0 t (Err e) rs whole limit trees refl refl refl d
      (are_so rs h.0 t h.2 whole known (still_left s h.0 (Err e) whole refl d has)
      (omega (arith, low, counts)) limit trees (subst (λ z. AllItems grammar.meaning z.complete (length (items_of rs) + limit) whole trees)
      (sym d.settings.1) a))

  pub items_whole : ItemsOfWhole A left grammar
  items_whole s t rs h = are_so rs s t h
