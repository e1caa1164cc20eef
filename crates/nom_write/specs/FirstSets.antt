-- First sets: the codes that forms begin with. The code of a byte is the byte, that of a character its code point, and that of a bit
-- 1 or 0.
use Rattle.std.specs.Prelude.{◌≡◌, ℕ, Bool, true, false, cond, eqb, ◌&&◌, ◌⊎◌, List, [], ◌∷◌, ◌++◌, map, Option, Some, None}
use Rattle.nom_internal.specs.Prelude.{Errors, Model, Grammar, Meaning, either_of}
use Rattle.nom_write.specs.Choices.{RefusesForms}
use Rattle.nom_write.specs.Reads.{NoItem}

-- some words, each of which is the codes of some items
abbrev pub CodeWords : Type 0
CodeWords = List (List ℕ)

-- codes are as many as those of a word, or more
abbrev pub is_as_long : (word codes : List ℕ) → Bool
is_as_long [] cs = true
is_as_long (b ∷ bs) [] = false
is_as_long (b ∷ bs) (c ∷ cs) = is_as_long bs cs

-- and they don't begin with the word
abbrev pub is_unlike : (word codes : List ℕ) → Bool
is_unlike [] cs = false
is_unlike (b ∷ bs) [] = false
is_unlike (b ∷ bs) (c ∷ cs) = cond (eqb b c) (is_unlike bs cs) (is_as_long bs cs)

-- so it is of each of some words
abbrev pub are_unlike : CodeWords → List ℕ → Bool
are_unlike [] c = true
are_unlike (b ∷ bs) c = is_unlike b c && are_unlike bs c

-- and of each of others
abbrev pub are_others : CodeWords → CodeWords → Bool
are_others bs [] = true
are_others bs (c ∷ cs) = are_unlike bs c && are_others bs cs

-- codes are one of some words
abbrev pub IsAmong : CodeWords → List ℕ → Type 0
IsAmong [] c = ⊥
IsAmong (b ∷ bs) c = (b ≡ c) ⊎ IsAmong bs c

-- the code that items begin with
abbrev pub first_of : {A : Type 0} → (A → ℕ) → List A → Option CodeWords
first_of code [] = None
first_of code (x ∷ xs) = Some ((code x ∷ []) ∷ [])

-- all their codes
abbrev pub whole_first : {A : Type 0} → (A → ℕ) → List A → Option CodeWords
whole_first code [] = None
whole_first code (x ∷ xs) = Some (map code (x ∷ xs) ∷ [])

-- those that one of two begins with
abbrev pub or_first : Option CodeWords → Option CodeWords → Option CodeWords
or_first (Some bs) (Some cs) = Some (bs ++ cs)
or_first (Some bs) None = None
or_first None cs = None

-- they begin with items of the codes of one of some words
pub record BeginsWith {A : Type 0} (code : A → ℕ) (bs : CodeWords) (xs : List A) : Type 0 where
  pub front : List A
  pub more : List A
  pub whole : xs ≡ front ++ more
  pub is_one : IsAmong bs (map code front)

module _ {I A V E : Type 0} (w : Model I A) (code : A → ℕ) (m : Meaning I V E) where
  -- whatever begins with items of other codes, as many as a word has, is refused, if the words are told
  pub record RefusesOthers (words : Option CodeWords) : Type 0 where
    pub refuses : (bs : CodeWords) → words ≡ Some bs → (front rest : List A) → are_unlike bs (map code front) ≡ true → NoItem w m (front ++ rest)

  -- items begin with one of the words, and all else is refused
  pub record StartsWith (items : List A) (words : Option CodeWords) : Type 0 where
    pub begins : (bs : CodeWords) → words ≡ Some bs → BeginsWith code bs items
    pub others : RefusesOthers words

module _ {I A V O E : Type 0} (w : Model I A) (code : A → ℕ) (g : Grammar I V O E) (Form : O → List A → Type 0) (words : Option CodeWords) where
  -- so each form does
  pub record HasFirst : Type 0 where
    pub begins : (bs : CodeWords) → words ≡ Some bs → (v : O) (xs : List A) → Form v xs → BeginsWith code bs xs
    pub others : RefusesOthers w code g.meaning words

-- two begin with items of different codes; where either doesn't tell them, the fact holds
abbrev pub Differ : Option CodeWords → Option CodeWords → Type 0 → Type 0
Differ (Some bs) (Some cs) Otherwise = are_others bs cs ≡ true
Differ (Some bs) None Otherwise = Otherwise
Differ None cs Otherwise = Otherwise

-- a grammar refuses whatever begins with a form of another, which is plain where these begin with items of other codes
abbrev pub AreDisjoint : {I A V O R E : Type 0} → Model I A → Grammar I V O E → (words : Option CodeWords) → (R → List A → Type 0) →
    (other : Option CodeWords) → Type 0
AreDisjoint w g words Form other = Differ words other (RefusesForms w g Form)

-- Some branches: they parse as one grammar, their forms begin with these words, and each stands apart from all before it.
pub record Branches (I A O E : Type 0) : Type 1 where
  pub Tree : Type 0
  pub model : Model I A
  pub errors : Errors I E
  pub grammar : Grammar I Tree O E
  pub words : Option CodeWords
  pub AreAllDisjoint : Type 0

abbrev pub one_branch : {I A S P V O E : Type 0} → Model I A → Errors I E → (S → Grammar I V O E) → (P → S) → (P → Option CodeWords) → P → Branches I A O E
one_branch {V = V} w errs grammar state First p = record {
  Tree = V;
  model = w;
  errors = errs;
  grammar = grammar (state p);
  words = First p;
  AreAllDisjoint = Unit {0};
}

-- and one more
abbrev pub or_branch : {I A S P V O E : Type 0} → Branches I A O E → (S → Grammar I V O E) → (P → S) → (P → O → List A → Type 0) → (P → Option CodeWords) → P →
    Branches I A O E
or_branch {V = V} before grammar state Form First p = record {
  Tree = before.Tree ⊎ V;
  model = before.model;
  errors = before.errors;
  grammar = either_of before.errors.joined before.errors.grows before.grammar (grammar (state p));
  words = or_first before.words (First p);
  AreAllDisjoint = before.AreAllDisjoint × AreDisjoint before.model before.grammar before.words (Form p) (First p);
}
