-- Values, by their first byte.
use Rattle.std.specs.Prelude.{◌≡◌, ℕ, ◌+◌, ◌<◌, ◌≤◌, ◌==◌, ◌↔◌, ◌++◌, Bool, true, false, if◌then◌else◌, List, [], ◌∷◌, Option, None, Some}
use Rattle.std.specs.Prelude.{codes, length, drop, refl}
use Rattle.std.proofs.Common.{arith, sym, ◌∙◌, ap, subst, length-drop}
use Rattle.std.proofs.lemmas.Bool.{eqb-true}
use Rattle.nom_json_run.specs.Json.{JsonCharacters, JsonInside, JsonItem, JsonString, JsonValue, Leaves, Spaced, after_number, after_spaces, after_word}
use Rattle.nom_json_run.specs.Json.{begins, closing, first_is, opening, rest}
use Rattle.nom_json_run.specs.Json.JsonValue.{null, truth, untruth, number, text, brackets}
use Rattle.nom_json_run.specs.Json.JsonItem.{element, member}
use Rattle.nom_json_run.specs.Scans.{EndsNowhere, EndsOnly, SameEnds}
use Rattle.nom_json_run.specs.Parts.{BeginsWord, is_mark}
use Rattle.nom_json_run.specs.Parts.BeginsWord.{as_null, as_true, as_false}
use Rattle.nom_json_run.specs.declared.bracket.Bracket.{Bracket}
use Rattle.nom_json_run.specs.declared.bracket.Bracket.TheVariants.{Array, Object}
use Rattle.nom_json_run.proofs.Alike.{rest_at}
use Rattle.nom_json_run.proofs.Decisions.{if_some}

no_some : (j : List ℕ) → ◌≡◌ {A = Option (List ℕ)} None (Some j) → ⊥
no_some j e = cc

no_true : ◌≡◌ {A = Bool} false true → ⊥
no_true e = cc

pub differ : (t : Bool) → t ≡ true → t ≡ false → ⊥
differ t e f = cc

pub head_is : (c : ℕ) (i : List ℕ) → begins c i ≡ true → i ≡ c ∷ rest i
head_is c [] e = absurd (no_true e)
head_is c (b ∷ bs) e = ap (λ x. x ∷ bs) (eqb-true b c e)

-- two bytes can't both be the first
pub one_head : (c d : ℕ) (i : List ℕ) → (c == d) ≡ false → begins c i ≡ true → begins d i ≡ true → ⊥
one_head c d i n e f = differ (c == d) (subst (λ xs. begins d xs ≡ true) (head_is c i e) f) n

-- by its first byte
by_head : (c : ℕ) (Part Other : List ℕ → List ℕ → Type 0) → ((i r : List ℕ) → Part (c ∷ i) r → Other (c ∷ i) r) → (i : List ℕ) → begins c i ≡ true →
    (r : List ℕ) → Part i r → Other i r
by_head c Part Other f i e r h =
    let p = head_is c i e in
    subst (λ xs. Other xs r) (sym p) (f (rest i) r (subst (λ xs. Part xs r) p h))

pub word_begins : (c : ℕ) (v i j : List ℕ) → after_word (c ∷ v) i ≡ Some j → begins c i ≡ true
word_begins c v i j e = if_some (begins c i) (after_word v (rest i)) j e

pub word_whole : (w xs r : List ℕ) → after_word w xs ≡ Some r → xs ≡ w ++ r
word_whole [] xs r e = cc (e)
word_whole (c ∷ w) [] r e = absurd (cc (e))
word_whole (c ∷ w) (b ∷ bs) r e =
    let first = if_some (b == c) (after_word w bs) r e in
    let same = eqb-true b c first in
    let others = word_whole w bs r (sym (ap (λ t. if t then after_word w bs else None) first) ∙ e) in
    cc (same, others)

-- words
null_from : (i r : List ℕ) → JsonValue (110 ∷ i) r → Spaced (Leaves (after_word (codes "null"))) (110 ∷ i) r
null_from i r (null s) = s
null_from i r (truth s) = absurd (no_some s.0 s.1)
null_from i r (untruth s) = absurd (no_some s.0 s.1)
null_from i r (number s) = absurd (no_some s.0 s.1)
null_from i r (text t) = absurd (no_true t.0)
null_from i r (brackets Array j e h s) = absurd (no_true e)
null_from i r (brackets Object j e h s) = absurd (no_true e)

truth_from : (i r : List ℕ) → JsonValue (116 ∷ i) r → Spaced (Leaves (after_word (codes "true"))) (116 ∷ i) r
truth_from i r (null s) = absurd (no_some s.0 s.1)
truth_from i r (truth s) = s
truth_from i r (untruth s) = absurd (no_some s.0 s.1)
truth_from i r (number s) = absurd (no_some s.0 s.1)
truth_from i r (text t) = absurd (no_true t.0)
truth_from i r (brackets Array j e h s) = absurd (no_true e)
truth_from i r (brackets Object j e h s) = absurd (no_true e)

untruth_from : (i r : List ℕ) → JsonValue (102 ∷ i) r → Spaced (Leaves (after_word (codes "false"))) (102 ∷ i) r
untruth_from i r (null s) = absurd (no_some s.0 s.1)
untruth_from i r (truth s) = absurd (no_some s.0 s.1)
untruth_from i r (untruth s) = s
untruth_from i r (number s) = absurd (no_some s.0 s.1)
untruth_from i r (text t) = absurd (no_true t.0)
untruth_from i r (brackets Array j e h s) = absurd (no_true e)
untruth_from i r (brackets Object j e h s) = absurd (no_true e)

begun_within : (c : ℕ) (bytes : List ℕ) (at : ℕ) → begins c (drop at bytes) ≡ true → at ≤ length bytes
begun_within c bytes at b = omega (arith, ap length (head_is c (drop at bytes) b), length-drop at bytes)

-- a word begins within the bytes
pub named_within : (w bytes : List ℕ) (at : ℕ) → BeginsWord w (drop at bytes) → at ≤ length bytes
named_within w bytes at (as_null e b) = begun_within 110 bytes at b
named_within w bytes at (as_true e b) = begun_within 116 bytes at b
named_within w bytes at (as_false e b) = begun_within 102 bytes at b

pub word_same : (w i : List ℕ) → BeginsWord w i → SameEnds (JsonValue i) (Spaced (Leaves (after_word w)) i)
word_same w i (as_null e b) r = (
  λ v. subst (λ u. Spaced (Leaves (after_word u)) i r) (sym e) (by_head 110 JsonValue (Spaced (Leaves (after_word (codes "null")))) null_from i b r v),
  λ s. null (subst (λ u. Spaced (Leaves (after_word u)) i r) e s),
)
word_same w i (as_true e b) r = (
  λ v. subst (λ u. Spaced (Leaves (after_word u)) i r) (sym e) (by_head 116 JsonValue (Spaced (Leaves (after_word (codes "true")))) truth_from i b r v),
  λ s. truth (subst (λ u. Spaced (Leaves (after_word u)) i r) e s),
)
word_same w i (as_false e b) r = (
  λ v. subst (λ u. Spaced (Leaves (after_word u)) i r) (sym e) (by_head 102 JsonValue (Spaced (Leaves (after_word (codes "false")))) untruth_from i b r v),
  λ s. untruth (subst (λ u. Spaced (Leaves (after_word u)) i r) e s),
)

-- numbers, where no other value begins
unmarked : (c : ℕ) (i : List ℕ) → is_mark c ≡ true → first_is is_mark i ≡ false → begins c i ≡ true → ⊥
unmarked c i m none e = differ (first_is is_mark i) (subst (λ xs. first_is is_mark xs ≡ true) (sym (head_is c i e)) m) none

bracket_marks : (o : Bracket) → is_mark (opening o) ≡ true
bracket_marks Array = refl
bracket_marks Object = refl

number_from : (i r : List ℕ) → first_is is_mark i ≡ false → JsonValue i r → Spaced (Leaves after_number) i r
number_from i r none (null s) = absurd (unmarked 110 i refl none (word_begins 110 (codes "ull") i s.0 s.1))
number_from i r none (truth s) = absurd (unmarked 116 i refl none (word_begins 116 (codes "rue") i s.0 s.1))
number_from i r none (untruth s) = absurd (unmarked 102 i refl none (word_begins 102 (codes "alse") i s.0 s.1))
number_from i r none (number s) = s
number_from i r none (text t) = absurd (unmarked 34 i refl none t.0)
number_from i r none (brackets o j e h s) = absurd (unmarked (opening o) i (bracket_marks o) none e)

pub number_same : (i : List ℕ) → first_is is_mark i ≡ false → SameEnds (JsonValue i) (Spaced (Leaves after_number) i)
number_same i none r = (λ v. number_from i r none v, λ s. number s)

-- strings
text_from : (i r : List ℕ) → JsonValue (34 ∷ i) r → JsonString (34 ∷ i) r
text_from i r (null s) = absurd (no_some s.0 s.1)
text_from i r (truth s) = absurd (no_some s.0 s.1)
text_from i r (untruth s) = absurd (no_some s.0 s.1)
text_from i r (number s) = absurd (no_some s.0 s.1)
text_from i r (text t) = t
text_from i r (brackets Array j e h s) = absurd (no_true e)
text_from i r (brackets Object j e h s) = absurd (no_true e)

pub text_same : (i : List ℕ) → begins 34 i ≡ true → SameEnds (JsonValue i) (JsonString i)
text_same i e r = (λ v. by_head 34 JsonValue JsonString text_from i e r v, λ t. text t)

pub string_same : (bs : List ℕ) (at : ℕ) → begins 34 (drop at bs) ≡ true → SameEnds (JsonString (drop at bs)) (Spaced JsonCharacters (drop (at + 1) bs))
string_same bs at e r =
    let p = rest_at bs at in
    (λ t. subst (λ xs. Spaced JsonCharacters xs r) p t.1, λ s. (e, subst (λ xs. Spaced JsonCharacters xs r) (sym p) s))

pub string_no : (i : List ℕ) → begins 34 i ≡ false → EndsNowhere (JsonString i)
string_no i q r t = differ (begins 34 i) t.0 q

-- items
pub element_same : (i r : List ℕ) → JsonItem Array i r ↔ JsonValue i r
element_same i r = (element_to i r, λ h. element refl h) where
  element_to : (i r : List ℕ) → JsonItem Array i r → JsonValue i r
  element_to i r (element e h) = h
  element_to i r (member j e t b h) = absurd (cc)

member_to : (i j r : List ℕ) → EndsOnly (JsonString i) j → JsonItem Object i r → (begins 58 j ≡ true) × JsonValue (after_spaces (rest j)) r
member_to i j r only (element e h) = absurd (cc)
member_to i j r only (member k e t b h) =
    let p = (only k).0 t in
    (subst (λ xs. begins 58 xs ≡ true) p b, subst (λ xs. JsonValue (after_spaces (rest xs)) r) p h)

pub member_same : (i j k : List ℕ) → EndsOnly (JsonString i) j → begins 58 j ≡ true → k ≡ after_spaces (rest j) → (r : List ℕ) →
    JsonItem Object i r ↔ JsonValue k r
member_same i j k only b s r = (
  λ h. subst (λ xs. JsonValue xs r) (sym s) ((member_to i j r only h).1),
  λ h. member j refl ((only j).1 refl) b (subst (λ xs. JsonValue xs r) s h),
)

pub member_no_colon : (i j : List ℕ) → EndsOnly (JsonString i) j → begins 58 j ≡ false → EndsNowhere (JsonItem Object i)
member_no_colon i j only b r h = differ (begins 58 j) (member_to i j r only h).0 b

pub member_no_name : (i : List ℕ) → EndsNowhere (JsonString i) → EndsNowhere (JsonItem Object i)
member_no_name i none r (element e h) = absurd (cc)
member_no_name i none r (member k e t b h) = none k t

-- no item begins with the closing bracket
closing_none : (o : Bracket) (i r : List ℕ) → JsonItem o (closing o ∷ i) r → ⊥
closing_none Array i r (element e h) =
    let s = number_from (93 ∷ i) r refl h in
    no_some s.0 s.1
closing_none Array i r (member k e t b h) = absurd (cc)
closing_none Object i r (element e h) = absurd (cc)
closing_none Object i r (member k e t b h) = no_true t.0

pub item_none : (o : Bracket) (i : List ℕ) → begins (closing o) i ≡ true → EndsNowhere (JsonItem o i)
item_none o i e r h = closing_none o (rest i) r (subst (λ xs. JsonItem o xs r) (head_is (closing o) i e) h)

-- brackets
array_from : (i r : List ℕ) → JsonValue (91 ∷ i) r → Spaced (JsonInside Array) (after_spaces i) r
array_from i r (null s) = absurd (no_some s.0 s.1)
array_from i r (truth s) = absurd (no_some s.0 s.1)
array_from i r (untruth s) = absurd (no_some s.0 s.1)
array_from i r (number s) = absurd (no_some s.0 s.1)
array_from i r (text t) = absurd (no_true t.0)
array_from i r (brackets Array j e h s) = (j, h, s)
array_from i r (brackets Object j e h s) = absurd (no_true e)

object_from : (i r : List ℕ) → JsonValue (123 ∷ i) r → Spaced (JsonInside Object) (after_spaces i) r
object_from i r (null s) = absurd (no_some s.0 s.1)
object_from i r (truth s) = absurd (no_some s.0 s.1)
object_from i r (untruth s) = absurd (no_some s.0 s.1)
object_from i r (number s) = absurd (no_some s.0 s.1)
object_from i r (text t) = absurd (no_true t.0)
object_from i r (brackets Array j e h s) = absurd (no_true e)
object_from i r (brackets Object j e h s) = (j, h, s)

pub bracket_from : (o : Bracket) (i r : List ℕ) → begins (opening o) i ≡ true → JsonValue i r → Spaced (JsonInside o) (after_spaces (rest i)) r
bracket_from Array i r e h = by_head 91 JsonValue (λ j. Spaced (JsonInside Array) (after_spaces (rest j))) array_from i e r h
bracket_from Object i r e h = by_head 123 JsonValue (λ j. Spaced (JsonInside Object) (after_spaces (rest j))) object_from i e r h

pub named_some : (w i : List ℕ) → BeginsWord w i → 0 < length w
named_some w i (as_null e b) = let h : length w ≡ 4 = ap length e in omega (arith, h)
named_some w i (as_true e b) = let h : length w ≡ 4 = ap length e in omega (arith, h)
named_some w i (as_false e b) = let h : length w ≡ 5 = ap length e in omega (arith, h)
