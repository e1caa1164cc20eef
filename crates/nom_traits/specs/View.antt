-- Views, by which values are compared.
use Rattle.std.specs.Prelude.{ℕ, List, map, Option, Some, None, Result, Ok, Err, Vec, Box, box_value, String, string_bytes, chars}
use Rattle.std.specs.Borrow.{Bor}
use Rattle.std.specs.VecDeque.{deque_items}
use Rattle.std.specs.BTreeMap.{BTreeMap}
use Rattle.std.specs.BTreeSet.{BTreeSet}
use Rattle.std.specs.HashMap.{HashMap}
use Rattle.std.specs.HashSet.{HashSet}
use Rattle.std.specs.Rc.{rc_value}
use Rattle.std.specs.Arc.{arc_value}
use Rattle.std.specs.declared.rc.Rc.{Rc}
use Rattle.std.specs.declared.sync.Arc.{Arc}
use Rattle.std.specs.declared.collections.VecDeque.{VecDeque}

-- what of a value of type O is compared
pub record View (O : Type 0) : Type 1 where
  pub Value : Type 0
  pub value : O → Value

-- the value itself
abbrev pub itself : {O : Type 0} → View O
itself {O} = record { Value = O; value = λ x. x }

-- the member of a tuple of one
abbrev pub single_view : {A : Type 0} → View A → View (record { 0 : A })
single_view a = record { Value = a.Value; value = λ p. a.value p.0 }

-- both values of a pair
abbrev pub pair_view : {A B : Type 0} → View A → View B → View (A × B)
pair_view a b = record { Value = a.Value × b.Value; value = λ p. (a.value p.0, b.value p.1) }

-- each member of a longer tuple
abbrev pub view_3 : {A B C : Type 0} → View A → View B → View C → View (A × B × C)
view_3 a b c = record { Value = a.Value × b.Value × c.Value; value = λ p. (a.value p.0, b.value p.1, c.value p.2) }

abbrev pub view_4 : {A B C D : Type 0} → View A → View B → View C → View D → View (A × B × C × D)
view_4 a b c d = record { Value = a.Value × b.Value × c.Value × d.Value; value = λ p. (a.value p.0, b.value p.1, c.value p.2, d.value p.3) }

abbrev pub view_5 : {A B C D E : Type 0} → View A → View B → View C → View D → View E → View (A × B × C × D × E)
view_5 a b c d e = record {
  Value = a.Value × b.Value × c.Value × d.Value × e.Value;
  value =
      λ p. (a.value p.0, b.value p.1, c.value p.2, d.value p.3, e.value p.4);
}

abbrev pub view_6 : {A B C D E F : Type 0} → View A → View B → View C → View D → View E → View F → View (A × B × C × D × E × F)
view_6 a b c d e f = record {
  Value = a.Value × b.Value × c.Value × d.Value × e.Value × f.Value;
  value =
      λ p. (a.value p.0, b.value p.1, c.value p.2, d.value p.3, e.value p.4, f.value p.5);
}

abbrev pub view_7 : {A B C D E F G : Type 0} → View A → View B → View C → View D → View E → View F → View G → View (A × B × C × D × E × F × G)
view_7 a b c d e f g = record {
  Value = a.Value × b.Value × c.Value × d.Value × e.Value × f.Value × g.Value;
  value =
      λ p. (a.value p.0, b.value p.1, c.value p.2, d.value p.3, e.value p.4, f.value p.5, g.value p.6);
}

abbrev pub view_8 : {A B C D E F G H : Type 0} → View A → View B → View C → View D → View E → View F → View G → View H → View (A × B × C × D × E × F × G × H)
view_8 a b c d e f g h = record {
  Value = a.Value × b.Value × c.Value × d.Value × e.Value × f.Value × g.Value × h.Value;
  value =
      λ p. (a.value p.0, b.value p.1, c.value p.2, d.value p.3, e.value p.4, f.value p.5, g.value p.6, h.value p.7);
}

abbrev pub view_some : {A : Type 0} (a : View A) → Option A → Option a.Value
view_some a (Some x) = Some (a.value x)
view_some a None = None

abbrev pub option_view : {A : Type 0} → View A → View (Option A)
option_view a = record { Value = Option a.Value; value = view_some a }

abbrev pub view_result : {A E : Type 0} (a : View A) (e : View E) → Result A E → Result a.Value e.Value
view_result a e (Ok x) = Ok (a.value x)
view_result a e (Err x) = Err (e.value x)

abbrev pub result_view : {A E : Type 0} → View A → View E → View (Result A E)
result_view a e = record { Value = Result a.Value e.Value; value = view_result a e }

-- each item of a list
abbrev pub list_view : {A : Type 0} → View A → View (List A)
list_view a = record { Value = List a.Value; value = map a.value }

abbrev pub vec_view : {T A : Type 0} → View T → View (Vec T A)
vec_view t = record { Value = List t.Value; value = λ v. map t.value v.items }

abbrev pub deque_view : {T A : Type 0} → View T → View (VecDeque T A)
deque_view t = record { Value = List t.Value; value = λ v. map t.value (deque_items v) }

-- the value on the heap
abbrev pub box_view : {T A : Type 0} → View T → View (Box T A)
box_view t = record { Value = t.Value; value = λ b. t.value (box_value b) }

-- the shared value
abbrev pub rc_view : {T A : Type 0} → View T → View (Rc T A)
rc_view t = record { Value = t.Value; value = λ r. t.value (rc_value r) }

abbrev pub arc_view : {T A : Type 0} → View T → View (Arc T A)
arc_view t = record { Value = t.Value; value = λ r. t.value (arc_value r) }

-- each key with its value, as the map's iterator gives them
abbrev pub entries_view : {K V M : Type 0} → View K → View V → (M → List (K × V)) → View M
entries_view k v entries = record { Value = List (k.Value × v.Value); value = λ m. map (λ e. (k.value e.0, v.value e.1)) (entries m) }

abbrev pub tree_map_view : {K V : Type 0} → View K → View V → View (BTreeMap K V)
tree_map_view k v = entries_view k v (λ m. m.entries)

abbrev pub hash_map_view : {K V S : Type 0} → View K → View V → View (HashMap K V S)
hash_map_view k v = entries_view k v (λ m. m.entries)

-- each key of a set, as the set's iterator gives them
abbrev pub keys_view : {K S : Type 0} → View K → (S → List K) → View S
keys_view k keys = record { Value = List k.Value; value = λ s. map k.value (keys s) }

abbrev pub tree_set_view : {K : Type 0} → View K → View (BTreeSet K)
tree_set_view k = keys_view k (λ s. s.keys)

abbrev pub hash_set_view : {K S : Type 0} → View K → View (HashSet K S)
hash_set_view k = keys_view k (λ s. s.keys)

-- the characters of a text that owns its bytes
abbrev pub string_view : {A : Type 0} → View (String A)
string_view = record { Value = List ℕ; value = λ s. chars (string_bytes s) }

-- the value behind a reference
abbrev pub behind_view : {A : Type 0} → View (Bor A)
behind_view {A} = record { Value = A; value = λ r. r.now }

-- the characters of a text
abbrev pub text_view : View (Bor (List ℕ))
text_view = record { Value = List ℕ; value = λ t. chars t.now }
