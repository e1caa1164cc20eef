-- Forms of lists with a separator.
use Rattle.std.specs.Prelude.{ℕ, ◌<◌, Bool, true, List, [], ◌∷◌, ◌++◌, None, refl}
use Rattle.std.specs.List.{AllZip}
use Rattle.std.proofs.Common.{sym, subst}
use Rattle.nom_internal.specs.Prelude.{Accept, Errors, Grammar, InputLaws, Model}
use Rattle.nom_separated.proofs.SeparatedAccepting.{separated1_accepts_more}
use Rattle.nom_separated.specs.Separated.{separated_list1_of}
use Rattle.nom_sequence.specs.Sequences.{preceded_of}
use Rattle.nom_sink.specs.Lists.{EachForm, ItemForm}
use Rattle.nom_write.specs.Separated.{AfterSeparator, SomeForm}
use Rattle.nom_write_canonical.specs.Forms.{AcceptsForms, AcceptsItems, FormOf, HasFront, IsOneForm}
use Rattle.nom_write_canonical.specs.laws.CaseForms.{front_by}
use Rattle.nom_write_canonical.specs.laws.ListForms.{each_one, items_front}
use Rattle.nom_write_canonical.specs.laws.SequenceForms.{both_one, items_one, front_joined, preceded_accepts}

module _ {A V O : Type 0} (IsOutput : V → O → Type 0) (items : List A) (Form : O → List A → Type 0) where
  abbrev Further : List V → List A → Type 0
  Further ts xs = (vs : List O) → AllZip IsOutput ts vs → EachForm (ItemForm true (AfterSeparator items Form)) vs xs

  abbrev Separated : List V → List A → Type 0
  Separated ts xs = (vs : List O) → AllZip IsOutput ts vs → SomeForm Form (AfterSeparator items Form) vs xs

  -- a first item, and those after it
  first_further : (t : V) (ts : List V) (xs ys : List A) → ((v : O) → IsOutput t v → Form v xs) → Further ts ys → Separated (t ∷ ts) (xs ++ ys)
  first_further t ts xs ys f more [] z = absurd z
  first_further t ts xs ys f more (v ∷ vs) z = record { front = xs; back = ys; whole = refl; first = f v z.0; second = more vs z.1 }

-- one item at least, and the separator between items
pub separated_list1_accepts : {I A P Q V O E M : Type 0} {w : Model I A} → InputLaws w → (errs : Errors I E) {sep : Grammar I P Q E} {g : Grammar I V O E}
    {items : List A} {Form : O → List A → Type 0} → AcceptsItems w sep items → AcceptsForms w g Form →
    AcceptsForms w (separated_list1_of {M = M} w errs sep g) (λ v. SomeForm Form (AfterSeparator items Form) v.items)
separated_list1_accepts {I} {V = V} {M = M} {w} l errs {sep} {g} {items} {Form} p q = record {
  accepts = λ s. record { front = λ i n ts known a. front_by (λ xs k v z. k v.items z) (front s i n ts known a) };
}
  where
    front : (s : Bool) (i : I) (n : ℕ) (ts : List V) → w.IsKnown i → (separated_list1_of {M = M} w errs sep g).meaning.answers s i (Accept n ts) →
        HasFront w (Separated g.IsOutput items Form ts) i n
    front s i n ts known a =
        let k = (separated1_accepts_more w errs sep.meaning g.meaning s i n ts).0 a in
        let first = (q.accepts s).front i k.first_length k.tree known k.accepted in
        let more = items_front w l (preceded_of w sep g) (AfterSeparator items Form) (preceded_accepts l p q) s (λ a. 0 < a) true (λ n h e. h) 0 None 0 k.rest
        k.trees k.more_length (k.rest_is).known k.more in
        let both = front_joined w l i k.rest k.first_length k.more_length (FormOf g Form k.tree) (Further g.IsOutput items Form k.trees)
        (Separated g.IsOutput items Form (k.tree ∷ k.trees)) (first_further g.IsOutput items Form k.tree k.trees) first k.rest_is more in
        subst (λ z. HasFront w (Separated g.IsOutput items Form z) i n) (sym k.trees_are)
        (subst (λ m. HasFront w (Separated g.IsOutput items Form (k.tree ∷ k.trees)) i m) (sym k.length_is) both)

pub separated_one : {A O : Type 0} {IsValue : A → Type 0} (items : List A) {Form : O → List A → Type 0} → ((v : O) → IsOneForm IsValue (Form v)) →
    (vs : List O) → IsOneForm IsValue (SomeForm Form (AfterSeparator items Form) vs)
separated_one items p [] = record { one = λ xs ys h k a b. absurd a }
separated_one items p (v ∷ vs) = both_one (p v) (each_one true (λ u. both_one (items_one items) (p u)) vs)
