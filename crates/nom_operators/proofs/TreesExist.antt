-- A term and pairs of an operator and a term have a tree: the steps by which it is read make it, whatever the values.
use Rattle.std.specs.Prelude.{◌≡◌, ℕ, Bool, true, false, List, [], ◌∷◌, ◌++◌, map, Result, Ok, Err, refl}
use Rattle.std.proofs.Common.{subst, append_assoc, append-nil, ◌⊎◌, inl, inr, sym, ap, ◌∙◌}
use Rattle.std.proofs.lemmas.Bool.{cases_Bool}
use Rattle.nom_operators.specs.Evaluations.{HasTree, IsValueOf, pair_symbols, term_symbols}
use Rattle.nom_operators.specs.Groups.{is_left}
use Rattle.nom_operators.specs.OperatorTrees.{Symbol, ends_operand}
use Rattle.nom_operators.specs.OperatorTrees.Symbol.{OfPrefix, OfOperand, OfPostfix, OfBinary}
use Rattle.nom_operators.specs.helpers.Pending.{EndsNone, HasRead, IsEnding, IsPartlyRead, PendingGives, WaitsBefore, level_of_pending}
use Rattle.nom_operators.specs.declared.operation.Operation.{Operation}
use Rattle.nom_operators.specs.declared.precedences.Unary.{Unary}
use Rattle.nom_operators.specs.declared.precedences.Binary.{Binary}
use Rattle.nom_operators.specs.declared.pending.Pending.{Pending}
use Rattle.nom_operators.specs.declared.pending.Pending.TheVariants.{Prefix, Left}
use Rattle.nom_operators.proofs.PendingShown.{all_read, any_edge, left_waits, operand_read, partly_read, postfix_read, prefixes_wait}

-- a fold that gives every value, and refuses nothing
abbrev AnyValue : {P Q B O : Type 0} → Operation P Q B O → Result O ⊥ → Type 0
AnyValue x r = Unit {0}

gives_any : {P B O : Type 0} (Q : Type 0) (e : Pending P B (Result O ⊥)) (o : O) → PendingGives {Q = Q} AnyValue e (Ok o) (Ok o)
gives_any Q (Prefix p) o = tt
gives_any Q (Left (Ok u) b) o = tt
gives_any Q (Left (Err e) b) o = absurd e

module _ {P Q B O : Type 0} where
  abbrev IsRead : List (Symbol (Unary P) O (Unary Q) (Binary B)) → Type 0
  IsRead ss = (s : List (Pending P B (Result O ⊥))) × (o : O) × HasRead AnyValue ss s (Ok o)

  abbrev EndsAll : ℕ → Bool → List (Symbol (Unary P) O (Unary Q) (Binary B)) → Type 0
  EndsAll k left ss = (s : List (Pending P B (Result O ⊥))) × (o : O) × IsEnding AnyValue k left ss s (Ok o) × EndsNone s k left

  -- an operator ends the operands that it ends
  ends_all : (k : ℕ) (left : Bool) (ss : List (Symbol (Unary P) O (Unary Q) (Binary B))) (s : List (Pending P B (Result O ⊥))) (o : O) →
      IsEnding AnyValue k left ss s (Ok o) → EndsAll k left ss
  ends_all k left ss [] o h = ([], o, h, tt)
  ends_all k left ss (e ∷ s) o h = by (cases_Bool (ends_operand k left (level_of_pending e)))
      (λ f. ends_all k left ss s o (partly_read AnyValue (λ j. ends_operand k left j ≡ true) ss e s (Ok o) (Ok o) h f (gives_any Q e o)))
    where
      by : (ends_operand k left (level_of_pending e) ≡ true) ⊎ (ends_operand k left (level_of_pending e) ≡ false) →
          (ends_operand k left (level_of_pending e) ≡ true → EndsAll k left ss) → EndsAll k left ss
      by (inl f) more = more f
      by (inr f) more = (e ∷ s, o, h, f)

  postfixes_read : (qs : List (Unary Q)) (ss : List (Symbol (Unary P) O (Unary Q) (Binary B))) → IsRead ss → IsRead (ss ++ map OfPostfix qs)
  postfixes_read [] ss h = (h.0, h.1, subst (λ z. HasRead AnyValue z h.0 (Ok h.1)) (sym (append-nil ss)) h.2)
  postfixes_read (q ∷ qs) ss h =
      let e = ends_all q.precedence true ss h.0 h.1 (any_edge AnyValue (λ j. ends_operand q.precedence true j ≡ true) ss h.0 (Ok h.1) h.2) in
      let more = postfixes_read qs (ss ++ OfPostfix q ∷ []) (e.0, e.1, postfix_read AnyValue ss e.0 (Ok e.1) (Ok e.1) q e.2 e.3 tt) in
      (more.0, more.1, subst (λ z. HasRead AnyValue z more.0 (Ok more.1)) (append_assoc ss (OfPostfix q ∷ []) (map OfPostfix qs)) more.2)

  term_reads : (ps : List (Unary P)) (o : O) (qs : List (Unary Q)) (ss : List (Symbol (Unary P) O (Unary Q) (Binary B)))
      (s : List (Pending P B (Result O ⊥))) → WaitsBefore AnyValue ss s → IsRead (ss ++ term_symbols ps o qs)
  term_reads ps o qs ss s h =
      let before = ss ++ map OfPrefix ps in
      let more = postfixes_read qs (before ++ OfOperand o ∷ []) (_, o, operand_read AnyValue before _ o (prefixes_wait AnyValue ps ss s h)) in (
        more.0,
        more.1,
        subst (λ z. HasRead AnyValue z more.0 (Ok more.1)) (append_assoc before (OfOperand o ∷ []) (map OfPostfix qs)
            ∙ append_assoc ss (map OfPrefix ps) (OfOperand o ∷ map OfPostfix qs)) more.2,
      )

  pairs_read : (pairs : List (Binary B × (List (Unary P) × O × List (Unary Q)))) (ss : List (Symbol (Unary P) O (Unary Q) (Binary B))) → IsRead ss →
      IsRead (ss ++ pair_symbols pairs)
  pairs_read [] ss h = (h.0, h.1, subst (λ z. HasRead AnyValue z h.0 (Ok h.1)) (sym (append-nil ss)) h.2)
  pairs_read (p ∷ ps) ss h =
      let b = p.0 in
      let term = term_symbols p.1.0 p.1.1 p.1.2 in
      let e = ends_all b.precedence (is_left b.assoc) ss h.0 h.1
      (any_edge AnyValue (λ j. ends_operand b.precedence (is_left b.assoc) j ≡ true) ss h.0 (Ok h.1) h.2) in
      let next = term_reads p.1.0 p.1.1 p.1.2 (ss ++ OfBinary b ∷ []) (Left (Ok e.1) b ∷ e.0) (left_waits AnyValue ss e.0 (Ok e.1) b e.2 e.3) in
      let more = pairs_read ps ((ss ++ OfBinary b ∷ []) ++ term) next in (
        more.0,
        more.1,
        subst (λ z. HasRead AnyValue z more.0 (Ok more.1)) (ap (λ z. z ++ pair_symbols ps) (append_assoc ss (OfBinary b ∷ []) term)
            ∙ append_assoc ss (OfBinary b ∷ term) (pair_symbols ps)) more.2,
      )

  all_given : (ss : List (Symbol (Unary P) O (Unary Q) (Binary B))) (s : List (Pending P B (Result O ⊥))) (o : O) →
      IsPartlyRead AnyValue (λ _. Unit {0}) ss s (Ok o) → (y : Result O ⊥) × IsValueOf AnyValue ss y
  all_given ss [] o h = (Ok o, all_read AnyValue (λ _. Unit {0}) ss (Ok o) h)
  all_given ss (e ∷ s) o h = all_given ss s o (partly_read AnyValue (λ _. Unit {0}) ss e s (Ok o) (Ok o) h tt (gives_any Q e o))

pub has_tree : (P O Q B : Type 0) → HasTree P O Q B
has_tree P O Q B ps o qs pairs =
    let first = term_reads {P = P} {Q = Q} {B = B} ps o qs [] [] refl in
    let all = pairs_read pairs (term_symbols ps o qs) first in
    let v = all_given (term_symbols ps o qs ++ pair_symbols pairs) all.0 all.1
    (any_edge AnyValue (λ _. Unit {0}) (term_symbols ps o qs ++ pair_symbols pairs) all.0 (Ok all.1) all.2) in
    (v.1.tree, v.1.is_tree)
