-- Lemmas on operators that wait, and what they stand for, step by step.
use Rattle.std.specs.Prelude.{◌≡◌, ℕ, Bool, true, List, [], ◌∷◌, ◌++◌, map, reverse, Result, Ok, Option, Some, None, refl}
use Rattle.std.specs.Prelude.{IfSome, option_to_list}
use Rattle.std.proofs.Common.{sym, ◌∙◌, ap, subst, append_assoc, append-nil}
use Rattle.std.proofs.lemmas.List.{reverse-append, reverse-reverse}
use Rattle.nom_operators.specs.Steps.{waiting}
use Rattle.nom_operators.specs.Evaluations.{by_precedence, IsValueOf, PostfixGives, term_symbols}
use Rattle.nom_operators.specs.Groups.{is_left}
use Rattle.nom_operators.specs.OperatorTrees.{OperatorTree, Symbol, symbols, Binding, RightEdge}
use Rattle.nom_operators.specs.OperatorTrees.OperatorTree.{Bare, Prefixed, Postfixed, Between}
use Rattle.nom_operators.specs.OperatorTrees.Symbol.{OfPrefix, OfOperand, OfPostfix, OfBinary}
use Rattle.nom_operators.specs.helpers.Pending.{level_of_pending, EndsNone, with_prefixes, PendingGives, WaitsBefore, IsPartlyRead, HasRead, IsEnding}
use Rattle.nom_operators.specs.declared.operation.Operation.{Operation}
use Rattle.nom_operators.specs.declared.precedences.Unary.{Unary}
use Rattle.nom_operators.specs.declared.precedences.Binary.{Binary}
use Rattle.nom_operators.specs.declared.pending.Pending.{Pending}
use Rattle.nom_operators.specs.declared.pending.Pending.TheVariants.{Prefix, Left}

-- where nothing is open on the right edge, any fact holds of it
right_edge_free : {P O Q B : Type 0} (l : Binding P Q B) (Fact : ℕ → Type 0) (x : OperatorTree P O Q B) → RightEdge l (λ _. ⊥) x → RightEdge l Fact x
right_edge_free l Fact (Bare o) h = tt
right_edge_free l Fact (Prefixed p x) h = absurd (h.0)
right_edge_free l Fact (Postfixed x q) h = tt
right_edge_free l Fact (Between x b y) h = absurd (h.0)

module _ {P Q B O X : Type 0} (Gives : Operation P Q B O → Result O X → Type 0) where
  pub any_edge : (Fact : ℕ → Type 0) (ss : List (Symbol (Unary P) O (Unary Q) (Binary B))) (s : List (Pending P B (Result O X))) (y : Result O X) →
      HasRead Gives ss s y → IsPartlyRead Gives Fact ss s y
  any_edge Fact ss s y h = record {
    before = h.before;
    tree = h.tree;
    symbols_are = h.symbols_are;
    stands = h.stands;
    grouped = h.grouped;
    right_edge = right_edge_free by_precedence Fact h.tree h.right_edge;
    left_edge = h.left_edge;
    evaluates = h.evaluates;
  }

  -- the innermost operator is applied to the value after it
  pub partly_read : (Fact : ℕ → Type 0) (ss : List (Symbol (Unary P) O (Unary Q) (Binary B))) (e : Pending P B (Result O X))
      (s : List (Pending P B (Result O X))) (y r : Result O X) → IsPartlyRead Gives Fact ss (e ∷ s) y → Fact (level_of_pending e) →
      PendingGives Gives e y r → IsPartlyRead Gives Fact ss s r
  partly_read Fact ss (Prefix p) s y r h f g =
      let z = h.stands in
      record {
        before = z.0;
        tree = Prefixed p h.tree;
        symbols_are = h.symbols_are ∙ (ap (λ b. b ++ symbols h.tree) z.1 ∙ append_assoc z.0 (OfPrefix p ∷ []) (symbols h.tree));
        stands = z.2;
        grouped = (h.left_edge, h.grouped);
        right_edge = (f, h.right_edge);
        left_edge = tt;
        evaluates = (y, h.evaluates, g);
      }
  partly_read Fact ss (Left v b) s y r h f g =
      let z = h.stands in
      record {
        before = z.0;
        tree = Between z.1 b h.tree;
        symbols_are = h.symbols_are ∙ (ap (λ c. c ++ symbols h.tree) z.2 ∙ (append_assoc z.0 (symbols z.1 ++ OfBinary b ∷ []) (symbols h.tree)
            ∙ ap (λ c. z.0 ++ c) (append_assoc (symbols z.1) (OfBinary b ∷ []) (symbols h.tree))));
        stands = z.3;
        grouped = (z.5, h.left_edge, z.4, h.grouped);
        right_edge = (f, h.right_edge);
        left_edge = (z.7, z.6);
        evaluates = (v, y, z.8, h.evaluates, g);
      }

  pub next_read : (Fact : ℕ → Type 0) (ss : List (Symbol (Unary P) O (Unary Q) (Binary B))) (innermost next : Option (Pending P B (Result O X)))
      (outer rest : List (Pending P B (Result O X))) (e : Pending P B (Result O X)) (y r : Result O X) → innermost ≡ Some e →
      IsPartlyRead Gives Fact ss (waiting innermost outer) y → Fact (level_of_pending e) → PendingGives Gives e y r → reverse outer ≡ waiting next rest →
      IsPartlyRead Gives Fact ss (waiting next rest) r
  next_read Fact ss innermost next outer rest e y r i h f g n = subst (λ s. IsPartlyRead Gives Fact ss s r) n
      (partly_read Fact ss e (reverse outer) y r (subst (λ z. IsPartlyRead Gives Fact ss (waiting z outer) y) i h) f g)

  -- a postfix is applied to the operands that it ends
  pub postfix_read : (ss : List (Symbol (Unary P) O (Unary Q) (Binary B))) (s : List (Pending P B (Result O X))) (y r : Result O X) (q : Unary Q) →
      IsEnding Gives q.precedence true ss s y → EndsNone s q.precedence true → PostfixGives Gives y q r → HasRead Gives (ss ++ OfPostfix q ∷ []) s r
  postfix_read ss s y r q h n g = record {
    before = h.before;
    tree = Postfixed h.tree q;
    symbols_are = ap (λ c. c ++ OfPostfix q ∷ []) h.symbols_are ∙ append_assoc h.before (symbols h.tree) (OfPostfix q ∷ []);
    stands = h.stands;
    grouped = (h.right_edge, h.grouped);
    right_edge = tt;
    left_edge = (n, h.left_edge);
    evaluates = (y, h.evaluates, g);
  }

  -- a binary operator waits after the operands that it ends
  pub left_waits : (ss : List (Symbol (Unary P) O (Unary Q) (Binary B))) (s : List (Pending P B (Result O X))) (y : Result O X) (b : Binary B) →
      IsEnding Gives b.precedence (is_left b.assoc) ss s y → EndsNone s b.precedence (is_left b.assoc) →
      WaitsBefore Gives (ss ++ OfBinary b ∷ []) (Left y b ∷ s)
  left_waits ss s y b h n = (
    h.before,
    h.tree,
    ap (λ c. c ++ OfBinary b ∷ []) h.symbols_are ∙ append_assoc h.before (symbols h.tree) (OfBinary b ∷ []),
    h.stands,
    h.grouped,
    h.right_edge,
    h.left_edge,
    n,
    h.evaluates,
  )

  -- and a term after it
  pub operator_waits : (ss : List (Symbol (Unary P) O (Unary Q) (Binary B))) (s under kept r : List (Pending P B (Result O X))) (y z : Result O X)
      (b : Binary B) (left : Bool) (more : List (Symbol (Unary P) O (Unary Q) (Binary B))) (v : Result O X) → left ≡ is_left b.assoc → HasRead Gives ss s y →
      ((now : List (Symbol (Unary P) O (Unary Q) (Binary B))) → IsEnding Gives b.precedence left now s y → IsEnding Gives b.precedence left now under z) →
      EndsNone under b.precedence left → kept ≡ under →
      ((now : List (Symbol (Unary P) O (Unary Q) (Binary B))) → WaitsBefore Gives now (Left z b ∷ kept) → HasRead Gives (now ++ more) r v) →
      HasRead Gives (ss ++ OfBinary b ∷ more) r v
  operator_waits ss s under kept r y z b left more v l h f n k g = subst (λ t. HasRead Gives t r v) (append_assoc ss (OfBinary b ∷ []) more)
      (g (ss ++ OfBinary b ∷ []) (subst (λ u. WaitsBefore Gives (ss ++ OfBinary b ∷ []) (Left z b ∷ u)) (sym k)
      (left_waits ss under z b (subst (λ d. IsEnding Gives b.precedence d ss under z) l (f ss (any_edge _ ss s y h)))
      (subst (λ d. EndsNone under b.precedence d) l n))))

  -- so do prefixes
  pub prefixes_wait : (ps : List (Unary P)) (ss : List (Symbol (Unary P) O (Unary Q) (Binary B))) (s : List (Pending P B (Result O X))) →
      WaitsBefore Gives ss s → WaitsBefore Gives (ss ++ map OfPrefix ps) (with_prefixes ps s)
  prefixes_wait [] ss s h = subst (λ z. WaitsBefore Gives z s) (sym (append-nil ss)) h
  prefixes_wait (p ∷ ps) ss s h = subst (λ z. WaitsBefore Gives z (with_prefixes ps (Prefix p ∷ s))) (append_assoc ss (OfPrefix p ∷ []) (map OfPrefix ps))
      (prefixes_wait ps (ss ++ OfPrefix p ∷ []) (Prefix p ∷ s) (ss, refl, h))

  -- an operand after what waits
  pub operand_read : (ss : List (Symbol (Unary P) O (Unary Q) (Binary B))) (s : List (Pending P B (Result O X))) (o : O) →
      WaitsBefore Gives ss s → HasRead Gives (ss ++ OfOperand o ∷ []) s (Ok o)
  operand_read ss s o h = record {
    before = ss;
    tree = Bare o;
    symbols_are = refl;
    stands = h;
    grouped = tt;
    right_edge = tt;
    left_edge = tt;
    evaluates = refl;
  }

  -- a term after what waits
  pub term_read : (ps : List (Unary P)) (o : O) (qs : List (Unary Q)) (ss : List (Symbol (Unary P) O (Unary Q) (Binary B)))
      (s t r : List (Pending P B (Result O X))) (y : Result O X) → t ≡ with_prefixes ps s →
      ((now : List (Symbol (Unary P) O (Unary Q) (Binary B))) → WaitsBefore Gives now t → HasRead Gives (now ++ OfOperand o ∷ map OfPostfix qs) r y) →
      WaitsBefore Gives ss s → HasRead Gives (ss ++ term_symbols ps o qs) r y
  term_read ps o qs ss s t r y e f h = subst (λ z. HasRead Gives z r y) (append_assoc ss (map OfPrefix ps) (OfOperand o ∷ map OfPostfix qs))
      (f (ss ++ map OfPrefix ps) (subst (λ z. WaitsBefore Gives (ss ++ map OfPrefix ps) z) (sym e) (prefixes_wait ps ss s h)))

  -- at the end nothing waits
  pub all_read : (Fact : ℕ → Type 0) (ss : List (Symbol (Unary P) O (Unary Q) (Binary B))) (y : Result O X) →
      IsPartlyRead Gives Fact ss [] y → IsValueOf Gives ss y
  all_read Fact ss y h = record {
    tree = h.tree;
    is_tree = (sym (h.symbols_are ∙ ap (λ z. z ++ symbols h.tree) h.stands), h.grouped);
    evaluates = h.evaluates;
  }

-- of what there is another fact holds
pub if_some : {X : Type 0} (Fact Other : X → Type 0) (x : Option X) → ((y : X) → Fact y → Other y) → IfSome x Fact → IfSome x Other
if_some Fact Other (Some y) f h = f y h
if_some Fact Other None f h = h

-- items in turn, from a list that was reversed, and whose last item is taken
pub begins_turned : {X Y : Type 0} (f : X → Y) (t : Y) (ss : List Y) (xs turned : List X) → turned ≡ reverse xs →
    (ss ++ t ∷ []) ++ map f (reverse turned) ≡ ss ++ t ∷ map f xs
begins_turned f t ss xs turned e = append_assoc ss (t ∷ []) (map f (reverse turned))
    ∙ ap (λ z. ss ++ t ∷ map f z) (ap reverse e ∙ reverse-reverse xs)

pub goes_on_turned : {X Y : Type 0} (f : X → Y) (ss : List Y) (x : X) (turned rest : List X) → turned ≡ rest ++ option_to_list (Some x) →
    (ss ++ f x ∷ []) ++ map f (reverse rest) ≡ ss ++ map f (reverse turned)
goes_on_turned f ss x turned rest e = append_assoc ss (f x ∷ []) (map f (reverse rest))
    ∙ ap (λ z. ss ++ map f z) (sym (ap reverse e ∙ reverse-append rest (x ∷ [])))

pub ends_turned : {X Y : Type 0} (f : X → Y) (ss : List Y) (turned : List X) → turned ≡ [] → ss ++ map f (reverse turned) ≡ ss
ends_turned f ss turned e = ap (λ z. ss ++ map f (reverse z)) e ∙ append-nil ss
