-- Lemmas on the acceptances of a sequence.
use Rattle.std.proofs.Common.{◌≡◌, ℕ, ◌+◌}
use Rattle.nom_internal.specs.Prelude.{Model, IsSuffixOf, Outcome, Accept, Refuse, Stop, Then, GoesOn, after}

module _ {I A P Q T : Type 0} (w : Model I A) (tree : P → Q → T) (First : I → Outcome P → Type 0) (Next : P → I → Outcome Q → Type 0) (i : I) (n : ℕ)
    (t : T) where
  -- both parts accept, one after the other
  pub record AreBoth : Type 0 where
    pub first_length : ℕ
    pub second_length : ℕ
    pub first : P
    pub second : Q
    pub between : I
    pub first_accepts : First i (Accept first_length first)
    pub rest_is : IsSuffixOf w i first_length between
    pub second_accepts : Next first between (Accept second_length second)
    pub length_is : n ≡ first_length + second_length
    pub tree_is : t ≡ tree first second

  second_accepted : (k : ℕ) (u : P) (j : I) (o : Outcome Q) → First i (Accept k u) → IsSuffixOf w i k j → Next u j o → Accept n t ≡ after k (tree u) o → AreBoth
  second_accepted k u j (Accept m v) a r b e = record {
    first_length = k;
    second_length = m;
    first = u;
    second = v;
    between = j;
    first_accepts = a;
    rest_is = r;
    second_accepts = b;
    length_is = cc (e);
    tree_is = cc (e);
  }
  second_accepted k u j Refuse a r b e = cc (e)
  second_accepted k u j (Stop why) a r b e = cc (e)

  both_accepted : (o : Outcome P) → First i o → GoesOn w tree Next i o (Accept n t) → AreBoth
  both_accepted (Accept k u) a g = second_accepted k u g.0 g.1 a g.2 g.3 g.4
  both_accepted Refuse a g = cc (g)
  both_accepted (Stop why) a g = cc (g)

  pub both : Then w tree First Next i (Accept n t) → AreBoth
  both h = both_accepted h.first h.answered h.goes_on
