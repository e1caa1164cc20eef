-- Lemmas on the acceptances of counts, folds and lists over a range.
use Rattle.std.specs.Prelude.{◌↔◌}
use Rattle.std.specs.declared.ops.Bound.{Bound}
use Rattle.std.proofs.Common.{◌≡◌, Bool, true, false, ℕ, ◌+◌, ◌<◌, Option, Some, None, List, [], ◌∷◌, refl, subst, sym, inl, inr}
use Rattle.nom_internal.specs.Prelude.{Errors, ErrorKind, Model, Outcome, Accept, Refuse, Stop, Meaning, Passes}
use Rattle.nom_error.specs.declared.kind.ErrorKind.TheVariants as Kind
use Rattle.nom_values.specs.Ranges.{fewest, most_items, limit}
use Rattle.nom_repeat.specs.Repeat.{Pieces}
use Rattle.nom_repeat.specs.Items.{items_meaning}
use Rattle.nom_repeat.specs.Accepted.{MayTake, TakesItem, EndsItems, InTurn, OneAndMore, AcceptsItems, AcceptsOneAndMore}
use Rattle.nom_repeat.specs.declared.items.Limits.{Limits}
use Rattle.nom_repeat.specs.declared.items.TooFew.TheVariants.{Fresh}
use Rattle.nom_repeat.proofs.AcceptedItems.{items_accept, accepted_in_turn, in_turn_accepted}
use Rattle.nom_repeat.proofs.AcceptedMore.{one_and_more_accept}
use Rattle.nom_multi_fold.specs.Counts.{many0_count_meaning, many1_count_meaning, many_m_n_count_meaning}
use Rattle.nom_multi_fold.specs.Dropped.{dropped_meaning}
use Rattle.nom_multi_fold.specs.Folds.{fold_many0_meaning, fold_many1_meaning, fold_many_m_n_meaning}
use Rattle.nom_multi_fold.specs.Ranges.{range_limits, IsEmpty, range_meaning}
use Rattle.nom_repeat.specs.laws.InvertedLaws.{no_accept}
use Rattle.nom_multi_fold.specs.Unfit.{unfit}
use Rattle.nom_repeat.specs.Bounds.{any_limits, bounded_limits}

module _ {I A V E : Type 0} (w : Model I A) (errs : Errors I E) (kind : ErrorKind) (fails : Bool) (IsUnfit : Type 0) (b : Limits) (Grows : Type 0)
    (m : Meaning I V E) where
  -- bounds that fit each other
  pub fit_accept : AcceptsItems w (IsUnfit → ⊥) (MayTake b.empty) b.least b.most m (unfit errs kind fails IsUnfit (items_meaning w errs b Grows m))
  fit_accept s i n vs = (forward, λ h. inr (h.0, in_turn_accepted w errs b Grows m s i n vs h.1))
    where
      forward : (unfit errs kind fails IsUnfit (items_meaning w errs b Grows m)).answers s i (Accept n vs) → (IsUnfit → ⊥) ×
          InTurn w (m.answers s) (MayTake b.empty) b.least b.most i n vs
      forward (inl a) = absurd (no_accept fails n vs a.1)
      forward (inr a) = (a.0, accepted_in_turn w errs b Grows m s i n vs a.1)

module _ {I A V E : Type 0} (w : Model I A) (errs : Errors I E) (m : Meaning I V E) where
  pub fold_many0_accepts_items : (Premise : Type 0) → AcceptsItems w (Unit {0}) (λ a. 0 < a) 0 None m (fold_many0_meaning w errs Premise m)
  fold_many0_accepts_items Premise = items_accept w errs (any_limits Kind.Many0) ⊥ m

  pub fold_many1_accepts_more : (Premise : Type 0) → AcceptsOneAndMore w m m (fold_many1_meaning w errs Premise m)
  fold_many1_accepts_more Premise = one_and_more_accept w errs (Fresh Kind.Many1) true Kind.Many1 ⊥ ⊥ m m

  pub fold_many_m_n_accepts_items : (least most : ℕ) (Premise : Type 0) →
      AcceptsItems w (most < least → ⊥) (λ a. 0 < a) least (Some most) m (fold_many_m_n_meaning w errs least most Premise m)
  fold_many_m_n_accepts_items least most Premise = fit_accept w errs Kind.ManyMN false (most < least) (bounded_limits Kind.ManyMN least most) ⊥ m

  pub range_accepts_items : (kind : ErrorKind) (IsSpent : Type 0) (lower upper : Bound ℕ) (Grows : Type 0) →
      AcceptsItems w (IsEmpty IsSpent lower upper → ⊥) (λ a. 0 < a) (fewest lower)
      (Some (limit (most_items upper))) m (range_meaning w errs kind IsSpent lower upper Grows m)
  range_accepts_items kind IsSpent lower upper Grows = fit_accept w errs kind true (IsEmpty IsSpent lower upper) (range_limits kind lower upper) Grows m

module _ {I V E : Type 0} (m : Meaning I V E) (s : Bool) (i : I) where
  passed : (a o : Outcome V) → Passes (λ n v z. z ≡ Accept n v) a o → o ≡ a
  passed (Accept n v) o e = e
  passed Refuse o e = e
  passed (Stop why) o e = e

  passes : (o : Outcome V) → Passes (λ n v z. z ≡ Accept n v) o o
  passes (Accept n v) = refl
  passes Refuse = refl
  passes (Stop why) = refl

  -- a part of which nothing is built answers as it does
  undropped : (o : Outcome V) → (dropped_meaning m).answers s i o → m.answers s i o
  undropped o z = subst (λ x. m.answers s i x) (sym (passed z.outcome o z.fact)) (subst (λ j. m.answers s j z.outcome) (sym z.at_is) z.answered)

  is_dropped : (o : Outcome V) → m.answers s i o → (dropped_meaning m).answers s i o
  is_dropped o h = record { at = i; at_is = refl; outcome = o; answered = h; fact = passes o }

module _ {I A V : Type 0} (w : Model I A) (P Q : I → Outcome V → Type 0) (f : (i : I) (o : Outcome V) → P i o → Q i o) (May : ℕ → Type 0) (least : ℕ)
    (most : Option ℕ) where
  ends_by : (k : ℕ) (i : I) → EndsItems P least most k i → EndsItems Q least most k i
  ends_by k i (inl z) = inl (z.0, f i Refuse z.1, z.2)
  ends_by k i (inr z) = inr z

  pieces_by : (k : ℕ) (i : I) (vs : List V) (n : ℕ) → Pieces w (TakesItem P May most) (EndsItems P least most) k i vs n →
      Pieces w (TakesItem Q May most) (EndsItems Q least most) k i vs n
  pieces_by k i [] n p = (p.0, ends_by k i p.1)
  pieces_by k i (v ∷ vs) n p = (p.0, p.1, p.2, ((p.3).0, f i (Accept p.0 v) (p.3).1, (p.3).2), p.4, pieces_by (k + 1) p.2 vs p.1 p.5, p.6)

module _ {I A V E : Type 0} (w : Model I A) (m : Meaning I V E) (s : Bool) (least : ℕ) (most : Option ℕ) where
  in_turn_by : (i : I) (n : ℕ) (vs : List V) → InTurn w ((dropped_meaning m).answers s) (λ a. 0 < a) least most i n vs →
      InTurn w (m.answers s) (λ a. 0 < a) least most i n vs
  in_turn_by i n vs p = pieces_by w ((dropped_meaning m).answers s) (m.answers s) (λ j o h. undropped m s j o h) (λ a. 0 < a) least most 0 i vs n p

  in_turn_from : (i : I) (n : ℕ) (vs : List V) → InTurn w (m.answers s) (λ a. 0 < a) least most i n vs →
      InTurn w ((dropped_meaning m).answers s) (λ a. 0 < a) least most i n vs
  in_turn_from i n vs p = pieces_by w (m.answers s) ((dropped_meaning m).answers s) (λ j o h. is_dropped m s j o h) (λ a. 0 < a) least most 0 i vs n p

module _ {I A V E : Type 0} (w : Model I A) (errs : Errors I E) (m : Meaning I V E) where
  pub many0_count_accepts_items : AcceptsItems w (Unit {0}) (λ a. 0 < a) 0 None m (many0_count_meaning w errs m)
  many0_count_accepts_items s i n vs = (
    (λ a. (tt, in_turn_by w m s 0 None i n vs (accepted_in_turn w errs (any_limits Kind.Many0Count) ⊥ (dropped_meaning m) s i n vs a))),
    (λ h. in_turn_accepted w errs (any_limits Kind.Many0Count) ⊥ (dropped_meaning m) s i n vs (in_turn_from w m s 0 None i n vs h.1)),
  )

  pub many_m_n_count_accepts_items : (least most : ℕ) →
      AcceptsItems w (most < least → ⊥) (λ a. 0 < a) least (Some most) m (many_m_n_count_meaning w errs least most m)
  many_m_n_count_accepts_items least most s i n vs =
      let both = fit_accept w errs Kind.ManyMN true (most < least) (bounded_limits Kind.ManyMN least most) ⊥ (dropped_meaning m) s i n vs in (
        (λ a. let h = both.0 a in (h.0, in_turn_by w m s least (Some most) i n vs h.1)),
        (λ h. both.1 (h.0, in_turn_from w m s least (Some most) i n vs h.1)),
      )

  pub many1_count_accepts_more : AcceptsOneAndMore w m m (many1_count_meaning w errs m)
  many1_count_accepts_more s i n vs = (forward, backward)
    where
      both : (many1_count_meaning w errs m).answers s i (Accept n vs) ↔
          OneAndMore w ((dropped_meaning m).answers s) (InTurn w ((dropped_meaning m).answers s) (λ a. 0 < a) 0 None) i n vs
      both = one_and_more_accept w errs (Fresh Kind.Many1Count) true Kind.Many1Count ⊥ ⊥ (dropped_meaning m) (dropped_meaning m) s i n vs

      forward : (many1_count_meaning w errs m).answers s i (Accept n vs) → OneAndMore w (m.answers s) (InTurn w (m.answers s) (λ a. 0 < a) 0 None) i n vs
      forward a =
          let h = both.0 a in
          record {
            first_length = h.first_length;
            tree = h.tree;
            rest = h.rest;
            more_length = h.more_length;
            trees = h.trees;
            accepted = undropped m s i (Accept h.first_length h.tree) h.accepted;
            rest_is = h.rest_is;
            more = in_turn_by w m s 0 None h.rest h.more_length h.trees h.more;
            length_is = h.length_is;
            trees_are = h.trees_are;
          }

      backward : OneAndMore w (m.answers s) (InTurn w (m.answers s) (λ a. 0 < a) 0 None) i n vs → (many1_count_meaning w errs m).answers s i (Accept n vs)
      backward h = both.1 (record {
        first_length = h.first_length;
        tree = h.tree;
        rest = h.rest;
        more_length = h.more_length;
        trees = h.trees;
        accepted = is_dropped m s i (Accept h.first_length h.tree) h.accepted;
        rest_is = h.rest_is;
        more = in_turn_from w m s 0 None h.rest h.more_length h.trees h.more;
        length_is = h.length_is;
        trees_are = h.trees_are;
      })
