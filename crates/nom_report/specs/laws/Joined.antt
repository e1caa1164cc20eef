-- Laws of joined reports: what the joining keeps, one after another.
use Rattle.std.proofs.Common.{◌≡◌, ℕ, ◌+◌, ◌≤◌, Bool, true, false, ◌||◌, IsTrue, ◌⊎◌, List, [], ◌∷◌, ◌++◌, length}
use Rattle.std.proofs.Common.{get_or, zero, suc, inl, inr, refl, sym, ◌∙◌, ap, subst, arith, length-append}
use Rattle.std.proofs.lemmas.List.{get_or_append_left, get_or-append-add}
use Rattle.std.specs.List.{IsAmong}
use Rattle.nom_choose.specs.Lists.{Each}
use Rattle.nom_report.specs.Wanted.{Wanted}
use Rattle.nom_report.specs.Kept.{Kept, kept, AddsExpectation, AddsEach, Joins}
use Rattle.nom_report.specs.Kept.AddsExpectation.{IsKnown, HasRoom, IsLeftOut}
use Rattle.nom_report.specs.Reports.{IsFurthest}
use Rattle.nom_report.specs.Reports.IsFurthest.{FirstGotFurther, SecondGotFurther, GotAsFar}
use Rattle.nom_report.specs.Furthest.{One, HasAll, TellsFurthest}
use Rattle.nom_report.specs.declared.value.Report.{Report}

-- ---- lists

among_left : {X : Type 0} (xs ys : List X) (v : X) → IsAmong xs v → IsAmong (xs ++ ys) v
among_left xs ys v (i, (l, e)) = (i, (omega (arith, l, length-append xs ys), e ∙ sym (get_or_append_left xs ys v i l)))

among_last : {X : Type 0} (xs : List X) (v : X) → IsAmong (xs ++ (v ∷ [])) v
among_last xs v =
    let at : length xs ≡ length xs + 0 = omega arith in
    (length xs, (omega (arith, length-append xs (v ∷ [])), sym (ap (λ k. get_or (xs ++ (v ∷ [])) k v) at ∙ get_or-append-add xs (v ∷ []) 0 v)))

among_cases : {X : Type 0} (x : X) (xs : List X) (v : X) → IsAmong (x ∷ xs) v → (v ≡ x) ⊎ IsAmong xs v
among_cases x xs v (zero, (l, e)) = inl e
among_cases x xs v (suc i, (l, e)) = inr (i, (omega (arith, l), e))

each_more : {X : Type 0} (P : X → Type 0) (xs : List X) (x : X) → Each P xs → P x → Each P (xs ++ (x ∷ []))
each_more P [] x h p = (p, tt)
each_more P (y ∷ xs) x h p = (h.0, each_more P xs x h.1 p)

each_map : {X : Type 0} (P Q : X → Type 0) → ((x : X) → P x → Q x) → (xs : List X) → Each P xs → Each Q xs
each_map P Q f [] h = tt
each_map P Q f (x ∷ xs) h = (f x h.0, each_map P Q f xs h.1)

one_appended : {X : Type 0} (P : X → Type 0) (xs : List X) (x : X) → One P xs → One P (xs ++ (x ∷ []))
one_appended P [] x h = absurd h
one_appended P (y ∷ xs) x (inl p) = inl p
one_appended P (y ∷ xs) x (inr h) = inr (one_appended P xs x h)

one_last : {X : Type 0} (P : X → Type 0) (xs : List X) (x : X) → P x → One P (xs ++ (x ∷ []))
one_last P [] x p = inl p
one_last P (y ∷ xs) x p = inr (one_last P xs x p)

-- ---- expectations

-- each that was wanted still is, and more that was told of still is
pub record Grows (a e : Kept) : Type 0 where
  pub wanted : (it : Wanted) → IsAmong a.wanted it → IsAmong e.wanted it
  pub more : IsTrue a.more → IsTrue e.more

grows_self : (a : Kept) → Grows a a
grows_self a = record { wanted = λ it h. h; more = λ h. h }

grows_then : (a b e : Kept) → Grows a b → Grows b e → Grows a e
grows_then a b e g h = record { wanted = λ it k. h.wanted it (g.wanted it k); more = λ k. h.more (g.more k) }

added_grows : (a e : Kept) (it : Wanted) → AddsExpectation a it e → Grows a e
added_grows a e it (IsKnown h is) = subst (Grows a) (sym is) (grows_self a)
added_grows a e it (HasRoom n l is) = subst (Grows a) (sym is) (record { wanted = λ x h. among_left a.wanted (it ∷ []) x h; more = λ h. h })
added_grows a e it (IsLeftOut n l is) = subst (Grows a) (sym is) (record { wanted = λ x h. h; more = λ h. refl })

-- what is added is wanted, or it is told that there was more
added_has : (a e : Kept) (it : Wanted) → AddsExpectation a it e → IsAmong e.wanted it ⊎ IsTrue e.more
added_has a e it (IsKnown h is) = inl (subst (λ z. IsAmong z.wanted it) (sym is) h)
added_has a e it (HasRoom n l is) = inl (subst (λ z. IsAmong z.wanted it) (sym is) (among_last a.wanted it))
added_has a e it (IsLeftOut n l is) = inr (subst (λ z. IsTrue z.more) (sym is) refl)

grown : (b e : Kept) (it : Wanted) → Grows b e → IsAmong b.wanted it ⊎ IsTrue b.more → IsAmong e.wanted it ⊎ IsTrue e.more
grown b e it g (inl h) = inl (g.wanted it h)
grown b e it g (inr h) = inr (g.more h)

each_grows : (a e : Kept) (ws : List Wanted) → AddsEach a ws e → Grows a e
each_grows a e [] is = subst (Grows a) (sym is) (grows_self a)
each_grows a e (w ∷ ws) (b, h, k) = grows_then a b e (added_grows a b w h) (each_grows b e ws k)

each_has : (a e : Kept) (ws : List Wanted) → AddsEach a ws e → (it : Wanted) → IsAmong ws it → IsAmong e.wanted it ⊎ IsTrue e.more
each_has a e [] is it (i, (l, q)) = absurd (omega (arith, l))
each_has a e (w ∷ ws) (b, h, k) it m = elim (among_cases w ws it m) [
  | inl q ↦ grown b e it (each_grows b e ws k) (subst (λ z. IsAmong b.wanted z ⊎ IsTrue b.more) (sym q) (added_has a b w h))
  | inr n ↦ each_has b e ws k it n
]

or_left : (x y : Bool) → IsTrue x → IsTrue (x || y)
or_left true y h = refl
or_left false y h = absurd (cc)

-- what the first wanted is wanted, and what the second wanted, too
joined_left : (a b e : Kept) → Joins a b e → HasAll a e
joined_left a b e j it h =
    let g = each_grows a j.both b.wanted j.added in
    inl (subst (λ z. IsAmong z it) (sym j.wanted_is) (g.wanted it h))

joined_more : (a b e : Kept) → Joins a b e → IsTrue a.more → IsTrue e.more
joined_more a b e j h =
    let g = each_grows a j.both b.wanted j.added in
    subst (λ z. IsTrue z) (sym j.more_is) (or_left j.both.more b.more (g.more h))

joined_right : (a b e : Kept) → Joins a b e → HasAll b e
joined_right a b e j it h = elim (each_has a j.both b.wanted j.added it h) [
  | inl k ↦ inl (subst (λ z. IsAmong z it) (sym j.wanted_is) k)
  | inr k ↦ inr (subst (λ z. IsTrue z) (sym j.more_is) (or_left j.both.more b.more k))
]

has_then : (x a b e : Kept) → HasAll x a → Joins a b e → HasAll x e
has_then x a b e h j it k = elim (h it k) [
  | inl m ↦ joined_left a b e j it m
  | inr m ↦ inr (joined_more a b e j m)
]

-- ---- reports

module _ {I : Type 0} (place : I → ℕ) where
  pub tells_one : (e : Report I) → TellsFurthest place (e ∷ []) e
  tells_one e = record { stands_at_one = inl refl; none_further = (omega arith, tt); tells_all = ((λ q it h. inl h), tt) }

  -- one report more
  pub tells_more : (es : List (Report I)) (a b e : Report I) → TellsFurthest place es a → IsFurthest place a b e →
      TellsFurthest place (es ++ (b ∷ [])) e
  tells_more es a b e t (FirstGotFurther l is) = subst (TellsFurthest place (es ++ (b ∷ []))) (sym is) (record {
    stands_at_one = one_appended (λ x. x.at ≡ a.at) es b t.stands_at_one;
    none_further = each_more (λ x. place x.at ≤ place a.at) es b t.none_further (omega (arith, l));
    tells_all = each_more (λ x. place x.at ≡ place a.at → HasAll (kept x.expected) (kept a.expected)) es b t.tells_all
        (λ q. absurd (omega (arith, l, q)));
  })
  tells_more es a b e t (SecondGotFurther l is) = subst (TellsFurthest place (es ++ (b ∷ []))) (sym is) (record {
    stands_at_one = one_last (λ x. x.at ≡ b.at) es b refl;
    none_further = each_more (λ x. place x.at ≤ place b.at) es b
        (each_map (λ x. place x.at ≤ place a.at) (λ x. place x.at ≤ place b.at) (λ x h. omega (arith, l, h)) es t.none_further) (omega arith);
    tells_all = each_more (λ x. place x.at ≡ place b.at → HasAll (kept x.expected) (kept b.expected)) es b
        (each_map (λ x. place x.at ≤ place a.at) (λ x. place x.at ≡ place b.at → HasAll (kept x.expected) (kept b.expected))
        (λ x h q. absurd (omega (arith, l, h, q))) es t.none_further)
        (λ q it h. inl h);
  })
  tells_more es a b e t (GotAsFar j) =
      let same : place e.at ≡ place a.at = ap place j.at_is in
      record {
        stands_at_one = subst (λ z. One (λ x. x.at ≡ z) (es ++ (b ∷ []))) (sym j.at_is) (one_appended (λ x. x.at ≡ a.at) es b t.stands_at_one);
        none_further = each_more (λ x. place x.at ≤ place e.at) es b
            (each_map (λ x. place x.at ≤ place a.at) (λ x. place x.at ≤ place e.at) (λ x h. omega (arith, same, h)) es t.none_further)
            (omega (arith, same, j.as_far));
        tells_all = each_more (λ x. place x.at ≡ place e.at → HasAll (kept x.expected) (kept e.expected)) es b
            (each_map (λ x. place x.at ≡ place a.at → HasAll (kept x.expected) (kept a.expected))
            (λ x. place x.at ≡ place e.at → HasAll (kept x.expected) (kept e.expected))
            (λ x h q. has_then (kept x.expected) (kept a.expected) (kept b.expected) (kept e.expected) (h (q ∙ same)) j.expected_is) es t.tells_all)
            (λ q. joined_right (kept a.expected) (kept b.expected) (kept e.expected) j.expected_is);
      }
