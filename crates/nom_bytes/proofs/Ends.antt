-- Where a run ends, under one test and under another that says the same.
use Rattle.std.proofs.Common.{◌≡◌, ℕ, true, false, ◌↔◌, IsTrue, Some, None, Option, List, refl}
use Rattle.std.specs.List.{Contains}
use Rattle.nom_traits.specs.Input.{Model}
use Rattle.nom_traits.specs.Runs.{IsPosition}
use Rattle.nom_traits.specs.Classes.{is_listed}
use Rattle.nom_search.proofs.Tokens.{contained, containing}

module _ {I A : Type 0} (w : Model I A) {Meets Ends : A → Type 0} (i : I) where
  pub position_as : (r : Option ℕ) → IsPosition w Meets Ends i r → (Passes Fails : A → Type 0) → ((x : A) → Meets x → Passes x) →
      ((x : A) → Ends x → Fails x) → IsPosition w Passes Fails i r
  position_as (Some n) e Passes Fails passes fails = record {
    run = e.run;
    item = e.item;
    rest = e.rest;
    is_run = record { whole = e.is_run.whole; meets = λ k d p. passes _ (e.is_run.meets k d p); stops = fails _ e.is_run.stops };
    length_is = e.length_is;
  }
  position_as None all Passes Fails passes fails = λ k d p. passes _ (all k d p)

module _ {T : Type 0} (Finds : T → Type 0) (code : T → ℕ) (list : List ℕ) (told : (t : T) → Finds t ↔ Contains list (code t)) where
  -- an item is found where its code is listed
  pub listed_found : (x : T) → is_listed list (code x) ≡ true → IsTrue true ↔ Finds x
  listed_found x h = ((λ _. (told x).1 (contained list (code x) h)), (λ _. refl))

  -- and nowhere else
  pub unlisted_missed : (x : T) → is_listed list (code x) ≡ false → IsTrue false ↔ Finds x
  unlisted_missed x h = ((λ t. absurd (cc (t))), (λ f. absurd (cc (h, containing list (code x) ((told x).0 f)))))
