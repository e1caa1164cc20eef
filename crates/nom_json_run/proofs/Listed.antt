-- Lines, one after another.
use Rattle.std.specs.Prelude.{◌≡◌, ℕ, ◌+◌, ◌-◌, ◌^◌, ◌⊎◌, Bool, false, if◌then◌else◌, List, [], ◌++◌, Option, Some, None, Result, Ok, Err}
use Rattle.std.proofs.Common.{refl, sym, ◌∙◌, ap, subst, inl, inr, append-nil}
use Rattle.nom_io.specs.Account.{Account}
use Rattle.nom_io.specs.Written.{Wrote, WroteFront}
use Rattle.nom_io.proofs.Written.{wrote_none, wrote_then}
use Rattle.nom_run.specs.declared.error.RunError.{RunError}
use Rattle.nom_run.specs.declared.error.RunError.TheVariants as Error
use Rattle.nom_run.specs.Runs.{WritesText}
use Rattle.nom_run.specs.Runs.WritesText.{Whole, Cut, NoMemory}
use Rattle.nom_stream.specs.declared.stream.Stop as Stops
use Rattle.nom_stream.specs.declared.stream.Stop.TheVariants as Stop
use Rattle.nom_stream.specs.declared.stream.Stream.{Stream}
use Rattle.nom_stream.specs.Held.{last_of}
use Rattle.nom_stream.specs.Streams.{Decides}
use Rattle.nom_json_run.specs.JsonLines.{CheckedLines, Going, IsLine, StopsAtRead, ListsLines}
use Rattle.nom_stream.specs.ReaderLines.{line_of}
use Rattle.nom_json_run.specs.JsonLines.{long_line}
use Rattle.nom_json_run.specs.JsonLines.CheckedLines.{none, good, bad}

pub going_none : {R A : Type 0} (left : R → Option (List ℕ)) (s : Stream R A) (a : Account) → Going left s s a a 0 false
going_none left s a = record { text = []; lines = none; wrote = wrote_none }

-- nothing more was written
still : {R A : Type 0} {left : R → Option (List ℕ)} {s t : Stream R A} {old a b : Account} {count : ℕ} {wrong : Bool} →
    Going left s t old a count wrong → b ≡ a → Going left s t old b count wrong
still {left = left} {s} {t} {old} {count = count} {wrong} g e = subst (λ z. Going left s t old z count wrong) (sym e) g

-- after that many lines
module _ {R A : Type 0} {left : R → Option (List ℕ)} {s t u : Stream R A} {old a : Account} {count : ℕ} {wrong : Bool}
    (g : Going left s t old a count wrong) where
  going_line : {b : Account} (n x : ℕ) (then_ : Bool) (more : List ℕ) → Decides left line_of t u (Ok (Some (n, x))) →
      IsLine (count + 1) x (last_of n u.held) more wrong then_ → Wrote a b more → Going left s u old b (count + 1) then_
  going_line {b} n x then_ more d (inl (j, e, w)) p = record {
    text = g.text;
    lines = subst (CheckedLines left s (count + 1) u g.text) (sym w) (good g.lines d j);
    wrote = subst (Wrote old b) (ap (λ m. g.text ++ m) e ∙ append-nil g.text) (wrote_then g.wrote p);
  }
  going_line n x then_ more d (inr (j, w)) p = record {
    text = g.text ++ more;
    lines = subst (CheckedLines left s (count + 1) u (g.text ++ more)) (sym w) (bad g.lines d j);
    wrote = wrote_then g.wrote p;
  }

  -- what is answered where a line came, and where none did
  pub going_on : {b : Account} {Lacks : Type 0} (n x : ℕ) {then_ : Bool} → Decides left line_of t u (Ok (Some (n, x))) →
      WritesText (λ text next. IsLine (count + 1) x (last_of n u.held) text wrong next) a b Lacks (Ok then_) → Going left s u old b (count + 1) then_
  going_on {b} n x {then_} d (Whole text next e i w) =
      let is : next ≡ then_ = cc (e) in
      subst (Going left s u old b (count + 1)) is (going_line n x next text d i w)
  going_on n x d (Cut text next e i w) = absurd (cc (e))
  going_on n x d (NoMemory e l) = absurd (cc (e))

  pub ended : (status : ℕ) → Decides left line_of t u (Ok None) → status ≡ (if wrong then 1 else 0) → ListsLines left s u old a (Ok status)
  ended status d e = record { count = count; before = t; text = g.text; wrong = wrong; lines = g.lines; ends = inl (d, e, g.wrote) }

  module _ {b : Account} {Kept : Type 0} (kept : Kept → b ≡ a) where
    pub on_line : (n x : ℕ) {error : RunError} → Decides left line_of t u (Ok (Some (n, x))) →
        WritesText (λ text next. IsLine (count + 1) x (last_of n u.held) text wrong next) a b Kept (Err error) → ListsLines left s u old b (Err error)
    on_line n x d (Whole text next e i w) = absurd (cc (e))
    on_line n x {error} d (Cut text next e i w) =
        let is : Error.Write ≡ error = cc (e) in
        subst (λ z. ListsLines left s u old b (Err z)) is (count, t, wrong, a, g, inl (n, x, d, (text, next, i, w)))
    on_line n x {error} d (NoMemory e k) =
        let is : Error.OutOfMemory ≡ error = cc (e) in
        subst (λ z. ListsLines left s u old b (Err z)) is (count, t, wrong, still g (kept k), inr (inr (n, x, d)))

    pub on_stop : (why : Stops.Stop) {r : Result ℕ RunError} → Decides left line_of t u (Err why) →
        ((why ≡ Stop.TooLong) × WritesText (λ text status. (text ≡ long_line (count + 1)) × (status ≡ 3)) a b Kept r)
        ⊎ ((why ≡ Stop.OutOfMemory) × Kept × (r ≡ Err Error.OutOfMemory)) ⊎ (StopsAtRead why × Kept × (r ≡ Err Error.Read)) →
        ListsLines left s u old b r
    on_stop why d (inl (h, Whole text status e i w)) = subst (ListsLines left s u old b) (sym e) (record {
      count = count;
      before = t;
      text = g.text;
      wrong = wrong;
      lines = g.lines;
      ends = inr (subst (λ z. Decides left line_of t u (Err z)) h d, i.1, subst (λ z. Wrote old b (g.text ++ z)) i.0 (wrote_then g.wrote w));
    })
    on_stop why d (inl (h, Cut text status e i w)) = subst (ListsLines left s u old b) (sym e)
        (count, t, wrong, a, g, inr (subst (λ z. Decides left line_of t u (Err z)) h d, subst (WroteFront a b) i.0 w))
    on_stop why d (inl (h, NoMemory e k)) = subst (ListsLines left s u old b) (sym e)
        (count, t, wrong, still g (kept k), inr (inl (subst (λ z. Decides left line_of t u (Err z)) h d)))
    on_stop why d (inr (inl (h, k, e))) = subst (ListsLines left s u old b) (sym e)
        (count, t, wrong, still g (kept k), inl (subst (λ z. Decides left line_of t u (Err z)) h d))
    on_stop why d (inr (inr (h, k, e))) = subst (ListsLines left s u old b) (sym e) (count, t, wrong, still g (kept k), inl (why, d, h))

-- there are as many lines as can be counted
pub no_more : {R A : Type 0} {left : R → Option (List ℕ)} {s t : Stream R A} {old a : Account} {count : ℕ} {wrong : Bool} →
    Going left s t old a count wrong → count ≡ 2 ^ 64 - 1 → ListsLines left s t old a (Err Error.Read)
no_more {t = t} {count = count} {wrong} g e = (count, t, wrong, g, inr (e, refl))
