-- Texts that are written one after another.
use Rattle.std.proofs.Common.{◌≡◌, List, ℕ, [], ◌++◌, refl, sym, ap, ◌∙◌, inl, inr, append_assoc, append-nil, arith, length-append, subst}
use Rattle.nom_io.specs.Account.{Account, NoneFailed, OneFailed, one_more}
use Rattle.nom_io.specs.Written.{Wrote, WroteBut, WroteFront}
use Rattle.nom_io.proofs.Known.{appends_more, appends_none}

pub wrote_none : {a : Account} → Wrote a a []
wrote_none {a} = record { appends = appends_none a.bytes; none = (refl, refl) }

failed_then : (a b c : Account) → NoneFailed a b → OneFailed b c → OneFailed a c
failed_then a b c n (inl e) = inl (e ∙ ap one_more n.0)
failed_then a b c n (inr e) = inr (e.0 ∙ n.0, e.1 ∙ ap one_more n.1)

module _ {a b c : Account} {text more : List ℕ} (w : Wrote a b text) where
  pub wrote_then : Wrote b c more → Wrote a c (text ++ more)
  wrote_then v = record {
    appends = appends_more a.bytes b.bytes c.bytes text more w.appends v.appends;
    none = (v.none.0 ∙ w.none.0, v.none.1 ∙ w.none.1);
  }

  pub begun_then : WroteFront b c more → WroteFront a c (text ++ more)
  begun_then v = record {
    front = text ++ v.front;
    left = v.left;
    parts = ap (λ z. text ++ z) v.parts ∙ sym (append_assoc text v.front v.left);
    some = v.some;
    appends = appends_more a.bytes b.bytes c.bytes text v.front w.appends v.appends;
    failed = failed_then a b c w.none v.failed;
  }

-- a beginning of a text is one of each longer text
pub begun_longer : {a b : Account} {text : List ℕ} (more : List ℕ) → WroteFront a b text → WroteFront a b (text ++ more)
begun_longer more w = record {
  front = w.front;
  left = w.left ++ more;
  parts = ap (λ z. z ++ more) w.parts ∙ append_assoc w.front w.left more;
  some = omega (arith, w.some, length-append w.left more);
  appends = w.appends;
  failed = w.failed;
}

-- nothing is left
pub wrote_all : {a b : Account} {text : List ℕ} → WroteBut a b text [] → Wrote a b text
wrote_all {a} {b} w = subst (Wrote a b) (sym (w.parts ∙ append-nil w.front)) w.wrote

-- what was left is written with more after it, but for a rest; or a beginning of it is
module _ {a b : Account} {text left : List ℕ} (more : List ℕ) (w : WroteBut a b text left) where
  after : w.front ++ (left ++ more) ≡ text ++ more
  after = sym (ap (λ z. z ++ more) w.parts ∙ append_assoc w.front left more)

  pub but_then : {c : Account} {rest : List ℕ} → WroteBut b c (left ++ more) rest → WroteBut a c (text ++ more) rest
  but_then {rest = rest} v = record {
    front = w.front ++ v.front;
    parts = sym after ∙ ap (λ z. w.front ++ z) v.parts ∙ sym (append_assoc w.front v.front rest);
    wrote = wrote_then w.wrote v.wrote;
  }

  pub begun_but : {c : Account} → WroteFront b c (left ++ more) → WroteFront a c (text ++ more)
  begun_but {c} v = subst (WroteFront a c) after (begun_then w.wrote v)
