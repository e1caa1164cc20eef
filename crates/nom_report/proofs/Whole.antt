-- A text that grew seven times.
use Rattle.std.proofs.Common.{◌≡◌, ℕ, List, ◌++◌, ◌∙◌, ap, append_assoc}

once_more : (new before start all last : List ℕ) → new ≡ before ++ last → before ≡ start ++ all → new ≡ start ++ (all ++ last)
once_more new before start all last n b = n ∙ (ap (λ z. z ++ last) b ∙ append_assoc start all last)

pub seven : (o e1 e2 e3 e4 e5 e6 e7 a b c d e f g : List ℕ) → e1 ≡ o ++ a → e2 ≡ e1 ++ b → e3 ≡ e2 ++ c → e4 ≡ e3 ++ d →
    e5 ≡ e4 ++ e → e6 ≡ e5 ++ f → e7 ≡ e6 ++ g → e7 ≡ o ++ (a ++ b ++ c ++ d ++ e ++ f ++ g)
seven o e1 e2 e3 e4 e5 e6 e7 a b c d e f g h1 h2 h3 h4 h5 h6 h7 =
    once_more e7 e6 o (a ++ b ++ c ++ d ++ e ++ f) g h7
    (once_more e6 e5 o (a ++ b ++ c ++ d ++ e) f h6
    (once_more e5 e4 o (a ++ b ++ c ++ d) e h5 (once_more e4 e3 o (a ++ b ++ c) d h4 (once_more e3 e2 o (a ++ b) c h3 (once_more e2 e1 o a b h2 h1)))))
