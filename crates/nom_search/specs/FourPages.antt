-- Four pages that are looked through side by side.
use Rattle.std.specs.Prelude.{ℕ, ◌+◌, ◌*◌}
use Rattle.memchr.specs.Find.{Nowhere}

-- P holds at none of the n places from `place` on, nor of those that lie one, two or three pages after
pub record NowhereInPages (P : ℕ → Type 0) (page place n : ℕ) : Type 0 where
  pub first : Nowhere P place (place + n)
  pub second : Nowhere P (place + page) (place + page + n)
  pub third : Nowhere P (place + 2 * page) (place + 2 * page + n)
  pub fourth : Nowhere P (place + 3 * page) (place + 3 * page + n)
