-- What `cut` finds of a progression's rounds. Assumes nothing: these are definitions.
use Rattle.std.specs.Prelude.{ℕ, ◌+◌, ◌-◌, ◌*◌, ◌/◌, ◌%◌, ◌≤◌, min, ◌≡◌, true, false}
use Rattle.count.specs.declared.Rounds.{Rounds}
use Rattle.count.specs.Hits.{hit}

-- c are the rounds of the progression from u up to x, which lies k rounds further on. A whole round has l / d elements below l, and one more where its foot
-- is below l % d
pub record Cut (m d u k x l : ℕ) (c : Rounds) : Type 0 where
  pub foot_is : c.foot ≡ u % d
  pub falls : c.down ≡ true → c.step ≡ m % d
  pub rises : c.down ≡ false → c.step ≡ d - m % d
  pub half : 2 * c.step ≤ d
  pub bound_is : c.bound ≡ l % d
  pub sure_is : c.sure ≡ l / d * k + min (x / d + 1) (l / d + hit (x % d) (l % d))
  pub before_is : c.before ≡ min (u / d) (l / d + hit (u % d) (l % d))
