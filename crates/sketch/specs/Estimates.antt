-- What the estimate tells, and what it is worth. Assumes nothing: these are definitions.
use Rattle.std.specs.Prelude.{ℕ, ◌*◌, ◌/◌, ◌≡◌, cond, eqb, Float}
use Rattle.floats.specs.Quotients.{over, Near}
use Rattle.rule.specs.declared.Settings.{Settings}
use Rattle.rule.specs.Rule.{region}
use Rattle.rule.specs.Refusals.{Outcome, answered, refused, unless, not_one}
use Rattle.sketch.specs.declared.Sketch.{Sketch}
use Rattle.sketch.specs.declared.estimates.Estimate.{Estimate}
use Rattle.sketch.specs.declared.estimates.Estimate.TheVariants.{Exact, About, Refused}
use Rattle.sketch.specs.Sketches.{is_sketch}

-- what an estimate tells: so many cells exactly, or about as many as a float says
pub data Weight : Type 0 where
  exactly : ℕ → Weight
  about : Float → Weight

-- each case of the estimate's enum; the promise is put through this
abbrev pub of_estimate : Estimate → Outcome Weight
of_estimate (Exact v) = answered (exactly v)
of_estimate (About x) = answered (about x)
of_estimate (Refused number) = refused number 0

-- Above level 0 so many cells kept stand for their number times p, divided by the region's size (RULES: Estimate). Their number times p:
abbrev pub times_p : Settings → ℕ → ℕ
times_p s count = count * s.p

-- divided by the region's size, rounded down; a level above the top has no region, and a quotient by 0 is 0
unfoldable pub stands_at : Settings → ℕ → ℕ → ℕ
stands_at s level count = times_p s count / region s level

-- divided by the region's size, as a float: one rounded division
unfoldable pub float_at : Settings → ℕ → ℕ → Float
float_at s level count = over (times_p s count) (region s level)

-- the same of a sketch: the two numbers of its fraction, and the fraction as a whole number and as a float
abbrev pub upper : Sketch → ℕ
upper k = times_p k.settings k.count

abbrev pub lower : Sketch → ℕ
lower k = region k.settings k.level

abbrev pub stands_for : Sketch → ℕ
stands_for k = stands_at k.settings k.level k.count

abbrev pub float_for : Sketch → Float
float_for k = float_at k.settings k.level k.count

-- at level 0 exactly the number of cells; above it about that float
abbrev pub weight_of : Sketch → Weight
weight_of k = cond (eqb k.level 0) (exactly k.count) (about (float_for k))

-- that weight, or 4 where it isn't a sketch (RULES: Estimate)
unfoldable pub estimate_on : Sketch → Outcome Weight
estimate_on k = unless (is_sketch k) not_one (answered (weight_of k))

-- what is told is worth a / b: the whole number is that exactly, or the float lies near
abbrev pub Worth : Outcome Weight → ℕ → ℕ → Type 0
Worth (answered (exactly v)) a b = v * b ≡ a
Worth (answered (about x)) a b = Near a b x
Worth (refused number place) a b = Unit

-- what the estimate promises
pub record Estimates (k : Sketch) (r : Estimate) : Type 0 where
  pub answer : of_estimate r ≡ estimate_on k
  pub value : Worth (of_estimate r) (upper k) (lower k)
