-- What serving a piece promises. Assumes nothing: these are definitions.
use Rattle.std.specs.Prelude.{ℕ, List}
use Rattle.evening.specs.declared.Evening.{Evening}
use Rattle.evening.specs.Runs.{fed}

-- the evening after a piece whose answers were all written; where a write failed there is none
unfoldable pub served : Evening → List ℕ → Evening
served s input = (fed s input).evening
