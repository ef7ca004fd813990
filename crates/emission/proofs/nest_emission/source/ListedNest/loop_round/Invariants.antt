-- None so far stands in a loop of the level.
use Rattle.std.proofs.Common.{ℕ, ◌<◌, length, get_or}
use Rattle.emission.specs.emission_pieces.Nests.{loops_at}
use Rattle.emission.specs.nest_emission.Given.{nest_in}
use Rattle.emission.proofs.nest_emission.source.ListedNest.loop_round.Given as goal

abbrev pub invariant-loop-number : goal.invariant-loop-number
invariant-loop-number l = (i : ℕ) → i < l.number-index → length (loops_at (nest_in l.self) (get_or l.class i 0)) < l.level
