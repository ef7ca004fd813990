use Rattle.std.proofs.Common.{◌≡◌, ◌++◌, take}
use Rattle.reductions.specs.Reading.{without}
use Rattle.reductions.proofs.reading.add_without.Given as goal

abbrev pub invariant-loop-name : goal.invariant-loop-name
invariant-loop-name l = l.names ≡ l.initial.names ++ without l.variable (take l.name-index l.more)
