use Rattle.std.proofs.Common.{◌≡◌, ◌++◌, take}
use Rattle.nest_reasons.specs.Sizes.{occurrences}
use Rattle.nest_reasons.proofs.sizes.Pieces.add_names.Given as goal

abbrev pub invariant-loop-name : goal.invariant-loop-name
invariant-loop-name l = l.self.list ≡ l.initial.self.list ++ occurrences (take l.name-index l.names)
