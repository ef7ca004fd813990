use Rattle.std.proofs.Common.{◌≡◌, map, drop}
use Rattle.f77_grammar.specs.syntax.Views.{constant_of}
use Rattle.f77_names.specs.constants.Constants.{store_of}
use Rattle.f77_names.specs.constants.Bounds.{lacks_value}
use Rattle.f77_names.proofs.constants.constants.Constants.lacks_value.Given as goal

abbrev pub invariant-loop-constant : goal.invariant-loop-constant
invariant-loop-constant l = lacks_value (store_of l.self) (map constant_of l.constants) ≡ lacks_value (store_of l.self) (map constant_of (drop l.constant-index l.constants))
