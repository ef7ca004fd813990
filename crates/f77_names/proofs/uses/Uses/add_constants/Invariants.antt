use Rattle.std.proofs.Common.{◌≡◌, ◌++◌, map, take}
use Rattle.std.specs.List.{flat_map}
use Rattle.f77_grammar.specs.program.Uses as plain
use Rattle.f77_names.specs.UsesView.{listed}
use Rattle.f77_grammar.specs.syntax.Views.{constant_of}
use Rattle.f77_names.proofs.uses.Uses.add_constants.Given as goal

abbrev pub invariant-loop-constant : goal.invariant-loop-constant
invariant-loop-constant l = listed l.self ≡ listed l.initial.self ++ flat_map plain.defined_uses (map constant_of (take l.constant-index l.constant-items))
