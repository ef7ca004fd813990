use Rattle.std.proofs.Common.{◌≡◌, ◌++◌, map, take}
use Rattle.f77_grammar.specs.program.Uses as plain
use Rattle.f77_names.specs.UsesView.{listed}
use Rattle.f77_grammar.specs.syntax.Views.{bounds_of}
use Rattle.f77_names.proofs.uses.Uses.add_bounds.Given as goal

abbrev pub invariant-loop-bound : goal.invariant-loop-bound
invariant-loop-bound l = listed l.self ≡ listed l.initial.self ++ plain.uses_in_bounds (map bounds_of (take l.bound-index l.bound-items))
