-- The inductions so far are those of the declarations so far.
use Rattle.std.proofs.Common.{◌≡◌, map, take}
use Rattle.std.specs.List.{filter_map}
use Rattle.nest.specs.statement_loops.Standings.{standing_of}
use Rattle.tree.specs.View.{declaration_of}
use Rattle.inductions.specs.Found.{induction_declared}
use Rattle.inductions.proofs.found.inductions_declared.Given as goal

abbrev pub invariant-loop-decl : goal.invariant-loop-decl
invariant-loop-decl l =
    l.found ≡ filter_map (induction_declared l.symbols l.trip (map standing_of l.all)) (map declaration_of (take l.decl-index l.decl-items))
