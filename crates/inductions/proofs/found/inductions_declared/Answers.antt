use Rattle.std.proofs.Common.{arith, map, rules}
use Rattle.nest.specs.statement_loops.Standings.{standing_of}
use Rattle.tree.specs.View.{declaration_of}
use Rattle.inductions.specs.Found.{induction_declared}
use Rattle.inductions.proofs.Lists.{none_chosen, some_chosen}
use Rattle.inductions.proofs.found.inductions_declared.Goals as goal
use Rattle.inductions.proofs.found.inductions_declared.Goals.{in-Some+in_ok-push, in_default}

pub loop-decl-preserved : goal.loop-decl-preserved
loop-decl-preserved c = elim c.match-branch-2.branch [
  | in-Some+in_ok-push w ↦
      some_chosen (induction_declared c.args.symbols.now c.args.trip.now (map standing_of c.args.all.now)) declaration_of c.as_slice-decl-items.result.now c.loop-decl.decl-index c.decl-item.result
      (omega arith) c.decl-item.is c.loop-decl.found c.match-branch-2.found w.in-Some.induction (search rules) c.loop-decl.invariant (search rules)
  | in_default w ↦
      none_chosen (induction_declared c.args.symbols.now c.args.trip.now (map standing_of c.args.all.now)) declaration_of c.as_slice-decl-items.result.now c.loop-decl.decl-index c.decl-item.result
      (omega arith) c.decl-item.is c.loop-decl.found c.match-branch-2.found (search rules) c.loop-decl.invariant (search rules)
]
