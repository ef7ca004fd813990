use Rattle.std.proofs.Common.{subst}
use Rattle.f90_trees.specs.Hiding.{function_in}
use Rattle.f90_statement.specs.Views.{IsActionOf}
use Rattle.f90_statement.specs.declared.nodes.Action.{Action}
use Rattle.f90_blocks.proofs.StatementTrees.DeedLaws.{go_done, stop_done, read_done, print_done}
use Rattle.f90_blocks.proofs.statement_trees.statements.act.Goals as goal

pub returns-in-Go : goal.returns-in-Go
returns-in-Go c f h k =
    go_done (function_in c.args.functions.now) c.args.line c.args.mark _ f (subst (λ
    (a : Action). IsActionOf a f) c.in-Go.is h) k

pub returns-in-Stop : goal.returns-in-Stop
returns-in-Stop c f h k =
    stop_done (function_in c.args.functions.now) c.args.line c.args.mark f (subst (λ
    (a : Action). IsActionOf a f) c.in-Stop.is h) k

pub returns-in_ok-items-in-Read : goal.returns-in_ok-items-in-Read
returns-in_ok-items-in-Read c f h k =
    read_done (function_in c.args.functions.now) c.args.line c.args.mark _ _ f (subst (λ
    (a : Action). IsActionOf a f) c.in-Read.is h) k c.in_ok-items-in-Read.ensures

pub returns-in_ok-items-in-Print : goal.returns-in_ok-items-in-Print
returns-in_ok-items-in-Print c f h k =
    print_done (function_in c.args.functions.now) c.args.line c.args.mark _ _ f (subst (λ
    (a : Action). IsActionOf a f) c.in-Print.is h) k c.in_ok-items-in-Print.ensures
