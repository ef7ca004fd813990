use Rattle.std.proofs.Common.{subst}
use Rattle.f90_trees.specs.Hiding.{function_in}
use Rattle.f90_statement.specs.Views.{IsStatementOf}
use Rattle.f90_statement.specs.declared.nodes.Statement.{Statement}
use Rattle.f90_blocks.proofs.StatementTrees.DeedLaws.{alone_given}
use Rattle.f90_blocks.proofs.StatementTrees.FormLaws.{do_given, deallocate_given}
use Rattle.f90_blocks.proofs.statement_trees.statements.tree_at.Goals as goal

pub returns-in_ok-act-in-Act : goal.returns-in_ok-act-in-Act
returns-in_ok-act-in-Act c f h k =
    alone_given (function_in c.args.functions.now) c.args.line c.args.mark f _ _ k
    (c.in_ok-act-in-Act.ensures f (subst (λ (s : Statement). IsStatementOf s f) c.in-Act.is h) k) c.alone.ensures

pub returns-in_ok-first-in-Do : goal.returns-in_ok-first-in-Do
returns-in_ok-first-in-Do c f h k =
    do_given (function_in c.args.functions.now) c.args.line c.args.mark _ _ _ f (subst (λ
    (s : Statement). IsStatementOf s f) c.in-Do.is h) k
    c.in_ok-first-in-Do.ensures

pub returns-in-Deallocate : goal.returns-in-Deallocate
returns-in-Deallocate c f h k =
    deallocate_given (function_in c.args.functions.now) c.args.line c.args.mark _ f (subst (λ
    (s : Statement). IsStatementOf s f) c.in-Deallocate.is h) k
