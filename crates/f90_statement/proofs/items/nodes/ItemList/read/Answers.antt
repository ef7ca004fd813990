use Rattle.std.proofs.Common.{List, subst, sym}
use Rattle.std.proofs.lemmas.Result.{err_from_is_err_and}
use Rattle.f90_expressions.specs.words.Tokens.{words_of}
use Rattle.f90_statement.specs.declared.items.nodes.Node.{Node}
use Rattle.f90_statement.specs.items.Views.{direction_of, AreNodesOf}
use Rattle.f90_statement.proofs.items.ReadLaws.{list_err, list_given}
use Rattle.f90_statement.proofs.items.nodes.ItemList.read.Goals as goal

pub returns-in_err-nodes-clause-only : goal.returns-in_err-nodes-clause-only
returns-in_err-nodes-clause-only c is g e =
    let q = err_from_is_err_and c.from_residual.result c.from_residual.ensures.1 in
    rw (q.1, q.2) (list_err c.in_err-nodes.field-0.0 (direction_of c.args.direction) (words_of c.args.tokens.now) is c.in_err-nodes.ensures g e)

pub returns-clause-only : goal.returns-clause-only
returns-clause-only c is g e =
    list_given (direction_of c.args.direction) (words_of c.args.tokens.now) c.in_ok-nodes.nodes c.in_ok-depth.depth is c.in_ok-nodes.ensures
    (λ parts a. c.in_ok-depth.ensures parts (subst (λ (ns : List Node). AreNodesOf ns parts) (sym c.as_slice.ensures) a)) g e
