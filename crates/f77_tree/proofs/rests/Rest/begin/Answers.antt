use Rattle.std.proofs.Common.{◌≡◌, Some, map, rules}
use Rattle.tree.specs.View.{statement_of as tree_statement_of}
use Rattle.f77_laws.specs.trees.Steps as steps
use Rattle.f77_tree.specs.Parts.{known_uses, known_store}
use Rattle.f77_grammar.specs.declared.syntax.statements.Stmt77.TheVariants as stmts
use Rattle.f77_grammar.specs.syntax.Views.{labelled_of, statement_of}
use Rattle.f77_tree.specs.declared.rests.Rest.{Rest}
use Rattle.f77_tree.specs.Rests.{rest_of, heading_of}
use Rattle.f77_tree.proofs.BegunLaws.{do_is}
use Rattle.f77_tree.proofs.RestLaws.{ok_follows}
use Rattle.f77_tree.proofs.rests.Rest.begin.Goals as goal

pub returns-in_ok-heading-in-Do-Some-default-default-default-default : goal.returns-in_ok-heading-in-Do-Some-default-default-default-default
returns-in_ok-heading-in-Do-Some-default-default-default-default c =
    let loop = c.in-Do-Some-default-default-default-default in
    let mark = c.in_ok-mark-in-Do-Some-default-default-default-default in
    let made = c.in_ok-heading-in-Do-Some-default-default-default-default in
    let e : c.args.statement.now.statement ≡ stmts.Do (Some loop.label) loop.var loop.first loop.last loop.step = first_of (cc, search rules) in
    ok_follows (λ (r : Rest). rest_of r ≡ steps.loop_begun (heading_of made.heading) (map tree_statement_of mark.mark.items) loop.label (rest_of c.args.self))
    (λ (r : Rest). rest_of r ≡ steps.begun (known_uses c.args.resolver.now) (known_store c.args.resolver.now) c.args.targets.now.list.items (labelled_of c.args.statement.now) (statement_of c.args.statement.now.statement) (rest_of c.args.self))
    c.begin_loop.result
    (λ r h. do_is (known_uses c.args.resolver.now) (known_store c.args.resolver.now) c.args.targets.now.list.items (labelled_of c.args.statement.now) (rest_of c.args.self) (rest_of r)
    c.args.statement.now.statement loop.label loop.var loop.first loop.last loop.step (heading_of made.heading) (map tree_statement_of mark.mark.items)
    e made.ensures mark.ensures h)
    c.begin_loop.ensures
