use Rattle.std.proofs.Common.{[], ◌∷◌, ◌++◌, ap, ◌∙◌}
use Rattle.tree.specs.Plain as plain
use Rattle.tree.specs.View.{expression_of, block_of}
use Rattle.tree.specs.declared.stmts.Arm.{roll-Arm}
use Rattle.f77_grammar.specs.program.Tree as tree
use Rattle.f77_tree.specs.Parts.{known_uses, known_store}
use Rattle.f77_tree.proofs.SimpleLaws.{branch-is}
use Rattle.f77_tree.proofs.resolver.Resolver.branch.Goals as goal

pub returns : goal.returns
returns c =
    branch-is c.args.line c.push.new.self c.in_ok-test.test c.in_ok-body.body c.new.result (c.in_ok-push.ensures.ok ∙ ap (λ ts. ts ++ roll-Arm (record { test = c.in_ok-test.test; body = c.in_ok-body.body }) ∷ []) c.new-arms.ensures) c.new.ensures
    ∙ ap (λ e. plain.If c.args.line (plain.arm e (block_of c.in_ok-body.body) plain.no_arms) plain.no_statements) c.in_ok-test.ensures
    ∙ ap (λ b. plain.If c.args.line (plain.arm (tree.resolved (known_uses c.args.self.now) (known_store c.args.self.now) (expression_of c.args.condition.now)) b plain.no_arms) plain.no_statements) c.in_ok-body.ensures
