use Rattle.std.proofs.Common.{◌≡◌, ◌∙◌, ap, map}
use Rattle.tree.specs.Plain.{Block, Program}
use Rattle.tree.specs.View.{block_of, declaration_of}
use Rattle.reductions.specs.Reduced.{declarations_left}
use Rattle.reductions.proofs.programs.reduce.Goals as goal

pub returns-clause-program : goal.returns-clause-program
returns-clause-program c =
    c.in_ok-program.ensures (block_of c.args.program.body) c.in_ok-old.ensures
    ∙ ap (λ (b : Block). let q : Program = record { name = c.args.program.name; declarations = declarations_left (block_of c.args.program.body) b (map declaration_of c.args.program.decls); body = b } in q)
    c.in_ok-body.ensures.body
