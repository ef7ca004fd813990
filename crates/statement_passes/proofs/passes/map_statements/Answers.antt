use Rattle.std.proofs.Common.{map}
use Rattle.tree.specs.View.{block_of}
use Rattle.nest.specs.View.{made_of, nest_of, part_of}
use Rattle.statement_passes.proofs.PassLaws.{nest-mapped}
use Rattle.statement_passes.proofs.passes.map_statements.Goals as goal

pub returns-clause-made : goal.returns-clause-made
returns-clause-made g c =
    nest-mapped (g.S.StatementPass.each c.args.pass.now) (nest_of c.args.nest.now) (part_of c.in_ok-body.body) (map made_of c.in_ok-made.made) (block_of c.in_ok-after.after) c.with_parts.result
    c.in_ok-body.ensures.made c.in_ok-made.ensures c.in_ok-after.ensures c.with_parts.ensures
