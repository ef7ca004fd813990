use Rattle.std.proofs.Common.{map}
use Rattle.tree.specs.View.{block_of}
use Rattle.nest.specs.View.{made_of, nest_of, part_of}
use Rattle.statement_passes.proofs.PassLaws.{nest-with-made}
use Rattle.statement_passes.proofs.made_names.with_made.Goals as goal

pub returns : goal.returns
returns c =
    nest-with-made (nest_of c.args.nest.now) (part_of c.in_ok-body.body) (map made_of c.args.more) (map made_of c.in_ok-made.made) (block_of c.in_ok-after.after) c.with_parts.result
    c.in_ok-body.ensures c.in_ok-made.ensures c.in_ok-after.ensures c.with_parts.ensures
