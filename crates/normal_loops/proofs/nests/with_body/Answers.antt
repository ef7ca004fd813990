use Rattle.std.proofs.Common.{map}
use Rattle.tree.specs.View.{block_of}
use Rattle.nest.specs.View.{made_of, nest_of, part_of}
use Rattle.normal_loops.proofs.NestLaws.{with_other_body}
use Rattle.normal_loops.proofs.nests.with_body.Goals as goal

pub returns : goal.returns
returns c =
    with_other_body (nest_of c.args.nest.now) (part_of c.args.body) (map made_of c.in_ok-made.made) (block_of c.args.more) (block_of c.in_ok-after.after)
    c.with_parts.result c.in_ok-made.ensures c.in_ok-after.ensures c.with_parts.ensures
