use Rattle.std.proofs.Common.{◌≡◌, ◌∙◌, map}
use Rattle.tree.specs.View.{block_of}
use Rattle.nest.specs.View.{part_of, made_of, nest_of}
use Rattle.nest_rewrite.proofs.MadeNests.{nest_made}
use Rattle.nest_rewrite.proofs.nests.rewrite_parts_of.Goals as goal

pub returns-clause-made : goal.returns-clause-made
returns-clause-made g c =
    let makes = g.R.Rule.making in
    nest_made (makes c.args.rule.now) (makes c.rewrite_part.new.rule) (makes c.rewrite_arrays.new.rule) (nest_of c.args.nest.now)
    (part_of c.in_ok-body.body) (map made_of c.in_ok-made.made) (block_of c.in_ok-after.after) c.with_parts.result
    c.rewrite_part.ensures.same (c.rewrite_arrays.ensures.same ∙ c.rewrite_part.ensures.same)
    c.in_ok-body.ensures.made c.in_ok-made.ensures.made c.in_ok-after.ensures.made c.with_parts.ensures
