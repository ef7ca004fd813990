use Rattle.std.proofs.Common.{length}
use Rattle.components.specs.Targets.{leads}
use Rattle.components.proofs.Beginning.{begun}
use Rattle.components.proofs.walk.Walk.new.Goals as goal

pub returns : goal.returns
returns c = record {
  walk = begun (length c.args.rows.now) (leads c.args.rows.now) c.in_ok-new_marks.field-0.items c.new.result.items c.new-2.result.items c.new-3.result.items
      c.in_ok-new_marks.ensures c.new.ensures.items c.new-2.ensures.items c.new-3.ensures.items;
  path = c.new.ensures.items;
}
