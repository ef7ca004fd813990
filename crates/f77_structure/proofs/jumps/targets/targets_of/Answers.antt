use Rattle.std.proofs.Common.{◌+◌, ap, ◌∙◌, arith}
use Rattle.f77_structure.specs.LabelPlaces.{place_of}
use Rattle.f77_structure.specs.Openings.{loops_in, trimmed}
use Rattle.f77_structure.proofs.Closers.{loops_named}
use Rattle.f77_structure.specs.jumps.Targets.{arms_in}
use Rattle.f77_structure.proofs.jumps.Leads.{targets_more, arms_more}
use Rattle.f77_structure.proofs.jumps.targets.targets_of.Goals as goal

pub loop-i-preserved : goal.loop-i-preserved
loop-i-preserved c = record {
  built = targets_more c.args.text.now c.loop-i.i c.index-text-i.result (place_of c.args.ends.now) c.loop-i.targets.items c.push.new.self.items
      c.later-inside.result c.innermost.result c.nearest_loop.result c.is_no_target-refused.result c.of-form.result (arms_in c.loop-i.arms) (loops_in c.loop-i.openings) (loops_in c.drop_ended.new.self)
      (omega arith) c.index-text-i.is c.loop-i.invariant.built c.loop-i.invariant.arms c.loop-i.invariant.loops c.drop_ended.ensures.loops
      c.innermost.ensures c.nearest_loop.ensures c.later-inside.ensures c.of-form.ensures c.is_no_target-refused.ensures c.in_ok-push.ensures.items;
  arms = arms_more c.args.text.now c.loop-i.i c.index-text-i.result c.of-form.result (arms_in c.loop-i.arms) (arms_in c.pass-in-loop-i.new.self)
      (omega arith) c.index-text-i.is c.loop-i.invariant.arms c.of-form.ensures c.in_ok-pass.ensures;
  loops = loops_named c.args.text.now c.loop-i.i c.index-text-i.result (place_of c.args.ends.now) (loops_in c.loop-i.openings) (loops_in c.drop_ended-in-loop-i.new.self) (loops_in c.in_ok-openings.openings)
      c.of-form.result c.begun.result c.place_under.result (omega arith) c.index-text-i.is c.loop-i.invariant.loops c.of-form.ensures c.begun.ensures c.place_under.ensures
      (c.drop_ended-in-loop-i.ensures.loops ∙ ap (trimmed (c.loop-i.i + 1)) c.drop_ended.ensures.loops) c.in_ok-openings.ensures.loops;
}
