use Rattle.std.proofs.Common.{◌≤◌, ◌+◌, length, sym, ap, ◌∙◌, arith}
use Rattle.f77_grammar.specs.program.Limits.{has_many_blocks}
use Rattle.f77_structure.specs.LabelPlaces.{place_of}
use Rattle.f77_structure.proofs.jumps.Depth.{many_at, lasting_more, lasting_fits, with_end_fits, depth_on, depth_more}
use Rattle.f77_grammar.proofs.syntax.Walks.{search_goes_on, search_stops_at, search_ends}
use Rattle.f77_structure.proofs.jumps.blocks.many_blocks.Goals as goal

pub returns-then-refuses : goal.returns-then-refuses
returns-then-refuses c =
    search_stops_at has_many_blocks c.args.text.now c.loop-i.i c.index-text-i.result (omega arith) c.index-text-i.is
    (many_at c.args.text.now c.loop-i.i c.index-text-i.result (place_of c.args.ends.now) c.of-form.result c.loop-i.open_blocks.ifs c.drop_ended.new.self.ifs
    c.loop-i.open_blocks.loop_ends.items c.drop_ended.new.self.loop_ends.items (omega arith) c.index-text-i.is c.requires c.loop-i.invariant.ifs c.loop-i.invariant.loops
    c.of-form.ensures c.drop_ended.ensures.ifs c.drop_ended.ensures.loops
    ∙ sym c.refuses.ensures ∙ c.if-refuses.true)
    c.loop-i.invariant.searched

pub loop-i-preserved : goal.loop-i-preserved
loop-i-preserved c =
    let fewer : length c.drop_ended.new.self.loop_ends.items ≤ length c.loop-i.open_blocks.loop_ends.items =
    (omega (arith, lasting_fits c.loop-i.i c.loop-i.open_blocks.loop_ends.items, ap length c.drop_ended.ensures.loops)) in
    let ifs' : c.pass.new.self.ifs ≤ c.loop-i.i + 1 =
    omega (arith, c.in_ok-pass.ensures.ifs, depth_more c.of-form.result c.drop_ended.new.self.ifs c.loop-i.i (omega (arith, c.drop_ended.ensures.ifs, c.loop-i.invariant.few_ifs))) in
    record {
      searched = search_goes_on has_many_blocks c.args.text.now c.loop-i.i c.index-text-i.result (omega arith) c.index-text-i.is
          (many_at c.args.text.now c.loop-i.i c.index-text-i.result (place_of c.args.ends.now) c.of-form.result c.loop-i.open_blocks.ifs c.drop_ended.new.self.ifs
          c.loop-i.open_blocks.loop_ends.items c.drop_ended.new.self.loop_ends.items (omega arith) c.index-text-i.is c.requires c.loop-i.invariant.ifs c.loop-i.invariant.loops
          c.of-form.ensures c.drop_ended.ensures.ifs c.drop_ended.ensures.loops
          ∙ sym c.refuses.ensures ∙ c.if-refuses.false)
          c.loop-i.invariant.searched;
      few_ifs = ifs';
      few_loops = omega (arith, ap length c.in_ok-pass.ensures.loops, with_end_fits c.drop_ended.new.self.loop_ends.items c.place_under.result);
      ifs = depth_on c.args.text.now c.loop-i.i c.index-text-i.result c.of-form.result c.loop-i.open_blocks.ifs c.drop_ended.new.self.ifs c.pass.new.self.ifs
          (omega arith) c.index-text-i.is c.loop-i.invariant.ifs c.of-form.ensures c.drop_ended.ensures.ifs c.in_ok-pass.ensures.ifs;
      loops = lasting_more c.args.text.now c.loop-i.i c.index-text-i.result (place_of c.args.ends.now) c.of-form.result c.begun.result c.place_under.result
          c.loop-i.open_blocks.loop_ends.items c.drop_ended.new.self.loop_ends.items c.pass.new.self.loop_ends.items
          (omega arith) c.index-text-i.is c.loop-i.invariant.loops c.of-form.ensures c.begun.ensures c.place_under.ensures c.drop_ended.ensures.loops c.in_ok-pass.ensures.loops;
    }

pub returns : goal.returns
returns c = search_ends has_many_blocks c.args.text.now c.loop-i.i (omega arith) c.loop-i.invariant.searched
