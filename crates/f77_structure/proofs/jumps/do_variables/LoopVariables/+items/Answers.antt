use Rattle.std.proofs.Common.{List, map, ap, sym, ◌∙◌, arith}
use Rattle.tree.specs.Plain.{items}
use Rattle.tree.specs.View.{item_of}
use Rattle.tree.specs.declared.stmts.Item.{Item}
use Rattle.f77_structure.specs.jumps.LoopVariables.{scalar_in, round_at}
use Rattle.f77_structure.specs.jumps.Misuses.{misuses_items}
use Rattle.f77_structure.proofs.jumps.Misuses.{item_stops, item_goes_on, list_ends}
use Rattle.f77_structure.proofs.jumps.do_variables.LoopVariables.+items.Goals as goal

pub misuses_items-returns-then-wrong : goal.misuses_items-returns-then-wrong
misuses_items-returns-then-wrong t c = record {
  lists = c.in_ok-wrong.ensures.lists ∙ c.loop-item.invariant.same;
  wrong = item_stops (scalar_in c.args.self.now) (round_at c.args.self.now c.args.at) c.args.direction c.args.lists.now.items c.loop-item.lists.items c.as_slice-item-items.result.now c.loop-item.item-index c.item-item.result
      (misuses_items (scalar_in c.args.self.now) (round_at c.args.self.now c.args.at) c.args.direction (items (map item_of c.args.list.now)) c.args.lists.now.items) c.in_ok-wrong.wrong
      (omega arith) c.item-item.is
      (ap (λ (xs : List Item). misuses_items (scalar_in c.args.self.now) (round_at c.args.self.now c.args.at) c.args.direction (items (map item_of xs)) c.args.lists.now.items) (sym c.as_slice-item-items.ensures)
      ∙ c.loop-item.invariant.rest)
      c.loop-item.invariant.same c.in_ok-wrong.ensures.wrong c.if-wrong.true;
}

pub misuses_items-loop-item-preserved : goal.misuses_items-loop-item-preserved
misuses_items-loop-item-preserved t c = record {
  same = c.in_ok-wrong.ensures.lists ∙ c.loop-item.invariant.same;
  rest = item_goes_on (scalar_in c.args.self.now) (round_at c.args.self.now c.args.at) c.args.direction c.args.lists.now.items c.loop-item.lists.items c.as_slice-item-items.result.now c.loop-item.item-index c.item-item.result
      (misuses_items (scalar_in c.args.self.now) (round_at c.args.self.now c.args.at) c.args.direction (items (map item_of c.as_slice-item-items.result.now)) c.args.lists.now.items) c.in_ok-wrong.wrong
      (omega arith) c.item-item.is c.loop-item.invariant.rest c.loop-item.invariant.same c.in_ok-wrong.ensures.wrong c.if-wrong.false;
}

pub misuses_items-returns : goal.misuses_items-returns
misuses_items-returns t c = record {
  lists = c.loop-item.invariant.same;
  wrong = list_ends (scalar_in c.args.self.now) (round_at c.args.self.now c.args.at) c.args.direction c.args.lists.now.items c.as_slice-item-items.result.now c.loop-item.item-index
      (misuses_items (scalar_in c.args.self.now) (round_at c.args.self.now c.args.at) c.args.direction (items (map item_of c.args.list.now)) c.args.lists.now.items) (omega arith)
      (ap (λ (xs : List Item). misuses_items (scalar_in c.args.self.now) (round_at c.args.self.now c.args.at) c.args.direction (items (map item_of xs)) c.args.lists.now.items) (sym c.as_slice-item-items.ensures)
      ∙ c.loop-item.invariant.rest);
}
