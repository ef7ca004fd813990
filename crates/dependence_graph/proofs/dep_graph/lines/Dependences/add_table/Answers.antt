use Rattle.std.proofs.Common.{◌≡◌, arith, subst, sym}
use Rattle.std.specs.Prelude.{All}
use Rattle.dependence_graph.specs.declared.nest_references.occurrences.Occurrence.{Occurrence}
use Rattle.dependence_graph.specs.dep_graph.Joined.{IsTestable}
use Rattle.dependence_graph.proofs.dep_graph.Joining.{joined_none, table_all, table_more}
use Rattle.dependence_graph.proofs.dep_graph.lines.Dependences.add_table.Goals as goal

pub loop-from-init : goal.loop-from-init
loop-from-init c = joined_none c.args.self.now

pub add_row-requires : goal.add_row-requires
add_row-requires c =
    subst (λ (a : Occurrence). All (IsTestable a) c.args.all.now) (sym c.from-item.is) (c.requires c.loop-from.from-index c.from-item.result (omega arith))

pub loop-from-preserved : goal.loop-from-preserved
loop-from-preserved c =
    table_more c.args.all.now c.args.all.now c.loop-from.from-index c.from-item.result c.args.self.now c.loop-from.self c.add_row.new.self
    (omega arith) c.from-item.is c.loop-from.invariant c.in_ok-add_row.ensures

pub returns : goal.returns
returns c = table_all c.args.all.now c.args.all.now c.loop-from.from-index c.args.self.now c.loop-from.self (omega arith) c.loop-from.invariant
