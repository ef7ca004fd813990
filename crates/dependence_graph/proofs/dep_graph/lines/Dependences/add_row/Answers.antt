use Rattle.std.proofs.Common.{◌≡◌, arith, subst, sym}
use Rattle.dependence_graph.specs.declared.nest_references.occurrences.Occurrence.{Occurrence}
use Rattle.dependence_graph.specs.dep_graph.Joined.{IsTestable}
use Rattle.dependence_graph.proofs.dep_graph.Joining.{joined_none, row_all, row_more}
use Rattle.dependence_graph.proofs.dep_graph.lines.Dependences.add_row.Goals as goal

pub loop-to-init : goal.loop-to-init
loop-to-init c = joined_none c.args.self.now

pub add_couple-requires : goal.add_couple-requires
add_couple-requires c =
    subst (λ (b : Occurrence). IsTestable c.args.from.now b) (sym c.to-item.is) (c.requires c.loop-to.to-index c.to-item.result (omega arith))

pub loop-to-preserved : goal.loop-to-preserved
loop-to-preserved c =
    row_more c.args.from.now c.args.all.now c.loop-to.to-index c.to-item.result c.args.self.now c.loop-to.self c.add_couple.new.self
    (omega arith) c.to-item.is c.loop-to.invariant c.in_ok-add_couple.ensures

pub returns : goal.returns
returns c = row_all c.args.from.now c.args.all.now c.loop-to.to-index c.args.self.now c.loop-to.self (omega arith) c.loop-to.invariant
