use Rattle.std.proofs.Common.{◌≤◌, ◌∙◌, map, ap, subst, sym, arith}
use Rattle.components.specs.Targets.{AreInside}
use Rattle.components.specs.Walking.{label_of, GoesOn}
use Rattle.components.proofs.Labelling.{all_labelled, inside_of_below}
use Rattle.components.proofs.Parts.{met_more}
use Rattle.components.proofs.walk.class_numbers.Goals as goal

pub visit-requires-clause-inside : goal.visit-requires-clause-inside
visit-requires-clause-inside c =
    subst AreInside (sym c.as_slice-in-loop-start.ensures.value) (inside_of_below c.args.n c.args.pairs.now c.in_ok-rows.rows.items c.requires c.in_ok-rows.ensures)

pub loop-start-preserved : goal.loop-start-preserved
loop-start-preserved c =
    let part = subst (λ z. GoesOn z c.loop-start.walk c.visit.new.self) c.as_slice-in-loop-start.ensures.value c.in_ok-visit.ensures.goes.0 in
    record {
      walk = part.is;
      path = c.in_ok-visit.ensures.goes.1;
      met = met_more c.loop-start.start c.loop-start.walk.marks.items c.visit.new.self.marks.items part.keeps c.loop-start.invariant.met c.in_ok-visit.ensures.met;
    }

pub returns : goal.returns
returns c =
    let w = c.loop-start.walk in
    let end : c.args.n ≤ c.loop-start.start = omega arith in
    all_labelled c.args.n c.args.pairs.now c.in_ok-rows.rows.items c.requires c.in_ok-rows.ensures w.marks.items w.path.items w.work.items w.starts.items w.count
    c.loop-start.invariant.walk c.loop-start.invariant.path (λ v h. c.loop-start.invariant.met v (omega arith)) c.in_ok-labels_of.field-0.items
    (c.in_ok-labels_of.ensures ∙ ap (map label_of) c.as_slice-2.ensures.value)
