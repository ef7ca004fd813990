use Rattle.std.proofs.Common.{◌≡◌, ◌≤◌, ◌+◌, ◌++◌, ◌∷◌, [], length, take, set, subst, sym, ap, ◌∙◌, arith}
use Rattle.std.proofs.lemmas.List.{length_push}
use Rattle.components.specs.declared.walk.NodeState.TheVariants.{Done}
use Rattle.components.specs.Walking.{IsClosed}
use Rattle.components.proofs.Closing.{closed_more}
use Rattle.components.proofs.Parts.{shorter}
use Rattle.components.proofs.walk.close.Goals as goal

pub loop-path-preserved : goal.loop-path-preserved
loop-path-preserved c =
    let old = c.args.path.now.items in
    let new = c.pop.new.self.items in
    let cut : c.loop-path.path.items ≡ new ++ c.in-Some.number ∷ [] = c.in-Some.ensures.items in
    let size : length c.loop-path.path.items ≡ length new + 1 = ap length cut ∙ length_push new c.in-Some.number in
    let upto = c.loop-path.invariant.upto in
    let parts = shorter old new c.in-Some.number (subst (λ z. z ≡ take (length z) old) cut c.loop-path.invariant.path) (subst (λ z. length z ≤ length old) cut upto) in
    record {
      path = parts.0;
      from = omega arith;
      upto = omega arith;
      marks = subst (λ z. IsClosed c.args.marks.now.items old (length new) c.args.class (set c.loop-path.marks.items z (Done c.args.class))) (sym parts.1)
          (closed_more c.args.marks.now.items c.loop-path.marks.items old (length new) c.args.class
          (subst (λ z. IsClosed c.args.marks.now.items old z c.args.class c.loop-path.marks.items) size c.loop-path.invariant.marks)
          (omega arith) (c.requires.below (length new) (omega arith)));
    }
