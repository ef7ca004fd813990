use Rattle.std.proofs.Common.{◌+◌, ap, sym, ◌∙◌, arith, map}
use Rattle.std.specs.Prelude.{sum}
use Rattle.f77_grammar.specs.program.Limits.{elements}
use Rattle.f77_grammar.specs.syntax.Views.{bounds_of, entity_of}
use Rattle.f77_names.specs.constants.Constants.{store_of}
use Rattle.f77_names.specs.constants.Bounds.{bounds_in}
use Rattle.meaning.specs.element_counts.Counts.{capped}
use Rattle.f77_names.proofs.constants.SizeLaws.{capped_once, sum_more}
use Rattle.meaning.specs.Dialect.{fortran77}
use Rattle.f77_names.proofs.constants.constants.Constants.all_elements.Goals as goal

pub loop-entity-preserved : goal.loop-entity-preserved
loop-entity-preserved c = record {
  sum = sum_more c.args.self.now.width (store_of c.args.self.now) c.args.entities.now c.loop-entity.entity-index c.entity-item.result
      (capped (sum (map (elements (fortran77 c.args.self.now.width) (store_of c.args.self.now)) (bounds_in (map entity_of c.args.entities.now))))) c.loop-entity.count c.in_ok-elements.field-0 c.sum_of-count.result
      (omega arith) c.entity-item.is c.loop-entity.invariant.sum
      (c.in_ok-elements.ensures ∙ ap (λ bs. capped (elements (fortran77 c.args.self.now.width) (store_of c.args.self.now) (map bounds_of bs))) c.as_slice.ensures) c.sum_of-count.ensures;
  capped = c.sum_of-count.ensures ∙ capped_once (c.loop-entity.count + c.in_ok-elements.field-0) ∙ sym (ap capped c.sum_of-count.ensures);
}
