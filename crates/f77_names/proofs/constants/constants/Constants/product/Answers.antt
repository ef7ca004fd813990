use Rattle.std.proofs.Common.{◌*◌, ap, sym, ◌∙◌, arith, map}
use Rattle.f77_grammar.specs.program.Limits.{product_of_sizes}
use Rattle.f77_grammar.specs.syntax.Views.{bounds_of}
use Rattle.f77_names.specs.constants.Constants.{store_of}
use Rattle.meaning.specs.element_counts.Counts.{capped}
use Rattle.f77_names.proofs.constants.SizeLaws.{capped_once, product_more}
use Rattle.meaning.specs.Dialect.{fortran77}
use Rattle.f77_names.proofs.constants.constants.Constants.product.Goals as goal

pub loop-bounds-preserved : goal.loop-bounds-preserved
loop-bounds-preserved c = record {
  product = product_more c.args.self.now.width (store_of c.args.self.now) c.args.dims.now c.loop-bounds.bounds-index c.bounds-item.result
      (capped (product_of_sizes (fortran77 c.args.self.now.width) (store_of c.args.self.now) (map bounds_of c.args.dims.now))) c.loop-bounds.product c.size-size.result c.product_of-product.result c.in_ok-dimension.field-0
      (omega arith) c.bounds-item.is c.loop-bounds.invariant.product c.in_ok-dimension.ensures c.size-size.ensures c.product_of-product.ensures;
  capped = c.product_of-product.ensures ∙ capped_once (c.loop-bounds.product * c.size-size.result) ∙ sym (ap capped c.product_of-product.ensures);
}
