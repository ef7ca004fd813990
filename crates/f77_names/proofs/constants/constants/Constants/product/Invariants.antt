use Rattle.std.proofs.Common.{◌≡◌, ◌*◌, map, drop}
use Rattle.f77_grammar.specs.program.Limits.{product_of_sizes}
use Rattle.f77_grammar.specs.syntax.Views.{bounds_of}
use Rattle.f77_names.specs.constants.Constants.{store_of}
use Rattle.meaning.specs.element_counts.Counts.{capped}
use Rattle.meaning.specs.Dialect.{fortran77}
use Rattle.f77_names.proofs.constants.constants.Constants.product.Given as goal

abbrev pub invariant-loop-bounds : goal.invariant-loop-bounds
invariant-loop-bounds l = record {
  product : capped (product_of_sizes (fortran77 l.self.width) (store_of l.self) (map bounds_of l.dims)) ≡ capped (l.product * product_of_sizes (fortran77 l.self.width) (store_of l.self) (map bounds_of (drop l.bounds-index l.dims)));
  capped : l.product ≡ capped l.product;
}
