use Rattle.std.proofs.Common.{arith, ◌≡◌, ℕ, ◌<◌, ◌≤◌, false, List, length, map, refl, rules}
use Rattle.std.specs.List.{list_any}
use Rattle.std.proofs.lemmas.List.{get_or_default}
use Rattle.meaning.specs.Extents.{elements_of}
use Rattle.f90_grammar.specs.Contents.{is_wide_dimension}
use Rattle.f90_grammar.specs.Forms as forms
use Rattle.f90_grammar.specs.Reading.{dimension_bounds}
use Rattle.f90_statement.specs.Views.{IsDimensionOf}
use Rattle.meaning.specs.element_counts.Counts.{capped}
use Rattle.f90_names.proofs.kinds.OfDeclarations.PlaceLaws.{start, step, end}
use Rattle.f90_names.proofs.kinds.OfDeclarations.SizeLaws.{product_more, any_left, any_last}
use Rattle.f90_names.proofs.kinds.declarations.bounds.product.Goals as goal

abbrev IsProduct : ℕ → List forms.Dimension → Type 0
IsProduct n ds = list_any is_wide_dimension ds ≡ false → n ≡ capped (elements_of (map dimension_bounds ds))

pub loop-dimension-init : goal.loop-dimension-init
loop-dimension-init c = record { product = λ ds a. start IsDimensionOf (IsProduct 1) ds (λ n. refl) a }

pub loop-dimension-preserved : goal.loop-dimension-preserved
loop-dimension-preserved c =
    let l : c.loop-dimension.dimension-index < length c.args.dimensions.now = first_of (omega arith, search rules) in
    record {
      product = step IsDimensionOf (IsProduct c.loop-dimension.product)
          (IsProduct c.product_of-product.result) c.args.dimensions.now c.loop-dimension.dimension-index _ l
          (get_or_default _ _ _ _ l)
          (λ ds d h k n.
          product_more ds d c.loop-dimension.product c.size.result c.product_of-product.result
          (h (any_left is_wide_dimension ds d n))
          (c.size.ensures d k (any_last is_wide_dimension ds d n)) c.product_of-product.ensures)
          c.loop-dimension.invariant.product;
    }

pub returns : goal.returns
returns c =
    let l : length c.args.dimensions.now ≤ c.loop-dimension.dimension-index = first_of (omega arith, search rules) in
    end IsDimensionOf (IsProduct c.loop-dimension.product) c.args.dimensions.now c.loop-dimension.dimension-index l
    c.loop-dimension.invariant.product
