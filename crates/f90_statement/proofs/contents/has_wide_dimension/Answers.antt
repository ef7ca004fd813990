use Rattle.std.proofs.Common.{arith, ◌<◌, ◌≤◌, length, sym, ◌∙◌, rules}
use Rattle.f90_grammar.specs.Contents.{is_wide_dimension}
use Rattle.f90_statement.specs.Views.{IsDimensionOf}
use Rattle.f90_statement.proofs.AnyLaws.{begun, passed, met, ended, same_element}
use Rattle.f90_statement.proofs.contents.has_wide_dimension.Goals as goal

pub loop-dimension-init : goal.loop-dimension-init
loop-dimension-init c all a = begun IsDimensionOf (is_wide_dimension) c.args.dimensions.now all a

pub loop-dimension-preserved : goal.loop-dimension-preserved
loop-dimension-preserved c all a =
    let l : c.loop-dimension.dimension-index < length c.args.dimensions.now = first_of (omega arith, search rules) in
    passed IsDimensionOf (is_wide_dimension) c.args.dimensions.now c.loop-dimension.dimension-index _ all l (same_element _ _ _ _ l) (λ p m. sym c.if-is_wide_dimension.false ∙ c.is_wide_dimension.ensures p m) (c.loop-dimension.invariant all a)

pub returns-then-is_wide_dimension : goal.returns-then-is_wide_dimension
returns-then-is_wide_dimension c all a =
    let l : c.loop-dimension.dimension-index < length c.args.dimensions.now = first_of (omega arith, search rules) in
    met IsDimensionOf (is_wide_dimension) c.args.dimensions.now c.loop-dimension.dimension-index _ all l (same_element _ _ _ _ l) (λ p m. sym c.if-is_wide_dimension.true ∙ c.is_wide_dimension.ensures p m) (c.loop-dimension.invariant all a)

pub returns : goal.returns
returns c all a =
    let l : length c.args.dimensions.now ≤ c.loop-dimension.dimension-index = first_of (omega arith, search rules) in
    ended IsDimensionOf (is_wide_dimension) c.args.dimensions.now c.loop-dimension.dimension-index all l (c.loop-dimension.invariant all a)
