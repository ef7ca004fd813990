use Rattle.std.proofs.Common.{arith, ◌≡◌, ◌<◌, ◌≤◌, List, [], ◌∷◌, ◌++◌, length, map, ap, ◌∙◌, rules}
use Rattle.std.proofs.lemmas.List.{get_or_default}
use Rattle.std.specs.List.{AllByRecursion}
use Rattle.tree.specs.View as view
use Rattle.tree.specs.declared.programs.Dim.{Dim}
use Rattle.meaning.specs.Extents.{IsDimension}
use Rattle.f90_grammar.specs.Forms as forms
use Rattle.f90_grammar.specs.Reading.{dimension_bounds}
use Rattle.f90_statement.specs.Views.{IsDimensionOf}
use Rattle.f90_names.proofs.kinds.OfDeclarations.BoundLaws.{all_at, all_but_last, made_more}
use Rattle.f90_names.proofs.kinds.OfDeclarations.PlaceLaws.{start, step, end}
use Rattle.f90_names.proofs.kinds.declarations.declaring.dims.Goals as goal

abbrev AreMade : List Dim → List forms.Dimension → Type 0
AreMade made ds = AllByRecursion IsDimension (map dimension_bounds ds)
    → map view.bounds_of made ≡ map dimension_bounds ds

pub loop-dimension-init : goal.loop-dimension-init
loop-dimension-init c =
    record {
      made = λ ds a. start IsDimensionOf (AreMade c.new-dims.result) ds
          (λ h. ap (map view.bounds_of) c.new-dims.ensures) a;
    }

pub loop-dimension-preserved : goal.loop-dimension-preserved
loop-dimension-preserved c =
    let l : c.loop-dimension.dimension-index < length c.args.dimensions.now = first_of (omega arith, search rules) in
    let p : c.push.new.self ≡ c.loop-dimension.dims ++ c.dim_or_empty.result ∷ [] = search rules in
    record {
      made = step IsDimensionOf (AreMade c.loop-dimension.dims)
          (AreMade c.push.new.self) c.args.dimensions.now c.loop-dimension.dimension-index _ l
          (get_or_default _ _ _ _ l)
          (λ ds d h k w.
          ap (map view.bounds_of) p
          ∙ made_more view.bounds_of dimension_bounds c.loop-dimension.dims c.dim_or_empty.result [] ds d
          (h (all_but_last dimension_bounds IsDimension ds d w))
          (c.dim_or_empty.ensures d k (all_at dimension_bounds IsDimension ds d [] w)))
          c.loop-dimension.invariant.made;
    }

pub returns : goal.returns
returns c =
    let l : length c.args.dimensions.now ≤ c.loop-dimension.dimension-index = first_of (omega arith, search rules) in
    end IsDimensionOf (AreMade c.loop-dimension.dims) c.args.dimensions.now c.loop-dimension.dimension-index l
    c.loop-dimension.invariant.made
