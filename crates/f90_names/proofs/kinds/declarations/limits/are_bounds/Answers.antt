use Rattle.std.proofs.Common.{arith, ◌≡◌, ◌<◌, ◌≤◌, true, false, List, length, map, refl, subst, rules}
use Rattle.std.specs.Prelude.{is_some}
use Rattle.std.proofs.lemmas.List.{get_or_default}
use Rattle.std.specs.List.{AllByRecursion}
use Rattle.meaning.specs.Extents.{IsDimension}
use Rattle.f90_grammar.specs.Forms as forms
use Rattle.f90_grammar.specs.Reading.{dimension_bounds}
use Rattle.f90_statement.specs.Views.{IsDimensionOf}
use Rattle.f90_names.proofs.kinds.OfDeclarations.BoundLaws.{all_more, all_at, dim_within, dim_beyond}
use Rattle.f90_names.proofs.kinds.OfDeclarations.PlaceLaws.{start, step, end, at}
use Rattle.f90_names.proofs.kinds.declarations.limits.are_bounds.Goals as goal

abbrev Within : List forms.Dimension → Type 0
Within ds = AllByRecursion IsDimension (map dimension_bounds ds)

pub loop-dimension-init : goal.loop-dimension-init
loop-dimension-init c = record { within = λ ds a. start IsDimensionOf Within ds tt a }

pub loop-dimension-preserved : goal.loop-dimension-preserved
loop-dimension-preserved c =
    let l : c.loop-dimension.dimension-index < length c.args.dimensions.now = first_of (omega arith, search rules) in
    let found : is_some c.dim.result ≡ true = c.if-is_none.ensures in
    record {
      within = step IsDimensionOf Within Within c.args.dimensions.now c.loop-dimension.dimension-index _ l
          (get_or_default _ _ _ _ l)
          (λ ds d h k. all_more dimension_bounds IsDimension ds d h
          (dim_within c.dim.result d found (c.dim.ensures d k))) c.loop-dimension.invariant.within;
    }

pub returns-then-is_none : goal.returns-then-is_none
returns-then-is_none c ds a =
    let l : c.loop-dimension.dimension-index < length c.args.dimensions.now = first_of (omega arith, search rules) in
    let lost : is_some c.dim.result ≡ false = c.if-is_none.ensures in
    let f = at IsDimensionOf c.args.dimensions.now ds c.loop-dimension.dimension-index _ l
    (get_or_default _ _ _ _ l) a in (
      λ t. absurd (cc),
      λ h. absurd (dim_beyond c.dim.result f.here lost (c.dim.ensures f.here f.of_here)
          (all_at dimension_bounds IsDimension f.before f.here f.after
          (subst (λ (bs : List forms.Dimension). Within bs) f.same h))),
    )

pub returns : goal.returns
returns c ds a =
    let l : length c.args.dimensions.now ≤ c.loop-dimension.dimension-index = first_of (omega arith, search rules) in (
      λ t. end IsDimensionOf Within c.args.dimensions.now c.loop-dimension.dimension-index l
          c.loop-dimension.invariant.within ds a,
      λ h. refl,
    )
