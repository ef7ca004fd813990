use Rattle.std.proofs.Common.{arith, ◌≡◌, ◌<◌, ◌≤◌, true, false, List, length, map, refl, subst, rules}
use Rattle.std.specs.List.{AllByRecursion}
use Rattle.meaning.specs.Extents.{IsDimension}
use Rattle.f90_grammar.specs.Forms as forms
use Rattle.f90_statement.specs.Views.{IsEntityOf}
use Rattle.f90_names.specs.kinds.declarations.Bounds.{given_bounds}
use Rattle.f90_names.proofs.kinds.OfDeclarations.BoundLaws.{all_more, all_at}
use Rattle.f90_names.proofs.kinds.OfDeclarations.PlaceLaws.{start, step, end, at}
use Rattle.f90_names.proofs.kinds.declarations.limits.have_bounds.Goals as goal

abbrev Within : List forms.EntityForm90 → Type 0
Within es = AllByRecursion (AllByRecursion IsDimension) (map given_bounds es)

pub loop-entity-init : goal.loop-entity-init
loop-entity-init c = record { within = λ es a. start IsEntityOf Within es tt a }

pub loop-entity-preserved : goal.loop-entity-preserved
loop-entity-preserved c =
    let l : c.loop-entity.entity-index < length c.args.entities.now = first_of (omega arith, search rules) in
    let within : c.are_bounds.result ≡ true = first_of (cc, search rules) in
    record {
      within = step IsEntityOf Within Within c.args.entities.now c.loop-entity.entity-index c.entity-item.result l
          c.entity-item.is
          (λ es e h k. all_more given_bounds (AllByRecursion IsDimension) es e h
          ((c.are_bounds.ensures e.dimensions (rw c.as_slice.ensures k.dimensions)).0 within))
          c.loop-entity.invariant.within;
    }

pub returns-then-not-are_bounds : goal.returns-then-not-are_bounds
returns-then-not-are_bounds c es a =
    let l : c.loop-entity.entity-index < length c.args.entities.now = first_of (omega arith, search rules) in
    let beyond : c.are_bounds.result ≡ false = first_of (cc, search rules) in
    let f =
    at IsEntityOf c.args.entities.now es c.loop-entity.entity-index c.entity-item.result l c.entity-item.is a in (
      λ t. absurd (cc),
      λ h.
          let within : c.are_bounds.result ≡ true =
          (c.are_bounds.ensures f.here.dimensions (rw c.as_slice.ensures f.of_here.dimensions)).1
          (all_at given_bounds (AllByRecursion IsDimension) f.before f.here f.after
          (subst (λ (fs : List forms.EntityForm90). Within fs) f.same h)) in
          absurd (cc),
    )

pub returns : goal.returns
returns c es a =
    let l : length c.args.entities.now ≤ c.loop-entity.entity-index = first_of (omega arith, search rules) in (
      λ t. end IsEntityOf Within c.args.entities.now c.loop-entity.entity-index l c.loop-entity.invariant.within es a,
      λ h. refl,
    )
