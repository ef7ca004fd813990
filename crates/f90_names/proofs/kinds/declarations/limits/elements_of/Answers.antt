use Rattle.std.proofs.Common.{arith, ◌≡◌, ℕ, ◌<◌, ◌≤◌, false, List, length, refl, rules}
use Rattle.std.specs.List.{list_any}
use Rattle.f90_grammar.specs.Forms as forms
use Rattle.f90_statement.specs.Views.{IsEntityOf}
use Rattle.f90_names.specs.kinds.declarations.Bounds.{are_wide, elements_in}
use Rattle.meaning.specs.element_counts.Counts.{capped}
use Rattle.f90_names.proofs.kinds.OfDeclarations.PlaceLaws.{start, step, end}
use Rattle.f90_names.proofs.kinds.OfDeclarations.SizeLaws.{array_more, any_left, any_last}
use Rattle.f90_names.proofs.kinds.declarations.limits.elements_of.Goals as goal

abbrev IsCount : ℕ → List forms.EntityForm90 → Type 0
IsCount n es = list_any are_wide es ≡ false → n ≡ capped (elements_in es)

pub loop-entity-init : goal.loop-entity-init
loop-entity-init c = record { counted = λ es a. start IsEntityOf (IsCount 0) es (λ n. refl) a }

pub loop-entity-preserved : goal.loop-entity-preserved
loop-entity-preserved c =
    let l : c.loop-entity.entity-index < length c.args.entities.now = first_of (omega arith, search rules) in
    record {
      counted = step IsEntityOf (IsCount c.loop-entity.count)
          (IsCount c.sum_of-count.result) c.args.entities.now c.loop-entity.entity-index c.entity-item.result l
          c.entity-item.is
          (λ es e h k n.
          array_more es e c.loop-entity.count c.elements.result c.sum_of-count.result (h (any_left are_wide es e n))
          (c.elements.ensures e.dimensions (rw c.as_slice.ensures k.dimensions)
          (any_last are_wide es e n)) c.sum_of-count.ensures)
          c.loop-entity.invariant.counted;
    }

pub returns : goal.returns
returns c =
    let l : length c.args.entities.now ≤ c.loop-entity.entity-index = first_of (omega arith, search rules) in
    end IsEntityOf (IsCount c.loop-entity.count) c.args.entities.now c.loop-entity.entity-index l
    c.loop-entity.invariant.counted
