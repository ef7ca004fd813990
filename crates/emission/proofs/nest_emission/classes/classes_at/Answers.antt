use Rattle.std.proofs.Common.{◌≡◌, ◌<◌, ℕ, List, length, sym, subst}
use Rattle.std.specs.Prelude.{All}
use Rattle.components.specs.Emission.{statements_of_classes}
use Rattle.components.specs.Reachability.{AreBelow}
use Rattle.emission.specs.emission_pieces.Levels.{AreComponents}
use Rattle.emission.proofs.nest_emission.BlockLaws.{weaker}
use Rattle.emission.proofs.nest_emission.Lists.{all_below}
use Rattle.emission.proofs.nest_emission.PairLaws.{pairs_below}
use Rattle.emission.proofs.nest_emission.PlaceLaws.{components_are}
use Rattle.emission.proofs.nest_emission.classes.classes_at.Goals as goal

pub components-requires : goal.components-requires
components-requires c =
    subst (AreBelow (length c.args.part.now)) (sym c.as_slice.ensures.value)
    (pairs_below c.args.edges.now c.args.level c.args.part.now c.in_ok-pairs.pairs.items c.in_ok-pairs.ensures)

pub statements_of-requires : goal.statements_of-requires
statements_of-requires c =
    subst (λ (cs : List (List ℕ)). All (λ (places : List ℕ). All (λ (place : ℕ). place < length c.args.part.now) places) cs) (sym c.as_slice-2.ensures)
    (all_below (length c.args.part.now) c.in_ok-order.order.members (λ a i. (c.in_ok-order.ensures.classes.members a).0 i))

pub returns : goal.returns
returns c =
    weaker (λ (classes : List (List ℕ)). classes ≡ statements_of_classes c.args.part.now c.as_slice-2.result.now) (AreComponents c.args.edges.now c.args.level c.args.part.now)
    (λ classes e. components_are c.args.edges.now c.args.level c.args.part.now c.in_ok-pairs.pairs.items c.as_slice.result.now c.in_ok-order.order.members c.as_slice-2.result.now classes
    c.in_ok-pairs.ensures c.as_slice.ensures.value c.in_ok-order.ensures.classes c.as_slice-2.ensures e)
    c.statements_of.result c.statements_of.ensures
