-- The classes of a part, by the places of its statements.
use Rattle.std.proofs.Common.{◌≡◌, ap, subst, ◌∙◌, ℕ, List, length}
use Rattle.components.specs.Emission.{statements_of_classes}
use Rattle.components.specs.Orders.{IsOrder}
use Rattle.dependence_graph.specs.declared.graphs.Edge.{Edge}
use Rattle.emission.specs.emission_pieces.Levels.{AreComponents, ArePairsAt}

pub components_are : (edges : List Edge) (k : ℕ) (part : List ℕ) (pairs given : List (ℕ × ℕ)) (members order classes : List (List ℕ))
    → ArePairsAt edges k part pairs → given ≡ pairs → IsOrder (length part) given members → order ≡ members → classes ≡ statements_of_classes part order
    → AreComponents edges k part classes
components_are edges k part pairs given members order classes paired g h o e = record {
  pairs = pairs;
  paired = paired;
  places = members;
  order = subst (λ (ps : List (ℕ × ℕ)). IsOrder (length part) ps members) g h;
  statements = e ∙ ap (statements_of_classes part) o;
}
