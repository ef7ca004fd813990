-- Laws of orders.
use Rattle.std.specs.Prelude.{◌≡◌, ℕ, List, length}
use Rattle.components.specs.Lists.{Distinct}
use Rattle.components.specs.Reachability.{SamePairs}
use Rattle.components.specs.Orders.{IsOrder}
use Rattle.components.specs.Emission.{Components, ArePlaces, statements_of_classes}

abbrev pub OrderIsUnique : Type 0
OrderIsUnique =
    (n : ℕ) (pairs others : List (ℕ × ℕ)) (cs ds : List (List ℕ))
    → SamePairs pairs others
    → IsOrder n pairs cs
    → IsOrder n others ds
    → cs ≡ ds

abbrev pub OrderHasComponents : Type 0
OrderHasComponents =
    (part : List ℕ) (leaps pairs : List (ℕ × ℕ)) (classes : List (List ℕ))
    → Distinct part
    → ArePlaces part leaps pairs
    → IsOrder (length part) pairs classes
    → Components part leaps (statements_of_classes part classes)
