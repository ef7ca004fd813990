-- Any order that keeps what arcs ask for by their vectors gives the sequential store.
use Rattle.std.proofs.Common.{◌≡◌, refl, ◌⊎◌, inl, inr, ℕ, List, [], ◌∷◌, Result, Ok}
use Rattle.nest_order.specs.orders.Lists.{In, Pairwise}
use Rattle.nest_order.proofs.orders.Lists.{Each-In, Each-from}
use Rattle.nest_order.specs.orders.Graphs.{Arc}
use Rattle.nest_order.specs.orders.Nests.{IsInstance, IsNest, Precedes, common}
use Rattle.nest_order.specs.orders.Orders.{Invariant, MayPass, runs}
use Rattle.nest_order.specs.orders.Shapes.{Instance, Shape, instances}
use Rattle.nest_order.proofs.orders.Order.{in_order}
use Rattle.nest_order.proofs.orders.Theorems.{instances_in_sequence}
use Rattle.interchange_laws.specs.orders.Laws.{KeepsVectors}
use Rattle.interchange_laws.specs.orders.Vectors.{DependsByArcs}

Pairwise-weaker : {X : Type 0} (P R : X → X → Type 0) (xs : List X) → ((x y : X) → In x xs → In y xs → P x y → R x y) → Pairwise P xs → Pairwise R xs
Pairwise-weaker P R [] f h = tt
Pairwise-weaker P R (x ∷ xs) f h = (Each-from (R x) xs (λ y i. f x y (inl refl) (inr i) (Each-In (P x) xs h.0 y i)), Pairwise-weaker P R xs (λ y z i j. f y z (inr i) (inr j)) h.1)

module _ (loops_of : ℕ → List ℕ) (trip : ℕ → List ℕ → ℕ) (t : Shape) (nest : IsNest loops_of t) (arcs : List Arc)
    (S F : Type 0) (step : Instance → S → Result S F) (I : S → Type 0) (invariant : Invariant step (IsInstance loops_of trip t) I)
    (ordered : (x y : Instance) → IsInstance loops_of trip t x → IsInstance loops_of trip t y → Precedes (common loops_of) x y → DependsByArcs arcs x y ⊎ MayPass step I x y) where
  sequence : Pairwise (Precedes (common loops_of)) (instances trip t [])
  sequence = (instances_in_sequence loops_of trip t nest).1

  pub any_order_by_vectors : (order : List Instance) → KeepsVectors loops_of trip t arcs order → (s u : S) → I s → runs step (instances trip t []) s ≡ Ok u → runs step order s ≡ Ok u
  any_order_by_vectors order k s u i e =
      let each = instances_in_sequence loops_of trip t nest in
      in_order step (IsInstance loops_of trip t) I invariant (DependsByArcs arcs) order (instances trip t []) s u (λ x j. (each.0.each x).0 j)
      each.0.once k.instances.once
      (λ x. ((λ j. (k.instances.each x).1 ((each.0.each x).0 j)), (λ j. (each.0.each x).1 ((k.instances.each x).0 j))))
      (Pairwise-weaker (Precedes (common loops_of)) (λ x y. DependsByArcs arcs x y ⊎ MayPass step I x y) (instances trip t []) (λ x y a b p. ordered x y ((each.0.each x).0 a) ((each.0.each y).0 b) p) each.1)
      k.keeps i e
