-- Whether a loop may move, by its trip and those of the loops that it passes.
use Rattle.std.proofs.Common.{◌≡◌, sym, ap, ◌∙◌, ℕ, Bool, true, false, ◌||◌, Option, List}
use Rattle.std.specs.Prelude.{slice_get, slice_index, slice_range}
use Rattle.std.specs.List.{list_all}
use Rattle.subscripts.specs.declared.affine.Span.{Span}
use Rattle.nest.specs.declared.parts.Trip.{Trip}
use Rattle.interchange.specs.Orders.{has_constant, has_turn, is_count, may_move, same_trip}

pub same_trip_at : (trips : List Trip) (taken mover : ℕ) (one other : Option Trip) → one ≡ slice_get trips taken → other ≡ slice_get trips mover
    → same_trip one other ≡ same_trip (slice_get trips taken) (slice_get trips mover)
same_trip_at trips taken mover one other e f = ap (λ o. same_trip o other) e ∙ ap (same_trip (slice_get trips taken)) f

module _ (trips : List Trip) (spans : List Span) (order : List ℕ) (to from : ℕ) where
  abbrev counted : Bool
  counted = has_constant is_count (slice_get spans (slice_index order from))

  abbrev same : Bool
  same = same_trip (slice_get trips (slice_index order to)) (slice_get trips (slice_index order from))

  abbrev turning : Bool
  turning = list_all (λ k. has_constant has_turn (slice_get spans k)) (slice_range order to from)

  pub moves_same : (a b : Bool) → a ≡ has_constant is_count (slice_get spans (slice_index order from)) → a ≡ false
      → b ≡ same_trip (slice_get trips (slice_index order to)) (slice_get trips (slice_index order from)) → b ≡ true → true ≡ may_move trips spans order to from
  moves_same a b e f g h = sym (ap (λ x. x || (same || turning)) (sym e ∙ f) ∙ ap (λ x. x || turning) (sym g ∙ h))

  pub moves_over : (a b c : Bool) → a ≡ has_constant is_count (slice_get spans (slice_index order from)) → a ≡ false
      → b ≡ same_trip (slice_get trips (slice_index order to)) (slice_get trips (slice_index order from)) → b ≡ false
      → c ≡ list_all (λ k. has_constant has_turn (slice_get spans k)) (slice_range order to from) → c ≡ may_move trips spans order to from
  moves_over a b c e f g h k = k ∙ sym (ap (λ x. x || (same || turning)) (sym e ∙ f) ∙ ap (λ x. x || turning) (sym g ∙ h))
