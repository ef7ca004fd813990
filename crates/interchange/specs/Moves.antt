-- How an order of loops comes about: by moves outwards, each of a loop that may be moved.
use Rattle.std.specs.Prelude.{◌≡◌, ℕ, ◌-◌, ◌<◌, true, List, [], ◌∷◌, length}
use Rattle.std.specs.List.{flat_map, range_with_len}
use Rattle.subscripts.specs.declared.affine.Dirs.{Dirs}
use Rattle.subscripts.specs.declared.affine.Span.{Span}
use Rattle.nest.specs.declared.parts.Trip.{Trip}
use Rattle.interchange.specs.Orders.{keeps_all, may_move, moved}
use Rattle.interchange_laws.specs.orders.Moves.{move}

-- a move to the place `to`
pub record Move : Type 0 where
  pub to : ℕ
  pub from : ℕ

abbrev pub moves_to : Move → List ℕ → List ℕ
moves_to m order = moved m.to m.from order

module _ (trips : List Trip) (spans : List Span) where
  pub record IsAllowed (order : List ℕ) (m : Move) : Type 0 where
    pub outwards : m.to < m.from
    pub inside : m.from < length order
    pub may : may_move trips spans order m.to m.from ≡ true

  -- one after another
  abbrev pub LeadTo : List Move → List ℕ → List ℕ → Type 0
  LeadTo [] order last = order ≡ last
  LeadTo (m ∷ ms) order last = IsAllowed order m × LeadTo ms (moves_to m order) last

-- the exchanges of neighbours that moves are
abbrev pub exchanges : List Move → List ℕ
exchanges ms = flat_map (λ (m : Move). move m.to (m.from - m.to)) ms

-- the order of n loops comes about by such moves, and no dependence leads back in it where none did at first
pub record IsReached (trips : List Trip) (spans : List Span) (vectors : List Dirs) (n : ℕ) (order : List ℕ)
    : Type 0 where
  pub moves : List Move
  pub lead : LeadTo trips spans moves (range_with_len 0 n) order
  pub keeps : keeps_all vectors (range_with_len 0 n) ≡ true → keeps_all vectors order ≡ true
  pub size : length order ≡ n
