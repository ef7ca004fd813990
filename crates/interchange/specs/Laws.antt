-- Laws of the order of loops.
use Rattle.std.specs.Prelude.{◌≡◌, ℕ, true, Some, List, ◌∷◌, length}
use Rattle.std.specs.List.{range_with_len}
use Rattle.subscripts.specs.declared.affine.Dirs.{Dirs}
use Rattle.subscripts.specs.declared.affine.Span.{Span}
use Rattle.nest.specs.declared.parts.Trip.{Trip}
use Rattle.nest.specs.Plain.{Loop, Part, Turns}
use Rattle.interchange.specs.Arranged.{in_order}
use Rattle.interchange.specs.Chains.{Chain, are_statements, chain_of, in_loops}
use Rattle.interchange.specs.Moves.{IsReached, LeadTo, Move, exchanges}
use Rattle.interchange.specs.Orders.{order_of}
use Rattle.interchange_laws.specs.orders.Moves.{rearranged}

abbrev pub OrderIsReached : Type 0
OrderIsReached = (trips : List Trip) (spans : List Span) (vectors : List Dirs) (n : ℕ)
    → IsReached trips spans vectors n (order_of trips spans vectors n)

abbrev pub MovesAreExchanges : Type 0
MovesAreExchanges = (trips : List Trip) (spans : List Span) (ms : List Move) (order last : List ℕ)
    → LeadTo trips spans ms order last → last ≡ rearranged (exchanges ms) order

-- so the loops themselves are exchanged
abbrev pub LoopsAreExchanged : Type 0
LoopsAreExchanged = (l : Loop) (ls : List Loop) (ps order : List ℕ)
    → order ≡ rearranged ps (range_with_len 0 (length (l ∷ ls))) → in_order (l ∷ ls) order ≡ rearranged ps (l ∷ ls)

-- a part with a chain is just that chain of loops round statements
pub record IsChainOf (p : Part) (c : Chain) : Type 0 where
  pub first : Loop
  pub rest : List Loop
  pub loops_are : c.loops ≡ first ∷ rest
  pub is : p ≡ Turns first (in_loops rest c.body)
  pub body : are_statements c.body ≡ true

abbrev pub ChainsAreLoops : Type 0
ChainsAreLoops = (p : Part) (c : Chain) → chain_of p ≡ Some c → IsChainOf p c
