-- Laws of loop interchange.
use Rattle.std.specs.Prelude.{◌≡◌, Ok, None, ℕ, ◌≤◌, List, [], ◌∷◌}
use Rattle.meaning.specs.Run.{State, Going, does, does_all}
use Rattle.meaning.specs.Store.{Store}
use Rattle.nest_order.specs.orders.Graphs.{Arc}
use Rattle.nest_order.specs.orders.Orders.{runs}
use Rattle.nest_order.specs.orders.Shapes.{instances, no_shapes, shape}
use Rattle.nest_order.specs.runs.Blocks.{Layout, nest_block, nest_statement}
use Rattle.nest_order.specs.runs.Forms.{AreCounted}
use Rattle.nest_order.specs.runs.Guarded.{sequential}
use Rattle.nest_order.specs.runs.Laws.{GoesOnNear}
use Rattle.nest_order.specs.runs.Nests.{RunNest, acts}
use Rattle.nest_order.specs.runs.Stores.{HoldsNest, IsNestIn, Setting}
use Rattle.nest_order.specs.runs.Touched.{AreEdgesOf}
use Rattle.interchange_laws.specs.orders.Laws.{IsRectangular, MayBeRearranged}
use Rattle.interchange_laws.specs.orders.Moves.{chain_of}
use Rattle.interchange_laws.specs.runs.Nests.{AreOtherThanOwnAnti, ReadsWhatItWrites, rearranged_nest}

-- All statements stand in one chain of loops whose trips are the same at all iterations; in each vector of an edge, but
-- those of antidependences of a statement on itself, the first entry other than `=` is `<` after the loops are put in
-- the other order, too; and a statement reads no other element of the array that it writes
pub record MayExchange (bits : ℕ) (n : RunNest) (w : Setting) (l : ℕ) (ls ss ps : List ℕ)
    (arcs : List Arc) : Type 0 where
  pub nest : IsNestIn bits n w
  pub chain : n.shape ≡ chain_of (l ∷ ls) ss
  pub turns : ℕ → ℕ
  pub rectangular : IsRectangular (n.turns_of w.values) (l ∷ ls) turns
  pub edges : AreEdgesOf n arcs
  pub kept : List Arc
  pub others : AreOtherThanOwnAnti arcs kept
  pub may : MayBeRearranged ps kept
  pub reads : ReadsWhatItWrites n

abbrev pub ExchangedLoopsGiveStore : Type 0
ExchangedLoopsGiveStore =
    (bits : ℕ) (n : RunNest) (w : Setting) (l : ℕ) (ls ss ps : List ℕ) (arcs : List Arc) (s u : Store)
    → MayExchange bits n w l ls ss ps arcs → HoldsNest bits n w s
    → runs (acts n (sequential bits)) (instances (n.turns_of w.values) n.shape []) s ≡ Ok u
    → runs (acts (rearranged_nest ps n (l ∷ ls) ss) (sequential bits))
    (instances (n.turns_of w.values) (rearranged_nest ps n (l ∷ ls) ss).shape []) s
    ≡ Ok u

-- Where the run of the nest goes on, so does that of the nest with its loops in the other order, in the same store but
-- for the loop variables. Asked of the other nest: that it is one, and that its trips can be counted
abbrev pub ExchangedLoopsKeepMeaning : Type 0
ExchangedLoopsKeepMeaning =
    (bits : ℕ) (n : RunNest) (w : Setting) (l : ℕ) (ls ss ps : List ℕ) (arcs : List Arc) (y z : Layout) (s : State)
    → 31 ≤ bits → MayExchange bits n w l ls ss ps arcs → HoldsNest bits n w s.store
    → IsNestIn bits (rearranged_nest ps n (l ∷ ls) ss) w
    → AreCounted bits (rearranged_nest ps n (l ∷ ls) ss) w [] [] (rearranged_nest ps n (l ∷ ls) ss).shape
    → (does (sequential bits) None (nest_statement n y [] n.shape) s).way ≡ Going
    → GoesOnNear n (does (sequential bits) None (nest_statement n y [] n.shape) s)
    (does_all (sequential bits) None
    (nest_block (rearranged_nest ps n (l ∷ ls) ss) z [] (shape (rearranged_nest ps n (l ∷ ls) ss).shape no_shapes)) s)
