-- Where the run of a nest's loops goes on, it goes on with arrays as values, too, with the store that its instances
-- leave, but for the variables of the loops.
use Rattle.std.proofs.Common.{◌≡◌, sym, subst, inl, inr, ℕ, ◌≤◌, Bool, List, [], ◌++◌, Ok, Option, Some, None}
use Rattle.std.proofs.Common.{append-nil, arith}
use Rattle.meaning.specs.Run.{Going, State, does}
use Rattle.meaning.specs.Store.{Store}
use Rattle.tree.specs.Plain.{Statement}
use Rattle.nest_order.specs.orders.Orders.{runs}
use Rattle.nest_order.specs.orders.Lists.{In}
use Rattle.nest_order.specs.orders.Shapes.{StandsIn, instances, no_shapes, shape, statements as all_statements}
use Rattle.nest_order.proofs.runs.Counting.{statement_counted}
use Rattle.nest_order.proofs.runs.Runs.{LieIn, nest_lies, outermost}
use Rattle.nest_order.proofs.runs.Translating.{written_back_in}
use Rattle.nest_order.proofs.runs.Variables.{Near-same}
use Rattle.nest_order.specs.runs.Blocks.{Layout, nest_statement}
use Rattle.nest_order.specs.runs.Guarded.{dialect, sequential}
use Rattle.nest_order.specs.runs.Nests.{LoopStands, LoopStandsIn, Near, RunNest, acts}
use Rattle.nest_order.specs.runs.Stores.{HoldsNest, IsNestIn, Setting}
use Rattle.tree.specs.Widths.{bits_of}
use Rattle.tree.specs.declared.width.Width.{Width}
use Rattle.meaning.proofs.Widths.{narrowest}

no_form : {A : Type 0} (c : Statement) → ◌≡◌ {A = Option Statement} None (Some c) → A
no_form c f = absurd (some_none f)
  where
    some_none : ◌≡◌ {A = Option Statement} None (Some c) → ⊥
    some_none f = cc

module _ (width : Width) (arrays : Bool) (n : RunNest) (w : Setting) (y : Layout) (s : State) (ok : IsNestIn (bits_of width) n w)
    (inside : HoldsNest (bits_of width) n w s.store) (way : s.way ≡ Going)
    (go : (does (sequential (bits_of width)) None (nest_statement n y [] n.shape) s).way ≡ Going) (left : Store)
    (ran : runs (acts n (sequential (bits_of width))) (instances (n.turns_of w.values) n.shape []) s.store ≡ Ok left) where
  abbrev GoesOn : State → Type 0
  GoesOn t = (t.way ≡ Going) × Near n left t.store

  wide : 31 ≤ bits_of width
  wide = narrowest width

  lies : LieIn (bits_of width) n w ok [] (shape n.shape no_shapes)
  lies = record { statements_there = λ k ls i. statements k ls i; loops_there = λ ls l i. loops ls l i }
    where
      statements : (k : ℕ) (ls : List ℕ) → StandsIn (shape n.shape no_shapes) k ls
          → In k (all_statements n.shape) × (n.loops_of k ≡ [] ++ ls)
      statements k ls (inl h) = (nest_lies (bits_of width) n w ok).statements_there k ls h
      statements k ls (inr h) = absurd h

      loops : (ls : List ℕ) (l : ℕ) → LoopStandsIn (shape n.shape no_shapes) ls l → LoopStands n.shape ([] ++ ls) l
      loops ls l (inl h) = (nest_lies (bits_of width) n w ok).loops_there ls l h
      loops ls l (inr h) = absurd h

  pub loops_end : GoesOn (does (dialect (bits_of width) arrays) None (nest_statement n y [] n.shape) s)
  loops_end =
      let counted = statement_counted (bits_of width) n w ok y n.shape [] [] (nest_lies (bits_of width) n w ok) (outermost (bits_of width) n w ok) s.store s
      (Near-same n s.store) tt inside go in
      let b = written_back_in (bits_of width) arrays n w ok wide y (λ r u. None) (λ round before t c z u f. no_form c f)
      (shape n.shape no_shapes) [] [] lies (outermost (bits_of width) n w ok) (counted, tt) s.store left s
      (Near-same n s.store) tt inside way
      (subst (λ xs. runs (acts n (sequential (bits_of width))) xs s.store ≡ Ok left)
      (sym (append-nil (instances (n.turns_of w.values) n.shape []))) ran) in
      (b.way, b.near)
