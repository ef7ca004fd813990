-- What an instance stores depends on the cells that it reads.
use Rattle.std.proofs.Common.{◌≡◌, refl, sym, ap, ap₂, ℕ, pos, Bool, true, false, cond, List, [], ◌∷◌, ◌++◌, Ok, Err, Option, Some, None}
use Rattle.tree.specs.Steps.{◌>>=◌}
use mathlib.Core.Path.{fun_ext}
use Rattle.std.specs.List.{AllByRecursion}
use Rattle.tree.specs.Operators.{as_truth}
use Rattle.tree.specs.Plain.{Expression, Reference}
use Rattle.tree.specs.declared.ops.Value.{Value}
use Rattle.tree.specs.declared.ops.Value.TheVariants.{Int}
use Rattle.tree.specs.declared.ops.Fault.TheVariants.{Overflow}
use Rattle.meaning.specs.Dialect.{Dialect}
use Rattle.meaning.specs.Store.{Store, Cell, put, same_cell}
use Rattle.meaning.specs.Value.{is_in_range, bound_to}
use Rattle.meaning.specs.Reads.{names_in, names_in_subscripts}
use Rattle.meaning.specs.CellsRead.{cells_read, cells_read_by}
use Rattle.meaning.proofs.CellFrame.{value_of-same, cell_named-same}
use Rattle.meaning.proofs.Exchanges.{unread}
use Rattle.nest_order.specs.orders.Lists.{In}
use Rattle.nest_order.proofs.orders.Lists.{In-left, In-right}
use Rattle.nest_order.specs.runs.Guarded.{GuardedAssignment, assigned_if, at_iterations, effect, guard_holds, read_by_guard, reads, variable_cell}
use Rattle.nest_order.proofs.runs.Results.{each_of}

-- the same bounds of all names, and the same values of all cells but those that may have changed
pub record But (Changed : Cell → Type 0) (s t : Store) : Type 0 where
  pub bounds : (x : List ℕ) → s.bounds x ≡ t.bounds x
  pub held : (d : Cell) → ¬ (Changed d) → s.held d ≡ t.held d

pub But-put : (c : Cell) (w : Value) (s : Store) → But (λ d. d ≡ c) s (put c w s)
But-put c w s = record { bounds = λ x. refl; held = λ d n. unread c d w s (λ e. n (sym e)) }

But-both : (Changed : Cell → Type 0) (c : Cell) (v : Value) (s t : Store) → But Changed s t → But Changed (put c v s) (put c v t)
But-both Changed c v s t h = record { bounds = h.bounds; held = λ d n. ap (cond (same_cell c d) v) (h.held d n) }

pub But-iterations : (Changed : Cell → Type 0) (xs : List (List ℕ)) (is : List ℕ) (s t : Store) → But Changed s t → But Changed (at_iterations xs is s) (at_iterations xs is t)
But-iterations Changed [] [] s t h = h
But-iterations Changed [] (i ∷ is) s t h = h
But-iterations Changed (x ∷ xs) [] s t h = h
But-iterations Changed (x ∷ xs) (i ∷ is) s t h = But-iterations Changed xs is (bound_to x (pos i) s) (bound_to x (pos i) t) (But-both Changed (variable_cell x) (Int (pos i)) s t h)

module _ (lang : Dialect) (s t : Store) (bounds : (x : List ℕ) → s.bounds x ≡ t.bounds x) where
  abbrev SameHeld : List Cell → Type 0
  SameHeld cs = (d : Cell) → In d cs → s.held d ≡ t.held d

  same_held : (cs : List Cell) → SameHeld cs → AllByRecursion (λ d. s.held d ≡ t.held d) cs
  same_held cs h = each_of (λ d. s.held d ≡ t.held d) cs h

  same_bounds : (xs : List (List ℕ)) → AllByRecursion (λ x. s.bounds x ≡ t.bounds x) xs
  same_bounds xs = each_of (λ x. s.bounds x ≡ t.bounds x) xs (λ x i. bounds x)

  guard-same : (g : Option Expression) → SameHeld (read_by_guard lang g s) → guard_holds lang g s ≡ guard_holds lang g t
  guard-same None h = refl
  guard-same (Some e) h = ap (λ r. do x ← r; as_truth x) (value_of-same lang s t e (same_bounds (names_in e)) (same_held (cells_read lang e s) h))

  assigned-same : (b : Bool) (r : Reference) (e : Expression) → SameHeld (cells_read lang e s) → SameHeld (cells_read_by lang r.subscripts s) → assigned_if lang b r e s ≡ assigned_if lang b r e t
  assigned-same false r e h k = refl
  assigned-same true r e h k = ap₂ (λ p q. do v ← p; d ← q; cond (is_in_range lang.bits v) (Ok (Some (d, v))) (Err Overflow))
      (value_of-same lang s t e (same_bounds (names_in e)) (same_held (cells_read lang e s) h))
      (cell_named-same lang s t r (bounds r.name) (same_bounds (names_in_subscripts r.subscripts)) (same_held (cells_read_by lang r.subscripts s) k))

  pub effect-same : (g : GuardedAssignment) → SameHeld (reads lang g s) → effect lang g s ≡ effect lang g t
  effect-same g h =
      let a = read_by_guard lang g.guard s in
      let b = cells_read lang g.right s in
      let c = cells_read_by lang g.left.subscripts s in
      ap₂ (λ p q. do x ← p; q x) (guard-same g.guard (λ d i. h d (In-left d a (b ++ c) i)))
      (fun_ext (λ x. assigned-same x g.left g.right (λ d i. h d (In-right d a (b ++ c) (In-left d b c i))) (λ d i. h d (In-right d a (b ++ c) (In-right d b c i)))))
