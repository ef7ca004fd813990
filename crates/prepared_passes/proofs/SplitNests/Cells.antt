-- The element of an iteration has its cell.
use Rattle.std.proofs.Common.{◌≡◌, refl, ap, ap₂, ◌∙◌, ℕ, ℤ, pos, true, cond, List, [], ◌∷◌, map, Result, Ok, Err, Some}
use mathlib.Core.List.{reverse_aux}
use Rattle.tree.specs.Steps.{◌>>=◌}
use Rattle.tree.specs.Operators.{as_number}
use Rattle.tree.specs.Plain.{Named, Subscript, no_subscripts, subscripts}
use Rattle.tree.specs.declared.ops.Fault.{Fault}
use Rattle.tree.specs.declared.ops.Fault.TheVariants.{Bounds}
use Rattle.tree.specs.declared.ops.Value.{Value}
use Rattle.tree.specs.declared.ops.Value.TheVariants.{Int}
use Rattle.meaning.specs.Store.{Store, Cell, cell_at, cell_in, is_within}
use Rattle.meaning.specs.Value.{value_of, subscript_value, subscript_values, cell_named}
use Rattle.rewrite.specs.Following.{sequential}
use Rattle.nest_steps.specs.Statements.{cell_of}
use Rattle.nest_order.proofs.runs.Variables.{place_of}
use Rattle.scalar_expand.specs.Expanded.{as_expression, element, loop_subscript}
use Rattle.scalar_expand.specs.Stores.{AreTurned, element_cell, numbers}
use Rattle.scalar_expand.specs.declared.privates.Private.{Private}
use Rattle.scalar_expand.specs.declared.privates.RoundLoop.{RoundLoop}

module _ (bits : ℕ) (u : Store) where
  scalar_value : (x : List ℕ) (v : Value) → u.bounds x ≡ Some [] → u.held (cell_of x) ≡ v → value_of (sequential bits) (Named x no_subscripts) u ≡ Ok v
  scalar_value x v b h = ap (λ (r : Result Cell Fault). do c ← r; Ok (u.held c)) (place_of x u b) ∙ ap Ok h

  one_value : (l : RoundLoop) (i : ℕ) → u.bounds l.variable ≡ Some [] → u.held (cell_of l.variable) ≡ Int (pos i) → subscript_value (sequential bits) (loop_subscript l) u ≡ Ok (pos i)
  one_value l i b h = ap (λ (r : Result Value Fault). do v ← r; as_number v) (scalar_value l.variable (Int (pos i)) b h)

  values_onto : (ls : List RoundLoop) (is : List ℕ) (qs : List Subscript) (zs : List ℤ) → AreTurned ls is u → subscript_values (sequential bits) (subscripts qs) u ≡ Ok zs
      → subscript_values (sequential bits) (subscripts (reverse_aux (map loop_subscript ls) qs)) u ≡ Ok (reverse_aux (map pos is) zs)
  values_onto [] [] qs zs h e = e
  values_onto [] (i ∷ is) qs zs h e = absurd h
  values_onto (l ∷ ls) [] qs zs h e = absurd h
  values_onto (l ∷ ls) (i ∷ is) qs zs h e =
      values_onto ls is (loop_subscript l ∷ qs) (pos i ∷ zs) h.2
      (ap₂ (λ (r : Result ℤ Fault) (q : Result (List ℤ) Fault). do z ← r; ys ← q; Ok (z ∷ ys)) (one_value l i h.0 h.1) e)

  -- the subscripts of an element have the iterations as their values
  pub element_values : (p : Private) (is : List ℕ) → AreTurned p.loops is u → subscript_values (sequential bits) (element p).subscripts u ≡ Ok (numbers is)
  element_values p is h = values_onto p.loops is [] [] h refl

  pub element_there : (p : Private) (is : List ℕ) (bs : List (ℤ × ℤ)) → u.bounds p.array ≡ Some bs → is_within bs (numbers is) ≡ true → cell_at p.array (numbers is) u ≡ Ok (element_cell p is)
  element_there p is bs b w =
      ap (λ b. cell_in b p.array (numbers is)) b
      ∙ ap (λ q. let r : Result Cell Fault = cond q (Ok (element_cell p is)) (Err Bounds) in r) w

  pub element_place : (p : Private) (is : List ℕ) (bs : List (ℤ × ℤ)) → AreTurned p.loops is u → u.bounds p.array ≡ Some bs → is_within bs (numbers is) ≡ true
      → cell_named (sequential bits) (element p) u ≡ Ok (element_cell p is)
  element_place p is bs h b w =
      ap (λ (r : Result (List ℤ) Fault). do zs ← r; cell_at p.array zs u) (element_values p is h) ∙ element_there p is bs b w

  pub element_value : (p : Private) (is : List ℕ) (bs : List (ℤ × ℤ)) → AreTurned p.loops is u → u.bounds p.array ≡ Some bs → is_within bs (numbers is) ≡ true
      → value_of (sequential bits) (as_expression (element p)) u ≡ Ok (u.held (element_cell p is))
  element_value p is bs h b w =
      ap (λ (r : Result (List ℤ) Fault). do zs ← r; c ← cell_at p.array zs u; Ok (u.held c)) (element_values p is h)
      ∙ ap (λ (r : Result Cell Fault). do c ← r; Ok (u.held c)) (element_there p is bs b w)
