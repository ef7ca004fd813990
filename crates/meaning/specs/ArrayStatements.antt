-- What the statements on whole arrays and sections store (ISO/IEC 1539:1991, sections 6.3 and 7.5).
use Rattle.std.specs.Prelude.{Result, Ok, Err, Option, Some, None, ℕ, ℤ, pos, if◌then◌else◌, List, [], ◌∷◌, map}
use Rattle.std.specs.List.{zip}
use Rattle.tree.specs.Steps.{◌>>=◌}
use Rattle.tree.specs.Operators.{as_numbers, as_truth}
use Rattle.tree.specs.Plain.{Expression, Expressions, Reference}
use Rattle.tree.specs.declared.ops.Value.{Value}
use Rattle.tree.specs.declared.ops.Fault.{Fault}
use Rattle.tree.specs.declared.ops.Fault.TheVariants.{Overflow, Allocated}
use Rattle.meaning.specs.Store.{Store, Cell, stored_bounds}
use Rattle.meaning.specs.Dialect.{Dialect}
use Rattle.meaning.specs.ArrayValues.{Elements, each, positions, conform}
use Rattle.meaning.specs.Sections.{Axis, axes_selected, extents_of, cells_along}
use Rattle.meaning.specs.Value.{values_of, array_of, selectors, is_in_range}

abbrev pub second : {A B : Type 0} → A × B → B
second p = p.1

-- of the cells with their positions, those at which the mask is true
abbrev pub where_true : Elements Value → List (List ℕ × Cell) → Result (List (List ℕ × Cell)) Fault
where_true mask [] = Ok []
where_true mask (p ∷ ps) = do
  x ← mask.at p.0
  b ← as_truth x
  more ← where_true mask ps
  Ok (if b then p ∷ more else more)

abbrev pub free : Option (List (ℤ × ℤ)) → List ℤ → Result (List (ℤ × ℤ)) Fault
free (Some bs) ns = Err Allocated
free None ns = Ok (map (λ n. (pos 1, n)) ns)

module _ (d : Dialect) where
  -- what a reference to an array, or to a part of it, selects
  abbrev pub axes_named : Reference → Store → Result (List Axis) Fault
  axes_named r s = do
    zs ← selectors d r.subscripts s
    bs ← stored_bounds r.name s
    axes_selected r.subscripts bs zs

  abbrev pub storable : Value → Result Value Fault
  storable v = if is_in_range d.bits v then Ok v else Err Overflow

  -- The cells of `left` where the mask is true, each with its value, in column-major order. The mask, the left side and
  -- the right
  -- side are evaluated in this order; then all of the mask's elements are, then the right side's where the mask is
  -- true, position
  -- by position, and then each value is held against the range
  abbrev pub writes_of : Expression → Reference → Expression → Store → Result (List (Cell × Value)) Fault
  writes_of mask left right s = do
    m ← array_of d mask s
    axes ← axes_named left s
    ns ← conform m.extents (extents_of axes)
    g ← array_of d right s
    _ ← conform ns g.extents
    chosen ← where_true m (zip (positions (extents_of axes)) (cells_along left.name axes))
    xs ← each (λ p. g.at p.0) chosen
    vs ← each storable xs
    Ok (zip (map second chosen) vs)

  -- the bounds that an ALLOCATE gives; a negative extent gives no element
  abbrev pub allocated_bounds : List ℕ → Expressions → Store → Result (List (ℤ × ℤ)) Fault
  allocated_bounds x es s = do
    vs ← values_of d es s
    ns ← as_numbers vs
    free (s.bounds x) ns
