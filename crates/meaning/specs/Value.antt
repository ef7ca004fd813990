-- The value of an expression, and of the items of input and output lists (ANSI X3.9-1978, sections 5.4, 6 and 11.10; of
-- arrays
-- ISO/IEC 1539:1991, sections 4.5, 6.2 and 7.1).
use Rattle.std.specs.Prelude.{Result, Ok, Err, Option, Some, ℕ, ℤ, pos, negsuc, ◌+ℤ◌, ◌-ℤ◌, int_div, nat_le, Bool}
use Rattle.std.specs.Prelude.{true, false, ◌&&◌, not, if◌then◌else◌, List, [], ◌∷◌, ◌++◌, map, length}
use Rattle.std.specs.Ordering.{int_eq}
use Rattle.tree.specs.Steps.{◌>>=◌}
use Rattle.tree.specs.Operators.{apply, call, as_number, as_numbers, as_truth, fits}
use Rattle.tree.specs.Plain.{Expression, Number, Logic, Named, Unary, Binary, Apply, Constructor, Spread, Transpose}
use Rattle.tree.specs.Plain.{Reshape, Reduce, Expressions, no_expressions, expression, Subscript, Only, Section}
use Rattle.tree.specs.Plain.{Subscripts, no_subscripts, subscript, Loops, no_loops, loop, Reference}
use Rattle.tree.specs.declared.ops.Value.{Value}
use Rattle.tree.specs.declared.ops.Value.TheVariants.{Int, Truth}
use Rattle.tree.specs.declared.ops.Fault.{Fault}
use Rattle.tree.specs.declared.ops.Fault.TheVariants.{Overflow, ZeroStep, TripCount, Shape}
use Rattle.meaning.specs.Store.{Store, Cell, put, cell_at, stored_bounds, cells_of, numbers_from}
use Rattle.meaning.specs.Dialect.{Dialect}
use Rattle.meaning.specs.ArrayValues.{Array, Elements, each, settled, scalar_array, in_whole, conform, mapped, paired}
use Rattle.meaning.specs.ArrayValues.{spread, transposed, reshaped}
use Rattle.tree.specs.Operators.{reduced}
use Rattle.meaning.specs.Sections.{Selector, Index, Triplet, Vector, not_negative, axes_selected, extents_of}
use Rattle.meaning.specs.Sections.{cells_along}

-- ---- the range of INTEGER

abbrev pub is_in_range : ℕ → Value → Bool
is_in_range bits (Int z) = fits bits z
is_in_range bits (Truth b) = true

-- ---- scalars and arrays

abbrev pub is_bare : Option (List (ℤ × ℤ)) → Bool
is_bare (Some []) = true
is_bare _ = false

-- a name without subscripts is a scalar where it has no dimensions, one with subscripts where each of these is
abbrev pub name_is_scalar : Subscripts → Option (List (ℤ × ℤ)) → Bool → Bool
name_is_scalar no_subscripts b r = is_bare b
name_is_scalar (subscript p ps) b r = r

-- whether an expression is a scalar, by the bounds of its names
abbrev mutual
  pub is_scalar : Expression → (List ℕ → Option (List (ℤ × ℤ))) → Bool
  is_scalar (Number n) bounds = true
  is_scalar (Logic b) bounds = true
  is_scalar (Named x ps) bounds = name_is_scalar ps (bounds x) (are_indices ps bounds)
  is_scalar (Unary o a) bounds = is_scalar a bounds
  is_scalar (Binary o a b) bounds = is_scalar a bounds && is_scalar b bounds
  is_scalar (Apply f es) bounds = are_scalar es bounds
  is_scalar (Reduce r a) bounds = true
  is_scalar _ bounds = false

  pub are_scalar : Expressions → (List ℕ → Option (List (ℤ × ℤ))) → Bool
  are_scalar no_expressions bounds = true
  are_scalar (expression e es) bounds = is_scalar e bounds && are_scalar es bounds

  pub are_indices : Subscripts → (List ℕ → Option (List (ℤ × ℤ))) → Bool
  are_indices no_subscripts bounds = true
  are_indices (subscript p ps) bounds = is_index p bounds && are_indices ps bounds

  pub is_index : Subscript → (List ℕ → Option (List (ℤ × ℤ))) → Bool
  is_index (Only e) bounds = is_scalar e bounds
  is_index (Section a b c) bounds = false

abbrev pub named : Reference → Expression
named r = Named r.name r.subscripts

-- where there are arrays as values
abbrev pub with_arrays : {A : Type 0} → Bool → Result A Fault → Result A Fault
with_arrays true r = r
with_arrays false r = Err Shape

abbrev pub numbered : Result Value Fault → Result ℤ Fault
numbered r = do
  x ← r
  as_number x

-- in whole: a scalar's value, or all elements of an array
abbrev pub evaluated : Bool → Result Value Fault → Result (Elements Value) Fault → Result Array Fault
evaluated true r q = do
  x ← r
  Ok (scalar_array x)
evaluated false r q = do
  g ← q
  in_whole g

abbrev pub selector_of : List ℕ → List ℤ → Selector
selector_of [] (z ∷ zs) = Index z
selector_of ns zs = Vector zs

-- the variable of a constructor's loop has a value of its own
abbrev pub bound_to : List ℕ → ℤ → Store → Store
bound_to x z s = put (record { name = x; subscripts = [] }) (Int z) s

abbrev pub joined_values : List (List Value) → List Value
joined_values [] = []
joined_values (vs ∷ more) = vs ++ joined_values more

-- f for x from l to u; a number that x can't have is a fault when it is reached
abbrev pub for_numbers : ℕ → List ℕ → ℤ → ℤ → (Store → Result (List Value) Fault) → Store → Result (List Value) Fault
for_numbers bits x l u f s = do
  vss ← each (λ z. if fits bits z then f (bound_to x z s) else Err Overflow)
      (numbers_from l (not_negative (u -ℤ l +ℤ pos 1)))
  Ok (joined_values vss)

-- of a function's arguments, from the extents of those before
abbrev pub together : Elements Value → Elements (List Value) → Elements (List Value)
together g more = record { extents = more.extents; at = λ is. (do x ← g.at is; xs ← more.at is; Ok (x ∷ xs)) }

module _ (d : Dialect) where
  -- Both operands are evaluated, the left one first, and the first fault wins. All subscripts are evaluated, from left
  -- to
  -- right, before any is held against its bounds
  abbrev mutual
    pub value_of : Expression → Store → Result Value Fault
    value_of (Number n) s = Ok (Int n)
    value_of (Logic b) s = Ok (Truth b)
    value_of (Named x ps) s = do
      is ← subscript_values ps s
      c ← cell_at x is s
      Ok (s.held c)
    value_of (Unary o a) s = do
      x ← value_of a s
      apply o x x
    value_of (Binary o a b) s = do
      x ← value_of a s
      y ← value_of b s
      apply o x y
    value_of (Apply f es) s = do
      xs ← values_of es s
      call f xs
    value_of (Reduce r a) s = with_arrays d.arrays (do
      g ← array_of a s
      v ← in_whole g
      zs ← as_numbers v.values
      reduced d.bits r zs)
    value_of _ s = Err Shape

    pub values_of : Expressions → Store → Result (List Value) Fault
    values_of no_expressions s = Ok []
    values_of (expression e es) s = do
      x ← value_of e s
      xs ← values_of es s
      Ok (x ∷ xs)

    pub subscript_values : Subscripts → Store → Result (List ℤ) Fault
    subscript_values no_subscripts s = Ok []
    subscript_values (subscript p ps) s = do
      i ← subscript_value p s
      is ← subscript_values ps s
      Ok (i ∷ is)

    pub subscript_value : Subscript → Store → Result ℤ Fault
    subscript_value (Only e) s = do
      x ← value_of e s
      as_number x
    subscript_value (Section a b c) s = Err Shape

    -- An array: subscripts, bounds of sections, constructors and arguments of array functions are evaluated here, in
    -- whole, in
    -- the order of the text. Operators and the other functions are left to each position
    pub array_of : Expression → Store → Result (Elements Value) Fault
    array_of (Number n) s = Ok (settled (scalar_array (Int n)))
    array_of (Logic b) s = Ok (settled (scalar_array (Truth b)))
    array_of (Named x ps) s = do
      zs ← selectors ps s
      bs ← stored_bounds x s
      axes ← axes_selected ps bs zs
      Ok (settled (record { extents = extents_of axes; values = map s.held (cells_along x axes) }))
    array_of (Unary o a) s = do
      g ← array_of a s
      Ok (mapped (λ x. apply o x x) g)
    array_of (Binary o a b) s = do
      g ← array_of a s
      h ← array_of b s
      paired (apply o) g h
    array_of (Apply f es) s = do
      g ← arguments_of es [] s
      Ok (mapped (call f) g)
    array_of (Constructor es ls) s = do
      vs ← under ls (values_of es) s
      Ok (settled (record { extents = length vs ∷ []; values = vs }))
    array_of (Spread a k e) s = do
      v ← evaluated (is_scalar a s.bounds) (value_of a s) (array_of a s)
      z ← numbered (value_of e s)
      Ok (spread k (not_negative z) v)
    array_of (Transpose a) s = do
      g ← array_of a s
      v ← in_whole g
      Ok (transposed v)
    array_of (Reshape a es) s = do
      g ← array_of a s
      v ← in_whole g
      xs ← values_of es s
      zs ← as_numbers xs
      reshaped (map not_negative zs) v
    array_of (Reduce r a) s = do
      g ← array_of a s
      v ← in_whole g
      zs ← as_numbers v.values
      x ← reduced d.bits r zs
      Ok (settled (scalar_array x))

    -- `ns`: the extents of the arguments before
    pub arguments_of : Expressions → List ℕ → Store → Result (Elements (List Value)) Fault
    arguments_of no_expressions ns s = Ok (record { extents = ns; at = λ is. Ok [] })
    arguments_of (expression e es) ns s = do
      g ← array_of e s
      ms ← conform ns g.extents
      more ← arguments_of es ms s
      Ok (together g more)

    pub selectors : Subscripts → Store → Result (List Selector) Fault
    selectors no_subscripts s = Ok []
    selectors (subscript p ps) s = do
      z ← selector p s
      zs ← selectors ps s
      Ok (z ∷ zs)

    pub selector : Subscript → Store → Result Selector Fault
    selector (Only e) s = do
      v ← evaluated (is_scalar e s.bounds) (value_of e s) (array_of e s)
      zs ← as_numbers v.values
      Ok (selector_of v.extents zs)
    selector (Section a b c) s = do
      l ← numbered (value_of a s)
      u ← numbered (value_of b s)
      k ← numbered (value_of c s)
      Ok (Triplet l u k)

    -- f under the loops of a constructor, of which the first one is the innermost
    pub under : Loops → (Store → Result (List Value) Fault) → Store → Result (List Value) Fault
    under no_loops f s = f s
    under (loop x a b ls) f s = under ls (λ t. (do
      l ← numbered (value_of a t)
      u ← numbered (value_of b t)
      for_numbers d.bits x l u f t)) s

  abbrev pub number_of : Expression → Store → Result ℤ Fault
  number_of e s = numbered (value_of e s)

  abbrev pub truth_of : Expression → Store → Result Bool Fault
  truth_of e s = do
    x ← value_of e s
    as_truth x

  -- the cell of a scalar or an element
  abbrev pub cell_named : Reference → Store → Result Cell Fault
  cell_named r s = do
    is ← subscript_values r.subscripts s
    cell_at r.name is s

  -- ---- items of lists (section 12.8.2)

  -- in a list an array's name stands for all its elements, in column-major order
  abbrev pub item_cells : List ℕ → Subscripts → Store → Result (List Cell) Fault
  item_cells x no_subscripts s = do
    bs ← stored_bounds x s
    Ok (cells_of x bs)
  item_cells x (subscript p ps) s = do
    is ← subscript_values (subscript p ps) s
    c ← cell_at x is s
    Ok (c ∷ [])

  abbrev pub cells_named : Reference → Store → Result (List Cell) Fault
  cells_named r s = item_cells r.name r.subscripts s

  -- an expression with array values
  abbrev pub is_array : Expression → Store → Bool
  is_array e s = d.arrays && not (is_scalar e s.bounds)

  abbrev pub all_elements : Expression → Store → Result (List Value) Fault
  all_elements e s = do
    g ← array_of e s
    v ← in_whole g
    Ok v.values

  abbrev pub item_values : Expression → Store → Result (List Value) Fault
  item_values (Named x ps) s = if is_array (Named x ps) s then all_elements (Named x ps) s else (do
    cs ← item_cells x ps s
    Ok (map s.held cs))
  item_values e s = if is_array e s then all_elements e s else (do
    x ← value_of e s
    Ok (x ∷ []))

  -- ---- loops (section 11.10.3)

  -- the third parameter of a DO, which isn't 0
  abbrev pub increment_of : Expression → Store → Result ℤ Fault
  increment_of e s = do
    z ← number_of e s
    if int_eq z (pos 0) then Err ZeroStep else Ok z

-- a number as an expression has it: exact, and within 128 bits
abbrev pub exact : ℤ → Result ℤ Fault
exact z = if fits 127 z then Ok z else Err Overflow

-- at least 0, and at most 2 ^ 31 - 2
abbrev pub as_count : ℤ → Result ℕ Fault
as_count (pos n) = if nat_le n 2147483646 then Ok n else Err TripCount
as_count (negsuc n) = Ok 0

-- MAX((m2 - m1 + m3) / m3, 0), whose operations are those of an expression
abbrev pub trip_count : ℤ → ℤ → ℤ → Result ℕ Fault
trip_count m1 m2 m3 = do
  a ← exact (m2 -ℤ m1)
  b ← exact (a +ℤ m3)
  q ← exact (int_div b m3)
  as_count q
