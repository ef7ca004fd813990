-- What cells and parts of arrays hold, under the variables of loops.
use Rattle.std.proofs.Common.{◌≡◌, refl, sym, ap, ◌∙◌, subst, ℕ, ℤ, Bool, true, false, cond, List, [], ◌∷◌, ◌++◌, map, Option, Some, None, Result, Ok, Err}
use Rattle.std.specs.List.{flat_map}
use Rattle.std.specs.Prelude.{◌==◌}
use Rattle.std.proofs.Common.{length, arith}
use Rattle.std.proofs.lemmas.Bool.{eqb-true}
use Rattle.std.proofs.lemmas.List.{map-append}
use mathlib.Core.Path.{ap₂}
use Rattle.tree.specs.Steps.{◌>>=◌}
use Rattle.tree.specs.declared.ops.Value.{Value}
use Rattle.tree.specs.declared.ops.Value.TheVariants.{Int}
use Rattle.tree.specs.declared.ops.Fault.{Fault}
use Rattle.tree.specs.declared.ops.Fault.TheVariants.{Allocated, Bounds}
use Rattle.meaning.specs.ArrayValues.{Array, scalar_array}
use Rattle.meaning.specs.Sections.{Axis, Selector, axis_on, axes_on, whole_axes, extents_of, numbers_of, Along}
use Rattle.meaning.specs.Store.{Store, Cell, cell_at, cell_in, is_within, bounds_in, stored_bounds, column_major, numbers_from, size_of}
use Rattle.meaning.specs.Value.{is_bare}
use Rattle.array_values.specs.declared.storage.slots.Slot.{Slot}
use Rattle.array_values.specs.declared.storage.slots.Place.{Place}
use Rattle.array_values.specs.storage.Slots.{store_among, held_among, place_among, Finds}
use Rattle.array_values.specs.storage.Parts.{array_along, whole_array, part_array}
use Rattle.array_values.proofs.storage.PlaceLaws.{store-held}
use Rattle.array_expressions.specs.declared.locals.Local.{Local}
use Rattle.array_expressions.specs.Locals.{scalar_cell, bound_all, Holds}
use Rattle.array_expressions.specs.Scopes.{held_at}
use Rattle.array_expressions.proofs.LocalLaws.{bounds_kept, element_kept}

-- ---- cells

cell_known : (b : Option (List (ℤ × ℤ))) (x : List ℕ) (is : List ℤ) (c : Cell) → cell_in b x is ≡ Ok c → c ≡ record { name = x; subscripts = is }
cell_known None x is c e = cc
cell_known (Some bs) x is c e = by (is_within bs is) e
  where
    by : (t : Bool) → ◌≡◌ {A = Result Cell Fault} (cond t (Ok (record { name = x; subscripts = is })) (Err Bounds)) (Ok c) → c ≡ record { name = x; subscripts = is }
    by true e = sym (ap (λ (r : Result Cell Fault). elim r as (λ _. Cell) [ Ok d ↦ d | Err f ↦ c ]) e)
    by false e = cc

module _ (ls : List Local) (vs : List Slot) (x : List ℕ) (is : List ℤ) where
  same_cells : cell_at x is (bound_all ls (store_among vs)) ≡ cell_at x is (store_among vs)
  same_cells = ap (λ (b : List ℕ → Option (List (ℤ × ℤ))). cell_in (b x) x is) (bounds_kept ls (store_among vs))

  pub held_fault : (f : Fault) → Finds vs (cell_at x is (store_among vs)) (Err f) → Err f ≡ held_at x is (bound_all ls (store_among vs))
  held_fault f h = sym (ap (λ (q : Result Cell Fault). do c ← q; Ok ((bound_all ls (store_among vs)).held c)) same_cells ∙ by (cell_at x is (store_among vs)) h)
    where
      by : (q : Result Cell Fault) → Finds vs q (Err f) → ◌≡◌ {A = Result Value Fault} (do c ← q; Ok ((bound_all ls (store_among vs)).held c)) (Err f)
      by (Ok c) h = absurd h
      by (Err g) h = ap (λ f. let r : Result Value Fault = Err f in r) h

  -- a cell was found, and holds this
  pub held_found : (p : Place) (v : Value) → Finds vs (cell_at x is (store_among vs)) (Ok p)
      → (place_among vs x is ≡ Some p → (bound_all ls (store_among vs)).held (record { name = x; subscripts = is }) ≡ v)
      → Ok v ≡ held_at x is (bound_all ls (store_among vs))
  held_found p v h k = sym (ap (λ (q : Result Cell Fault). do c ← q; Ok ((bound_all ls (store_among vs)).held c)) same_cells ∙ by (cell_at x is (store_among vs)) refl h)
    where
      by : (q : Result Cell Fault) → cell_at x is (store_among vs) ≡ q → Finds vs q (Ok p) → ◌≡◌ {A = Result Value Fault} (do c ← q; Ok ((bound_all ls (store_among vs)).held c)) (Ok v)
      by (Ok c) e h =
          let known : c ≡ record { name = x; subscripts = is } = cell_known ((store_among vs).bounds x) x is c e in
          ap (λ c. let r : Result Value Fault = Ok ((bound_all ls (store_among vs)).held c) in r) known
          ∙ ap (λ (v : Value). let r : Result Value Fault = Ok v in r) (k (subst (λ (c : Cell). place_among vs c.name c.subscripts ≡ Some p) known h))
      by (Err f) e h = absurd h

pub element_held : (ls : List Local) (vs : List Slot) (x : List ℕ) (is : List ℤ) (v : Value) → (is ≡ [] → ⊥) → held_among vs x is ≡ v
    → (bound_all ls (store_among vs)).held (record { name = x; subscripts = is }) ≡ v
element_held ls vs x [] v h e = absurd (h refl)
element_held ls vs x (i ∷ is) v h e = element_kept ls (store_among vs) x i is ∙ store-held vs (record { name = x; subscripts = i ∷ is }) ∙ e

pub scalar_held : (ls : List Local) (vs : List Slot) (x : List ℕ) (is : List ℤ) (v : Value) → is ≡ [] → Holds ls x None → held_among vs x is ≡ v
    → (bound_all ls (store_among vs)).held (record { name = x; subscripts = is }) ≡ v
scalar_held ls vs x [] v n h e = h (store_among vs) ∙ store-held vs (scalar_cell x) ∙ e
scalar_held ls vs x (i ∷ is) v n h e = cc

pub local_held : (ls : List Local) (vs : List Slot) (x : List ℕ) (is : List ℤ) (z : ℤ) → is ≡ [] → Holds ls x (Some z)
    → (bound_all ls (store_among vs)).held (record { name = x; subscripts = is }) ≡ Int z
local_held ls vs x [] z n h = h (store_among vs)
local_held ls vs x (i ∷ is) z n h = cc

-- ---- parts of arrays

module _ (ls : List Local) (s : Store) (x : List ℕ) where
  row_kept : (r : List ℤ) (zs : List ℤ)
      → map (bound_all ls s).held (map (λ (is : List ℤ). let c : Cell = record { name = x; subscripts = is } in c) (map (λ z. z ∷ r) zs))
      ≡ map s.held (map (λ (is : List ℤ). let c : Cell = record { name = x; subscripts = is } in c) (map (λ z. z ∷ r) zs))
  row_kept r [] = refl
  row_kept r (z ∷ zs) = ap₂ (λ (v : Value) vs. v ∷ vs) (element_kept ls s x z r) (row_kept r zs)

  rows_kept : (zs : List ℤ) (rs : List (List ℤ))
      → map (bound_all ls s).held (map (λ (is : List ℤ). let c : Cell = record { name = x; subscripts = is } in c) (flat_map (λ r. map (λ z. z ∷ r) zs) rs))
      ≡ map s.held (map (λ (is : List ℤ). let c : Cell = record { name = x; subscripts = is } in c) (flat_map (λ r. map (λ z. z ∷ r) zs) rs))
  rows_kept zs [] = refl
  rows_kept zs (r ∷ rs) =
      split (bound_all ls s) ∙ ap₂ (λ (vs : List Value) ws. vs ++ ws) (row_kept r zs) (rows_kept zs rs) ∙ sym (split s)
    where
      mk : List ℤ → Cell
      mk is = record { name = x; subscripts = is }

      split : (t : Store) → map t.held (map (λ (is : List ℤ). let c : Cell = record { name = x; subscripts = is } in c) (map (λ z. z ∷ r) zs ++ flat_map (λ r. map (λ z. z ∷ r) zs) rs))
          ≡ map t.held (map (λ (is : List ℤ). let c : Cell = record { name = x; subscripts = is } in c) (map (λ z. z ∷ r) zs)) ++ map t.held (map (λ (is : List ℤ). let c : Cell = record { name = x; subscripts = is } in c) (flat_map (λ r. map (λ z. z ∷ r) zs) rs))
      split t = ap (map t.held) (map-append (λ (is : List ℤ). let c : Cell = record { name = x; subscripts = is } in c) (map (λ z. z ∷ r) zs) (flat_map (λ r. map (λ z. z ∷ r) zs) rs))
          ∙ map-append t.held (map (λ (is : List ℤ). let c : Cell = record { name = x; subscripts = is } in c) (map (λ z. z ∷ r) zs)) (map (λ (is : List ℤ). let c : Cell = record { name = x; subscripts = is } in c) (flat_map (λ r. map (λ z. z ∷ r) zs) rs))

  along_kept : (a : Axis) (axes : List Axis) → array_along x (a ∷ axes) (bound_all ls s) ≡ array_along x (a ∷ axes) s
  along_kept a axes = ap (λ (vs : List Value). let b : Array = record { extents = extents_of (a ∷ axes); values = vs } in b) (rows_kept (numbers_of a) (column_major (map numbers_of axes)))

  part_by : (b : Option (List (ℤ × ℤ))) (zs : List Selector) → (zs ≡ [] → ⊥)
      → ◌≡◌ {A = Result Array Fault} (do bs ← bounds_in b; axes ← axes_on bs zs; Ok (array_along x axes (bound_all ls s))) (do bs ← bounds_in b; axes ← axes_on bs zs; Ok (array_along x axes s))
  part_by None zs n = refl
  part_by (Some []) [] n = absurd (n refl)
  part_by (Some []) (z ∷ zs) n = refl
  part_by (Some (b ∷ bs)) [] n = refl
  part_by (Some (b ∷ bs)) (z ∷ zs) n = by (axis_on b z) (axes_on bs zs)
    where
      by : (q : Result Axis Fault) (p : Result (List Axis) Fault)
          → ◌≡◌ {A = Result Array Fault} (do axes ← (do a ← q; axes ← p; Ok (a ∷ axes)); Ok (array_along x axes (bound_all ls s))) (do axes ← (do a ← q; axes ← p; Ok (a ∷ axes)); Ok (array_along x axes s))
      by (Err f) p = refl
      by (Ok a) (Err f) = refl
      by (Ok a) (Ok axes) = ap (λ (b : Array). let r : Result Array Fault = Ok b in r) (along_kept a axes)

  pub part_kept : (zs : List Selector) → (zs ≡ [] → ⊥) → part_array x zs (bound_all ls s) ≡ part_array x zs s
  part_kept zs n =
      ap (λ (f : List ℕ → Option (List (ℤ × ℤ))). do bs ← bounds_in (f x); axes ← axes_on bs zs; Ok (array_along x axes (bound_all ls s))) (bounds_kept ls s)
      ∙ part_by (s.bounds x) zs n

  whole_by : (b : Option (List (ℤ × ℤ))) → is_bare b ≡ false
      → ◌≡◌ {A = Result Array Fault} (do bs ← bounds_in b; Ok (array_along x (whole_axes bs) (bound_all ls s))) (do bs ← bounds_in b; Ok (array_along x (whole_axes bs) s))
  whole_by None n = refl
  whole_by (Some []) n = cc
  whole_by (Some (b ∷ bs)) n = ap (λ (b : Array). let r : Result Array Fault = Ok b in r) (along_kept (Along (numbers_from b.0 (size_of b))) (whole_axes bs))

  -- an array isn't the variable of a loop
  pub whole_kept : is_bare (s.bounds x) ≡ false → whole_array x (bound_all ls s) ≡ whole_array x s
  whole_kept n =
      ap (λ (f : List ℕ → Option (List (ℤ × ℤ))). do bs ← bounds_in (f x); Ok (array_along x (whole_axes bs) (bound_all ls s))) (bounds_kept ls s)
      ∙ whole_by (s.bounds x) n

  scalar_by : (b : Option (List (ℤ × ℤ))) (t : Store) → is_bare b ≡ true
      → ◌≡◌ {A = Result Array Fault} (do bs ← bounds_in b; Ok (array_along x (whole_axes bs) t)) (do v ← (do c ← cell_in b x []; Ok (t.held c)); Ok (scalar_array v))
  scalar_by None t n = cc
  scalar_by (Some []) t n = refl
  scalar_by (Some (b ∷ bs)) t n = cc

  -- a scalar has one value
  pub scalar_whole : is_bare (s.bounds x) ≡ true → whole_array x (bound_all ls s) ≡ (do v ← held_at x [] (bound_all ls s); Ok (scalar_array v))
  scalar_whole n = scalar_by ((bound_all ls s).bounds x) (bound_all ls s) (ap (λ (f : List ℕ → Option (List (ℤ × ℤ))). is_bare (f x)) (bounds_kept ls s) ∙ n)

-- ---- whether there are subscripts

pub no_numbers : (is : List ℤ) (b : Bool) → b ≡ (length is == 0) → b ≡ true → is ≡ []
no_numbers [] b e t = refl
no_numbers (i ∷ is) b e t = absurd (let h : length (i ∷ is) ≡ 0 = eqb-true _ _ (sym e ∙ t) in omega arith)

pub some_numbers : (is : List ℤ) (b : Bool) → b ≡ (length is == 0) → b ≡ false → is ≡ [] → ⊥
some_numbers [] b e t h = cc
some_numbers (i ∷ is) b e t h = cc
