-- The values of arrays and of parts of them.
use Rattle.std.proofs.Common.{◌≡◌, refl, sym, ap, ◌∙◌, suc, ℕ, ℤ, ◌<◌, Bool, true, false, cond, List, [], ◌∷◌, length, map, Some, None, Result, Ok, Err, arith, pos}
use Rattle.std.specs.Prelude.{All, IsTrue, ◌↔◌}
use Rattle.std.proofs.lemmas.List.{get_or_default}
use mathlib.Core.Path.{ap₂}
use Rattle.tree.specs.Steps.{◌>>=◌}
use Rattle.tree.specs.declared.ops.Value.{Value}
use Rattle.tree.specs.declared.ops.Value.TheVariants.{Int}
use Rattle.tree.specs.declared.ops.Fault.{Fault}
use Rattle.tree.specs.declared.ops.Fault.TheVariants.{Allocated}
use Rattle.meaning.specs.Store.{Cell, bounds_in, stored_bounds, column_major, nought}
use Rattle.meaning.specs.ArrayValues.{Array}
use Rattle.meaning.specs.Sections.{Axis, Selector, axes_on, whole_axes, extents_of, numbers_of}
use Rattle.meaning.specs.Value.{is_bare}
use Rattle.machine.specs.Storage.{offset, value_at}
use Rattle.array_values.specs.storage.Bounds.{bounds_held}
use Rattle.array_values.specs.declared.storage.array_places.selection.Selection.{Selection}
use Rattle.array_values.specs.storage.array_places.Selecting.{IsSelection, SelectsThese}
use Rattle.array_values.specs.storage.array_places.Places.{somes, values_there}
use Rattle.array_values.specs.declared.storage.slots.Slot.{Slot}
use Rattle.array_values.specs.storage.Slots.{store_among, bounds_among, bounds_now, held_here, IsNamed}
use Rattle.array_values.specs.storage.Parts.{array_along, whole_array, part_array, array_here, whole_here, part_here}
use Rattle.array_values.proofs.storage.PlaceLaws.{store-bounds, store-held}

-- ---- one slot

pub rows_held : (v : Slot) (rs : List (List ℤ)) (ks : List ℕ) → map (offset (bounds_held v.bounds)) rs ≡ somes ks → All (λ k. k < length v.values.items) ks
    → map (held_here v) rs ≡ values_there v.values.items ks
rows_held v [] [] e h = refl
rows_held v [] (k ∷ ks) e h = cc
rows_held v (r ∷ rs) [] e h = cc
rows_held v (r ∷ rs) (k ∷ ks) e h =
    let first : offset (bounds_held v.bounds) r ≡ Some k = cc in
    let more : map (offset (bounds_held v.bounds)) rs ≡ somes ks = cc in
    ap₂ (λ (x : Value) xs. x ∷ xs)
    (ap (value_at v.values.items (nought v.kind)) first ∙ get_or_default v.values.items k (nought v.kind) (Int (pos 0)) (h 0 k (omega arith)))
    (rows_held v rs ks more (λ i d l. h (suc i) d (omega arith)))

array_is : (v : Slot) (axes : List Axis) (t : Selection) (xs : List Value) → IsSelection (bounds_held v.bounds) axes t → All (λ k. k < length v.values.items) t.places
    → xs ≡ values_there v.values.items t.places → array_here v axes ≡ record { extents = t.extents; values = xs }
array_is v axes t xs h l e = ap₂ (λ ns (xs : List Value). let a : Array = record { extents = ns; values = xs } in a) (sym h.extents) (rows_held v (column_major (map numbers_of axes)) t.places h.places l ∙ sym e)

pub whole_is : (v : Slot) (t : Selection) (xs : List Value) → v.there ≡ true → IsSelection (bounds_held v.bounds) (whole_axes (bounds_held v.bounds)) t → All (λ k. k < length v.values.items) t.places
    → xs ≡ values_there v.values.items t.places → whole_here v ≡ Ok (record { extents = t.extents; values = xs })
whole_is v t xs b h l e =
    ap (λ b. do bs ← bounds_in (cond b (Some (bounds_held v.bounds)) None); Ok (array_here v (whole_axes bs))) b
    ∙ ap (λ (a : Array). let r : Result Array Fault = Ok a in r) (array_is v (whole_axes (bounds_held v.bounds)) t xs h l e)

pub part_is : (v : Slot) (zs : List Selector) (t : Selection) (xs : List Value) → v.there ≡ true → SelectsThese (bounds_held v.bounds) (axes_on (bounds_held v.bounds) zs) t → All (λ k. k < length v.values.items) t.places
    → xs ≡ values_there v.values.items t.places → part_here v zs ≡ Ok (record { extents = t.extents; values = xs })
part_is v zs t xs b h l e =
    ap (λ b. do bs ← bounds_in (cond b (Some (bounds_held v.bounds)) None); axes ← axes_on bs zs; Ok (array_here v axes)) b
    ∙ ap (λ (q : Result (List Axis) Fault). do axes ← q; Ok (array_here v axes)) h.are
    ∙ ap (λ (a : Array). let r : Result Array Fault = Ok a in r) (array_is v h.axes t xs h.selected l e)

-- a scalar has no dimensions
pub bare_is : (v : Slot) (b : Bool) → v.there ≡ true → (IsTrue b ↔ (bounds_held v.bounds ≡ [])) → b ≡ is_bare (bounds_now v)
bare_is v b t h = by (bounds_held v.bounds) refl b h ∙ ap (λ t. is_bare (cond t (Some (bounds_held v.bounds)) None)) (sym t)
  where
    by : (es : List (ℤ × ℤ)) → bounds_held v.bounds ≡ es → (b : Bool) → (IsTrue b ↔ (bounds_held v.bounds ≡ [])) → b ≡ is_bare (Some (bounds_held v.bounds))
    by [] e b h = h.1 e ∙ sym (ap (λ (bs : List (ℤ × ℤ)). is_bare (Some bs)) e)
    by (d ∷ es) e true h = let gone = h.0 refl in cc
    by (d ∷ es) e false h = sym (ap (λ (bs : List (ℤ × ℤ)). is_bare (Some bs)) e)

-- ---- a name

module _ (vs : List Slot) (x : List ℕ) where
  pub rows_named : (v : Slot) (i : ℕ) → IsNamed vs x i v → (rs : List (List ℤ))
      → map (store_among vs).held (map (λ (is : List ℤ). let c : Cell = record { name = x; subscripts = is } in c) rs) ≡ map (held_here v) rs
  rows_named v i h [] = refl
  rows_named v i h (r ∷ rs) = ap₂ (λ (y : Value) ys. y ∷ ys) (store-held vs (record { name = x; subscripts = r }) ∙ h.held r) (rows_named v i h rs)

  along_is : (v : Slot) (i : ℕ) → IsNamed vs x i v → (axes : List Axis) → array_along x axes (store_among vs) ≡ array_here v axes
  along_is v i h axes = ap (λ (ys : List Value). let a : Array = record { extents = extents_of axes; values = ys } in a) (rows_named v i h (column_major (map numbers_of axes)))

  bounds_are : (v : Slot) (i : ℕ) → IsNamed vs x i v → stored_bounds x (store_among vs) ≡ bounds_in (bounds_now v)
  bounds_are v i h = ap bounds_in (store-bounds vs x ∙ h.bounds)

  no_bounds : bounds_among vs x ≡ None → stored_bounds x (store_among vs) ≡ Err Allocated
  no_bounds e = ap bounds_in (store-bounds vs x ∙ e)

  pub whole_named : (v : Slot) (i : ℕ) → IsNamed vs x i v → whole_array x (store_among vs) ≡ whole_here v
  whole_named v i h =
      ap (λ (q : Result (List (ℤ × ℤ)) Fault). do bs ← q; Ok (array_along x (whole_axes bs) (store_among vs))) (bounds_are v i h)
      ∙ by (bounds_in (bounds_now v))
    where
      by : (q : Result (List (ℤ × ℤ)) Fault) → ◌≡◌ {A = Result Array Fault} (do bs ← q; Ok (array_along x (whole_axes bs) (store_among vs))) (do bs ← q; Ok (array_here v (whole_axes bs)))
      by (Ok bs) = ap (λ (a : Array). let r : Result Array Fault = Ok a in r) (along_is v i h (whole_axes bs))
      by (Err f) = refl

  pub part_named : (v : Slot) (i : ℕ) (zs : List Selector) → IsNamed vs x i v → part_array x zs (store_among vs) ≡ part_here v zs
  part_named v i zs h =
      ap (λ (q : Result (List (ℤ × ℤ)) Fault). do bs ← q; axes ← axes_on bs zs; Ok (array_along x axes (store_among vs))) (bounds_are v i h)
      ∙ by (bounds_in (bounds_now v))
    where
      on : (q : Result (List Axis) Fault) → ◌≡◌ {A = Result Array Fault} (do axes ← q; Ok (array_along x axes (store_among vs))) (do axes ← q; Ok (array_here v axes))
      on (Ok axes) = ap (λ (a : Array). let r : Result Array Fault = Ok a in r) (along_is v i h axes)
      on (Err f) = refl

      by : (q : Result (List (ℤ × ℤ)) Fault) → ◌≡◌ {A = Result Array Fault} (do bs ← q; axes ← axes_on bs zs; Ok (array_along x axes (store_among vs))) (do bs ← q; axes ← axes_on bs zs; Ok (array_here v axes))
      by (Ok bs) = on (axes_on bs zs)
      by (Err f) = refl

  pub whole_unknown : bounds_among vs x ≡ None → whole_array x (store_among vs) ≡ Err Allocated
  whole_unknown e = ap (λ (q : Result (List (ℤ × ℤ)) Fault). do bs ← q; Ok (array_along x (whole_axes bs) (store_among vs))) (no_bounds e)

  pub part_unknown : (zs : List Selector) → bounds_among vs x ≡ None → part_array x zs (store_among vs) ≡ Err Allocated
  part_unknown zs e = ap (λ (q : Result (List (ℤ × ℤ)) Fault). do bs ← q; axes ← axes_on bs zs; Ok (array_along x axes (store_among vs))) (no_bounds e)

  pub scalar_named : (v : Slot) (i : ℕ) → IsNamed vs x i v → is_bare (bounds_now v) ≡ is_bare ((store_among vs).bounds x)
  scalar_named v i h = sym (ap is_bare (store-bounds vs x ∙ h.bounds))

  pub scalar_unknown : bounds_among vs x ≡ None → false ≡ is_bare ((store_among vs).bounds x)
  scalar_unknown e = sym (ap is_bare (store-bounds vs x ∙ e))
