-- What references select of a name.
use Rattle.std.proofs.Common.{◌≡◌, refl, sym, ap, ◌∙◌, ℕ, ℤ, ◌<◌, true, false, cond, List, get_or, Some, None, Result, Ok, Err, arith}
use Rattle.std.specs.Option.{option_map}
use Rattle.std.proofs.lemmas.List.{get_or_default}
use Rattle.tree.specs.Steps.{◌>>=◌}
use Rattle.tree.specs.declared.ops.Fault.{Fault}
use Rattle.tree.specs.declared.ops.Fault.TheVariants.{Allocated}
use Rattle.meaning.specs.Store.{bounds_in}
use Rattle.meaning.specs.Sections.{Axis, whole_axes}
use Rattle.meaning.specs.Extents.{elements_of}
use Rattle.machine.specs.Storage.{offset}
use Rattle.array_values.specs.storage.Bounds.{bounds_held}
use Rattle.array_values.specs.declared.failure.Failure.{Failure}
use Rattle.array_values.specs.declared.failure.Failure.TheVariants as failure
use Rattle.array_values.specs.declared.storage.array_places.selection.Selection.{Selection}
use Rattle.array_values.specs.storage.array_places.Selecting.{IsSelection, Selects}
use Rattle.array_values.specs.declared.storage.slots.Slot.{Slot}
use Rattle.array_values.specs.declared.storage.slots.Place.{Place}
use Rattle.array_values.specs.storage.Slots.{store_among, bounds_among, place_among, Has, IsWithin}
use Rattle.array_values.specs.storage.Targets.{axes_within, all_of, place_of, TargetsThese, Targets, PicksThese, picked_here, Picks}
use Rattle.array_values.proofs.storage.PlaceLaws.{store-bounds}

-- ---- one slot

pub none_picked : (v : Slot) (f : List (ℤ × ℤ) → Result (List Axis) Fault) → v.there ≡ false → picked_here f v ≡ Err Allocated
none_picked v f e = ap (λ t. bounds_in (cond t (Some (bounds_held v.bounds)) None) >>= f) e

picked_there : (v : Slot) (f : List (ℤ × ℤ) → Result (List Axis) Fault) → v.there ≡ true → picked_here f v ≡ f (bounds_held v.bounds)
picked_there v f e = ap (λ t. bounds_in (cond t (Some (bounds_held v.bounds)) None) >>= f) e

pub picked_all : (v : Slot) (t : Selection) → v.there ≡ true → IsSelection (bounds_held v.bounds) (whole_axes (bounds_held v.bounds)) t → PicksThese v all_of t
picked_all v t e h = record { there = e; selected = record { axes = whole_axes (bounds_held v.bounds); are = refl; selected = h } }

pub picked : (v : Slot) (f : List (ℤ × ℤ) → Result (List Axis) Fault) (r : Result Selection Failure) → v.there ≡ true → Selects (bounds_held v.bounds) (f (bounds_held v.bounds)) r → Picks v f r
picked v f (Ok t) e h = record { there = e; selected = h }
picked v f (Err (failure.Fault g)) e h = picked_there v f e ∙ h
picked v f (Err failure.Memory) e h = tt

-- ---- a name

module _ (vs : List Slot) (x : List ℕ) (f : List (ℤ × ℤ) → Result (List Axis) Fault) where
  pub none_targeted : bounds_among vs x ≡ None → axes_within f x (store_among vs) ≡ Err Allocated
  none_targeted e = ap (λ b. bounds_in b >>= f) (store-bounds vs x ∙ e)

  module _ (i : ℕ) (h : Has vs x i) (v : Slot) (g : v ≡ get_or vs i v) where
    axes_here : axes_within f x (store_among vs) ≡ picked_here f v
    axes_here = ap (λ b. bounds_in b >>= f) (store-bounds vs x ∙ (h.named v g).bounds)

    pub target_missed : (e : Failure) → Picks v f (Err e) → Targets vs x (axes_within f x (store_among vs)) (Err e)
    target_missed (failure.Fault e) p = axes_here ∙ p
    target_missed failure.Memory p = tt

    one_slot : (w : Slot) → w ≡ get_or vs i w → w ≡ v
    one_slot w e = e ∙ get_or_default vs i w v h.within ∙ sym g

    within_here : (k : ℕ) → k < elements_of (bounds_held v.bounds) → IsWithin vs (place_of i k)
    within_here k l = record {
      slot = h.within;
      at = λ w e.
          let same = one_slot w e in
          let full = w.filled in
          let own = ap (λ (u : Slot). elements_of (bounds_held u.bounds)) same in
          omega arith;
    }

    place_here : (is : List ℤ) (k : ℕ) → offset (bounds_held v.bounds) is ≡ Some k → place_among vs x is ≡ Some (place_of i k)
    place_here is k e = (h.named v g).place is ∙ ap (option_map (λ (k : ℕ). let p : Place = record { slot = i; at = k } in p)) e

    pub targeted : (t : Selection) → PicksThese v f t → TargetsThese vs x (axes_within f x (store_among vs)) (record { slot = i; selected = t })
    targeted t p = record {
      axes = p.selected.axes;
      are = axes_here ∙ picked_there v f p.there ∙ p.selected.are;
      target = record {
        bounds = bounds_held v.bounds;
        selected = p.selected.selected;
        places = place_here;
        within = within_here;
      };
    }
