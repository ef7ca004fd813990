-- The lines of a name, which tell the values of its elements.
use Rattle.std.proofs.Common.{◌≡◌, refl, sym, ap, ◌∙◌, subst, ℕ, ℤ, pos, ◌<◌, Bool, true, false, cond, List, [], length, map, Some, None, arith}
use Rattle.std.specs.Prelude.{All, IsTrue, ◌↔◌}
use Rattle.std.proofs.lemmas.Simd.{map-map}
use Rattle.tree.specs.Names.{IsSourceName}
use Rattle.tree.specs.declared.ops.Value.TheVariants.{Int}
use Rattle.meaning.specs.ArrayValues.{counted}
use Rattle.meaning.specs.Sections.{Axis, numbers_of, whole_axes}
use Rattle.meaning.specs.Steps.{is_source_name, lines_of_cells, lines_of_name}
use Rattle.meaning.specs.Store.{Store, numbers_from, size_of, column_major, cells_of}
use Rattle.meaning.specs.Extents.{elements_of}
use Rattle.machine.specs.Storage.{offset, bounds_list}
use Rattle.tree.specs.declared.programs.Dim.{Dim}
use Rattle.array_values.specs.declared.counts.Ranges.{Ranges}
use Rattle.array_values.specs.declared.storage.bounds.Bounds.TheVariants.{Filled, Empty}
use Rattle.array_values.specs.storage.Bounds.{bounds_held}
use Rattle.machine.proofs.SourceNames.{source_is}
use Rattle.array_values.specs.storage.array_places.Places.{somes, values_there}
use Rattle.array_values.proofs.storage.ArrayPlaces.Stages.{by_places}
use Rattle.array_values.proofs.storage.ArrayPlaces.Whole.{whole_places, counted_below}
use Rattle.array_values.specs.declared.storage.slots.Slot.{Slot}
use Rattle.array_values.specs.storage.Slots.{store_among, bounds_among, bounds_now, IsNamed}
use Rattle.array_values.proofs.storage.PlaceLaws.{store-bounds}
use Rattle.array_values.proofs.storage.PartLaws.{rows_held, rows_named}
use Rattle.array_values.proofs.storage.EmptyBounds.{no_lines}
use Rattle.array_values.proofs.storage.HeldBounds.{held_dims, none_held}

module _ (vs : List Slot) (x : List ℕ) (v : Slot) (i : ℕ) (h : IsNamed vs x i v) where
  pub all_values : length v.values.items ≡ elements_of (bounds_held v.bounds) → map (store_among vs).held (cells_of x (bounds_held v.bounds)) ≡ v.values.items
  all_values l =
      let bs = bounds_held v.bounds in
      let rs = column_major (map (λ (b : ℤ × ℤ). numbers_from b.0 (size_of b)) bs) in
      let same : column_major (map numbers_of (whole_axes bs)) ≡ rs = ap column_major (map-map numbers_of (λ (b : ℤ × ℤ). let a : Axis = Axis.Along (numbers_from b.0 (size_of b)) in a) bs) in
      rows_named vs x v i h rs
      ∙ rows_held v rs (counted 0 (elements_of bs))
      (subst (λ rs. map (offset bs) rs ≡ somes (counted 0 (elements_of bs))) same (whole_places bs))
      (subst (λ n. All (λ k. k < n) (counted 0 (elements_of bs))) (sym l) (counted_below (elements_of bs) 0 (elements_of bs) (omega arith)))
      ∙ ap (λ n. values_there v.values.items (counted 0 n)) (sym l)
      ∙ by_places v.values.items (Int (pos 0))

  pub named_lines : (b : Bool) → (IsTrue b ↔ IsSourceName x) → b ≡ true → lines_of_name x (store_among vs) ≡ lines_of_cells x (bounds_now v) (store_among vs)
  named_lines b s e =
      ap (λ t. cond t (lines_of_cells x ((store_among vs).bounds x) (store_among vs)) []) (source_is x b s ∙ e)
      ∙ ap (λ o. lines_of_cells x o (store_among vs)) (store-bounds vs x ∙ h.bounds)

module _ (vs : List Slot) (x : List ℕ) where
  pub other_lines : (b : Bool) → (IsTrue b ↔ IsSourceName x) → b ≡ false → lines_of_name x (store_among vs) ≡ []
  other_lines b s e = ap (λ t. cond t (lines_of_cells x ((store_among vs).bounds x) (store_among vs)) []) (source_is x b s ∙ e)

  pub missing_lines : bounds_among vs x ≡ None → lines_of_name x (store_among vs) ≡ []
  missing_lines e = by (is_source_name x)
    where
      by : (t : Bool) → cond t (lines_of_cells x ((store_among vs).bounds x) (store_among vs)) [] ≡ []
      by true = ap (λ o. lines_of_cells x o (store_among vs)) (store-bounds vs x ∙ e)
      by false = refl

-- of one slot that has elements now, or would have
module _ (x : List ℕ) (v : Slot) (s : Store) (t : v.there ≡ true) where
  pub filled_lines : (ds at : List Dim) → v.bounds ≡ Filled ds → at ≡ ds → lines_of_cells x (Some (bounds_list at)) s ≡ lines_of_cells x (bounds_now v) s
  filled_lines ds at e d =
      ap (λ bs. lines_of_cells x (Some bs) s) (held_dims v.bounds ds at e d) ∙ sym (ap (λ t. lines_of_cells x (cond t (Some (bounds_held v.bounds)) None) s) t)

  pub empty_lines : (rs : Ranges) → v.bounds ≡ Empty rs → lines_of_cells x (bounds_now v) s ≡ []
  empty_lines rs e =
      ap (λ t. lines_of_cells x (cond t (Some (bounds_held v.bounds)) None) s) t ∙ no_lines x (bounds_held v.bounds) s (none_held v.bounds rs e)
