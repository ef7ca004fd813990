-- The place of a name's element.
use Rattle.std.proofs.Common.{◌≡◌, refl, sym, ap, ◌∙◌, subst, ℕ, ℤ, Bool, true, false, cond, List, Result, Ok, Err, Option, Some, None}
use Rattle.std.specs.Prelude.{is_some}
use Rattle.std.specs.Option.{option_map}
use Rattle.tree.specs.declared.ops.Fault.{Fault}
use Rattle.tree.specs.declared.ops.Fault.TheVariants.{Bounds, Allocated}
use Rattle.meaning.specs.Store.{Cell, cell_at, cell_in, is_within}
use Rattle.machine.specs.Storage.{offset}
use Rattle.array_values.specs.storage.Bounds.{bounds_held}
use Rattle.machine.proofs.StoreLaws.{within_offset}
use Rattle.array_values.specs.declared.storage.slots.Slot.{Slot}
use Rattle.array_values.specs.declared.storage.slots.Place.{Place}
use Rattle.array_values.specs.storage.Slots.{store_among, bounds_among, held_among, place_here, inside, IsNamed, Finds}

pub store-bounds : (vs : List Slot) (x : List ℕ) → (store_among vs).bounds x ≡ bounds_among vs x
unfolding store_among
store-bounds vs x = refl

pub store-held : (vs : List Slot) (c : Cell) → (store_among vs).held c ≡ held_among vs c.name c.subscripts
unfolding store_among
store-held vs c = refl

module _ (vs : List Slot) (x : List ℕ) (is : List ℤ) where
  cell_is : (b : Option (List (ℤ × ℤ))) → bounds_among vs x ≡ b → cell_at x is (store_among vs) ≡ cell_in b x is
  cell_is b e = ap (λ b. cell_in b x is) (store-bounds vs x ∙ e)

  pub unknown_place : bounds_among vs x ≡ None → Finds vs (cell_at x is (store_among vs)) (Err Allocated)
  unknown_place e = subst (λ q. Finds vs q (Err Allocated)) (sym (cell_is None e)) refl

  finds_bounds : (v : Slot) (i : ℕ) → IsNamed vs x i v → (t : Bool) → v.there ≡ t → (o : Option ℕ) → offset (bounds_held v.bounds) is ≡ o
      → (r : Result ℕ Fault) → r ≡ cond t (inside o) (Err Allocated)
      → (q : Result Place Fault) → ((k : ℕ) → r ≡ Ok k → q ≡ Ok (record { slot = i; at = k })) → ((f : Fault) → r ≡ Err f → q ≡ Err f)
      → Finds vs (cell_at x is (store_among vs)) q
  finds_bounds v i h false t o e r g q k f =
      subst (λ c. Finds vs c q) (sym (cell_is None (h.bounds ∙ ap (λ t. cond t (Some (bounds_held v.bounds)) None) t)))
      (subst (Finds vs (Err Allocated)) (sym (f Allocated g)) refl)
  finds_bounds v i h true t None e r g q k f =
      let out : is_within (bounds_held v.bounds) is ≡ false = within_offset (bounds_held v.bounds) is ∙ ap is_some e in
      subst (λ c. Finds vs c q)
      (sym (cell_is (Some (bounds_held v.bounds)) (h.bounds ∙ ap (λ t. cond t (Some (bounds_held v.bounds)) None) t) ∙ ap (λ t. cond t (Ok (record { name = x; subscripts = is })) (Err Bounds)) out))
      (subst (Finds vs (Err Bounds)) (sym (f Bounds g)) refl)
  finds_bounds v i h true t (Some k) e r g q m f =
      let within : is_within (bounds_held v.bounds) is ≡ true = within_offset (bounds_held v.bounds) is ∙ ap is_some e in
      subst (λ c. Finds vs c q)
      (sym (cell_is (Some (bounds_held v.bounds)) (h.bounds ∙ ap (λ t. cond t (Some (bounds_held v.bounds)) None) t) ∙ ap (λ t. cond t (Ok (record { name = x; subscripts = is })) (Err Bounds)) within))
      (subst (Finds vs (Ok (record { name = x; subscripts = is }))) (sym (m k g)) (h.place is ∙ ap (option_map (λ (k : ℕ). let p : Place = record { slot = i; at = k } in p)) e))

  pub place_found : (v : Slot) (i k : ℕ) → IsNamed vs x i v → Ok k ≡ place_here v is → Finds vs (cell_at x is (store_among vs)) (Ok (record { slot = i; at = k }))
  place_found v i k h e = finds_bounds v i h v.there refl (offset (bounds_held v.bounds) is) refl (Ok k) e (Ok (record { slot = i; at = k })) (λ j e. cc) (λ f e. cc)

  pub place_missed : (v : Slot) (i : ℕ) (f : Fault) → IsNamed vs x i v → Err f ≡ place_here v is → Finds vs (cell_at x is (store_among vs)) (Err f)
  place_missed v i f h e = finds_bounds v i h v.there refl (offset (bounds_held v.bounds) is) refl (Err f) e (Err f) (λ j e. cc) (λ g e. cc)
