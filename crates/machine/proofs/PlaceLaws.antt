-- The place of a name's element.
use Rattle.std.proofs.Common.{◌≡◌, refl, sym, ap, ◌∙◌, subst, ℕ, ℤ, ◌+◌, ◌<◌, List, Ok, Err, Some, None, cond, true, false}
use Rattle.std.proofs.Common.{arith}
use Rattle.std.specs.Prelude.{is_some}
use Rattle.std.specs.Option.{option_map}
use Rattle.tree.specs.Plain.{Declaration}
use Rattle.tree.specs.declared.ops.Value.{Value}
use Rattle.tree.specs.declared.ops.Fault.TheVariants.{Bounds, Allocated}
use Rattle.meaning.specs.Store.{cell_at, cell_in, is_within, opening_bounds}
use Rattle.machine.specs.declared.variables.Variable.{Variable}
use Rattle.machine.specs.Storage.{store_of, offset, total}
use Rattle.machine.specs.Stored.{Finds, IsOf, bounds_here}
use Rattle.machine.proofs.StoreLaws.{store-bounds, within_offset, offset_below}

module _ (ds : List Declaration) (vs : List Value) (x : List ℕ) (is : List ℤ) where
  pub unknown_place : opening_bounds ds x ≡ None → Finds ds (cell_at x is (store_of ds vs)) (Err Allocated)
  unknown_place e = subst (λ q. Finds ds q (Err Allocated))
      (sym (ap (λ b. cell_in b x is) (store-bounds ds vs x ∙ e))) refl

  pub outside_place : (v : Variable) → IsOf ds x v → offset (bounds_here v) is ≡ None
      → Finds ds (cell_at x is (store_of ds vs)) (Err Bounds)
  outside_place v h e =
      let out : is_within (bounds_here v) is ≡ false = within_offset (bounds_here v) is ∙ ap is_some e in
      subst (λ q. Finds ds q (Err Bounds))
      (sym (ap (λ b. cell_in b x is) (store-bounds ds vs x ∙ h.bounds)
      ∙ ap (λ t. cond t (Ok (record { name = x; subscripts = is })) (Err Bounds)) out)) refl

  pub inside_place : (v : Variable) (k : ℕ) → IsOf ds x v → offset (bounds_here v) is ≡ Some k
      → Finds ds (cell_at x is (store_of ds vs)) (Ok (v.start + k))
  inside_place v k h e =
      let inside : is_within (bounds_here v) is ≡ true = within_offset (bounds_here v) is ∙ ap is_some e in
      subst (λ q. Finds ds q (Ok (v.start + k)))
      (sym (ap (λ b. cell_in b x is) (store-bounds ds vs x ∙ h.bounds)
      ∙ ap (λ t. cond t (Ok (record { name = x; subscripts = is })) (Err Bounds)) inside))
      (h.place is ∙ ap (option_map (λ j. v.start + j)) e)

pub place_within : (ds : List Declaration) (x : List ℕ) (is : List ℤ) (v : Variable) (k : ℕ) → IsOf ds x v
    → offset (bounds_here v) is ≡ Some k → v.start + k < total ds
place_within ds x is v k h e = let below = offset_below (bounds_here v) is k e in omega (arith, h.fits)

pub ruleset place_laws = (unknown_place, outside_place, inside_place, place_within)
