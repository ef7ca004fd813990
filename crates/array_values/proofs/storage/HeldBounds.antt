-- What is said of dimensions, or of the ranges of an array without elements, is said of the bounds that hold them.
use Rattle.std.proofs.Common.{◌≡◌, refl, sym, ap, ◌∙◌, subst, ℤ, Bool, false, List, [], ◌∷◌}
use Rattle.std.specs.Prelude.{IsTrue, ◌↔◌}
use Rattle.tree.specs.declared.programs.Dim.{Dim}
use Rattle.meaning.specs.Extents.{elements_of}
use Rattle.machine.specs.Storage.{bounds_list}
use Rattle.array_values.specs.Counts.{ranges_in}
use Rattle.array_values.specs.declared.counts.Ranges.{Ranges}
use Rattle.array_values.specs.declared.storage.bounds.Bounds.{Bounds}
use Rattle.array_values.specs.declared.storage.bounds.Bounds.TheVariants.{Filled, Empty}
use Rattle.array_values.specs.storage.Bounds.{bounds_held}
use Rattle.array_values.proofs.storage.EmptyBounds.{no_scalar}

module _ (b : Bounds) (ds at : List Dim) (e : b ≡ Filled ds) (s : at ≡ ds) where
  pub held_dims : bounds_list at ≡ bounds_held b
  held_dims = ap bounds_list s ∙ sym (ap bounds_held e)

  pub filled : (P : List (ℤ × ℤ) → Type 0) → P (bounds_list at) → P (bounds_held b)
  filled P h = subst P held_dims h

  pub of_dims : (P : List (ℤ × ℤ) → Type 0) → P (bounds_held b) → P (bounds_list at)
  of_dims P h = subst P (sym held_dims) h

module _ (b : Bounds) (rs : Ranges) (e : b ≡ Empty rs) where
  pub empty : (P : List (ℤ × ℤ) → Type 0) → P (ranges_in rs.list) → P (bounds_held b)
  empty P h = subst P (sym (ap bounds_held e)) h

  pub none_held : elements_of (bounds_held b) ≡ 0
  none_held = empty (λ bs. elements_of bs ≡ 0) rs.none

-- a scalar has no dimensions
no_dims : (ds : List Dim) → bounds_list ds ≡ [] → ds ≡ []
no_dims [] h = refl
no_dims (d ∷ ds) h = cc

pub filled_scalar : (b : Bounds) (ds : List Dim) (t : Bool) → b ≡ Filled ds → (IsTrue t ↔ (ds ≡ [])) → (IsTrue t ↔ (bounds_held b ≡ []))
filled_scalar b ds t e h = (λ x. ap bounds_held e ∙ ap bounds_list (h.0 x), λ x. h.1 (no_dims ds (sym (ap bounds_held e) ∙ x)))

pub empty_scalar : (b : Bounds) (rs : Ranges) → b ≡ Empty rs → (IsTrue false ↔ (bounds_held b ≡ []))
empty_scalar b rs e = (λ x. cc, λ x. absurd (no_scalar (bounds_held b) (none_held b rs e) x))
