-- What is selected stands within the bounds.
use Rattle.std.proofs.Common.{◌≡◌, refl, ap, subst, ℤ, pos, Bool, true, false, cond, List, [], ◌∷◌, Result, Ok, Err}
use Rattle.std.specs.Prelude.{◌&&◌}
use Rattle.std.specs.Ordering.{int_eq}
use Rattle.tree.specs.Steps.{◌>>=◌}
use Rattle.tree.specs.declared.ops.Fault.{Fault}
use Rattle.tree.specs.declared.ops.Fault.TheVariants.{Bounds, ZeroStep}
use Rattle.meaning.specs.Sections.{Axis, Fixed, Along, Selector, Index, Triplet, Vector, numbers_of, is_within_bounds, all_stand_in, along, axis_on, axes_on, triplet_numbers}
use Rattle.array_values.specs.declared.failure.Failure.{Failure}
use Rattle.array_values.specs.declared.failure.Failure.TheVariants as failure
use Rattle.array_values.specs.Answers.{Answers}
use Rattle.array_values.specs.storage.array_places.Selecting.{Selects}
use Rattle.array_values.specs.storage.array_places.Places.{AxesStand}

along_by : (b : ℤ × ℤ) (zs : List ℤ) (a : Axis) (t : Bool) → all_stand_in b zs ≡ t → ◌≡◌ {A = Result Axis Fault} (cond t (Ok (Along zs)) (Err Bounds)) (Ok a) → all_stand_in b (numbers_of a) ≡ true
along_by b zs a true h e = (let same : Along zs ≡ a = cc in subst (λ a. all_stand_in b (numbers_of a) ≡ true) same h)
along_by b zs a false h e = cc

along_stands : (b : ℤ × ℤ) (zs : List ℤ) (a : Axis) → along b zs ≡ Ok a → all_stand_in b (numbers_of a) ≡ true
along_stands b zs a e = along_by b zs a (all_stand_in b zs) refl e

index_by : (b : ℤ × ℤ) (z : ℤ) (a : Axis) (t : Bool) → is_within_bounds b z ≡ t → ◌≡◌ {A = Result Axis Fault} (cond t (Ok (Fixed z)) (Err Bounds)) (Ok a) → all_stand_in b (numbers_of a) ≡ true
index_by b z a true h e = (let same : Fixed z ≡ a = cc in subst (λ a. all_stand_in b (numbers_of a) ≡ true) same (ap (λ t. t && true) h))
index_by b z a false h e = cc

triplet_by : (b : ℤ × ℤ) (zs : List ℤ) (a : Axis) (t : Bool) → ◌≡◌ {A = Result Axis Fault} (cond t (Err ZeroStep) (along b zs)) (Ok a) → all_stand_in b (numbers_of a) ≡ true
triplet_by b zs a true e = cc
triplet_by b zs a false e = along_stands b zs a e

axis_stands : (b : ℤ × ℤ) (p : Selector) (a : Axis) → axis_on b p ≡ Ok a → all_stand_in b (numbers_of a) ≡ true
axis_stands b (Index z) a e = index_by b z a (is_within_bounds b z) refl e
axis_stands b (Triplet l u stride) a e = triplet_by b (triplet_numbers l u stride) a (int_eq stride (pos 0)) e
axis_stands b (Vector zs) a e = along_stands b zs a e

pub axes_stand : (bs : List (ℤ × ℤ)) (ps : List Selector) (axes : List Axis) → axes_on bs ps ≡ Ok axes → AxesStand bs axes
axes_stand [] [] axes e = (let same : [] ≡ axes = cc in subst (AxesStand []) same tt)
axes_stand [] (p ∷ ps) axes e = cc
axes_stand (b ∷ bs) [] axes e = cc
axes_stand (b ∷ bs) (p ∷ ps) axes e = by (axis_on b p) (axes_on bs ps) refl refl (λ more. axes_stand bs ps more) e
  where
    by : (q : Result Axis Fault) (r : Result (List Axis) Fault) → axis_on b p ≡ q → axes_on bs ps ≡ r → ((more : List Axis) → axes_on bs ps ≡ Ok more → AxesStand bs more)
        → ◌≡◌ {A = Result (List Axis) Fault} (do a ← q; axes ← r; Ok (a ∷ axes)) (Ok axes) → AxesStand (b ∷ bs) axes
    by (Err f) r h k rest e = cc
    by (Ok a) (Err f) h k rest e = cc
    by (Ok a) (Ok more) h k rest e = (let same : a ∷ more ≡ axes = cc in subst (AxesStand (b ∷ bs)) same (axis_stands b p a h, rest more k))

pub not_selected : {A : Type 0} (view : A → List Axis) (bs : List (ℤ × ℤ)) (q : Result (List Axis) Fault) (e : Failure) → Answers view q (Err e) → Selects bs q (Err e)
not_selected view bs q (failure.Fault f) h = h
not_selected view bs q failure.Memory h = tt
