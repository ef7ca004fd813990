-- Axes, dimension by dimension.
use Rattle.std.proofs.Common.{◌≡◌, refl, sym, ap, ◌∙◌, ℕ, ◌+◌, ◌<◌, ◌≤◌, List, [], ◌∷◌, ◌++◌, map, drop, length, get_or, Result, Ok, Err, append_assoc}
use Rattle.std.proofs.lemmas.List.{append-nil, at_drop_more, at_drop_all}
use Rattle.tree.specs.Steps.{◌>>=◌}
use Rattle.tree.specs.View.{bounds_of}
use Rattle.tree.specs.declared.ops.Fault.{Fault}
use Rattle.tree.specs.declared.ops.Fault.TheVariants.{Bounds}
use Rattle.tree.specs.declared.programs.Dim.{Dim}
use Rattle.meaning.specs.Sections as meaning
use Rattle.meaning.specs.Sections.{axis_on, axes_on, extents_of}
use Rattle.array_values.specs.declared.sections.Selector.{Selector}
use Rattle.array_values.specs.declared.sections.Axis.{Axis}
use Rattle.array_values.specs.declared.failure.Failure.{Failure}
use Rattle.array_values.specs.declared.failure.Failure.TheVariants as failure
use Rattle.array_values.specs.Answers.{Answers}
use Rattle.array_values.specs.Selections.{selector_in, axis_in}

-- where some axes are known and these dimensions are left
unfoldable pub left_axes : List meaning.Axis → List Dim → List Selector → Result (List meaning.Axis) Fault
left_axes done ds ps = do
  more ← axes_on (map bounds_of ds) (map selector_in ps)
  Ok (done ++ more)

pub axes_begun : (ds : List Dim) (ps : List Selector) → axes_on (map bounds_of ds) (map selector_in ps) ≡ left_axes [] ds ps
unfolding left_axes
axes_begun ds ps = by (axes_on (map bounds_of ds) (map selector_in ps))
  where
    by : (q : Result (List meaning.Axis) Fault) → q ≡ (q >>= λ ys. Ok ([] ++ ys))
    by (Ok ys) = refl
    by (Err e) = refl

fault_here : (done : List meaning.Axis) (d : Dim) (ds : List Dim) (p : Selector) (ps : List Selector) (f : Fault)
    → axis_on (bounds_of d) (selector_in p) ≡ Err f → left_axes done (d ∷ ds) (p ∷ ps) ≡ Err f
unfolding left_axes
fault_here done d ds p ps f h = ap (λ (r : Result meaning.Axis Fault). do more ← (do a ← r; axes ← axes_on (map bounds_of ds) (map selector_in ps); Ok (a ∷ axes)); Ok (done ++ more)) h

more_here : (done : List meaning.Axis) (d : Dim) (ds : List Dim) (p : Selector) (ps : List Selector) (a : meaning.Axis)
    → axis_on (bounds_of d) (selector_in p) ≡ Ok a → left_axes done (d ∷ ds) (p ∷ ps) ≡ left_axes (done ++ a ∷ []) ds ps
unfolding left_axes
more_here done d ds p ps a h =
    ap (λ (r : Result meaning.Axis Fault). do more ← (do a ← r; axes ← axes_on (map bounds_of ds) (map selector_in ps); Ok (a ∷ axes)); Ok (done ++ more)) h
    ∙ by (axes_on (map bounds_of ds) (map selector_in ps))
  where
    by : (q : Result (List meaning.Axis) Fault) → ◌≡◌ {A = Result (List meaning.Axis) Fault} (do more ← (do axes ← q; Ok (a ∷ axes)); Ok (done ++ more)) (do more ← q; Ok ((done ++ a ∷ []) ++ more))
    by (Ok ys) = ap (λ ys. let r : Result (List meaning.Axis) Fault = Ok ys in r) (sym (append_assoc done (a ∷ []) ys))
    by (Err e) = refl

none_here : (done : List meaning.Axis) (d : Dim) (ds : List Dim) → left_axes done (d ∷ ds) [] ≡ Err Bounds
unfolding left_axes
none_here done d ds = refl

many_here : (done : List meaning.Axis) (p : Selector) (ps : List Selector) → left_axes done [] (p ∷ ps) ≡ Err Bounds
unfolding left_axes
many_here done p ps = refl

end_here : (done : List meaning.Axis) → left_axes done [] [] ≡ Ok done
unfolding left_axes
end_here done = ap (λ ys. let r : Result (List meaning.Axis) Fault = Ok ys in r) (append-nil done)

module _ (whole : Result (List meaning.Axis) Fault) (done : List meaning.Axis) (ds : List Dim) (ps : List Selector) (i : ℕ) (so_far : whole ≡ left_axes done (drop i ds) (drop i ps)) where
  pub axes_fault : (d : Dim) (p : Selector) (f : Fault) → i < length ds → i < length ps → axis_on (bounds_of (get_or ds i d)) (selector_in (get_or ps i p)) ≡ Err f → whole ≡ Err f
  axes_fault d p f l m h = so_far ∙ at_drop_more (λ ds. left_axes done ds (drop i ps)) ds i d l ∙ at_drop_more (λ ps. left_axes done (get_or ds i d ∷ drop (i + 1) ds) ps) ps i p m
      ∙ fault_here done (get_or ds i d) (drop (i + 1) ds) (get_or ps i p) (drop (i + 1) ps) f h

  pub axes_more : (d : Dim) (p : Selector) (a : meaning.Axis) → i < length ds → i < length ps → axis_on (bounds_of (get_or ds i d)) (selector_in (get_or ps i p)) ≡ Ok a
      → whole ≡ left_axes (done ++ a ∷ []) (drop (i + 1) ds) (drop (i + 1) ps)
  axes_more d p a l m h = so_far ∙ at_drop_more (λ ds. left_axes done ds (drop i ps)) ds i d l ∙ at_drop_more (λ ps. left_axes done (get_or ds i d ∷ drop (i + 1) ds) ps) ps i p m
      ∙ more_here done (get_or ds i d) (drop (i + 1) ds) (get_or ps i p) (drop (i + 1) ps) a h

  pub axes_few : (d : Dim) → i < length ds → length ps ≤ i → whole ≡ Err Bounds
  axes_few d l m = so_far ∙ at_drop_more (λ ds. left_axes done ds (drop i ps)) ds i d l ∙ at_drop_all (λ ps. left_axes done (get_or ds i d ∷ drop (i + 1) ds) ps) ps i m
      ∙ none_here done (get_or ds i d) (drop (i + 1) ds)

  pub axes_many : (p : Selector) → length ds ≤ i → i < length ps → whole ≡ Err Bounds
  axes_many p l m = so_far ∙ at_drop_all (λ ds. left_axes done ds (drop i ps)) ds i l ∙ at_drop_more (λ ps. left_axes done [] ps) ps i p m
      ∙ many_here done (get_or ps i p) (drop (i + 1) ps)

  pub axes_end : length ds ≤ i → length ps ≤ i → whole ≡ Ok done
  axes_end l m = so_far ∙ at_drop_all (λ ds. left_axes done ds (drop i ps)) ds i l ∙ at_drop_all (λ ps. left_axes done [] ps) ps i m ∙ end_here done

  -- whatever the failure
  pub axes_failed : (d : Dim) (p : Selector) (e : Failure) → i < length ds → i < length ps
      → Answers axis_in (axis_on (bounds_of (get_or ds i d)) (selector_in (get_or ps i p))) (Err e)
      → Answers {B = List Axis} (λ axes. map axis_in axes) whole (Err e)
  axes_failed d p (failure.Fault f) l m h = axes_fault d p f l m h
  axes_failed d p failure.Memory l m h = tt
