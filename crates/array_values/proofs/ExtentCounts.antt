-- The extents of what subscripts select, dimension by dimension.
use Rattle.std.proofs.Common.{◌≡◌, refl, sym, ap, subst, ◌∙◌, ℕ, ◌<◌, ℤ, pos, Bool, true, false, cond, List, [], ◌∷◌, ◌++◌, map, length, append_assoc, Result, Ok, Err, Some, None, arith}
use Rattle.std.specs.Prelude.{◌==◌}
use Rattle.std.specs.Ordering.{int_eq}
use Rattle.std.proofs.lemmas.Bool.Decides.{Decides-int_eq, nat_tests}
use Rattle.std.proofs.lemmas.List.{append-nil}
use Rattle.tree.specs.Steps.{◌>>=◌}
use Rattle.tree.specs.declared.ops.Fault.{Fault}
use Rattle.tree.specs.declared.ops.Fault.TheVariants.{Bounds, ZeroStep}
use Rattle.meaning.specs.Sections.{Axis, Fixed, Along, Selector, Index, Triplet, Vector, along, axis_on, axes_on, extents_of, is_within_bounds, triplet_numbers}
use Rattle.array_values.specs.Counts.{AddsExtent, AddsExtents, Counts, CountsAlong, range_in, ranges_in}
use Rattle.array_values.specs.Selections.{selector_in}
use Rattle.array_values.specs.declared.counts.Range.{Range}
use Rattle.array_values.specs.declared.sections.Selector.{Selector as Given}
use Rattle.array_values.specs.declared.failure.Failure.{Failure}
use Rattle.array_values.specs.declared.failure.Failure.TheVariants as failure

-- ---- one dimension

pub index_out : (b : ℤ × ℤ) (z : ℤ) → is_within_bounds b z ≡ false → Counts (axis_on b (Index z)) (Err Bounds)
index_out b z e = ap (λ (t : Bool). let r : Result Axis Fault = cond t (Ok (Fixed z)) (Err Bounds) in r) e

pub index_within : (b : ℤ × ℤ) (z : ℤ) → is_within_bounds b z ≡ true → Counts (axis_on b (Index z)) (Ok None)
index_within b z e = (z, ap (λ (t : Bool). let r : Result Axis Fault = cond t (Ok (Fixed z)) (Err Bounds) in r) e)

triplet_by : (b : ℤ × ℤ) (l u s : ℤ) (t : Bool) → int_eq s (pos 0) ≡ t → axis_on b (Triplet l u s) ≡ cond t (Err ZeroStep) (along b (triplet_numbers l u s))
triplet_by b l u s t e = ap (λ (t : Bool). let r : Result Axis Fault = cond t (Err ZeroStep) (along b (triplet_numbers l u s)) in r) e

not_zero : (s : ℤ) → (s ≡ pos 0 → ⊥) → int_eq s (pos 0) ≡ false
not_zero s h = by (int_eq s (pos 0)) refl
  where
    by : (t : Bool) → int_eq s (pos 0) ≡ t → int_eq s (pos 0) ≡ false
    by false e = e
    by true e = absurd (h ((Decides-int_eq s (pos 0)).0 e))

pub zero_step : (b : ℤ × ℤ) (l u s : ℤ) → s ≡ pos 0 → Counts (axis_on b (Triplet l u s)) (Err ZeroStep)
zero_step b l u s e = triplet_by b l u s true ((Decides-int_eq s (pos 0)).1 e)

pub triplet_some : (b : ℤ × ℤ) (l u s : ℤ) (n : ℕ) → (s ≡ pos 0 → ⊥) → CountsAlong b (triplet_numbers l u s) (Ok n) → Counts (axis_on b (Triplet l u s)) (Ok (Some n))
triplet_some b l u s n h c = (triplet_numbers l u s, triplet_by b l u s false (not_zero s h) ∙ c.0, c.1)

pub triplet_none : (b : ℤ × ℤ) (l u s : ℤ) (f : Fault) → (s ≡ pos 0 → ⊥) → CountsAlong b (triplet_numbers l u s) (Err f) → Counts (axis_on b (Triplet l u s)) (Err f)
triplet_none b l u s f h c = triplet_by b l u s false (not_zero s h) ∙ c

pub vector_some : (b : ℤ × ℤ) (zs : List ℤ) (n : ℕ) → CountsAlong b zs (Ok n) → Counts (axis_on b (Vector zs)) (Ok (Some n))
vector_some b zs n c = (zs, c.0, c.1)

pub extent_added : (old new : List ℕ) (q : Result Axis Fault) (n : ℕ) → Counts q (Ok (Some n)) → new ≡ old ++ n ∷ [] → AddsExtent old new q (Ok tt)
extent_added old new q n h e = (Along h.0, h.1, e ∙ ap (λ k. old ++ k ∷ []) (sym h.2))

pub extent_left : (old : List ℕ) (q : Result Axis Fault) → Counts q (Ok None) → AddsExtent old old q (Ok tt)
extent_left old q h = (Fixed h.0, h.1, sym (append-nil old))

-- ---- all

joined : (a : Axis) (axes : List Axis) → extents_of (a ∷ []) ++ extents_of axes ≡ extents_of (a ∷ axes)
joined (Fixed z) axes = refl
joined (Along zs) axes = refl

module _ (old mid new : List ℕ) (b : ℤ × ℤ) (bs : List (ℤ × ℤ)) (p : Selector) (ps : List Selector) where
  on : (a : Axis) → axis_on b p ≡ Ok a → axes_on (b ∷ bs) (p ∷ ps) ≡ (do axes ← axes_on bs ps; Ok (a ∷ axes))
  on a e = ap (λ (q : Result Axis Fault). let r : Result (List Axis) Fault = (do a ← q; axes ← axes_on bs ps; Ok (a ∷ axes)) in r) e

  pub adds_more : (a : Axis) (r : Result (Unit {0}) Failure) → axis_on b p ≡ Ok a → mid ≡ old ++ extents_of (a ∷ []) → AddsExtents mid new (axes_on bs ps) r
      → AddsExtents old new (axes_on (b ∷ bs) (p ∷ ps)) r
  adds_more a (Ok x) e m h = (
    a ∷ h.0,
    on a e ∙ ap (λ (q : Result (List Axis) Fault). let r : Result (List Axis) Fault = (do axes ← q; Ok (a ∷ axes)) in r) h.1,
    h.2 ∙ (ap (λ ns. ns ++ extents_of h.0) m ∙ (append_assoc old (extents_of (a ∷ [])) (extents_of h.0) ∙ ap (λ ns. old ++ ns) (joined a h.0))),
  )
  adds_more a (Err (failure.Fault f)) e m h = on a e ∙ ap (λ (q : Result (List Axis) Fault). let r : Result (List Axis) Fault = (do axes ← q; Ok (a ∷ axes)) in r) h
  adds_more a (Err failure.Memory) e m h = tt

  pub adds_failed : (e : Failure) → AddsExtent old mid (axis_on b p) (Err e) → AddsExtents old new (axes_on (b ∷ bs) (p ∷ ps)) (Err e)
  adds_failed (failure.Fault f) h = ap (λ (q : Result Axis Fault). let r : Result (List Axis) Fault = (do a ← q; axes ← axes_on bs ps; Ok (a ∷ axes)) in r) h
  adds_failed failure.Memory h = tt

-- ---- as the code has them

zero_length : (n : ℕ) → (n == 0) ≡ true → n ≡ 0
zero_length n e = grind (arith, nat_tests)

some_length : (n : ℕ) → (n == 0) ≡ false → 0 < n
some_length n e = grind (arith, nat_tests)

pub many_left : (rs : List Range) (ps : List Given) → length rs ≡ 0 → (length ps == 0) ≡ false → axes_on (ranges_in rs) (map selector_in ps) ≡ Err Bounds
many_left [] [] e f = (let l = some_length 0 f in absurd (omega arith))
many_left [] (p ∷ ps) e f = refl
many_left (r ∷ rs) ps e f = absurd (omega arith)

pub none_left : (rs : List Range) (ps : List Given) (ns : List ℕ) → length rs ≡ 0 → (length ps == 0) ≡ true
    → AddsExtents ns ns (axes_on (ranges_in rs) (map selector_in ps)) (Ok tt)
none_left [] [] ns e f = ([], refl, sym (append-nil ns))
none_left [] (p ∷ ps) ns e f = (let l = zero_length (length (p ∷ ps)) f in absurd (omega arith))
none_left (r ∷ rs) ps ns e f = absurd (omega arith)

pub few_left : (rs more : List Range) (r : Range) (ps : List Given) → rs ≡ r ∷ more → length ps ≡ 0 → axes_on (ranges_in rs) (map selector_in ps) ≡ Err Bounds
few_left rs more r [] d e = ap (λ rs. axes_on (ranges_in rs) []) d
few_left rs more r (p ∷ ps) d e = absurd (omega arith)

module _ (rs more : List Range) (r : Range) (ps others : List Given) (p : Given) (d : rs ≡ r ∷ more) (q : ps ≡ p ∷ others) (old mid new : List ℕ) where
  moved : (a : Result (Unit {0}) Failure) → AddsExtents old new (axes_on (ranges_in (r ∷ more)) (map selector_in (p ∷ others))) a
      → AddsExtents old new (axes_on (ranges_in rs) (map selector_in ps)) a
  moved a h =
      subst (λ rs. AddsExtents old new (axes_on (ranges_in rs) (map selector_in ps)) a) (sym d)
      (subst (λ ps. AddsExtents old new (axes_on (ranges_in (r ∷ more)) (map selector_in ps)) a) (sym q) h)

  pub failed_read : (e : Failure) → AddsExtent old mid (axis_on (range_in r) (selector_in p)) (Err e) → AddsExtents old new (axes_on (ranges_in rs) (map selector_in ps)) (Err e)
  failed_read e h = moved (Err e) (adds_failed old mid new (range_in r) (ranges_in more) (selector_in p) (map selector_in others) e h)

  pub more_read : (a : Result (Unit {0}) Failure) → AddsExtent old mid (axis_on (range_in r) (selector_in p)) (Ok tt)
      → AddsExtents mid new (axes_on (ranges_in more) (map selector_in others)) a → AddsExtents old new (axes_on (ranges_in rs) (map selector_in ps)) a
  more_read a k h = moved a (adds_more old mid new (range_in r) (ranges_in more) (selector_in p) (map selector_in others) k.0 a k.1 k.2 h)
