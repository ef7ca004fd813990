-- Arrays without elements: nothing is selected of them.
use Rattle.std.proofs.Common.{◌≡◌, refl, sym, ap, ◌∙◌, subst, zero, suc, ℕ, ℤ, ◌+◌, ◌*◌, ◌<◌, ◌≤◌, List, [], ◌∷◌, ◌++◌, map, drop, length, get_or, Option, Some, None, Result, Ok, Err, arith}
use Rattle.std.specs.Prelude.{All}
use Rattle.std.specs.List.{flat_map}
use Rattle.std.proofs.lemmas.List.{at_drop_more, at_drop_all}
use Rattle.tree.specs.declared.ops.Fault.{Fault}
use Rattle.meaning.specs.ArrayValues.{counted, size}
use Rattle.meaning.specs.Extents.{elements_of}
use Rattle.meaning.specs.Sections.{Axis, Selector, axes_on, whole_axes, numbers_of, extents_of}
use Rattle.meaning.specs.Steps.{lines_of_cells}
use Rattle.meaning.specs.Texts.{final_line}
use Rattle.meaning.specs.Store.{Store, Cell, size_of, numbers_from, column_major}
use Rattle.machine.specs.Storage.{offset}
use Rattle.machine.proofs.StoreLaws.{offset_below}
use Rattle.array_values.specs.Counts.{range_in, ranges_in, AddsExtents}
use Rattle.array_values.specs.declared.counts.Range.{Range}
use Rattle.array_values.specs.declared.failure.Failure.{Failure}
use Rattle.array_values.specs.declared.failure.Failure.TheVariants as failure
use Rattle.array_values.specs.declared.storage.array_places.selection.Selection.{Selection}
use Rattle.array_values.specs.storage.array_places.Places.{AxesStand, somes}
use Rattle.array_values.specs.storage.array_places.Selecting.{IsSelection, Selects, SelectsThese}
use Rattle.array_values.proofs.storage.ArrayPlaces.Rows.{none_stands, no_rows}
use Rattle.array_values.proofs.storage.ArrayPlaces.Stages.{places_count}
use Rattle.array_values.proofs.storage.ArrayPlaces.Standing.{axes_stand}
use Rattle.array_values.proofs.storage.ArrayPlaces.Whole.{whole_places, whole_extents}

no_more : (n x : ℕ) → suc n * x ≡ 0 → x ≡ 0
no_more n zero h = refl
no_more n (suc x) h = absurd (omega arith)

abbrev rows_of : List ℤ → List (List ℤ) → List (List ℤ)
rows_of zs rs = flat_map (λ rest. map (λ x. x ∷ rest) zs) rs

-- what stands within bounds that leave no element is empty
stands_nowhere : (bs : List (ℤ × ℤ)) (axes : List Axis) → AxesStand bs axes → elements_of bs ≡ 0 → column_major (map numbers_of axes) ≡ []
stands_nowhere [] axes h e = absurd (omega arith)
stands_nowhere (b ∷ bs) [] h e = absurd h
stands_nowhere (b ∷ bs) (a ∷ axes) h e = by (size_of b) refl (λ g. stands_nowhere bs axes h.1 g)
  where
    by : (n : ℕ) → size_of b ≡ n → (elements_of bs ≡ 0 → column_major (map numbers_of axes) ≡ []) → rows_of (numbers_of a) (column_major (map numbers_of axes)) ≡ []
    by zero s more = ap (λ zs. rows_of zs (column_major (map numbers_of axes))) (none_stands b (numbers_of a) s h.0) ∙ no_rows (column_major (map numbers_of axes))
    by (suc n) s more = ap (rows_of (numbers_of a)) (more (no_more n (elements_of bs) (ap (λ k. k * elements_of bs) (sym s) ∙ e)))

abbrev listed : List (ℤ × ℤ) → List (List ℤ)
listed bs = column_major (map (λ (b : ℤ × ℤ). numbers_from b.0 (size_of b)) bs)

none_listed : (bs : List (ℤ × ℤ)) → elements_of bs ≡ 0 → listed bs ≡ []
none_listed [] e = absurd (omega arith)
none_listed (b ∷ bs) e = by (size_of b) refl (λ g. none_listed bs g)
  where
    by : (n : ℕ) → size_of b ≡ n → (elements_of bs ≡ 0 → listed bs ≡ []) → rows_of (numbers_from b.0 (size_of b)) (listed bs) ≡ []
    by zero s more = ap (λ n. rows_of (numbers_from b.0 n) (listed bs)) s ∙ no_rows (listed bs)
    by (suc n) s more = ap (rows_of (numbers_from b.0 (size_of b))) (more (no_more n (elements_of bs) (ap (λ k. k * elements_of bs) (sym s) ∙ e)))

pub none_selected : (bs : List (ℤ × ℤ)) (ps : List Selector) (axes : List Axis) (t : Selection) → elements_of bs ≡ 0 → axes_on bs ps ≡ Ok axes
    → t.extents ≡ extents_of axes → t.places ≡ [] → IsSelection bs axes t
none_selected bs ps axes t e a x p =
    let none = stands_nowhere bs axes (axes_stand bs ps axes a) e in
    let at : map (offset bs) (column_major (map numbers_of axes)) ≡ somes t.places = ap (map (offset bs)) none ∙ ap somes (sym p) in
    record {
      extents = x;
      places = at;
      count = places_count bs axes t.places at ∙ ap size (sym x);
      within = subst (All (λ k. k < elements_of bs)) (sym p) (λ k d l. absurd (omega arith));
    }

pub none_of_all : (bs : List (ℤ × ℤ)) (t : Selection) → elements_of bs ≡ 0 → t.extents ≡ map size_of bs → t.places ≡ [] → IsSelection bs (whole_axes bs) t
none_of_all bs t e x p =
    let at : map (offset bs) (column_major (map numbers_of (whole_axes bs))) ≡ somes t.places
    = whole_places bs ∙ (ap (λ n. somes (counted 0 n)) e ∙ ap somes (sym p)) in
    let y : t.extents ≡ extents_of (whole_axes bs) = x ∙ whole_extents bs in
    record {
      extents = y;
      places = at;
      count = places_count bs (whole_axes bs) t.places at ∙ ap size (sym y);
      within = subst (All (λ k. k < elements_of bs)) (sym p) (λ k d l. absurd (omega arith));
    }

pub no_place : (bs : List (ℤ × ℤ)) (is : List ℤ) → elements_of bs ≡ 0 → offset bs is ≡ None
no_place bs is e = by (offset bs is) refl
  where
    by : (o : Option ℕ) → offset bs is ≡ o → offset bs is ≡ None
    by None h = h
    by (Some k) h = (let l = offset_below bs is k h in absurd (omega arith))

pub no_scalar : (bs : List (ℤ × ℤ)) → elements_of bs ≡ 0 → bs ≡ [] → ⊥
no_scalar [] e h = omega arith
no_scalar (b ∷ bs) e h = cc

pub no_lines : (x : List ℕ) (bs : List (ℤ × ℤ)) (s : Store) → elements_of bs ≡ 0 → lines_of_cells x (Some bs) s ≡ []
no_lines x bs s e =
    ap (λ rs. flat_map (λ c. final_line c (s.held c)) (map (λ is. let c : Cell = record { name = x; subscripts = is } in c) rs)) (none_listed bs e)

-- ---- whether there are elements

-- a dimension without numbers leaves none
pub none_there : (rs : List Range) (i : ℕ) (d : Range) → i < length rs → size_of (range_in (get_or rs i d)) ≡ 0 → elements_of (ranges_in rs) ≡ 0
none_there [] i d l h = absurd (omega arith)
none_there (r ∷ rs) zero d l h = ap (λ k. k * elements_of (ranges_in rs)) h ∙ (let e : 0 * elements_of (ranges_in rs) ≡ 0 = grind arith in e)
none_there (r ∷ rs) (suc i) d l h =
    ap (λ k. size_of (range_in r) * k) (none_there rs i d (omega arith) h) ∙ (let e : size_of (range_in r) * 0 ≡ 0 = grind arith in e)

-- none behind a dimension with numbers, where there is none from it on
pub none_behind : (rs : List Range) (i : ℕ) (d : Range) → i < length rs → (size_of (range_in (get_or rs i d)) ≡ 0 → ⊥) → elements_of (ranges_in (drop i rs)) ≡ 0
    → elements_of (ranges_in (drop (i + 1) rs)) ≡ 0
none_behind rs i d l h e = by (size_of (range_in (get_or rs i d))) refl
  where
    whole : size_of (range_in (get_or rs i d)) * elements_of (ranges_in (drop (i + 1) rs)) ≡ 0
    whole = sym (at_drop_more (λ rs. elements_of (ranges_in rs)) rs i d l) ∙ e

    by : (n : ℕ) → size_of (range_in (get_or rs i d)) ≡ n → elements_of (ranges_in (drop (i + 1) rs)) ≡ 0
    by zero s = absurd (h s)
    by (suc n) s = no_more n (elements_of (ranges_in (drop (i + 1) rs))) (ap (λ k. k * elements_of (ranges_in (drop (i + 1) rs))) (sym s) ∙ whole)

-- past the last dimension there is one
pub some_there : (rs : List Range) (i : ℕ) → length rs ≤ i → (elements_of (ranges_in rs) ≡ 0 → elements_of (ranges_in (drop i rs)) ≡ 0)
    → elements_of (ranges_in rs) ≡ 0 → ⊥
some_there rs i l h e =
    let one : elements_of (ranges_in (drop i rs)) ≡ 1 = at_drop_all (λ rs. elements_of (ranges_in rs)) rs i l in
    let none = h e in
    omega (arith, one, none)

-- ---- as the code has them

pub none_failed : (bs : List (ℤ × ℤ)) (q : Result (List Axis) Fault) (old new : List ℕ) (e : Failure) → AddsExtents old new q (Err e) → Selects bs q (Err e)
none_failed bs q old new (failure.Fault f) h = h
none_failed bs q old new failure.Memory h = tt

pub none_taken : (bs : List (ℤ × ℤ)) (ps : List Selector) (old : List ℕ) (t : Selection) → elements_of bs ≡ 0 → old ≡ [] → t.places ≡ []
    → AddsExtents old t.extents (axes_on bs ps) (Ok tt) → SelectsThese bs (axes_on bs ps) t
none_taken bs ps old t e o p h = record {
  axes = h.0;
  are = h.1;
  selected = none_selected bs ps h.0 t e h.1 (h.2 ∙ ap (λ ns. ns ++ extents_of h.0) o) p;
}
