-- The later stages of an array assignment, by places.
use Rattle.std.proofs.Common.{◌≡◌, refl, sym, ap, ◌∙◌, zero, suc, ℕ, ℤ, ◌+◌, ◌*◌, ◌<◌, ◌≤◌, Bool, true, false, cond, List, [], ◌∷◌, ◌++◌, map, length, get_or, Option, Some, Result, Ok, Err, arith}
use Rattle.std.specs.Prelude.{All}
use Rattle.std.proofs.Common.{take}
use Rattle.tree.specs.declared.ops.Fault.TheVariants.{Overflow}
use Rattle.meaning.specs.Dialect.{fortran90}
use Rattle.tree.specs.declared.width.Width.{Width}
use Rattle.meaning.specs.Value.{is_in_range}
use Rattle.machine.specs.Moments.{chosen, checked}
use Rattle.std.specs.List.{zip, flat_map, AllByRecursion}
use mathlib.Core.Path.{ap₂}
use Rattle.std.proofs.Common.{length-append}
use Rattle.std.proofs.lemmas.List.{length-map}
use Rattle.tree.specs.Steps.{◌>>=◌}
use Rattle.tree.specs.Operators.{as_truth}
use Rattle.tree.specs.declared.ops.Value.{Value}
use Rattle.tree.specs.declared.ops.Fault.{Fault}
use Rattle.meaning.specs.Dialect.{Dialect}
use Rattle.meaning.specs.Store.{Cell, column_major}
use Rattle.meaning.specs.ArrayValues.{Elements, each, positions, counted, size}
use Rattle.meaning.specs.Sections.{Axis, Fixed, Along, extents_of, cells_along, numbers_of}
use Rattle.meaning.specs.ArrayStatements.{where_true, second, storable}
use Rattle.machine.specs.Storage.{offset}
use Rattle.array_values.specs.Positions.{position_at}
use Rattle.array_values.specs.Masks.{true_among, true_places}
use Rattle.array_values.proofs.Positions.{positions_are}
use Rattle.array_values.specs.storage.array_places.Places.{somes, places_there}
use Rattle.array_values.specs.declared.storage.array_places.selection.Selection.{Selection}
use Rattle.array_values.specs.declared.storage.array_places.writes.Writes.{Writes}
use Rattle.array_values.specs.storage.array_places.Selecting.{IsSelection}
use Rattle.array_values.specs.declared.failure.Failure.{Failure}
use Rattle.array_values.specs.declared.failure.Failure.TheVariants as failure
use Rattle.array_values.specs.Answers.{Answers}
use Rattle.array_values.specs.storage.array_places.Writing.{AreWrites, Stores, StoresThese, stored_under}
use Rattle.tree.specs.Widths.{bits_of}

-- ---- a list, place by place

at_each : {A : Type 0} (cs : List A) (d : A) (a : ℕ) (more : List A) → (f : ℕ → A) → ((k : ℕ) → f (a + k) ≡ get_or more k d) → map f (counted a (length more)) ≡ more
at_each cs d a [] f h = refl
at_each cs d a (c ∷ more) f h = ap₂ (λ x xs. x ∷ xs)
    (ap f (let e : a ≡ a + 0 = omega arith in e) ∙ h 0)
    (at_each cs d (a + 1) more f (λ k. ap f (let e : a + 1 + k ≡ a + suc k = omega arith in e) ∙ h (suc k)))

pub by_places : {A : Type 0} (cs : List A) (d : A) → map (λ k. get_or cs k d) (counted 0 (length cs)) ≡ cs
by_places cs d = at_each cs d 0 cs (λ k. get_or cs k d) (λ k. ap (λ j. get_or cs j d) (let e : 0 + k ≡ k = omega arith in e))

zip_maps : {A B C : Type 0} (f : C → A) (g : C → B) (ks : List C) → zip (map f ks) (map g ks) ≡ map (λ k. (f k, g k)) ks
zip_maps f g [] = refl
zip_maps f g (k ∷ ks) = ap (λ ps. (f k, g k) ∷ ps) (zip_maps f g ks)

pub zipped : {A : Type 0} (ns : List ℕ) (cs : List A) (d : A) → length cs ≡ size ns
    → zip (positions ns) cs ≡ map (λ k. (position_at ns k, get_or cs k d)) (counted 0 (size ns))
zipped ns cs d e =
    ap₂ (λ ps qs. zip ps qs) (positions_are ns) (sym (by_places cs d) ∙ ap (λ n. map (λ k. get_or cs k d) (counted 0 n)) e)
    ∙ zip_maps (position_at ns) (λ k. get_or cs k d) (counted 0 (size ns))

-- ---- where the mask is true

module _ (mask : Elements Value) (ns : List ℕ) (c : ℕ → Cell) where
  abbrev pub both_at : ℕ → List ℕ × Cell
  both_at k = (position_at ns k, c k)

  chosen_by : (k : ℕ) (r : Result Bool Fault) (q : Result (List ℕ) Fault)
      → ◌≡◌ {A = Result (List (List ℕ × Cell)) Fault} (do b ← r; more ← (do ks ← q; Ok (map both_at ks)); Ok (cond b (both_at k ∷ more) more))
      (do ks ← (do b ← r; more ← q; Ok (cond b (k ∷ more) more)); Ok (map both_at ks))
  chosen_by k (Err f) q = refl
  chosen_by k (Ok b) (Err f) = refl
  chosen_by k (Ok true) (Ok ks) = refl
  chosen_by k (Ok false) (Ok ks) = refl

  value_by : (k : ℕ) (r : Result Value Fault) (q : Result (List ℕ) Fault)
      → ◌≡◌ {A = Result (List (List ℕ × Cell)) Fault} (do x ← r; b ← as_truth x; more ← (do ks ← q; Ok (map both_at ks)); Ok (cond b (both_at k ∷ more) more))
      (do ks ← (do x ← r; b ← as_truth x; more ← q; Ok (cond b (k ∷ more) more)); Ok (map both_at ks))
  value_by k (Err f) q = refl
  value_by k (Ok x) q = chosen_by k (as_truth x) q

  pub where_true_is : (ks : List ℕ) → where_true mask (map both_at ks) ≡ (do ks ← true_among mask ns ks; Ok (map both_at ks))
  where_true_is [] = refl
  where_true_is (k ∷ ks) =
      ap (λ (q : Result (List (List ℕ × Cell)) Fault). do x ← mask.at (position_at ns k); b ← as_truth x; more ← q; Ok (cond b (both_at k ∷ more) more)) (where_true_is ks)
      ∙ value_by k (mask.at (position_at ns k)) (true_among mask ns ks)

pub each_map : {A B C : Type 0} (f : B → Result C Fault) (g : A → B) (xs : List A) → each f (map g xs) ≡ each (λ x. f (g x)) xs
each_map f g [] = refl
each_map {C = C} f g (x ∷ xs) = ap (λ (q : Result (List C) Fault). do y ← f (g x); ys ← q; Ok (y ∷ ys)) (each_map f g xs)

pub each_length : {A B : Type 0} (f : A → Result B Fault) (xs : List A) (ys : List B) → each f xs ≡ Ok ys → length ys ≡ length xs
each_length f [] ys e = (let same : [] ≡ ys = cc in sym (ap length same))
each_length {B = B} f (x ∷ xs) ys e = by (f x) (each f xs) refl e (λ zs. each_length f xs zs)
  where
    by : (r : Result B Fault) (q : Result (List B) Fault) → each f xs ≡ q → ◌≡◌ {A = Result (List B) Fault} (do y ← r; zs ← q; Ok (y ∷ zs)) (Ok ys)
        → ((zs : List B) → each f xs ≡ Ok zs → length zs ≡ length xs) → length ys ≡ suc (length xs)
    by (Err g) q h k rest = cc
    by (Ok y) (Err g) h k rest = cc
    by (Ok y) (Ok zs) h k rest = (let same : y ∷ zs ≡ ys = cc in sym (ap length same) ∙ ap suc (rest zs h))

-- ---- how many there are

rows_length : {A : Type 0} (xs : List A) (rs : List (List A)) → length (flat_map (λ rest. map (λ x. x ∷ rest) xs) rs) ≡ length xs * length rs
rows_length xs [] = grind arith
rows_length xs (r ∷ rs) =
    length-append (map (λ x. x ∷ r) xs) (flat_map (λ rest. map (λ x. x ∷ rest) xs) rs)
    ∙ ap₂ (λ a b. a + b) (length-map xs (λ x. x ∷ r)) (rows_length xs rs)
    ∙ (let e : length xs + length xs * length rs ≡ length xs * suc (length rs) = grind arith in e)

pub selected_length : (axes : List Axis) → length (column_major (map numbers_of axes)) ≡ size (extents_of axes)
selected_length [] = refl
selected_length (Fixed z ∷ axes) = rows_length (z ∷ []) (column_major (map numbers_of axes)) ∙ (let e : 1 * length (column_major (map numbers_of axes)) ≡ length (column_major (map numbers_of axes)) = omega arith in e) ∙ selected_length axes
selected_length (Along zs ∷ axes) = rows_length zs (column_major (map numbers_of axes)) ∙ ap (λ n. length zs * n) (selected_length axes)

-- ---- what is stored

names_are : (x : List ℕ) (c : ℕ → Cell) → ((k : ℕ) → (c k).name ≡ x) → (ks : List ℕ) (vs : List Value) → AllByRecursion (λ (p : Cell × Value). p.0.name ≡ x) (zip (map c ks) vs)
names_are x c h [] vs = tt
names_are x c h (k ∷ ks) [] = tt
names_are x c h (k ∷ ks) (v ∷ vs) = (h k, names_are x c h ks vs)

values_are : (c : ℕ → Cell) (ks : List ℕ) (vs : List Value) → length vs ≡ length ks → map second (zip (map c ks) vs) ≡ vs
values_are c [] [] e = refl
values_are c [] (v ∷ vs) e = absurd (omega arith)
values_are c (k ∷ ks) [] e = absurd (omega arith)
values_are c (k ∷ ks) (v ∷ vs) e = ap (λ ws. v ∷ ws) (values_are c ks vs (omega arith))

places_are : (bs : List (ℤ × ℤ)) (c : ℕ → Cell) (p : ℕ → ℕ) (n : ℕ) → ((k : ℕ) → k < n → offset bs (c k).subscripts ≡ Some (p k)) → (ks : List ℕ) (vs : List Value) → length vs ≡ length ks
    → All (λ k. k < n) ks → map (λ (q : Cell × Value). offset bs q.0.subscripts) (zip (map c ks) vs) ≡ somes (map p ks)
places_are bs c p n h [] [] e w = refl
places_are bs c p n h [] (v ∷ vs) e w = absurd (omega arith)
places_are bs c p n h (k ∷ ks) [] e w = absurd (omega arith)
places_are bs c p n h (k ∷ ks) (v ∷ vs) e w = ap₂ (λ o os. o ∷ os) (h k (w 0 0 (omega arith)))
    (places_are bs c p n h ks vs (omega arith) (λ i d l. w (suc i) d (omega arith)))

chosen_are : (c : ℕ → Cell) (mask : Elements Value) (ns : List ℕ) (ks : List ℕ) → map second (map (both_at mask ns c) ks) ≡ map c ks
chosen_are c mask ns [] = refl
chosen_are c mask ns (k ∷ ks) = ap (λ cs. c k ∷ cs) (chosen_are c mask ns ks)

offset_at : (bs : List (ℤ × ℤ)) (rs : List (List ℤ)) (ps : List ℕ) (k : ℕ) (d : List ℤ) → map (offset bs) rs ≡ somes ps → k < length ps → offset bs (get_or rs k d) ≡ Some (get_or ps k 0)
offset_at bs rs [] k d e l = absurd (omega arith)
offset_at bs [] (p ∷ ps) k d e l = cc
offset_at bs (r ∷ rs) (p ∷ ps) zero d e l = cc
offset_at bs (r ∷ rs) (p ∷ ps) (suc k) d e l = (let more : map (offset bs) rs ≡ somes ps = cc in offset_at bs rs ps k d more (omega arith))

cells_at : (x : List ℕ) (rs : List (List ℤ)) (k : ℕ) (d : Cell) → d.name ≡ x
    → get_or (map (λ is. let c : Cell = record { name = x; subscripts = is } in c) rs) k d ≡ record { name = x; subscripts = get_or rs k d.subscripts }
cells_at x [] k d e = ap (λ y. let c : Cell = record { name = y; subscripts = d.subscripts } in c) e
cells_at x (r ∷ rs) zero d e = refl
cells_at x (r ∷ rs) (suc k) d e = cells_at x rs k d e

module _ (lang : Dialect) (mask : Elements Value) (x : List ℕ) (axes : List Axis) (g : Elements Value) where
  abbrev pub none : Cell
  none = record { name = x; subscripts = [] }

  abbrev pub cell : ℕ → Cell
  cell k = get_or (cells_along x axes) k none

  pub cells_length : length (cells_along x axes) ≡ size (extents_of axes)
  cells_length = length-map (column_major (map numbers_of axes)) (λ is. let c : Cell = record { name = x; subscripts = is } in c) ∙ selected_length axes

  chosen_places : where_true mask (zip (positions (extents_of axes)) (cells_along x axes)) ≡ (do ks ← true_places mask (extents_of axes); Ok (map (both_at mask (extents_of axes) cell) ks))
  chosen_places = ap (where_true mask) (zipped (extents_of axes) (cells_along x axes) none cells_length) ∙ where_true_is mask (extents_of axes) cell (counted 0 (size (extents_of axes)))

  pub mask_fails : (f : Fault) → true_places mask (extents_of axes) ≡ Err f → stored_under lang mask x axes g ≡ Err f
  mask_fails f e = ap (λ (q : Result (List (List ℕ × Cell)) Fault). do chosen ← q; xs ← each (λ (p : List ℕ × Cell). g.at p.0) chosen; vs ← each (storable lang) xs; Ok (zip (map second chosen) vs))
      (chosen_places ∙ ap (λ (q : Result (List ℕ) Fault). let r : Result (List (List ℕ × Cell)) Fault = (do ks ← q; Ok (map (both_at mask (extents_of axes) cell) ks)) in r) e)

  chosen_go : (ks : List ℕ) → true_places mask (extents_of axes) ≡ Ok ks → stored_under lang mask x axes g
      ≡ (do xs ← each (λ k. g.at (position_at (extents_of axes) k)) ks; vs ← each (storable lang) xs; Ok (zip (map cell ks) vs))
  chosen_go ks e = ap (λ (q : Result (List (List ℕ × Cell)) Fault). do chosen ← q; xs ← each (λ (p : List ℕ × Cell). g.at p.0) chosen; vs ← each (storable lang) xs; Ok (zip (map second chosen) vs))
      (chosen_places ∙ ap (λ (q : Result (List ℕ) Fault). let r : Result (List (List ℕ × Cell)) Fault = (do ks ← q; Ok (map (both_at mask (extents_of axes) cell) ks)) in r) e)
      ∙ ap₂ (λ (q : Result (List Value) Fault) (cs : List Cell). let r : Result (List (Cell × Value)) Fault = (do xs ← q; vs ← each (storable lang) xs; Ok (zip cs vs)) in r)
      (each_map (λ (p : List ℕ × Cell). g.at p.0) (both_at mask (extents_of axes) cell) ks) (chosen_are cell mask (extents_of axes) ks)

  pub values_fail : (ks : List ℕ) (f : Fault) → true_places mask (extents_of axes) ≡ Ok ks → each (λ k. g.at (position_at (extents_of axes) k)) ks ≡ Err f → stored_under lang mask x axes g ≡ Err f
  values_fail ks f e h = chosen_go ks e ∙ ap (λ (q : Result (List Value) Fault). let r : Result (List (Cell × Value)) Fault = (do xs ← q; vs ← each (storable lang) xs; Ok (zip (map cell ks) vs)) in r) h

  pub range_fails : (ks : List ℕ) (vs : List Value) (f : Fault) → true_places mask (extents_of axes) ≡ Ok ks → each (λ k. g.at (position_at (extents_of axes) k)) ks ≡ Ok vs
      → each (storable lang) vs ≡ Err f → stored_under lang mask x axes g ≡ Err f
  range_fails ks vs f e h r = chosen_go ks e ∙ ap (λ (q : Result (List Value) Fault). let r : Result (List (Cell × Value)) Fault = (do xs ← q; vs ← each (storable lang) xs; Ok (zip (map cell ks) vs)) in r) h
      ∙ ap (λ (q : Result (List Value) Fault). let r : Result (List (Cell × Value)) Fault = (do vs ← q; Ok (zip (map cell ks) vs)) in r) r

  pub all_stored : (ks : List ℕ) (vs : List Value) → true_places mask (extents_of axes) ≡ Ok ks → each (λ k. g.at (position_at (extents_of axes) k)) ks ≡ Ok vs
      → each (storable lang) vs ≡ Ok vs → stored_under lang mask x axes g ≡ Ok (zip (map cell ks) vs)
  all_stored ks vs e h r = chosen_go ks e ∙ ap (λ (q : Result (List Value) Fault). let r : Result (List (Cell × Value)) Fault = (do xs ← q; vs ← each (storable lang) xs; Ok (zip (map cell ks) vs)) in r) h
      ∙ ap (λ (q : Result (List Value) Fault). let r : Result (List (Cell × Value)) Fault = (do vs ← q; Ok (zip (map cell ks) vs)) in r) r

  cell_is : (k : ℕ) → cell k ≡ record { name = x; subscripts = get_or (column_major (map numbers_of axes)) k [] }
  cell_is k = cells_at x (column_major (map numbers_of axes)) k none refl

  pub are_writes : (bs : List (ℤ × ℤ)) (t : Selection) (ks : List ℕ) (vs : List Value) (w : Writes) → IsSelection bs axes t → All (λ k. k < length t.places) ks → length vs ≡ length ks
      → w.places ≡ places_there t.places ks → w.values ≡ vs → AreWrites bs x w (zip (map cell ks) vs)
  are_writes bs t ks vs w s l e p v = record {
    names = names_are x cell (λ k. ap (λ (c : Cell). c.name) (cell_is k)) ks vs;
    places = places_are bs cell (λ k. get_or t.places k 0) (length t.places)
        (λ k b. ap (λ (c : Cell). offset bs c.subscripts) (cell_is k) ∙ offset_at bs (column_major (map numbers_of axes)) t.places k [] s.places b) ks vs e l
        ∙ ap somes (sym p);
    values = values_are cell ks vs e ∙ sym v;
  }

  -- ---- whatever the failure

  pub mask_failed : (bs : List (ℤ × ℤ)) (ns : List ℕ) (e : Failure) → ns ≡ extents_of axes → Answers (λ (ks : List ℕ). ks) (true_places mask ns) (Err e)
      → Stores bs x (stored_under lang mask x axes g) (Err e)
  mask_failed bs ns (failure.Fault f) h k = mask_fails f (ap (true_places mask) (sym h) ∙ k)
  mask_failed bs ns failure.Memory h k = tt

  pub values_failed : (bs : List (ℤ × ℤ)) (ns ks : List ℕ) (e : Failure) → ns ≡ extents_of axes → true_places mask ns ≡ Ok ks
      → Answers (λ (vs : List Value). vs) (each (λ k. g.at (position_at ns k)) ks) (Err e) → Stores bs x (stored_under lang mask x axes g) (Err e)
  values_failed bs ns ks (failure.Fault f) h t k = values_fail ks f (ap (true_places mask) (sym h) ∙ t) (ap (λ ms. each (λ k. g.at (position_at ms k)) ks) (sym h) ∙ k)
  values_failed bs ns ks failure.Memory h t k = tt

  pub range_failed : (ns ks : List ℕ) (vs : List Value) (f : Fault) → ns ≡ extents_of axes → true_places mask ns ≡ Ok ks → each (λ k. g.at (position_at ns k)) ks ≡ Ok vs
      → each (storable lang) vs ≡ Err f → stored_under lang mask x axes g ≡ Err f
  range_failed ns ks vs f h t k r = range_fails ks vs f (ap (true_places mask) (sym h) ∙ t) (ap (λ ms. each (λ k. g.at (position_at ms k)) ks) (sym h) ∙ k) r

  pub these_stored : (bs : List (ℤ × ℤ)) (t : Selection) (ns ks : List ℕ) (vs : List Value) (w : Writes) → IsSelection bs axes t → ns ≡ extents_of axes → true_places mask ns ≡ Ok ks
      → each (λ k. g.at (position_at ns k)) ks ≡ Ok vs → each (storable lang) vs ≡ Ok vs → All (λ k. k < length t.places) ks
      → w.places ≡ places_there t.places ks → w.values ≡ vs → StoresThese bs x (stored_under lang mask x axes g) w
  these_stored bs t ns ks vs w s h m k r l p v = record {
    writes = zip (map cell ks) vs;
    are = all_stored ks vs (ap (true_places mask) (sym h) ∙ m) (ap (λ ms. each (λ k. g.at (position_at ms k)) ks) (sym h) ∙ k) r;
    stored = are_writes bs t ks vs w s l (each_length (λ k. g.at (position_at ns k)) ks vs k) p v;
  }

pub places_count : (bs : List (ℤ × ℤ)) (axes : List Axis) (ks : List ℕ) → map (offset bs) (column_major (map numbers_of axes)) ≡ somes ks → length ks ≡ size (extents_of axes)
places_count bs axes ks e =
    sym (length-map ks (λ k. let o : Option ℕ = Some k in o)) ∙ sym (ap length e) ∙ length-map (column_major (map numbers_of axes)) (offset bs) ∙ selected_length axes

-- ---- ranges

pub take_more : {A : Type 0} (xs : List A) (i : ℕ) (d : A) → i < length xs → take (i + 1) xs ≡ take i xs ++ get_or xs i d ∷ []
take_more [] i d l = absurd (omega arith)
take_more (x ∷ xs) zero d l = refl
take_more (x ∷ xs) (suc i) d l = ap (λ n. take n (x ∷ xs)) (let e : suc i + 1 ≡ suc (i + 1) = omega arith in e) ∙ ap (λ ys. x ∷ ys) (take_more xs i d (omega arith))

pub take_whole : {A : Type 0} (xs : List A) (i : ℕ) → length xs ≤ i → take i xs ≡ xs
take_whole [] zero l = refl
take_whole [] (suc i) l = refl
take_whole (x ∷ xs) zero l = absurd (omega arith)
take_whole (x ∷ xs) (suc i) l = ap (λ ys. x ∷ ys) (take_whole xs i (omega arith))

pub out_of_range : (width : Width) (v : Value) (f : Fault) → Err f ≡ checked (bits_of width) v → storable (fortran90 width) v ≡ Err f
out_of_range width v f e = by (is_in_range (bits_of width) v) e
  where
    by : (t : Bool) → Err f ≡ chosen t → ◌≡◌ {A = Result Value Fault} (cond t (Ok v) (Err Overflow)) (Err f)
    by true e = cc
    by false e = (let same : f ≡ Overflow = cc in ap (λ f. let r : Result Value Fault = Err f in r) (sym same))

pub in_range : (width : Width) (v : Value) (x : Unit {0}) → Ok x ≡ checked (bits_of width) v → storable (fortran90 width) v ≡ Ok v
in_range width v x e = by (is_in_range (bits_of width) v) e
  where
    by : (t : Bool) → Ok x ≡ chosen t → ◌≡◌ {A = Result Value Fault} (cond t (Ok v) (Err Overflow)) (Ok v)
    by true e = refl
    by false e = cc
