-- The section that stands for a reference whose one subscript is the loop's variable.
use Rattle.std.proofs.Common.{◌≡◌, refl, sym, ap, ap₂, ◌∙◌, subst, inl, ℕ, zero, suc, ℤ, pos, ◌+ℤ◌, ◌-ℤ◌, Bool, true, false, ◌&&◌, cond, List, [], ◌∷◌, ◌++◌, map, length, Result, Ok, Err, Option, Some, None}
use Rattle.std.specs.Prelude.{int_le}
use Rattle.std.specs.List.{AllByRecursion, flat_map}
use Rattle.std.proofs.lemmas.Slice.Eq.{bytes_eq-Decides}
use Rattle.tree.specs.Steps.{◌>>=◌}
use Rattle.tree.specs.Operators.{as_number, as_numbers}
use Rattle.tree.specs.Plain.{Expression, Number, Logic, Named, Unary, Binary, Apply, Constructor, Spread, Transpose, Reshape, Reduce, Subscript, Only, Section, Subscripts, no_subscripts, subscript}
use Rattle.tree.specs.declared.ops.Value.{Value}
use Rattle.tree.specs.declared.ops.Value.TheVariants.{Int, Truth}
use Rattle.tree.specs.declared.ops.Fault.{Fault}
use Rattle.tree.specs.declared.ops.Fault.TheVariants.{Bounds}
use Rattle.meaning.specs.ArrayValues.{settled}
use Rattle.meaning.specs.Dialect.{Dialect}
use Rattle.meaning.specs.Reads.{names_in_subscript, names_in_subscripts}
use Rattle.meaning.specs.Run.{State}
use Rattle.meaning.specs.Sections.{Selector, Index, Triplet, Axis, Fixed, Along, steps_from, triplet_numbers, is_within_bounds, all_stand_in, along, axes_on, axes_selected, numbers_of, extents_of, cells_along, not_negative}
use Rattle.meaning.specs.Store.{Store, Cell, cell_at, cell_in, is_within, column_major}
use Rattle.meaning.specs.Value.{value_of, number_of, subscript_value, subscript_values, selectors, selector, array_of, is_scalar, are_indices, is_index, bound_to, selector_of}
use Rattle.meaning.proofs.Exchanges.{unread}
use Rattle.nest_order.specs.orders.Lists.{In}
use Rattle.nest_order.proofs.orders.Lists.{In-left, In-right}
use Rattle.nest_order.specs.runs.Guarded.{variable_cell}
use Rattle.nest_order.proofs.runs.Results.{both_ok, after_ok, ok_same}
use Rattle.nest_order.proofs.runs.Variables.{put_there}
use Rattle.reductions.specs.Gathering.{Loop, Lines, is_variable, sectioned, section_of}
use Rattle.reduction_laws.specs.gathering.Gathering.{IsReducible, MayStart, MayBeSection, OneIsVariable, either, GatheringIsSection, GatheringIsPlainSection}
use Rattle.reduction_laws.proofs.gathering.Ending.{turns_to, by_one}
use Rattle.reduction_laws.proofs.gathering.Values.{ValuesFrom, SameFor, subscripts_same, value_same, one_more}
use Rattle.reduction_laws.proofs.gathering.Turns.{scalar_cell}
use Rattle.reduction_laws.proofs.gathering.Law.{IsArrayOfValues, tested_law, plain_law, entry, literal_turns, count_is}

both : (p q : Bool) → (p && q) ≡ true → (p ≡ true) × (q ≡ true)
both true true e = (refl, refl)
both true false e = cc
both false q e = cc

-- ---- columns

pub one_column : (back : List ℤ) → column_major (map numbers_of (map Fixed back)) ≡ back ∷ []
one_column [] = refl
one_column (b ∷ back) = ap (λ rows. flat_map (λ rest. map (λ x. x ∷ rest) (b ∷ [])) rows) (one_column back)

ahead : (f : ℤ) (rows : List (List ℤ)) → flat_map (λ rest. map (λ x. x ∷ rest) (f ∷ [])) rows ≡ map (λ rest. f ∷ rest) rows
ahead f [] = refl
ahead f (r ∷ rows) = ap (λ more. (f ∷ r) ∷ more) (ahead f rows)

end_nil : {A : Type 0} (xs : List A) → xs ++ [] ≡ xs
end_nil [] = refl
end_nil (x ∷ xs) = ap (λ ys. x ∷ ys) (end_nil xs)

two_maps : {A B C : Type 0} (f : B → C) (g : A → B) (xs : List A) → map f (map g xs) ≡ map (λ x. f (g x)) xs
two_maps f g [] = refl
two_maps f g (x ∷ xs) = ap (λ ys. f (g x) ∷ ys) (two_maps f g xs)

pub columns : (front back zs : List ℤ) → column_major (map numbers_of (map Fixed front ++ Along zs ∷ map Fixed back)) ≡ map (λ z. front ++ z ∷ back) zs
columns [] back zs = ap (λ rows. flat_map (λ rest. map (λ x. x ∷ rest) zs) rows) (one_column back) ∙ end_nil (map (λ x. x ∷ back) zs)
columns (f ∷ front) back zs =
    ap (λ rows. flat_map (λ rest. map (λ x. x ∷ rest) (f ∷ [])) rows) (columns front back zs)
    ∙ (ahead f (map (λ z. front ++ z ∷ back) zs) ∙ two_maps (λ rest. f ∷ rest) (λ z. front ++ z ∷ back) zs)

no_extents : (back : List ℤ) → extents_of (map Fixed back) ≡ []
no_extents [] = refl
no_extents (b ∷ back) = no_extents back

one_extent : (front back zs : List ℤ) → extents_of (map Fixed front ++ Along zs ∷ map Fixed back) ≡ length zs ∷ []
one_extent [] back zs = ap (λ ns. length zs ∷ ns) (no_extents back)
one_extent (f ∷ front) back zs = one_extent front back zs

-- ---- bounds

abbrev AllWithin : List (ℤ × ℤ) → List ℤ → List ℤ → List ℤ → Type 0
AllWithin bs front back zs = AllByRecursion (λ z. is_within bs (front ++ z ∷ back) ≡ true) zs

stand : (l u : Bool) → l ≡ true → u ≡ true → (l && u) ≡ true
stand true true e f = refl
stand true false e f = cc
stand false u e f = cc

fixed_axes : (bs : List (ℤ × ℤ)) (back : List ℤ) → is_within bs back ≡ true → axes_on bs (map Index back) ≡ Ok (map Fixed back)
fixed_axes [] [] e = refl
fixed_axes [] (z ∷ back) e = cc
fixed_axes (b ∷ bs) [] e = cc
fixed_axes (b ∷ bs) (z ∷ back) e =
    let p = both (int_le b.0 z) (int_le z b.1 && is_within bs back) e in
    let q = both (int_le z b.1) (is_within bs back) p.1 in
    let s : is_within_bounds b z ≡ true = stand (int_le b.0 z) (int_le z b.1) p.0 q.0 in
    rw (s, fixed_axes bs back q.1) refl

-- the first dimension, and the others
firsts : (b : ℤ × ℤ) (bs : List (ℤ × ℤ)) (back zs : List ℤ) → AllWithin (b ∷ bs) [] back zs → all_stand_in b zs ≡ true
firsts b bs back [] h = refl
firsts b bs back (z ∷ zs) h =
    let p = both (int_le b.0 z) (int_le z b.1 && is_within bs back) h.0 in
    let q = both (int_le z b.1) (is_within bs back) p.1 in
    stand (is_within_bounds b z) (all_stand_in b zs) (stand (int_le b.0 z) (int_le z b.1) p.0 q.0) (firsts b bs back zs h.1)

rests : (b : ℤ × ℤ) (bs : List (ℤ × ℤ)) (f : ℤ) (front back zs : List ℤ) → AllWithin (b ∷ bs) (f ∷ front) back zs → AllWithin bs front back zs
rests b bs f front back [] h = tt
rests b bs f front back (z ∷ zs) h =
    let p = both (int_le b.0 f) (int_le f b.1 && is_within bs (front ++ z ∷ back)) h.0 in
    ((both (int_le f b.1) (is_within bs (front ++ z ∷ back)) p.1).1, rests b bs f front back zs h.1)

section_axes : (top : ℤ) (bs : List (ℤ × ℤ)) (front back : List ℤ) (z : ℤ) (zs : List ℤ) → triplet_numbers (pos 1) top (pos 1) ≡ z ∷ zs → AllWithin bs front back (z ∷ zs)
    → axes_on bs (map Index front ++ Triplet (pos 1) top (pos 1) ∷ map Index back) ≡ Ok (map Fixed front ++ Along (z ∷ zs) ∷ map Fixed back)
section_axes top [] [] back z zs e h = absurd (no h.0)
  where
    no : false ≡ true → ⊥
    no e = cc
section_axes top (b ∷ bs) [] back z zs e h =
    let p = both (int_le b.0 z) (int_le z b.1 && is_within bs back) h.0 in
    let q = both (int_le z b.1) (is_within bs back) p.1 in
    let a : along b (triplet_numbers (pos 1) top (pos 1)) ≡ Ok (Along (z ∷ zs)) = ap (along b) e ∙ ap (λ t. let r : Result Axis Fault = cond t (Ok (Along (z ∷ zs))) (Err Bounds) in r) (firsts b bs back (z ∷ zs) h) in
    after_ok (along b (triplet_numbers (pos 1) top (pos 1))) (λ x. (do axes ← axes_on bs (map Index back); Ok (x ∷ axes))) (Along (z ∷ zs)) a
    ∙ ap (λ (r : Result (List Axis) Fault). do axes ← r; Ok (Along (z ∷ zs) ∷ axes)) (fixed_axes bs back q.1)
section_axes top [] (f ∷ front) back z zs e h = absurd (no h.0)
  where
    no : false ≡ true → ⊥
    no e = cc
section_axes top (b ∷ bs) (f ∷ front) back z zs e h =
    let p = both (int_le b.0 f) (int_le f b.1 && is_within bs (front ++ z ∷ back)) h.0 in
    let q = both (int_le f b.1) (is_within bs (front ++ z ∷ back)) p.1 in
    let s : is_within_bounds b f ≡ true = stand (int_le b.0 f) (int_le f b.1) p.0 q.0 in
    rw (s, section_axes top bs front back z zs e (rests b bs f front back (z ∷ zs) h)) refl

-- ---- subscripts that are scalars

index_of : (lang : Dialect) (p : Subscript) (s : Store) (z : ℤ) → is_index p s.bounds ≡ true → subscript_value lang p s ≡ Ok z → selector lang p s ≡ Ok (Index z)
index_of lang (Section a b c) s z e f = cc
index_of lang (Only q) s z e f =
    let v = both_ok (value_of lang q s) as_number z f in
    rw (e, v.1) (by v.0 v.2)
  where
    by : (v : Value) → as_number v ≡ Ok z → (do zs ← as_numbers (v ∷ []); Ok (selector_of [] zs)) ≡ Ok (Index z)
    by (Int n) g = ap (λ m. Ok (Index m)) (ok_same {F = Fault} n z g)
    by (Truth b) g = cc

indices_of : (lang : Dialect) (ps : Subscripts) (s : Store) (zs : List ℤ) → are_indices ps s.bounds ≡ true → subscript_values lang ps s ≡ Ok zs → selectors lang ps s ≡ Ok (map Index zs)
indices_of lang no_subscripts s zs e f = ap (λ is. Ok (map Index is)) (ok_same {F = Fault} [] zs f)
indices_of lang (subscript p ps) s zs e f =
    let d = both (is_index p s.bounds) (are_indices ps s.bounds) e in
    let a = both_ok (subscript_value lang p s) (λ i. (do is ← subscript_values lang ps s; Ok (i ∷ is))) zs f in
    let b = both_ok (subscript_values lang ps s) (λ is. Ok (a.0 ∷ is)) zs a.2 in
    after_ok (selector lang p s) (λ x. (do xs ← selectors lang ps s; Ok (x ∷ xs))) (Index a.0) (index_of lang p s a.0 d.0 a.1)
    ∙ (ap (λ (r : Result (List Selector) Fault). do xs ← r; Ok (Index a.0 ∷ xs)) (indices_of lang ps s b.0 d.1 b.1) ∙ ap (λ is. Ok (map Index is)) (ok_same {F = Fault} (a.0 ∷ b.0) zs b.2))

one_same : (lang : Dialect) (p : Subscript) (s t : Store) → SameFor (names_in_subscript p) s t → subscript_value lang p s ≡ subscript_value lang p t
one_same lang (Only e) s t h = ap (λ (r : Result Value Fault). do x ← r; as_number x) (value_same lang e s t h)
one_same lang (Section a b c) s t h = refl

-- a subscript that is the variable has its name
variable_named : (i : List ℕ) (q : Subscript) → is_variable i q ≡ true → In i (names_in_subscript q)
variable_named i (Only (Named x no_subscripts)) g = inl (sym ((bytes_eq-Decides x i).0 g))
variable_named i (Only (Named x (subscript r rs))) g = cc
variable_named i (Only (Number n)) g = cc
variable_named i (Only (Logic n)) g = cc
variable_named i (Only (Unary o c)) g = cc
variable_named i (Only (Binary o c d)) g = cc
variable_named i (Only (Apply h es)) g = cc
variable_named i (Only (Constructor es ls)) g = cc
variable_named i (Only (Spread c n d)) g = cc
variable_named i (Only (Transpose c)) g = cc
variable_named i (Only (Reshape c es)) g = cc
variable_named i (Only (Reduce r c)) g = cc
variable_named i (Section c d h) g = cc

-- subscripts without the variable stay as they are
untouched : (i : List ℕ) (t : Expression) (ps : Subscripts) → ¬ (In i (names_in_subscripts ps)) → sectioned i t ps ≡ ps
untouched i t no_subscripts h = refl
untouched i t (subscript p ps) h = by (is_variable i p) refl (untouched i t ps (λ m. h (In-right i (names_in_subscript p) (names_in_subscripts ps) m)))
  where
    by : (b : Bool) → is_variable i p ≡ b → sectioned i t ps ≡ ps → subscript (cond b (Section (Number (pos 1)) t (Number (pos 1))) p) (sectioned i t ps) ≡ subscript p ps
    by true v e = absurd (h (In-left i (names_in_subscript p) (names_in_subscripts ps) (variable_named i p v)))
    by false v e = ap (subscript p) e

module _ (lang : Dialect) (i : List ℕ) (t : Expression) (s : Store) (top : ℤ) (counts : number_of lang t s ≡ Ok top) where
  abbrev at : ℕ → Store
  at k = bound_to i (pos k) s

  -- the variable isn't among the names
  free_of : (xs : List (List ℕ)) (j k : ℕ) → ¬ (In i xs) → SameFor xs (at j) (at k)
  free_of xs j k h = record {
    bounds = λ x. refl;
    held = λ c m. sym (unread (variable_cell i) c (Int (pos j)) s (apart c m)) ∙ unread (variable_cell i) c (Int (pos k)) s (apart c m);
  }
    where
      apart : (c : Cell) → In c.name xs → ¬ (variable_cell i ≡ c)
      apart c m e = h (subst (λ x. In x xs) (sym (ap (λ (d : Cell). d.name) e)) m)

  free_here : (xs : List (List ℕ)) (k : ℕ) → ¬ (In i xs) → SameFor xs (at k) s
  free_here xs k h = record {
    bounds = λ x. refl;
    held = λ c m. sym (unread (variable_cell i) c (Int (pos k)) s (λ e. h (subst (λ x. In x xs) (sym (ap (λ (d : Cell). d.name) e)) m)));
  }

  -- the numbers before and behind the variable
  pub record Parted (ps : Subscripts) : Type 0 where
    pub front : List ℤ
    pub back : List ℤ
    pub values : (k : ℕ) → subscript_values lang ps (bound_to i (pos k) s) ≡ Ok (front ++ pos k ∷ back)
    pub selected : selectors lang (sectioned i t ps) s ≡ Ok (map Index front ++ Triplet (pos 1) top (pos 1) ∷ map Index back)

  section_here : selector lang (Section (Number (pos 1)) t (Number (pos 1))) s ≡ Ok (Triplet (pos 1) top (pos 1))
  section_here = after_ok (number_of lang t s) (λ u. Ok (Triplet (pos 1) u (pos 1))) top counts

  -- the variable in its turns, where it is a scalar
  variable_value : (x : List ℕ) (z : ℤ) → x ≡ i → subscript_value lang (Only (Named x no_subscripts)) (at 1) ≡ Ok z → (k : ℕ) → subscript_value lang (Only (Named x no_subscripts)) (at k) ≡ Ok (pos k)
  variable_value x z e f k =
      let v = both_ok (value_of lang (Named x no_subscripts) (at 1)) as_number z f in
      let c = both_ok (cell_at x [] s) (λ c. Ok ((at 1).held c)) v.0 v.1 in
      let here : c.0 ≡ variable_cell i = scalar_cell (s.bounds x) x c.0 c.1 ∙ ap variable_cell e in
      let held : (at k).held c.0 ≡ Int (pos k) = ap (at k).held here ∙ put_there (variable_cell i) (Int (pos k)) s in
      ap (λ (r : Result Cell Fault). do v ← (do d ← r; Ok ((at k).held d)); as_number v) c.1 ∙ ap as_number held

  parted : (ps : Subscripts) (is : List ℤ) → OneIsVariable i ps → are_indices ps s.bounds ≡ true → subscript_values lang ps (at 1) ≡ Ok is → Parted ps
  parted no_subscripts is one e f = absurd one
  parted (subscript p ps) is one e f =
      let d = both (is_index p s.bounds) (are_indices ps s.bounds) e in
      let a = both_ok (subscript_value lang p (at 1)) (λ i. (do is ← subscript_values lang ps (at 1); Ok (i ∷ is))) is f in
      let b = both_ok (subscript_values lang ps (at 1)) (λ is. Ok (a.0 ∷ is)) is a.2 in
      by (is_variable i p) refl one d.0 d.1 a.0 a.1 b.0 b.1 (λ o. parted ps b.0 o d.1 b.1)
    where
      is_it : (q : Subscript) → is_variable i q ≡ true → (z : ℤ) → subscript_value lang q (at 1) ≡ Ok z → (k : ℕ) → subscript_value lang q (at k) ≡ Ok (pos k)
      is_it (Only (Named x no_subscripts)) g z f k = variable_value x z ((bytes_eq-Decides x i).0 g) f k
      is_it (Only (Named x (subscript r rs))) g z f k = cc
      is_it (Only (Number n)) g z f k = cc
      is_it (Only (Logic n)) g z f k = cc
      is_it (Only (Unary o c)) g z f k = cc
      is_it (Only (Binary o c d)) g z f k = cc
      is_it (Only (Apply h es)) g z f k = cc
      is_it (Only (Constructor es ls)) g z f k = cc
      is_it (Only (Spread c n d)) g z f k = cc
      is_it (Only (Transpose c)) g z f k = cc
      is_it (Only (Reshape c es)) g z f k = cc
      is_it (Only (Reduce r c)) g z f k = cc
      is_it (Section c d h) g z f k = cc

      by : (v : Bool) → is_variable i p ≡ v → either v (¬ (In i (names_in_subscripts ps))) (¬ (In i (names_in_subscript p)) × OneIsVariable i ps) → is_index p s.bounds ≡ true → are_indices ps s.bounds ≡ true
          → (z : ℤ) → subscript_value lang p (at 1) ≡ Ok z → (zs : List ℤ) → subscript_values lang ps (at 1) ≡ Ok zs → (OneIsVariable i ps → Parted ps) → Parted (subscript p ps)
      by true v free first others z f zs g go = record {
        front = [];
        back = zs;
        values = λ k. rw (is_it p v z f k, subscripts_same lang ps (at k) (at 1) (free_of (names_in_subscripts ps) k 1 free), g) refl;
        selected = rw (v, untouched i t ps free) (rw (section_here, indices_of lang ps s zs others (subscripts_same lang ps s (at 1) (turned (names_in_subscripts ps) free) ∙ g)) refl);
      }
        where
          turned : (xs : List (List ℕ)) → ¬ (In i xs) → SameFor xs s (at 1)
          turned xs h = let q = free_here xs 1 h in record { bounds = λ x. sym (q.bounds x); held = λ c m. sym (q.held c m) }
      by false v (free, one) first others z f zs g go =
          let more = go one in
          let alone : (k : ℕ) → subscript_value lang p (at k) ≡ Ok z = λ k. one_same lang p (at k) (at 1) (free_of (names_in_subscript p) k 1 free) ∙ f in
          let here : subscript_value lang p s ≡ Ok z = sym (one_same lang p (at 1) s (free_here (names_in_subscript p) 1 free)) ∙ f in
          record {
            front = z ∷ more.front;
            back = more.back;
            values = λ k. rw (alone k, more.values k) refl;
            selected = rw v (rw (index_of lang p s z first here, more.selected) refl);
          }

  -- ---- the cells

  abbrev place : List ℕ → List ℤ → List ℤ → ℤ → Cell
  place x front back z = record { name = x; subscripts = front ++ z ∷ back }

  -- all of them are within the bounds and hold the values
  pub record Found (x : List ℕ) (bs : List (ℤ × ℤ)) (front back : List ℤ) (k : ℕ) (values : List ℤ) : Type 0 where
    pub within : AllByRecursion (λ z. is_within bs (front ++ z ∷ back) ≡ true) (steps_from (pos k) (pos 1) (length values))
    pub held : map (λ z. s.held (record { name = x; subscripts = front ++ z ∷ back })) (steps_from (pos k) (pos 1) (length values)) ≡ map Int values

  not_variable : (x : List ℕ) (front back : List ℤ) (z : ℤ) → ¬ (variable_cell i ≡ place x front back z)
  not_variable x [] back z e = nil (ap (λ (c : Cell). c.subscripts) e)
    where
      nil : [] ≡ z ∷ back → ⊥
      nil e = cc
  not_variable x (f ∷ front) back z e = nil (ap (λ (c : Cell). c.subscripts) e)
    where
      nil : [] ≡ f ∷ (front ++ z ∷ back) → ⊥
      nil e = cc

  -- the element of a turn
  one_found : (x : List ℕ) (ps : Subscripts) (p : Parted ps) (bs : List (ℤ × ℤ)) → s.bounds x ≡ Some bs → (k : ℕ) (n : ℤ) → value_of lang (Named x ps) (at k) ≡ Ok (Int n)
      → (is_within bs (p.front ++ pos k ∷ p.back) ≡ true) × (s.held (place x p.front p.back (pos k)) ≡ Int n)
  one_found x ps p bs b k n e =
      let is : List ℤ = p.front ++ pos k ∷ p.back in
      let v : (do c ← cell_in (s.bounds x) x (p.front ++ pos k ∷ p.back); Ok ((at k).held c)) ≡ Ok (Int n)
      = sym (ap (λ (r : Result (List ℤ) Fault). do is ← r; c ← cell_at x is (at k); Ok ((at k).held c)) (p.values k)) ∙ e in
      by (is_within bs (p.front ++ pos k ∷ p.back)) refl (sym (ap (λ o. do c ← cell_in o x (p.front ++ pos k ∷ p.back); Ok ((at k).held c)) b) ∙ v)
    where
      by : (w : Bool) → is_within bs (p.front ++ pos k ∷ p.back) ≡ w → (do c ← cond w (Ok (place x p.front p.back (pos k))) (Err Bounds); Ok ((at k).held c)) ≡ Ok (Int n)
          → (is_within bs (p.front ++ pos k ∷ p.back) ≡ true) × (s.held (place x p.front p.back (pos k)) ≡ Int n)
      by true w e = (w, unread (variable_cell i) (place x p.front p.back (pos k)) (Int (pos k)) s (not_variable x p.front p.back (pos k)) ∙ ok_same {F = Fault} ((at k).held (place x p.front p.back (pos k))) (Int n) e)
      by false w e = cc

  all_found : (x : List ℕ) (ps : Subscripts) (p : Parted ps) (bs : List (ℤ × ℤ)) → s.bounds x ≡ Some bs → (k : ℕ) (values : List ℤ) → ValuesFrom lang i (Named x ps) s k values → Found x bs p.front p.back k values
  all_found x ps p bs b k [] h = record { within = tt; held = refl }
  all_found x ps p bs b k (n ∷ values) h =
      let one = one_found x ps p bs b k n h.1 in
      let more = all_found x ps p bs b (suc k) values h.2 in
      record {
        within = (one.0, subst (λ z. AllByRecursion (λ z. is_within bs (p.front ++ z ∷ p.back) ≡ true) (steps_from z (pos 1) (length values))) (sym (one_more k)) more.within);
        held = ap₂ (λ v vs. v ∷ vs) one.1 (ap (λ z. map (λ z. s.held (place x p.front p.back z)) (steps_from z (pos 1) (length values))) (one_more k) ∙ more.held);
      }

  steps_length : (z : ℤ) (n : ℕ) → length (steps_from z (pos 1) n) ≡ n
  steps_length z zero = refl
  steps_length z (suc n) = ap suc (steps_length (z +ℤ pos 1) n)

  -- ---- the section

  section_gives : (x : List ℕ) (ps : Subscripts) (n : ℤ) (values : List ℤ) → OneIsVariable i ps → are_indices ps s.bounds ≡ true → length (n ∷ values) ≡ turns_to top
      → ValuesFrom lang i (Named x ps) s 1 (n ∷ values)
      → array_of lang (Named x (sectioned i t ps)) s ≡ Ok (settled (record { extents = length (map Int (n ∷ values)) ∷ []; values = map Int (n ∷ values) }))
  section_gives x ps n values one scalars count h =
      let is = both_ok (subscript_values lang ps (at 1)) (λ is. (do c ← cell_at x is (at 1); Ok ((at 1).held c))) (Int n) h.1 in
      let p = parted ps is.0 one scalars is.1 in
      first p is.0 is.2
    where
      turns : triplet_numbers (pos 1) top (pos 1) ≡ steps_from (pos 1) (pos 1) (length (n ∷ values))
      turns = ap (λ m. steps_from (pos 1) (pos 1) (not_negative m)) (by_one (top -ℤ pos 1 +ℤ pos 1)) ∙ ap (steps_from (pos 1) (pos 1)) (count_is top ∙ sym count)

      not_plain : (q : Subscripts) → OneIsVariable i q → (bs : List (ℤ × ℤ)) (zs : List Selector) → axes_selected (sectioned i t q) bs zs ≡ axes_on bs zs
      not_plain no_subscripts o bs zs = absurd o
      not_plain (subscript r rs) o bs zs = refl

      with_bounds : Parted ps → (b : Option (List (ℤ × ℤ))) → s.bounds x ≡ b → (is : List ℤ) (c : Cell) → cell_in (s.bounds x) x is ≡ Ok c
          → array_of lang (Named x (sectioned i t ps)) s ≡ Ok (settled (record { extents = length (map Int (n ∷ values)) ∷ []; values = map Int (n ∷ values) }))
      with_bounds p None b is c e = absurd (none (sym (ap (λ o. cell_in o x is) b) ∙ e))
        where
          none : cell_in None x is ≡ Ok c → ⊥
          none e = cc
      with_bounds p (Some bs) b is c e =
          let found = all_found x ps p bs b 1 (n ∷ values) h in
          let zs : List ℤ = steps_from (pos 1 +ℤ pos 1) (pos 1) (length values) in
          let axes : List Axis = map Fixed p.front ++ Along (pos 1 ∷ zs) ∷ map Fixed p.back in
          let a : axes_selected (sectioned i t ps) bs (map Index p.front ++ Triplet (pos 1) top (pos 1) ∷ map Index p.back) ≡ Ok axes
          = not_plain ps one bs (map Index p.front ++ Triplet (pos 1) top (pos 1) ∷ map Index p.back) ∙ section_axes top bs p.front p.back (pos 1) zs turns found.within in
          let cells : map s.held (cells_along x axes) ≡ map Int (n ∷ values)
          = ap (λ rows. map s.held (map (λ is. let c : Cell = record { name = x; subscripts = is } in c) rows)) (columns p.front p.back (pos 1 ∷ zs))
          ∙ (ap (map s.held) (two_maps (λ is. let c : Cell = record { name = x; subscripts = is } in c) (λ z. p.front ++ z ∷ p.back) (pos 1 ∷ zs))
          ∙ (two_maps s.held (λ z. let c : Cell = record { name = x; subscripts = p.front ++ z ∷ p.back } in c) (pos 1 ∷ zs) ∙ found.held)) in
          let size : extents_of axes ≡ length (map Int (n ∷ values)) ∷ []
          = one_extent p.front p.back (pos 1 ∷ zs) ∙ ap (λ m. suc m ∷ []) (steps_length (pos 1 +ℤ pos 1) (length values) ∙ sym (map_length values)) in
          rw (p.selected, b, a) (ap₂ (λ ns vs. Ok (settled (record { extents = ns; values = vs }))) size cells)
        where
          map_length : (ms : List ℤ) → length (map Int ms) ≡ length ms
          map_length [] = refl
          map_length (m ∷ ms) = ap suc (map_length ms)

      first : Parted ps → (is : List ℤ) → (do c ← cell_at x is (at 1); Ok ((at 1).held c)) ≡ Ok (Int n)
          → array_of lang (Named x (sectioned i t ps)) s ≡ Ok (settled (record { extents = length (map Int (n ∷ values)) ∷ []; values = map Int (n ∷ values) }))
      first p is e = let c = both_ok (cell_at x is (at 1)) (λ c. Ok ((at 1).held c)) (Int n) e in with_bounds p (s.bounds x) refl is c.0 c.1

-- ---- the law

section_known : (lang : Dialect) (l : Loop) (y z : Lines) (s : State) (ok : IsReducible l) (may : MayStart lang l s.store) → MayBeSection l s.store → IsArrayOfValues lang l y z s (section_of l.variable l.trip l.operand) ok may
section_known lang l y z s ok may m top n values e c h =
    ap (λ q. array_of lang (section_of l.variable l.trip q) s.store) m.operand
    ∙ section_gives lang l.variable l.trip s.store top e m.name m.subscripts n values m.one (indices m.name m.subscripts m.one m.scalar) c
    (subst (λ q. ValuesFrom lang l.variable q s.store 1 (n ∷ values)) m.operand h)
  where
    indices : (x : List ℕ) (ps : Subscripts) → OneIsVariable l.variable ps → is_scalar (Named x ps) s.store.bounds ≡ true → are_indices ps s.store.bounds ≡ true
    indices x no_subscripts o e = absurd o
    indices x (subscript p ps) o e = e

pub gathering_is_section : GatheringIsSection
gathering_is_section lang l y z s ok may m w = tested_law lang l y z s (section_of l.variable l.trip l.operand) ok may (section_known lang l y z s ok may m) w

pub gathering_is_plain_section : GatheringIsPlainSection
gathering_is_plain_section lang l y z s n ok may m e h w =
    let known = section_known lang l y z s ok may m in
    let first = entry lang l y z s (section_of l.variable l.trip l.operand) ok may (section_known lang l y z s ok may m) w in
    let k = literal_turns lang l.trip s.store first.top n first.gives e h in
    plain_law lang l y z s (section_of l.variable l.trip l.operand) ok may (section_known lang l y z s ok may m) w k.0 k.1
