-- An expression over a program's names has one value in stores that agree on the program, and so has an array.
use Rattle.std.proofs.Common.{◌≡◌, refl, sym, ap, ◌∙◌, subst, ℕ, ℤ, pos, ◌+ℤ◌, ◌-ℤ◌, Bool, true, false, ◌&&◌, cond, List, [], ◌∷◌, ◌++◌, map, length, Result, Ok, Err, Option, Some, None, Contains}
use Rattle.std.specs.Prelude.{int_le}
use Rattle.std.specs.List.{All, AllByRecursion, flat_map}
use Rattle.std.proofs.lemmas.List.Elements.{recursion_from_All}
use Rattle.std.specs.Ordering.{int_eq}
use mathlib.Core.Path.{ap₂}
use Rattle.tree.specs.Steps.{◌>>=◌}
use Rattle.tree.specs.Operators.{apply, call, as_number, as_numbers, fits, reduced}
use Rattle.tree.specs.Plain.{Expression, Number, Logic, Named, Unary, Binary, Apply, Constructor, Spread, Transpose, Reshape, Reduce, Expressions, no_expressions, expression, Subscript, Only, Section, Subscripts, no_subscripts, subscript, Loops, no_loops, loop, Program}
use Rattle.tree.specs.declared.ops.Value.{Value}
use Rattle.tree.specs.declared.ops.Value.TheVariants.{Int}
use Rattle.tree.specs.declared.ops.Fault.{Fault}
use Rattle.tree.specs.declared.ops.Fault.TheVariants.{Overflow, Bounds, ZeroStep}
use Rattle.meaning.specs.Store.{Store, Cell, put, nought_like, same_cell, cell_at, cell_in, bounds_in, is_within, column_major, numbers_from, cells_of, Agree, IsCell, names_of}
use Rattle.meaning.specs.Dialect.{Dialect}
use Rattle.meaning.specs.ArrayValues.{Elements, each, settled, scalar_array, in_whole, conform, mapped, paired, spread, transposed, reshaped}
use Rattle.meaning.specs.Sections.{Selector, Index, Triplet, Vector, Axis, Fixed, Along, is_within_bounds, all_stand_in, along, axis_on, axes_on, whole_axes, axes_selected, numbers_of, extents_of, cells_along, not_negative, triplet_numbers}
use Rattle.meaning.specs.Value.{value_of, values_of, number_of, subscript_value, subscript_values, array_of, arguments_of, selectors, selector, under, is_scalar, with_arrays, numbered, evaluated, selector_of, bound_to, joined_values, for_numbers, together}
use Rattle.meaning.specs.Reads.{names_in, names_in_each, names_in_subscripts, names_in_subscript, names_in_loops}
use Rattle.meaning.proofs.CellFrame.{first_part, second_part, scalar_array-same}
use Rattle.meaning.proofs.ArrayLaws.{cells-whole}
use Rattle.meaning.proofs.Columns.{join, cells-within}

-- ---- what is selected stands within the bounds

both : (p q : Bool) → (p && q) ≡ true → (p ≡ true) × (q ≡ true)
both true true e = (refl, refl)
both true false e = cc
both false q e = cc

all-stand : (b : ℤ × ℤ) (zs : List ℤ) → all_stand_in b zs ≡ true → AllByRecursion (λ z. is_within_bounds b z ≡ true) zs
all-stand b [] e = tt
all-stand b (z ∷ zs) e = let h = both (is_within_bounds b z) (all_stand_in b zs) e in (h.0, all-stand b zs h.1)

abbrev AxesStand : List (ℤ × ℤ) → List Axis → Type 0
AxesStand [] [] = Unit {0}
AxesStand (b ∷ bs) (a ∷ axes) = AllByRecursion (λ z. is_within_bounds b z ≡ true) (numbers_of a) × AxesStand bs axes
AxesStand _ _ = ⊥

along-stands : (b : ℤ × ℤ) (zs : List ℤ) (a : Axis) → along b zs ≡ Ok a → AllByRecursion (λ z. is_within_bounds b z ≡ true) (numbers_of a)
along-stands b zs a e = by (all_stand_in b zs) refl e
  where
    by : (t : Bool) → all_stand_in b zs ≡ t → ◌≡◌ {A = Result Axis Fault} (cond t (Ok (Along zs)) (Err Bounds)) (Ok a) → AllByRecursion (λ z. is_within_bounds b z ≡ true) (numbers_of a)
    by true p q = let same : Along zs ≡ a = cc in subst (λ (c : Axis). AllByRecursion (λ z. is_within_bounds b z ≡ true) (numbers_of c)) same (all-stand b zs p)
    by false p q = cc

axis-stands : (b : ℤ × ℤ) (s : Selector) (a : Axis) → axis_on b s ≡ Ok a → AllByRecursion (λ z. is_within_bounds b z ≡ true) (numbers_of a)
axis-stands b (Index z) a e = by (is_within_bounds b z) refl e
  where
    by : (t : Bool) → is_within_bounds b z ≡ t → ◌≡◌ {A = Result Axis Fault} (cond t (Ok (Fixed z)) (Err Bounds)) (Ok a) → AllByRecursion (λ z. is_within_bounds b z ≡ true) (numbers_of a)
    by true p q = let same : Fixed z ≡ a = cc in subst (λ (c : Axis). AllByRecursion (λ z. is_within_bounds b z ≡ true) (numbers_of c)) same (p, tt)
    by false p q = cc
axis-stands b (Triplet l u k) a e = by (int_eq k (pos 0)) e
  where
    by : (t : Bool) → ◌≡◌ {A = Result Axis Fault} (cond t (Err ZeroStep) (along b (triplet_numbers l u k))) (Ok a) → AllByRecursion (λ z. is_within_bounds b z ≡ true) (numbers_of a)
    by true q = cc
    by false q = along-stands b (triplet_numbers l u k) a q
axis-stands b (Vector zs) a e = along-stands b zs a e

axes-stand : (bs : List (ℤ × ℤ)) (ps : List Selector) (axes : List Axis) → axes_on bs ps ≡ Ok axes → AxesStand bs axes
axes-stand [] [] axes e = let same : [] ≡ axes = cc in subst (AxesStand []) same tt
axes-stand [] (p ∷ ps) axes e = cc
axes-stand (b ∷ bs) [] axes e = cc
axes-stand (b ∷ bs) (p ∷ ps) axes e = by (axis_on b p) refl (axes_on bs ps) (axes-stand bs ps) e
  where
    by : (r : Result Axis Fault) → axis_on b p ≡ r → (q : Result (List Axis) Fault) → ((more : List Axis) → q ≡ Ok more → AxesStand bs more)
        → ◌≡◌ {A = Result (List Axis) Fault} (do a ← r; more ← q; Ok (a ∷ more)) (Ok axes) → AxesStand (b ∷ bs) axes
    by (Ok a) f (Ok more) h g = let same : a ∷ more ≡ axes = cc in subst (AxesStand (b ∷ bs)) same (axis-stands b p a f, h more refl)
    by (Ok a) f (Err x) h g = cc
    by (Err x) f q h g = cc

inside : (x y z : Bool) → (x && y) ≡ true → z ≡ true → (x && (y && z)) ≡ true
inside true true true e f = refl
inside true true false e f = cc
inside true false z e f = cc
inside false y z e f = cc

placed : (b : ℤ × ℤ) (bs : List (ℤ × ℤ)) (rest : List ℤ) (xs : List ℤ) → is_within bs rest ≡ true → AllByRecursion (λ z. is_within_bounds b z ≡ true) xs
    → AllByRecursion (λ is. is_within (b ∷ bs) is ≡ true) (map (λ x. x ∷ rest) xs)
placed b bs rest [] h k = tt
placed b bs rest (x ∷ xs) h k = (inside (int_le b.0 x) (int_le x b.1) (is_within bs rest) k.0 h, placed b bs rest xs h k.1)

rows-within : (b : ℤ × ℤ) (bs : List (ℤ × ℤ)) (xs : List ℤ) (ys : List (List ℤ)) → AllByRecursion (λ z. is_within_bounds b z ≡ true) xs → AllByRecursion (λ is. is_within bs is ≡ true) ys
    → AllByRecursion (λ is. is_within (b ∷ bs) is ≡ true) (flat_map (λ rest. map (λ x. x ∷ rest) xs) ys)
rows-within b bs xs [] h k = tt
rows-within b bs xs (rest ∷ ys) h k = join _ (map (λ x. x ∷ rest) xs) _ (placed b bs rest xs k.0 h) (rows-within b bs xs ys h k.1)

selected-within : (bs : List (ℤ × ℤ)) (axes : List Axis) → AxesStand bs axes → AllByRecursion (λ is. is_within bs is ≡ true) (column_major (map numbers_of axes))
selected-within [] [] h = (refl, tt)
selected-within [] (a ∷ axes) h = absurd h
selected-within (b ∷ bs) [] h = absurd h
selected-within (b ∷ bs) (a ∷ axes) h = rows-within b bs (numbers_of a) _ h.0 (selected-within bs axes h.1)

abbrev CellOf : List ℕ → List (ℤ × ℤ) → Cell → Type 0
CellOf x bs c = (c.name ≡ x) × (is_within bs c.subscripts ≡ true)

cells-named : (x : List ℕ) (bs : List (ℤ × ℤ)) (iss : List (List ℤ)) → AllByRecursion (λ is. is_within bs is ≡ true) iss
    → AllByRecursion (CellOf x bs) (map (λ is. record { name = x; subscripts = is }) iss)
cells-named x bs [] h = tt
cells-named x bs (is ∷ iss) h = ((refl, h.0), cells-named x bs iss h.1)

pub cells-selected : (x : List ℕ) (ps : Subscripts) (bs : List (ℤ × ℤ)) (zs : List Selector) (axes : List Axis) → axes_selected ps bs zs ≡ Ok axes → AllByRecursion (CellOf x bs) (cells_along x axes)
cells-selected x no_subscripts bs zs axes e =
    let same : whole_axes bs ≡ axes = cc in
    subst (λ (as' : List Axis). AllByRecursion (CellOf x bs) (cells_along x as')) same (subst (AllByRecursion (CellOf x bs)) (sym (cells-whole x bs)) (cells-within x bs))
cells-selected x (subscript p ps) bs zs axes e = cells-named x bs (column_major (map numbers_of axes)) (selected-within bs axes (axes-stand bs zs axes e))

pub kind-put : (b : Bool) (v h k : Value) → nought_like h ≡ nought_like k → nought_like (cond b v h) ≡ nought_like (cond b v k)
kind-put true v h k e = refl
kind-put false v h k e = e

-- ---- values

module _ (d : Dialect) (p : Program) where
  abbrev Declared : List ℕ → Type 0
  Declared x = Contains (names_of p) x

  abbrev AllDeclared : List (List ℕ) → Type 0
  AllDeclared xs = AllByRecursion Declared xs

  front : (xs ys : List (List ℕ)) → AllDeclared (xs ++ ys) → AllDeclared xs
  front = first_part Declared

  back : (xs ys : List (List ℕ)) → AllDeclared (xs ++ ys) → AllDeclared ys
  back = second_part Declared

  same_bounds : (s t : Store) → Agree p s t → (xs : List (List ℕ)) → AllDeclared xs → AllByRecursion (λ x. s.bounds x ≡ t.bounds x) xs
  same_bounds s t a [] n = tt
  same_bounds s t a (x ∷ xs) n = (a.bounds x n.0, same_bounds s t a xs n.1)

  -- the variable of a loop
  bound-agree : (s t : Store) → Agree p s t → (x : List ℕ) (z : ℤ) → Agree p (bound_to x z s) (bound_to x z t)
  bound-agree s t a x z = record { bounds = a.bounds; held = λ c n here. ap (cond (same_cell (record { name = x; subscripts = [] }) c) (Int z)) (a.held c n here); kinds = λ c n. kind-put (same_cell (record { name = x; subscripts = [] }) c) (Int z) (s.held c) (t.held c) (a.kinds c n) }

  held-agree : (s t : Store) → Agree p s t → (x : List ℕ) → Declared x → (bs : List (ℤ × ℤ)) → s.bounds x ≡ Some bs → (cs : List Cell) → AllByRecursion (CellOf x bs) cs → map s.held cs ≡ map t.held cs
  held-agree s t a x n bs e [] h = refl
  held-agree s t a x n bs e (c ∷ cs) h =
      let name : s.bounds c.name ≡ Some bs = ap s.bounds h.0.0 ∙ e in
      let here : IsCell s c = ap (λ o. cell_in o c.name c.subscripts) name ∙ ap (λ b. cond b (Ok c) (Err Bounds)) h.0.1 in
      ap₂ (λ v vs. v ∷ vs) (a.held c (subst Declared (sym h.0.0) n) here) (held-agree s t a x n bs e cs h.1)

  -- a scalar or an element
  element-agree : (s t : Store) → Agree p s t → (x : List ℕ) → Declared x → (is : List ℤ) → ◌≡◌ {A = Result Value Fault} (do c ← cell_at x is s; Ok (s.held c)) (do c ← cell_at x is t; Ok (t.held c))
  element-agree s t a x n is = by (s.bounds x) refl ∙ ap (λ o. do c ← cell_in o x is; Ok (t.held c)) (a.bounds x n)
    where
      within : (bs : List (ℤ × ℤ)) → s.bounds x ≡ Some bs → (b : Bool) → is_within bs is ≡ b
          → ◌≡◌ {A = Result Value Fault} (do c ← cond b (Ok (record { name = x; subscripts = is })) (Err Bounds); Ok (s.held c)) (do c ← cond b (Ok (record { name = x; subscripts = is })) (Err Bounds); Ok (t.held c))
      within bs e true f = let c : Cell = record { name = x; subscripts = is } in ap Ok (a.held c n (ap (λ o. cell_in o x is) e ∙ ap (λ b. cond b (Ok c) (Err Bounds)) f))
      within bs e false f = refl

      by : (o : Option (List (ℤ × ℤ))) → s.bounds x ≡ o → ◌≡◌ {A = Result Value Fault} (do c ← cell_in o x is; Ok (s.held c)) (do c ← cell_in o x is; Ok (t.held c))
      by (Some bs) e = within bs e (is_within bs is) refl
      by None e = refl

  -- what a name selects
  part-agree : (s t : Store) → Agree p s t → (x : List ℕ) → Declared x → (ps : Subscripts) (zs : List Selector) (o : Option (List (ℤ × ℤ))) → s.bounds x ≡ o
      → ◌≡◌ {A = Result (Elements Value) Fault}
      (do b ← bounds_in o; axes ← axes_selected ps b zs; Ok (settled (record { extents = extents_of axes; values = map s.held (cells_along x axes) })))
      (do b ← bounds_in o; axes ← axes_selected ps b zs; Ok (settled (record { extents = extents_of axes; values = map t.held (cells_along x axes) })))
  part-agree s t a x n ps zs None e = refl
  part-agree s t a x n ps zs (Some bs) e = by (axes_selected ps bs zs) refl
    where
      by : (r : Result (List Axis) Fault) → axes_selected ps bs zs ≡ r
          → ◌≡◌ {A = Result (Elements Value) Fault} (do axes ← r; Ok (settled (record { extents = extents_of axes; values = map s.held (cells_along x axes) }))) (do axes ← r; Ok (settled (record { extents = extents_of axes; values = map t.held (cells_along x axes) })))
      by (Ok axes) f = ap (λ vs. Ok (settled (record { extents = extents_of axes; values = vs }))) (held-agree s t a x n bs e (cells_along x axes) (cells-selected x ps bs zs axes f))
      by (Err f) g = refl

  evaluated-agree : (b c : Bool) (r r2 : Result Value Fault) (g g2 : Result (Elements Value) Fault) → b ≡ c → r ≡ r2 → g ≡ g2 → evaluated b r g ≡ evaluated c r2 g2
  evaluated-agree b c r r2 g g2 e f o = ap (λ q. evaluated q r g) e ∙ ap₂ (evaluated c) f o

  whole-agree : (e : Expression) → AllDeclared (names_in e) → {s t : Store} → value_of d e s ≡ value_of d e t → array_of d e s ≡ array_of d e t → (u v : Store) → Agree p s t
      → evaluated (is_scalar e s.bounds) (value_of d e s) (array_of d e s) ≡ evaluated (is_scalar e t.bounds) (value_of d e t) (array_of d e t)
  whole-agree e n {s} {t} f g u v a = evaluated-agree _ _ _ _ _ _ (scalar_array-same d s t e (same_bounds s t a (names_in e) n)) f g

  abbrev Agrees : {A : Type 0} → (Store → Result A Fault) → Type 0
  Agrees f = (s t : Store) → Agree p s t → f s ≡ f t

  turns-agree : (bits : ℕ) (x : List ℕ) (f : Store → Result (List Value) Fault) → Agrees f → (s t : Store) → Agree p s t → (zs : List ℤ)
      → each (λ z. cond (fits bits z) (f (bound_to x z s)) (Err Overflow)) zs ≡ each (λ z. cond (fits bits z) (f (bound_to x z t)) (Err Overflow)) zs
  turns-agree bits x f h s t a [] = refl
  turns-agree bits x f h s t a (z ∷ zs) = ap₂ (λ r q. do y ← cond (fits bits z) r (Err Overflow); ys ← q; Ok (y ∷ ys)) (h (bound_to x z s) (bound_to x z t) (bound-agree s t a x z)) (turns-agree bits x f h s t a zs)

  for_numbers-agree : (bits : ℕ) (x : List ℕ) (l u : ℤ) (f : Store → Result (List Value) Fault) → Agrees f → Agrees (for_numbers bits x l u f)
  for_numbers-agree bits x l u f h s t a = ap (λ r. do vss ← r; Ok (joined_values vss)) (turns-agree bits x f h s t a (numbers_from l (not_negative (u -ℤ l +ℤ pos 1))))

  one_loop : (x : List ℕ) (e c : Expression) (f : Store → Result (List Value) Fault) → Agrees (value_of d e) → Agrees (value_of d c) → Agrees f
      → Agrees (λ t. (do l ← numbered (value_of d e t); u ← numbered (value_of d c t); for_numbers d.bits x l u f t))
  one_loop x e c f he hc h s t a =
      by (numbered (value_of d e s)) (numbered (value_of d c s))
      ∙ ap₂ (λ r q. do l ← numbered r; u ← numbered q; for_numbers d.bits x l u f t) (he s t a) (hc s t a)
    where
      by : (l u : Result ℤ Fault) → ◌≡◌ {A = Result (List Value) Fault} (do i ← l; j ← u; for_numbers d.bits x i j f s) (do i ← l; j ← u; for_numbers d.bits x i j f t)
      by (Ok i) (Ok j) = for_numbers-agree d.bits x i j f h s t a
      by (Ok i) (Err g) = refl
      by (Err g) u = refl

  further : (s t : Store) (es : Expressions) (ns : List ℕ) (r : Result (Elements Value) Fault) → ((ms : List ℕ) → arguments_of d es ms s ≡ arguments_of d es ms t)
      → ◌≡◌ {A = Result (Elements (List Value)) Fault} (do g ← r; ms ← conform ns g.extents; more ← arguments_of d es ms s; Ok (together g more)) (do g ← r; ms ← conform ns g.extents; more ← arguments_of d es ms t; Ok (together g more))
  further s t es ns (Err f) same = refl
  further s t es ns (Ok g) same = by (conform ns g.extents)
    where
      by : (q : Result (List ℕ) Fault) → ◌≡◌ {A = Result (Elements (List Value)) Fault} (do ms ← q; more ← arguments_of d es ms s; Ok (together g more)) (do ms ← q; more ← arguments_of d es ms t; Ok (together g more))
      by (Err f) = refl
      by (Ok ms) = ap (λ r. do more ← r; Ok (together g more)) (same ms)

  mutual
    pub value_of-agree : (e : Expression) → AllDeclared (names_in e) → Agrees (value_of d e)
    value_of-agree (Number k) n s t a = refl
    value_of-agree (Logic v) n s t a = refl
    value_of-agree (Named x ps) n s t a = by (subscript_values d ps s) ∙ ap (λ r. do is ← r; c ← cell_at x is t; Ok (t.held c)) (subscript_values-agree ps n.1 s t a)
      where
        by : (r : Result (List ℤ) Fault) → ◌≡◌ {A = Result Value Fault} (do is ← r; c ← cell_at x is s; Ok (s.held c)) (do is ← r; c ← cell_at x is t; Ok (t.held c))
        by (Ok is) = element-agree s t a x n.0 is
        by (Err f) = refl
    value_of-agree (Unary o e) n s t a = ap (λ r. do x ← r; apply o x x) (value_of-agree e n s t a)
    value_of-agree (Binary o e f) n s t a = ap₂ (λ r q. do x ← r; y ← q; apply o x y) (value_of-agree e (front (names_in e) (names_in f) n) s t a) (value_of-agree f (back (names_in e) (names_in f) n) s t a)
    value_of-agree (Apply f es) n s t a = ap (λ r. do xs ← r; call f xs) (values_of-agree es n s t a)
    value_of-agree (Reduce r e) n s t a = ap (λ q. with_arrays d.arrays (do g ← q; v ← in_whole g; zs ← as_numbers v.values; reduced d.bits r zs)) (array_of-agree e n s t a)
    value_of-agree (Constructor es ls) n s t a = refl
    value_of-agree (Spread e k f) n s t a = refl
    value_of-agree (Transpose e) n s t a = refl
    value_of-agree (Reshape e es) n s t a = refl

    pub values_of-agree : (es : Expressions) → AllDeclared (names_in_each es) → Agrees (values_of d es)
    values_of-agree no_expressions n s t a = refl
    values_of-agree (expression e es) n s t a = ap₂ (λ r q. do x ← r; xs ← q; Ok (x ∷ xs)) (value_of-agree e (front (names_in e) (names_in_each es) n) s t a) (values_of-agree es (back (names_in e) (names_in_each es) n) s t a)

    pub subscript_values-agree : (ps : Subscripts) → AllDeclared (names_in_subscripts ps) → Agrees (subscript_values d ps)
    subscript_values-agree no_subscripts n s t a = refl
    subscript_values-agree (subscript q ps) n s t a = ap₂ (λ r o. do i ← r; is ← o; Ok (i ∷ is)) (subscript_value-agree q (front (names_in_subscript q) (names_in_subscripts ps) n) s t a) (subscript_values-agree ps (back (names_in_subscript q) (names_in_subscripts ps) n) s t a)

    subscript_value-agree : (q : Subscript) → AllDeclared (names_in_subscript q) → Agrees (subscript_value d q)
    subscript_value-agree (Only e) n s t a = ap (λ r. do x ← r; as_number x) (value_of-agree e n s t a)
    subscript_value-agree (Section e f g) n s t a = refl

    pub array_of-agree : (e : Expression) → AllDeclared (names_in e) → Agrees (array_of d e)
    array_of-agree (Number k) n s t a = refl
    array_of-agree (Logic v) n s t a = refl
    array_of-agree (Named x ps) n s t a =
        by (selectors d ps s)
        ∙ ap₂ (λ r o. do zs ← r; b ← bounds_in o; axes ← axes_selected ps b zs; Ok (settled (record { extents = extents_of axes; values = map t.held (cells_along x axes) }))) (selectors-agree ps n.1 s t a) (a.bounds x n.0)
      where
        by : (r : Result (List Selector) Fault) → ◌≡◌ {A = Result (Elements Value) Fault}
            (do zs ← r; b ← bounds_in (s.bounds x); axes ← axes_selected ps b zs; Ok (settled (record { extents = extents_of axes; values = map s.held (cells_along x axes) })))
            (do zs ← r; b ← bounds_in (s.bounds x); axes ← axes_selected ps b zs; Ok (settled (record { extents = extents_of axes; values = map t.held (cells_along x axes) })))
        by (Ok zs) = part-agree s t a x n.0 ps zs (s.bounds x) refl
        by (Err f) = refl
    array_of-agree (Unary o e) n s t a = ap (λ r. do g ← r; Ok (mapped (λ x. apply o x x) g)) (array_of-agree e n s t a)
    array_of-agree (Binary o e f) n s t a = ap₂ (λ r q. do g ← r; i ← q; paired (apply o) g i) (array_of-agree e (front (names_in e) (names_in f) n) s t a) (array_of-agree f (back (names_in e) (names_in f) n) s t a)
    array_of-agree (Apply f es) n s t a = ap (λ r. do g ← r; Ok (mapped (call f) g)) (arguments-agree es [] n s t a)
    array_of-agree (Constructor es ls) n s t a = ap (λ r. do vs ← r; Ok (settled (record { extents = length vs ∷ []; values = vs })))
        (under-agree ls (back (names_in_each es) (names_in_loops ls) n) (values_of d es) (values_of-agree es (front (names_in_each es) (names_in_loops ls) n)) s t a)
    array_of-agree (Spread e k f) n s t a = ap₂ (λ r q. do v ← r; z ← numbered q; Ok (spread k (not_negative z) v)) (whole-agree e (front (names_in e) (names_in f) n) (value_of-agree e (front (names_in e) (names_in f) n) s t a) (array_of-agree e (front (names_in e) (names_in f) n) s t a) s t a) (value_of-agree f (back (names_in e) (names_in f) n) s t a)
    array_of-agree (Transpose e) n s t a = ap (λ r. do g ← r; v ← in_whole g; Ok (transposed v)) (array_of-agree e n s t a)
    array_of-agree (Reshape e es) n s t a = ap₂ (λ r q. do g ← r; v ← in_whole g; xs ← q; zs ← as_numbers xs; reshaped (map not_negative zs) v) (array_of-agree e (front (names_in e) (names_in_each es) n) s t a) (values_of-agree es (back (names_in e) (names_in_each es) n) s t a)
    array_of-agree (Reduce r e) n s t a = ap (λ q. do g ← q; v ← in_whole g; zs ← as_numbers v.values; x ← reduced d.bits r zs; Ok (settled (scalar_array x))) (array_of-agree e n s t a)

    arguments-agree : (es : Expressions) (ns : List ℕ) → AllDeclared (names_in_each es) → Agrees (arguments_of d es ns)
    arguments-agree no_expressions ns n s t a = refl
    arguments-agree (expression e es) ns n s t a = further s t es ns (array_of d e s) (λ ms. arguments-agree es ms (back (names_in e) (names_in_each es) n) s t a)
        ∙ ap (λ r. do g ← r; ms ← conform ns g.extents; more ← arguments_of d es ms t; Ok (together g more)) (array_of-agree e (front (names_in e) (names_in_each es) n) s t a)

    pub selectors-agree : (ps : Subscripts) → AllDeclared (names_in_subscripts ps) → Agrees (selectors d ps)
    selectors-agree no_subscripts n s t a = refl
    selectors-agree (subscript q ps) n s t a = ap₂ (λ r o. do z ← r; zs ← o; Ok (z ∷ zs)) (selector-agree q (front (names_in_subscript q) (names_in_subscripts ps) n) s t a) (selectors-agree ps (back (names_in_subscript q) (names_in_subscripts ps) n) s t a)

    selector-agree : (q : Subscript) → AllDeclared (names_in_subscript q) → Agrees (selector d q)
    selector-agree (Only e) n s t a = ap (λ r. do v ← r; zs ← as_numbers v.values; Ok (selector_of v.extents zs)) (whole-agree e n (value_of-agree e n s t a) (array_of-agree e n s t a) s t a)
    selector-agree (Section e f g) n s t a =
        let ef = front (names_in e ++ names_in f) (names_in g) n in
        ap₂ (λ (r q : Result Value Fault). do l ← numbered r; u ← numbered q; i ← numbered (value_of d g s); Ok (Triplet l u i)) (value_of-agree e (front (names_in e) (names_in f) ef) s t a) (value_of-agree f (back (names_in e) (names_in f) ef) s t a)
        ∙ ap (λ (r : Result Value Fault). do l ← numbered (value_of d e t); u ← numbered (value_of d f t); i ← numbered r; Ok (Triplet l u i)) (value_of-agree g (back (names_in e ++ names_in f) (names_in g) n) s t a)

    under-agree : (ls : Loops) → AllDeclared (names_in_loops ls) → (f : Store → Result (List Value) Fault) → Agrees f → Agrees (under d ls f)
    under-agree no_loops n f h s t a = h s t a
    under-agree (loop x e c ls) n f h s t a =
        let ec = front (names_in e ++ names_in c) (names_in_loops ls) n.1 in
        under-agree ls (back (names_in e ++ names_in c) (names_in_loops ls) n.1) _ (one_loop x e c f (value_of-agree e (front (names_in e) (names_in c) ec)) (value_of-agree c (back (names_in e) (names_in c) ec)) h) s t a

pub value_from_names : (d : Dialect) (p : Program) (e : Expression) (s t : Store) → Agree p s t → All (Contains (names_of p)) (names_in e) → value_of d e s ≡ value_of d e t
value_from_names d p e s t h n = value_of-agree d p e (recursion_from_All (Contains (names_of p)) (names_in e) n) s t h
