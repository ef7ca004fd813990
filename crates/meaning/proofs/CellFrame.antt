-- The value of an expression depends on the cells that it reads alone.
use Rattle.std.proofs.Common.{◌≡◌, refl, sym, ap, ◌∙◌, subst, ℕ, ℤ, pos, ◌+ℤ◌, ◌-ℤ◌, Bool, true, false, cond, ◌&&◌, List, [], ◌∷◌, ◌++◌, map, length, Result, Ok, Err, Option, Some, None, All}
use Rattle.std.specs.List.{AllByRecursion}
use Rattle.std.proofs.lemmas.List.Elements.{recursion_from_All}
use mathlib.Core.Path.{ap₂}
use Rattle.tree.specs.Steps.{◌>>=◌}
use Rattle.tree.specs.Operators.{apply, call, as_number, as_numbers, fits, reduced}
use Rattle.tree.specs.Plain.{Expression, Number, Logic, Named, Unary, Binary, Apply, Constructor, Spread, Transpose, Reshape, Reduce, Expressions, no_expressions, expression, Subscript, Only, Section, Subscripts, no_subscripts, subscript, Loops, no_loops, loop, Reference}
use Rattle.tree.specs.declared.ops.Value.{Value}
use Rattle.tree.specs.declared.ops.Value.TheVariants.{Int}
use Rattle.tree.specs.declared.ops.Fault.{Fault}
use Rattle.tree.specs.declared.ops.Fault.TheVariants.{Overflow}
use Rattle.meaning.specs.Store.{Store, Cell, put, same_cell, cell_at, cell_in, bounds_in, numbers_from}
use Rattle.meaning.specs.Dialect.{Dialect}
use Rattle.meaning.specs.ArrayValues.{Elements, each, settled, scalar_array, in_whole, conform, mapped, paired, spread, transposed, reshaped}
use Rattle.meaning.specs.Sections.{Selector, Triplet, Axis, axes_selected, extents_of, cells_along, not_negative}
use Rattle.meaning.specs.Value.{value_of, values_of, number_of, subscript_value, subscript_values, cell_named, array_of, arguments_of, selectors, selector, under, is_scalar, are_scalar, are_indices, is_index, name_is_scalar, with_arrays, numbered, evaluated, selector_of, bound_to, joined_values, for_numbers, together}
use Rattle.meaning.specs.Reads.{names_in, names_in_each, names_in_subscripts, names_in_subscript, names_in_loops}
use Rattle.meaning.specs.CellsRead.{found, found_along, same_name, others, in_each, for_numbers_read, between}
use Rattle.meaning.specs.CellsRead.{read_by_one_way, cells_read, cells_read_by_each, cells_read_by}
use Rattle.meaning.specs.CellsRead.{cells_read_by_subscript, array_cells_read, array_cells_read_by_each}
use Rattle.meaning.specs.CellsRead.{cells_read_to_select, cells_read_by_selector, cells_read_under}

pub first_part : {A : Type 0} (P : A → Type 0) (xs ys : List A) → AllByRecursion P (xs ++ ys) → AllByRecursion P xs
first_part P [] ys h = tt
first_part P (x ∷ xs) ys h = (h.0, first_part P xs ys h.1)

pub second_part : {A : Type 0} (P : A → Type 0) (xs ys : List A) → AllByRecursion P (xs ++ ys) → AllByRecursion P ys
second_part P [] ys h = h
second_part P (x ∷ xs) ys h = second_part P xs ys h.1

-- the bounds of names in two stores
module _ (bs bt : List ℕ → Option (List (ℤ × ℤ))) where
  abbrev SameBounds : List ℕ → Type 0
  SameBounds x = bs x ≡ bt x

  abbrev SameValue : (h k : Cell → Value) → Cell → Type 0
  SameValue h k c = h c ≡ k c

  abbrev left : (Cell → Value) → Store
  left h = record { bounds = bs; held = h }

  abbrev right : (Cell → Value) → Store
  right k = record { bounds = bt; held = k }

  abbrev Bounded : List (List ℕ) → Type 0
  Bounded xs = AllByRecursion SameBounds xs

  front : (xs ys : List (List ℕ)) → Bounded (xs ++ ys) → Bounded xs
  front = first_part SameBounds

  back : (xs ys : List (List ℕ)) → Bounded (xs ++ ys) → Bounded ys
  back = second_part SameBounds

  -- ---- scalars are the same in both

  name_is_scalar-same : (ps : Subscripts) (b c : Option (List (ℤ × ℤ))) (p q : Bool) → b ≡ c → p ≡ q → name_is_scalar ps b p ≡ name_is_scalar ps c q
  name_is_scalar-same ps b c p q e f = ap₂ (name_is_scalar ps) e f

  mutual
    is_scalar-same : (e : Expression) → Bounded (names_in e) → is_scalar e bs ≡ is_scalar e bt
    is_scalar-same (Number n) b = refl
    is_scalar-same (Logic v) b = refl
    is_scalar-same (Named x ps) b = name_is_scalar-same ps (bs x) (bt x) (are_indices ps bs) (are_indices ps bt) b.0 (are_indices-same ps b.1)
    is_scalar-same (Unary o a) b = is_scalar-same a b
    is_scalar-same (Binary o a c) b = ap₂ (λ p q. p && q) (is_scalar-same a (front (names_in a) (names_in c) b)) (is_scalar-same c (back (names_in a) (names_in c) b))
    is_scalar-same (Apply f es) b = are_scalar-same es b
    is_scalar-same (Constructor es ls) b = refl
    is_scalar-same (Spread a k e) b = refl
    is_scalar-same (Transpose a) b = refl
    is_scalar-same (Reshape a es) b = refl
    is_scalar-same (Reduce r a) b = refl

    are_scalar-same : (es : Expressions) → Bounded (names_in_each es) → are_scalar es bs ≡ are_scalar es bt
    are_scalar-same no_expressions b = refl
    are_scalar-same (expression e es) b = ap₂ (λ p q. p && q) (is_scalar-same e (front (names_in e) (names_in_each es) b)) (are_scalar-same es (back (names_in e) (names_in_each es) b))

    are_indices-same : (ps : Subscripts) → Bounded (names_in_subscripts ps) → are_indices ps bs ≡ are_indices ps bt
    are_indices-same no_subscripts b = refl
    are_indices-same (subscript p ps) b = ap₂ (λ p q. p && q) (is_index-same p (front (names_in_subscript p) (names_in_subscripts ps) b)) (are_indices-same ps (back (names_in_subscript p) (names_in_subscripts ps) b))

    is_index-same : (p : Subscript) → Bounded (names_in_subscript p) → is_index p bs ≡ is_index p bt
    is_index-same (Only e) b = is_scalar-same e b
    is_index-same (Section a b c) h = refl

  -- ---- what a name selects

  picked : (h k : Cell → Value) (q : Result Cell Fault) → AllByRecursion (SameValue h k) (found q) → ◌≡◌ {A = Result Value Fault} (do c ← q; Ok (h c)) (do c ← q; Ok (k c))
  picked h k (Ok c) r = ap Ok r.0
  picked h k (Err f) r = refl

  selected : (h k : Cell → Value) (x : List ℕ) (r : Result (List ℤ) Fault) → SameBounds x → AllByRecursion (SameValue h k) (found (do is ← r; cell_in (bs x) x is))
      → ◌≡◌ {A = Result Value Fault} (do is ← r; c ← cell_in (bs x) x is; Ok (h c)) (do is ← r; c ← cell_in (bt x) x is; Ok (k c))
  selected h k x (Ok is) e m = picked h k (cell_in (bs x) x is) m ∙ ap (λ b. do c ← cell_in b x is; Ok (k c)) e
  selected h k x (Err f) e m = refl

  same_values : (h k : Cell → Value) (cs : List Cell) → AllByRecursion (SameValue h k) cs → map h cs ≡ map k cs
  same_values h k [] r = refl
  same_values h k (c ∷ cs) r = ap₂ (λ v vs. v ∷ vs) r.0 (same_values h k cs r.1)

  abbrev part_of : (Cell → Value) → List ℕ → Result (List Axis) Fault → Result (Elements Value) Fault
  part_of h x r = do
    axes ← r
    Ok (settled (record { extents = extents_of axes; values = map h (cells_along x axes) }))

  part_of-same : (h k : Cell → Value) (x : List ℕ) (r : Result (List Axis) Fault) → AllByRecursion (SameValue h k) (found_along x r) → part_of h x r ≡ part_of k x r
  part_of-same h k x (Ok axes) m = ap (λ vs. Ok (settled (record { extents = extents_of axes; values = vs }))) (same_values h k (cells_along x axes) m)
  part_of-same h k x (Err f) m = refl

  -- what is selected, by the answers of its parts
  selected_array : (h k : Cell → Value) (x : List ℕ) (ps : Subscripts) (r : Result (List Selector) Fault) (o : Option (List (ℤ × ℤ)))
      → AllByRecursion (SameValue h k) (found_along x (do zs ← r; b ← bounds_in o; axes_selected ps b zs))
      → ◌≡◌ {A = Result (Elements Value) Fault}
      (do zs ← r; b ← bounds_in o; axes ← axes_selected ps b zs; Ok (settled (record { extents = extents_of axes; values = map h (cells_along x axes) })))
      (do zs ← r; b ← bounds_in o; axes ← axes_selected ps b zs; Ok (settled (record { extents = extents_of axes; values = map k (cells_along x axes) })))
  selected_array h k x ps (Ok zs) (Some b) m = part_of-same h k x (axes_selected ps b zs) m
  selected_array h k x ps (Ok zs) None m = refl
  selected_array h k x ps (Err f) o m = refl

  -- ---- the variable of a loop

  bound-same : (h k : Cell → Value) (x : List ℕ) (z : ℤ) (cs : List Cell) → AllByRecursion (SameValue h k) (others x cs)
      → AllByRecursion (SameValue (bound_to x z (left h)).held (bound_to x z (right k)).held) cs
  bound-same h k x z [] m = tt
  bound-same h k x z (c ∷ cs) m = by (bound-same h k x z cs) (same_name x c) m
    where
      by : (AllByRecursion (SameValue h k) (others x cs) → AllByRecursion (SameValue (bound_to x z (left h)).held (bound_to x z (right k)).held) cs) → (b : Bool) → AllByRecursion (SameValue h k) (cond b (others x cs) (c ∷ others x cs))
          → (cond b (Int z) (h c) ≡ cond b (Int z) (k c)) × AllByRecursion (SameValue (bound_to x z (left h)).held (bound_to x z (right k)).held) cs
      by more true m = (refl, more m)
      by more false m = (m.0, more m.1)

  others-join : (P : Cell → Type 0) (x : List ℕ) (cs ds : List Cell) → AllByRecursion P (others x (cs ++ ds)) → AllByRecursion P (others x cs) × AllByRecursion P (others x ds)
  others-join P x [] ds m = (tt, m)
  others-join P x (c ∷ cs) ds m = by (others-join P x cs ds) (same_name x c) m
    where
      by : (AllByRecursion P (others x (cs ++ ds)) → AllByRecursion P (others x cs) × AllByRecursion P (others x ds)) → (b : Bool) → AllByRecursion P (cond b (others x (cs ++ ds)) (c ∷ others x (cs ++ ds))) → AllByRecursion P (cond b (others x cs) (c ∷ others x cs)) × AllByRecursion P (others x ds)
      by more true m = more m
      by more false m = ((m.0, (more m.1).0), (more m.1).1)

  -- f and the cells that it reads: it answers alike where these hold alike
  abbrev AnswersAlike : {A : Type 0} → (Store → Result A Fault) → (Store → List Cell) → Type 0
  AnswersAlike f fc = (h k : Cell → Value) → AllByRecursion (SameValue h k) (fc (left h)) → f (left h) ≡ f (right k)

  numbers-same : (bits : ℕ) (x : List ℕ) (f : Store → Result (List Value) Fault) (fc : Store → List Cell) → AnswersAlike f fc
      → (h k : Cell → Value) (zs : List ℤ) → AllByRecursion (SameValue h k) (others x (in_each (λ z. fc (bound_to x z (left h))) zs))
      → each (λ z. cond (fits bits z) (f (bound_to x z (left h))) (Err Overflow)) zs ≡ each (λ z. cond (fits bits z) (f (bound_to x z (right k))) (Err Overflow)) zs
  numbers-same bits x f fc alike h k [] m = refl
  numbers-same bits x f fc alike h k (z ∷ zs) m =
      let parts = others-join (SameValue h k) x (fc (bound_to x z (left h))) (in_each (λ z. fc (bound_to x z (left h))) zs) m in
      let one = alike (bound_to x z (left h)).held (bound_to x z (right k)).held (bound-same h k x z (fc (bound_to x z (left h))) parts.0) in
      ap₂ (λ r q. do y ← cond (fits bits z) r (Err Overflow); ys ← q; Ok (y ∷ ys)) one (numbers-same bits x f fc alike h k zs parts.1)

  for_numbers-same : (bits : ℕ) (x : List ℕ) (f : Store → Result (List Value) Fault) (fc : Store → List Cell) → AnswersAlike f fc
      → (h k : Cell → Value) (l u : Result ℤ Fault) → AllByRecursion (SameValue h k) (between l u (λ a b. for_numbers_read x a b fc (left h)))
      → ◌≡◌ {A = Result (List Value) Fault} (do a ← l; b ← u; for_numbers bits x a b f (left h)) (do a ← l; b ← u; for_numbers bits x a b f (right k))
  for_numbers-same bits x f fc alike h k (Ok a) (Ok b) m = ap (λ r. do vss ← r; Ok (joined_values vss)) (numbers-same bits x f fc alike h k (numbers_from a (not_negative (b -ℤ a +ℤ pos 1))) m)
  for_numbers-same bits x f fc alike h k (Ok a) (Err g) m = refl
  for_numbers-same bits x f fc alike h k (Err g) u m = refl

  evaluated-same : (p q : Bool) (r r2 : Result Value Fault) (g g2 : Result (Elements Value) Fault) (P : Cell → Type 0) (cs ds : List Cell)
      → p ≡ q → (AllByRecursion P cs → r ≡ r2) → (AllByRecursion P ds → g ≡ g2) → AllByRecursion P (read_by_one_way p cs ds) → evaluated p r g ≡ evaluated q r2 g2
  evaluated-same true q r r2 g g2 P cs ds e f o m = ap (λ w. do x ← w; Ok (scalar_array x)) (f m) ∙ ap (λ b. evaluated b r2 g2) e
  evaluated-same false q r r2 g g2 P cs ds e f o m = ap (λ w. do x ← w; in_whole x) (o m) ∙ ap (λ b. evaluated b r2 g2) e

  module _ (d : Dialect) where
    -- the arguments behind one whose array is r
    further : (es : Expressions) (ns : List ℕ) (h k : Cell → Value) (r : Result (Elements Value) Fault) → ((ms : List ℕ) → arguments_of d es ms (left h) ≡ arguments_of d es ms (right k))
        → ◌≡◌ {A = Result (Elements (List Value)) Fault} (do g ← r; ms ← conform ns g.extents; more ← arguments_of d es ms (left h); Ok (together g more)) (do g ← r; ms ← conform ns g.extents; more ← arguments_of d es ms (right k); Ok (together g more))
    further es ns h k (Err f) same = refl
    further es ns h k (Ok g) same = by (conform ns g.extents)
      where
        by : (q : Result (List ℕ) Fault) → ◌≡◌ {A = Result (Elements (List Value)) Fault} (do ms ← q; more ← arguments_of d es ms (left h); Ok (together g more)) (do ms ← q; more ← arguments_of d es ms (right k); Ok (together g more))
        by (Err f) = refl
        by (Ok ms) = ap (λ r. do more ← r; Ok (together g more)) (same ms)

    one_loop : (x : List ℕ) (a c : Expression) (f : Store → Result (List Value) Fault) (fc : Store → List Cell) → AnswersAlike f fc
        → AnswersAlike (value_of d a) (cells_read d a) → AnswersAlike (value_of d c) (cells_read d c)
        → AnswersAlike (λ t. (do l ← numbered (value_of d a t); u ← numbered (value_of d c t); for_numbers d.bits x l u f t))
        (λ t. cells_read d a t ++ (cells_read d c t ++ between (number_of d a t) (number_of d c t) (λ l u. for_numbers_read x l u fc t)))
    one_loop x a c f fc alike va vc h k m =
        let P = SameValue h k in
        let ra = cells_read d a (left h) in
        let rc = cells_read d c (left h) in
        let rest = between (number_of d a (left h)) (number_of d c (left h)) (λ l u. for_numbers_read x l u fc (left h)) in
        let later = second_part P ra (rc ++ rest) m in
        for_numbers-same d.bits x f fc alike h k (number_of d a (left h)) (number_of d c (left h)) (second_part P rc rest later)
        ∙ ap₂ (λ r q. do l ← numbered r; u ← numbered q; for_numbers d.bits x l u f (right k)) (va h k (first_part P ra (rc ++ rest) m)) (vc h k (first_part P rc rest later))

    mutual
      pub value-same : (e : Expression) → Bounded (names_in e) → (h k : Cell → Value) → AllByRecursion (SameValue h k) (cells_read d e (left h)) → value_of d e (left h) ≡ value_of d e (right k)
      value-same (Number n) b h k m = refl
      value-same (Logic v) b h k m = refl
      value-same (Named x ps) b h k m =
          let read = cells_read_by d ps (left h) in
          let place = found (cell_named d (record { name = x; subscripts = ps }) (left h)) in
          selected h k x (subscript_values d ps (left h)) b.0 (second_part (SameValue h k) read place m)
          ∙ ap (λ r. do is ← r; c ← cell_in (bt x) x is; Ok (k c)) (subscript_values-same ps b.1 h k (first_part (SameValue h k) read place m))
      value-same (Unary o a) b h k m = ap (λ r. do x ← r; apply o x x) (value-same a b h k m)
      value-same (Binary o a c) b h k m = ap₂ (λ r q. do x ← r; y ← q; apply o x y)
          (value-same a (front (names_in a) (names_in c) b) h k (first_part (SameValue h k) (cells_read d a (left h)) (cells_read d c (left h)) m))
          (value-same c (back (names_in a) (names_in c) b) h k (second_part (SameValue h k) (cells_read d a (left h)) (cells_read d c (left h)) m))
      value-same (Apply f es) b h k m = ap (λ r. do xs ← r; call f xs) (values-same es b h k m)
      value-same (Reduce r a) b h k m = ap (λ q. with_arrays d.arrays (do g ← q; v ← in_whole g; zs ← as_numbers v.values; reduced d.bits r zs)) (array-same a b h k m)
      value-same (Constructor es ls) b h k m = refl
      value-same (Spread a i e) b h k m = refl
      value-same (Transpose a) b h k m = refl
      value-same (Reshape a es) b h k m = refl

      values-same : (es : Expressions) → Bounded (names_in_each es) → (h k : Cell → Value) → AllByRecursion (SameValue h k) (cells_read_by_each d es (left h)) → values_of d es (left h) ≡ values_of d es (right k)
      values-same no_expressions b h k m = refl
      values-same (expression e es) b h k m = ap₂ (λ r q. do x ← r; xs ← q; Ok (x ∷ xs))
          (value-same e (front (names_in e) (names_in_each es) b) h k (first_part (SameValue h k) (cells_read d e (left h)) (cells_read_by_each d es (left h)) m))
          (values-same es (back (names_in e) (names_in_each es) b) h k (second_part (SameValue h k) (cells_read d e (left h)) (cells_read_by_each d es (left h)) m))

      pub subscript_values-same : (ps : Subscripts) → Bounded (names_in_subscripts ps) → (h k : Cell → Value) → AllByRecursion (SameValue h k) (cells_read_by d ps (left h)) → subscript_values d ps (left h) ≡ subscript_values d ps (right k)
      subscript_values-same no_subscripts b h k m = refl
      subscript_values-same (subscript p ps) b h k m = ap₂ (λ r q. do i ← r; is ← q; Ok (i ∷ is))
          (subscript_value-same p (front (names_in_subscript p) (names_in_subscripts ps) b) h k (first_part (SameValue h k) (cells_read_by_subscript d p (left h)) (cells_read_by d ps (left h)) m))
          (subscript_values-same ps (back (names_in_subscript p) (names_in_subscripts ps) b) h k (second_part (SameValue h k) (cells_read_by_subscript d p (left h)) (cells_read_by d ps (left h)) m))

      subscript_value-same : (p : Subscript) → Bounded (names_in_subscript p) → (h k : Cell → Value) → AllByRecursion (SameValue h k) (cells_read_by_subscript d p (left h)) → subscript_value d p (left h) ≡ subscript_value d p (right k)
      subscript_value-same (Only e) b h k m = ap (λ r. do x ← r; as_number x) (value-same e b h k m)
      subscript_value-same (Section a b c) e h k m = refl

      pub array-same : (e : Expression) → Bounded (names_in e) → (h k : Cell → Value) → AllByRecursion (SameValue h k) (array_cells_read d e (left h)) → array_of d e (left h) ≡ array_of d e (right k)
      array-same (Number n) b h k m = refl
      array-same (Logic v) b h k m = refl
      array-same (Named x ps) b h k m =
          let read = cells_read_to_select d ps (left h) in
          let place = found_along x (do zs ← selectors d ps (left h); bs2 ← bounds_in (bs x); axes_selected ps bs2 zs) in
          selected_array h k x ps (selectors d ps (left h)) (bs x) (second_part (SameValue h k) read place m)
          ∙ ap₂ (λ r o. do zs ← r; b2 ← bounds_in o; axes ← axes_selected ps b2 zs; Ok (settled (record { extents = extents_of axes; values = map k (cells_along x axes) })))
          (selectors-same ps b.1 h k (first_part (SameValue h k) read place m)) b.0
      array-same (Unary o a) b h k m = ap (λ r. do g ← r; Ok (mapped (λ x. apply o x x) g)) (array-same a b h k m)
      array-same (Binary o a c) b h k m = ap₂ (λ r q. do g ← r; i ← q; paired (apply o) g i)
          (array-same a (front (names_in a) (names_in c) b) h k (first_part (SameValue h k) (array_cells_read d a (left h)) (array_cells_read d c (left h)) m))
          (array-same c (back (names_in a) (names_in c) b) h k (second_part (SameValue h k) (array_cells_read d a (left h)) (array_cells_read d c (left h)) m))
      array-same (Apply f es) b h k m = ap (λ r. do g ← r; Ok (mapped (call f) g)) (arguments-same es [] b h k m)
      array-same (Constructor es ls) b h k m = ap (λ r. do vs ← r; Ok (settled (record { extents = length vs ∷ []; values = vs })))
          (under-same ls (back (names_in_each es) (names_in_loops ls) b) (values_of d es) (cells_read_by_each d es) (values-same es (front (names_in_each es) (names_in_loops ls) b)) h k m)
      array-same (Spread a i e) b h k m =
          let one = read_by_one_way (is_scalar a bs) (cells_read d a (left h)) (array_cells_read d a (left h)) in
          let ba = front (names_in a) (names_in e) b in
          ap₂ (λ r q. do v ← r; z ← numbered q; Ok (spread i (not_negative z) v))
          (evaluated-same (is_scalar a bs) (is_scalar a bt) _ _ _ _ (SameValue h k) (cells_read d a (left h)) (array_cells_read d a (left h)) (is_scalar-same a ba) (value-same a ba h k) (array-same a ba h k)
          (first_part (SameValue h k) one (cells_read d e (left h)) m))
          (value-same e (back (names_in a) (names_in e) b) h k (second_part (SameValue h k) one (cells_read d e (left h)) m))
      array-same (Transpose a) b h k m = ap (λ r. do g ← r; v ← in_whole g; Ok (transposed v)) (array-same a b h k m)
      array-same (Reshape a es) b h k m = ap₂ (λ r q. do g ← r; v ← in_whole g; xs ← q; zs ← as_numbers xs; reshaped (map not_negative zs) v)
          (array-same a (front (names_in a) (names_in_each es) b) h k (first_part (SameValue h k) (array_cells_read d a (left h)) (cells_read_by_each d es (left h)) m))
          (values-same es (back (names_in a) (names_in_each es) b) h k (second_part (SameValue h k) (array_cells_read d a (left h)) (cells_read_by_each d es (left h)) m))
      array-same (Reduce r a) b h k m = ap (λ q. do g ← q; v ← in_whole g; zs ← as_numbers v.values; x ← reduced d.bits r zs; Ok (settled (scalar_array x))) (array-same a b h k m)

      arguments-same : (es : Expressions) (ns : List ℕ) → Bounded (names_in_each es) → (h k : Cell → Value) → AllByRecursion (SameValue h k) (array_cells_read_by_each d es (left h)) → arguments_of d es ns (left h) ≡ arguments_of d es ns (right k)
      arguments-same no_expressions ns b h k m = refl
      arguments-same (expression e es) ns b h k m = further es ns h k (array_of d e (left h)) (λ ms. arguments-same es ms (back (names_in e) (names_in_each es) b) h k (second_part (SameValue h k) (array_cells_read d e (left h)) (array_cells_read_by_each d es (left h)) m))
          ∙ ap (λ r. do g ← r; ms ← conform ns g.extents; more ← arguments_of d es ms (right k); Ok (together g more)) (array-same e (front (names_in e) (names_in_each es) b) h k (first_part (SameValue h k) (array_cells_read d e (left h)) (array_cells_read_by_each d es (left h)) m))

      selectors-same : (ps : Subscripts) → Bounded (names_in_subscripts ps) → (h k : Cell → Value) → AllByRecursion (SameValue h k) (cells_read_to_select d ps (left h)) → selectors d ps (left h) ≡ selectors d ps (right k)
      selectors-same no_subscripts b h k m = refl
      selectors-same (subscript p ps) b h k m = ap₂ (λ r q. do z ← r; zs ← q; Ok (z ∷ zs))
          (selector-same p (front (names_in_subscript p) (names_in_subscripts ps) b) h k (first_part (SameValue h k) (cells_read_by_selector d p (left h)) (cells_read_to_select d ps (left h)) m))
          (selectors-same ps (back (names_in_subscript p) (names_in_subscripts ps) b) h k (second_part (SameValue h k) (cells_read_by_selector d p (left h)) (cells_read_to_select d ps (left h)) m))

      selector-same : (p : Subscript) → Bounded (names_in_subscript p) → (h k : Cell → Value) → AllByRecursion (SameValue h k) (cells_read_by_selector d p (left h)) → selector d p (left h) ≡ selector d p (right k)
      selector-same (Only e) b h k m = ap (λ r. do v ← r; zs ← as_numbers v.values; Ok (selector_of v.extents zs))
          (evaluated-same (is_scalar e bs) (is_scalar e bt) _ _ _ _ (SameValue h k) (cells_read d e (left h)) (array_cells_read d e (left h)) (is_scalar-same e b) (value-same e b h k) (array-same e b h k) m)
      selector-same (Section a b c) e h k m =
          let P = SameValue h k in
          let ra = cells_read d a (left h) in
          let rb = cells_read d b (left h) in
          let rc = cells_read d c (left h) in
          let bab = front (names_in a ++ names_in b) (names_in c) e in
          let later = second_part P ra (rb ++ rc) m in
          ap₂ (λ (r q : Result Value Fault). do l ← numbered r; u ← numbered q; i ← numbered (value_of d c (left h)); Ok (Triplet l u i))
          (value-same a (front (names_in a) (names_in b) bab) h k (first_part P ra (rb ++ rc) m)) (value-same b (back (names_in a) (names_in b) bab) h k (first_part P rb rc later))
          ∙ ap (λ (r : Result Value Fault). do l ← numbered (value_of d a (right k)); u ← numbered (value_of d b (right k)); i ← numbered r; Ok (Triplet l u i))
          (value-same c (back (names_in a ++ names_in b) (names_in c) e) h k (second_part P rb rc later))

      under-same : (ls : Loops) → Bounded (names_in_loops ls) → (f : Store → Result (List Value) Fault) (fc : Store → List Cell) → AnswersAlike f fc
          → (h k : Cell → Value) → AllByRecursion (SameValue h k) (cells_read_under d ls fc (left h)) → under d ls f (left h) ≡ under d ls f (right k)
      under-same no_loops b f fc alike h k m = alike h k m
      under-same (loop x a c ls) b f fc alike h k m =
          let ac = front (names_in a ++ names_in c) (names_in_loops ls) b.1 in
          under-same ls (back (names_in a ++ names_in c) (names_in_loops ls) b.1) _ _
          (one_loop x a c f fc alike (value-same a (front (names_in a) (names_in c) ac)) (value-same c (back (names_in a) (names_in c) ac))) h k m

pub value_from_cells : (d : Dialect) (e : Expression) (s t : Store)
    → All (λ x. s.bounds x ≡ t.bounds x) (names_in e) → All (λ c. s.held c ≡ t.held c) (cells_read d e s) → value_of d e s ≡ value_of d e t
value_from_cells d e s t b h = value-same s.bounds t.bounds d e (recursion_from_All (λ x. s.bounds x ≡ t.bounds x) (names_in e) b) s.held t.held
    (recursion_from_All (λ c. s.held c ≡ t.held c) (cells_read d e s) h)

pub array_from_cells : (d : Dialect) (e : Expression) (s t : Store)
    → All (λ x. s.bounds x ≡ t.bounds x) (names_in e) → All (λ c. s.held c ≡ t.held c) (array_cells_read d e s) → array_of d e s ≡ array_of d e t
array_from_cells d e s t b h = array-same s.bounds t.bounds d e (recursion_from_All (λ x. s.bounds x ≡ t.bounds x) (names_in e) b) s.held t.held
    (recursion_from_All (λ c. s.held c ≡ t.held c) (array_cells_read d e s) h)

module _ (d : Dialect) (s t : Store) where
  pub value_of-same : (e : Expression) → AllByRecursion (λ x. s.bounds x ≡ t.bounds x) (names_in e) → AllByRecursion (λ c. s.held c ≡ t.held c) (cells_read d e s) → value_of d e s ≡ value_of d e t
  value_of-same e b h = value-same s.bounds t.bounds d e b s.held t.held h

  pub array_of-same : (e : Expression) → AllByRecursion (λ x. s.bounds x ≡ t.bounds x) (names_in e) → AllByRecursion (λ c. s.held c ≡ t.held c) (array_cells_read d e s) → array_of d e s ≡ array_of d e t
  array_of-same e b h = array-same s.bounds t.bounds d e b s.held t.held h

  pub cell_named-same : (r : Reference) → s.bounds r.name ≡ t.bounds r.name → AllByRecursion (λ x. s.bounds x ≡ t.bounds x) (names_in_subscripts r.subscripts) → AllByRecursion (λ c. s.held c ≡ t.held c) (cells_read_by d r.subscripts s) → cell_named d r s ≡ cell_named d r t
  cell_named-same r e b h = ap₂ (λ q o. do is ← q; cell_in o r.name is) (subscript_values-same s.bounds t.bounds d r.subscripts b s.held t.held h) e

  pub scalar_array-same : (e : Expression) → AllByRecursion (λ x. s.bounds x ≡ t.bounds x) (names_in e) → is_scalar e s.bounds ≡ is_scalar e t.bounds
  scalar_array-same e b = is_scalar-same s.bounds t.bounds e b
