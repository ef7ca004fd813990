-- The element of an array at a position depends on the cells that it reads there alone.
use Rattle.std.proofs.Common.{◌≡◌, refl, ap, ◌∙◌, subst, ℕ, zero, suc, ℤ, Bool, true, false, List, [], ◌∷◌, ◌++◌, map, Result, Ok, Err, Option, Some, None}
use Rattle.std.proofs.lemmas.List.Elements.{recursion_from_All}
use Rattle.std.specs.List.{AllByRecursion}
use mathlib.Core.Path.{ap₂}
use Rattle.tree.specs.Operators.{apply, call, as_numbers}
use Rattle.tree.specs.Plain.{Expression, Number, Logic, Named, Unary, Binary, Apply, Constructor, Spread, Transpose, Reshape, Reduce, Expressions, no_expressions, expression, Subscript, Only, Section, Subscripts, no_subscripts, subscript, Reference}
use Rattle.tree.specs.Steps.{◌>>=◌}
use Rattle.tree.specs.declared.ops.Fault.{Fault}
use Rattle.tree.specs.declared.ops.Value.{Value}
use Rattle.meaning.specs.ArrayStatements.{axes_named}
use Rattle.meaning.specs.ArrayValues.{Elements, place_of, value_at_index, settled, scalar_array, in_whole, conform, mapped, paired}
use Rattle.meaning.specs.Dialect.{Dialect}
use Rattle.meaning.specs.Reads.{names_in, names_in_each, names_in_subscripts, names_in_subscript}
use Rattle.meaning.specs.CellsRead.{read_by_one_way, cells_read, array_cells_read, cells_read_to_select}
use Rattle.meaning.specs.CellsRead.{cells_read_by_selector}
use Rattle.meaning.specs.Sections.{Axis, Selector, Triplet, axes_selected, extents_of, cells_along}
use Rattle.meaning.specs.Store.{Store, Cell, bounds_in}
use Rattle.meaning.specs.Value.{value_of, array_of, arguments_of, selectors, selector, is_scalar, numbered, evaluated, selector_of, together}
use Rattle.meaning.proofs.CellFrame.{first_part, second_part, value_of-same, array_of-same, scalar_array-same}
use Rattle.meaning_laws.specs.arrays.Elements.{nth_cell, found_at, element_of, cells_read_at, cells_read_at_by_each, ElementComesFromCellsRead}

-- ---- arrays that are alike at a position

abbrev pub AlikeAt : {A : Type 0} → List ℕ → Result (Elements A) Fault → Result (Elements A) Fault → Type 0
AlikeAt is (Ok g) (Ok h) = (g.extents ≡ h.extents) × (g.at is ≡ h.at is)
AlikeAt is (Ok g) (Err f) = ⊥
AlikeAt is (Err f) (Ok g) = ⊥
AlikeAt is (Err f) (Err k) = f ≡ k

itself : {A : Type 0} (is : List ℕ) (r : Result (Elements A) Fault) → AlikeAt is r r
itself is (Ok g) = (refl, refl)
itself is (Err f) = refl

same_array : {A : Type 0} (is : List ℕ) (r q : Result (Elements A) Fault) → r ≡ q → AlikeAt is r q
same_array is r q e = subst (AlikeAt is r) e (itself is r)

element_alike : {A : Type 0} (is : List ℕ) (r q : Result (Elements A) Fault) → AlikeAt is r q → ◌≡◌ {A = Result A Fault} (do g ← r; g.at is) (do g ← q; g.at is)
element_alike is (Ok g) (Ok h) a = a.1
element_alike is (Ok g) (Err f) a = absurd a
element_alike is (Err f) (Ok g) a = absurd a
element_alike is (Err f) (Err k) a = ap Err a

mapped_alike : {A B : Type 0} (is : List ℕ) (f : A → Result B Fault) (r q : Result (Elements A) Fault) → AlikeAt is r q → AlikeAt is (do g ← r; Ok (mapped f g)) (do g ← q; Ok (mapped f g))
mapped_alike is f (Ok g) (Ok h) a = (a.0, ap (λ z. do x ← z; f x) a.1)
mapped_alike is f (Ok g) (Err k) a = absurd a
mapped_alike is f (Err k) (Ok g) a = absurd a
mapped_alike is f (Err k) (Err m) a = a

module _ {A B C : Type 0} (is : List ℕ) (f : A → B → Result C Fault) where
  two_alike : (g g' : Elements A) (h h' : Elements B) → g.extents ≡ g'.extents → g.at is ≡ g'.at is → h.extents ≡ h'.extents → h.at is ≡ h'.at is → AlikeAt is (paired f g h) (paired f g' h')
  two_alike g g' h h' eg ag eh ah = by (conform g.extents h.extents) (conform g'.extents h'.extents) (ap₂ conform eg eh)
    where
      by : (r q : Result (List ℕ) Fault) → r ≡ q
          → AlikeAt is (do ns ← r; Ok (record { extents = ns; at = λ is. (do x ← g.at is; y ← h.at is; f x y) })) (do ns ← q; Ok (record { extents = ns; at = λ is. (do x ← g'.at is; y ← h'.at is; f x y) }))
      by (Ok ms) (Ok ns) e = (cc, ap₂ (λ v w. do x ← v; y ← w; f x y) ag ah)
      by (Ok ms) (Err k) e = absurd cc
      by (Err k) (Ok ns) e = absurd cc
      by (Err k) (Err m) e = cc

  paired_alike : (r r' : Result (Elements A) Fault) (q q' : Result (Elements B) Fault) → AlikeAt is r r' → AlikeAt is q q' → AlikeAt is (do g ← r; h ← q; paired f g h) (do g ← r'; h ← q'; paired f g h)
  paired_alike (Ok g) (Ok g') (Ok h) (Ok h') a b = two_alike g g' h h' a.0 a.1 b.0 b.1
  paired_alike (Ok g) (Ok g') (Err k) (Err m) a b = b
  paired_alike (Ok g) (Ok g') (Ok h) (Err m) a b = absurd b
  paired_alike (Ok g) (Ok g') (Err k) (Ok h) a b = absurd b
  paired_alike (Ok g) (Err m) q q' a b = absurd a
  paired_alike (Err k) (Ok g) q q' a b = absurd a
  paired_alike (Err k) (Err m) q q' a b = a

-- an argument, and those behind it
further_alike : (is ns : List ℕ) (r r' : Result (Elements Value) Fault) (more more' : List ℕ → Result (Elements (List Value)) Fault) → AlikeAt is r r' → ((ms : List ℕ) → AlikeAt is (more ms) (more' ms))
    → AlikeAt is (do g ← r; ms ← conform ns g.extents; h ← more ms; Ok (together g h)) (do g ← r'; ms ← conform ns g.extents; h ← more' ms; Ok (together g h))
further_alike is ns (Ok g) (Err m) more more' a b = absurd a
further_alike is ns (Err k) (Ok g) more more' a b = absurd a
further_alike is ns (Err k) (Err m) more more' a b = a
further_alike is ns (Ok g) (Ok g') more more' a b = by (conform ns g.extents) (conform ns g'.extents) (ap (conform ns) a.0)
  where
    behind : (q q' : Result (Elements (List Value)) Fault) → AlikeAt is q q' → AlikeAt is (do h ← q; Ok (together g h)) (do h ← q'; Ok (together g' h))
    behind (Ok h) (Ok h') c = (c.0, ap₂ (λ v w. do x ← v; xs ← w; Ok (x ∷ xs)) a.1 c.1)
    behind (Ok h) (Err m) c = absurd c
    behind (Err k) (Ok h) c = absurd c
    behind (Err k) (Err m) c = c

    by : (r q : Result (List ℕ) Fault) → r ≡ q → AlikeAt is (do ms ← r; h ← more ms; Ok (together g h)) (do ms ← q; h ← more' ms; Ok (together g' h))
    by (Ok ms) (Ok ks) e = let same : ms ≡ ks = cc in behind (more ms) (more' ks) (subst (λ (js : List ℕ). AlikeAt is (more ms) (more' js)) same (b ms))
    by (Ok ms) (Err k) e = absurd cc
    by (Err k) (Ok ks) e = absurd cc
    by (Err k) (Err m) e = cc

-- ---- the element of a name

nth_same : (h k : Cell → Value) (cs : List Cell) (n : ℕ) → AllByRecursion (λ c. h c ≡ k c) (nth_cell cs n) → value_at_index (map h cs) n ≡ value_at_index (map k cs) n
nth_same h k [] n m = refl
nth_same h k (c ∷ cs) zero m = ap Ok m.0
nth_same h k (c ∷ cs) (suc n) m = nth_same h k cs n m

abbrev named_array : (Cell → Value) → List ℕ → Subscripts → Result (List Selector) Fault → Option (List (ℤ × ℤ)) → Result (Elements Value) Fault
named_array h x ps r o = do
  zs ← r
  bs ← bounds_in o
  axes ← axes_selected ps bs zs
  Ok (settled (record { extents = extents_of axes; values = map h (cells_along x axes) }))

named_alike : (is : List ℕ) (h k : Cell → Value) (x : List ℕ) (ps : Subscripts) (r : Result (List Selector) Fault) (o : Option (List (ℤ × ℤ)))
    → AllByRecursion (λ c. h c ≡ k c) (found_at x is (do zs ← r; bs ← bounds_in o; axes_selected ps bs zs)) → AlikeAt is (named_array h x ps r o) (named_array k x ps r o)
named_alike is h k x ps (Err f) o m = refl
named_alike is h k x ps (Ok zs) None m = refl
named_alike is h k x ps (Ok zs) (Some bs) m = by (axes_selected ps bs zs) m
  where
    by : (q : Result (List Axis) Fault) → AllByRecursion (λ c. h c ≡ k c) (found_at x is q)
        → AlikeAt is (do axes ← q; Ok (settled (record { extents = extents_of axes; values = map h (cells_along x axes) }))) (do axes ← q; Ok (settled (record { extents = extents_of axes; values = map k (cells_along x axes) })))
    by (Ok axes) m = (refl, nth_same h k (cells_along x axes) (place_of (extents_of axes) is) m)
    by (Err f) m = refl

-- ---- in two stores

evaluated_same : (P : Cell → Type 0) (b : Bool) (r r' : Result Value Fault) (g g' : Result (Elements Value) Fault) (cs ds : List Cell)
    → (AllByRecursion P cs → r ≡ r') → (AllByRecursion P ds → g ≡ g') → AllByRecursion P (read_by_one_way b cs ds) → evaluated b r g ≡ evaluated b r' g'
evaluated_same P true r r' g g' cs ds e f m = ap (λ w. do x ← w; Ok (scalar_array x)) (e m)
evaluated_same P false r r' g g' cs ds e f m = ap (λ w. do x ← w; in_whole x) (f m)

module _ (d : Dialect) (s t : Store) where
  abbrev Bounded : List (List ℕ) → Type 0
  Bounded xs = AllByRecursion (λ x. s.bounds x ≡ t.bounds x) xs

  abbrev Held : List Cell → Type 0
  Held cs = AllByRecursion (λ c. s.held c ≡ t.held c) cs

  front : (xs ys : List (List ℕ)) → Bounded (xs ++ ys) → Bounded xs
  front = first_part (λ x. s.bounds x ≡ t.bounds x)

  back : (xs ys : List (List ℕ)) → Bounded (xs ++ ys) → Bounded ys
  back = second_part (λ x. s.bounds x ≡ t.bounds x)

  first_read : (cs ds : List Cell) → Held (cs ++ ds) → Held cs
  first_read = first_part (λ c. s.held c ≡ t.held c)

  then_read : (cs ds : List Cell) → Held (cs ++ ds) → Held ds
  then_read = second_part (λ c. s.held c ≡ t.held c)

  selector_same : (p : Subscript) → Bounded (names_in_subscript p) → Held (cells_read_by_selector d p s) → selector d p s ≡ selector d p t
  selector_same (Only e) b m = ap (λ r. do v ← r; zs ← as_numbers v.values; Ok (selector_of v.extents zs))
      (evaluated_same (λ c. s.held c ≡ t.held c) (is_scalar e s.bounds) _ _ _ _ (cells_read d e s) (array_cells_read d e s) (value_of-same d s t e b) (array_of-same d s t e b) m
      ∙ ap (λ q. evaluated q (value_of d e t) (array_of d e t)) (scalar_array-same d s t e b))
  selector_same (Section l u k) b m =
      let later = then_read (cells_read d l s) (cells_read d u s ++ cells_read d k s) m in
      let both = front (names_in l ++ names_in u) (names_in k) b in
      ap₂ (λ (r q : Result Value Fault). do a ← numbered r; c ← numbered q; i ← numbered (value_of d k s); Ok (Triplet a c i))
      (value_of-same d s t l (front (names_in l) (names_in u) both) (first_read (cells_read d l s) (cells_read d u s ++ cells_read d k s) m))
      (value_of-same d s t u (back (names_in l) (names_in u) both) (first_read (cells_read d u s) (cells_read d k s) later))
      ∙ ap (λ (r : Result Value Fault). do a ← numbered (value_of d l t); c ← numbered (value_of d u t); i ← numbered r; Ok (Triplet a c i))
      (value_of-same d s t k (back (names_in l ++ names_in u) (names_in k) b) (then_read (cells_read d u s) (cells_read d k s) later))

  selectors_same : (ps : Subscripts) → Bounded (names_in_subscripts ps) → Held (cells_read_to_select d ps s) → selectors d ps s ≡ selectors d ps t
  selectors_same no_subscripts b m = refl
  selectors_same (subscript p ps) b m = ap₂ (λ r q. do z ← r; zs ← q; Ok (z ∷ zs))
      (selector_same p (front (names_in_subscript p) (names_in_subscripts ps) b) (first_read (cells_read_by_selector d p s) (cells_read_to_select d ps s) m))
      (selectors_same ps (back (names_in_subscript p) (names_in_subscripts ps) b) (then_read (cells_read_by_selector d p s) (cells_read_to_select d ps s) m))

  pub axes_same : (r : Reference) → s.bounds r.name ≡ t.bounds r.name → Bounded (names_in_subscripts r.subscripts) → Held (cells_read_to_select d r.subscripts s) → axes_named d r s ≡ axes_named d r t
  axes_same r e b m = ap₂ (λ (q : Result (List Selector) Fault) (o : Option (List (ℤ × ℤ))). do zs ← q; bs ← bounds_in o; axes_selected r.subscripts bs zs) (selectors_same r.subscripts b m) e

  module _ (is : List ℕ) where
    mutual
      alike : (e : Expression) → Bounded (names_in e) → Held (cells_read_at d e is s) → AlikeAt is (array_of d e s) (array_of d e t)
      alike (Number n) b m = (refl, refl)
      alike (Logic v) b m = (refl, refl)
      alike (Named x ps) b m =
          let place = found_at x is (axes_named d (record { name = x; subscripts = ps }) s) in
          subst (AlikeAt is (named_array s.held x ps (selectors d ps s) (s.bounds x)))
          (ap₂ (named_array t.held x ps) (selectors_same ps b.1 (first_read (cells_read_to_select d ps s) place m)) b.0)
          (named_alike is s.held t.held x ps (selectors d ps s) (s.bounds x) (then_read (cells_read_to_select d ps s) place m))
      alike (Unary o a) b m = mapped_alike is (λ x. apply o x x) _ _ (alike a b m)
      alike (Binary o a c) b m = paired_alike is (apply o) _ _ _ _
          (alike a (front (names_in a) (names_in c) b) (first_read (cells_read_at d a is s) (cells_read_at d c is s) m))
          (alike c (back (names_in a) (names_in c) b) (then_read (cells_read_at d a is s) (cells_read_at d c is s) m))
      alike (Apply f es) b m = mapped_alike is (call f) _ _ (arguments_alike es [] b m)
      alike (Constructor es ls) b m = same_array is _ _ (array_of-same d s t (Constructor es ls) b m)
      alike (Spread a k e) b m = same_array is _ _ (array_of-same d s t (Spread a k e) b m)
      alike (Transpose a) b m = same_array is _ _ (array_of-same d s t (Transpose a) b m)
      alike (Reshape a es) b m = same_array is _ _ (array_of-same d s t (Reshape a es) b m)
      alike (Reduce r a) b m = same_array is _ _ (array_of-same d s t (Reduce r a) b m)

      arguments_alike : (es : Expressions) (ns : List ℕ) → Bounded (names_in_each es) → Held (cells_read_at_by_each d es is s) → AlikeAt is (arguments_of d es ns s) (arguments_of d es ns t)
      arguments_alike no_expressions ns b m = (refl, refl)
      arguments_alike (expression e es) ns b m = further_alike is ns (array_of d e s) (array_of d e t) _ _
          (alike e (front (names_in e) (names_in_each es) b) (first_read (cells_read_at d e is s) (cells_read_at_by_each d es is s) m))
          (λ ms. arguments_alike es ms (back (names_in e) (names_in_each es) b) (then_read (cells_read_at d e is s) (cells_read_at_by_each d es is s) m))

    pub element_same : (e : Expression) → Bounded (names_in e) → Held (cells_read_at d e is s) → element_of d e is s ≡ element_of d e is t
    element_same e b m = element_alike is (array_of d e s) (array_of d e t) (alike e b m)

pub element_comes_from_cells_read : ElementComesFromCellsRead
element_comes_from_cells_read d e is s t b m =
    element_same d s t is e (recursion_from_All (λ x. s.bounds x ≡ t.bounds x) (names_in e) b) (recursion_from_All (λ c. s.held c ≡ t.held c) (cells_read_at d e is s) m)
