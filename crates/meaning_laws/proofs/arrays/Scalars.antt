-- A scalar that has a value is an array of no dimensions whose element it is.
use Rattle.std.proofs.Common.{◌≡◌, refl, sym, ap, ◌∙◌, subst, ℕ, ℤ, Bool, true, false, cond, ◌&&◌, List, [], ◌∷◌, map, Result, Ok, Err, Option, Some, None}
use Rattle.std.specs.List.{flat_map}
use Rattle.std.specs.Prelude.{int_le}
use mathlib.Core.Path.{ap₂}
use Rattle.tree.specs.Operators.{apply, call, as_number, as_numbers, reduced}
use Rattle.tree.specs.Plain.{Expression, Number, Logic, Named, Unary, Binary, Apply, Constructor, Spread, Transpose, Reshape, Reduce, Expressions, no_expressions, expression, Subscript, Only, Section, Subscripts, no_subscripts, subscript}
use Rattle.tree.specs.Steps.{◌>>=◌}
use Rattle.tree.specs.declared.ops.Fault.{Fault}
use Rattle.tree.specs.declared.ops.Value.{Value}
use Rattle.tree.specs.declared.ops.Fault.TheVariants.{Bounds}
use Rattle.meaning.specs.ArrayValues.{Array, Elements, settled, scalar_array, in_whole, conform, mapped, paired}
use Rattle.meaning.specs.Dialect.{Dialect}
use Rattle.meaning.specs.Sections.{Axis, Fixed, Selector, Index, axes_on, axes_selected, extents_of, cells_along, numbers_of}
use Rattle.meaning.specs.Store.{Store, Cell, bounds_in, cell_in, cell_at, is_within, column_major}
use Rattle.meaning.specs.Value.{value_of, values_of, subscript_value, subscript_values, array_of, arguments_of, selectors, selector, is_scalar, are_scalar, are_indices, is_index, is_bare, evaluated, selector_of, with_arrays, together}
use Rattle.meaning_laws.specs.arrays.Elements.{ScalarIsItsElement}
use Rattle.meaning_laws.proofs.arrays.Stages.{bound, same_answer}

-- an array without dimensions, with this one element
pub record IsSingle {A : Type 0} (r : Result (Elements A) Fault) (v : A) : Type 0 where
  pub array : Elements A
  pub known : r ≡ Ok array
  pub extents : array.extents ≡ []
  pub element : (is : List ℕ) → array.at is ≡ Ok v

settled_single : (v : Value) → IsSingle (Ok (settled (scalar_array v))) v
settled_single v = record { array = settled (scalar_array v); known = refl; extents = refl; element = λ is. refl }

both : (a b : Bool) → (a && b) ≡ true → (a ≡ true) × (b ≡ true)
both true true e = (refl, refl)
both true false e = absurd cc
both false b e = absurd cc

-- ---- the cell of a name

indices : List ℤ → List Selector
indices zs = map Index zs

fixed : List ℤ → List Axis
fixed zs = map Fixed zs

-- numbers within the bounds are the axes
fixed_axes : (bs : List (ℤ × ℤ)) (zs : List ℤ) → is_within bs zs ≡ true → axes_on bs (map Index zs) ≡ Ok (map Fixed zs)
fixed_axes [] [] e = refl
fixed_axes [] (z ∷ zs) e = absurd cc
fixed_axes (b ∷ bs) [] e = absurd cc
fixed_axes (b ∷ bs) (z ∷ zs) e =
    let one = both (int_le b.0 z) (int_le z b.1 && is_within bs zs) e in
    let two = both (int_le z b.1) (is_within bs zs) one.1 in
    ap₂ (λ (r : Result Axis Fault) (q : Result (List Axis) Fault). do a ← r; axes ← q; Ok (a ∷ axes))
    (ap₂ (λ p q. let r : Result Axis Fault = cond (p && q) (Ok (Fixed z)) (Err Bounds) in r) one.0 two.0) (fixed_axes bs zs two.1)

no_extents : (zs : List ℤ) → extents_of (map Fixed zs) ≡ []
no_extents [] = refl
no_extents (z ∷ zs) = no_extents zs

one_subscript_list : (zs : List ℤ) → column_major (map numbers_of (map Fixed zs)) ≡ zs ∷ []
one_subscript_list [] = refl
one_subscript_list (z ∷ zs) = ap (λ iss. flat_map (λ rest. map (λ x. x ∷ rest) (z ∷ [])) iss) (one_subscript_list zs)

abbrev cell : List ℕ → List ℤ → Cell
cell x zs = record { name = x; subscripts = zs }

selected_single : (h : Cell → Value) (x : List ℕ) (zs : List ℤ) → IsSingle (Ok (settled (record { extents = extents_of (map Fixed zs); values = map h (cells_along x (map Fixed zs)) }))) (h (cell x zs))
selected_single h x zs = subst (λ r. IsSingle r (h (cell x zs)))
    (ap₂ (λ ns iss. Ok (settled (record { extents = ns; values = map h (map (cell x) iss) }))) (sym (no_extents zs)) (sym (one_subscript_list zs)))
    (settled_single (h (cell x zs)))

-- what a cell gives
found : (h : Cell → Value) (o : Option (List (ℤ × ℤ))) (x : List ℕ) (zs : List ℤ) (v : Value) → (do c ← cell_in o x zs; Ok (h c)) ≡ Ok v
    → (bs : List (ℤ × ℤ)) × (o ≡ Some bs) × (is_within bs zs ≡ true) × (h (cell x zs) ≡ v)
found h None x zs v e = absurd cc
found h (Some bs) x zs v e = by (is_within bs zs) refl e
  where
    by : (b : Bool) → is_within bs zs ≡ b → (do c ← cond b (Ok (cell x zs)) (Err Bounds); Ok (h c)) ≡ Ok v → (bs' : List (ℤ × ℤ)) × (Some bs ≡ Some bs') × (is_within bs' zs ≡ true) × (h (cell x zs) ≡ v)
    by true p e = (bs, refl, p, same_answer (h (cell x zs)) v e)
    by false p e = absurd cc

abbrev named_by : (Cell → Value) → List ℕ → Subscripts → Result (List Selector) Fault → Option (List (ℤ × ℤ)) → Result (Elements Value) Fault
named_by h x ps r o = do
  zs ← r
  bs ← bounds_in o
  axes ← axes_selected ps bs zs
  Ok (settled (record { extents = extents_of axes; values = map h (cells_along x axes) }))

name_without : (h : Cell → Value) (o : Option (List (ℤ × ℤ))) (x : List ℕ) (v : Value) → is_bare o ≡ true → (do c ← cell_in o x []; Ok (h c)) ≡ Ok v → IsSingle (named_by h x no_subscripts (Ok []) o) v
name_without h (Some []) x v b e = subst (IsSingle (named_by h x no_subscripts (Ok []) (Some []))) (same_answer (h (cell x [])) v e) (settled_single (h (cell x [])))
name_without h (Some (b ∷ bs)) x v n e = absurd cc
name_without h None x v n e = absurd cc

name_with : (h : Cell → Value) (o : Option (List (ℤ × ℤ))) (x : List ℕ) (p : Subscript) (ps : Subscripts) (zs : List ℤ) (v : Value) → (do c ← cell_in o x zs; Ok (h c)) ≡ Ok v → IsSingle (named_by h x (subscript p ps) (Ok (map Index zs)) o) v
name_with h o x p ps zs v e =
    let f = found h o x zs v e in
    subst (λ o. IsSingle (named_by h x (subscript p ps) (Ok (map Index zs)) o) v) (sym f.1)
    (subst (λ (r : Result (List Axis) Fault). IsSingle (do axes ← r; Ok (settled (record { extents = extents_of axes; values = map h (cells_along x axes) }))) v) (sym (fixed_axes f.0 zs f.2))
    (subst (IsSingle (Ok (settled (record { extents = extents_of (map Fixed zs); values = map h (cells_along x (map Fixed zs)) })))) f.3 (selected_single h x zs)))

-- ---- operations

unary : (f : Value → Result Value Fault) (r : Result (Elements Value) Fault) (x v : Value) → IsSingle r x → f x ≡ Ok v → IsSingle (do g ← r; Ok (mapped f g)) v
unary f r x v h e = record {
  array = mapped f h.array;
  known = ap (λ (q : Result (Elements Value) Fault). do g ← q; Ok (mapped f g)) h.known;
  extents = h.extents;
  element = λ is. ap (λ (q : Result Value Fault). do y ← q; f y) (h.element is) ∙ e;
}

binary : (f : Value → Value → Result Value Fault) (r q : Result (Elements Value) Fault) (x y v : Value) → IsSingle r x → IsSingle q y → f x y ≡ Ok v → IsSingle (do g ← r; h ← q; paired f g h) v
binary f r q x y v h k e = record {
  array = record { extents = []; at = λ is. (do x ← h.array.at is; y ← k.array.at is; f x y) };
  known = ap₂ (λ (p o : Result (Elements Value) Fault). do g ← p; h ← o; paired f g h) h.known k.known
      ∙ ap₂ (λ ms ns. do ks ← conform ms ns; let z : Result (Elements Value) Fault = Ok (record { extents = ks; at = λ is. (do x ← h.array.at is; y ← k.array.at is; f x y) }) in z) h.extents k.extents;
  extents = refl;
  element = λ is. ap₂ (λ (p o : Result Value Fault). do x ← p; y ← o; f x y) (h.element is) (k.element is) ∙ e;
}

argument : (r : Result (Elements Value) Fault) (q : List ℕ → Result (Elements (List Value)) Fault) (x : Value) (xs : List Value) → IsSingle r x → IsSingle (q []) xs → IsSingle (do g ← r; ms ← conform [] g.extents; more ← q ms; Ok (together g more)) (x ∷ xs)
argument r q x xs h k = record {
  array = together h.array k.array;
  known = ap (λ (p : Result (Elements Value) Fault). do g ← p; more ← q g.extents; Ok (together g more)) h.known
      ∙ (ap (λ ms. do more ← q ms; Ok (together h.array more)) h.extents ∙ ap (λ (p : Result (Elements (List Value)) Fault). do more ← p; Ok (together h.array more)) k.known);
  extents = k.extents;
  element = λ is. ap₂ (λ (p : Result Value Fault) (o : Result (List Value) Fault). do x ← p; xs ← o; Ok (x ∷ xs)) (h.element is) (k.element is);
}

called : (f : List Value → Result Value Fault) (r : Result (Elements (List Value)) Fault) (xs : List Value) (v : Value) → IsSingle r xs → f xs ≡ Ok v → IsSingle (do g ← r; Ok (mapped f g)) v
called f r xs v h e = record {
  array = mapped f h.array;
  known = ap (λ (q : Result (Elements (List Value)) Fault). do g ← q; Ok (mapped f g)) h.known;
  extents = h.extents;
  element = λ is. ap (λ (q : Result (List Value) Fault). do ys ← q; f ys) (h.element is) ∙ e;
}

-- a reduction is one value already
reduction : (arrays : Bool) (r : Result Value Fault) (v : Value) → with_arrays arrays r ≡ Ok v → r ≡ Ok v
reduction true r v e = e
reduction false r v e = absurd cc

reduced_single : (f : List ℤ → Result Value Fault) (r : Result (Elements Value) Fault) (v : Value) → (do g ← r; a ← in_whole g; zs ← as_numbers a.values; f zs) ≡ Ok v
    → IsSingle (do g ← r; a ← in_whole g; zs ← as_numbers a.values; x ← f zs; Ok (settled (scalar_array x))) v
reduced_single f r v e =
    let g = bound r (λ g. do a ← in_whole g; zs ← as_numbers a.values; f zs) v e in
    let a = bound (in_whole g.0) (λ (a : Array). do zs ← as_numbers a.values; f zs) v g.2 in
    let zs = bound (as_numbers a.0.values) f v a.2 in
    subst (λ p. IsSingle p v)
    (sym (ap (λ (p : Result (Elements Value) Fault). do g ← p; a ← in_whole g; zs ← as_numbers a.values; x ← f zs; Ok (settled (scalar_array x))) g.1
    ∙ (ap (λ (p : Result Array Fault). do a ← p; zs ← as_numbers a.values; x ← f zs; Ok (settled (scalar_array x))) a.1
    ∙ (ap (λ (p : Result (List ℤ) Fault). do zs ← p; x ← f zs; Ok (settled (scalar_array x))) zs.1 ∙ ap (λ (p : Result Value Fault). do x ← p; Ok (settled (scalar_array x))) zs.2))))
    (settled_single v)

-- ---- by structure

one_index : (b : Bool) (r : Result Value Fault) (q : Result (Elements Value) Fault) (z : ℤ) → b ≡ true → (do x ← r; as_number x) ≡ Ok z → (do v ← evaluated b r q; zs ← as_numbers v.values; Ok (selector_of v.extents zs)) ≡ Ok (Index z)
one_index false r q z b e = absurd cc
one_index true (Err f) q z b e = absurd cc
one_index true (Ok x) q z b e = ap (λ (p : Result ℤ Fault). do zs ← (do i ← p; is ← Ok []; Ok (i ∷ is)); Ok (selector_of [] zs)) e

module _ (d : Dialect) (s : Store) where
  index_known : (p : Subscript) (z : ℤ) → is_index p s.bounds ≡ true → subscript_value d p s ≡ Ok z → selector d p s ≡ Ok (Index z)
  index_known (Only e) z b h = one_index (is_scalar e s.bounds) (value_of d e s) (array_of d e s) z b h
  index_known (Section l u k) z b h = absurd cc

  indices_known : (ps : Subscripts) (zs : List ℤ) → are_indices ps s.bounds ≡ true → subscript_values d ps s ≡ Ok zs → selectors d ps s ≡ Ok (map Index zs)
  indices_known no_subscripts zs b h = ap (λ is. Ok (map Index is)) (same_answer [] zs h)
  indices_known (subscript p ps) zs b h =
      let i = bound (subscript_value d p s) (λ i. do is ← subscript_values d ps s; Ok (i ∷ is)) zs h in
      let is = bound (subscript_values d ps s) (λ is. Ok (i.0 ∷ is)) zs i.2 in
      let parts = both (is_index p s.bounds) (are_indices ps s.bounds) b in
      ap₂ (λ (r : Result Selector Fault) (q : Result (List Selector) Fault). do y ← r; ys ← q; Ok (y ∷ ys)) (index_known p i.0 parts.0 i.1) (indices_known ps is.0 parts.1 is.1)
      ∙ ap (λ js. Ok (map Index js)) (same_answer (i.0 ∷ is.0) zs is.2)

  mutual
    pub single : (e : Expression) (v : Value) → is_scalar e s.bounds ≡ true → value_of d e s ≡ Ok v → IsSingle (array_of d e s) v
    single (Number n) v b h = subst (IsSingle (array_of d (Number n) s)) (same_answer _ v h) (settled_single _)
    single (Logic t) v b h = subst (IsSingle (array_of d (Logic t) s)) (same_answer _ v h) (settled_single _)
    single (Named x no_subscripts) v b h = name_without s.held (s.bounds x) x v b h
    single (Named x (subscript p ps)) v b h =
        let zs = bound (subscript_values d (subscript p ps) s) (λ zs. do c ← cell_at x zs s; Ok (s.held c)) v h in
        subst (λ r. IsSingle (named_by s.held x (subscript p ps) r (s.bounds x)) v) (sym (indices_known (subscript p ps) zs.0 b zs.1)) (name_with s.held (s.bounds x) x p ps zs.0 v zs.2)
    single (Unary o a) v b h =
        let x = bound (value_of d a s) (λ x. apply o x x) v h in
        unary (λ x. apply o x x) (array_of d a s) x.0 v (single a x.0 b x.1) x.2
    single (Binary o a c) v b h =
        let x = bound (value_of d a s) (λ x. do y ← value_of d c s; apply o x y) v h in
        let y = bound (value_of d c s) (λ y. apply o x.0 y) v x.2 in
        let parts = both (is_scalar a s.bounds) (is_scalar c s.bounds) b in
        binary (apply o) (array_of d a s) (array_of d c s) x.0 y.0 v (single a x.0 parts.0 x.1) (single c y.0 parts.1 y.1) y.2
    single (Apply f es) v b h =
        let xs = bound (values_of d es s) (λ xs. call f xs) v h in
        called (call f) (arguments_of d es [] s) xs.0 v (singles es xs.0 b xs.1) xs.2
    single (Reduce r a) v b h = reduced_single (reduced d.bits r) (array_of d a s) v (reduction d.arrays _ v h)
    single (Constructor es ls) v b h = absurd cc
    single (Spread a k e) v b h = absurd cc
    single (Transpose a) v b h = absurd cc
    single (Reshape a es) v b h = absurd cc

    singles : (es : Expressions) (xs : List Value) → are_scalar es s.bounds ≡ true → values_of d es s ≡ Ok xs → IsSingle (arguments_of d es [] s) xs
    singles no_expressions xs b h = record { array = record { extents = []; at = λ is. Ok [] }; known = refl; extents = refl; element = λ is. h }
    singles (expression e es) xs b h =
        let x = bound (value_of d e s) (λ x. do xs ← values_of d es s; Ok (x ∷ xs)) xs h in
        let more = bound (values_of d es s) (λ ys. Ok (x.0 ∷ ys)) xs x.2 in
        let parts = both (is_scalar e s.bounds) (are_scalar es s.bounds) b in
        subst (IsSingle (arguments_of d (expression e es) [] s)) (same_answer (x.0 ∷ more.0) xs more.2)
        (argument (array_of d e s) (λ ms. arguments_of d es ms s) x.0 more.0 (single e x.0 parts.0 x.1) (singles es more.0 parts.1 more.1))

pub scalar_is_its_element : ScalarIsItsElement
scalar_is_its_element d e is s v b h = let g = single d s e v b h in ap (λ (r : Result (Elements Value) Fault). do a ← r; a.at is) g.known ∙ g.element is
