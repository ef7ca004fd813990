-- What an expression doesn't read doesn't matter.
use Rattle.std.proofs.Common.{◌≡◌, refl, ap, ap₂, ◌∙◌, inl, inr, ℕ, ℤ, pos, ◌+ℤ◌, ◌-ℤ◌, Bool, cond, List, [], ◌∷◌, ◌++◌, map, length, Result, Ok, Err, Option}
use Rattle.tree.specs.Steps.{◌>>=◌}
use Rattle.tree.specs.Operators.{apply, call, as_number, as_numbers, fits, reduced}
use Rattle.tree.specs.Plain.{Expression, Number, Logic, Named, Unary, Binary, Apply, Constructor, Spread, Transpose, Reshape, Reduce, Expressions, no_expressions, expression, Subscript, Only, Section, Subscripts, no_subscripts, subscript, Loops, no_loops, loop}
use Rattle.tree.specs.declared.ops.Value.{Value}
use Rattle.tree.specs.declared.ops.Value.TheVariants.{Int}
use Rattle.tree.specs.declared.ops.Fault.{Fault}
use Rattle.tree.specs.declared.ops.Fault.TheVariants.{Overflow}
use Rattle.meaning.specs.ArrayValues.{Elements, each, settled, in_whole, conform, mapped, paired, spread, transposed, reshaped}
use Rattle.meaning.specs.Dialect.{Dialect}
use Rattle.meaning.specs.Sections.{Selector, Triplet, Axis, axes_selected, extents_of, cells_along, not_negative, numbers_of}
use Rattle.meaning.specs.Store.{Store, Cell, cell_at, cell_in, bounds_in, column_major, numbers_from}
use Rattle.meaning.specs.Value.{value_of, values_of, subscript_value, subscript_values, array_of, arguments_of, selectors, selector, under, is_scalar, with_arrays, numbered, evaluated, selector_of, bound_to, joined_values, for_numbers, together}
use Rattle.nest_order.specs.orders.Lists.{In}
use Rattle.nest_order.proofs.orders.Lists.{In-left, In-right}
use Rattle.nest_order.proofs.runs.Variables.{cell_name}
use Rattle.reductions.specs.Reading.{without}
use Rattle.reduction_laws.specs.unread.Unread.{AlikeBut, IsBlind}
use Rattle.reductions.specs.Reading.{read_in, read_in_each, read_in_subscripts, read_in_subscript, read_under}
use Rattle.reduction_laws.specs.unread.Reading.{Spared, UnreadIsBlind}
use Rattle.reduction_laws.proofs.unread.Law.{alike_set, still_in, was_in, other_name}

pub left : (xs ns ms : List (List ℕ)) → Spared xs (ns ++ ms) → Spared xs ns
left xs ns ms h y i = h y (In-left y ns ms i)

pub right : (xs ns ms : List (List ℕ)) → Spared xs (ns ++ ms) → Spared xs ms
right xs ns ms h y i = h y (In-right y ns ms i)

module _ (d : Dialect) where
  -- the cells of a name that isn't among them
  fetched : (xs : List (List ℕ)) (x : List ℕ) → ¬ (In x xs) → (s t : Store) → AlikeBut xs s t → (r : Result (List ℤ) Fault)
      → ◌≡◌ {A = Result Value Fault} (do is ← r; c ← cell_at x is s; Ok (s.held c)) (do is ← r; c ← cell_at x is t; Ok (t.held c))
  fetched xs x n s t a (Err f) = refl
  fetched xs x n s t a (Ok is) = by (cell_in (s.bounds x) x is) refl ∙ ap (λ (b : List ℕ → Option (List (ℤ × ℤ))). do c ← cell_in (b x) x is; Ok (t.held c)) a.bounds
    where
      by : (q : Result Cell Fault) → cell_in (s.bounds x) x is ≡ q → ◌≡◌ {A = Result Value Fault} (do c ← q; Ok (s.held c)) (do c ← q; Ok (t.held c))
      by (Err f) e = refl
      by (Ok c) e = ap Ok (a.held c (other_name xs x c (cell_name (s.bounds x) x is c e).0 n))

  all_held : (xs : List (List ℕ)) (x : List ℕ) → ¬ (In x xs) → (s t : Store) → AlikeBut xs s t → (iss : List (List ℤ))
      → map s.held (map (λ is. let c : Cell = record { name = x; subscripts = is } in c) iss) ≡ map t.held (map (λ is. let c : Cell = record { name = x; subscripts = is } in c) iss)
  all_held xs x n s t a [] = refl
  all_held xs x n s t a (is ∷ iss) = ap₂ (λ v vs. v ∷ vs) (a.held (record { name = x; subscripts = is }) (other_name xs x (record { name = x; subscripts = is }) refl n)) (all_held xs x n s t a iss)

  picked : (xs : List (List ℕ)) (x : List ℕ) (ps : Subscripts) → ¬ (In x xs) → (s t : Store) → AlikeBut xs s t → (r : Result (List Selector) Fault)
      → ◌≡◌ {A = Result (Elements Value) Fault}
      (do zs ← r; bs ← bounds_in (s.bounds x); axes ← axes_selected ps bs zs; Ok (settled (record { extents = extents_of axes; values = map s.held (cells_along x axes) })))
      (do zs ← r; bs ← bounds_in (t.bounds x); axes ← axes_selected ps bs zs; Ok (settled (record { extents = extents_of axes; values = map t.held (cells_along x axes) })))
  picked xs x ps n s t a (Err f) = refl
  picked xs x ps n s t a (Ok zs) = by (bounds_in (s.bounds x)) ∙ ap (λ (b : List ℕ → Option (List (ℤ × ℤ))). (do bs ← bounds_in (b x); axes ← axes_selected ps bs zs; Ok (settled (record { extents = extents_of axes; values = map t.held (cells_along x axes) })))) a.bounds
    where
      last : (q : Result (List Axis) Fault) → ◌≡◌ {A = Result (Elements Value) Fault} (do axes ← q; Ok (settled (record { extents = extents_of axes; values = map s.held (cells_along x axes) }))) (do axes ← q; Ok (settled (record { extents = extents_of axes; values = map t.held (cells_along x axes) })))
      last (Err f) = refl
      last (Ok axes) = ap (λ vs. Ok (settled (record { extents = extents_of axes; values = vs }))) (all_held xs x n s t a (column_major (map numbers_of axes)))

      by : (q : Result (List (ℤ × ℤ)) Fault) → ◌≡◌ {A = Result (Elements Value) Fault} (do bs ← q; axes ← axes_selected ps bs zs; Ok (settled (record { extents = extents_of axes; values = map s.held (cells_along x axes) })))
          (do bs ← q; axes ← axes_selected ps bs zs; Ok (settled (record { extents = extents_of axes; values = map t.held (cells_along x axes) })))
      by (Err f) = refl
      by (Ok bs) = last (axes_selected ps bs zs)

  whole_same : (b c : Bool) (r q : Result Value Fault) (g h : Result (Elements Value) Fault) → b ≡ c → r ≡ q → g ≡ h → evaluated b r g ≡ evaluated c q h
  whole_same b c r q g h e f k = ap (λ z. evaluated z r g) e ∙ ap₂ (evaluated c) f k

  scalar_same : (xs : List (List ℕ)) (e : Expression) (s t : Store) → AlikeBut xs s t → is_scalar e s.bounds ≡ is_scalar e t.bounds
  scalar_same xs e s t a = ap (is_scalar e) a.bounds

  -- under the loops of a constructor
  turns_same : (xs : List (List ℕ)) (x : List ℕ) (f : Store → Result (List Value) Fault) → IsBlind (without x xs) f → (s t : Store) → AlikeBut xs s t → (zs : List ℤ)
      → each (λ z. cond (fits d.bits z) (f (bound_to x z s)) (Err Overflow)) zs ≡ each (λ z. cond (fits d.bits z) (f (bound_to x z t)) (Err Overflow)) zs
  turns_same xs x f h s t a [] = refl
  turns_same xs x f h s t a (z ∷ zs) = ap₂ (λ r q. do y ← cond (fits d.bits z) r (Err Overflow); ys ← q; Ok (y ∷ ys)) (h (bound_to x z s) (bound_to x z t) (alike_set xs x (Int z) s t a)) (turns_same xs x f h s t a zs)

  one_loop : (xs : List (List ℕ)) (x : List ℕ) (e c : Expression) (f : Store → Result (List Value) Fault) → IsBlind xs (value_of d e) → IsBlind xs (value_of d c) → IsBlind (without x xs) f
      → IsBlind xs (λ t. (do l ← numbered (value_of d e t); u ← numbered (value_of d c t); for_numbers d.bits x l u f t))
  one_loop xs x e c f he hc h s t a =
      by (numbered (value_of d e s)) (numbered (value_of d c s))
      ∙ ap₂ (λ r q. do l ← numbered r; u ← numbered q; for_numbers d.bits x l u f t) (he s t a) (hc s t a)
    where
      by : (l u : Result ℤ Fault) → ◌≡◌ {A = Result (List Value) Fault} (do i ← l; j ← u; for_numbers d.bits x i j f s) (do i ← l; j ← u; for_numbers d.bits x i j f t)
      by (Ok i) (Ok j) = ap (λ r. do vss ← r; Ok (joined_values vss)) (turns_same xs x f h s t a (numbers_from i (not_negative (j -ℤ i +ℤ pos 1))))
      by (Ok i) (Err g) = refl
      by (Err g) u = refl

  further : (s t : Store) (es : Expressions) (ns : List ℕ) (r : Result (Elements Value) Fault) → ((ms : List ℕ) → arguments_of d es ms s ≡ arguments_of d es ms t)
      → ◌≡◌ {A = Result (Elements (List Value)) Fault} (do g ← r; ms ← conform ns g.extents; more ← arguments_of d es ms s; Ok (together g more)) (do g ← r; ms ← conform ns g.extents; more ← arguments_of d es ms t; Ok (together g more))
  further s t es ns (Err f) same = refl
  further s t es ns (Ok g) same = by (conform ns g.extents)
    where
      by : (q : Result (List ℕ) Fault) → ◌≡◌ {A = Result (Elements (List Value)) Fault} (do ms ← q; more ← arguments_of d es ms s; Ok (together g more)) (do ms ← q; more ← arguments_of d es ms t; Ok (together g more))
      by (Err f) = refl
      by (Ok ms) = ap (λ r. do more ← r; Ok (together g more)) (same ms)

  mutual
    pub value : (e : Expression) (xs : List (List ℕ)) → Spared xs (read_in e) → IsBlind xs (value_of d e)
    value (Number k) xs n s t a = refl
    value (Logic v) xs n s t a = refl
    value (Named x ps) xs n s t a = fetched xs x (n x (inl refl)) s t a (subscript_values d ps s) ∙ ap (λ r. do is ← r; c ← cell_at x is t; Ok (t.held c)) (subs ps xs (λ y i. n y (inr i)) s t a)
    value (Unary o e) xs n s t a = ap (λ r. do x ← r; apply o x x) (value e xs n s t a)
    value (Binary o e f) xs n s t a = ap₂ (λ r q. do x ← r; y ← q; apply o x y) (value e xs (left xs (read_in e) (read_in f) n) s t a) (value f xs (right xs (read_in e) (read_in f) n) s t a)
    value (Apply f es) xs n s t a = ap (λ r. do ys ← r; call f ys) (values es xs n s t a)
    value (Reduce r e) xs n s t a = ap (λ q. with_arrays d.arrays (do g ← q; v ← in_whole g; zs ← as_numbers v.values; reduced d.bits r zs)) (array e xs n s t a)
    value (Constructor es ls) xs n s t a = refl
    value (Spread e k f) xs n s t a = refl
    value (Transpose e) xs n s t a = refl
    value (Reshape e es) xs n s t a = refl

    pub values : (es : Expressions) (xs : List (List ℕ)) → Spared xs (read_in_each es) → IsBlind xs (values_of d es)
    values no_expressions xs n s t a = refl
    values (expression e es) xs n s t a = ap₂ (λ r q. do x ← r; ys ← q; Ok (x ∷ ys)) (value e xs (left xs (read_in e) (read_in_each es) n) s t a) (values es xs (right xs (read_in e) (read_in_each es) n) s t a)

    pub subs : (ps : Subscripts) (xs : List (List ℕ)) → Spared xs (read_in_subscripts ps) → IsBlind xs (subscript_values d ps)
    subs no_subscripts xs n s t a = refl
    subs (subscript q ps) xs n s t a = ap₂ (λ r o. do i ← r; is ← o; Ok (i ∷ is)) (sub q xs (left xs (read_in_subscript q) (read_in_subscripts ps) n) s t a) (subs ps xs (right xs (read_in_subscript q) (read_in_subscripts ps) n) s t a)

    sub : (q : Subscript) (xs : List (List ℕ)) → Spared xs (read_in_subscript q) → IsBlind xs (subscript_value d q)
    sub (Only e) xs n s t a = ap (λ r. do x ← r; as_number x) (value e xs n s t a)
    sub (Section e f g) xs n s t a = refl

    pub array : (e : Expression) (xs : List (List ℕ)) → Spared xs (read_in e) → IsBlind xs (array_of d e)
    array (Number k) xs n s t a = refl
    array (Logic v) xs n s t a = refl
    array (Named x ps) xs n s t a = picked xs x ps (n x (inl refl)) s t a (selectors d ps s)
        ∙ ap (λ r. do zs ← r; bs ← bounds_in (t.bounds x); axes ← axes_selected ps bs zs; Ok (settled (record { extents = extents_of axes; values = map t.held (cells_along x axes) }))) (selects ps xs (λ y i. n y (inr i)) s t a)
    array (Unary o e) xs n s t a = ap (λ r. do g ← r; Ok (mapped (λ x. apply o x x) g)) (array e xs n s t a)
    array (Binary o e f) xs n s t a = ap₂ (λ r q. do g ← r; h ← q; paired (apply o) g h) (array e xs (left xs (read_in e) (read_in f) n) s t a) (array f xs (right xs (read_in e) (read_in f) n) s t a)
    array (Apply f es) xs n s t a = ap (λ r. do g ← r; Ok (mapped (call f) g)) (arguments es [] xs n s t a)
    array (Constructor es ls) xs n s t a = ap (λ r. do vs ← r; Ok (settled (record { extents = length vs ∷ []; values = vs }))) (turned ls (read_in_each es) xs n (values_of d es) (λ ys. values es ys) s t a)
    array (Spread e k f) xs n s t a =
        ap₂ (λ r q. do v ← r; z ← numbered q; Ok (spread k (not_negative z) v))
        (whole_same _ _ _ _ _ _ (scalar_same xs e s t a) (value e xs (left xs (read_in e) (read_in f) n) s t a) (array e xs (left xs (read_in e) (read_in f) n) s t a))
        (value f xs (right xs (read_in e) (read_in f) n) s t a)
    array (Transpose e) xs n s t a = ap (λ r. do g ← r; v ← in_whole g; Ok (transposed v)) (array e xs n s t a)
    array (Reshape e es) xs n s t a =
        ap₂ (λ r q. do g ← r; v ← in_whole g; ys ← q; zs ← as_numbers ys; reshaped (map not_negative zs) v)
        (array e xs (left xs (read_in e) (read_in_each es) n) s t a) (values es xs (right xs (read_in e) (read_in_each es) n) s t a)
    array (Reduce r e) xs n s t a = ap (λ q. do g ← q; v ← in_whole g; zs ← as_numbers v.values; x ← reduced d.bits r zs; Ok (settled (Rattle.meaning.specs.ArrayValues.scalar_array x))) (array e xs n s t a)

    arguments : (es : Expressions) (ms : List ℕ) (xs : List (List ℕ)) → Spared xs (read_in_each es) → IsBlind xs (arguments_of d es ms)
    arguments no_expressions ms xs n s t a = refl
    arguments (expression e es) ms xs n s t a =
        further s t es ms (array_of d e s) (λ ks. arguments es ks xs (right xs (read_in e) (read_in_each es) n) s t a)
        ∙ ap (λ r. do g ← r; ks ← conform ms g.extents; more ← arguments_of d es ks t; Ok (together g more)) (array e xs (left xs (read_in e) (read_in_each es) n) s t a)

    pub selects : (ps : Subscripts) (xs : List (List ℕ)) → Spared xs (read_in_subscripts ps) → IsBlind xs (selectors d ps)
    selects no_subscripts xs n s t a = refl
    selects (subscript q ps) xs n s t a = ap₂ (λ r o. do z ← r; zs ← o; Ok (z ∷ zs)) (select q xs (left xs (read_in_subscript q) (read_in_subscripts ps) n) s t a) (selects ps xs (right xs (read_in_subscript q) (read_in_subscripts ps) n) s t a)

    select : (q : Subscript) (xs : List (List ℕ)) → Spared xs (read_in_subscript q) → IsBlind xs (selector d q)
    select (Only e) xs n s t a = ap (λ r. do v ← r; zs ← as_numbers v.values; Ok (selector_of v.extents zs)) (whole_same _ _ _ _ _ _ (scalar_same xs e s t a) (value e xs n s t a) (array e xs n s t a))
    select (Section e f g) xs n s t a =
        let m = right xs (read_in e) (read_in f ++ read_in g) n in
        ap (λ r. do l ← numbered r; u ← numbered (value_of d f s); k ← numbered (value_of d g s); Ok (Triplet l u k)) (value e xs (left xs (read_in e) (read_in f ++ read_in g) n) s t a)
        ∙ (ap (λ r. do l ← numbered (value_of d e t); u ← numbered r; k ← numbered (value_of d g s); Ok (Triplet l u k)) (value f xs (left xs (read_in f) (read_in g) m) s t a)
        ∙ ap (λ r. do l ← numbered (value_of d e t); u ← numbered (value_of d f t); k ← numbered r; Ok (Triplet l u k)) (value g xs (right xs (read_in f) (read_in g) m) s t a))

    turned : (ls : Loops) (ns : List (List ℕ)) (xs : List (List ℕ)) → Spared xs (read_under ls ns) → (f : Store → Result (List Value) Fault) → ((ys : List (List ℕ)) → Spared ys ns → IsBlind ys f) → IsBlind xs (under d ls f)
    turned no_loops ns xs n f h s t a = h xs n s t a
    turned (loop x e c ls) ns xs n f h s t a =
        turned ls (read_in e ++ (read_in c ++ without x ns)) xs n (λ t. (do l ← numbered (value_of d e t); u ← numbered (value_of d c t); for_numbers d.bits x l u f t))
        (λ ys m. one_loop ys x e c f (value e ys (left ys (read_in e) (read_in c ++ without x ns) m)) (value c ys (left ys (read_in c) (without x ns) (right ys (read_in e) (read_in c ++ without x ns) m)))
        (h (without x ys) (λ y i j. right ys (read_in c) (without x ns) (right ys (read_in e) (read_in c ++ without x ns) m) y (still_in x y ns i (was_in x y ys j).1) (was_in x y ys j).0)))
        s t a

pub unread_is_blind : UnreadIsBlind
unread_is_blind lang xs e n = (value lang e xs n, array lang e xs n)
