-- An array has as many extents as its expression has dimensions.
use Rattle.std.proofs.Common.{◌≡◌, refl, sym, ap, subst, ◌∙◌, ℕ, zero, suc, ◌+◌, ◌-◌, ◌≤◌, nat_le, max, ℤ, pos, Bool, true, false, ◌&&◌, cond, Option, Some, None, IfSome, List, [], ◌∷◌, ◌++◌, map, length, take, drop, Result, Ok, Err, arith}
use Rattle.std.specs.Option.{IsSomeAnd}
use Rattle.std.specs.Str.{bytes_eq}
use Rattle.std.specs.Ordering.{int_eq}
use Rattle.std.proofs.lemmas.Slice.Eq.{bytes_eq-Decides}
use Rattle.tree.specs.Operators.{as_numbers, reduced}
use Rattle.tree.specs.Plain.{Expression, Number, Logic, Named, Unary, Binary, Apply, Constructor, Spread, Transpose, Reshape, Reduce, Expressions, no_expressions, expression, Subscript, Only, Section, Subscripts, no_subscripts, subscript, Extent, Given, Later, Declaration, Program}
use Rattle.tree.specs.declared.ops.Kind.{Kind}
use Rattle.tree.specs.declared.ops.Kind.TheVariants.{Integer}
use Rattle.tree.specs.declared.ops.Value.{Value}
use Rattle.tree.specs.declared.ops.Fault.{Fault}
use Rattle.tree.specs.declared.ops.Fault.TheVariants.{Shape, Bounds, ZeroStep}
use Rattle.meaning.specs.Dialect.{Dialect}
use Rattle.meaning.specs.Store.{Store, stored_bounds, bounds_in}
use Rattle.meaning.specs.Typed.{declared, rank_of_extent, number_of_arguments}
use Rattle.meaning.specs.Typed90.{HasKind, AreArguments, AreSubscripts, IsSubscript, rank_of, rank_of_each, rank_of_subscripts, rank_of_subscript, rank_of_name}
use Rattle.meaning.specs.ArrayValues.{Array, Elements, each, scalar_array, settled, in_whole, positions, size, conform, with_extent, swapped, reshaped}
use Rattle.meaning.specs.Sections.{Selector, Index, Triplet, Vector, Axis, Fixed, Along, is_within_bounds, all_stand_in, along, axis_on, axes_on, whole_axes, extents_of, triplet_numbers, not_negative}
use Rattle.meaning.specs.Value.{value_of, values_of, array_of, arguments_of, selector, selectors, selector_of, is_scalar, are_scalar, are_indices, is_index, is_bare, evaluated, numbered, under}
use Rattle.meaning.specs.Holding.{HasBounds, HoldsProgram}
use Rattle.meaning_laws.specs.profiles.Values.{ExtentsAreRank}
use Rattle.meaning_laws.proofs.profiles.Answering.{AnyFault, behind, value}
use Rattle.meaning_laws.proofs.profiles.ValueKinds.{Gives, after}
use Rattle.meaning_laws.proofs.profiles.TargetRuns.{numbers_length, values_length, length_map}

-- ---- extents of operations

abbrev Many : ℕ → List ℕ → Type 0
Many n ks = length ks ≡ n

conform_many : (ms ns : List ℕ) → Gives (Many (max (length ms) (length ns))) (conform ms ns)
conform_many [] ns = (let e : length ns ≡ max 0 (length ns) = omega arith in e)
conform_many (m ∷ ms) [] = (let e : length (m ∷ ms) ≡ max (length (m ∷ ms)) 0 = omega arith in e)
conform_many (m ∷ ms) (n ∷ ns) = by (bytes_eq (m ∷ ms) (n ∷ ns)) refl
  where
    by : (b : Bool) → bytes_eq (m ∷ ms) (n ∷ ns) ≡ b → Gives (Many (max (length (m ∷ ms)) (length (n ∷ ns)))) (cond b (Ok (m ∷ ms)) (Err Shape))
    by true q = (let e : length (m ∷ ms) ≡ length (n ∷ ns) = ap length ((bytes_eq-Decides (m ∷ ms) (n ∷ ns)).0 q) in omega (arith, e))
    by false q = tt

inserted_many : (k n : ℕ) (ns : List ℕ) → length (take k ns ++ n ∷ drop k ns) ≡ length ns + 1
inserted_many zero n ns = omega arith
inserted_many (suc k) n [] = refl
inserted_many (suc k) n (m ∷ ns) = (let e = inserted_many k n ns in omega (arith, e))

swapped_many : (ns : List ℕ) → length (swapped ns) ≡ length ns
swapped_many [] = refl
swapped_many (n ∷ []) = refl
swapped_many (m ∷ n ∷ ns) = refl

whole_many : (bs : List (ℤ × ℤ)) → length (extents_of (whole_axes bs)) ≡ length bs
whole_many [] = refl
whole_many (b ∷ bs) = (let e = whole_many bs in omega (arith, e))

reshaped_rank : (ns : List ℕ) (a : Array) (n : ℕ) → length ns ≡ n → Gives (λ (g : Elements Value). length g.extents ≡ n) (reshaped ns a)
reshaped_rank ns a n h = by (nat_le (size ns) (length a.values))
  where
    by : (b : Bool) → Gives (λ (g : Elements Value). length g.extents ≡ n) (cond b (Ok (settled (record { extents = ns; values = a.values }))) (Err Shape))
    by true = h
    by false = tt

-- a known array of this rank; a scalar has one value
record HasRank (n : ℕ) (a : Array) : Type 0 where
  many : length a.extents ≡ n
  single : a.extents ≡ [] → length a.values ≡ 1

each_many : {A B : Type 0} (f : A → Result B Fault) (xs : List A) → Gives (λ (ys : List B). length ys ≡ length xs) (each f xs)
each_many f [] = refl
each_many f (x ∷ xs) =
    after _ (f x) _ (λ y. behind AnyFault (λ (ys : List _). length ys ≡ length xs) _ (each f xs) _ (each_many f xs) (λ ys e. let g : length (y ∷ ys) ≡ length (x ∷ xs) = omega (arith, e) in g))

whole_rank : (n : ℕ) (g : Elements Value) → length g.extents ≡ n → Gives (HasRank n) (in_whole g)
whole_rank n g h =
    behind AnyFault (λ (vs : List Value). length vs ≡ length (positions g.extents)) (HasRank n) (each g.at (positions g.extents)) (λ vs. Ok (record { extents = g.extents; values = vs })) (each_many g.at (positions g.extents))
    (λ vs e. record { many = h; single = λ q. e ∙ ap (λ ns. length (positions ns)) q })

evaluated_rank : (n : ℕ) (b : Bool) (r : Result Value Fault) (q : Result (Elements Value) Fault) → (b ≡ true → n ≡ 0) → Gives (λ (g : Elements Value). length g.extents ≡ n) q → Gives (HasRank n) (evaluated b r q)
evaluated_rank n true r q h g = after (HasRank n) r (λ x. Ok (scalar_array x)) (λ x. record { many = sym (h refl); single = λ e. refl })
evaluated_rank n false r q h g = behind AnyFault (λ (a : Elements Value). length a.extents ≡ n) (HasRank n) q in_whole g (λ a e. whole_rank n a e)

-- ---- what subscripts select

abbrev rank_of_selector : Selector → ℕ
rank_of_selector (Index z) = 0
rank_of_selector (Triplet l u k) = 1
rank_of_selector (Vector zs) = 1

abbrev rank_of_selectors : List Selector → ℕ
rank_of_selectors [] = 0
rank_of_selectors (z ∷ zs) = rank_of_selector z + rank_of_selectors zs

abbrev rank_of_axis : Axis → ℕ
rank_of_axis (Fixed z) = 0
rank_of_axis (Along zs) = 1

along_rank : (b : ℤ × ℤ) (zs : List ℤ) → Gives (λ a. rank_of_axis a ≡ 1) (along b zs)
along_rank b zs = by (all_stand_in b zs)
  where
    by : (t : Bool) → Gives (λ a. rank_of_axis a ≡ 1) (cond t (Ok (Along zs)) (Err Bounds))
    by true = refl
    by false = tt

axis_rank : (b : ℤ × ℤ) (z : Selector) → Gives (λ a. rank_of_axis a ≡ rank_of_selector z) (axis_on b z)
axis_rank b (Index z) = by (is_within_bounds b z)
  where
    by : (t : Bool) → Gives (λ a. rank_of_axis a ≡ 0) (cond t (Ok (Fixed z)) (Err Bounds))
    by true = refl
    by false = tt
axis_rank b (Triplet l u k) = by (int_eq k (pos 0))
  where
    by : (t : Bool) → Gives (λ a. rank_of_axis a ≡ 1) (cond t (Err ZeroStep) (along b (triplet_numbers l u k)))
    by true = tt
    by false = along_rank b (triplet_numbers l u k)
axis_rank b (Vector zs) = along_rank b zs

one_axis_more : (a : Axis) (axes : List Axis) → length (extents_of (a ∷ axes)) ≡ rank_of_axis a + length (extents_of axes)
one_axis_more (Fixed z) axes = omega arith
one_axis_more (Along zs) axes = omega arith

axes_rank : (bs : List (ℤ × ℤ)) (zs : List Selector) → Gives (λ (axes : List Axis). length (extents_of axes) ≡ rank_of_selectors zs) (axes_on bs zs)
axes_rank [] [] = refl
axes_rank [] (z ∷ zs) = tt
axes_rank (b ∷ bs) [] = tt
axes_rank (b ∷ bs) (z ∷ zs) =
    behind AnyFault (λ a. rank_of_axis a ≡ rank_of_selector z) _ (axis_on b z) _ (axis_rank b z) (λ a e.
    behind AnyFault (λ (axes : List Axis). length (extents_of axes) ≡ rank_of_selectors zs) _ (axes_on bs zs) _ (axes_rank bs zs) (λ axes f.
    let m = one_axis_more a axes in let g : length (extents_of (a ∷ axes)) ≡ rank_of_selectors (z ∷ zs) = omega (arith, e, f, m) in g))

selector_rank : (n : ℕ) (a : Array) (zs : List ℤ) → n ≤ 1 → HasRank n a → length zs ≡ length a.values → rank_of_selector (selector_of a.extents zs) ≡ n
selector_rank n a zs l h e = by a.extents zs h.many h.single e
  where
    by : (ns : List ℕ) (zs : List ℤ) → length ns ≡ n → (ns ≡ [] → length a.values ≡ 1) → length zs ≡ length a.values → rank_of_selector (selector_of ns zs) ≡ n
    by [] [] m s f = absurd (let g = s refl in omega (arith, f, g))
    by [] (z ∷ zs) m s f = m
    by (k ∷ ns) zs m s f = omega (arith, l, m)

both_of : (a b : Bool) → (a && b) ≡ true → (a ≡ true) × (b ≡ true)
both_of true true h = (refl, refl)
both_of true false h = absurd cc
both_of false b h = absurd cc

module _ (lang : Dialect) (p : Program) where
  abbrev ds : List Declaration
  ds = p.declarations

  -- ---- names

  bare_rank : (e : Extent) (b : Option (List (ℤ × ℤ))) → HasBounds e b → is_bare b ≡ true → rank_of_extent e ≡ 0
  bare_rank (Given []) b h q = refl
  bare_rank (Given (c ∷ cs)) b h q = absurd (let f : is_bare (Some (c ∷ cs)) ≡ true = subst (λ o. is_bare o ≡ true) h q in cc)
  bare_rank (Later n) None h q = absurd cc
  bare_rank (Later n) (Some []) h q = sym h
  bare_rank (Later n) (Some (c ∷ cs)) h q = absurd cc

  bounds_rank : (e : Extent) (b : Option (List (ℤ × ℤ))) → HasBounds e b → Gives (λ (bs : List (ℤ × ℤ)). length bs ≡ rank_of_extent e) (bounds_in b)
  bounds_rank (Given cs) b h = subst (λ o. Gives (λ (bs : List (ℤ × ℤ)). length bs ≡ length cs) (bounds_in o)) (sym h) refl
  bounds_rank (Later n) None h = tt
  bounds_rank (Later n) (Some bs) h = h

  of_name : {R : Type 0} → (x : List ℕ) (s : Store) (P : Declaration → Type 0) → HoldsProgram lang p s → IsSomeAnd (declared ds x) P
      → ((e : Extent) → rank_of_name ds x ≡ rank_of_extent e → HasBounds e (s.bounds x) → R) → R
  of_name {R} x s P h g f = by (declared ds x) refl g (h.bounds x)
    where
      by : (o : Option Declaration) → declared ds x ≡ o → IsSomeAnd o P → IfSome o (λ (e : Declaration). HasBounds e.extent (s.bounds x)) → R
      by None q g b = absurd g
      by (Some d) q g b = f d.extent (ap (λ o. elim o [ None ↦ 0 | Some c ↦ rank_of_extent c.extent ]) q) b

  name_rank : (x : List ℕ) (s : Store) (P : Declaration → Type 0) → HoldsProgram lang p s → IsSomeAnd (declared ds x) P → Gives (λ (bs : List (ℤ × ℤ)). length bs ≡ rank_of_name ds x) (stored_bounds x s)
  name_rank x s P h g = of_name x s P h g (λ e q b. subst (λ n. Gives (λ (bs : List (ℤ × ℤ)). length bs ≡ n) (stored_bounds x s)) (sym q) (bounds_rank e (s.bounds x) b))

  -- ---- what is a scalar has no dimensions

  mutual
    scalar_rank : (e : Expression) (k : Kind) (s : Store) → HoldsProgram lang p s → HasKind ds e k → is_scalar e s.bounds ≡ true → rank_of ds e ≡ 0
    scalar_rank (Number n) k s h g q = refl
    scalar_rank (Logic b) k s h g q = refl
    scalar_rank (Named x no_subscripts) k s h g q = of_name x s _ h g.0 (λ e r b. r ∙ bare_rank e (s.bounds x) b q)
    scalar_rank (Named x (subscript r ps)) k s h g q = indices_rank (subscript r ps) s h g.1 q
    scalar_rank (Unary o a) k s h g q = scalar_rank a _ s h g.2 q
    scalar_rank (Binary o a b) k s h g q =
        (let w = both_of (is_scalar a s.bounds) (is_scalar b s.bounds) q in let x = scalar_rank a _ s h g.2 w.0 in let y = scalar_rank b _ s h g.3 w.1 in omega (arith, x, y))
    scalar_rank (Apply f es) k s h g q = scalars_rank es s h g.3 q
    scalar_rank (Constructor es ls) k s h g q = absurd cc
    scalar_rank (Spread a n e) k s h g q = absurd cc
    scalar_rank (Transpose a) k s h g q = absurd cc
    scalar_rank (Reshape a es) k s h g q = absurd cc
    scalar_rank (Reduce r a) k s h g q = refl

    scalars_rank : (es : Expressions) (s : Store) → HoldsProgram lang p s → AreArguments ds es → are_scalar es s.bounds ≡ true → rank_of_each ds es ≡ 0
    scalars_rank no_expressions s h g q = refl
    scalars_rank (expression e es) s h g q =
        (let w = both_of (is_scalar e s.bounds) (are_scalar es s.bounds) q in let x = scalar_rank e _ s h g.0 w.0 in let y = scalars_rank es s h g.2 w.1 in omega (arith, x, y))

    indices_rank : (ps : Subscripts) (s : Store) → HoldsProgram lang p s → AreSubscripts ds ps → are_indices ps s.bounds ≡ true → rank_of_subscripts ds ps ≡ 0
    indices_rank no_subscripts s h g q = refl
    indices_rank (subscript r ps) s h g q =
        (let w = both_of (is_index r s.bounds) (are_indices ps s.bounds) q in let x = index_rank r s h g.0 w.0 in let y = indices_rank ps s h g.1 w.1 in omega (arith, x, y))

    index_rank : (r : Subscript) (s : Store) → HoldsProgram lang p s → IsSubscript ds r → is_index r s.bounds ≡ true → rank_of_subscript ds r ≡ 0
    index_rank (Only e) s h g q = scalar_rank e _ s h g.0 q
    index_rank (Section a b c) s h g q = absurd cc

  -- ---- arrays

  abbrev Ranked : {A : Type 0} → ℕ → Elements A → Type 0
  Ranked n g = length g.extents ≡ n

  mutual
    pub array_rank : (e : Expression) (k : Kind) (s : Store) → HoldsProgram lang p s → HasKind ds e k → Gives (Ranked (rank_of ds e)) (array_of lang e s)
    array_rank (Number n) k s h g = refl
    array_rank (Logic b) k s h g = refl
    array_rank (Named x no_subscripts) k s h g =
        behind AnyFault (λ (bs : List (ℤ × ℤ)). length bs ≡ rank_of_name ds x) (Ranked (rank_of_name ds x)) (stored_bounds x s) _ (name_rank x s _ h g.0) (λ bs e. whole_many bs ∙ e)
    array_rank (Named x (subscript r ps)) k s h g =
        behind AnyFault (λ zs. rank_of_selectors zs ≡ rank_of_subscripts ds (subscript r ps)) (Ranked (rank_of_subscripts ds (subscript r ps))) (selectors lang (subscript r ps) s) _ (selectors_rank (subscript r ps) s h g.1) (λ zs e.
        after (Ranked (rank_of_subscripts ds (subscript r ps))) (stored_bounds x s) _ (λ bs.
        behind AnyFault (λ (axes : List Axis). length (extents_of axes) ≡ rank_of_selectors zs) (Ranked (rank_of_subscripts ds (subscript r ps))) (axes_on bs zs) _ (axes_rank bs zs) (λ axes f. f ∙ e)))
    array_rank (Unary o a) k s h g = behind AnyFault (Ranked (rank_of ds a)) (Ranked (rank_of ds a)) (array_of lang a s) _ (array_rank a _ s h g.2) (λ q e. e)
    array_rank (Binary o a b) k s h g =
        behind AnyFault (Ranked (rank_of ds a)) (Ranked (max (rank_of ds a) (rank_of ds b))) (array_of lang a s) _ (array_rank a _ s h g.2) (λ q e.
        behind AnyFault (Ranked (rank_of ds b)) (Ranked (max (rank_of ds a) (rank_of ds b))) (array_of lang b s) _ (array_rank b _ s h g.3) (λ r f.
        behind AnyFault (Many (max (length q.extents) (length r.extents))) (Ranked (max (rank_of ds a) (rank_of ds b))) (conform q.extents r.extents) _ (conform_many q.extents r.extents)
        (λ ns m. let w : length ns ≡ max (rank_of ds a) (rank_of ds b) = omega (arith, e, f, m) in w)))
    array_rank (Apply f es) k s h g =
        behind AnyFault (Ranked (max 0 (rank_of_each ds es))) (Ranked (rank_of_each ds es)) (arguments_of lang es [] s) _ (more_arguments es [] s h g.3) (λ q e. let w : length q.extents ≡ rank_of_each ds es = omega (arith, e) in w)
    array_rank (Constructor es ls) k s h g = after (Ranked 1) (under lang ls (values_of lang es) s) _ (λ vs. refl)
    array_rank (Spread a n e) k s h g =
        behind AnyFault (HasRank (rank_of ds a)) (Ranked (rank_of ds a + 1)) (evaluated (is_scalar a s.bounds) (value_of lang a s) (array_of lang a s)) _
        (evaluated_rank (rank_of ds a) (is_scalar a s.bounds) (value_of lang a s) (array_of lang a s) (λ q. scalar_rank a k s h g.4 q) (array_rank a k s h g.4)) (λ v w.
        after (Ranked (rank_of ds a + 1)) (numbered (value_of lang e s)) _ (λ z. let m = inserted_many (n - 1) (not_negative z) v.extents in let r = w.many in let t : length (with_extent n (not_negative z) v.extents) ≡ rank_of ds a + 1 = omega (arith, m, r) in t))
    array_rank (Transpose a) k s h g =
        behind AnyFault (Ranked (rank_of ds a)) (Ranked 2) (array_of lang a s) _ (array_rank a k s h g.2) (λ q e.
        behind AnyFault (HasRank (rank_of ds a)) (Ranked 2) (in_whole q) _ (whole_rank (rank_of ds a) q e) (λ v w. swapped_many v.extents ∙ w.many ∙ g.1))
    array_rank (Reshape a es) k s h g =
        after (Ranked (number_of_arguments es)) (array_of lang a s) _ (λ q. after (Ranked (number_of_arguments es)) (in_whole q) _ (λ v.
        behind AnyFault (λ (xs : List Value). length xs ≡ number_of_arguments es) (Ranked (number_of_arguments es)) (values_of lang es s) _ (values_length lang es s) (λ xs e.
        behind AnyFault (λ (zs : List ℤ). length zs ≡ length xs) (Ranked (number_of_arguments es)) (as_numbers xs) _ (numbers_length xs) (λ zs f.
        reshaped_rank (map not_negative zs) v (number_of_arguments es) (length_map not_negative zs ∙ f ∙ e)))))
    array_rank (Reduce r a) k s h g =
        after (Ranked 0) (array_of lang a s) _ (λ q. after (Ranked 0) (in_whole q) _ (λ v. after (Ranked 0) (as_numbers v.values) _ (λ zs. after (Ranked 0) (reduced lang.bits r zs) _ (λ x. refl))))

    more_arguments : (es : Expressions) (ns : List ℕ) (s : Store) → HoldsProgram lang p s → AreArguments ds es → Gives (Ranked (max (length ns) (rank_of_each ds es))) (arguments_of lang es ns s)
    more_arguments no_expressions ns s h g = (let e : length ns ≡ max (length ns) 0 = omega arith in e)
    more_arguments (expression e es) ns s h g =
        behind AnyFault (Ranked (rank_of ds e)) _ (array_of lang e s) _ (array_rank e _ s h g.0) (λ q m.
        behind AnyFault (Many (max (length ns) (length q.extents))) _ (conform ns q.extents) _ (conform_many ns q.extents) (λ ms c.
        behind AnyFault (Ranked (max (length ms) (rank_of_each ds es))) _ (arguments_of lang es ms s) _ (more_arguments es ms s h g.2)
        (λ r f. let w : length r.extents ≡ max (length ns) (max (rank_of ds e) (rank_of_each ds es)) = omega (arith, m, c, f) in w)))

    selectors_rank : (ps : Subscripts) (s : Store) → HoldsProgram lang p s → AreSubscripts ds ps → Gives (λ zs. rank_of_selectors zs ≡ rank_of_subscripts ds ps) (selectors lang ps s)
    selectors_rank no_subscripts s h g = refl
    selectors_rank (subscript r ps) s h g =
        behind AnyFault (λ z. rank_of_selector z ≡ rank_of_subscript ds r) _ (selector lang r s) _ (one_selector r s h g.0) (λ z e.
        behind AnyFault (λ zs. rank_of_selectors zs ≡ rank_of_subscripts ds ps) _ (selectors lang ps s) _ (selectors_rank ps s h g.1) (λ zs f. let w : rank_of_selectors (z ∷ zs) ≡ rank_of_subscripts ds (subscript r ps) = omega (arith, e, f) in w))

    one_selector : (r : Subscript) (s : Store) → HoldsProgram lang p s → IsSubscript ds r → Gives (λ z. rank_of_selector z ≡ rank_of_subscript ds r) (selector lang r s)
    one_selector (Only e) s h g =
        behind AnyFault (HasRank (rank_of ds e)) _ (evaluated (is_scalar e s.bounds) (value_of lang e s) (array_of lang e s)) _
        (evaluated_rank (rank_of ds e) (is_scalar e s.bounds) (value_of lang e s) (array_of lang e s) (λ q. scalar_rank e Integer s h g.0 q) (array_rank e Integer s h g.0)) (λ v w.
        behind AnyFault (λ (zs : List ℤ). length zs ≡ length v.values) _ (as_numbers v.values) _ (numbers_length v.values) (λ zs m. selector_rank (rank_of ds e) v zs g.1 w m))
    one_selector (Section a b c) s h g = after _ (numbered (value_of lang a s)) _ (λ l. after _ (numbered (value_of lang b s)) _ (λ u. after _ (numbered (value_of lang c s)) _ (λ k. refl)))

pub extents_are_rank : ExtentsAreRank
extents_are_rank lang p e k s a h g q = value AnyFault (λ (b : Elements Value). length b.extents ≡ rank_of p.declarations e) (array_of lang e s) a (array_rank lang p e k s h g) q
