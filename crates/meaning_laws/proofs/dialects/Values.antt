-- An expression of FORTRAN 77 is a scalar, and has one value in dialects with and without arrays.
use Rattle.std.proofs.Common.{◌≡◌, refl, ap, ℕ, ℤ, Bool, true, false, cond, ◌&&◌, List, [], ◌∷◌, length, Ok, Option, Some, None}
use Rattle.std.specs.List.{AllByRecursion}
use Rattle.std.specs.Option.{IsSomeAnd}
use Rattle.std.specs.Str.{bytes_eq}
use mathlib.Core.Path.{ap₂}
use Rattle.tree.specs.Operators.{apply, call, as_number}
use Rattle.tree.specs.Plain.{Expression, Number, Logic, Named, Unary, Binary, Apply, Constructor, Spread, Transpose, Reshape, Reduce, Expressions, no_expressions, expression, Subscript, Only, Section, Subscripts, no_subscripts, subscript, Extent, Given, Later, Declaration}
use Rattle.tree.specs.Steps.{◌>>=◌}
use Rattle.tree.specs.declared.ops.Kind.{Kind}
use Rattle.meaning.specs.Dialect.{Dialect}
use Rattle.meaning.specs.Profile77.{IsFixed, IsDeclaration}
use Rattle.meaning.specs.Store.{Store, cell_at, opening_bounds}
use Rattle.meaning.specs.Typed77.{dimensions, declared, HasKind, AreArguments, AreSubscripts, IsSubscript}
use Rattle.meaning.specs.Value.{value_of, values_of, subscript_value, subscript_values, is_scalar, are_scalar, are_indices, is_index, is_bare}

-- the two dialects with this range of INTEGER
abbrev pub without_arrays : ℕ → Dialect
without_arrays n = record { bits = n; arrays = false }

abbrev pub with_arrays : ℕ → Dialect
with_arrays n = record { bits = n; arrays = true }

-- ---- values

module _ (n : ℕ) (ds : List Declaration) where
  mutual
    pub value_same : (e : Expression) (k : Kind) → HasKind ds e k → (s : Store) → value_of (without_arrays n) e s ≡ value_of (with_arrays n) e s
    value_same (Number z) k h s = refl
    value_same (Logic b) k h s = refl
    value_same (Named x ps) k h s = ap (λ r. do is ← r; c ← cell_at x is s; Ok (s.held c)) (subscripts_same ps h.1 s)
    value_same (Unary o a) k h s = ap (λ r. do x ← r; apply o x x) (value_same a _ h.2 s)
    value_same (Binary o a b) k h s = ap₂ (λ r q. do x ← r; y ← q; apply o x y) (value_same a _ h.2 s) (value_same b _ h.3 s)
    value_same (Apply f es) k h s = ap (λ r. do xs ← r; call f xs) (values_same es h.3 s)
    value_same (Constructor es ls) k h s = absurd h
    value_same (Spread a m e) k h s = absurd h
    value_same (Transpose a) k h s = absurd h
    value_same (Reshape a es) k h s = absurd h
    value_same (Reduce r a) k h s = absurd h

    values_same : (es : Expressions) → AreArguments ds es → (s : Store) → values_of (without_arrays n) es s ≡ values_of (with_arrays n) es s
    values_same no_expressions h s = refl
    values_same (expression e es) h s = ap₂ (λ r q. do x ← r; xs ← q; Ok (x ∷ xs)) (value_same e _ h.0 s) (values_same es h.1 s)

    pub subscripts_same : (ps : Subscripts) → AreSubscripts ds ps → (s : Store) → subscript_values (without_arrays n) ps s ≡ subscript_values (with_arrays n) ps s
    subscripts_same no_subscripts h s = refl
    subscripts_same (subscript p ps) h s = ap₂ (λ r q. do i ← r; is ← q; Ok (i ∷ is)) (subscript_same p h.0 s) (subscripts_same ps h.1 s)

    subscript_same : (p : Subscript) → IsSubscript ds p → (s : Store) → subscript_value (without_arrays n) p s ≡ subscript_value (with_arrays n) p s
    subscript_same (Only e) h s = ap (λ r. do x ← r; as_number x) (value_same e _ h s)
    subscript_same (Section a b c) h s = absurd h

-- ---- scalars, by the bounds that the declarations give

abbrev pub AllFixed : List Declaration → Type 0
AllFixed ds = AllByRecursion (λ (d : Declaration). IsFixed d.extent) ds

pub all_fixed : (own : Dialect) (ds : List Declaration) → AllByRecursion (IsDeclaration own) ds → AllFixed ds
all_fixed own [] h = tt
all_fixed own (d ∷ ds) h = (h.0.fixed, all_fixed own ds h.1)

abbrev bounds_given : Extent → Option (List (ℤ × ℤ))
bounds_given e = elim e [ Given bs ↦ Some bs | Later n ↦ None ]

bare_extent : (e : Extent) → IsFixed e → 0 ≡ length (dimensions e) → is_bare (bounds_given e) ≡ true
bare_extent (Given []) f h = refl
bare_extent (Given (b ∷ bs)) f h = cc
bare_extent (Later n) f h = absurd f

-- a declaration of this kind without dimensions
abbrev IsScalar : Kind → Declaration → Type 0
IsScalar k d = (k ≡ d.kind) × (0 ≡ length (dimensions d.extent))

bare_name : (ds : List Declaration) → AllFixed ds → (x : List ℕ) (k : Kind) → IsSomeAnd (declared ds x) (IsScalar k) → is_bare (opening_bounds ds x) ≡ true
bare_name [] f x k h = absurd h
bare_name (d ∷ ds) f x k h = by (bare_name ds f.1 x k) (bytes_eq d.name x) h
  where
    by : (IsSomeAnd (declared ds x) (IsScalar k) → is_bare (opening_bounds ds x) ≡ true) → (b : Bool) → IsSomeAnd (cond b (Some d) (declared ds x)) (IsScalar k) → is_bare (cond b (bounds_given d.extent) (opening_bounds ds x)) ≡ true
    by more true h = bare_extent d.extent f.0 h.1
    by more false h = more h

both_true : (a b : Bool) → a ≡ true → b ≡ true → (a && b) ≡ true
both_true true true e f = refl
both_true true false e f = cc
both_true false b e f = cc

module _ (ds : List Declaration) (fixed : AllFixed ds) where
  mutual
    pub scalar : (e : Expression) (k : Kind) → HasKind ds e k → is_scalar e (opening_bounds ds) ≡ true
    scalar (Number z) k h = refl
    scalar (Logic b) k h = refl
    scalar (Named x no_subscripts) k h = bare_name ds fixed x k h.0
    scalar (Named x (subscript q ps)) k h = scalar_subscripts (subscript q ps) h.1
    scalar (Unary o a) k h = scalar a _ h.2
    scalar (Binary o a b) k h = both_true _ _ (scalar a _ h.2) (scalar b _ h.3)
    scalar (Apply f es) k h = scalar_arguments es h.3
    scalar (Constructor es ls) k h = absurd h
    scalar (Spread a m e) k h = absurd h
    scalar (Transpose a) k h = absurd h
    scalar (Reshape a es) k h = absurd h
    scalar (Reduce r a) k h = absurd h

    scalar_arguments : (es : Expressions) → AreArguments ds es → are_scalar es (opening_bounds ds) ≡ true
    scalar_arguments no_expressions h = refl
    scalar_arguments (expression e es) h = both_true _ _ (scalar e _ h.0) (scalar_arguments es h.1)

    scalar_subscripts : (ps : Subscripts) → AreSubscripts ds ps → are_indices ps (opening_bounds ds) ≡ true
    scalar_subscripts no_subscripts h = refl
    scalar_subscripts (subscript q ps) h = both_true _ _ (scalar_subscript q h.0) (scalar_subscripts ps h.1)

    scalar_subscript : (q : Subscript) → IsSubscript ds q → is_index q (opening_bounds ds) ≡ true
    scalar_subscript (Only e) h = scalar e _ h
    scalar_subscript (Section a b c) h = absurd h
