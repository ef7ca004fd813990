-- What has a value is a scalar.
use Rattle.std.proofs.Common.{◌≡◌, refl, ℕ, ℤ, true, ◌&&◌, List, [], ◌∷◌, Ok, Option, Some, None}
use mathlib.Core.Path.{ap₂}
use Rattle.tree.specs.Operators.{apply, call, as_number}
use Rattle.tree.specs.Plain.{Expression, Number, Logic, Named, Unary, Binary, Apply, Constructor, Spread, Transpose, Reshape, Reduce, Expressions, no_expressions, expression, Subscript, Only, Section, Subscripts, no_subscripts, subscript}
use Rattle.tree.specs.Steps.{◌>>=◌}
use Rattle.tree.specs.declared.ops.Value.{Value}
use Rattle.meaning.specs.Dialect.{Dialect}
use Rattle.meaning.specs.Store.{Store, Cell, cell_in, cell_at}
use Rattle.meaning.specs.Value.{value_of, values_of, subscript_value, subscript_values, is_scalar, are_scalar, are_indices, is_index, is_bare}
use Rattle.meaning_laws.proofs.arrays.Stages.{bound}

bare : (h : Cell → Value) (o : Option (List (ℤ × ℤ))) (x : List ℕ) (v : Value) → (do c ← cell_in o x []; Ok (h c)) ≡ Ok v → is_bare o ≡ true
bare h None x v e = absurd cc
bare h (Some []) x v e = refl
bare h (Some (b ∷ bs)) x v e = absurd cc

module _ (d : Dialect) (s : Store) where
  mutual
    pub scalar_of : (e : Expression) (v : Value) → value_of d e s ≡ Ok v → is_scalar e s.bounds ≡ true
    scalar_of (Number n) v h = refl
    scalar_of (Logic b) v h = refl
    scalar_of (Named x no_subscripts) v h = bare s.held (s.bounds x) x v h
    scalar_of (Named x (subscript p ps)) v h =
        let zs = bound (subscript_values d (subscript p ps) s) (λ is. do c ← cell_at x is s; Ok (s.held c)) v h in
        indices_of (subscript p ps) zs.0 zs.1
    scalar_of (Unary o a) v h = let x = bound (value_of d a s) (λ x. apply o x x) v h in scalar_of a x.0 x.1
    scalar_of (Binary o a b) v h =
        let x = bound (value_of d a s) (λ x. do y ← value_of d b s; apply o x y) v h in
        let y = bound (value_of d b s) (λ y. apply o x.0 y) v x.2 in
        ap₂ (λ p q. p && q) (scalar_of a x.0 x.1) (scalar_of b y.0 y.1)
    scalar_of (Apply f es) v h = let xs = bound (values_of d es s) (λ xs. call f xs) v h in scalars_of es xs.0 xs.1
    scalar_of (Reduce r a) v h = refl
    scalar_of (Constructor es ls) v h = absurd cc
    scalar_of (Spread a k e) v h = absurd cc
    scalar_of (Transpose a) v h = absurd cc
    scalar_of (Reshape a es) v h = absurd cc

    scalars_of : (es : Expressions) (vs : List Value) → values_of d es s ≡ Ok vs → are_scalar es s.bounds ≡ true
    scalars_of no_expressions vs h = refl
    scalars_of (expression e es) vs h =
        let x = bound (value_of d e s) (λ x. do xs ← values_of d es s; Ok (x ∷ xs)) vs h in
        let xs = bound (values_of d es s) (λ xs. Ok (x.0 ∷ xs)) vs x.2 in
        ap₂ (λ p q. p && q) (scalar_of e x.0 x.1) (scalars_of es xs.0 xs.1)

    indices_of : (ps : Subscripts) (zs : List ℤ) → subscript_values d ps s ≡ Ok zs → are_indices ps s.bounds ≡ true
    indices_of no_subscripts zs h = refl
    indices_of (subscript p ps) zs h =
        let i = bound (subscript_value d p s) (λ i. do is ← subscript_values d ps s; Ok (i ∷ is)) zs h in
        let is = bound (subscript_values d ps s) (λ is. Ok (i.0 ∷ is)) zs i.2 in
        ap₂ (λ p q. p && q) (index_of p i.0 i.1) (indices_of ps is.0 is.1)

    index_of : (p : Subscript) (z : ℤ) → subscript_value d p s ≡ Ok z → is_index p s.bounds ≡ true
    index_of (Only e) z h = let v = bound (value_of d e s) (λ x. as_number x) z h in scalar_of e v.0 v.1
    index_of (Section a b c) z h = absurd cc
