-- What has a value without arrays as values has the same one with them, and is a scalar.
use Rattle.std.proofs.Common.{◌≡◌, refl, ap, ◌∙◌, ℕ, ℤ, Bool, true, false, ◌&&◌, List, [], ◌∷◌, Result, Ok, Option, Some, None}
use Rattle.tree.specs.Steps.{◌>>=◌}
use Rattle.tree.specs.Operators.{apply, call, as_number, as_truth}
use Rattle.tree.specs.Plain.{Expression, Number, Logic, Named, Unary, Binary, Apply, Constructor, Spread, Transpose, Reshape, Reduce, Expressions, no_expressions, expression, Subscript, Only, Section, Subscripts, no_subscripts, subscript, Reference}
use Rattle.tree.specs.declared.ops.Value.{Value}
use Rattle.tree.specs.declared.ops.Fault.{Fault}
use Rattle.meaning.specs.Store.{Store, Cell, cell_at, cell_in}
use Rattle.meaning.specs.Value.{value_of, values_of, subscript_value, subscript_values, number_of, truth_of, cell_named, is_scalar, are_scalar, are_indices, is_index, name_is_scalar, is_bare, is_array, named}
use Rattle.nest_order.specs.runs.Guarded.{dialect, sequential}
use Rattle.nest_order.proofs.runs.Results.{both_ok, after_ok}

module _ (bits : ℕ) (arrays : Bool) (s : Store) where
  mutual
    pub value_kept : (e : Expression) (v : Value) → value_of (sequential bits) e s ≡ Ok v → value_of (dialect bits arrays) e s ≡ Ok v
    value_kept (Number n) v h = h
    value_kept (Logic b) v h = h
    value_kept (Named x ps) v h =
        let a = both_ok (subscript_values (sequential bits) ps s) (λ is. do c ← cell_at x is s; Ok (s.held c)) v h in
        after_ok (subscript_values (dialect bits arrays) ps s) (λ is. do c ← cell_at x is s; Ok (s.held c)) a.0 (subscripts_kept ps a.0 a.1) ∙ a.2
    value_kept (Unary o e) v h =
        let a = both_ok (value_of (sequential bits) e s) (λ x. apply o x x) v h in
        after_ok (value_of (dialect bits arrays) e s) (λ x. apply o x x) a.0 (value_kept e a.0 a.1) ∙ a.2
    value_kept (Binary o e f) v h =
        let a = both_ok (value_of (sequential bits) e s) (λ x. do y ← value_of (sequential bits) f s; apply o x y) v h in
        let b = both_ok (value_of (sequential bits) f s) (λ y. apply o a.0 y) v a.2 in
        after_ok (value_of (dialect bits arrays) e s) (λ x. do y ← value_of (dialect bits arrays) f s; apply o x y) a.0 (value_kept e a.0 a.1)
        ∙ (after_ok (value_of (dialect bits arrays) f s) (λ y. apply o a.0 y) b.0 (value_kept f b.0 b.1) ∙ b.2)
    value_kept (Apply f es) v h =
        let a = both_ok (values_of (sequential bits) es s) (λ xs. call f xs) v h in
        after_ok (values_of (dialect bits arrays) es s) (λ xs. call f xs) a.0 (values_kept es a.0 a.1) ∙ a.2
    value_kept (Constructor es ls) v h = cc
    value_kept (Spread a k e) v h = cc
    value_kept (Transpose a) v h = cc
    value_kept (Reshape a es) v h = cc
    value_kept (Reduce r a) v h = cc

    values_kept : (es : Expressions) (vs : List Value) → values_of (sequential bits) es s ≡ Ok vs → values_of (dialect bits arrays) es s ≡ Ok vs
    values_kept no_expressions vs h = h
    values_kept (expression e es) vs h =
        let a = both_ok (value_of (sequential bits) e s) (λ x. do xs ← values_of (sequential bits) es s; Ok (x ∷ xs)) vs h in
        let b = both_ok (values_of (sequential bits) es s) (λ xs. Ok (a.0 ∷ xs)) vs a.2 in
        after_ok (value_of (dialect bits arrays) e s) (λ x. do xs ← values_of (dialect bits arrays) es s; Ok (x ∷ xs)) a.0 (value_kept e a.0 a.1)
        ∙ (after_ok (values_of (dialect bits arrays) es s) (λ xs. Ok (a.0 ∷ xs)) b.0 (values_kept es b.0 b.1) ∙ b.2)

    subscripts_kept : (ps : Subscripts) (zs : List ℤ) → subscript_values (sequential bits) ps s ≡ Ok zs → subscript_values (dialect bits arrays) ps s ≡ Ok zs
    subscripts_kept no_subscripts zs h = h
    subscripts_kept (subscript p ps) zs h =
        let a = both_ok (subscript_value (sequential bits) p s) (λ i. do is ← subscript_values (sequential bits) ps s; Ok (i ∷ is)) zs h in
        let b = both_ok (subscript_values (sequential bits) ps s) (λ is. Ok (a.0 ∷ is)) zs a.2 in
        after_ok (subscript_value (dialect bits arrays) p s) (λ i. do is ← subscript_values (dialect bits arrays) ps s; Ok (i ∷ is)) a.0 (subscript_kept p a.0 a.1)
        ∙ (after_ok (subscript_values (dialect bits arrays) ps s) (λ is. Ok (a.0 ∷ is)) b.0 (subscripts_kept ps b.0 b.1) ∙ b.2)

    subscript_kept : (p : Subscript) (z : ℤ) → subscript_value (sequential bits) p s ≡ Ok z → subscript_value (dialect bits arrays) p s ≡ Ok z
    subscript_kept (Only e) z h =
        let a = both_ok (value_of (sequential bits) e s) as_number z h in
        after_ok (value_of (dialect bits arrays) e s) as_number a.0 (value_kept e a.0 a.1) ∙ a.2
    subscript_kept (Section a b c) z h = cc

  pub number_kept : (e : Expression) (z : ℤ) → number_of (sequential bits) e s ≡ Ok z → number_of (dialect bits arrays) e s ≡ Ok z
  number_kept e z h =
      let a = both_ok (value_of (sequential bits) e s) as_number z h in
      after_ok (value_of (dialect bits arrays) e s) as_number a.0 (value_kept e a.0 a.1) ∙ a.2

  pub truth_kept : (e : Expression) (b : Bool) → truth_of (sequential bits) e s ≡ Ok b → truth_of (dialect bits arrays) e s ≡ Ok b
  truth_kept e b h =
      let a = both_ok (value_of (sequential bits) e s) as_truth b h in
      after_ok (value_of (dialect bits arrays) e s) as_truth a.0 (value_kept e a.0 a.1) ∙ a.2

  pub cell_kept : (r : Reference) (c : Cell) → cell_named (sequential bits) r s ≡ Ok c → cell_named (dialect bits arrays) r s ≡ Ok c
  cell_kept r c h =
      let a = both_ok (subscript_values (sequential bits) r.subscripts s) (λ is. cell_at r.name is s) c h in
      after_ok (subscript_values (dialect bits arrays) r.subscripts s) (λ is. cell_at r.name is s) a.0 (subscripts_kept r.subscripts a.0 a.1) ∙ a.2

  -- ---- scalars

  bare : (b : Option (List (ℤ × ℤ))) (x : List ℕ) (c : Cell) → cell_in b x [] ≡ Ok c → is_bare b ≡ true
  bare None x c e = cc
  bare (Some []) x c e = refl
  bare (Some (b ∷ bs)) x c e = cc

  two_true : (p q : Bool) → p ≡ true → q ≡ true → (p && q) ≡ true
  two_true p q e f = rw (e, f) refl

  name_there : (x : List ℕ) (ps : Subscripts) (zs : List ℤ) (c : Cell) → subscript_values (sequential bits) ps s ≡ Ok zs → are_indices ps s.bounds ≡ true → cell_at x zs s ≡ Ok c → name_is_scalar ps (s.bounds x) (are_indices ps s.bounds) ≡ true
  name_there x no_subscripts zs c h are g = bare (s.bounds x) x c (ap (λ is. cell_at x is s) (nothing zs h) ∙ g)
    where
      nothing : (zs : List ℤ) → ◌≡◌ {A = Result (List ℤ) Fault} (Ok []) (Ok zs) → [] ≡ zs
      nothing zs e = cc
  name_there x (subscript p ps) zs c h are g = are

  mutual
    pub is_scalar_there : (e : Expression) (v : Value) → value_of (sequential bits) e s ≡ Ok v → is_scalar e s.bounds ≡ true
    is_scalar_there (Number n) v h = refl
    is_scalar_there (Logic b) v h = refl
    is_scalar_there (Named x ps) v h =
        let a = both_ok (subscript_values (sequential bits) ps s) (λ is. do c ← cell_at x is s; Ok (s.held c)) v h in
        let b = both_ok (cell_at x a.0 s) (λ c. Ok (s.held c)) v a.2 in
        name_there x ps a.0 b.0 a.1 (are_indices_there ps a.0 a.1) b.1
    is_scalar_there (Unary o e) v h =
        let a = both_ok (value_of (sequential bits) e s) (λ x. apply o x x) v h in is_scalar_there e a.0 a.1
    is_scalar_there (Binary o e f) v h =
        let a = both_ok (value_of (sequential bits) e s) (λ x. do y ← value_of (sequential bits) f s; apply o x y) v h in
        let b = both_ok (value_of (sequential bits) f s) (λ y. apply o a.0 y) v a.2 in
        two_true (is_scalar e s.bounds) (is_scalar f s.bounds) (is_scalar_there e a.0 a.1) (is_scalar_there f b.0 b.1)
    is_scalar_there (Apply f es) v h =
        let a = both_ok (values_of (sequential bits) es s) (λ xs. call f xs) v h in are_scalar_there es a.0 a.1
    is_scalar_there (Constructor es ls) v h = cc
    is_scalar_there (Spread a k e) v h = cc
    is_scalar_there (Transpose a) v h = cc
    is_scalar_there (Reshape a es) v h = cc
    is_scalar_there (Reduce r a) v h = refl

    are_scalar_there : (es : Expressions) (vs : List Value) → values_of (sequential bits) es s ≡ Ok vs → are_scalar es s.bounds ≡ true
    are_scalar_there no_expressions vs h = refl
    are_scalar_there (expression e es) vs h =
        let a = both_ok (value_of (sequential bits) e s) (λ x. do xs ← values_of (sequential bits) es s; Ok (x ∷ xs)) vs h in
        let b = both_ok (values_of (sequential bits) es s) (λ xs. Ok (a.0 ∷ xs)) vs a.2 in
        two_true (is_scalar e s.bounds) (are_scalar es s.bounds) (is_scalar_there e a.0 a.1) (are_scalar_there es b.0 b.1)

    are_indices_there : (ps : Subscripts) (zs : List ℤ) → subscript_values (sequential bits) ps s ≡ Ok zs → are_indices ps s.bounds ≡ true
    are_indices_there no_subscripts zs h = refl
    are_indices_there (subscript p ps) zs h =
        let a = both_ok (subscript_value (sequential bits) p s) (λ i. do is ← subscript_values (sequential bits) ps s; Ok (i ∷ is)) zs h in
        let b = both_ok (subscript_values (sequential bits) ps s) (λ is. Ok (a.0 ∷ is)) zs a.2 in
        two_true (is_index p s.bounds) (are_indices ps s.bounds) (is_index_there p a.0 a.1) (are_indices_there ps b.0 b.1)

    is_index_there : (p : Subscript) (z : ℤ) → subscript_value (sequential bits) p s ≡ Ok z → is_index p s.bounds ≡ true
    is_index_there (Only e) z h =
        let a = both_ok (value_of (sequential bits) e s) as_number z h in is_scalar_there e a.0 a.1
    is_index_there (Section a b c) z h = cc

  -- a left side that names a cell is no array
  pub no_array : (r : Reference) (c : Cell) → cell_named (sequential bits) r s ≡ Ok c → is_array (dialect bits arrays) (named r) s ≡ false
  no_array r c h =
      let a = both_ok (subscript_values (sequential bits) r.subscripts s) (λ is. cell_at r.name is s) c h in
      by (is_scalar (named r) s.bounds) (name_there r.name r.subscripts a.0 c a.1 (are_indices_there r.subscripts a.0 a.1) a.2) arrays
    where
      by : (b : Bool) → b ≡ true → (arrays : Bool) → (arrays && Rattle.std.specs.Prelude.not b) ≡ false
      by b e true = ap Rattle.std.specs.Prelude.not e
      by b e false = refl
