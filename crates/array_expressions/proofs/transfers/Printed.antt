-- The values of items of output lists.
use Rattle.std.proofs.Common.{◌≡◌, refl, sym, ap, ◌∙◌, ℕ, ℤ, Bool, true, false, cond, List, [], ◌∷◌, map, Result, Ok, Err, Option, Some, None}
use Rattle.std.specs.Prelude.{not}
use Rattle.tree.specs.Steps.{◌>>=◌}
use Rattle.tree.specs.Plain.{Expression, Number, Logic, Named, Unary, Binary, Apply, Constructor, Spread, Transpose, Reshape, Reduce, Subscripts, no_subscripts, subscript}
use Rattle.tree.specs.declared.ops.Value.{Value}
use Rattle.tree.specs.declared.ops.Fault.{Fault}
use Rattle.meaning.specs.Dialect.{fortran90}
use Rattle.tree.specs.declared.width.Width.{Width}
use Rattle.meaning.specs.ArrayValues.{Array, Elements, in_whole}
use Rattle.meaning.specs.Store.{Store, Cell, bounds_in, cell_in, cell_at, cells_of}
use Rattle.meaning.specs.Value.{is_scalar, is_bare, value_of, array_of, all_elements, item_values, item_cells, subscript_values}
use Rattle.array_values.specs.declared.failure.Failure.{Failure}
use Rattle.array_values.specs.declared.failure.Failure.TheVariants as failure
use Rattle.array_values.specs.declared.known.Known.{Known}
use Rattle.array_values.specs.Answers.{Answers}
use Rattle.array_values.specs.Arrays.{array_in}
use Rattle.array_expressions.specs.Scopes.{whole_of}
use Rattle.array_expressions.specs.transfers.Printing.{one_value}

chosen : {A : Type 0} (b c : Bool) (p q : A) → b ≡ c → cond (not b) p q ≡ cond (not c) p q
chosen b c p q e = ap (λ b. cond (not b) p q) e

bare : (b : Option (List (ℤ × ℤ))) → is_bare b ≡ true → b ≡ Some []
bare None e = cc
bare (Some []) e = refl
bare (Some (x ∷ xs)) e = cc

module _ (width : Width) (s : Store) where
  bare_value : (x : List ℕ) (b : Option (List (ℤ × ℤ))) → b ≡ Some []
      → ◌≡◌ {A = Result (List Value) Fault} (do cs ← (do bs ← bounds_in b; Ok (cells_of x bs)); Ok (map s.held cs)) (do v ← (do c ← cell_in b x []; Ok (s.held c)); Ok (v ∷ []))
  bare_value x b e = ap (λ b. do cs ← (do bs ← bounds_in b; Ok (cells_of x bs)); Ok (map s.held cs)) e ∙ sym (ap (λ b. do v ← (do c ← cell_in b x []; Ok (s.held c)); Ok (v ∷ [])) e)

  element_value : (x : List ℕ) (q : Result (List ℤ) Fault)
      → ◌≡◌ {A = Result (List Value) Fault} (do cs ← (do is ← q; c ← cell_at x is s; Ok (c ∷ [])); Ok (map s.held cs)) (do v ← (do is ← q; c ← cell_at x is s; Ok (s.held c)); Ok (v ∷ []))
  element_value x (Err f) = refl
  element_value x (Ok is) = by (cell_at x is s)
    where
      by : (q : Result Cell Fault) → ◌≡◌ {A = Result (List Value) Fault} (do cs ← (do c ← q; Ok (c ∷ [])); Ok (map s.held cs)) (do v ← (do c ← q; Ok (s.held c)); Ok (v ∷ []))
      by (Ok c) = refl
      by (Err f) = refl

  named_value : (x : List ℕ) (ps : Subscripts) → is_scalar (Named x ps) s.bounds ≡ true
      → ◌≡◌ {A = Result (List Value) Fault} (do cs ← item_cells (fortran90 width) x ps s; Ok (map s.held cs)) (one_value width (Named x ps) s)
  named_value x no_subscripts e = bare_value x (s.bounds x) (bare (s.bounds x) e)
  named_value x (subscript p ps) e = element_value x (subscript_values (fortran90 width) (subscript p ps) s)

  pub scalar_item : (e : Expression) → is_scalar e s.bounds ≡ true → item_values (fortran90 width) e s ≡ one_value width e s
  scalar_item (Number n) h = refl
  scalar_item (Logic b) h = refl
  scalar_item (Named x ps) h = chosen (is_scalar (Named x ps) s.bounds) true (all_elements (fortran90 width) (Named x ps) s) (do cs ← item_cells (fortran90 width) x ps s; Ok (map s.held cs)) h ∙ named_value x ps h
  scalar_item (Unary o a) h = chosen (is_scalar (Unary o a) s.bounds) true (all_elements (fortran90 width) (Unary o a) s) (one_value width (Unary o a) s) h
  scalar_item (Binary o a b) h = chosen (is_scalar (Binary o a b) s.bounds) true (all_elements (fortran90 width) (Binary o a b) s) (one_value width (Binary o a b) s) h
  scalar_item (Apply f es) h = chosen (is_scalar (Apply f es) s.bounds) true (all_elements (fortran90 width) (Apply f es) s) (one_value width (Apply f es) s) h
  scalar_item (Constructor es ls) h = cc
  scalar_item (Spread a k e) h = cc
  scalar_item (Transpose a) h = cc
  scalar_item (Reshape a es) h = cc
  scalar_item (Reduce r a) h = refl

  pub array_item : (e : Expression) → is_scalar e s.bounds ≡ false → item_values (fortran90 width) e s ≡ all_elements (fortran90 width) e s
  array_item (Number n) h = cc
  array_item (Logic b) h = cc
  array_item (Named x ps) h = chosen (is_scalar (Named x ps) s.bounds) false (all_elements (fortran90 width) (Named x ps) s) (do cs ← item_cells (fortran90 width) x ps s; Ok (map s.held cs)) h
  array_item (Unary o a) h = chosen (is_scalar (Unary o a) s.bounds) false (all_elements (fortran90 width) (Unary o a) s) (one_value width (Unary o a) s) h
  array_item (Binary o a b) h = chosen (is_scalar (Binary o a b) s.bounds) false (all_elements (fortran90 width) (Binary o a b) s) (one_value width (Binary o a b) s) h
  array_item (Apply f es) h = chosen (is_scalar (Apply f es) s.bounds) false (all_elements (fortran90 width) (Apply f es) s) (one_value width (Apply f es) s) h
  array_item (Constructor es ls) h = refl
  array_item (Spread a k e) h = refl
  array_item (Transpose a) h = refl
  array_item (Reshape a es) h = refl
  array_item (Reduce r a) h = cc

-- ---- what the machine's questions answer

whole_elements : (q : Result (Elements Value) Fault) → ◌≡◌ {A = Result (List Value) Fault} (do g ← q; v ← in_whole g; Ok v.values) (do v ← (do g ← q; in_whole g); Ok v.values)
whole_elements (Ok g) = refl
whole_elements (Err f) = refl

pub elements_answered : (width : Width) (e : Expression) (s : Store) (r : Result Known Failure) → Answers array_in (whole_of width e s) r → Answers (λ (k : Known). k.values) (all_elements (fortran90 width) e s) r
elements_answered width e s (Ok k) h = whole_elements (array_of (fortran90 width) e s) ∙ ap (λ (q : Result Array Fault). do v ← q; Ok v.values) h
elements_answered width e s (Err (failure.Fault f)) h = whole_elements (array_of (fortran90 width) e s) ∙ ap (λ (q : Result Array Fault). do v ← q; Ok v.values) h
elements_answered width e s (Err failure.Memory) h = tt

pub value_answered : (width : Width) (e : Expression) (s : Store) (r : Result Value Failure) → Answers (λ (v : Value). v) (value_of (fortran90 width) e s) r → Answers (λ (v : Value). v ∷ []) (one_value width e s) r
value_answered width e s (Ok v) h = ap (λ (q : Result Value Fault). do x ← q; Ok (x ∷ [])) h
value_answered width e s (Err (failure.Fault f)) h = ap (λ (q : Result Value Fault). do x ← q; Ok (x ∷ [])) h
value_answered width e s (Err failure.Memory) h = tt
