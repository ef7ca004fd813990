-- The values of symbolic constants: each has the kind of its name, and is in the range of INTEGER.
use Rattle.std.proofs.Common.{◌≡◌, ℕ, Bool, true, false, not, ◌&&◌, cond, Option, Some, None, ℤ, List, [], ◌∷◌, refl, sym, ap, subst, ◌∙◌, flat_map}
use Rattle.std.specs.Prelude.{Result, Ok, Err}
use Rattle.std.specs.List.{AllByRecursion}
use Rattle.std.specs.Str.{bytes_eq}
use Rattle.tree.specs.Steps.{◌>>=◌}
use Rattle.tree.specs.Operators.{fits, ranged, exact_value, on_numbers, on_truths, apply, call, exact_of_values, is_neg}
use Rattle.tree.specs.Operators.{is_not}
use Rattle.tree.specs.OperationFaults.{kind_of}
use Rattle.tree.specs.declared.ops.Kind.{Kind}
use Rattle.tree.specs.declared.ops.Kind.TheVariants.{Integer, Logical}
use Rattle.tree.specs.declared.ops.Fault.{Fault}
use Rattle.tree.specs.declared.ops.Fault.TheVariants.{Overflow, Bounds, Shape}
use Rattle.tree.specs.declared.ops.Value.{Value}
use Rattle.tree.specs.declared.ops.Value.TheVariants.{Int, Truth}
use Rattle.tree.specs.declared.ops.Op.{Op}
use Rattle.tree.specs.declared.ops.Op.TheVariants.{Pow, Mul, Div, Neg, Add, Sub, Lt, Le, Eq, Ne, Gt, Ge, Not, And, Or, Eqv, Neqv}
use Rattle.tree.specs.Plain.{Expression, Number, Logic, Named, Unary, Binary, Apply, Subscripts, no_subscripts, subscript}
use Rattle.meaning.specs.Store.{Store, Cell, cell_at, cell_in, is_within}
use Rattle.meaning.specs.Value.{value_of, values_of, subscript_values, subscript_value, is_in_range}
use Rattle.meaning.specs.Dialect.{Dialect}
use Rattle.f77_grammar.specs.Statement77.{NamedConstant, Labelled}
use Rattle.meaning.specs.Typed77.{number_of_arguments}
use Rattle.f77_grammar.specs.program.Uses.{Use77, is_array_name, kind_of_name}
use Rattle.f77_grammar.specs.program.Kinds.{same_kind, has_kind, name_has_kind, are_arguments}
use Rattle.tree.specs.OperatorTable.{result_kind_of, operand_kind, is_unary}
use Rattle.tree.specs.Functions.{suits_number}
use Rattle.f77_grammar.specs.program.Limits.{in_range, named_constant_value, no_values, with_named_value, with_named_constant, with_constants, definitions_of, constants_of}
use Rattle.f77_laws.proofs.Lists.{left_true, right_true}
use Rattle.f77_laws.proofs.Variables.{same_name}

pub kinds_same : (a b : Kind) → same_kind a b ≡ true → a ≡ b
kinds_same Integer Integer h = refl
kinds_same Logical Logical h = refl
kinds_same Integer Logical h = absurd cc
kinds_same Logical Integer h = absurd cc

-- ---- the kind of a result

ranged_kind : (r : Result ℤ Fault) (v : Value) → ranged r ≡ Ok v → kind_of v ≡ Integer
ranged_kind (Err f) v h = absurd cc
ranged_kind (Ok z) v h = by (fits 127 z) h
  where
    by : (b : Bool) → cond b (Ok (Int z)) (Err Overflow) ≡ Ok v → kind_of v ≡ Integer
    by true h = let e : Int z ≡ v = cc in ap kind_of (sym e)
    by false h = absurd cc

truth_kind : (b : Bool) (v : Value) → ◌≡◌ {A = Result Value Fault} (Ok (Truth b)) (Ok v) → kind_of v ≡ Logical
truth_kind b v h = let e : Truth b ≡ v = cc in ap kind_of (sym e)

numbers_kind : (o : Op) (a b : ℤ) (v : Value) → on_numbers o a b ≡ Ok v → kind_of v ≡ result_kind_of o
numbers_kind Pow a b v h = ranged_kind (exact_value Pow a b) v h
numbers_kind Mul a b v h = ranged_kind (exact_value Mul a b) v h
numbers_kind Div a b v h = ranged_kind (exact_value Div a b) v h
numbers_kind Neg a b v h = ranged_kind (exact_value Neg a b) v h
numbers_kind Add a b v h = ranged_kind (exact_value Add a b) v h
numbers_kind Sub a b v h = ranged_kind (exact_value Sub a b) v h
numbers_kind Lt a b v h = truth_kind _ v h
numbers_kind Le a b v h = truth_kind _ v h
numbers_kind Eq a b v h = truth_kind _ v h
numbers_kind Ne a b v h = truth_kind _ v h
numbers_kind Gt a b v h = truth_kind _ v h
numbers_kind Ge a b v h = truth_kind _ v h
numbers_kind Not a b v h = absurd cc
numbers_kind And a b v h = absurd cc
numbers_kind Or a b v h = absurd cc
numbers_kind Eqv a b v h = absurd cc
numbers_kind Neqv a b v h = absurd cc

truths_kind : (o : Op) (a b : Bool) (v : Value) → on_truths o a b ≡ Ok v → kind_of v ≡ result_kind_of o
truths_kind Not a b v h = truth_kind _ v h
truths_kind And a b v h = truth_kind _ v h
truths_kind Or a b v h = truth_kind _ v h
truths_kind Eqv a b v h = truth_kind _ v h
truths_kind Neqv a b v h = truth_kind _ v h
truths_kind o a b v h = absurd cc

number_alone : (o : Op) (a : ℤ) (v : Value) → cond (is_neg o) (on_numbers Neg a a) (Err Shape) ≡ Ok v → kind_of v ≡ result_kind_of o
number_alone Neg a v h = numbers_kind Neg a a v h
number_alone o a v h = absurd cc

truth_alone : (o : Op) (a : Bool) (v : Value) → cond (is_not o) (on_truths Not a a) (Err Shape) ≡ Ok v → kind_of v ≡ result_kind_of o
truth_alone Not a v h = truths_kind Not a a v h
truth_alone o a v h = absurd cc

apply_kind : (o : Op) (x y v : Value) → apply o x y ≡ Ok v → kind_of v ≡ result_kind_of o
apply_kind o (Int a) (Int b) v h = numbers_kind o a b v h
apply_kind o (Truth a) (Truth b) v h = truths_kind o a b v h
apply_kind o (Int a) (Truth b) v h = number_alone o a v h
apply_kind o (Truth a) (Int b) v h = truth_alone o a v h

unary_kind : (o : Op) (r : Result Value Fault) (v : Value) → (r >>= λ x. apply o x x) ≡ Ok v → kind_of v ≡ result_kind_of o
unary_kind o (Ok x) v h = apply_kind o x x v h
unary_kind o (Err f) v h = absurd cc

binary_kind : (o : Op) (r t : Result Value Fault) (v : Value) → (r >>= λ x. t >>= λ y. apply o x y) ≡ Ok v → kind_of v ≡ result_kind_of o
binary_kind o (Ok x) (Ok y) v h = apply_kind o x y v h
binary_kind o (Ok x) (Err f) v h = absurd cc
binary_kind o (Err f) t v h = absurd cc

-- ---- the constants that a store has

module _ (d : Dialect) (us : List Use77) where
  -- a name has no value, or one of its kind and in range
  pub record IsKept (s : Store) (x : List ℕ) (bs : List (ℤ × ℤ)) : Type 0 where
    pub scalar : bs ≡ []
    pub kind : (c : Cell) → c.name ≡ x → kind_of (s.held c) ≡ kind_of_name us x
    pub range : (c : Cell) → c.name ≡ x → is_in_range d.bits (s.held c) ≡ true

  abbrev pub KeepsKinds : Store → Type 0
  KeepsKinds s = (x : List ℕ) (bs : List (ℤ × ℤ)) → s.bounds x ≡ Some bs → IsKept s x bs

  module _ (s : Store) (keeps : KeepsKinds s) where
    -- what a name gives, it gives without subscripts
    record IsScalarValue (x : List ℕ) (is : List ℤ) (v : Value) : Type 0 where
      alone : is ≡ []
      kind : kind_of v ≡ kind_of_name us x

    found_cell : (x : List ℕ) (is : List ℤ) (v : Value) (o : Option (List (ℤ × ℤ))) → s.bounds x ≡ o → (cell_in o x is >>= λ c. Ok (s.held c)) ≡ Ok v → IsScalarValue x is v
    found_cell x is v None e h = absurd cc
    found_cell x is v (Some bs) e h = by is (is_within bs is) refl h
      where
        by : (js : List ℤ) (b : Bool) → is_within bs js ≡ b → (cond b (Ok (record { name = x; subscripts = js })) (Err Bounds) >>= λ c. Ok (s.held c)) ≡ Ok v → IsScalarValue x js v
        by js false f h = absurd cc
        by [] true f h =
            let g : s.held (record { name = x; subscripts = [] }) ≡ v = cc in
            record { alone = refl; kind = sym (ap kind_of g) ∙ (keeps x bs e).kind (record { name = x; subscripts = [] }) refl }
        by (j ∷ js) true f h = absurd (let g : is_within bs (j ∷ js) ≡ false = ap (λ cs. is_within cs (j ∷ js)) (keeps x bs e).scalar in cc)

    named_kind : (x : List ℕ) (r : Result (List ℤ) Fault) (v : Value) → (r >>= λ is. cell_at x is s >>= λ c. Ok (s.held c)) ≡ Ok v → (is : List ℤ) → r ≡ Ok is → IsScalarValue x is v
    named_kind x (Ok is') v h is e = let f : is' ≡ is = cc in subst (λ (js : List ℤ). IsScalarValue x js v) f (found_cell x is' v (s.bounds x) refl h)
    named_kind x (Err f) v h is e = absurd cc

    bare_kind : (x : List ℕ) (v : Value) → value_of d (Named x no_subscripts) s ≡ Ok v → kind_of v ≡ kind_of_name us x
    bare_kind x v h = (found_cell x [] v (s.bounds x) refl h).kind

    no_element : (x : List ℕ) (p : _) (ps : Subscripts) (v : Value) → value_of d (Named x (subscript p ps)) s ≡ Ok v → ⊥
    no_element x p ps v h = first (subscript_value d p s) (subscript_values d ps s) h
      where
        ends : (i : ℤ) (is : List ℤ) → IsScalarValue x (i ∷ is) v → ⊥
        ends i is k = let e = k.alone in absurd cc

        first : (r : Result ℤ Fault) (t : Result (List ℤ) Fault) → ((r >>= λ i. t >>= λ is. Ok (i ∷ is)) >>= λ js. cell_at x js s >>= λ c. Ok (s.held c)) ≡ Ok v → ⊥
        first (Ok i) (Ok is) h = ends i is (found_cell x (i ∷ is) v (s.bounds x) refl h)
        first (Ok i) (Err f) h = absurd cc
        first (Err f) t h = absurd cc

    call_kind : (r : Result (List Value) Fault) (f : _) (v : Value) → (r >>= λ xs. call f xs) ≡ Ok v → kind_of v ≡ Integer
    call_kind (Ok xs) f v h = ranged_kind (exact_of_values f xs) v h
    call_kind (Err g) f v h = absurd cc

    -- a value has the kind of its expression
    pub value_kind : (e : Expression) (k : Kind) (v : Value) → has_kind us e k ≡ true → value_of d e s ≡ Ok v → kind_of v ≡ k
    value_kind (Number n) k v h g = let e : Int n ≡ v = cc in sym (ap kind_of e) ∙ kinds_same Integer k h
    value_kind (Logic b) k v h g = let e : Truth b ≡ v = cc in sym (ap kind_of e) ∙ kinds_same Logical k h
    value_kind (Named x no_subscripts) k v h g =
        bare_kind x v g ∙ kinds_same (kind_of_name us x) k (right_true (not (is_array_name us x)) (same_kind (kind_of_name us x) k) (left_true (name_has_kind us x 0 k) true h))
    value_kind (Named x (subscript p ps)) k v h g = absurd (no_element x p ps v g)
    value_kind (Unary o a) k v h g =
        unary_kind o (value_of d a s) v g
        ∙ kinds_same (result_kind_of o) k (right_true (is_unary o) (same_kind (result_kind_of o) k) (left_true (is_unary o && same_kind (result_kind_of o) k) (has_kind us a (operand_kind o)) h))
    value_kind (Binary o a b) k v h g =
        binary_kind o (value_of d a s) (value_of d b s) v g
        ∙ kinds_same (result_kind_of o) k (right_true (not (is_unary o)) (same_kind (result_kind_of o) k) (left_true (not (is_unary o) && same_kind (result_kind_of o) k) (has_kind us a (operand_kind o))
        (left_true (not (is_unary o) && same_kind (result_kind_of o) k && has_kind us a (operand_kind o)) (has_kind us b (operand_kind o)) h)))
    value_kind (Apply f es) k v h g = call_kind (values_of d es s) f v g ∙ kinds_same Integer k (right_true (suits_number f (number_of_arguments es)) (same_kind Integer k) (left_true (suits_number f (number_of_arguments es) && same_kind Integer k) (are_arguments us es) h))
    value_kind e k v h g = absurd cc

  -- ---- one constant more

  value_kept : (s : Store) (x : List ℕ) (r : Result Value Fault) → KeepsKinds s → ((v : Value) → r ≡ Ok v → (kind_of v ≡ kind_of_name us x) × (is_in_range d.bits v ≡ true)) → KeepsKinds (with_named_value x r s)
  value_kept s x (Err f) keeps h = keeps
  value_kept s x (Ok v) keeps h = λ y bs e. by y bs (bytes_eq x y) refl e
    where
      same : (y : List ℕ) → bytes_eq x y ≡ true → (c : Cell) → c.name ≡ y → cond (bytes_eq x c.name) v (s.held c) ≡ v
      same y f c g = ap (λ b. cond b v (s.held c)) (ap (bytes_eq x) g ∙ f)

      other : (y : List ℕ) → bytes_eq x y ≡ false → (c : Cell) → c.name ≡ y → cond (bytes_eq x c.name) v (s.held c) ≡ s.held c
      other y f c g = ap (λ b. cond b v (s.held c)) (ap (bytes_eq x) g ∙ f)

      by : (y : List ℕ) (bs : List (ℤ × ℤ)) (b : Bool) → bytes_eq x y ≡ b → cond b (Some []) (s.bounds y) ≡ Some bs → IsKept (with_named_value x (Ok v) s) y bs
      by y bs true f e = record {
        scalar = cc;
        kind = λ c g. ap kind_of (same y f c g) ∙ (h v refl).0 ∙ ap (kind_of_name us) (same_name x y f);
        range = λ c g. ap (is_in_range d.bits) (same y f c g) ∙ (h v refl).1;
      }
      by y bs false f e = record {
        scalar = (keeps y bs e).scalar;
        kind = λ c g. ap kind_of (other y f c g) ∙ (keeps y bs e).kind c g;
        range = λ c g. ap (is_in_range d.bits) (other y f c g) ∙ (keeps y bs e).range c g;
      }

  constant_kind : (s : Store) (e : Expression) (k : Kind) (v : Value) → KeepsKinds s → has_kind us e k ≡ true → named_constant_value d e s ≡ Ok v → (kind_of v ≡ k) × (is_in_range d.bits v ≡ true)
  constant_kind s e k v keeps h g = by (value_of d e s) refl g
    where
      tested : (w : Value) (b : Bool) → value_of d e s ≡ Ok w → is_in_range d.bits w ≡ b → cond b (Ok w) (Err Overflow) ≡ Ok v → (kind_of v ≡ k) × (is_in_range d.bits v ≡ true)
      tested w true f t g = let same : w ≡ v = cc in (sym (ap kind_of same) ∙ value_kind s keeps e k w h f, sym (ap (is_in_range d.bits) same) ∙ t)
      tested w false f t g = absurd cc

      by : (r : Result Value Fault) → value_of d e s ≡ r → (r >>= λ w. in_range d w) ≡ Ok v → (kind_of v ≡ k) × (is_in_range d.bits v ≡ true)
      by (Ok w) f g = tested w (is_in_range d.bits w) f refl g
      by (Err fault) f g = absurd cc

  abbrev pub DefinesKinds : List NamedConstant → Type 0
  DefinesKinds cs = AllByRecursion (λ (c : NamedConstant). has_kind us c.value (kind_of_name us c.name) ≡ true) cs

  constants_kept : (cs : List NamedConstant) (s : Store) → DefinesKinds cs → KeepsKinds s → KeepsKinds (with_constants d cs s)
  constants_kept [] s h keeps = keeps
  constants_kept (c ∷ cs) s h keeps =
      constants_kept cs (with_named_constant d c s) h.1
      (value_kept s c.name (named_constant_value d c.value s) keeps (λ v e. constant_kind s c.value (kind_of_name us c.name) v keeps h.0 e))

  no_constants : KeepsKinds no_values
  no_constants x bs e = absurd cc

  pub text_constants : (text : List Labelled) → DefinesKinds (flat_map (λ (x : Labelled). definitions_of x.statement) text) → KeepsKinds (constants_of d text)
  text_constants text h = constants_kept (flat_map (λ (x : Labelled). definitions_of x.statement) text) no_values h no_constants
