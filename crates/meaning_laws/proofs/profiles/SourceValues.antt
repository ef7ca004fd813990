-- The value of an expression of FORTRAN 77 has its kind, and its faults are plain ones.
use Rattle.std.proofs.Common.{◌≡◌, refl, sym, subst, ◌∙◌, ℕ, suc, ◌≤◌, ℤ, pos, negsuc, neg_ℤ, ◌*ℤ◌, ◌-ℤ◌, int_div, Bool, true, false, cond, Option, Some, None, IfSome, List, [], ◌∷◌, length, Result, Ok, Err, arith}
use Rattle.std.specs.List.{AllByRecursion}
use Rattle.std.specs.Option.{IsSomeAnd}
use Rattle.std.specs.Ordering.{int_eq}
use Rattle.std.specs.Int.{int_pow}
use Rattle.std.proofs.lemmas.Bool.{leb-true}
use Rattle.std.proofs.lemmas.Bool.Decides.{Decides-eqb}
use Rattle.tree.specs.Steps.{◌>>=◌}
use Rattle.tree.specs.Operators.{number, ranged, quotient, remainder, power, exact_value, exact_call, on_numbers, on_truths, apply, exact_of_values, as_number, as_numbers, as_truth, call, fits}
use Rattle.tree.specs.Plain.{Expression, Number, Logic, Named, Unary, Binary, Apply, Constructor, Spread, Transpose, Reshape, Reduce, Expressions, no_expressions, expression, Subscript, Only, Section, Subscripts, no_subscripts, subscript, Extent, Given, Later, Declaration, Program}
use Rattle.tree.specs.declared.ops.Kind.{Kind}
use Rattle.tree.specs.declared.ops.Kind.TheVariants.{Integer, Logical}
use Rattle.tree.specs.declared.ops.Value.{Value}
use Rattle.tree.specs.declared.ops.Value.TheVariants.{Int, Truth}
use Rattle.tree.specs.declared.ops.Fault.{Fault}
use Rattle.tree.specs.declared.ops.Fault.TheVariants.{Overflow, ZeroDivide, Bounds}
use Rattle.tree.specs.declared.ops.Op.{Op}
use Rattle.tree.specs.declared.ops.Op.TheVariants.{Pow, Mul, Div, Neg, Add, Sub, Lt, Le, Eq, Ne, Gt, Ge, Not, And, Or, Eqv, Neqv}
use Rattle.tree.specs.declared.functions.Fun.{Fun}
use Rattle.tree.specs.declared.functions.Fun.TheVariants.{Abs, Mod, Max, Min}
use Rattle.meaning.specs.Dialect.{Dialect}
use Rattle.tree.specs.Functions.{suits_number}
use Rattle.meaning.specs.Store.{Store, Cell, cell_at, cell_in, is_within}
use Rattle.tree.specs.OperatorTable.{operand_kind, result_kind_of}
use Rattle.meaning.specs.Typed.{declared, dimensions, number_of_arguments, number_of_subscripts}
use Rattle.meaning.specs.Typed77.{HasKind, AreArguments, AreSubscripts, IsSubscript}
use Rattle.meaning.specs.Profile77.{IsFixed}
use Rattle.meaning.specs.Value.{value_of, values_of, subscript_values, subscript_value}
use Rattle.meaning.specs.Holding.{HasBounds, IsStorable, HoldsProgram}
use Rattle.meaning_laws.specs.profiles.Faults.{IsPlainFault}
use Rattle.meaning_laws.proofs.profiles.Answering.{Answers, AnyValue, behind}
use Rattle.meaning_laws.proofs.profiles.ValueKinds.{IsKind}

abbrev pub Plainly : {A : Type 0} → (A → Type 0) → Result A Fault → Type 0
Plainly {A} P r = Answers IsPlainFault P r

abbrev pub next : {A B : Type 0} (P : A → Type 0) (Q : B → Type 0) (r : Result A Fault) (f : A → Result B Fault) → Plainly P r → ((x : A) → P x → Plainly Q (f x)) → Plainly Q (r >>= f)
next P Q r f h k = behind IsPlainFault P Q r f h k

-- ---- operators and functions

number_plain : (z : ℤ) → Plainly (IsKind Integer) (number z)
number_plain z = by (fits 127 z)
  where
    by : (b : Bool) → Plainly (IsKind Integer) (cond b (Ok (Int z)) (Err Overflow))
    by true = refl
    by false = tt

ranged_plain : (r : Result ℤ Fault) → Plainly AnyValue r → Plainly (IsKind Integer) (ranged r)
ranged_plain (Ok z) h = number_plain z
ranged_plain (Err f) h = h

quotient_plain : (a b : ℤ) → Plainly AnyValue (quotient a b)
quotient_plain a b = by (int_eq b (pos 0))
  where
    by : (t : Bool) → Plainly AnyValue (cond t (Err ZeroDivide) (Ok (int_div a b)))
    by true = tt
    by false = tt

remainder_plain : (a b : ℤ) → Plainly AnyValue (remainder a b)
remainder_plain a b = next AnyValue AnyValue (quotient a b) (λ q. Ok (a -ℤ (q *ℤ b))) (quotient_plain a b) (λ q u. tt)

power_plain : (a b : ℤ) → Plainly AnyValue (power a b)
power_plain a (pos n) = tt
power_plain a (negsuc n) = quotient_plain (pos 1) (int_pow a (suc n))

integer_logical : Integer ≡ Logical → ⊥
integer_logical e = cc

on_numbers_plain : (o : Op) (a b : ℤ) → Integer ≡ operand_kind o → Plainly (IsKind (result_kind_of o)) (on_numbers o a b)
on_numbers_plain Lt a b h = refl
on_numbers_plain Le a b h = refl
on_numbers_plain Eq a b h = refl
on_numbers_plain Ne a b h = refl
on_numbers_plain Gt a b h = refl
on_numbers_plain Ge a b h = refl
on_numbers_plain Pow a b h = ranged_plain (power a b) (power_plain a b)
on_numbers_plain Mul a b h = number_plain (a *ℤ b)
on_numbers_plain Div a b h = ranged_plain (quotient a b) (quotient_plain a b)
on_numbers_plain Neg a b h = number_plain (neg_ℤ a)
on_numbers_plain Add a b h = ranged_plain (exact_value Add a b) tt
on_numbers_plain Sub a b h = ranged_plain (exact_value Sub a b) tt
on_numbers_plain Not a b h = absurd (integer_logical h)
on_numbers_plain And a b h = absurd (integer_logical h)
on_numbers_plain Or a b h = absurd (integer_logical h)
on_numbers_plain Eqv a b h = absurd (integer_logical h)
on_numbers_plain Neqv a b h = absurd (integer_logical h)

on_truths_plain : (o : Op) (a b : Bool) → Logical ≡ operand_kind o → Plainly (IsKind (result_kind_of o)) (on_truths o a b)
on_truths_plain Not a b h = refl
on_truths_plain And a b h = refl
on_truths_plain Or a b h = refl
on_truths_plain Eqv a b h = refl
on_truths_plain Neqv a b h = refl
on_truths_plain _ a b h = absurd (integer_logical (sym h))

apply_plain : (o : Op) (x y : Value) → IsKind (operand_kind o) x → IsKind (operand_kind o) y → Plainly (IsKind (result_kind_of o)) (apply o x y)
apply_plain o (Int a) (Int b) h g = on_numbers_plain o a b h
apply_plain o (Truth a) (Truth b) h g = on_truths_plain o a b h
apply_plain o (Int a) (Truth b) h g = absurd (integer_logical (h ∙ sym g))
apply_plain o (Truth a) (Int b) h g = absurd (integer_logical (g ∙ sym h))

-- ---- calls: as many arguments as the function takes

suits_one : (n : ℕ) → suits_number Abs n ≡ true → n ≡ 1
suits_one n h = (Decides-eqb n 1).0 h

suits_two : (n : ℕ) → suits_number Mod n ≡ true → n ≡ 2
suits_two n h = (Decides-eqb n 2).0 h

suits_more : (n : ℕ) → suits_number Max n ≡ true → 2 ≤ n
suits_more n h = leb-true 2 n h

suits_fewer : (n : ℕ) → suits_number Min n ≡ true → 2 ≤ n
suits_fewer n h = leb-true 2 n h

call_plain : (f : Fun) (zs : List ℤ) → suits_number f (length zs) ≡ true → Plainly AnyValue (exact_call f zs)
call_plain Abs [] h = absurd (let e = suits_one 0 h in omega (arith, e))
call_plain Abs (a ∷ []) h = tt
call_plain Abs (a ∷ b ∷ zs) h = absurd (let e : length (a ∷ b ∷ zs) ≡ 1 = suits_one _ h in omega (arith, e))
call_plain Mod [] h = absurd (let e = suits_two 0 h in omega (arith, e))
call_plain Mod (a ∷ []) h = absurd (let e = suits_two 1 h in omega (arith, e))
call_plain Mod (a ∷ b ∷ []) h = remainder_plain a b
call_plain Mod (a ∷ b ∷ c ∷ zs) h = absurd (let e : length (a ∷ b ∷ c ∷ zs) ≡ 2 = suits_two _ h in omega (arith, e))
call_plain Max [] h = absurd (let e = suits_more 0 h in omega (arith, e))
call_plain Max (a ∷ []) h = absurd (let e = suits_more 1 h in omega (arith, e))
call_plain Max (a ∷ b ∷ zs) h = tt
call_plain Min [] h = absurd (let e = suits_fewer 0 h in omega (arith, e))
call_plain Min (a ∷ []) h = absurd (let e = suits_fewer 1 h in omega (arith, e))
call_plain Min (a ∷ b ∷ zs) h = tt

-- INTEGER values, as many as there are arguments
pub record AreIntegers (n : ℕ) (vs : List Value) : Type 0 where
  pub many : length vs ≡ n
  pub each : AllByRecursion (IsKind Integer) vs

pub integer_plain : (v : Value) → IsKind Integer v → Plainly AnyValue (as_number v)
integer_plain (Int z) h = tt
integer_plain (Truth b) h = absurd (integer_logical (sym h))

pub truth_plain : (v : Value) → IsKind Logical v → Plainly AnyValue (as_truth v)
truth_plain (Truth b) h = tt
truth_plain (Int z) h = absurd (integer_logical h)

integers_plain : (vs : List Value) → AllByRecursion (IsKind Integer) vs → Plainly (λ (zs : List ℤ). length zs ≡ length vs) (as_numbers vs)
integers_plain [] h = refl
integers_plain (v ∷ vs) h =
    next AnyValue _ (as_number v) _ (integer_plain v h.0) (λ z u. next (λ (zs : List ℤ). length zs ≡ length vs) _ (as_numbers vs) _ (integers_plain vs h.1)
    (λ zs e. let f : length (z ∷ zs) ≡ length (v ∷ vs) = omega (arith, e) in f))

called_plain : (f : Fun) (n : ℕ) (vs : List Value) → suits_number f n ≡ true → AreIntegers n vs → Plainly (IsKind Integer) (call f vs)
called_plain f n vs h g =
    ranged_plain (exact_of_values f vs) (next (λ (zs : List ℤ). length zs ≡ length vs) AnyValue (as_numbers vs) (λ zs. exact_call f zs) (integers_plain vs g.each)
    (λ zs e. call_plain f zs (subst (λ m. suits_number f m ≡ true) (sym (e ∙ g.many)) h)))

-- ---- names

module _ (lang : Dialect) (p : Program) (fixed : (x : List ℕ) (e : Declaration) → declared p.declarations x ≡ Some e → IsFixed e.extent) where
  abbrev ds : List Declaration
  ds = p.declarations

  -- a declared name has bounds in the store, as many as its dimensions
  pub record IsKnown (x : List ℕ) (k : Kind) (n : ℕ) (s : Store) : Type 0 where
    pub bounds : List (ℤ × ℤ)
    pub are : s.bounds x ≡ Some bounds
    pub many : n ≡ length bounds
    pub kind : (c : Cell) → c.name ≡ x → IsKind k (s.held c)

  pub known : (x : List ℕ) (k : Kind) (n : ℕ) (s : Store) → HoldsProgram lang p s → IsSomeAnd (declared ds x) (λ d. (k ≡ d.kind) × (n ≡ length (dimensions d.extent))) → IsKnown x k n s
  known x k n s h g = by (declared ds x) refl g
    where
      of_extent : (d : Declaration) → declared ds x ≡ Some d → (e : Extent) → d.extent ≡ e → k ≡ d.kind → n ≡ length (dimensions e) → IsFixed e → HasBounds e (s.bounds x) → IsKnown x k n s
      of_extent d q (Later m) r i l f b = absurd f
      of_extent d q (Given bs) r i l f b = record {
        bounds = bs;
        are = b;
        many = l;
        kind = λ c e.
            (let w : IfSome (declared ds x) (λ (a : Declaration). IsStorable lang a.kind (s.held c)) = subst (λ y. IfSome (declared ds y) (λ (a : Declaration). IsStorable lang a.kind (s.held c))) e (h.kinds c) in
            let v : IsStorable lang d.kind (s.held c) = subst (λ o. IfSome o (λ (a : Declaration). IsStorable lang a.kind (s.held c))) q w in
            v.kind ∙ sym i);
      }

      by : (o : Option Declaration) → declared ds x ≡ o → IsSomeAnd o (λ d. (k ≡ d.kind) × (n ≡ length (dimensions d.extent))) → IsKnown x k n s
      by None q g = absurd g
      by (Some d) q g = of_extent d q d.extent refl g.0 g.1 (fixed x d q) (subst (λ o. IfSome o (λ (a : Declaration). HasBounds a.extent (s.bounds x))) q (h.bounds x))

  cell_plain : (x : List ℕ) (bs : List (ℤ × ℤ)) (is : List ℤ) → Plainly (λ (c : Cell). c.name ≡ x) (cell_in (Some bs) x is)
  cell_plain x bs is = by (is_within bs is)
    where
      by : (b : Bool) → Plainly (λ (c : Cell). c.name ≡ x) (cond b (Ok (record { name = x; subscripts = is })) (Err Bounds))
      by true = refl
      by false = tt

  pub cell_known : (x : List ℕ) (k : Kind) (n : ℕ) (s : Store) (is : List ℤ) → IsKnown x k n s → Plainly (λ (c : Cell). c.name ≡ x) (cell_at x is s)
  cell_known x k n s is h = subst (λ o. Plainly (λ (c : Cell). c.name ≡ x) (cell_in o x is)) (sym h.are) (cell_plain x h.bounds is)

  mutual
    pub value_plain : (e : Expression) (k : Kind) (s : Store) → HoldsProgram lang p s → HasKind ds e k → Plainly (IsKind k) (value_of lang e s)
    value_plain (Number n) k s h g = sym g.1
    value_plain (Logic b) k s h g = sym g
    value_plain (Named x ps) k s h g =
        let w = known x k (number_of_subscripts ps) s h g.0 in
        next AnyValue (IsKind k) (subscript_values lang ps s) _ (subscripts_plain ps s h g.1) (λ is u.
        next (λ (c : Cell). c.name ≡ x) (IsKind k) (cell_at x is s) _ (cell_known x k (number_of_subscripts ps) s is w) (λ c e. w.kind c e))
    value_plain (Unary o a) k s h g =
        subst (λ j. Plainly (IsKind j) (value_of lang (Unary o a) s)) (sym g.1)
        (next (IsKind (operand_kind o)) (IsKind (result_kind_of o)) (value_of lang a s) _ (value_plain a (operand_kind o) s h g.2) (λ x q. apply_plain o x x q q))
    value_plain (Binary o a b) k s h g =
        subst (λ j. Plainly (IsKind j) (value_of lang (Binary o a b) s)) (sym g.1)
        (next (IsKind (operand_kind o)) (IsKind (result_kind_of o)) (value_of lang a s) _ (value_plain a (operand_kind o) s h g.2) (λ x q.
        next (IsKind (operand_kind o)) (IsKind (result_kind_of o)) (value_of lang b s) _ (value_plain b (operand_kind o) s h g.3) (λ y r. apply_plain o x y q r)))
    value_plain (Apply f es) k s h g =
        subst (λ j. Plainly (IsKind j) (value_of lang (Apply f es) s)) (sym g.2)
        (next (AreIntegers (number_of_arguments es)) (IsKind Integer) (values_of lang es s) _ (arguments_plain es s h g.3) (λ vs q. called_plain f (number_of_arguments es) vs g.0 q))
    value_plain (Constructor es ls) k s h g = absurd g
    value_plain (Spread a n e) k s h g = absurd g
    value_plain (Transpose a) k s h g = absurd g
    value_plain (Reshape a es) k s h g = absurd g
    value_plain (Reduce r a) k s h g = absurd g

    arguments_plain : (es : Expressions) (s : Store) → HoldsProgram lang p s → AreArguments ds es → Plainly (AreIntegers (number_of_arguments es)) (values_of lang es s)
    arguments_plain no_expressions s h g = record { many = refl; each = tt }
    arguments_plain (expression e es) s h g =
        next (IsKind Integer) _ (value_of lang e s) _ (value_plain e Integer s h g.0) (λ v q. next (AreIntegers (number_of_arguments es)) _ (values_of lang es s) _ (arguments_plain es s h g.1)
        (λ vs r. record { many = (let m = r.many in omega (arith, m)); each = (q, r.each) }))

    pub subscripts_plain : (ps : Subscripts) (s : Store) → HoldsProgram lang p s → AreSubscripts ds ps → Plainly AnyValue (subscript_values lang ps s)
    subscripts_plain no_subscripts s h g = tt
    subscripts_plain (subscript q ps) s h g =
        next AnyValue AnyValue (subscript_value lang q s) _ (subscript_plain q s h g.0) (λ z u. next AnyValue AnyValue (subscript_values lang ps s) _ (subscripts_plain ps s h g.1) (λ zs v. tt))

    subscript_plain : (q : Subscript) (s : Store) → HoldsProgram lang p s → IsSubscript ds q → Plainly AnyValue (subscript_value lang q s)
    subscript_plain (Only e) s h g = next (IsKind Integer) AnyValue (value_of lang e s) _ (value_plain e Integer s h g) (λ v q. integer_plain v q)
    subscript_plain (Section a b c) s h g = absurd g
