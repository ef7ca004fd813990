-- Kinds and depths of resolved expressions.
use Rattle.std.proofs.Common.{◌≡◌, ◌⊎◌, inl, inr, ℕ, suc, ◌+◌, ◌^◌, ◌<◌, ◌≤◌, max, one-add, Bool, true, false, not, ◌&&◌, ◌||◌, cond, Option, Some, None, is_some, IsSomeAnd, ℤ, pos, negsuc, List, [], length, refl, sym, ap, subst, ◌∙◌, arith, Contains, ltb-true, eqb-true, nat_le, ◌==◌}
use Rattle.std.specs.List.{AllByRecursion}
use Rattle.std.specs.Str.{bytes_eq}
use Rattle.std.proofs.lemmas.Bool.{or_cases, and_cases}
use Rattle.tree.specs.OperationFaults.{kind_of}
use Rattle.tree.specs.declared.ops.Kind.{Kind}
use Rattle.tree.specs.declared.ops.Kind.TheVariants.{Integer, Logical}
use Rattle.tree.specs.declared.ops.Value.{Value}
use Rattle.tree.specs.declared.ops.Value.TheVariants.{Int, Truth}
use Rattle.tree.specs.declared.functions.Fun.{Fun}
use Rattle.tree.specs.Plain.{Expression, Number, Logic, Named, Unary, Binary, Apply, Expressions, no_expressions, expression, Subscript, Only, Section, Subscripts, no_subscripts, subscript, Declaration}
use Rattle.meaning.specs.Store.{Store}
use Rattle.meaning.specs.Value.{is_in_range}
use Rattle.tree.specs.OperatorTable.{left_least, right_least}
use Rattle.meaning.specs.Depths.{level, enclosed, depth_of, depth_of_each, depth_of_subscripts, depth_of_subscript}
use Rattle.f77_grammar.specs.expressions.Printing.{IsSource, IsSourceSubscript, AreSource}
use Rattle.tree.specs.Functions.{function_named, name_of_function, suits_number}
use Rattle.meaning.specs.Typed77.{number_of_arguments, number_of_subscripts, dimensions, declared, HasKind}
use Rattle.meaning.specs.Typed77.{AreArguments, AreSubscripts, IsSubscript, IsDeclared}
use Rattle.tree.specs.OperatorTable.{operand_kind, result_kind_of, is_unary}
use Rattle.f77_grammar.specs.program.Uses.{Role, Valued, Use77, use77_of, uses77_in, uses77_in_subscripts, uses77_in_subscript, is_typed, is_bare_role, is_bounded, stands, is_constant_name, is_variable, is_array_name, is_function, kind_of_name, dimensions_of_name}
use Rattle.f77_grammar.specs.program.Declarations.{is_misused, suits_list}
use Rattle.f77_grammar.specs.program.Kinds.{same_kind, takes_so_many, has_kind, name_has_kind, list_has_kind, are_subscripts, is_subscript, is_hidden_name, calls_hidden}
use Rattle.f77_grammar.specs.program.Tree.{literal, arguments77_of, call_of, element_or_call, value_or_name, resolved, resolved_arguments, resolved_subscripts, resolved_subscript}
use Rattle.f77_laws.proofs.Lists.{left_true, right_true, not_both, negated, affirmed, all_left, all_right, any_true}
use Rattle.f77_laws.proofs.Variables.{same_name, equal_names}
use Rattle.f77_laws.proofs.Dimensions.{no_dimensions}
use Rattle.f77_laws.proofs.ConstantValues.{kinds_same}

-- ---- what is known of names: `us` their uses, `s` the values of constants, `ds` the declarations of the tree

pub record IsDeclaredAs (us : List Use77) (ds : List Declaration) (x : List ℕ) : Type 0 where
  pub it : Declaration
  pub is : declared ds x ≡ Some it
  pub kind : it.kind ≡ kind_of_name us x
  pub many : length (dimensions it.extent) ≡ dimensions_of_name us x

pub record IsValued (us : List Use77) (s : Store) (x : List ℕ) : Type 0 where
  pub kind : kind_of (s.held (record { name = x; subscripts = [] })) ≡ kind_of_name us x
  pub range : is_in_range 126 (s.held (record { name = x; subscripts = [] })) ≡ true

pub record Knows (us : List Use77) (s : Store) (ds : List Declaration) : Type 0 where
  pub variable : (x : List ℕ) → is_variable us x ≡ true → IsDeclaredAs us ds x
  pub other : (x : List ℕ) → is_variable us x ≡ false → declared ds x ≡ None
  pub constant : (x : List ℕ) → is_constant_name us x ≡ true → IsValued us s x

-- nothing is wrong with a use of a name
pub record IsGood (us : List Use77) (u : Use77) : Type 0 where
  pub among : Contains us u
  pub suits : is_misused us u ≡ false
  pub shown : calls_hidden us u ≡ false

abbrev pub AreGood : List Use77 → List Use77 → Type 0
AreGood us vs = AllByRecursion (IsGood us) vs

module _ (us : List Use77) where
  -- ---- what a name is

  pub stands_so : (test : Role → Bool) (x : List ℕ) (r : Role) → Contains us (use77_of x r) → test r ≡ true → stands test us x ≡ true
  stands_so test x r h e =
      any_true (λ (u : Use77). test u.role && bytes_eq u.name x) us (use77_of x r) h (ap (λ b. b && bytes_eq x x) e ∙ equal_names x x refl)

  bare_or : (a b c : Bool) → c ≡ true → (a || b || c) ≡ true
  bare_or true b c h = refl
  bare_or false true c h = refl
  bare_or false false c h = h

  and_not : (a b : Bool) → a ≡ true → b ≡ false → (a && not b) ≡ true
  and_not true true h g = absurd cc
  and_not true false h g = refl
  and_not false b h g = absurd cc

  pub bare_variable : (x : List ℕ) → stands is_bare_role us x ≡ true → is_constant_name us x ≡ false → is_variable us x ≡ true
  bare_variable x h g = and_not (stands is_typed us x || stands is_bounded us x || stands is_bare_role us x) (is_constant_name us x) (bare_or (stands is_typed us x) (stands is_bounded us x) (stands is_bare_role us x) h) g

  pub array_variable : (x : List ℕ) → is_array_name us x ≡ true → is_variable us x ≡ true
  array_variable x h = by (stands is_typed us x) (stands is_bounded us x) (stands is_bare_role us x) (is_constant_name us x) h
    where
      by : (a b c d : Bool) → (b && not d) ≡ true → ((a || b || c) && not d) ≡ true
      by true b c true h = absurd (not_both (b && false) h (falls b))
        where
          falls : (b : Bool) → (b && false) ≡ false
          falls true = refl
          falls false = refl
      by true b c false h = refl
      by false true c true h = absurd cc
      by false true c false h = refl
      by false false c d h = absurd cc

  pub no_array : (x : List ℕ) → is_array_name us x ≡ false → is_constant_name us x ≡ false → dimensions_of_name us x ≡ 0
  no_array x h g = no_dimensions us x (by (stands is_bounded us x) (is_constant_name us x) h g)
    where
      by : (a b : Bool) → (a && not b) ≡ false → b ≡ false → a ≡ false
      by true true h g = absurd cc
      by true false h g = absurd cc
      by false b h g = refl

  pub function_no_variable : (x : List ℕ) → is_function us x ≡ true → is_variable us x ≡ false
  function_no_variable x h = by (is_some (function_named x)) (is_variable us x) (is_constant_name us x) h
    where
      by : (a b c : Bool) → (a && not b && not c) ≡ true → b ≡ false
      by true true c h = absurd cc
      by true false c h = refl
      by false b c h = absurd cc

-- ---- literals

pub literal_kind : (ds : List Declaration) (v : Value) (k : Kind) → kind_of v ≡ k → is_in_range 126 v ≡ true → HasKind ds (literal v) k
literal_kind ds (Int (pos n)) k e r = (let lt : n < 2 ^ 126 = ltb-true n (2 ^ 126) r in omega arith, sym e)
literal_kind ds (Int (negsuc n)) k e r = (refl, sym e, (let lt : n < 2 ^ 126 = ltb-true n (2 ^ 126) r in omega arith, refl))
literal_kind ds (Truth b) k e r = sym e

-- the negative of a literal is an operator deep
literal_depth : (v : Value) → depth_of (literal v) ≤ 1
literal_depth (Int (pos n)) = omega arith
literal_depth (Int (negsuc n)) = omega arith
literal_depth (Truth b) = omega arith

-- ---- arguments

arguments_suit : (ds : List Declaration) (ps : Subscripts) → AreSubscripts ds ps → AreArguments ds (arguments77_of ps)
arguments_suit ds no_subscripts h = tt
arguments_suit ds (subscript (Only e) ps) h = (h.0, arguments_suit ds ps h.1)
arguments_suit ds (subscript p ps) h = absurd h.0

as_many_arguments : (ds : List Declaration) (ps : Subscripts) → AreSubscripts ds ps → number_of_arguments (arguments77_of ps) ≡ number_of_subscripts ps
as_many_arguments ds no_subscripts h = refl
as_many_arguments ds (subscript (Only e) ps) h = ap (λ n. 1 + n) (as_many_arguments ds ps h.1)
as_many_arguments ds (subscript p ps) h = absurd h.0

arguments_depth : (ps : Subscripts) → 1 + depth_of_each (arguments77_of ps) ≤ max 1 (depth_of_subscripts ps)
arguments_depth no_subscripts = omega arith
arguments_depth (subscript (Only e) ps) = let h = arguments_depth ps in omega (arith, h)
arguments_depth (subscript (Section a b c) ps) = let h = arguments_depth ps in omega (arith, h)

-- ---- kinds

module _ (us : List Use77) (s : Store) (ds : List Declaration) (knows : Knows us s ds) where
  pub as_many : (ps : Subscripts) → number_of_subscripts (resolved_subscripts us s ps) ≡ number_of_subscripts ps
  as_many no_subscripts = refl
  as_many (subscript p ps) = ap (λ n. 1 + n) (as_many ps)

  -- a scalar variable
  pub scalar_kind : (x : List ℕ) → is_variable us x ≡ true → is_array_name us x ≡ false → is_constant_name us x ≡ false → HasKind ds (Named x no_subscripts) (kind_of_name us x)
  scalar_kind x v a c = (by (knows.variable x v), tt)
    where
      by : IsDeclaredAs us ds x → IsSomeAnd (declared ds x) (λ d. (kind_of_name us x ≡ d.kind) × (0 ≡ length (dimensions d.extent)))
      by d = subst (λ (o : Option Declaration). IsSomeAnd o (λ e. (kind_of_name us x ≡ e.kind) × (0 ≡ length (dimensions e.extent)))) (sym d.is) (sym d.kind, sym (d.many ∙ no_array us x a c))

  pub declared_variable : (x : List ℕ) → is_variable us x ≡ true → IsDeclared ds x
  declared_variable x v = by (knows.variable x v)
    where
      by : IsDeclaredAs us ds x → IsDeclared ds x
      by d = subst (λ (o : Option Declaration). IsSomeAnd o (λ e. Unit {0})) (sym d.is) tt

  -- an element
  pub element_kind : (x : List ℕ) (n : ℕ) (ps : Subscripts) → is_array_name us x ≡ true → suits_list us x (suc n) ≡ true → number_of_subscripts ps ≡ suc n → AreSubscripts ds ps
      → HasKind ds (Named x ps) (kind_of_name us x)
  element_kind x n ps a u e h = (by (knows.variable x (array_variable us x a)), h)
    where
      counted : (b : Bool) → b ≡ true → cond b (suc n == dimensions_of_name us x) (is_some (function_named x)) ≡ true → suc n ≡ dimensions_of_name us x
      counted true f g = eqb-true (suc n) (dimensions_of_name us x) g
      counted false f g = absurd cc

      by : IsDeclaredAs us ds x → IsSomeAnd (declared ds x) (λ d. (kind_of_name us x ≡ d.kind) × (number_of_subscripts ps ≡ length (dimensions d.extent)))
      by d = subst (λ (o : Option Declaration). IsSomeAnd o (λ f. (kind_of_name us x ≡ f.kind) × (number_of_subscripts ps ≡ length (dimensions f.extent)))) (sym d.is)
          (sym d.kind, e ∙ counted (is_array_name us x) a u ∙ sym d.many)

  -- a call
  call_kind : (x : List ℕ) (n : ℕ) (k : Kind) (ps : Subscripts) (f : Option Fun) → function_named x ≡ f → is_function us x ≡ true → takes_so_many f n ≡ true → k ≡ Integer
      → is_hidden_name us x f ≡ false → number_of_subscripts ps ≡ n → AreSubscripts ds ps → HasKind ds (call_of f x ps) k
  call_kind x n k ps None e fun t i g m h = absurd cc
  call_kind x n k ps (Some f) e fun t i g m h = (ap (suits_number f) (as_many_arguments ds ps h ∙ m) ∙ t, knows.other (name_of_function f) (by (and_cases (not (bytes_eq x (name_of_function f))) (is_variable us (name_of_function f)) g)), i, arguments_suit ds ps h)
    where
      by : (not (bytes_eq x (name_of_function f)) ≡ false) ⊎ (is_variable us (name_of_function f) ≡ false) → is_variable us (name_of_function f) ≡ false
      by (inl a) = sym (ap (is_variable us) (same_name x (name_of_function f) (affirmed (bytes_eq x (name_of_function f)) a))) ∙ function_no_variable us x fun
      by (inr b) = b

  bare_kind : (x : List ℕ) (k : Kind) (b : Bool) → is_constant_name us x ≡ b → Contains us (use77_of x (Valued 0)) → (not (is_array_name us x) && same_kind (kind_of_name us x) k) ≡ true
      → HasKind ds (value_or_name b x s) k
  bare_kind x k true c h g =
      literal_kind ds (s.held (record { name = x; subscripts = [] })) k ((knows.constant x c).kind ∙ kinds_same (kind_of_name us x) k (right_true (not (is_array_name us x)) (same_kind (kind_of_name us x) k) g)) (knows.constant x c).range
  bare_kind x k false c h g =
      subst (λ (j : Kind). HasKind ds (Named x no_subscripts) j) (kinds_same (kind_of_name us x) k (right_true (not (is_array_name us x)) (same_kind (kind_of_name us x) k) g))
      (scalar_kind x (bare_variable us x (stands_so us is_bare_role x (Valued 0) h refl) c) (negated (is_array_name us x) (left_true (not (is_array_name us x)) (same_kind (kind_of_name us x) k) g)) c)

  -- a name with a list: an element or a call
  list_kind : (x : List ℕ) (n : ℕ) (k : Kind) (ps : Subscripts) (b : Bool) → is_array_name us x ≡ b → IsGood us (use77_of x (Valued (suc n))) → list_has_kind us x (suc n) k ≡ true
      → number_of_subscripts ps ≡ suc n → AreSubscripts ds ps → HasKind ds (element_or_call b x ps) k
  list_kind x n k ps true a u g m h =
      subst (λ (j : Kind). HasKind ds (Named x ps) j) (by (or_cases (is_array_name us x && same_kind (kind_of_name us x) k) (is_function us x && takes_so_many (function_named x) (suc n) && same_kind Integer k) g))
      (element_kind x n ps a (affirmed (suits_list us x (suc n)) u.suits) m h)
    where
      by : ((is_array_name us x && same_kind (kind_of_name us x) k) ≡ true) ⊎ ((is_function us x && takes_so_many (function_named x) (suc n) && same_kind Integer k) ≡ true) → kind_of_name us x ≡ k
      by (inl f) = kinds_same (kind_of_name us x) k (right_true (is_array_name us x) (same_kind (kind_of_name us x) k) f)
      by (inr f) = absurd (not_both (is_variable us x) (array_variable us x a)
          (function_no_variable us x (left_true (is_function us x) (takes_so_many (function_named x) (suc n)) (left_true (is_function us x && takes_so_many (function_named x) (suc n)) (same_kind Integer k) f))))
  list_kind x n k ps false a u g m h = by (or_cases (is_array_name us x && same_kind (kind_of_name us x) k) (is_function us x && takes_so_many (function_named x) (suc n) && same_kind Integer k) g)
    where
      called : is_function us x ≡ true → takes_so_many (function_named x) (suc n) ≡ true → same_kind Integer k ≡ true → HasKind ds (call_of (function_named x) x ps) k
      called f t i = call_kind x (suc n) k ps (function_named x) refl f t (sym (kinds_same Integer k i)) (hidden (is_function us x) f u.shown) m h
        where
          hidden : (b : Bool) → b ≡ true → (b && is_hidden_name us x (function_named x)) ≡ false → is_hidden_name us x (function_named x) ≡ false
          hidden true f e = e
          hidden false f e = absurd cc

      by : ((is_array_name us x && same_kind (kind_of_name us x) k) ≡ true) ⊎ ((is_function us x && takes_so_many (function_named x) (suc n) && same_kind Integer k) ≡ true) → HasKind ds (call_of (function_named x) x ps) k
      by (inl f) = absurd (not_both (is_array_name us x) (left_true (is_array_name us x) (same_kind (kind_of_name us x) k) f) a)
      by (inr f) =
          let both = left_true (is_function us x && takes_so_many (function_named x) (suc n)) (same_kind Integer k) f in
          called (left_true (is_function us x) (takes_so_many (function_named x) (suc n)) both) (right_true (is_function us x) (takes_so_many (function_named x) (suc n)) both) (right_true (is_function us x && takes_so_many (function_named x) (suc n)) (same_kind Integer k) f)

  number_kind : (z : ℤ) (k : Kind) → IsSource (Number z) → same_kind Integer k ≡ true → HasKind ds (Number z) k
  number_kind (pos n) k h g = (h, sym (kinds_same Integer k g))
  number_kind (negsuc n) k h g = absurd h

  mutual
    pub kinds : (e : Expression) (k : Kind) → IsSource e → AreGood us (uses77_in e) → has_kind us e k ≡ true → HasKind ds (resolved us s e) k
    kinds (Number n) k h u g = number_kind n k h g
    kinds (Logic b) k h u g = sym (kinds_same Logical k g)
    kinds (Named x no_subscripts) k h u g = bare_kind x k (is_constant_name us x) refl u.0.among (left_true (name_has_kind us x 0 k) true g)
    kinds (Named x (subscript p ps)) k h u g =
        list_kind x (number_of_subscripts ps) k (resolved_subscripts us s (subscript p ps)) (is_array_name us x) refl
        (subst (λ (n : ℕ). IsGood us (use77_of x (Valued n))) (one-add (number_of_subscripts ps)) u.0)
        (sym (ap (λ n. name_has_kind us x n k) (one-add (number_of_subscripts ps))) ∙ left_true (name_has_kind us x (1 + number_of_subscripts ps) k) (are_subscripts us (subscript p ps)) g)
        (as_many (subscript p ps) ∙ one-add (number_of_subscripts ps))
        (subscript_kinds (subscript p ps) h.1 u.1 (right_true (name_has_kind us x (1 + number_of_subscripts ps) k) (are_subscripts us (subscript p ps)) g))
    kinds (Unary o a) k h u g =
        let front = left_true (is_unary o && same_kind (result_kind_of o) k) (has_kind us a (operand_kind o)) g in (
          left_true (is_unary o) (same_kind (result_kind_of o) k) front,
          sym (kinds_same (result_kind_of o) k (right_true (is_unary o) (same_kind (result_kind_of o) k) front)),
          kinds a (operand_kind o) h.1 u (right_true (is_unary o && same_kind (result_kind_of o) k) (has_kind us a (operand_kind o)) g),
        )
    kinds (Binary o a b) k h u g =
        let front = left_true (not (is_unary o) && same_kind (result_kind_of o) k && has_kind us a (operand_kind o)) (has_kind us b (operand_kind o)) g in
        let first = left_true (not (is_unary o) && same_kind (result_kind_of o) k) (has_kind us a (operand_kind o)) front in (
          left_true (not (is_unary o)) (same_kind (result_kind_of o) k) first,
          sym (kinds_same (result_kind_of o) k (right_true (not (is_unary o)) (same_kind (result_kind_of o) k) first)),
          kinds a (operand_kind o) h.1 (all_left (IsGood us) (uses77_in a) (uses77_in b) u) (right_true (not (is_unary o) && same_kind (result_kind_of o) k) (has_kind us a (operand_kind o)) front),
          kinds b (operand_kind o) h.2 (all_right (IsGood us) (uses77_in a) (uses77_in b) u) (right_true (not (is_unary o) && same_kind (result_kind_of o) k && has_kind us a (operand_kind o)) (has_kind us b (operand_kind o)) g),
        )
    kinds e k h u g = absurd h

    pub subscript_kinds : (ps : Subscripts) → AreSource ps → AreGood us (uses77_in_subscripts ps) → are_subscripts us ps ≡ true → AreSubscripts ds (resolved_subscripts us s ps)
    subscript_kinds no_subscripts h u g = tt
    subscript_kinds (subscript p ps) h u g = (
      one_subscript p h.0 (all_left (IsGood us) (uses77_in_subscript p) (uses77_in_subscripts ps) u) (left_true (is_subscript us p) (are_subscripts us ps) g),
      subscript_kinds ps h.1 (all_right (IsGood us) (uses77_in_subscript p) (uses77_in_subscripts ps) u) (right_true (is_subscript us p) (are_subscripts us ps) g),
    )

    one_subscript : (p : Subscript) → IsSourceSubscript p → AreGood us (uses77_in_subscript p) → is_subscript us p ≡ true → IsSubscript ds (resolved_subscript us s p)
    one_subscript (Only e) h u g = kinds e Integer h u g
    one_subscript p h u g = absurd h

  -- ---- depth

  bare_depth : (x : List ℕ) (b : Bool) → depth_of (value_or_name b x s) ≤ 1
  bare_depth x true = literal_depth (s.held (record { name = x; subscripts = [] }))
  bare_depth x false = omega arith

  call_depth : (x : List ℕ) (f : Option Fun) (ps : Subscripts) → depth_of (call_of f x ps) ≤ max 1 (depth_of_subscripts ps)
  call_depth x None ps = omega arith
  call_depth x (Some f) ps = arguments_depth ps

  list_depth : (x : List ℕ) (b : Bool) (ps : Subscripts) → depth_of (element_or_call b x ps) ≤ max 1 (depth_of_subscripts ps)
  list_depth x true ps = omega arith
  list_depth x false ps = call_depth x (function_named x) ps

  call_level : (x : List ℕ) (f : Option Fun) (ps : Subscripts) → level (call_of f x ps) ≡ 10
  call_level x None ps = refl
  call_level x (Some f) ps = refl

  list_level : (x : List ℕ) (b : Bool) (ps : Subscripts) → level (element_or_call b x ps) ≡ 10
  list_level x true ps = refl
  list_level x false ps = call_level x (function_named x) ps

  -- an expression keeps its level, but for a symbolic constant
  levels : (e : Expression) → (level (resolved us s e) ≡ level e) ⊎ (depth_of (resolved us s e) ≤ 1)
  levels (Named x no_subscripts) = inr (bare_depth x (is_constant_name us x))
  levels (Named x (subscript p ps)) = inl (list_level x (is_array_name us x) (resolved_subscripts us s (subscript p ps)))
  levels e = inl refl

  enclosed_le : (least own n : ℕ) → enclosed least own n ≤ 1 + n
  enclosed_le least own n = by (nat_le least own)
    where
      by : (b : Bool) → cond b n (1 + n) ≤ 1 + n
      by true = omega arith
      by false = omega arith

  enclosed_more : (least own n m : ℕ) → n ≤ 2 + m → enclosed least own n ≤ 2 + enclosed least own m
  enclosed_more least own n m h = by (nat_le least own)
    where
      by : (b : Bool) → cond b n (1 + n) ≤ 2 + cond b m (1 + m)
      by true = omega (arith, h)
      by false = omega (arith, h)

  operand : (least : ℕ) (e : Expression) → depth_of (resolved us s e) ≤ 2 + depth_of e
      → enclosed least (level (resolved us s e)) (depth_of (resolved us s e)) ≤ 2 + enclosed least (level e) (depth_of e)
  operand least e h = by (levels e)
    where
      by : (level (resolved us s e) ≡ level e) ⊎ (depth_of (resolved us s e) ≤ 1)
          → enclosed least (level (resolved us s e)) (depth_of (resolved us s e)) ≤ 2 + enclosed least (level e) (depth_of e)
      by (inl g) = subst (λ (l : ℕ). enclosed least l (depth_of (resolved us s e)) ≤ 2 + enclosed least (level e) (depth_of e)) (sym g)
          (enclosed_more least (level e) (depth_of (resolved us s e)) (depth_of e) h)
      by (inr g) = let a = enclosed_le least (level (resolved us s e)) (depth_of (resolved us s e)) in omega (arith, a, g)

  mutual
    -- the negative of a literal, in parentheses where it needs them, is two deep
    pub depths : (e : Expression) → depth_of (resolved us s e) ≤ 2 + depth_of e
    depths (Named x no_subscripts) = let a = bare_depth x (is_constant_name us x) in omega (arith, a)
    depths (Named x (subscript p ps)) =
        let a = list_depth x (is_array_name us x) (resolved_subscripts us s (subscript p ps)) in
        let b = subscript_depths (subscript p ps) in
        omega (arith, a, b)
    depths (Unary o a) = let h = operand (right_least o) a (depths a) in omega (arith, h)
    depths (Binary o a b) =
        let h = operand (left_least o) a (depths a) in
        let g = operand (right_least o) b (depths b) in
        omega (arith, h, g)
    depths (Apply f es) = let h = argument_depths es in omega (arith, h)
    depths e = omega arith

    argument_depths : (es : Expressions) → depth_of_each (resolved_arguments us s es) ≤ 2 + depth_of_each es
    argument_depths no_expressions = omega arith
    argument_depths (expression e es) = omega (arith, depths e, argument_depths es)

    pub subscript_depths : (ps : Subscripts) → depth_of_subscripts (resolved_subscripts us s ps) ≤ 2 + depth_of_subscripts ps
    subscript_depths no_subscripts = omega arith
    subscript_depths (subscript p ps) = omega (arith, subscript_depth p, subscript_depths ps)

    subscript_depth : (p : Subscript) → depth_of_subscript (resolved_subscript us s p) ≤ 2 + depth_of_subscript p
    subscript_depth (Only e) = depths e
    subscript_depth p = omega arith
