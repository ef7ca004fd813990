-- Statements that open and close nothing, as the tree has them.
use Rattle.std.proofs.Common.{◌≡◌, ◌⊎◌, inl, inr, ℕ, suc, ◌+◌, ◌≤◌, one-add, Bool, true, false, not, ◌&&◌, ◌||◌, IsTrue, IsSomeAnd, Option, None, Some, List, [], ◌∷◌, ◌++◌, length, refl, sym, ap, subst, ◌∙◌, arith, Contains}
use Rattle.std.specs.List.{AllByRecursion}
use Rattle.std.specs.Str.{bytes_eq}
use Rattle.std.proofs.lemmas.Bool.{or_cases}
use Rattle.tree.specs.declared.ops.Kind.{Kind}
use Rattle.tree.specs.declared.ops.Kind.TheVariants.{Integer, Logical}
use Rattle.tree.specs.Plain.{Expression, Number, Logic, Named, Unary, Binary, Apply, Subscript, Subscripts, no_subscripts, subscript, Item, Single, Constant, ImpliedDo, Items, no_items, item, Declaration, block}
use Rattle.meaning.specs.Store.{Store}
use Rattle.f77_grammar.specs.declared.directions.Direction.{Direction}
use Rattle.f77_grammar.specs.declared.directions.Direction.TheVariants.{Output, Input}
use Rattle.f77_grammar.specs.Statement77.{Statement77, Program, ImplicitNone, Declare, Dimension, Constants, Assign, Go, Test, If, ElseIf, Else, EndIf, Do, EndDo, Continue, Stop, Read, Print, End}
use Rattle.f77_grammar.specs.expressions.Printing.{IsSource}
use Rattle.meaning.specs.Names.{is_among}
use Rattle.meaning.specs.Depths.{depth_of, depth_of_item, depth_of_items}
use Rattle.meaning.specs.Typed77.{number_of_subscripts, dimensions, declared, has_item, HasKind, IsWhole, IsDoVariable, IsOutput, IsInput, IsOutputItem, AreOutputItems, IsInputItem, AreInputItems}
use Rattle.f77_grammar.specs.program.Uses.{Target, Valued, Use77, use77_of, uses77_in, uses77_in_subscripts, uses_in_item, uses_in_items, input_uses, control_uses, uses77_of, stands, is_typed, is_bounded, is_bare_role, is_constant_name, is_variable, is_array_name, kind_of_name}
use Rattle.f77_grammar.specs.program.Declarations.{suits_list}
use Rattle.f77_grammar.specs.program.Kinds.{same_kind, has_kind, has_some_kind, are_subscripts, is_stored_into, suits_output, suits_input, are_numbers, suits_item, suits_items, suits}
use Rattle.f77_grammar.specs.program.DoVariables.{sets_one_of, reads_one_of, is_integer_variable, is_wrong_variable, misuses_in_item, misuses_in_items, misuses_variable}
use Rattle.meaning.specs.Profile77.{Surroundings, IsLine, IsAssignment, IsBlock}
use Rattle.f77_grammar.specs.program.Tree.{literal, value_or_name, resolved, resolved_subscripts, resolved_input, resolved_value, resolved_item, resolved_items, simple, target}
use Rattle.f77_laws.specs.Source.{IsShallow, IsSourceVariable, IsSourceItem, AreSourceItems, IsSourceAction}
use Rattle.f77_laws.proofs.Lists.{left_true, right_true, left_false, right_false, not_both, negated, affirmed, all_left, all_right, all_at, any_true, cases_of, here, there}
use Rattle.f77_laws.proofs.Variables.{equal_names}
use Rattle.f77_laws.proofs.ConstantValues.{kinds_same}
use Rattle.f77_laws.proofs.NameKinds.{as_many, literal_kind, Knows, IsDeclaredAs, IsGood, AreGood, stands_so, bare_variable, array_variable, scalar_kind, declared_variable, element_kind, kinds, subscript_kinds, depths, subscript_depths}

-- ---- names of DO variables

pub not_among : (names : List (List ℕ)) (x : List ℕ) → is_among names x ≡ false → Contains names x → ⊥
not_among names x h c = not_both (is_among names x) (any_true (bytes_eq x) names x c (equal_names x x refl)) h

shown : {A : Type 0} (P : A → Type 0) (o : Option A) → IsSomeAnd o P → IsSomeAnd o (λ d. Unit {0})
shown P None h = h
shown P (Some d) h = tt

module _ (us : List Use77) (s : Store) (ds : List Declaration) (knows : Knows us s ds) where
  -- `vs` are DO variables of the loops round a place in the tree, `around` of those round it in the text
  pub record IsWithin (vs around : List (List ℕ)) : Type 0 where
    pub inside : (x : List ℕ) → Contains vs x → Contains around x
    pub scalars : AllByRecursion (λ x. is_array_name us x ≡ false) around

  pub record IsScalar (x : List ℕ) : Type 0 where
    pub variable : is_variable us x ≡ true
    pub no_array : is_array_name us x ≡ false
    pub no_constant : is_constant_name us x ≡ false
    pub integer : kind_of_name us x ≡ Integer

  pub integer_scalar : (x : List ℕ) → is_integer_variable us x ≡ true → IsScalar x
  integer_scalar x h =
      let front = left_true (is_variable us x && not (is_array_name us x)) (same_kind (kind_of_name us x) Integer) h in
      let v = left_true (is_variable us x) (not (is_array_name us x)) front in
      record {
        variable = v;
        no_array = negated (is_array_name us x) (right_true (is_variable us x) (not (is_array_name us x)) front);
        no_constant = negated (is_constant_name us x) (right_true (stands is_typed us x || stands is_bounded us x || stands is_bare_role us x) (not (is_constant_name us x)) v);
        integer = kinds_same (kind_of_name us x) Integer (right_true (is_variable us x && not (is_array_name us x)) (same_kind (kind_of_name us x) Integer) h);
      }

  pub scalar_of : (x : List ℕ) (around : List (List ℕ)) → is_wrong_variable us x around ≡ false → IsScalar x
  scalar_of x around h = integer_scalar x (affirmed (is_integer_variable us x) (left_false (not (is_integer_variable us x)) (is_among around x) h))

  pub do_variable : (x : List ℕ) (vs around : List (List ℕ)) → IsWithin vs around → is_wrong_variable us x around ≡ false → IsDoVariable ds x vs
  do_variable x vs around w h =
      let k = scalar_of x around h in
      record {
        integer = subst (λ (j : Kind). HasKind ds (Named x no_subscripts) j) k.integer (scalar_kind us s ds knows x k.variable k.no_array k.no_constant);
        free = λ c. not_among around x (right_false (not (is_integer_variable us x)) (is_among around x) h) (w.inside x c);
      }

  pub within_more : (x : List ℕ) (vs around : List (List ℕ)) → IsWithin vs around → is_array_name us x ≡ false → IsWithin (x ∷ vs) (x ∷ around)
  within_more x vs around w h = record { inside = λ y c. by y (cases_of x vs y c); scalars = (h, w.scalars) }
    where
      by : (y : List ℕ) → (x ≡ y) ⊎ Contains vs y → Contains (x ∷ around) y
      by y (inl e) = subst (λ (z : List ℕ). Contains (x ∷ around) z) e (here x around)
      by y (inr c) = there x around y (w.inside y c)

  -- ---- output lists

  output_of : (e : Expression) → HasKind ds e Integer ⊎ HasKind ds e Logical → IsOutput ds e
  output_of (Number n) h = h
  output_of (Logic b) h = h
  output_of (Named x no_subscripts) (inl h) = shown (λ d. (Integer ≡ d.kind) × (0 ≡ length (dimensions d.extent))) (declared ds x) h.0
  output_of (Named x no_subscripts) (inr h) = shown (λ d. (Logical ≡ d.kind) × (0 ≡ length (dimensions d.extent))) (declared ds x) h.0
  output_of (Named x (subscript p ps)) h = h
  output_of (Unary o a) h = h
  output_of (Binary o a b) h = h
  output_of e h = h

  some_kind : (e : Expression) (k : Kind) → HasKind ds e k → HasKind ds e Integer ⊎ HasKind ds e Logical
  some_kind e Integer h = inl h
  some_kind e Logical h = inr h

  some_output : (e : Expression) → IsSource e → AreGood us (uses77_in e) → has_some_kind us e ≡ true → IsOutput ds (resolved us s e)
  some_output e h u g = output_of (resolved us s e) (by (or_cases (has_kind us e Integer) (has_kind us e Logical) g))
    where
      by : (has_kind us e Integer ≡ true) ⊎ (has_kind us e Logical ≡ true) → HasKind ds (resolved us s e) Integer ⊎ HasKind ds (resolved us s e) Logical
      by (inl f) = inl (kinds us s ds knows e Integer h u f)
      by (inr f) = inr (kinds us s ds knows e Logical h u f)

  whole_output : (x : List ℕ) (b : Bool) → is_constant_name us x ≡ b → Contains us (use77_of x (Valued 0)) → IsOutput ds (value_or_name b x s)
  whole_output x true c h =
      let v = s.held (record { name = x; subscripts = [] }) in
      output_of (literal v) (some_kind (literal v) (kind_of_name us x) (literal_kind ds v (kind_of_name us x) (knows.constant x c).kind (knows.constant x c).range))
  whole_output x false c h = declared_variable us s ds knows x (bare_variable us x (stands_so us is_bare_role x (Valued 0) h refl) c)

  output_expression : (e : Expression) → IsSource e → AreGood us (uses77_in e) → suits_output us e ≡ true → IsOutput ds (resolved us s e)
  output_expression (Number n) h u g = some_output (Number n) h u g
  output_expression (Logic b) h u g = some_output (Logic b) h u g
  output_expression (Named x no_subscripts) h u g = whole_output x (is_constant_name us x) refl u.0.among
  output_expression (Named x (subscript p ps)) h u g = some_output (Named x (subscript p ps)) h u g
  output_expression (Unary o a) h u g = some_output (Unary o a) h u g
  output_expression (Binary o a b) h u g = some_output (Binary o a b) h u g
  output_expression e h u g = absurd h

  has_items : (d : Direction) (is : Items) → IsTrue (has_item is) → IsTrue (has_item (resolved_items us s d is))
  has_items d no_items h = h
  has_items d (item i is) h = refl

  record AreParameters (a b c : Expression) : Type 0 where
    first : HasKind ds (resolved us s a) Integer
    last : HasKind ds (resolved us s b) Integer
    step : HasKind ds (resolved us s c) Integer

  parameters : (x : List ℕ) (a b c : Expression) → IsSource a → IsSource b → IsSource c → AreGood us (control_uses x a b c) → are_numbers us a b c ≡ true → AreParameters a b c
  parameters x a b c h k l u g =
      let front = left_true (has_kind us a Integer && has_kind us b Integer) (has_kind us c Integer) g in
      let uses = all_left (IsGood us) (uses77_in a ++ uses77_in b) (uses77_in c) u.1 in
      record {
        first = kinds us s ds knows a Integer h (all_left (IsGood us) (uses77_in a) (uses77_in b) uses) (left_true (has_kind us a Integer) (has_kind us b Integer) front);
        last = kinds us s ds knows b Integer k (all_right (IsGood us) (uses77_in a) (uses77_in b) uses) (right_true (has_kind us a Integer) (has_kind us b Integer) front);
        step = kinds us s ds knows c Integer l (all_right (IsGood us) (uses77_in a ++ uses77_in b) (uses77_in c) u.1) (right_true (has_kind us a Integer && has_kind us b Integer) (has_kind us c Integer) g);
      }

  mutual
    output_item : (i : Item) (vs around : List (List ℕ)) → IsWithin vs around → IsSourceItem Output i → AreGood us (uses_in_item Output i) → suits_item us Output i ≡ true → misuses_in_item us Output i around ≡ false
        → IsOutputItem ds (resolved_item us s Output i) vs
    output_item (Single e) vs around w h u g m = output_expression e h u g
    output_item (Constant t) vs around w h u g m = h
    output_item (ImpliedDo is x a b c) vs around w h u g m =
        let p = parameters x a b c h.2 h.3 h.4 (all_right (IsGood us) (uses_in_items Output is) (control_uses x a b c) u) (right_true (suits_items us Output is) (are_numbers us a b c) g) in
        let n = left_false (is_wrong_variable us x around) (misuses_in_items us Output is (x ∷ around)) m in (
          has_items Output is h.0,
          do_variable x vs around w n,
          p.first,
          p.last,
          p.step,
          output_items is (x ∷ vs) (x ∷ around) (within_more x vs around w (scalar_of x around n).no_array) h.5 (all_left (IsGood us) (uses_in_items Output is) (control_uses x a b c) u) (left_true (suits_items us Output is) (are_numbers us a b c) g)
              (right_false (is_wrong_variable us x around) (misuses_in_items us Output is (x ∷ around)) m),
        )

    output_items : (is : Items) (vs around : List (List ℕ)) → IsWithin vs around → AreSourceItems Output is → AreGood us (uses_in_items Output is) → suits_items us Output is ≡ true → misuses_in_items us Output is around ≡ false
        → AreOutputItems ds (resolved_items us s Output is) vs
    output_items no_items vs around w h u g m = tt
    output_items (item i is) vs around w h u g m = (
      output_item i vs around w h.0 (all_left (IsGood us) (uses_in_item Output i) (uses_in_items Output is) u) (left_true (suits_item us Output i) (suits_items us Output is) g) (left_false (misuses_in_item us Output i around) (misuses_in_items us Output is around) m),
      output_items is vs around w h.1 (all_right (IsGood us) (uses_in_item Output i) (uses_in_items Output is) u) (right_true (suits_item us Output i) (suits_items us Output is) g) (right_false (misuses_in_item us Output i around) (misuses_in_items us Output is around) m),
    )

  -- ---- input lists

  -- a name without a list, that is assigned or read into, is a variable
  target_variable : (x : List ℕ) → IsGood us (use77_of x (Target 0)) → is_variable us x ≡ true
  target_variable x u = bare_variable us x (stands_so us is_bare_role x (Target 0) u.among refl) (right_false (not (suits_list us x 0)) (is_constant_name us x) u.suits)

  target_element : (x : List ℕ) (p : Subscript) (ps : Subscripts) → IsSource (Named x (subscript p ps)) → IsGood us (use77_of x (Target (1 + number_of_subscripts ps))) → AreGood us (uses77_in_subscripts (subscript p ps)) → is_array_name us x ≡ true → are_subscripts us (subscript p ps) ≡ true
      → HasKind ds (Named x (resolved_subscripts us s (subscript p ps))) (kind_of_name us x)
  target_element x p ps h u v a g =
      let u' = subst (λ (n : ℕ). IsGood us (use77_of x (Target n))) (one-add (number_of_subscripts ps)) u in
      element_kind us s ds knows x (number_of_subscripts ps) (resolved_subscripts us s (subscript p ps)) a
      (affirmed (suits_list us x (suc (number_of_subscripts ps))) (left_false (not (suits_list us x (suc (number_of_subscripts ps)))) (is_constant_name us x) u'.suits))
      (as_many us s ds knows (subscript p ps) ∙ one-add (number_of_subscripts ps))
      (subscript_kinds us s ds knows (subscript p ps) h.1 v g)

  no_do_variable : (x : List ℕ) (vs around : List (List ℕ)) → IsWithin vs around → is_array_name us x ≡ true → Contains vs x → ⊥
  no_do_variable x vs around w a c = not_both (is_array_name us x) a (all_at (λ y. is_array_name us y ≡ false) around x w.scalars (w.inside x c))

  input_expression : (e : Expression) (vs around : List (List ℕ)) → IsWithin vs around → IsSourceVariable e → AreGood us (input_uses e) → suits_input us e ≡ true → reads_one_of around e ≡ false → IsInput ds (resolved_input us s e) vs
  input_expression (Named x no_subscripts) vs around w h u g m = (declared_variable us s ds knows x (target_variable x u.0), λ c. not_among around x m (w.inside x c))
  input_expression (Named x (subscript p ps)) vs around w h u g m =
      let a = left_true (is_array_name us x) (are_subscripts us (subscript p ps)) g in (
        some_kind (Named x (resolved_subscripts us s (subscript p ps))) (kind_of_name us x) (target_element x p ps h u.0 u.1 a (right_true (is_array_name us x) (are_subscripts us (subscript p ps)) g)),
        no_do_variable x vs around w a,
      )
  input_expression e vs around w h u g m = absurd h

  mutual
    input_item : (i : Item) (vs around : List (List ℕ)) → IsWithin vs around → IsSourceItem Input i → AreGood us (uses_in_item Input i) → suits_item us Input i ≡ true → misuses_in_item us Input i around ≡ false
        → IsInputItem ds (resolved_item us s Input i) vs
    input_item (Single e) vs around w h u g m = input_expression e vs around w h u g m
    input_item (Constant t) vs around w h u g m = absurd h
    input_item (ImpliedDo is x a b c) vs around w h u g m =
        let p = parameters x a b c h.2 h.3 h.4 (all_right (IsGood us) (uses_in_items Input is) (control_uses x a b c) u) (right_true (suits_items us Input is) (are_numbers us a b c) g) in
        let n = left_false (is_wrong_variable us x around) (misuses_in_items us Input is (x ∷ around)) m in (
          has_items Input is h.0,
          do_variable x vs around w n,
          p.first,
          p.last,
          p.step,
          input_items is (x ∷ vs) (x ∷ around) (within_more x vs around w (scalar_of x around n).no_array) h.5 (all_left (IsGood us) (uses_in_items Input is) (control_uses x a b c) u) (left_true (suits_items us Input is) (are_numbers us a b c) g)
              (right_false (is_wrong_variable us x around) (misuses_in_items us Input is (x ∷ around)) m),
        )

    input_items : (is : Items) (vs around : List (List ℕ)) → IsWithin vs around → AreSourceItems Input is → AreGood us (uses_in_items Input is) → suits_items us Input is ≡ true → misuses_in_items us Input is around ≡ false
        → AreInputItems ds (resolved_items us s Input is) vs
    input_items no_items vs around w h u g m = tt
    input_items (item i is) vs around w h u g m = (
      input_item i vs around w h.0 (all_left (IsGood us) (uses_in_item Input i) (uses_in_items Input is) u) (left_true (suits_item us Input i) (suits_items us Input is) g) (left_false (misuses_in_item us Input i around) (misuses_in_items us Input is around) m),
      input_items is vs around w h.1 (all_right (IsGood us) (uses_in_item Input i) (uses_in_items Input is) u) (right_true (suits_item us Input i) (suits_items us Input is) g) (right_false (misuses_in_item us Input i around) (misuses_in_items us Input is around) m),
    )

  -- ---- depths of lists

  input_expression_depth : (e : Expression) → depth_of (resolved_input us s e) ≤ 2 + depth_of e
  input_expression_depth (Named x ps) = subscript_depths us s ds knows ps
  input_expression_depth (Number n) = depths us s ds knows (Number n)
  input_expression_depth (Logic b) = depths us s ds knows (Logic b)
  input_expression_depth (Unary o a) = depths us s ds knows (Unary o a)
  input_expression_depth (Binary o a b) = depths us s ds knows (Binary o a b)
  input_expression_depth (Apply f es) = depths us s ds knows (Apply f es)
  input_expression_depth e = depths us s ds knows e

  value_depth : (d : Direction) (e : Expression) → depth_of (resolved_value us s d e) ≤ 2 + depth_of e
  value_depth Output e = depths us s ds knows e
  value_depth Input e = input_expression_depth e

  mutual
    item_depth : (d : Direction) (i : Item) → depth_of_item (resolved_item us s d i) ≤ 2 + depth_of_item i
    item_depth d (Single e) = value_depth d e
    item_depth d (Constant t) = omega arith
    item_depth d (ImpliedDo is x a b c) = omega (arith, list_depth d is, depths us s ds knows a, depths us s ds knows b, depths us s ds knows c)

    list_depth : (d : Direction) (is : Items) → depth_of_items (resolved_items us s d is) ≤ 2 + depth_of_items is
    list_depth d no_items = omega arith
    list_depth d (item i is) = omega (arith, item_depth d i, list_depth d is)

  -- ---- statements

  pub whole : (e : Expression) (k : Kind) → IsShallow e → AreGood us (uses77_in e) → has_kind us e k ≡ true → IsWhole ds (resolved us s e) k
  whole e k h u g = record { suits = kinds us s ds knows e k h.0 u g; depth = (let a = depths us s ds knows e in let b = h.1 in omega (arith, a, b)) }

  pub record AreWholeParameters (a b c : Expression) : Type 0 where
    pub first : IsWhole ds (resolved us s a) Integer
    pub last : IsWhole ds (resolved us s b) Integer
    pub step : IsWhole ds (resolved us s c) Integer

  pub whole_parameters : (x : List ℕ) (a b c : Expression) → IsShallow a → IsShallow b → IsShallow c → AreGood us (control_uses x a b c) → are_numbers us a b c ≡ true → AreWholeParameters a b c
  whole_parameters x a b c h k l u g =
      let p = parameters x a b c h.0 k.0 l.0 u g in
      record {
        first = record { suits = p.first; depth = (let d = depths us s ds knows a in let e = h.1 in omega (arith, d, e)) };
        last = record { suits = p.last; depth = (let d = depths us s ds knows b in let e = k.1 in omega (arith, d, e)) };
        step = record { suits = p.step; depth = (let d = depths us s ds knows c in let e = l.1 in omega (arith, d, e)) };
      }

  stored : (x : List ℕ) (ps : Subscripts) (e : Expression) → is_variable us x ≡ true → IsWhole ds (Named x ps) (kind_of_name us x) → IsWhole ds e (kind_of_name us x)
      → IsSomeAnd (declared ds x) (λ d. IsWhole ds (Named x ps) d.kind × IsWhole ds e d.kind)
  stored x ps e v h g = by (knows.variable x v)
    where
      by : IsDeclaredAs us ds x → IsSomeAnd (declared ds x) (λ d. IsWhole ds (Named x ps) d.kind × IsWhole ds e d.kind)
      by d = subst (λ (o : Option Declaration). IsSomeAnd o (λ f. IsWhole ds (Named x ps) f.kind × IsWhole ds e f.kind)) (sym d.is)
          (subst (λ (k : Kind). IsWhole ds (Named x ps) k × IsWhole ds e k) (sym d.kind) (h, g))

  left_depth : (x : List ℕ) (ps : Subscripts) → depth_of (Named x ps) ≤ 400 → depth_of (Named x (resolved_subscripts us s ps)) ≤ 402
  left_depth x ps h = let d = subscript_depths us s ds knows ps in omega (arith, d, h)

  assignment : (x : List ℕ) (ps : Subscripts) (e : Expression) (w : Surroundings) (around : List (List ℕ)) → IsWithin w.variables around → IsShallow (Named x ps) → IsShallow e
      → AreGood us (use77_of x (Target (number_of_subscripts ps)) ∷ uses77_in_subscripts ps ++ uses77_in e)
      → (is_stored_into us x (number_of_subscripts ps) && are_subscripts us ps && has_kind us e (kind_of_name us x)) ≡ true → sets_one_of around x ps ≡ false
      → IsAssignment ds (record { name = x; subscripts = resolved_subscripts us s ps }) (resolved us s e) w
  assignment x no_subscripts e w around v h k u g m =
      let a = negated (is_array_name us x) (left_true (not (is_array_name us x)) true (left_true (not (is_array_name us x) && true) (has_kind us e (kind_of_name us x)) g)) in
      let x' = target_variable x u.0 in (
        stored x no_subscripts (resolved us s e) x'
            (record { suits = scalar_kind us s ds knows x x' a (right_false (not (suits_list us x 0)) (is_constant_name us x) u.0.suits); depth = omega arith })
            (whole e (kind_of_name us x) k u.1 (right_true (not (is_array_name us x) && true) (has_kind us e (kind_of_name us x)) g)),
        λ c. not_among around x m (v.inside x c),
      )
  assignment x (subscript p ps) e w around v h k u g m =
      let front = left_true (is_stored_into us x (1 + number_of_subscripts ps) && are_subscripts us (subscript p ps)) (has_kind us e (kind_of_name us x)) g in
      let a = sym (ap (is_stored_into us x) (one-add (number_of_subscripts ps))) ∙ left_true (is_stored_into us x (1 + number_of_subscripts ps)) (are_subscripts us (subscript p ps)) front in (
        stored x (resolved_subscripts us s (subscript p ps)) (resolved us s e) (array_variable us x a)
            (record {
              suits = target_element x p ps h.0 u.0 (all_left (IsGood us) (uses77_in_subscripts (subscript p ps)) (uses77_in e) u.1) a (right_true (is_stored_into us x (1 + number_of_subscripts ps)) (are_subscripts us (subscript p ps)) front);
              depth = left_depth x (subscript p ps) h.1;
            })
            (whole e (kind_of_name us x) k (all_right (IsGood us) (uses77_in_subscripts (subscript p ps)) (uses77_in e) u.1) (right_true (is_stored_into us x (1 + number_of_subscripts ps) && are_subscripts us (subscript p ps)) (has_kind us e (kind_of_name us x)) g)),
        no_do_variable x w.variables around v a,
      )

  -- a statement that stands alone or in a logical IF
  pub action_holds : (line : ℕ) (c : Statement77) (w : Surroundings) (around : List (List ℕ)) → IsWithin w.variables around → IsLine line → IsSourceAction c → AreGood us (uses77_of c)
      → suits us c ≡ true → misuses_variable us c around ≡ false → AllByRecursion (Contains w.ahead) (target c) → IsBlock ds (block (simple us s line c)) w
  action_holds line (Assign left e) w around v l h u g m a = ((l, refl, assignment left.name left.subscripts e w around v h.0 h.1 u g m), tt)
  action_holds line (Go n) w around v l h u g m a = ((l, a.0), tt)
  action_holds line Continue w around v l h u g m a = tt
  action_holds line Stop w around v l h u g m a = (l, tt)
  action_holds line (Read is) w around v l h u g m a =
      ((l, input_items is w.variables around v h.0 u g m, (let d = list_depth Input is in let e = h.1 in omega (arith, d, e))), tt)
  action_holds line (Print is) w around v l h u g m a =
      ((l, output_items is w.variables around v h.0 u g m, (let d = list_depth Output is in let e = h.1 in omega (arith, d, e))), tt)
  action_holds line (Program x) w around v l h u g m a = absurd h
  action_holds line ImplicitNone w around v l h u g m a = absurd h
  action_holds line (Declare k es) w around v l h u g m a = absurd h
  action_holds line (Dimension es) w around v l h u g m a = absurd h
  action_holds line (Constants cs) w around v l h u g m a = absurd h
  action_holds line (Test c t) w around v l h u g m a = absurd h
  action_holds line (If c) w around v l h u g m a = absurd h
  action_holds line (ElseIf c) w around v l h u g m a = absurd h
  action_holds line Else w around v l h u g m a = absurd h
  action_holds line EndIf w around v l h u g m a = absurd h
  action_holds line (Do n x b c d) w around v l h u g m a = absurd h
  action_holds line EndDo w around v l h u g m a = absurd h
  action_holds line End w around v l h u g m a = absurd h
