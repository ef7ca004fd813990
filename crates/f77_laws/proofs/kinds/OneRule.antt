-- What has a kind by the uses of names has it by declarations, and the other way round.
use Rattle.std.proofs.Common.{◌≡◌, ◌⊎◌, ◌↔◌, inl, inr, ℕ, suc, ◌+◌, ◌≤◌, ◌==◌, one-add, Bool, true, false, not, ◌&&◌, ◌||◌, cond, IsSomeAnd, Option, Some, None, is_some, pos, negsuc, List, [], ◌∷◌, length, refl, sym, ap, subst, ◌∙◌, arith, Contains}
use Rattle.std.specs.List.{AllByRecursion}
use Rattle.std.specs.Str.{bytes_eq}
use Rattle.std.proofs.lemmas.Bool.{or_cases}
use Rattle.std.proofs.lemmas.Bool.Decides.{nat_tests}
use Rattle.tree.specs.OperationFaults.{kind_of}
use Rattle.tree.specs.declared.ops.Kind.{Kind}
use Rattle.tree.specs.declared.ops.Kind.TheVariants.{Integer, Logical}
use Rattle.tree.specs.declared.ops.Value.{Value}
use Rattle.tree.specs.declared.ops.Value.TheVariants.{Int, Truth}
use Rattle.tree.specs.declared.functions.Fun.{Fun}
use Rattle.tree.specs.Plain.{Expression, Number, Logic, Named, Unary, Binary, Subscript, Only, Subscripts, no_subscripts, subscript, Declaration}
use Rattle.tree.specs.Functions.{function_named, name_of_function, suits_number}
use Rattle.tree.specs.OperatorTable.{operand_kind, result_kind_of, is_unary}
use Rattle.meaning.specs.Store.{Store}
use Rattle.meaning.specs.Typed77.{number_of_arguments, number_of_subscripts, dimensions, declared, HasKind, AreArguments, AreSubscripts, IsSubscript}
use Rattle.f77_grammar.specs.expressions.Printing.{IsSource, IsSourceSubscript, AreSource}
use Rattle.f77_grammar.specs.program.Uses.{Valued, Use77, use77_of, uses77_in, uses77_in_subscripts, uses77_in_subscript, stands, is_typed, is_bare_role, is_bounded, is_constant_name, is_variable, is_array_name, is_function, kind_of_name, dimensions_of_name}
use Rattle.f77_grammar.specs.program.Declarations.{has_list}
use Rattle.f77_grammar.specs.program.Kinds.{same_kind, takes_so_many, has_kind, name_has_kind, list_has_kind, are_subscripts, is_subscript, is_hidden_name, calls_hidden}
use Rattle.f77_grammar.specs.program.Tree.{literal, arguments77_of, call_of, element_or_call, value_or_name, resolved, resolved_subscripts, resolved_subscript}
use Rattle.f77_laws.proofs.Lists.{left_true, right_true, negated, or_right, all_left, all_right, all_both}
use Rattle.f77_laws.proofs.NameKinds.{Knows, IsDeclaredAs, AreGood, no_array, as_many, kinds}
use Rattle.f77_laws.specs.kinds.OneRule.{IsRightUse, IsArrayOrFunction, HasKindInText, HasKindInTree}
use Rattle.f77_laws.proofs.kinds.Dimensions.{HaveDimensions, some_dimension}

-- ---- tests

pub both_true : (a b : Bool) → a ≡ true → b ≡ true → (a && b) ≡ true
both_true true b h g = g
both_true false b h g = absurd cc

pub or_left : (a b : Bool) → a ≡ true → (a || b) ≡ true
or_left true b h = refl
or_left false b h = absurd cc

and_false : (a b : Bool) → b ≡ false → (a && b) ≡ false
and_false true b h = h
and_false false b h = refl

equal : (n m : ℕ) → n ≡ m → (n == m) ≡ true
equal n m e = grind (arith, nat_tests)

same : (a b : Kind) → a ≡ b → same_kind a b ≡ true
same Integer b e = subst (λ (c : Kind). same_kind Integer c ≡ true) e refl
same Logical b e = subst (λ (c : Kind). same_kind Logical c ≡ true) e refl

-- ---- what is no function

variable_hides : (a b c : Bool) → b ≡ true → (a && not b && not c) ≡ false
variable_hides true true c h = refl
variable_hides true false c h = absurd cc
variable_hides false b c h = refl

constant_hides : (a b c : Bool) → c ≡ true → (a && not b && not c) ≡ false
constant_hides true true c h = refl
constant_hides true false true h = refl
constant_hides true false false h = absurd cc
constant_hides false b c h = refl

module _ (us : List Use77) where
  no_call : (x : List ℕ) (n : ℕ) → is_function us x ≡ false → calls_hidden us (use77_of x (Valued n)) ≡ false
  no_call x n e = ap (λ b. b && is_hidden_name us x (function_named x)) e

  pub variable_no_function : (x : List ℕ) → is_variable us x ≡ true → is_function us x ≡ false
  variable_no_function x v = variable_hides (is_some (function_named x)) (is_variable us x) (is_constant_name us x) v

  pub constant_no_function : (x : List ℕ) → is_constant_name us x ≡ true → is_function us x ≡ false
  constant_no_function x c = constant_hides (is_some (function_named x)) (is_variable us x) (is_constant_name us x) c

  constant_no_array : (x : List ℕ) → is_constant_name us x ≡ true → is_array_name us x ≡ false
  constant_no_array x c = and_false (stands is_bounded us x) (not (is_constant_name us x)) (ap not c)

  pub variable_no_constant : (x : List ℕ) → is_variable us x ≡ true → is_constant_name us x ≡ false
  variable_no_constant x v = negated (is_constant_name us x) (right_true (stands is_typed us x || stands is_bounded us x || stands is_bare_role us x) (not (is_constant_name us x)) v)

  -- ---- from the text: what stands with a list is an array or a function

  list_kind_lists : (x : List ℕ) (n : ℕ) (k : Kind) → list_has_kind us x n k ≡ true → (is_array_name us x || is_function us x) ≡ true
  list_kind_lists x n k h = by (or_cases (is_array_name us x && same_kind (kind_of_name us x) k) (is_function us x && takes_so_many (function_named x) n && same_kind Integer k) h)
    where
      by : ((is_array_name us x && same_kind (kind_of_name us x) k) ≡ true) ⊎ ((is_function us x && takes_so_many (function_named x) n && same_kind Integer k) ≡ true) → (is_array_name us x || is_function us x) ≡ true
      by (inl f) = or_left (is_array_name us x) (is_function us x) (left_true (is_array_name us x) (same_kind (kind_of_name us x) k) f)
      by (inr f) = or_right (is_array_name us x) (is_function us x) (left_true (is_function us x) (takes_so_many (function_named x) n) (left_true (is_function us x && takes_so_many (function_named x) n) (same_kind Integer k) f))

  mutual
    pub lists : (e : Expression) (k : Kind) → IsSource e → has_kind us e k ≡ true → AllByRecursion (IsArrayOrFunction us) (uses77_in e)
    lists (Number n) k h g = tt
    lists (Logic b) k h g = tt
    lists (Named x no_subscripts) k h g = (λ l. absurd cc, tt)
    lists (Named x (subscript p ps)) k h g = (
      λ l. list_kind_lists x (suc (number_of_subscripts ps)) k (sym (ap (λ n. name_has_kind us x n k) (one-add (number_of_subscripts ps))) ∙ left_true (name_has_kind us x (1 + number_of_subscripts ps) k) (are_subscripts us (subscript p ps)) g),
      lists_in (subscript p ps) h.1 (right_true (name_has_kind us x (1 + number_of_subscripts ps) k) (are_subscripts us (subscript p ps)) g),
    )
    lists (Unary o a) k h g = lists a (operand_kind o) h.1 (right_true (is_unary o && same_kind (result_kind_of o) k) (has_kind us a (operand_kind o)) g)
    lists (Binary o a b) k h g =
        let front = left_true (not (is_unary o) && same_kind (result_kind_of o) k && has_kind us a (operand_kind o)) (has_kind us b (operand_kind o)) g in
        all_both (IsArrayOrFunction us) (uses77_in a) (uses77_in b)
        (lists a (operand_kind o) h.1 (right_true (not (is_unary o) && same_kind (result_kind_of o) k) (has_kind us a (operand_kind o)) front))
        (lists b (operand_kind o) h.2 (right_true (not (is_unary o) && same_kind (result_kind_of o) k && has_kind us a (operand_kind o)) (has_kind us b (operand_kind o)) g))
    lists e k h g = absurd h

    pub lists_in : (ps : Subscripts) → AreSource ps → are_subscripts us ps ≡ true → AllByRecursion (IsArrayOrFunction us) (uses77_in_subscripts ps)
    lists_in no_subscripts h g = tt
    lists_in (subscript p ps) h g =
        all_both (IsArrayOrFunction us) (uses77_in_subscript p) (uses77_in_subscripts ps)
        (lists_at p h.0 (left_true (is_subscript us p) (are_subscripts us ps) g))
        (lists_in ps h.1 (right_true (is_subscript us p) (are_subscripts us ps) g))

    lists_at : (p : Subscript) → IsSourceSubscript p → is_subscript us p ≡ true → AllByRecursion (IsArrayOrFunction us) (uses77_in_subscript p)
    lists_at (Only e) h g = lists e Integer h g
    lists_at p h g = absurd h

  pub good : (vs : List Use77) → AllByRecursion (Contains us) vs → AllByRecursion (IsRightUse us) vs → AreGood us vs
  good [] h g = tt
  good (v ∷ vs) h g = (record { among = h.0; suits = g.0.suits; shown = g.0.shown }, good vs h.1 g.1)

-- ---- arguments

as_many_arguments : (ps : Subscripts) → number_of_arguments (arguments77_of ps) ≡ number_of_subscripts ps
as_many_arguments no_subscripts = refl
as_many_arguments (subscript p ps) = ap (λ n. 1 + n) (as_many_arguments ps)

-- ---- from the tree

module _ (us : List Use77) (s : Store) (ds : List Declaration) (knows : Knows us s ds) (some : HaveDimensions us) where
  arguments_suit : (ps : Subscripts) → AreSource ps → AreArguments ds (arguments77_of (resolved_subscripts us s ps)) → AreSubscripts ds (resolved_subscripts us s ps)
  arguments_suit no_subscripts h g = tt
  arguments_suit (subscript (Only e) ps) h g = (g.0, arguments_suit ps h.1 g.1)
  arguments_suit (subscript p ps) h g = absurd h.0

  dimension : (x : List ℕ) → is_array_name us x ≡ true → 1 ≤ dimensions_of_name us x
  dimension x a = some_dimension us x some (left_true (stands is_bounded us x) (not (is_constant_name us x)) a)

  -- a name that the tree declares is a variable
  pub record IsNamed (x : List ℕ) (n : ℕ) (k : Kind) : Type 0 where
    pub variable : is_variable us x ≡ true
    pub kind : kind_of_name us x ≡ k
    pub many : n ≡ dimensions_of_name us x

  abbrev IsSo : ℕ → Kind → Declaration → Type 0
  IsSo n k d = (k ≡ d.kind) × (n ≡ length (dimensions d.extent))

  pub named_so : (x : List ℕ) (n : ℕ) (k : Kind) → IsSomeAnd (declared ds x) (IsSo n k) → IsNamed x n k
  named_so x n k h = by (is_variable us x) refl
    where
      of_variable : is_variable us x ≡ true → IsDeclaredAs us ds x → IsNamed x n k
      of_variable v d =
          let f : IsSo n k d.it = subst (λ (o : Option Declaration). IsSomeAnd o (IsSo n k)) d.is h in
          record { variable = v; kind = sym (f.0 ∙ d.kind); many = f.1 ∙ d.many }

      by : (b : Bool) → is_variable us x ≡ b → IsNamed x n k
      by true e = of_variable e (knows.variable x e)
      by false e = absurd (subst (λ (o : Option Declaration). IsSomeAnd o (IsSo n k)) (knows.other x e) h)

  no_variable : (x : List ℕ) → declared ds x ≡ None → is_variable us x ≡ false
  no_variable x h = by (is_variable us x) refl
    where
      by : (b : Bool) → is_variable us x ≡ b → is_variable us x ≡ false
      by true e = (let d = knows.variable x e in let z : None ≡ Some d.it = sym h ∙ d.is in absurd cc)
      by false e = e

  -- ---- a bare name

  literal_kind : (v : Value) (k : Kind) → HasKind ds (literal v) k → kind_of v ≡ k
  literal_kind (Int (pos n)) k h = sym h.1
  literal_kind (Int (negsuc n)) k h = sym h.1
  literal_kind (Truth b) k h = sym h

  record IsBare (x : List ℕ) (k : Kind) : Type 0 where
    scalar : is_array_name us x ≡ false
    kind : kind_of_name us x ≡ k
    no_function : is_function us x ≡ false

  pub no_dimension : (x : List ℕ) → 0 ≡ dimensions_of_name us x → is_array_name us x ≡ false
  no_dimension x e = by (is_array_name us x) refl
    where
      by : (b : Bool) → is_array_name us x ≡ b → is_array_name us x ≡ false
      by true a = absurd (let l = dimension x a in omega (arith, l, e))
      by false a = a

  bare : (x : List ℕ) (k : Kind) (b : Bool) → is_constant_name us x ≡ b → HasKind ds (value_or_name b x s) k → IsBare x k
  bare x k true c h = record {
    scalar = constant_no_array us x c;
    kind = sym (knows.constant x c).kind ∙ literal_kind (s.held (record { name = x; subscripts = [] })) k h;
    no_function = constant_no_function us x c;
  }
  bare x k false c h =
      let m = named_so x 0 k h.0 in
      record { scalar = no_dimension x m.many; kind = m.kind; no_function = variable_no_function us x m.variable }

  -- ---- a name with a list

  pub record IsList (x : List ℕ) (n : ℕ) (k : Kind) (ps : Subscripts) : Type 0 where
    pub kind : list_has_kind us x (suc n) k ≡ true
    pub subscripts : AreSubscripts ds ps
    pub right : IsRightUse us (use77_of x (Valued (suc n)))

  pub element : (x : List ℕ) (n : ℕ) (k : Kind) (ps : Subscripts) → is_array_name us x ≡ true → number_of_subscripts ps ≡ suc n → HasKind ds (Named x ps) k → IsList x n k ps
  element x n k ps a e h =
      let m = named_so x (number_of_subscripts ps) k h.0 in
      let t = ap (λ b. cond b (suc n == dimensions_of_name us x) (is_some (function_named x))) a ∙ equal (suc n) (dimensions_of_name us x) (sym e ∙ m.many) in
      record {
        kind = or_left (is_array_name us x && same_kind (kind_of_name us x) k) (is_function us x && takes_so_many (function_named x) (suc n) && same_kind Integer k)
            (both_true (is_array_name us x) (same_kind (kind_of_name us x) k) a (same (kind_of_name us x) k m.kind));
        subscripts = h.1;
        right = record { suits = ap not t; shown = no_call us x (suc n) (variable_no_function us x m.variable) };
      }

  call : (x : List ℕ) (n : ℕ) (k : Kind) (ps : Subscripts) (f : Option Fun) → function_named x ≡ f → AreSource ps → is_array_name us x ≡ false → (is_array_name us x || is_function us x) ≡ true
      → number_of_subscripts (resolved_subscripts us s ps) ≡ suc n → HasKind ds (call_of f x (resolved_subscripts us s ps)) k → IsList x n k (resolved_subscripts us s ps)
  call x n k ps None e q a l m h =
      let d = named_so x (number_of_subscripts (resolved_subscripts us s ps)) k h.0 in
      let z = no_array us x a (variable_no_constant us x d.variable) in
      let y = d.many in
      absurd (omega (arith, m, y, z))
  call x n k ps (Some f) e q a l m h =
      let is = sym (ap (λ b. b || is_function us x) a) ∙ l in
      let takes = ap (λ o. takes_so_many o (suc n)) e ∙ ap (suits_number f) (sym (as_many_arguments (resolved_subscripts us s ps) ∙ m)) ∙ h.0 in
      let t = ap (λ b. cond b (suc n == dimensions_of_name us x) (is_some (function_named x))) a ∙ ap (λ (o : Option Fun). is_some o) e in
      let v = no_variable (name_of_function f) h.1 in
      record {
        kind = or_right (is_array_name us x && same_kind (kind_of_name us x) k) (is_function us x && takes_so_many (function_named x) (suc n) && same_kind Integer k)
            (both_true (is_function us x && takes_so_many (function_named x) (suc n)) (same_kind Integer k) (both_true (is_function us x) (takes_so_many (function_named x) (suc n)) is takes) (same Integer k (sym h.2)));
        subscripts = arguments_suit ps q h.3;
        right = record {
          suits = ap not t;
          shown = and_false (is_function us x) (is_hidden_name us x (function_named x)) (ap (is_hidden_name us x) e ∙ and_false (not (bytes_eq x (name_of_function f))) (is_variable us (name_of_function f)) v);
        };
      }

  list : (x : List ℕ) (n : ℕ) (k : Kind) (ps : Subscripts) (b : Bool) → is_array_name us x ≡ b → AreSource ps → (is_array_name us x || is_function us x) ≡ true
      → number_of_subscripts (resolved_subscripts us s ps) ≡ suc n → HasKind ds (element_or_call b x (resolved_subscripts us s ps)) k → IsList x n k (resolved_subscripts us s ps)
  list x n k ps true a q l m h = element x n k (resolved_subscripts us s ps) a m h
  list x n k ps false a q l m h = call x n k ps (function_named x) refl q a l m h

  -- ---- expressions

  pub record AreInText (ps : Subscripts) : Type 0 where
    pub kind : are_subscripts us ps ≡ true
    pub uses : AllByRecursion (IsRightUse us) (uses77_in_subscripts ps)

  record IsInText (p : Subscript) : Type 0 where
    kind : is_subscript us p ≡ true
    uses : AllByRecursion (IsRightUse us) (uses77_in_subscript p)

  mutual
    pub in_text : (e : Expression) (k : Kind) → IsSource e → AllByRecursion (IsArrayOrFunction us) (uses77_in e) → HasKind ds (resolved us s e) k → HasKindInText us e k
    in_text (Number n) k h u g = record { kind = same Integer k (sym g.1); uses = tt }
    in_text (Logic b) k h u g = record { kind = same Logical k (sym g); uses = tt }
    in_text (Named x no_subscripts) k h u g =
        let m = bare x k (is_constant_name us x) refl g in
        record {
          kind = both_true (name_has_kind us x 0 k) true (both_true (not (is_array_name us x)) (same_kind (kind_of_name us x) k) (ap not m.scalar) (same (kind_of_name us x) k m.kind)) refl;
          uses = (record { suits = refl; shown = no_call us x 0 m.no_function }, tt);
        }
    in_text (Named x (subscript p ps)) k h u g =
        let m = list x (number_of_subscripts ps) k (subscript p ps) (is_array_name us x) refl h.1 (u.0 (ap (λ n. has_list (Valued n)) (one-add (number_of_subscripts ps)))) (as_many us s ds knows (subscript p ps) ∙ one-add (number_of_subscripts ps)) g in
        let r = are_in_text (subscript p ps) h.1 u.1 m.subscripts in
        record {
          kind = both_true (name_has_kind us x (1 + number_of_subscripts ps) k) (are_subscripts us (subscript p ps)) (ap (λ n. name_has_kind us x n k) (one-add (number_of_subscripts ps)) ∙ m.kind) r.kind;
          uses = (subst (λ (n : ℕ). IsRightUse us (use77_of x (Valued n))) (sym (one-add (number_of_subscripts ps))) m.right, r.uses);
        }
    in_text (Unary o a) k h u g =
        let r = in_text a (operand_kind o) h.1 u g.2 in
        record {
          kind = both_true (is_unary o && same_kind (result_kind_of o) k) (has_kind us a (operand_kind o)) (both_true (is_unary o) (same_kind (result_kind_of o) k) g.0 (same (result_kind_of o) k (sym g.1))) r.kind;
          uses = r.uses;
        }
    in_text (Binary o a b) k h u g =
        let r = in_text a (operand_kind o) h.1 (all_left (IsArrayOrFunction us) (uses77_in a) (uses77_in b) u) g.2 in
        let t = in_text b (operand_kind o) h.2 (all_right (IsArrayOrFunction us) (uses77_in a) (uses77_in b) u) g.3 in
        record {
          kind = both_true (not (is_unary o) && same_kind (result_kind_of o) k && has_kind us a (operand_kind o)) (has_kind us b (operand_kind o))
              (both_true (not (is_unary o) && same_kind (result_kind_of o) k) (has_kind us a (operand_kind o)) (both_true (not (is_unary o)) (same_kind (result_kind_of o) k) g.0 (same (result_kind_of o) k (sym g.1))) r.kind) t.kind;
          uses = all_both (IsRightUse us) (uses77_in a) (uses77_in b) r.uses t.uses;
        }
    in_text e k h u g = absurd h

    pub are_in_text : (ps : Subscripts) → AreSource ps → AllByRecursion (IsArrayOrFunction us) (uses77_in_subscripts ps) → AreSubscripts ds (resolved_subscripts us s ps) → AreInText ps
    are_in_text no_subscripts h u g = record { kind = refl; uses = tt }
    are_in_text (subscript p ps) h u g =
        let r = is_in_text p h.0 (all_left (IsArrayOrFunction us) (uses77_in_subscript p) (uses77_in_subscripts ps) u) g.0 in
        let t = are_in_text ps h.1 (all_right (IsArrayOrFunction us) (uses77_in_subscript p) (uses77_in_subscripts ps) u) g.1 in
        record { kind = both_true (is_subscript us p) (are_subscripts us ps) r.kind t.kind; uses = all_both (IsRightUse us) (uses77_in_subscript p) (uses77_in_subscripts ps) r.uses t.uses }

    is_in_text : (p : Subscript) → IsSourceSubscript p → AllByRecursion (IsArrayOrFunction us) (uses77_in_subscript p) → IsSubscript ds (resolved_subscript us s p) → IsInText p
    is_in_text (Only e) h u g = let r = in_text e Integer h u g in record { kind = r.kind; uses = r.uses }
    is_in_text p h u g = absurd h

  -- ---- both ways

  pub one_rule : (e : Expression) (k : Kind) → IsSource e → AllByRecursion (Contains us) (uses77_in e) → HasKindInText us e k ↔ HasKindInTree us s ds e k
  one_rule e k h c = (
    λ t. record { kind = kinds us s ds knows e k h (good us (uses77_in e) c t.uses) t.kind; lists = lists us e k h t.kind },
    λ t. in_text e k h t.lists t.kind,
  )
