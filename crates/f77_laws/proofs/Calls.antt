-- The functions that the tree of a text calls are those that its statements call.
use Rattle.std.proofs.Common.{◌≡◌, ◌⊎◌, inl, inr, ℕ, suc, ◌+◌, ◌==◌, one-add, Bool, true, false, not, ◌&&◌, ◌||◌, cond, append_assoc, Option, Some, None, pos, negsuc, List, [], ◌∷◌, ◌++◌, refl, sym, ap, subst, ◌∙◌, flat_map}
use Rattle.std.specs.List.{AllByRecursion, list_any}
use Rattle.std.proofs.lemmas.Bool.{or_cases}
use Rattle.tree.specs.declared.ops.Kind.{Kind}
use Rattle.tree.specs.declared.ops.Kind.TheVariants.{Integer, Logical}
use Rattle.tree.specs.declared.ops.Value.{Value}
use Rattle.tree.specs.declared.ops.Value.TheVariants.{Int, Truth}
use Rattle.tree.specs.declared.functions.Fun.{Fun}
use Rattle.tree.specs.Plain as tree
use Rattle.tree.specs.Plain.{Expression, Number, Logic, Named, Unary, Binary, Subscript, Only, Section, Subscripts, no_subscripts, subscript, Item, Single, Constant, ImpliedDo, Items, no_items, item}
use Rattle.meaning.specs.Store.{Store}
use Rattle.tree.specs.Functions.{function_named, name_of_function}
use Rattle.tree.specs.OperatorTable.{operand_kind, result_kind_of, is_unary}
use Rattle.meaning.specs.Typed77.{number_of_subscripts}
use Rattle.meaning.specs.Calls.{calls_in, calls_in_each, calls_in_subscripts, calls_in_subscript, calls_in_item, calls_in_items, calls_in_statement, calls_in_arms, calls_in_block}
use Rattle.f77_grammar.specs.declared.directions.Direction.{Direction}
use Rattle.f77_grammar.specs.declared.directions.Direction.TheVariants.{Output, Input}
use Rattle.f77_grammar.specs.expressions.Printing.{IsSource, IsSourceSubscript, AreSource}
use Rattle.f77_grammar.specs.Statement77.{Labelled, Statement77, Program, ImplicitNone, Declare, Dimension, Constants, Assign, Go, Test, If, ElseIf, Else, EndIf, Do, EndDo, Continue, Stop, Read, Print, End}
use Rattle.f77_grammar.specs.program.Uses.{Use77, uses77_in, uses77_in_subscripts, uses77_in_subscript, uses_in_item, uses_in_items, input_uses, value_uses, control_uses, uses77_of, is_array_name, is_function, is_constant_name, kind_of_name}
use Rattle.f77_grammar.specs.program.Kinds.{same_kind, has_kind, has_some_kind, takes_so_many, list_has_kind, name_has_kind, are_subscripts, is_subscript, is_stored_into, suits_output, suits_input, are_numbers, suits_value, suits_item, suits_items, suits}
use Rattle.f77_grammar.specs.program.Tree.{literal, arguments77_of, call_of, element_or_call, value_or_name, resolved, resolved_subscripts, resolved_subscript, resolved_input, resolved_value, resolved_item, resolved_items, simple, label_before}
use Rattle.f77_laws.specs.trees.Steps.{Piece, Rest, Outermost, InArm, block_of, up_to, beyond, preceded, loop_in, loop_begun, begun, outermost_block, rest_from}
use Rattle.f77_laws.specs.Source.{IsSourceVariable, IsSourceValue, IsSourceItem, AreSourceItems, IsSourceAction, IsSourceStatement}
use Rattle.f77_laws.proofs.Lists.{left_true, right_true, all_left, all_right, all_both}
use Rattle.f77_laws.proofs.Blocks.{made_appended, all_pieces_are}

-- ---- what holds of each name that is called

module _ (us : List Use77) (s : Store) (P : List ℕ → Type 0) where
  -- it holds of the name that Fortran 90 has for the function, if one is called here
  pub record IsHeard (u : Use77) : Type 0 where
    pub heard : (f : Fun) → is_function us u.name ≡ true → function_named u.name ≡ Some f → P (name_of_function f)

  abbrev pub AreHeard : List Use77 → Type 0
  AreHeard vs = AllByRecursion IsHeard vs

  abbrev All : List (List ℕ) → Type 0
  All names = AllByRecursion P names

  both : (xs ys : List (List ℕ)) → All xs → All ys → All (xs ++ ys)
  both xs ys h g = all_both P xs ys h g

  literal_calls : (v : Value) → All (calls_in (literal v))
  literal_calls (Int (pos n)) = tt
  literal_calls (Int (negsuc n)) = tt
  literal_calls (Truth b) = tt

  bare_calls : (x : List ℕ) (b : Bool) → All (calls_in (value_or_name b x s))
  bare_calls x true = literal_calls (s.held (record { name = x; subscripts = [] }))
  bare_calls x false = tt

  arguments_called : (ps : Subscripts) → All (calls_in_subscripts ps) → All (calls_in_each (arguments77_of ps))
  arguments_called no_subscripts h = tt
  arguments_called (subscript (Only e) ps) h =
      both (calls_in e) (calls_in_each (arguments77_of ps)) (all_left P (calls_in e) (calls_in_subscripts ps) h)
      (arguments_called ps (all_right P (calls_in e) (calls_in_subscripts ps) h))
  arguments_called (subscript (Section a b c) ps) h =
      let k = all_left P (calls_in a ++ calls_in b ++ calls_in c) (calls_in_subscripts ps) h in
      both (calls_in a) (calls_in_each (arguments77_of ps)) (all_left P (calls_in a) (calls_in b) (all_left P (calls_in a ++ calls_in b) (calls_in c) k))
      (arguments_called ps (all_right P (calls_in a ++ calls_in b ++ calls_in c) (calls_in_subscripts ps) h))

  function_called : (x : List ℕ) (f : Option Fun) (ps : Subscripts) → ((g : Fun) → f ≡ Some g → P (name_of_function g)) → All (calls_in_subscripts ps) → All (calls_in (call_of f x ps))
  function_called x None ps h k = k
  function_called x (Some f) ps h k = (h f refl, arguments_called ps k)

  -- a name with a list that is no array is a function
  listed : (x : List ℕ) (n : ℕ) (k : Kind) → list_has_kind us x n k ≡ true → is_array_name us x ≡ false → is_function us x ≡ true
  listed x n k h a = by (is_array_name us x) (same_kind (kind_of_name us x) k) (is_function us x) (takes_so_many (function_named x) n) (same_kind Integer k) h a
    where
      by : (a b c t e : Bool) → ((a && b) || (c && t && e)) ≡ true → a ≡ false → c ≡ true
      by true b c t e h a = absurd cc
      by false b true t e h a = refl
      by false b false t e h a = absurd cc

  list_called : (x : List ℕ) (b : Bool) (qs : Subscripts) → is_array_name us x ≡ b → (is_array_name us x ≡ false → is_function us x ≡ true)
      → ((f : Fun) → is_function us x ≡ true → function_named x ≡ Some f → P (name_of_function f)) → All (calls_in_subscripts qs) → All (calls_in (element_or_call b x qs))
  list_called x true qs a f u k = k
  list_called x false qs a f u k = function_called x (function_named x) qs (λ g e. u g (f a) e) k

  -- ---- expressions

  mutual
    called : (e : Expression) (k : Kind) → IsSource e → AreHeard (uses77_in e) → has_kind us e k ≡ true → All (calls_in (resolved us s e))
    called (Number n) k h u g = tt
    called (Logic b) k h u g = tt
    called (Named x no_subscripts) k h u g = bare_calls x (is_constant_name us x)
    called (Named x (subscript p ps)) k h u g =
        let front = left_true (name_has_kind us x (1 + number_of_subscripts ps) k) (are_subscripts us (subscript p ps)) g in
        let f : list_has_kind us x (suc (number_of_subscripts ps)) k ≡ true = sym (ap (λ m. name_has_kind us x m k) (one-add (number_of_subscripts ps))) ∙ front in
        list_called x (is_array_name us x) (resolved_subscripts us s (subscript p ps)) refl (listed x (suc (number_of_subscripts ps)) k f) u.0.heard
        (subscripts_called (subscript p ps) h.1 u.1 (right_true (name_has_kind us x (1 + number_of_subscripts ps) k) (are_subscripts us (subscript p ps)) g))
    called (Unary o a) k h u g = called a (operand_kind o) h.1 u (right_true (is_unary o && same_kind (result_kind_of o) k) (has_kind us a (operand_kind o)) g)
    called (Binary o a b) k h u g =
        let front = left_true (not (is_unary o) && same_kind (result_kind_of o) k && has_kind us a (operand_kind o)) (has_kind us b (operand_kind o)) g in
        both (calls_in (resolved us s a)) (calls_in (resolved us s b))
        (called a (operand_kind o) h.1 (all_left IsHeard (uses77_in a) (uses77_in b) u) (right_true (not (is_unary o) && same_kind (result_kind_of o) k) (has_kind us a (operand_kind o)) front))
        (called b (operand_kind o) h.2 (all_right IsHeard (uses77_in a) (uses77_in b) u) (right_true (not (is_unary o) && same_kind (result_kind_of o) k && has_kind us a (operand_kind o)) (has_kind us b (operand_kind o)) g))
    called e k h u g = absurd h

    subscripts_called : (ps : Subscripts) → AreSource ps → AreHeard (uses77_in_subscripts ps) → are_subscripts us ps ≡ true → All (calls_in_subscripts (resolved_subscripts us s ps))
    subscripts_called no_subscripts h u g = tt
    subscripts_called (subscript p ps) h u g =
        both (calls_in_subscript (resolved_subscript us s p)) (calls_in_subscripts (resolved_subscripts us s ps))
        (subscript_called p h.0 (all_left IsHeard (uses77_in_subscript p) (uses77_in_subscripts ps) u) (left_true (is_subscript us p) (are_subscripts us ps) g))
        (subscripts_called ps h.1 (all_right IsHeard (uses77_in_subscript p) (uses77_in_subscripts ps) u) (right_true (is_subscript us p) (are_subscripts us ps) g))

    subscript_called : (p : Subscript) → IsSourceSubscript p → AreHeard (uses77_in_subscript p) → is_subscript us p ≡ true → All (calls_in_subscript (resolved_subscript us s p))
    subscript_called (Only e) h u g = called e Integer h u g
    subscript_called p h u g = absurd h

  some_called : (e : Expression) → IsSource e → AreHeard (uses77_in e) → has_some_kind us e ≡ true → All (calls_in (resolved us s e))
  some_called e h u g = by (or_cases (has_kind us e Integer) (has_kind us e Logical) g)
    where
      by : (has_kind us e Integer ≡ true) ⊎ (has_kind us e Logical ≡ true) → All (calls_in (resolved us s e))
      by (inl f) = called e Integer h u f
      by (inr f) = called e Logical h u f

  -- ---- lists

  output_called : (e : Expression) → IsSource e → AreHeard (uses77_in e) → suits_output us e ≡ true → All (calls_in (resolved us s e))
  output_called (Number n) h u g = tt
  output_called (Logic b) h u g = tt
  output_called (Named x no_subscripts) h u g = bare_calls x (is_constant_name us x)
  output_called (Named x (subscript p ps)) h u g = some_called (Named x (subscript p ps)) h u g
  output_called (Unary o a) h u g = some_called (Unary o a) h u g
  output_called (Binary o a b) h u g = some_called (Binary o a b) h u g
  output_called e h u g = absurd h

  input_called : (e : Expression) → IsSourceVariable e → AreHeard (input_uses e) → suits_input us e ≡ true → All (calls_in (resolved_input us s e))
  input_called (Named x no_subscripts) h u g = tt
  input_called (Named x (subscript p ps)) h u g = subscripts_called (subscript p ps) h.1 u.1 (right_true (is_array_name us x) (are_subscripts us (subscript p ps)) g)
  input_called e h u g = absurd h

  -- the parameters of a DO
  parameters_called : (x : List ℕ) (a b c : Expression) → IsSource a → IsSource b → IsSource c → AreHeard (control_uses x a b c) → are_numbers us a b c ≡ true
      → All (calls_in (resolved us s a) ++ calls_in (resolved us s b) ++ calls_in (resolved us s c))
  parameters_called x a b c h k l u g =
      let front = left_true (has_kind us a Integer && has_kind us b Integer) (has_kind us c Integer) g in
      let uses = all_left IsHeard (uses77_in a ++ uses77_in b) (uses77_in c) u.1 in
      both (calls_in (resolved us s a) ++ calls_in (resolved us s b)) (calls_in (resolved us s c))
      (both (calls_in (resolved us s a)) (calls_in (resolved us s b))
      (called a Integer h (all_left IsHeard (uses77_in a) (uses77_in b) uses) (left_true (has_kind us a Integer) (has_kind us b Integer) front))
      (called b Integer k (all_right IsHeard (uses77_in a) (uses77_in b) uses) (right_true (has_kind us a Integer) (has_kind us b Integer) front)))
      (called c Integer l (all_right IsHeard (uses77_in a ++ uses77_in b) (uses77_in c) u.1) (right_true (has_kind us a Integer && has_kind us b Integer) (has_kind us c Integer) g))

  value_called : (d : Direction) (e : Expression) → IsSourceValue d e → AreHeard (value_uses d e) → suits_value us d e ≡ true → All (calls_in (resolved_value us s d e))
  value_called Output e h u g = output_called e h u g
  value_called Input e h u g = input_called e h u g

  mutual
    item_called : (d : Direction) (i : Item) → IsSourceItem d i → AreHeard (uses_in_item d i) → suits_item us d i ≡ true → All (calls_in_item (resolved_item us s d i))
    item_called d (Single e) h u g = value_called d e h u g
    item_called d (Constant t) h u g = tt
    item_called d (ImpliedDo is x a b c) h u g =
        both (calls_in (resolved us s a) ++ calls_in (resolved us s b) ++ calls_in (resolved us s c)) (calls_in_items (resolved_items us s d is))
        (parameters_called x a b c h.2 h.3 h.4 (all_right IsHeard (uses_in_items d is) (control_uses x a b c) u) (right_true (suits_items us d is) (are_numbers us a b c) g))
        (items_called d is h.5 (all_left IsHeard (uses_in_items d is) (control_uses x a b c) u) (left_true (suits_items us d is) (are_numbers us a b c) g))

    items_called : (d : Direction) (is : Items) → AreSourceItems d is → AreHeard (uses_in_items d is) → suits_items us d is ≡ true → All (calls_in_items (resolved_items us s d is))
    items_called d no_items h u g = tt
    items_called d (item i is) h u g =
        both (calls_in_item (resolved_item us s d i)) (calls_in_items (resolved_items us s d is))
        (item_called d i h.0 (all_left IsHeard (uses_in_item d i) (uses_in_items d is) u) (left_true (suits_item us d i) (suits_items us d is) g))
        (items_called d is h.1 (all_right IsHeard (uses_in_item d i) (uses_in_items d is) u) (right_true (suits_item us d i) (suits_items us d is) g))

  -- ---- simple statements

  alone : (xs : List (List ℕ)) → All xs → All (xs ++ [])
  alone xs h = both xs [] h tt

  action_called : (line : ℕ) (c : Statement77) → IsSourceAction c → AreHeard (uses77_of c) → suits us c ≡ true → All (calls_in_block (tree.block (simple us s line c)))
  action_called line (Assign left e) h u g =
      let front = left_true (is_stored_into us left.name (number_of_subscripts left.subscripts) && are_subscripts us left.subscripts) (has_kind us e (kind_of_name us left.name)) g in
      alone (calls_in_subscripts (resolved_subscripts us s left.subscripts) ++ calls_in (resolved us s e))
      (both (calls_in_subscripts (resolved_subscripts us s left.subscripts)) (calls_in (resolved us s e))
      (subscripts_called left.subscripts h.0.0.1 (all_left IsHeard (uses77_in_subscripts left.subscripts) (uses77_in e) u.1) (right_true (is_stored_into us left.name (number_of_subscripts left.subscripts)) (are_subscripts us left.subscripts) front))
      (called e (kind_of_name us left.name) h.1.0 (all_right IsHeard (uses77_in_subscripts left.subscripts) (uses77_in e) u.1)
      (right_true (is_stored_into us left.name (number_of_subscripts left.subscripts) && are_subscripts us left.subscripts) (has_kind us e (kind_of_name us left.name)) g)))
  action_called line (Go n) h u g = tt
  action_called line Continue h u g = tt
  action_called line Stop h u g = tt
  action_called line (Read is) h u g = alone (calls_in_items (resolved_items us s Input is)) (items_called Input is h.0 u g)
  action_called line (Print is) h u g = alone (calls_in_items (resolved_items us s Output is)) (items_called Output is h.0 u g)
  action_called line c h u g = absurd h

  -- ---- blocks

  calls_appended : (cs ds : List tree.Statement) → calls_in_block (tree.block (cs ++ ds)) ≡ calls_in_block (tree.block cs) ++ calls_in_block (tree.block ds)
  calls_appended [] ds = refl
  calls_appended (c ∷ cs) ds = ap (λ xs. calls_in_statement c ++ xs) (calls_appended cs ds) ∙ sym (append_assoc (calls_in_statement c) (calls_in_block (tree.block cs)) (calls_in_block (tree.block ds)))

  block_both : (cs ds : List tree.Statement) → All (calls_in_block (tree.block cs)) → All (calls_in_block (tree.block ds)) → All (calls_in_block (tree.block (cs ++ ds)))
  block_both cs ds h g = subst (λ (xs : List (List ℕ)). All xs) (sym (calls_appended cs ds)) (both (calls_in_block (tree.block cs)) (calls_in_block (tree.block ds)) h g)

  abbrev pieces : List Piece → List tree.Statement
  pieces ps = flat_map (λ (p : Piece). p.made) ps

  split : (n : ℕ) (ps : List Piece) → All (calls_in_block (block_of ps)) → All (calls_in_block (block_of (up_to n ps))) × All (calls_in_block (block_of (beyond n ps)))
  split n ps h =
      let e : calls_in_block (block_of ps) ≡ calls_in_block (block_of (up_to n ps)) ++ calls_in_block (block_of (beyond n ps)) =
      ap (λ qs. calls_in_block (block_of qs)) (sym (all_pieces_are n ps)) ∙ ap (λ cs. calls_in_block (tree.block cs)) (made_appended (up_to n ps) (beyond n ps)) ∙ calls_appended (pieces (up_to n ps)) (pieces (beyond n ps)) in
      let k = subst (λ (xs : List (List ℕ)). All xs) e h in (
        all_left P (calls_in_block (block_of (up_to n ps))) (calls_in_block (block_of (beyond n ps))) k,
        all_right P (calls_in_block (block_of (up_to n ps))) (calls_in_block (block_of (beyond n ps))) k,
      )

  marked : (named : List ℕ) (end : Option ℕ) (cs : List tree.Statement) → All (calls_in_block (tree.block cs)) → All (calls_in_block (tree.block (label_before named end ++ cs)))
  marked named None cs h = h
  marked named (Some n) cs h = by (list_any (λ j. j == n) named)
    where
      by : (b : Bool) → All (calls_in_block (tree.block (cond b (tree.Label n ∷ []) [] ++ cs)))
      by true = h
      by false = h

  abbrev pub AllIn : Rest → Type 0
  AllIn (Outermost ps) = All (calls_in_block (block_of ps))
  AllIn (InArm ps arms other r) = All (calls_in_block (block_of ps)) × All (calls_in_arms arms) × All (calls_in_block other) × AllIn r

  preceded_calls : (p : Piece) (r : Rest) → All (calls_in_block (tree.block p.made)) → AllIn r → AllIn (preceded p r)
  preceded_calls p (Outermost ps) h g = block_both p.made (pieces ps) h g
  preceded_calls p (InArm ps arms other r) h g = (block_both p.made (pieces ps) h g.0, g.1, g.2, g.3)

  -- ---- each statement

  -- its kinds suit, and so do the names that it calls
  pub record IsSaid (c : Statement77) : Type 0 where
    pub source : IsSourceStatement c
    pub suits' : suits us c ≡ true
    pub heard : AreHeard (uses77_of c)

  module _ (named : List ℕ) (x : Labelled) where
    simple_begun : (c : Statement77) (r : Rest) → All (calls_in_block (tree.block (simple us s x.line c))) → AllIn r
        → AllIn (preceded (record { ends = x.label; made = label_before named x.label ++ simple us s x.line c }) r)
    simple_begun c r h g = preceded_calls (record { ends = x.label; made = label_before named x.label ++ simple us s x.line c }) r (marked named x.label (simple us s x.line c) h) g

    loop_calls : (v : List ℕ) (a b c : Expression) (n : ℕ) (ps : List Piece) → All (calls_in a ++ calls_in b ++ calls_in c) → All (calls_in_block (block_of ps))
        → All (calls_in_block (block_of (loop_in (tree.Do x.line v a b c) (label_before named x.label) n ps)))
    loop_calls v a b c n ps h g =
        let k = split n ps g in
        let body = block_of (up_to n ps) in
        block_both (label_before named x.label ++ tree.Do x.line v a b c body ∷ []) (pieces (beyond n ps))
        (marked named x.label (tree.Do x.line v a b c body ∷ []) (alone (calls_in a ++ calls_in b ++ calls_in c ++ calls_in_block body) (both (calls_in a ++ calls_in b ++ calls_in c) (calls_in_block body) h k.0)))
        k.1

    loop_begun_calls : (v : List ℕ) (a b c : Expression) (n : ℕ) (r : Rest) → All (calls_in a ++ calls_in b ++ calls_in c) → AllIn r → AllIn (loop_begun (tree.Do x.line v a b c) (label_before named x.label) n r)
    loop_begun_calls v a b c n (Outermost ps) h g = loop_calls v a b c n ps h g
    loop_begun_calls v a b c n (InArm ps arms other r) h g = (loop_calls v a b c n ps h g.0, g.1, g.2, g.3)

    if_begun_calls : (c : Expression) (r : Rest) → All (calls_in (resolved us s c)) → AllIn r → AllIn (begun us s named x (If c) r)
    if_begun_calls c (Outermost ps) h g = g
    if_begun_calls c (InArm ps arms other r) h g =
        let test = resolved us s c in
        preceded_calls (record { ends = None; made = label_before named x.label ++ tree.If x.line (tree.arm test (block_of ps) arms) other ∷ [] }) r
        (marked named x.label (tree.If x.line (tree.arm test (block_of ps) arms) other ∷ [])
        (alone (calls_in test ++ calls_in_block (block_of ps) ++ calls_in_arms arms ++ calls_in_block other)
        (both (calls_in test ++ calls_in_block (block_of ps) ++ calls_in_arms arms) (calls_in_block other)
        (both (calls_in test ++ calls_in_block (block_of ps)) (calls_in_arms arms) (both (calls_in test) (calls_in_block (block_of ps)) h g.0) g.1) g.2)))
        g.3

    else_calls : (r : Rest) → AllIn r → AllIn (begun us s named x Else r)
    else_calls (Outermost ps) g = g
    else_calls (InArm ps arms other r) g = (tt, g.1, g.0, g.3)

    else_if_calls : (c : Expression) (r : Rest) → All (calls_in (resolved us s c)) → AllIn r → AllIn (begun us s named x (ElseIf c) r)
    else_if_calls c (Outermost ps) h g = g
    else_if_calls c (InArm ps arms other r) h g =
        let test = resolved us s c in
        (tt, both (calls_in test ++ calls_in_block (block_of ps)) (calls_in_arms arms) (both (calls_in test) (calls_in_block (block_of ps)) h g.0) g.1, g.2, g.3)

    test_calls : (c : Expression) (b : Statement77) → IsSaid (Test c b) → All (calls_in_block (tree.block (simple us s x.line (Test c b))))
    test_calls c b k =
        let test = resolved us s c in
        let inner = tree.block (simple us s x.line b) in
        let body = action_called x.line b k.source.1 (all_right IsHeard (uses77_in c) (uses77_of b) k.heard) (right_true (has_kind us c Logical) (suits us b) k.suits') in
        let condition = called c Logical k.source.0.0 (all_left IsHeard (uses77_in c) (uses77_of b) k.heard) (left_true (has_kind us c Logical) (suits us b) k.suits') in
        alone (calls_in test ++ calls_in_block inner ++ [] ++ []) (alone (calls_in test ++ calls_in_block inner ++ []) (alone (calls_in test ++ calls_in_block inner) (both (calls_in test) (calls_in_block inner) condition body)))

    pub begun_calls : (c : Statement77) (r : Rest) → IsSaid c → AllIn r → AllIn (begun us s named x c r)
    begun_calls (If c) r k g = if_begun_calls c r (called c Logical k.source.0 k.heard k.suits') g
    begun_calls EndIf r k g = (tt, tt, tt, g)
    begun_calls Else r k g = else_calls r g
    begun_calls (ElseIf c) r k g = else_if_calls c r (called c Logical k.source.0 k.heard k.suits') g
    begun_calls (Do None v a b c) r k g = simple_begun (Do None v a b c) r tt g
    begun_calls (Do (Some n) v a b c) r k g =
        loop_begun_calls v (resolved us s a) (resolved us s b) (resolved us s c) n r (parameters_called v a b c k.source.2.0 k.source.3.0 k.source.4.0 k.heard k.suits') g
    begun_calls (Test c b) r k g = simple_begun (Test c b) r (test_calls c b k) g
    begun_calls (Assign left e) r k g = simple_begun (Assign left e) r (action_called x.line (Assign left e) k.source k.heard k.suits') g
    begun_calls (Read is) r k g = simple_begun (Read is) r (action_called x.line (Read is) k.source k.heard k.suits') g
    begun_calls (Print is) r k g = simple_begun (Print is) r (action_called x.line (Print is) k.source k.heard k.suits') g
    begun_calls (Go n) r k g = simple_begun (Go n) r tt g
    begun_calls Stop r k g = simple_begun Stop r tt g
    begun_calls Continue r k g = simple_begun Continue r tt g
    begun_calls EndDo r k g = simple_begun EndDo r tt g
    begun_calls ImplicitNone r k g = simple_begun ImplicitNone r tt g
    begun_calls (Program y) r k g = simple_begun (Program y) r tt g
    begun_calls (Declare j es) r k g = simple_begun (Declare j es) r tt g
    begun_calls (Dimension es) r k g = simple_begun (Dimension es) r tt g
    begun_calls (Constants cs) r k g = simple_begun (Constants cs) r tt g
    begun_calls End r k g = simple_begun End r tt g

    -- the program's name calls nothing
    pub title_calls : (y : List ℕ) (r : Rest) → AllIn r → AllIn (begun us s named x (Program y) r)
    title_calls y r g = simple_begun (Program y) r tt g

  pub rest_calls : (named : List ℕ) (xs : List Labelled) → AllByRecursion (λ (x : Labelled). IsSaid x.statement) xs → AllIn (rest_from us s named xs)
  rest_calls named [] k = tt
  rest_calls named (x ∷ xs) k = begun_calls named x x.statement (rest_from us s named xs) k.0 (rest_calls named xs k.1)

  pub outermost_calls : (r : Rest) → AllIn r → All (calls_in_block (outermost_block r))
  outermost_calls (Outermost ps) g = g
  outermost_calls (InArm ps arms other r) g = g.0
