-- Kinds suit in a statement of a text where they suit in what the tree has of it.
use Rattle.std.proofs.Common.{◌≡◌, ◌⊎◌, ◌↔◌, inl, inr, ℕ, suc, ◌+◌, one-add, Bool, true, false, not, ◌&&◌, IsSomeAnd, Option, Some, None, List, ◌∷◌, ◌++◌, refl, sym, ap, subst, ◌∙◌, arith, Contains}
use Rattle.std.specs.List.{AllByRecursion}
use Rattle.std.proofs.lemmas.Bool.{or_cases}
use Rattle.tree.specs.declared.ops.Kind.{Kind}
use Rattle.tree.specs.declared.ops.Kind.TheVariants.{Integer, Logical}
use Rattle.tree.specs.declared.functions.Fun.{Fun}
use Rattle.tree.specs.Functions.{function_named}
use Rattle.tree.specs.Plain.{Expression, Number, Logic, Named, Unary, Binary, Subscript, Subscripts, no_subscripts, subscript, Item, Single, Constant, ImpliedDo, Items, no_items, item, Declaration, block}
use Rattle.meaning.specs.Store.{Store}
use Rattle.meaning.specs.Typed77.{number_of_subscripts, declared, HasKind, IsWhole, IsDoVariable, IsDeclared, IsOutput, IsInput, IsOutputItem, AreOutputItems, IsInputItem, AreInputItems}
use Rattle.meaning.specs.Profile77.{IsBlock, Surroundings}
use Rattle.f77_grammar.specs.declared.directions.Direction.{Direction}
use Rattle.f77_grammar.specs.declared.directions.Direction.TheVariants.{Output, Input}
use Rattle.f77_grammar.specs.Statement77.{Statement77, Program, ImplicitNone, Declare, Dimension, Constants, Assign, Go, Test, If, ElseIf, Else, EndIf, Do, EndDo, Continue, Stop, Read, Print, End}
use Rattle.f77_grammar.specs.expressions.Printing.{IsSource}
use Rattle.f77_grammar.specs.program.Text.{action, is_declaration}
use Rattle.f77_grammar.specs.program.Uses.{Valued, Target, Counter, Use77, use77_of, uses77_in, uses77_in_subscripts, target_uses, control_uses, input_uses, value_uses, uses_in_item, uses_in_items, uses77_of, is_constant_name, is_variable, is_array_name, is_function, kind_of_name, dimensions_of_name}
use Rattle.f77_grammar.specs.program.Declarations.{suits_list}
use Rattle.f77_grammar.specs.program.Kinds.{has_kind, has_some_kind, are_subscripts, is_stored_into, suits_output, suits_input, are_numbers, suits_value, suits_item, suits_items, suits, is_hidden_name}
use Rattle.f77_grammar.specs.program.DoVariables.{misuses_variable}
use Rattle.f77_grammar.specs.program.Tree.{call_of, element_or_call, value_or_name, resolved, resolved_subscripts, resolved_input, resolved_item, resolved_items, simple, target}
use Rattle.f77_laws.specs.Source.{IsShallow, IsSourceVariable, IsSourceValue, IsSourceItem, AreSourceItems, IsSourceAction, IsSourceStatement}
use Rattle.f77_laws.proofs.Lists.{left_true, right_true, both_false, or_right, affirmed, all_left, all_right, all_both}
use Rattle.f77_laws.proofs.NameKinds.{Knows, IsDeclaredAs, IsGood, AreGood, no_array, as_many}
use Rattle.f77_laws.proofs.Actions.{IsWithin, do_variable, whole, whole_parameters, action_holds}
use Rattle.f77_laws.specs.kinds.OneRule.{IsRightUse, IsArrayOrFunction}
use Rattle.f77_laws.specs.kinds.StatementRule.{alone, SuitsInText, SuitsInTree, IsPlaced}
use Rattle.f77_laws.proofs.kinds.Dimensions.{HaveDimensions}
use Rattle.f77_laws.proofs.kinds.OneRule as rule
use Rattle.f77_laws.proofs.kinds.OneRule.{both_true, or_left, variable_no_function, constant_no_function, variable_no_constant, good, named_so, no_dimension, element, are_in_text}

module _ (us : List Use77) (s : Store) (ds : List Declaration) (known : Knows us s ds) (some : HaveDimensions us) where
  abbrev AreLists : List Use77 → Type 0
  AreLists vs = AllByRecursion (IsArrayOrFunction us) vs

  abbrev AreRight : List Use77 → Type 0
  AreRight vs = AllByRecursion (IsRightUse us) vs

  -- ---- names of variables

  declared_so : (x : List ℕ) → IsDeclared ds x → is_variable us x ≡ true
  declared_so x h = by (is_variable us x) refl
    where
      by : (b : Bool) → is_variable us x ≡ b → is_variable us x ≡ true
      by true e = e
      by false e = absurd (subst (λ (o : Option Declaration). IsSomeAnd o (λ d. Unit {0})) (known.other x e) h)

  bare_right : (x : List ℕ) → is_function us x ≡ false → IsRightUse us (use77_of x (Valued 0))
  bare_right x f = record { suits = refl; shown = ap (λ b. b && is_hidden_name us x (function_named x)) f }

  counter_right : (x : List ℕ) → is_variable us x ≡ true → IsRightUse us (use77_of x Counter)
  counter_right x v = record { suits = refl; shown = ap (λ b. b && is_hidden_name us x (function_named x)) (variable_no_function us x v) }

  target_right : (x : List ℕ) (n : ℕ) → suits_list us x n ≡ true → is_variable us x ≡ true → IsRightUse us (use77_of x (Target n))
  target_right x n l v = record {
    suits = both_false (not (suits_list us x n)) (is_constant_name us x) (ap not l) (variable_no_constant us x v);
    shown = ap (λ b. b && is_hidden_name us x (function_named x)) (variable_no_function us x v);
  }

  -- an element
  record IsElement (x : List ℕ) (k : Kind) (ps : Subscripts) : Type 0 where
    array : is_array_name us x ≡ true
    kind : kind_of_name us x ≡ k
    subscripts : are_subscripts us ps ≡ true
    uses : AreRight (target_uses x ps)

  element_of : (x : List ℕ) (k : Kind) (p : Subscript) (ps : Subscripts) → IsSource (Named x (subscript p ps)) → AreLists (uses77_in_subscripts (subscript p ps)) → HasKind ds (Named x (resolved_subscripts us s (subscript p ps))) k
      → IsElement x k (subscript p ps)
  element_of x k p ps h u g =
      let count = as_many us s ds known (subscript p ps) ∙ one-add (number_of_subscripts ps) in
      let m = named_so us s ds known some x (number_of_subscripts (resolved_subscripts us s (subscript p ps))) k g.0 in
      let a = by (is_array_name us x) refl (variable_no_constant us x m.variable) count m.many in
      let l = element us s ds known some x (number_of_subscripts ps) k (resolved_subscripts us s (subscript p ps)) a count g in
      let r = are_in_text us s ds known some (subscript p ps) h.1 u l.subscripts in
      record {
        array = a;
        kind = m.kind;
        subscripts = r.kind;
        uses = (subst (λ (n : ℕ). IsRightUse us (use77_of x (Target n))) (sym (one-add (number_of_subscripts ps))) (target_right x (suc (number_of_subscripts ps)) (affirmed (suits_list us x (suc (number_of_subscripts ps))) l.right.suits) m.variable), r.uses);
      }
    where
      by : (b : Bool) → is_array_name us x ≡ b → is_constant_name us x ≡ false → number_of_subscripts (resolved_subscripts us s (subscript p ps)) ≡ suc (number_of_subscripts ps) → number_of_subscripts (resolved_subscripts us s (subscript p ps)) ≡ dimensions_of_name us x → is_array_name us x ≡ true
      by true a c e m = a
      by false a c e m = absurd (let z = no_array us x a c in omega (arith, e, m, z))

  -- ---- output lists

  record IsShown (e : Expression) : Type 0 where
    kind : suits_output us e ≡ true
    uses : AreRight (uses77_in e)

  record HasSome (e : Expression) : Type 0 where
    kind : has_some_kind us e ≡ true
    uses : AreRight (uses77_in e)

  some_kind : (e : Expression) → IsSource e → AreLists (uses77_in e) → HasKind ds (resolved us s e) Integer ⊎ HasKind ds (resolved us s e) Logical → HasSome e
  some_kind e h u (inl g) = let r = rule.in_text us s ds known some e Integer h u g in record { kind = or_left (has_kind us e Integer) (has_kind us e Logical) r.kind; uses = r.uses }
  some_kind e h u (inr g) = let r = rule.in_text us s ds known some e Logical h u g in record { kind = or_right (has_kind us e Integer) (has_kind us e Logical) r.kind; uses = r.uses }

  no_function : (x : List ℕ) (b : Bool) → is_constant_name us x ≡ b → IsOutput ds (value_or_name b x s) → is_function us x ≡ false
  no_function x true c h = constant_no_function us x c
  no_function x false c h = variable_no_function us x (declared_so x h)

  call_kind : (x : List ℕ) (f : Option Fun) (p : Subscript) (ps : Subscripts) → IsOutput ds (call_of f x (subscript p ps)) → HasKind ds (call_of f x (subscript p ps)) Integer ⊎ HasKind ds (call_of f x (subscript p ps)) Logical
  call_kind x None p ps h = h
  call_kind x (Some f) p ps h = h

  list_kind : (x : List ℕ) (b : Bool) (p : Subscript) (ps : Subscripts) → IsOutput ds (element_or_call b x (subscript p ps))
      → HasKind ds (element_or_call b x (subscript p ps)) Integer ⊎ HasKind ds (element_or_call b x (subscript p ps)) Logical
  list_kind x true p ps h = h
  list_kind x false p ps h = call_kind x (function_named x) p ps h

  shown : (e : Expression) → HasSome e → suits_output us e ≡ has_some_kind us e → IsShown e
  shown e h g = record { kind = g ∙ h.kind; uses = h.uses }

  output_expression : (e : Expression) → IsSource e → AreLists (uses77_in e) → IsOutput ds (resolved us s e) → IsShown e
  output_expression (Number n) h u g = shown (Number n) (some_kind (Number n) h u g) refl
  output_expression (Logic b) h u g = shown (Logic b) (some_kind (Logic b) h u g) refl
  output_expression (Named x no_subscripts) h u g = record { kind = refl; uses = (bare_right x (no_function x (is_constant_name us x) refl g), tt) }
  output_expression (Named x (subscript p ps)) h u g = shown (Named x (subscript p ps)) (some_kind (Named x (subscript p ps)) h u (list_kind x (is_array_name us x) _ _ g)) refl
  output_expression (Unary o a) h u g = shown (Unary o a) (some_kind (Unary o a) h u g) refl
  output_expression (Binary o a b) h u g = shown (Binary o a b) (some_kind (Binary o a b) h u g) refl
  output_expression e h u g = absurd h

  -- ---- DO variables with their parameters

  record IsControl (x : List ℕ) (a b c : Expression) : Type 0 where
    kinds : are_numbers us a b c ≡ true
    uses : AreRight (control_uses x a b c)

  control : (x : List ℕ) (vs : List (List ℕ)) (a b c : Expression) → IsSource a → IsSource b → IsSource c → AreLists (control_uses x a b c) → IsDoVariable ds x vs
      → HasKind ds (resolved us s a) Integer → HasKind ds (resolved us s b) Integer → HasKind ds (resolved us s c) Integer → IsControl x a b c
  control x vs a b c h k l u v f g m =
      let front = all_left (IsArrayOrFunction us) (uses77_in a ++ uses77_in b) (uses77_in c) u.1 in
      let p = rule.in_text us s ds known some a Integer h (all_left (IsArrayOrFunction us) (uses77_in a) (uses77_in b) front) f in
      let q = rule.in_text us s ds known some b Integer k (all_right (IsArrayOrFunction us) (uses77_in a) (uses77_in b) front) g in
      let r = rule.in_text us s ds known some c Integer l (all_right (IsArrayOrFunction us) (uses77_in a ++ uses77_in b) (uses77_in c) u.1) m in
      let integer = v.integer in
      let n = named_so us s ds known some x 0 Integer integer.0 in
      record {
        kinds = both_true (has_kind us a Integer && has_kind us b Integer) (has_kind us c Integer) (both_true (has_kind us a Integer) (has_kind us b Integer) p.kind q.kind) r.kind;
        uses = (counter_right x n.variable, all_both (IsRightUse us) (uses77_in a ++ uses77_in b) (uses77_in c) (all_both (IsRightUse us) (uses77_in a) (uses77_in b) p.uses q.uses) r.uses);
      }

  record IsItemInText (d : Direction) (i : Item) : Type 0 where
    kind : suits_item us d i ≡ true
    uses : AreRight (uses_in_item d i)

  record AreItemsInText (d : Direction) (is : Items) : Type 0 where
    kind : suits_items us d is ≡ true
    uses : AreRight (uses_in_items d is)

  mutual
    output_item : (i : Item) (vs : List (List ℕ)) → IsSourceItem Output i → AreLists (uses_in_item Output i) → IsOutputItem ds (resolved_item us s Output i) vs → IsItemInText Output i
    output_item (Single e) vs h u g = let r = output_expression e h u g in record { kind = r.kind; uses = r.uses }
    output_item (Constant t) vs h u g = record { kind = refl; uses = tt }
    output_item (ImpliedDo is x a b c) vs h u g =
        let r = output_items is (x ∷ vs) h.5 (all_left (IsArrayOrFunction us) (uses_in_items Output is) (control_uses x a b c) u) g.5 in
        let p = control x vs a b c h.2 h.3 h.4 (all_right (IsArrayOrFunction us) (uses_in_items Output is) (control_uses x a b c) u) g.1 g.2 g.3 g.4 in
        record { kind = both_true (suits_items us Output is) (are_numbers us a b c) r.kind p.kinds; uses = all_both (IsRightUse us) (uses_in_items Output is) (control_uses x a b c) r.uses p.uses }

    output_items : (is : Items) (vs : List (List ℕ)) → AreSourceItems Output is → AreLists (uses_in_items Output is) → AreOutputItems ds (resolved_items us s Output is) vs → AreItemsInText Output is
    output_items no_items vs h u g = record { kind = refl; uses = tt }
    output_items (item i is) vs h u g =
        let r = output_item i vs h.0 (all_left (IsArrayOrFunction us) (uses_in_item Output i) (uses_in_items Output is) u) g.0 in
        let p = output_items is vs h.1 (all_right (IsArrayOrFunction us) (uses_in_item Output i) (uses_in_items Output is) u) g.1 in
        record { kind = both_true (suits_item us Output i) (suits_items us Output is) r.kind p.kind; uses = all_both (IsRightUse us) (uses_in_item Output i) (uses_in_items Output is) r.uses p.uses }

  -- ---- input lists

  record IsInputInText (e : Expression) : Type 0 where
    kind : suits_input us e ≡ true
    uses : AreRight (input_uses e)

  stored : (x : List ℕ) (p : Subscript) (ps : Subscripts) (k : Kind) → IsElement x k (subscript p ps) → IsInputInText (Named x (subscript p ps))
  stored x p ps k e = record { kind = both_true (is_array_name us x) (are_subscripts us (subscript p ps)) e.array e.subscripts; uses = e.uses }

  input_expression : (e : Expression) (vs : List (List ℕ)) → IsSourceVariable e → AreLists (input_uses e) → IsInput ds (resolved_input us s e) vs → IsInputInText e
  input_expression (Named x no_subscripts) vs h u g = record { kind = refl; uses = (target_right x 0 refl (declared_so x g.0), tt) }
  input_expression (Named x (subscript p ps)) vs h u g = by g.0
    where
      by : HasKind ds (Named x (resolved_subscripts us s (subscript p ps))) Integer ⊎ HasKind ds (Named x (resolved_subscripts us s (subscript p ps))) Logical → IsInputInText (Named x (subscript p ps))
      by (inl k) = stored x p ps Integer (element_of x Integer p ps h u.1 k)
      by (inr k) = stored x p ps Logical (element_of x Logical p ps h u.1 k)
  input_expression e vs h u g = absurd h

  mutual
    input_item : (i : Item) (vs : List (List ℕ)) → IsSourceItem Input i → AreLists (uses_in_item Input i) → IsInputItem ds (resolved_item us s Input i) vs → IsItemInText Input i
    input_item (Single e) vs h u g = let r = input_expression e vs h u g in record { kind = r.kind; uses = r.uses }
    input_item (Constant t) vs h u g = absurd h
    input_item (ImpliedDo is x a b c) vs h u g =
        let r = input_items is (x ∷ vs) h.5 (all_left (IsArrayOrFunction us) (uses_in_items Input is) (control_uses x a b c) u) g.5 in
        let p = control x vs a b c h.2 h.3 h.4 (all_right (IsArrayOrFunction us) (uses_in_items Input is) (control_uses x a b c) u) g.1 g.2 g.3 g.4 in
        record { kind = both_true (suits_items us Input is) (are_numbers us a b c) r.kind p.kinds; uses = all_both (IsRightUse us) (uses_in_items Input is) (control_uses x a b c) r.uses p.uses }

    input_items : (is : Items) (vs : List (List ℕ)) → AreSourceItems Input is → AreLists (uses_in_items Input is) → AreInputItems ds (resolved_items us s Input is) vs → AreItemsInText Input is
    input_items no_items vs h u g = record { kind = refl; uses = tt }
    input_items (item i is) vs h u g =
        let r = input_item i vs h.0 (all_left (IsArrayOrFunction us) (uses_in_item Input i) (uses_in_items Input is) u) g.0 in
        let p = input_items is vs h.1 (all_right (IsArrayOrFunction us) (uses_in_item Input i) (uses_in_items Input is) u) g.1 in
        record { kind = both_true (suits_item us Input i) (suits_items us Input is) r.kind p.kind; uses = all_both (IsRightUse us) (uses_in_item Input i) (uses_in_items Input is) r.uses p.uses }

  -- ---- assignments

  record AreSides (x : List ℕ) (ps : Subscripts) (e : Expression) : Type 0 where
    variable : is_variable us x ≡ true
    left : HasKind ds (Named x ps) (kind_of_name us x)
    right : HasKind ds e (kind_of_name us x)

  abbrev AreWhole : List ℕ → Subscripts → Expression → Declaration → Type 0
  AreWhole x ps e d = IsWhole ds (Named x ps) d.kind × IsWhole ds e d.kind

  sides : (x : List ℕ) (ps : Subscripts) (e : Expression) → IsSomeAnd (declared ds x) (AreWhole x ps e) → AreSides x ps e
  sides x ps e h = by (is_variable us x) refl
    where
      of_variable : is_variable us x ≡ true → IsDeclaredAs us ds x → AreSides x ps e
      of_variable v d =
          let f : AreWhole x ps e d.it = subst (λ (o : Option Declaration). IsSomeAnd o (AreWhole x ps e)) d.is h in
          let g : IsWhole ds (Named x ps) (kind_of_name us x) × IsWhole ds e (kind_of_name us x) = subst (λ (k : Kind). IsWhole ds (Named x ps) k × IsWhole ds e k) d.kind f in
          record { variable = v; left = g.0.suits; right = g.1.suits }

      by : (b : Bool) → is_variable us x ≡ b → AreSides x ps e
      by true f = of_variable f (known.variable x f)
      by false f = absurd (subst (λ (o : Option Declaration). IsSomeAnd o (AreWhole x ps e)) (known.other x f) h)

  record AreAssigned (x : List ℕ) (ps : Subscripts) (e : Expression) : Type 0 where
    kinds : (is_stored_into us x (number_of_subscripts ps) && are_subscripts us ps && has_kind us e (kind_of_name us x)) ≡ true
    uses : AreRight (target_uses x ps ++ uses77_in e)

  assigned : (x : List ℕ) (ps : Subscripts) (e : Expression) → IsSource (Named x ps) → IsSource e → AreLists (target_uses x ps ++ uses77_in e) → AreSides x (resolved_subscripts us s ps) (resolved us s e) → AreAssigned x ps e
  assigned x no_subscripts e h k u g =
      let m = named_so us s ds known some x 0 (kind_of_name us x) g.left.0 in
      let r = rule.in_text us s ds known some e (kind_of_name us x) k u.1 g.right in
      record {
        kinds = both_true (not (is_array_name us x) && true) (has_kind us e (kind_of_name us x)) (both_true (not (is_array_name us x)) true (ap not (no_dimension us s ds known some x m.many)) refl) r.kind;
        uses = (target_right x 0 refl g.variable, r.uses);
      }
  assigned x (subscript p ps) e h k u g =
      let m = element_of x (kind_of_name us x) p ps h (all_left (IsArrayOrFunction us) (uses77_in_subscripts (subscript p ps)) (uses77_in e) u.1) g.left in
      let r = rule.in_text us s ds known some e (kind_of_name us x) k (all_right (IsArrayOrFunction us) (uses77_in_subscripts (subscript p ps)) (uses77_in e) u.1) g.right in
      record {
        kinds = both_true (is_stored_into us x (1 + number_of_subscripts ps) && are_subscripts us (subscript p ps)) (has_kind us e (kind_of_name us x))
            (both_true (is_stored_into us x (1 + number_of_subscripts ps)) (are_subscripts us (subscript p ps)) (ap (is_stored_into us x) (one-add (number_of_subscripts ps)) ∙ m.array) m.subscripts) r.kind;
        uses = all_both (IsRightUse us) (target_uses x (subscript p ps)) (uses77_in e) m.uses r.uses;
      }

  -- ---- statements, from the tree

  action_in_text : (line : ℕ) (c : Statement77) (w : Surroundings) → IsSourceAction c → AreLists (uses77_of c) → IsBlock ds (block (simple us s line c)) w → SuitsInText us c
  action_in_text line (Assign left e) w h u g =
      let a = g.0.2 in
      let r = assigned left.name left.subscripts e h.0.0 h.1.0 u (sides left.name (resolved_subscripts us s left.subscripts) (resolved us s e) a.0) in
      record { kinds = r.kinds; uses = r.uses }
  action_in_text line (Go n) w h u g = record { kinds = refl; uses = tt }
  action_in_text line Continue w h u g = record { kinds = refl; uses = tt }
  action_in_text line Stop w h u g = record { kinds = refl; uses = tt }
  action_in_text line (Read is) w h u g = let r = input_items is w.variables h.0 u g.0.1 in record { kinds = r.kind; uses = r.uses }
  action_in_text line (Print is) w h u g = let r = output_items is w.variables h.0 u g.0.1 in record { kinds = r.kind; uses = r.uses }
  action_in_text line (Program x) w h u g = absurd h
  action_in_text line ImplicitNone w h u g = absurd h
  action_in_text line (Declare k es) w h u g = absurd h
  action_in_text line (Dimension es) w h u g = absurd h
  action_in_text line (Constants cs) w h u g = absurd h
  action_in_text line (Test c t) w h u g = absurd h
  action_in_text line (If c) w h u g = absurd h
  action_in_text line (ElseIf c) w h u g = absurd h
  action_in_text line Else w h u g = absurd h
  action_in_text line EndIf w h u g = absurd h
  action_in_text line (Do n x b c d) w h u g = absurd h
  action_in_text line EndDo w h u g = absurd h
  action_in_text line End w h u g = absurd h

  condition : (c : Expression) → IsShallow c → AreLists (uses77_in c) → IsWhole ds (resolved us s c) Logical → (has_kind us c Logical ≡ true) × AreRight (uses77_in c)
  condition c h u g = let r = rule.in_text us s ds known some c Logical h.0 u g.suits in (r.kind, r.uses)

  in_statement : (line : ℕ) (c : Statement77) (w : Surroundings) → IsSourceStatement c → is_declaration c ≡ false → AreLists (uses77_of c) → IsBlock ds (block (alone us s line c)) w → SuitsInText us c
  in_statement line (Program x) w h n u g = record { kinds = refl; uses = (record { suits = refl; shown = refl }, tt) }
  in_statement line (Declare k es) w h n u g = absurd cc
  in_statement line (Dimension es) w h n u g = absurd cc
  in_statement line (Constants cs) w h n u g = absurd cc
  in_statement line (Test c t) w h n u g =
      let arms = g.0.2 in
      let r = condition c h.0 (all_left (IsArrayOrFunction us) (uses77_in c) (uses77_of t) u) arms.0 in
      let p = action_in_text line t w h.1 (all_right (IsArrayOrFunction us) (uses77_in c) (uses77_of t) u) arms.1 in
      record { kinds = both_true (has_kind us c Logical) (suits us t) r.0 p.kinds; uses = all_both (IsRightUse us) (uses77_in c) (uses77_of t) r.1 p.uses }
  in_statement line (If c) w h n u g = let arms = g.0.2 in let r = condition c h u arms.0 in record { kinds = r.0; uses = r.1 }
  in_statement line (ElseIf c) w h n u g = let arms = g.0.2 in let r = condition c h u arms.0 in record { kinds = r.0; uses = r.1 }
  in_statement line (Do n x a b c) w h e u g =
      let own = g.0 in
      let r = control x w.variables a b c h.2.0 h.3.0 h.4.0 u own.1 own.2.suits own.3.suits own.4.suits in
      record { kinds = r.kinds; uses = r.uses }
  in_statement line Else w h n u g = record { kinds = refl; uses = tt }
  in_statement line EndIf w h n u g = record { kinds = refl; uses = tt }
  in_statement line EndDo w h n u g = record { kinds = refl; uses = tt }
  in_statement line ImplicitNone w h n u g = record { kinds = refl; uses = tt }
  in_statement line End w h n u g = record { kinds = refl; uses = tt }
  in_statement line (Assign left e) w h n u g = action_in_text line (Assign left e) w h u g
  in_statement line (Go m) w h n u g = action_in_text line (Go m) w h u g
  in_statement line Continue w h n u g = action_in_text line Continue w h u g
  in_statement line Stop w h n u g = action_in_text line Stop w h u g
  in_statement line (Read is) w h n u g = action_in_text line (Read is) w h u g
  in_statement line (Print is) w h n u g = action_in_text line (Print is) w h u g

-- ---- statements, from the text: what stands with a list is an array or a function

module _ (us : List Use77) where
  abbrev AreListed : List Use77 → Type 0
  AreListed vs = AllByRecursion (IsArrayOrFunction us) vs

  some_lists : (e : Expression) → IsSource e → has_some_kind us e ≡ true → AreListed (uses77_in e)
  some_lists e h g = by (or_cases (has_kind us e Integer) (has_kind us e Logical) g)
    where
      by : (has_kind us e Integer ≡ true) ⊎ (has_kind us e Logical ≡ true) → AreListed (uses77_in e)
      by (inl k) = rule.lists us e Integer h k
      by (inr k) = rule.lists us e Logical h k

  output_lists : (e : Expression) → IsSource e → suits_output us e ≡ true → AreListed (uses77_in e)
  output_lists (Number n) h g = tt
  output_lists (Logic b) h g = tt
  output_lists (Named x no_subscripts) h g = (λ l. absurd cc, tt)
  output_lists (Named x (subscript p ps)) h g = some_lists (Named x (subscript p ps)) h g
  output_lists (Unary o a) h g = some_lists (Unary o a) h g
  output_lists (Binary o a b) h g = some_lists (Binary o a b) h g
  output_lists e h g = absurd h

  control_lists : (x : List ℕ) (a b c : Expression) → IsSource a → IsSource b → IsSource c → are_numbers us a b c ≡ true → AreListed (control_uses x a b c)
  control_lists x a b c h k l g =
      let front = left_true (has_kind us a Integer && has_kind us b Integer) (has_kind us c Integer) g in (
        λ l. absurd cc,
        all_both (IsArrayOrFunction us) (uses77_in a ++ uses77_in b) (uses77_in c)
            (all_both (IsArrayOrFunction us) (uses77_in a) (uses77_in b) (rule.lists us a Integer h (left_true (has_kind us a Integer) (has_kind us b Integer) front)) (rule.lists us b Integer k (right_true (has_kind us a Integer) (has_kind us b Integer) front)))
            (rule.lists us c Integer l (right_true (has_kind us a Integer && has_kind us b Integer) (has_kind us c Integer) g)),
      )

  target_lists : (x : List ℕ) (ps : Subscripts) → IsSource (Named x ps) → is_stored_into us x (number_of_subscripts ps) ≡ true → are_subscripts us ps ≡ true → AreListed (target_uses x ps)
  target_lists x no_subscripts h a g = (λ l. absurd cc, tt)
  target_lists x (subscript p ps) h a g = (
    λ l. or_left (is_array_name us x) (is_function us x) (sym (ap (is_stored_into us x) (one-add (number_of_subscripts ps))) ∙ a),
    rule.lists_in us (subscript p ps) h.1 g,
  )

  input_lists : (e : Expression) → IsSourceVariable e → suits_input us e ≡ true → AreListed (input_uses e)
  input_lists (Named x no_subscripts) h g = (λ l. absurd cc, tt)
  input_lists (Named x (subscript p ps)) h g =
      target_lists x (subscript p ps) h (ap (is_stored_into us x) (one-add (number_of_subscripts ps)) ∙ left_true (is_array_name us x) (are_subscripts us (subscript p ps)) g) (right_true (is_array_name us x) (are_subscripts us (subscript p ps)) g)
  input_lists e h g = absurd h

  value_lists : (d : Direction) (e : Expression) → IsSourceValue d e → suits_value us d e ≡ true → AreListed (value_uses d e)
  value_lists Output e h g = output_lists e h g
  value_lists Input e h g = input_lists e h g

  mutual
    item_lists : (d : Direction) (i : Item) → IsSourceItem d i → suits_item us d i ≡ true → AreListed (uses_in_item d i)
    item_lists d (Single e) h g = value_lists d e h g
    item_lists d (Constant t) h g = tt
    item_lists d (ImpliedDo is x a b c) h g =
        all_both (IsArrayOrFunction us) (uses_in_items d is) (control_uses x a b c)
        (items_lists d is h.5 (left_true (suits_items us d is) (are_numbers us a b c) g)) (control_lists x a b c h.2 h.3 h.4 (right_true (suits_items us d is) (are_numbers us a b c) g))

    items_lists : (d : Direction) (is : Items) → AreSourceItems d is → suits_items us d is ≡ true → AreListed (uses_in_items d is)
    items_lists d no_items h g = tt
    items_lists d (item i is) h g =
        all_both (IsArrayOrFunction us) (uses_in_item d i) (uses_in_items d is)
        (item_lists d i h.0 (left_true (suits_item us d i) (suits_items us d is) g)) (items_lists d is h.1 (right_true (suits_item us d i) (suits_items us d is) g))

  action_lists : (c : Statement77) → IsSourceAction c → suits us c ≡ true → AreListed (uses77_of c)
  action_lists (Assign left e) h g =
      let front = left_true (is_stored_into us left.name (number_of_subscripts left.subscripts) && are_subscripts us left.subscripts) (has_kind us e (kind_of_name us left.name)) g in
      all_both (IsArrayOrFunction us) (target_uses left.name left.subscripts) (uses77_in e)
      (target_lists left.name left.subscripts h.0.0 (left_true (is_stored_into us left.name (number_of_subscripts left.subscripts)) (are_subscripts us left.subscripts) front) (right_true (is_stored_into us left.name (number_of_subscripts left.subscripts)) (are_subscripts us left.subscripts) front))
      (rule.lists us e (kind_of_name us left.name) h.1.0 (right_true (is_stored_into us left.name (number_of_subscripts left.subscripts) && are_subscripts us left.subscripts) (has_kind us e (kind_of_name us left.name)) g))
  action_lists (Go n) h g = tt
  action_lists Continue h g = tt
  action_lists Stop h g = tt
  action_lists (Read is) h g = items_lists Input is h.0 g
  action_lists (Print is) h g = items_lists Output is h.0 g
  action_lists (Program x) h g = absurd h
  action_lists ImplicitNone h g = absurd h
  action_lists (Declare k es) h g = absurd h
  action_lists (Dimension es) h g = absurd h
  action_lists (Constants cs) h g = absurd h
  action_lists (Test c t) h g = absurd h
  action_lists (If c) h g = absurd h
  action_lists (ElseIf c) h g = absurd h
  action_lists Else h g = absurd h
  action_lists EndIf h g = absurd h
  action_lists (Do n x b c d) h g = absurd h
  action_lists EndDo h g = absurd h
  action_lists End h g = absurd h

  statement_lists : (c : Statement77) → IsSourceStatement c → is_declaration c ≡ false → suits us c ≡ true → AreListed (uses77_of c)
  statement_lists (Program x) h n g = (λ l. absurd cc, tt)
  statement_lists (Declare k es) h n g = absurd cc
  statement_lists (Dimension es) h n g = absurd cc
  statement_lists (Constants cs) h n g = absurd cc
  statement_lists (Test c t) h n g =
      all_both (IsArrayOrFunction us) (uses77_in c) (uses77_of t) (rule.lists us c Logical h.0.0 (left_true (has_kind us c Logical) (suits us t) g)) (action_lists t h.1 (right_true (has_kind us c Logical) (suits us t) g))
  statement_lists (If c) h n g = rule.lists us c Logical h.0 g
  statement_lists (ElseIf c) h n g = rule.lists us c Logical h.0 g
  statement_lists (Do m x a b c) h n g = control_lists x a b c h.2.0 h.3.0 h.4.0 g
  statement_lists Else h n g = tt
  statement_lists EndIf h n g = tt
  statement_lists EndDo h n g = tt
  statement_lists ImplicitNone h n g = tt
  statement_lists End h n g = tt
  statement_lists (Assign left e) h n g = action_lists (Assign left e) h g
  statement_lists (Go m) h n g = tt
  statement_lists Continue h n g = tt
  statement_lists Stop h n g = tt
  statement_lists (Read is) h n g = action_lists (Read is) h g
  statement_lists (Print is) h n g = action_lists (Print is) h g

-- an action is not a logical IF
own_action : (c : Statement77) → IsSourceAction c → action c ≡ c
own_action (Test c t) h = absurd h
own_action c h = refl

module _ (us : List Use77) (s : Store) (ds : List Declaration) (known : Knows us s ds) (some : HaveDimensions us) where
  within : (w : Surroundings) → AllByRecursion (λ x. is_array_name us x ≡ false) w.variables → IsWithin us s ds known w.variables w.variables
  within w h = record { inside = λ x c. c; scalars = h }

  in_tree : (line : ℕ) (c : Statement77) (w : Surroundings) → IsPlaced us c line w → IsSourceStatement c → is_declaration c ≡ false → AreGood us (uses77_of c) → suits us c ≡ true → IsBlock ds (block (alone us s line c)) w
  in_tree line (Program x) w p h n u g = tt
  in_tree line (Declare k es) w p h n u g = absurd cc
  in_tree line (Dimension es) w p h n u g = absurd cc
  in_tree line (Constants cs) w p h n u g = absurd cc
  in_tree line (Test c t) w p h n u g =
      let own = own_action t h.1 in (
        (
          p.numbered,
          refl,
          (
            whole us s ds known c Logical h.0 (all_left (IsGood us) (uses77_in c) (uses77_of t) u) (left_true (has_kind us c Logical) (suits us t) g),
            action_holds us s ds known line t w w.variables (within w p.scalars) p.numbered h.1 (all_right (IsGood us) (uses77_in c) (uses77_of t) u) (right_true (has_kind us c Logical) (suits us t) g)
                (sym (ap (λ e. misuses_variable us e w.variables) own) ∙ p.variables) (subst (λ (e : Statement77). AllByRecursion (Contains w.ahead) (target e)) own p.ahead),
            tt,
          ),
          tt,
        ),
        tt,
      )
  in_tree line (If c) w p h n u g = ((p.numbered, refl, (whole us s ds known c Logical h u g, tt, tt), tt), tt)
  in_tree line (ElseIf c) w p h n u g = ((p.numbered, refl, (whole us s ds known c Logical h u g, tt, tt), tt), tt)
  in_tree line (Do m x a b c) w p h n u g =
      let q = whole_parameters us s ds known x a b c h.2 h.3 h.4 u g in
      ((p.numbered, do_variable us s ds known x w.variables w.variables (within w p.scalars) p.variables, q.first, q.last, q.step, tt), tt)
  in_tree line Else w p h n u g = tt
  in_tree line EndIf w p h n u g = tt
  in_tree line EndDo w p h n u g = tt
  in_tree line ImplicitNone w p h n u g = tt
  in_tree line End w p h n u g = tt
  in_tree line (Assign left e) w p h n u g = action_holds us s ds known line (Assign left e) w w.variables (within w p.scalars) p.numbered h u g p.variables p.ahead
  in_tree line (Go m) w p h n u g = action_holds us s ds known line (Go m) w w.variables (within w p.scalars) p.numbered h u g p.variables p.ahead
  in_tree line Continue w p h n u g = tt
  in_tree line Stop w p h n u g = (p.numbered, tt)
  in_tree line (Read is) w p h n u g = action_holds us s ds known line (Read is) w w.variables (within w p.scalars) p.numbered h u g p.variables p.ahead
  in_tree line (Print is) w p h n u g = action_holds us s ds known line (Print is) w w.variables (within w p.scalars) p.numbered h u g p.variables p.ahead

  pub one_rule : (line : ℕ) (c : Statement77) (w : Surroundings) → IsPlaced us c line w → IsSourceStatement c → is_declaration c ≡ false → AllByRecursion (Contains us) (uses77_of c) → SuitsInText us c ↔ SuitsInTree us s ds c line w
  one_rule line c w p h n among = (
    λ t. record { kinds = in_tree line c w p h n (good us (uses77_of c) among t.uses) t.kinds; lists = statement_lists us c h n t.kinds },
    λ t. in_statement us s ds known some line c w h n t.lists t.kinds,
  )
