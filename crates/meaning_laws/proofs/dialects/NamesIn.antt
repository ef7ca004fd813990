-- The names that stand in a program of FORTRAN 77 are declared.
use Rattle.std.proofs.Common.{◌≡◌, ◌⊎◌, inl, inr, ℕ, Bool, true, false, cond, Option, Some, None, List, [], ◌∷◌, ◌++◌, map, refl, subst, Contains}
use Rattle.std.proofs.lemmas.Slice.Eq.{bytes_eq-Decides}
use Rattle.std.specs.List.{AllByRecursion}
use Rattle.std.specs.Option.{IsSomeAnd}
use Rattle.std.specs.Str.{bytes_eq}
use Rattle.tree.specs.Plain.{Expression, Number, Logic, Named, Unary, Binary, Apply, Constructor, Spread, Transpose, Reshape, Reduce, Expressions, no_expressions, expression, Subscript, Only, Section, Subscripts, no_subscripts, subscript, Item, Single, Constant, ImpliedDo, Items, no_items, item, Statement, Assignment, Where, If, Do, Label, GoTo, Stop, Read, Print, Allocate, Deallocate, Arms, no_arms, arm, Block, no_statements, statement, Declaration}
use Rattle.tree.specs.declared.ops.Kind.{Kind}
use Rattle.tree.specs.declared.ops.Kind.TheVariants.{Integer, Logical}
use Rattle.meaning.specs.Reads.{names_in_item, names_in_items, names_in_statement, names_in_arms, names_in_block}
use Rattle.meaning.specs.Blocks.{Surroundings, within_loop, before_labels, labels_of}
use Rattle.meaning.specs.Profile77.{IsStatement, AreArms, IsBlock}
use Rattle.meaning.specs.Reads.{names_in, names_in_each, names_in_subscripts, names_in_subscript}
use Rattle.meaning.specs.Typed77.{declared, HasKind, AreArguments, AreSubscripts, IsSubscript, IsDoVariable, IsElementOrWhole, IsOutput, IsInput, IsOutputItem, AreOutputItems, IsInputItem, AreInputItems, IsWhole}
use Rattle.meaning_laws.proofs.profiles.Lists.{here, there}

joined : {A : Type 0} (P : A → Type 0) (xs ys : List A) → AllByRecursion P xs → AllByRecursion P ys → AllByRecursion P (xs ++ ys)
joined P [] ys h k = k
joined P (x ∷ xs) ys h k = (h.0, joined P xs ys h.1 k)

abbrev names : List Declaration → List (List ℕ)
names ds = map (λ (d : Declaration). d.name) ds

pub among : (ds : List Declaration) (x : List ℕ) (Q : Declaration → Type 0) → IsSomeAnd (declared ds x) Q → Contains (names ds) x
among [] x Q h = absurd h
among (d ∷ ds) x Q h = by (bytes_eq d.name x) refl (among ds x Q) h
  where
    by : (b : Bool) → bytes_eq d.name x ≡ b → (IsSomeAnd (declared ds x) Q → Contains (names ds) x) → IsSomeAnd (cond b (Some d) (declared ds x)) Q → Contains (names (d ∷ ds)) x
    by true e more h = subst (Contains (names (d ∷ ds))) ((bytes_eq-Decides d.name x).0 e) (here d.name (names ds))
    by false e more h = there d.name (names ds) x (more h)

module _ (ds : List Declaration) where
  abbrev Known : List (List ℕ) → Type 0
  Known xs = AllByRecursion (Contains (names ds)) xs

  both : (xs ys : List (List ℕ)) → Known xs → Known ys → Known (xs ++ ys)
  both = joined (Contains (names ds))

  mutual
    pub expression_known : (e : Expression) (k : Kind) → HasKind ds e k → Known (names_in e)
    expression_known (Number n) k h = tt
    expression_known (Logic b) k h = tt
    expression_known (Named x ps) k h = (among ds x _ h.0, subscripts_known ps h.1)
    expression_known (Unary o a) k h = expression_known a _ h.2
    expression_known (Binary o a b) k h = both (names_in a) (names_in b) (expression_known a _ h.2) (expression_known b _ h.3)
    expression_known (Apply f es) k h = arguments_known es h.3
    expression_known (Constructor es ls) k h = absurd h
    expression_known (Spread a n e) k h = absurd h
    expression_known (Transpose a) k h = absurd h
    expression_known (Reshape a es) k h = absurd h
    expression_known (Reduce r a) k h = absurd h

    arguments_known : (es : Expressions) → AreArguments ds es → Known (names_in_each es)
    arguments_known no_expressions h = tt
    arguments_known (expression e es) h = both (names_in e) (names_in_each es) (expression_known e _ h.0) (arguments_known es h.1)

    subscripts_known : (ps : Subscripts) → AreSubscripts ds ps → Known (names_in_subscripts ps)
    subscripts_known no_subscripts h = tt
    subscripts_known (subscript p ps) h = both (names_in_subscript p) (names_in_subscripts ps) (subscript_known p h.0) (subscripts_known ps h.1)

    subscript_known : (p : Subscript) → IsSubscript ds p → Known (names_in_subscript p)
    subscript_known (Only e) h = expression_known e _ h
    subscript_known (Section a b c) h = absurd h

  either_known : (e : Expression) → HasKind ds e Integer ⊎ HasKind ds e Logical → Known (names_in e)
  either_known e (inl h) = expression_known e Integer h
  either_known e (inr h) = expression_known e Logical h

  name_known : (x : List ℕ) (ps : Subscripts) → IsElementOrWhole ds x ps → Known (names_in (Named x ps))
  name_known x no_subscripts h = (among ds x _ h, tt)
  name_known x (subscript p ps) h = either_known (Named x (subscript p ps)) h

  output_known : (e : Expression) → IsOutput ds e → Known (names_in e)
  output_known (Named x ps) h = name_known x ps h
  output_known (Number n) h = either_known (Number n) h
  output_known (Logic b) h = either_known (Logic b) h
  output_known (Unary o a) h = either_known (Unary o a) h
  output_known (Binary o a b) h = either_known (Binary o a b) h
  output_known (Apply f es) h = either_known (Apply f es) h
  output_known (Constructor es ls) h = either_known (Constructor es ls) h
  output_known (Spread a n e) h = either_known (Spread a n e) h
  output_known (Transpose a) h = either_known (Transpose a) h
  output_known (Reshape a es) h = either_known (Reshape a es) h
  output_known (Reduce r a) h = either_known (Reduce r a) h

  input_known : (e : Expression) (w : List (List ℕ)) → IsInput ds e w → Known (names_in e)
  input_known (Named x ps) w h = name_known x ps h.0
  input_known (Number n) w h = absurd h
  input_known (Logic b) w h = absurd h
  input_known (Unary o a) w h = absurd h
  input_known (Binary o a b) w h = absurd h
  input_known (Apply f es) w h = absurd h
  input_known (Constructor es ls) w h = absurd h
  input_known (Spread a n e) w h = absurd h
  input_known (Transpose a) w h = absurd h
  input_known (Reshape a es) w h = absurd h
  input_known (Reduce r a) w h = absurd h

  loop_known : (x : List ℕ) (around : List (List ℕ)) (a b c : Expression) (rest : List (List ℕ)) → IsDoVariable ds x around → HasKind ds a Integer → HasKind ds b Integer → HasKind ds c Integer → Known rest
      → Known (x ∷ names_in a ++ names_in b ++ names_in c ++ rest)
  loop_known x around a b c rest v ha hb hc h = (
    among ds x _ v.integer.0,
    both (names_in a ++ names_in b ++ names_in c) rest (both (names_in a ++ names_in b) (names_in c) (both (names_in a) (names_in b) (expression_known a _ ha) (expression_known b _ hb)) (expression_known c _ hc)) h,
  )

  mutual
    output_item_known : (i : Item) (w : List (List ℕ)) → IsOutputItem ds i w → Known (names_in_item i)
    output_item_known (Single e) w h = output_known e h
    output_item_known (Constant t) w h = tt
    output_item_known (ImpliedDo is x a b c) w h = loop_known x w a b c (names_in_items is) h.1 h.2 h.3 h.4 (output_items_known is (x ∷ w) h.5)

    output_items_known : (is : Items) (w : List (List ℕ)) → AreOutputItems ds is w → Known (names_in_items is)
    output_items_known no_items w h = tt
    output_items_known (item i is) w h = both (names_in_item i) (names_in_items is) (output_item_known i w h.0) (output_items_known is w h.1)

  mutual
    input_item_known : (i : Item) (w : List (List ℕ)) → IsInputItem ds i w → Known (names_in_item i)
    input_item_known (Single e) w h = input_known e w h
    input_item_known (Constant t) w h = absurd h
    input_item_known (ImpliedDo is x a b c) w h = loop_known x w a b c (names_in_items is) h.1 h.2 h.3 h.4 (input_items_known is (x ∷ w) h.5)

    input_items_known : (is : Items) (w : List (List ℕ)) → AreInputItems ds is w → Known (names_in_items is)
    input_items_known no_items w h = tt
    input_items_known (item i is) w h = both (names_in_item i) (names_in_items is) (input_item_known i w h.0) (input_items_known is w h.1)

  assignment_known : (x : List ℕ) (ps : Subscripts) (right : Expression) (o : Option Declaration) → IsSomeAnd o (λ d. IsWhole ds (Named x ps) d.kind × IsWhole ds right d.kind) → Known (x ∷ names_in_subscripts ps ++ names_in right)
  assignment_known x ps right None h = absurd h
  assignment_known x ps right (Some d) h = (among ds x _ h.0.suits.0, both (names_in_subscripts ps) (names_in right) (subscripts_known ps h.0.suits.1) (expression_known right d.kind h.1.suits))

  mutual
    pub statement_known : (c : Statement) (w : Surroundings) → IsStatement ds c w → Known (names_in_statement c)
    statement_known (Assignment line m left right) w h = assignment_known left.name left.subscripts right (declared ds left.name) h.2.0
    statement_known (If line arms other) w h = both (names_in_arms arms) (names_in_block other) (arms_known arms w h.2) (block_known other w h.3)
    statement_known (Do line x a b c body) w h = loop_known x w.variables a b c (names_in_block body) h.1 h.2.suits h.3.suits h.4.suits (block_known body (within_loop x w) h.5)
    statement_known (Label n) w h = tt
    statement_known (GoTo line n) w h = tt
    statement_known (Stop line) w h = tt
    statement_known (Read line is) w h = input_items_known is w.variables h.1
    statement_known (Print line is) w h = output_items_known is w.variables h.1
    statement_known (Where line m k left right) w h = absurd h
    statement_known (Allocate line x es) w h = absurd h
    statement_known (Deallocate line x) w h = absurd h

    arms_known : (arms : Arms) (w : Surroundings) → AreArms ds arms w → Known (names_in_arms arms)
    arms_known no_arms w h = tt
    arms_known (arm test body more) w h =
        both (names_in test ++ names_in_block body) (names_in_arms more) (both (names_in test) (names_in_block body) (expression_known test _ h.0.suits) (block_known body w h.1)) (arms_known more w h.2)

    pub block_known : (b : Block) (w : Surroundings) → IsBlock ds b w → Known (names_in_block b)
    block_known no_statements w h = tt
    block_known (statement c cs) w h = both (names_in_statement c) (names_in_block cs) (statement_known c (before_labels (labels_of cs) w) h.0) (block_known cs w h.1)
