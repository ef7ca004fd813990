-- The names that stand in a block of Fortran 90's profile are declared.
use Rattle.std.proofs.Common.{inl, inr, ℕ, Option, Some, None, List, ◌∷◌, ◌++◌, Contains}
use Rattle.std.specs.List.{AllByRecursion}
use Rattle.std.specs.Option.{IsSomeAnd}
use Rattle.tree.specs.Plain.{Expression, Number, Logic, Named, Unary, Binary, Apply, Constructor, Spread, Transpose}
use Rattle.tree.specs.Plain.{Reshape, Reduce, Expressions, no_expressions, expression, Subscript, Only, Section}
use Rattle.tree.specs.Plain.{Subscripts, no_subscripts, subscript, Loops, no_loops, loop, Item, Single, Constant}
use Rattle.tree.specs.Plain.{ImpliedDo, Items, no_items, item, Statement, Assignment, Where, If, Do, Label, GoTo}
use Rattle.tree.specs.Plain.{Stop, Read, Print, Allocate, Deallocate, Arms, no_arms, arm, Block, no_statements}
use Rattle.tree.specs.Plain.{statement, Declaration}
use Rattle.tree.specs.declared.ops.Kind.{Kind}
use Rattle.tree.specs.declared.ops.Kind.TheVariants.{Integer, Logical}
use Rattle.meaning.specs.Reads.{names_in_block}
use Rattle.meaning.specs.Reads.{names_in_item, names_in_items, names_in_statement, names_in_arms}
use Rattle.meaning.specs.Blocks.{Surroundings, within_loop, before_labels, labels_of}
use Rattle.meaning.specs.Profile90.{IsWhole, IsStatement, AreArms, IsBlock}
use Rattle.meaning.specs.Reads.{names_in, names_in_each, names_in_subscripts, names_in_subscript, names_in_loops}
use Rattle.meaning.specs.Typed.{declared}
use Rattle.meaning.specs.Typed90.{HasKind, AreArguments, AreScalars, AreSubscripts, IsSubscript, AreLoops}
use Rattle.meaning.specs.Typed90.{IsDoVariable, HasSomeKind}
use Rattle.meaning.specs.Items90.{IsInput, IsOutputItem, AreOutputItems, IsInputItem}
use Rattle.meaning.specs.Items90.{AreInputItems}
use Rattle.meaning_laws.proofs.dialects.NamesIn.{among}
use Rattle.meaning_laws.proofs.profiles.Names.{names}
use Rattle.translation.proofs.ProgramTranslation.Lists.{joined}

module _ (ds : List Declaration) where
  abbrev Known : List (List ℕ) → Type 0
  Known xs = AllByRecursion (Contains (names ds)) xs

  both : (xs ys : List (List ℕ)) → Known xs → Known ys → Known (xs ++ ys)
  both = joined (Contains (names ds))

  three : (xs ys zs : List (List ℕ)) → Known xs → Known ys → Known zs → Known (xs ++ ys ++ zs)
  three xs ys zs h k l = both (xs ++ ys) zs (both xs ys h k) l

  -- ---- expressions

  mutual
    expression_known : (e : Expression) (k : Kind) → HasKind ds e k → Known (names_in e)
    expression_known (Number n) k h = tt
    expression_known (Logic b) k h = tt
    expression_known (Named x ps) k h = (among ds x _ h.0, subscripts_known ps h.1)
    expression_known (Unary o a) k h = expression_known a _ h.2
    expression_known (Binary o a b) k h = both (names_in a) (names_in b) (expression_known a _ h.2) (expression_known b _ h.3)
    expression_known (Apply f es) k h = arguments_known es h.3
    expression_known (Constructor es ls) k h = both (names_in_each es) (names_in_loops ls) (scalars_known es k h.0) (loops_known ls h.2)
    expression_known (Spread a n e) k h = both (names_in a) (names_in e) (expression_known a k h.4) (expression_known e Integer h.5)
    expression_known (Transpose a) k h = expression_known a k h.2
    expression_known (Reshape a es) k h = both (names_in a) (names_in_each es) (expression_known a k h.4) (scalars_known es Integer h.5)
    expression_known (Reduce r a) k h = expression_known a Integer h.3

    arguments_known : (es : Expressions) → AreArguments ds es → Known (names_in_each es)
    arguments_known no_expressions h = tt
    arguments_known (expression e es) h = both (names_in e) (names_in_each es) (expression_known e Integer h.0) (arguments_known es h.2)

    scalars_known : (es : Expressions) (k : Kind) → AreScalars ds es k → Known (names_in_each es)
    scalars_known no_expressions k h = tt
    scalars_known (expression e es) k h = both (names_in e) (names_in_each es) (expression_known e k h.0.0) (scalars_known es k h.1)

    subscripts_known : (ps : Subscripts) → AreSubscripts ds ps → Known (names_in_subscripts ps)
    subscripts_known no_subscripts h = tt
    subscripts_known (subscript p ps) h = both (names_in_subscript p) (names_in_subscripts ps) (subscript_known p h.0) (subscripts_known ps h.1)

    subscript_known : (p : Subscript) → IsSubscript ds p → Known (names_in_subscript p)
    subscript_known (Only e) h = expression_known e Integer h.0
    subscript_known (Section a b c) h =
        three (names_in a) (names_in b) (names_in c) (expression_known a Integer h.0.0) (expression_known b Integer h.1.0) (expression_known c Integer h.2.0)

    loops_known : (ls : Loops) → AreLoops ds ls → Known (names_in_loops ls)
    loops_known no_loops h = tt
    loops_known (loop x a b ls) h = (
      among ds x _ h.0,
      three (names_in a) (names_in b) (names_in_loops ls) (expression_known a Integer h.1.0) (expression_known b Integer h.2.0) (loops_known ls h.3),
    )

  some_known : (e : Expression) → HasSomeKind ds e → Known (names_in e)
  some_known e (inl h) = expression_known e Integer h
  some_known e (inr h) = expression_known e Logical h

  -- ---- items

  loop_known : (x : List ℕ) (around : List (List ℕ)) (a b c : Expression) (rest : List (List ℕ))
      → IsDoVariable ds x around → HasKind ds a Integer → HasKind ds b Integer → HasKind ds c Integer → Known rest
      → Known (x ∷ names_in a ++ names_in b ++ names_in c ++ rest)
  loop_known x around a b c rest v ha hb hc h = (
    among ds x _ v.integer,
    both (names_in a ++ names_in b ++ names_in c) rest
        (three (names_in a) (names_in b) (names_in c) (expression_known a Integer ha) (expression_known b Integer hb) (expression_known c Integer hc)) h,
  )

  input_known : (e : Expression) (w : List (List ℕ)) → IsInput ds e w → Known (names_in e)
  input_known (Named x ps) w h = some_known (Named x ps) h.0
  input_known (Number n) w h = absurd h
  input_known (Logic b) w h = absurd h
  input_known (Unary o a) w h = absurd h
  input_known (Binary o a b) w h = absurd h
  input_known (Apply f es) w h = absurd h
  input_known (Constructor es ls) w h = absurd h
  input_known (Spread a n e) w h = absurd h
  input_known (Transpose a) w h = absurd h
  input_known (Reshape a es) w h = absurd h
  input_known (Reduce r a) w h = absurd h

  mutual
    output_item_known : (i : Item) (w : List (List ℕ)) → IsOutputItem ds i w → Known (names_in_item i)
    output_item_known (Single e) w h = some_known e h
    output_item_known (Constant t) w h = tt
    output_item_known (ImpliedDo is x a b c) w h = loop_known x w a b c (names_in_items is) h.1 h.2.0 h.3.0 h.4.0 (output_items_known is (x ∷ w) h.5)

    output_items_known : (is : Items) (w : List (List ℕ)) → AreOutputItems ds is w → Known (names_in_items is)
    output_items_known no_items w h = tt
    output_items_known (item i is) w h = both (names_in_item i) (names_in_items is) (output_item_known i w h.0) (output_items_known is w h.1)

  mutual
    input_item_known : (i : Item) (w : List (List ℕ)) → IsInputItem ds i w → Known (names_in_item i)
    input_item_known (Single e) w h = input_known e w h
    input_item_known (Constant t) w h = absurd h
    input_item_known (ImpliedDo is x a b c) w h = loop_known x w a b c (names_in_items is) h.1 h.2.0 h.3.0 h.4.0 (input_items_known is (x ∷ w) h.5)

    input_items_known : (is : Items) (w : List (List ℕ)) → AreInputItems ds is w → Known (names_in_items is)
    input_items_known no_items w h = tt
    input_items_known (item i is) w h = both (names_in_item i) (names_in_items is) (input_item_known i w h.0) (input_items_known is w h.1)

  -- ---- statements

  record AreAssigned (x : List ℕ) (ps : Subscripts) (right : Expression) : Type 0 where
    variable : Contains (names ds) x
    selected : Known (names_in_subscripts ps)
    given : Known (names_in right)

  assigned : (x : List ℕ) (ps : Subscripts) (right : Expression) → IsSomeAnd (declared ds x) (λ d. IsWhole ds (Named x ps) d.kind × IsWhole ds right d.kind) → AreAssigned x ps right
  assigned x ps right h = by (declared ds x) h (among ds x _ h)
    where
      by : (o : Option Declaration) → IsSomeAnd o (λ d. IsWhole ds (Named x ps) d.kind × IsWhole ds right d.kind) → Contains (names ds) x → AreAssigned x ps right
      by None g c = absurd g
      by (Some d) g c = record { variable = c; selected = subscripts_known ps g.0.suits.1; given = expression_known right d.kind g.1.suits }

  mutual
    statement_known : (c : Statement) (w : Surroundings) → IsStatement ds c w → Known (names_in_statement c)
    statement_known (Assignment line m left right) w h =
        let a = assigned left.name left.subscripts right h.1.0 in
        (a.variable, both (names_in_subscripts left.subscripts) (names_in right) a.selected a.given)
    statement_known (Where line m mask left right) w h =
        let a = assigned left.name left.subscripts right h.2.0 in
        (a.variable, three (names_in mask) (names_in_subscripts left.subscripts) (names_in right) (expression_known mask Logical h.1.0.suits) a.selected a.given)
    statement_known (If line arms other) w h = both (names_in_arms arms) (names_in_block other) (arms_known arms w h.2) (block_known other w h.3)
    statement_known (Do line x a b c body) w h =
        loop_known x w.variables a b c (names_in_block body) h.1 h.2.suits.0 h.3.suits.0 h.4.suits.0 (block_known body (within_loop x w) h.5)
    statement_known (Label n) w h = tt
    statement_known (GoTo line n) w h = tt
    statement_known (Stop line) w h = tt
    statement_known (Read line is) w h = input_items_known is w.variables h.1
    statement_known (Print line is) w h = output_items_known is w.variables h.1
    statement_known (Allocate line x es) w h = (among ds x _ h.1.0, scalars_known es Integer h.1.1)
    statement_known (Deallocate line x) w h = (among ds x _ h.1, tt)

    arms_known : (arms : Arms) (w : Surroundings) → AreArms ds arms w → Known (names_in_arms arms)
    arms_known no_arms w h = tt
    arms_known (arm test body more) w h =
        three (names_in test) (names_in_block body) (names_in_arms more) (expression_known test Logical h.0.suits.0) (block_known body w h.1) (arms_known more w h.2)

    pub block_known : (b : Block) (w : Surroundings) → IsBlock ds b w → Known (names_in_block b)
    block_known no_statements w h = tt
    block_known (statement c cs) w h = both (names_in_statement c) (names_in_block cs) (statement_known c (before_labels (labels_of cs) w) h.0) (block_known cs w h.1)
