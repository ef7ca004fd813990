-- The names of a prepared nest are declared.
use Rattle.std.proofs.Common.{refl, sym, subst, ◌⊎◌, inl, inr, ℕ, All, List, [], ◌∷◌, ◌++◌, Option, Some, None, IfSome, IsSomeAnd}
use Rattle.std.specs.Prelude.{⊤}
use Rattle.std.proofs.lemmas.List.Elements.{All-cons, All-head, All-nil, All-tail}
use Rattle.tree.specs.Plain.{Declaration, Expression, Number, Logic, Named, Unary, Binary, Apply, Constructor, Spread, Transpose, Reshape, Reduce, Expressions, no_expressions, expression, Subscript, Only, Section, Subscripts, no_subscripts, subscript, Loops, no_loops, loop, Reference}
use Rattle.tree.specs.Plain as tree
use Rattle.tree.specs.declared.ops.Kind.{Kind}
use Rattle.tree.specs.declared.ops.Kind.TheVariants.{Integer, Logical}
use Rattle.meaning.specs.Blocks.{Surroundings, before_labels, labels_of, outermost}
use Rattle.meaning.specs.Profile90.{IsAssignment, IsBlock, IsStatement, IsWhole}
use Rattle.meaning.specs.Reads.{names_in, names_in_each, names_in_loops, names_in_subscript, names_in_subscripts}
use Rattle.meaning.specs.Typed.{declared}
use Rattle.meaning.specs.Typed90.{AreArguments, AreLoops, AreScalars, AreSubscripts, HasKind, IsScalar, IsSubscript}
use Rattle.meaning.specs.Value.{named}
use Rattle.nest.specs.Blocks.{assignment_of, block_of_parts, guarded_statement, numeral, statement_of_part, under_guard}
use Rattle.nest.specs.declared.parts.Trip.{Trip}
use Rattle.nest_order.specs.orders.Lists.{In}
use Rattle.nest_order.proofs.orders.Lists.{In-append}
use Rattle.pass_laws.specs.normal_facts.Laws.{IsCounter}
use Rattle.pass_laws.specs.prepared_nests.After.{AreEndings, IsEnding}
use Rattle.pass_laws.specs.prepared_nests.Loops.{EachLoop, EachLoopIn, IsPreparedLoop, IsPreparedTrip, variables_of_loops}
use Rattle.pass_laws.specs.prepared_nests.Statements.{IsPreparedStatement}
use Rattle.pass_laws.proofs.PreparedNests.Trips.{names_of_trip}
use Rattle.meaning.specs.Reads.{names_in_block, names_in_statement}
use Rattle.nest.specs.Bodies.{statements_in, statements_in_parts}
use Rattle.nest.specs.Plain.{Guarded, Loop, Nest, Part, Run, Turns, Choice, Label, Jump, Parts, no_parts, part}
use Rattle.nest_order.specs.shapes.Shapes.{ArePlain, IsPlain}
use Rattle.pass_laws.specs.prepared_nests.Nests.{IsPrepared, IsPreparedSymbol}
use Rattle.pass_laws.specs.prepared_runs.Running.{loops_then_after}

front : {X : Type 0} (Q : X → Type 0) (xs ys : List X) → All Q (xs ++ ys) → All Q xs
front Q [] ys h = All-nil Q
front Q (x ∷ xs) ys h = All-cons Q x xs (All-head Q x (xs ++ ys) h) (front Q xs ys (All-tail Q x (xs ++ ys) h))

rest : {X : Type 0} (Q : X → Type 0) (xs ys : List X) → All Q (xs ++ ys) → All Q ys
rest Q [] ys h = h
rest Q (x ∷ xs) ys h = rest Q xs ys (All-tail Q x (xs ++ ys) h)

module _ (es : List Declaration) where
  abbrev pub IsDeclared : List ℕ → Type 0
  IsDeclared x = IsSomeAnd (declared es x) (λ (d : Declaration). ⊤)

  abbrev pub Over : List (List ℕ) → Type 0
  Over xs = (x : List ℕ) → In x xs → IsDeclared x

  pub is_there : (o : Option Declaration) (Q : Declaration → Type 0) → IsSomeAnd o Q → IsSomeAnd o (λ (d : Declaration). ⊤)
  is_there None Q h = absurd h
  is_there (Some d) Q h = tt

  over_none : Over []
  over_none x i = absurd i

  over_first : (y : List ℕ) (ys : List (List ℕ)) → IsDeclared y → Over ys → Over (y ∷ ys)
  over_first y ys h k x (inl e) = subst IsDeclared (sym e) h
  over_first y ys h k x (inr i) = k x i

  pub over_both : (xs ys : List (List ℕ)) → Over xs → Over ys → Over (xs ++ ys)
  over_both xs ys h k x i = by (In-append x xs ys i)
    where
      by : In x xs ⊎ In x ys → IsDeclared x
      by (inl i) = h x i
      by (inr i) = k x i

  -- ---- expressions

  mutual
    pub in_kind : (e : Expression) (k : Kind) → HasKind es e k → Over (names_in e)
    in_kind (Number n) k h = over_none
    in_kind (Logic b) k h = over_none
    in_kind (Named y ss) k h = over_first y (names_in_subscripts ss) (is_there (declared es y) _ h.0) (in_selectors ss h.1)
    in_kind (Unary o a) k h = in_kind a _ h.2
    in_kind (Binary o a b) k h = over_both (names_in a) (names_in b) (in_kind a _ h.2) (in_kind b _ h.3)
    in_kind (Apply f vs) k h = in_arguments vs h.3
    in_kind (Constructor vs ls) k h = over_both (names_in_each vs) (names_in_loops ls) (in_scalars vs k h.0) (in_loops ls h.2)
    in_kind (Spread a d n) k h = over_both (names_in a) (names_in n) (in_kind a k h.4) (in_kind n Integer h.5)
    in_kind (Transpose a) k h = in_kind a k h.2
    in_kind (Reshape a vs) k h = over_both (names_in a) (names_in_each vs) (in_kind a k h.4) (in_scalars vs Integer h.5)
    in_kind (Reduce r a) k h = in_kind a Integer h.3

    in_arguments : (vs : Expressions) → AreArguments es vs → Over (names_in_each vs)
    in_arguments no_expressions h = over_none
    in_arguments (expression e vs) h = over_both (names_in e) (names_in_each vs) (in_kind e Integer h.0) (in_arguments vs h.2)

    in_scalars : (vs : Expressions) (k : Kind) → AreScalars es vs k → Over (names_in_each vs)
    in_scalars no_expressions k h = over_none
    in_scalars (expression e vs) k h = over_both (names_in e) (names_in_each vs) (in_kind e k h.0.0) (in_scalars vs k h.1)

    in_selectors : (ss : Subscripts) → AreSubscripts es ss → Over (names_in_subscripts ss)
    in_selectors no_subscripts h = over_none
    in_selectors (subscript p ps) h = over_both (names_in_subscript p) (names_in_subscripts ps) (in_selector p h.0) (in_selectors ps h.1)

    in_selector : (p : Subscript) → IsSubscript es p → Over (names_in_subscript p)
    in_selector (Only e) h = in_kind e Integer h.0
    in_selector (Section a b c) h =
        over_both (names_in a ++ names_in b) (names_in c) (over_both (names_in a) (names_in b) (in_kind a Integer h.0.0) (in_kind b Integer h.1.0)) (in_kind c Integer h.2.0)

    in_loops : (ls : Loops) → AreLoops es ls → Over (names_in_loops ls)
    in_loops no_loops h = over_none
    in_loops (loop x a b ls) h =
        over_first x (names_in a ++ names_in b ++ names_in_loops ls) (is_there (declared es x) _ h.0)
        (over_both (names_in a ++ names_in b) (names_in_loops ls) (over_both (names_in a) (names_in b) (in_kind a Integer h.1.0) (in_kind b Integer h.2.0)) (in_loops ls h.3))

  -- ---- what stands behind the loops

  abbrev Assigns : Reference → Expression → Declaration → Type 0
  Assigns left right d = IsWhole es (named left) d.kind × IsWhole es right d.kind

  in_assignment : (left : Reference) (right : Expression) (w : Surroundings) → IsAssignment es left right w → Over (left.name ∷ (names_in_subscripts left.subscripts ++ names_in right))
  in_assignment left right w h = by (declared es left.name) h.0
    where
      by : (o : Option Declaration) → IsSomeAnd o (Assigns left right) → Over (left.name ∷ (names_in_subscripts left.subscripts ++ names_in right))
      by None g = absurd g
      by (Some d) g = over_both (left.name ∷ names_in_subscripts left.subscripts) (names_in right) (in_kind (named left) d.kind g.0.suits) (in_kind right d.kind g.1.suits)

  mutual
    in_ending : (c : tree.Statement) (w : Surroundings) → IsEnding c → IsStatement es c w → Over (names_in_statement c)
    in_ending (tree.Assignment line m r e) w h s = in_assignment r e w s.1
    in_ending (tree.If line tree.no_arms other) w h s = absurd h.0
    in_ending (tree.If line (tree.arm test body tree.no_arms) tree.no_statements) w h s =
        over_both (names_in test ++ names_in_block body ++ []) [] (over_both (names_in test ++ names_in_block body) []
        (over_both (names_in test) (names_in_block body) (in_kind test Logical s.2.0.suits.0) (in_endings body w h.0.0 s.2.1)) over_none) over_none
    in_ending (tree.If line (tree.arm test body (tree.arm t b more)) other) w h s = absurd h.0.1
    in_ending (tree.If line (tree.arm test body tree.no_arms) (tree.statement c cs)) w h s = absurd h.1
    in_ending (tree.Where line m mask l r) w h s = absurd h
    in_ending (tree.Do line x a b c body) w h s = absurd h
    in_ending (tree.Label k) w h s = absurd h
    in_ending (tree.GoTo line k) w h s = absurd h
    in_ending (tree.Stop line) w h s = absurd h
    in_ending (tree.Read line is) w h s = absurd h
    in_ending (tree.Print line is) w h s = absurd h
    in_ending (tree.Allocate line x vs) w h s = absurd h
    in_ending (tree.Deallocate line x) w h s = absurd h

    in_endings : (b : tree.Block) (w : Surroundings) → AreEndings b → IsBlock es b w → Over (names_in_block b)
    in_endings tree.no_statements w h s = over_none
    in_endings (tree.statement c cs) w h s = over_both (names_in_statement c) (names_in_block cs) (in_ending c (before_labels (labels_of cs) w) h.0 s.0) (in_endings cs w h.1 s.1)

  -- ---- loops and statements

  module _ (deepest : ℕ) (n : Nest) (symbols : Over n.symbols) where
    in_run : (ls : List Loop) (g : Guarded) → IsPreparedStatement es n deepest (record { loops = ls; statement = g }) → Over (names_in_statement (guarded_statement g))
    in_run ls g h = by g.guard h.guard
      where
        plain : Over (names_in_statement (assignment_of g))
        plain = over_both (g.left.name ∷ names_in_subscripts g.left.subscripts) (names_in g.right) (in_kind (named g.left) h.kind h.left.0) (in_kind g.right h.kind h.right.0)

        by : (o : Option Expression) → IfSome o (λ (e : Expression). IsScalar es e Logical) → Over (names_in_statement (under_guard g.line o (assignment_of g)))
        by None k = plain
        by (Some e) k =
            over_both (names_in e ++ (names_in_statement (assignment_of g) ++ []) ++ []) [] (over_both (names_in e ++ (names_in_statement (assignment_of g) ++ [])) []
            (over_both (names_in e) (names_in_statement (assignment_of g) ++ []) (in_kind e Logical k.0) (over_both (names_in_statement (assignment_of g)) [] plain over_none)) over_none) over_none

    abbrev Round : List Loop → Type 0
    Round ls = Over (variables_of_loops ls)

    more_round : (ls : List Loop) (l : Loop) → Round ls → IsDeclared l.variable → Round (ls ++ l ∷ [])
    more_round [] l h k y i = over_first l.variable [] k over_none y i
    more_round (x ∷ ls) l h k y (inl e) = h y (inl e)
    more_round (x ∷ ls) l h k y (inr i) = more_round ls l (λ z j. h z (inr j)) k y i

    last_names : (ls : List Loop) (o : Option Trip) (last : Expression) → Round ls → IsSomeAnd o (IsPreparedTrip (variables_of_loops ls) n.symbols last) → Over (names_in last)
    last_names ls None last round h = absurd h
    last_names ls (Some t) last round h = λ x i. names_of_trip IsDeclared (variables_of_loops ls) n.symbols t round symbols x (subst (λ (e : Expression). In x (names_in e)) h.text i)

    in_turns : (line : ℕ) (ls : List Loop) (l : Loop) (ps : Parts) → Round ls → IsPreparedLoop es n.symbols ls l → Over (names_in_block (block_of_parts line ps)) → Over (names_in_statement (statement_of_part line (Turns l ps)))
    in_turns line ls l ps round h inner =
        let first : Over (names_in l.first) = subst (λ (e : Expression). Over (names_in e)) (sym h.normal.first) over_none in
        let step : Over (names_in (numeral l.step)) = subst (λ z. Over (names_in (numeral z))) (sym h.normal.step) over_none in
        over_first l.variable (names_in l.first ++ names_in l.last ++ names_in (numeral l.step) ++ names_in_block (block_of_parts line ps)) (is_there (declared es l.variable) IsCounter h.counter)
        (over_both (names_in l.first ++ names_in l.last ++ names_in (numeral l.step)) (names_in_block (block_of_parts line ps))
        (over_both (names_in l.first ++ names_in l.last) (names_in (numeral l.step)) (over_both (names_in l.first) (names_in l.last) first (last_names ls l.trip l.last round h.trip)) step) inner)

    mutual
      in_part : (line : ℕ) (ls : List Loop) (q : Part) → IsPlain q → Round ls → All (IsPreparedStatement es n deepest) (statements_in ls q) → EachLoop (IsPreparedLoop es n.symbols) ls q
          → Over (names_in_statement (statement_of_part line q))
      in_part line ls (Run g) plain round s h = in_run ls g (All-head (IsPreparedStatement es n deepest) (record { loops = ls; statement = g }) [] s)
      in_part line ls (Turns l ps) plain round s h =
          in_turns line ls l ps round h.0 (in_parts line (ls ++ l ∷ []) ps plain.1 (more_round ls l round (is_there (declared es l.variable) IsCounter h.0.counter)) s h.1)
      in_part line ls (Choice bs ps) plain round s h = absurd plain
      in_part line ls (Label k) plain round s h = absurd plain
      in_part line ls (Jump k) plain round s h = absurd plain

      in_parts : (line : ℕ) (ls : List Loop) (ps : Parts) → ArePlain ps → Round ls → All (IsPreparedStatement es n deepest) (statements_in_parts ls ps) → EachLoopIn (IsPreparedLoop es n.symbols) ls ps
          → Over (names_in_block (block_of_parts line ps))
      in_parts line ls no_parts plain round s h = over_none
      in_parts line ls (part p ps) plain round s h =
          over_both (names_in_statement (statement_of_part line p)) (names_in_block (block_of_parts line ps))
          (in_part line ls p plain.0 round (front (IsPreparedStatement es n deepest) (statements_in ls p) (statements_in_parts ls ps) s) h.0)
          (in_parts line ls ps plain.1 round (rest (IsPreparedStatement es n deepest) (statements_in ls p) (statements_in_parts ls ps) s) h.1)

  symbols_over : (ss : List (List ℕ)) → All (IsPreparedSymbol es) ss → Over ss
  symbols_over [] h = over_none
  symbols_over (s ∷ ss) h = over_first s ss (is_there (declared es s) IsCounter (All-head (IsPreparedSymbol es) s ss h).scalar) (symbols_over ss (All-tail (IsPreparedSymbol es) s ss h))

-- the names in a prepared nest's loops and in what comes after them
pub names_declared : (es : List Declaration) (around : List (List ℕ)) (deepest : ℕ) (n : Nest) → IsPrepared es around deepest n → (x : List ℕ) → In x (names_in_block (loops_then_after n)) → IsDeclared es x
names_declared es around deepest n h =
    over_both es (names_in_statement (statement_of_part n.line n.body)) (names_in_block n.after)
    (in_part es deepest n (symbols_over es n.symbols h.parts.symbols) n.line [] n.body h.plain (over_none es) h.parts.statements h.parts.loops)
    (in_endings es n.after (record outermost { variables = around }) h.parts.after.endings (h.parts.after.profile (record outermost { variables = around }) refl))
