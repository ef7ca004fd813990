-- The statements of a nest that was found in a program of FORTRAN 77 are such statements.
use Rattle.std.proofs.Common.{sym, subst, ℕ, List, [], ◌∷◌, ◌++◌, Option, Some, None, Contains}
use Rattle.std.specs.Prelude.{IsSomeAnd}
use Rattle.components.specs.Lists.{Each}
use Rattle.components.proofs.ListLaws.{Each-append}
use Rattle.find_nests.proofs.FoundLaws.{found_nest_is_loop}
use Rattle.find_nests.specs.Found.{InNest, found_in}
use Rattle.find_nests.specs.Loops.{SourceLoop, SurroundedLoop, loops_in, loops_in_arms, loops_in_block}
use Rattle.meaning.specs.Blocks.{Surroundings, outermost, within_loop, before_labels, labels_of}
use Rattle.meaning.specs.Dialect.{fortran77}
use Rattle.tree.specs.declared.width.Width.{Width}
use Rattle.meaning.specs.Profile77.{IsAssignment, IsStatement, AreArms, IsBlock, IsProgram77}
use Rattle.meaning.specs.Typed77.{HasKind, AreArguments, AreSubscripts, IsSubscript, IsWhole}
use Rattle.meaning.specs.Typed.{declared}
use Rattle.tree.specs.OperatorTable.{operand_kind}
use Rattle.tree.specs.Plain.{Expression, Number, Logic, Named, Unary, Binary, Apply, Constructor, Spread, Transpose}
use Rattle.tree.specs.Plain.{Reshape, Reduce, Expressions, no_expressions, expression, Subscript, Only, Section}
use Rattle.tree.specs.Plain.{Subscripts, no_subscripts, subscript, Reference, Statement, Assignment, Where, If, Do}
use Rattle.tree.specs.Plain.{Label, GoTo, Stop, Read, Print, Allocate, Deallocate, Arms, no_arms, arm, Block}
use Rattle.tree.specs.Plain.{no_statements, statement, Declaration, Program}
use Rattle.tree.specs.declared.ops.Kind.{Kind}
use Rattle.tree.specs.declared.ops.Kind.TheVariants.{Integer}
use Rattle.find_nests.specs.nest_parts.Numbers.{next_loop_number, number_after, after_arms, after_block}
use Rattle.find_nests.specs.nest_parts.Statements.{parts_of, branches_of, parts_of_block}
use Rattle.nest_order.specs.runs.Touched.{IsPlain, EachIsPlain, ArePlain, IsPlainSubscript}
use Rattle.nest.specs.Plain.{Loop, Nest, Part, parts}
use Rattle.pass_laws.proofs.ReadyNests.Lists.{Each-Contains}
use Rattle.pass_laws.proofs.ReadyNests.Walk.{EachIn, EachInParts, EachInBranches}
use Rattle.pass_laws.proofs.NormalFacts.CanonicalPlain.{IsPlainStatement}

abbrev pub any_loop : Loop → Type 0
any_loop l = Unit {0}

module _ (ds : List Declaration) where
  mutual
    plain : (e : Expression) (k : Kind) → HasKind ds e k → IsPlain e
    plain (Number n) k h = tt
    plain (Logic b) k h = tt
    plain (Named x ps) k h = plain_in ps h.1
    plain (Unary o a) k h = plain a (operand_kind o) h.2
    plain (Binary o a b) k h = (plain a (operand_kind o) h.2, plain b (operand_kind o) h.3)
    plain (Apply f es) k h = plain_each es h.3
    plain (Constructor es ls) k h = absurd h
    plain (Spread a n e) k h = absurd h
    plain (Transpose a) k h = absurd h
    plain (Reshape a es) k h = absurd h
    plain (Reduce r a) k h = absurd h

    plain_each : (es : Expressions) → AreArguments ds es → EachIsPlain es
    plain_each no_expressions h = tt
    plain_each (expression e es) h = (plain e Integer h.0, plain_each es h.1)

    plain_in : (ps : Subscripts) → AreSubscripts ds ps → ArePlain ps
    plain_in no_subscripts h = tt
    plain_in (subscript p ps) h = (plain_one p h.0, plain_in ps h.1)

    plain_one : (p : Subscript) → IsSubscript ds p → IsPlainSubscript p
    plain_one (Only e) h = plain e Integer h
    plain_one (Section a b s) h = absurd h

  assigned : (line : ℕ) (left : Reference) (right : Expression) (w : Surroundings) → IsAssignment ds left right w
      → IsPlainStatement (record { line = line; guard = None; left = left; right = right })
  assigned line left right w h = by (declared ds left.name) h.0
    where
      by : (o : Option Declaration) → IsSomeAnd o (λ (d : Declaration). IsWhole ds (Named left.name left.subscripts) d.kind × IsWhole ds right d.kind)
          → IsPlainStatement (record { line = line; guard = None; left = left; right = right })
      by None g = absurd g
      by (Some d) g = record { left = plain (Named left.name left.subscripts) d.kind g.0.suits; right = plain right d.kind g.1.suits; guard = tt }

  -- ---- blocks

  abbrev ArePlainParts : List Part → Type 0
  ArePlainParts ps = EachInParts IsPlainStatement any_loop (parts ps)

  followed : (ps qs : List Part) → ArePlainParts ps → ArePlainParts qs → ArePlainParts (ps ++ qs)
  followed [] qs h k = k
  followed (p ∷ ps) qs h k = (h.0, followed ps qs h.1 k)

  mutual
    parts_plain : (k : ℕ) (c : Statement) (w : Surroundings) → IsStatement ds c w → ArePlainParts (parts_of k c)
    parts_plain k (Assignment l mark left right) w h = (assigned l left right w h.2, tt)
    parts_plain k (Where l mark mask left right) w h = absurd h
    parts_plain k (If l arms other) w h = ((branches_plain k arms w h.2, block_plain (after_arms k arms) other w h.3), tt)
    parts_plain k (Do l x a b c body) w h = ((tt, block_plain (next_loop_number k) body (within_loop x w) h.5), tt)
    parts_plain k (Label n) w h = (tt, tt)
    parts_plain k (GoTo l n) w h = (tt, tt)
    parts_plain k (Stop l) w h = tt
    parts_plain k (Read l is) w h = tt
    parts_plain k (Print l is) w h = tt
    parts_plain k (Allocate l x es) w h = absurd h
    parts_plain k (Deallocate l x) w h = absurd h

    branches_plain : (k : ℕ) (arms : Arms) (w : Surroundings) → AreArms ds arms w → EachInBranches IsPlainStatement any_loop (branches_of k arms)
    branches_plain k no_arms w h = tt
    branches_plain k (arm test body arms) w h = (block_plain k body w h.1, branches_plain (after_block k body) arms w h.2)

    block_plain : (k : ℕ) (b : Block) (w : Surroundings) → IsBlock ds b w → ArePlainParts (parts_of_block k b)
    block_plain k no_statements w h = tt
    block_plain k (statement c cs) w h =
        followed (parts_of k c) (parts_of_block (number_after k c) cs) (parts_plain k c (before_labels (labels_of cs) w) h.0) (block_plain (number_after k c) cs w h.1)

  -- ---- the loops of a program

  -- whichever number it gets
  abbrev HasPlainBody : SurroundedLoop → Type 0
  HasPlainBody q = (k : ℕ) → ArePlainParts (parts_of_block k q.loop.loop.body)

  mutual
    loops_plain : (k : ℕ) (around : List SourceLoop) (c : Statement) (w : Surroundings) → IsStatement ds c w → Each HasPlainBody (loops_in k around c)
    loops_plain k around (Assignment l mark left right) w h = tt
    loops_plain k around (Where l mark mask left right) w h = tt
    loops_plain k around (If l arms other) w h =
        Each-append HasPlainBody (loops_in_arms k around arms) (loops_in_block (after_arms k arms) around other)
        (arms_plain k around arms w h.2) (loops_plain_in (after_arms k arms) around other w h.3)
    loops_plain k around (Do l x a b c body) w h = (
      (λ m. block_plain m body (within_loop x w) h.5),
      loops_plain_in (next_loop_number k) (around ++ record { line = l; variable = x; first = a; last = b; step = c; body = body } ∷ []) body (within_loop x w) h.5,
    )
    loops_plain k around (Label n) w h = tt
    loops_plain k around (GoTo l n) w h = tt
    loops_plain k around (Stop l) w h = tt
    loops_plain k around (Read l is) w h = tt
    loops_plain k around (Print l is) w h = tt
    loops_plain k around (Allocate l x es) w h = tt
    loops_plain k around (Deallocate l x) w h = tt

    arms_plain : (k : ℕ) (around : List SourceLoop) (arms : Arms) (w : Surroundings) → AreArms ds arms w → Each HasPlainBody (loops_in_arms k around arms)
    arms_plain k around no_arms w h = tt
    arms_plain k around (arm test body arms) w h =
        Each-append HasPlainBody (loops_in_block k around body) (loops_in_arms (after_block k body) around arms)
        (loops_plain_in k around body w h.1) (arms_plain (after_block k body) around arms w h.2)

    loops_plain_in : (k : ℕ) (around : List SourceLoop) (b : Block) (w : Surroundings) → IsBlock ds b w → Each HasPlainBody (loops_in_block k around b)
    loops_plain_in k around no_statements w h = tt
    loops_plain_in k around (statement c cs) w h =
        Each-append HasPlainBody (loops_in k around c) (loops_in_block (number_after k c) around cs)
        (loops_plain k around c (before_labels (labels_of cs) w) h.0) (loops_plain_in (number_after k c) around cs w h.1)

pub found_is_plain : (width : Width) (p : Program) (n : Nest) → IsProgram77 (fortran77 width) p → Contains (found_in p) (InNest n) → EachIn IsPlainStatement any_loop n.body
found_is_plain width p n is h =
    let f = found_nest_is_loop p n h in
    let l = Each-Contains (HasPlainBody p.declarations) (loops_in_block 0 [] p.body) f.loop (loops_plain_in p.declarations 0 [] p.body outermost is.statements) f.stands in
    subst (λ (q : Nest). EachIn IsPlainStatement any_loop q.body) (sym f.is) (tt, l (next_loop_number f.loop.loop.before))
