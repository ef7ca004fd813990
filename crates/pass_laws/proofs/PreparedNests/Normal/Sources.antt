-- The statements of a loop of the source: their lines, their kinds and their depths, and that they assign names of the
-- source, of which none is a DO variable round them.
use Rattle.std.proofs.Common.{◌≡◌, refl, sym, subst, ℕ, List, [], ◌∷◌, ◌++◌, Option, Some, None, Contains}
use Rattle.std.specs.Option.{IsSomeAnd}
use Rattle.find_nests.specs.Loops.{Numbered, as_statement}
use Rattle.meaning.specs.Blocks.{Surroundings, before_labels, labels_of, within_loop}
use Rattle.meaning.specs.Labels.{IsLine}
use Rattle.meaning.specs.Profile77 as source
use Rattle.meaning.specs.Profile90 as target
use Rattle.meaning.specs.Typed.{declared}
use Rattle.meaning.specs.Typed77 as source_kinds
use Rattle.meaning.specs.Typed77.{deepest}
use Rattle.meaning.specs.Value.{named}
use Rattle.tree.specs.Names.{IsSourceName}
use Rattle.tree.specs.Plain.{Allocate, Arms, Assignment, Block, Deallocate, Declaration, Do, Expression, GoTo, If}
use Rattle.tree.specs.Plain.{Label, Print, Read, Reference, Statement, Stop, Where, arm, no_arms, no_statements}
use Rattle.tree.specs.Plain.{statement}
use Rattle.find_nests.specs.nest_parts.Numbers.{number_after, after_arms, after_block, next_loop_number}
use Rattle.find_nests.specs.nest_parts.Statements.{branches_of, parts_of, parts_of_block}
use Rattle.nest.specs.Plain.{Branches, Choice, Guarded, Jump, Loop, Part, Parts, Run, Turns, branch, no_branches}
use Rattle.nest.specs.Plain.{no_parts, part, parts}
use Rattle.nest.specs.Plain as tree
use Rattle.meaning.specs.Dialect.{Dialect}
use Rattle.meaning_laws.proofs.profiles.Lists.{all_at, there}
use Rattle.meaning_laws.proofs.profiles.Names.{found}
use Rattle.pass_laws.proofs.PreparedNests.Normal.SourceNames.{source_name}
use Rattle.tree.specs.Plain.{Program}
use Rattle.meaning_laws.proofs.profiles.Targets.{Extends, block_is}
use Rattle.pass_laws.proofs.ReadyNests.Walk.{EachIn, EachInBranches, EachInParts}
use Rattle.pass_laws.proofs.PreparedNests.Normal.MadeNames.{rank}
use Rattle.pass_laws.proofs.PreparedNests.Normal.Rules.{IsScalarAssignment, IsScalarTest}
use Rattle.pass_laws.proofs.PreparedNests.Normal.TestWalk.{EachTest, EachTestIn, EachTestUnder}
use Rattle.pass_laws.proofs.NormalFacts.FoundStatements.{IsShort}
use Rattle.pass_laws.proofs.NormalFacts.Texts.{AreOver, EachIsOver, IsOver, OneIsOver}
use Rattle.tree.specs.OperatorTable.{operand_kind}
use Rattle.tree.specs.declared.ops.Kind.{Kind}
use Rattle.tree.specs.declared.ops.Kind.TheVariants.{Integer, Logical}
use Rattle.tree.specs.Plain.{Apply, Binary, Constructor, Expressions, Logic, Named, Number, Only, Reduce, Reshape, Section, Spread}
use Rattle.tree.specs.Plain.{Subscript, Subscripts, Transpose, Unary, expression, no_expressions, no_subscripts, subscript}
use Rattle.find_nests.specs.Found.{body_of}

-- ---- two facts of each

module _ (A C : Guarded → Type 0) (B D : Loop → Type 0) where
  abbrev pub BothStatement : Guarded → Type 0
  BothStatement s = A s × C s

  abbrev pub BothLoop : Loop → Type 0
  BothLoop l = B l × D l

  mutual
    pub each_both : (p : Part) → EachIn A B p → EachIn C D p → EachIn BothStatement BothLoop p
    each_both (Run s) h k = (h, k)
    each_both (Turns l ps) h k = ((h.0, k.0), each_both_parts ps h.1 k.1)
    each_both (Choice bs ps) h k = (each_both_branches bs h.0 k.0, each_both_parts ps h.1 k.1)
    each_both (tree.Label n) h k = tt
    each_both (Jump n) h k = tt

    each_both_parts : (ps : Parts) → EachInParts A B ps → EachInParts C D ps → EachInParts BothStatement BothLoop ps
    each_both_parts no_parts h k = tt
    each_both_parts (part p ps) h k = (each_both p h.0 k.0, each_both_parts ps h.1 k.1)

    each_both_branches : (bs : Branches) → EachInBranches A B bs → EachInBranches C D bs → EachInBranches BothStatement BothLoop bs
    each_both_branches no_branches h k = tt
    each_both_branches (branch test ps bs) h k = (each_both_parts ps h.0 k.0, each_both_branches bs h.1 k.1)

-- ---- statements and conditions

-- a scalar condition over names as a source has them
pub record IsSoundTest (es : List Declaration) (e : Expression) : Type 0 where
  pub over : IsOver IsShort e
  pub scalars : IsScalarTest es e deepest

-- within the loops w
pub record IsSoundStatement (es : List Declaration) (w : Surroundings) (s : Guarded) : Type 0 where
  pub line : IsLine s.line
  pub unguarded : s.guard ≡ None
  pub scalars : IsScalarAssignment es s deepest
  pub source : IsSourceName s.left.name
  pub outside : Contains w.variables s.left.name → ⊥

pub record IsSoundLoop (w : Surroundings) (l : Loop) : Type 0 where
  pub source : IsSourceName l.variable
  pub outside : Contains w.variables l.variable → ⊥

module _ (ds es : List Declaration) (ext : Extends ds es) (names : (x : List ℕ) (d : Declaration) → declared ds x ≡ Some d → IsSourceName x) (w : Surroundings) where
  named_source : (x : List ℕ) (P : Declaration → Type 0) → IsSomeAnd (declared ds x) P → IsSourceName x
  named_source x P h = by (declared ds x) refl h
    where
      by : (o : Option Declaration) → declared ds x ≡ o → IsSomeAnd o P → IsSourceName x
      by None e g = absurd g
      by (Some d) e g = names x d e

  abbrev Within : Surroundings → Type 0
  Within v = (x : List ℕ) → Contains w.variables x → Contains v.variables x

  abbrev Statements : List Part → Type 0
  Statements ps = EachInParts (IsSoundStatement es w) (IsSoundLoop w) (parts ps)

  followed : (ps qs : List Part) → Statements ps → Statements qs → Statements (ps ++ qs)
  followed [] qs h k = k
  followed (p ∷ ps) qs h k = (h.0, followed ps qs h.1 k)

  assigned : (line : ℕ) (left : Reference) (right : Expression) (v : Surroundings) → IsLine line → source.IsAssignment ds left right v → target.IsAssignment es left right v → Within v
      → IsSoundStatement es w (record { line = line; guard = None; left = left; right = right })
  assigned line left right v l h g within = record { line = l; unguarded = refl; scalars = by (declared ds left.name) refl h.0; source = named_source left.name _ h.0; outside = λ c. h.1 (within left.name c) }
    where
      typed : (d : Declaration) → declared es left.name ≡ Some d → (o : Option Declaration) → declared es left.name ≡ o
          → IsSomeAnd o (λ (d : Declaration). target.IsWhole es (named left) d.kind × target.IsWhole es right d.kind)
          → target.IsWhole es (named left) d.kind × target.IsWhole es right d.kind
      typed d e None f k = absurd k
      typed d e (Some c) f k =
          let same : c ≡ d = cc in
          subst (λ (d : Declaration). target.IsWhole es (named left) d.kind × target.IsWhole es right d.kind) same k

      by : (o : Option Declaration) → declared ds left.name ≡ o
          → IsSomeAnd o (λ (d : Declaration). source_kinds.IsWhole ds (named left) d.kind × source_kinds.IsWhole ds right d.kind)
          → IsScalarAssignment es (record { line = line; guard = None; left = left; right = right }) deepest
      by None e k = absurd k
      by (Some d) e k =
          let there : declared es left.name ≡ Some d = ext.found left.name d e in
          let t = typed d there (declared es left.name) refl g.0 in
          record {
            kind = d.kind;
            found = subst (λ (o : Option Declaration). IsSomeAnd o (λ (c : Declaration). c.kind ≡ d.kind)) (sym there) refl;
            left = (t.0.suits, rank ds es ext (named left) d.kind k.0.suits);
            right = (t.1.suits, rank ds es ext right d.kind k.1.suits);
            left_depth = k.0.depth;
            right_depth = k.1.depth;
          }

  -- ---- conditions

  mutual
    over : (e : Expression) (k : Kind) → source_kinds.HasKind ds e k → IsOver IsShort e
    over (Number n) k h = tt
    over (Logic b) k h = tt
    over (Named x ss) k h = ((named_source x _ h.0).within, over_in ss h.1)
    over (Unary o a) k h = over a (operand_kind o) h.2
    over (Binary o a b) k h = (over a (operand_kind o) h.2, over b (operand_kind o) h.3)
    over (Apply f vs) k h = over_each vs h.3
    over (Constructor vs ls) k h = absurd h
    over (Spread a n e) k h = absurd h
    over (Transpose a) k h = absurd h
    over (Reshape a vs) k h = absurd h
    over (Reduce r a) k h = absurd h

    over_each : (vs : Expressions) → source_kinds.AreArguments ds vs → EachIsOver IsShort vs
    over_each no_expressions h = tt
    over_each (expression e vs) h = (over e Integer h.0, over_each vs h.1)

    over_in : (ss : Subscripts) → source_kinds.AreSubscripts ds ss → AreOver IsShort ss
    over_in no_subscripts h = tt
    over_in (subscript s ss) h = (over_one s h.0, over_in ss h.1)

    over_one : (s : Subscript) → source_kinds.IsSubscript ds s → OneIsOver IsShort s
    over_one (Only e) h = over e Integer h
    over_one (Section a b s) h = absurd h

  abbrev Tests : List Part → Type 0
  Tests ps = EachTestIn (IsSoundTest es) (parts ps)

  tests_followed : (ps qs : List Part) → Tests ps → Tests qs → Tests (ps ++ qs)
  tests_followed [] qs h k = k
  tests_followed (p ∷ ps) qs h k = (h.0, tests_followed ps qs h.1 k)

  mutual
    tests_are : (k : ℕ) (c : Statement) (v : Surroundings) → source.IsStatement ds c v → target.IsStatement es c v → Tests (parts_of k c)
    tests_are k (Assignment l mark left right) v h g = (tt, tt)
    tests_are k (Where l mark mask left right) v h g = absurd h
    tests_are k (If l arms other) v h g = ((tests_are_arms k arms v h.2 g.2, tests_are_block (after_arms k arms) other v h.3 g.3), tt)
    tests_are k (Do l x a b c body) v h g = (tests_are_block (next_loop_number k) body (within_loop x v) h.5 g.5, tt)
    tests_are k (Label n) v h g = (tt, tt)
    tests_are k (GoTo l n) v h g = (tt, tt)
    tests_are k (Stop l) v h g = tt
    tests_are k (Read l is) v h g = tt
    tests_are k (Print l is) v h g = tt
    tests_are k (Allocate l x vs) v h g = absurd h
    tests_are k (Deallocate l x) v h g = absurd h

    tests_are_arms : (k : ℕ) (arms : Arms) (v : Surroundings) → source.AreArms ds arms v → target.AreArms es arms v → EachTestUnder (IsSoundTest es) (branches_of k arms)
    tests_are_arms k no_arms v h g = tt
    tests_are_arms k (arm test body arms) v h g = (
      record { over = over test Logical h.0.suits; scalars = record { kind = g.0.suits; depth = h.0.depth } },
      tests_are_block k body v h.1 g.1,
      tests_are_arms (after_block k body) arms v h.2 g.2,
    )

    tests_are_block : (k : ℕ) (b : Block) (v : Surroundings) → source.IsBlock ds b v → target.IsBlock es b v → Tests (parts_of_block k b)
    tests_are_block k no_statements v h g = tt
    tests_are_block k (statement c cs) v h g =
        tests_followed (parts_of k c) (parts_of_block (number_after k c) cs)
        (tests_are k c (before_labels (labels_of cs) v) h.0 g.0) (tests_are_block (number_after k c) cs v h.1 g.1)

  -- the conditions in the loop
  pub tests_sound : (l : Numbered) → source.IsStatement ds (as_statement l.loop) w → EachTest (IsSoundTest es) (body_of l)
  tests_sound l h =
      let g = block_is ds es ext (statement (as_statement l.loop) no_statements) w (h, tt) in
      (tests_are l.before (as_statement l.loop) w h g.0).0

  -- ---- statements and loops

  mutual
    parts_are : (k : ℕ) (c : Statement) (v : Surroundings) → source.IsStatement ds c v → target.IsStatement es c v → Within v → Statements (parts_of k c)
    parts_are k (Assignment l mark left right) v h g f = (assigned l left right v h.0 h.2 g.1 f, tt)
    parts_are k (Where l mark mask left right) v h g f = absurd h
    parts_are k (If l arms other) v h g f = ((parts_are_arms k arms v h.2 g.2 f, parts_are_block (after_arms k arms) other v h.3 g.3 f), tt)
    parts_are k (Do l x a b c body) v h g f = (
      (record { source = named_source x _ h.1.integer.0; outside = λ i. h.1.free (f x i) }, parts_are_block (next_loop_number k) body (within_loop x v) h.5 g.5 (λ y i. there x v.variables y (f y i))),
      tt,
    )
    parts_are k (Label n) v h g f = (tt, tt)
    parts_are k (GoTo l n) v h g f = (tt, tt)
    parts_are k (Stop l) v h g f = tt
    parts_are k (Read l is) v h g f = tt
    parts_are k (Print l is) v h g f = tt
    parts_are k (Allocate l x vs) v h g f = absurd h
    parts_are k (Deallocate l x) v h g f = absurd h

    parts_are_arms : (k : ℕ) (arms : Arms) (v : Surroundings) → source.AreArms ds arms v → target.AreArms es arms v → Within v → EachInBranches (IsSoundStatement es w) (IsSoundLoop w) (branches_of k arms)
    parts_are_arms k no_arms v h g f = tt
    parts_are_arms k (arm test body arms) v h g f = (parts_are_block k body v h.1 g.1 f, parts_are_arms (after_block k body) arms v h.2 g.2 f)

    parts_are_block : (k : ℕ) (b : Block) (v : Surroundings) → source.IsBlock ds b v → target.IsBlock es b v → Within v → Statements (parts_of_block k b)
    parts_are_block k no_statements v h g f = tt
    parts_are_block k (statement c cs) v h g f =
        followed (parts_of k c) (parts_of_block (number_after k c) cs)
        (parts_are k c (before_labels (labels_of cs) v) h.0 g.0 f) (parts_are_block (number_after k c) cs v h.1 g.1 f)

  -- the loop with what stands in it
  pub loop_is : (l : Numbered) → source.IsStatement ds (as_statement l.loop) w → EachIn (IsSoundStatement es w) (IsSoundLoop w) (body_of l)
  loop_is l h =
      let g = block_is ds es ext (statement (as_statement l.loop) no_statements) w (h, tt) in
      (parts_are l.before (as_statement l.loop) w h g.0 (λ x i. i)).0

-- names that a program of FORTRAN 77 declares
pub declared_source : (d : Dialect) (p : Program) → source.IsProgram77 d p → (x : List ℕ) (e : Declaration) → declared p.declarations x ≡ Some e → IsSourceName x
declared_source d p is x e f =
    let g = found p.declarations x e f in
    subst IsSourceName g.name (source_name e.name (all_at (source.IsDeclaration d) p.declarations e is.declarations.each g.among).name)
