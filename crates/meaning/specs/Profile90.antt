-- The trees of Fortran 90 programs: those that a text can be read as, but for the numbers of lines, and whose printed
-- text is read as them. How many names there are isn't limited here.
use Rattle.std.specs.Prelude.{◌≡◌, ◌⊎◌, ℕ, ◌^◌, ◌<◌, ◌≤◌, IsTrue, Option, List, length, map, sum, Contains}
use Rattle.std.specs.Option.{IfSome, IsSomeAnd}
use Rattle.std.specs.List.{AllByRecursion}
use Rattle.tree.specs.declared.stmts.Mark.{Mark}
use Rattle.tree.specs.declared.ops.Kind.{Kind}
use Rattle.tree.specs.declared.ops.Kind.TheVariants.{Integer, Logical}
use Rattle.tree.specs.Plain.{Expression, Reference, Expressions, Extent, Given, Later, Declaration, Program, Statement}
use Rattle.tree.specs.Plain.{Assignment, Where, If, Do, Label, GoTo, Stop, Read, Print, Allocate, Deallocate, Arms}
use Rattle.tree.specs.Plain.{no_arms, arm, Block, no_statements, statement}
use Rattle.tree.specs.Limits as limits
use Rattle.meaning.specs.Names.{IsInByteOrder}
use Rattle.meaning.specs.SymbolicNames.{IsLongName}
use Rattle.meaning.specs.Depths.{depth_of, depth_of_each, depth_of_items}
use Rattle.meaning.specs.Typed.{dimensions, declared, number_of_arguments}
use Rattle.meaning.specs.Typed90.{rank_of, HasKind, IsScalar, AreScalars, IsDoVariable}
use Rattle.meaning.specs.Items90.{AreOutputItems, AreInputItems}
use Rattle.meaning.specs.Extents.{array_elements}
use Rattle.meaning.specs.Value.{named}
use Rattle.meaning.specs.Blocks.{labels_of, blocks_in, statement_count_in}
use Rattle.meaning.specs.Labels.{all_labels_in, targets_in, IsWithoutRepeats, IsLine, IsLabel, has_arm}
use Rattle.meaning.specs.Blocks.{Surroundings, outermost, within_loop, before_labels}
use Rattle.meaning.specs.Extents.{IsAllocatable, IsDimension}

-- ---- declarations (ISO/IEC 1539:1991, section 5)

-- of a scalar, an array with its bounds, or an allocatable array, which has one dimension at least
abbrev pub IsExtent : Extent → Type 0
IsExtent (Given bs) = (length bs ≤ limits.array_dimensions) × AllByRecursion IsDimension bs
IsExtent (Later n) = (1 ≤ n) × (n ≤ limits.array_dimensions)

pub record IsDeclaration (e : Declaration) : Type 0 where
  pub name : IsLongName e.name
  pub extent : IsExtent e.extent

-- in byte order of names and none twice; how many elements all arrays but the allocatable ones have is limited
pub record AreDeclarations (ds : List Declaration) : Type 0 where
  pub each : AllByRecursion IsDeclaration ds
  pub ordered : IsInByteOrder (map (λ (e : Declaration). e.name) ds)
  pub elements : sum (map (λ (e : Declaration). array_elements (dimensions e.extent)) ds) ≤ limits.most_array_elements

-- ---- statements (sections 6.3, 7.5, 8.1, 8.2 and 9.4)

pub record IsMark (m : Mark) : Type 0 where
  pub nest : m.nest < 2 ^ 32
  pub statement : m.stmt < 2 ^ 32
  pub level : m.level < 2 ^ 32

-- a line, and a mark if there is one
abbrev pub IsMarked : ℕ → Option Mark → Type 0
IsMarked line mark = IsLine line × IfSome mark IsMark

module _ (ds : List Declaration) where
  -- an expression of this kind, not too deep
  pub record IsWhole (e : Expression) (k : Kind) : Type 0 where
    pub suits : HasKind ds e k
    pub depth : depth_of e ≤ limits.expression_depth90

  pub record IsWholeScalar (e : Expression) (k : Kind) : Type 0 where
    pub suits : IsScalar ds e k
    pub depth : depth_of e ≤ limits.expression_depth90

  -- The left side is a variable, an element, an array or a section, no DO variable of a loop round it. The right side
  -- has its kind, and its rank or that of a scalar
  abbrev pub IsAssignment : Reference → Expression → Surroundings → Type 0
  IsAssignment left right w =
      IsSomeAnd (declared ds left.name) (λ d. IsWhole (named left) d.kind × IsWhole right d.kind)
      × ((rank_of ds right ≡ 0) ⊎ (rank_of ds right ≡ rank_of ds (named left)))
      × (Contains w.variables left.name → ⊥)

  -- the mask and the left side have one rank, and aren't scalars
  abbrev pub IsMasked : Expression → Reference → Type 0
  IsMasked mask left =
      IsWhole mask Logical × (1 ≤ rank_of ds (named left)) × (rank_of ds mask ≡ rank_of ds (named left))

  -- an extent for each dimension of an allocatable array
  abbrev pub IsAllocation : List ℕ → Expressions → Type 0
  IsAllocation x es =
      IsSomeAnd (declared ds x) (λ d. d.extent ≡ Later (number_of_arguments es))
      × AreScalars ds es Integer × (depth_of_each es ≤ limits.expression_depth90)

  abbrev mutual
    -- An IF has at least one arm, and its conditions are scalars. So are a loop's parameters. A GO TO names a label
    -- that stands later in its block or in a block round that one
    pub IsStatement : Statement → Surroundings → Type 0
    IsStatement (Assignment line mark left right) w = IsMarked line mark × IsAssignment left right w
    IsStatement (Where line mark mask left right) w =
        IsMarked line mark × IsMasked mask left × IsAssignment left right w
    IsStatement (If line arms other) w = IsLine line × IsTrue (has_arm arms) × AreArms arms w × IsBlock other w
    IsStatement (Do line x a b c body) w =
        IsLine line × IsDoVariable ds x w.variables
        × IsWholeScalar a Integer × IsWholeScalar b Integer × IsWholeScalar c Integer × IsBlock body (within_loop x w)
    IsStatement (Label n) w = IsLabel n
    IsStatement (GoTo line n) w = IsLine line × Contains w.ahead n
    IsStatement (Stop line) w = IsLine line
    IsStatement (Read line is) w =
        IsLine line × AreInputItems ds is w.variables × (depth_of_items is ≤ limits.expression_depth90)
    IsStatement (Print line is) w =
        IsLine line × AreOutputItems ds is w.variables × (depth_of_items is ≤ limits.expression_depth90)
    IsStatement (Allocate line x es) w = IsLine line × IsAllocation x es
    IsStatement (Deallocate line x) w = IsLine line × IsSomeAnd (declared ds x) (λ d. IsAllocatable d.extent)

    pub AreArms : Arms → Surroundings → Type 0
    AreArms no_arms w = Unit {0}
    AreArms (arm test body more) w = IsWholeScalar test Logical × IsBlock body w × AreArms more w

    pub IsBlock : Block → Surroundings → Type 0
    IsBlock no_statements w = Unit {0}
    IsBlock (statement c cs) w = IsStatement c (before_labels (labels_of cs) w) × IsBlock cs w

-- ---- programs

-- A tree of Fortran 90 in which no cause of refusal holds. A variable may bear the program's name. Labels are those
-- alone that a GO TO names, each once
pub record IsProgram90 (p : Program) : Type 0 where
  pub name : IfSome p.name IsLongName
  pub declarations : AreDeclarations p.declarations
  pub statements : IsBlock p.declarations p.body outermost
  pub blocks : blocks_in p.body ≤ limits.block_depth90
  pub labels : IsWithoutRepeats (all_labels_in p.body)
  pub named : AllByRecursion (Contains (targets_in p.body)) (all_labels_in p.body)
  pub few : statement_count_in p.body < 2 ^ 31
