-- The trees of FORTRAN 77 programs: what a program has that is read from a source, and what whoever is given one may
-- rely on.
use Rattle.std.specs.Prelude.{◌≡◌, ◌^◌, ◌<◌, ◌≤◌, ℤ, pos, neg_ℤ, ◌≤ℤ◌, ◌<ℤ◌, IsTrue, None, List, length, map, sum}
use Rattle.std.specs.Prelude.{Contains}
use Rattle.std.specs.Option.{IfSome, IsSomeAnd}
use Rattle.std.specs.List.{AllByRecursion}
use Rattle.tree.specs.Plain.{Expression, Named, Reference, Statement, Assignment, If, Do, Label, GoTo, Stop, Read}
use Rattle.tree.specs.Plain.{Print, Arms, no_arms, arm, Block, no_statements, statement, Extent, Given, Later}
use Rattle.tree.specs.Plain.{Declaration, Program}
use Rattle.tree.specs.declared.ops.Kind.TheVariants.{Integer, Logical}
use Rattle.tree.specs.Limits as limits
use Rattle.meaning.specs.Dialect.{Dialect}
use Rattle.meaning.specs.Store.{names_of}
use Rattle.meaning.specs.Names.{IsInByteOrder}
use Rattle.meaning.specs.SymbolicNames.{IsSymbolicName}
use Rattle.meaning.specs.Calls.{names_called}
use Rattle.meaning.specs.Depths.{depth_of_items}
use Rattle.meaning.specs.Typed77.{dimensions, declared, deepest, IsWhole, IsDoVariable, AreOutputItems, AreInputItems}
pub use Rattle.meaning.specs.Blocks.{label_of, labels_of, blocks_of, blocks_in_arms, blocks_in, statement_count_of}
pub use Rattle.meaning.specs.Blocks.{statement_count_in_arms, statement_count_in, Surroundings, outermost, within_loop}
pub use Rattle.meaning.specs.Blocks.{before_labels}
pub use Rattle.meaning.specs.Labels.{all_labels_of, all_labels_in_arms, all_labels_in, targets_of, targets_in_arms}
pub use Rattle.meaning.specs.Labels.{targets_in, IsWithoutRepeats, IsLine, IsLabel, has_arm}
use Rattle.meaning.specs.Extents.{array_elements}

-- ---- declarations (sections 5.1 and 8)

-- the bounds of a dimension are INTEGER values, the lower one at most the upper one
pub record IsDimension (d : Dialect) (b : ℤ × ℤ) : Type 0 where
  pub above : neg_ℤ (pos (2 ^ d.bits)) ≤ℤ b.0
  pub ordered : b.0 ≤ℤ b.1
  pub below : b.1 <ℤ pos (2 ^ d.bits)

abbrev pub IsFixed : Extent → Type 0
IsFixed (Given bs) = Unit {0}
IsFixed (Later n) = ⊥

pub record IsDeclaration (d : Dialect) (e : Declaration) : Type 0 where
  pub fixed : IsFixed e.extent
  pub name : IsSymbolicName e.name
  pub few : length (dimensions e.extent) ≤ limits.array_dimensions
  pub dimension : AllByRecursion (IsDimension d) (dimensions e.extent)

-- in byte order and none twice; the number of names is limited, and so is that of elements in all arrays
pub record AreDeclarations (d : Dialect) (ds : List Declaration) : Type 0 where
  pub each : AllByRecursion (IsDeclaration d) ds
  pub ordered : IsInByteOrder (map (λ (e : Declaration). e.name) ds)
  pub few : length ds ≤ limits.program_names77
  pub elements : sum (map (λ (e : Declaration). array_elements (dimensions e.extent)) ds) ≤ limits.most_array_elements

-- ---- statements (sections 10, 11 and 12)

module _ (ds : List Declaration) where
  -- The left side is a variable or an element, no DO variable of a loop round it, and the right side has its kind
  -- (section 10)
  abbrev pub IsAssignment : Reference → Expression → Surroundings → Type 0
  IsAssignment left right w =
      IsSomeAnd (declared ds left.name)
      (λ d. IsWhole ds (Named left.name left.subscripts) d.kind × IsWhole ds right d.kind)
      × (Contains w.variables left.name → ⊥)

  abbrev mutual
    -- An IF has at least one arm, and its conditions are LOGICAL. A loop's parameters are INTEGER. A GO TO names a
    -- label that stands later in its block or in a block round that one
    pub IsStatement : Statement → Surroundings → Type 0
    IsStatement (Assignment line mark left right) w = IsLine line × (mark ≡ None) × IsAssignment left right w
    IsStatement (If line arms other) w = IsLine line × IsTrue (has_arm arms) × AreArms arms w × IsBlock other w
    IsStatement (Do line x a b c body) w =
        IsLine line × IsDoVariable ds x w.variables
        × IsWhole ds a Integer × IsWhole ds b Integer × IsWhole ds c Integer
        × IsBlock body (within_loop x w)
    IsStatement (Label n) w = IsLabel n
    IsStatement (GoTo line n) w = IsLine line × Contains w.ahead n
    IsStatement (Stop line) w = IsLine line
    IsStatement (Read line is) w = IsLine line × AreInputItems ds is w.variables × (depth_of_items is ≤ deepest)
    IsStatement (Print line is) w = IsLine line × AreOutputItems ds is w.variables × (depth_of_items is ≤ deepest)
    IsStatement _ w = ⊥

    pub AreArms : Arms → Surroundings → Type 0
    AreArms no_arms w = Unit {0}
    AreArms (arm test body more) w = IsWhole ds test Logical × IsBlock body w × AreArms more w

    pub IsBlock : Block → Surroundings → Type 0
    IsBlock no_statements w = Unit {0}
    IsBlock (statement c cs) w = IsStatement c (before_labels (labels_of cs) w) × IsBlock cs w

-- ---- programs

-- A tree of FORTRAN 77 in which no cause of refusal holds, where INTEGER is that of `d`. The program's name is no other
-- name and none that Fortran 90 has for a function that is called. Labels are those alone that a GO TO names, each once
pub record IsProgram77 (d : Dialect) (p : Program) : Type 0 where
  pub name : IfSome p.name (λ x. IsSymbolicName x × (Contains (names_of p) x → ⊥) × (Contains (names_called p) x → ⊥))
  pub declarations : AreDeclarations d p.declarations
  pub statements : IsBlock p.declarations p.body outermost
  pub blocks : blocks_in p.body ≤ limits.block_depth77
  pub labels : IsWithoutRepeats (all_labels_in p.body)
  pub named : AllByRecursion (Contains (targets_in p.body)) (all_labels_in p.body)
  pub few : statement_count_in p.body < 2 ^ 31
