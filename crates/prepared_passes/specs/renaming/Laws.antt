-- What is known of nests whose scalars were renamed.
use Rattle.std.specs.Prelude.{◌≡◌, ◌⊎◌, ℕ, None, Contains, List, ◌++◌}
use Rattle.meaning.specs.Dialect.{fortran77}
use Rattle.tree.specs.declared.width.Width.{Width}
use Rattle.meaning.specs.Holding.{HoldsProgram}
use Rattle.meaning.specs.Reads.{names_in_block}
use Rattle.meaning.specs.Run.{State, Going, does_all}
use Rattle.meaning.specs.Store.{Cell, names_of}
use Rattle.meaning.specs.Typed.{declared}
use Rattle.nest.specs.Bodies.{Standing, nest_loops, nest_statements}
use Rattle.nest.specs.Plain.{Made, Nest}
use Rattle.nest_order.specs.orders.Lists.{In}
use Rattle.nest_steps.specs.Keeping.{KeepsAgreement, MayStandFor, Place}
use Rattle.pass_laws.specs.prepared_nests.Nests.{IsPrepared}
use Rattle.pass_laws.specs.prepared_nests.Statements.{made_names}
use Rattle.rewrite.specs.Following.{IsSound}
use Rattle.scalar_rename.specs.Renamed.{renamed}
use Rattle.tree.specs.Names.{IsSourceName}
use Rattle.tree.specs.Plain.{Block, Declaration, Program}
use Rattle.prepared_passes.specs.renaming.Renamed.{MayBeRenamed, names_made}
use Rattle.pass_laws.specs.prepared_runs.Running.{loops_then_after}

-- By declarations that don't have the names that are to be made, these stand nowhere in a prepared nest, and nothing
-- that was made has one
abbrev pub NamesAreFresh : Type 0
NamesAreFresh = (es : List Declaration) (around : List (List ℕ)) (deepest : ℕ) (m : Nest)
    → IsPrepared es around deepest m → ((a : Made) → In a (names_made m) → declared es a.name ≡ None)
    → (a : Made) → In a (names_made m)
    → (¬ Contains (names_in_block (loops_then_after m)) a.name) × (¬ Contains (made_names m) a.name)

-- It is prepared by the same declarations, which have the names that were made; no expression is deeper
abbrev pub RenamedNestIsPrepared : Type 0
RenamedNestIsPrepared = (es : List Declaration) (around : List (List ℕ)) (deepest : ℕ) (m : Nest)
    → IsPrepared es around deepest m → MayBeRenamed es m → IsPrepared es around deepest (renamed m)

-- the name of something that was made for the nest
abbrev pub IsMadeFor : Nest → List ℕ → Type 0
IsMadeFor m x = (a : Made) × In a (names_made m) × (a.name ≡ x)

-- n is m but for its statements and for the names that were made, behind what was made for m. Its loops stay, and its
-- statements give values to what those of m give values to, and to these names
pub record IsRenamedFrom (m n : Nest) : Type 0 where
  pub rest : n ≡ record m { body = n.body; made = n.made }
  pub made : n.made ≡ m.made ++ names_made m
  pub loops : nest_loops n ≡ nest_loops m
  pub targets : (x : Standing) → In x (nest_statements n) → IsMadeFor m x.statement.left.name
      ⊎ ((y : Standing) × In y (nest_statements m) × (y.statement.left.name ≡ x.statement.left.name))

abbrev pub RenamedNestKeepsRest : Type 0
RenamedNestKeepsRest = (es : List Declaration) (around : List (List ℕ)) (deepest : ℕ) (m : Nest)
    → IsPrepared es around deepest m → MayBeRenamed es m → IsRenamedFrom m (renamed m)

-- The first moment is going, and the second one is the same but for its number of steps and what the names hold that
-- renaming has made for the nest
pub record GoOnButNames (m : Nest) (t u : State) : Type 0 where
  pub going : t.way ≡ Going
  pub bounds : (x : List ℕ) → u.store.bounds x ≡ t.store.bounds x
  pub held : (c : Cell) → ¬ IsMadeFor m c.name → u.store.held c ≡ t.store.held c
  pub rest : u ≡ record t { store = u.store; steps = u.steps }

-- Where the loops of the nest with what comes after them meet no fault, neither do those of the renamed nest, from the
-- same moment
abbrev pub RenamedNestGoesOnAsNest : (width : Width) → Type 0
RenamedNestGoesOnAsNest width = (p : Program) (around : List (List ℕ)) (deepest : ℕ) (m : Nest) (s : State)
    → IsPrepared p.declarations around deepest m → MayBeRenamed p.declarations m → s.way ≡ Going
    → HoldsProgram (fortran77 width) p s.store → IsSound (does_all (fortran77 width) None (loops_then_after m) s).way
    → GoOnButNames m (does_all (fortran77 width) None (loops_then_after m) s)
    (does_all (fortran77 width) None (loops_then_after (renamed m)) s)

-- So it may stand for the nest, where that keeps agreement on p, a program of FORTRAN 77
abbrev pub RenamedMayStandFor : (width : Width) → Type 0
RenamedMayStandFor width = (p : Program) (around : List (List ℕ)) (deepest : ℕ) (m : Nest) (w : Place)
    → IsPrepared w.program.declarations around deepest m → MayBeRenamed w.program.declarations m
    → ((x : List ℕ) → Contains (names_of p) x → IsSourceName x) → KeepsAgreement width p w (loops_then_after m)
    → MayStandFor width p w (loops_then_after m) w (loops_then_after (renamed m))

-- whatever stands behind the nest, the same is renamed
abbrev pub NestIsRenamedWithAnythingBehind : Type 0
NestIsRenamedWithAnythingBehind = (m : Nest) (after : Block)
    → renamed (record m { after = after }) ≡ record (renamed m) { after = after }
