-- What is known of prepared nests.
use Rattle.std.specs.Prelude.{◌≡◌, ℕ, ◌+◌, ◌*◌, ◌^◌, ◌<◌, ◌≤◌, Some, IsSomeAnd, All, Contains, List}
use Rattle.tree.specs.Names.{IsSourceName}
use Rattle.tree.specs.Plain.{Declaration, Program}
use Rattle.meaning.specs.Blocks.{Surroundings}
use Rattle.meaning.specs.Dialect.{fortran77}
use Rattle.tree.specs.declared.width.Width.{Width}
use Rattle.meaning.specs.Profile77.{IsProgram77, IsStatement}
use Rattle.meaning.specs.Typed.{declared}
use Rattle.meaning.specs.Typed77.{deepest}
use Rattle.meaning_laws.specs.profiles.Profiles.{AddMadeNames}
use Rattle.find_nests.specs.Found.{InNest, found_in}
use Rattle.find_nests.specs.Laws.{IsFoundNest}
use Rattle.find_nests.specs.Loops.{as_statement}
use Rattle.nest.specs.Bodies.{nest_loops}
use Rattle.normal_loops.specs.Normalised.{normalised}
use Rattle.pass_laws.specs.found_sources.Alone.{HasLoopsAlone}
use Rattle.pass_laws.specs.normal_facts.Laws.{IsCounter}
use Rattle.meaning.specs.Profile90.{AreDeclarations}
use Rattle.dependence_graph.specs.declared.graphs.Graph.{Graph}
use Rattle.dependence_graph.specs.nest_graph.Graph.{IsGraphOf}
use Rattle.dependence_graph.specs.nest_graph.Ready.{IsReady}
use Rattle.emission.specs.emission_forms.Forms.{AreRegular}
use Rattle.emission.specs.emission_forms.Written.{HasFormFacts}
use Rattle.emission.specs.graph_orders.Nests.{run_nest}
use Rattle.emission.specs.nest_emission.Given.{MayBeEmitted}
use Rattle.nest.specs.Plain.{Loop, Nest}
use Rattle.nest_order.specs.facts.Facts.{HasFacts}
use Rattle.nest_order.specs.runs.Stores.{Setting}
use Rattle.pass_laws.specs.prepared_nests.Nests.{AreMadeParts, IsBranched, IsPrepared, IsSettingFor}

-- it may be tested for dependences
abbrev pub PreparedNestIsReady : Type 0
PreparedNestIsReady = (es : List Declaration) (around : List (List ℕ)) (deepest : ℕ) (m : Nest)
    → AreDeclarations es → IsPrepared es around deepest m → IsReady m

-- and emitted from, by its graph
abbrev pub PreparedNestMayBeEmitted : Type 0
PreparedNestMayBeEmitted = (es : List Declaration) (around : List (List ℕ)) (deepest : ℕ) (m : Nest) (g : Graph)
    → AreDeclarations es → IsPrepared es around deepest m → IsGraphOf m g → MayBeEmitted m g

-- where nothing forbids array form, its subscripts move with the loops
abbrev pub PreparedNestIsRegular : Type 0
PreparedNestIsRegular = (es : List Declaration) (around : List (List ℕ)) (deepest : ℕ) (m : Nest)
    → IsPrepared es around deepest m → AreRegular m

-- in a setting it has what runs, orders and array forms ask for
abbrev pub PreparedNestHasFacts : Type 0
PreparedNestHasFacts = (bits : ℕ) (es : List Declaration) (around : List (List ℕ)) (deepest : ℕ) (m : Nest)
    (w : Setting) → 31 ≤ bits → IsPrepared es around deepest m → IsSettingFor es m w → HasFacts bits (run_nest m) w

abbrev pub PreparedNestHasFormFacts : Type 0
PreparedNestHasFormFacts = (es : List Declaration) (around : List (List ℕ)) (deepest : ℕ) (m : Nest) (w : Setting)
    → IsPrepared es around deepest m → IsSettingFor es m w → HasFormFacts m w

-- ---- which nests are prepared

-- Expressions of a source are at most `deepest` deep. In loops from 1 by 1 a text of at most 34, in parentheses 35,
-- takes the place of each of seven variables, and canonical text rises by 18
abbrev pub normal_depth : ℕ
normal_depth = deepest + (7 * 35 + 18)

-- n is a nest of p, and m its normal form; es has the names of p, the variables of m's loops, and maybe further made
-- names; the loops round the nest have variables that FORTRAN 77 has
abbrev pub NormalNestHasParts : (width : Width) → Type 0
NormalNestHasParts width = (p : Program) (n m : Nest) (es : List Declaration) (w : Surroundings)
    (found : IsFoundNest p n)
    → IsProgram77 (fortran77 width) p → Contains (found_in p) (InNest n) → normalised n ≡ Some m
    → AddMadeNames p.declarations es
    → All (λ (l : Loop). IsSomeAnd (declared es l.variable) IsCounter) (nest_loops m)
    → n.number < 2 ^ 32 → All IsSourceName w.variables
    → IsStatement p.declarations (as_statement found.loop.loop.loop) w → AreMadeParts es w.variables normal_depth m

-- so it is prepared with its IFs and jumps
abbrev pub NormalNestIsBranched : (width : Width) → Type 0
NormalNestIsBranched width = (p : Program) (n m : Nest) (es : List Declaration) (w : Surroundings)
    (found : IsFoundNest p n)
    → IsProgram77 (fortran77 width) p → Contains (found_in p) (InNest n) → normalised n ≡ Some m
    → AddMadeNames p.declarations es
    → All (λ (l : Loop). IsSomeAnd (declared es l.variable) IsCounter) (nest_loops m)
    → n.number < 2 ^ 32 → All IsSourceName w.variables
    → IsStatement p.declarations (as_statement found.loop.loop.loop) w → IsBranched es w.variables normal_depth m

-- and without them where it has loops and statements alone
abbrev pub NormalNestIsPrepared : (width : Width) → Type 0
NormalNestIsPrepared width = (p : Program) (n m : Nest) (es : List Declaration) (w : Surroundings)
    (found : IsFoundNest p n)
    → IsProgram77 (fortran77 width) p → Contains (found_in p) (InNest n) → normalised n ≡ Some m → HasLoopsAlone m.body
    → AddMadeNames p.declarations es
    → All (λ (l : Loop). IsSomeAnd (declared es l.variable) IsCounter) (nest_loops m)
    → n.number < 2 ^ 32 → All IsSourceName w.variables
    → IsStatement p.declarations (as_statement found.loop.loop.loop) w → IsPrepared es w.variables normal_depth m
