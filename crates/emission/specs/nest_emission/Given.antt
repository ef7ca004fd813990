-- What is emitted from: a nest, the edges of its graph, and its holds.
use Rattle.std.specs.Prelude.{◌≡◌, ◌⊎◌, ℕ, ◌≤◌, ◌<◌, ◌^◌, All, List, [], ◌∷◌, length, map}
use Rattle.components.specs.Lists.{IsMember, Distinct}
use Rattle.dependence_graph.specs.declared.graphs.Edge.{Edge}
use Rattle.dependence_graph.specs.declared.graphs.Graph.{Graph}
use Rattle.dependence_graph.specs.declared.graphs.Hold.{Hold}
use Rattle.emission.specs.emission_pieces.Emission.{HasToTurn, IsEmittedFor}
use Rattle.emission.specs.emission_pieces.Nests.{loops_at}
use Rattle.emission.specs.emission_pieces.Edges.{AreEdgesOf}
use Rattle.emission.specs.emission_pieces.Pieces as pieces
use Rattle.nest.specs.Bodies.{Standing, nest_statements}
use Rattle.nest.specs.Plain.{Nest}
use Rattle.nest.specs.View.{nest_of}
use Rattle.array_form.specs.holds.Surroundings.{known_trip}
use Rattle.nest.specs.statement_loops.Standings.{standing_of}
use Rattle.subscripts.specs.Shapes.{IsForm}
use Rattle.emission.specs.declared.nest_emission.source.ListedNest.{ListedNest}
use Rattle.emission.specs.declared.nest_emission.source.ClassForm.{ClassForm}
use Rattle.emission.specs.declared.nest_emission.source.ClassForm.TheVariants.{Kept, Formed, Turning}

-- at most seven loops, whose trips are forms under them
pub record HasLoopForms (s : Standing) : Type 0 where
  pub few : length s.loops ≤ 7
  pub trips : All (λ l. IsForm (length s.loops) (known_trip l.trip).top) s.loops

-- symbols have places of 16 bits, with one left
pub record MayBeEmitted (n : Nest) (g : Graph) : Type 0 where
  pub symbols : length n.symbols < 2 ^ 16
  pub statements : All HasLoopForms (nest_statements n)
  pub count : g.stmts ≡ length (nest_statements n)
  pub edges : AreEdgesOf n g.edges

abbrev pub nest_in : ListedNest → Nest
nest_in s = nest_of s.nest.now

pub record IsListedNest (s : ListedNest) : Type 0 where
  pub all : map standing_of s.statements.now ≡ nest_statements (nest_in s)
  pub symbols : length (nest_in s).symbols < 2 ^ 16
  pub forms : All HasLoopForms (nest_statements (nest_in s))
  pub few : length (nest_statements (nest_in s)) < 2 ^ 32
  pub edges : AreEdgesOf (nest_in s) s.edges.now

-- ---- statements by their places

-- each is one of the nest
abbrev pub AreInside : Nest → List ℕ → Type 0
AreInside n part = All (λ s. s < length (nest_statements n)) part

-- one of them stands in a loop of this level
abbrev pub HasLoop : Nest → ℕ → List ℕ → Type 0
HasLoop n k c = (s : ℕ) × IsMember s c × (k ≤ length (loops_at n s))

-- they are one statement, or one of them stands in a loop of this level
pub record IsClass (n : Nest) (k : ℕ) (c : List ℕ) : Type 0 where
  pub once : Distinct c
  pub inside : AreInside n c
  pub loop : ((s : ℕ) × (c ≡ s ∷ [])) ⊎ HasLoop n k c

module _ (n : Nest) (edges : List Edge) (holds : List Hold) where
  abbrev pub IsClassForm : ℕ → List ℕ → ClassForm → Type 0
  IsClassForm k c (Kept s) = IsEmittedFor n edges holds k c (pieces.Kept s)
  IsClassForm k c (Formed s) = IsEmittedFor n edges holds k c (pieces.Formed s)
  IsClassForm k c Turning = HasToTurn n edges holds k c × HasLoop n k c
