-- The edges of a nest's graph.
use Rattle.std.specs.Prelude.{◌≡◌, ℕ, suc, ◌≤◌, ◌<◌, ◌==◌, if◌then◌else◌, All, List, [], ◌∷◌, length}
use Rattle.dependence_graph.specs.declared.graphs.Edge.{Edge}
use Rattle.nest.specs.Bodies.{nest_statements}
use Rattle.nest.specs.Plain.{Loop, Nest}
use Rattle.emission.specs.emission_pieces.Nests.{loops_at}

-- how many loops stand round both
abbrev pub common_of : List Loop → List Loop → ℕ
common_of [] ms = 0
common_of (l ∷ ls) [] = 0
common_of (l ∷ ls) (m ∷ ms) = if l.number == m.number then suc (common_of ls ms) else 0

-- an edge leads from one of the statements to another; a loop that carries it stands round both, and a loop independent
-- one leads forward in the text
pub record IsEdgeOf (n : Nest) (e : Edge) : Type 0 where
  pub from : e.from.stmt < length (nest_statements n)
  pub to : e.to.stmt < length (nest_statements n)
  pub carried : e.level ≤ common_of (loops_at n e.from.stmt) (loops_at n e.to.stmt)
  pub forward : e.level ≡ 0 → e.from.stmt < e.to.stmt

abbrev pub AreEdgesOf : Nest → List Edge → Type 0
AreEdgesOf n edges = All (IsEdgeOf n) edges
