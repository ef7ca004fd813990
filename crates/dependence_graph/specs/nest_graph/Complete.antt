-- What an order of the instances needs of a graph: each candidate stands in an edge or a drop, and a dropped one has
-- no pair.
use Rattle.std.specs.Prelude.{◌≡◌, ◌⊎◌, List}
use Rattle.subscripts.specs.declared.affine.Dir.{Dir}
use Rattle.subscripts.specs.declared.affine.Dirs.{Dirs}
use Rattle.components.specs.Lists.{IsMember}
use Rattle.dependence_graph.specs.declared.graphs.Dropped.{Dropped}
use Rattle.dependence_graph.specs.declared.graphs.Edge.{Edge}
use Rattle.dependence_graph.specs.declared.graphs.Graph.{Graph}
use Rattle.nest.specs.Plain.{Nest}
use Rattle.dependence_graph.specs.nest_graph.Arcs.{in_places, vector_level}
use Rattle.dependence_graph.specs.nest_graph.Graph.{IsGraphOf}
use Rattle.dependence_graph.specs.nest_graph.Pair.{Candidate, HasPair, IsCandidate}
use Rattle.dependence_graph.specs.nest_graph.Vectors.{StandsFor}

-- directions that stand for the vector
pub record AreFor (d : Dirs) (v : List Dir) : Type 0 where
  pub vector : List Dir
  pub places : d ≡ in_places vector
  pub stands : StandsFor vector v

pub record IsEdgeFor (e : Edge) (c : Candidate) : Type 0 where
  pub from : e.from ≡ c.from
  pub to : e.to ≡ c.to
  pub kind : e.kind ≡ c.kind
  pub dirs : AreFor e.dirs c.vector

pub record IsDropFor (e : Dropped) (c : Candidate) : Type 0 where
  pub from : e.from ≡ c.from
  pub to : e.to ≡ c.to
  pub kind : e.kind ≡ c.kind
  pub dirs : AreFor e.dirs c.vector

pub record HasEdgeFor (g : Graph) (c : Candidate) : Type 0 where
  pub edge : Edge
  pub among : IsMember edge g.edges
  pub stands : IsEdgeFor edge c

pub record HasDropFor (g : Graph) (c : Candidate) : Type 0 where
  pub drop : Dropped
  pub among : IsMember drop g.dropped
  pub stands : IsDropFor drop c

pub record IsComplete (n : Nest) (g : Graph) : Type 0 where
  pub covered : (c : Candidate) → IsCandidate n c → HasEdgeFor g c ⊎ HasDropFor g c
  pub dropped : (c : Candidate) → IsCandidate n c → HasDropFor g c → HasPair n c → ⊥
  pub levels : (e : Edge) → IsMember e g.edges → e.level ≡ vector_level e.dirs

abbrev pub GraphIsComplete : Type 0
GraphIsComplete = (n : Nest) (g : Graph) → IsGraphOf n g → IsComplete n g
