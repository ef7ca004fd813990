-- The dependence graph of a nest.
use Rattle.std.specs.Prelude.{◌≡◌, ◌⊎◌, ℕ, ◌<◌, ℤ, Some, All, List, [], ◌∷◌, ◌++◌, length, slice_get}
use Rattle.subscripts.specs.Cuts.{IsNoLater}
use Rattle.subscripts.specs.declared.affine.Dir.{Dir}
use Rattle.subscripts.specs.declared.verdict.Test.{Test}
use Rattle.dependence_graph.specs.declared.graphs.Dropped.{Dropped}
use Rattle.dependence_graph.specs.declared.graphs.Edge.{Edge}
use Rattle.dependence_graph.specs.declared.graphs.Graph.{Graph}
use Rattle.dependence_graph.specs.declared.graphs.Place.{Place}
use Rattle.components.specs.Lists.{Pairwise}
use Rattle.nest.specs.Plain.{Nest}
use Rattle.nest.specs.Bodies.{nest_statements}
use Rattle.dependence_graph.specs.nest_graph.Arcs.{Assumed, Couple, Met, Never, Verdict, drops_of, edges_of}
use Rattle.dependence_graph.specs.nest_graph.Merged.{IsListed}
use Rattle.dependence_graph.specs.nest_graph.Pair.{Candidate, HasPair, IsCandidate, Pair, kind_between}
use Rattle.dependence_graph.specs.nest_graph.Refuted.{IsExactClass, IsRefuted}
use Rattle.dependence_graph.specs.nest_graph.Tested.{AreReferences, Both, both, common_of}
use Rattle.dependence_graph.specs.nest_graph.Vectors.{HoldsOnce, StandsFor}
use Rattle.dependence_graph.specs.nest_graph.Words.{IsDropWord, IsEdgeWord}

-- the candidate of two references in a vector
abbrev pub candidate_of : Couple → List Dir → Candidate
candidate_of c v = record { from = c.from; to = c.to; kind = c.kind; vector = v }

-- ---- what an answer says of each vector that it stands for

-- a dropped one has no pair, and may bear the word
pub record AreDropped (n : Nest) (c : Couple) (b : Both) (d : List Dir) (w : Test) : Type 0 where
  pub without_pair : (v : List Dir) → StandsFor d v → HasPair n (candidate_of c v) → ⊥
  pub word : (v : List Dir) → StandsFor d v → IsDropWord b v w

-- an edge with a pair stands in the exact class: each vector has a pair, this is one of them, and none of any of these
-- vectors is less
pub record AreMet (n : Nest) (c : Couple) (b : Both) (d : List Dir) (x y : List ℤ) (w : Test) : Type 0 where
  pub exact : IsExactClass b
  pub each : (v : List Dir) → StandsFor d v → HasPair n (candidate_of c v)
  pub vector : List Dir
  pub stands : StandsFor d vector
  pub pair : Pair n (candidate_of c vector) x y
  pub least :
      (v : List Dir) (i j : List ℤ) → StandsFor d v → Pair n (candidate_of c v) i j → IsNoLater (x ++ y) (i ++ j)
  pub word : IsEdgeWord b w

-- one without a pair stands outside it, and for no vector that is refuted
pub record AreAssumed (b : Both) (d : List Dir) (w : Test) : Type 0 where
  pub inexact : IsExactClass b → ⊥
  pub unrefuted : (v : List Dir) → StandsFor d v → IsRefuted b v → ⊥
  pub word : IsEdgeWord b w

abbrev pub IsRightVerdict : Nest → Couple → Both → List Dir → Verdict → Type 0
IsRightVerdict n c b d (Never w) = AreDropped n c b d w
IsRightVerdict n c b d (Met x y w) = AreMet n c b d x y w
IsRightVerdict n c b d (Assumed w) = AreAssumed b d w

-- ---- two references

-- their answers stand for each candidate exactly once, and for candidates alone, are merged and in order, and each is
-- right by the nest and its two references
pub record IsCouple (n : Nest) (c : Couple) : Type 0 where
  pub refs : AreReferences n c.from c.to
  pub kind : kind_between c.from.at c.to.at ≡ Some c.kind
  pub array : c.array ≡ refs.first_reference.name
  pub covered : (v : List Dir) → IsCandidate n (candidate_of c v) → HoldsOnce (λ a. StandsFor a.0 v) c.answers
  pub candidates : All (λ a. (v : List Dir) → StandsFor a.0 v → IsCandidate n (candidate_of c v)) c.answers
  pub merged : IsListed c.from.stmt c.to.stmt (common_of refs.first.loops refs.second.loops) c.answers
  pub right : All (λ a. IsRightVerdict n c (both n c.from c.to refs) a.0 a.1) c.answers

-- a reference that stands earlier: in an earlier statement, or earlier in the same one
abbrev pub IsEarlierPlace : Place → Place → Type 0
IsEarlierPlace p q = (p.stmt < q.stmt) ⊎ ((p.stmt ≡ q.stmt) × (p.at < q.at))

abbrev pub IsEarlierCouple : Couple → Couple → Type 0
IsEarlierCouple c e = IsEarlierPlace c.from e.from ⊎ ((c.from ≡ e.from) × IsEarlierPlace c.to e.to)

-- two references of one name, one of which is a write
pub record AreDependent (n : Nest) (from to : Place) : Type 0 where
  pub refs : AreReferences n from to
  pub one_written : (from.at ≡ 0) ⊎ (to.at ≡ 0)

pub record IsAmong (couples : List Couple) (from to : Place) : Type 0 where
  pub at : ℕ
  pub couple : Couple
  pub is_at : slice_get couples at ≡ Some couple
  pub from_is : couple.from ≡ from
  pub to_is : couple.to ≡ to

abbrev pub all_edges : List Couple → List Edge
all_edges [] = []
all_edges (c ∷ cs) = edges_of c c.answers ++ all_edges cs

abbrev pub all_drops : List Couple → List Dropped
all_drops [] = []
all_drops (c ∷ cs) = drops_of c c.answers ++ all_drops cs

-- ---- the graph

-- the edges and drops of all such couples of references, in the order of the references and then of the vectors
pub record IsGraphOf (n : Nest) (g : Graph) : Type 0 where
  pub statements : g.stmts ≡ length (nest_statements n)
  pub couples : List Couple
  pub each : All (IsCouple n) couples
  pub every : (from to : Place) → AreDependent n from to → IsAmong couples from to
  pub in_order : Pairwise IsEarlierCouple couples
  pub edges : g.edges ≡ all_edges couples
  pub dropped : g.dropped ≡ all_drops couples
