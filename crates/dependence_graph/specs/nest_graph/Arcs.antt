-- What two references give of a graph: the edges and drops of their answers.
use Rattle.std.specs.Prelude.{ℕ, suc, ◌-◌, ℤ, pos, Option, Some, None, List, [], ◌∷◌, ◌++◌, length, replicate}
use Rattle.subscripts.specs.declared.affine.Dir.{Dir}
use Rattle.subscripts.specs.declared.affine.Dir.TheVariants.{Lt, Eq, Gt, Any}
use Rattle.subscripts.specs.declared.affine.Dirs.{Dirs}
use Rattle.subscripts.specs.declared.verdict.Point.{Point}
use Rattle.subscripts.specs.declared.verdict.Test.{Test}
use Rattle.dependence_graph.specs.declared.graphs.Dep.{Dep}
use Rattle.dependence_graph.specs.declared.graphs.Dropped.{Dropped}
use Rattle.dependence_graph.specs.declared.graphs.Edge.{Edge}
use Rattle.dependence_graph.specs.declared.graphs.Place.{Place}

-- what is said of a vector, with the word of the test that says so: there is never a pair; this one is the least; there
-- may be one
pub data Verdict : Type 0 where
  Never : Test → Verdict
  Met : List ℤ → List ℤ → Test → Verdict
  Assumed : Test → Verdict

abbrev pub VectorVerdict : Type 0
VectorVerdict = List Dir × Verdict

-- two references that are tested, and the answers
pub record Couple : Type 0 where
  pub from : Place
  pub to : Place
  pub kind : Dep
  pub array : List ℕ
  pub answers : List VectorVerdict

-- ---- edges and drops

-- as an edge has them: a vector in seven places, with `*` behind it, and iterations in seven places, with 1 behind them
abbrev pub in_places : List Dir → Dirs
in_places v = record { at = v ++ replicate (7 - length v) Any; len = length v }

abbrev pub in_point : List ℤ → Point
in_point x = record { at = x ++ replicate (7 - length x) (pos 1) }

-- the level of the first `<`, which counts from the outside in from 1; 0 where there is none
abbrev pub level_from : ℕ → List Dir → ℕ
level_from k [] = 0
level_from k (Lt ∷ ds) = suc k
level_from k (Eq ∷ ds) = level_from (suc k) ds
level_from k (Gt ∷ ds) = 0
level_from k (Any ∷ ds) = 0

abbrev pub vector_level : Dirs → ℕ
vector_level d = level_from 0 d.at

abbrev pub edge_with : Couple → List Dir → Test → Option (Point × Point) → Edge
edge_with c v w pair = record {
  from = c.from;
  to = c.to;
  kind = c.kind;
  array = c.array;
  dirs = in_places v;
  level = vector_level (in_places v);
  test = w;
  pair = pair;
}

-- the edge of an answer that isn't a drop
abbrev pub edge_of : Couple → List Dir → Verdict → Option Edge
edge_of c v (Never w) = None
edge_of c v (Met x y w) = Some (edge_with c v w (Some (in_point x, in_point y)))
edge_of c v (Assumed w) = Some (edge_with c v w None)

abbrev pub drop_of : Couple → List Dir → Verdict → Option Dropped
drop_of c v (Never w) =
    Some (record { from = c.from; to = c.to; kind = c.kind; array = c.array; dirs = in_places v; test = w })
drop_of c v (Met x y w) = None
drop_of c v (Assumed w) = None

abbrev pub with_some : {X : Type 0} → Option X → List X → List X
with_some None xs = xs
with_some (Some x) xs = x ∷ xs

abbrev pub edges_of : Couple → List VectorVerdict → List Edge
edges_of c [] = []
edges_of c (a ∷ as') = with_some (edge_of c a.0 a.1) (edges_of c as')

abbrev pub drops_of : Couple → List VectorVerdict → List Dropped
drops_of c [] = []
drops_of c (a ∷ as') = with_some (drop_of c a.0 a.1) (drops_of c as')
