-- The only right listing of a nest's graph.
use Rattle.std.specs.Prelude.{◌≡◌, ℕ, ℤ, Some, None, List, [], ◌∷◌, codes}
use Rattle.dependence_graph.specs.declared.graphs.Dep.{Dep}
use Rattle.dependence_graph.specs.declared.graphs.Dropped.{Dropped}
use Rattle.dependence_graph.specs.declared.graphs.Edge.{Edge}
use Rattle.dependence_graph.specs.declared.graphs.Graph.{Graph}
use Rattle.dependence_graph.specs.declared.graphs.Place.{Place}
use Rattle.nest.specs.Plain.{Nest}
use Rattle.subscripts.specs.declared.affine.Dir.{Dir}
use Rattle.subscripts.specs.declared.affine.Dir.TheVariants.{Lt}
use Rattle.subscripts.specs.declared.verdict.Test.{Test}
use Rattle.dependence_graph.specs.nest_graph.Arcs.{in_places, in_point}
use Rattle.dependence_graph.specs.nest_graph.Graph.{IsGraphOf}
use Prim.Native.String.{String}

-- each right graph of a nest has these edges and drops, and no others
abbrev pub HasOnly : Nest → List Edge → List Dropped → Type 0
HasOnly n edges drops = (g : Graph) → IsGraphOf n g → (g.edges ≡ edges) × (g.dropped ≡ drops)

-- ---- words

-- a reference of the first statement
abbrev pub at : ℕ → Place
at k = record { stmt = 0; at = k }

-- (<)
abbrev pub less : List Dir
less = Lt ∷ []

-- in a nest of one loop
abbrev pub edge : Place → Place → Dep → String → Test → ℤ → ℤ → Edge
edge p q k x w i j = record {
  from = p;
  to = q;
  kind = k;
  array = codes x;
  dirs = in_places less;
  level = 1;
  test = w;
  pair = Some (in_point (i ∷ []), in_point (j ∷ []));
}

abbrev pub assumed : Place → Place → Dep → String → Test → Edge
assumed p q k x w =
    record { from = p; to = q; kind = k; array = codes x; dirs = in_places less; level = 1; test = w; pair = None }

abbrev pub drop : Place → Place → Dep → String → Test → Dropped
drop p q k x w = record { from = p; to = q; kind = k; array = codes x; dirs = in_places less; test = w }
