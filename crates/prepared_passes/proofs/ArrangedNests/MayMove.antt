-- A prepared nest has what a move of its loops asks for.
use Rattle.std.proofs.Common.{◌≡◌, ℕ, ◌≤◌, true, Some, List}
use Rattle.tree.specs.Plain.{Declaration}
use Rattle.meaning.specs.Profile90.{AreDeclarations}
use Rattle.nest.specs.declared.parts.Trip.{Trip}
use Rattle.nest.specs.Plain.{Nest}
use Rattle.nest_order.specs.runs.Stores.{Setting}
use Rattle.dependence_graph.specs.declared.graphs.Graph.{Graph}
use Rattle.dependence_graph.specs.nest_graph.Graph.{IsGraphOf}
use Rattle.interchange.specs.Arranged.{free_trips_of}
use Rattle.interchange.specs.Chains.{Chain, chain_of}
use Rattle.interchange.specs.Reads.{read_own_elements}
use Rattle.pass_laws.proofs.PreparedNests.Facts.{prepared_nest_has_facts}
use Rattle.pass_laws.proofs.PreparedNests.FormFacts.{prepared_nest_has_form_facts}
use Rattle.pass_laws.proofs.PreparedNests.Ready.{prepared_nest_is_ready}
use Rattle.pass_laws.specs.prepared_nests.Nests.{IsPrepared, IsSettingFor}
use Rattle.prepared_passes.specs.arrangement.Laws.{MayMove}
use Rattle.prepared_passes.proofs.ArrangedNests.Names.{trips_name_symbols}

pub prepared_nest_may_move : (bits : ℕ) (es : List Declaration) (around : List (List ℕ)) (deepest : ℕ) (m : Nest) (g : Graph) (c : Chain) (trips : List Trip) (w : Setting)
    → 31 ≤ bits → AreDeclarations es → IsPrepared es around deepest m → IsSettingFor es m w → IsGraphOf m g
    → chain_of m.body ≡ Some c → free_trips_of c.loops ≡ Some trips → read_own_elements m ≡ true → MayMove bits m g c trips w
prepared_nest_may_move bits es around deepest m g c trips w wide are h setting graph chain trips_are own = record {
  plain = h.plain;
  ready = prepared_nest_is_ready es around deepest m are h;
  graph = graph;
  facts = prepared_nest_has_facts bits es around deepest m w wide h setting;
  forms = prepared_nest_has_form_facts es around deepest m w h setting;
  names = trips_name_symbols es around deepest m h;
  chain = chain;
  are = trips_are;
  own = own;
}
