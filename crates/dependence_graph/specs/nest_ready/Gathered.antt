-- What is gathered of a nest before it is looked at.
use Rattle.std.specs.Prelude.{ℕ, ◌≡◌, List, map}
use Rattle.std.specs.List.{flat_map}
use Rattle.tree.specs.Plain.{Reference}
use Rattle.nest.specs.Bodies.{Standing, loops_in_parts}
use Rattle.nest.specs.Plain.{Loop}
use Rattle.nest.specs.View.{Branch}
use Rattle.dependence_graph.specs.nest_graph.Ready.{subscript_count}
use Rattle.dependence_graph.specs.nest_graph.References.{references_of}

abbrev pub numbers_of : List Loop → List ℕ
numbers_of ls = map (λ (l : Loop). l.number) ls

abbrev pub loops_in_branch : Branch → List Loop
loops_in_branch b = loops_in_parts b.body

abbrev pub all_references : List Standing → List Reference
all_references ss = flat_map references_of ss

-- they have as many subscripts, where they have one name
abbrev pub HaveSameRank : Reference → Reference → Type 0
HaveSameRank r u = r.name ≡ u.name → subscript_count r.subscripts ≡ subscript_count u.subscripts
