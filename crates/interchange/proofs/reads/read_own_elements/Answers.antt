use Rattle.std.proofs.Common.{◌≡◌, ◌∙◌}
use Rattle.std.specs.List.{list_all}
use Rattle.nest.specs.Bodies.{nest_statements}
use Rattle.nest.specs.View.{nest_of}
use Rattle.nest.specs.statement_loops.Standings.{standing_of}
use Rattle.dependence_graph.specs.nest_graph.Ready.{IsReadyStatement}
use Rattle.interchange.specs.Reads.{read_own_elements, reads_own_element}
use Rattle.interchange.proofs.ChainLaws.{if_ok}
use Rattle.interchange.proofs.ReadLaws.{all_own, all_seen}
use Rattle.interchange.proofs.reads.read_own_elements.Goals as goal

pub all_read_own_elements-requires-clause-ready : goal.all_read_own_elements-requires-clause-ready
all_read_own_elements-requires-clause-ready c =
    all_seen IsReadyStatement standing_of c.as_slice.result.now c.in_ok-all.all (nest_statements (nest_of c.args.nest.now)) c.as_slice.ensures c.in_ok-all.ensures c.requires.statements

pub returns : goal.returns
returns c =
    if_ok c.all_read_own_elements.result (λ b. b ≡ list_all (λ s. reads_own_element c.args.nest.now.symbols (standing_of s)) c.as_slice.result.now) (λ b. b ≡ read_own_elements (nest_of c.args.nest.now))
    (λ b is. is ∙ all_own (reads_own_element c.args.nest.now.symbols) standing_of c.as_slice.result.now c.in_ok-all.all (nest_statements (nest_of c.args.nest.now)) c.as_slice.ensures c.in_ok-all.ensures)
    c.all_read_own_elements.ensures
