use Rattle.std.proofs.Common.{◌≡◌, ◌∙◌, ap}
use Rattle.std.specs.List.{list_all}
use Rattle.tree.specs.View.{reference_of}
use Rattle.nest.specs.statement_loops.Standings.{standing_of}
use Rattle.dependence_graph.specs.nest_graph.References.{references_of, variables_round}
use Rattle.interchange.specs.Reads.{reads_own_element, reads_what_is_written}
use Rattle.interchange.proofs.ChainLaws.{if_ok}
use Rattle.interchange.proofs.ReadLaws.{own_is}
use Rattle.interchange.proofs.reads.reads_own_element.Goals as goal

pub returns : goal.returns
returns c =
    let standing = standing_of c.args.standing.now in
    if_ok c.all_read_it.result (λ b. b ≡ list_all (λ r. reads_what_is_written c.as_slice-2.result.now c.args.symbols.now standing.statement.left (reference_of r)) c.in-Some.read.now)
    (λ b. b ≡ reads_own_element c.args.symbols.now standing)
    (λ b is. is ∙ ap (λ ls. list_all (λ r. reads_what_is_written ls c.args.symbols.now standing.statement.left (reference_of r)) c.in-Some.read.now) (c.as_slice-2.ensures ∙ c.in_ok-loops.ensures)
    ∙ own_is (reads_what_is_written (variables_round standing) c.args.symbols.now standing.statement.left) c.as_slice.result.now c.in_ok-items.items c.in-Some.read.now c.in-Some._left.now (references_of standing)
    c.as_slice.ensures c.in-Some.ensures.cases.0 c.in_ok-items.ensures)
    c.all_read_it.ensures
