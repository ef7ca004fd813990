use Rattle.std.proofs.Common.{◌∙◌, ap, map, refl, sym, true}
use Rattle.tree.specs.View.{expression_of, reference_of}
use Rattle.nest.specs.View.{nest_of}
use Rattle.nest.specs.statement_loops.Standings.{standing_of}
use Rattle.array_form.proofs.holds.NotedLaws.{noted_is, some_viewed}
use Rattle.array_form.proofs.holds.noted.noted_statement.Goals as goal

pub returns : goal.returns
returns c =
    noted_is (nest_of c.args.nest.now) (standing_of c.args.standing.now) c.as_slice.result.now (map reference_of c.as_slice-2.result.now) c.in_ok-numbers_round.field-0 (record { sized = true; subscripts = c.new.result }) c.add.new.self
    c.is_some.result (c.as_slice.ensures ∙ c.in_ok-names.ensures) (ap (map reference_of) c.as_slice-2.ensures ∙ c.in_ok-items.ensures) c.in_ok-numbers_round.ensures
    (c.is_some.ensures ∙ sym (some_viewed expression_of c.args.standing.now.stmt.guard)) refl c.new.ensures c.in_ok-add.ensures
