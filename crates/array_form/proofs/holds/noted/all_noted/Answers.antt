use Rattle.std.proofs.Common.{◌∙◌, map}
use Rattle.std.proofs.lemmas.List.{length-map}
use Rattle.nest.specs.View.{nest_of}
use Rattle.nest.specs.statement_loops.Standings.{standing_of}
use Rattle.array_form.specs.holds.Noted.{IsNoted}
use Rattle.array_form.proofs.holds.NotedLaws.{all_noted, each_length}
use Rattle.array_form.proofs.holds.noted.all_noted.Goals as goal

pub returns-clause-many : goal.returns-clause-many
returns-clause-many c =
    let n = nest_of c.args.nest.now in
    each_length (IsNoted n) (map standing_of c.args.all.now) c.note_all.new.noted_so_far
    (all_noted n (map standing_of c.args.all.now) c.new-noted.result c.note_all.new.noted_so_far c.new-noted.ensures c.in_ok-note_all.ensures)
    ∙ length-map c.args.all.now standing_of
