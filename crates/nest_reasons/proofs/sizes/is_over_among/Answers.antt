use Rattle.std.proofs.Common.{◌∙◌, ap, length}
use Rattle.std.specs.List.{filter}
use Rattle.nest_reasons.specs.Sizes.{is_assignment, is_branching, is_counted_name, is_over}
use Rattle.nest_reasons.proofs.sizes.is_over_among.Goals as goal

pub returns : goal.returns
returns c =
    c.is_over.ensures
    ∙ (ap (λ n. is_over n c.references-occurrences.result c.branchings.result) c.assignments.ensures.value
    ∙ (ap (λ n. is_over (length (filter is_assignment c.args.pieces.now)) n c.branchings.result)
    (c.references-occurrences.ensures.value ∙ ap (λ ls. length (filter (is_counted_name ls) c.args.pieces.now)) c.as_slice.ensures)
    ∙ ap (λ n. is_over (length (filter is_assignment c.args.pieces.now)) (length (filter (is_counted_name c.args.loops.now) c.args.pieces.now)) n)
    c.branchings.ensures.value))
