use Rattle.std.proofs.Common.{◌∙◌, ap, length}
use Rattle.std.specs.List.{filter}
use Rattle.nest_reasons.specs.Sizes.{is_assignment, is_branching, is_counted_name, is_over}
use Rattle.nest_reasons.proofs.sizes.is_large_among.Goals as goal

pub returns : goal.returns
returns c =
    c.is_over_among.ensures
    ∙ ap (λ ls. is_over (length (filter is_assignment c.args.pieces.now)) (length (filter (is_counted_name ls) c.args.pieces.now))
    (length (filter is_branching c.args.pieces.now))) c.in_ok-loops.ensures
