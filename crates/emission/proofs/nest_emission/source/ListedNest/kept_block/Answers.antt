use Rattle.std.proofs.Common.{◌+◌, ap, ◌∙◌}
use Rattle.tree.specs.View.{block_of}
use Rattle.emission.specs.emission_pieces.Pieces.{mark_of}
use Rattle.emission.specs.nest_emission.Given.{nest_in}
use Rattle.emission.proofs.nest_emission.StatementLaws.{kept_ok}
use Rattle.emission.proofs.nest_emission.source.ListedNest.kept_block.Goals as goal

pub returns : goal.returns
returns c =
    kept_ok (nest_in c.args.self.now) c.args.number c.statement-standing.result.now c.statement-standing.ensures c.under_guard.result c.mark-mark.result c.in_ok-left.left c.in_ok-right.right
    (block_of c.in_ok-body.body) (c.mark-mark.ensures ∙ ap (λ z. mark_of (nest_in c.args.self.now) c.args.number (z + 1)) c.len.ensures) c.in_ok-left.ensures c.in_ok-right.ensures
    c.in_ok-body.ensures c.under_guard.ensures
