use Rattle.std.proofs.Common.{refl, ◌∙◌}
use Rattle.f90_blocks.proofs.RestLaws.{end_if_shows, none_seen}
use Rattle.f90_blocks.proofs.open.Rest.end_if.Goals as goal

pub returns : goal.returns
returns c =
    end_if_shows _ c.args.self.stmts.items c.args.self.opened.items c.new-later.result c.turned-other.result
    c.args.self.stmts c.in_ok-push.ensures.items c.new-later.ensures.items
    (c.turned-other.ensures ∙ none_seen c.new.result.items c.new.ensures.items) refl c.new-stmts.ensures.items
