use Rattle.std.proofs.Common.{map, ap, ◌∙◌, refl}
use Rattle.tree.specs.Plain as plain
use Rattle.tree.specs.View.{statement_of}
use Rattle.tree.proofs.Equations.{block_of-made}
use Rattle.f77_tree.proofs.RestLaws.{end_is}
use Rattle.f77_tree.proofs.rests.Rest.end_arm.Goals as goal

pub returns : goal.returns
returns c =
    end_is c.args.self.pieces.items c.new-pieces.result.items c.args.self.ifs.items c.push.new.self.items _ c.new-pieces.ensures.items c.in_ok-push.ensures.items
    c.new-2.ensures.items (block_of-made c.new.result ∙ ap (λ ss. plain.block (map statement_of ss)) c.new.ensures) refl
