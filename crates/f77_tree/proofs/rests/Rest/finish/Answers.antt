use Rattle.std.proofs.Common.{◌≡◌}
use Rattle.tree.specs.View.{block_of}
use Rattle.tree.specs.declared.stmts.Block.{Block}
use Rattle.f77_laws.specs.trees.Steps as steps
use Rattle.f77_tree.specs.Rests.{pieces_in, rest_of}
use Rattle.f77_tree.proofs.RestLaws.{finish_is, ok_follows}
use Rattle.f77_tree.proofs.rests.Rest.finish.Goals as goal

pub returns : goal.returns
returns c =
    ok_follows (λ (b : Block). block_of b ≡ steps.block_of (pieces_in c.args.self.pieces.items)) (λ (b : Block). block_of b ≡ steps.outermost_block (rest_of c.args.self)) c.whole.result
    (λ b h. finish_is c.args.self.pieces.items c.args.self.ifs.items (block_of b) h) c.whole.ensures
