use Rattle.std.proofs.Common.{map}
use Rattle.tree.specs.View.{block_of, declaration_of}
use Rattle.reductions.proofs.ReducedLaws.{body_same, done_same}
use Rattle.reductions.proofs.programs.reduce_body.Goals as goal

pub returns-clause-body : goal.returns-clause-body
returns-clause-body c =
    body_same (map declaration_of c.args.decls.now) c.args.title.now c.in_ok-reads.reads.keys (block_of c.args.body) c.in_ok-reads.ensures block_of c.reduce_block.result c.reduce_block.ensures.made

pub returns-clause-done : goal.returns-clause-done
returns-clause-done c =
    done_same (map declaration_of c.args.decls.now) c.args.title.now c.in_ok-reads.reads.keys (block_of c.args.body) c.in_ok-reads.ensures c.reduce_block.result c.args.done.now c.reduce_block.new.done c.reduce_block.ensures.done
