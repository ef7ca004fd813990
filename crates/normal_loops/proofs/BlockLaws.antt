-- Blocks one behind the other.
use Rattle.std.proofs.Common.{◌≡◌, List, [], ◌∷◌, ◌++◌, map, refl, ap, ap₂, ◌∙◌, sym}
use Rattle.std.proofs.lemmas.List.{map-append}
use Rattle.tree.specs.Plain as P
use Rattle.tree.specs.View.{block_of, statement_of}
use Rattle.tree.specs.declared.stmts.Block.{Block, out-Block, roll-Block}
use Rattle.tree.specs.declared.stmts.Stmt.{Stmt}
use Rattle.tree.proofs.Equations.{block_of-is, block_of-made}
use Rattle.nest.specs.Allocations.{block_then}

one_behind : (cs ds : List P.Statement) → block_then (P.block cs) (P.block ds) ≡ P.block (cs ++ ds)
one_behind [] ds = refl
one_behind (c ∷ cs) ds = ap (P.statement c) (one_behind cs ds)

pub then-is : (a b : Block) → block_then (block_of a) (block_of b) ≡ P.block (map statement_of (out-Block a).stmts ++ map statement_of (out-Block b).stmts)
then-is a b = ap₂ block_then (block_of-is a) (block_of-is b) ∙ one_behind (map statement_of (out-Block a).stmts) (map statement_of (out-Block b).stmts)

pub joined-is : (a b : Block) (ss : List Stmt) → ss ≡ (out-Block a).stmts ++ (out-Block b).stmts
    → block_of (roll-Block (record { stmts = ss })) ≡ block_then (block_of a) (block_of b)
joined-is a b ss e =
    block_of-made ss ∙ ap (λ us. P.block (map statement_of us)) e
    ∙ ap P.block (map-append statement_of (out-Block a).stmts (out-Block b).stmts) ∙ sym (then-is a b)

pub ruleset block_laws = (joined-is, then-is, block_of-is, block_of-made)
