-- Pieces of lists of statements and of arms.
use Rattle.std.proofs.Common.{◌≡◌, List, [], ◌∷◌, ◌++◌, map, refl, ap, ◌∙◌, append_assoc}
use Rattle.std.specs.List.{flat_map}
use Rattle.std.proofs.lemmas.List.{append-nil}
use Rattle.tree.specs.Plain.{Statement, block}
use Rattle.tree.specs.View.{statement_of, block_of, arms, Tested}
use Rattle.tree.specs.declared.stmts.Block.{Block, out-Block}
use Rattle.tree.proofs.Equations.{statement_equations, block_of-is}
use Rattle.nest_reasons.specs.Sizes.{pieces_in, pieces_in_arms, pieces_in_block}
use Rattle.nest_reasons.specs.Arms.{pieces_in_arm}

pub each_arm : (ts : List Tested) → pieces_in_arms (arms ts) ≡ flat_map pieces_in_arm ts
each_arm [] = refl
each_arm (t ∷ ts) = ap (λ ps. pieces_in_arm t ++ ps) (each_arm ts)

pub each_statement : (cs : List Statement) → pieces_in_block (block cs) ≡ flat_map pieces_in cs
each_statement [] = refl
each_statement (c ∷ cs) = ap (λ ps. pieces_in c ++ ps) (each_statement cs)

pub pieces-block : (k : Block) → pieces_in_block (block_of k) ≡ flat_map pieces_in (map statement_of (out-Block k).stmts)
pieces-block k = ap pieces_in_block (block_of-is k) ∙ each_statement (map statement_of (out-Block k).stmts)

pub ruleset piece_laws = (statement_equations, each_arm, append_assoc, append-nil)

pub ruleset block_laws = (pieces-block)
