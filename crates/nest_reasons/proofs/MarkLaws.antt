-- Marks of lists of statements and of arms.
use Rattle.std.proofs.Common.{◌≡◌, Bool, List, [], ◌∷◌, ◌++◌, map, refl, ap, ◌∙◌, append_assoc}
use Rattle.std.specs.List.{flat_map}
use Rattle.std.proofs.lemmas.List.{append-nil}
use Rattle.tree.specs.Plain.{Statement, block}
use Rattle.tree.specs.View.{statement_of, block_of, arms, Tested}
use Rattle.tree.specs.declared.stmts.Block.{Block, out-Block}
use Rattle.tree.proofs.Equations.{statement_equations, block_of-is}
use Rattle.nest_reasons.specs.Marks.{own_marks, marks_in_arms, marks_in_block}
use Rattle.nest_reasons.specs.Arms.{marks_in_arm}

pub each_arm : (ts : List Tested) → marks_in_arms (arms ts) ≡ flat_map marks_in_arm ts
each_arm [] = refl
each_arm (t ∷ ts) = ap (λ ms. marks_in_arm t ++ ms) (each_arm ts)

pub each_statement : (b : Bool) (cs : List Statement) → marks_in_block b (block cs) ≡ flat_map (own_marks b) cs
each_statement b [] = refl
each_statement b (c ∷ cs) = ap (λ ms. own_marks b c ++ ms) (each_statement b cs)

pub marks-block : (b : Bool) (k : Block) → marks_in_block b (block_of k) ≡ flat_map (own_marks b) (map statement_of (out-Block k).stmts)
marks-block b k = ap (marks_in_block b) (block_of-is k) ∙ each_statement b (map statement_of (out-Block k).stmts)

pub ruleset mark_laws = (statement_equations, each_arm, append_assoc, append-nil)

pub ruleset block_laws = (marks-block)
