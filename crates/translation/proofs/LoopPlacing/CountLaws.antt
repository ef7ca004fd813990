-- The numbers of loops in the trees of a program.
use Rattle.tree.proofs.Equations.{statement_equations}
use Rattle.find_nests.proofs.NestParts.PartLaws.{number_after-if, number_after-do, number_after-arm, number_after-block}

pub ruleset count_laws = (statement_equations, number_after-if, number_after-do, number_after-arm)

pub ruleset block_laws = (number_after-block)
