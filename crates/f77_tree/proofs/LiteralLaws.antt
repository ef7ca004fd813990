-- Values as expressions.
use Rattle.std.proofs.Common.{◌≡◌, ℤ, pos, negsuc, refl, arith}
use Rattle.std.specs.Prelude.{◌≤ℤ◌, ◌<ℤ◌, neg_ℤ}
use Rattle.tree.specs.Plain.{Number, Unary}
use Rattle.tree.specs.declared.ops.Op.TheVariants.{Neg}
use Rattle.tree.specs.declared.ops.Value.TheVariants.{Int}
use Rattle.tree.proofs.Equations.{expression_of-int, expression_of-truth, expression_of-un}
use Rattle.f77_grammar.specs.program.Tree as tree

pub literal-number : (z : ℤ) → pos 0 ≤ℤ z → tree.literal (Int z) ≡ Number z
literal-number (pos n) h = refl
literal-number (negsuc n) h = grind arith

pub literal-negative : (z : ℤ) → z <ℤ pos 0 → tree.literal (Int z) ≡ Unary Neg (Number (neg_ℤ z))
literal-negative (pos n) h = grind arith
literal-negative (negsuc n) h = refl

pub ruleset literal_laws = (expression_of-int, expression_of-truth, expression_of-un, literal-number, literal-negative)
