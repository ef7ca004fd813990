use Rattle.std.proofs.Common.{rules}
use Rattle.std.specs.Prelude.{pos, FitsSigned}
use Rattle.std.proofs.lemmas.Int.{to_z-of_z}
use mir.Syntax.{w128}
use Rattle.subscripts.specs.Classes.{Cancels}
use Rattle.dependence_tests.proofs.delta_test.Alone.{left_constant}
use Rattle.dependence_tests.proofs.delta_test.left.left_of.Goals as goal

pub returns-then-are_zero-2 : goal.returns-then-are_zero-2
returns-then-are_zero-2 c =
    let fr : FitsSigned w128 c.args.r.now.constant = search rules in
    let n : Cancels c.args.r.now.pairing = c.symbols_cancel.ensures.0 (search rules) in
    let f = c.are_zero.ensures.0 c.if-are_zero.true in
    let t = c.are_zero-then-are_zero.ensures.0 c.if-are_zero-2.true in
    simp to_z-of_z (left_constant c.args.r.now n (λ k l. f k (pos 0) l) (λ k l. t k (pos 0) l))
