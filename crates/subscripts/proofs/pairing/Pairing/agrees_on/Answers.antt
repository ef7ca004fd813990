use Rattle.std.proofs.Common.{rules, refl, ◌≡◌, arith, get_or, take, All}
use Rattle.std.specs.Prelude.{FitsSigned, ℤ, pos}
use Rattle.std.proofs.lemmas.Int.{ints, to_z-of_z}
use Rattle.std.proofs.lemmas.List.{take_all, take_more}
use Rattle.std.proofs.lemmas.List.Elements.{All-push, All-get_or}
use mir.Syntax.{w64}
use Rattle.subscripts.specs.Forms.{coefficient}
use Rattle.subscripts.proofs.pairing.Pairing.agrees_on.Goals as goal

pub loop-symbol-preserved : goal.loop-symbol-preserved
loop-symbol-preserved c =
    rw (take_more c.args.symbols.now c.loop-symbol.symbol-index (0, pos 0) (omega arith))
    (All-push (λ t. coefficient c.args.self.now.from.syms t.0 ≡ coefficient c.args.self.now.to.syms t.0) _ _ c.loop-symbol.invariant (let f : FitsSigned w64 c.symbol_difference.result = search rules in let z = c.if-symbol_difference-ne0.false in omega (arith, ints)))

pub returns : goal.returns
returns c =
    let e = take_all c.loop-symbol.symbol-index c.args.symbols.now (omega arith) in
    (λ t. rw e at c.loop-symbol.invariant, λ a. refl)
