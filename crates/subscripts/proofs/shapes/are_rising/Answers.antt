use Rattle.std.proofs.Common.{◌-◌, refl, arith}
use Rattle.std.proofs.lemmas.Bool.{false≢true}
use Rattle.subscripts.proofs.SymbolPlaces.{rises, stops}
use Rattle.subscripts.proofs.shapes.are_rising.Goals as goal

pub returns-then-symbols-place : goal.returns-then-symbols-place
returns-then-symbols-place c = (
  λ t. absurd (false≢true t),
  λ h. absurd (stops c.args.symbols.now (c.loop-place.place - 1) c.loop-place.place (omega arith) (omega arith) (omega arith) h),
)

pub returns : goal.returns
returns c = (λ t. rises c.args.symbols.now c.loop-place.place (omega arith) c.loop-place.invariant, λ _. refl)
