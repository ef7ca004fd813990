use Rattle.std.proofs.Common.{◌≡◌, sym, ap, ◌∙◌, ◌+◌, ◌-◌, take, drop, List, Result, Ok, arith}
use mathlib.Core.Path.{ap₂}
use Rattle.tree.specs.declared.ops.Value.{Value}
use Rattle.tree.specs.declared.ops.Fault.{Fault}
use Rattle.meaning.specs.Extents.{elements_of}
use Rattle.machine.specs.Stored.{names_in, bounds_here}
use Rattle.machine.proofs.PrintLaws.{all_found}
use Rattle.machine.proofs.storage.Storage.all.Goals as goal

pub returns : goal.returns
returns c =
    let v = c.in-Some.variable.now in
    let s = c.args.self.now in
    let n : elements_of (bounds_here v) ≡ v.start + c.elements.result - v.start =
    (let e = c.elements.ensures ∙ ap elements_of c.dims_of.ensures in omega arith) in
    all_found (names_in s) s.values.items c.args.name v c.in-Some.ensures (omega (arith, s.filled, s.values.ok.0))
    ∙ ap₂ (λ m (xs : List Value). let r : Result (List Value) Fault = Ok (take m (drop v.start xs)) in r) n (sym c.deref.ensures.value)
