use Rattle.std.proofs.Common.{◌≡◌, arith, rules}
use Rattle.std.specs.Str.{bytes_eq}
use Rattle.nest.specs.Plain.{Made}
use Rattle.nest.specs.View.{made_of}
use Rattle.nest.proofs.statement_loops.StandingLaws.{finds, finds_none}
use Rattle.array_form.proofs.holds.noted.is_made.Goals as goal

pub returns-then-eq : goal.returns-then-eq
returns-then-eq c =
    let same : c.as_slice-array-items.result.now ≡ c.args.nest.now.made = first_of (cc, search rules) in
    let is : c.eq.result ≡ bytes_eq c.array-item.result.name c.args.name = first_of (cc, search rules) in
    finds (λ (m : Made). bytes_eq m.name c.args.name) made_of c.as_slice-array-items.result.now c.args.nest.now.made c.loop-array.array-index c.array-item.result c.eq.result same (omega arith) c.array-item.is is c.if-eq.true

pub returns : goal.returns
returns c =
    let same : c.as_slice-array-items.result.now ≡ c.args.nest.now.made = first_of (cc, search rules) in
    finds_none (λ (m : Made). bytes_eq m.name c.args.name) made_of c.as_slice-array-items.result.now c.args.nest.now.made c.loop-array.array-index same (omega arith) c.loop-array.invariant
