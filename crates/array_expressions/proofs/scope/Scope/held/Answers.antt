use Rattle.std.proofs.Common.{sym, ◌∙◌, arith, rules}
use Rattle.array_values.proofs.Steps.{residual, settled}
use Rattle.array_values.specs.storage.Stored.{slots_in}
use Rattle.array_expressions.proofs.HeldLaws.{held_fault, held_found, element_held, scalar_held, local_held, no_numbers, some_numbers}
use Rattle.array_expressions.proofs.scope.Scope.held.Goals as goal

pub returns-in_err-place : goal.returns-in_err-place
returns-in_err-place c =
    residual c.from_residual.ensures.1
    ∙ held_fault c.args.locals.now (slots_in c.args.self.now.storage.now) c.args.name c.args.numbers.now c.in_err-place.field-0.0 c.in_err-place.ensures.found

pub returns-then-not-is_empty : goal.returns-then-not-is_empty
returns-then-not-is_empty c =
    let vs = slots_in c.args.self.now.storage.now in
    let x = c.args.name in
    let is = c.args.numbers.now in
    held_found c.args.locals.now vs x is c.in_ok-place.place c.value.result c.in_ok-place.ensures.found
    (λ e. element_held c.args.locals.now vs x is c.value.result (some_numbers is c.is_empty.result c.is_empty.ensures c.if-not-is_empty.true) (c.value.ensures x is e))

pub returns-in-None : goal.returns-in-None
returns-in-None c =
    let vs = slots_in c.args.self.now.storage.now in
    let x = c.args.name in
    let is = c.args.numbers.now in
    held_found c.args.locals.now vs x is c.in_ok-place.place c.value-in-None.result c.in_ok-place.ensures.found
    (λ e. scalar_held c.args.locals.now vs x is c.value-in-None.result (no_numbers is c.is_empty.result c.is_empty.ensures c.if-not-is_empty.false) c.in-None.ensures (c.value-in-None.ensures x is e))

pub returns-in-Some : goal.returns-in-Some
returns-in-Some c =
    let vs = slots_in c.args.self.now.storage.now in
    let x = c.args.name in
    let is = c.args.numbers.now in
    rw (settled c.in-Some.number (search rules))
    (held_found c.args.locals.now vs x is c.in_ok-place.place _ c.in_ok-place.ensures.found
    (λ e. local_held c.args.locals.now vs x is c.in-Some.number (no_numbers is c.is_empty.result c.is_empty.ensures c.if-not-is_empty.false) c.in-Some.ensures))
