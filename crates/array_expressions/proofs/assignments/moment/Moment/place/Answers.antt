use Rattle.std.proofs.Common.{sym, ◌∙◌, subst, ℤ, List, map}
use Rattle.tree.specs.Plain.{subscripts}
use Rattle.tree.specs.View.{subscript_of}
use Rattle.meaning.specs.Dialect.{fortran90}
use Rattle.meaning.specs.Store.{cell_at}
use Rattle.meaning.specs.Value.{subscript_values}
use Rattle.machine.proofs.Residuals.{residual}
use Rattle.array_values.specs.storage.Slots.{Finds}
use Rattle.array_values.specs.storage.Stored.{store_in}
use Rattle.array_expressions.specs.assignments.Moments.{slots_of}
use Rattle.array_expressions.proofs.assignments.Cells.{numbers_stuck, place_stuck, place_found}
use Rattle.array_expressions.proofs.assignments.Lacking.{asked_of}
use Rattle.array_expressions.proofs.assignments.moment.Moment.place.Goals as goal

pub returns-in_err-numbers-clause-found : goal.returns-in_err-numbers-clause-found
returns-in_err-numbers-clause-found c =
    rw (residual c.from_residual.ensures.1)
    (numbers_stuck c.args.width (slots_of c.args.self.now) c.args.line (store_in c.args.self.now.storage) c.args.item.now c.in_err-numbers.field-0.0
    (asked_of c.args.line (λ (is : List ℤ). is) (subscript_values (fortran90 c.args.width) (subscripts (map subscript_of c.args.item.now.subs))) c.numbers.result _ c.scope.result.storage.now c.args.self.now.storage
    c.scope.ensures (sym c.in_err-numbers.was ∙ c.at.ensures) c.numbers.ensures))

pub returns-in_err-place-clause-found : goal.returns-in_err-place-clause-found
returns-in_err-place-clause-found c =
    let s = store_in c.args.self.now.storage in
    rw (residual c.from_residual-in_err-place.ensures.1)
    (place_stuck c.args.width (slots_of c.args.self.now) c.args.line s c.args.item.now c.in_ok-numbers.numbers
    (asked_of c.args.line (λ (is : List ℤ). is) (subscript_values (fortran90 c.args.width) (subscripts (map subscript_of c.args.item.now.subs))) c.numbers.result _ c.scope.result.storage.now c.args.self.now.storage
    c.scope.ensures (sym c.in_ok-numbers.was ∙ c.at.ensures) c.numbers.ensures)
    c.place.result c.in_err-place.field-0.0
    (subst (λ is. Finds (slots_of c.args.self.now) (cell_at c.args.item.now.name is s) c.place.result) c.as_slice.ensures c.place.ensures.found)
    (sym c.in_err-place.was ∙ c.at-2.ensures))

pub returns-clause-found : goal.returns-clause-found
returns-clause-found c =
    let s = store_in c.args.self.now.storage in
    place_found c.args.width (slots_of c.args.self.now) c.args.line s c.args.item.now c.in_ok-numbers.numbers
    (asked_of c.args.line (λ (is : List ℤ). is) (subscript_values (fortran90 c.args.width) (subscripts (map subscript_of c.args.item.now.subs))) c.numbers.result _ c.scope.result.storage.now c.args.self.now.storage
    c.scope.ensures (sym c.in_ok-numbers.was ∙ c.at.ensures) c.numbers.ensures)
    c.place.result c.in_ok-place.place
    (subst (λ is. Finds (slots_of c.args.self.now) (cell_at c.args.item.now.name is s) c.place.result) c.as_slice.ensures c.place.ensures.found)
    (sym c.in_ok-place.was ∙ c.at-2.ensures)
