use Rattle.std.proofs.Common.{sym, ap, ◌∙◌, subst, List, Ok, Err}
use Rattle.std.specs.Prelude.{IfOk}
use Rattle.tree.specs.View.{expression_of, reference_of}
use Rattle.tree.specs.declared.ops.Value.{Value}
use Rattle.meaning.specs.Dialect.{fortran90}
use Rattle.meaning.specs.Store.{Cell}
use Rattle.meaning.specs.ArrayStatements.{writes_of}
use Rattle.meaning.specs.Run.{for_each, stores_element}
use Rattle.machine.specs.Moments.{located}
use Rattle.machine.specs.declared.progress.Left.TheVariants.{Halted}
use Rattle.machine.proofs.Residuals.{residual}
use Rattle.machine.proofs.ActLaws.{Runs-evaluates}
use Rattle.array_values.specs.storage.Stored.{slots_in, store_in}
use Rattle.array_expressions.specs.assignments.Moments.{seen, slots_of}
use Rattle.array_expressions.specs.assignments.Planning.{IsSound, Plans}
use Rattle.array_expressions.proofs.assignments.Lacking.{plan_stuck, plan_given, Runs-stuck, Extends-array_assigns}
use Rattle.array_expressions.proofs.assignments.moment.Moment.assign_array.Goals as goal

pub returns-in_err-plan : goal.returns-in_err-plan
returns-in_err-plan c = λ input bytes.
    let line = c.args.line in
    let mask = expression_of c.args.mask.now in
    let left = reference_of c.args.left.now in
    let right = expression_of c.args.right.now in
    let plans = subst (λ st. Plans (slots_in st) (writes_of (fortran90 c.args.width) mask left right (store_in st)) c.planned.result) c.scope.ensures c.planned.ensures.plans in
    rw (residual c.from_residual.ensures.1)
    (Runs-stuck line (λ (ws : List (Cell × Value)). ws) (writes_of (fortran90 c.args.width) mask left right) (λ ws limit. for_each ws (stores_element (fortran90 c.args.width) limit)) input (seen c.args.self.now) c.in_err-plan.field-0.0 bytes
    (plan_stuck line (slots_of c.args.self.now) (writes_of (fortran90 c.args.width) mask left right (store_in c.args.self.now.storage)) c.planned.result c.in_err-plan.field-0.0 (sym c.in_err-plan.was ∙ c.at.ensures) plans)
    (Extends-array_assigns (fortran90 c.args.width) line mask left right))

pub store_all-requires : goal.store_all-requires
store_all-requires c =
    let mask = expression_of c.args.mask.now in
    let left = reference_of c.args.left.now in
    let right = expression_of c.args.right.now in
    let plans = subst (λ st. Plans (slots_in st) (writes_of (fortran90 c.args.width) mask left right (store_in st)) c.planned.result) c.scope.ensures c.planned.ensures.plans in
    let sound = subst (λ st. IfOk c.planned.result (IsSound (slots_in st))) c.scope.ensures c.planned.ensures.sound in
    (plan_given c.args.line (slots_of c.args.self.now) (writes_of (fortran90 c.args.width) mask left right (store_in c.args.self.now.storage)) c.planned.result c.in_ok-plan.plan (sym c.in_ok-plan.was ∙ c.at.ensures) plans sound).1

pub returns-in_err-store_all : goal.returns-in_err-store_all
returns-in_err-store_all c = λ input bytes.
    let line = c.args.line in
    let mask = expression_of c.args.mask.now in
    let left = reference_of c.args.left.now in
    let right = expression_of c.args.right.now in
    let plans = subst (λ st. Plans (slots_in st) (writes_of (fortran90 c.args.width) mask left right (store_in st)) c.planned.result) c.scope.ensures c.planned.ensures.plans in
    let sound = subst (λ st. IfOk c.planned.result (IsSound (slots_in st))) c.scope.ensures c.planned.ensures.sound in
    let p = (plan_given line (slots_of c.args.self.now) (writes_of (fortran90 c.args.width) mask left right (store_in c.args.self.now.storage)) c.planned.result c.in_ok-plan.plan (sym c.in_ok-plan.was ∙ c.at.ensures) plans sound).0 in
    rw (residual c.from_residual-in_err-store_all.ensures.1)
    (Runs-evaluates line (writes_of (fortran90 c.args.width) mask left right) p.0 (λ ws limit. for_each ws (stores_element (fortran90 c.args.width) limit)) input (seen c.args.self.now) (seen c.store_all.new.self) bytes bytes (Err (Halted c.in_err-store_all.field-0.0))
    (sym (ap (located line) p.1)) (c.in_err-store_all.ensures c.args.width p.0 p.2 input bytes))

pub returns : goal.returns
returns c = λ input bytes.
    let line = c.args.line in
    let mask = expression_of c.args.mask.now in
    let left = reference_of c.args.left.now in
    let right = expression_of c.args.right.now in
    let plans = subst (λ st. Plans (slots_in st) (writes_of (fortran90 c.args.width) mask left right (store_in st)) c.planned.result) c.scope.ensures c.planned.ensures.plans in
    let sound = subst (λ st. IfOk c.planned.result (IsSound (slots_in st))) c.scope.ensures c.planned.ensures.sound in
    let p = (plan_given line (slots_of c.args.self.now) (writes_of (fortran90 c.args.width) mask left right (store_in c.args.self.now.storage)) c.planned.result c.in_ok-plan.plan (sym c.in_ok-plan.was ∙ c.at.ensures) plans sound).0 in
    Runs-evaluates line (writes_of (fortran90 c.args.width) mask left right) p.0 (λ ws limit. for_each ws (stores_element (fortran90 c.args.width) limit)) input (seen c.args.self.now) (seen c.store_all.new.self) bytes bytes (Ok tt)
    (sym (ap (located line) p.1)) (c.in_ok-store_all.ensures c.args.width p.0 p.2 input bytes)
