use Rattle.std.proofs.Common.{refl, ◌∙◌}
use Rattle.meaning.specs.Dialect.{fortran77}
use Rattle.meaning.specs.Run.{run}
use Rattle.meaning.specs.declared.End.TheVariants as end
use Rattle.tool.proofs.Runs.{run_cut, run_whole, unasked, store_shown, store_cut, unwritten, unshown}
use Rattle.tool.proofs.running.run_machine77.Goals as goal

pub returns-in-Fault-clause-comes : goal.returns-in-Fault-clause-comes
returns-in-Fault-clause-comes g c p profile machine =
    run_whole c.args.options p (run (fortran77 c.args.options.width) c.args.options.steps p c.args.input.now) _ _ (end.Fault c.in-Fault.fault c.in-Fault.line) refl
    (c.in-Fault.ensures.run c.args.options.width p profile machine)

pub returns-in-StepLimit-clause-comes : goal.returns-in-StepLimit-clause-comes
returns-in-StepLimit-clause-comes g c p profile machine =
    run_whole c.args.options p (run (fortran77 c.args.options.width) c.args.options.steps p c.args.input.now) _ _ end.StepLimit refl
    (c.in-StepLimit.ensures.run c.args.options.width p profile machine)

pub returns-then-not-options-clause-comes : goal.returns-then-not-options-clause-comes
returns-then-not-options-clause-comes g c p profile machine =
    let s = run (fortran77 c.args.options.width) c.args.options.steps p c.args.input.now in
    run_whole c.args.options p s _ _ end.Done (unasked c.args.options p s c.if-not-options.true) (c.in-Done.ensures.run c.args.options.width p profile machine)

pub returns-in-WriteFault-clause-comes : goal.returns-in-WriteFault-clause-comes
returns-in-WriteFault-clause-comes g c p profile machine =
    run_cut c.args.options p _ p.declarations _ _ (c.in-WriteFault.ensures.run c.args.options.width p profile machine) (c.in-WriteFault.ensures.fault refl)

pub returns-in-Ok-clause-comes : goal.returns-in-Ok-clause-comes
returns-in-Ok-clause-comes g c p profile machine =
    store_shown c.args.options p _ _ _ _ c.if-not-options.false (c.in-Done.ensures.run c.args.options.width p profile machine) (c.in-Ok.ensures.text c.args.options.width p (c.run.ensures.machine c.args.options.width p profile machine))

pub returns-in-Err-clause-comes : goal.returns-in-Err-clause-comes
returns-in-Err-clause-comes g c p profile machine =
    store_cut c.args.options p _ _ _ _ _ c.if-not-options.false (c.in-Done.ensures.run c.args.options.width p profile machine) (c.in-Err.ensures.text c.args.options.width p (c.run.ensures.machine c.args.options.width p profile machine))
    c.run.ensures.later c.in-Err.ensures.fault

pub returns-in-WriteFault-clause-textless : goal.returns-in-WriteFault-clause-textless
returns-in-WriteFault-clause-textless g c p profile machine none =
    c.run.ensures.untouched c.args.options.width p profile machine (unwritten c.args.options p (run (fortran77 c.args.options.width) c.args.options.steps p c.args.input.now) none)

pub returns-in-Ok-clause-textless : goal.returns-in-Ok-clause-textless
returns-in-Ok-clause-textless g c p profile machine none =
    let s = run (fortran77 c.args.options.width) c.args.options.steps p c.args.input.now in
    let ended = c.in-Done.ensures.run c.args.options.width p profile machine in
    c.show.ensures.untouched c.args.options.width p (c.run.ensures.machine c.args.options.width p profile machine) (unshown c.args.options p s _ c.if-not-options.false ended.ending ended.store none)
    ∙ c.run.ensures.untouched c.args.options.width p profile machine (unwritten c.args.options p s none)

pub returns-in-Err-clause-textless : goal.returns-in-Err-clause-textless
returns-in-Err-clause-textless g c p profile machine none =
    let s = run (fortran77 c.args.options.width) c.args.options.steps p c.args.input.now in
    let ended = c.in-Done.ensures.run c.args.options.width p profile machine in
    c.show.ensures.untouched c.args.options.width p (c.run.ensures.machine c.args.options.width p profile machine) (unshown c.args.options p s _ c.if-not-options.false ended.ending ended.store none)
    ∙ c.run.ensures.untouched c.args.options.width p profile machine (unwritten c.args.options p s none)
