use Rattle.std.proofs.Common.{ap, Ok, ◌∙◌}
use Rattle.meaning.specs.Dialect.{fortran90}
use Rattle.meaning.specs.Run.{run}
use Rattle.meaning.specs.declared.End.TheVariants as end
use Rattle.tool.proofs.Runs.{ends_at, run_cut, run_stopped, store_shown, store_cut, unwritten, unshown}
use Rattle.tool.proofs.running.run_machine90.Goals as goal

pub returns-in_default-clause-comes : goal.returns-in_default-clause-comes
returns-in_default-clause-comes g c p profile machine =
    run_stopped c.args.options p (run (fortran90 c.args.options.width) c.args.options.steps p c.args.input.now) _ _ (c.in_default.ensures.run c.args.options.width p profile machine)

pub returns-in-WriteFault-clause-comes : goal.returns-in-WriteFault-clause-comes
returns-in-WriteFault-clause-comes g c p profile machine =
    run_cut c.args.options p _ p.declarations _ _ (ends_at _ _ _ _ _ _ end.WriteFault c.in-WriteFault.is (c.in-Ok.ensures.run c.args.options.width p profile machine))
    (c.in-Ok.ensures.fault (ap Ok c.in-WriteFault.is))

pub returns-in-Ok-show-clause-comes : goal.returns-in-Ok-show-clause-comes
returns-in-Ok-show-clause-comes g c p profile machine =
    store_shown c.args.options p _ _ _ _ c.if-not-options.false (ends_at _ _ _ _ _ _ end.Done c.in-Done.is (c.in-Ok.ensures.run c.args.options.width p profile machine))
    (c.in-Ok-show.ensures.text c.args.options.width p (c.in-Ok.ensures.machine c.args.options.width p profile machine))

pub returns-in-Err-clause-comes : goal.returns-in-Err-clause-comes
returns-in-Err-clause-comes g c p profile machine =
    store_cut c.args.options p _ _ _ _ _ c.if-not-options.false (ends_at _ _ _ _ _ _ end.Done c.in-Done.is (c.in-Ok.ensures.run c.args.options.width p profile machine))
    (c.in-Err.ensures.text c.args.options.width p (c.in-Ok.ensures.machine c.args.options.width p profile machine)) c.run.ensures.later c.in-Err.ensures.fault

pub returns-in_default-clause-textless : goal.returns-in_default-clause-textless
returns-in_default-clause-textless g c p profile machine none =
    c.run.ensures.untouched c.args.options.width p profile machine (unwritten c.args.options p (run (fortran90 c.args.options.width) c.args.options.steps p c.args.input.now) none)

pub returns-in-WriteFault-clause-textless : goal.returns-in-WriteFault-clause-textless
returns-in-WriteFault-clause-textless g c p profile machine none =
    c.run.ensures.untouched c.args.options.width p profile machine (unwritten c.args.options p (run (fortran90 c.args.options.width) c.args.options.steps p c.args.input.now) none)

pub returns-in-Ok-show-clause-textless : goal.returns-in-Ok-show-clause-textless
returns-in-Ok-show-clause-textless g c p profile machine none =
    let s = run (fortran90 c.args.options.width) c.args.options.steps p c.args.input.now in
    let ended = ends_at _ _ _ _ _ _ end.Done c.in-Done.is (c.in-Ok.ensures.run c.args.options.width p profile machine) in
    c.show.ensures.untouched c.args.options.width p (c.in-Ok.ensures.machine c.args.options.width p profile machine) (unshown c.args.options p s _ c.if-not-options.false ended.ending ended.store none)
    ∙ c.run.ensures.untouched c.args.options.width p profile machine (unwritten c.args.options p s none)

pub returns-in-Err-clause-textless : goal.returns-in-Err-clause-textless
returns-in-Err-clause-textless g c p profile machine none =
    let s = run (fortran90 c.args.options.width) c.args.options.steps p c.args.input.now in
    let ended = ends_at _ _ _ _ _ _ end.Done c.in-Done.is (c.in-Ok.ensures.run c.args.options.width p profile machine) in
    c.show.ensures.untouched c.args.options.width p (c.in-Ok.ensures.machine c.args.options.width p profile machine) (unshown c.args.options p s _ c.if-not-options.false ended.ending ended.store none)
    ∙ c.run.ensures.untouched c.args.options.width p profile machine (unwritten c.args.options p s none)
