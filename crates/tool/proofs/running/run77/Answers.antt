use Rattle.std.proofs.Common.{◌≡◌, List, ℕ, [], sym, ◌∙◌, subst, refl}
use Rattle.tree.specs.Plain.{Program}
use Rattle.tree.specs.View.{program_of}
use Rattle.meaning.specs.Dialect.{fortran77}
use Rattle.meaning.specs.Run.{run}
use Rattle.tool.specs.Running.{run_text}
use Rattle.tool.specs.declared.report.outcome.Outcome.{Outcome}
use Rattle.tool.specs.declared.commands.commands.Command.TheVariants.{Run77}
use Rattle.tool.specs.Works.{Works}
use Rattle.tool.proofs.Readings.{not_worked, only_program, run_comes77}
use Rattle.tool.proofs.running.run77.Goals as goal

pub returns-in-Err-clause-works : goal.returns-in-Err-clause-works
returns-in-Err-clause-works g c =
    subst (λ (o : Outcome). Works (Run77 c.args.options) c.args.deck.now (record { before = g.K.Sink.taken c.args.out.now; now = g.K.Sink.taken c.args.out.now; faults_before = g.K.Sink.faults c.args.out.now; faults_now = g.K.Sink.faults c.args.out.now }) o)
    (sym c.unread.ensures)
    (not_worked (Run77 c.args.options) c.args.deck.now c.source_and_input.result.0.now _ c.read77.result c.in-Err.refused c.requires c.source_and_input.ensures.source c.in-Err.is c.read77.ensures.refused c.read77.ensures.only_read refl)

pub returns-in-Ok-new-clause-works : goal.returns-in-Ok-new-clause-works
returns-in-Ok-new-clause-works g c =
    run_comes77 c.args.options c.args.deck.now c.source_and_input.result.0.now c.bytes_of.result.now _ c.read77.result c.in-Ok.program c.run_machine77.result c.requires
    c.source_and_input.ensures.source (c.bytes_of.ensures ∙ c.source_and_input.ensures.input) c.in-Ok.is c.in-Ok.ensures.ok c.read77.ensures.only_read c.read77.ensures.only_refused
    (c.run_machine77.ensures.comes _ c.in-Ok.ensures.program c.in-Ok-new.ensures.machine)

pub returns-in-Ok-new-clause-textless : goal.returns-in-Ok-new-clause-textless
returns-in-Ok-new-clause-textless g c p reads none =
    let same : p ≡ program_of c.in-Ok.program =
    only_program (Run77 c.args.options) c.args.deck.now c.source_and_input.result.0.now c.read77.result c.in-Ok.program c.source_and_input.ensures.source c.in-Ok.is c.read77.ensures.only_read p reads in
    c.run_machine77.ensures.textless (program_of c.in-Ok.program) c.in-Ok.ensures.program c.in-Ok-new.ensures.machine
    (subst (λ (q : Program). run_text c.args.options q (run (fortran77 c.args.options.width) c.args.options.steps q c.bytes_of.result.now) ≡ []) same
    (subst (λ (t : List ℕ). run_text c.args.options p (run (fortran77 c.args.options.width) c.args.options.steps p t) ≡ []) (sym (c.bytes_of.ensures ∙ c.source_and_input.ensures.input)) none))
