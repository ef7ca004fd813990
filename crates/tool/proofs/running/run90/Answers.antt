use Rattle.std.proofs.Common.{◌≡◌, List, ℕ, [], sym, ◌∙◌, subst, refl}
use Rattle.tree.specs.Plain.{Program}
use Rattle.tree.specs.View.{program_of_90}
use Rattle.meaning.specs.Dialect.{fortran90}
use Rattle.meaning.specs.Run.{run}
use Rattle.tool.specs.Running.{run_text}
use Rattle.tool.specs.declared.report.outcome.Outcome.{Outcome}
use Rattle.tool.specs.declared.commands.commands.Command.TheVariants.{Run90}
use Rattle.tool.specs.Works.{Works}
use Rattle.tool.proofs.Readings.{not_worked, only_program, run_comes90, source_within, source_fits}
use Rattle.tool.proofs.running.run90.Goals as goal

pub returns-in-Err-clause-works : goal.returns-in-Err-clause-works
returns-in-Err-clause-works g c =
    subst (λ (o : Outcome). Works (Run90 c.args.options) c.args.deck.now (record { before = g.K.Sink.taken c.args.out.now; now = g.K.Sink.taken c.args.out.now; faults_before = g.K.Sink.faults c.args.out.now; faults_now = g.K.Sink.faults c.args.out.now }) o)
    (sym c.unread.ensures)
    (not_worked (Run90 c.args.options) c.args.deck.now c.source_and_input.result.0.now _ c.read90.result c.in-Err.refused c.requires c.source_and_input.ensures.source c.in-Err.is c.read90.ensures.refused c.read90.ensures.only_read refl)

pub returns-in-Ok-new-clause-works : goal.returns-in-Ok-new-clause-works
returns-in-Ok-new-clause-works g c =
    run_comes90 c.args.options c.args.deck.now c.source_and_input.result.0.now c.bytes_of.result.now _ c.read90.result c.in-Ok.program c.run_machine90.result c.requires
    c.source_and_input.ensures.source (c.bytes_of.ensures ∙ c.source_and_input.ensures.input) c.in-Ok.is c.in-Ok.ensures.ok c.read90.ensures.only_read c.read90.ensures.only_refused
    (c.run_machine90.ensures.comes _ (c.in-Ok.ensures.program (source_within c.args.deck.now c.source_and_input.result.0.now c.requires c.source_and_input.ensures.source)) c.in-Ok-new.ensures.machine)

pub read90-requires : goal.read90-requires
read90-requires g c = source_fits c.args.deck.now c.source_and_input.result.0.now c.requires c.source_and_input.ensures.source

pub new-requires : goal.new-requires
new-requires g c = c.in-Ok.ensures.program (source_within c.args.deck.now c.source_and_input.result.0.now c.requires c.source_and_input.ensures.source)

pub returns-in-Ok-new-clause-textless : goal.returns-in-Ok-new-clause-textless
returns-in-Ok-new-clause-textless g c p reads none =
    let same : p ≡ program_of_90 c.in-Ok.program =
    only_program (Run90 c.args.options) c.args.deck.now c.source_and_input.result.0.now c.read90.result c.in-Ok.program c.source_and_input.ensures.source c.in-Ok.is c.read90.ensures.only_read p reads in
    c.run_machine90.ensures.textless (program_of_90 c.in-Ok.program) (c.in-Ok.ensures.program (source_within c.args.deck.now c.source_and_input.result.0.now c.requires c.source_and_input.ensures.source)) c.in-Ok-new.ensures.machine
    (subst (λ (q : Program). run_text c.args.options q (run (fortran90 c.args.options.width) c.args.options.steps q c.bytes_of.result.now) ≡ []) same
    (subst (λ (t : List ℕ). run_text c.args.options p (run (fortran90 c.args.options.width) c.args.options.steps p t) ≡ []) (sym (c.bytes_of.ensures ∙ c.source_and_input.ensures.input)) none))
