use Rattle.std.proofs.Common.{sym, subst, refl}
use Rattle.tool.specs.declared.report.outcome.Outcome.{Outcome}
use Rattle.tool.specs.declared.commands.commands.Command.TheVariants.{Graph}
use Rattle.tool.specs.Works.{Works}
use Rattle.tool.proofs.Readings.{not_worked, listed, text_given, text_cut}
use Rattle.meaning.specs.Dialect.{fortran77}
use Rattle.tree.specs.declared.width.Width.TheVariants.{Wide}
use Rattle.meaning.proofs.Widths.{program_widens, widest}
use Rattle.tree.specs.View.{program_of}
use Rattle.tool.proofs.listings.graph.Goals as goal

pub returns-in-Err-clause-works : goal.returns-in-Err-clause-works
returns-in-Err-clause-works g c =
    subst (λ (o : Outcome). Works (Graph c.args.width) c.args.deck.now (record { before = g.K.Sink.taken c.args.out.now; now = g.K.Sink.taken c.args.out.now; faults_before = g.K.Sink.faults c.args.out.now; faults_now = g.K.Sink.faults c.args.out.now }) o)
    (sym c.unread.ensures)
    (not_worked (Graph c.args.width) c.args.deck.now c.source_and_input.result.0.now _ c.read77.result c.in-Err.refused c.requires c.source_and_input.ensures.source c.in-Err.is c.read77.ensures.refused c.read77.ensures.only_read refl)

pub returns-in-Ok-write_all-clause-works : goal.returns-in-Ok-write_all-clause-works
returns-in-Ok-write_all-clause-works g c =
    text_given (Graph c.args.width) c.args.deck.now _ _
    (listed c.args.width c.args.deck.now c.source_and_input.result.0.now c.read77.result c.in-Ok.program _ _ c.requires
    c.source_and_input.ensures.source c.in-Ok.is c.in-Ok.ensures.ok c.read77.ensures.only_read c.read77.ensures.only_refused
    c.in-Ok-listing_text.ensures c.as_slice.ensures.value)
    c.in-Ok-write_all.ensures.ok

pub returns-clause-works : goal.returns-clause-works
returns-clause-works g c =
    text_cut (Graph c.args.width) c.args.deck.now _ _
    (listed c.args.width c.args.deck.now c.source_and_input.result.0.now c.read77.result c.in-Ok.program _ _ c.requires
    c.source_and_input.ensures.source c.in-Ok.is c.in-Ok.ensures.ok c.read77.ensures.only_read c.read77.ensures.only_refused
    c.in-Ok-listing_text.ensures c.as_slice.ensures.value)
    c.in-Err-write_all.ensures.fault c.in-Err-write_all.ensures.part

pub listing_text-requires : goal.listing_text-requires
listing_text-requires g c = program_widens (fortran77 c.args.width) (fortran77 Wide) (widest c.args.width) (program_of c.in-Ok.program) c.in-Ok.ensures.program
