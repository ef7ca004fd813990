use Rattle.std.proofs.Common.{sym, subst, refl}
use Rattle.std.specs.Option.{option_copied}
use Rattle.tool.specs.declared.report.outcome.Outcome.{Outcome}
use Rattle.tool.specs.Translation.{IsUntranslated}
use Rattle.tool.proofs.Readings.{not_translated, translated}
use Rattle.meaning.specs.Dialect.{fortran77}
use Rattle.tree.specs.declared.width.Width.TheVariants.{Wide}
use Rattle.meaning.proofs.Widths.{program_widens, widest}
use Rattle.tree.specs.View.{program_of}
use Rattle.tool.proofs.translations.translation_of.Goals as goal

pub returns-in-Err-clause-untranslated : goal.returns-in-Err-clause-untranslated
returns-in-Err-clause-untranslated c =
    subst (λ (o : Outcome). IsUntranslated c.args.width c.args.deck.now o) (sym c.unread.ensures)
    (not_translated c.args.width c.args.deck.now c.source_and_input.result.0.now c.read77.result c.in-Err.refused c.requires c.source_and_input.ensures.source c.in-Err.is c.read77.ensures.refused c.read77.ensures.only_read)

pub returns-in-Ok-translation-clause-translation : goal.returns-in-Ok-translation-clause-translation
returns-in-Ok-translation-clause-translation c =
    translated c.args.width c.args.deck.now c.source_and_input.result.0.now (option_copied c.source_and_input.result.1) c.read77.result c.in-Ok.program _ c.requires
    c.source_and_input.ensures.source c.source_and_input.ensures.input c.source_and_input.ensures.there c.in-Ok.is c.in-Ok.ensures.ok c.read77.ensures.only_read c.read77.ensures.only_refused
    c.in-Ok-translation.ensures

pub translation-requires : goal.translation-requires
translation-requires c = program_widens (fortran77 c.args.width) (fortran77 Wide) (widest c.args.width) (program_of c.in-Ok.program) c.in-Ok.ensures.program
