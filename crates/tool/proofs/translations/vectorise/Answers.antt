use Rattle.std.proofs.Common.{subst, refl}
use Rattle.tool.specs.declared.commands.commands.Command.TheVariants.{Vectorise}
use Rattle.tool.proofs.Readings.{untranslated_works, translation_text, text_given, text_cut}
use Rattle.tool.proofs.translations.vectorise.Goals as goal

pub returns-in-Err-clause-works : goal.returns-in-Err-clause-works
returns-in-Err-clause-works g c = untranslated_works c.args.width c.args.deck.now _ _ _ c.in-Err.outcome c.in-Err.ensures.untranslated

pub returns-in-Ok-write_all-clause-works : goal.returns-in-Ok-write_all-clause-works
returns-in-Ok-write_all-clause-works g c =
    text_given (Vectorise c.args.width) c.args.deck.now _ _
    (translation_text c.args.width c.args.deck.now c.as_slice.result.now _ c.in-Ok.ensures.translation c.as_slice.ensures.value)
    c.in-Ok-write_all.ensures.ok

pub returns-clause-works : goal.returns-clause-works
returns-clause-works g c =
    text_cut (Vectorise c.args.width) c.args.deck.now _ _
    (translation_text c.args.width c.args.deck.now c.as_slice.result.now _ c.in-Ok.ensures.translation c.as_slice.ensures.value)
    c.in-Err-write_all.ensures.fault c.in-Err-write_all.ensures.part
