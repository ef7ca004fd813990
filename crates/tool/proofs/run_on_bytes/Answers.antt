use Rattle.std.proofs.Common.{◌≡◌, [], subst}
use Rattle.tool.specs.declared.commands.commands.Command.{Command}
use Rattle.tool.specs.Decks.{Reads}
use Rattle.tool.specs.Running.{text_of_run}
use Rattle.tool.proofs.run_on_bytes.Goals as goal

pub returns-in-Run77-clause-textless : goal.returns-in-Run77-clause-textless
returns-in-Run77-clause-textless g c runs p reads none =
    c.run77.ensures.textless p (subst (λ (k : Command). Reads k c.args.deck.now p) c.in-Run77.is reads)
    (subst (λ (k : Command). text_of_run k c.args.deck.now p ≡ []) c.in-Run77.is none)

pub returns-in-Run90-clause-textless : goal.returns-in-Run90-clause-textless
returns-in-Run90-clause-textless g c runs p reads none =
    c.run90.ensures.textless p (subst (λ (k : Command). Reads k c.args.deck.now p) c.in-Run90.is reads)
    (subst (λ (k : Command). text_of_run k c.args.deck.now p ≡ []) c.in-Run90.is none)
