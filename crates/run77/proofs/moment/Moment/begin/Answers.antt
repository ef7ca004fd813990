use Rattle.std.proofs.Common.{sym, subst}
use Rattle.machine.specs.Moments.{seen_at}
use Rattle.machine.specs.Stored.{names_in, store_in}
use Rattle.machine.specs.Endings.{IsOpening}
use Rattle.machine.proofs.MachineLaws.{opens}
use Rattle.run77.proofs.moment.Moment.begin.Goals as goal

pub returns-clause-opening : goal.returns-clause-opening
returns-clause-opening c =
    let st = c.reset.new.self in
    subst (λ p. IsOpening c.args.limit (seen_at (names_in st) (store_in st) p)) (sym c.begin-self.ensures)
    (opens (names_in st) (store_in st) c.args.limit c.reset.ensures.opened)
