use Rattle.std.proofs.Common.{arith}
use Rattle.machine.specs.Stored.{names_in}
use Rattle.machine.proofs.Places.{put_is}
use Rattle.machine.proofs.storage.Storage.put.Goals as goal

pub returns-clause-stored : goal.returns-clause-stored
returns-clause-stored c = λ cell p.
    let s = c.args.self.now in
    put_is (names_in s) s.values.items cell c.args.at c.args.value p (omega (arith, s.filled, s.values.ok.0, c.requires))
