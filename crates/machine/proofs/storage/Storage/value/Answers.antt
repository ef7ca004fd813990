use Rattle.std.proofs.Common.{sym, ◌∙◌, arith}
use Rattle.machine.specs.Stored.{names_in}
use Rattle.machine.proofs.Places.{held_at}
use Rattle.machine.proofs.storage.Storage.value.Goals as goal

pub returns : goal.returns
returns c = λ cell p.
    let s = c.args.self.now in
    held_at (names_in s) s.values.items cell c.args.at c.index.result.now p
    (omega (arith, s.filled, s.values.ok.0, c.requires)) ∙ sym c.index.ensures
