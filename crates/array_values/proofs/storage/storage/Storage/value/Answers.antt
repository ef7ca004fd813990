use Rattle.std.proofs.Common.{sym, ◌∙◌}
use Rattle.array_values.specs.storage.Stored.{slots_in}
use Rattle.array_values.proofs.storage.Places.{held_at}
use Rattle.array_values.proofs.storage.storage.Storage.value.Goals as goal

pub returns : goal.returns
returns c = λ x is e.
    held_at (slots_in c.args.self.now) x is c.args.place e c.index.result.now c.index.ensures c.index-2.result.now (c.requires.at c.index.result.now c.index.ensures)
    ∙ sym c.index-2.ensures
