use Rattle.machine.proofs.Residuals.{residual}
use Rattle.array_values.specs.storage.Stored.{slots_in}
use Rattle.array_values.proofs.storage.PlaceLaws.{unknown_place, place_found, place_missed}
use Rattle.array_values.proofs.storage.storage.Storage.place.Goals as goal

pub returns-in_default-clause-found : goal.returns-in_default-clause-found
returns-in_default-clause-found c = unknown_place (slots_in c.args.self.now) c.args.name c.args.numbers.now c.in_default.ensures.bounds

pub returns-in_err-at-clause-found : goal.returns-in_err-at-clause-found
returns-in_err-at-clause-found c =
    rw (residual c.from_residual.ensures.1)
    (place_missed (slots_in c.args.self.now) c.args.name c.args.numbers.now c.index.result.now c.in-Some.slot c.in_err-at.field-0.0 (c.in-Some.ensures.named c.index.result.now c.index.ensures) c.in_err-at.ensures.place)

pub returns-clause-found : goal.returns-clause-found
returns-clause-found c =
    place_found (slots_in c.args.self.now) c.args.name c.args.numbers.now c.index.result.now c.in-Some.slot c.in_ok-at.at (c.in-Some.ensures.named c.index.result.now c.index.ensures) c.in_ok-at.ensures.place
