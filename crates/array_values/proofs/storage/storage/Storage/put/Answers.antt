use Rattle.std.proofs.Common.{sym, ◌∙◌}
use Rattle.array_values.specs.storage.Stored.{slots_in}
use Rattle.array_values.proofs.storage.Places.{put_is, same_places, stores_at}
use Rattle.array_values.proofs.storage.storage.Storage.put.Goals as goal

pub invariant_of-self : goal.invariant_of-self
invariant_of-self c =
    let vs = slots_in c.args.self.now in
    let same = same_places vs c.args.place c.args.value c.put.new.self c.requires.slot
    (stores_at vs c.args.place.slot c.args.place.at c.args.value c.index_mut.result.now c.put.new.self c.requires.slot c.index_mut.ensures.value c.put.ensures) in
    record { named = c.args.self.now.named ∙ sym same.names }

pub returns-clause-stored : goal.returns-clause-stored
returns-clause-stored c = λ cell e.
    let vs = slots_in c.args.self.now in
    put_is vs cell c.args.place c.args.value c.put.new.self e
    (λ v g. (stores_at vs c.args.place.slot c.args.place.at c.args.value c.index_mut.result.now c.put.new.self c.requires.slot c.index_mut.ensures.value c.put.ensures v g, c.requires.at v g))

pub returns-clause-kept : goal.returns-clause-kept
returns-clause-kept c =
    let vs = slots_in c.args.self.now in
    same_places vs c.args.place c.args.value c.put.new.self c.requires.slot
    (stores_at vs c.args.place.slot c.args.place.at c.args.value c.index_mut.result.now c.put.new.self c.requires.slot c.index_mut.ensures.value c.put.ensures)
