use Rattle.std.proofs.Common.{◌-◌, refl, ap, set}
use Rattle.std.proofs.lemmas.List.{get_or_read}
use Rattle.components.proofs.Releasing.{lowered}
use Rattle.components.proofs.rest.Rest.lower.Goals as goal

pub returns : goal.returns
returns c =
    let old = c.args.self.now in
    let value = get_or_read old.counts.items c.args.class c.index_mut.result.now c.requires.class c.index_mut.ensures.value 0 in
    lowered c.args.tables.now c.args.class old _ c.add_if_free.new.self (ap (λ z. set old.counts.items c.args.class (z - 1)) value) refl c.in_ok-add_if_free.ensures
