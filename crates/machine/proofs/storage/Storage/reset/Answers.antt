use Rattle.std.proofs.Common.{◌≡◌, ◌∙◌, sym, ap, List, length}
use Rattle.std.proofs.lemmas.List.{with_items_is}
use Rattle.machine.specs.declared.variables.Variable.{Variable}
use Rattle.machine.specs.Storage.{declared, noughts_of}
use Rattle.machine.specs.Stored.{names_in}
use Rattle.machine.proofs.OpeningLaws.{as_many}
use Rattle.machine.proofs.OpeningStore.{opens_with}
use Rattle.machine.proofs.storage.Storage.reset.Goals as goal

pub returns-clause-opened : goal.returns-clause-opened
returns-clause-opened c =
    let ds = names_in c.args.self.now in
    let values : c.clear.new.values ≡ noughts_of ds = c.clear.ensures ∙ ap (λ (vs : List Variable). noughts_of (declared vs)) (c.as_slice.ensures ∙ c.values.ensures.rest) in
    opens_with ds _ (with_items_is c.args.self.now.values c.clear.new.values (ap length values ∙ as_many ds ∙ sym c.args.self.now.filled) ∙ values)
