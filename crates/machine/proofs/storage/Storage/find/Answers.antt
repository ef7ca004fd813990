use Rattle.std.proofs.Common.{◌≡◌, None}
use Rattle.std.specs.Map.{values_of as variables_of}
use Rattle.meaning.specs.Store.{opening_bounds}
use Rattle.machine.specs.Stored.{names_in, IsOf}
use Rattle.machine.proofs.Searches.{begun, looked_up, referred}
use Rattle.machine.proofs.storage.Storage.find.Goals as goal

pub returns : goal.returns
returns c =
    let s = c.args.self.now in
    let vs = variables_of s.variables.entries in
    referred (opening_bounds (names_in s) c.args.name ≡ None) (IsOf (names_in s) c.args.name) c.get.result _ c.get.ensures.value
    (looked_up c.args.name vs s.variables.entries 0 s.named (begun c.args.name vs s.starts s.sound))
