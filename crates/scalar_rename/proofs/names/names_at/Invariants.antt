use Rattle.std.proofs.Common.{◌≡◌, take}
use Rattle.scalar_rename.specs.Renamed.{names_at}
use Rattle.scalar_rename.proofs.names.names_at.Given as goal

abbrev pub invariant-loop-web : goal.invariant-loop-web
invariant-loop-web l = l.names ≡ names_at (take l.web-index l.webs) l.place
