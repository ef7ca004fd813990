-- Of those that were passed, only the one that was found writes the name.
use Rattle.std.proofs.Common.{◌≡◌, drop, map}
use Rattle.nest.specs.statement_loops.Standings.{standing_of}
use Rattle.inductions.specs.Growing.{one_number, only_write, writes_from}
use Rattle.inductions.proofs.WriteLaws.{with_found}
use Rattle.inductions.proofs.growing.only_write.Given as goal

abbrev pub invariant-loop-number : goal.invariant-loop-number
invariant-loop-number l =
    only_write (map standing_of l.all) l.name ≡ one_number (with_found l.found (writes_from l.number (drop l.number (map standing_of l.all)) l.name))
