-- All so far read their own elements.
use Rattle.std.proofs.Common.{◌≡◌, take, true}
use Rattle.std.specs.List.{list_all}
use Rattle.nest.specs.statement_loops.Standings.{standing_of}
use Rattle.interchange.specs.Reads.{reads_own_element}
use Rattle.interchange.proofs.reads.all_read_own_elements.Given as goal

abbrev pub invariant-loop-standing : goal.invariant-loop-standing
invariant-loop-standing l = list_all (λ s. reads_own_element l.symbols (standing_of s)) (take l.standing-index l.all) ≡ true
