-- The name stands in none of those so far.
use Rattle.std.proofs.Common.{◌≡◌, map, take, false}
use Rattle.std.specs.List.{list_any}
use Rattle.meaning.specs.Reads.{names_in_subscript}
use Rattle.tree.specs.View.{subscript_of}
use Rattle.nest.specs.statement_loops.Names.{is_among}
use Rattle.last_values.proofs.occurrences.stands_in_subs.Given as goal

abbrev pub invariant-loop-sub : goal.invariant-loop-sub
invariant-loop-sub l = list_any (λ p. is_among (names_in_subscript p) l.name) (map subscript_of (take l.sub-index l.sub-items)) ≡ false
