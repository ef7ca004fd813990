-- Those so far.
use Rattle.std.proofs.Common.{◌≡◌, ◌++◌, take}
use Rattle.array_form.proofs.holds.noted.push_all.Given as goal

abbrev pub invariant-loop-sub : goal.invariant-loop-sub
invariant-loop-sub l = l.all ≡ l.fn.all ++ take l.sub-index l.more
