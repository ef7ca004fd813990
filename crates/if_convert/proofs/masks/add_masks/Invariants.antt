-- What was made so far, and what is left, are all.
use Rattle.std.proofs.Common.{◌≡◌, ◌-◌, ◌++◌, map}
use Rattle.nest.specs.View.{made_of}
use Rattle.if_convert.specs.Masks.{masks_from}
use Rattle.if_convert.proofs.masks.add_masks.Given as goal

abbrev pub invariant-loop-number : goal.invariant-loop-number
invariant-loop-number l =
    map made_of l.made ++ masks_from l.number (l.end - l.number) ≡ map made_of l.initial.made ++ masks_from l.first (l.end - l.first)
