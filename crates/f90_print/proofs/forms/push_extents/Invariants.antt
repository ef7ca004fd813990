use Rattle.std.proofs.Common.{◌≡◌, ◌++◌, take}
use Rattle.std.specs.Prelude.{flat_map}
use Rattle.f90_print.proofs.DeclarationTexts.{further_extent}
use Rattle.f90_print.proofs.forms.push_extents.Given as goal

-- the extents so far are written
abbrev pub invariant-loop-extent : goal.invariant-loop-extent
invariant-loop-extent l = l.text.items ≡ l.initial.text.items ++ flat_map further_extent (take l.extent-index l.rest)
