-- What is known of nests whose IFs and jumps have become masks.
use Rattle.std.specs.Prelude.{◌≡◌, ℕ, ◌≤◌, ◌^◌, Some}
use Rattle.tree.specs.Plain.{Program}
use Rattle.nest.specs.Blocks.{block_of_nest}
use Rattle.nest.specs.Plain.{Nest}
use Rattle.nest_steps.specs.Keeping.{KeepsAgreement, MayStandFor, Place}
use Rattle.if_convert.specs.Converted.{converted_nest}
use Rattle.prepared_passes.specs.conversion.Branching.{IsBranching}
use Rattle.prepared_passes.specs.conversion.Places.{AddsMasks}
use Rattle.tree.specs.declared.width.Width.{Width}

-- It may stand for the nest, where that keeps agreement: where the nest's run meets no fault, so does its own, since a
-- condition is asked only where the nest asks it
abbrev pub ConvertedMayStandFor : (width : Width) → Type 0
ConvertedMayStandFor width = (p : Program) (masks : ℕ) (n m : Nest) (w x : Place) → converted_nest masks n ≡ Some m
    → m.masks ≤ 2 ^ 32 → IsBranching n → AddsMasks p w x masks m.masks → KeepsAgreement width p w (block_of_nest n)
    → MayStandFor width p w (block_of_nest n) x (block_of_nest m)
