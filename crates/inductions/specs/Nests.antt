-- A nest with inductions substituted.
use Rattle.std.specs.Prelude.{ℕ, Option, Some, None, List, [], ◌∷◌, map}
use Rattle.tree.specs.Plain.{Block, block}
use Rattle.nest.specs.Allocations.{block_then}
use Rattle.nest.specs.Plain.{Nest}
use Rattle.nest.specs.declared.parts.Trip.{Trip}
use Rattle.statement_passes.specs.Passes.{mapped_nest}
use Rattle.statement_passes.specs.Shifted.{with_nest_symbols}
use Rattle.inductions.specs.Ends.{induction_ending}
use Rattle.inductions.specs.Found.{inductions_by, outermost_trip}
use Rattle.inductions.specs.Putting.{put_in}
use Rattle.inductions.specs.declared.found.Induction.{Induction}

abbrev pub induction_names : List Induction → List (List ℕ)
induction_names ds = map (λ (d : Induction). d.name) ds

-- their last values, in byte order
abbrev pub endings : Nest → Trip → List Induction → Block
endings n t ds = block (map (induction_ending n.symbols n.line t) ds)

-- the nest m, in which they are symbols, with their statements, and what comes after it
abbrev pub with_inductions_put : List ℕ → List Induction → Block → Nest → Nest
with_inductions_put counter ds after m = record (mapped_nest (put_in counter ds m.symbols) m) { after = after }

-- They become symbols, their statements go, their forms stand in all others, and their last values stand behind what
-- comes after the nest. A nest without them stays
abbrev pub with_inductions : Nest → List ℕ × Trip → List Induction → Nest
with_inductions n o [] = n
with_inductions n o (d ∷ ds) =
    with_inductions_put o.0 (d ∷ ds) (block_then n.after (endings n o.1 (d ∷ ds)))
    (with_nest_symbols n (induction_names (d ∷ ds)))

abbrev pub substituted_by : Nest → Option (List ℕ × Trip) → Nest
substituted_by n None = n
substituted_by n (Some o) = with_inductions n o (inductions_by n (Some o))

unfoldable pub inductions_substituted : Nest → Nest
inductions_substituted n = substituted_by n (outermost_trip n.body)
