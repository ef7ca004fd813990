-- Nests in which each statement has become a list of statements.
use Rattle.std.specs.Prelude.{ℕ, List, [], ◌∷◌}
use Rattle.nest.specs.Plain.{Loop, Guarded, Part, Run, Turns, Choice, Label, Jump, parts, Nest}
use Rattle.nest_steps.specs.Mapped.{mapped_in}

-- by the loops round it from the outside in, and by the number of statements before it
module _ (each : List Loop → ℕ → Guarded → List Guarded) where
  -- of the outermost loop
  abbrev pub mapped_body : Part → Part
  mapped_body (Turns l ps) = Turns l (parts (mapped_in each (l ∷ []) 0 ps))
  mapped_body (Run g) = Run g
  mapped_body (Choice bs ps) = Choice bs ps
  mapped_body (Label n) = Label n
  mapped_body (Jump n) = Jump n

  abbrev pub mapped_nest : Nest → Nest
  mapped_nest n = record n { body = mapped_body n.body }
