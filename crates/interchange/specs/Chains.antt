-- Nests whose statements all stand in the innermost of a single chain of loops.
use Rattle.std.specs.Prelude.{Bool, true, false, ◌&&◌, if◌then◌else◌, Option, Some, None, List, [], ◌∷◌}
use Rattle.nest.specs.Plain.{Loop, Part, Run, Turns, Choice, Label, Jump, Parts, no_parts, part}

-- loops from the outside in, each with the next one alone in it, and what stands in the innermost one
pub record Chain : Type 0 where
  pub loops : List Loop
  pub body : Parts

abbrev pub is_statement_part : Part → Bool
is_statement_part (Run s) = true
is_statement_part (Turns l ps) = false
is_statement_part (Choice bs ps) = false
is_statement_part (Label n) = false
is_statement_part (Jump n) = false

abbrev pub are_statements : Parts → Bool
are_statements no_parts = true
are_statements (part p ps) = is_statement_part p && are_statements ps

abbrev pub no_loops : Parts → Chain
no_loops ps = record { loops = []; body = ps }

abbrev pub chain_within : Loop → Option Chain → Option Chain
chain_within l None = None
chain_within l (Some c) = Some (record { loops = l ∷ c.loops; body = c.body })

-- the chain of a part that stands alone
abbrev pub if_alone : Parts → Option Chain → Option Chain
if_alone no_parts c = c
if_alone (part p ps) c = None

-- A loop in which statements alone stand, at least one, or another such loop alone; none where an IF, a label, a jump
-- or a second loop stands in one
abbrev mutual
  pub chain_of : Part → Option Chain
  chain_of (Run s) = None
  chain_of (Turns l ps) = chain_within l (chain_in ps)
  chain_of (Choice bs ps) = None
  chain_of (Label n) = None
  chain_of (Jump n) = None

  pub chain_in : Parts → Option Chain
  chain_in no_parts = None
  chain_in (part p ps) =
      if are_statements (part p ps) then Some (no_loops (part p ps)) else if_alone ps (chain_of p)

-- ---- and back

abbrev pub in_loops : List Loop → Parts → Parts
in_loops [] ps = ps
in_loops (l ∷ ls) ps = part (Turns l (in_loops ls ps)) no_parts

-- what stands in at least one loop as one part; p where there is none
abbrev pub part_in_loops : Part → List Loop → Parts → Part
part_in_loops p [] ps = p
part_in_loops p (l ∷ ls) ps = Turns l (in_loops ls ps)
