-- The nests of a program: its loops without a reason that stand in no other nest. Other loops are kept.
use Rattle.std.specs.Prelude.{ℕ, Option, Some, None, List, [], ◌∷◌}
use Rattle.tree.specs.Plain.{Program, no_statements}
use Rattle.nest_reasons.specs.Symbols.{symbols_of}
use Rattle.nest.specs.Plain.{Nest, Part, Turns, parts}
use Rattle.find_nests.specs.nest_parts.Numbers.{next_loop_number}
use Rattle.find_nests.specs.nest_parts.Statements.{source_loop, parts_of_block}
use Rattle.find_nests.specs.declared.reasons.Reason.{Reason}
use Rattle.find_nests.specs.Loops.{Numbered}
use Rattle.find_nests.specs.LookedAt.{reason_of, looked_at}

-- a nest, or a kept loop by its line and its reason
pub data Found : Type 0 where
  InNest : Nest → Found
  Kept : ℕ → Reason → Found

-- the loop with what stands in it; loops are numbered through the program
abbrev pub body_of : Numbered → Part
body_of l =
    Turns (source_loop (next_loop_number l.before) l.loop.variable l.loop.first l.loop.last l.loop.step)
    (parts (parts_of_block (next_loop_number l.before) l.loop.body))

-- with this number, and nothing made yet
abbrev pub nest_of_loop : Program → ℕ → Numbered → Nest
nest_of_loop p n l = record {
  number = n;
  line = l.loop.line;
  title = p.name;
  body = body_of l;
  declarations = p.declarations;
  symbols = symbols_of p.declarations l.loop.variable l.loop.body;
  made = [];
  after = no_statements;
  masks = 0;
  copies = 0;
}

-- by its reason, where n nests stand before it
abbrev pub found_as : Program → ℕ → Numbered → Option Reason → Found
found_as p n l None = InNest (nest_of_loop p (next_loop_number n) l)
found_as p n l (Some r) = Kept l.loop.line r

abbrev pub nests_with : ℕ → Option Reason → ℕ
nests_with n None = next_loop_number n
nests_with n (Some r) = n

-- nests are numbered in the order of the loops, behind n nests
abbrev pub found_among : Program → ℕ → List Numbered → List Found
found_among p n [] = []
found_among p n (l ∷ ls) =
    let reason = reason_of p.declarations l.loop in
    found_as p n l reason ∷ found_among p (nests_with n reason) ls

-- each loop that stands in no nest, as a nest, or kept with the first reason that holds
abbrev pub found_in : Program → List Found
found_in p = found_among p 0 (looked_at p.declarations p.body)
