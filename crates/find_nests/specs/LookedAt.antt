-- The loops of a program that stand in no nest.
use Rattle.std.specs.Prelude.{Option, Bool, is_some, List, [], map}
use Rattle.std.specs.List.{filter, list_all}
use Rattle.tree.specs.Plain.{Block, Declaration}
use Rattle.nest_reasons.specs.Symbols.{symbols_of}
use Rattle.find_nests.specs.declared.reasons.Reason.{Reason}
use Rattle.find_nests.specs.Reasons.{reason_over}
use Rattle.find_nests.specs.Loops.{Numbered, SurroundedLoop, SourceLoop, as_statement, loops_in_block}

module _ (ds : List Declaration) where
  -- the first reason that holds of a loop, if one does
  abbrev pub reason_of : SourceLoop → Option Reason
  reason_of l = reason_over (symbols_of ds l.variable l.body) (as_statement l)

  abbrev pub is_kept : SourceLoop → Bool
  is_kept l = is_some (reason_of l)

  -- A loop stands in no nest where each loop round it has a reason
  abbrev pub is_in_no_nest : SurroundedLoop → Bool
  is_in_no_nest p = list_all is_kept p.around

  -- the loops that stand in no nest
  abbrev pub looked_at : Block → List Numbered
  looked_at body = map (λ (p : SurroundedLoop). p.loop) (filter is_in_no_nest (loops_in_block 0 [] body))
