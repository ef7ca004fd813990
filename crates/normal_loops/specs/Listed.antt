-- A nest as it is listed: each loop goes from 1 by 1 to its trip, and in the statements and conditions the variables of
-- the loops have become linear forms of the counters (Allen and Kennedy, "Optimizing Compilers for Modern
-- Architectures", section 4.2, loop normalization). What stands behind the nest isn't listed.
use Rattle.std.specs.Prelude.{◌≡◌, Option, Some, None, if◌then◌else◌, List, [], ◌∷◌, ◌++◌, length}
use Rattle.nest.specs.Plain.{Part, Run, Turns, Choice, Label, Jump, Parts, no_parts, part, parts, Branches}
use Rattle.nest.specs.Plain.{no_branches, branch, Nest}
use Rattle.last_values.specs.Behind.{stands_behind}
use Rattle.last_values.specs.InPlace.{assigned_part, end_part, first_text, own_trip_text}
use Rattle.last_values.specs.PartsInPlace.{only_where_part}
use Rattle.last_values.specs.normal_forms.NormalLoops.{is_positive, is_known, normal_loop}
use Rattle.last_values.specs.normal_forms.Steps.{◌>>=◌}
use Rattle.last_values.specs.normal_forms.Texts.{at_least_one}
use Rattle.last_values.specs.declared.normal_forms.loops.NormalLoop.{NormalLoop}
use Rattle.normal_loops.specs.Counting.{counting}
use Rattle.normal_loops.specs.Loops.{nested_loops}
use Rattle.normal_loops.specs.Tests.{normal_test}
use Rattle.normal_loops.specs.Values.{normal_statement}

module _ (n : Nest) where
  -- A loop by itself where its variable may get its last value behind the nest. Else the value is assigned in place:
  -- behind a loop that has turns, before one that has none; where that isn't known, the first value before the loop,
  -- and the last one behind it under an IF on the trip
  abbrev pub with_last_value : List NormalLoop → NormalLoop → Part → List Part
  with_last_value round r p =
      if stands_behind (length n.symbols) (nested_loops n.symbols [] n.body) n.body r.variable then p ∷ []
      else if is_positive r.trip then p ∷ end_part n.symbols n.line round r ∷ []
      else if is_known r.trip then assigned_part n.line r.variable (first_text n.symbols round r) ∷ p ∷ []
      else assigned_part n.line r.variable (first_text n.symbols round r) ∷ p
      ∷ only_where_part (at_least_one (own_trip_text n.symbols round r)) (end_part n.symbols n.line round r ∷ [])
      ∷ []

  -- what a part is listed as under these loops, where each loop in it has a form from 1 by 1
  abbrev mutual
    pub listed_part : List NormalLoop → Part → Option (List Part)
    listed_part round (Run s) = Some (Run (normal_statement n.symbols round s) ∷ [])
    listed_part round (Turns l ps) = do
      r ← normal_loop n.symbols round l
      qs ← listed_parts (round ++ r ∷ []) ps
      Some (with_last_value round r (Turns (counting n.symbols round l r) (parts qs)))
    listed_part round (Choice bs ps) = do
      cs ← listed_branches round bs
      qs ← listed_parts round ps
      Some (Choice cs (parts qs) ∷ [])
    listed_part round (Label k) = Some (Label k ∷ [])
    listed_part round (Jump k) = Some (Jump k ∷ [])

    pub listed_parts : List NormalLoop → Parts → Option (List Part)
    listed_parts round no_parts = Some []
    listed_parts round (part p ps) = do
      qs ← listed_part round p
      rs ← listed_parts round ps
      Some (qs ++ rs)

    pub listed_branches : List NormalLoop → Branches → Option Branches
    listed_branches round no_branches = Some no_branches
    listed_branches round (branch test ps bs) = do
      qs ← listed_parts round ps
      cs ← listed_branches round bs
      Some (branch (normal_test n.symbols round test) (parts qs) cs)

-- the nest m is n so, whatever stands behind it
pub record HasNormalLoops (n m : Nest) : Type 0 where
  pub body : listed_part n [] n.body ≡ Some (m.body ∷ [])
  pub rest : m ≡ record n { body = m.body; after = m.after }
