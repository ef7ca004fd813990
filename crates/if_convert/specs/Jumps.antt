-- How many jumps of a nest get masks: those that aren't left out, since they stand behind another jump of their block
-- with no label between.
use Rattle.std.specs.Prelude.{ℕ, ◌+◌, Bool, true, false, if◌then◌else◌}
use Rattle.nest.specs.Plain.{Part, Run, Turns, Choice, Label, Jump, Parts, no_parts, part, Branches, no_branches}
use Rattle.nest.specs.Plain.{branch}

-- whether what stands behind a part is left out, where that is so of the part or isn't
abbrev pub skips_behind : Bool → Part → Bool
skips_behind skips (Run g) = skips
skips_behind skips (Turns l ps) = skips
skips_behind skips (Choice bs other) = skips
skips_behind skips (Label k) = false
skips_behind skips (Jump k) = true

abbrev pub unless : Bool → ℕ → ℕ
unless skips n = if skips then 0 else n

abbrev mutual
  pub jumps_in : Bool → Part → ℕ
  jumps_in skips (Run g) = 0
  jumps_in skips (Turns l ps) = 0
  jumps_in skips (Choice bs other) = unless skips (jumps_in_branches bs + jumps_in_parts false other)
  jumps_in skips (Label k) = 0
  jumps_in skips (Jump k) = unless skips 1

  pub jumps_in_parts : Bool → Parts → ℕ
  jumps_in_parts skips no_parts = 0
  jumps_in_parts skips (part p ps) = jumps_in skips p + jumps_in_parts (skips_behind skips p) ps

  pub jumps_in_branches : Branches → ℕ
  jumps_in_branches no_branches = 0
  jumps_in_branches (branch test ps bs) = jumps_in_parts false ps + jumps_in_branches bs
