-- A count of faults. It is a u64, which stands still at its end, so that a failure there leaves it.
use Rattle.std.specs.Prelude.{ℕ, ◌+◌, ◌-◌, ◌^◌, ◌≤◌, min}

-- what a u64 shows of a count
abbrev pub shown_count : ℕ → ℕ
shown_count n = min n (2 ^ 64 - 1)

-- the count after one more
abbrev pub next_count : ℕ → ℕ
next_count before = shown_count (before + 1)

-- something was counted since: the count has risen, or stands at its end
abbrev pub Rose : ℕ → ℕ → Type 0
Rose before now = next_count before ≤ now
