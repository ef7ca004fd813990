-- A count that rose in one of several calls rose in all of them together.
use Rattle.std.proofs.Common.{◌≡◌, ℕ, ◌-◌, ◌^◌, ◌<◌, ◌≤◌, ◌⊎◌, inl, inr, arith}
use Rattle.std.proofs.lemmas.Bool.{cases_lt}
use Rattle.streams.specs.Causes.{Rose}

pub rose_then_later : (before then now : ℕ) → Rose before then → then ≤ now → Rose before now
rose_then_later before then now rose later = omega arith

pub later_then_rose : (before then now : ℕ) → before ≤ then → Rose then now → Rose before now
later_then_rose before then now later rose = omega arith

-- where a count rose, it is higher, or stands at its end
pub rose_is_higher : (before now : ℕ) → now ≤ 2 ^ 64 - 1 → Rose before now → (before < now) ⊎ (now ≡ 2 ^ 64 - 1)
rose_is_higher before now fits rose = elim (cases_lt before now) [ inl higher ↦ inl higher | inr same ↦ inr (omega arith) ]

-- a count that stands still below its end didn't rise
pub still_is_not_rose : (before now : ℕ) → now ≡ before → now < 2 ^ 64 - 1 → Rose before now → ⊥
still_is_not_rose before now same below rose = omega arith
