-- Pseudo random numbers by a linear congruential generator: its states, and what is drawn from them.
use Rattle.std.specs.Prelude.{ℕ, zero, suc, ◌+◌, ◌*◌, ◌/◌, ◌%◌, ◌^◌}

-- each draw sets the state to this
unfoldable pub next_state : ℕ → ℕ
next_state x = (x * 1103515245 + 12345) % 2 ^ 31

-- the state k draws after x
unfoldable pub state_after : ℕ → ℕ → ℕ
state_after zero x = x
state_after (suc k) x = state_after k (next_state x)

-- the number below m that is drawn where the draw set the state to x
abbrev pub drawn : ℕ → ℕ → ℕ
drawn x m = (x / 65536) % m
