-- The labels among the marks of a loop's body, as two sets.
use Rattle.std.specs.Prelude.{◌≡◌, ◌||◌, ℕ, nat_eq, List}
use Rattle.std.specs.List.{list_any}
use Rattle.nest_reasons.specs.declared.marks.Mark.{Mark}
use Rattle.nest_reasons.specs.declared.labels.Labels.{Labels}
use Rattle.nest_reasons.specs.Flaws.{is_arrival, loop_then_label}

pub record AreLabels (ms : List Mark) (l : Labels) : Type 0 where
  -- those that stand behind a loop
  pub behind : (n : ℕ) → list_any (nat_eq n) l.behind.keys ≡ loop_then_label n ms
  pub all : (n : ℕ)
      → (list_any (nat_eq n) l.behind.keys || list_any (nat_eq n) l.near.keys) ≡ list_any (is_arrival n) ms
