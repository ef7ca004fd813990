-- The meaning of a nest whose loops were made to go from 1 by 1.
use Rattle.std.specs.Prelude.{◌≡◌, ℕ, ◌≤◌, ℤ, Some, None, All, [], length}
use Rattle.tree.specs.Plain.{no_statements}
use Rattle.meaning.specs.Run.{State, Going, does_all}
use Rattle.rewrite.specs.Following.{sequential}
use Rattle.pass_laws.specs.last_runs.Laws.{AreSameButCounters}
use Rattle.linear_forms.specs.Laws.{HoldsSized}
use Rattle.linear_forms.specs.Linear.{HaveValues}
use Rattle.normal_loops.specs.Normalised.{normalised}
use Rattle.nest.specs.Blocks.{block_of_nest}
use Rattle.nest.specs.Plain.{Nest}
use Rattle.last_values.specs.normal_forms.Numbers.{values_from}
use Rattle.pass_laws.specs.normal_runs.Sources.{IsNormalSource, counters_in}

-- two moments at which the runs go on, with stores that are the same but for the counters
pub record GoOnButCounters (n : Nest) (s t : State) : Type 0 where
  pub way : s.way ≡ Going
  pub way_beside : t.way ≡ Going
  pub stores : AreSameButCounters n s.store t.store

-- Let the numbers that the stores hold be of 64 bits, and let the counters be scalars. Where the run of a nest to which
-- nothing was added so far goes on, so does that of its normal form
abbrev pub NormalFormKeepsMeaning : Type 0
NormalFormKeepsMeaning =
    (bits : ℕ) (n m : Nest) (values : ℕ → ℤ) (s t : State)
    → 31 ≤ bits → bits ≤ 63 → IsNormalSource n → n.made ≡ [] → n.after ≡ no_statements → normalised n ≡ Some m
    → GoOnButCounters n s t → HoldsSized s.store → HoldsSized t.store
    → HaveValues n.symbols s.store (values_from (length n.symbols) 0 values)
    → All (λ x. t.store.bounds x ≡ Some []) (counters_in n)
    → (does_all (sequential bits) None (block_of_nest n) s).way ≡ Going
    → GoOnButCounters n (does_all (sequential bits) None (block_of_nest n) s)
    (does_all (sequential bits) None (block_of_nest m) t)
