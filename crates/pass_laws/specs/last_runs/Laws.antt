-- The last values of loop variables behind all loops.
use Rattle.std.specs.Prelude.{◌≡◌, ℕ, ◌≤◌, ℤ, false, true, None, List, length}
use Rattle.meaning.specs.Run.{State, Going, does, does_all}
use Rattle.meaning.specs.Store.{Store, Cell}
use Rattle.rewrite.specs.Following.{sequential}
use Rattle.last_values.specs.ValuesBehind.{values_behind}
use Rattle.linear_forms.specs.Laws.{HoldsSized}
use Rattle.linear_forms.specs.Linear.{HaveValues}
use Rattle.nest.specs.Blocks.{statement_of_part}
use Rattle.nest.specs.Plain.{Nest}
use Rattle.last_values.specs.normal_forms.Numbers.{values_from}
use Rattle.pass_laws.specs.normal_runs.Sources.{IsNormalSource, counters_in, ends_behind, loops_in}
use Rattle.nest.specs.statement_loops.Names.{is_among}

-- A store u beside the nest's run from s to t: as t, but for counters and for the variables that get their last values
-- behind all loops, which are as in s
pub record LacksLastValues (n : Nest) (s t u : Store) : Type 0 where
  pub bounds : (x : List ℕ) → is_among (counters_in n) x ≡ false → u.bounds x ≡ t.bounds x
  pub held : (c : Cell) → is_among (counters_in n) c.name ≡ false → ends_behind n c.name ≡ false → u.held c ≡ t.held c
  pub before : (c : Cell) → ends_behind n c.name ≡ true → u.held c ≡ s.held c

-- the same but for counters
pub record AreSameButCounters (n : Nest) (t u : Store) : Type 0 where
  pub bounds : (x : List ℕ) → is_among (counters_in n) x ≡ false → u.bounds x ≡ t.bounds x
  pub held : (c : Cell) → is_among (counters_in n) c.name ≡ false → u.held c ≡ t.held c

-- from such a store the statements behind all loops go on, to what the nest's run leaves
abbrev pub LastValuesBehind : Type 0
LastValuesBehind =
    (bits : ℕ) (n : Nest) (values : ℕ → ℤ) (s u : State)
    → 31 ≤ bits → bits ≤ 63 → IsNormalSource n → s.way ≡ Going → u.way ≡ Going → HoldsSized s.store
    → HaveValues n.symbols s.store (values_from (length n.symbols) 0 values)
    → (does (sequential bits) None (statement_of_part n.line n.body) s).way ≡ Going
    → LacksLastValues n s.store (does (sequential bits) None (statement_of_part n.line n.body) s).store u.store
    → ((does_all (sequential bits) None (values_behind n.symbols n.line (loops_in n) n.body) u).way ≡ Going)
    × AreSameButCounters n (does (sequential bits) None (statement_of_part n.line n.body) s).store
    (does_all (sequential bits) None (values_behind n.symbols n.line (loops_in n) n.body) u).store
