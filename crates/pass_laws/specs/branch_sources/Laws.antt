-- The meaning of the nests that are found in a program, with loops from 1 by 1.
use Rattle.std.specs.Prelude.{◌≡◌, ℕ, ◌≤◌, ℤ, Some, None, All, [], length, Contains}
use Rattle.tree.specs.Plain.{Program}
use Rattle.meaning.specs.Dialect.{fortran77}
use Rattle.tree.specs.declared.width.Width.{Width}
use Rattle.meaning.specs.Profile77.{IsProgram77}
use Rattle.meaning.specs.Run.{State, Going, does_all}
use Rattle.rewrite.specs.Following.{sequential}
use Rattle.find_nests.specs.Found.{InNest, found_in}
use Rattle.linear_forms.specs.Laws.{HoldsSized}
use Rattle.linear_forms.specs.Linear.{HaveValues}
use Rattle.normal_loops.specs.Normalised.{normalised}
use Rattle.nest.specs.Blocks.{block_of_nest}
use Rattle.nest.specs.Plain.{Nest}
use Rattle.last_values.specs.normal_forms.Numbers.{values_from}
use Rattle.pass_laws.specs.normal_meaning.Laws.{GoOnButCounters}
use Rattle.pass_laws.specs.normal_runs.Sources.{counters_in}
use Rattle.pass_laws.specs.branch_meaning.Sources.{IsBranchedSource}

abbrev pub FoundNestIsBranchedSource : (width : Width) → Type 0
FoundNestIsBranchedSource width =
    (p : Program) (n : Nest) → IsProgram77 (fortran77 width) p → Contains (found_in p) (InNest n) → IsBranchedSource n

-- Let the numbers that the stores hold be of 64 bits, and let the counters be scalars. Where the run of a found nest
-- goes on, so does that of its normal form, in the same store but for the counters
abbrev pub FoundNestKeepsMeaning : (width : Width) → Type 0
FoundNestKeepsMeaning width =
    (bits : ℕ) (p : Program) (n m : Nest) (values : ℕ → ℤ) (s t : State)
    → 31 ≤ bits → bits ≤ 63 → IsProgram77 (fortran77 width) p → Contains (found_in p) (InNest n) → normalised n ≡ Some m
    → GoOnButCounters n s t → HoldsSized s.store → HoldsSized t.store
    → HaveValues n.symbols s.store (values_from (length n.symbols) 0 values)
    → All (λ x. t.store.bounds x ≡ Some []) (counters_in n)
    → (does_all (sequential bits) None (block_of_nest n) s).way ≡ Going
    → GoOnButCounters n (does_all (sequential bits) None (block_of_nest n) s)
    (does_all (sequential bits) None (block_of_nest m) t)
