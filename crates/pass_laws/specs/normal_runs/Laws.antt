-- The run of a nest beside that of its normal body.
use Rattle.std.specs.Prelude.{◌≡◌, ℕ, ◌≤◌, ℤ, true, Some, None, All, List, []}
use Rattle.meaning.specs.Run.{State, Going, does}
use Rattle.meaning.specs.Store.{Store, Cell}
use Rattle.rewrite.specs.Following.{sequential}
use Rattle.normal_loops.specs.Bodies.{normal_part}
use Rattle.normal_loops.specs.Normalised.{only_one}
use Rattle.nest.specs.Blocks.{statement_of_part}
use Rattle.nest.specs.Plain.{Nest, Part}
use Rattle.pass_laws.specs.normal_values.Laws.{GoOnBeside}
use Rattle.pass_laws.specs.normal_runs.Sources.{IsNormalSource, apart_within, counters_in, ends_behind, loops_in}

-- the names that get their last values behind all loops have kept their values
abbrev pub KeepsBehind : Nest → Store → Store → Type 0
KeepsBehind n t u = (c : Cell) → ends_behind n c.name ≡ true → u.held c ≡ t.held c

abbrev pub KeepsBounds : Store → Store → Type 0
KeepsBounds t u = (x : List ℕ) → u.bounds x ≡ t.bounds x

-- Let the counters be scalars. Where the nest's loops go on, its normal body goes on from a moment beside, the two are
-- beside each other again, and the normal body leaves what it is to leave to the statements behind it
abbrev pub BodyBeside : Type 0
BodyBeside =
    (bits : ℕ) (n : Nest) (body : Part) (values : ℕ → ℤ) (s t : State)
    → 31 ≤ bits → bits ≤ 63 → IsNormalSource n → only_one (normal_part n (loops_in n) [] n.body) ≡ Some body
    → All (λ x. t.store.bounds x ≡ Some []) (counters_in n)
    → GoOnBeside n.symbols values (apart_within n []) [] [] s t
    → (does (sequential bits) None (statement_of_part n.line n.body) s).way ≡ Going
    → GoOnBeside n.symbols values (apart_within n []) [] []
    (does (sequential bits) None (statement_of_part n.line n.body) s)
    (does (sequential bits) None (statement_of_part n.line body) t)
    × KeepsBehind n t.store (does (sequential bits) None (statement_of_part n.line body) t).store
    × KeepsBounds t.store (does (sequential bits) None (statement_of_part n.line body) t).store
