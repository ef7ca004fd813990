-- What a machine's functions do to a moment, as acts of a run's definition.
use Rattle.std.specs.Prelude.{◌≡◌, Result, Ok, Err, Option, Some, ℕ, ◌≤◌, ℤ, List, [], ◌∷◌, ◌++◌}
use Rattle.std.specs.Io.KnownBytes.{append_known}
use Rattle.tree.specs.Plain.{Declaration}
use Rattle.tree.specs.declared.ops.Value.{Value}
use Rattle.tree.specs.declared.ops.Value.TheVariants.{Int}
use Rattle.meaning.specs.Dialect.{Dialect}
use Rattle.meaning.specs.Store.{Store, Cell, put}
use Rattle.meaning.specs.Cuts.{IsAtMost}
use Rattle.meaning.specs.Run.{State, Act, Way, Going, checks_range, counts_step, stores}
use Rattle.machine.specs.declared.progress.Halt.{Halt}
use Rattle.machine.specs.declared.progress.Halt.TheVariants.{Jump, Stop, Fault, Limit}
use Rattle.machine.specs.declared.progress.Left.{Left}
use Rattle.machine.specs.declared.progress.Left.TheVariants.{Halted, Unwritten}
use Rattle.machine.specs.Storage.{place}
use Rattle.machine.specs.Moments.{Seen, Stands, way_of}

-- an act that may count steps, under a limit of them
abbrev pub LimitedAct : Type 0
LimitedAct = Option ℕ → Act

-- The machine's moment stands for this one, and what was written since `base` is what a sink has now
pub record Ended (names : List Declaration) (limit : Option ℕ) (input : List ℕ) (base : Option (List ℕ)) (m : Seen)
    (now : Option (List ℕ)) (way : Way) (s : State) : Type 0 where
  pub stands : Stands names limit input m way s
  pub taken : now ≡ append_known base s.written

-- a sink has a front of what is written since `base`
pub record HasFront (names : List Declaration) (base : Option (List ℕ)) (m : Seen) (now : Option (List ℕ)) (s : State)
    : Type 0 where
  pub names_are : m.names ≡ names
  pub front : List ℕ
  pub rest : List ℕ
  pub whole : s.written ≡ front ++ rest
  pub taken : now ≡ append_known base front

abbrev pub Outcome : List Declaration → Option ℕ → List ℕ → Option (List ℕ) → Seen → Option (List ℕ)
    → Result (Unit {0}) Left → State → Type 0
Outcome names limit input base m now (Ok x) s = Ended names limit input base m now Going s
Outcome names limit input base m now (Err (Halted h)) s = Ended names limit input base m now (way_of h) s
Outcome names limit input base m now (Err Unwritten) s = HasFront names base m now s

-- the act does the same under each limit that it doesn't pass
pub record Same (act : LimitedAct) (limit : Option ℕ) (s : State) : Type 0 where
  pub later : s.steps ≤ (act limit s).steps
  pub within : IsAtMost s.steps limit → IsAtMost (act limit s).steps limit
  pub same : (n : ℕ) → (act limit s).steps ≤ n → act (Some n) s ≡ act limit s

-- the store where these variables were set, one after the other
abbrev pub all_set : List (List ℕ × ℤ) → Store → Store
all_set [] s = s
all_set (w ∷ ws) s = all_set ws (put (record { name = w.0; subscripts = [] }) (Int w.1) s)

-- The machine's store is that of a moment before the act was cut at a limit of `count` steps: no step was counted
-- since,
-- and nothing was stored but variables of loops. A sink has a front of the text that was written up to there
pub record HasCut (base : Option (List ℕ)) (m : Seen) (now : Option (List ℕ)) (act : LimitedAct) (limit : Option ℕ)
    (s : State) : Type 0 where
  pub count : ℕ
  pub later : s.steps ≤ count
  pub within : IsAtMost s.steps limit → IsAtMost count limit
  pub steps : (act (Some count) s).steps ≡ count
  pub set : List (List ℕ × ℤ)
  pub store : (act (Some count) s).store ≡ all_set set m.store
  pub part : List ℕ
  pub more : List ℕ
  pub text : (act (Some count) s).written ≡ part ++ more
  pub taken : now ≡ append_known base part

-- what the act does under other limits
abbrev pub Elsewhere : Option (List ℕ) → Seen → Option (List ℕ) → Result (Unit {0}) Left → LimitedAct → Option ℕ → State
    → Type 0
Elsewhere base m now (Ok x) act limit s = Same act limit s
Elsewhere base m now (Err (Halted (Jump n))) act limit s = Same act limit s
Elsewhere base m now (Err (Halted Stop)) act limit s = Same act limit s
Elsewhere base m now (Err (Halted (Fault f line))) act limit s = Same act limit s
Elsewhere base m now (Err (Halted Limit)) act limit s = Unit {0}
Elsewhere base m now (Err Unwritten) act limit s = HasCut base m now act limit s

-- What was done took the one moment to the other, as the act does, and what a sink had `before` to what it has `now`
unfoldable pub Runs : LimitedAct → List ℕ → Seen → Option (List ℕ) → Seen → Option (List ℕ) → Result (Unit {0}) Left
    → Type 0
Runs act input old before new now r = (names : List Declaration) (limit : Option ℕ) (base : Option (List ℕ)) (s : State)
    → Stands names limit input old Going s → before ≡ append_known base s.written
    → Outcome names limit input base new now r (act limit s) × Elsewhere base new now r act limit s

abbrev pub left_of : {A : Type 0} → Result A Halt → Result A Left
left_of (Ok x) = Ok x
left_of (Err h) = Err (Halted h)

-- the same, with nothing written
abbrev pub Does : LimitedAct → Seen → Seen → Result (Unit {0}) Halt → Type 0
Does act old new r = (input : List ℕ) (bytes : Option (List ℕ)) → Runs act input old bytes new bytes (left_of r)

-- the value was stored at the place, which is that of a cell
abbrev pub StoresAt : Dialect → ℕ → ℕ → Value → Seen → Seen → Result (Unit {0}) Halt → Type 0
StoresAt lang line k v old new r = (c : Cell) → place old.names c.name c.subscripts ≡ Some k
    → Does (λ limit. checks_range lang limit line v (counts_step lang limit (stores c v))) old new r
