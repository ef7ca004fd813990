-- How what is seen of a machine's moment stands for a moment of a run by its definition.
use Rattle.std.specs.Prelude.{◌≡◌, Result, Ok, Err, Option, ℕ, ◌-◌, ◌+◌, List, drop, Bool, true, false}
use Rattle.std.specs.Option.{option_map}
use Rattle.tree.specs.Plain.{Declaration}
use Rattle.tree.specs.declared.ops.Value.{Value}
use Rattle.tree.specs.declared.ops.Fault.{Fault}
use Rattle.tree.specs.declared.ops.Fault.TheVariants.{Overflow}
use Rattle.meaning.specs.Store.{Store}
use Rattle.meaning.specs.Value.{is_in_range}
use Rattle.meaning.specs.Texts.{without_cr}
use Rattle.meaning.specs.Run.{State, Way, Going, Jumping, Stopped, Failed, Cut, is_allowed}
use Rattle.machine.specs.declared.progress.Progress.{Progress}
use Rattle.machine.specs.declared.progress.Halt.{Halt}
use Rattle.machine.specs.declared.progress.Halt.TheVariants.{Jump, Stop, Fault as Fault', Limit}

-- the names of a machine's program, the store that its values stand for, and how far the run is
pub record Seen : Type 0 where
  pub names : List Declaration
  pub store : Store
  pub progress : Progress

abbrev pub seen_at : List Declaration → Store → Progress → Seen
seen_at ds s p = record { names = ds; store = s; progress = p }

-- a run begins, with so many steps at most
abbrev pub begun_at : Option ℕ → Progress
begun_at limit = record { at = 0; had_value = false; left = limit }

-- how many steps are left after so many
abbrev pub steps_left : Option ℕ → ℕ → Option ℕ
steps_left limit k = option_map (λ n. n - k) limit

-- the way on which a halt leaves a run
abbrev pub way_of : Halt → Way
way_of (Jump n) = Jumping n
way_of Stop = Stopped
way_of (Fault' f line) = Failed f line
way_of Limit = Cut

-- The machine's moment m stands for the moment s of the run of a program with these names, under this limit of steps,
-- over this input
pub record Stands (names : List Declaration) (limit : Option ℕ) (input : List ℕ) (m : Seen) (way : Way) (s : State)
    : Type 0 where
  pub names_are : m.names ≡ names
  pub store : s.store ≡ m.store
  pub input_left : s.input ≡ without_cr (drop m.progress.at input)
  pub had_value : s.had_value ≡ m.progress.had_value
  pub steps : m.progress.left ≡ steps_left limit s.steps
  pub way_is : s.way ≡ way

-- a step was counted, or none was left
unfoldable pub CountsStep : Seen → Seen → Result (Unit {0}) Halt → Type 0
CountsStep old new (Ok x) = (names : List Declaration) (limit : Option ℕ) (input : List ℕ) (s : State)
    → Stands names limit input old Going s
    → (is_allowed limit s.steps ≡ true) × Stands names limit input new Going (record s { steps = s.steps + 1 })
CountsStep old new (Err h) = (h ≡ Limit) × (new ≡ old)
    × ((names : List Declaration) (limit : Option ℕ) (input : List ℕ) (s : State) → Stands names limit input old Going s
    → is_allowed limit s.steps ≡ false)

-- an answer with its fault at the line
abbrev pub located : {A : Type 0} → ℕ → Result A Fault → Result A Halt
located line (Ok x) = Ok x
located line (Err f) = Err (Fault' f line)

abbrev pub chosen : Bool → Result (Unit {0}) Fault
chosen true = Ok tt
chosen false = Err Overflow

-- a number that is stored has to be in the range of INTEGER
abbrev pub checked : ℕ → Value → Result (Unit {0}) Fault
checked bits v = chosen (is_in_range bits v)
