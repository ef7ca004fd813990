-- READ, as a machine does it.
use Rattle.std.specs.Prelude.{◌≡◌, ◌≢◌, Result, Ok, Err, Option, Some, ℕ, ℤ, List, true}
use Rattle.tree.specs.Steps.{◌>>=◌}
use Rattle.tree.specs.Plain.{Expression, Named, Reference, Subscripts}
use Rattle.tree.specs.Operators.{fits}
use Rattle.tree.specs.declared.ops.Value.{Value}
use Rattle.tree.specs.declared.ops.Fault.{Fault}
use Rattle.meaning.specs.Dialect.{Dialect}
use Rattle.meaning.specs.Store.{Store, Cell, stored_bounds, cells_of}
use Rattle.meaning.specs.Texts.{signed_number, read_value}
use Rattle.meaning.specs.Value.{is_in_range, cells_named}
use Rattle.meaning.specs.Run.{Act, evaluates, for_each, takes_word, reads_into}
use Rattle.machine.specs.Moments.{Seen}
use Rattle.machine.specs.declared.progress.Halt.{Halt}
use Rattle.machine.specs.declared.progress.Left.{Left}
use Rattle.machine.specs.declared.progress.Left.TheVariants.{Halted}
use Rattle.machine.specs.Acts.{LimitedAct, Runs}
use Rattle.machine.specs.Storage.{place}
use Rattle.machine.specs.Statements.{DoesOver}

module _ (input : List ℕ) (line : ℕ) (old new : Seen) where
  -- the next word of the input was taken, and is this one
  unfoldable pub TakesWord : List ℕ → Type 0
  TakesWord w = (k : List ℕ → LimitedAct) (before now : Option (List ℕ)) (end : Seen) (r : Result (Unit {0}) Left)
      → Runs (k w) input new before end now r
      → Runs (λ limit. takes_word line (λ w. k w limit)) input old before end now r

  -- there was none
  unfoldable pub HasNoWord : Halt → Type 0
  HasNoWord h = (k : List ℕ → LimitedAct) (bytes : Option (List ℕ))
      → Runs (λ limit. takes_word line (λ w. k w limit)) input old bytes new bytes (Err (Halted h))

-- a number that stands for the one that a word spells: both are the same, or both are outside the range of INTEGER
pub record SpellsNumber (bits : ℕ) (w : List ℕ) (z : ℤ) : Type 0 where
  pub number : ℤ
  pub spelled : signed_number w ≡ Ok number
  pub in_range : fits bits z ≡ fits bits number
  pub same : fits bits number ≡ true → z ≡ number

-- a value that stands for the one that a word spells: both are the same, or both are outside the range of INTEGER
pub record Spells (bits : ℕ) (old : Value) (w : List ℕ) (v : Value) : Type 0 where
  pub value : Value
  pub spelled : read_value old w ≡ Ok value
  pub in_range : is_in_range bits v ≡ is_in_range bits value
  pub same : is_in_range bits value ≡ true → v ≡ value

-- the next value of the input was stored at the place, which is that of a cell
abbrev pub ReadsAt : Dialect → List ℕ → ℕ → ℕ → Seen → Seen → Result (Unit {0}) Halt → Type 0
ReadsAt lang input line k old new r = (c : Cell) → place old.names c.name c.subscripts ≡ Some k
    → DoesOver input (λ limit. reads_into lang limit line c) old new r

-- all cells of a name
abbrev pub all_cells : List ℕ → Store → Result (List Cell) Fault
all_cells x s = do
  bs ← stored_bounds x s
  Ok (cells_of x bs)

abbrev pub reads_all : Dialect → Option ℕ → ℕ → List ℕ → Act
reads_all lang limit line x = evaluates line (all_cells x) (λ cs. for_each cs (reads_into lang limit line))

-- a name of an input list, for all its elements, or an element
abbrev pub reads_cells : Dialect → Option ℕ → ℕ → Reference → Act
reads_cells lang limit line r = evaluates line (cells_named lang r) (λ cs. for_each cs (reads_into lang limit line))

-- an expression that is no name, with subscripts or without
abbrev pub IsNoName : Expression → Type 0
IsNoName e = (x : List ℕ) (ps : Subscripts) → e ≢ Named x ps
