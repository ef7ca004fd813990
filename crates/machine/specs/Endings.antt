-- A whole run, as a machine does it.
use Rattle.std.specs.Prelude.{◌≡◌, Result, Ok, Err, Option, Some, ℕ, ℤ, List, ◌++◌}
use Rattle.std.specs.Io.KnownBytes.{append_known}
use Rattle.tree.specs.Plain.{Declaration, Program}
use Rattle.meaning.specs.Sequential.{ending}
use Rattle.meaning.specs.Dialect.{Dialect}
use Rattle.meaning.specs.Store.{Store}
use Rattle.meaning.specs.Cuts.{IsAtMost}
use Rattle.meaning.specs.Run.{State, Going, opening_state, run}
use Rattle.meaning.specs.declared.End.{End}
use Rattle.meaning.specs.declared.End.TheVariants.{Done, Fault, StepLimit, WriteFault}
use Rattle.machine.specs.declared.progress.Halt.{Halt}
use Rattle.machine.specs.declared.progress.Halt.TheVariants.{Jump, Stop, Fault as Fault', Limit}
use Rattle.machine.specs.declared.progress.Left.{Left}
use Rattle.machine.specs.declared.progress.Left.TheVariants.{Halted, Unwritten}
use Rattle.machine.specs.Moments.{Seen, Stands}
use Rattle.machine.specs.Acts.{HasFront, all_set}

-- the moment stands for the first one of a run of any program with the machine's names
unfoldable pub IsOpening : Option ℕ → Seen → Type 0
IsOpening limit m = (p : Program) (input : List ℕ) → m.names ≡ p.declarations
    → Stands p.declarations limit input m Going (opening_state p input)

abbrev pub end_at : Halt → End
end_at (Jump n) = Done
end_at Stop = Done
end_at (Fault' f line) = Fault f line
end_at Limit = StepLimit

abbrev pub ended : Result (Unit {0}) Left → End
ended (Ok x) = Done
ended (Err (Halted h)) = end_at h
ended (Err Unwritten) = WriteFault

-- the run has ended so, its store is left, and all of its text was written
pub record EndsWith (s : State) (m : Seen) (before now : Option (List ℕ)) (e : End) : Type 0 where
  pub ending : ending s ≡ Some e
  pub store : m.store ≡ s.store
  pub taken : now ≡ append_known before s.written

-- After a failed write the store is that of a moment of the run that is cut after `count` steps: from there on that run
-- counts no step, and stores nothing but variables of loops. A sink has a front of its text
pub record IsLeftAt (lang : Dialect) (limit : Option ℕ) (p : Program) (input : List ℕ) (left : Store)
    (before now : Option (List ℕ)) : Type 0 where
  pub count : ℕ
  pub within : IsAtMost count limit
  pub set : List (List ℕ × ℤ)
  pub store : (run lang (Some count) p input).store ≡ all_set set left
  pub part : List ℕ
  pub more : List ℕ
  pub text : (run lang (Some count) p input).written ≡ part ++ more
  pub taken : now ≡ append_known before part

-- How a run under a limit ends: as its definition says, or where a write failed with a front of the run's text written
abbrev pub Ends : List Declaration → State → Seen → Option (List ℕ) → Option (List ℕ) → End → Type 0
Ends names s m before now Done = EndsWith s m before now Done
Ends names s m before now (Fault f line) = EndsWith s m before now (Fault f line)
Ends names s m before now StepLimit = EndsWith s m before now StepLimit
Ends names s m before now WriteFault = HasFront names before m now s
