-- When one run follows another: it ends as the other one does, with stores that are alike.
use Rattle.std.specs.Prelude.{◌≡◌, None, ℕ, false}
use Rattle.tree.specs.Plain.{Block}
use Rattle.meaning.specs.Dialect.{Dialect}
use Rattle.meaning.specs.Store.{Store}
use Rattle.meaning.specs.Run.{State, Way, Failed, Cut, does_all}

-- statements by themselves, without arrays as values: so runs a program of FORTRAN 77, and a nest that was made of one
abbrev pub sequential : ℕ → Dialect
sequential bits = record { bits = bits; arrays = false }

-- no fault was met, and the run wasn't cut
abbrev pub IsSound : Way → Type 0
IsSound (Failed fault line) = ⊥
IsSound Cut = ⊥
IsSound _ = Unit {0}

-- two moments with stores that are alike, and the same in all else but the number of steps
pub record MomentsAlike (like : Store → Store → Type 0) (s t : State) : Type 0 where
  pub store : like s.store t.store
  pub written : s.written ≡ t.written
  pub input : s.input ≡ t.input
  pub had_value : s.had_value ≡ t.had_value
  pub way : s.way ≡ t.way

-- where the first run meets no fault, the second one goes the same way
abbrev pub RunFollows : Dialect → (Store → Store → Type 0) → Block → Block → Type 0
RunFollows lang like b c = (s t : State) → MomentsAlike like s t → IsSound (does_all lang None b s).way
    → MomentsAlike like (does_all lang None b s) (does_all lang None c t)
