-- What a run makes of two stores that agree on a program.
use Rattle.std.specs.Prelude.{◌≡◌, Option, ℕ, All, Contains}
use Rattle.tree.specs.Plain.{Block, Program}
use Rattle.meaning.specs.Store.{Agree, names_of}
use Rattle.meaning.specs.Run.{State, does_all}
use Rattle.meaning.specs.Dialect.{Dialect}
use Rattle.meaning.specs.Reads.{names_in_block}

-- two moments whose stores agree on p, and that are the same in all else
pub record MomentsAgree (p : Program) (s t : State) : Type 0 where
  pub store : Agree p s.store t.store
  pub written : s.written ≡ t.written
  pub input : s.input ≡ t.input
  pub had_value : s.had_value ≡ t.had_value
  pub steps : s.steps ≡ t.steps
  pub way : s.way ≡ t.way

-- statements over a program's names take moments that agree on the program to moments that agree on it
abbrev pub StatementsKeepAgreement : Type 0
StatementsKeepAgreement = (lang : Dialect) (limit : Option ℕ) (p : Program) (cs : Block) (s t : State)
    → All (Contains (names_of p)) (names_in_block cs) → MomentsAgree p s t
    → MomentsAgree p (does_all lang limit cs s) (does_all lang limit cs t)
