-- When statements may take the place of other ones: the law of each pass.
use Rattle.std.specs.Prelude.{◌≡◌, ℕ, ℤ, None, Option, List}
use Rattle.tree.specs.Plain.{Block, Program}
use Rattle.meaning.specs.Dialect.{fortran77}
use Rattle.tree.specs.declared.width.Width.{Width}
use Rattle.meaning.specs.Holding.{HoldsProgram}
use Rattle.meaning.specs.Run.{State, Going, does_all}
use Rattle.meaning.specs.Store.{Agree}
use Rattle.rewrite.specs.Following.{IsSound}

-- Where statements are run: all names are declared, also those that passes have made so far, and made arrays are
-- allocated already. A made name may be a scalar before a pass and an array behind it
pub record Place : Type 0 where
  pub program : Program
  pub bounds : List ℕ → Option (List (ℤ × ℤ))

-- a moment in such a place
pub record Starts (width : Width) (w : Place) (s : State) : Type 0 where
  pub going : s.way ≡ Going
  pub holds : HoldsProgram (fortran77 width) w.program s.store
  pub bounds_are : (x : List ℕ) → s.store.bounds x ≡ w.bounds x

-- both runs go on, with stores that agree on p, and the same in all else but the number of steps
pub record GoOnAlike (p : Program) (s t : State) : Type 0 where
  pub going : s.way ≡ Going
  pub agree : Agree p s.store t.store
  pub rest : t ≡ record s { store = t.store; steps = t.steps }

-- From moments that agree on p, where b meets no fault in its place, neither does c in its own, and they come to
-- moments that agree on p
abbrev pub MayStandFor : (width : Width) → Program → Place → Block → Place → Block → Type 0
MayStandFor width p w b x c = (s t : State) → Starts width w s → Starts width x t → GoOnAlike p s t
    → IsSound (does_all (fortran77 width) None b s).way
    → GoOnAlike p (does_all (fortran77 width) None b s) (does_all (fortran77 width) None c t)

-- for each moment in the one place there is one in the other that agrees with it
pub record Beginning (width : Width) (p : Program) (x : Place) (s : State) : Type 0 where
  pub state : State
  pub starts : Starts width x state
  pub alike : GoOnAlike p s state

abbrev pub MayBegin : (width : Width) → Program → Place → Place → Type 0
MayBegin width p w x = (s : State) → Starts width w s → Beginning width p x s

-- one pass after another
abbrev pub OneAfterAnother : (width : Width) → Type 0
OneAfterAnother width = (p : Program) (v w x : Place) (b c d : Block) → MayBegin width p v w
    → MayStandFor width p v b w c → MayStandFor width p w c x d → MayStandFor width p v b x d

-- statements that come from stores that agree on p to such stores may stand for themselves
abbrev pub KeepsAgreement : (width : Width) → Program → Place → Block → Type 0
KeepsAgreement width p w b = (s t : State) → Starts width w s → Starts width w t → GoOnAlike p s t
    → IsSound (does_all (fortran77 width) None b s).way
    → GoOnAlike p (does_all (fortran77 width) None b s) (does_all (fortran77 width) None b t)

-- what stands for something keeps agreement, so a pass that leaves a nest as it is needs no proof of its own
abbrev pub WhatStandsKeepsAgreement : (width : Width) → Type 0
WhatStandsKeepsAgreement width = (p : Program) (w x : Place) (b c : Block)
    → MayStandFor width p w b x c → (s : State) (t u : State) → Starts width w s → Starts width x t → Starts width x u
    → GoOnAlike p s t → GoOnAlike p s u → IsSound (does_all (fortran77 width) None b s).way
    → GoOnAlike p (does_all (fortran77 width) None c t) (does_all (fortran77 width) None c u)
