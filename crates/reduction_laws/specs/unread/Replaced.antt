-- A loop that gathers, with a statement in its place, in a program whose other statements don't read its variable.
use Rattle.std.specs.Prelude.{◌≡◌, ◌≤◌, None, ℕ, pos, List}
use Rattle.tree.specs.Plain.{Expression, Number, Statement}
use Rattle.meaning.specs.Dialect.{Dialect}
use Rattle.meaning.specs.Run.{State, Going, does}
use Rattle.rewrite.specs.Following.{MomentsAlike}
use Rattle.nest_order.specs.orders.Lists.{In}
use Rattle.reductions.specs.Gathering.{Lines, Loop, form_of, listed, loop_of, section_of, tested}
use Rattle.reduction_laws.specs.gathering.Gathering.{IsReducible, MayStart, MayBeSection}
use Rattle.reduction_laws.specs.unread.Unread.{AlikeBut, Kept}

-- from moments that are alike but for such variables, the loop and the statement come to such moments
abbrev pub FollowsAs : Lines → Dialect → Loop → Statement → List (List ℕ) → State → State → Type 0
FollowsAs y lang l c xs s t = Kept lang xs c
    → (does lang None (loop_of y l) s).way ≡ Going → MomentsAlike (AlikeBut xs) s t
    → MomentsAlike (AlikeBut xs) (does lang None (loop_of y l) s) (does lang None c t)

-- the statement with the test of the trip round it; where the trip is a positive literal, without
pub record FollowsAsForm (y z : Lines) (lang : Dialect) (l : Loop) (f : Expression) (xs : List (List ℕ)) (s t : State) :
    Type 0 where
  pub tested : FollowsAs y lang l (tested z l (form_of z l f)) xs s t
  pub plain : (n : ℕ) → l.trip ≡ Number (pos n) → 1 ≤ n → FollowsAs y lang l (form_of z l f) xs s t

abbrev pub ReplacedLoopFollows : Type 0
ReplacedLoopFollows = (lang : Dialect) (l : Loop) (y z : Lines) (xs : List (List ℕ)) (s t : State)
    → In l.variable xs → IsReducible l → MayStart lang l s.store
    → FollowsAsForm y z lang l (listed l.variable l.trip l.operand) xs s t
    × (MayBeSection l s.store → FollowsAsForm y z lang l (section_of l.variable l.trip l.operand) xs s t)
