-- Loops from 1 by 1 to a trip that is linear, or linear and divided, over the loops round them.
use Rattle.std.specs.Prelude.{◌≡◌, ℕ, ◌+◌, ◌≤◌, ◌<◌, ◌^◌, pos, true, IsSomeAnd, List, [], ◌∷◌, ◌++◌, map, length}
use Rattle.tree.specs.Plain.{Declaration, Expression}
use Rattle.meaning.specs.Typed.{declared}
use Rattle.subscripts.specs.Shapes.{IsForm}
use Rattle.linear_forms.specs.Affines.{IsAffineOf}
use Rattle.linear_forms.specs.Linear.{Form, is_limited}
use Rattle.nest.specs.declared.parts.Trip.{Trip}
use Rattle.nest.specs.Plain.{Loop, Part, Run, Turns, Choice, Label, Jump, Parts, no_parts, part}
use Rattle.nest.specs.Plain.{Branches, no_branches, branch}
use Rattle.nest_order.specs.shapes.Shapes.{IsNormal}
use Rattle.last_values.specs.normal_forms.NormalLoops.{counter_name}
use Rattle.last_values.specs.normal_forms.Texts.{trip_text}
use Rattle.pass_laws.specs.normal_facts.Laws.{IsCounter}

abbrev pub variables_of_loops : List Loop → List (List ℕ)
variables_of_loops ls = map (λ (l : Loop). l.variable) ls

-- ---- trips

-- The dividend is a linear form within the limits, over the variables of the loops round the loop and the symbols; the
-- trip is written as canonical text
pub record IsPreparedTrip (round symbols : List (List ℕ)) (last : Expression) (t : Trip) : Type 0 where
  pub top : IsForm (length round) t.top
  pub form : Form
  pub affine : IsAffineOf (length round) form t.top
  pub limited : is_limited (length round) form ≡ true
  pub short : length form.coefficients ≤ length round + length symbols
  -- coefficients of loops have seven places
  pub seven : length t.top.loops ≡ 7
  pub divisor : ℕ
  pub by : t.by ≡ pos divisor
  pub positive : 1 ≤ divisor
  pub small : divisor ≤ 2 ^ 40
  pub text : last ≡ trip_text round symbols [] t

-- ---- loops

-- A loop under these loops, at most seven with it: it counts by the name that its number gives, which is declared an
-- INTEGER scalar
pub record IsPreparedLoop (es : List Declaration) (symbols : List (List ℕ)) (round : List Loop) (l : Loop)
    : Type 0 where
  pub depth : length round < 7
  pub number : l.number < 2 ^ 32
  pub variable : l.variable ≡ counter_name l.number
  pub counter : IsSomeAnd (declared es l.variable) IsCounter
  pub normal : IsNormal l
  pub trip : IsSomeAnd l.trip (IsPreparedTrip (variables_of_loops round) symbols l.last)

-- each loop of a part, where these loops stand round it, is as is asked under the loops round it
module _ (Asked : List Loop → Loop → Type 0) where
  abbrev mutual
    pub EachLoop : List Loop → Part → Type 0
    EachLoop ls (Run s) = Unit {0}
    EachLoop ls (Turns l ps) = Asked ls l × EachLoopIn (ls ++ l ∷ []) ps
    EachLoop ls (Choice bs ps) = EachLoopUnder ls bs × EachLoopIn ls ps
    EachLoop ls (Label k) = Unit {0}
    EachLoop ls (Jump k) = Unit {0}

    pub EachLoopIn : List Loop → Parts → Type 0
    EachLoopIn ls no_parts = Unit {0}
    EachLoopIn ls (part p ps) = EachLoop ls p × EachLoopIn ls ps

    pub EachLoopUnder : List Loop → Branches → Type 0
    EachLoopUnder ls no_branches = Unit {0}
    EachLoopUnder ls (branch test ps bs) = EachLoopIn ls ps × EachLoopUnder ls bs
