-- Reading a list from left to right, an item or the end of an implied DO list at a time, with the lists that are open
-- on a stack.
use Rattle.std.specs.Prelude.{ℕ, ◌+◌, ◌-◌, ◌≡◌, max, pos, Bool, true, false, ◌&&◌, ◌==◌, List, [], ◌∷◌, ◌++◌, Option}
use Rattle.std.specs.Prelude.{Some, None, if◌then◌else◌}
use Rattle.tree.specs.Plain.{Expression, Number, Item, Single, Constant, ImpliedDo, items}
use Rattle.f77_grammar.specs.expressions.Words as words
use Rattle.f77_grammar.specs.expressions.Words.{Word77}
use Rattle.f77_grammar.specs.declared.directions.Direction.{Direction}
use Rattle.f77_grammar.specs.declared.directions.Direction.TheVariants.{Output, Input}
use Rattle.f77_expressions.specs.TokenFronts.{begins_with_name}
use Rattle.f77_expressions.specs.Reader as expressions
use Rattle.f77_expressions.specs.Reader.{Operand, Read, deeper}

-- a list so far, and its depth
pub record Frame : Type 0 where
  pub items : List Item
  pub depth : ℕ

abbrev pub none : Frame
none = record { items = []; depth = 0 }

abbrev pub added : Item → ℕ → Frame → Frame
added i d f = record { items = f.items ++ i ∷ []; depth = max f.depth d }

-- the lists that are open, the innermost first, and the words that follow: an item is due, or has been read
pub data State : Type 0 where
  Wants : List Frame → List Word77 → State
  Done : List Frame → List Word77 → State

pub data Step : Type 0 where
  Go : State → Step
  Stop : Frame → Step
  Fail : Step

abbrev pub put : Item → ℕ → List Frame → List Word77 → Step
put i d [] ws = Fail
put i d (f ∷ fs) ws = Go (Done (added i d f ∷ fs) ws)

-- ---- an item

-- a comma stands in the parenthesis before the words, and in none within it; `n` more are open
abbrev pub holds_comma : ℕ → List Word77 → Bool
holds_comma n [] = false
holds_comma n (words.Open ∷ ws) = holds_comma (n + 1) ws
holds_comma n (words.Head x ∷ ws) = holds_comma (n + 1) ws
holds_comma n (words.Close ∷ ws) = if n == 0 then false else holds_comma (n - 1) ws
holds_comma n (words.Comma ∷ ws) = if n == 0 then true else holds_comma n ws
holds_comma n (w ∷ ws) = holds_comma n ws

-- a parenthesis that holds a comma begins an implied DO list
abbrev pub opens : List Word77 → Bool
opens (words.Open ∷ ws) = holds_comma 0 ws
opens ws = false

abbrev pub may_stand : Direction → List Word77 → Operand → Bool
may_stand Output ws m = true
may_stand Input ws m = begins_with_name ws && (m.level == 10)

abbrev pub value : Direction → List Word77 → List Frame → Option Read → Step
value d ws fs None = Fail
value d ws fs (Some r) =
    if may_stand d ws r.operand then put (Single r.operand.tree) r.operand.depth fs r.rest else Fail

abbrev pub text : Direction → List ℕ → List Frame → List Word77 → Step
text Output t fs ws = put (Constant t) 0 fs ws
text Input t fs ws = Fail

-- an item that isn't an implied DO list
abbrev pub simple : Direction → List Frame → List Word77 → Step
simple d fs (words.Constant t ∷ ws) = text d t fs ws
simple d fs ws = value d ws fs (expressions.read ws)

abbrev pub open_list : List Frame → List Word77 → Step
open_list fs [] = Fail
open_list fs (w ∷ ws) = Go (Wants (none ∷ fs) ws)

abbrev pub begin_by : Direction → Bool → List Frame → List Word77 → Step
begin_by d true fs ws = open_list fs ws
begin_by d false fs ws = simple d fs ws

abbrev pub begin : Direction → List Frame → List Word77 → Step
begin d fs ws = begin_by d (opens ws) fs ws

-- ---- a DO variable with its parameters

-- a part, and what follows it
pub record Bound : Type 0 where
  pub tree : Expression
  pub depth : ℕ
  pub rest : List Word77

abbrev pub bound_of : Read → Bound
bound_of r = record { tree = r.operand.tree; depth = r.operand.depth; rest = r.rest }

abbrev pub given : Option Read → Option Bound
given None = None
given (Some r) = Some (bound_of r)

-- a step that is left out is 1
abbrev pub no_step : List Word77 → Bound
no_step ws = record { tree = Number (pos 1); depth = 0; rest = ws }

abbrev pub last_part : List Word77 → Option Bound
last_part (words.Comma ∷ ws) = given (expressions.read ws)
last_part ws = Some (no_step ws)

pub record ReadControl : Type 0 where
  pub variable : List ℕ
  pub first : Expression
  pub last : Expression
  pub step : Expression
  pub depth : ℕ
  pub rest : List Word77

abbrev pub control_with : List ℕ → Operand → Operand → Bound → ReadControl
control_with x a b c = record {
  variable = x;
  first = a.tree;
  last = b.tree;
  step = c.tree;
  depth = max (max a.depth b.depth) c.depth;
  rest = c.rest;
}

abbrev pub with_step : List ℕ → Operand → Operand → Option Bound → Option ReadControl
with_step x a b None = None
with_step x a b (Some c) = Some (control_with x a b c)

abbrev pub with_last : List ℕ → Operand → Option Read → Option ReadControl
with_last x a None = None
with_last x a (Some r) = with_step x a r.operand (last_part r.rest)

abbrev pub behind_first : List ℕ → Operand → List Word77 → Option ReadControl
behind_first x a (words.Comma ∷ ws) = with_last x a (expressions.read ws)
behind_first x a ws = None

abbrev pub with_first : List ℕ → Option Read → Option ReadControl
with_first x None = None
with_first x (Some r) = behind_first x r.operand r.rest

abbrev pub control : List Word77 → Option ReadControl
control (words.Name x ∷ (words.Equals ∷ ws)) = with_first x (expressions.read ws)
control ws = None

-- ---- what follows an item

abbrev pub begins_control : List Word77 → Bool
begins_control (words.Name x ∷ (words.Equals ∷ ws)) = true
begins_control ws = false

-- the parenthesis behind the control ends the innermost list
abbrev pub ended : List Frame → ReadControl → List Word77 → Step
ended (f ∷ fs) k (words.Close ∷ ws) =
    put (ImpliedDo (items f.items) k.variable k.first k.last k.step) (deeper (max f.depth k.depth)) fs ws
ended fs k ws = Fail

abbrev pub repeat : List Frame → Option ReadControl → Step
repeat fs None = Fail
repeat fs (Some k) = ended fs k k.rest

abbrev pub behind_comma : List Frame → List Word77 → Bool → Step
behind_comma fs ws true = repeat fs (control ws)
behind_comma fs ws false = Go (Wants fs ws)

abbrev pub whole : List Frame → Step
whole (f ∷ []) = Stop f
whole fs = Fail

abbrev pub follow : List Frame → List Word77 → Step
follow fs [] = whole fs
follow fs (words.Comma ∷ ws) = behind_comma fs ws (begins_control ws)
follow fs ws = Fail

-- ---- the whole list

abbrev pub step : Direction → State → Step
step d (Wants fs ws) = begin d fs ws
step d (Done fs ws) = follow fs ws

abbrev pub start : List Word77 → State
start ws = Wants (none ∷ []) ws

-- steps lead from a state to another
pub data Path (d : Direction) : State → State → Type 0 where
  here : (s : State) → Path d s s
  onward : (s t u : State) → step d s ≡ Go t → Path d t u → Path d s u

-- the items, where steps lead to the end of the words
pub record Reaches (d : Direction) (ws : List Word77) (end : Step) : Type 0 where
  pub state : State
  pub path : Path d (start ws) state
  pub ends : step d state ≡ end
