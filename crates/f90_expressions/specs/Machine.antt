-- Reading an expression of Fortran 90 from left to right, word by word, with what is open on a stack. What is whole is
-- written to a list, each part behind the parts that it is made of.
use Rattle.std.specs.Prelude.{ℕ, ◌+◌, min, max, nat_lt, nat_le, Bool, true, false, ◌&&◌, List, [], ◌∷◌, ◌++◌}
use Rattle.std.specs.Prelude.{Option, Some, None, if◌then◌else◌}
use Rattle.tree.specs.declared.ops.Op.{Op}
use Rattle.tree.specs.OperatorTable.{Sign, Plus, level_of, left_least, right_least, stands_between}
use Rattle.tree.specs.OperatorTable.{sign_level, is_relation, may_follow}
use Rattle.reading.specs.Signs.{sign_leads, sign_of, sign_word}
use Rattle.f90_grammar.specs.Phrases.{Phrase90, phrase_level90, phrase_depth90, begins_with_sign90}
use Rattle.f90_grammar.specs.Words as words
use Rattle.f90_grammar.specs.Words.{Word90}
use Rattle.f90_expressions.specs.Flat.{Node, Digits, Truth, Name, Parenthesis, Prefix, Infix, One, Bounds, Stride}
use Rattle.f90_expressions.specs.Flat.{Begin, Listed, Values, Inner, Outer, Looped, placed}

-- ---- what is known of an operand. A depth is counted up to the first that is too deep

pub record Info : Type 0 where
  pub level : ℕ
  pub depth : ℕ
  pub leads : Bool
  pub placed : Bool

abbrev pub info : ℕ → ℕ → Bool → Bool → Info
info l d s g = record { level = l; depth = d; leads = s; placed = g }

abbrev pub counted : ℕ → ℕ
counted n = min n 1001

abbrev pub deeper : ℕ → ℕ
deeper n = counted (n + 1)

abbrev pub info_of : Phrase90 → Info
info_of p = info (phrase_level90 p) (counted (phrase_depth90 p)) (begins_with_sign90 p) (placed p)

abbrev pub sign_deeper : Sign → ℕ → ℕ
sign_deeper Plus n = n
sign_deeper s n = deeper n

abbrev pub primary : Info
primary = info 10 0 false true

abbrev pub signed : Sign → Info → Info
signed s m =
    info (sign_level s) (sign_deeper s m.depth) (sign_leads s) (m.placed && may_follow (sign_word s) m.leads)

abbrev pub joined : Op → Info → Info → Info
joined o a b =
    info (level_of o) (deeper (max a.depth b.depth)) (if is_relation o then false else a.leads)
    ((a.placed && b.placed) && may_follow o b.leads)

-- in parentheses, or a list
abbrev pub enclosed : ℕ → Bool → Info
enclosed d g = info 10 (deeper d) false g

-- ---- what is open, the innermost first: a sign; an operator behind its left operand; a parenthesis; a name with the
-- depth of its parts so far, and whether their signs stand where they may; the same behind one and behind two colons;
-- the values of a constructor so far, of which there are none or some; a turn at its first and at its second bound,
-- which is round another turn or isn't

pub data Frame : Type 0 where
  Before : Sign → Frame
  After : Op → Info → Frame
  Within : Frame
  Among : List ℕ → ℕ → Bool → Frame
  From : List ℕ → ℕ → Bool → Frame
  By : List ℕ → ℕ → Bool → Frame
  Items : Bool → ℕ → Bool → Frame
  First : Bool → List ℕ → ℕ → Bool → Frame
  Last : Bool → List ℕ → ℕ → Bool → Frame

abbrev pub frame_least : Frame → ℕ
frame_least (Before s) = sign_level s + 1
frame_least (After o a) = right_least o
frame_least f = 0

abbrev pub least : List Frame → ℕ
least [] = 0
least (f ∷ fs) = frame_least f

abbrev pub into : Frame → Info → Info
into (Before s) m = signed s m
into (After o a) m = joined o a m
into f m = m

abbrev pub emitted : Frame → List Node
emitted (Before s) = Prefix s ∷ []
emitted (After o a) = Infix o ∷ []
emitted f = []

-- the frames that stay, what the operand becomes, and what is whole
pub record Held : Type 0 where
  pub frames : List Frame
  pub info : Info
  pub nodes : List Node

abbrev pub held : List Frame → Info → List Node → Held
held fs m ns = record { frames = fs; info = m; nodes = ns }

abbrev pub close : ℕ → List Frame → Info → List Node → Held
close n [] m ns = held [] m ns
close n (f ∷ fs) m ns = if nat_lt n (frame_least f) then close n fs (into f m) (ns ++ emitted f) else held (f ∷ fs) m ns

-- an operand is due; one is held; a turn is held, with its depth; a turn's variable, and its equals sign, are due
pub data State : Type 0 where
  Wants : List Frame → State
  Has : List Frame → Info → State
  HasTurn : List Frame → ℕ → Bool → State
  WantsName : List Frame → Bool → ℕ → Bool → State
  WantsEquals : List Frame → Bool → List ℕ → ℕ → Bool → State

pub data Step : Type 0 where
  Go : State → List Node → Step
  Stop : Info → List Node → Step
  Fail : Step

abbrev pub begin_sign : List Frame → Option Sign → List Node → Step
begin_sign fs None ns = Fail
begin_sign fs (Some s) ns = if nat_le (least fs) (sign_level s) then Go (Wants (Before s ∷ fs)) ns else Fail

abbrev pub operand : List Frame → List Node → Node → Step
operand fs ns n = Go (Has fs primary) (ns ++ n ∷ [])

-- a word where an operand is due
abbrev pub begin : List Frame → Word90 → List Node → Step
begin fs (words.Digits t) ns = operand fs ns (Digits t)
begin fs (words.Truth b) ns = operand fs ns (Truth b)
begin fs (words.Name x) ns = operand fs ns (Name x)
begin fs (words.Head x) ns = Go (Wants (Among x 0 true ∷ fs)) (ns ++ Begin ∷ [])
begin fs (words.Operator o) ns = begin_sign fs (sign_of o) ns
begin fs words.Open ns = Go (Wants (Within ∷ fs)) ns
begin fs words.OpenList ns = Go (Wants (Items false 0 true ∷ fs)) (ns ++ Begin ∷ [])
begin fs w ns = Fail

abbrev pub halt : List Frame → Info → List Node → Step
halt [] m ns = Stop m ns
halt (f ∷ fs) m ns = Fail

abbrev pub halted : Held → Step
halted h = halt h.frames h.info h.nodes

abbrev pub join : Op → Held → Step
join o h =
    if nat_le (left_least o) h.info.level then Go (Wants (After o h.info ∷ h.frames)) h.nodes else Fail

abbrev pub named : List Frame → List ℕ → ℕ → Bool → List Node → Node → Step
named fs x d g ns part = Go (Has fs (enclosed d g)) (ns ++ part ∷ Listed x ∷ [])

abbrev pub turn_node : Bool → List ℕ → Node
turn_node true x = Outer x
turn_node false x = Inner x

-- a closing parenthesis
abbrev pub shut : List Frame → Info → List Node → Step
shut (Within ∷ fs) m ns = Go (Has fs (enclosed m.depth m.placed)) (ns ++ Parenthesis ∷ [])
shut (Among x d g ∷ fs) m ns = named fs x (max d m.depth) (g && m.placed) ns One
shut (From x d g ∷ fs) m ns = named fs x (max d m.depth) (g && m.placed) ns Bounds
shut (By x d g ∷ fs) m ns = named fs x (max d m.depth) (g && m.placed) ns Stride
shut (Last k x d g ∷ fs) m ns = Go (HasTurn fs (deeper (max d m.depth)) (g && m.placed)) (ns ++ turn_node k x ∷ [])
shut [] m ns = Stop m ns
shut fs m ns = Fail

abbrev pub among : List Frame → List ℕ → ℕ → Bool → List Node → Node → Step
among fs x d g ns part = Go (Wants (Among x d g ∷ fs)) (ns ++ part ∷ [])

-- a comma. In a parenthesis it begins the loop of a turn
abbrev pub part : List Frame → Info → List Node → Step
part (Within ∷ fs) m ns = Go (WantsName fs false m.depth m.placed) ns
part (Among x d g ∷ fs) m ns = among fs x (max d m.depth) (g && m.placed) ns One
part (From x d g ∷ fs) m ns = among fs x (max d m.depth) (g && m.placed) ns Bounds
part (By x d g ∷ fs) m ns = among fs x (max d m.depth) (g && m.placed) ns Stride
part (Items k d g ∷ fs) m ns = Go (Wants (Items true (max d m.depth) (g && m.placed) ∷ fs)) ns
part (First k x d g ∷ fs) m ns = Go (Wants (Last k x (max d m.depth) (g && m.placed) ∷ fs)) ns
part [] m ns = Stop m ns
part fs m ns = Fail

abbrev pub colon : List Frame → Info → List Node → Step
colon (Among x d g ∷ fs) m ns = Go (Wants (From x (max d m.depth) (g && m.placed) ∷ fs)) ns
colon (From x d g ∷ fs) m ns = Go (Wants (By x (max d m.depth) (g && m.placed) ∷ fs)) ns
colon [] m ns = Stop m ns
colon fs m ns = Fail

abbrev pub shut_list : List Frame → Info → List Node → Step
shut_list (Items k d g ∷ fs) m ns =
    Go (Has fs (enclosed (max d m.depth) (g && m.placed))) (ns ++ Values ∷ [])
shut_list [] m ns = Stop m ns
shut_list fs m ns = Fail

-- a word behind an operand
abbrev pub go_on : List Frame → Info → Word90 → List Node → Step
go_on fs m (words.Operator o) ns =
    if stands_between o then join o (close (level_of o) fs m ns) else halted (close 0 fs m ns)
go_on fs m words.Close ns = let h = close 0 fs m ns in shut h.frames h.info h.nodes
go_on fs m words.Comma ns = let h = close 0 fs m ns in part h.frames h.info h.nodes
go_on fs m words.Colon ns = let h = close 0 fs m ns in colon h.frames h.info h.nodes
go_on fs m words.CloseList ns = let h = close 0 fs m ns in shut_list h.frames h.info h.nodes
go_on fs m w ns = halted (close 0 fs m ns)

-- behind a turn: a loop round it, or the end of the constructor
abbrev pub loop_round : List Frame → ℕ → Bool → List Node → Step
loop_round (Within ∷ fs) d g ns = Go (WantsName fs true d g) ns
loop_round fs d g ns = Fail

abbrev pub end_looped : List Frame → ℕ → Bool → List Node → Step
end_looped (Items false e h ∷ fs) d g ns = Go (Has fs (enclosed d g)) (ns ++ Looped ∷ [])
end_looped fs d g ns = Fail

abbrev pub after_turn : List Frame → ℕ → Bool → Word90 → List Node → Step
after_turn fs d g words.Comma ns = loop_round fs d g ns
after_turn fs d g words.CloseList ns = end_looped fs d g ns
after_turn fs d g w ns = Fail

abbrev pub take_name : List Frame → Bool → ℕ → Bool → Word90 → List Node → Step
take_name fs k d g (words.Name x) ns = Go (WantsEquals fs k x d g) ns
take_name fs k d g w ns = Fail

abbrev pub take_equals : List Frame → Bool → List ℕ → ℕ → Bool → Word90 → List Node → Step
take_equals fs k x d g words.Equals ns = Go (Wants (First k x d g ∷ fs)) ns
take_equals fs k x d g w ns = Fail

abbrev pub step : State → Word90 → List Node → Step
step (Wants fs) w ns = begin fs w ns
step (Has fs m) w ns = go_on fs m w ns
step (HasTurn fs d g) w ns = after_turn fs d g w ns
step (WantsName fs k d g) w ns = take_name fs k d g w ns
step (WantsEquals fs k x d g) w ns = take_equals fs k x d g w ns

-- ---- the expression at the front of the words, as a list, and what follows it

pub record Read : Type 0 where
  pub info : Info
  pub nodes : List Node
  pub rest : List Word90

abbrev pub answer : Info → List Node → List Word90 → Option Read
answer m ns ws = Some (record { info = m; nodes = ns; rest = ws })

abbrev pub stopped : Step → List Word90 → Option Read
stopped (Stop m ns) ws = answer m ns ws
stopped s ws = None

abbrev pub ended : State → List Node → Option Read
ended (Has fs m) ns = stopped (halted (close 0 fs m ns)) []
ended s ns = None

abbrev pub went : Step → Word90 → List Word90 → (State → List Node → Option Read) → Option Read
went (Go s ns) w ws on = on s ns
went (Stop m ns) w ws on = answer m ns (w ∷ ws)
went Fail w ws on = None

abbrev pub run : List Word90 → State → List Node → Option Read
run [] s ns = ended s ns
run (w ∷ ws) s ns = went (step s w ns) w ws (run ws)

-- where each plus or minus sign stands where one may
abbrev pub if_placed : Option Read → Option Read
if_placed (Some r) = if r.info.placed then Some r else None
if_placed None = None

abbrev pub read : List Word90 → Option Read
read ws = if_placed (run ws (Wants []) [])
