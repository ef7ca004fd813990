-- Reading an expression of Fortran 90 from left to right, word by word, with what is open on a stack.
use Rattle.std.specs.Prelude.{ℕ, ◌+◌, nat_lt, nat_le, List, [], ◌∷◌, Option, Some, None, if◌then◌else◌}
use Rattle.tree.specs.declared.ops.Op.{Op}
use Rattle.tree.specs.declared.ops.Op.TheVariants.{Add, Sub, Not}
use Rattle.tree.specs.OperatorTable.{Sign, Plus, Minus, Negation, level_of, left_least, right_least, stands_between, sign_level}
use Rattle.f90_grammar.specs.Phrases.{Phrase90, Literal, Truth, Name, Listed, Paren, Signed, Joined, Values, Looped, ListPart, Value, Range, Strided, ListParts, One, Then, Phrases90, Sole, More, Turn, Innermost, Round, phrase_level90}
use Rattle.f90_grammar.specs.Words as words
use Rattle.f90_grammar.specs.Words.{Word90}

-- what stands under a loop of a constructor: a value, or a turn
pub data Body : Type 0 where
  Of : Phrase90 → Body
  Nested : Turn → Body

abbrev pub closed_turn : Body → List ℕ → Phrase90 → Phrase90 → Turn
closed_turn (Of p) x a b = Innermost p x a b
closed_turn (Nested t) x a b = Round t x a b

-- What is open, the innermost first: a sign; an operator with its left operand; a parenthesis; a name with its parts so far; the same behind one
-- and behind two colons; the list of a constructor so far; a turn at its first and at its second bound
pub data Frame : Type 0 where
  Before : Sign → Frame
  After : Op → Phrase90 → Frame
  Within : Frame
  Among : List ℕ → Option ListParts → Frame
  From : List ℕ → Option ListParts → Phrase90 → Frame
  By : List ℕ → Option ListParts → Phrase90 → Phrase90 → Frame
  Items : Option Phrases90 → Frame
  First : Body → List ℕ → Frame
  Last : Body → List ℕ → Phrase90 → Frame

abbrev pub frame_least : Frame → ℕ
frame_least (Before s) = sign_level s + 1
frame_least (After o a) = right_least o
frame_least f = 0

abbrev pub least : List Frame → ℕ
least [] = 0
least (f ∷ fs) = frame_least f

pub record Held : Type 0 where
  pub frames : List Frame
  pub phrase : Phrase90

abbrev pub into : Frame → Phrase90 → Phrase90
into (Before s) m = Signed s m
into (After o a) m = Joined o a m
into f m = m

abbrev pub close : ℕ → List Frame → Phrase90 → Held
close n [] m = record { frames = []; phrase = m }
close n (f ∷ fs) m = if nat_lt n (frame_least f) then close n fs (into f m) else record { frames = f ∷ fs; phrase = m }

-- an operand is due; one is held; a turn is held; a turn's variable, and its equals sign, are due
pub data State : Type 0 where
  Wants : List Frame → State
  Has : List Frame → Phrase90 → State
  HasTurn : List Frame → Turn → State
  WantsName : List Frame → Body → State
  WantsEquals : List Frame → Body → List ℕ → State

pub data Step : Type 0 where
  Go : State → Step
  Stop : Phrase90 → Step
  Fail : Step

abbrev pub sign_of : Op → Option Sign
sign_of Add = Some Plus
sign_of Sub = Some Minus
sign_of Not = Some Negation
sign_of o = None

abbrev pub begin_sign : List Frame → Option Sign → Step
begin_sign fs None = Fail
begin_sign fs (Some s) = if nat_le (least fs) (sign_level s) then Go (Wants (Before s ∷ fs)) else Fail

-- a word where an operand is due
abbrev pub begin : List Frame → Word90 → Step
begin fs (words.Digits t) = Go (Has fs (Literal t))
begin fs (words.Truth b) = Go (Has fs (Truth b))
begin fs (words.Name x) = Go (Has fs (Name x))
begin fs (words.Head x) = Go (Wants (Among x None ∷ fs))
begin fs (words.Operator o) = begin_sign fs (sign_of o)
begin fs words.Open = Go (Wants (Within ∷ fs))
begin fs words.OpenList = Go (Wants (Items None ∷ fs))
begin fs w = Fail

abbrev pub halt : List Frame → Phrase90 → Step
halt [] m = Stop m
halt (f ∷ fs) m = Fail

abbrev pub halted : Held → Step
halted h = halt h.frames h.phrase

abbrev pub join : Op → Held → Step
join o h = if nat_le (left_least o) (phrase_level90 h.phrase) then Go (Wants (After o h.phrase ∷ h.frames)) else Fail

abbrev pub with_part : Option ListParts → ListPart → ListParts
with_part None p = One p
with_part (Some ps) p = Then ps p

abbrev pub with_value : Option Phrases90 → Phrase90 → Phrases90
with_value None p = Sole p
with_value (Some ps) p = More ps p

abbrev pub named : List Frame → List ℕ → ListParts → Step
named fs x ps = Go (Has fs (Listed x ps))

-- a closing parenthesis
abbrev pub shut : List Frame → Phrase90 → Step
shut (Within ∷ fs) m = Go (Has fs (Paren m))
shut (Among x ps ∷ fs) m = named fs x (with_part ps (Value m))
shut (From x ps a ∷ fs) m = named fs x (with_part ps (Range a m))
shut (By x ps a b ∷ fs) m = named fs x (with_part ps (Strided a b m))
shut (Last body x a ∷ fs) m = Go (HasTurn fs (closed_turn body x a m))
shut [] m = Stop m
shut fs m = Fail

abbrev pub among : List Frame → List ℕ → ListParts → Step
among fs x ps = Go (Wants (Among x (Some ps) ∷ fs))

-- a comma. In a parenthesis it begins the loop of a turn
abbrev pub part : List Frame → Phrase90 → Step
part (Within ∷ fs) m = Go (WantsName fs (Of m))
part (Among x ps ∷ fs) m = among fs x (with_part ps (Value m))
part (From x ps a ∷ fs) m = among fs x (with_part ps (Range a m))
part (By x ps a b ∷ fs) m = among fs x (with_part ps (Strided a b m))
part (Items ps ∷ fs) m = Go (Wants (Items (Some (with_value ps m)) ∷ fs))
part (First body x ∷ fs) m = Go (Wants (Last body x m ∷ fs))
part [] m = Stop m
part fs m = Fail

abbrev pub colon : List Frame → Phrase90 → Step
colon (Among x ps ∷ fs) m = Go (Wants (From x ps m ∷ fs))
colon (From x ps a ∷ fs) m = Go (Wants (By x ps a m ∷ fs))
colon [] m = Stop m
colon fs m = Fail

abbrev pub shut_list : List Frame → Phrase90 → Step
shut_list (Items ps ∷ fs) m = Go (Has fs (Values (with_value ps m)))
shut_list [] m = Stop m
shut_list fs m = Fail

-- a word behind an operand
abbrev pub go_on : List Frame → Phrase90 → Word90 → Step
go_on fs m (words.Operator o) = if stands_between o then join o (close (level_of o) fs m) else halted (close 0 fs m)
go_on fs m words.Close = let h = close 0 fs m in shut h.frames h.phrase
go_on fs m words.Comma = let h = close 0 fs m in part h.frames h.phrase
go_on fs m words.Colon = let h = close 0 fs m in colon h.frames h.phrase
go_on fs m words.CloseList = let h = close 0 fs m in shut_list h.frames h.phrase
go_on fs m w = halted (close 0 fs m)

-- behind a turn: a loop round it, or the end of the constructor
abbrev pub after_turn : List Frame → Turn → Word90 → Step
after_turn (Within ∷ fs) t words.Comma = Go (WantsName fs (Nested t))
after_turn (Items None ∷ fs) t words.CloseList = Go (Has fs (Looped t))
after_turn fs t w = Fail

abbrev pub take_name : List Frame → Body → Word90 → Step
take_name fs body (words.Name x) = Go (WantsEquals fs body x)
take_name fs body w = Fail

abbrev pub take_equals : List Frame → Body → List ℕ → Word90 → Step
take_equals fs body x words.Equals = Go (Wants (First body x ∷ fs))
take_equals fs body x w = Fail

abbrev pub step : State → Word90 → Step
step (Wants fs) w = begin fs w
step (Has fs m) w = go_on fs m w
step (HasTurn fs t) w = after_turn fs t w
step (WantsName fs body) w = take_name fs body w
step (WantsEquals fs body x) w = take_equals fs body x w

pub record Read : Type 0 where
  pub phrase : Phrase90
  pub rest : List Word90

abbrev pub stopped : Step → List Word90 → Option Read
stopped (Stop m) ws = Some (record { phrase = m; rest = ws })
stopped s ws = None

abbrev pub ended : State → Option Read
ended (Has fs m) = stopped (halted (close 0 fs m)) []
ended s = None

abbrev pub went : Step → Word90 → List Word90 → (State → Option Read) → Option Read
went (Go s) w ws on = on s
went (Stop m) w ws on = Some (record { phrase = m; rest = w ∷ ws })
went Fail w ws on = None

abbrev pub run : List Word90 → State → Option Read
run [] s = ended s
run (w ∷ ws) s = went (step s w) w ws (run ws)
