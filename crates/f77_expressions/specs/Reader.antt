-- Reading an expression from left to right, word by word, with what is open on a stack.
use Rattle.std.specs.Prelude.{ℕ, ◌+◌, max, min, pos, Bool, true, false, ◌&&◌, nat_lt, nat_le, List, [], ◌∷◌, ◌++◌}
use Rattle.std.specs.Prelude.{Option, Some, None, if◌then◌else◌}
use Rattle.tree.specs.declared.ops.Op.{Op}
use Rattle.tree.specs.Limits.{expression_depth77}
use Rattle.tree.specs.Plain.{Expression, Number, Logic, Named, Binary, Subscript, Only, subscripts, no_subscripts}
use Rattle.f77_grammar.specs.expressions.Words as words
use Rattle.f77_grammar.specs.expressions.Words.{Word77}
use Rattle.tree.specs.OperatorTable.{Sign, Plus, level_of, left_least, right_least, stands_between}
use Rattle.tree.specs.OperatorTable.{is_relation, may_follow, sign_level}
use Rattle.reading.specs.Signs.{sign_leads, sign_of, signed, sign_word}

-- what is kept of an operand; `placed` is that each plus or minus sign in it stands where one may
pub record Operand : Type 0 where
  pub level : ℕ
  pub depth : ℕ
  pub begins_with_sign : Bool
  pub placed : Bool
  pub tree : Expression

-- a depth is counted up to the first that is too deep
abbrev pub capped : ℕ → ℕ
capped d = min d (expression_depth77 + 1)

abbrev pub deeper : ℕ → ℕ
deeper d = capped (d + 1)

abbrev pub sign_deeper : Sign → ℕ → ℕ
sign_deeper Plus d = d
sign_deeper s d = deeper d

abbrev pub primary : Expression → Operand
primary e = record { level = 10; depth = 0; begins_with_sign = false; placed = true; tree = e }

abbrev pub signed_operand : Sign → Operand → Operand
signed_operand s m = record {
  level = sign_level s;
  depth = sign_deeper s m.depth;
  begins_with_sign = sign_leads s;
  placed = m.placed && may_follow (sign_word s) m.begins_with_sign;
  tree = signed s m.tree;
}

abbrev pub joined_operand : Op → Operand → Operand → Operand
joined_operand o a b = record {
  level = level_of o;
  depth = deeper (max a.depth b.depth);
  begins_with_sign = if is_relation o then false else a.begins_with_sign;
  placed = (a.placed && b.placed) && may_follow o b.begins_with_sign;
  tree = Binary o a.tree b.tree;
}

abbrev pub paren_operand : Operand → Operand
paren_operand m = record {
  level = 10;
  depth = deeper m.depth;
  begins_with_sign = false;
  placed = m.placed;
  tree = m.tree;
}

abbrev pub listed_operand : List ℕ → List Subscript → ℕ → Bool → Operand
listed_operand x ss d g = record {
  level = 10;
  depth = deeper d;
  begins_with_sign = false;
  placed = g;
  tree = Named x (subscripts ss);
}

-- what is open, the innermost first: a sign, an operator with its left operand, a parenthesis, a name with its list so
-- far, the depth of that list and whether the signs in it stand where they may
pub data Frame : Type 0 where
  Before : Sign → Frame
  After : Op → Operand → Frame
  Within : Frame
  Among : List ℕ → List Subscript → ℕ → Bool → Frame

-- the least level of an operand there
abbrev pub frame_least : Frame → ℕ
frame_least (Before s) = sign_level s + 1
frame_least (After o a) = right_least o
frame_least Within = 0
frame_least (Among x ss d g) = 0

abbrev pub least : List Frame → ℕ
least [] = 0
least (f ∷ fs) = frame_least f

pub record Held : Type 0 where
  pub frames : List Frame
  pub operand : Operand

-- what an operand becomes with the sign or the operator of a frame
abbrev pub into : Frame → Operand → Operand
into (Before s) m = signed_operand s m
into (After o a) m = joined_operand o a m
into f m = m

-- the signs and operators that bind more tightly than a level are applied
abbrev pub close : ℕ → List Frame → Operand → Held
close n [] m = record { frames = []; operand = m }
close n (f ∷ fs) m = if nat_lt n (frame_least f) then close n fs (into f m) else record { frames = f ∷ fs; operand = m }

pub data State : Type 0 where
  Wants : List Frame → State
  Has : List Frame → Operand → State

pub data Step : Type 0 where
  Go : State → Step
  Stop : Operand → Step
  Fail : Step

abbrev pub begin_sign : List Frame → Option Sign → Step
begin_sign fs None = Fail
begin_sign fs (Some s) = if nat_le (least fs) (sign_level s) then Go (Wants (Before s ∷ fs)) else Fail

-- a word where an operand is due
abbrev pub begin : List Frame → Word77 → Step
begin fs (words.Number n) = Go (Has fs (primary (Number n)))
begin fs words.Wide = Go (Has fs (primary (Number (pos 0))))
begin fs (words.Truth b) = Go (Has fs (primary (Logic b)))
begin fs (words.Name x) = Go (Has fs (primary (Named x no_subscripts)))
begin fs (words.Head x) = Go (Wants (Among x [] 0 true ∷ fs))
begin fs (words.Operator o) = begin_sign fs (sign_of o)
begin fs words.Open = Go (Wants (Within ∷ fs))
begin fs w = Fail

abbrev pub join : Op → Held → Step
join o h =
    if stands_between o && nat_le (left_least o) h.operand.level
    then Go (Wants (After o h.operand ∷ h.frames))
    else Fail

abbrev pub shut : List Frame → Operand → Step
shut [] m = Stop m
shut (Within ∷ fs) m = Go (Has fs (paren_operand m))
shut (Among x ss d g ∷ fs) m = Go (Has fs (listed_operand x (ss ++ Only m.tree ∷ []) (max d m.depth) (g && m.placed)))
shut (Before s ∷ fs) m = Fail
shut (After o a ∷ fs) m = Fail

abbrev pub part : List Frame → Operand → Step
part [] m = Stop m
part (Within ∷ fs) m = Fail
part (Among x ss d g ∷ fs) m = Go (Wants (Among x (ss ++ Only m.tree ∷ []) (max d m.depth) (g && m.placed) ∷ fs))
part (Before s ∷ fs) m = Fail
part (After o a ∷ fs) m = Fail

abbrev pub halt : List Frame → Operand → Step
halt [] m = Stop m
halt (f ∷ fs) m = Fail

-- what ends an expression, behind an operand
abbrev pub halted : List Frame → Operand → Step
halted fs m = let h = close 0 fs m in halt h.frames h.operand

-- a word behind an operand
abbrev pub go_on : List Frame → Operand → Word77 → Step
go_on fs m (words.Operator o) = join o (close (level_of o) fs m)
go_on fs m words.Close = let h = close 0 fs m in shut h.frames h.operand
go_on fs m words.Comma = let h = close 0 fs m in part h.frames h.operand
go_on fs m words.Equals = halted fs m
go_on fs m words.Colon = halted fs m
go_on fs m w = Fail

abbrev pub step : State → Word77 → Step
step (Wants fs) w = begin fs w
step (Has fs m) w = go_on fs m w

pub record Read : Type 0 where
  pub operand : Operand
  pub rest : List Word77

abbrev pub stopped : Step → List Word77 → Option Read
stopped (Stop m) ws = Some (record { operand = m; rest = ws })
stopped (Go s) ws = None
stopped Fail ws = None

abbrev pub ended : State → Option Read
ended (Wants fs) = None
ended (Has fs m) = stopped (halted fs m) []

abbrev pub went : Step → Word77 → List Word77 → (State → Option Read) → Option Read
went (Go s) w ws on = on s
went (Stop m) w ws on = Some (record { operand = m; rest = w ∷ ws })
went Fail w ws on = None

-- the expression at the front, and what follows it, wherever its signs stand
abbrev pub run : List Word77 → State → Option Read
run [] s = ended s
run (w ∷ ws) s = went (step s w) w ws (run ws)

abbrev pub placed_alone : Read → Option Read
placed_alone r = if r.operand.placed then Some r else None

abbrev pub checked : Option Read → Option Read
checked None = None
checked (Some r) = placed_alone r

-- the expression at the front, and what follows it
abbrev pub read : List Word77 → Option Read
read ws = checked (run ws (Wants []))
