-- What the code holds while it reads, as the machine's values.
use Rattle.std.specs.Prelude.{◌≡◌, false, List, [], ◌∷◌, map, reverse, Option, Some, None, Result, Ok, Err}
use Rattle.std.specs.Borrow.{Bor}
use Rattle.f90_expressions.specs.words.Tokens.{words_of}
use Rattle.f90_expressions.specs.declared.words.tokens.Token.{Token}
use Rattle.reading.specs.Signs.{sign_view}
use Rattle.reading.specs.declared.stops.Stop.{Stop}
use Rattle.reading.specs.declared.stops.Stop.TheVariants.{Syntax, Memory}
use Rattle.f90_expressions.specs.declared.nodes.Node.{Node}
use Rattle.f90_expressions.specs.declared.nodes.Node.TheVariants.{Digits, Truth, Name, Parenthesis, Prefix, Infix, One}
use Rattle.f90_expressions.specs.declared.nodes.Node.TheVariants.{Bounds, Stride, Begin, Listed, Values, Inner, Outer}
use Rattle.f90_expressions.specs.declared.nodes.Node.TheVariants.{Looped}
use Rattle.f90_expressions.specs.declared.operands.Operand.{Operand}
use Rattle.f90_expressions.specs.declared.operands.Frame.{Frame}
use Rattle.f90_expressions.specs.declared.operands.Frame.TheVariants.{Before, After, Within, Among, From, By, Items}
use Rattle.f90_expressions.specs.declared.operands.Frame.TheVariants.{First, Last}
use Rattle.f90_expressions.specs.declared.reader.Opened.{Opened}
use Rattle.f90_expressions.specs.declared.reader.Opened.TheVariants.{Further, Loop}
use Rattle.f90_expressions.specs.declared.reader.State.{State}
use Rattle.f90_expressions.specs.declared.reader.State.TheVariants.{Wants, Has, HasTurn, WantsName, WantsEquals}
use Rattle.f90_expressions.specs.declared.reader.Turn.{Turn}
use Rattle.f90_expressions.specs.declared.reader.Turn.TheVariants.{On, Whole}
use Rattle.f90_expressions.specs.Flat as flat
use Rattle.f90_expressions.specs.Machine as machine

abbrev pub node_seen : Node → flat.Node
node_seen (Digits t) = flat.Digits t
node_seen (Truth b) = flat.Truth b
node_seen (Name x) = flat.Name x
node_seen Parenthesis = flat.Parenthesis
node_seen (Prefix s) = flat.Prefix (sign_view s)
node_seen (Infix o) = flat.Infix o
node_seen One = flat.One
node_seen Bounds = flat.Bounds
node_seen Stride = flat.Stride
node_seen Begin = flat.Begin
node_seen (Listed x) = flat.Listed x
node_seen Values = flat.Values
node_seen (Inner x) = flat.Inner x
node_seen (Outer x) = flat.Outer x
node_seen Looped = flat.Looped

abbrev pub nodes_seen : List Node → List flat.Node
nodes_seen ns = map node_seen ns

abbrev pub info_seen : Operand → machine.Info
info_seen m = machine.info m.level m.depth m.leads m.placed

abbrev pub frame_seen : Frame → machine.Frame
frame_seen (Before s) = machine.Before (sign_view s)
frame_seen (After o m) = machine.After o (info_seen m)
frame_seen Within = machine.Within
frame_seen (Among x p) = machine.Among x p.depth p.placed
frame_seen (From x p) = machine.From x p.depth p.placed
frame_seen (By x p) = machine.By x p.depth p.placed
frame_seen (Items k p) = machine.Items k p.depth p.placed
frame_seen (First k x p) = machine.First k x p.depth p.placed
frame_seen (Last k x p) = machine.Last k x p.depth p.placed

-- the frames, the innermost first
abbrev pub stack : List Frame → List machine.Frame
stack frames = reverse (map frame_seen frames)

abbrev pub state_in : State → List machine.Frame → machine.State
state_in Wants fs = machine.Wants fs
state_in (Has m) fs = machine.Has fs (info_seen m)
state_in (HasTurn p) fs = machine.HasTurn fs p.depth p.placed
state_in (WantsName k p) fs = machine.WantsName fs k p.depth p.placed
state_in (WantsEquals k x p) fs = machine.WantsEquals fs k x p.depth p.placed

-- ---- what functions return, unless memory ran out

-- what a frame's sign or operator writes
abbrev pub emitted_option : Option Node → machine.Frame → Type 0
emitted_option None f = machine.emitted f ≡ []
emitted_option (Some n) f = machine.emitted f ≡ node_seen n ∷ []

abbrev pub Fails : Stop → machine.Step → Type 0
Fails Syntax step = step ≡ machine.Fail
Fails Memory step = Unit {0}

abbrev pub Goes : Result State Stop → List machine.Frame → List Node → machine.Step → Type 0
Goes (Ok s) fs ns step = step ≡ machine.Go (state_in s fs) (nodes_seen ns)
Goes (Err e) fs ns step = Fails e step

abbrev pub Opens : Result Frame Stop → List machine.Frame → List Node → machine.Step → Type 0
Opens (Ok f) fs ns step = step ≡ machine.Go (machine.Wants (frame_seen f ∷ fs)) (nodes_seen ns)
Opens (Err e) fs ns step = Fails e step

-- a comma goes on with a list, or begins a turn
abbrev pub Continues : Result Opened Stop → List machine.Frame → List Node → machine.Step → Type 0
Continues (Ok (Further f)) fs ns step = step ≡ machine.Go (machine.Wants (frame_seen f ∷ fs)) (nodes_seen ns)
Continues (Ok (Loop p)) fs ns step = step ≡ machine.Go (machine.WantsName fs false p.depth p.placed) (nodes_seen ns)
Continues (Err e) fs ns step = Fails e step

abbrev pub Turns : Result Turn Stop → List Frame → List Node → machine.Step → Type 0
Turns (Ok (On s)) frames ns step = step ≡ machine.Go (state_in s (stack frames)) (nodes_seen ns)
Turns (Ok (Whole m)) frames ns step = step ≡ machine.Stop (info_seen m) (nodes_seen ns)
Turns (Err e) frames ns step = Fails e step

abbrev pub Halts : Result Operand Stop → List Node → machine.Step → Type 0
Halts (Ok m) ns step = step ≡ machine.Stop (info_seen m) (nodes_seen ns)
Halts (Err e) ns step = Fails e step

abbrev pub Lacks : Stop → Option machine.Read → Type 0
Lacks Syntax read = read ≡ None
Lacks Memory read = Unit {0}

abbrev pub Finishes : Result Operand Stop → List Node → Option machine.Read → Type 0
Finishes (Ok m) ns read = read ≡ machine.answer (info_seen m) (nodes_seen ns) []
Finishes (Err e) ns read = Lacks e read

abbrev pub Reads : Result (Operand × Bor (List Token)) Stop → List Node → Option machine.Read → Type 0
Reads (Ok r) ns read = read ≡ machine.answer (info_seen r.0) (nodes_seen ns) (words_of r.1.now)
Reads (Err e) ns read = Lacks e read
