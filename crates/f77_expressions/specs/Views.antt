-- What the code holds while it reads, as the reader's values.
use Rattle.std.specs.Prelude.{◌≡◌, List, [], ◌∷◌, map, reverse, Option, Some, None, Result, Ok, Err}
use Rattle.tree.specs.Plain.{Subscript}
use Rattle.tree.specs.View.{expression_of, subscript_of}
use Rattle.tree.specs.declared.exprs.Sub.{Sub}
use Rattle.f77_expressions.specs.declared.operands.Operand.{Operand}
use Rattle.f77_expressions.specs.declared.operands.Frame.{Frame}
use Rattle.f77_expressions.specs.declared.operands.Frame.TheVariants.{Before, After, Within, Among}
use Rattle.f77_expressions.specs.declared.reader.Turn.{Turn}
use Rattle.f77_expressions.specs.declared.reader.Turn.TheVariants.{On, Whole}
use Rattle.reading.specs.declared.stops.Stop.{Stop}
use Rattle.reading.specs.declared.stops.Stop.TheVariants.{Syntax, Memory}
use Rattle.f77_expressions.specs.declared.tokens.Token.{Token}
use Rattle.std.specs.Borrow.{Bor}
use Rattle.f77_grammar.specs.expressions.Words.{Word77}
use Rattle.f77_expressions.specs.Reader as reader
use Rattle.f77_expressions.specs.Tokens.{word_of}
use Rattle.reading.specs.Signs.{sign_view}

abbrev pub subscripts_of : List Sub → List Subscript
subscripts_of subs = map subscript_of subs

abbrev pub operand_of : Operand → reader.Operand
operand_of m = record {
  level = m.level;
  depth = m.depth;
  begins_with_sign = m.begins_with_sign;
  placed = m.placed;
  tree = expression_of m.tree;
}

abbrev pub frame_of : Frame → reader.Frame
frame_of (Before s) = reader.Before (sign_view s)
frame_of (After o m) = reader.After o (operand_of m)
frame_of Within = reader.Within
frame_of (Among x subs d g) = reader.Among x (subscripts_of subs) d g

-- the frames, the innermost first
abbrev pub stack : List Frame → List reader.Frame
stack frames = reverse (map frame_of frames)

-- a level of signs and operators closed over an operand: the frames that stay, and what the operand becomes
abbrev pub held : List Frame → Operand → reader.Held
held frames m = record { frames = stack frames; operand = operand_of m }

-- an operand is due, or one is held
abbrev pub state_of : List Frame → Option Operand → reader.State
state_of frames None = reader.Wants (stack frames)
state_of frames (Some m) = reader.Has (stack frames) (operand_of m)

-- ---- what a function returned is what a step gives, unless memory ran out

abbrev pub Fails : Stop → reader.Step → Type 0
Fails Syntax step = step ≡ reader.Fail
Fails Memory step = Unit {0}

abbrev pub Begins : Result (Option Operand) Stop → List Frame → reader.Step → Type 0
Begins (Ok operand) frames step = step ≡ reader.Go (state_of frames operand)
Begins (Err e) frames step = Fails e step

abbrev pub Turns : Result Turn Stop → List Frame → reader.Step → Type 0
Turns (Ok (On operand)) frames step = step ≡ reader.Go (state_of frames operand)
Turns (Ok (Whole m)) frames step = step ≡ reader.Stop (operand_of m)
Turns (Err e) frames step = Fails e step

abbrev pub Shuts : Result Operand Stop → List reader.Frame → reader.Step → Type 0
Shuts (Ok m) fs step = step ≡ reader.Go (reader.Has fs (operand_of m))
Shuts (Err e) fs step = Fails e step

abbrev pub Parts : Result Frame Stop → List reader.Frame → reader.Step → Type 0
Parts (Ok f) fs step = step ≡ reader.Go (reader.Wants (frame_of f ∷ fs))
Parts (Err e) fs step = Fails e step

-- ---- and what reading gives

abbrev pub Lacks : Stop → Option reader.Read → Type 0
Lacks Syntax read = read ≡ None
Lacks Memory read = Unit {0}

abbrev pub Finishes : Result Operand Stop → reader.State → Type 0
Finishes (Ok m) state = reader.ended state ≡ Some (record { operand = operand_of m; rest = [] })
Finishes (Err e) state = Lacks e (reader.ended state)

abbrev pub words_of : List Token → List Word77
words_of tokens = map word_of tokens

abbrev pub Reads : Result (Operand × Bor (List Token)) Stop → Option reader.Read → Type 0
Reads (Ok r) read = read ≡ Some (record { operand = operand_of r.0; rest = words_of r.1.now })
Reads (Err e) read = Lacks e read

abbrev pub Halts : Result Operand Stop → reader.Step → Type 0
Halts (Ok m) step = step ≡ reader.Stop (operand_of m)
Halts (Err e) step = Fails e step
