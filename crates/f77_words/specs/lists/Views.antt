-- What the code holds while it reads a list, as the reader's values.
use Rattle.std.specs.Prelude.{ℕ, Bool, true, false, ◌≡◌, ◌<◌, length, List, ◌∷◌, map, reverse, Option, Some, None}
use Rattle.std.specs.Prelude.{Result, Ok, Err}
use Rattle.std.specs.Borrow.{Bor}
use Rattle.tree.specs.View.{expression_of, item_of}
use Rattle.tree.specs.declared.exprs.Expr.{Expr}
use Rattle.f77_grammar.specs.expressions.Words as words
use Rattle.f77_grammar.specs.expressions.Words.{Word77}
use Rattle.f77_grammar.specs.declared.directions.Direction.{Direction}
use Rattle.f77_expressions.specs.Views.{words_of}
use Rattle.reading.specs.declared.stops.Stop.{Stop}
use Rattle.reading.specs.declared.stops.Stop.TheVariants.{Syntax, Memory}
use Rattle.f77_expressions.specs.declared.tokens.Token.{Token}
use Rattle.f77_words.specs.declared.lists.controls.DoControl.{DoControl}
use Rattle.f77_words.specs.declared.lists.lists.ItemList.{ItemList}
use Rattle.f77_words.specs.declared.lists.reader.Turn.{Turn}
use Rattle.f77_words.specs.declared.lists.reader.Turn.TheVariants.{Due, Done, Whole}
use Rattle.f77_words.specs.lists.Reader as reader

abbrev pub frame_of : ItemList → reader.Frame
frame_of l = record { items = map item_of l.items; depth = l.depth }

-- the lists that are open, the innermost first
abbrev pub stack : List ItemList → List reader.Frame
stack lists = reverse (map frame_of lists)

-- an item is due, or has been read
abbrev pub state_of : Bool → List ItemList → List Word77 → reader.State
state_of true lists ws = reader.Wants (stack lists) ws
state_of false lists ws = reader.Done (stack lists) ws

-- ---- what a function returned is what a step gives, unless memory ran out

abbrev pub Fails : Stop → reader.Step → Type 0
Fails Syntax step = step ≡ reader.Fail
Fails Memory step = Unit {0}

abbrev pub Leaves : Result (Bor (List Token)) Stop → List ItemList → reader.Step → Type 0
Leaves (Ok rest) lists step = step ≡ reader.Go (reader.Done (stack lists) (words_of rest.now))
Leaves (Err e) lists step = Fails e step

abbrev pub Turns : Result Turn Stop → List ItemList → reader.Step → Type 0
Turns (Ok (Due rest)) lists step = step ≡ reader.Go (reader.Wants (stack lists) (words_of rest.now))
Turns (Ok (Done rest)) lists step = step ≡ reader.Go (reader.Done (stack lists) (words_of rest.now))
Turns (Ok (Whole l)) lists step = step ≡ reader.Stop (frame_of l)
Turns (Err e) lists step = Fails e step

-- ---- parts of a list, as the reader finds them

abbrev pub Lacks : {T : Type 0} → Stop → Option T → Type 0
Lacks Syntax found = found ≡ None
Lacks Memory found = Unit {0}

abbrev pub GivesBound : Result (Expr × ℕ × Bor (List Token)) Stop → Option reader.Bound → Type 0
GivesBound (Ok r) found = found ≡ Some (record { tree = expression_of r.0; depth = r.1; rest = words_of r.2.now })
GivesBound (Err e) found = Lacks e found

abbrev pub control_of : DoControl → List Word77 → reader.ReadControl
control_of k rest = record {
  variable = k.variable;
  first = expression_of k.first;
  last = expression_of k.last;
  step = expression_of k.step;
  depth = k.depth;
  rest = rest;
}

abbrev pub GivesControl : Result (DoControl × Bor (List Token)) Stop → Option reader.ReadControl → Type 0
GivesControl (Ok r) found = found ≡ Some (control_of r.0 (words_of r.1.now))
GivesControl (Err e) found = Lacks e found

-- ---- and what reading gives

abbrev pub Runs : Result ItemList Stop → Direction → List Word77 → Type 0
Runs (Ok l) d ws = reader.Reaches d ws (reader.Stop (frame_of l))
Runs (Err Syntax) d ws = reader.Reaches d ws reader.Fail
Runs (Err Memory) d ws = Unit {0}

-- the words that follow are fewer
abbrev pub IsShorter : Turn → ℕ → Type 0
IsShorter (Due rest) n = length rest.now < n
IsShorter (Done rest) n = length rest.now < n
IsShorter (Whole l) n = Unit {0}

abbrev pub Ends : Result ItemList Stop → reader.Step → Type 0
Ends (Ok l) step = step ≡ reader.Stop (frame_of l)
Ends (Err e) step = Fails e step

abbrev pub Opens : Option (Bor (List Token)) → List Word77 → Type 0
Opens (Some rest) ws = (reader.opens ws ≡ true) × (ws ≡ words.Open ∷ words_of rest.now)
Opens None ws = reader.opens ws ≡ false
