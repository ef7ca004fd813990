-- What a line of a listing says, and its text.
use Rattle.std.specs.Prelude.{ℕ, zero, suc, ℤ, Option, Some, None, List, [], ◌∷◌, ◌++◌, codes}
use Rattle.std.specs.Fmt.{decimal, signed_decimal}
use Rattle.std.specs.List.{flat_map}
use Rattle.subscripts.specs.declared.affine.Dir.{Dir}
use Rattle.subscripts.specs.declared.verdict.Test.{Test}
use Rattle.dependence_graph.specs.declared.graphs.Dep.{Dep}
use Rattle.dependence_graph.specs.declared.graphs.Hold.{Hold}
use Rattle.dependence_graph.specs.declared.graphs.Place.{Place}
use Rattle.listing.specs.graphs.Words.{kind_word, test_word, hold_word, direction_sign}
use Rattle.nest.specs.Bodies.{statement_number}

-- a dependence of the second reference on the first, in these directions of their common loops
pub record Dependence : Type 0 where
  pub from : Place
  pub to : Place
  pub kind : Dep
  pub array : List ℕ
  pub directions : List Dir

-- iterations of the loops round the one reference and of those round the other one, at which the two meet
pub record Meeting : Type 0 where
  pub first : List ℤ
  pub second : List ℤ

pub data Entry : Type 0 where
  -- a nest: its number, and its line in the source
  NestEntry : ℕ → ℕ → Entry
  -- a loop: its number, its variable, the text of its trip, and the number of the loop round it
  LoopEntry : ℕ → List ℕ → List ℕ → ℕ → Entry
  -- a statement: its number, the numbers of the loops round it, and its text
  StatementEntry : ℕ → List ℕ → List ℕ → Entry
  -- an edge: its level, what settled it, and the least pair if one is known
  EdgeEntry : Dependence → ℕ → Test → Option Meeting → Entry
  -- no dependence, by this test
  DropEntry : Dependence → Test → Entry
  HoldEntry : Hold → Entry
  -- a closed walk over statements, at a level
  CycleEntry : ℕ → List ℕ → Entry
  -- a loop that is kept as it is, with its line and the reason's word
  KeepEntry : ℕ → List ℕ → Entry

-- ---- texts

-- behind a blank
abbrev pub blank_then : List ℕ → List ℕ
blank_then t = 32 ∷ t

-- in parentheses, with commas and without blanks
abbrev pub tuple_text : {A : Type 0} → (A → List ℕ) → List A → List ℕ
tuple_text text [] = codes "()"
tuple_text text (x ∷ xs) = codes "(" ++ (text x ++ (flat_map (λ y. codes "," ++ text y) xs ++ codes ")"))

-- the number of a statement
abbrev pub statement_name : ℕ → List ℕ
statement_name s = codes "S" ++ decimal s

-- a graph has the statement's place, and a listing its number
abbrev pub place_text : Place → List ℕ
place_text p = statement_name (statement_number p.stmt) ++ (codes "." ++ decimal p.at)

abbrev pub dependence_text : Dependence → List ℕ
dependence_text d =
    place_text d.from ++ (blank_then (place_text d.to) ++ (blank_then (kind_word d.kind)
    ++ (blank_then d.array ++ blank_then (tuple_text direction_sign d.directions))))

-- a loop independent dependence has no level
abbrev pub level_text : ℕ → List ℕ
level_text zero = codes "INDEP"
level_text (suc n) = decimal (suc n)

abbrev pub meeting_text : Option Meeting → List ℕ
meeting_text None = codes "ASSUMED"
meeting_text (Some m) = tuple_text signed_decimal m.first ++ blank_then (tuple_text signed_decimal m.second)

abbrev pub walk_text : List ℕ → List ℕ
walk_text ss = flat_map (λ s. blank_then (statement_name s)) ss

unfoldable pub entry_text : Entry → List ℕ
entry_text (NestEntry n line) = codes "NEST " ++ (decimal n ++ (codes " LINE " ++ decimal line))
entry_text (LoopEntry n x trip outer) =
    codes "LOOP " ++ (decimal n ++ (blank_then x ++ (codes " TRIP " ++ (trip ++ (codes " IN " ++ decimal outer)))))
entry_text (StatementEntry s loops text) =
    codes "STMT " ++ (statement_name s ++ (blank_then (tuple_text decimal loops) ++ blank_then text))
entry_text (EdgeEntry d level test pair) =
    codes "EDGE " ++ (dependence_text d ++ (blank_then (level_text level)
    ++ (blank_then (test_word test) ++ blank_then (meeting_text pair))))
entry_text (DropEntry d test) = codes "DROP " ++ (dependence_text d ++ blank_then (test_word test))
entry_text (HoldEntry h) =
    codes "HOLD " ++ (statement_name h.stmt ++ (blank_then (decimal h.level) ++ blank_then (hold_word h.reason)))
entry_text (CycleEntry level ss) = codes "CYCLE " ++ (decimal level ++ walk_text ss)
entry_text (KeepEntry line reason) = codes "KEEP " ++ (decimal line ++ blank_then reason)
