-- The listing of a nest: its loops and statements, what depends on what and by which test, and what keeps a statement
-- in its loops.
use Rattle.std.specs.Prelude.{ℕ, zero, suc, ◌-◌, ◌/◌, Option, Some, None, List, [], ◌∷◌, ◌++◌, map, take, drop, length}
use Rattle.std.specs.Prelude.{codes, slice_get}
use Rattle.std.specs.List.{flat_map}
use Rattle.subscripts.specs.declared.affine.Dirs.{Dirs}
use Rattle.dependence_graph.specs.declared.graphs.Cycle.{Cycle}
use Rattle.dependence_graph.specs.declared.graphs.Dep.{Dep}
use Rattle.dependence_graph.specs.declared.graphs.Dropped.{Dropped}
use Rattle.dependence_graph.specs.declared.graphs.Edge.{Edge}
use Rattle.dependence_graph.specs.declared.graphs.Graph.{Graph}
use Rattle.dependence_graph.specs.declared.graphs.Hold.{Hold}
use Rattle.dependence_graph.specs.declared.graphs.Place.{Place}
use Rattle.nest.specs.Bodies.{Standing, nest_statements}
use Rattle.nest.specs.Plain.{Loop, Nest, Part, Run, Turns, Choice, Label, Jump, Parts, no_parts, part}
use Rattle.nest.specs.Plain.{Branches, no_branches, branch}
use Rattle.nest.specs.View.{Branch}
use Rattle.f90_grammar.specs.PrintedText.{expression_text, guarded_assignment_text}
use Rattle.listing.specs.graphs.Lines.{Dependence, Meeting, Entry, NestEntry, LoopEntry, StatementEntry, EdgeEntry}
use Rattle.listing.specs.graphs.Lines.{DropEntry, HoldEntry, CycleEntry, entry_text}
use Rattle.listing.specs.graphs.Order.{Answered, Found, RuledOut, entries_in_order}

-- ---- loops, each with the one round it

abbrev pub loop_entry : ℕ → Loop → Entry
loop_entry outer l = LoopEntry l.number l.variable (expression_text l.last) outer

abbrev mutual
  pub loop_entries : ℕ → Part → List Entry
  loop_entries outer (Run s) = []
  loop_entries outer (Turns l ps) = loop_entry outer l ∷ loop_entries_in l.number ps
  loop_entries outer (Choice bs ps) = loop_entries_under outer bs ++ loop_entries_in outer ps
  loop_entries outer (Label n) = []
  loop_entries outer (Jump n) = []

  pub loop_entries_in : ℕ → Parts → List Entry
  loop_entries_in outer no_parts = []
  loop_entries_in outer (part p ps) = loop_entries outer p ++ loop_entries_in outer ps

  pub loop_entries_under : ℕ → Branches → List Entry
  loop_entries_under outer no_branches = []
  loop_entries_under outer (branch test ps bs) = loop_entries_in outer ps ++ loop_entries_under outer bs

abbrev pub loop_entries_of : ℕ → Branch → List Entry
loop_entries_of outer b = loop_entries_in outer b.body

-- ---- statements, by their numbers

abbrev pub loop_numbers : List Loop → List ℕ
loop_numbers ls = map (λ (l : Loop). l.number) ls

abbrev pub statement_entry : ℕ → Standing → Entry
statement_entry s t = StatementEntry s (loop_numbers t.loops)
    (guarded_assignment_text t.statement.guard t.statement.left t.statement.right)

abbrev pub statement_entries : ℕ → List Standing → List Entry
statement_entries s [] = []
statement_entries s (t ∷ ts) = statement_entry s t ∷ statement_entries (suc s) ts

-- ---- dependences

-- how many loops are round the statement with this place
abbrev pub depth_of : List Standing → ℕ → ℕ
depth_of ts s = elim (slice_get ts s) [ Some t ↦ length t.loops | None ↦ 0 ]

abbrev pub meeting_of : List Standing → Edge → Option Meeting
meeting_of ts e = elim e.pair [
  | None ↦ None
  | Some p ↦ Some (record {
    first = take (depth_of ts e.from.stmt) p.0.at;
    second = take (depth_of ts e.to.stmt) p.1.at;
  })
]

abbrev pub related : Place → Place → Dep → List ℕ → Dirs → Dependence
related p q kind x d = record { from = p; to = q; kind = kind; array = x; directions = take d.len d.at }

abbrev pub edge_entry : List Standing → Edge → Entry
edge_entry ts e = EdgeEntry (related e.from e.to e.kind e.array e.dirs) e.level e.test (meeting_of ts e)

abbrev pub drop_entry : Dropped → Entry
drop_entry d = DropEntry (related d.from d.to d.kind d.array d.dirs) d.test

abbrev pub answer_entry : List Standing → Answered → Entry
answer_entry ts (Found e) = edge_entry ts e
answer_entry ts (RuledOut d) = drop_entry d

abbrev pub dependence_entries : List Standing → Graph → List Entry
dependence_entries ts g = map (answer_entry ts) (entries_in_order g.edges g.dropped)

-- ---- the listing

abbrev pub hold_entries : List Hold → List Entry
hold_entries hs = map HoldEntry hs

abbrev pub cycle_entry : Cycle → Entry
cycle_entry c = CycleEntry c.level c.stmts

abbrev pub entries_of : Nest → ℕ → Graph → List Hold → List Cycle → List Entry
entries_of n nest g hs cs =
    NestEntry nest n.line ∷ (loop_entries 0 n.body ++ (statement_entries 1 (nest_statements n)
    ++ (dependence_entries (nest_statements n) g ++ (hold_entries hs ++ map cycle_entry cs))))

-- ---- lines of a text: each is a comment of Fortran 90; one of more than 120 characters is cut into pieces of 120

abbrev pub line_piece_length : ℕ
line_piece_length = 120

abbrev pub further_line_pieces : List ℕ → ℕ
further_line_pieces t = (length t - 1) / line_piece_length

-- each piece stands behind what begins its line; those behind the first one begin with a plus sign
abbrev pub line_pieces : List ℕ → ℕ → List ℕ → List (List ℕ)
line_pieces first zero t = (first ++ t) ∷ []
line_pieces first (suc n) t =
    (first ++ take line_piece_length t) ∷ line_pieces (codes "!G + ") n (drop line_piece_length t)

unfoldable pub lines_from : List ℕ → List ℕ → List (List ℕ)
lines_from first t = line_pieces first (further_line_pieces t) t

abbrev pub listing_lines_of : List ℕ → List (List ℕ)
listing_lines_of t = lines_from (codes "!G ") t

abbrev pub lines_of_entry : Entry → List (List ℕ)
lines_of_entry e = listing_lines_of (entry_text e)

abbrev pub lines_of_entries : List Entry → List (List ℕ)
lines_of_entries es = flat_map lines_of_entry es

abbrev pub listing_of : Nest → ℕ → Graph → List Hold → List Cycle → List (List ℕ)
listing_of n nest g hs cs = lines_of_entries (entries_of n nest g hs cs)
