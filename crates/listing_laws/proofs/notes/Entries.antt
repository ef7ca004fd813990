-- What a listing says of a nest of printable names is printable.
use Rattle.std.proofs.Common.{refl, ℕ, zero, suc, ◌+◌, Bool, true, false, cond, Option, Some, None, List, [], ◌∷◌, ◌++◌}
use Rattle.std.proofs.Common.{map, codes, decimal}
use Rattle.std.specs.Fmt.{signed_decimal}
use Rattle.std.specs.List.{AllByRecursion}
use Rattle.dependence_graph.specs.declared.graphs.Cycle.{Cycle}
use Rattle.dependence_graph.specs.declared.graphs.Dep.{Dep}
use Rattle.dependence_graph.specs.declared.graphs.Dep.TheVariants.{Flow, Anti, Output}
use Rattle.dependence_graph.specs.declared.graphs.Dropped.{Dropped}
use Rattle.dependence_graph.specs.declared.graphs.Edge.{Edge}
use Rattle.dependence_graph.specs.declared.graphs.Graph.{Graph}
use Rattle.dependence_graph.specs.declared.graphs.Hold.{Hold}
use Rattle.dependence_graph.specs.declared.graphs.HoldReason.{HoldReason}
use Rattle.dependence_graph.specs.declared.graphs.HoldReason.TheVariants.{Form, Triangle, Bounds}
use Rattle.dependence_graph.specs.declared.graphs.Place.{Place}
use Rattle.f90_grammar.specs.PrintedText.{expression_text, guarded_assignment_text}
use Rattle.listing.specs.graphs.Lines.{Dependence, Meeting, Entry, NestEntry, LoopEntry, StatementEntry, EdgeEntry}
use Rattle.listing.specs.graphs.Lines.{DropEntry}
use Rattle.listing.specs.graphs.Lines.{CycleEntry, HoldEntry, KeepEntry, blank_then, tuple_text, statement_name, place_text}
use Rattle.listing.specs.graphs.Lines.{dependence_text, walk_text}
use Rattle.listing.specs.graphs.Lines.{level_text, meeting_text, entry_text}
use Rattle.listing.specs.graphs.Listing.{loop_entries, loop_entries_in, loop_entries_under, loop_numbers}
use Rattle.listing.specs.graphs.Listing.{statement_entries, meeting_of, related, answer_entry}
use Rattle.listing.specs.graphs.Listing.{cycle_entry, dependence_entries, hold_entries, entries_of}
use Rattle.listing.specs.graphs.Order.{Answered, Found, RuledOut, comes_before_edge, before, not_before, entries_in_order}
use Rattle.listing.specs.graphs.Words.{kind_word, test_word, hold_word, direction_sign}
use Rattle.nest.specs.Bodies.{Standing, nest_statements}
use Rattle.nest.specs.Plain.{Loop, Nest, Part, Run, Turns, Choice, Label, Jump, Parts, no_parts, part, Branches}
use Rattle.nest.specs.Plain.{no_branches, branch}
use Rattle.pass_laws.proofs.NormalFacts.LoopWalk.{EachLoop, EachLoopIn, EachLoopUnder}
use Rattle.subscripts.specs.declared.affine.Dir.{Dir}
use Rattle.subscripts.specs.declared.affine.Dir.TheVariants.{Lt, Eq, Gt, Any}
use Rattle.subscripts.specs.declared.verdict.Test.{Test}
use Rattle.subscripts.specs.declared.verdict.Test.TheVariants.{Trip, Scalar, Ziv, Strong, WeakZero, Crossing}
use Rattle.subscripts.specs.declared.verdict.Test.TheVariants.{Siv, Delta, Gcd, Range, Miv, Unknown}
use Rattle.listing_laws.proofs.notes.Arrays.{HasNamedArcs, IsNamedEdge, IsNamedDrop}
use Rattle.listing_laws.proofs.notes.Made.{IsPrintableStanding, IsPrintableIn, IsPrintableNest}
use Rattle.listing_laws.proofs.notes.Notes.{IsPrintableEntry}
use Rattle.listing_laws.proofs.notes.Phrases.{expression_printable, statement_printable}
use Rattle.listing_laws.proofs.notes.Printable.{ArePrintable, joined, both, blank, each_text, word, number, signed_number, tuple}

-- ---- words

kind : (k : Dep) → ArePrintable (kind_word k)
kind Flow = word (codes "FLOW") refl
kind Anti = word (codes "ANTI") refl
kind Output = word (codes "OUTPUT") refl

test : (t : Test) → ArePrintable (test_word t)
test Trip = word (codes "TRIP") refl
test Scalar = word (codes "SCALAR") refl
test Ziv = word (codes "ZIV") refl
test Strong = word (codes "STRONG") refl
test WeakZero = word (codes "WEAKZERO") refl
test Crossing = word (codes "CROSSING") refl
test Siv = word (codes "SIV") refl
test Delta = word (codes "DELTA") refl
test Gcd = word (codes "GCD") refl
test Range = word (codes "RANGE") refl
test Miv = word (codes "MIV") refl
test Unknown = word (codes "UNKNOWN") refl

hold : (r : HoldReason) → ArePrintable (hold_word r)
hold Form = word (codes "FORM") refl
hold Triangle = word (codes "TRIANGLE") refl
hold Bounds = word (codes "BOUNDS") refl

sign : (d : Dir) → ArePrintable (direction_sign d)
sign Lt = word (codes "<") refl
sign Eq = word (codes "=") refl
sign Gt = word (codes ">") refl
sign Any = word (codes "*") refl

-- ---- parts of an entry

statement : (s : ℕ) → ArePrintable (statement_name s)
statement s = both (codes "S") (decimal s) (word (codes "S") refl) (number s)

place : (p : Place) → ArePrintable (place_text p)
place p =
    both (statement_name (p.stmt + 1)) (codes "." ++ decimal p.at) (statement (p.stmt + 1))
    (both (codes ".") (decimal p.at) (word (codes ".") refl) (number p.at))

dependence : (d : Dependence) → ArePrintable d.array → ArePrintable (dependence_text d)
dependence d h =
    let directions = blank_then (tuple_text direction_sign d.directions) in
    let array = blank_then d.array ++ directions in
    let kinds = blank_then (kind_word d.kind) ++ array in
    both (place_text d.from) (blank_then (place_text d.to) ++ kinds) (place d.from)
    (both (blank_then (place_text d.to)) kinds (blank, place d.to)
    (both (blank_then (kind_word d.kind)) array (blank, kind d.kind)
    (both (blank_then d.array) directions (blank, h) (blank, tuple direction_sign sign d.directions))))

level : (n : ℕ) → ArePrintable (level_text n)
level zero = word (codes "INDEP") refl
level (suc n) = number (suc n)

meeting : (o : Option Meeting) → ArePrintable (meeting_text o)
meeting None = word (codes "ASSUMED") refl
meeting (Some m) =
    both (tuple_text signed_decimal m.first) (blank_then (tuple_text signed_decimal m.second)) (tuple signed_decimal signed_number m.first)
    (blank, tuple signed_decimal signed_number m.second)

-- ---- entries

nest_entry : (n line : ℕ) → IsPrintableEntry (NestEntry n line)
unfolding entry_text
nest_entry n line =
    both (codes "NEST ") (decimal n ++ (codes " LINE " ++ decimal line)) (word (codes "NEST ") refl)
    (both (decimal n) (codes " LINE " ++ decimal line) (number n) (both (codes " LINE ") (decimal line) (word (codes " LINE ") refl) (number line)))

loop : (n : ℕ) (x trip : List ℕ) (outer : ℕ) → ArePrintable x → ArePrintable trip → IsPrintableEntry (LoopEntry n x trip outer)
unfolding entry_text
loop n x trip outer h k =
    let last = codes " IN " ++ decimal outer in
    let behind = codes " TRIP " ++ (trip ++ last) in
    both (codes "LOOP ") (decimal n ++ (blank_then x ++ behind)) (word (codes "LOOP ") refl)
    (both (decimal n) (blank_then x ++ behind) (number n)
    (both (blank_then x) behind (blank, h)
    (both (codes " TRIP ") (trip ++ last) (word (codes " TRIP ") refl)
    (both trip last k (both (codes " IN ") (decimal outer) (word (codes " IN ") refl) (number outer))))))

one_statement : (s : ℕ) (loops text : List ℕ) → ArePrintable text → IsPrintableEntry (StatementEntry s loops text)
unfolding entry_text
one_statement s loops text h =
    let behind = blank_then (tuple_text decimal loops) ++ blank_then text in
    both (codes "STMT ") (statement_name s ++ behind) (word (codes "STMT ") refl)
    (both (statement_name s) behind (statement s)
    (both (blank_then (tuple_text decimal loops)) (blank_then text) (blank, tuple decimal number loops) (blank, h)))

edge : (d : Dependence) (n : ℕ) (t : Test) (o : Option Meeting) → ArePrintable d.array → IsPrintableEntry (EdgeEntry d n t o)
unfolding entry_text
edge d n t o h =
    let last = blank_then (test_word t) ++ blank_then (meeting_text o) in
    let behind = blank_then (level_text n) ++ last in
    both (codes "EDGE ") (dependence_text d ++ behind) (word (codes "EDGE ") refl)
    (both (dependence_text d) behind (dependence d h)
    (both (blank_then (level_text n)) last (blank, level n)
    (both (blank_then (test_word t)) (blank_then (meeting_text o)) (blank, test t) (blank, meeting o))))

drop : (d : Dependence) (t : Test) → ArePrintable d.array → IsPrintableEntry (DropEntry d t)
unfolding entry_text
drop d t h =
    both (codes "DROP ") (dependence_text d ++ blank_then (test_word t)) (word (codes "DROP ") refl)
    (both (dependence_text d) (blank_then (test_word t)) (dependence d h) (blank, test t))

one_hold : (h : Hold) → IsPrintableEntry (HoldEntry h)
unfolding entry_text
one_hold h =
    let behind = blank_then (decimal h.level) ++ blank_then (hold_word h.reason) in
    both (codes "HOLD ") (statement_name h.stmt ++ behind) (word (codes "HOLD ") refl)
    (both (statement_name h.stmt) behind (statement h.stmt)
    (both (blank_then (decimal h.level)) (blank_then (hold_word h.reason)) (blank, number h.level) (blank, hold h.reason)))

one_cycle : (level : ℕ) (ss : List ℕ) → IsPrintableEntry (CycleEntry level ss)
unfolding entry_text
one_cycle level ss =
    both (codes "CYCLE ") (decimal level ++ walk_text ss) (word (codes "CYCLE ") refl)
    (both (decimal level) (walk_text ss) (number level) (each_text (λ s. blank_then (statement_name s)) (λ s. (blank, statement s)) ss))

pub kept : (line : ℕ) (reason : List ℕ) → ArePrintable reason → IsPrintableEntry (KeepEntry line reason)
unfolding entry_text
kept line reason h =
    both (codes "KEEP ") (decimal line ++ blank_then reason) (word (codes "KEEP ") refl)
    (both (decimal line) (blank_then reason) (number line) (blank, h))

-- ---- all entries of a nest

abbrev pub ArePrintableEntries : List Entry → Type 0
ArePrintableEntries es = AllByRecursion IsPrintableEntry es

several : (es fs : List Entry) → ArePrintableEntries es → ArePrintableEntries fs → ArePrintableEntries (es ++ fs)
several = joined IsPrintableEntry

mutual
  loops : (round : List Loop) (outer : ℕ) (p : Part) → EachLoop IsPrintableIn round p → ArePrintableEntries (loop_entries outer p)
  loops round outer (Run s) h = tt
  loops round outer (Turns l ps) h =
      (loop l.number l.variable (expression_text l.last) outer h.0.0 (expression_printable l.last h.0.1), loops_in (round ++ l ∷ []) l.number ps h.1)
  loops round outer (Choice bs ps) h =
      several (loop_entries_under outer bs) (loop_entries_in outer ps) (loops_under round outer bs h.0) (loops_in round outer ps h.1)
  loops round outer (Label n) h = tt
  loops round outer (Jump n) h = tt

  loops_in : (round : List Loop) (outer : ℕ) (ps : Parts) → EachLoopIn IsPrintableIn round ps → ArePrintableEntries (loop_entries_in outer ps)
  loops_in round outer no_parts h = tt
  loops_in round outer (part p ps) h = several (loop_entries outer p) (loop_entries_in outer ps) (loops round outer p h.0) (loops_in round outer ps h.1)

  loops_under : (round : List Loop) (outer : ℕ) (bs : Branches) → EachLoopUnder IsPrintableIn round bs → ArePrintableEntries (loop_entries_under outer bs)
  loops_under round outer no_branches h = tt
  loops_under round outer (branch test ps bs) h =
      several (loop_entries_in outer ps) (loop_entries_under outer bs) (loops_in round outer ps h.0) (loops_under round outer bs h.1)

statements : (s : ℕ) (ts : List Standing) → AllByRecursion IsPrintableStanding ts → ArePrintableEntries (statement_entries s ts)
statements s [] h = tt
statements s (t ∷ ts) h = (
  one_statement s (loop_numbers t.loops) (guarded_assignment_text t.statement.guard t.statement.left t.statement.right) (statement_printable t.statement h.0),
  statements (suc s) ts h.1,
)

-- ---- edges and drops

abbrev IsNamed : Answered → Type 0
IsNamed (Found e) = IsNamedEdge e
IsNamed (RuledOut d) = IsNamedDrop d

abbrev AreDrops : List Dropped → Type 0
AreDrops ds = AllByRecursion IsNamedDrop ds

ruled_out : (ds : List Dropped) → AreDrops ds → AllByRecursion IsNamed (map RuledOut ds)
ruled_out [] h = tt
ruled_out (d ∷ ds) h = (h.0, ruled_out ds h.1)

drops_before : (e : Edge) (ds : List Dropped) → AreDrops ds → AreDrops (before e ds)
drops_before e [] h = tt
drops_before e (d ∷ ds) h = by (comes_before_edge d e) (drops_before e ds h.1)
  where
    by : (b : Bool) → AreDrops (before e ds) → AreDrops (cond b (d ∷ before e ds) [])
    by true more = (h.0, more)
    by false more = tt

drops_behind : (e : Edge) (ds : List Dropped) → AreDrops ds → AreDrops (not_before e ds)
drops_behind e [] h = tt
drops_behind e (d ∷ ds) h = by (comes_before_edge d e) (drops_behind e ds h.1)
  where
    by : (b : Bool) → AreDrops (not_before e ds) → AreDrops (cond b (not_before e ds) (d ∷ ds))
    by true more = more
    by false more = h

answers : (es : List Edge) (ds : List Dropped) → AllByRecursion IsNamedEdge es → AreDrops ds → AllByRecursion IsNamed (entries_in_order es ds)
answers [] ds h k = ruled_out ds k
answers (e ∷ es) ds h k =
    joined IsNamed (map RuledOut (before e ds)) (Found e ∷ entries_in_order es (not_before e ds)) (ruled_out (before e ds) (drops_before e ds k))
    (h.0, answers es (not_before e ds) h.1 (drops_behind e ds k))

module _ (ts : List Standing) where
  answer : (a : Answered) → IsNamed a → IsPrintableEntry (answer_entry ts a)
  answer (Found e) h = edge (related e.from e.to e.kind e.array e.dirs) e.level e.test (meeting_of ts e) h
  answer (RuledOut d) h = drop (related d.from d.to d.kind d.array d.dirs) d.test h

  each_answer : (xs : List Answered) → AllByRecursion IsNamed xs → ArePrintableEntries (map (answer_entry ts) xs)
  each_answer [] h = tt
  each_answer (a ∷ xs) h = (answer a h.0, each_answer xs h.1)

holds : (hs : List Hold) → ArePrintableEntries (hold_entries hs)
holds [] = tt
holds (h ∷ hs) = (one_hold h, holds hs)

cycles : (cs : List Cycle) → ArePrintableEntries (map cycle_entry cs)
cycles [] = tt
cycles (c ∷ cs) = (one_cycle c.level c.stmts, cycles cs)

pub nest_printable : (m : Nest) (nest : ℕ) (g : Graph) (hs : List Hold) (cs : List Cycle) → IsPrintableNest m → HasNamedArcs g
    → ArePrintableEntries (entries_of m nest g hs cs)
nest_printable m nest g hs cs h k =
    let ts = nest_statements m in
    let last = hold_entries hs ++ map cycle_entry cs in
    let arcs = dependence_entries ts g ++ last in
    let behind = statement_entries 1 ts ++ arcs in (
      nest_entry nest m.line,
      several (loop_entries 0 m.body) behind (loops [] 0 m.body h.loops)
          (several (statement_entries 1 ts) arcs (statements 1 ts h.statements)
          (several (dependence_entries ts g) last (each_answer ts (entries_in_order g.edges g.dropped) (answers g.edges g.dropped k.edges k.drops))
          (several (hold_entries hs) (map cycle_entry cs) (holds hs) (cycles cs)))),
    )
