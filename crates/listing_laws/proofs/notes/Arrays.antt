-- The arrays of edges and drops are named in the nest.
use Rattle.std.proofs.Common.{◌≡◌, refl, sym, subst, ℕ, zero, suc, Bool, true, false, cond, Option, Some, None, List}
use Rattle.std.proofs.Common.{[], ◌∷◌, ◌++◌}
use Rattle.std.specs.Prelude.{All, slice_get}
use Rattle.std.specs.List.{AllByRecursion}
use Rattle.std.proofs.lemmas.List.Elements.{All-head, All-tail}
use Rattle.dependence_graph.specs.declared.graphs.Dropped.{Dropped}
use Rattle.dependence_graph.specs.declared.graphs.Edge.{Edge}
use Rattle.dependence_graph.specs.declared.graphs.Graph.{Graph}
use Rattle.tree.specs.Plain.{Expression, Number, Logic, Named, Unary, Binary, Apply, Constructor, Spread, Transpose}
use Rattle.tree.specs.Plain.{Reshape, Reduce, Expressions, no_expressions, expression, Subscript, Only, Section}
use Rattle.tree.specs.Plain.{Subscripts, no_subscripts, subscript, Reference}
use Rattle.dependence_graph.specs.nest_graph.Arcs.{VectorVerdict, Assumed, Couple, Met, Never, Verdict, edge_of, drop_of}
use Rattle.dependence_graph.specs.nest_graph.Arcs.{with_some, edges_of, drops_of}
use Rattle.dependence_graph.specs.nest_graph.Graph.{IsCouple, IsGraphOf, all_edges, all_drops}
use Rattle.dependence_graph.specs.nest_graph.References.{is_among, has_no_subscript, own_reference, variables_round, references_in}
use Rattle.dependence_graph.specs.nest_graph.References.{references_in_all}
use Rattle.dependence_graph.specs.nest_graph.References.{references_in_subscript, references_in_subscripts, references_in_guard}
use Rattle.dependence_graph.specs.nest_graph.References.{references_of}
use Rattle.nest.specs.Bodies.{Standing, nest_statements}
use Rattle.nest.specs.Plain.{Nest}
use Rattle.pass_laws.proofs.NormalFacts.Texts.{IsOver, EachIsOver, AreOver, OneIsOver, GuardIsOver}
use Rattle.subscripts.specs.declared.affine.Dir.{Dir}
use Rattle.listing_laws.proofs.notes.Made.{IsPrintableStanding}
use Rattle.listing_laws.proofs.notes.Printable.{ArePrintable, joined}

-- ---- the references of a statement

abbrev IsPrintableName : Reference → Type 0
IsPrintableName r = ArePrintable r.name

abbrev AreNamed : List Reference → Type 0
AreNamed rs = AllByRecursion IsPrintableName rs

several : (rs ss : List Reference) → AreNamed rs → AreNamed ss → AreNamed (rs ++ ss)
several = joined IsPrintableName

module _ (loops : List (List ℕ)) where
  own : (x : List ℕ) (ss : Subscripts) → ArePrintable x → AreNamed (own_reference loops x ss)
  own x ss h = by (has_no_subscript ss) (is_among loops x)
    where
      one : List Reference
      one = record { name = x; subscripts = ss } ∷ []

      by : (b c : Bool) → AreNamed (cond b (cond c [] one) one)
      by true true = tt
      by true false = (h, tt)
      by false c = (h, tt)

  mutual
    named : (e : Expression) → IsOver ArePrintable e → AreNamed (references_in loops e)
    named (Number n) h = tt
    named (Logic b) h = tt
    named (Named x ss) h = several (own_reference loops x ss) (references_in_subscripts loops ss) (own x ss h.0) (named_subscripts ss h.1)
    named (Unary o a) h = named a h
    named (Binary o a b) h = several (references_in loops a) (references_in loops b) (named a h.0) (named b h.1)
    named (Apply f es) h = named_each es h
    named (Constructor es ls) h = absurd h
    named (Spread a n e) h = absurd h
    named (Transpose a) h = absurd h
    named (Reshape a es) h = absurd h
    named (Reduce r a) h = absurd h

    named_each : (es : Expressions) → EachIsOver ArePrintable es → AreNamed (references_in_all loops es)
    named_each no_expressions h = tt
    named_each (expression e es) h = several (references_in loops e) (references_in_all loops es) (named e h.0) (named_each es h.1)

    named_subscripts : (ss : Subscripts) → AreOver ArePrintable ss → AreNamed (references_in_subscripts loops ss)
    named_subscripts no_subscripts h = tt
    named_subscripts (subscript s ss) h =
        several (references_in_subscript loops s) (references_in_subscripts loops ss) (named_subscript s h.0) (named_subscripts ss h.1)

    named_subscript : (s : Subscript) → OneIsOver ArePrintable s → AreNamed (references_in_subscript loops s)
    named_subscript (Only e) h = named e h
    named_subscript (Section a b c) h = absurd h

  named_guard : (o : Option Expression) → GuardIsOver ArePrintable o → AreNamed (references_in_guard loops o)
  named_guard None h = tt
  named_guard (Some e) h = named e h

references_named : (s : Standing) → IsPrintableStanding s → AreNamed (references_of s)
references_named s h =
    let loops = variables_round s in
    let left = references_in_subscripts loops s.statement.left.subscripts in
    let right = references_in loops s.statement.right in (
      h.name,
      several (references_in_guard loops s.statement.guard) (left ++ right) (named_guard loops s.statement.guard h.guard)
          (several left right (named_subscripts loops s.statement.left.subscripts h.left) (named loops s.statement.right h.right)),
    )

-- ---- the arrays of a graph

at : {A : Type 0} (P : A → Type 0) (xs : List A) (k : ℕ) (x : A) → AllByRecursion P xs → slice_get xs k ≡ Some x → P x
at P [] k x h e = let no : ⊥ = cc in absurd no
at P (y ∷ xs) zero x h e = let same : y ≡ x = cc in subst P same h.0
at P (y ∷ xs) (suc k) x h e = at P xs k x h.1 e

abbrev HasPrintableArray : Couple → Type 0
HasPrintableArray c = ArePrintable c.array

abbrev pub IsNamedEdge : Edge → Type 0
IsNamedEdge e = ArePrintable e.array

abbrev pub IsNamedDrop : Dropped → Type 0
IsNamedDrop d = ArePrintable d.array

module _ (m : Nest) (each : AllByRecursion IsPrintableStanding (nest_statements m)) where
  couple_named : (c : Couple) → IsCouple m c → HasPrintableArray c
  couple_named c h =
      let first = h.refs.first_is in
      let standing = at IsPrintableStanding (nest_statements m) c.from.stmt h.refs.first each first.statement in
      subst ArePrintable (sym h.array)
      (at IsPrintableName (references_of h.refs.first) c.from.at h.refs.first_reference (references_named h.refs.first standing) first.reference)

  couples_named : (cs : List Couple) → All (IsCouple m) cs → AllByRecursion HasPrintableArray cs
  couples_named [] h = tt
  couples_named (c ∷ cs) h = (couple_named c (All-head (IsCouple m) c cs h), couples_named cs (All-tail (IsCouple m) c cs h))

with_one : {A : Type 0} (P : A → Type 0) (o : Option A) (xs : List A) → ((x : A) → o ≡ Some x → P x) → AllByRecursion P xs → AllByRecursion P (with_some o xs)
with_one P None xs h k = k
with_one P (Some x) xs h k = (h x refl, k)

edge_named : (c : Couple) (d : List Dir) (v : Verdict) (e : Edge) → HasPrintableArray c → edge_of c d v ≡ Some e → IsNamedEdge e
edge_named c d (Never w) e h k = let no : ⊥ = cc in absurd no
edge_named c d (Met x y w) e h k = let same : c.array ≡ e.array = cc in subst ArePrintable same h
edge_named c d (Assumed w) e h k = let same : c.array ≡ e.array = cc in subst ArePrintable same h

drop_named : (c : Couple) (d : List Dir) (v : Verdict) (e : Dropped) → HasPrintableArray c → drop_of c d v ≡ Some e → IsNamedDrop e
drop_named c d (Never w) e h k = let same : c.array ≡ e.array = cc in subst ArePrintable same h
drop_named c d (Met x y w) e h k = let no : ⊥ = cc in absurd no
drop_named c d (Assumed w) e h k = let no : ⊥ = cc in absurd no

edges_named : (c : Couple) (answers : List VectorVerdict) → HasPrintableArray c → AllByRecursion IsNamedEdge (edges_of c answers)
edges_named c [] h = tt
edges_named c (a ∷ more) h =
    with_one IsNamedEdge (edge_of c a.0 a.1) (edges_of c more) (λ e k. edge_named c a.0 a.1 e h k) (edges_named c more h)

drops_named : (c : Couple) (answers : List VectorVerdict) → HasPrintableArray c → AllByRecursion IsNamedDrop (drops_of c answers)
drops_named c [] h = tt
drops_named c (a ∷ more) h =
    with_one IsNamedDrop (drop_of c a.0 a.1) (drops_of c more) (λ e k. drop_named c a.0 a.1 e h k) (drops_named c more h)

all_edges_named : (cs : List Couple) → AllByRecursion HasPrintableArray cs → AllByRecursion IsNamedEdge (all_edges cs)
all_edges_named [] h = tt
all_edges_named (c ∷ cs) h = joined IsNamedEdge (edges_of c c.answers) (all_edges cs) (edges_named c c.answers h.0) (all_edges_named cs h.1)

all_drops_named : (cs : List Couple) → AllByRecursion HasPrintableArray cs → AllByRecursion IsNamedDrop (all_drops cs)
all_drops_named [] h = tt
all_drops_named (c ∷ cs) h = joined IsNamedDrop (drops_of c c.answers) (all_drops cs) (drops_named c c.answers h.0) (all_drops_named cs h.1)

pub record HasNamedArcs (g : Graph) : Type 0 where
  pub edges : AllByRecursion IsNamedEdge g.edges
  pub drops : AllByRecursion IsNamedDrop g.dropped

pub graph_named : (m : Nest) (g : Graph) → AllByRecursion IsPrintableStanding (nest_statements m) → IsGraphOf m g → HasNamedArcs g
graph_named m g each h =
    let couples = couples_named m each h.couples h.each in
    record {
      edges = subst (AllByRecursion IsNamedEdge) (sym h.edges) (all_edges_named h.couples couples);
      drops = subst (AllByRecursion IsNamedDrop) (sym h.dropped) (all_drops_named h.couples couples);
    }
