-- A nest with its loops in another order.
use Rattle.std.specs.Prelude.{◌≡◌, ℕ, suc, ℤ, Some, List}
use Rattle.std.specs.Option.{option_map}
use Rattle.tree.specs.Plain.{Reference}
use Rattle.meaning.specs.Store.{Cell}
use Rattle.nest_order.specs.orders.Graphs.{Arc}
use Rattle.nest_order.specs.orders.Lists.{In}
use Rattle.nest_order.specs.orders.Shapes.{statements}
use Rattle.nest_order.specs.runs.Nests.{RunNest}
use Rattle.nest_order.specs.runs.Touched.{MayName, nth_of, references_of}
use Rattle.interchange_laws.specs.orders.Moves.{chain_of, rearranged, restored}

-- the chain of the loops ls round the statements ss, with the loops in another order
abbrev pub rearranged_nest : List ℕ → RunNest → List ℕ → List ℕ → RunNest
rearranged_nest ps n ls ss = record {
  shape = chain_of (rearranged ps ls) ss;
  loops_of = λ s. rearranged ps (n.loops_of s);
  statement_at = n.statement_at;
  linear = λ s e. option_map (λ (f : (ℕ → ℤ) → List ℕ → ℤ) v is. f v (restored ps is)) (n.linear s e);
  variable_at = n.variable_at;
  trip_at = n.trip_at;
  turns_of = n.turns_of;
  symbols = n.symbols;
}

-- an antidependence of a statement on itself
pub record IsOwnAnti (a : Arc) : Type 0 where
  pub same : a.from.statement ≡ a.to.statement
  pub read : a.from.reference ≡ 0 → ⊥

-- a statement that reads what it writes reads in each instance just what it writes there
abbrev pub ReadsWhatItWrites : RunNest → Type 0
ReadsWhatItWrites n =
    (s : ℕ) (q : ℕ) (r : Reference) (v : ℕ → ℤ) (is : List ℕ) (c : Cell) → In s (statements n.shape)
    → nth_of (references_of n s) (suc q) ≡ Some r → r.name ≡ (n.statement_at s).left.name → MayName n v s is r c
    → MayName n v s is (n.statement_at s).left c

-- the arcs but those of antidependences of statements on themselves
pub record AreOtherThanOwnAnti (arcs kept : List Arc) : Type 0 where
  pub among : (a : Arc) → In a kept → In a arcs
  pub others : (a : Arc) → In a arcs → (IsOwnAnti a → ⊥) → In a kept
