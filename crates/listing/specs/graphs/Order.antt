-- The order in which edges and drops stand in a listing.
use Rattle.std.specs.Prelude.{ℕ, nat_lt, ◌==◌, Bool, false, ◌&&◌, ◌||◌, if◌then◌else◌, List, [], ◌∷◌, ◌++◌, map}
use Rattle.subscripts.specs.declared.affine.Dir.{Dir}
use Rattle.subscripts.specs.declared.affine.Dir.TheVariants.{Lt, Eq, Gt, Any}
use Rattle.dependence_graph.specs.declared.graphs.Dropped.{Dropped}
use Rattle.dependence_graph.specs.declared.graphs.Edge.{Edge}
use Rattle.dependence_graph.specs.declared.graphs.Place.{Place}

-- a dependence that was found, or one that was ruled out
pub data Answered : Type 0 where
  Found : Edge → Answered
  RuledOut : Dropped → Answered

-- `<` before `=` before `>`
abbrev pub rank : Dir → ℕ
rank Lt = 0
rank Eq = 1
rank Gt = 2
rank Any = 3

-- a list of numbers that is less than another one in the first place in which they differ
abbrev pub is_less : List ℕ → List ℕ → Bool
is_less [] ys = false
is_less (x ∷ xs) [] = false
is_less (x ∷ xs) (y ∷ ys) = nat_lt x y || ((x == y) && is_less xs ys)

-- by the first reference, then by the second one, then by the directions
abbrev pub key : Place → Place → List Dir → List ℕ
key p q ds = p.stmt ∷ p.at ∷ q.stmt ∷ q.at ∷ map rank ds

abbrev pub comes_before_edge : Dropped → Edge → Bool
comes_before_edge d e = is_less (key d.from d.to d.dirs.at) (key e.from e.to e.dirs.at)

-- the drops that come before an edge, and the others
abbrev pub before : Edge → List Dropped → List Dropped
before e [] = []
before e (d ∷ ds) = if comes_before_edge d e then d ∷ before e ds else []

abbrev pub not_before : Edge → List Dropped → List Dropped
not_before e [] = []
not_before e (d ∷ ds) = if comes_before_edge d e then not_before e ds else d ∷ ds

-- edges and drops, each in order, as one list in order
abbrev pub entries_in_order : List Edge → List Dropped → List Answered
entries_in_order [] ds = map RuledOut ds
entries_in_order (e ∷ es) ds = map RuledOut (before e ds) ++ (Found e ∷ entries_in_order es (not_before e ds))
