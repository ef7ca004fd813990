-- The couples of references of a nest, with their edges and drops.
use Rattle.std.specs.Prelude.{◌≡◌, ℕ, suc, pos, ◌==◌, nat_lt, true, false, if◌then◌else◌, All, Option, Some, None, take}
use Rattle.std.specs.Prelude.{List, [], ◌∷◌, ◌++◌, length, map}
use Rattle.std.specs.List.{flat_map}
use Rattle.std.specs.Str.{bytes_eq}
use Rattle.subscripts.specs.declared.affine.Affine.{Affine}
use Rattle.subscripts.specs.declared.affine.Dirs.{Dirs}
use Rattle.subscripts.specs.declared.pairing.Pairing.{Pairing}
use Rattle.subscripts.specs.declared.verdict.Point.{Point}
use Rattle.subscripts.specs.declared.verdict.Test.{Test}
use Rattle.subscripts.specs.declared.verdict.Verdict.{Verdict}
use Rattle.subscripts.specs.declared.verdict.Verdict.TheVariants.{Never, Pair, Assumed}
use Rattle.dependence_graph.specs.declared.graphs.Dep.{Dep}
use Rattle.dependence_graph.specs.declared.graphs.Dropped.{Dropped}
use Rattle.dependence_graph.specs.declared.graphs.Edge.{Edge}
use Rattle.direction_vectors.specs.vector_tests.Refs.{IsRefPair, IsVectorOf, padded}
use Rattle.direction_vectors.specs.declared.vector_tests.refs.RefPair.{RefPair}
use Rattle.direction_vectors.specs.Answers.{OnAssumed, OnKept, OnNever, OnPair}
use Rattle.direction_vectors.specs.Candidates.{Answer, CoversCandidates, CoversEach}
use Rattle.direction_vectors.specs.Merged.{AreMerged}
use Rattle.dependence_graph.specs.nest_graph.Arcs as arcs
use Rattle.dependence_graph.specs.nest_graph.Arcs.{Couple, vector_level}
use Rattle.dependence_graph.specs.nest_graph.Graph.{all_drops, all_edges}
use Rattle.dependence_graph.specs.nest_graph.Pair.{kind_between}
use Rattle.dependence_graph.specs.declared.nest_references.occurrences.Occurrence.{Occurrence}
use Rattle.dependence_graph.specs.declared.dep_graph.lines.Ends.{Ends}
use Rattle.dependence_graph.specs.declared.dep_graph.lines.Dependences.{Dependences}

-- ---- two references

-- how many numbers are the same from the front on
abbrev pub common_numbers : List ℕ → List ℕ → ℕ
common_numbers [] ms = 0
common_numbers (k ∷ ks) [] = 0
common_numbers (k ∷ ks) (m ∷ ms) = if k == m then suc (common_numbers ks ms) else 0

-- a pair of subscripts with these forms is the blank one where one of them isn't linear
abbrev pub pairing_with : Pairing → Option Affine → Option Affine → Pairing
pairing_with blank None g = blank
pairing_with blank (Some a) None = blank
pairing_with blank (Some a) (Some b) = record blank { from = a; to = b; known = true }

abbrev pub pairings_with : Pairing → List (Option Affine) → List (Option Affine) → List Pairing
pairings_with blank [] gs = []
pairings_with blank (f ∷ fs) [] = []
pairings_with blank (f ∷ fs) (g ∷ gs) = pairing_with blank f g ∷ pairings_with blank fs gs

abbrev pub zero_form : Affine
zero_form = record {
  loops = pos 0 ∷ pos 0 ∷ pos 0 ∷ pos 0 ∷ pos 0 ∷ pos 0 ∷ pos 0 ∷ [];
  syms = (0, pos 0) ∷ (0, pos 0) ∷ (0, pos 0) ∷ (0, pos 0) ∷ (0, pos 0) ∷ (0, pos 0) ∷ (0, pos 0) ∷ (0, pos 0) ∷ [];
  constant = pos 0;
}

abbrev pub blank_pairing : Occurrence → Occurrence → Pairing
blank_pairing a b = record {
  from = zero_form;
  to = zero_form;
  known = false;
  common = common_numbers a.loops b.loops;
  from_depth = length a.spans;
  to_depth = length b.spans;
  from_spans = padded a.spans;
  to_spans = padded b.spans;
}

abbrev pub ref_pair_of : Occurrence → Occurrence → RefPair
ref_pair_of a b = record {
  subs = pairings_with (blank_pairing a b) a.forms b.forms;
  from_spans = a.spans;
  to_spans = b.spans;
  common = common_numbers a.loops b.loops;
  same_turn = nat_lt a.place.stmt b.place.stmt;
}

-- none where the names differ, or both are read
abbrev pub dependence_of : Occurrence → Occurrence → Option Dep
dependence_of a b = if bytes_eq a.name b.name then kind_between a.place.at b.place.at else None

-- two references of one name can be tested
pub record IsTestable (a b : Occurrence) : Type 0 where
  pub depth : length a.loops ≡ length a.spans
  pub refs : bytes_eq a.name b.name ≡ true → IsRefPair (ref_pair_of a b)

-- ---- edges and drops

abbrev pub edge_at : Ends → Dirs → Test → Option (Point × Point) → Edge
edge_at e d w p = record {
  from = e.from;
  to = e.to;
  kind = e.kind;
  array = e.array;
  dirs = d;
  level = vector_level d;
  test = w;
  pair = p;
}

abbrev pub edges_at : Ends → Dirs → Verdict → List Edge
edges_at e d (Never w) = []
edges_at e d (Pair x y w) = edge_at e d w (Some (x, y)) ∷ []
edges_at e d (Assumed w) = edge_at e d w None ∷ []

abbrev pub drops_at : Ends → Dirs → Verdict → List Dropped
drops_at e d (Never w) =
    record { from = e.from; to = e.to; kind = e.kind; array = e.array; dirs = d; test = w } ∷ []
drops_at e d (Pair x y w) = []
drops_at e d (Assumed w) = []

abbrev pub all_edges_at : Ends → List Answer → List Edge
all_edges_at e answers = flat_map (λ (a : Answer). edges_at e a.0 a.1) answers

abbrev pub all_drops_at : Ends → List Answer → List Dropped
all_drops_at e answers = flat_map (λ (a : Answer). drops_at e a.0 a.1) answers

-- ---- couples

-- what the vectors of two references say
pub record AreVectors (r : RefPair) (answers : List Answer) : Type 0 where
  pub vectors : All (λ a. IsVectorOf r a.0) answers
  pub covered : CoversEach r answers
  pub candidates : All (CoversCandidates r) answers
  pub never : All (λ a. OnNever r a.0 a.1) answers
  pub pair : All (λ a. OnPair r a.0 a.1) answers
  pub assumed : All (λ a. OnAssumed r a.0 a.1) answers
  pub kept : All (λ a. OnKept r a.1) answers
  pub merged : AreMerged r answers

-- with the directions and iterations of so many loops alone
abbrev pub as_verdict : ℕ → ℕ → Verdict → arcs.Verdict
as_verdict m n (Never w) = arcs.Never w
as_verdict m n (Pair x y w) = arcs.Met (take m x.at) (take n y.at) w
as_verdict m n (Assumed w) = arcs.Assumed w

abbrev pub as_answer : ℕ → ℕ → Answer → arcs.VectorVerdict
as_answer m n a = (take a.0.len a.0.at, as_verdict m n a.1)

abbrev pub couple_of : Occurrence → Occurrence → Dep → List Answer → Couple
couple_of a b k answers = record {
  from = a.place;
  to = b.place;
  kind = k;
  array = a.name;
  answers = map (as_answer (length a.spans) (length b.spans)) answers;
}

abbrev pub AreCouplesAs : Option Dep → Occurrence → Occurrence → List Couple → Type 0
AreCouplesAs None a b cs = cs ≡ []
AreCouplesAs (Some k) a b cs =
    (answers : List Answer) × (cs ≡ couple_of a b k answers ∷ []) × AreVectors (ref_pair_of a b) answers

-- one, where there may be a dependence
abbrev pub AreCouplesOf : Occurrence → Occurrence → List Couple → Type 0
AreCouplesOf a b cs = AreCouplesAs (dependence_of a b) a b cs

abbrev pub AreCouplesIn : List (Occurrence × Occurrence) → List Couple → Type 0
AreCouplesIn [] cs = cs ≡ []
AreCouplesIn (p ∷ ps) cs =
    (first : List Couple) × (rest : List Couple) × (cs ≡ first ++ rest) × AreCouplesOf p.0 p.1 first
    × AreCouplesIn ps rest

abbrev pub row : Occurrence → List Occurrence → List (Occurrence × Occurrence)
row a bs = map (λ (b : Occurrence). (a, b)) bs

-- each of the first with each of the second
abbrev pub table : List Occurrence → List Occurrence → List (Occurrence × Occurrence)
table as' bs = flat_map (λ (a : Occurrence). row a bs) as'

-- the lines of the couples of these were added
pub record AreJoined (ps : List (Occurrence × Occurrence)) (old new : Dependences) : Type 0 where
  pub couples : List Couple
  pub are : AreCouplesIn ps couples
  pub edges : new.edges ≡ old.edges ++ all_edges couples
  pub dropped : new.dropped ≡ old.dropped ++ all_drops couples
