-- What callers keep of two references and of the vectors of their common loops.
use Rattle.std.specs.Prelude.{◌≡◌, ℕ, ◌≤◌, ◌<◌, ◌-◌, IsTrue, IsSome, All, List, ◌++◌, length, replicate, slice_index_or}
use Rattle.subscripts.specs.Iterations.{once}
use Rattle.subscripts.specs.Shapes.{IsPairing}
use Rattle.subscripts.specs.declared.affine.Dir.TheVariants.{Any}
use Rattle.subscripts.specs.declared.affine.Dirs.{Dirs}
use Rattle.subscripts.specs.declared.affine.Span.{Span}
use Rattle.subscripts.specs.declared.pairing.Pairing.{Pairing}
use Rattle.dependence_tests.specs.loop_lines.OneLoop.{HasSevenLists}
use Rattle.direction_vectors.specs.declared.vector_tests.refs.RefPair.{RefPair}

-- the spans of the loops round a reference, and then of the constant trip 1, in seven places
abbrev pub padded : List Span → List Span
padded spans = spans ++ replicate (7 - length spans) once

-- a pairing of subscripts of these two references, which has their loops
pub record IsSubscriptOf (r : RefPair) (p : Pairing) : Type 0 where
  pub pairing : IsPairing p
  pub places : HasSevenLists p
  pub common : p.common ≡ r.common
  pub from_depth : p.from_depth ≡ length r.from_spans
  pub to_depth : p.to_depth ≡ length r.to_spans
  pub from_spans : p.from_spans ≡ padded r.from_spans
  pub to_spans : p.to_spans ≡ padded r.to_spans

-- two references to one array or scalar: up to seven subscripts, and up to seven loops round each
pub record IsRefPair (r : RefPair) : Type 0 where
  pub count : length r.subs ≤ 7
  pub subscripts : All (IsSubscriptOf r) r.subs
  pub from_common : r.common ≤ length r.from_spans
  pub to_common : r.common ≤ length r.to_spans
  pub from_depth : length r.from_spans ≤ 7
  pub to_depth : length r.to_spans ≤ 7
  pub common_spans :
      (k : ℕ) → k < r.common → slice_index_or r.from_spans k once ≡ slice_index_or r.to_spans k once
  pub from_ends : All (λ s. IsTrue s.fixed → IsSome s.last) r.from_spans
  pub to_ends : All (λ s. IsTrue s.fixed → IsSome s.last) r.to_spans

-- directions of the loops round both references
pub record IsVectorOf (r : RefPair) (d : Dirs) : Type 0 where
  pub places : length d.at ≡ 7
  pub len : d.len ≡ r.common
  pub past_len : (k : ℕ) → r.common ≤ k → slice_index_or d.at k Any ≡ Any
