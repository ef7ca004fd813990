-- What callers keep of forms, pairings, directions and groups.
use Rattle.std.specs.Prelude.{◌≡◌, ◌≢◌, ℕ, ℤ, pos, ◌≤◌, ◌<◌, ◌^◌, unsigned_abs}
use Rattle.std.specs.Prelude.{IsTrue, IsSome, All, List, take, drop, map, slice_index_or}
use Rattle.std.specs.List.Sorted.{IsStrictlyIncreasing}
use Rattle.subscripts.specs.Classes.{IsZiv}
use Rattle.subscripts.specs.Iterations.{once}
use Rattle.subscripts.specs.declared.affine.Affine.{Affine}
use Rattle.subscripts.specs.declared.affine.Dir.TheVariants.{Any}
use Rattle.subscripts.specs.declared.affine.Dirs.{Dirs}
use Rattle.subscripts.specs.declared.affine.Span.{Span}
use Rattle.subscripts.specs.declared.pairing.Group.{Group}
use Rattle.subscripts.specs.declared.pairing.Pairing.{Pairing}

-- at most 2^40 in size
abbrev pub IsSmall : ℤ → Type 0
IsSmall z = unsigned_abs z ≤ 2 ^ 40

-- the first `used` places hold symbols in rising order with coefficients other than 0, and the others (0, 0)
pub record AreSymbols (used : ℕ) (ts : List (ℕ × ℤ)) : Type 0 where
  pub rising : IsStrictlyIncreasing (map (λ t. t.0) (take used ts))
  pub nonzero : All (λ t. t.1 ≢ pos 0) (take used ts)
  pub unused : All (λ t. (t.0 ≡ 0) × (t.1 ≡ pos 0)) (drop used ts)

-- a form under so many loops
pub record IsForm (depth : ℕ) (a : Affine) : Type 0 where
  pub past_depth : (k : ℕ) → depth ≤ k → slice_index_or a.loops k (pos 0) ≡ pos 0
  pub symbols : (used : ℕ) × AreSymbols used a.syms
  pub small_loops : All IsSmall a.loops
  pub small_symbols : All (λ t. IsSmall t.1) a.syms
  pub small_constant : IsSmall a.constant

-- the spans of so many loops, and then of the constant trip 1; a constant trip is known
pub record AreSpans (depth : ℕ) (spans : List Span) : Type 0 where
  pub past_depth : (k : ℕ) → depth ≤ k → slice_index_or spans k once ≡ once
  pub fixed : All (λ s. IsTrue s.fixed → IsSome s.last) spans

-- what each pairing keeps
pub record IsPairing (p : Pairing) : Type 0 where
  pub from_common : p.common ≤ p.from_depth
  pub to_common : p.common ≤ p.to_depth
  pub from_depth : p.from_depth ≤ 7
  pub to_depth : p.to_depth ≤ 7
  pub from : IsForm p.from_depth p.from
  pub to : IsForm p.to_depth p.to
  pub from_spans : AreSpans p.from_depth p.from_spans
  pub to_spans : AreSpans p.to_depth p.to_spans
  pub common_spans : (k : ℕ) → k < p.common → slice_index_or p.from_spans k once ≡ slice_index_or p.to_spans k once

-- as much of this as what looks at symbols asks for
pub record HasSmallSymbols (p : Pairing) : Type 0 where
  pub from : All (λ t. IsSmall t.1) p.from.syms
  pub to : All (λ t. IsSmall t.1) p.to.syms

-- directions of the loops round both references of a pairing
pub record AreDirsOf (p : Pairing) (d : Dirs) : Type 0 where
  pub len : d.len ≡ p.common
  pub past_len : (k : ℕ) → p.common ≤ k → slice_index_or d.at k Any ≡ Any

-- two pairings of the same two references: they have the same loops
pub record IsBeside (p q : Pairing) : Type 0 where
  pub common : q.common ≡ p.common
  pub from_depth : q.from_depth ≡ p.from_depth
  pub to_depth : q.to_depth ≡ p.to_depth
  pub from_spans : q.from_spans ≡ p.from_spans
  pub to_spans : q.to_spans ≡ p.to_spans

abbrev pub members : Group → List Pairing
members g = take g.count g.at

-- from one to seven pairings of the same two references, each of an SIV class or Miv
pub record IsGroup (g : Group) : Type 0 where
  pub some : 1 ≤ g.count
  pub count : g.count ≤ 7
  pub pairings : All IsPairing (members g)
  pub linear : All (λ p. IsTrue p.known) (members g)
  pub not_ziv : All (λ p. IsZiv p → ⊥) (members g)
  pub beside : All (λ p. All (IsBeside p) (members g)) (members g)
