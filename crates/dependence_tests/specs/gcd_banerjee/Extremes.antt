-- The values of the difference of a pairing's sides over a region.
use Rattle.std.specs.Prelude.{◌≡◌, ◌⊎◌, ℕ, ◌<◌, ◌≤◌, ◌^◌, ℤ, pos, ◌+ℤ◌, ◌-ℤ◌, ◌<ℤ◌, unsigned_abs}
use Rattle.std.specs.Prelude.{All, Bool, true, false, List, drop, slice_index_or}
use Rattle.subscripts.specs.Forms.{AreRelated, IsInRegion, WithinSpans, over_loops, over_symbols}
use Rattle.subscripts.specs.Iterations.{once}
use Rattle.subscripts.specs.Shapes.{HasSmallSymbols}
use Rattle.subscripts.specs.declared.affine.Dir.{Dir}
use Rattle.subscripts.specs.declared.affine.Dirs.{Dirs}
use Rattle.subscripts.specs.declared.affine.Span.{Span}
use Rattle.subscripts.specs.declared.pairing.Pairing.{Pairing}

-- the number, or its opposite
abbrev pub turned : Bool → ℤ → ℤ
turned false z = z
turned true z = pos 0 -ℤ z

-- what a pairing with larger coefficients keeps
pub record IsReduced (p : Pairing) : Type 0 where
  pub first : All (λ a. unsigned_abs a ≤ 2 ^ 42) p.from.loops
  pub second : All (λ b. unsigned_abs b ≤ 2 ^ 42) p.to.loops
  pub symbols : HasSmallSymbols p
  pub common_spans : (k : ℕ) → k < p.common → slice_index_or p.from_spans k once ≡ slice_index_or p.to_spans k once

-- the difference of what loops with these coefficients, spans and directions add to both sides, or its opposite
pub record IsLinearValue (as' bs : List ℤ) (ss ts : List Span) (ds : List Dir) (opposite : Bool) (z : ℤ) : Type 0 where
  pub first : List ℤ
  pub second : List ℤ
  pub first_within : WithinSpans ss first
  pub second_within : WithinSpans ts second
  pub related : AreRelated ds first second
  pub value : z ≡ turned opposite (over_loops as' first -ℤ over_loops bs second)

-- that of the loops from place k on
abbrev pub IsLoopsValue : Pairing → Dirs → Bool → ℕ → ℤ → Type 0
IsLoopsValue p d opposite k =
    IsLinearValue (drop k p.from.loops) (drop k p.to.loops) (drop k p.from_spans) (drop k p.to_spans) (drop k d.at)
    opposite

-- the difference of what the symbols add to both sides
pub record IsSymbolsValue (p : Pairing) (opposite : Bool) (z : ℤ) : Type 0 where
  pub values : ℕ → ℤ
  pub value : z ≡ turned opposite (over_symbols p.from.syms values -ℤ over_symbols p.to.syms values)

-- the difference of both sides, whose constants differ by so much
abbrev pub difference_with : Pairing → ℤ → (ℕ → ℤ) → List ℤ → List ℤ → ℤ
difference_with p constant v x y =
    (over_loops p.from.loops x -ℤ over_loops p.to.loops y)
    +ℤ ((over_symbols p.from.syms v -ℤ over_symbols p.to.syms v) +ℤ constant)

-- a difference over the region, or its opposite
pub record IsDifference (p : Pairing) (d : Dirs) (constant : ℤ) (opposite : Bool) (z : ℤ) : Type 0 where
  pub values : ℕ → ℤ
  pub first : List ℤ
  pub second : List ℤ
  pub region : IsInRegion p d first second
  pub value : z ≡ turned opposite (difference_with p constant values first second)

-- the difference, or its opposite, is above 0 all over the region
abbrev pub IsAbove : Pairing → Dirs → ℤ → Bool → Type 0
IsAbove p d constant opposite =
    (v : ℕ → ℤ) (x y : List ℤ) → IsInRegion p d x y → pos 0 <ℤ turned opposite (difference_with p constant v x y)

-- the difference is above 0 all over the region, or below it
abbrev pub IsOneSidedWith : Pairing → Dirs → ℤ → Type 0
IsOneSidedWith p d constant = IsAbove p d constant false ⊎ IsAbove p d constant true
