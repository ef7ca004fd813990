-- A pair that gave a point of a nest is parted by the nest's points.
use Rattle.std.proofs.Common.{◌≡◌, inl, inr, refl, sym, ap, ℕ, ◌/◌, ℤ, pos, ◌+ℤ◌, ◌*ℤ◌, List, [], ◌∷◌, true, get_or, arith}
use Rattle.std.proofs.lemmas.Int.{ints}
use Rattle.std.proofs.Math.IntN.{*ℤ-zero, *ℤ_comm}
use Rattle.components.specs.Lists.{IsMember}
use Rattle.dependence_graph.specs.declared.nest_references.occurrences.Occurrence.{Occurrence}
use Rattle.index_split.proofs.CoupleLaws.{separable_has_loop, some_side}
use Rattle.index_split.specs.Gathered.{only_one}
use Rattle.index_split.specs.Points.{AreCutPoints, CoupleGives, GivesPoint, IsConsidered, IsCrossingPoint, IsPoint, IsZeroPoint, MeetsAfter, front, has_loop}
use Rattle.index_split.specs.declared.points.Sides.{Sides}
use Rattle.nest.specs.Plain.{Nest}
use Rattle.split_laws.specs.Cuts.{CutPairsNeverMeet}
use Rattle.split_laws.specs.Points.{AreApart, HasPoint, IsPiece, Side, at}
use Rattle.split_laws.proofs.Points.{crossing_point_parts, zero_points_part}
use Rattle.subscripts.specs.Forms.{over_loops, over_symbols, value_at}
use Rattle.subscripts.specs.declared.affine.Affine.{Affine}

-- ---- values of subscripts in one loop

over_none : (as' : List ℤ) → over_loops as' [] ≡ pos 0
over_none [] = refl
over_none (a ∷ as') = refl

over_one : (as' : List ℤ) (i : ℕ) → over_loops as' (pos i ∷ []) ≡ pos i *ℤ get_or as' 0 (pos 0)
over_one [] i = let e : pos i *ℤ pos 0 ≡ pos 0 = *ℤ-zero (pos i) in sym e
over_one (a ∷ as') i =
    let e = over_none as' in let f = *ℤ_comm a (pos i) in
    let x = a *ℤ pos i in let y = pos i *ℤ a in let z = over_loops as' [] in
    omega (arith, ints, e, f)

abbrev side_of : Affine → Side
side_of a = record { by = front a; more = a.constant }

-- where the symbols cancel, equal values are equal sides
same_sides : (a b : Affine) (v : ℕ → ℤ) (i j : ℕ) → a.syms ≡ b.syms → value_at a v (pos i ∷ []) ≡ value_at b v (pos j ∷ []) → at (side_of a) i ≡ at (side_of b) j
same_sides a b v i j s e =
    let f = over_one a.loops i in let g = over_one b.loops j in
    let h : over_symbols a.syms v ≡ over_symbols b.syms v = ap (λ (ts : List (ℕ × ℤ)). over_symbols ts v) s in
    let x = pos i *ℤ front a in let y = pos j *ℤ front b in
    omega (arith, ints, e, f, g, h)

meets_at : (a b : Affine) (n : ℕ) → MeetsAfter a b n → at (side_of a) n ≡ b.constant
meets_at a b n h = let x = pos n *ℤ front a in omega (arith, ints, h)

-- ---- points

module _ (n : Nest) (points : List ℕ) (t from to : ℕ) (o u : Occurrence) (cut : AreCutPoints n points) (considered : IsConsidered n t) (io : IsMember o cut.references)
    (iu : IsMember u cut.references) (s : Sides) (piece : IsPiece points t from to) (symbols : s.first.syms ≡ s.second.syms) (gives : (x : ℕ) → GivesPoint t s x → CoupleGives t o u x) where
  has_point : (x : ℕ) → IsPoint t s x → HasPoint points t x
  has_point x p low high =
      (cut.each x).1 (
        t,
        considered,
        record { first = o; second = u; first_in = io; second_in = iu; gives = gives x (record { symbols = symbols; point = record { holds = p; from = low; to = high } }) },
      )

  parts_zero : (a b : Affine) (x : ℕ) → ((y : ℕ) → IsZeroPoint t a b y → IsPoint t s y) → (front a ≡ pos 0 → ⊥) → IsZeroPoint t a b x
      → AreApart (side_of a) (side_of b) from to × AreApart (side_of b) (side_of a) from to
  parts_zero a b x point some z =
      zero_points_part (side_of a) (side_of b) points t z.at from to some z.without (meets_at a b z.at z.meets)
      (has_point z.at (point z.at (record { without = z.without; at = z.at; meets = z.meets; from = z.from; to = z.to; is = inl refl })))
      (λ p e. has_point p (point p (record { without = z.without; at = z.at; meets = z.meets; from = z.from; to = z.to; is = inr e })))
      piece

  parts_crossing : (front s.first ≡ pos 0 → ⊥) → (x : ℕ) → IsCrossingPoint t s.first s.second x → AreApart (side_of s.first) (side_of s.second) from to
  parts_crossing some x z =
      crossing_point_parts (side_of s.first) (side_of s.second) points t z.sum from to some z.opposite z.meets
      (has_point (z.sum / 2) (inr (inr (record { opposite = z.opposite; sum = z.sum; meets = z.meets; from = z.from; to = z.to; is = refl }))))
      piece

  parted : has_loop s ≡ true → (x : ℕ) → IsPoint t s x → AreApart (side_of s.first) (side_of s.second) from to
  parted h x (inl z) = (parts_zero s.first s.second x (λ y p. inl p) (λ e. some_side s h e z.without) z).0
  parted h x (inr (inl z)) = (parts_zero s.second s.first x (λ y p. inr (inl p)) (λ e. some_side s h z.without e) z).1
  parted h x (inr (inr z)) = parts_crossing (λ e. some_side s h e (none e z.opposite)) x z
    where
      none : front s.first ≡ pos 0 → front s.first +ℤ front s.second ≡ pos 0 → front s.second ≡ pos 0
      none e f = omega (arith, ints, e, f)

pub never_meet : CutPairsNeverMeet
never_meet n points t x from to o u cut considered io iu gave piece v i j a b c d apart e =
    let s = gave.pair in
    parted n points t from to o u cut considered io iu s piece gave.gives.symbols
    (λ y g. record { name = gave.name; written = gave.written; pair = s; separable = gave.separable; gives = g })
    (separable_has_loop o.forms u.forms s (ap only_one gave.separable)) x gave.gives.point.holds i j a b c d apart
    (same_sides s.first s.second v i j gave.gives.symbols e)
