-- Where a loop is cut at the points of a pair, no two different iterations of one piece make its sides equal.
use Rattle.std.proofs.Common.{◌≡◌, ◌≢◌, refl, sym, ap, ◌∙◌, subst, ◌⊎◌, inl, inr, ℕ, zero, suc, ◌+◌, ◌/◌, ◌≤◌, ◌<◌, ℤ, pos, List, ◌+ℤ◌, ◌*ℤ◌, int_div, arith}
use Rattle.std.proofs.lemmas.Int.{ints}
use Rattle.std.proofs.Math.IntN.{suc_ℤ-*ℤ, zero-*ℤ, *ℤ-zero}
use Rattle.meaning.specs.Sections.{not_negative}
use Rattle.split_laws.specs.Points.{at, IsPiece, HasPoint, ZeroPointsPart, CrossingPointParts}
use Rattle.split_laws.proofs.Trips.{by_stride, both_turns}

-- a multiple says of what
times : (i j : ℕ) (a : ℤ) → a ≢ pos 0 → pos i *ℤ a ≡ pos j *ℤ a → i ≡ j
times i j a h e = sym (by_stride i a h) ∙ (ap (λ z. not_negative (int_div z a)) e ∙ by_stride j a h)

opposite : (j : ℕ) (a b : ℤ) → a +ℤ b ≡ pos 0 → pos j *ℤ a +ℤ pos j *ℤ b ≡ pos 0
opposite zero a b e = let p : pos 0 *ℤ a ≡ pos 0 = zero-*ℤ a in let q : pos 0 *ℤ b ≡ pos 0 = zero-*ℤ b in omega (arith, ints, p, q)
opposite (suc j) a b e =
    let p : pos (suc j) *ℤ a ≡ pos j *ℤ a +ℤ a = suc_ℤ-*ℤ (pos j) a in
    let q : pos (suc j) *ℤ b ≡ pos j *ℤ b +ℤ b = suc_ℤ-*ℤ (pos j) b in
    let more = opposite j a b e in
    omega (arith, ints, p, q, more, e)

sides : (i j : ℕ) → (i < j) ⊎ ((i ≡ j) ⊎ (j < i))
sides zero zero = inr (inl refl)
sides zero (suc j) = inl (omega arith)
sides (suc i) zero = inr (inr (omega arith))
sides (suc i) (suc j) = by (sides i j)
  where
    by : (i < j) ⊎ ((i ≡ j) ⊎ (j < i)) → (suc i < suc j) ⊎ ((suc i ≡ suc j) ⊎ (suc j < suc i))
    by (inl h) = inl (omega (arith, h))
    by (inr (inl e)) = inr (inl (ap suc e))
    by (inr (inr h)) = inr (inr (omega (arith, h)))

-- an iteration with a point on either side is alone in its piece
alone : (points : List ℕ) (t i0 from to j : ℕ) → HasPoint points t i0 → ((p : ℕ) → suc p ≡ i0 → HasPoint points t p) → IsPiece points t from to
    → from ≤ i0 → i0 ≤ to → from ≤ j → j ≤ to → ¬ (i0 ≡ j) → ⊥
alone points t i0 from to j here before piece a b c d n = by (sides i0 j)
  where
    low : 1 ≤ from
    low = piece.first

    high : to ≤ t
    high = piece.last

    behind : (k : ℕ) → i0 ≡ k → j < k → ⊥
    behind zero e h = omega (arith, h)
    behind (suc p) e h = piece.uncut p (before p (sym e) (omega (arith, e, h, c, low)) (omega (arith, e, b, high))) (omega (arith, h, c)) (omega (arith, e, b))

    by : (i0 < j) ⊎ ((i0 ≡ j) ⊎ (j < i0)) → ⊥
    by (inl h) = piece.uncut i0 (here (omega (arith, a, low)) (omega (arith, h, d, high))) a (omega (arith, h, d))
    by (inr (inl e)) = n e
    by (inr (inr h)) = behind i0 refl h

pub zero_points_part : ZeroPointsPart
zero_points_part f g points t i0 from to nz level meets here before piece = (
  λ i j a b c d n e. alone points t i0 from to j here before piece (subst (λ k. from ≤ k) (is i j e) a) (subst (λ k. k ≤ to) (is i j e) b) c d (λ q. n (is i j e ∙ q)),
  λ i j a b c d n e. alone points t i0 from to i here before piece (subst (λ k. from ≤ k) (is j i (sym e)) c) (subst (λ k. k ≤ to) (is j i (sym e)) d) a b (λ q. n (sym q ∙ sym (is j i (sym e)))),
)
  where
    is : (i j : ℕ) → at f i ≡ at g j → i ≡ i0
    is i j e =
        let p : pos j *ℤ g.by ≡ pos 0 = ap (λ z. pos j *ℤ z) level ∙ *ℤ-zero (pos j) in
        let x = pos i *ℤ f.by in let y = pos i0 *ℤ f.by in let z = pos j *ℤ g.by in
        let q : pos i *ℤ f.by ≡ pos i0 *ℤ f.by = omega (arith, ints, e, p, meets) in
        times i i0 f.by nz q

pub crossing_point_parts : CrossingPointParts
crossing_point_parts f g points t s from to nz opposed whole point piece i j a b c d n e = by (sides i j)
  where
    sum : i + j ≡ s
    sum =
        let p = both_turns f.by i j in
        let q = opposite j f.by g.by opposed in
        let r : pos (i + j) *ℤ f.by ≡ pos s *ℤ f.by = omega (arith, ints, p, q, e, whole) in
        times (i + j) s f.by nz r

    low : 1 ≤ from
    low = piece.first

    high : to ≤ t
    high = piece.last

    -- the lesser one and the greater one stand on both sides of it
    apart : (x y : ℕ) → x + y ≡ s → x < y → (x ≤ s / 2) × (s / 2 < y)
    apart x y e h = (omega (arith, e, h), omega (arith, e, h))

    between : (x y : ℕ) → x + y ≡ s → x < y → from ≤ x → y ≤ to → ⊥
    between x y e h a d = let m = apart x y e h in let m0 = m.0 in let m1 = m.1 in
        piece.uncut (s / 2) (point (omega (arith, m0, a, low)) (omega (arith, m1, d, high))) (omega (arith, m0, a)) (omega (arith, m1, d))

    by : (i < j) ⊎ ((i ≡ j) ⊎ (j < i)) → ⊥
    by (inl h) = between i j sum h a d
    by (inr (inl q)) = n q
    by (inr (inr h)) = between j i ((let q : j + i ≡ i + j = omega arith in q) ∙ sum) h c b
