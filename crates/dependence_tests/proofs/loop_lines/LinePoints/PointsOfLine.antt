-- The whole points of a line, from Bezout's numbers.
use Rattle.std.proofs.Common.{◌≡◌, ℕ, ◌*◌, ◌<◌, ◌≤◌, ◌^◌, zero, suc, refl, ap, arith, sym, ◌∙◌}
use Rattle.std.specs.Prelude.{ℤ, pos, ◌+ℤ◌, ◌-ℤ◌, ◌*ℤ◌, unsigned_abs, FitsSigned}
use Rattle.std.proofs.Math.IntN.{neg_ℤ, *ℤ_comm, zero-*ℤ}
use mir.Syntax.{w128}
use borrow.Author.Differences.{up}
use Rattle.std.proofs.lemmas.Nat.{mul-le}
use Rattle.std.proofs.lemmas.Int.{ints, unsigned_abs-mul}
use Rattle.dependence_tests.specs.loop_lines.line_points.Bezout.{IsBezout}
use Rattle.dependence_tests.specs.declared.loop_lines.line_points.bezout.Bezout.{Bezout}
use Rattle.dependence_tests.specs.loop_lines.line_points.Quotient.{IsQuotient}
use Rattle.dependence_tests.specs.declared.loop_lines.line_points.whole.Quotient.{Quotient}
use Rattle.dependence_tests.specs.loop_lines.line_points.Lines.{IsLine, OnLine, ArePoints}
use Rattle.dependence_tests.specs.declared.loop_lines.line_points.points.Line.{Line}
use Rattle.dependence_tests.proofs.loop_lines.LinePoints.Ring.{ring, linear, solved}
use Rattle.dependence_tests.proofs.loop_lines.LinePoints.Steps.{product_size, zero_from_abs, abs_less, factor_le, zero_or}

pub le_times : (g z : ℕ) → 0 < z → g ≤ g * z
le_times g zero h = absurd (omega arith)
le_times g (suc z) h = omega arith

-- a multiple that is smaller than what it is a multiple of is 0
pub small_multiple : (g z r : ℤ) → g *ℤ z ≡ r → unsigned_abs r < unsigned_abs g → r ≡ pos 0
small_multiple g z r e h =
    let f : unsigned_abs g * unsigned_abs z ≡ unsigned_abs r = product_size g z r e in
    zero_or (unsigned_abs z)
    (λ k. let m : unsigned_abs g * unsigned_abs z ≡ 0 = ap (λ (t : ℕ). unsigned_abs g * t) k ∙ omega arith in zero_from_abs r (omega arith))
    (λ k. absurd (omega (arith, le_times (unsigned_abs g) (unsigned_abs z) k)))

-- a number other than 0 can be cancelled
pub cancel : (g m n : ℤ) → 0 < unsigned_abs g → g *ℤ m ≡ g *ℤ n → m ≡ n
cancel g m n h e =
    let f : g *ℤ (m -ℤ n) ≡ pos 0 = simp ring (omega (arith, linear)) in
    let s : unsigned_abs g * unsigned_abs (m -ℤ n) ≡ 0 = product_size g (m -ℤ n) (pos 0) f in
    let z : unsigned_abs (m -ℤ n) ≡ 0 = zero_or {P = unsigned_abs (m -ℤ n) ≡ 0} (unsigned_abs (m -ℤ n)) (λ k. k) (λ k. absurd (omega (arith, le_times (unsigned_abs g) (unsigned_abs (m -ℤ n)) k))) in
    let w : m -ℤ n ≡ pos 0 = zero_from_abs (m -ℤ n) z in
    omega (arith, linear)

-- a line in terms of its divisor
divided_line : (l : Line) (b : Bezout) (i j : ℤ) → IsBezout l.first l.second b → OnLine l i j → b.divisor *ℤ (b.first *ℤ i +ℤ b.second *ℤ j) ≡ l.constant
divided_line l b i j h o =
    let e1 : b.divisor *ℤ b.first *ℤ i ≡ l.first *ℤ i = ap (λ (z : ℤ). z *ℤ i) h.first in
    let e2 : b.divisor *ℤ b.second *ℤ j ≡ l.second *ℤ j = ap (λ (z : ℤ). z *ℤ j) h.second in
    let f1 = simp ring at e1 in
    let f2 = simp ring at e2 in
    let f3 = simp ring at o.equal in
    simp ring (omega (arith, linear))

pub multiple_of : (g w t r c : ℤ) → g *ℤ w ≡ c → t *ℤ g +ℤ r ≡ c → g *ℤ (w -ℤ t) ≡ r
multiple_of g w t r c e f =
    let e' = simp ring at f in
    simp ring (omega (arith, linear))

pub no_point : (l : Line) (b : Bezout) (q : Quotient) → IsBezout l.first l.second b → IsQuotient l.constant b.divisor q → (q.rest ≡ pos 0 → ⊥) → (i j : ℤ) → OnLine l i j → ⊥
no_point l b q h k n i j o =
    let w : ℤ = b.first *ℤ i +ℤ b.second *ℤ j in
    let e : b.divisor *ℤ w ≡ l.constant = divided_line l b i j h o in
    let f : b.divisor *ℤ (w -ℤ q.times) ≡ q.rest = multiple_of b.divisor w q.times q.rest l.constant e k.whole in
    n (small_multiple b.divisor (w -ℤ q.times) q.rest f k.below)

pub le_product : (a b : ℕ) → 0 < b → a ≤ a * b
le_product a zero h = absurd (omega arith)
le_product a (suc b) h = omega arith

-- the sizes of Bezout's numbers of a line
pub record Sizes (l : Line) (b : Bezout) (q : Quotient) : Type 0 where
  pub x : unsigned_abs b.x ≤ 2 ^ 44
  pub y : unsigned_abs b.y ≤ 2 ^ 44
  pub first : unsigned_abs b.first ≤ 2 ^ 44
  pub second : unsigned_abs b.second ≤ 2 ^ 44
  pub times : unsigned_abs q.times ≤ 2 ^ 44
  pub positive : 0 < unsigned_abs b.divisor

pub sizes_are : (l : Line) (b : Bezout) (q : Quotient) → IsLine l → IsBezout l.first l.second b → IsQuotient l.constant b.divisor q → Sizes l b q
sizes_are l b q i h k =
    let g : 0 < unsigned_abs b.divisor = omega (arith, ints, h.positive) in
    let e : unsigned_abs b.divisor * unsigned_abs b.first ≡ unsigned_abs l.first = product_size b.divisor b.first l.first h.first in
    let f : unsigned_abs b.divisor * unsigned_abs b.second ≡ unsigned_abs l.second = product_size b.divisor b.second l.second h.second in
    let p : unsigned_abs b.first ≤ 2 ^ 44 = omega (arith, factor_le (unsigned_abs b.divisor) (unsigned_abs b.first) g, i.first) in
    let s : unsigned_abs b.second ≤ 2 ^ 44 = omega (arith, factor_le (unsigned_abs b.divisor) (unsigned_abs b.second) g, i.second) in
    record {
      x = omega (arith, h.x_size);
      y = omega (arith, h.y_size);
      first = p;
      second = s;
      times = omega (arith, le_product (unsigned_abs q.times) (unsigned_abs b.divisor) g, k.sizes, i.constant);
      positive = g;
    }

pub neg_fits : (z : ℤ) → unsigned_abs z ≤ 2 ^ 44 → FitsSigned w128 (neg_ℤ z)
neg_fits z h = omega (arith, ints)

-- a product of two numbers of a size
pub product_below : (a b : ℤ) → unsigned_abs a ≤ 2 ^ 44 → unsigned_abs b ≤ 2 ^ 44 → unsigned_abs a * unsigned_abs b ≤ 2 ^ 88
product_below a b h k = mul-le (unsigned_abs a) (unsigned_abs b) (2 ^ 44) (2 ^ 44) h k

pub product_of : (a b : ℤ) → unsigned_abs a ≤ 2 ^ 44 → unsigned_abs b ≤ 2 ^ 44 → unsigned_abs (a *ℤ b) ≤ 2 ^ 88
product_of a b h k = rw unsigned_abs-mul (product_below a b h k)

pub long_product : (a b : ℤ) → unsigned_abs a ≤ 2 ^ 44 → unsigned_abs b ≤ 2 ^ 64 → unsigned_abs (a *ℤ b) ≤ 2 ^ 108
long_product a b h k = omega (arith, unsigned_abs-mul a b, mul-le (unsigned_abs a) (unsigned_abs b) (2 ^ 44) (2 ^ 64) h k)

both_sides : {a b c d : ℤ} → a ≡ b → c ≡ d → a *ℤ c ≡ b *ℤ d
both_sides {a} {b} {c} {d} e f = ap (λ (z : ℤ). z *ℤ c) e ∙ ap (λ (z : ℤ). b *ℤ z) f

on_line : (l : Line) (b : Bezout) (q : Quotient) (i j s i' j' : ℤ) → IsBezout l.first l.second b → q.times *ℤ b.divisor ≡ l.constant
    → i ≡ q.times *ℤ b.x → j ≡ q.times *ℤ b.y → i' ≡ i +ℤ b.second *ℤ s → j' ≡ j +ℤ neg_ℤ b.first *ℤ s → l.first *ℤ i' +ℤ l.second *ℤ j' ≡ l.constant
on_line l b q i j s i' j' h c ei ej fi fj =
    let a : l.first *ℤ i' ≡ (b.divisor *ℤ b.first) *ℤ (q.times *ℤ b.x +ℤ b.second *ℤ s) = both_sides (sym h.first) (fi ∙ ap (λ (z : ℤ). z +ℤ b.second *ℤ s) ei) in
    let d : l.second *ℤ j' ≡ (b.divisor *ℤ b.second) *ℤ (q.times *ℤ b.y +ℤ neg_ℤ b.first *ℤ s) = both_sides (sym h.second) (fj ∙ ap (λ (z : ℤ). z +ℤ neg_ℤ b.first *ℤ s) ej) in
    let a' = simp ring at a in
    let d' = simp ring at d in
    let o : (q.times *ℤ b.divisor) *ℤ (b.first *ℤ b.x +ℤ b.second *ℤ b.y) ≡ (q.times *ℤ b.divisor) *ℤ pos 1 = ap (λ (z : ℤ). (q.times *ℤ b.divisor) *ℤ z) h.one in
    let o' = simp ring at o in
    let c' = simp ring at c in
    simp ring (omega (arith, linear))

solved_second : (p q x y i j c : ℤ) → p *ℤ x +ℤ q *ℤ y ≡ pos 1 → p *ℤ i +ℤ q *ℤ j ≡ c → j ≡ c *ℤ y +ℤ neg_ℤ p *ℤ (y *ℤ i -ℤ x *ℤ j)
solved_second p q x y i j c h k =
    let e : (p *ℤ x +ℤ q *ℤ y) *ℤ j ≡ pos 1 *ℤ j = ap (λ (z : ℤ). z *ℤ j) h in
    let f : (p *ℤ i +ℤ q *ℤ j) *ℤ y ≡ c *ℤ y = ap (λ (z : ℤ). z *ℤ y) k in
    let e' = simp ring at e in
    let f' = simp ring at f in
    simp ring (omega (arith, linear))

no_both : (p q x y : ℤ) → p *ℤ x +ℤ q *ℤ y ≡ pos 1 → p ≡ pos 0 → q ≡ pos 0 → ⊥
no_both p q x y e f g =
    let a : p *ℤ x ≡ pos 0 = ap (λ (z : ℤ). z *ℤ x) f ∙ zero-*ℤ x in
    let b : q *ℤ y ≡ pos 0 = ap (λ (z : ℤ). z *ℤ y) g ∙ zero-*ℤ y in
    let c : up (pos 0) ≡ 0 = refl in
    omega (arith, linear)

every_point : (l : Line) (b : Bezout) (q : Quotient) (i j i' j' : ℤ) → 0 < unsigned_abs b.divisor → IsBezout l.first l.second b → q.times *ℤ b.divisor ≡ l.constant
    → i ≡ q.times *ℤ b.x → j ≡ q.times *ℤ b.y → OnLine l i' j'
    → (i' ≡ i +ℤ b.second *ℤ (b.y *ℤ i' -ℤ b.x *ℤ j')) × (j' ≡ j +ℤ neg_ℤ b.first *ℤ (b.y *ℤ i' -ℤ b.x *ℤ j'))
every_point l b q i j i' j' g h c ei ej o =
    let e : b.divisor *ℤ (b.first *ℤ i' +ℤ b.second *ℤ j') ≡ b.divisor *ℤ q.times = divided_line l b i' j' h o ∙ sym c ∙ *ℤ_comm q.times b.divisor in
    let f : b.first *ℤ i' +ℤ b.second *ℤ j' ≡ q.times = cancel b.divisor _ _ g e in (
      solved b.first b.second b.x b.y i' j' q.times h.one f ∙ ap (λ (z : ℤ). z +ℤ b.second *ℤ (b.y *ℤ i' -ℤ b.x *ℤ j')) (sym ei),
      solved_second b.first b.second b.x b.y i' j' q.times h.one f ∙ ap (λ (z : ℤ). z +ℤ neg_ℤ b.first *ℤ (b.y *ℤ i' -ℤ b.x *ℤ j')) (sym ej),
    )

pub are_points : (l : Line) (b : Bezout) (q : Quotient) (i j : ℤ) → IsLine l → IsBezout l.first l.second b → IsQuotient l.constant b.divisor q → q.rest ≡ pos 0
    → i ≡ q.times *ℤ b.x → j ≡ q.times *ℤ b.y → ArePoints l (record { i = i; j = j; along_i = b.second; along_j = neg_ℤ b.first })
are_points l b q i j n h k z ei ej =
    let s : Sizes l b q = sizes_are l b q n h k in
    let c : q.times *ℤ b.divisor ≡ l.constant = omega (arith, linear, k.whole) in
    record {
      on = λ t i' j' p. record { equal = on_line l b q i j t i' j' h c ei ej p.i_is p.j_is };
      every = λ i' j' o mi mj.
          let e = every_point l b q i j i' j' s.positive h c ei ej o in (
            b.y *ℤ i' -ℤ b.x *ℤ j',
            (
              record { i_is = e.0; j_is = e.1 },
              omega (arith, abs_less (b.y *ℤ i') (b.x *ℤ j'), long_product b.y i' s.y mi, long_product b.x j' s.x mj),
            ),
          );
      apart = λ y x. no_both b.first b.second b.x b.y h.one (omega (arith, linear)) y;
      along_i = s.second;
      along_j = omega (arith, ints, s.first);
      i = rw ei (omega (arith, product_of q.times b.x s.times s.x));
      j = rw ej (omega (arith, product_of q.times b.y s.times s.y));
    }
