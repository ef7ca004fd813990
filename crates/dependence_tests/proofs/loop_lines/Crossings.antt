-- Pairs of iterations of a pairing that has one loop are the points of its line, within that loop's trip and in its direction.
use Rattle.std.proofs.Common.{◌≡◌, ◌⊎◌, ℕ, ◌<◌, List, length, refl, ap, sym, arith, ◌∙◌, inl, inr}
use Rattle.std.specs.Prelude.{ℤ, pos, negsuc, ◌+ℤ◌, ◌-ℤ◌, ◌*ℤ◌, zero, suc}
use Rattle.std.proofs.Math.IntN.{zero-*ℤ}
use Rattle.std.proofs.lemmas.Int.{ints}
use Rattle.std.proofs.lemmas.Bool.{cases_lt}
use Rattle.subscripts.specs.Classes.{Loop, Shared, First, Second, HasOneLoop, at_place, first_of, second_of}
use Rattle.subscripts.specs.Forms.{difference, over_loops, over_symbols}
use Rattle.subscripts.specs.Shapes.{IsPairing}
use Rattle.subscripts.specs.declared.affine.Dirs.{Dirs}
use Rattle.subscripts.specs.declared.pairing.Pairing.{Pairing}
use Rattle.dependence_tests.proofs.loop_lines.LinePoints.Ring.{ring, linear}
use Rattle.dependence_tests.specs.loop_lines.OneLoop.{first_at, second_at, HasSevenPlaces}
use Rattle.dependence_tests.proofs.loop_lines.Indexed.{over_none, over_one}

is_zero_or : (a : ℤ) → (a ≡ pos 0) ⊎ (a ≡ pos 0 → ⊥)
is_zero_or (pos zero) = inl refl
is_zero_or (pos (suc n)) = inr (λ e. omega (arith, ints))
is_zero_or (negsuc n) = inr (λ e. omega (arith, ints))

pub zero_unless : (a : ℤ) → ((a ≡ pos 0 → ⊥) → ⊥) → a ≡ pos 0
zero_unless a h = elim (is_zero_or a) [ inl e ↦ e | inr n ↦ absurd (h n) ]

-- no other place has a coefficient
pub first_zero : (p : Pairing) (l : Loop) (k : ℕ) → HasOneLoop p l → k < 7 → (Shared k ≡ l → ⊥) → (First k ≡ l → ⊥) → at_place p.from.loops k ≡ pos 0
first_zero p l k h b s f =
    zero_unless (at_place p.from.loops k)
    (λ n. elim (cases_lt k p.common) [
      | inl c ↦ s (h.alone (Shared k) (record { loop = c; some = λ z w. n z }))
      | inr c ↦ f (h.alone (First k) (record { loop = (c, b); some = λ z w. n z }))
    ])

pub second_zero : (p : Pairing) (l : Loop) (k : ℕ) → HasOneLoop p l → k < 7 → (Shared k ≡ l → ⊥) → (Second k ≡ l → ⊥) → at_place p.to.loops k ≡ pos 0
second_zero p l k h b s f =
    zero_unless (at_place p.to.loops k)
    (λ n. elim (cases_lt k p.common) [
      | inl c ↦ s (h.alone (Shared k) (record { loop = c; some = λ z w. n w }))
      | inr c ↦ f (h.alone (Second k) (record { loop = (c, b); some = λ z w. n w }))
    ])

abbrev pub place_of : Loop → ℕ
place_of (Shared k) = k
place_of (First k) = k
place_of (Second k) = k

pub shared_place : (k m : ℕ) → Shared k ≡ Shared m → k ≡ m
shared_place k m e = ap place_of e

pub first_place : (k m : ℕ) → First k ≡ First m → k ≡ m
first_place k m e = ap place_of e

pub second_place : (k m : ℕ) → Second k ≡ Second m → k ≡ m
second_place k m e = ap place_of e

pub within_seven : (p : Pairing) (l : Loop) → IsPairing p → HasOneLoop p l → place_of l < 7
within_seven p (Shared k) i h = omega (arith, h.matters.loop, i.from_common, i.from_depth)
within_seven p (First k) i h = h.matters.loop.1
within_seven p (Second k) i h = h.matters.loop.1

-- ---- both sides

pub first_side : (p : Pairing) (l : Loop) (x : List ℤ) → place_of l < 7 → length p.from.loops ≡ 7 → HasOneLoop p l → length x ≡ 7
    → over_loops p.from.loops x ≡ first_of p l *ℤ first_at l x
first_side p (Shared k) x w n h e =
    over_one k p.from.loops x (λ m b u. first_zero p (Shared k) m h (omega (arith, n)) (λ t. u (shared_place m k t)) (λ t. cc)) (omega arith) (omega (arith, n))
first_side p (First k) x w n h e =
    over_one k p.from.loops x (λ m b u. first_zero p (First k) m h (omega (arith, n)) (λ t. cc) (λ t. u (first_place m k t))) (omega arith) (omega (arith, n))
first_side p (Second k) x w n h e =
    over_none p.from.loops x (λ m b. first_zero p (Second k) m h (omega (arith, n)) (λ t. cc) (λ t. cc)) ∙ sym (zero-*ℤ (pos 1))

pub second_side : (p : Pairing) (l : Loop) (y : List ℤ) → place_of l < 7 → length p.to.loops ≡ 7 → HasOneLoop p l → length y ≡ 7
    → over_loops p.to.loops y ≡ second_of p l *ℤ second_at l y
second_side p (Shared k) y w n h e =
    over_one k p.to.loops y (λ m b u. second_zero p (Shared k) m h (omega (arith, n)) (λ t. u (shared_place m k t)) (λ t. cc)) (omega arith) (omega (arith, n))
second_side p (First k) y w n h e =
    over_none p.to.loops y (λ m b. second_zero p (First k) m h (omega (arith, n)) (λ t. cc) (λ t. cc)) ∙ sym (zero-*ℤ (pos 1))
second_side p (Second k) y w n h e =
    over_one k p.to.loops y (λ m b u. second_zero p (Second k) m h (omega (arith, n)) (λ t. cc) (λ t. u (second_place m k t))) (omega arith) (omega (arith, n))

-- the difference of both sides, along the line
pub along : (a b c e : ℤ) (f g s t : ℤ) → f ≡ a → g ≡ b → s ≡ t → ((f +ℤ (s +ℤ c)) -ℤ (g +ℤ (t +ℤ e))) ≡ (a -ℤ b) +ℤ (c -ℤ e)
along a b c e f g s t p q r = omega (arith, linear)

pub on_line : (a b c e i j : ℤ) → (a *ℤ i -ℤ b *ℤ j) +ℤ (c -ℤ e) ≡ pos 0 → a *ℤ i +ℤ (pos 0 -ℤ b) *ℤ j ≡ e -ℤ c
on_line a b c e i j h = simp ring (omega (arith, linear))

pub off_line : (a b c e i j : ℤ) → a *ℤ i +ℤ (pos 0 -ℤ b) *ℤ j ≡ e -ℤ c → (a *ℤ i -ℤ b *ℤ j) +ℤ (c -ℤ e) ≡ pos 0
off_line a b c e i j h = let h' = simp ring at h in simp ring (omega (arith, linear))

pub difference_along : (p : Pairing) (d : Dirs) (l : Loop) (v : ℕ → ℤ) (x y : List ℤ) → IsPairing p → HasSevenPlaces p d → HasOneLoop p l → length x ≡ 7 → length y ≡ 7
    → difference p v x y ≡ (first_of p l *ℤ first_at l x -ℤ second_of p l *ℤ second_at l y) +ℤ (p.from.constant -ℤ p.to.constant)
difference_along p d l v x y i n h ex ey =
    along (first_of p l *ℤ first_at l x) (second_of p l *ℤ second_at l y) p.from.constant p.to.constant (over_loops p.from.loops x) (over_loops p.to.loops y) (over_symbols p.from.syms v) (over_symbols p.to.syms v)
    (first_side p l x (within_seven p l i h) n.from_loops h ex) (second_side p l y (within_seven p l i h) n.to_loops h ey) (h.cancels v)
