-- One loop alone has coefficients: its line.
use Rattle.std.proofs.Common.{◌≡◌, ℕ, ◌<◌, ◌≤◌, ◌^◌, List, [], ◌∷◌, length, get_or, zero, suc, ap, arith, sym, ◌∙◌}
use Rattle.std.specs.Prelude.{ℤ, pos, ◌+ℤ◌, ◌-ℤ◌, ◌*ℤ◌, All, unsigned_abs}
use Rattle.std.proofs.lemmas.Int.{ints}
use Rattle.std.proofs.lemmas.List.Elements.{All-head, All-tail}
use Rattle.dependence_tests.proofs.loop_lines.LinePoints.Ring.{linear}
use Rattle.dependence_tests.specs.declared.loop_lines.line_points.points.Line.{Line}
use Rattle.dependence_tests.proofs.loop_lines.Crossings.{on_line}
use Rattle.dependence_tests.proofs.loop_lines.Indexed.{over_none}
use Rattle.dependence_tests.specs.loop_lines.OneLoop.{IsWithinPlaces, first_at, second_at}
use Rattle.subscripts.specs.Classes.{Loop, Shared, First, Second, Cancels, Matters, at_place, first_of, second_of}
use Rattle.subscripts.specs.Forms.{over_loops, over_symbols}
use Rattle.subscripts.specs.declared.pairing.Pairing.{Pairing}
use Rattle.dependence_tests.specs.delta_test.Lefts.{IsAlone, IsLeftLine, IsOwnLine}
use Rattle.dependence_tests.specs.delta_test.Reductions.{IsSized, reduced_difference}
use Rattle.dependence_tests.specs.declared.delta_test.put.Reduced.{Reduced}
use Rattle.dependence_tests.proofs.delta_test.Places.{over_but}

abbrev pub IsZeroBut : List ℤ → ℕ → Type 0
IsZeroBut xs k = (m : ℕ) → m < length xs → (m ≡ k → ⊥) → at_place xs m ≡ pos 0

both : (a b c d : ℤ) → a ≡ c → b ≡ d → a -ℤ b ≡ c -ℤ d
both a b c d e f = ap (λ (z : ℤ). z -ℤ b) e ∙ ap (λ (z : ℤ). c -ℤ z) f

pub alone_shared : (p : Pairing) (k : ℕ) → IsZeroBut p.from.loops k → IsZeroBut p.to.loops k → IsAlone p (Shared k)
alone_shared p k f t x y = both _ _ _ _ (over_but k p.from.loops x f) (over_but k p.to.loops y t)

pub alone_first : (p : Pairing) (k : ℕ) → IsZeroBut p.from.loops k → All (λ z. z ≡ pos 0) p.to.loops → IsAlone p (First k)
alone_first p k f t x y = both _ _ _ _ (over_but k p.from.loops x f) (over_none p.to.loops y (λ m l. t m (pos 0) l))

pub alone_second : (p : Pairing) (k : ℕ) → All (λ z. z ≡ pos 0) p.from.loops → IsZeroBut p.to.loops k → IsAlone p (Second k)
alone_second p k f t x y = both _ _ _ _ (over_none p.from.loops x (λ m l. f m (pos 0) l)) (over_but k p.to.loops y t)

sized_place : (xs : List ℤ) (k : ℕ) → All (λ a. unsigned_abs a ≤ 2 ^ 41) xs → unsigned_abs (get_or xs k (pos 0)) ≤ 2 ^ 41
sized_place [] k h = omega arith
sized_place (x ∷ xs) zero h = All-head (λ a. unsigned_abs a ≤ 2 ^ 41) x xs h
sized_place (x ∷ xs) (suc k) h = sized_place xs k (All-tail (λ a. unsigned_abs a ≤ 2 ^ 41) x xs h)

sized_first : (r : Reduced) (l : Loop) → IsSized r → unsigned_abs (first_of r.pairing l) ≤ 2 ^ 41
sized_first r (Shared k) h = sized_place r.pairing.from.loops k h.first
sized_first r (First k) h = sized_place r.pairing.from.loops k h.first
sized_first r (Second k) h = omega arith

sized_second : (r : Reduced) (l : Loop) → IsSized r → unsigned_abs (second_of r.pairing l) ≤ 2 ^ 41
sized_second r (Shared k) h = sized_place r.pairing.to.loops k h.second
sized_second r (First k) h = omega arith
sized_second r (Second k) h = sized_place r.pairing.to.loops k h.second

own_line : (p : Pairing) (l : Loop) (line : Line) → line.first ≡ first_of p l → line.second ≡ pos 0 -ℤ second_of p l → IsOwnLine l line
own_line p (Shared k) line f s = tt
own_line p (First k) line f s = s
own_line p (Second k) line f s = f

-- loops, symbols that cancel, and a constant
parts : (f t s u c a b : ℤ) → f -ℤ t ≡ a -ℤ b → s ≡ u → (f -ℤ t) +ℤ ((s -ℤ u) +ℤ c) ≡ pos 0 → (a -ℤ b) +ℤ (c -ℤ pos 0) ≡ pos 0
parts f t s u c a b e g h = omega (arith, linear)

pub left_line : (r : Reduced) (l : Loop) (a b k : ℤ) → IsSized r → Cancels r.pairing → IsWithinPlaces l → Matters r.pairing l → IsAlone r.pairing l → unsigned_abs r.constant ≤ 2 ^ 41
    → a ≡ first_of r.pairing l → b ≡ pos 0 -ℤ second_of r.pairing l → k ≡ pos 0 -ℤ r.constant → IsLeftLine r l (record { first = a; second = b; constant = k })
left_line r l a b k s n w m o z ea eb ek = record {
  place = w;
  small = record {
    first = omega (arith, ap unsigned_abs ea, sized_first r l s);
    second = omega (arith, ints, ap unsigned_abs eb, sized_second r l s);
    constant = omega (arith, ints, ap unsigned_abs ek);
    slanted = λ za zb. m.some (sym ea ∙ za) (omega (arith, ints));
  };
  own = own_line r.pairing l (record { first = a; second = b; constant = k }) ea eb;
  on = λ v x y h. record {
    equal = rw (ea, eb, ek)
        (on_line (first_of r.pairing l) (second_of r.pairing l) r.constant (pos 0) (first_at l x) (second_at l y)
        (parts (over_loops r.pairing.from.loops x) (over_loops r.pairing.to.loops y) (over_symbols r.pairing.from.syms v) (over_symbols r.pairing.to.syms v) r.constant
        (first_of r.pairing l *ℤ first_at l x) (second_of r.pairing l *ℤ second_at l y) (o x y) (n v) h));
  };
}

pub left_constant : (r : Reduced) → Cancels r.pairing → ((k : ℕ) → k < length r.pairing.from.loops → at_place r.pairing.from.loops k ≡ pos 0)
    → ((k : ℕ) → k < length r.pairing.to.loops → at_place r.pairing.to.loops k ≡ pos 0) → (v : ℕ → ℤ) (x y : List ℤ) → reduced_difference r v x y ≡ r.constant
left_constant r n f t v x y =
    let a = over_none r.pairing.from.loops x f in
    let b = over_none r.pairing.to.loops y t in
    let e = n v in
    omega (arith, linear)
