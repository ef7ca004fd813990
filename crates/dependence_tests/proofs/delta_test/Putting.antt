-- Points and distances put in place by place.
use Rattle.std.proofs.Common.{◌≡◌, ◌≢◌, ℕ, ◌+◌, ◌*◌, ◌<◌, ◌≤◌, ◌^◌, List, length, set, length-set, get_or-set_other, refl, ap, arith, sym, ◌∙◌}
use Rattle.std.specs.Prelude.{ℤ, ◌+ℤ◌, ◌-ℤ◌, ◌*ℤ◌, All, unsigned_abs}
use Rattle.std.proofs.lemmas.Int.{ints}
use Rattle.std.proofs.lemmas.List.Elements.{All-set}
use Rattle.dependence_tests.proofs.loop_lines.LinePoints.Ring.{ring, linear}
use Rattle.dependence_tests.proofs.loop_lines.LinePoints.Steps.{abs_sum}
use Rattle.dependence_tests.proofs.gcd_banerjee.Gcds.{difference_is}
use Rattle.subscripts.specs.Classes.{at_place}
use Rattle.subscripts.specs.Forms.{difference, over_loops, over_symbols}
use Rattle.subscripts.specs.Shapes.{IsPairing}
use Rattle.subscripts.specs.declared.pairing.Pairing.{Pairing}
use Rattle.dependence_tests.specs.delta_test.Kept.{AreKept}
use Rattle.dependence_tests.specs.delta_test.Reductions.{IsAlike, IsReducedTo, reduced_difference, term_value, with_term}
use Rattle.dependence_tests.specs.declared.delta_test.constraints.Constraints.{Constraints}
use Rattle.dependence_tests.specs.declared.delta_test.put.Reduced.{Reduced}
use Rattle.dependence_tests.specs.declared.delta_test.put.Term.{Term}
use Rattle.dependence_tests.proofs.delta_test.Places.{over_set}

-- with what is known of the loops in the places before k put in
pub record IsPutUpTo (c : Constraints) (p : Pairing) (r : Reduced) (k : ℕ) : Type 0 where
  pub alike : IsAlike p r.pairing
  pub first : All (λ a. unsigned_abs a ≤ 2 ^ 41) r.pairing.from.loops
  pub second : All (λ b. unsigned_abs b ≤ 2 ^ 41) r.pairing.to.loops
  pub constant : unsigned_abs r.constant ≤ 2 ^ 41 + k * 2 ^ 90
  pub first_long : length r.pairing.from.loops ≡ length p.from.loops
  pub second_long : length r.pairing.to.loops ≡ length p.to.loops
  pub first_later : (m : ℕ) → k ≤ m → at_place r.pairing.from.loops m ≡ at_place p.from.loops m
  pub second_later : (m : ℕ) → k ≤ m → at_place r.pairing.to.loops m ≡ at_place p.to.loops m
  pub same : (v : ℕ → ℤ) (x y : List ℤ) → AreKept c x y → difference p v x y ≡ reduced_difference r v x y

pub begun : (c : Constraints) (p : Pairing) (constant : ℤ) → IsPairing p → constant ≡ p.from.constant -ℤ p.to.constant
    → IsPutUpTo c p (record { pairing = p; constant = constant }) 0
begun c p constant h e = record {
  alike = record { known = refl; common = refl; from_spans = refl; to_spans = refl; from_symbols = refl; to_symbols = refl };
  first = λ k q l. let s = h.from.small_loops k q l in omega arith;
  second = λ k q l. let s = h.to.small_loops k q l in omega arith;
  constant = omega (arith, ints, ap unsigned_abs e, h.from.small_constant, h.to.small_constant);
  first_long = refl;
  second_long = refl;
  first_later = λ m l. refl;
  second_later = λ m l. refl;
  same = λ v x y k. sym (difference_is p v x y) ∙ ap (λ (z : ℤ). reduced_difference (record { pairing = p; constant = z }) v x y) (sym e);
}

swapped : (l m s c a b f g t x y l' m' : ℤ) → l' ≡ l +ℤ (f -ℤ a) *ℤ x → m' ≡ m +ℤ (g -ℤ b) *ℤ y → a *ℤ x -ℤ b *ℤ y ≡ (f *ℤ x -ℤ g *ℤ y) +ℤ t
    → (l -ℤ m) +ℤ (s +ℤ c) ≡ (l' -ℤ m') +ℤ (s +ℤ (c +ℤ t))
swapped l m s c a b f g t x y l' m' e h k =
    let e' = simp ring at e in
    let h' = simp ring at h in
    let k' = simp ring at k in
    omega (arith, linear)

other : (xs ys : List ℤ) (k m : ℕ) (b : ℤ) → ((n : ℕ) → k ≤ n → at_place xs n ≡ at_place ys n) → k + 1 ≤ m → at_place (set xs k b) m ≡ at_place ys m
other xs ys k m b h l = let u : m ≢ k = λ e. absurd (omega arith) in rw get_or-set_other (h m (omega arith))

pub put_one : (c : Constraints) (p : Pairing) (r : Reduced) (k : ℕ) (t : Term) → k < length p.from.loops → k < length p.to.loops → IsPutUpTo c p r k
    → ((x y : List ℤ) → AreKept c x y → at_place p.from.loops k *ℤ at_place x k -ℤ at_place p.to.loops k *ℤ at_place y k ≡ term_value t (at_place x k) (at_place y k))
    → unsigned_abs t.first ≤ 2 ^ 41 → unsigned_abs t.second ≤ 2 ^ 41 → unsigned_abs t.constant ≤ 2 ^ 90 → IsPutUpTo c p (with_term r k t) (k + 1)
put_one c p r k t b d h v sf ss sc = record {
  alike = record { known = h.alike.known; common = h.alike.common; from_spans = h.alike.from_spans; to_spans = h.alike.to_spans; from_symbols = h.alike.from_symbols; to_symbols = h.alike.to_symbols };
  first = All-set (λ a. unsigned_abs a ≤ 2 ^ 41) r.pairing.from.loops k t.first sf h.first;
  second = All-set (λ a. unsigned_abs a ≤ 2 ^ 41) r.pairing.to.loops k t.second ss h.second;
  constant = omega (arith, abs_sum r.constant t.constant, h.constant);
  first_long = simp length-set h.first_long;
  second_long = simp length-set h.second_long;
  first_later = λ m l. other r.pairing.from.loops p.from.loops k m t.first h.first_later l;
  second_later = λ m l. other r.pairing.to.loops p.to.loops k m t.second h.second_later l;
  same = λ w x y a.
      h.same w x y a
      ∙ swapped (over_loops r.pairing.from.loops x) (over_loops r.pairing.to.loops y) (over_symbols r.pairing.from.syms w -ℤ over_symbols r.pairing.to.syms w) r.constant
      (at_place r.pairing.from.loops k) (at_place r.pairing.to.loops k) t.first t.second t.constant (at_place x k) (at_place y k)
      (over_loops (set r.pairing.from.loops k t.first) x) (over_loops (set r.pairing.to.loops k t.second) y)
      (over_set r.pairing.from.loops x k t.first (omega (arith, h.first_long))) (over_set r.pairing.to.loops y k t.second (omega (arith, h.second_long)))
      (rw (h.first_later k (omega arith), h.second_later k (omega arith)) (v x y a));
}

pub all_put : (c : Constraints) (p : Pairing) (r : Reduced) (k : ℕ) → k ≤ 7 → IsPutUpTo c p r k → IsReducedTo c p r
all_put c p r k b h = record {
  alike = h.alike;
  sized = record { first = h.first; second = h.second; constant = omega (arith, h.constant) };
  same = h.same;
}
