-- The greatest common divisor of many numbers, one more at a time, and that of a pairing.
use Rattle.std.proofs.Common.{◌≡◌, ℕ, ◌+◌, ◌<◌, ◌⊎◌, List, [], ◌∷◌, ◌++◌, length, take, get_or, map, ap, ◌∙◌, arith, subst, sym, inl, inr}
use Rattle.std.specs.Prelude.{ℤ, pos, ◌+ℤ◌, ◌-ℤ◌, ◌*ℤ◌, All, unsigned_abs}
use Prim.Native.Nat.{◌∣◌}
use Rattle.std.specs.Int.{IsGcd}
use Rattle.std.proofs.Math.IntN.{neg_ℤ}
use Rattle.std.proofs.lemmas.Int.{ints}
use Rattle.std.proofs.lemmas.List.{map_push, take_more}
use Rattle.std.proofs.lemmas.List.Elements.{All-push, All-nil, All-cons, All-head, All-map, All-tail}
use Rattle.std.proofs.lemmas.Nat.Gcd.{dvd_refl, dvd_trans, dvd-zero}
use Rattle.dependence_tests.specs.gcd_banerjee.Extremes.{difference_with}
use Rattle.dependence_tests.specs.gcd_banerjee.Divisors.{DividesEach, IsGcdFrom, difference_of}
use Rattle.dependence_tests.proofs.gcd_banerjee.Multiples.{divides_opposite, divides_over_loops, divides_product, divides_sum, divides_sum_below}
use Rattle.subscripts.proofs.SymbolSums.{above_all, in_or_none, over_symbols_difference}
use Rattle.subscripts.specs.Forms.{coefficient, difference, over_loops, over_symbols}
use Rattle.subscripts.specs.Refutations.{DividesAll, HasGcd}
use Rattle.subscripts.specs.declared.pairing.Pairing.{Pairing}

front : (P : ℤ → Type 0) (xs : List ℤ) (x : ℤ) → All P (xs ++ (x ∷ [])) → All P xs
front P [] x a = All-nil P
front P (y ∷ ys) x a = All-cons P y ys (All-head P y (ys ++ (x ∷ [])) a) (front P ys x (All-tail P y (ys ++ (x ∷ [])) a))

last : (P : ℤ → Type 0) (xs : List ℤ) (x : ℤ) → All P (xs ++ (x ∷ [])) → P x
last P [] x a = All-head P x [] a
last P (y ∷ ys) x a = last P ys x (All-tail P y (ys ++ (x ∷ [])) a)

weaker : (d e : ℕ) (xs : List ℤ) → d ∣ e → DividesEach e xs → DividesEach d xs
weaker d e xs h a k x l = dvd_trans d h (a k x l)

-- no number yet
pub gcd_none : (start : ℕ) → IsGcdFrom start [] start
gcd_none start = record { start_too = dvd_refl start; each = All-nil (λ x. start ∣ unsigned_abs x); greatest = λ d s a. s }

-- one more number
pub gcd_push : (start : ℕ) (xs : List ℤ) (x : ℤ) (all next : ℕ) → IsGcdFrom start xs all → IsGcd all (unsigned_abs x) next → IsGcdFrom start (xs ++ (x ∷ [])) next
gcd_push start xs x all next h g = record {
  start_too = dvd_trans next g.0 h.start_too;
  each = All-push (λ y. next ∣ unsigned_abs y) xs x (weaker next all xs g.0 h.each) g.1;
  greatest = λ d s a. g.2 d (h.greatest d s (front (λ y. d ∣ unsigned_abs y) xs x a)) (last (λ y. d ∣ unsigned_abs y) xs x a);
}

pub gcd_step : (start : ℕ) (xs : List ℤ) (i all next : ℕ) → i < length xs → IsGcdFrom start (take i xs) all → IsGcd all (unsigned_abs (get_or xs i (pos 0))) next
    → IsGcdFrom start (take (i + 1) xs) next
gcd_step start xs i all next l h g =
    subst (λ ys. IsGcdFrom start ys next) (sym (take_more xs i (pos 0) l)) (gcd_push start (take i xs) (get_or xs i (pos 0)) all next h g)

pub gcd_step_by : (f : ℕ × ℤ → ℤ) (start : ℕ) (ts : List (ℕ × ℤ)) (i all next : ℕ) → i < length ts → IsGcdFrom start (map f (take i ts)) all
    → IsGcd all (unsigned_abs (f (get_or ts i (0, pos 0)))) next → IsGcdFrom start (map f (take (i + 1) ts)) next
gcd_step_by f start ts i all next l h g =
    subst (λ ys. IsGcdFrom start ys next) (sym (ap (map f) (take_more ts i (0, pos 0) l) ∙ map_push f (take i ts) (get_or ts i (0, pos 0))))
    (gcd_push start (map f (take i ts)) (f (get_or ts i (0, pos 0))) all next h g)

-- ---- that of a pairing

all_of_map : (d : ℕ) (p : Pairing) (ts : List (ℕ × ℤ)) → DividesEach d (map (difference_of p) ts) → All (λ t. d ∣ unsigned_abs (difference_of p t)) ts
all_of_map d p [] h = All-nil (λ t. d ∣ unsigned_abs (difference_of p t))
all_of_map d p (t ∷ ts) h =
    All-cons (λ u. d ∣ unsigned_abs (difference_of p u)) t ts
    (All-head (λ x. d ∣ unsigned_abs x) (difference_of p t) (map (difference_of p) ts) h)
    (all_of_map d p ts (All-tail (λ x. d ∣ unsigned_abs x) (difference_of p t) (map (difference_of p) ts) h))

-- the difference of each symbol's coefficients is a multiple where it is for those of both lists
symbols_too : (d : ℕ) (p : Pairing) → DividesEach d (map (difference_of p) p.from.syms) → DividesEach d (map (difference_of p) p.to.syms)
    → (s : ℕ) → d ∣ unsigned_abs (coefficient p.from.syms s -ℤ coefficient p.to.syms s)
symbols_too d p a b s =
    elim (in_or_none (λ k. d ∣ unsigned_abs (coefficient p.from.syms k -ℤ coefficient p.to.syms k)) p.from.syms s (all_of_map d p p.from.syms a)) [
      | inl h ↦ h
      | inr e ↦ elim (in_or_none (λ k. d ∣ unsigned_abs (coefficient p.from.syms k -ℤ coefficient p.to.syms k)) p.to.syms s (all_of_map d p p.to.syms b)) [
        | inl h ↦ h
        | inr f ↦ let z : unsigned_abs (coefficient p.from.syms s -ℤ coefficient p.to.syms s) ≡ 0 = omega (arith, ints) in subst (λ n. d ∣ n) (sym z) (dvd-zero d)
      ]
    ]

each_difference : (d : ℕ) (p : Pairing) (ts : List (ℕ × ℤ)) → DividesAll d p → DividesEach d (map (difference_of p) ts)
each_difference d p ts h = All-map (λ x. d ∣ unsigned_abs x) (difference_of p) ts (λ k t l. h.symbols (get_or ts k t).0)

pub gcd_of_pairing : (p : Pairing) (f t s g : ℕ) → IsGcdFrom 0 p.from.loops f → IsGcdFrom f p.to.loops t → IsGcdFrom t (map (difference_of p) p.from.syms) s
    → IsGcdFrom s (map (difference_of p) p.to.syms) g → HasGcd p g
gcd_of_pairing p f t s g hf ht hs hg =
    let gs : g ∣ s = hg.start_too in
    let gt : g ∣ t = dvd_trans g gs hs.start_too in
    let gf : g ∣ f = dvd_trans g gt ht.start_too in
    record {
      divides = record {
        first = weaker g f p.from.loops gf hf.each;
        second = weaker g t p.to.loops gt ht.each;
        symbols = symbols_too g p (weaker g s (map (difference_of p) p.from.syms) gs hs.each) hg.each;
      };
      greatest = λ d h.
          hg.greatest d (hs.greatest d (ht.greatest d (hf.greatest d (dvd-zero d) h.first) h.second) (each_difference d p p.from.syms h)) (each_difference d p p.to.syms h);
    }

-- all greatest common divisors of a pairing divide the same numbers
pub same_multiples : (p : Pairing) (g h n : ℕ) → HasGcd p g → HasGcd p h → g ∣ n → h ∣ n
same_multiples p g h n a b d = dvd_trans h (a.greatest h b.divides) d

-- what makes both sides equal makes each common divisor divide the difference of the constants
pub divides_constant : (p : Pairing) (g : ℕ) (constant : ℤ) (v : ℕ → ℤ) (x y : List ℤ) → DividesAll g p → difference_with p constant v x y ≡ pos 0 → g ∣ unsigned_abs constant
divides_constant p g constant v x y h e =
    let a = divides_over_loops g p.from.loops x h.first in
    let b = divides_over_loops g p.to.loops y h.second in
    let n = above_all p.from.syms + above_all p.to.syms in
    let c = divides_sum_below g n (λ s. (coefficient p.from.syms s -ℤ coefficient p.to.syms s) *ℤ v s) (λ s. divides_product g (coefficient p.from.syms s -ℤ coefficient p.to.syms s) (v s) (h.symbols s)) in
    let q = over_symbols_difference n p.from.syms p.to.syms v (omega arith) in
    let s : g ∣ unsigned_abs (over_symbols p.from.syms v -ℤ over_symbols p.to.syms v) = subst (λ z. g ∣ unsigned_abs z) (sym q) c in
    let t : g ∣ unsigned_abs (neg_ℤ (over_loops p.to.loops y)) = divides_opposite g (over_loops p.to.loops y) (neg_ℤ (over_loops p.to.loops y)) (omega (arith, ints)) b in
    let u = divides_sum g (over_loops p.from.loops x) (neg_ℤ (over_loops p.to.loops y)) a t in
    let w = divides_sum g (over_loops p.from.loops x +ℤ neg_ℤ (over_loops p.to.loops y)) (over_symbols p.from.syms v -ℤ over_symbols p.to.syms v) u s in
    divides_opposite g ((over_loops p.from.loops x +ℤ neg_ℤ (over_loops p.to.loops y)) +ℤ (over_symbols p.from.syms v -ℤ over_symbols p.to.syms v)) constant (omega (arith, ints)) w

pub same_difference : (p : Pairing) → unsigned_abs (p.from.constant -ℤ p.to.constant) ≡ unsigned_abs (p.to.constant -ℤ p.from.constant)
same_difference p = omega (arith, ints)

pub difference_is : (p : Pairing) (v : ℕ → ℤ) (x y : List ℤ) → difference_with p (p.from.constant -ℤ p.to.constant) v x y ≡ difference p v x y
difference_is p v x y = omega (arith, ints)
