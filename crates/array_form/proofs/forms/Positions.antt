-- Iterations by position: each list of iterations is that of names.
use Rattle.std.proofs.Common.{◌≡◌, refl, sym, ap, ◌∙◌, subst, ◌⊎◌, inl, inr, ℕ, zero, suc, ◌+◌, ◌≤◌, ◌<◌, Bool, true, false, cond, List, [], ◌∷◌, ◌++◌, map, length, flat_map, arith, Contains, ◌==◌}
use Rattle.std.specs.Str.{bytes_eq}
use Rattle.std.proofs.lemmas.Bool.{eqb-true, eqb-false}
use Rattle.std.proofs.lemmas.List.Elements.{Contains-append_left, Contains-append_right}
use Rattle.std.proofs.lemmas.Slice.Eq.{bytes_eq-Decides}
use mathlib.Core.Path.{ap₂}
use Rattle.meaning.specs.ArrayValues.{counted, positions}
use Rattle.meaning_laws.proofs.arrays.Members.{here, there, nowhere, cases_of, in_map, of_map}
use Rattle.meaning_laws.proofs.arrays.OneToOne.{of_flat_map}
use Rattle.array_form.specs.forms.Instances.{in_sequence}
use Rattle.array_form.specs.forms.Loops.{FormLoop, form_variables_of, is_among}
use Rattle.array_form.specs.forms.Trips.{AreDistinct}
use Rattle.array_form.proofs.forms.Iterations.{iterations}

-- ---- lists of lists

pub in_flat_map : {A B : Type 0} (f : A → List B) (ys : List A) (y : A) (z : B) → Contains ys y → Contains (f y) z → Contains (flat_map f ys) z
in_flat_map f [] y z h k = absurd (nowhere y h)
in_flat_map f (x ∷ ys) y z h k = by (cases_of x ys y h) (λ g. in_flat_map f ys y z g k)
  where
    by : (x ≡ y) ⊎ Contains ys y → (Contains ys y → Contains (flat_map f ys) z) → Contains (f x ++ flat_map f ys) z
    by (inl e) more = Contains-append_left (f x) (flat_map f ys) z (subst (λ w. Contains (f w) z) (sym e) k)
    by (inr g) more = Contains-append_right (f x) (flat_map f ys) z (more g)

in_counted : (k n i : ℕ) → k ≤ i → i < k + n → Contains (counted k n) i
in_counted k zero i h g = absurd (omega (arith, h, g))
in_counted k (suc n) i h g = by (k == i) refl (λ l. in_counted (k + 1) n i l (omega (arith, g)))
  where
    by : (b : Bool) → (k == i) ≡ b → (k + 1 ≤ i → Contains (counted (k + 1) n) i) → Contains (k ∷ counted (k + 1) n) i
    by true e more = subst (Contains (k ∷ counted (k + 1) n)) (eqb-true k i e) (here k (counted (k + 1) n))
    by false e more = there k (counted (k + 1) n) i (more (let differ = eqb-false k i e in omega (arith, h, differ)))

of_counted : (k n i : ℕ) → Contains (counted k n) i → (k ≤ i) × (i < k + n)
of_counted k zero i c = absurd (nowhere i c)
of_counted k (suc n) i c = by (cases_of k (counted (k + 1) n) i c) (of_counted (k + 1) n i)
  where
    by : (k ≡ i) ⊎ Contains (counted (k + 1) n) i → (Contains (counted (k + 1) n) i → (k + 1 ≤ i) × (i < k + 1 + n)) → (k ≤ i) × (i < k + suc n)
    by (inl e) more = (omega (arith, e), omega (arith, e))
    by (inr h) more = let m = more h in let p = m.0 in let q = m.1 in (omega (arith, p), omega (arith, q))

-- ---- within their trips, one by one

-- at least `low`, and below `low + n`
abbrev pub AreFrom : ℕ → List ℕ → List ℕ → Type 0
AreFrom low [] [] = Unit {0}
AreFrom low (n ∷ ns) (i ∷ is) = ((low ≤ i) × (i < low + n)) × AreFrom low ns is
AreFrom low _ _ = ⊥

pub positions_from : (ns is : List ℕ) → Contains (positions ns) is → AreFrom 0 ns is
positions_from [] is c = subst (AreFrom 0 []) (by (cases_of [] [] is c)) tt
  where
    by : ([] ≡ is) ⊎ Contains [] is → [] ≡ is
    by (inl e) = e
    by (inr h) = absurd (nowhere is h)
positions_from (n ∷ ns) is c =
    let r = of_flat_map (λ rest. map (λ i. i ∷ rest) (counted 0 n)) (positions ns) is c in
    let m = of_map (λ i. i ∷ r.0) (counted 0 n) is r.2 in
    subst (AreFrom 0 (n ∷ ns)) m.2 (of_counted 0 n m.0 m.1, positions_from ns r.0 r.1)

pub from_positions : (ns is : List ℕ) → AreFrom 0 ns is → Contains (positions ns) is
from_positions [] [] h = here [] []
from_positions [] (i ∷ is) h = absurd h
from_positions (n ∷ ns) [] h = absurd h
from_positions (n ∷ ns) (i ∷ is) h =
    in_flat_map (λ rest. map (λ i. i ∷ rest) (counted 0 n)) (positions ns) is (i ∷ is) (from_positions ns is h.1)
    (in_map (λ i. i ∷ is) (counted 0 n) i (in_counted 0 n i h.0.0 h.0.1))

pub sequence_from : (ns is : List ℕ) → Contains (in_sequence ns) is → AreFrom 1 ns is
sequence_from [] is c = subst (AreFrom 1 []) (by (cases_of [] [] is c)) tt
  where
    by : ([] ≡ is) ⊎ Contains [] is → [] ≡ is
    by (inl e) = e
    by (inr h) = absurd (nowhere is h)
sequence_from (n ∷ ns) is c =
    let r = of_flat_map (λ i. map (λ is. i ∷ is) (in_sequence ns)) (counted 1 n) is c in
    let m = of_map (λ is. r.0 ∷ is) (in_sequence ns) is r.2 in
    subst (AreFrom 1 (n ∷ ns)) m.2 (of_counted 1 n r.0 r.1, sequence_from ns m.0 m.1)

pub from_sequence : (ns is : List ℕ) → AreFrom 1 ns is → Contains (in_sequence ns) is
from_sequence [] [] h = here [] []
from_sequence [] (i ∷ is) h = absurd h
from_sequence (n ∷ ns) [] h = absurd h
from_sequence (n ∷ ns) (i ∷ is) h =
    in_flat_map (λ i. map (λ is. i ∷ is) (in_sequence ns)) (counted 1 n) i (i ∷ is) (in_counted 1 n i h.0.0 h.0.1)
    (in_map (λ is. i ∷ is) (in_sequence ns) is (from_sequence ns is h.1))

-- ---- iterations by the names of the loops

abbrev pub iteration_of : List FormLoop → List ℕ → List ℕ → ℕ
iteration_of [] is x = 1
iteration_of (l ∷ ls) [] x = 1
iteration_of (l ∷ ls) (i ∷ is) x = cond (bytes_eq l.variable x) i (iteration_of ls is x)

-- other names don't matter
others_same : (l : FormLoop) (i : ℕ) (ls ms : List FormLoop) (is : List ℕ) → is_among (form_variables_of ms) l.variable ≡ false → iterations (iteration_of (l ∷ ls) (i ∷ is)) ms ≡ iterations (iteration_of ls is) ms
others_same l i ls [] is h = refl
others_same l i ls (m ∷ ms) is h = by (bytes_eq m.variable l.variable) refl h (others_same l i ls ms is)
  where
    other_way : bytes_eq m.variable l.variable ≡ false → bytes_eq l.variable m.variable ≡ false
    other_way e = of (bytes_eq l.variable m.variable) refl
      where
        of : (b : Bool) → bytes_eq l.variable m.variable ≡ b → b ≡ false
        of false p = refl
        of true p = absurd (let bad : false ≡ true = sym e ∙ (bytes_eq-Decides m.variable l.variable).1 (sym ((bytes_eq-Decides l.variable m.variable).0 p)) in cc)

    by : (b : Bool) → bytes_eq m.variable l.variable ≡ b → cond b true (is_among (form_variables_of ms) l.variable) ≡ false
        → (is_among (form_variables_of ms) l.variable ≡ false → iterations (iteration_of (l ∷ ls) (i ∷ is)) ms ≡ iterations (iteration_of ls is) ms)
        → cond (bytes_eq l.variable m.variable) i (iteration_of ls is m.variable) ∷ iterations (iteration_of (l ∷ ls) (i ∷ is)) ms ≡ iteration_of ls is m.variable ∷ iterations (iteration_of ls is) ms
    by true e h more = absurd cc
    by false e h more = ap₂ (λ (x : ℕ) (xs : List ℕ). x ∷ xs) (ap (λ b. cond b i (iteration_of ls is m.variable)) (other_way e)) (more h)

pub iterations_are : (low : ℕ) (ls : List FormLoop) (ns is : List ℕ) → AreDistinct (form_variables_of ls) → length ns ≡ length ls → AreFrom low ns is → iterations (iteration_of ls is) ls ≡ is
iterations_are low [] [] [] d e h = refl
iterations_are low [] [] (i ∷ is) d e h = absurd h
iterations_are low [] (n ∷ ns) is d e h = absurd (omega (arith, e))
iterations_are low (l ∷ ls) [] is d e h = absurd (omega (arith, e))
iterations_are low (l ∷ ls) (n ∷ ns) [] d e h = absurd h
iterations_are low (l ∷ ls) (n ∷ ns) (i ∷ is) d e h =
    ap₂ (λ (x : ℕ) (xs : List ℕ). x ∷ xs) (ap (λ b. cond b i (iteration_of ls is l.variable)) ((bytes_eq-Decides l.variable l.variable).1 refl))
    (others_same l i ls ls is d.0 ∙ iterations_are low ls ns is d.1 (omega (arith, e)) h.1)
