-- Positions are those at the places, one after the other.
use Rattle.std.proofs.Common.{◌≡◌, refl, sym, ap, ◌∙◌, zero, suc, ℕ, ◌+◌, ◌*◌, ◌<◌, ◌≤◌, List, [], ◌∷◌, ◌++◌, map, arith}
use Rattle.std.specs.List.{flat_map}
use mathlib.Core.Path.{ap₂}
use Rattle.std.proofs.lemmas.Nat.{div-mul-add, mod-mul-add}
use Rattle.std.proofs.lemmas.List.{map-append}
use Rattle.meaning.specs.ArrayValues.{counted, positions, size}
use Rattle.array_values.specs.Positions.{position_at}

pub counted_append : (a m n : ℕ) → counted a m ++ counted (a + m) n ≡ counted a (m + n)
counted_append a zero n = ap₂ counted (let e : a + 0 ≡ a = omega arith in e) (let e : n ≡ 0 + n = omega arith in e)
counted_append a (suc m) n =
    ap (λ k. a ∷ (counted (a + 1) m ++ counted k n)) (let e : a + suc m ≡ a + 1 + m = omega arith in e)
    ∙ ap (λ ks. a ∷ ks) (counted_append (a + 1) m n)
    ∙ ap (counted a) (let e : suc (m + n) ≡ suc m + n = omega arith in e)

row : (n : ℕ) (ns : List ℕ) (j i m : ℕ) → i + m ≤ n → map (position_at (n ∷ ns)) (counted (j * n + i) m) ≡ map (λ x. x ∷ position_at ns j) (counted i m)
row n ns j i zero h = refl
row n ns j i (suc m) h =
    let l : i < n = omega arith in
    ap₂ (λ p ps. p ∷ ps)
    (ap₂ (λ a b. a ∷ position_at ns b) (mod-mul-add j n i l) (div-mul-add j n i l))
    (ap (λ k. map (position_at (n ∷ ns)) (counted k m)) (let e : j * n + i + 1 ≡ j * n + (i + 1) = omega arith in e)
    ∙ row n ns j (i + 1) m (omega arith))

rows : (n : ℕ) (ns : List ℕ) (j m : ℕ)
    → flat_map (λ rest. map (λ x. x ∷ rest) (counted 0 n)) (map (position_at ns) (counted j m)) ≡ map (position_at (n ∷ ns)) (counted (j * n) (m * n))
rows n ns j zero = ap (λ k. map (position_at (n ∷ ns)) (counted (j * n) k)) (let e : 0 ≡ 0 * n = grind arith in e)
rows n ns j (suc m) =
    ap₂ (λ ps qs. ps ++ qs) (sym (row n ns j 0 n (omega arith))) (rows n ns (j + 1) m)
    ∙ ap₂ (λ a b. map (position_at (n ∷ ns)) (counted a n) ++ map (position_at (n ∷ ns)) (counted b (m * n)))
    (let e : j * n + 0 ≡ j * n = omega arith in e) (let e : (j + 1) * n ≡ j * n + n = grind arith in e)
    ∙ sym (map-append (position_at (n ∷ ns)) (counted (j * n) n) (counted (j * n + n) (m * n)))
    ∙ ap (map (position_at (n ∷ ns))) (counted_append (j * n) n (m * n))
    ∙ ap (λ k. map (position_at (n ∷ ns)) (counted (j * n) k)) (let e : n + m * n ≡ suc m * n = grind arith in e)

pub positions_are : (ns : List ℕ) → positions ns ≡ map (position_at ns) (counted 0 (size ns))
positions_are [] = refl
positions_are (n ∷ ns) =
    ap (flat_map (λ rest. map (λ x. x ∷ rest) (counted 0 n))) (positions_are ns)
    ∙ rows n ns 0 (size ns)
    ∙ ap₂ (λ a b. map (position_at (n ∷ ns)) (counted a b)) (let e : 0 * n ≡ 0 = grind arith in e) (let e : size ns * n ≡ n * size ns = grind arith in e)
