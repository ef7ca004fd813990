-- Multiples of a number, and their quotients.
use Rattle.std.proofs.Common.{◌≡◌, refl, sym, ap, ◌∙◌, ℕ, zero, suc, ◌+◌, ◌*◌, ◌/◌, ◌<◌, ℤ, pos, negsuc, neg_ℤ, ◌*ℤ◌, int_div, arith}
use Rattle.std.proofs.lemmas.Nat.{div-mul-add}
use Rattle.std.proofs.Math.IntN.{pos-*ℤ-negsuc}
use Rattle.std.proofs.Math.Nat.{mul-div_cancel}

small : (a n : ℕ) → a < n → a / n ≡ 0
small a n h = ap (λ m. m / n) (let e : a ≡ 0 * n + a = grind arith in e) ∙ div-mul-add 0 n a h

opposite : (m n : ℕ) → int_div (neg_ℤ (pos m)) (negsuc n) ≡ pos (m / suc n)
opposite zero n = let e = small 0 (suc n) (omega arith) in ap (λ q. neg_ℤ (pos q)) e ∙ ap pos (sym e)
opposite (suc m) n = refl

-- a multiple divided gives back how often
pub whole_times : (n : ℕ) (a : ℤ) → (a ≡ pos 0 → ⊥) → int_div (pos n *ℤ a) a ≡ pos n
whole_times n (pos zero) h = absurd (h refl)
whole_times n (pos (suc m)) h = ap pos (mul-div_cancel n {n = suc m} (omega arith))
whole_times n (negsuc m) h =
    ap (λ z. int_div z (negsuc m)) (pos-*ℤ-negsuc n m) ∙ opposite (n * suc m) m ∙ ap pos (mul-div_cancel n {n = suc m} (omega arith))

pub whole_quotient : (n : ℕ) (c a : ℤ) → (a ≡ pos 0 → ⊥) → pos n *ℤ a ≡ c → int_div c a ≡ pos n
whole_quotient n c a h e = ap (λ z. int_div z a) (sym e) ∙ whole_times n a h

-- so it says how often
pub same_times : (n m : ℕ) (c a : ℤ) → (a ≡ pos 0 → ⊥) → pos n *ℤ a ≡ c → pos m *ℤ a ≡ c → n ≡ m
same_times n m c a h e f = number (sym (whole_quotient n c a h e) ∙ whole_quotient m c a h f)
  where
    number : pos n ≡ pos m → n ≡ m
    number g = cc

pub same_number : (n m : ℕ) → pos n ≡ pos m → n ≡ m
same_number n m e = cc
