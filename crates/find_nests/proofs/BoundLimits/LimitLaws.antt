-- The forms of a loop and their sizes.
use Rattle.std.proofs.Common.{◌≡◌, refl, sym, ap, ◌∙◌, subst, ℕ, zero, suc, ◌+◌, ◌*◌, ◌^◌, ◌≤◌, ◌<◌, ℤ, pos, negsuc, ◌+ℤ◌, ◌*ℤ◌, ◌/◌, Bool, true, false, cond, ◌&&◌, List, map, take, drop, length, get_or, arith}
use Rattle.std.specs.Prelude.{nat_abs, neg_ℤ, int_div, int_le, ◌==◌}
use Rattle.std.proofs.Math.Nat.{div-le_self}
use Rattle.linear_forms.specs.Linear.{Form, added, sum, multiple}
use Rattle.linear_forms.specs.Places.{unit_form}
use Rattle.find_nests.specs.bound_limits.Limits.{keeps_limits, plus_constant, difference, dividend, is_constant_form, folded, normal, end_keeps_limits, all_keep_limits}
use Rattle.find_nests.specs.bound_limits.View.{IsSized, CanAdd}
use Rattle.find_nests.proofs.BoundLimits.Lists.{added-nil}
use Rattle.find_nests.proofs.BoundLimits.SizeLaws.{abs-sum, sized_sum, can_add, sized_more, sized_of_kept, sized_unit}

pub abs-neg : (z : ℤ) → nat_abs (neg_ℤ z) ≡ nat_abs z
abs-neg (pos zero) = refl
abs-neg (pos (suc n)) = refl
abs-neg (negsuc n) = refl

module _ (z : ℤ) (f l : Form) where
  pub dividend-up : int_le (pos 0) z ≡ true → dividend z f l ≡ plus_constant (difference l f) z
  dividend-up h = ap (λ b. cond b (plus_constant (difference l f) z) (plus_constant (difference f l) (neg_ℤ z))) h

  pub dividend-down : int_le (pos 0) z ≡ false → dividend z f l ≡ plus_constant (difference f l) (neg_ℤ z)
  dividend-down h = ap (λ b. cond b (plus_constant (difference l f) z) (plus_constant (difference f l) (neg_ℤ z))) h

-- a constant more
pub plus_constant-is : (f g : Form) (z : ℤ) → g.coefficients ≡ f.coefficients → g.constant ≡ f.constant +ℤ z → g ≡ plus_constant f z
plus_constant-is f g z same e =
    ap (λ cs. let h : Form = record { coefficients = cs; constant = g.constant } in h) (same ∙ sym (added-nil f.coefficients))
    ∙ ap (λ n. let h : Form = record { coefficients = (plus_constant f z).coefficients; constant = n } in h) e

pub sized_plus_constant : (f : Form) (z : ℤ) (a b : ℕ) → IsSized a f → nat_abs z ≤ b → IsSized (a + b) (plus_constant f z)
sized_plus_constant f z a b h i = record {
  coefficients = λ j. let same = ap (λ cs. nat_abs (get_or cs j (pos 0))) (added-nil f.coefficients) in let most = h.coefficients j in omega (arith, same, most);
  constant = let whole = abs-sum f.constant z in let most = h.constant in omega (arith, whole, most, i);
}

-- the quotient isn't larger
pub abs-quotient : (a : ℤ) (n : ℕ) → nat_abs (int_div a (pos n)) ≤ nat_abs a
abs-quotient (pos a) n = div-le_self a n
abs-quotient (negsuc a) n =
    let most = div-le_self (suc a) n in
    let same = abs-neg (pos (suc a / n)) in
    omega (arith, same, most)

-- ---- conjunctions

pub not_all : (a b c e : Bool) → (a && (b && c)) ≡ false → (a && (b && (c && e))) ≡ false
not_all true true true e h = cc
not_all true true false e h = refl
not_all true false c e h = refl
not_all false b c e h = refl

pub then_last : (a b c e : Bool) → (a && (b && c)) ≡ true → (a && (b && (c && e))) ≡ e
then_last true true true e h = refl
then_last true true false e h = cc
then_last true false c e h = cc
then_last false b c e h = cc

pub first_of_three : (a b c : Bool) → (a && (b && c)) ≡ true → a ≡ true
first_of_three true b c h = refl
first_of_three false b c h = cc

pub third_of_three : (a b c : Bool) → (a && (b && c)) ≡ true → c ≡ true
third_of_three true true c h = h
third_of_three true false c h = cc
third_of_three false b c h = cc

-- ---- sums

pub sum-is : (f g h : Form) (k : ℤ) → h.coefficients ≡ added f.coefficients (map (λ a. k *ℤ a) g.coefficients) → h.constant ≡ f.constant +ℤ k *ℤ g.constant
    → h ≡ sum f (multiple k g)
sum-is f g h k same e =
    ap (λ cs. let q : Form = record { coefficients = cs; constant = h.constant } in q) same
    ∙ ap (λ n. let q : Form = record { coefficients = added f.coefficients (map (λ a. k *ℤ a) g.coefficients); constant = n } in q) e

pub can_add_ends : (f g : Form) → IsSized (2 ^ 107) f → IsSized (2 ^ 107) g → CanAdd f (negsuc 0) g
can_add_ends f g h i = can_add f g (negsuc 0) (2 ^ 107) 1 (2 ^ 107) h (omega arith) i (omega arith)

pub sized_difference : (f g : Form) → IsSized (2 ^ 107) f → IsSized (2 ^ 107) g → IsSized (2 ^ 108) (difference f g)
sized_difference f g h i = sized_more (difference f g) (2 ^ 107 + 1 * 2 ^ 107) (2 ^ 108) (omega arith) (sized_sum f g (negsuc 0) (2 ^ 107) 1 (2 ^ 107) h (omega arith) i)

pub can_add_end : (f g : Form) (k : ℤ) → IsSized (2 ^ 40) f → nat_abs k ≤ 2 ^ 31 → IsSized (2 ^ 40) g → CanAdd f k g
can_add_end f g k h i j = can_add f g k (2 ^ 40) (2 ^ 31) (2 ^ 40) h i j (omega arith)

pub can_add_turns : (f : Form) (k : ℤ) (place : ℕ) → IsSized (2 ^ 40) f → nat_abs k ≤ 2 ^ 31 → CanAdd f k (unit_form place)
can_add_turns f k place h i = can_add f (unit_form place) k (2 ^ 40) (2 ^ 31) 1 h i (sized_unit place) (omega arith)

pub sized_turns : (f : Form) (k : ℤ) (place : ℕ) → IsSized (2 ^ 40) f → nat_abs k ≤ 2 ^ 31 → IsSized (2 ^ 40 + 2 ^ 31 * 1) (sum f (multiple k (unit_form place)))
sized_turns f k place h i = sized_sum f (unit_form place) k (2 ^ 40) (2 ^ 31) 1 h i (sized_unit place)

pub sized_normal : (f : Form) (k : ℤ) (place : ℕ) → IsSized (2 ^ 40) f → nat_abs k ≤ 2 ^ 31 → IsSized (2 ^ 41) (normal place k f)
sized_normal f k place h i =
    let same = abs-neg k in
    sized_more (normal place k f) ((2 ^ 40 + 2 ^ 31 * 1) + 2 ^ 31) (2 ^ 41) (omega arith)
    (sized_plus_constant (sum f (multiple k (unit_form place))) (neg_ℤ k) (2 ^ 40 + 2 ^ 31 * 1) (2 ^ 31) (sized_turns f k place h i) (omega (arith, same, i)))

-- ---- the forms of a loop

pub end_of_constant : (n : ℕ) (step : ℤ) (first top end : Form) (kept : Bool) → is_constant_form top ≡ true → end ≡ plus_constant first (step *ℤ folded step top)
    → kept ≡ keeps_limits n 0 end → kept ≡ end_keeps_limits n step first top
end_of_constant n step first top end kept h e is =
    is ∙ ap (keeps_limits n 0) e
    ∙ sym (ap (λ b. cond b (keeps_limits n 0 (plus_constant first (step *ℤ folded step top)))
    (cond (nat_abs step == 1) (keeps_limits n 0 (sum first (multiple step top))) (keeps_limits n 1 first))) h)

module _ (n : ℕ) (step : ℤ) (first last less top : Form) (less-is : less ≡ plus_constant first (neg_ℤ step)) (top-is : top ≡ dividend step first last) (three : Bool)
    (three-is : three ≡ (keeps_limits n 0 first && (keeps_limits n 0 less && keeps_limits n 0 top))) where
  abbrev rest : Bool → Bool
  rest e = keeps_limits n 0 first && (keeps_limits n 0 less && (keeps_limits n 0 top && e))

  whole-is : rest (end_keeps_limits n step first top) ≡ all_keep_limits n step first last
  whole-is =
      ap (λ (l : Form). keeps_limits n 0 first && (keeps_limits n 0 l && (keeps_limits n 0 top && end_keeps_limits n step first top))) less-is
      ∙ ap (λ (t : Form). keeps_limits n 0 first && (keeps_limits n 0 (plus_constant first (neg_ℤ step)) && (keeps_limits n 0 t && end_keeps_limits n step first t))) top-is

  pub refused : three ≡ false → false ≡ all_keep_limits n step first last
  refused h = sym (not_all (keeps_limits n 0 first) (keeps_limits n 0 less) (keeps_limits n 0 top) (end_keeps_limits n step first top) (sym three-is ∙ h)) ∙ whole-is

  pub accepted : (kept : Bool) → three ≡ true → kept ≡ end_keeps_limits n step first top → kept ≡ all_keep_limits n step first last
  accepted kept h e = e ∙ sym (then_last (keeps_limits n 0 first) (keeps_limits n 0 less) (keeps_limits n 0 top) (end_keeps_limits n step first top) (sym three-is ∙ h)) ∙ whole-is

  pub first_is_small : three ≡ true → IsSized (2 ^ 40) first
  first_is_small h = sized_of_kept n 0 first (first_of_three (keeps_limits n 0 first) (keeps_limits n 0 less) (keeps_limits n 0 top) (sym three-is ∙ h))

  pub top_is_small : three ≡ true → IsSized (2 ^ 40) top
  top_is_small h = sized_of_kept n 0 top (third_of_three (keeps_limits n 0 first) (keeps_limits n 0 less) (keeps_limits n 0 top) (sym three-is ∙ h))
