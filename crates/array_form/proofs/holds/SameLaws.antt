-- Equal linear forms, as the program has them.
use Rattle.std.proofs.Common.{◌≡◌, refl, sym, ap, ◌∙◌, subst, ℕ, zero, suc, ◌==◌, ℤ, pos, negsuc, Bool, true, false, ◌&&◌, cond, List, [], ◌∷◌, take, drop, get_or, Option, Some, None}
use mathlib.Core.Path.{ap₂}
use Rattle.std.specs.Prelude.{nat_le}
use Rattle.std.specs.List.{list_all}
use Rattle.std.specs.Ordering.{int_eq}
use Rattle.std.proofs.lemmas.Bool.Decides.{Decides-eqb, Decides-int_eq}
use Rattle.std.proofs.lemmas.List.{take-append-drop}
use Rattle.subscripts.specs.declared.affine.Affine.{Affine}
use Rattle.linear_forms.specs.Affines.{IsAffineOf, IsFound}
use Rattle.linear_forms.specs.Linear.{Form, is_limited, is_small, all_small, limited, multiple, not_zero, sum}
use Rattle.array_form.proofs.TextLaws.{none_in, all_both}
use Rattle.array_form.proofs.holds.BoxLaws.{symbols_are}
use Rattle.array_form.specs.holds.Bounds.{is_same, is_zero_form}
use Rattle.array_form.specs.holds.Surroundings.{coefficients_from}

abbrev is_nought : ℤ → Bool
is_nought c = int_eq c (pos 0)

-- ---- lists of the same numbers, with 0 behind them

all_nought : (xs : List ℤ) → ((k : ℕ) → get_or xs k (pos 0) ≡ pos 0) → list_all is_nought xs ≡ true
all_nought [] h = refl
all_nought (x ∷ xs) h = ap₂ (λ a b. a && b) ((Decides-int_eq x (pos 0)).1 (h 0)) (all_nought xs (λ k. h (suc k)))

each_nought : (xs : List ℤ) → list_all is_nought xs ≡ true → (k : ℕ) → get_or xs k (pos 0) ≡ pos 0
each_nought [] h k = refl
each_nought (x ∷ xs) h k = by (is_nought x) refl (list_all is_nought xs) h (each_nought xs) k
  where
    by : (a : Bool) → is_nought x ≡ a → (b : Bool) → (a && b) ≡ true → (b ≡ true → (j : ℕ) → get_or xs j (pos 0) ≡ pos 0) → (k : ℕ) → get_or (x ∷ xs) k (pos 0) ≡ pos 0
    by true e b g more zero = (Decides-int_eq x (pos 0)).0 e
    by true e b g more (suc k) = more g k
    by false e b g more k = cc

either_way : (p q : Bool) → (p ≡ true → q ≡ true) → (q ≡ true → p ≡ true) → p ≡ q
either_way true q h k = sym (h refl)
either_way false true h k = k refl
either_way false false h k = refl

nought_alike : (xs ys : List ℤ) → ((k : ℕ) → get_or xs k (pos 0) ≡ get_or ys k (pos 0)) → list_all is_nought xs ≡ list_all is_nought ys
nought_alike xs ys h = either_way (list_all is_nought xs) (list_all is_nought ys)
    (λ e. all_nought ys (λ k. sym (h k) ∙ each_nought xs e k))
    (λ e. all_nought xs (λ k. h k ∙ each_nought ys e k))

-- ---- the form 0

split_zero : (n : ℕ) (cs : List ℤ) → (not_zero cs == 0) ≡ (list_all is_nought (take n cs) && (not_zero (drop n cs) == 0))
split_zero n cs =
    none_in cs ∙ (ap (list_all is_nought) (sym (take-append-drop n cs)) ∙ (all_both is_nought (take n cs) (drop n cs) ∙ ap (λ b. list_all is_nought (take n cs) && b) (sym (none_in (drop n cs)))))

abbrev zero_by : Bool → Bool → Bool → Bool
zero_by a b c = (a && b) && c

zero_is : (n : ℕ) (f : Form) (a : Affine) (r s : Bool) → IsAffineOf n f a → r ≡ list_all (λ c. int_eq c (pos 0)) a.loops → s ≡ list_all (λ c. int_eq c (pos 0)) (coefficients_from 0 a.syms)
    → is_zero_form f ≡ zero_by r s (int_eq a.constant (pos 0))
zero_is n f a r s h loops symbols =
    ap₂ (λ b z. b && int_eq z (pos 0)) (split_zero n f.coefficients ∙ ap₂ (λ b c. b && c) (sym (nought_alike a.loops (take n f.coefficients) h.loops) ∙ sym loops) (sym (symbols_are n f a s h symbols))) (sym h.constant)

pub zero_then : (n : ℕ) (f : Form) (a : Affine) (r s t : Bool) → IsAffineOf n f a → r ≡ list_all (λ c. int_eq c (pos 0)) a.loops → r ≡ true → s ≡ list_all (λ c. int_eq c (pos 0)) (coefficients_from 0 a.syms) → s ≡ true
    → t ≡ int_eq a.constant (pos 0) → t ≡ is_zero_form f
zero_then n f a r s t h loops so symbols too constant =
    constant ∙ sym (zero_is n f a r s h loops symbols ∙ ap₂ (λ b c. zero_by b c (int_eq a.constant (pos 0))) so too)

pub zero_not : (n : ℕ) (f : Form) (a : Affine) (r s : Bool) → IsAffineOf n f a → r ≡ list_all (λ c. int_eq c (pos 0)) a.loops → r ≡ true → s ≡ list_all (λ c. int_eq c (pos 0)) (coefficients_from 0 a.syms) → s ≡ false
    → false ≡ is_zero_form f
zero_not n f a r s h loops so symbols not_so =
    sym (zero_is n f a r s h loops symbols ∙ ap₂ (λ b c. zero_by b c (int_eq a.constant (pos 0))) so not_so)

pub zero_else : (n : ℕ) (f : Form) (a : Affine) (r : Bool) → IsAffineOf n f a → r ≡ list_all (λ c. int_eq c (pos 0)) a.loops → r ≡ false → false ≡ is_zero_form f
zero_else n f a r h loops not_so =
    sym (zero_is n f a r (list_all is_nought (coefficients_from 0 a.syms)) h loops refl ∙ ap (λ b. zero_by b (list_all is_nought (coefficients_from 0 a.syms)) (int_eq a.constant (pos 0))) not_so)

-- ---- a form past the limits isn't 0

small_nought : (cs : List ℤ) → list_all is_nought cs ≡ true → all_small cs ≡ true
small_nought [] h = refl
small_nought (c ∷ cs) h = by (is_nought c) refl (list_all is_nought cs) h (small_nought cs)
  where
    by : (a : Bool) → is_nought c ≡ a → (b : Bool) → (a && b) ≡ true → (b ≡ true → all_small cs ≡ true) → (is_small c && all_small cs) ≡ true
    by true e b g more = ap₂ (λ x y. x && y) (ap is_small ((Decides-int_eq c (pos 0)).0 e)) (more g)
    by false e b g more = cc

zero_limited : (n : ℕ) (f : Form) → is_zero_form f ≡ true → is_limited n f ≡ true
zero_limited n f h = by (not_zero f.coefficients == 0) refl (int_eq f.constant (pos 0)) refl h
  where
    by : (a : Bool) → (not_zero f.coefficients == 0) ≡ a → (b : Bool) → int_eq f.constant (pos 0) ≡ b → (a && b) ≡ true → is_limited n f ≡ true
    by true e true g k =
        let none : list_all is_nought f.coefficients ≡ true = sym (none_in f.coefficients) ∙ e in
        let behind : (not_zero (drop n f.coefficients) == 0) ≡ true = second (list_all is_nought (take n f.coefficients)) (not_zero (drop n f.coefficients) == 0) (sym (split_zero n f.coefficients) ∙ e) in
        ap₂ (λ x y. x && y) (small_nought f.coefficients none)
        (ap₂ (λ x y. x && y) (ap is_small ((Decides-int_eq f.constant (pos 0)).0 g)) (few (not_zero (drop n f.coefficients)) behind))
      where
        second : (x y : Bool) → (x && y) ≡ true → y ≡ true
        second true y q = q
        second false y q = cc

        few : (m : ℕ) → (m == 0) ≡ true → nat_le m 8 ≡ true
        few m q = ap (λ k. nat_le k 8) ((Decides-eqb m 0).0 q)
    by true e false g k = cc
    by false e b g k = cc

unlimited : (n : ℕ) (f : Form) → IsFound n (limited n (Some f)) None → is_zero_form f ≡ false
unlimited n f h = by (is_zero_form f) refl (is_limited n f) refl h
  where
    by : (a : Bool) → is_zero_form f ≡ a → (b : Bool) → is_limited n f ≡ b → IsFound n (cond b (Some f) None) None → is_zero_form f ≡ false
    by false e b g k = e
    by true e true g k = absurd k
    by true e false g k = absurd (let bad : false ≡ true = sym g ∙ zero_limited n f e in cc)

within_limits : (n : ℕ) (f : Form) (a : Affine) → IsFound n (limited n (Some f)) (Some a) → IsAffineOf n f a
within_limits n f a h = by (is_limited n f) h
  where
    by : (b : Bool) → IsFound n (cond b (Some f) None) (Some a) → IsAffineOf n f a
    by true k = k
    by false k = absurd k

-- ---- the second form is there

abbrev less : Form → Form → Form
less f g = sum f (multiple (negsuc 0) g)

pub no_other : (n : ℕ) (f : Form) (g : Option Form) (o : Option Affine) → o ≡ None → IsFound n g o → false ≡ is_same f g
no_other n f None o e h = refl
no_other n f (Some g) None e h = absurd h
no_other n f (Some g) (Some a) e h = cc

pub past_limits : (n : ℕ) (f : Form) (g : Option Form) (b : Affine) (o r : Option Affine) → o ≡ Some b → IsFound n g o
    → ((p : Form) → IsAffineOf n p b → IsFound n (limited n (Some (sum f (multiple (negsuc 0) p)))) r) → r ≡ None → false ≡ is_same f g
past_limits n f g b o r e h combined none = by g (subst (IsFound n g) e h)
  where
    by : (q : Option Form) → IsFound n q (Some b) → false ≡ is_same f q
    by None k = absurd k
    by (Some p) k = sym (unlimited n (less f p) (subst (λ x. IsFound n (limited n (Some (less f p))) x) none (combined p k)))

pub difference_is : (n : ℕ) (f : Form) (g : Option Form) (b d : Affine) (o r : Option Affine) (t : Bool) → o ≡ Some b → IsFound n g o
    → ((p : Form) → IsAffineOf n p b → IsFound n (limited n (Some (sum f (multiple (negsuc 0) p)))) r) → r ≡ Some d
    → ((p : Form) → IsAffineOf n p d → t ≡ is_zero_form p) → t ≡ is_same f g
difference_is n f g b d o r t e h combined some answer = by g (subst (IsFound n g) e h)
  where
    by : (q : Option Form) → IsFound n q (Some b) → t ≡ is_same f q
    by None k = absurd k
    by (Some p) k = answer (less f p) (within_limits n (less f p) d (subst (λ x. IsFound n (limited n (Some (less f p))) x) some (combined p k)))
