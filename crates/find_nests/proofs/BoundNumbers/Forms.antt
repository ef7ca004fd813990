-- The forms of a loop that keep the limits, by their numbers.
use mathlib.Core.Path.{ap₂}
use Rattle.std.proofs.Common.{◌≡◌, refl, sym, ap, ◌∙◌, ℕ, zero, suc, ◌+◌, ◌≤◌, ◌^◌, ℤ, pos, negsuc, ◌+ℤ◌, ◌-ℤ◌, ◌*ℤ◌, neg_ℤ, Bool, true, false, cond, ◌&&◌, List, [], ◌∷◌, ◌++◌, take, drop, arith}
use Rattle.std.specs.Prelude.{nat_abs, nat_le, int_div, int_le, ◌==◌}
use Rattle.std.specs.Ordering.{int_eq}
use Rattle.std.proofs.lemmas.Bool.{eqb-true, eq-eqb, le-leb}
use Rattle.std.proofs.lemmas.Bool.Decides.{Decides-int_eq}
use Rattle.std.proofs.lemmas.Int.{ints}
use Rattle.linear_forms.specs.Linear.{Form, weighted, number_at, sum, multiple, is_small, all_small, not_zero}
use Rattle.linear_forms.proofs.Sizes.{both}
use Rattle.find_nests.specs.bound_limits.Limits.{keeps_limits, plus_constant, difference, is_constant_form, dividend, folded, end_keeps_limits, all_keep_limits}
use Rattle.find_nests.specs.bound_limits.Numbers.{Quantity, ForAll, HasForm, with_trip, dividend_of, EndHasForm}
use Rattle.find_nests.proofs.BoundNumbers.Alike.{Ends, all_four, keeps_by_numbers, constant_number, always_constant, constant_always}
use Rattle.find_nests.proofs.BoundNumbers.Composing.{plus_number, sum_number, dividend_number}
use Rattle.find_nests.proofs.BoundNumbers.Rounds.{sum_ends, plus_ends}

dividend_ends : (k : ℕ) (step : ℤ) (first last : Form) → Ends k first → Ends k last → Ends k (dividend step first last)
dividend_ends k step first last a b = by (int_le (pos 0) step)
  where
    by : (t : Bool) → Ends k (cond t (plus_constant (difference last first) step) (plus_constant (difference first last) (neg_ℤ step)))
    by true = plus_ends k (difference last first) step (sum_ends k (negsuc 0) last first b a)
    by false = plus_ends k (difference first last) (neg_ℤ step) (sum_ends k (negsuc 0) first last a b)

-- ---- the trip as a symbol before the others, whose coefficient is the increment

abbrev pub Sized : ℤ → Type 0
Sized step = (1 ≤ nat_abs step) × (nat_abs step ≤ 2 ^ 31)

abbrev pub beside_trip : ℤ → Form → Form
beside_trip step f = record { coefficients = step ∷ f.coefficients; constant = f.constant }

trip_kept : (n : ℕ) (step : ℤ) (f : Form) → Sized step → keeps_limits n 1 f ≡ keeps_limits (suc n) 0 (beside_trip step f)
trip_kept n step f h =
    ap (λ k. all_small f.coefficients && (is_small f.constant && (nat_le k 8 && nat_le (not_zero (drop n f.coefficients)) 7))) one_more
    ∙ sym (ap₂ counted_with (le-leb (nat_abs step) (2 ^ 40) (omega (arith, h.1))) (other (int_eq step (pos 0)) refl))
  where
    one_more : not_zero (take n f.coefficients) + 1 ≡ suc (not_zero (take n f.coefficients)) + 0
    one_more = omega arith

    counted_with : Bool → Bool → Bool
    counted_with small none =
        (small && all_small f.coefficients)
        && (is_small f.constant && (nat_le (cond none (not_zero (take n f.coefficients)) (suc (not_zero (take n f.coefficients))) + 0) 8 && nat_le (not_zero (drop n f.coefficients)) 7))

    other : (b : Bool) → int_eq step (pos 0) ≡ b → b ≡ false
    other true e = (let none = ap nat_abs ((Decides-int_eq step (pos 0)).0 e) in let some = h.0 in absurd (omega (arith, none, some)))
    other false e = refl

-- ---- by forms that end, over n symbols and m loops

module _ (n m : ℕ) (step : ℤ) (first last : Form) (one : Ends (n + m) first) (two : Ends (n + m) last) (sized : Sized step) where
  abbrev top : Form
  top = dividend step first last

  abbrev of : Form → Quantity
  of f xs js = number_at f (xs ++ js)

  abbrev top_number : Quantity
  top_number xs js = dividend_of step (of first xs js) (of last xs js)

  top_is : (xs js : List ℤ) → top_number xs js ≡ of top xs js
  top_is xs js = dividend_number step first last (xs ++ js)

  abbrev Varies : Type 0
  Varies = (d : ℤ) → ForAll n m (λ xs js. top_number xs js ≡ d) → ⊥

  constant_known : is_constant_form top ≡ true → ForAll n m (λ xs js. top_number xs js ≡ top.constant)
  constant_known c xs js a b = top_is xs js ∙ constant_number top c (xs ++ js)

  known_constant : (d : ℤ) → ForAll n m (λ xs js. top_number xs js ≡ d) → (is_constant_form top ≡ true) × (top.constant ≡ d)
  known_constant d h =
      let always : ForAll n m (λ xs js. number_at top (xs ++ js) ≡ d) = λ xs js a b. sym (top_is xs js) ∙ h xs js a b in
      (constant_always n m top d always (dividend_ends (n + m) step first last one two), always_constant n m top d always)

  -- the last number of the variable
  abbrev by_cases : Bool → Bool → Bool
  by_cases c u =
      cond c (keeps_limits n 0 (plus_constant first (step *ℤ folded step top)))
      (cond u (keeps_limits n 0 (sum first (multiple step top))) (keeps_limits n 1 first))

  by_trip : ForAll (suc n) m (λ xs js. with_trip (λ t xs js. of first xs js +ℤ step *ℤ t) xs js ≡ number_at (beside_trip step first) (xs ++ js))
  by_trip [] js a b = absurd (omega (arith, a))
  by_trip (t ∷ xs) js a b = turned (weighted first.coefficients (xs ++ js)) first.constant (step *ℤ t)
    where
      turned : (w c s : ℤ) → (w +ℤ c) +ℤ s ≡ (s +ℤ w) +ℤ c
      turned w c s = omega (arith, ints)

  trip_ends : Ends (suc n + m) (beside_trip step first)
  trip_ends zero l = absurd (omega (arith, l))
  trip_ends (suc i) l = one i (omega (arith, l))

  end_has_form : end_keeps_limits n step first top ≡ true → EndHasForm n m step (of first) top_number
  end_has_form h = record {
    known = λ d always.
        let c = known_constant d always in
        record {
          form = plus_constant first (step *ℤ folded step top);
          is = λ xs js a b.
              ap (λ e. of first xs js +ℤ step *ℤ int_div e (pos (nat_abs step))) (sym c.1)
              ∙ sym (plus_number first (step *ℤ folded step top) (xs ++ js));
          kept = ap (λ t. by_cases t (nat_abs step == 1)) (sym c.0) ∙ h;
        };
    undivided = λ varies u. record {
      form = sum first (multiple step top);
      is = λ xs js a b. ap (λ z. of first xs js +ℤ step *ℤ z) (top_is xs js) ∙ sym (sum_number first top step (xs ++ js));
      kept = ap₂ by_cases (sym (changes varies)) (sym (eq-eqb (nat_abs step) 1 u)) ∙ h;
    };
    divided = λ varies u. record {
      form = beside_trip step first;
      is = by_trip;
      kept = sym (trip_kept n step first sized) ∙ (ap₂ by_cases (sym (changes varies)) (sym (other (nat_abs step) 1 u)) ∙ h);
    };
  }
    where
      changes : Varies → is_constant_form top ≡ false
      changes varies = by (is_constant_form top) refl
        where
          by : (c : Bool) → is_constant_form top ≡ c → c ≡ false
          by true e = absurd (varies top.constant (constant_known e))
          by false e = refl

      other : (a b : ℕ) → (a ≡ b → ⊥) → (a == b) ≡ false
      other a b u = by (a == b) refl
        where
          by : (c : Bool) → (a == b) ≡ c → c ≡ false
          by true e = absurd (u (eqb-true a b e))
          by false e = refl

  end_keeps : EndHasForm n m step (of first) top_number → end_keeps_limits n step first top ≡ true
  end_keeps h = by (is_constant_form top) refl (nat_abs step == 1) refl
    where
      varies : is_constant_form top ≡ false → Varies
      varies e d always = (let c = (known_constant d always).0 in let no = sym c ∙ e in cc)

      by : (c : Bool) → is_constant_form top ≡ c → (u : Bool) → (nat_abs step == 1) ≡ u → by_cases c u ≡ true
      by true e u g =
          keeps_by_numbers n m (plus_constant first (step *ℤ folded step top)) (λ xs js. of first xs js +ℤ step *ℤ int_div top.constant (pos (nat_abs step)))
          (plus_ends (n + m) first (step *ℤ folded step top) one)
          (λ xs js a b. sym (plus_number first (step *ℤ folded step top) (xs ++ js)))
          (h.known top.constant (constant_known e))
      by false e true g =
          keeps_by_numbers n m (sum first (multiple step top)) (λ xs js. of first xs js +ℤ step *ℤ top_number xs js)
          (sum_ends (n + m) step first top one (dividend_ends (n + m) step first last one two))
          (λ xs js a b. ap (λ z. of first xs js +ℤ step *ℤ z) (top_is xs js) ∙ sym (sum_number first top step (xs ++ js)))
          (h.undivided (varies e) (eqb-true (nat_abs step) 1 g))
      by false e false g =
          trip_kept n step first sized
          ∙ keeps_by_numbers (suc n) m (beside_trip step first) (with_trip (λ t xs js. of first xs js +ℤ step *ℤ t)) trip_ends by_trip
          (h.divided (varies e) (λ s. let no = sym (eq-eqb (nat_abs step) 1 s) ∙ g in cc))

  pub record HaveForms (q r : Quantity) : Type 0 where
    pub lower : HasForm n m q
    pub before : HasForm n m (λ xs js. q xs js -ℤ step)
    pub top : HasForm n m (λ xs js. dividend_of step (q xs js) (r xs js))
    pub end : EndHasForm n m step q (λ xs js. dividend_of step (q xs js) (r xs js))

  pub kept_have : all_keep_limits n step first last ≡ true → HaveForms (of first) (of last)
  kept_have h =
      let p = both (keeps_limits n 0 first) (keeps_limits n 0 (plus_constant first (neg_ℤ step)) && (keeps_limits n 0 top && end_keeps_limits n step first top)) h in
      let r = both (keeps_limits n 0 (plus_constant first (neg_ℤ step))) (keeps_limits n 0 top && end_keeps_limits n step first top) p.1 in
      let t = both (keeps_limits n 0 top) (end_keeps_limits n step first top) r.1 in
      record {
        lower = record { form = first; is = λ xs js a b. refl; kept = p.0 };
        before = record { form = plus_constant first (neg_ℤ step); is = λ xs js a b. sym (plus_number first (neg_ℤ step) (xs ++ js)); kept = r.0 };
        top = record { form = top; is = λ xs js a b. top_is xs js; kept = t.0 };
        end = end_has_form t.1;
      }

  pub have_kept : HaveForms (of first) (of last) → all_keep_limits n step first last ≡ true
  have_kept h = all_four (keeps_limits n 0 first) (keeps_limits n 0 (plus_constant first (neg_ℤ step))) (keeps_limits n 0 top) (end_keeps_limits n step first top)
      (keeps_by_numbers n m first (of first) one (λ xs js a b. refl) h.lower)
      (keeps_by_numbers n m (plus_constant first (neg_ℤ step)) (λ xs js. of first xs js -ℤ step) (plus_ends (n + m) first (neg_ℤ step) one)
      (λ xs js a b. sym (plus_number first (neg_ℤ step) (xs ++ js))) h.before)
      (keeps_by_numbers n m top top_number (dividend_ends (n + m) step first last one two) (λ xs js a b. top_is xs js) h.top)
      (end_keeps h.end)
