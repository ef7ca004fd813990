-- The spans by corners are the spans.
use Rattle.std.proofs.Common.{◌≡◌, ◌≢◌, ℕ, zero, suc, ◌+◌, ◌*◌, ◌/◌, ◌<◌, ◌≤◌, ◌^◌, ◌⊎◌, inl, inr, refl, sym, ap, ◌∙◌, subst, arith, rules, Option, Some, None, Bool, true, false, not, ◌&&◌, ◌||◌, cond, List, [], ◌∷◌, ◌++◌, length, get_or, leb}
use Rattle.std.specs.Prelude.{ℤ, pos, negsuc, ◌+ℤ◌, ◌*ℤ◌, ◌≤ℤ◌, ◌<ℤ◌, int_div, All, Any, IsSomeAnd, IfSome, unsigned_abs, unwrap_or, is_none}
use Rattle.std.specs.List.{list_all, list_any, AllZip}
use Rattle.std.specs.Ordering.{int_eq}
use Rattle.std.proofs.Math.IntN.{neg_ℤ}
use native.Mathlib.Nat.{le_trans, mul-div-le, mul_comm}
use Rattle.std.proofs.Math.Nat.{mul-le-mul_left}
use Rattle.std.proofs.lemmas.Nat.{le-div}
use Rattle.std.proofs.lemmas.Bool.Decides.{Decides-int_eq}
use Rattle.std.proofs.lemmas.Bool.{and_from, and_parts, cases_Bool, cond-true, cond-false, or_parts, or_cases, leb-true, le-leb, lt-leb, cases_lt, false_from_ne_true, not_from_false, not-true}
use Rattle.std.proofs.lemmas.Int.{ints}
use Rattle.std.proofs.lemmas.List.Folds.{Any-from_list_any, list_any-from_Any}
use Rattle.std.proofs.lemmas.List.Elements.{All-head, All-tail, All-cons, All-nil}
use borrow.Author.Differences.{up, down, le_out}
use Rattle.subscripts.specs.Forms.{WithinSpans, over_loops, over_symbols, value_at}
use Rattle.subscripts.specs.Iterations.{WithinSpan}
use Rattle.subscripts.specs.Shapes.{IsSmall}
use Rattle.subscripts.specs.declared.affine.Span.{Span}
use Rattle.nest.specs.declared.parts.Trip.{Trip}
use Rattle.dependence_graph.specs.nest_graph.Instances.{turns_at}
use Rattle.dependence_graph.specs.nest_graph.Spans.{capped, corner, ends_at, ends_early, greatest_sum, greatest_trip, has_no_symbol, has_no_turn, has_constant_top, is_open, last_after, span_after}
use Rattle.dependence_graph.specs.loop_spans.Ends.{HasSmallEnd}
use Rattle.dependence_graph.specs.loop_spans.Greatest.{HasNoSymbol, IsConstant, IsGreatest, IsSpan, is_empty, no_values}

-- ---- tests

zero_is : (a : ℤ) → int_eq a (pos 0) ≡ true → a ≡ pos 0
zero_is a e = (Decides-int_eq a (pos 0)).0 e

is_zero : (a : ℤ) → a ≡ pos 0 → int_eq a (pos 0) ≡ true
is_zero a e = ap (λ z. int_eq z (pos 0)) e

all_hold : {A : Type 0} (p : A → Bool) (P : A → Type 0) (xs : List A) → ((x : A) → p x ≡ true → P x) → list_all p xs ≡ true → All P xs
all_hold p P [] f h = All-nil P
all_hold p P (x ∷ xs) f h = let k = and_parts (p x) (list_all p xs) h in All-cons P x xs (f x k.0) (all_hold p P xs f k.1)

all_pass : {A : Type 0} (p : A → Bool) (P : A → Type 0) (xs : List A) → ((x : A) → P x → p x ≡ true) → All P xs → list_all p xs ≡ true
all_pass p P [] f h = refl
all_pass p P (x ∷ xs) f h = and_from (p x) (list_all p xs) (f x (All-head P x xs h)) (all_pass p P xs f (All-tail P x xs h))

pub no_symbol_is : (t : Trip) → has_no_symbol t ≡ true → HasNoSymbol t
no_symbol_is t h = all_hold (λ (s : ℕ × ℤ). int_eq s.1 (pos 0)) (λ (s : ℕ × ℤ). s.1 ≡ pos 0) t.top.syms (λ s e. zero_is s.1 e) h

pub is_no_symbol : (t : Trip) → HasNoSymbol t → has_no_symbol t ≡ true
is_no_symbol t h = all_pass (λ (s : ℕ × ℤ). int_eq s.1 (pos 0)) (λ (s : ℕ × ℤ). s.1 ≡ pos 0) t.top.syms (λ s e. is_zero s.1 e) h

pub constant_is : (t : Trip) → has_constant_top t ≡ true → IsConstant t
constant_is t h =
    let k = and_parts (list_all (λ a. int_eq a (pos 0)) t.top.loops) (has_no_symbol t) h in
    record { loops = all_hold (λ a. int_eq a (pos 0)) (λ a. a ≡ pos 0) t.top.loops (λ a e. zero_is a e) k.0; symbols = no_symbol_is t k.1 }

pub is_constant_by : (t : Trip) → IsConstant t → has_constant_top t ≡ true
is_constant_by t h =
    and_from (list_all (λ a. int_eq a (pos 0)) t.top.loops) (has_no_symbol t)
    (all_pass (λ a. int_eq a (pos 0)) (λ a. a ≡ pos 0) t.top.loops (λ a e. is_zero a e) h.loops) (is_no_symbol t h.symbols)

-- ---- loops that all have ends, and turns

-- the end of a loop is at least 1
pub record HasEnd (s : Span) : Type 0 where
  pub last : ℤ
  pub is : s.last ≡ Some last
  pub least : pos 1 ≤ℤ last

abbrev pub AllEnd : List Span → Type 0
AllEnd [] = Unit {0}
AllEnd (s ∷ ss) = HasEnd s × AllEnd ss

none_of : (o : Option ℤ) → is_none o ≡ true → o ≡ None
none_of None e = refl
none_of (Some n) e = cc

early_is : (o : Option ℤ) → ends_early o ≡ true → IsSomeAnd o (λ n. n <ℤ pos 1)
early_is None e = cc
early_is (Some (pos zero)) e = omega (arith, ints)
early_is (Some (pos (suc n))) e = cc
early_is (Some (negsuc n)) e = omega (arith, ints)

is_early : (o : Option ℤ) → IsSomeAnd o (λ n. n <ℤ pos 1) → ends_early o ≡ true
is_early None h = absurd h
is_early (Some (pos zero)) h = refl
is_early (Some (pos (suc n))) h = absurd (omega (arith, ints))
is_early (Some (negsuc n)) h = refl

late_is : (o : Option ℤ) (s : Span) → s.last ≡ o → is_none o ≡ false → ends_early o ≡ false → HasEnd s
late_is None s e h k = cc
late_is (Some (pos zero)) s e h k = cc
late_is (Some (pos (suc n))) s e h k = record { last = pos (suc n); is = e; least = omega (arith, ints) }
late_is (Some (negsuc n)) s e h k = cc

pub all_end : (ss : List Span) → list_any is_open ss ≡ false → list_any has_no_turn ss ≡ false → AllEnd ss
all_end [] h k = tt
all_end (s ∷ ss) h k =
    let a = or_parts (is_open s) (list_any is_open ss) h in let b = or_parts (has_no_turn s) (list_any has_no_turn ss) k in
    (late_is s.last s refl a.0 b.0, all_end ss a.1 b.1)

any_at : {A : Type 0} (p : A → Bool) (P : A → Type 0) (xs : List A) → ((x : A) → p x ≡ true → P x) → list_any p xs ≡ true → Any P xs
any_at p P xs f h =
    let a = Any-from_list_any p xs h in
    (a.0, a.1, a.2, a.3, f a.1 a.4)

at_any : {A : Type 0} (p : A → Bool) (P : A → Type 0) (xs : List A) → ((x : A) → P x → p x ≡ true) → Any P xs → list_any p xs ≡ true
at_any p P xs f a = list_any-from_Any p xs (a.0, a.1, a.2, a.3, f a.1 a.4)

open_is : (ss : List Span) → list_any is_open ss ≡ true → Any (λ o. o.last ≡ None) ss
open_is ss h = any_at is_open (λ (o : Span). o.last ≡ None) ss (λ s e. none_of s.last e) h

is_open_by : (ss : List Span) → Any (λ o. o.last ≡ None) ss → list_any is_open ss ≡ true
is_open_by ss h = at_any is_open (λ (o : Span). o.last ≡ None) ss (λ s e. ap is_none e) h

empty_is : (ss : List Span) → list_any has_no_turn ss ≡ true → Any is_empty ss
empty_is ss h = any_at has_no_turn is_empty ss (λ s e. early_is s.last e) h

is_empty_by : (ss : List Span) → Any is_empty ss → list_any has_no_turn ss ≡ true
is_empty_by ss h = at_any has_no_turn is_empty ss (λ s e. is_early s.last e) h

-- ---- the greatest sum

-- a factor that isn't negative keeps the order, and one that isn't positive turns it
up_times : (a : ℕ) (x y : ℤ) → x ≤ℤ y → (pos a *ℤ x) ≤ℤ (pos a *ℤ y)
up_times a x y h =
    let e : a * (up x + down y) ≤ a * (up y + down x) = mul-le-mul_left a (le_out x y h) in
    omega (arith, ints)

down_times : (a : ℕ) (x y : ℤ) → x ≤ℤ y → (negsuc a *ℤ y) ≤ℤ (negsuc a *ℤ x)
down_times a x y h =
    let e : suc a * (up x + down y) ≤ suc a * (up y + down x) = mul-le-mul_left (suc a) (le_out x y h) in
    omega (arith, ints)

within_last : (o : Option ℤ) (x n : ℤ) → o ≡ Some n → IfSome o (λ m. x ≤ℤ m) → x ≤ℤ n
within_last None x n e h = cc
within_last (Some m) x n e h = let f : m ≡ n = cc in subst (λ z. x ≤ℤ z) f h

at_last : (o : Option ℤ) (n d : ℤ) → o ≡ Some n → unwrap_or o d ≡ n
at_last None n d e = cc
at_last (Some m) n d e = cc

of_last : (o : Option ℤ) (n x : ℤ) → o ≡ Some n → x ≤ℤ n → IfSome o (λ m. x ≤ℤ m)
of_last None n x e h = tt
of_last (Some m) n x e h = let f : n ≡ m = cc in subst (λ z. x ≤ℤ z) f h

-- no iteration gives more than the corner
at_corner : (a : ℤ) (s : Span) (x : ℤ) → HasEnd s → WithinSpan s x → (a *ℤ x) ≤ℤ (a *ℤ corner a s)
at_corner (pos a) s x e w =
    let f : unwrap_or s.last (pos 1) ≡ e.last = at_last s.last e.last (pos 1) e.is in
    subst (λ z. (pos a *ℤ x) ≤ℤ (pos a *ℤ z)) (sym f) (up_times a x e.last (within_last s.last x e.last e.is w.high))
at_corner (negsuc a) s x e w = down_times a (pos 1) x w.low

corner_within : (a : ℤ) (s : Span) → HasEnd s → WithinSpan s (corner a s)
corner_within (pos a) s e =
    let f : unwrap_or s.last (pos 1) ≡ e.last = at_last s.last e.last (pos 1) e.is in
    record { low = subst (λ z. pos 1 ≤ℤ z) (sym f) e.least; high = of_last s.last e.last _ e.is (subst (λ z. z ≤ℤ e.last) (sym f) (omega (arith, ints))) }
corner_within (negsuc a) s e = record { low = omega (arith, ints); high = of_last s.last e.last (pos 1) e.is e.least }

corners : List ℤ → List Span → List ℤ
corners as' [] = []
corners [] (s ∷ ss) = pos 1 ∷ corners [] ss
corners (a ∷ as') (s ∷ ss) = corner a s ∷ corners as' ss

first_within : (s : Span) → HasEnd s → WithinSpan s (pos 1)
first_within s e = record { low = omega (arith, ints); high = of_last s.last e.last (pos 1) e.is e.least }

corners_within : (as' : List ℤ) (ss : List Span) → AllEnd ss → WithinSpans ss (corners as' ss)
unfolding corners
corners_within as' [] h = tt
corners_within [] (s ∷ ss) h = (first_within s h.0, corners_within [] ss h.1)
corners_within (a ∷ as') (s ∷ ss) h = (corner_within a s h.0, corners_within as' ss h.1)

corners_sum : (as' : List ℤ) (ss : List Span) → over_loops as' (corners as' ss) ≡ greatest_sum as' ss
unfolding corners
corners_sum [] ss = refl
corners_sum (a ∷ as') [] = refl
corners_sum (a ∷ as') (s ∷ ss) = ap (λ z. a *ℤ corner a s +ℤ z) (corners_sum as' ss)

sum_most : (as' : List ℤ) (ss : List Span) (xs : List ℤ) → AllEnd ss → WithinSpans ss xs → over_loops as' xs ≤ℤ greatest_sum as' ss
sum_most [] ss xs h w = omega (arith, ints)
sum_most (a ∷ as') [] [] h w = omega (arith, ints)
sum_most (a ∷ as') [] (x ∷ xs) h w = absurd w
sum_most (a ∷ as') (s ∷ ss) [] h w = absurd w
sum_most (a ∷ as') (s ∷ ss) (x ∷ xs) h w =
    let e1 = at_corner a s x h.0 w.0 in let e2 = sum_most as' ss xs h.1 w.1 in
    omega (arith, ints)

-- ---- the greatest trip

zero_times : (z : ℤ) → pos 0 *ℤ z ≡ pos 0
zero_times z = omega (arith, ints)

pub no_symbols : (ts : List (ℕ × ℤ)) (v : ℕ → ℤ) → All (λ (s : ℕ × ℤ). s.1 ≡ pos 0) ts → over_symbols ts v ≡ pos 0
no_symbols [] v h = refl
no_symbols (t ∷ ts) v h =
    ap (λ z. z *ℤ v t.0 +ℤ over_symbols ts v) (All-head (λ (s : ℕ × ℤ). s.1 ≡ pos 0) t ts h)
    ∙ ap (λ z. z +ℤ over_symbols ts v) (zero_times (v t.0))
    ∙ ap (λ z. pos 0 +ℤ z) (no_symbols ts v (All-tail (λ (s : ℕ × ℤ). s.1 ≡ pos 0) t ts h))

no_loops : (as' x : List ℤ) → All (λ a. a ≡ pos 0) as' → over_loops as' x ≡ pos 0
no_loops [] x h = refl
no_loops (a ∷ as') [] h = refl
no_loops (a ∷ as') (i ∷ x) h =
    ap (λ z. z *ℤ i +ℤ over_loops as' x) (All-head (λ a. a ≡ pos 0) a as' h)
    ∙ ap (λ z. z +ℤ over_loops as' x) (zero_times i)
    ∙ ap (λ z. pos 0 +ℤ z) (no_loops as' x (All-tail (λ a. a ≡ pos 0) a as' h))

by_one : (d : ℤ) → pos 1 ≤ℤ d → (k : ℕ) × (d ≡ pos (suc k))
by_one (pos zero) h = absurd (omega (arith, ints))
by_one (pos (suc k)) h = (k, refl)
by_one (negsuc k) h = absurd (omega (arith, ints))

div-le-div : (a b k : ℕ) → 0 < k → a ≤ b → a / k ≤ b / k
div-le-div a b k p l = le-div (a / k) b k p (subst (λ v. v ≤ b) (mul_comm k (a / k)) (le_trans (mul-div-le a k) l))

div_monotone_by : (a b : ℤ) (k : ℕ) → a ≤ℤ b → int_div a (pos (suc k)) ≤ℤ int_div b (pos (suc k))
div_monotone_by (pos a) (pos b) k h = let e : a / suc k ≤ b / suc k = div-le-div _ _ (suc k) (omega arith) (omega (arith, ints)) in omega (arith, ints)
div_monotone_by (pos a) (negsuc b) k h = absurd (omega (arith, ints))
div_monotone_by (negsuc a) (pos b) k h = omega (arith, ints)
div_monotone_by (negsuc a) (negsuc b) k h = let e : suc b / suc k ≤ suc a / suc k = div-le-div _ _ (suc k) (omega arith) (omega (arith, ints)) in omega (arith, ints)

div_monotone : (a b d : ℤ) → pos 1 ≤ℤ d → a ≤ℤ b → int_div a d ≤ℤ int_div b d
div_monotone a b d h k =
    let p = by_one d h in
    subst (λ z. int_div a z ≤ℤ int_div b z) (sym p.1) (div_monotone_by a b p.0 k)

-- without symbols, what a trip is worth
trip_at : (t : Trip) (v : ℕ → ℤ) (x : List ℤ) → HasNoSymbol t → turns_at t v x ≡ int_div (over_loops t.top.loops x +ℤ t.top.constant) t.by
trip_at t v x h =
    ap (λ z. int_div (over_loops t.top.loops x +ℤ (z +ℤ t.top.constant)) t.by) (no_symbols t.top.syms v h)
    ∙ ap (λ z. int_div (over_loops t.top.loops x +ℤ z) t.by) (zero_plus t.top.constant)
  where
    zero_plus : (z : ℤ) → pos 0 +ℤ z ≡ z
    zero_plus z = omega (arith, ints)

-- whatever the symbols are
pub same_trip : (t : Trip) (v : ℕ → ℤ) (x : List ℤ) → HasNoSymbol t → turns_at t v x ≡ turns_at t no_values x
same_trip t v x h = trip_at t v x h ∙ sym (trip_at t no_values x h)

pub constant_at : (t : Trip) (v : ℕ → ℤ) (x : List ℤ) → IsConstant t → turns_at t v x ≡ int_div t.top.constant t.by
constant_at t v x h =
    trip_at t v x h.symbols
    ∙ ap (λ z. int_div (z +ℤ t.top.constant) t.by) (no_loops t.top.loops x h.loops)
    ∙ ap (λ z. int_div z t.by) (zero_plus t.top.constant)
  where
    zero_plus : (z : ℤ) → pos 0 +ℤ z ≡ z
    zero_plus z = omega (arith, ints)

plus_right : (a b c : ℤ) → a ≤ℤ b → (a +ℤ c) ≤ℤ (b +ℤ c)
plus_right a b c h = omega (arith, ints)

pub is_greatest : (outer : List Span) (t : Trip) → pos 1 ≤ℤ t.by → HasNoSymbol t → AllEnd outer → IsGreatest outer t (greatest_trip outer t)
is_greatest outer t p h e = record {
  at = corners t.top.loops outer;
  within = corners_within t.top.loops outer e;
  reached = trip_at t no_values (corners t.top.loops outer) h
      ∙ ap (λ z. int_div (z +ℤ t.top.constant) t.by) (corners_sum t.top.loops outer);
  no_greater = λ x w. subst (λ z. z ≤ℤ greatest_trip outer t) (sym (trip_at t no_values x h))
      (div_monotone _ _ t.by p (plus_right _ _ t.top.constant (sum_most t.top.loops outer x e w)));
}

only_greatest : (outer : List Span) (t : Trip) (m n : ℤ) → IsGreatest outer t m → IsGreatest outer t n → m ≡ n
only_greatest outer t m n a b =
    let e1 : m ≤ℤ n = subst (λ z. z ≤ℤ n) a.reached (b.no_greater a.at a.within) in
    let e2 : n ≤ℤ m = subst (λ z. z ≤ℤ m) b.reached (a.no_greater b.at b.within) in
    omega (arith, ints)

-- ---- spans

capped_negative : (m : ℤ) → m <ℤ pos 0 → capped m ≡ Some (pos 0)
capped_negative (pos n) h = absurd (omega (arith, ints))
capped_negative (negsuc n) h = refl

capped_small : (m : ℤ) → pos 0 ≤ℤ m → m ≤ℤ pos (2 ^ 40) → capped m ≡ Some m
capped_small (pos n) h k = let e : n ≤ 2 ^ 40 = omega (arith, ints) in cond-true (leb n (2 ^ 40)) (Some (pos n)) None (le-leb n (2 ^ 40) e)
capped_small (negsuc n) h k = absurd (omega (arith, ints))

capped_great : (m : ℤ) → pos (2 ^ 40) <ℤ m → capped m ≡ None
capped_great (pos n) h = let e : 2 ^ 40 < n = omega (arith, ints) in cond-false (leb n (2 ^ 40)) (Some (pos n)) None (lt-leb n (2 ^ 40) e)
capped_great (negsuc n) h = absurd (omega (arith, ints))

record IsVarying (t : Trip) : Type 0 where
  varying : has_constant_top t ≡ false
  symbols : has_no_symbol t ≡ true

not_constant : (t : Trip) → (IsConstant t → ⊥) → has_constant_top t ≡ false
not_constant t h = false_from_ne_true (has_constant_top t) (λ e. h (constant_is t e))

pub at_varying : (outer : List Span) (t : Trip) → has_constant_top t ≡ false → span_after outer t ≡ ends_at (last_after outer t)
at_varying outer t h = cond-false (has_constant_top t) _ _ h

pub last_open_trip : (outer : List Span) (t : Trip) → has_no_symbol t ≡ false → last_after outer t ≡ None
last_open_trip outer t h = cond-false (has_no_symbol t && not (list_any is_open outer)) _ _ (ap (λ b. b && not (list_any is_open outer)) h)

pub last_open_loop : (outer : List Span) (t : Trip) → list_any is_open outer ≡ true → last_after outer t ≡ None
last_open_loop outer t h = cond-false (has_no_symbol t && not (list_any is_open outer)) _ _ (ap (λ b. has_no_symbol t && not b) h ∙ none (has_no_symbol t))
  where
    none : (b : Bool) → (b && false) ≡ false
    none true = refl
    none false = refl

pub last_closed : (outer : List Span) (t : Trip) → has_no_symbol t ≡ true → list_any is_open outer ≡ false
    → last_after outer t ≡ cond (list_any has_no_turn outer) (Some (pos 0)) (capped (greatest_trip outer t))
last_closed outer t h k =
    cond-true (has_no_symbol t && not (list_any is_open outer)) _ _ (and_from (has_no_symbol t) (not (list_any is_open outer)) h (not_from_false (list_any is_open outer) k))

not_open : (ss : List Span) → (Any (λ o. o.last ≡ None) ss → ⊥) → list_any is_open ss ≡ false
not_open ss h = false_from_ne_true (list_any is_open ss) (λ e. h (open_is ss e))

no_symbol_not : (t : Trip) → (HasNoSymbol t → ⊥) → has_no_symbol t ≡ false
no_symbol_not t h = false_from_ne_true (has_no_symbol t) (λ e. h (no_symbol_is t e))

symbol_varies : (t : Trip) → has_no_symbol t ≡ false → has_constant_top t ≡ false
symbol_varies t h = false_from_ne_true (has_constant_top t) (λ e. let k = and_parts (list_all (λ a. int_eq a (pos 0)) t.top.loops) (has_no_symbol t) e in absurd_of k.1 h)
  where
    absurd_of : {b : Bool} → b ≡ true → b ≡ false → ⊥
    absurd_of e f = cc

early : (o : Option ℤ) (x : ℤ) → ends_early o ≡ true → pos 1 ≤ℤ x → IfSome o (λ n. x ≤ℤ n) → ⊥
early None x e l h = cc
early (Some (pos zero)) x e l h = omega (arith, ints)
early (Some (pos (suc n))) x e l h = cc
early (Some (negsuc n)) x e l h = omega (arith, ints)

-- no iterations are within spans of which one is empty
pub none_within : (ss : List Span) (xs : List ℤ) → list_any has_no_turn ss ≡ true → WithinSpans ss xs → ⊥
none_within [] xs e w = cc
none_within (s ∷ ss) [] e w = w
none_within (s ∷ ss) (x ∷ xs) e w =
    elim (or_cases (has_no_turn s) (list_any has_no_turn ss) e) [
      | inl h ↦ early s.last x h w.0.low w.0.high
      | inr h ↦ none_within ss xs h w.1
    ]

greatest_ends : (outer : List Span) (t : Trip) (m : ℤ) → IsGreatest outer t m → list_any has_no_turn outer ≡ false
greatest_ends outer t m g = false_from_ne_true (list_any has_no_turn outer) (λ e. none_within outer g.at e g.within)

at_greatest : (outer : List Span) (t : Trip) (m : ℤ) → pos 1 ≤ℤ t.by → (IsConstant t → ⊥) → HasNoSymbol t → (Any (λ o. o.last ≡ None) outer → ⊥)
    → IsGreatest outer t m → span_after outer t ≡ ends_at (capped m)
at_greatest outer t m p h k o g =
    let e1 = not_open outer o in let e2 = greatest_ends outer t m g in
    let e3 : greatest_trip outer t ≡ m = only_greatest outer t _ m (is_greatest outer t p k (all_end outer e1 e2)) g in
    at_varying outer t (not_constant t h)
    ∙ ap ends_at (last_closed outer t (is_no_symbol t k) e1 ∙ cond-false (list_any has_no_turn outer) _ _ e2 ∙ ap capped e3)

pub span_is : (outer : List Span) (t : Trip) → pos 1 ≤ℤ t.by → IsSpan outer t (span_after outer t)
span_is outer t p = record {
  constant = λ h. cond-true (has_constant_top t) _ _ (is_constant_by t h);
  open_trip = λ h. let e = no_symbol_not t h in at_varying outer t (symbol_varies t e) ∙ ap ends_at (last_open_trip outer t e);
  open_loop = λ h a. at_varying outer t (not_constant t h) ∙ ap ends_at (last_open_loop outer t (is_open_by outer a));
  empty = λ h k o a. at_varying outer t (not_constant t h)
      ∙ ap ends_at (last_closed outer t (is_no_symbol t k) (not_open outer o) ∙ cond-true (list_any has_no_turn outer) _ _ (is_empty_by outer a));
  negative = λ m h k o g n. at_greatest outer t m p h k o g ∙ ap ends_at (capped_negative m n);
  greatest = λ m h k o g n l. at_greatest outer t m p h k o g ∙ ap ends_at (capped_small m n l);
  too_great = λ m h k o g n. at_greatest outer t m p h k o g ∙ ap ends_at (capped_great m n);
}

-- there is one alone
pub span_unique : (outer : List Span) (t : Trip) (s : Span) → pos 1 ≤ℤ t.by → IsSpan outer t s → s ≡ span_after outer t
span_unique outer t s p h =
    let this = span_is outer t p in
    elim (cases_Bool (has_constant_top t)) [
      | inl c ↦ let k = constant_is t c in h.constant k ∙ sym (this.constant k)
      | inr c ↦ let varies : IsConstant t → ⊥ = λ k. differ (has_constant_top t) (is_constant_by t k) c in
          elim (cases_Bool (has_no_symbol t)) [
            | inr n ↦ let k : HasNoSymbol t → ⊥ = λ k. differ (has_no_symbol t) (is_no_symbol t k) n in h.open_trip k ∙ sym (this.open_trip k)
            | inl n ↦ elim (cases_Bool (list_any is_open outer)) [
              | inl o ↦ let k = open_is outer o in h.open_loop varies k ∙ sym (this.open_loop varies k)
              | inr o ↦ let k = no_symbol_is t n in let closed : Any (λ o. o.last ≡ None) outer → ⊥ = λ a. differ (list_any is_open outer) (is_open_by outer a) o in
                  elim (cases_Bool (list_any has_no_turn outer)) [
                    | inl e ↦ let a = empty_is outer e in h.empty varies k closed a ∙ sym (this.empty varies k closed a)
                    | inr e ↦ let g = is_greatest outer t p k (all_end outer o e) in
                        elim (order (greatest_trip outer t)) [
                          | inl n ↦ h.negative _ varies k closed g n ∙ sym (this.negative _ varies k closed g n)
                          | inr w ↦ elim w [
                            | inl n ↦ h.greatest _ varies k closed g n.0 n.1 ∙ sym (this.greatest _ varies k closed g n.0 n.1)
                            | inr n ↦ h.too_great _ varies k closed g n ∙ sym (this.too_great _ varies k closed g n)
                          ]
                        ]
                  ]
            ]
          ]
    ]
  where
    differ : (b : Bool) → b ≡ true → b ≡ false → ⊥
    differ b e f = cc

    order : (m : ℤ) → (m <ℤ pos 0) ⊎ (((pos 0 ≤ℤ m) × (m ≤ℤ pos (2 ^ 40))) ⊎ (pos (2 ^ 40) <ℤ m))
    order (negsuc n) = inl (omega (arith, ints))
    order (pos n) = elim (cases_lt (2 ^ 40) n) [
      | inl h ↦ inr (inr (omega (arith, ints)))
      | inr h ↦ inr (inl (omega (arith, ints), omega (arith, ints)))
    ]

-- a fixed span is that of a constant trip
pub fixed_is_constant : (outer : List Span) (t : Trip) (s : Span) → pos 1 ≤ℤ t.by → IsSpan outer t s → s.fixed ≡ true → IsConstant t
fixed_is_constant outer t s p h f =
    elim (cases_Bool (has_constant_top t)) [
      | inl c ↦ constant_is t c
      | inr c ↦ absurd (differ (ap (λ (z : Span). z.fixed) (sym (span_unique outer t s p h ∙ at_varying outer t c)) ∙ f))
    ]
  where
    differ : false ≡ true → ⊥
    differ e = cc

pub is_span_by : (outer : List Span) (t : Trip) (s : Span) → pos 1 ≤ℤ t.by → s ≡ span_after outer t → IsSpan outer t s
is_span_by outer t s p e = subst (λ z. IsSpan outer t z) (sym e) (span_is outer t p)
