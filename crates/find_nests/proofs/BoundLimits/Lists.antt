-- Lists of coefficients, place by place.
use Rattle.std.proofs.Common.{◌≡◌, refl, sym, ap, ◌∙◌, subst, ℕ, zero, suc, ◌+◌, ◌-◌, ◌≤◌, ◌<◌, ◌≢◌, ℤ, pos, ◌+ℤ◌, ◌*ℤ◌, Bool, true, false, cond, ◌&&◌, List, [], ◌∷◌, ◌++◌, map, drop, length, get_or, replicate, append_assoc, drop-cons, length-drop, add-one, add-zero, arith}
use Rattle.std.specs.Prelude.{nat_abs, nat_eq, max}
use Rattle.std.specs.Ordering.{int_eq}
use Rattle.std.proofs.lemmas.Bool.{eqb-true, eq-eqb}
use Rattle.std.proofs.lemmas.Bool.Decides.{Decides-int_eq}
use Rattle.std.proofs.lemmas.Int.{ints}
use Rattle.std.proofs.lemmas.List.{append-nil}
use Rattle.std.proofs.Math.IntN.{*ℤ-zero, +ℤ_idl}
use Rattle.std.proofs.Math.ListN.{drop_of_length-le}
use Rattle.std.proofs.Math.Seq.{drop-nil}
use Rattle.linear_forms.specs.Linear.{added, is_small, all_small, not_zero}
use Rattle.linear_forms.specs.Places.{terms_from}
use Rattle.find_nests.specs.bound_limits.Composed.{filled}
use Rattle.find_nests.specs.bound_limits.Terms.{coefficient_at}

-- ---- sums

pub get_or-added : (cs ds : List ℤ) (j : ℕ) → get_or (added cs ds) j (pos 0) ≡ get_or cs j (pos 0) +ℤ get_or ds j (pos 0)
get_or-added [] ds j = sym (+ℤ_idl (get_or ds j (pos 0)))
get_or-added (c ∷ cs) [] j = omega (arith, ints)
get_or-added (c ∷ cs) (d ∷ ds) zero = refl
get_or-added (c ∷ cs) (d ∷ ds) (suc j) = get_or-added cs ds j

pub get_or-scaled : (k : ℤ) (ds : List ℤ) (j : ℕ) → get_or (map (λ d. k *ℤ d) ds) j (pos 0) ≡ k *ℤ get_or ds j (pos 0)
get_or-scaled k [] j = sym (*ℤ-zero k)
get_or-scaled k (d ∷ ds) zero = refl
get_or-scaled k (d ∷ ds) (suc j) = get_or-scaled k ds j

pub added-nil : (cs : List ℤ) → added cs [] ≡ cs
added-nil [] = refl
added-nil (c ∷ cs) = refl

add-none : (k c : ℤ) → c ≡ c +ℤ k *ℤ pos 0
add-none k c = let e = *ℤ-zero k in rw e (omega (arith, ints))

module _ (k : ℤ) where
  abbrev plus : List ℤ → List ℤ → List ℤ
  plus u v = added u (map (λ a. k *ℤ a) v)

  abbrev first : List ℤ → List ℤ → ℤ
  first u v = get_or u 0 (pos 0) +ℤ k *ℤ get_or v 0 (pos 0)

  -- one place, and then the others
  plus-step : (u v : List ℤ) → 0 < max (length u) (length v) → plus u v ≡ first u v ∷ plus (drop 1 u) (drop 1 v)
  plus-step [] [] h = absurd (omega arith)
  plus-step [] (y ∷ v) h = ap (λ x. x ∷ map (λ a. k *ℤ a) v) (sym (+ℤ_idl (k *ℤ y)))
  plus-step (x ∷ u) [] h = ap (λ z. z ∷ u) (add-none k x) ∙ ap (λ w. (x +ℤ k *ℤ pos 0) ∷ w) (sym (added-nil u))
  plus-step (x ∷ u) (y ∷ v) h = refl

drop-one : (j : ℕ) (xs : List ℤ) → drop 1 (drop j xs) ≡ drop (suc j) xs
drop-one zero [] = refl
drop-one zero (x ∷ xs) = refl
drop-one (suc j) [] = drop-nil 1
drop-one (suc j) (x ∷ xs) = drop-one j xs

get_or-front : (j : ℕ) (xs : List ℤ) → get_or (drop j xs) 0 (pos 0) ≡ get_or xs j (pos 0)
get_or-front zero xs = refl
get_or-front (suc j) [] = refl
get_or-front (suc j) (x ∷ xs) = get_or-front j xs

length-left : (j : ℕ) (xs ys : List ℤ) → j < max (length xs) (length ys) → 0 < max (length (drop j xs)) (length (drop j ys))
length-left j xs ys h = let first = length-drop j xs in let second = length-drop j ys in omega (arith, first, second, h)

-- what was added, and what is left to be added
pub one_added : (k : ℤ) (f g sum : List ℤ) (x : ℤ) (j : ℕ) → j < max (length f) (length g)
    → sum ++ added (drop j f) (map (λ a. k *ℤ a) (drop j g)) ≡ added f (map (λ a. k *ℤ a) g)
    → x ≡ get_or f j (pos 0) +ℤ k *ℤ get_or g j (pos 0)
    → (sum ++ x ∷ []) ++ added (drop (j + 1) f) (map (λ a. k *ℤ a) (drop (j + 1) g)) ≡ added f (map (λ a. k *ℤ a) g)
one_added k f g sum x j inside e is =
    ap (λ n. (sum ++ x ∷ []) ++ added (drop n f) (map (λ a. k *ℤ a) (drop n g))) (add-one j)
    ∙ append_assoc sum (x ∷ []) (added (drop (suc j) f) (map (λ a. k *ℤ a) (drop (suc j) g)))
    ∙ ap (λ l. sum ++ l) (sym whole) ∙ e
  where
    head : first k (drop j f) (drop j g) ≡ x
    head = ap (λ a. a +ℤ k *ℤ get_or (drop j g) 0 (pos 0)) (get_or-front j f) ∙ ap (λ a. get_or f j (pos 0) +ℤ k *ℤ a) (get_or-front j g) ∙ sym is

    whole : plus k (drop j f) (drop j g) ≡ x ∷ plus k (drop (suc j) f) (drop (suc j) g)
    whole =
        plus-step k (drop j f) (drop j g) (length-left j f g inside)
        ∙ ap (λ a. a ∷ plus k (drop 1 (drop j f)) (drop 1 (drop j g))) head
        ∙ ap (λ l. x ∷ plus k l (drop 1 (drop j g))) (drop-one j f)
        ∙ ap (λ l. x ∷ plus k (drop (suc j) f) l) (drop-one j g)

pub all_added : (k : ℤ) (f g sum : List ℤ) (j : ℕ) → max (length f) (length g) ≤ j
    → sum ++ added (drop j f) (map (λ a. k *ℤ a) (drop j g)) ≡ added f (map (λ a. k *ℤ a) g) → sum ≡ added f (map (λ a. k *ℤ a) g)
all_added k f g sum j past e =
    let none_f : drop j f ≡ [] = drop_of_length-le f (omega (arith, past)) in
    let none_g : drop j g ≡ [] = drop_of_length-le g (omega (arith, past)) in
    sym (append-nil sum) ∙ ap (λ l. sum ++ l) (sym (ap (λ l. plus k l (drop j g)) none_f ∙ ap (λ l. plus k [] l) none_g)) ∙ e

-- ---- limits

pub small_left : (list : List ℤ) (i : ℕ) (x : ℤ) → i < length list → x ≡ get_or list i x → all_small (drop i list) ≡ (is_small x && all_small (drop (i + 1) list))
small_left list i x h e =
    ap all_small (drop-cons list i x h) ∙ ap (λ a. is_small a && all_small (drop (suc i) list)) (sym e) ∙ ap (λ n. is_small x && all_small (drop n list)) (sym (add-one i))

pub not_zero_left : (list : List ℤ) (i : ℕ) (x : ℤ) → i < length list → x ≡ get_or list i x
    → not_zero (drop i list) ≡ cond (int_eq x (pos 0)) (not_zero (drop (i + 1) list)) (suc (not_zero (drop (i + 1) list)))
not_zero_left list i x h e =
    ap not_zero (drop-cons list i x h)
    ∙ ap (λ a. cond (int_eq a (pos 0)) (not_zero (drop (suc i) list)) (suc (not_zero (drop (suc i) list)))) (sym e)
    ∙ ap (λ n. cond (int_eq x (pos 0)) (not_zero (drop n list)) (suc (not_zero (drop n list)))) (sym (add-one i))

-- ---- coefficients of symbols

pub filled-snoc : (n : ℕ) (cs : List ℤ) → filled (n + 1) cs ≡ filled n cs ++ get_or cs n (pos 0) ∷ []
filled-snoc n cs = ap (λ m. filled m cs) (add-one n) ∙ by n cs
  where
    by : (n : ℕ) (cs : List ℤ) → filled (suc n) cs ≡ filled n cs ++ get_or cs n (pos 0) ∷ []
    by zero [] = refl
    by zero (c ∷ cs) = refl
    by (suc n) [] = ap (λ l. pos 0 ∷ l) (by n [])
    by (suc n) (c ∷ cs) = ap (λ l. c ∷ l) (by n cs)

abbrev unused : ℕ → List (ℕ × ℤ)
unused m = replicate m (0, pos 0)

coefficient-unused : (m p : ℕ) → coefficient_at (unused m) p ≡ pos 0
coefficient-unused zero p = refl
coefficient-unused (suc m) p = by (nat_eq 0 p) (coefficient-unused m p)
  where
    by : (b : Bool) → coefficient_at (unused m) p ≡ pos 0 → cond b (pos 0) (coefficient_at (unused m) p) ≡ pos 0
    by true e = refl
    by false e = e

other : (a b : ℕ) → a ≢ b → nat_eq a b ≡ false
other a b h = by (nat_eq a b) refl
  where
    by : (c : Bool) → nat_eq a b ≡ c → c ≡ false
    by true e = absurd (h (eqb-true a b e))
    by false e = refl

coefficient-before : (o : ℕ) (cs : List ℤ) (m p : ℕ) → p < o → coefficient_at (terms_from o cs ++ unused m) p ≡ pos 0
coefficient-before o [] m p h = coefficient-unused m p
coefficient-before o (c ∷ cs) m p h = by (int_eq c (pos 0)) (coefficient-before (suc o) cs m p (omega (arith, h)))
  where
    by : (b : Bool) → coefficient_at (terms_from (suc o) cs ++ unused m) p ≡ pos 0
        → coefficient_at (cond b (terms_from (suc o) cs) ((o, c) ∷ terms_from (suc o) cs) ++ unused m) p ≡ pos 0
    by true e = e
    by false e = ap (λ b. cond b c (coefficient_at (terms_from (suc o) cs ++ unused m) p)) (other o p (λ s. absurd (omega (arith, h, s)))) ∙ e

coefficient-from : (o : ℕ) (cs : List ℤ) (m p : ℕ) → coefficient_at (terms_from o cs ++ unused m) (o + p) ≡ get_or cs p (pos 0)
coefficient-from o [] m p = coefficient-unused m (o + p)
coefficient-from o (c ∷ cs) m zero = by (int_eq c (pos 0)) refl
  where
    here : o + 0 ≡ o
    here = add-zero o

    by : (b : Bool) → int_eq c (pos 0) ≡ b
        → coefficient_at (cond b (terms_from (suc o) cs) ((o, c) ∷ terms_from (suc o) cs) ++ unused m) (o + 0) ≡ c
    by true e = ap (coefficient_at (terms_from (suc o) cs ++ unused m)) here ∙ coefficient-before (suc o) cs m o (omega arith) ∙ sym ((Decides-int_eq c (pos 0)).0 e)
    by false e = ap (λ b. cond b c (coefficient_at (terms_from (suc o) cs ++ unused m) (o + 0))) (eq-eqb o (o + 0) (sym here))
coefficient-from o (c ∷ cs) m (suc p) = by (int_eq c (pos 0))
    (ap (coefficient_at (terms_from (suc o) cs ++ unused m)) there ∙ coefficient-from (suc o) cs m p)
  where
    there : o + suc p ≡ suc o + p
    there = omega arith

    by : (b : Bool) → coefficient_at (terms_from (suc o) cs ++ unused m) (o + suc p) ≡ get_or cs p (pos 0)
        → coefficient_at (cond b (terms_from (suc o) cs) ((o, c) ∷ terms_from (suc o) cs) ++ unused m) (o + suc p) ≡ get_or cs p (pos 0)
    by true e = e
    by false e = ap (λ b. cond b c (coefficient_at (terms_from (suc o) cs ++ unused m) (o + suc p))) (other o (o + suc p) (λ s. absurd (omega (arith, s)))) ∙ e

pub coefficient-padded : (cs : List ℤ) (m p : ℕ) → coefficient_at (terms_from 0 cs ++ unused m) p ≡ get_or cs p (pos 0)
coefficient-padded cs m p = ap (coefficient_at (terms_from 0 cs ++ unused m)) nothing ∙ coefficient-from 0 cs m p
  where
    nothing : p ≡ 0 + p
    nothing = omega arith

-- one coefficient more
pub one_filled : (cs : List ℤ) (terms : List (ℕ × ℤ)) (n : ℕ) (list new : List ℤ) (x : ℤ) → terms ≡ terms_from 0 cs ++ replicate (8 - length (terms_from 0 cs)) (0, pos 0)
    → list ≡ filled n cs → x ≡ coefficient_at terms n → new ≡ list ++ x ∷ [] → new ≡ filled (n + 1) cs
one_filled cs terms n list new x is before e now =
    now ∙ ap (λ l. l ++ x ∷ []) before
    ∙ ap (λ y. filled n cs ++ y ∷ []) (e ∙ ap (λ ts. coefficient_at ts n) is ∙ coefficient-padded cs (8 - length (terms_from 0 cs)) n)
    ∙ sym (filled-snoc n cs)

pub one_sized : (b : ℕ) (list new : List ℤ) (x : ℤ) → ((j : ℕ) → nat_abs (get_or list j (pos 0)) ≤ b) → nat_abs x ≤ b → new ≡ list ++ x ∷ []
    → (j : ℕ) → nat_abs (get_or new j (pos 0)) ≤ b
one_sized b list new x before h now j = subst (λ l. nat_abs (get_or l j (pos 0)) ≤ b) (sym now) (by list before j)
  where
    by : (list : List ℤ) → ((j : ℕ) → nat_abs (get_or list j (pos 0)) ≤ b) → (j : ℕ) → nat_abs (get_or (list ++ x ∷ []) j (pos 0)) ≤ b
    by [] g zero = h
    by [] g (suc j) = omega arith
    by (y ∷ list) g zero = g zero
    by (y ∷ list) g (suc j) = by list (λ i. g (suc i)) j
