-- The order of loops, place by place.
use Rattle.std.proofs.Common.{◌≡◌, refl, sym, ap, ◌∙◌, subst, ◌⊎◌, inl, inr, ℕ, zero, suc, ◌+◌, ◌-◌, ◌<◌, ◌≤◌, Bool, true, false, ◌||◌, not, ◌==◌, cond, Option, Some, None, List, [], ◌∷◌, ◌++◌, length, take, drop, arith}
use Rattle.std.specs.Prelude.{slice_index}
use Rattle.std.proofs.lemmas.Bool.Decides.{Decides-eqb}
use Rattle.std.specs.List.{find, fold, insert, list_any, range_with_len, remove}
use Rattle.subscripts.specs.declared.affine.Dirs.{Dirs}
use Rattle.subscripts.specs.declared.affine.Span.{Span}
use Rattle.components.specs.Lists.{IsMember}
use Rattle.nest.specs.declared.parts.Trip.{Trip}
use Rattle.interchange.specs.Arranged.{is_changed}
use Rattle.interchange.specs.Orders.{carries, is_fit, moved, moved_if_found, settled_at_place}

-- ---- numbers in a row

pub range_more : (a n : ℕ) → range_with_len a (n + 1) ≡ range_with_len a n ++ (a + n) ∷ []
range_more a zero = ap (λ z. z ∷ []) (let e : a ≡ a + 0 = omega arith in e)
range_more a (suc n) =
    ap (range_with_len a) (let f : suc n + 1 ≡ suc (n + 1) = omega arith in f)
    ∙ ap (λ zs. a ∷ zs) (range_more (a + 1) n ∙ ap (λ z. range_with_len (a + 1) n ++ z ∷ []) (let e : a + 1 + n ≡ a + suc n = omega arith in e))

pub range_split : (a m n : ℕ) → range_with_len a (m + n) ≡ range_with_len a m ++ range_with_len (a + m) n
range_split a zero n = ap (range_with_len a) (let f : 0 + n ≡ n = omega arith in f) ∙ ap (λ z. range_with_len z n) (let e : a ≡ a + 0 = omega arith in e)
range_split a (suc m) n =
    ap (range_with_len a) (let f : suc m + n ≡ suc (m + n) = omega arith in f)
    ∙ ap (λ zs. a ∷ zs) (range_split (a + 1) m n ∙ ap (λ z. range_with_len (a + 1) m ++ range_with_len z n) (let e : a + 1 + m ≡ a + suc m = omega arith in e))

pub range_length : (a n : ℕ) → length (range_with_len a n) ≡ n
range_length a zero = refl
range_length a (suc n) = ap suc (range_length (a + 1) n)

pub range_inside : (a n q : ℕ) → IsMember q (range_with_len a n) → (a ≤ q) × (q < a + n)
range_inside a zero q i = absurd i
range_inside a (suc n) q (inl e) = (omega arith, omega arith)
range_inside a (suc n) q (inr i) = let h = range_inside (a + 1) n q i in (omega arith, omega arith)

-- ---- the first that passes

pub find_more : {X : Type 0} (test : X → Bool) (xs ys : List X) → find test xs ≡ None → find test (xs ++ ys) ≡ find test ys
find_more test [] ys e = refl
find_more test (x ∷ xs) ys e = by (test x) refl e (λ f. find_more test xs ys f)
  where
    some_none : {A : Type 0} (a : A) → ◌≡◌ {A = Option A} (Some a) None → ⊥
    some_none a e = cc

    by : (b : Bool) → test x ≡ b → cond b (Some x) (find test xs) ≡ None → (find test xs ≡ None → find test (xs ++ ys) ≡ find test ys)
        → cond (test x) (Some x) (find test (xs ++ ys)) ≡ find test ys
    by true f e more = absurd (some_none x e)
    by false f e more = ap (λ b. cond b (Some x) (find test (xs ++ ys))) f ∙ more e

pub found_in : {X : Type 0} (test : X → Bool) (xs : List X) (x : X) → find test xs ≡ Some x → IsMember x xs
found_in test [] x e = absurd (none_some x e)
  where
    none_some : {A : Type 0} (a : A) → ◌≡◌ {A = Option A} None (Some a) → ⊥
    none_some a e = cc
found_in test (y ∷ xs) x e = by (test y) e (λ f. found_in test xs x f)
  where
    some_same : {A : Type 0} (a b : A) → ◌≡◌ {A = Option A} (Some a) (Some b) → a ≡ b
    some_same a b e = cc

    by : (b : Bool) → cond b (Some y) (find test xs) ≡ Some x → (find test xs ≡ Some x → IsMember x xs) → IsMember x (y ∷ xs)
    by true e more = inl (sym (some_same y x e))
    by false e more = inr (more e)

module _ (test : ℕ → Bool) (to : ℕ) where
  abbrev behind : ℕ → List ℕ
  behind from = range_with_len (to + 1) (from - (to + 1))

  pub none_at_first : find test (behind (to + 1)) ≡ None
  none_at_first = ap (λ n. find test (range_with_len (to + 1) n)) (let e : to + 1 - (to + 1) ≡ 0 = omega arith in e)

  one_behind : (from : ℕ) → to + 1 ≤ from → behind (from + 1) ≡ behind from ++ from ∷ []
  one_behind from h =
      ap (range_with_len (to + 1)) (let e : from + 1 - (to + 1) ≡ (from - (to + 1)) + 1 = omega arith in e)
      ∙ (range_more (to + 1) (from - (to + 1)) ∙ ap (λ z. behind from ++ z ∷ []) (let e : to + 1 + (from - (to + 1)) ≡ from = omega arith in e))

  none_more : (from : ℕ) → to + 1 ≤ from → find test (behind from) ≡ None → test from ≡ false → find test (behind (from + 1)) ≡ None
  none_more from h none f = ap (find test) (one_behind from h) ∙ (find_more test (behind from) (from ∷ []) none ∙ ap (λ b. cond b (Some from) None) f)

  first_found : (from n : ℕ) → to + 1 ≤ from → from < n → find test (behind from) ≡ None → test from ≡ true → find test (behind n) ≡ Some from
  first_found from n h less none f =
      ap (λ k. find test (range_with_len (to + 1) k)) (let e : n - (to + 1) ≡ (from - (to + 1)) + suc (n - (from + 1)) = omega arith in e)
      ∙ (ap (find test) (range_split (to + 1) (from - (to + 1)) (suc (n - (from + 1))))
      ∙ (find_more test (behind from) (range_with_len (to + 1 + (from - (to + 1))) (suc (n - (from + 1)))) none
      ∙ (ap (λ z. find test (range_with_len z (suc (n - (from + 1))))) (let e : to + 1 + (from - (to + 1)) ≡ from = omega arith in e)
      ∙ ap (λ b. cond b (Some from) (find test (range_with_len (from + 1) (n - (from + 1))))) f)))

-- ---- one after another

pub fold_more : {A B : Type 0} (f : B → A → B) (b : B) (xs : List A) (x : A) → fold f b (xs ++ x ∷ []) ≡ f (fold f b xs) x
fold_more f b [] x = refl
fold_more f b (y ∷ xs) x = fold_more f (f b y) xs x

-- ---- a move keeps the number of places

parts_length : {X : Type 0} (p : ℕ) (xs : List X) → length (take p xs) + length (drop p xs) ≡ length xs
parts_length zero xs = omega arith
parts_length (suc p) [] = refl
parts_length (suc p) (x ∷ xs) = let h = parts_length p xs in omega (arith, h)

append_length : {X : Type 0} (xs ys : List X) → length (xs ++ ys) ≡ length xs + length ys
append_length [] ys = omega arith
append_length (x ∷ xs) ys = let h = append_length xs ys in omega (arith, h)

insert_length : {X : Type 0} (xs : List X) (p : ℕ) (x : X) → length (insert xs p x) ≡ suc (length xs)
insert_length xs p x =
    let a : length (take p xs ++ x ∷ drop p xs) ≡ length (take p xs) + suc (length (drop p xs)) = append_length (take p xs) (x ∷ drop p xs) in
    let b : length (take p xs) + length (drop p xs) ≡ length xs = parts_length p xs in
    omega arith

remove_length : {X : Type 0} (xs : List X) (q : ℕ) → q < length xs → suc (length (remove xs q)) ≡ length xs
remove_length [] q h = absurd (omega arith)
remove_length (x ∷ xs) zero h = refl
remove_length (x ∷ xs) (suc q) h = ap suc (remove_length xs q (omega arith))

pub moved_length : (p q : ℕ) (order : List ℕ) → q < length order → length (moved p q order) ≡ length order
moved_length p q order h = insert_length (remove order q) p (slice_index order q) ∙ remove_length order q h

module _ (trips : List Trip) (spans : List Span) (vectors : List Dirs) where
  pub settled_length : (order : List ℕ) (p : ℕ) → length (settled_at_place trips spans vectors order p) ≡ length order
  settled_length order p = by (carries vectors order p) (find (is_fit trips spans vectors order p) (range_with_len (p + 1) (length order - (p + 1)))) refl
    where
      by : (b : Bool) (o : Option ℕ) → find (is_fit trips spans vectors order p) (range_with_len (p + 1) (length order - (p + 1))) ≡ o → length (cond b order (moved_if_found order p o)) ≡ length order
      by true o e = refl
      by false None e = refl
      by false (Some q) e =
          let h = range_inside (p + 1) (length order - (p + 1)) q (found_in (is_fit trips spans vectors order p) (range_with_len (p + 1) (length order - (p + 1))) q e) in
          moved_length p q order (omega arith)

-- ---- whether one passes

pub any_more : {X : Type 0} (test : X → Bool) (xs : List X) (x : X) → list_any test xs ≡ false → test x ≡ false → list_any test (xs ++ x ∷ []) ≡ false
any_more test [] x h f = ap (λ b. b || false) f
any_more test (y ∷ xs) x h f = by (test y) refl h (λ e. any_more test xs x e f)
  where
    by : (b : Bool) → test y ≡ b → b || list_any test xs ≡ false → (list_any test xs ≡ false → list_any test (xs ++ x ∷ []) ≡ false)
        → test y || list_any test (xs ++ x ∷ []) ≡ false
    by true g e more = absurd (true_false e)
      where
        true_false : true ≡ false → ⊥
        true_false e = cc
    by false g e more = ap (λ b. b || list_any test (xs ++ x ∷ [])) g ∙ more e

pub any_found : {X : Type 0} (test : X → Bool) (xs : List X) (x : X) → IsMember x xs → test x ≡ true → list_any test xs ≡ true
any_found test [] x i f = absurd i
any_found test (y ∷ xs) x (inl e) f = ap (λ b. b || list_any test xs) (sym (ap test e) ∙ f)
any_found test (y ∷ xs) x (inr i) f = by (test y) (any_found test xs x i f)
  where
    by : (b : Bool) → list_any test xs ≡ true → b || list_any test xs ≡ true
    by true more = refl
    by false more = more

pub range_has : (a n q : ℕ) → a ≤ q → q < a + n → IsMember q (range_with_len a n)
range_has a zero q h g = absurd (omega arith)
range_has a (suc n) q h g = by (split a q h) (λ k. range_has (a + 1) n q k (omega arith))
  where
    split : (a q : ℕ) → a ≤ q → (q ≡ a) ⊎ (a + 1 ≤ q)
    split zero zero h = inl refl
    split zero (suc q) h = inr (omega arith)
    split (suc a) zero h = absurd (omega arith)
    split (suc a) (suc q) h = more (split a q (omega arith))
      where
        more : (q ≡ a) ⊎ (a + 1 ≤ q) → (suc q ≡ suc a) ⊎ (suc a + 1 ≤ suc q)
        more (inl e) = inl (ap suc e)
        more (inr k) = inr (omega arith)

    by : (q ≡ a) ⊎ (a + 1 ≤ q) → (a + 1 ≤ q → IsMember q (range_with_len (a + 1) n)) → IsMember q (range_with_len a (suc n))
    by (inl e) more = inl e
    by (inr k) more = inr (more k)

-- ---- for the code

range_next : (n : ℕ) → range_with_len 0 (n + 1) ≡ range_with_len 0 n ++ n ∷ []
range_next n = range_more 0 n ∙ ap (λ z. range_with_len 0 n ++ z ∷ []) (let f : 0 + n ≡ n = omega arith in f)

pub range_push : (order : List ℕ) (n : ℕ) → order ≡ range_with_len 0 n → order ++ n ∷ [] ≡ range_with_len 0 (n + 1)
range_push order n e = ap (λ zs. zs ++ n ∷ []) e ∙ sym (range_next n)

module _ (trips : List Trip) (spans : List Span) (vectors : List Dirs) where
  pub settled_more : (order new first : List ℕ) (n : ℕ) → order ≡ fold (settled_at_place trips spans vectors) first (range_with_len 0 n) → new ≡ settled_at_place trips spans vectors order n
      → new ≡ fold (settled_at_place trips spans vectors) first (range_with_len 0 (n + 1))
  settled_more order new first n e f =
      f ∙ (ap (λ o. settled_at_place trips spans vectors o n) e
      ∙ (sym (fold_more (settled_at_place trips spans vectors) first (range_with_len 0 n) n) ∙ ap (fold (settled_at_place trips spans vectors) first) (sym (range_next n))))

  pub settled_size : (order new : List ℕ) (n k : ℕ) → length order ≡ k → new ≡ settled_at_place trips spans vectors order n → length new ≡ k
  settled_size order new n k e f = ap length f ∙ (settled_length trips spans vectors order n ∙ e)

abbrev is_moved : List ℕ → ℕ → Bool
is_moved order p = not (slice_index order p == p)

same_place : (p q : ℕ) → p ≡ q → not (p == q) ≡ false
same_place p q e = ap not ((Decides-eqb p q).1 e)

other_place : (p q : ℕ) → (p ≡ q → ⊥) → not (p == q) ≡ true
other_place p q h = by (p == q) refl
  where
    by : (b : Bool) → p == q ≡ b → not (p == q) ≡ true
    by true e = absurd (h ((Decides-eqb p q).0 e))
    by false e = ap not e

pub changed_more : (order : List ℕ) (n x : ℕ) → x ≡ slice_index order n → x ≡ n → list_any (λ p. not (slice_index order p == p)) (range_with_len 0 n) ≡ false
    → list_any (λ p. not (slice_index order p == p)) (range_with_len 0 (n + 1)) ≡ false
changed_more order n x is e h =
    ap (list_any (is_moved order)) (range_next n) ∙ any_more (is_moved order) (range_with_len 0 n) n h (same_place (slice_index order n) n (sym is ∙ e))

pub changed_found : (order : List ℕ) (n x : ℕ) → n < length order → x ≡ slice_index order n → (x ≡ n → ⊥) → true ≡ is_changed order
changed_found order n x h is e =
    sym (any_found (is_moved order) (range_with_len 0 (length order)) n (range_has 0 (length order) n (omega arith) (omega arith)) (other_place (slice_index order n) n (λ f. e (is ∙ f))))

module _ (test : ℕ → Bool) (to from : ℕ) where
  pub fit_none : (b : Bool) → to + 1 ≤ from → find test (range_with_len (to + 1) (from - (to + 1))) ≡ None → b ≡ test from → b ≡ false
      → find test (range_with_len (to + 1) (from + 1 - (to + 1))) ≡ None
  fit_none b h none e f = none_more test to from h none (sym e ∙ f)

  pub fit_found : (n : ℕ) (b : Bool) → to + 1 ≤ from → from < n → find test (range_with_len (to + 1) (from - (to + 1))) ≡ None → b ≡ test from → b ≡ true
      → Some from ≡ find test (range_with_len (to + 1) (n - (to + 1)))
  fit_found n b h less none e f = sym (first_found test to from n h less none (sym e ∙ f))

pub fit_end : (test : ℕ → Bool) (to from n : ℕ) → from ≡ n → find test (range_with_len (to + 1) (from - (to + 1))) ≡ None → None ≡ find test (range_with_len (to + 1) (n - (to + 1)))
fit_end test to from n e none = sym (subst (λ k. find test (range_with_len (to + 1) (k - (to + 1))) ≡ None) e none)

pub fit_behind : (test : ℕ → Bool) (to n : ℕ) (o : Option ℕ) (from : ℕ) → o ≡ find test (range_with_len (to + 1) (n - (to + 1))) → o ≡ Some from → (to < from) × (from < n)
fit_behind test to n o from e f =
    let h = range_inside (to + 1) (n - (to + 1)) from (found_in test (range_with_len (to + 1) (n - (to + 1))) from (sym e ∙ f)) in
    (omega arith, omega arith)

pub ruleset orders = (range_push, settled_more, settled_size, range_length, moved_length, none_at_first, fit_none, fit_found, fit_end, changed_more, changed_found)
