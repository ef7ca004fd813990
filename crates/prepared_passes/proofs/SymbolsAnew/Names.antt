-- Lists of names into which one has come in, and how many names there are.
use Rattle.std.proofs.Common.{◌≡◌, ◌⊎◌, inl, inr, refl, sym, ap, ◌∙◌, ℕ, zero, suc, ◌+◌, ◌≤◌, Bool, true, false, not, ◌||◌, ◌&&◌, List, [], ◌∷◌, ◌++◌, insert, length, arith}
use Rattle.std.specs.Cmp.Lexicographic.{slice_cmp}
use Rattle.std.specs.List.{AllByRecursion, IsDistinct}
use Rattle.std.specs.Ordering.{is_eq, nat_cmp}
use Rattle.std.specs.Str.{bytes_eq}
use Rattle.std.specs.declared.cmp.Ordering.TheVariants.{Less}
use Rattle.std.proofs.lemmas.Cmp.{nat_list_eq_equiv}
use Rattle.std.proofs.lemmas.List.Folds.{list_any-append}
use Rattle.std.proofs.lemmas.Map.Made.{length-le_from_is_member}
use Rattle.std.proofs.lemmas.Map.Text.{is_eq-slice_cmp}
use Rattle.std.proofs.lemmas.Slice.Eq.{bytes_eq-Decides}
use Rattle.meaning.specs.Names.{IsInByteOrder, is_among}
use Rattle.nest_order.specs.orders.Lists.{In}

-- ---- one more

pub in_more : {A : Type 0} (xs : List A) (k : ℕ) (x y : A) → In y xs → In y (insert xs k x)
in_more [] k x y i = absurd i
in_more (z ∷ zs) zero x y i = inr i
in_more (z ∷ zs) (suc k) x y (inl e) = inl e
in_more (z ∷ zs) (suc k) x y (inr i) = inr (in_more zs k x y i)

pub in_either : {A : Type 0} (xs : List A) (k : ℕ) (x y : A) → In y (insert xs k x) → (y ≡ x) ⊎ In y xs
in_either [] zero x y (inl e) = inl e
in_either [] zero x y (inr i) = absurd i
in_either [] (suc k) x y (inl e) = inl e
in_either [] (suc k) x y (inr i) = absurd i
in_either (z ∷ zs) zero x y (inl e) = inl e
in_either (z ∷ zs) zero x y (inr i) = inr i
in_either (z ∷ zs) (suc k) x y (inl e) = inr (inl e)
in_either {A} (z ∷ zs) (suc k) x y (inr i) = by (in_either zs k x y i)
  where
    by : (y ≡ x) ⊎ In y zs → (y ≡ x) ⊎ In y (z ∷ zs)
    by (inl e) = inl e
    by (inr j) = inr (inr j)

-- what comes in is there
pub itself : {A : Type 0} (xs : List A) (k : ℕ) (x : A) → In x (insert xs k x)
itself [] zero x = inl refl
itself [] (suc k) x = inl refl
itself (z ∷ zs) zero x = inl refl
itself (z ∷ zs) (suc k) x = inr (itself zs k x)

pub length_more : {A : Type 0} (xs : List A) (k : ℕ) (x : A) → length (insert xs k x) ≡ length xs + 1
length_more [] zero x = refl
length_more [] (suc k) x = refl
length_more (z ∷ zs) zero x = let e : suc (suc (length zs)) ≡ suc (length zs) + 1 = omega arith in e
length_more (z ∷ zs) (suc k) x = ap suc (length_more zs k x) ∙ (let e : suc (length zs + 1) ≡ suc (length zs) + 1 = omega arith in e)

-- ---- names that are there and that aren't

either_false : (a b : Bool) → (a || b) ≡ false → (a ≡ false) × (b ≡ false)
either_false true b h = let no : ⊥ = cc in absurd no
either_false false b h = (refl, h)

pub both_true : (a b : Bool) → (a && b) ≡ true → (a ≡ true) × (b ≡ true)
both_true true true e = (refl, refl)
both_true true false e = let no : ⊥ = cc in absurd no
both_true false b e = let no : ⊥ = cc in absurd no

pub not_true : (b : Bool) → not b ≡ true → b ≡ false
not_true true h = let no : ⊥ = cc in absurd no
not_true false h = refl

pub not_in : (ys : List (List ℕ)) (x : List ℕ) → is_among ys x ≡ false → ¬ In x ys
not_in [] x e i = i
not_in (y ∷ ys) x e (inl f) =
    let yes : bytes_eq x y ≡ true = (bytes_eq-Decides x y).1 f in
    let both : true ≡ false = sym yes ∙ (either_false (bytes_eq x y) (is_among ys x) e).0 in
    let no : ⊥ = cc in
    absurd no
not_in (y ∷ ys) x e (inr i) = not_in ys x (either_false (bytes_eq x y) (is_among ys x) e).1 i

pub absent : (ys : List (List ℕ)) (x : List ℕ) → ¬ In x ys → is_among ys x ≡ false
absent [] x f = refl
absent (y ∷ ys) x f = by (bytes_eq x y) refl (absent ys x (λ i. f (inr i)))
  where
    by : (b : Bool) → bytes_eq x y ≡ b → is_among ys x ≡ false → (b || is_among ys x) ≡ false
    by true e rest = absurd (f (inl ((bytes_eq-Decides x y).0 e)))
    by false e rest = rest

pub in_neither : (xs ys : List (List ℕ)) (x : List ℕ) → is_among (xs ++ ys) x ≡ false → (is_among xs x ≡ false) × (is_among ys x ≡ false)
in_neither xs ys x h = either_false (is_among xs x) (is_among ys x) (sym (list_any-append (bytes_eq x) xs ys) ∙ h)

-- ---- how many

less_apart : (x y : List ℕ) → slice_cmp nat_cmp x y ≡ Less → bytes_eq x y ≡ false
less_apart x y h = sym (is_eq-slice_cmp x y) ∙ ap is_eq h

each_apart : (x : List ℕ) (ys : List (List ℕ)) → AllByRecursion (λ y. slice_cmp nat_cmp x y ≡ Less) ys → AllByRecursion (λ y. bytes_eq x y ≡ false) ys
each_apart x [] h = tt
each_apart x (y ∷ ys) h = (less_apart x y h.0, each_apart x ys h.1)

ordered_distinct : (xs : List (List ℕ)) → IsInByteOrder xs → IsDistinct bytes_eq xs
unfolding IsDistinct
ordered_distinct [] h = tt
ordered_distinct (x ∷ xs) h = (each_apart x xs h.0, ordered_distinct xs h.1)

pub member : (ys : List (List ℕ)) (x : List ℕ) → In x ys → is_among ys x ≡ true
member [] x i = absurd i
member (y ∷ ys) x (inl e) = ap (λ b. b || is_among ys x) ((bytes_eq-Decides x y).1 e)
member (y ∷ ys) x (inr i) = by (bytes_eq x y) (member ys x i)
  where
    by : (b : Bool) → is_among ys x ≡ true → (b || is_among ys x) ≡ true
    by true h = refl
    by false h = h

pub is_in : (ys : List (List ℕ)) (x : List ℕ) → is_among ys x ≡ true → In x ys
is_in [] x h = let no : ⊥ = cc in absurd no
is_in (y ∷ ys) x h = by (bytes_eq x y) refl h (λ g. is_in ys x g)
  where
    by : (b : Bool) → bytes_eq x y ≡ b → (b || is_among ys x) ≡ true → (is_among ys x ≡ true → In x ys) → In x (y ∷ ys)
    by true e g more = inl ((bytes_eq-Decides x y).0 e)
    by false e g more = inr (more g)

-- names in byte order, each of which is one of others, are no more than these
pub no_more : (xs ys : List (List ℕ)) → IsInByteOrder xs → ((x : List ℕ) → In x xs → In x ys) → length xs ≤ length ys
no_more xs ys h f =
    length-le_from_is_member nat_list_eq_equiv xs ys (ordered_distinct xs h) (λ q m. member ys q (f q (is_in xs q m)))
