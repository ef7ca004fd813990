-- Lists of names: what stands in them, and that no name stands twice.
use Rattle.std.proofs.Common.{◌≡◌, ◌⊎◌, inl, inr, refl, sym, ap, ◌∙◌, subst, ℕ, ◌≤◌, ◌<◌, ◌^◌, false, ◌||◌}
use Rattle.std.proofs.Common.{List, [], ◌∷◌, Option, Some, None, Contains, arith}
use Rattle.std.specs.Cmp.Lexicographic.{slice_cmp}
use Rattle.std.specs.List.{AllByRecursion}
use Rattle.std.specs.Option.{IsSomeAnd}
use Rattle.std.specs.Ordering.{nat_cmp, is_eq}
use Rattle.std.specs.Str.{bytes_eq}
use Rattle.std.specs.declared.cmp.Ordering.TheVariants.{Less}
use Rattle.std.proofs.lemmas.Map.Text.{is_eq-slice_cmp}
use Rattle.components.specs.Lists as lists
use Rattle.linear_forms.specs.CanonicalLaws.{AreDistinct}
use Rattle.meaning.specs.Names.{IsInByteOrder, is_among}
use Rattle.meaning_laws.proofs.profiles.Lists.{here, there, nowhere, cases_of}
use Rattle.nest_order.specs.orders.Lists.{In, Distinct}
use Rattle.nest_order.specs.orders.Lists as orders

-- ---- members

pub In-Contains : {A : Type 0} (x : A) (xs : List A) → In x xs → Contains xs x
In-Contains x [] i = absurd i
In-Contains x (y ∷ xs) (inl e) = subst (λ z. Contains (y ∷ xs) z) (sym e) (here y xs)
In-Contains x (y ∷ xs) (inr i) = there y xs x (In-Contains x xs i)

pub Contains-In : {A : Type 0} (x : A) (xs : List A) → Contains xs x → In x xs
Contains-In x [] c = absurd (nowhere x c)
Contains-In x (y ∷ xs) c = by (Contains-In x xs) (cases_of y xs x c)
  where
    by : (Contains xs x → In x xs) → (y ≡ x) ⊎ Contains xs x → In x (y ∷ xs)
    by more (inl e) = inl (sym e)
    by more (inr d) = inr (more d)

-- ---- what an option has

pub record HasSome {A : Type 0} (P : A → Type 0) (o : Option A) : Type 0 where
  pub value : A
  pub is : o ≡ Some value
  pub has : P value

pub some_of : {A : Type 0} (P : A → Type 0) (o : Option A) → IsSomeAnd o P → HasSome P o
some_of P None h = absurd h
some_of P (Some x) h = record { value = x; is = refl; has = h }

-- ---- numbers of 32 bits

pub within_32 : (n : ℕ) → n < 2 ^ 32 → n ≤ 4294967295
within_32 n h = let e : n < 4294967296 = h in omega (arith, e)

pub below_32 : (n : ℕ) → n ≤ 4294967295 → n < 2 ^ 32
below_32 n h = let e : n < 4294967296 = omega (arith, h) in e

-- ---- none stands twice

less_apart : (x y : List ℕ) → slice_cmp nat_cmp x y ≡ Less → bytes_eq x y ≡ false
less_apart x y h = sym (is_eq-slice_cmp x y) ∙ ap is_eq h

none_among : (xs : List (List ℕ)) (x : List ℕ) → AllByRecursion (λ y. slice_cmp nat_cmp x y ≡ Less) xs → is_among xs x ≡ false
none_among [] x h = refl
none_among (y ∷ xs) x h = ap (λ b. b || is_among xs x) (less_apart x y h.0) ∙ none_among xs x h.1

pub ordered_distinct : (xs : List (List ℕ)) → IsInByteOrder xs → AreDistinct xs
ordered_distinct [] h = tt
ordered_distinct (x ∷ xs) h = (none_among xs x h.0, ordered_distinct xs h.1)

each_too : (P : ℕ → Type 0) (xs : List ℕ) → lists.Each P xs → orders.Each P xs
each_too P [] h = tt
each_too P (x ∷ xs) h = (h.0, each_too P xs h.1)

pub distinct_too : (xs : List ℕ) → lists.Distinct xs → Distinct xs
distinct_too [] h = tt
distinct_too (x ∷ xs) h = (each_too (λ y. ¬ (x ≡ y)) xs h.0, distinct_too xs h.1)
