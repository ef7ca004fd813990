-- Names in byte order.
use Rattle.std.proofs.Common.{◌≡◌, ◌∙◌, ap, sym, refl, subst, ℕ, zero, suc, ◌<◌, ◌≤◌, false, List, [], ◌∷◌, ◌++◌, length, take, drop, get_or, add-one, arith}
use Rattle.std.specs.Cmp.Lexicographic.{slice_cmp}
use Rattle.std.specs.Ordering.{nat_cmp, is_lt, ordering_index, ordering_reverse, match_ordering}
use Rattle.std.specs.declared.cmp.Ordering.{Ordering}
use Rattle.std.specs.declared.cmp.Ordering.TheVariants.{Less, Equal, Greater}
use Rattle.std.specs.List.{insert}
use Rattle.std.specs.List.Sorted.{IsNonDecreasingBy, IsPartitionPoint}
use Rattle.std.proofs.lemmas.List.Sorted.{searchable_from_sorted}
use Rattle.std.proofs.lemmas.Cmp.{nat_list_cmp_total}
use Rattle.f77_grammar.specs.program.Tree.{with_name}
use Rattle.f77_names.specs.constants.Declarations.{Follows, Ascends}

turned : (x y : List ℕ) (o : Ordering) → slice_cmp nat_cmp y x ≡ o → slice_cmp nat_cmp x y ≡ ordering_reverse o
turned x y o e = nat_list_cmp_total.antisymm x y ∙ ap ordering_reverse e

-- ---- a name in its place

follows_with : (x y : List ℕ) (ys : List (List ℕ)) → slice_cmp nat_cmp x y ≡ Greater → Follows y ys → Follows y (with_name x ys)
follows_with x y [] e h = ap is_lt e
follows_with x y (z ∷ zs) e h = cases (slice_cmp nat_cmp x z)
  where
    cases : (o : Ordering) → Follows y (match_ordering o (x ∷ z ∷ zs) (z ∷ zs) (z ∷ with_name x zs))
    cases Less = ap is_lt e
    cases Equal = h
    cases Greater = h

pub ascends_with : (x : List ℕ) (xs : List (List ℕ)) → Ascends xs → Ascends (with_name x xs)
ascends_with x [] h = (tt, tt)
ascends_with x (y ∷ ys) h = cases (slice_cmp nat_cmp x y) refl (ascends_with x ys h.1)
  where
    cases : (o : Ordering) → slice_cmp nat_cmp x y ≡ o → Ascends (with_name x ys) → Ascends (match_ordering o (x ∷ y ∷ ys) (y ∷ ys) (y ∷ with_name x ys))
    cases Less e rest = (ap is_lt (turned y x Less e), h)
    cases Equal e rest = h
    cases Greater e rest = (follows_with x y ys e h.0, rest)

-- ---- what a search finds

each_sorted : (xs : List (List ℕ)) → Ascends xs → (k : ℕ) (d : List ℕ) → suc k < length xs → is_lt (slice_cmp nat_cmp (get_or xs (suc k) d) (get_or xs k d)) ≡ false
each_sorted [] h k d below = absurd (omega arith)
each_sorted (y ∷ []) h k d below = absurd (omega arith)
each_sorted (y ∷ z ∷ zs) h zero d below = h.0
each_sorted (y ∷ z ∷ zs) h (suc k) d below = each_sorted (z ∷ zs) h.1 k d (omega arith)

pub rising : (x : List ℕ) (xs : List (List ℕ)) → Ascends xs → IsNonDecreasingBy (λ y. ordering_index (slice_cmp nat_cmp y x)) xs
rising x xs h = searchable_from_sorted nat_list_cmp_total (λ y. y) xs x (λ k d low below. rw add-one (each_sorted xs h k d (omega arith)))

pub found : (x : List ℕ) (xs : List (List ℕ)) (i : ℕ) → i < length xs → ((d : List ℕ) → slice_cmp nat_cmp (get_or xs i d) x ≡ Equal)
    → IsNonDecreasingBy (λ y. ordering_index (slice_cmp nat_cmp y x)) xs → with_name x xs ≡ xs
found x [] i below e h = absurd (omega arith)
found x (y ∷ ys) zero below e h = ap (λ o. match_ordering o (x ∷ y ∷ ys) (y ∷ ys) (y ∷ with_name x ys)) (turned x y Equal (e x))
found x (y ∷ ys) (suc i) below e h =
    cases (slice_cmp nat_cmp y x) refl (h 0 (suc i) x (omega arith) below) (found x ys i (omega arith) e (λ j k d a b. h (suc j) (suc k) d (omega arith) (omega arith)))
  where
    cases : (o : Ordering) → slice_cmp nat_cmp y x ≡ o → ordering_index (slice_cmp nat_cmp y x) ≤ ordering_index (slice_cmp nat_cmp (get_or ys i x) x) → with_name x ys ≡ ys
        → with_name x (y ∷ ys) ≡ y ∷ ys
    cases Less o le rest = ap (λ p. match_ordering p (x ∷ y ∷ ys) (y ∷ ys) (y ∷ with_name x ys)) (turned x y Less o) ∙ ap (λ ns. y ∷ ns) rest
    cases Equal o le rest = ap (λ p. match_ordering p (x ∷ y ∷ ys) (y ∷ ys) (y ∷ with_name x ys)) (turned x y Equal o)
    cases Greater o le rest = absurd (omega (arith, ap ordering_index o, ap ordering_index (e x)))

pub absent : (x : List ℕ) (xs : List (List ℕ)) (i : ℕ) → i ≤ length xs → ((k : ℕ) (d : List ℕ) → k < i → slice_cmp nat_cmp (get_or xs k d) x ≡ Less)
    → ((d : List ℕ) → i < length xs → slice_cmp nat_cmp (get_or xs i d) x ≡ Greater) → with_name x xs ≡ take i xs ++ x ∷ drop i xs
absent x [] zero below less greater = refl
absent x [] (suc i) below less greater = absurd (omega arith)
absent x (y ∷ ys) zero below less greater = ap (λ o. match_ordering o (x ∷ y ∷ ys) (y ∷ ys) (y ∷ with_name x ys)) (turned x y Greater (greater x (omega arith)))
absent x (y ∷ ys) (suc i) below less greater =
    ap (λ o. match_ordering o (x ∷ y ∷ ys) (y ∷ ys) (y ∷ with_name x ys)) (turned x y Less (less 0 x (omega arith)))
    ∙ ap (λ ns. y ∷ ns) (absent x ys i (omega arith) (λ k d a. less (suc k) d (omega arith)) (λ d a. greater d (omega arith)))

-- ---- a search in a slice that has the names

pub already : (x : List ℕ) (xs names : List (List ℕ)) (i : ℕ) → xs ≡ names → Ascends names → i < length xs → ((d : List ℕ) → slice_cmp nat_cmp (get_or xs i d) x ≡ Equal)
    → names ≡ with_name x names
already x xs names i e h below equal =
    let rise : Ascends xs = subst Ascends (sym e) h in
    subst (λ ys. ys ≡ with_name x ys) e (sym (found x xs i below equal (rising x xs rise)))

pub placed : (x : List ℕ) (xs names new : List (List ℕ)) (i : ℕ) → xs ≡ names → Ascends names → i ≤ length xs
    → (IsNonDecreasingBy (λ y. ordering_index (slice_cmp nat_cmp y x)) xs → IsPartitionPoint (λ y. slice_cmp nat_cmp y x ≡ Less) (λ y. slice_cmp nat_cmp y x ≡ Greater) xs i)
    → new ≡ insert names i x → new ≡ with_name x names
placed x xs names new i e h within parted is =
    let rise : Ascends xs = subst Ascends (sym e) h in
    let point = parted (rising x xs rise) in
    is ∙ ap (λ ys. insert ys i x) (sym e)
    ∙ sym (absent x xs i within (λ k d below. point.0 k d (omega arith) below) (λ d below. point.1 i d (omega arith) below))
    ∙ ap (with_name x) e
