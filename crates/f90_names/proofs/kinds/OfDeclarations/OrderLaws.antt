-- Declarations in byte order of their names.
use Rattle.std.proofs.Common.{arith, ◌≡◌, ℕ, suc, ◌+◌, ◌<◌, ◌≤◌, Bool, true, false, ◌||◌, cond, IsTrue, List}
use Rattle.std.proofs.Common.{[], ◌∷◌, ◌++◌, map, length, get_or, refl, ap, sym, subst, ◌∙◌, append_assoc}
use Rattle.std.specs.Prelude.{sum_by}
use Rattle.std.specs.Cmp.Lexicographic.{slice_cmp}
use Rattle.std.specs.List.{AllByRecursion}
use Rattle.std.specs.List.Sorted.{IsPermutation, IsSortedByKey}
use Rattle.std.specs.Ordering.{nat_cmp, is_lt, is_eq, ordering_reverse}
use Rattle.std.specs.Str.{bytes_eq}
use Rattle.std.specs.declared.cmp.Ordering.{Ordering}
use Rattle.std.specs.declared.cmp.Ordering.TheVariants.{Less, Equal, Greater}
use Rattle.std.proofs.lemmas.Cmp.{nat_list_cmp_total}
use Rattle.std.proofs.lemmas.List.{map-append}
use Rattle.std.proofs.lemmas.List.Folds.{list_any-append}
use Rattle.std.proofs.lemmas.List.Sorted.{IsPermutation-map, IsPermutation-sym, Contains-permutation}
use Rattle.std.proofs.lemmas.List.Sorted.{length_permutation, sum_by-IsPermutation, sorted_far, ranks_by}
use Rattle.std.proofs.lemmas.List.Sums.{sum_by-append, sum_by-cons}
use Rattle.std.proofs.lemmas.Map.Text.{is_eq-slice_cmp}
use Rattle.std.proofs.lemmas.Slice.Eq.{bytes_eq-Decides}
use Rattle.tree.specs.Plain.{Declaration}
use Rattle.tree.specs.View.{declaration_of}
use Rattle.tree.specs.declared.programs.Decl.{Decl}
use Rattle.meaning.specs.Names.{is_among, IsInByteOrder}
use Rattle.f90_grammar.specs.Blocks.{Placed}
use Rattle.f90_grammar.specs.Bounds.{HasBounds}
use Rattle.f90_grammar.specs.Declared.{declarations_in, declarations_of, declared_names_of, is_repeated, declares_again}
use Rattle.f90_grammar.specs.Order.{Place90, IsPlaceIn}
use Rattle.f90_names.specs.kinds.declarations.Declarations.{AreAccepted, AreInOrder, name_in}
use Rattle.f90_names.proofs.kinds.OfDeclarations.BoundLaws.{bounds_unless, all_append}
use Rattle.f90_names.proofs.kinds.OfDeclarations.SizeLaws.{declared_more, or_left, or_right}

-- ---- bounds

abbrev pub IsBeyond : Place90 → Type 0
IsBeyond p = AllByRecursion HasBounds (declarations_in p.here.form) → ⊥

abbrev place : List Placed → Placed → List Placed → Place90
place before here after = record { before = before; here = here; after = after }

bounds_behind : (front rest : List Placed)
    → ((p : Place90) → IsPlaceIn (front ++ rest) p → (AllByRecursion HasBounds (declarations_in p.here.form) → ⊥) → ⊥)
    → AllByRecursion HasBounds (declarations_of rest)
bounds_behind front [] h = tt
bounds_behind front (p ∷ more) h =
    all_append HasBounds (declarations_in p.form) (declarations_of more)
    (bounds_unless (declarations_in p.form) (h (place front p more) refl))
    (bounds_behind (front ++ p ∷ []) more (λ q i. h q (sym (append_assoc front (p ∷ []) more) ∙ i)))

pub all_bounds : (ps : List Placed) → AreAccepted ps → AllByRecursion HasBounds (declarations_of ps)
all_bounds ps a = bounds_behind [] ps a.bounds

-- ---- each name once

abbrev one : Bool → ℕ
one b = cond b 1 0

abbrev counted : List ℕ → Declaration → ℕ
counted x d = one (bytes_eq x d.name)

-- how often the name is declared
abbrev times : List ℕ → List Declaration → ℕ
times x ds = sum_by (counted x) ds

one_or : (a b : Bool) → (a ≡ true → b ≡ false) → one (a || b) ≡ one a + one b
one_or true true h = let e : true ≡ false = h refl in absurd (cc)
one_or true false h = refl
one_or false b h = omega arith

same_names : (x y : List ℕ) → bytes_eq x y ≡ true → x ≡ y
same_names x y h = (bytes_eq-Decides x y).0 h

not_repeated : (earlier : List (List ℕ)) (ds : List Declaration) (x : List ℕ)
    → is_repeated earlier (declared_names_of ds) ≡ false → times x ds + one (is_among earlier x) ≤ 1
not_repeated earlier [] x h = least (is_among earlier x)
  where
    least : (b : Bool) → 0 + one b ≤ 1
    least true = omega arith
    least false = omega arith
not_repeated earlier (d ∷ ds) x h =
    let new : is_among earlier d.name ≡ false = or_left (is_among earlier d.name) _ h in
    let rest : times x ds + one (bytes_eq x d.name || is_among earlier x) ≤ 1 =
    not_repeated (d.name ∷ earlier) ds x (or_right (is_among earlier d.name) _ h) in
    let parts = one_or (bytes_eq x d.name) (is_among earlier x)
    (λ e. ap (is_among earlier) (same_names x d.name e) ∙ new) in
    let more : times x (d ∷ ds) ≡ counted x d + times x ds = sum_by-cons (counted x) d ds in
    omega arith

-- a name that isn't among those of declarations isn't declared there
never_declared : (ds : List Declaration) (x : List ℕ) → is_among (declared_names_of ds) x ≡ false → times x ds ≡ 0
never_declared [] x h = refl
never_declared (d ∷ ds) x h =
    let here : counted x d ≡ 0 = ap one (or_left (bytes_eq x d.name) _ h) in
    let rest = never_declared ds x (or_right (bytes_eq x d.name) _ h) in
    let more : times x (d ∷ ds) ≡ counted x d + times x ds = sum_by-cons (counted x) d ds in
    omega arith

once_declared : (ds : List Declaration) (x : List ℕ) → is_among (declared_names_of ds) x ≡ true → 1 ≤ times x ds
once_declared [] x h = absurd (cc)
once_declared (d ∷ ds) x h = cases (bytes_eq x d.name) refl h (λ k. once_declared ds x k)
  where
    more : times x (d ∷ ds) ≡ counted x d + times x ds
    more = sum_by-cons (counted x) d ds

    cases : (b : Bool) → bytes_eq x d.name ≡ b → (b || is_among (declared_names_of ds) x) ≡ true
        → (is_among (declared_names_of ds) x ≡ true → 1 ≤ times x ds) → 1 ≤ times x (d ∷ ds)
    cases true e k g = let m = more in let f : counted x d ≡ 1 = ap one e in omega arith
    cases false e k g = let m = more in let f = g k in omega arith

names_both : (xs ys : List Declaration) → declared_names_of (xs ++ ys) ≡ declared_names_of xs ++ declared_names_of ys
names_both xs ys = map-append (λ (d : Declaration). d.name) xs ys

once_behind : (front rest : List Placed)
    → ((p : Place90) → IsPlaceIn (front ++ rest) p → IsTrue (declares_again p.before p.here.form) → ⊥) → (x : List ℕ)
    → times x (declarations_of rest) + one (is_among (declared_names_of (declarations_of front)) x) ≤ 1
once_behind front [] h x = least (is_among (declared_names_of (declarations_of front)) x)
  where
    least : (b : Bool) → 0 + one b ≤ 1
    least true = omega arith
    least false = omega arith
once_behind front (p ∷ more) h x =
    let first : times x (declarations_in p.form) + one (is_among (declared_names_of (declarations_of front)) x) ≤ 1 =
    not_repeated (declared_names_of (declarations_of front)) (declarations_in p.form) x
    (unrepeated (declares_again front p.form) refl) in
    let rest : times x (declarations_of more) + one (is_among (declared_names_of (declarations_of (front ++ p ∷ []))) x) ≤ 1 =
    once_behind (front ++ p ∷ []) more (λ q i. h q (sym (append_assoc front (p ∷ []) more) ∙ i)) x in
    cases (is_among (declared_names_of here) x) refl first rest
  where
    here : List Declaration
    here = declarations_in p.form

    unrepeated : (b : Bool) → declares_again front p.form ≡ b → b ≡ false
    unrepeated false e = refl
    unrepeated true e = absurd (h (place front p more) refl e)

    known : is_among (declared_names_of (declarations_of (front ++ p ∷ []))) x ≡
        (is_among (declared_names_of (declarations_of front)) x || is_among (declared_names_of here) x)
    known =
        ap (λ ds. is_among (declared_names_of ds) x) (declared_more front p)
        ∙ ap (λ ns. is_among ns x) (names_both (declarations_of front) here)
        ∙ list_any-append (bytes_eq x) (declared_names_of (declarations_of front)) (declared_names_of here)

    sums : times x (declarations_of (p ∷ more)) ≡ times x here + times x (declarations_of more)
    sums = sum_by-append (counted x) here (declarations_of more)

    or_true : (a b : Bool) → b ≡ true → one (a || b) ≡ 1
    or_true true b e = refl
    or_true false b e = ap one e

    or_false : (a b : Bool) → b ≡ false → one (a || b) ≡ one a
    or_false true b e = refl
    or_false false b e = ap one e

    cases : (b : Bool) → is_among (declared_names_of here) x ≡ b
        → times x here + one (is_among (declared_names_of (declarations_of front)) x) ≤ 1
        → times x (declarations_of more) + one (is_among (declared_names_of (declarations_of (front ++ p ∷ []))) x) ≤ 1
        → times x (declarations_of (p ∷ more)) + one (is_among (declared_names_of (declarations_of front)) x) ≤ 1
    cases true e f r =
        let s = sums in
        let o : one (is_among (declared_names_of (declarations_of (front ++ p ∷ []))) x) ≡ 1 =
        ap one known ∙ or_true (is_among (declared_names_of (declarations_of front)) x) (is_among (declared_names_of here) x) e in
        omega arith
    cases false e f r =
        let s = sums in
        let n = never_declared here x e in
        let o : one (is_among (declared_names_of (declarations_of (front ++ p ∷ []))) x) ≡ one
        (is_among (declared_names_of (declarations_of front)) x) =
        ap one known ∙ or_false (is_among (declared_names_of (declarations_of front)) x) (is_among (declared_names_of here) x) e in
        omega arith

abbrev AreOnce : List Declaration → Type 0
AreOnce ds = (x : List ℕ) → times x ds ≤ 1

all_once : (ps : List Placed) → AreAccepted ps → AreOnce (declarations_of ps)
all_once ps a x = let h : times x (declarations_of ps) + 0 ≤ 1 = once_behind [] ps a.once x in omega arith

-- ---- in order

-- what isn't above a name, and isn't the name, stands below it
below : (x : List ℕ) (ds : List Declaration) → is_among (declared_names_of ds) x ≡ false
    → AllByRecursion (λ (d : Declaration). is_lt (slice_cmp nat_cmp d.name x) ≡ false) ds
    → AllByRecursion (λ y. slice_cmp nat_cmp x y ≡ Less) (declared_names_of ds)
below x [] n h = tt
below x (d ∷ ds) n h = (by (slice_cmp nat_cmp x d.name) refl, below x ds (or_right (bytes_eq x d.name) _ n) h.1)
  where
    by : (o : Ordering) → slice_cmp nat_cmp x d.name ≡ o → o ≡ Less
    by Less e = refl
    by Equal e =
        let f : bytes_eq x d.name ≡ false = or_left (bytes_eq x d.name) _ n in
        let g : true ≡ bytes_eq x d.name = sym (ap is_eq e) ∙ is_eq-slice_cmp x d.name in
        absurd (cc)
    by Greater e =
        let f : is_lt (slice_cmp nat_cmp d.name x) ≡ true =
        ap is_lt (nat_list_cmp_total.antisymm d.name x ∙ ap ordering_reverse e) in
        let g : is_lt (slice_cmp nat_cmp d.name x) ≡ false = h.0 in
        absurd (cc)

abbrev pub Rises : List Decl → Type 0
Rises xs = IsSortedByKey name_in (slice_cmp nat_cmp) xs

rises_behind : (x : Decl) (xs : List Decl) → Rises (x ∷ xs) → Rises xs
rises_behind x xs h k d a b =
    let n : suc k + 1 ≡ suc (k + 1) = omega arith in
    subst (λ m. is_lt (slice_cmp nat_cmp (name_in (get_or (x ∷ xs) m d)) (name_in (get_or xs k d))) ≡ false) n
    (h (suc k) d (omega arith) (omega arith))

each_above : (x : Decl) (xs : List Decl)
    → ((j : ℕ) → j < length xs → is_lt (slice_cmp nat_cmp (get_or xs j x).name x.name) ≡ false)
    → AllByRecursion (λ (d : Declaration). is_lt (slice_cmp nat_cmp d.name x.name) ≡ false) (map declaration_of xs)
each_above x [] h = tt
each_above x (y ∷ ys) h = (h 0 (omega arith), each_above x ys (λ j l. h (suc j) (omega arith)))

in_byte_order : (xs : List Decl) → Rises xs → AreOnce (map declaration_of xs)
    → IsInByteOrder (declared_names_of (map declaration_of xs))
in_byte_order [] h o = tt
in_byte_order (x ∷ xs) h o = (
  below x.name (map declaration_of xs)
      (apart (is_among (declared_names_of (map declaration_of xs)) x.name) refl) above,
  in_byte_order xs
      (rises_behind x xs h) rest,
)
  where
    more : (y : List ℕ) → times y (map declaration_of (x ∷ xs)) ≡ counted y (declaration_of x) + times y
        (map declaration_of xs)
    more y = sum_by-cons (counted y) (declaration_of x) (map declaration_of xs)

    rest : AreOnce (map declaration_of xs)
    rest y = let m = more y in let l = o y in omega arith

    apart : (b : Bool) → is_among (declared_names_of (map declaration_of xs)) x.name ≡ b → b ≡ false
    apart false e = refl
    apart true e =
        let m = more x.name in
        let l = o x.name in
        let n = once_declared (map declaration_of xs) x.name e in
        let t : counted x.name (declaration_of x) ≡ 1 = ap one ((bytes_eq-Decides x.name x.name).1 refl) in
        absurd (omega arith)

    above : AllByRecursion (λ (d : Declaration). is_lt (slice_cmp nat_cmp d.name x.name) ≡ false)
        (map declaration_of xs)
    above = each_above x xs
        (λ j l. sorted_far (λ (a b : Decl). is_lt (slice_cmp nat_cmp a.name b.name))
        (ranks_by nat_list_cmp_total name_in) (x ∷ xs) h 0 (suc j) x (omega arith) (omega arith))

pub in_order : (ps : List Placed) (xs ys : List Decl) → AreAccepted ps → map declaration_of xs ≡ declarations_of ps
    → IsPermutation xs ys → Rises ys
    → AreInOrder (declarations_of ps) (map declaration_of ys)
in_order ps xs ys a e p r = record {
  sorted = in_byte_order ys r
      (λ x. let s = sum_by-IsPermutation (counted x) (declarations_of ps) (map declaration_of ys) moved in let o =
      all_once ps a x in omega arith);
  each = λ d. (
    λ h. Contains-permutation (declarations_of ps) (map declaration_of ys) d moved h,
    λ h. Contains-permutation (map declaration_of ys) (declarations_of ps) d
        (IsPermutation-sym (declarations_of ps) (map declaration_of ys) moved) h,
  );
  once = sym (length_permutation (declarations_of ps) (map declaration_of ys) moved);
}
  where
    moved : IsPermutation (declarations_of ps) (map declaration_of ys)
    moved = subst (λ (ds : List Declaration). IsPermutation ds (map declaration_of ys)) e
        (IsPermutation-map declaration_of xs ys p)
