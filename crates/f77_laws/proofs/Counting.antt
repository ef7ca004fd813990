-- How many variables there are, and how many elements their arrays have.
use Rattle.std.proofs.Common.{◌≡◌, ◌⊎◌, inl, inr, ℕ, suc, ◌+◌, ◌*◌, ◌<◌, ◌≤◌, Bool, true, false, not, ◌&&◌, cond, ℤ, List, [], ◌∷◌, ◌++◌, map, length, sum, refl, sym, ap, subst, ◌∙◌, arith, Contains, filter, flat_map}
use Rattle.std.specs.Prelude.{Result, Ok, Err}
use Rattle.std.specs.List.{AllByRecursion}
use Rattle.std.specs.Str.{bytes_eq}
use Rattle.std.specs.declared.cmp.Ordering.TheVariants.{Less}
use Rattle.tree.specs.declared.ops.Fault.{Fault}
use Rattle.tree.specs.Plain.{Expression}
use Rattle.meaning.specs.Dialect.{Dialect}
use Rattle.meaning.specs.Store.{Store, size_of}
use Rattle.f77_grammar.specs.Statement77.{Entity, Labelled}
use Rattle.meaning.specs.Names.{IsInByteOrder, is_among}
use Rattle.f77_grammar.specs.program.Limits.{once, entities_of, has_bounds, bounds_among, bounds_declared, bounds_of_name, elements, product_of_sizes, size_in, dimension_of, declared_elements}
use Rattle.meaning.specs.Extents.{array_elements, elements_of}
use Rattle.f77_grammar.specs.program.Tree.{bounds_or_empty}
use Rattle.std.proofs.lemmas.List.{map-append}
use Rattle.std.proofs.lemmas.List.Sums.{sum_by-append, sum_by-cons}
use Rattle.f77_laws.proofs.Places.{onto}
use Rattle.f77_laws.proofs.Lists.{all_weaker, here, there, nowhere, cases_of, not_both, all_at, Found, found}
use Rattle.f77_laws.proofs.Variables.{same_name, equal_names, other_names, below_differs, order, kept_by}

-- ---- a list of names without one of them

abbrev others : List ℕ → List (List ℕ) → List (List ℕ)
others x ys = filter (λ y. not (bytes_eq x y)) ys

others-le : (x : List ℕ) (ys : List (List ℕ)) → length (others x ys) ≤ length ys
others-le x [] = omega arith
others-le x (y ∷ ys) = by (not (bytes_eq x y)) (others-le x ys)
  where
    by : (b : Bool) → length (others x ys) ≤ length ys → length (cond b (y ∷ others x ys) (others x ys)) ≤ suc (length ys)
    by true h = omega (arith, h)
    by false h = omega (arith, h)

others-lt : (x : List ℕ) (ys : List (List ℕ)) → Contains ys x → length (others x ys) < length ys
others-lt x [] h = absurd (nowhere x h)
others-lt x (y ∷ ys) h = by (bytes_eq x y) refl (others-lt x ys) (cases_of y ys x h)
  where
    by : (b : Bool) → bytes_eq x y ≡ b → (Contains ys x → length (others x ys) < length ys) → (y ≡ x) ⊎ Contains ys x → length (cond (not b) (y ∷ others x ys) (others x ys)) < suc (length ys)
    by true e more c = omega (arith, others-le x ys)
    by false e more (inl f) = absurd (not_both (bytes_eq x y) (equal_names x y (sym f)) e)
    by false e more (inr c) = omega (arith, more c)

others_kept : (x : List ℕ) (ys : List (List ℕ)) (z : List ℕ) → Contains ys z → (x ≡ z → ⊥) → Contains (others x ys) z
others_kept x ys z h f = kept_by (λ y. not (bytes_eq x y)) ys z h (ap not (other_names x z f))

-- names of which none stands twice are at most as many as those among which they are
pub fewer : (xs ys : List (List ℕ)) → IsInByteOrder xs → ((z : List ℕ) → Contains xs z → Contains ys z) → length xs ≤ length ys
fewer [] ys h f = omega arith
fewer (x ∷ xs) ys h f =
    let less : length (others x ys) < length ys = others-lt x ys (f x (here x xs)) in
    let more : length xs ≤ length (others x ys) = fewer xs (others x ys) h.1
    (λ z c. others_kept x ys z (f z (there x xs z c)) (below_differs x z (all_at (λ y. order x y ≡ Less) xs z h.0 c))) in
    omega (arith, less, more)

-- ---- each name once

pub once_has : (xs : List (List ℕ)) (z : List ℕ) → Contains xs z → Contains (once xs) z
once_has [] z h = absurd (nowhere z h)
once_has (x ∷ xs) z h = by (is_among xs x) refl (once_has xs) (cases_of x xs z h)
  where
    again : Found (bytes_eq x) xs → x ≡ z → Contains xs z
    again f e = subst (λ (w : List ℕ). Contains xs w) (sym (same_name x f.it f.passes) ∙ e) f.among

    by : (b : Bool) → is_among xs x ≡ b → ((w : List ℕ) → Contains xs w → Contains (once xs) w) → (x ≡ z) ⊎ Contains xs z → Contains (cond b (once xs) (x ∷ once xs)) z
    by true e more (inl f) = more z (again (found (bytes_eq x) xs e) f)
    by true e more (inr c) = more z c
    by false e more (inl f) = subst (λ (w : List ℕ). Contains (x ∷ once xs) w) f (here x (once xs))
    by false e more (inr c) = there x (once xs) z (more z c)

-- ---- elements

size_is : (r : Result (ℤ × ℤ) Fault) → size_of (bounds_or_empty r) ≡ size_in r
size_is (Ok b) = refl
size_is (Err fault) = refl

sizes_are : (d : Dialect) (s : Store) (bs : List (Expression × Expression)) → elements_of (map (λ b. bounds_or_empty (dimension_of d s b)) bs) ≡ product_of_sizes d s bs
sizes_are d s [] = refl
sizes_are d s (b ∷ bs) =
    ap (λ n. n * elements_of (map (λ c. bounds_or_empty (dimension_of d s c)) bs)) (size_is (dimension_of d s b)) ∙ ap (λ n. size_in (dimension_of d s b) * n) (sizes_are d s bs)

pub elements_are : (d : Dialect) (s : Store) (bs : List (Expression × Expression)) → array_elements (map (λ b. bounds_or_empty (dimension_of d s b)) bs) ≡ elements d s bs
elements_are d s [] = refl
elements_are d s (b ∷ bs) = sizes_are d s (b ∷ bs)

module _ (d : Dialect) (s : Store) where
  abbrev of_entities : List Entity → ℕ
  of_entities es = sum (map (elements d s) (map (λ (e : Entity). e.bounds) es))

  entities_appended : (es fs : List Entity) → of_entities (es ++ fs) ≡ of_entities es + of_entities fs
  entities_appended es fs =
      ap (λ bs. sum (map (elements d s) bs)) (map-append (λ (e : Entity). e.bounds) es fs)
      ∙ ap sum (map-append (elements d s) (map (λ (e : Entity). e.bounds) es) (map (λ (e : Entity). e.bounds) fs))
      ∙ sum_by-append (λ n. n) (map (elements d s) (map (λ (e : Entity). e.bounds) es)) (map (elements d s) (map (λ (e : Entity). e.bounds) fs))

  more_elements : (x : Labelled) (xs : List Labelled) → declared_elements d s (x ∷ xs) ≡ of_entities (entities_of x.statement) + declared_elements d s xs
  more_elements x xs =
      ap sum (map-append (elements d s) (bounds_declared x.statement) (flat_map (λ (y : Labelled). bounds_declared y.statement) xs))
      ∙ sum_by-append (λ n. n) (map (elements d s) (bounds_declared x.statement)) (map (elements d s) (flat_map (λ (y : Labelled). bounds_declared y.statement) xs))

  text_elements : (text : List Labelled) → of_entities (flat_map (λ (y : Labelled). entities_of y.statement) text) ≡ declared_elements d s text
  text_elements [] = refl
  text_elements (x ∷ xs) =
      entities_appended (entities_of x.statement) (flat_map (λ (y : Labelled). entities_of y.statement) xs)
      ∙ ap (λ n. of_entities (entities_of x.statement) + n) (text_elements xs)
      ∙ sym (more_elements x xs)

  -- the order of the statements doesn't matter
  pub turned_elements : (before text : List Labelled) → declared_elements d s (onto before text) ≡ declared_elements d s text + declared_elements d s before
  turned_elements before [] = omega arith
  turned_elements before (x ∷ xs) =
      let a = turned_elements (x ∷ before) xs in
      let b = more_elements x before in
      let c = more_elements x xs in
      omega (arith, a, b, c)

  -- ---- of names

  abbrev of_names : (List ℕ → List (Expression × Expression)) → List (List ℕ) → ℕ
  of_names f names = sum (map (λ x. elements d s (f x)) names)

  names_more : (f : List ℕ → List (Expression × Expression)) (x : List ℕ) (xs : List (List ℕ)) → of_names f (x ∷ xs) ≡ elements d s (f x) + of_names f xs
  names_more f x xs = sum_by-cons (λ n. n) (elements d s (f x)) (map (λ y. elements d s (f y)) xs)

  abbrev or_bounds : Entity → (List ℕ → List (Expression × Expression)) → List ℕ → List (Expression × Expression)
  or_bounds e f x = cond (has_bounds e.bounds && bytes_eq e.name x) e.bounds (f x)

  not_named : (e : Entity) (f : List ℕ → List (Expression × Expression)) (x : List ℕ) → bytes_eq e.name x ≡ false → or_bounds e f x ≡ f x
  not_named e f x h = by (has_bounds e.bounds) (bytes_eq e.name x) h
    where
      by : (a b : Bool) → b ≡ false → cond (a && b) e.bounds (f x) ≡ f x
      by true true h = absurd cc
      by true false h = refl
      by false b h = refl

  none_named : (e : Entity) (f : List ℕ → List (Expression × Expression)) (xs : List (List ℕ)) → AllByRecursion (λ x. bytes_eq e.name x ≡ false) xs → of_names (or_bounds e f) xs ≡ of_names f xs
  none_named e f [] h = refl
  none_named e f (x ∷ xs) h =
      let a = names_more (or_bounds e f) x xs in
      let b = names_more f x xs in
      let c = ap (elements d s) (not_named e f x h.0) in
      let more = none_named e f xs h.1 in
      omega (arith, a, b, c, more)

  no_more : (e : Entity) (f : List ℕ → List (Expression × Expression)) (x : List ℕ) → elements d s (or_bounds e f x) ≤ elements d s e.bounds + elements d s (f x)
  no_more e f x = by (has_bounds e.bounds && bytes_eq e.name x)
    where
      by : (b : Bool) → elements d s (cond b e.bounds (f x)) ≤ elements d s e.bounds + elements d s (f x)
      by true = omega arith
      by false = omega arith

  differ : (e : Entity) (x : List ℕ) (xs : List (List ℕ)) → e.name ≡ x → AllByRecursion (λ y. order x y ≡ Less) xs → AllByRecursion (λ y. bytes_eq e.name y ≡ false) xs
  differ e x xs f h = all_weaker (λ y. order x y ≡ Less) (λ y. bytes_eq e.name y ≡ false) (λ y k. other_names e.name y (λ g. below_differs x y k (sym f ∙ g))) xs h

  one_named : (e : Entity) (f : List ℕ → List (Expression × Expression)) (xs : List (List ℕ)) → IsInByteOrder xs → of_names (or_bounds e f) xs ≤ elements d s e.bounds + of_names f xs
  one_named e f [] h = omega arith
  one_named e f (x ∷ xs) h = by (bytes_eq e.name x) refl (one_named e f xs h.1) (names_more (or_bounds e f) x xs) (names_more f x xs)
    where
      by : (b : Bool) → bytes_eq e.name x ≡ b → of_names (or_bounds e f) xs ≤ elements d s e.bounds + of_names f xs
          → of_names (or_bounds e f) (x ∷ xs) ≡ elements d s (or_bounds e f x) + of_names (or_bounds e f) xs → of_names f (x ∷ xs) ≡ elements d s (f x) + of_names f xs
          → of_names (or_bounds e f) (x ∷ xs) ≤ elements d s e.bounds + of_names f (x ∷ xs)
      by true g more a b =
          let c = none_named e f xs (differ e x xs (same_name e.name x g) h.0) in
          let n = no_more e f x in
          omega (arith, a, b, c, n)
      by false g more a b =
          let c = ap (elements d s) (not_named e f x g) in
          omega (arith, a, b, c, more)

  nothing_named : (xs : List (List ℕ)) → of_names (λ x. []) xs ≡ 0
  nothing_named [] = refl
  nothing_named (x ∷ xs) =
      let a = names_more (λ y. []) x xs in
      let b = nothing_named xs in
      omega (arith, a, b)

  names_within : (es : List Entity) (xs : List (List ℕ)) → IsInByteOrder xs → of_names (bounds_among es) xs ≤ of_entities es
  names_within [] xs h = let a = nothing_named xs in omega (arith, a)
  names_within (e ∷ es) xs h =
      let a = one_named e (bounds_among es) xs h in
      let b = names_within es xs h in
      let c = sum_by-cons (λ n. n) (elements d s e.bounds) (map (elements d s) (map (λ (e : Entity). e.bounds) es)) in
      omega (arith, a, b, c)

  -- the arrays of names, none of which stands twice, have no more elements than the text declares
  pub names_of_text : (text : List Labelled) (xs : List (List ℕ)) → IsInByteOrder xs → of_names (bounds_of_name text) xs ≤ declared_elements d s text
  names_of_text text xs h =
      let a = names_within (flat_map (λ (y : Labelled). entities_of y.statement) text) xs h in
      let b = text_elements text in
      omega (arith, a, b)
