-- How many elements dimensions make, with a cap.
use Rattle.std.proofs.Common.{◌≡◌, ◌∙◌, ap, sym, refl, ℕ, suc, zero, ◌+◌, ◌*◌, ◌<◌, ◌≤◌, ℤ, Result, List, ◌∷◌, length, map, drop, get_or, add-one, ◌++◌, ◌^◌, true, false, arith}
use Rattle.std.specs.List.{flat_map}
use Rattle.std.proofs.lemmas.List.Sums.{sum-map, sum_by-cons, sum_by-append}
use Rattle.std.proofs.lemmas.Bool.Decides.{nat_tests}
use Rattle.std.specs.Prelude.{sum, sum_by, nat_lt}
use Rattle.std.proofs.Math.Seq.{drop-cons}
use Rattle.tree.specs.Plain.{Expression}
use Rattle.tree.specs.declared.ops.Fault.{Fault}
use Rattle.tree.specs.declared.exprs.Expr.{Expr}
use Rattle.meaning.specs.Store.{Store}
use Rattle.f77_grammar.specs.Statement77.{Labelled}
use Rattle.f77_grammar.specs.program.Limits.{dimension_of, size_in, product_of_sizes, elements, entities_of, bounds_declared, declared_elements}
use Rattle.f77_grammar.specs.declared.syntax.statements.Entity.{Entity as Entity'}
use Rattle.f77_grammar.specs.syntax.Views.{bounds_of, entity_of, statement_of, labelled_of, text_of}
use Rattle.f77_grammar.specs.declared.syntax.statements.Labelled.{Labelled as Labelled'}
use Rattle.f77_grammar.specs.syntax.Walk.{passed}
use Rattle.meaning.specs.Dialect.{fortran77}
use Rattle.tree.specs.declared.width.Width.{Width}
use Rattle.f77_names.specs.constants.Bounds.{bounds_in}
use Rattle.meaning.specs.element_counts.Counts.{capped}

pub left : {A : Type 0} (xs : List A) (i : ℕ) (x : A) → i < length xs → x ≡ get_or xs i x → drop i xs ≡ x ∷ drop (i + 1) xs
left xs i x h e = rw (add-one, drop-cons xs i x h, ← e) refl

sum_cons : {A : Type 0} (f : A → ℕ) (x : A) (xs : List A) → sum (map f (x ∷ xs)) ≡ f x + sum (map f xs)
sum_cons f x xs = sum-map f (x ∷ xs) ∙ sum_by-cons f x xs ∙ ap (λ n. f x + n) (sym (sum-map f xs))

sum_append : {A : Type 0} (f : A → ℕ) (xs ys : List A) → sum (map f (xs ++ ys)) ≡ sum (map f xs) + sum (map f ys)
sum_append f xs ys =
    sum-map f (xs ++ ys) ∙ sum_by-append f xs ys ∙ ap (λ n. n + sum_by f ys) (sym (sum-map f xs)) ∙ ap (λ n. sum (map f xs) + n) (sym (sum-map f ys))

pub capped_once : (n : ℕ) → capped n ≡ capped (capped n)
capped_once n = omega arith

capped_sum : (a n rest : ℕ) → capped (a + (n + rest)) ≡ capped (capped (a + capped n) + rest)
capped_sum a n rest = omega arith

capped_factor : (a b : ℕ) → capped (a * b) ≡ capped (capped a * b)
capped_factor a zero = grind arith
capped_factor a (suc k) = grind arith

capped_product : (a n rest : ℕ) → capped (a * (n * rest)) ≡ capped (capped (a * capped n) * rest)
capped_product a n rest =
    let same : a * (n * rest) ≡ n * (a * rest) = grind arith in
    let turned : capped n * (a * rest) ≡ (a * capped n) * rest = grind arith in
    ap capped same ∙ capped_factor n (a * rest) ∙ ap capped turned ∙ capped_factor (a * capped n) rest

-- one dimension more
pub product_more : (width : Width) (s : Store) (dims : List (Expr × Expr)) (i : ℕ) (x : Expr × Expr) (all product size more : ℕ) (d : Result (ℤ × ℤ) Fault) → i < length dims → x ≡ get_or dims i x
    → all ≡ capped (product * product_of_sizes (fortran77 width) s (map bounds_of (drop i dims))) → d ≡ dimension_of (fortran77 width) s (bounds_of x) → size ≡ capped (size_in d) → more ≡ capped (product * size)
    → all ≡ capped (more * product_of_sizes (fortran77 width) s (map bounds_of (drop (i + 1) dims)))
product_more width s dims i x all product size more d h k old dimension is new =
    old ∙ ap (λ bs. capped (product * product_of_sizes (fortran77 width) s (map bounds_of bs))) (left dims i x h k)
    ∙ capped_product product (size_in (dimension_of (fortran77 width) s (bounds_of x))) (product_of_sizes (fortran77 width) s (map bounds_of (drop (i + 1) dims)))
    ∙ ap (λ n. capped (n * product_of_sizes (fortran77 width) s (map bounds_of (drop (i + 1) dims)))) (sym (new ∙ ap (λ n. capped (product * n)) (is ∙ ap (λ r. capped (size_in r)) dimension)))

-- one array more
pub sum_more : (width : Width) (s : Store) (es : List Entity') (i : ℕ) (x : Entity') (all count here more : ℕ) → i < length es → x ≡ get_or es i x
    → all ≡ capped (count + sum (map (elements (fortran77 width) s) (bounds_in (map entity_of (drop i es))))) → here ≡ capped (elements (fortran77 width) s (map bounds_of x.dims)) → more ≡ capped (count + here)
    → all ≡ capped (more + sum (map (elements (fortran77 width) s) (bounds_in (map entity_of (drop (i + 1) es)))))
sum_more width s es i x all count here more h k old is new =
    old ∙ ap (λ ts. capped (count + sum (map (elements (fortran77 width) s) (bounds_in (map entity_of ts))))) (left es i x h k)
    ∙ ap (λ n. capped (count + n)) (sum_cons (elements (fortran77 width) s) (map bounds_of x.dims) (bounds_in (map entity_of (drop (i + 1) es))))
    ∙ capped_sum count (elements (fortran77 width) s (map bounds_of x.dims)) (sum (map (elements (fortran77 width) s) (bounds_in (map entity_of (drop (i + 1) es)))))
    ∙ ap (λ n. capped (n + sum (map (elements (fortran77 width) s) (bounds_in (map entity_of (drop (i + 1) es)))))) (sym (new ∙ ap (λ n. capped (count + n)) is))

-- one statement more
count_more : (width : Width) (s : Store) (x : Labelled) (before : List Labelled) (here count more : ℕ) → here ≡ capped (sum (map (elements (fortran77 width) s) (bounds_declared x.statement)))
    → count ≡ capped (declared_elements (fortran77 width) s before) → more ≡ capped (count + here) → more ≡ capped (declared_elements (fortran77 width) s (x ∷ before))
count_more width s x before here count more e f g =
    let b : List (List (Expression × Expression)) = flat_map (λ (y : Labelled). bounds_declared y.statement) before in
    let parts : declared_elements (fortran77 width) s (x ∷ before) ≡ sum (map (elements (fortran77 width) s) (bounds_declared x.statement)) + declared_elements (fortran77 width) s before =
    sum_append (elements (fortran77 width) s) (bounds_declared x.statement) b in
    g ∙ both (sum (map (elements (fortran77 width) s) (bounds_declared x.statement))) (declared_elements (fortran77 width) s before) here count e f ∙ ap capped (sym parts)
  where
    both : (a b here count : ℕ) → here ≡ capped a → count ≡ capped b → capped (count + here) ≡ capped (a + b)
    both a b here count e f = omega arith

pub count_at : (width : Width) (s : Store) (xs : List Labelled') (i : ℕ) (x : Labelled') (es : List Entity') (here count more : ℕ) → here ≡ capped (sum (map (elements (fortran77 width) s) (bounds_in (map entity_of es))))
    → map entity_of es ≡ entities_of (statement_of x.statement) → count ≡ capped (declared_elements (fortran77 width) s (passed (text_of xs) i)) → more ≡ capped (count + here)
    → more ≡ capped (declared_elements (fortran77 width) s (labelled_of x ∷ passed (text_of xs) i))
count_at width s xs i x es here count more e f g h =
    count_more width s (labelled_of x) (passed (text_of xs) i) here count more (e ∙ ap (λ ts. capped (sum (map (elements (fortran77 width) s) (bounds_in ts)))) f) g h

-- more than 2^22, by the capped count
pub are_many : (n count : ℕ) → count ≡ capped n → 4194304 < count → nat_lt (2 ^ 22) n ≡ true
are_many n count e h = let k : 4194304 < n = omega arith in grind (arith, nat_tests)

pub are_few : (n count : ℕ) → count ≡ capped n → count ≤ 4194304 → nat_lt (2 ^ 22) n ≡ false
are_few n count e h = let k : n ≤ 4194304 = omega arith in grind (arith, nat_tests)
