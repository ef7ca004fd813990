-- The declarations among the statements of a printed program are those of the tree: none comes again, and their limits
-- are kept.
use Rattle.std.proofs.Common.{◌≡◌, refl, sym, ap, subst, ◌∙◌, ℕ, ◌+◌, ◌≤◌, arith, Bool, true, false, List, [], ◌∷◌, ◌++◌, map, append_assoc}
use Rattle.std.specs.Prelude.{sum}
use Rattle.std.specs.List.{AllByRecursion}
use Rattle.std.specs.Str.{bytes_eq}
use Rattle.std.specs.Cmp.Lexicographic.{slice_cmp}
use Rattle.std.specs.Ordering.{nat_cmp, is_eq}
use Rattle.std.specs.declared.cmp.Ordering.TheVariants.{Less}
use Rattle.std.proofs.lemmas.Grind.{flat_map-append}
use Rattle.std.proofs.lemmas.List.{map-append}
use Rattle.std.proofs.lemmas.List.Sums.{sum_by-append}
use Rattle.std.proofs.lemmas.Map.Text.{is_eq-slice_cmp}
use Rattle.std.proofs.lemmas.Slice.Eq.{bytes_eq-Decides}
use Rattle.tree.specs.Plain.{Declaration, Extent, Given, Later}
use Rattle.meaning.specs.Names.{is_among, IsInByteOrder}
use Rattle.meaning.specs.Typed.{dimensions}
use Rattle.meaning.specs.Extents.{array_elements}
use Rattle.meaning.specs.Profile90.{IsDeclaration, IsExtent}
use Rattle.meaning.specs.Extents.{IsDimension}
use Rattle.f90_grammar.specs.Blocks.{Placed}
use Rattle.f90_grammar.specs.Reading.{entity_declaration}
use Rattle.f90_grammar.specs.Declared.{declarations_in, declarations_of, declared_names_of, is_repeated, declares_again}
use Rattle.f90_grammar.specs.Order.{Place90, IsPlaceIn}
use Rattle.f90_grammar.specs.Bounds.{HasBounds, declared_up_to}
use Rattle.f90_laws.proofs.printed.PrintedParts.{AreDeclared}
use Rattle.f90_laws.proofs.printed.PrintedParts.AreDeclared.{none as nothing, more}
use Rattle.f90_laws.proofs.readings.Lists.{all_left, all_right, both_false}

-- ---- which declarations there are

abbrev pub DeclareNothing : List Placed → Type 0
DeclareNothing ps = AllByRecursion (λ (p : Placed). declarations_in p.form ≡ []) ps

pub nothing_declared : (ps : List Placed) → DeclareNothing ps → declarations_of ps ≡ []
nothing_declared [] h = refl
nothing_declared (p ∷ ps) h = ap (λ ds. ds ++ declarations_of ps) h.0 ∙ nothing_declared ps h.1

pub all_declared : (ps : List Placed) (ds : List Declaration) → AreDeclared ps ds → declarations_of ps ≡ ds
all_declared ps ds nothing = refl
all_declared ps ds (more line k a es rest others h) = ap (λ xs. map (entity_declaration k a) es ++ xs) (all_declared rest others h)

pub declared_both : (xs ys : List Placed) → declarations_of (xs ++ ys) ≡ declarations_of xs ++ declarations_of ys
declared_both xs ys = flat_map-append (λ (p : Placed). declarations_in p.form) xs ys

-- ---- at a place

declared_at : (ps : List Placed) (p : Place90) → IsPlaceIn ps p → declarations_of ps ≡ declarations_of p.before ++ (declarations_in p.here.form ++ declarations_of p.after)
declared_at ps p h = ap declarations_of h ∙ declared_both p.before (p.here ∷ p.after)

-- ---- none twice

abbrev Below : List ℕ → List ℕ → Type 0
Below x y = slice_cmp nat_cmp x y ≡ Less

below_apart : (x y : List ℕ) → Below x y → bytes_eq y x ≡ false
below_apart x y h = by (bytes_eq y x) refl
  where
    by : (b : Bool) → bytes_eq y x ≡ b → b ≡ false
    by false e = refl
    by true e =
        let f : y ≡ x = (bytes_eq-Decides y x).0 e in
        let g : bytes_eq x x ≡ false = sym (is_eq-slice_cmp x x) ∙ ap is_eq (subst (λ (z : List ℕ). slice_cmp nat_cmp x z ≡ Less) f h) in
        let k : bytes_eq x x ≡ true = (bytes_eq-Decides x x).1 refl in
        absurd cc

-- each of the names stands below all of these
abbrev AllBelow : List (List ℕ) → List (List ℕ) → Type 0
AllBelow earlier xs = AllByRecursion (λ x. AllByRecursion (Below x) xs) earlier

tail_below : (earlier : List (List ℕ)) (x : List ℕ) (xs : List (List ℕ)) → AllBelow earlier (x ∷ xs) → AllBelow earlier xs
tail_below [] x xs h = tt
tail_below (e ∷ es) x xs h = (h.0.1, tail_below es x xs h.1)

not_among : (earlier : List (List ℕ)) (x : List ℕ) (xs : List (List ℕ)) → AllBelow earlier (x ∷ xs) → is_among earlier x ≡ false
not_among [] x xs h = refl
not_among (e ∷ es) x xs h = both_false (bytes_eq x e) (is_among es x) (below_apart e x h.0.0) (not_among es x xs h.1)

no_repeat : (earlier xs : List (List ℕ)) → AllBelow earlier xs → IsInByteOrder xs → is_repeated earlier xs ≡ false
no_repeat earlier [] h o = refl
no_repeat earlier (x ∷ xs) h o =
    both_false (is_among earlier x) (is_repeated (x ∷ earlier) xs) (not_among earlier x xs h) (no_repeat (x ∷ earlier) xs (o.0, tail_below earlier x xs h) o.1)

order_left : (xs ys : List (List ℕ)) → IsInByteOrder (xs ++ ys) → IsInByteOrder xs
order_left [] ys h = tt
order_left (x ∷ xs) ys h = (all_left (Below x) xs ys h.0, order_left xs ys h.1)

order_right : (xs ys : List (List ℕ)) → IsInByteOrder (xs ++ ys) → IsInByteOrder ys
order_right [] ys h = h
order_right (x ∷ xs) ys h = order_right xs ys h.1

below_right : (xs ys zs : List (List ℕ)) → IsInByteOrder (xs ++ (ys ++ zs)) → AllBelow xs ys
below_right [] ys zs h = tt
below_right (x ∷ xs) ys zs h = (all_left (Below x) ys zs (all_right (Below x) xs (ys ++ zs) h.0), below_right xs ys zs h.1)

names_both : (xs ys : List Declaration) → declared_names_of (xs ++ ys) ≡ declared_names_of xs ++ declared_names_of ys
names_both [] ys = refl
names_both (x ∷ xs) ys = ap (λ ns. x.name ∷ ns) (names_both xs ys)

pub declared_once : (ps : List Placed) → IsInByteOrder (declared_names_of (declarations_of ps)) → (p : Place90) → IsPlaceIn ps p → declares_again p.before p.here.form ≡ false
declared_once ps h p place =
    let a = declared_names_of (declarations_of p.before) in
    let b = declared_names_of (declarations_in p.here.form) in
    let c = declared_names_of (declarations_of p.after) in
    let e : declared_names_of (declarations_of ps) ≡ a ++ (b ++ c) =
    ap declared_names_of (declared_at ps p place) ∙ (names_both (declarations_of p.before) (declarations_in p.here.form ++ declarations_of p.after)
    ∙ ap (λ ns. a ++ ns) (names_both (declarations_in p.here.form) (declarations_of p.after))) in
    let o : IsInByteOrder (a ++ (b ++ c)) = subst IsInByteOrder e h in
    no_repeat a b (below_right a b c o) (order_left b c (order_right a (b ++ c) o))

-- ---- limits

bounds : (d : Declaration) → IsDeclaration d → HasBounds d
bounds d h = by d.extent h.extent
  where
    by : (e : Extent) → IsExtent e → AllByRecursion IsDimension (dimensions e)
    by (Given bs) k = k.1
    by (Later n) k = tt

all_bounds : (ds : List Declaration) → AllByRecursion IsDeclaration ds → AllByRecursion HasBounds ds
all_bounds [] h = tt
all_bounds (d ∷ ds) h = (bounds d h.0, all_bounds ds h.1)

pub has_bounds : (ps : List Placed) → AllByRecursion IsDeclaration (declarations_of ps) → (p : Place90) → IsPlaceIn ps p → AllByRecursion HasBounds (declarations_in p.here.form)
has_bounds ps h p place =
    let all = subst (λ (ds : List Declaration). AllByRecursion HasBounds ds) (declared_at ps p place) (all_bounds (declarations_of ps) h) in
    all_left HasBounds (declarations_in p.here.form) (declarations_of p.after) (all_right HasBounds (declarations_of p.before) (declarations_in p.here.form ++ declarations_of p.after) all)

abbrev elements : List Declaration → ℕ
elements ds = sum (map (λ (d : Declaration). array_elements (dimensions d.extent)) ds)

elements_both : (xs ys : List Declaration) → elements (xs ++ ys) ≡ elements xs + elements ys
elements_both xs ys =
    let f : Declaration → ℕ = λ d. array_elements (dimensions d.extent) in
    ap sum (map-append f xs ys) ∙ sum_by-append (λ n. n) (map f xs) (map f ys)

pub few_elements : (ps : List Placed) (p : Place90) → IsPlaceIn ps p → elements (declared_up_to p) ≤ elements (declarations_of ps)
few_elements ps p place =
    let e = elements_both (declared_up_to p) (declarations_of p.after) in
    let g : declarations_of ps ≡ declared_up_to p ++ declarations_of p.after =
    ap declarations_of place ∙ (ap declarations_of (sym (append_assoc p.before (p.here ∷ []) p.after)) ∙ declared_both (p.before ++ p.here ∷ []) p.after) in
    let k = ap elements g in
    omega arith
