-- The declarations of a program as its text has them, and in byte order.
use Rattle.std.proofs.Common.{◌≡◌, ◌⊎◌, inl, inr, ℕ, ◌+◌, ◌≤◌, ◌^◌, ℤ, Bool, true, false, ◌||◌, cond, Option, None, Some, List, [], ◌∷◌, ◌++◌, length, refl, sym, ap, subst, ◌∙◌, arith, Contains, length-append}
use mathlib.Core.Path.{fun_ext}
use mathlib.Core.Logic.{⊎_elim}
use Rattle.std.specs.Prelude.{map, sum, FitsSigned}
use Rattle.std.specs.Int.{w64}
use Rattle.std.specs.Str.{bytes_eq}
use Rattle.std.specs.Cmp.Lexicographic.{slice_cmp}
use Rattle.std.specs.Ordering.{nat_cmp, is_eq}
use Rattle.std.specs.declared.cmp.Ordering.TheVariants.{Less}
use Rattle.std.proofs.lemmas.Slice.Eq.{bytes_eq-Decides}
use Rattle.std.proofs.lemmas.Map.Text.{is_eq-slice_cmp}
use Rattle.std.specs.List.{AllByRecursion, fold}
use Rattle.std.proofs.lemmas.List.Elements.{Contains-append_left, Contains-append_right, Contains-append_cases}
use Rattle.tree.specs.Limits as limits
use Rattle.tree.specs.Functions.{intrinsic_named}
use Rattle.tree.specs.Plain as tree
use Rattle.tree.specs.Plain.{Declaration, Program}
use Rattle.tree.specs.declared.ops.Kind.{Kind}
use Rattle.meaning.specs.Names.{IsInByteOrder}
use Rattle.meaning.specs.SymbolicNames.{IsLongName}
use Rattle.meaning.specs.Typed.{declared, dimensions}
use Rattle.meaning.specs.Extents.{array_elements}
use Rattle.meaning.specs.Profile90.{IsExtent, IsDeclaration, AreDeclarations}
use Rattle.meaning.specs.Extents.{IsDimension}
use Rattle.meaning_laws.proofs.profiles.Names.{found, not_declared, once}
use Rattle.f90_grammar.specs.Forms as forms
use Rattle.f90_grammar.specs.Forms.{Form90, EntityForm90, Dimension, SuitsAllocatable, has_dimensions, IsEntity90, IsWritten90}
use Rattle.reading.specs.Characters.{IsList}
use Rattle.f90_grammar.specs.Words.{Word90}
use Rattle.f90_grammar.specs.Blocks.{Placed}
use Rattle.f90_grammar.specs.Reading.{declares, dimension_bounds, extent_of_dimensions, entity_declaration, function_by}
use Rattle.f90_grammar.specs.Programs.{IsProgramOf}
use Rattle.f90_grammar.specs.Declared.{declarations_in, declarations_of}
use Rattle.f90_grammar.specs.Bounds.{HasBounds}
use Rattle.f90_laws.proofs.readings.Lists.{here, there, nowhere, cases_of, all_both, all_at}
use Rattle.f90_laws.proofs.readings.Decisions.{Decided, like, both, below, all_of}
use lib.Signed.{mag}
use Rattle.f90_laws.proofs.readings.WordFacts.{IsWell}

-- ---- what a name is declared as

pub both_declare : (ds es : List Declaration) (x : List ℕ) → ((d : Declaration) → Contains ds d → Contains es d) → ((d : Declaration) → Contains es d → Contains ds d)
    → IsInByteOrder (map (λ (d : Declaration). d.name) es) → declared ds x ≡ declared es x
both_declare ds es x to from sorted = by (declared ds x) refl (declared es x) refl
  where
    by : (o : Option Declaration) → declared ds x ≡ o → (p : Option Declaration) → declared es x ≡ p → declared ds x ≡ declared es x
    by (Some d) e p f =
        let h = found ds x d e in
        e ∙ (sym (once es d sorted (to d h.among)) ∙ ap (declared es) h.name)
    by None e None f = e ∙ sym f
    by None e (Some d) f = let h = found es x d f in absurd (not_declared ds x d e (from d h.among) h.name)

declares_is : (ds : List Declaration) (x : List ℕ) (o : Option Declaration) → declared ds x ≡ o → declares ds x ≡ elim o as (λ p. Bool) [ None ↦ false | Some d ↦ true ]
declares_is [] x None e = refl
declares_is [] x (Some d) e = cc
declares_is (d ∷ ds) x o e = by (bytes_eq d.name x) o e (λ e. declares_is ds x o e)
  where
    by : (b : Bool) (o : Option Declaration) → cond b (Some d) (declared ds x) ≡ o → (declared ds x ≡ o → declares ds x ≡ elim o as (λ p. Bool) [ None ↦ false | Some d ↦ true ])
        → (b || declares ds x) ≡ elim o as (λ p. Bool) [ None ↦ false | Some d ↦ true ]
    by true None e next = cc
    by true (Some f) e next = refl
    by false o e next = next e

pub same_functions : (ds es : List Declaration) → ((x : List ℕ) → declared ds x ≡ declared es x) → function_by ds ≡ function_by es
same_functions ds es alike =
    fun_ext (λ x. ap (λ b. cond b None (intrinsic_named x)) (declares_is ds x (declared es x) (alike x) ∙ sym (declares_is es x (declared es x) refl)))

pub alike_in : (ps : List Placed) (q : Program) → IsProgramOf ps q → (x : List ℕ) → declared (declarations_of ps) x ≡ declared q.declarations x
alike_in ps q h x = both_declare (declarations_of ps) q.declarations x (λ d. (h.each d).0) (λ d. (h.each d).1) h.sorted

-- ---- sums over the same declarations

record IsSplit {A : Type 0} (xs : List A) (x : A) : Type 0 where
  front : List A
  back : List A
  same : xs ≡ front ++ x ∷ back

split_at : {A : Type 0} (xs : List A) (x : A) → Contains xs x → IsSplit xs x
split_at [] x h = absurd (nowhere x h)
split_at (y ∷ ys) x h = by (cases_of y ys x h) (λ c. split_at ys x c)
  where
    by : (y ≡ x) ⊎ Contains ys x → (Contains ys x → IsSplit ys x) → IsSplit (y ∷ ys) x
    by (inl e) next = record { front = []; back = ys; same = ap (λ z. z ∷ ys) e }
    by (inr c) next = let s = next c in record { front = y ∷ s.front; back = s.back; same = ap (λ zs. y ∷ zs) s.same }

abbrev AreApart : {A : Type 0} → List A → Type 0
AreApart [] = Unit {0}
AreApart (x ∷ xs) = (Contains xs x → ⊥) × AreApart xs

sum_from : (a : ℕ) (xs : List ℕ) → fold (λ s x. s + x) a xs ≡ a + fold (λ s x. s + x) 0 xs
sum_from a [] = omega arith
sum_from a (x ∷ xs) = omega (arith, sum_from (a + x) xs, sum_from (0 + x) xs)

sum-cons : (x : ℕ) (xs : List ℕ) → sum (x ∷ xs) ≡ x + sum xs
sum-cons x xs = omega (arith, sum_from (0 + x) xs)

sum_around : {A : Type 0} (f : A → ℕ) (front back : List A) (x : A) → sum (map f (front ++ x ∷ back)) ≡ f x + sum (map f (front ++ back))
sum_around f [] back x = sum-cons (f x) (map f back)
sum_around f (y ∷ ys) back x = omega (arith, sum_around f ys back x, sum-cons (f y) (map f (ys ++ x ∷ back)), sum-cons (f y) (map f (ys ++ back)))

without : {A : Type 0} (front back : List A) (x y : A) → Contains (front ++ x ∷ back) y → (x ≡ y → ⊥) → Contains (front ++ back) y
without front back x y h n = by (Contains-append_cases front (x ∷ back) y h)
  where
    behind : (x ≡ y) ⊎ Contains back y → Contains (front ++ back) y
    behind (inl e) = absurd (n e)
    behind (inr c) = Contains-append_right front back y c

    by : Contains front y ⊎ Contains (x ∷ back) y → Contains (front ++ back) y
    by (inl c) = Contains-append_left front back y c
    by (inr c) = behind (cases_of x back y c)

same_sum : {A : Type 0} (f : A → ℕ) (qs ds : List A) → AreApart qs → ((x : A) → Contains qs x → Contains ds x) → length ds ≡ length qs → sum (map f ds) ≡ sum (map f qs)
same_sum f [] [] a c l = refl
same_sum f [] (d ∷ ds) a c l = absurd (omega (arith, l))
same_sum {A} f (q ∷ qs) ds a c l =
    let s = split_at ds q (c q (here q qs)) in
    let fewer : length (s.front ++ s.back) ≡ length qs = omega (arith, l, ap length s.same, length-append s.front (q ∷ s.back), length-append s.front s.back) in
    let inside : (x : A) → Contains qs x → Contains (s.front ++ s.back) x =
    λ x h. without s.front s.back q x (subst (λ zs. Contains zs x) s.same (c x (there q qs x h))) (λ e. a.0 (subst (λ z. Contains qs z) (sym e) h)) in
    ap (λ zs. sum (map f zs)) s.same ∙ (sum_around f s.front s.back q ∙ (ap (λ n. f q + n) (same_sum f qs (s.front ++ s.back) a.1 inside fewer) ∙ sym (sum-cons (f q) (map f qs))))

-- in byte order none stands twice
below_itself : (d e : Declaration) → slice_cmp nat_cmp d.name e.name ≡ Less → e ≡ d → ⊥
below_itself d e h s =
    let apart : bytes_eq d.name e.name ≡ false = sym (is_eq-slice_cmp d.name e.name) ∙ ap is_eq h in
    let same : bytes_eq d.name e.name ≡ true = (bytes_eq-Decides d.name e.name).1 (ap (λ (f : Declaration). f.name) (sym s)) in
    cc

not_again : (d : Declaration) (ds : List Declaration) → AllByRecursion (λ y. slice_cmp nat_cmp d.name y ≡ Less) (map (λ (d : Declaration). d.name) ds) → Contains ds d → ⊥
not_again d [] a c = nowhere d c
not_again d (e ∷ es) a c = ⊎_elim (λ s. below_itself d e a.0 s) (λ k. not_again d es a.1 k) (cases_of e es d c)

sorted_apart : (ds : List Declaration) → IsInByteOrder (map (λ (d : Declaration). d.name) ds) → AreApart ds
sorted_apart [] h = tt
sorted_apart (d ∷ ds) h = (λ c. not_again d ds h.0 c, sorted_apart ds h.1)

-- ---- declarations of the profile

dimension_fits : (b : ℤ × ℤ) → Decided (IsDimension b)
dimension_fits b = like (λ h. record { lower = h.0; upper = h.1 }) (λ h. (h.lower, h.upper)) (both (fits b.0) (fits b.1))
  where
    fits : (z : ℤ) → Decided (FitsSigned w64 z)
    fits z = like (λ h. record { sfits = h }) (λ h. h.sfits) (below (mag z) (2 ^ 63))

pub bounds_fit : (ds : List Declaration) → Decided (AllByRecursion HasBounds ds)
bounds_fit ds = all_of HasBounds (λ d. all_of IsDimension dimension_fits (dimensions d.extent)) ds

map_length : {A B : Type 0} (f : A → B) (xs : List A) → length (map f xs) ≡ length xs
map_length f [] = refl
map_length f (x ∷ xs) = omega (arith, map_length f xs)

some_dimensions : (ds : List Dimension) → IsList (SuitsAllocatable true) ds → 1 ≤ length ds
some_dimensions [] h = absurd h
some_dimensions (d ∷ ds) h = omega arith

extent_good : (a : Bool) (ds : List Dimension) → has_dimensions a ds → AllByRecursion IsDimension (dimensions (extent_of_dimensions a ds)) → IsExtent (extent_of_dimensions a ds)
extent_good true ds h g = (some_dimensions ds h.0, h.1)
extent_good false ds h g = let few : length ds ≤ 7 = h.1 in (omega (arith, map_length dimension_bounds ds), g)

entities_good : (k : Kind) (a : Bool) (es : List EntityForm90) → AllByRecursion (IsEntity90 a) es → AllByRecursion (λ (e : EntityForm90). IsLongName e.name) es
    → AllByRecursion HasBounds (map (entity_declaration k a) es) → AllByRecursion IsDeclaration (map (entity_declaration k a) es)
entities_good k a [] h n b = tt
entities_good k a (e ∷ es) h n b = (record { name = n.0; extent = extent_good a e.dimensions h.0 b.0 }, entities_good k a es h.1 n.1 b.1)

listed_entities : (a : Bool) (es : List EntityForm90) → IsList (IsEntity90 a) es → AllByRecursion (IsEntity90 a) es
listed_entities a [] h = absurd h
listed_entities a (e ∷ es) h = h

pub form_declares : (f : Form90) (ws : List Word90) → IsWritten90 f ws → IsWell f → AllByRecursion HasBounds (declarations_in f) → AllByRecursion IsDeclaration (declarations_in f)
form_declares (forms.Declare k a es) ws w h fit = entities_good k a es (listed_entities a es w.1) h fit
form_declares (forms.Program x) ws w h fit = tt
form_declares forms.ImplicitNone ws w h fit = tt
form_declares (forms.Assign l r) ws w h fit = tt
form_declares (forms.Where m l r) ws w h fit = tt
form_declares (forms.Test p f) ws w h fit = tt
form_declares (forms.If p) ws w h fit = tt
form_declares (forms.ElseIf p) ws w h fit = tt
form_declares forms.Else ws w h fit = tt
form_declares forms.EndIf ws w h fit = tt
form_declares (forms.Do x a b c) ws w h fit = tt
form_declares forms.EndDo ws w h fit = tt
form_declares (forms.Continue digits) ws w h fit = tt
form_declares (forms.Go digits) ws w h fit = tt
form_declares forms.Stop ws w h fit = tt
form_declares (forms.Read is) ws w h fit = tt
form_declares forms.ReadNothing ws w h fit = tt
form_declares (forms.Print is) ws w h fit = tt
form_declares forms.PrintNothing ws w h fit = tt
form_declares (forms.Allocate x es) ws w h fit = tt
form_declares (forms.Deallocate x) ws w h fit = tt
form_declares forms.End ws w h fit = tt
form_declares (forms.EndProgram x) ws w h fit = tt

pub all_declare : (ps : List Placed) → AllByRecursion (λ (p : Placed). AllByRecursion IsDeclaration (declarations_in p.form)) ps → AllByRecursion IsDeclaration (declarations_of ps)
all_declare [] h = tt
all_declare (p ∷ ps) h = all_both IsDeclaration (declarations_in p.form) (declarations_of ps) h.0 (all_declare ps h.1)

-- what holds of each of the one holds of each of the other
among : (P : Declaration → Type 0) (ds qs : List Declaration) → AllByRecursion P ds → ((d : Declaration) → Contains qs d → Contains ds d) → AllByRecursion P qs
among P ds [] h c = tt
among P ds (q ∷ qs) h c = (all_at P ds q h (c q (here q qs)), among P ds qs h (λ d k. c d (there q qs d k)))

pub are_declarations : (ps : List Placed) (q : Program) → IsProgramOf ps q → AllByRecursion IsDeclaration (declarations_of ps)
    → sum (map (λ (d : Declaration). array_elements (dimensions d.extent)) (declarations_of ps)) ≤ limits.most_array_elements → AreDeclarations q.declarations
are_declarations ps q h each few =
    let size = λ (d : Declaration). array_elements (dimensions d.extent) in
    let sums = same_sum size q.declarations (declarations_of ps) (sorted_apart q.declarations h.sorted) (λ d. (h.each d).1) h.once in
    record {
      each = among IsDeclaration (declarations_of ps) q.declarations each (λ d. (h.each d).1);
      ordered = h.sorted;
      elements = subst (λ n. n ≤ limits.most_array_elements) sums few;
    }
