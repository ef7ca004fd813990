-- Counters and masks as made names.
use Rattle.std.proofs.Common.{◌≡◌, ◌⊎◌, inl, inr, refl, sym, ap, subst, ◌∙◌, ℕ, zero, suc, ◌+◌, ◌%◌, ◌^◌, ◌≤◌, ◌<◌, ◌==◌}
use Rattle.std.proofs.Common.{Bool, true, false, ◌&&◌, ◌||◌, Some, List, [], ◌∷◌, ◌++◌, length, length-append, map, Contains, arith}
use Rattle.std.specs.Prelude.{codes, decimal, nat_le, slice_index_or}
use Rattle.std.specs.List.{AllByRecursion, list_all}
use Rattle.std.proofs.lemmas.Bool.Decides.{nat_tests}
use Rattle.std.proofs.lemmas.Fmt.{decimal_by_steps, length-decimal-le}
use Rattle.std.proofs.lemmas.List.Elements.{Contains-append_cases}
use Rattle.std.proofs.lemmas.List.Folds.{list_all-append}
use Rattle.find_nests.specs.Found.{InNest, found_in}
use Rattle.if_convert.specs.Masks.{mask_name}
use Rattle.last_values.specs.normal_forms.NormalLoops.{counter_name}
use Rattle.meaning.specs.Dialect.{fortran77}
use Rattle.tree.specs.declared.width.Width.{Width}
use Rattle.meaning.specs.Profile77.{IsProgram77}
use Rattle.meaning.specs.SymbolicNames.{is_digit, is_letter}
use Rattle.meaning_laws.proofs.arrays.Members.{of_map}
use Rattle.meaning_laws.proofs.profiles.Lists.{all_at, here, there}
use Rattle.meaning_laws.specs.profiles.Profiles.{AddMadeNames}
use Rattle.nest.specs.Bodies.{loops_in_branches, loops_in_parts, loops_of, nest_loops}
use Rattle.nest.specs.Plain.{Branches, Choice, Jump, Label, Loop, Nest, Part, Parts, Run, Turns, branch}
use Rattle.nest.specs.Plain.{no_branches, no_parts, part}
use Rattle.normal_loops.specs.Normalised.{normalised}
use Rattle.pass_laws.proofs.FoundSources.Counters.{no_counter}
use Rattle.pass_laws.proofs.NormalFacts.FoundStatements.{found_body}
use Rattle.pass_laws.proofs.NormalFacts.LoopWalk.{EachLoop, EachLoopIn, EachLoopUnder}
use Rattle.pass_laws.proofs.NormalFacts.MadeStatements.{IsMadeLoop, made_loops}
use Rattle.pass_laws.proofs.ReadyNests.Made.{made_of}
use Rattle.tree.specs.Plain.{Declaration, Program}
use Rattle.tree.specs.declared.ops.Kind.TheVariants.{Integer, Logical}
use Rattle.prepared_passes.proofs.ConvertedNests.Declaring.{IsMadeDeclaration, scalar_of}
use Rattle.prepared_passes.proofs.ConvertedNests.Walk.{mask_long}

-- ---- a number behind a stem is a name

abbrev pub stands_in_name : ℕ → Bool
stands_in_name c = is_letter c || is_digit c || c == 95

second_of : (a b c : Bool) → b ≡ true → (a || b || c) ≡ true
second_of true b c h = refl
second_of false true c h = refl
second_of false false c h = let no : ⊥ = cc in absurd no

pub both_true : (a b : Bool) → a ≡ true → b ≡ true → (a && b) ≡ true
both_true true b h k = k
both_true false b h k = let no : ⊥ = cc in absurd no

at_least : (n : ℕ) → nat_le 48 (48 + n) ≡ true
at_least n = grind (arith, nat_tests)

at_most : (n : ℕ) → n < 10 → nat_le (48 + n) 57 ≡ true
at_most n h = grind (arith, nat_tests)

digit_stands : (n : ℕ) → n < 10 → stands_in_name (48 + n) ≡ true
digit_stands n h =
    second_of (is_letter (48 + n)) (is_digit (48 + n)) ((48 + n) == 95)
    (both_true (nat_le 48 (48 + n)) (nat_le (48 + n) 57) (at_least n) (at_most n h))

decimal_stands : (n : ℕ) → n < 2 ^ 64 → list_all stands_in_name (decimal n) ≡ true
decimal_stands n h = decimal_by_steps (λ m ds. list_all stands_in_name ds ≡ true) one more n h
  where
    one : (m : ℕ) → m < 10 → list_all stands_in_name ((48 + m) ∷ []) ≡ true
    one m l = both_true (stands_in_name (48 + m)) true (digit_stands m l) refl

    more : (m : ℕ) (ds : List ℕ) → 10 ≤ m → list_all stands_in_name ds ≡ true → list_all stands_in_name (ds ++ (48 + m % 10) ∷ []) ≡ true
    more m ds l k =
        list_all-append stands_in_name ds ((48 + m % 10) ∷ [])
        ∙ both_true (list_all stands_in_name ds) (list_all stands_in_name ((48 + m % 10) ∷ [])) k (one (m % 10) (omega arith))

pub small_number : (n : ℕ) → n ≤ 4294967296 → n < 2 ^ 64
small_number n h = let e : n < 18446744073709551616 = omega (arith, h) in e

pub ten_digits : (n : ℕ) → n ≤ 4294967296 → n < 10 ^ 10
ten_digits n h = let e : n < 10000000000 = omega (arith, h) in e

pub goes_on : (stem : List ℕ) (k : ℕ) → list_all stands_in_name stem ≡ true → k ≤ 4294967296
    → list_all stands_in_name (stem ++ decimal k) ≡ true
goes_on stem k s h =
    list_all-append stands_in_name stem (decimal k)
    ∙ both_true (list_all stands_in_name stem) (list_all stands_in_name (decimal k)) s (decimal_stands k (small_number k h))

within : (stem : List ℕ) (k : ℕ) → length stem ≤ 8 → k ≤ 4294967296 → length (stem ++ decimal k) ≤ 31
within stem k s h =
    let both = length-append stem (decimal k) in
    let few = length-decimal-le 10 k (omega arith) (ten_digits k h) (small_number k h) in
    omega (arith, both, few, s)

counter_is_made : (k : ℕ) → k ≤ 4294967295 → IsMadeDeclaration (scalar_of Integer (counter_name k))
counter_is_made k h = record {
  declaration = record {
    name = record { begins = refl; goes_on = goes_on (codes "FV_LOOP_") k refl (omega (arith, h)); within = within (codes "FV_LOOP_") k (omega arith) (omega (arith, h)) };
    extent = (omega arith, tt);
  };
  made = λ s. no_counter k (counter_name k) s.within refl;
  later = refl;
}

mask_is_made : (i : ℕ) → i < 4294967296 → IsMadeDeclaration (scalar_of Logical (mask_name i))
mask_is_made i h = record {
  declaration = record {
    name = record { begins = refl; goes_on = goes_on (codes "FV_MASK_") (i + 1) refl (omega (arith, h)); within = within (codes "FV_MASK_") (i + 1) (omega arith) (omega (arith, h)) };
    extent = (omega arith, tt);
  };
  made = mask_long i;
  later = refl;
}

-- ---- the counters of a nest

pub record IsNumbered (x : List ℕ) : Type 0 where
  pub number : ℕ
  pub small : number ≤ 4294967295
  pub is : counter_name number ≡ x

record IsCounted (l : Loop) : Type 0 where
  small : l.number ≤ 4294967295
  is : l.variable ≡ counter_name l.number

both : {A : Type 0} (P : A → Type 0) (xs ys : List A) → AllByRecursion P xs → AllByRecursion P ys → AllByRecursion P (xs ++ ys)
both P [] ys h k = k
both P (x ∷ xs) ys h k = (h.0, both P xs ys h.1 k)

module _ (es : List Declaration) (symbols : List (List ℕ)) where
  abbrev Made : List Loop → Loop → Type 0
  Made = IsMadeLoop es symbols

  mutual
    counted : (ls : List Loop) (p : Part) → EachLoop Made ls p → AllByRecursion IsCounted (loops_of p)
    counted ls (Run s) h = tt
    counted ls (Turns l ps) h = (record { small = h.0.number; is = h.0.variable }, counted_in (ls ++ l ∷ []) ps h.1)
    counted ls (Choice bs ps) h = both IsCounted (loops_in_branches bs) (loops_in_parts ps) (counted_under ls bs h.0) (counted_in ls ps h.1)
    counted ls (Label k) h = tt
    counted ls (Jump k) h = tt

    counted_in : (ls : List Loop) (ps : Parts) → EachLoopIn Made ls ps → AllByRecursion IsCounted (loops_in_parts ps)
    counted_in ls no_parts h = tt
    counted_in ls (part p ps) h = both IsCounted (loops_of p) (loops_in_parts ps) (counted ls p h.0) (counted_in ls ps h.1)

    counted_under : (ls : List Loop) (bs : Branches) → EachLoopUnder Made ls bs → AllByRecursion IsCounted (loops_in_branches bs)
    counted_under ls no_branches h = tt
    counted_under ls (branch test ps bs) h = both IsCounted (loops_in_parts ps) (loops_in_branches bs) (counted_in ls ps h.0) (counted_under ls bs h.1)

weaker : (ls : List Loop) → AllByRecursion IsCounted ls → AllByRecursion (λ (l : Loop). IsNumbered l.variable) ls
weaker [] h = tt
weaker (l ∷ ls) h = (record { number = l.number; small = h.0.small; is = sym h.0.is }, weaker ls h.1)

pub variables_numbered : (width : Width) (p : Program) (es : List Declaration) (n m : Nest)
    → IsProgram77 (fortran77 width) p → AddMadeNames p.declarations es → Contains (found_in p) (InNest n) → normalised n ≡ Some m
    → AllByRecursion (λ (l : Loop). IsNumbered l.variable) (nest_loops m)
variables_numbered width p es n m is more h e =
    weaker (nest_loops m) (counted es n.symbols [] m.body (made_loops es n (found_body (fortran77 width) p es is more n h) m (made_of n m e)))

-- ---- declarations of counters

abbrev pub counter_of : Loop → Declaration
counter_of l = scalar_of Integer l.variable

abbrev pub counters_of : List Loop → List Declaration
counters_of ls = map counter_of ls

pub record IsCounterDeclared (e : Declaration) : Type 0 where
  pub numbered : IsNumbered e.name
  pub is : e ≡ scalar_of Integer e.name

pub of_counter : (ls : List Loop) → AllByRecursion (λ (l : Loop). IsNumbered l.variable) ls → (e : Declaration)
    → Contains (counters_of ls) e → IsCounterDeclared e
of_counter ls h e c =
    let o = of_map counter_of ls e c in
    subst IsCounterDeclared o.2
    (record { numbered = all_at (λ (l : Loop). IsNumbered l.variable) ls o.0 h o.1; is = refl })

counter_made : (e : Declaration) → IsCounterDeclared e → IsMadeDeclaration e
counter_made e o =
    subst IsMadeDeclaration (sym o.is)
    (subst (λ (x : List ℕ). IsMadeDeclaration (scalar_of Integer x)) o.numbered.is (counter_is_made o.numbered.number o.numbered.small))

-- ---- declarations of masks

pub masks_below : ℕ → List Declaration
masks_below zero = []
masks_below (suc n) = scalar_of Logical (mask_name n) ∷ masks_below n

pub mask_below : (n k : ℕ) → k < n → Contains (masks_below n) (scalar_of Logical (mask_name k))
unfolding masks_below
mask_below zero k h = absurd (omega (arith, h))
mask_below (suc n) k h = by (k == n) refl (λ l. mask_below n k l)
  where
    same : (a b : ℕ) → (a == b) ≡ true → a ≡ b
    same a b e = grind arith

    other : (a b : ℕ) → (a == b) ≡ false → a < suc b → a < b
    other a b e l = grind arith

    by : (b : Bool) → (k == n) ≡ b → (k < n → Contains (masks_below n) (scalar_of Logical (mask_name k)))
        → Contains (scalar_of Logical (mask_name n) ∷ masks_below n) (scalar_of Logical (mask_name k))
    by true e rest =
        subst (λ (j : ℕ). Contains (scalar_of Logical (mask_name n) ∷ masks_below n) (scalar_of Logical (mask_name j)))
        (sym (same k n e)) (here (scalar_of Logical (mask_name n)) (masks_below n))
    by false e rest =
        there (scalar_of Logical (mask_name n)) (masks_below n) (scalar_of Logical (mask_name k)) (rest (other k n e h))

pub record IsMaskDeclared (e : Declaration) : Type 0 where
  pub number : ℕ
  pub small : number < 4294967296
  pub name : mask_name number ≡ e.name
  pub is : e ≡ scalar_of Logical e.name

below_masked : (n : ℕ) → n ≤ 4294967296 → AllByRecursion IsMaskDeclared (masks_below n)
unfolding masks_below
below_masked zero h = tt
below_masked (suc n) h =
    (record { number = n; small = omega (arith, h); name = refl; is = refl }, below_masked n (omega (arith, h)))

pub of_mask : (n : ℕ) → n ≤ 4294967296 → (e : Declaration) → Contains (masks_below n) e → IsMaskDeclared e
of_mask n h e c = all_at IsMaskDeclared (masks_below n) e (below_masked n h) c

mask_made : (e : Declaration) → IsMaskDeclared e → IsMadeDeclaration e
mask_made e o =
    subst IsMadeDeclaration (sym o.is)
    (subst (λ (x : List ℕ). IsMadeDeclaration (scalar_of Logical x)) o.name (mask_is_made o.number o.small))

-- ---- both

pub apart : (k i : ℕ) → counter_name k ≡ mask_name i → ⊥
apart k i e = let at : 76 ≡ 77 = ap (λ (x : List ℕ). slice_index_or x 3 0) e in absurd (omega (arith, at))

pub IsMade : Declaration → Type 0
IsMade e = IsCounterDeclared e ⊎ IsMaskDeclared e

pub is_made : (e : Declaration) → IsMade e → IsMadeDeclaration e
unfolding IsMade
is_made e (inl o) = counter_made e o
is_made e (inr o) = mask_made e o

pub agree : (d e : Declaration) → IsMade d → IsMade e → d.name ≡ e.name → d ≡ e
unfolding IsMade
agree d e (inl o) (inl n) same = o.is ∙ ap (scalar_of Integer) same ∙ sym n.is
agree d e (inl o) (inr n) same = absurd (apart o.numbered.number n.number (o.numbered.is ∙ same ∙ sym n.name))
agree d e (inr o) (inl n) same = absurd (apart n.numbered.number o.number (n.numbered.is ∙ sym same ∙ sym o.name))
agree d e (inr o) (inr n) same = o.is ∙ ap (scalar_of Logical) same ∙ sym n.is

module _ (ls : List Loop) (h : AllByRecursion (λ (l : Loop). IsNumbered l.variable) ls) (n : ℕ) (few : n ≤ 4294967296) where
  pub counter_or_mask : (e : Declaration) → Contains (counters_of ls ++ masks_below n) e → IsMade e
  unfolding IsMade
  counter_or_mask e c = by (Contains-append_cases (counters_of ls) (masks_below n) e c)
    where
      by : Contains (counters_of ls) e ⊎ Contains (masks_below n) e → IsCounterDeclared e ⊎ IsMaskDeclared e
      by (inl i) = inl (of_counter ls h e i)
      by (inr i) = inr (of_mask n few e i)

  pub a_counter : (e : Declaration) → Contains (counters_of ls) e → IsMade e
  unfolding IsMade
  a_counter e c = inl (of_counter ls h e c)
