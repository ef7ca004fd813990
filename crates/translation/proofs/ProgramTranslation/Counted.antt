-- The counters of all loops as made names, and what is declared besides a program's names.
use Rattle.std.proofs.Common.{◌≡◌, ◌⊎◌, inl, inr, refl, sym, subst, ◌∙◌, ℕ, zero, suc, ◌+◌, ◌%◌, ◌^◌, ◌≤◌, ◌<◌, ◌==◌}
use Rattle.std.proofs.Common.{Bool, true, false, ◌&&◌, ◌||◌, List, [], ◌∷◌, ◌++◌, length-append, map, Some, Contains, arith}
use Rattle.std.specs.Prelude.{codes, decimal, nat_le}
use Rattle.std.specs.List.{AllByRecursion, list_all}
use Rattle.std.proofs.lemmas.Bool.Decides.{nat_tests}
use Rattle.std.proofs.lemmas.Fmt.{decimal_by_steps, length-decimal-le}
use Rattle.std.proofs.lemmas.List.Folds.{list_all-append}
use Rattle.find_nests.specs.Found.{InNest, found_in}
use Rattle.pass_laws.proofs.FoundSources.Counters.{no_counter}
use Rattle.meaning.specs.Dialect.{fortran77}
use Rattle.tree.specs.declared.width.Width.{Width}
use Rattle.meaning.specs.SymbolicNames.{IsLongName, is_digit, is_letter}
use Rattle.meaning.specs.Profile77.{IsProgram77}
use Rattle.tree.specs.Names.{IsSourceName}
use Rattle.tree.specs.Plain.{Declaration, Program}
use Rattle.normal_loops.specs.Normalised.{normalised}
use Rattle.translation.proofs.MadeDeclarations.Made.{members}
use Rattle.translation.specs.made_declarations.Declaring.{integer_scalar, with_declaration, with_declarations}
use Rattle.nest.specs.Bodies.{loops_in_branches, loops_in_parts, loops_of, nest_loops}
use Rattle.nest.specs.Plain.{Branches, Choice, Jump, Label, Loop, Nest, Part, Parts, Run, Turns, branch}
use Rattle.nest.specs.Plain.{no_branches, no_parts, part}
use Rattle.pass_laws.proofs.NormalFacts.FoundStatements.{found_body}
use Rattle.pass_laws.proofs.NormalFacts.LoopWalk.{EachLoop, EachLoopIn, EachLoopUnder}
use Rattle.pass_laws.proofs.NormalFacts.MadeStatements.{IsMadeLoop, made_loops}
use Rattle.last_values.specs.normal_forms.NormalLoops.{counter_name}
use Rattle.meaning_laws.proofs.arrays.Members.{in_map, of_map}
use Rattle.meaning_laws.proofs.profiles.Lists.{all_at, here, there}
use Rattle.meaning_laws.specs.profiles.Profiles.{AddMadeNames}
use Rattle.translation.proofs.ProgramTranslation.Lists.{joined}
use Rattle.pass_laws.proofs.ReadyNests.Made.{made_of}

-- ---- a counter is a made name

-- a name that no program of FORTRAN 77 has
pub record IsMadeName (x : List ℕ) : Type 0 where
  pub name : IsLongName x
  pub made : IsSourceName x → ⊥

abbrev pub stands_in_name : ℕ → Bool
stands_in_name c = is_letter c || is_digit c || c == 95

second_of : (a b c : Bool) → b ≡ true → (a || b || c) ≡ true
second_of true b c h = refl
second_of false true c h = refl
second_of false false c h = let no : ⊥ = cc in absurd no

pub both_true : (a b : Bool) → a ≡ true → b ≡ true → (a && b) ≡ true
both_true true b h k = k
both_true false b h k = let no : ⊥ = cc in absurd no

at_least : (n : ℕ) → nat_le 48 (48 + n) ≡ true
at_least n = grind (arith, nat_tests)

at_most : (n : ℕ) → n < 10 → nat_le (48 + n) 57 ≡ true
at_most n h = grind (arith, nat_tests)

digit_stands : (n : ℕ) → n < 10 → stands_in_name (48 + n) ≡ true
digit_stands n h =
    second_of (is_letter (48 + n)) (is_digit (48 + n)) ((48 + n) == 95)
    (both_true (nat_le 48 (48 + n)) (nat_le (48 + n) 57) (at_least n) (at_most n h))

pub decimal_stands : (n : ℕ) → n < 2 ^ 64 → list_all stands_in_name (decimal n) ≡ true
decimal_stands n h = decimal_by_steps (λ m ds. list_all stands_in_name ds ≡ true) one more n h
  where
    one : (m : ℕ) → m < 10 → list_all stands_in_name ((48 + m) ∷ []) ≡ true
    one m l = both_true (stands_in_name (48 + m)) true (digit_stands m l) refl

    more : (m : ℕ) (ds : List ℕ) → 10 ≤ m → list_all stands_in_name ds ≡ true → list_all stands_in_name (ds ++ (48 + m % 10) ∷ []) ≡ true
    more m ds l k =
        list_all-append stands_in_name ds ((48 + m % 10) ∷ [])
        ∙ both_true (list_all stands_in_name ds) (list_all stands_in_name ((48 + m % 10) ∷ [])) k (one (m % 10) (omega arith))

small_number : (n : ℕ) → n ≤ 4294967295 → n < 2 ^ 64
small_number n h = let e : n < 18446744073709551616 = omega (arith, h) in e

ten_digits : (n : ℕ) → n ≤ 4294967295 → n < 10 ^ 10
ten_digits n h = let e : n < 10000000000 = omega (arith, h) in e

counter_is_made : (k : ℕ) → k ≤ 4294967295 → IsMadeName (counter_name k)
counter_is_made k h = record {
  name = record {
    begins = refl;
    goes_on = list_all-append stands_in_name (codes "FV_LOOP_") (decimal k)
        ∙ both_true (list_all stands_in_name (codes "FV_LOOP_")) (list_all stands_in_name (decimal k)) refl (decimal_stands k (small_number k h));
    within = (let both = length-append (codes "FV_LOOP_") (decimal k) in
        let few = length-decimal-le 10 k (omega arith) (ten_digits k h) (small_number k h) in
        omega (arith, both, few));
  };
  made = λ s. no_counter k (counter_name k) s.within refl;
}

-- ---- all of them

pub record IsNumbered (x : List ℕ) : Type 0 where
  pub number : ℕ
  pub small : number ≤ 4294967295
  pub is : counter_name number ≡ x

counters_below : ℕ → List (List ℕ)
counters_below zero = []
counters_below (suc n) = counter_name n ∷ counters_below n

counter_below : (n k : ℕ) → k < n → Contains (counters_below n) (counter_name k)
unfolding counters_below
counter_below zero k h = absurd (omega (arith, h))
counter_below (suc n) k h = by (k == n) refl (λ l. counter_below n k l)
  where
    same : (a b : ℕ) → (a == b) ≡ true → a ≡ b
    same a b e = grind arith

    other : (a b : ℕ) → (a == b) ≡ false → a < suc b → a < b
    other a b e l = grind arith

    by : (b : Bool) → (k == n) ≡ b → (k < n → Contains (counters_below n) (counter_name k)) → Contains (counter_name n ∷ counters_below n) (counter_name k)
    by true e rest = subst (λ (j : ℕ). Contains (counter_name n ∷ counters_below n) (counter_name j)) (sym (same k n e)) (here (counter_name n) (counters_below n))
    by false e rest = there (counter_name n) (counters_below n) (counter_name k) (rest (other k n e h))

below_numbered : (n : ℕ) → n ≤ 4294967296 → AllByRecursion IsNumbered (counters_below n)
unfolding counters_below
below_numbered zero h = tt
below_numbered (suc n) h = (record { number = n; small = omega (arith, h); is = refl }, below_numbered n (omega (arith, h)))

pub every_counter : List (List ℕ)
every_counter = counters_below 4294967296

pub counter_among : (x : List ℕ) → IsNumbered x → Contains every_counter x
unfolding every_counter
counter_among x h = let small = h.small in subst (Contains (counters_below 4294967296)) h.is (counter_below 4294967296 h.number (omega (arith, small)))

pub each_numbered : AllByRecursion IsNumbered every_counter
unfolding every_counter
each_numbered = below_numbered 4294967296 (omega arith)

pub numbered_is_made : (x : List ℕ) → IsNumbered x → IsMadeName x
numbered_is_made x h = subst IsMadeName h.is (counter_is_made h.number h.small)

-- ---- the loops of a nest

record IsCounted (l : Loop) : Type 0 where
  small : l.number ≤ 4294967295
  is : l.variable ≡ counter_name l.number

module _ (es : List Declaration) (symbols : List (List ℕ)) where
  abbrev Made : List Loop → Loop → Type 0
  Made = IsMadeLoop es symbols

  mutual
    counted : (ls : List Loop) (p : Part) → EachLoop Made ls p → AllByRecursion IsCounted (loops_of p)
    counted ls (Run s) h = tt
    counted ls (Turns l ps) h = (record { small = h.0.number; is = h.0.variable }, counted_in (ls ++ l ∷ []) ps h.1)
    counted ls (Choice bs ps) h = joined IsCounted (loops_in_branches bs) (loops_in_parts ps) (counted_under ls bs h.0) (counted_in ls ps h.1)
    counted ls (Label k) h = tt
    counted ls (Jump k) h = tt

    counted_in : (ls : List Loop) (ps : Parts) → EachLoopIn Made ls ps → AllByRecursion IsCounted (loops_in_parts ps)
    counted_in ls no_parts h = tt
    counted_in ls (part p ps) h = joined IsCounted (loops_of p) (loops_in_parts ps) (counted ls p h.0) (counted_in ls ps h.1)

    counted_under : (ls : List Loop) (bs : Branches) → EachLoopUnder Made ls bs → AllByRecursion IsCounted (loops_in_branches bs)
    counted_under ls no_branches h = tt
    counted_under ls (branch test ps bs) h = joined IsCounted (loops_in_parts ps) (loops_in_branches bs) (counted_in ls ps h.0) (counted_under ls bs h.1)

weaker : (ls : List Loop) → AllByRecursion IsCounted ls → AllByRecursion (λ (l : Loop). IsNumbered l.variable) ls
weaker [] h = tt
weaker (l ∷ ls) h = (record { number = l.number; small = h.0.small; is = sym h.0.is }, weaker ls h.1)

pub variables_numbered : (width : Width) (p : Program) (es : List Declaration) (n m : Nest)
    → IsProgram77 (fortran77 width) p → AddMadeNames p.declarations es → Contains (found_in p) (InNest n) → normalised n ≡ Some m
    → AllByRecursion (λ (l : Loop). IsNumbered l.variable) (nest_loops m)
variables_numbered width p es n m is more h e =
    weaker (nest_loops m) (counted es n.symbols [] m.body (made_loops es n (found_body (fortran77 width) p es is more n h) m (made_of n m e)))

-- ---- their declarations

abbrev pub counter_declarations : List Declaration
counter_declarations = map integer_scalar every_counter

pub counter_declared : (x : List ℕ) → IsNumbered x → Contains counter_declarations (integer_scalar x)
counter_declared x h = in_map integer_scalar every_counter x (counter_among x h)

pub record IsCounterDeclared (e : Declaration) : Type 0 where
  pub numbered : IsNumbered e.name
  pub is : e ≡ integer_scalar e.name

pub of_counter : (e : Declaration) → Contains counter_declarations e → IsCounterDeclared e
of_counter e c =
    let o = of_map integer_scalar every_counter e c in
    subst IsCounterDeclared o.2 (record { numbered = all_at IsNumbered every_counter o.0 each_numbered o.1; is = refl })

-- each declaration is one of those before, or a new one
pub each_of : (ds ns : List Declaration) (e : Declaration) → Contains (with_declarations ds ns) e
    → Contains ds e ⊎ Contains ns e
each_of ds [] e h = inl h
each_of ds (n ∷ ns) e h = by (each_of (with_declaration ds n) ns e h)
  where
    first : Contains ds e ⊎ (n ≡ e) → Contains ds e ⊎ Contains (n ∷ ns) e
    first (inl c) = inl c
    first (inr s) = inr (subst (Contains (n ∷ ns)) s (here n ns))

    by : Contains (with_declaration ds n) e ⊎ Contains ns e → Contains ds e ⊎ Contains (n ∷ ns) e
    by (inl c) = first (members ds n e c)
    by (inr c) = inr (there n ns e c)
