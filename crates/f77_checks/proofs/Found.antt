-- Findings of causes at places: which there are, and which of them is the first.
use Rattle.std.proofs.Common.{◌≡◌, ◌⊎◌, inl, inr, ℕ, ◌<◌, ◌≤◌, nat_le, Bool, true, false, ◌&&◌, ◌||◌, cond, Option, None, Some, List, [], ◌∷◌, ◌++◌, map, filter, find, flat_map, Contains, refl, sym, ap, subst, ◌∙◌, arith}
use Rattle.std.specs.List.{list_any, list_all, AllByRecursion}
use Rattle.std.proofs.lemmas.Bool.Decides.{nat_tests}
use Rattle.std.proofs.lemmas.List.Elements.{Contains-append_left, Contains-append_right, Contains-get_or}
use Rattle.tree.specs.declared.refusals.Refusal.{Refusal}
use Rattle.f77_grammar.specs.Statement77.{Labelled}
use Rattle.f77_grammar.specs.program.Text.{Place77, places_from}
use Rattle.tree.specs.Causes.{number_of_cause, refusal_at}
use Rattle.tree.specs.declared.refusals.Cause.{Cause}
use Rattle.tree.specs.declared.refusals.Cause.TheVariants.{Label, Nesting, NoEnd, Declared, RealName, TypeClash, Jump, DoVariable, ManyNames, ManyBlocks, ReversedBounds, ManyElements, BadConstant, Untyped}
use Rattle.meaning.specs.Dialect.{fortran77}
use Rattle.tree.specs.declared.width.Width.{Width}
use Rattle.f77_grammar.specs.program.Program77.{program_causes, holds_in}
use Rattle.f77_laws.specs.Source.{AreRising}
use Rattle.f77_laws.proofs.Lists.{all_weaker, all_both, here, there}
use Rattle.f77_checks.proofs.Indices.{placed}

-- ---- lists

pub both : {X : Type 0} (P Q R : X → Type 0) → ((x : X) → P x → Q x → R x) → (xs : List X) → AllByRecursion P xs → AllByRecursion Q xs → AllByRecursion R xs
both P Q R h [] a b = tt
both P Q R h (x ∷ xs) a b = (h x a.0 b.0, both P Q R h xs a.1 b.1)

pub each : {X : Type 0} (P : X → Type 0) → ((x : X) → P x) → (xs : List X) → AllByRecursion P xs
each P h [] = tt
each P h (x ∷ xs) = (h x, each P h xs)

-- ---- what is found

find_same_step : (b c : Bool) (p : Place77) (f g : Option Place77) → b ≡ c → f ≡ g → cond b (Some p) f ≡ cond c (Some p) g
find_same_step b c p f g e h = cc

pub find_same : (f g : Place77 → Bool) (ps : List Place77) → ((p : Place77) → f p ≡ g p) → find f ps ≡ find g ps
find_same f g [] e = refl
find_same f g (p ∷ ps) e = find_same_step (f p) (g p) p (find f ps) (find g ps) (e p) (find_same f g ps e)

none_step : {X : Type 0} (b : Bool) (p : X) (f : Option X) → cond b (Some p) f ≡ None → (b ≡ false) × (f ≡ None)
none_step true p f h = absurd (let no : Some p ≡ None = h in cc)
none_step false p f h = (refl, h)

pub find_none : {X : Type 0} (test : X → Bool) (ps : List X) → find test ps ≡ None → AllByRecursion (λ p. test p ≡ false) ps
find_none test [] h = tt
find_none test (p ∷ ps) h = let both' : (test p ≡ false) × (find test ps ≡ None) = none_step (test p) p (find test ps) h in (both'.0, find_none test ps both'.1)

pub none_pass : {X : Type 0} (test : X → Bool) (ps : List X) → AllByRecursion (λ p. test p ≡ false) ps → filter test ps ≡ []
none_pass test [] a = refl
none_pass test (p ∷ ps) a = ap (λ b. cond b (p ∷ filter test ps) (filter test ps)) a.0 ∙ none_pass test ps a.1

holds_step : {X : Type 0} (test : X → Bool) (b : Bool) (p q : X) (f : Option X) → test p ≡ b → cond b (Some p) f ≡ Some q → (f ≡ Some q → test q ≡ true) → test q ≡ true
holds_step test true p q f e h ih = let same : p ≡ q = cc in sym (ap test same) ∙ e
holds_step test false p q f e h ih = ih h

pub find_holds : {X : Type 0} (test : X → Bool) (ps : List X) (q : X) → find test ps ≡ Some q → test q ≡ true
find_holds test [] q h = absurd (let no : None ≡ Some q = h in cc)
find_holds test (p ∷ ps) q h = holds_step test (test p) p q (find test ps) refl h (find_holds test ps q)

-- ---- findings

abbrev pub findings_at : (Cause → Place77 → Bool) → List Place77 → Cause → List Refusal
findings_at holds ps c = map (λ (p : Place77). refusal_at c p.here.line) (filter (holds c) ps)

abbrev pub findings_by : (Cause → Place77 → Bool) → List Place77 → List Cause → List Refusal
findings_by holds ps cs = flat_map (findings_at holds ps) cs

all_of_step : (P : Refusal → Type 0) (c : Cause) (b : Bool) (p : Place77) (rest : List Place77) → (b ≡ true → P (refusal_at c p.here.line))
    → AllByRecursion P (map (λ (q : Place77). refusal_at c q.here.line) rest)
    → AllByRecursion P (map (λ (q : Place77). refusal_at c q.here.line) (cond b (p ∷ rest) rest))
all_of_step P c true p rest h a = (h refl, a)
all_of_step P c false p rest h a = a

pub all_of : (holds : Cause → Place77 → Bool) (P : Refusal → Type 0) (c : Cause) (ps : List Place77)
    → AllByRecursion (λ q. holds c q ≡ true → P (refusal_at c q.here.line)) ps → AllByRecursion P (findings_at holds ps c)
all_of holds P c [] a = tt
all_of holds P c (p ∷ ps) a = all_of_step P c (holds c p) p (filter (holds c) ps) a.0 (all_of holds P c ps a.1)

pub all_by : (holds : Cause → Place77 → Bool) (P : Refusal → Type 0) (ps : List Place77) (cs : List Cause)
    → AllByRecursion (λ c. AllByRecursion (λ (q : Place77). holds c q ≡ true → P (refusal_at c q.here.line)) ps) cs → AllByRecursion P (findings_by holds ps cs)
all_by holds P ps [] a = tt
all_by holds P ps (c ∷ cs) a = all_both P (findings_at holds ps c) (findings_by holds ps cs) (all_of holds P c ps a.0) (all_by holds P ps cs a.1)

pub nothing_found : (holds : Cause → Place77 → Bool) (ps : List Place77) (cs : List Cause) → AllByRecursion (λ c. find (holds c) ps ≡ None) cs → findings_by holds ps cs ≡ []
nothing_found holds ps [] a = refl
nothing_found holds ps (c ∷ cs) a =
    ap (λ qs. map (λ (p : Place77). refusal_at c p.here.line) qs ++ findings_by holds ps cs) (none_pass (holds c) ps (find_none (holds c) ps a.0)) ∙ nothing_found holds ps cs a.1

-- ---- a finding is among them

abbrev pub Among : List Cause → Cause → Type 0
Among [] c = ⊥
Among (d ∷ ds) c = (d ≡ c) ⊎ Among ds c

-- what holds anywhere is a cause of a program's statements
pub every_cause : (width : Width) (text : List Labelled) (p : Place77) (c : Cause) → holds_in (fortran77 width) text c p ≡ true → Among program_causes c
every_cause width text p Label h = inl refl
every_cause width text p Nesting h = inr (inl refl)
every_cause width text p NoEnd h = inr (inr (inl refl))
every_cause width text p Declared h = inr (inr (inr (inl refl)))
every_cause width text p RealName h = inr (inr (inr (inr (inl refl))))
every_cause width text p TypeClash h = inr (inr (inr (inr (inr (inl refl)))))
every_cause width text p Jump h = inr (inr (inr (inr (inr (inr (inl refl))))))
every_cause width text p DoVariable h = inr (inr (inr (inr (inr (inr (inr (inl refl)))))))
every_cause width text p ManyNames h = inr (inr (inr (inr (inr (inr (inr (inr (inl refl))))))))
every_cause width text p ManyBlocks h = inr (inr (inr (inr (inr (inr (inr (inr (inr (inl refl)))))))))
every_cause width text p ReversedBounds h = inr (inr (inr (inr (inr (inr (inr (inr (inr (inr (inl refl))))))))))
every_cause width text p ManyElements h = inr (inr (inr (inr (inr (inr (inr (inr (inr (inr (inr (inl refl)))))))))))
every_cause width text p BadConstant h = inr (inr (inr (inr (inr (inr (inr (inr (inr (inr (inr (inr (inl refl))))))))))))
every_cause width text p Untyped h = inr (inr (inr (inr (inr (inr (inr (inr (inr (inr (inr (inr (inr (inl refl)))))))))))))
every_cause width text p c h = absurd (let no : false ≡ true = h in cc)

any_step : (test : Cause → Bool) (d : Cause) (ds : List Cause) (c : Cause) → (d ≡ c) ⊎ Among ds c → test c ≡ true → (Among ds c → list_any test ds ≡ true)
    → (test d || list_any test ds) ≡ true
any_step test d ds c (inl e) h ih = ap (λ b. b || list_any test ds) (ap test e ∙ h)
any_step test d ds c (inr m) h ih = or_true (test d) (list_any test ds) (ih m)
  where
    or_true : (a b : Bool) → b ≡ true → (a || b) ≡ true
    or_true true b h = refl
    or_true false b h = h

pub any_true : (test : Cause → Bool) (cs : List Cause) (c : Cause) → Among cs c → test c ≡ true → list_any test cs ≡ true
any_true test [] c m h = absurd m
any_true test (d ∷ ds) c m h = any_step test d ds c m h (λ k. any_true test ds c k h)

contains_step : (c : Cause) (b : Bool) (p q : Place77) (rest : List Place77) (f : Option Place77) → cond b (Some p) f ≡ Some q
    → (f ≡ Some q → Contains (map (λ (x : Place77). refusal_at c x.here.line) rest) (refusal_at c q.here.line))
    → Contains (map (λ (x : Place77). refusal_at c x.here.line) (cond b (p ∷ rest) rest)) (refusal_at c q.here.line)
contains_step c true p q rest f h ih =
    let same : p ≡ q = cc in
    subst (λ (x : Place77). Contains (refusal_at c p.here.line ∷ map (λ (x : Place77). refusal_at c x.here.line) rest) (refusal_at c x.here.line)) same (here (refusal_at c p.here.line) (map (λ (x : Place77). refusal_at c x.here.line) rest))
contains_step c false p q rest f h ih = ih h

-- the finding of a place at which the cause holds, which a test finds first
found_step : (holds : Cause → Place77 → Bool) (c : Cause) (a b : Bool) (p q : Place77) (rest : List Place77) (f : Option Place77) → holds c p ≡ b → holds c q ≡ true → cond a (Some p) f ≡ Some q
    → (f ≡ Some q → Contains (map (λ (x : Place77). refusal_at c x.here.line) rest) (refusal_at c q.here.line))
    → Contains (map (λ (x : Place77). refusal_at c x.here.line) (cond b (p ∷ rest) rest)) (refusal_at c q.here.line)
found_step holds c true true p q rest f e k h ih = contains_step c true p q rest f h ih
found_step holds c true false p q rest f e k h ih = absurd (let same : p ≡ q = cc in cc)
found_step holds c false true p q rest f e k h ih = there (refusal_at c p.here.line) (map (λ (x : Place77). refusal_at c x.here.line) rest) (refusal_at c q.here.line) (ih h)
found_step holds c false false p q rest f e k h ih = ih h

pub found_there : (holds : Cause → Place77 → Bool) (test : Place77 → Bool) (c : Cause) (ps : List Place77) (q : Place77) → find test ps ≡ Some q → holds c q ≡ true
    → Contains (findings_at holds ps c) (refusal_at c q.here.line)
found_there holds test c [] q h k = absurd (let no : None ≡ Some q = h in cc)
found_there holds test c (p ∷ ps) q h k =
    found_step holds c (test p) (holds c p) p q (filter (holds c) ps) (find test ps) refl k h (λ e. found_there holds test c ps q e k)

among_step : (holds : Cause → Place77 → Bool) (ps : List Place77) (d : Cause) (ds : List Cause) (c : Cause) (r : Refusal) → (d ≡ c) ⊎ Among ds c
    → Contains (findings_at holds ps c) r → (Among ds c → Contains (findings_by holds ps ds) r) → Contains (findings_at holds ps d ++ findings_by holds ps ds) r
among_step holds ps d ds c r (inl e) h ih = Contains-append_left (findings_at holds ps d) (findings_by holds ps ds) r (subst (λ x. Contains (findings_at holds ps x) r) (sym e) h)
among_step holds ps d ds c r (inr m) h ih = Contains-append_right (findings_at holds ps d) (findings_by holds ps ds) r (ih m)

pub found_among : (holds : Cause → Place77 → Bool) (ps : List Place77) (cs : List Cause) (c : Cause) (r : Refusal) → Among cs c → Contains (findings_at holds ps c) r → Contains (findings_by holds ps cs) r
found_among holds ps [] c r m h = absurd m
found_among holds ps (d ∷ ds) c r m h = among_step holds ps d ds c r m h (λ k. found_among holds ps ds c r k h)

-- ---- no finding has a lesser number

from_none : (holds : Cause → Place77 → Bool) (P : Refusal → Type 0) (c : Cause) (ps : List Place77) → find (holds c) ps ≡ None
    → AllByRecursion (λ (q : Place77). holds c q ≡ true → P (refusal_at c q.here.line)) ps
from_none holds P c ps h = all_weaker (λ q. holds c q ≡ false) (λ (q : Place77). holds c q ≡ true → P (refusal_at c q.here.line)) (λ q e t. absurd (let no : false ≡ true = sym e ∙ t in cc)) ps (find_none (holds c) ps h)

numbers_from : (n : ℕ) (cs : List Cause) → list_all (λ c. nat_le n (number_of_cause c)) cs ≡ true → AllByRecursion (λ c. n ≤ number_of_cause c) cs
numbers_from n [] h = tt
numbers_from n (c ∷ cs) h = let two : (nat_le n (number_of_cause c) ≡ true) × (list_all (λ d. nat_le n (number_of_cause d)) cs ≡ true) = and_parts (nat_le n (number_of_cause c)) _ h in (at_least n (number_of_cause c) two.0, numbers_from n cs two.1)
  where
    and_parts : (a b : Bool) → (a && b) ≡ true → (a ≡ true) × (b ≡ true)
    and_parts true b h = (refl, h)
    and_parts false b h = absurd (let no : false ≡ true = h in cc)

    at_least : (n m : ℕ) → nat_le n m ≡ true → n ≤ m
    at_least n m h = grind (arith, nat_tests)

pub least_number : (holds : Cause → Place77 → Bool) (ps : List Place77) (n : ℕ) (front back : List Cause) → AllByRecursion (λ c. find (holds c) ps ≡ None) front
    → list_all (λ c. nat_le n (number_of_cause c)) back ≡ true → AllByRecursion (λ (other : Refusal). n ≤ other.number) (findings_by holds ps (front ++ back))
least_number holds ps n front back a h =
    let P : Refusal → Type 0 = λ (other : Refusal). n ≤ other.number in
    let Q : Cause → Type 0 = λ c. AllByRecursion (λ (q : Place77). holds c q ≡ true → P (refusal_at c q.here.line)) ps in
    all_by holds P ps (front ++ back)
    (all_both Q front back
    (all_weaker (λ c. find (holds c) ps ≡ None) Q (λ c e. from_none holds P c ps e) front a)
    (all_weaker (λ c. n ≤ number_of_cause c) Q (λ c e. each (λ (q : Place77). holds c q ≡ true → P (refusal_at c q.here.line)) (λ q t. e) ps) back (numbers_from n back h)))

-- ---- the first place has the least line

lines_of_places : (n : ℕ) (before xs : List Labelled) → AllByRecursion (λ (y : Labelled). n < y.line) xs → AllByRecursion (λ (q : Place77). n < q.here.line) (places_from before xs)
lines_of_places n before [] a = tt
lines_of_places n before (x ∷ xs) a = (a.0, lines_of_places n (x ∷ before) xs a.1)

abbrev IsNoLater : (Place77 → Bool) → Place77 → Place77 → Type 0
IsNoLater test p q = test q ≡ true → (p ≡ q) ⊎ (p.here.line < q.here.line)

rising_step : (test : Place77 → Bool) (b : Bool) (p q : Place77) (rest : List Place77) (f : Option Place77) → test q ≡ b → cond b (Some q) f ≡ Some p
    → AllByRecursion (λ (x : Place77). q.here.line < x.here.line) rest → (f ≡ Some p → AllByRecursion (IsNoLater test p) rest) → AllByRecursion (IsNoLater test p) (q ∷ rest)
rising_step test true p q rest f e h a ih =
    let same : q ≡ p = cc in
    (λ t. inl (sym same), all_weaker (λ (x : Place77). q.here.line < x.here.line) (IsNoLater test p) (λ x lt t. inr (subst (λ (y : Place77). y.here.line < x.here.line) same lt)) rest a)
rising_step test false p q rest f e h a ih = (λ t. absurd (let no : false ≡ true = sym e ∙ t in cc), ih h)

pub first_is_least : (test : Place77 → Bool) (before xs : List Labelled) (p : Place77) → AreRising xs → find test (places_from before xs) ≡ Some p → AllByRecursion (IsNoLater test p) (places_from before xs)
first_is_least test before [] p r h = tt
first_is_least test before (x ∷ xs) p r h =
    rising_step test (test (placed before x xs)) p (placed before x xs) (places_from (x ∷ before) xs) (find test (places_from (x ∷ before) xs)) refl h
    (lines_of_places x.line (x ∷ before) xs r.0) (first_is_least test (x ∷ before) xs p r.1)
