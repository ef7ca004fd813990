-- Where lines rise, the first place at which a cause holds has the least line.
use Rattle.std.proofs.Common.{◌≡◌, ◌⊎◌, inl, inr, ℕ, ◌<◌, ◌≤◌, ◌==◌, nat_lt, Bool, true, false, ◌&&◌, ◌||◌, cond, Option, Some, None, List, [], ◌∷◌, map, refl, sym, ap, subst, ◌∙◌, arith, Contains, filter, find}
use Rattle.std.specs.Option.{option_map}
use Rattle.std.specs.List.{AllByRecursion}
use Rattle.std.proofs.lemmas.Bool.Decides.{nat_tests}
use Rattle.tree.specs.declared.refusals.Refusal.{Refusal}
use Rattle.meaning.specs.Dialect.{Dialect}
use Rattle.f77_grammar.specs.Statement77.{Labelled}
use Rattle.f77_grammar.specs.program.Text.{Place77, places, places_from}
use Rattle.tree.specs.Causes.{number_of_cause, word_of_cause, refusal_at}
use Rattle.tree.specs.declared.refusals.Cause.{Cause}
use Rattle.tree.specs.declared.refusals.Cause.TheVariants.{Label, Nesting, NoEnd, Declared, RealName, TypeClash, Jump, DoVariable, ManyNames, ManyBlocks, ReversedBounds, ManyElements, BadConstant, Untyped}
use Rattle.f77_grammar.specs.program.Program77.{program_causes, findings_of, findings}
use Rattle.reading.specs.refusal_order.Answered.{comes_before}
use Rattle.f77_laws.specs.Source.{AreRising}
use Rattle.f77_grammar.specs.program.Program77.{holds_in}
use Rattle.f77_laws.specs.FirstFinding.{HoldsFirst, RefusalIsFirst, FirstIsRefused}
use Rattle.f77_laws.proofs.Lists.{here, there, nowhere, cases_of, not_both, all_at, in_flat, FromFlat, from_flat}
use Rattle.f77_laws.proofs.Variables.{kept_by, Passed, passed_by}

-- ---- lines of places

later_lines : (line : ℕ) (before xs : List Labelled) → AllByRecursion (λ (y : Labelled). line < y.line) xs → AllByRecursion (λ (p : Place77). line < p.here.line) (places_from before xs)
later_lines line before [] h = tt
later_lines line before (x ∷ xs) h = (h.0, later_lines line (x ∷ before) xs h.1)

-- the first place that passes a test stands on no later line than another that does
record IsFirstPlace (test : Place77 → Bool) (ps : List Place77) (line : ℕ) : Type 0 where
  place : Place77
  is : find test ps ≡ Some place
  soon : place.here.line ≤ line

first_step : (test : Place77 → Bool) (q : Place77) (rest : List Place77) (p : Place77) (b : Bool) → test q ≡ b → test p ≡ true → AllByRecursion (λ (o : Place77). q.here.line < o.here.line) rest
    → (Contains rest p → IsFirstPlace test rest p.here.line) → (q ≡ p) ⊎ Contains rest p → IsFirstPlace test (q ∷ rest) p.here.line
first_step test q rest p true e t h more (inl g) = record { place = q; is = ap (λ b. cond b (Some q) (find test rest)) e; soon = (let l = ap (λ (o : Place77). o.here.line) g in omega (arith, l)) }
first_step test q rest p true e t h more (inr d) =
    record { place = q; is = ap (λ b. cond b (Some q) (find test rest)) e; soon = (let l = all_at (λ (o : Place77). q.here.line < o.here.line) rest p h d in omega (arith, l)) }
first_step test q rest p false e t h more (inl g) = absurd (not_both (test p) t (sym (ap test g) ∙ e))
first_step test q rest p false e t h more (inr d) = let k = more d in record { place = k.place; is = ap (λ b. cond b (Some q) (find test rest)) e ∙ k.is; soon = k.soon }

first_place : (test : Place77 → Bool) (before xs : List Labelled) (p : Place77) → AreRising xs → Contains (places_from before xs) p → test p ≡ true → IsFirstPlace test (places_from before xs) p.here.line
first_place test before [] p h c t = absurd (nowhere p c)
first_place test before (x ∷ xs) p h c t =
    let q : Place77 = record { before = before; here = x; after = xs } in
    let rest = places_from (x ∷ before) xs in
    first_step test q rest p (test q) refl t (later_lines x.line (x ∷ before) xs h.0) (λ d. first_place test (x ∷ before) xs p h.1 d t) (cases_of q rest p c)

-- what is found is there and passes
found_there : (test : Place77 → Bool) (ps : List Place77) (q : Place77) → find test ps ≡ Some q → Passed test ps q
found_there test [] q h = absurd cc
found_there test (p ∷ ps) q h = by (test p) refl (found_there test ps q) h
  where
    by : (b : Bool) → test p ≡ b → (find test ps ≡ Some q → Passed test ps q) → cond b (Some p) (find test ps) ≡ Some q → Passed test (p ∷ ps) q
    by true e more h = let g : p ≡ q = cc in subst (λ (o : Place77). Passed test (p ∷ ps) o) g (record { among = here p ps; passes = e })
    by false e more h = let k = more h in record { among = there p ps q k.among; passes = k.passes }

-- ---- findings

-- what holds anywhere is a cause of a program's statements
any_cause : (d : Dialect) (text : List Labelled) (p : Place77) (c : Cause) → holds_in d text c p ≡ true → Contains program_causes c
any_cause d text p Label h = (0, omega arith, refl)
any_cause d text p Nesting h = (1, omega arith, refl)
any_cause d text p NoEnd h = (2, omega arith, refl)
any_cause d text p Declared h = (3, omega arith, refl)
any_cause d text p RealName h = (4, omega arith, refl)
any_cause d text p TypeClash h = (5, omega arith, refl)
any_cause d text p Jump h = (6, omega arith, refl)
any_cause d text p DoVariable h = (7, omega arith, refl)
any_cause d text p ManyNames h = (8, omega arith, refl)
any_cause d text p ManyBlocks h = (9, omega arith, refl)
any_cause d text p ReversedBounds h = (10, omega arith, refl)
any_cause d text p ManyElements h = (11, omega arith, refl)
any_cause d text p BadConstant h = (12, omega arith, refl)
any_cause d text p Untyped h = (13, omega arith, refl)
any_cause d text p c h = absurd cc

mapped : (f : Place77 → Refusal) (ps : List Place77) (p : Place77) → Contains ps p → Contains (map f ps) (f p)
mapped f [] p c = absurd (nowhere p c)
mapped f (q ∷ qs) p c = by (mapped f qs p) (cases_of q qs p c)
  where
    by : (Contains qs p → Contains (map f qs) (f p)) → (q ≡ p) ⊎ Contains qs p → Contains (f q ∷ map f qs) (f p)
    by more (inl e) = subst (λ (r : Refusal). Contains (f q ∷ map f qs) r) (ap f e) (here (f q) (map f qs))
    by more (inr d) = there (f q) (map f qs) (f p) (more d)

record IsMapped (f : Place77 → Refusal) (ps : List Place77) (r : Refusal) : Type 0 where
  place : Place77
  among : Contains ps place
  is : f place ≡ r

from_mapped : (f : Place77 → Refusal) (ps : List Place77) (r : Refusal) → Contains (map f ps) r → IsMapped f ps r
from_mapped f [] r c = absurd (nowhere r c)
from_mapped f (q ∷ qs) r c = by (from_mapped f qs r) (cases_of (f q) (map f qs) r c)
  where
    by : (Contains (map f qs) r → IsMapped f qs r) → (f q ≡ r) ⊎ Contains (map f qs) r → IsMapped f (q ∷ qs) r
    by more (inl e) = record { place = q; among = here q qs; is = e }
    by more (inr d) = let k = more d in record { place = k.place; among = there q qs k.place k.among; is = k.is }

-- a finding of a text, with the first place at which its cause holds
record IsFinding (d : Dialect) (text : List Labelled) (r : Refusal) : Type 0 where
  cause : Cause
  is : r ≡ refusal_at cause r.line
  first : ℕ
  holds : HoldsFirst d text cause first
  soon : first ≤ r.line

finding_of : (d : Dialect) (x : Labelled) (xs : List Labelled) (r : Refusal) → AreRising (x ∷ xs) → Contains (findings d (x ∷ xs)) r → IsFinding d (x ∷ xs) r
finding_of d x xs r h c = by (from_flat (findings_of d (x ∷ xs)) program_causes r c)
  where
    text : List Labelled
    text = x ∷ xs

    by : FromFlat (findings_of d (x ∷ xs)) program_causes r → IsFinding d (x ∷ xs) r
    by f =
        let m = from_mapped (λ (p : Place77). refusal_at f.it p.here.line) (filter (holds_in d (x ∷ xs) f.it) (places (x ∷ xs))) r f.gives in
        let p = passed_by (holds_in d (x ∷ xs) f.it) (places (x ∷ xs)) m.place m.among in
        let q = first_place (holds_in d (x ∷ xs) f.it) [] (x ∷ xs) m.place h p.among p.passes in
        let l = ap (λ (o : Refusal). o.line) m.is in
        record {
          cause = f.it;
          is = sym m.is ∙ ap (refusal_at f.it) l;
          first = q.place.here.line;
          holds = ap (option_map (λ (o : Place77). o.here.line)) q.is;
          soon = (let s = q.soon in omega (arith, s, l));
        }

-- where a cause holds first there is a finding
first_found : (d : Dialect) (x : Labelled) (xs : List Labelled) (c : Cause) (line : ℕ) → HoldsFirst d (x ∷ xs) c line → Contains (findings d (x ∷ xs)) (refusal_at c line)
first_found d x xs c line h = by (find (holds_in d (x ∷ xs) c) (places (x ∷ xs))) refl h
  where
    by : (o : Option Place77) → find (holds_in d (x ∷ xs) c) (places (x ∷ xs)) ≡ o → option_map (λ (p : Place77). p.here.line) o ≡ Some line → Contains (findings d (x ∷ xs)) (refusal_at c line)
    by None e h = absurd cc
    by (Some q) e h =
        let l : q.here.line ≡ line = cc in
        let k = found_there (holds_in d (x ∷ xs) c) (places (x ∷ xs)) q e in
        subst (λ (n : ℕ). Contains (findings d (x ∷ xs)) (refusal_at c n)) l
        (in_flat (findings_of d (x ∷ xs)) program_causes c (refusal_at c q.here.line) (any_cause d (x ∷ xs) q c k.passes)
        (mapped (λ (p : Place77). refusal_at c p.here.line) (filter (holds_in d (x ∷ xs) c) (places (x ∷ xs))) q (kept_by (holds_in d (x ∷ xs) c) (places (x ∷ xs)) q k.among k.passes)))

-- ---- the laws

not_sooner : (n w l k : ℕ) → (nat_lt n n || (n == n && (nat_lt k l || (k == l && nat_lt w w)))) ≡ false → k ≤ l → k ≡ l
not_sooner n w l k h g = grind (arith, nat_tests)

pub refusal_is_first : RefusalIsFirst
refusal_is_first d x xs r h f =
    let k = finding_of d x xs r h f.holds in
    let m = f.first (refusal_at k.cause k.first) (first_found d x xs k.cause k.first k.holds) in
    let same = not_sooner (number_of_cause k.cause) (word_of_cause k.cause) r.line k.first (sym (ap (comes_before (refusal_at k.cause k.first)) k.is) ∙ m) k.soon in
    (k.cause, k.is, subst (λ (n : ℕ). HoldsFirst d (x ∷ xs) k.cause n) same k.holds)

later_too : (n l w m k v j : ℕ) → (nat_lt n m || (n == m && (nat_lt l k || (l == k && nat_lt w v)))) ≡ false → l ≤ j → (nat_lt n m || (n == m && (nat_lt j k || (j == k && nat_lt w v)))) ≡ false
later_too n l w m k v j h g = grind (arith, nat_tests)

pub first_is_refused : FirstIsRefused
first_is_refused d x xs c line h f o = record { holds = first_found d x xs c line f; first = λ r m. at r (finding_of d x xs r h m) }
  where
    at : (r : Refusal) → IsFinding d (x ∷ xs) r → comes_before r (refusal_at c line) ≡ false
    at r k =
        ap (λ (q : Refusal). comes_before q (refusal_at c line)) k.is
        ∙ later_too (number_of_cause k.cause) k.first (word_of_cause k.cause) (number_of_cause c) line (word_of_cause c) r.line (o k.cause k.first k.holds) k.soon
