-- How often numbers stand in lists, in pairs, and in the rows of those that aren't done.
use Rattle.std.proofs.Common.{◌≡◌, refl, sym, ap, ◌∙◌, ◌⊎◌, inl, inr, ℕ, zero, suc, ◌+◌, ◌<◌, ◌≤◌, Bool, true, false, nat_eq, if◌then◌else◌, List, [], ◌∷◌, ◌++◌, length, set, replicate, take, arith, eq-eqb, ne_eqb, get_or-set_same, get_or-set_other}
use Rattle.std.proofs.lemmas.Bool.{cases_eq, eqb-true}
use Rattle.components.specs.Classes.{IsLedTo, flag}
use Rattle.components.specs.Counts.{tally, times, times_to}
use Rattle.components.specs.Labels.{at}
use Rattle.components.specs.Lists.{IsMember}
use Rattle.components.specs.Targets.{row}

-- ---- in a list

pub one : (x c : ℕ) → x ≡ c → ◌≡◌ {A = ℕ} (if nat_eq x c then 1 else 0) 1
one x c e = let f : Bool → ℕ = λ b. if b then 1 else 0 in ap f (eq-eqb x c e)

pub none : (x c : ℕ) → (x ≡ c → ⊥) → ◌≡◌ {A = ℕ} (if nat_eq x c then 1 else 0) 0
none x c d = let f : Bool → ℕ = λ b. if b then 1 else 0 in ap f (ne_eqb x c d)

pub times-push : (c : ℕ) (xs : List ℕ) (x : ℕ) → times c (xs ++ x ∷ []) ≡ times c xs + (if nat_eq x c then 1 else 0)
times-push c [] x = omega arith
times-push c (y ∷ xs) x = let h = times-push c xs x in omega arith

pub times_to-push : (c : ℕ) (pairs : List (ℕ × ℕ)) (p : ℕ × ℕ) → times_to c (pairs ++ p ∷ []) ≡ times_to c pairs + (if nat_eq p.1 c then 1 else 0)
times_to-push c [] p = omega arith
times_to-push c (q ∷ pairs) p = let h = times_to-push c pairs p in omega arith

pub times_to-le : (c : ℕ) (pairs : List (ℕ × ℕ)) → times_to c pairs ≤ length pairs
times_to-le c [] = omega arith
times_to-le c (p ∷ pairs) = by (nat_eq p.1 c) (times_to-le c pairs)
  where
    by : (b : Bool) → times_to c pairs ≤ length pairs → (if b then 1 else 0) + times_to c pairs ≤ suc (length pairs)
    by true h = omega arith
    by false h = omega arith

-- an element stands there more often than before it
pub times_taken : (xs : List ℕ) (i : ℕ) → i < length xs → times (at xs i) (take i xs) + 1 ≤ times (at xs i) xs
times_taken [] i h = absurd (omega arith)
times_taken (x ∷ xs) zero h = let k = one x x refl in omega arith
times_taken (x ∷ xs) (suc i) h = let k = times_taken xs i (omega arith) in omega arith

pub times-In : (c : ℕ) (xs : List ℕ) → 0 < times c xs → IsMember c xs
times-In c [] h = absurd (omega arith)
times-In c (x ∷ xs) h = by (nat_eq x c) refl (times-In c xs) h
  where
    by : (b : Bool) → nat_eq x c ≡ b → (0 < times c xs → IsMember c xs) → 0 < (if b then 1 else 0) + times c xs → IsMember c (x ∷ xs)
    by true e later h = inl (sym (eqb-true x c e))
    by false e later h = inr (later (omega arith))

pub In-times : (c : ℕ) (xs : List ℕ) → IsMember c xs → 0 < times c xs
In-times c [] i = absurd i
In-times c (x ∷ xs) (inl e) = let k = one x c (sym e) in omega arith
In-times c (x ∷ xs) (inr i) = let k = In-times c xs i in omega arith

-- ---- in counts

pub no_counts : (n c : ℕ) → at (replicate n 0) c ≡ 0
no_counts zero c = refl
no_counts (suc n) zero = refl
no_counts (suc n) (suc c) = no_counts n c

pub counted_more : (counts : List ℕ) (pairs : List (ℕ × ℕ)) (p : ℕ × ℕ) (k : ℕ) → p.1 < length counts → k ≡ at counts p.1 + 1
    → ((c : ℕ) → at counts c ≡ times_to c pairs) → (c : ℕ) → at (set counts p.1 k) c ≡ times_to c (pairs ++ p ∷ [])
counted_more counts pairs p k inside e are c = by (cases_eq c p.1)
  where
    by : (c ≡ p.1) ⊎ (c ≡ p.1 → ⊥) → at (set counts p.1 k) c ≡ times_to c (pairs ++ p ∷ [])
    by (inl f) =
        let here : at (set counts p.1 k) c ≡ k = ap (at (set counts p.1 k)) f ∙ get_or-set_same counts p.1 k 0 inside in
        let was : at counts p.1 ≡ times_to c pairs = ap (at counts) (sym f) ∙ are c in
        let push = times_to-push c pairs p in
        let is = one p.1 c (sym f) in
        omega arith
    by (inr d) =
        let there : at (set counts p.1 k) c ≡ at counts c = get_or-set_other counts p.1 c k 0 d in
        let was = are c in
        let push = times_to-push c pairs p in
        let is = none p.1 c (λ f. d (sym f)) in
        omega arith

-- ---- in a table

pub tally_blank : (n c : ℕ) → tally [] c (replicate n []) ≡ 0
tally_blank zero c = refl
tally_blank (suc n) c = let h = tally_blank n c in omega arith

pub tally_push : (rows : List (List ℕ)) (from to c : ℕ) → from < length rows
    → tally [] c (set rows from (row rows from ++ to ∷ [])) ≡ tally [] c rows + (if nat_eq to c then 1 else 0)
tally_push [] from to c h = absurd (omega arith)
tally_push (r ∷ rows) zero to c h = let k = times-push c r to in omega arith
tally_push (r ∷ rows) (suc from) to c h = let k = tally_push rows from to c (omega arith) in omega arith

-- none is done
pub tally_all : (n c : ℕ) (rows : List (List ℕ)) → tally (replicate n false) c rows ≡ tally [] c rows
tally_all zero c rows = refl
tally_all (suc n) c [] = refl
tally_all (suc n) c (r ∷ rows) = let h = tally_all n c rows in omega arith

-- one that is done counts no more
pub tally_set : (done : List Bool) (e c : ℕ) (rows : List (List ℕ)) → e < length done → flag done e ≡ false
    → tally (set done e true) c rows + times c (row rows e) ≡ tally done c rows
tally_set [] e c rows l f = absurd (omega arith)
tally_set (d ∷ done) zero c [] l f = by d
  where
    by : (d : Bool) → tally (true ∷ done) c [] + 0 ≡ tally (d ∷ done) c []
    by true = refl
    by false = refl
tally_set (false ∷ done) zero c (r ∷ rows) l f = omega arith
tally_set (true ∷ done) zero c (r ∷ rows) l f = absurd (let g : true ≡ false = f in cc)
tally_set (d ∷ done) (suc e) c [] l f = refl
tally_set (false ∷ done) (suc e) c (r ∷ rows) l f = let h = tally_set done e c rows (omega arith) f in omega arith
tally_set (true ∷ done) (suc e) c (r ∷ rows) l f = tally_set done e c rows (omega arith) f

-- what is led to is counted
pub In-tally : (done : List Bool) (c : ℕ) (rows : List (List ℕ)) (e : ℕ) → IsMember c (row rows e) → flag done e ≡ false → 0 < tally done c rows
In-tally done c [] e i f = absurd i
In-tally [] c (r ∷ rows) zero i f = let k = In-times c r i in omega arith
In-tally (false ∷ done) c (r ∷ rows) zero i f = let k = In-times c r i in omega arith
In-tally (true ∷ done) c (r ∷ rows) zero i f = absurd (let g : true ≡ false = f in cc)
In-tally [] c (r ∷ rows) (suc e) i f = let k = In-tally [] c rows e i refl in omega arith
In-tally (false ∷ done) c (r ∷ rows) (suc e) i f = let k = In-tally done c rows e i f in omega arith
In-tally (true ∷ done) c (r ∷ rows) (suc e) i f = In-tally done c rows e i f

in_first : (a b : ℕ) → 0 < a + b → (0 < a) ⊎ (0 < b)
in_first zero b h = inr (omega arith)
in_first (suc a) b h = inl (omega arith)

pub tally-In : (done : List Bool) (c : ℕ) (rows : List (List ℕ)) → 0 < tally done c rows → IsLedTo rows done c
tally-In done c [] h = absurd (by done h)
  where
    by : (done : List Bool) → 0 < tally done c [] → ⊥
    by [] h = omega arith
    by (true ∷ done) h = omega arith
    by (false ∷ done) h = omega arith
tally-In [] c (r ∷ rows) h = by (λ k. tally-In [] c rows k) (in_first (times c r) (tally [] c rows) h)
  where
    by : (0 < tally [] c rows → IsLedTo rows [] c) → (0 < times c r) ⊎ (0 < tally [] c rows) → IsLedTo (r ∷ rows) [] c
    by later (inl k) = (0, times-In c r k, refl)
    by later (inr k) = let l = later k in (suc l.0, l.1, refl)
tally-In (false ∷ done) c (r ∷ rows) h = by (λ k. tally-In done c rows k) (in_first (times c r) (tally done c rows) h)
  where
    by : (0 < tally done c rows → IsLedTo rows done c) → (0 < times c r) ⊎ (0 < tally done c rows) → IsLedTo (r ∷ rows) (false ∷ done) c
    by later (inl k) = (0, times-In c r k, refl)
    by later (inr k) = let l = later k in (suc l.0, l.1, l.2)
tally-In (true ∷ done) c (r ∷ rows) h = let l = tally-In done c rows h in (suc l.0, l.1, l.2)
