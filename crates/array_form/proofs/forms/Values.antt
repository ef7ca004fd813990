-- Instances by the positions that they have.
use Rattle.std.proofs.Common.{◌≡◌, refl, sym, ap, ◌∙◌, subst, ◌⊎◌, inl, inr, ℕ, suc, ◌+◌, ◌-◌, ◌≤◌, ◌<◌, ℤ, Bool, true, false, cond, List, [], ◌∷◌, ◌++◌, map, length, arith, Contains}
use Rattle.std.specs.Str.{bytes_eq}
use mathlib.Core.Path.{ap₂}
use Rattle.meaning.specs.ArrayValues.{positions}
use Rattle.meaning.specs.Dialect.{Dialect}
use Rattle.meaning.specs.Store.{Store}
use Rattle.meaning_laws.proofs.arrays.Members.{here, there, nowhere, cases_of}
use Rattle.array_form.specs.forms.Instances.{count_of, counts_of}
use Rattle.array_form.specs.forms.Laws.{AreKnown, AreTurning}
use Rattle.array_form.specs.forms.Loops.{FormLoop, FormSurroundings, form_variables_of, is_among}
use Rattle.array_form.specs.forms.Trips.{AreDistinct}
use Rattle.array_form.proofs.forms.Axes.{Fit, Within, places}
use Rattle.array_form.proofs.forms.Iterations.{iterations}
use Rattle.array_form.proofs.forms.Names.{among}
use Rattle.array_form.proofs.forms.Positions.{AreFrom, positions_from, iteration_of, iterations_are}

-- ---- loops by their names

pub variable_in : (ls : List FormLoop) (l : FormLoop) → Contains ls l → Contains (form_variables_of ls) l.variable
variable_in [] l h = absurd (nowhere l h)
variable_in (m ∷ ls) l h = by (cases_of m ls l h) (variable_in ls l)
  where
    by : (m ≡ l) ⊎ Contains ls l → (Contains ls l → Contains (form_variables_of ls) l.variable) → Contains (m.variable ∷ form_variables_of ls) l.variable
    by (inl e) more = subst (λ (k : FormLoop). Contains (m.variable ∷ form_variables_of ls) k.variable) e (here m.variable (form_variables_of ls))
    by (inr k) more = there m.variable (form_variables_of ls) l.variable (more k)

-- loops of one name are one, where names are distinct
pub one_of_a_name : (ls : List FormLoop) → AreDistinct (form_variables_of ls) → (l m : FormLoop) → Contains ls l → Contains ls m → l.variable ≡ m.variable → l ≡ m
one_of_a_name [] d l m h k e = absurd (nowhere l h)
one_of_a_name (n ∷ ls) d l m h k e = by (cases_of n ls l h) (cases_of n ls m k) (λ p q. one_of_a_name ls d.1 l m p q e)
  where
    not_both : (p : FormLoop) → Contains ls p → n.variable ≡ p.variable → ⊥
    not_both p q f =
        let found = among (form_variables_of ls) p.variable (variable_in ls p q) in
        let bad : false ≡ true = sym d.0 ∙ (ap (is_among (form_variables_of ls)) f ∙ found) in cc

    by : (n ≡ l) ⊎ Contains ls l → (n ≡ m) ⊎ Contains ls m → (Contains ls l → Contains ls m → l ≡ m) → l ≡ m
    by (inl p) (inl q) more = sym p ∙ q
    by (inl p) (inr q) more = absurd (not_both m q (ap (λ (k : FormLoop). k.variable) p ∙ e))
    by (inr p) (inl q) more = absurd (not_both l p (ap (λ (k : FormLoop). k.variable) q ∙ sym e))
    by (inr p) (inr q) more = more p q

in_front : (xs ys : List (List ℕ)) (x : List ℕ) → is_among xs x ≡ true → is_among (xs ++ ys) x ≡ true
in_front [] ys x h = absurd cc
in_front (y ∷ xs) ys x h = by (bytes_eq y x) h (in_front xs ys x)
  where
    by : (b : Bool) → cond b true (is_among xs x) ≡ true → (is_among xs x ≡ true → is_among (xs ++ ys) x ≡ true) → cond b true (is_among (xs ++ ys) x) ≡ true
    by true h more = refl
    by false h more = more h

pub fitting : (lang : Dialect) (a : FormSurroundings) (D : List FormLoop) (s : Store) (xs : List ℤ) → (k : AreKnown a s xs) → AreTurning a D xs → Fit lang a s xs k.few k.values k.sized k.distinct D
fitting lang a D s xs k t = record {
  turns = t.turns;
  among = λ l h. in_front (form_variables_of a.loops) a.symbols l.variable (among (form_variables_of a.loops) l.variable (variable_in a.loops l (t.loops l h)));
  one = one_of_a_name D t.once;
}

-- ---- positions and iterations

pub same_length : (xs : List ℤ) (ls : List FormLoop) → length (counts_of xs ls) ≡ length ls
same_length xs [] = refl
same_length xs (l ∷ ls) = ap (λ n. suc n) (same_length xs ls)

-- numbers from `low` on are within the trips
pub bounded_by : (xs : List ℤ) (low : ℕ) (ls : List FormLoop) (is : List ℕ) (ι : List ℕ → ℕ) → iterations ι ls ≡ is → AreFrom low (counts_of xs ls) is → (l : FormLoop) → Contains ls l → (low ≤ ι l.variable) × (ι l.variable < low + count_of xs l)
bounded_by xs low [] is ι e h l c = absurd (nowhere l c)
bounded_by xs low (m ∷ ls) [] ι e h l c = absurd h
bounded_by xs low (m ∷ ls) (i ∷ is) ι e h l c =
    let same : iterations ι (m ∷ ls) ≡ i ∷ is = e in
    by (cases_of m ls l c) (first (iterations ι (m ∷ ls)) (i ∷ is) same) (bounded_by xs low ls is ι (behind (iterations ι (m ∷ ls)) (i ∷ is) same) h.1 l)
  where
    head : List ℕ → ℕ
    head [] = 0
    head (x ∷ ys) = x

    rest : List ℕ → List ℕ
    rest [] = []
    rest (x ∷ ys) = ys

    first : (ys zs : List ℕ) → ys ≡ zs → head ys ≡ head zs
    first ys zs e = ap head e

    behind : (ys zs : List ℕ) → ys ≡ zs → rest ys ≡ rest zs
    behind ys zs e = ap rest e

    by : (m ≡ l) ⊎ Contains ls l → ι m.variable ≡ i → (Contains ls l → (low ≤ ι l.variable) × (ι l.variable < low + count_of xs l)) → (low ≤ ι l.variable) × (ι l.variable < low + count_of xs l)
    by (inl p) f more = subst (λ (k : FormLoop). (low ≤ ι k.variable) × (ι k.variable < low + count_of xs k)) p (subst (λ j. (low ≤ j) × (j < low + count_of xs m)) (sym f) h.0)
    by (inr k) f more = more k

pub next : (ns is : List ℕ) → AreFrom 0 ns is → AreFrom 1 ns (map suc is)
next [] [] h = tt
next [] (i ∷ is) h = absurd h
next (n ∷ ns) [] h = absurd h
next (n ∷ ns) (i ∷ is) h = let p = h.0.1 in ((omega arith, omega (arith, p)), next ns is h.1)

-- an instance by its position
pub record By (lang : Dialect) (a : FormSurroundings) (D : List FormLoop) (s : Store) (xs : List ℤ) (k : AreKnown a s xs) (is : List ℕ) : Type 0 where
  pub ι : List ℕ → ℕ
  pub within : Within lang a s xs k.few k.values k.sized k.distinct D ι
  pub iterations_are : iterations ι D ≡ map suc is
  pub places_are : places lang a s xs k.few k.values k.sized k.distinct ι D ≡ is

pub before : (f : FormLoop → ℕ) (ls : List FormLoop) (is : List ℕ) → map f ls ≡ map suc is → map (λ (l : FormLoop). f l - 1) ls ≡ is
before f [] [] e = refl
before f [] (i ∷ is) e = absurd cc
before f (l ∷ ls) [] e = absurd cc
before f (l ∷ ls) (i ∷ is) e =
    let one : f l ≡ suc i = cc in
    let others : map f ls ≡ map suc is = cc in
    ap₂ (λ (x : ℕ) (ys : List ℕ). x ∷ ys) (omega (arith, one)) (before f ls is others)

pub by_position : (lang : Dialect) (a : FormSurroundings) (D : List FormLoop) (s : Store) (xs : List ℤ) → (k : AreKnown a s xs) → AreTurning a D xs → (is : List ℕ) → Contains (positions (counts_of xs D)) is → By lang a D s xs k is
by_position lang a D s xs k t is c =
    let from = positions_from (counts_of xs D) is c in
    let ι = iteration_of D (map suc is) in
    let are = iterations_are 1 D (counts_of xs D) (map suc is) t.once (same_length xs D) (next (counts_of xs D) is from) in
    record {
      ι = ι;
      within = λ l h. let b = bounded_by xs 1 D (map suc is) ι are (next (counts_of xs D) is from) l h in let low = b.0 in let high = b.1 in (low, omega (arith, high));
      iterations_are = are;
      places_are = before (λ (l : FormLoop). ι l.variable) D is are;
    }
