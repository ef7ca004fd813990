-- The counters of the loops round an expression are at the iterations.
use Rattle.std.proofs.Common.{◌≡◌, refl, sym, ap, ◌∙◌, subst, ℕ, suc, ◌+◌, ℤ, pos, Bool, true, false, ◌||◌, List, []}
use Rattle.std.proofs.Common.{◌∷◌, ◌++◌, map, length, Contains, arith}
use Rattle.std.specs.List.{AllByRecursion}
use Rattle.std.specs.Str.{bytes_eq}
use Rattle.std.proofs.lemmas.List.Elements.{recursion_from_All}
use Rattle.std.proofs.lemmas.Slice.Eq.{bytes_eq-Decides}
use Rattle.meaning_laws.proofs.arrays.Members.{here, there}
use Rattle.meaning.specs.Names.{is_among}
use Rattle.meaning.specs.Store.{Store, Cell}
use Rattle.rewrite.proofs.Replacing.{bytes_eq-false}
use Rattle.linear_forms.specs.Linear.{HaveValues}
use Rattle.last_values.specs.declared.normal_forms.loops.NormalLoop.{NormalLoop}
use Rattle.last_values.specs.normal_forms.NormalLoops.{counters_of, variables_of}
use Rattle.last_values.specs.normal_forms.Numbers.{values_from}
use Rattle.pass_laws.specs.normal_values.Beside.{AreApart, IsBeside, iteration_at}
use Rattle.pass_laws.proofs.NormalValues.Mixed.{AreOther, distinct_are_other}
use Rattle.pass_laws.proofs.NormalValues.Points.{list_points}

-- ---- names that hold values

pub values_count : (names : List (List ℕ)) (s : Store) (zs : List ℤ) → HaveValues names s zs → length zs ≡ length names
values_count [] s [] h = refl
values_count [] s (z ∷ zs) h = absurd h
values_count (y ∷ ys) s [] h = absurd h
values_count (y ∷ ys) s (z ∷ zs) h = ap suc (values_count ys s zs h.2)

pub values_split : (f : ℕ → ℤ) (xs ys : List (List ℕ)) (j : ℕ) (u : Store) → HaveValues (xs ++ ys) u (values_from (length (xs ++ ys)) j f)
    → HaveValues xs u (values_from (length xs) j f) × HaveValues ys u (values_from (length ys) (j + length xs) f)
values_split f [] ys j u h = let same : j ≡ j + 0 = omega arith in (tt, subst (λ i. HaveValues ys u (values_from (length ys) i f)) same h)
values_split f (x ∷ xs) ys j u h =
    let p = values_split f xs ys (j + 1) u h.2 in
    let same : (j + 1) + length xs ≡ j + suc (length xs) = omega arith in
    ((h.0, h.1, p.0), subst (λ i. HaveValues ys u (values_from (length ys) i f)) same p.1)

-- names that two stores have in common
pub common_values : (apart : List ℕ → Bool) (s t : Store) → ((x : List ℕ) → apart x ≡ false → s.bounds x ≡ t.bounds x) → ((c : Cell) → apart c.name ≡ false → s.held c ≡ t.held c)
    → (names : List (List ℕ)) (zs : List ℤ) → AllByRecursion (λ x. apart x ≡ false) names → HaveValues names s zs → HaveValues names t zs
common_values apart s t bounds held [] [] h k = tt
common_values apart s t bounds held [] (z ∷ zs) h k = absurd k
common_values apart s t bounds held (y ∷ ys) [] h k = absurd k
common_values apart s t bounds held (y ∷ ys) (z ∷ zs) h k =
    (sym (bounds y h.0) ∙ k.0, sym (held (record { name = y; subscripts = [] }) h.0) ∙ k.1, common_values apart s t bounds held ys zs h.1 k.2)

-- ---- names among names

-- a name that isn't apart is none of those that are
pub apart_other : (apart : List ℕ → Bool) (xs : List (List ℕ)) (y : List ℕ) → AllByRecursion (λ x. apart x ≡ true) xs → apart y ≡ false → is_among xs y ≡ false
apart_other apart [] y h k = refl
apart_other apart (x ∷ xs) y h k =
    ap (λ b. b || is_among xs y) (bytes_eq-false y x (λ e. let both = sym k ∙ (ap apart e ∙ h.0) in cc)) ∙ apart_other apart xs y h.1 k

pub all_other : (apart : List ℕ → Bool) (xs ys : List (List ℕ)) → AllByRecursion (λ x. apart x ≡ true) xs → AllByRecursion (λ y. apart y ≡ false) ys → AreOther xs ys
all_other apart xs [] h k = tt
all_other apart xs (y ∷ ys) h k = (apart_other apart xs y h k.0, all_other apart xs ys h k.1)

among_is : (names : List (List ℕ)) (x : List ℕ) → is_among names x ≡ true → Contains names x
among_is [] x e = absurd cc
among_is (y ∷ ys) x e = by (bytes_eq x y) refl e (among_is ys x)
  where
    by : (b : Bool) → bytes_eq x y ≡ b → (b || is_among ys x) ≡ true → (is_among ys x ≡ true → Contains ys x) → Contains (y ∷ ys) x
    by true p e more = subst (Contains (y ∷ ys)) (sym ((bytes_eq-Decides x y).0 p)) (here y ys)
    by false p e more = there y ys x (more e)

pub not_among : (names : List (List ℕ)) (x : List ℕ) → ¬ (Contains names x) → is_among names x ≡ false
not_among names x h = by (is_among names x) refl
  where
    by : (b : Bool) → is_among names x ≡ b → b ≡ false
    by true e = absurd (h (among_is names x e))
    by false e = refl

pub counters_both : (xs ys : List NormalLoop) → counters_of (xs ++ ys) ≡ counters_of xs ++ counters_of ys
counters_both [] ys = refl
counters_both (x ∷ xs) ys = ap (λ l. x.counter ∷ l) (counters_both xs ys)

-- ---- the stores of the two runs

module _ (symbols : List (List ℕ)) (values : ℕ → ℤ) (apart : List ℕ → Bool) (round : List NormalLoop) (is : List ℕ) (s t : Store) (free : AreApart symbols apart round) (beside : IsBeside symbols values apart round is s t) where
  pub counters_there : HaveValues (counters_of round) t (values_from (length (counters_of round)) 0 (iteration_at is))
  counters_there =
      subst (HaveValues (counters_of round) t)
      (list_points (map pos is) ∙ ap (λ m. values_from m 0 (iteration_at is)) (values_count (counters_of round) t (map pos is) beside.counters)) beside.counters

  pub symbols_there : HaveValues symbols t (values_from (length symbols) 0 values)
  symbols_there = common_values apart s t beside.bounds beside.held symbols (values_from (length symbols) 0 values) (recursion_from_All (λ x. apart x ≡ false) symbols free.common) beside.known

  pub variables_apart : AllByRecursion (λ x. apart x ≡ true) (variables_of round)
  variables_apart = recursion_from_All (λ x. apart x ≡ true) (variables_of round) free.variables

  pub counters_apart : AllByRecursion (λ x. apart x ≡ true) (counters_of round)
  counters_apart = recursion_from_All (λ x. apart x ≡ true) (counters_of round) free.counters

  pub symbols_other : AreOther (variables_of round) symbols
  symbols_other = all_other apart (variables_of round) symbols variables_apart (recursion_from_All (λ x. apart x ≡ false) symbols free.common)

  pub counters_other : AreOther (variables_of round) (counters_of round)
  counters_other = distinct_are_other (variables_of round) (counters_of round) free.once
