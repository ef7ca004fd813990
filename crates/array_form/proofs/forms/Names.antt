-- What an expression means depends on the cells of the names that stand in it.
use Rattle.std.proofs.Common.{◌≡◌, refl, sym, ap, ◌∙◌, subst, ◌⊎◌, inl, inr, ℕ, ℤ, Bool, true, false, cond, List, [], ◌∷◌, map, Option, None, Contains}
use Rattle.std.specs.List.{AllByRecursion}
use Rattle.std.specs.Str.{bytes_eq}
use Rattle.std.proofs.lemmas.List.Elements.{recursion_from_All, All-contains_itself}
use Rattle.std.proofs.lemmas.Slice.Eq.{bytes_eq-Decides}
use Rattle.tree.specs.Plain.{Expression, Subscripts, Given, Declaration, Program, no_statements}
use Rattle.tree.specs.declared.ops.Kind.TheVariants.{Integer}
use Rattle.meaning.specs.Dialect.{Dialect}
use Rattle.meaning.specs.Reads.{names_in, names_in_subscripts}
use Rattle.meaning.specs.Store.{Store, Cell, nought_like, Agree, names_of}
use Rattle.meaning.specs.Value.{value_of, subscript_values}
use Rattle.meaning.proofs.AgreeingValues.{value_of-agree, subscript_values-agree}
use Rattle.array_form.specs.forms.Loops.{is_among}
use Rattle.meaning_laws.proofs.arrays.Members.{here, there, nowhere, cases_of}

-- ---- names among names

pub among : (names : List (List ℕ)) (x : List ℕ) → Contains names x → is_among names x ≡ true
among [] x m = absurd (nowhere x m)
among (y ∷ ys) x m = by (bytes_eq y x) refl (cases_of y ys x m) (among ys x)
  where
    by : (b : Bool) → bytes_eq y x ≡ b → (y ≡ x) ⊎ Contains ys x → (Contains ys x → is_among ys x ≡ true) → cond b true (is_among ys x) ≡ true
    by true e c more = refl
    by false e (inl q) more = let same = (bytes_eq-Decides y x).1 q in absurd (let both = sym e ∙ same in cc)
    by false e (inr k) more = more k

pub among_is : (names : List (List ℕ)) (x : List ℕ) → is_among names x ≡ true → Contains names x
among_is [] x e = absurd cc
among_is (y ∷ ys) x e = by (bytes_eq y x) refl e (among_is ys x)
  where
    by : (b : Bool) → bytes_eq y x ≡ b → cond b true (is_among ys x) ≡ true → (is_among ys x ≡ true → Contains ys x) → Contains (y ∷ ys) x
    by true p e more = subst (Contains (y ∷ ys)) ((bytes_eq-Decides y x).0 p) (here y ys)
    by false p e more = there y ys x (more e)

-- ---- stores that are alike in all names of a list

pub record Alike (xs : List (List ℕ)) (s t : Store) : Type 0 where
  pub bounds : s.bounds ≡ t.bounds
  pub held : (c : Cell) → Contains xs c.name → s.held c ≡ t.held c

abbrev declared_as : List ℕ → Declaration
declared_as x = record { name = x; kind = Integer; extent = Given [] }

abbrev program_of : List (List ℕ) → Program
program_of xs = record { name = None; declarations = map declared_as xs; body = no_statements }

names_are : (xs : List (List ℕ)) → names_of (program_of xs) ≡ xs
names_are [] = refl
names_are (x ∷ xs) = ap (λ ys. x ∷ ys) (names_are xs)

agreed : (xs : List (List ℕ)) (s t : Store) → Alike xs s t → Agree (program_of xs) s t
agreed xs s t a = record {
  bounds = λ x m. ap (λ (b : List ℕ → Option (List (ℤ × ℤ))). b x) a.bounds;
  held = λ c m k. a.held c (subst (λ ys. Contains ys c.name) (names_are xs) m);
  kinds = λ c m. ap nought_like (a.held c (subst (λ ys. Contains ys c.name) (names_are xs) m));
}

all_declared : (xs : List (List ℕ)) → AllByRecursion (Contains (names_of (program_of xs))) xs
all_declared xs = subst (λ ys. AllByRecursion (Contains ys) xs) (sym (names_are xs)) (recursion_from_All (Contains xs) xs (All-contains_itself xs))

pub value_alike : (d : Dialect) (e : Expression) (s t : Store) → Alike (names_in e) s t → value_of d e s ≡ value_of d e t
value_alike d e s t a = value_of-agree d (program_of (names_in e)) e (all_declared (names_in e)) s t (agreed (names_in e) s t a)

pub subscripts_alike : (d : Dialect) (ps : Subscripts) (s t : Store) → Alike (names_in_subscripts ps) s t → subscript_values d ps s ≡ subscript_values d ps t
subscripts_alike d ps s t a = subscript_values-agree d (program_of (names_in_subscripts ps)) ps (all_declared (names_in_subscripts ps)) s t (agreed (names_in_subscripts ps) s t a)
