-- Names of a source, and names among names.
use Rattle.std.proofs.Common.{◌≡◌, sym, refl, ◌⊎◌, inl, inr, ℕ, Bool, true, false, not, ◌&&◌, ◌||◌, List, [], ◌∷◌, length, map, subst, arith, Contains}
use Rattle.std.specs.Prelude.{nat_eq, nat_le}
use Rattle.std.specs.List.{list_any}
use Rattle.std.specs.Str.{bytes_eq}
use Rattle.std.proofs.lemmas.Bool.{le-leb}
use Rattle.std.proofs.lemmas.Map.Views.{Contains-from_any}
use Rattle.std.proofs.lemmas.Slice.Eq.{bytes_eq-Decides}
use Rattle.tree.specs.Names.{IsSourceName}
use Rattle.tree.specs.Plain.{Declaration, Program}
use Rattle.meaning.specs.Dialect.{Dialect}
use Rattle.meaning.specs.Names.{is_among}
use Rattle.meaning.specs.Profile77.{IsDeclaration, IsProgram77}
use Rattle.meaning.specs.Store.{names_of}
use Rattle.meaning_laws.proofs.arrays.Members.{in_map, of_map}
use Rattle.meaning_laws.proofs.profiles.Lists.{all_at, cases_of, nowhere}
use Rattle.meaning_laws.specs.profiles.Profiles.{AddMadeNames}
use Rattle.reductions.specs.Finding.{is_source}
use Rattle.reduction_laws.specs.blocks.Meaning.{HasSourceNames}
use Rattle.translation.proofs.PlacedProfile.SourceNames.{source_name}
use Rattle.reduced_programs.specs.Names.{SourceNamesStay}

-- ---- names among names

first : (a b : Bool) → a ≡ true → (a || b) ≡ true
first true b e = refl
first false b e = cc

later : (a b : Bool) → b ≡ true → (a || b) ≡ true
later true b e = refl
later false b e = e

pub among : (ns : List (List ℕ)) (x : List ℕ) → Contains ns x → is_among ns x ≡ true
among [] x c = absurd (nowhere x c)
among (n ∷ ns) x c = by (cases_of n ns x c) (among ns x)
  where
    by : (n ≡ x) ⊎ Contains ns x → (Contains ns x → is_among ns x ≡ true) → (bytes_eq x n || is_among ns x) ≡ true
    by (inl e) more = first (bytes_eq x n) (is_among ns x) ((bytes_eq-Decides x n).1 (sym e))
    by (inr i) more = later (bytes_eq x n) (is_among ns x) (more i)

-- ---- names of a source

same_number : (m n : ℕ) → nat_eq m n ≡ true → m ≡ n
same_number m n e = grind arith

differ : (b : Bool) → b ≡ true → b ≡ false → ⊥
differ true e f = cc
differ false e f = cc

pub source_is : (x : List ℕ) → IsSourceName x → is_source x ≡ true
source_is x h = by (nat_le (length x) 6) (list_any (nat_eq 95) x) refl refl
  where
    by : (p q : Bool) → nat_le (length x) 6 ≡ p → list_any (nat_eq 95) x ≡ q → (p && not q) ≡ true
    by true true e f = absurd (h.plain (Contains-from_any same_number 95 x f))
    by true false e f = refl
    by false q e f = absurd (differ (nat_le (length x) 6) (le-leb (length x) 6 h.within) e)

pub source_names_stay : SourceNamesStay
source_names_stay lang q p source more x c =
    let d = of_map (λ (e : Declaration). e.name) q.declarations x c in
    let own : IsSourceName d.0.name = source_name d.0.name (all_at (IsDeclaration lang) q.declarations d.0 source.declarations.each d.1).name in (
      subst (λ y. is_source y ≡ true) d.2 (source_is d.0.name own),
      subst (λ y. Contains (names_of p) y) d.2 (in_map (λ (e : Declaration). e.name) p.declarations d.0 (more.kept d.0 d.1)),
    )
