-- What is declared besides the names of a program: the names that passes made, and counters.
use Rattle.std.proofs.Common.{◌≡◌, ◌⊎◌, inl, inr, refl, sym, ap, subst, ◌∙◌, ℕ, ◌<◌, Option, Some, None, List, ◌++◌}
use Rattle.std.proofs.Common.{length, map, Contains, arith}
use Rattle.std.specs.Prelude.{codes}
use Rattle.std.specs.Option.{IsSomeAnd}
use Rattle.std.proofs.lemmas.List.Elements.{Contains-append_cases, Contains-append_left, Contains-append_right}
use Rattle.meaning.specs.Dialect.{fortran77}
use Rattle.tree.specs.declared.width.Width.{Width}
use Rattle.meaning.specs.Profile77.{IsDeclaration, IsProgram77}
use Rattle.meaning.specs.Profile90.{AreDeclarations}
use Rattle.meaning.specs.Typed.{declared}
use Rattle.meaning.specs.Typed90.{IsFree}
use Rattle.meaning_laws.proofs.arrays.Members.{each_member, of_map}
use Rattle.meaning_laws.proofs.dialects.MadeNames.{is_declared}
use Rattle.meaning_laws.proofs.profiles.Lists.{all_at}
use Rattle.meaning_laws.proofs.profiles.Names.{found}
use Rattle.meaning_laws.proofs.profiles.Programs.{source_is_target}
use Rattle.pass_laws.specs.normal_facts.Laws.{IsCounter}
use Rattle.tree.specs.Names.{IsSourceName}
use Rattle.tree.specs.Plain.{Declaration, Program}
use Rattle.translation.proofs.PlacedProfile.SourceNames.{source_name}
use Rattle.translation.proofs.ProgramTranslation.Counted.{IsCounterDeclared, IsNumbered, counter_declarations, counter_declared}
use Rattle.translation.proofs.ProgramTranslation.Counted.{each_of, numbered_is_made, of_counter}
use Rattle.translation.specs.made_declarations.Declaring.{declaration_by, integer_scalar, or_integer_scalar, with_declarations}
use Rattle.translation.specs.made_declarations.Laws.{AgreeOnNames, AreWith, IsMadeDeclaration, WithMadeNames}
use Rattle.meaning.proofs.Widths.{widest}

-- declarations of names that passes made: each of a name of its own, which counts no loop and hides no function
pub record AreMade (made : List Declaration) : Type 0 where
  pub each : (d : Declaration) → Contains made d → IsMadeDeclaration d
  pub one : AgreeOnNames made made
  pub counts : (d : Declaration) → Contains made d → ¬ IsNumbered d.name
  pub transpose : (d : Declaration) → Contains made d → ¬ (d.name ≡ codes "TRANSPOSE")
  pub reshape : (d : Declaration) → Contains made d → ¬ (d.name ≡ codes "RESHAPE")

counter_is_made : (x : List ℕ) → IsNumbered x → IsMadeDeclaration (integer_scalar x)
counter_is_made x h = record {
  declaration = record { name = (numbered_is_made x h).name; extent = (omega arith, tt) };
  made = (numbered_is_made x h).made;
  later = refl;
}

abbrev pub names_of_made : List Declaration → List (List ℕ)
names_of_made made = map (λ (d : Declaration). d.name) made

-- a name that passes made, or a counter
abbrev pub IsMadeHere : List Declaration → List ℕ → Type 0
IsMadeHere made x = Contains (names_of_made made) x ⊎ IsNumbered x

module _ (width : Width) (within : WithMadeNames) (p : Program) (program : IsProgram77 (fortran77 width) p) (made : List Declaration) (given : AreMade made) where
  abbrev pub all : List Declaration
  all = made ++ counter_declarations

  abbrev pub rs : List Declaration
  rs = with_declarations p.declarations all

  pub own_are : AreDeclarations p.declarations
  own_are = (source_is_target (fortran77 width) p (widest width) program).declarations

  pub own_source : (e : Declaration) → Contains p.declarations e → IsSourceName e.name
  own_source e c = source_name e.name (all_at (IsDeclaration (fortran77 width)) p.declarations e program.declarations.each c).name

  -- ---- each of them

  pub either : (e : Declaration) → Contains all e → Contains made e ⊎ IsCounterDeclared e
  either e c = by (Contains-append_cases made counter_declarations e c)
    where
      by : Contains made e ⊎ Contains counter_declarations e → Contains made e ⊎ IsCounterDeclared e
      by (inl i) = inl i
      by (inr i) = inr (of_counter e i)

  pub each_made : (e : Declaration) → Contains all e → IsMadeDeclaration e
  each_made e c = by (either e c)
    where
      by : Contains made e ⊎ IsCounterDeclared e → IsMadeDeclaration e
      by (inl i) = given.each e i
      by (inr o) = subst IsMadeDeclaration (sym o.is) (counter_is_made e.name o.numbered)

  pub agree : AgreeOnNames all all
  agree d e c k same = by (either d c) (either e k)
    where
      by : Contains made d ⊎ IsCounterDeclared d → Contains made e ⊎ IsCounterDeclared e → d ≡ e
      by (inl i) (inl j) = given.one d e i j same
      by (inl i) (inr o) = absurd (given.counts d i (subst IsNumbered (sym same) o.numbered))
      by (inr o) (inl j) = absurd (given.counts e j (subst IsNumbered same o.numbered))
      by (inr o) (inr n) = o.is ∙ ap integer_scalar same ∙ sym n.is

  pub apart : (d e : Declaration) → Contains p.declarations d → Contains all e → d.name ≡ e.name → ⊥
  apart d e c k same = (each_made e k).made (subst IsSourceName same (own_source d c))

  pub with_all : AreWith p.declarations all rs
  with_all = within p.declarations all own_are (each_member IsMadeDeclaration all each_made) agree apart

  -- ---- how names are declared

  pub not_source : (x : List ℕ) → IsMadeHere made x → IsSourceName x → ⊥
  not_source x (inl c) source =
      let d = of_map (λ (e : Declaration). e.name) made x c in
      (given.each d.0 d.1).made (subst IsSourceName (sym d.2) source)
  not_source x (inr n) source = (numbered_is_made x n).made source

  one_declared : (x : List ℕ) (o : Option Declaration) → declared made x ≡ o → IsMadeHere made x
      → Contains all (or_integer_scalar x o) × ((or_integer_scalar x o).name ≡ x)
  one_declared x (Some d) e h =
      let f = found made x d e in (Contains-append_left made counter_declarations d f.among, f.name)
  one_declared x None e (inl c) =
      let d = is_declared made x c in
      let is = d.1 in
      let no : ⊥ = cc in absurd no
  one_declared x None e (inr n) =
      (Contains-append_right made counter_declarations (integer_scalar x) (counter_declared x n), refl)

  pub declared_here : (x : List ℕ) → IsMadeHere made x
      → Contains all (declaration_by made x) × ((declaration_by made x).name ≡ x)
  declared_here x h = one_declared x (declared made x) refl h

  pub declared_counter : (x : List ℕ) → IsNumbered x → IsSomeAnd (declared rs x) IsCounter
  declared_counter x h =
      let among = Contains-append_right made counter_declarations (integer_scalar x) (counter_declared x h) in
      subst (λ o. IsSomeAnd o IsCounter) (sym (with_all.declared (integer_scalar x) among)) (record { kind = refl; scalar = refl })

  -- no function is hidden
  pub unhidden : (f : List ℕ) → 6 < length f → (IsNumbered f → ⊥) → ((d : Declaration) → Contains made d → ¬ (d.name ≡ f))
      → IsFree rs f
  unhidden f long other none = by (declared rs f) refl
    where
      made_hides : (d : Declaration) → d.name ≡ f → Contains made d ⊎ IsCounterDeclared d → ⊥
      made_hides d n (inl c) = none d c n
      made_hides d n (inr o) = other (subst IsNumbered n o.numbered)

      hides : (d : Declaration) → d.name ≡ f → Contains p.declarations d ⊎ Contains all d → ⊥
      hides d n (inl c) = let short = (subst IsSourceName n (own_source d c)).within in omega (arith, long, short)
      hides d n (inr c) = made_hides d n (either d c)

      by : (o : Option Declaration) → declared rs f ≡ o → o ≡ None
      by None e = refl
      by (Some d) e = let at = found rs f d e in absurd (hides d at.name (each_of p.declarations all d at.among))
