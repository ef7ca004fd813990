-- The names that statements declare are those of some list.
use Rattle.std.proofs.Common.{◌≡◌, ◌⊎◌, inl, inr, sym, subst, ℕ, Bool, List, [], ◌∷◌, ◌++◌, map, Contains}
use Rattle.std.specs.Prelude.{◌↔◌}
use Rattle.std.proofs.lemmas.List.Elements.{Contains-append_left, Contains-append_right, Contains-append_cases}
use Rattle.tree.specs.declared.ops.Kind.{Kind}
use Rattle.f90_grammar.specs.Forms as forms
use Rattle.f90_grammar.specs.Forms.{EntityForm90}
use Rattle.f90_grammar.specs.FreeForm.{FreeStatement}
use Rattle.f90_grammar.specs.Refusals.{IsFormOf90, IsDeclaredIn}
use Rattle.f90_laws.proofs.readings.Lists.{here, there, nowhere, cases_of}
use Rattle.f90_laws.proofs.unique.Statements.{one_statement}

abbrev pub AreDeclared : List FreeStatement → List (List ℕ) → Type 0
AreDeclared ss xs = (x : List ℕ) → Contains xs x ↔ IsDeclaredIn ss x

record IsDeclaration (s : FreeStatement) : Type 0 where
  pub kind : Kind
  pub allocatable : Bool
  pub entities : List EntityForm90
  pub form : IsFormOf90 s (forms.Declare kind allocatable entities)

abbrev names_in : List EntityForm90 → List (List ℕ)
names_in es = map (λ (e : EntityForm90). e.name) es

none_declared : AreDeclared [] []
none_declared x = (λ c. absurd (nowhere x c), λ i. absurd (nowhere i.statement i.stands))

further : (s : FreeStatement) (ss : List FreeStatement) (x : List ℕ) → IsDeclaredIn ss x → IsDeclaredIn (s ∷ ss) x
further s ss x i = record {
  statement = i.statement;
  stands = there s ss i.statement i.stands;
  kind = i.kind;
  allocatable = i.allocatable;
  entities = i.entities;
  form = i.form;
  name = i.name;
}

-- it is declared by a statement that stands there
behind : (ss : List FreeStatement) (x : List ℕ) (us : List FreeStatement) (i : IsDeclaredIn us x)
    → Contains ss i.statement → IsDeclaredIn ss x
behind ss x us i c = record {
  statement = i.statement;
  stands = c;
  kind = i.kind;
  allocatable = i.allocatable;
  entities = i.entities;
  form = i.form;
  name = i.name;
}

module _ (s : FreeStatement) (ss : List FreeStatement) (xs : List (List ℕ)) (are : AreDeclared ss xs) where
  -- the first statement is a declaration
  module _ (d : IsDeclaration s) where
    declares : (x : List ℕ) → Contains (names_in d.entities) x ⊎ Contains xs x → IsDeclaredIn (s ∷ ss) x
    declares x (inl c) = record {
      statement = s;
      stands = here s ss;
      kind = d.kind;
      allocatable = d.allocatable;
      entities = d.entities;
      form = d.form;
      name = c;
    }
    declares x (inr c) = further s ss x ((are x).0 c)

    is_in : (x : List ℕ) (i : IsDeclaredIn (s ∷ ss) x) → (s ≡ i.statement) ⊎ Contains ss i.statement
        → Contains (names_in d.entities ++ xs) x
    is_in x i (inl e) =
        let f = forms.Declare i.kind i.allocatable i.entities in
        let g = forms.Declare d.kind d.allocatable d.entities in
        let of : IsFormOf90 s f = subst (λ (t : FreeStatement). IsFormOf90 t f) (sym e) i.form in
        let one : f ≡ g = one_statement s f g of d.form in
        let same : i.entities ≡ d.entities = cc in
        Contains-append_left (names_in d.entities) xs x
        (subst (λ (es : List EntityForm90). Contains (names_in es) x) same i.name)
    is_in x i (inr c) =
        Contains-append_right (names_in d.entities) xs x ((are x).1 (behind ss x (s ∷ ss) i c))

    with_names : AreDeclared (s ∷ ss) (names_in d.entities ++ xs)
    with_names x = (
      λ c. declares x (Contains-append_cases (names_in d.entities) xs x c),
      λ i. is_in x i (cases_of s ss i.statement i.stands),
    )

  -- it is none
  module _ (n : IsDeclaration s → ⊥) where
    is_behind : (x : List ℕ) (i : IsDeclaredIn (s ∷ ss) x) → (s ≡ i.statement) ⊎ Contains ss i.statement
        → Contains xs x
    is_behind x i (inl e) =
        absurd (n (record {
          kind = i.kind;
          allocatable = i.allocatable;
          entities = i.entities;
          form = subst (λ (t : FreeStatement). IsFormOf90 t (forms.Declare i.kind i.allocatable i.entities)) (sym e)
              i.form;
        }))
    is_behind x i (inr c) = (are x).1 (behind ss x (s ∷ ss) i c)

    without_names : AreDeclared (s ∷ ss) xs
    without_names x = (
      λ c. further s ss x ((are x).0 c),
      λ i. is_behind x i (cases_of s ss i.statement i.stands),
    )

-- there is such a list
pub names_declared : (ss : List FreeStatement) → ((xs : List (List ℕ)) → AreDeclared ss xs → ⊥) → ⊥
names_declared [] k = k [] none_declared
names_declared (s ∷ ss) k =
    names_declared ss (λ xs are. k xs (without_names s ss xs are
    (λ d. k (names_in d.entities ++ xs) (with_names s ss xs are d))))
