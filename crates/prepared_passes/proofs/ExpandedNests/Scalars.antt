-- Declarations among which what has one of these names is a scalar.
use Rattle.std.proofs.Common.{◌≡◌, ◌⊎◌, inl, inr, refl, sym, ap, ap₂, ◌∙◌, subst, ℕ, ◌≤◌, Bool, true, false, cond, Contains, List, [], ◌∷◌, map, Option, Some, None, arith}
use Rattle.std.specs.List.{AllByRecursion, sum_by}
use Rattle.std.specs.Option.{IsSomeAnd, option_map}
use Rattle.std.specs.Str.{bytes_eq}
use Rattle.std.proofs.lemmas.List.Sums.{sum-map, sum_by-cons}
use Rattle.meaning.specs.Extents.{array_elements}
use Rattle.meaning.specs.Names.{IsInByteOrder}
use Rattle.meaning.specs.Profile90.{AreDeclarations, IsDeclaration}
use Rattle.meaning.specs.Typed.{declared, dimensions}
use Rattle.meaning_laws.proofs.arrays.Members.{in_map, of_map}
use Rattle.meaning_laws.specs.profiles.Profiles.{AddMadeNames}
use Rattle.nest.specs.statement_loops.Names.{is_among}
use Rattle.nest_order.specs.orders.Lists.{In}
use Rattle.pass_laws.specs.normal_facts.Laws.{IsCounter}
use Rattle.tree.specs.Names.{IsSourceName}
use Rattle.tree.specs.Plain.{Declaration, Given}
use Rattle.prepared_passes.specs.expansion.Before.{scalar_where_named}
use Rattle.prepared_passes.proofs.ExpandedNests.Allowed.{among_is, not_among}

abbrev pub as_scalar : Declaration → Declaration
as_scalar d = record d { extent = Given [] }

module _ (xs : List (List ℕ)) where
  abbrev pub changed : Declaration → Declaration
  changed d = scalar_where_named xs d

  pub same_name : (d : Declaration) → (scalar_where_named xs d).name ≡ d.name
  same_name d = by (is_among xs d.name)
    where
      by : (b : Bool) → (cond b (as_scalar d) d).name ≡ d.name
      by true = refl
      by false = refl

  pub is_other : (d : Declaration) → ¬ In d.name xs → scalar_where_named xs d ≡ d
  is_other d n = ap (λ b. cond b (as_scalar d) d) (not_among xs d.name n)

  pub is_named : (d : Declaration) → In d.name xs → scalar_where_named xs d ≡ as_scalar d
  is_named d i = ap (λ b. cond b (as_scalar d) d) (among_is xs d.name i)

  pub declared_then : (ds : List Declaration) (x : List ℕ) → declared (map changed ds) x ≡ option_map changed (declared ds x)
  declared_then [] x = refl
  declared_then (d ∷ ds) x =
      ap (λ y. cond (bytes_eq y x) (Some (changed d)) (declared (map changed ds) x)) (same_name d)
      ∙ by (bytes_eq d.name x) (declared_then ds x)
    where
      by : (b : Bool) → declared (map changed ds) x ≡ option_map changed (declared ds x)
          → cond b (Some (changed d)) (declared (map changed ds) x) ≡ option_map changed (cond b (Some d) (declared ds x))
      by true r = refl
      by false r = r

  -- ---- they are declarations

  each_is : (ds : List Declaration) → AllByRecursion IsDeclaration ds → AllByRecursion IsDeclaration (map changed ds)
  each_is [] h = tt
  each_is (d ∷ ds) h = (by (is_among xs d.name), each_is ds h.1)
    where
      by : (b : Bool) → IsDeclaration (cond b (as_scalar d) d)
      by true = record { name = h.0.name; extent = (omega arith, tt) }
      by false = h.0

  names_same : (ds : List Declaration) → map (λ (e : Declaration). e.name) (map changed ds) ≡ map (λ (e : Declaration). e.name) ds
  names_same [] = refl
  names_same (d ∷ ds) = ap₂ (λ (y : List ℕ) (ys : List (List ℕ)). y ∷ ys) (same_name d) (names_same ds)

  abbrev elements : Declaration → ℕ
  elements e = array_elements (dimensions e.extent)

  fewer_of : (d : Declaration) → elements (scalar_where_named xs d) ≤ elements d
  fewer_of d = by (is_among xs d.name)
    where
      by : (b : Bool) → elements (cond b (as_scalar d) d) ≤ elements d
      by true = omega arith
      by false = omega arith

  fewer : (ds : List Declaration) → sum_by elements (map changed ds) ≤ sum_by elements ds
  fewer [] = omega arith
  fewer (d ∷ ds) =
      let first = fewer_of d in
      let more = fewer ds in
      let new = sum_by-cons elements (changed d) (map changed ds) in
      let old = sum_by-cons elements d ds in
      omega (arith, first, more, new, old)

  pub are_declarations : (ds : List Declaration) → AreDeclarations ds → AreDeclarations (map changed ds)
  are_declarations ds h =
      let few = fewer ds in
      let old = sum-map elements ds in
      let new = sum-map elements (map changed ds) in
      let most = h.elements in
      record {
        each = each_is ds h.each;
        ordered = subst IsInByteOrder (sym (names_same ds)) h.ordered;
        elements = omega (arith, few, old, new, most);
      }

  -- ---- with the names of a source, where none of these is one

  pub add_made_names : (ds es : List Declaration) → ((x : List ℕ) → In x xs → ¬ IsSourceName x)
      → ((d : Declaration) → Contains ds d → IsSourceName d.name) → AddMadeNames ds es → AddMadeNames ds (map changed es)
  add_made_names ds es none source add = record {
    kept = λ e c. subst (Contains (map changed es)) (own e c) (in_map changed es e (add.kept e c));
    made = λ e c. new e (of_map changed es e c);
    are = are_declarations es add.are;
  }
    where
      own : (e : Declaration) → Contains ds e → scalar_where_named xs e ≡ e
      own e c = is_other e (λ i. none e.name i (source e c))

      new : (e : Declaration) → (d : Declaration) × Contains es d × (changed d ≡ e) → Contains ds e ⊎ (IsSourceName e.name → ⊥)
      new e o = by (add.made o.0 o.1)
        where
          by : Contains ds o.0 ⊎ (IsSourceName o.0.name → ⊥) → Contains ds e ⊎ (IsSourceName e.name → ⊥)
          by (inl c) = inl (subst (Contains ds) (sym (own o.0 c) ∙ o.2) c)
          by (inr n) = inr (λ s. n (subst IsSourceName (sym (ap (λ (f : Declaration). f.name) o.2) ∙ same_name o.0) s))

  -- ---- what is declared so

  pub counter_then : (es : List Declaration) (x : List ℕ) → IsSomeAnd (declared es x) IsCounter → IsSomeAnd (declared (map changed es) x) IsCounter
  counter_then es x h = subst (λ o. IsSomeAnd o IsCounter) (sym (declared_then es x)) (by (declared es x) h)
    where
      one : (d : Declaration) → IsCounter d → (b : Bool) → IsCounter (cond b (as_scalar d) d)
      one d h true = record { kind = h.kind; scalar = refl }
      one d h false = h

      by : (o : Option Declaration) → IsSomeAnd o IsCounter → IsSomeAnd (option_map changed o) IsCounter
      by None h = h
      by (Some d) h = one d h (is_among xs d.name)
