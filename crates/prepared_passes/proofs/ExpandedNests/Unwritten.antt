-- Inductions are symbols of the nest that is expanded, so no statement gives one a value.
use Rattle.std.proofs.Common.{◌≡◌, refl, sym, ap, subst, ℕ, ◌≤◌, ◌^◌, Bool, true, false, Contains, List, Some}
use Rattle.std.specs.Prelude.{All}
use Rattle.std.specs.Str.{bytes_eq}
use Rattle.std.proofs.lemmas.Slice.Eq.{bytes_eq-Decides}
use Rattle.find_nests.specs.Found.{InNest, found_in}
use Rattle.if_convert.specs.Converted.{converted_nest}
use Rattle.meaning.specs.Dialect.{fortran77}
use Rattle.tree.specs.declared.width.Width.{Width}
use Rattle.meaning.specs.Profile77.{IsProgram77}
use Rattle.nest.specs.Bodies.{Standing, nest_statements}
use Rattle.nest.specs.Plain.{Nest}
use Rattle.nest_order.specs.orders.Lists.{In}
use Rattle.normal_loops.specs.Normalised.{normalised}
use Rattle.pass_laws.proofs.NormalFacts.Tables.{all_in, each_from}
use Rattle.pass_laws.proofs.PreparedNests.Lists.{In-Contains}
use Rattle.pass_laws.proofs.ReadyNests.Lists.{Each-All}
use Rattle.pass_laws.specs.prepared_nests.Statements.{IsPreparedStatement}
use Rattle.inductions.specs.Found.{inductions_of}
use Rattle.inductions.specs.Laws.{IsWrittenNowhere}
use Rattle.inductions.specs.Nests.{induction_names}
use Rattle.scalar_expand.specs.Expanded.{expanded}
use Rattle.scalar_rename.specs.Ranges.{HaveFewRanges}
use Rattle.symbols_anew.specs.Nests.{with_symbols_found}
use Rattle.tree.specs.Plain.{Program}
use Rattle.prepared_passes.proofs.ExpandedNests.FoundExpanded.{found_nest_has_expanded_declarations}
use Rattle.prepared_passes.proofs.ExpandedNests.FoundMade.{renamed_from}
use Rattle.prepared_passes.proofs.ExpandedNests.MadeArrays.{symbols_are}
use Rattle.prepared_passes.proofs.ExpandedNests.Renaming.{sub_from}
use Rattle.prepared_passes.proofs.ExpandedNests.Sameness.{few_before}
use Rattle.prepared_passes.specs.expansion.Found.{HasExpandedDeclarations, expanded_depth}
use Rattle.prepared_passes.specs.expansion.Unexpanded.{UnexpandedNestWritesNoInduction, substituted, unexpanded}

module _ (width : Width) (p : Program) (n m masked k : Nest) (masks : ℕ) (is : IsProgram77 (fortran77 width) p) (among : Contains (found_in p) (InNest n))
    (normal : normalised n ≡ Some m) (made : converted_nest masks m ≡ Some masked) (anew : k ≡ unexpanded m masked)
    (ranges_few : HaveFewRanges (substituted m masked)) (few : k.masks ≤ 2 ^ 32) where
  abbrev xs : List (List ℕ)
  xs = induction_names (inductions_of (with_symbols_found m masked))

  has : HasExpandedDeclarations k
  has = found_nest_has_expanded_declarations width p n m masked k masks is among normal made anew ranges_few few

  is_symbol : (x : List ℕ) → In x (induction_names (inductions_of (with_symbols_found m masked))) → In x (expanded k).symbols
  is_symbol x i =
      let least = few_before m masked k anew few in
      let from = renamed_from width p n m masked k masks is among normal made least anew ranges_few in
      subst (λ (ys : List (List ℕ)). In x ys) (sym (symbols_are k))
      (subst (λ (ys : List (List ℕ)). In x ys) (sym (ap (λ (z : Nest). z.symbols) from.rest)) ((sub_from width p n m masked masks is among normal made least).added x i))

  not_given : (x : List ℕ) → In x (induction_names (inductions_of (with_symbols_found m masked))) → (s : Standing) → In s (nest_statements (expanded k)) → bytes_eq s.statement.left.name x ≡ false
  not_given x i s j = by (bytes_eq s.statement.left.name x) refl
    where
      by : (b : Bool) → bytes_eq s.statement.left.name x ≡ b → b ≡ false
      by false e = refl
      by true e =
          let prepared = all_in (IsPreparedStatement has.declarations (expanded k) expanded_depth) (nest_statements (expanded k)) has.prepared.parts.statements s j in
          absurd (prepared.free (In-Contains s.statement.left.name (expanded k).symbols
          (subst (λ y. In y (expanded k).symbols) (sym ((bytes_eq-Decides s.statement.left.name x).0 e)) (is_symbol x i))))

  unwritten : All (IsWrittenNowhere (expanded k)) (induction_names (inductions_of (with_symbols_found m masked)))
  unwritten =
      Each-All (IsWrittenNowhere (expanded k)) xs
      (each_from (IsWrittenNowhere (expanded k)) xs
      (λ x i. Each-All (λ (s : Standing). bytes_eq s.statement.left.name x ≡ false) (nest_statements (expanded k))
      (each_from (λ (s : Standing). bytes_eq s.statement.left.name x ≡ false) (nest_statements (expanded k)) (λ s j. not_given x i s j))))

pub unexpanded_nest_writes_no_induction : (width : Width) → UnexpandedNestWritesNoInduction width
unexpanded_nest_writes_no_induction width p n m masked k masks is among normal made anew ranges_few few =
    unwritten width p n m masked k masks is among normal made anew ranges_few few
