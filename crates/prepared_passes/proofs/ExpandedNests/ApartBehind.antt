-- Behind the loops of a found nest with masks, whose symbols were found anew, no induction is named, and no symbol gets
-- a value.
use Rattle.std.proofs.Common.{◌≡◌, ◌⊎◌, inl, inr, refl, sym, ap, subst, ℕ, ◌+◌, ◌<◌, ◌≤◌, ◌^◌, List, Some, None, Contains}
use Rattle.std.specs.Prelude.{All}
use Rattle.std.specs.Option.{IsSomeAnd}
use Rattle.tree.specs.Names.{IsSourceName}
use Rattle.tree.specs.Plain.{Block, Declaration, Expression, Program}
use Rattle.find_nests.specs.Found.{InNest, found_in}
use Rattle.find_nests.specs.Laws.{IsFoundNest}
use Rattle.find_nests.specs.Loops.{as_statement}
use Rattle.if_convert.specs.Converted.{converted_nest}
use Rattle.if_convert.specs.Masks.{mask_name}
use Rattle.meaning.specs.Blocks.{Surroundings}
use Rattle.meaning.specs.Dialect.{fortran77}
use Rattle.tree.specs.declared.width.Width.{Width}
use Rattle.meaning.specs.Profile77.{IsProgram77, IsStatement}
use Rattle.meaning.specs.Reads.{names_in_block}
use Rattle.meaning.specs.Typed.{declared}
use Rattle.meaning_laws.specs.profiles.Profiles.{AddMadeNames}
use Rattle.nest.specs.Bodies.{Standing, nest_loops, nest_statements}
use Rattle.nest.specs.Plain.{Loop, Nest}
use Rattle.nest_order.proofs.orders.Membership.{In-map}
use Rattle.nest_order.specs.orders.Lists.{In}
use Rattle.normal_loops.specs.Normalised.{normalised}
use Rattle.pass_laws.proofs.NormalFacts.Tables.{each_from}
use Rattle.pass_laws.proofs.PreparedNests.Lists.{Contains-In}
use Rattle.pass_laws.proofs.ReadyNests.Lists.{Each-All}
use Rattle.pass_laws.specs.normal_facts.Laws.{IsCounter}
use Rattle.pass_laws.specs.prepared_nests.Laws.{normal_depth}
use Rattle.pass_laws.specs.prepared_nests.Nests.{IsPrepared}
use Rattle.rewrite.specs.Names.{uses_in_block}
use Rattle.rewrite.specs.declared.uses.Use.{Use}
use Rattle.rewrite.specs.declared.uses.Way.TheVariants.{Writes}
use Rattle.inductions.specs.Found.{inductions_of}
use Rattle.inductions.specs.Nests.{induction_names}
use Rattle.symbols_anew.specs.Found.{names_assigned}
use Rattle.symbols_anew.specs.Nests.{with_symbols_found}
use Rattle.prepared_passes.proofs.ExpandedNests.Anew.{rest_anew, source_anew}
use Rattle.prepared_passes.proofs.ExpandedNests.FreeBehind.{IsMadeFrom, converted_prepared, free_by, none_of_symbols, not_assigned}
use Rattle.prepared_passes.proofs.ExpandedNests.Uses.{all_given, all_named}
use Rattle.prepared_passes.proofs.SubstitutedNests.Named.{is_written, named_by, no_symbol}
use Rattle.prepared_passes.proofs.SymbolsAnew.Prepared.{prepared_nest_is_prepared_anew}
use Rattle.prepared_passes.proofs.SymbolsAnew.Same.{nest_with_symbols_is_same_but_text}
use Rattle.prepared_passes.proofs.SymbolsAnew.Sources.{found_nest_is_of_source}
use Rattle.prepared_passes.specs.conversion.Places.{IsMask}
use Rattle.prepared_passes.specs.expansion.Runs.{AreFree}
use Rattle.prepared_passes.specs.expansion.Unexpanded.{FoundNestIsApartBehind}
use Rattle.prepared_passes.specs.substitution.Behind.{IsApartBehind}
use Rattle.prepared_passes.specs.symbols.Same.{IsSameButText}
use Rattle.prepared_passes.specs.symbols.Sources.{IsOfSource}

module _ (width : Width) (p : Program) (n m j : Nest) (ds es : List Declaration) (masks : ℕ) (w : Surroundings) (found_nest : IsFoundNest p n) (is : IsProgram77 (fortran77 width) p)
    (among : Contains (found_in p) (InNest n)) (made : normalised n ≡ Some m) (converted : converted_nest masks m ≡ Some j) (few : j.masks ≤ 2 ^ 32)
    (add : AddMadeNames p.declarations ds) (none : (i : ℕ) → declared ds (mask_name i) ≡ None)
    (counters : All (λ (l : Loop). IsSomeAnd (declared ds l.variable) IsCounter) (nest_loops m)) (more : AddMadeNames p.declarations es)
    (marks : (i : ℕ) → masks ≤ i → i < j.masks → IsSomeAnd (declared es (mask_name i)) IsMask)
    (counted : All (λ (l : Loop). IsSomeAnd (declared es l.variable) IsCounter) (nest_loops m)) (number : n.number < 2 ^ 32) (round : All IsSourceName w.variables)
    (stated : IsStatement p.declarations (as_statement found_nest.loop.loop.loop) w) where
  -- ---- the nest with its symbols found anew

  pub masked_prepared : IsPrepared es w.variables normal_depth j
  masked_prepared = converted_prepared width p n m j ds es masks w found_nest is among made converted few add none counters more marks counted number round stated

  masked_source : IsOfSource es j
  masked_source = found_nest_is_of_source width p n m j es masks is among made converted more

  abbrev pub a : Nest
  a = with_symbols_found m j

  pub anew_prepared : IsPrepared es w.variables (normal_depth + 18) (with_symbols_found m j)
  anew_prepared = prepared_nest_is_prepared_anew es w.variables normal_depth m j masked_prepared masked_source

  pub anew_source : IsOfSource es (with_symbols_found m j)
  anew_source = source_anew es m j (with_symbols_found m j) refl masked_source

  pub same_but_text : IsSameButText m j (with_symbols_found m j)
  same_but_text = nest_with_symbols_is_same_but_text m j masked_prepared.plain masked_source.loop

  pub assigned_before : (y : List ℕ) → In y (names_assigned (with_symbols_found m j)) → In y (names_assigned j)
  assigned_before y i =
      let o = In-map (λ (x : Standing). x.statement.left.name) y (nest_statements (with_symbols_found m j)) i in
      subst (λ x. In x (names_assigned j)) (sym o.is) (same_but_text.assigned o.it o.inside)

  made_from : IsMadeFrom width p n m j ds es masks w found_nest is among made converted few add none counters more marks counted number round stated (with_symbols_found m j)
  made_from = record {
    assigned = λ x i s. same_but_text.assigned x i;
    kept = same_but_text.kept;
    new = λ y i. by y (same_but_text.new y i);
  }
    where
      by : (y : List ℕ) → In y j.symbols ⊎ In y (names_assigned m) → In y j.symbols ⊎ (In y (names_assigned m) ⊎ In y (names_assigned j))
      by y (inl i) = inl i
      by y (inr i) = inr (inl i)

  -- ---- its inductions

  abbrev IsApart : List ℕ → Type 0
  IsApart y = ¬ In y (induction_names (inductions_of (with_symbols_found m j)))

  abbrev MayBeGiven : List ℕ → Expression → Type 0
  MayBeGiven y e = (¬ In y (induction_names (inductions_of (with_symbols_found m j)))) × (¬ In y (with_symbols_found m j).symbols)

  symbol_apart : (y : List ℕ) → In y (with_symbols_found m j).symbols → IsApart y
  symbol_apart y i k =
      let d = named_by width es w.variables (normal_depth + 18) a anew_prepared anew_source y k in
      no_symbol width es w.variables (normal_depth + 18) a anew_prepared anew_source d.0 d.1 (subst (λ x. In x a.symbols) d.2 i)

  unwritten_apart : (y : List ℕ) → ¬ In y (names_assigned j) → IsApart y
  unwritten_apart y f k =
      let d = named_by width es w.variables (normal_depth + 18) a anew_prepared anew_source y k in
      f (subst (λ x. In x (names_assigned j)) (sym d.2)
      (assigned_before d.0.name (is_written width es w.variables (normal_depth + 18) a anew_prepared anew_source d.0 d.1)))

  free : AreFree IsApart MayBeGiven j.after
  free =
      free_by width p n m j ds es masks w found_nest is among made converted few add none counters more marks counted number round stated IsApart MayBeGiven
      (λ y i. symbol_apart y (same_but_text.kept y i))
      (λ l i e. (let apart = unwritten_apart l.turns.variable (not_assigned width p n m j ds es masks w found_nest is among made converted few add none counters more marks counted number round stated l i e) in
      (apart, λ right. (apart, none_of_symbols width p n m j ds es masks w found_nest is among made converted few add none counters more marks counted number round stated a made_from l i e))))

  pub behind_is : (with_symbols_found m j).after ≡ j.after
  behind_is = ap (λ (z : Nest). z.after) (rest_anew m j (with_symbols_found m j) refl)

  pub apart_behind : IsApartBehind (with_symbols_found m j)
  apart_behind =
      let b = subst (λ (c : Block). AreFree IsApart MayBeGiven c) (sym behind_is) free in
      record {
        inductions =
            Each-All (λ (x : List ℕ). ¬ Contains (induction_names (inductions_of a)) x) (names_in_block a.after)
            (each_from (λ (x : List ℕ). ¬ Contains (induction_names (inductions_of a)) x) (names_in_block a.after)
            (λ y i c. all_named IsApart MayBeGiven (λ x e g. g.0) a.after b y i (Contains-In y (induction_names (inductions_of a)) c)));
        symbols =
            Each-All (λ (u : Use). u.way ≡ Writes → ¬ Contains a.symbols u.name) (uses_in_block a.after)
            (each_from (λ (u : Use). u.way ≡ Writes → ¬ Contains a.symbols u.name) (uses_in_block a.after)
            (λ u i e c. (all_given IsApart MayBeGiven a.after b u i e).1.1 (Contains-In u.name a.symbols c)));
      }

pub found_nest_is_apart_behind : (width : Width) → FoundNestIsApartBehind width
found_nest_is_apart_behind width p n m j ds es masks w found_nest is among made converted few add none counters more marks counted number round stated =
    apart_behind width p n m j ds es masks w found_nest is among made converted few add none counters more marks counted number round stated
