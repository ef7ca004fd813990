-- What the passes make of a nest that was found is prepared.
use Rattle.std.proofs.Common.{◌≡◌, ◌⊎◌, inl, inr, refl, sym, ap, ◌∙◌, subst, ℕ, ◌+◌, ◌^◌, ◌<◌, ◌≤◌, Bool, true, false, cond}
use Rattle.std.proofs.Common.{List, [], ◌∷◌, Option, Some, None, get_or, Contains, arith}
use Rattle.std.specs.Option.{IsSomeAnd, option_map}
use Rattle.std.specs.Prelude.{All, unwrap_or}
use Rattle.std.proofs.lemmas.List.Elements.{All-from_recursion, Contains-append_left, Contains-append_right}
use Rattle.std.proofs.lemmas.List.Elements.{Contains-get_or}
use Rattle.prepared_passes.proofs.ArrangedNests.Again.{arranged_nest_is_prepared}
use Rattle.prepared_passes.proofs.ConvertedNests.Flat.{mask_counter}
use Rattle.prepared_passes.proofs.ConvertedNests.FoundConverted.{found_nest_is_converted}
use Rattle.prepared_passes.proofs.ConvertedNests.Walk.{mask_long}
use Rattle.prepared_passes.specs.conversion.Branching.{IsBranching}
use Rattle.prepared_passes.specs.conversion.Places.{IsMask}
use Rattle.find_nests.specs.Found.{InNest, found_in}
use Rattle.find_nests.specs.Laws.{IsFoundNest}
use Rattle.find_nests.specs.LookedAt.{looked_at}
use Rattle.find_nests.specs.Loops.{as_statement}
use Rattle.prepared_passes.proofs.ExpandedNests.Found.{found_nest_is_expanded_in_places}
use Rattle.prepared_passes.specs.expansion.Found.{IsFoundInPlaces, expanded_depth}
use Rattle.if_convert.specs.Masks.{mask_name}
use Rattle.meaning.specs.Blocks.{Surroundings}
use Rattle.meaning.specs.Dialect.{fortran77}
use Rattle.tree.specs.declared.width.Width.{Width}
use Rattle.meaning.specs.Profile77.{IsProgram77, IsStatement}
use Rattle.meaning.specs.Typed.{declared}
use Rattle.meaning_laws.proofs.profiles.Lists.{nowhere}
use Rattle.meaning_laws.proofs.profiles.Names.{found}
use Rattle.meaning_laws.specs.profiles.Profiles.{AddMadeNames}
use Rattle.nest.specs.Bodies.{nest_loops}
use Rattle.nest.specs.Plain.{Loop, Made, Nest, Part}
use Rattle.normal_loops.specs.Bodies.{normal_part}
use Rattle.normal_loops.specs.Loops.{nested_loops}
use Rattle.normal_loops.specs.Normal.{is_normal}
use Rattle.normal_loops.specs.Normalised.{normalised, only_one, with_body, with_loops}
use Rattle.pass_laws.proofs.NormalMeaning.Made as texts
use Rattle.pass_laws.specs.normal_facts.Laws.{IsCounter}
use Rattle.pass_laws.specs.prepared_nests.Laws.{normal_depth}
use Rattle.pass_laws.specs.prepared_nests.Nests.{IsPrepared}
use Rattle.tree.specs.Names.{IsSourceName}
use Rattle.tree.specs.Plain.{Block, Declaration, Program}
use Rattle.listing.proofs.programs.Arranging.{last_depth}
use Rattle.listing.proofs.programs.Naming.{named_from}
use Rattle.listing.proofs.programs.Stages.{few_so, made_by, named_so}
use Rattle.listing.proofs.arrays.Counted.{nothing_deeper, prepared_counted}
use Rattle.listing.proofs.programs.Declared.{may_be_split}
use Rattle.listing.proofs.programs.Sources.{top_made}
use Rattle.listing.specs.declared.programs.counts.Counts.{Counts}
use Rattle.listing.specs.programs.Passed.{IsPassedAs}
use Rattle.listing.specs.programs.Stages.{with_copies_before}
use Rattle.node_splitting.specs.Split.{made_arrays, with_nodes_split}
use Rattle.pass_laws.proofs.PreparedNests.Lists.{In-Contains}
use Rattle.prepared_passes.proofs.ExpandedNests.Sameness.{few_before}
use Rattle.prepared_passes.proofs.SplitNests.Prepared.{split_nest_is_prepared}
use Rattle.prepared_passes.specs.splitting.Laws.{split_rise}
use Rattle.prepared_passes.specs.splitting.Splits.{MayBeSplit, nodes_split}
use Rattle.scalar_expand.specs.Expanded.{expanded}
use Rattle.translation.proofs.Converting.{anew_from, converted_from, may_of, passed_from, same_masks}
use Rattle.translation.proofs.LoopNumbers.Nests.{nest_number}
use Rattle.translation.proofs.MadeDeclarations.Made.{made_names}
use Rattle.translation.proofs.ProgramTranslation.Counted.{IsNumbered, counter_declarations, each_of, of_counter}
use Rattle.translation.proofs.ProgramTranslation.Counted.{variables_numbered}
use Rattle.translation.proofs.ProgramTranslation.Declared.{AreMade, declared_counter, own_source, with_all}
use Rattle.translation.specs.made_declarations.Declaring.{with_declarations}
use Rattle.translation.specs.made_declarations.Laws.{AreWith}
use Rattle.translation.specs.nest_translation.Laws.{AreMadeDeclared}
use Rattle.translation.specs.placed_profile.Laws.{AreSourceNames}

all_source : (xs : List (List ℕ)) → AreSourceNames xs → All IsSourceName xs
all_source xs h k d i = h (get_or xs k d) (Contains-get_or xs k d i)

pub at_most : (n : ℕ) → n < 2 ^ 32 → n ≤ 2 ^ 32
at_most n h =
    let e : n < 4294967296 = h in
    let g : n ≤ 4294967296 = omega (arith, e) in
    g

-- ---- masks

-- the masks from number k on, and below e, are declared
abbrev pub AreMasksDeclared : Program → ℕ → ℕ → Type 0
AreMasksDeclared r k e = (i : ℕ) → k ≤ i → i < e → IsSomeAnd (declared r.declarations (mask_name i)) IsMask

-- as many as passes have made by then
pub few_masks : (counts : Counts) (n m : Nest) (passed : IsPassedAs counts n m) → passed.named.masks ≤ 2 ^ 32
few_masks counts n m passed =
    subst (λ (i : ℕ). i ≤ 2 ^ 32) (passed_from counts n m passed).masks
    (at_most m.masks passed.counted)

pub few_converted : (counts : Counts) (n m : Nest) (passed : IsPassedAs counts n m) → passed.converted.masks ≤ 2 ^ 32
few_converted counts n m passed =
    subst (λ (i : ℕ). i ≤ 2 ^ 32) (same_masks counts n m passed) (few_masks counts n m passed)

-- ---- the names of p and all counters: no mask is among them

none_made : AreMade []
none_made = record {
  each = λ d c. absurd (nowhere d c);
  one = λ d e c k same. absurd (nowhere d c);
  counts = λ d c. absurd (nowhere d c);
  transpose = λ d c. absurd (nowhere d c);
  reshape = λ d c. absurd (nowhere d c);
}

module _ (width : Width) (p : Program) (program : IsProgram77 (fortran77 width) p) where
  abbrev bare : List Declaration
  bare = with_declarations p.declarations counter_declarations

  with_counters : AreWith p.declarations counter_declarations bare
  with_counters = with_all width made_names p program [] none_made

  hides : (i : ℕ) (d : Declaration) → d.name ≡ mask_name i
      → Contains p.declarations d ⊎ Contains counter_declarations d → ⊥
  hides i d e (inl c) = mask_long i (subst IsSourceName e (own_source width made_names p program [] none_made d c))
  hides i d e (inr c) = let n = (of_counter d c).numbered in mask_counter i n.number (sym (n.is ∙ e))

  no_masks : (i : ℕ) → declared bare (mask_name i) ≡ None
  no_masks i = by (declared bare (mask_name i)) refl
    where
      by : (o : Option Declaration) → declared bare (mask_name i) ≡ o → o ≡ None
      by None e = refl
      by (Some d) e =
          let f = found bare (mask_name i) d e in
          absurd (hides i d f.name (each_of p.declarations counter_declarations d f.among))

  counted : (n m : Nest) → Contains (found_in p) (InNest n) → normalised n ≡ Some m
      → All (λ (l : Loop). IsSomeAnd (declared bare l.variable) IsCounter) (nest_loops m)
  counted n m is_nest e = λ j d i. declared_counter width made_names p program [] none_made _
      (All-from_recursion (λ (l : Loop). IsNumbered l.variable) (nest_loops m)
      (variables_numbered width p bare n m program with_counters.more is_nest e) j d i)

-- ---- nests that passes make have the declarations of the program

with_body_same : (n : Nest) (more : Block) (p : Part) → (with_body n more p).declarations ≡ n.declarations
unfolding with_body
with_body_same n more p = refl

module _ (n m : Nest) where
  from_bodies : (ps : List Part) → option_map (with_body n (texts.behind n)) (only_one ps) ≡ Some m → m.declarations ≡ n.declarations
  from_bodies [] h = let no : ⊥ = cc in absurd no
  from_bodies (p ∷ []) h =
      let same : with_body n (texts.behind n) p ≡ m = cc in
      sym (ap (λ (k : Nest). k.declarations) same) ∙ with_body_same n (texts.behind n) p
  from_bodies (p ∷ q ∷ ps) h = let no : ⊥ = cc in absurd no

  from_loops : with_loops n (nested_loops n.symbols [] n.body) ≡ Some m → m.declarations ≡ n.declarations
  unfolding with_loops
  from_loops h = from_bodies (normal_part n (nested_loops n.symbols [] n.body) [] n.body) h

  normal_declarations : normalised n ≡ Some m → m.declarations ≡ n.declarations
  unfolding normalised
  normal_declarations h = by (is_normal n.symbols [] n.body) h
    where
      by : (b : Bool) → cond b (with_loops n (nested_loops n.symbols [] n.body)) None ≡ Some m → m.declarations ≡ n.declarations
      by true g = from_loops g
      by false g = let no : ⊥ = cc in absurd no

pub same_declarations : (p : Program) (counts : Counts) (n m : Nest) → IsFoundNest p n → IsPassedAs counts n m
    → m.declarations ≡ p.declarations
same_declarations p counts n m found passed =
    (passed_from counts n m passed).declarations
    ∙ (named_from passed.anew passed.substituted passed.named passed.is_substituted passed.is_named).declarations
    ∙ (anew_from passed.normal passed.converted passed.anew passed.is_anew).declarations
    ∙ (converted_from counts.masks passed.normal passed.converted passed.is_converted).declarations
    ∙ (normal_declarations n passed.normal passed.made ∙ ap (λ (k : Nest). k.declarations) found.is)

-- ---- the nest

module _ (width : Width) (p : Program) (counts : Counts) (n m : Nest) (w : Surroundings) (found : IsFoundNest p n)
    (program : IsProgram77 (fortran77 width) p) (is_nest : Contains (found_in p) (InNest n)) (passed : IsPassedAs counts n m)
    (named : AreSourceNames w.variables) (is : IsStatement p.declarations (as_statement found.loop.loop.loop) w) where
  small : n.number < 2 ^ 32
  small =
      let least = nest_number p 0 (looked_at p.declarations p.body) n (omega arith) is_nest in
      let less : n.number < 4294967296 = omega (arith, least) in
      less

  -- masks may be made for the nest with loops from 1 by 1, where b declares its counters and its masks, and the nest
  -- with masks is prepared
  pub passed_nest_is_converted : (b : Program) → AddMadeNames p.declarations b.declarations
      → All (λ (l : Loop). IsSomeAnd (declared b.declarations l.variable) IsCounter) (nest_loops passed.normal)
      → AreMasksDeclared b counts.masks passed.converted.masks
      → IsBranching passed.normal × IsPrepared b.declarations w.variables normal_depth passed.converted
  passed_nest_is_converted b add counters marks =
      found_nest_is_converted width p n passed.normal passed.converted (bare width p program) b.declarations counts.masks w found program
      is_nest passed.made passed.is_converted (few_converted counts n m passed) (with_counters width p program).more
      (no_masks width p program) (counted width p program n passed.normal is_nest passed.made) add marks counters small
      (all_source w.variables named) is

  -- where r declares the counters of the nest's loops, and what passes made for it
  module _ (r : Program) (add : AddMadeNames p.declarations r.declarations)
      (counters : All (λ (l : Loop). IsSomeAnd (declared r.declarations l.variable) IsCounter) (nest_loops passed.normal))
      (made : AreMadeDeclared r m) where
    abbrev with_arrays : Nest
    with_arrays = with_copies_before counts.copies (expanded passed.named)

    pub passed_nest_is_in_places : IsFoundInPlaces width p r passed.normal passed.converted passed.named counts.masks w.variables
    passed_nest_is_in_places =
        found_nest_is_expanded_in_places width p r n passed.normal passed.converted passed.named counts.masks w found program
        is_nest passed.made passed.is_converted (named_so counts n m (made_by counts n m passed))
        (few_so counts n m (made_by counts n m passed)) (few_masks counts n m passed) add counters
        (λ a c. made a (subst (λ (ms : List Made). Contains ms a) (sym (passed_from counts n m passed).made)
        (Contains-append_left (expanded passed.named).made
        (made_arrays (may_of counts n m passed) (with_copies_before counts.copies (expanded passed.named))) a c)))
        small (all_source w.variables named) is

    -- reads of it may be copied
    pub passed_nest_may_be_split : MayBeSplit r.declarations (may_of counts n m passed) (with_copies_before counts.copies (expanded passed.named))
    passed_nest_may_be_split =
        may_be_split width p n passed.normal passed.converted passed.named counts.masks counts.copies (may_of counts n m passed)
        program is_nest passed.made passed.is_converted
        (few_before passed.normal passed.converted passed.named (named_so counts n m (made_by counts n m passed))
        (few_masks counts n m passed))
        (named_so counts n m (made_by counts n m passed)) (few_so counts n m (made_by counts n m passed))
        (top_made width p counts n m program is_nest (made_by counts n m passed)) r.declarations add
        (λ a i. made a (subst (λ (ms : List Made). Contains ms a) (sym (passed_from counts n m passed).made)
        (Contains-append_right (expanded passed.named).made
        (made_arrays (may_of counts n m passed) (with_copies_before counts.copies (expanded passed.named))) a
        (In-Contains a (made_arrays (may_of counts n m passed) (with_copies_before counts.copies (expanded passed.named))) i))))

    pub counted_nest_is_prepared : IsPrepared r.declarations w.variables expanded_depth (with_copies_before counts.copies (expanded passed.named))
    counted_nest_is_prepared =
        prepared_counted r.declarations w.variables expanded_depth (expanded passed.named) counts.copies
        passed_nest_is_in_places.places.behind

    pub split_nest_is_prepared_there : IsPrepared r.declarations w.variables (expanded_depth + split_rise)
        (nodes_split (may_of counts n m passed) (with_copies_before counts.copies (expanded passed.named)))
    split_nest_is_prepared_there = by (with_nodes_split (may_of counts n m passed) with_arrays) refl
      where
        by : (o : Option Nest)
            → with_nodes_split (may_of counts n m passed) (with_copies_before counts.copies (expanded passed.named)) ≡ o
            → IsPrepared r.declarations w.variables (expanded_depth + split_rise)
            (unwrap_or o (with_copies_before counts.copies (expanded passed.named)))
        by None f =
            nothing_deeper r.declarations w.variables expanded_depth split_rise with_arrays counted_nest_is_prepared
        by (Some s) f =
            split_nest_is_prepared r.declarations w.variables expanded_depth (may_of counts n m passed) with_arrays s
            counted_nest_is_prepared passed_nest_may_be_split (omega arith) f

    pub passed_nest_is_prepared : IsPrepared r.declarations w.variables last_depth m
    passed_nest_is_prepared =
        let by_passes = made_by counts n m passed in
        subst (IsPrepared r.declarations w.variables last_depth) (sym by_passes.is_arranged)
        (arranged_nest_is_prepared r.declarations w.variables (expanded_depth + split_rise)
        (nodes_split (may_of counts n m passed) with_arrays) by_passes.vectors split_nest_is_prepared_there)
