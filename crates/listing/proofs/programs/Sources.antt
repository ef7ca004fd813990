-- What is found in a program of FORTRAN 77, and what is made of its nests.
use Rattle.std.proofs.Common.{◌≡◌, ℕ, ◌+◌, ◌≤◌, ◌<◌, ◌^◌, Result, Ok, Err, Some, None, List, is_some, length, map, get_or}
use Rattle.std.proofs.Common.{true≢false, Bool, Contains, Option, refl, sym, ap, ◌∙◌, subst, arith}
use Rattle.std.specs.Prelude.{IfOk, unwrap_or}
use Rattle.std.proofs.lemmas.List.{get_or-map, length-map}
use Rattle.tree.specs.Plain.{Block, Program, Reference}
use Rattle.tree.specs.View.{declaration_of}
use Rattle.tree.specs.declared.programs.Decl.{Decl}
use Rattle.prepared_passes.proofs.ConvertedNests.FoundDeclared.{are_both, prepared, stands, with_both}
use Rattle.prepared_passes.proofs.ExpandedNests.Anew.{masks_anew}
use Rattle.prepared_passes.proofs.ExpandedNests.FoundExpanded.{found_nest_has_expanded_declarations}
use Rattle.prepared_passes.proofs.ExpandedNests.MadeArrays.{symbols_are}
use Rattle.prepared_passes.proofs.ExpandedNests.Renaming.{anew_prepared}
use Rattle.prepared_passes.proofs.ExpandedNests.Sameness.{few_before}
use Rattle.prepared_passes.proofs.SplitNests.Prepared.{split_nest_is_prepared}
use Rattle.prepared_passes.specs.splitting.Laws.{split_rise}
use Rattle.prepared_passes.specs.splitting.Splits.{nodes_split}
use Rattle.node_splitting.specs.Split.{IsSplitNest, made_arrays, with_nodes_split}
use Rattle.prepared_passes.specs.expansion.Found.{HasExpandedDeclarations, expanded_depth}
use Rattle.prepared_passes.specs.expansion.Unexpanded.{substituted, unexpanded}
use Rattle.f90_print.specs.Notes.{line_text}
use Rattle.meaning.specs.Dialect.{fortran77}
use Rattle.tree.specs.declared.width.Width.{Width}
use Rattle.meaning.specs.Profile77.{IsProgram77}
use Rattle.dependence_graph.specs.declared.graphs.Graph.{Graph}
use Rattle.dependence_graph.specs.declared.graphs.Place.{Place}
use Rattle.dependence_graph.specs.nest_graph.Graph.{IsGraphOf}
use Rattle.dependence_graph.specs.nest_graph.Ready.{IsReady}
use Rattle.dependence_graph.specs.nest_graph.Tested.{IsReferenceAt}
use Rattle.prepared_passes.proofs.ArrangedNests.Again.{arranged_nest_is_prepared}
use Rattle.if_convert.proofs.BodyLaws.{turns-converted}
use Rattle.if_convert.specs.Converted.{converted_nest}
use Rattle.inductions.specs.Nests.{inductions_substituted}
use Rattle.interchange.specs.Arranged.{arranged, vectors_of, with_moved_loops}
use Rattle.nest.specs.Bodies.{Standing}
use Rattle.nest.specs.Plain.{Nest}
use Rattle.nest.specs.View.{nest_of}
use Rattle.nest.specs.declared.nests.Nest.{Nest as Nest'}
use Rattle.scalar_expand.specs.Expanded.{expanded}
use Rattle.scalar_rename.specs.Ranges.{HaveFewRanges}
use Rattle.scalar_rename.specs.Renamed.{renamed}
use Rattle.subscripts.specs.declared.affine.Dirs.{Dirs}
use Rattle.symbols_anew.specs.Nests.{with_symbols_found}
use Rattle.nest_reasons.specs.Symbols.{symbols_of}
use Rattle.find_nests.proofs.FoundLaws.{found_nest_is_loop}
use Rattle.find_nests.specs.Found.{Found, InNest, found_in}
use Rattle.find_nests.specs.View.{found_of}
use Rattle.find_nests.specs.Laws.{IsFoundNest}
use Rattle.find_nests.specs.declared.search.Found.{Found as Found'}
use Rattle.normal_loops.specs.Normalised.{normalised}
use Rattle.pass_laws.proofs.NormalNests.Form.{found_nest_has_normal_form}
use Rattle.pass_laws.proofs.ReadyNests.SourceRanks.{few_symbols}
use Rattle.pass_laws.proofs.PreparedNests.Emitted.{prepared_nest_may_be_emitted}
use Rattle.pass_laws.proofs.PreparedNests.Ready.{prepared_nest_is_ready}
use Rattle.pass_laws.specs.prepared_nests.Nests.{IsPrepared}
use Rattle.listing.proofs.programs.Arranging.{arranged_rest, arranged_some, last_depth}
use Rattle.listing.proofs.arrays.Counted.{nothing_deeper, prepared_counted}
use Rattle.listing.proofs.programs.Declared.{HasCopiesDeclared, has_copies_declared}
use Rattle.listing.proofs.programs.Expanding.{masks_kept}
use Rattle.listing.proofs.programs.Splitting.{split_copies, split_rest, split_so}
use Rattle.listing.specs.declared.programs.counts.Counts.{Counts}
use Rattle.listing.specs.declared.programs.nests.Graphed.{Graphed}
use Rattle.listing.proofs.programs.Stages.{IsMadeBy, few_of, listed_is_made, named_of}
use Rattle.listing.specs.programs.Counted.{AreCounted}
use Rattle.listing.specs.programs.Laws.{ListedNestIsTestable}
use Rattle.listing.specs.declared.programs.nests.Passed.{Passed}
use Rattle.listing.specs.programs.Passed.{IsAnewOf, IsArrangedAs, IsExpandedOf, IsPassed, IsSplitOf, IsSubstitutedOf}
use Rattle.listing.specs.programs.Passed.{IsUnexpanded}
use Rattle.listing.specs.programs.Sources.{IsFoundInSource, IsNestOfSource, IsNormalOfSource}
use Rattle.listing.specs.programs.Stages.{IsSplitBy, with_copies_before}
use Rattle.listing.specs.programs.Testable.{AreTestsOf, MayBeListed, MayBeSplitReady}

-- ---- symbols and declarations

within_declarations : (p : Program) (n : Nest) → IsFoundNest p n → length p.declarations ≤ 1000
    → length n.symbols ≤ 1000
within_declarations p n h most =
    let l = h.loop.loop.loop in
    let size : length n.symbols ≡ length (symbols_of p.declarations l.variable l.body)
    = ap (λ (m : Nest). length m.symbols) h.is in
    let within : length (symbols_of p.declarations l.variable l.body) ≤ length p.declarations
    = few_symbols p.declarations l.variable l.body in
    omega (arith, size, within, most)

-- no more than a program has names
pub few_of_source : (width : Width) (n : Nest) → IsNestOfSource width n → length n.symbols ≤ 1000
few_of_source width n h = within_declarations h.program n (found_nest_is_loop h.program n h.among) h.profile.declarations.few

pub few_declarations : (width : Width) (p : Program) (ds : List Decl) → map declaration_of ds ≡ p.declarations → IsProgram77 (fortran77 width) p
    → length ds ≤ 2 ^ 16
few_declarations width p ds e is =
    let size : length (map declaration_of ds) ≡ length ds = length-map ds declaration_of in
    let same : length (map declaration_of ds) ≡ length p.declarations = ap length e in
    let few : length p.declarations ≤ 1000 = is.declarations.few in
    omega (arith, size, same, few)

-- one of the list that was found
pub in_source : (width : Width) (p : Program) (items : List Found') (i : ℕ) (x : Found') → IsProgram77 (fortran77 width) p
    → map found_of items ≡ found_in p → i < length items → x ≡ get_or items i x → IsFoundInSource width (found_of x)
in_source width p items i x profile is h e =
    let size : length (map found_of items) ≡ length items = length-map items found_of in
    let at : get_or (map found_of items) i (found_of x) ≡ found_of x
    = get_or-map found_of items i x (found_of x) h ∙ ap found_of (sym e) in
    let within : i < length (map found_of items) = omega (arith, h, size) in
    record {
      program = p;
      profile = profile;
      among = subst (λ (fs : List Found). Contains fs (found_of x)) is (i, within, at);
    }

-- ---- what passes make

-- of a nest that was found a nest with loops from 1 by 1 is made
pub normal_there : (width : Width) (n : Nest) → IsNestOfSource width n → normalised n ≡ None → ⊥
normal_there width n h none =
    let form = found_nest_has_normal_form (fortran77 width) h.program n h.profile h.among in
    true≢false (ap is_some (sym form.is ∙ none))

-- and of that one a nest with masks
pub masks_there : (width : Width) (m : Nest) (masks : ℕ) → IsNormalOfSource width m → converted_nest masks m ≡ None → ⊥
masks_there width m masks h none =
    let form = found_nest_has_normal_form (fortran77 width) h.source.program h.nest h.source.profile h.source.among in
    let is = form.is in
    let made = h.made in
    let same : form.normal ≡ m = cc in
    let there = turns-converted masks form.normal form.loop form.parts form.body in
    true≢false (ap is_some (sym there ∙ ap (converted_nest masks) same ∙ none))

-- whose symbols are found anew
pub symbols_found : {A E : Type 0} (masks : ℕ) (m k : Nest) (r : Result A E) (nest : A → Nest)
    → converted_nest masks m ≡ Some k → IfOk r (λ a. nest a ≡ with_symbols_found m k)
    → IfOk r (λ a. IsAnewOf masks m (nest a))
symbols_found masks m k (Err e) nest made h = tt
symbols_found masks m k (Ok a) nest made h = (k, made, h)

-- they are no more than a program has names
pub few_anew : (width : Width) (masks : ℕ) (m k : Nest) → IsNormalOfSource width m → IsAnewOf masks m k → k.masks < 2 ^ 32
    → length k.symbols ≤ 1000
few_anew width masks m k h u few =
    let less : k.masks < 4294967296 = few in
    let same : k.masks ≡ u.0.masks = masks_anew m u.0 k u.2 in
    let most : u.0.masks ≤ 4294967296 = omega (arith, less, same) in
    let p = h.source.program in
    let is = h.source.profile in
    let c = h.source.among in
    let both = with_both width p h.nest m u.0 masks is c h.made u.1 most in
    let add = (are_both width p h.nest m u.0 masks is c h.made u.1 most).more in
    let around = (stands width p h.nest m u.0 masks is c h.made u.1 most).round.variables in
    let before = prepared width p h.nest m u.0 masks is c h.made u.1 most in
    subst (λ (j : Nest). length j.symbols ≤ 1000) (sym u.2)
    (anew_prepared width p h.nest m u.0 masks is c h.made u.1 most both add around before).parts.few

-- and its inductions may be substituted
pub substituted_of : {E : Type 0} (masks : ℕ) (m k : Nest) (r : Result Nest' E) → IsAnewOf masks m k
    → IfOk r (λ made. nest_of made ≡ inductions_substituted k) → IfOk r (λ made. IsSubstitutedOf masks m (nest_of made))
substituted_of masks m k (Err e) made h = tt
substituted_of masks m k (Ok new) made h = (k, made, h)

-- and ranges be renamed
pub renamed_of : {A E : Type 0} (masks : ℕ) (m k : Nest) (r : Result A E) (nest : A → Nest) → IsSubstitutedOf masks m k
    → IfOk r (λ a. nest a ≡ renamed k) → IfOk r (λ a. HaveFewRanges k) → IfOk r (λ a. IsUnexpanded masks m (nest a))
renamed_of masks m k (Err e) nest made h few = tt
renamed_of masks m k (Ok a) nest made h few = (k, made, h, few)

-- what it is made of
abbrev with_masks : (masks : ℕ) (m k : Nest) → IsUnexpanded masks m k → Nest
with_masks masks m k u = u.1.1.0

named_is : (masks : ℕ) (m k : Nest) (u : IsUnexpanded masks m k) → k ≡ unexpanded m (with_masks masks m k u)
named_is masks m k u = named_of m u.1.1.0 u.1.0 u.0 k u.1.1.2 u.1.2 u.2

few_ranges : (masks : ℕ) (m k : Nest) (u : IsUnexpanded masks m k) → HaveFewRanges (substituted m (with_masks masks m k u))
few_ranges masks m k u = few_of m u.1.1.0 u.1.0 u.0 u.1.1.2 u.1.2 u.3

-- there are no more symbols still
pub few_unexpanded : (width : Width) (masks : ℕ) (m k : Nest) → IsNormalOfSource width m → IsUnexpanded masks m k → k.masks < 2 ^ 32
    → length k.symbols ≤ 1000
few_unexpanded width masks m k h u few =
    let less : k.masks < 4294967296 = few in
    let most : k.masks ≤ 4294967296 = omega (arith, less) in
    let s = h.source in
    let d = found_nest_has_expanded_declarations width s.program h.nest m (with_masks masks m k u) k masks s.profile s.among h.made
    u.1.1.1 (named_is masks m k u) (few_ranges masks m k u) most in
    subst (λ (xs : List (List ℕ)). length xs ≤ 1000) (symbols_are k) d.prepared.parts.few

-- and its private scalars may become arrays
pub expanded_of : {E : Type 0} (masks : ℕ) (m k : Nest) (r : Result Nest' E) → IsUnexpanded masks m k
    → IfOk r (λ made. nest_of made ≡ expanded k) → IfOk r (λ made. IsExpandedOf masks m (nest_of made))
expanded_of masks m k (Err e) made h = tt
expanded_of masks m k (Ok new) made h = (k, made, h)

-- ---- nests that may be tested

-- with arrays for private scalars, and behind that pass
module _ (width : Width) (p : Program) (counts : Counts) (n normal k : Nest) (profile : IsProgram77 (fortran77 width) p)
    (among : Contains (found_in p) (InNest n)) (normal_is : normalised n ≡ Some normal)
    (e : IsExpandedOf counts.masks normal k) (few : k.masks < 2 ^ 32) where
  abbrev masks : ℕ
  masks = counts.masks

  most : e.0.masks ≤ 4294967296
  most =
      let less : k.masks < 4294967296 = few in
      let same : k.masks ≡ e.0.masks = ap (λ (j : Nest). j.masks) e.2 ∙ masks_kept e.0 in
      omega (arith, less, same)

  -- whichever reads are copied there are declarations for it, where the copies can be counted
  pub copies_declared : (may : Place → Bool)
      → counts.copies + length (made_arrays may (with_copies_before counts.copies (expanded e.0))) ≤ 2 ^ 32
      → HasCopiesDeclared may counts.copies e.0
  copies_declared may top =
      has_copies_declared width p n normal (with_masks masks normal e.0 e.1) e.0 masks counts.copies may profile among normal_is
      e.1.1.1.1 (few_before normal (with_masks masks normal e.0 e.1) e.0 (named_is masks normal e.0 e.1) most)
      (named_is masks normal e.0 e.1) (few_ranges masks normal e.0 e.1) top

  -- and where none is
  declared_before : HasExpandedDeclarations e.0
  declared_before =
      found_nest_has_expanded_declarations width p n normal (with_masks masks normal e.0 e.1) e.0 masks profile among normal_is
      e.1.1.1.1 (named_is masks normal e.0 e.1) (few_ranges masks normal e.0 e.1) most

  prepared_before : IsPrepared declared_before.declarations declared_before.around expanded_depth (with_copies_before counts.copies k)
  prepared_before =
      subst (λ (z : Nest). IsPrepared declared_before.declarations declared_before.around expanded_depth (with_copies_before counts.copies z))
      (sym e.2)
      (prepared_counted declared_before.declarations declared_before.around expanded_depth (expanded e.0) counts.copies
      declared_before.prepared)

  expanded_nest_is_ready : IsReady (with_copies_before counts.copies k)
  expanded_nest_is_ready =
      prepared_nest_is_ready declared_before.declarations declared_before.around expanded_depth
      (with_copies_before counts.copies k) declared_before.are prepared_before

  -- ---- the split nest

  abbrev split_by : (Place → Bool) → Nest
  split_by may = nodes_split may (with_copies_before counts.copies (expanded e.0))

  split_is_prepared : (may : Place → Bool)
      → (top : counts.copies + length (made_arrays may (with_copies_before counts.copies (expanded e.0))) ≤ 2 ^ 32)
      → IsPrepared (copies_declared may top).declarations (copies_declared may top).around (expanded_depth + split_rise)
      (nodes_split may (with_copies_before counts.copies (expanded e.0)))
  split_is_prepared may top = by (with_nodes_split may (with_copies_before counts.copies (expanded e.0))) refl
    where
      before : IsPrepared (copies_declared may top).declarations (copies_declared may top).around expanded_depth
          (with_copies_before counts.copies (expanded e.0))
      before =
          prepared_counted (copies_declared may top).declarations (copies_declared may top).around expanded_depth
          (expanded e.0) counts.copies (copies_declared may top).prepared

      by : (o : Option Nest) → with_nodes_split may (with_copies_before counts.copies (expanded e.0)) ≡ o
          → IsPrepared (copies_declared may top).declarations (copies_declared may top).around (expanded_depth + split_rise)
          (unwrap_or o (with_copies_before counts.copies (expanded e.0)))
      by None f =
          nothing_deeper (copies_declared may top).declarations (copies_declared may top).around expanded_depth split_rise
          (with_copies_before counts.copies (expanded e.0)) before
      by (Some s) f =
          split_nest_is_prepared (copies_declared may top).declarations (copies_declared may top).around expanded_depth may
          (with_copies_before counts.copies (expanded e.0)) s before (copies_declared may top).split (omega arith) f

  -- by whatever vectors its loops move
  moved_is_prepared : (may : Place → Bool)
      → (top : counts.copies + length (made_arrays may (with_copies_before counts.copies (expanded e.0))) ≤ 2 ^ 32)
      → (vectors : List Dirs)
      → IsPrepared (copies_declared may top).declarations (copies_declared may top).around last_depth
      (arranged (nodes_split may (with_copies_before counts.copies (expanded e.0))) vectors)
  moved_is_prepared may top vectors =
      arranged_nest_is_prepared (copies_declared may top).declarations (copies_declared may top).around
      (expanded_depth + split_rise) (nodes_split may (with_copies_before counts.copies (expanded e.0))) vectors
      (split_is_prepared may top)

  -- how many copies there are behind it
  pub top_of : (may : Place → Bool) → (nodes_split may (with_copies_before counts.copies (expanded e.0))).copies < 2 ^ 32
      → counts.copies + length (made_arrays may (with_copies_before counts.copies (expanded e.0))) ≤ 2 ^ 32
  top_of may h =
      let less : (nodes_split may (with_copies_before counts.copies (expanded e.0))).copies < 4294967296 = h in
      let is = split_copies may (with_copies_before counts.copies (expanded e.0)) in
      let least : counts.copies + length (made_arrays may (with_copies_before counts.copies (expanded e.0))) ≤ 4294967296
      = omega (arith, less, is) in
      least

  split_nest_is_ready : (may : Place → Bool) → (nodes_split may (with_copies_before counts.copies (expanded e.0))).copies < 2 ^ 32
      → IsReady (nodes_split may (with_copies_before counts.copies (expanded e.0)))
  split_nest_is_ready may h =
      let d = copies_declared may (top_of may h) in
      prepared_nest_is_ready d.declarations d.around (expanded_depth + split_rise)
      (nodes_split may (with_copies_before counts.copies (expanded e.0))) d.are (split_is_prepared may (top_of may h))

  split_nest_may_be_listed : (may : Place → Bool)
      → (nodes_split may (with_copies_before counts.copies (expanded e.0))).copies < 2 ^ 32
      → MayBeListed (nodes_split may (with_copies_before counts.copies (expanded e.0)))
  split_nest_may_be_listed may h =
      let d = copies_declared may (top_of may h) in
      let prepared = split_is_prepared may (top_of may h) in
      record {
        ready = split_nest_is_ready may h;
        emitted = λ g graph. prepared_nest_may_be_emitted d.declarations d.around (expanded_depth + split_rise)
            (nodes_split may (with_copies_before counts.copies (expanded e.0))) g d.are prepared graph;
      }

  moved_nest_may_be_listed : (may : Place → Bool)
      → (nodes_split may (with_copies_before counts.copies (expanded e.0))).copies < 2 ^ 32 → (vectors : List Dirs)
      → MayBeListed (arranged (nodes_split may (with_copies_before counts.copies (expanded e.0))) vectors)
  moved_nest_may_be_listed may h vectors =
      let d = copies_declared may (top_of may h) in
      let s = arranged (nodes_split may (with_copies_before counts.copies (expanded e.0))) vectors in
      let prepared = moved_is_prepared may (top_of may h) vectors in
      record {
        ready = prepared_nest_is_ready d.declarations d.around last_depth s d.are prepared;
        emitted = λ g graph. prepared_nest_may_be_emitted d.declarations d.around last_depth s g d.are prepared graph;
      }

pub ready_before : (width : Width) (counts : Counts) (m k : Nest) → IsNormalOfSource width m → IsExpandedOf counts.masks m k
    → k.masks < 2 ^ 32 → IsReady (with_copies_before counts.copies k)
ready_before width counts m k h e few =
    expanded_nest_is_ready width h.source.program counts h.nest m k h.source.profile h.source.among h.made e few

-- the nest that splitting makes of it
pub ready_split : (width : Width) (counts : Counts) (m k : Nest) → IsNormalOfSource width m → IsExpandedOf counts.masks m k
    → k.masks < 2 ^ 32 → MayBeSplitReady (with_copies_before counts.copies k)
ready_split width counts m k h e few may s made copied =
    subst IsReady is
    (split_nest_is_ready width h.source.program counts h.nest m k h.source.profile h.source.among h.made e few may
    (subst (λ (z : Nest). z.copies < 2 ^ 32) (sym is) copied))
  where
    is : nodes_split may (with_copies_before counts.copies (expanded e.0)) ≡ s
    is =
        ap (λ (z : Nest). nodes_split may (with_copies_before counts.copies z)) (sym e.2)
        ∙ ap (λ (o : Option Nest). unwrap_or o (with_copies_before counts.copies k)) made

-- of which the nest k is one, with a graph
split_of_is : (counts : Counts) (m k : Nest) (g : Graph) (s : IsSplitOf counts m k g)
    → k ≡ nodes_split s.is_split.is.may (with_copies_before counts.copies (expanded s.is_expanded.0))
split_of_is counts m k g s =
    split_so (with_copies_before counts.copies s.expanded) k s.split_graph g s.is_split
    ∙ ap (λ (z : Nest). nodes_split s.is_split.is.may (with_copies_before counts.copies z)) s.is_expanded.2

few_of_split : (counts : Counts) (m k : Nest) (g : Graph) (s : IsSplitOf counts m k g) → k.masks < 2 ^ 32
    → s.expanded.masks < 2 ^ 32
few_of_split counts m k g s few =
    subst (λ (i : ℕ). i < 2 ^ 32)
    (ap (λ (z : Nest). z.masks)
    (split_so (with_copies_before counts.copies s.expanded) k s.split_graph g s.is_split
    ∙ split_rest s.is_split.is.may (with_copies_before counts.copies s.expanded))) few

pub may_be_listed_split : (width : Width) (counts : Counts) (m k : Nest) (g : Graph) → IsNormalOfSource width m → IsSplitOf counts m k g
    → k.masks < 2 ^ 32 → k.copies < 2 ^ 32 → MayBeListed k
may_be_listed_split width counts m k g h s few copied =
    let is = split_of_is counts m k g s in
    subst MayBeListed (sym is)
    (split_nest_may_be_listed width h.source.program counts h.nest m s.expanded h.source.profile h.source.among h.made
    s.is_expanded (few_of_split counts m k g s few) s.is_split.is.may
    (subst (λ (z : Nest). z.copies < 2 ^ 32) is copied))

pub may_be_listed_moved : (width : Width) (counts : Counts) (m k : Nest) (g : Graph) → IsNormalOfSource width m → IsSplitOf counts m k g
    → k.masks < 2 ^ 32 → k.copies < 2 ^ 32 → (vectors : List Dirs) → MayBeListed (arranged k vectors)
may_be_listed_moved width counts m k g h s few copied vectors =
    let is = split_of_is counts m k g s in
    subst (λ (z : Nest). MayBeListed (arranged z vectors)) (sym is)
    (moved_nest_may_be_listed width h.source.program counts h.nest m s.expanded h.source.profile h.source.among h.made
    s.is_expanded (few_of_split counts m k g s few) s.is_split.is.may
    (subst (λ (z : Nest). z.copies < 2 ^ 32) is copied) vectors)

-- the last one
module _ (width : Width) (p : Program) (counts : Counts) (n m : Nest) (profile : IsProgram77 (fortran77 width) p)
    (among : Contains (found_in p) (InNest n)) (made : IsMadeBy counts n m) where
  abbrev pub split_made : Nest
  split_made = nodes_split made.may (with_copies_before counts.copies (expanded made.named))

  same_rest : m ≡ record split_made { body = m.body }
  same_rest =
      subst (λ (z : Nest). z ≡ record split_made { body = z.body }) (sym made.is_arranged)
      (arranged_rest split_made made.vectors)

  pub few_made : (expanded made.named).masks < 2 ^ 32
  few_made =
      let less : m.masks < 4294967296 = made.counted in
      let same : m.masks ≡ (expanded made.named).masks
      = ap (λ (j : Nest). j.masks) same_rest
      ∙ ap (λ (j : Nest). j.masks) (split_rest made.may (with_copies_before counts.copies (expanded made.named))) in
      let few : (expanded made.named).masks < 4294967296 = omega (arith, less, same) in
      few

  pub symbols_made : m.symbols ≡ made.named.symbols
  symbols_made =
      ap (λ (j : Nest). j.symbols) same_rest
      ∙ (ap (λ (j : Nest). j.symbols) (split_rest made.may (with_copies_before counts.copies (expanded made.named)))
      ∙ symbols_are made.named)

  abbrev before : IsExpandedOf counts.masks made.normal (expanded made.named)
  before =
      (made.named, (made.substituted, (made.anew, (made.converted, made.is_converted, made.is_anew), made.is_substituted), made.is_named, made.few), refl)

  copied_made : (nodes_split made.may (with_copies_before counts.copies (expanded made.named))).copies < 2 ^ 32
  copied_made = subst (λ (i : ℕ). i < 2 ^ 32) (ap (λ (j : Nest). j.copies) same_rest) made.copied

  pub top_made : counts.copies + length (made_arrays made.may (with_copies_before counts.copies (expanded made.named))) ≤ 2 ^ 32
  top_made =
      top_of width p counts n made.normal (expanded made.named) profile among made.made before few_made made.may copied_made

  pub declared_for : HasCopiesDeclared made.may counts.copies made.named
  declared_for =
      copies_declared width p counts n made.normal (expanded made.named) profile among made.made before few_made made.may top_made

  pub prepared_for : IsPrepared declared_for.declarations declared_for.around last_depth m
  unfolding declared_for
  prepared_for =
      subst (IsPrepared declared_for.declarations declared_for.around last_depth) (sym made.is_arranged)
      (moved_is_prepared width p counts n made.normal (expanded made.named) profile among made.made before few_made made.may
      top_made made.vectors)

  made_nest_is_ready : IsReady m
  made_nest_is_ready =
      prepared_nest_is_ready declared_for.declarations declared_for.around last_depth m declared_for.are prepared_for

pub ready : (width : Width) (counts : Counts) (n m : Nest) → IsNestOfSource width n → IsMadeBy counts n m → IsReady m
ready width counts n m h made = made_nest_is_ready width h.program counts n m h.profile h.among made

-- what stands behind a nest isn't tested
module _ (n : Nest) (b : Block) (h : IsReady n) where
  abbrev beside : Nest
  beside = record n { after = b }

  at_place : (p : Place) (s : Standing) (r : Reference) → IsReferenceAt beside p s r → IsReferenceAt n p s r
  at_place p s r i = record { statement = i.statement; reference = i.reference }

  ready_too : IsReady beside
  ready_too = record {
    symbols = h.symbols;
    statements = h.statements;
    ranks = λ p q s t r u i j e. h.ranks p q s t r u (at_place p s r i) (at_place q t u j) e;
    loops = h.loops;
  }

pub listed_nest_is_testable : (width : Width) → ListedNestIsTestable width
listed_nest_is_testable width p counts n m profile among listed =
    let w = listed_is_made counts n m listed in
    subst IsReady (sym w.same)
    (ready_too w.nest m.after (made_nest_is_ready width p counts n w.nest profile among w.made))

-- ---- what the code gives

-- the nest with copies, and with a graph of it
pub split_some : {E : Type 0} (k s : Nest) (g : Graph) (r : Result Graphed E) → IsSplitNest k g (Some s)
    → IfOk r (λ a. nest_of a.nest.value ≡ s) → IfOk r (λ a. IsGraphOf s a.graph)
    → IfOk r (λ a. IsSplitBy k g (nest_of a.nest.value) a.graph)
split_some k s g (Err e) is nest graph = tt
split_some k s g (Ok a) is nest graph = record {
  new = Some s;
  is = is;
  nest = nest;
  graph = subst (λ (z : Nest). IsGraphOf z a.graph) (sym nest) graph;
  kept = λ e. absurd (true≢false (ap is_some e));
}

pub split_none : (k : Nest) (g : Graph) → IsGraphOf k g → IsSplitNest k g None → IsSplitBy k g k g
split_none k g graph is = record { new = None; is = is; nest = refl; graph = graph; kept = λ e. refl }

pub split_of : {E : Type 0} (counts : Counts) (m k : Nest) (g : Graph) (r : Result Graphed E)
    → IsExpandedOf counts.masks m k → IsGraphOf (with_copies_before counts.copies k) g
    → IfOk r (λ a. IsSplitBy (with_copies_before counts.copies k) g (nest_of a.nest.value) a.graph)
    → IfOk r (λ a. IsSplitOf counts m (nest_of a.nest.value) a.graph)
split_of counts m k g (Err e) made graph is = tt
split_of counts m k g (Ok a) made graph is =
    record { expanded = k; is_expanded = made; split_graph = g; is_split_graph = graph; is_split = is }

-- a nest in which a loop has moved
pub moved_as : (number : ℕ) (k : Nest) (g : Graph) (r : Passed)
    → with_moved_loops k (vectors_of g.edges) ≡ Some (nest_of r.nest.value)
    → AreTestsOf number (nest_of r.nest.value) r.tests.graph r.tests.holds (map line_text r.tests.lines)
    → IsArrangedAs number k g r
moved_as number k g r e tests = record {
  is_arranged = arranged_some k (nest_of r.nest.value) (vectors_of g.edges) e;
  kept = λ none. absurd (true≢false (ap is_some (sym e ∙ none)));
  tests = tests;
}

-- one in which none has
pub stays_as : (number : ℕ) (k : Nest) (g : Graph) (r : Passed)
    → with_moved_loops k (vectors_of g.edges) ≡ None → nest_of r.nest.value ≡ k → r.tests.graph ≡ g
    → AreTestsOf number (nest_of r.nest.value) r.tests.graph r.tests.holds (map line_text r.tests.lines)
    → IsArrangedAs number k g r
stays_as number k g r e same kept tests = record {
  is_arranged = same ∙ sym (ap (λ (o : Option Nest). unwrap_or o k) e);
  kept = λ none. kept;
  tests = tests;
}

pub passed_as : (counts : Counts) (n m k : Nest) (g : Graph) (r : Passed) → normalised n ≡ Some m
    → IsSplitOf counts m k g → k.masks < 2 ^ 32 → k.copies < 2 ^ 32 → IsArrangedAs n.number k g r
    → AreCounted (nest_of r.nest.value) → IsPassed counts n r
passed_as counts n m k g r made s few copied h counted =
    let e = s.is_expanded in
    let rest = h.is_arranged ∙ arranged_rest k (vectors_of g.edges) in
    let same : with_copies_before counts.copies s.expanded ≡ with_copies_before counts.copies (expanded e.0)
    = ap (with_copies_before counts.copies) e.2 in
    record {
      passed = record {
        normal = m;
        made = made;
        converted = e.1.1.1.0;
        is_converted = e.1.1.1.1;
        anew = e.1.1.0;
        is_anew = e.1.1.1.2;
        substituted = e.1.0;
        is_substituted = e.1.1.2;
        named = e.0;
        is_named = e.1.2;
        few = e.1.3;
        split_graph = s.split_graph;
        is_split_graph = subst (λ (j : Nest). IsGraphOf j s.split_graph) same s.is_split_graph;
        split = k;
        graph = g;
        is_split = subst (λ (j : Nest). IsSplitBy j s.split_graph k g) same s.is_split;
        is_arranged = h.is_arranged;
        counted = subst (λ (i : ℕ). i < 2 ^ 32) (sym (ap (λ (j : Nest). j.masks) rest)) few;
        copied = subst (λ (i : ℕ). i < 2 ^ 32) (sym (ap (λ (j : Nest). j.copies) rest)) copied;
        numbered = counted;
      };
      kept = h.kept;
      tests = h.tests;
    }
