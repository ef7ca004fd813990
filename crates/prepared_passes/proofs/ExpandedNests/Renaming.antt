-- A nest that was found, with masks, with its symbols found anew and its inductions substituted: names for ranges may be
-- made for it, and there are declarations that have these names, too.
use Rattle.std.proofs.Common.{◌≡◌, ◌⊎◌, inl, inr, refl, sym, ap, ◌∙◌, subst, ℕ, ◌+◌, ◌<◌, ◌≤◌, ◌^◌, true, Contains, List, [], ◌∷◌, ◌++◌, map, Option, Some, None, All, arith}
use Rattle.std.specs.Prelude.{nat_le}
use Rattle.std.specs.List.{list_all}
use Rattle.std.specs.Option.{IsSomeAnd}
use Rattle.std.proofs.lemmas.Bool.{leb-true}
use Rattle.std.proofs.lemmas.List.Elements.{Contains-append_cases, Contains-append_left, Contains-append_right}
use Rattle.components.specs.Lists.{Distinct}
use Rattle.find_nests.specs.Found.{InNest, found_in}
use Rattle.if_convert.specs.Converted.{converted_nest}
use Rattle.if_convert.specs.Masks.{mask_name}
use Rattle.linear_forms.proofs.Sizes.{both as both_true_of}
use Rattle.meaning.specs.Dialect.{fortran77}
use Rattle.tree.specs.declared.width.Width.{Width}
use Rattle.meaning.specs.Names.{IsInByteOrder}
use Rattle.meaning.specs.Profile77.{IsProgram77}
use Rattle.meaning.specs.Profile90.{IsDeclaration}
use Rattle.meaning.specs.Reads.{names_in_block}
use Rattle.meaning.specs.Typed.{declared}
use Rattle.meaning_laws.proofs.arrays.Members.{each_member, in_map, of_map}
use Rattle.meaning_laws.proofs.profiles.Lists.{all_at}
use Rattle.meaning_laws.proofs.profiles.Names.{found}
use Rattle.meaning_laws.specs.profiles.Profiles.{AddMadeNames}
use Rattle.nest.specs.Bodies.{nest_loops}
use Rattle.nest.specs.Plain.{Loop, Made, Nest}
use Rattle.nest.specs.declared.parts.Trip.{Trip}
use Rattle.nest_order.proofs.orders.Membership.{In-map, map-In}
use Rattle.nest_order.specs.orders.Lists.{In}
use Rattle.normal_loops.specs.Normalised.{normalised}
use Rattle.pass_laws.proofs.NormalFacts.Tables.{each_in}
use Rattle.pass_laws.proofs.PreparedNests.Lists.{Contains-In, In-Contains, ordered_distinct, within_32}
use Rattle.pass_laws.specs.normal_facts.Laws.{IsCounter}
use Rattle.pass_laws.specs.prepared_nests.Laws.{normal_depth}
use Rattle.pass_laws.specs.prepared_nests.Nests.{IsPrepared}
use Rattle.pass_laws.specs.prepared_nests.Statements.{made_names}
use Rattle.pass_laws.specs.prepared_runs.Running.{loops_then_after}
use Rattle.inductions.specs.Found.{inductions_of}
use Rattle.scalar_rename.specs.Ranges.{HaveFewRanges, most_ranges, range_name, webs_of}
use Rattle.scalar_rename.specs.declared.ranges.Web.{Web}
use Rattle.symbols_anew.specs.Nests.{with_symbols_found}
use Rattle.tree.specs.Names.{IsSourceName}
use Rattle.tree.specs.Plain.{Declaration, Given, Program}
use Rattle.tree.specs.declared.ops.Kind.TheVariants.{Logical}
use Rattle.prepared_passes.proofs.ConvertedNests.Declaring.{AgreeOnNames, AreWith, IsMadeDeclaration, each_of, made_names as with_made_names, scalar_of, with_declarations}
use Rattle.prepared_passes.proofs.ConvertedNests.FoundDeclared.{are_both, both, counter_in, counters, counts, here, numbered, own_are, own_source, prepared as prepared_before, stands, with_both}
use Rattle.prepared_passes.proofs.ConvertedNests.MadeNames.{agree, counter_of, counter_or_mask, is_made, mask_below, masks_below, of_counter, of_mask, stands_in_name}
use Rattle.prepared_passes.proofs.ConvertedNests.Standing.{loop_of}
use Rattle.prepared_passes.proofs.ExpandedNests.Anew.{rest_anew, source_anew}
use Rattle.prepared_passes.proofs.ExpandedNests.Names.{fourth, fourth_loop, is_source_name}
use Rattle.prepared_passes.proofs.ExpandedNests.RangeNames.{fourth_mask, fourth_range, range_is_name}
use Rattle.prepared_passes.proofs.ExpandedNests.Sameness.{normal_same}
use Rattle.prepared_passes.proofs.RenamedNests.Fresh.{names_are_fresh}
use Rattle.prepared_passes.proofs.RenamedNests.Names.{range_long}
use Rattle.prepared_passes.proofs.RenamedNests.Prepared.{named_in, webs_distinct, webs_once}
use Rattle.prepared_passes.proofs.RenamedNests.Webs.{IsRangeOf, made_is, source, web_is}
use Rattle.prepared_passes.proofs.SubstitutedNests.Kept.{IsSubstitutedFrom, substituted_from, trip}
use Rattle.prepared_passes.proofs.SubstitutedNests.Prepared.{substituted_nest_is_prepared}
use Rattle.prepared_passes.proofs.SymbolsAnew.Prepared.{prepared_nest_is_prepared_anew}
use Rattle.prepared_passes.proofs.SymbolsAnew.Sources.{found_nest_is_of_source}
use Rattle.prepared_passes.specs.conversion.Places.{IsMask}
use Rattle.prepared_passes.specs.expansion.Unexpanded.{substituted, unexpanded_depth}
use Rattle.prepared_passes.specs.renaming.Renamed.{AreNamesDeclared, names_made}
use Rattle.prepared_passes.specs.symbols.Sources.{IsOfSource}

each_few : (ws : List Web) → list_all (λ (w : Web). nat_le w.ranges most_ranges) ws ≡ true → (w : Web) → In w ws → w.ranges ≤ 100000
each_few [] h w i = absurd i
each_few (v ∷ ws) h w (inl e) =
    let one = both_true_of (nat_le v.ranges most_ranges) (list_all (λ (w : Web). nat_le w.ranges most_ranges) ws) h in
    subst (λ (x : Web). x.ranges ≤ 100000) (sym e) (leb-true v.ranges 100000 one.0)
each_few (v ∷ ws) h w (inr i) = each_few ws (both_true_of (nat_le v.ranges most_ranges) (list_all (λ (w : Web). nat_le w.ranges most_ranges) ws) h).1 w i

-- a scalar of the kind
abbrev pub as_scalar_made : Made → Declaration
as_scalar_made x = record { name = x.name; kind = x.kind; extent = Given [] }

pub one_named : (xs : List Made) → Distinct (map (λ (a : Made). a.name) xs) → (x y : Made) → In x xs → In y xs → x.name ≡ y.name → x ≡ y
one_named [] d x y i j e = absurd i
one_named (z ∷ xs) d x y (inl f) (inl g) e = f ∙ sym g
one_named (z ∷ xs) d x y (inl f) (inr j) e = absurd (each_in (λ w. ¬ (z.name ≡ w)) (map (λ (a : Made). a.name) xs) d.0 y.name (map-In (λ (a : Made). a.name) y xs j) (ap (λ (a : Made). a.name) (sym f) ∙ e))
one_named (z ∷ xs) d x y (inr i) (inl g) e = absurd (each_in (λ w. ¬ (z.name ≡ w)) (map (λ (a : Made). a.name) xs) d.0 x.name (map-In (λ (a : Made). a.name) x xs i) (ap (λ (a : Made). a.name) (sym g) ∙ sym e))
one_named (z ∷ xs) d x y (inr i) (inr j) e = one_named xs d.1 x y i j e

module _ (width : Width) (p : Program) (n m masked : Nest) (masks : ℕ) (is : IsProgram77 (fortran77 width) p) (among : Contains (found_in p) (InNest n))
    (normal : normalised n ≡ Some m) (made : converted_nest masks m ≡ Some masked) (few : masked.masks ≤ 4294967296) where
  abbrev pub anew_nest : Nest
  anew_nest = with_symbols_found m masked

  abbrev pub sub : Nest
  sub = substituted m masked

  abbrev outside : List (List ℕ)
  outside = (stands width p n m masked masks is among normal made few).round.variables

  -- ---- by declarations of the names of p and of further made names

  module _ (es : List Declaration) (add : AddMadeNames p.declarations es) where
    masked_source : IsOfSource es masked
    masked_source = found_nest_is_of_source width p n m masked es masks is among normal made add

    pub anew_source : IsOfSource es (with_symbols_found m masked)
    anew_source = source_anew es m masked (with_symbols_found m masked) refl masked_source

    module _ (around : List (List ℕ)) (h : IsPrepared es around normal_depth masked) where
      pub anew_prepared : IsPrepared es around (normal_depth + 18) (with_symbols_found m masked)
      anew_prepared = prepared_nest_is_prepared_anew es around normal_depth m masked h masked_source

      pub sub_prepared : IsPrepared es around unexpanded_depth (substituted m masked)
      sub_prepared = substituted_nest_is_prepared es around (normal_depth + 18) anew_nest (omega arith) anew_prepared anew_source

  -- ---- by the counters and the masks

  first_prepared : IsPrepared (with_both width p n m masked masks is among normal made few) outside (normal_depth + 18) (with_symbols_found m masked)
  first_prepared =
      anew_prepared (with_both width p n m masked masks is among normal made few) (are_both width p n m masked masks is among normal made few).more outside
      (prepared_before width p n m masked masks is among normal made few)

  first_source : IsOfSource (with_both width p n m masked masks is among normal made few) (with_symbols_found m masked)
  first_source = anew_source (with_both width p n m masked masks is among normal made few) (are_both width p n m masked masks is among normal made few).more

  pub first_sub : IsPrepared (with_both width p n m masked masks is among normal made few) outside unexpanded_depth (substituted m masked)
  first_sub =
      sub_prepared (with_both width p n m masked masks is among normal made few) (are_both width p n m masked masks is among normal made few).more outside
      (prepared_before width p n m masked masks is among normal made few)

  pub sub_trip : Trip
  sub_trip = (trip (with_both width p n m masked masks is among normal made few) outside (normal_depth + 18) anew_nest first_prepared first_source).trip

  pub sub_from : IsSubstitutedFrom (with_symbols_found m masked) (inductions_of (with_symbols_found m masked)) sub_trip (substituted m masked)
  unfolding sub_trip
  sub_from = substituted_from (with_both width p n m masked masks is among normal made few) outside (normal_depth + 18) anew_nest first_prepared first_source

  -- ---- what the nest has of the found one

  pub masked_declarations : masked.declarations ≡ p.declarations
  masked_declarations =
      let f = loop_of masks m masked made in
      let converted : masked.declarations ≡ m.declarations = ap (λ (z : Nest). z.declarations) (sym f.made) in
      converted ∙ ((normal_same n m normal).declarations ∙ ap (λ (z : Nest). z.declarations) (here width p n m masked masks is among normal made few).is)

  masked_number : masked.number ≡ n.number
  masked_number = let f = loop_of masks m masked made in ap (λ (z : Nest). z.number) (sym f.made) ∙ (normal_same n m normal).number

  pub sub_declarations : (substituted m masked).declarations ≡ p.declarations
  sub_declarations =
      ap (λ (z : Nest). z.declarations) sub_from.rest
      ∙ (ap (λ (z : Nest). z.declarations) (rest_anew m masked anew_nest refl) ∙ masked_declarations)

  pub sub_number : (substituted m masked).number ≡ n.number
  sub_number = ap (λ (z : Nest). z.number) sub_from.rest ∙ (ap (λ (z : Nest). z.number) (rest_anew m masked anew_nest refl) ∙ masked_number)

  pub sub_made : (substituted m masked).made ≡ masked.made
  sub_made = ap (λ (z : Nest). z.made) sub_from.rest ∙ ap (λ (z : Nest). z.made) (rest_anew m masked anew_nest refl)

  pub sub_masks : (substituted m masked).masks ≡ masked.masks
  sub_masks = ap (λ (z : Nest). z.masks) sub_from.rest ∙ ap (λ (z : Nest). z.masks) (rest_anew m masked anew_nest refl)

  pub sub_ordered : IsInByteOrder (map (λ (d : Declaration). d.name) (substituted m masked).declarations)
  sub_ordered = subst (λ (ds : List Declaration). IsInByteOrder (map (λ (d : Declaration). d.name) ds)) (sym sub_declarations) is.declarations.ordered

  small_number : (substituted m masked).number ≤ 4294967295
  small_number = within_32 sub.number first_sub.parts.number

  -- ---- names of ranges

  pub range_of : (x : Made) → In x (names_made (substituted m masked)) → IsRangeOf (substituted m masked).number (webs_of (substituted m masked)) x
  range_of x i = made_is sub.number (webs_of sub) x i

  pub scalar_is : (w : Web) → In w (webs_of (substituted m masked)) → IsSourceName w.name
  scalar_is w i = is_source_name w.name (source sub w (web_is sub w i))

  pub name_is : (x : Made) (i : In x (names_made (substituted m masked))) → x.name ≡ range_name (substituted m masked).number (range_of x i).web.name (range_of x i).range
  name_is x i = ap (λ (z : Made). z.name) (range_of x i).is

  pub range_no_source : (x : Made) → In x (names_made (substituted m masked)) → ¬ IsSourceName x.name
  range_no_source x i s = range_long sub.number (range_of x i).web.name (range_of x i).range (subst IsSourceName (name_is x i) s)

  pub fourth_letter : (x : Made) → In x (names_made (substituted m masked)) → fourth x.name ≡ 78
  fourth_letter x i = ap fourth (name_is x i) ∙ fourth_range sub.number (range_of x i).web.name (range_of x i).range

  -- neither the program, nor counters and masks have one
  no_range : (x : Made) → In x (names_made (substituted m masked)) → (d : Declaration) → d.name ≡ x.name
      → Contains p.declarations d ⊎ Contains (both width p n m masked masks is among normal made few) d → ⊥
  no_range x i d e (inl c) = range_no_source x i (subst IsSourceName e (own_source width p n m masked masks is among normal made few d c))
  no_range x i d e (inr c) = by (Contains-append_cases (counters width p n m masked masks is among normal made few) (masks_below masked.masks) d c)
    where
      by : Contains (counters width p n m masked masks is among normal made few) d ⊎ Contains (masks_below masked.masks) d → ⊥
      by (inl c) =
          let o = of_counter (nest_loops m) (numbered width p n m masked masks is among normal made few) d c in
          let bad : 78 ≡ 76 = sym (fourth_letter x i) ∙ (ap fourth (sym e ∙ sym o.numbered.is) ∙ fourth_loop o.numbered.number) in
          absurd (omega (arith, bad))
      by (inr c) =
          let o = of_mask masked.masks few d c in
          let bad : 78 ≡ 77 = sym (fourth_letter x i) ∙ (ap fourth (sym e ∙ sym o.name) ∙ fourth_mask o.number) in
          absurd (omega (arith, bad))

  undeclared : (x : Made) → In x (names_made (substituted m masked)) → declared (with_both width p n m masked masks is among normal made few) x.name ≡ None
  undeclared x i = by (declared (with_both width p n m masked masks is among normal made few) x.name) refl
    where
      by : (o : Option Declaration) → declared (with_both width p n m masked masks is among normal made few) x.name ≡ o → o ≡ None
      by None e = refl
      by (Some d) e =
          let f = found (with_both width p n m masked masks is among normal made few) x.name d e in
          absurd (no_range x i d f.name (each_of p.declarations (both width p n m masked masks is among normal made few) d f.among))

  -- so they stand nowhere in it, and nothing that was made has one
  pub fresh : (x : Made) → In x (names_made (substituted m masked))
      → (¬ Contains (names_in_block (loops_then_after (substituted m masked))) x.name) × (¬ Contains (made_names (substituted m masked)) x.name)
  fresh = names_are_fresh (with_both width p n m masked masks is among normal made few) outside unexpanded_depth sub first_sub undeclared

  -- ---- declarations that have them

  module _ (ranges_few : HaveFewRanges (substituted m masked)) where
    pub few_ranges : (w : Web) → In w (webs_of (substituted m masked)) → w.ranges ≤ 100000
    few_ranges w i = each_few (webs_of sub) ranges_few w i

    pub few_wide : (w : Web) → In w (webs_of (substituted m masked)) → w.ranges < 2 ^ 64
    few_wide w i = let most = few_ranges w i in let e : w.ranges < 18446744073709551616 = omega (arith, most) in e

    stands_right : (w : Web) → In w (webs_of (substituted m masked)) → list_all stands_in_name w.name ≡ true
    stands_right w i =
        let o = In-map (λ (d : Declaration). d.name) w.name p.declarations
        (subst (λ (ds : List Declaration). In w.name (map (λ (d : Declaration). d.name) ds)) sub_declarations (named_in sub sub.declarations w i)) in
        let d : IsDeclaration o.it = all_at IsDeclaration p.declarations o.it (own_are width p n m masked masks is among normal made few).each (In-Contains o.it p.declarations o.inside) in
        subst (λ x. list_all stands_in_name x ≡ true) (sym o.is) d.name.goes_on

    pub range_is_made : (x : Made) → In x (names_made (substituted m masked)) → IsMadeDeclaration (as_scalar_made x)
    range_is_made x i =
        let r = range_of x i in
        let below = r.below in
        let most = few_ranges r.web r.inside in
        subst (λ (z : Made). IsMadeDeclaration (as_scalar_made z)) (sym r.is)
        (record {
          declaration = record {
            name = range_is_name sub.number r.web.name r.range (scalar_is r.web r.inside) (stands_right r.web r.inside) small_number (omega (arith, below, most));
            extent = (omega arith, tt);
          };
          made = range_long sub.number r.web.name r.range;
          later = refl;
        })

    pub ranges_once : Distinct (map (λ (a : Made). a.name) (names_made (substituted m masked)))
    ranges_once =
        webs_distinct sub (webs_of sub) (λ w i. (source sub w (web_is sub w i), few_wide w i))
        (webs_once sub sub.declarations (ordered_distinct (map (λ (d : Declaration). d.name) sub.declarations) sub_ordered))

    abbrev pub ranges : List Declaration
    ranges = map as_scalar_made (names_made (substituted m masked))

    abbrev pub three : List Declaration
    three = both width p n m masked masks is among normal made few ++ map as_scalar_made (names_made (substituted m masked))

    abbrev pub with_three : List Declaration
    with_three = with_declarations p.declarations (both width p n m masked masks is among normal made few ++ map as_scalar_made (names_made (substituted m masked)))

    each_made : (e : Declaration) → Contains three e → IsMadeDeclaration e
    each_made e c = by (Contains-append_cases (both width p n m masked masks is among normal made few) ranges e c)
      where
        by : Contains (both width p n m masked masks is among normal made few) e ⊎ Contains ranges e → IsMadeDeclaration e
        by (inl i) = is_made e (counter_or_mask (nest_loops m) (numbered width p n m masked masks is among normal made few) masked.masks few e i)
        by (inr i) = let o = of_map as_scalar_made (names_made sub) e i in subst IsMadeDeclaration o.2 (range_is_made o.0 (Contains-In o.0 (names_made sub) o.1))

    apart : (d e : Declaration) → Contains (both width p n m masked masks is among normal made few) d → Contains ranges e → d.name ≡ e.name → ⊥
    apart d e c i same =
        let o = of_map as_scalar_made (names_made sub) e i in
        no_range o.0 (Contains-In o.0 (names_made sub) o.1) d (same ∙ sym (ap (λ (z : Declaration). z.name) o.2)) (inr c)

    alone : AgreeOnNames three three
    alone d e c i same = by (Contains-append_cases (both width p n m masked masks is among normal made few) ranges d c) (Contains-append_cases (both width p n m masked masks is among normal made few) ranges e i)
      where
        by : Contains (both width p n m masked masks is among normal made few) d ⊎ Contains ranges d → Contains (both width p n m masked masks is among normal made few) e ⊎ Contains ranges e → d ≡ e
        by (inl f) (inl g) =
            agree d e (counter_or_mask (nest_loops m) (numbered width p n m masked masks is among normal made few) masked.masks few d f)
            (counter_or_mask (nest_loops m) (numbered width p n m masked masks is among normal made few) masked.masks few e g) same
        by (inl f) (inr g) = absurd (apart d e f g same)
        by (inr f) (inl g) = absurd (apart e d g f (sym same))
        by (inr f) (inr g) =
            let a = of_map as_scalar_made (names_made sub) d f in
            let b = of_map as_scalar_made (names_made sub) e g in
            let name : a.0.name ≡ b.0.name = ap (λ (z : Declaration). z.name) a.2 ∙ (same ∙ sym (ap (λ (z : Declaration). z.name) b.2)) in
            sym a.2
            ∙ (ap as_scalar_made (one_named (names_made sub) ranges_once a.0 b.0 (Contains-In a.0 (names_made sub) a.1) (Contains-In b.0 (names_made sub) b.1) name) ∙ b.2)

    pub are_three : AreWith p.declarations three with_three
    are_three =
        with_made_names p.declarations three (own_are width p n m masked masks is among normal made few) (each_member IsMadeDeclaration three each_made) alone
        (λ d e c i same. (each_made e i).made (subst IsSourceName same (own_source width p n m masked masks is among normal made few d c)))

    pub names_there : AreNamesDeclared (with_declarations p.declarations (both width p n m masked masks is among normal made few ++ map as_scalar_made (names_made (substituted m masked)))) (substituted m masked)
    names_there x i =
        let c = Contains-append_right (both width p n m masked masks is among normal made few) ranges (as_scalar_made x) (in_map as_scalar_made (names_made sub) x (In-Contains x (names_made sub) i)) in
        subst (λ (o : Option Declaration). IsSomeAnd o (λ (d : Declaration). (d.kind ≡ x.kind) × (d.extent ≡ Given []))) (sym (are_three.declared (as_scalar_made x) c)) (refl, refl)

    pub counted_there : All (λ (l : Loop). IsSomeAnd (declared (with_declarations p.declarations (both width p n m masked masks is among normal made few ++ map as_scalar_made (names_made (substituted m masked)))) l.variable) IsCounter) (nest_loops m)
    counted_there =
        each_member (λ (l : Loop). IsSomeAnd (declared with_three l.variable) IsCounter) (nest_loops m)
        (λ l c. counts width p n m masked masks is among normal made few with_three l
        (are_three.declared (counter_of l) (Contains-append_left (both width p n m masked masks is among normal made few) ranges (counter_of l)
        (Contains-append_left (counters width p n m masked masks is among normal made few) (masks_below masked.masks) (counter_of l) (counter_in width p n m masked masks is among normal made few l c)))))

    pub marks_there : (i : ℕ) → i < masked.masks
        → IsSomeAnd (declared (with_declarations p.declarations (both width p n m masked masks is among normal made few ++ map as_scalar_made (names_made (substituted m masked)))) (mask_name i)) IsMask
    marks_there i l =
        let d = scalar_of Logical (mask_name i) in
        subst (λ (o : Option Declaration). IsSomeAnd o IsMask)
        (sym (are_three.declared d (Contains-append_left (both width p n m masked masks is among normal made few) ranges d
        (Contains-append_right (counters width p n m masked masks is among normal made few) (masks_below masked.masks) d (mask_below masked.masks i l)))))
        (record { kind = refl; extent = refl })
