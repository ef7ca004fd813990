-- What passes made for a nest that was found, with loops from 1 by 1, with masks, with its symbols found anew, its
-- inductions substituted and its scalars renamed: masks and names of ranges. It is prepared, and may be expanded.
use Rattle.std.proofs.Common.{◌≡◌, ◌⊎◌, inl, inr, refl, sym, ap, ◌∙◌, subst, ℕ, zero, suc, ◌+◌, ◌-◌, ◌≤◌, ◌<◌, cond, false, codes, Contains, List, [], ◌∷◌, ◌++◌, map, Option, Some, None, arith}
use Rattle.std.proofs.lemmas.Bool.{cases_lt}
use Rattle.std.proofs.lemmas.List.Elements.{Contains-append_cases}
use Rattle.find_nests.specs.Found.{InNest, found_in}
use Rattle.if_convert.specs.Converted.{converted_nest}
use Rattle.if_convert.specs.Masks.{made_mask, masks_from}
use Rattle.if_convert.specs.Points.{entered}
use Rattle.meaning.specs.Dialect.{fortran77}
use Rattle.tree.specs.declared.width.Width.{Width}
use Rattle.meaning.specs.Profile77.{IsProgram77}
use Rattle.meaning.specs.Typed.{declared}
use Rattle.meaning_laws.proofs.arrays.Members.{of_map}
use Rattle.meaning_laws.proofs.profiles.Names.{found}
use Rattle.meaning_laws.specs.profiles.Profiles.{AddMadeNames}
use Rattle.nest.specs.Bodies.{nest_loops, nest_statements}
use Rattle.nest.specs.Plain.{Made, Nest}
use Rattle.nest_order.proofs.orders.Lists.{In-append, In-left, In-right}
use Rattle.nest_order.proofs.orders.Membership.{In-map}
use Rattle.nest_order.specs.orders.Lists.{In}
use Rattle.normal_loops.specs.Normalised.{normalised}
use Rattle.pass_laws.proofs.NormalFacts.Tables.{each_from}
use Rattle.pass_laws.proofs.NormalMeaning.Made as texts
use Rattle.pass_laws.proofs.PreparedNests.Lists.{Contains-In}
use Rattle.pass_laws.proofs.PreparedNests.Normal.MadeNames.{extends}
use Rattle.pass_laws.proofs.ReadyNests.Lists.{Each-All}
use Rattle.pass_laws.specs.prepared_nests.Laws.{normal_depth}
use Rattle.pass_laws.specs.prepared_nests.Nests.{IsPrepared}
use Rattle.pass_laws.specs.prepared_nests.Statements.{made_names}
use Rattle.scalar_expand.proofs.PrivateLaws.{first_begins, has_first}
use Rattle.scalar_expand.proofs.Theorems.{in_privates}
use Rattle.scalar_expand.specs.Privates.{expanded_name, names_written, number_behind, private_among, private_scalars}
use Rattle.scalar_expand.specs.declared.privates.Private.{Private}
use Rattle.scalar_rename.specs.Ranges.{HaveFewRanges, webs_of}
use Rattle.scalar_rename.specs.Renamed.{each_renamed, renamed, with_names}
use Rattle.scalar_rename.specs.declared.ranges.Web.{Web}
use Rattle.statement_passes.specs.Standings.{IsLoop}
use Rattle.tree.specs.Names.{IsSourceName}
use Rattle.tree.specs.Plain.{Declaration, Program}
use Rattle.prepared_passes.proofs.ConvertedNests.Declaring.{each_of}
use Rattle.prepared_passes.proofs.ConvertedNests.FoundDeclared.{are_counters, both, counted_first, counters, here, no_mask, number, numbered, own_source, stands, with_counters}
use Rattle.prepared_passes.proofs.ConvertedNests.FoundConverted.{found_nest_is_converted}
use Rattle.prepared_passes.proofs.ConvertedNests.MadeNames.{masks_below, of_counter, of_mask}
use Rattle.prepared_passes.proofs.ConvertedNests.Rising.{masks_rise_parts}
use Rattle.prepared_passes.proofs.ConvertedNests.Standing.{loop_of}
use Rattle.prepared_passes.proofs.ConvertedNests.Walk.{mask_long}
use Rattle.prepared_passes.proofs.ExpandedNests.Allowed.{prepared_nest_may_be_expanded}
use Rattle.prepared_passes.proofs.ExpandedNests.Anew.{IsOneLoop, turns_in}
use Rattle.prepared_passes.proofs.ExpandedNests.Names.{array_long, fourth, fourth_exp, fourth_loop, source_is}
use Rattle.prepared_passes.proofs.ExpandedNests.RangeNames.{fourth_mask}
use Rattle.prepared_passes.proofs.ExpandedNests.Renaming.{are_three, as_scalar_made, counted_there, few_wide, fourth_letter, fresh, marks_there, names_there, range_no_source, range_of, sub_declarations, sub_from, sub_made, sub_masks, sub_number, sub_ordered, sub_prepared, three, with_three}
use Rattle.prepared_passes.proofs.RenamedNests.Kept.{renamed_nest_keeps_rest}
use Rattle.prepared_passes.proofs.RenamedNests.Prepared.{renamed_nest_is_prepared}
use Rattle.prepared_passes.proofs.SymbolsAnew.Same.{mapped_loop}
use Rattle.prepared_passes.specs.expansion.Laws.{MayBeExpanded}
use Rattle.prepared_passes.specs.expansion.Places.{AreMadeScalars}
use Rattle.prepared_passes.specs.expansion.Unexpanded.{substituted, unexpanded, unexpanded_depth}
use Rattle.prepared_passes.specs.renaming.Laws.{IsRenamedFrom}
use Rattle.prepared_passes.specs.renaming.Renamed.{AreNamesDeclared, MayBeRenamed, names_made}

-- ---- masks from a number on

pub mask_in : (i c j : ℕ) → i ≤ j → j < i + c → In (made_mask j) (masks_from i c)
mask_in i zero j a b = absurd (omega (arith, a, b))
mask_in i (suc c) j a b = by (cases_lt i j) (λ h. mask_in (suc i) c j h (omega (arith, b)))
  where
    by : (i < j) ⊎ (j ≤ i) → (suc i ≤ j → In (made_mask j) (masks_from (suc i) c)) → In (made_mask j) (masks_from i (suc c))
    by (inl h) later = inr (later (omega (arith, h)))
    by (inr h) later = let same : j ≡ i = omega (arith, a, h) in inl (ap made_mask same)

pub record IsOneOf (width : Width) (i c : ℕ) (a : Made) : Type 0 where
  pub number : ℕ
  pub from : i ≤ number
  pub below : number < i + c
  pub is : a ≡ made_mask number

one_of : (width : Width) (i c : ℕ) (a : Made) → In a (masks_from i c) → IsOneOf width i c a
one_of width i zero a j = absurd j
one_of width i (suc c) a (inl e) = record { number = i; from = omega arith; below = omega arith; is = e }
one_of width i (suc c) a (inr j) =
    let o = one_of width (suc i) c a j in
    let from = o.from in
    let below = o.below in
    record { number = o.number; from = omega (arith, from); below = omega (arith, below); is = o.is }

-- ---- names of arrays

pub array_named : (m : Nest) (q : Private) → In q (private_scalars m) → q.array ≡ expanded_name m.number q.name
array_named m q i =
    let known = in_privates m (names_written [] (nest_statements m)) q i in
    let f = has_first m q.name q (nest_statements m) known in
    (first_begins m q.name q f.before f.standing f.behind (ap (private_among m q.name) (sym f.splits) ∙ known) f.none f.stands).1.array

source_array : (m : Nest) (q : Private) → In q (private_scalars m) → IsSourceName q.name → q.array ≡ (codes "FV_EXP_" ++ q.name) ++ number_behind m.number
source_array m q i s = array_named m q i ∙ ap (λ b. cond b ((codes "FV_EXP_" ++ q.name) ++ number_behind m.number) q.name) (source_is q.name s)

-- ---- a loop whose statements were mapped stays one

renamed_loop : (s : Nest) (ws : List Web) → IsLoop s.body → IsLoop (with_names s ws).body
renamed_loop s [] h = h
renamed_loop s (w ∷ ws) h = mapped_loop (each_renamed (w ∷ ws)) s.body h

renamed_stays : (s : Nest) → IsLoop s.body → IsLoop (renamed s).body
unfolding renamed
renamed_stays s h = renamed_loop s (webs_of s) h

-- ---- the nest

module _ (width : Width) (p : Program) (n m masked k : Nest) (masks : ℕ) (is : IsProgram77 (fortran77 width) p) (among : Contains (found_in p) (InNest n))
    (normal : normalised n ≡ Some m) (made : converted_nest masks m ≡ Some masked) (few : masked.masks ≤ 4294967296)
    (anew : k ≡ unexpanded m masked) (ranges_few : HaveFewRanges (substituted m masked)) where
  abbrev sub : Nest
  sub = substituted m masked

  abbrev pub ds : List Declaration
  ds = with_three width p n m masked masks is among normal made few ranges_few

  abbrev pub outside : List (List ℕ)
  outside = (stands width p n m masked masks is among normal made few).round.variables

  -- names for its ranges may be made where they are declared
  pub may_rename : (es : List Declaration) → AddMadeNames p.declarations es → AreNamesDeclared es (substituted m masked) → MayBeRenamed es (substituted m masked)
  may_rename es more named = record {
    loop = (sub_from width p n m masked masks is among normal made few).loop;
    few = few_wide width p n m masked masks is among normal made few ranges_few;
    ordered = sub_ordered width p n m masked masks is among normal made few;
    among = λ x d e. (extends (fortran77 width) p es is more).found x d (subst (λ (cs : List Declaration). declared cs x ≡ Some d) (sub_declarations width p n m masked masks is among normal made few) e);
    declared = named;
    fresh = λ a i. (fresh width p n m masked masks is among normal made few a i).0;
    unmade = λ a i. (fresh width p n m masked masks is among normal made few a i).1;
  }

  pub prepared_by : (es : List Declaration) → AddMadeNames p.declarations es → AreNamesDeclared es (substituted m masked) → (around : List (List ℕ)) → IsPrepared es around normal_depth masked
      → IsPrepared es around unexpanded_depth k
  prepared_by es more named around h =
      subst (IsPrepared es around unexpanded_depth) (sym anew)
      (renamed_nest_is_prepared es around unexpanded_depth sub (sub_prepared width p n m masked masks is among normal made few es more around h) (may_rename es more named))

  -- ---- by the counters, the masks and the names of ranges

  masked_there : IsPrepared ds outside normal_depth masked
  masked_there =
      (found_nest_is_converted width p n m masked (with_counters width p n m masked masks is among normal made few) ds masks (stands width p n m masked masks is among normal made few).round
      (here width p n m masked masks is among normal made few) is among normal made few (are_counters width p n m masked masks is among normal made few).more
      (no_mask width p n m masked masks is among normal made few) (counted_first width p n m masked masks is among normal made few)
      (are_three width p n m masked masks is among normal made few ranges_few).more (λ i a b. marks_there width p n m masked masks is among normal made few ranges_few i b)
      (counted_there width p n m masked masks is among normal made few ranges_few) (number width p n m masked masks is among normal made few)
      (stands width p n m masked masks is among normal made few).named (stands width p n m masked masks is among normal made few).is).1

  pub prepared : IsPrepared (with_three width p n m masked masks is among normal made few ranges_few) (stands width p n m masked masks is among normal made few).round.variables unexpanded_depth k
  prepared =
      prepared_by ds (are_three width p n m masked masks is among normal made few ranges_few).more (names_there width p n m masked masks is among normal made few ranges_few) outside masked_there

  -- ---- what it has of the nest before

  pub renamed_from : IsRenamedFrom (substituted m masked) k
  renamed_from =
      subst (IsRenamedFrom sub) (sym anew)
      (renamed_nest_keeps_rest ds outside unexpanded_depth sub
      (sub_prepared width p n m masked masks is among normal made few ds (are_three width p n m masked masks is among normal made few ranges_few).more outside masked_there)
      (may_rename ds (are_three width p n m masked masks is among normal made few ranges_few).more (names_there width p n m masked masks is among normal made few ranges_few)))

  pub same_declarations : k.declarations ≡ p.declarations
  same_declarations = ap (λ (z : Nest). z.declarations) renamed_from.rest ∙ sub_declarations width p n m masked masks is among normal made few

  pub same_number : k.number ≡ n.number
  same_number = ap (λ (z : Nest). z.number) renamed_from.rest ∙ sub_number width p n m masked masks is among normal made few

  pub same_masks : k.masks ≡ masked.masks
  same_masks = ap (λ (z : Nest). z.masks) renamed_from.rest ∙ sub_masks width p n m masked masks is among normal made few

  pub one_loop : IsOneLoop k
  one_loop =
      let t = turns_in k.body loop in
      record { loop = t.0; body = t.1; is_loop = t.2 }
    where
      loop : IsLoop k.body
      loop = subst (λ (z : Nest). IsLoop z.body) (sym anew) (renamed_stays sub (sub_from width p n m masked masks is among normal made few).loop)

  -- ---- what was made

  none_before : m.made ≡ []
  none_before = (texts.made_of n m normal).made ∙ ap (λ (z : Nest). z.made) (here width p n m masked masks is among normal made few).is

  pub rise : masks ≤ k.masks
  rise =
      let f = loop_of masks m masked made in
      subst (λ (i : ℕ). masks ≤ i) (sym same_masks)
      (subst (λ (z : Nest). masks ≤ z.masks) f.made (masks_rise_parts m.line false None f.within (entered None masks masks)))

  made_are : k.made ≡ masks_from masks (k.masks - masks) ++ names_made (substituted m masked)
  made_are =
      let f = loop_of masks m masked made in
      let all : masked.made ≡ m.made ++ masks_from masks (masked.masks - masks)
      = subst (λ (z : Nest). z.made ≡ m.made ++ masks_from masks (z.masks - masks)) f.made refl in
      renamed_from.made
      ∙ ap (λ (ms : List Made). ms ++ names_made sub)
      (sub_made width p n m masked masks is among normal made few ∙ all ∙ ap (λ (i : ℕ). m.made ++ masks_from masks (i - masks)) (sym same_masks)
      ∙ ap (λ (ms : List Made). ms ++ masks_from masks (k.masks - masks)) none_before)

  -- a mask, or a name of a range
  pub made_is_one : (a : Made) → In a k.made → IsOneOf width masks (k.masks - masks) a ⊎ In a (names_made (substituted m masked))
  made_is_one a i = by (In-append a (masks_from masks (k.masks - masks)) (names_made sub) (subst (λ (ms : List Made). In a ms) made_are i))
    where
      by : In a (masks_from masks (k.masks - masks)) ⊎ In a (names_made sub) → IsOneOf width masks (k.masks - masks) a ⊎ In a (names_made sub)
      by (inl j) = inl (one_of width masks (k.masks - masks) a j)
      by (inr j) = inr j

  pub mask_made : (j : ℕ) → masks ≤ j → j < k.masks → In (made_mask j) k.made
  mask_made j low high =
      let up = rise in
      subst (λ (ms : List Made). In (made_mask j) ms) (sym made_are)
      (In-left (made_mask j) (masks_from masks (k.masks - masks)) (names_made sub) (mask_in masks (k.masks - masks) j low (omega (arith, up, high))))

  pub range_made : (a : Made) → In a (names_made (substituted m masked)) → In a k.made
  range_made a i = subst (λ (ms : List Made). In a ms) (sym made_are) (In-right a (masks_from masks (k.masks - masks)) (names_made sub) i)

  pub no_extents : (a : Made) → In a k.made → a.extents ≡ []
  no_extents a i = by (made_is_one a i)
    where
      by : IsOneOf width masks (k.masks - masks) a ⊎ In a (names_made sub) → a.extents ≡ []
      by (inl o) = ap (λ (b : Made). b.extents) o.is
      by (inr j) = ap (λ (b : Made). b.extents) (range_of width p n m masked masks is among normal made few a j).is

  pub are_scalars : AreMadeScalars k
  are_scalars = Each-All (λ (a : Made). a.extents ≡ []) k.made (each_from (λ (a : Made). a.extents ≡ []) k.made no_extents)

  pub no_source : (a : Made) → In a k.made → ¬ IsSourceName a.name
  no_source a i s = by (made_is_one a i)
    where
      by : IsOneOf width masks (k.masks - masks) a ⊎ In a (names_made sub) → ⊥
      by (inl o) = mask_long o.number (subst IsSourceName (ap (λ (b : Made). b.name) o.is) s)
      by (inr j) = range_no_source width p n m masked masks is among normal made few a j s

  pub made_no_source : (x : List ℕ) → In x (made_names k) → ¬ IsSourceName x
  made_no_source x i s =
      let o = In-map (λ (a : Made). a.name) x k.made i in
      no_source o.it o.inside (subst IsSourceName o.is s)

  -- ---- it may be expanded

  no_array : (q : Private) → In q (private_scalars k) → IsSourceName q.name → (d : Declaration) → d.name ≡ q.array
      → Contains p.declarations d ⊎ Contains (three width p n m masked masks is among normal made few ranges_few) d → ⊥
  no_array q i s d e c = by c
    where
      array : q.array ≡ (codes "FV_EXP_" ++ q.name) ++ number_behind k.number
      array = source_array k q i s

      other : (z : ℕ) → fourth d.name ≡ z → 69 ≡ z
      other z f = sym (fourth_exp q.name (number_behind k.number)) ∙ (ap fourth (sym array ∙ sym e) ∙ f)

      new : Contains (counters width p n m masked masks is among normal made few) d ⊎ Contains (masks_below masked.masks) d → ⊥
      new (inl c) =
          let o = of_counter (nest_loops m) (numbered width p n m masked masks is among normal made few) d c in
          let bad = other 76 (ap fourth (sym o.numbered.is) ∙ fourth_loop o.numbered.number) in
          absurd (omega (arith, bad))
      new (inr c) =
          let o = of_mask masked.masks few d c in
          let bad = other 77 (ap fourth (sym o.name) ∙ fourth_mask o.number) in
          absurd (omega (arith, bad))

      newest : Contains (both width p n m masked masks is among normal made few) d ⊎ Contains (map as_scalar_made (names_made sub)) d → ⊥
      newest (inl c) = new (Contains-append_cases (counters width p n m masked masks is among normal made few) (masks_below masked.masks) d c)
      newest (inr c) =
          let o = of_map as_scalar_made (names_made sub) d c in
          let bad = other 78 (ap fourth (sym (ap (λ (z : Declaration). z.name) o.2)) ∙ fourth_letter width p n m masked masks is among normal made few o.0 (Contains-In o.0 (names_made sub) o.1)) in
          absurd (omega (arith, bad))

      by : Contains p.declarations d ⊎ Contains (three width p n m masked masks is among normal made few ranges_few) d → ⊥
      by (inl c) = array_long q.name k.number (subst IsSourceName (e ∙ array) (own_source width p n m masked masks is among normal made few d c))
      by (inr c) = newest (Contains-append_cases (both width p n m masked masks is among normal made few) (map as_scalar_made (names_made sub)) d c)

  undeclared : (q : Private) → In q (private_scalars k) → IsSourceName q.name → declared ds q.array ≡ None
  undeclared q i s = by (declared ds q.array) refl
    where
      by : (o : Option Declaration) → declared ds q.array ≡ o → o ≡ None
      by None e = refl
      by (Some d) e =
          let f = found ds q.array d e in
          absurd (no_array q i s d f.name (each_of p.declarations (three width p n m masked masks is among normal made few ranges_few) d f.among))

  pub may_be_expanded : (es : List Declaration) → AddMadeNames p.declarations es → MayBeExpanded es k
  may_be_expanded es more =
      let may = prepared_nest_may_be_expanded (fortran77 width) p ds outside unexpanded_depth k is
      (are_three width p n m masked masks is among normal made few ranges_few).more same_declarations prepared undeclared in
      record {
        among = λ x d e. (extends (fortran77 width) p es is more).found x d (subst (λ ds. declared ds x ≡ Some d) same_declarations e);
        source = may.source;
        fresh = may.fresh;
        unmade = may.unmade;
      }
