-- A nest that was found, with loops from 1 by 1, with masks, with its symbols found anew, its inductions substituted and
-- its scalars renamed, has a place before expansion.
use Rattle.std.proofs.Common.{◌≡◌, ◌⊎◌, inl, inr, refl, sym, ap, ◌∙◌, subst, ℕ, ◌≤◌, ◌<◌, ◌^◌, Bool, true, false, Contains, List, [], map, Option, Some, None, All, arith}
use Rattle.std.specs.Option.{IsSomeAnd, option_map}
use Rattle.std.proofs.lemmas.List.Elements.{All-weaker}
use Rattle.prepared_passes.proofs.ConvertedNests.FoundDeclared.{are_counters, counted_first, no_mask, own_source, stands, with_counters}
use Rattle.prepared_passes.specs.conversion.Places.{IsMask}
use Rattle.find_nests.specs.Found.{InNest, found_in}
use Rattle.find_nests.specs.Laws.{IsFoundNest}
use Rattle.find_nests.specs.Loops.{as_statement}
use Rattle.if_convert.specs.Converted.{converted_nest}
use Rattle.if_convert.specs.Masks.{made_mask, mask_name}
use Rattle.meaning.specs.Blocks.{Surroundings}
use Rattle.meaning.specs.Dialect.{fortran77}
use Rattle.tree.specs.declared.width.Width.{Width}
use Rattle.meaning.specs.Profile77.{IsProgram77, IsStatement}
use Rattle.meaning.specs.Store.{names_of}
use Rattle.meaning.specs.Typed.{declared}
use Rattle.meaning_laws.proofs.arrays.Members.{of_map}
use Rattle.meaning_laws.proofs.profiles.Names.{found}
use Rattle.meaning_laws.specs.profiles.Profiles.{AddMadeNames}
use Rattle.nest.specs.Bodies.{nest_loops}
use Rattle.nest.specs.Plain.{Loop, Made, Nest}
use Rattle.nest_order.proofs.orders.Lists.{In-left, In-right}
use Rattle.nest_order.proofs.orders.Membership.{In-map, map-In}
use Rattle.nest_order.specs.orders.Lists.{In}
use Rattle.normal_loops.specs.Normalised.{normalised}
use Rattle.pass_laws.specs.normal_facts.Laws.{IsCounter}
use Rattle.pass_laws.proofs.PreparedNests.Lists.{In-Contains}
use Rattle.pass_laws.specs.prepared_nests.Made.{extent_for}
use Rattle.pass_laws.specs.prepared_nests.Nests.{IsPrepared}
use Rattle.pass_laws.specs.prepared_nests.Statements.{made_names}
use Rattle.scalar_rename.specs.Ranges.{HaveFewRanges}
use Rattle.tree.specs.Names.{IsSourceName}
use Rattle.tree.specs.Plain.{Declaration, Extent, Given, Program}
use Rattle.tree.specs.declared.ops.Kind.TheVariants.{Logical}
use Rattle.scalar_expand.specs.Expanded.{array_of, expanded, is_mask, made_before, made_now, named_private}
use Rattle.scalar_expand.specs.Privates.{is_source, made_kind, private_scalars}
use Rattle.scalar_expand.specs.Stores.{arrays}
use Rattle.scalar_expand.specs.declared.privates.Private.{Private}
use Rattle.scalar_expand.proofs.Changes.{array_in, found as private_found}
use Rattle.prepared_passes.specs.expansion.Before.{before_expansion}
use Rattle.prepared_passes.specs.expansion.Found.{AreDeclaredAsMade, FoundNestIsExpandedInPlaces, IsFoundInPlaces}
use Rattle.prepared_passes.specs.expansion.Laws.{MayBeExpanded}
use Rattle.prepared_passes.specs.expansion.Places.{ArePlacesOf}
use Rattle.prepared_passes.specs.expansion.Prepared.{AreDeclaredFor}
use Rattle.prepared_passes.specs.expansion.Unexpanded.{IsUnexpandedIn, substituted, unexpanded, unexpanded_depth}
use Rattle.prepared_passes.specs.renaming.Renamed.{AreNamesDeclared}
use Rattle.prepared_passes.proofs.ExpandedNests.FoundMade.{are_scalars, made_no_source, mask_made, may_be_expanded, no_extents, one_loop, prepared, range_made, same_masks}
use Rattle.prepared_passes.proofs.ExpandedNests.MadeArrays.{made_are, made_of, made_or_not, mask_made as private_mask, mask_no_source, now_made, stays_made}
use Rattle.prepared_passes.proofs.ExpandedNests.Names.{Named-so, array_is, found_kind, is_source_name, named_is, source_is, start}
use Rattle.prepared_passes.proofs.ExpandedNests.Prepared.{expanded_nest_is_prepared}
use Rattle.prepared_passes.proofs.ExpandedNests.Renaming.{are_three, one_named, with_three}
use Rattle.prepared_passes.proofs.ExpandedNests.Scalars.{add_made_names, as_scalar, changed, counter_then, declared_then, is_named, is_other}
use Rattle.prepared_passes.proofs.ExpandedNests.Sameness.{few_before}
use Rattle.prepared_passes.proofs.ExpandedNests.Unexpanded.{is_unexpanded}

some_same : (d e : Declaration) → Some d ≡ Some e → d ≡ e
some_same d e f = cc

-- a declaration that isn't changed, and one of which all that is known is what it became
was_other : (xs : List (List ℕ)) (es : List Declaration) (x : List ℕ) (d : Declaration) → ¬ In x xs → option_map (changed xs) (declared es x) ≡ Some d → declared es x ≡ Some d
was_other xs es x d other e = by (declared es x) refl e
  where
    by : (o : Option Declaration) → declared es x ≡ o → option_map (changed xs) o ≡ Some d → o ≡ Some d
    by None f g = cc
    by (Some c) f g =
        let name = (found es x c f).name in
        let same : changed xs c ≡ d = some_same (changed xs c) d g in
        ap Some (sym (is_other xs c (λ i. other (subst (λ y. In y xs) name i))) ∙ same)

no_change : (xs : List (List ℕ)) (o : Option Declaration) → option_map (changed xs) o ≡ None → o ≡ None
no_change xs None e = refl
no_change xs (Some d) e = cc

module _ (width : Width) (p a : Program) (n m masked k : Nest) (masks : ℕ) (is : IsProgram77 (fortran77 width) p) (among : Contains (found_in p) (InNest n))
    (normal : normalised n ≡ Some m) (made : converted_nest masks m ≡ Some masked) (few : masked.masks ≤ 4294967296)
    (anew : k ≡ unexpanded m masked) (ranges_few : HaveFewRanges (substituted m masked)) (add : AddMadeNames p.declarations a.declarations)
    (counters : All (λ (l : Loop). IsSomeAnd (declared a.declarations l.variable) IsCounter) (nest_loops m)) (made_so : AreDeclaredAsMade a (expanded k)) where
  abbrev ps : List Private
  ps = private_scalars k

  -- declarations by which it is prepared
  abbrev ds : List Declaration
  ds = with_three width p n m masked masks is among normal made few ranges_few

  abbrev outside : List (List ℕ)
  outside = (stands width p n m masked masks is among normal made few).round.variables

  h : IsPrepared ds outside unexpanded_depth k
  h = prepared width p n m masked k masks is among normal made few anew ranges_few

  may : MayBeExpanded ds k
  may = may_be_expanded width p n m masked k masks is among normal made few anew ranges_few ds (are_three width p n m masked masks is among normal made few ranges_few).more

  -- those before expansion
  abbrev before : List Declaration
  before = map (changed (made_names k)) a.declarations

  add_before : AddMadeNames p.declarations before
  add_before =
      add_made_names (made_names k) p.declarations a.declarations (made_no_source width p n m masked k masks is among normal made few anew ranges_few)
      (own_source width p n m masked masks is among normal made few) add

  counters_before : All (λ (l : Loop). IsSomeAnd (declared before l.variable) IsCounter) (nest_loops m)
  counters_before =
      All-weaker (λ (l : Loop). IsSomeAnd (declared a.declarations l.variable) IsCounter) (λ (l : Loop). IsSomeAnd (declared before l.variable) IsCounter)
      (λ l c. counter_then (made_names k) a.declarations l.variable c) (nest_loops m) counters

  -- ---- what is made for the expanded nest is declared

  abbrev as_made : Made → Declaration
  as_made x = record { name = x.name; kind = x.kind; extent = extent_for x.extents }

  declared_so : (x : Made) → In x (expanded k).made → declared a.declarations x.name ≡ Some (as_made x)
  declared_so x i = made_so x (In-Contains x (expanded k).made i)

  among_before : (x : Made) → In x (made_before k.symbols ps k.made) → In x (expanded k).made
  among_before x i = subst (λ (ms : List Made). In x ms) (sym (made_are k)) (In-left x (made_before k.symbols ps k.made) (made_now k.symbols ps) i)

  among_now : (x : Made) → In x (made_now k.symbols ps) → In x (expanded k).made
  among_now x i = subst (λ (ms : List Made). In x ms) (sym (made_are k)) (In-right x (made_before k.symbols ps k.made) (made_now k.symbols ps) i)

  -- what is private and no scalar of the source was made
  record IsMaskOf (q : Private) : Type 0 where
    mask : Made
    inside : In mask k.made
    name : mask.name ≡ q.name
    kind : mask.kind ≡ q.kind

  mask_of : (q : Private) → In q ps → is_source q.name ≡ false → IsMaskOf q
  mask_of q i none = by (found_kind k.declarations (made_kind k.made q.name) q.name q.kind (start ds outside unexpanded_depth k h may q i).kind)
    where
      by : ((d : Declaration) × (declared k.declarations q.name ≡ Some d) × (d.extent ≡ Given [])) ⊎ ((declared k.declarations q.name ≡ None) × (made_kind k.made q.name ≡ Some q.kind)) → IsMaskOf q
      by (inl r) = let bad : true ≡ false = sym (source_is q.name (may.source q.name r.0 r.1)) ∙ none in cc
      by (inr r) =
          let o = made_of k.made q.name q.kind r.1 in
          record { mask = o.made; inside = o.inside; name = o.name; kind = o.kind }

  array_there : (q : Private) → In q ps → In (array_of k.symbols q) (expanded k).made
  array_there q i = by (is_mask q.name) refl
    where
      no_source : is_mask q.name ≡ true → (b : Bool) → is_source q.name ≡ b → is_source q.name ≡ false
      no_source e true f = absurd (mask_no_source q.name e (is_source_name q.name f))
      no_source e false f = f

      by : (b : Bool) → is_mask q.name ≡ b → In (array_of k.symbols q) (expanded k).made
      by true e =
          let o = mask_of q i (no_source e (is_source q.name) refl) in
          among_before (array_of k.symbols q)
          (private_mask k.symbols ps k.made o.mask q o.inside (ap is_mask o.name ∙ e) (ap (named_private ps) o.name ∙ named_is ds outside unexpanded_depth k h may q i))
      by false e = among_now (array_of k.symbols q) (now_made k.symbols ps ps q i e)

  -- its array has its name and its kind
  array_of_made : (x : Made) → In x k.made → (q : Private) → named_private ps x.name ≡ Some q → (q.array ≡ x.name) × (q.kind ≡ x.kind)
  array_of_made x i q e =
      let f = private_found ps x.name q e in
      by f.1 (array_is ds outside unexpanded_depth k h may q f.0) (mask_of q f.0)
    where
      by : q.name ≡ x.name → Named-so ds outside unexpanded_depth k h may q → (is_source q.name ≡ false → IsMaskOf q) → (q.array ≡ x.name) × (q.kind ≡ x.kind)
      by f (inl (s, g)) r = absurd (made_no_source width p n m masked k masks is among normal made few anew ranges_few x.name (map-In (λ (y : Made). y.name) x k.made i) (subst IsSourceName f s))
      by f (inr (s, g)) r =
          let o = r s in
          let same : o.mask ≡ x = one_named k.made h.parts.made_once o.mask x o.inside i (o.name ∙ f) in
          (g ∙ f, sym o.kind ∙ ap (λ (y : Made). y.kind) same)

  -- ---- before expansion they are scalars

  abbrev IsThere : Made → Type 0
  IsThere x = (d : Declaration) × (declared a.declarations x.name ≡ Some d) × (d.name ≡ x.name) × (d.kind ≡ x.kind)

  made_declared : (x : Made) → In x k.made → IsThere x
  made_declared x i = by (named_private ps x.name) refl
    where
      by : (o : Option Private) → named_private ps x.name ≡ o → IsThere x
      by None e = (as_made x, declared_so x (among_before x (stays_made k.symbols ps k.made x i e)), refl, refl)
      by (Some q) e =
          let f = private_found ps x.name q e in
          let r = array_of_made x i q e in
          (as_made (array_of k.symbols q), ap (declared a.declarations) (sym r.0) ∙ declared_so (array_of k.symbols q) (array_there q f.0), r.0, r.1)

  scalar_before : (x : List ℕ) (d : Declaration) → In x (made_names k) → declared a.declarations x ≡ Some d → d.name ≡ x → declared before x ≡ Some (as_scalar d)
  scalar_before x d i e name =
      declared_then (made_names k) a.declarations x
      ∙ (ap (option_map (changed (made_names k))) e ∙ ap Some (is_named (made_names k) d (subst (λ y. In y (made_names k)) (sym name) i)))

  scalar_there : (x : Made) → In x k.made → IsSomeAnd (declared before x.name) (λ (d : Declaration). (d.kind ≡ x.kind) × (d.extent ≡ Given []))
  scalar_there x i =
      let r = made_declared x i in
      subst (λ (o : Option Declaration). IsSomeAnd o (λ (d : Declaration). (d.kind ≡ x.kind) × (d.extent ≡ Given [])))
      (sym (scalar_before x.name r.0 (map-In (λ (y : Made). y.name) x k.made i) r.1 r.2)) (r.3, refl)

  masks_before : (j : ℕ) → masks ≤ j → j < k.masks → IsSomeAnd (declared before (mask_name j)) IsMask
  masks_before j low high = by (declared before (mask_name j)) (scalar_there (made_mask j) (mask_made width p n m masked k masks is among normal made few anew ranges_few j low high))
    where
      by : (o : Option Declaration) → IsSomeAnd o (λ (d : Declaration). (d.kind ≡ Logical) × (d.extent ≡ Given [])) → IsSomeAnd o IsMask
      by None g = absurd g
      by (Some d) g = record { kind = g.0; extent = g.1 }

  -- as they are of the nest with masks
  masks_first : (j : ℕ) → masks ≤ j → j < masked.masks → IsSomeAnd (declared before (mask_name j)) IsMask
  masks_first j low high =
      masks_before j low (subst (λ (i : ℕ). j < i) (sym (same_masks width p n m masked k masks is among normal made few anew ranges_few)) high)

  names_before : AreNamesDeclared before (substituted m masked)
  names_before x i = scalar_there x (range_made width p n m masked k masks is among normal made few anew ranges_few x i)

  -- ---- both have the same names but for these

  other_before : (x : List ℕ) (d : Declaration) → ¬ In x (made_names k) → declared before x ≡ Some d → declared a.declarations x ≡ Some d
  other_before x d other e = was_other (made_names k) a.declarations x d other (sym (declared_then (made_names k) a.declarations x) ∙ e)

  kept : (x : List ℕ) (d : Declaration) → ¬ In x (arrays ps) → declared before x ≡ Some d → declared a.declarations x ≡ Some d
  kept x d none e = by (made_or_not k.made x)
    where
      there : (y : Made) → In y k.made → y.name ≡ x → (o : Option Private) → named_private ps y.name ≡ o → declared a.declarations x ≡ Some d
      there y i f (Some q) g =
          let r = array_of_made y i q g in
          absurd (none (subst (λ z. In z (arrays ps)) (r.0 ∙ f) (array_in ps q (private_found ps y.name q g).0)))
      there y i f None g =
          let is_so : declared a.declarations y.name ≡ Some (as_made y) = declared_so y (among_before y (stays_made k.symbols ps k.made y i g)) in
          let scalar : as_scalar (as_made y) ≡ as_made y
          = ap (λ (e : Extent). let d : Declaration = record { name = y.name; kind = y.kind; extent = e } in d)
          (sym (ap extent_for (no_extents width p n m masked k masks is among normal made few anew ranges_few y i))) in
          let then = scalar_before y.name (as_made y) (map-In (λ (z : Made). z.name) y k.made i) is_so refl in
          let same : d ≡ as_made y = some_same d (as_made y) (sym e ∙ (ap (declared before) (sym f) ∙ (then ∙ ap Some scalar))) in
          ap (declared a.declarations) (sym f) ∙ (is_so ∙ ap Some (sym same))

      by : ((y : Made) × In y k.made × (y.name ≡ x)) ⊎ ((y : Made) → In y k.made → ¬ (y.name ≡ x)) → declared a.declarations x ≡ Some d
      by (inl r) = there r.0 r.1 r.2 (named_private ps r.0.name) refl
      by (inr other) = other_before x d (λ i. (let o = In-map (λ (z : Made). z.name) x k.made i in other o.it o.inside (sym o.is))) e

  declared_for : AreDeclaredFor before a.declarations k
  declared_for = record {
    kept = kept;
    free = λ x plain e. no_change (made_names k) (declared a.declarations x) (sym (declared_then (made_names k) a.declarations x) ∙ e);
    arrays = λ q i. subst (λ (o : Option Declaration). IsSomeAnd o (λ (d : Declaration). (d.kind ≡ q.kind) × (d.extent ≡ extent_for (array_of k.symbols q).extents))) (sym (declared_so (array_of k.symbols q) (array_there q i))) (refl, refl);
  }

  source_names : (x : List ℕ) → Contains (names_of p) x → IsSourceName x
  source_names x c =
      let o = of_map (λ (d : Declaration). d.name) p.declarations x c in
      subst IsSourceName o.2 (own_source width p n m masked masks is among normal made few o.0 o.1)

  places : ArePlacesOf p (before_expansion a k) a k
  places = record {
    source = source_names;
    before = add_before;
    behind = add;
    alike = λ x d e none. other_before x d (λ i. none (In-Contains x (made_names k) i)) e;
  }

  -- ---- in its places

  module _ (w : Surroundings) (found_nest : IsFoundNest p n) (number : n.number < 2 ^ 32) (round : All IsSourceName w.variables) (stated : IsStatement p.declarations (as_statement found_nest.loop.loop.loop) w) where
    there : IsUnexpandedIn width p (before_expansion a k) m masked k w.variables
    there =
        is_unexpanded width p (before_expansion a k) n m masked k (with_counters width p n m masked masks is among normal made few) masks w found_nest is among normal made anew ranges_few few
        (are_counters width p n m masked masks is among normal made few).more (no_mask width p n m masked masks is among normal made few)
        (counted_first width p n m masked masks is among normal made few) add_before masks_first counters_before names_before number round stated

    pub in_places : IsFoundInPlaces width p a m masked k masks w.variables
    in_places = record {
      counters = counters_before;
      masks = masks_before;
      names = names_before;
      goes_on = there.goes_on;
      places = record {
        places = places;
        loop = (one_loop width p n m masked k masks is among normal made few anew ranges_few).loop;
        body = (one_loop width p n m masked k masks is among normal made few anew ranges_few).body;
        turns = (one_loop width p n m masked k masks is among normal made few anew ranges_few).is_loop;
        before = there.prepared;
        behind = expanded_nest_is_prepared before a.declarations w.variables unexpanded_depth k (one_loop width p n m masked k masks is among normal made few anew ranges_few).loop (one_loop width p n m masked k masks is among normal made few anew ranges_few).body there.prepared (one_loop width p n m masked k masks is among normal made few anew ranges_few).is_loop there.may there.free declared_for (omega arith);
        may = there.may;
        free = there.free;
        scalars = are_scalars width p n m masked k masks is among normal made few anew ranges_few;
      };
    }

pub found_nest_is_expanded_in_places : (width : Width) → FoundNestIsExpandedInPlaces width
found_nest_is_expanded_in_places width p a n m masked k masks w found_nest is among normal made anew ranges_few few add counters made_so number round stated =
    in_places width p a n m masked k masks is among normal made (few_before m masked k anew few) anew ranges_few add counters made_so w found_nest number round stated
