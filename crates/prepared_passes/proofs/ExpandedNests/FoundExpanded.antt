-- The names of what passes made, and that there are declarations by which the expanded nest of one that was found is
-- prepared: those of the program with the counters of its loops and with what passes made.
use Rattle.std.proofs.Common.{◌≡◌, ◌⊎◌, inl, inr, refl, sym, ap, ◌∙◌, subst, ℕ, ◌-◌, ◌≤◌, true, false, codes, Contains, List, [], ◌∷◌, ◌++◌, map, length, length-append, Some, None, All, arith}
use Rattle.std.specs.List.{list_all}
use Rattle.std.specs.Option.{IsSomeAnd}
use Rattle.std.proofs.lemmas.List.{length-map, length-reverse}
use Rattle.std.proofs.lemmas.List.Elements.{Contains-append_cases, Contains-append_left, Contains-append_right}
use Rattle.std.proofs.lemmas.List.Folds.{list_all-append}
use Rattle.components.specs.Lists.{Distinct}
use Rattle.prepared_passes.proofs.ConvertedNests.Declaring.{AgreeOnNames, AreWith, IsMadeDeclaration, made_names as with_made_names, scalar_of, with_declarations}
use Rattle.prepared_passes.proofs.ConvertedNests.FoundDeclared.{counter_in, counters, counts, here, number, numbered, own_are, own_source, stands}
use Rattle.prepared_passes.proofs.ConvertedNests.MadeNames.{a_counter, agree, apart as counter_apart_mask, both_true, counter_of, counter_or_mask, is_made, mask_below, masks_below, of_counter, stands_in_name}
use Rattle.find_nests.specs.Found.{InNest, found_in}
use Rattle.if_convert.specs.Converted.{converted_nest}
use Rattle.if_convert.specs.Masks.{mask_name}
use Rattle.meaning.specs.Dialect.{fortran77}
use Rattle.tree.specs.declared.width.Width.{Width}
use Rattle.meaning.specs.Profile77.{IsProgram77}
use Rattle.meaning.specs.Profile90.{IsDeclaration, IsExtent}
use Rattle.meaning.specs.SymbolicNames.{IsLongName}
use Rattle.meaning.specs.Typed.{declared, dimensions}
use Rattle.meaning_laws.proofs.arrays.Members.{each_member, in_map, of_map}
use Rattle.meaning_laws.proofs.profiles.Lists.{all_at}
use Rattle.meaning_laws.proofs.profiles.Names.{found}
use Rattle.nest.specs.Bodies.{nest_loops}
use Rattle.nest.specs.Plain.{Loop, Made, Nest}
use Rattle.nest_order.proofs.orders.Membership.{map-In}
use Rattle.nest_order.specs.orders.Lists.{In}
use Rattle.normal_loops.specs.Normalised.{normalised}
use Rattle.pass_laws.specs.normal_facts.Laws.{IsCounter}
use Rattle.pass_laws.proofs.PreparedNests.Lists.{Contains-In, within_32}
use Rattle.pass_laws.specs.prepared_nests.Made.{extent_for}
use Rattle.pass_laws.specs.prepared_nests.Nests.{IsPrepared}
use Rattle.scalar_rename.specs.Ranges.{HaveFewRanges, range_name}
use Rattle.tree.specs.Names.{IsSourceName}
use Rattle.tree.specs.Plain.{Declaration, Expression, Extent, Given, Program}
use Rattle.tree.specs.declared.ops.Kind.TheVariants.{Logical}
use Rattle.scalar_expand.specs.Expanded.{array_of, expanded, named_private}
use Rattle.scalar_expand.specs.Privates.{expanded_name, made_kind, number_behind, private_scalars}
use Rattle.scalar_expand.specs.Texts.{extent_texts}
use Rattle.scalar_expand.specs.declared.privates.Private.{Private}
use Rattle.scalar_expand.specs.declared.privates.RoundLoop.{RoundLoop}
use Rattle.scalar_expand.proofs.Changes.{found as private_found}
use Rattle.prepared_passes.specs.expansion.Found.{FoundNestHasExpandedDeclarations, FoundNestHasMadeNames, FoundNestHasNoPrivateScalars, HasExpandedDeclarations, IsArrayOfNest, IsMaskOfNest, IsRangeOfNest}
use Rattle.prepared_passes.specs.expansion.Unexpanded.{substituted, unexpanded, unexpanded_depth}
use Rattle.prepared_passes.specs.renaming.Renamed.{names_made}
use Rattle.prepared_passes.specs.expansion.Laws.{MayBeExpanded}
use Rattle.prepared_passes.proofs.ExpandedNests.ExtentForms.{found_extents}
use Rattle.prepared_passes.proofs.ExpandedNests.Found.{in_places}
use Rattle.prepared_passes.proofs.ExpandedNests.FoundMade.{IsOneOf, array_named, made_is_one, made_no_source, may_be_expanded, no_extents, one_loop, prepared, rise, same_declarations, same_masks, same_number}
use Rattle.prepared_passes.proofs.ExpandedNests.Left.{expanded_nest_has_no_private_scalars}
use Rattle.prepared_passes.proofs.ExpandedNests.Made.{all_once}
use Rattle.prepared_passes.proofs.ExpandedNests.MadeArrays.{IsOfPrivate, made_are, made_is, made_of}
use Rattle.prepared_passes.proofs.ExpandedNests.Names.{Named-so, array_is, array_long, found_kind, fourth, fourth_loop, source_is, start}
use Rattle.prepared_passes.proofs.ExpandedNests.RangeNames.{begins_right, short_behind}
use Rattle.prepared_passes.proofs.ExpandedNests.Renaming.{are_three, as_scalar_made, few_ranges, fourth_letter, name_is, one_named, range_is_made, range_of, scalar_is, sub_number, with_three}
use Rattle.prepared_passes.proofs.ExpandedNests.Sameness.{few_before}
use Rattle.prepared_passes.proofs.ExpandedNests.Round.{array_no_counter, as_many_loops, as_many_texts}

-- ---- names of arrays

array_is_name : (x : List ℕ) (n : ℕ) → IsSourceName x → list_all stands_in_name x ≡ true → n ≤ 4294967295 → IsLongName ((codes "FV_EXP_" ++ x) ++ number_behind n)
array_is_name x n s stands h = record {
  begins = refl;
  goes_on =
      list_all-append stands_in_name (codes "FV_EXP_" ++ x) (number_behind n)
      ∙ both_true (list_all stands_in_name (codes "FV_EXP_" ++ x)) (list_all stands_in_name (number_behind n))
      (list_all-append stands_in_name (codes "FV_EXP_") x ∙ both_true (list_all stands_in_name (codes "FV_EXP_")) (list_all stands_in_name x) refl stands) (begins_right n h);
  within =
      let short = s.within in
      let last = short_behind n h in
      let all = length-append (codes "FV_EXP_" ++ x) (number_behind n) in
      let front = length-append (codes "FV_EXP_") x in
      let seven : length (codes "FV_EXP_") ≡ 7 = refl in
      omega (arith, short, last, all, front, seven);
}

-- ---- extents

extent_is : (es : List Expression) → length es ≤ 7 → IsExtent (extent_for es)
extent_is [] h = (omega arith, tt)
extent_is (e ∷ es) h = (omega arith, omega (arith, h))

extent_later : (es : List Expression) → dimensions (extent_for es) ≡ []
extent_later [] = refl
extent_later (e ∷ es) = refl

-- ---- the nest

abbrev as_made : Made → Declaration
as_made x = record { name = x.name; kind = x.kind; extent = extent_for x.extents }

module _ (width : Width) (p : Program) (n m masked k : Nest) (masks : ℕ) (is : IsProgram77 (fortran77 width) p) (among : Contains (found_in p) (InNest n))
    (normal : normalised n ≡ Some m) (made : converted_nest masks m ≡ Some masked) (few : masked.masks ≤ 4294967296)
    (anew : k ≡ unexpanded m masked) (ranges_few : HaveFewRanges (substituted m masked)) where
  abbrev ps : List Private
  ps = private_scalars k

  abbrev ds : List Declaration
  ds = with_three width p n m masked masks is among normal made few ranges_few

  abbrev outside : List (List ℕ)
  outside = (stands width p n m masked masks is among normal made few).round.variables

  h : IsPrepared ds outside unexpanded_depth k
  h = prepared width p n m masked k masks is among normal made few anew ranges_few

  may : MayBeExpanded ds k
  may = may_be_expanded width p n m masked k masks is among normal made few anew ranges_few ds (are_three width p n m masked masks is among normal made few ranges_few).more

  -- ---- what is declared

  abbrev counted : List Declaration
  counted = counters width p n m masked masks is among normal made few

  abbrev arrays : List Declaration
  arrays = map as_made (expanded k).made

  abbrev new : List Declaration
  new = counted ++ arrays

  -- an array of a private scalar, or a mask that stays
  abbrev Stays : Made → Type 0
  Stays x = (In x k.made × (named_private ps x.name ≡ None)) ⊎ IsOfPrivate k.symbols ps x

  stays : (x : Made) → In x (expanded k).made → Stays x
  stays x i = made_is k.symbols ps (λ y q e. (private_found ps y q e).0) k.made x (subst (λ (ms : List Made). In x ms) (made_are k) i)

  as_scalar_is : (x : Made) → x.extents ≡ [] → as_scalar_made x ≡ as_made x
  as_scalar_is x e = ap (λ (y : Extent). let d : Declaration = record { name = x.name; kind = x.kind; extent = y } in d) (sym (ap extent_for e))

  scalar_is_made : (x : Made) → In x k.made → IsMadeDeclaration (as_made x)
  scalar_is_made x i = by (made_is_one width p n m masked k masks is among normal made few anew ranges_few x i)
    where
      by : IsOneOf width masks (k.masks - masks) x ⊎ In x (names_made (substituted m masked)) → IsMadeDeclaration (as_made x)
      by (inl o) =
          let up = rise width p n m masked k masks is among normal made few anew ranges_few in
          let as_many = same_masks width p n m masked k masks is among normal made few anew ranges_few in
          let below = o.below in
          let d = scalar_of Logical (mask_name o.number) in
          subst (λ (z : Made). IsMadeDeclaration (as_made z)) (sym o.is)
          (is_made d (counter_or_mask (nest_loops m) (numbered width p n m masked masks is among normal made few) masked.masks few d
          (Contains-append_right counted (masks_below masked.masks) d (mask_below masked.masks o.number (omega (arith, up, below, as_many))))))
      by (inr r) =
          subst IsMadeDeclaration (as_scalar_is x (no_extents width p n m masked k masks is among normal made few anew ranges_few x i))
          (range_is_made width p n m masked masks is among normal made few ranges_few x r)

  -- its name, where the program has the scalar
  long_name : (q : Private) → In q ps → IsSourceName q.name → list_all stands_in_name q.name ≡ true
  long_name q i s = by (found_kind k.declarations (made_kind k.made q.name) q.name q.kind (start ds outside unexpanded_depth k h may q i).kind)
    where
      by : ((d : Declaration) × (declared k.declarations q.name ≡ Some d) × (d.extent ≡ Given [])) ⊎ ((declared k.declarations q.name ≡ None) × (made_kind k.made q.name ≡ Some q.kind)) → list_all stands_in_name q.name ≡ true
      by (inl r) =
          let f = found p.declarations q.name r.0 (subst (λ es. declared es q.name ≡ Some r.0) (same_declarations width p n m masked k masks is among normal made few anew ranges_few) r.1) in
          let d : IsDeclaration r.0 = all_at IsDeclaration p.declarations r.0 (own_are width p n m masked masks is among normal made few).each f.among in
          subst (λ x. list_all stands_in_name x ≡ true) f.name d.name.goes_on
      by (inr r) =
          let o = made_of k.made q.name q.kind r.1 in
          absurd (made_no_source width p n m masked k masks is among normal made few anew ranges_few q.name (subst (λ x. In x (map (λ (a : Made). a.name) k.made)) o.name (map-In (λ (a : Made). a.name) o.made k.made o.inside)) s)

  array_is_made : (q : Private) → In q ps → IsMadeDeclaration (as_made (array_of k.symbols q))
  array_is_made q i = by (array_is ds outside unexpanded_depth k h may q i)
    where
      few_texts : length (array_of k.symbols q).extents ≤ 7
      few_texts =
          let most = (found_extents ds outside unexpanded_depth k h may q i).few in
          let trips = length-map q.loops (λ (l : RoundLoop). l.trip) in
          let many = as_many_loops ds outside unexpanded_depth k h may q i in
          let texts = as_many_texts k.symbols [] q.extents in
          let turned = length-reverse (extent_texts k.symbols q.extents) in
          omega (arith, most, trips, many, texts, turned)

      declaration : IsLongName q.array → ¬ IsSourceName q.array → IsMadeDeclaration (as_made (array_of k.symbols q))
      declaration name none = record {
        declaration = record { name = name; extent = extent_is (array_of k.symbols q).extents few_texts };
        made = none;
        later = extent_later (array_of k.symbols q).extents;
      }

      number_within : k.number ≤ 4294967295
      number_within = within_32 k.number h.parts.number

      by : Named-so ds outside unexpanded_depth k h may q → IsMadeDeclaration (as_made (array_of k.symbols q))
      by (inl (s, e)) =
          declaration (subst IsLongName (sym e) (array_is_name q.name k.number s (long_name q i s) number_within)) (λ t. array_long q.name k.number (subst IsSourceName e t))
      by (inr (none, e)) = of (found_kind k.declarations (made_kind k.made q.name) q.name q.kind (start ds outside unexpanded_depth k h may q i).kind)
        where
          of : ((d : Declaration) × (declared k.declarations q.name ≡ Some d) × (d.extent ≡ Given [])) ⊎ ((declared k.declarations q.name ≡ None) × (made_kind k.made q.name ≡ Some q.kind)) → IsMadeDeclaration (as_made (array_of k.symbols q))
          of (inl r) = let bad : true ≡ false = sym (source_is q.name (may.source q.name r.0 r.1)) ∙ none in cc
          of (inr r) =
              let o = made_of k.made q.name q.kind r.1 in
              let d = scalar_is_made o.made o.inside in
              declaration (subst IsLongName (o.name ∙ sym e) d.declaration.name) (λ t. d.made (subst IsSourceName (e ∙ sym o.name) t))

  pub made_is_made : (x : Made) → In x (expanded k).made → IsMadeDeclaration (as_made x)
  made_is_made x i = by (stays x i)
    where
      by : Stays x → IsMadeDeclaration (as_made x)
      by (inl r) = scalar_is_made x r.0
      by (inr r) = subst (λ (z : Made). IsMadeDeclaration (as_made z)) (sym r.2) (array_is_made r.0 r.1)

  abbrev IsNamedOfNest : Made → Type 0
  IsNamedOfNest x = IsMaskOfNest k masks x ⊎ (IsArrayOfNest n x ⊎ IsRangeOfNest n x)

  pub named_so : (x : Made) → In x (expanded k).made → IsMaskOfNest k masks x ⊎ (IsArrayOfNest n x ⊎ IsRangeOfNest n x)
  named_so x i = by (stays x i)
    where
      of_scalar : (y : Made) → In y k.made → x.name ≡ y.name → x.kind ≡ y.kind → IsNamedOfNest x
      of_scalar y j name kind = of (made_is_one width p n m masked k masks is among normal made few anew ranges_few y j)
        where
          of : IsOneOf width masks (k.masks - masks) y ⊎ In y (names_made (substituted m masked)) → IsNamedOfNest x
          of (inl o) =
              let up = rise width p n m masked k masks is among normal made few anew ranges_few in
              let below = o.below in
              inl (record {
                number = o.number;
                from = o.from;
                below = omega (arith, up, below);
                name = name ∙ ap (λ (z : Made). z.name) o.is;
                kind = kind ∙ ap (λ (z : Made). z.kind) o.is;
              })
          of (inr r) =
              let q = range_of width p n m masked masks is among normal made few y r in
              let below = q.below in
              let most = few_ranges width p n m masked masks is among normal made few ranges_few q.web q.inside in
              inr (inr (record {
                scalar = q.web.name;
                source = scalar_is width p n m masked masks is among normal made few q.web q.inside;
                range = q.range;
                few = omega (arith, below, most);
                name = name ∙ (name_is width p n m masked masks is among normal made few y r ∙ ap (λ c. range_name c q.web.name q.range) (sub_number width p n m masked masks is among normal made few));
              }))

      of_array : (q : Private) → In q ps → x ≡ array_of k.symbols q → Named-so ds outside unexpanded_depth k h may q → IsNamedOfNest x
      of_array q j e (inl (s, f)) = inr (inl (record {
        scalar = q.name;
        source = s;
        name = ap (λ (z : Made). z.name) e ∙ (array_named k q j ∙ ap (λ c. expanded_name c q.name) (same_number width p n m masked k masks is among normal made few anew ranges_few));
      }))
      of_array q j e (inr (none, f)) = of (found_kind k.declarations (made_kind k.made q.name) q.name q.kind (start ds outside unexpanded_depth k h may q j).kind)
        where
          of : ((d : Declaration) × (declared k.declarations q.name ≡ Some d) × (d.extent ≡ Given [])) ⊎ ((declared k.declarations q.name ≡ None) × (made_kind k.made q.name ≡ Some q.kind)) → IsNamedOfNest x
          of (inl r) = let bad : true ≡ false = sym (source_is q.name (may.source q.name r.0 r.1)) ∙ none in cc
          of (inr r) =
              let o = made_of k.made q.name q.kind r.1 in
              of_scalar o.made o.inside (ap (λ (z : Made). z.name) e ∙ (f ∙ sym o.name)) (ap (λ (z : Made). z.kind) e ∙ sym o.kind)

      by : Stays x → IsNamedOfNest x
      by (inl r) = of_scalar x r.0 refl refl
      by (inr r) = of_array r.0 r.1 r.2 (array_is ds outside unexpanded_depth k h may r.0 r.1)

  -- ---- they are declared together

  counter_is : (e : Declaration) → Contains counted e → IsMadeDeclaration e
  counter_is e c = is_made e (a_counter (nest_loops m) (numbered width p n m masked masks is among normal made few) masked.masks few e c)

  each_made : (e : Declaration) → Contains new e → IsMadeDeclaration e
  each_made e c = by (Contains-append_cases counted arrays e c)
    where
      by : Contains counted e ⊎ Contains arrays e → IsMadeDeclaration e
      by (inl i) = counter_is e i
      by (inr i) = let o = of_map as_made (expanded k).made e i in subst IsMadeDeclaration o.2 (made_is_made o.0 (Contains-In o.0 (expanded k).made o.1))

  -- what is made counts no loop
  counts_none : (d : Declaration) (x : Made) → Contains counted d → In x (expanded k).made → ¬ (d.name ≡ x.name)
  counts_none d x c i e = by (stays x i)
    where
      of_scalar : IsOneOf width masks (k.masks - masks) x ⊎ In x (names_made (substituted m masked)) → ⊥
      of_scalar (inl one) =
          let o = of_counter (nest_loops m) (numbered width p n m masked masks is among normal made few) d c in
          counter_apart_mask o.numbered.number one.number (o.numbered.is ∙ (e ∙ ap (λ (z : Made). z.name) one.is))
      of_scalar (inr r) =
          let o = of_counter (nest_loops m) (numbered width p n m masked masks is among normal made few) d c in
          let bad : 78 ≡ 76 = sym (fourth_letter width p n m masked masks is among normal made few x r) ∙ (ap fourth (sym e ∙ sym o.numbered.is) ∙ fourth_loop o.numbered.number) in
          absurd (omega (arith, bad))

      by : Stays x → ⊥
      by (inl r) = of_scalar (made_is_one width p n m masked k masks is among normal made few anew ranges_few x r.0)
      by (inr r) =
          let o = of_counter (nest_loops m) (numbered width p n m masked masks is among normal made few) d c in
          array_no_counter ds outside unexpanded_depth k h may r.0 r.1 o.numbered.number (sym (ap (λ (z : Made). z.name) r.2) ∙ (sym e ∙ sym o.numbered.is))

  pub once : Distinct (map (λ (a : Made). a.name) (expanded k).made)
  once = subst (λ (ms : List Made). Distinct (map (λ (a : Made). a.name) ms)) (sym (made_are k)) (all_once ds outside unexpanded_depth k h may)

  alone : AgreeOnNames new new
  alone d e c i same = by (Contains-append_cases counted arrays d c) (Contains-append_cases counted arrays e i)
    where
      by : Contains counted d ⊎ Contains arrays d → Contains counted e ⊎ Contains arrays e → d ≡ e
      by (inl f) (inl g) =
          agree d e (a_counter (nest_loops m) (numbered width p n m masked masks is among normal made few) masked.masks few d f)
          (a_counter (nest_loops m) (numbered width p n m masked masks is among normal made few) masked.masks few e g) same
      by (inl f) (inr g) =
          let o = of_map as_made (expanded k).made e g in
          absurd (counts_none d o.0 f (Contains-In o.0 (expanded k).made o.1) (same ∙ sym (ap (λ (z : Declaration). z.name) o.2)))
      by (inr f) (inl g) =
          let o = of_map as_made (expanded k).made d f in
          absurd (counts_none e o.0 g (Contains-In o.0 (expanded k).made o.1) (sym same ∙ sym (ap (λ (z : Declaration). z.name) o.2)))
      by (inr f) (inr g) =
          let a = of_map as_made (expanded k).made d f in
          let b = of_map as_made (expanded k).made e g in
          let name : a.0.name ≡ b.0.name = ap (λ (z : Declaration). z.name) a.2 ∙ (same ∙ sym (ap (λ (z : Declaration). z.name) b.2)) in
          sym a.2 ∙ (ap as_made (one_named (expanded k).made once a.0 b.0 (Contains-In a.0 (expanded k).made a.1) (Contains-In b.0 (expanded k).made b.1) name) ∙ b.2)

  abbrev all : List Declaration
  all = with_declarations p.declarations new

  are_all : AreWith p.declarations new all
  are_all =
      with_made_names p.declarations new (own_are width p n m masked masks is among normal made few) (each_member IsMadeDeclaration new each_made) alone
      (λ d e c i same. (each_made e i).made (subst IsSourceName same (own_source width p n m masked masks is among normal made few d c)))

  -- ---- the expanded nest

  counted_so : All (λ (l : Loop). IsSomeAnd (declared all l.variable) IsCounter) (nest_loops m)
  counted_so =
      each_member (λ (l : Loop). IsSomeAnd (declared all l.variable) IsCounter) (nest_loops m)
      (λ l c. counts width p n m masked masks is among normal made few all l (are_all.declared (counter_of l) (Contains-append_left counted arrays (counter_of l) (counter_in width p n m masked masks is among normal made few l c))))

  has : HasExpandedDeclarations k
  has =
      let s = stands width p n m masked masks is among normal made few in
      let f = in_places width p (record p { declarations = all }) n m masked k masks is among normal made few anew ranges_few are_all.more counted_so
      (λ x c. are_all.declared (as_made x) (Contains-append_right counted arrays (as_made x) (in_map as_made (expanded k).made x c))) s.round (here width p n m masked masks is among normal made few) (number width p n m masked masks is among normal made few) s.named s.is in
      record { declarations = all; around = s.round.variables; are = are_all.more.are; prepared = f.places.behind }

pub found_nest_has_expanded_declarations : (width : Width) → FoundNestHasExpandedDeclarations width
found_nest_has_expanded_declarations width p n m masked k masks is among normal made anew ranges_few few =
    has width p n m masked k masks is among normal made (few_before m masked k anew few) anew ranges_few

pub found_nest_has_made_names : (width : Width) → FoundNestHasMadeNames width
found_nest_has_made_names width p n m masked k masks is among normal made anew ranges_few few x c =
    named_so width p n m masked k masks is among normal made (few_before m masked k anew few) anew ranges_few x (Contains-In x (expanded k).made c)

pub found_nest_has_no_private_scalars : (width : Width) → FoundNestHasNoPrivateScalars width
found_nest_has_no_private_scalars width p n m masked k masks is among normal made anew ranges_few few =
    let least = few_before m masked k anew few in
    let o = one_loop width p n m masked k masks is among normal made least anew ranges_few in
    expanded_nest_has_no_private_scalars (ds width p n m masked k masks is among normal made least anew ranges_few) (outside width p n m masked k masks is among normal made least anew ranges_few) unexpanded_depth k o.loop o.body
    (h width p n m masked k masks is among normal made least anew ranges_few) o.is_loop (may width p n m masked k masks is among normal made least anew ranges_few)
