-- The normal form of a nest that is found is prepared, with masks, by declarations of its counters and masks among those
-- of the program.
use Rattle.std.proofs.Common.{◌≡◌, ◌⊎◌, inl, inr, refl, sym, subst, ◌∙◌, ℕ, ◌<◌, ◌≤◌, ◌^◌, Option, Some, None, List, ◌++◌}
use Rattle.std.proofs.Common.{All, Contains, arith}
use Rattle.std.specs.List.{AllByRecursion}
use Rattle.std.specs.Option.{IsSomeAnd}
use Rattle.std.proofs.lemmas.List.Elements.{Contains-append_left, Contains-append_right}
use Rattle.prepared_passes.proofs.ConvertedNests.Declaring.{AreWith, each_of, made_names, scalar_of, with_declarations}
use Rattle.prepared_passes.proofs.ConvertedNests.FoundConverted.{found_nest_is_converted}
use Rattle.prepared_passes.proofs.ConvertedNests.MadeNames.{IsMade, IsNumbered, a_counter, agree, apart, counter_of, counter_or_mask, counters_of}
use Rattle.prepared_passes.proofs.ConvertedNests.MadeNames.{is_made, mask_below, masks_below, of_counter, variables_numbered}
use Rattle.prepared_passes.proofs.ConvertedNests.Rounds.{Stands, loop_stands, nest_number}
use Rattle.prepared_passes.proofs.ConvertedNests.Walk.{mask_long}
use Rattle.prepared_passes.specs.conversion.Found.{FoundNestHasDeclarations, HasDeclarations}
use Rattle.prepared_passes.specs.conversion.Places.{IsMask}
use Rattle.find_nests.proofs.FoundLaws.{found_nest_is_loop}
use Rattle.find_nests.specs.Found.{InNest, found_in}
use Rattle.find_nests.specs.Laws.{IsFoundNest}
use Rattle.find_nests.specs.LookedAt.{looked_at}
use Rattle.if_convert.specs.Converted.{converted_nest}
use Rattle.if_convert.specs.Masks.{mask_name}
use Rattle.meaning.specs.Dialect.{fortran77}
use Rattle.tree.specs.declared.width.Width.{Width}
use Rattle.meaning.specs.Profile77.{IsDeclaration, IsProgram77}
use Rattle.meaning.specs.Profile90.{AreDeclarations}
use Rattle.meaning.specs.Typed.{declared}
use Rattle.meaning_laws.proofs.arrays.Members.{each_member, in_map}
use Rattle.meaning_laws.proofs.profiles.Lists.{all_at}
use Rattle.meaning_laws.proofs.profiles.Names.{found}
use Rattle.meaning_laws.proofs.profiles.Programs.{source_is_target}
use Rattle.meaning_laws.specs.profiles.Profiles.{AddMadeNames}
use Rattle.nest.specs.Bodies.{nest_loops}
use Rattle.nest.specs.Plain.{Loop, Nest}
use Rattle.normal_loops.specs.Normalised.{normalised}
use Rattle.pass_laws.specs.normal_facts.Laws.{IsCounter}
use Rattle.pass_laws.proofs.PreparedNests.Normal.SourceNames.{source_name}
use Rattle.pass_laws.specs.prepared_nests.Laws.{normal_depth}
use Rattle.pass_laws.specs.prepared_nests.Nests.{IsPrepared}
use Rattle.tree.specs.Names.{IsSourceName}
use Rattle.tree.specs.Plain.{Declaration, Program}
use Rattle.tree.specs.declared.ops.Kind.TheVariants.{Logical}
use Rattle.meaning.proofs.Widths.{widest}

module _ (width : Width) (p : Program) (n m k : Nest) (masks : ℕ) (is : IsProgram77 (fortran77 width) p) (among : Contains (found_in p) (InNest n))
    (normal : normalised n ≡ Some m) (made : converted_nest masks m ≡ Some k) (few : k.masks ≤ 4294967296) where
  pub own_are : AreDeclarations p.declarations
  own_are = (source_is_target (fortran77 width) p (widest width) is).declarations

  own : AddMadeNames p.declarations p.declarations
  own = record { kept = λ e c. c; made = λ e c. inl c; are = own_are }

  pub own_source : (e : Declaration) → Contains p.declarations e → IsSourceName e.name
  own_source e c = source_name e.name (all_at (IsDeclaration (fortran77 width)) p.declarations e is.declarations.each c).name

  pub numbered : AllByRecursion (λ (l : Loop). IsNumbered l.variable) (nest_loops m)
  numbered = variables_numbered width p p.declarations n m is own among normal

  -- ---- with the counters, and with the masks, too

  abbrev pub counters : List Declaration
  counters = counters_of (nest_loops m)

  abbrev pub both : List Declaration
  both = counters ++ masks_below k.masks

  abbrev pub with_counters : List Declaration
  with_counters = with_declarations p.declarations counters

  abbrev pub with_both : List Declaration
  with_both = with_declarations p.declarations both

  new : (d e : Declaration) → Contains p.declarations d → IsMade e → d.name ≡ e.name → ⊥
  new d e c i same = (is_made e i).made (subst IsSourceName same (own_source d c))

  pub are_counters : AreWith p.declarations counters with_counters
  are_counters =
      let one = a_counter (nest_loops m) numbered k.masks few in
      made_names p.declarations counters own_are (each_member _ counters (λ e c. is_made e (one e c)))
      (λ d e c i same. agree d e (one d c) (one e i) same) (λ d e c i same. new d e c (one e i) same)

  pub are_both : AreWith p.declarations both with_both
  are_both =
      let one = counter_or_mask (nest_loops m) numbered k.masks few in
      made_names p.declarations both own_are (each_member _ both (λ e c. is_made e (one e c)))
      (λ d e c i same. agree d e (one d c) (one e i) same) (λ d e c i same. new d e c (one e i) same)

  -- ---- how names are declared

  pub counter_in : (l : Loop) → Contains (nest_loops m) l → Contains counters (counter_of l)
  counter_in l c = in_map counter_of (nest_loops m) l c

  pub counts : (es : List Declaration) (l : Loop) → declared es l.variable ≡ Some (counter_of l)
      → IsSomeAnd (declared es l.variable) IsCounter
  counts es l e = subst (λ o. IsSomeAnd o IsCounter) (sym e) (record { kind = refl; scalar = refl })

  pub counted_first : All (λ (l : Loop). IsSomeAnd (declared with_counters l.variable) IsCounter) (nest_loops m)
  counted_first =
      each_member (λ (l : Loop). IsSomeAnd (declared with_counters l.variable) IsCounter) (nest_loops m)
      (λ l c. counts with_counters l (are_counters.declared (counter_of l) (counter_in l c)))

  pub counted_with_masks : All (λ (l : Loop). IsSomeAnd (declared with_both l.variable) IsCounter) (nest_loops m)
  counted_with_masks =
      each_member (λ (l : Loop). IsSomeAnd (declared with_both l.variable) IsCounter) (nest_loops m)
      (λ l c. counts with_both l
      (are_both.declared (counter_of l) (Contains-append_left counters (masks_below k.masks) (counter_of l) (counter_in l c))))

  pub no_mask : (i : ℕ) → declared with_counters (mask_name i) ≡ None
  no_mask i = by (declared with_counters (mask_name i)) refl
    where
      other : (d : Declaration) → d.name ≡ mask_name i → Contains p.declarations d ⊎ Contains counters d → ⊥
      other d e (inl c) = mask_long i (subst IsSourceName e (own_source d c))
      other d e (inr c) =
          let o = of_counter (nest_loops m) numbered d c in apart o.numbered.number i (o.numbered.is ∙ e)

      by : (o : Option Declaration) → declared with_counters (mask_name i) ≡ o → o ≡ None
      by None e = refl
      by (Some d) e =
          let f = found with_counters (mask_name i) d e in
          absurd (other d f.name (each_of p.declarations counters d f.among))

  is_mask : (i : ℕ) → i < k.masks → IsSomeAnd (declared with_both (mask_name i)) IsMask
  is_mask i l =
      let d = scalar_of Logical (mask_name i) in
      subst (λ o. IsSomeAnd o IsMask)
      (sym (are_both.declared d (Contains-append_right counters (masks_below k.masks) d (mask_below k.masks i l))))
      (record { kind = refl; extent = refl })

  -- ---- the nest

  pub here : IsFoundNest p n
  here = found_nest_is_loop p n among

  pub number : n.number < 2 ^ 32
  number =
      let most = nest_number p 0 (looked_at p.declarations p.body) n (omega arith) among in
      let less : n.number < 4294967296 = omega (arith, most) in less

  pub stands : Stands width p is here.loop
  stands = loop_stands width p is here.loop here.stands

  pub prepared : IsPrepared with_both stands.round.variables normal_depth k
  prepared =
      (found_nest_is_converted width p n m k with_counters with_both masks stands.round here is among normal made few are_counters.more no_mask counted_first are_both.more (λ i a b. is_mask i b) counted_with_masks number stands.named stands.is).1

  has : HasDeclarations k
  has = record { declarations = with_both; around = stands.round.variables; are = are_both.more.are; prepared = prepared }

pub found_nest_has_declarations : (width : Width) → FoundNestHasDeclarations width
found_nest_has_declarations width p n m k masks is among normal made few = has width p n m k masks is among normal made few
