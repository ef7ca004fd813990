-- Declarations by which the expanded nest of one that was found is prepared and may be split, whichever reads are
-- copied: those of the program with the counters of its loops, with what passes made, and with the arrays of copies.
use Rattle.std.proofs.Common.{◌≡◌, ◌⊎◌, inl, inr, refl, sym, ap, ◌∙◌, subst, ℕ, ◌+◌, ◌^◌, ◌≤◌, ◌<◌, Bool, true, cond}
use Rattle.std.proofs.Common.{codes, Contains, Option, Some, None, List, [], ◌∷◌, ◌++◌, map, get_or, length, length-append, arith}
use Rattle.std.specs.Option.{IsSomeAnd}
use Rattle.std.specs.Prelude.{⊤, All, IsSome, decimal, is_some, unwrap_or}
use Rattle.std.proofs.lemmas.Fmt.{length-decimal-le}
use Rattle.std.proofs.lemmas.List.{length-reverse}
use Rattle.std.proofs.lemmas.List.Elements.{Contains-append_cases, Contains-append_left, Contains-append_right}
use Rattle.dependence_graph.specs.declared.graphs.Place.{Place}
use Rattle.find_nests.specs.Found.{InNest, found_in}
use Rattle.if_convert.specs.Converted.{converted_nest}
use Rattle.meaning.specs.Dialect.{fortran77}
use Rattle.tree.specs.declared.width.Width.{Width}
use Rattle.meaning.specs.Reads.{names_in_block}
use Rattle.meaning.specs.Profile77.{IsProgram77}
use Rattle.meaning.specs.Profile90.{AreDeclarations, IsExtent}
use Rattle.meaning.specs.SymbolicNames.{IsLongName}
use Rattle.meaning.specs.Typed.{declared, dimensions}
use Rattle.meaning_laws.proofs.dialects.MadeNames.{is_declared}
use Rattle.meaning_laws.proofs.arrays.Members.{each_member, in_map, of_map}
use Rattle.meaning_laws.proofs.profiles.Lists.{nowhere}
use Rattle.meaning_laws.specs.profiles.Profiles.{AddMadeNames}
use Rattle.meaning_laws.proofs.profiles.Names.{found}
use Rattle.nest.specs.Bodies.{Standing, nest_loops, nest_statements}
use Rattle.nest.specs.Plain.{Choice, Jump, Label, Loop, Made, Nest, Part, Run, Turns}
use Rattle.nest.specs.declared.parts.Trip.{Trip}
use Rattle.nest_order.specs.orders.Lists.{In}
use Rattle.nest_order.specs.runs.Guarded.{names_of}
use Rattle.node_splitting.specs.Arrays.{copy_name, extents_over, texts_over}
use Rattle.node_splitting.specs.Split.{made_arrays}
use Rattle.normal_loops.specs.Normalised.{normalised}
use Rattle.pass_laws.proofs.NormalFacts.Tables.{all_in}
use Rattle.pass_laws.proofs.PreparedNests.Lists.{Contains-In, In-Contains}
use Rattle.pass_laws.proofs.PreparedNests.Normal.MadeNames.{extends}
use Rattle.pass_laws.specs.normal_facts.Laws.{IsCounter}
use Rattle.pass_laws.specs.prepared_nests.Made.{extent_for}
use Rattle.pass_laws.specs.prepared_nests.Nests.{IsPrepared}
use Rattle.pass_laws.specs.prepared_nests.Statements.{IsPreparedStatement, assignment, made_names}
use Rattle.pass_laws.specs.prepared_runs.Running.{loops_then_after}
use Rattle.prepared_passes.proofs.ConvertedNests.Declaring.{AgreeOnNames, AreWith, IsMadeDeclaration, each_of}
use Rattle.prepared_passes.proofs.ConvertedNests.Declaring.{made_names as with_made_names, with_declarations}
use Rattle.prepared_passes.proofs.ConvertedNests.FoundDeclared.{counters, counts, here, number, numbered, own_are}
use Rattle.prepared_passes.proofs.ConvertedNests.FoundDeclared.{counter_in, own_source, stands}
use Rattle.prepared_passes.proofs.ConvertedNests.MadeNames.{a_counter, agree, counter_of, goes_on, is_made, of_counter}
use Rattle.prepared_passes.proofs.ConvertedNests.MadeNames.{small_number, ten_digits}
use Rattle.prepared_passes.proofs.ExpandedNests.Found.{in_places}
use Rattle.prepared_passes.proofs.ExpandedNests.FoundExpanded.{made_is_made, named_so, once}
use Rattle.prepared_passes.proofs.ExpandedNests.FoundMade.{one_loop, same_declarations}
use Rattle.prepared_passes.proofs.ExpandedNests.Names.{source_is}
use Rattle.prepared_passes.proofs.ExpandedNests.Renaming.{one_named}
use Rattle.prepared_passes.proofs.ExpandedNests.Round.{as_many_texts}
use Rattle.prepared_passes.proofs.RenamedNests.Declared.{IsDeclared}
use Rattle.prepared_passes.proofs.SplitNests.Fresh.{copies_are_fresh}
use Rattle.prepared_passes.proofs.SplitNests.Limits.{few_extents}
use Rattle.prepared_passes.proofs.SplitNests.Names.{copy_long}
use Rattle.prepared_passes.proofs.SplitNests.Places.{IsForStatement, for_statement, split_nest_has_copies}
use Rattle.prepared_passes.proofs.SplitNests.Reading.{extents_there}
use Rattle.prepared_passes.specs.expansion.Found.{IsArrayOfNest, IsMaskOfNest, IsRangeOfNest, expanded_depth}
use Rattle.prepared_passes.specs.expansion.Unexpanded.{substituted, unexpanded}
use Rattle.prepared_passes.specs.splitting.Kept.{AreCopies}
use Rattle.prepared_passes.specs.splitting.Splits.{IsKnown, MayBeSplit}
use Rattle.nest_rewrite.specs.Assembled.{with_parts}
use Rattle.scalar_expand.specs.Expanded.{declared_privates, expanded, expanded_part, expanding, with_made_arrays}
use Rattle.scalar_expand.specs.Privates.{number_behind, private_scalars}
use Rattle.scalar_expand.specs.Texts.{extent_texts}
use Rattle.scalar_rename.specs.Ranges.{HaveFewRanges}
use Rattle.statement_passes.specs.Standings.{IsLoop}
use Rattle.tree.specs.Names.{IsSourceName}
use Rattle.tree.specs.Plain.{Declaration, Expression, Program}
use Rattle.listing.proofs.arrays.Counted.{prepared_counted}
use Rattle.listing.proofs.programs.Names.{names_declared}
use Rattle.listing.specs.programs.Stages.{with_copies_before}

-- declarations by which the expanded nest is prepared, and may be split
pub record HasCopiesDeclared (may : Place → Bool) (copies : ℕ) (k : Nest) : Type 0 where
  pub declarations : List Declaration
  pub around : List (List ℕ)
  pub are : AreDeclarations declarations
  pub prepared : IsPrepared declarations around expanded_depth (expanded k)
  pub split : MayBeSplit declarations may (with_copies_before copies (expanded k))

-- ---- what is declared of arrays

abbrev pub as_declared : Made → Declaration
as_declared x = record { name = x.name; kind = x.kind; extent = extent_for x.extents }

extent_is : (es : List Expression) → length es ≤ 7 → IsExtent (extent_for es)
extent_is [] h = (omega arith, tt)
extent_is (e ∷ es) h = (omega arith, omega (arith, h))

extent_later : (es : List Expression) → dimensions (extent_for es) ≡ []
extent_later [] = refl
extent_later (e ∷ es) = refl

within : (stem : List ℕ) (k : ℕ) → length stem ≤ 8 → k ≤ 4294967296 → length (stem ++ decimal k) ≤ 31
within stem k s h =
    let both = length-append stem (decimal k) in
    let few = length-decimal-le 10 k (omega arith) (ten_digits k h) (small_number k h) in
    omega (arith, both, few, s)

copy_is_name : (i : ℕ) → i < 2 ^ 32 → IsLongName (copy_name i)
copy_is_name i h =
    let less : i < 4294967296 = h in
    record {
      begins = refl;
      goes_on = goes_on (codes "FV_COPY_") (i + 1) refl (omega (arith, less));
      within = within (codes "FV_COPY_") (i + 1) (omega arith) (omega (arith, less));
    }

-- ---- names, by the fourth letter

abbrev fourth : List ℕ → ℕ
fourth x = get_or x 3 0

-- that of a mask, of an array for a scalar of the source, or of a range of one's values
abbrev IsMadeLetter : ℕ → Type 0
IsMadeLetter c = (c ≡ 77) ⊎ ((c ≡ 69) ⊎ (c ≡ 78))

made_letter : (n k : Nest) (masks : ℕ) (x : Made)
    → IsMaskOfNest k masks x ⊎ (IsArrayOfNest n x ⊎ IsRangeOfNest n x) → IsMadeLetter (fourth x.name)
made_letter n k masks x (inl h) = inl (ap fourth h.name)
made_letter n k masks x (inr (inl h)) =
    inr (inl (ap fourth
    (h.name
    ∙ ap (λ (b : Bool). cond b ((codes "FV_EXP_" ++ h.scalar) ++ number_behind n.number) h.scalar)
    (source_is h.scalar h.source))))
made_letter n k masks x (inr (inr h)) = inr (inr (ap fourth h.name))

no_loop_letter : (c : ℕ) → IsMadeLetter c → c ≡ 76 → ⊥
no_loop_letter c (inl e) f = omega (arith, e, f)
no_loop_letter c (inr (inl e)) f = omega (arith, e, f)
no_loop_letter c (inr (inr e)) f = omega (arith, e, f)

no_copy_letter : (c : ℕ) → IsMadeLetter c → c ≡ 67 → ⊥
no_copy_letter c (inl e) f = omega (arith, e, f)
no_copy_letter c (inr (inl e)) f = omega (arith, e, f)
no_copy_letter c (inr (inr e)) f = omega (arith, e, f)

-- ---- the nest

pub expanded_loop : (n : Nest) → IsLoop n.body → IsLoop (expanded n).body
unfolding with_made_arrays with_parts
expanded_loop n h = by n.body h
  where
    by : (b : Part) → IsLoop b
        → IsLoop (expanded_part n.line (expanding (private_scalars n)) (declared_privates (private_scalars n) n.declarations) b)
    by (Turns l ps) h = tt
    by (Run g) h = absurd h
    by (Choice bs ps) h = absurd h
    by (Label j) h = absurd h
    by (Jump j) h = absurd h

module _ (width : Width) (p : Program) (n m masked k : Nest) (masks copies : ℕ) (may : Place → Bool) (is : IsProgram77 (fortran77 width) p)
    (among : Contains (found_in p) (InNest n)) (normal : normalised n ≡ Some m)
    (made : converted_nest masks m ≡ Some masked) (few : masked.masks ≤ 4294967296) (anew : k ≡ unexpanded m masked)
    (ranges_few : HaveFewRanges (substituted m masked))
    (top : copies + length (made_arrays may (with_copies_before copies (expanded k))) ≤ 2 ^ 32) where
  abbrev c : Nest
  c = with_copies_before copies (expanded k)

  numbers : AreCopies may (with_copies_before copies (expanded k))
  numbers = split_nest_has_copies may c top

  abbrev counted : List Declaration
  counted = counters width p n m masked masks is among normal made few

  abbrev arrays : List Declaration
  arrays = map as_declared (expanded k).made

  abbrev copied : List Declaration
  copied = map as_declared (made_arrays may (with_copies_before copies (expanded k)))

  -- ---- copies

  few_texts : (a : Made) → In a (made_arrays may (with_copies_before copies (expanded k))) → length a.extents ≤ 7
  few_texts a i = by (for_statement may c 0 copies (nest_statements c) a i)
    where
      some_is : (o : Option (List Trip)) → is_some o ≡ true → o ≡ Some (unwrap_or o [])
      some_is None e = cc
      some_is (Some ts) e = refl

      by : IsForStatement may c a (nest_statements c) → length a.extents ≤ 7
      by q =
          let o = extents_over (length c.symbols) q.statement.loops in
          let exts = unwrap_or o [] in
          let are = some_is o
          (extents_there may (length c.symbols) q.statement.loops q.place q.statement.statement q.array.read q.array.among) in
          let most = (few_extents (length c.symbols) q.statement.loops exts are).0 in
          let all = as_many_texts c.symbols [] exts in
          let turned = length-reverse (extent_texts c.symbols exts) in
          subst (λ (b : Made). length b.extents ≤ 7) (sym q.array.is)
          (subst (λ (w : Option (List Trip)). length (texts_over c.symbols w) ≤ 7) (sym are)
          (omega (arith, most, all, turned)))

  copy_is_made : (a : Made) → In a (made_arrays may (with_copies_before copies (expanded k))) → IsMadeDeclaration (as_declared a)
  copy_is_made a i =
      let o = numbers.numbered a i in
      let high : o.0 < copies + length (made_arrays may c) = o.2 in
      let most : copies + length (made_arrays may c) ≤ 4294967296 = top in
      let small : o.0 < 4294967296 = omega (arith, high, most) in
      record {
        declaration = record {
          name = subst IsLongName (sym o.3) (copy_is_name o.0 small);
          extent = extent_is a.extents (few_texts a i);
        };
        made = λ t. copy_long o.0 (subst IsSourceName o.3 t);
        later = extent_later a.extents;
      }

  -- ---- by their letters

  counter_letter : (d : Declaration) → Contains counted d → fourth d.name ≡ 76
  counter_letter d i =
      ap fourth
      (sym (of_counter (nest_loops m) (numbered width p n m masked masks is among normal made few) d i).numbered.is)

  array_letter : (x : Made) → In x (expanded k).made → IsMadeLetter (fourth x.name)
  array_letter x i =
      made_letter n k masks x (named_so width p n m masked k masks is among normal made few anew ranges_few x i)

  copy_letter : (a : Made) → In a (made_arrays may (with_copies_before copies (expanded k))) → fourth a.name ≡ 67
  copy_letter a i = ap fourth (numbers.numbered a i).3

  -- one of an array or of a copy
  record IsOf (ms : List Made) (d : Declaration) : Type 0 where
    it : Made
    inside : In it ms
    is_it : as_declared it ≡ d

  is_of : (ms : List Made) (d : Declaration) → Contains (map as_declared ms) d → IsOf ms d
  is_of ms d i = let o = of_map as_declared ms d i in record { it = o.0; inside = Contains-In o.0 ms o.1; is_it = o.2 }

  name_of : (ms : List Made) (d : Declaration) (o : IsOf ms d) → o.it.name ≡ d.name
  name_of ms d o = ap (λ (z : Declaration). z.name) o.is_it

  -- ---- all of them, and with some of the copies

  module _ (extra : List Declaration) (sub : (d : Declaration) → Contains extra d → Contains copied d) where
    abbrev new : List Declaration
    new = counted ++ (arrays ++ extra)

    abbrev IsWhich : Declaration → Type 0
    IsWhich d = Contains counted d ⊎ (IsOf (expanded k).made d ⊎ IsOf (made_arrays may (with_copies_before copies (expanded k))) d)

    which : (d : Declaration) → Contains (counted ++ (arrays ++ extra)) d → IsWhich d
    which d i = by (Contains-append_cases counted (arrays ++ extra) d i)
      where
        rest : Contains arrays d ⊎ Contains extra d → IsWhich d
        rest (inl j) = inr (inl (is_of (expanded k).made d j))
        rest (inr j) = inr (inr (is_of (made_arrays may c) d (sub d j)))

        by : Contains counted d ⊎ Contains (arrays ++ extra) d → IsWhich d
        by (inl j) = inl j
        by (inr j) = rest (Contains-append_cases arrays extra d j)

    each_made : (d : Declaration) → Contains (counted ++ (arrays ++ extra)) d → IsMadeDeclaration d
    each_made d i = by (which d i)
      where
        by : IsWhich d → IsMadeDeclaration d
        by (inl j) =
            is_made d
            (a_counter (nest_loops m) (numbered width p n m masked masks is among normal made few) masked.masks few d j)
        by (inr (inl o)) =
            subst IsMadeDeclaration o.is_it
            (made_is_made width p n m masked k masks is among normal made few anew ranges_few o.it o.inside)
        by (inr (inr o)) = subst IsMadeDeclaration o.is_it (copy_is_made o.it o.inside)

    alone : AgreeOnNames (counted ++ (arrays ++ extra)) (counted ++ (arrays ++ extra))
    alone d e i j same = by (which d i) (which e j)
      where
        -- a counter, and what is none
        counter_made : (x y : Declaration) → Contains counted x → IsOf (expanded k).made y → x.name ≡ y.name → ⊥
        counter_made x y g o e =
            no_loop_letter (fourth o.it.name) (array_letter o.it o.inside)
            (ap fourth (name_of (expanded k).made y o ∙ sym e) ∙ counter_letter x g)

        counter_copy : (x y : Declaration) → Contains counted x → IsOf (made_arrays may (with_copies_before copies (expanded k))) y
            → x.name ≡ y.name → ⊥
        counter_copy x y g o e =
            let bad : 67 ≡ 76
            = sym (copy_letter o.it o.inside) ∙ ap fourth (name_of (made_arrays may c) y o ∙ sym e) ∙ counter_letter x g in
            omega (arith, bad)

        made_copy : (x y : Declaration) → IsOf (expanded k).made x → IsOf (made_arrays may (with_copies_before copies (expanded k))) y
            → x.name ≡ y.name → ⊥
        made_copy x y g o e =
            no_copy_letter (fourth g.it.name) (array_letter g.it g.inside)
            (ap fourth (name_of (expanded k).made x g ∙ e ∙ sym (name_of (made_arrays may c) y o)) ∙ copy_letter o.it o.inside)

        by : IsWhich d → IsWhich e → d ≡ e
        by (inl f) (inl g) =
            agree d e
            (a_counter (nest_loops m) (numbered width p n m masked masks is among normal made few) masked.masks few d f)
            (a_counter (nest_loops m) (numbered width p n m masked masks is among normal made few) masked.masks few e g) same
        by (inl f) (inr (inl g)) = absurd (counter_made d e f g same)
        by (inl f) (inr (inr g)) = absurd (counter_copy d e f g same)
        by (inr (inl f)) (inl g) = absurd (counter_made e d g f (sym same))
        by (inr (inl f)) (inr (inl g)) =
            sym f.is_it
            ∙ (ap as_declared
            (one_named (expanded k).made (once width p n m masked k masks is among normal made few anew ranges_few) f.it g.it
            f.inside g.inside (name_of (expanded k).made d f ∙ same ∙ sym (name_of (expanded k).made e g))) ∙ g.is_it)
        by (inr (inl f)) (inr (inr g)) = absurd (made_copy d e f g same)
        by (inr (inr f)) (inl g) = absurd (counter_copy e d g f (sym same))
        by (inr (inr f)) (inr (inl g)) = absurd (made_copy e d g f (sym same))
        by (inr (inr f)) (inr (inr g)) =
            sym f.is_it
            ∙ (ap as_declared
            (one_named (made_arrays may c) numbers.once f.it g.it f.inside g.inside
            (name_of (made_arrays may c) d f ∙ same ∙ sym (name_of (made_arrays may c) e g))) ∙ g.is_it)

    abbrev all : List Declaration
    all = with_declarations p.declarations (counted ++ (arrays ++ extra))

    are_all : AreWith p.declarations (counted ++ (arrays ++ extra)) (with_declarations p.declarations (counted ++ (arrays ++ extra)))
    are_all =
        with_made_names p.declarations new (own_are width p n m masked masks is among normal made few)
        (each_member IsMadeDeclaration new each_made) alone
        (λ d e i j same.
        (each_made e j).made (subst IsSourceName same (own_source width p n m masked masks is among normal made few d i)))

    counted_so : All (λ (l : Loop). IsSomeAnd (declared (with_declarations p.declarations (counted ++ (arrays ++ extra))) l.variable) IsCounter) (nest_loops m)
    counted_so =
        each_member (λ (l : Loop). IsSomeAnd (declared all l.variable) IsCounter) (nest_loops m)
        (λ l i. counts width p n m masked masks is among normal made few all l
        (are_all.declared (counter_of l)
        (Contains-append_left counted (arrays ++ extra) (counter_of l)
        (counter_in width p n m masked masks is among normal made few l i))))

    abbrev around : List (List ℕ)
    around = (stands width p n m masked masks is among normal made few).round.variables

    prepared : IsPrepared (with_declarations p.declarations (counted ++ (arrays ++ extra))) around expanded_depth (expanded k)
    prepared =
        let s = stands width p n m masked masks is among normal made few in
        (in_places width p (record p { declarations = all }) n m masked k masks is among normal made few anew ranges_few
        are_all.more counted_so
        (λ x i. are_all.declared (as_declared x)
        (Contains-append_right counted (arrays ++ extra) (as_declared x)
        (Contains-append_left arrays extra (as_declared x) (in_map as_declared (expanded k).made x i))))
        s.round (here width p n m masked masks is among normal made few) (number width p n m masked masks is among normal made few)
        s.named s.is).places.behind

  -- ---- without the arrays of copies these stand nowhere

  abbrev first : List Declaration
  first = with_declarations p.declarations (counted ++ (arrays ++ []))

  none_of : (d : Declaration) → Contains [] d → Contains copied d
  none_of d i = absurd (nowhere d i)

  prepared_first : IsPrepared (with_declarations p.declarations (counted ++ (arrays ++ []))) (around [] none_of) expanded_depth (with_copies_before copies (expanded k))
  prepared_first = prepared_counted first (around [] none_of) expanded_depth (expanded k) copies (prepared [] none_of)

  same : (expanded k).declarations ≡ p.declarations
  unfolding with_made_arrays with_parts
  same = same_declarations width p n m masked k masks is among normal made few anew ranges_few

  undeclared : (a : Made) → In a (made_arrays may (with_copies_before copies (expanded k)))
      → declared (with_declarations p.declarations (counted ++ (arrays ++ []))) a.name ≡ None
  undeclared a i = by (declared first a.name) refl
    where
      new : (d : Declaration) → d.name ≡ a.name → Contains counted d ⊎ Contains (arrays ++ []) d → ⊥
      new d e (inl j) =
          let bad : 67 ≡ 76 = sym (copy_letter a i) ∙ ap fourth (sym e) ∙ counter_letter d j in
          omega (arith, bad)
      new d e (inr j) = of (Contains-append_cases arrays [] d j)
        where
          of : Contains arrays d ⊎ Contains [] d → ⊥
          of (inl u) =
              let o = is_of (expanded k).made d u in
              no_copy_letter (fourth o.it.name) (array_letter o.it o.inside)
              (ap fourth (name_of (expanded k).made d o ∙ e) ∙ copy_letter a i)
          of (inr u) = nowhere d u

      other : (d : Declaration) → d.name ≡ a.name → Contains p.declarations d ⊎ Contains (counted ++ (arrays ++ [])) d → ⊥
      other d e (inl j) =
          (copy_is_made a i).made
          (subst IsSourceName e (own_source width p n m masked masks is among normal made few d j))
      other d e (inr j) = new d e (Contains-append_cases counted (arrays ++ []) d j)

      by : (o : Option Declaration) → declared first a.name ≡ o → o ≡ None
      by None e = refl
      by (Some d) e =
          let f = found first a.name d e in
          absurd (other d f.name (each_of p.declarations (counted ++ (arrays ++ [])) d f.among))

  fresh : (a : Made) → In a (made_arrays may (with_copies_before copies (expanded k)))
      → (¬ Contains (names_in_block (loops_then_after (with_copies_before copies (expanded k)))) a.name)
      × (¬ Contains (made_names (with_copies_before copies (expanded k))) a.name)
  fresh a i = copies_are_fresh first (around [] none_of) expanded_depth may c prepared_first undeclared a i

  -- ---- known names

  known : (x : List ℕ) → IsDeclared (with_declarations p.declarations (counted ++ (arrays ++ []))) x → IsKnown (with_copies_before copies (expanded k)) x
  known x h = by (declared first x) refl h
    where
      new : (d : Declaration) → d.name ≡ x → Contains counted d ⊎ Contains (arrays ++ []) d → IsKnown c x
      new d e (inl j) =
          let o = (of_counter (nest_loops m) (numbered width p n m masked masks is among normal made few) d j).numbered in
          let small : o.number ≤ 4294967295 = o.small in
          let less : o.number < 4294967296 = omega (arith, small) in
          inr (inr (o.number, less, sym (o.is ∙ e)))
      new d e (inr j) = of (Contains-append_cases arrays [] d j)
        where
          of : Contains arrays d ⊎ Contains [] d → IsKnown c x
          of (inl u) =
              let o = is_of (expanded k).made d u in
              inr (inl (subst (Contains (made_names c)) (name_of (expanded k).made d o ∙ e)
              (in_map (λ (z : Made). z.name) (expanded k).made o.it (In-Contains o.it (expanded k).made o.inside))))
          of (inr u) = absurd (nowhere d u)

      own : (d : Declaration) → d.name ≡ x → Contains p.declarations d → IsKnown c x
      own d e j =
          let r = is_declared p.declarations x
          (subst (Contains (map (λ (z : Declaration). z.name) p.declarations)) e
          (in_map (λ (z : Declaration). z.name) p.declarations d j)) in
          inl (subst IsSome (sym (ap (λ (ds : List Declaration). declared ds x) same ∙ r.1)) refl)

      which_is : (d : Declaration) → d.name ≡ x → Contains p.declarations d ⊎ Contains (counted ++ (arrays ++ [])) d → IsKnown c x
      which_is d e (inl j) = own d e j
      which_is d e (inr j) = new d e (Contains-append_cases counted (arrays ++ []) d j)

      by : (o : Option Declaration) → declared first x ≡ o → IsSomeAnd o (λ (d : Declaration). ⊤) → IsKnown c x
      by None e g = absurd g
      by (Some d) e g =
          let f = found first x d e in
          which_is d f.name (each_of p.declarations (counted ++ (arrays ++ [])) d f.among)

  statement_known : (s : Standing) → In s (nest_statements (with_copies_before copies (expanded k))) → (x : List ℕ)
      → In x (names_of (assignment s.statement)) → IsKnown (with_copies_before copies (expanded k)) x
  statement_known s j x i =
      known x
      (names_declared first c expanded_depth s
      (all_in (IsPreparedStatement first c expanded_depth) (nest_statements c) prepared_first.parts.statements s j) x i)

  -- ---- by declarations with them

  abbrev pub last : List Declaration
  last = with_declarations p.declarations (counted ++ (arrays ++ copied))

  pub are_last : AreWith p.declarations (counted ++ (arrays ++ copied)) (with_declarations p.declarations (counted ++ (arrays ++ copied)))
  are_last = are_all copied (λ d i. i)

  pub may_be_split : (es : List Declaration) → AddMadeNames p.declarations es
      → ((a : Made) → In a (made_arrays may (with_copies_before copies (expanded k))) → declared es a.name ≡ Some (as_declared a))
      → MayBeSplit es may (with_copies_before copies (expanded k))
  may_be_split es add there = record {
    loop = loop;
    few = top;
    among = λ x d e. (extends (fortran77 width) p es is add).found x d (subst (λ (ds : List Declaration). declared ds x ≡ Some d) same e);
    source = λ x d e. of_source x d (subst (λ (ds : List Declaration). declared ds x ≡ Some d) same e);
    known = statement_known;
    declared = λ a i. subst (λ (o : Option Declaration). IsSomeAnd o
        (λ (d : Declaration). (d.kind ≡ a.kind) × (d.extent ≡ extent_for a.extents))) (sym (there a i)) (refl, refl);
    fresh = λ a i. (fresh a i).0;
    unmade = λ a i. (fresh a i).1;
  }
    where
      loop : IsLoop (expanded k).body
      loop =
          let o = one_loop width p n m masked k masks is among normal made few anew ranges_few in
          expanded_loop k (subst IsLoop (sym o.is_loop) tt)

      of_source : (x : List ℕ) (d : Declaration) → declared p.declarations x ≡ Some d → IsSourceName x
      of_source x d e =
          let f = found p.declarations x d e in
          subst IsSourceName f.name (own_source width p n m masked masks is among normal made few d f.among)

  pub has_copies_declared : HasCopiesDeclared may copies k
  has_copies_declared = record {
    declarations = last;
    around = around copied (λ d i. i);
    are = are_last.more.are;
    prepared = prepared copied (λ d i. i);
    split = may_be_split last are_last.more
        (λ a i. are_last.declared (as_declared a)
        (Contains-append_right counted (arrays ++ copied) (as_declared a)
        (Contains-append_right arrays copied (as_declared a)
        (in_map as_declared (made_arrays may c) a (In-Contains a (made_arrays may c) i)))));
  }
