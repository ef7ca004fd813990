-- In the nests of a listing no induction is written: each is a symbol of the nest, and no symbol gets a value there.
use Rattle.std.proofs.Common.{◌≡◌, refl, sym, ap, subst, ℕ, ◌<◌, ◌≤◌, Bool, true, false, List, [], ◌∷◌, Contains, arith}
use Rattle.std.specs.Str.{bytes_eq}
use Rattle.std.proofs.lemmas.Slice.Eq.{bytes_eq-Decides}
use Rattle.find_nests.specs.Found.{Found, InNest, Kept, found_in}
use Rattle.inductions.specs.Found.{inductions_of}
use Rattle.inductions.specs.Laws.{IsWrittenNowhere}
use Rattle.inductions.specs.Nests.{induction_names}
use Rattle.meaning.specs.Dialect.{fortran77}
use Rattle.tree.specs.declared.width.Width.{Width}
use Rattle.meaning.specs.Profile77.{IsProgram77}
use Rattle.meaning_laws.proofs.profiles.Lists.{here, there as further}
use Rattle.nest.specs.Bodies.{Standing, nest_statements}
use Rattle.nest.specs.Plain.{Nest}
use Rattle.nest_order.specs.orders.Lists.{In}
use Rattle.pass_laws.proofs.NormalFacts.Tables.{all_in, each_from}
use Rattle.pass_laws.proofs.PreparedNests.Lists.{In-Contains}
use Rattle.pass_laws.proofs.ReadyNests.Lists.{Each-All}
use Rattle.pass_laws.specs.prepared_nests.Statements.{IsPreparedStatement}
use Rattle.prepared_passes.proofs.ExpandedNests.FoundMade.{renamed_from}
use Rattle.prepared_passes.proofs.ExpandedNests.Renaming.{sub_from}
use Rattle.prepared_passes.proofs.ExpandedNests.Sameness.{few_before}
use Rattle.scalar_expand.specs.Expanded.{expanded}
use Rattle.symbols_anew.specs.Nests.{with_symbols_found}
use Rattle.tree.specs.Plain.{Program}
use Rattle.listing.proofs.programs.Arranging.{last_depth}
use Rattle.listing.proofs.programs.Declared.{HasCopiesDeclared}
use Rattle.listing.proofs.programs.Expanding.{masks_kept}
use Rattle.listing.proofs.programs.Sources.{declared_for, few_made, prepared_for, symbols_made}
use Rattle.listing.proofs.programs.Stages.{IsMadeBy, few_so, named_so, stages_beside}
use Rattle.listing.specs.declared.programs.counts.Counts.{Counts}
use Rattle.listing.specs.graphs.Lines.{Entry}
use Rattle.listing.specs.programs.Inductions.{AreSubstituted, NoInductionIsLeft}
use Rattle.listing.specs.programs.Laws.{ListedNestsAreSubstituted}
use Rattle.listing.specs.programs.Listing.{HaveEntries, counts_of, no_counts}
use Rattle.listing.specs.programs.Stages.{IsListedFrom}

-- ---- what stands behind writes nothing in the nest

left_beside : (k m c j : Nest) → k ≡ record c { after = k.after } → m ≡ record j { after = m.after }
    → NoInductionIsLeft c j → NoInductionIsLeft k m
left_beside k m c j given last h =
    subst (λ (z : Nest). NoInductionIsLeft z m) (sym given)
    (subst (λ (z : Nest). NoInductionIsLeft (record c { after = k.after }) z) (sym last) h)

-- ---- a nest that passes made

module _ (width : Width) (p : Program) (is : IsProgram77 (fortran77 width) p) (counts : Counts) (n m : Nest)
    (among : Contains (found_in p) (InNest n)) (made : IsMadeBy counts n m) where
  most : made.named.masks ≤ 4294967296
  most =
      let few : (expanded made.named).masks < 4294967296 = few_made width p counts n m is among made in
      let same = masks_kept made.named in
      omega (arith, few, same)

  abbrev names : List (List ℕ)
  names = induction_names (inductions_of (with_symbols_found made.normal made.converted))

  is_symbol : (x : List ℕ) → In x (induction_names (inductions_of (with_symbols_found made.normal made.converted)))
      → In x m.symbols
  is_symbol x i =
      let least = few_before made.normal made.converted made.named (named_so counts n m made) most in
      let from = renamed_from width p n made.normal made.converted made.named counts.masks is among made.made made.is_converted
      least (named_so counts n m made) (few_so counts n m made) in
      subst (λ (ys : List (List ℕ)). In x ys) (sym (symbols_made width p counts n m is among made))
      (subst (λ (ys : List (List ℕ)). In x ys) (sym (ap (λ (z : Nest). z.symbols) from.rest))
      ((sub_from width p n made.normal made.converted counts.masks is among made.made made.is_converted least).added x i))

  abbrev has : HasCopiesDeclared made.may counts.copies made.named
  has = declared_for width p counts n m is among made

  not_given : (x : List ℕ) → In x (induction_names (inductions_of (with_symbols_found made.normal made.converted)))
      → (s : Standing) → In s (nest_statements m) → bytes_eq s.statement.left.name x ≡ false
  not_given x i s j = by (bytes_eq s.statement.left.name x) refl
    where
      by : (b : Bool) → bytes_eq s.statement.left.name x ≡ b → b ≡ false
      by false e = refl
      by true e =
          let h = all_in (IsPreparedStatement has.declarations m last_depth) (nest_statements m)
          (prepared_for width p counts n m is among made).parts.statements s j in
          absurd (h.free (In-Contains s.statement.left.name m.symbols
          (subst (λ y. In y m.symbols) (sym ((bytes_eq-Decides s.statement.left.name x).0 e)) (is_symbol x i))))

  unwritten : NoInductionIsLeft (with_symbols_found made.normal made.converted) m
  unwritten =
      Each-All (IsWrittenNowhere m) names
      (each_from (IsWrittenNowhere m) names
      (λ x i. Each-All (λ (s : Standing). bytes_eq s.statement.left.name x ≡ false) (nest_statements m)
      (each_from (λ (s : Standing). bytes_eq s.statement.left.name x ≡ false) (nest_statements m)
      (λ s j. not_given x i s j))))

  left : NoInductionIsLeft made.anew m
  left = subst (λ (z : Nest). NoInductionIsLeft z m) (sym made.is_anew) unwritten

-- ---- the nests of a listing

module _ (width : Width) (p : Program) (is : IsProgram77 (fortran77 width) p) where
  none_left : (counts : Counts) (n m : Nest) → Contains (found_in p) (InNest n) → (h : IsListedFrom counts n m)
      → NoInductionIsLeft h.stages.anew m
  none_left counts n m c h =
      let b = stages_beside counts n h.stages h.are in
      subst (NoInductionIsLeft h.stages.anew) (sym h.last)
      (left_beside h.stages.anew h.stages.arranged b.made.anew b.last b.given b.behind
      (left width p is counts n b.last c b.made))

  all_substituted : (counts : Counts) (fs : List Found) (es : List Entry)
      → ((f : Found) → Contains fs f → Contains (found_in p) f) → (h : HaveEntries counts fs es)
      → AreSubstituted counts fs es h
  all_substituted counts [] es c h = tt
  all_substituted counts (InNest n ∷ fs) es c h = (
    none_left counts n h.3.0 (c (InNest n) (here (InNest n) fs)) h.3.1,
    all_substituted (counts_of h.3.0) fs h.1 (λ g i. c g (further (InNest n) fs g i)) h.4,
  )
  all_substituted counts (Kept line r ∷ fs) es c h =
      all_substituted counts fs h.1 (λ g i. c g (further (Kept line r) fs g i)) h.4

pub listed_nests_are_substituted : (width : Width) → ListedNestsAreSubstituted width
listed_nests_are_substituted width p lines is l = all_substituted width p is no_counts (found_in p) l.entries (λ f c. c) l.are
