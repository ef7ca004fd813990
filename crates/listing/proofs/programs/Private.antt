-- In the nests of a listing no private scalar is left.
use Rattle.std.proofs.Common.{◌<◌, ◌≤◌, List, [], ◌∷◌, Contains, refl, sym, subst, arith}
use Rattle.listing.proofs.arrays.Left.{arranged_nest_has_no_private_scalars}
use Rattle.prepared_passes.proofs.ExpandedNests.FoundMade.{one_loop, prepared}
use Rattle.prepared_passes.proofs.ExpandedNests.Sameness.{few_before}
use Rattle.prepared_passes.proofs.ExpandedNests.FoundExpanded.{found_nest_has_no_private_scalars}
use Rattle.prepared_passes.specs.expansion.Found.{expanded_depth}
use Rattle.prepared_passes.specs.expansion.Unexpanded.{unexpanded_depth}
use Rattle.prepared_passes.specs.expansion.Left.{NoPrivateScalarIsLeft}
use Rattle.prepared_passes.specs.splitting.Splits.{nodes_split}
use Rattle.statement_passes.specs.Standings.{IsLoop}
use Rattle.find_nests.specs.Found.{Found, InNest, Kept, found_in}
use Rattle.interchange.specs.Arranged.{arranged}
use Rattle.meaning.specs.Dialect.{fortran77}
use Rattle.tree.specs.declared.width.Width.{Width}
use Rattle.meaning.specs.Profile77.{IsProgram77}
use Rattle.meaning_laws.proofs.profiles.Lists.{here, there}
use Rattle.nest.specs.Plain.{Nest}
use Rattle.scalar_expand.specs.Expanded.{expanded}
use Rattle.tree.specs.Plain.{Program}
use Rattle.listing.proofs.programs.Declared.{expanded_loop}
use Rattle.listing.proofs.programs.Expanding.{left_beside, masks_kept}
use Rattle.listing.proofs.programs.Sources.{declared_for, few_made}
use Rattle.listing.proofs.programs.Stages.{few_so, named_so, stages_beside}
use Rattle.listing.specs.declared.programs.counts.Counts.{Counts}
use Rattle.listing.specs.graphs.Lines.{Entry}
use Rattle.listing.specs.programs.Laws.{ListedNestsAreExpanded}
use Rattle.listing.specs.programs.Listing.{HaveEntries, counts_of, no_counts}
use Rattle.listing.specs.programs.Private.{AreExpanded}
use Rattle.listing.specs.programs.Stages.{IsListedFrom, with_copies_before}

module _ (width : Width) (p : Program) (is : IsProgram77 (fortran77 width) p) where
  none_left : (counts : Counts) (n m : Nest) → Contains (found_in p) (InNest n) → (h : IsListedFrom counts n m)
      → NoPrivateScalarIsLeft h.stages.named m
  none_left counts n m c h =
      let b = stages_beside counts n h.stages h.are in
      let made = b.made in
      let few : (expanded made.named).masks < 4294967296 = few_made width p counts n b.last is c made in
      let same = masks_kept made.named in
      let most : made.named.masks ≤ 4294967296 = omega (arith, few, same) in
      let so = named_so counts n b.last made in
      let least = few_before made.normal made.converted made.named so most in
      let ranges = few_so counts n b.last made in
      let d = declared_for width p counts n b.last is c made in
      let left = found_nest_has_no_private_scalars width p n made.normal made.converted made.named counts.masks is c made.made
      made.is_converted so ranges most in
      let split = nodes_split made.may (with_copies_before counts.copies (expanded made.named)) in
      let o = one_loop width p n made.normal made.converted made.named counts.masks is c made.made made.is_converted least so ranges in
      let moved : NoPrivateScalarIsLeft made.named
      (arranged (nodes_split made.may (with_copies_before counts.copies (expanded made.named))) made.vectors)
      = arranged_nest_has_no_private_scalars _ d.declarations _ d.around unexpanded_depth expanded_depth counts.copies
      made.named split made.may made.vectors
      (prepared width p n made.normal made.converted made.named counts.masks is c made.made made.is_converted least so ranges)
      d.prepared (expanded_loop made.named (subst IsLoop (sym o.is_loop) tt)) refl d.split (omega arith) left in
      subst (NoPrivateScalarIsLeft h.stages.named) (sym h.last)
      (left_beside h.stages.named h.stages.arranged made.named b.last b.named b.behind
      (subst (NoPrivateScalarIsLeft made.named) (sym made.is_arranged) moved))

  all_expanded : (counts : Counts) (fs : List Found) (es : List Entry) → ((f : Found) → Contains fs f → Contains (found_in p) f)
      → (h : HaveEntries counts fs es) → AreExpanded counts fs es h
  all_expanded counts [] es c h = tt
  all_expanded counts (InNest n ∷ fs) es c h = (
    none_left counts n h.3.0 (c (InNest n) (here (InNest n) fs)) h.3.1,
    all_expanded (counts_of h.3.0) fs h.1 (λ g i. c g (there (InNest n) fs g i)) h.4,
  )
  all_expanded counts (Kept line r ∷ fs) es c h =
      all_expanded counts fs h.1 (λ g i. c g (there (Kept line r) fs g i)) h.4

pub listed_nests_are_expanded : (width : Width) → ListedNestsAreExpanded width
listed_nests_are_expanded width p lines is l = all_expanded width p is no_counts (found_in p) l.entries (λ f c. c) l.are
