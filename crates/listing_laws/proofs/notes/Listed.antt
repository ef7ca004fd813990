-- The lines of the listing of a program of FORTRAN 77 are notes.
use Rattle.std.proofs.Common.{refl, sym, subst, List, [], ◌∷◌, codes, Contains}
use Rattle.find_nests.specs.Found.{Found, InNest, Kept, found_in}
use Rattle.find_nests.specs.declared.reasons.Reason.{Reason}
use Rattle.find_nests.specs.declared.reasons.Reason.TheVariants.{Exit, InnerIf, Bound, Step, Deep, Large}
use Rattle.meaning.specs.Dialect.{fortran77}
use Rattle.tree.specs.declared.width.Width.{Width}
use Rattle.meaning.specs.Profile77.{IsProgram77}
use Rattle.tree.specs.Plain.{Block, Program}
use Rattle.listing.proofs.programs.Arranging.{last_depth}
use Rattle.listing.proofs.programs.Sources.{declared_for, prepared_for}
use Rattle.listing.proofs.programs.Stages.{listed_is_made}
use Rattle.listing.specs.declared.programs.counts.Counts.{Counts}
use Rattle.listing.specs.graphs.Lines.{Entry}
use Rattle.listing.specs.programs.Stages.{IsListedFrom}
use Rattle.nest.specs.Plain.{Nest}
use Rattle.meaning_laws.proofs.profiles.Lists.{here, there}
use Rattle.array_form.specs.holds.Holds.{all_holds}
use Rattle.listing.specs.programs.Listing.{reason_word, HasNestEntries, HasEntries, HaveEntries, counts_behind, no_counts}
use Rattle.listing_laws.specs.notes.Laws.{ListingLinesAreNotes}
use Rattle.listing_laws.proofs.notes.Arrays.{graph_named}
use Rattle.listing_laws.proofs.notes.Entries.{ArePrintableEntries, kept, nest_printable}
use Rattle.listing_laws.proofs.notes.Made.{IsPrintableNest}
use Rattle.listing_laws.proofs.notes.Notes.{IsPrintableEntry, AreNotes, entry_notes}
use Rattle.listing_laws.proofs.notes.Printable.{ArePrintable, joined, word}
use Rattle.listing_laws.proofs.prepared.Listed.{is_printable}

reason : (r : Reason) → ArePrintable (reason_word r)
reason Exit = word (codes "EXIT") refl
reason InnerIf = word (codes "INNERIF") refl
reason Bound = word (codes "BOUND") refl
reason Step = word (codes "STEP") refl
reason Deep = word (codes "DEEP") refl
reason Large = word (codes "LARGE") refl

-- ---- a nest

-- whatever stands behind it
printable_beside : (m : Nest) (after : Block) → IsPrintableNest m → IsPrintableNest (record m { after = after })
printable_beside m after h = record { statements = h.statements; loops = h.loops }

module _ (width : Width) (p : Program) (is : IsProgram77 (fortran77 width) p) where
  nest_is_printable : (counts : Counts) (n m : Nest) → Contains (found_in p) (InNest n) → IsListedFrom counts n m → IsPrintableNest m
  nest_is_printable counts n m c listed =
      let w = listed_is_made counts n m listed in
      let d = declared_for width p counts n w.nest is c w.made in
      subst IsPrintableNest (sym w.same)
      (printable_beside w.nest m.after
      (is_printable d.declarations d.around last_depth w.nest d.are (prepared_for width p counts n w.nest is c w.made)))

  nest_entries : (counts : Counts) (n : Nest) (es : List Entry) → Contains (found_in p) (InNest n) → HasNestEntries counts n es
      → ArePrintableEntries es
  nest_entries counts n es c h =
      let m = h.0 in
      let printable = nest_is_printable counts n m c h.1 in
      subst ArePrintableEntries (sym h.2.2.entries_are)
      (nest_printable m n.number h.2.0 (all_holds m) h.2.2.cycles printable (graph_named m h.2.0 printable.statements h.2.1))

  -- ---- a program

  entries : (counts : Counts) (f : Found) (es : List Entry) → Contains (found_in p) f → HasEntries counts f es
      → ArePrintableEntries es
  entries counts (InNest n) es c h = nest_entries counts n es c h
  entries counts (Kept line r) es c h = subst ArePrintableEntries (sym h) (kept line (reason_word r) (reason r), tt)

  all_entries : (counts : Counts) (fs : List Found) (es : List Entry) → ((f : Found) → Contains fs f → Contains (found_in p) f)
      → HaveEntries counts fs es → ArePrintableEntries es
  all_entries counts [] es c h = subst ArePrintableEntries (sym h) tt
  all_entries counts (f ∷ fs) es c h =
      subst ArePrintableEntries (sym h.2)
      (joined IsPrintableEntry h.0 h.1 (entries counts f h.0 (c f (here f fs)) h.3)
      (all_entries (counts_behind counts f h.0 h.3) fs h.1 (λ g i. c g (there f fs g i)) h.4))

pub listing_lines_are_notes : (width : Width) → ListingLinesAreNotes width
listing_lines_are_notes width p lines is h =
    subst AreNotes (sym h.lines_are) (entry_notes h.entries (all_entries width p is no_counts (found_in p) h.entries (λ f c. c) h.are))
