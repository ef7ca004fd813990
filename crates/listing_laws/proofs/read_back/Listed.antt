-- The entries of the listing of a program can be listed, so that they are read from its lines.
use Rattle.std.proofs.Common.{sym, ap, ◌∙◌, subst, ℕ, ◌+◌, ◌≤◌, ◌<◌, ◌^◌, List, [], ◌∷◌, length, Contains, arith}
use Rattle.std.proofs.lemmas.List.Elements.{All-weaker}
use Rattle.prepared_passes.proofs.ConvertedNests.Rounds.{nest_number}
use Rattle.dependence_graph.specs.nest_graph.References.{references_of}
use Rattle.find_nests.proofs.FoundLaws.{kept_is_loop}
use Rattle.find_nests.specs.Found.{Found, InNest, Kept, found_in}
use Rattle.find_nests.specs.LookedAt.{looked_at}
use Rattle.find_nests.specs.declared.reasons.Reason.{Reason}
use Rattle.meaning.specs.Blocks.{outermost}
use Rattle.meaning.specs.Dialect.{fortran77}
use Rattle.tree.specs.declared.width.Width.{Width}
use Rattle.meaning.specs.Profile77.{IsProgram77}
use Rattle.tree.specs.Plain.{Block, Program}
use Rattle.listing.specs.declared.programs.counts.Counts.{Counts}
use Rattle.listing.specs.graphs.Lines.{Entry}
use Rattle.listing_laws.proofs.notes.Printable.{joined}
use Rattle.listing_laws.proofs.prepared.Listed.{is_tidy}
use Rattle.listing_laws.proofs.reader.Rejoined.{listing-is-read}
use Rattle.listing_laws.specs.prepared.Laws.{AreCounted}
use Rattle.listing_laws.specs.reader.Listable.{IsListable}
use Rattle.listing_laws.specs.reader.Reader.{read_listing}
use Rattle.listing.proofs.programs.Arranging.{last_depth}
use Rattle.listing.proofs.programs.Sources.{declared_for, listed_nest_is_testable, prepared_for}
use Rattle.listing.proofs.programs.Stages.{listed_is_made}
use Rattle.listing.specs.programs.Counted as listing
use Rattle.listing.specs.programs.Listing.{HasNestEntries, HasEntries, HaveEntries, counts_behind, no_counts}
use Rattle.listing.specs.programs.Stages.{IsListedFrom}
use Rattle.nest.specs.Bodies.{Standing, nest_statements}
use Rattle.nest.specs.Plain.{Nest}
use Rattle.meaning_laws.proofs.profiles.Lists.{here, there}
use Rattle.pass_laws.proofs.NestLoops.Standing.{loop_stands}
use Rattle.listing_laws.proofs.read_back.Entries.{AreListable, nest_listable}
use Rattle.listing_laws.proofs.read_back.Made.{IsTidyNest}
use Rattle.listing_laws.specs.read_back.Laws.{ProgramListingIsRead}

-- ---- counts

few_references : (k : ℕ) → k + 1 < 2 ^ 32 → k ≤ 2 ^ 63
few_references k h = let less : k + 1 < 4294967296 = h in let most : k ≤ 9223372036854775808 = omega (arith, less) in most

counted : (m : Nest) → listing.AreCounted m → AreCounted m
counted m h = record {
  statements = (let less : length (nest_statements m) + 1 < 4294967296 = h.statements in
      let most : length (nest_statements m) ≤ 1099511627776 = omega (arith, less) in most);
  references = All-weaker (λ (x : Standing). length (references_of x) + 1 < 2 ^ 32) (λ (x : Standing). length (references_of x) ≤ 2 ^ 63)
      (λ x l. few_references (length (references_of x)) l) (nest_statements m) h.references;
}

-- whatever stands behind the nest
tidy_beside : (m : Nest) (after : Block) → IsTidyNest m → IsTidyNest (record m { after = after })
tidy_beside m after h = record { statements = h.statements; loops = h.loops }

module _ (width : Width) (p : Program) (is : IsProgram77 (fortran77 width) p) where
  -- ---- a nest

  -- what stands in it has small numbers
  record IsReadable (m : Nest) : Type 0 where
    line : m.line < 4294967296
    tidy : IsTidyNest m
    few : length (nest_statements m) ≤ 2 ^ 40

  readable : (counts : Counts) (n m : Nest) → Contains (found_in p) (InNest n) → IsListedFrom counts n m → IsReadable m
  readable counts n m c listed =
      let w = listed_is_made counts n m listed in
      let d = declared_for width p counts n w.nest is c w.made in
      let prepared = prepared_for width p counts n w.nest is c w.made in
      let numbers = counted w.nest w.made.numbered in
      subst IsReadable (sym w.same)
      (record {
        line = prepared.parts.line.1;
        tidy = tidy_beside w.nest m.after (is_tidy d.declarations d.around last_depth w.nest d.are prepared numbers);
        few = numbers.statements;
      })

  nest_entries : (counts : Counts) (n : Nest) (es : List Entry) → Contains (found_in p) (InNest n) → HasNestEntries counts n es
      → AreListable es
  nest_entries counts n es c h =
      let m = h.0 in
      let r = readable counts n m c h.1 in
      let line = r.line in
      let number = nest_number p 0 (looked_at p.declarations p.body) n (omega arith) c in
      subst AreListable (sym h.2.2.entries_are)
      (nest_listable m n.number h.2.0 h.2.2.cycles (omega (arith, number)) (omega (arith, line))
      (listed_nest_is_testable width p counts n m is c h.1) r.tidy r.few h.2.1 h.2.2.cycles_are)

  -- ---- a program

  kept_line : (line : ℕ) (r : Reason) → Contains (found_in p) (Kept line r) → line < 2 ^ 32
  kept_line line r h =
      let f = kept_is_loop p line r h in
      let s = loop_stands p.declarations p.body 0 [] outermost f.loop is.statements f.stands in
      subst (λ (l : ℕ). l < 2 ^ 32) (sym f.at) s.is.0.1

  entries : (counts : Counts) (f : Found) (es : List Entry) → Contains (found_in p) f → HasEntries counts f es → AreListable es
  entries counts (InNest n) es c h = nest_entries counts n es c h
  entries counts (Kept line r) es c h =
      let small : line < 4294967296 = kept_line line r c in subst AreListable (sym h) (omega (arith, small), tt)

  all_entries : (counts : Counts) (fs : List Found) (es : List Entry) → ((f : Found) → Contains fs f → Contains (found_in p) f)
      → HaveEntries counts fs es → AreListable es
  all_entries counts [] es c h = subst AreListable (sym h) tt
  all_entries counts (f ∷ fs) es c h =
      subst AreListable (sym h.2)
      (joined IsListable h.0 h.1 (entries counts f h.0 (c f (here f fs)) h.3)
      (all_entries (counts_behind counts f h.0 h.3) fs h.1 (λ g i. c g (there f fs g i)) h.4))

pub program_listing_is_read : (width : Width) → ProgramListingIsRead width
program_listing_is_read width p lines is h =
    ap read_listing h.lines_are ∙ listing-is-read h.entries (all_entries width p is no_counts (found_in p) h.entries (λ f c. c) h.are)
