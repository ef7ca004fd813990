-- From the lines that are listed of a source its entries are read.
use Rattle.std.proofs.Common.{◌≡◌, refl, sym, ap, ◌∙◌, ℕ, ◌<◌, ◌≤◌, ◌==◌, false, Some, List, [], ◌∷◌, map, flat_map, arith, ap₂}
use Rattle.std.proofs.Common.{lit<}
use Rattle.std.proofs.lemmas.Bool.{ne_eqb}
use Rattle.std.specs.List.{AllByRecursion}
use Rattle.std.specs.Str.Lines.{lines}
use Rattle.f77_grammar.specs.Reading77.{Reads77}
use Rattle.f77_grammar.specs.program.EndDo.{with_loop_labels}
use Rattle.f77_laws.proofs.CardStatements.{read_cards_are_source}
use Rattle.f77_laws.proofs.Programs.{read_is_program}
use Rattle.meaning.specs.Dialect.{fortran77}
use Rattle.tree.specs.declared.width.Width.{Width}
use Rattle.meaning.specs.Profile77.{IsProgram77}
use Rattle.tree.specs.Plain.{Program}
use Rattle.listing.specs.graphs.Lines.{Entry}
use Rattle.listing.specs.programs.Listing.{IsListingText}
use Rattle.listing.proofs.programs.Causes.{listed_nests_have_causes}
use Rattle.listing.proofs.programs.Inductions.{listed_nests_are_substituted}
use Rattle.listing.proofs.programs.Private.{listed_nests_are_expanded}
use Rattle.f90_grammar.specs.PrintedText.{IsNote, with_line_feed}
use Rattle.f90_laws.proofs.printed.PrintedLinesText.{IsLine, lines_again}
use Rattle.listing_laws.proofs.notes.Listed.{listing_lines_are_notes}
use Rattle.listing_laws.specs.reader.Lists.{Lists}
use Rattle.listing_laws.specs.reader.Reader.{read_listing}
use Rattle.listing_laws.proofs.read_back.Listed.{program_listing_is_read}
use Rattle.listing_laws.specs.read_back.Laws.{SourceListingIsRead, SourceListingTextIsRead, SourceListingTextLists}
use Rattle.listing_laws.specs.read_back.Laws.{SameLinesListTheSame, SourceListingIsCaused, SourceListingIsExpanded}
use Rattle.listing_laws.specs.read_back.Laws.{SourceListingIsSubstituted}
use Rattle.meaning.proofs.Widths.{widest}

is_program : (width : Width) (source : List ℕ) (p : Program) → Reads77 (fortran77 width) source p → IsProgram77 (fortran77 width) p
is_program width source p h =
    let text = h.program.text in
    let cards = read_cards_are_source source h.cards text h.are_cards h.program.statements in
    read_is_program (fortran77 width) (with_loop_labels text) p (let l = widest width in omega arith) h.program.reads cards.labelled.statements cards.labelled.few

pub source_listing_is_read : (width : Width) → SourceListingIsRead width
source_listing_is_read width source p lines h listing =
    program_listing_is_read width p lines (is_program width source p h) listing

pub source_listing_is_expanded : (width : Width) → SourceListingIsExpanded width
source_listing_is_expanded width source p lines h listing =
    listed_nests_are_expanded width p lines (is_program width source p h) listing

pub source_listing_is_substituted : (width : Width) → SourceListingIsSubstituted width
source_listing_is_substituted width source p lines h listing =
    listed_nests_are_substituted width p lines (is_program width source p h) listing

pub source_listing_is_caused : (width : Width) → SourceListingIsCaused width
source_listing_is_caused width source p lines h listing =
    listed_nests_have_causes width p lines (is_program width source p h) listing

-- ---- its text

not_that : (low c d : ℕ) → low ≤ c → d < low → (c == d) ≡ false
not_that low c d h k = ne_eqb c d (λ same. omega (arith, h, k, same))

inside : (line : List ℕ) → AllByRecursion (λ c. (32 ≤ c) × (c ≤ 126)) line → IsLine line
inside [] h = tt
inside (c ∷ cs) h = ((not_that 32 c 10 h.0.0 (lit< tt), not_that 32 c 13 h.0.0 (lit< tt)), inside cs h.1)

each_inside : (ls : List (List ℕ)) → AllByRecursion IsNote ls → AllByRecursion IsLine ls
each_inside [] h = tt
each_inside (l ∷ ls) h = (inside l h.0.printable, each_inside ls h.1)

module _ (width : Width) (source : List ℕ) (p : Program) (text : List ℕ) (h : Reads77 (fortran77 width) source p) (listed : IsListingText p text) where
  same_lines : lines text ≡ listed.lines
  same_lines =
      let notes = listing_lines_are_notes width p listed.lines (is_program width source p h) listed.listing in
      ap lines listed.text_is ∙ lines_again listed.lines (each_inside listed.lines notes)

  read_from_text : read_listing (lines text) ≡ map Some listed.listing.entries
  read_from_text = ap read_listing same_lines ∙ source_listing_is_read width source p listed.lines h listed.listing

  text_lists : Lists p (lines text) × (text ≡ flat_map with_line_feed (lines text))
  text_lists = (
    record {
      listing = record {
        entries = listed.listing.entries;
        are = listed.listing.are;
        lines_are = same_lines ∙ listed.listing.lines_are;
      };
      read = read_from_text;
      private_names = source_listing_is_expanded width source p listed.lines h listed.listing;
      inductions = source_listing_is_substituted width source p listed.lines h listed.listing;
      causes = source_listing_is_caused width source p listed.lines h listed.listing;
    },
    listed.text_is ∙ ap (flat_map with_line_feed) (sym same_lines),
  )

pub source_listing_text_is_read : (width : Width) → SourceListingTextIsRead width
source_listing_text_is_read width source p text h listed = read_from_text width source p text h listed

pub source_listing_text_lists : (width : Width) → SourceListingTextLists width
source_listing_text_lists width source p text h listed = text_lists width source p text h listed

-- ---- two listings

each_same : (es fs : List Entry) → map Some es ≡ map Some fs → es ≡ fs
each_same [] [] h = refl
each_same [] (f ∷ fs) h = cc
each_same (e ∷ es) [] h = cc
each_same (e ∷ es) (f ∷ fs) h =
    let first : e ≡ f = cc in
    let more : map Some es ≡ map Some fs = cc in ap₂ (λ x xs. x ∷ xs) first (each_same es fs more)

pub same_lines_list_the_same : (width : Width) → SameLinesListTheSame width
same_lines_list_the_same width source other p q lines h k listing others =
    each_same listing.entries others.entries
    (sym (source_listing_is_read width source p lines h listing) ∙ source_listing_is_read width other q lines k others)
