-- What is written for a deck that is read: a translation of it, or a listing.
use Rattle.std.proofs.Common.{◌≡◌, Bool, true, false, List, [], ◌++◌, map, ℕ, refl, ap, sym, ◌∙◌, subst, arith}
use Rattle.std.specs.Prelude.{None, filter, flat_map}
use Rattle.std.specs.Str.Lines.{lines}
use Rattle.std.specs.List.{AllByRecursion}
use Rattle.tree.specs.Plain.{Program}
use Rattle.meaning.specs.Deck.{source_of, input_of, has_data, data_line77, data_line90}
use Rattle.meaning.specs.Sequential.{sequential_run}
use Rattle.meaning.specs.Dialect.{fortran77, fortran90}
use Rattle.meaning.specs.Store.{Agree}
use Rattle.meaning.specs.Array.{array_run}
use Rattle.meaning.specs.Relined.{SameButLines, AlikeButLine}
use Rattle.meaning.specs.Profile77.{IsProgram77}
use Rattle.meaning.proofs.Relines.{relined, relined_ends_well}
use Rattle.meaning.proofs.Widths.{widest}
use Rattle.f77_read.proofs.SourceLaws.{read_is_source_program}
use Rattle.f90_grammar.specs.PrintedText.{IsNote, with_line_feed, printed90, program_lines}
use Rattle.f90_laws.specs.read_back.ReadBack.{IsReadAs as IsTextOf}
use Rattle.f90_laws.proofs.read_back.PrintedIsRead.{printed_is_read}
use Rattle.tool.proofs.Renumbered.{same_but_lines}
use Rattle.f90_laws.specs.printed.ReadBack.{block_without_numbers}
use Rattle.f90_laws.proofs.printed.PrintedLinesText.{lines_again}
use Rattle.tool.proofs.Accepted.{accepted}
use Rattle.tool.proofs.Alone.{one_array}
use Rattle.tool.proofs.MarksRead.{same_marks}
use Rattle.tool.proofs.NoteLines.{listed_are_notes}
use Rattle.tool.proofs.SourceLines.{printed_lines_are_lines, program_lines_are_source}
use Rattle.meaning.proofs.decks.Written.{IsSourceLine, source_alone, input_alone, source_before_data, input_after_data, no_input}
use Rattle.tool.specs.declared.commands.commands.Command.TheVariants.{Graph, Vectorise}
use Rattle.tool.specs.Decks.{IsReadAs}
use Rattle.meaning.specs.Keeping.{KeepsMeaning}
use Rattle.tree.specs.declared.width.Width.{Width}
use Rattle.translation.specs.nest_blocks.Answers.{nests_by}
use Rattle.translation.specs.program_translation.Laws.{IsGoodTranslation}
use Rattle.translation.proofs.ProgramTranslation.Good.{translation_is_good}
use Rattle.translation.specs.Translated.{IsVectorised}
use Rattle.find_nests.specs.Found.{found_in}
use Rattle.listing_laws.proofs.notes.Listed.{listing_lines_are_notes}
use Rattle.listing_laws.proofs.read_back.SourceListings.{source_listing_is_caused, source_listing_is_expanded, source_listing_is_read}
use Rattle.listing_laws.proofs.read_back.SourceListings.{source_listing_is_substituted, source_listing_text_lists}
use Rattle.listing_laws.specs.reader.Lists.{Lists}
use Rattle.listing_laws.specs.told_nests.Nests.{by_entries, nests_listed}
use Rattle.listing_laws.proofs.told_nests.Nests.{lines_tell_nests, nests_are_told}
use Rattle.translation.proofs.NestBlocks.Blocks.{answers_are_blocks}
use Rattle.translation.proofs.NestBlocks.Listed.{answers_are_listed}
use Rattle.listing.specs.programs.Listing.{IsListing, IsListingText, ListedNest, listed_nests, no_counts}
use Rattle.translation.proofs.ProgramMarks.Law.{translation_is_marked}
use Rattle.translation.proofs.ProgramMarks.Relined.{marked_on_other_lines}
use Rattle.tool.specs.Translation.{data_part, IsTranslationText}
use Rattle.tool.specs.Listings.{IsListedBeside, IsListingOf, is_listed, listed_lines}
use Rattle.tool.specs.Marked.{IsMarked, IsMarkedBy}
use Rattle.tool.specs.Printed.{IsPrinted}
use Rattle.tool.specs.Translates.{IsAccepted, Translates}
use Rattle.tool.specs.Vectorises.{Vectorises, VectorisesDeck}

-- a program keeps the meaning of another one where it is read with other line numbers, too
relined_keeps : (width : Width) (p q r : Program) (input : List ℕ) → SameButLines q r → KeepsMeaning width p q input → KeepsMeaning width p r input
relined_keeps width p q r input same keeps =
    let alike : AlikeButLine (array_run width q input) (array_run width r input) = relined (fortran90 width) None q r input same in
    record {
      ends = λ well. relined_ends_well (array_run width q input) (array_run width r input) alike (keeps.ends well);
      output = λ well. keeps.output well ∙ alike.written;
      store = λ well. subst (Agree p (sequential_run width p input).store) alike.store (keeps.store well);
    }

-- the text is read back where the program stands alone
module _ (ls : List (List ℕ)) (plain : AllByRecursion IsSourceLine ls) where
  source_behind : (b : Bool) (input : List ℕ) → source_of data_line90 (flat_map with_line_feed ls ++ data_part b input) ≡ flat_map with_line_feed ls
  source_behind false input = source_alone ls plain
  source_behind true input = source_before_data ls input plain

  input_behind : (b : Bool) (input : List ℕ) → (b ≡ false → input ≡ []) → input_of data_line90 (flat_map with_line_feed ls ++ data_part b input) ≡ input
  input_behind false input none = input_alone ls plain ∙ sym (none refl)
  input_behind true input none = input_after_data ls input plain

-- ---- a text that is written for a program

-- the lines list the program, with the graphs of these nests
abbrev ListNests : Program → List ListedNest → List (List ℕ) → Type 0
ListNests p ts lines = (l : Lists p lines) × (listed_nests no_counts (found_in p) l.listing.entries l.listing.are ≡ ts)

pub record Holds (width : Width) (deck text : List ℕ) : Type 0 where
  pub translates : Translates width deck text
  pub listed : IsListedBeside width deck text
  pub marked : IsMarked width deck text
  pub printed : IsPrinted width deck text
  pub vectorised : VectorisesDeck width deck text

module _ (width : Width) (deck text : List ℕ) (p : Program) (h : IsReadAs (Vectorise width) deck p)
    (written : IsTranslationText p (has_data data_line77 deck) (input_of data_line77 deck) text) where
  abbrev there : Bool
  there = has_data data_line77 deck

  abbrev input : List ℕ
  input = input_of data_line77 deck

  abbrev q : Program
  q = written.translated

  abbrev notes : List (List ℕ)
  notes = written.notes

  abbrev v : IsVectorised p notes q
  v = written.is

  abbrev nests : List ListedNest
  nests = nests_by v.answers.answers

  source : IsProgram77 (fortran77 width) p
  source = read_is_source_program (fortran77 width) (source_of data_line77 deck) h.reads.source.cards p (let l = widest width in omega arith) h.reads.source.are_cards h.reads.source.program

  listing : (l : IsListing p notes) × (listed_nests no_counts (found_in p) l.entries l.are ≡ nests)
  listing = answers_are_listed p notes v.blocks v.made v.answers

  good : IsGoodTranslation width p q
  good = translation_is_good width p q v.blocks v.made source (answers_are_blocks width p notes v.blocks v.made source v.answers) v.placed v.limits

  are_notes : AllByRecursion IsNote notes
  are_notes = listing_lines_are_notes width p notes source listing.0

  plain : AllByRecursion IsSourceLine (program_lines q notes)
  plain = program_lines_are_source q notes good.program are_notes

  source_is : source_of data_line90 text ≡ printed90 q notes
  source_is = ap (source_of data_line90) written.printed ∙ source_behind (program_lines q notes) plain there input

  read : IsTextOf q (source_of data_line90 text)
  read = subst (IsTextOf q) (sym source_is) (printed_is_read q notes good.program are_notes)

  is_accepted : IsAccepted (source_of data_line90 text) read.program
  is_accepted = accepted (source_of data_line90 text) read.program read.reads

  -- the notes are the listed lines
  listed_is : listed_lines text ≡ notes
  listed_is =
      ap (λ (t : List ℕ). filter is_listed (lines t)) source_is
      ∙ ap (filter is_listed) (lines_again (program_lines q notes) (printed_lines_are_lines q notes good.program are_notes))
      ∙ listed_are_notes q notes good.program are_notes

  listed_nests_are : ListNests p nests (listed_lines text)
  listed_nests_are =
      subst (ListNests p nests) (sym listed_is) (
        record {
          listing = listing.0;
          read = source_listing_is_read width (source_of data_line77 deck) p notes h.reads.source listing.0;
          private_names = source_listing_is_expanded width (source_of data_line77 deck) p notes h.reads.source listing.0;
          inductions = source_listing_is_substituted width (source_of data_line77 deck) p notes h.reads.source listing.0;
          causes = source_listing_is_caused width (source_of data_line77 deck) p notes h.reads.source listing.0;
        },
        listing.1,
      )

  marks : IsMarkedBy p nests read.program
  marks = record {
    blocks = v.blocks;
    body = sym read.same.body ∙ ap block_without_numbers v.placed.body;
    marked =
        marked_on_other_lines nests v.blocks q.body read.program.body (same_marks q.body read.program.body read.same.body)
        (translation_is_marked width p q v.answers.answers v.blocks v.made source v.answers.are v.answers.placed v.placed);
  }

  abbrev lists : Lists p (listed_lines text)
  lists = listed_nests_are.0

  keeps : (given : List ℕ) → KeepsMeaning width p read.program given
  keeps given = relined_keeps width p q read.program given (same_but_lines q read.program read.same) (good.keeps given)

  -- by the entries of the notes
  marks_by_entries : IsMarkedBy p (map by_entries (nests_listed p (listed_lines text) lists)) read.program
  marks_by_entries =
      subst (λ (ts : List ListedNest). IsMarkedBy p ts read.program)
      (sym (nests_are_told p (listed_lines text) lists.listing ∙ listed_nests_are.1)) marks

  vectorised : Vectorises width p text
  vectorised =
      let tells = lines_tell_nests p (listed_lines text) lists in
      record {
        translation = read.program;
        accepted = is_accepted;
        keeps = keeps;
        lists = lists;
        tells = tells;
        alone = one_array p read.program (listed_lines text) lists tells marks_by_entries;
        marked = marks_by_entries;
      }

  same_input : input_of data_line90 text ≡ input_of data_line77 deck
  same_input = ap (input_of data_line90) written.printed ∙ input_behind (program_lines q notes) plain there input (no_input data_line77 deck)

  pub holds : Holds width deck text
  holds = record {
    translates = record {
      program = p;
      read = h;
      translation = read.program;
      accepted = is_accepted;
      keeps = keeps;
      input = same_input;
    };
    listed = record { program = p; read = h; lists = lists };
    marked = record {
      program = p;
      read = h;
      lists = lists;
      translation = read.program;
      accepted = is_accepted;
      marked = subst (λ (ts : List ListedNest). IsMarkedBy p ts read.program) (sym listed_nests_are.1) marks;
    };
    printed = record { program = p; read = h; text_is = written };
    vectorised = record { program = p; read = h; is = vectorised; input = same_input };
  }

-- ---- a text that is written for a listing

pub listing_holds : (width : Width) (deck text : List ℕ) (p : Program) → IsReadAs (Graph width) deck p → IsListingText p text → IsListingOf width deck text
listing_holds width deck text p h listing =
    let w = source_listing_text_lists width (source_of data_line77 deck) p text h.reads.source listing in
    record { program = p; read = h; lists = w.0; tells = lines_tell_nests p (lines text) w.0; ended = w.1 }
