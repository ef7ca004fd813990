-- What is listed of nests and kept loops, one after the other.
use Rattle.std.proofs.Common.{◌≡◌, ℕ, ◌+◌, ◌<◌, ◌≤◌, Result, Ok, Err, List, [], ◌∷◌, ◌++◌, map, take, length, get_or, refl, sym, ap, ◌∙◌, subst, append_assoc}
use Rattle.std.specs.Prelude.{IfOk}
use Rattle.std.specs.List.{flat_map}
use Rattle.std.proofs.lemmas.List.{append-nil, map-append, take_all}
use Rattle.array_form.specs.holds.Holds.{all_holds}
use Rattle.dependence_graph.specs.declared.graphs.Cycle.{Cycle}
use Rattle.dependence_graph.specs.declared.graphs.Graph.{Graph}
use Rattle.dependence_graph.specs.declared.graphs.Hold.{Hold}
use Rattle.emission.specs.emission_pieces.Cycles.{AreCyclesOf}
use Rattle.tree.specs.declared.programs.Line.{Line}
use Rattle.tree.specs.Plain.{Program}
use Rattle.f90_grammar.specs.PrintedText.{with_line_feed}
use Rattle.f90_print.specs.Notes.{line_text}
use Rattle.nest.specs.Plain.{Nest}
use Rattle.dependence_graph.specs.nest_graph.Graph.{IsGraphOf}
use Rattle.find_nests.specs.declared.reasons.Reason.{Reason}
use Rattle.find_nests.specs.declared.search.Found.{Found as Found'}
use Rattle.find_nests.specs.Found.{Found, InNest, Kept, found_in}
use Rattle.find_nests.specs.View.{found_of}
use Rattle.listing.specs.graphs.Lines.{Entry, KeepEntry}
use Rattle.listing.specs.graphs.Listing.{lines_of_entries, lines_of_entry, listing_of}
use Rattle.listing.proofs.graphs.LoopLines.{entries-append, one_more}
use Rattle.listing.specs.declared.programs.counts.Counts.{Counts}
use Rattle.listing.specs.declared.programs.nests.Listed.{Listed}
use Rattle.listing.specs.programs.Listed.{IsListedAs}
use Rattle.listing.specs.programs.Listing.{HasEntries, HaveEntries, IsListing, IsListingText, counts_behind, counts_of}
use Rattle.listing.specs.programs.Listing.{no_counts}
use Rattle.listing.specs.programs.Listing.{kept_loop_entry, reason_word, tested_entries}
use Rattle.listing.specs.programs.Stages.{IsLastGraph, IsListedFrom}
use Rattle.listing.specs.programs.Testable.{AreTestsOf}

abbrev GivesTexts : {E : Type 0} → Result (List Line) E → List (List ℕ) → Type 0
GivesTexts r lines = IfOk r (λ all. map line_text all ≡ lines)

-- ---- a nest

pub tests_of : (number : ℕ) (n : Nest) (g : Graph) (holds : List Hold) (cycles : List Cycle) (lines : List Line)
    → IsGraphOf n g → holds ≡ all_holds n → AreCyclesOf n g.edges holds cycles
    → map line_text lines ≡ listing_of n number g holds cycles → AreTestsOf number n g holds (map line_text lines)
tests_of number n g holds cycles lines graph h are l = record {
  graph = graph;
  holds_are = h;
  entries = tested_entries number n g cycles;
  listed = record {
    cycles = cycles;
    cycles_are = subst (λ (hs : List Hold). AreCyclesOf n g.edges hs cycles) h are;
    entries_are = refl;
  };
  lines_are = l ∙ ap (λ hs. listing_of n number g hs cycles) h;
}

-- ---- one that was found

pub listed_nest : (counts : Counts) (found n : Nest) (g : Graph) (holds : List Hold) (r : Listed)
    → (listed : IsListedFrom counts found n) → IsLastGraph listed.stages.split listed.stages.graph g
    → AreTestsOf found.number n g holds (map line_text r.lines) → r.counts ≡ counts_of n → IsListedAs counts (InNest found) r
listed_nest counts found n g holds r t kept h e = record {
  entries = h.entries;
  are = (n, t, (g, h.graph, h.listed, kept));
  lines = h.lines_are;
  behind = e;
}

pub found_listed : {E : Type 0} (counts : Counts) (r : Result Listed E) (f g : Found) → g ≡ f → IfOk r (IsListedAs counts f)
    → IfOk r (IsListedAs counts g)
found_listed counts r f g e h = subst (λ (f : Found). IfOk r (IsListedAs counts f)) (sym e) h

pub kept_texts : {E : Type 0} (r : Result (List Line) E) (line : ℕ) (reason : Reason) (word : List ℕ)
    → word ≡ reason_word reason → GivesTexts r (lines_of_entry (KeepEntry line word))
    → GivesTexts r (lines_of_entries (kept_loop_entry line reason))
kept_texts (Err e) line reason word w h = tt
kept_texts (Ok all) line reason word w h =
    h ∙ ap (λ (t : List ℕ). lines_of_entry (KeepEntry line t)) w
    ∙ sym (append-nil (lines_of_entry (KeepEntry line (reason_word reason))))

pub kept_listed : (counts : Counts) (line : ℕ) (reason : Reason) (f : Found) (r : Listed) → f ≡ Kept line reason
    → map line_text r.lines ≡ lines_of_entries (kept_loop_entry line reason) → r.counts ≡ counts → IsListedAs counts f r
kept_listed counts line reason f r is h e =
    subst (λ (f : Found). IsListedAs counts f r) (sym is)
    (record { entries = kept_loop_entry line reason; are = refl; lines = h; behind = e })

-- ---- one more

-- what is made before and by what was found, which is listed so
abbrev pub counts_after : (counts : Counts) (fs : List Found) (es : List Entry) → HaveEntries counts fs es → Counts
counts_after counts [] es h = counts
counts_after counts (f ∷ fs) es h = counts_after (counts_behind counts f h.0 h.3) fs h.1 h.4

-- what was found is listed so, and so much is made by then
pub record AreListed (fs : List Found) (lines : List (List ℕ)) (counts : Counts) : Type 0 where
  pub entries : List Entry
  pub are : HaveEntries no_counts fs entries
  pub lines_are : lines ≡ lines_of_entries entries
  pub counts_are : counts ≡ counts_after no_counts fs entries are

record HaveMore (counts : Counts) (fs : List Found) (es last : List Entry) (f : Found) (next : Counts) : Type 0 where
  are : HaveEntries counts (fs ++ f ∷ []) (es ++ last)
  counts_are : next ≡ counts_after counts (fs ++ f ∷ []) (es ++ last) are

have_more : (counts : Counts) (fs : List Found) (es last : List Entry) (f : Found) (h : HaveEntries counts fs es)
    (k : HasEntries (counts_after counts fs es h) f last)
    → HaveMore counts fs es last f (counts_behind (counts_after counts fs es h) f last k)
have_more counts [] es last f e k =
    record { are = (last, [], ap (λ u. u ++ last) e ∙ sym (append-nil last), k, refl); counts_are = refl }
have_more counts (g ∷ fs) es last f h k =
    let rest = have_more (counts_behind counts g h.0 h.3) fs h.1 last f h.4 k in
    record {
      are = (h.0, h.1 ++ last, ap (λ u. u ++ last) h.2 ∙ append_assoc h.0 h.1 last, h.3, rest.are);
      counts_are = rest.counts_are;
    }

lines_more : (fs : List Found) (f : Found) (old new : List (List ℕ)) (counts : Counts) (r : Listed) → AreListed fs old counts
    → IsListedAs counts f r → new ≡ old ++ map line_text r.lines → AreListed (fs ++ f ∷ []) new r.counts
lines_more fs f old new counts r h k e = by (subst (λ (m : Counts). IsListedAs m f r) h.counts_are k)
  where
    by : IsListedAs (counts_after no_counts fs h.entries h.are) f r → AreListed (fs ++ f ∷ []) new r.counts
    by i =
        let more = have_more no_counts fs h.entries i.entries f h.are i.are in
        record {
          entries = h.entries ++ i.entries;
          are = more.are;
          lines_are =
              e ∙ ap (λ u. u ++ map line_text r.lines) h.lines_are ∙ ap (λ u. lines_of_entries h.entries ++ u) i.lines
              ∙ sym (entries-append h.entries i.entries);
          counts_are = i.behind ∙ more.counts_are;
        }

pub listed_none : (items : List Found') → AreListed (map found_of (take 0 items)) [] no_counts
listed_none items = record { entries = []; are = refl; lines_are = refl; counts_are = refl }

pub listed_more : (items : List Found') (i : ℕ) (x : Found') (old new : List Line) (counts next : Counts) (r : Listed)
    → i < length items → x ≡ get_or items i x → AreListed (map found_of (take i items)) (map line_text old) counts
    → IsListedAs counts (found_of x) r → new ≡ old ++ r.lines → next ≡ r.counts
    → AreListed (map found_of (take (i + 1) items)) (map line_text new) next
listed_more items i x old new counts next r h is before this now behind =
    let one : map found_of (take (i + 1) items) ≡ map found_of (take i items) ++ found_of x ∷ [] =
    ap (map found_of) (one_more items i x h is) ∙ map-append found_of (take i items) (x ∷ []) in
    let lines : map line_text new ≡ map line_text old ++ map line_text r.lines
    = ap (map line_text) now ∙ map-append line_text old r.lines in
    subst (AreListed (map found_of (take (i + 1) items)) (map line_text new)) (sym behind)
    (subst (λ (fs : List Found). AreListed fs (map line_text new) r.counts) (sym one)
    (lines_more (map found_of (take i items)) (found_of x) (map line_text old) (map line_text new) counts r before this lines))

-- all that was found
pub listed_all : (p : Program) (items : List Found') (i : ℕ) (all lines : List Line) (counts : Counts)
    → map found_of items ≡ found_in p → length items ≤ i
    → AreListed (map found_of (take i items)) (map line_text all) counts → lines ≡ all → IsListing p (map line_text lines)
listed_all p items i all lines counts is h k e =
    let whole : map found_of (take i items) ≡ found_in p = ap (map found_of) (take_all i items h) ∙ is in
    let l : AreListed (found_in p) (map line_text lines) counts =
    subst (λ (fs : List Found). AreListed fs (map line_text lines) counts) whole
    (subst (λ (ls : List Line). AreListed (map found_of (take i items)) (map line_text ls) counts) (sym e) k) in
    record { entries = l.entries; are = l.are; lines_are = l.lines_are }

-- ---- the text

pub text_given : {A E : Type 0} (r : Result A E) (items : A → List ℕ) (p : Program) (lines given : List Line) → given ≡ lines → IsListing p (map line_text lines)
    → IfOk r (λ a. items a ≡ flat_map with_line_feed (map line_text given)) → IfOk r (λ a. IsListingText p (items a))
text_given (Err e) items p lines given same h k = tt
text_given (Ok a) items p lines given same h k = record {
  lines = map line_text lines;
  listing = h;
  text_is = k ∙ ap (λ (l : List Line). flat_map with_line_feed (map line_text l)) same;
}
