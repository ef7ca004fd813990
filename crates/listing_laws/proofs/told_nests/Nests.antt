-- The entries of a listing tell its nests.
use Rattle.std.proofs.Common.{◌≡◌, refl, sym, ap, ap₂, ◌∙◌, subst, List, [], ◌∷◌, ◌++◌, map, flat_map}
use Rattle.std.specs.List.{AllByRecursion}
use Rattle.array_form.specs.holds.Holds.{all_holds}
use Rattle.dependence_graph.specs.declared.graphs.Graph.{Graph}
use Rattle.dependence_graph.specs.nest_graph.Graph.{IsGraphOf}
use Rattle.find_nests.specs.Found.{Found, InNest, Kept, found_in}
use Rattle.listing.proofs.programs.ListedParts.{holds_listed}
use Rattle.listing.specs.declared.programs.counts.Counts.{Counts}
use Rattle.listing.specs.graphs.Lines.{DropEntry, Entry}
use Rattle.listing.specs.programs.Causes.{listed_holds}
use Rattle.listing.specs.programs.Listing.{HasCycleEntries, HasEntries, HaveEntries, ListedNest, counts_behind, counts_of, listed_nests}
use Rattle.listing.specs.programs.Listing.{no_counts}
use Rattle.listing_laws.proofs.told_nests.Graphs.{IsSound, are_part, are_sound, graph_is}
use Rattle.listing_laws.specs.told_nests.Graphs.{graph_told}
use Rattle.listing_laws.specs.told_nests.Laws.{LinesTellNests, NestsAreTold}
use Rattle.listing_laws.specs.told_nests.Nests.{ToldNest, by_entries, nests_told, parts_told}
use Rattle.listing_laws.specs.told_nests.Parts.{IsEntryPart}
use Rattle.meaning_laws.proofs.profiles.Lists.{all_at}
use Rattle.nest.specs.Plain.{Nest}

-- ---- one nest

-- what its entries tell
record IsTold (t : ToldNest) : Type 0 where
  graph : IsGraphOf t.last (graph_told t.entries)
  holds : listed_holds t.entries ≡ all_holds t.last
  sound : AllByRecursion (IsSound t.last) t.entries

module _ (n m : Nest) (g : Graph) (es : List Entry) (is : IsGraphOf m g) (h : HasCycleEntries n.number m g es) where
  told_graph : graph_told es ≡ g
  told_graph = ap graph_told h.entries_are ∙ graph_is m n.number g (all_holds m) h.cycles is

  told : IsTold (record { found = n; last = m; entries = es })
  told = record {
    graph = subst (IsGraphOf m) (sym told_graph) is;
    holds = ap listed_holds h.entries_are ∙ holds_listed m n.number g (all_holds m) h.cycles;
    sound = subst (AllByRecursion (IsSound m)) (sym h.entries_are) (are_sound m n.number g (all_holds m) h.cycles is);
  }

  one_part : IsEntryPart es
  one_part = subst IsEntryPart (sym h.entries_are) (are_part m n.number g (all_holds m) h.cycles)

-- ---- one after the other

part : (counts : Counts) (f : Found) (es : List Entry) → HasEntries counts f es → IsEntryPart es
part counts (InNest n) es h = one_part n h.0 h.2.0 es h.2.1 h.2.2
part counts (Kept line r) es h = subst IsEntryPart (sym h) (refl, tt)

parts : (counts : Counts) (fs : List Found) (es : List Entry) (h : HaveEntries counts fs es) → AllByRecursion IsEntryPart (parts_told counts fs es h)
parts counts [] es h = tt
parts counts (f ∷ fs) es h = (part counts f h.0 h.3, parts (counts_behind counts f h.0 h.3) fs h.1 h.4)

joined : (counts : Counts) (fs : List Found) (es : List Entry) (h : HaveEntries counts fs es)
    → es ≡ flat_map (λ (xs : List Entry). xs) (parts_told counts fs es h)
joined counts [] es h = h
joined counts (f ∷ fs) es h = h.2 ∙ ap (λ xs. h.0 ++ xs) (joined (counts_behind counts f h.0 h.3) fs h.1 h.4)

all_told : (counts : Counts) (fs : List Found) (es : List Entry) (h : HaveEntries counts fs es) → AllByRecursion IsTold (nests_told counts fs es h)
all_told counts [] es h = tt
all_told counts (InNest n ∷ fs) es h = (told n h.3.0 h.3.2.0 h.0 h.3.2.1 h.3.2.2, all_told (counts_of h.3.0) fs h.1 h.4)
all_told counts (Kept line r ∷ fs) es h = all_told counts fs h.1 h.4

same_nests : (counts : Counts) (fs : List Found) (es : List Entry) (h : HaveEntries counts fs es)
    → map by_entries (nests_told counts fs es h) ≡ listed_nests counts fs es h
same_nests counts [] es h = refl
same_nests counts (InNest n ∷ fs) es h =
    ap₂ (λ (g : Graph) (ts : List ListedNest). record { found = n; normal = h.3.0; graph = g } ∷ ts)
    (told_graph n h.3.0 h.3.2.0 h.0 h.3.2.1 h.3.2.2) (same_nests (counts_of h.3.0) fs h.1 h.4)
same_nests counts (Kept line r ∷ fs) es h = same_nests counts fs h.1 h.4

pub nests_are_told : NestsAreTold
nests_are_told p lines l = same_nests no_counts (found_in p) l.entries l.are

pub lines_tell_nests : LinesTellNests
lines_tell_nests p lines l =
    let es = l.listing.entries in
    let h = l.listing.are in
    let ts = nests_told no_counts (found_in p) es h in
    let all : AllByRecursion IsTold ts = all_told no_counts (found_in p) es h in
    record {
      cut = record { joined = joined no_counts (found_in p) es h; each = parts no_counts (found_in p) es h };
      graphs = λ t c. (all_at IsTold ts t all c).graph;
      holds = λ t c. (all_at IsTold ts t all c).holds;
      dropped = λ t d w v c i stands pair.
          all_at (IsSound t.last) t.entries (DropEntry d w) ((all_at IsTold ts t all c).sound) i v stands pair;
    }
