-- What is listed of a prepared nest may stand as notes, and is read back.
use Rattle.std.proofs.Common.{◌≡◌, refl, sym, subst, ◌∙◌, ℕ, ◌<◌, ◌≤◌, ◌^◌, ◌==◌, Bool, true, false, ◌||◌}
use Rattle.std.proofs.Common.{List, [], ◌∷◌, ◌++◌, length, map, Some, arith, lit≤}
use Rattle.std.specs.List.{AllByRecursion, list_all}
use Rattle.std.proofs.lemmas.Bool.{and_parts}
use Rattle.components.specs.Lists.{Each}
use Rattle.dependence_graph.specs.nest_graph.References.{references_of}
use Rattle.listing.specs.graphs.Listing.{loop_numbers}
use Rattle.array_form.specs.holds.Holds.{all_holds}
use Rattle.listing.specs.graphs.Lines.{Entry}
use Rattle.listing.specs.graphs.Listing.{lines_of_entries}
use Rattle.listing.specs.programs.Listing.{tested_entries}
use Rattle.listing_laws.proofs.notes.Arrays.{graph_named}
use Rattle.listing_laws.proofs.notes.Entries.{nest_printable}
use Rattle.listing_laws.proofs.notes.Made.{IsPrintableNest, IsPrintableStanding, counter_printable}
use Rattle.listing_laws.proofs.notes.Notes.{entry_notes}
use Rattle.listing_laws.proofs.notes.Printable.{ArePrintable, IsPrintable, name_character as printable_character}
use Rattle.listing_laws.proofs.prepared.Over.{nest_loops_over, statements_over}
use Rattle.listing_laws.proofs.read_back.Entries.{nest_listable}
use Rattle.listing_laws.proofs.read_back.Made.{IsTidy, IsTidyIn, IsTidyLoop, IsTidyNest}
use Rattle.listing_laws.proofs.read_back.Words.{counter, name_character as word_character}
use Rattle.listing_laws.proofs.reader.Rejoined.{listing-is-read}
use Rattle.listing_laws.specs.prepared.Laws.{AreCounted, PreparedNestIsPrintable, PreparedNestIsTidy}
use Rattle.f90_grammar.specs.PrintedText.{IsNote}
use Rattle.listing_laws.specs.reader.Listable.{IsSmall, IsWord}
use Rattle.listing_laws.specs.reader.Reader.{read_listing}
use Rattle.meaning.specs.SymbolicNames.{IsLongName, is_digit, is_letter}
use Rattle.meaning.specs.Profile90.{AreDeclarations, IsDeclaration}
use Rattle.meaning.specs.Typed.{declared}
use Rattle.meaning_laws.proofs.profiles.Lists.{all_at}
use Rattle.meaning_laws.proofs.profiles.Names.{found}
use Rattle.nest.specs.Bodies.{Standing, nest_statements}
use Rattle.nest.specs.Plain.{Branches, Choice, Jump, Label, Loop, Nest, Part, Parts, Run, Turns, branch, no_branches, no_parts}
use Rattle.nest.specs.Plain.{part}
use Rattle.nest_order.specs.orders.Lists.{In}
use Rattle.pass_laws.proofs.NormalFacts.LoopWalk as walk
use Rattle.pass_laws.proofs.NormalFacts.Tables.{all_in, each_from}
use Rattle.pass_laws.proofs.PreparedNests.Ready.{prepared_nest_is_ready, round_statement}
use Rattle.pass_laws.proofs.PreparedNests.Walks.{Follow}
use Rattle.pass_laws.specs.prepared_nests.Loops as loops
use Rattle.pass_laws.specs.prepared_nests.Loops.{IsPreparedLoop}
use Rattle.pass_laws.specs.prepared_nests.Nests.{IsPrepared}
use Rattle.tree.specs.Plain.{Declaration}

-- ---- long names

either_character : (c : ℕ) (P : ℕ → Type 0) → ((c : ℕ) → (is_letter c || is_digit c) ≡ true → P c) → P 95
    → (is_letter c || is_digit c || c == 95) ≡ true → P c
either_character c P own last h = by (is_letter c) (is_digit c) refl refl h
  where
    same : (c == 95) ≡ true → 95 ≡ c
    same e = grind arith

    two : (a b : Bool) → is_letter c ≡ a → is_digit c ≡ b → (a || b) ≡ true → (is_letter c || is_digit c) ≡ true
    two a b e f g = (λ i. e i || f i) ∙ g

    by : (a b : Bool) → is_letter c ≡ a → is_digit c ≡ b → (a || b || c == 95) ≡ true → P c
    by true b e f g = own c (two true b e f refl)
    by false true e f g = own c (two false true e f refl)
    by false false e f g = subst P (same g) last

long_printable : (x : List ℕ) → list_all (λ c. is_letter c || is_digit c || c == 95) x ≡ true → ArePrintable x
long_printable [] h = tt
long_printable (c ∷ cs) h =
    let p = and_parts (is_letter c || is_digit c || c == 95) (list_all (λ c. is_letter c || is_digit c || c == 95) cs) h in
    (either_character c IsPrintable printable_character (lit≤ tt, lit≤ tt) p.0, long_printable cs p.1)

long_word : (x : List ℕ) → list_all (λ c. is_letter c || is_digit c || c == 95) x ≡ true → IsWord x
long_word [] h = tt
long_word (c ∷ cs) h =
    let p = and_parts (is_letter c || is_digit c || c == 95) (list_all (λ c. is_letter c || is_digit c || c == 95) cs) h in
    (either_character c (λ k. (k == 32) ≡ false) word_character refl p.0, long_word cs p.1)

by_recursion : {A : Type 0} (P : A → Type 0) (xs : List A) → Each P xs → AllByRecursion P xs
by_recursion P [] h = tt
by_recursion P (x ∷ xs) h = (h.0, by_recursion P xs h.1)

small : (n : ℕ) → n < 2 ^ 32 → n ≤ 4294967295
small n h = let less : n < 4294967296 = h in omega (arith, less)

module _ (es : List Declaration) (around : List (List ℕ)) (deepest : ℕ) (m : Nest) (are : AreDeclarations es)
    (h : IsPrepared es around deepest m) where
  long : (x : List ℕ) (d : Declaration) → declared es x ≡ Some d → IsLongName x
  long x d e = let f = found es x d e in subst IsLongName f.name (all_at IsDeclaration es d are.each f.among).name

  printable : (x : List ℕ) (d : Declaration) → declared es x ≡ Some d → ArePrintable x
  printable x d e = long_printable x (long x d e).goes_on

  word : (x : List ℕ) (d : Declaration) → declared es x ≡ Some d → IsWord x
  word x d e = long_word x (long x d e).goes_on

  -- ---- notes

  pub is_printable : IsPrintableNest m
  is_printable = record {
    statements =
        by_recursion IsPrintableStanding (nest_statements m)
        (each_from IsPrintableStanding (nest_statements m) (statements_over es ArePrintable printable around deepest m h));
    loops = nest_loops_over es ArePrintable printable around deepest m h (λ k l. counter_printable k);
  }

  -- ---- read back

  tidy_loop : (round : List Loop) (l : Loop) → IsPreparedLoop es m.symbols round l → IsTidyLoop l
  tidy_loop round l k = record {
    variable = subst IsWord (sym k.variable) (counter l.number (small l.number k.number));
    number = (let number = small l.number k.number in omega (arith, number));
  }

  mutual
    tidy_loops : (round : List Loop) (p : Part) → loops.EachLoop (IsPreparedLoop es m.symbols) round p → walk.EachLoop IsTidyIn round p
    tidy_loops round (Run s) k = tt
    tidy_loops round (Turns l ps) k = (tidy_loop round l k.0, tidy_loops_in (round ++ l ∷ []) ps k.1)
    tidy_loops round (Choice bs ps) k = (tidy_loops_under round bs k.0, tidy_loops_in round ps k.1)
    tidy_loops round (Label n) k = tt
    tidy_loops round (Jump n) k = tt

    tidy_loops_in : (round : List Loop) (ps : Parts) → loops.EachLoopIn (IsPreparedLoop es m.symbols) round ps
        → walk.EachLoopIn IsTidyIn round ps
    tidy_loops_in round no_parts k = tt
    tidy_loops_in round (part p ps) k = (tidy_loops round p k.0, tidy_loops_in round ps k.1)

    tidy_loops_under : (round : List Loop) (bs : Branches) → loops.EachLoopUnder (IsPreparedLoop es m.symbols) round bs
        → walk.EachLoopUnder IsTidyIn round bs
    tidy_loops_under round no_branches k = tt
    tidy_loops_under round (branch test ps bs) k = (tidy_loops_in round ps k.0, tidy_loops_under round bs k.1)

  numbers_small : (before ls : List Loop) → Follow (IsPreparedLoop es m.symbols) before ls → AllByRecursion IsSmall (loop_numbers ls)
  numbers_small before [] k = tt
  numbers_small before (l ∷ ls) k = ((tidy_loop before l k.0).number, numbers_small (before ++ l ∷ []) ls k.1)

  pub is_tidy : AreCounted m → IsTidyNest m
  is_tidy counted = record {
    statements = by_recursion IsTidy (nest_statements m) (each_from IsTidy (nest_statements m) one);
    loops = tidy_loops [] m.body h.parts.loops;
  }
    where
      one : (x : Standing) → In x (nest_statements m) → IsTidy x
      one x i = record {
        over = statements_over es IsWord word around deepest m h x i;
        few = all_in (λ (x : Standing). length (references_of x) ≤ 2 ^ 63) (nest_statements m) counted.references x i;
        loops = numbers_small [] x.loops (round_statement es around deepest m h x i).follow;
      }

pub prepared_nest_is_printable : PreparedNestIsPrintable
prepared_nest_is_printable es around deepest m number g entries are h graph listed =
    let is = is_printable es around deepest m are h in
    subst (λ (xs : List Entry). AllByRecursion IsNote (lines_of_entries xs)) (sym listed.entries_are)
    (entry_notes (tested_entries number m g listed.cycles)
    (nest_printable m number g (all_holds m) listed.cycles is (graph_named m g is.statements graph)))

pub prepared_nest_is_tidy : PreparedNestIsTidy
prepared_nest_is_tidy es around deepest m number g entries are h counted few graph listed =
    let line = h.parts.line.1 in
    subst (λ (xs : List Entry). read_listing (lines_of_entries xs) ≡ map Some xs) (sym listed.entries_are)
    (listing-is-read (tested_entries number m g listed.cycles)
    (nest_listable m number g listed.cycles few (omega (arith, line)) (prepared_nest_is_ready es around deepest m are h)
    (is_tidy es around deepest m are h counted) counted.statements graph listed.cycles_are))
