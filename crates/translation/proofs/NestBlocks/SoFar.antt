-- The answers to all that was found so far.
use Rattle.std.proofs.Common.{◌≡◌, ◌⊎◌, inl, inr, refl, ◌∙◌, ap, subst, sym, ℕ, ◌+◌, ◌<◌, ◌≤◌, Option}
use Rattle.std.proofs.Common.{List, [], ◌∷◌, ◌++◌, map, take, drop, length, get_or, option_map, Contains, append-nil}
use Rattle.std.proofs.Common.{append_assoc}
use Rattle.std.proofs.Common.{take-append-drop}
use Rattle.std.specs.List.{flat_map}
use Rattle.std.proofs.lemmas.List.{drop_more, map-append, take_all, take_more}
use Rattle.std.proofs.lemmas.List.Concat.{flat_map-append}
use Rattle.std.proofs.lemmas.List.Elements.{Contains-append_left, Contains-append_right}
use Rattle.components.specs.Lists.{Each, Pairwise}
use Rattle.f90_print.specs.Notes.{line_text}
use Rattle.find_nests.specs.Found.{Found, InNest, Kept, found_in}
use Rattle.find_nests.specs.View.{found_of}
use Rattle.find_nests.specs.declared.search.Found.{Found as Found'}
use Rattle.meaning.specs.Dialect.{fortran77}
use Rattle.tree.specs.declared.width.Width.{Width}
use Rattle.meaning.specs.Profile77.{IsProgram77}
use Rattle.tree.specs.Plain.{Block, Declaration, Program}
use Rattle.tree.specs.View.{block_of}
use Rattle.tree.specs.declared.programs.Line.{Line}
use Rattle.tree.specs.declared.stmts.Block.{Block as Tree}
use Rattle.listing.proofs.graphs.LoopLines.{entries-append}
use Rattle.listing.specs.declared.programs.counts.Counts.{Counts}
use Rattle.listing.specs.graphs.Lines.{Entry}
use Rattle.listing.specs.graphs.Listing.{lines_of_entries}
use Rattle.listing.specs.programs.Listing.{no_counts}
use Rattle.translation.proofs.LoopNumbers.Nests.{loop_numbers_count, nests_are_numbered}
use Rattle.translation.specs.loop_numbers.Numbers.{ComesBefore, nests_among}
use Rattle.translation.specs.loop_placing.Placing.{blocks_of}
use Rattle.nest.specs.Plain.{Nest}
use Rattle.meaning_laws.proofs.profiles.Lists.{cases_of, here, nowhere}
use Rattle.translation.specs.nest_blocks.Answers.{AreAllEntriesBy, AreAnswersFor, ArePlaced, AreRight}
use Rattle.translation.specs.nest_blocks.Places.{IsPutFor}
use Rattle.translation.proofs.NestBlocks.Placed.{IsBehind, placed_more, placed_none}
use Rattle.translation.specs.made_declarations.Declaring.{declaration_of_name}
use Rattle.translation.specs.declared.made_declarations.names.MadeName.{MadeName}
use Rattle.translation.specs.nest_blocks.LoopAnswers.{LoopAnswer, AreEntriesBy, IsAnswerTo, IsRightLoopAnswer, found_by, made_by}
use Rattle.translation.specs.nest_blocks.LoopAnswers.{counts_by}

-- ---- counts

-- what is made behind these answers
abbrev counts_after : Counts → List LoopAnswer → Counts
counts_after counts [] = counts
counts_after counts (a ∷ answers) = counts_after (counts_by counts a) answers

right_too : (counts : Counts) (answers : List LoopAnswer) (a : LoopAnswer) → AreRight counts answers → IsRightLoopAnswer (counts_after counts answers) a
    → AreRight counts (answers ++ a ∷ [])
right_too counts [] a h own = (own, tt)
right_too counts (x ∷ answers) a h own = (h.0, right_too (counts_by counts x) answers a h.1 own)

counts_too : (counts : Counts) (answers : List LoopAnswer) (a : LoopAnswer)
    → counts_after counts (answers ++ a ∷ []) ≡ counts_by (counts_after counts answers) a
counts_too counts [] a = refl
counts_too counts (x ∷ answers) a = counts_too (counts_by counts x) answers a

-- ---- entries

listed_too : (answers : List LoopAnswer) (a : LoopAnswer) (es last : List Entry) → AreAllEntriesBy answers es → AreEntriesBy a last
    → AreAllEntriesBy (answers ++ a ∷ []) (es ++ last)
listed_too [] a es last h own = (last, [], ap (λ us. us ++ last) h ∙ sym (append-nil last), own, refl)
listed_too (x ∷ answers) a es last h own = (
  h.0,
  h.1 ++ last,
  ap (λ us. us ++ last) h.2 ∙ append_assoc h.0 h.1 last,
  h.3,
  listed_too answers a h.1 last h.4 own,
)

-- ---- answers

-- answers to these, what they list, what they put in the place of loops, what passes made, and how much of it
pub record AreAnswersTo (fs : List Found) (lines : List (List ℕ)) (blocks : List (Option Block)) (made : List Declaration)
    (counts : Counts) : Type 0 where
  pub answers : List LoopAnswer
  pub right : AreRight no_counts answers
  pub found : map found_by answers ≡ fs
  pub entries : List Entry
  pub listed : AreAllEntriesBy answers entries
  pub lines_are : lines ≡ lines_of_entries entries
  pub placed : ArePlaced answers blocks
  pub made_are : made ≡ flat_map made_by answers
  pub counts_are : counts ≡ counts_after no_counts answers

answers_none : AreAnswersTo [] [] [] [] no_counts
answers_none = record {
  answers = [];
  right = tt;
  found = refl;
  entries = [];
  listed = refl;
  lines_are = refl;
  placed = placed_none;
  made_are = refl;
  counts_are = refl;
}

answers_more : (fs : List Found) (f : Found) (old more new : List (List ℕ)) (block : Option Block)
    (before after : List (Option Block)) (had own have : List Declaration) (counts next : Counts)
    → AreAnswersTo fs old before had counts → IsAnswerTo counts f more block own next → IsBehind fs f → new ≡ old ++ more
    → IsPutFor f block before after → have ≡ had ++ own → AreAnswersTo (fs ++ f ∷ []) new after have next
answers_more fs f old more new block before after had own have counts next h a behind lines put made = record {
  answers = h.answers ++ a.answer ∷ [];
  right = right_too no_counts h.answers a.answer h.right (subst (λ (k : Counts). IsRightLoopAnswer k a.answer) h.counts_are a.right);
  found =
      map-append found_by h.answers (a.answer ∷ []) ∙ ap (λ gs. gs ++ found_by a.answer ∷ []) h.found
      ∙ ap (λ g. fs ++ g ∷ []) a.found;
  entries = h.entries ++ a.entries;
  listed = listed_too h.answers a.answer h.entries a.entries h.listed a.listed;
  lines_are =
      lines ∙ ap (λ us. us ++ more) h.lines_are ∙ ap (λ us. lines_of_entries h.entries ++ us) a.lines_are
      ∙ sym (entries-append h.entries a.entries);
  placed =
      placed_more h.answers a.answer f block before after a.found a.block_is
      (subst (λ (gs : List Found). IsBehind gs f) (sym h.found) behind) h.placed put;
  made_are =
      made ∙ ap (λ ds. ds ++ own) h.made_are ∙ ap (λ ds. flat_map made_by h.answers ++ ds) a.made_are
      ∙ ap (λ ds. flat_map made_by h.answers ++ ds) (sym (append-nil (made_by a.answer)))
      ∙ sym (flat_map-append made_by h.answers (a.answer ∷ []));
  counts_are =
      a.counts_are ∙ ap (λ (k : Counts). counts_by k a.answer) h.counts_are ∙ sym (counts_too no_counts h.answers a.answer);
}

-- ---- numbers of nests

each_behind : (P : Nest → Type 0) (fs rest : List Found) (m : Nest) → Each P (nests_among (fs ++ InNest m ∷ rest)) → P m
each_behind P [] rest m h = h.0
each_behind P (InNest n ∷ fs) rest m h = each_behind P fs rest m h.1
each_behind P (Kept line r ∷ fs) rest m h = each_behind P fs rest m h

comes_before : (fs rest : List Found) (n m : Nest) → Pairwise ComesBefore (nests_among (fs ++ InNest m ∷ rest))
    → Contains fs (InNest n) → ComesBefore n m
comes_before [] rest n m h c = absurd (nowhere (InNest n) c)
comes_before (InNest o ∷ fs) rest n m h c =
    by (cases_of (InNest o) fs (InNest n) c) (λ i. comes_before fs rest n m h.1 i)
  where
    by : (InNest o ≡ InNest n) ⊎ Contains fs (InNest n) → (Contains fs (InNest n) → ComesBefore n m) → ComesBefore n m
    by (inl e) later =
        let same : o ≡ n = cc in
        subst (λ (x : Nest). ComesBefore x m) same (each_behind (ComesBefore o) fs rest m h.0)
    by (inr i) later = later i
comes_before (Kept line r ∷ fs) rest n m h c =
    by (cases_of (Kept line r) fs (InNest n) c) (λ i. comes_before fs rest n m h i)
  where
    by : (Kept line r ≡ InNest n) ⊎ Contains fs (InNest n) → (Contains fs (InNest n) → ComesBefore n m)
        → ComesBefore n m
    by (inl e) later = let no : ⊥ = cc in absurd no
    by (inr i) later = later i

behind : (width : Width) (p : Program) (fs rest : List Found) (f : Found) → IsProgram77 (fortran77 width) p → fs ++ f ∷ rest ≡ found_in p
    → IsBehind fs f
behind width p fs rest f program e = record {
  counts = λ m is. loop_numbers_count p m (subst (Contains (found_in p)) is
      (among f (Contains-append_right fs (f ∷ rest) f (here f rest))));
  from = λ n c. loop_numbers_count p n (among (InNest n) (Contains-append_left fs (f ∷ rest) (InNest n) c));
  later = λ n m c is. (comes_before fs rest n m (in_order m is) c).loops;
}
  where
    among : (g : Found) → Contains (fs ++ f ∷ rest) g → Contains (found_in p) g
    among g c = subst (λ (gs : List Found). Contains gs g) e c

    in_order : (m : Nest) → f ≡ InNest m → Pairwise ComesBefore (nests_among (fs ++ InNest m ∷ rest))
    in_order m is =
        subst (λ (g : Found). Pairwise ComesBefore (nests_among (fs ++ g ∷ rest))) is
        (subst (λ (gs : List Found). Pairwise ComesBefore (nests_among gs)) (sym e) (nests_are_numbered width p program))

-- ---- what was found, as the program has it

abbrev declared_as : List MadeName → List Declaration
declared_as made = map declaration_of_name made

pub found_none : (items : List Found') (lines : List Line) (blocks : List (Option Tree)) (made : List MadeName)
    → lines ≡ [] → blocks ≡ [] → made ≡ []
    → AreAnswersTo (map found_of (take 0 items)) (map line_text lines) (blocks_of blocks) (declared_as made) no_counts
found_none items lines blocks made l b d =
    subst (λ (ds : List MadeName). AreAnswersTo [] (map line_text lines) (blocks_of blocks) (declared_as ds) no_counts) (sym d)
    (subst (λ (bs : List (Option Tree)). AreAnswersTo [] (map line_text lines) (blocks_of bs) [] no_counts) (sym b)
    (subst (λ (ls : List Line). AreAnswersTo [] (map line_text ls) [] [] no_counts) (sym l) answers_none))

module _ (width : Width) (p : Program) (items : List Found') (is : map found_of items ≡ found_in p) where
  pub found_more : (i : ℕ) (x : Found') (old more new : List Line) (block : Option Tree)
      (before after : List (Option Tree)) (had own have : List MadeName) (counts next : Counts) → IsProgram77 (fortran77 width) p
      → i < length items → x ≡ get_or items i x
      → AreAnswersTo (map found_of (take i items)) (map line_text old) (blocks_of before) (declared_as had) counts
      → IsAnswerTo counts (found_of x) (map line_text more) (option_map block_of block) (declared_as own) next
      → new ≡ old ++ more
      → IsPutFor (found_of x) (option_map block_of block) (blocks_of before) (blocks_of after) → have ≡ had ++ own
      → AreAnswersTo (map found_of (take (i + 1) items)) (map line_text new) (blocks_of after) (declared_as have) next
  found_more i x old more new block before after had own have counts next program within at h answer lines put made =
      subst (λ (fs : List Found). AreAnswersTo fs (map line_text new) (blocks_of after) (declared_as have) next) (sym one)
      (answers_more (map found_of (take i items)) (found_of x) (map line_text old) (map line_text more) (map line_text new)
      (option_map block_of block) (blocks_of before) (blocks_of after) (declared_as had) (declared_as own)
      (declared_as have) counts next h answer
      (behind width p (map found_of (take i items)) (map found_of (drop (i + 1) items)) (found_of x) program whole)
      (ap (map line_text) lines ∙ map-append line_text old more) put
      (ap (map declaration_of_name) made ∙ map-append declaration_of_name had own))
    where
      one : map found_of (take (i + 1) items) ≡ map found_of (take i items) ++ found_of x ∷ []
      one =
          ap (map found_of) (take_more items i x within ∙ ap (λ y. take i items ++ y ∷ []) (sym at))
          ∙ map-append found_of (take i items) (x ∷ [])

      parts : take i items ++ x ∷ drop (i + 1) items ≡ items
      parts =
          ap (λ y. take i items ++ y ∷ drop (i + 1) items) at
          ∙ ap (λ ys. take i items ++ ys) (sym (drop_more items i x within)) ∙ take-append-drop i items

      whole : map found_of (take i items) ++ found_of x ∷ map found_of (drop (i + 1) items) ≡ found_in p
      whole = sym (map-append found_of (take i items) (x ∷ drop (i + 1) items)) ∙ ap (map found_of) parts ∙ is

  pub found_all : (i : ℕ) (lines given : List Line) (blocks stand : List (Option Tree)) (made have : List MadeName)
      (counts : Counts) → length items ≤ i
      → AreAnswersTo (map found_of (take i items)) (map line_text lines) (blocks_of blocks) (declared_as made) counts
      → given ≡ lines → stand ≡ blocks → have ≡ made
      → AreAnswersFor p (map line_text given) (blocks_of stand) (declared_as have)
  found_all i lines given blocks stand made have counts h k l b d =
      subst (λ (ds : List MadeName). AreAnswersFor p (map line_text given) (blocks_of stand) (declared_as ds)) (sym d)
      (subst (λ (bs : List (Option Tree)). AreAnswersFor p (map line_text given) (blocks_of bs) (declared_as made)) (sym b)
      (subst (λ (ls : List Line). AreAnswersFor p (map line_text ls) (blocks_of blocks) (declared_as made)) (sym l) (record {
        answers = k.answers;
        are = record { right = k.right; found = k.found ∙ ap (map found_of) (take_all i items h) ∙ is };
        entries = k.entries;
        listed = k.listed;
        lines_are = k.lines_are;
        placed = k.placed;
        made_are = k.made_are;
      })))
