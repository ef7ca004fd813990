-- What answers put in the place of loops are translations of a program's nests.
use Rattle.std.proofs.Common.{◌≡◌, ◌⊎◌, inl, inr, refl, sym, ap, ◌∙◌, subst, ℕ, ◌≤◌, ◌<◌, ◌==◌, Bool, true, false, cond}
use Rattle.std.proofs.Common.{if◌then◌else◌, Option, Some, None, List, [], ◌∷◌, ◌++◌, map, Contains, arith, eq-eqb}
use Rattle.std.specs.Prelude.{⊤}
use Rattle.std.specs.List.{flat_map}
use Rattle.std.proofs.lemmas.List.Elements.{Contains-append_cases, Contains-append_left, Contains-append_right}
use Rattle.meaning_laws.proofs.arrays.Members.{cases_of, here, in_map, nowhere, of_map, there}
use Rattle.components.proofs.ListLaws.{Each-In}
use Rattle.components.specs.Lists.{IsMember, Pairwise}
use Rattle.find_nests.specs.Found.{Found, found_in}
use Rattle.tree.specs.Plain.{Block, Declaration, Program}
use Rattle.listing.specs.declared.programs.counts.Counts.{Counts}
use Rattle.listing.specs.programs.Listing.{counts_of, no_counts}
use Rattle.translation.proofs.Converting.{passed_rises}
use Rattle.translation.proofs.LoopNumbers.Nests.{nests_are_numbered}
use Rattle.translation.proofs.ProgramMarks.Found.{among_nests}
use Rattle.translation.specs.loop_numbers.Numbers.{ComesBefore, loop_number, nests_among}
use Rattle.translation.specs.nest_translation.Laws.{IsTranslatedNest}
use Rattle.nest.specs.Plain.{Made, Nest}
use Rattle.array_form.specs.holds.Holds.{all_holds}
use Rattle.emission.specs.emission_pieces.Pieces.{Pieces, translation}
use Rattle.dependence_graph.specs.declared.graphs.Graph.{Graph}
use Rattle.translation.specs.nest_blocks.Answers.{AreRight, Puts}
use Rattle.translation.specs.nest_blocks.Laws.{AnswersAreBlocks}
use Rattle.translation.specs.nest_blocks.Blocks.{IsBlockOfLoop, IsMadeForNest}
use Rattle.translation.proofs.NestBlocks.Holds.{all_are_holds}
use Rattle.translation.specs.made_declarations.Declaring.{declaration_of_made}
use Rattle.translation.specs.nest_blocks.LoopAnswers.{LoopAnswer, IsRightLoopAnswer, IsTranslation, Kept, Translated, found_by, made_by}
use Rattle.translation.specs.nest_blocks.LoopAnswers.{counts_by}
use Rattle.tree.specs.declared.width.Width.{Width}

-- ---- one answer

translated : (counts : Counts) (n m : Nest) (g : Graph) (ps : Pieces) → IsTranslation counts n m g ps
    → IsTranslatedNest n m (translation m ps)
translated counts n m g ps h = record {
  counts = counts;
  passed = h.passed;
  pieces = ps;
  are = record {
    graph = g;
    is_graph = h.graph;
    holds = all_holds m;
    all = all_are_holds m;
    emitted = h.emitted;
  };
  block = refl;
}

-- right after some masks and copies
abbrev pub IsRightSomewhere : LoopAnswer → Type 0
IsRightSomewhere a = (counts : Counts) × IsRightLoopAnswer counts a

block_of_answer : (p : Program) (k : ℕ) (b : Block) (a : LoopAnswer) → IsRightSomewhere a
    → Contains (found_in p) (found_by a) → Puts a k b → IsBlockOfLoop p k b
block_of_answer p k b (Translated n m g ps) right among puts =
    let found = puts.found in
    let same : n ≡ puts.nest = cc in
    let given = puts.block in
    let is : translation m ps ≡ b = cc in
    record {
      nest = n;
      among = among;
      number = subst (λ (o : Nest). loop_number o ≡ k) (sym same) puts.number;
      normal = m;
      translated = subst (IsTranslatedNest n m) is (translated right.0 n m g ps right.1);
    }
block_of_answer p k b (Kept line r) right among puts = let none = puts.block in let no : ⊥ = cc in absurd no

-- ---- what is made before each nest

-- no more of each
abbrev AreNoMore : Counts → Counts → Type 0
AreNoMore a b = (a.masks ≤ b.masks) × (a.copies ≤ b.copies)

-- what is made before the nest with this number
abbrev counts_before : Counts → List LoopAnswer → ℕ → Counts
counts_before counts [] k = counts
counts_before counts (Translated n m g ps ∷ rest) k =
    if n.number == k then counts else counts_before (counts_of m) rest k
counts_before counts (Kept line r ∷ rest) k = counts_before counts rest k

-- and what passes make of it
abbrev last_by : List LoopAnswer → ℕ → Option Nest
last_by [] k = None
last_by (Translated n m g ps ∷ rest) k = if n.number == k then Some m else last_by rest k
last_by (Kept line r ∷ rest) k = last_by rest k

-- right after as much as is made before the nest with its number, which is known by that
abbrev IsRightByNumber : (ℕ → Counts) → (ℕ → Option Nest) → LoopAnswer → Type 0
IsRightByNumber before last_of (Translated n m g ps) =
    IsTranslation (before n.number) n m g ps × (last_of n.number ≡ Some m)
IsRightByNumber before last_of (Kept line r) = ⊤

abbrev AreInOrder : List LoopAnswer → Type 0
AreInOrder answers = Pairwise ComesBefore (nests_among (map found_by answers))

equal : (a b : ℕ) → (a == b) ≡ true → a ≡ b
equal a b e = grind arith

unequal : (a b : ℕ) → a < b → (a == b) ≡ false
unequal a b h = by (a == b) refl
  where
    by : (c : Bool) → (a == b) ≡ c → c ≡ false
    by true e = let is = equal a b e in absurd (omega (arith, h, is))
    by false e = refl

-- the nest of an answer is among those of all
nest_among : (rest : List LoopAnswer) (n m : Nest) (g : Graph) (ps : Pieces) → Contains rest (Translated n m g ps)
    → IsMember n (nests_among (map found_by rest))
nest_among rest n m g ps c =
    among_nests (map found_by rest) n (in_map found_by rest (Translated n m g ps) c)

before_rises : (counts : Counts) (answers : List LoopAnswer) (k : ℕ) → AreRight counts answers
    → AreNoMore counts (counts_before counts answers k)
before_rises counts [] k right = (omega arith, omega arith)
before_rises counts (Translated n m g ps ∷ rest) k right =
    by (n.number == k) (before_rises (counts_of m) rest k right.1) (passed_rises counts n m right.0.passed)
  where
    by : (b : Bool) → AreNoMore (counts_of m) (counts_before (counts_of m) rest k) → AreNoMore counts (counts_of m)
        → AreNoMore counts (cond b counts (counts_before (counts_of m) rest k))
    by true more own = (omega arith, omega arith)
    by false more own =
        let a = more.0 in
        let b = more.1 in
        let x = own.0 in
        let y = own.1 in (omega (arith, a, x), omega (arith, b, y))
before_rises counts (Kept line r ∷ rest) k right = before_rises counts rest k right.1

-- behind an answer
past : (counts : Counts) (n m : Nest) (rest : List LoopAnswer) (k : ℕ) → n.number < k
    → cond (n.number == k) counts (counts_before (counts_of m) rest k) ≡ counts_before (counts_of m) rest k
past counts n m rest k h = ap (λ b. cond b counts (counts_before (counts_of m) rest k)) (unequal n.number k h)

last_past : (n m : Nest) (rest : List LoopAnswer) (k : ℕ) → n.number < k
    → cond (n.number == k) (Some m) (last_by rest k) ≡ last_by rest k
last_past n m rest k h = ap (λ b. cond b (Some m) (last_by rest k)) (unequal n.number k h)

right_by_number : (counts : Counts) (answers : List LoopAnswer) (a : LoopAnswer) → AreRight counts answers → AreInOrder answers
    → Contains answers a → IsRightByNumber (counts_before counts answers) (last_by answers) a
right_by_number counts [] a right order c = absurd (nowhere a c)
right_by_number counts (Kept line r ∷ rest) a right order c =
    by (cases_of (Kept line r) rest a c) (λ i. right_by_number counts rest a right.1 order i)
  where
    by : (Kept line r ≡ a) ⊎ Contains rest a
        → (Contains rest a → IsRightByNumber (counts_before counts rest) (last_by rest) a)
        → IsRightByNumber (counts_before counts rest) (last_by rest) a
    by (inl e) more = subst (IsRightByNumber (counts_before counts rest) (last_by rest)) e tt
    by (inr i) more = more i
right_by_number counts (Translated n m g ps ∷ rest) a right order c =
    by a (cases_of (Translated n m g ps) rest a c) (λ i. right_by_number (counts_of m) rest a right.1 order.1 i)
  where
    first : IsRightByNumber (counts_before counts (Translated n m g ps ∷ rest))
        (last_by (Translated n m g ps ∷ rest)) (Translated n m g ps)
    first = (
      subst (λ (i : Counts). IsTranslation i n m g ps)
          (sym (ap (λ b. cond b counts (counts_before (counts_of m) rest n.number)) (eq-eqb n.number n.number refl)))
          right.0,
      ap (λ b. cond b (Some m) (last_by rest n.number)) (eq-eqb n.number n.number refl),
    )

    later : (x y : Nest) (h : Graph) (qs : Pieces) → Contains rest (Translated x y h qs)
        → IsTranslation (counts_before (counts_of m) rest x.number) x y h qs × (last_by rest x.number ≡ Some y)
        → IsTranslation (counts_before counts (Translated n m g ps ∷ rest) x.number) x y h qs
        × (last_by (Translated n m g ps ∷ rest) x.number ≡ Some y)
    later x y h qs i own =
        let less = (Each-In (ComesBefore n) (nests_among (map found_by rest)) order.0 x (nest_among rest x y h qs i)).nests in (
          subst (λ (k : Counts). IsTranslation k x y h qs) (sym (past counts n m rest x.number less)) own.0,
          last_past n m rest x.number less ∙ own.1,
        )

    by : (a : LoopAnswer) → (Translated n m g ps ≡ a) ⊎ Contains rest a
        → (Contains rest a → IsRightByNumber (counts_before (counts_of m) rest) (last_by rest) a)
        → IsRightByNumber (counts_before counts (Translated n m g ps ∷ rest)) (last_by (Translated n m g ps ∷ rest)) a
    by a (inl e) more =
        subst (IsRightByNumber (counts_before counts (Translated n m g ps ∷ rest)) (last_by (Translated n m g ps ∷ rest)))
        e first
    by (Translated x y h qs) (inr i) more = later x y h qs i (more i)
    by (Kept line r) (inr i) more = tt

-- ---- what is made for a nest isn't made again

some_is : (m n : Nest) → Some m ≡ Some n → m ≡ n
some_is m n e = cc

-- a nest that is known by a number is one of an answer
record IsKnownBy (rest : List LoopAnswer) (j : ℕ) : Type 0 where
  nest : Nest
  among : IsMember nest (nests_among (map found_by rest))
  number : nest.number ≡ j

known_by : (answers : List LoopAnswer) (j : ℕ) (m : Nest) → last_by answers j ≡ Some m → IsKnownBy answers j
known_by [] j m e = let no : ⊥ = cc in absurd no
known_by (Kept line r ∷ rest) j m e =
    let w = known_by rest j m e in record { nest = w.nest; among = w.among; number = w.number }
known_by (Translated x y h qs ∷ rest) j m e = by (x.number == j) refl (known_by rest j m) e
  where
    by : (b : Bool) → (x.number == j) ≡ b → (last_by rest j ≡ Some m → IsKnownBy rest j)
        → cond b (Some y) (last_by rest j) ≡ Some m → IsKnownBy (Translated x y h qs ∷ rest) j
    by true f later g = record { nest = x; among = inl refl; number = equal x.number j f }
    by false f later g = let w = later g in record { nest = w.nest; among = inr w.among; number = w.number }

-- what is made before a nest doesn't count again
behind_rises : (counts : Counts) (answers : List LoopAnswer) (j k : ℕ) (m : Nest) → AreRight counts answers
    → AreInOrder answers → last_by answers j ≡ Some m → j < k → AreNoMore (counts_of m) (counts_before counts answers k)
behind_rises counts [] j k m right order e less = let no : ⊥ = cc in absurd no
behind_rises counts (Kept line r ∷ rest) j k m right order e less = behind_rises counts rest j k m right.1 order e less
behind_rises counts (Translated x y h qs ∷ rest) j k m right order e less =
    by (x.number == j) refl (λ g. behind_rises (counts_of y) rest j k m right.1 order.1 g less) e
  where
    passes : x.number < k → AreNoMore (counts_of m) (counts_before (counts_of y) rest k)
        → AreNoMore (counts_of m) (cond (x.number == k) counts (counts_before (counts_of y) rest k))
    passes l own = subst (λ (i : Counts). AreNoMore (counts_of m) i) (sym (past counts x y rest k l)) own

    by : (b : Bool) → (x.number == j) ≡ b
        → (last_by rest j ≡ Some m → AreNoMore (counts_of m) (counts_before (counts_of y) rest k))
        → cond b (Some y) (last_by rest j) ≡ Some m
        → AreNoMore (counts_of m) (cond (x.number == k) counts (counts_before (counts_of y) rest k))
    by true f later g =
        let same = equal x.number j f in
        passes (omega (arith, same, less))
        (subst (λ (z : Nest). AreNoMore (counts_of z) (counts_before (counts_of y) rest k)) (some_is y m g)
        (before_rises (counts_of y) rest k right.1))
    by false f later g =
        let w = known_by rest j m g in
        let first = (Each-In (ComesBefore x) (nests_among (map found_by rest)) order.0 w.nest w.among).nests in
        let at = w.number in
        passes (omega (arith, first, at, less)) (later g)

-- ---- declarations of made names

made_of_answer : (p : Program) (before : ℕ → Counts) (last_of : ℕ → Option Nest) (d : Declaration) (a : LoopAnswer)
    → IsRightByNumber before last_of a → Contains (found_in p) (found_by a) → Contains (made_by a) d
    → IsMadeForNest p before last_of d
made_of_answer p before last_of d (Translated n m g ps) right among c =
    let a = of_map declaration_of_made m.made d c in
    record {
      nest = n;
      among = among;
      last = m;
      is_last = right.1;
      passed = right.0.passed;
      array = a.0;
      made = a.1;
      is = a.2;
    }
made_of_answer p before last_of d (Kept line r) right among c = absurd (nowhere d c)

-- what passes made for the nest of a block is declared by the answer
made_by_block : (p : Program) (k : ℕ) (b : Block) (a : LoopAnswer) (right : IsRightSomewhere a)
    (among : Contains (found_in p) (found_by a)) (puts : Puts a k b) (x : Made)
    → Contains (block_of_answer p k b a right among puts).normal.made x → Contains (made_by a) (declaration_of_made x)
unfolding block_of_answer
made_by_block p k b (Translated n m g ps) right among puts x c = in_map declaration_of_made m.made x c
made_by_block p k b (Kept line r) right among puts x c = let none = puts.block in let no : ⊥ = cc in absurd no

-- one of the answers has it
by_an_answer : (d : Declaration) (answers : List LoopAnswer) → Contains (flat_map made_by answers) d
    → (a : LoopAnswer) × Contains answers a × Contains (made_by a) d
by_an_answer d [] c = absurd (nowhere d c)
by_an_answer d (a ∷ rest) c = by (Contains-append_cases (made_by a) (flat_map made_by rest) d c) (by_an_answer d rest)
  where
    by : Contains (made_by a) d ⊎ Contains (flat_map made_by rest) d
        → (Contains (flat_map made_by rest) d → (b : LoopAnswer) × Contains rest b × Contains (made_by b) d)
        → (b : LoopAnswer) × Contains (a ∷ rest) b × Contains (made_by b) d
    by (inl i) later = (a, here a rest, i)
    by (inr i) later = let w = later i in (w.0, there a rest w.0 w.1, w.2)

-- what one of them has all have
of_answer : (d : Declaration) (answers : List LoopAnswer) (a : LoopAnswer) → Contains answers a → Contains (made_by a) d
    → Contains (flat_map made_by answers) d
of_answer d [] a c i = absurd (nowhere a c)
of_answer d (x ∷ rest) a c i = by (cases_of x rest a c) (λ j. of_answer d rest a j i)
  where
    by : (x ≡ a) ⊎ Contains rest a → (Contains rest a → Contains (flat_map made_by rest) d)
        → Contains (made_by x ++ flat_map made_by rest) d
    by (inl e) later =
        Contains-append_left (made_by x) (flat_map made_by rest) d
        (subst (λ (y : LoopAnswer). Contains (made_by y) d) (sym e) i)
    by (inr j) later = Contains-append_right (made_by x) (flat_map made_by rest) d (later j)

-- ---- all of them

pub each_right : (counts : Counts) (answers : List LoopAnswer) (a : LoopAnswer) → AreRight counts answers → Contains answers a
    → IsRightSomewhere a
each_right counts [] a right c = absurd (nowhere a c)
each_right counts (x ∷ rest) a right c = by (cases_of x rest a c) (λ j. each_right (counts_by counts x) rest a right.1 j)
  where
    by : (x ≡ a) ⊎ Contains rest a → (Contains rest a → IsRightSomewhere a) → IsRightSomewhere a
    by (inl e) later = (counts, subst (IsRightLoopAnswer counts) e right.0)
    by (inr j) later = later j

pub answers_are_blocks : (width : Width) → AnswersAreBlocks width
answers_are_blocks width p lines blocks made program h = record {
  only = λ k b from e. only k b (h.placed.only k b from e);
  declared = λ k b from e x c. declared k b (h.placed.only k b from e) x c;
  before = counts_before no_counts h.answers;
  last_of = last_by h.answers;
  numbered = λ j k m e less. behind_rises no_counts h.answers j k m h.are.right order e less;
  made_are = λ d c. for_nest d (by_an_answer d h.answers (subst (λ (ds : List Declaration). Contains ds d) h.made_are c));
}
  where
    right : (a : LoopAnswer) → Contains h.answers a → IsRightSomewhere a
    right a c = each_right no_counts h.answers a h.are.right c

    found : (a : LoopAnswer) → Contains h.answers a → Contains (found_in p) (found_by a)
    found a c = subst (λ (fs : List Found). Contains fs (found_by a)) h.are.found (in_map found_by h.answers a c)

    order : AreInOrder h.answers
    order =
        subst (λ (fs : List Found). Pairwise ComesBefore (nests_among fs)) (sym h.are.found) (nests_are_numbered width p program)

    by_number : (a : LoopAnswer) → Contains h.answers a → IsRightByNumber (counts_before no_counts h.answers) (last_by h.answers) a
    by_number a c = right_by_number no_counts h.answers a h.are.right order c

    for_nest : (d : Declaration) → (a : LoopAnswer) × Contains h.answers a × Contains (made_by a) d
        → IsMadeForNest p (counts_before no_counts h.answers) (last_by h.answers) d
    for_nest d w = made_of_answer p (counts_before no_counts h.answers) (last_by h.answers) d w.0 (by_number w.0 w.1) (found w.0 w.1) w.2

    only : (k : ℕ) (b : Block) → (a : LoopAnswer) × Contains h.answers a × Puts a k b → IsBlockOfLoop p k b
    only k b w = block_of_answer p k b w.0 (right w.0 w.1) (found w.0 w.1) w.2

    declared : (k : ℕ) (b : Block) (w : (a : LoopAnswer) × Contains h.answers a × Puts a k b) (x : Made)
        → Contains (only k b w).normal.made x → Contains made (declaration_of_made x)
    declared k b w x c =
        subst (λ (ds : List Declaration). Contains ds (declaration_of_made x)) (sym h.made_are)
        (of_answer (declaration_of_made x) h.answers w.0 w.1
        (made_by_block p k b w.0 (right w.0 w.1) (found w.0 w.1) w.2 x c))
