-- Where blocks stand in the place of loops, the marked statements are those of the blocks, one block after the other.
use Rattle.std.proofs.Common.{◌≡◌, refl, sym, ap, ap₂, subst, ◌∙◌, ℕ, Bool, true, false, not, ◌&&◌, cond}
use Rattle.std.proofs.Common.{Option, None, Some, List, [], ◌∷◌, ◌++◌, map, Contains, append_assoc, append-nil}
use Rattle.std.specs.List.{filter, list_all}
use Rattle.std.proofs.lemmas.List.{map-append}
use Rattle.std.proofs.lemmas.List.Elements.{Contains-append_left, Contains-append_right, filter-append}
use Rattle.std.proofs.lemmas.List.Folds.{list_all-append}
use Rattle.tree.specs.Plain.{Statement, Assignment, Where, If, Do, Label, GoTo, Stop, Read, Print, Allocate}
use Rattle.tree.specs.Plain.{Deallocate, Arms, no_arms, arm, Block, no_statements, statement, block, Declaration}
use Rattle.tree.specs.declared.stmts.Mark.{Mark}
use Rattle.emission.specs.emission_marks.Marks.{Marked, Otherwise, Round, Turning, Under, marked_in, marked_under, with_mark}
use Rattle.find_nests.specs.Loops.{SurroundedLoop, SourceLoop, loops_in, loops_in_arms, loops_in_block}
use Rattle.find_nests.specs.LookedAt.{is_in_no_nest, is_kept}
use Rattle.meaning.specs.Blocks.{Surroundings, before_labels, labels_of, within_loop}
use Rattle.meaning.specs.Profile77.{AreArms, IsBlock, IsStatement}
use Rattle.translation.specs.loop_placing.Placing.{block_at, instead, placed_statement, placed_arms, placed_in, statements_of_block}
use Rattle.find_nests.specs.nest_parts.Numbers.{number_after, after_arms, after_block, next_loop_number}
use Rattle.meaning_laws.proofs.profiles.Lists.{here, there}
use Rattle.translation.specs.program_marks.Marks.{within}
use Rattle.translation.proofs.ProgramMarks.Rounds.{all_within, marked_after}

-- ---- tests

no_first : (a b : Bool) → a ≡ false → (a && b) ≡ false
no_first true b h = let no : ⊥ = cc in absurd no
no_first false b h = refl

no_second : (a b : Bool) → b ≡ false → (a && (b && true)) ≡ false
no_second true b h = ap (λ c. c && true) h
no_second false b h = refl

no_other : (a b : Bool) → (a && not b) ≡ true → b ≡ false
no_other true true h = let no : ⊥ = cc in absurd no
no_other true false h = refl
no_other false b h = let no : ⊥ = cc in absurd no

-- ---- loops that are nests

abbrev pub number_of : SurroundedLoop → ℕ
number_of z = next_loop_number z.loop.before

module _ (ds : List Declaration) where
  -- a loop without a reason that stands in no nest
  abbrev pub is_nest : SurroundedLoop → Bool
  is_nest z = is_in_no_nest ds z && not (is_kept ds z.loop.loop)

  abbrev pub nest_numbers : List SurroundedLoop → List ℕ
  nest_numbers zs = map number_of (filter is_nest zs)

  nest_numbers-append : (zs ys : List SurroundedLoop) → nest_numbers (zs ++ ys) ≡ nest_numbers zs ++ nest_numbers ys
  nest_numbers-append zs ys =
      ap (map number_of) (filter-append is_nest zs ys) ∙ map-append number_of (filter is_nest zs) (filter is_nest ys)

  with_first : (z : SurroundedLoop) (zs : List SurroundedLoop) (b : Bool) → is_nest z ≡ b
      → nest_numbers (z ∷ zs) ≡ cond b (number_of z ∷ nest_numbers zs) (nest_numbers zs)
  with_first z zs true e = ap (λ c. map number_of (cond c (z ∷ filter is_nest zs) (filter is_nest zs))) e
  with_first z zs false e = ap (λ c. map number_of (cond c (z ∷ filter is_nest zs) (filter is_nest zs))) e

  none_of_both : (zs ys : List SurroundedLoop) → nest_numbers zs ≡ [] → nest_numbers ys ≡ [] → nest_numbers (zs ++ ys) ≡ []
  none_of_both zs ys e f = nest_numbers-append zs ys ∙ ap₂ (λ (ks js : List ℕ). ks ++ js) e f

  -- no loop in a nest is one
  mutual
    none_in : (c : Statement) (k : ℕ) (around : List SourceLoop) → list_all (is_kept ds) around ≡ false
        → nest_numbers (loops_in k around c) ≡ []
    none_in (Assignment line mark left right) k around h = refl
    none_in (Where line mark mask left right) k around h = refl
    none_in (If line arms other) k around h =
        none_of_both (loops_in_arms k around arms) (loops_in_block (after_arms k arms) around other)
        (none_in_arms arms k around h) (none_in_block other (after_arms k arms) around h)
    none_in (Do line x a b c body) k around h =
        let l : SourceLoop = record { line = line; variable = x; first = a; last = b; step = c; body = body } in
        let z : SurroundedLoop = record { around = around; loop = record { before = k; loop = l } } in
        with_first z (loops_in_block (next_loop_number k) (around ++ l ∷ []) body) false
        (no_first (list_all (is_kept ds) around) (not (is_kept ds l)) h)
        ∙ none_in_block body (next_loop_number k) (around ++ l ∷ [])
        (list_all-append (is_kept ds) around (l ∷ [])
        ∙ no_first (list_all (is_kept ds) around) (list_all (is_kept ds) (l ∷ [])) h)
    none_in (Label n) k around h = refl
    none_in (GoTo line n) k around h = refl
    none_in (Stop line) k around h = refl
    none_in (Read line is) k around h = refl
    none_in (Print line is) k around h = refl
    none_in (Allocate line x es) k around h = refl
    none_in (Deallocate line x) k around h = refl

    none_in_arms : (arms : Arms) (k : ℕ) (around : List SourceLoop) → list_all (is_kept ds) around ≡ false
        → nest_numbers (loops_in_arms k around arms) ≡ []
    none_in_arms no_arms k around h = refl
    none_in_arms (arm test body arms) k around h =
        none_of_both (loops_in_block k around body) (loops_in_arms (after_block k body) around arms)
        (none_in_block body k around h) (none_in_arms arms (after_block k body) around h)

    none_in_block : (b : Block) (k : ℕ) (around : List SourceLoop) → list_all (is_kept ds) around ≡ false
        → nest_numbers (loops_in_block k around b) ≡ []
    none_in_block no_statements k around h = refl
    none_in_block (statement c cs) k around h =
        none_of_both (loops_in k around c) (loops_in_block (number_after k c) around cs) (none_in c k around h)
        (none_in_block cs (number_after k c) around h)

-- ---- the marks of blocks

abbrev pub marks_of : Option Block → List Marked
marks_of None = []
marks_of (Some b) = marked_in [] b

module _ (blocks : List (Option Block)) where
  abbrev pub marks_at : ℕ → List Marked
  marks_at k = marks_of (block_at blocks k)

  -- those of the blocks with these numbers, each block within some loops and conditions
  abbrev pub AreOfBlocks : List Marked → List ℕ → Type 0
  AreOfBlocks xs [] = xs ≡ []
  AreOfBlocks xs (k ∷ ks) =
      (outer : List Round) × (rest : List Marked) × (xs ≡ map (within outer) (marks_at k) ++ rest) × AreOfBlocks rest ks

  joined : (xs ys : List Marked) (ks js : List ℕ) → AreOfBlocks xs ks → AreOfBlocks ys js
      → AreOfBlocks (xs ++ ys) (ks ++ js)
  joined xs ys [] js h g = subst (λ zs. AreOfBlocks (zs ++ ys) js) (sym h) g
  joined xs ys (k ∷ ks) js h g = (
    h.0,
    h.1 ++ ys,
    ap (λ zs. zs ++ ys) h.2 ∙ append_assoc (map (within h.0) (marks_at k)) h.1 ys,
    joined h.1 ys ks js h.3 g,
  )

  module _ (ds : List Declaration) where
    -- each of these loops with a block is a nest
    abbrev pub AreNests : List SurroundedLoop → Type 0
    AreNests zs = (z : SurroundedLoop) (t : Block) → Contains zs z → block_at blocks (next_loop_number z.loop.before) ≡ Some t
        → is_nest ds z ≡ true

    abbrev Of : List Marked → List SurroundedLoop → Type 0
    Of xs zs = AreOfBlocks xs (nest_numbers ds zs)

    both : (xs ys : List Marked) (zs ws : List SurroundedLoop) → Of xs zs → Of ys ws → Of (xs ++ ys) (zs ++ ws)
    both xs ys zs ws h g =
        subst (AreOfBlocks (xs ++ ys)) (sym (nest_numbers-append ds zs ws))
        (joined xs ys (nest_numbers ds zs) (nest_numbers ds ws) h g)

    nothing_behind : (xs : List Marked) (zs : List SurroundedLoop) → Of xs zs → Of (xs ++ []) zs
    nothing_behind xs zs h = subst (λ ys. Of ys zs) (sym (append-nil xs)) h

    block_of_statements : (b : Block) → block (statements_of_block b) ≡ b
    block_of_statements no_statements = refl
    block_of_statements (statement c cs) = ap (statement c) (block_of_statements cs)

    abbrev turning : SurroundedLoop → Round
    turning z = (let l = z.loop.loop in Turning l.variable l.first l.last l.step)

    -- with another body
    abbrev do_with : SurroundedLoop → Block → Statement
    do_with z inside = (let l = z.loop.loop in Do l.line l.variable l.first l.last l.step inside)

    -- a loop with a block for it, or with what its body becomes
    loop_marks : (z : SurroundedLoop) (zs : List SurroundedLoop) (round : List Round) (inside : Block) (o : Option Block)
        → block_at blocks (next_loop_number z.loop.before) ≡ o
        → ((t : Block) → block_at blocks (next_loop_number z.loop.before) ≡ Some t → is_nest ds z ≡ true)
        → (is_kept ds z.loop.loop ≡ false → nest_numbers ds zs ≡ [])
        → Of (marked_in (round ++ turning z ∷ []) inside) zs
        → Of (marked_in round (block (instead blocks o (do_with z inside)))) (z ∷ zs)
    loop_marks z zs round inside None e nest none h =
        nothing_behind xs (z ∷ zs) (by (is_nest ds z) refl)
      where
        xs : List Marked
        xs = marked_in (round ++ turning z ∷ []) inside

        by : (b : Bool) → is_nest ds z ≡ b → Of xs (z ∷ zs)
        by true f = subst (AreOfBlocks xs) (sym (with_first ds z zs true f))
            ([], xs, ap (λ p. map (within []) (marks_of p) ++ xs) (sym e), h)
        by false f = subst (AreOfBlocks xs) (sym (with_first ds z zs false f)) h
    loop_marks z zs round inside (Some t) e nest none h =
        let is = nest t e in
        subst (AreOfBlocks (marked_in round (block (statements_of_block t)))) (sym (with_first ds z zs true is)) (
          round,
          [],
          ap (marked_in round) (block_of_statements t)
              ∙ (all_within round t
              ∙ (ap (λ p. map (within round) (marks_of p)) (sym e)
              ∙ sym (append-nil (map (within round) (marks_at (next_loop_number z.loop.before)))))),
          subst (AreOfBlocks []) (sym (none (no_other (is_in_no_nest ds z) (is_kept ds z.loop.loop) is))) refl,
        )

    -- ---- the walk over an unmarked program

    mutual
      statement_marks : (c : Statement) (k : ℕ) (around : List SourceLoop) (w : Surroundings) (round : List Round)
          → IsStatement ds c w → AreNests (loops_in k around c)
          → Of (marked_in round (block (placed_statement blocks k c))) (loops_in k around c)
      statement_marks (Assignment line mark left right) k around w round is h =
          ap (λ (m : Option Mark). with_mark round m (Assignment line m left right) ++ []) is.1
      statement_marks (Where line mark mask left right) k around w round is h = absurd is
      statement_marks (If line arms other) k around w round is h =
          let ls = loops_in_arms k around arms in
          let ms = loops_in_block (after_arms k arms) around other in
          let xs = marked_under round (placed_arms blocks k arms) in
          let ys = marked_in (round ++ Otherwise ∷ []) (block (placed_in blocks (after_arms k arms) other)) in
          nothing_behind (xs ++ ys) (ls ++ ms)
          (both xs ys ls ms
          (arms_marks arms k around w round is.2 (λ z t i. h z t (Contains-append_left ls ms z i)))
          (block_marks other (after_arms k arms) around w (round ++ Otherwise ∷ []) is.3
          (λ z t i. h z t (Contains-append_right ls ms z i))))
      statement_marks (Do line x a b c body) k around w round is h =
          let l : SourceLoop = record { line = line; variable = x; first = a; last = b; step = c; body = body } in
          let z : SurroundedLoop = record { around = around; loop = record { before = k; loop = l } } in
          let zs = loops_in_block (next_loop_number k) (around ++ l ∷ []) body in
          loop_marks z zs round (block (placed_in blocks (next_loop_number k) body)) (block_at blocks (next_loop_number k)) refl
          (λ t. h z t (here z zs))
          (λ e. none_in_block ds body (next_loop_number k) (around ++ l ∷ [])
          (list_all-append (is_kept ds) around (l ∷ [])
          ∙ no_second (list_all (is_kept ds) around) (is_kept ds l) e))
          (block_marks body (next_loop_number k) (around ++ l ∷ []) (within_loop x w) (round ++ Turning x a b c ∷ []) is.5
          (λ y t i. h y t (there z zs y i)))
      statement_marks (Label n) k around w round is h = refl
      statement_marks (GoTo line n) k around w round is h = refl
      statement_marks (Stop line) k around w round is h = refl
      statement_marks (Read line is) k around w round i h = refl
      statement_marks (Print line is) k around w round i h = refl
      statement_marks (Allocate line x es) k around w round is h = absurd is
      statement_marks (Deallocate line x) k around w round is h = absurd is

      arms_marks : (arms : Arms) (k : ℕ) (around : List SourceLoop) (w : Surroundings) (round : List Round)
          → AreArms ds arms w → AreNests (loops_in_arms k around arms)
          → Of (marked_under round (placed_arms blocks k arms)) (loops_in_arms k around arms)
      arms_marks no_arms k around w round is h = refl
      arms_marks (arm test body arms) k around w round is h =
          let ls = loops_in_block k around body in
          let ms = loops_in_arms (after_block k body) around arms in
          both (marked_in (round ++ Under test ∷ []) (block (placed_in blocks k body)))
          (marked_under round (placed_arms blocks (after_block k body) arms)) ls ms
          (block_marks body k around w (round ++ Under test ∷ []) is.1
          (λ z t i. h z t (Contains-append_left ls ms z i)))
          (arms_marks arms (after_block k body) around w round is.2
          (λ z t i. h z t (Contains-append_right ls ms z i)))

      pub block_marks : (b : Block) (k : ℕ) (around : List SourceLoop) (w : Surroundings) (round : List Round)
          → IsBlock ds b w → AreNests (loops_in_block k around b)
          → Of (marked_in round (block (placed_in blocks k b))) (loops_in_block k around b)
      block_marks no_statements k around w round is h = refl
      block_marks (statement c cs) k around w round is h =
          let ls = loops_in k around c in
          let ms = loops_in_block (number_after k c) around cs in
          subst (λ xs. Of xs (ls ++ ms))
          (sym (marked_after round (placed_statement blocks k c) (placed_in blocks (number_after k c) cs)))
          (both (marked_in round (block (placed_statement blocks k c)))
          (marked_in round (block (placed_in blocks (number_after k c) cs))) ls ms
          (statement_marks c k around (before_labels (labels_of cs) w) round is.0
          (λ z t i. h z t (Contains-append_left ls ms z i)))
          (block_marks cs (number_after k c) around w round is.1 (λ z t i. h z t (Contains-append_right ls ms z i))))
