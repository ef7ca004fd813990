-- The loops that stand in no nest, among all loops.
use Rattle.std.proofs.Common.{◌≡◌, ℕ, Bool, true, false, ◌&&◌, List, [], ◌∷◌, ◌++◌, map, refl, ap, ◌∙◌, cond}
use Rattle.std.specs.List.{filter, list_all}
use Rattle.std.proofs.lemmas.List.{map-append}
use Rattle.std.proofs.lemmas.List.Elements.{filter-append}
use mathlib.Core.Path.{ap₂}
use Rattle.tree.specs.Plain.{Statement, Assignment, Where, If, Do, Label, GoTo, Stop, Read, Print}
use Rattle.tree.specs.Plain.{Allocate, Deallocate, Arms, no_arms, arm, Block, no_statements, statement, Declaration}
use Rattle.find_nests.specs.nest_parts.Numbers.{next_loop_number, number_after, after_arms, after_block}
use Rattle.find_nests.specs.Loops.{SourceLoop, Numbered, SurroundedLoop, loops_in, loops_in_arms, loops_in_block}
use Rattle.find_nests.specs.LookedAt.{is_kept, is_in_no_nest, looked_at}
use Rattle.find_nests.specs.Walk.{outermost_in, outermost_in_arms, outermost_in_block}

abbrev pub loop_of : SurroundedLoop → Numbered
loop_of p = p.loop

module _ (ds : List Declaration) where
  abbrev in_none : List SurroundedLoop → List Numbered
  in_none ps = map loop_of (filter (is_in_no_nest ds) ps)

  in_none-append : (ps qs : List SurroundedLoop) → in_none (ps ++ qs) ≡ in_none ps ++ in_none qs
  in_none-append ps qs = ap (map loop_of) (filter-append (is_in_no_nest ds) ps qs) ∙ map-append loop_of (filter (is_in_no_nest ds) ps) (filter (is_in_no_nest ds) qs)

  abbrev all_kept : List SourceLoop → Bool
  all_kept ls = list_all (is_kept ds) ls

  all-snoc : (ls : List SourceLoop) (l : SourceLoop) → all_kept (ls ++ l ∷ []) ≡ (all_kept ls && is_kept ds l)
  all-snoc [] l = and_true (is_kept ds l)
    where
      and_true : (b : Bool) → (b && true) ≡ b
      and_true true = refl
      and_true false = refl
  all-snoc (m ∷ ls) l = ap (λ b. is_kept ds m && b) (all-snoc ls l) ∙ assoc (is_kept ds m) (all_kept ls) (is_kept ds l)
    where
      assoc : (a b c : Bool) → (a && (b && c)) ≡ ((a && b) && c)
      assoc true b c = refl
      assoc false b c = refl

  in_none-first : (p : SurroundedLoop) (ps : List SurroundedLoop) → in_none (p ∷ ps) ≡ cond (is_in_no_nest ds p) (p.loop ∷ in_none ps) (in_none ps)
  in_none-first p ps = by (is_in_no_nest ds p)
    where
      by : (b : Bool) → map loop_of (cond b (p ∷ filter (is_in_no_nest ds) ps) (filter (is_in_no_nest ds) ps)) ≡ cond b (p.loop ∷ in_none ps) (in_none ps)
      by true = refl
      by false = refl

  either : (a b : Bool) (n : Numbered) (ns : List Numbered) → cond a (n ∷ cond (a && b) ns []) (cond (a && b) ns []) ≡ cond a (n ∷ cond b ns []) []
  either true b n ns = refl
  either false b n ns = refl

  none : (a : Bool) → ◌≡◌ {A = List Numbered} [] (cond a [] [])
  none true = refl
  none false = refl

  two : (a : Bool) (xs ys : List Numbered) → cond a xs [] ++ cond a ys [] ≡ cond a (xs ++ ys) []
  two true xs ys = refl
  two false xs ys = refl

  mutual
    within : (k : ℕ) (around : List SourceLoop) (c : Statement) → in_none (loops_in k around c) ≡ cond (all_kept around) (outermost_in ds k c) []
    within k around (Assignment line mark left right) = none (all_kept around)
    within k around (Where line mark mask left right) = none (all_kept around)
    within k around (If line arms other) =
        in_none-append (loops_in_arms k around arms) (loops_in_block (after_arms k arms) around other)
        ∙ ap₂ (λ xs ys. xs ++ ys) (within_arms k around arms) (within_block (after_arms k arms) around other)
        ∙ two (all_kept around) (outermost_in_arms ds k arms) (outermost_in_block ds (after_arms k arms) other)
    within k around (Do line x a b c body) =
        let l : SourceLoop = record { line = line; variable = x; first = a; last = b; step = c; body = body } in
        let n : Numbered = record { before = k; loop = l } in
        let inside : in_none (loops_in_block (next_loop_number k) (around ++ l ∷ []) body) ≡ cond (all_kept around && is_kept ds l) (outermost_in_block ds (next_loop_number k) body) [] =
        within_block (next_loop_number k) (around ++ l ∷ []) body ∙ ap (λ b. cond b (outermost_in_block ds (next_loop_number k) body) []) (all-snoc around l) in
        in_none-first (record { around = around; loop = n }) (loops_in_block (next_loop_number k) (around ++ l ∷ []) body)
        ∙ ap (λ ns. cond (all_kept around) (n ∷ ns) ns) inside
        ∙ either (all_kept around) (is_kept ds l) n (outermost_in_block ds (next_loop_number k) body)
    within k around (Label n) = none (all_kept around)
    within k around (GoTo line n) = none (all_kept around)
    within k around (Stop line) = none (all_kept around)
    within k around (Read line is) = none (all_kept around)
    within k around (Print line is) = none (all_kept around)
    within k around (Allocate line x es) = none (all_kept around)
    within k around (Deallocate line x) = none (all_kept around)

    within_arms : (k : ℕ) (around : List SourceLoop) (arms : Arms) → in_none (loops_in_arms k around arms) ≡ cond (all_kept around) (outermost_in_arms ds k arms) []
    within_arms k around no_arms = none (all_kept around)
    within_arms k around (arm test body arms) =
        in_none-append (loops_in_block k around body) (loops_in_arms (after_block k body) around arms)
        ∙ ap₂ (λ xs ys. xs ++ ys) (within_block k around body) (within_arms (after_block k body) around arms)
        ∙ two (all_kept around) (outermost_in_block ds k body) (outermost_in_arms ds (after_block k body) arms)

    within_block : (k : ℕ) (around : List SourceLoop) (b : Block) → in_none (loops_in_block k around b) ≡ cond (all_kept around) (outermost_in_block ds k b) []
    within_block k around no_statements = none (all_kept around)
    within_block k around (statement c cs) =
        in_none-append (loops_in k around c) (loops_in_block (number_after k c) around cs)
        ∙ ap₂ (λ xs ys. xs ++ ys) (within k around c) (within_block (number_after k c) around cs)
        ∙ two (all_kept around) (outermost_in ds k c) (outermost_in_block ds (number_after k c) cs)

  -- the loops that stand in no nest are found part by part
  pub looked_at-is : (b : Block) → looked_at ds b ≡ outermost_in_block ds 0 b
  looked_at-is b = within_block 0 [] b
