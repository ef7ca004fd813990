-- Blocks in the place of loops by their numbers are blocks that stand for these loops.
use Rattle.std.proofs.Common.{◌≡◌, inl, inr, refl, sym, ap, subst, ℕ, Option, Some, None, List, [], ◌∷◌, ◌++◌, Contains}
use Rattle.std.proofs.lemmas.List.Elements.{Contains-append_left, Contains-append_right}
use Rattle.meaning_laws.proofs.profiles.Lists.{here, there}
use Rattle.tree.specs.Plain.{Statement, Assignment, Where, If, Do, Label, GoTo, Stop, Read, Print, Allocate, Deallocate}
use Rattle.tree.specs.Plain.{Arms, no_arms, arm, Block, no_statements, statement, block, Program}
use Rattle.find_nests.specs.Loops.{SurroundedLoop, SourceLoop, as_statement, loops_in, loops_in_arms, loops_in_block}
use Rattle.translation.specs.loop_placing.Placing.{block_at, instead, placed_statement, placed_arms, placed_in, statements_of_block}
use Rattle.find_nests.specs.nest_parts.Numbers.{number_after, after_arms, after_block, next_loop_number}
use Rattle.nest.specs.Allocations.{block_then}
use Rattle.translation.specs.placed_loops.Beside.{DoesAs}
use Rattle.pass_laws.specs.prepared_runs.Unlabelled.{HasNoLabel}
use Rattle.translation.specs.placed_loops.Placed.{ArePlaced, IsPlaced, StandsFor}
use Rattle.tree.specs.declared.width.Width.{Width}

-- ---- blocks and lists

block_of_statements : (b : Block) → block (statements_of_block b) ≡ b
block_of_statements no_statements = refl
block_of_statements (statement c cs) = ap (statement c) (block_of_statements cs)

block-append : (xs ys : List Statement) → block (xs ++ ys) ≡ block_then (block xs) (block ys)
block-append [] ys = refl
block-append (x ∷ xs) ys = ap (statement x) (block-append xs ys)

-- ---- the walk

module _ (width : Width) (p q : Program) (blocks : List (Option Block)) where
  -- a block for one of these loops does what the loop does
  abbrev pub Stand : List SurroundedLoop → Type 0
  Stand ls = (l : SurroundedLoop) (b : Block) → Contains ls l → block_at blocks (next_loop_number l.loop.before) ≡ Some b
      → DoesAs width p q (as_statement l.loop.loop) b × HasNoLabel b

  -- a loop with a block for it, or with what its body becomes
  loop_stands : (k : ℕ) (l : SurroundedLoop) (inside : Block) → l.loop.before ≡ k → (o : Option Block) → block_at blocks (next_loop_number k) ≡ o
      → ((b : Block) → block_at blocks (next_loop_number k) ≡ Some b → DoesAs width p q (as_statement l.loop.loop) b × HasNoLabel b)
      → IsPlaced width p q l.loop.loop.body inside
      → StandsFor width p q (as_statement l.loop.loop)
      (block (instead blocks o (Do l.loop.loop.line l.loop.loop.variable l.loop.loop.first l.loop.loop.last l.loop.loop.step inside)))
  loop_stands k l inside at None e h g = inr (inside, refl, g)
  loop_stands k l inside at (Some b) e h g =
      inl (subst (λ d. DoesAs width p q (as_statement l.loop.loop) d × HasNoLabel d) (sym (block_of_statements b)) (h b e))

  mutual
    stands : (k : ℕ) (around : List SourceLoop) (c : Statement) → Stand (loops_in k around c) → StandsFor width p q c (block (placed_statement blocks k c))
    stands k around (Assignment line mark left right) h = refl
    stands k around (Where line mark mask left right) h = refl
    stands k around (If line arms other) h = (
      placed_arms blocks k arms,
      block (placed_in blocks (after_arms k arms) other),
      refl,
      arms_stand k around arms (λ l b i e. h l b (Contains-append_left (loops_in_arms k around arms) (loops_in_block (after_arms k arms) around other) l i) e),
      block_stands (after_arms k arms) around other (λ l b i e. h l b (Contains-append_right (loops_in_arms k around arms) (loops_in_block (after_arms k arms) around other) l i) e),
    )
    stands k around (Do line x first last step body) h =
        let own : SourceLoop = record { line = line; variable = x; first = first; last = last; step = step; body = body } in
        loop_stands k (record { around = around; loop = record { before = k; loop = own } }) (block (placed_in blocks (next_loop_number k) body)) refl
        (block_at blocks (next_loop_number k)) refl
        (λ b e. h (record { around = around; loop = record { before = k; loop = own } }) b (here _ (loops_in_block (next_loop_number k) (around ++ own ∷ []) body)) e)
        (block_stands (next_loop_number k) (around ++ own ∷ []) body (λ l b i e. h l b (there _ (loops_in_block (next_loop_number k) (around ++ own ∷ []) body) l i) e))
    stands k around (Label n) h = refl
    stands k around (GoTo line n) h = refl
    stands k around (Stop line) h = refl
    stands k around (Read line is) h = refl
    stands k around (Print line is) h = refl
    stands k around (Allocate line x es) h = refl
    stands k around (Deallocate line x) h = refl

    arms_stand : (k : ℕ) (around : List SourceLoop) (ms : Arms) → Stand (loops_in_arms k around ms) → ArePlaced width p q ms (placed_arms blocks k ms)
    arms_stand k around no_arms h = refl
    arms_stand k around (arm test body ms) h = (
      block (placed_in blocks k body),
      placed_arms blocks (after_block k body) ms,
      refl,
      block_stands k around body (λ l b i e. h l b (Contains-append_left (loops_in_block k around body) (loops_in_arms (after_block k body) around ms) l i) e),
      arms_stand (after_block k body) around ms (λ l b i e. h l b (Contains-append_right (loops_in_block k around body) (loops_in_arms (after_block k body) around ms) l i) e),
    )

    pub block_stands : (k : ℕ) (around : List SourceLoop) (b : Block) → Stand (loops_in_block k around b) → IsPlaced width p q b (block (placed_in blocks k b))
    block_stands k around no_statements h = refl
    block_stands k around (statement c cs) h = (
      block (placed_statement blocks k c),
      block (placed_in blocks (number_after k c) cs),
      block-append (placed_statement blocks k c) (placed_in blocks (number_after k c) cs),
      stands k around c (λ l b i e. h l b (Contains-append_left (loops_in k around c) (loops_in_block (number_after k c) around cs) l i) e),
      block_stands (number_after k c) around cs (λ l b i e. h l b (Contains-append_right (loops_in k around c) (loops_in_block (number_after k c) around cs) l i) e),
    )
