-- The loops of a program in the order of their numbers: none stands twice.
use Rattle.std.proofs.Common.{◌≡◌, ◌⊎◌, inl, inr, refl, sym, ap, subst, ◌∙◌, ℕ, ◌+◌, ◌≤◌, ◌<◌, List, [], ◌∷◌, ◌++◌}
use Rattle.std.proofs.Common.{Contains, arith}
use Rattle.components.proofs.ListLaws.{Each-append}
use Rattle.components.specs.Lists.{Each, Pairwise}
use Rattle.find_nests.specs.Loops.{SurroundedLoop, SourceLoop, loops_in, loops_in_arms, loops_in_block}
use Rattle.meaning.specs.Blocks.{statement_count_of, statement_count_in_arms, statement_count_in}
use Rattle.tree.specs.Plain.{Statement, Assignment, Where, If, Do, Label, GoTo, Stop, Read, Print, Allocate}
use Rattle.tree.specs.Plain.{Deallocate, Arms, no_arms, arm, Block, no_statements, statement}
use Rattle.translation.proofs.LoopNumbers.Behind.{after_least, after_arms_least, after_block_least, after_most, after_arms_most}
use Rattle.translation.proofs.LoopNumbers.Behind.{after_block_most, next_is}
use Rattle.find_nests.specs.nest_parts.Numbers.{number_after, after_arms, after_block, next_loop_number}
use Rattle.meaning_laws.proofs.profiles.Lists.{cases_of, nowhere}
use Rattle.pass_laws.proofs.ReadyNests.Lists.{Each-Contains, Each-weaker}

-- ---- loops between two numbers

abbrev pub IsFrom : ℕ → SurroundedLoop → Type 0
IsFrom k l = k ≤ l.loop.before

abbrev pub IsBelow : ℕ → SurroundedLoop → Type 0
IsBelow k l = l.loop.before < k

abbrev pub IsEarlier : SurroundedLoop → SurroundedLoop → Type 0
IsEarlier l m = l.loop.before < m.loop.before

pub record AreBetween (k m : ℕ) (ls : List SurroundedLoop) : Type 0 where
  pub from : Each (IsFrom k) ls
  pub below : Each (IsBelow m) ls
  pub ordered : Pairwise IsEarlier ls

later : (k : ℕ) (l m : SurroundedLoop) → l.loop.before < k → IsFrom k m → IsEarlier l m
later k l m h f = let g : k ≤ m.loop.before = f in omega (arith, h, g)

ordered_joined : (m : ℕ) (xs ys : List SurroundedLoop) → Each (IsBelow m) xs → Each (IsFrom m) ys → Pairwise IsEarlier xs
    → Pairwise IsEarlier ys → Pairwise IsEarlier (xs ++ ys)
ordered_joined m [] ys h k o q = q
ordered_joined m (x ∷ xs) ys h k o q = (
  Each-append (IsEarlier x) xs ys o.0 (Each-weaker (IsFrom m) (IsEarlier x) ys (λ y f. later m x y h.0 f) k),
  ordered_joined m xs ys h.1 k o.1 q,
)

between_joined : (k m n : ℕ) (xs ys : List SurroundedLoop) → k ≤ m → m ≤ n → AreBetween k m xs → AreBetween m n ys
    → AreBetween k n (xs ++ ys)
between_joined k m n xs ys low high h g = record {
  from = Each-append (IsFrom k) xs ys h.from (Each-weaker (IsFrom m) (IsFrom k) ys sooner g.from);
  below = Each-append (IsBelow n) xs ys (Each-weaker (IsBelow m) (IsBelow n) xs higher h.below) g.below;
  ordered = ordered_joined m xs ys h.below g.from h.ordered g.ordered;
}
  where
    sooner : (y : SurroundedLoop) → IsFrom m y → IsFrom k y
    sooner y f = let e : m ≤ y.loop.before = f in omega (arith, e, low)

    higher : (y : SurroundedLoop) → IsBelow m y → IsBelow n y
    higher y f = let e : y.loop.before < m = f in omega (arith, e, high)

nothing_between : (k : ℕ) → AreBetween k k []
nothing_between k = record { from = tt; below = tt; ordered = tt }

-- a loop before those in it
first_between : (k m : ℕ) (l : SurroundedLoop) (ls : List SurroundedLoop) → l.loop.before ≡ k → k < m → AreBetween (k + 1) m ls
    → AreBetween k m (l ∷ ls)
first_between k m l ls e low h = record {
  from = (omega (arith, e), Each-weaker (IsFrom (k + 1)) (IsFrom k) ls sooner h.from);
  below = (omega (arith, e, low), h.below);
  ordered = (Each-weaker (IsFrom (k + 1)) (IsEarlier l) ls after h.from, h.ordered);
}
  where
    sooner : (y : SurroundedLoop) → IsFrom (k + 1) y → IsFrom k y
    sooner y f = let g : k + 1 ≤ y.loop.before = f in omega (arith, g)

    after : (y : SurroundedLoop) → IsFrom (k + 1) y → IsEarlier l y
    after y f = later (k + 1) l y (omega (arith, e)) f

mutual
  in_statement : (k : ℕ) (around : List SourceLoop) (c : Statement) → k + statement_count_of c ≤ 4294967295
      → AreBetween k (number_after k c) (loops_in k around c)
  in_statement k around (Assignment line mark left right) h = nothing_between k
  in_statement k around (Where line mark mask left right) h = nothing_between k
  in_statement k around (If line arms other) h =
      let most = after_arms_most k arms in
      let m = after_arms k arms in
      between_joined k m (after_block m other) (loops_in_arms k around arms) (loops_in_block m around other)
      (after_arms_least k arms) (after_block_least m other) (in_arms k around arms (omega (arith, h)))
      (in_block m around other (omega (arith, h, most)))
  in_statement k around (Do line x a b c body) h =
      let l : SourceLoop = record { line = line; variable = x; first = a; last = b; step = c; body = body } in
      let inner = loops_in_block (next_loop_number k) (around ++ l ∷ []) body in
      let is = next_is k (omega (arith, h)) in
      let least = after_block_least (next_loop_number k) body in
      first_between k (after_block (next_loop_number k) body) (record { around = around; loop = record { before = k; loop = l } })
      inner refl (omega (arith, is, least))
      (subst (λ j. AreBetween j (after_block (next_loop_number k) body) inner) is
      (in_block (next_loop_number k) (around ++ l ∷ []) body (omega (arith, h, is))))
  in_statement k around (Label n) h = nothing_between k
  in_statement k around (GoTo line n) h = nothing_between k
  in_statement k around (Stop line) h = nothing_between k
  in_statement k around (Read line is) h = nothing_between k
  in_statement k around (Print line is) h = nothing_between k
  in_statement k around (Allocate line x es) h = nothing_between k
  in_statement k around (Deallocate line x) h = nothing_between k

  in_arms : (k : ℕ) (around : List SourceLoop) (arms : Arms) → k + statement_count_in_arms arms ≤ 4294967295
      → AreBetween k (after_arms k arms) (loops_in_arms k around arms)
  in_arms k around no_arms h = nothing_between k
  in_arms k around (arm test body arms) h =
      let most = after_block_most k body in
      let m = after_block k body in
      between_joined k m (after_arms m arms) (loops_in_block k around body) (loops_in_arms m around arms)
      (after_block_least k body) (after_arms_least m arms) (in_block k around body (omega (arith, h)))
      (in_arms m around arms (omega (arith, h, most)))

  in_block : (k : ℕ) (around : List SourceLoop) (b : Block) → k + statement_count_in b ≤ 4294967295
      → AreBetween k (after_block k b) (loops_in_block k around b)
  in_block k around no_statements h = nothing_between k
  in_block k around (statement c cs) h =
      let most = after_most k c in
      let m = number_after k c in
      between_joined k m (after_block m cs) (loops_in k around c) (loops_in_block m around cs)
      (after_least k c) (after_block_least m cs) (in_statement k around c (omega (arith, h)))
      (in_block m around cs (omega (arith, h, most)))

-- ---- a loop by its number

one_of : (ls : List SurroundedLoop) (l m : SurroundedLoop) → Pairwise IsEarlier ls → Contains ls l → Contains ls m
    → l.loop.before ≡ m.loop.before → l ≡ m
one_of [] l m o c d e = absurd (nowhere l c)
one_of (x ∷ ls) l m o c d e = by (cases_of x ls l c) (cases_of x ls m d) (λ i j. one_of ls l m o.1 i j e)
  where
    never : (y z : SurroundedLoop) → x ≡ y → Contains ls z → y.loop.before ≡ z.loop.before → ⊥
    never y z s i f =
        let less : x.loop.before < z.loop.before = Each-Contains (IsEarlier x) ls z o.0 i in
        let same = ap (λ (u : SurroundedLoop). u.loop.before) s in
        omega (arith, less, same, f)

    by : (x ≡ l) ⊎ Contains ls l → (x ≡ m) ⊎ Contains ls m → (Contains ls l → Contains ls m → l ≡ m) → l ≡ m
    by (inl s) (inl t) rest = sym s ∙ t
    by (inl s) (inr j) rest = absurd (never l m s j e)
    by (inr i) (inl t) rest = absurd (never m l t i (sym e))
    by (inr i) (inr j) rest = rest i j

module _ (b : Block) (few : statement_count_in b < 2147483648) where
  -- not so many loops that a number would stand for two
  pub all_between : AreBetween 0 2147483648 (loops_in_block 0 [] b)
  all_between =
      let h = in_block 0 [] b (omega (arith, few)) in
      record {
        from = h.from;
        below = Each-weaker (IsBelow (after_block 0 b)) (IsBelow 2147483648) (loops_in_block 0 [] b) higher h.below;
        ordered = h.ordered;
      }
    where
      higher : (y : SurroundedLoop) → IsBelow (after_block 0 b) y → IsBelow 2147483648 y
      higher y f =
          let e : y.loop.before < after_block 0 b = f in
          let most = after_block_most 0 b in
          omega (arith, e, most, few)

  is_small : (l : SurroundedLoop) → Contains (loops_in_block 0 [] b) l → l.loop.before < 2147483648
  is_small l c = Each-Contains (IsBelow 2147483648) (loops_in_block 0 [] b) l all_between.below c

  pub same_loop : (l m : SurroundedLoop) → Contains (loops_in_block 0 [] b) l → Contains (loops_in_block 0 [] b) m
      → next_loop_number l.loop.before ≡ next_loop_number m.loop.before → l ≡ m
  same_loop l m c d e =
      let f = is_small l c in
      let g = is_small m d in
      let i = next_is l.loop.before (omega (arith, f)) in
      let j = next_is m.loop.before (omega (arith, g)) in
      one_of (loops_in_block 0 [] b) l m all_between.ordered c d (omega (arith, e, i, j))
