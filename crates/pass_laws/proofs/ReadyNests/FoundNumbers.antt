-- The numbers of the loops of a nest that is found.
use Rattle.std.proofs.Common.{◌≡◌, sym, ap, ◌∙◌, subst, ℕ, suc, ◌+◌, ◌<◌, ◌≤◌, Bool, true, false, cond, List, [], ◌∷◌, ◌++◌, arith}
use Rattle.std.specs.Prelude.{nat_lt}
use Rattle.std.proofs.lemmas.Bool.Decides.{Decides-ltb}
use Rattle.tree.specs.Plain.{Statement, Assignment, Where, If, Do, Label, GoTo, Stop, Read, Print, Allocate, Deallocate, Arms, no_arms, arm, Block, no_statements, statement}
use Rattle.meaning.specs.Blocks.{statement_count_of, statement_count_in_arms, statement_count_in}
use Rattle.components.specs.Lists.{Each, Distinct}
use Rattle.components.proofs.ListLaws.{Each-append}
use Rattle.nest.specs.Plain.{Nest, parts}
use Rattle.nest.specs.Bodies.{loops_of, loops_in_parts, loops_in_branches, nest_loops}
use Rattle.find_nests.specs.nest_parts.Numbers.{next_loop_number, number_after, after_arms, after_block}
use Rattle.find_nests.specs.nest_parts.Statements.{parts_of, branches_of, parts_of_block}
use Rattle.find_nests.specs.Loops.{SourceLoop, Numbered, SurroundedLoop, loops_in, loops_in_arms, loops_in_block}
use Rattle.find_nests.specs.Found.{body_of}
use Rattle.find_nests.proofs.FoundLaws.{found_nest_is_loop}
use Rattle.pass_laws.specs.ready_nests.Distinct.{numbers_of, FoundLoopsAreDistinct}
use Rattle.pass_laws.proofs.ReadyNests.Lists.{Each-Contains, numbers_joined, numbers_alone, loops_joined}

-- ---- lists that climb

-- the first number is above `low`, each further one above that before it, and none above `high`
abbrev Climbs : ℕ → ℕ → List ℕ → Type 0
Climbs low high [] = low ≤ high
Climbs low high (x ∷ xs) = (low < x) × Climbs x high xs

sooner : (a b c : ℕ) (xs : List ℕ) → a ≤ b → Climbs b c xs → Climbs a c xs
sooner a b c [] h k = let l : b ≤ c = k in omega (arith, h, l)
sooner a b c (x ∷ xs) h k = (let l : b < x = k.0 in omega (arith, h, l), k.1)

joined : (a b c : ℕ) (xs ys : List ℕ) → Climbs a b xs → Climbs b c ys → Climbs a c (xs ++ ys)
joined a b c [] ys h k = sooner a b c ys h k
joined a b c (x ∷ xs) ys h k = (h.0, joined x b c xs ys h.1 k)

others : (y a high : ℕ) (xs : List ℕ) → y ≤ a → Climbs a high xs → Each (λ z. ¬ (y ≡ z)) xs
others y a high [] h k = tt
others y a high (x ∷ xs) h k =
    let above : a < x = k.0 in
    (λ e. absurd (omega (arith, h, above, e)), others y x high xs (omega (arith, h, above)) k.1)

distinct : (low high : ℕ) (xs : List ℕ) → Climbs low high xs → Distinct xs
distinct low high [] h = tt
distinct low high (x ∷ xs) h = (others x x high xs (omega arith) h.1, distinct x high xs h.1)

-- ---- the numbers of the loops of statements

next_is : (k : ℕ) → k < 4294967295 → next_loop_number k ≡ k + 1
next_is k h = ap (λ b. cond b (k + 1) k) ((Decides-ltb k 4294967295).1 h)

next_within : (k : ℕ) → next_loop_number k ≤ k + 1
next_within k = by (nat_lt k 4294967295)
  where
    by : (b : Bool) → cond b (k + 1) k ≤ k + 1
    by true = omega arith
    by false = omega arith

-- no more than there are statements
mutual
  few : (k : ℕ) (c : Statement) → number_after k c ≤ k + statement_count_of c
  few k (Assignment l mark left right) = omega arith
  few k (Where l mark mask left right) = omega arith
  few k (If l arms other) = let a = few_in_arms k arms in let b = few_in_block (after_arms k arms) other in omega (arith, a, b)
  few k (Do l x a b c body) = let m = few_in_block (next_loop_number k) body in let e = next_within k in omega (arith, m, e)
  few k (Label n) = omega arith
  few k (GoTo l n) = omega arith
  few k (Stop l) = omega arith
  few k (Read l is) = omega arith
  few k (Print l is) = omega arith
  few k (Allocate l x es) = omega arith
  few k (Deallocate l x) = omega arith

  few_in_arms : (k : ℕ) (arms : Arms) → after_arms k arms ≤ k + statement_count_in_arms arms
  few_in_arms k no_arms = omega arith
  few_in_arms k (arm test body arms) = let a = few_in_block k body in let b = few_in_arms (after_block k body) arms in omega (arith, a, b)

  few_in_block : (k : ℕ) (b : Block) → after_block k b ≤ k + statement_count_in b
  few_in_block k no_statements = omega arith
  few_in_block k (statement c cs) = let a = few k c in let b = few_in_block (number_after k c) cs in omega (arith, a, b)

abbrev numbers_at : ℕ → Statement → List ℕ
numbers_at k c = numbers_of (loops_in_parts (parts (parts_of k c)))

abbrev numbers_in_arms : ℕ → Arms → List ℕ
numbers_in_arms k arms = numbers_of (loops_in_branches (branches_of k arms))

abbrev numbers_in_block : ℕ → Block → List ℕ
numbers_in_block k b = numbers_of (loops_in_parts (parts (parts_of_block k b)))

-- they climb from the number of the last loop before
mutual
  climb : (k : ℕ) (c : Statement) → k + statement_count_of c < 4294967295 → Climbs k (number_after k c) (numbers_at k c)
  climb k (Assignment l mark left right) h = omega arith
  climb k (Where l mark mask left right) h = omega arith
  climb k (If l arms other) h =
      let a = few_in_arms k arms in
      let bs = loops_in_branches (branches_of k arms) in
      let ps = loops_in_parts (parts (parts_of_block (after_arms k arms) other)) in
      subst (Climbs k (after_block (after_arms k arms) other)) (sym (numbers_alone (bs ++ ps) ∙ numbers_joined bs ps))
      (joined k (after_arms k arms) (after_block (after_arms k arms) other) (numbers_in_arms k arms) (numbers_in_block (after_arms k arms) other)
      (climb_in_arms k arms (omega (arith, h))) (climb_in_block (after_arms k arms) other (omega (arith, h, a))))
  climb k (Do l x a b c body) h =
      let e = next_is k (omega (arith, h)) in
      let ps = loops_in_parts (parts (parts_of_block (next_loop_number k) body)) in
      (omega (arith, e), subst (Climbs (next_loop_number k) (after_block (next_loop_number k) body)) (sym (numbers_alone ps)) (climb_in_block (next_loop_number k) body (omega (arith, h, e))))
  climb k (Label n) h = omega arith
  climb k (GoTo l n) h = omega arith
  climb k (Stop l) h = omega arith
  climb k (Read l is) h = omega arith
  climb k (Print l is) h = omega arith
  climb k (Allocate l x es) h = omega arith
  climb k (Deallocate l x) h = omega arith

  climb_in_arms : (k : ℕ) (arms : Arms) → k + statement_count_in_arms arms < 4294967295 → Climbs k (after_arms k arms) (numbers_in_arms k arms)
  climb_in_arms k no_arms h = omega arith
  climb_in_arms k (arm test body arms) h =
      let a = few_in_block k body in
      let ps = loops_in_parts (parts (parts_of_block k body)) in
      let bs = loops_in_branches (branches_of (after_block k body) arms) in
      subst (Climbs k (after_arms (after_block k body) arms)) (sym (numbers_joined ps bs))
      (joined k (after_block k body) (after_arms (after_block k body) arms) (numbers_in_block k body) (numbers_in_arms (after_block k body) arms)
      (climb_in_block k body (omega (arith, h))) (climb_in_arms (after_block k body) arms (omega (arith, h, a))))

  climb_in_block : (k : ℕ) (b : Block) → k + statement_count_in b < 4294967295 → Climbs k (after_block k b) (numbers_in_block k b)
  climb_in_block k no_statements h = omega arith
  climb_in_block k (statement c cs) h =
      let a = few k c in
      let ps = parts_of k c in
      let qs = parts_of_block (number_after k c) cs in
      subst (Climbs k (after_block (number_after k c) cs))
      (sym (ap numbers_of (loops_joined ps qs) ∙ numbers_joined (loops_in_parts (parts ps)) (loops_in_parts (parts qs))))
      (joined k (number_after k c) (after_block (number_after k c) cs) (numbers_at k c) (numbers_in_block (number_after k c) cs)
      (climb k c (omega (arith, h))) (climb_in_block (number_after k c) cs (omega (arith, h, a))))

-- ---- the loops of a program

-- no number up to the end of a loop is above this one
abbrev Below : ℕ → SurroundedLoop → Type 0
Below most q = q.loop.before + suc (statement_count_in q.loop.loop.body) ≤ most

mutual
  below : (most k : ℕ) (around : List SourceLoop) (c : Statement) → k + statement_count_of c ≤ most → Each (Below most) (loops_in k around c)
  below most k around (Assignment l mark left right) h = tt
  below most k around (Where l mark mask left right) h = tt
  below most k around (If l arms other) h =
      let a = few_in_arms k arms in
      Each-append (Below most) (loops_in_arms k around arms) (loops_in_block (after_arms k arms) around other)
      (below_in_arms most k around arms (omega (arith, h))) (below_in_block most (after_arms k arms) around other (omega (arith, h, a)))
  below most k around (Do l x a b c body) h =
      let e = next_within k in (
        omega (arith, h),
        below_in_block most (next_loop_number k) (around ++ record { line = l; variable = x; first = a; last = b; step = c; body = body } ∷ []) body (omega (arith, h, e)),
      )
  below most k around (Label n) h = tt
  below most k around (GoTo l n) h = tt
  below most k around (Stop l) h = tt
  below most k around (Read l is) h = tt
  below most k around (Print l is) h = tt
  below most k around (Allocate l x es) h = tt
  below most k around (Deallocate l x) h = tt

  below_in_arms : (most k : ℕ) (around : List SourceLoop) (arms : Arms) → k + statement_count_in_arms arms ≤ most → Each (Below most) (loops_in_arms k around arms)
  below_in_arms most k around no_arms h = tt
  below_in_arms most k around (arm test body arms) h =
      let a = few_in_block k body in
      Each-append (Below most) (loops_in_block k around body) (loops_in_arms (after_block k body) around arms)
      (below_in_block most k around body (omega (arith, h))) (below_in_arms most (after_block k body) around arms (omega (arith, h, a)))

  below_in_block : (most k : ℕ) (around : List SourceLoop) (b : Block) → k + statement_count_in b ≤ most → Each (Below most) (loops_in_block k around b)
  below_in_block most k around no_statements h = tt
  below_in_block most k around (statement c cs) h =
      let a = few k c in
      Each-append (Below most) (loops_in k around c) (loops_in_block (number_after k c) around cs)
      (below most k around c (omega (arith, h))) (below_in_block most (number_after k c) around cs (omega (arith, h, a)))

loop_distinct : (l : Numbered) → l.before + suc (statement_count_in l.loop.body) < 4294967295 → Distinct (numbers_of (loops_of (body_of l)))
loop_distinct l h =
    let e = next_is l.before (omega (arith, h)) in
    distinct l.before (after_block (next_loop_number l.before) l.loop.body) (numbers_of (loops_of (body_of l)))
    (omega (arith, e), climb_in_block (next_loop_number l.before) l.loop.body (omega (arith, h, e)))

pub found_loops_are_distinct : FoundLoopsAreDistinct
found_loops_are_distinct d p n is h =
    let f = found_nest_is_loop p n h in
    let most : statement_count_in p.body < 2147483648 = is.few in
    let l : f.loop.loop.before + suc (statement_count_in f.loop.loop.loop.body) ≤ statement_count_in p.body =
    Each-Contains (Below (statement_count_in p.body)) (loops_in_block 0 [] p.body) f.loop (below_in_block (statement_count_in p.body) 0 [] p.body (omega arith)) f.stands in
    subst (λ (m : Nest). Distinct (numbers_of (nest_loops m))) (sym f.is) (loop_distinct f.loop.loop (omega (arith, most, l)))
