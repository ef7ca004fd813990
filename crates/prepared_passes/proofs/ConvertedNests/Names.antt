-- A nest in whose statements no mask stands has none in its parts.
use Rattle.std.proofs.Common.{refl, sym, subst, inl, inr, ℕ, All, List, [], ◌∷◌, ◌++◌, Option, Some, None}
use Rattle.std.proofs.lemmas.List.Elements.{All-append, All-cons, All-head, All-nil, All-tail}
use Rattle.tree.specs.Plain as P
use Rattle.meaning.specs.Reads.{names_in_block, names_in_statement, names_in_arms}
use Rattle.meaning.specs.Reads.{names_in, names_in_subscripts}
use Rattle.nest.specs.Allocations.{allocation_then, allocations_then, block_then}
use Rattle.nest.specs.Blocks.{arms_of_branches, assignment_of, block_of_parts, numeral, statement_of_part, under_guard}
use Rattle.nest.specs.Plain.{Branches, no_branches, branch, Guarded, Made, Part, Run, Turns, Choice, Label, Jump, Parts, no_parts, part}
use Rattle.nest_order.specs.orders.Lists.{In}
use Rattle.prepared_passes.proofs.ConvertedNests.Masked.{AreFree, BranchesAreFree, IsFree, IsOther}

pub front : {X : Type 0} (Q : X → Type 0) (xs ys : List X) → All Q (xs ++ ys) → All Q xs
front Q [] ys h = All-nil Q
front Q (x ∷ xs) ys h = All-cons Q x xs (All-head Q x (xs ++ ys) h) (front Q xs ys (All-tail Q x (xs ++ ys) h))

pub rest : {X : Type 0} (Q : X → Type 0) (xs ys : List X) → All Q (xs ++ ys) → All Q ys
rest Q [] ys h = h
rest Q (x ∷ xs) ys h = rest Q xs ys (All-tail Q x (xs ++ ys) h)

pub each : {X : Type 0} (Q : X → Type 0) (xs : List X) → All Q xs → (x : X) → In x xs → Q x
each Q [] h x i = absurd i
each Q (y ∷ xs) h x (inl e) = subst Q (sym e) (All-head Q y xs h)
each Q (y ∷ xs) h x (inr i) = each Q xs (All-tail Q y xs h) x i

pub all_of : {X : Type 0} (Q : X → Type 0) (xs : List X) → ((x : X) → In x xs → Q x) → All Q xs
all_of Q [] h = All-nil Q
all_of Q (x ∷ xs) h = All-cons Q x xs (h x (inl refl)) (all_of Q xs (λ y i. h y (inr i)))

abbrev pub Clear : List (List ℕ) → Type 0
Clear ys = All IsOther ys

both : (xs ys : List (List ℕ)) → Clear xs → Clear ys → Clear (xs ++ ys)
both xs ys h k = All-append IsOther xs ys h k

-- an assignment, without its guard
run_free : (g : Guarded) → Clear (g.left.name ∷ names_in_subscripts g.left.subscripts ++ names_in g.right) → IsFree (Run g)
run_free g h =
    each IsOther (names_in g.right ++ (g.left.name ∷ names_in_subscripts g.left.subscripts))
    (both (names_in g.right) (g.left.name ∷ names_in_subscripts g.left.subscripts)
    (rest IsOther (names_in_subscripts g.left.subscripts) (names_in g.right) (All-tail IsOther g.left.name (names_in_subscripts g.left.subscripts ++ names_in g.right) h))
    (All-cons IsOther g.left.name (names_in_subscripts g.left.subscripts) (All-head IsOther g.left.name (names_in_subscripts g.left.subscripts ++ names_in g.right) h)
    (front IsOther (names_in_subscripts g.left.subscripts) (names_in g.right) (All-tail IsOther g.left.name (names_in_subscripts g.left.subscripts ++ names_in g.right) h))))

module _ (line : ℕ) where
  mutual
    pub part_free : (p : Part) → Clear (names_in_statement (statement_of_part line p)) → IsFree p
    part_free (Run g) h = by g.guard h
      where
        by : (o : Option P.Expression) → Clear (names_in_statement (under_guard g.line o (assignment_of g))) → IsFree (Run g)
        by None h = run_free g h
        by (Some e) h =
            let one = front IsOther (names_in e ++ (names_in_statement (assignment_of g) ++ []) ++ []) [] h in
            let two = front IsOther (names_in e ++ (names_in_statement (assignment_of g) ++ [])) [] one in
            run_free g (front IsOther (names_in_statement (assignment_of g)) [] (rest IsOther (names_in e) (names_in_statement (assignment_of g) ++ []) two))
    part_free (Turns l ps) h =
        let a = All-tail IsOther l.variable (names_in l.first ++ names_in l.last ++ names_in (numeral l.step) ++ names_in_block (block_of_parts line ps)) h in
        let b = front IsOther (names_in l.first ++ names_in l.last ++ names_in (numeral l.step)) (names_in_block (block_of_parts line ps)) a in
        let c = front IsOther (names_in l.first ++ names_in l.last) (names_in (numeral l.step)) b in (
          All-head IsOther l.variable (names_in l.first ++ names_in l.last ++ names_in (numeral l.step) ++ names_in_block (block_of_parts line ps)) h,
          each IsOther (names_in l.first) (front IsOther (names_in l.first) (names_in l.last) c),
          each IsOther (names_in l.last) (rest IsOther (names_in l.first) (names_in l.last) c),
          parts_free ps (rest IsOther (names_in l.first ++ names_in l.last ++ names_in (numeral l.step)) (names_in_block (block_of_parts line ps)) a),
        )
    part_free (Choice bs ps) h = (
      branches_free bs (front IsOther (names_in_arms (arms_of_branches line bs)) (names_in_block (block_of_parts line ps)) h),
      parts_free ps (rest IsOther (names_in_arms (arms_of_branches line bs)) (names_in_block (block_of_parts line ps)) h),
    )
    part_free (Label k) h = tt
    part_free (Jump k) h = tt

    pub parts_free : (ps : Parts) → Clear (names_in_block (block_of_parts line ps)) → AreFree ps
    parts_free no_parts h = tt
    parts_free (part p ps) h = (
      part_free p (front IsOther (names_in_statement (statement_of_part line p)) (names_in_block (block_of_parts line ps)) h),
      parts_free ps (rest IsOther (names_in_statement (statement_of_part line p)) (names_in_block (block_of_parts line ps)) h),
    )

    branches_free : (bs : Branches) → Clear (names_in_arms (arms_of_branches line bs)) → BranchesAreFree bs
    branches_free no_branches h = tt
    branches_free (branch test ps bs) h =
        let a = front IsOther (names_in test ++ names_in_block (block_of_parts line ps)) (names_in_arms (arms_of_branches line bs)) h in (
          each IsOther (names_in test) (front IsOther (names_in test) (names_in_block (block_of_parts line ps)) a),
          parts_free ps (rest IsOther (names_in test) (names_in_block (block_of_parts line ps)) a),
          branches_free bs (rest IsOther (names_in test ++ names_in_block (block_of_parts line ps)) (names_in_arms (arms_of_branches line bs)) h),
        )

  -- ---- the nest

  pub made_clear : (ms : List Made) (b : P.Block) → Clear (names_in_block (allocations_then line ms b)) → Clear (names_in_block b)
  made_clear [] b h = h
  made_clear (m ∷ ms) b h = made_clear ms b (by m.extents h)
    where
      by : (es : List P.Expression) → Clear (names_in_block (allocation_then line m.name es (allocations_then line ms b))) → Clear (names_in_block (allocations_then line ms b))
      by [] h = h
      by (e ∷ es) h = rest IsOther (names_in_statement (P.Allocate line m.name (P.expressions (e ∷ es)))) (names_in_block (allocations_then line ms b)) h

pub first_clear : (a b : P.Block) → Clear (names_in_block (block_then a b)) → Clear (names_in_block a)
first_clear P.no_statements b h = All-nil IsOther
first_clear (P.statement c cs) b h =
    both (names_in_statement c) (names_in_block cs) (front IsOther (names_in_statement c) (names_in_block (block_then cs b)) h)
    (first_clear cs b (rest IsOther (names_in_statement c) (names_in_block (block_then cs b)) h))
