-- The statements round what is emitted, and the numbers of all statements.
use Rattle.std.proofs.Common.{◌≡◌, refl, sym, ap, subst, ◌∙◌, inl, inr, ℕ, zero, suc, ◌+◌, ◌<◌, ◌≤◌, List, [], ◌∷◌, ◌++◌, length, map, arith}
use Rattle.std.specs.List.{flat_map, range_with_len}
use Rattle.std.proofs.lemmas.List.{map-append, map-id}
use Rattle.std.proofs.lemmas.List.FromFn.{map-range_with_len_more}
use Rattle.tree.specs.Plain.{Allocate, Deallocate, Block, Expression, Statement, block, expressions, statement}
use Rattle.tree.specs.View.{expression_of, statement_of}
use Rattle.tree.specs.declared.exprs.Expr.{Expr}
use Rattle.tree.specs.declared.lists.Seq.{Seq}
use Rattle.tree.specs.declared.stmts.Stmt.{Stmt}
use Rattle.tree.specs.declared.stmts.Stmt.TheVariants as stmts
use Rattle.tree.proofs.Equations.{statement_of-allocate, statement_of-deallocate}
use Rattle.components.specs.Lists.{IsMember, Distinct}
use Rattle.components.proofs.ListLaws.{Each-from}
use Rattle.nest.specs.Allocations.{allocation_then, allocations_then, block_then, deallocation_then, deallocations}
use Rattle.nest.specs.Bodies.{nest_statements}
use Rattle.nest.specs.Plain.{Made, Nest}
use Rattle.nest.specs.View.{made_of}
use Rattle.nest.specs.declared.nests.Made.{Made as Made'}
use Rattle.emission.specs.nest_emission.Given.{AreInside}
use Rattle.emission.specs.nest_emission.Translations.{allocation, allocation_with, deallocation, deallocation_with, translation_of}
use Rattle.emission.proofs.nest_emission.BlockLaws.{block-append, then_assoc}
use Rattle.emission.proofs.nest_emission.Lists.{all_in}

-- ---- one made array

some_allocation : (line : ℕ) (x : List ℕ) (es : List Expr) → (es ≡ [] → ⊥) → Allocate line x (expressions (map expression_of es)) ∷ [] ≡ allocation_with line x (map expression_of es)
some_allocation line x [] some = absurd (some refl)
some_allocation line x (e ∷ es) some = refl

some_deallocation : (line : ℕ) (x : List ℕ) (es : List Expr) → (es ≡ [] → ⊥) → Deallocate line x ∷ [] ≡ deallocation_with line x (map expression_of es)
some_deallocation line x [] some = absurd (some refl)
some_deallocation line x (e ∷ es) some = refl

pushed : (old new : List Stmt) (c : Stmt) (cs : List Statement) → new ≡ old ++ c ∷ [] → statement_of c ∷ [] ≡ cs → map statement_of new ≡ map statement_of old ++ cs
pushed old new c cs n e = ap (map statement_of) n ∙ (map-append statement_of old (c ∷ []) ∙ ap (λ ds. map statement_of old ++ ds) e)

pub one_allocation : (line : ℕ) (m : Made') (es : Seq Expr) (old new : List Stmt) → (m.extents ≡ [] → ⊥) → map expression_of es ≡ map expression_of m.extents
    → new ≡ old ++ stmts.Allocate line m.name es ∷ [] → map statement_of new ≡ map statement_of old ++ allocation line (made_of m)
one_allocation line m es old new some same n =
    pushed old new (stmts.Allocate line m.name es) (allocation line (made_of m)) n
    (ap (λ (c : Statement). c ∷ []) (statement_of-allocate line m.name es ∙ ap (λ (fs : List Expression). Allocate line m.name (expressions fs)) same)
    ∙ some_allocation line m.name m.extents some)

pub one_deallocation : (line : ℕ) (m : Made') (old new : List Stmt) → (m.extents ≡ [] → ⊥)
    → new ≡ old ++ stmts.Deallocate line m.name ∷ [] → map statement_of new ≡ map statement_of old ++ deallocation line (made_of m)
one_deallocation line m old new some n =
    pushed old new (stmts.Deallocate line m.name) (deallocation line (made_of m)) n
    (ap (λ (c : Statement). c ∷ []) (statement_of-deallocate line m.name) ∙ some_deallocation line m.name m.extents some)

-- ---- all of them

allocated : (line : ℕ) (ms : List Made) (b : Block) → block_then (block (flat_map (allocation line) ms)) b ≡ allocations_then line ms b
allocated line [] b = refl
allocated line (m ∷ ms) b = by m.extents (allocated line ms b)
  where
    by : (es : List Expression) → block_then (block (flat_map (allocation line) ms)) b ≡ allocations_then line ms b
        → block_then (block (allocation_with line m.name es ++ flat_map (allocation line) ms)) b ≡ allocation_then line m.name es (allocations_then line ms b)
    by [] h = h
    by (e ∷ es) h = ap (statement (Allocate line m.name (expressions (e ∷ es)))) h

deallocated : (line : ℕ) (ms : List Made) → block (flat_map (deallocation line) ms) ≡ deallocations line ms
deallocated line [] = refl
deallocated line (m ∷ ms) = by m.extents (deallocated line ms)
  where
    by : (es : List Expression) → block (flat_map (deallocation line) ms) ≡ deallocations line ms
        → block (deallocation_with line m.name es ++ flat_map (deallocation line) ms) ≡ deallocation_then line m.name es (deallocations line ms)
    by [] h = h
    by (e ∷ es) h = ap (statement (Deallocate line m.name)) h

pub translated : (n : Nest) (body : Block) (allocs with_body with_after all : List Statement)
    → allocs ≡ flat_map (allocation n.line) n.made → block with_body ≡ block_then (block allocs) body → block with_after ≡ block_then (block with_body) n.after
    → all ≡ with_after ++ flat_map (deallocation n.line) n.made → block all ≡ translation_of n body
translated n body allocs with_body with_after all a b c d =
    let last = deallocations n.line n.made in
    ap block d ∙ (block-append with_after (flat_map (deallocation n.line) n.made)
    ∙ (ap (block_then (block with_after)) (deallocated n.line n.made)
    ∙ (ap (λ z. block_then z last) (c ∙ ap (λ z. block_then z n.after) (b ∙ ap (λ cs. block_then (block cs) body) a))
    ∙ (then_assoc (block_then (block (flat_map (allocation n.line) n.made)) body) n.after last
    ∙ (then_assoc (block (flat_map (allocation n.line) n.made)) body (block_then n.after last)
    ∙ allocated n.line n.made (block_then body (block_then n.after last)))))))

-- ---- all statements

pub range_more : (n : ℕ) → range_with_len 0 (n + 1) ≡ range_with_len 0 n ++ n ∷ []
range_more n =
    sym (map-id (range_with_len 0 (n + 1)))
    ∙ (map-range_with_len_more (λ (x : ℕ). x) 0 n n (omega arith) ∙ ap (λ xs. xs ++ n ∷ []) (map-id (range_with_len 0 n)))

range_within : (a m x : ℕ) → IsMember x (range_with_len a m) → (a ≤ x) × (x < a + m)
range_within a zero x i = absurd i
range_within a (suc m) x (inl e) = (omega arith, omega arith)
range_within a (suc m) x (inr i) =
    let h = range_within (a + 1) m x i in
    let above : a + 1 ≤ x = h.0 in
    let below : x < (a + 1) + m = h.1 in
    (omega arith, omega arith)

range_once : (a m : ℕ) → Distinct (range_with_len a m)
range_once a zero = tt
range_once a (suc m) =
    (Each-from (λ y. ¬ (a ≡ y)) (range_with_len (a + 1) m) (λ y i e. (let h : a + 1 ≤ y = (range_within (a + 1) m y i).0 in absurd (omega arith))), range_once (a + 1) m)

pub all_once : (part : List ℕ) (m : ℕ) → part ≡ range_with_len 0 m → Distinct part
all_once part m e = subst Distinct (sym e) (range_once 0 m)

pub all_inside : (n : Nest) (part : List ℕ) (m : ℕ) → part ≡ range_with_len 0 m → m ≡ length (nest_statements n) → AreInside n part
all_inside n part m e many =
    subst (AreInside n) (sym e)
    (all_in (λ s. s < length (nest_statements n)) (range_with_len 0 m) (λ s i. (let h : s < 0 + m = (range_within 0 m s i).1 in omega arith)))
