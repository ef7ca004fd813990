-- What stands in the tables of a nest for its statements and for the loops round them.
use Rattle.std.proofs.Common.{◌≡◌, ◌⊎◌, inl, inr, refl, sym, ap, subst, ◌∙◌, ℕ, zero, suc, ◌<◌, ◌≤◌, ◌==◌, true, false}
use Rattle.std.proofs.Common.{cond, List, [], ◌∷◌, ◌++◌, length, get_or, Option, Some, None, arith}
use Rattle.std.specs.Prelude.{pos, slice_get}
use Rattle.std.proofs.lemmas.Bool.{cases_lt}
use Rattle.std.proofs.lemmas.List.{get_or_past}
use Rattle.components.specs.Lists as lists
use Rattle.emission.specs.emission_pieces.Nests.{loops_at, standing_at}
use Rattle.emission.specs.emission_pieces.Pieces.{kept_statement, turning_statement}
use Rattle.tree.specs.Plain.{Expression, Number, Reference, Assignment, Do, Block}
use Rattle.tree.specs.declared.stmts.Mark.{Mark}
use Rattle.emission.specs.graph_edges.Laws.{IsShallow}
use Rattle.emission.specs.graph_orders.Nests.{run_nest}
use Rattle.dependence_graph.specs.nest_graph.Ready.{IsReady}
use Rattle.nest_order.proofs.orders.Lists.{Each-In, In-append, In-left, In-right}
use Rattle.nest_order.proofs.orders.Membership.{map-In}
use Rattle.nest_order.specs.orders.Lists.{In, Each, Distinct}
use Rattle.nest_order.specs.runs.Blocks.{guarded_statement, loop_of, statement_of}
use Rattle.nest_order.specs.runs.Touched.{nth_of}
use Rattle.nest_order.specs.shapes.Shapes.{IsPlain, ArePlain, guarded_of, loop_numbered, numbers_of, trip_of_loop}
use Rattle.nest_order.specs.shapes.Shapes.{variable_of_loop}
use Rattle.nest.specs.Blocks.{under_guard}
use Rattle.nest.specs.Bodies.{Standing, loops_of, loops_in_parts, nest_loops, nest_statements, statements_in}
use Rattle.nest.specs.Bodies.{statements_in_parts}
use Rattle.nest.specs.Plain.{Loop, Nest, Part, Run, Turns, Choice, Label, Jump, Parts, no_parts, part}
use Rattle.array_form.specs.holds.Statements.{no_statement}
use Rattle.emission.specs.emission_forms.Forms.{marked_layout}

-- ---- lists

element : {X : Type 0} (xs : List X) (k : ℕ) (d : X) → k < length xs → In (get_or xs k d) xs
element [] k d g = absurd (omega arith)
element (x ∷ xs) zero d g = inl refl
element (x ∷ xs) (suc k) d g = inr (element xs k d (omega arith))

got_in : {X : Type 0} (xs : List X) (k : ℕ) (x : X) → slice_get xs k ≡ Some x → In x xs
got_in [] k x h = absurd cc
got_in (y ∷ xs) zero x h = inl (let e : x ≡ y = cc in e)
got_in (y ∷ xs) (suc k) x h = inr (got_in xs k x h)

nth_there : {X : Type 0} (xs : List X) (k : ℕ) (d : X) → k < length xs → nth_of xs k ≡ Some (get_or xs k d)
nth_there [] k d g = absurd (omega arith)
nth_there (x ∷ xs) zero d g = refl
nth_there (x ∷ xs) (suc k) d g = nth_there xs k d (omega arith)

-- ---- nests that are tested

distinct_too : {X : Type 0} (xs : List X) → lists.Distinct xs → Distinct xs
distinct_too {X} [] h = tt
distinct_too {X} (x ∷ xs) h = (each x xs h.0, distinct_too xs h.1)
  where
    each : (x : X) (ys : List X) → lists.Each (λ y. ¬ (x ≡ y)) ys → Each (λ y. ¬ (x ≡ y)) ys
    each x [] h = tt
    each x (y ∷ ys) h = (h.0, each x ys h.1)

pub loops_once : (n : Nest) → IsReady n → Distinct (numbers_of (nest_loops n))
loops_once n ready = distinct_too (numbers_of (nest_loops n)) ready.loops

pub ready_is_shallow : (n : Nest) → IsReady n → IsShallow n
ready_is_shallow n h s = by (cases_lt s (length (nest_statements n)))
  where
    by : (s < length (nest_statements n)) ⊎ (length (nest_statements n) ≤ s) → length (loops_at n s) ≤ 7
    by (inl g) = (h.statements s no_statement g).depth
    by (inr g) = subst (λ (x : Standing). length x.loops ≤ 7) (sym (get_or_past (nest_statements n) s no_statement g)) (omega arith)

-- ---- the loops round a statement

mutual
  loop_in_part : (p : Part) (ls : List Loop) (x : Standing) (l : Loop) → IsPlain p → In x (statements_in ls p) → In l x.loops
      → In l ls ⊎ In l (loops_of p)
  loop_in_part (Run s) ls x l plain (inl e) i = inl (subst (λ (y : Standing). In l y.loops) e i)
  loop_in_part (Run s) ls x l plain (inr h) i = absurd h
  loop_in_part (Turns m ps) ls x l plain h i = by (loop_in_parts ps (ls ++ m ∷ []) x l plain.1 h i)
    where
      within : In l ls ⊎ In l (m ∷ []) → In l ls ⊎ In l (m ∷ loops_in_parts ps)
      within (inl j) = inl j
      within (inr (inl e)) = inr (inl e)
      within (inr (inr j)) = absurd j

      by : In l (ls ++ m ∷ []) ⊎ In l (loops_in_parts ps) → In l ls ⊎ In l (m ∷ loops_in_parts ps)
      by (inl j) = within (In-append l ls (m ∷ []) j)
      by (inr j) = inr (inr j)
  loop_in_part (Choice bs ps) ls x l plain h i = absurd plain
  loop_in_part (Label m) ls x l plain h i = absurd plain
  loop_in_part (Jump m) ls x l plain h i = absurd plain

  loop_in_parts : (ps : Parts) (ls : List Loop) (x : Standing) (l : Loop) → ArePlain ps → In x (statements_in_parts ls ps) → In l x.loops
      → In l ls ⊎ In l (loops_in_parts ps)
  loop_in_parts no_parts ls x l plain h i = absurd h
  loop_in_parts (part p ps) ls x l plain h i =
      by (λ j. loop_in_part p ls x l plain.0 j i) (λ j. loop_in_parts ps ls x l plain.1 j i)
      (In-append x (statements_in ls p) (statements_in_parts ls ps) h)
    where
      first : In l ls ⊎ In l (loops_of p) → In l ls ⊎ In l (loops_of p ++ loops_in_parts ps)
      first (inl j) = inl j
      first (inr j) = inr (In-left l (loops_of p) (loops_in_parts ps) j)

      later : In l ls ⊎ In l (loops_in_parts ps) → In l ls ⊎ In l (loops_of p ++ loops_in_parts ps)
      later (inl j) = inl j
      later (inr j) = inr (In-right l (loops_of p) (loops_in_parts ps) j)

      by : (In x (statements_in ls p) → In l ls ⊎ In l (loops_of p))
          → (In x (statements_in_parts ls ps) → In l ls ⊎ In l (loops_in_parts ps))
          → In x (statements_in ls p) ⊎ In x (statements_in_parts ls ps) → In l ls ⊎ In l (loops_of p ++ loops_in_parts ps)
      by f g (inl j) = first (f j)
      by f g (inr j) = later (g j)

pub loop_of_nest : (n : Nest) (s k : ℕ) (l : Loop) → IsPlain n.body → slice_get (loops_at n s) k ≡ Some l → In l (nest_loops n)
loop_of_nest n s k l plain h = by (cases_lt s (length (nest_statements n)))
  where
    inside : In l [] ⊎ In l (nest_loops n) → In l (nest_loops n)
    inside (inl j) = absurd j
    inside (inr j) = j

    by : (s < length (nest_statements n)) ⊎ (length (nest_statements n) ≤ s) → In l (nest_loops n)
    by (inl g) = inside (loop_in_part n.body [] (standing_at n s) l plain (element (nest_statements n) s no_statement g)
        (got_in (loops_at n s) k l h))
    by (inr g) = absurd (subst (λ (x : Standing). In l x.loops) (get_or_past (nest_statements n) s no_statement g) (got_in (loops_at n s) k l h))

-- ---- tables

same_number : (n : ℕ) → (n == n) ≡ true
same_number n = grind arith

other_number : (n m : ℕ) → ¬ (n ≡ m) → (n == m) ≡ false
other_number n m h = grind arith

loop_there : (ls : List Loop) (l : Loop) → Distinct (numbers_of ls) → In l ls → loop_numbered ls l.number ≡ Some l
loop_there [] l d i = absurd i
loop_there (m ∷ ls) l d (inl e) =
    subst (λ (z : Loop). cond (m.number == z.number) (Some m) (loop_numbered ls z.number) ≡ Some z) (sym e)
    (ap (λ b. cond b (Some m) (loop_numbered ls m.number)) (same_number m.number))
loop_there (m ∷ ls) l d (inr i) =
    let apart = Each-In (λ y. ¬ (m.number ≡ y)) (numbers_of ls) d.0 l.number (map-In (λ (z : Loop). z.number) l ls i) in
    ap (λ b. cond b (Some m) (loop_numbered ls l.number)) (other_number m.number l.number apart) ∙ loop_there ls l d.1 i

same_statement : (line : ℕ) (mark : Option Mark) (guard : Option Expression) (left : Reference) (right : Expression)
    → guarded_statement line mark (record { guard = guard; left = left; right = right }) ≡ under_guard line guard (Assignment line mark left right)
same_statement line mark None left right = refl
same_statement line mark (Some e) left right = refl

pub kept_is : (n : Nest) (s : ℕ) → s < length (nest_statements n) → statement_of (run_nest n) (marked_layout n) s ≡ kept_statement n s
kept_is n s g =
    let x = standing_at n s in
    let y = marked_layout n in
    ap (λ o. guarded_statement (y.line_at s) (y.mark_at s) (guarded_of o)) (nth_there (nest_statements n) s no_statement g)
    ∙ same_statement (y.line_at s) (y.mark_at s) x.statement.guard x.statement.left x.statement.right

pub turning_is : (n : Nest) (l : Loop) (body : Block) → Distinct (numbers_of (nest_loops n)) → In l (nest_loops n)
    → loop_of (run_nest n) (marked_layout n) l.number body ≡ turning_statement n l body
turning_is n l body once i =
    ap (λ o. Do n.line (variable_of_loop o) (Number (pos 1)) (trip_of_loop o) (Number (pos 1)) body) (loop_there (nest_loops n) l once i)
