-- Statements without READ and PRINT read and write no lines.
use Rattle.std.proofs.Common.{◌≡◌, refl, ◌∙◌, ℕ, zero, suc, ◌+◌, ℤ, Bool, true, false, List, [], ◌∷◌, ◌++◌, Result, Ok, Err, Option, Some, None}
use Rattle.tree.specs.Plain.{Expression, Logic, Reference, Statement, Assignment, Where, If, Do, Label, GoTo, Stop, Read, Print, Allocate, Deallocate, Arms, no_arms, arm, Block, no_statements, statement}
use Rattle.tree.specs.declared.ops.Value.{Value}
use Rattle.tree.specs.declared.ops.Value.TheVariants.{Int}
use Rattle.tree.specs.declared.ops.Fault.{Fault}
use Rattle.tree.specs.declared.ops.Fault.TheVariants.{Overflow}
use Rattle.tree.specs.declared.stmts.Mark.{Mark}
use Rattle.nest_order.specs.orders.Shapes.{Shape, Single, Loop, Shapes, no_shapes, shape}
use Rattle.meaning.specs.Dialect.{Dialect}
use Rattle.meaning.specs.Store.{Store, Cell, put, cell_at, allocated, with_bounds, stored_bounds}
use Rattle.meaning.specs.Value.{value_of, truth_of, number_of, cell_named, is_array, named, is_in_range, increment_of}
use Rattle.meaning.specs.ArrayStatements.{writes_of, allocated_bounds}
use Rattle.meaning.specs.Run.{State, Way, Going, Jumping, Stopped, Failed, Cut, Act, does, does_all, chooses, on_way, answered, goes, either, then, nothing, repeated, for_each, while_going, evaluates, counts_step, stores, stores_element, checks_range, assigns, array_assigns, sets_variable, increases, turn, loops, is_allowed, arrives, allocates, deallocates}
use Rattle.nest_order.specs.runs.Blocks.{Layout, guarded_statement, loop_of, or_statement, written, written_in}
use Rattle.nest_order.specs.runs.Guarded.{GuardedAssignment}
use Rattle.nest_order.specs.runs.Nests.{RunNest}
use Rattle.nest_order.specs.runs.Quiet.{AreQuiet, AreQuietArms, IsQuiet, NestsAreQuiet, QuietStatementsKeepLines, SameLines}

abbrev Quiet : Act → Type 0
Quiet k = (s : State) → SameLines s (k s)

same_lines : (s : State) → SameLines s s
same_lines s = record { written = refl; input = refl; had_value = refl }

goes_quiet : (w : Way) → Quiet (goes w)
goes_quiet w s = record { written = refl; input = refl; had_value = refl }

on : (w : Way) (k : Act) (s : State) → SameLines s (k s) → SameLines s (on_way w k s)
on Going k s h = h
on (Jumping n) k s h = same_lines s
on Stopped k s h = same_lines s
on (Failed f n) k s h = same_lines s
on Cut k s h = same_lines s

going_quiet : (k : Act) → Quiet k → Quiet (while_going k)
unfolding while_going
going_quiet k h s = on s.way k s (h s)

answered_quiet : {A : Type 0} (line : ℕ) (r : Result A Fault) (k : A → Act) → ((x : A) → Quiet (k x)) → Quiet (answered line r k)
answered_quiet line (Ok x) k h s = h x s
answered_quiet line (Err f) k h s = goes_quiet (Failed f line) s

evaluates_quiet : {A : Type 0} (line : ℕ) (f : Store → Result A Fault) (k : A → Act) → ((x : A) → Quiet (k x)) → Quiet (evaluates line f k)
unfolding evaluates
evaluates_quiet line f k h = going_quiet (λ s. answered line (f s.store) k s) (λ s. answered_quiet line (f s.store) k h s)

both : (s t u : State) → SameLines s t → SameLines t u → SameLines s u
both s t u h g = record { written = g.written ∙ h.written; input = g.input ∙ h.input; had_value = g.had_value ∙ h.had_value }

stores_quiet : (c : Cell) (v : Value) → Quiet (stores c v)
unfolding stores
stores_quiet c v = going_quiet (λ s. record s { store = put c v s.store }) (λ s. record { written = refl; input = refl; had_value = refl })

allocates_quiet : (x : List ℕ) (bs : List (ℤ × ℤ)) → Quiet (allocates x bs)
unfolding allocates
allocates_quiet x bs = going_quiet (λ s. record s { store = allocated x bs s.store }) (λ s. record { written = refl; input = refl; had_value = refl })

deallocates_quiet : (x : List ℕ) → Quiet (deallocates x)
unfolding deallocates
deallocates_quiet x = going_quiet (λ s. record s { store = with_bounds x None s.store }) (λ s. record { written = refl; input = refl; had_value = refl })

either_quiet : (b : Bool) (f g : Act) → Quiet f → Quiet g → Quiet (either b f g)
either_quiet true f g h k = h
either_quiet false f g h k = k

then_quiet : (f g : Act) → Quiet f → Quiet g → Quiet (then f g)
then_quiet f g h k s = both s (f s) (g (f s)) (h s) (k (f s))

repeated_quiet : (n : ℕ) (f : Act) → Quiet f → Quiet (repeated n f)
repeated_quiet zero f h s = same_lines s
repeated_quiet (suc n) f h s = both s (f s) (repeated n f (f s)) (h s) (repeated_quiet n f h (f s))

for_each_quiet : {A : Type 0} (xs : List A) (f : A → Act) → ((x : A) → Quiet (f x)) → Quiet (for_each xs f)
for_each_quiet [] f h s = same_lines s
for_each_quiet (x ∷ xs) f h s = both s (f x s) (for_each xs f (f x s)) (h x s) (for_each_quiet xs f h (f x s))

module _ (lang : Dialect) (limit : Option ℕ) where
  stepped : (k : Act) → Quiet k → (s : State) → SameLines s (k (record s { steps = s.steps + 1 }))
  stepped k h s = let g = h (record s { steps = s.steps + 1 }) in record { written = g.written; input = g.input; had_value = g.had_value }

  counted_quiet : (k : Act) → Quiet k → Quiet (counts_step lang limit k)
  unfolding counts_step
  counted_quiet k h = going_quiet (λ s. either (is_allowed limit s.steps) (λ t. k (record t { steps = t.steps + 1 })) (goes Cut) s)
      (λ s. either_quiet (is_allowed limit s.steps) (λ t. k (record t { steps = t.steps + 1 })) (goes Cut) (stepped k h) (goes_quiet Cut) s)

  ranged_quiet : (line : ℕ) (v : Value) (k : Act) → Quiet k → Quiet (checks_range lang limit line v k)
  unfolding checks_range
  ranged_quiet line v k h = going_quiet (either (is_in_range lang.bits v) k (goes (Failed Overflow line))) (either_quiet (is_in_range lang.bits v) k (goes (Failed Overflow line)) h (goes_quiet (Failed Overflow line)))

  assigns_quiet : (line : ℕ) (r : Reference) (e : Expression) → Quiet (assigns lang limit line r e)
  assigns_quiet line r e = evaluates_quiet line (value_of lang e) _ (λ v. evaluates_quiet line (cell_named lang r) _ (λ c. ranged_quiet line v _ (counted_quiet _ (stores_quiet c v))))

  array_quiet : (line : ℕ) (m : Expression) (r : Reference) (e : Expression) → Quiet (array_assigns lang limit line m r e)
  array_quiet line m r e = evaluates_quiet line (writes_of lang m r e) _ (λ ws. for_each_quiet ws (stores_element lang limit) (λ w. counted_quiet _ (stores_quiet w.0 w.1)))

  sets_quiet : (line : ℕ) (x : List ℕ) (z : ℤ) → Quiet (sets_variable lang limit line x z)
  sets_quiet line x z = evaluates_quiet line (cell_at x []) _ (λ c. ranged_quiet line (Int z) _ (stores_quiet c (Int z)))

  increases_quiet : (line : ℕ) (x : List ℕ) (z : ℤ) → Quiet (increases lang limit line x z)
  increases_quiet line x z = evaluates_quiet line (cell_at x []) _ (λ c. evaluates_quiet line _ _ (λ w. sets_quiet line x w))

  loops_quiet : (line : ℕ) (x : List ℕ) (e1 e2 e3 : Expression) (body : Act) → Quiet body → Quiet (loops lang limit line x e1 e2 e3 body)
  loops_quiet line x e1 e2 e3 body h = evaluates_quiet line (number_of lang e1) _ (λ m1. evaluates_quiet line (number_of lang e2) _ (λ m2. evaluates_quiet line (increment_of lang e3) _ (λ m3.
      then_quiet (sets_variable lang limit line x m1) _ (sets_quiet line x m1) (evaluates_quiet line _ _ (λ n. repeated_quiet n (turn lang limit line x m3 body) (counted_quiet _ (then_quiet body (increases lang limit line x m3) h (increases_quiet line x m3))))))))

  mutual
    statement_quiet : (c : Statement) → IsQuiet c → Quiet (does lang limit c)
    statement_quiet (Assignment line m r e) h = counted_quiet (λ s. either (is_array lang (named r) s.store) (array_assigns lang limit line (Logic true) r e) (assigns lang limit line r e) s)
        (λ s. either_quiet (is_array lang (named r) s.store) (array_assigns lang limit line (Logic true) r e) (assigns lang limit line r e) (array_quiet line (Logic true) r e) (assigns_quiet line r e) s)
    statement_quiet (Where line m e r x) h = either_quiet lang.arrays _ nothing (counted_quiet _ (array_quiet line e r x)) same_lines
    statement_quiet (If line arms other) h = arms_quiet arms line (does_all lang limit other) h.0 (block_quiet other h.1)
    statement_quiet (Do line x e1 e2 e3 body) h = loops_quiet line x e1 e2 e3 (does_all lang limit body) (block_quiet body h)
    statement_quiet (Label n) h = λ s. either_quiet (arrives n s.way) (goes Going) nothing (goes_quiet Going) same_lines s
    statement_quiet (GoTo line n) h = counted_quiet _ (goes_quiet (Jumping n))
    statement_quiet (Stop line) h = counted_quiet _ (goes_quiet Stopped)
    statement_quiet (Read line is) h = absurd h
    statement_quiet (Print line is) h = absurd h
    statement_quiet (Allocate line x es) h = either_quiet lang.arrays _ nothing (counted_quiet _ (evaluates_quiet line (allocated_bounds lang x es) _ (λ bs. allocates_quiet x bs))) same_lines
    statement_quiet (Deallocate line x) h = either_quiet lang.arrays _ nothing (counted_quiet _ (evaluates_quiet line (stored_bounds x) _ (λ b. deallocates_quiet x))) same_lines

    arms_quiet : (arms : Arms) (line : ℕ) (other : Act) → AreQuietArms arms → Quiet other → Quiet (chooses lang limit line arms other)
    arms_quiet no_arms line other h k = k
    arms_quiet (arm test body arms) line other h k = counted_quiet _ (evaluates_quiet line (truth_of lang test) _ (λ b. either_quiet b (does_all lang limit body) (chooses lang limit line arms other) (block_quiet body h.0) (arms_quiet arms line other h.1 k)))

    block_quiet : (cs : Block) → AreQuiet cs → Quiet (does_all lang limit cs)
    block_quiet no_statements h = same_lines
    block_quiet (statement c cs) h = then_quiet (does lang limit c) (does_all lang limit cs) (statement_quiet c h.0) (block_quiet cs h.1)

pub quiet_statements_keep_lines : QuietStatementsKeepLines
quiet_statements_keep_lines lang limit cs s h = block_quiet lang limit cs h s

-- ---- nests

guarded_quiet : (line : ℕ) (m : Option Mark) (g : GuardedAssignment) → IsQuiet (guarded_statement line m g)
guarded_quiet line m g = by g.guard
  where
    by : (o : Option Expression) → IsQuiet (guarded_statement line m (record { guard = o; left = g.left; right = g.right }))
    by None = tt
    by (Some e) = (((tt, tt), tt), tt)

module _ (n : RunNest) (y : Layout) (form : List ℕ → Shape → Option Statement) (forms : (outer : List ℕ) (t : Shape) (c : Statement) → form outer t ≡ Some c → IsQuiet c) where
  either_form : (round : List ℕ) (t : Shape) (c : Statement) (o : Option Statement) → form round t ≡ o → IsQuiet c → IsQuiet (or_statement o c)
  either_form round t c None e h = h
  either_form round t c (Some b) e h = forms round t b e

  mutual
    written_quiet : (t : Shape) (round : List ℕ) → IsQuiet (written n y form round t)
    written_quiet (Single s) round = guarded_quiet (y.line_at s) (y.mark_at s) (n.statement_at s)
    written_quiet (Loop l ts) round = either_form round (Loop l ts) (loop_of n y l (written_in n y form (round ++ l ∷ []) ts)) (form round (Loop l ts)) refl (all_written_quiet ts (round ++ l ∷ []))

    all_written_quiet : (ts : Shapes) (round : List ℕ) → AreQuiet (written_in n y form round ts)
    all_written_quiet no_shapes round = tt
    all_written_quiet (shape t ts) round = (written_quiet t round, all_written_quiet ts round)

pub nests_are_quiet : NestsAreQuiet
nests_are_quiet n y form round ts forms = all_written_quiet n y form forms ts round
