-- Statements of blocks and arms of block IFs, and the jumps that pass over them.
use Rattle.std.proofs.Common.{◌≡◌, refl, sym, ap, ◌∙◌, subst, ℕ, ◌+◌, ◌<◌, ◌≤◌, Bool, true, false, cond, List, ◌++◌, length, drop, get_or, map, Result, Ok, Err, Option, Some, None, append_assoc, arith}
use Rattle.std.specs.Prelude.{◌==◌, IsTrue}
use Rattle.std.proofs.lemmas.List.{at_drop_more, at_drop_all}
use Rattle.std.specs.Io.KnownBytes.{append_known}
use Rattle.tree.specs.Plain.{Declaration, Statement, Assignment, Where, If, Do, Label, GoTo, Stop, Read, Print, Allocate, Deallocate, Arms, no_arms, arm, Block, no_statements, statement, block}
use Rattle.tree.specs.View.{expression_of, statement_of, tested_of, block_of}
use Rattle.tree.specs.declared.stmts.Stmt.{Stmt}
use Rattle.tree.specs.declared.stmts.Arm.{Arm, out-Arm}
use Rattle.tree.specs.declared.stmts.Block as view
use Rattle.tree.proofs.Equations.{tested_of-is, block_of-is}
use Rattle.meaning.specs.Dialect.{Dialect}
use Rattle.meaning.specs.Value.{truth_of, number_of}
use Rattle.meaning.specs.Cuts.{IsAtMost}
use Rattle.meaning.specs.Labels.{has_arm}
use Rattle.meaning.specs.Run.{State, Way, Going, Jumping, nothing, then, either, goes, arrives, evaluates, counts_step, does, does_all, chooses}
use Rattle.meaning.proofs.Limit.{Follows-does_all}
use Rattle.machine.specs.Moments.{Seen}
use Rattle.machine.specs.declared.progress.Halt.{Halt}
use Rattle.machine.specs.declared.progress.Halt.TheVariants.{Jump, Stop as Stop', Fault as Fault', Limit}
use Rattle.machine.specs.declared.progress.Left.{Left}
use Rattle.machine.specs.declared.progress.Left.TheVariants.{Halted, Unwritten}
use Rattle.machine.specs.Moments.{Stands, CountsStep, way_of, located}
use Rattle.machine.specs.Acts.{LimitedAct, Ended, Outcome, Runs}
use Rattle.machine.specs.Statements.{HasArms, ArmsHaveArms, BlockHasArms, plain_arms}
use Rattle.machine.specs.Jumps.{way_at, arrived, passed, landed}
use Rattle.std.proofs.Common.{[], ◌∷◌}
use Rattle.tree.specs.Plain.{Logic}
use Rattle.meaning.specs.Store.{stored_bounds}
use Rattle.meaning.specs.Value.{is_array, named}
use Rattle.meaning.specs.ArrayStatements.{allocated_bounds}
use Rattle.meaning.specs.Run.{Stopped, array_assigns, assigns, begins_line, reads_items, skips_line, writes, first_blank, prints_items, allocates, deallocates}
use Rattle.machine.specs.Acts.{Same, Elsewhere}
use Rattle.machine.proofs.ActLaws.{Idle, Idles, steady, elsewhere_same, elsewhere_then, elsewhere_stays, cut_then}
use Rattle.machine.proofs.IdleLaws.{idle_goes, Idles-nothing, Idles-then, Idles-either, Idles-counts_step, Idles-loops}
use Rattle.machine.proofs.ActLaws.{Stays, Extends, Stays-evaluates, Runs-counts_step, Runs-cut, Runs-evaluates, Runs-fault}
use Rattle.machine.proofs.TurnLaws.{Stays-counts_step}

-- ---- where a run has ended

abbrev IsEnd : Halt → Type 0
IsEnd (Jump n) = ⊥
IsEnd Stop' = Unit {0}
IsEnd (Fault' f line) = Unit {0}
IsEnd Limit = Unit {0}

-- an act that does nothing once a run has ended
abbrev pub StaysEnded : LimitedAct → Type 0
StaysEnded act = (limit : Option ℕ) (s : State) (h : Halt) → IsEnd h → s.way ≡ way_of h → act limit s ≡ s

label_ended : (lang : Dialect) (n : ℕ) → StaysEnded (λ limit. does lang limit (Label n))
label_ended lang n limit s (Jump m) d e = absurd d
label_ended lang n limit s Stop' d e = ap (λ w. either (arrives n w) (goes Going) nothing s) e
label_ended lang n limit s (Fault' f line) d e = ap (λ w. either (arrives n w) (goes Going) nothing s) e
label_ended lang n limit s Limit d e = ap (λ w. either (arrives n w) (goes Going) nothing s) e

-- no label, and if it is a block IF, one with an arm
abbrev IsPassed : Statement → Type 0
IsPassed (Assignment line mark left right) = Unit {0}
IsPassed (Where line mark mask left right) = Unit {0}
IsPassed (If line as' other) = IsTrue (has_arm as')
IsPassed (Do line x a b c body) = Unit {0}
IsPassed (Label n) = ⊥
IsPassed (GoTo line n) = Unit {0}
IsPassed (Stop line) = Unit {0}
IsPassed (Read line is) = Unit {0}
IsPassed (Print line is) = Unit {0}
IsPassed (Allocate line x es) = Unit {0}
IsPassed (Deallocate line x) = Unit {0}

Stays-either : (b : Bool) (f g : LimitedAct) → Stays f → Stays g → Stays (λ limit. either b (f limit) (g limit))
Stays-either true f g h k = h
Stays-either false f g h k = k

arm_stays : (lang : Dialect) (line : ℕ) (as' : Arms) (other : LimitedAct) → IsTrue (has_arm as') → Stays (λ limit. chooses lang limit line as' (other limit))
arm_stays lang line no_arms other h = cc
arm_stays lang line (arm test body more) other h = Stays-counts_step lang _

Stays-does : (lang : Dialect) (c : Statement) → IsPassed c → Stays (λ limit. does lang limit c)
Stays-does lang (Assignment line mark left right) h = Stays-counts_step lang _
Stays-does lang (Where line mark mask left right) h = Stays-either lang.arrays _ (λ limit. nothing) (Stays-counts_step lang _) (λ limit s h e. refl)
Stays-does lang (If line as' other) h = arm_stays lang line as' (λ limit. does_all lang limit other) h
Stays-does lang (Do line x a b c body) h = Stays-evaluates line (number_of lang a) _
Stays-does lang (Label n) h = absurd h
Stays-does lang (GoTo line n) h = Stays-counts_step lang _
Stays-does lang (Stop line) h = Stays-counts_step lang _
Stays-does lang (Read line is) h = Stays-counts_step lang _
Stays-does lang (Print line is) h = Stays-counts_step lang _
Stays-does lang (Allocate line x es) h = Stays-either lang.arrays _ (λ limit. nothing) (Stays-counts_step lang _) (λ limit s h e. refl)
Stays-does lang (Deallocate line x) h = Stays-either lang.arrays _ (λ limit. nothing) (Stays-counts_step lang _) (λ limit s h e. refl)

ended_too : (act : LimitedAct) → Stays act → StaysEnded act
ended_too act a limit s h d e = a limit s h e

StaysEnded-chooses : (lang : Dialect) (line : ℕ) (as' : Arms) (other : LimitedAct) → StaysEnded other → StaysEnded (λ limit. chooses lang limit line as' (other limit))
StaysEnded-chooses lang line no_arms other h = h
StaysEnded-chooses lang line (arm test body more) other h = ended_too (λ limit. chooses lang limit line (arm test body more) (other limit)) (Stays-counts_step lang _)

mutual
  StaysEnded-does : (lang : Dialect) (c : Statement) → StaysEnded (λ limit. does lang limit c)
  StaysEnded-does lang (Assignment line mark left right) = ended_too (λ limit. does lang limit (Assignment line mark left right)) (Stays-does lang (Assignment line mark left right) tt)
  StaysEnded-does lang (Where line mark mask left right) = ended_too (λ limit. does lang limit (Where line mark mask left right)) (Stays-does lang (Where line mark mask left right) tt)
  StaysEnded-does lang (If line as' other) = StaysEnded-chooses lang line as' (λ limit. does_all lang limit other) (StaysEnded-does_all lang other)
  StaysEnded-does lang (Do line x a b c body) = ended_too (λ limit. does lang limit (Do line x a b c body)) (Stays-does lang (Do line x a b c body) tt)
  StaysEnded-does lang (Label n) = label_ended lang n
  StaysEnded-does lang (GoTo line n) = ended_too (λ limit. does lang limit (GoTo line n)) (Stays-does lang (GoTo line n) tt)
  StaysEnded-does lang (Stop line) = ended_too (λ limit. does lang limit (Stop line)) (Stays-does lang (Stop line) tt)
  StaysEnded-does lang (Read line is) = ended_too (λ limit. does lang limit (Read line is)) (Stays-does lang (Read line is) tt)
  StaysEnded-does lang (Print line is) = ended_too (λ limit. does lang limit (Print line is)) (Stays-does lang (Print line is) tt)
  StaysEnded-does lang (Allocate line x es) = ended_too (λ limit. does lang limit (Allocate line x es)) (Stays-does lang (Allocate line x es) tt)
  StaysEnded-does lang (Deallocate line x) = ended_too (λ limit. does lang limit (Deallocate line x)) (Stays-does lang (Deallocate line x) tt)

  StaysEnded-does_all : (lang : Dialect) (b : Block) → StaysEnded (λ limit. does_all lang limit b)
  StaysEnded-does_all lang no_statements limit s h d e = refl
  StaysEnded-does_all lang (statement c cs) limit s h d e = ap (does_all lang limit cs) (StaysEnded-does lang c limit s h d e) ∙ StaysEnded-does_all lang cs limit s h d e

-- ---- with no step left

Idles-chooses : (lang : Dialect) (line : ℕ) (as' : Arms) (other : LimitedAct) → Idles other → Idles (λ limit. chooses lang limit line as' (other limit))
Idles-chooses lang line no_arms other h = h
Idles-chooses lang line (arm test body more) other h = Idles-counts_step lang
    (λ limit. evaluates line (truth_of lang test) (λ b. either b (does_all lang limit body) (chooses lang limit line more (other limit))))

label_idle : (lang : Dialect) (n : ℕ) → Idles (λ limit. does lang limit (Label n))
label_idle lang n s = by (arrives n s.way)
  where
    by : (b : Bool) → Idle s (either b (goes Going) nothing s)
    by true = idle_goes Going s
    by false = Idles-nothing s

mutual
  Idles-does : (lang : Dialect) (c : Statement) → Idles (λ limit. does lang limit c)
  Idles-does lang (Assignment line mark left right) = Idles-counts_step lang
      (λ limit s. either (is_array lang (named left) s.store) (array_assigns lang limit line (Logic true) left right) (assigns lang limit line left right) s)
  Idles-does lang (Where line mark mask left right) = Idles-either lang.arrays (λ limit. counts_step lang limit (array_assigns lang limit line mask left right)) (λ limit. nothing)
      (Idles-counts_step lang (λ limit. array_assigns lang limit line mask left right)) Idles-nothing
  Idles-does lang (If line as' other) = Idles-chooses lang line as' (λ limit. does_all lang limit other) (Idles-does_all lang other)
  Idles-does lang (Do line x a b c body) = Idles-loops lang line x a b c (λ limit. does_all lang limit body)
  Idles-does lang (Label n) = label_idle lang n
  Idles-does lang (GoTo line n) = Idles-counts_step lang (λ limit. goes (Jumping n))
  Idles-does lang (Stop line) = Idles-counts_step lang (λ limit. goes Stopped)
  Idles-does lang (Read line is) = Idles-counts_step lang (λ limit. then (begins_line line) (then (reads_items lang limit is line) skips_line))
  Idles-does lang (Print line is) = Idles-counts_step lang (λ limit. then (writes (first_blank is)) (then (prints_items lang limit is line) (writes (10 ∷ []))))
  Idles-does lang (Allocate line x es) = Idles-either lang.arrays (λ limit. counts_step lang limit (evaluates line (allocated_bounds lang x es) (λ bs. allocates x bs))) (λ limit. nothing)
      (Idles-counts_step lang (λ limit. evaluates line (allocated_bounds lang x es) (λ bs. allocates x bs))) Idles-nothing
  Idles-does lang (Deallocate line x) = Idles-either lang.arrays (λ limit. counts_step lang limit (evaluates line (stored_bounds x) (λ bs. deallocates x))) (λ limit. nothing)
      (Idles-counts_step lang (λ limit. evaluates line (stored_bounds x) (λ bs. deallocates x))) Idles-nothing

  Idles-does_all : (lang : Dialect) (b : Block) → Idles (λ limit. does_all lang limit b)
  Idles-does_all lang no_statements = Idles-nothing
  Idles-does_all lang (statement c cs) = Idles-then (λ limit. does lang limit c) (λ limit. does_all lang limit cs) (Idles-does lang c) (Idles-does_all lang cs)

-- ---- nothing that was written is taken back

pub none_least : (limit : Option ℕ) → IsAtMost 0 limit
none_least None = tt
none_least (Some n) = omega arith

pub Extends-does_all : (lang : Dialect) (b : Block) → Extends (λ limit. does_all lang limit b)
Extends-does_all lang b = record { adds = λ limit s. ((Follows-does_all 0 limit (none_least limit) lang b).rises s).written; idles = Idles-does_all lang b }

-- ---- a jump passes over a statement that isn't its label

-- the moment stands for this one, on this way
abbrev IsAt : List Declaration → Option ℕ → List ℕ → Option (List ℕ) → Seen → Option (List ℕ) → Way → State → Type 0
IsAt names limit input base m now way s = Stands names limit input m way s × (now ≡ append_known base s.written)

module _ (names : List Declaration) (limit : Option ℕ) (input : List ℕ) (base : Option (List ℕ)) (m : Seen) (now : Option (List ℕ)) where
  stays_put : (lang : Dialect) (c : Statement) (n : ℕ) (s : State) → IsPassed c → IsAt names limit input base m now (Jumping n) s → IsAt names limit input base m now (Jumping n) (does lang limit c s)
  stays_put lang c n s a h = subst (IsAt names limit input base m now (Jumping n)) (sym (Stays-does lang c a limit s (Jump n) h.0.way_is)) h

  at_label : (lang : Dialect) (l n : ℕ) (s : State) → IsAt names limit input base m now (Jumping n) s → IsAt names limit input base m now (way_at (arrived l n)) (does lang limit (Label l) s)
  at_label lang l n s h = subst (λ w. IsAt names limit input base m now (way_at (arrived l n)) (either (arrives l w) (goes Going) nothing s)) (sym h.0.way_is) (by (n == l))
    where
      by : (b : Bool) → IsAt names limit input base m now (way_at (cond b None (Some n))) (either b (goes Going) nothing s)
      by true = (record { names_are = h.0.names_are; store = h.0.store; input_left = h.0.input_left; had_value = h.0.had_value; steps = h.0.steps; way_is = refl }, h.1)
      by false = h

  passes : (lang : Dialect) (c : Statement) (n : ℕ) (s : State) → HasArms c → IsAt names limit input base m now (Jumping n) s → IsAt names limit input base m now (way_at (passed c n)) (does lang limit c s)
  passes lang (Assignment line mark left right) n s a h = stays_put lang (Assignment line mark left right) n s tt h
  passes lang (Where line mark mask left right) n s a h = stays_put lang (Where line mark mask left right) n s tt h
  passes lang (If line as' other) n s a h = stays_put lang (If line as' other) n s a.0 h
  passes lang (Do line x p q r body) n s a h = stays_put lang (Do line x p q r body) n s tt h
  passes lang (Label l) n s a h = at_label lang l n s h
  passes lang (GoTo line l) n s a h = stays_put lang (GoTo line l) n s tt h
  passes lang (Stop line) n s a h = stays_put lang (Stop line) n s tt h
  passes lang (Read line is) n s a h = stays_put lang (Read line is) n s tt h
  passes lang (Print line is) n s a h = stays_put lang (Print line is) n s tt h
  passes lang (Allocate line x es) n s a h = stays_put lang (Allocate line x es) n s tt h
  passes lang (Deallocate line x) n s a h = stays_put lang (Deallocate line x) n s tt h

  -- ---- where a statement leads

  goes_to : (q : Result (Unit {0}) Left) (j : Option ℕ) (s : State) → Ok j ≡ landed q → Outcome names limit input base m now q s → IsAt names limit input base m now (way_at j) s
  goes_to (Ok x) j s e h = (let same : None ≡ j = cc in subst (λ j. IsAt names limit input base m now (way_at j) s) same (h.stands, h.taken))
  goes_to (Err (Halted (Jump n))) j s e h = (let same : Some n ≡ j = cc in subst (λ j. IsAt names limit input base m now (way_at j) s) same (h.stands, h.taken))
  goes_to (Err (Halted Stop')) j s e h = cc
  goes_to (Err (Halted (Fault' f line))) j s e h = cc
  goes_to (Err (Halted Limit)) j s e h = cc
  goes_to (Err Unwritten) j s e h = cc

  module _ (act : LimitedAct) (stays : StaysEnded act) (extends : Extends act) where
    stopped : (h : Halt) (s : State) → IsEnd h → Ended names limit input base m now (way_of h) s → Ended names limit input base m now (way_of h) (act limit s)
    stopped h s d k = subst (Ended names limit input base m now (way_of h)) (sym (stays limit s h d k.stands.way_is)) k

    ends_at : (q : Result (Unit {0}) Left) (left : Left) (s : State) → Err left ≡ landed q → Outcome names limit input base m now q s → Outcome names limit input base m now (Err left) (act limit s)
    ends_at (Ok x) left s e h = cc
    ends_at (Err (Halted (Jump n))) left s e h = cc
    ends_at (Err (Halted Stop')) left s e h = (let same : Halted Stop' ≡ left = cc in subst (λ l. Outcome names limit input base m now (Err l) (act limit s)) same (stopped Stop' s tt h))
    ends_at (Err (Halted (Fault' f line))) left s e h = (let same : Halted (Fault' f line) ≡ left = cc in subst (λ l. Outcome names limit input base m now (Err l) (act limit s)) same (stopped (Fault' f line) s tt h))
    ends_at (Err (Halted Limit)) left s e h = (let same : Halted Limit ≡ left = cc in subst (λ l. Outcome names limit input base m now (Err l) (act limit s)) same (stopped Limit s tt h))
    ends_at (Err Unwritten) left s e h =
        let same : Unwritten ≡ left = cc in
        let more = extends.adds limit s in
        subst (λ l. Outcome names limit input base m now (Err l) (act limit s)) same
        (record { names_are = h.names_are; front = h.front; rest = h.rest ++ more.0; whole = more.1 ∙ ap (λ t. t ++ more.0) h.whole ∙ append_assoc h.front h.rest more.0; taken = h.taken })

-- ---- under other limits

-- a statement that led on, or to a jump, is the same there
goes_on : (base : Option (List ℕ)) (m : Seen) (now : Option (List ℕ)) (q : Result (Unit {0}) Left) (j : Option ℕ) (f : LimitedAct) (limit : Option ℕ) (s : State)
    → Ok j ≡ landed q → Elsewhere base m now q f limit s → Same f limit s
goes_on base m now (Ok x) j f limit s e h = h
goes_on base m now (Err (Halted (Jump n))) j f limit s e h = h
goes_on base m now (Err (Halted Stop')) j f limit s e h = cc
goes_on base m now (Err (Halted (Fault' g line))) j f limit s e h = cc
goes_on base m now (Err (Halted Limit)) j f limit s e h = cc
goes_on base m now (Err Unwritten) j f limit s e h = cc

module _ (names : List Declaration) (input : List ℕ) (base : Option (List ℕ)) (m : Seen) (now : Option (List ℕ)) (f g : LimitedAct) (limit : Option ℕ) (s : State) (stays : StaysEnded g) (idles : Idles g) where
  -- a statement that ended the run
  ends_elsewhere : (q : Result (Unit {0}) Left) (left : Left) → Err left ≡ landed q → Outcome names limit input base m now q (f limit s) → Elsewhere base m now q f limit s
      → Elsewhere base m now (Err left) (λ l. then (f l) (g l)) limit s
  ends_elsewhere (Ok x) left e o h = cc
  ends_elsewhere (Err (Halted (Jump n))) left e o h = cc
  ends_elsewhere (Err (Halted Stop')) left e o h = (let same : Halted Stop' ≡ left = cc in subst (λ l. Elsewhere base m now (Err l) (λ l. then (f l) (g l)) limit s) same
      (elsewhere_stays f g base m now limit s Stop' h (λ l. stays l (f limit s) Stop' tt o.stands.way_is)))
  ends_elsewhere (Err (Halted (Fault' k line))) left e o h = (let same : Halted (Fault' k line) ≡ left = cc in subst (λ l. Elsewhere base m now (Err l) (λ l. then (f l) (g l)) limit s) same
      (elsewhere_stays f g base m now limit s (Fault' k line) h (λ l. stays l (f limit s) (Fault' k line) tt o.stands.way_is)))
  ends_elsewhere (Err (Halted Limit)) left e o h = (let same : Halted Limit ≡ left = cc in subst (λ l. Elsewhere base m now (Err l) (λ l. then (f l) (g l)) limit s) same tt)
  ends_elsewhere (Err Unwritten) left e o h = (let same : Unwritten ≡ left = cc in subst (λ l. Elsewhere base m now (Err l) (λ l. then (f l) (g l)) limit s) same
      (cut_then f g base m now limit s h idles))

same_label : (lang : Dialect) (n : ℕ) (limit : Option ℕ) (s : State) → Same (λ l. does lang l (Label n)) limit s
same_label lang n limit s = steady (does lang limit (Label n)) limit s (by (arrives n s.way))
  where
    by : (b : Bool) → (either b (goes Going) nothing s).steps ≡ s.steps
    by true = refl
    by false = refl

same_passed : (lang : Dialect) (c : Statement) (limit : Option ℕ) (n : ℕ) (s : State) → IsPassed c → s.way ≡ Jumping n → Same (λ l. does lang l c) limit s
same_passed lang c limit n s a e =
    let is : (l : Option ℕ) → does lang l c s ≡ s = λ l. Stays-does lang c a l s (Jump n) e in
    record {
      later = subst (λ (t : State). s.steps ≤ t.steps) (sym (is limit)) (omega arith);
      within = λ q. subst (λ (t : State). IsAtMost t.steps limit) (sym (is limit)) q;
      same = λ k l. is (Some k) ∙ sym (is limit);
    }

same_jumped : (lang : Dialect) (c : Statement) (limit : Option ℕ) (n : ℕ) (s : State) → HasArms c → s.way ≡ Jumping n → Same (λ l. does lang l c) limit s
same_jumped lang (Assignment line mark left right) limit n s a e = same_passed lang (Assignment line mark left right) limit n s tt e
same_jumped lang (Where line mark mask left right) limit n s a e = same_passed lang (Where line mark mask left right) limit n s tt e
same_jumped lang (If line as' other) limit n s a e = same_passed lang (If line as' other) limit n s a.0 e
same_jumped lang (Do line x p q r body) limit n s a e = same_passed lang (Do line x p q r body) limit n s tt e
same_jumped lang (Label l) limit n s a e = same_label lang l limit s
same_jumped lang (GoTo line l) limit n s a e = same_passed lang (GoTo line l) limit n s tt e
same_jumped lang (Stop line) limit n s a e = same_passed lang (Stop line) limit n s tt e
same_jumped lang (Read line is) limit n s a e = same_passed lang (Read line is) limit n s tt e
same_jumped lang (Print line is) limit n s a e = same_passed lang (Print line is) limit n s tt e
same_jumped lang (Allocate line x es) limit n s a e = same_passed lang (Allocate line x es) limit n s tt e
same_jumped lang (Deallocate line x) limit n s a e = same_passed lang (Deallocate line x) limit n s tt e

-- ---- the statements from a place in a block on

-- the same as `Runs`, begun on this way
unfoldable pub RunsOn : Way → LimitedAct → List ℕ → Seen → Option (List ℕ) → Seen → Option (List ℕ) → Result (Unit {0}) Left → Type 0
RunsOn way act input old before new now r = (names : List Declaration) (limit : Option ℕ) (base : Option (List ℕ)) (s : State)
    → Stands names limit input old way s → before ≡ append_known base s.written
    → Outcome names limit input base new now r (act limit s) × Elsewhere base new now r act limit s

abbrev pub left_of_block : Dialect → List Stmt → LimitedAct
left_of_block lang xs limit = does_all lang limit (block (map statement_of xs))

module _ (b : view.Block) (xs : List Stmt) (e : xs ≡ (view.out-Block b).stmts) where
  block_is : block_of b ≡ block (map statement_of xs)
  block_is = block_of-is b ∙ ap (λ xs. block (map statement_of xs)) (sym e)

  pub block_arms : BlockHasArms (block_of b) → BlockHasArms (block (map statement_of xs))
  block_arms h = subst BlockHasArms block_is h

  pub block_begins : (lang : Dialect) (input : List ℕ) (old new : Seen) (before now : Option (List ℕ)) (r : Result (Unit {0}) Left)
      → RunsOn Going (left_of_block lang xs) input old before new now r → Runs (λ limit. does_all lang limit (block_of b)) input old before new now r
  unfolding Runs RunsOn
  block_begins lang input old new before now r h = subst (λ c. Runs (λ limit. does_all lang limit c) input old before new now r) (sym block_is) h

module _ (xs : List Stmt) (i : ℕ) (x : Stmt) (within : i < length xs) (is : x ≡ get_or xs i x) (input : List ℕ) where
  begins : (lang : Dialect) (way : Way) (old new : Seen) (before after : Option (List ℕ)) (r : Result (Unit {0}) Left)
      → RunsOn way (λ limit. then (does lang limit (statement_of x)) (left_of_block lang (drop (i + 1) xs) limit)) input old before new after r
      → RunsOn way (left_of_block lang (drop i xs)) input old before new after r
  begins lang way old new before after r h = subst (λ b. RunsOn way (λ limit. does_all lang limit b) input old before new after r)
      (sym (at_drop_more (λ xs. block (map statement_of xs)) xs i x within ∙ ap (λ y. statement (statement_of y) (block (map statement_of (drop (i + 1) xs)))) (sym is))) h

  pub has_arms_here : BlockHasArms (block (map statement_of (drop i xs))) → HasArms (statement_of x) × BlockHasArms (block (map statement_of (drop (i + 1) xs)))
  has_arms_here h = subst BlockHasArms (at_drop_more (λ xs. block (map statement_of xs)) xs i x within ∙ ap (λ y. statement (statement_of y) (block (map statement_of (drop (i + 1) xs)))) (sym is)) h

  pub block_more : (lang : Dialect) (old mid new : Seen) (before now after : Option (List ℕ)) (q r : Result (Unit {0}) Left) (j : Option ℕ) → Ok j ≡ landed q
      → Runs (λ limit. does lang limit (statement_of x)) input old before mid now q → RunsOn (way_at j) (left_of_block lang (drop (i + 1) xs)) input mid now new after r
      → RunsOn Going (left_of_block lang (drop i xs)) input old before new after r
  unfolding Runs RunsOn
  block_more lang old mid new before now after q r j e h k = begins lang Going old new before after r λ names limit base s d b.
      let p = h names limit base s d b in
      let o = goes_to names limit input base mid now q j (does lang limit (statement_of x) s) e p.0 in
      let u = k names limit base (does lang limit (statement_of x) s) o.0 o.1 in
      let one : LimitedAct = λ l. does lang l (statement_of x) in
      (u.0, elsewhere_then one (left_of_block lang (drop (i + 1) xs)) base new after limit s r (goes_on base mid now q j one limit s e p.1) u.1)

  pub block_left : (lang : Dialect) (old mid : Seen) (before now : Option (List ℕ)) (q : Result (Unit {0}) Left) (left : Left) → Err left ≡ landed q
      → Runs (λ limit. does lang limit (statement_of x)) input old before mid now q → RunsOn Going (left_of_block lang (drop i xs)) input old before mid now (Err left)
  unfolding Runs RunsOn
  block_left lang old mid before now q left e h = begins lang Going old mid before now (Err left) λ names limit base s d b.
      let p = h names limit base s d b in (
        ends_at names limit input base mid now (left_of_block lang (drop (i + 1) xs)) (StaysEnded-does_all lang (block (map statement_of (drop (i + 1) xs)))) (Extends-does_all lang (block (map statement_of (drop (i + 1) xs))))
            q left (does lang limit (statement_of x) s) e p.0,
        ends_elsewhere names input base mid now (λ l. does lang l (statement_of x)) (left_of_block lang (drop (i + 1) xs)) limit s
            (StaysEnded-does_all lang (block (map statement_of (drop (i + 1) xs)))) (Idles-does_all lang (block (map statement_of (drop (i + 1) xs)))) q left e p.0 p.1,
      )

  pub block_passed : (lang : Dialect) (n : ℕ) (old new : Seen) (before after : Option (List ℕ)) (r : Result (Unit {0}) Left) → HasArms (statement_of x)
      → RunsOn (way_at (passed (statement_of x) n)) (left_of_block lang (drop (i + 1) xs)) input old before new after r → RunsOn (Jumping n) (left_of_block lang (drop i xs)) input old before new after r
  unfolding RunsOn
  block_passed lang n old new before after r a k = begins lang (Jumping n) old new before after r λ names limit base s d b.
      let o = passes names limit input base old before lang (statement_of x) n s a (d, b) in
      let u = k names limit base (does lang limit (statement_of x) s) o.0 o.1 in (
        u.0,
        elsewhere_then (λ l. does lang l (statement_of x)) (left_of_block lang (drop (i + 1) xs)) base new after limit s r
            (same_jumped lang (statement_of x) limit n s a d.way_is) u.1,
      )

module _ (lang : Dialect) (xs : List Stmt) (i : ℕ) (end : length xs ≤ i) (input : List ℕ) (m : Seen) (now : Option (List ℕ)) where
  done_is : (limit : Option ℕ) → left_of_block lang (drop i xs) limit ≡ nothing
  done_is limit = at_drop_all (λ xs. left_of_block lang xs limit) xs i end

  pub block_done : RunsOn Going (left_of_block lang (drop i xs)) input m now m now (Ok tt)
  unfolding RunsOn
  block_done names limit base s d b = (
    subst (λ f. Ended names limit input base m now Going (f s)) (sym (done_is limit)) (record { stands = d; taken = b }),
    elsewhere_same base m now (Ok tt) (λ l. nothing) (left_of_block lang (drop i xs)) limit s (λ l. ap (λ f. f s) (done_is l)) (steady nothing limit s refl),
  )

  pub block_jumped : (n : ℕ) → RunsOn (Jumping n) (left_of_block lang (drop i xs)) input m now m now (Err (Halted (Jump n)))
  unfolding RunsOn
  block_jumped n names limit base s d b = (
    subst (λ f. Ended names limit input base m now (Jumping n) (f s)) (sym (done_is limit)) (record { stands = d; taken = b }),
    elsewhere_same base m now (Err (Halted (Jump n))) (λ l. nothing) (left_of_block lang (drop i xs)) limit s (λ l. ap (λ f. f s) (done_is l)) (steady nothing limit s refl),
  )

-- ---- the arms from a place in a block IF on

abbrev pub left_of_arms : Dialect → ℕ → LimitedAct → List Arm → LimitedAct
left_of_arms lang line other xs limit = chooses lang limit line (plain_arms xs) (other limit)

module _ (line : ℕ) (other : LimitedAct) (xs : List Arm) (i : ℕ) (x : Arm) (within : i < length xs) (is : x ≡ get_or xs i x) (input : List ℕ) (old mid : Seen) where
  arms_are : plain_arms (drop i xs) ≡ arm (expression_of (out-Arm x).test) (block_of (out-Arm x).body) (plain_arms (drop (i + 1) xs))
  arms_are = at_drop_more plain_arms xs i x within ∙ ap (λ y. arm (tested_of y).test (tested_of y).body (plain_arms (drop (i + 1) xs))) (sym is)
      ∙ ap (λ t. arm t.test t.body (plain_arms (drop (i + 1) xs))) (tested_of-is x)

  pub has_arms_on : ArmsHaveArms (plain_arms (drop i xs)) → BlockHasArms (block_of (out-Arm x).body) × ArmsHaveArms (plain_arms (drop (i + 1) xs))
  has_arms_on h = subst ArmsHaveArms arms_are h

  abbrev tested : Dialect → LimitedAct
  tested lang limit = evaluates line (truth_of lang (expression_of (out-Arm x).test)) (λ b. either b (does_all lang limit (block_of (out-Arm x).body)) (left_of_arms lang line other (drop (i + 1) xs) limit))

  begun : (lang : Dialect) (new : Seen) (before now : Option (List ℕ)) (r : Result (Unit {0}) Left) → Runs (λ limit. counts_step lang limit (tested lang limit)) input old before new now r
      → Runs (left_of_arms lang line other (drop i xs)) input old before new now r
  begun lang new before now r h = subst (λ a. Runs (λ limit. chooses lang limit line a (other limit)) input old before new now r) (sym arms_are) h

  pub arm_cut : (lang : Dialect) (now : Option (List ℕ)) (h : Halt) → CountsStep old mid (Err h) → Runs (left_of_arms lang line other (drop i xs)) input old now mid now (Err (Halted h))
  arm_cut lang now h c = begun lang mid now now (Err (Halted h)) (Runs-cut lang (tested lang) input old mid now h c)

  pub arm_fault : (lang : Dialect) (now : Option (List ℕ)) (h : Halt) → CountsStep old mid (Ok tt) → Err h ≡ located line (truth_of lang (expression_of (out-Arm x).test) mid.store)
      → Runs (left_of_arms lang line other (drop i xs)) input old now mid now (Err (Halted h))
  arm_fault lang now h c e = begun lang mid now now (Err (Halted h)) (Runs-counts_step lang (tested lang) input old mid mid now now (Err (Halted h)) c
      (Runs-fault line (truth_of lang (expression_of (out-Arm x).test)) h (λ b limit. either b (does_all lang limit (block_of (out-Arm x).body)) (left_of_arms lang line other (drop (i + 1) xs) limit)) input mid now e))

  pub arm_true : (lang : Dialect) (new : Seen) (before now : Option (List ℕ)) (r : Result (Unit {0}) Left) (b : Bool) → CountsStep old mid (Ok tt) → Ok b ≡ located line (truth_of lang (expression_of (out-Arm x).test) mid.store) → b ≡ true
      → Runs (λ limit. does_all lang limit (block_of (out-Arm x).body)) input mid before new now r → Runs (left_of_arms lang line other (drop i xs)) input old before new now r
  arm_true lang new before now r b c e f h = begun lang new before now r (Runs-counts_step lang (tested lang) input old mid new before now r c
      (Runs-evaluates line (truth_of lang (expression_of (out-Arm x).test)) b (λ b limit. either b (does_all lang limit (block_of (out-Arm x).body)) (left_of_arms lang line other (drop (i + 1) xs) limit)) input mid new before now r e (subst (λ b. Runs (λ limit. either b (does_all lang limit (block_of (out-Arm x).body)) (left_of_arms lang line other (drop (i + 1) xs) limit)) input mid before new now r) (sym f) h)))

  pub arm_false : (lang : Dialect) (new : Seen) (before now : Option (List ℕ)) (r : Result (Unit {0}) Left) (b : Bool) → CountsStep old mid (Ok tt) → Ok b ≡ located line (truth_of lang (expression_of (out-Arm x).test) mid.store) → b ≡ false
      → Runs (left_of_arms lang line other (drop (i + 1) xs)) input mid before new now r → Runs (left_of_arms lang line other (drop i xs)) input old before new now r
  arm_false lang new before now r b c e f h = begun lang new before now r (Runs-counts_step lang (tested lang) input old mid new before now r c
      (Runs-evaluates line (truth_of lang (expression_of (out-Arm x).test)) b (λ b limit. either b (does_all lang limit (block_of (out-Arm x).body)) (left_of_arms lang line other (drop (i + 1) xs) limit)) input mid new before now r e (subst (λ b. Runs (λ limit. either b (does_all lang limit (block_of (out-Arm x).body)) (left_of_arms lang line other (drop (i + 1) xs) limit)) input mid before new now r) (sym f) h)))

pub arms_done : (lang : Dialect) (line : ℕ) (other : LimitedAct) (xs : List Arm) (i : ℕ) (input : List ℕ) (m new : Seen) (before now : Option (List ℕ)) (r : Result (Unit {0}) Left) → length xs ≤ i
    → Runs other input m before new now r → Runs (left_of_arms lang line other (drop i xs)) input m before new now r
arms_done lang line other xs i input m new before now r l h = subst (λ a. Runs (λ limit. chooses lang limit line a (other limit)) input m before new now r) (sym (at_drop_all plain_arms xs i l)) h

-- ---- a statement of one kind

pub at_statement : (lang : Dialect) (x : Stmt) (c : Statement) (input : List ℕ) (old new : Seen) (before now : Option (List ℕ)) (r : Result (Unit {0}) Left) → statement_of x ≡ c
    → Runs (λ limit. does lang limit c) input old before new now r → Runs (λ limit. does lang limit (statement_of x)) input old before new now r
at_statement lang x c input old new before now r e h = subst (λ c. Runs (λ limit. does lang limit c) input old before new now r) (sym e) h

pub none_left : (j : Option ℕ) → ((n : ℕ) → j ≡ Some n → ⊥) → j ≡ None
none_left None h = refl
none_left (Some n) h = absurd (h n refl)

-- a label that is reached without a jump does nothing
pub label_runs : (lang : Dialect) (n : ℕ) (input : List ℕ) (m : Seen) (now : Option (List ℕ)) → Runs (λ limit. does lang limit (Label n)) input m now m now (Ok tt)
unfolding Runs
label_runs lang n input m now names limit base s d b = (
  subst (λ w. Ended names limit input base m now Going (either (arrives n w) (goes Going) nothing s)) (sym d.way_is) (record { stands = d; taken = b }),
  same_label lang n limit s,
)
