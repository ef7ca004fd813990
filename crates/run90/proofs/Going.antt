-- Statements of blocks, arms of block IFs, and how what they do is put together.
use Rattle.std.proofs.Common.{◌≡◌, refl, sym, ap, ◌∙◌, subst, ℕ, ◌+◌, ◌<◌, Bool, false, List, drop, get_or, length, map, Result, Ok, Err, Option, Some, None}
use Rattle.std.specs.Prelude.{◌≢◌}
use Rattle.std.proofs.lemmas.List.{at_drop_more}
use Rattle.tree.specs.Plain.{Declaration, Program, If, Arms, no_arms, arm, Block, no_statements, statement, block}
use Rattle.tree.specs.View.{expression_of, statement_of, tested_of, block_of}
use Rattle.tree.specs.declared.stmts.Stmt.{Stmt}
use Rattle.tree.specs.declared.stmts.Arm.{Arm, out-Arm}
use Rattle.tree.specs.declared.stmts.Block as view
use Rattle.tree.specs.Steps.{◌>>=◌}
use Rattle.tree.specs.declared.ops.Fault.{Fault}
use Rattle.tree.proofs.Equations.{tested_of-is, block_of-is}
use Rattle.meaning.specs.Blocks.{Surroundings, before_labels, labels_of}
use Rattle.meaning.specs.Dialect.{Dialect, fortran90}
use Rattle.tree.specs.declared.width.Width.{Width}
use Rattle.meaning.specs.Profile90.{IsStatement, AreArms, IsBlock}
use Rattle.meaning.specs.Value.{truth_of}
use Rattle.meaning.specs.Run.{either, nothing, evaluates, does_all, chooses}
use Rattle.machine.specs.declared.progress.Halt.TheVariants.{Jump, Stop as Stop', Fault as Fault', Limit}
use Rattle.machine.specs.declared.progress.Left.{Left}
use Rattle.machine.specs.declared.progress.Left.TheVariants.{Halted, Unwritten}
use Rattle.machine.specs.Acts.{LimitedAct, Runs}
use Rattle.machine.specs.Jumps.{landed}
use Rattle.machine.specs.Moments.{Seen, CountsStep, located}
use Rattle.machine.specs.Statements.{plain_arms}
use Rattle.machine.proofs.ActLaws.{Extends, Runs-nothing}
use Rattle.machine.proofs.BlockLaws.{Extends-does_all, left_of_arms, arm_fault}
use Rattle.machine.proofs.IdleLaws.{Idles-counts_step}
use Rattle.machine.proofs.TurnLaws.{Adds-counts_step}
use Rattle.array_expressions.specs.declared.assignments.causes.Stuck.{Stuck}
use Rattle.array_expressions.specs.declared.assignments.causes.Stuck.TheVariants as stuck
use Rattle.array_expressions.specs.assignments.Causes.{AnswersAt, outcome}
use Rattle.array_expressions.proofs.assignments.Lacking.{Runs-lacking, Extends-evaluates, Extends-either}
use Rattle.array_expressions.specs.declared.transfers.unfinished.Unfinished.{Unfinished}
use Rattle.array_expressions.specs.declared.transfers.unfinished.Unfinished.TheVariants.{Left as Left', Memory}
use Rattle.array_expressions.specs.transfers.Unfinished.{unfinished_by, left_at, ended_by}
use Rattle.array_expressions.proofs.transfers.Lacking.{left_so}
use Rattle.run90.specs.Statements.{unfinished, landed as landed90, Chooses}
use Rattle.run90.specs.Suiting.{Suits}
use Rattle.run90.proofs.Keeping.{step_same, HasEnded, suits_after, keeps_statement}

-- ---- answers

pub finished : (act : LimitedAct) (input : List ℕ) (old new : Seen) (before now : Option (List ℕ)) (q : Result (Unit {0}) Stuck) → Runs act input old before new now (outcome q) → Runs act input old before new now (ended_by (unfinished q))
finished act input old new before now (Ok x) h = h
finished act input old new before now (Err e) h = left_so act input old new before now e h

pub landed_on : (r : Result (Unit {0}) Unfinished) (j : Option ℕ) → Ok j ≡ landed90 r → (Ok j ≡ landed (ended_by r)) × HasEnded (ended_by r)
landed_on (Ok x) j e = (let same : j ≡ None = cc in ap (λ o. let q : Result (Option ℕ) Left = Ok o in q) same, tt)
landed_on (Err (Left' (Halted (Jump n)))) j e = (let same : j ≡ Some n = cc in ap (λ o. let q : Result (Option ℕ) Left = Ok o in q) same, tt)
landed_on (Err (Left' (Halted Stop'))) j e = cc
landed_on (Err (Left' (Halted (Fault' f line)))) j e = cc
landed_on (Err (Left' (Halted Limit))) j e = cc
landed_on (Err (Left' Unwritten)) j e = cc
landed_on (Err Memory) j e = cc

pub landed_off : (r : Result (Unit {0}) Unfinished) (u : Unfinished) → Err u ≡ landed90 r → Err (left_at u) ≡ landed (ended_by r)
landed_off (Ok x) u e = cc
landed_off (Err (Left' (Halted (Jump n)))) u e = cc
landed_off (Err (Left' (Halted Stop'))) u e = (let same : u ≡ Left' (Halted Stop') = cc in ap (λ u. let q : Result (Option ℕ) Left = Err (left_at u) in q) same)
landed_off (Err (Left' (Halted (Fault' f line)))) u e = (let same : u ≡ Left' (Halted (Fault' f line)) = cc in ap (λ u. let q : Result (Option ℕ) Left = Err (left_at u) in q) same)
landed_off (Err (Left' (Halted Limit))) u e = (let same : u ≡ Left' (Halted Limit) = cc in ap (λ u. let q : Result (Option ℕ) Left = Err (left_at u) in q) same)
landed_off (Err (Left' Unwritten)) u e = (let same : u ≡ Left' Unwritten = cc in ap (λ u. let q : Result (Option ℕ) Left = Err (left_at u) in q) same)
landed_off (Err Memory) u e = (let same : u ≡ Memory = cc in ap (λ u. let q : Result (Option ℕ) Left = Err (left_at u) in q) same)

-- where a write has failed
pub unwritten_off : (r : Result (Unit {0}) Unfinished) → Err (Left' Unwritten) ≡ landed90 r → r ≡ Err (Left' Unwritten)
unwritten_off (Ok x) e = cc
unwritten_off (Err (Left' (Halted (Jump n)))) e = cc
unwritten_off (Err (Left' (Halted Stop'))) e = cc
unwritten_off (Err (Left' (Halted (Fault' f line)))) e = cc
unwritten_off (Err (Left' (Halted Limit))) e = cc
unwritten_off (Err (Left' Unwritten)) e = refl
unwritten_off (Err Memory) e = cc

-- a first question that has no answer
pub first_stuck : {A B C D : Type 0} (line : ℕ) (view : C → A) (other : D → B) (q : Result A Fault) (k : A → Result B Fault) (e : Stuck) → AnswersAt line view q (Err e) → AnswersAt line other (q >>= k) (Err e)
first_stuck line view other (Ok x) k (stuck.Halted h) a = cc
first_stuck line view other (Err f) k (stuck.Halted h) a = (let same : h ≡ Fault' f line = cc in subst (λ h. AnswersAt line other (Err f) (Err (stuck.Halted h))) (sym same) refl)
first_stuck line view other q k stuck.Memory a = tt

pub second_stuck : {A B D : Type 0} (line : ℕ) (other : D → B) (q : Result A Fault) (k : A → Result B Fault) (x : A) (e : Stuck) → q ≡ Ok x → AnswersAt line other (k x) (Err e) → AnswersAt line other (q >>= k) (Err e)
second_stuck line other q k x e h a = subst (λ q. AnswersAt line other (q >>= k) (Err e)) (sym h) a

-- ---- the statements from a place in a block on

module _ (ds : List Declaration) (w : Surroundings) where
  pub block_here : (b : view.Block) (xs : List Stmt) → xs ≡ (view.out-Block b).stmts → IsBlock ds (block_of b) w → IsBlock ds (block (map statement_of xs)) w
  block_here b xs e h = subst (λ c. IsBlock ds c w) (block_of-is b ∙ ap (λ xs. block (map statement_of xs)) (sym e)) h

  pub statement_here : (xs : List Stmt) (i : ℕ) (x : Stmt) → i < length xs → x ≡ get_or xs i x → IsBlock ds (block (map statement_of (drop i xs))) w
      → IsStatement ds (statement_of x) (before_labels (labels_of (block (map statement_of (drop (i + 1) xs)))) w) × IsBlock ds (block (map statement_of (drop (i + 1) xs))) w
  statement_here xs i x within is h = subst (λ c. IsBlock ds c w)
      (at_drop_more (λ xs. block (map statement_of xs)) xs i x within ∙ ap (λ y. statement (statement_of y) (block (map statement_of (drop (i + 1) xs)))) (sym is)) h

  -- ---- the arms from a place in a block IF on

  pub arm_here : (xs : List Arm) (i : ℕ) (x : Arm) → i < length xs → x ≡ get_or xs i x → AreArms ds (plain_arms (drop i xs)) w → IsBlock ds (block_of (out-Arm x).body) w × AreArms ds (plain_arms (drop (i + 1) xs)) w
  arm_here xs i x within is h =
      (let k = subst (λ as'. AreArms ds as' w)
      (at_drop_more plain_arms xs i x within ∙ ap (λ y. arm (tested_of y).test (tested_of y).body (plain_arms (drop (i + 1) xs))) (sym is)
      ∙ ap (λ t. arm t.test t.body (plain_arms (drop (i + 1) xs))) (tested_of-is x)) h in (k.1, k.2))

pub Extends-chooses : (lang : Dialect) (line : ℕ) (as' : Arms) (other : LimitedAct) → Extends other → Extends (λ limit. chooses lang limit line as' (other limit))
Extends-chooses lang line no_arms other h = h
Extends-chooses lang line (arm test body more) other h =
    let tested : LimitedAct = λ limit. evaluates line (truth_of lang test) (λ b. either b (does_all lang limit body) (chooses lang limit line more (other limit))) in
    let e : Extends tested = Extends-evaluates line (truth_of lang test) (λ b limit. either b (does_all lang limit body) (chooses lang limit line more (other limit)))
    (λ b. Extends-either b (λ limit. does_all lang limit body) (λ limit. chooses lang limit line more (other limit)) (Extends-does_all lang body) (Extends-chooses lang line more other h)) in
    record { adds = λ limit. Adds-counts_step lang limit (tested limit) (e.adds limit); idles = Idles-counts_step lang tested }

-- a condition that has no value
pub arm_stuck : (width : Width) (line : ℕ) (other : LimitedAct) (xs : List Arm) (i : ℕ) (x : Arm) → i < length xs → x ≡ get_or xs i x → (input : List ℕ) (old mid : Seen) (now : Option (List ℕ)) (e : Stuck) → Extends other → CountsStep old mid (Ok tt)
    → AnswersAt line (λ (b : Bool). b) (truth_of (fortran90 width) (expression_of (out-Arm x).test) mid.store) (Err e) → Runs (left_of_arms (fortran90 width) line other (drop i xs)) input old now mid now (Err (left_at (unfinished_by e)))
arm_stuck width line other xs i x within is input old mid now (stuck.Halted h) o c a = arm_fault line other xs i x within is input old mid (fortran90 width) now h c a
arm_stuck width line other xs i x within is input old mid now stuck.Memory o c a =
    let same = step_same old mid c in
    Runs-lacking (left_of_arms (fortran90 width) line other (drop i xs)) input old mid now (Extends-chooses (fortran90 width) line (plain_arms (drop i xs)) other o) same.0 same.1

-- no arm was done
pub chosen_suits : (width : Width) (p : Program) (w : Surroundings) (line : ℕ) (as' : List Arm) (other : Block) → IsStatement p.declarations (If line (plain_arms as') other) w → (input : List ℕ) (old : Seen) (before : Option (List ℕ)) (new : Seen) (now : Option (List ℕ))
    → Chooses width line (plain_arms as') input old before new now (Ok false) → Suits width p old → Suits width p new
unfolding Chooses
chosen_suits width p w line as' other is input old before new now h s =
    suits_after width p (λ limit. chooses (fortran90 width) limit line (plain_arms as') nothing) (keeps_statement width p (If line (plain_arms as') no_statements) w (is.0, is.1, is.2, tt)) input old new before now (Ok tt) tt
    (h (λ limit. nothing) new now (Ok tt) (Runs-nothing input new now)) s

pub located_ok : {A : Type 0} (line : ℕ) (q : Result A Fault) (x : A) → Ok x ≡ located line q → q ≡ Ok x
located_ok line (Ok y) x e = cc
located_ok line (Err f) x e = cc

-- ---- where a write has failed

pub never_left : (q : Result (Unit {0}) Stuck) → unfinished q ≡ Err (Left' Unwritten) → ⊥
never_left (Ok x) e = cc
never_left (Err (stuck.Halted h)) e = cc
never_left (Err stuck.Memory) e = cc

pub block_unwritten : (r q : Result (Unit {0}) Unfinished) (u : Unfinished) → q ≡ Err u → Err u ≡ landed90 r → q ≡ Err (Left' Unwritten) → r ≡ Err (Left' Unwritten)
block_unwritten r q u e h f =
    let both : ◌≡◌ {A = Result (Unit {0}) Unfinished} (Err u) (Err (Left' Unwritten)) = sym e ∙ f in
    let same : u ≡ Left' Unwritten = cc in
    unwritten_off r (subst (λ u. Err u ≡ landed90 r) same h)

-- ---- where none has

pub went_on : (r : Result (Unit {0}) Unfinished) (j : Option ℕ) → Ok j ≡ landed90 r → r ≢ Err (Left' Unwritten)
went_on r j e = λ w. let both : ◌≡◌ {A = Result (Option ℕ) Unfinished} (Ok j) (Err (Left' Unwritten)) = e ∙ ap landed90 w in cc

pub block_unfailed : (r q : Result (Unit {0}) Unfinished) (u : Unfinished) → q ≡ Err u → Err u ≡ landed90 r → q ≢ Err (Left' Unwritten) → r ≢ Err (Left' Unwritten)
block_unfailed r q u e h f = λ w.
    let both : ◌≡◌ {A = Result (Option ℕ) Unfinished} (Err u) (Err (Left' Unwritten)) = h ∙ ap landed90 w in
    let same : u ≡ Left' Unwritten = cc in
    f (e ∙ ap (λ u. let q : Result (Unit {0}) Unfinished = Err u in q) same)
