-- The turns of a loop.
use Rattle.std.proofs.Common.{◌≡◌, refl, sym, ap, ◌∙◌, subst, zero, suc, ℕ, ℤ, ◌+◌, ◌+ℤ◌, Bool, true, false, List, [], ◌++◌, Result, Ok, Err, Option, append_assoc, append-nil}
use Rattle.tree.specs.Steps.{◌>>=◌}
use Rattle.tree.specs.Operators.{as_number}
use Rattle.tree.specs.Plain.{Expression, Single, Constant, ImpliedDo, Item, Items, no_items, item}
use Rattle.tree.specs.declared.ops.Value.{Value}
use Rattle.tree.specs.declared.ops.Value.TheVariants.{Int}
use Rattle.tree.specs.declared.ops.Fault.{Fault}
use Rattle.tree.specs.declared.ops.Fault.TheVariants.{Overflow}
use Rattle.meaning.specs.Store.{Store, Cell, cell_at, put}
use Rattle.meaning.specs.Dialect.{Dialect}
use Rattle.meaning.specs.Texts.{output_text}
use Rattle.meaning.specs.Value.{exact, is_in_range, item_values, number_of, increment_of, trip_count}
use Rattle.meaning.specs.Run.{State, Act, Way, Going, Jumping, Stopped, Failed, Cut, nothing, then, either, goes, on_way, while_going, answered, evaluates, writes, stores, counts_step, checks_range, is_allowed, repeated, turn, increases, sets_variable, loops, prints_item, prints_items}
use Rattle.machine.specs.Moments.{Seen}
use Rattle.machine.specs.declared.progress.Halt.{Halt}
use Rattle.machine.specs.declared.progress.Left.{Left}
use Rattle.machine.specs.declared.progress.Left.TheVariants.{Halted, Unwritten}
use Rattle.machine.specs.Moments.{CountsStep}
use Rattle.machine.specs.Acts.{LimitedAct, Runs}
use Rattle.machine.proofs.IdleLaws.{Idles-then, Idles-writes, Idles-repeated, Idles-counts_step, Idles-increases, Idles-prints_items}
use Rattle.machine.proofs.ActLaws.{Runs-nothing, Runs-counts_step, Runs-cut, Runs-then, Runs-halted, Runs-unwritten, Stays, Extends, ended_way, Stays-evaluates}

-- ---- acts that stay, and acts that extend what was written

pub Stays-counts_step : (lang : Dialect) (act : LimitedAct) → Stays (λ limit. counts_step lang limit (act limit))
unfolding counts_step
Stays-counts_step lang act limit s h e = ended_way (λ s. either (is_allowed limit s.steps) (λ t. act limit (record t { steps = t.steps + 1 })) (goes Cut) s) s h e

pub Stays-writes : (t : List ℕ) → Stays (λ limit. writes t)
unfolding writes
Stays-writes t limit s h e = ended_way (λ s. record s { written = s.written ++ t }) s h e

pub Stays-then : (f g : LimitedAct) → Stays f → Stays g → Stays (λ limit. then (f limit) (g limit))
Stays-then f g a b limit s h e = ap (g limit) (a limit s h e) ∙ b limit s h e

pub Stays-repeated : (n : ℕ) (f : LimitedAct) → Stays f → Stays (λ limit. repeated n (f limit))
Stays-repeated zero f a limit s h e = refl
Stays-repeated (suc n) f a limit s h e = ap (repeated n (f limit)) (a limit s h e) ∙ Stays-repeated n f a limit s h e

-- the same for one act
abbrev Adds : Act → Type 0
Adds f = (s : State) → (more : List ℕ) × ((f s).written ≡ s.written ++ more)

Adds-none : (f : Act) → ((s : State) → (f s).written ≡ s.written) → Adds f
Adds-none f e s = ([], e s ∙ sym (append-nil s.written))

pub Adds-then : (f g : Act) → Adds f → Adds g → Adds (then f g)
Adds-then f g a b s = ((a s).0 ++ (b (f s)).0, (b (f s)).1 ∙ ap (λ t. t ++ (b (f s)).0) (a s).1 ∙ append_assoc s.written (a s).0 (b (f s)).0)

Adds-either : (t : Bool) (f g : Act) → Adds f → Adds g → Adds (either t f g)
Adds-either true f g a b = a
Adds-either false f g a b = b

Adds-on_way : (w : Way) (f : Act) → Adds f → Adds (on_way w f)
Adds-on_way Going f a = a
Adds-on_way (Jumping n) f a = Adds-none nothing (λ s. refl)
Adds-on_way Stopped f a = Adds-none nothing (λ s. refl)
Adds-on_way (Failed g line) f a = Adds-none nothing (λ s. refl)
Adds-on_way Cut f a = Adds-none nothing (λ s. refl)

Adds-while_going : (f : Act) → Adds f → Adds (while_going f)
unfolding while_going
Adds-while_going f a s = Adds-on_way s.way f a s

Adds-answered : {A : Type 0} (line : ℕ) (q : Result A Fault) (k : A → Act) → ((x : A) → Adds (k x)) → Adds (answered line q k)
Adds-answered line (Ok x) k a = a x
Adds-answered line (Err g) k a = Adds-none (goes (Failed g line)) (λ s. refl)

pub Adds-evaluates : {A : Type 0} (line : ℕ) (f : Store → Result A Fault) (k : A → Act) → ((x : A) → Adds (k x)) → Adds (evaluates line f k)
unfolding evaluates
Adds-evaluates line f k a = Adds-while_going (λ s. answered line (f s.store) k s) (λ s. Adds-answered line (f s.store) k a s)

pub Adds-counts_step : (lang : Dialect) (limit : Option ℕ) (f : Act) → Adds f → Adds (counts_step lang limit f)
unfolding counts_step
Adds-counts_step lang limit f a = Adds-while_going (λ s. either (is_allowed limit s.steps) (λ t. f (record t { steps = t.steps + 1 })) (goes Cut) s)
    (λ s. Adds-either (is_allowed limit s.steps) (λ t. f (record t { steps = t.steps + 1 })) (goes Cut) (λ t. a (record t { steps = t.steps + 1 })) (Adds-none (goes Cut) (λ s. refl)) s)

Adds-stores : (c : Cell) (v : Value) → Adds (stores c v)
unfolding stores
Adds-stores c v = Adds-while_going (λ s. record s { store = put c v s.store }) (Adds-none (λ s. record s { store = put c v s.store }) (λ s. refl))

pub Adds-writes : (t : List ℕ) → Adds (writes t)
unfolding writes
Adds-writes t = Adds-while_going (λ s. record s { written = s.written ++ t }) (λ s. (t, refl))

Adds-checks_range : (lang : Dialect) (limit : Option ℕ) (line : ℕ) (v : Value) (f : Act) → Adds f → Adds (checks_range lang limit line v f)
unfolding checks_range
Adds-checks_range lang limit line v f a = Adds-while_going (either (is_in_range lang.bits v) f (goes (Failed Overflow line)))
    (Adds-either (is_in_range lang.bits v) f (goes (Failed Overflow line)) a (Adds-none (goes (Failed Overflow line)) (λ s. refl)))

Adds-sets_variable : (lang : Dialect) (limit : Option ℕ) (line : ℕ) (x : List ℕ) (z : ℤ) → Adds (sets_variable lang limit line x z)
Adds-sets_variable lang limit line x z = Adds-evaluates line (cell_at x []) (λ c. checks_range lang limit line (Int z) (stores c (Int z))) (λ c. Adds-checks_range lang limit line (Int z) (stores c (Int z)) (Adds-stores c (Int z)))

pub Adds-increases : (lang : Dialect) (limit : Option ℕ) (line : ℕ) (x : List ℕ) (d : ℤ) → Adds (increases lang limit line x d)
Adds-increases lang limit line x d = Adds-evaluates line (cell_at x []) _ (λ c. Adds-evaluates line (λ s. as_number (s.held c) >>= λ z. exact (z +ℤ d)) (sets_variable lang limit line x) (Adds-sets_variable lang limit line x))

Adds-repeated : (n : ℕ) (f : Act) → Adds f → Adds (repeated n f)
Adds-repeated zero f a = Adds-none (repeated zero f) (λ s. refl)
Adds-repeated (suc n) f a = Adds-then f (repeated n f) a (Adds-repeated n f a)

pub Adds-turn : (lang : Dialect) (limit : Option ℕ) (line : ℕ) (x : List ℕ) (d : ℤ) (f : Act) → Adds f → Adds (turn lang limit line x d f)
Adds-turn lang limit line x d f a = Adds-counts_step lang limit (then f (increases lang limit line x d)) (Adds-then f (increases lang limit line x d) a (Adds-increases lang limit line x d))

pub Adds-loops : (lang : Dialect) (limit : Option ℕ) (line : ℕ) (x : List ℕ) (a b c : Expression) (f : Act) → Adds f → Adds (loops lang limit line x a b c f)
Adds-loops lang limit line x a b c f h =
    Adds-evaluates line (number_of lang a) _ (λ m1. Adds-evaluates line (number_of lang b) _ (λ m2. Adds-evaluates line (increment_of lang c) _ (λ m3.
    Adds-then (sets_variable lang limit line x m1) (evaluates line (λ s. trip_count m1 m2 m3) (λ n. repeated n (turn lang limit line x m3 f))) (Adds-sets_variable lang limit line x m1)
    (Adds-evaluates line (λ s. trip_count m1 m2 m3) (λ n. repeated n (turn lang limit line x m3 f)) (λ n. Adds-repeated n (turn lang limit line x m3 f) (Adds-turn lang limit line x m3 f h))))))

mutual
  Adds-prints_item : (lang : Dialect) (limit : Option ℕ) (i : Item) (line : ℕ) → Adds (prints_item lang limit i line)
  Adds-prints_item lang limit (Single e) line = Adds-evaluates line (item_values lang e) (λ vs. writes (output_text vs)) (λ vs. Adds-writes (output_text vs))
  Adds-prints_item lang limit (Constant t) line = Adds-writes t
  Adds-prints_item lang limit (ImpliedDo is x a b c) line = Adds-loops lang limit line x a b c (prints_items lang limit is line) (Adds-prints_items lang limit is line)

  pub Adds-prints_items : (lang : Dialect) (limit : Option ℕ) (is : Items) (line : ℕ) → Adds (prints_items lang limit is line)
  Adds-prints_items lang limit no_items line = Adds-none nothing (λ s. refl)
  Adds-prints_items lang limit (item i is) line = Adds-then (prints_item lang limit i line) (prints_items lang limit is line) (Adds-prints_item lang limit i line) (Adds-prints_items lang limit is line)

mutual
  Stays-prints_item : (lang : Dialect) (i : Item) (line : ℕ) → Stays (λ limit. prints_item lang limit i line)
  Stays-prints_item lang (Single e) line = Stays-evaluates line (item_values lang e) (λ vs limit. writes (output_text vs))
  Stays-prints_item lang (Constant t) line = Stays-writes t
  Stays-prints_item lang (ImpliedDo is x a b c) line = Stays-evaluates line (number_of lang a) _

  pub Stays-prints_items : (lang : Dialect) (is : Items) (line : ℕ) → Stays (λ limit. prints_items lang limit is line)
  Stays-prints_items lang no_items line = λ limit s h e. refl
  Stays-prints_items lang (item i is) line = Stays-then (λ limit. prints_item lang limit i line) (λ limit. prints_items lang limit is line) (Stays-prints_item lang i line) (Stays-prints_items lang is line)

-- ---- and with no step left

pub Extends-then : (f g : LimitedAct) → Extends f → Extends g → Extends (λ limit. then (f limit) (g limit))
Extends-then f g h k = record { adds = λ limit. Adds-then (f limit) (g limit) (h.adds limit) (k.adds limit); idles = Idles-then f g h.idles k.idles }

pub Extends-writes : (t : List ℕ) → Extends (λ limit. writes t)
Extends-writes t = record { adds = λ limit. Adds-writes t; idles = Idles-writes t }

pub Extends-increases : (lang : Dialect) (line : ℕ) (x : List ℕ) (d : ℤ) → Extends (λ limit. increases lang limit line x d)
Extends-increases lang line x d = record { adds = λ limit. Adds-increases lang limit line x d; idles = Idles-increases lang line x d }

pub Extends-prints_items : (lang : Dialect) (is : Items) (line : ℕ) → Extends (λ limit. prints_items lang limit is line)
Extends-prints_items lang is line = record { adds = λ limit. Adds-prints_items lang limit is line; idles = Idles-prints_items lang is line }

-- ---- where a run is left

pub Runs-left : (f g : LimitedAct) (input : List ℕ) (old mid : Seen) (before now : Option (List ℕ)) (left : Left) → Runs f input old before mid now (Err left) → Stays g → Extends g
    → Runs (λ limit. then (f limit) (g limit)) input old before mid now (Err left)
Runs-left f g input old mid before now (Halted h) r a b = Runs-halted f g input old mid before now h r a
Runs-left f g input old mid before now Unwritten r a b = Runs-unwritten f g input old mid before now r b

module _ (lang : Dialect) (line : ℕ) (x : List ℕ) (d : ℤ) (body : LimitedAct) (input : List ℕ) where
  abbrev turns : ℕ → LimitedAct
  turns n limit = repeated n (turn lang limit line x d (body limit))

  Stays-turns : (n : ℕ) → Stays (turns n)
  Stays-turns n = Stays-repeated n (λ limit. turn lang limit line x d (body limit)) (Stays-counts_step lang (λ limit. then (body limit) (increases lang limit line x d)))

  Extends-turns : Extends body → (n : ℕ) → Extends (turns n)
  Extends-turns a n = record {
    adds = λ limit. Adds-repeated n (turn lang limit line x d (body limit)) (Adds-turn lang limit line x d (body limit) (a.adds limit));
    idles = Idles-repeated n (λ limit. turn lang limit line x d (body limit)) (Idles-counts_step lang (λ limit. then (body limit) (increases lang limit line x d)));
  }

  pub turn_cut : (n : ℕ) (old new : Seen) (now : Option (List ℕ)) (h : Halt) → CountsStep old new (Err h) → Runs (turns (suc n)) input old now new now (Err (Halted h))
  turn_cut n old new now h c = Runs-halted (λ limit. turn lang limit line x d (body limit)) (turns n) input old new now now h
      (Runs-cut lang (λ limit. then (body limit) (increases lang limit line x d)) input old new now h c) (Stays-turns n)

  pub turn_left : (n : ℕ) (old mid new : Seen) (before now : Option (List ℕ)) (left : Left) → Extends body → CountsStep old mid (Ok tt) → Runs body input mid before new now (Err left)
      → Runs (turns (suc n)) input old before new now (Err left)
  turn_left n old mid new before now left a c r = Runs-left (λ limit. turn lang limit line x d (body limit)) (turns n) input old new before now left
      (Runs-counts_step lang (λ limit. then (body limit) (increases lang limit line x d)) input old mid new before now (Err left) c
      (Runs-left body (λ limit. increases lang limit line x d) input mid new before now left r (Stays-evaluates line (cell_at x []) _) (Extends-increases lang line x d)))
      (Stays-turns n) (Extends-turns a n)

  pub turn_stuck : (n : ℕ) (old mid last new : Seen) (before now : Option (List ℕ)) (h : Halt) → Extends body → CountsStep old mid (Ok tt) → Runs body input mid before last now (Ok tt)
      → Runs (λ limit. increases lang limit line x d) input last now new now (Err (Halted h)) → Runs (turns (suc n)) input old before new now (Err (Halted h))
  turn_stuck n old mid last new before now h a c r i = Runs-halted (λ limit. turn lang limit line x d (body limit)) (turns n) input old new before now h
      (Runs-counts_step lang (λ limit. then (body limit) (increases lang limit line x d)) input old mid new before now (Err (Halted h)) c
      (Runs-then body (λ limit. increases lang limit line x d) input mid last before now new now (Err (Halted h)) r i))
      (Stays-turns n)

  pub turn_done : (n : ℕ) (old mid last new end : Seen) (before now after : Option (List ℕ)) (r : Result (Unit {0}) Left) → CountsStep old mid (Ok tt) → Runs body input mid before last now (Ok tt)
      → Runs (λ limit. increases lang limit line x d) input last now new now (Ok tt) → Runs (turns n) input new now end after r → Runs (turns (suc n)) input old before end after r
  turn_done n old mid last new end before now after r c b i t = Runs-then (λ limit. turn lang limit line x d (body limit)) (turns n) input old new before now end after r
      (Runs-counts_step lang (λ limit. then (body limit) (increases lang limit line x d)) input old mid new before now (Ok tt) c
      (Runs-then body (λ limit. increases lang limit line x d) input mid last before now new now (Ok tt) b i))
      t

  pub at_turn : (k n : ℕ) (old new : Seen) (before now : Option (List ℕ)) (r : Result (Unit {0}) Left) → suc n ≡ k → Runs (turns (suc n)) input old before new now r → Runs (turns k) input old before new now r
  at_turn k n old new before now r e h = subst (λ k. Runs (turns k) input old before new now r) e h

  pub no_turn : (k : ℕ) (m : Seen) (now : Option (List ℕ)) → 0 ≡ k → Runs (turns k) input m now m now (Ok tt)
  no_turn k m now e = subst (λ k. Runs (turns k) input m now m now (Ok tt)) e (Runs-nothing input m now)
