-- What is done with no step left.
use Rattle.std.proofs.Common.{◌≡◌, refl, sym, subst, zero, suc, ℕ, ℤ, Bool, true, false, cond, List, [], ◌∷◌, ◌++◌}
use Rattle.std.proofs.Common.{Result, Ok, Err, Option, Some, None, append-nil, arith, ◌+ℤ◌, ◌+◌}
use Rattle.std.specs.Prelude.{nat_lt}
use Rattle.std.proofs.lemmas.Bool.{false_from_ne_true}
use Rattle.std.proofs.lemmas.Bool.Decides.{Decides-ltb}
use Rattle.tree.specs.Steps as results
use Rattle.tree.specs.Operators.{as_number}
use Rattle.tree.specs.Plain.{Expression, Single, Constant, ImpliedDo, Item, Items, no_items, item}
use Rattle.tree.specs.declared.ops.Value.TheVariants.{Int}
use Rattle.tree.specs.declared.ops.Fault.{Fault}
use Rattle.tree.specs.declared.ops.Fault.TheVariants.{Overflow, Bounds}
use Rattle.meaning.specs.Dialect.{Dialect}
use Rattle.meaning.specs.Store.{Store, Cell, put, cell_at, cell_in, is_within}
use Rattle.meaning.specs.Texts.{output_text}
use Rattle.meaning.specs.Value.{exact, is_in_range, item_values, number_of, increment_of, trip_count}
use Rattle.meaning.specs.Run.{State, Act, Way, Going, Jumping, Stopped, Failed, Cut, nothing, then, either, goes, on_way}
use Rattle.meaning.specs.Run.{while_going, answered, evaluates, writes, stores, counts_step, checks_range}
use Rattle.meaning.specs.Run.{repeated, turn, increases, sets_variable, loops, prints_item, prints_items}
use Rattle.machine.specs.Acts.{LimitedAct}
use Rattle.machine.proofs.ActLaws.{Idle, Idles, idle_twice}

idle_same : (s : State) → Idle s s
idle_same s = record { steps = refl; set = []; store = refl; more = []; text = sym (append-nil s.written) }

pub idle_goes : (w : Way) (s : State) → Idle s (goes w s)
idle_goes w s = record { steps = refl; set = []; store = refl; more = []; text = sym (append-nil s.written) }

pub Idles-nothing : Idles (λ limit. nothing)
Idles-nothing s = idle_same s

idle_on_way : (w : Way) (f : Act) (s : State) → Idle s (f s) → Idle s (on_way w f s)
idle_on_way Going f s h = h
idle_on_way (Jumping n) f s h = idle_same s
idle_on_way Stopped f s h = idle_same s
idle_on_way (Failed q line) f s h = idle_same s
idle_on_way Cut f s h = idle_same s

idle_going : (f : Act) (s : State) → Idle s (f s) → Idle s (while_going f s)
unfolding while_going
idle_going f s h = idle_on_way s.way f s h

pub Idles-then : (f g : LimitedAct) → Idles f → Idles g → Idles (λ limit. then (f limit) (g limit))
Idles-then f g h k s =
    let t = f (Some s.steps) s in
    let i = h s in
    idle_twice s t (g (Some s.steps) t) i (subst (λ n. Idle t (g (Some n) t)) i.steps (k t))

pub Idles-either : (b : Bool) (f g : LimitedAct) → Idles f → Idles g → Idles (λ limit. either b (f limit) (g limit))
Idles-either true f g h k = h
Idles-either false f g h k = k

pub Idles-repeated : (n : ℕ) (f : LimitedAct) → Idles f → Idles (λ limit. repeated n (f limit))
Idles-repeated zero f h s = idle_same s
Idles-repeated (suc n) f h s = Idles-then f (λ limit. repeated n (f limit)) h (Idles-repeated n f h) s

not_below : (n : ℕ) → nat_lt n n ≡ false
not_below n = false_from_ne_true (nat_lt n n) (λ t. let l = (Decides-ltb n n).0 t in omega arith)

-- no step is allowed
pub Idles-counts_step : (lang : Dialect) (act : LimitedAct) → Idles (λ limit. counts_step lang limit (act limit))
unfolding counts_step
Idles-counts_step lang act s = idle_going _ s
    (subst (λ b. Idle s (either b (λ t. act (Some s.steps) (record t { steps = t.steps + 1 })) (goes Cut) s)) (sym (not_below s.steps)) (idle_goes Cut s))

pub Idles-writes : (t : List ℕ) → Idles (λ limit. writes t)
unfolding writes
Idles-writes t s = idle_going (λ s. record s { written = s.written ++ t }) s (record { steps = refl; set = []; store = refl; more = t; text = refl })

pub Idles-evaluates : {A : Type 0} (line : ℕ) (f : Store → Result A Fault) (k : A → LimitedAct) → ((x : A) → Idles (k x))
    → Idles (λ limit. evaluates line f (λ x. k x limit))
unfolding evaluates
Idles-evaluates line f k h s = idle_going (λ t. answered line (f t.store) (λ x. k x (Some s.steps)) t) s (by (f s.store))
  where
    by : (q : Result _ Fault) → Idle s (answered line q (λ x. k x (Some s.steps)) s)
    by (Ok x) = h x s
    by (Err q) = idle_goes (Failed q line) s

-- ---- variables of loops

idle_stores : (x : List ℕ) (z : ℤ) (s : State) → Idle s (stores (record { name = x; subscripts = [] }) (Int z) s)
unfolding stores
idle_stores x z s = idle_going (λ s. record s { store = put (record { name = x; subscripts = [] }) (Int z) s.store }) s
    (record { steps = refl; set = (x, z) ∷ []; store = refl; more = []; text = sym (append-nil s.written) })

that_cell : (b : Option (List (ℤ × ℤ))) (x : List ℕ) (c : Cell) → cell_in b x [] ≡ Ok c → c ≡ record { name = x; subscripts = [] }
that_cell None x c e = cc
that_cell (Some bs) x c e = by (is_within bs []) e
  where
    by : (t : Bool) → ◌≡◌ {A = Result Cell Fault} (cond t (Ok (record { name = x; subscripts = [] })) (Err Bounds)) (Ok c) → c ≡ record { name = x; subscripts = [] }
    by true e = cc
    by false e = cc

pub Idles-sets_variable : (lang : Dialect) (line : ℕ) (x : List ℕ) (z : ℤ) → Idles (λ limit. sets_variable lang limit line x z)
unfolding evaluates checks_range
Idles-sets_variable lang line x z s = idle_going (λ t. answered line (cell_at x [] t.store) (λ c. checks_range lang (Some s.steps) line (Int z) (stores c (Int z))) t) s (by (cell_at x [] s.store) refl)
  where
    range : (b : Bool) → Idle s (either b (stores (record { name = x; subscripts = [] }) (Int z)) (goes (Failed Overflow line)) s)
    range true = idle_stores x z s
    range false = idle_goes (Failed Overflow line) s

    by : (q : Result Cell Fault) → cell_at x [] s.store ≡ q → Idle s (answered line q (λ c. checks_range lang (Some s.steps) line (Int z) (stores c (Int z))) s)
    by (Ok c) e = subst (λ c. Idle s (checks_range lang (Some s.steps) line (Int z) (stores c (Int z)) s)) (sym (that_cell (s.store.bounds x) x c e))
        (idle_going _ s (range (is_in_range lang.bits (Int z))))
    by (Err q) e = idle_goes (Failed q line) s

pub Idles-increases : (lang : Dialect) (line : ℕ) (x : List ℕ) (d : ℤ) → Idles (λ limit. increases lang limit line x d)
Idles-increases lang line x d =
    let sum : Cell → Store → Result ℤ Fault = λ c s. results.◌>>=◌ (as_number (s.held c)) λ z. exact (z +ℤ d) in
    Idles-evaluates line (cell_at x []) (λ c limit. evaluates line (sum c) (sets_variable lang limit line x))
    (λ c. Idles-evaluates line (sum c) (λ z limit. sets_variable lang limit line x z) (Idles-sets_variable lang line x))

module _ (lang : Dialect) (line : ℕ) (x : List ℕ) (a b c : Expression) (f : LimitedAct) where
  abbrev all_turns : ℤ → ℤ → ℤ → LimitedAct
  all_turns m1 m2 m3 limit = evaluates line (λ s. trip_count m1 m2 m3) (λ n. repeated n (turn lang limit line x m3 (f limit)))

  abbrev from_first : ℤ → ℤ → ℤ → LimitedAct
  from_first m1 m2 m3 limit = then (sets_variable lang limit line x m1) (all_turns m1 m2 m3 limit)

  abbrev with_step : ℤ → ℤ → LimitedAct
  with_step m1 m2 limit = evaluates line (increment_of lang c) (λ m3. from_first m1 m2 m3 limit)

  abbrev with_last : ℤ → LimitedAct
  with_last m1 limit = evaluates line (number_of lang b) (λ m2. with_step m1 m2 limit)

  pub Idles-loops : Idles (λ limit. loops lang limit line x a b c (f limit))
  Idles-loops =
      Idles-evaluates line (number_of lang a) with_last (λ m1. Idles-evaluates line (number_of lang b) (with_step m1)
      (λ m2. Idles-evaluates line (increment_of lang c) (from_first m1 m2) (λ m3.
      Idles-then (λ limit. sets_variable lang limit line x m1) (all_turns m1 m2 m3) (Idles-sets_variable lang line x m1)
      (Idles-evaluates line (λ s. trip_count m1 m2 m3) (λ n limit. repeated n (turn lang limit line x m3 (f limit)))
      (λ n. Idles-repeated n (λ limit. turn lang limit line x m3 (f limit)) (Idles-counts_step lang (λ limit. then (f limit) (increases lang limit line x m3))))))))

mutual
  Idles-prints_item : (lang : Dialect) (i : Item) (line : ℕ) → Idles (λ limit. prints_item lang limit i line)
  Idles-prints_item lang (Single e) line = Idles-evaluates line (item_values lang e) (λ vs limit. writes (output_text vs)) (λ vs. Idles-writes (output_text vs))
  Idles-prints_item lang (Constant t) line = Idles-writes t
  Idles-prints_item lang (ImpliedDo is x a b c) line = Idles-loops lang line x a b c (λ limit. prints_items lang limit is line)

  pub Idles-prints_items : (lang : Dialect) (is : Items) (line : ℕ) → Idles (λ limit. prints_items lang limit is line)
  Idles-prints_items lang no_items line = Idles-nothing
  Idles-prints_items lang (item i is) line = Idles-then (λ limit. prints_item lang limit i line) (λ limit. prints_items lang limit is line)
      (Idles-prints_item lang i line) (Idles-prints_items lang is line)
