-- A loop whose variable is replaced by an expression in a counter.
use Rattle.std.proofs.Common.{◌≡◌, refl, sym, ap, ◌∙◌, ℕ, suc, ◌+◌, ℤ, pos, ◌+ℤ◌, ◌≤◌, true, false, cond, not, ◌&&◌, ◌||◌, List, [], Ok, Some, None, arith}
use Rattle.std.specs.Prelude.{IsTrue}
use Rattle.std.specs.Str.{bytes_eq}
use Rattle.std.specs.Cmp.Lexicographic.{pointwise}
use Rattle.std.specs.Ordering.{int_eq}
use Rattle.std.proofs.lemmas.Slice.Eq.{bytes_eq-Decides}
use Rattle.tree.specs.Operators.{fits}
use Rattle.tree.specs.declared.ops.Value.{Value}
use Rattle.tree.specs.declared.ops.Value.TheVariants.{Int}
use Rattle.tree.specs.Plain.{Expression, Number, Reference, Do, Block}
use Rattle.meaning.specs.Store.{Store, Cell, put, same_cell, cell_at, cell_in}
use Rattle.meaning.specs.Value.{value_of, trip_count, number_of, increment_of, subscript_values, is_in_range}
use Rattle.meaning.specs.Run.{State, Going, does, does_all}
use Rattle.rewrite.specs.Following.{IsSound, sequential}
use Rattle.rewrite.specs.MadeBlocks.{made_block}
use Rattle.rewrite.specs.Suits.{SuitsBlock}
use Rattle.rewrite.specs.Rule.{IsRule, HaveInCommon, Assigned}
use Rattle.rewrite.specs.Replacing.{Replacing, is_own, is_fixed, is_free, replacing, replacing_suits, ValueStandsFor}
use Rattle.rewrite.proofs.Acts.{Answers}
use Rattle.rewrite.proofs.Values.{joined, cell_in-named}
use Rattle.rewrite.proofs.Replacing.{both_true, not_true, either_false, bytes_eq-false, replacing_is_rule}
use Rattle.rewrite.proofs.Rewriting.{Goes-does_all}
use Rattle.pass_laws.proofs.NormalLoop.Turns.{Leads, alone, Counts}
use Rattle.pass_laws.proofs.NormalLoop.Loops.{SameTrip, IsNormalised, Leads-loops}

-- the counter w of r's variable: in turn m of a loop whose first value is a, the variable is value a m, which the expression gives
pub record IsCounter (bits : ℕ) (r : Replacing) (w : List ℕ) (d : ℤ) (value : ℤ → ℕ → ℤ) (frame : ℤ → Store → Store → Type 0) : Type 0 where
  pub own : is_own r w ≡ true
  pub first : (a : ℤ) → value a 1 ≡ a
  pub later : (a : ℤ) (m : ℕ) → value a m +ℤ d ≡ value a (suc m)
  pub scalars : (a : ℤ) (s u : Store) → frame a s u → (s.bounds r.variable ≡ Some []) × (u.bounds w ≡ Some [])
  pub changed : (a : ℤ) (c : Cell) (v : Value) (s u : Store) → is_free r c.name ≡ true → frame a s u → frame a (put c v s) (put c v u)
  pub turned : (a : ℤ) (x y : Value) (s u : Store) → frame a s u → frame a (put (alone bits r.variable) x s) (put (alone bits w) y u)
  pub by_value : (a : ℤ) (m : ℕ) (s u : Store) → frame a s u → is_in_range bits (Int (pos m)) ≡ true → u.held (alone bits w) ≡ Int (pos m) → value_of (sequential bits) r.by u ≡ Ok (Int (value a m))

-- turn m begins, or is in its body
pub record On (bits : ℕ) (r : Replacing) (w : List ℕ) (value : ℤ → ℕ → ℤ) (frame : ℤ → Store → Store → Type 0) (a : ℤ) (m : ℕ) (s u : Store) : Type 0 where
  pub bounds : (x : List ℕ) → is_own r x ≡ false → s.bounds x ≡ u.bounds x
  pub held : (c : Cell) → is_own r c.name ≡ false → s.held c ≡ u.held c
  pub variable : s.held (alone bits r.variable) ≡ Int (value a m)
  pub counter : u.held (alone bits w) ≡ Int (pos m)
  pub small : is_in_range bits (Int (pos m)) ≡ true
  pub kept : frame a s u

-- before the loops
pub record Starts (bits : ℕ) (r : Replacing) (first : Expression) (frame : ℤ → Store → Store → Type 0) (before : Store → Store → Type 0) (s u : Store) : Type 0 where
  pub at : before s u
  pub bounds : (x : List ℕ) → is_own r x ≡ false → s.bounds x ≡ u.bounds x
  pub held : (c : Cell) → is_own r c.name ≡ false → s.held c ≡ u.held c
  pub scalar : s.bounds r.variable ≡ Some []
  pub kept : (a : ℤ) → number_of (sequential bits) first s ≡ Ok a → frame a s u

module _ (bits : ℕ) (r : Replacing) (w : List ℕ) (d : ℤ) (value : ℤ → ℕ → ℤ) (frame : ℤ → Store → Store → Type 0) (counter : IsCounter bits r w d value frame) where
  abbrev Turn : ℤ → ℕ → Store → Store → Type 0
  Turn = On bits r w value frame

  stands : (a : ℤ) (m : ℕ) (s u : Store) → Turn a m s u → ValueStandsFor r bits s u
  stands a m s u o = record {
    bounds = o.bounds;
    held = o.held;
    scalar = (counter.scalars a s u o.kept).0;
    value = counter.by_value a m s u o.kept o.small o.counter ∙ ap Ok (sym o.variable);
  }

  not_counter : (x : List ℕ) → is_own r x ≡ false → bytes_eq x w ≡ false
  not_counter x h = bytes_eq-false x w (λ e. let t = ap (is_own r) e ∙ counter.own in let q : false ≡ true = sym h ∙ t in cc)

  changed : (a : ℤ) (m : ℕ) (c : Cell) (v : Value) (s u : Store) → is_free r c.name ≡ true → Turn a m s u → Turn a m (put c v s) (put c v u)
  changed a m c v s u h o =
      let own = not_true (is_own r c.name) (both_true (not (is_own r c.name)) (not (is_fixed r c.name)) h).0 in
      let apart = (either_false (bytes_eq c.name r.variable) (r.news c.name) own).0 in
      record {
        bounds = o.bounds;
        held = λ e k. ap (cond (same_cell c e) v) (o.held e k);
        variable = ap (λ b. cond (b && pointwise int_eq c.subscripts []) v (s.held (alone bits r.variable))) apart ∙ o.variable;
        counter = ap (λ b. cond (b && pointwise int_eq c.subscripts []) v (u.held (alone bits w))) (not_counter c.name own) ∙ o.counter;
        small = o.small;
        kept = counter.changed a c v s u h o.kept;
      }

  assigned : (a : ℤ) (m : ℕ) (l : Reference) (s u : Store) (is : List ℤ) (c : Cell) → IsTrue (is_free r l.name) → Turn a m s u
      → subscript_values (sequential bits) l.subscripts u ≡ Ok is → cell_at l.name is s ≡ Ok c → Assigned (sequential bits) (Turn a m) s u c l
  assigned a m l s u is c h o e g =
      let own = not_true (is_own r l.name) (both_true (not (is_own r l.name)) (not (is_fixed r l.name)) h).0 in
      let name = cell_in-named (s.bounds l.name) l.name is c g in
      record {
        cell = c;
        named = joined (subscript_values (sequential bits) l.subscripts u) (λ is. cell_at l.name is u) is c e (ap (λ b. cell_in b l.name is) (sym (o.bounds l.name own)) ∙ g);
        put = λ v q. changed a m c v s u (ap (is_free r) name ∙ h) o;
      }

  variable : (a : ℤ) (m : ℕ) (x : List ℕ) (s u : Store) → IsTrue (is_free r x) → Turn a m s u → HaveInCommon (sequential bits) (Turn a m) s u x
  variable a m x s u h o =
      let own = not_true (is_own r x) (both_true (not (is_own r x)) (not (is_fixed r x)) h).0 in
      record {
        bounds = o.bounds x own;
        held = λ c e. o.held c (ap (is_own r) e ∙ own);
        put = λ c v e q. changed a m c v s u (ap (is_free r) e ∙ h) o;
      }

  pub turn_is_rule : (a : ℤ) (m : ℕ) → IsRule (sequential bits) (replacing r) (replacing_suits r) (Turn a m)
  turn_is_rule a m =
      let rule = replacing_is_rule r bits in
      record {
        value = λ f e s u v h o k. rule.value f e s u v h (stands a m s u o) k;
        printed = λ x s u vs h o k. rule.printed x s u vs h (stands a m s u o) k;
        assigned = assigned a m;
        variable = variable a m;
      }

  -- ---- the next turn

  same_name : (x : List ℕ) → bytes_eq x x ≡ true
  same_name x = (bytes_eq-Decides x x).1 refl

  put_own : (x : List ℕ) (y : Value) (s : Store) → (put (alone bits x) y s).held (alone bits x) ≡ y
  put_own x y s = ap (λ b. cond (b && true) y (s.held (alone bits x))) (same_name x)

  put_other : (x : List ℕ) (y : Value) (s : Store) (c : Cell) → is_own r x ≡ true → is_own r c.name ≡ false → (put (alone bits x) y s).held c ≡ s.held c
  put_other x y s c h k =
      let apart = bytes_eq-false x c.name (λ e. let t = sym h ∙ (ap (is_own r) e ∙ k) in let q : true ≡ false = t in cc) in
      ap (λ b. cond (b && pointwise int_eq [] c.subscripts) y (s.held c)) apart

  own_variable : is_own r r.variable ≡ true
  own_variable = ap (λ b. b || r.news r.variable) (same_name r.variable)

  moved : (a : ℤ) (m : ℕ) (z : ℤ) (s u : Store) → ((x : List ℕ) → is_own r x ≡ false → s.bounds x ≡ u.bounds x) → ((c : Cell) → is_own r c.name ≡ false → s.held c ≡ u.held c)
      → frame a s u → is_in_range bits (Int (pos m)) ≡ true → z ≡ value a m → Turn a m (put (alone bits r.variable) (Int z) s) (put (alone bits w) (Int (pos m)) u)
  moved a m z s u bounds held kept small e = record {
    bounds = bounds;
    held = λ c k. put_other r.variable (Int z) s c own_variable k ∙ (held c k ∙ sym (put_other w (Int (pos m)) u c counter.own k));
    variable = put_own r.variable (Int z) s ∙ ap Int e;
    counter = put_own w (Int (pos m)) u;
    small = small;
    kept = counter.turned a (Int z) (Int (pos m)) s u kept;
  }

  counts : (a : ℤ) → Counts bits r.variable w d (value a) (Turn a)
  counts a = record {
    later = counter.later a;
    scalars = λ m s u o. counter.scalars a s u o.kept;
    variable = λ m s u o. o.variable;
    counter = λ m s u o. o.counter;
    next = λ m s u o fit q. moved a (suc m) (value a (suc m)) s u o.bounds o.held o.kept fit refl;
  }

  -- ---- the loops

  -- after them, where something is known of the first and the last value, the turn behind the last one would be next
  pub record Ends (Known : ℤ → ℤ → Type 0) (s u : Store) : Type 0 where
    pub first : ℤ
    pub last : ℤ
    pub turns : ℕ
    pub known : Known first last
    pub count : trip_count first last d ≡ Ok turns
    pub on : Turn first (1 + turns) s u

  module _ (first last third many : Expression) (body : Block) (before : Store → Store → Type 0) (Known : ℤ → ℤ → Type 0)
      (trip : (s u : Store) → Starts bits r first frame before s u → (a b : ℤ) → number_of (sequential bits) first s ≡ Ok a → number_of (sequential bits) last s ≡ Ok b
      → Answers (Starts bits r first frame before) (SameTrip bits r.variable w first last third many d Known a) (number_of (sequential bits) many u) b)
      (step : (s u : Store) → Starts bits r first frame before s u → (z : ℤ) → increment_of (sequential bits) third s ≡ Ok z → z ≡ d)
      (opened : (s u : Store) → Starts bits r first frame before s u → u.bounds w ≡ Some [])
      (suits : SuitsBlock (replacing r) (replacing_suits r) body)
      (stays : (s : State) → s.way ≡ Going → IsSound (does_all (sequential bits) None body s).way → (does_all (sequential bits) None body s).way ≡ Going)
      (fit : (k : ℕ) → k ≤ 2147483647 → (fits 127 (pos k) ≡ true) × (is_in_range bits (Int (pos k)) ≡ true)) where
    normal : IsNormalised bits r.variable w first last third many d Known (Starts bits r first frame before) (Ends Known) value Turn
    normal = record {
      trip = trip;
      step = step;
      scalars = λ s u k. (k.scalar, opened s u k);
      begins = λ s u k a e q. moved a 1 a s u k.bounds k.held (k.kept a e) (fit 1 (omega arith)).1 (sym (counter.first a));
      counts = counts;
      ends = λ a b n known is s u o. record { first = a; last = b; turns = n; known = known; count = is; on = o };
    }

    leads : (a : ℤ) (m : ℕ) → Leads (Turn a m) (Turn a m) (does_all (sequential bits) None body) (does_all (sequential bits) None (made_block (replacing r) body))
    leads a m = record {
      at = λ s u n i o e.
          let f = (Goes-does_all bits (replacing r) (replacing_suits r) (Turn a m) (turn_is_rule a m) body suits).at s u n o e in
          record { stores = f.stores; rest = f.rest; going = stays s i e };
    }

    -- the loop, and the loop from 1 by 1 with the variable replaced in its body
    pub loop_is_normalised : (line line' : ℕ) → Leads (Starts bits r first frame before) (Ends Known)
        (does (sequential bits) None (Do line r.variable first last third body)) (does (sequential bits) None (Do line' w (Number (pos 1)) many (Number (pos 1)) (made_block (replacing r) body)))
    loop_is_normalised line line' = Leads-loops bits r.variable w first last third many d Known (Starts bits r first frame before) (Ends Known) value Turn normal fit line line'
        (does_all (sequential bits) None body) (does_all (sequential bits) None (made_block (replacing r) body)) leads
