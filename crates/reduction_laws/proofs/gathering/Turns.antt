-- The turns of a loop that gathers.
use Rattle.std.proofs.Common.{◌≡◌, refl, sym, ap, ap₂, ◌∙◌, subst, ℕ, zero, suc, ◌+◌, ℤ, pos, ◌+ℤ◌, Bool, true, false, ◌&&◌, not, cond, List, [], ◌∷◌, length, Ok, Option, None, arith}
use Rattle.tree.specs.Operators.{fits, as_number}
use Rattle.tree.specs.Plain.{Assignment, no_statements, statement}
use Rattle.tree.specs.declared.ops.Value.{Value}
use Rattle.tree.specs.declared.ops.Value.TheVariants.{Int}
use Rattle.tree.specs.declared.ops.Fault.{Fault}
use Rattle.meaning.specs.Dialect.{Dialect}
use Rattle.meaning.specs.Reads.{names_in}
use Rattle.meaning.specs.Run.{State, Going, Act, does_all, repeated, turn}
use Rattle.meaning.specs.Store.{Store, Cell, put, same_cell, cell_at}
use Rattle.meaning.specs.Value.{value_of, cell_named, named, is_array, is_scalar, is_in_range, bound_to}
use Rattle.meaning.proofs.Exchanges.{unread, same_cell-same}
use Rattle.nest_order.specs.orders.Lists.{In}
use Rattle.nest_order.specs.runs.Guarded.{variable_cell}
use Rattle.nest_order.proofs.runs.Results.{ok_same}
use Rattle.nest_order.proofs.runs.Variables.{put_there, cell_name}
use Rattle.reductions.specs.Gathering.{Loop, Lines, in_turn}
use Rattle.reduction_laws.specs.gathering.Gathering.{IsReducible}
use Rattle.reduction_laws.proofs.gathering.Ending.{assigned, turned}
use Rattle.reduction_laws.proofs.gathering.Numbers.{step, AllFit, total}
use Rattle.reduction_laws.proofs.gathering.Values.{made, in_turn_gives, ValuesFrom, value_same, place_same, named_value, one_more}

-- an act that goes on has begun while going
pub turn_from : (lang : Dialect) (line : ℕ) (x : List ℕ) (body : Act) (s : State) → (turn lang None line x (pos 1) body s).way ≡ Going → s.way ≡ Going
turn_from lang line x body s w = (turned lang line x body s w).from

pub turns_from : (lang : Dialect) (line n : ℕ) (x : List ℕ) (body : Act) (s : State) → (repeated n (turn lang None line x (pos 1) body) s).way ≡ Going → s.way ≡ Going
turns_from lang line zero x body s w = w
turns_from lang line (suc n) x body s w = turn_from lang line x body s (turns_from lang line n x body (turn lang None line x (pos 1) body s) w)

pub no_array : (a b : Bool) → b ≡ true → (a && not b) ≡ false
no_array true b e = ap not e
no_array false b e = refl

-- the one cell of a name without subscripts
pub scalar_cell : (b : Option (List (ℤ × ℤ))) (x : List ℕ) (c : Cell) → Rattle.meaning.specs.Store.cell_in b x [] ≡ Ok c → c ≡ variable_cell x
scalar_cell b x c e = let h = cell_name b x [] c e in λ i. record { name = h.0 i; subscripts = sym h.1 i }

pub int_same : (a b : ℤ) → Int a ≡ Int b → a ≡ b
int_same a b e = cc

number_of_int : (v : Value) (k n : ℤ) → v ≡ Int k → as_number v ≡ Ok n → n ≡ k
number_of_int v k n e f = sym (ok_same {F = Fault} k n (sym (ap as_number e) ∙ f))

module _ (lang : Dialect) (l : Loop) (y : Lines) (ok : IsReducible l) (s : Store) (c : Cell) (scalar : is_scalar (named l.left) s.bounds ≡ true) (name : c.name ≡ l.left.name) (there : cell_named lang l.left s ≡ Ok c) where
  abbrev pub var : Cell
  var = variable_cell l.variable

  apart : ¬ (c ≡ variable_cell l.variable)
  apart e = ok.apart (ap (λ (d : Cell). d.name) (sym e) ∙ name)

  -- x holds this, the variable is at k, and all else is as it was
  pub record At (k : ℕ) (h : Value) (u : Store) : Type 0 where
    pub bounds : u.bounds ≡ s.bounds
    pub held : (d : Cell) → ¬ (d ≡ c) → ¬ (d ≡ variable_cell l.variable) → u.held d ≡ s.held d
    pub gathered : u.held c ≡ h
    pub turn : u.held (variable_cell l.variable) ≡ Int (pos k)

  other : (d : Cell) → ¬ (d.name ≡ l.left.name) → ¬ (d ≡ c)
  other d h e = h (ap (λ (z : Cell). z.name) e ∙ name)

  -- in such a store x is in the same cell
  pub left_there : (k : ℕ) (h : Value) (u : Store) → At k h u → cell_named lang l.left u ≡ Ok c
  left_there k h u a = place_same lang l.left u s (record {
    bounds = λ z. ap (λ (f : List ℕ → Option (List (ℤ × ℤ))). f z) a.bounds;
    held = λ d i. (let p = ok.subscripts d.name i in a.held d (other d p.0) (λ e. p.1 (ap (λ (z : Cell). z.name) e)));
  }) ∙ there

  -- and e has the value that it has under the list's loop
  pub operand_there : (k : ℕ) (h : Value) (u : Store) → At k h u → value_of lang l.operand u ≡ value_of lang l.operand (bound_to l.variable (pos k) s)
  operand_there k h u a = value_same lang l.operand u (bound_to l.variable (pos k) s) (record {
    bounds = λ z. ap (λ (f : List ℕ → Option (List (ℤ × ℤ))). f z) a.bounds;
    held = λ d i. by d (λ e. ok.operand (subst (λ z. In z (names_in l.operand)) e i)) (same_cell (variable_cell l.variable) d) refl;
  })
    where
      by : (d : Cell) → ¬ (d.name ≡ l.left.name) → (b : Bool) → same_cell (variable_cell l.variable) d ≡ b → u.held d ≡ cond b (Int (pos k)) (s.held d)
      by d n true e = ap u.held (sym (same_cell-same (variable_cell l.variable) d e)) ∙ a.turn
      by d n false e = a.held d (other d n) (λ f. no (sym (Rattle.meaning.proofs.Exchanges.same_cell-refl (variable_cell l.variable)) ∙ (ap (same_cell (variable_cell l.variable)) (sym f) ∙ e)))
        where
          no : true ≡ false → ⊥
          no e = cc

  abbrev pub body : Act
  body = does_all lang None (statement (Assignment y.line y.mark l.left (in_turn l.how (named l.left) l.operand)) no_statements)

  abbrev pub one : Act
  one = turn lang None y.loop_line l.variable (pos 1) body

  -- one turn
  pub record Turning (k : ℕ) (h : Value) (u : State) : Type 0 where
    pub before : ℤ
    pub operand : ℤ
    pub was : h ≡ Int before
    pub value : value_of lang l.operand (bound_to l.variable (pos k) s) ≡ Ok (Int operand)
    pub range : fits lang.bits (step l.how before operand) ≡ true
    pub next : fits lang.bits (pos (suc k)) ≡ true
    pub at : At (suc k) (Int (step l.how before operand)) (one u).store

  pub turning : (k : ℕ) (h : Value) (u : State) → At k h u.store → (one u).way ≡ Going → Turning k h u
  turning k h u a w =
      let t = turned lang y.loop_line l.variable body u w in
      let u1 : State = record u { steps = u.steps + 1 } in
      let no : is_array lang (named l.left) u.store ≡ false = no_array lang.arrays (is_scalar (named l.left) u.store.bounds) (ap (is_scalar (named l.left)) a.bounds ∙ scalar) in
      let b = assigned lang y.line y.mark l.left (in_turn l.how (named l.left) l.operand) u1 no t.within in
      let here = left_there k h u.store a in
      let cell : b.cell ≡ c = ok_same {F = Fault} b.cell c (sym b.place ∙ here) in
      let mine : value_of lang (named l.left) u.store ≡ Ok h = named_value lang l.left u.store c here ∙ ap Ok a.gathered in
      let g = in_turn_gives lang (named l.left) l.operand u.store h b.value mine l.how b.gives in
      let m = made l.how h g.0 b.value g.2 in
      let after : (body u1).store ≡ put c (Int (step l.how m.before m.operand)) u.store = b.store ∙ ap₂ (λ d v. put d v u.store) cell m.is in
      let vc : t.cell ≡ variable_cell l.variable = scalar_cell ((body u1).store.bounds l.variable) l.variable t.cell t.place in
      let held_k : (body u1).store.held t.cell ≡ Int (pos k)
      = ap ((body u1).store.held) vc ∙ (ap (λ (z : Store). z.held (variable_cell l.variable)) after ∙ (sym (unread c (variable_cell l.variable) (Int (step l.how m.before m.operand)) u.store apart) ∙ a.turn)) in
      let n : t.number +ℤ pos 1 ≡ pos (suc k) = ap (λ z. z +ℤ pos 1) (number_of_int ((body u1).store.held t.cell) (pos k) t.number held_k t.gives) ∙ one_more k in
      let last : (one u).store ≡ put (variable_cell l.variable) (Int (pos (suc k))) (put c (Int (step l.how m.before m.operand)) u.store)
      = ap (λ (z : State). z.store) t.is ∙ (ap₂ (λ d z. put d (Int z) (body u1).store) vc n ∙ ap (put (variable_cell l.variable) (Int (pos (suc k)))) after) in
      record {
        before = m.before;
        operand = m.operand;
        was = m.was;
        value = sym (operand_there k h u.store a) ∙ (g.1 ∙ ap Ok m.value);
        range = ap (is_in_range lang.bits) (sym m.is) ∙ b.range;
        next = ap (fits lang.bits) (sym n) ∙ t.range;
        at = subst (At (suc k) (Int (step l.how m.before m.operand))) (sym last) (moved (Int (step l.how m.before m.operand)));
      }
    where
      moved : (v : Value) → At (suc k) v (put (variable_cell l.variable) (Int (pos (suc k))) (put c v u.store))
      moved v = record {
        bounds = a.bounds;
        held = λ d p q. sym (unread (variable_cell l.variable) d (Int (pos (suc k))) (put c v u.store) (λ e. q (sym e))) ∙ (sym (unread c d v u.store (λ e. p (sym e))) ∙ a.held d p q);
        gathered = sym (unread (variable_cell l.variable) c (Int (pos (suc k))) (put c v u.store) (λ e. apart (sym e))) ∙ put_there c v u.store;
        turn = put_there (variable_cell l.variable) (Int (pos (suc k))) (put c v u.store);
      }

  -- all turns
  pub record AllTurned (n k : ℕ) (a : ℤ) (u : State) : Type 0 where
    pub values : List ℤ
    pub count : length values ≡ n
    pub are : ValuesFrom lang l.variable l.operand s k values
    pub fit : AllFit lang.bits l.how a values
    pub at : At (k + n) (Int (total l.how a values)) u.store

  pub all_turned : (n k : ℕ) (a : ℤ) (u : State) → fits lang.bits (pos k) ≡ true → At k (Int a) u.store → (repeated n one u).way ≡ Going → AllTurned n k a (repeated n one u)
  all_turned zero k a u r h w = record { values = []; count = refl; are = tt; fit = tt; at = subst (λ j. At j (Int a) u.store) (let q : k ≡ k + 0 = omega arith in q) h }
  all_turned (suc n) k a u r h w =
      let t = turning k (Int a) u h (turns_from lang y.loop_line n l.variable body (one u) w) in
      let same : t.before ≡ a = int_same t.before a (sym t.was) in
      let st = ap (λ b. step l.how b t.operand) same in
      let rest = all_turned n (suc k) (step l.how a t.operand) (one u) t.next (subst (λ z. At (suc k) (Int z) (one u).store) st t.at) w in
      record {
        values = t.operand ∷ rest.values;
        count = ap suc rest.count;
        are = (r, t.value, rest.are);
        fit = (ap (fits lang.bits) (sym st) ∙ t.range, rest.fit);
        at = subst (λ j. At j (Int (total l.how (step l.how a t.operand) rest.values)) (repeated n one (one u)).store) (let q : suc k + n ≡ k + suc n = omega arith in q) rest.at;
      }
