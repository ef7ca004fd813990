-- A loop that gathers does what one statement does.
use Rattle.std.proofs.Common.{◌≡◌, refl, sym, ap, ◌∙◌, subst, ℕ, zero, suc, ◌+◌, ◌≤◌, ℤ, pos, negsuc, ◌+ℤ◌, ◌-ℤ◌, Bool, true, false, cond, List, [], ◌∷◌, map, length, Result, Ok, Option, None, arith}
use Rattle.std.specs.Prelude.{int_le}
use Rattle.std.proofs.Math.IntN.{ -ℤ-+ℤ_cancel}
use Rattle.tree.specs.Steps.{◌>>=◌}
use Rattle.tree.specs.Operators.{fits, as_number, as_truth, apply}
use Rattle.tree.specs.Plain.{Expression, Number, Binary, Reference, Assignment, If, no_arms, arm, Block, no_statements, statement, Statement}
use Rattle.tree.specs.declared.ops.Op.TheVariants.{Ge}
use Rattle.tree.specs.declared.ops.Value.{Value}
use Rattle.tree.specs.declared.ops.Value.TheVariants.{Int, Truth}
use Rattle.tree.specs.declared.ops.Fault.{Fault}
use Rattle.tree.specs.declared.stmts.Mark.{Mark}
use Rattle.meaning.specs.ArrayValues.{settled}
use Rattle.meaning.specs.Dialect.{Dialect}
use Rattle.meaning.specs.Ranges.{HoldsInRange}
use Rattle.meaning.specs.Reads.{names_in_subscripts}
use Rattle.meaning.specs.Run.{State, Going, Act, does, does_all, repeated, turn, either, nothing, while_going, evaluates, counts_step, stores, checks_range}
use Rattle.meaning.specs.Sections.{not_negative}
use Rattle.meaning.specs.Store.{Store, Cell, put, same_cell, cell_at}
use Rattle.meaning.specs.Value.{value_of, number_of, truth_of, array_of, subscript_values, cell_named, named, is_array, is_scalar, is_in_range, bound_to}
use Rattle.meaning.proofs.Exchanges.{unread, same_cell-same, same_cell-refl}
use Rattle.meaning.proofs.Fitting.{values_fit}
use Rattle.nest_order.specs.runs.Guarded.{variable_cell}
use Rattle.nest_order.specs.runs.Quiet.{SameLines}
use Rattle.nest_order.proofs.runs.Quieting.{quiet_statements_keep_lines}
use Rattle.nest_order.proofs.runs.Results.{both_ok, ok_same}
use Rattle.nest_order.proofs.runs.Variables.{put_there, cell_name}
use Rattle.reductions.specs.Gathering.{Loop, Lines, in_turn, of_all, listed, loop_of, form_of, tested}
use Rattle.reduction_laws.specs.gathering.Gathering.{IsReducible, MayStart, GoesOnBut, GatheringIsForm, GatheringIsPlainForm}
use Rattle.reduction_laws.proofs.gathering.Ending.{assigned, turned, looped, turns_to}
use Rattle.reduction_laws.proofs.gathering.Numbers.{step, AllFit, EachFits, total, total_fits, wider, reduces, red_of}
use Rattle.reduction_laws.proofs.gathering.Values.{ValuesFrom, SameFor, place_same, named_value, of_all_gives, reduce_known, listed_gives}
use Rattle.reduction_laws.proofs.gathering.Turns.{At, turning, all_turned, no_array, scalar_cell, turns_from}

abbrev moved : State → ℕ → Store → State
moved s k t = record s { store = t; steps = k; way = Going }

assigns_at : (lang : Dialect) (line : ℕ) (m : Option Mark) (r : Reference) (e : Expression) (s : State) (c : Cell) (v : Value) → s.way ≡ Going
    → is_array lang (named r) s.store ≡ false → value_of lang e s.store ≡ Ok v → cell_named lang r s.store ≡ Ok c → is_in_range lang.bits v ≡ true
    → does lang None (Assignment line m r e) s ≡ moved s (s.steps + 1 + 1) (put c v s.store)
unfolding while_going evaluates counts_step stores checks_range
assigns_at lang line m r e s c v w n f g h = rw (w, n, f, g, h) refl

chooses_at : (lang : Dialect) (line : ℕ) (test : Expression) (body : Block) (s : State) (b : Bool) → s.way ≡ Going → truth_of lang test s.store ≡ Ok b
    → does lang None (If line (arm test body no_arms) no_statements) s ≡ either b (does_all lang None body) nothing (moved s (s.steps + 1) s.store)
unfolding while_going evaluates counts_step
chooses_at lang line test body s b w f = rw (w, f) refl

-- what the test of the trip gives
test_gives : (lang : Dialect) (t : Expression) (s : Store) (top : ℤ) → number_of lang t s ≡ Ok top → truth_of lang (Binary Ge t (Number (pos 1))) s ≡ Ok (int_le (pos 1) top)
test_gives lang t s top e =
    let p = both_ok (value_of lang t s) as_number top e in
    by p.0 p.1 p.2
  where
    by : (v : Value) → value_of lang t s ≡ Ok v → as_number v ≡ Ok top → truth_of lang (Binary Ge t (Number (pos 1))) s ≡ Ok (int_le (pos 1) top)
    by (Int z) f g =
        ap (λ (r : Result Value Fault). do x ← (do v ← r; apply Ge v (Int (pos 1))); as_truth x) f ∙ ap (λ m. Ok (int_le (pos 1) m)) (ok_same {F = Fault} z top g)
    by (Truth b) f g = cc

no_turn : (top : ℤ) → turns_to top ≡ 0 → int_le (pos 1) top ≡ false
no_turn (pos zero) e = refl
no_turn (pos (suc n)) e = absurd (omega (arith, e))
no_turn (negsuc n) e = refl

some_turn : (top : ℤ) (m : ℕ) → turns_to top ≡ suc m → int_le (pos 1) top ≡ true
some_turn (pos zero) m e = absurd (omega (arith, e))
some_turn (pos (suc n)) m e = grind arith
some_turn (negsuc n) m e = absurd (omega (arith, e))

pub count_is : (top : ℤ) → not_negative (top -ℤ pos 1 +ℤ pos 1) ≡ turns_to top
count_is top = ap not_negative (-ℤ-+ℤ_cancel top (pos 1)) ∙ by top
  where
    by : (z : ℤ) → not_negative z ≡ turns_to z
    by (pos n) = refl
    by (negsuc n) = refl

module _ (lang : Dialect) (l : Loop) (y z : Lines) (s : State) (f : Expression) (ok : IsReducible l) (may : MayStart lang l s.store) where
  abbrev loop : Act
  loop = does lang None (loop_of y l)

  abbrev form : Act
  form = does lang None (form_of z l f)

  -- f is the array of e's values
  abbrev pub IsArrayOfValues : Type 0
  IsArrayOfValues = (top value : ℤ) (values : List ℤ) → number_of lang l.trip s.store ≡ Ok top → length (value ∷ values) ≡ turns_to top → ValuesFrom lang l.variable l.operand s.store 1 (value ∷ values)
      → array_of lang f s.store ≡ Ok (settled (record { extents = length (map Int (value ∷ values)) ∷ []; values = map Int (value ∷ values) }))

  same_lines : (c : Statement) → SameLines s (loop s) → SameLines s (does lang None c s) → (does lang None c s).way ≡ Going → ((x : List ℕ) → (does lang None c s).store.bounds x ≡ (loop s).store.bounds x)
      → ((d : Cell) → ¬ (d ≡ variable_cell l.variable) → (does lang None c s).store.held d ≡ (loop s).store.held d) → GoesOnBut l.variable (loop s) (does lang None c s)
  same_lines c a b w p q = record { going = w; bounds = p; held = q; written = b.written ∙ sym a.written; input = b.input ∙ sym a.input; had_value = b.had_value ∙ sym a.had_value }

  loop_lines : SameLines s (loop s)
  loop_lines = quiet_statements_keep_lines lang None (statement (loop_of y l) no_statements) s ((tt, tt), tt)

  held_wide : (k : ℕ) → fits lang.bits (pos k) ≡ true → HoldsInRange 127 (bound_to l.variable (pos k) s.store)
  held_wide k r d = by (same_cell (variable_cell l.variable) d)
    where
      low : lang.bits ≤ 127
      low = let q = may.bits in omega (arith, q)

      wide : (v : Value) → is_in_range lang.bits v ≡ true → is_in_range 127 v ≡ true
      wide (Int n) e = wider lang.bits 127 n low e
      wide (Truth b) e = refl

      by : (b : Bool) → is_in_range 127 (cond b (Int (pos k)) (s.store.held d)) ≡ true
      by true = wide (Int (pos k)) r
      by false = wide (s.store.held d) (may.held d)

  each_fits : (k : ℕ) (values : List ℤ) → ValuesFrom lang l.variable l.operand s.store k values → EachFits values
  each_fits k [] h = tt
  each_fits k (n ∷ values) h = (values_fit lang l.operand (bound_to l.variable (pos k) s.store) (Int n) may.literals (held_wide k h.0) h.1, each_fits (suc k) values h.2)

  -- the form has stored what the loop has
  pub record Formed : Type 0 where
    pub cell : Cell
    pub value : Value
    pub place : cell_named lang l.left s.store ≡ Ok cell
    pub gives : value_of lang (of_all l.how (named l.left) f) s.store ≡ Ok value
    pub range : is_in_range lang.bits value ≡ true
    pub bounds : (x : List ℕ) → (loop s).store.bounds x ≡ s.store.bounds x
    pub others : (d : Cell) → ¬ (d ≡ cell) → ¬ (d ≡ variable_cell l.variable) → (loop s).store.held d ≡ s.store.held d
    pub own : (loop s).store.held cell ≡ value

  module _ (known : IsArrayOfValues) (w : (loop s).way ≡ Going) where
    abbrev pub entry : Rattle.reduction_laws.proofs.gathering.Ending.Looped lang y.loop_line l.variable l.trip (statement (Assignment y.line y.mark l.left (in_turn l.how (named l.left) l.operand)) no_statements) s (loop s)
    entry = looped lang y.loop_line l.variable l.trip (statement (Assignment y.line y.mark l.left (in_turn l.how (named l.left) l.operand)) no_statements) s w

    abbrev many : ℕ → State → State
    many n u = repeated n (turn lang None y.loop_line l.variable (pos 1) (does_all lang None (statement (Assignment y.line y.mark l.left (in_turn l.how (named l.left) l.operand)) no_statements))) u

    abbrev start : State
    start = record s { store = put (variable_cell l.variable) (Int (pos 1)) s.store }

    began : loop s ≡ many (turns_to entry.top) start
    began =
        let vc : entry.cell ≡ variable_cell l.variable = scalar_cell (s.store.bounds l.variable) l.variable entry.cell entry.place in
        entry.is ∙ ap (λ c. many (turns_to entry.top) (let u : State = record s { store = put c (Int (pos 1)) s.store } in u)) vc

    -- with at least one turn
    pub formed : (m : ℕ) → turns_to entry.top ≡ suc m → Formed
    formed m e =
        let is : loop s ≡ many (suc m) start = began ∙ ap (λ n. many n start) e in
        let w1 : (many (suc m) start).way ≡ Going = subst (λ (u : State). u.way ≡ Going) is w in
        let first = turned lang y.loop_line l.variable (does_all lang None (statement (Assignment y.line y.mark l.left (in_turn l.how (named l.left) l.operand)) no_statements)) start (turns_from lang y.loop_line m l.variable (does_all lang None (statement (Assignment y.line y.mark l.left (in_turn l.how (named l.left) l.operand)) no_statements)) (many 1 start) w1) in
        let start1 : State = record start { steps = start.steps + 1 } in
        let b = assigned lang y.line y.mark l.left (in_turn l.how (named l.left) l.operand) start1 (no_array lang.arrays (is_scalar (named l.left) s.store.bounds) may.scalar) first.within in
        let there : cell_named lang l.left s.store ≡ Ok b.cell = sym (place_same lang l.left start.store s.store same_subscripts) ∙ b.place in
        with_cell is w1 b.cell there
      where
        same_subscripts : SameFor (names_in_subscripts l.left.subscripts) (put (variable_cell l.variable) (Int (pos 1)) s.store) s.store
        same_subscripts = record {
          bounds = λ x. refl;
          held = λ d i. sym (unread (variable_cell l.variable) d (Int (pos 1)) s.store (λ e. (ok.subscripts d.name i).1 (ap (λ (c : Cell). c.name) (sym e))));
        }

        with_cell : loop s ≡ many (suc m) start → (many (suc m) start).way ≡ Going → (c : Cell) → cell_named lang l.left s.store ≡ Ok c → Formed
        with_cell is w1 c there =
            let p = both_ok (subscript_values lang l.left.subscripts s.store) (λ is. cell_at l.left.name is s.store) c there in
            let name = (cell_name (s.store.bounds l.left.name) l.left.name p.0 c p.2).0 in
            let not_var : ¬ (c ≡ variable_cell l.variable) = λ q. ok.apart (ap (λ (d : Cell). d.name) (sym q) ∙ name) in
            let at1 : At lang l y ok s.store c may.scalar name there 1 (s.store.held c) start.store = record {
              bounds = refl;
              held = λ d p q. sym (unread (variable_cell l.variable) d (Int (pos 1)) s.store (λ r. q (sym r)));
              gathered = sym (unread (variable_cell l.variable) c (Int (pos 1)) s.store (λ r. not_var (sym r)));
              turn = put_there (variable_cell l.variable) (Int (pos 1)) s.store;
            } in
            let t = turning lang l y ok s.store c may.scalar name there 1 (s.store.held c) start at1 (turns_from lang y.loop_line m l.variable (does_all lang None (statement (Assignment y.line y.mark l.left (in_turn l.how (named l.left) l.operand)) no_statements)) (many 1 start) w1) in
            let all = all_turned lang l y ok s.store c may.scalar name there (suc m) 1 t.before start entry.range (subst (λ h. At lang l y ok s.store c may.scalar name there 1 h start.store) t.was at1) w1 in
            let a_fits : fits lang.bits t.before ≡ true = ap (is_in_range lang.bits) (sym t.was) ∙ may.held c in
            finish c there name t.before t.was a_fits all.values all.count all.are all.fit (subst (λ (u : State). At lang l y ok s.store c may.scalar name there (1 + suc m) (Int (total l.how t.before all.values)) u.store) (sym is) all.at)
          where
            finish : (c : Cell) (there : cell_named lang l.left s.store ≡ Ok c) (name : c.name ≡ l.left.name) (a : ℤ) → s.store.held c ≡ Int a → fits lang.bits a ≡ true → (values : List ℤ) → length values ≡ suc m
                → ValuesFrom lang l.variable l.operand s.store 1 values → AllFit lang.bits l.how a values → At lang l y ok s.store c may.scalar name there (1 + suc m) (Int (total l.how a values)) (loop s).store → Formed
            finish c there name a was af [] count are fit at = absurd (omega (arith, count))
            finish c there name a was af (n ∷ values) count are fit at =
                let r = reduces lang.bits l.how a n values may.bits af fit (each_fits 1 (n ∷ values) are) in
                let tf : fits lang.bits (step l.how a r.0) ≡ true = ap (fits lang.bits) (sym r.2) ∙ total_fits lang.bits l.how a (n ∷ values) af fit in
                let wide : fits 127 (step l.how a r.0) ≡ true = wider lang.bits 127 (step l.how a r.0) (let q = may.bits in omega (arith, q)) tf in
                let array = known entry.top n values entry.gives (count ∙ sym e) are in
                record {
                  cell = c;
                  value = Int (step l.how a r.0);
                  place = there;
                  gives = of_all_gives lang l.how (named l.left) f s.store a r.0 (named_value lang l.left s.store c there ∙ ap Ok was) (reduce_known lang (red_of l.how) f s.store (n ∷ values) may.arrays array ∙ r.1) wide;
                  range = tf;
                  bounds = λ x. ap (λ (g : List ℕ → Option (List (ℤ × ℤ))). g x) at.bounds;
                  others = at.held;
                  own = at.gathered ∙ ap Int r.2;
                }

    -- the form where there is a turn
    pub form_goes : (u : State) → u.way ≡ Going → u.store ≡ s.store → Formed → (c : Cell) × (v : Value) × ((form u).way ≡ Going) × ((form u).store ≡ put c v s.store)
        × ((x : List ℕ) → s.store.bounds x ≡ (loop s).store.bounds x) × ((d : Cell) → ¬ (d ≡ variable_cell l.variable) → (put c v s.store).held d ≡ (loop s).store.held d)
    form_goes u uw us h =
        let a = assigns_at lang z.line z.mark l.left (of_all l.how (named l.left) f) u h.cell h.value uw
        (no_array lang.arrays (is_scalar (named l.left) u.store.bounds) (ap (λ (t : Store). is_scalar (named l.left) t.bounds) us ∙ may.scalar))
        (ap (value_of lang (of_all l.how (named l.left) f)) us ∙ h.gives) (ap (cell_named lang l.left) us ∙ h.place) h.range in
        (h.cell, h.value, ap (λ (t : State). t.way) a, ap (λ (t : State). t.store) a ∙ ap (put h.cell h.value) us, λ x. sym (h.bounds x), λ d q. by d q (same_cell h.cell d) refl)
      where
        by : (d : Cell) → ¬ (d ≡ variable_cell l.variable) → (b : Bool) → same_cell h.cell d ≡ b → cond b h.value (s.store.held d) ≡ (loop s).store.held d
        by d q true e = sym h.own ∙ ap ((loop s).store.held) (same_cell-same h.cell d e)
        by d q false e = sym (h.others d (λ r. no (sym (same_cell-refl h.cell) ∙ (ap (same_cell h.cell) (sym r) ∙ e))) q)
          where
            no : true ≡ false → ⊥
            no e = cc

    pub plain_law : (m : ℕ) → turns_to entry.top ≡ suc m → GoesOnBut l.variable (loop s) (form s)
    plain_law m e =
        let g = form_goes s entry.from refl (formed m e) in
        same_lines (form_of z l f) loop_lines (quiet_statements_keep_lines lang None (statement (form_of z l f) no_statements) s (tt, tt)) g.2
        (λ x. ap (λ (t : Store). t.bounds x) g.3 ∙ g.4 x) (λ d q. ap (λ (t : Store). t.held d) g.3 ∙ g.5 d q)

    pub tested_law : GoesOnBut l.variable (loop s) (does lang None (tested z l (form_of z l f)) s)
    tested_law = by (turns_to entry.top) refl
      where
        lines : SameLines s (does lang None (tested z l (form_of z l f)) s)
        lines = quiet_statements_keep_lines lang None (statement (tested z l (form_of z l f)) no_statements) s ((((tt, tt), tt), tt), tt)

        by : (n : ℕ) → turns_to entry.top ≡ n → GoesOnBut l.variable (loop s) (does lang None (tested z l (form_of z l f)) s)
        by zero e =
            let test = test_gives lang l.trip s.store entry.top entry.gives ∙ ap Ok (no_turn entry.top e) in
            let q = chooses_at lang z.loop_line (Binary Ge l.trip (Number (pos 1))) (statement (form_of z l f) no_statements) s false entry.from test in
            let is : loop s ≡ start = began ∙ ap (λ n. many n start) e in
            same_lines (tested z l (form_of z l f)) loop_lines lines (ap (λ (t : State). t.way) q)
            (λ x. ap (λ (t : State). t.store.bounds x) q ∙ sym (ap (λ (t : State). t.store.bounds x) is))
            (λ d r. ap (λ (t : State). t.store.held d) q ∙ (unread (variable_cell l.variable) d (Int (pos 1)) s.store (λ v. r (sym v)) ∙ sym (ap (λ (t : State). t.store.held d) is)))
        by (suc m) e =
            let test = test_gives lang l.trip s.store entry.top entry.gives ∙ ap Ok (some_turn entry.top m e) in
            let q = chooses_at lang z.loop_line (Binary Ge l.trip (Number (pos 1))) (statement (form_of z l f) no_statements) s true entry.from test in
            let g = form_goes (moved s (s.steps + 1) s.store) refl refl (formed m e) in
            same_lines (tested z l (form_of z l f)) loop_lines lines (ap (λ (t : State). t.way) q ∙ g.2)
            (λ x. ap (λ (t : State). t.store.bounds x) q ∙ (ap (λ (t : Store). t.bounds x) g.3 ∙ g.4 x)) (λ d r. ap (λ (t : State). t.store.held d) q ∙ (ap (λ (t : Store). t.held d) g.3 ∙ g.5 d r))

-- ---- the list of e's values

listed_known : (lang : Dialect) (l : Loop) (y z : Lines) (s : State) (ok : IsReducible l) (may : MayStart lang l s.store) → IsArrayOfValues lang l y z s (listed l.variable l.trip l.operand) ok may
listed_known lang l y z s ok may top value values e n h = listed_gives lang l.variable l.operand s.store l.trip top (value ∷ values) e (count_is top ∙ sym n) h

pub gathering_is_form : GatheringIsForm
gathering_is_form lang l y z s ok may w = tested_law lang l y z s (listed l.variable l.trip l.operand) ok may (listed_known lang l y z s ok may) w

-- a positive literal
pub literal_turns : (lang : Dialect) (t : Expression) (s : Store) (top : ℤ) (n : ℕ) → number_of lang t s ≡ Ok top → t ≡ Number (pos n) → 1 ≤ n → (m : ℕ) × (turns_to top ≡ suc m)
literal_turns lang t s top n e f h =
    let same : pos n ≡ top = ok_same {F = Fault} (pos n) top (sym (ap (λ u. number_of lang u s) f) ∙ e) in
    by n h (ap turns_to (sym same))
  where
    by : (n : ℕ) → 1 ≤ n → turns_to top ≡ n → (m : ℕ) × (turns_to top ≡ suc m)
    by zero h e = absurd (omega (arith, h))
    by (suc m) h e = (m, e)

pub gathering_is_plain_form : GatheringIsPlainForm
gathering_is_plain_form lang l y z s n ok may e h w =
    let f = listed l.variable l.trip l.operand in
    let known = listed_known lang l y z s ok may in
    let m = literal_turns lang l.trip s.store (entry lang l y z s (listed l.variable l.trip l.operand) ok may (listed_known lang l y z s ok may) w).top n (entry lang l y z s (listed l.variable l.trip l.operand) ok may (listed_known lang l y z s ok may) w).gives e h in
    plain_law lang l y z s (listed l.variable l.trip l.operand) ok may (listed_known lang l y z s ok may) w m.0 m.1
