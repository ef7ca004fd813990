-- The bounds of pieces have their numbers, and assignments to other names leave these alone.
use Rattle.std.proofs.Common.{◌≡◌, refl, sym, ap, ◌∙◌, subst, inl, inr, ℕ, ◌+◌, ℤ, pos, ◌+ℤ◌, ◌*ℤ◌, Bool, true, false, ◌&&◌, not, List, [], ◌∷◌, Result, Ok, Err, Option, arith}
use Rattle.std.specs.Prelude.{IsTrue}
use Rattle.std.proofs.lemmas.Int.{ints}
use Rattle.tree.specs.Steps.{◌>>=◌}
use Rattle.tree.specs.Operators.{as_number}
use Rattle.tree.specs.Plain.{Expression, Logic, Reference, Assignment, Where, If, Do, Label, GoTo, Stop, Read, Print, Allocate, Deallocate, Block, no_statements, statement}
use Rattle.tree.specs.declared.ops.Value.{Value}
use Rattle.tree.specs.declared.ops.Fault.{Fault}
use Rattle.tree.specs.declared.ops.Fault.TheVariants.{Overflow}
use Rattle.tree.specs.declared.stmts.Mark.{Mark}
use Rattle.meaning.specs.Dialect.{Dialect}
use Rattle.meaning.specs.Store.{Store, Cell, put, cell_at, cell_in}
use Rattle.meaning.specs.Value.{value_of, number_of, cell_named, subscript_values, is_in_range, is_array, is_scalar, named}
use Rattle.meaning.specs.Run.{State, Way, Going, Jumping, Stopped, Failed, Cut, Act, does, does_all, on_way, answered, goes, either, nothing, then, while_going, evaluates, counts_step, stores, checks_range, assigns, array_assigns, is_allowed, arrives}
use Rattle.meaning.proofs.Exchanges.{unread}
use Rattle.linear_forms.specs.Expressed.{expressed, variables}
use Rattle.linear_forms.specs.Laws.{AreSized, EachHasValue}
use Rattle.linear_forms.specs.Linear.{Form, HaveValues, is_limited, number_at, weighted}
use Rattle.linear_forms.proofs.Expressed.{text_has_value}
use Rattle.nest_order.specs.orders.Lists.{In}
use Rattle.nest_order.specs.runs.Guarded.{variable_cell}
use Rattle.nest_order.proofs.runs.Results.{both_ok}
use Rattle.nest_order.proofs.runs.Variables.{cell_name}
use Rattle.split_laws.specs.Pieces.{shifted, SameScalars, AssignsOthers, TextsHaveNumbers, AssignmentsLeaveAlone}

names_have : (d : Dialect) (names : List (List ℕ)) (s : Store) (xs : List ℤ) → HaveValues names s xs → EachHasValue d (variables names) s xs
names_have d [] s [] h = tt
names_have d (y ∷ ys) s (x ∷ xs) h = (ap (λ b. do c ← cell_in b y []; Ok (s.held c)) h.0 ∙ ap Ok h.1, names_have d ys s xs h.2)
names_have d [] s (x ∷ xs) h = absurd h
names_have d (y ∷ ys) s [] h = absurd h

still : (names : List (List ℕ)) (s u : Store) (xs : List ℤ) → SameScalars names s u → HaveValues names s xs → HaveValues names u xs
still [] s u [] same h = tt
still (y ∷ ys) s u (x ∷ xs) same h = (let p = same y (inl refl) in (p.0 ∙ h.0, p.1 ∙ h.1, still ys s u xs (λ z i. same z (inr i)) h.2))
still [] s u (x ∷ xs) same h = absurd h
still (y ∷ ys) s u [] same h = absurd h

shifted_is : (f : Form) (z : ℤ) (zs : List ℤ) → number_at (shifted f z) zs ≡ number_at f zs +ℤ z
shifted_is f z zs = let w = weighted f.coefficients zs in let c = f.constant in omega (arith, ints)

text_number : (lang : Dialect) (symbols : List (List ℕ)) (f : Form) (z : ℤ) (s u : Store) (zs : List ℤ) → IsTrue (is_limited 0 (shifted f z)) → HaveValues symbols s zs → AreSized zs → SameScalars symbols s u
    → number_of lang (expressed (variables symbols) (shifted f z)) u ≡ Ok (number_at f zs +ℤ z)
text_number lang symbols f z s u zs ok h sized same =
    let e = text_has_value lang 0 (variables symbols) (shifted f z) u zs (omega arith) ok (names_have lang symbols u zs (still symbols s u zs same h)) sized in
    ap (λ (r : Result Value Fault). do x ← r; as_number x) e ∙ ap Ok (shifted_is f z zs)

pub texts_have_numbers : TextsHaveNumbers
texts_have_numbers lang l symbols f s zs m3 ps t step h sized = record {
  first = λ p u i same. ap (λ e. number_of lang e u) (t.first p i) ∙ text_number lang symbols f (pos p.before *ℤ m3) s u zs (t.first_limits p i) h sized same;
  last = λ p u i same. ap (λ e. number_of lang e u) (t.last p i) ∙ text_number lang symbols f (pos (p.before + p.more) *ℤ m3) s u zs (t.last_limits p i) h sized same;
  step = λ u same. step u;
}

-- ---- assignments to other names

module _ (lang : Dialect) (limit : Option ℕ) (xs : List (List ℕ)) where
  abbrev Spares : Act → State → Type 0
  Spares k s = SameScalars xs s.store (k s).store

  same_scalars : (s : Store) → SameScalars xs s s
  same_scalars s x i = (refl, refl)

  on : (w : Way) (k : Act) (s : State) → Spares k s → Spares (on_way w k) s
  on Going k s h = h
  on (Jumping n) k s h = same_scalars s.store
  on Stopped k s h = same_scalars s.store
  on (Failed f n) k s h = same_scalars s.store
  on Cut k s h = same_scalars s.store

  spares_going : (k : Act) (s : State) → Spares k s → Spares (while_going k) s
  unfolding while_going
  spares_going k s h = on s.way k s h

  spares_asks : {A : Type 0} (line : ℕ) (f : Store → Result A Fault) (k : A → Act) (s : State) → ((a : A) → f s.store ≡ Ok a → Spares (k a) s) → Spares (evaluates line f k) s
  unfolding evaluates
  spares_asks {A} line f k s h = spares_going (λ s. answered line (f s.store) k s) s (by (f s.store) refl)
    where
      by : (r : Result A Fault) → f s.store ≡ r → SameScalars xs s.store (answered line r k s).store
      by (Ok a) e = h a e
      by (Err g) e = same_scalars s.store

  spares_steps : (k : Act) (s : State) → Spares k (record s { steps = s.steps + 1 }) → Spares (counts_step lang limit k) s
  unfolding counts_step
  spares_steps k s h = spares_going (λ s. either (is_allowed limit s.steps) (λ t. k (record t { steps = t.steps + 1 })) (goes Cut) s) s (by (is_allowed limit s.steps))
    where
      by : (b : Bool) → SameScalars xs s.store (either b (λ t. k (record t { steps = t.steps + 1 })) (goes Cut) s).store
      by true = h
      by false = same_scalars s.store

  spares_range : (line : ℕ) (v : Value) (k : Act) (s : State) → Spares k s → Spares (checks_range lang limit line v k) s
  unfolding checks_range
  spares_range line v k s h = spares_going (either (is_in_range lang.bits v) k (goes (Failed Overflow line))) s (by (is_in_range lang.bits v))
    where
      by : (b : Bool) → SameScalars xs s.store (either b k (goes (Failed Overflow line)) s).store
      by true = h
      by false = same_scalars s.store

  spares_stores : (c : Cell) (v : Value) (s : State) → ¬ (In c.name xs) → Spares (stores c v) s
  unfolding stores
  spares_stores c v s h = spares_going (λ s. record s { store = put c v s.store }) s
      (λ x i. (refl, sym (unread c (variable_cell x) v s.store (λ e. h (subst (λ y. In y xs) (sym (ap (λ (d : Cell). d.name) e)) i)))))

  spares_assigns : (line : ℕ) (r : Reference) (e : Expression) (s : State) → ¬ (In r.name xs) → Spares (assigns lang limit line r e) s
  spares_assigns line r e s h = spares_asks line (value_of lang e) _ s (λ v f. spares_asks line (cell_named lang r) _ s (λ c g.
      spares_range line v _ s (spares_steps _ s (spares_stores c v (record s { steps = s.steps + 1 }) (λ i. h (subst (λ y. In y xs) (named_so c g) i))))))
    where
      named_so : (c : Cell) → cell_named lang r s.store ≡ Ok c → c.name ≡ r.name
      named_so c g = let p = both_ok (subscript_values lang r.subscripts s.store) (λ is. cell_at r.name is s.store) c g in (cell_name (s.store.bounds r.name) r.name p.0 c p.2).0

  spares_assignment : (arrays : lang.arrays ≡ false) (line : ℕ) (m : Option Mark) (r : Reference) (e : Expression) (s : State) → ¬ (In r.name xs) → Spares (does lang limit (Assignment line m r e)) s
  spares_assignment arrays line m r e s h =
      let s1 : State = record s { steps = s.steps + 1 } in
      let plain : is_array lang (named r) s1.store ≡ false = ap (λ b. b && not (is_scalar (named r) s1.store.bounds)) arrays in
      spares_steps (λ s. either (is_array lang (named r) s.store) (array_assigns lang limit line (Logic true) r e) (assigns lang limit line r e) s) s
      (subst (λ b. SameScalars xs s.store (either b (array_assigns lang limit line (Logic true) r e) (assigns lang limit line r e) s1).store) (sym plain) (spares_assigns line r e s1 h))

  after_both : (f g : Act) (s : State) → Spares f s → Spares g (f s) → Spares (then f g) s
  after_both f g s h k x i = (let p = h x i in let q = k x i in (q.0 ∙ p.0, q.1 ∙ p.1))

  spares_body : (arrays : lang.arrays ≡ false) (cs : Block) (s : State) → AssignsOthers xs cs → Spares (does_all lang limit cs) s
  spares_body arrays no_statements s h = same_scalars s.store
  spares_body arrays (statement (Assignment line m r e) cs) s h = after_both (does lang limit (Assignment line m r e)) (does_all lang limit cs) s (spares_assignment arrays line m r e s h.0) (spares_body arrays cs (does lang limit (Assignment line m r e) s) h.1)
  spares_body arrays (statement (Label n) cs) s h = after_both (does lang limit (Label n)) (does_all lang limit cs) s (by (arrives n s.way)) (spares_body arrays cs (does lang limit (Label n) s) h)
    where
      by : (b : Bool) → SameScalars xs s.store (either b (goes Going) nothing s).store
      by true = same_scalars s.store
      by false = same_scalars s.store
  spares_body arrays (statement (Where line m e r f) cs) s h = absurd h
  spares_body arrays (statement (If line arms other) cs) s h = absurd h
  spares_body arrays (statement (Do line x a b c body) cs) s h = absurd h
  spares_body arrays (statement (GoTo line n) cs) s h = absurd h
  spares_body arrays (statement (Stop line) cs) s h = absurd h
  spares_body arrays (statement (Read line is) cs) s h = absurd h
  spares_body arrays (statement (Print line is) cs) s h = absurd h
  spares_body arrays (statement (Allocate line x es) cs) s h = absurd h
  spares_body arrays (statement (Deallocate line x) cs) s h = absurd h

pub assignments_leave_alone : AssignmentsLeaveAlone
assignments_leave_alone lang limit l xs arrays h = record {
  variable = λ u x i. by u x i;
  scalars = λ u x i. spares_body lang limit (l.variable ∷ xs) arrays l.body u h x (inr i);
}
  where
    by : (u : State) (x : List ℕ) → In x (l.variable ∷ []) → ((does_all lang limit l.body u).store.bounds x ≡ u.store.bounds x) × ((does_all lang limit l.body u).store.held (variable_cell x) ≡ u.store.held (variable_cell x))
    by u x (inl e) = spares_body lang limit (l.variable ∷ xs) arrays l.body u h x (inl e)
    by u x (inr i) = absurd i
