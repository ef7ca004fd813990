-- The loops over the pieces run as the loop.
use Rattle.std.proofs.Common.{◌≡◌, ◌≢◌, refl, sym, ap, ap₂, ◌∙◌, subst, inl, inr, ℕ, zero, suc, ◌+◌, ◌≤◌, ℤ, pos, ◌+ℤ◌, Bool, true, false, cond, List, [], ◌∷◌, Result, Ok, Err, Option, Some, None, arith}
use Rattle.std.specs.Ordering.{int_eq}
use Rattle.tree.specs.Steps.{◌>>=◌}
use Rattle.tree.specs.Operators.{as_number}
use Rattle.tree.specs.Plain.{Expression, Do}
use Rattle.tree.specs.declared.ops.Value.{Value}
use Rattle.tree.specs.declared.ops.Value.TheVariants.{Int}
use Rattle.tree.specs.declared.ops.Fault.{Fault}
use Rattle.tree.specs.declared.ops.Fault.TheVariants.{ZeroStep}
use Rattle.meaning.specs.Dialect.{Dialect}
use Rattle.meaning.specs.Store.{Store, Cell, put, cell_in}
use Rattle.meaning.specs.Value.{number_of, is_in_range, increment_of, trip_count}
use Rattle.meaning.specs.Run.{State, Going, Act, does, does_all, evaluates, repeated, sets_variable, then, turn}
use Rattle.meaning.proofs.Exchanges.{unread}
use Rattle.nest_order.specs.orders.Lists.{In}
use Rattle.nest_order.specs.runs.Guarded.{variable_cell}
use Rattle.nest_order.proofs.runs.Results.{ok_same}
use Rattle.nest_order.proofs.runs.Variables.{put_there, cell_name}
use Rattle.split_laws.specs.Pieces.{Piece, Loop, after_turns, AreConsecutive, HaveNumbers, LeavesAlone, SameScalars, loop_from, loops_over, PiecesRunAsLoop}
use Rattle.split_laws.proofs.Acts.{is_going, going_is, asks, asks_idle, turns_idle, sets_again, set, turned}
use Rattle.split_laws.proofs.Trips.{next_turn, no_turn, piece_trip}

pub repeated-more : (n m : ℕ) (f : Act) (s : State) → repeated (n + m) f s ≡ repeated m f (repeated n f s)
repeated-more zero m f s = ap (λ k. repeated k f s) (let e : 0 + m ≡ m = omega arith in e)
repeated-more (suc n) m f s = ap (λ k. repeated k f s) (let e : suc n + m ≡ suc (n + m) = omega arith in e) ∙ repeated-more n m f (f s)

-- the one cell of a name without subscripts, and its bounds
scalar_cell : (b : Option (List (ℤ × ℤ))) (x : List ℕ) (c : Cell) → cell_in b x [] ≡ Ok c → (c ≡ variable_cell x) × (b ≡ Some [])
scalar_cell None x c e = cc
scalar_cell (Some []) x c e = (let h = cell_name (Some []) x [] c e in λ i. record { name = h.0 i; subscripts = sym h.1 i }, refl)
scalar_cell (Some (b ∷ bs)) x c e = cc

number_of_int : (v : Value) (k n : ℤ) → v ≡ Int k → as_number v ≡ Ok n → n ≡ k
number_of_int v k n e f = sym (ok_same {F = Fault} k n (sym (ap as_number e) ∙ f))

not_zero : (r : Result ℤ Fault) (m : ℤ) → (do z ← r; cond (int_eq z (pos 0)) (Err ZeroStep) (Ok z)) ≡ Ok m → m ≢ pos 0
not_zero (Err f) m e = cc
not_zero (Ok z) m e = by (int_eq z (pos 0)) refl e
  where
    by : (b : Bool) → int_eq z (pos 0) ≡ b → ◌≡◌ {A = Result ℤ Fault} (cond b (Err ZeroStep) (Ok z)) (Ok m) → m ≢ pos 0
    by true g e = cc
    by false g e = λ n. no (sym (ap (λ q. int_eq q (pos 0)) (ok_same {F = Fault} z m e ∙ n)) ∙ g)
      where
        no : true ≡ false → ⊥
        no e = cc

module _ (lang : Dialect) (limit : Option ℕ) (l : Loop) (xs : List (List ℕ)) (s : Store) (m1 m2 m3 : ℤ) (t : ℕ) (counts : trip_count m1 m2 m3 ≡ Ok t) (alone : LeavesAlone lang limit l xs) (apart : ¬ (In l.variable xs)) where
  abbrev pub body : Act
  body = does_all lang limit l.body

  abbrev pub one : Act
  one = turn lang limit l.line l.variable m3 body

  -- the variable and the scalars after k turns, where the run is going
  pub record Stands (k : ℕ) (u : Store) : Type 0 where
    pub bounds : u.bounds l.variable ≡ Some []
    pub held : u.held (variable_cell l.variable) ≡ Int (after_turns m1 m3 k)
    pub range : is_in_range lang.bits (Int (after_turns m1 m3 k)) ≡ true
    pub scalars : SameScalars xs s u

  abbrev pub StandsIfGoing : ℕ → State → Type 0
  StandsIfGoing k u = u.way ≡ Going → Stands k u.store

  put_apart : (z : Value) (u : Store) → SameScalars xs s u → SameScalars xs s (put (variable_cell l.variable) z u)
  put_apart z u h x i = ((h x i).0, sym (unread (variable_cell l.variable) (variable_cell x) z u (λ e. apart (subst (λ y. In y xs) (sym (ap (λ (c : Cell). c.name) e)) i))) ∙ (h x i).1)

  after_one : (k : ℕ) (u : State) → StandsIfGoing k u → StandsIfGoing (suc k) (one u)
  after_one k u h w =
      let a = turned lang limit l.line l.variable m3 body u w in
      let st = h a.from in
      let u1 : State = record u { steps = u.steps + 1 } in
      let v = alone.variable u1 l.variable (inl refl) in
      let bounds : (body u1).store.bounds l.variable ≡ Some [] = v.0 ∙ st.bounds in
      let cell : a.cell ≡ variable_cell l.variable = (scalar_cell ((body u1).store.bounds l.variable) l.variable a.cell a.place).0 in
      let held : (body u1).store.held a.cell ≡ Int (after_turns m1 m3 k) = ap (body u1).store.held cell ∙ (v.1 ∙ st.held) in
      let number : a.number +ℤ m3 ≡ after_turns m1 m3 (suc k) = ap (λ z. z +ℤ m3) (number_of_int ((body u1).store.held a.cell) (after_turns m1 m3 k) a.number held a.gives) ∙ next_turn m1 m3 k in
      let is : (one u).store ≡ put (variable_cell l.variable) (Int (after_turns m1 m3 (suc k))) (body u1).store
      = ap (λ (z : State). z.store) a.is ∙ ap₂ (λ c z. put c (Int z) (body u1).store) cell number in
      let same : SameScalars xs s (body u1).store = λ x i. (let p = alone.scalars u1 x i in let q = st.scalars x i in (p.0 ∙ q.0, p.1 ∙ q.1)) in
      record {
        bounds = ap (λ (z : Store). z.bounds l.variable) is ∙ bounds;
        held = ap (λ (z : Store). z.held (variable_cell l.variable)) is ∙ put_there (variable_cell l.variable) (Int (after_turns m1 m3 (suc k))) (body u1).store;
        range = ap (λ z. is_in_range lang.bits (Int z)) (sym number) ∙ a.range;
        scalars = subst (SameScalars xs s) (sym is) (put_apart (Int (after_turns m1 m3 (suc k))) (body u1).store same);
      }

  after_some : (n k : ℕ) (u : State) → StandsIfGoing k u → StandsIfGoing (k + n) (repeated n one u)
  after_some zero k u h = subst (λ j. StandsIfGoing j u) (let e : k ≡ k + 0 = omega arith in e) h
  after_some (suc n) k u h = subst (λ j. StandsIfGoing j (repeated n one (one u))) (let e : suc k + n ≡ k + suc n = omega arith in e) (after_some n (suc k) (one u) (after_one k u h))

  abbrev total : List Piece → ℕ
  total [] = 0
  total (p ∷ ps) = suc p.more + total ps

  all_turns : (k : ℕ) (ps : List Piece) → AreConsecutive k t ps → k + total ps ≡ t
  all_turns k [] h = (let e : k + 0 ≡ k = omega arith in e) ∙ h
  all_turns k (p ∷ ps) h = (let e : k + (suc p.more + total ps) ≡ k + suc p.more + total ps = omega arith in e) ∙ all_turns (k + suc p.more) ps h.1

  -- a loop whose parameters have values
  abbrev turning : ℤ → ℤ → Act
  turning n1 n2 = evaluates l.line (λ z. trip_count n1 n2 m3) (λ n. repeated n one)

  entered : (first last step : Expression) (n1 n2 : ℤ) (u : State) → u.way ≡ Going → number_of lang first u.store ≡ Ok n1 → number_of lang last u.store ≡ Ok n2 → increment_of lang step u.store ≡ Ok m3
      → does lang limit (Do l.line l.variable first last step l.body) u ≡ turning n1 n2 (sets_variable lang limit l.line l.variable n1 u)
  entered first last step n1 n2 u w e f g =
      let k3 : ℤ → ℤ → ℤ → Act = λ a b c. then (sets_variable lang limit l.line l.variable a) (evaluates l.line (λ z. trip_count a b c) (λ n. repeated n (turn lang limit l.line l.variable c body))) in
      let k2 : ℤ → ℤ → Act = λ a b. evaluates l.line (increment_of lang step) (k3 a b) in
      let k1 : ℤ → Act = λ a. evaluates l.line (number_of lang last) (k2 a) in
      asks lang limit l.line (number_of lang first) k1 u n1 w e
      ∙ (asks lang limit l.line (number_of lang last) (k2 n1) u n2 w f
      ∙ asks lang limit l.line (increment_of lang step) (k3 n1 n2) u m3 w g)

  -- its turns, whether or not its variable could be set
  turns_of : (n1 n2 : ℤ) (k : ℕ) (u : State) → trip_count n1 n2 m3 ≡ Ok k → turning n1 n2 u ≡ repeated k one u
  turns_of n1 n2 k u e = by (is_going u.way) refl
    where
      by : (b : Bool) → is_going u.way ≡ b → turning n1 n2 u ≡ repeated k one u
      by true g = asks lang limit l.line (λ z. trip_count n1 n2 m3) (λ n. repeated n one) u k (going_is u.way g) e
      by false g = asks_idle l.line (λ z. trip_count n1 n2 m3) (λ n. repeated n one) u g ∙ sym (turns_idle lang limit l.line k l.variable m3 body u g)

  does_idle : (first last : Expression) (u : State) → is_going u.way ≡ false → does lang limit (loop_from l first last) u ≡ u
  does_idle first last u g = asks_idle l.line (number_of lang first) _ u g

  all_idle : (ps : List Piece) (u : State) → is_going u.way ≡ false → does_all lang limit (loops_over l ps) u ≡ u
  all_idle [] u g = refl
  all_idle (p ∷ ps) u g = ap (does_all lang limit (loops_over l ps)) (does_idle p.first p.last u g) ∙ all_idle ps u g

  module _ (no : m3 ≢ pos 0) where
    -- the pieces after k turns
    rest_of : (ps : List Piece) (k : ℕ) (u : State) → AreConsecutive k t ps → HaveNumbers lang l xs s m1 m3 ps → StandsIfGoing k u → does_all lang limit (loops_over l ps) u ≡ repeated (total ps) one u
    rest_of [] k u h numbers st = refl
    rest_of (p ∷ ps) k u h numbers st = by (is_going u.way) refl (λ v q. rest_of ps (k + suc p.more) v h.1 more q)
      where
        more : HaveNumbers lang l xs s m1 m3 ps
        more = record { first = λ p u i. numbers.first p u (inr i); last = λ p u i. numbers.last p u (inr i); step = numbers.step }

        by : (b : Bool) → is_going u.way ≡ b → ((v : State) → StandsIfGoing (k + suc p.more) v → does_all lang limit (loops_over l ps) v ≡ repeated (total ps) one v)
            → does_all lang limit (loops_over l (p ∷ ps)) u ≡ repeated (suc p.more + total ps) one u
        by false g go = all_idle (p ∷ ps) u g ∙ sym (turns_idle lang limit l.line (suc p.more + total ps) l.variable m3 body u g)
        by true g go =
            let w = going_is u.way g in
            let a = st w in
            let f : number_of lang p.first u.store ≡ Ok (after_turns m1 m3 k) = numbers.first p u.store (inl refl) a.scalars ∙ ap (λ j. Ok (after_turns m1 m3 j)) h.0 in
            let e : number_of lang p.last u.store ≡ Ok (after_turns m1 m3 (k + p.more)) = numbers.last p u.store (inl refl) a.scalars ∙ ap (λ j. Ok (after_turns m1 m3 (j + p.more))) h.0 in
            let enough : suc p.more ≤ t = (let q = all_turns (k + suc p.more) ps h.1 in omega (arith, q)) in
            let c = piece_trip m1 m2 m3 t k p.more no counts enough in
            let first : does lang limit (loop_from l p.first p.last) u ≡ repeated (suc p.more) one u
            = entered p.first p.last l.step (after_turns m1 m3 k) (after_turns m1 m3 (k + p.more)) u w f e (numbers.step u.store a.scalars)
            ∙ (ap (turning (after_turns m1 m3 k) (after_turns m1 m3 (k + p.more))) (sets_again lang limit l.line l.variable (after_turns m1 m3 k) u w a.bounds a.held a.range)
            ∙ turns_of (after_turns m1 m3 k) (after_turns m1 m3 (k + p.more)) (suc p.more) u c) in
            ap (does_all lang limit (loops_over l ps)) first
            ∙ (go (repeated (suc p.more) one u) (after_some (suc p.more) k u st)
            ∙ sym (repeated-more (suc p.more) (total ps) one u))

    -- from where the variable is set first
    whole : (ps : List Piece) (first last step : Expression) (u : State) → u.store ≡ s → increment_of lang step s ≡ Ok m3 → number_of lang first s ≡ Ok m1 → number_of lang last s ≡ Ok m2 → 1 ≤ t → AreConsecutive 0 t ps → HaveNumbers lang l xs s m1 m3 ps
        → does_all lang limit (loops_over l ps) u ≡ does lang limit (Do l.line l.variable first last step l.body) u
    whole [] first last step0 u us e0 e1 e2 some h numbers = absurd (omega (arith, some, h))
    whole (p ∷ ps) first last step0 u us e0 e1 e2 some h numbers = by (is_going u.way) refl
      where
        same : SameScalars xs s u.store
        same x i = (ap (λ (z : Store). z.bounds x) us, ap (λ (z : Store). z.held (variable_cell x)) us)

        more : HaveNumbers lang l xs s m1 m3 ps
        more = record { first = λ p u i. numbers.first p u (inr i); last = λ p u i. numbers.last p u (inr i); step = numbers.step }

        began : State
        began = sets_variable lang limit l.line l.variable m1 u

        starts : StandsIfGoing 0 (sets_variable lang limit l.line l.variable m1 u)
        starts w =
            let a = set lang limit l.line l.variable m1 u w in
            let c = scalar_cell (u.store.bounds l.variable) l.variable a.cell a.place in
            let is : (sets_variable lang limit l.line l.variable m1 u).store ≡ put (variable_cell l.variable) (Int m1) u.store = ap (λ (z : State). z.store) a.is ∙ ap (λ d. put d (Int m1) u.store) c.0 in
            record {
              bounds = ap (λ (z : Store). z.bounds l.variable) is ∙ c.1;
              held = ap (λ (z : Store). z.held (variable_cell l.variable)) is ∙ (put_there (variable_cell l.variable) (Int m1) u.store ∙ ap Int (sym (no_turn m1 m3)));
              range = ap (λ z. is_in_range lang.bits (Int z)) (no_turn m1 m3) ∙ a.range;
              scalars = subst (SameScalars xs s) (sym is) (put_apart (Int m1) u.store same);
            }

        by : (b : Bool) → is_going u.way ≡ b → does_all lang limit (loops_over l (p ∷ ps)) u ≡ does lang limit (Do l.line l.variable first last step0 l.body) u
        by false g = all_idle (p ∷ ps) u g ∙ sym (asks_idle l.line (number_of lang first) _ u g)
        by true g =
            let w = going_is u.way g in
            let f : number_of lang p.first u.store ≡ Ok m1 = numbers.first p u.store (inl refl) same ∙ (ap (λ j. Ok (after_turns m1 m3 j)) h.0 ∙ ap Ok (no_turn m1 m3)) in
            let e : number_of lang p.last u.store ≡ Ok (after_turns m1 m3 (0 + p.more)) = numbers.last p u.store (inl refl) same ∙ ap (λ j. Ok (after_turns m1 m3 (j + p.more))) h.0 in
            let enough : suc p.more ≤ t = (let q = all_turns (0 + suc p.more) ps h.1 in omega (arith, q)) in
            let c : trip_count m1 (after_turns m1 m3 (0 + p.more)) m3 ≡ Ok (suc p.more) = ap (λ z. trip_count z (after_turns m1 m3 (0 + p.more)) m3) (sym (no_turn m1 m3)) ∙ piece_trip m1 m2 m3 t 0 p.more no counts enough in
            let step = numbers.step u.store same in
            let mine : does lang limit (loop_from l p.first p.last) u ≡ repeated (suc p.more) one (sets_variable lang limit l.line l.variable m1 u)
            = entered p.first p.last l.step m1 (after_turns m1 m3 (0 + p.more)) u w f e step ∙ turns_of m1 (after_turns m1 m3 (0 + p.more)) (suc p.more) (sets_variable lang limit l.line l.variable m1 u) c in
            let all : does lang limit (Do l.line l.variable first last step0 l.body) u ≡ repeated t one (sets_variable lang limit l.line l.variable m1 u)
            = entered first last step0 m1 m2 u w (ap (number_of lang first) us ∙ e1) (ap (number_of lang last) us ∙ e2) (ap (increment_of lang step0) us ∙ e0) ∙ turns_of m1 m2 t (sets_variable lang limit l.line l.variable m1 u) counts in
            let sum : suc p.more + total ps ≡ t = (let q = all_turns (0 + suc p.more) ps h.1 in omega (arith, q)) in
            ap (does_all lang limit (loops_over l ps)) mine
            ∙ (rest_of ps (0 + suc p.more) (repeated (suc p.more) one (sets_variable lang limit l.line l.variable m1 u)) h.1 more (after_some (suc p.more) 0 (sets_variable lang limit l.line l.variable m1 u) starts)
            ∙ (sym (repeated-more (suc p.more) (total ps) one (sets_variable lang limit l.line l.variable m1 u))
            ∙ (ap (λ n. repeated n one (sets_variable lang limit l.line l.variable m1 u)) sum ∙ sym all)))

pub pieces_run_as_loop : PiecesRunAsLoop
pieces_run_as_loop lang limit l first last step xs ps s m1 m2 m3 t e1 e2 e0 counts some h numbers alone apart =
    whole lang limit l xs s.store m1 m2 m3 t counts alone apart (not_zero (number_of lang step s.store) m3 e0) ps first last step s refl e0 e1 e2 some h numbers
