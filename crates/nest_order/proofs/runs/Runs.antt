-- A sequential run of a nest is, but for the variables of its loops, its instances one after another.
use Rattle.std.proofs.Common.{◌≡◌, refl, sym, ap, ap₂, ◌∙◌, subst, ◌⊎◌, inl, inr, ℕ, zero, suc, ◌+◌, ◌≤◌, ◌<◌, ℤ, pos, ◌+ℤ◌, Bool, true, false, List, [], ◌∷◌, ◌++◌, map, Result, Ok, Option, Some, None, append_assoc, append-nil, arith}
use Rattle.tree.specs.Steps.{◌>>=◌}
use Rattle.std.proofs.Math.IntN.{pos-+ℤ-pos}
use Rattle.tree.specs.Operators.{as_number}
use Rattle.tree.specs.Plain.{Expression, Assignment, no_statements, statement}
use Rattle.tree.specs.declared.ops.Value.{Value}
use Rattle.tree.specs.declared.ops.Value.TheVariants.{Int}
use Rattle.tree.specs.declared.ops.Fault.{Fault}
use Rattle.tree.specs.declared.stmts.Mark.{Mark}
use Rattle.meaning.specs.Run.{State, Going, Act, does, does_all, either, nothing, repeated, turn}
use Rattle.meaning.specs.Store.{Store, Cell, put}
use Rattle.meaning.specs.Value.{value_of, truth_of, cell_named, is_in_range, trip_count}
use Rattle.meaning_laws.specs.arrays.Instances.{after}
use Rattle.nest_order.specs.orders.Lists.{In}
use Rattle.nest_order.specs.orders.Nests.{IsInstance}
use Rattle.nest_order.specs.orders.Orders.{and_then, runs}
use Rattle.nest_order.specs.orders.Shapes.{Shape, Single, Loop, Shapes, no_shapes, shape, statements, loops_of_shape, Stands, StandsIn, Instance, within_turn, turns, instances, instances_in, Within}
use Rattle.nest_order.specs.runs.Laws.{RunIsInstances}
use Rattle.nest_order.proofs.orders.Once.{stands_in_statements}
use Rattle.nest_order.specs.runs.Blocks.{Layout, guarded_statement, nest_block, nest_statement, statement_of}
use Rattle.nest_order.specs.runs.Forms.{acts_at}
use Rattle.nest_order.specs.runs.Guarded.{GuardedAssignment, assigned_if, at_iterations, effect, sequential}
use Rattle.nest_order.specs.runs.Nests.{AreAt, LoopStands, LoopStandsIn, Near, RunNest, acts, effect_of, variables_round}
use Rattle.nest_order.specs.runs.Stores.{HoldsNest, IsNestIn, Setting}
use Rattle.nest_order.proofs.runs.Results.{runs-append, runs-map}
use Rattle.nest_order.proofs.runs.Variables.{var, variable_is, AreAt-more, AreAt-last, AreAt-put, Near-same, Near-put, Near-variable, Within-more, put_there, scalar_place}
use Rattle.nest_order.proofs.runs.Alike.{effect_there}
use Rattle.nest_order.proofs.runs.Ending.{turns_to, assigned, Chosen, chosen, looped, turned}
use Rattle.nest_order.proofs.runs.Loops.{loop_in, outer_loop}
use Rattle.nest_order.proofs.runs.Holding.{variable_inside, instance_inside, written_elsewhere}

-- ---- a guarded assignment

pub record Effected (bits : ℕ) (g : GuardedAssignment) (s t : State) : Type 0 where
  pub write : Option (Cell × Value)
  pub from : s.way ≡ Going
  pub effect : effect (sequential bits) g s.store ≡ Ok write
  pub store : t.store ≡ after write s.store

whole_effect : (bits : ℕ) (r : Rattle.tree.specs.Plain.Reference) (e : Expression) (s : Store) (c : Cell) (v : Value) → value_of (sequential bits) e s ≡ Ok v → cell_named (sequential bits) r s ≡ Ok c → is_in_range bits v ≡ true
    → assigned_if (sequential bits) true r e s ≡ Ok (Some (c, v))
whole_effect bits r e s c v f g h = rw (f, g, h) refl

pub effected : (bits line : ℕ) (m : Option Mark) (g : GuardedAssignment) (s : State) → (does (sequential bits) None (guarded_statement line m g) s).way ≡ Going → Effected bits g s (does (sequential bits) None (guarded_statement line m g) s)
effected bits line m g s w = by g.guard w
  where
    by : (o : Option Expression) → (does (sequential bits) None (guarded_statement line m (record { guard = o; left = g.left; right = g.right })) s).way ≡ Going
        → Effected bits (record { guard = o; left = g.left; right = g.right }) s (does (sequential bits) None (guarded_statement line m (record { guard = o; left = g.left; right = g.right })) s)
    by None w =
        let a = assigned bits line m g.left g.right s w in
        record { write = Some (a.cell, a.value); from = a.from; effect = whole_effect bits g.left g.right s.store a.cell a.value a.gives a.place a.range; store = a.store }
    by (Some e) w = on (chosen bits line e (statement (Assignment line m g.left g.right) no_statements) s w)
      where
        on : Chosen bits e (statement (Assignment line m g.left g.right) no_statements) s (does (sequential bits) None (guarded_statement line m (record { guard = Some e; left = g.left; right = g.right })) s)
            → Effected bits (record { guard = Some e; left = g.left; right = g.right }) s (does (sequential bits) None (guarded_statement line m (record { guard = Some e; left = g.left; right = g.right })) s)
        on c = choice c.truth c.gives c.is
          where
            choice : (b : Bool) → truth_of (sequential bits) e s.store ≡ Ok b
                → does (sequential bits) None (guarded_statement line m (record { guard = Some e; left = g.left; right = g.right })) s ≡ either b (does_all (sequential bits) None (statement (Assignment line m g.left g.right) no_statements)) nothing (record s { steps = s.steps + 1 })
                → Effected bits (record { guard = Some e; left = g.left; right = g.right }) s (does (sequential bits) None (guarded_statement line m (record { guard = Some e; left = g.left; right = g.right })) s)
            choice false f q = record { write = None; from = c.from; effect = rw f refl; store = ap (λ (z : State). z.store) q }
            choice true f q =
                let s1 : State = record s { steps = s.steps + 1 } in
                let a = assigned bits line m g.left g.right s1 (subst (λ (z : State). z.way ≡ Going) q w) in
                record {
                  write = Some (a.cell, a.value);
                  from = c.from;
                  effect = ap (λ r. do x ← r; assigned_if (sequential bits) x g.left g.right s.store) f ∙ whole_effect bits g.left g.right s.store a.cell a.value a.gives a.place a.range;
                  store = ap (λ (z : State). z.store) q ∙ a.store;
                }

-- ---- the nest

pub one_more : (i : ℕ) → pos i +ℤ pos 1 ≡ pos (suc i)
one_more i = pos-+ℤ-pos i 1 ∙ ap pos (let e : i + 1 ≡ suc i = omega arith in e)

pub number_is : (z : Value) (k m : ℤ) → z ≡ Int k → as_number z ≡ Ok m → m ≡ k
number_is z k m e f = by (sym f ∙ ap as_number e)
  where
    by : ◌≡◌ {A = Result ℤ Fault} (Ok m) (Ok k) → m ≡ k
    by e = cc

module _ (bits : ℕ) (n : RunNest) (w : Setting) (ok : IsNestIn bits n w) where
  abbrev pub trip : ℕ → List ℕ → ℕ
  trip = n.turns_of w.values

  abbrev pub Inside : Store → Type 0
  Inside = HoldsNest bits n w

  abbrev pub at : List ℕ → Instance → Instance
  at before x = record { statement = x.statement; iterations = before ++ x.iterations }

  abbrev pub here : List ℕ → Instance → Store → Result Store Fault
  here before = acts_at bits n w before

  -- a shape's statements and loops are those of the nest, in their own loops
  pub record Lies (round : List ℕ) (t : Shape) : Type 0 where
    pub statements_there : (s : ℕ) (ls : List ℕ) → Stands t s ls → In s (statements n.shape) × (n.loops_of s ≡ round ++ ls)
    pub loops_there : (ls : List ℕ) (l : ℕ) → LoopStands t ls l → LoopStands n.shape (round ++ ls) l

  pub record LieIn (round : List ℕ) (ts : Shapes) : Type 0 where
    pub statements_there : (s : ℕ) (ls : List ℕ) → StandsIn ts s ls → In s (statements n.shape) × (n.loops_of s ≡ round ++ ls)
    pub loops_there : (ls : List ℕ) (l : ℕ) → LoopStandsIn ts ls l → LoopStands n.shape (round ++ ls) l

  pub lies_body : (l : ℕ) (ts : Shapes) (round : List ℕ) → Lies round (Loop l ts) → LieIn (round ++ l ∷ []) ts
  lies_body l ts round h = record {
    statements_there = λ s ls k. (let a = h.statements_there s (l ∷ ls) (refl, k) in (a.0, a.1 ∙ sym (append_assoc round (l ∷ []) ls)));
    loops_there = λ ls m k. subst (λ zs. LoopStands n.shape zs m) (sym (append_assoc round (l ∷ []) ls)) (h.loops_there (l ∷ ls) m (refl, k));
  }

  pub lies_first : (t : Shape) (ts : Shapes) (round : List ℕ) → LieIn round (shape t ts) → Lies round t
  lies_first t ts round h = record { statements_there = λ s ls k. h.statements_there s ls (inl k); loops_there = λ ls l k. h.loops_there ls l (inl k) }

  pub lies_rest : (t : Shape) (ts : Shapes) (round : List ℕ) → LieIn round (shape t ts) → LieIn round ts
  lies_rest t ts round h = record { statements_there = λ s ls k. h.statements_there s ls (inr k); loops_there = λ ls l k. h.loops_there ls l (inr k) }

  -- of a loop of the nest
  pub there : (round : List ℕ) (l : ℕ) → LoopStands n.shape round l → In l (loops_of_shape n.shape)
  there round l h = loop_in n.shape round l h

  pub rounds : (round : List ℕ) (l : ℕ) → LoopStands n.shape round l → (m : ℕ) → In m round → In m (loops_of_shape n.shape)
  rounds round l h m i = (outer_loop n.shape round l m ok.text.nest.single h i).0

  -- its variable isn't that of a loop round it
  pub fresh : (round : List ℕ) (l : ℕ) → LoopStands n.shape round l → ¬ (In (var n l) (map (var n) round))
  fresh round l h i =
      let o = Rattle.nest_order.proofs.orders.Membership.In-map (var n) (var n l) round i in
      let r = outer_loop n.shape round l o.it ok.text.nest.single h o.inside in
      r.1 (sym (ok.text.variables l o.it (there round l h) r.0 (ap (λ (c : Cell). c.name) o.is)))

  pub loop_of_lying : (l : ℕ) (ts : Shapes) (round : List ℕ) → Lies round (Loop l ts) → LoopStands n.shape round l
  loop_of_lying l ts round h = subst (λ zs. LoopStands n.shape zs l) (append-nil round) (h.loops_there [] l refl)

  -- what the loops of a statement are at holds after an instance's write
  pub at_after : (round before : List ℕ) (x : Instance) → IsInstance n.loops_of trip n.shape x → (s : Store) (c : Cell) (v : Value) → ((m : ℕ) → In m round → In m (loops_of_shape n.shape))
      → effect_of n (sequential bits) x s ≡ Ok (Some (c, v)) → AreAt n round before s → AreAt n round before (put c v s)
  at_after round before x is s c v known e h = AreAt-put n round before c v s
      (λ i. (let o = Rattle.nest_order.proofs.orders.Membership.In-map (var n) c round i in written_elsewhere bits n w ok x is s c v e o.it (known o.it o.inside) o.is)) h

  -- ---- the run

  pub record Done (round before : List ℕ) (xs : List Instance) (t s : Store) : Type 0 where
    pub store : Store
    pub ran : runs (here before) xs t ≡ Ok store
    pub near : Near n store s
    pub holds : AreAt n round before s
    pub inside : Inside s

  abbrev pub Bridged : List ℕ → List ℕ → List Instance → Act → Type 0
  Bridged round before xs act = (t : Store) (s : State) → Near n t s.store → AreAt n round before s.store → Inside s.store → (act s).way ≡ Going → Done round before xs t (act s).store

  -- the loops round a place are loops of the nest, within their trips
  pub record Placed (round before : List ℕ) : Type 0 where
    pub known : (m : ℕ) → In m round → In m (loops_of_shape n.shape)
    pub within : Within trip [] round before

  leaf : (y : Layout) (s : ℕ) (round before : List ℕ) → In s (statements n.shape) → n.loops_of s ≡ round → Placed round before
      → Bridged round before (record { statement = s; iterations = [] } ∷ []) (does (sequential bits) None (statement_of n y s))
  leaf y s round before i fits placed t u near holds inside go =
      let e = effected bits (y.line_at s) (y.mark_at s) (n.statement_at s) u go in
      let holds' : AreAt n (n.loops_of s) before u.store = subst (λ ls. AreAt n ls before u.store) (sym fits) holds in
      let same_t = effect_there bits n ok.text s i before t u.store near holds' in
      let same_u = effect_there bits n ok.text s i before u.store u.store (Near-same n u.store) holds' in
      let here_t = subst (λ is. effect (sequential bits) (n.statement_at s) (at_iterations (variables_round n s) is t) ≡ Ok e.write) (sym (append-nil before)) (same_t ∙ e.effect) in
      finish e.write (same_u ∙ e.effect) e.store here_t
    where
      it : Instance
      it = record { statement = s; iterations = before }

      is_it : IsInstance n.loops_of trip n.shape (record { statement = s; iterations = before })
      is_it = (i, subst (λ ls. Within trip [] ls before) (sym fits) placed.within)

      finish : (o : Option (Cell × Value)) → effect_of n (sequential bits) (record { statement = s; iterations = before }) u.store ≡ Ok o → (does (sequential bits) None (statement_of n y s) u).store ≡ after o u.store
          → effect (sequential bits) (n.statement_at s) (at_iterations (variables_round n s) (before ++ []) t) ≡ Ok o
          → Done round before (record { statement = s; iterations = [] } ∷ []) t (does (sequential bits) None (statement_of n y s) u).store
      finish None e f g = subst (Done round before (record { statement = s; iterations = [] } ∷ []) t) (sym f) (record {
        store = t;
        ran = ap (λ r. and_then (do o ← r; Ok (after o t)) (runs (here before) [])) g;
        near = near;
        holds = holds;
        inside = inside;
      })
      finish (Some (c, v)) e f g = subst (Done round before (record { statement = s; iterations = [] } ∷ []) t) (sym f) (record {
        store = put c v t;
        ran = ap (λ r. and_then (do o ← r; Ok (after o t)) (runs (here before) [])) g;
        near = Near-put n c v t u.store near;
        holds = at_after round before (record { statement = s; iterations = before }) is_it u.store c v placed.known e holds;
        inside = instance_inside bits n w ok (record { statement = s; iterations = before }) is_it u.store c v inside e;
      })

  -- ---- where a run goes on at the end, it did at the beginning

  pub statement_from : (y : Layout) (t : Shape) (round : List ℕ) (s : State) → (does (sequential bits) None (nest_statement n y round t) s).way ≡ Going → s.way ≡ Going
  statement_from y (Single r) round s go = (effected bits (y.line_at r) (y.mark_at r) (n.statement_at r) s go).from
  statement_from y (Loop l ts) round s go = (looped bits (y.loop_line l) (n.variable_at l) (n.trip_at l) (nest_block n y (round ++ l ∷ []) ts) s go).from

  pub block_from : (y : Layout) (ts : Shapes) (round : List ℕ) (s : State) → (does_all (sequential bits) None (nest_block n y round ts) s).way ≡ Going → s.way ≡ Going
  block_from y no_shapes round s go = go
  block_from y (shape t ts) round s go = statement_from y t round s (block_from y ts round (does (sequential bits) None (nest_statement n y round t) s) go)

  pub turns_from : (line k : ℕ) (x : List ℕ) (body : Act) (s : State) → (repeated k (turn (sequential bits) None line x (pos 1) body) s).way ≡ Going → s.way ≡ Going
  turns_from line zero x body s go = go
  turns_from line (suc k) x body s go = (turned bits line x body s (turns_from line k x body (turn (sequential bits) None line x (pos 1) body s) go)).from

  -- ---- a loop

  module _ (line l : ℕ) (round before : List ℕ) (lies : LoopStands n.shape round l) (body : Act) (f : ℕ → List Instance) where
    pub in_turn : (i : ℕ) → (x : Instance) (s : Store) → here before (within_turn i x) s ≡ here (before ++ i ∷ []) x s
    in_turn i x s = ap (λ is. acts n (sequential bits) (record { statement = x.statement; iterations = is }) s) (sym (append_assoc before (i ∷ []) x.iterations))

    -- one turn
    pub record Turn (i : ℕ) (t : Store) (s : State) : Type 0 where
      pub within : (body (record s { steps = s.steps + 1 })).way ≡ Going
      pub done : Done (round ++ l ∷ []) (before ++ i ∷ []) (f i) t (body (record s { steps = s.steps + 1 })).store
      pub is : (turn (sequential bits) None line (n.variable_at l) (pos 1) body s).store ≡ put (var n l) (Int (pos (suc i))) (body (record s { steps = s.steps + 1 })).store
      pub near : Near n done.store (turn (sequential bits) None line (n.variable_at l) (pos 1) body s).store
      pub holds : AreAt n round before (turn (sequential bits) None line (n.variable_at l) (pos 1) body s).store
      pub variable : (turn (sequential bits) None line (n.variable_at l) (pos 1) body s).store.held (var n l) ≡ Int (pos (suc i))
      pub inside : Inside (turn (sequential bits) None line (n.variable_at l) (pos 1) body s).store

    pub one_turn : (i : ℕ) → Bridged (round ++ l ∷ []) (before ++ i ∷ []) (f i) body → (t : Store) (s : State) → Near n t s.store → AreAt n round before s.store → s.store.held (var n l) ≡ Int (pos i) → Inside s.store
        → (turn (sequential bits) None line (n.variable_at l) (pos 1) body s).way ≡ Going → Turn i t s
    one_turn i each t s near holds at inside go =
        let a = turned bits line (n.variable_at l) body s go in
        let s1 : State = record s { steps = s.steps + 1 } in
        let b = each t s1 near (AreAt-more n round before l i s.store holds at) inside a.within in
        let h = AreAt-last n round before l i (body s1).store b.holds in
        let p : a.cell ≡ var n l = scalar_place ((body s1).store.bounds (n.variable_at l)) (n.variable_at l) [] a.cell (b.inside.bounds (n.variable_at l) ∙ ok.variables l (there round l lies)) a.place in
        let m : a.number ≡ pos i = number_is ((body s1).store.held a.cell) (pos i) a.number (ap ((body s1).store.held) p ∙ h.1) a.gives in
        let value : a.number +ℤ pos 1 ≡ pos (suc i) = ap (λ z. z +ℤ pos 1) m ∙ one_more i in
        let range : is_in_range bits (Int (pos (suc i))) ≡ true = ap (λ z. is_in_range bits (Int z)) (sym value) ∙ a.range in
        let is : (turn (sequential bits) None line (n.variable_at l) (pos 1) body s).store ≡ put (var n l) (Int (pos (suc i))) (body s1).store
        = ap (λ (z : State). z.store) a.is ∙ ap₂ (λ c z. put c (Int z) (body s1).store) p value in
        record {
          within = a.within;
          done = b;
          is = is;
          near = subst (Near n b.store) (sym is) (Near-variable n (var n l) (Int (pos (suc i))) b.store (body s1).store (variable_is n l (there round l lies)) b.near);
          holds = subst (AreAt n round before) (sym is) (AreAt-put n round before (var n l) (Int (pos (suc i))) (body s1).store (fresh round l lies) h.0);
          variable = ap (λ (z : Store). z.held (var n l)) is ∙ put_there (var n l) (Int (pos (suc i))) (body s1).store;
          inside = subst Inside (sym is) (variable_inside bits n w ok l (there round l lies) (pos (suc i)) (body s1).store range b.inside);
        }

    all_turns : (k i : ℕ) → ((j : ℕ) → i ≤ j → j < i + k → Bridged (round ++ l ∷ []) (before ++ j ∷ []) (f j) body) → (t : Store) (s : State) → Near n t s.store → AreAt n round before s.store
        → s.store.held (var n l) ≡ Int (pos i) → Inside s.store → (repeated k (turn (sequential bits) None line (n.variable_at l) (pos 1) body) s).way ≡ Going
        → Done round before (turns i k (λ i. map (within_turn i) (f i))) t (repeated k (turn (sequential bits) None line (n.variable_at l) (pos 1) body) s).store
    all_turns zero i each t s near holds at inside go = record { store = t; ran = refl; near = near; holds = holds; inside = inside }
    all_turns (suc k) i each t s near holds at inside go =
        let one : Act = turn (sequential bits) None line (n.variable_at l) (pos 1) body in
        let a = one_turn i (each i (omega arith) (omega arith)) t s near holds at inside (turns_from line k (n.variable_at l) body (one s) go) in
        let rest = all_turns k (suc i) (λ j p q. each j (omega arith) (omega arith)) a.done.store (one s) a.near a.holds a.variable a.inside go in
        record {
          store = rest.store;
          ran = runs-append (here before) (map (within_turn i) (f i)) (turns (suc i) k (λ i. map (within_turn i) (f i))) t a.done.store rest.store
              (runs-map (here before) (here (before ++ i ∷ [])) (within_turn i) (f i) t (in_turn i) ∙ a.done.ran) rest.ran;
          near = rest.near;
          holds = rest.holds;
          inside = rest.inside;
        }

  -- ---- the nest

  pub placed_more : (round before : List ℕ) (l i : ℕ) → LoopStands n.shape round l → Placed round before → 1 ≤ i → i ≤ trip l before → Placed (round ++ l ∷ []) (before ++ i ∷ [])
  placed_more round before l i lies placed a b = record {
    known = λ m j. by m (Rattle.nest_order.proofs.orders.Lists.In-append m round (l ∷ []) j);
    within = Within-more trip [] round before l i placed.within a b;
  }
    where
      by : (m : ℕ) → In m round ⊎ In m (l ∷ []) → In m (loops_of_shape n.shape)
      by m (inl j) = placed.known m j
      by m (inr (inl e)) = subst (λ z. In z (loops_of_shape n.shape)) (sym e) (there round l lies)
      by m (inr (inr j)) = absurd j

  -- a loop that is come to
  pub record Entered (y : Layout) (l : ℕ) (ts : Shapes) (round before : List ℕ) (s : State) : Type 0 where
    pub top : ℤ
    pub gives : Rattle.meaning.specs.Value.number_of (sequential bits) (n.trip_at l) s.store ≡ Ok top
    pub counts : trip_count (pos 1) top (pos 1) ≡ Ok (trip l before)
    pub start : State
    pub is : does (sequential bits) None (nest_statement n y round (Loop l ts)) s ≡ repeated (trip l before) (turn (sequential bits) None (y.loop_line l) (n.variable_at l) (pos 1) (does_all (sequential bits) None (nest_block n y (round ++ l ∷ []) ts))) start
    pub store : start.store ≡ put (var n l) (Int (pos 1)) s.store
    pub range : is_in_range bits (Int (pos 1)) ≡ true

  pub entered : (y : Layout) (l : ℕ) (ts : Shapes) (round before : List ℕ) (s : State) → LoopStands n.shape round l → Within trip [] round before → AreAt n round before s.store → Inside s.store
      → (does (sequential bits) None (nest_statement n y round (Loop l ts)) s).way ≡ Going → Entered y l ts round before s
  entered y l ts round before s lies within holds inside go =
      let body : Act = does_all (sequential bits) None (nest_block n y (round ++ l ∷ []) ts) in
      let a = looped bits (y.loop_line l) (n.variable_at l) (n.trip_at l) (nest_block n y (round ++ l ∷ []) ts) s go in
      let k : turns_to a.top ≡ trip l before = ok.trips round l before s.store a.top (turns_to a.top) lies within inside holds a.gives a.counts in
      let p : a.cell ≡ var n l = scalar_place (s.store.bounds (n.variable_at l)) (n.variable_at l) [] a.cell (inside.bounds (n.variable_at l) ∙ ok.variables l (there round l lies)) a.place in
      let many : ℕ → State → State = λ m u. repeated m (turn (sequential bits) None (y.loop_line l) (n.variable_at l) (pos 1) body) u in
      let start : State = record s { store = put a.cell (Int (pos 1)) s.store } in
      record {
        top = a.top;
        gives = a.gives;
        counts = a.counts ∙ ap Ok k;
        start = start;
        is = a.is ∙ ap (λ m. many m start) k;
        store = ap (λ c. put c (Int (pos 1)) s.store) p;
        range = a.range;
      }

  mutual
    pub statement_run : (y : Layout) (t : Shape) (round before : List ℕ) → Lies round t → Placed round before → Bridged round before (instances trip t before) (does (sequential bits) None (nest_statement n y round t))
    statement_run y (Single r) round before lies placed t s near holds inside go =
        let a = lies.statements_there r [] refl in leaf y r round before a.0 (a.1 ∙ append-nil round) placed t s near holds inside go
    statement_run y (Loop l ts) round before lies placed t s near holds inside go =
        let stands = loop_of_lying l ts round lies in
        let a = entered y l ts round before s stands placed.within holds inside go in
        let body : Act = does_all (sequential bits) None (nest_block n y (round ++ l ∷ []) ts) in
        let d = all_turns (y.loop_line l) l round before stands body (λ i. instances_in trip ts (before ++ i ∷ [])) (trip l before) 1
        (λ i p q. block_run y ts (round ++ l ∷ []) (before ++ i ∷ []) (lies_body l ts round lies) (placed_more round before l i stands placed p (omega arith)))
        t a.start
        (subst (Near n t) (sym a.store) (Near-variable n (var n l) (Int (pos 1)) t s.store (variable_is n l (there round l stands)) near))
        (subst (AreAt n round before) (sym a.store) (AreAt-put n round before (var n l) (Int (pos 1)) s.store (fresh round l stands) holds))
        (ap (λ (z : Store). z.held (var n l)) a.store ∙ put_there (var n l) (Int (pos 1)) s.store)
        (subst Inside (sym a.store) (variable_inside bits n w ok l (there round l stands) (pos 1) s.store a.range inside))
        (subst (λ (z : State). z.way ≡ Going) a.is go) in
        subst (λ (z : State). Done round before (instances trip (Loop l ts) before) t z.store) (sym a.is) d

    pub block_run : (y : Layout) (ts : Shapes) (round before : List ℕ) → LieIn round ts → Placed round before → Bridged round before (instances_in trip ts before) (does_all (sequential bits) None (nest_block n y round ts))
    block_run y no_shapes round before lies placed t s near holds inside go = record { store = t; ran = refl; near = near; holds = holds; inside = inside }
    block_run y (shape k ts) round before lies placed t s near holds inside go =
        let first : Act = does (sequential bits) None (nest_statement n y round k) in
        let a = statement_run y k round before (lies_first k ts round lies) placed t s near holds inside (block_from y ts round (first s) go) in
        let b = block_run y ts round before (lies_rest k ts round lies) placed a.store (first s) a.near a.holds a.inside go in
        record { store = b.store; ran = runs-append (here before) (instances trip k before) (instances_in trip ts before) t a.store b.store a.ran b.ran; near = b.near; holds = b.holds; inside = b.inside }

  pub nest_lies : Lies [] n.shape
  nest_lies = record {
    statements_there = λ s ls h. (stands_in_statements n.shape s ls h, ok.text.nest.fits s ls h);
    loops_there = λ ls l h. h;
  }

  pub outermost : Placed [] []
  outermost = record { known = λ m i. absurd i; within = tt }

pub run_is_instances : RunIsInstances
run_is_instances bits n w y s ok inside go =
    let d = statement_run bits n w ok y n.shape [] [] (nest_lies bits n w ok) (outermost bits n w ok) s.store s (Near-same n s.store) tt inside go in
    (d.store, d.ran, d.near)
