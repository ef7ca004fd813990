-- A nest with its loops in another order does what the nest does.
use Rattle.std.proofs.Common.{◌≡◌, refl, sym, ap, ◌∙◌, subst, ◌⊎◌, inl, inr, ℕ, zero, suc, ◌≤◌, Bool, true, false, List, [], ◌∷◌, ◌++◌, length, map, Result, Ok, Err, None, Some, Option, arith, append-nil}
use Rattle.tree.specs.declared.ops.Fault.{Fault}
use Rattle.tree.specs.declared.ops.Value.{Value}
use Rattle.tree.specs.Plain.{Reference, Statement}
use Rattle.meaning.specs.Run.{State, Going, does, does_all}
use Rattle.meaning.specs.Store.{Cell, Store, put}
use Rattle.nest_order.specs.orders.Graphs.{Arc, Place}
use Rattle.nest_order.specs.orders.Lists.{Distinct, In}
use Rattle.nest_order.specs.orders.Nests.{IsInstance, Precedes, common}
use Rattle.nest_order.specs.orders.Orders.{MayPass, and_then, runs}
use Rattle.nest_order.specs.orders.Shapes.{Instance, StandsIn, instances, loops_of_shape, no_shapes, shape, statements}
use Rattle.nest_order.proofs.orders.Membership.{In-map, map-In}
use Rattle.nest_order.specs.runs.Blocks.{Layout, nest_block, nest_statement}
use Rattle.nest_order.specs.runs.Forms.{AreCounted}
use Rattle.meaning_laws.specs.arrays.Instances.{after}
use Rattle.tree.specs.Steps.{◌>>=◌}
use Rattle.nest_order.specs.runs.Guarded.{at_iterations, effect, sequential}
use Rattle.nest_order.specs.runs.Laws.{GoesOnNear}
use Rattle.nest_order.specs.runs.Nests.{LoopStands, LoopStandsIn, RunNest, acts, effect_of, is_nest_variable, variable_of, variables_round}
use Rattle.nest_order.specs.runs.Stores.{HoldsNest, IsNestIn, Setting}
use Rattle.nest_order.specs.runs.Touched.{MayMeet, Touches, references_of}
use Rattle.nest_order.proofs.runs.Holding.{instance_inside}
use Rattle.nest_order.proofs.runs.Orders.{passes}
use Rattle.nest_order.proofs.runs.Passing.{invariant}
use Rattle.nest_order.proofs.runs.Runs.{LieIn, nest_lies, outermost, run_is_instances, statement_from}
use Rattle.nest_order.proofs.runs.Touching.{ReadBy, WrittenBy, reading, writing}
use Rattle.nest_order.proofs.runs.Translating.{written_back_in}
use Rattle.nest_order.proofs.runs.Variables.{In-one_of, Near-same, one_of-In}
use Rattle.interchange_laws.specs.orders.Laws.{KeepsVectors, other_order}
use Rattle.interchange_laws.specs.orders.Moves.{rearranged, restored, restored_instance}
use Rattle.interchange_laws.specs.orders.Vectors.{DependsByArcs}
use Rattle.interchange_laws.proofs.orders.Anyway.{any_order_by_vectors}
use Rattle.interchange_laws.proofs.orders.Chains.{HasLoop, chain_loops}
use Rattle.interchange_laws.proofs.orders.Meeting.{Joined, meeting_is_joined, within-length}
use Rattle.interchange_laws.proofs.orders.Moves.{In_rearranged, rearranged_length, rearranged_restored}
use Rattle.interchange_laws.proofs.orders.Rearranged.{rearranged_order_keeps_vectors}
use Rattle.interchange_laws.specs.runs.Laws.{ExchangedLoopsGiveStore, ExchangedLoopsKeepMeaning, MayExchange}
use Rattle.interchange_laws.specs.runs.Nests.{rearranged_nest}
use Rattle.interchange_laws.proofs.runs.Acts.{at_rearranged, distinct_variables, map_rearranged}
use Rattle.interchange_laws.proofs.runs.Arcs.{chain_arc, loops_are}
use Rattle.interchange_laws.proofs.runs.Deciding.{Decided, depends_or_not, same}

module _ (bits : ℕ) (n : RunNest) (w : Setting) (l : ℕ) (ls ss ps : List ℕ) (arcs : List Arc) (may : MayExchange bits n w l ls ss ps arcs) where
  abbrev trip : ℕ → List ℕ → ℕ
  trip = n.turns_of w.values

  abbrev IsIt : Instance → Type 0
  IsIt = IsInstance n.loops_of trip n.shape

  abbrev count : ℕ → ℕ
  count s = length (references_of n s)

  has : HasLoop (l ∷ ls)
  has = record { first = l; rest = ls; is = refl }

  round : (s : ℕ) → In s (statements n.shape) → n.loops_of s ≡ l ∷ ls
  round s i = loops_are n.loops_of n.turns_of count (Touches n) (l ∷ ls) ss has n.shape may.chain may.nest.text.nest s i

  -- where they meet, an arc that is no antidependence of a statement on itself asks for their order
  meets : (x y : Instance) → IsIt x → IsIt y → Precedes (common n.loops_of) x y → MayMeet n w.values x y → DependsByArcs may.kept x y
  meets x y a b before meet = by (same x.statement y.statement) (same meet.0 0)
    where
      joined : (m : MayMeet n w.values x y) → Joined arcs m.0 m.1 x y
      joined m = meeting_is_joined n.loops_of n.turns_of count (Touches n) n.shape arcs may.edges w.values x y a b before m

      asks : (p q : ℕ) → ((x.statement ≡ y.statement) → p ≡ 0) → Joined arcs p q x y → DependsByArcs may.kept x y
      asks p q own j = (
        j.arc,
        may.others.others j.arc j.listed (λ anti. anti.read (ap (λ (z : Place). z.reference) j.from
            ∙ own (sym (ap (λ (z : Place). z.statement) j.from) ∙ (anti.same ∙ ap (λ (z : Place). z.statement) j.to)))),
        (ap (λ (z : Place). z.statement) j.from, ap (λ (z : Place). z.statement) j.to, j.signed),
      )

      by : Decided (x.statement ≡ y.statement) → Decided (meet.0 ≡ 0) → DependsByArcs may.kept x y
      by (inr other) d = asks meet.0 meet.1 (λ e. absurd (other e)) (joined meet)
      by (inl e) (inl zeroth) = asks meet.0 meet.1 (λ f. zeroth) (joined meet)
      by (inl e) (inr nonzero) =
          asks 0 0 (λ f. refl) (meeting_is_joined n.loops_of n.turns_of count (Touches n) n.shape arcs may.edges w.values x y a b before
          (0, 0, meet.2, inl refl, omega arith, omega arith, first_touch meet.0 meet.1 meet.2 e nonzero meet.3 meet.6 meet.7, second_touch meet.0 meet.1 meet.2 nonzero meet.3 meet.7))
        where
          first_touch : (p q : ℕ) (c : Cell) → x.statement ≡ y.statement → ¬ (p ≡ 0) → (p ≡ 0) ⊎ (q ≡ 0) → Touches n w.values p x c → Touches n w.values q y c → Touches n w.values 0 x c
          first_touch zero q c e nonzero h t u = absurd (nonzero refl)
          first_touch (suc p) (suc q) c e nonzero (inl h) t u = absurd (nonzero h)
          first_touch (suc p) (suc q) c e nonzero (inr h) t u = absurd (omega arith)
          first_touch (suc p) zero c e nonzero h t u =
              let left_is : (n.statement_at y.statement).left ≡ u.0 = some_same (n.statement_at y.statement).left u.0 u.1 in
              let name : t.0.name ≡ (n.statement_at x.statement).left.name =
              sym t.2.name ∙ (u.2.name ∙ (ap (λ (r : Reference). r.name) (sym left_is) ∙ ap (λ s. (n.statement_at s).left.name) (sym e))) in
              ((n.statement_at x.statement).left, refl, (may.reads x.statement p t.0 w.values x.iterations c a.0 t.1 name t.2))
            where
              some_same : (r q : Reference) → ◌≡◌ {A = Option Reference} (Some r) (Some q) → r ≡ q
              some_same r q e = cc

          second_touch : (p q : ℕ) (c : Cell) → ¬ (p ≡ 0) → (p ≡ 0) ⊎ (q ≡ 0) → Touches n w.values q y c → Touches n w.values 0 y c
          second_touch p q c nonzero (inl h) u = absurd (nonzero h)
          second_touch p q c nonzero (inr h) u = subst (λ k. Touches n w.values k y c) h u

  ordered : (x y : Instance) → IsIt x → IsIt y → Precedes (common n.loops_of) x y → DependsByArcs may.kept x y ⊎ MayPass (acts n (sequential bits)) (HoldsNest bits n w) x y
  ordered x y a b before = by (depends_or_not x y may.kept)
    where
      by : Decided (DependsByArcs may.kept x y) → DependsByArcs may.kept x y ⊎ MayPass (acts n (sequential bits)) (HoldsNest bits n w) x y
      by (inl h) = inl h
      by (inr none) = inr (passes bits n w may.nest x y a b (λ m. none (meets x y a b before m)))

  kept : (x : Instance) (s : Store) (c : Cell) (v : Value) → IsIt x → HoldsNest bits n w s → effect_of n (sequential bits) x s ≡ Ok (Some (c, v)) → HoldsNest bits n w (put c v s)
  kept x s c v is i e = instance_inside bits n w may.nest x is s c v i e

  keeps : KeepsVectors n.loops_of trip n.shape may.kept (other_order trip ps (l ∷ ls) ss)
  keeps = subst (λ t. KeepsVectors n.loops_of trip t may.kept (other_order trip ps (l ∷ ls) ss)) (sym may.chain)
      (rearranged_order_keeps_vectors n.loops_of trip l ls ss ps may.turns may.kept (subst (Rattle.nest_order.specs.orders.Nests.IsNest n.loops_of) may.chain may.nest.text.nest) may.rectangular
      (λ a i. chain_arc n.loops_of n.turns_of count (Touches n) (l ∷ ls) ss has n.shape may.chain may.nest.text.nest arcs may.edges a (may.others.among a i)) may.may)

  other_store : (s u : Store) → HoldsNest bits n w s → runs (acts n (sequential bits)) (instances trip n.shape []) s ≡ Ok u → runs (acts n (sequential bits)) (other_order trip ps (l ∷ ls) ss) s ≡ Ok u
  other_store s u inside e = any_order_by_vectors n.loops_of trip n.shape may.nest.text.nest may.kept Store Fault (acts n (sequential bits)) (HoldsNest bits n w)
      (invariant (sequential bits) n IsIt (ReadBy bits n w may.nest) (WrittenBy bits n w may.nest) (HoldsNest bits n w) (reading bits n w may.nest) (writing bits n w may.nest) kept) ordered
      (other_order trip ps (l ∷ ls) ss) keeps s u inside e

  -- ---- the same acts

  abbrev other : RunNest
  other = rearranged_nest ps n (l ∷ ls) ss

  loops_here : loops_of_shape n.shape ≡ l ∷ ls
  loops_here = ap loops_of_shape may.chain ∙ chain_loops (l ∷ ls) ss has

  variables_apart : Distinct (map n.variable_at (l ∷ ls))
  variables_apart = distinct_variables n.variable_at (l ∷ ls) (λ a b i j e. may.nest.text.variables a b (subst (In a) (sym loops_here) i) (subst (In b) (sym loops_here) j) e) (subst Distinct loops_here may.nest.text.nest.single)

  -- in the instances that there are
  same_acts : (x : Instance) → In (restored_instance ps x) (other_order trip ps (l ∷ ls) ss) → (s : Store) → acts n (sequential bits) (restored_instance ps x) s ≡ acts other (sequential bits) x s
  same_acts x i s =
      let is = (keeps.instances.each (restored_instance ps x)).0 i in
      let e = round x.statement is.0 in
      let long : length (restored ps x.iterations) ≡ length (n.loops_of x.statement) = within-length trip [] (n.loops_of x.statement) (restored ps x.iterations) is.1 in
      let apart : Distinct (variables_round n x.statement) = subst (λ zs. Distinct (map n.variable_at zs)) (sym e) variables_apart in
      let size : length (variables_round n x.statement) ≡ length (restored ps x.iterations) = map_length n.variable_at (n.loops_of x.statement) ∙ sym long in
      let there : at_iterations (rearranged ps (variables_round n x.statement)) (rearranged ps (restored ps x.iterations)) s ≡ at_iterations (variables_round n x.statement) (restored ps x.iterations) s =
      at_rearranged ps (variables_round n x.statement) (restored ps x.iterations) s apart size in
      let names : variables_round other x.statement ≡ rearranged ps (variables_round n x.statement) = map_rearranged n.variable_at ps (n.loops_of x.statement) in
      let stores : at_iterations (variables_round n x.statement) (restored ps x.iterations) s ≡ at_iterations (variables_round other x.statement) x.iterations s =
      sym there ∙ (ap (λ zs. at_iterations (rearranged ps (variables_round n x.statement)) zs s) (rearranged_restored ps x.iterations) ∙ ap (λ zs. at_iterations zs x.iterations s) (sym names)) in
      ap (λ t. effect (sequential bits) (n.statement_at x.statement) t >>= λ o. Ok (after o s)) stores
    where
      map_length : {X Y : Type 0} (f : X → Y) (xs : List X) → length (map f xs) ≡ length xs
      map_length f [] = refl
      map_length f (x ∷ xs) = ap suc (map_length f xs)

  same_runs : (xs : List Instance) → ((x : Instance) → In x xs → In (restored_instance ps x) (other_order trip ps (l ∷ ls) ss)) → (s : Store)
      → runs (acts n (sequential bits)) (map (restored_instance ps) xs) s ≡ runs (acts other (sequential bits)) xs s
  same_runs [] are s = refl
  same_runs (x ∷ xs) are s =
      ap (λ r. and_then r (runs (acts n (sequential bits)) (map (restored_instance ps) xs))) (same_acts x (are x (inl refl)) s)
      ∙ by (acts other (sequential bits) x s) (λ m. same_runs xs (λ y i. are y (inr i)) m)
    where
      by : (r : Result Store Fault) → ((m : Store) → runs (acts n (sequential bits)) (map (restored_instance ps) xs) m ≡ runs (acts other (sequential bits)) xs m)
          → and_then r (runs (acts n (sequential bits)) (map (restored_instance ps) xs)) ≡ and_then r (runs (acts other (sequential bits)) xs)
      by (Ok m) more = more m
      by (Err f) more = refl

  pub exchanged_store : (s u : Store) → HoldsNest bits n w s → runs (acts n (sequential bits)) (instances trip n.shape []) s ≡ Ok u
      → runs (acts other (sequential bits)) (instances trip other.shape []) s ≡ Ok u
  exchanged_store s u inside e = sym (same_runs (instances trip other.shape []) (λ x i. map-In (restored_instance ps) x (instances trip other.shape []) i) s) ∙ other_store s u inside e

  -- ---- the run

  -- the two nests have the same loop variables
  same_variables : (c : Cell) → is_nest_variable n c ≡ false → is_nest_variable other c ≡ false
  same_variables c e = by (is_nest_variable other c) refl
    where
      other_loops : loops_of_shape other.shape ≡ rearranged ps (l ∷ ls)
      other_loops = chain_loops (rearranged ps (l ∷ ls)) ss (has_too (rearranged ps (l ∷ ls)) (rearranged_length ps (l ∷ ls)))
        where
          has_too : (ms : List ℕ) → length ms ≡ suc (length ls) → HasLoop ms
          has_too [] f = absurd (omega arith)
          has_too (m ∷ ms) f = record { first = m; rest = ms; is = refl }

      true_false : true ≡ false → ⊥
      true_false f = cc

      here : (zs : List ℕ) → zs ≡ rearranged ps (l ∷ ls) → In c (map (variable_of n) zs) → In c (map (variable_of n) (loops_of_shape n.shape))
      here zs f i =
          let o = In-map (variable_of n) c zs i in
          let j : In o.it (l ∷ ls) = In_rearranged o.it ps (l ∷ ls) (subst (In o.it) f o.inside) in
          subst (λ z. In z (map (variable_of n) (loops_of_shape n.shape))) (sym o.is) (map-In (variable_of n) o.it (loops_of_shape n.shape) (subst (In o.it) (sym loops_here) j))

      by : (b : Bool) → is_nest_variable other c ≡ b → is_nest_variable other c ≡ false
      by false f = f
      by true f =
          let i = one_of-In (map (variable_of other) (loops_of_shape other.shape)) c f in
          let g : is_nest_variable n c ≡ true = In-one_of (map (variable_of n) (loops_of_shape n.shape)) c (here (loops_of_shape other.shape) other_loops i) in
          absurd (true_false (sym g ∙ e))

  pub exchanged_run : (y z : Layout) (s : State) → 31 ≤ bits → HoldsNest bits n w s.store → IsNestIn bits other w → AreCounted bits other w [] [] other.shape
      → (does (sequential bits) None (nest_statement n y [] n.shape) s).way ≡ Going
      → GoesOnNear n (does (sequential bits) None (nest_statement n y [] n.shape) s) (does_all (sequential bits) None (nest_block other z [] (shape other.shape no_shapes)) s)
  exchanged_run y z s wide inside ok counted go =
      let way = statement_from bits n w may.nest y n.shape [] s go in
      let a = run_is_instances bits n w y s may.nest inside go in
      let run = exchanged_store s.store a.0 inside a.1 in
      let lies : LieIn bits other w ok [] (shape other.shape no_shapes) = record {
        statements_there = λ s ls h. (by_statement s ls h);
        loops_there = λ ls m h. by_loop ls m h;
      } in
      let holds : HoldsNest bits other w s.store = record { program = inside.program; bounds = inside.bounds; symbols = inside.symbols } in
      let b = written_back_in bits false other w ok wide z (λ r t. None) (λ r before t c s u f. no_form c f) (shape other.shape no_shapes) [] [] lies (outermost bits other w ok) (counted, tt)
      s.store a.0 s (Near-same other s.store) tt holds way (append_nil_run run) in
      record {
        way = b.way;
        near = record { bounds = λ x. sym (a.2.bounds x) ∙ b.near.bounds x; held = λ c e. sym (a.2.held c e) ∙ b.near.held c (same_variables c e) };
      }
    where
      no_form : {A : Type 0} (c : Statement) → ◌≡◌ {A = Option Statement} None (Some c) → A
      no_form c f = absurd (some_none f)
        where
          some_none : ◌≡◌ {A = Option Statement} None (Some c) → ⊥
          some_none f = cc

      by_statement : (s : ℕ) (ls : List ℕ) → StandsIn (shape other.shape no_shapes) s ls → In s (statements other.shape) × (other.loops_of s ≡ ls)
      by_statement s ls (inl h) = (nest_lies bits other w ok).statements_there s ls h
      by_statement s ls (inr h) = absurd h

      by_loop : (ls : List ℕ) (m : ℕ) → LoopStandsIn (shape other.shape no_shapes) ls m → LoopStands other.shape ls m
      by_loop ls m (inl h) = h
      by_loop ls m (inr h) = absurd h

      append_nil_run : {u : Store} → runs (acts other (sequential bits)) (instances trip other.shape []) s.store ≡ Ok u → runs (acts other (sequential bits)) (instances trip other.shape [] ++ []) s.store ≡ Ok u
      append_nil_run {u} e = subst (λ xs. runs (acts other (sequential bits)) xs s.store ≡ Ok u) (sym (append-nil (instances trip other.shape []))) e

pub exchanged_loops_give_store : ExchangedLoopsGiveStore
exchanged_loops_give_store bits n w l ls ss ps arcs s u may inside e = exchanged_store bits n w l ls ss ps arcs may s u inside e

pub exchanged_loops_keep_meaning : ExchangedLoopsKeepMeaning
exchanged_loops_keep_meaning bits n w l ls ss ps arcs y z s wide may inside ok counted go = exchanged_run bits n w l ls ss ps arcs may y z s wide inside ok counted go
