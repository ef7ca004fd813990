-- A nest with masks in place of its IFs and jumps may stand for the nest.
use Rattle.std.proofs.Common.{◌≡◌, refl, sym, ap, subst, ◌∙◌, inl, ℕ, ◌≤◌, ◌^◌, Bool, true, true≢false, cond, is_some, Contains, List, [], ◌∷◌, ◌++◌, Option, Some, None, IfSome, IsSomeAnd, Result, Ok, Err, arith}
use Rattle.std.proofs.lemmas.List.Elements.{All-cons, All-head, All-tail}
use Rattle.tree.specs.Operators.{as_truth}
use Rattle.tree.specs.OperationFaults.{kind_of}
use Rattle.tree.specs.Steps.{◌>>=◌}
use Rattle.tree.specs.declared.ops.Fault.{Fault}
use Rattle.tree.specs.declared.ops.Fault.TheVariants.{Overflow}
use Rattle.tree.specs.declared.ops.Kind.TheVariants.{Logical}
use Rattle.tree.specs.declared.ops.Value.{Value}
use Rattle.tree.specs.declared.ops.Value.TheVariants.{Int, Truth}
use Rattle.tree.specs.Plain as P
use Rattle.meaning.specs.Reads.{names_in_block, names_in_statement}
use Rattle.meaning.specs.Dialect.{fortran77}
use Rattle.tree.specs.declared.width.Width.{Width}
use Rattle.meaning.specs.Holding.{HasBounds, HoldsProgram, IsStorable}
use Rattle.meaning.specs.Reads.{names_in, names_in_subscripts}
use Rattle.meaning.specs.Run.{State, Going, does, does_all, then}
use Rattle.meaning.specs.Store.{Cell, Store, names_of, nought_like, put}
use Rattle.meaning.specs.Typed.{declared}
use Rattle.meaning.specs.Value.{cell_named, is_in_range, truth_of, value_of}
use Rattle.rewrite.specs.Following.{IsSound, sequential}
use Rattle.rewrite.proofs.Acts.{Stays-does_all}
use Rattle.nest.specs.Allocations.{allocation_then, allocations_then, block_then, deallocation_then, deallocations}
use Rattle.nest.specs.Blocks.{block_of_nest, statement_of_part}
use Rattle.nest.specs.Bodies.{loops_in_branches, loops_in_parts, loops_of}
use Rattle.nest.specs.Plain.{Branches, no_branches, branch, Loop, Made, Nest, Part, Run, Turns, Choice, Label, Jump, Parts, no_parts, part}
use Rattle.nest_order.specs.runs.Guarded as runs
use Rattle.nest_order.specs.runs.Guarded.{effect}
use Rattle.nest_order.proofs.runs.Alike.{effect_alike, value_alike}
use Rattle.nest_order.proofs.runs.Results.{both_ok, ok_same}
use Rattle.nest_order.proofs.runs.Variables.{cell_name}
use Rattle.nest_steps.specs.Keeping.{GoOnAlike, Place, Starts}
use Rattle.nest_steps.specs.Leading.{Led, Leads}
use Rattle.nest_steps.proofs.Acts.{Lands, Leads-assignment, Leads-chooses, Leads-from, Leads-nothing, Leads-then}
use Rattle.pass_laws.specs.branch_meaning.Jumps.{AllJumpAhead, JumpsAhead}
use Rattle.pass_laws.proofs.BranchMeaning.Ways.{none_left, none_right}
use Rattle.pass_laws.specs.prepared_nests.After.{AreEndings, IsEnding}
use Rattle.if_convert.specs.Converted.{converted_loop, converted_nest}
use Rattle.if_convert.specs.Masks.{mask_name}
use Rattle.prepared_passes.specs.conversion.Branching.{AreUnguarded, BranchesAreUnguarded, IsBranching, IsUnguarded}
use Rattle.prepared_passes.specs.conversion.Laws.{ConvertedMayStandFor}
use Rattle.prepared_passes.specs.conversion.Places.{AddsMasks, IsMask}
use Rattle.prepared_passes.proofs.ConvertedNests.Goes.{AreStraight, IsStraight, like_names, loop_leads, parts_go, placed_beside}
use Rattle.prepared_passes.proofs.ConvertedNests.Masked.{AreBeside, IsFree, IsOther, NamesOthers, flag}
use Rattle.prepared_passes.proofs.ConvertedNests.Moments.{AreLoopless, BranchesAreLoopless, IsLoopless}
use Rattle.prepared_passes.proofs.ConvertedNests.Names.{Clear, each, first_clear, front, made_clear, part_free, rest}
use Rattle.tree.specs.Widths.{bits_of}

-- ---- which parts have no loops

mutual
  part_loopless : (p : Part) → IsUnguarded p → loops_of p ≡ [] → IsLoopless p
  part_loopless (Run g) h e = h
  part_loopless (Turns l ps) h e = let z : ⊥ = cc in absurd z
  part_loopless (Choice bs other) h e = (
    h.0,
    branches_loopless bs h.1 (none_left (loops_in_branches bs) (loops_in_parts other) e),
    parts_loopless other h.2 (none_right (loops_in_branches bs) (loops_in_parts other) e),
  )
  part_loopless (Label k) h e = tt
  part_loopless (Jump k) h e = tt

  parts_loopless : (ps : Parts) → AreUnguarded ps → loops_in_parts ps ≡ [] → AreLoopless ps
  parts_loopless no_parts h e = tt
  parts_loopless (part p ps) h e = (part_loopless p h.0 (none_left (loops_of p) (loops_in_parts ps) e), parts_loopless ps h.1 (none_right (loops_of p) (loops_in_parts ps) e))

  branches_loopless : (bs : Branches) → BranchesAreUnguarded bs → loops_in_branches bs ≡ [] → BranchesAreLoopless bs
  branches_loopless no_branches h e = tt
  branches_loopless (branch test ps bs) h e =
      (parts_loopless ps h.0 (none_left (loops_in_parts ps) (loops_in_branches bs) e), branches_loopless bs h.1 (none_right (loops_in_parts ps) (loops_in_branches bs) e))

mutual
  pub part_straight : (p : Part) (later : List ℕ) → IsUnguarded p → JumpsAhead later p → IsStraight p
  part_straight (Run g) later h j = h
  part_straight (Turns l ps) later h j = parts_straight ps [] h j
  part_straight (Choice bs other) later h j = part_loopless (Choice bs other) h j.0
  part_straight (Label k) later h j = tt
  part_straight (Jump k) later h j = tt

  parts_straight : (ps : Parts) (later : List ℕ) → AreUnguarded ps → AllJumpAhead later ps → AreStraight ps
  parts_straight no_parts later h j = tt
  parts_straight (part p ps) later h j = (part_straight p _ h.0 j.0, parts_straight ps later h.1 j.1)

-- ---- what stands behind the loops

module _ (bits k0 k1 : ℕ) where
  abbrev like : Store → Store → Type 0
  like = AreBeside k0 k1

  same_value : (e : P.Expression) → NamesOthers (names_in e) → (s u : Store) → AreBeside k0 k1 s u → value_of (sequential bits) e u ≡ value_of (sequential bits) e s
  same_value e o s u h = value_alike bits u s e (like_names bits k0 k1 (names_in e) s u o h)

  same_truth : (e : P.Expression) → NamesOthers (names_in e) → (s u : Store) → AreBeside k0 k1 s u → truth_of (sequential bits) e u ≡ truth_of (sequential bits) e s
  same_truth e o s u h = ap (λ (r : Result Value Fault). do v ← r; as_truth v) (same_value e o s u h)

  same_cell_named : (r : P.Reference) → NamesOthers (r.name ∷ names_in_subscripts r.subscripts) → (s u : Store) → AreBeside k0 k1 s u → (c : Cell) → cell_named (sequential bits) r s ≡ Ok c → cell_named (sequential bits) r u ≡ Ok c
  same_cell_named r o s u h c e =
      let g : runs.GuardedAssignment = record { guard = None; left = r; right = P.Logic true } in
      let one : effect (sequential bits) g s ≡ Ok (Some (c, Truth true)) = ap (λ (q : Result Cell Fault). do d ← q; cond (is_in_range bits (Truth true)) (Ok (Some (d, Truth true))) (Err Overflow)) e in
      let two : effect (sequential bits) g u ≡ Ok (Some (c, Truth true)) = effect_alike bits u s g (like_names bits k0 k1 (r.name ∷ names_in_subscripts r.subscripts) s u o h) ∙ one in
      let p = both_ok (cell_named (sequential bits) r u) (λ d. cond (is_in_range bits (Truth true)) (Ok (Some (d, Truth true))) (Err Overflow)) (Some (c, Truth true)) two in
      let same : Some (p.0, Truth true) ≡ Some (c, Truth true) = ok_same {F = Fault} (Some (p.0, Truth true)) (Some (c, Truth true)) p.2 in
      p.1 ∙ ap Ok (cell_of (p.0, Truth true) (c, Truth true) same)
    where
      cell_of : (x y : Cell × Value) → Some x ≡ Some y → x.0 ≡ y.0
      cell_of x y e = let same : x ≡ y = cc in ap (λ (z : Cell × Value). z.0) same

  cell_other : (r : P.Reference) → IsOther r.name → (s : Store) (c : Cell) → cell_named (sequential bits) r s ≡ Ok c → IsOther c.name
  cell_other r o s c e =
      let p = both_ok (Rattle.meaning.specs.Value.subscript_values (sequential bits) r.subscripts s) (λ is. Rattle.meaning.specs.Store.cell_at r.name is s) c e in
      subst IsOther (sym (cell_name (s.bounds r.name) r.name p.0 c p.2).0) o

  lands : (r : P.Reference) → NamesOthers (r.name ∷ names_in_subscripts r.subscripts) → (s u : Store) → AreBeside k0 k1 s u → (v : Value) (c : Cell) → cell_named (sequential bits) r s ≡ Ok c → Lands bits (AreBeside k0 k1) s u r c v
  lands r o s u h v c e = record {
    cell = c;
    named = same_cell_named r o s u h c e;
    put = λ range. placed_beside bits k0 k1 s u c v (cell_other r (o r.name (inl refl)) s c e) h;
  }

  assignment_leads : (line : ℕ) (m : Option Rattle.tree.specs.declared.stmts.Mark.Mark) (r : P.Reference) (e : P.Expression) → Clear (names_in_statement (P.Assignment line m r e)) → Leads (AreBeside k0 k1) (AreBeside k0 k1) (does (sequential bits) None (P.Assignment line m r e)) (does (sequential bits) None (P.Assignment line m r e))
  assignment_leads line m r e h =
      let tail = All-tail IsOther r.name (names_in_subscripts r.subscripts ++ names_in e) h in
      let left = All-cons IsOther r.name (names_in_subscripts r.subscripts) (All-head IsOther r.name (names_in_subscripts r.subscripts ++ names_in e) h) (front IsOther (names_in_subscripts r.subscripts) (names_in e) tail) in
      let right = each IsOther (names_in e) (rest IsOther (names_in_subscripts r.subscripts) (names_in e) tail) in
      Leads-assignment bits (AreBeside k0 k1) (AreBeside k0 k1) line line m m r r e e
      (λ s u a v f. same_value e right s u a ∙ f)
      (λ s u a v f c g. lands r (each IsOther (r.name ∷ names_in_subscripts r.subscripts) left) s u a v c g)

  mutual
    ending_leads : (c : P.Statement) → IsEnding c → Clear (names_in_statement c) → Leads (AreBeside k0 k1) (AreBeside k0 k1) (does (sequential bits) None c) (does (sequential bits) None c)
    ending_leads (P.Assignment line m r e) h n = assignment_leads line m r e n
    ending_leads (P.If line P.no_arms other) h n = absurd h.0
    ending_leads (P.If line (P.arm test body P.no_arms) P.no_statements) h n =
        let inner = front IsOther (names_in test ++ names_in_block body) [] (front IsOther (names_in test ++ names_in_block body ++ []) [] n) in
        let body_names = rest IsOther (names_in test) (names_in_block body) inner in
        let test_names = each IsOther (names_in test) (front IsOther (names_in test) (names_in_block body) inner) in
        Leads-chooses bits (AreBeside k0 k1) (AreBeside k0 k1) line line test test body body
        (λ s u a x f. same_truth test test_names s u a ∙ f)
        (Leads-from (AreBeside k0 k1) (λ s u. AreBeside k0 k1 s u × (truth_of (sequential bits) test s ≡ Ok true)) (AreBeside k0 k1) _ _ (λ s u a. a.0) (endings_lead body h.0.0 body_names))
        (λ s u a f. a)
    ending_leads (P.If line (P.arm test body (P.arm t b more)) other) h n = absurd h.0.1
    ending_leads (P.If line (P.arm test body P.no_arms) (P.statement c cs)) h n = absurd h.1
    ending_leads (P.Where line m mask l r) h n = absurd h
    ending_leads (P.Do line x a b c body) h n = absurd h
    ending_leads (P.Label k) h n = absurd h
    ending_leads (P.GoTo line k) h n = absurd h
    ending_leads (P.Stop line) h n = absurd h
    ending_leads (P.Read line is) h n = absurd h
    ending_leads (P.Print line is) h n = absurd h
    ending_leads (P.Allocate line x es) h n = absurd h
    ending_leads (P.Deallocate line x) h n = absurd h

    endings_lead : (b : P.Block) → AreEndings b → Clear (names_in_block b) → Leads (AreBeside k0 k1) (AreBeside k0 k1) (does_all (sequential bits) None b) (does_all (sequential bits) None b)
    endings_lead P.no_statements h n = Leads-nothing (AreBeside k0 k1)
    endings_lead (P.statement c cs) h n =
        Leads-then (AreBeside k0 k1) (AreBeside k0 k1) (AreBeside k0 k1) _ _ _ _
        (ending_leads c h.0 (front IsOther (names_in_statement c) (names_in_block cs) n)) (Stays-does_all (sequential bits) None cs)
        (endings_lead cs h.1 (rest IsOther (names_in_statement c) (names_in_block cs) n))

-- ---- the nest as it is run

module _ (bits line : ℕ) where
  allocs : (ms : List Made) (b : P.Block) (s : State) → does_all (sequential bits) None (allocations_then line ms b) s ≡ does_all (sequential bits) None b s
  allocs [] b s = refl
  allocs (m ∷ ms) b s = by m.extents ∙ allocs ms b s
    where
      by : (es : List P.Expression) → does_all (sequential bits) None (allocation_then line m.name es (allocations_then line ms b)) s ≡ does_all (sequential bits) None (allocations_then line ms b) s
      by [] = refl
      by (e ∷ es) = refl

  deallocs : (ms : List Made) (s : State) → does_all (sequential bits) None (deallocations line ms) s ≡ s
  deallocs [] s = refl
  deallocs (m ∷ ms) s = by m.extents ∙ deallocs ms s
    where
      by : (es : List P.Expression) → does_all (sequential bits) None (deallocation_then line m.name es (deallocations line ms)) s ≡ does_all (sequential bits) None (deallocations line ms) s
      by [] = refl
      by (e ∷ es) = refl

  joined : (a b : P.Block) (s : State) → does_all (sequential bits) None (block_then a b) s ≡ does_all (sequential bits) None b (does_all (sequential bits) None a s)
  joined P.no_statements b s = refl
  joined (P.statement c cs) b s = joined cs b (does (sequential bits) None c s)

nest_act : (bits : ℕ) (n : Nest) (s : State) → does_all (sequential bits) None (block_of_nest n) s ≡ does_all (sequential bits) None n.after (does (sequential bits) None (statement_of_part n.line n.body) s)
nest_act bits n s =
    let u = does (sequential bits) None (statement_of_part n.line n.body) s in
    allocs bits n.line n.made (P.statement (statement_of_part n.line n.body) (block_then n.after (deallocations n.line n.made))) s
    ∙ joined bits n.line n.after (deallocations n.line n.made) u
    ∙ deallocs bits n.line n.made (does_all (sequential bits) None n.after u)

module _ (bits masks : ℕ) (n : Nest) (h : IsBranching n) (l : Loop) (ps : Parts) (body : n.body ≡ Turns l ps) (few : (converted_loop n masks l ps).masks ≤ 2 ^ 32) where
  abbrev m : Nest
  m = converted_loop n masks l ps

  straight : AreStraight ps
  straight = part_straight (Turns l ps) [] (subst IsUnguarded body h.unguarded) (subst (JumpsAhead []) body h.jumps)

  behind_clear : Clear (names_in_block (P.statement (statement_of_part n.line n.body) (block_then n.after (deallocations n.line n.made))))
  behind_clear = made_clear n.line n.made (P.statement (statement_of_part n.line n.body) (block_then n.after (deallocations n.line n.made))) h.names

  free : IsFree (Turns l ps)
  free = subst IsFree body (part_free n.line n.body (front IsOther (names_in_statement (statement_of_part n.line n.body)) (names_in_block (block_then n.after (deallocations n.line n.made))) behind_clear))

  after_clear : Clear (names_in_block n.after)
  after_clear = first_clear n.after (deallocations n.line n.made) (rest IsOther (names_in_statement (statement_of_part n.line n.body)) (names_in_block (block_then n.after (deallocations n.line n.made))) behind_clear)

  loop : Leads (AreBeside masks m.masks) (AreBeside masks m.masks) (does (sequential bits) None (statement_of_part n.line n.body)) (does (sequential bits) None (statement_of_part n.line m.body))
  loop = subst (λ b. Leads (AreBeside masks m.masks) (AreBeside masks m.masks) (does (sequential bits) None (statement_of_part n.line b)) (does (sequential bits) None (statement_of_part n.line m.body))) (sym body)
      (loop_leads bits n.line masks m.masks few l ps masks (parts_go bits n.line masks m.masks few ps straight) (subst (JumpsAhead []) body h.jumps) straight free (omega arith) (omega arith))

  pub nest_leads : Leads (AreBeside masks m.masks) (AreBeside masks m.masks) (does_all (sequential bits) None (block_of_nest n)) (does_all (sequential bits) None (block_of_nest (converted_loop n masks l ps)))
  nest_leads = record { at = λ s u i a w e. by s u i a w e }
    where
      both : Leads (AreBeside masks m.masks) (AreBeside masks m.masks) (then (does (sequential bits) None (statement_of_part n.line n.body)) (does_all (sequential bits) None n.after)) (then (does (sequential bits) None (statement_of_part n.line m.body)) (does_all (sequential bits) None n.after))
      both = Leads-then (AreBeside masks m.masks) (AreBeside masks m.masks) (AreBeside masks m.masks) _ _ _ _ loop (Stays-does_all (sequential bits) None n.after) (endings_lead bits masks m.masks n.after h.after after_clear)

      by : (s : State) (u : Store) (i : ℕ) → s.way ≡ Going → AreBeside masks m.masks s.store u → IsSound (does_all (sequential bits) None (block_of_nest n) s).way
          → Led (AreBeside masks m.masks) (does_all (sequential bits) None (block_of_nest n) s) (does_all (sequential bits) None (block_of_nest (converted_loop n masks l ps)) (record s { store = u; steps = i }))
      by s u i a w e =
          let t : State = record s { store = u; steps = i } in
          subst (λ (z : State). Led (AreBeside masks m.masks) z (does_all (sequential bits) None (block_of_nest (converted_loop n masks l ps)) t)) (sym (nest_act bits n s))
          (subst (λ (z : State). Led (AreBeside masks m.masks) (does_all (sequential bits) None n.after (does (sequential bits) None (statement_of_part n.line n.body) s)) z) (sym (nest_act bits m t))
          (both.at s u i a w (subst (λ (z : State). IsSound z.way) (nest_act bits n s) e)))

-- ---- the law

some_same : (x y : Nest) → Some x ≡ Some y → x ≡ y
some_same x y e = cc

pub record IsLoopOf (masks : ℕ) (n m : Nest) : Type 0 where
  pub loop : Loop
  pub within : Parts
  pub body : n.body ≡ Turns loop within
  pub made : converted_loop n masks loop within ≡ m

pub loop_of : (masks : ℕ) (n m : Nest) → converted_nest masks n ≡ Some m → IsLoopOf masks n m
unfolding converted_nest
loop_of masks n m e = by n.body refl e
  where
    by : (b : Part) → n.body ≡ b → elim b [
      | Run g ↦ None
      | Turns l ps ↦ Some (converted_loop n masks l ps)
      | Choice bs other ↦ None
      | Label k ↦ None
      | Jump k ↦ None
    ] ≡ Some m → IsLoopOf masks n m
    by (Run g) f e = absurd (true≢false (sym (ap is_some e)))
    by (Turns l ps) f e = record { loop = l; within = ps; body = f; made = some_same (converted_loop n masks l ps) m e }
    by (Choice bs other) f e = absurd (true≢false (sym (ap is_some e)))
    by (Label k) f e = absurd (true≢false (sym (ap is_some e)))
    by (Jump k) f e = absurd (true≢false (sym (ap is_some e)))

truth_of_kind : (v : Value) → kind_of v ≡ Logical → (b : Bool) × (v ≡ Truth b)
truth_of_kind (Truth b) e = (b, refl)
truth_of_kind (Int z) e = cc

module _ (width : Width) (p : P.Program) (w x : Place) (k e : ℕ) (adds : AddsMasks p w x k e) where
  no_mask : (y : List ℕ) → Contains (names_of p) y → IsOther y
  no_mask y c i f = adds.program i (subst (Contains (names_of p)) (sym f) c)

  -- the moment t without the masks
  abbrev without : State → State
  without t = record t { store = record { bounds = w.bounds; held = t.store.held } }

  kept_kind : (t : Store) → HoldsProgram (fortran77 width) x.program t → (c : Cell) → IfSome (declared w.program.declarations c.name) (λ (d : P.Declaration). IsStorable (fortran77 width) d.kind (t.held c))
  kept_kind t h c = by (declared w.program.declarations c.name) refl
    where
      by : (o : Option P.Declaration) → declared w.program.declarations c.name ≡ o → IfSome o (λ (d : P.Declaration). IsStorable (fortran77 width) d.kind (t.held c))
      by None f = tt
      by (Some d) f = subst (λ o. IfSome o (λ (d : P.Declaration). IsStorable (fortran77 width) d.kind (t.held c))) (adds.kept c.name d f) (h.kinds c)

  starts : (s t : State) → Starts width w s → Starts width x t → Starts width w (without t)
  starts s t a b = record {
    going = b.going;
    holds = record {
      bounds = λ y. subst (λ o. IfSome (declared w.program.declarations y) (λ (d : P.Declaration). HasBounds d.extent o)) (a.bounds_are y) (a.holds.bounds y);
      kinds = kept_kind t.store b.holds;
    };
    bounds_are = λ y. refl;
  }

  alike : (s t : State) → Starts width w s → GoOnAlike p s t → GoOnAlike p s (without t)
  alike s t a g = record {
    going = g.going;
    agree = record { bounds = λ y c. a.bounds_are y; held = g.agree.held; kinds = g.agree.kinds };
    rest = ap (λ (z : State). record z { store = record { bounds = w.bounds; held = t.store.held } }) g.rest;
  }

  beside : (t : State) → Starts width x t → AreBeside k e (without t).store t.store
  beside t b = record {
    bounds = λ y o. b.bounds_are y ∙ adds.bounds y o;
    held = λ c o. refl;
    scalars = λ i u. b.bounds_are (mask_name i) ∙ adds.scalars i u.0 u.1;
    flags = λ i u. by i (declared x.program.declarations (mask_name i)) (adds.masks i u.0 u.1) (b.holds.kinds (flag i));
  }
    where
      by : (i : ℕ) (o : Option P.Declaration) → IsSomeAnd o IsMask → IfSome o (λ (d : P.Declaration). IsStorable (fortran77 width) d.kind (t.store.held (flag i))) → (c : Bool) × (t.store.held (flag i) ≡ Truth c)
      by i None h g = absurd h
      by i (Some d) h g = truth_of_kind (t.store.held (flag i)) (g.kind ∙ h.kind)

  together : (s t u : State) → GoOnAlike p s t → Led (AreBeside k e) t u → GoOnAlike p s u
  together s t u g l = record {
    going = g.going;
    agree = record {
      bounds = λ y c. g.agree.bounds y c ∙ sym (l.stores.bounds y (no_mask y c));
      held = λ c i is. g.agree.held c i is ∙ sym (l.stores.held c (no_mask c.name i));
      kinds = λ c i. g.agree.kinds c i ∙ ap nought_like (sym (l.stores.held c (no_mask c.name i)));
    };
    rest = l.rest ∙ ap (λ (z : State). record z { store = u.store; steps = u.steps }) g.rest;
  }

pub converted_may_stand_for : (width : Width) → ConvertedMayStandFor width
converted_may_stand_for width p masks n m w x e few h adds keeps s t a b g sound =
    let f = loop_of masks n m e in
    by f m f.made few adds
  where
    by : (f : IsLoopOf masks n m) (m : Nest) → converted_loop n masks f.loop f.within ≡ m → m.masks ≤ 2 ^ 32 → AddsMasks p w x masks m.masks
        → GoOnAlike p (does_all (fortran77 width) None (block_of_nest n) s) (does_all (fortran77 width) None (block_of_nest m) t)
    by f m made few adds =
        subst (λ (z : Nest). GoOnAlike p (does_all (fortran77 width) None (block_of_nest n) s) (does_all (fortran77 width) None (block_of_nest z) t)) made
        (here (converted_loop n masks f.loop f.within).masks refl
        (subst (λ (z : Nest). z.masks ≤ 2 ^ 32) (sym made) few) (subst (λ (z : Nest). AddsMasks p w x masks z.masks) (sym made) adds))
      where
        here : (k : ℕ) → (converted_loop n masks f.loop f.within).masks ≡ k → (converted_loop n masks f.loop f.within).masks ≤ 2 ^ 32 → AddsMasks p w x masks (converted_loop n masks f.loop f.within).masks
            → GoOnAlike p (does_all (fortran77 width) None (block_of_nest n) s) (does_all (fortran77 width) None (block_of_nest (converted_loop n masks f.loop f.within)) t)
        here k same few adds =
            let top = (converted_loop n masks f.loop f.within).masks in
            let s2 = without width p w x masks top adds t in
            let one = keeps s s2 a (starts width p w x masks top adds s t a b) (alike width p w x masks top adds s t a g) sound in
            let way : (does_all (fortran77 width) None (block_of_nest n) s2).way ≡ Going = ap (λ (z : State). z.way) one.rest ∙ one.going in
            let led = (nest_leads (bits_of width) masks n h f.loop f.within f.body few).at s2 t.store t.steps b.going (beside width p w x masks top adds t b) (subst IsSound (sym way) tt) in
            together width p w x masks top adds (does_all (fortran77 width) None (block_of_nest n) s) (does_all (fortran77 width) None (block_of_nest n) s2) (does_all (fortran77 width) None (block_of_nest (converted_loop n masks f.loop f.within)) t) one led
