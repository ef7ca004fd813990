-- What statements add to a number of the tree: how often a label stands in it, how often a GO TO names it, how many statements there are.
use Rattle.std.proofs.Common.{◌≡◌, ℕ, ◌+◌, ◌≤◌, true, Some, None, List, [], ◌∷◌, ◌++◌, refl, sym, ap, subst, ◌∙◌, arith, flat_map}
use Rattle.tree.specs.Plain as tree
use Rattle.tree.specs.Plain.{Expression}
use Rattle.meaning.specs.Store.{Store}
use Rattle.f77_grammar.specs.Statement77.{Labelled, Statement77, If, ElseIf, Else, EndIf, Do}
use Rattle.f77_grammar.specs.program.Uses.{Use77}
use Rattle.f77_grammar.specs.program.Tree.{label_before, resolved, simple}
use Rattle.f77_laws.specs.trees.Steps.{Piece, Rest, Outermost, InArm, block_of, up_to, beyond, preceded, loop_begun, begun}
use Rattle.f77_laws.proofs.Frames.{Frames, Inner}
use Rattle.f77_laws.proofs.Moves.{Moves}
use Rattle.f77_laws.proofs.Shapes.{IsShaped}
use Rattle.f77_laws.proofs.Blocks.{made_appended, all_pieces_are}

-- ---- measures

-- a number of blocks and arms, to which each block IF and each loop adds `own`
pub record Measure : Type 0 where
  pub blocks : tree.Block → ℕ
  pub arms : tree.Arms → ℕ
  pub own : ℕ
  pub none : blocks tree.no_statements ≡ 0
  pub appended : (cs ds : List tree.Statement) → blocks (tree.block (cs ++ ds)) ≡ blocks (tree.block cs) + blocks (tree.block ds)
  pub no_arms : arms tree.no_arms ≡ 0
  pub more_arms : (c : Expression) (b : tree.Block) (as' : tree.Arms) → arms (tree.arm c b as') ≡ blocks b + arms as'
  pub of_if : (line : ℕ) (as' : tree.Arms) (other : tree.Block) → blocks (tree.block (tree.If line as' other ∷ [])) ≡ own + (arms as' + blocks other)
  pub of_do : (line : ℕ) (v : List ℕ) (a b c : Expression) (body : tree.Block) → blocks (tree.block (tree.Do line v a b c body ∷ [])) ≡ own + blocks body

module _ (m : Measure) where
  abbrev pub in_rest : Rest → ℕ
  in_rest (Outermost ps) = m.blocks (block_of ps)
  in_rest (InArm ps arms other r) = m.blocks (block_of ps) + (m.arms arms + (m.blocks other + in_rest r))

  more_pieces : (p : Piece) (ps : List Piece) → m.blocks (block_of (p ∷ ps)) ≡ m.blocks (tree.block p.made) + m.blocks (block_of ps)
  more_pieces p ps = m.appended p.made (flat_map (λ (q : Piece). q.made) ps)

  split_pieces : (n : ℕ) (ps : List Piece) → m.blocks (block_of ps) ≡ m.blocks (block_of (up_to n ps)) + m.blocks (block_of (beyond n ps))
  split_pieces n ps =
      ap (λ qs. m.blocks (block_of qs)) (sym (all_pieces_are n ps))
      ∙ ap (λ cs. m.blocks (tree.block cs)) (made_appended (up_to n ps) (beyond n ps))
      ∙ m.appended (flat_map (λ (q : Piece). q.made) (up_to n ps)) (flat_map (λ (q : Piece). q.made) (beyond n ps))

  preceded_measure : (p : Piece) (r : Rest) → in_rest (preceded p r) ≡ m.blocks (tree.block p.made) + in_rest r
  preceded_measure p (Outermost ps) = more_pieces p ps
  preceded_measure p (InArm ps arms other r) = let e = more_pieces p ps in omega (arith, e)

  loop_measure : (line : ℕ) (v : List ℕ) (a b c : Expression) (mark : List tree.Statement) (n : ℕ) (ps : List Piece)
      → m.blocks (block_of (record { ends = Some n; made = mark ++ tree.Do line v a b c (block_of (up_to n ps)) ∷ [] } ∷ beyond n ps)) ≡ m.blocks (tree.block mark) + (m.own + m.blocks (block_of ps))
  loop_measure line v a b c mark n ps =
      let e = more_pieces (record { ends = Some n; made = mark ++ tree.Do line v a b c (block_of (up_to n ps)) ∷ [] }) (beyond n ps) in
      let f = m.appended mark (tree.Do line v a b c (block_of (up_to n ps)) ∷ []) in
      let g = m.of_do line v a b c (block_of (up_to n ps)) in
      let h = split_pieces n ps in
      omega (arith, e, f, g, h)

  begun_loop : (line : ℕ) (v : List ℕ) (a b c : Expression) (mark : List tree.Statement) (n : ℕ) (r : Rest) → in_rest (loop_begun (tree.Do line v a b c) mark n r) ≡ m.blocks (tree.block mark) + (m.own + in_rest r)
  begun_loop line v a b c mark n (Outermost ps) = loop_measure line v a b c mark n ps
  begun_loop line v a b c mark n (InArm ps arms other r) = let e = loop_measure line v a b c mark n ps in omega (arith, e)

  module _ (us : List Use77) (s : Store) (named : List ℕ) where
    abbrev mark : Labelled → ℕ
    mark x = m.blocks (tree.block (label_before named x.label))

    abbrev alone : Labelled → Statement77 → ℕ
    alone x c = m.blocks (tree.block (simple us s x.line c))

    simple_measure : (x : Labelled) (c : Statement77) (r : Rest) → in_rest (preceded (record { ends = x.label; made = label_before named x.label ++ simple us s x.line c }) r) ≡ mark x + (alone x c + in_rest r)
    simple_measure x c r =
        let e = preceded_measure (record { ends = x.label; made = label_before named x.label ++ simple us s x.line c }) r in
        let f = m.appended (label_before named x.label) (simple us s x.line c) in
        omega (arith, e, f)

    if_measure : (x : Labelled) (c : Expression) (ps : List Piece) (arms : tree.Arms) (other : tree.Block) (r : Rest)
        → in_rest (begun us s named x (If c) (InArm ps arms other r)) ≡ mark x + (m.own + in_rest (InArm ps arms other r))
    if_measure x c ps arms other r =
        let e = preceded_measure (record { ends = None; made = label_before named x.label ++ tree.If x.line (tree.arm (resolved us s c) (block_of ps) arms) other ∷ [] }) r in
        let f = m.appended (label_before named x.label) (tree.If x.line (tree.arm (resolved us s c) (block_of ps) arms) other ∷ []) in
        let g = m.of_if x.line (tree.arm (resolved us s c) (block_of ps) arms) other in
        let h = m.more_arms (resolved us s c) (block_of ps) arms in
        omega (arith, e, f, g, h)

    -- ---- no more than

    -- a statement adds at most its mark, and what it is itself
    pub at_most : (x : Labelled) (c : Statement77) (n : ℕ) (r : Rest) → mark x + alone x c ≤ n → mark x + m.own ≤ n → in_rest (begun us s named x c r) ≤ n + in_rest r
    at_most x (If c) n (Outermost ps) h g = omega arith
    at_most x (If c) n (InArm ps arms other r) h g = let e = if_measure x c ps arms other r in omega (arith, e, g)
    at_most x EndIf n r h g = let e = m.none in let f = m.no_arms in omega (arith, e, f)
    at_most x Else n (Outermost ps) h g = omega arith
    at_most x Else n (InArm ps arms other r) h g = let e = m.none in omega (arith, e)
    at_most x (ElseIf c) n (Outermost ps) h g = omega arith
    at_most x (ElseIf c) n (InArm ps arms other r) h g = let e = m.none in let f = m.more_arms (resolved us s c) (block_of ps) arms in omega (arith, e, f)
    at_most x (Do (Some k) v a b c) n r h g = let e = begun_loop x.line v (resolved us s a) (resolved us s b) (resolved us s c) (label_before named x.label) k r in omega (arith, e, g)
    at_most x c n r h g = let e = simple_measure x c r in omega (arith, e, h)

    -- ---- no less than

    abbrev pub own_part : Labelled → Statement77 → ℕ
    own_part x (If c) = 0
    own_part x EndIf = 0
    own_part x Else = 0
    own_part x (ElseIf c) = 0
    own_part x (Do (Some k) v a b c) = 0
    own_part x c = alone x c

    else_measure : (x : Labelled) (f : Frames) (r : Rest) → IsShaped (Inner [] true f) r → in_rest r ≤ in_rest (begun us s named x Else r)
    else_measure x f (Outermost ps) h = omega arith
    else_measure x f (InArm ps arms other r) h = let e = m.none in let g : m.blocks other ≡ 0 = ap m.blocks (h.1 refl) ∙ m.none in omega (arith, e, g)

    -- nothing is lost
    pub at_least : (x : Labelled) (c : Statement77) (f g : Frames) (r : Rest) → Moves c x.label f g → IsShaped g r → own_part x c + in_rest r ≤ in_rest (begun us s named x c r)
    at_least x (If c) f g (Outermost ps) k h = omega arith
    at_least x (If c) f g (InArm ps arms other r) k h = let e = if_measure x c ps arms other r in omega (arith, e)
    at_least x EndIf f g r k h = omega arith
    at_least x Else f g r k h = let e = else_measure x k.outer r (subst (λ (i : Frames). IsShaped i r) k.after h) in omega (arith, e)
    at_least x (ElseIf c) f g (Outermost ps) k h = omega arith
    at_least x (ElseIf c) f g (InArm ps arms other r) k h = let e = m.none in let d = m.more_arms (resolved us s c) (block_of ps) arms in omega (arith, e, d)
    at_least x (Do (Some i) v a b c) f g r k h = let e = begun_loop x.line v (resolved us s a) (resolved us s b) (resolved us s c) (label_before named x.label) i r in omega (arith, e)
    at_least x c f g r k h = let e = simple_measure x c r in omega (arith, e)
