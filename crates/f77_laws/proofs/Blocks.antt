-- Blocks of the tree: what stands in them, and how deep.
use Rattle.std.proofs.Common.{◌≡◌, ℕ, ◌+◌, ◌≤◌, max, ◌==◌, Bool, true, false, cond, Option, Some, None, IfSome, List, [], ◌∷◌, ◌++◌, length, refl, sym, ap, subst, ◌∙◌, arith, flat_map, append-nil, append_assoc}
use Rattle.std.specs.List.{list_any}
use Rattle.tree.specs.declared.ops.Kind.TheVariants.{Integer, Logical}
use Rattle.tree.specs.Plain as tree
use Rattle.tree.specs.Plain.{Expression, Declaration}
use Rattle.meaning.specs.Store.{Store}
use Rattle.f77_grammar.specs.Statement77.{Labelled, If, ElseIf, Else}
use Rattle.f77_grammar.specs.program.Text.{is_label}
use Rattle.meaning.specs.Typed77.{IsWhole, IsDoVariable}
use Rattle.f77_grammar.specs.program.Uses.{Use77}
use Rattle.meaning.specs.Profile77.{labels_of, blocks_in_arms, blocks_in, Surroundings, IsLine, IsLabel, IsStatement, AreArms, IsBlock}
use Rattle.f77_grammar.specs.program.Tree.{label_before, resolved}
use Rattle.f77_laws.specs.trees.Steps.{Piece, Rest, Outermost, InArm, block_of, up_to, beyond, preceded, loop_in, loop_begun, begun}
use Rattle.f77_laws.proofs.Frames.{Loop, Frames, Base, Inner, pushed, closed, top_closed, names_in, variables, depth, top_kept}
use Rattle.f77_laws.proofs.Shapes.{label_is}
use Rattle.f77_laws.proofs.Arrivals.{ahead_of, labels_appended}

-- ---- statements one after the other

blocks_appended : (cs ds : List tree.Statement) → blocks_in (tree.block (cs ++ ds)) ≡ max (blocks_in (tree.block cs)) (blocks_in (tree.block ds))
blocks_appended [] ds = omega arith
blocks_appended (c ∷ cs) ds = let e = blocks_appended cs ds in omega (arith, e)

pub made_appended : (ps qs : List Piece) → flat_map (λ (p : Piece). p.made) (ps ++ qs) ≡ flat_map (λ (p : Piece). p.made) ps ++ flat_map (λ (p : Piece). p.made) qs
made_appended [] qs = refl
made_appended (p ∷ ps) qs = ap (λ cs. p.made ++ cs) (made_appended ps qs) ∙ sym (append_assoc p.made (flat_map (λ (p : Piece). p.made) ps) (flat_map (λ (p : Piece). p.made) qs))

pub all_pieces_are : (n : ℕ) (ps : List Piece) → up_to n ps ++ beyond n ps ≡ ps
all_pieces_are n [] = refl
all_pieces_are n (p ∷ ps) = by (is_label n p.ends) (all_pieces_are n ps)
  where
    by : (b : Bool) → up_to n ps ++ beyond n ps ≡ ps → (p ∷ cond b [] (up_to n ps)) ++ cond b ps (beyond n ps) ≡ p ∷ ps
    by true e = refl
    by false e = ap (λ qs. p ∷ qs) e

split_labels : (n : ℕ) (ps : List Piece) → labels_of (block_of ps) ≡ labels_of (block_of (up_to n ps)) ++ labels_of (block_of (beyond n ps))
split_labels n ps =
    ap (λ qs. labels_of (block_of qs)) (sym (all_pieces_are n ps))
    ∙ ap (λ cs. labels_of (tree.block cs)) (made_appended (up_to n ps) (beyond n ps))
    ∙ labels_appended (flat_map (λ (p : Piece). p.made) (up_to n ps)) (flat_map (λ (p : Piece). p.made) (beyond n ps))

abbrev pub around : List (List ℕ) → List ℕ → Surroundings
around vs ahead = record { variables = vs; ahead = ahead }

-- the label stands in the tree where it is named alone
abbrev pub IsMark : List ℕ → Option ℕ → Type 0
IsMark named end = IfSome end (λ n. list_any (λ j. j == n) named ≡ true → IsLabel n)

module _ (ds : List Declaration) where
  block_append : (cs es : List tree.Statement) (vs : List (List ℕ)) (ahead : List ℕ) → IsBlock ds (tree.block cs) (around vs (labels_of (tree.block es) ++ ahead)) → IsBlock ds (tree.block es) (around vs ahead)
      → IsBlock ds (tree.block (cs ++ es)) (around vs ahead)
  block_append [] es vs ahead h g = g
  block_append (c ∷ cs) es vs ahead h g =
      let same : labels_of (tree.block cs) ++ (labels_of (tree.block es) ++ ahead) ≡ labels_of (tree.block (cs ++ es)) ++ ahead =
      sym (append_assoc (labels_of (tree.block cs)) (labels_of (tree.block es)) ahead) ∙ ap (λ ns. ns ++ ahead) (sym (labels_appended cs es)) in
      (subst (λ (ns : List ℕ). IsStatement ds c (around vs ns)) same h.0, block_append cs es vs ahead h.1 g)

  -- a block in its surroundings, that stands in `k` others
  pub record IsFine (b : tree.Block) (w : Surroundings) (k : ℕ) : Type 0 where
    pub statements : IsBlock ds b w
    pub depth : blocks_in b + k ≤ 100

  fine_append : (cs es : List tree.Statement) (vs : List (List ℕ)) (ahead : List ℕ) (k : ℕ) → IsFine (tree.block cs) (around vs (labels_of (tree.block es) ++ ahead)) k → IsFine (tree.block es) (around vs ahead) k
      → IsFine (tree.block (cs ++ es)) (around vs ahead) k
  fine_append cs es vs ahead k h g = record {
    statements = block_append cs es vs ahead h.statements g.statements;
    depth = (let a = h.depth in let b = g.depth in let e = blocks_appended cs es in omega (arith, a, b, e));
  }

  fine_deep : (b : tree.Block) (w : Surroundings) (k j : ℕ) → k ≡ j → IsFine b w k → IsFine b w j
  fine_deep b w k j e h = record { statements = h.statements; depth = (let a = h.depth in omega (arith, a, e)) }

  -- ---- the pieces of a block: the loops in it that are open, the DO variables and labels ahead of what is round it, and how deep it is

  abbrev pub ArePieces : List Loop → List (List ℕ) → List ℕ → ℕ → List Piece → Type 0
  ArePieces ls vs ahead n [] = Unit {0}
  ArePieces ls vs ahead n (p ∷ ps) = IsFine (tree.block p.made) (around (names_in ls ++ vs) (labels_of (block_of ps) ++ ahead)) (length ls + n) × ArePieces (closed p.ends ls) vs ahead n ps

  abbrev pub AreFine : Frames → Rest → Type 0
  AreFine (Base ls) (Outermost ps) = ArePieces ls [] [] 0 ps
  AreFine (Base ls) (InArm ps arms other r) = ⊥
  AreFine (Inner ls had f) (Outermost ps) = ⊥
  AreFine (Inner ls had f) (InArm ps arms other r) =
      ArePieces ls (variables f) (ahead_of r) (1 + depth f) ps × AreArms ds arms (around (variables f) (ahead_of r)) × (blocks_in_arms arms + (1 + depth f) ≤ 100)
      × IsFine other (around (variables f) (ahead_of r)) (1 + depth f) × AreFine f r

  -- ---- a whole block

  pub whole_block : (vs : List (List ℕ)) (ahead : List ℕ) (n : ℕ) (ps : List Piece) → n ≤ 100 → ArePieces [] vs ahead n ps → IsFine (block_of ps) (around vs ahead) n
  whole_block vs ahead n [] k h = record { statements = tt; depth = (omega (arith, k)) }
  whole_block vs ahead n (p ∷ ps) k h =
      fine_append p.made (flat_map (λ (q : Piece). q.made) ps) vs ahead n (fine_deep (tree.block p.made) (around vs (labels_of (block_of ps) ++ ahead)) (length (names_in []) + n) n (omega arith) h.0) (whole_block vs ahead n ps k h.1)

  -- ---- a loop

  pub record IsLoop (l : Loop) (ls : List Loop) (vs : List (List ℕ)) (ahead : List ℕ) (n : ℕ) (ps : List Piece) : Type 0 where
    pub body : IsFine (block_of (up_to l.label ps)) (around (l.variable ∷ (names_in ls ++ vs)) (labels_of (block_of (beyond l.label ps)) ++ ahead)) (1 + (length ls + n))
    pub rest : ArePieces (closed (Some l.label) ls) vs ahead n (beyond l.label ps)

  loop_ended : (l : Loop) (ls : List Loop) (vs : List (List ℕ)) (ahead : List ℕ) (n : ℕ) (p : Piece) (ps : List Piece) → p.ends ≡ Some l.label
      → IsFine (tree.block p.made) (around (l.variable ∷ (names_in ls ++ vs)) (labels_of (block_of ps) ++ ahead)) (1 + (length ls + n)) → ArePieces (closed p.ends ls) vs ahead n ps
      → (IsFine (block_of (p ∷ [])) (around (l.variable ∷ (names_in ls ++ vs)) (labels_of (block_of ps) ++ ahead)) (1 + (length ls + n))) × ArePieces (closed (Some l.label) ls) vs ahead n ps
  loop_ended l ls vs ahead n p ps e h g = (
    subst (λ (cs : List tree.Statement). IsFine (tree.block cs) (around (l.variable ∷ (names_in ls ++ vs)) (labels_of (block_of ps) ++ ahead)) (1 + (length ls + n))) (sym (append-nil p.made)) h,
    subst (λ (o : Option ℕ). ArePieces (closed o ls) vs ahead n ps) e g,
  )

  loop_pieces : (l : Loop) (ls : List Loop) (vs : List (List ℕ)) (ahead : List ℕ) (n : ℕ) (ps : List Piece) → 1 + (length ls + n) ≤ 100 → ArePieces (l ∷ ls) vs ahead n ps → IsLoop l ls vs ahead n ps
  loop_pieces l ls vs ahead n [] k h = record { body = record { statements = tt; depth = (omega (arith, k)) }; rest = tt }
  loop_pieces l ls vs ahead n (p ∷ ps) k h = let t = by (is_label l.label p.ends) refl (loop_pieces l ls vs ahead n ps k) h.1 in record { body = t.0; rest = t.1 }
    where
      made : IsFine (tree.block p.made) (around (l.variable ∷ (names_in ls ++ vs)) (labels_of (block_of ps) ++ ahead)) (1 + (length ls + n))
      made = fine_deep (tree.block p.made) (around (l.variable ∷ (names_in ls ++ vs)) (labels_of (block_of ps) ++ ahead)) (length (l ∷ ls) + n) (1 + (length ls + n)) (omega arith) h.0

      split : IsFine (tree.block p.made) (around (l.variable ∷ (names_in ls ++ vs)) (labels_of (block_of (up_to l.label ps)) ++ (labels_of (block_of (beyond l.label ps)) ++ ahead))) (1 + (length ls + n))
      split = subst (λ (ns : List ℕ). IsFine (tree.block p.made) (around (l.variable ∷ (names_in ls ++ vs)) ns) (1 + (length ls + n)))
          (ap (λ ns. ns ++ ahead) (split_labels l.label ps) ∙ append_assoc (labels_of (block_of (up_to l.label ps))) (labels_of (block_of (beyond l.label ps))) ahead) made

      by : (b : Bool) → is_label l.label p.ends ≡ b → (ArePieces (l ∷ ls) vs ahead n ps → IsLoop l ls vs ahead n ps) → ArePieces (cond b (closed p.ends ls) (l ∷ ls)) vs ahead n ps
          → (IsFine (block_of (p ∷ cond b [] (up_to l.label ps))) (around (l.variable ∷ (names_in ls ++ vs)) (labels_of (block_of (cond b ps (beyond l.label ps))) ++ ahead)) (1 + (length ls + n)))
          × ArePieces (closed (Some l.label) ls) vs ahead n (cond b ps (beyond l.label ps))
      by true e more g = loop_ended l ls vs ahead n p ps (label_is l.label p.ends e) made g
      by false e more g =
          let t = more g in (
            fine_append p.made (flat_map (λ (q : Piece). q.made) (up_to l.label ps)) (l.variable ∷ (names_in ls ++ vs)) (labels_of (block_of (beyond l.label ps)) ++ ahead) (1 + (length ls + n)) split t.body,
            t.rest,
          )

  -- ---- the mark before a statement

  pub marked_fine : (named : List ℕ) (end : Option ℕ) (cs : List tree.Statement) (w : Surroundings) (k : ℕ) → IsMark named end → IsFine (tree.block cs) w k → IsFine (tree.block (label_before named end ++ cs)) w k
  marked_fine named None cs w k m h = h
  marked_fine named (Some n) cs w k m h = by (list_any (λ j. j == n) named) refl
    where
      by : (b : Bool) → list_any (λ j. j == n) named ≡ b → IsFine (tree.block (cond b (tree.Label n ∷ []) [] ++ cs)) w k
      by true e = record { statements = (m e, h.statements); depth = (let d = h.depth in omega (arith, d)) }
      by false e = h

  -- ---- one piece more

  fine_around : (b : tree.Block) (vs : List (List ℕ)) (ns : List ℕ) (k : ℕ) → IsFine b (around vs ns) k → IsFine b (around (vs ++ []) (ns ++ [])) (k + 0)
  fine_around b vs ns k h =
      fine_deep b (around (vs ++ []) (ns ++ [])) k (k + 0) (omega arith)
      (subst (λ (us : List (List ℕ)). IsFine b (around us (ns ++ [])) k) (sym (append-nil vs)) (subst (λ (ms : List ℕ). IsFine b (around vs ms) k) (sym (append-nil ns)) h))

  pub preceded_fine : (p : Piece) (f : Frames) (r : Rest) → IsFine (tree.block p.made) (around (variables f) (ahead_of r)) (depth f) → AreFine (top_closed p.ends f) r → AreFine f (preceded p r)
  preceded_fine p (Base ls) (Outermost ps) h g = (fine_around (tree.block p.made) (names_in ls) (labels_of (block_of ps)) (length ls) h, g)
  preceded_fine p (Base ls) (InArm ps arms other r) h g = absurd g
  preceded_fine p (Inner ls had f) (Outermost ps) h g = absurd g
  preceded_fine p (Inner ls had f) (InArm ps arms other r) h g = ((h, g.0), g.1, g.2, g.3, g.4)

  -- ---- a loop

  pub record IsHead (number : ℕ) (v : List ℕ) (a b c : Expression) (vs : List (List ℕ)) : Type 0 where
    pub line : IsLine number
    pub variable : IsDoVariable ds v vs
    pub first : IsWhole ds a Integer
    pub last : IsWhole ds b Integer
    pub step : IsWhole ds c Integer

  loop_piece : (line : ℕ) (a b c : Expression) (named : List ℕ) (end : Option ℕ) (l : Loop) (ls : List Loop) (vs : List (List ℕ)) (ahead : List ℕ) (n : ℕ) (ps : List Piece)
      → IsMark named end → IsHead line l.variable a b c (names_in ls ++ vs) → 1 + (length ls + n) ≤ 100 → ArePieces (l ∷ ls) vs ahead n ps
      → ArePieces ls vs ahead n (loop_in (tree.Do line l.variable a b c) (label_before named end) l.label ps)
  loop_piece line a b c named end l ls vs ahead n ps m h k g =
      let t = loop_pieces l ls vs ahead n ps k g in (
        marked_fine named end (tree.Do line l.variable a b c (block_of (up_to l.label ps)) ∷ []) (around (names_in ls ++ vs) (labels_of (block_of (beyond l.label ps)) ++ ahead)) (length ls + n) m
            (record { statements = ((h.line, h.variable, h.first, h.last, h.step, t.body.statements), tt); depth = (let d = t.body.depth in omega (arith, d)) }),
        t.rest,
      )

  pub loop_fine : (line : ℕ) (a b c : Expression) (named : List ℕ) (end : Option ℕ) (l : Loop) (f : Frames) (r : Rest) → IsMark named end → IsHead line l.variable a b c (variables f) → 1 + depth f ≤ 100 → AreFine (pushed l f) r
      → AreFine f (loop_begun (tree.Do line l.variable a b c) (label_before named end) l.label r)
  loop_fine line a b c named end l (Base ls) (Outermost ps) m h k g =
      loop_piece line a b c named end l ls [] [] 0 ps m (subst (λ (vs : List (List ℕ)). IsHead line l.variable a b c vs) (sym (append-nil (names_in ls))) h) (omega (arith, k)) g
  loop_fine line a b c named end l (Base ls) (InArm ps arms other r) m h k g = absurd g
  loop_fine line a b c named end l (Inner ls had f) (Outermost ps) m h k g = absurd g
  loop_fine line a b c named end l (Inner ls had f) (InArm ps arms other r) m h k g =
      (loop_piece line a b c named end l ls (variables f) (ahead_of r) (1 + depth f) ps m h k g.0, g.1, g.2, g.3, g.4)

  -- ---- a block IF

  pub if_fine : (us : List Use77) (s : Store) (named : List ℕ) (x : Labelled) (c : Expression) (f : Frames) (r : Rest) → IsMark named x.label → IsLine x.line → IsWhole ds (resolved us s c) Logical → 1 + depth f ≤ 100
      → AreFine (Inner [] false f) r → AreFine f (begun us s named x (If c) r)
  if_fine us s named x c f (Outermost ps) m l e k h = absurd h
  if_fine us s named x c f (InArm ps arms other r) m l e k h =
      let body = whole_block (variables f) (ahead_of r) (1 + depth f) ps k h.0 in
      preceded_fine (record { ends = None; made = label_before named x.label ++ tree.If x.line (tree.arm (resolved us s c) (block_of ps) arms) other ∷ [] }) f r
      (marked_fine named x.label (tree.If x.line (tree.arm (resolved us s c) (block_of ps) arms) other ∷ []) (around (variables f) (ahead_of r)) (depth f) m
      (record {
        statements = ((l, refl, (e, body.statements, h.1), h.3.statements), tt);
        depth = (let a = body.depth in let b = h.2 in let d = h.3.depth in omega (arith, a, b, d));
      }))
      (subst (λ (g : Frames). AreFine g r) (sym (top_kept f)) h.4)

  pub else_fine : (us : List Use77) (s : Store) (named : List ℕ) (x : Labelled) (f : Frames) (r : Rest) → 1 + depth f ≤ 100 → AreFine (Inner [] true f) r → AreFine (Inner [] false f) (begun us s named x Else r)
  else_fine us s named x f (Outermost ps) k h = absurd h
  else_fine us s named x f (InArm ps arms other r) k h = (tt, h.1, h.2, whole_block (variables f) (ahead_of r) (1 + depth f) ps k h.0, h.4)

  pub else_if_fine : (us : List Use77) (s : Store) (named : List ℕ) (x : Labelled) (c : Expression) (had : Bool) (f : Frames) (r : Rest) → IsWhole ds (resolved us s c) Logical → 1 + depth f ≤ 100
      → AreFine (Inner [] had f) r → AreFine (Inner [] had f) (begun us s named x (ElseIf c) r)
  else_if_fine us s named x c had f (Outermost ps) e k h = absurd h
  else_if_fine us s named x c had f (InArm ps arms other r) e k h =
      let body = whole_block (variables f) (ahead_of r) (1 + depth f) ps k h.0 in
      (tt, (e, body.statements, h.1), (let a = body.depth in let b = h.2 in omega (arith, a, b)), h.3, h.4)

  pub end_if_fine : (had : Bool) (f : Frames) (r : Rest) → 1 + depth f ≤ 100 → AreFine f r → AreFine (Inner [] had f) (InArm [] tree.no_arms tree.no_statements r)
  end_if_fine had f r k h = (tt, tt, (omega (arith, k)), record { statements = tt; depth = (omega (arith, k)) }, h)
