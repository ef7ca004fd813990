-- Where a GO TO leads in the tree: its label stands later in its block or in a block round that one.
use Rattle.std.proofs.Common.{◌≡◌, ℕ, zero, suc, ◌==◌, Bool, true, false, ◌||◌, cond, Option, Some, None, List, [], ◌∷◌, ◌++◌, length, refl, sym, ap, subst, ◌∙◌, arith, Contains, find, flat_map}
use Rattle.std.specs.List.{AllByRecursion, list_any}
use Rattle.std.proofs.lemmas.Bool.Decides.{nat_tests}
use Rattle.std.proofs.lemmas.List.Elements.{Contains-append_left, Contains-append_right}
use Rattle.tree.specs.Plain as tree
use Rattle.meaning.specs.Store.{Store}
use Rattle.f77_grammar.specs.Statement77.{Labelled, Statement77, If, ElseIf, Else, EndIf, Do}
use Rattle.f77_grammar.specs.program.Text.{Place77, places_from, is_label, bears, label_stands_in, ends_in, loop_ends_in, left_over, without_ended}
use Rattle.f77_grammar.specs.program.Nesting.{nests_wrongly, ends_loops_wrongly, is_left_open, is_closed_wrongly}
use Rattle.f77_grammar.specs.program.Jumps.{place_of_label, opens_arm, enters_block, is_no_target, leads_wrongly}
use Rattle.f77_grammar.specs.program.Uses.{Use77}
use Rattle.meaning.specs.Profile77.{labels_of}
use Rattle.f77_grammar.specs.program.Tree.{label_before, resolved, simple}
use Rattle.f77_laws.specs.trees.Steps.{Piece, Rest, Outermost, InArm, block_of, up_to, beyond, preceded, loop_begun, begun, rest_from}
use Rattle.f77_laws.proofs.Lists.{left_false, right_false, both_false, affirmed, here, not_both}
use Rattle.f77_laws.proofs.Sound.{IsRight}
use Rattle.f77_laws.proofs.Frames.{Loop, Frames, Base, Inner, pushed, closed, frames}
use Rattle.f77_laws.proofs.Moves.{Moves, moves, AllEnd, all_end}
use Rattle.f77_laws.proofs.Shapes.{Closes, IsShaped, label_is, shape}

-- ---- the pieces of a block round the place, `d` block IFs outwards

abbrev pub level : ℕ → Rest → List Piece
level zero (Outermost ps) = ps
level zero (InArm ps arms other r) = ps
level (suc d) (Outermost ps) = []
level (suc d) (InArm ps arms other r) = level d r

abbrev ends_with : ℕ → Piece → Bool
ends_with m p = is_label m p.ends

abbrev ends_loop : ℕ → List Piece → Bool
ends_loop m ps = list_any (ends_with m) ps

-- the last pieces
pub record IsBehind (bs ps : List Piece) : Type 0 where
  pub passed : List Piece
  pub is : ps ≡ passed ++ bs

behind_more : (p : Piece) (bs ps : List Piece) → IsBehind bs ps → IsBehind bs (p ∷ ps)
behind_more p bs ps h = record { passed = p ∷ h.passed; is = ap (λ qs. p ∷ qs) h.is }

preceded_level : (p : Piece) (d : ℕ) (r : Rest) (bs : List Piece) → IsBehind bs (level d r) → IsBehind bs (level d (preceded p r))
preceded_level p zero (Outermost ps) bs h = behind_more p bs ps h
preceded_level p zero (InArm ps arms other r) bs h = behind_more p bs ps h
preceded_level p (suc d) (Outermost ps) bs h = h
preceded_level p (suc d) (InArm ps arms other r) bs h = h

-- ---- a loop on the way

-- it ends before the last pieces
split_ends : (m : ℕ) (fs bs : List Piece) → ends_loop m (fs ++ bs) ≡ true → ends_loop m bs ≡ false → ends_loop m fs ≡ true
split_ends m [] bs h g = absurd cc
split_ends m (a ∷ fs) bs h g = by (is_label m a.ends) (split_ends m fs bs) h
  where
    by : (b : Bool) → (ends_loop m (fs ++ bs) ≡ true → ends_loop m bs ≡ false → ends_loop m fs ≡ true) → (b || ends_loop m (fs ++ bs)) ≡ true → (b || ends_loop m fs) ≡ true
    by true more h = refl
    by false more h = more h g

beyond_behind : (m : ℕ) (fs bs : List Piece) → ends_loop m fs ≡ true → IsBehind bs (beyond m (fs ++ bs))
beyond_behind m [] bs h = absurd cc
beyond_behind m (a ∷ fs) bs h = by (is_label m a.ends) (beyond_behind m fs bs) h
  where
    by : (b : Bool) → (ends_loop m fs ≡ true → IsBehind bs (beyond m (fs ++ bs))) → (b || ends_loop m fs) ≡ true → IsBehind bs (cond b (fs ++ bs) (beyond m (fs ++ bs)))
    by true more h = record { passed = fs; is = refl }
    by false more h = more h

loop_behind : (m : ℕ) (ps bs : List Piece) → IsBehind bs ps → ends_loop m ps ≡ true → ends_loop m bs ≡ false → IsBehind bs (beyond m ps)
loop_behind m ps bs h e g =
    subst (λ (qs : List Piece). IsBehind bs (beyond m qs)) (sym h.is) (beyond_behind m h.passed bs (split_ends m h.passed bs (sym (ap (ends_loop m) h.is) ∙ e) g))

loop_level : (make : tree.Block → tree.Statement) (mark : List tree.Statement) (m : ℕ) (d : ℕ) (r : Rest) (bs : List Piece) → IsBehind bs (level d r)
    → ends_loop m (level 0 r) ≡ true → ends_loop m bs ≡ false → IsBehind bs (level d (loop_begun make mark m r))
loop_level make mark m zero (Outermost ps) bs h e g = behind_more (record { ends = Some m; made = _ }) bs (beyond m ps) (loop_behind m ps bs h e g)
loop_level make mark m zero (InArm ps arms other r) bs h e g = behind_more (record { ends = Some m; made = _ }) bs (beyond m ps) (loop_behind m ps bs h e g)
loop_level make mark m (suc d) (Outermost ps) bs h e g = h
loop_level make mark m (suc d) (InArm ps arms other r) bs h e g = h

-- the innermost loop ends among the pieces
closes_ends : (l : Loop) (ls : List Loop) (ps : List Piece) → Closes (l ∷ ls) ps → ends_loop l.label ps ≡ true
closes_ends l ls [] h = absurd (let e = ap length h in omega arith)
closes_ends l ls (p ∷ ps) h = by (is_label l.label p.ends) (closes_ends l ls ps) h
  where
    by : (b : Bool) → (Closes (l ∷ ls) ps → ends_loop l.label ps ≡ true) → Closes (cond b (closed p.ends ls) (l ∷ ls)) ps → (b || ends_loop l.label ps) ≡ true
    by true more h = refl
    by false more h = more h

shape_ends : (l : Loop) (f : Frames) (r : Rest) → IsShaped (pushed l f) r → ends_loop l.label (level 0 r) ≡ true
shape_ends l (Base ls) (Outermost ps) h = closes_ends l ls ps h
shape_ends l (Base ls) (InArm ps arms other r) h = absurd h
shape_ends l (Inner ls had f) (Outermost ps) h = absurd h
shape_ends l (Inner ls had f) (InArm ps arms other r) h = closes_ends l ls ps h.0

-- ---- labels ahead

abbrev pub ahead_of : Rest → List ℕ
ahead_of (Outermost ps) = labels_of (block_of ps)
ahead_of (InArm ps arms other r) = labels_of (block_of ps) ++ ahead_of r

pub labels_appended : (cs ds : List tree.Statement) → labels_of (tree.block (cs ++ ds)) ≡ labels_of (tree.block cs) ++ labels_of (tree.block ds)
labels_appended [] ds = refl
labels_appended (tree.Label n ∷ cs) ds = ap (λ ns. n ∷ ns) (labels_appended cs ds)
labels_appended (c ∷ cs) ds = labels_appended cs ds

module _ (us : List Use77) (s : Store) (named : List ℕ) where
  -- ---- the way back from a label, over one statement

  no_level : (d : ℕ) (ps : List Piece) (b : Piece) (bs : List Piece) → IsBehind (b ∷ bs) (level (suc d) (Outermost ps)) → ⊥
  no_level d ps b bs h = by h.passed h.is
    where
      by : (fs : List Piece) → [] ≡ fs ++ b ∷ bs → ⊥
      by [] e = let l = ap length e in omega arith
      by (a ∷ fs) e = let l = ap length e in omega arith

  -- how many block IFs outwards the label stands, before a statement
  abbrev outwards : Statement77 → ℕ → ℕ
  outwards EndIf d = suc d
  outwards (If c) zero = zero
  outwards (If c) (suc d) = d
  outwards s d = d

  passes_if : (y : Labelled) (c : tree.Expression) (d : ℕ) (r : Rest) (b : Piece) (bs : List Piece) → IsBehind (b ∷ bs) (level (suc d) r) → IsBehind (b ∷ bs) (level d (begun us s named y (If c) r))
  passes_if y c d (Outermost ps) b bs h = absurd (no_level d ps b bs h)
  passes_if y c d (InArm ps arms other r) b bs h = preceded_level (record { ends = None; made = _ }) d r (b ∷ bs) h

  passes_else : (y : Labelled) (d : ℕ) (r : Rest) (b : Piece) (bs : List Piece) → IsBehind (b ∷ bs) (level (suc d) r) → IsBehind (b ∷ bs) (level (suc d) (begun us s named y Else r))
  passes_else y d (Outermost ps) b bs h = h
  passes_else y d (InArm ps arms other r) b bs h = h

  passes_else_if : (y : Labelled) (c : tree.Expression) (d : ℕ) (r : Rest) (b : Piece) (bs : List Piece) → IsBehind (b ∷ bs) (level (suc d) r) → IsBehind (b ∷ bs) (level (suc d) (begun us s named y (ElseIf c) r))
  passes_else_if y c d (Outermost ps) b bs h = h
  passes_else_if y c d (InArm ps arms other r) b bs h = h

  or_true : (a b : Bool) → a ≡ true → (a || b) ≡ false → ⊥
  or_true a b h g = not_both a h (left_false a b g)

  -- the loop of a DO ends in its block
  abbrev DoEnds : Statement77 → Rest → Type 0
  DoEnds (Do (Some k) v a b c) r = ends_loop k (level 0 r) ≡ true
  DoEnds c r = Unit {0}

  abbrev opens : List Labelled → Bool
  opens ys = list_any (λ (z : Labelled). opens_arm z.statement) ys

  opened_here : (y : Labelled) (c : Statement77) (ys : List Labelled) → y.statement ≡ c → opens_arm c ≡ true → opens (y ∷ ys) ≡ false → ⊥
  opened_here y c ys e a h = or_true (opens_arm y.statement) (opens ys) (ap opens_arm e ∙ a) h

  passes : (c : Statement77) (y : Labelled) (W pre : List Labelled) (d : ℕ) (r : Rest) (b : Piece) (bs : List Piece) → y.statement ≡ c
      → opens (left_over c y (without_ended pre) d) ≡ false → ends_in W c ≡ false → ((m : ℕ) → label_stands_in W m ≡ false → ends_loop m (b ∷ bs) ≡ false) → DoEnds c r
      → IsBehind (b ∷ bs) (level d r) → IsBehind (b ∷ bs) (level (outwards c d) (begun us s named y c r))
  passes EndIf y W pre d r b bs e o l n t h = h
  passes (If c) y W pre zero r b bs e o l n t h = absurd (opened_here y (If c) (without_ended pre 0) e refl o)
  passes (If c) y W pre (suc d) r b bs e o l n t h = passes_if y c d r b bs h
  passes Else y W pre zero r b bs e o l n t h = absurd (opened_here y Else (without_ended pre 0) e refl o)
  passes Else y W pre (suc d) r b bs e o l n t h = passes_else y d r b bs h
  passes (ElseIf c) y W pre zero r b bs e o l n t h = absurd (opened_here y (ElseIf c) (without_ended pre 0) e refl o)
  passes (ElseIf c) y W pre (suc d) r b bs e o l n t h = passes_else_if y c d r b bs h
  passes (Do (Some k) v x z c) y W pre d r b bs e o l n t h =
      loop_level (tree.Do y.line v (resolved us s x) (resolved us s z) (resolved us s c)) (label_before named y.label) k d r (b ∷ bs) h t (n k l)
  passes c y W pre d r b bs e o l n t h = preceded_level (record { ends = y.label; made = _ }) d r (b ∷ bs) h

  opens_later : (c : Statement77) (y : Labelled) (pre : List Labelled) (d : ℕ) → y.statement ≡ c → opens (left_over c y (without_ended pre) d) ≡ false → opens (without_ended pre (outwards c d)) ≡ false
  opens_later EndIf y pre d e o = o
  opens_later (If c) y pre zero e o = absurd (opened_here y (If c) (without_ended pre 0) e refl o)
  opens_later (If c) y pre (suc d) e o = o
  opens_later c y pre zero e o = right_false (opens_arm y.statement) (opens (without_ended pre 0)) o
  opens_later c y pre (suc d) e o = o

  -- ---- the whole way

  abbrev unwound : List Labelled → List Labelled → List Labelled
  unwound [] ys = ys
  unwound (y ∷ pre) ys = unwound pre (y ∷ ys)

  record IsFree (text before xs : List Labelled) : Type 0 where
    right : AllByRecursion (IsRight text) (places_from before xs)
    end : AllEnd xs (frames xs before 0)

  free_at : (text before pre ys : List Labelled) → IsFree text before (unwound pre ys) → IsFree text (pre ++ before) ys
  free_at text before [] ys h = h
  free_at text before (y ∷ pre) ys h =
      let k = free_at text before pre (y ∷ ys) h in
      record { right = k.right.1; end = all_end text (pre ++ before) ys y k.right k.end }

  do_ends : (text before ys : List Labelled) (y : Labelled) → IsFree text before (y ∷ ys) → DoEnds y.statement (rest_from us s named ys)
  do_ends text before ys y k =
      by y.statement (frames ys (y ∷ before) 0) (moves text before ys y k.right) (shape us s named text (y ∷ before) ys k.right.1 (all_end text before ys y k.right k.end))
    where
      by : (c : Statement77) (g : Frames) → Moves c y.label (frames (y ∷ ys) before 0) g → IsShaped g (rest_from us s named ys) → DoEnds c (rest_from us s named ys)
      by (Do (Some n) v a b c) g m h = shape_ends (record { label = n; variable = v }) (frames (y ∷ ys) before 0) (rest_from us s named ys) (subst (λ (f : Frames). IsShaped f (rest_from us s named ys)) m h)
      by c g m h = tt

  record IsOnWay (bs : List Piece) (r : Rest) : Type 0 where
    outer : ℕ
    behind : IsBehind bs (level outer r)

  walk : (text before W pre ys : List Labelled) (d : ℕ) (b : Piece) (bs : List Piece) → IsFree text before (unwound pre ys) → ((m : ℕ) → label_stands_in W m ≡ false → ends_loop m (b ∷ bs) ≡ false)
      → opens (without_ended pre d) ≡ false → list_any (loop_ends_in W) pre ≡ false → IsBehind (b ∷ bs) (level d (rest_from us s named ys)) → IsOnWay (b ∷ bs) (rest_from us s named (unwound pre ys))
  walk text before W [] ys d b bs k n o l h = record { outer = d; behind = h }
  walk text before W (y ∷ pre) ys d b bs k n o l h =
      walk text before W pre (y ∷ ys) (outwards y.statement d) b bs k n (opens_later y.statement y pre d refl o) (right_false (loop_ends_in W y) (list_any (loop_ends_in W) pre) l)
      (passes y.statement y W pre d (rest_from us s named ys) b bs refl o (left_false (loop_ends_in W y) (list_any (loop_ends_in W) pre) l) n (do_ends text (pre ++ before) ys y (free_at text before pre (y ∷ ys) k)) h)

  -- ---- the labels that end pieces stand in the text

  none_beyond : (m k : ℕ) (ps : List Piece) → ends_loop m ps ≡ false → ends_loop m (beyond k ps) ≡ false
  none_beyond m k [] h = h
  none_beyond m k (p ∷ ps) h = by (is_label k p.ends) (none_beyond m k ps (right_false (ends_with m p) (ends_loop m ps) h))
    where
      by : (b : Bool) → ends_loop m (beyond k ps) ≡ false → ends_loop m (cond b ps (beyond k ps)) ≡ false
      by true more = right_false (ends_with m p) (ends_loop m ps) h
      by false more = more

  abbrev AreEndless : ℕ → Rest → Type 0
  AreEndless m r = (d : ℕ) → ends_loop m (level d r) ≡ false

  abbrev DoOther : ℕ → Statement77 → Type 0
  DoOther m (Do (Some k) v a b c) = (k == m) ≡ false
  DoOther m c = Unit {0}

  preceded_none : (m : ℕ) (p : Piece) (d : ℕ) (r : Rest) → is_label m p.ends ≡ false → AreEndless m r → ends_loop m (level d (preceded p r)) ≡ false
  preceded_none m p zero (Outermost ps) h k = both_false (is_label m p.ends) (ends_loop m ps) h (k 0)
  preceded_none m p zero (InArm ps arms other r) h k = both_false (is_label m p.ends) (ends_loop m ps) h (k 0)
  preceded_none m p (suc d) (Outermost ps) h k = refl
  preceded_none m p (suc d) (InArm ps arms other r) h k = k (suc d)

  endless_step : (c : Statement77) (x : Labelled) (m d : ℕ) (r : Rest) → is_label m x.label ≡ false → DoOther m c → AreEndless m r → ends_loop m (level d (begun us s named x c r)) ≡ false
  endless_step EndIf x m zero r h o k = refl
  endless_step EndIf x m (suc d) r h o k = k d
  endless_step Else x m d (Outermost ps) h o k = k d
  endless_step Else x m zero (InArm ps arms other r) h o k = refl
  endless_step Else x m (suc d) (InArm ps arms other r) h o k = k (suc d)
  endless_step (ElseIf c) x m d (Outermost ps) h o k = k d
  endless_step (ElseIf c) x m zero (InArm ps arms other r) h o k = refl
  endless_step (ElseIf c) x m (suc d) (InArm ps arms other r) h o k = k (suc d)
  endless_step (If c) x m d (Outermost ps) h o k = k d
  endless_step (If c) x m d (InArm ps arms other r) h o k = preceded_none m (record { ends = None; made = _ }) d r refl (λ e. k (suc e))
  endless_step (Do (Some n) v a b c) x m zero (Outermost ps) h o k = both_false (n == m) (ends_loop m (beyond n ps)) o (none_beyond m n ps (k 0))
  endless_step (Do (Some n) v a b c) x m zero (InArm ps arms other r) h o k = both_false (n == m) (ends_loop m (beyond n ps)) o (none_beyond m n ps (k 0))
  endless_step (Do (Some n) v a b c) x m (suc d) (Outermost ps) h o k = refl
  endless_step (Do (Some n) v a b c) x m (suc d) (InArm ps arms other r) h o k = k (suc d)
  endless_step c x m d r h o k = preceded_none m (record { ends = x.label; made = _ }) d r h k

  do_other : (m : ℕ) (before xs : List Labelled) (x : Labelled) (c : Statement77) → nests_wrongly c (record { before = before; here = x; after = xs }) ≡ false → label_stands_in xs m ≡ false → DoOther m c
  do_other m before xs x (Do (Some k) v a b c) h g = by (k == m) refl
    where
      by : (b : Bool) → (k == m) ≡ b → (k == m) ≡ false
      by true e = absurd (not_both (label_stands_in xs m) (sym (ap (label_stands_in xs) (let t : k ≡ m = grind (arith, nat_tests) in t)) ∙ affirmed (label_stands_in xs k) h) g)
      by false e = e
  do_other m before xs x c h g = tt

  endless : (text before xs : List Labelled) (m : ℕ) → AllByRecursion (IsRight text) (places_from before xs) → label_stands_in xs m ≡ false → AreEndless m (rest_from us s named xs)
  endless text before [] m r h = nothing
    where
      nothing : (d : ℕ) → ends_loop m (level d (Outermost [])) ≡ false
      nothing zero = refl
      nothing (suc d) = refl
  endless text before (x ∷ xs) m r h = λ d.
      let p : Place77 = record { before = before; here = x; after = xs } in
      let closed = right_false (is_left_open p) (is_closed_wrongly p) r.0.nesting in
      endless_step x.statement x m d (rest_from us s named xs) (left_false (bears m x) (label_stands_in xs m) h)
      (do_other m before xs x x.statement (left_false (nests_wrongly x.statement p) (ends_loops_wrongly p x.label) closed) (right_false (bears m x) (label_stands_in xs m) h))
      (endless text (x ∷ before) xs m r.1 (right_false (bears m x) (label_stands_in xs m) h))

  -- ---- the label itself

  marks : (n : ℕ) → list_any (λ m. m == n) named ≡ true → (end : Option ℕ) → end ≡ Some n → (cs : List tree.Statement) → Contains (labels_of (tree.block (label_before named end ++ cs))) n
  marks n h None e cs = absurd cc
  marks n h (Some m) e cs = by (list_any (λ k. k == m) named) (ap (λ j. list_any (λ k. k == j) named) same ∙ h)
    where
      same : m ≡ n
      same = cc

      by : (b : Bool) → b ≡ true → Contains (labels_of (tree.block (cond b (tree.Label m ∷ []) [] ++ cs))) n
      by true f = subst (λ (j : ℕ). Contains (m ∷ labels_of (tree.block cs)) j) same (here m (labels_of (tree.block cs)))
      by false f = absurd cc

  -- the first piece of a block has the label
  record Arrives (n : ℕ) (r : Rest) : Type 0 where
    first : Piece
    more : List Piece
    is : level 0 r ≡ first ∷ more
    has : Contains (labels_of (tree.block first.made)) n

  preceded_arrives : (n : ℕ) (p : Piece) (r : Rest) → Contains (labels_of (tree.block p.made)) n → Arrives n (preceded p r)
  preceded_arrives n p (Outermost ps) h = record { first = p; more = ps; is = refl; has = h }
  preceded_arrives n p (InArm ps arms other r) h = record { first = p; more = ps; is = refl; has = h }

  loop_arrives : (n : ℕ) (make : tree.Block → tree.Statement) (mark : List tree.Statement) (m : ℕ) (r : Rest) → ((cs : List tree.Statement) → Contains (labels_of (tree.block (mark ++ cs))) n) → Arrives n (loop_begun make mark m r)
  loop_arrives n make mark m (Outermost ps) h = record { first = record { ends = Some m; made = mark ++ make (block_of (up_to m ps)) ∷ [] }; more = beyond m ps; is = refl; has = h (make (block_of (up_to m ps)) ∷ []) }
  loop_arrives n make mark m (InArm ps arms other r) h = record { first = record { ends = Some m; made = mark ++ make (block_of (up_to m ps)) ∷ [] }; more = beyond m ps; is = refl; has = h (make (block_of (up_to m ps)) ∷ []) }

  if_arrives : (n : ℕ) (y : Labelled) (c : tree.Expression) (f : Frames) (r : Rest) → IsShaped (Inner [] false f) r → ((cs : List tree.Statement) → Contains (labels_of (tree.block (label_before named y.label ++ cs))) n)
      → Arrives n (begun us s named y (If c) r)
  if_arrives n y c f (Outermost ps) h m = absurd h
  if_arrives n y c f (InArm ps arms other r) h m = preceded_arrives n (record { ends = None; made = _ }) r (m (tree.If y.line (tree.arm (resolved us s c) (block_of ps) arms) other ∷ []))

  arrives_by : (n : ℕ) (y : Labelled) (c : Statement77) (f g : Frames) (r : Rest) → Moves c y.label f g → IsShaped g r → is_no_target c ≡ false → ((cs : List tree.Statement) → Contains (labels_of (tree.block (label_before named y.label ++ cs))) n)
      → Arrives n (begun us s named y c r)
  arrives_by n y EndIf f g r m h t k = absurd cc
  arrives_by n y Else f g r m h t k = absurd cc
  arrives_by n y (ElseIf c) f g r m h t k = absurd cc
  arrives_by n y (If c) f g r m h t k = if_arrives n y c f r (subst (λ (e : Frames). IsShaped e r) m h) k
  arrives_by n y (Do (Some i) v a b c) f g r m h t k = loop_arrives n (tree.Do y.line v (resolved us s a) (resolved us s b) (resolved us s c)) (label_before named y.label) i r k
  arrives_by n y c f g r m h t k = preceded_arrives n (record { ends = y.label; made = label_before named y.label ++ simple us s y.line c }) r (k (simple us s y.line c))

  arrives : (text before ys : List Labelled) (y : Labelled) (n : ℕ) → IsFree text before (y ∷ ys) → bears n y ≡ true → is_no_target y.statement ≡ false → list_any (λ m. m == n) named ≡ true → Arrives n (rest_from us s named (y ∷ ys))
  arrives text before ys y n k e t h =
      arrives_by n y y.statement (frames (y ∷ ys) before 0) (frames ys (y ∷ before) 0) (rest_from us s named ys) (moves text before ys y k.right)
      (shape us s named text (y ∷ before) ys k.right.1 (all_end text before ys y k.right k.end)) t (marks n h y.label (label_is n y.label e))

  in_pieces : (n : ℕ) (fs : List Piece) (b : Piece) (bs : List Piece) → Contains (labels_of (tree.block b.made)) n → Contains (labels_of (block_of (fs ++ b ∷ bs))) n
  in_pieces n [] b bs h =
      subst (λ (ns : List ℕ). Contains ns n) (sym (labels_appended b.made (flat_map (λ (p : Piece). p.made) bs))) (Contains-append_left (labels_of (tree.block b.made)) (labels_of (block_of bs)) n h)
  in_pieces n (f ∷ fs) b bs h =
      subst (λ (ns : List ℕ). Contains ns n) (sym (labels_appended f.made (flat_map (λ (p : Piece). p.made) (fs ++ b ∷ bs)))) (Contains-append_right (labels_of (tree.block f.made)) (labels_of (block_of (fs ++ b ∷ bs))) n (in_pieces n fs b bs h))

  behind_pieces : (n : ℕ) (b : Piece) (bs ps : List Piece) → IsBehind (b ∷ bs) ps → Contains (labels_of (tree.block b.made)) n → Contains (labels_of (block_of ps)) n
  behind_pieces n b bs ps h c = subst (λ (qs : List Piece). Contains (labels_of (block_of qs)) n) (sym h.is) (in_pieces n h.passed b bs c)

  in_ahead : (n d : ℕ) (r : Rest) (b : Piece) (bs : List Piece) → IsBehind (b ∷ bs) (level d r) → Contains (labels_of (tree.block b.made)) n → Contains (ahead_of r) n
  in_ahead n zero (Outermost ps) b bs h c = behind_pieces n b bs ps h c
  in_ahead n zero (InArm ps arms other r) b bs h c = Contains-append_left (labels_of (block_of ps)) (ahead_of r) n (behind_pieces n b bs ps h c)
  in_ahead n (suc d) (Outermost ps) b bs h c = absurd (no_level d ps b bs h)
  in_ahead n (suc d) (InArm ps arms other r) b bs h c = Contains-append_right (labels_of (block_of ps)) (ahead_of r) n (in_ahead n d r b bs h c)

  -- ---- a GO TO

  record IsFound (n : ℕ) (b xs : List Labelled) (way : Place77) : Type 0 where
    whole : unwound way.before (way.here ∷ way.after) ≡ unwound b xs
    bears' : bears n way.here ≡ true

  found_way : (n : ℕ) (b xs : List Labelled) (way : Place77) → find (λ (p : Place77). bears n p.here) (places_from b xs) ≡ Some way → IsFound n b xs way
  found_way n b [] way h = absurd cc
  found_way n b (x ∷ xs) way h = by (bears n x) refl (found_way n (x ∷ b) xs way) h
    where
      at : (record { before = b; here = x; after = xs }) ≡ way → bears n x ≡ true → IsFound n b (x ∷ xs) way
      at e t = subst (λ (w : Place77). IsFound n b (x ∷ xs) w) e (record { whole = refl; bears' = t })

      by : (t : Bool) → bears n x ≡ t → (find (λ (p : Place77). bears n p.here) (places_from (x ∷ b) xs) ≡ Some way → IsFound n (x ∷ b) xs way)
          → cond t (Some (record { before = b; here = x; after = xs })) (find (λ (p : Place77). bears n p.here) (places_from (x ∷ b) xs)) ≡ Some way → IsFound n b (x ∷ xs) way
      by true e more h = at (cc) e
      by false e more h = let f = more h in record { whole = f.whole; bears' = f.bears' }

  -- it leads to a label that stands ahead
  pub leads_ahead : (text before xs : List Labelled) (n : ℕ) → AllByRecursion (IsRight text) (places_from before xs) → AllEnd xs (frames xs before 0) → list_any (λ m. m == n) named ≡ true
      → leads_wrongly (place_of_label n xs) ≡ false → Contains (ahead_of (rest_from us s named xs)) n
  leads_ahead text before xs n r e k l = by (place_of_label n xs) refl l
    where
      go : (way : Place77) → IsFound n [] xs way → enters_block way ≡ false → is_no_target way.here.statement ≡ false → Contains (ahead_of (rest_from us s named xs)) n
      go way f o t =
          let W = way.here ∷ way.after in
          let free : IsFree text before (unwound way.before W) = subst (λ (ys : List Labelled). IsFree text before ys) (sym f.whole) (record { right = r; end = e }) in
          let at = free_at text before way.before W free in
          let a = arrives text (way.before ++ before) way.after way.here n at f.bears' t k in
          let w = walk text before W way.before W 0 a.first a.more free (λ m h. sym (ap (ends_loop m) a.is) ∙ endless text (way.before ++ before) W m at.right h 0)
          (left_false (opens (without_ended way.before 0)) (list_any (loop_ends_in W) way.before) o) (right_false (opens (without_ended way.before 0)) (list_any (loop_ends_in W) way.before) o)
          (record { passed = []; is = a.is }) in
          subst (λ (ys : List Labelled). Contains (ahead_of (rest_from us s named ys)) n) f.whole (in_ahead n w.outer (rest_from us s named (unwound way.before W)) a.first a.more w.behind a.has)

      by : (o : Option Place77) → place_of_label n xs ≡ o → leads_wrongly o ≡ false → Contains (ahead_of (rest_from us s named xs)) n
      by None g h = absurd cc
      by (Some way) g h = go way (found_way n [] xs way g) (left_false (enters_block way) (is_no_target way.here.statement) h) (right_false (enters_block way) (is_no_target way.here.statement) h)
