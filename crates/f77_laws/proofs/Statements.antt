-- The statements of a text without findings, as the tree has them.
use Rattle.std.proofs.Common.{◌≡◌, ◌⊎◌, inl, inr, ℕ, suc, ◌+◌, ◌<◌, ◌≤◌, ◌==◌, nat_le, Bool, true, false, not, ◌&&◌, ◌||◌, cond, Option, Some, None, List, [], ◌∷◌, ◌++◌, length, refl, sym, ap, subst, ◌∙◌, arith, Contains, filter, flat_map, leb-false}
use Rattle.std.specs.List.{AllByRecursion, list_any}
use Rattle.std.proofs.lemmas.Bool.Decides.{nat_tests}
use Rattle.tree.specs.declared.ops.Kind.TheVariants.{Logical}
use Rattle.tree.specs.Plain as tree
use Rattle.tree.specs.Plain.{Expression, Declaration}
use Rattle.meaning.specs.Store.{Store}
use Rattle.f77_grammar.specs.Statement77.{Labelled, Statement77, Program, ImplicitNone, Declare, Dimension, Constants, Assign, Go, Test, If, ElseIf, Else, EndIf, Do, EndDo, Continue, Stop, Read, Print, End}
use Rattle.f77_grammar.specs.program.Text.{Place77, places_from, is_label, action, label_stands_in, loop_ends_in, open_ifs, open_loops}
use Rattle.f77_grammar.specs.program.Uses.{Use77, uses77_in, uses77_of, uses_in_text, is_typed, is_defined, is_array_name, names_that}
use Rattle.f77_grammar.specs.program.Labels.{is_wrong_label77, is_unknown, label_named}
use Rattle.f77_grammar.specs.program.Declarations.{is_misused, has_misused_name, is_declared_again, is_array_or_constant, uses_title, has_unknown_constant}
use Rattle.f77_grammar.specs.program.Kinds.{has_kind, suits, calls_hidden}
use Rattle.f77_grammar.specs.program.Jumps.{jumps_wrongly}
use Rattle.f77_grammar.specs.program.DoVariables.{loop_variable, loop_variables, misuses_variable}
use Rattle.f77_grammar.specs.program.Limits.{opens_block77, has_many_blocks}
use Rattle.meaning.specs.Profile77.{blocks_in, IsLine}
use Rattle.f77_grammar.specs.program.Tree.{label_before, target, targets, resolved, simple}
use Rattle.f77_laws.specs.trees.Steps.{Rest, Outermost, InArm, preceded, begun, rest_from}
use Rattle.f77_laws.specs.Source.{IsShallow, IsSourceLabel, IsSourceAction, IsSourceStatement, IsSourceCard}
use Rattle.f77_laws.proofs.Lists.{left_true, right_true, left_false, right_false, affirmed, all_at, all_of, all_both, all_left, all_right, none_any, any_true, found, in_flat, from_flat, here, nowhere, cases_of}
use Rattle.f77_laws.proofs.Sound.{IsRight}
use Rattle.f77_laws.proofs.Frames.{Loop, Frames, Base, Inner, closed, top_closed, frames, variables, depth, variables_are_open, depth_pushed, depth_within}
use Rattle.f77_laws.proofs.Moves.{Moves, moves, AllEnd, all_end}
use Rattle.f77_laws.proofs.Shapes.{no_frames}
use Rattle.f77_laws.proofs.NameKinds.{Knows, IsGood, AreGood}
use Rattle.f77_laws.proofs.Actions.{IsWithin, scalar_of, do_variable, whole, whole_parameters, action_holds}
use Rattle.f77_laws.proofs.Arrivals.{ahead_of, leads_ahead}
use Rattle.f77_laws.proofs.Blocks.{around, IsFine, AreFine, IsMark, marked_fine, preceded_fine, loop_fine, if_fine, else_fine, else_if_fine, end_if_fine}

-- ---- labels

-- a label that a GO TO names is one that can be written
action_target : (c : Statement77) (n : ℕ) → IsSourceAction c → Contains (target (action c)) n → IsSourceLabel n
action_target (Go k) n h c = by (cases_of k [] n c)
  where
    by : (k ≡ n) ⊎ Contains [] n → IsSourceLabel n
    by (inl e) = subst IsSourceLabel e h
    by (inr d) = absurd (nowhere n d)
action_target (Test t b) n h c = absurd h
action_target s n h c = absurd (nowhere n c)

statement_target : (c : Statement77) (n : ℕ) → IsSourceStatement c → Contains (target (action c)) n → IsSourceLabel n
statement_target (Go k) n h c = action_target (Go k) n h c
statement_target (Test t b) n h c = action_target b n h.1 c
statement_target s n h c = absurd (nowhere n c)

abbrev pub AreWritten : List ℕ → Type 0
AreWritten named = (n : ℕ) → list_any (λ j. j == n) named ≡ true → IsSourceLabel n

pub named_written : (text : List Labelled) → AllByRecursion IsSourceCard text → AreWritten (targets text)
named_written text h n e =
    let j = found (λ j. j == n) (targets text) e in
    let y = from_flat (λ (y : Labelled). target (action y.statement)) text j.it j.among in
    subst IsSourceLabel (same j.it j.passes) (statement_target y.it.statement j.it (all_at IsSourceCard text y.it h y.among).statement y.gives)
  where
    same : (j : ℕ) → (j == n) ≡ true → j ≡ n
    same j e = grind (arith, nat_tests)

mark_is : (named : List ℕ) (before : List Labelled) (end : Option ℕ) → is_wrong_label77 before end ≡ false → AreWritten named → IsMark named end
mark_is named before None h g = tt
mark_is named before (Some n) h g = λ e. (above n (left_false (n == 0) (label_stands_in before n) h), g n e)
  where
    above : (n : ℕ) → (n == 0) ≡ false → 0 < n
    above n h = grind (arith, nat_tests)

-- ---- depth

-- blocks round a place, where a block is opened
below_hundred : (a b n : ℕ) → n ≤ b + a → nat_le 100 (a + b) ≡ false → 1 + n ≤ 100
below_hundred a b n h g = let l : a + b < 100 = leb-false 100 (a + b) g in omega (arith, h, l)

opened_depth : (before xs : List Labelled) (x : Labelled) → opens_block77 x.statement ≡ true → has_many_blocks (record { before = before; here = x; after = xs }) ≡ false → 1 + depth (frames (x ∷ xs) before 0) ≤ 100
opened_depth before xs x o h =
    let p : Place77 = record { before = before; here = x; after = xs } in
    below_hundred (length (open_ifs p)) (length (open_loops p)) (depth (frames (x ∷ xs) before 0)) (depth_within (x ∷ xs) before 0) (by (opens_block77 x.statement) o h)
  where
    by : (b : Bool) → b ≡ true → (b && nat_le 100 (length (open_ifs (record { before = before; here = x; after = xs })) + length (open_loops (record { before = before; here = x; after = xs })))) ≡ false
        → nat_le 100 (length (open_ifs (record { before = before; here = x; after = xs })) + length (open_loops (record { before = before; here = x; after = xs }))) ≡ false
    by true o h = h
    by false o h = absurd cc

closed_length : (end : Option ℕ) (ls : List Loop) → length (closed end ls) ≤ length ls
closed_length end [] = omega arith
closed_length end (l ∷ ls) = by (is_label l.label end) (closed_length end ls)
  where
    by : (b : Bool) → length (closed end ls) ≤ length ls → length (cond b (closed end ls) (l ∷ ls)) ≤ suc (length ls)
    by true h = omega (arith, h)
    by false h = omega arith

closed_depth : (end : Option ℕ) (f : Frames) → depth (top_closed end f) ≤ depth f
closed_depth end (Base ls) = closed_length end ls
closed_depth end (Inner ls had f) = let h = closed_length end ls in omega (arith, h)

depth_after : (c : Statement77) (end : Option ℕ) (f g : Frames) → Moves c end f g → (opens_block77 c ≡ true → 1 + depth f ≤ 100) → depth f ≤ 100 → depth g ≤ 100
depth_after (If c) end f g m o h = let e = ap depth m in let k = o refl in omega (arith, e, k)
depth_after EndIf end f g m o h = let e = ap depth m.is in omega (arith, e, h)
depth_after Else end f g m o h = let e = ap depth m.before in let d = ap depth m.after in omega (arith, e, d, h)
depth_after (ElseIf c) end f g m o h = let e = ap depth m.same in omega (arith, e, h)
depth_after (Do (Some n) v a b c) end f g m o h = let e = ap depth m in let k = o refl in let d = depth_pushed (record { label = n; variable = v }) f in omega (arith, e, k, d)
depth_after c end f g m o h = let e = ap depth m in let d = closed_depth end f in omega (arith, e, d, h)

-- ---- where no names are misused

abbrev IsExecuted : Statement77 → Type 0
IsExecuted (Declare k es) = ⊥
IsExecuted (Dimension es) = ⊥
IsExecuted (Constants ds) = ⊥
IsExecuted c = Unit {0}

misused : (us : List Use77) (c : Statement77) → IsExecuted c → has_misused_name us c ≡ false → list_any (is_misused us) (uses77_of c) ≡ false
misused us (Declare k es) h g = absurd h
misused us (Dimension es) h g = absurd h
misused us (Constants ds) h g = absurd h
misused us c h g = g

-- ---- loops round a place have scalars

abbrev pub HasScalar : List Use77 → Labelled → Type 0
HasScalar us y = AllByRecursion (λ v. is_array_name us v ≡ false) (loop_variable y.statement)

scalars_open : (us : List Use77) (test : Labelled → Bool) (ys : List Labelled) → AllByRecursion (HasScalar us) ys → AllByRecursion (λ v. is_array_name us v ≡ false) (flat_map (λ (y : Labelled). loop_variable y.statement) (filter test ys))
scalars_open us test [] h = tt
scalars_open us test (y ∷ ys) h = by (test y) (scalars_open us test ys h.1)
  where
    by : (b : Bool) → AllByRecursion (λ v. is_array_name us v ≡ false) (flat_map (λ (z : Labelled). loop_variable z.statement) (filter test ys))
        → AllByRecursion (λ v. is_array_name us v ≡ false) (flat_map (λ (z : Labelled). loop_variable z.statement) (cond b (y ∷ filter test ys) (filter test ys)))
    by true more = all_both (λ v. is_array_name us v ≡ false) (loop_variable y.statement) (flat_map (λ (z : Labelled). loop_variable z.statement) (filter test ys)) h.0 more
    by false more = more

-- ---- simple statements have no blocks but a logical IF

flat_action : (us : List Use77) (s : Store) (line : ℕ) (c : Statement77) → IsSourceAction c → blocks_in (tree.block (simple us s line c)) ≡ 0
flat_action us s line (Assign left e) h = omega arith
flat_action us s line (Go n) h = omega arith
flat_action us s line Continue h = refl
flat_action us s line Stop h = omega arith
flat_action us s line (Read is) h = omega arith
flat_action us s line (Print is) h = omega arith
flat_action us s line (Program x) h = absurd h
flat_action us s line ImplicitNone h = absurd h
flat_action us s line (Declare k es) h = absurd h
flat_action us s line (Dimension es) h = absurd h
flat_action us s line (Constants cs) h = absurd h
flat_action us s line (Test c t) h = absurd h
flat_action us s line (If c) h = absurd h
flat_action us s line (ElseIf c) h = absurd h
flat_action us s line Else h = absurd h
flat_action us s line EndIf h = absurd h
flat_action us s line (Do n x b c d) h = absurd h
flat_action us s line EndDo h = absurd h
flat_action us s line End h = absurd h

module _ (text : List Labelled) (s : Store) (ds : List Declaration) (knows : Knows (uses_in_text text) s ds) where
  abbrev us : List Use77
  us = uses_in_text text

  abbrev named : List ℕ
  named = targets text

  -- ---- a place between two statements

  pub record IsCard (x : Labelled) : Type 0 where
    pub source : IsSourceCard x
    pub among : Contains text x

  pub record IsAt (before xs : List Labelled) : Type 0 where
    pub right : AllByRecursion (IsRight text) (places_from before xs)
    pub end : AllEnd xs (frames xs before 0)
    pub depth : depth (frames xs before 0) ≤ 100
    pub scalars : AllByRecursion (HasScalar us) before
    pub cards : AllByRecursion IsCard xs
    pub written : AreWritten (targets text)

  good_uses : (before xs : List Labelled) (x : Labelled) → IsAt before (x ∷ xs) → IsExecuted x.statement → AreGood us (uses77_of x.statement)
  good_uses before xs x k e =
      let p : Place77 = record { before = before; here = x; after = xs } in
      let m = misused us x.statement e (right_false (is_declared_again is_typed p || is_declared_again is_array_or_constant p || uses_title us p || has_unknown_constant (names_that is_defined (uses_in_text before)) x.statement) (has_misused_name us x.statement) k.right.0.declared) in
      let h = right_false (not (suits us x.statement)) (list_any (calls_hidden us) (uses77_of x.statement)) k.right.0.kinds in
      all_of (IsGood us) (uses77_of x.statement) (λ u c. record {
        among = in_flat (λ (y : Labelled). uses77_of y.statement) text x u k.cards.0.among c;
        suits = all_at (λ v. is_misused us v ≡ false) (uses77_of x.statement) u (none_any (is_misused us) (uses77_of x.statement) m) c;
        shown = all_at (λ v. calls_hidden us v ≡ false) (uses77_of x.statement) u (none_any (calls_hidden us) (uses77_of x.statement) h) c;
      })

  within : (before xs : List Labelled) (x : Labelled) → IsAt before (x ∷ xs) → IsWithin us s ds knows (variables (frames (x ∷ xs) before 0)) (loop_variables (record { before = before; here = x; after = xs }))
  within before xs x k = record { inside = λ v c. variables_are_open (x ∷ xs) before 0 v c; scalars = scalars_open us (loop_ends_in (x ∷ xs)) before k.scalars }

  -- what is known of a statement
  record AreFacts (c : Statement77) (vars : List (List ℕ)) (deep : ℕ) (xs : List Labelled) : Type 0 where
    suits' : suits us c ≡ true
    uses : IsExecuted c → AreGood us (uses77_of c)
    source : IsSourceStatement c
    variable : misuses_variable us (action c) vars ≡ false
    jump : jumps_wrongly xs (action c) ≡ false
    goes : (n : ℕ) → Contains (target (action c)) n → list_any (λ m. m == n) named ≡ true
    opened : opens_block77 c ≡ true → 1 + deep ≤ 100

  equal : (n m : ℕ) → n ≡ m → (n == m) ≡ true
  equal n m e = grind (arith, nat_tests)

  facts : (before xs : List Labelled) (x : Labelled) → IsAt before (x ∷ xs) → AreFacts x.statement (loop_variables (record { before = before; here = x; after = xs })) (depth (frames (x ∷ xs) before 0)) xs
  facts before xs x k = record {
    suits' = affirmed (suits us x.statement) (left_false (not (suits us x.statement)) (list_any (calls_hidden us) (uses77_of x.statement)) k.right.0.kinds);
    uses = good_uses before xs x k;
    source = k.cards.0.source.statement;
    variable = k.right.0.do_variable;
    jump = k.right.0.jump;
    goes = λ n c. any_true (λ m. m == n) named n (in_flat (λ (y : Labelled). target (action y.statement)) text x n k.cards.0.among c) (equal n n refl);
    opened = λ o. opened_depth before xs x o k.right.0.blocks;
  }

  -- ---- simple statements

  goes_ahead : (c : Statement77) (before xs : List Labelled) → AllByRecursion (IsRight text) (places_from before xs) → AllEnd xs (frames xs before 0) → jumps_wrongly xs c ≡ false
      → ((n : ℕ) → Contains (target c) n → list_any (λ m. m == n) named ≡ true) → AllByRecursion (Contains (ahead_of (rest_from us s named xs))) (target c)
  goes_ahead (Go n) before xs r e j g = (leads_ahead us s named text before xs n r e (g n (here n [])) j, tt)
  goes_ahead c before xs r e j g = tt

  action_fine : (line : ℕ) (c : Statement77) (vs vars : List (List ℕ)) (ahead : List ℕ) (deep : ℕ) → IsWithin us s ds knows vs vars → IsLine line → IsSourceAction c → AreGood us (uses77_of c) → suits us c ≡ true
      → misuses_variable us c vars ≡ false → AllByRecursion (Contains ahead) (target c) → deep ≤ 100 → IsFine ds (tree.block (simple us s line c)) (around vs ahead) deep
  action_fine line c vs vars ahead deep w l h u g m a d = record {
    statements = action_holds us s ds knows line c (around vs ahead) vars w l h u g m a;
    depth = (let e = flat_action us s line c h in omega (arith, e, d));
  }

  own_action : (c : Statement77) → IsSourceAction c → action c ≡ c
  own_action (Test c b) h = absurd h
  own_action c h = refl

  test_fine : (line : ℕ) (c : Expression) (b : Statement77) (vs vars : List (List ℕ)) (ahead : List ℕ) (deep : ℕ) → IsWithin us s ds knows vs vars → IsLine line → IsShallow c → IsSourceAction b → AreGood us (uses77_in c ++ uses77_of b)
      → (has_kind us c Logical && suits us b) ≡ true → misuses_variable us b vars ≡ false → AllByRecursion (Contains ahead) (target b) → 1 + deep ≤ 100 → IsFine ds (tree.block (simple us s line (Test c b))) (around vs ahead) deep
  test_fine line c b vs vars ahead deep w l h k u g m a d =
      let body = action_fine line b vs vars ahead (1 + deep) w l k (all_right (IsGood us) (uses77_in c) (uses77_of b) u) (right_true (has_kind us c Logical) (suits us b) g) m a d in
      record {
        statements = ((l, refl, (whole us s ds knows c Logical h (all_left (IsGood us) (uses77_in c) (uses77_of b) u) (left_true (has_kind us c Logical) (suits us b) g), body.statements, tt), tt), tt);
        depth = (let e = body.depth in omega (arith, e));
      }

  -- ---- each statement

  module _ (before xs : List Labelled) (x : Labelled) (k : IsAt before (x ∷ xs)) where
    abbrev f : Frames
    f = frames (x ∷ xs) before 0

    abbrev r : Rest
    r = rest_from us s named xs

    abbrev vars : List (List ℕ)
    vars = loop_variables (record { before = before; here = x; after = xs })

    mark : IsMark named x.label
    mark = mark_is named before x.label (left_false (is_wrong_label77 before x.label) (is_unknown text (label_named (action x.statement))) k.right.0.label) k.written

    line : IsLine x.line
    line = k.cards.0.source.line

    ended : AllEnd xs (frames xs (x ∷ before) 0)
    ended = all_end text before xs x k.right k.end

    moved : (g : Frames) → g ≡ top_closed x.label f → AreFine ds g r → AreFine ds (top_closed x.label f) r
    moved g m h = subst (λ (e : Frames). AreFine ds e r) m h

    piece : (c : Statement77) (g : Frames) → g ≡ top_closed x.label f → AreFine ds g r → IsFine ds (tree.block (simple us s x.line c)) (around (variables f) (ahead_of r)) (depth f)
        → AreFine ds f (preceded (record { ends = x.label; made = label_before named x.label ++ simple us s x.line c }) r)
    piece c g m h i =
        preceded_fine ds (record { ends = x.label; made = label_before named x.label ++ simple us s x.line c }) f r
        (marked_fine ds named x.label (simple us s x.line c) (around (variables f) (ahead_of r)) (depth f) mark i) (moved g m h)

    acts : (c : Statement77) (g : Frames) → IsSourceAction c → AreGood us (uses77_of c) → suits us c ≡ true → misuses_variable us c vars ≡ false → jumps_wrongly xs c ≡ false
        → ((n : ℕ) → Contains (target c) n → list_any (λ m. m == n) named ≡ true) → g ≡ top_closed x.label f → AreFine ds g r
        → AreFine ds f (preceded (record { ends = x.label; made = label_before named x.label ++ simple us s x.line c }) r)
    acts c g a u t v j o m h =
        piece c g m h (action_fine x.line c (variables f) vars (ahead_of r) (depth f) (within before xs x k) line a u t v (goes_ahead c (x ∷ before) xs k.right.1 ended j o) k.depth)

    nothing : (g : Frames) → g ≡ top_closed x.label f → AreFine ds g r → AreFine ds f (preceded (record { ends = x.label; made = label_before named x.label ++ [] }) r)
    nothing g m h =
        preceded_fine ds (record { ends = x.label; made = label_before named x.label ++ [] }) f r
        (marked_fine ds named x.label [] (around (variables f) (ahead_of r)) (depth f) mark (record { statements = tt; depth = (let d = k.depth in omega (arith, d)) })) (moved g m h)

    inner_depth : (had : Bool) (o : Frames) → f ≡ Inner [] had o → 1 + depth o ≤ 100
    inner_depth had o e = let d = ap depth e in let h = k.depth in omega (arith, d, h)

    step : (c : Statement77) (g : Frames) → AreFacts c vars (depth f) xs → Moves c x.label f g → AreFine ds g r → AreFine ds f (begun us s named x c r)
    step (If c) g a m h =
        if_fine ds us s named x c f r mark line (whole us s ds knows c Logical a.source (a.uses tt) a.suits') (a.opened refl) (subst (λ (e : Frames). AreFine ds e r) m h)
    step EndIf g a m h =
        subst (λ (e : Frames). AreFine ds e (InArm [] tree.no_arms tree.no_statements r)) (sym m.is) (end_if_fine ds m.had g r (inner_depth m.had g m.is) h)
    step Else g a m h =
        subst (λ (e : Frames). AreFine ds e (begun us s named x Else r)) (sym m.before)
        (else_fine ds us s named x m.outer r (inner_depth false m.outer m.before) (subst (λ (e : Frames). AreFine ds e r) m.after h))
    step (ElseIf c) g a m h =
        subst (λ (e : Frames). AreFine ds e (begun us s named x (ElseIf c) r)) (sym m.before)
        (else_if_fine ds us s named x c m.had m.outer r (whole us s ds knows c Logical a.source (a.uses tt) a.suits') (inner_depth m.had m.outer m.before) (subst (λ (e : Frames). AreFine ds e r) (m.same ∙ m.before) h))
    step (Do (Some n) v b c d) g a m h =
        let p = whole_parameters us s ds knows v b c d a.source.2 a.source.3 a.source.4 (a.uses tt) a.suits' in
        loop_fine ds x.line (resolved us s b) (resolved us s c) (resolved us s d) named x.label (record { label = n; variable = v }) f r mark
        (record { line = line; variable = do_variable us s ds knows v (variables f) vars (within before xs x k) a.variable; first = p.first; last = p.last; step = p.step })
        (a.opened refl) (subst (λ (e : Frames). AreFine ds e r) m h)
    step (Test c b) g a m h =
        let own = own_action b a.source.1 in
        piece (Test c b) g m h
        (test_fine x.line c b (variables f) vars (ahead_of r) (depth f) (within before xs x k) line a.source.0 a.source.1 (a.uses tt) a.suits'
        (sym (ap (λ e. misuses_variable us e vars) own) ∙ a.variable)
        (goes_ahead b (x ∷ before) xs k.right.1 ended (sym (ap (jumps_wrongly xs) own) ∙ a.jump) (λ n i. a.goes n (subst (λ (e : Statement77). Contains (target e) n) (sym own) i)))
        (a.opened refl))
    step (Assign left e) g a m h = acts (Assign left e) g a.source (a.uses tt) a.suits' a.variable a.jump a.goes m h
    step (Go n) g a m h = acts (Go n) g a.source (a.uses tt) a.suits' a.variable a.jump a.goes m h
    step (Do None v b c d) g a m h = nothing g m h
    step EndDo g a m h = nothing g m h
    step ImplicitNone g a m h = nothing g m h
    step Continue g a m h = acts Continue g a.source (a.uses tt) a.suits' a.variable a.jump a.goes m h
    step Stop g a m h = acts Stop g a.source (a.uses tt) a.suits' a.variable a.jump a.goes m h
    step (Read is) g a m h = acts (Read is) g a.source (a.uses tt) a.suits' a.variable a.jump a.goes m h
    step (Print is) g a m h = acts (Print is) g a.source (a.uses tt) a.suits' a.variable a.jump a.goes m h
    step (Program y) g a m h = nothing g m h
    step (Declare j es) g a m h = nothing g m h
    step (Dimension es) g a m h = nothing g m h
    step (Constants cs) g a m h = nothing g m h
    step End g a m h = nothing g m h

    -- the place behind the statement
    scalar_here : (c : Statement77) → AreFacts c vars (depth f) xs → AllByRecursion (λ v. is_array_name us v ≡ false) (loop_variable c)
    scalar_here (Do n v b c d) a = ((scalar_of us s ds knows v vars a.variable).no_array, tt)
    scalar_here c a = tt

    next : IsAt (x ∷ before) xs
    next = record {
      right = k.right.1;
      end = ended;
      depth = depth_after x.statement x.label f (frames xs (x ∷ before) 0) (moves text before xs x k.right) (facts before xs x k).opened k.depth;
      scalars = (scalar_here x.statement (facts before xs x k), k.scalars);
      cards = k.cards.1;
      written = k.written;
    }

  pub fine : (before xs : List Labelled) → IsAt before xs → AreFine ds (frames xs before 0) (rest_from us s named xs)
  fine before [] k = subst (λ (e : Frames). AreFine ds e (Outermost [])) (sym (no_frames before k.end)) tt
  fine before (x ∷ xs) k = step before xs x k x.statement (frames xs (x ∷ before) 0) (facts before xs x k) (moves text before xs x k.right) (fine (x ∷ before) xs (next before xs x k))
