-- What each statement of a well nested text does to the block IFs and loops that are open.
use Rattle.std.proofs.Common.{◌≡◌, ℕ, zero, suc, ◌<◌, ◌==◌, Bool, true, false, not, ◌&&◌, ◌||◌, Option, Some, None, List, [], ◌∷◌, refl, sym, ap, subst, ◌∙◌, arith}
use Rattle.std.specs.List.{AllByRecursion, list_any}
use Rattle.std.proofs.lemmas.Bool.Decides.{nat_tests}
use Rattle.tree.specs.Plain.{Expression}
use Rattle.f77_grammar.specs.Statement77.{Labelled, Statement77, If, ElseIf, Else, EndIf, Do}
use Rattle.f77_grammar.specs.program.Text.{Place77, places_from, is_label, bears, label_stands_in, is_last_else}
use Rattle.f77_grammar.specs.program.Labels.{is_wrong_label77}
use Rattle.f77_grammar.specs.program.Nesting.{since_if, own_since_if, has_open_if, ends_here, has_end_if77, begins_loop, since_do, is_loop_open, is_anything_open, suits_else, is_no_loop_end, ends_loops_wrongly, stays_open77, nests_wrongly, is_left_open, is_closed_wrongly}
use Rattle.f77_laws.proofs.trees.Lists.{left_true, right_true, left_false, right_false, or_right, both_false, negated, affirmed, not_both}
use Rattle.f77_laws.specs.trees.Laws.{IsWellNested}
use Rattle.f77_laws.proofs.trees.Frames.{Loop, Frames, Base, Inner, pushed, marked, top_closed, next_frames, pushed_if, frames, open_ifs_in, had_else, EndsNone, same_frames, closes_nothing, top_kept, ended_frames, IsEmptyTop, empty_top, else_shown}

-- ---- a label stands on one statement alone

pub label_free : (before : List Labelled) (m : ℕ) (end : Option ℕ) → label_stands_in before m ≡ true → is_wrong_label77 before end ≡ false → is_label m end ≡ false
label_free before m None h g = refl
label_free before m (Some k) h g = by (k == m) refl
  where
    by : (b : Bool) → (k == m) ≡ b → (k == m) ≡ false
    by true e =
        let s : k ≡ m = grind (arith, nat_tests) in
        absurd (not_both (label_stands_in before k) (ap (label_stands_in before) s ∙ h) (right_false (k == 0) (label_stands_in before k) g))
    by false e = e

pub stands_no_more : (before xs : List Labelled) (m : ℕ) → AllByRecursion IsWellNested (places_from before xs) → label_stands_in before m ≡ true → label_stands_in xs m ≡ false
stands_no_more before [] m h g = refl
stands_no_more before (x ∷ xs) m h g =
    both_false (bears m x) (label_stands_in xs m)
    (label_free before m x.label g h.0.label)
    (stands_no_more (x ∷ before) xs m h.1 (or_right (bears m x) (label_stands_in before m) g))

here_alone : (before xs : List Labelled) (x : Labelled) (m : ℕ) → AllByRecursion IsWellNested (places_from (x ∷ before) xs) → x.label ≡ Some m → label_stands_in xs m ≡ false
here_alone before xs x m h e = stands_no_more (x ∷ before) xs m h (ap (λ b. b || label_stands_in before m) (ap (is_label m) e ∙ itself m))
  where
    itself : (m : ℕ) → (m == m) ≡ true
    itself m = grind (arith, nat_tests)

-- ---- what a statement does

pub record HasNoElse (f g : Frames) : Type 0 where
  pub outer : Frames
  pub before : f ≡ Inner [] false outer
  pub after : g ≡ Inner [] true outer

pub record IsInIf (f g : Frames) : Type 0 where
  pub had : Bool
  pub outer : Frames
  pub before : f ≡ Inner [] had outer
  pub same : g ≡ f

abbrev pub Moves : Statement77 → Option ℕ → Frames → Frames → Type 0
Moves (If c) end f g = g ≡ Inner [] false f
Moves EndIf end f g = IsEmptyTop f g
Moves Else end f g = HasNoElse f g
Moves (ElseIf c) end f g = IsInIf f g
Moves (Do (Some n) v a b c) end f g = g ≡ pushed (record { label = n; variable = v }) f
Moves s end f g = g ≡ top_closed end f

-- no loop ends on such a statement
no_end : (before : List Labelled) (x : Labelled) (xs : List Labelled) (end : Option ℕ) → x.label ≡ end → is_no_loop_end x.statement ≡ true → ends_loops_wrongly (record { before = before; here = x; after = xs }) end ≡ false → EndsNone x before
no_end before x xs None e n h = λ k b. absurd (let f : bears k x ≡ false = ap (is_label k) e in cc)
no_end before x xs (Some m) e n h = λ k b. borne k (sym (ap (is_label k) e) ∙ b)
  where
    none : (a b c : Bool) → b ≡ true → (a && (b || c)) ≡ false → a ≡ false
    none true true c h g = absurd cc
    none true false c h g = absurd cc
    none false b c h g = refl

    borne : (k : ℕ) → (m == k) ≡ true → list_any (begins_loop k) before ≡ false
    borne k t =
        let s : k ≡ m = grind (arith, nat_tests) in
        ap (λ j. list_any (begins_loop j) before) s
        ∙ none (list_any (begins_loop m) before) (is_no_loop_end x.statement) (is_anything_open (since_do m before) xs) n h

-- what may end loops
may_end : (before xs : List Labelled) (x : Labelled) (end : Option ℕ) → AllByRecursion IsWellNested (places_from (x ∷ before) xs) → x.label ≡ end
    → ends_loops_wrongly (record { before = before; here = x; after = xs }) end ≡ false → frames xs before 0 ≡ top_closed end (frames (x ∷ xs) before 0)
may_end before xs x None r e h = sym (same_frames x xs before (λ k b. absurd (let f : bears k x ≡ false = ap (is_label k) e in cc)) 0) ∙ sym (top_kept (frames (x ∷ xs) before 0))
may_end before xs x (Some m) r e h = by (list_any (begins_loop m) before) refl h
  where
    by : (b : Bool) → list_any (begins_loop m) before ≡ b → (b && (is_no_loop_end x.statement || is_anything_open (since_do m before) xs)) ≡ false → frames xs before 0 ≡ top_closed (Some m) (frames (x ∷ xs) before 0)
    by true d g =
        let open_ = right_false (is_no_loop_end x.statement) (is_anything_open (since_do m before) xs) g in
        ended_frames x m xs before e (here_alone before xs x m r e) d
        (right_false (has_open_if (since_do m before)) (is_loop_open (since_do m before) xs) open_) 0
        (left_false (has_open_if (since_do m before)) (is_loop_open (since_do m before) xs) open_)
    by false d g =
        sym (closes_nothing m xs before d 0) ∙ ap (top_closed (Some m)) (sym (same_frames x xs before (λ k b. borne k (sym (ap (is_label k) e) ∙ b)) 0))
      where
        borne : (k : ℕ) → (m == k) ≡ true → list_any (begins_loop k) before ≡ false
        borne k t = let s : k ≡ m = grind (arith, nat_tests) in ap (λ j. list_any (begins_loop j) before) s ∙ d

else_moves : (before xs : List Labelled) (x : Labelled) → EndsNone x before → suits_else (record { before = before; here = x; after = xs }) ≡ true
    → (h : IsEmptyTop (frames (x ∷ xs) before 0) (frames (x ∷ xs) before 1)) → h.had ≡ false
else_moves before xs x none s h = by h.had refl
  where
    no_else : list_any (λ (z : Labelled). is_last_else z.statement) (own_since_if before) ≡ false
    no_else = negated (list_any (λ (z : Labelled). is_last_else z.statement) (own_since_if before)) (right_true (has_open_if before && not (is_loop_open (since_if before) (x ∷ xs))) (not (list_any (λ (z : Labelled). is_last_else z.statement) (own_since_if before))) s)

    by : (b : Bool) → h.had ≡ b → h.had ≡ false
    by true e = absurd (not_both (list_any (λ (z : Labelled). is_last_else z.statement) (own_since_if before)) (else_shown (x ∷ xs) before 0 (ap had_else h.is ∙ e)) no_else)
    by false e = e

ends_by : (before xs : List Labelled) (x : Labelled) (s : Statement77) → x.statement ≡ s → is_no_loop_end s ≡ true → ends_loops_wrongly (record { before = before; here = x; after = xs }) x.label ≡ false → EndsNone x before
ends_by before xs x s e n l = no_end before x xs x.label refl (ap is_no_loop_end e ∙ n) l

in_if : (before xs : List Labelled) (x : Labelled) → EndsNone x before → suits_else (record { before = before; here = x; after = xs }) ≡ true → IsEmptyTop (frames (x ∷ xs) before 0) (frames (x ∷ xs) before 1)
in_if before xs x none s =
    let front = left_true (has_open_if before && not (is_loop_open (since_if before) (x ∷ xs))) (not (list_any (λ (z : Labelled). is_last_else z.statement) (own_since_if before))) s in
    empty_top (x ∷ xs) before 0 (left_true (has_open_if before) (not (is_loop_open (since_if before) (x ∷ xs))) front)
    (negated (is_loop_open (since_if before) (x ∷ xs)) (right_true (has_open_if before) (not (is_loop_open (since_if before) (x ∷ xs))) front))

moves_by : (before xs : List Labelled) (x : Labelled) (s : Statement77) → x.statement ≡ s → AllByRecursion IsWellNested (places_from (x ∷ before) xs)
    → nests_wrongly s (record { before = before; here = x; after = xs }) ≡ false
    → ends_loops_wrongly (record { before = before; here = x; after = xs }) x.label ≡ false → Moves s x.label (frames (x ∷ xs) before 0) (next_frames s xs (frames xs before) 0)
moves_by before xs x (If c) e r n l = ap (Inner [] false) (sym (same_frames x xs before (ends_by before xs x (If c) e refl l) 0))
moves_by before xs x EndIf e r n l =
    subst (λ (f : Frames). IsEmptyTop f (frames xs before 1)) (sym (same_frames x xs before (ends_by before xs x EndIf e refl l) 0))
    (empty_top xs before 0 (affirmed (has_open_if before) (left_false (not (has_open_if before)) (is_loop_open (since_if before) xs) n)) (right_false (not (has_open_if before)) (is_loop_open (since_if before) xs) n))
moves_by before xs x Else e r n l =
    let none = ends_by before xs x Else e refl l in
    let s = affirmed (suits_else (record { before = before; here = x; after = xs })) n in
    let t = in_if before xs x none s in
    let is : frames (x ∷ xs) before 0 ≡ Inner [] false (frames (x ∷ xs) before 1) = t.is ∙ ap (λ b. Inner [] b (frames (x ∷ xs) before 1)) (else_moves before xs x none s t) in
    record { outer = frames (x ∷ xs) before 1; before = is; after = ap marked (sym (same_frames x xs before none 0) ∙ is) }
moves_by before xs x (ElseIf c) e r n l =
    let none = ends_by before xs x (ElseIf c) e refl l in
    let t = in_if before xs x none (affirmed (suits_else (record { before = before; here = x; after = xs })) n) in
    record { had = t.had; outer = frames (x ∷ xs) before 1; before = t.is; same = sym (same_frames x xs before none 0) }
moves_by before xs x (Do (Some k) v a b c) e r n l =
    ap (λ t. pushed_if t (record { label = k; variable = v }) (frames xs before 0)) (affirmed (label_stands_in xs k) n)
    ∙ ap (pushed (record { label = k; variable = v })) (sym (same_frames x xs before (ends_by before xs x (Do (Some k) v a b c) e refl l) 0))
moves_by before xs x s e r n l = may_end before xs x x.label r refl l

pub moves : (before xs : List Labelled) (x : Labelled) → AllByRecursion IsWellNested (places_from before (x ∷ xs)) → Moves x.statement x.label (frames (x ∷ xs) before 0) (frames xs (x ∷ before) 0)
moves before xs x r =
    let p : Place77 = record { before = before; here = x; after = xs } in
    let closed = right_false (is_left_open p) (is_closed_wrongly p) r.0.nesting in
    moves_by before xs x x.statement refl r.1 (left_false (nests_wrongly x.statement p) (ends_loops_wrongly p x.label) closed) (right_false (nests_wrongly x.statement p) (ends_loops_wrongly p x.label) closed)

-- ---- each block IF has its END IF

abbrev pub AllEnd : List Labelled → Frames → Type 0
AllEnd xs f = (j : ℕ) → j < open_ifs_in f → has_end_if77 xs j ≡ true

pushed_ifs : (l : Loop) (f : Frames) → open_ifs_in (pushed l f) ≡ open_ifs_in f
pushed_ifs l (Base ls) = refl
pushed_ifs l (Inner ls had f) = refl

closed_ifs : (end : Option ℕ) (f : Frames) → open_ifs_in (top_closed end f) ≡ open_ifs_in f
closed_ifs end (Base ls) = refl
closed_ifs end (Inner ls had f) = refl

ends_by_form : (s : Statement77) (end : Option ℕ) (xs : List Labelled) (f g : Frames) → Moves s end f g → ((c : Expression) → s ≡ If c → has_end_if77 xs 0 ≡ true)
    → ((j : ℕ) → j < open_ifs_in f → ends_here s (has_end_if77 xs) j ≡ true) → AllEnd xs g
ends_by_form (If c) end xs f g m o h = λ j l. first j (let e = ap open_ifs_in m in omega (arith, l, e))
  where
    first : (j : ℕ) → j < suc (open_ifs_in f) → has_end_if77 xs j ≡ true
    first zero l = o c refl
    first (suc j) l = h j (omega arith)
ends_by_form EndIf end xs f g m o h = λ j l. h (suc j) (let e = ap open_ifs_in m.is in omega (arith, l, e))
ends_by_form Else end xs f g m o h = λ j l. h j (let e = ap open_ifs_in m.before in let k = ap open_ifs_in m.after in omega (arith, l, e, k))
ends_by_form (ElseIf c) end xs f g m o h = λ j l. h j (let e = ap open_ifs_in m.same in omega (arith, l, e))
ends_by_form (Do (Some k) v a b c) end xs f g m o h = λ j l. h j (let e = ap open_ifs_in m in let d = pushed_ifs (record { label = k; variable = v }) f in omega (arith, l, e, d))
ends_by_form s end xs f g m o h = λ j l. h j (let e = ap open_ifs_in m in let d = closed_ifs end f in omega (arith, l, e, d))

pub all_end : (before xs : List Labelled) (x : Labelled) → AllByRecursion IsWellNested (places_from before (x ∷ xs)) → AllEnd (x ∷ xs) (frames (x ∷ xs) before 0) → AllEnd xs (frames xs (x ∷ before) 0)
all_end before xs x r h =
    ends_by_form x.statement x.label xs (frames (x ∷ xs) before 0) (frames xs (x ∷ before) 0) (moves before xs x r) closes h
  where
    closes : (c : Expression) → x.statement ≡ If c → has_end_if77 xs 0 ≡ true
    closes c e =
        let p : Place77 = record { before = before; here = x; after = xs } in
        affirmed (has_end_if77 xs 0) (ap (λ s. stays_open77 s p) (sym e) ∙ left_false (is_left_open p) (is_closed_wrongly p) r.0.nesting)
