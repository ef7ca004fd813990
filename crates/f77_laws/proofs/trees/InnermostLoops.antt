-- At an END DO of a well nested text the innermost loop that is open has its label, and no other has.
use Rattle.std.proofs.Common.{◌≡◌, ℕ, zero, suc, ◌+◌, ◌≤◌, ◌==◌, nat_eq, Bool, true, false, not, ◌&&◌, ◌||◌, cond}
use Rattle.std.proofs.Common.{Option, None, Some, List, [], ◌∷◌, refl, sym, ap, subst, ◌∙◌, arith}
use Rattle.std.specs.List.{AllByRecursion, list_any}
use Rattle.std.proofs.lemmas.Bool.Decides.{nat_tests}
use Rattle.f77_grammar.specs.Statement77.{Labelled, Statement77, If, ElseIf, Else, EndIf, Do, EndDo}
use Rattle.f77_grammar.specs.program.Text.{Place77, places_from, is_label, bears, label_stands_in, ends_in, loop_ends_in}
use Rattle.f77_grammar.specs.program.Nesting.{is_do_of, begins_loop, since_do, is_other_open}
use Rattle.f77_grammar.specs.program.Nesting.{ends_not_one, nests_wrongly, ends_loops_wrongly, is_left_open}
use Rattle.f77_grammar.specs.program.Nesting.{is_closed_wrongly}
use Rattle.f77_laws.specs.trees.Laws.{IsWellNested}
use Rattle.f77_laws.proofs.trees.Lists.{left_false, right_false, or_right, affirmed, not_both}
use Rattle.f77_laws.proofs.trees.Frames.{Loop, Frames, Base, Inner, pushed, marked, closed, top_closed, pushed_if}
use Rattle.f77_laws.proofs.trees.Frames.{next_frames, frames}
use Rattle.f77_laws.proofs.trees.Moves.{Moves, moves, stands_no_more}

-- ---- how many open loops have a label

abbrev counted : Bool → ℕ
counted true = 1
counted false = 0

abbrev many : ℕ → List Loop → ℕ
many m [] = 0
many m (l ∷ ls) = counted (m == l.label) + many m ls

abbrev many_in : ℕ → Frames → ℕ
many_in m (Base ls) = many m ls
many_in m (Inner ls had f) = many m ls + many_in m f

many_pushed : (m : ℕ) (l : Loop) (f : Frames) → many_in m (pushed l f) ≡ counted (m == l.label) + many_in m f
many_pushed m l (Base ls) = refl
many_pushed m l (Inner ls had f) = omega arith

many_marked : (m : ℕ) (f : Frames) → many_in m (marked f) ≡ many_in m f
many_marked m (Base ls) = refl
many_marked m (Inner ls had f) = refl

many_pushed_if : (m : ℕ) (b : Bool) (l : Loop) (f : Frames)
    → many_in m (pushed_if b l f) ≡ counted (b && (m == l.label)) + many_in m f
many_pushed_if m true l f = many_pushed m l f
many_pushed_if m false l f = omega arith

-- what a statement before adds to them
abbrev added : ℕ → List Labelled → Statement77 → ℕ
added m rest (Do (Some k) v a b c) = counted (label_stands_in rest k && (m == k))
added m rest s = 0

many_next : (s : Statement77) (rest : List Labelled) (more : ℕ → Frames) (m most : ℕ)
    → ((n : ℕ) → many_in m (more n) ≤ most) → (n : ℕ) → many_in m (next_frames s rest more n) ≤ added m rest s + most
many_next EndIf rest more m most h n = let g = h (suc n) in omega (arith, g)
many_next (If c) rest more m most h zero = let g = h zero in omega (arith, g)
many_next (If c) rest more m most h (suc n) = let g = h n in omega (arith, g)
many_next Else rest more m most h zero =
    let e = many_marked m (more zero) in let k = h zero in omega (arith, e, k)
many_next Else rest more m most h (suc n) = let g = h (suc n) in omega (arith, g)
many_next (Do (Some k) v a b c) rest more m most h zero =
    let e = many_pushed_if m (label_stands_in rest k) (record { label = k; variable = v }) (more zero) in
    let g = h zero in omega (arith, e, g)
many_next (Do (Some k) v a b c) rest more m most h (suc n) = let g = h (suc n) in omega (arith, g)
many_next s rest more m most h n = let g = h n in omega (arith, g)

no_more : (b : Bool) → counted (b && false) ≡ 0
no_more true = refl
no_more false = refl

at_most : (b : Bool) → counted b ≤ 1
at_most true = omega arith
at_most false = omega arith

added_one : (m : ℕ) (rest : List Labelled) (s : Statement77) → added m rest s ≤ 1
added_one m rest (Do (Some k) v a b c) = at_most (label_stands_in rest k && (m == k))
added_one m rest s = omega arith

added_ended : (m : ℕ) (rest : List Labelled) (s : Statement77) → ends_in rest s ≡ false → added m rest s ≡ 0
added_ended m rest (Do (Some k) v a b c) h = ap (λ t. counted (t && (m == k))) h
added_ended m rest s h = refl

added_other : (m : ℕ) (rest : List Labelled) (s : Statement77) → is_do_of m s ≡ false → added m rest s ≡ 0
added_other m rest (Do (Some k) v a b c) h =
    ap (λ t. counted (label_stands_in rest k && t)) (let g : nat_eq k m ≡ false = h in apart g) ∙ no_more (label_stands_in rest k)
  where
    apart : nat_eq k m ≡ false → (m == k) ≡ false
    apart g = grind (arith, nat_tests)
added_other m rest s h = refl

added_past : (m : ℕ) (rest : List Labelled) (s : Statement77) → label_stands_in rest m ≡ false → added m rest s ≡ 0
added_past m rest (Do (Some k) v a b c) h = by (m == k) refl
  where
    by : (t : Bool) → (m == k) ≡ t → counted (label_stands_in rest k && (m == k)) ≡ 0
    by true e =
        let same : k ≡ m = grind (arith, nat_tests) in
        ap (λ t. counted (t && (m == k))) (ap (label_stands_in rest) same ∙ h)
    by false e = ap (λ t. counted (label_stands_in rest k && t)) e ∙ no_more (label_stands_in rest k)
added_past m rest s h = refl

-- none, where no DO has the label, or it stands no more
none_begun : (m : ℕ) (rest before : List Labelled) → list_any (begins_loop m) before ≡ false → (n : ℕ)
    → many_in m (frames rest before n) ≤ 0
none_begun m rest [] h n = omega arith
none_begun m rest (y ∷ ys) h n =
    let a =
    many_next y.statement rest (frames rest ys) m 0
    (none_begun m rest ys (right_false (begins_loop m y) (list_any (begins_loop m) ys) h)) n in
    let b = added_other m rest y.statement (left_false (begins_loop m y) (list_any (begins_loop m) ys) h) in
    omega (arith, a, b)

none_past : (m : ℕ) (rest before : List Labelled) → label_stands_in rest m ≡ false → (n : ℕ)
    → many_in m (frames rest before n) ≤ 0
none_past m rest [] h n = omega arith
none_past m rest (y ∷ ys) h n =
    let a = many_next y.statement rest (frames rest ys) m 0 (none_past m rest ys h) n in
    let b = added_past m rest y.statement h in omega (arith, a, b)

-- at most one, where no loop that begins after the first of them is open
one_open : (m : ℕ) (rest before : List Labelled) → list_any (loop_ends_in rest) (since_do m before) ≡ false → (n : ℕ)
    → many_in m (frames rest before n) ≤ 1
one_open m rest [] h n = omega arith
one_open m rest (y ∷ ys) h n = by (list_any (begins_loop m) ys) refl (one_open m rest ys) h
  where
    by : (t : Bool) → list_any (begins_loop m) ys ≡ t
        → (list_any (loop_ends_in rest) (since_do m ys) ≡ false → (k : ℕ) → many_in m (frames rest ys k) ≤ 1)
        → list_any (loop_ends_in rest) (cond t (y ∷ since_do m ys) []) ≡ false → many_in m (frames rest (y ∷ ys) n) ≤ 1
    by true e more g =
        let a =
        many_next y.statement rest (frames rest ys) m 1
        (more (right_false (loop_ends_in rest y) (list_any (loop_ends_in rest) (since_do m ys)) g)) n in
        let b =
        added_ended m rest y.statement
        (left_false (loop_ends_in rest y) (list_any (loop_ends_in rest) (since_do m ys)) g) in
        omega (arith, a, b)
    by false e more g =
        let a = many_next y.statement rest (frames rest ys) m 0 (none_begun m rest ys e) n in
        let b = added_one m rest y.statement in omega (arith, a, b)

-- ---- the loops that have begun and whose label still comes are open

abbrev pub AreOpen : List Labelled → List Labelled → Type 0
AreOpen before xs = (m : ℕ) → list_any (begins_loop m) before ≡ true → label_stands_in xs m ≡ true
    → 1 ≤ many_in m (frames xs before 0)

pub none_yet : (xs : List Labelled) → AreOpen [] xs
none_yet xs m h g = absurd (not_both false h refl)

other_label : (m k : ℕ) (end : Option ℕ) → is_label m end ≡ false → is_label k end ≡ true → counted (m == k) ≡ 0
other_label m k end h g = by (m == k) refl
  where
    by : (t : Bool) → (m == k) ≡ t → counted t ≡ 0
    by true e =
        let same : m ≡ k = grind (arith, nat_tests) in
        absurd (not_both (is_label k end) g (ap (λ j. is_label j end) (sym same) ∙ h))
    by false e = refl

many_closed : (m : ℕ) (end : Option ℕ) (ls : List Loop) → is_label m end ≡ false → many m (closed end ls) ≡ many m ls
many_closed m end [] h = refl
many_closed m end (l ∷ ls) h = by (is_label l.label end) refl (many_closed m end ls h)
  where
    by : (t : Bool) → is_label l.label end ≡ t → many m (closed end ls) ≡ many m ls
        → many m (cond t (closed end ls) (l ∷ ls)) ≡ many m (l ∷ ls)
    by true e g = let o = other_label m l.label end h e in omega (arith, o, g)
    by false e g = refl

many_kept : (m : ℕ) (end : Option ℕ) (f : Frames) → is_label m end ≡ false → many_in m (top_closed end f) ≡ many_in m f
many_kept m end (Base ls) h = many_closed m end ls h
many_kept m end (Inner ls had f) h = ap (λ k. k + many_in m f) (many_closed m end ls h)

open_by : (s : Statement77) (end : Option ℕ) (m : ℕ) (f g : Frames) (begun : Bool) → Moves s end f g
    → is_label m end ≡ false → (begun ≡ true → 1 ≤ many_in m f) → (is_do_of m s || begun) ≡ true → 1 ≤ many_in m g
open_by (If c) end m f g begun t l old h = let e = ap (many_in m) t in let k = old h in omega (arith, e, k)
open_by EndIf end m f g begun t l old h = let e = ap (many_in m) t.is in let k = old h in omega (arith, e, k)
open_by Else end m f g begun t l old h =
    let e = ap (many_in m) t.before in let d = ap (many_in m) t.after in let k = old h in omega (arith, e, d, k)
open_by (ElseIf c) end m f g begun t l old h = let e = ap (many_in m) t.same in let k = old h in omega (arith, e, k)
open_by (Do (Some n) v a b c) end m f g begun t l old h = by (nat_eq n m) refl h
  where
    whole : many_in m g ≡ counted (m == n) + many_in m f
    whole = ap (many_in m) t ∙ many_pushed m (record { label = n; variable = v }) f

    by : (d : Bool) → nat_eq n m ≡ d → (d || begun) ≡ true → 1 ≤ many_in m g
    by true e k =
        let same : (m == n) ≡ true = grind (arith, nat_tests) in
        let one : counted (m == n) ≡ 1 = ap counted same in let w = whole in omega (arith, w, one)
    by false e k = let w = whole in let o = old k in omega (arith, w, o)
open_by s end m f g begun t l old h =
    let e = ap (many_in m) t in let d = many_kept m end f l in let k = old h in omega (arith, e, d, k)

pub open_after : (before xs : List Labelled) (x : Labelled)
    → AllByRecursion IsWellNested (places_from before (x ∷ xs)) → AreOpen before (x ∷ xs) → AreOpen (x ∷ before) xs
open_after before xs x r h m g t =
    open_by x.statement x.label m (frames (x ∷ xs) before 0) (frames xs (x ∷ before) 0) (list_any (begins_loop m) before)
    (moves before xs x r) (other (bears m x) refl) (λ e. h m e (or_right (bears m x) (label_stands_in xs m) t)) g
  where
    other : (d : Bool) → bears m x ≡ d → bears m x ≡ false
    other true e =
        absurd (not_both (label_stands_in xs m) t
        (stands_no_more (x ∷ before) xs m r.1 (ap (λ d. d || label_stands_in before m) e)))
    other false e = e

-- ---- at END DO

-- the innermost loop has the label, and the one round it hasn't
abbrev pub EndsOne : Option ℕ → List Loop → Type 0
EndsOne end [] = ⊥
EndsOne end (l ∷ ls) = (is_label l.label end ≡ true) × (closed end ls ≡ ls)

-- the loops in the innermost block IF
abbrev pub top : Frames → List Loop
top (Base ls) = ls
top (Inner ls had f) = ls

none_closed : (m : ℕ) (ls : List Loop) → many m ls ≤ 0 → closed (Some m) ls ≡ ls
none_closed m [] h = refl
none_closed m (l ∷ ls) h = by (m == l.label) refl
  where
    by : (t : Bool) → (m == l.label) ≡ t → cond (m == l.label) (closed (Some m) ls) (l ∷ ls) ≡ l ∷ ls
    by true e = absurd (let one : counted (m == l.label) ≡ 1 = ap counted e in omega (arith, h, one))
    by false e = ap (λ d. cond d (closed (Some m) ls) (l ∷ ls)) e

-- `k` more stand in block IFs round
ends_first : (m k : ℕ) (ls : List Loop) → many m ls + k ≤ 1 → 1 ≤ many m ls + k → many m (closed (Some m) ls) + k ≤ 0
    → EndsOne (Some m) ls
ends_first m k [] few some none = absurd (omega (arith, some, none))
ends_first m k (l ∷ ls) few some none = by (m == l.label) refl none
  where
    by : (t : Bool) → (m == l.label) ≡ t → many m (cond t (closed (Some m) ls) (l ∷ ls)) + k ≤ 0
        → EndsOne (Some m) (l ∷ ls)
    by true e g =
        let one : counted (m == l.label) ≡ 1 = ap counted e in (e, none_closed m ls (omega (arith, few, one)))
    by false e g = absurd (omega (arith, some, g))

ends_top : (m : ℕ) (f : Frames) → many_in m f ≤ 1 → 1 ≤ many_in m f → many_in m (top_closed (Some m) f) ≤ 0
    → EndsOne (Some m) (top f)
ends_top m (Base ls) few some none =
    ends_first m 0 ls (omega (arith, few)) (omega (arith, some)) (omega (arith, none))
ends_top m (Inner ls had f) few some none = ends_first m (many_in m f) ls few some none

pub end_do_ends_one : (before xs : List Labelled) (x : Labelled)
    → AllByRecursion IsWellNested (places_from before (x ∷ xs)) → AreOpen before (x ∷ xs) → x.statement ≡ EndDo
    → EndsOne x.label (top (frames (x ∷ xs) before 0))
end_do_ends_one before xs x r held e =
    by x.label refl
    (sym (ap (λ (t : Statement77). nests_wrongly t p) e)
    ∙ left_false (nests_wrongly x.statement p) (ends_loops_wrongly p x.label)
    (right_false (is_left_open p) (is_closed_wrongly p) r.0.nesting))
  where
    p : Place77
    p = record { before = before; here = x; after = xs }

    moved : frames xs (x ∷ before) 0 ≡ top_closed x.label (frames (x ∷ xs) before 0)
    moved =
        subst (λ (t : Statement77). Moves t x.label (frames (x ∷ xs) before 0) (frames xs (x ∷ before) 0)) e
        (moves before xs x r)

    itself : (m : ℕ) → (m == m) ≡ true
    itself m = grind (arith, nat_tests)

    by : (end : Option ℕ) → x.label ≡ end → ends_not_one p end ≡ false
        → EndsOne x.label (top (frames (x ∷ xs) before 0))
    by None l h = absurd (not_both true refl h)
    by (Some m) l h =
        let here : bears m x ≡ true = ap (is_label m) l ∙ itself m in
        let begun : list_any (begins_loop m) before ≡ true =
        affirmed (list_any (begins_loop m) before)
        (left_false (not (list_any (begins_loop m) before)) (is_other_open p m) h) in
        subst (λ (end : Option ℕ). EndsOne end (top (frames (x ∷ xs) before 0))) (sym l)
        (ends_top m (frames (x ∷ xs) before 0)
        (one_open m (x ∷ xs) before (right_false (not (list_any (begins_loop m) before)) (is_other_open p m) h) 0)
        (held m begun (ap (λ d. d || label_stands_in xs m) here))
        (subst (λ (f : Frames). many_in m f ≤ 0) (moved ∙ ap (λ end. top_closed end (frames (x ∷ xs) before 0)) l)
        (none_past m xs (x ∷ before)
        (stands_no_more (x ∷ before) xs m r.1 (ap (λ d. d || label_stands_in before m) here)) 0)))
