-- The block IFs and loops round a place between two statements, the innermost first: what stands before it has opened them, and the rest ends them.
use Rattle.std.proofs.Common.{◌≡◌, ◌⊎◌, inl, inr, ℕ, zero, suc, ◌+◌, ◌≤◌, ◌==◌, nat_eq, Bool, true, false, ◌||◌, cond, Option, Some, None, List, [], ◌∷◌, ◌++◌, map, length, refl, sym, ap, subst, ◌∙◌, arith, Contains, filter, flat_map}
use Rattle.std.specs.List.{list_any}
use Rattle.std.proofs.lemmas.Bool.Decides.{nat_tests}
use Rattle.std.proofs.lemmas.List.Elements.{Contains-append_right}
use Rattle.f77_grammar.specs.Statement77.{Labelled, Statement77, If, Else, EndIf, Do}
use Rattle.f77_grammar.specs.program.Text.{is_label, bears, label_stands_in, is_block_if, is_last_else, ends_in, loop_ends_in, left_over, without_ended}
use Rattle.f77_grammar.specs.program.Nesting.{up_to_if, since, until_if, is_do_of, begins_loop, since_do}
use Rattle.f77_grammar.specs.program.DoVariables.{loop_variable}
use Rattle.f77_laws.proofs.trees.Lists.{left_false, right_false, or_right, here, cases_of}

-- a loop by the label of its last statement and its variable
pub record Loop : Type 0 where
  pub label : ℕ
  pub variable : List ℕ

-- the loops in each block IF that are open, the innermost first; and whether it has had its ELSE
pub data Frames : Type 0 where
  Base : List Loop → Frames
  Inner : List Loop → Bool → Frames → Frames

abbrev pub pushed : Loop → Frames → Frames
pushed l (Base ls) = Base (l ∷ ls)
pushed l (Inner ls had f) = Inner (l ∷ ls) had f

abbrev pub marked : Frames → Frames
marked (Base ls) = Base ls
marked (Inner ls had f) = Inner ls true f

-- without the innermost loops that a label ends
abbrev pub closed : Option ℕ → List Loop → List Loop
closed end [] = []
closed end (l ∷ ls) = cond (is_label l.label end) (closed end ls) (l ∷ ls)

abbrev pub top_closed : Option ℕ → Frames → Frames
top_closed end (Base ls) = Base (closed end ls)
top_closed end (Inner ls had f) = Inner (closed end ls) had f

abbrev pub pushed_if : Bool → Loop → Frames → Frames
pushed_if true l f = pushed l f
pushed_if false l f = f

abbrev pub next_frames : Statement77 → List Labelled → (ℕ → Frames) → ℕ → Frames
next_frames EndIf rest more n = more (suc n)
next_frames (If c) rest more zero = Inner [] false (more zero)
next_frames (If c) rest more (suc n) = more n
next_frames Else rest more zero = marked (more zero)
next_frames (Do (Some k) v a b c) rest more zero = pushed_if (label_stands_in rest k) (record { label = k; variable = v }) (more zero)
next_frames s rest more n = more n

-- by the statements before, the nearest first, of which `n` END IF statements are still without theirs
abbrev pub frames : List Labelled → List Labelled → ℕ → Frames
frames rest [] n = Base []
frames rest (x ∷ xs) n = next_frames x.statement rest (frames rest xs) n

-- ---- what is in them

abbrev pub names_in : List Loop → List (List ℕ)
names_in ls = map (λ (l : Loop). l.variable) ls

abbrev pub variables : Frames → List (List ℕ)
variables (Base ls) = names_in ls
variables (Inner ls had f) = names_in ls ++ variables f

abbrev pub depth : Frames → ℕ
depth (Base ls) = length ls
depth (Inner ls had f) = length ls + (1 + depth f)

abbrev pub open_ifs_in : Frames → ℕ
open_ifs_in (Base ls) = 0
open_ifs_in (Inner ls had f) = suc (open_ifs_in f)

abbrev pub had_else : Frames → Bool
had_else (Base ls) = false
had_else (Inner ls had f) = had

-- ---- a statement that ends no loop before it

-- no DO before has the label
abbrev pub EndsNone : Labelled → List Labelled → Type 0
EndsNone x before = (k : ℕ) → bears k x ≡ true → list_any (begins_loop k) before ≡ false

ends_none_more : (x y : Labelled) (ys : List Labelled) → EndsNone x (y ∷ ys) → EndsNone x ys
ends_none_more x y ys h = λ k e. right_false (begins_loop k y) (list_any (begins_loop k) ys) (h k e)

not_borne : (x : Labelled) (k : ℕ) (b c : Bool) → (b ≡ true → nat_eq k k ≡ false) → (b || c) ≡ c
not_borne x k true c h = absurd (let e = h refl in grind (arith, nat_tests))
not_borne x k false c h = refl

same_step : (s : Statement77) (x : Labelled) (rest : List Labelled) (more more' : ℕ → Frames) → ((k : ℕ) → bears k x ≡ true → is_do_of k s ≡ false) → ((n : ℕ) → more n ≡ more' n)
    → (n : ℕ) → next_frames s (x ∷ rest) more n ≡ next_frames s rest more' n
same_step EndIf x rest more more' h e n = e (suc n)
same_step (If c) x rest more more' h e zero = ap (Inner [] false) (e zero)
same_step (If c) x rest more more' h e (suc n) = e n
same_step Else x rest more more' h e zero = ap marked (e zero)
same_step (Do (Some k) v a b c) x rest more more' h e zero =
    ap (λ t. pushed_if t (record { label = k; variable = v }) (more zero)) (not_borne x k (bears k x) (label_stands_in rest k) (h k))
    ∙ ap (pushed_if (label_stands_in rest k) (record { label = k; variable = v })) (e zero)
same_step s x rest more more' h e n = e n

-- whether it stands in the rest or before makes no difference
pub same_frames : (x : Labelled) (rest before : List Labelled) → EndsNone x before → (n : ℕ) → frames (x ∷ rest) before n ≡ frames rest before n
same_frames x rest [] h n = refl
same_frames x rest (y ∷ ys) h n =
    same_step y.statement x rest (frames (x ∷ rest) ys) (frames rest ys) (λ k e. left_false (begins_loop k y) (list_any (begins_loop k) ys) (h k e))
    (same_frames x rest ys (ends_none_more x y ys h)) n

marked_closed : (end : Option ℕ) (f : Frames) → top_closed end f ≡ f → top_closed end (marked f) ≡ marked f
marked_closed end (Base ls) h = h
marked_closed end (Inner ls had f) h = ap marked h

pushed_closed : (end : Option ℕ) (l : Loop) (f : Frames) → is_label l.label end ≡ false → top_closed end (pushed l f) ≡ pushed l f
pushed_closed end l (Base ls) h = ap (λ b. Base (cond b (closed end ls) (l ∷ ls))) h
pushed_closed end l (Inner ls had f) h = ap (λ b. Inner (cond b (closed end ls) (l ∷ ls)) had f) h

pushed_if_closed : (end : Option ℕ) (b : Bool) (l : Loop) (f : Frames) → is_label l.label end ≡ false → top_closed end f ≡ f → top_closed end (pushed_if b l f) ≡ pushed_if b l f
pushed_if_closed end true l f h g = pushed_closed end l f h
pushed_if_closed end false l f h g = g

not_begun : (m k : ℕ) → nat_eq k m ≡ false → (m == k) ≡ false
not_begun m k h = grind (arith, nat_tests)

closes_step : (m : ℕ) (s : Statement77) (rest : List Labelled) (more : ℕ → Frames) → is_do_of m s ≡ false → ((n : ℕ) → top_closed (Some m) (more n) ≡ more n)
    → (n : ℕ) → top_closed (Some m) (next_frames s rest more n) ≡ next_frames s rest more n
closes_step m EndIf rest more h e n = e (suc n)
closes_step m (If c) rest more h e zero = refl
closes_step m (If c) rest more h e (suc n) = e n
closes_step m Else rest more h e zero = marked_closed (Some m) (more zero) (e zero)
closes_step m (Do (Some k) v a b c) rest more h e zero = pushed_if_closed (Some m) (label_stands_in rest k) (record { label = k; variable = v }) (more zero) (not_begun m k h) (e zero)
closes_step m s rest more h e n = e n

closes_none : (m : ℕ) (rest before : List Labelled) → list_any (begins_loop m) before ≡ false → (n : ℕ) → top_closed (Some m) (frames rest before n) ≡ frames rest before n
closes_none m rest [] h n = refl
closes_none m rest (y ∷ ys) h n =
    closes_step m y.statement rest (frames rest ys) (left_false (begins_loop m y) (list_any (begins_loop m) ys) h)
    (closes_none m rest ys (right_false (begins_loop m y) (list_any (begins_loop m) ys) h)) n

none_to_close : (ls : List Loop) → closed None ls ≡ ls
none_to_close [] = refl
none_to_close (l ∷ ls) = refl

pub top_kept : (f : Frames) → top_closed None f ≡ f
top_kept (Base ls) = ap Base (none_to_close ls)
top_kept (Inner ls had f) = ap (λ ks. Inner ks had f) (none_to_close ls)

-- ---- a statement that ends loops

-- its label stands on no later statement
record EndsAt (x : Labelled) (m : ℕ) (rest : List Labelled) : Type 0 where
  label : x.label ≡ Some m
  last : label_stands_in rest m ≡ false

borne_by : (x : Labelled) (m k : ℕ) → x.label ≡ Some m → bears k x ≡ (m == k)
borne_by x m k e = ap (is_label k) e

push_closed : (m : ℕ) (l : Loop) (f : Frames) → (m == l.label) ≡ true → top_closed (Some m) (pushed l f) ≡ top_closed (Some m) f
push_closed m l (Base ls) h = ap (λ b. Base (cond b (closed (Some m) ls) (l ∷ ls))) h
push_closed m l (Inner ls had f) h = ap (λ b. Inner (cond b (closed (Some m) ls) (l ∷ ls)) had f) h

mark_after : (end : Option ℕ) (f : Frames) → marked (top_closed end f) ≡ top_closed end (marked f)
mark_after end (Base ls) = refl
mark_after end (Inner ls had f) = refl

-- the loop of a DO that isn't open in the rest, but for the label m
one_closed : (m k : ℕ) (v : List ℕ) (b c : Bool) (f g : Frames) → (m == k) ≡ b → c ≡ false → f ≡ top_closed (Some m) g
    → pushed_if c (record { label = k; variable = v }) f ≡ top_closed (Some m) (pushed_if (b || c) (record { label = k; variable = v }) g)
one_closed m k v true true f g e h i = absurd cc
one_closed m k v true false f g e h i = i ∙ sym (push_closed m (record { label = k; variable = v }) g e)
one_closed m k v false true f g e h i = absurd cc
one_closed m k v false false f g e h i = i

ends_step : (s : Statement77) (y x : Labelled) (m : ℕ) (rest : List Labelled) (since : List Labelled) (more more' : ℕ → Frames) → y.statement ≡ s → x.label ≡ Some m → ends_in rest s ≡ false
    → ((n : ℕ) → list_any (λ (z : Labelled). is_block_if z.statement) (without_ended since n) ≡ false → more n ≡ top_closed (Some m) (more' n))
    → (n : ℕ) → list_any (λ (z : Labelled). is_block_if z.statement) (left_over s y (without_ended since) n) ≡ false → next_frames s rest more n ≡ top_closed (Some m) (next_frames s (x ∷ rest) more' n)
ends_step EndIf y x m rest since more more' e l o ih n h = ih (suc n) h
ends_step (If c) y x m rest since more more' e l o ih zero h = absurd (let g = left_false (is_block_if y.statement) (list_any (λ (z : Labelled). is_block_if z.statement) (without_ended since 0)) h in let k : is_block_if y.statement ≡ true = ap is_block_if e in cc)
ends_step (If c) y x m rest since more more' e l o ih (suc n) h = ih n h
ends_step Else y x m rest since more more' e l o ih zero h =
    ap marked (ih zero (right_false (is_block_if y.statement) (list_any (λ (z : Labelled). is_block_if z.statement) (without_ended since 0)) h)) ∙ mark_after (Some m) (more' zero)
ends_step Else y x m rest since more more' e l o ih (suc n) h = ih (suc n) h
ends_step (Do (Some k) v a b c) y x m rest since more more' e l o ih zero h =
    one_closed m k v (m == k) (label_stands_in rest k) (more zero) (more' zero) refl o (ih zero (right_false (is_block_if y.statement) (list_any (λ (z : Labelled). is_block_if z.statement) (without_ended since 0)) h))
    ∙ ap (λ t. top_closed (Some m) (pushed_if (t || label_stands_in rest k) (record { label = k; variable = v }) (more' zero))) (sym (borne_by x m k l))
ends_step (Do (Some k) v a b c) y x m rest since more more' e l o ih (suc n) h = ih (suc n) h
ends_step s y x m rest since more more' e l o ih zero h = ih zero (right_false (is_block_if y.statement) (list_any (λ (z : Labelled). is_block_if z.statement) (without_ended since 0)) h)
ends_step s y x m rest since more more' e l o ih (suc n) h = ih (suc n) h

-- the first DO of the label: no other stands before it
first_step : (s : Statement77) (x : Labelled) (m : ℕ) (rest : List Labelled) (more more' : ℕ → Frames) → is_do_of m s ≡ true → x.label ≡ Some m → label_stands_in rest m ≡ false
    → ((n : ℕ) → more n ≡ top_closed (Some m) (more' n)) → (n : ℕ) → next_frames s rest more n ≡ top_closed (Some m) (next_frames s (x ∷ rest) more' n)
first_step (Do (Some k) v a b c) x m rest more more' d l o ih zero =
    let e : k ≡ m = (let t : nat_eq k m ≡ true = d in grind (arith, nat_tests)) in
    one_closed m k v (m == k) (label_stands_in rest k) (more zero) (more' zero) refl (ap (label_stands_in rest) e ∙ o) (ih zero)
    ∙ ap (λ t. top_closed (Some m) (pushed_if (t || label_stands_in rest k) (record { label = k; variable = v }) (more' zero))) (sym (borne_by x m k l))
first_step (Do (Some k) v a b c) x m rest more more' d l o ih (suc n) = ih (suc n)
first_step s x m rest more more' d l o ih n = absurd cc

abbrev no_ifs : List Labelled → ℕ → Type 0
no_ifs zs k = list_any (λ (z : Labelled). is_block_if z.statement) (without_ended zs k) ≡ false

-- Loops that end at x are the innermost ones, where nothing is open that was opened since the first of them
pub ended_frames : (x : Labelled) (m : ℕ) (rest before : List Labelled) → x.label ≡ Some m → label_stands_in rest m ≡ false → list_any (begins_loop m) before ≡ true
    → list_any (loop_ends_in rest) (since_do m before) ≡ false
    → (n : ℕ) → list_any (λ (z : Labelled). is_block_if z.statement) (without_ended (since_do m before) n) ≡ false
    → frames rest before n ≡ top_closed (Some m) (frames (x ∷ rest) before n)
ended_frames x m rest [] l o d h n g = absurd cc
ended_frames x m rest (y ∷ ys) l o d h n g = by (list_any (begins_loop m) ys) refl (λ e f. ended_frames x m rest ys l o e f) h g
  where
    none_since : list_any (begins_loop m) ys ≡ false → (k : ℕ) → frames rest ys k ≡ top_closed (Some m) (frames (x ∷ rest) ys k)
    none_since e k =
        sym (closes_none m rest ys e k) ∙ ap (top_closed (Some m)) (sym (same_frames x rest ys (λ j b. borne j (sym (borne_by x m j l) ∙ b)) k))
      where
        borne : (j : ℕ) → (m == j) ≡ true → list_any (begins_loop j) ys ≡ false
        borne j t = let s : j ≡ m = grind (arith, nat_tests) in ap (λ i. list_any (begins_loop i) ys) s ∙ e

    or_left : (a b : Bool) → b ≡ false → (a || b) ≡ true → a ≡ true
    or_left true b h g = refl
    or_left false b h g = absurd cc

    by : (b : Bool) → list_any (begins_loop m) ys ≡ b
        → (list_any (begins_loop m) ys ≡ true → list_any (loop_ends_in rest) (since_do m ys) ≡ false → (k : ℕ) → no_ifs (since_do m ys) k → frames rest ys k ≡ top_closed (Some m) (frames (x ∷ rest) ys k))
        → list_any (loop_ends_in rest) (cond b (y ∷ since_do m ys) []) ≡ false → no_ifs (cond b (y ∷ since_do m ys) []) n
        → frames rest (y ∷ ys) n ≡ top_closed (Some m) (frames (x ∷ rest) (y ∷ ys) n)
    by true e ih h g =
        ends_step y.statement y x m rest (since_do m ys) (frames rest ys) (frames (x ∷ rest) ys) refl l (left_false (loop_ends_in rest y) (list_any (loop_ends_in rest) (since_do m ys)) h)
        (ih e (right_false (loop_ends_in rest y) (list_any (loop_ends_in rest) (since_do m ys)) h)) n g
    by false e ih h g =
        first_step y.statement x m rest (frames rest ys) (frames (x ∷ rest) ys) (or_left (begins_loop m y) (list_any (begins_loop m) ys) e d) l o (none_since e) n

-- ---- the innermost block IF has no open loop

-- where no loop is open that was opened since a block IF, its frame is empty
pub record IsEmptyTop (f g : Frames) : Type 0 where
  pub had : Bool
  pub is : f ≡ Inner [] had g

empty_marked : (f g : Frames) → IsEmptyTop f g → IsEmptyTop (marked f) g
empty_marked f g h = record { had = true; is = ap marked h.is }

empty_step : (s : Statement77) (y : Labelled) (rest xs : List Labelled) (more : ℕ → Frames) → y.statement ≡ s
    → ((n : ℕ) → list_any (λ (z : Labelled). is_block_if z.statement) (without_ended xs n) ≡ true → list_any (loop_ends_in rest) (since xs n) ≡ false → IsEmptyTop (more n) (more (suc n)))
    → (n : ℕ) → list_any (λ (z : Labelled). is_block_if z.statement) (left_over s y (without_ended xs) n) ≡ true → list_any (loop_ends_in rest) (up_to_if s y (since xs) n) ≡ false
    → IsEmptyTop (next_frames s rest more n) (next_frames s rest more (suc n))
empty_step EndIf y rest xs more e ih n h g = ih (suc n) h (right_false (loop_ends_in rest y) (list_any (loop_ends_in rest) (since xs (suc n))) g)
empty_step (If c) y rest xs more e ih zero h g = record { had = false; is = refl }
empty_step (If c) y rest xs more e ih (suc n) h g = ih n h (right_false (loop_ends_in rest y) (list_any (loop_ends_in rest) (since xs n)) g)
empty_step Else y rest xs more e ih zero h g =
    empty_marked (more zero) (more 1) (ih zero (sym (ap (λ t. is_block_if t || list_any (λ (z : Labelled). is_block_if z.statement) (without_ended xs 0)) e) ∙ h) (right_false (loop_ends_in rest y) (list_any (loop_ends_in rest) (since xs 0)) g))
empty_step Else y rest xs more e ih (suc n) h g = ih (suc n) h (right_false (loop_ends_in rest y) (list_any (loop_ends_in rest) (since xs (suc n))) g)
empty_step (Do (Some k) v a b c) y rest xs more e ih zero h g =
    let o : label_stands_in rest k ≡ false = sym (ap (ends_in rest) e) ∙ left_false (loop_ends_in rest y) (list_any (loop_ends_in rest) (since xs 0)) g in
    let t = ih zero (sym (ap (λ t. is_block_if t || list_any (λ (z : Labelled). is_block_if z.statement) (without_ended xs 0)) e) ∙ h) (right_false (loop_ends_in rest y) (list_any (loop_ends_in rest) (since xs 0)) g) in
    record { had = t.had; is = ap (λ d. pushed_if d (record { label = k; variable = v }) (more zero)) o ∙ t.is }
empty_step (Do (Some k) v a b c) y rest xs more e ih (suc n) h g = ih (suc n) h (right_false (loop_ends_in rest y) (list_any (loop_ends_in rest) (since xs (suc n))) g)
empty_step s y rest xs more e ih zero h g =
    ih zero (sym (ap (λ t. is_block_if t || list_any (λ (z : Labelled). is_block_if z.statement) (without_ended xs 0)) e) ∙ h) (right_false (loop_ends_in rest y) (list_any (loop_ends_in rest) (since xs 0)) g)
empty_step s y rest xs more e ih (suc n) h g = ih (suc n) h (right_false (loop_ends_in rest y) (list_any (loop_ends_in rest) (since xs (suc n))) g)

pub empty_top : (rest before : List Labelled) (n : ℕ) → list_any (λ (z : Labelled). is_block_if z.statement) (without_ended before n) ≡ true → list_any (loop_ends_in rest) (since before n) ≡ false
    → IsEmptyTop (frames rest before n) (frames rest before (suc n))
empty_top rest [] n h g = absurd cc
empty_top rest (y ∷ ys) n h g = empty_step y.statement y rest ys (frames rest ys) refl (empty_top rest ys) n h g

-- ---- what is known of frames

pub closes_nothing : (m : ℕ) (rest before : List Labelled) → list_any (begins_loop m) before ≡ false → (n : ℕ) → top_closed (Some m) (frames rest before n) ≡ frames rest before n
closes_nothing = closes_none

had_pushed : (b : Bool) (l : Loop) (f : Frames) → had_else (pushed_if b l f) ≡ had_else f
had_pushed true l (Base ls) = refl
had_pushed true l (Inner ls had f) = refl
had_pushed false l f = refl

abbrev shows_else : List Labelled → Bool
shows_else ys = list_any (λ (z : Labelled). is_last_else z.statement) (until_if ys)

shown_here : (y : Labelled) (ys : List Labelled) → is_block_if y.statement ≡ false → is_last_else y.statement ≡ true → shows_else (y ∷ ys) ≡ true
shown_here y ys h g =
    ap (λ b. list_any (λ (z : Labelled). is_last_else z.statement) (cond b [] (y ∷ until_if ys))) h ∙ ap (λ b. b || shows_else ys) g

shown_later : (y : Labelled) (ys : List Labelled) → is_block_if y.statement ≡ false → shows_else ys ≡ true → shows_else (y ∷ ys) ≡ true
shown_later y ys h g =
    ap (λ b. list_any (λ (z : Labelled). is_last_else z.statement) (cond b [] (y ∷ until_if ys))) h ∙ or_right (is_last_else y.statement) (shows_else ys) g

else_step : (s : Statement77) (y : Labelled) (rest xs : List Labelled) (more : ℕ → Frames) → y.statement ≡ s → ((n : ℕ) → had_else (more n) ≡ true → shows_else (without_ended xs n) ≡ true)
    → (n : ℕ) → had_else (next_frames s rest more n) ≡ true → shows_else (left_over s y (without_ended xs) n) ≡ true
else_step EndIf y rest xs more e ih n h = ih (suc n) h
else_step (If c) y rest xs more e ih zero h = absurd cc
else_step (If c) y rest xs more e ih (suc n) h = ih n h
else_step Else y rest xs more e ih zero h = shown_here y (without_ended xs 0) (ap is_block_if e) (ap is_last_else e)
else_step Else y rest xs more e ih (suc n) h = ih (suc n) h
else_step (Do (Some k) v a b c) y rest xs more e ih zero h =
    shown_later y (without_ended xs 0) (ap is_block_if e) (ih zero (sym (had_pushed (label_stands_in rest k) (record { label = k; variable = v }) (more zero)) ∙ h))
else_step (Do (Some k) v a b c) y rest xs more e ih (suc n) h = ih (suc n) h
else_step s y rest xs more e ih zero h = shown_later y (without_ended xs 0) (ap is_block_if e) (ih zero h)
else_step s y rest xs more e ih (suc n) h = ih (suc n) h

-- an ELSE is seen in the text
pub else_shown : (rest before : List Labelled) (n : ℕ) → had_else (frames rest before n) ≡ true → shows_else (without_ended before n) ≡ true
else_shown rest [] n h = absurd cc
else_shown rest (y ∷ ys) n h = else_step y.statement y rest ys (frames rest ys) refl (else_shown rest ys) n h

-- ---- their DO variables

variables_pushed : (l : Loop) (f : Frames) (x : List ℕ) → Contains (variables (pushed l f)) x → (l.variable ≡ x) ⊎ Contains (variables f) x
variables_pushed l (Base ls) x h = cases_of l.variable (names_in ls) x h
variables_pushed l (Inner ls had f) x h = cases_of l.variable (names_in ls ++ variables f) x h

variables_marked : (f : Frames) → variables (marked f) ≡ variables f
variables_marked (Base ls) = refl
variables_marked (Inner ls had f) = refl

abbrev variables_open : List Labelled → List Labelled → List (List ℕ)
variables_open rest ys = flat_map (λ (z : Labelled). loop_variable z.statement) (filter (loop_ends_in rest) ys)

skipped : (rest : List Labelled) (y : Labelled) (ys : List Labelled) (x : List ℕ) → Contains (variables_open rest ys) x → Contains (variables_open rest (y ∷ ys)) x
skipped rest y ys x h = by (loop_ends_in rest y)
  where
    by : (b : Bool) → Contains (flat_map (λ (z : Labelled). loop_variable z.statement) (cond b (y ∷ filter (loop_ends_in rest) ys) (filter (loop_ends_in rest) ys))) x
    by true = Contains-append_right (loop_variable y.statement) (variables_open rest ys) x h
    by false = h

pushed_open : (rest : List Labelled) (y : Labelled) (ys : List Labelled) (f : Frames) (k : ℕ) (v : List ℕ) (b : Bool) (x : List ℕ) → loop_variable y.statement ≡ v ∷ [] → loop_ends_in rest y ≡ b
    → (Contains (variables f) x → Contains (variables_open rest ys) x) → Contains (variables (pushed_if b (record { label = k; variable = v }) f)) x
    → Contains (flat_map (λ (z : Labelled). loop_variable z.statement) (cond b (y ∷ filter (loop_ends_in rest) ys) (filter (loop_ends_in rest) ys))) x
pushed_open rest y ys f k v false x e g ih h = ih h
pushed_open rest y ys f k v true x e g ih h = by (variables_pushed (record { label = k; variable = v }) f x h)
  where
    by : (v ≡ x) ⊎ Contains (variables f) x → Contains (loop_variable y.statement ++ variables_open rest ys) x
    by (inl d) = subst (λ (vs : List (List ℕ)). Contains (vs ++ variables_open rest ys) x) (sym e) (subst (λ (w : List ℕ). Contains (v ∷ variables_open rest ys) w) d (here v (variables_open rest ys)))
    by (inr c) = Contains-append_right (loop_variable y.statement) (variables_open rest ys) x (ih c)

variables_step : (s : Statement77) (y : Labelled) (rest ys : List Labelled) (more : ℕ → Frames) (x : List ℕ) → y.statement ≡ s → ((n : ℕ) → Contains (variables (more n)) x → Contains (variables_open rest ys) x)
    → (n : ℕ) → Contains (variables (next_frames s rest more n)) x → Contains (variables_open rest (y ∷ ys)) x
variables_step EndIf y rest ys more x e ih n h = skipped rest y ys x (ih (suc n) h)
variables_step (If c) y rest ys more x e ih zero h = skipped rest y ys x (ih zero h)
variables_step (If c) y rest ys more x e ih (suc n) h = skipped rest y ys x (ih n h)
variables_step Else y rest ys more x e ih zero h = skipped rest y ys x (ih zero (subst (λ (vs : List (List ℕ)). Contains vs x) (variables_marked (more zero)) h))
variables_step Else y rest ys more x e ih (suc n) h = skipped rest y ys x (ih (suc n) h)
variables_step (Do (Some k) v a b c) y rest ys more x e ih zero h =
    subst (λ (t : Bool). Contains (flat_map (λ (z : Labelled). loop_variable z.statement) (cond t (y ∷ filter (loop_ends_in rest) ys) (filter (loop_ends_in rest) ys))) x) (sym (ap (ends_in rest) e))
    (pushed_open rest y ys (more zero) k v (label_stands_in rest k) x (ap loop_variable e) (ap (ends_in rest) e) (ih zero) h)
variables_step (Do (Some k) v a b c) y rest ys more x e ih (suc n) h = skipped rest y ys x (ih (suc n) h)
variables_step s y rest ys more x e ih zero h = skipped rest y ys x (ih zero h)
variables_step s y rest ys more x e ih (suc n) h = skipped rest y ys x (ih (suc n) h)

-- each is that of a loop round the place
pub variables_are_open : (rest before : List Labelled) (n : ℕ) (x : List ℕ) → Contains (variables (frames rest before n)) x → Contains (variables_open rest before) x
variables_are_open rest [] n x h = h
variables_are_open rest (y ∷ ys) n x h = variables_step y.statement y rest ys (frames rest ys) x refl (λ k. variables_are_open rest ys k x) n h

-- ---- their depth

pub depth_pushed : (l : Loop) (f : Frames) → depth (pushed l f) ≡ 1 + depth f
depth_pushed l (Base ls) = omega arith
depth_pushed l (Inner ls had f) = omega arith

depth_marked : (f : Frames) → depth (marked f) ≡ depth f
depth_marked (Base ls) = refl
depth_marked (Inner ls had f) = refl

abbrev loops_open : List Labelled → List Labelled → ℕ
loops_open rest ys = length (filter (loop_ends_in rest) ys)

abbrev ifs_open : List Labelled → ℕ
ifs_open ys = length (filter (λ (z : Labelled). is_block_if z.statement) ys)

more_loops : (rest : List Labelled) (y : Labelled) (ys : List Labelled) → loops_open rest ys ≤ loops_open rest (y ∷ ys)
more_loops rest y ys = by (loop_ends_in rest y)
  where
    by : (b : Bool) → loops_open rest ys ≤ length (cond b (y ∷ filter (loop_ends_in rest) ys) (filter (loop_ends_in rest) ys))
    by true = omega arith
    by false = omega arith

more_ifs : (y : Labelled) (ys : List Labelled) → ifs_open ys ≤ ifs_open (y ∷ ys)
more_ifs y ys = by (is_block_if y.statement)
  where
    by : (b : Bool) → ifs_open ys ≤ length (cond b (y ∷ filter (λ (z : Labelled). is_block_if z.statement) ys) (filter (λ (z : Labelled). is_block_if z.statement) ys))
    by true = omega arith
    by false = omega arith

pushed_depth : (rest : List Labelled) (y : Labelled) (ys : List Labelled) (b : Bool) (l : Loop) (f : Frames) (n : ℕ) → depth f ≤ loops_open rest ys + n
    → depth (pushed_if b l f) ≤ length (cond b (y ∷ filter (loop_ends_in rest) ys) (filter (loop_ends_in rest) ys)) + n
pushed_depth rest y ys true l f n h = let d = depth_pushed l f in omega (arith, d, h)
pushed_depth rest y ys false l f n h = h

depth_step : (s : Statement77) (y : Labelled) (rest ys : List Labelled) (more : ℕ → Frames) → y.statement ≡ s → ((n : ℕ) → depth (more n) ≤ loops_open rest ys + ifs_open (without_ended ys n))
    → (n : ℕ) → depth (next_frames s rest more n) ≤ loops_open rest (y ∷ ys) + ifs_open (left_over s y (without_ended ys) n)
depth_step EndIf y rest ys more e ih n = let a = ih (suc n) in let b = more_loops rest y ys in omega (arith, a, b)
depth_step (If c) y rest ys more e ih zero =
    let a = ih zero in
    let b = more_loops rest y ys in
    let d : ifs_open (y ∷ without_ended ys 0) ≡ suc (ifs_open (without_ended ys 0)) = ap (λ t. length (cond (is_block_if t) (y ∷ filter (λ (z : Labelled). is_block_if z.statement) (without_ended ys 0)) (filter (λ (z : Labelled). is_block_if z.statement) (without_ended ys 0)))) e in
    omega (arith, a, b, d)
depth_step (If c) y rest ys more e ih (suc n) = let a = ih n in let b = more_loops rest y ys in omega (arith, a, b)
depth_step Else y rest ys more e ih zero =
    let a = ih zero in let b = more_loops rest y ys in let d = depth_marked (more zero) in let f = more_ifs y (without_ended ys 0) in omega (arith, a, b, d, f)
depth_step Else y rest ys more e ih (suc n) = let a = ih (suc n) in let b = more_loops rest y ys in omega (arith, a, b)
depth_step (Do (Some k) v a b c) y rest ys more e ih zero =
    let t = pushed_depth rest y ys (label_stands_in rest k) (record { label = k; variable = v }) (more zero) (ifs_open (without_ended ys 0)) (ih zero) in
    let u : loops_open rest (y ∷ ys) ≡ length (cond (label_stands_in rest k) (y ∷ filter (loop_ends_in rest) ys) (filter (loop_ends_in rest) ys)) = ap (λ d. length (cond (ends_in rest d) (y ∷ filter (loop_ends_in rest) ys) (filter (loop_ends_in rest) ys))) e in
    let f = more_ifs y (without_ended ys 0) in
    omega (arith, t, u, f)
depth_step (Do (Some k) v a b c) y rest ys more e ih (suc n) = let t = ih (suc n) in let u = more_loops rest y ys in omega (arith, t, u)
depth_step s y rest ys more e ih zero = let a = ih zero in let b = more_loops rest y ys in let f = more_ifs y (without_ended ys 0) in omega (arith, a, b, f)
depth_step s y rest ys more e ih (suc n) = let a = ih (suc n) in let b = more_loops rest y ys in omega (arith, a, b)

pub depth_within : (rest before : List Labelled) (n : ℕ) → depth (frames rest before n) ≤ loops_open rest before + ifs_open (without_ended before n)
depth_within rest [] n = omega arith
depth_within rest (y ∷ ys) n = depth_step y.statement y rest ys (frames rest ys) refl (depth_within rest ys) n

-- ---- at the end of the text

abbrev HasNoLoops : Frames → Type 0
HasNoLoops (Base ls) = ls ≡ []
HasNoLoops (Inner ls had f) = (ls ≡ []) × HasNoLoops f

marked_empty : (f : Frames) → HasNoLoops f → HasNoLoops (marked f)
marked_empty (Base ls) h = h
marked_empty (Inner ls had f) h = h

ends_empty_step : (s : Statement77) (more : ℕ → Frames) → ((n : ℕ) → HasNoLoops (more n)) → (n : ℕ) → HasNoLoops (next_frames s [] more n)
ends_empty_step EndIf more ih n = ih (suc n)
ends_empty_step (If c) more ih zero = (refl, ih zero)
ends_empty_step (If c) more ih (suc n) = ih n
ends_empty_step Else more ih zero = marked_empty (more zero) (ih zero)
ends_empty_step (Do (Some k) v a b c) more ih zero = ih zero
ends_empty_step s more ih n = ih n

ends_empty : (before : List Labelled) (n : ℕ) → HasNoLoops (frames [] before n)
ends_empty [] n = refl
ends_empty (y ∷ ys) n = ends_empty_step y.statement (frames [] ys) (ends_empty ys) n

all_ended : (f : Frames) → HasNoLoops f → open_ifs_in f ≡ 0 → f ≡ Base []
all_ended (Base ls) h e = ap Base h
all_ended (Inner ls had f) h e = absurd (omega arith)

-- no loop is open there
pub ended : (before : List Labelled) → open_ifs_in (frames [] before 0) ≡ 0 → frames [] before 0 ≡ Base []
ended before e = all_ended (frames [] before 0) (ends_empty before 0) e
