-- Statements of a text with the labels of their loops, by the END DO statements that wait behind them.
use Rattle.std.proofs.Common.{◌≡◌, ℕ, ◌==◌, Bool, true, false, ◌||◌, cond, Option, None, Some, List, [], ◌∷◌, ◌++◌}
use Rattle.std.proofs.Common.{refl, ap, subst, ◌∙◌, arith}
use Rattle.std.proofs.lemmas.Bool.Decides.{nat_tests}
use Rattle.std.specs.List.{AllByRecursion, list_any}
use Rattle.f77_grammar.specs.Statement77.{Labelled, Statement77, Do, EndDo}
use Rattle.f77_grammar.specs.program.Text.{Place77, places_from, is_label, bears, label_stands_in, is_end_do}
use Rattle.f77_grammar.specs.program.Labels.{is_wrong_label77}
use Rattle.f77_grammar.specs.program.Nesting.{is_no_loop_end}
use Rattle.f77_grammar.specs.program.EndDo.{without_bearer, waiting_with, waiting, end_label, closer_label}
use Rattle.f77_grammar.specs.program.EndDo.{with_loop_label, label_of_end, with_labels, with_loop_labels}
use Rattle.f77_grammar.specs.program.Blocks.{stands_alone}
use Rattle.f77_laws.proofs.trees.Lists.{left_false, right_false, not_both}
use Rattle.f77_laws.proofs.trees.Shapes.{label_is}
use Rattle.f77_laws.proofs.trees.Begun.{none_left, none_right}
use Rattle.f77_laws.proofs.trees.WellNested.{once_after}

-- ---- before END DO statements that wait

abbrev pub wait : List Labelled → List Labelled → List Labelled
wait [] w = w
wait (x ∷ xs) w = waiting_with x.statement x (wait xs w)

abbrev pub labelled : List Labelled → List Labelled → List Labelled
labelled [] w = []
labelled (x ∷ xs) w = with_labels x (closer_label (wait xs w)) ∷ labelled xs w

all_wait : (xs : List Labelled) → waiting xs ≡ wait xs []
all_wait [] = refl
all_wait (x ∷ xs) = ap (λ vs. waiting_with x.statement x vs) (all_wait xs)

pub all_labelled : (xs : List Labelled) → with_loop_labels xs ≡ labelled xs []
all_labelled [] = refl
all_labelled (x ∷ xs) =
    ap (λ vs. with_labels x (closer_label vs) ∷ with_loop_labels xs) (all_wait xs)
    ∙ ap (λ zs. with_labels x (closer_label (wait xs [])) ∷ zs) (all_labelled xs)

pub wait_append : (xs ys w : List Labelled) → wait (xs ++ ys) w ≡ wait xs (wait ys w)
wait_append [] ys w = refl
wait_append (x ∷ xs) ys w = ap (λ vs. waiting_with x.statement x vs) (wait_append xs ys w)

pub labelled_append : (xs ys w : List Labelled) → labelled (xs ++ ys) w ≡ labelled xs (wait ys w) ++ labelled ys w
labelled_append [] ys w = refl
labelled_append (x ∷ xs) ys w =
    ap (λ vs. with_labels x (closer_label vs) ∷ labelled (xs ++ ys) w) (wait_append xs ys w)
    ∙ ap (λ zs. with_labels x (closer_label (wait xs (wait ys w))) ∷ zs) (labelled_append xs ys w)

pub waits_as : (x : Labelled) (w : List Labelled) (o : Statement77) → x.statement ≡ o
    → waiting_with x.statement x w ≡ waiting_with o x w
waits_as x w o e = ap (λ (t : Statement77). waiting_with t x w) e

pub both_wait : (xs ys w : List Labelled) → wait ys w ≡ w → wait xs w ≡ w → wait (xs ++ ys) w ≡ w
both_wait xs ys w e g = wait_append xs ys w ∙ ap (wait xs) e ∙ g

-- ---- END DO

-- the label that it has or gets
abbrev pub ends_with : ℕ → Labelled → Bool
ends_with k e = end_label e.label e.line == k

pub itself : (n : ℕ) → (n == n) ≡ true
itself n = grind (arith, nat_tests)

pub end_bears : (k : ℕ) (e : Labelled) (c : Option ℕ) → e.statement ≡ EndDo
    → bears k (with_labels e c) ≡ ends_with k e
end_bears k e c h = ap (λ (s : Statement77). is_label k (label_of_end s e.label e.line)) h

pub written_ends : (k : ℕ) (e : Labelled) → bears k e ≡ true → ends_with k e ≡ true
written_ends k e h = ap (λ l. end_label l e.line == k) (label_is k e.label h) ∙ itself k

pub kept_without : (n : ℕ) (ws : List Labelled) → list_any (ends_with n) ws ≡ false → without_bearer n ws ≡ ws
kept_without n [] h = refl
kept_without n (e ∷ es) h =
    by (bears n e) refl (kept_without n es (right_false (ends_with n e) (list_any (ends_with n) es) h))
  where
    by : (b : Bool) → bears n e ≡ b → without_bearer n es ≡ es → cond b es (e ∷ without_bearer n es) ≡ e ∷ es
    by true t g =
        absurd (not_both (ends_with n e) (written_ends n e t)
        (left_false (ends_with n e) (list_any (ends_with n) es) h))
    by false t g = ap (λ zs. e ∷ zs) g

-- ---- statements that neither open nor close

pub alone_waits : (s : Statement77) (x : Labelled) (w : List Labelled) → stands_alone s ≡ true
    → waiting_with s x w ≡ w
alone_waits EndDo x w h = absurd (not_both false h refl)
alone_waits (Do label v a b c) x w h = absurd (not_both false h refl)
alone_waits s x w h = refl

pub alone_kept : (s : Statement77) (c : Option ℕ) → stands_alone s ≡ true → with_loop_label s c ≡ s
alone_kept (Do label v a b d) c h = absurd (not_both false h refl)
alone_kept s c h = refl

-- nor does a label make one of them
pub as_alone : (s : Statement77) (c : Option ℕ) → stands_alone (with_loop_label s c) ≡ stands_alone s
as_alone (Do None v a b d) c = refl
as_alone (Do (Some n) v a b d) c = refl
as_alone s c = refl

pub as_end_do : (s : Statement77) (c : Option ℕ) → is_end_do (with_loop_label s c) ≡ is_end_do s
as_end_do (Do None v a b d) c = refl
as_end_do (Do (Some n) v a b d) c = refl
as_end_do s c = refl

pub as_loop_end : (s : Statement77) (c : Option ℕ) → is_no_loop_end (with_loop_label s c) ≡ is_no_loop_end s
as_loop_end (Do None v a b d) c = refl
as_loop_end (Do (Some n) v a b d) c = refl
as_loop_end s c = refl

pub own_label : (s : Statement77) (l : Option ℕ) (line : ℕ) → is_end_do s ≡ false → label_of_end s l line ≡ l
own_label EndDo l line h = absurd (not_both true refl h)
own_label s l line h = refl

-- ---- labels that stand once

abbrev pub IsFresh : Option ℕ → List Labelled → Type 0
IsFresh None xs = Unit {0}
IsFresh (Some n) xs = ((n == 0) ≡ false) × (label_stands_in xs n ≡ false)

abbrev pub AreFresh : List Labelled → Type 0
AreFresh [] = Unit {0}
AreFresh (x ∷ xs) = IsFresh x.label xs × AreFresh xs

pub once_fresh : (before xs : List Labelled)
    → AllByRecursion (λ (p : Place77). is_wrong_label77 p.before p.here.label ≡ false) (places_from before xs)
    → AreFresh xs
once_fresh before [] h = tt
once_fresh before (x ∷ xs) h = (fresh x.label refl h.0, once_fresh (x ∷ before) xs h.1)
  where
    fresh : (l : Option ℕ) → x.label ≡ l → is_wrong_label77 before l ≡ false → IsFresh l xs
    fresh None e g = tt
    fresh (Some n) e g = (
      left_false (n == 0) (label_stands_in before n) g,
      once_after (x ∷ before) xs n h.1 (ap (λ b. b || label_stands_in before n) (ap (is_label n) e ∙ itself n)),
    )

fresh_left : (l : Option ℕ) (xs ys : List Labelled) → IsFresh l (xs ++ ys) → IsFresh l xs
fresh_left None xs ys h = tt
fresh_left (Some n) xs ys h = (h.0, none_left n xs ys h.1)

pub left_fresh : (xs ys : List Labelled) → AreFresh (xs ++ ys) → AreFresh xs
left_fresh [] ys h = tt
left_fresh (x ∷ xs) ys h = (fresh_left x.label xs ys h.0, left_fresh xs ys h.1)

pub right_fresh : (xs ys : List Labelled) → AreFresh (xs ++ ys) → AreFresh ys
right_fresh [] ys h = h
right_fresh (x ∷ xs) ys h = right_fresh xs ys h.1

-- a label doesn't stand on two
pub fresh_head : (n : ℕ) (x : Labelled) (xs : List Labelled) → IsFresh x.label xs → bears n x ≡ true
    → label_stands_in xs n ≡ false
fresh_head n x xs h e = (subst (λ (l : Option ℕ). IsFresh l xs) (label_is n x.label e) h).1

pub fresh_apart : (n : ℕ) (xs ys : List Labelled) → AreFresh (xs ++ ys) → label_stands_in xs n ≡ true
    → label_stands_in ys n ≡ false
fresh_apart n [] ys h g = absurd (not_both false g refl)
fresh_apart n (x ∷ xs) ys h g = by (bears n x) refl g (fresh_apart n xs ys h.1)
  where
    by : (b : Bool) → bears n x ≡ b → (b || label_stands_in xs n) ≡ true → (label_stands_in xs n ≡ true → label_stands_in ys n ≡ false)
        → label_stands_in ys n ≡ false
    by true e k more = none_right n xs ys (fresh_head n x (xs ++ ys) h.0 e)
    by false e k more = more k
