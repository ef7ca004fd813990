-- The arms of block IFs that are open, as the definitions find them and as a stack keeps them.
use Rattle.std.proofs.Common.{◌≡◌, ℕ, zero, suc, ◌-◌, ◌<◌, Bool, true, ◌||◌, Some, List, [], ◌∷◌, length, take, refl, sym, ap, ◌∙◌, arith}
use Rattle.std.specs.List.{list_any}
use Rattle.f77_grammar.specs.Statement77.{Labelled, Statement77, If, ElseIf, Else, EndIf}
use Rattle.f77_grammar.specs.program.Text.{left_over, without_ended}
use Rattle.f77_grammar.specs.program.Jumps.{opens_arm}
use Rattle.f77_structure.specs.Forms.{form_of}
use Rattle.f77_structure.specs.Openings.{first_of, tail_of, is_behind}
use Rattle.f77_structure.proofs.OpenIfs.{is_within, within_more, within_none, here_within}
use Rattle.f77_structure.proofs.Closers.{within_behind}
use Rattle.f77_structure.specs.jumps.Targets.{next_arms, arms_of, arm_at}

abbrev pub is_arm : Labelled → Bool
is_arm x = opens_arm x.statement

arm_tail : (as' : List ℕ) (n : ℕ) → arm_at (tail_of as') n ≡ arm_at as' (suc n)
arm_tail [] n = refl
arm_tail (a ∷ as') n = refl

arm_first : (as' : List ℕ) → arm_at as' 0 ≡ first_of as'
arm_first [] = refl
arm_first (a ∷ as') = refl

-- ---- where they begin

abbrev Below : List Labelled → ℕ → Type 0
Below xs n = (a : ℕ) → arm_at (arms_of xs) n ≡ Some a → a < length xs

below_step : (s : Statement77) (xs : List Labelled) (n : ℕ) → ((k : ℕ) → Below xs k) → (a : ℕ) → arm_at (next_arms (form_of s) (length xs) (arms_of xs)) n ≡ Some a → a < suc (length xs)
below_step EndIf xs n ih a h = let lt : a < length xs = ih (suc n) a (sym (arm_tail (arms_of xs) n) ∙ h) in omega arith
below_step (If c) xs zero ih a h = let e : length xs ≡ a = cc in omega arith
below_step (If c) xs (suc n) ih a h = let lt : a < length xs = ih n a h in omega arith
below_step (ElseIf c) xs zero ih a h = let e : length xs ≡ a = cc in omega arith
below_step (ElseIf c) xs (suc n) ih a h = let lt : a < length xs = ih (suc n) a (sym (arm_tail (arms_of xs) n) ∙ h) in omega arith
below_step Else xs zero ih a h = let e : length xs ≡ a = cc in omega arith
below_step Else xs (suc n) ih a h = let lt : a < length xs = ih (suc n) a (sym (arm_tail (arms_of xs) n) ∙ h) in omega arith
below_step s xs n ih a h = let lt : a < length xs = ih n a h in omega arith

arm_below : (xs : List Labelled) (n : ℕ) → Below xs n
arm_below [] n a h = cc
arm_below (x ∷ xs) n a h = below_step x.statement xs n (arm_below xs) a h

-- ---- arms that begin among the nearest m statements

abbrev ArmAsKept : List Labelled → ℕ → ℕ → Type 0
ArmAsKept xs m n = list_any is_arm (without_ended (take m xs) n) ≡ is_within m (length xs) (arm_at (arms_of xs) n)

here : (x : Labelled) (s : Statement77) (ys : List Labelled) (m L : ℕ) → x.statement ≡ s → opens_arm s ≡ true → (opens_arm x.statement || list_any is_arm ys) ≡ is_within (suc m) (suc L) (Some L)
here x s ys m L e g = ap (λ t. opens_arm t || list_any is_arm ys) e ∙ ap (λ b. b || list_any is_arm ys) g ∙ here_within L m

arm_step : (s : Statement77) (x : Labelled) → x.statement ≡ s → (xs : List Labelled) (m n : ℕ) → ((k : ℕ) → ArmAsKept xs m k)
    → list_any is_arm (left_over s x (without_ended (take m xs)) n) ≡ is_within (suc m) (suc (length xs)) (arm_at (next_arms (form_of s) (length xs) (arms_of xs)) n)
arm_step EndIf x e xs m n ih = ih (suc n) ∙ within_more m (length xs) (arm_at (arms_of xs) (suc n)) ∙ ap (is_within (suc m) (suc (length xs))) (sym (arm_tail (arms_of xs) n))
arm_step (If c) x e xs m zero ih = here x (If c) (without_ended (take m xs) 0) m (length xs) e refl
arm_step (If c) x e xs m (suc n) ih = ih n ∙ within_more m (length xs) (arm_at (arms_of xs) n)
arm_step (ElseIf c) x e xs m zero ih = here x (ElseIf c) (without_ended (take m xs) 0) m (length xs) e refl
arm_step (ElseIf c) x e xs m (suc n) ih = ih (suc n) ∙ within_more m (length xs) (arm_at (arms_of xs) (suc n)) ∙ ap (is_within (suc m) (suc (length xs))) (sym (arm_tail (arms_of xs) n))
arm_step Else x e xs m zero ih = here x Else (without_ended (take m xs) 0) m (length xs) e refl
arm_step Else x e xs m (suc n) ih = ih (suc n) ∙ within_more m (length xs) (arm_at (arms_of xs) (suc n)) ∙ ap (is_within (suc m) (suc (length xs))) (sym (arm_tail (arms_of xs) n))
arm_step s x e xs m zero ih = ap (λ t. opens_arm t || list_any is_arm (without_ended (take m xs) 0)) e ∙ ih 0 ∙ within_more m (length xs) (arm_at (arms_of xs) 0)
arm_step s x e xs m (suc n) ih = ih (suc n) ∙ within_more m (length xs) (arm_at (arms_of xs) (suc n))

arm_as_kept : (xs : List Labelled) (m n : ℕ) → ArmAsKept xs m n
arm_as_kept xs zero n = within_none (length xs) (arm_at (arms_of xs) n) (arm_below xs n)
arm_as_kept [] (suc m) n = refl
arm_as_kept (x ∷ xs) (suc m) n = arm_step x.statement x refl xs m n (arm_as_kept xs m)

-- an arm among the statements behind the a-th is open exactly where the innermost one begins there
pub arm_since : (xs : List Labelled) (a : ℕ) → a < length xs → list_any is_arm (without_ended (take (length xs - suc a) xs) 0) ≡ is_behind (first_of (arms_of xs)) a
arm_since xs a h =
    arm_as_kept xs (length xs - suc a) 0 ∙ within_behind (length xs) a (arm_at (arms_of xs) 0) h ∙ ap (λ o. is_behind o a) (arm_first (arms_of xs))
