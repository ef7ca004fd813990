-- How many blocks are open, as the definitions count them and as a walk does.
use Rattle.std.proofs.Common.{◌≡◌, ℕ, zero, suc, pred, ◌+◌, ◌-◌, ◌<◌, ◌≤◌, nat_le, Bool, true, false, ◌&&◌, cond, Option, Some, None, List, [], ◌∷◌, length, drop, reverse, get_or, refl, sym, ap, ◌∙◌, length-append, arith}
use Rattle.std.specs.List.{filter}
use Rattle.std.proofs.lemmas.Bool.Decides.{nat_tests}
use Rattle.std.proofs.lemmas.List.Elements.{filter-append}
use Rattle.f77_grammar.specs.Statement77.{Labelled, Statement77, Test, If, EndIf, Do}
use Rattle.f77_grammar.specs.program.Text.{label_stands_in, is_block_if, left_over, without_ended, ends_in, loop_ends_in}
use Rattle.f77_grammar.specs.program.Limits.{opens_block77, has_many_blocks}
use Rattle.f77_structure.specs.declared.forms.Form.{Form}
use Rattle.f77_structure.specs.declared.forms.Form.TheVariants as forms
use Rattle.f77_grammar.specs.declared.syntax.statements.Labelled.{Labelled as Labelled'}
use Rattle.f77_grammar.specs.syntax.Views.{labelled_of, text_of, statement_of}
use Rattle.f77_grammar.specs.syntax.Walk.{passed, place_at}
use Rattle.f77_grammar.proofs.syntax.Walks.{text_passed, text_left}
use Rattle.f77_structure.specs.Forms.{form_of, begun_in}
use Rattle.f77_structure.specs.Openings.{end_of, is_from, last_with, under}
use Rattle.f77_structure.proofs.OpenIfs.{opens_if}
use Rattle.f77_structure.proofs.Closers.{end_under, stands_after}
use Rattle.f77_structure.specs.jumps.Blocks.{opens_form, depth, depth_with, lasts, lasting, with_end}

-- ---- block IFs

abbrev DepthAsKept : List Labelled → ℕ → Type 0
DepthAsKept xs n = length (filter opens_if (without_ended xs n)) ≡ depth xs - n

pred_less : (k n : ℕ) → k - suc n ≡ pred k - n
pred_less zero n = omega arith
pred_less (suc k) n = omega arith

both_less : (k n : ℕ) → k - n ≡ suc k - suc n
both_less k n = omega arith

one_more : (k : ℕ) → suc (k - 0) ≡ suc k - 0
one_more k = omega arith

kept_if : (x : Labelled) (xs : List Labelled) → length (filter opens_if (x ∷ xs)) ≡ cond (is_block_if x.statement) (suc (length (filter opens_if xs))) (length (filter opens_if xs))
kept_if x xs = cases (is_block_if x.statement)
  where
    cases : (b : Bool) → length (cond b (x ∷ filter opens_if xs) (filter opens_if xs)) ≡ cond b (suc (length (filter opens_if xs))) (length (filter opens_if xs))
    cases true = refl
    cases false = refl

depth_step : (s : Statement77) (x : Labelled) → x.statement ≡ s → (xs : List Labelled) (n : ℕ) → ((k : ℕ) → DepthAsKept xs k)
    → length (filter opens_if (left_over s x (without_ended xs) n)) ≡ depth_with (form_of s) (depth xs) - n
depth_step EndIf x e xs n ih = ih (suc n) ∙ pred_less (depth xs) n
depth_step (If c) x e xs zero ih =
    kept_if x (without_ended xs 0) ∙ ap (λ t. cond (is_block_if t) (suc (length (filter opens_if (without_ended xs 0)))) (length (filter opens_if (without_ended xs 0)))) e
    ∙ ap suc (ih 0) ∙ one_more (depth xs)
depth_step (If c) x e xs (suc n) ih = ih n ∙ both_less (depth xs) n
depth_step s x e xs zero ih =
    kept_if x (without_ended xs 0) ∙ ap (λ t. cond (is_block_if t) (suc (length (filter opens_if (without_ended xs 0)))) (length (filter opens_if (without_ended xs 0)))) e ∙ ih 0
depth_step s x e xs (suc n) ih = ih (suc n)

depth_as_kept : (xs : List Labelled) (n : ℕ) → DepthAsKept xs n
depth_as_kept [] n = none n
  where
    none : (n : ℕ) → 0 ≡ 0 - n
    none n = omega arith
depth_as_kept (x ∷ xs) n = depth_step x.statement x refl xs n (depth_as_kept xs)

pub depth_more : (f : Form) (n k : ℕ) → n ≤ k → depth_with f n ≤ k + 1
depth_more forms.If n k h = omega arith
depth_more forms.EndIf zero k h = omega arith
depth_more forms.EndIf (suc n) k h = omega arith
depth_more f n k h = omega arith

-- ---- loops

ends_as_lasts : (rest : List Labelled) (j : ℕ) (ends : ℕ → Option ℕ) → ((n : ℕ) → label_stands_in rest n ≡ is_from j (ends n)) → (s : Statement77) → ends_in rest s ≡ is_from j (end_of (form_of s) ends)
ends_as_lasts rest j ends h (Do (Some n) x a b c) = h n
ends_as_lasts rest j ends h s = refl

-- the loops that the definitions find open are those that last
pub open_as_lasting : (rest : List Labelled) (j : ℕ) (ends : ℕ → Option ℕ) → ((n : ℕ) → label_stands_in rest n ≡ is_from j (ends n))
    → (xs : List Labelled) → filter (loop_ends_in rest) xs ≡ filter (lasts ends j) xs
open_as_lasting rest j ends h [] = refl
open_as_lasting rest j ends h (x ∷ xs) =
    ap (λ b. cond b (x ∷ filter (loop_ends_in rest) xs) (filter (loop_ends_in rest) xs)) (ends_as_lasts rest j ends h x.statement)
    ∙ ap (λ ys. cond (lasts ends j x) (x ∷ ys) ys) (open_as_lasting rest j ends h xs)

later_too : (i j e : ℕ) → i ≤ j → nat_le i e ≡ false → nat_le j e ≡ false
later_too i j e h g = grind (arith, nat_tests)

-- what has ended before counts for nothing later
lasting_dropped : (i j : ℕ) (es : List ℕ) → i ≤ j → lasting j (filter (nat_le i) es) ≡ lasting j es
lasting_dropped i j [] h = refl
lasting_dropped i j (e ∷ es) h = cases (nat_le i e) refl (lasting_dropped i j es h)
  where
    counted : (b : Bool) (ys zs : List ℕ) → length ys ≡ length zs → length (cond b (e ∷ ys) ys) ≡ length (cond b (e ∷ zs) zs)
    counted true ys zs f = ap suc f
    counted false ys zs f = f

    cases : (b : Bool) → nat_le i e ≡ b → lasting j (filter (nat_le i) es) ≡ lasting j es → lasting j (cond b (e ∷ filter (nat_le i) es) (filter (nat_le i) es)) ≡ lasting j (e ∷ es)
    cases true g ih = counted (nat_le j e) (filter (nat_le j) (filter (nat_le i) es)) (filter (nat_le j) es) ih
    cases false g ih = ih ∙ sym (ap (λ b. length (cond b (e ∷ filter (nat_le j) es) (filter (nat_le j) es))) (later_too i j e h g))

lasting_with : (j : ℕ) (es : List ℕ) (o : Option ℕ) → lasting j (with_end es o) ≡ cond (is_from j o) (suc (lasting j es)) (lasting j es)
lasting_with j es None = refl
lasting_with j es (Some e) =
    ap length (filter-append (nat_le j) es (e ∷ [])) ∙ length-append (filter (nat_le j) es) (filter (nat_le j) (e ∷ [])) ∙ cases (nat_le j e)
  where
    cases : (b : Bool) → lasting j es + length (cond b (e ∷ []) []) ≡ cond b (suc (lasting j es)) (lasting j es)
    cases true = omega arith
    cases false = omega arith

counted_more : (ends : ℕ → Option ℕ) (j : ℕ) (x : Labelled) (xs : List Labelled)
    → length (filter (lasts ends j) (x ∷ xs)) ≡ cond (lasts ends j x) (suc (length (filter (lasts ends j) xs))) (length (filter (lasts ends j) xs))
counted_more ends j x xs = cases (lasts ends j x)
  where
    cases : (b : Bool) → length (cond b (x ∷ filter (lasts ends j) xs) (filter (lasts ends j) xs)) ≡ cond b (suc (length (filter (lasts ends j) xs))) (length (filter (lasts ends j) xs))
    cases true = refl
    cases false = refl

-- ---- statements of the code

-- the loops that last, one statement further; the code has named the parts
pub lasting_more : (xs : List Labelled') (i : ℕ) (x : Labelled') (ends : ℕ → Option ℕ) (form : Form) (begun end : Option ℕ) (es es' es'' : List ℕ) → i < length xs → x ≡ get_or xs i x
    → ((j : ℕ) → i ≤ j → lasting j es ≡ length (filter (lasts ends j) (passed (text_of xs) i)))
    → form ≡ form_of (statement_of x.statement) → begun ≡ begun_in form → end ≡ under begun ends → es' ≡ filter (nat_le i) es → es'' ≡ with_end es' end
    → (j : ℕ) → i + 1 ≤ j → lasting j es'' ≡ length (filter (lasts ends j) (passed (text_of xs) (i + 1)))
lasting_more xs i x ends form begun end es es' es'' h e f a b c d g j l =
    let later : i ≤ j = omega arith in
    let ends' : end ≡ end_of (form_of (statement_of x.statement)) ends = c ∙ ap (λ o. under o ends) (b ∙ ap begun_in a) ∙ end_under ends (form_of (statement_of x.statement)) in
    ap (lasting j) g ∙ lasting_with j es' end
    ∙ ap (λ t. cond (is_from j end) (suc (lasting j t)) (lasting j t)) d
    ∙ ap (λ t. cond (is_from j end) (suc t) t) (lasting_dropped i j es later ∙ f j later)
    ∙ ap (λ o. cond (is_from j o) (suc (length (filter (lasts ends j) (passed (text_of xs) i)))) (length (filter (lasts ends j) (passed (text_of xs) i)))) ends'
    ∙ sym (counted_more ends j (labelled_of x) (passed (text_of xs) i))
    ∙ sym (ap (λ ys. length (filter (lasts ends j) ys)) (text_passed xs i x h e))

pub depth_on : (xs : List Labelled') (i : ℕ) (x : Labelled') (form : Form) (n n' n'' : ℕ) → i < length xs → x ≡ get_or xs i x → n ≡ depth (passed (text_of xs) i)
    → form ≡ form_of (statement_of x.statement) → n' ≡ n → n'' ≡ depth_with form n' → n'' ≡ depth (passed (text_of xs) (i + 1))
depth_on xs i x form n n' n'' h e f a b c =
    c ∙ ap (λ k. depth_with k n') a ∙ ap (depth_with (form_of (statement_of x.statement))) (b ∙ f) ∙ sym (ap depth (text_passed xs i x h e))

pub lasting_fits : (i : ℕ) (es : List ℕ) → length (filter (nat_le i) es) ≤ length es
lasting_fits i [] = omega arith
lasting_fits i (e ∷ es) = cases (nat_le i e) (lasting_fits i es)
  where
    cases : (b : Bool) → length (filter (nat_le i) es) ≤ length es → length (cond b (e ∷ filter (nat_le i) es) (filter (nat_le i) es)) ≤ suc (length es)
    cases true h = omega arith
    cases false h = omega arith

pub with_end_fits : (es : List ℕ) (o : Option ℕ) → length (with_end es o) ≤ length es + 1
with_end_fits es None = omega arith
with_end_fits es (Some e) = omega (arith, length-append es (e ∷ []))

opens_as_form : (s : Statement77) → opens_block77 s ≡ opens_form (form_of s)
opens_as_form (If c) = refl
opens_as_form (Test c s) = refl
opens_as_form (Do n x a b c) = refl
opens_as_form s = refl

less_nothing : (k : ℕ) → k - 0 ≡ k
less_nothing k = omega arith

-- what has been counted says of the next statement what its place says
pub many_at : (xs : List Labelled') (i : ℕ) (x : Labelled') (ends : ℕ → Option ℕ) (form : Form) (n n' : ℕ) (es es' : List ℕ) → i < length xs → x ≡ get_or xs i x
    → ((k : ℕ) → ends k ≡ last_with (reverse (text_of xs)) k) → n ≡ depth (passed (text_of xs) i)
    → ((j : ℕ) → i ≤ j → lasting j es ≡ length (filter (lasts ends j) (passed (text_of xs) i)))
    → form ≡ form_of (statement_of x.statement) → n' ≡ n → es' ≡ filter (nat_le i) es
    → has_many_blocks (place_at (text_of xs) i (labelled_of x)) ≡ (opens_form form && nat_le 100 (n' + length es'))
many_at xs i x ends form n n' es es' h e l p f a b d =
    let behind : (k : ℕ) → label_stands_in (labelled_of x ∷ drop (i + 1) (text_of xs)) k ≡ is_from i (ends k) =
    λ k. ap (λ rest. label_stands_in rest k) (sym (text_left xs i x h e)) ∙ stands_after xs ends l i k in
    let ifs : length (filter opens_if (without_ended (passed (text_of xs) i) 0)) ≡ n' = depth_as_kept (passed (text_of xs) i) 0 ∙ less_nothing (depth (passed (text_of xs) i)) ∙ sym (b ∙ p) in
    let loops : length (filter (loop_ends_in (labelled_of x ∷ drop (i + 1) (text_of xs))) (passed (text_of xs) i)) ≡ length es' =
    ap length (open_as_lasting (labelled_of x ∷ drop (i + 1) (text_of xs)) i ends behind (passed (text_of xs) i)) ∙ sym (f i (omega arith)) ∙ sym (ap length d) in
    ap (λ t. t && nat_le 100 (length (filter opens_if (without_ended (passed (text_of xs) i) 0)) + length (filter (loop_ends_in (labelled_of x ∷ drop (i + 1) (text_of xs))) (passed (text_of xs) i))))
    (opens_as_form (statement_of x.statement) ∙ ap opens_form (sym a))
    ∙ ap (λ k. opens_form form && nat_le 100 (k + length (filter (loop_ends_in (labelled_of x ∷ drop (i + 1) (text_of xs))) (passed (text_of xs) i)))) ifs
    ∙ ap (λ k. opens_form form && nat_le 100 (n' + k)) loops
