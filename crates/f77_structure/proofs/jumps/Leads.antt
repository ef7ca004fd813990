-- Where a GO TO leads, as the definitions find it and as it is looked up.
use Rattle.std.proofs.Common.{◌≡◌, ℕ, zero, suc, max, ◌+◌, ◌-◌, ◌<◌, nat_lt, Bool, true, false, ◌||◌, cond, Option, Some, None, List, [], ◌∷◌, ◌++◌, length, get_or, take, drop, reverse, refl, sym, ap, ◌∙◌, append_assoc, arith}
use Rattle.std.specs.List.{list_any, find}
use Rattle.std.proofs.lemmas.Grind.{reverse_onto}
use Rattle.std.proofs.lemmas.List.{append-nil, drop-drop, length-map}
use Rattle.std.proofs.lemmas.Bool.Decides.{nat_tests}
use Rattle.f77_grammar.specs.Statement77.{Labelled, Statement77, Go, Declare, Dimension, Constants, ElseIf, Else, EndIf}
use Rattle.f77_grammar.specs.program.Text.{Place77, places_from, bears, is_label, label_stands_in, action, loop_ends_in, without_ended}
use Rattle.f77_grammar.specs.program.Jumps.{place_of_label, is_no_target, leads_wrongly, jumps_wrongly, has_wrong_jump}
use Rattle.f77_structure.specs.declared.forms.Form.{Form}
use Rattle.f77_structure.specs.declared.openings.OpenLoop.{OpenLoop}
use Rattle.f77_grammar.specs.declared.syntax.statements.Labelled.{Labelled as Labelled'}
use Rattle.f77_grammar.specs.syntax.Views.{labelled_of, text_of, statement_of}
use Rattle.f77_grammar.specs.syntax.Walk.{passed, place_at}
use Rattle.f77_grammar.proofs.syntax.Walks.{text_passed, text_left, text_within, text_at, passed_length}
use Rattle.f77_structure.specs.Forms.{form_of}
use Rattle.f77_structure.specs.Openings.{is_from, last_with, first_of, nearest_at, trimmed, loops_of, is_behind}
use Rattle.f77_structure.proofs.OpenLoops.{open_since}
use Rattle.f77_structure.proofs.Closers.{stands_after}
use Rattle.f77_structure.specs.declared.jumps.targets.Target.{Target}
use Rattle.f77_structure.specs.jumps.Targets.{next_arms, arms_of, later, is_no_target_form, target_of, targets_of, first_target, refuses, leads_wrongly_to, jumps_wrongly_to}
use Rattle.f77_structure.proofs.jumps.OpenArms.{is_arm, arm_since}

-- ---- one statement that a GO TO leads to

later_behind : (a b : Option ℕ) (at : ℕ) → (is_behind a at || is_behind b at) ≡ is_behind (later a b) at
later_behind None b at = refl
later_behind (Some i) None at = alone (nat_lt at i)
  where
    alone : (t : Bool) → (t || false) ≡ t
    alone true = refl
    alone false = refl
later_behind (Some i) (Some j) at = later_of i j at
  where
    later_of : (i j at : ℕ) → (nat_lt at i || nat_lt at j) ≡ nat_lt at (max i j)
    later_of i j at = grind (arith, nat_tests)

target_form : (s : Statement77) → is_no_target s ≡ is_no_target_form (form_of s)
target_form (Declare k es) = refl
target_form (Dimension es) = refl
target_form (Constants ds) = refl
target_form (ElseIf c) = refl
target_form Else = refl
target_form EndIf = refl
target_form s = refl

both : (a b c d : Bool) (a' b' : Bool) → a ≡ a' → b ≡ b' → c ≡ d → ((a || b) || c) ≡ ((a' || b') || d)
both a b c d a' b' e f g = ap (λ t. (t || b) || c) e ∙ ap (λ t. (a' || t) || c) f ∙ ap (λ t. (a' || b') || t) g

-- what has been passed since the GO TO, which stands behind `at` statements, are the nearest m
refused_at : (full : List Labelled) (x : Labelled) (after : List Labelled) (m at : ℕ) (ends : ℕ → Option ℕ) → m ≡ length full - suc at → at < length full
    → ((n : ℕ) → label_stands_in (x ∷ after) n ≡ is_from (length full) (ends n))
    → leads_wrongly (Some (record { before = take m full; here = x; after = after })) ≡ refuses (target_of ends full x) at
refused_at full x after m at ends e h g =
    both (list_any is_arm (without_ended (take m full) 0)) (list_any (loop_ends_in (x ∷ after)) (take m full)) (is_no_target x.statement) (is_no_target_form (form_of x.statement))
    (is_behind (first_of (arms_of full)) at) (is_behind (nearest_at (trimmed (length full) (loops_of ends full))) at)
    (ap (λ k. list_any is_arm (without_ended (take k full) 0)) e ∙ arm_since full at h)
    (ap (λ k. list_any (loop_ends_in (x ∷ after)) (take k full)) e ∙ open_since (x ∷ after) (length full) ends g full at (omega arith) h)
    (target_form x.statement)
    ∙ ap (λ b. b || is_no_target_form (form_of x.statement)) (later_behind (first_of (arms_of full)) (nearest_at (trimmed (length full) (loops_of ends full))) at)

-- ---- the first statement with the label

-- `ends` gives the last places of labels, where L statements stand before these
abbrev EndsAmong : (ℕ → Option ℕ) → ℕ → List Labelled → Type 0
EndsAmong ends L rest = (j n : ℕ) → label_stands_in (drop j rest) n ≡ is_from (L + j) (ends n)

among_tail : (ends : ℕ → Option ℕ) (L : ℕ) (x : Labelled) (xs : List Labelled) → EndsAmong ends L (x ∷ xs) → EndsAmong ends (suc L) xs
among_tail ends L x xs h j n = h (suc j) n ∙ ap (λ k. is_from k (ends n)) (shifted L j)
  where
    shifted : (L j : ℕ) → L + suc j ≡ suc L + j
    shifted L j = omega arith

among_here : (ends : ℕ → Option ℕ) (L : ℕ) (rest : List Labelled) → EndsAmong ends L rest → (n : ℕ) → label_stands_in rest n ≡ is_from L (ends n)
among_here ends L rest h n = h 0 n ∙ ap (λ k. is_from k (ends n)) (plain L)
  where
    plain : (L : ℕ) → L + 0 ≡ L
    plain L = omega arith

leads : (n at : ℕ) (ends : ℕ → Option ℕ) (rest full : List Labelled) (m : ℕ) → m + suc at ≡ length full → EndsAmong ends (length full) rest
    → leads_wrongly (find (λ (p : Place77). bears n p.here) (places_from (take m full) rest)) ≡ leads_wrongly_to (first_target ends full rest n) at
leads n at ends [] full m e h = refl
leads n at ends (x ∷ xs) full m e h = cases (bears n x) (leads n at ends xs (x ∷ full) (suc m) (more m at (length full) e) (among_tail ends (length full) x xs h))
  where
    more : (m at L : ℕ) → m + suc at ≡ L → suc m + suc at ≡ suc L
    more m at L e = omega arith

    cases : (b : Bool)
        → leads_wrongly (find (λ (p : Place77). bears n p.here) (places_from (x ∷ take m full) xs)) ≡ leads_wrongly_to (first_target ends (x ∷ full) xs n) at
        → leads_wrongly (cond b (Some (record { before = take m full; here = x; after = xs })) (find (λ (p : Place77). bears n p.here) (places_from (x ∷ take m full) xs)))
        ≡ leads_wrongly_to (cond b (Some (target_of ends full x)) (first_target ends (x ∷ full) xs n)) at
    cases true ih = refused_at full x xs m at ends (omega arith) (omega arith) (among_here ends (length full) (x ∷ xs) h)
    cases false ih = ih

-- ---- each statement as a target

targets_length : (ends : ℕ → Option ℕ) (rest full : List Labelled) → length (targets_of ends full rest) ≡ length rest
targets_length ends [] full = refl
targets_length ends (x ∷ xs) full = ap suc (targets_length ends xs (x ∷ full))

onto_more : (y : Labelled) (ys full : List Labelled) → reverse ys ++ (y ∷ full) ≡ reverse (y ∷ ys) ++ full
onto_more y ys full = sym (append_assoc (reverse ys) (y ∷ []) full) ∙ sym (ap (λ zs. zs ++ full) (reverse_onto ys y []))

target_at : (ends : ℕ → Option ℕ) (rest full : List Labelled) (i : ℕ) (x : Labelled) (t : Target) → i < length rest → get_or rest i x ≡ x
    → get_or (targets_of ends full rest) i t ≡ target_of ends (reverse (take i rest) ++ full) x
target_at ends [] full i x t h e = absurd (omega arith)
target_at ends (y ∷ ys) full zero x t h e = ap (target_of ends full) e
target_at ends (y ∷ ys) full (suc i) x t h e =
    target_at ends ys (y ∷ full) i x t (omega arith) e ∙ ap (λ before. target_of ends before x) (onto_more y (take i ys) full)

-- ---- statements of the code

pub targets_fit : (xs : List Labelled') (ends : ℕ → Option ℕ) (ts : List Target) → ts ≡ targets_of ends [] (text_of xs) → length ts ≡ length xs
targets_fit xs ends ts h = ap length h ∙ targets_length ends (text_of xs) [] ∙ length-map xs labelled_of

-- one target more has been found
pub targets_more : (xs : List Labelled') (i : ℕ) (x : Labelled') (ends : ℕ → Option ℕ) (ts ts' : List Target) (inside arm loop : Option ℕ) (refused : Bool) (form : Form) (as' : List ℕ) (es es' : List OpenLoop)
    → i < length xs → x ≡ get_or xs i x
    → ts ++ targets_of ends (passed (text_of xs) i) (drop i (text_of xs)) ≡ targets_of ends [] (text_of xs)
    → as' ≡ arms_of (passed (text_of xs) i) → es ≡ loops_of ends (passed (text_of xs) i) → es' ≡ trimmed i es
    → arm ≡ first_of as' → loop ≡ nearest_at es' → inside ≡ later arm loop → form ≡ form_of (statement_of x.statement) → refused ≡ is_no_target_form form
    → ts' ≡ ts ++ (record { inside = inside; refused = refused }) ∷ []
    → ts' ++ targets_of ends (passed (text_of xs) (i + 1)) (drop (i + 1) (text_of xs)) ≡ targets_of ends [] (text_of xs)
targets_more xs i x ends ts ts' inside arm loop refused form as' es es' h e built a b c d f g p q r =
    let near : loop ≡ nearest_at (trimmed (length (passed (text_of xs) i)) (loops_of ends (passed (text_of xs) i))) =
    f ∙ ap nearest_at (c ∙ ap (trimmed i) b ∙ ap (λ j. trimmed j (loops_of ends (passed (text_of xs) i))) (sym (passed_length xs i h))) in
    let inside' : inside ≡ later (first_of (arms_of (passed (text_of xs) i))) (nearest_at (trimmed (length (passed (text_of xs) i)) (loops_of ends (passed (text_of xs) i)))) =
    g ∙ ap (λ o. later o loop) (d ∙ ap first_of a) ∙ ap (later (first_of (arms_of (passed (text_of xs) i)))) near in
    let T : Option ℕ → Bool → Target = λ o t. record { inside = o; refused = t } in
    let same : T inside refused ≡ target_of ends (passed (text_of xs) i) (labelled_of x) =
    ap (λ o. T o refused) inside' ∙ ap (T (later (first_of (arms_of (passed (text_of xs) i))) (nearest_at (trimmed (length (passed (text_of xs) i)) (loops_of ends (passed (text_of xs) i)))))) (q ∙ ap is_no_target_form p) in
    ap (λ us. us ++ targets_of ends (passed (text_of xs) (i + 1)) (drop (i + 1) (text_of xs))) r
    ∙ append_assoc ts (T inside refused ∷ []) (targets_of ends (passed (text_of xs) (i + 1)) (drop (i + 1) (text_of xs)))
    ∙ ap (λ u. ts ++ u ∷ targets_of ends (passed (text_of xs) (i + 1)) (drop (i + 1) (text_of xs))) same
    ∙ ap (λ before. ts ++ target_of ends (passed (text_of xs) i) (labelled_of x) ∷ targets_of ends before (drop (i + 1) (text_of xs))) (text_passed xs i x h e)
    ∙ sym (ap (λ rest. ts ++ targets_of ends (passed (text_of xs) i) rest) (text_left xs i x h e))
    ∙ built

pub arms_more : (xs : List Labelled') (i : ℕ) (x : Labelled') (form : Form) (as' as'' : List ℕ) → i < length xs → x ≡ get_or xs i x → as' ≡ arms_of (passed (text_of xs) i)
    → form ≡ form_of (statement_of x.statement) → as'' ≡ next_arms form i as' → as'' ≡ arms_of (passed (text_of xs) (i + 1))
arms_more xs i x form as' as'' h e a b c =
    c ∙ ap (λ k. next_arms k i as') b ∙ ap (next_arms (form_of (statement_of x.statement)) i) a
    ∙ ap (λ j. next_arms (form_of (statement_of x.statement)) j (arms_of (passed (text_of xs) i))) (sym (passed_length xs i h))
    ∙ ap arms_of (sym (text_passed xs i x h e))

-- a label one statement further back
pub behind_more : (xs : List Labelled') (i : ℕ) (x : Labelled') (ends : ℕ → Option ℕ) (ts : List Target) (t : Target) (targets targets' : ℕ → Option Target) → i < length xs → x ≡ get_or xs i x
    → ts ≡ targets_of ends [] (text_of xs) → t ≡ get_or ts i t
    → ((n : ℕ) → targets n ≡ first_target ends (passed (text_of xs) (i + 1)) (drop (i + 1) (text_of xs)) n)
    → ((n : ℕ) → targets' n ≡ cond (is_label n x.label) (Some t) (targets n))
    → (n : ℕ) → targets' n ≡ first_target ends (passed (text_of xs) i) (drop i (text_of xs)) n
behind_more xs i x ends ts t targets targets' h e a b c d n =
    let here : t ≡ target_of ends (passed (text_of xs) i) (labelled_of x) =
    b ∙ ap (λ us. get_or us i t) a ∙ target_at ends (text_of xs) [] i (labelled_of x) t (text_within xs i h) (text_at xs i x h e)
    ∙ ap (λ before. target_of ends before (labelled_of x)) (append-nil (passed (text_of xs) i)) in
    d n ∙ ap (λ u. cond (is_label n x.label) (Some u) (targets n)) here
    ∙ ap (cond (is_label n x.label) (Some (target_of ends (passed (text_of xs) i) (labelled_of x))))
    (c n ∙ ap (λ before. first_target ends before (drop (i + 1) (text_of xs)) n) (text_passed xs i x h e))
    ∙ sym (ap (λ rest. first_target ends (passed (text_of xs) i) rest n) (text_left xs i x h e))

by_form : (s : Statement77) (after : List Labelled) (targets : ℕ → Option Target) (at : ℕ)
    → ((n : ℕ) → leads_wrongly (place_of_label n after) ≡ leads_wrongly_to (targets n) at) → jumps_wrongly after s ≡ jumps_wrongly_to (form_of s) targets at
by_form (Go n) after targets at h = h n
by_form s after targets at h = refl

-- what the labels behind a statement stand at says of it what its place says
pub jump_at : (xs : List Labelled') (i : ℕ) (x : Labelled') (ends : ℕ → Option ℕ) (targets : ℕ → Option Target) (form : Form) → i < length xs → x ≡ get_or xs i x
    → ((n : ℕ) → ends n ≡ last_with (reverse (text_of xs)) n)
    → ((n : ℕ) → targets n ≡ first_target ends (passed (text_of xs) (i + 1)) (drop (i + 1) (text_of xs)) n)
    → form ≡ form_of (action (statement_of x.statement))
    → has_wrong_jump (place_at (text_of xs) i (labelled_of x)) ≡ jumps_wrongly_to form targets i
jump_at xs i x ends targets form h e l c a =
    let long : suc i ≡ length (passed (text_of xs) (i + 1)) = ap suc (sym (passed_length xs i h)) ∙ sym (ap length (text_passed xs i x h e)) in
    let one : i + 1 ≡ length (passed (text_of xs) (i + 1)) = omega (arith, long) in
    let among : (j n : ℕ) → label_stands_in (drop j (drop (i + 1) (text_of xs))) n ≡ is_from (length (passed (text_of xs) (i + 1)) + j) (ends n) =
    λ j n. ap (λ rest. label_stands_in rest n) (drop-drop j (i + 1) (text_of xs)) ∙ stands_after xs ends l (i + 1 + j) n ∙ ap (λ k. is_from (k + j) (ends n)) one in
    by_form (action (statement_of x.statement)) (drop (i + 1) (text_of xs)) targets i
    (λ n. leads n i ends (drop (i + 1) (text_of xs)) (passed (text_of xs) (i + 1)) 0 (nothing i ∙ long) among ∙ ap (λ o. leads_wrongly_to o i) (sym (c n)))
    ∙ ap (λ k. jumps_wrongly_to k targets i) (sym a)
  where
    nothing : (i : ℕ) → 0 + suc i ≡ suc i
    nothing i = omega arith
