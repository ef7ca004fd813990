-- What is wrong at a statement by what is open there is what its place says.
use Rattle.std.proofs.Common.{◌≡◌, ℕ, suc, ◌+◌, ◌-◌, ◌<◌, ◌≤◌, nat_lt, Bool, true, false, not, ◌||◌, ◌&&◌, cond, Option, Some, None, is_some, List, [], ◌∷◌, length, get_or, take, drop, reverse, refl, sym, ap, ◌∙◌, arith}
use Rattle.std.specs.List.{list_any}
use Rattle.std.proofs.lemmas.Bool.Decides.{nat_tests}
use Rattle.f77_grammar.specs.Statement77.{Labelled, Statement77, Go, If, ElseIf, Else, EndIf, Do, EndDo, Stop, End}
use Rattle.f77_grammar.specs.program.Text.{label_stands_in, is_label, loop_ends_in, is_last_else}
use Rattle.f77_grammar.specs.program.Nesting.{since_if, own_since_if, has_open_if, since_do, begins_loop, is_do_of, is_loop_open, is_anything_open, is_no_loop_end, ends_not_one, nests_wrongly, ends_loops_wrongly, is_closed_wrongly}
use Rattle.f77_structure.specs.declared.openings.OpenIf.{OpenIf}
use Rattle.f77_structure.specs.declared.openings.OpenLoop.{OpenLoop}
use Rattle.f77_structure.specs.declared.forms.Form.{Form}
use Rattle.f77_structure.specs.declared.forms.Form.TheVariants as forms
use Rattle.f77_grammar.specs.declared.syntax.statements.Labelled.{Labelled as Labelled'}
use Rattle.f77_grammar.specs.syntax.Views.{labelled_of, text_of, statement_of}
use Rattle.f77_grammar.specs.syntax.Walk.{passed, place_at}
use Rattle.f77_structure.specs.Forms.{form_of, begun_in, is_no_end_form}
use Rattle.f77_structure.specs.Openings.{first_of, place_in, had_else_in, nearest_at, trimmed, opened, or_here, next_frames, next_loops, frames_of, loops_of, last_with, end_of, first_do, is_from, is_behind, begins_behind, lacks_if, lacks_loop, refuses, is_unpaired, closes_wrongly, ends_wrongly, has_wrong_closer, under}
use Rattle.f77_structure.proofs.OpenIfs.{open_as_kept, else_as_kept, since_as_kept, near_as_kept, if_below, is_within}
use Rattle.f77_structure.proofs.OpenLoops.{open_since, stands_from, first_do_is, first_do_below, since_do_is}
use Rattle.f77_grammar.proofs.syntax.Walks.{text_passed, text_left, passed_length}

-- ---- ELSE

neither : (near had : Bool) → (true && not near && not had) ≡ not (had || near)
neither true true = refl
neither true false = refl
neither false true = refl
neither false false = refl

both : (a b c a' b' c' : Bool) → a ≡ a' → b ≡ b' → c ≡ c' → (a && not b && not c) ≡ (a' && not b' && not c')
both a b c a' b' c' e f g = ap (λ t. t && not b && not c) e ∙ ap (λ t. a' && not t && not c) f ∙ ap (λ t. a' && not b' && not t) g

not_anything : (a b c : Bool) → a ≡ false → (a && not b && not c) ≡ false
not_anything a b c e = ap (λ t. t && not b && not c) e

else_cases : (fs : List OpenIf) (near : Option ℕ) (a b c : Bool) → a ≡ is_some (place_in fs 0) → ((k : ℕ) → place_in fs 0 ≡ Some k → b ≡ is_behind near k)
    → (is_some (place_in fs 0) ≡ true → c ≡ had_else_in fs 0) → (a && not b && not c) ≡ not (lacks_if (first_of fs) near)
else_cases [] near a b c e f g = not_anything a b c e
else_cases (t ∷ ts) near a b c e f g = both a b c true (is_behind near t.at) t.had_else e (f t.at refl) (g refl) ∙ neither (is_behind near t.at) t.had_else

since_behind : (rest : List Labelled) (j : ℕ) (ends : ℕ → Option ℕ) → ((n : ℕ) → label_stands_in rest n ≡ is_from j (ends n)) → (xs : List Labelled) → length xs ≤ j
    → (k : ℕ) → place_in (frames_of xs) 0 ≡ Some k → is_loop_open (since_if xs) rest ≡ is_behind (nearest_at (trimmed j (loops_of ends xs))) k
since_behind rest j ends h xs l k e =
    ap (λ s. list_any (loop_ends_in rest) s) (since_as_kept xs 0 k e) ∙ open_since rest j ends h xs k l (if_below xs 0 k e)

else_suits : (xs : List Labelled) (rest : List Labelled) (ends : ℕ → Option ℕ) → ((n : ℕ) → label_stands_in rest n ≡ is_from (length xs) (ends n))
    → (has_open_if xs && not (is_loop_open (since_if xs) rest) && not (list_any (λ (y : Labelled). is_last_else y.statement) (own_since_if xs)))
    ≡ not (lacks_if (first_of (frames_of xs)) (nearest_at (trimmed (length xs) (loops_of ends xs))))
else_suits xs rest ends h =
    else_cases (frames_of xs) (nearest_at (trimmed (length xs) (loops_of ends xs)))
    (has_open_if xs) (is_loop_open (since_if xs) rest) (list_any (λ (y : Labelled). is_last_else y.statement) (own_since_if xs))
    (open_as_kept xs 0) (since_behind rest (length xs) ends h xs (omega arith)) (else_as_kept xs 0)

-- ---- END IF

unpaired_cases : (fs : List OpenIf) (near : Option ℕ) (a b : Bool) → a ≡ is_some (place_in fs 0) → ((k : ℕ) → place_in fs 0 ≡ Some k → b ≡ is_behind near k)
    → (not a || b) ≡ is_unpaired (first_of fs) near
unpaired_cases [] near a b e f = ap (λ t. not t || b) e
unpaired_cases (t ∷ ts) near a b e f = ap (λ s. not s || b) e ∙ f t.at refl

-- ---- the last statement of loops

behind_place : (fs : List OpenIf) → (k : ℕ) → is_behind (place_in fs 0) k ≡ begins_behind (first_of fs) k
behind_place [] k = refl
behind_place (f ∷ fs) k = refl

pub within_behind : (len k : ℕ) (o : Option ℕ) → k < len → is_within (len - suc k) len o ≡ is_behind o k
within_behind len k None h = refl
within_behind len k (Some a) h = grind (arith, nat_tests)

no_end : (s : Statement77) → is_no_loop_end s ≡ is_no_end_form (form_of s)
no_end (Go n) = refl
no_end (If c) = refl
no_end (ElseIf c) = refl
no_end Else = refl
no_end EndIf = refl
no_end Stop = refl
no_end End = refl
no_end (Do label x a b c) = refl
no_end s = refl

three : (a b c b' c' : Bool) → b ≡ b' → c ≡ c' → (a || (b || c)) ≡ (a || (b' || c'))
three a b c b' c' e f = ap (λ t. a || (t || c)) e ∙ ap (λ t. a || (b' || t)) f

loops_end : (xs : List Labelled) (after : List Labelled) (ends : ℕ → Option ℕ) → ((n : ℕ) → label_stands_in after n ≡ is_from (length xs + 1) (ends n)) → (s : Statement77) (n : ℕ)
    → (list_any (begins_loop n) xs && (is_no_loop_end s || is_anything_open (since_do n xs) after))
    ≡ ends_wrongly (first_do xs n) (form_of s) (first_of (frames_of xs)) (nearest_at (trimmed (length xs + 1) (loops_of ends xs)))
loops_end xs after ends h s n = cases (first_do xs n) (first_do_is n xs) (first_do_below n xs) (since_do_is n xs)
  where
    cases : (o : Option ℕ) → list_any (begins_loop n) xs ≡ is_some o → ((k : ℕ) → o ≡ Some k → k < length xs) → ((k : ℕ) → o ≡ Some k → since_do n xs ≡ take (length xs - suc k) xs)
        → (list_any (begins_loop n) xs && (is_no_loop_end s || is_anything_open (since_do n xs) after))
        ≡ ends_wrongly o (form_of s) (first_of (frames_of xs)) (nearest_at (trimmed (length xs + 1) (loops_of ends xs)))
    cases None some below is = ap (λ t. t && (is_no_loop_end s || is_anything_open (since_do n xs) after)) some
    cases (Some k) some below is =
        let lt : k < length xs = below k refl in
        ap (λ t. t && (is_no_loop_end s || is_anything_open (since_do n xs) after)) some
        ∙ ap (λ t. t || is_anything_open (since_do n xs) after) (no_end s)
        ∙ ap (λ ys. is_no_end_form (form_of s) || is_anything_open ys after) (is k refl)
        ∙ three (is_no_end_form (form_of s)) (has_open_if (take (length xs - suc k) xs)) (is_loop_open (take (length xs - suc k) xs) after)
        (begins_behind (first_of (frames_of xs)) k) (is_behind (nearest_at (trimmed (length xs + 1) (loops_of ends xs))) k)
        (near_as_kept xs (length xs - suc k) 0 ∙ within_behind (length xs) k (place_in (frames_of xs) 0) lt ∙ behind_place (frames_of xs) k)
        (open_since after (length xs + 1) ends h xs k (omega arith) lt)

-- ---- END DO

lacks_as_kept : (xs : List Labelled) (x : Labelled) (after : List Labelled) (ends : ℕ → Option ℕ) → ((n : ℕ) → label_stands_in (x ∷ after) n ≡ is_from (length xs) (ends n)) → (n : ℕ)
    → (not (list_any (begins_loop n) xs) || is_loop_open (since_do n xs) (x ∷ after)) ≡ lacks_loop (first_do xs n) (nearest_at (trimmed (length xs) (loops_of ends xs)))
lacks_as_kept xs x after ends h n = cases (first_do xs n) (first_do_is n xs) (first_do_below n xs) (since_do_is n xs)
  where
    cases : (o : Option ℕ) → list_any (begins_loop n) xs ≡ is_some o → ((k : ℕ) → o ≡ Some k → k < length xs) → ((k : ℕ) → o ≡ Some k → since_do n xs ≡ take (length xs - suc k) xs)
        → (not (list_any (begins_loop n) xs) || is_loop_open (since_do n xs) (x ∷ after)) ≡ lacks_loop o (nearest_at (trimmed (length xs) (loops_of ends xs)))
    cases None some below is = ap (λ t. not t || is_loop_open (since_do n xs) (x ∷ after)) some
    cases (Some k) some below is =
        ap (λ t. not t || is_loop_open (since_do n xs) (x ∷ after)) some
        ∙ ap (λ ys. is_loop_open ys (x ∷ after)) (is k refl)
        ∙ open_since (x ∷ after) (length xs) ends h xs k (omega arith) (below k refl)

ends_one_kept : (xs : List Labelled) (x : Labelled) (after : List Labelled) (ends firsts : ℕ → Option ℕ)
    → ((n : ℕ) → label_stands_in (x ∷ after) n ≡ is_from (length xs) (ends n)) → ((n : ℕ) → firsts n ≡ first_do xs n) → (label : Option ℕ)
    → ends_not_one (record { before = xs; here = x; after = after }) label ≡ lacks_loop (under label firsts) (nearest_at (trimmed (length xs) (loops_of ends xs)))
ends_one_kept xs x after ends firsts h f None = refl
ends_one_kept xs x after ends firsts h f (Some n) =
    lacks_as_kept xs x after ends h n ∙ ap (λ o. lacks_loop o (nearest_at (trimmed (length xs) (loops_of ends xs)))) (sym (f n))

-- ---- a place

trimmed_cases : (j k : ℕ) (e : OpenLoop) (es : List OpenLoop) (b : Bool) → k ≤ j → nat_lt e.end k ≡ b → trimmed j (trimmed k es) ≡ trimmed j es
    → trimmed j (cond b (trimmed k es) (e ∷ es)) ≡ trimmed j (e ∷ es)
trimmed_cases j k e es true h g ih =
    ih ∙ ap (λ t. cond t (trimmed j es) (e ∷ es)) (sym (sooner j k e.end h g))
  where
    sooner : (j k end : ℕ) → k ≤ j → nat_lt end k ≡ true → nat_lt end j ≡ true
    sooner j k end h g = grind (arith, nat_tests)
trimmed_cases j k e es false h g ih = refl

trimmed_twice : (j k : ℕ) (es : List OpenLoop) → k ≤ j → trimmed j (trimmed k es) ≡ trimmed j es
trimmed_twice j k [] h = refl
trimmed_twice j k (e ∷ es) h = trimmed_cases j k e es (nat_lt e.end k) h refl (trimmed_twice j k es h)

or_nothing : (a : Bool) → (a || false) ≡ a
or_nothing true = refl
or_nothing false = refl

double_not : (a : Bool) → not (not a) ≡ a
double_not true = refl
double_not false = refl

-- the state behind xs, at the statement x, before `after`
pub nests_as_kept : (xs : List Labelled) (x : Labelled) (after : List Labelled) (ends firsts : ℕ → Option ℕ)
    → ((n : ℕ) → label_stands_in (x ∷ after) n ≡ is_from (length xs) (ends n)) → ((n : ℕ) → label_stands_in after n ≡ is_from (length xs + 1) (ends n)) → ((n : ℕ) → firsts n ≡ first_do xs n) → (s : Statement77)
    → nests_wrongly s (record { before = xs; here = x; after = after })
    ≡ (refuses (form_of s) (under x.label firsts) (first_of (frames_of xs)) (nearest_at (trimmed (length xs) (loops_of ends xs)))
    || closes_wrongly (form_of s) (is_from (length xs + 1) (end_of (form_of s) ends)) (first_of (frames_of xs)) (nearest_at (trimmed (length xs + 1) (loops_of ends xs))))
nests_as_kept xs x after ends firsts h g f (Do None v a b c) = refl
nests_as_kept xs x after ends firsts h g f (Do (Some n) v a b c) = ap not (g n)
nests_as_kept xs x after ends firsts h g f EndDo = ends_one_kept xs x after ends firsts h f x.label ∙ sym (or_nothing (lacks_loop (under x.label firsts) (nearest_at (trimmed (length xs) (loops_of ends xs)))))
nests_as_kept xs x after ends firsts h g f EndIf =
    unpaired_cases (frames_of xs) (nearest_at (trimmed (length xs + 1) (loops_of ends xs))) (has_open_if xs) (is_loop_open (since_if xs) after)
    (open_as_kept xs 0) (since_behind after (length xs + 1) ends g xs (omega arith))
nests_as_kept xs x after ends firsts h g f Else = ap not (else_suits xs (x ∷ after) ends h) ∙ double_not (lacks_if (first_of (frames_of xs)) (nearest_at (trimmed (length xs) (loops_of ends xs)))) ∙ sym (or_nothing (lacks_if (first_of (frames_of xs)) (nearest_at (trimmed (length xs) (loops_of ends xs)))))
nests_as_kept xs x after ends firsts h g f (ElseIf c) = ap not (else_suits xs (x ∷ after) ends h) ∙ double_not (lacks_if (first_of (frames_of xs)) (nearest_at (trimmed (length xs) (loops_of ends xs)))) ∙ sym (or_nothing (lacks_if (first_of (frames_of xs)) (nearest_at (trimmed (length xs) (loops_of ends xs)))))
nests_as_kept xs x after ends firsts h g f s = refl

or_grouped : (a b c : Bool) → (a || (b || c)) ≡ ((a || b) || c)
or_grouped true b c = refl
or_grouped false b c = refl

label_ends_loops : (xs : List Labelled) (x : Labelled) (after : List Labelled) (ends firsts : ℕ → Option ℕ)
    → ((n : ℕ) → label_stands_in after n ≡ is_from (length xs + 1) (ends n)) → ((n : ℕ) → firsts n ≡ first_do xs n) → (label : Option ℕ)
    → ends_loops_wrongly (record { before = xs; here = x; after = after }) label
    ≡ ends_wrongly (under label firsts) (form_of x.statement) (first_of (frames_of xs)) (nearest_at (trimmed (length xs + 1) (loops_of ends xs)))
label_ends_loops xs x after ends firsts g f None = refl
label_ends_loops xs x after ends firsts g f (Some n) =
    loops_end xs after ends g x.statement n
    ∙ ap (λ o. ends_wrongly o (form_of x.statement) (first_of (frames_of xs)) (nearest_at (trimmed (length xs + 1) (loops_of ends xs)))) (sym (f n))

pub closed_as_kept : (xs : List Labelled) (x : Labelled) (after : List Labelled) (ends firsts : ℕ → Option ℕ)
    → ((n : ℕ) → label_stands_in (x ∷ after) n ≡ is_from (length xs) (ends n)) → ((n : ℕ) → label_stands_in after n ≡ is_from (length xs + 1) (ends n)) → ((n : ℕ) → firsts n ≡ first_do xs n)
    → is_closed_wrongly (record { before = xs; here = x; after = after })
    ≡ has_wrong_closer (form_of x.statement) (length xs) (end_of (form_of x.statement) ends) (under x.label firsts) (first_of (frames_of xs)) (loops_of ends xs)
closed_as_kept xs x after ends firsts h g f =
    let once : nearest_at (trimmed (length xs + 1) (loops_of ends xs)) ≡ nearest_at (trimmed (length xs + 1) (trimmed (length xs) (loops_of ends xs))) =
    ap nearest_at (sym (trimmed_twice (length xs + 1) (length xs) (loops_of ends xs) (omega arith))) in
    ap (λ t. t || ends_loops_wrongly (record { before = xs; here = x; after = after }) x.label) (nests_as_kept xs x after ends firsts h g f x.statement)
    ∙ ap (λ t. (refuses (form_of x.statement) (under x.label firsts) (first_of (frames_of xs)) (nearest_at (trimmed (length xs) (loops_of ends xs)))
    || closes_wrongly (form_of x.statement) (is_from (length xs + 1) (end_of (form_of x.statement) ends)) (first_of (frames_of xs)) (nearest_at (trimmed (length xs + 1) (loops_of ends xs)))) || t)
    (label_ends_loops xs x after ends firsts g f x.label)
    ∙ sym (or_grouped (refuses (form_of x.statement) (under x.label firsts) (first_of (frames_of xs)) (nearest_at (trimmed (length xs) (loops_of ends xs))))
    (closes_wrongly (form_of x.statement) (is_from (length xs + 1) (end_of (form_of x.statement) ends)) (first_of (frames_of xs)) (nearest_at (trimmed (length xs + 1) (loops_of ends xs))))
    (ends_wrongly (under x.label firsts) (form_of x.statement) (first_of (frames_of xs)) (nearest_at (trimmed (length xs + 1) (loops_of ends xs)))))
    ∙ ap (λ near. refuses (form_of x.statement) (under x.label firsts) (first_of (frames_of xs)) (nearest_at (trimmed (length xs) (loops_of ends xs)))
    || (closes_wrongly (form_of x.statement) (is_from (length xs + 1) (end_of (form_of x.statement) ends)) (first_of (frames_of xs)) near
    || ends_wrongly (under x.label firsts) (form_of x.statement) (first_of (frames_of xs)) near)) once

-- ---- the statements of the code

pub end_under : (ends : ℕ → Option ℕ) (f : Form) → under (begun_in f) ends ≡ end_of f ends
end_under ends (forms.Do label) = refl
end_under ends f = refl

pub stands_after : (xs : List Labelled') (ends : ℕ → Option ℕ) → ((n : ℕ) → ends n ≡ last_with (reverse (text_of xs)) n) → (j n : ℕ) → label_stands_in (drop j (text_of xs)) n ≡ is_from j (ends n)
stands_after xs ends h j n = stands_from (text_of xs) j n ∙ ap (is_from j) (sym (h n))

-- what is kept behind the first i statements says of the next one what its place says
pub closer_at : (xs : List Labelled') (i : ℕ) (x : Labelled') (ends firsts : ℕ → Option ℕ) (fs : List OpenIf) (es : List OpenLoop) → i < length xs → x ≡ get_or xs i x
    → ((n : ℕ) → ends n ≡ last_with (reverse (text_of xs)) n) → ((n : ℕ) → firsts n ≡ first_do (passed (text_of xs) i) n)
    → fs ≡ frames_of (passed (text_of xs) i) → es ≡ loops_of ends (passed (text_of xs) i)
    → is_closed_wrongly (place_at (text_of xs) i (labelled_of x))
    ≡ has_wrong_closer (form_of (statement_of x.statement)) i (under (begun_in (form_of (statement_of x.statement))) ends) (under x.label firsts) (first_of fs) es
closer_at xs i x ends firsts fs es h e l f p q =
    let long : length (passed (text_of xs) i) ≡ i = passed_length xs i h in
    let behind : (n : ℕ) → label_stands_in (labelled_of x ∷ drop (i + 1) (text_of xs)) n ≡ is_from (length (passed (text_of xs) i)) (ends n) =
    λ n. ap (λ rest. label_stands_in rest n) (sym (text_left xs i x h e)) ∙ stands_after xs ends l i n ∙ ap (λ j. is_from j (ends n)) (sym long) in
    let beyond : (n : ℕ) → label_stands_in (drop (i + 1) (text_of xs)) n ≡ is_from (length (passed (text_of xs) i) + 1) (ends n) =
    λ n. stands_after xs ends l (i + 1) n ∙ ap (λ j. is_from (j + 1) (ends n)) (sym long) in
    closed_as_kept (passed (text_of xs) i) (labelled_of x) (drop (i + 1) (text_of xs)) ends firsts behind beyond f
    ∙ ap (λ j. has_wrong_closer (form_of (statement_of x.statement)) j (end_of (form_of (statement_of x.statement)) ends) (under x.label firsts) (first_of (frames_of (passed (text_of xs) i))) (loops_of ends (passed (text_of xs) i))) long
    ∙ ap (λ o. has_wrong_closer (form_of (statement_of x.statement)) i o (under x.label firsts) (first_of (frames_of (passed (text_of xs) i))) (loops_of ends (passed (text_of xs) i))) (sym (end_under ends (form_of (statement_of x.statement))))
    ∙ ap (λ t. has_wrong_closer (form_of (statement_of x.statement)) i (under (begun_in (form_of (statement_of x.statement))) ends) (under x.label firsts) (first_of t) (loops_of ends (passed (text_of xs) i))) (sym p)
    ∙ ap (λ t. has_wrong_closer (form_of (statement_of x.statement)) i (under (begun_in (form_of (statement_of x.statement))) ends) (under x.label firsts) (first_of fs) t) (sym q)

-- ---- one statement more

pub frames_more : (xs : List Labelled') (i : ℕ) (x : Labelled') (fs : List OpenIf) → i < length xs → x ≡ get_or xs i x → fs ≡ frames_of (passed (text_of xs) i)
    → next_frames (form_of (statement_of x.statement)) i fs ≡ frames_of (passed (text_of xs) (i + 1))
frames_more xs i x fs h e p =
    ap (next_frames (form_of (statement_of x.statement)) i) p
    ∙ ap (λ j. next_frames (form_of (statement_of x.statement)) j (frames_of (passed (text_of xs) i))) (sym (passed_length xs i h))
    ∙ ap frames_of (sym (text_passed xs i x h e))

pub loops_more : (xs : List Labelled') (i : ℕ) (x : Labelled') (ends : ℕ → Option ℕ) (es : List OpenLoop) → i < length xs → x ≡ get_or xs i x → es ≡ loops_of ends (passed (text_of xs) i)
    → opened i (under (begun_in (form_of (statement_of x.statement))) ends) (trimmed (i + 1) (trimmed i es)) ≡ loops_of ends (passed (text_of xs) (i + 1))
loops_more xs i x ends es h e q =
    ap (λ o. opened i o (trimmed (i + 1) (trimmed i es))) (end_under ends (form_of (statement_of x.statement)))
    ∙ ap (opened i (end_of (form_of (statement_of x.statement)) ends)) (trimmed_twice (i + 1) i es (omega arith))
    ∙ ap (next_loops (form_of (statement_of x.statement)) ends i) q
    ∙ ap (λ j. next_loops (form_of (statement_of x.statement)) ends j (loops_of ends (passed (text_of xs) i))) (sym (passed_length xs i h))
    ∙ ap (loops_of ends) (sym (text_passed xs i x h e))

do_label : (n : ℕ) (s : Statement77) → is_do_of n s ≡ is_label n (begun_in (form_of s))
do_label n (Do None x a b c) = refl
do_label n (Do (Some m) x a b c) = refl
do_label n s = refl

pub firsts_more : (xs : List Labelled') (i : ℕ) (x : Labelled') (firsts firsts' : ℕ → Option ℕ) → i < length xs → x ≡ get_or xs i x
    → ((n : ℕ) → firsts n ≡ first_do (passed (text_of xs) i) n) → ((n : ℕ) → firsts' n ≡ or_here (firsts n) (is_label n (begun_in (form_of (statement_of x.statement)))) i)
    → (n : ℕ) → firsts' n ≡ first_do (passed (text_of xs) (i + 1)) n
firsts_more xs i x firsts firsts' h e f g n =
    g n
    ∙ ap (λ o. or_here o (is_label n (begun_in (form_of (statement_of x.statement)))) i) (f n)
    ∙ ap (λ b. or_here (first_do (passed (text_of xs) i) n) b i) (sym (do_label n (statement_of x.statement)))
    ∙ ap (or_here (first_do (passed (text_of xs) i) n) (is_do_of n (statement_of x.statement))) (sym (passed_length xs i h))
    ∙ ap (λ before. first_do before n) (sym (text_passed xs i x h e))

pub ends_more : (xs : List Labelled') (i : ℕ) (x : Labelled') (ends ends' : ℕ → Option ℕ) → i < length xs → x ≡ get_or xs i x
    → ((n : ℕ) → ends n ≡ last_with (passed (text_of xs) i) n) → ((n : ℕ) → ends' n ≡ cond (is_label n x.label) (Some i) (ends n))
    → (n : ℕ) → ends' n ≡ last_with (passed (text_of xs) (i + 1)) n
ends_more xs i x ends ends' h e f g n =
    g n
    ∙ ap (cond (is_label n x.label) (Some i)) (f n)
    ∙ ap (λ j. cond (is_label n x.label) (Some j) (last_with (passed (text_of xs) i) n)) (sym (passed_length xs i h))
    ∙ ap (λ before. last_with before n) (sym (text_passed xs i x h e))

-- ---- the same, where the code has given the parts names

pub closer_named : (xs : List Labelled') (i : ℕ) (x : Labelled') (ends firsts : ℕ → Option ℕ) (fs : List OpenIf) (es : List OpenLoop) (form : Form) (begun end first : Option ℕ)
    → i < length xs → x ≡ get_or xs i x → ((n : ℕ) → ends n ≡ last_with (reverse (text_of xs)) n) → ((n : ℕ) → firsts n ≡ first_do (passed (text_of xs) i) n)
    → fs ≡ frames_of (passed (text_of xs) i) → es ≡ loops_of ends (passed (text_of xs) i)
    → form ≡ form_of (statement_of x.statement) → begun ≡ begun_in form → end ≡ under begun ends → first ≡ under x.label firsts
    → is_closed_wrongly (place_at (text_of xs) i (labelled_of x)) ≡ has_wrong_closer form i end first (first_of fs) es
closer_named xs i x ends firsts fs es form begun end first h e l f p q a b c d =
    closer_at xs i x ends firsts fs es h e l f p q
    ∙ ap (λ k. has_wrong_closer k i (under (begun_in k) ends) (under x.label firsts) (first_of fs) es) (sym a)
    ∙ ap (λ k. has_wrong_closer form i (under k ends) (under x.label firsts) (first_of fs) es) (sym b)
    ∙ ap (λ k. has_wrong_closer form i k (under x.label firsts) (first_of fs) es) (sym c)
    ∙ ap (λ k. has_wrong_closer form i end k (first_of fs) es) (sym d)

pub frames_named : (xs : List Labelled') (i : ℕ) (x : Labelled') (fs fs' fs'' : List OpenIf) (form : Form) → i < length xs → x ≡ get_or xs i x → fs ≡ frames_of (passed (text_of xs) i)
    → form ≡ form_of (statement_of x.statement) → fs' ≡ fs → fs'' ≡ next_frames form i fs' → fs'' ≡ frames_of (passed (text_of xs) (i + 1))
frames_named xs i x fs fs' fs'' form h e p a b c = c ∙ ap (λ k. next_frames k i fs') a ∙ ap (next_frames (form_of (statement_of x.statement)) i) b ∙ frames_more xs i x fs h e p

pub loops_named : (xs : List Labelled') (i : ℕ) (x : Labelled') (ends : ℕ → Option ℕ) (es es' es'' : List OpenLoop) (form : Form) (begun end : Option ℕ) → i < length xs → x ≡ get_or xs i x
    → es ≡ loops_of ends (passed (text_of xs) i) → form ≡ form_of (statement_of x.statement) → begun ≡ begun_in form → end ≡ under begun ends
    → es' ≡ trimmed (i + 1) (trimmed i es) → es'' ≡ opened i end es' → es'' ≡ loops_of ends (passed (text_of xs) (i + 1))
loops_named xs i x ends es es' es'' form begun end h e q a b c d f =
    f ∙ ap (opened i end) d ∙ ap (λ o. opened i o (trimmed (i + 1) (trimmed i es))) (c ∙ ap (λ k. under k ends) (b ∙ ap begun_in a)) ∙ loops_more xs i x ends es h e q

pub firsts_named : (xs : List Labelled') (i : ℕ) (x : Labelled') (firsts firsts' : ℕ → Option ℕ) (form : Form) (begun : Option ℕ) → i < length xs → x ≡ get_or xs i x
    → ((n : ℕ) → firsts n ≡ first_do (passed (text_of xs) i) n) → form ≡ form_of (statement_of x.statement) → begun ≡ begun_in form
    → ((n : ℕ) → firsts' n ≡ or_here (firsts n) (is_label n begun) i) → (n : ℕ) → firsts' n ≡ first_do (passed (text_of xs) (i + 1)) n
firsts_named xs i x firsts firsts' form begun h e f a b g =
    firsts_more xs i x firsts firsts' h e f (λ n. g n ∙ ap (λ k. or_here (firsts n) (is_label n k) i) (b ∙ ap begun_in a))
