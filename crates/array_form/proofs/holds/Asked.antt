-- A statement of a nest that is asked about.
use Rattle.std.proofs.Common.{◌≡◌, ℕ, ◌+◌, ◌-◌, ◌<◌, ◌≤◌, Bool, suc, false, ◌||◌, List, ◌∷◌, Option, Some, None, refl, map, length, get_or, Result, Ok, Err, sym, ap, subst, ◌∙◌, arith}
use Rattle.std.specs.Prelude.{◌↔◌, All, IfOk, IsTrue, is_none}
use Rattle.std.proofs.lemmas.List.{get_or-map, length-map}
use Rattle.std.proofs.lemmas.List.Elements.{All-cons}
use Rattle.std.specs.List.{flat_map}
use Rattle.meaning.specs.ArrayValues.{counted as counted'}
use Rattle.tree.specs.Plain.{Expression, Reference}
use Rattle.tree.specs.declared.lists.Memory.{Memory}
use Rattle.nest.specs.Bodies as bodies
use Rattle.nest.specs.Plain.{Nest}
use Rattle.nest.specs.View.{loop_of}
use Rattle.array_form.specs.forms.Loops as forms
use Rattle.dependence_graph.specs.declared.graphs.Hold.{Hold}
use Rattle.array_form.specs.holds.Bounds.{is_safe}
use Rattle.array_form.specs.holds.Holds.{hold_at_level, holds_of_standing}
use Rattle.array_form.specs.holds.Noted.{AreNoted, IsNoted}
use Rattle.array_form.specs.holds.Plain.{HasFewLoops}
use Rattle.array_form.specs.holds.Statements.{no_statement, statement_at}
use Rattle.array_form.specs.holds.Surroundings.{counted_loop, surroundings_of}
use Rattle.array_form.specs.holds.View.{surroundings_view}
use Rattle.array_form.specs.declared.holds.loops.Surroundings.{Surroundings}
use Rattle.array_form.specs.declared.holds.noted.Noted.{Noted}
use Rattle.array_form.proofs.holds.SafeLaws.{noted_at}
use Rattle.nest.specs.statement_loops.Standings.{standing_of}
use Rattle.nest.specs.declared.statement_loops.standings.Standing.{Standing}

pub standing_at : (n : Nest) (all : List Standing) (s : ℕ) (x : Standing) → map standing_of all ≡ bodies.nest_statements n → s - 1 < length all → x ≡ get_or all (s - 1) x
    → standing_of x ≡ statement_at n s
standing_at n all s x h k e =
    ap standing_of e ∙ sym (get_or-map standing_of all (s - 1) x no_statement k) ∙ ap (λ (l : List bodies.Standing). get_or l (s - 1) no_statement) h

pub as_many : (n : Nest) (all : List Standing) → map standing_of all ≡ bodies.nest_statements n → length all ≡ length (bodies.nest_statements n)
as_many n all h = sym (length-map all standing_of) ∙ ap length h

pub few_loops : (a : Surroundings) (x : Standing) → a.loops ≡ map counted_loop (map loop_of x.loops) → length a.loops ≡ length x.loops
few_loops a x e = ap length e ∙ (length-map (map loop_of x.loops) counted_loop ∙ length-map x.loops loop_of)

-- without a guard it doesn't matter whether a statement is safe
as_safe : (s : ℕ) (v : forms.FormSurroundings) (guard : Option Expression) (left : Reference) (safe b : Bool) (ks : List ℕ) → safe ≡ (is_none guard || b) → flat_map (hold_at_level s v guard left safe) ks ≡ flat_map (hold_at_level s v guard left b) ks
as_safe s v None left safe b ks is = refl
as_safe s v (Some e) left safe b ks is = ap (λ d. flat_map (hold_at_level s v (Some e) left d) ks) is

standing_holds : (n : Nest) (s : ℕ) (a : Surroundings) (x : Standing) (safe : Bool) (hs : List Hold) → surroundings_view a ≡ surroundings_of n (map loop_of x.loops) → a.loops ≡ map counted_loop (map loop_of x.loops)
    → safe ≡ (is_none (standing_of x).statement.guard || is_safe n (standing_of x))
    → hs ≡ flat_map (hold_at_level s (surroundings_view a) (standing_of x).statement.guard (standing_of x).statement.left safe) (counted' 1 (length a.loops)) → hs ≡ holds_of_standing n s (standing_of x)
standing_holds n s a x safe hs v l is h =
    let y = standing_of x in
    h ∙ (ap (λ (b : forms.FormSurroundings). flat_map (hold_at_level s b y.statement.guard y.statement.left safe) (counted' 1 (length a.loops))) v
    ∙ (as_safe s (surroundings_of n y.loops) y.statement.guard y.statement.left safe (is_safe n y) (counted' 1 (length a.loops)) is
    ∙ ap (λ m. flat_map (hold_at_level s (surroundings_of n y.loops) y.statement.guard y.statement.left (is_safe n y)) (counted' 1 m)) (ap length l ∙ length-map (map loop_of x.loops) counted_loop)))

pub standing_ok : (n : Nest) (s : ℕ) (a : Surroundings) (x : Standing) (safe : Bool) (r : Result (List Hold) Memory) → surroundings_view a ≡ surroundings_of n (map loop_of x.loops) → a.loops ≡ map counted_loop (map loop_of x.loops)
    → safe ≡ (is_none (standing_of x).statement.guard || is_safe n (standing_of x))
    → IfOk r (λ hs. hs ≡ flat_map (hold_at_level s (surroundings_view a) (standing_of x).statement.guard (standing_of x).statement.left safe) (counted' 1 (length a.loops))) → IfOk r (λ hs. hs ≡ holds_of_standing n s (standing_of x))
standing_ok n s a x safe (Ok hs) v l is h = standing_holds n s a x safe hs v l is h
standing_ok n s a x safe (Err m) v l is h = h

-- the statement in a place, which counts from 0
pub standing_place : (n : Nest) (all : List Standing) (k : ℕ) (x : Standing) → map standing_of all ≡ bodies.nest_statements n → k < length all → x ≡ get_or all k x → standing_of x ≡ statement_at n (k + 1)
standing_place n all k x h g e =
    let less : (k + 1) - 1 ≡ k = omega arith in
    standing_at n all (k + 1) x h (omega arith) (e ∙ ap (λ j. get_or all j x) (sym less))

pub own_noted : (n : Nest) (all : List Standing) (ss : List Noted) (k : ℕ) (x : Standing) (s : Noted) → AreNoted n (map standing_of all) ss → k < length all → k < length ss → x ≡ get_or all k x → s ≡ get_or ss k s → IsNoted n (standing_of x) s
own_noted n all ss k x s h f g e i =
    subst (λ y. IsNoted n y s) (get_or-map standing_of all k x (standing_of x) f ∙ ap standing_of (sym e)) (noted_at n (map standing_of all) ss k (standing_of x) s h g i)

pub all_noted_of : (n : Nest) (xs ys : List Standing) (ss ts : List Noted) → xs ≡ ys → ss ≡ ts → AreNoted n (map standing_of xs) ss → AreNoted n (map standing_of ys) ts
all_noted_of n xs ys ss ts e f h = subst (AreNoted n (map standing_of ys)) f (subst (λ zs. AreNoted n (map standing_of zs) ss) e h)

pub few_at : (n : Nest) (all : List Standing) (k : ℕ) (x : Standing) → map standing_of all ≡ bodies.nest_statements n → k < length all → x ≡ get_or all k x → All HasFewLoops (bodies.nest_statements n) → length x.loops ≤ 7
few_at n all k x h g e few =
    let many = as_many n all h in
    let there : length (standing_of x).loops ≤ 7 = subst HasFewLoops (sym (standing_place n all k x h g e)) (few ((k + 1) - 1) no_statement (omega arith)) in
    let long : length (standing_of x).loops ≡ length x.loops = length-map x.loops loop_of in
    omega arith

-- one statement more
pub few_more : (all rest : List Standing) (first : Standing) (r : Bool) → all ≡ first ∷ rest → length first.loops ≤ 7 → IsTrue r ↔ All HasFewLoops (map standing_of rest) → IsTrue r ↔ All HasFewLoops (map standing_of all)
few_more all rest first r e few h =
    let long : length (standing_of first).loops ≡ length first.loops = length-map first.loops loop_of in
    subst (λ xs. IsTrue r ↔ All HasFewLoops (map standing_of xs)) (sym e) (
      λ t. All-cons HasFewLoops (standing_of first) (map standing_of rest) (omega arith) (h.0 t),
      λ g. h.1 (λ k d i. g (suc k) d (omega arith)),
    )

pub many_loops : (all rest : List Standing) (first : Standing) → all ≡ first ∷ rest → 7 < length first.loops → IsTrue false ↔ All HasFewLoops (map standing_of all)
many_loops all rest first e many =
    let long : length (standing_of first).loops ≡ length first.loops = length-map first.loops loop_of in
    subst (λ xs. IsTrue false ↔ All HasFewLoops (map standing_of xs)) (sym e) (λ t. cc, λ g. let f : length (standing_of first).loops ≤ 7 = g 0 no_statement (omega arith) in absurd (omega arith))
