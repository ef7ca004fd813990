-- Left sides by their subscripts and by the loops.
use Rattle.std.proofs.Common.{◌≡◌, ℕ, ◌+◌, ◌<◌, ◌==◌, add_comm, add_assoc, Bool, true, false, ◌&&◌, cond, List, [], ◌∷◌, ◌++◌, map, take, drop, length, get_or, refl, sym, ap, subst, Result, ◌∙◌}
use Rattle.std.specs.Prelude.{IfOk}
use Rattle.tree.specs.declared.lists.Memory.{Memory}
use Rattle.std.proofs.lemmas.List.{map-append}
use Rattle.meaning.specs.Reads.{names_in_subscript}
use Rattle.nest.proofs.statement_loops.StandingLaws.{one_more}
use mathlib.Core.Path.{ap₂}
use Rattle.std.specs.List.{list_all}
use Rattle.std.proofs.lemmas.List.Folds.{list_all-map, list_all_at}
use Rattle.tree.specs.Plain.{Subscript, subscripts}
use Rattle.array_form.specs.forms.Loops as forms
use Rattle.array_form.specs.forms.Statements.{are_formed, has_form, subscript_occurrences}
use Rattle.array_form.specs.holds.Surroundings.{counted_of}
use Rattle.array_form.specs.holds.View.{surroundings_view}
use Rattle.array_form.specs.declared.holds.loops.CountedLoop.{CountedLoop}
use Rattle.array_form.specs.declared.holds.loops.Surroundings.{Surroundings}
use Rattle.array_form.specs.holds.Levels.{is_formed, loops_from_place}

each_formed : (a : forms.FormSurroundings) (ls : List forms.FormLoop) (ps : List Subscript) → are_formed a ls (subscripts ps) ≡ list_all (is_formed a ls) ps
each_formed a ls [] = refl
each_formed a ls (p ∷ ps) = ap (λ b. is_formed a ls p && b) (each_formed a ls ps)

pub has-form : (a : Surroundings) (from : ℕ) (ps : List Subscript) → has_form (surroundings_view a) (loops_from_place a from) (subscripts ps)
    ≡ (list_all (λ (l : CountedLoop). subscript_occurrences l.var (subscripts ps) == 1) (drop from a.loops) && list_all (is_formed (surroundings_view a) (loops_from_place a from)) ps)
has-form a from ps =
    ap₂ (λ b c. b && c) (list_all-map (λ (l : forms.FormLoop). subscript_occurrences l.variable (subscripts ps) == 1) (counted_of (length a.loops)) (drop from a.loops))
    (each_formed (surroundings_view a) (loops_from_place a from) ps)

-- ---- one more subscript

abbrev one_if : Bool → ℕ
one_if b = cond b 1 0

pub subscript_occurrences-append : (x : List ℕ) (ps : List Subscript) (p : Subscript)
    → subscript_occurrences x (subscripts (ps ++ p ∷ [])) ≡ subscript_occurrences x (subscripts ps) + one_if (forms.is_among (names_in_subscript p) x)
subscript_occurrences-append x [] p = add_comm (one_if (forms.is_among (names_in_subscript p) x)) 0
subscript_occurrences-append x (q ∷ ps) p =
    ap (λ n. one_if (forms.is_among (names_in_subscript q) x) + n) (subscript_occurrences-append x ps p)
    ∙ sym (add_assoc (one_if (forms.is_among (names_in_subscript q) x)) (subscript_occurrences x (subscripts ps)) (one_if (forms.is_among (names_in_subscript p) x)))

pub occurrences_more : {A : Type 0} (x : List ℕ) (view : A → Subscript) (list : List A) (i : ℕ) (p : A) → i < length list → p ≡ get_or list i p
    → subscript_occurrences x (subscripts (map view (take (i + 1) list))) ≡ subscript_occurrences x (subscripts (map view (take i list))) + one_if (forms.is_among (names_in_subscript (view p)) x)
occurrences_more x view list i p h e =
    ap (λ qs. subscript_occurrences x (subscripts (map view qs))) (one_more list i p h e)
    ∙ ap (λ qs. subscript_occurrences x (subscripts qs)) (map-append view (take i list) (p ∷ []))
    ∙ subscript_occurrences-append x (map view (take i list)) (view p)

-- ---- what is answered

pub fails : {A B : Type 0} (p : B → Bool) (view : A → B) (list all : List A) (i : ℕ) (x : A) (r : Bool)
    → list ≡ all → i < length list → x ≡ get_or list i x → r ≡ p (view x) → r ≡ false → false ≡ list_all p (map view all)
fails p view list all i x r same h e is f =
    sym (ap (λ l. list_all p (map view l)) (sym same) ∙ list_all-map p view list ∙ list_all_at (λ y. p (view y)) list i x h (ap (λ y. p (view y)) (sym e) ∙ sym is ∙ f))

abbrev once_each : List Subscript → List CountedLoop → Bool
once_each ps ls = list_all (λ (l : CountedLoop). subscript_occurrences l.var (subscripts ps) == 1) ls

pub not_once : (a : Surroundings) (from : ℕ) (ps : List Subscript) (part : List CountedLoop) (r : Bool)
    → part ≡ drop from a.loops → r ≡ once_each ps part → r ≡ false
    → false ≡ has_form (surroundings_view a) (loops_from_place a from) (subscripts ps)
not_once a from ps part r same is f =
    sym (has-form a from ps ∙ ap (λ b. b && list_all (is_formed (surroundings_view a) (loops_from_place a from)) ps) (ap (once_each ps) (sym same) ∙ sym is ∙ f))

pub once_then : (a : Surroundings) (from : ℕ) (ps : List Subscript) (part : List CountedLoop) (r : Bool) (o : Result Bool Memory)
    → part ≡ drop from a.loops → r ≡ once_each ps part → r ≡ true
    → IfOk o (λ b. b ≡ list_all (is_formed (surroundings_view a) (loops_from_place a from)) ps)
    → IfOk o (λ b. b ≡ has_form (surroundings_view a) (loops_from_place a from) (subscripts ps))
once_then a from ps part r o same is t h =
    subst (λ x. IfOk o (λ b. b ≡ x))
    (sym (has-form a from ps ∙ ap (λ b. b && list_all (is_formed (surroundings_view a) (loops_from_place a from)) ps) (ap (once_each ps) (sym same) ∙ sym is ∙ t))) h
