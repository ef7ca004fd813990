-- Coefficients of trips.
use Rattle.std.proofs.Common.{◌≡◌, ℕ, zero, suc, ℤ, pos, ◌≤◌, ◌<◌, get_or, Bool, true, false, not, ◌&&◌, ◌||◌, cond, List, [], ◌∷◌, ◌++◌, map, take, drop, length, length-drop, refl, sym, ap, subst, ◌∙◌, ◌+◌, ◌-◌, arith}
use mathlib.Core.Path.{ap₂}
use Rattle.std.specs.List.{list_any}
use Rattle.std.specs.Ordering.{int_eq}
use Rattle.std.specs.Str.{bytes_eq}
use Rattle.std.proofs.lemmas.Slice.Eq.{bytes_eq-Decides}
use Rattle.std.proofs.lemmas.List.{get_or-drop, take_all}
use Rattle.std.proofs.lemmas.List.Folds.{list_any_at}
use Rattle.array_form.specs.forms.Loops as forms
use Rattle.array_form.specs.forms.Statements.{depends_on, is_triangle}
use Rattle.array_form.specs.holds.Surroundings.{coefficients_from, counted_of}
use Rattle.array_form.specs.holds.View.{loop_names, surroundings_view}
use Rattle.array_form.specs.declared.holds.loops.CountedLoop.{CountedLoop}
use Rattle.array_form.specs.declared.holds.loops.Surroundings.{Surroundings}
use Rattle.array_form.specs.holds.Levels.{AreWithin, loops_from_place}

any_map : {A B : Type 0} (p : B → Bool) (view : A → B) (xs : List A) → list_any p (map view xs) ≡ list_any (λ x. p (view x)) xs
any_map p view [] = refl
any_map p view (x ∷ xs) = ap (λ b. p (view x) || b) (any_map p view xs)

any_alike : {A : Type 0} (p q : A → Bool) → ((x : A) → p x ≡ q x) → (xs : List A) → list_any p xs ≡ list_any q xs
any_alike p q h [] = refl
any_alike p q h (x ∷ xs) = ap₂ (λ b c. b || c) (h x) (any_alike p q h xs)

by_name : (b : Bool) (c u v : ℤ) (p : Bool) → (p ≡ true → u ≡ v) → cond b true p ≡ true → cond b c u ≡ cond b c v
by_name true c u v p f h = refl
by_name false c u v p f h = f h

-- what stands behind the loops is not looked at
among_loops : (names symbols : List (List ℕ)) (x : List ℕ) (cs ds : List ℤ) → forms.is_among names x ≡ true → length names ≤ length cs
    → forms.coefficient (names ++ symbols) x (take (length names) cs ++ ds) ≡ forms.coefficient names x cs
among_loops [] symbols x cs ds h k = cc
among_loops (y ∷ ys) symbols x [] ds h k = absurd (omega arith)
among_loops (y ∷ ys) symbols x (c ∷ cs) ds h k =
    by_name (bytes_eq y x) c (forms.coefficient (ys ++ symbols) x (take (length ys) cs ++ ds)) (forms.coefficient ys x cs) (forms.is_among ys x)
    (λ e. among_loops ys symbols x cs ds e (omega arith)) h

pub names_viewed : (n : ℕ) (ls : List CountedLoop) → forms.form_variables_of (map (counted_of n) ls) ≡ loop_names ls
names_viewed n [] = refl
names_viewed n (l ∷ ls) = ap (λ xs. l.var ∷ xs) (names_viewed n ls)

pub names_counted : (ls : List CountedLoop) → length (loop_names ls) ≡ length ls
names_counted [] = refl
names_counted (l ∷ ls) = let e = names_counted ls in cc

trip_coefficient : (a : Surroundings) (l m : CountedLoop) → length a.loops ≤ length l.trip.top.loops → forms.is_among (loop_names a.loops) m.var ≡ true
    → forms.coefficient (forms.form_names_of (surroundings_view a)) m.var (counted_of (length a.loops) l).trip.form.coefficients ≡ forms.coefficient (loop_names a.loops) m.var l.trip.top.loops
trip_coefficient a l m k h =
    ap (λ xs. forms.coefficient (xs ++ a.symbols) m.var (take (length a.loops) l.trip.top.loops ++ coefficients_from 0 l.trip.top.syms)) (names_viewed (length a.loops) a.loops)
    ∙ ap (λ n. forms.coefficient (loop_names a.loops ++ a.symbols) m.var (take n l.trip.top.loops ++ coefficients_from 0 l.trip.top.syms)) (sym (names_counted a.loops))
    ∙ among_loops (loop_names a.loops) a.symbols m.var l.trip.top.loops (coefficients_from 0 l.trip.top.syms) h (let e = names_counted a.loops in omega arith)

pub depends-is : (a : Surroundings) (l m : CountedLoop) → length a.loops ≤ length l.trip.top.loops → forms.is_among (loop_names a.loops) m.var ≡ true
    → depends_on (surroundings_view a) (counted_of (length a.loops) l) (counted_of (length a.loops) m)
    ≡ (not (bytes_eq l.var m.var) && not (int_eq (forms.coefficient (loop_names a.loops) m.var l.trip.top.loops) (pos 0)))
depends-is a l m k h = ap (λ z. not (bytes_eq l.var m.var) && not (int_eq z (pos 0))) (trip_coefficient a l m k h)

either : (b p : Bool) → p ≡ true → cond b true p ≡ true
either true p h = refl
either false p h = h

pub among_at : (ls : List CountedLoop) (i : ℕ) (d : CountedLoop) → i < length ls → forms.is_among (loop_names ls) (get_or ls i d).var ≡ true
among_at [] i d h = absurd (omega arith)
among_at (l ∷ ls) zero d h = ap (λ b. cond b true (forms.is_among (loop_names ls) l.var)) ((bytes_eq-Decides l.var l.var).1 refl)
among_at (l ∷ ls) (suc i) d h = either (bytes_eq l.var (get_or ls i d).var) (forms.is_among (loop_names ls) (get_or ls i d).var) (among_at ls i d (omega arith))

-- from a place on
pub among_from : (a : Surroundings) (from : ℕ) → from ≤ length a.loops → AreWithin a (drop from a.loops)
among_from a from h k d u =
    subst (λ (l : CountedLoop). forms.is_among (loop_names a.loops) l.var ≡ true) (sym (get_or-drop from a.loops k d)) (among_at a.loops (from + k) d (let e = length-drop from a.loops in omega arith))

pub triangle-is : (a : Surroundings) (from : ℕ) → is_triangle (surroundings_view a) (loops_from_place a from)
    ≡ list_any (λ (l : CountedLoop). list_any (λ (m : CountedLoop). depends_on (surroundings_view a) (counted_of (length a.loops) l) (counted_of (length a.loops) m)) (drop from a.loops)) (drop from a.loops)
triangle-is a from =
    let n = length a.loops in
    let ls = drop from a.loops in
    any_map (λ (l : forms.FormLoop). list_any (depends_on (surroundings_view a) l) (map (counted_of n) ls)) (counted_of n) ls
    ∙ any_alike (λ (l : CountedLoop). list_any (depends_on (surroundings_view a) (counted_of n l)) (map (counted_of n) ls))
    (λ (l : CountedLoop). list_any (λ (m : CountedLoop). depends_on (surroundings_view a) (counted_of n l) (counted_of n m)) ls)
    (λ l. any_map (depends_on (surroundings_view a) (counted_of n l)) (counted_of n) ls) ls

pub ruleset triangle_laws = (triangle-is, among_from)

pub ruleset trip_laws = (depends-is)

pub triangle_found : (a : Surroundings) (from : ℕ) (part : List CountedLoop) (r : Bool) → part ≡ drop from a.loops
    → r ≡ list_any (λ (l : CountedLoop). list_any (λ (m : CountedLoop). depends_on (surroundings_view a) (counted_of (length a.loops) l) (counted_of (length a.loops) m)) part) part
    → r ≡ is_triangle (surroundings_view a) (loops_from_place a from)
triangle_found a from part r same is =
    is ∙ ap (λ ls. list_any (λ (l : CountedLoop). list_any (λ (m : CountedLoop). depends_on (surroundings_view a) (counted_of (length a.loops) l) (counted_of (length a.loops) m)) ls) ls) same
    ∙ sym (triangle-is a from)

-- the rest of a list, as a range of it
pub rest_is : {A : Type 0} (xs ys : List A) (from : ℕ) → xs ≡ ys → take (length xs - from) (drop from xs) ≡ drop from ys
rest_is xs ys from e =
    take_all (length xs - from) (drop from xs) (let n = length-drop from xs in omega arith) ∙ ap (drop from) e

pub finds_plain : {A : Type 0} (p : A → Bool) (list : List A) (i : ℕ) (x : A) (r : Bool) → i < length list → x ≡ get_or list i x → r ≡ p x → r ≡ true → true ≡ list_any p list
finds_plain p list i x r h e is t = sym (list_any_at p list i x h (ap p (sym e) ∙ sym is ∙ t))
