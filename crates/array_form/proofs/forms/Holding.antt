-- What a level without a hold says, and whether loops stand in a guard.
use Rattle.std.proofs.Common.{◌≡◌, refl, sym, ap, ◌∙◌, ℕ, Bool, true, false, cond, ◌&&◌, not, List, [], ◌∷◌, Option, Some, None, Contains}
use Rattle.tree.specs.Plain.{Expression, Reference}
use Rattle.meaning.specs.Reads.{names_in}
use Rattle.meaning_laws.proofs.arrays.Members.{here, nowhere}
use Rattle.array_form.specs.forms.Following.{has_no_loop}
use Rattle.array_form.specs.forms.Loops.{FormLoop, FormSurroundings, loops_among}
use Rattle.array_form.specs.forms.Statements.{HoldCause, FormHold, TriangleHold, BoundsHold, has_form, hold_at, is_triangle, loops_from, stand_in_guard, unguarded_hold}
use Rattle.array_form.proofs.forms.Orders.{of_filter, in_filter, stands_in_names}

abbrev first_hold : Bool → Bool → Bool → Option HoldCause
first_hold form triangle bounds = cond (not form) (Some FormHold) (cond triangle (Some TriangleHold) (cond bounds (Some BoundsHold) None))

none_first : (form triangle bounds : Bool) → first_hold form triangle bounds ≡ None → (first_hold form triangle false ≡ None) × (bounds ≡ false)
none_first false triangle bounds h = absurd cc
none_first true true bounds h = absurd cc
none_first true false true h = absurd cc
none_first true false false h = (refl, refl)

-- where nothing holds a guarded statement, nothing holds it without its guard
pub unheld : (a : FormSurroundings) (k : ℕ) (guard : Option Expression) (left : Reference) (safe : Bool) → hold_at a k guard left safe ≡ None → unguarded_hold a k left ≡ None
unheld a k guard left safe h =
    (none_first (has_form a (loops_from a k) left.subscripts) (is_triangle a (loops_from a k)) (stand_in_guard (loops_from a k) guard && not safe) h).0

-- and it is safe, if a loop stands in the guard
pub unheld_safe : (a : FormSurroundings) (k : ℕ) (guard : Option Expression) (left : Reference) (safe : Bool) → hold_at a k guard left safe ≡ None → stand_in_guard (loops_from a k) guard ≡ true → safe ≡ true
unheld_safe a k guard left safe h stands =
    by safe (ap (λ b. b && not safe) (sym stands)
    ∙ (none_first (has_form a (loops_from a k) left.subscripts) (is_triangle a (loops_from a k)) (stand_in_guard (loops_from a k) guard && not safe) h).1)
  where
    by : (b : Bool) → (true && not b) ≡ false → b ≡ true
    by true e = refl
    by false e = absurd cc

-- ---- loops in a guard

no_member : (ls : List FormLoop) → has_no_loop ls ≡ true → ls ≡ []
no_member [] h = refl
no_member (l ∷ ls) h = absurd cc

some_member : (ls : List FormLoop) → (l : FormLoop) → Contains ls l → has_no_loop ls ≡ false
some_member [] l c = absurd (nowhere l c)
some_member (m ∷ ls) l c = refl

a_member : (ls : List FormLoop) → has_no_loop ls ≡ false → (l : FormLoop) × Contains ls l
a_member [] h = absurd cc
a_member (l ∷ ls) h = (l, here l ls)

negated : (b : Bool) → not b ≡ true → b ≡ false
negated true h = absurd cc
negated false h = refl

unnegated : (b : Bool) → not b ≡ false → b ≡ true
unnegated true h = refl
unnegated false h = absurd cc

-- those of one list are among those of another one
pub stands_more : (ls ms : List FormLoop) (e : Expression) → ((l : FormLoop) → Contains ls l → Contains ms l) → stand_in_guard ls (Some e) ≡ true → stand_in_guard ms (Some e) ≡ true
stands_more ls ms e into h =
    let m = a_member (loops_among ls (names_in e)) (negated (has_no_loop (loops_among ls (names_in e))) h) in
    let own = of_filter (stands_in_names (names_in e)) ls m.0 m.1 in
    ap not (some_member (loops_among ms (names_in e)) m.0 (in_filter (stands_in_names (names_in e)) ms m.0 (into m.0 own.0) own.1))

-- none of the loops stands in it
pub none_stand : (ls ms : List FormLoop) (e : Expression) → ((l : FormLoop) → Contains ls l → Contains ms l) → stand_in_guard ms (Some e) ≡ false → loops_among ls (names_in e) ≡ []
none_stand ls ms e into h = no_member (loops_among ls (names_in e)) (by (has_no_loop (loops_among ls (names_in e))) refl)
  where
    by : (b : Bool) → has_no_loop (loops_among ls (names_in e)) ≡ b → b ≡ true
    by true q = refl
    by false q = absurd (let both : false ≡ true = sym h ∙ stands_more ls ms e into (ap not q) in cc)
