-- Statements of which none closes a block wrongly and none leaves one open: those of a text in order, and of them those
-- that are executable.
use Rattle.std.proofs.Common.{◌≡◌, ℕ, Bool, true, false, not, ◌||◌, cond, List, [], ◌∷◌, ◌++◌, filter, refl, sym, ap}
use Rattle.std.proofs.Common.{subst, ◌∙◌, append_assoc}
use mathlib.Core.Path.{fun_ext}
use Rattle.f90_grammar.specs.Forms as forms
use Rattle.f90_grammar.specs.Forms.{Form90}
use Rattle.f90_grammar.specs.Blocks.{Placed}
use Rattle.f90_grammar.specs.Order.{Opened, opened_by, opened_behind, closes_wrongly, closes_if, has_end_if90, closes_do}
use Rattle.f90_grammar.specs.Order.{has_end_do, stays_open90, is_executable90}
use Rattle.f90_grammar.specs.Order.{Place90, IsPlaceIn, IsInOrder, blocks_round, title_in_text, is_misnamed, is_late90}
use Rattle.f90_grammar.specs.Order.{ends_wrongly}
use Rattle.f90_laws.proofs.readings.Counts.{opened-append}
use Rattle.f90_laws.proofs.readings.Lists.{left_false, right_false}
use Rattle.f90_laws.proofs.unrefused.Blocks.{Close, AreClosed}

-- ---- the statements behind some of them

pub close_right : (os : List Opened) (xs ys : List Placed) → Close os (xs ++ ys) → Close (opened_behind os xs) ys
close_right os [] ys h = h
close_right os (x ∷ xs) ys h = close_right (opened_by x.form os) xs ys h.1

pub closed_right : (xs ys : List Placed) → AreClosed (xs ++ ys) → AreClosed ys
closed_right [] ys h = h
closed_right (x ∷ xs) ys h = closed_right xs ys h.1

-- ---- statements that aren't executable neither open nor close

abbrev pub executables : List Placed → List Placed
executables ps = filter (λ (p : Placed). is_executable90 p.form) ps

pub idle_opens : (f : Form90) (os : List Opened) → is_executable90 f ≡ false → opened_by f os ≡ os
idle_opens (forms.Program x) os e = refl
idle_opens forms.ImplicitNone os e = refl
idle_opens (forms.Declare k a es) os e = refl
idle_opens forms.End os e = refl
idle_opens (forms.EndProgram x) os e = refl
idle_opens f os e = absurd cc

idle_if : (f : Form90) (more : ℕ → Bool) (k : ℕ) → is_executable90 f ≡ false → closes_if f more k ≡ more k
idle_if (forms.Program x) more k e = refl
idle_if forms.ImplicitNone more k e = refl
idle_if (forms.Declare d a es) more k e = refl
idle_if forms.End more k e = refl
idle_if (forms.EndProgram x) more k e = refl
idle_if f more k e = absurd cc

idle_do : (f : Form90) (more : ℕ → Bool) (k : ℕ) → is_executable90 f ≡ false → closes_do f more k ≡ more k
idle_do (forms.Program x) more k e = refl
idle_do forms.ImplicitNone more k e = refl
idle_do (forms.Declare d a es) more k e = refl
idle_do forms.End more k e = refl
idle_do (forms.EndProgram x) more k e = refl
idle_do f more k e = absurd cc

abbrev pub kept : Bool → Placed → List Placed → List Placed
kept b p ps = cond b (p ∷ ps) ps

if_kept : (ps : List Placed) → has_end_if90 (executables ps) ≡ has_end_if90 ps
if_kept [] = refl
if_kept (p ∷ ps) = by (is_executable90 p.form) refl (if_kept ps)
  where
    by : (b : Bool) → is_executable90 p.form ≡ b → has_end_if90 (executables ps) ≡ has_end_if90 ps
        → has_end_if90 (kept b p (executables ps)) ≡ has_end_if90 (p ∷ ps)
    by true e same = fun_ext (λ k. ap (λ g. closes_if p.form g k) same)
    by false e same = same ∙ fun_ext (λ k. sym (idle_if p.form (has_end_if90 ps) k e))

do_kept : (ps : List Placed) → has_end_do (executables ps) ≡ has_end_do ps
do_kept [] = refl
do_kept (p ∷ ps) = by (is_executable90 p.form) refl (do_kept ps)
  where
    by : (b : Bool) → is_executable90 p.form ≡ b → has_end_do (executables ps) ≡ has_end_do ps
        → has_end_do (kept b p (executables ps)) ≡ has_end_do (p ∷ ps)
    by true e same = fun_ext (λ k. ap (λ g. closes_do p.form g k) same)
    by false e same = same ∙ fun_ext (λ k. sym (idle_do p.form (has_end_do ps) k e))

open_kept : (f : Form90) (ps : List Placed) → stays_open90 f (executables ps) ≡ stays_open90 f ps
open_kept (forms.If p) ps = ap (λ g. not (g 0)) (if_kept ps)
open_kept (forms.Do x a b c) ps = ap (λ g. not (g 0)) (do_kept ps)
open_kept f ps = refl

pub close_kept : (os : List Opened) (ps : List Placed) → Close os ps → Close os (executables ps)
close_kept os [] h = tt
close_kept os (p ∷ ps) h = by (is_executable90 p.form) refl (λ o c. close_kept o ps c)
  where
    by : (b : Bool) → is_executable90 p.form ≡ b → ((o : List Opened) → Close o ps → Close o (executables ps))
        → Close os (kept b p (executables ps))
    by true e next = (h.0, next (opened_by p.form os) h.1)
    by false e next = next os (subst (λ o. Close o ps) (idle_opens p.form os e) h.1)

pub closed_kept : (ps : List Placed) → AreClosed ps → AreClosed (executables ps)
closed_kept [] h = tt
closed_kept (p ∷ ps) h = by (is_executable90 p.form) (closed_kept ps h.1)
  where
    by : (b : Bool) → AreClosed (executables ps) → AreClosed (kept b p (executables ps))
    by true next = (open_kept p.form ps ∙ h.0, next)
    by false next = next

-- ---- what is asked at each place

abbrev pub place : List Placed → Placed → List Placed → Place90
place front p back = record { before = front; here = p; after = back }

close_behind : (front rest : List Placed)
    → ((p : Place90) → IsPlaceIn (front ++ rest) p → closes_wrongly p.here.form (blocks_round p) ≡ false)
    → Close (opened_behind [] front) rest
close_behind front [] h = tt
close_behind front (x ∷ xs) h = (
  h (place front x xs) refl,
  subst (λ o. Close o xs) (opened-append [] front (x ∷ []))
      (close_behind (front ++ x ∷ []) xs (λ p e. h p (sym (append_assoc front (x ∷ []) xs) ∙ e))),
)

closed_behind : (front rest : List Placed)
    → ((p : Place90) → IsPlaceIn (front ++ rest) p → stays_open90 p.here.form p.after ≡ false) → AreClosed rest
closed_behind front [] h = tt
closed_behind front (x ∷ xs) h = (
  h (place front x xs) refl,
  closed_behind (front ++ x ∷ []) xs (λ p e. h p (sym (append_assoc front (x ∷ []) xs)
      ∙ e)),
)

module _ (ps : List Placed) (order : IsInOrder ps) where
  unfound : (p : Place90) → IsPlaceIn ps p
      → (closes_wrongly p.here.form (blocks_round p) ≡ false) × (stays_open90 p.here.form p.after ≡ false)
  unfound p i =
      let f = p.here.form in
      let a = is_misnamed (title_in_text ps) f || is_late90 f p.before || ends_wrongly f p.after in
      let c = closes_wrongly f (blocks_round p) in
      let s = stays_open90 f p.after in
      (right_false a c (left_false (a || c) s (order.none p i)), right_false (a || c) s (order.none p i))

  pub order_closes : Close [] ps
  order_closes = close_behind [] ps (λ p i. (unfound p i).0)

  pub order_ends : AreClosed ps
  order_ends = closed_behind [] ps (λ p i. (unfound p i).1)
