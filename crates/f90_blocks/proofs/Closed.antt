-- No block is open behind the last of statements in order.
use Rattle.std.proofs.Common.{◌≡◌, ◌∙◌, ap, sym, subst, refl, ℕ, suc, Bool, true, false, ◌||◌, List, [], ◌∷◌}
use Rattle.std.proofs.Common.{◌++◌, append_assoc, append-nil}
use Rattle.std.proofs.lemmas.Bool.{not-false, or_parts}
use Rattle.f90_grammar.specs.Forms as forms
use Rattle.f90_grammar.specs.Forms.{Form90}
use Rattle.f90_grammar.specs.Blocks.{Placed}
use Rattle.f90_grammar.specs.Order.{Place90, IsPlaceIn, IsInOrder, Opened, InIf, InElse, InDo, opened_by, opened_behind}
use Rattle.f90_grammar.specs.Order.{blocks_round}
use Rattle.f90_grammar.specs.Order.{closes_wrongly, closes_if, has_end_if90, closes_do, has_end_do, stays_open90, title_in_text}
use Rattle.f90_grammar.specs.Order.{is_misnamed, is_late90, ends_wrongly}

abbrev place : List Placed → Placed → List Placed → Place90
place front p back = record { before = front; here = p; after = back }

pub opened_one : (os : List Opened) (front : List Placed) (p : Placed)
    → opened_behind os (front ++ p ∷ []) ≡ opened_by p.form (opened_behind os front)
opened_one os [] p = refl
opened_one os (q ∷ front) p = opened_one (opened_by q.form os) front p

-- each open block has its end: `f` and `g` say whether there is an END IF and an END DO for the nth open block of its
-- kind
abbrev HaveEnds : List Opened → (ℕ → Bool) → (ℕ → Bool) → Type 0
HaveEnds [] f g = Unit {0}
HaveEnds (InIf ∷ os) f g = (f 0 ≡ true) × HaveEnds os (λ n. f (suc n)) g
HaveEnds (InElse ∷ os) f g = (f 0 ≡ true) × HaveEnds os (λ n. f (suc n)) g
HaveEnds (InDo x ∷ os) f g = (g 0 ≡ true) × HaveEnds os f (λ n. g (suc n))

have_ends_behind : (q : Form90) (os : List Opened) (qs : List Placed) → closes_wrongly q os ≡ false
    → stays_open90 q qs ≡ false
    → HaveEnds os (λ n. closes_if q (has_end_if90 qs) n) (λ n. closes_do q (has_end_do qs) n)
    → HaveEnds (opened_by q os) (has_end_if90 qs) (has_end_do qs)
have_ends_behind (forms.If p) os qs c s e = (not-false (has_end_if90 qs 0) s, e)
have_ends_behind (forms.Do x a b d) os qs c s e = (not-false (has_end_do qs 0) s, e)
have_ends_behind forms.Else (InIf ∷ os) qs c s e = e
have_ends_behind forms.Else [] qs c s e = absurd cc
have_ends_behind forms.Else (InElse ∷ os) qs c s e = absurd cc
have_ends_behind forms.Else (InDo x ∷ os) qs c s e = absurd cc
have_ends_behind forms.EndIf (InIf ∷ os) qs c s e = e.1
have_ends_behind forms.EndIf (InElse ∷ os) qs c s e = e.1
have_ends_behind forms.EndIf [] qs c s e = absurd cc
have_ends_behind forms.EndIf (InDo x ∷ os) qs c s e = absurd cc
have_ends_behind forms.EndDo (InDo x ∷ os) qs c s e = e.1
have_ends_behind forms.EndDo [] qs c s e = absurd cc
have_ends_behind forms.EndDo (InIf ∷ os) qs c s e = absurd cc
have_ends_behind forms.EndDo (InElse ∷ os) qs c s e = absurd cc
have_ends_behind f os qs c s e = e

none_open : (os : List Opened) → HaveEnds os (λ n. false) (λ n. false) → os ≡ []
none_open [] e = refl
none_open (InIf ∷ os) e = let k = e.0 in absurd cc
none_open (InElse ∷ os) e = let k = e.0 in absurd cc
none_open (InDo x ∷ os) e = let k = e.0 in absurd cc

pub record IsRight (p : Place90) : Type 0 where
  pub fits : closes_wrongly p.here.form (blocks_round p) ≡ false
  pub ends : stays_open90 p.here.form p.after ≡ false

pub right_at : (ps : List Placed) → IsInOrder ps → (p : Place90) → IsPlaceIn ps p → IsRight p
right_at ps order p i =
    let f = p.here.form in
    let a = is_misnamed (title_in_text ps) f || is_late90 f p.before || ends_wrongly f p.after in
    let c = closes_wrongly f (blocks_round p) in
    let both = or_parts (a || c) (stays_open90 f p.after) (order.none p i) in
    record { fits = (or_parts a c both.0).1; ends = both.1 }

closed_from : (front back : List Placed) → ((p : Place90) → IsPlaceIn (front ++ back) p → IsRight p)
    → HaveEnds (opened_behind [] front) (has_end_if90 back) (has_end_do back) → opened_behind [] (front ++ back) ≡ []
closed_from front [] right e = ap (opened_behind []) (append-nil front) ∙ none_open (opened_behind [] front) e
closed_from front (q ∷ qs) right e =
    let here = right (place front q qs) refl in
    let same = append_assoc front (q ∷ []) qs in
    ap (opened_behind []) (sym same)
    ∙ closed_from (front ++ q ∷ []) qs (λ p i. right p (sym same ∙ i))
    (subst (λ os. HaveEnds os (has_end_if90 qs) (has_end_do qs)) (sym (opened_one [] front q))
    (have_ends_behind q.form (opened_behind [] front) qs here.fits here.ends e))

pub closed : (ps : List Placed) → IsInOrder ps → opened_behind [] ps ≡ []
closed ps order = closed_from [] ps (right_at ps order) tt
