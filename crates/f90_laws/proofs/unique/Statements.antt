-- The statements of a text have one form each.
use Rattle.std.proofs.Common.{◌≡◌, ℕ, List, [], ◌∷◌, refl, sym, ap, subst, ◌∙◌, Option}
use mathlib.Core.Path.{ap₂}
use Rattle.tree.specs.declared.stmts.Mark.{Mark}
use Rattle.f90_grammar.specs.Words.{Word90}
use Rattle.f90_grammar.specs.Forms.{Form90, IsWritten90}
use Rattle.f90_grammar.specs.Blocks.{Placed, placed_form}
use Rattle.f90_grammar.specs.Reading.{HaveForms, takes_mark, last_mark, if_taken, mark_left_over}
use Rattle.f90_laws.specs.unique.Unique.{OneStatement, OneReading}
use Rattle.f90_laws.proofs.unique.Forms.{one_form}
use Rattle.f90_laws.proofs.unique.Tokens.{one_words}

pub one_statement : OneStatement
one_statement s f g h k =
    one_form f g k.0 (subst (λ (ws : List Word90). IsWritten90 f ws) (one_words s.chars h.0 k.0 h.1 k.1) h.2) k.2

placed_once : (p q : Placed) → p.line ≡ q.line → p.mark ≡ q.mark → p.form ≡ q.form → p ≡ q
placed_once p q a b c =
    ap (λ (n : ℕ). placed_form n p.mark p.form) a
    ∙ (ap (λ (m : Option Mark). placed_form q.line m p.form) b ∙ ap (λ (f : Form90). placed_form q.line q.mark f) c)

pub one_reading : OneReading
one_reading m [] [] [] h k = refl
one_reading m [] [] (q ∷ qs) h k = absurd k
one_reading m [] (p ∷ ps) qs h k = absurd h
one_reading m (s ∷ ss) [] qs h k = absurd h
one_reading m (s ∷ ss) (p ∷ ps) [] h k = absurd k
one_reading m (s ∷ ss) (p ∷ ps) (q ∷ qs) h k =
    let f : p.form ≡ q.form = one_statement s p.form q.form h.2 k.2 in
    let c : p.mark ≡ q.mark = h.1 ∙ (ap (λ (x : Form90). if_taken (takes_mark x) (last_mark m s.ahead)) f ∙ sym k.1) in
    let n = last_mark (mark_left_over (takes_mark q.form) (last_mark m s.ahead)) s.within in
    let r : HaveForms n ss ps = subst (λ (x : Form90). HaveForms (last_mark (mark_left_over (takes_mark x) (last_mark m s.ahead)) s.within) ss ps) f h.3 in
    ap₂ (λ (x : Placed) (xs : List Placed). x ∷ xs) (placed_once p q (h.0 ∙ sym k.0) c f) (one_reading n ss ps qs r k.3)
