-- Bounds of dimensions.
use Rattle.std.proofs.Common.{◌≡◌, ℕ, List, [], ◌∷◌, ◌++◌, ap, sym, ◌∙◌, max, append_assoc, pos, Result, Ok, Err}
use Rattle.tree.specs.Plain.{Expression, Number}
use Rattle.std.specs.Prelude.{IfOk}
use Rattle.std.specs.Borrow.{Bor}
use Rattle.reading.specs.declared.stops.Stop.{Stop}
use Rattle.reading.specs.declared.stops.Stop.TheVariants.{Syntax, Memory}
use Rattle.f77_expressions.specs.declared.tokens.Token.{Token}
use Rattle.f77_expressions.specs.Views.{words_of}
use Rattle.tree.specs.View.{expression_of}
use Rattle.f77_grammar.specs.expressions.Phrases.{Phrase77, IsExpression77, written77, tree77_of, phrase_depth77}
use Rattle.f77_grammar.specs.expressions.Words as words
use Rattle.f77_grammar.specs.expressions.Words.{Word77}
use Rattle.f77_grammar.specs.statements.Forms.{Bound77, Upper, Both, IsBound77, written_bound77, bound_tree}
use Rattle.f77_expressions.specs.declared.operands.Operand.{Operand}
use Rattle.f77_expressions.specs.Reading as reading
use Rattle.f77_expressions.specs.Reading.{Ends, IsMadeOf, Gives}
use Rattle.f77_statement.specs.Parts.{Given, capped}
use Rattle.f77_statement.specs.Declarations.{IsBoundOf, BeginsWithBound, EndsBound}
use Rattle.f77_statement.specs.Separated.{EndsPart}
use Rattle.f77_statement.proofs.CappedLaws.{capped_max}

pub if_ok : {A E : Type 0} {P Q : A → Type 0} → ((a : A) → P a → Q a) → (x : Result A E) → IfOk x P → IfOk x Q
if_ok f (Ok a) h = f a h
if_ok f (Err e) h = tt

-- what may stand behind a part may stand behind an expression
pub ends : (rest : List Word77) → EndsPart rest → Ends rest
ends [] h = tt
ends (words.Comma ∷ ws) h = tt
ends (words.Close ∷ ws) h = tt
ends (w ∷ ws) h = absurd h

pub no_colon : (rest more : List Word77) → EndsPart rest → rest ≡ words.Colon ∷ more → ⊥
no_colon [] more h e = cc
no_colon (words.Comma ∷ ws) more h e = cc
no_colon (words.Close ∷ ws) more h e = cc
no_colon (w ∷ ws) more h e = absurd h

pub upper_found : (ws rest : List Word77) (m : Operand) (bs : Expression × Expression) (d : ℕ) → reading.Begins ws m rest → bs ≡ (Number (pos 1), expression_of m.tree) → d ≡ m.depth → BeginsWithBound ws bs d rest
upper_found ws rest m bs d h b e =
    record { bound = Upper h.phrase; good = h.good; tree = b ∙ ap (λ (x : Expression). (Number (pos 1), x)) h.is.tree; deep = e ∙ h.is.depth; same = h.same }

pub both_found : (ws rest more last : List Word77) (a : Operand) (bs : Expression × Expression) (d : ℕ) → reading.Begins ws a rest → rest ≡ words.Colon ∷ more → EndsBound more a bs d last → BeginsWithBound ws bs d last
both_found ws rest more last a bs d h c k =
    record {
      bound = Both h.phrase k.phrase;
      good = (h.good, k.good);
      tree = k.tree ∙ ap (λ (x : Expression). (x, tree77_of k.phrase)) h.is.tree;
      deep = k.deep ∙ ap (λ (n : ℕ). max n (capped (phrase_depth77 k.phrase))) h.is.depth ∙ capped_max (phrase_depth77 h.phrase) (phrase_depth77 k.phrase);
      same = h.same ∙ ap (λ (q : List Word77). written77 h.phrase ++ q) (c ∙ ap (λ (q : List Word77). words.Colon ∷ q) k.same) ∙ sym (append_assoc (written77 h.phrase) (words.Colon ∷ written77 k.phrase) last);
    }

abbrev pub OnlyRead : List Word77 → Result (Operand × Bor (List Token)) Stop → Type 0
OnlyRead ws r = (p : Phrase77) (rest : List Word77) → IsExpression77 p → Ends rest → ws ≡ written77 p ++ rest → Gives r p rest

pub bound_err : {A : Type 0} (P : A → Type 0) (ws : List Word77) (e : Stop) → OnlyRead ws (Err e) → (b : Bound77) (rest : List Word77) → IsBound77 b → EndsPart rest → ws ≡ written_bound77 b ++ rest → Given (Err e) P
bound_err P ws Syntax only (Upper p) rest g h s = only p rest g (ends rest h) s
bound_err P ws Syntax only (Both p q) rest g h s = only p (words.Colon ∷ (written77 q ++ rest)) g.0 tt (s ∙ append_assoc (written77 p) (words.Colon ∷ written77 q) rest)
bound_err P ws Memory only b rest g h s = tt

-- where no colon follows
pub upper_only : (ws : List Word77) (r : Operand × Bor (List Token)) (bs : Expression × Expression) (d : ℕ) → OnlyRead ws (Ok r) → ((more : List Word77) → words_of r.1.now ≡ words.Colon ∷ more → ⊥)
    → bs ≡ (Number (pos 1), expression_of r.0.tree) → d ≡ r.0.depth
    → (b : Bound77) (rest : List Word77) → IsBound77 b → EndsPart rest → ws ≡ written_bound77 b ++ rest → (bs ≡ bound_tree b) × IsBoundOf d b × (words_of r.1.now ≡ rest)
upper_only ws r bs d only n m k (Upper p) rest g h s =
    let q = only p rest g (ends rest h) s in
    (m ∙ ap (λ (x : Expression). (Number (pos 1), x)) q.0.tree, k ∙ q.0.depth, q.1)
upper_only ws r bs d only n m k (Both p q) rest g h s =
    let j = only p (words.Colon ∷ (written77 q ++ rest)) g.0 tt (s ∙ append_assoc (written77 p) (words.Colon ∷ written77 q) rest) in
    absurd (n _ j.1)

-- where a colon follows
pub both_only : {A : Type 0} (x : Result A Stop) (P : Bound77 → List Word77 → A → Type 0) (ws more : List Word77) (r : Operand × Bor (List Token)) → OnlyRead ws (Ok r) → words_of r.1.now ≡ words.Colon ∷ more
    → ((p q : Phrase77) (rest : List Word77) → IsMadeOf r.0 p → IsExpression77 q → Ends rest → more ≡ written77 q ++ rest → Given x (P (Both p q) rest))
    → (b : Bound77) (rest : List Word77) → IsBound77 b → EndsPart rest → ws ≡ written_bound77 b ++ rest → Given x (P b rest)
both_only x P ws more r only c f (Upper p) rest g h s =
    let q = only p rest g (ends rest h) s in
    absurd (no_colon rest more h (sym q.1 ∙ c))
both_only x P ws more r only c f (Both p q) rest g h s =
    let j = only p (words.Colon ∷ (written77 q ++ rest)) g.0 tt (s ∙ append_assoc (written77 p) (words.Colon ∷ written77 q) rest) in
    let k : words.Colon ∷ more ≡ words.Colon ∷ (written77 q ++ rest) = sym c ∙ j.1 in
    let m : more ≡ written77 q ++ rest = cc in
    f p q rest j.0 g.1 (ends rest h) m
