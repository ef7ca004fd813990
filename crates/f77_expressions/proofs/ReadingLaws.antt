-- Reading by the machine, in the words of the grammar.
use Rattle.std.proofs.Common.{◌≡◌, refl, false, IsTrue, List, [], ◌∷◌, ◌++◌, ap, sym, ◌∙◌, append-nil, length-append, arith, ◌<◌, ℕ, length, subst, Result, Ok, Err}
use Rattle.std.specs.Prelude.{Some, None, IfOk}
use Rattle.std.specs.Borrow.{Bor}
use Rattle.std.proofs.lemmas.List.{length-map}
use Rattle.f77_expressions.specs.Tokens.{word_of}
use Rattle.tree.specs.declared.exprs.Expr.{Expr}
use Rattle.tree.specs.Plain.{Expression}
use Rattle.f77_grammar.specs.expressions.Phrases.{Phrase77, IsExpression77, written77, tree77_of, Literal, WideLiteral, Truth, Name, Listed, Paren, Signed, Joined}
use Rattle.f77_grammar.specs.expressions.Printing.{IsSource, phrase_of, printed}
use Rattle.f77_grammar.specs.expressions.Reading.{Spells, ReadsAs, IsWide}
use Rattle.f77_grammar.proofs.expressions.PrintingLaws.{back, spells, narrow}
use Rattle.f77_grammar.proofs.expressions.SourceLaws.{read_source}
use Rattle.tree.specs.View.{expression_of}
use Rattle.f77_expressions.specs.declared.expressions.Unread.{Unread}
use Rattle.f77_expressions.specs.declared.expressions.Unread.TheVariants.{NoExpression, WideLiteral, Deep, OutOfMemory}
use Rattle.f77_grammar.specs.expressions.Words as words
use Rattle.f77_grammar.specs.expressions.Words.{Word77}
use Rattle.f77_expressions.specs.declared.operands.Operand.{Operand}
use Rattle.reading.specs.declared.stops.Stop.{Stop}
use Rattle.reading.specs.declared.stops.Stop.TheVariants.{Syntax, Memory}
use Rattle.f77_expressions.specs.declared.tokens.Token.{Token}
use Rattle.f77_expressions.specs.Reader as reader
use Rattle.f77_expressions.specs.Reader.{read, checked, placed_alone, Read}
use Rattle.f77_expressions.specs.Reading.{Ends, IsMadeOf, Begins, Gives, GivesWhole, Answers, ReadsBack}
use Rattle.f77_expressions.specs.Views as views
use Rattle.f77_expressions.specs.Views.{Reads, words_of}
use Rattle.f77_expressions.proofs.Complete.{operand_of, is_read}
use Rattle.f77_expressions.proofs.Sound.{read_is}

pub is_made : (m : Operand) (p : Phrase77) → views.operand_of m ≡ operand_of p → IsMadeOf m p
is_made m p e = record { tree = ap (λ (q : reader.Operand). q.tree) e; depth = ap (λ (q : reader.Operand). q.depth) e }

pub found : (ws : List Word77) (r : Result (Operand × Bor (List Token)) Stop) → Reads r (read ws) → IfOk r (λ r. Begins ws r.0 (words_of r.1.now))
found ws (Ok r) h =
    let f = read_is ws _ h in
    record { phrase = f.phrase; good = f.good; is = is_made r.0 f.phrase f.operand_is; same = sym f.text_is }
found ws (Err e) h = tt

again : (ws : List Word77) (p : Phrase77) (rest : List Word77) → IsExpression77 p → Ends rest → ws ≡ written77 p ++ rest → read ws ≡ Some (record { operand = operand_of p; rest = rest })
again ws p rest g e w = ap read w ∙ is_read p rest g e

pub only : (ws : List Word77) (r : Result (Operand × Bor (List Token)) Stop) → Reads r (read ws) → (p : Phrase77) (rest : List Word77)
    → IsExpression77 p → Ends rest → ws ≡ written77 p ++ rest → Gives r p rest
only ws (Ok r) h p rest g e w =
    let a : reader.Read = record { operand = views.operand_of r.0; rest = words_of r.1.now } in
    let b : reader.Read = record { operand = operand_of p; rest = rest } in
    let k : Some a ≡ Some b = sym h ∙ again ws p rest g e w in
    let q : a ≡ b = cc in
    (is_made r.0 p (ap (λ (x : reader.Read). x.operand) q), ap (λ (x : reader.Read). x.rest) q)
only ws (Err Syntax) h p rest g e w =
    let b : reader.Read = record { operand = operand_of p; rest = rest } in
    let k : None ≡ Some b = sym h ∙ again ws p rest g e w in cc
only ws (Err Memory) h p rest g e w = tt

written_some : (p : Phrase77) → 0 < length (written77 p)
written_some (Literal n) = omega arith
written_some WideLiteral = omega arith
written_some (Truth b) = omega arith
written_some (Name x) = omega arith
written_some (Listed x ps) = omega arith
written_some (Paren p) = omega arith
written_some (Signed s p) = omega arith
written_some (Joined o a b) = omega (arith, length-append (written77 a) (words.Operator o ∷ written77 b))

pub shorter : (tokens : List Token) (r : Result (Operand × Bor (List Token)) Stop) → Reads r (read (words_of tokens)) → IfOk r (λ r. length r.1.now < length tokens)
shorter tokens (Ok r) h =
    let f = read_is (words_of tokens) _ h in
    let e : length (written77 f.phrase ++ words_of r.1.now) ≡ length (words_of tokens) = ap length f.text_is in
    omega (arith, e, written_some f.phrase, length-append (written77 f.phrase) (words_of r.1.now), length-map tokens word_of, length-map r.1.now word_of)
shorter tokens (Err e) h = tt

pub ruleset reading = (found, only, shorter)

pub checked_passes : (r : Read) → IsTrue r.operand.placed → checked (Some r) ≡ Some r
checked_passes r h = rw h refl

pub checked_fails : (r : Read) → r.operand.placed ≡ false → checked (Some r) ≡ None
checked_fails r h = rw h refl

pub ruleset checking = (checked_passes, checked_fails)

-- ---- all words

-- nothing but the rest is asked of what follows
pub whole_only : (ws : List Word77) (r : Result (Operand × Bor (List Token)) Stop) (p : Phrase77)
    → ((p : Phrase77) (rest : List Word77) → IsExpression77 p → Ends rest → ws ≡ written77 p ++ rest → Gives r p rest)
    → IsExpression77 p → ws ≡ written77 p → Gives r p []
whole_only ws r p h g e = h p [] g tt (e ∙ sym (append-nil (written77 p)))

whole_error : (e : Stop) (p : Phrase77) → Gives (Err e) p [] → GivesWhole (Err e) p
whole_error Syntax p h = h
whole_error Memory p h = tt

pub whole_err : (ws : List Word77) (e : Stop) (p : Phrase77)
    → ((p : Phrase77) (rest : List Word77) → IsExpression77 p → Ends rest → ws ≡ written77 p ++ rest → Gives (Err e) p rest)
    → IsExpression77 p → ws ≡ written77 p → GivesWhole (Err e) p
whole_err ws e p h g w = whole_error e p (whole_only ws (Err e) p h g w)

pub left_over : (ws : List Word77) (r : Operand × Bor (List Token)) (p : Phrase77)
    → ((p : Phrase77) (rest : List Word77) → IsExpression77 p → Ends rest → ws ≡ written77 p ++ rest → Gives (Ok r) p rest)
    → IsExpression77 p → ws ≡ written77 p → 0 < length r.1.now → ⊥
left_over ws r p h g w l =
    let k = whole_only ws (Ok r) p h g w in
    let e = ap length k.1 in
    omega (arith, length-map r.1.now word_of)

-- ---- what is printed is read back

back_by : (r : Result Expr Unread) (e : Expression) → Answers r (phrase_of e) → tree77_of (phrase_of e) ≡ e → ¬ IsWide (phrase_of e) → ReadsBack r e
back_by (Ok t) e a b n = a.0 ∙ b
back_by (Err NoExpression) e a b n = a
back_by (Err WideLiteral) e a b n = n a
back_by (Err Deep) e a b n = a.1
back_by (Err OutOfMemory) e a b n = tt

pub reads_back : (r : Result Expr Unread) (text : List ℕ) (e : Expression) → ((p : Phrase77) → Spells text p → Answers r p) → IsSource e → text ≡ printed e → ReadsBack r e
reads_back r text e h s w = back_by r e (h (phrase_of e) (subst (λ (q : List ℕ). Spells q (phrase_of e)) (sym w) (spells e s))) (back e s) (narrow e s)

-- ---- what is read is a tree of a text

pub all_source : (r : Result Expr Unread) (text : List ℕ) → IfOk r (λ e. ReadsAs text (expression_of e)) → IfOk r (λ e. IsSource (expression_of e))
all_source (Ok e) text h = read_source text (expression_of e) h
all_source (Err e) text h = tt

pub ruleset printing = (reads_back)
