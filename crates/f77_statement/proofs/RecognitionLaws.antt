-- Which statements a text can be, by how it is recognised.
use Rattle.std.proofs.Common.{◌≡◌, ℕ, max, Bool, true, false, List, ◌∷◌, ◌++◌, refl, ap, sym, ◌∙◌, subst, codes, Result, Ok, Err, not}
use Rattle.std.specs.Prelude.{Option, Some, None, IfOk, ◌||◌}
use Rattle.std.specs.List.{list_any}
use Rattle.std.specs.declared.alloc.Global.{Global}
use Rattle.std.specs.declared.boxed.Box.{Box}
use Rattle.tree.specs.Plain.{Expression}
use Rattle.tree.specs.View.{expression_of}
use Rattle.tree.specs.declared.exprs.Expr.{Expr}
use Rattle.f77_grammar.specs.Statement77 as statement
use Rattle.f77_grammar.specs.Statement77.{Statement77}
use Rattle.f77_grammar.specs.expressions.Phrases.{Phrase77, IsExpression77, written77, tree77_of, phrase_depth77}
use Rattle.f77_grammar.specs.expressions.Words.{is_wide_word}
use Rattle.f77_grammar.specs.expressions.Spelling.{AreWords77, chars77}
use Rattle.f77_grammar.specs.expressions.Squeezing.{Symbol77, Char}
use Rattle.f77_grammar.specs.statements.Controls.{Control}
use Rattle.f77_grammar.specs.statements.Forms as forms
use Rattle.f77_grammar.specs.statements.Forms.{Form77, IsWritten77, IsInner77, statement_of, form_words, form_depth}
use Rattle.f77_grammar.specs.statements.Recognition.{has_equals_outside, IsConditional}
use Rattle.reading.specs.declared.stops.Stop.{Stop}
use Rattle.f77_words.specs.keywords.Kinds.{HasKeyword}
use Rattle.f77_words.specs.keywords.Outside.{has_comma_outside}
use Rattle.f77_words.proofs.keywords.Recognised.{recognised_if, recognised_test, recognised_assign, recognised_do, recognised_plain_do, recognised_keyword}
use Rattle.f77_grammar.specs.syntax.Views as view
use Rattle.f77_grammar.specs.declared.syntax.statements.Stmt77.{Stmt77}
use Rattle.f77_grammar.specs.declared.syntax.statements.Stmt77.TheVariants as stmts
use Rattle.f77_grammar.proofs.syntax.Equations.{statement_of-if, statement_of-test}
use Rattle.f77_statement.specs.declared.formed.Formed.{Formed}
use Rattle.f77_statement.specs.declared.keywords.Keyword.{Keyword}
use Rattle.f77_statement.specs.Actions.{IsCondition, IsConditionOf}
use Rattle.f77_statement.specs.Conditions.{IsBehindIf, Block, Logical}
use Rattle.f77_statement.specs.Formed.{IsFound}
use Rattle.f77_statement.specs.Keywords.{Front, keyword_at, IsAfter}
use Rattle.f77_statement.specs.Kinds.{is_inner, IsUnconditional, Assignment, Loop, PlainLoop, OfKeyword}
use Rattle.f77_statement.specs.Parts.{Given, capped, IsFormedOf}
use Rattle.f77_statement.proofs.ActionLaws.{cut_is}
use Rattle.f77_statement.proofs.AssignmentLaws.{any_append}
use Rattle.f77_statement.proofs.CappedLaws.{capped_max}
use Rattle.f77_statement.proofs.GivenLaws.{given_err}
use Rattle.f77_statement.proofs.KeywordLaws.{behind_keyword, keyword_written}

opposite : (b : Bool) → b ≡ true → b ≡ false → ⊥
opposite true t f = cc
opposite false t f = cc

-- ---- inner statements

pub inner_is : (f : Form77) → is_inner (statement_of f) ≡ true → IsInner77 f
inner_is (forms.Program x) e = cc
inner_is forms.ImplicitNone e = cc
inner_is (forms.Declare k es) e = cc
inner_is (forms.Dimension es) e = cc
inner_is (forms.Constants ds) e = cc
inner_is (forms.Assign l r) e = tt
inner_is (forms.Go label) e = tt
inner_is (forms.Test p f) e = cc
inner_is (forms.If p) e = cc
inner_is (forms.ElseIf p) e = cc
inner_is forms.Else e = cc
inner_is forms.EndIf e = cc
inner_is (forms.Do label comma c) e = cc
inner_is (forms.PlainDo c) e = cc
inner_is forms.EndDo e = cc
inner_is forms.Continue e = tt
inner_is forms.Stop e = tt
inner_is (forms.Read is) e = tt
inner_is forms.ReadNothing e = tt
inner_is (forms.Print is) e = tt
inner_is forms.PrintNothing e = tt
inner_is forms.End e = cc

pub inner_of : (f : Form77) → IsInner77 f → is_inner (statement_of f) ≡ true
inner_of (forms.Program x) k = absurd k
inner_of forms.ImplicitNone k = absurd k
inner_of (forms.Declare t es) k = absurd k
inner_of (forms.Dimension es) k = absurd k
inner_of (forms.Constants ds) k = absurd k
inner_of (forms.Assign l r) k = refl
inner_of (forms.Go label) k = refl
inner_of (forms.Test p f) k = absurd k
inner_of (forms.If p) k = absurd k
inner_of (forms.ElseIf p) k = absurd k
inner_of forms.Else k = absurd k
inner_of forms.EndIf k = absurd k
inner_of (forms.Do label comma c) k = absurd k
inner_of (forms.PlainDo c) k = absurd k
inner_of forms.EndDo k = absurd k
inner_of forms.Continue k = refl
inner_of forms.Stop k = refl
inner_of (forms.Read is) k = refl
inner_of forms.ReadNothing k = refl
inner_of (forms.Print is) k = refl
inner_of forms.PrintNothing k = refl
inner_of forms.End k = absurd k

-- ---- without a condition

-- an inner statement has no condition of its own
pub inner_unconditional : (f : Form77) (text : List Symbol77) → IsWritten77 f text → IsInner77 f → IsUnconditional text f
inner_unconditional (forms.Program x) text h k = absurd k
inner_unconditional forms.ImplicitNone text h k = absurd k
inner_unconditional (forms.Declare t es) text h k = absurd k
inner_unconditional (forms.Dimension es) text h k = absurd k
inner_unconditional (forms.Constants ds) text h k = absurd k
inner_unconditional (forms.Assign l r) text h k = Assignment l r h
inner_unconditional (forms.Go label) text h k = OfKeyword _ tt h
inner_unconditional (forms.Test p f) text h k = absurd k
inner_unconditional (forms.If p) text h k = absurd k
inner_unconditional (forms.ElseIf p) text h k = absurd k
inner_unconditional forms.Else text h k = absurd k
inner_unconditional forms.EndIf text h k = absurd k
inner_unconditional (forms.Do label comma c) text h k = absurd k
inner_unconditional (forms.PlainDo c) text h k = absurd k
inner_unconditional forms.EndDo text h k = absurd k
inner_unconditional forms.Continue text h k = OfKeyword _ tt h
inner_unconditional forms.Stop text h k = OfKeyword _ tt h
inner_unconditional (forms.Read is) text h k = OfKeyword _ tt h
inner_unconditional forms.ReadNothing text h k = OfKeyword _ tt h
inner_unconditional (forms.Print is) text h k = OfKeyword _ tt h
inner_unconditional forms.PrintNothing text h k = OfKeyword _ tt h
inner_unconditional forms.End text h k = absurd k

pub of_keyword : (P : Form77 → Type 0) (text : List Symbol77) (f : Form77) → has_equals_outside text 0 ≡ false → ((g : Form77) → HasKeyword g → IsWritten77 g text → P g) → IsUnconditional text f → P f
of_keyword P text f e p (Assignment l r h) = absurd (opposite _ (recognised_assign l r text h).equals e)
of_keyword P text f e p (Loop label comma c h) = absurd (opposite _ (recognised_do label comma c text h).equals e)
of_keyword P text f e p (PlainLoop c h) = absurd (opposite _ (recognised_plain_do c text h).equals e)
of_keyword P text f e p (OfKeyword g k h) = p g k h

pub of_loop : (P : Form77 → Type 0) (text : List Symbol77) (f : Form77) → has_equals_outside text 0 ≡ true → has_comma_outside text 0 false ≡ true
    → ((label : List ℕ) (comma : Bool) (c : Control) → IsWritten77 (forms.Do label comma c) text → P (forms.Do label comma c))
    → ((c : Control) → IsWritten77 (forms.PlainDo c) text → P (forms.PlainDo c)) → IsUnconditional text f → P f
of_loop P text f e k p q (Assignment l r h) = absurd (opposite _ k (recognised_assign l r text h).no_comma)
of_loop P text f e k p q (Loop label comma c h) = p label comma c h
of_loop P text f e k p q (PlainLoop c h) = q c h
of_loop P text f e k p q (OfKeyword g w h) = absurd (opposite _ e (recognised_keyword g w text h).no_equals)

pub of_assignment : (P : Form77 → Type 0) (text : List Symbol77) (f : Form77) → has_equals_outside text 0 ≡ true → has_comma_outside text 0 false ≡ false
    → ((l r : Phrase77) → IsWritten77 (forms.Assign l r) text → P (forms.Assign l r)) → IsUnconditional text f → P f
of_assignment P text f e k p (Assignment l r h) = p l r h
of_assignment P text f e k p (Loop label comma c h) = absurd (opposite _ (recognised_do label comma c text h).comma k)
of_assignment P text f e k p (PlainLoop c h) = absurd (opposite _ (recognised_plain_do c text h).comma k)
of_assignment P text f e k p (OfKeyword g w h) = absurd (opposite _ e (recognised_keyword g w text h).no_equals)

no_condition : (text : List Symbol77) (f : Form77) → IsUnconditional text f → (condition rest : List Symbol77) → IsConditional text condition rest → ⊥
no_condition text f (Assignment l r h) condition rest k = (recognised_assign l r text h).unconditional condition rest k
no_condition text f (Loop label comma c h) condition rest k = (recognised_do label comma c text h).unconditional condition rest k
no_condition text f (PlainLoop c h) condition rest k = (recognised_plain_do c text h).unconditional condition rest k
no_condition text f (OfKeyword g w h) condition rest k = (recognised_keyword g w text h).unconditional condition rest k

-- ---- with a condition

-- THEN is no inner statement
no_then_behind : (text : List Symbol77) (f : Form77) → text ≡ chars77 (codes "THEN") → IsUnconditional text f → IsInner77 f → ⊥
no_then_behind text f e (Assignment l r h) k = opposite _ (recognised_assign l r text h).equals (ap (λ (q : List Symbol77). has_equals_outside q 0) e)
no_then_behind text f e (Loop label comma c h) k = absurd k
no_then_behind text f e (PlainLoop c h) k = absurd k
no_then_behind text f e (OfKeyword g w h) k =
    let b = behind_keyword g w text h in
    let n : keyword_at text ≡ None = ap keyword_at e in
    let s = b.found in
    let z : ⊥ = cc in z

pub no_then : (text : List Symbol77) (f : Form77) → text ≡ chars77 (codes "THEN") → IsWritten77 f text → IsInner77 f → ⊥
no_then text f e h k = no_then_behind text f e (inner_unconditional f text h k) k

pub data IsRecognised (text : List Symbol77) (f : Form77) : Type 0 where
  WithCondition : (condition rest : List Symbol77) → IsConditional text condition rest → IsBehindIf condition rest f → IsRecognised text f
  WithoutCondition : IsUnconditional text f → IsRecognised text f

recognised : (f : Form77) (text : List Symbol77) → IsWritten77 f text → IsRecognised text f
recognised (forms.Program x) text h = WithoutCondition (OfKeyword _ tt h)
recognised forms.ImplicitNone text h = WithoutCondition (OfKeyword _ tt h)
recognised (forms.Declare t es) text h = WithoutCondition (OfKeyword _ tt h)
recognised (forms.Dimension es) text h = WithoutCondition (OfKeyword _ tt h)
recognised (forms.Constants ds) text h = WithoutCondition (OfKeyword _ tt h)
recognised (forms.Assign l r) text h = WithoutCondition (Assignment l r h)
recognised (forms.Go label) text h = WithoutCondition (OfKeyword _ tt h)
recognised (forms.Test p f) text h = WithCondition h.0 h.1 (recognised_test p f text h) (Logical p f h.3 h.4 h.5 h.6)
recognised (forms.If p) text h = WithCondition h.0 (chars77 (codes "THEN")) (recognised_if p text h) (Block p h.2 h.3 refl)
recognised (forms.ElseIf p) text h = WithoutCondition (OfKeyword _ tt h)
recognised forms.Else text h = WithoutCondition (OfKeyword _ tt h)
recognised forms.EndIf text h = WithoutCondition (OfKeyword _ tt h)
recognised (forms.Do label comma c) text h = WithoutCondition (Loop label comma c h)
recognised (forms.PlainDo c) text h = WithoutCondition (PlainLoop c h)
recognised forms.EndDo text h = WithoutCondition (OfKeyword _ tt h)
recognised forms.Continue text h = WithoutCondition (OfKeyword _ tt h)
recognised forms.Stop text h = WithoutCondition (OfKeyword _ tt h)
recognised (forms.Read is) text h = WithoutCondition (OfKeyword _ tt h)
recognised forms.ReadNothing text h = WithoutCondition (OfKeyword _ tt h)
recognised (forms.Print is) text h = WithoutCondition (OfKeyword _ tt h)
recognised forms.PrintNothing text h = WithoutCondition (OfKeyword _ tt h)
recognised forms.End text h = WithoutCondition (OfKeyword _ tt h)

conditional_by : (P : Form77 → Type 0) (text condition rest : List Symbol77) (f : Form77) → IsConditional text condition rest
    → ((c r : List Symbol77) → IsConditional text c r → (condition ≡ c) × (rest ≡ r)) → ((g : Form77) → IsBehindIf condition rest g → P g) → IsRecognised text f → P f
conditional_by P text condition rest f k only p (WithCondition c r h b) =
    let e = only c r h in
    p f (subst (λ (q : List Symbol77). IsBehindIf q rest f) (sym e.0) (subst (λ (q : List Symbol77). IsBehindIf c q f) (sym e.1) b))
conditional_by P text condition rest f k only p (WithoutCondition u) = absurd (no_condition text f u condition rest k)

-- with a condition, it is what stands behind it
pub is_conditional : (P : Form77 → Type 0) (text condition rest : List Symbol77) (f : Form77) → IsConditional text condition rest
    → ((c r : List Symbol77) → IsConditional text c r → (condition ≡ c) × (rest ≡ r)) → ((g : Form77) → IsBehindIf condition rest g → P g) → IsWritten77 f text → P f
is_conditional P text condition rest f k only p h = conditional_by P text condition rest f k only p (recognised f text h)

unconditional_by : (P : Form77 → Type 0) (text : List Symbol77) (f : Form77) → ((c r : List Symbol77) → IsConditional text c r → ⊥) → ((g : Form77) → IsUnconditional text g → P g) → IsRecognised text f → P f
unconditional_by P text f never p (WithCondition c r h b) = absurd (never c r h)
unconditional_by P text f never p (WithoutCondition u) = p f u

pub is_unconditional : (P : Form77 → Type 0) (text : List Symbol77) (f : Form77) → ((c r : List Symbol77) → IsConditional text c r → ⊥) → ((g : Form77) → IsUnconditional text g → P g) → IsWritten77 f text → P f
is_unconditional P text f never p h = unconditional_by P text f never p (recognised f text h)

-- the text is the condition in its parentheses, and what follows
cut_text : (text condition rest : List Symbol77) → IsConditional text condition rest → text ≡ chars77 (codes "IF(") ++ (condition ++ Char 41 ∷ rest)
cut_text text condition rest k =
    k.begins ∙ ap (λ (q : List Symbol77). chars77 (codes "IF(") ++ q) (cut_is k.opened 0 (record { inside = condition; behind = rest }) k.cut)

pub conditional_written : (text condition rest : List Symbol77) (f : Form77) → IsConditional text condition rest → IsBehindIf condition rest f → IsWritten77 f text
conditional_written text condition rest f k (Block p w good t) =
    (condition, cut_text text condition rest k ∙ ap (λ (q : List Symbol77). chars77 (codes "IF(") ++ (condition ++ Char 41 ∷ q)) t, w, good)
conditional_written text condition rest f k (Logical p g w good h i) = (condition, rest, cut_text text condition rest k, w, good, h, i)

-- ---- what is found

pub found_behind : (k : Keyword) (text rest : List Symbol77) (r : Result Formed Stop) → keyword_at text ≡ Some (record { keyword = k; rest = rest }) → IfOk r (IsFound (IsAfter k rest)) → IfOk r (IsFound (λ f. IsWritten77 f text))
found_behind k text rest (Ok made) e h = record { form = h.form; is = keyword_written k text rest h.form e h.is; made_of = h.made_of }
found_behind k text rest (Err s) e h = tt

same_front : (a b : Front) → Some a ≡ Some b → a ≡ b
same_front a b e = cc

pub after_keyword : (k : Keyword) (text rest : List Symbol77) (f : Form77) → keyword_at text ≡ Some (record { keyword = k; rest = rest }) → HasKeyword f → IsWritten77 f text → IsAfter k rest f
after_keyword k text rest f e w h =
    let b = behind_keyword f w text h in
    subst (λ (q : Front). IsAfter q.keyword q.rest f) (same_front b.front (record { keyword = k; rest = rest }) (sym b.found ∙ e)) b.after

pub no_keyword : (text : List Symbol77) (f : Form77) → keyword_at text ≡ None → HasKeyword f → IsWritten77 f text → ⊥
no_keyword text f e w h = let b = behind_keyword f w text h in let s = b.found in let z : ⊥ = cc in z

pub found_conditional : (text condition rest : List Symbol77) (r : Result Formed Stop) → IsConditional text condition rest → IfOk r (IsFound (IsBehindIf condition rest)) → IfOk r (IsFound (λ f. IsWritten77 f text))
found_conditional text condition rest (Ok made) k h = record { form = h.form; is = conditional_written text condition rest h.form k h.is; made_of = h.made_of }
found_conditional text condition rest (Err s) k h = tt

pub inner_found : (text : List Symbol77) (made : Formed) (b : Bool) → IsFound (λ f. IsWritten77 f text) made → b ≡ is_inner (view.statement_of made.statement) → b ≡ true → IsFound (λ f. IsWritten77 f text × IsInner77 f) made
inner_found text made b h e t = record { form = h.form; is = (h.is, inner_is h.form (sym (ap is_inner h.made_of.statement) ∙ (sym e ∙ t))); made_of = h.made_of }

pub inner_refused : (made : Formed) (b : Bool) (f : Form77) → IsFormedOf made f → b ≡ is_inner (view.statement_of made.statement) → b ≡ false → IsInner77 f → ⊥
inner_refused made b f h e n k = opposite b (e ∙ (ap is_inner h.statement ∙ inner_of f k)) n

-- ---- what is made of it

pub block_made : (p : Phrase77) (t : Expr) (d : ℕ) (wide : Bool) → IsConditionOf (expression_of t) d wide p → IsFormedOf (record { statement = stmts.If t; wide = wide; depth = d }) (forms.If p)
block_made p t d wide h = record { statement = statement_of-if t ∙ ap statement.If h.tree_is; wide = h.wide_is; depth = h.depth_is }

pub block_found : (condition rest : List Symbol77) (t : Expr) (d : ℕ) (wide : Bool) → IsCondition condition (expression_of t) d wide → rest ≡ chars77 (codes "THEN")
    → IsFound (IsBehindIf condition rest) (record { statement = stmts.If t; wide = wide; depth = d })
block_found condition rest t d wide h e = record { form = forms.If h.phrase; is = Block h.phrase h.spelled h.good e; made_of = block_made h.phrase t d wide h.is }

pub block_only : (condition rest : List Symbol77) (t : Expr) (d : ℕ) (wide : Bool) (f : Form77) → ((p : Phrase77) → IsExpression77 p → AreWords77 condition (written77 p) → IsConditionOf (expression_of t) d wide p)
    → rest ≡ chars77 (codes "THEN") → IsBehindIf condition rest f → IsFormedOf (record { statement = stmts.If t; wide = wide; depth = d }) f
block_only condition rest t d wide f only e (Block p w good s) = block_made p t d wide (only p good w)
block_only condition rest t d wide f only e (Logical p g w good h i) = absurd (no_then rest g e h i)

-- who gives up at the condition
pub condition_err : (condition rest : List Symbol77) (f : Form77) (e : Stop) (P : Phrase77 → Expr × ℕ × Bool → Type 0) (Q : Form77 → Formed → Type 0)
    → ((p : Phrase77) → IsExpression77 p → AreWords77 condition (written77 p) → Given (Err e) (P p)) → IsBehindIf condition rest f → Given (Err e) (Q f)
condition_err condition rest f e P Q only (Block p w good s) = given_err (P p) (Q (forms.If p)) e (only p good w)
condition_err condition rest f e P Q only (Logical p g w good h i) = given_err (P p) (Q (forms.Test p g)) e (only p good w)

-- and at the inner statement
pub inner_err : (condition rest : List Symbol77) (f : Form77) (e : Stop) (P Q : Form77 → Formed → Type 0) → (rest ≡ chars77 (codes "THEN") → ⊥)
    → ((g : Form77) → IsWritten77 g rest → IsInner77 g → Given (Err e) (P g)) → IsBehindIf condition rest f → Given (Err e) (Q f)
inner_err condition rest f e P Q never only (Block p w good s) = absurd (never s)
inner_err condition rest f e P Q never only (Logical p g w good h i) = given_err (P g) (Q (forms.Test p g)) e (only g h i)

pub or_first : (a b w : Bool) → a ≡ true → w ≡ a → w ≡ a || b
or_first a b w e k = k ∙ (e ∙ ap (λ (q : Bool). q || b) (sym e))

pub or_second : (a b w : Bool) → a ≡ false → w ≡ b → w ≡ a || b
or_second a b w e k = k ∙ ap (λ (q : Bool). q || b) (sym e)

pub test_made : (t : Expr) (d : ℕ) (wide : Bool) (inner : Formed) (b : Box Stmt77 Global) (w : Bool) (m : ℕ) (p : Phrase77) (f : Form77) → b.value ≡ inner.statement → w ≡ wide || inner.wide → m ≡ max d inner.depth
    → IsConditionOf (expression_of t) d wide p → IsFormedOf inner f → IsFormedOf (record { statement = stmts.Test t b; wide = w; depth = m }) (forms.Test p f)
test_made t d wide inner b w m p f e k n h i =
    record {
      statement = statement_of-test t b
          ∙ (ap (λ (q : Expression). statement.Test q (view.statement_of b.value)) h.tree_is
          ∙ ap (λ (q : Statement77). statement.Test (tree77_of p) q) (ap view.statement_of e ∙ i.statement));
      wide = k ∙ (ap (λ (q : Bool). q || inner.wide) h.wide_is ∙ (ap (λ (q : Bool). list_any is_wide_word (written77 p) || q) i.wide ∙ sym (any_append is_wide_word (written77 p) (form_words f))));
      depth = n ∙ (ap (λ (q : ℕ). max q inner.depth) h.depth_is ∙ (ap (max (capped (phrase_depth77 p))) i.depth ∙ capped_max (phrase_depth77 p) (form_depth f)));
    }

pub test_found : (condition rest : List Symbol77) (t : Expr) (d : ℕ) (wide : Bool) (inner : Formed) (r : Result Formed Stop) → IsCondition condition (expression_of t) d wide
    → IsFound (λ f. IsWritten77 f rest × IsInner77 f) inner
    → ((p : Phrase77) (f : Form77) → IsConditionOf (expression_of t) d wide p → IsFormedOf inner f → Given r (λ made. IsFormedOf made (forms.Test p f)))
    → IfOk r (IsFound (IsBehindIf condition rest))
test_found condition rest t d wide inner (Ok made) h i m =
    record { form = forms.Test h.phrase i.form; is = Logical h.phrase i.form h.spelled h.good i.is.0 i.is.1; made_of = m h.phrase i.form h.is i.made_of }
test_found condition rest t d wide inner (Err s) h i m = tt

pub test_only : (condition rest : List Symbol77) (t : Expr) (d : ℕ) (wide : Bool) (inner : Formed) (r : Result Formed Stop) (f : Form77) → (rest ≡ chars77 (codes "THEN") → ⊥)
    → ((p : Phrase77) → IsExpression77 p → AreWords77 condition (written77 p) → IsConditionOf (expression_of t) d wide p)
    → ((g : Form77) → IsWritten77 g rest → IsInner77 g → IsFormedOf inner g)
    → ((p : Phrase77) (g : Form77) → IsConditionOf (expression_of t) d wide p → IsFormedOf inner g → Given r (λ made. IsFormedOf made (forms.Test p g)))
    → IsBehindIf condition rest f → Given r (λ made. IsFormedOf made f)
test_only condition rest t d wide inner r f never only inside m (Block p w good s) = absurd (never s)
test_only condition rest t d wide inner r f never only inside m (Logical p g w good h i) = m p g (only p good w) (inside g h i)

-- ---- tests

pub negated : (b : Bool) → not b ≡ true → b ≡ false
negated true e = cc
negated false e = refl

pub affirmed : (b : Bool) → not b ≡ false → b ≡ true
affirmed true e = refl
affirmed false e = cc
