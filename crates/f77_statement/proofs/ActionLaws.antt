-- Statements behind their keywords: jumps, conditions, reading and printing.
use Rattle.std.proofs.Common.{◌≡◌, ℕ, zero, suc, List, [], ◌∷◌, ◌++◌, map, ap, sym, ◌∙◌, refl, append-nil, Bool, true, false, subst, codes}
use Rattle.std.specs.Prelude.{Option, Some, None, ◌==◌}
use Rattle.std.specs.List.{list_any}
use Rattle.std.proofs.lemmas.Bool.{eqb-true}
use Rattle.tree.specs.Plain as tree
use Rattle.tree.specs.View.{expression_of, item_of}
use Rattle.tree.specs.declared.exprs.Expr.{Expr}
use Rattle.tree.specs.declared.stmts.Item.{Item}
use Rattle.tree.specs.declared.lists.Seq.{Seq}
use Rattle.f77_grammar.specs.Statement77 as statement
use Rattle.f77_grammar.specs.Statement77.{Statement77}
use Rattle.f77_grammar.specs.expressions.Phrases as phrases
use Rattle.f77_grammar.specs.expressions.Phrases.{Phrase77, IsExpression77, written77}
use Rattle.f77_grammar.specs.expressions.Words.{is_wide_word}
use Rattle.f77_grammar.specs.expressions.Spelling.{AreWords77, value, chars77}
use Rattle.f77_grammar.specs.expressions.Squeezing.{Symbol77, Char}
use Rattle.f77_grammar.specs.expressions.Words.{Word77}
use Rattle.f77_grammar.specs.statements.Items as items
use Rattle.f77_grammar.specs.statements.Items.{ItemPhrases77, written_items77}
use Rattle.f77_grammar.specs.declared.directions.Direction.TheVariants.{Input, Output}
use Rattle.f77_grammar.specs.statements.Forms as forms
use Rattle.f77_grammar.specs.statements.Forms.{Form77, IsLabel77, statement_of, form_words, form_depth}
use Rattle.f77_grammar.specs.statements.Recognition.{Halves, Bracket, Opening, Closing, Neither, bracket_in, bracket_of, with_symbol, cut_by, cut_from, cut_at_close}
use Rattle.f77_grammar.specs.syntax.Views as view
use Rattle.f77_grammar.specs.declared.syntax.statements.Stmt77.TheVariants as stmts
use Rattle.f77_grammar.proofs.syntax.Equations.{statement_of-go, statement_of-else_if, statement_of-read, statement_of-print}
use Rattle.f77_expressions.proofs.WordsLaws.{has_none, has_only}
use Rattle.f77_words.specs.declared.lists.lists.ItemList.{ItemList}
use Rattle.f77_words.specs.lists.Reading as reading
use Rattle.f77_words.specs.keywords.Fronts.{IsLabelled}
use Rattle.f77_words.proofs.keywords.Recognised.{recognised_if}
use Rattle.f77_statement.specs.declared.formed.Formed.{Formed}
use Rattle.f77_statement.specs.Actions.{IsCondition, IsConditionOf}
use Rattle.f77_statement.specs.Formed.{IsFound}
use Rattle.f77_statement.specs.Keywords.{IsGoToAfter, IsElseIfAfter, IsReadAfter, IsPrintAfter}
use Rattle.f77_statement.specs.Parts.{IsFormedOf}

-- what is made of a statement without expressions
abbrev pub IsBare : Statement77 → Formed → Type 0
IsBare s made = (f : Form77) → s ≡ statement_of f → form_words f ≡ [] → form_depth f ≡ 0 → IsFormedOf made f

-- ---- GO TO

pub go_label : (text : List Symbol77) (l : List ℕ) → text ≡ chars77 l → IsLabel77 l → IsLabelled text (value l) []
go_label text l e h = record { label = l; is_label = h; same = e ∙ sym (append-nil (chars77 l)); number_is = refl; whole = tt }

pub go_made : (number : ℕ) (l : List ℕ) (made : Formed) → number ≡ value l → IsBare (view.statement_of (stmts.Go number)) made → IsFormedOf made (forms.Go l)
go_made number l made e b = b (forms.Go l) (statement_of-go number ∙ ap statement.Go e) refl refl

pub go_found : (text rest : List Symbol77) (number : ℕ) (made : Formed) → IsLabelled text number rest → rest ≡ [] → IsBare (view.statement_of (stmts.Go number)) made → IsFound (IsGoToAfter text) made
go_found text rest number made h e b =
    record {
      form = forms.Go h.label;
      is = (h.label, refl, h.same ∙ ap (λ (q : List Symbol77). chars77 h.label ++ q) e ∙ append-nil (chars77 h.label), h.is_label);
      made_of = go_made number h.label made (sym h.number_is) b;
    }

-- ---- ELSE IF

-- what is cut at a closing parenthesis is what stands on its two sides
abbrev pub IsCut : List Symbol77 → Halves → Type 0
IsCut text h = text ≡ h.inside ++ (Char 41 ∷ h.behind)

the_same : (h k : Halves) → Some h ≡ Some k → h ≡ k
the_same h k e = cc

bracket_closing : (a b : Bool) → bracket_in a b ≡ Closing → b ≡ true
bracket_closing true b e = cc
bracket_closing false true e = refl
bracket_closing false false e = cc

closing_is : (s : Symbol77) → bracket_of s ≡ Closing → s ≡ Char 41
closing_is (Char c) e = ap Char (eqb-true c 41 (bracket_closing (c == 40) (c == 41) e))
closing_is s e = cc

cut_with : (s : Symbol77) (ss : List Symbol77) (o : Option Halves) (h : Halves) → ((k : Halves) → o ≡ Some k → IsCut ss k) → with_symbol s o ≡ Some h → IsCut (s ∷ ss) h
cut_with s ss None h on e = cc
cut_with s ss (Some k) h on e =
    let f : record { inside = s ∷ k.inside; behind = k.behind } ≡ h = the_same _ h e in
    subst (IsCut (s ∷ ss)) f (ap (λ (q : List Symbol77). s ∷ q) (on k refl))

cut_one : (b : Bracket) (s : Symbol77) (ss : List Symbol77) (n : ℕ) (h : Halves) → bracket_of s ≡ b → ((m : ℕ) (k : Halves) → cut_from ss m ≡ Some k → IsCut ss k) → cut_by b s ss (cut_from ss) n ≡ Some h → IsCut (s ∷ ss) h
cut_one Opening s ss n h b on e = cut_with s ss (cut_from ss (suc n)) h (on (suc n)) e
cut_one Neither s ss n h b on e = cut_with s ss (cut_from ss n) h (on n) e
cut_one Closing s ss zero h b on e =
    let f : record { inside = []; behind = ss } ≡ h = the_same _ h e in
    subst (IsCut (s ∷ ss)) f (ap (λ (q : Symbol77). q ∷ ss) (closing_is s b))
cut_one Closing s ss (suc n) h b on e = cut_with s ss (cut_from ss n) h (on n) e

pub cut_is : (text : List Symbol77) (n : ℕ) (h : Halves) → cut_from text n ≡ Some h → IsCut text h
cut_is [] n h e = cc
cut_is (s ∷ ss) n h e = cut_one (bracket_of s) s ss n h refl (λ m k f. cut_is ss m k f) e

-- a condition is cut at the parenthesis behind it
cut_condition : (p : Phrase77) (e : List Symbol77) → AreWords77 e (written77 p) → IsExpression77 p → cut_at_close (e ++ chars77 (codes ")THEN")) ≡ Some (record { inside = e; behind = chars77 (codes "THEN") })
cut_condition p e w g =
    let r = recognised_if p (chars77 (codes "IF(") ++ (e ++ chars77 (codes ")THEN"))) (e, refl, w, g) in
    let b : Char 73 ∷ (Char 70 ∷ (Char 40 ∷ (e ++ chars77 (codes ")THEN")))) ≡ Char 73 ∷ (Char 70 ∷ (Char 40 ∷ r.opened)) = r.begins in
    let o : e ++ chars77 (codes ")THEN") ≡ r.opened = cc in
    ap cut_at_close o ∙ r.cut

pub cut_text : (text : List Symbol77) (p : Phrase77) (e : List Symbol77) → text ≡ e ++ chars77 (codes ")THEN") → AreWords77 e (written77 p) → IsExpression77 p → cut_at_close text ≡ Some (record { inside = e; behind = chars77 (codes "THEN") })
cut_text text p e s w g = ap cut_at_close s ∙ cut_condition p e w g

pub no_cut : (text : List Symbol77) (f : Form77) → None ≡ cut_at_close text → IsElseIfAfter text f → ⊥
no_cut text f c h = let k = c ∙ cut_text text h.0 h.1 h.3 h.4 h.5 in let z : ⊥ = cc in z

-- both halves are those of the form
pub record AreHalves (inside behind e : List Symbol77) : Type 0 where
  pub inside_is : inside ≡ e
  pub behind_is : behind ≡ chars77 (codes "THEN")

pub the_halves : (text inside behind : List Symbol77) (f : Form77) → Some (record { inside = inside; behind = behind }) ≡ cut_at_close text → (h : IsElseIfAfter text f) → AreHalves inside behind h.1
the_halves text inside behind f c h =
    let k = the_same (record { inside = inside; behind = behind }) (record { inside = h.1; behind = chars77 (codes "THEN") }) (c ∙ cut_text text h.0 h.1 h.3 h.4 h.5) in
    record { inside_is = ap (λ (q : Halves). q.inside) k; behind_is = ap (λ (q : Halves). q.behind) k }

pub else_if_made : (p : Phrase77) (t : Expr) (d : ℕ) (wide : Bool) → IsConditionOf (expression_of t) d wide p → IsFormedOf (record { statement = stmts.ElseIf t; wide = wide; depth = d }) (forms.ElseIf p)
else_if_made p t d wide h = record { statement = statement_of-else_if t ∙ ap statement.ElseIf h.tree_is; wide = h.wide_is; depth = h.depth_is }

pub else_if_found : (text inside behind : List Symbol77) (t : Expr) (d : ℕ) (wide : Bool) → Some (record { inside = inside; behind = behind }) ≡ cut_at_close text → behind ≡ chars77 (codes "THEN")
    → IsCondition inside (expression_of t) d wide → IsFound (IsElseIfAfter text) (record { statement = stmts.ElseIf t; wide = wide; depth = d })
else_if_found text inside behind t d wide c e h =
    let s = cut_is text 0 (record { inside = inside; behind = behind }) (sym c) in
    record {
      form = forms.ElseIf h.phrase;
      is = (h.phrase, inside, refl, s ∙ ap (λ (q : List Symbol77). inside ++ (Char 41 ∷ q)) e, h.spelled, h.good);
      made_of = else_if_made h.phrase t d wide h.is;
    }

-- ---- READ and PRINT

no_behind : (xs : List Word77) (w : Word77) (ys : List Word77) → xs ++ (w ∷ ys) ≡ [] → ⊥
no_behind [] w ys e = cc
no_behind (x ∷ xs) w ys e = cc

some_written : (p : Phrase77) → written77 p ≡ [] → ⊥
some_written (phrases.Literal n) e = cc
some_written phrases.WideLiteral e = cc
some_written (phrases.Truth b) e = cc
some_written (phrases.Name x) e = cc
some_written (phrases.Listed x ps) e = cc
some_written (phrases.Paren p) e = cc
some_written (phrases.Signed s p) e = cc
some_written (phrases.Joined o a b) e = no_behind (written77 a) _ _ e

some_item : (is : ItemPhrases77) → written_items77 is ≡ [] → ⊥
some_item (items.Sole (items.Value p)) e = some_written p e
some_item (items.Sole (items.Text t)) e = cc
some_item (items.Sole (items.Loop is c)) e = cc
some_item (items.More is i) e = no_behind (written_items77 is) _ _ e

-- nothing is no list
pub no_list : (text : List Symbol77) (is : ItemPhrases77) → text ≡ [] → AreWords77 text (written_items77 is) → ⊥
no_list text is e h = some_item is (sym (has_only text [] text _ e (has_none text) h))

pub read_made : (is : ItemPhrases77) (ws : List Word77) (l : ItemList) (wide : Bool) → reading.IsMadeOf l is → ws ≡ written_items77 is → wide ≡ list_any is_wide_word ws
    → IsFormedOf (record { statement = stmts.Read l.items; wide = wide; depth = l.depth }) (forms.Read is)
read_made is ws l wide h e w =
    record { statement = statement_of-read l.items ∙ ap (λ (q : List tree.Item). statement.Read (tree.items q)) h.trees; wide = w ∙ ap (list_any is_wide_word) e; depth = h.depth }

pub read_found : (text : List Symbol77) (ws : List Word77) (l : ItemList) (wide : Bool) → AreWords77 text ws → reading.Is Input ws l → wide ≡ list_any is_wide_word ws
    → IsFound (IsReadAfter text) (record { statement = stmts.Read l.items; wide = wide; depth = l.depth })
read_found text ws l wide t h w =
    record { form = forms.Read h.phrases; is = (h.phrases, refl, subst (AreWords77 text) h.same t, h.good); made_of = read_made h.phrases ws l wide h.is h.same w }

pub print_made : (is : ItemPhrases77) (ws : List Word77) (l : ItemList) (wide : Bool) → reading.IsMadeOf l is → ws ≡ written_items77 is → wide ≡ list_any is_wide_word ws
    → IsFormedOf (record { statement = stmts.Print l.items; wide = wide; depth = l.depth }) (forms.Print is)
print_made is ws l wide h e w =
    record { statement = statement_of-print l.items ∙ ap (λ (q : List tree.Item). statement.Print (tree.items q)) h.trees; wide = w ∙ ap (list_any is_wide_word) e; depth = h.depth }

pub print_found : (text : List Symbol77) (ws : List Word77) (l : ItemList) (wide : Bool) → AreWords77 text ws → reading.Is Output ws l → wide ≡ list_any is_wide_word ws
    → IsFound (IsPrintAfter text) (record { statement = stmts.Print l.items; wide = wide; depth = l.depth })
print_found text ws l wide t h w =
    record { form = forms.Print h.phrases; is = (h.phrases, refl, subst (AreWords77 text) h.same t, h.good); made_of = print_made h.phrases ws l wide h.is h.same w }

pub read_nothing : (s : Seq Item) → s ≡ [] → view.statement_of (stmts.Read s) ≡ statement.Read tree.no_items
read_nothing s e = statement_of-read s ∙ ap (λ (q : List Item). statement.Read (tree.items (map item_of q))) e

pub print_nothing : (s : Seq Item) → s ≡ [] → view.statement_of (stmts.Print s) ≡ statement.Print tree.no_items
print_nothing s e = statement_of-print s ∙ ap (λ (q : List Item). statement.Print (tree.items (map item_of q))) e

pub ruleset reads = (read_found, read_made)

pub ruleset prints = (print_found, print_made)
