-- DO statements.
use Rattle.std.proofs.Common.{◌≡◌, ℕ, Bool, true, false, List, [], ◌∷◌, ◌++◌, refl, ap, sym, ◌∙◌, subst, append_assoc, codes, IsTrue, arith}
use Rattle.std.specs.Prelude.{Option, Some, None, ◌==◌}
use Rattle.std.specs.List.{list_any}
use Rattle.std.proofs.lemmas.Bool.{eqb-true}
use Rattle.std.proofs.lemmas.Bool.Decides.{nat_tests}
use Rattle.std.proofs.lemmas.List.{map-append}
use Rattle.tree.specs.View.{expression_of}
use Rattle.f77_grammar.specs.Statement77 as statement
use Rattle.f77_grammar.specs.expressions.Words.{is_wide_word}
use Rattle.f77_grammar.specs.expressions.Spelling.{IsName77, AreWords77, Begins77, Stops77, chars77, value}
use Rattle.reading.specs.Characters.{is_digit, is_letter, IsDigits}
use Rattle.f77_grammar.specs.expressions.Squeezing.{Symbol77, Char, Text, Broken}
use Rattle.f77_grammar.specs.expressions.Words as words
use Rattle.f77_grammar.specs.expressions.Words.{Word77}
use Rattle.f77_grammar.specs.statements.Forms as forms
use Rattle.f77_grammar.specs.statements.Forms.{IsWritten77, IsLabel77, optional_comma}
use Rattle.f77_grammar.specs.statements.Controls.{Control, written_control}
use Rattle.f77_grammar.specs.statements.Recognition.{BeginsWithLetter}
use Rattle.f77_expressions.specs.Lexing.{strip}
use Rattle.f77_words.specs.keywords.Fronts.{IsLabelled}
use Rattle.f77_words.specs.keywords.FormsLeftOut.{without_comma, without_comma_by}
use Rattle.f77_words.proofs.keywords.Stripping.{strip_same, stripped}
use Rattle.f77_grammar.specs.declared.syntax.statements.Stmt77.TheVariants as stmts
use Rattle.f77_grammar.proofs.syntax.Equations.{statement_of-do}
use Rattle.f77_words.specs.declared.lists.controls.DoControl.{DoControl}
use Rattle.f77_words.specs.lists.Reading.{IsControlOf, IsWholeControl}
use Rattle.f77_statement.specs.declared.formed.Formed.{Formed}
use Rattle.f77_statement.specs.Formed.{IsFound}
use Rattle.f77_statement.specs.Loops.{IsLoopFront, IsFront}
use Rattle.f77_statement.specs.Parts.{IsFormedOf}

-- ---- a comma that may be left out

pub record HasComma (text : List Symbol77) : Type 0 where
  pub comma : Bool
  pub same : text ≡ chars77 (optional_comma comma) ++ without_comma text

comma_by : (t : Bool) (c : ℕ) (ss : List Symbol77) → (44 == c) ≡ t → without_comma (Char c ∷ ss) ≡ without_comma_by t (Char c) ss → HasComma (Char c ∷ ss)
comma_by true c ss k e = let m : 44 ≡ c = eqb-true 44 c k in record { comma = true; same = ap (λ (q : ℕ). Char q ∷ ss) (sym m) ∙ ap (λ (q : List Symbol77). Char 44 ∷ q) (sym e) }
comma_by false c ss k e = record { comma = false; same = sym e }

pub has_comma : (text : List Symbol77) → HasComma text
has_comma [] = record { comma = false; same = refl }
has_comma (Char c ∷ ss) = comma_by (44 == c) c ss refl refl
has_comma (Text t ∷ ss) = record { comma = false; same = refl }
has_comma (Broken ∷ ss) = record { comma = false; same = refl }

letter_no_comma : (c : ℕ) → IsTrue (is_letter c) → (44 == c) ≡ false
letter_no_comma c h = grind (arith, nat_tests)

letter_no_digit : (c : ℕ) → IsTrue (is_letter c) → is_digit c ≡ false
letter_no_digit c h = grind (arith, nat_tests)

pub comma_gone : (b : Bool) (rest : List Symbol77) → BeginsWithLetter rest → without_comma (chars77 (optional_comma b) ++ rest) ≡ rest
comma_gone true rest h = refl
comma_gone false [] h = absurd h
comma_gone false (Char c ∷ ss) h = ap (λ (t : Bool). without_comma_by t (Char c) ss) (letter_no_comma c h)
comma_gone false (Text t ∷ ss) h = absurd h
comma_gone false (Broken ∷ ss) h = absurd h

label_ends : (b : Bool) (rest : List Symbol77) → BeginsWithLetter rest → Stops77 is_digit (chars77 (optional_comma b) ++ rest)
label_ends true rest h = refl
label_ends false [] h = absurd h
label_ends false (Char c ∷ ss) h = letter_no_digit c h
label_ends false (Text t ∷ ss) h = absurd h
label_ends false (Broken ∷ ss) h = absurd h

-- ---- the front

spread : (digits comma : List ℕ) (rest : List Symbol77) → chars77 (digits ++ comma) ++ rest ≡ chars77 digits ++ (chars77 comma ++ rest)
spread digits comma rest = ap (λ (q : List Symbol77). q ++ rest) (map-append Char digits comma) ∙ append_assoc (chars77 digits) (chars77 comma) rest

pub front_found : (text rest more : List Symbol77) (number : ℕ) → strip (codes "DO") text ≡ Some rest → IsLabelled rest number more → IsLoopFront text number (without_comma more)
front_found text rest more number e h =
    let k = has_comma more in
    record {
      label = h.label;
      comma = k.comma;
      is_label = h.is_label;
      number_is = h.number_is;
      same = strip_same (codes "DO") text rest e
          ∙ ap (λ (q : List Symbol77). chars77 (codes "DO") ++ q) (h.same ∙ (ap (λ (q : List Symbol77). chars77 h.label ++ q) k.same ∙ sym (spread h.label (optional_comma k.comma) (without_comma more))));
    }

pub front_stripped : (text rest : List Symbol77) (digits : List ℕ) (comma : Bool) → text ≡ chars77 (codes "DO" ++ (digits ++ optional_comma comma)) ++ rest
    → strip (codes "DO") text ≡ Some (chars77 digits ++ (chars77 (optional_comma comma) ++ rest))
front_stripped text rest digits comma e = stripped (codes "DO") text _ (e ∙ ap (λ (q : List Symbol77). chars77 (codes "DO") ++ q) (spread digits (optional_comma comma) rest))

pub front_labelled : (rest : List Symbol77) (digits : List ℕ) (comma : Bool) → IsLabel77 digits → BeginsWithLetter rest → IsLabelled (chars77 digits ++ (chars77 (optional_comma comma) ++ rest)) (value digits) (chars77 (optional_comma comma) ++ rest)
front_labelled rest digits comma l b = record { label = digits; is_label = l; same = refl; number_is = refl; whole = label_ends comma rest b }

some_same : (a b : List Symbol77) → Some a ≡ Some b → a ≡ b
some_same a b e = cc

-- what follows DO is that label
pub front_label : (text more rest : List Symbol77) (digits : List ℕ) (comma : Bool) → strip (codes "DO") text ≡ Some more → IsLabel77 digits → BeginsWithLetter rest
    → text ≡ chars77 (codes "DO" ++ (digits ++ optional_comma comma)) ++ rest → IsLabelled more (value digits) (chars77 (optional_comma comma) ++ rest)
front_label text more rest digits comma s l b e =
    subst (λ (q : List Symbol77). IsLabelled q (value digits) (chars77 (optional_comma comma) ++ rest)) (some_same _ more (sym (front_stripped text rest digits comma e) ∙ s)) (front_labelled rest digits comma l b)

-- ---- without a label

pub plain_stripped : (text more rest : List Symbol77) → strip (codes "DO") text ≡ Some more → text ≡ chars77 (codes "DO") ++ rest → more ≡ rest
plain_stripped text more rest s e = some_same more rest (sym s ∙ stripped (codes "DO") text rest e)

digits_begin : (digits : List ℕ) (rest : List Symbol77) → IsDigits digits → BeginsWithLetter (chars77 digits ++ rest) → ⊥
digits_begin [] rest d h = d
digits_begin (c ∷ cs) rest d h = let z : true ≡ false = sym d.0 ∙ letter_no_digit c h in cc

-- what begins with a letter has no label
pub letter_no_label : (more rest : List Symbol77) (number : ℕ) → BeginsWithLetter more → IsLabelled more number rest → ⊥
letter_no_label more rest number b h = digits_begin h.label rest h.is_label.0 (subst BeginsWithLetter h.same b)

-- ---- the whole

name_begins : (x : List ℕ) (rest : List Symbol77) → IsName77 x → BeginsWithLetter (chars77 x ++ rest)
name_begins [] rest n = absurd n
name_begins (c ∷ cs) rest n = n.0

text_of_name : (x : List ℕ) (text rest : List Symbol77) → Begins77 text (words.Name x) rest → text ≡ chars77 x ++ rest
text_of_name x text rest b = b.same ∙ ap (λ (q : List Symbol77). q ++ rest) (b.spelled.1 ∙ ap chars77 b.spelled.2.0)

pub control_begins : (c : Control) (text : List Symbol77) → AreWords77 text (written_control c) → BeginsWithLetter text
control_begins c text h = subst BeginsWithLetter (sym (text_of_name c.variable text h.0 h.1)) (name_begins c.variable h.0 h.1.spelled.2.1)

pub formed_loop : (label : Option ℕ) (k : DoControl) (wide : Bool) (digits : List ℕ) (comma : Bool) (c : Control) → label ≡ Some (value digits) → IsControlOf k c → wide ≡ list_any is_wide_word (written_control c)
    → IsFormedOf (record { statement = stmts.Do label k.variable k.first k.last k.step; wide = wide; depth = k.depth }) (forms.Do digits comma c)
formed_loop label k wide digits comma c n h w =
    let s : statement.Do label k.variable (expression_of k.first) (expression_of k.last) (expression_of k.step) ≡ forms.statement_of (forms.Do digits comma c) =
    rw (n, h.variable, h.first, h.last, h.step) refl in
    record { statement = statement_of-do label k.variable k.first k.last k.step ∙ s; wide = w; depth = h.depth }

pub formed_plain : (label : Option ℕ) (k : DoControl) (wide : Bool) (c : Control) → label ≡ None → IsControlOf k c → wide ≡ list_any is_wide_word (written_control c)
    → IsFormedOf (record { statement = stmts.Do label k.variable k.first k.last k.step; wide = wide; depth = k.depth }) (forms.PlainDo c)
formed_plain label k wide c n h w =
    let s : statement.Do label k.variable (expression_of k.first) (expression_of k.last) (expression_of k.step) ≡ forms.statement_of (forms.PlainDo c) =
    rw (n, h.variable, h.first, h.last, h.step) refl in
    record { statement = statement_of-do label k.variable k.first k.last k.step ∙ s; wide = w; depth = h.depth }

pub loop_found : (text rest : List Symbol77) (label : Option ℕ) (ws : List Word77) (k : DoControl) (wide : Bool) (made : Formed) → IsFront text label rest → AreWords77 rest ws → IsWholeControl ws k
    → wide ≡ list_any is_wide_word ws
    → ((digits : List ℕ) (comma : Bool) (c : Control) → label ≡ Some (value digits) → IsControlOf k c → wide ≡ list_any is_wide_word (written_control c) → IsFormedOf made (forms.Do digits comma c))
    → ((c : Control) → label ≡ None → IsControlOf k c → wide ≡ list_any is_wide_word (written_control c) → IsFormedOf made (forms.PlainDo c))
    → IsFound (λ f. IsWritten77 f text) made
loop_found text rest None ws k wide made f t h w m p =
    record {
      form = forms.PlainDo h.control;
      is = ((rest, f, subst (AreWords77 rest) h.same t), h.good);
      made_of = p h.control refl h.is (w ∙ ap (list_any is_wide_word) h.same);
    }
loop_found text rest (Some number) ws k wide made f t h w m p =
    record {
      form = forms.Do f.label f.comma h.control;
      is = ((rest, f.same, subst (AreWords77 rest) h.same t), f.is_label, h.good);
      made_of = m f.label f.comma h.control (ap Some (sym f.number_is)) h.is (w ∙ ap (list_any is_wide_word) h.same);
    }
