-- A text has one form, or none.
use Rattle.std.proofs.Common.{◌≡◌, inl, inr, ℕ, List, [], ◌∷◌, ◌++◌, refl, ap, sym, ◌∙◌, subst, append-nil, true, false, Bool, codes, ◌||◌}
use Rattle.std.specs.Prelude.{◌⊎◌, Option, Some, None}
use Rattle.std.specs.List.{list_any}
use Rattle.tree.specs.Plain as plain
use Rattle.tree.specs.Plain.{Expression}
use Rattle.tree.specs.declared.ops.Kind.{Kind}
use Rattle.tree.specs.declared.ops.Kind.TheVariants as kinds
use Rattle.f77_grammar.specs.Statement77 as statement
use Rattle.f77_grammar.specs.Statement77.{Statement77}
use Rattle.f77_grammar.specs.expressions.Phrases.{Phrase77, written77, tree77_of, phrase_depth77}
use Rattle.f77_grammar.specs.expressions.Words.{is_wide_word}
use Rattle.f77_grammar.specs.expressions.Spelling.{AreWords77, chars77, value}
use Rattle.f77_grammar.specs.expressions.Squeezing.{Symbol77, Char}
use Rattle.f77_grammar.specs.expressions.Words as words
use Rattle.f77_grammar.specs.expressions.Words.{Word77}
use Rattle.f77_grammar.specs.statements.Controls.{Control, written_control}
use Rattle.f77_grammar.specs.declared.directions.Direction.TheVariants.{Input, Output}
use Rattle.f77_grammar.specs.statements.Forms as forms
use Rattle.f77_grammar.specs.statements.Forms.{Form77, IsWritten77, IsInner77, IsLabel77, IsEntity77, IsBounded, written_entity77, entity_tree, entity_depth, IsDefinition, written_definition, definition_tree, definition_depth, separated77, statement_of, form_depth, form_words, has_wide_literal77, optional_comma}
use Rattle.reading.specs.Characters.{IsList}
use Rattle.reading.specs.Signs.{reference_in}
use Rattle.f77_grammar.specs.statements.Recognition.{Halves, cut_at_close, has_equals_outside, BeginsWithLetter}
use Rattle.f77_expressions.specs.Lexing.{strip}
use Rattle.f77_expressions.specs.Reader.{capped}
use Rattle.f77_words.specs.keywords.FormsLeftOut.{without_comma}
use Rattle.f77_words.specs.keywords.Fronts.{IsLabelled}
use Rattle.f77_words.specs.keywords.Kinds.{HasKeyword}
use Rattle.f77_words.specs.keywords.Outside.{has_comma_outside}
use Rattle.f77_words.proofs.keywords.Stripping.{strip_same, stripped}
use Rattle.f77_statement.specs.Conditions.{IsBehindIf, Block, Logical}
use Rattle.f77_statement.specs.Keywords.{IsProgramAfter, IsDeclarationAfter, IsDimensionAfter, AreConstantsAfter, IsGoToAfter, IsElseIfAfter, IsNothingAfter, IsReadAfter, IsPrintAfter, AfterComma}
use Rattle.f77_statement.specs.Kinds.{is_inner, IsUnconditional, Assignment, Loop, PlainLoop, OfKeyword}
use Rattle.f77_statement.proofs.ActionLaws.{cut_is, cut_text, no_list}
use Rattle.f77_statement.proofs.AssignmentLaws.{any_append}
use Rattle.f77_statement.proofs.LoopLaws.{front_found, front_stripped, front_label, plain_stripped, letter_no_label, control_begins, comma_gone}
use Rattle.f77_statement.proofs.RecognitionLaws.{inner_is, inner_of, inner_unconditional, of_keyword, of_loop, of_assignment, no_then, is_conditional, is_unconditional, conditional_written}
use Rattle.f77_read.proofs.one_answer.Fronts.{nothing}
use Rattle.f77_read.proofs.one_answer.Fronts as fronts
use Rattle.f77_read.proofs.one_answer.Parts.{entity, bounded, definition, both_alike}
use Rattle.f77_read.proofs.one_answer.Symbols.{HasWords, HasNoWords, words_of, HasLabel, HasNoLabel, label, label_only, HasCondition, HasNoCondition, conditional}
use Rattle.f77_read.proofs.one_answer.Keywords as keywords
use Rattle.f77_read.proofs.one_answer.Keywords.{Keyword, Front, keyword_at, IsAfter}
use Rattle.f77_read.proofs.one_answer.KeywordLaws.{keyword_written, after_keyword, no_keyword}
use Rattle.f77_read.proofs.one_answer.LeftOut.{Told, then_or_not}
use Rattle.f77_read.proofs.one_answer.Items.{ItemsOf, items_of}
use Rattle.f77_read.proofs.one_answer.Whole.{IsSpelled, IsNotSpelled, spelled, AreAll, AreNot, all, AreInside, AreNotInside, inside, IsControlThere, IsNoControl, control_there, IsAssignment, IsNoAssignment, assignment_of, assigned}

-- what is made of two forms is the same
abbrev pub IsLike : Form77 → Form77 → Type 0
IsLike f g = (statement_of f ≡ statement_of g) × (has_wide_literal77 f ≡ has_wide_literal77 g) × (capped (form_depth f) ≡ capped (form_depth g))

pub record HasOne (P : Form77 → Type 0) : Type 0 where
  pub form : Form77
  pub is : P form
  pub only : (g : Form77) → P g → IsLike form g

abbrev pub HasNone : (Form77 → Type 0) → Type 0
HasNone P = (g : Form77) → P g → ⊥

abbrev pub Decided : (Form77 → Type 0) → Type 0
Decided P = HasOne P ⊎ HasNone P

like_at : (f g h : Form77) → g ≡ h → IsLike f h → IsLike f g
like_at f g h e k = subst (IsLike f) (sym e) k

same_wide : (xs ys : List Word77) → xs ≡ ys → list_any is_wide_word xs ≡ list_any is_wide_word ys
same_wide xs ys e = ap (list_any is_wide_word) e

-- ---- PROGRAM

lone : (x y : List ℕ) (more : List Word77) → words.Name x ∷ more ≡ words.Name y ∷ [] → x ≡ y
lone x y more e = cc

lone_rest : (x y : List ℕ) (more : List Word77) → words.Name x ∷ more ≡ words.Name y ∷ [] → more ≡ []
lone_rest x y more e = cc

program : (text : List Symbol77) → Decided (IsProgramAfter text)
program text = by (words_of text)
  where
    by_rest : (k : HasWords text) (x : List ℕ) (more : List Word77) → k.words ≡ words.Name x ∷ more → Told (more ≡ []) → Decided (IsProgramAfter text)
    by_rest k x more e (inl n) = inl (record {
      form = forms.Program x;
      is = (x, refl, subst (AreWords77 text) (e ∙ ap (λ q. words.Name x ∷ q) n) k.are);
      only = λ g h. like_at (forms.Program x) g (forms.Program h.0) h.1 (ap statement.Program (lone x h.0 more (sym e ∙ k.only _ h.2)), refl, refl);
    })
    by_rest k x more e (inr lacks) = inr (λ g h. lacks (lone_rest x h.0 more (sym e ∙ k.only _ h.2)))

    by_name : (k : HasWords text) → ((x : List ℕ) × (more : List Word77) × (k.words ≡ words.Name x ∷ more)) ⊎ ((x : List ℕ) (more : List Word77) → k.words ≡ words.Name x ∷ more → ⊥) → Decided (IsProgramAfter text)
    by_name k (inl h) = by_rest k h.0 h.1 h.2 (nothing h.1)
    by_name k (inr lacks) = inr (λ g h. lacks h.0 [] (k.only _ h.2))

    by : HasWords text ⊎ HasNoWords text → Decided (IsProgramAfter text)
    by (inl k) = by_name k (fronts.name k.words)
    by (inr never) = inr (λ g h. never (words.Name h.0 ∷ []) h.2)

-- ---- declarations

declaration : (t : Kind) (text : List Symbol77) → Decided (IsDeclarationAfter t text)
declaration t text = by (words_of text)
  where
    by_list : (k : HasWords text) → AreAll written_entity77 IsEntity77 entity_tree entity_depth entity k.words ⊎ AreNot written_entity77 IsEntity77 entity_tree entity_depth entity k.words → Decided (IsDeclarationAfter t text)
    by_list k (inl a) = inl (record {
      form = forms.Declare t a.parts;
      is = (a.parts, refl, subst (AreWords77 text) a.same k.are, a.are);
      only = λ g h.
          let s = k.only _ h.2 in
          let f = a.only h.0 h.3 s in
          like_at (forms.Declare t a.parts) g (forms.Declare t h.0) h.1 (ap (statement.Declare t) f.0, same_wide _ _ (sym a.same ∙ s), f.1);
    })
    by_list k (inr never) = inr (λ g h. never h.0 h.3 (k.only _ h.2))

    by : HasWords text ⊎ HasNoWords text → Decided (IsDeclarationAfter t text)
    by (inl k) = by_list k (all written_entity77 IsEntity77 entity_tree entity_depth entity k.words)
    by (inr never) = inr (λ g h. never _ h.2)

dimension : (text : List Symbol77) → Decided (IsDimensionAfter text)
dimension text = by (words_of text)
  where
    by_list : (k : HasWords text) → AreAll written_entity77 IsBounded entity_tree entity_depth bounded k.words ⊎ AreNot written_entity77 IsBounded entity_tree entity_depth bounded k.words → Decided (IsDimensionAfter text)
    by_list k (inl a) = inl (record {
      form = forms.Dimension a.parts;
      is = (a.parts, refl, subst (AreWords77 text) a.same k.are, a.are);
      only = λ g h.
          let s = k.only _ h.2 in
          let f = a.only h.0 h.3 s in
          like_at (forms.Dimension a.parts) g (forms.Dimension h.0) h.1 (ap statement.Dimension f.0, same_wide _ _ (sym a.same ∙ s), f.1);
    })
    by_list k (inr never) = inr (λ g h. never h.0 h.3 (k.only _ h.2))

    by : HasWords text ⊎ HasNoWords text → Decided (IsDimensionAfter text)
    by (inl k) = by_list k (all written_entity77 IsBounded entity_tree entity_depth bounded k.words)
    by (inr never) = inr (λ g h. never _ h.2)

-- the parentheses are no literals
enclosed_wide : (xs ys : List Word77) → words.Open ∷ (xs ++ words.Close ∷ []) ≡ words.Open ∷ (ys ++ words.Close ∷ []) → list_any is_wide_word xs ≡ list_any is_wide_word ys
enclosed_wide xs ys e = sym (inner xs) ∙ ap (list_any is_wide_word) e ∙ inner ys
  where
    or_false : (b : Bool) → b || false ≡ b
    or_false true = refl
    or_false false = refl

    inner : (zs : List Word77) → list_any is_wide_word (words.Open ∷ (zs ++ words.Close ∷ [])) ≡ list_any is_wide_word zs
    inner zs = any_append is_wide_word zs (words.Close ∷ []) ∙ or_false (list_any is_wide_word zs)

constants : (text : List Symbol77) → Decided (AreConstantsAfter text)
constants text = by (words_of text)
  where
    by_list : (k : HasWords text) → AreInside written_definition IsDefinition definition_tree definition_depth definition k.words ⊎ AreNotInside written_definition IsDefinition definition_tree definition_depth definition k.words
        → Decided (AreConstantsAfter text)
    by_list k (inl a) = inl (record {
      form = forms.Constants a.parts;
      is = (a.parts, refl, subst (AreWords77 text) a.same k.are, a.are);
      only = λ g h.
          let s = k.only _ h.2 in
          let f = a.only h.0 h.3 s in
          like_at (forms.Constants a.parts) g (forms.Constants h.0) h.1 (ap statement.Constants f.0, enclosed_wide _ _ (sym a.same ∙ s), f.1);
    })
    by_list k (inr never) = inr (λ g h. never h.0 h.3 (k.only _ h.2))

    by : HasWords text ⊎ HasNoWords text → Decided (AreConstantsAfter text)
    by (inl k) = by_list k (inside written_definition IsDefinition definition_tree definition_depth definition k.words)
    by (inr never) = inr (λ g h. never (words.Open ∷ (separated77 written_definition h.0 ++ words.Close ∷ [])) h.2)

-- ---- GO TO

go_to : (text : List Symbol77) → Decided (IsGoToAfter text)
go_to text = by (label text)
  where
    whole_label : (l : List ℕ) → text ≡ chars77 l → text ≡ chars77 l ++ []
    whole_label l e = e ∙ sym (append-nil (chars77 l))

    by_rest : (k : HasLabel text) → Told (k.rest ≡ []) → Decided (IsGoToAfter text)
    by_rest k (inl n) = inl (record {
      form = forms.Go k.label;
      is = (k.label, refl, k.same ∙ ap (λ q. chars77 k.label ++ q) n ∙ append-nil (chars77 k.label), k.is_label);
      only = λ g h. like_at (forms.Go k.label) g (forms.Go h.0) h.1 (ap (λ q. statement.Go (value q)) (label_only text k h.0 [] h.3 tt (whole_label h.0 h.2)).0, refl, refl);
    })
    by_rest k (inr lacks) = inr (λ g h. lacks (label_only text k h.0 [] h.3 tt (whole_label h.0 h.2)).1)

    by : HasLabel text ⊎ HasNoLabel text → Decided (IsGoToAfter text)
    by (inl k) = by_rest k (nothing k.rest)
    by (inr never) = inr (λ g h. never h.0 [] h.3 tt (whole_label h.0 h.2))

-- ---- ELSE IF

no_halves : (h : Halves) → None ≡ Some h → ⊥
no_halves h e = cc

one_halves : (h k : Halves) → Some h ≡ Some k → h ≡ k
one_halves h k e = cc

else_if : (text : List Symbol77) → Decided (IsElseIfAfter text)
else_if text = by (cut_at_close text) refl
  where
    halves_are : (k : Halves) → cut_at_close text ≡ Some k → (g : Form77) (h : IsElseIfAfter text g) → k ≡ record { inside = h.1; behind = chars77 (codes "THEN") }
    halves_are k e g h = one_halves _ _ (sym e ∙ cut_text text h.0 h.1 h.3 h.4 h.5)

    by_condition : (k : Halves) → cut_at_close text ≡ Some k → Told (k.behind ≡ chars77 (codes "THEN")) → IsSpelled k.inside ⊎ IsNotSpelled k.inside → Decided (IsElseIfAfter text)
    by_condition k e (inr lacks) _ = inr (λ g h. lacks (ap (λ (q : Halves). q.behind) (halves_are k e g h)))
    by_condition k e (inl t) (inl c) = inl (record {
      form = forms.ElseIf c.phrase;
      is = (c.phrase, k.inside, refl, cut_is text 0 k e ∙ ap (λ q. k.inside ++ (Char 41 ∷ q)) t, c.spelled, c.good);
      only = λ g h.
          let f = c.only h.0 h.5 (subst (λ q. AreWords77 q (written77 h.0)) (sym (ap (λ (q : Halves). q.inside) (halves_are k e g h))) h.4) in
          like_at (forms.ElseIf c.phrase) g (forms.ElseIf h.0) h.2 (ap statement.ElseIf f.0, same_wide _ _ f.2, f.1);
    })
    by_condition k e (inl t) (inr never) = inr (λ g h. never h.0 h.5 (subst (λ q. AreWords77 q (written77 h.0)) (sym (ap (λ (q : Halves). q.inside) (halves_are k e g h))) h.4))

    by : (o : Option Halves) → cut_at_close text ≡ o → Decided (IsElseIfAfter text)
    by None e = inr (λ g h. no_halves _ (sym e ∙ cut_text text h.0 h.1 h.3 h.4 h.5))
    by (Some k) e = by_condition k e (then_or_not k.behind) (spelled k.inside)

-- ---- keywords alone

keyword_alone : (f : Form77) (text : List Symbol77) → Told (text ≡ []) → Decided (IsNothingAfter f text)
keyword_alone f text (inl n) = inl (record { form = f; is = (refl, n); only = λ g h. like_at f g f h.0 (refl, refl, refl) })
keyword_alone f text (inr lacks) = inr (λ g h. lacks h.1)

-- ---- READ and PRINT

read_list : (text : List Symbol77) → Decided (IsReadAfter text)
read_list text = by (words_of text)
  where
    by_items : (k : HasWords text) → ItemsOf Input k.words → Decided (IsReadAfter text)
    by_items k (inl a) = inl (record {
      form = forms.Read a.phrases;
      is = (a.phrases, refl, subst (AreWords77 text) a.same k.are, a.good);
      only = λ g h.
          let s = k.only _ h.2 in
          let f = a.only h.0 h.3 s in
          like_at (forms.Read a.phrases) g (forms.Read h.0) h.1 (ap (λ (q : List plain.Item). statement.Read (plain.items q)) f.0, same_wide _ _ (sym a.same ∙ s), f.1);
    })
    by_items k (inr never) = inr (λ g h. never h.0 h.3 (k.only _ h.2))

    by : HasWords text ⊎ HasNoWords text → Decided (IsReadAfter text)
    by (inl k) = by_items k (items_of Input k.words)
    by (inr never) = inr (λ g h. never _ h.2)

print_list : (text : List Symbol77) → Decided (IsPrintAfter text)
print_list text = by (words_of text)
  where
    by_items : (k : HasWords text) → ItemsOf Output k.words → Decided (IsPrintAfter text)
    by_items k (inl a) = inl (record {
      form = forms.Print a.phrases;
      is = (a.phrases, refl, subst (AreWords77 text) a.same k.are, a.good);
      only = λ g h.
          let s = k.only _ h.2 in
          let f = a.only h.0 h.3 s in
          like_at (forms.Print a.phrases) g (forms.Print h.0) h.1 (ap (λ (q : List plain.Item). statement.Print (plain.items q)) f.0, same_wide _ _ (sym a.same ∙ s), f.1);
    })
    by_items k (inr never) = inr (λ g h. never h.0 h.3 (k.only _ h.2))

    by : HasWords text ⊎ HasNoWords text → Decided (IsPrintAfter text)
    by (inl k) = by_items k (items_of Output k.words)
    by (inr never) = inr (λ g h. never _ h.2)

-- one of two that don't hold together
either : (P Q : Form77 → Type 0) → ((f g : Form77) → P f → Q g → ⊥) → Decided P → Decided Q → Decided (λ f. P f ⊎ Q f)
either P Q apart (inl p) _ = inl (record { form = p.form; is = inl p.is; only = only })
  where
    only : (g : Form77) → P g ⊎ Q g → IsLike p.form g
    only g (inl h) = p.only g h
    only g (inr h) = absurd (apart p.form g p.is h)
either P Q apart (inr n) (inl q) = inl (record { form = q.form; is = inr q.is; only = only })
  where
    only : (g : Form77) → P g ⊎ Q g → IsLike q.form g
    only g (inl h) = absurd (n g h)
    only g (inr h) = q.only g h
either P Q apart (inr n) (inr m) = inr none
  where
    none : HasNone (λ f. P f ⊎ Q f)
    none g (inl h) = n g h
    none g (inr h) = m g h

no_text : (q : List Symbol77) → None ≡ Some q → ⊥
no_text q e = cc

one_text : (a b : List Symbol77) → Some a ≡ Some b → a ≡ b
one_text a b e = cc

behind_comma : (P : List Symbol77 → Form77 → Type 0) → ((text : List Symbol77) → Decided (P text)) → (text : List Symbol77) → Decided (AfterComma P text)
behind_comma P decide text = by (strip (codes ",") text) refl
  where
    by_list : (list : List Symbol77) → strip (codes ",") text ≡ Some list → Decided (P list) → Decided (AfterComma P text)
    by_list list e (inl k) = inl (record {
      form = k.form;
      is = (list, strip_same (codes ",") text list e, k.is);
      only = λ g h. k.only g (subst (λ q. P q g) (one_text _ _ (sym (stripped (codes ",") text h.0 h.1) ∙ e)) h.2);
    })
    by_list list e (inr never) = inr (λ g h. never g (subst (λ q. P q g) (one_text _ _ (sym (stripped (codes ",") text h.0 h.1) ∙ e)) h.2))

    by : (o : Option (List Symbol77)) → strip (codes ",") text ≡ o → Decided (AfterComma P text)
    by None e = inr (λ g h. no_text _ (sym e ∙ stripped (codes ",") text h.0 h.1))
    by (Some list) e = by_list list e (decide list)

comma_some : (text list : List Symbol77) → text ≡ [] → text ≡ chars77 (codes ",") ++ list → ⊥
comma_some text list n e = some (sym n ∙ e)
  where
    some : [] ≡ Char 44 ∷ list → ⊥
    some e = cc

-- ---- behind a keyword

after : (k : Keyword) (text : List Symbol77) → Decided (IsAfter k text)
after keywords.Program text = program text
after keywords.ImplicitNone text = keyword_alone forms.ImplicitNone text (nothing text)
after keywords.Integer text = declaration kinds.Integer text
after keywords.Logical text = declaration kinds.Logical text
after keywords.Dimension text = dimension text
after keywords.Parameter text = constants text
after keywords.GoTo text = go_to text
after keywords.ElseIf text = else_if text
after keywords.Else text = keyword_alone forms.Else text (nothing text)
after keywords.EndIf text = keyword_alone forms.EndIf text (nothing text)
after keywords.EndDo text = keyword_alone forms.EndDo text (nothing text)
after keywords.Continue text = keyword_alone forms.Continue text (nothing text)
after keywords.Stop text = keyword_alone forms.Stop text (nothing text)
after keywords.End text = keyword_alone forms.End text (nothing text)
after keywords.ReadUnit text = either (IsNothingAfter forms.ReadNothing text) (IsReadAfter text) (λ f g h k. no_list text k.0 h.1 k.2) (keyword_alone forms.ReadNothing text (nothing text)) (read_list text)
after keywords.ReadList text = either (IsNothingAfter forms.ReadNothing text) (AfterComma IsReadAfter text) (λ f g h k. comma_some text k.0 h.1 k.1) (keyword_alone forms.ReadNothing text (nothing text)) (behind_comma IsReadAfter read_list text)
after keywords.WriteUnit text = either (IsNothingAfter forms.PrintNothing text) (IsPrintAfter text) (λ f g h k. no_list text k.0 h.1 k.2) (keyword_alone forms.PrintNothing text (nothing text)) (print_list text)
after keywords.PrintList text = either (IsNothingAfter forms.PrintNothing text) (AfterComma IsPrintAfter text) (λ f g h k. comma_some text k.0 h.1 k.1) (keyword_alone forms.PrintNothing text (nothing text)) (behind_comma IsPrintAfter print_list text)

at_form : (f g : Form77) → f ≡ g → HasKeyword g → HasKeyword f
at_form f g e h = subst HasKeyword (sym e) h

has_keyword : (k : Keyword) (text : List Symbol77) (f : Form77) → IsAfter k text f → HasKeyword f
has_keyword keywords.Program text f h = at_form f _ h.1 tt
has_keyword keywords.ImplicitNone text f h = at_form f _ h.0 tt
has_keyword keywords.Integer text f h = at_form f _ h.1 tt
has_keyword keywords.Logical text f h = at_form f _ h.1 tt
has_keyword keywords.Dimension text f h = at_form f _ h.1 tt
has_keyword keywords.Parameter text f h = at_form f _ h.1 tt
has_keyword keywords.GoTo text f h = at_form f _ h.1 tt
has_keyword keywords.ElseIf text f h = at_form f _ h.2 tt
has_keyword keywords.Else text f h = at_form f _ h.0 tt
has_keyword keywords.EndIf text f h = at_form f _ h.0 tt
has_keyword keywords.EndDo text f h = at_form f _ h.0 tt
has_keyword keywords.Continue text f h = at_form f _ h.0 tt
has_keyword keywords.Stop text f h = at_form f _ h.0 tt
has_keyword keywords.End text f h = at_form f _ h.0 tt
has_keyword keywords.ReadUnit text f (inl h) = at_form f _ h.0 tt
has_keyword keywords.ReadUnit text f (inr h) = at_form f _ h.1 tt
has_keyword keywords.ReadList text f (inl h) = at_form f _ h.0 tt
has_keyword keywords.ReadList text f (inr h) = at_form f _ h.2.1 tt
has_keyword keywords.WriteUnit text f (inl h) = at_form f _ h.0 tt
has_keyword keywords.WriteUnit text f (inr h) = at_form f _ h.1 tt
has_keyword keywords.PrintList text f (inl h) = at_form f _ h.0 tt
has_keyword keywords.PrintList text f (inr h) = at_form f _ h.2.1 tt

-- ---- without a condition

module _ (text : List Symbol77) where
  of_front : has_equals_outside text 0 ≡ false → (k : Front) → keyword_at text ≡ Some k → Decided (IsAfter k.keyword k.rest) → Decided (IsUnconditional text)
  of_front n k e (inl a) = inl (record {
    form = a.form;
    is = OfKeyword a.form (has_keyword k.keyword k.rest a.form a.is) (keyword_written k.keyword text k.rest a.form e a.is);
    only = λ g h. of_keyword (IsLike a.form) text g n (λ f w i. a.only f (after_keyword k.keyword text k.rest f e w i)) h;
  })
  of_front n k e (inr never) = inr (λ g h. of_keyword (λ f. ⊥) text g n (λ f w i. never f (after_keyword k.keyword text k.rest f e w i)) h)

  by_front : has_equals_outside text 0 ≡ false → (o : Option Front) → keyword_at text ≡ o → Decided (IsUnconditional text)
  by_front n None e = inr (λ g h. of_keyword (λ f. ⊥) text g n (λ f w i. no_keyword text f e w i) h)
  by_front n (Some k) e = of_front n k e (after k.keyword k.rest)

  module _ (equal : has_equals_outside text 0 ≡ true) where
    -- ---- a DO statement

    module _ (comma : has_comma_outside text 0 false ≡ true) where
      no_loop : ((digits : List ℕ) (b : Bool) (c : Control) → IsWritten77 (forms.Do digits b c) text → ⊥) → ((c : Control) → IsWritten77 (forms.PlainDo c) text → ⊥) → Decided (IsUnconditional text)
      no_loop never lacks = inr (λ g h. of_loop (λ f. ⊥) text g equal comma never lacks h)

      module _ (more : List Symbol77) (begins : strip (codes "DO") text ≡ Some more) where
        labelled : (digits : List ℕ) (b : Bool) (c : Control) (h : IsWritten77 (forms.Do digits b c) text)
            → IsLabelled more (value digits) (chars77 (optional_comma b) ++ h.0.0)
        labelled digits b c h = front_label text more h.0.0 digits b begins h.1 (control_begins c h.0.0 h.0.2) h.0.1

        unlabelled : (c : Control) (h : IsWritten77 (forms.PlainDo c) text) → more ≡ h.0.0
        unlabelled c h = plain_stripped text more h.0.0 begins h.0.1

        module _ (l : HasLabel more) where
          abbrev rest : List Symbol77
          rest = without_comma l.rest

          not_plain : (c : Control) → IsWritten77 (forms.PlainDo c) text → ⊥
          not_plain c h =
              letter_no_label more l.rest (value l.label) (subst BeginsWithLetter (sym (unlabelled c h)) (control_begins c h.0.0 h.0.2))
              (record { label = l.label; is_label = l.is_label; same = l.same; number_is = refl; whole = l.whole })

          same_label : (digits : List ℕ) (b : Bool) (c : Control) (h : IsWritten77 (forms.Do digits b c) text) → (value l.label ≡ value digits) × (rest ≡ h.0.0)
          same_label digits b c h =
              let k = labelled digits b c h in
              let f = label_only more l k.label (chars77 (optional_comma b) ++ h.0.0) k.is_label k.whole k.same in
              (ap value f.0 ∙ k.number_is, ap without_comma f.1 ∙ comma_gone b h.0.0 (control_begins c h.0.0 h.0.2))

          control_is : (k : HasWords rest) (digits : List ℕ) (b : Bool) (c : Control) (h : IsWritten77 (forms.Do digits b c) text) → k.words ≡ written_control c
          control_is k digits b c h = k.only _ (subst (λ q. AreWords77 q (written_control c)) (sym (same_label digits b c h).1) h.0.2)

          a_loop : (k : HasWords rest) → IsControlThere k.words → Decided (IsUnconditional text)
          a_loop k m =
              let f = front_found text more l.rest (value l.label) begins (record { label = l.label; is_label = l.is_label; same = l.same; number_is = refl; whole = l.whole }) in
              let form = forms.Do f.label f.comma m.control in
              inl (record {
                form = form;
                is = Loop f.label f.comma m.control ((rest, f.same, subst (AreWords77 rest) m.same k.are), f.is_label, m.good);
                only = λ g u. of_loop (IsLike form) text g equal comma (λ digits b c h.
                    let e = control_is k digits b c h in
                    let o = m.only c h.2 e in
                    let n : value f.label ≡ value digits = f.number_is ∙ (same_label digits b c h).0 in (
                      rw (n, o.0, o.1, o.2, o.3) refl,
                      same_wide _ _ (sym m.same ∙ e),
                      o.4,
                    )) (λ c h. absurd (not_plain c h)) u;
              })

          by_control : (k : HasWords rest) → IsControlThere k.words ⊎ IsNoControl k.words → Decided (IsUnconditional text)
          by_control k (inl m) = a_loop k m
          by_control k (inr never) = no_loop (λ digits b c h. never c h.2 (control_is k digits b c h)) not_plain

          by_words : HasWords rest ⊎ HasNoWords rest → Decided (IsUnconditional text)
          by_words (inl k) = by_control k (control_there k.words)
          by_words (inr never) = no_loop (λ digits b c h. never (written_control c) (subst (λ q. AreWords77 q (written_control c)) (sym (same_label digits b c h).1) h.0.2)) not_plain

        module _ (no_label : HasNoLabel more) where
          not_labelled : (digits : List ℕ) (b : Bool) (c : Control) → IsWritten77 (forms.Do digits b c) text → ⊥
          not_labelled digits b c h = let k = labelled digits b c h in no_label k.label _ k.is_label k.whole k.same

          plain_control : (k : HasWords more) (c : Control) (h : IsWritten77 (forms.PlainDo c) text) → k.words ≡ written_control c
          plain_control k c h = k.only _ (subst (λ q. AreWords77 q (written_control c)) (sym (unlabelled c h)) h.0.2)

          a_plain : (k : HasWords more) → IsControlThere k.words → Decided (IsUnconditional text)
          a_plain k m =
              let form = forms.PlainDo m.control in
              inl (record {
                form = form;
                is = PlainLoop m.control ((more, strip_same (codes "DO") text more begins, subst (AreWords77 more) m.same k.are), m.good);
                only = λ g u. of_loop (IsLike form) text g equal comma (λ digits b c h. absurd (not_labelled digits b c h)) (λ c h.
                    let e = plain_control k c h in
                    let o = m.only c h.1 e in (
                      rw (o.0, o.1, o.2, o.3) refl,
                      same_wide _ _ (sym m.same ∙ e),
                      o.4,
                    )) u;
              })

          by_plain_control : (k : HasWords more) → IsControlThere k.words ⊎ IsNoControl k.words → Decided (IsUnconditional text)
          by_plain_control k (inl m) = a_plain k m
          by_plain_control k (inr never) = no_loop not_labelled (λ c h. never c h.1 (plain_control k c h))

          by_plain_words : HasWords more ⊎ HasNoWords more → Decided (IsUnconditional text)
          by_plain_words (inl k) = by_plain_control k (control_there k.words)
          by_plain_words (inr never) = no_loop not_labelled (λ c h. never (written_control c) (subst (λ q. AreWords77 q (written_control c)) (sym (unlabelled c h)) h.0.2))

        by_label : HasLabel more ⊎ HasNoLabel more → Decided (IsUnconditional text)
        by_label (inl l) = by_words l (words_of (without_comma l.rest))
        by_label (inr never) = by_plain_words never (words_of more)

      by_do : (o : Option (List Symbol77)) → strip (codes "DO") text ≡ o → Decided (IsUnconditional text)
      by_do None e = no_loop (λ digits b c h. no_text _ (sym e ∙ front_stripped text h.0.0 digits b h.0.1)) (λ c h. no_text _ (sym e ∙ stripped (codes "DO") text h.0.0 h.0.1))
      by_do (Some more) e = by_label more e (label more)

    -- ---- an assignment

    module _ (none : has_comma_outside text 0 false ≡ false) where
      no_assignment : ((l r : Phrase77) → IsWritten77 (forms.Assign l r) text → ⊥) → Decided (IsUnconditional text)
      no_assignment never = inr (λ g h. of_assignment (λ f. ⊥) text g equal none never h)

      -- an equals sign is no literal
      wide_sides : (l r : Phrase77) → list_any is_wide_word (assigned l r) ≡ has_wide_literal77 (forms.Assign l r)
      wide_sides l r = any_append is_wide_word (written77 l) (words.Equals ∷ written77 r) ∙ sym (any_append is_wide_word (written77 l) (written77 r))

      by_sides : (k : HasWords text) → IsAssignment k.words ⊎ IsNoAssignment k.words → Decided (IsUnconditional text)
      by_sides k (inl m) = inl (record {
        form = forms.Assign m.left m.right;
        is = Assignment m.left m.right (subst (AreWords77 text) m.same k.are, m.bare, m.good_left, m.good_right);
        only = λ g u. of_assignment (IsLike (forms.Assign m.left m.right)) text g equal none (λ l r h.
            let e = k.only (assigned l r) h.0 in
            let o = m.only l r h.1 h.2 h.3 e in (
              ap (λ q. statement.Assign (reference_in q) (tree77_of m.right)) o.0 ∙ ap (λ q. statement.Assign (reference_in (tree77_of l)) q) o.1,
              sym (wide_sides m.left m.right) ∙ same_wide _ _ (sym m.same ∙ e) ∙ wide_sides l r,
              o.2,
            )) u;
      })
      by_sides k (inr never) = no_assignment (λ l r h. never l r h.1 h.2 h.3 (k.only (assigned l r) h.0))

      by_assignment : HasWords text ⊎ HasNoWords text → Decided (IsUnconditional text)
      by_assignment (inl k) = by_sides k (assignment_of k.words)
      by_assignment (inr never) = no_assignment (λ l r h. never (assigned l r) h.0)

    by_outside : (b : Bool) → has_comma_outside text 0 false ≡ b → Decided (IsUnconditional text)
    by_outside true e = by_do e (strip (codes "DO") text) refl
    by_outside false e = by_assignment e (words_of text)

  by_equals : (b : Bool) → has_equals_outside text 0 ≡ b → Decided (IsUnconditional text)
  by_equals true e = by_outside e (has_comma_outside text 0 false) refl
  by_equals false e = by_front e (keyword_at text) refl

unconditional : (text : List Symbol77) → Decided (IsUnconditional text)
unconditional text = by_equals text (has_equals_outside text 0) refl

unconditional_written : (text : List Symbol77) (f : Form77) → IsUnconditional text f → IsWritten77 f text
unconditional_written text f (Assignment l r h) = h
unconditional_written text f (Loop digits b c h) = h
unconditional_written text f (PlainLoop c h) = h
unconditional_written text f (OfKeyword g w h) = h

-- ---- with a condition

abbrev IsInnerOf : List Symbol77 → Form77 → Type 0
IsInnerOf text f = IsWritten77 f text × IsInner77 f

inner : (text : List Symbol77) → Decided (IsInnerOf text)
inner text = by (unconditional text)
  where
    opposite : (b : Bool) → b ≡ true → b ≡ false → ⊥
    opposite b t f = (let z : true ≡ false = sym t ∙ f in cc)

    by_kind : (k : HasOne (IsUnconditional text)) (b : Bool) → is_inner (statement_of k.form) ≡ b → Decided (IsInnerOf text)
    by_kind k true e = inl (record { form = k.form; is = (unconditional_written text k.form k.is, inner_is k.form e); only = λ g h. k.only g (inner_unconditional g text h.0 h.1) })
    by_kind k false e = inr (λ g h.
        let o = k.only g (inner_unconditional g text h.0 h.1) in
        opposite (is_inner (statement_of k.form)) (ap is_inner o.0 ∙ inner_of g h.1) e)

    by : Decided (IsUnconditional text) → Decided (IsInnerOf text)
    by (inl k) = by_kind k (is_inner (statement_of k.form)) refl
    by (inr never) = inr (λ g h. never g (inner_unconditional g text h.0 h.1))

module _ (condition rest : List Symbol77) where
  block : rest ≡ chars77 (codes "THEN") → IsSpelled condition ⊎ IsNotSpelled condition → Decided (IsBehindIf condition rest)
  block t (inl c) = inl (record { form = forms.If c.phrase; is = Block c.phrase c.spelled c.good t; only = only })
    where
      only : (g : Form77) → IsBehindIf condition rest g → IsLike (forms.If c.phrase) g
      only g (Block q w good e) = (let f = c.only q good w in (ap statement.If f.0, same_wide _ _ f.2, f.1))
      only g (Logical q h w good i n) = absurd (no_then rest h t i n)
  block t (inr never) = inr none
    where
      none : HasNone (IsBehindIf condition rest)
      none g (Block q w good e) = never q good w
      none g (Logical q h w good i n) = never q good w

  logical : (rest ≡ chars77 (codes "THEN") → ⊥) → IsSpelled condition ⊎ IsNotSpelled condition → Decided (IsInnerOf rest) → Decided (IsBehindIf condition rest)
  logical lacks (inl c) (inl k) = inl (record { form = forms.Test c.phrase k.form; is = Logical c.phrase k.form c.spelled c.good k.is.0 k.is.1; only = only })
    where
      both_wide : (p q : Phrase77) (f g : Form77) → written77 p ≡ written77 q → has_wide_literal77 f ≡ has_wide_literal77 g → has_wide_literal77 (forms.Test p f) ≡ has_wide_literal77 (forms.Test q g)
      both_wide p q f g e w =
          any_append is_wide_word (written77 p) (form_words f) ∙ ap (λ b. b || has_wide_literal77 f) (same_wide _ _ e) ∙ ap (λ b. list_any is_wide_word (written77 q) || b) w
          ∙ sym (any_append is_wide_word (written77 q) (form_words g))

      only : (g : Form77) → IsBehindIf condition rest g → IsLike (forms.Test c.phrase k.form) g
      only g (Block q w good e) = absurd (lacks e)
      only g (Logical q h w good i n) =
          let f = c.only q good w in
          let o = k.only h (i, n) in (
            ap (λ x. statement.Test x (statement_of k.form)) f.0 ∙ ap (statement.Test (tree77_of q)) o.0,
            both_wide c.phrase q k.form h f.2 o.1,
            both_alike (phrase_depth77 c.phrase) (phrase_depth77 q) (form_depth k.form) (form_depth h) f.1 o.2,
          )
  logical lacks (inl c) (inr never) = inr none
    where
      none : HasNone (IsBehindIf condition rest)
      none g (Block q w good e) = lacks e
      none g (Logical q h w good i n) = never h (i, n)
  logical lacks (inr never) _ = inr none
    where
      none : HasNone (IsBehindIf condition rest)
      none g (Block q w good e) = never q good w
      none g (Logical q h w good i n) = never q good w

  by_then : Told (rest ≡ chars77 (codes "THEN")) → Decided (IsBehindIf condition rest)
  by_then (inl e) = block e (spelled condition)
  by_then (inr lacks) = logical lacks (spelled condition) (inner rest)

-- ---- any statement

pub statement_in : (text : List Symbol77) → Decided (λ f. IsWritten77 f text)
statement_in text = by (conditional text)
  where
    with_condition : (k : HasCondition text) → Decided (IsBehindIf k.condition k.rest) → Decided (λ f. IsWritten77 f text)
    with_condition k (inl b) = inl (record {
      form = b.form;
      is = conditional_written text k.condition k.rest b.form k.is b.is;
      only = λ g h. is_conditional (IsLike b.form) text k.condition k.rest g k.is k.only (λ f i. b.only f i) h;
    })
    with_condition k (inr never) = inr (λ g h. is_conditional (λ f. ⊥) text k.condition k.rest g k.is k.only (λ f i. never f i) h)

    without : HasNoCondition text → Decided (IsUnconditional text) → Decided (λ f. IsWritten77 f text)
    without lacks (inl u) = inl (record {
      form = u.form;
      is = unconditional_written text u.form u.is;
      only = λ g h. is_unconditional (IsLike u.form) text g lacks (λ f i. u.only f i) h;
    })
    without lacks (inr never) = inr (λ g h. is_unconditional (λ f. ⊥) text g lacks (λ f i. never f i) h)

    by : HasCondition text ⊎ HasNoCondition text → Decided (λ f. IsWritten77 f text)
    by (inl k) = with_condition k (by_then k.condition k.rest (then_or_not k.rest))
    by (inr lacks) = without lacks (unconditional text)
