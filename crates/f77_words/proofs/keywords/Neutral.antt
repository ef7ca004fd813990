-- Expressions, items, entities and definitions leave the marks as they are.
use Rattle.std.proofs.Common.{◌≡◌, ℕ, true, false, List, [], ◌∷◌, ◌++◌, refl, ap, ◌∙◌}
use Rattle.std.specs.Prelude.{Option, Some, None}
use Rattle.f77_grammar.specs.expressions.Words as words
use Rattle.f77_grammar.specs.expressions.Words.{Word77}
use Rattle.f77_grammar.specs.expressions.Phrases as phrases
use Rattle.f77_grammar.specs.expressions.Phrases.{Phrase77, Phrases77, written77, written_list, Literal, WideLiteral, Truth, Name, Listed, Paren, Signed, Joined}
use Rattle.f77_grammar.specs.statements.Controls.{Control, written_step77, written_control}
use Rattle.f77_grammar.specs.statements.Items as items
use Rattle.f77_grammar.specs.statements.Items.{ItemPhrase77, ItemPhrases77, written_item77, written_items77}
use Rattle.f77_grammar.specs.statements.Forms as forms
use Rattle.f77_grammar.specs.statements.Forms.{followed77, separated77, Bound77, EntityForm77, Definition, written_bound77, written_entity77, written_definition}
use Rattle.f77_words.proofs.keywords.Marks.{Marks, mark, marks, none, made, deeper, marks_append}

-- words in the middle that leave the marks as they are
between : (m : Marks) (a : List Word77) (w : Word77) (b : List Word77) → marks m a ≡ m → marks m (a ++ w ∷ b) ≡ marks (mark m w) b
between m a w b e = marks_append m a (w ∷ b) ∙ ap (λ (q : Marks). marks (mark q w) b) e

mutual
  pub neutral : (p : Phrase77) (m : Marks) → marks m (written77 p) ≡ m
  neutral (Literal n) m = refl
  neutral WideLiteral m = refl
  neutral (Truth b) m = refl
  neutral (Name x) m = refl
  neutral (Listed x ps) m = between (deeper m) (written_list ps) words.Close [] (neutral_list ps (deeper m) refl)
  neutral (Paren p) m = between (deeper m) (written77 p) words.Close [] (neutral p (deeper m))
  neutral (Signed s p) m = neutral p m
  neutral (Joined o a b) m = between m (written77 a) (words.Operator o) (written77 b) (neutral a m) ∙ neutral b m

  -- where a comma counts nothing
  pub neutral_list : (ps : Phrases77) (m : Marks) → mark m words.Comma ≡ m → marks m (written_list ps) ≡ m
  neutral_list (phrases.One p) m q = neutral p m
  neutral_list (phrases.Then ps p) m q =
      between m (written_list ps) words.Comma (written77 p) (neutral_list ps m q) ∙ (ap (λ (k : Marks). marks k (written77 p)) q ∙ neutral p m)

-- ---- the parameters of a DO

abbrev pub behind_step : Option Phrase77 → Marks → Marks
behind_step None m = m
behind_step (Some p) m = mark m words.Comma

neutral_step : (c : Option Phrase77) (m : Marks) → marks m (written_step77 c) ≡ behind_step c m
neutral_step None m = refl
neutral_step (Some p) m = neutral p (mark m words.Comma)

pub control : (c : Control) (m : Marks) → marks m (written_control c) ≡ behind_step c.step (mark (mark m words.Equals) words.Comma)
control c m =
    between (mark m words.Equals) (written77 c.first) words.Comma (written77 c.last ++ written_step77 c.step) (neutral c.first (mark m words.Equals))
    ∙ (marks_append (mark (mark m words.Equals) words.Comma) (written77 c.last) (written_step77 c.step)
    ∙ (ap (λ (q : Marks). marks q (written_step77 c.step)) (neutral c.last (mark (mark m words.Equals) words.Comma))
    ∙ neutral_step c.step (mark (mark m words.Equals) words.Comma)))

step_inside : (c : Option Phrase77) (m : Marks) → behind_step c (deeper m) ≡ deeper m
step_inside None m = refl
step_inside (Some p) m = refl

control_inside : (c : Control) (m : Marks) → marks (deeper m) (written_control c) ≡ deeper m
control_inside c m = control c (deeper m) ∙ step_inside c.step m

-- the marks of a DO
abbrev pub of_loop : Marks
of_loop = made 0 true true false

step_outside : (c : Option Phrase77) → behind_step c of_loop ≡ of_loop
step_outside None = refl
step_outside (Some p) = refl

pub control_outside : (c : Control) → marks none (written_control c) ≡ of_loop
control_outside c = control c none ∙ step_outside c.step

-- ---- lists, where a comma counts nothing

mutual
  pub neutral_item : (i : ItemPhrase77) (m : Marks) → marks m (written_item77 i) ≡ m
  neutral_item (items.Value p) m = neutral p m
  neutral_item (items.Text t) m = refl
  neutral_item (items.Loop is c) m =
      between (deeper m) (written_items77 is) words.Comma (written_control c ++ words.Close ∷ []) (neutral_items is (deeper m) refl)
      ∙ between (deeper m) (written_control c) words.Close [] (control_inside c m)

  pub neutral_items : (is : ItemPhrases77) (m : Marks) → mark m words.Comma ≡ m → marks m (written_items77 is) ≡ m
  neutral_items (items.Sole i) m q = neutral_item i m
  neutral_items (items.More is i) m q =
      between m (written_items77 is) words.Comma (written_item77 i) (neutral_items is m q) ∙ (ap (λ (k : Marks). marks k (written_item77 i)) q ∙ neutral_item i m)

neutral_followed : {A : Type 0} (write : A → List Word77) (m : Marks) → mark m words.Comma ≡ m → ((x : A) → marks m (write x) ≡ m) → (xs : List A) → marks m (followed77 write xs) ≡ m
neutral_followed write m q each [] = refl
neutral_followed write m q each (x ∷ xs) =
    ap (λ (k : Marks). marks k (write x ++ followed77 write xs)) q
    ∙ (marks_append m (write x) (followed77 write xs) ∙ (ap (λ (k : Marks). marks k (followed77 write xs)) (each x) ∙ neutral_followed write m q each xs))

neutral_separated : {A : Type 0} (write : A → List Word77) (m : Marks) → mark m words.Comma ≡ m → ((x : A) → marks m (write x) ≡ m) → (xs : List A) → marks m (separated77 write xs) ≡ m
neutral_separated write m q each [] = refl
neutral_separated write m q each (x ∷ xs) =
    marks_append m (write x) (followed77 write xs) ∙ (ap (λ (k : Marks). marks k (followed77 write xs)) (each x) ∙ neutral_followed write m q each xs)

neutral_bound : (m : Marks) (b : Bound77) → marks m (written_bound77 b) ≡ m
neutral_bound m (forms.Upper p) = neutral p m
neutral_bound m (forms.Both p q) = between m (written77 p) words.Colon (written77 q) (neutral p m) ∙ neutral q m

neutral_entity : (m : Marks) (e : EntityForm77) → marks m (written_entity77 e) ≡ m
neutral_entity m (forms.Plain x) = refl
neutral_entity m (forms.Bounded x bs) =
    between (deeper m) (separated77 written_bound77 bs) words.Close [] (neutral_separated written_bound77 (deeper m) refl (neutral_bound (deeper m)) bs)

pub neutral_entities : (es : List EntityForm77) → marks none (separated77 written_entity77 es) ≡ none
neutral_entities es = neutral_separated written_entity77 none refl (neutral_entity none) es

-- in the parentheses of PARAMETER
pub neutral_definitions : (ds : List Definition) → marks none (words.Open ∷ (separated77 written_definition ds ++ words.Close ∷ [])) ≡ none
neutral_definitions ds =
    between (deeper none) (separated77 written_definition ds) words.Close [] (neutral_separated written_definition (deeper none) refl (λ d. neutral d.value (deeper none)) ds)

-- ---- an assignment

abbrev pub of_assignment : Marks
of_assignment = made 0 true false false

pub assigned : (l r : Phrase77) → marks none (written77 l ++ words.Equals ∷ written77 r) ≡ of_assignment
assigned l r = between none (written77 l) words.Equals (written77 r) (neutral l none) ∙ neutral r of_assignment
