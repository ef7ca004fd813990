-- The labels ahead of a statement, from those behind it.
use Rattle.std.proofs.Common.{zero, suc, ◌≡◌, ℕ, Option, Some, None, Result, Ok, Err, OnOk, List, [], ◌∷◌, ap, refl, sym, ◌∙◌}
use Rattle.f90_laws.specs.blocks.Places.{labels_ahead, opened_since, with_label_at}
use Rattle.f90_grammar.specs.Blocks.{Placed}
use Rattle.f90_grammar.specs.Forms as forms
use Rattle.f90_grammar.specs.Forms.{Form90}
use Rattle.f90_expressions.specs.declared.nodes.Expression.{Expression}
use Rattle.f90_statement.specs.declared.items.parts.bounds.Bounds.{Bounds}
use Rattle.f90_statement.specs.Views.{IsStatementOf}
use Rattle.f90_statement.specs.declared.nodes.Statement.{Statement}
use Rattle.f90_statement.specs.declared.nodes.Statement.TheVariants as statements
use Rattle.f90_read.specs.surroundings.Jumps.{AreLevels, AreAhead, with_first, entered, left}
use Rattle.f90_read.specs.declared.surroundings.jumping.LabelsAhead.{LabelsAhead}

-- ahead of a statement of this form, where those were behind it
abbrev pub before_form : Form90 → (ℕ → List ℕ) → ℕ → List ℕ
before_form f at n = with_label_at n f (at (opened_since f n))

levels_same : (a : LabelsAhead) (at bt : ℕ → List ℕ) → ((n : ℕ) → at n ≡ bt n) → AreLevels a at → AreLevels a bt
levels_same a at bt e l = record { same = λ n. l.same n ∙ e n; are_starts = l.are_starts; found = l.found }

module _ (at : ℕ → List ℕ) where
  if_begins : (e : Expression) (f : Form90) → IsStatementOf (statements.If e) f → (n : ℕ) → left at n ≡ before_form f at n
  if_begins e (forms.If p) h zero = refl
  if_begins e (forms.If p) h (suc n) = refl
  if_begins e f h n = absurd h

  loop_begins : (x : List ℕ) (k : Bounds) (f : Form90) → IsStatementOf (statements.Do x k) f → (n : ℕ) → left at n ≡ before_form f at n
  loop_begins x k (forms.Do y l u s) h zero = refl
  loop_begins x k (forms.Do y l u s) h (suc n) = refl
  loop_begins x k f h n = absurd h

  if_ends : (f : Form90) → IsStatementOf statements.EndIf f → (n : ℕ) → entered at n ≡ before_form f at n
  if_ends forms.EndIf h zero = refl
  if_ends forms.EndIf h (suc n) = refl
  if_ends f h n = absurd h

  loop_ends : (f : Form90) → IsStatementOf statements.EndDo f → (n : ℕ) → entered at n ≡ before_form f at n
  loop_ends forms.EndDo h zero = refl
  loop_ends forms.EndDo h (suc n) = refl
  loop_ends f h n = absurd h

  arm_begins : (e : Expression) (f : Form90) → IsStatementOf (statements.ElseIf e) f → (n : ℕ) → entered (left at) n ≡ before_form f at n
  arm_begins e (forms.ElseIf p) h zero = refl
  arm_begins e (forms.ElseIf p) h (suc n) = refl
  arm_begins e f h n = absurd h

  else_begins : (f : Form90) → IsStatementOf statements.Else f → (n : ℕ) → entered (left at) n ≡ before_form f at n
  else_begins forms.Else h zero = refl
  else_begins forms.Else h (suc n) = refl
  else_begins f h n = absurd h

  label_stands : (m : ℕ) (f : Form90) → IsStatementOf (statements.Label m) f → (n : ℕ) → with_first m at n ≡ before_form f at n
  label_stands m (forms.Continue (d ∷ ds)) h zero = ap (λ (k : ℕ). k ∷ at 0) h
  label_stands m (forms.Continue (d ∷ ds)) h (suc n) = refl
  label_stands m f h n = absurd h

-- ---- statement by statement

abbrev pub Begins : Statement → Type 0
Begins (statements.If e) = Unit {0}
Begins (statements.Do x k) = Unit {0}
Begins s = ⊥

abbrev pub Ends : Statement → Type 0
Ends statements.EndIf = Unit {0}
Ends statements.EndDo = Unit {0}
Ends s = ⊥

abbrev pub Turns : Statement → Type 0
Turns (statements.ElseIf e) = Unit {0}
Turns statements.Else = Unit {0}
Turns s = ⊥

module _ (a : LabelsAhead) (p : Placed) (ps : List Placed) where
  pub ahead_of_begun : (s : Statement) → Begins s → IsStatementOf s p.form → AreLevels a (left (labels_ahead ps)) → AreAhead a (p ∷ ps)
  ahead_of_begun (statements.If e) t h l = levels_same a _ _ (if_begins (labels_ahead ps) e p.form h) l
  ahead_of_begun (statements.Do x k) t h l = levels_same a _ _ (loop_begins (labels_ahead ps) x k p.form h) l
  ahead_of_begun s t h l = absurd t

  pub ahead_of_ended : (s : Statement) → Ends s → IsStatementOf s p.form → AreLevels a (entered (labels_ahead ps)) → AreAhead a (p ∷ ps)
  ahead_of_ended statements.EndIf t h l = levels_same a _ _ (if_ends (labels_ahead ps) p.form h) l
  ahead_of_ended statements.EndDo t h l = levels_same a _ _ (loop_ends (labels_ahead ps) p.form h) l
  ahead_of_ended s t h l = absurd t

  pub ahead_of_turned : (s : Statement) → Turns s → IsStatementOf s p.form → AreLevels a (entered (left (labels_ahead ps))) → AreAhead a (p ∷ ps)
  ahead_of_turned (statements.ElseIf e) t h l = levels_same a _ _ (arm_begins (labels_ahead ps) e p.form h) l
  ahead_of_turned statements.Else t h l = levels_same a _ _ (else_begins (labels_ahead ps) p.form h) l
  ahead_of_turned s t h l = absurd t

  pub ahead_of_label : (m : ℕ) → IsStatementOf (statements.Label m) p.form → AreLevels a (with_first m (labels_ahead ps)) → AreAhead a (p ∷ ps)
  ahead_of_label m h l = levels_same a _ _ (label_stands (labels_ahead ps) m p.form h) l

-- ---- unless memory ran out

pub on_ok : {A E : Type 0} (r : Result A E) {P Q : Type 0} → (P → Q) → OnOk r P → OnOk r Q
on_ok (Ok x) f h = f h
on_ok (Err e) f h = tt
