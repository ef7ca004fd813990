-- Statements of blocks.
use Rattle.std.proofs.Common.{◌≡◌, ℕ, List, [], ◌∷◌, ap, refl, sym, subst, ◌∙◌, append-nil, Option, Result, Err, codes}
use Rattle.std.specs.Borrow.{Bor}
use Rattle.std.specs.Prelude.{IsTrue}
use Rattle.f90_grammar.specs.Forms as forms
use Rattle.f90_grammar.specs.Forms.{Form90, IsWritten90, EitherHead}
use Rattle.f90_grammar.specs.Items.{written_bounds90}
use Rattle.f90_grammar.specs.Phrases.{Phrase90, IsExpression90}
use Rattle.f90_grammar.specs.Words as words
use Rattle.f90_grammar.specs.Words.{Word90}
use Rattle.f90_laws.proofs.unique.Phrase.{one_phrase}
use Rattle.f90_expressions.specs.words.Tokens.{words_of}
use Rattle.f90_expressions.specs.declared.words.tokens.Token.{Token}
use Rattle.reading.specs.declared.stops.Stop.{Stop}
use Rattle.reading.specs.declared.stops.Stop.TheVariants.{Syntax, Memory}
use Rattle.f90_expressions.specs.Reading.{IsMadeOf}
use Rattle.f90_expressions.specs.declared.nodes.Expression.{Expression}
use Rattle.f90_statement.specs.items.parts.Bounds.{AreBounds, AreBoundsOf, BeginsWithBounds, EndsBounds, GivesBounds, bounds_before}
use Rattle.f90_statement.specs.declared.items.parts.bounds.Bounds.{Bounds}
use Rattle.f90_statement.proofs.items.OfParts.BoundLaws.{bounds_are}
use Rattle.f90_statement.specs.Fronts.{HasLabel, begun_loop, labelled}
use Rattle.f90_statement.specs.Kinds.{is_action, is_if, is_else_if, is_do, is_label}
use Rattle.f90_statement.specs.Reading.{IsForm, ReadsAction, ReadsStatement, BeginsWithCondition, Given, closed}
use Rattle.f90_statement.specs.Views.{IsActionOf, IsStatementOf}
use Rattle.f90_statement.specs.declared.nodes.Action.{Action}
use Rattle.f90_statement.specs.declared.nodes.Statement.{Statement}
use Rattle.f90_statement.specs.declared.nodes.Statement.TheVariants as statements
use Rattle.f90_statement.proofs.ActionLaws.{inner_of, action_of}
use Rattle.f90_statement.proofs.FrontLaws.{one_rest_of_heads}

abbrev pub then_word : List Word90
then_word = words.Name (codes "THEN") ∷ []

abbrev pub tested : Phrase90 → List Word90 → List Word90
tested p rest = words.Head (codes "IF") ∷ closed p rest

abbrev pub FailsCondition : Stop → List Word90 → Type 0
FailsCondition stop us = (p : Phrase90) (last : List Word90) → IsExpression90 p → us ≡ closed p last
    → Given (Err stop) (λ (r : Expression × Bor (List Token)). IsMadeOf r.0 p × (words_of r.1.now ≡ last))

abbrev pub IsOnlyCondition : List Word90 → Expression → List Word90 → Type 0
IsOnlyCondition us e rest = (p : Phrase90) (last : List Word90) → IsExpression90 p → us ≡ closed p last → IsMadeOf e p × (rest ≡ last)

-- ---- IF

pub if_is : (us : List Word90) (e : Expression) (p : Phrase90) → IsMadeOf e p → IsExpression90 p → us ≡ then_word → IsForm IsStatementOf is_if (tested p us) (statements.If e)
if_is us e p m g h = record { form = forms.If p; is_of = m; written = (ap (tested p) h, g); among = refl }

pub test_is : (us : List Word90) (e : Expression) (p : Phrase90) (a : Action) → IsMadeOf e p → IsExpression90 p → IsForm IsActionOf is_action us a
    → IsForm IsStatementOf is_if (tested p us) (statements.Test e a)
test_is us e p a m g h = record {
  form = forms.Test p h.form;
  is_of = (m, h.is_of);
  written = (us, refl, g, h.written, inner_of h.form h.among);
  among = refl;
}

behind_if : (us vs : List Word90) → words.Head (codes "IF") ∷ us ≡ words.Head (codes "IF") ∷ vs → us ≡ vs
behind_if us vs e = cc

behind_close : (us vs : List Word90) → words.Close ∷ us ≡ words.Close ∷ vs → us ≡ vs
behind_close us vs e = cc

one_condition : (p q : Phrase90) (us vs : List Word90) → IsExpression90 p → IsExpression90 q → tested p us ≡ tested q vs → (p ≡ q) × (us ≡ vs)
one_condition p q us vs g h e =
    let o = one_phrase p q (words.Close ∷ us) (words.Close ∷ vs) g h tt tt (behind_if (closed p us) (closed q vs) e) in
    (o.0, behind_close us vs o.1)

no_test : (us : List Word90) (p : Phrase90) → IsExpression90 p → (us ≡ then_word → ⊥) → ((f : Form90) → IsWritten90 f us → IsTrue (is_action f) → ⊥)
    → (f : Form90) → IsWritten90 f (tested p us) → IsTrue (is_if f) → ⊥
no_test us p g n o (forms.Test q f) w t =
    let s = one_condition p q us w.0 g w.2 w.1 in
    o f (subst (λ (z : List Word90). IsWritten90 f z) (sym s.1) w.3) (action_of f w.4)
no_test us p g n o (forms.If q) w t = n (one_condition p q us then_word g w.1 w.0).1
no_test us p g n o f w t = cc

pub test_err : (us : List Word90) (p : Phrase90) (stop : Stop) → IsExpression90 p → (us ≡ then_word → ⊥) → ReadsAction is_action us (Err stop)
    → ReadsStatement is_if (tested p us) (Err stop)
test_err us p Syntax g n o = no_test us p g n o
test_err us p Memory g n o = tt

pub ruleset tests = (if_is, test_is, test_err)

pub if_at : (r : Result Statement Stop) (ws us vs : List Word90) (e : Expression) → ws ≡ words.Head (codes "IF") ∷ us → BeginsWithCondition us e vs
    → ((p : Phrase90) → IsMadeOf e p → IsExpression90 p → ReadsStatement is_if (tested p vs) r) → ReadsStatement is_if ws r
if_at r ws us vs e q h o =
    subst (λ (z : List Word90). ReadsStatement is_if z r) (sym (q ∙ ap (λ (z : List Word90). words.Head (codes "IF") ∷ z) h.same)) (o h.phrase h.is h.good)

no_condition : (ws us : List Word90) → ws ≡ words.Head (codes "IF") ∷ us → ((p : Phrase90) (last : List Word90) → IsExpression90 p → us ≡ closed p last → ⊥)
    → (f : Form90) → IsWritten90 f ws → IsTrue (is_if f) → ⊥
no_condition ws us e o (forms.Test p f) w t = o p w.0 w.2 (behind_if us (closed p w.0) (sym e ∙ w.1))
no_condition ws us e o (forms.If p) w t = o p then_word w.1 (behind_if us (closed p then_word) (sym e ∙ w.0))
no_condition ws us e o f w t = cc

pub condition_lost : (ws us : List Word90) (stop : Stop) → ws ≡ words.Head (codes "IF") ∷ us → FailsCondition stop us → ReadsStatement is_if ws (Err stop)
condition_lost ws us Syntax e o = no_condition ws us e o
condition_lost ws us Memory e o = tt

pub no_if : (ws : List Word90) → ((us : List Word90) → ws ≡ words.Head (codes "IF") ∷ us → ⊥) → (f : Form90) → IsWritten90 f ws → IsTrue (is_if f) → ⊥
no_if ws o (forms.Test p f) w t = o (closed p w.0) w.1
no_if ws o (forms.If p) w t = o (closed p then_word) w.0
no_if ws o f w t = cc

pub ruleset ifs = (if_at, condition_lost, no_if)

-- ---- ELSE IF

abbrev ElseIfs : List Word90 → List Word90 → Type 0
ElseIfs us ws = EitherHead (codes "ELSE") (codes "IF") us ws

pub else_if_is : (ws us vs : List Word90) (e : Expression) → ElseIfs us ws → BeginsWithCondition us e vs → vs ≡ then_word
    → IsForm IsStatementOf is_else_if ws (statements.ElseIf e)
else_if_is ws us vs e h k n = record {
  form = forms.ElseIf k.phrase;
  is_of = k.is;
  written = (subst (λ (z : List Word90). ElseIfs z ws) (k.same ∙ ap (closed k.phrase) n) h, k.good);
  among = refl;
}

pub not_then : (ws us vs : List Word90) (e : Expression) → ElseIfs us ws → IsOnlyCondition us e vs → (vs ≡ then_word → ⊥)
    → (f : Form90) → IsWritten90 f ws → IsTrue (is_else_if f) → ⊥
not_then ws us vs e h o n (forms.ElseIf p) w t =
    n (o p then_word w.1 (one_rest_of_heads (codes "ELSE") (codes "IF") us (closed p then_word) ws h w.0)).1
not_then ws us vs e h o n f w t = cc

no_else_condition : (ws us : List Word90) → ElseIfs us ws → ((p : Phrase90) (last : List Word90) → IsExpression90 p → us ≡ closed p last → ⊥)
    → (f : Form90) → IsWritten90 f ws → IsTrue (is_else_if f) → ⊥
no_else_condition ws us h o (forms.ElseIf p) w t = o p then_word w.1 (one_rest_of_heads (codes "ELSE") (codes "IF") us (closed p then_word) ws h w.0)
no_else_condition ws us h o f w t = cc

pub else_condition_lost : (ws us : List Word90) (stop : Stop) → ElseIfs us ws → FailsCondition stop us → ReadsStatement is_else_if ws (Err stop)
else_condition_lost ws us Syntax h o = no_else_condition ws us h o
else_condition_lost ws us Memory h o = tt

pub no_else_if : (ws : List Word90) → ((us : List Word90) → ElseIfs us ws → ⊥) → (f : Form90) → IsWritten90 f ws → IsTrue (is_else_if f) → ⊥
no_else_if ws o (forms.ElseIf p) w t = o (closed p then_word) w.0
no_else_if ws o f w t = cc

pub ruleset else_ifs = (else_if_is, not_then, else_condition_lost, no_else_if)

-- ---- DO

all_bounds : (a b : Phrase90) (c : Option Phrase90) → bounds_before a b c [] ≡ written_bounds90 a b c
all_bounds a b c = sym (bounds_are a b c []) ∙ append-nil (written_bounds90 a b c)

pub do_is : (ws us rest : List Word90) (x : List ℕ) (k : Bounds) → ws ≡ begun_loop x us → BeginsWithBounds us k rest → rest ≡ []
    → IsForm IsStatementOf is_do ws (statements.Do x k)
do_is ws us rest x k e h n = record {
  form = forms.Do x h.from h.to h.by;
  is_of = (refl, h.are);
  written = (e ∙ ap (begun_loop x) (h.same ∙ (ap (bounds_before h.from h.to h.by) n ∙ all_bounds h.from h.to h.by)), h.good.first, h.good.last, h.good.step);
  among = refl;
}

behind_do : (x y : List ℕ) (us vs : List Word90) → begun_loop x us ≡ begun_loop y vs → us ≡ vs
behind_do x y us vs e = cc

no_bounds : (ws us : List Word90) (x : List ℕ) → ws ≡ begun_loop x us
    → ((a b : Phrase90) (c : Option Phrase90) → AreBounds a b c → us ≡ bounds_before a b c [] → ⊥)
    → (f : Form90) → IsWritten90 f ws → IsTrue (is_do f) → ⊥
no_bounds ws us x e o (forms.Do y a b c) w t =
    o a b c (record { first = w.1; last = w.2; step = w.3 }) (behind_do x y us (written_bounds90 a b c) (sym e ∙ w.0) ∙ sym (all_bounds a b c))
no_bounds ws us x e o f w t = cc

pub more_bounds : (ws us rest : List Word90) (x : List ℕ) (k : Bounds) → ws ≡ begun_loop x us
    → ((a b : Phrase90) (c : Option Phrase90) (last : List Word90) → AreBounds a b c → EndsBounds last → us ≡ bounds_before a b c last → AreBoundsOf k a b c × (rest ≡ last))
    → (rest ≡ [] → ⊥) → (f : Form90) → IsWritten90 f ws → IsTrue (is_do f) → ⊥
more_bounds ws us rest x k e o n = no_bounds ws us x e (λ a b c g h. n (o a b c [] g tt h).1)

pub bounds_lost : (ws us : List Word90) (x : List ℕ) (stop : Stop) → ws ≡ begun_loop x us
    → ((a b : Phrase90) (c : Option Phrase90) (last : List Word90) → AreBounds a b c → EndsBounds last → us ≡ bounds_before a b c last → GivesBounds (Err stop) a b c last)
    → ReadsStatement is_do ws (Err stop)
bounds_lost ws us x Syntax e o = no_bounds ws us x e (λ a b c g h. o a b c [] g tt h)
bounds_lost ws us x Memory e o = tt

pub no_do : (ws : List Word90) → ((x : List ℕ) (us : List Word90) → ws ≡ begun_loop x us → ⊥) → (f : Form90) → IsWritten90 f ws → IsTrue (is_do f) → ⊥
no_do ws o (forms.Do x a b c) w t = o x (written_bounds90 a b c) w.0
no_do ws o f w t = cc

pub ruleset loops = (do_is, more_bounds, bounds_lost, no_do)

-- ---- labels

pub label_is : (ws : List Word90) (n : ℕ) → HasLabel n ws → IsForm IsStatementOf is_label ws (statements.Label n)
label_is ws n h = record { form = forms.Continue (h.first ∷ h.more); is_of = h.value; written = (h.same, h.few); among = refl }

pub no_label : (ws : List Word90) → ((d : ℕ) (ds : List ℕ) → forms.IsLabel90 (d ∷ ds) → ws ≡ labelled d ds → ⊥)
    → (f : Form90) → IsWritten90 f ws → IsTrue (is_label f) → ⊥
no_label ws o (forms.Continue (d ∷ ds)) w t = o d ds w.1 w.0
no_label ws o f w t = cc

pub ruleset labels = (label_is, no_label)
