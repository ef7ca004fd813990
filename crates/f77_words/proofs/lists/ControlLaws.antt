-- DO variables with their parameters, in the words of the grammar.
use Rattle.std.proofs.Common.{◌≡◌, List, [], ◌∷◌, ◌++◌, length, ap, sym, ◌∙◌, append-nil, arith, Result, Ok, Err, refl, true, false}
use Rattle.std.specs.Prelude.{◌==◌, ℕ, max, IsErrOf}
use Rattle.std.proofs.lemmas.Bool.{both_ways, eqb-true}
use Rattle.std.specs.Result.{IsErrAnd}
use Rattle.std.specs.Prelude.{Some, None}
use Rattle.f77_grammar.specs.expressions.Words as words
use Rattle.f77_grammar.specs.expressions.Words.{Word77}
use Rattle.f77_grammar.specs.statements.Controls.{Control, IsControl, written_control}
use Rattle.reading.specs.declared.stops.Stop.{Stop}
use Rattle.reading.specs.declared.stops.Stop.TheVariants.{Syntax, Memory}
use Rattle.f77_words.specs.declared.lists.controls.DoControl.{DoControl}
use Rattle.f77_words.specs.lists.Reader as reader
use Rattle.f77_words.specs.lists.Reading.{Given, IsControlOf, IsWholeControl}
use Rattle.f77_expressions.specs.Views.{words_of}
use Rattle.f77_expressions.specs.declared.tokens.Token.{Token}
use Rattle.f77_words.specs.lists.Views.{Fails, Lacks, control_of, frame_of, stack}
use Rattle.f77_words.proofs.lists.Stacks.{stack_push}
use Rattle.f77_expressions.specs.Reader.{deeper}
use Rattle.tree.specs.Plain.{Item}
use Rattle.tree.specs.View.{item_of}
use Rattle.tree.specs.declared.stmts.Item.TheVariants.{Turns}
use Rattle.tree.proofs.Equations.{item_of-turns}
use Rattle.f77_words.specs.declared.lists.lists.ItemList.{ItemList}
use Rattle.f77_words.proofs.lists.Complete as complete
use Rattle.f77_words.proofs.lists.Complete.{control_is_read}
use Rattle.f77_words.proofs.lists.Sound.{control_found}

made : (m : DoControl) (rest : List Word77) (k : Control) → control_of m rest ≡ complete.control_of k rest → IsControlOf m k
made m rest k e = record {
  variable = ap (λ (q : reader.ReadControl). q.variable) e;
  first = ap (λ (q : reader.ReadControl). q.first) e;
  last = ap (λ (q : reader.ReadControl). q.last) e;
  step = ap (λ (q : reader.ReadControl). q.step) e;
  depth = ap (λ (q : reader.ReadControl). q.depth) e ∙ omega arith;
}

pub whole_found : (ws rest : List Word77) (m : DoControl) → reader.control ws ≡ Some (control_of m rest) → rest ≡ [] → IsWholeControl ws m
whole_found ws rest m h e =
    let f = control_found ws (control_of m rest) h in
    record { control = f.control; good = f.good; is = made m rest f.control f.is; same = f.text_is ∙ (ap (λ (q : List Word77). written_control f.control ++ q) e ∙ append-nil (written_control f.control)) }

pub whole_is_read : (ws : List Word77) (k : Control) → IsControl k → ws ≡ written_control k → reader.control ws ≡ Some (complete.control_of k [])
whole_is_read ws k h e = ap reader.control (e ∙ sym (append-nil (written_control k))) ∙ control_is_read k [] h tt

pub whole_only : (ws rest : List Word77) (m : DoControl) (k : Control) → reader.control ws ≡ Some (control_of m rest) → rest ≡ [] → IsControl k → ws ≡ written_control k → IsControlOf m k
whole_only ws rest m k h n g e =
    let r = sym h ∙ whole_is_read ws k g e in
    let q : control_of m rest ≡ complete.control_of k [] = cc in made m [] k (sym (ap (control_of m) n) ∙ q)

pub something_left : (ws rest : List Word77) (m : DoControl) (k : Control) → reader.control ws ≡ Some (control_of m rest) → IsControl k → ws ≡ written_control k → rest ≡ []
something_left ws rest m k h g e =
    let r = sym h ∙ whole_is_read ws k g e in
    let q : control_of m rest ≡ complete.control_of k [] = cc in ap (λ (c : reader.ReadControl). c.rest) q

pub nothing_read : (ws : List Word77) → reader.control ws ≡ None → (k : Control) → IsControl k → ws ≡ written_control k → ⊥
nothing_read ws h k g e = let r = sym h ∙ whole_is_read ws k g e in let q : ⊥ = cc in q

-- nothing is read of a DO variable with its parameters, unless memory ran out
pub not_read : (ws : List Word77) (e : Stop) → Lacks e (reader.control ws) → (k : Control) → IsControl k → ws ≡ written_control k → Given {A = DoControl} (Err e) (λ m. IsControlOf m k)
not_read ws Syntax h k g e = nothing_read ws h k g e
not_read ws Memory h k g e = tt

-- what `?` gives where it leaves a function with the same error
pub residual : {A E : Type 0} {r : Result A E} {e : E} → IsErrAnd r (λ x. x ≡ e) → r ≡ Err e
residual {r = Ok x} h = absurd h
residual {r = Err x} h = ap (λ y. let q = Err y in q) h

-- ---- the end of the words

pub none_left : (ts : List Token) → true ≡ (length ts == 0) → words_of ts ≡ []
none_left [] h = refl
none_left (t ∷ ts) h = absurd (let e : length (t ∷ ts) ≡ 0 = eqb-true _ _ (sym h) in omega arith)

pub some_left : (ts : List Token) → false ≡ (length ts == 0) → words_of ts ≡ [] → ⊥
some_left [] h e = absurd (both_ways _ (sym h) refl)
some_left (t ∷ ts) h e = cc

-- ---- the end of an implied DO list

-- without a parenthesis that closes, no list ends
not_closed : (fs : List reader.Frame) (k : reader.ReadControl) (ws : List Word77) → ((rest : List Word77) → ws ≡ words.Close ∷ rest → ⊥) → reader.ended fs k ws ≡ reader.Fail
not_closed [] k ws h = refl
not_closed (f ∷ fs) k [] h = refl
not_closed (f ∷ fs) k (words.Number x ∷ ws) h = refl
not_closed (f ∷ fs) k (words.Wide ∷ ws) h = refl
not_closed (f ∷ fs) k (words.Truth x ∷ ws) h = refl
not_closed (f ∷ fs) k (words.Name x ∷ ws) h = refl
not_closed (f ∷ fs) k (words.Head x ∷ ws) h = refl
not_closed (f ∷ fs) k (words.Operator x ∷ ws) h = refl
not_closed (f ∷ fs) k (words.Open ∷ ws) h = refl
not_closed (f ∷ fs) k (words.Close ∷ ws) h = absurd (h ws refl)
not_closed (f ∷ fs) k (words.Comma ∷ ws) h = refl
not_closed (f ∷ fs) k (words.Equals ∷ ws) h = refl
not_closed (f ∷ fs) k (words.Colon ∷ ws) h = refl
not_closed (f ∷ fs) k (words.Constant x ∷ ws) h = refl

pub list_goes_on : (fs : List reader.Frame) (ws rest : List Word77) (m : DoControl) → reader.control ws ≡ Some (control_of m rest) → ((after : List Word77) → rest ≡ words.Close ∷ after → ⊥) → reader.repeat fs (reader.control ws) ≡ reader.Fail
list_goes_on fs ws rest m h g = ap (reader.repeat fs) h ∙ not_closed fs (control_of m rest) rest g

-- with one, the innermost list ends
pub list_ends : (lists before : List ItemList) (l : ItemList) (m : DoControl) (ws rest after : List Word77) (n : ℕ) (s : reader.Step)
    → lists ≡ before ++ l ∷ [] → reader.control ws ≡ Some (control_of m rest) → rest ≡ words.Close ∷ after → n ≡ deeper (max l.depth m.depth)
    → reader.put (item_of (Turns l.items m.variable m.first m.last m.step)) n (stack before) after ≡ s → reader.repeat (stack lists) (reader.control ws) ≡ s
list_ends lists before l m ws rest after n s e h r d p =
    ap (λ (fs : List reader.Frame). reader.repeat fs (reader.control ws)) (ap stack e ∙ stack_push before l)
    ∙ (ap (reader.repeat (frame_of l ∷ stack before)) (h ∙ ap (λ (q : List Word77). Some (control_of m q)) r)
    ∙ (ap (λ (i : Item). reader.put i (deeper (max l.depth m.depth)) (stack before) after) (sym (item_of-turns l.items m.variable m.first m.last m.step))
    ∙ (ap (λ (k : ℕ). reader.put (item_of (Turns l.items m.variable m.first m.last m.step)) k (stack before) after) (sym d) ∙ p)))

pub fails : {T : Type 0} (e : Stop) (step : reader.Step) → (IsErrOf {T = T} (Err e) Syntax → step ≡ reader.Fail) → Fails e step
fails Syntax step h = h refl
fails Memory step h = tt
