-- The parts of lists that the code makes.
use Rattle.std.proofs.Common.{arith, ◌≡◌, ◌<◌, ◌≤◌, ◌+◌, ◌-◌, ℕ, zero, suc, Bool, true, false, List, [], ◌∷◌, ◌++◌, length, drop, refl, ap, sym, subst, ◌∙◌, Option, Result, Ok, Err, length-append, append_assoc}
use Rattle.std.specs.Prelude.{IsTrue, ◌↔◌}
use Rattle.std.specs.Borrow.{Bor}
use Rattle.f90_grammar.specs.Words as words
use Rattle.f90_grammar.specs.Words.{Word90}
use Rattle.f90_grammar.specs.Phrases as phrases
use Rattle.f90_grammar.specs.Phrases.{Phrase90, IsExpression90, written90}
use Rattle.f90_grammar.specs.Items as items
use Rattle.f90_grammar.specs.Items.{Direction, MayStand90, written_bounds90}
use Rattle.f90_laws.specs.unique.Unique.{EndsExpression}
use Rattle.f90_expressions.specs.words.Tokens.{words_of}
use Rattle.f90_expressions.specs.declared.words.tokens.Token.{Token}
use Rattle.reading.specs.declared.stops.Stop.{Stop}
use Rattle.reading.specs.declared.stops.Stop.TheVariants.{Syntax, Memory}
use Rattle.f90_expressions.specs.Reading.{IsMadeOf, Begins, Gives}
use Rattle.f90_expressions.specs.declared.nodes.Expression.{Expression}
use Rattle.f90_statement.specs.items.parts.Bounds.{AreBounds, AreBoundsOf, BeginsWithBounds, EndsBounds, GivesBounds, bounds_before}
use Rattle.f90_statement.specs.declared.items.parts.bounds.Bounds.{Bounds}
use Rattle.f90_statement.proofs.items.OfParts.BoundLaws.{bounds_are}
use Rattle.f90_statement.specs.items.Commas.{has_comma, comma_marks}
use Rattle.f90_statement.specs.items.Flat as flats
use Rattle.f90_statement.specs.items.Following.{Follows, Fronts}
use Rattle.f90_statement.specs.items.Views.{IsStep, Steps, IsReading, IsValueFront, Controls}
use Rattle.f90_statement.specs.declared.items.nodes.Node.{Node}
use Rattle.f90_statement.specs.declared.items.nodes.Node.TheVariants as nodes
use Rattle.f90_statement.specs.declared.items.reader.Step.{Step}
use Rattle.f90_statement.proofs.items.ReadLaws.{failed, left_open}
use Rattle.f90_statement.proofs.items.StepLaws.{IsNoTurn, control_front, IsOnlyBounds, value_fronts, value_none, value_refused, text_fronts, text_none, list_fronts, comma_fronts, comma_none, no_comma, control_fronts, control_none}

abbrev pub step_of : Node → Bool → ℕ → Bor (List Token) → Step
step_of k due n r = record { node = k; due = due; loops = n; rest = r }

-- ---- how many words are left

some_written : (p : Phrase90) → 0 < length (written90 p)
some_written (phrases.Literal t) = omega arith
some_written (phrases.Truth b) = omega arith
some_written (phrases.Name x) = omega arith
some_written (phrases.Listed x ps) = omega arith
some_written (phrases.Paren p) = omega arith
some_written (phrases.Signed s p) = omega arith
some_written (phrases.Joined o a b) = let k = some_written a in let m = length-append (written90 a) (words.Operator o ∷ written90 b) in omega arith
some_written (phrases.Values ps) = omega arith
some_written (phrases.Looped t) = omega arith

fewer : (n : ℕ) (ws front rest : List Word90) → ws ≡ front ++ rest → n + length rest ≤ n + length ws
fewer n ws front rest e = let k = ap (length {A = Word90}) e in let m = length-append front rest in omega arith

-- ---- an item that is an expression

abbrev IsRead : Expression → List Word90 → List Word90 → Type 0
IsRead e ws rest = (q : Phrase90) (us : List Word90) → IsExpression90 q → EndsExpression us → ws ≡ written90 q ++ us → IsMadeOf e q × (rest ≡ us)

abbrev Tells : Bool → Direction → Expression → Type 0
Tells b d e = (p : Phrase90) → IsMadeOf e p → IsTrue b ↔ MayStand90 d p

pub value_is : (d : Direction) (n : ℕ) (ws : List Word90) (e : Expression) (r : Bor (List Token)) (b : Bool) → IsValueFront ws → Begins ws e (words_of r.now)
    → IsRead e ws (words_of r.now) → Tells b d e → b ≡ true → IsStep d true n ws (step_of (nodes.Value e) false n r)
value_is d n ws e r b v f o k t = record {
  part = flats.Of f.phrase;
  is = f.is;
  fronts = value_fronts d n ws f.phrase (words_of r.now) f.good f.same (λ q us g x h. (o q us g x h).1) v ((k f.phrase f.is).0 t);
  front = written90 f.phrase;
  same = f.same;
  some = some_written f.phrase;
  few = fewer n ws (written90 f.phrase) (words_of r.now) f.same;
}

clash : (b : Bool) → b ≡ true → b ≡ false → ⊥
clash b h k = absurd (cc)

pub value_unfit : (d : Direction) (n : ℕ) (ws : List Word90) (e : Expression) (rest : List Word90) (b : Bool) → IsValueFront ws → Begins ws e rest → IsRead e ws rest
    → Tells b d e → b ≡ false → (ns : List flats.Node) → Follows d true n ws ns → ⊥
value_unfit d n ws e rest b v f o k t =
    value_refused d n ws f.phrase rest f.good f.same (λ q us g x h. (o q us g x h).1) v (λ m. clash b ((k f.phrase f.is).1 m) t)

pub value_err : (d : Direction) (n : ℕ) (ws : List Word90) (stop : Stop) → IsValueFront ws
    → ((q : Phrase90) (us : List Word90) → IsExpression90 q → EndsExpression us → ws ≡ written90 q ++ us → Gives (Err stop) q us) → Steps (Err stop) d true n ws
value_err d n ws Syntax v o = value_none d n ws o v
value_err d n ws Memory v o = tt

-- ---- character constants

pub text_is : (n : ℕ) (t u : List ℕ) (r : Bor (List Token)) → u ≡ t → IsStep items.Output true n (words.Constant t ∷ words_of r.now) (step_of (nodes.Text u) false n r)
text_is n t u r e = record {
  part = flats.Text t;
  is = e;
  fronts = text_fronts n (words.Constant t ∷ words_of r.now) t (words_of r.now) refl;
  front = words.Constant t ∷ [];
  same = refl;
  some = omega arith;
  few = omega arith;
}

pub text_unfit : (n : ℕ) (t : List ℕ) (rest : List Word90) → (ns : List flats.Node) → Follows items.Input true n (words.Constant t ∷ rest) ns → ⊥
text_unfit n t rest = text_none n (words.Constant t ∷ rest) t rest refl

-- ---- implied DO lists

pub list_is : (d : Direction) (n : ℕ) (ws : List Word90) (r : Bor (List Token)) → ws ≡ words.Open ∷ words_of r.now → has_comma (words_of r.now) 0 ≡ true
    → IsStep d true n ws (step_of nodes.Begin true (n + 1) r)
list_is d n ws r e m = record {
  part = flats.Begin;
  is = tt;
  fronts = subst (λ (k : ℕ). Fronts d true n ws flats.Begin true k (words_of r.now)) (one_more n) (list_fronts d n ws (words_of r.now) e m);
  front = words.Open ∷ [];
  same = e;
  some = omega arith;
  few = (let k = ap (length {A = Word90}) e in omega arith);
}
  where
    one_more : (n : ℕ) → suc n ≡ n + 1
    one_more n = omega arith

pub first_mark : (marks : List Bool) (ws : List Word90) (w : Word90) (rest : List Word90) → marks ≡ comma_marks ws → ws ≡ w ∷ rest → marks ≡ has_comma rest 0 ∷ comma_marks rest
first_mark marks ws w rest h e = h ∙ ap comma_marks e

pub no_open : (ws : List Word90) → ((t : List ℕ) (us : List Word90) → ws ≡ words.Constant t ∷ us → ⊥) → ((us : List Word90) → ws ≡ words.Open ∷ us → ⊥) → IsValueFront ws
no_open ws n o = record { no_text = n; no_list = λ us e. absurd (o us e) }

pub no_mark : (ws rest : List Word90) → ((t : List ℕ) (us : List Word90) → ws ≡ words.Constant t ∷ us → ⊥) → ws ≡ words.Open ∷ rest → has_comma rest 0 ≡ false → IsValueFront ws
no_mark ws rest n e m = record { no_text = n; no_list = λ us f. let k : us ≡ rest = behind us rest (sym f ∙ e) in ap (λ (q : List Word90). has_comma q 0) k ∙ m }
  where
    behind : (us vs : List Word90) → words.Open ∷ us ≡ words.Open ∷ vs → us ≡ vs
    behind us vs e = cc

-- ---- of other words, and behind a comma

pub steps_at : (r : Result Step Stop) (d : Direction) (due : Bool) (n : ℕ) (ws vs : List Word90) → vs ≡ ws → Steps r d due n ws → Steps r d due n vs
steps_at r d due n ws vs e h = subst (λ (q : List Word90). Steps r d due n q) (sym e) h

pub behind_comma : (r : Result Step Stop) (d : Direction) (n : ℕ) (us : List Word90) → IsNoTurn n us → Steps r d true n us → Steps r d false n (words.Comma ∷ us)
behind_comma (Ok s) d n us t h = record {
  part = h.part;
  is = h.is;
  fronts = comma_fronts d n us h.part s.due s.loops (words_of s.rest.now) t h.fronts;
  front = words.Comma ∷ h.front;
  same = ap (λ (q : List Word90). words.Comma ∷ q) h.same;
  some = omega arith;
  few = (let k = h.few in omega arith);
}
behind_comma (Err Syntax) d n us t h = comma_none d n us t h
behind_comma (Err Memory) d n us t h = tt

pub no_loops : (us : List Word90) (n : ℕ) → n ≡ 0 → IsNoTurn n us
no_loops us n e x vs l f = omega arith

pub no_control : (us : List Word90) (n : ℕ) → ((x : List ℕ) (vs : List Word90) → us ≡ words.Name x ∷ (words.Equals ∷ vs) → ⊥) → IsNoTurn n us
no_control us n o x vs l f = o x vs f

-- ---- the end of an implied DO list

abbrev IsReadBounds : Bounds → List Word90 → List Word90 → Type 0
IsReadBounds k us w = (a b : Phrase90) (c : Option Phrase90) (rest : List Word90) → AreBounds a b c → EndsBounds rest → us ≡ bounds_before a b c rest → AreBoundsOf k a b c × (w ≡ rest)

only_bounds : (k : Bounds) (us w rest : List Word90) → IsReadBounds k us w → w ≡ words.Close ∷ rest → IsOnlyBounds us (words.Close ∷ rest)
only_bounds k us w rest o e a b c vs g f = sym e ∙ (o a b c (words.Close ∷ vs) g tt (f ∙ bounds_are a b c (words.Close ∷ vs))).1

pub control_is : (d : Direction) (n : ℕ) (x : List ℕ) (us w : List Word90) (k : Bounds) (r : Bor (List Token)) → 0 < n → BeginsWithBounds us k w → w ≡ words.Close ∷ words_of r.now
    → IsReadBounds k us w → IsStep d false n (control_front x us) (step_of (nodes.Turns x k) false (n - 1) r)
control_is d zero x us w k r l f e o = absurd (omega arith)
control_is d (suc n) x us w k r l f e o =
    let s : us ≡ written_bounds90 f.from f.to f.by ++ words.Close ∷ words_of r.now
    = f.same ∙ (ap (bounds_before f.from f.to f.by) e ∙ sym (bounds_are f.from f.to f.by (words.Close ∷ words_of r.now))) in
    let fronts : Fronts d false (suc n) (control_front x us) (flats.Turns x f.from f.to f.by) false n (words_of r.now)
    = control_fronts d n x us f.from f.to f.by (words_of r.now) f.good s (only_bounds k us w (words_of r.now) o e) in
    let front : List Word90 = control_front x (written_bounds90 f.from f.to f.by ++ words.Close ∷ []) in
    let same : control_front x us ≡ front ++ words_of r.now
    = ap (control_front x) (s ∙ sym (append_assoc (written_bounds90 f.from f.to f.by) (words.Close ∷ []) (words_of r.now))) in
    record {
      part = flats.Turns x f.from f.to f.by;
      is = (refl, f.are);
      fronts = subst (λ (m : ℕ). Fronts d false (suc n) (control_front x us) (flats.Turns x f.from f.to f.by) false m (words_of r.now)) (one_less n) fronts;
      front = front;
      same = same;
      some = omega arith;
      few = (let j = fewer n (control_front x us) front (words_of r.now) same in omega arith);
    }
  where
    one_less : (n : ℕ) → n ≡ suc n - 1
    one_less n = omega arith

pub control_unclosed : (d : Direction) (n : ℕ) (x : List ℕ) (us w : List Word90) (k : Bounds) → IsReadBounds k us w → ((q : List Word90) → w ≡ words.Close ∷ q → ⊥)
    → (ns : List flats.Node) → Follows d false n (control_front x us) ns → ⊥
control_unclosed d n x us w k o none =
    control_none d n x us (λ a b c vs g f. none vs (o a b c (words.Close ∷ vs) g tt (f ∙ bounds_are a b c (words.Close ∷ vs))).1)

pub control_err : (d : Direction) (n : ℕ) (x : List ℕ) (us : List Word90) (stop : Stop)
    → ((a b : Phrase90) (c : Option Phrase90) (rest : List Word90) → AreBounds a b c → EndsBounds rest → us ≡ bounds_before a b c rest → GivesBounds (Err stop) a b c rest)
    → Controls (Err stop) d n x us
control_err d n x us Syntax o = control_none d n x us (λ a b c vs g f. o a b c (words.Close ∷ vs) g tt (f ∙ bounds_are a b c (words.Close ∷ vs)))
control_err d n x us Memory o = tt

-- without a comma
pub no_further : (d : Direction) (n : ℕ) (ws : List Word90) → 0 < length ws → ((us : List Word90) → ws ≡ words.Comma ∷ us → ⊥) → Steps (Err Syntax) d false n ws
no_further d n ws l o = no_comma d n ws l o

-- ---- the marks of what is left

length_marks : (ws : List Word90) → length (comma_marks ws) ≡ length ws
length_marks [] = refl
length_marks (w ∷ ws) = ap suc (length_marks ws)

marks_behind : (front ws : List Word90) → drop (length front) (comma_marks (front ++ ws)) ≡ comma_marks ws
marks_behind [] ws = refl
marks_behind (w ∷ front) ws = marks_behind front ws

pub marks_left : (all front ws : List Word90) (n : ℕ) → all ≡ front ++ ws → n ≡ length all - length ws → drop n (comma_marks all) ≡ comma_marks ws
marks_left all front ws n e k =
    let l = ap (length {A = Word90}) e in
    let m = length-append front ws in
    let j : n ≡ length front = omega arith in
    ap (λ (i : ℕ). drop i (comma_marks all)) j ∙ (ap (λ (q : List Word90). drop (length front) (comma_marks q)) e ∙ marks_behind front ws)

length_words : (ts : List Token) → length (words_of ts) ≡ length ts
length_words [] = refl
length_words (t ∷ ts) = ap suc (length_words ts)

pub empty_words : (ts : List Token) → length ts ≡ 0 → words_of ts ≡ []
empty_words [] e = refl
empty_words (t ∷ ts) e = absurd (omega arith)

abbrev IsReadingAt : Direction → List Token → List Node → Bool → ℕ → List Token → Type 0
IsReadingAt d tokens nodes due n rest = IsReading d (words_of tokens) nodes due n (words_of rest)

pub marks_fit : (marks : List Bool) (tokens rest : List Token) (d : Direction) (ns : List Node) (due : Bool) (n : ℕ) → marks ≡ comma_marks (words_of tokens)
    → IsReadingAt d tokens ns due n rest → length rest ≤ length marks
marks_fit marks tokens rest d ns due n h r =
    let a = ap (length {A = Bool}) h in
    let b = length_marks (words_of tokens) in
    let c = length_words tokens in
    let e = length_words rest in
    let f = r.few in
    omega arith

pub marks_left_at : (marks : List Bool) (tokens rest : List Token) (d : Direction) (ns : List Node) (due : Bool) (n : ℕ) → marks ≡ comma_marks (words_of tokens)
    → IsReadingAt d tokens ns due n rest → drop (length marks - length rest) marks ≡ comma_marks (words_of rest)
marks_left_at marks tokens rest d ns due n h r =
    let b = length_marks (words_of tokens) in
    let e = length_words rest in
    let a = ap (length {A = Bool}) h in
    let k : length marks - length rest ≡ length (words_of tokens) - length (words_of rest) = omega arith in
    ap (λ (q : List Bool). drop (length marks - length rest) q) h ∙ marks_left (words_of tokens) r.front (words_of rest) (length marks - length rest) r.same k

pub no_further_at : (d : Direction) (due : Bool) (n : ℕ) (ts : List Token) → due ≡ false → 0 < length ts → ((us : List Word90) → words_of ts ≡ words.Comma ∷ us → ⊥)
    → (ns : List flats.Node) → Follows d due n (words_of ts) ns → ⊥
no_further_at d due n ts e l o ns h =
    let k = length_words ts in
    no_comma d n (words_of ts) (omega arith) o ns (subst (λ (b : Bool). Follows d b n (words_of ts) ns) e h)

pub left_open_at : (d : Direction) (all : List Word90) (ns : List Node) (due : Bool) (n : ℕ) (ws : List Word90) → IsReading d all ns due n ws → due ≡ false → ws ≡ [] → 0 < n
    → (whole : List flats.Node) → Follows d true 0 all whole → ⊥
left_open_at d all ns due n ws r e f l =
    failed d all ns due n ws r (λ ms h. left_open d n l ms (subst (λ (q : List Word90). Follows d false n q ms) f (subst (λ (b : Bool). Follows d b n ws ms) e h)))

pub ruleset values = (value_is, value_unfit, value_err)

pub ruleset texts = (text_is, text_unfit)

pub ruleset lists = (list_is, no_open, no_mark, steps_at)

pub ruleset commas = (behind_comma, no_loops, no_control, steps_at)

pub ruleset controls = (control_is, control_unclosed, control_err)

pub ruleset parts = (steps_at, no_further)
