-- The statements of a text that have no form, and those of a text in which each has one.
use Rattle.std.proofs.Common.{arith, ◌≡◌, ◌⊎◌, inl, inr, ◌+◌, ◌<◌, ◌≤◌, ℕ, zero, suc, Bool, true, false, IsTrue, cond}
use Rattle.std.proofs.Common.{List, [], ◌∷◌, ◌++◌, drop, length, get_or, Contains, refl, ap, sym, subst, ◌∙◌}
use Rattle.std.proofs.Common.{append_assoc, append-nil, Option, Some, None, Result, Ok}
use mathlib.Core.Path.{fun_ext}
use Rattle.std.specs.List.{AllByRecursion}
use Rattle.std.specs.Prelude.{◌↔◌, min}
use Rattle.std.specs.Str.{bytes_eq}
use Rattle.std.specs.Str.Lines.{lines}
use Rattle.std.proofs.lemmas.Bool.Decides.{nat_tests}
use Rattle.std.proofs.lemmas.List.{drop_more, drop_all}
use Rattle.std.proofs.lemmas.List.Elements.{Contains-append_cases, Contains-append_right}
use Rattle.std.proofs.lemmas.Slice.Eq.{bytes_eq-Decides}
use Rattle.tree.specs.Causes.{refusal_at}
use Rattle.tree.specs.Functions.{intrinsic_named}
use Rattle.tree.specs.declared.functions.Intrinsic.{Intrinsic}
use Rattle.tree.specs.declared.lists.Memory.{Memory}
use Rattle.tree.specs.declared.refusals.Cause.TheVariants.{Syntax90}
use Rattle.tree.specs.declared.refusals.Refusal.{Refusal}
use Rattle.tree.specs.declared.stmts.Mark.{Mark}
use Rattle.meaning.specs.Names.{is_among}
use Rattle.reading.specs.refusal_order.Answered.{IsAnswered, comes_before}
use Rattle.reading.proofs.refusal_order.Answered.{one_answer}
use Rattle.f90_grammar.specs.Blocks as grammar
use Rattle.f90_grammar.specs.Contents.{SuitsCallsIn}
use Rattle.f90_grammar.specs.Forms.{Form90}
use Rattle.f90_grammar.specs.FreeForm.{FreeStatement, AreStatements}
use Rattle.f90_grammar.specs.Reading.{HaveForms, takes_mark, last_mark, if_taken, mark_left_over}
use Rattle.f90_grammar.specs.Refusals.{IsFormOf90, IsDeclaredIn, HasNoForm90, functions_but}
use Rattle.f90_laws.proofs.readings.Lists.{here, nowhere, cases_of, all_at, all_both, any_true, found}
use Rattle.f90_laws.proofs.read_back.DeclaredNames.{same_functions}
use Rattle.f90_laws.proofs.unique.Statements.{one_statement}
use Rattle.f90_statement.specs.Views.{AreOf, IsStatementOf}
use Rattle.f90_statement.specs.declared.nodes.Statement.{Statement}
use Rattle.f90_lines.specs.Views.{statement_seen, statements_seen}
use Rattle.f90_lines.specs.declared.readings.Statement as written
use Rattle.f90_blocks.specs.places.forms.Forms.{IsFormIn, HasForm}
use Rattle.f90_blocks.specs.places.forms.Places.{HavePlaces}
use Rattle.f90_blocks.specs.declared.places.forms.placing.Placed.{Placed}
use Rattle.f90_blocks.proofs.places.OfForms.FormLaws.{left_at, none_left}
use Rattle.f90_blocks.proofs.places.RisingLaws.{statements_rise}
use Rattle.f90_names.proofs.calls.CallLaws.{tells_by}
use Rattle.f90_names.specs.calls.Calls.{Tells}
use Rattle.f90_names.specs.calls.Formless.{HasSuitedForm, HaveSuitedForms, IsFirstFormless, IsFormless}
use Rattle.f90_names.specs.calls.Hiding.{HidesDeclared}

-- ---- names that are declared hide the same functions

is_member : (xs : List (List ℕ)) (x : List ℕ) → Contains xs x → is_among xs x ≡ true
is_member xs x c = any_true (bytes_eq x) xs x c ((bytes_eq-Decides x x).1 refl)

member : (xs : List (List ℕ)) (x : List ℕ) → is_among xs x ≡ true → Contains xs x
member xs x e =
    let n = found (bytes_eq x) xs e in
    subst (Contains xs) (sym ((bytes_eq-Decides x n.it).0 n.passes)) n.among

both : (a b : Bool) → (a ≡ true → b ≡ true) → (b ≡ true → a ≡ true) → a ≡ b
both true b f g = sym (f refl)
both false true f g = g refl
both false false f g = refl

same_but : (ss : List FreeStatement) (xs ys : List (List ℕ)) → ((x : List ℕ) → Contains xs x ↔ IsDeclaredIn ss x)
    → ((x : List ℕ) → Contains ys x ↔ IsDeclaredIn ss x)
    → functions_but xs ≡ functions_but ys
same_but ss xs ys h k =
    fun_ext (λ x. ap (λ b. cond b None (intrinsic_named x))
    (both (is_among xs x) (is_among ys x) (λ e. is_member ys x ((k x).1 ((h x).0 (member xs x e))))
    (λ e. is_member xs x ((h x).1 ((k x).0 (member ys x e))))))

-- ---- where the declared names are no functions

module _ (function : List ℕ → Option Intrinsic) (ss : List FreeStatement) (hides : HidesDeclared ss function) where
  function_is : function ≡ functions_but hides.declared
  function_is = fun_ext hides.same

  has_none : (s : FreeStatement) → (HasSuitedForm function s → ⊥) → HasNoForm90 ss s
  has_none s h = record {
    declared = hides.declared;
    are_declared = hides.are_declared;
    none = λ f o c.
        h (record {
          form = f;
          is = o;
          suits = subst (λ (g : List ℕ → Option Intrinsic). SuitsCallsIn g f)
              (sym function_is) c;
        });
  }

  has_one : (s : FreeStatement) → HasSuitedForm function s → HasNoForm90 ss s → ⊥
  has_one s h n =
      n.none h.form h.is
      (subst (λ (g : List ℕ → Option Intrinsic). SuitsCallsIn g h.form)
      (function_is ∙ same_but ss hides.declared n.declared hides.are_declared n.are_declared) h.suits)

  pub unrefused : AllByRecursion (HasSuitedForm function) ss → (s : FreeStatement) → Contains ss s → HasNoForm90 ss s → ⊥
  unrefused h s c n = has_one s (all_at (HasSuitedForm function) ss s h c) n

  -- ---- the first without a form is answered

  record IsBehind (xs : List FreeStatement) (s : FreeStatement) : Type 0 where
    pub between : List FreeStatement
    pub after : List FreeStatement
    pub same : xs ≡ between ++ s ∷ after

  behind : (xs : List FreeStatement) (s : FreeStatement) → Contains xs s → IsBehind xs s
  behind [] s c = absurd (nowhere s c)
  behind (x ∷ xs) s c = by (behind xs s) (cases_of x xs s c)
    where
      by : (Contains xs s → IsBehind xs s) → (x ≡ s) ⊎ Contains xs s → IsBehind (x ∷ xs) s
      by more (inl e) = record { between = []; after = xs; same = ap (λ (y : FreeStatement). y ∷ xs) e }
      by more (inr d) =
          let r = more d in record {
            between = x ∷ r.between;
            after = r.after;
            same = ap
                (λ (ys : List FreeStatement). x ∷ ys) r.same;
          }

  not_before : (a b : ℕ) → b ≤ a → comes_before (refusal_at Syntax90 a) (refusal_at Syntax90 b) ≡ false
  not_before a b l = grind (arith, nat_tests)

  module _ (text : List ℕ) (of_text : AreStatements 1 (lines text) ss) (line : ℕ) (f : IsFirstFormless function ss line)
    where
      in_order : (t : FreeStatement) → Contains f.after t → f.statement.line < t.line
      in_order t c =
          let b = behind f.after t c in
          statements_rise text f.before b.between b.after f.statement t
          (subst (AreStatements 1 (lines text))
          (f.in_text ∙ ap (λ (ts : List FreeStatement). f.before ++ f.statement ∷ ts) b.same) of_text)

      not_sooner : (t : FreeStatement) → Contains ss t → HasNoForm90 ss t → f.statement.line ≤ t.line
      not_sooner t c n =
          by (Contains-append_cases f.before (f.statement ∷ f.after) t
          (subst (λ (ts : List FreeStatement). Contains ts t) f.in_text c))
        where
          at_or_behind : (f.statement ≡ t) ⊎ Contains f.after t → f.statement.line ≤ t.line
          at_or_behind (inl e) = let m : f.statement.line ≡ t.line = ap (λ (s : FreeStatement). s.line) e in omega arith
          at_or_behind (inr d) = let m : f.statement.line < t.line = in_order t d in omega arith

          by : Contains f.before t ⊎ Contains (f.statement ∷ f.after) t → f.statement.line ≤ t.line
          by (inl d) = absurd (has_one t (all_at (HasSuitedForm function) f.before t f.suited d) n)
          by (inr d) = at_or_behind (cases_of f.statement f.after t d)

      stands : Contains ss f.statement
      stands =
          subst (λ (ts : List FreeStatement). Contains ts f.statement) (sym f.in_text)
          (Contains-append_right f.before (f.statement ∷ f.after) f.statement (here f.statement f.after))

      pub answered : IsAnswered (IsFormless ss) (refusal_at Syntax90 line)
      answered = record {
        holds = record {
          statement = f.statement;
          stands = stands;
          none = has_none f.statement f.formless;
          refusal = ap
              (refusal_at Syntax90) f.line_is;
        };
        first = λ other o.
            let n = not_sooner o.statement o.stands o.none in
            ap (λ (r : Refusal). comes_before r (refusal_at Syntax90 line)) o.refusal
            ∙ (ap (λ (m : ℕ). comes_before (refusal_at Syntax90 o.statement.line) (refusal_at Syntax90 m)) f.line_is
            ∙ not_before o.statement.line f.statement.line n);
      }

  -- one has none
  pub refused : (line : ℕ) → IsFirstFormless function ss line
      → ((s : FreeStatement) → Contains ss s → HasNoForm90 ss s → ⊥) → ⊥
  refused line f h =
      h f.statement
      (subst (λ (ts : List FreeStatement). Contains ts f.statement) (sym f.in_text)
      (Contains-append_right f.before (f.statement ∷ f.after) f.statement (here f.statement f.after)))
      (has_none f.statement f.formless)

  -- ---- each has one

  calls : (m : Option Mark) (ts : List FreeStatement) (ps : List grammar.Placed) → HaveForms m ts ps
      → AllByRecursion (HasSuitedForm function) ts
      → AllByRecursion (λ (p : grammar.Placed). SuitsCallsIn function p.form) ps
  calls m ts [] h k = tt
  calls m [] (p ∷ ps) h k = absurd h
  calls m (t ∷ ts) (p ∷ ps) h k = (
    subst (λ (f : Form90). SuitsCallsIn function f) (one_statement t k.0.form p.form k.0.is h.2) k.0.suits,
    calls _ ts
        ps h.3 k.1,
  )

  pub have_suited : (text : List Placed) → HavePlaces ss text → AllByRecursion (HasSuitedForm function) ss
      → HaveSuitedForms ss text
  have_suited text h k = record {
    placed = h.placed;
    are = h.are;
    have = h.have;
    calls =
        subst (λ (g : List ℕ → Option Intrinsic). AllByRecursion (λ (p : grammar.Placed). SuitsCallsIn g p.form)
        h.placed)
        (function_is ∙ sym (same_functions ss h.placed h.have hides.declared hides.are_declared))
        (calls None ss h.placed h.have k);
  }

-- they have places
pub have_places : (function : List ℕ → Option Intrinsic) (m : Option Mark) (ss : List FreeStatement)
    → AllByRecursion (HasSuitedForm function) ss
    → (ps : List grammar.Placed) × HaveForms m ss ps
have_places function m [] k = ([], tt)
have_places function m (s ∷ ss) k =
    let mark : Option Mark = last_mark m s.ahead in
    let taken : Bool = takes_mark k.0.form in
    let more = have_places function (last_mark (mark_left_over taken mark) s.within) ss k.1 in
    (grammar.placed_form s.line (if_taken taken mark) k.0.form ∷ more.0, (refl, refl, k.0.is, more.1))

-- what is answered is answered once
pub answered_once : (ss : List FreeStatement) (r s : Refusal) → IsAnswered (IsFormless ss) r
    → IsAnswered (IsFormless ss) s → r ≡ s
answered_once ss r s h k = one_answer (IsFormless ss) r s h k

-- ---- one statement

form_by : (function : List ℕ → Option Intrinsic) (s : FreeStatement) (made : Statement) (r : Result Bool Memory)
    → ((f : Form90) → IsStatementOf made f → Tells r (SuitsCallsIn function f)) → HasForm s made
    → Tells r (HasSuitedForm function s)
form_by function s made r t h =
    tells_by r (λ k. record { form = h.form; is = h.of; suits = k })
    (λ q. subst (λ (f : Form90). SuitsCallsIn function f) (one_statement s q.form h.form q.is h.of) q.suits)
    (t h.form h.is_of)

pub form_told : (function : List ℕ → Option Intrinsic) (s : FreeStatement) (form : Option Statement) (made : Statement)
    (r : Result Bool Memory) → form ≡ Some made
    → ((f : Form90) → IsStatementOf made f → Tells r (SuitsCallsIn function f)) → IsFormIn form s
    → Tells r (HasSuitedForm function s)
form_told function s form made r e t h =
    form_by function s made r t (subst (λ (o : Option Statement). IsFormIn o s) e h)

no_form_by : (function : List ℕ → Option Intrinsic) (s : FreeStatement) (b : Bool) → b ≡ false
    → ((f : Form90) → IsFormOf90 s f → ⊥) → IsTrue b ↔ HasSuitedForm function s
no_form_by function s true e h = absurd (cc)
no_form_by function s false e h = (λ t. absurd (cc), λ q. absurd (h q.form q.is))

pub no_form_told : (function : List ℕ → Option Intrinsic) (s : FreeStatement) (form : Option Statement) → form ≡ None
    → IsFormIn form s
    → Tells (Ok false) (HasSuitedForm function s)
no_form_told function s form e h = no_form_by function s false refl (subst (λ (o : Option Statement). IsFormIn o s) e h)

-- ---- statement by statement

-- a walk over two lists ends where the shorter one does
pub ends : (m n i : ℕ) → i ≡ min m n → (m ≤ i) ⊎ (n ≤ i)
ends zero n i e = inl (omega arith)
ends (suc m) zero i e = inr (omega arith)
ends (suc m) (suc n) zero e = absurd (omega arith)
ends (suc m) (suc n) (suc i) e = by (ends m n i (omega arith))
  where
    by : (m ≤ i) ⊎ (n ≤ i) → (suc m ≤ suc i) ⊎ (suc n ≤ suc i)
    by (inl h) = inl (omega arith)
    by (inr h) = inr (omega arith)

module _ (function : List ℕ → Option Intrinsic) where
  -- the statements before those that are left have forms that suit, and these have been read of those that are left
  abbrev Left : List FreeStatement → List FreeStatement → List (Option Statement) → Type 0
  Left all left forms =
      (before : List FreeStatement) × (all ≡ before ++ left) × AllByRecursion
      (HasSuitedForm function) before × AreOf IsFormIn forms left

  -- behind the first `i` statements
  abbrev pub SuitedSoFar : List written.Statement → List (Option Statement) → ℕ → Type 0
  SuitedSoFar xs forms i = Left (statements_seen xs) (statements_seen (drop i xs)) (drop i forms)

  pub suited_begun : (xs : List written.Statement) (forms : List (Option Statement))
      → AreOf IsFormIn forms (statements_seen xs) → SuitedSoFar xs forms 0
  suited_begun xs forms a = ([], refl, tt, a)

  next : (xs : List written.Statement) (forms : List (Option Statement)) (i : ℕ) (x : written.Statement)
      (form : Option Statement) → i < length xs → i < length forms
      → x ≡ get_or xs i x → form ≡ get_or forms i form → SuitedSoFar xs forms i
      → Left (statements_seen xs) (statement_seen x ∷ statements_seen (drop (i + 1) xs)) (form ∷ drop (i + 1) forms)
  next xs forms i x form l m g h k =
      subst (λ (left : List FreeStatement). Left (statements_seen xs) left (form ∷ drop (i + 1) forms))
      (left_at xs i x l (sym g))
      (subst (λ (fs : List (Option Statement)). Left (statements_seen xs) (statements_seen (drop i xs)) fs)
      (drop_more forms i form m ∙ ap (λ (f : Option Statement). f ∷ drop (i + 1) forms) (sym h)) k)

  pub suited_more : (xs : List written.Statement) (forms : List (Option Statement)) (i : ℕ) (x : written.Statement)
      (form : Option Statement) (b : Bool) → i < length xs
      → i < length forms → x ≡ get_or xs i x → form ≡ get_or forms i form → b ≡ true
      → ((s : FreeStatement) → IsFormIn form s → IsTrue b ↔ HasSuitedForm function s)
      → SuitedSoFar xs forms i → SuitedSoFar xs forms (i + 1)
  suited_more xs forms i x form b l m g h e t k =
      let n = next xs forms i x form l m g h k in
      let s : FreeStatement = statement_seen x in (
        n.0 ++ s ∷ [],
        n.1 ∙ sym (append_assoc n.0 (s ∷ []) (statements_seen (drop (i + 1) xs))),
        all_both (HasSuitedForm function) n.0 (s ∷ []) n.2 ((t s n.3.0).0 e, tt),
        n.3.1,
      )

  pub formless_met : (xs : List written.Statement) (forms : List (Option Statement)) (i : ℕ) (x : written.Statement)
      (form : Option Statement) (b : Bool) → i < length xs
      → i < length forms → x ≡ get_or xs i x → form ≡ get_or forms i form → b ≡ false
      → ((s : FreeStatement) → IsFormIn form s → IsTrue b ↔ HasSuitedForm function s)
      → SuitedSoFar xs forms i → IsFirstFormless function (statements_seen xs) x.line
  formless_met xs forms i x form b l m g h e t k =
      let n = next xs forms i x form l m g h k in
      record {
        before = n.0;
        statement = statement_seen x;
        after = statements_seen (drop (i + 1) xs);
        in_text = n.1;
        suited = n.2;
        formless = λ s. differ b ((t (statement_seen x) n.3.0).1 s) e;
        line_is = refl;
      }
    where
      differ : (c : Bool) → c ≡ true → c ≡ false → ⊥
      differ c p q = cc

  none_left_by : (left : List FreeStatement) (forms : List (Option Statement)) → AreOf IsFormIn forms left
      → (left ≡ []) ⊎ (forms ≡ []) → left ≡ []
  none_left_by [] forms a h = refl
  none_left_by (s ∷ left) [] a h = absurd a
  none_left_by (s ∷ left) (f ∷ forms) a (inl h) = h
  none_left_by (s ∷ left) (f ∷ forms) a (inr h) = absurd (cc)

  pub suited_ended : (xs : List written.Statement) (forms : List (Option Statement)) (i : ℕ)
      → (length xs ≤ i) ⊎ (length forms ≤ i) → SuitedSoFar xs forms i
      → AllByRecursion (HasSuitedForm function) (statements_seen xs)
  suited_ended xs forms i l k =
      let e : statements_seen (drop i xs) ≡ [] = none_left_by (statements_seen (drop i xs)) (drop i forms) k.3 (by l) in
      subst (AllByRecursion (HasSuitedForm function))
      (sym (k.1 ∙ (ap (λ (ts : List FreeStatement). k.0 ++ ts) e ∙ append-nil k.0))) k.2
    where
      by : (length xs ≤ i) ⊎ (length forms ≤ i) → (statements_seen (drop i xs) ≡ []) ⊎ (drop i forms ≡ [])
      by (inl m) = inl (none_left xs i m)
      by (inr m) = inr (drop_all i forms m)
