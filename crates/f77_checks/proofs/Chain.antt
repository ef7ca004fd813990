-- Checks one after the other, each of a greater number, find what is first.
use Rattle.std.proofs.Common.{◌≡◌, ◌<◌, ◌≤◌, nat_le, Bool, true, false, ◌||◌, cond, Option, None, Some, Result, Ok, Err, List, [], ◌∷◌, ◌++◌, length, find, refl, sym, ap, subst, ◌∙◌, arith}
use Rattle.std.specs.List.{list_all, AllByRecursion}
use Rattle.std.proofs.lemmas.List.{length-map}
use Rattle.tree.specs.declared.refusals.Refusal.{Refusal}
use Rattle.tree.specs.declared.refusals.Refused.{Refused}
use Rattle.tree.specs.declared.refusals.Refused.TheVariants as refused
use Rattle.f77_grammar.specs.Statement77.{Labelled}
use Rattle.f77_grammar.specs.program.Text.{Place77, places}
use Rattle.tree.specs.Causes.{number_of_cause, word_of_cause, refusal_at}
use Rattle.tree.specs.declared.refusals.Cause.{Cause}
use Rattle.tree.specs.declared.refusals.Cause.TheVariants.{Label, Nesting, NoEnd, Declared, RealName, TypeClash, Jump, DoVariable, ManyNames, ManyBlocks, ReversedBounds, ManyElements, BadConstant, Untyped}
use Rattle.meaning.specs.Dialect.{fortran77}
use Rattle.tree.specs.declared.width.Width.{Width}
use Rattle.f77_grammar.specs.program.Program77.{program_causes, findings, holds_in}
use Rattle.f77_grammar.specs.declared.syntax.statements.Labelled.{Labelled as Labelled'}
use Rattle.f77_grammar.specs.syntax.Views.{labelled_of, text_of}
use Rattle.f77_checks.specs.First.{has_number, IsFoundAtPlace, IsFoundFirst}
use Rattle.f77_checks.specs.Limits.{limits}
use Rattle.f77_checks.specs.Outcomes.{IfRefusal, IsNowhere, IsFirstAmong, Passes, IsChecked}
use Rattle.f77_laws.proofs.Lists.{all_weaker}
use Rattle.f77_checks.proofs.Found.{findings_by, every_cause, find_same, find_holds, nothing_found, found_among, found_there, least_number}
use Rattle.f77_checks.proofs.Passing.{or_false}

-- ---- what is found first

found_here : (width : Width) (y : Labelled) (ys : List Labelled) (c : Cause) (p : Place77) → (let text = y ∷ ys in
    holds_in (fortran77 width) text c p ≡ true → find (has_number width text (number_of_cause c)) (places text) ≡ Some p
    → AllByRecursion (λ (other : Refusal). number_of_cause c ≤ other.number) (findings_by (holds_in (fortran77 width) text) (places text) program_causes)
    → ((d : Cause) → number_of_cause d ≡ number_of_cause c → holds_in (fortran77 width) text d p ≡ true → word_of_cause c ≤ word_of_cause d)
    → IsFoundAtPlace width text (refusal_at c p.here.line))
found_here width y ys c p h first least words =
    let text = y ∷ ys in
    record {
      cause = c;
      place = p;
      is = refl;
      holds = h;
      found_it = (found_among (holds_in (fortran77 width) text) (places text) program_causes c (refusal_at c p.here.line) (every_cause width text p c h) (found_there (holds_in (fortran77 width) text) (has_number width text (number_of_cause c)) c (places text) p first h));
      least_number = least;
      first_place = first;
      least_word = words;
    }

first_found : (width : Width) (text : List Labelled) (c : Cause) (p : Place77) → 0 < length text
    → holds_in (fortran77 width) text c p ≡ true → find (has_number width text (number_of_cause c)) (places text) ≡ Some p
    → AllByRecursion (λ (other : Refusal). number_of_cause c ≤ other.number) (findings_by (holds_in (fortran77 width) text) (places text) program_causes)
    → ((d : Cause) → number_of_cause d ≡ number_of_cause c → holds_in (fortran77 width) text d p ≡ true → word_of_cause c ≤ word_of_cause d)
    → IsFoundFirst width text (refusal_at c p.here.line)
first_found width [] c p n h first least words = absurd (let no : 0 < 0 = n in omega arith)
first_found width (y ∷ ys) c p n h first least words = found_here width y ys c p h first least words

-- ---- a cause with a number of its own

one_cause : (c d : Cause) (b : Bool) → cond b (Some c) None ≡ Some d → c ≡ d
one_cause c d true h = cc
one_cause c d false h = absurd (let no : None ≡ Some d = h in cc)

alone : (width : Width) (text : List Labelled) (c : Cause) (front back : List Cause) (r : Refusal) → 0 < length text → word_of_cause c ≡ 0
    → ((p : Place77) → has_number width text (number_of_cause c) p ≡ (holds_in (fortran77 width) text c p || false))
    → AllByRecursion (IsNowhere width text) front → list_all (λ d. nat_le (number_of_cause c) (number_of_cause d)) (c ∷ back) ≡ true → front ++ (c ∷ back) ≡ program_causes
    → IsFirstAmong width (c ∷ []) text r → IsFoundFirst width text r
alone width text c front back r n word number clean above whole first =
    let same : c ≡ first.cause = one_cause c first.cause (holds_in (fortran77 width) text c first.place) first.first_cause in
    let place : find (λ p. holds_in (fortran77 width) text c p || false) (places text) ≡ Some first.place = first.first_place in
    let holds : holds_in (fortran77 width) text c first.place ≡ true = sym (or_false (holds_in (fortran77 width) text c first.place)) ∙ find_holds (λ p. holds_in (fortran77 width) text c p || false) (places text) first.place place in
    let found : IsFoundFirst width text (refusal_at c first.place.here.line) =
    first_found width text c first.place n holds
    (find_same (has_number width text (number_of_cause c)) (λ p. holds_in (fortran77 width) text c p || false) (places text) number ∙ place)
    (subst (λ cs. AllByRecursion (λ (other : Refusal). number_of_cause c ≤ other.number) (findings_by (holds_in (fortran77 width) text) (places text) cs)) whole (least_number (holds_in (fortran77 width) text) (places text) (number_of_cause c) front (c ∷ back) clean above))
    (λ d e t. omega (arith, word)) in
    subst (IsFoundFirst width text) (ap (λ d. refusal_at d first.place.here.line) same ∙ sym first.is) found

refused_alone : (width : Width) (text : List Labelled) (c : Cause) (front back : List Cause) (e : Refused) → 0 < length text → word_of_cause c ≡ 0
    → ((p : Place77) → has_number width text (number_of_cause c) p ≡ (holds_in (fortran77 width) text c p || false))
    → AllByRecursion (IsNowhere width text) front → list_all (λ d. nat_le (number_of_cause c) (number_of_cause d)) (c ∷ back) ≡ true → front ++ (c ∷ back) ≡ program_causes
    → IfRefusal e (IsFirstAmong width (c ∷ []) text) → IfRefusal e (IsFoundFirst width text)
refused_alone width text c front back (refused.Refusal r) n word number clean above whole h = alone width text c front back r n word number clean above whole h
refused_alone width text c front back refused.Memory n word number clean above whole h = tt

-- the causes behind each
abbrev behind_variable : List Cause
behind_variable = limits ++ Untyped ∷ []

abbrev behind_jump : List Cause
behind_jump = DoVariable ∷ behind_variable

abbrev behind_clash : List Cause
behind_clash = Jump ∷ behind_jump

abbrev behind_real : List Cause
behind_real = TypeClash ∷ behind_clash

abbrev behind_declared : List Cause
behind_declared = RealName ∷ behind_real

abbrev behind_end : List Cause
behind_end = Declared ∷ behind_declared

abbrev behind_nesting : List Cause
behind_nesting = NoEnd ∷ behind_end

abbrev behind_label : List Cause
behind_label = Nesting ∷ behind_nesting

-- no finding of the cause
abbrev Lacks : (width : Width) → List Labelled → Cause → Type 0
Lacks width text c = AllByRecursion (IsNowhere width text) (c ∷ [])

abbrev Fails : (width : Width) → List Labelled → Cause → Refused → Type 0
Fails width text c e = IfRefusal e (IsFirstAmong width (c ∷ []) text)

pub label_refused : (width : Width) (text : List Labelled) (e : Refused) → 0 < length text → Fails width text Label e → IsChecked width text (Err e)
label_refused width text e n h = refused_alone width text Label [] behind_label e n refl (λ p. refl) tt refl refl h

pub nesting_refused : (width : Width) (text : List Labelled) (e : Refused) → 0 < length text → Lacks width text Label → Fails width text Nesting e → IsChecked width text (Err e)
nesting_refused width text e n a h = refused_alone width text Nesting (Label ∷ []) behind_nesting e n refl (λ p. refl) a refl refl h

pub end_refused : (width : Width) (text : List Labelled) (e : Refused) → 0 < length text → Lacks width text Label → Lacks width text Nesting → Fails width text NoEnd e → IsChecked width text (Err e)
end_refused width text e n a b h = refused_alone width text NoEnd (Label ∷ Nesting ∷ []) behind_end e n refl (λ p. refl) (a.0, b) refl refl h

pub declaration_refused : (width : Width) (text : List Labelled) (e : Refused) → 0 < length text → Lacks width text Label → Lacks width text Nesting → Lacks width text NoEnd → Fails width text Declared e → IsChecked width text (Err e)
declaration_refused width text e n a b c h = refused_alone width text Declared (Label ∷ Nesting ∷ NoEnd ∷ []) behind_declared e n refl (λ p. refl) (a.0, (b.0, c)) refl refl h

pub real_name_refused : (width : Width) (text : List Labelled) (e : Refused) → 0 < length text → Lacks width text Label → Lacks width text Nesting → Lacks width text NoEnd → Lacks width text Declared → Fails width text RealName e → IsChecked width text (Err e)
real_name_refused width text e n a b c d h = refused_alone width text RealName (Label ∷ Nesting ∷ NoEnd ∷ Declared ∷ []) behind_real e n refl (λ p. refl) (a.0, (b.0, (c.0, d))) refl refl h

pub kind_refused : (width : Width) (text : List Labelled) (e : Refused) → 0 < length text → Lacks width text Label → Lacks width text Nesting → Lacks width text NoEnd → Lacks width text Declared → Lacks width text RealName
    → Fails width text TypeClash e → IsChecked width text (Err e)
kind_refused width text e n a b c d f h = refused_alone width text TypeClash (Label ∷ Nesting ∷ NoEnd ∷ Declared ∷ RealName ∷ []) behind_clash e n refl (λ p. refl) (a.0, (b.0, (c.0, (d.0, f)))) refl refl h

pub jump_refused : (width : Width) (text : List Labelled) (e : Refused) → 0 < length text → Lacks width text Label → Lacks width text Nesting → Lacks width text NoEnd → Lacks width text Declared → Lacks width text RealName
    → Lacks width text TypeClash → Fails width text Jump e → IsChecked width text (Err e)
jump_refused width text e n a b c d f g h =
    refused_alone width text Jump (Label ∷ Nesting ∷ NoEnd ∷ Declared ∷ RealName ∷ TypeClash ∷ []) behind_jump e n refl (λ p. refl) (a.0, (b.0, (c.0, (d.0, (f.0, g))))) refl refl h

pub variable_refused : (width : Width) (text : List Labelled) (e : Refused) → 0 < length text → Lacks width text Label → Lacks width text Nesting → Lacks width text NoEnd → Lacks width text Declared → Lacks width text RealName
    → Lacks width text TypeClash → Lacks width text Jump → Fails width text DoVariable e → IsChecked width text (Err e)
variable_refused width text e n a b c d f g i h =
    refused_alone width text DoVariable (Label ∷ Nesting ∷ NoEnd ∷ Declared ∷ RealName ∷ TypeClash ∷ Jump ∷ []) behind_variable e n refl (λ p. refl) (a.0, (b.0, (c.0, (d.0, (f.0, (g.0, i)))))) refl refl h

-- ---- the limits

abbrev Ascend : List Cause → Type 0
Ascend [] = Unit {0}
Ascend (c ∷ cs) = AllByRecursion (λ d. word_of_cause c ≤ word_of_cause d) (c ∷ cs) × Ascend cs

words_step : (test : Cause → Bool) (b : Bool) (d : Cause) (ds : List Cause) (c : Cause) (f : Option Cause) → test d ≡ b → cond b (Some d) f ≡ Some c
    → AllByRecursion (λ x. word_of_cause d ≤ word_of_cause x) (d ∷ ds) → (f ≡ Some c → AllByRecursion (λ x. test x ≡ true → word_of_cause c ≤ word_of_cause x) ds)
    → AllByRecursion (λ x. test x ≡ true → word_of_cause c ≤ word_of_cause x) (d ∷ ds)
words_step test true d ds c f e h a ih =
    let same : d ≡ c = cc in
    subst (λ y. AllByRecursion (λ x. test x ≡ true → word_of_cause y ≤ word_of_cause x) (d ∷ ds)) same (all_weaker (λ x. word_of_cause d ≤ word_of_cause x) (λ x. test x ≡ true → word_of_cause d ≤ word_of_cause x) (λ x le t. le) (d ∷ ds) a)
words_step test false d ds c f e h a ih = (λ t. absurd (let no : false ≡ true = sym e ∙ t in cc), ih h)

least_words : (test : Cause → Bool) (cs : List Cause) (c : Cause) → Ascend cs → find test cs ≡ Some c → AllByRecursion (λ x. test x ≡ true → word_of_cause c ≤ word_of_cause x) cs
least_words test [] c a h = tt
least_words test (d ∷ ds) c a h = words_step test (test d) d ds c (find test ds) refl h a.0 (least_words test ds c a.1)

limits_ascend : Ascend limits
limits_ascend = (
  (omega arith, (omega arith, (omega arith, (omega arith, (omega arith, tt))))),
  (
    (omega arith, (omega arith, (omega arith, (omega arith, tt)))),
    (
      (omega arith, (omega arith, (omega arith, tt))),
      (
        (omega arith, (omega arith, tt)),
        ((omega arith, tt), tt),
      ),
    ),
  ),
)

number_step : (test : Cause → Bool) (b : Bool) (d c : Cause) (f : Option Cause) → cond b (Some d) f ≡ Some c → number_of_cause d ≡ 18 → (f ≡ Some c → number_of_cause c ≡ 18) → number_of_cause c ≡ 18
number_step test true d c f h e ih = let same : d ≡ c = cc in ap number_of_cause (sym same) ∙ e
number_step test false d c f h e ih = ih h

limit_numbers : (test : Cause → Bool) (cs : List Cause) (c : Cause) → AllByRecursion (λ d. number_of_cause d ≡ 18) cs → find test cs ≡ Some c → number_of_cause c ≡ 18
limit_numbers test [] c a h = absurd (let no : None ≡ Some c = h in cc)
limit_numbers test (d ∷ ds) c a h = number_step test (test d) d c (find test ds) h a.0 (limit_numbers test ds c a.1)

-- a cause with the number 18 is a limit
word_among : (test : Cause → Bool) (c d : Cause) → AllByRecursion (λ x. test x ≡ true → word_of_cause c ≤ word_of_cause x) limits → number_of_cause d ≡ 18 → test d ≡ true → word_of_cause c ≤ word_of_cause d
word_among test c ManyNames a n t = a.0 t
word_among test c ManyBlocks a n t = a.1.0 t
word_among test c ReversedBounds a n t = a.1.1.0 t
word_among test c ManyElements a n t = a.1.1.1.0 t
word_among test c BadConstant a n t = a.1.1.1.1.0 t
word_among test c d a n t = absurd (omega (arith, n))

abbrev before_limits : List Cause
before_limits = Label ∷ Nesting ∷ NoEnd ∷ Declared ∷ RealName ∷ TypeClash ∷ Jump ∷ DoVariable ∷ []

limit_refused : (width : Width) (text : List Labelled) (r : Refusal) → 0 < length text → AllByRecursion (IsNowhere width text) before_limits → IsFirstAmong width limits text r → IsFoundFirst width text r
limit_refused width text r n clean first =
    let c = first.cause in
    let p = first.place in
    let number : number_of_cause c ≡ 18 = limit_numbers (λ d. holds_in (fortran77 width) text d p) limits c (refl, (refl, (refl, (refl, (refl, tt))))) first.first_cause in
    let place : find (has_number width text 18) (places text) ≡ Some p = first.first_place in
    let found : IsFoundFirst width text (refusal_at c p.here.line) =
    first_found width text c p n (find_holds (λ d. holds_in (fortran77 width) text d p) limits c first.first_cause)
    (ap (λ k. find (has_number width text k) (places text)) number ∙ place)
    (subst (λ k. AllByRecursion (λ (other : Refusal). k ≤ other.number) (findings_by (holds_in (fortran77 width) text) (places text) program_causes)) (sym number)
    (least_number (holds_in (fortran77 width) text) (places text) 18 before_limits (limits ++ Untyped ∷ []) clean refl))
    (λ d e t. word_among (λ x. holds_in (fortran77 width) text x p) c d (least_words (λ x. holds_in (fortran77 width) text x p) limits c limits_ascend first.first_cause) (e ∙ number) t) in
    subst (IsFoundFirst width text) (sym first.is) found

limits_refused : (width : Width) (text : List Labelled) (e : Refused) → 0 < length text → AllByRecursion (IsNowhere width text) before_limits → IfRefusal e (IsFirstAmong width limits text) → IfRefusal e (IsFoundFirst width text)
limits_refused width text (refused.Refusal r) n clean h = limit_refused width text r n clean h
limits_refused width text refused.Memory n clean h = tt

-- ---- nothing is found

clean_text : (width : Width) (text : List Labelled) → 0 < length text → AllByRecursion (IsNowhere width text) program_causes → findings (fortran77 width) text ≡ []
clean_text width [] n a = absurd (let no : 0 < 0 = n in omega arith)
clean_text width (y ∷ ys) n a = nothing_found (holds_in (fortran77 width) (y ∷ ys)) (places (y ∷ ys)) program_causes a

pub breach_refused : (width : Width) (text : List Labelled) (e : Refused) → 0 < length text → Lacks width text Label → Lacks width text Nesting → Lacks width text NoEnd → Lacks width text Declared → Lacks width text RealName
    → Lacks width text TypeClash → Lacks width text Jump → Lacks width text DoVariable → IfRefusal e (IsFirstAmong width limits text) → IsChecked width text (Err e)
breach_refused width text e n a b c d f g i j h = limits_refused width text e n (a.0, (b.0, (c.0, (d.0, (f.0, (g.0, (i.0, j))))))) h

abbrev before_untyped : List Cause
before_untyped = before_limits ++ limits

types_checked : (width : Width) (text : List Labelled) (o : Result (Unit {0}) Refused) → 0 < length text → AllByRecursion (IsNowhere width text) before_limits → AllByRecursion (IsNowhere width text) limits
    → Passes width (Untyped ∷ []) text o → IsChecked width text o
types_checked width text (Ok u) n a k h =
    clean_text width text n (a.0, (a.1.0, (a.1.1.0, (a.1.1.1.0, (a.1.1.1.1.0, (a.1.1.1.1.1.0, (a.1.1.1.1.1.1.0, (a.1.1.1.1.1.1.1.0, (k.0, (k.1.0, (k.1.1.0, (k.1.1.1.0, (k.1.1.1.1.0, h)))))))))))))
types_checked width text (Err e) n a k h =
    refused_alone width text Untyped before_untyped [] e n refl (λ p. refl)
    (a.0, (a.1.0, (a.1.1.0, (a.1.1.1.0, (a.1.1.1.1.0, (a.1.1.1.1.1.0, (a.1.1.1.1.1.1.0, (a.1.1.1.1.1.1.1.0, k)))))))) refl refl h

pub rest_checked : (width : Width) (text : List Labelled) (o : Result (Unit {0}) Refused) → 0 < length text → Lacks width text Label → Lacks width text Nesting → Lacks width text NoEnd → Lacks width text Declared → Lacks width text RealName
    → Lacks width text TypeClash → Lacks width text Jump → Lacks width text DoVariable → AllByRecursion (IsNowhere width text) limits → Passes width (Untyped ∷ []) text o → IsChecked width text o
rest_checked width text o n a b c d f g i j k h = types_checked width text o n (a.0, (b.0, (c.0, (d.0, (f.0, (g.0, (i.0, j))))))) k h

-- ---- the text of the code

pub statements_stand : (xs : List Labelled') → 0 < length xs → 0 < length (text_of xs)
statements_stand xs h = omega (arith, h, length-map xs labelled_of)

pub nothing_to_check : (width : Width) (xs : List Labelled') → length xs ≡ 0 → IsChecked width (text_of xs) (Err (refused.Refusal (refusal_at NoEnd 0)))
nothing_to_check width [] h = refl
nothing_to_check width (x ∷ xs) h = absurd (omega (arith, h))

pub ruleset chain_laws = (label_refused, nesting_refused, end_refused, declaration_refused, real_name_refused, kind_refused, jump_refused, variable_refused, breach_refused, rest_checked, statements_stand)
