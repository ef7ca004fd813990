-- What a check's answer says, clause by clause.
use Rattle.std.proofs.Common.{◌≡◌, ◌⊎◌, inl, inr, ℕ, ◌<◌, ◌≤◌, ◌==◌, nat_lt, Bool, true, false, ◌&&◌, ◌||◌, Result, Ok, Err, OnOk, OnErr, List, [], ◌∷◌, Contains, refl, sym, ap, subst, ◌∙◌, arith}
use Rattle.std.specs.List.{AllByRecursion}
use Rattle.std.proofs.lemmas.Bool.Decides.{nat_tests}
use Rattle.tree.specs.declared.refusals.Refusal.{Refusal}
use Rattle.tree.specs.declared.refusals.Refused.{Refused}
use Rattle.tree.specs.declared.refusals.Refused.TheVariants as refused
use Rattle.f77_grammar.specs.Statement77.{Labelled}
use Rattle.f77_grammar.specs.program.Text.{Place77, places}
use Rattle.tree.specs.Causes.{number_of_cause, word_of_cause, refusal_at}
use Rattle.tree.specs.declared.refusals.Cause.{Cause}
use Rattle.tree.specs.declared.refusals.Cause.TheVariants.{NoEnd}
use Rattle.reading.specs.refusal_order.Answered.{comes_before, IsAnswered}
use Rattle.meaning.specs.Dialect.{fortran77}
use Rattle.tree.specs.declared.width.Width.{Width}
use Rattle.f77_grammar.specs.program.Program77.{program_causes, findings, RefusedStatements, holds_in}
use Rattle.f77_grammar.proofs.Answered.{FollowsIn, not_before_least, one_answer}
use Rattle.f77_grammar.proofs.programs.Least.{answered_among, least_is_first, nothing_in, none_is_not_first}
use Rattle.f77_laws.specs.Source.{AreRising}
use Rattle.f77_checks.specs.First.{has_number, IsFoundAtPlace, IsFoundFirst}
use Rattle.f77_checks.specs.Outcomes.{IsChecked}
use Rattle.f77_laws.proofs.Lists.{all_weaker, here}
use Rattle.f77_checks.proofs.Found.{every_cause, any_true, both, each, all_by, first_is_least}

-- ---- where lines rise, what is found first is the first finding

same_number_true : (n m : ℕ) → n ≡ m → (n == m) ≡ true
same_number_true n m h = grind (arith, nat_tests)

has_its_number : (width : Width) (text : List Labelled) (n : ℕ) (c : Cause) (p : Place77) → number_of_cause c ≡ n → holds_in (fortran77 width) text c p ≡ true → has_number width text n p ≡ true
has_its_number width text n c p e h =
    any_true (λ d. number_of_cause d == n && holds_in (fortran77 width) text d p) program_causes c (every_cause width text p c h)
    (ap (λ b. b && holds_in (fortran77 width) text c p) (same_number_true (number_of_cause c) n e) ∙ h)

by_place : (width : Width) (text : List Labelled) (r : Refusal) (f : IsFoundAtPlace width text r) (c : Cause) (q : Place77) → number_of_cause c ≡ r.number → holds_in (fortran77 width) text c q ≡ true
    → (f.place ≡ q) ⊎ (f.place.here.line < q.here.line) → (r.line < q.here.line) ⊎ ((r.line ≡ q.here.line) × (r.word ≤ word_of_cause c))
by_place width text r f c q e h (inl same) =
    inr (ap (λ (x : Refusal). x.line) f.is ∙ ap (λ (p : Place77). p.here.line) same, f.least_word c e (ap (holds_in (fortran77 width) text c) same ∙ h))
by_place width text r f c q e h (inr lt) = inl (let line : r.line ≡ f.place.here.line = ap (λ (x : Refusal). x.line) f.is in omega (arith, line, lt))

follow : (width : Width) (y : Labelled) (ys : List Labelled) (r : Refusal) → AreRising (y ∷ ys) → IsFoundAtPlace width (y ∷ ys) r → AllByRecursion (FollowsIn r) (findings (fortran77 width) (y ∷ ys))
follow width y ys r rising f =
    let text = y ∷ ys in
    all_by (holds_in (fortran77 width) text) (FollowsIn r) (places text) program_causes
    (each (λ c. AllByRecursion (λ (q : Place77). holds_in (fortran77 width) text c q ≡ true → FollowsIn r (refusal_at c q.here.line)) (places text))
    (λ c. all_weaker (λ (q : Place77). has_number width text r.number q ≡ true → (f.place ≡ q) ⊎ (f.place.here.line < q.here.line)) (λ (q : Place77). holds_in (fortran77 width) text c q ≡ true → FollowsIn r (refusal_at c q.here.line))
    (λ q later h e. by_place width text r f c q e h (later (has_its_number width text r.number c q e h)))
    (places text) (first_is_least (has_number width text r.number) [] text f.place rising f.first_place)) program_causes)

pub is_first : (width : Width) (text : List Labelled) (r : Refusal) → AreRising text → IsFoundFirst width text r → RefusedStatements (fortran77 width) text r
is_first width [] r rising f = subst (IsAnswered (Contains (refusal_at NoEnd 0 ∷ []))) (sym f) (least_is_first (refusal_at NoEnd 0) [])
is_first width (y ∷ ys) r rising f =
    answered_among (findings (fortran77 width) (y ∷ ys)) r f.found_it
    (both (λ (other : Refusal). r.number ≤ other.number) (FollowsIn r) (λ other. comes_before other r ≡ false) (λ other a b. not_before_least r other a b) (findings (fortran77 width) (y ∷ ys)) f.least_number (follow width y ys r rising f))

-- ---- nothing is found first where nothing is found

something : (r : Refusal) (rs : List Refusal) → r ∷ rs ≡ [] → ⊥
something r rs h = cc

pub sound_is_not_refused : (width : Width) (text : List Labelled) (r : Refusal) → findings (fortran77 width) text ≡ [] → IsFoundFirst width text r → ⊥
sound_is_not_refused width [] r e f = something (refusal_at NoEnd 0) [] e
sound_is_not_refused width (y ∷ ys) r e f = nothing_in r (subst (λ xs. Contains xs r) e f.found_it)

-- ---- the clauses

pub sound_if_ok : (width : Width) (text : List Labelled) (o : Result (Unit {0}) Refused) → IsChecked width text o → OnOk o (findings (fortran77 width) text ≡ [])
sound_if_ok width text (Ok u) h = h
sound_if_ok width text (Err e) h = tt

pub found_if_refused : (width : Width) (text : List Labelled) (o : Result (Unit {0}) Refused) (r : Refusal) → IsChecked width text o → o ≡ Err (refused.Refusal r) → IsFoundFirst width text r
found_if_refused width text o r h e = subst (IsChecked width text) e h

pub first_if_refused : (width : Width) (text : List Labelled) (o : Result (Unit {0}) Refused) (r : Refusal) → IsChecked width text o → o ≡ Err (refused.Refusal r) → AreRising text → RefusedStatements (fortran77 width) text r
first_if_refused width text o r h e rising = is_first width text r rising (found_if_refused width text o r h e)

pub memory_if_sound : (width : Width) (text : List Labelled) (o : Result (Unit {0}) Refused) → IsChecked width text o → findings (fortran77 width) text ≡ [] → OnErr o (o ≡ Err refused.Memory)
memory_if_sound width text (Ok u) h e = tt
memory_if_sound width text (Err (refused.Refusal r)) h e = absurd (sound_is_not_refused width text r e h)
memory_if_sound width text (Err refused.Memory) h e = refl

pub only_that_refusal : (width : Width) (text : List Labelled) (o : Result (Unit {0}) Refused) → IsChecked width text o → (r : Refusal) → RefusedStatements (fortran77 width) text r → AreRising text
    → (o ≡ Err (refused.Refusal r)) ⊎ (o ≡ Err refused.Memory)
only_that_refusal width text (Ok u) h r f rising = absurd (none_is_not_first (findings (fortran77 width) text) r h f)
only_that_refusal width text (Err (refused.Refusal s)) h r f rising = inl (ap (λ x. Err (refused.Refusal x)) (one_answer (Contains (findings (fortran77 width) text)) s r (is_first width text s rising h) f))
only_that_refusal width text (Err refused.Memory) h r f rising = inr refl

pub ruleset answer_laws = (sound_if_ok, found_if_refused, first_if_refused, memory_if_sound, only_that_refusal)
