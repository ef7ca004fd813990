-- Findings of a text, by what a check says of it.
use Rattle.std.proofs.Common.{◌≡◌, ℕ, suc, ◌≤◌, Bool, true, false, cond, Option, None, Some, Result, Err, List, [], ◌∷◌, refl, sym, ap, subst, arith}
use Rattle.std.specs.List.{AllByRecursion}
use Rattle.std.proofs.lemmas.List.Elements.{All-from_recursion, All-contains}
use Rattle.tree.specs.declared.refusals.Refusal.{Refusal}
use Rattle.tree.specs.declared.refusals.Refused.{Refused}
use Rattle.tree.specs.declared.refusals.Refused.TheVariants as refused
use Rattle.f77_grammar.specs.Statement77.{Labelled}
use Rattle.f77_grammar.specs.program.Text.{Place77, places}
use Rattle.f77_grammar.specs.program.Limits.{constants_of, has_bad_constant}
use Rattle.f77_grammar.specs.program.Program77.{program_causes, findings}
use Rattle.f77_grammar.specs.syntax.First.{index_from, first_index}
use Rattle.f77_grammar.specs.program.Program77.{holds_in}
use Rattle.f77_checks.specs.First.{IsFoundFirst}
use Rattle.f77_checks.proofs.Answers.{is_first, sound_is_not_refused}
use Rattle.f77_checks.proofs.Found.{least_number}
use Rattle.f77_laws.proofs.Sound.{sound}
use Rattle.f77_checks.specs.Outcomes.{IfRefusal}
use Rattle.meaning.specs.Dialect.{fortran77}
use Rattle.tree.specs.declared.width.Width.{Width}
use Rattle.f77_read.specs.Outcomes.{IsRefusedText}

-- ---- a text without findings has no bad constant

none_step : (b : Bool) (i : ℕ) (o : Option ℕ) → b ≡ false → o ≡ None → cond b (Some i) o ≡ None
none_step true i o h g = absurd (let no : true ≡ false = h in cc)
none_step false i o h g = g

none_from : (test : Place77 → Bool) (i : ℕ) (ps : List Place77) → AllByRecursion (λ (p : Place77). test p ≡ false) ps → index_from test i ps ≡ None
none_from test i [] a = refl
none_from test i (p ∷ ps) a = none_step (test p) i (index_from test (suc i) ps) a.0 (none_from test (suc i) ps a.1)

pub no_bad_constant : (width : Width) (text : List Labelled) → findings (fortran77 width) text ≡ [] → first_index (has_bad_constant (fortran77 width) (constants_of (fortran77 width) text)) text ≡ None
no_bad_constant width text h = none_from (has_bad_constant (fortran77 width) (constants_of (fortran77 width) text)) 0 (places text) (sound (fortran77 width) text h).1.1.1.1.1.1.1.1.1.1.1.1.0

-- ---- numbers of findings

pub number_of_finding : (width : Width) (text : List Labelled) → AllByRecursion (λ (other : Refusal). 10 ≤ other.number) (findings (fortran77 width) text)
number_of_finding width [] = (omega arith, tt)
number_of_finding width (x ∷ xs) = least_number (holds_in (fortran77 width) (x ∷ xs)) (places (x ∷ xs)) 10 [] program_causes tt refl

number_of_first : (width : Width) (text : List Labelled) (r : Refusal) → IsFoundFirst width text r → 10 ≤ r.number
number_of_first width [] r f = subst (λ (n : ℕ). 10 ≤ n) (sym (ap (λ (o : Refusal). o.number) f)) (omega arith)
number_of_first width (x ∷ xs) r f =
    All-contains (λ (other : Refusal). 10 ≤ other.number) (findings (fortran77 width) (x ∷ xs)) r (All-from_recursion (λ (other : Refusal). 10 ≤ other.number) (findings (fortran77 width) (x ∷ xs)) (number_of_finding width (x ∷ xs))) f.found_it

pub refused_text : (width : Width) (text : List Labelled) (r : Refusal) → IsFoundFirst width text r → IsRefusedText width text r
refused_text width text r f = record {
  number = number_of_first width text r f;
  unsound = (λ e. sound_is_not_refused width text r e f);
  first = (λ rising. is_first width text r rising f);
}

abbrev pub FindsFirst : (width : Width) → List Labelled → Result (Unit {0}) Refused → Type 0
FindsFirst width text o = (r : Refusal) → o ≡ Err (refused.Refusal r) → IsFoundFirst width text r

pub check_refused : (width : Width) (text : List Labelled) (e : Refused) → FindsFirst width text (Err e) → IfRefusal e (IsRefusedText width text)
check_refused width text (refused.Refusal r) h = refused_text width text r (h r refl)
check_refused width text refused.Memory h = tt

pub check_refused_at : (width w : Width) (text : List Labelled) (e : Refused) → w ≡ width → FindsFirst w text (Err e) → IfRefusal e (IsRefusedText width text)
check_refused_at width w text e same h = subst (λ (v : Width). IfRefusal e (IsRefusedText v text)) same (check_refused w text e h)
