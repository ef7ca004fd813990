-- What the line of a cause says of a text.
use Rattle.std.proofs.Common.{◌≡◌, ℕ, Bool, true, false, ◌||◌, cond, Option, None, Some, Ok, Err, List, [], ◌∷◌, find, refl, ap, ◌∙◌}
use Rattle.std.specs.Option.{option_map}
use Rattle.tree.specs.declared.refusals.Refusal.{Refusal}
use Rattle.tree.specs.declared.refusals.Refused.TheVariants as refused
use Rattle.f77_grammar.specs.Statement77.{Labelled}
use Rattle.f77_grammar.specs.program.Text.{Place77, places}
use Rattle.tree.specs.Causes.{number_of_cause, word_of_cause, refusal_at}
use Rattle.tree.specs.declared.refusals.Cause.{Cause}
use Rattle.meaning.specs.Dialect.{fortran77}
use Rattle.tree.specs.declared.width.Width.{Width}
use Rattle.f77_grammar.specs.program.Program77.{holds_in}
use Rattle.f77_grammar.specs.syntax.First.{first_line}
use Rattle.f77_checks.specs.Outcomes.{IsFirstAmong, Passes}
use Rattle.f77_checks.proofs.Indices.{line_of}
use Rattle.f77_checks.proofs.Found.{find_same, find_holds}

pub or_false : (b : Bool) → (b || false) ≡ b
or_false true = refl
or_false false = refl

none_by : (o : Option Place77) → None ≡ option_map line_of o → o ≡ None
none_by None h = refl
none_by (Some p) h = absurd (let no : None ≡ Some (line_of p) = h in cc)

pub passes_alone : (width : Width) (text : List Labelled) (c : Cause) → None ≡ first_line (holds_in (fortran77 width) text c) text → Passes width (c ∷ []) text (Ok tt)
passes_alone width text c h = (none_by (find (holds_in (fortran77 width) text c) (places text)) h, tt)

first_alone : (width : Width) (text : List Labelled) (c : Cause) (p : Place77) (r : Refusal) → find (holds_in (fortran77 width) text c) (places text) ≡ Some p → r ≡ refusal_at c p.here.line → IsFirstAmong width (c ∷ []) text r
first_alone width text c p r h e = record {
  cause = c;
  place = p;
  first_place = (find_same (λ q. holds_in (fortran77 width) text c q || false) (holds_in (fortran77 width) text c) (places text) (λ q. or_false (holds_in (fortran77 width) text c q)) ∙ h);
  first_cause = (ap (λ b. cond b (Some c) None) (find_holds (holds_in (fortran77 width) text c) (places text) p h));
  is = e;
}

some_same : (l k : ℕ) → Some l ≡ Some k → l ≡ k
some_same l k h = cc

fails_by : (width : Width) (text : List Labelled) (c : Cause) (l : ℕ) (o : Option Place77) → find (holds_in (fortran77 width) text c) (places text) ≡ o → Some l ≡ option_map line_of o
    → IsFirstAmong width (c ∷ []) text (refusal_at c l)
fails_by width text c l None f h = absurd (let no : Some l ≡ None = h in cc)
fails_by width text c l (Some p) f h = first_alone width text c p (refusal_at c l) f (ap (refusal_at c) (some_same l p.here.line h))

pub fails_alone : (width : Width) (text : List Labelled) (c : Cause) (l : ℕ) → Some l ≡ first_line (holds_in (fortran77 width) text c) text → Passes width (c ∷ []) text (Err (refused.Refusal (refusal_at c l)))
fails_alone width text c l h = fails_by width text c l (find (holds_in (fortran77 width) text c) (places text)) refl h
