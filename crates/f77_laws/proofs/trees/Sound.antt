-- A text without findings: at none of its places does a cause of refusal hold, so its statements are well nested.
use Rattle.std.proofs.Common.{◌≡◌, false, List, [], ◌∷◌, ◌++◌, length, refl, ap, arith, flat_map, Contains}
use Rattle.std.specs.List.{AllByRecursion}
use Rattle.meaning.specs.Dialect.{Dialect}
use Rattle.tree.specs.Causes.{refusal_at}
use Rattle.tree.specs.declared.refusals.Cause.{Cause}
use Rattle.tree.specs.declared.refusals.Cause.TheVariants.{Label, Nesting}
use Rattle.f77_grammar.specs.Statement77.{Labelled}
use Rattle.f77_grammar.specs.program.Text.{Place77, places, action}
use Rattle.f77_grammar.specs.program.Uses.{uses_in_text}
use Rattle.f77_grammar.specs.program.Labels.{is_wrong_label77, is_unknown, label_named}
use Rattle.f77_grammar.specs.program.Nesting.{is_nested_wrongly}
use Rattle.f77_grammar.specs.program.Order.{is_out_of_order}
use Rattle.f77_grammar.specs.program.Limits.{constants_of}
use Rattle.f77_grammar.specs.program.Program77.{program_causes, holds_at, findings_of, findings}
use Rattle.f77_laws.specs.trees.Laws.{IsWellNested, AreWellNested}
use Rattle.f77_laws.proofs.trees.Lists.{none_left, left_false, all_at, all_of}

-- the cause holds nowhere
abbrev pub IsFree : Dialect → List Labelled → Cause → Type 0
IsFree d text c =
    AllByRecursion (λ (p : Place77). holds_at d c text (uses_in_text text) (constants_of d text) p ≡ false) (places text)

nothing_left : {A : Type 0} → (xs ys : List A) → xs ++ ys ≡ [] → xs ≡ []
nothing_left [] ys h = refl
nothing_left (x ∷ xs) ys h = absurd (let e = ap length h in omega arith)

nothing_right : {A : Type 0} → (xs ys : List A) → xs ++ ys ≡ [] → ys ≡ []
nothing_right [] ys h = h
nothing_right (x ∷ xs) ys h = absurd (let e = ap length h in omega arith)

free_of : (d : Dialect) (text : List Labelled) (cs : List Cause) → flat_map (findings_of d text) cs ≡ []
    → AllByRecursion (IsFree d text) cs
free_of d text [] h = tt
free_of d text (c ∷ cs) h = (
  none_left (λ (p : Place77). refusal_at c p.here.line) (holds_at d c text (uses_in_text text) (constants_of d text))
      (places text) (nothing_left (findings_of d text c) (flat_map (findings_of d text) cs) h),
  free_of d text cs (nothing_right (findings_of d text c) (flat_map (findings_of d text) cs) h),
)

pub sound : (d : Dialect) (text : List Labelled) → findings d text ≡ [] → AllByRecursion (IsFree d text) program_causes
sound d [] h = absurd (let e = ap length h in omega arith)
sound d (x ∷ xs) h = free_of d (x ∷ xs) program_causes h

pub well_nested : (d : Dialect) (text : List Labelled) → findings d text ≡ [] → AreWellNested text
well_nested d text e = all_of IsWellNested (places text) (λ p m. at p m (sound d text e))
  where
    free_at : (c : Cause) (p : Place77) → IsFree d text c → Contains (places text) p
        → holds_at d c text (uses_in_text text) (constants_of d text) p ≡ false
    free_at c p h m =
        all_at (λ (q : Place77). holds_at d c text (uses_in_text text) (constants_of d text) q ≡ false) (places text) p h m

    at : (p : Place77) → Contains (places text) p → AllByRecursion (IsFree d text) program_causes → IsWellNested p
    at p m h =
        record {
          label =
              left_false (is_wrong_label77 p.before p.here.label) (is_unknown text (label_named (action p.here.statement)))
              (free_at Label p h.0 m);
          nesting = left_false (is_nested_wrongly p) (is_out_of_order p) (free_at Nesting p h.1.0 m);
        }
