-- The loops of what is made of a nest have the numbers of its loops.
use Rattle.std.proofs.Common.{◌≡◌, refl, sym, ap, ap₂, ◌∙◌, ℕ, Bool, true, false, cond, List, [], ◌∷◌, ◌++◌, length, Option, Some, None}
use Rattle.nest.specs.Plain.{Loop, Part, Run, Turns, Choice, Label, Jump, Parts, no_parts, part, parts, Branches, no_branches, branch, Nest}
use Rattle.nest.specs.Bodies.{loops_of, loops_in_parts, loops_in_branches, nest_loops}
use Rattle.last_values.specs.normal_forms.NormalLoops.{normal_loop, is_positive, is_known}
use Rattle.last_values.specs.normal_forms.Texts.{at_least_one}
use Rattle.last_values.specs.declared.normal_forms.loops.NormalLoop.{NormalLoop}
use Rattle.last_values.specs.Behind.{stands_behind}
use Rattle.last_values.specs.InPlace.{assigned_part, first_text, own_trip_text, end_part}
use Rattle.last_values.specs.PartsInPlace.{only_where_part, parts_before, parts_behind}
use Rattle.last_values.specs.declared.behind.NestedLoop.{NestedLoop}
use Rattle.normal_loops.specs.Bodies.{placed_loop, normal_turns, normal_part, normal_parts, normal_branches}
use Rattle.normal_loops.specs.Counting.{counting}
use Rattle.normal_loops.specs.Loops.{with_loop}
use Rattle.pass_laws.specs.ready_nests.Distinct.{numbers_of, NormalLoopsAreThose}
use Rattle.pass_laws.proofs.ReadyNests.Lists.{numbers_joined, numbers_alone, loops_joined}
use Rattle.pass_laws.proofs.ReadyNests.Made.{made_of}

abbrev Numbers : List Part → List ℕ
Numbers ps = numbers_of (loops_in_parts (parts ps))

Numbers_joined : (ps qs : List Part) → Numbers (ps ++ qs) ≡ Numbers ps ++ Numbers qs
Numbers_joined ps qs = ap numbers_of (loops_joined ps qs) ∙ numbers_joined (loops_in_parts (parts ps)) (loops_in_parts (parts qs))

-- ---- last values in place have no loop

module _ (symbols : List (List ℕ)) (line : ℕ) (round : List NormalLoop) (r : NormalLoop) where
  none_before : Numbers (parts_before symbols line round r) ≡ []
  unfolding parts_before
  none_before = by (is_positive r.trip)
    where
      by : (b : Bool) → Numbers (cond b [] (assigned_part line r.variable (first_text symbols round r) ∷ [])) ≡ []
      by true = refl
      by false = refl

  none_behind : Numbers (parts_behind symbols line round r) ≡ []
  unfolding parts_behind
  none_behind = by (is_positive r.trip) (is_known r.trip)
    where
      by : (b c : Bool) → Numbers (cond b (end_part symbols line round r ∷ []) (cond c [] (only_where_part (at_least_one (own_trip_text symbols round r)) (end_part symbols line round r ∷ []) ∷ []))) ≡ []
      by true c = refl
      by false true = refl
      by false false = refl

counting_number : (symbols : List (List ℕ)) (round : List NormalLoop) (l : Loop) (r : NormalLoop) → (counting symbols round l r).number ≡ l.number
unfolding counting
counting_number symbols round l r = refl

module _ (n : Nest) (ls : List NestedLoop) where
  placed_numbers : (round : List NormalLoop) (r : NormalLoop) (p : Part) → Numbers (placed_loop n ls round r p) ≡ numbers_of (loops_of p)
  placed_numbers round r p = by (stands_behind (length n.symbols) ls n.body r.variable)
    where
      by : (b : Bool) → Numbers (cond b (p ∷ []) (parts_before n.symbols n.line round r ++ p ∷ parts_behind n.symbols n.line round r)) ≡ numbers_of (loops_of p)
      by true = numbers_alone (loops_of p)
      by false =
          Numbers_joined (parts_before n.symbols n.line round r) (p ∷ parts_behind n.symbols n.line round r)
          ∙ ap (λ ks. ks ++ Numbers (p ∷ parts_behind n.symbols n.line round r)) (none_before n.symbols n.line round r)
          ∙ numbers_joined (loops_of p) (loops_in_parts (parts (parts_behind n.symbols n.line round r)))
          ∙ ap (λ ks. numbers_of (loops_of p) ++ ks) (none_behind n.symbols n.line round r)
          ∙ (sym (numbers_joined (loops_of p) []) ∙ numbers_alone (loops_of p))

  turned : (round : List NormalLoop) (l : Loop) (o : Option NormalLoop) (qs : List Part) → Numbers (normal_turns n ls round l o qs) ≡ l.number ∷ Numbers qs
  turned round l None qs = ap (λ ks. l.number ∷ ks) (numbers_alone (loops_in_parts (parts qs)))
  turned round l (Some r) qs =
      placed_numbers round r (Turns (counting n.symbols round l r) (parts qs)) ∙ ap (λ k. k ∷ Numbers qs) (counting_number n.symbols round l r)

  mutual
    kept : (round : List NormalLoop) (p : Part) → Numbers (normal_part n ls round p) ≡ numbers_of (loops_of p)
    kept round (Run s) = refl
    kept round (Turns l ps) =
        turned round l (normal_loop n.symbols round l) (normal_parts n ls (with_loop round (normal_loop n.symbols round l)) ps)
        ∙ ap (λ ks. l.number ∷ ks) (kept_in_parts (with_loop round (normal_loop n.symbols round l)) ps)
    kept round (Choice bs ps) =
        numbers_alone (loops_in_branches (normal_branches n ls round bs) ++ loops_in_parts (parts (normal_parts n ls round ps)))
        ∙ numbers_joined (loops_in_branches (normal_branches n ls round bs)) (loops_in_parts (parts (normal_parts n ls round ps)))
        ∙ ap₂ (λ is ks. is ++ ks) (kept_in_branches round bs) (kept_in_parts round ps)
        ∙ sym (numbers_joined (loops_in_branches bs) (loops_in_parts ps))
    kept round (Label k) = refl
    kept round (Jump k) = refl

    kept_in_parts : (round : List NormalLoop) (ps : Parts) → Numbers (normal_parts n ls round ps) ≡ numbers_of (loops_in_parts ps)
    kept_in_parts round no_parts = refl
    kept_in_parts round (part p ps) =
        Numbers_joined (normal_part n ls round p) (normal_parts n ls round ps)
        ∙ ap₂ (λ is ks. is ++ ks) (kept round p) (kept_in_parts round ps)
        ∙ sym (numbers_joined (loops_of p) (loops_in_parts ps))

    kept_in_branches : (round : List NormalLoop) (bs : Branches) → numbers_of (loops_in_branches (normal_branches n ls round bs)) ≡ numbers_of (loops_in_branches bs)
    kept_in_branches round no_branches = refl
    kept_in_branches round (branch test ps bs) =
        numbers_joined (loops_in_parts (parts (normal_parts n ls round ps))) (loops_in_branches (normal_branches n ls round bs))
        ∙ ap₂ (λ is ks. is ++ ks) (kept_in_parts round ps) (kept_in_branches round bs)
        ∙ sym (numbers_joined (loops_in_parts ps) (loops_in_branches bs))

pub normal_loops_are_those : NormalLoopsAreThose
normal_loops_are_those n m h =
    let k = made_of n m h in
    sym (numbers_alone (nest_loops m)) ∙ (sym (ap Numbers k.body) ∙ kept n k.loops [] n.body)
