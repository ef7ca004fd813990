-- The second cause of BOUND by numbers, of all loops of a statement.
use mathlib.Core.Path.{ap₂}
use Rattle.std.proofs.Common.{◌≡◌, refl, sym, ap, ◌∙◌, subst, ℕ, zero, suc, ◌<◌, ℤ, pos, ◌+ℤ◌, ◌-ℤ◌, ◌*ℤ◌, Bool, true, false, cond, not, ◌&&◌, ◌||◌, List, [], ◌∷◌, ◌++◌, map, length, get_or, append_assoc, append-nil, Option, Some, None, Contains, arith}
use Rattle.std.specs.Prelude.{is_some}
use Rattle.std.specs.List.{list_any}
use Rattle.std.specs.Option.{option_map}
use Rattle.tree.specs.Plain.{Expression, Statement, Assignment, Where, If, Do, Label, GoTo, Stop, Read, Print, Allocate, Deallocate, Arms, no_arms, arm, Block, no_statements, statement}
use Rattle.meaning.specs.Reads.{names_in}
use Rattle.linear_forms.specs.Linear.{Form, number_at, form_of}
use Rattle.linear_forms.proofs.Sizes.{both}
use Rattle.nest_reasons.specs.Increments.{step_of}
use Rattle.nest_reasons.specs.Loops.{is_linear}
use Rattle.nest_reasons.specs.Standing.{standing}
use Rattle.nest_reasons.specs.declared.flaws.Flaw.TheVariants as flaws
use Rattle.find_nests.specs.declared.reasons.Reason.TheVariants.{Bound}
use Rattle.find_nests.specs.nest_parts.Numbers.{next_loop_number, number_after, after_arms, after_block}
use Rattle.find_nests.specs.Loops.{SourceLoop, SurroundedLoop, loops_in, loops_in_arms, loops_in_block}
use Rattle.find_nests.specs.Reasons.{source_variables_of, is_flawed, has_reason, loop_leaves_limits}
use Rattle.find_nests.specs.Laws.{BoundIsByNumbers}
use Rattle.find_nests.specs.bound_limits.Numbers.{Counted, stands, standing_in, numbers, number_in, and_then, at_iteration, counted}
use Rattle.find_nests.proofs.BoundNumbers.Limits.{AreCounted, not_false, keeps_by_meaning}

-- ---- all of a list

abbrev Every : {A : Type 0} → (A → Type 0) → List A → Type 0
Every P [] = Unit {0}
Every P (x ∷ xs) = P x × Every P xs

module _ {A : Type 0} (P : A → Type 0) where
  joined : (xs ys : List A) → Every P xs → Every P ys → Every P (xs ++ ys)
  joined [] ys h k = k
  joined (x ∷ xs) ys h k = (h.0, joined xs ys h.1 k)

  first_part : (xs ys : List A) → Every P (xs ++ ys) → Every P xs
  first_part [] ys h = tt
  first_part (x ∷ xs) ys h = (h.0, first_part xs ys h.1)

  second_part : (xs ys : List A) → Every P (xs ++ ys) → Every P ys
  second_part [] ys h = h
  second_part (x ∷ xs) ys h = second_part xs ys h.1

  from_contains : (xs : List A) → ((x : A) → Contains xs x → P x) → Every P xs
  from_contains [] h = tt
  from_contains (x ∷ xs) h = (h x (0, omega arith, refl), from_contains xs (λ y g. h y (suc g.0, omega (arith, g.1), g.2)))

  at_place : (xs : List A) (x : A) (k : ℕ) → k < length xs → get_or xs k x ≡ x → Every P xs → P x
  at_place [] x k l e h = absurd (omega (arith, l))
  at_place (y ∷ ys) x zero l e h = subst P e h.0
  at_place (y ∷ ys) x (suc k) l e h = at_place ys x k (omega (arith, l)) e h.1

module _ {A : Type 0} (test : A → Bool) where
  none_passes : (xs : List A) → list_any test xs ≡ false → Every (λ x. test x ≡ false) xs
  none_passes [] h = tt
  none_passes (x ∷ xs) h = by (test x) refl (none_passes xs) h
    where
      by : (b : Bool) → test x ≡ b → (list_any test xs ≡ false → Every (λ x. test x ≡ false) xs) → (b || list_any test xs) ≡ false → (test x ≡ false) × Every (λ x. test x ≡ false) xs
      by true e more k = let no : ⊥ = cc in absurd no
      by false e more k = (e, more k)

  passes_none : (xs : List A) → Every (λ x. test x ≡ false) xs → list_any test xs ≡ false
  passes_none [] h = refl
  passes_none (x ∷ xs) h = ap (λ b. b || list_any test xs) h.0 ∙ passes_none xs h.1

-- ---- loops whose variables have numbers

there : {A : Type 0} (o : Option A) → is_some o ≡ true → (x : A) × (o ≡ Some x)
there None h = let no : ⊥ = cc in absurd no
there (Some x) h = (x, refl)

abbrev names_of : List Counted → List (List ℕ)
names_of vs = map (λ (v : Counted). v.variable) vs

those_named : (e : Expression) (vs : List Counted) → names_of (standing_in e vs) ≡ standing (names_of vs) e
those_named e [] = refl
those_named e (v ∷ vs) = by (stands (names_in e) v) (those_named e vs)
  where
    by : (b : Bool) → names_of (standing_in e vs) ≡ standing (names_of vs) e → names_of (cond b (v ∷ standing_in e vs) (standing_in e vs)) ≡ cond b (v.variable ∷ standing (names_of vs) e) (standing (names_of vs) e)
    by true more = ap (λ xs. v.variable ∷ xs) more
    by false more = more

one_name : (vs : List Counted) (v : Counted) → names_of (vs ++ v ∷ []) ≡ names_of vs ++ v.variable ∷ []
one_name [] v = refl
one_name (w ∷ ws) v = ap (λ xs. w.variable ∷ xs) (one_name ws v)

module _ (symbols : List (List ℕ)) where
  abbrev AllFormed : List (List ℕ) → List SourceLoop → Type 0
  AllFormed names [] = Unit {0}
  AllFormed names (l ∷ ls) = (is_linear symbols names l.first ≡ true) × (is_some (step_of l.step) ≡ true) × AllFormed (names ++ l.variable ∷ []) ls

  formed_more : (names : List (List ℕ)) (ls : List SourceLoop) (l : SourceLoop) → AllFormed names ls → is_linear symbols (names ++ source_variables_of ls) l.first ≡ true → is_some (step_of l.step) ≡ true
      → AllFormed names (ls ++ l ∷ [])
  formed_more names [] l h a b = (ap (λ xs. is_linear symbols xs l.first) (sym (append-nil names)) ∙ a, b, tt)
  formed_more names (r ∷ rs) l h a b =
      (h.0, h.1, formed_more (names ++ r.variable ∷ []) rs l h.2 (ap (λ xs. is_linear symbols xs l.first) (append_assoc names (r.variable ∷ []) (source_variables_of rs)) ∙ a) b)

  counted_there : (xs : List ℤ) (ls : List SourceLoop) (js : List ℤ) (vs : List Counted) → length js ≡ length ls → AllFormed (names_of vs) ls
      → (out : List Counted) × (counted symbols xs vs ls js ≡ Some out)
  counted_there xs [] js vs e h = (vs, refl)
  counted_there xs (l ∷ ls) [] vs e h = absurd (omega (arith, e))
  counted_there xs (l ∷ ls) (j ∷ js) vs e h =
      let f = there (form_of (standing (names_of vs) l.first) symbols l.first) h.0 in
      let step = there (step_of l.step) h.1 in
      let form : form_of (names_of (standing_in l.first vs)) symbols l.first ≡ Some f.0 = ap (λ names. form_of names symbols l.first) (those_named l.first vs) ∙ f.1 in
      let first = number_at f.0 (numbers (standing_in l.first vs) ++ xs) in
      let number : number_in symbols xs vs l.first ≡ Some first = ap (option_map (λ (f : Form). number_at f (numbers (standing_in l.first vs) ++ xs))) form in
      let z = first +ℤ step.0 *ℤ (j -ℤ pos 1) in
      let v : Counted = record { variable = l.variable; number = z } in
      let more = counted_there xs ls js (vs ++ v ∷ []) (omega (arith, e)) (subst (λ names. AllFormed names ls) (sym (one_name vs v)) h.2) in (
        more.0,
        ap₂ (λ o s. and_then (at_iteration j o s) (λ z. counted symbols xs (vs ++ record { variable = l.variable; number = z } ∷ []) ls js)) number step.1 ∙ more.1,
      )

  are_counted : (around : List SourceLoop) → AllFormed [] around → AreCounted symbols around
  are_counted around h xs js a b = counted_there xs around js [] b h

  -- ---- all loops of a statement

  abbrev Unflawed : SurroundedLoop → Type 0
  Unflawed p = (is_flawed flaws.Bound symbols p ≡ false) × (is_flawed flaws.Step symbols p ≡ false)

  abbrev Round : SurroundedLoop → Type 0
  Round p = AllFormed [] p.around

  linear_first : (p : SurroundedLoop) → Unflawed p → is_linear symbols (source_variables_of p.around) p.loop.loop.first ≡ true
  linear_first p h =
      (both (is_linear symbols (source_variables_of p.around) p.loop.loop.first) (is_linear symbols (source_variables_of p.around) p.loop.loop.last)
      (not_false (is_linear symbols (source_variables_of p.around) p.loop.loop.first && is_linear symbols (source_variables_of p.around) p.loop.loop.last) h.0)).0

  has_step : (p : SurroundedLoop) → Unflawed p → is_some (step_of p.loop.loop.step) ≡ true
  has_step p h = not_false (is_some (step_of p.loop.loop.step)) h.1

  mutual
    rounds : (k : ℕ) (around : List SourceLoop) (c : Statement) → AllFormed [] around → Every Unflawed (loops_in k around c) → Every Round (loops_in k around c)
    rounds k around (Assignment line mark left right) a h = tt
    rounds k around (Where line mark mask left right) a h = tt
    rounds k around (If line arms other) a h =
        joined Round (loops_in_arms k around arms) (loops_in_block (after_arms k arms) around other)
        (rounds_arms k around arms a (first_part Unflawed (loops_in_arms k around arms) (loops_in_block (after_arms k arms) around other) h))
        (rounds_block (after_arms k arms) around other a (second_part Unflawed (loops_in_arms k around arms) (loops_in_block (after_arms k arms) around other) h))
    rounds k around (Do line x first last step body) a h =
        let l : SourceLoop = record { line = line; variable = x; first = first; last = last; step = step; body = body } in
        let p : SurroundedLoop = record { around = around; loop = record { before = k; loop = l } } in
        (a, rounds_block (next_loop_number k) (around ++ l ∷ []) body (formed_more [] around l a (linear_first p h.0) (has_step p h.0)) h.1)
    rounds k around (Label n) a h = tt
    rounds k around (GoTo line n) a h = tt
    rounds k around (Stop line) a h = tt
    rounds k around (Read line is) a h = tt
    rounds k around (Print line is) a h = tt
    rounds k around (Allocate line x es) a h = tt
    rounds k around (Deallocate line x) a h = tt

    rounds_arms : (k : ℕ) (around : List SourceLoop) (arms : Arms) → AllFormed [] around → Every Unflawed (loops_in_arms k around arms) → Every Round (loops_in_arms k around arms)
    rounds_arms k around no_arms a h = tt
    rounds_arms k around (arm e body arms) a h =
        joined Round (loops_in_block k around body) (loops_in_arms (after_block k body) around arms)
        (rounds_block k around body a (first_part Unflawed (loops_in_block k around body) (loops_in_arms (after_block k body) around arms) h))
        (rounds_arms (after_block k body) around arms a (second_part Unflawed (loops_in_block k around body) (loops_in_arms (after_block k body) around arms) h))

    rounds_block : (k : ℕ) (around : List SourceLoop) (b : Block) → AllFormed [] around → Every Unflawed (loops_in_block k around b) → Every Round (loops_in_block k around b)
    rounds_block k around no_statements a h = tt
    rounds_block k around (statement c cs) a h =
        joined Round (loops_in k around c) (loops_in_block (number_after k c) around cs)
        (rounds k around c a (first_part Unflawed (loops_in k around c) (loops_in_block (number_after k c) around cs) h))
        (rounds_block (number_after k c) around cs a (second_part Unflawed (loops_in k around c) (loops_in_block (number_after k c) around cs) h))

both_hold : {A : Type 0} (P Q : A → Type 0) (xs : List A) → Every P xs → Every Q xs → Every (λ x. P x × Q x) xs
both_hold P Q [] h k = tt
both_hold P Q (x ∷ xs) h k = ((h.0, k.0), both_hold P Q xs h.1 k.1)

pub bound_is_by_numbers : BoundIsByNumbers
bound_is_by_numbers symbols c b s =
    let ps = loops_in 0 [] c in
    let same : has_reason Bound symbols c ≡ list_any (loop_leaves_limits symbols) ps = ap₂ (λ x y. x || (not y && list_any (loop_leaves_limits symbols) ps)) b s in
    let unflawed = both_hold (λ p. is_flawed flaws.Bound symbols p ≡ false) (λ p. is_flawed flaws.Step symbols p ≡ false) ps
    (none_passes (is_flawed flaws.Bound symbols) ps b) (none_passes (is_flawed flaws.Step symbols) ps s) in
    let round = rounds symbols 0 [] c tt unflawed in (
      λ h p g.
          (keeps_by_meaning symbols p (are_counted symbols p.around (at_place (Round symbols) ps p g.0 g.1 g.2 round))).0
          (at_place (λ p. loop_leaves_limits symbols p ≡ false) ps p g.0 g.1 g.2 (none_passes (loop_leaves_limits symbols) ps (sym same ∙ h))),
      λ h.
          same ∙ passes_none (loop_leaves_limits symbols) ps
          (from_contains (λ p. loop_leaves_limits symbols p ≡ false) ps
          (λ p g. (keeps_by_meaning symbols p (are_counted symbols p.around (at_place (Round symbols) ps p g.0 g.1 g.2 round))).1 (h p g))),
    )
