-- The loops' variables are replaced one after the other: between two steps, the names of the loops still to come are as
-- in one store, and all others as in the other one.
use Rattle.std.proofs.Common.{◌≡◌, refl, sym, ap, ◌∙◌, subst, ℕ, suc, ◌+◌, ℤ, Bool, List, [], ◌∷◌, ◌++◌, length}
use Rattle.std.proofs.Common.{append_assoc, append-nil, Ok, Some, arith}
use Rattle.std.specs.Bool.{⊤}
use Rattle.tree.specs.declared.ops.Value.{Value}
use Rattle.tree.specs.declared.ops.Value.TheVariants.{Int}
use Rattle.tree.specs.Plain.{Expression}
use Rattle.meaning.specs.Store.{Store}
use Rattle.meaning.specs.Value.{value_of}
use Rattle.rewrite.specs.Following.{sequential}
use Rattle.rewrite.specs.Replacing.{ValueStandsFor}
use Rattle.linear_forms.specs.Linear.{HaveValues}
use Rattle.nest.specs.Plain.{Loop}
use Rattle.normal_loops.specs.Tests.{test_with_values, normal_test}
use Rattle.last_values.specs.declared.normal_forms.loops.NormalLoop.{NormalLoop}
use Rattle.last_values.specs.normal_forms.NormalLoops.{counters_of, variables_of, normal_loop}
use Rattle.last_values.specs.normal_forms.Numbers.{number_of_form, values_from, variable_numbers}
use Rattle.last_values.specs.normal_forms.Texts.{variable_text}
use Rattle.pass_laws.specs.normal_values.Beside.{AreApart, AreNormalLoops, IsBeside, iteration_at}
use Rattle.pass_laws.specs.normal_values.Laws.{ExpressionBeside}
use Rattle.pass_laws.proofs.NormalValues.Counters.{values_split, counters_both, counters_there, symbols_there, symbols_other}
use Rattle.pass_laws.proofs.NormalValues.Counters.{counters_other}
use Rattle.pass_laws.proofs.NormalValues.Forms.{AreOver, over_more, value_over}
use Rattle.pass_laws.proofs.NormalValues.Mixed.{AreOther, others_of, mixed, mixed_stands, mixed_values, mixed_sized, value_mixed}
use Rattle.pass_laws.proofs.NormalValues.Replaced.{alone, replaced_value, canonical_value}
use Rattle.pass_laws.proofs.NormalValues.Steps.{loop_made}
use Rattle.pass_laws.proofs.NormalValues.ValueTexts.{counters_count, value_text_number}

-- ---- the values of the loops' variables are forms of their counters

one_behind : (outer : List NormalLoop) (r : NormalLoop) → suc (length outer) ≡ length (outer ++ r ∷ [])
one_behind [] r = refl
one_behind (q ∷ outer) r = ap suc (one_behind outer r)

over_next : (symbols : List (List ℕ)) (outer : List NormalLoop) (l : Loop) (r : NormalLoop) → normal_loop symbols outer l ≡ Some r → AreOver (length outer) outer → AreOver (length (outer ++ r ∷ [])) (outer ++ r ∷ [])
over_next symbols outer l r normal over =
    subst (λ m. AreOver m (outer ++ r ∷ [])) (one_behind outer r) (over_more (length outer) outer r over (value_over symbols outer l r (loop_made symbols outer l r normal) over))

loops_over : (symbols : List (List ℕ)) (outer rs : List NormalLoop) → AreNormalLoops symbols outer rs → AreOver (length outer) outer → AreOver (length (outer ++ rs)) (outer ++ rs)
loops_over symbols outer [] normal over = subst (λ l. AreOver (length l) l) (sym (append-nil outer)) over
loops_over symbols outer (r ∷ rs) normal over =
    subst (λ l. AreOver (length l) l) (append_assoc outer (r ∷ []) rs) (loops_over symbols (outer ++ r ∷ []) rs normal.1 (over_next symbols outer normal.0.0 r normal.0.1 over))

pub round_over : (symbols : List (List ℕ)) (apart : List ℕ → Bool) (round : List NormalLoop) → AreApart symbols apart round → AreOver (length round) round
round_over symbols apart round free = loops_over symbols [] round free.loops tt

-- ---- the stores

module _ (bits : ℕ) (symbols : List (List ℕ)) (values : ℕ → ℤ) (apart : List ℕ → Bool) (round : List NormalLoop) (is : List ℕ) (s t : Store) (free : AreApart symbols apart round) (beside : IsBeside symbols values apart round is s t) where
  abbrev n : ℕ
  n = length symbols

  abbrev it : ℕ → ℤ
  it = iteration_at is

  -- the names of these loops are as in s
  abbrev pub between : List NormalLoop → Store
  between rs = mixed s t (variables_of rs)

  abbrev Others : List NormalLoop → Type 0
  Others rs = AreOther (variables_of rs) (counters_of round) × AreOther (variables_of rs) symbols

  -- each text stands for its loop's variable
  abbrev pub AreStanding : List NormalLoop → List NormalLoop → Type 0
  AreStanding outer [] = ⊤
  AreStanding outer (r ∷ rs) = ValueStandsFor (alone r.variable (variable_text symbols outer r)) bits (between (r ∷ rs)) (between rs) × AreStanding (outer ++ r ∷ []) rs

  counters_between : (outer rs : List NormalLoop) (r : NormalLoop) → outer ++ (r ∷ rs) ≡ round → AreOther (variables_of rs) (counters_of round)
      → HaveValues (counters_of outer) (between rs) (values_from (length outer) 0 it) × HaveValues (r.counter ∷ []) (between rs) (it (length outer) ∷ [])
  counters_between outer rs r whole others =
      let all = mixed_values s t (variables_of rs) (counters_of round) (values_from (length (counters_of round)) 0 it) others (counters_there symbols values apart round is s t free beside) in
      let parted = subst (λ xs. HaveValues xs (between rs) (values_from (length xs) 0 it)) (ap counters_of (sym whole) ∙ counters_both outer (r ∷ rs)) all in
      let p = values_split it (counters_of outer) (counters_of (r ∷ rs)) 0 (between rs) parted in
      let count : 0 + length (counters_of outer) ≡ length outer = (let e = counters_count outer in omega (arith, e)) in (
        subst (λ m. HaveValues (counters_of outer) (between rs) (values_from m 0 it)) (counters_count outer) p.0,
        (p.1.0, p.1.1 ∙ ap (λ m. Int (it m)) count, tt),
      )

  stands : (outer rs : List NormalLoop) (r : NormalLoop) (l : Loop) → normal_loop symbols outer l ≡ Some r → outer ++ (r ∷ rs) ≡ round → AreOver (length outer) outer → Others rs
      → HaveValues (r.variable ∷ []) s (number_of_form n it values r.value ∷ [])
      → ValueStandsFor (alone r.variable (variable_text symbols outer r)) bits (between (r ∷ rs)) (between rs)
  stands outer rs r l normal whole over others held =
      let counters = counters_between outer rs r whole others.0 in
      let known = mixed_values s t (variables_of rs) symbols (values_from n 0 values) others.1 (symbols_there symbols values apart round is s t free beside) in
      let number = value_text_number (sequential bits) symbols outer l r (loop_made symbols outer l r normal) over (between rs) (mixed_sized s t (variables_of rs) beside.sized beside.sized_beside) it values counters.0 counters.1 known in
      mixed_stands s t bits r.variable (variables_of rs) (variable_text symbols outer r) (Int (number_of_form n it values r.value)) held.0 held.1 number

  all_stand : (outer rs : List NormalLoop) → AreNormalLoops symbols outer rs → outer ++ rs ≡ round → AreOver (length outer) outer → Others rs
      → HaveValues (variables_of rs) s (variable_numbers n it values rs) → AreStanding outer rs
  all_stand outer [] normal whole over others held = tt
  all_stand outer (r ∷ rs) normal whole over others held =
      let l = normal.0.0 in
      let later : Others rs = (others_of r.variable (variables_of rs) (counters_of round) others.0, others_of r.variable (variables_of rs) symbols others.1) in (
        stands outer rs r l normal.0.1 whole over later (held.0, held.1, tt),
        all_stand (outer ++ r ∷ []) rs normal.1 (append_assoc outer (r ∷ []) rs ∙ whole)
            (over_next symbols outer l r normal.0.1 over) later held.2,
      )

  pub round_stands : AreStanding [] round
  round_stands = all_stand [] round free.loops refl tt (counters_other symbols values apart round is s t free beside, symbols_other symbols values apart round is s t free beside) beside.variables

  -- ---- expressions

  test_kept : (outer rs : List NormalLoop) → AreStanding outer rs → (e : Expression) (v : Value) → value_of (sequential bits) e (between rs) ≡ Ok v → value_of (sequential bits) (test_with_values symbols outer rs e) t ≡ Ok v
  test_kept outer [] h e v k = k
  test_kept outer (r ∷ rs) h e v k =
      test_kept (outer ++ r ∷ []) rs h.1 _ v (replaced_value bits r.variable (variable_text symbols outer r) (between (r ∷ rs)) (between rs) h.0 e v k)

pub expression_is_beside : ExpressionBeside
unfolding normal_test
expression_is_beside bits symbols values apart round is s t e v low high free beside plain suit h =
    canonical_value bits (counters_of round) symbols t beside.sized_beside (test_with_values symbols [] round e) v
    (test_kept bits symbols values apart round is s t free beside [] round (round_stands bits symbols values apart round is s t free beside) e v
    (sym (value_mixed s t apart (variables_of round) beside.bounds beside.held bits e suit) ∙ h))
