-- A label that is a target is named by a GO TO that stands in the block.
use Rattle.std.proofs.Common.{◌≡◌, ◌⊎◌, inl, inr, ℕ, ◌==◌, ◌||◌, Bool, true, false, List, [], ◌∷◌, ◌++◌, refl, sym, ap, subst, ◌∙◌, arith, Contains}
use Rattle.std.proofs.lemmas.Bool.{or_cases}
use Rattle.std.proofs.lemmas.Bool.Decides.{Decides-eqb}
use Rattle.std.proofs.lemmas.List.Elements.{Contains-append_left, Contains-append_right, Contains-append_cases}
use Rattle.tree.specs.Plain as tree
use Rattle.tree.specs.Plain.{Expression, Statement, Arms, Block}
use Rattle.meaning.specs.Blocks.{Surroundings, within_loop, before_labels, labels_of}
use Rattle.meaning.specs.Labels.{targets_of, targets_in_arms, targets_in}
use Rattle.f90_grammar.specs.Reading.{names_label, arms_name_label, is_target_in}
use Rattle.f90_grammar.specs.Surroundings.{StandsIn, StandsWithin, StandsInArms}
use Rattle.f90_grammar.specs.Surroundings.StandsIn.{itself, further, inside}
use Rattle.f90_grammar.specs.Surroundings.StandsWithin.{in_loop, in_arm, in_else}
use Rattle.f90_grammar.specs.Surroundings.StandsInArms.{in_first, in_later}
use mathlib.Core.Logic.{⊎_elim}
use Rattle.f90_laws.proofs.readings.Lists.{here, nowhere, cases_of}

mutual
  named_by : (n : ℕ) (c : Statement) → names_label n c ≡ true → Contains (targets_of c) n
  named_by n (tree.GoTo line m) t = subst (λ k. Contains (m ∷ []) k) (sym ((Decides-eqb n m).0 t)) (here m [])
  named_by n (tree.If line arms other) t =
      ⊎_elim (λ h. Contains-append_left (targets_in_arms arms) (targets_in other) n (named_in_arms n arms h))
      (λ h. Contains-append_right (targets_in_arms arms) (targets_in other) n (named_in n other h))
      (or_cases (arms_name_label n arms) (is_target_in other n) t)
  named_by n (tree.Do line x a b c body) t = named_in n body t
  named_by n (tree.Assignment line mark left right) t = cc
  named_by n (tree.Where line mark m left right) t = cc
  named_by n (tree.Label m) t = cc
  named_by n (tree.Stop line) t = cc
  named_by n (tree.Read line is) t = cc
  named_by n (tree.Print line is) t = cc
  named_by n (tree.Allocate line x es) t = cc
  named_by n (tree.Deallocate line x) t = cc

  named_in_arms : (n : ℕ) (arms : Arms) → arms_name_label n arms ≡ true → Contains (targets_in_arms arms) n
  named_in_arms n tree.no_arms t = cc
  named_in_arms n (tree.arm test body more) t =
      ⊎_elim (λ h. Contains-append_left (targets_in body) (targets_in_arms more) n (named_in n body h))
      (λ h. Contains-append_right (targets_in body) (targets_in_arms more) n (named_in_arms n more h))
      (or_cases (is_target_in body n) (arms_name_label n more) t)

  pub named_in : (n : ℕ) (b : Block) → is_target_in b n ≡ true → Contains (targets_in b) n
  named_in n tree.no_statements t = cc
  named_in n (tree.statement c cs) t =
      ⊎_elim (λ h. Contains-append_left (targets_of c) (targets_in cs) n (named_by n c h))
      (λ h. Contains-append_right (targets_of c) (targets_in cs) n (named_in n cs h))
      (or_cases (names_label n c) (is_target_in cs n) t)

-- a GO TO with the label stands there
pub record JumpsIn (b : Block) (w : Surroundings) (n : ℕ) : Type 0 where
  pub line : ℕ
  pub around : Surroundings
  pub stands : StandsIn b w (tree.GoTo line n) around

record JumpsWithin (c : Statement) (w : Surroundings) (n : ℕ) : Type 0 where
  line : ℕ
  around : Surroundings
  stands : StandsWithin c w (tree.GoTo line n) around

record JumpsInArms (arms : Arms) (w : Surroundings) (n : ℕ) : Type 0 where
  line : ℕ
  around : Surroundings
  stands : StandsInArms arms w (tree.GoTo line n) around

abbrev IsJump : Statement → ℕ → Type 0
IsJump (tree.GoTo line m) n = m ≡ n
IsJump c n = ⊥

only : (m n : ℕ) → Contains (m ∷ []) n → m ≡ n
only m n h = ⊎_elim (λ e. e) (λ c. absurd (nowhere n c)) (cases_of m [] n h)

arm_jump : (n line : ℕ) (arms : Arms) (other : Block) (w : Surroundings) → JumpsInArms arms w n → JumpsWithin (tree.If line arms other) w n
arm_jump n line arms other w j = record { line = j.line; around = j.around; stands = in_arm line arms other w (tree.GoTo j.line n) j.around j.stands }

else_jump : (n line : ℕ) (arms : Arms) (other : Block) (w : Surroundings) → JumpsIn other w n → JumpsWithin (tree.If line arms other) w n
else_jump n line arms other w j = record { line = j.line; around = j.around; stands = in_else line arms other w (tree.GoTo j.line n) j.around j.stands }

first_jump : (n : ℕ) (test : Expression) (body : Block) (more : Arms) (w : Surroundings) → JumpsIn body w n → JumpsInArms (tree.arm test body more) w n
first_jump n test body more w j = record { line = j.line; around = j.around; stands = in_first test body more w (tree.GoTo j.line n) j.around j.stands }

later_jump : (n : ℕ) (test : Expression) (body : Block) (more : Arms) (w : Surroundings) → JumpsInArms more w n → JumpsInArms (tree.arm test body more) w n
later_jump n test body more w j = record { line = j.line; around = j.around; stands = in_later test body more w (tree.GoTo j.line n) j.around j.stands }

further_jump : (n : ℕ) (c : Statement) (cs : Block) (w : Surroundings) → JumpsIn cs w n → JumpsIn (tree.statement c cs) w n
further_jump n c cs w j = record { line = j.line; around = j.around; stands = further c (tree.GoTo j.line n) cs w j.around j.stands }

jump : (n : ℕ) (cs : Block) (w : Surroundings) (d : Statement) → IsJump d n → JumpsIn (tree.statement d cs) w n
jump n cs w (tree.GoTo line m) e = record { line = line; around = before_labels (labels_of cs) w; stands = subst (λ k. StandsIn (tree.statement (tree.GoTo line m) cs) w (tree.GoTo line k) (before_labels (labels_of cs) w)) e (itself (tree.GoTo line m) cs w) }
jump n cs w (tree.If line arms other) e = absurd e
jump n cs w (tree.Do line x a b c body) e = absurd e
jump n cs w (tree.Assignment line mark left right) e = absurd e
jump n cs w (tree.Where line mark m left right) e = absurd e
jump n cs w (tree.Label m) e = absurd e
jump n cs w (tree.Stop line) e = absurd e
jump n cs w (tree.Read line is) e = absurd e
jump n cs w (tree.Print line is) e = absurd e
jump n cs w (tree.Allocate line x es) e = absurd e
jump n cs w (tree.Deallocate line x) e = absurd e

within_jump : (n : ℕ) (c : Statement) (cs : Block) (w : Surroundings) → IsJump c n ⊎ JumpsWithin c (before_labels (labels_of cs) w) n → JumpsIn (tree.statement c cs) w n
within_jump n c cs w (inl e) = jump n cs w c e
within_jump n c cs w (inr j) = record { line = j.line; around = j.around; stands = inside c (tree.GoTo j.line n) cs w j.around j.stands }

mutual
  jumps_within : (n : ℕ) (c : Statement) (w : Surroundings) → Contains (targets_of c) n → IsJump c n ⊎ JumpsWithin c w n
  jumps_within n (tree.GoTo line m) w t = inl (only m n t)
  jumps_within n (tree.If line arms other) w t =
      inr (⊎_elim (λ h. arm_jump n line arms other w (jumps_in_arms n arms w h)) (λ h. else_jump n line arms other w (jumps_in n other w h))
      (Contains-append_cases (targets_in_arms arms) (targets_in other) n t))
  jumps_within n (tree.Do line x a b c body) w t =
      let j = jumps_in n body (within_loop x w) t in inr (record { line = j.line; around = j.around; stands = in_loop line x a b c body w (tree.GoTo j.line n) j.around j.stands })
  jumps_within n (tree.Assignment line mark left right) w t = absurd (nowhere n t)
  jumps_within n (tree.Where line mark m left right) w t = absurd (nowhere n t)
  jumps_within n (tree.Label m) w t = absurd (nowhere n t)
  jumps_within n (tree.Stop line) w t = absurd (nowhere n t)
  jumps_within n (tree.Read line is) w t = absurd (nowhere n t)
  jumps_within n (tree.Print line is) w t = absurd (nowhere n t)
  jumps_within n (tree.Allocate line x es) w t = absurd (nowhere n t)
  jumps_within n (tree.Deallocate line x) w t = absurd (nowhere n t)

  jumps_in_arms : (n : ℕ) (arms : Arms) (w : Surroundings) → Contains (targets_in_arms arms) n → JumpsInArms arms w n
  jumps_in_arms n tree.no_arms w t = absurd (nowhere n t)
  jumps_in_arms n (tree.arm test body more) w t =
      ⊎_elim (λ h. first_jump n test body more w (jumps_in n body w h)) (λ h. later_jump n test body more w (jumps_in_arms n more w h))
      (Contains-append_cases (targets_in body) (targets_in_arms more) n t)

  pub jumps_in : (n : ℕ) (b : Block) (w : Surroundings) → Contains (targets_in b) n → JumpsIn b w n
  jumps_in n tree.no_statements w t = absurd (nowhere n t)
  jumps_in n (tree.statement c cs) w t =
      ⊎_elim (λ h. within_jump n c cs w (jumps_within n c (before_labels (labels_of cs) w) h)) (λ h. further_jump n c cs w (jumps_in n cs w h))
      (Contains-append_cases (targets_of c) (targets_in cs) n t)
