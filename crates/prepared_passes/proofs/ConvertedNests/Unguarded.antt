-- Statements of nests that are found have no guards, and their IFs have arms; so is that of their normal forms.
use Rattle.std.proofs.Common.{◌≡◌, refl, sym, ap, subst, ℕ, Bool, true, false, true≢false, cond, List, [], ◌∷◌, ◌++◌, length, Option, Some, None, arith}
use Rattle.std.specs.Prelude.{IsTrue}
use Rattle.std.specs.Option.{option_map}
use Rattle.tree.specs.Plain.{Declaration, Program, Statement, Assignment, Where, If, Do, Label as Label', GoTo, Stop, Read, Print, Allocate, Deallocate, Arms, no_arms, arm, Block, no_statements, statement}
use Rattle.meaning.specs.Blocks.{Surroundings, before_labels, labels_of, outermost, within_loop}
use Rattle.meaning.specs.Labels.{has_arm}
use Rattle.meaning.specs.Dialect.{fortran77}
use Rattle.tree.specs.declared.width.Width.{Width}
use Rattle.meaning.specs.Profile77.{AreArms, IsBlock, IsProgram77, IsStatement}
use Rattle.meaning_laws.proofs.arrays.Members.{nowhere}
use Rattle.find_nests.specs.Laws.{IsFoundNest}
use Rattle.find_nests.specs.Loops.{loops_in_block}
use Rattle.find_nests.specs.nest_parts.Numbers.{number_after, after_arms, after_block, next_loop_number}
use Rattle.find_nests.specs.nest_parts.Statements.{branches_of, parts_of, parts_of_block}
use Rattle.find_nests.proofs.FoundLaws.{found_nest_is_loop}
use Rattle.last_values.specs.Behind.{stands_behind}
use Rattle.last_values.specs.InPlace.{assigned_part, end_part, first_text, own_trip_text}
use Rattle.last_values.specs.PartsInPlace.{only_where_part, parts_before, parts_behind}
use Rattle.last_values.specs.declared.behind.NestedLoop.{NestedLoop}
use Rattle.last_values.specs.declared.normal_forms.loops.NormalLoop.{NormalLoop}
use Rattle.last_values.specs.normal_forms.NormalLoops.{is_known, is_positive, normal_loop}
use Rattle.last_values.specs.normal_forms.Texts.{at_least_one}
use Rattle.normal_loops.specs.Bodies.{normal_branches, normal_part, normal_parts, normal_turns, placed_loop}
use Rattle.normal_loops.specs.Counting.{counting}
use Rattle.normal_loops.specs.Loops.{with_loop}
use Rattle.normal_loops.specs.Values.{normal_statement, statement_with_values, with_value, in_text}
use Rattle.nest.specs.Plain.{Branches, no_branches, branch, Guarded, Loop, Nest, Part, Run, Turns, Choice, Label, Jump, Parts, no_parts, part, parts}
use Rattle.nest_rewrite.specs.Statements.{rewritten_statement}
use Rattle.rewrite.specs.Making.{Making, made}
use Rattle.pass_laws.proofs.BranchSources.Walk.{IsProper, proper_block}
use Rattle.pass_laws.proofs.ReadyNests.Lists.{Each-Contains}
use Rattle.pass_laws.proofs.ReadyNests.Made.{made_of}
use Rattle.prepared_passes.specs.conversion.Branching.{AreUnguarded, BranchesAreUnguarded, HasArm, IsUnguarded}
use Rattle.prepared_passes.specs.conversion.Found.{FoundNestIsUnguarded}

both : (ps qs : List Part) → AreUnguarded (parts ps) → AreUnguarded (parts qs) → AreUnguarded (parts (ps ++ qs))
both [] qs h k = k
both (p ∷ ps) qs h k = (h.0, both ps qs h.1 k)

-- ---- of a program

has_arms : (k : ℕ) (arms : Arms) → IsTrue (has_arm arms) → HasArm (branches_of k arms)
has_arms k no_arms h = absurd (true≢false (sym h))
has_arms k (arm test body arms) h = tt

module _ (ds : List Declaration) where
  mutual
    in_statement : (k : ℕ) (c : Statement) (w : Surroundings) → IsStatement ds c w → AreUnguarded (parts (parts_of k c))
    in_statement k (Assignment line mark left right) w h = (refl, tt)
    in_statement k (Where line mark mask left right) w h = tt
    in_statement k (If line arms other) w h = ((has_arms k arms h.1, in_arms k arms w h.2, in_block (after_arms k arms) other w h.3), tt)
    in_statement k (Do line x a b c body) w h = (in_block (next_loop_number k) body (within_loop x w) h.5, tt)
    in_statement k (Label' n) w h = (tt, tt)
    in_statement k (GoTo line n) w h = (tt, tt)
    in_statement k (Stop line) w h = tt
    in_statement k (Read line is) w h = tt
    in_statement k (Print line is) w h = tt
    in_statement k (Allocate line x es) w h = tt
    in_statement k (Deallocate line x) w h = tt

    in_arms : (k : ℕ) (arms : Arms) (w : Surroundings) → AreArms ds arms w → BranchesAreUnguarded (branches_of k arms)
    in_arms k no_arms w h = tt
    in_arms k (arm test body arms) w h = (in_block k body w h.1, in_arms (after_block k body) arms w h.2)

    in_block : (k : ℕ) (b : Block) (w : Surroundings) → IsBlock ds b w → AreUnguarded (parts (parts_of_block k b))
    in_block k no_statements w h = tt
    in_block k (statement c cs) w h = both (parts_of k c) (parts_of_block (number_after k c) cs) (in_statement k c (before_labels (labels_of cs) w) h.0) (in_block (number_after k c) cs w h.1)

found_unguarded : (width : Width) (p : Program) (n : Nest) → IsProgram77 (fortran77 width) p → IsFoundNest p n → IsUnguarded n.body
found_unguarded width p n is f =
    let proper = Each-Contains (IsProper p.declarations) (loops_in_block 0 [] p.body) f.loop
    (proper_block p.declarations 0 [] p.body outermost (omega arith) is.statements (record { once = is.labels; apart = λ k c e. nowhere k c })) f.stands in
    subst (λ (z : Nest). IsUnguarded z.body) (sym f.is) (in_block p.declarations (next_loop_number f.loop.loop.before) f.loop.loop.loop.body (within_loop f.loop.loop.loop.variable proper.round) proper.body)

-- ---- with loops from 1 by 1

rewritten_unguarded : (m : Making) (s : Guarded) → s.guard ≡ None → (rewritten_statement m s).guard ≡ None
rewritten_unguarded m s e = ap (option_map (made m)) e

module _ (n : Nest) (ls : List NestedLoop) where
  with_values : (outer rs : List NormalLoop) (s : Guarded) → s.guard ≡ None → (statement_with_values n.symbols outer rs s).guard ≡ None
  with_values outer [] s e = e
  with_values outer (r ∷ rs) s e = with_values (outer ++ r ∷ []) rs (rewritten_statement (with_value n.symbols outer r) s) (rewritten_unguarded (with_value n.symbols outer r) s e)

  statement_unguarded : (round : List NormalLoop) (s : Guarded) → s.guard ≡ None → (normal_statement n.symbols round s).guard ≡ None
  unfolding normal_statement
  statement_unguarded round s e = rewritten_unguarded (in_text n.symbols round) (statement_with_values n.symbols [] round s) (with_values [] round s e)

  before_unguarded : (round : List NormalLoop) (r : NormalLoop) → AreUnguarded (parts (parts_before n.symbols n.line round r))
  unfolding parts_before
  before_unguarded round r = by (is_positive r.trip)
    where
      by : (b : Bool) → AreUnguarded (parts (cond b [] (assigned_part n.line r.variable (first_text n.symbols round r) ∷ [])))
      by true = tt
      by false = (refl, tt)

  behind_unguarded : (round : List NormalLoop) (r : NormalLoop) → AreUnguarded (parts (parts_behind n.symbols n.line round r))
  unfolding parts_behind
  behind_unguarded round r = by (is_positive r.trip) (is_known r.trip)
    where
      by : (b c : Bool) → AreUnguarded (parts (cond b (end_part n.symbols n.line round r ∷ []) (cond c []
          (only_where_part (at_least_one (own_trip_text n.symbols round r))
          (end_part n.symbols n.line round r ∷ []) ∷ []))))
      by true c = (refl, tt)
      by false true = tt
      by false false = ((tt, ((refl, tt), tt), tt), tt)

  placed_unguarded : (round : List NormalLoop) (r : NormalLoop) (q : Part) → IsUnguarded q → AreUnguarded (parts (placed_loop n ls round r q))
  placed_unguarded round r q h = by (stands_behind (length n.symbols) ls n.body r.variable)
    where
      by : (b : Bool) → AreUnguarded (parts (cond b (q ∷ []) (parts_before n.symbols n.line round r ++ (q ∷ parts_behind n.symbols n.line round r))))
      by true = (h, tt)
      by false = both (parts_before n.symbols n.line round r) (q ∷ parts_behind n.symbols n.line round r) (before_unguarded round r) (h, behind_unguarded round r)

  turns_unguarded : (round : List NormalLoop) (l : Loop) (o : Option NormalLoop) (ps : List Part) → AreUnguarded (parts ps) → AreUnguarded (parts (normal_turns n ls round l o ps))
  turns_unguarded round l None ps h = (h, tt)
  turns_unguarded round l (Some r) ps h = placed_unguarded round r (Turns (counting n.symbols round l r) (parts ps)) h

  has_arm_still : (round : List NormalLoop) (bs : Branches) → HasArm bs → HasArm (normal_branches n ls round bs)
  has_arm_still round no_branches h = h
  has_arm_still round (branch test ps bs) h = tt

  mutual
    normal_unguarded : (round : List NormalLoop) (q : Part) → IsUnguarded q → AreUnguarded (parts (normal_part n ls round q))
    normal_unguarded round (Run s) h = (statement_unguarded round s h, tt)
    normal_unguarded round (Turns l ps) h =
        turns_unguarded round l (normal_loop n.symbols round l) (normal_parts n ls (with_loop round (normal_loop n.symbols round l)) ps) (parts_unguarded (with_loop round (normal_loop n.symbols round l)) ps h)
    normal_unguarded round (Choice bs ps) h = ((has_arm_still round bs h.0, branches_unguarded round bs h.1, parts_unguarded round ps h.2), tt)
    normal_unguarded round (Label k) h = (tt, tt)
    normal_unguarded round (Jump k) h = (tt, tt)

    parts_unguarded : (round : List NormalLoop) (ps : Parts) → AreUnguarded ps → AreUnguarded (parts (normal_parts n ls round ps))
    parts_unguarded round no_parts h = tt
    parts_unguarded round (part p ps) h = both (normal_part n ls round p) (normal_parts n ls round ps) (normal_unguarded round p h.0) (parts_unguarded round ps h.1)

    branches_unguarded : (round : List NormalLoop) (bs : Branches) → BranchesAreUnguarded bs → BranchesAreUnguarded (normal_branches n ls round bs)
    branches_unguarded round no_branches h = tt
    branches_unguarded round (branch test ps bs) h = (parts_unguarded round ps h.0, branches_unguarded round bs h.1)

pub found_nest_is_unguarded : (width : Width) → FoundNestIsUnguarded width
found_nest_is_unguarded width p n m is h made =
    let f = found_nest_is_loop p n h in
    let z = made_of n m made in
    let g : AreUnguarded (parts (m.body ∷ [])) = subst (λ ps. AreUnguarded (parts ps)) z.body (normal_unguarded n z.loops [] n.body (found_unguarded width p n is f)) in
    g.0
