-- Each loop of a nest that was found has a loop from 1 by 1.
use mathlib.Core.Path.{ap₂}
use Rattle.std.proofs.Common.{◌≡◌, refl, sym, ap, ◌∙◌, subst, ℕ, suc, ◌+◌, ◌^◌, ◌<◌, ℤ, pos, Bool, true, false, cond, not, ◌&&◌, ◌||◌, List, [], ◌∷◌, ◌++◌, length, length-append, Option, Some, None, arith}
use Rattle.std.specs.Prelude.{is_some, nat_le, nat_abs}
use Rattle.std.specs.Ordering.{int_eq}
use Rattle.std.proofs.lemmas.Bool.{leb-true, leb-false, le-leb}
use Rattle.tree.specs.Plain.{Expression, Statement, Assignment, Where, If, Do, Label, GoTo, Stop, Read, Print, Allocate, Deallocate, Arms, no_arms, arm, Block, no_statements, statement}
use Rattle.components.proofs.ListLaws.{Each-append}
use Rattle.linear_forms.specs.Linear.{Form, is_small, constant_of}
use Rattle.linear_forms.proofs.Sizes.{both}
use Rattle.nest.specs.Plain.{Part, parts}
use Rattle.nest_reasons.specs.declared.flaws.Flaw.TheVariants.{Deep}
use Rattle.nest_reasons.specs.Increments.{step_of, suitable, suitable_or_none}
use Rattle.nest_reasons.specs.Increments as increments
use Rattle.nest_reasons.specs.Loops.{has_flaw}
use Rattle.nest_reasons.specs.Walks.{any_loop, any_in_arms, any_in_block}
use Rattle.find_nests.specs.nest_parts.Numbers.{next_loop_number, number_after, after_arms, after_block}
use Rattle.find_nests.specs.nest_parts.Statements.{source_loop, step_or_zero, parts_of, branches_of, parts_of_block}
use Rattle.find_nests.specs.bound_limits.Composed.{Outer, composed_bound}
use Rattle.find_nests.specs.bound_limits.Limits.{normal, all_keep_limits}
use Rattle.find_nests.specs.bound_limits.Loops.{leaves_with, leaves_limits, normal_or_zero, as_outer}
use Rattle.find_nests.specs.bound_limits.Walks.{any_leaves, any_leaves_arms, any_leaves_block}
use Rattle.last_values.specs.normal_forms.NormalLoops.{normal_loop, is_zero}
use Rattle.last_values.specs.declared.normal_forms.loops.NormalLoop.{NormalLoop}
use Rattle.normal_loops.specs.Loops.{with_loop}
use Rattle.normal_loops.specs.Normal.{is_normal, are_normal, are_normal_branches}
use Rattle.pass_laws.proofs.ReadyNests.LoopForms.{HaveZeros, HaveZeros-later, normal_loop_is}
use Rattle.pass_laws.proofs.ReadyNests.Sums.{Zero}
use Rattle.pass_laws.proofs.NormalNests.Bounds.{AllStand, Stands, same_length}
use Rattle.pass_laws.proofs.NormalNests.Loop.{loop_turned}

neither : (a b : Bool) → (a || b) ≡ false → (a ≡ false) × (b ≡ false)
neither true b h = let no : ⊥ = cc in absurd no
neither false b h = (refl, h)

not_false : (a : Bool) → not a ≡ false → a ≡ true
not_false true h = refl
not_false false h = let no : ⊥ = cc in absurd no

-- ---- increments

record IsStep (z : ℤ) : Type 0 where
  nonzero : not (is_zero z) ≡ true
  small : is_small z ≡ true

step_is : (z w : ℤ) → suitable z ≡ Some w → IsStep w
step_is z w h = by (increments.is_suitable_increment z) refl h
  where
    by : (b : Bool) → increments.is_suitable_increment z ≡ b → cond b (Some z) None ≡ Some w → IsStep w
    by true e k =
        let same : z ≡ w = cc in
        let p = both (not (int_eq z (pos 0))) (nat_le (nat_abs z) (2 ^ 31)) e in
        let most = leb-true (nat_abs z) (2 ^ 31) p.1 in
        subst IsStep same (record { nonzero = p.0; small = le-leb (nat_abs z) (2 ^ 40) (omega (arith, most)) })
    by false e k = let no : ⊥ = cc in absurd no

step_found : (e : Expression) (w : ℤ) → step_of e ≡ Some w → IsStep w
step_found e w h = by (constant_of e) h
  where
    by : (o : Option ℤ) → suitable_or_none o ≡ Some w → IsStep w
    by None k = let no : ⊥ = cc in absurd no
    by (Some z) k = step_is z w k

-- ---- a loop that keeps the limits

record KeepsAll (n : ℕ) (o : Option ℤ) (p q : Option Form) : Type 0 where
  step : ℤ
  first : Form
  last : Form
  step_is : o ≡ Some step
  first_is : p ≡ Some first
  last_is : q ≡ Some last
  kept : all_keep_limits n step first last ≡ true

keeps_all : (n : ℕ) (o : Option ℤ) (p q : Option Form) → leaves_with n o p q ≡ false → KeepsAll n o p q
keeps_all n (Some z) (Some f) (Some g) h =
    record { step = z; first = f; last = g; step_is = refl; first_is = refl; last_is = refl; kept = not_false (all_keep_limits n z f g) h }
keeps_all n (Some z) (Some f) None h = let no : ⊥ = cc in absurd no
keeps_all n (Some z) None q h = let no : ⊥ = cc in absurd no
keeps_all n None p q h = let no : ⊥ = cc in absurd no

-- ---- loops round what is looked at

module _ (symbols : List (List ℕ)) where
  pub record AreRound (round : List NormalLoop) (around : List Outer) (names : List (List ℕ)) : Type 0 where
    pub stand : AllStand (length symbols) round around
    pub zeros : HaveZeros (length round) round
    pub names_are : length names ≡ length round

  one_more : {A : Type 0} (xs : List A) (x : A) → length (xs ++ x ∷ []) ≡ suc (length xs)
  one_more xs x = length-append xs (x ∷ []) ∙ omega arith

  stand_more : (round : List NormalLoop) (around : List Outer) (r : NormalLoop) (o : Outer) → AllStand (length symbols) round around → Stands (length symbols) r o
      → AllStand (length symbols) (round ++ r ∷ []) (around ++ o ∷ [])
  stand_more [] [] r o h s = (s, tt)
  stand_more [] (p ∷ ps) r o h s = absurd h
  stand_more (q ∷ qs) [] r o h s = absurd h
  stand_more (q ∷ qs) (p ∷ ps) r o h s = (h.0, stand_more qs ps r o h.1 s)

  -- a loop of the source that keeps the limits, under these loops
  record IsLoop (round : List NormalLoop) (around : List Outer) (names : List (List ℕ)) (k : ℕ) (x : List ℕ) (a b c : Expression) : Type 0 where
    turns : NormalLoop
    is : normal_loop symbols round (source_loop k x a b c) ≡ Some turns
    inside : AreRound (round ++ turns ∷ []) (around ++ as_outer symbols around x a c ∷ []) (names ++ x ∷ [])

  loop_is : (round : List NormalLoop) (around : List Outer) (names : List (List ℕ)) (k : ℕ) (x : List ℕ) (a b c : Expression) → AreRound round around names
      → leaves_limits symbols around a b c ≡ false → nat_le 7 (length names) ≡ false → IsLoop round around names k x a b c
  loop_is round around names k x a b c h l deep =
      let q = keeps_all (length symbols) (step_of c) (composed_bound symbols around a) (composed_bound symbols around b) l in
      let s = step_found c q.step q.step_is in
      let same = h.names_are in
      let few = leb-false 7 (length names) deep in
      let under : length round < 7 = omega (arith, few, same) in
      let step_same : step_or_zero (step_of c) ≡ q.step = ap step_or_zero q.step_is in
      let t = loop_turned symbols round around (source_loop k x a b c) q.first q.last h.stand under h.zeros q.first_is q.last_is
      (subst (λ z. all_keep_limits (length symbols) z q.first q.last ≡ true) (sym step_same) q.kept)
      (subst (λ z. not (is_zero z) ≡ true) (sym step_same) s.nonzero) (subst (λ z. is_small z ≡ true) (sym step_same) s.small) in
      let is = normal_loop_is symbols round (source_loop k x a b c) t.turns h.zeros t.is in
      let many = one_more round t.turns in
      let outer_is : normal (length symbols + length round) (step_or_zero (step_of c)) q.first ≡ normal_or_zero (length symbols + length around) (step_of c) (composed_bound symbols around a)
      = ap₂ (λ m z. normal (length symbols + m) z q.first) (same_length (length symbols) round around h.stand) step_same
      ∙ sym (ap₂ (λ o p. normal_or_zero (length symbols + length around) o p) q.step_is q.first_is) in
      record {
        turns = t.turns;
        is = t.is;
        inside = record {
          stand = stand_more round around t.turns (as_outer symbols around x a c) h.stand
              (subst (λ (f : Form). Stands (length symbols) t.turns (record { variable = x; form = f })) outer_is (record { variable = t.variable; same = t.same; past = t.past }));
          zeros = subst (λ d. HaveZeros d (round ++ t.turns ∷ [])) (sym many)
              (Each-append (λ (r : NormalLoop). Zero (suc (length round)) r.value) round (t.turns ∷ []) (HaveZeros-later (length round) (suc (length round)) round (omega arith) h.zeros) (is.value, tt));
          names_are = one_more names x ∙ ap suc h.names_are ∙ sym many;
        };
      }

  -- ---- all statements

  and_true : (a b : Bool) → a ≡ true → b ≡ true → (a && b) ≡ true
  and_true a b h k = ap (λ t. t && b) h ∙ k

  joined : (round : List NormalLoop) (ps qs : List Part) → are_normal symbols round (parts ps) ≡ true → are_normal symbols round (parts qs) ≡ true → are_normal symbols round (parts (ps ++ qs)) ≡ true
  joined round [] qs h k = k
  joined round (p ∷ ps) qs h k =
      let b = both (is_normal symbols round p) (are_normal symbols round (parts ps)) h in
      and_true (is_normal symbols round p) (are_normal symbols round (parts (ps ++ qs))) b.0 (joined round ps qs b.1 k)

  abbrev is_normal_loop : Option NormalLoop → List Part → List NormalLoop → Bool
  is_normal_loop o ps round = is_some o && are_normal symbols (with_loop round o) (parts ps)

  mutual
    normal_in : (k : ℕ) (c : Statement) (round : List NormalLoop) (around : List Outer) (names : List (List ℕ)) → AreRound round around names → any_leaves symbols around c ≡ false
        → any_loop (has_flaw Deep symbols) names c ≡ false → are_normal symbols round (parts (parts_of k c)) ≡ true
    normal_in k (Assignment l mark left right) round around names r h d = refl
    normal_in k (Where l mark mask left right) round around names r h d = refl
    normal_in k (If l arms other) round around names r h d =
        let p = neither (any_leaves_arms symbols around arms) (any_leaves_block symbols around other) h in
        let q = neither (any_in_arms (has_flaw Deep symbols) names arms) (any_in_block (has_flaw Deep symbols) names other) d in
        and_true (are_normal_branches symbols round (branches_of k arms) && are_normal symbols round (parts (parts_of_block (after_arms k arms) other))) true
        (and_true (are_normal_branches symbols round (branches_of k arms)) (are_normal symbols round (parts (parts_of_block (after_arms k arms) other)))
        (normal_in_arms k arms round around names r p.0 q.0) (normal_in_block (after_arms k arms) other round around names r p.1 q.1))
        refl
    normal_in k (Do l x a b c body) round around names r h d =
        let p = neither (leaves_limits symbols around a b c) (any_leaves_block symbols (around ++ as_outer symbols around x a c ∷ []) body) h in
        let q = neither (nat_le 7 (length names)) (any_in_block (has_flaw Deep symbols) (names ++ x ∷ []) body) d in
        let i = loop_is round around names (next_loop_number k) x a b c r p.0 q.0 in
        and_true (is_normal_loop (normal_loop symbols round (source_loop (next_loop_number k) x a b c)) (parts_of_block (next_loop_number k) body) round) true
        (ap (λ o. is_normal_loop o (parts_of_block (next_loop_number k) body) round) i.is
        ∙ normal_in_block (next_loop_number k) body (round ++ i.turns ∷ []) (around ++ as_outer symbols around x a c ∷ []) (names ++ x ∷ []) i.inside p.1 q.1)
        refl
    normal_in k (Label n) round around names r h d = refl
    normal_in k (GoTo l n) round around names r h d = refl
    normal_in k (Stop l) round around names r h d = refl
    normal_in k (Read l is) round around names r h d = refl
    normal_in k (Print l is) round around names r h d = refl
    normal_in k (Allocate l x es) round around names r h d = refl
    normal_in k (Deallocate l x) round around names r h d = refl

    normal_in_arms : (k : ℕ) (arms : Arms) (round : List NormalLoop) (around : List Outer) (names : List (List ℕ)) → AreRound round around names → any_leaves_arms symbols around arms ≡ false
        → any_in_arms (has_flaw Deep symbols) names arms ≡ false → are_normal_branches symbols round (branches_of k arms) ≡ true
    normal_in_arms k no_arms round around names r h d = refl
    normal_in_arms k (arm test body arms) round around names r h d =
        let p = neither (any_leaves_block symbols around body) (any_leaves_arms symbols around arms) h in
        let q = neither (any_in_block (has_flaw Deep symbols) names body) (any_in_arms (has_flaw Deep symbols) names arms) d in
        and_true (are_normal symbols round (parts (parts_of_block k body))) (are_normal_branches symbols round (branches_of (after_block k body) arms))
        (normal_in_block k body round around names r p.0 q.0) (normal_in_arms (after_block k body) arms round around names r p.1 q.1)

    normal_in_block : (k : ℕ) (b : Block) (round : List NormalLoop) (around : List Outer) (names : List (List ℕ)) → AreRound round around names → any_leaves_block symbols around b ≡ false
        → any_in_block (has_flaw Deep symbols) names b ≡ false → are_normal symbols round (parts (parts_of_block k b)) ≡ true
    normal_in_block k no_statements round around names r h d = refl
    normal_in_block k (statement c cs) round around names r h d =
        let p = neither (any_leaves symbols around c) (any_leaves_block symbols around cs) h in
        let q = neither (any_loop (has_flaw Deep symbols) names c) (any_in_block (has_flaw Deep symbols) names cs) d in
        joined round (parts_of k c) (parts_of_block (number_after k c) cs) (normal_in k c round around names r p.0 q.0) (normal_in_block (number_after k c) cs round around names r p.1 q.1)

  none_round : AreRound [] [] []
  none_round = record { stand = tt; zeros = tt; names_are = refl }

  -- a loop under no other
  pub normal_alone : (k : ℕ) (c : Statement) → any_leaves symbols [] c ≡ false → any_loop (has_flaw Deep symbols) [] c ≡ false → are_normal symbols [] (parts (parts_of k c)) ≡ true
  normal_alone k c h d = normal_in k c [] [] [] none_round h d
