-- Labels among the marks of a loop's body, and those that a jump can reach.
use Rattle.std.proofs.Common.{◌≡◌, refl, sym, ap, ◌∙◌, subst, ◌⊎◌, inl, inr, ℕ, Bool, true, false, cond, ◌||◌, List}
use Rattle.std.proofs.Common.{[], ◌∷◌, ◌++◌, append_assoc, Contains, eq-eqb, eqb-true}
use Rattle.std.specs.Prelude.{◌==◌}
use Rattle.std.specs.List.{list_any}
use Rattle.std.proofs.lemmas.List.Elements.{Contains-append_left, Contains-append_right}
use Rattle.meaning_laws.proofs.arrays.Members.{cases_of, here, there}
use Rattle.rewrite.proofs.Replacing.{either_false}
use Rattle.tree.specs.Plain.{Statement, Assignment, Where, If, Do, Label, GoTo, Stop, Read, Print, Allocate}
use Rattle.tree.specs.Plain.{Deallocate, Arms, no_arms, arm, Block, no_statements, statement}
use Rattle.meaning.specs.Blocks.{label_of, labels_of}
use Rattle.meaning.specs.Labels.{all_labels_in, all_labels_in_arms, all_labels_of}
use Rattle.nest_order.proofs.runs.Results.{true_false}
use Rattle.nest.specs.Bodies.{loops_in_branches, loops_in_parts, loops_of}
use Rattle.nest.specs.Plain.{Part, parts}
use Rattle.find_nests.specs.nest_parts.Numbers.{number_after, after_arms, after_block}
use Rattle.find_nests.specs.nest_parts.Statements.{branches_of, parts_of, parts_of_block}
use Rattle.nest_reasons.specs.Flaws.{is_arrival, is_loop_mark, jumps_over_loop, leaves_loop, loop_then_label, passes_loop, stands_in_if}
use Rattle.nest_reasons.specs.Marks.{marks_in_arms, marks_in_block, own_marks}
use Rattle.nest_reasons.specs.declared.marks.Mark.{Mark}
use Rattle.nest_reasons.specs.declared.marks.Mark.TheVariants.{Halts, Jumps, Arrives, Turns}
use Rattle.pass_laws.specs.branch_meaning.Jumps.{labels_ahead, labels_before}
use Rattle.pass_laws.proofs.BranchMeaning.Ways.{none_left, none_right}

-- ---- marks

pub any_parts : (test : Mark → Bool) (xs ys : List Mark) → list_any test (xs ++ ys) ≡ false → (list_any test xs ≡ false) × (list_any test ys ≡ false)
any_parts test [] ys h = (refl, h)
any_parts test (x ∷ xs) ys h =
    let p = either_false (test x) (list_any test (xs ++ ys)) h in
    let q = any_parts test xs ys p.1 in
    (ap (λ b. b || list_any test xs) p.0 ∙ q.0, q.1)

or_true : (a b : Bool) → b ≡ true → (a || b) ≡ true
or_true true b h = refl
or_true false b h = h

any_behind : (test : Mark → Bool) (xs ys : List Mark) → list_any test ys ≡ true → list_any test (xs ++ ys) ≡ true
any_behind test [] ys h = h
any_behind test (x ∷ xs) ys h = or_true (test x) (list_any test (xs ++ ys)) (any_behind test xs ys h)

label_there : (k : ℕ) (ms : List Mark) → loop_then_label k ms ≡ true → list_any (is_arrival k) ms ≡ true
label_there k [] h = let none : ⊥ = cc in absurd none
label_there k (m ∷ ms) h = or_true (is_arrival k m) (list_any (is_arrival k) ms) (by (is_loop_mark m) h (label_there k ms))
  where
    by : (b : Bool) → cond b (list_any (is_arrival k) ms) (loop_then_label k ms) ≡ true → (loop_then_label k ms ≡ true → list_any (is_arrival k) ms ≡ true) → list_any (is_arrival k) ms ≡ true
    by true h more = h
    by false h more = more h

loop_behind : (k : ℕ) (xs ys : List Mark) → loop_then_label k ys ≡ true → loop_then_label k (xs ++ ys) ≡ true
loop_behind k [] ys h = h
loop_behind k (x ∷ xs) ys h = by (is_loop_mark x) (loop_behind k xs ys h)
  where
    by : (b : Bool) → loop_then_label k (xs ++ ys) ≡ true → cond b (list_any (is_arrival k) (xs ++ ys)) (loop_then_label k (xs ++ ys)) ≡ true
    by true more = label_there k (xs ++ ys) more
    by false more = more

no_loop_behind : (k : ℕ) (xs ys : List Mark) → loop_then_label k (xs ++ ys) ≡ false → loop_then_label k ys ≡ false
no_loop_behind k xs ys h = by (loop_then_label k ys) refl
  where
    by : (b : Bool) → loop_then_label k ys ≡ b → b ≡ false
    by true e = absurd (true_false (sym (loop_behind k xs ys e) ∙ h))
    by false e = refl

clear_behind : (xs ys : List Mark) → jumps_over_loop (xs ++ ys) ≡ false → jumps_over_loop ys ≡ false
clear_behind [] ys h = h
clear_behind (x ∷ xs) ys h = clear_behind xs ys (either_false (passes_loop x (xs ++ ys)) (jumps_over_loop (xs ++ ys)) h).1

any_cases : (test : Mark → Bool) (xs ys : List Mark) → list_any test (xs ++ ys) ≡ true → (list_any test xs ≡ true) ⊎ (list_any test ys ≡ true)
any_cases test [] ys h = inr h
any_cases test (x ∷ xs) ys h = by (test x) h (any_cases test xs ys)
  where
    by : (b : Bool) → (b || list_any test (xs ++ ys)) ≡ true → (list_any test (xs ++ ys) ≡ true → (list_any test xs ≡ true) ⊎ (list_any test ys ≡ true))
        → ((b || list_any test xs) ≡ true) ⊎ (list_any test ys ≡ true)
    by true g more = inl refl
    by false g more = more g

-- ---- a label among the marks is one of the labels

mutual
  label_marked : (b : Bool) (c : Statement) (k : ℕ) → list_any (is_arrival k) (own_marks b c) ≡ true → Contains (all_labels_of c) k
  label_marked b (Assignment l mark left right) k h = let none : ⊥ = cc in absurd none
  label_marked b (Where l mark mask left right) k h = let none : ⊥ = cc in absurd none
  label_marked b (If l arms other) k h = by (any_cases (is_arrival k) (marks_in_arms arms) (marks_in_block true other) h) (label_in_arms arms k) (label_in_block true other k)
    where
      by : (list_any (is_arrival k) (marks_in_arms arms) ≡ true) ⊎ (list_any (is_arrival k) (marks_in_block true other) ≡ true)
          → (list_any (is_arrival k) (marks_in_arms arms) ≡ true → Contains (all_labels_in_arms arms) k) → (list_any (is_arrival k) (marks_in_block true other) ≡ true → Contains (all_labels_in other) k)
          → Contains (all_labels_in_arms arms ++ all_labels_in other) k
      by (inl e) f g = Contains-append_left (all_labels_in_arms arms) (all_labels_in other) k (f e)
      by (inr e) f g = Contains-append_right (all_labels_in_arms arms) (all_labels_in other) k (g e)
  label_marked b (Do l x a c d body) k h = let none : ⊥ = cc in absurd none
  label_marked b (Label n) k h = by (k == n) refl h
    where
      by : (e : Bool) → (k == n) ≡ e → (e || false) ≡ true → Contains (n ∷ []) k
      by true e g = subst (Contains (n ∷ [])) (sym (eqb-true k n e)) (here n [])
      by false e g = let none : ⊥ = cc in absurd none
  label_marked b (GoTo l n) k h = let none : ⊥ = cc in absurd none
  label_marked b (Stop l) k h = let none : ⊥ = cc in absurd none
  label_marked b (Read l is) k h = let none : ⊥ = cc in absurd none
  label_marked b (Print l is) k h = let none : ⊥ = cc in absurd none
  label_marked b (Allocate l x es) k h = let none : ⊥ = cc in absurd none
  label_marked b (Deallocate l x) k h = let none : ⊥ = cc in absurd none

  label_in_arms : (arms : Arms) (k : ℕ) → list_any (is_arrival k) (marks_in_arms arms) ≡ true → Contains (all_labels_in_arms arms) k
  label_in_arms no_arms k h = let none : ⊥ = cc in absurd none
  label_in_arms (arm test body arms) k h = by (any_cases (is_arrival k) (marks_in_block true body) (marks_in_arms arms) h) (label_in_block true body k) (label_in_arms arms k)
    where
      by : (list_any (is_arrival k) (marks_in_block true body) ≡ true) ⊎ (list_any (is_arrival k) (marks_in_arms arms) ≡ true)
          → (list_any (is_arrival k) (marks_in_block true body) ≡ true → Contains (all_labels_in body) k) → (list_any (is_arrival k) (marks_in_arms arms) ≡ true → Contains (all_labels_in_arms arms) k)
          → Contains (all_labels_in body ++ all_labels_in_arms arms) k
      by (inl e) f g = Contains-append_left (all_labels_in body) (all_labels_in_arms arms) k (f e)
      by (inr e) f g = Contains-append_right (all_labels_in body) (all_labels_in_arms arms) k (g e)

  pub label_in_block : (b : Bool) (cs : Block) (k : ℕ) → list_any (is_arrival k) (marks_in_block b cs) ≡ true → Contains (all_labels_in cs) k
  label_in_block b no_statements k h = let none : ⊥ = cc in absurd none
  label_in_block b (statement c cs) k h = by (any_cases (is_arrival k) (own_marks b c) (marks_in_block b cs) h) (label_marked b c k) (label_in_block b cs k)
    where
      by : (list_any (is_arrival k) (own_marks b c) ≡ true) ⊎ (list_any (is_arrival k) (marks_in_block b cs) ≡ true)
          → (list_any (is_arrival k) (own_marks b c) ≡ true → Contains (all_labels_of c) k) → (list_any (is_arrival k) (marks_in_block b cs) ≡ true → Contains (all_labels_in cs) k)
          → Contains (all_labels_of c ++ all_labels_in cs) k
      by (inl e) f g = Contains-append_left (all_labels_of c) (all_labels_in cs) k (f e)
      by (inr e) f g = Contains-append_right (all_labels_of c) (all_labels_in cs) k (g e)

-- ---- no loop stands in an IF

nothing_joined : {X : Type 0} {xs ys : List X} → xs ≡ [] → ys ≡ [] → xs ++ ys ≡ []
nothing_joined {ys = ys} h k = ap (λ zs. zs ++ ys) h ∙ k

loops_joined : (ps qs : List Part) → loops_in_parts (parts ps) ≡ [] → loops_in_parts (parts qs) ≡ [] → loops_in_parts (parts (ps ++ qs)) ≡ []
loops_joined [] qs h k = k
loops_joined (p ∷ ps) qs h k =
    nothing_joined (none_left (loops_of p) (loops_in_parts (parts ps)) h) (loops_joined ps qs (none_right (loops_of p) (loops_in_parts (parts ps)) h) k)

mutual
  no_loops_of : (k : ℕ) (c : Statement) → list_any stands_in_if (own_marks true c) ≡ false → loops_in_parts (parts (parts_of k c)) ≡ []
  no_loops_of k (Assignment l mark left right) h = refl
  no_loops_of k (Where l mark mask left right) h = refl
  no_loops_of k (If l arms other) h =
      let p = any_parts stands_in_if (marks_in_arms arms) (marks_in_block true other) h in
      nothing_joined (nothing_joined (no_loops_in_arms k arms p.0) (no_loops_in (after_arms k arms) other p.1)) refl
  no_loops_of k (Do l x a b c body) h = let none : ⊥ = cc in absurd none
  no_loops_of k (Label n) h = refl
  no_loops_of k (GoTo l n) h = refl
  no_loops_of k (Stop l) h = refl
  no_loops_of k (Read l is) h = refl
  no_loops_of k (Print l is) h = refl
  no_loops_of k (Allocate l x es) h = refl
  no_loops_of k (Deallocate l x) h = refl

  pub no_loops_in_arms : (k : ℕ) (arms : Arms) → list_any stands_in_if (marks_in_arms arms) ≡ false → loops_in_branches (branches_of k arms) ≡ []
  no_loops_in_arms k no_arms h = refl
  no_loops_in_arms k (arm test body arms) h =
      let p = any_parts stands_in_if (marks_in_block true body) (marks_in_arms arms) h in
      nothing_joined (no_loops_in k body p.0) (no_loops_in_arms (after_block k body) arms p.1)

  pub no_loops_in : (k : ℕ) (cs : Block) → list_any stands_in_if (marks_in_block true cs) ≡ false → loops_in_parts (parts (parts_of_block k cs)) ≡ []
  no_loops_in k no_statements h = refl
  no_loops_in k (statement c cs) h =
      let p = any_parts stands_in_if (own_marks true c) (marks_in_block true cs) h in
      loops_joined (parts_of k c) (parts_of_block (number_after k c) cs) (no_loops_of k c p.0) (no_loops_in (number_after k c) cs p.1)

-- ---- the labels that a jump can reach

-- The labels `own` stand in the loop's own body behind a place; behind it come these marks, and `later` has those that
-- can be reached from there
pub record Reaches (own later : List ℕ) (more : List Mark) : Type 0 where
  pub there : (k : ℕ) → Contains own k → list_any (is_arrival k) more ≡ true
  pub free : (k : ℕ) → Contains own k → loop_then_label k more ≡ false → Contains later k

pub reaches_more : (own later : List ℕ) (xs more : List Mark) → Reaches own later more → Reaches own later (xs ++ more)
reaches_more own later xs more h = record {
  there = λ k c. any_behind (is_arrival k) xs more (h.there k c);
  free = λ k c e. h.free k c (no_loop_behind k xs more e);
}

reaches_label : (n : ℕ) (own later : List ℕ) (more : List Mark) → Reaches own later more → Reaches (n ∷ own) (n ∷ later) (Arrives n ∷ more)
reaches_label n own later more h = record { there = λ k c. first k (cases_of n own k c); free = λ k c e. reached k (cases_of n own k c) e }
  where
    first : (k : ℕ) → (n ≡ k) ⊎ Contains own k → ((k == n) || list_any (is_arrival k) more) ≡ true
    first k (inl e) = ap (λ b. b || list_any (is_arrival k) more) (eq-eqb k n (sym e))
    first k (inr c) = or_true (k == n) (list_any (is_arrival k) more) (h.there k c)

    reached : (k : ℕ) → (n ≡ k) ⊎ Contains own k → loop_then_label k more ≡ false → Contains (n ∷ later) k
    reached k (inl e) f = subst (Contains (n ∷ later)) e (here n later)
    reached k (inr c) f = there n later k (h.free k c f)

reaches_loop : (b : Bool) (own later : List ℕ) (more : List Mark) → Reaches own later more → Reaches own [] (Turns b ∷ more)
reaches_loop b own later more h = record { there = λ k c. h.there k c; free = λ k c e. absurd (true_false (sym (h.there k c) ∙ e)) }

reaches_statement : (b : Bool) (i : ℕ) (c : Statement) (own later : List ℕ) (more : List Mark) → Reaches own later more → Reaches (label_of c ++ own) (labels_ahead (parts (parts_of i c)) later) (own_marks b c ++ more)
reaches_statement b i (Assignment l mark left right) own later more h = h
reaches_statement b i (Where l mark mask left right) own later more h = h
reaches_statement b i (If l arms other) own later more h = reaches_more own later (marks_in_arms arms ++ marks_in_block true other) more h
reaches_statement b i (Do l x a c d body) own later more h = reaches_loop b own later more h
reaches_statement b i (Label n) own later more h = reaches_label n own later more h
reaches_statement b i (GoTo l n) own later more h = reaches_more own later (Jumps n ∷ []) more h
reaches_statement b i (Stop l) own later more h = reaches_more own later (Halts ∷ []) more h
reaches_statement b i (Read l is) own later more h = reaches_more own later (Halts ∷ []) more h
reaches_statement b i (Print l is) own later more h = reaches_more own later (Halts ∷ []) more h
reaches_statement b i (Allocate l x es) own later more h = h
reaches_statement b i (Deallocate l x) own later more h = h

pub ahead_joined : (ps qs : List Part) (later : List ℕ) → labels_ahead (parts (ps ++ qs)) later ≡ labels_ahead (parts ps) (labels_ahead (parts qs) later)
ahead_joined [] qs later = refl
ahead_joined (p ∷ ps) qs later = ap (labels_before p) (ahead_joined ps qs later)

pub reaches_block : (b : Bool) (i : ℕ) (cs : Block) (own later : List ℕ) (more : List Mark) → Reaches own later more → Reaches (labels_of cs ++ own) (labels_ahead (parts (parts_of_block i cs)) later) (marks_in_block b cs ++ more)
reaches_block b i no_statements own later more h = h
reaches_block b i (statement c cs) own later more h =
    let rest = reaches_block b (number_after i c) cs own later more h in
    let all = reaches_statement b i c (labels_of cs ++ own) (labels_ahead (parts (parts_of_block (number_after i c) cs)) later) (marks_in_block b cs ++ more) rest in
    subst (λ ls. Reaches ls (labels_ahead (parts (parts_of i c ++ parts_of_block (number_after i c) cs)) later) ((own_marks b c ++ marks_in_block b cs) ++ more)) (sym (append_assoc (label_of c) (labels_of cs) own))
    (subst (λ ls. Reaches (label_of c ++ (labels_of cs ++ own)) ls ((own_marks b c ++ marks_in_block b cs) ++ more)) (sym (ahead_joined (parts_of i c) (parts_of_block (number_after i c) cs) later))
    (subst (λ ms. Reaches (label_of c ++ (labels_of cs ++ own)) (labels_ahead (parts (parts_of i c)) (labels_ahead (parts (parts_of_block (number_after i c) cs)) later)) ms) (sym (append_assoc (own_marks b c) (marks_in_block b cs) more)) all))

-- ---- what is known of some marks, with those behind them

pub record AreMarks (all marks more : List Mark) : Type 0 where
  pub stays : list_any (leaves_loop all) marks ≡ false
  pub outside : list_any stands_in_if marks ≡ false
  pub clear : jumps_over_loop (marks ++ more) ≡ false

pub marks_front : (all xs ys more : List Mark) → AreMarks all (xs ++ ys) more → AreMarks all xs (ys ++ more)
marks_front all xs ys more h = record {
  stays = (any_parts (leaves_loop all) xs ys h.stays).0;
  outside = (any_parts stands_in_if xs ys h.outside).0;
  clear = ap jumps_over_loop (sym (append_assoc xs ys more)) ∙ h.clear;
}

pub marks_rest : (all xs ys more : List Mark) → AreMarks all (xs ++ ys) more → AreMarks all ys more
marks_rest all xs ys more h = record {
  stays = (any_parts (leaves_loop all) xs ys h.stays).1;
  outside = (any_parts stands_in_if xs ys h.outside).1;
  clear = clear_behind xs (ys ++ more) (ap jumps_over_loop (sym (append_assoc xs ys more)) ∙ h.clear);
}
