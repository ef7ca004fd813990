-- No jump leads out of a loop that is a nest.
use Rattle.std.proofs.Common.{◌≡◌, ◌⊎◌, inl, inr, refl, subst, ◌∙◌, ℕ, Bool, true, false, ◌||◌, not, List, [], ◌∷◌, ◌++◌}
use Rattle.std.proofs.Common.{Contains}
use Rattle.std.specs.List.{list_any}
use Rattle.std.proofs.lemmas.List.Elements.{Contains-append_cases, Contains-append_left, Contains-append_right}
use Rattle.meaning_laws.proofs.arrays.Members.{cases_of, nowhere}
use Rattle.rewrite.proofs.Replacing.{either_false}
use Rattle.tree.specs.Plain.{Statement, Assignment, Where, If, Do, Label, GoTo, Stop, Read, Print, Allocate}
use Rattle.tree.specs.Plain.{Deallocate, Arms, no_arms, arm, Block, no_statements, statement, Program}
use Rattle.meaning.specs.Labels.{all_labels_in, all_labels_in_arms, all_labels_of, targets_in, targets_in_arms, targets_of}
use Rattle.find_nests.proofs.FoundLaws.{no_reason_holds}
use Rattle.find_nests.proofs.ReasonWalks.{finds_is}
use Rattle.find_nests.specs.Laws.{IsFoundNest}
use Rattle.find_nests.specs.Loops.{as_statement}
use Rattle.find_nests.specs.declared.reasons.Reason.TheVariants as reasons
use Rattle.nest_reasons.specs.Flaws.{is_arrival, exits, leaves_loop}
use Rattle.nest_reasons.specs.Loops.{has_flaw}
use Rattle.nest_reasons.specs.Marks.{marks_in_arms, marks_in_block, own_marks}
use Rattle.nest_reasons.specs.Symbols.{symbols_of}
use Rattle.nest_reasons.specs.Walks.{any_in_arms, any_in_block, any_loop}
use Rattle.nest_reasons.specs.declared.flaws.Flaw.TheVariants.{Exit}
use Rattle.nest_reasons.specs.declared.marks.Mark.{Mark}
use Rattle.nest.specs.Plain.{Nest}
use Rattle.pass_laws.proofs.BranchSources.Marks.{any_parts, label_in_block}
use Rattle.translation.specs.placed_profile.Laws.{KeepsJumps}

is_true : (b : Bool) → not b ≡ false → b ≡ true
is_true true h = refl
is_true false h = let none : ⊥ = cc in absurd none

-- the labels that jumps name are among these
abbrev Stay : List ℕ → List ℕ → Type 0
Stay labels named = (n : ℕ) → Contains named n → Contains labels n

stay_both : (labels ns ms : List ℕ) → Stay labels ns → Stay labels ms → Stay labels (ns ++ ms)
stay_both labels ns ms h g n c = by (Contains-append_cases ns ms n c)
  where
    by : Contains ns n ⊎ Contains ms n → Contains labels n
    by (inl i) = h n i
    by (inr i) = g n i

no_jump : (labels : List ℕ) → Stay labels []
no_jump labels n c = absurd (nowhere n c)

-- Of a loop's body with all these marks and labels: a label that is marked is one of them
record IsBody (all : List Mark) (labels : List ℕ) : Type 0 where
  there : (k : ℕ) → list_any (is_arrival k) all ≡ true → Contains labels k

own_body : (body : Block) → IsBody (marks_in_block false body) (all_labels_in body)
own_body body = record { there = label_in_block false body }

module _ (symbols : List (List ℕ)) where
  mutual
    stays : (all : List Mark) (labels : List ℕ) (b : Bool) (around : List (List ℕ)) (c : Statement) → IsBody all labels
        → list_any (leaves_loop all) (own_marks b c) ≡ false → any_loop (has_flaw Exit symbols) around c ≡ false
        → Stay labels (all_labels_of c) → Stay labels (targets_of c)
    stays all labels b around (Assignment l mark left right) h e f own = no_jump labels
    stays all labels b around (Where l mark mask left right) h e f own = no_jump labels
    stays all labels b around (If l arms other) h e f own =
        let es = any_parts (leaves_loop all) (marks_in_arms arms) (marks_in_block true other) e in
        let fs = either_false (any_in_arms (has_flaw Exit symbols) around arms) (any_in_block (has_flaw Exit symbols) around other) f in
        stay_both labels (targets_in_arms arms) (targets_in other)
        (arms_stay all labels around arms h es.0 fs.0 (λ n c. own n (Contains-append_left (all_labels_in_arms arms) (all_labels_in other) n c)))
        (block_stays all labels true around other h es.1 fs.1 (λ n c. own n (Contains-append_right (all_labels_in_arms arms) (all_labels_in other) n c)))
    stays all labels b around (Do l x first last step body) h e f own =
        let fs = either_false (exits (marks_in_block false body)) (any_in_block (has_flaw Exit symbols) (around ++ x ∷ []) body) f in
        let within = block_stays (marks_in_block false body) (all_labels_in body) false (around ++ x ∷ []) body (own_body body) fs.0 fs.1 (λ n c. c) in
        λ n c. own n (within n c)
    stays all labels b around (Label k) h e f own = no_jump labels
    stays all labels b around (GoTo l k) h e f own = λ n c. by n (cases_of k [] n c)
      where
        inside : list_any (is_arrival k) all ≡ true
        inside = is_true (list_any (is_arrival k) all) (either_false (not (list_any (is_arrival k) all)) false e).0

        by : (n : ℕ) → (k ≡ n) ⊎ Contains [] n → Contains labels n
        by n (inl s) = subst (Contains labels) s (h.there k inside)
        by n (inr i) = absurd (nowhere n i)
    stays all labels b around (Stop l) h e f own = no_jump labels
    stays all labels b around (Read l is) h e f own = no_jump labels
    stays all labels b around (Print l is) h e f own = no_jump labels
    stays all labels b around (Allocate l x es) h e f own = no_jump labels
    stays all labels b around (Deallocate l x) h e f own = no_jump labels

    arms_stay : (all : List Mark) (labels : List ℕ) (around : List (List ℕ)) (arms : Arms) → IsBody all labels
        → list_any (leaves_loop all) (marks_in_arms arms) ≡ false → any_in_arms (has_flaw Exit symbols) around arms ≡ false
        → Stay labels (all_labels_in_arms arms) → Stay labels (targets_in_arms arms)
    arms_stay all labels around no_arms h e f own = no_jump labels
    arms_stay all labels around (arm test body arms) h e f own =
        let es = any_parts (leaves_loop all) (marks_in_block true body) (marks_in_arms arms) e in
        let fs = either_false (any_in_block (has_flaw Exit symbols) around body) (any_in_arms (has_flaw Exit symbols) around arms) f in
        stay_both labels (targets_in body) (targets_in_arms arms)
        (block_stays all labels true around body h es.0 fs.0 (λ n c. own n (Contains-append_left (all_labels_in body) (all_labels_in_arms arms) n c)))
        (arms_stay all labels around arms h es.1 fs.1 (λ n c. own n (Contains-append_right (all_labels_in body) (all_labels_in_arms arms) n c)))

    block_stays : (all : List Mark) (labels : List ℕ) (b : Bool) (around : List (List ℕ)) (cs : Block) → IsBody all labels
        → list_any (leaves_loop all) (marks_in_block b cs) ≡ false → any_in_block (has_flaw Exit symbols) around cs ≡ false
        → Stay labels (all_labels_in cs) → Stay labels (targets_in cs)
    block_stays all labels b around no_statements h e f own = no_jump labels
    block_stays all labels b around (statement c cs) h e f own =
        let es = any_parts (leaves_loop all) (own_marks b c) (marks_in_block b cs) e in
        let fs = either_false (any_loop (has_flaw Exit symbols) around c) (any_in_block (has_flaw Exit symbols) around cs) f in
        stay_both labels (targets_of c) (targets_in cs)
        (stays all labels b around c h es.0 fs.0 (λ n i. own n (Contains-append_left (all_labels_of c) (all_labels_in cs) n i)))
        (block_stays all labels b around cs h es.1 fs.1 (λ n i. own n (Contains-append_right (all_labels_of c) (all_labels_in cs) n i)))

  -- the body of a loop without the flaw, which no loop in it has
  body_stays : (x : List ℕ) (body : Block)
      → (exits (marks_in_block false body) || any_in_block (has_flaw Exit symbols) (x ∷ []) body) ≡ false
      → KeepsJumps body
  body_stays x body f =
      let fs = either_false (exits (marks_in_block false body)) (any_in_block (has_flaw Exit symbols) (x ∷ []) body) f in
      block_stays (marks_in_block false body) (all_labels_in body) false (x ∷ []) body (own_body body) fs.0 fs.1 (λ n c. c)

pub nest_keeps_jumps : (p : Program) (n : Nest) (found : IsFoundNest p n) → KeepsJumps found.loop.loop.loop.body
nest_keeps_jumps p n found =
    let l = found.loop.loop.loop in
    let symbols = symbols_of p.declarations l.variable l.body in
    body_stays symbols l.variable l.body
    (finds_is reasons.Exit symbols (as_statement l) ∙ no_reason_holds symbols (as_statement l) reasons.Exit found.no_reason)
