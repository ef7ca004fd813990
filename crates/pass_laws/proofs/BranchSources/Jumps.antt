-- Where the jumps of a found nest lead.
use mathlib.Core.Path.{ap₂}
use Rattle.std.proofs.Common.{◌≡◌, refl, sym, ap, ◌∙◌, subst, ◌⊎◌, inl, inr, ℕ, Bool, true, false, ◌||◌, not, List, []}
use Rattle.std.proofs.Common.{◌∷◌, ◌++◌, append-nil, Contains}
use Rattle.std.specs.List.{list_any}
use Rattle.std.proofs.lemmas.List.Elements.{Contains-append_cases, Contains-append_left, Contains-append_right}
use Rattle.meaning_laws.proofs.arrays.Members.{nowhere}
use Rattle.rewrite.proofs.Replacing.{either_false}
use Rattle.tree.specs.Plain.{Statement, Assignment, Where, If, Do, Label, GoTo, Stop, Read, Print, Allocate}
use Rattle.tree.specs.Plain.{Deallocate, Arms, no_arms, arm, Block, no_statements, statement, Declaration}
use Rattle.meaning.specs.Blocks.{Surroundings, before_labels}
use Rattle.meaning.specs.Labels.{all_labels_in, all_labels_in_arms, all_labels_of}
use Rattle.meaning.specs.Blocks.{labels_of, within_loop}
use Rattle.meaning.specs.Profile77.{AreArms, IsBlock, IsStatement}
use Rattle.nest.specs.Plain.{Part, parts}
use Rattle.find_nests.specs.nest_parts.Numbers.{number_after, after_arms, after_block, next_loop_number}
use Rattle.find_nests.specs.nest_parts.Statements.{branches_of, parts_of, parts_of_block}
use Rattle.nest_reasons.specs.Flaws.{is_arrival, exits, jumps_over_loop, loop_in_if, loop_then_label}
use Rattle.nest_reasons.specs.Loops.{has_flaw}
use Rattle.nest_reasons.specs.Walks.{any_in_arms, any_in_block, any_loop}
use Rattle.nest_reasons.specs.Marks.{marks_in_arms, marks_in_block, own_marks}
use Rattle.nest_reasons.specs.declared.marks.Mark.{Mark}
use Rattle.nest_reasons.specs.declared.flaws.Flaw.TheVariants.{Exit, InnerIf}
use Rattle.pass_laws.specs.branch_meaning.Jumps.{AllJumpAhead, BranchesJumpAhead, JumpsAhead, labels_ahead}
use Rattle.pass_laws.proofs.BranchSources.Marks.{AreMarks, Reaches, ahead_joined, label_in_block, marks_front, marks_rest}
use Rattle.pass_laws.proofs.BranchSources.Marks.{no_loops_in, no_loops_in_arms, reaches_block, reaches_more}
use Rattle.pass_laws.proofs.BranchSources.Walk.{AreOwn, own_first, own_front, own_rest}

jump_joined : (ps qs : List Part) (later : List ℕ) → AllJumpAhead (labels_ahead (parts qs) later) (parts ps) → AllJumpAhead later (parts qs) → AllJumpAhead later (parts (ps ++ qs))
jump_joined [] qs later h k = k
jump_joined (p ∷ ps) qs later h k = (subst (λ ls. JumpsAhead ls p) (sym (ahead_joined ps qs later)) h.0, jump_joined ps qs later h.1 k)

not_false : (b : Bool) → not b ≡ false → b ≡ true
not_false true h = refl
not_false false h = let none : ⊥ = cc in absurd none

-- Of a place in a loop's body, which has all these marks: of the labels that lie ahead, those of the body are `own`, and
-- `later` has those of them that can be reached
record IsPlace (all : List Mark) (ahead own later : List ℕ) (more : List Mark) : Type 0 where
  known : (k : ℕ) → Contains ahead k → list_any (is_arrival k) all ≡ true → Contains own k
  reaches : Reaches own later more

place_more : (all : List Mark) (ahead own later : List ℕ) (xs more : List Mark) → IsPlace all ahead own later more → IsPlace all ahead own later (xs ++ more)
place_more all ahead own later xs more h = record { known = h.known; reaches = reaches_more own later xs more h.reaches }

-- before a block's rest
place_before : (all : List Mark) (b : Bool) (i : ℕ) (cs : Block) (ahead own later : List ℕ) (more : List Mark) → IsPlace all ahead own later more
    → IsPlace all (labels_of cs ++ ahead) (labels_of cs ++ own) (labels_ahead (parts (parts_of_block i cs)) later) (marks_in_block b cs ++ more)
place_before all b i cs ahead own later more h = record { known = λ k c e. by k (Contains-append_cases (labels_of cs) ahead k c) e; reaches = reaches_block b i cs own later more h.reaches }
  where
    by : (k : ℕ) → Contains (labels_of cs) k ⊎ Contains ahead k → list_any (is_arrival k) all ≡ true → Contains (labels_of cs ++ own) k
    by k (inl c) e = Contains-append_left (labels_of cs) own k c
    by k (inr c) e = Contains-append_right (labels_of cs) own k (h.known k c e)

module _ (ds : List Declaration) (symbols : List (List ℕ)) where
  -- no loop in it has a jump out of it, or jumps over a loop
  record AreFlawless (exit inner : Bool) : Type 0 where
    exit_is : exit ≡ false
    inner_is : inner ≡ false

  flawless_first : (a b c d : Bool) → AreFlawless (a || b) (c || d) → AreFlawless a c
  flawless_first a b c d h = record { exit_is = (either_false a b h.exit_is).0; inner_is = (either_false c d h.inner_is).0 }

  flawless_rest : (a b c d : Bool) → AreFlawless (a || b) (c || d) → AreFlawless b d
  flawless_rest a b c d h = record { exit_is = (either_false a b h.exit_is).1; inner_is = (either_false c d h.inner_is).1 }

  abbrev Flawless : List (List ℕ) → Statement → Type 0
  Flawless around c = AreFlawless (any_loop (has_flaw Exit symbols) around c) (any_loop (has_flaw InnerIf symbols) around c)

  abbrev FlawlessArms : List (List ℕ) → Arms → Type 0
  FlawlessArms around arms = AreFlawless (any_in_arms (has_flaw Exit symbols) around arms) (any_in_arms (has_flaw InnerIf symbols) around arms)

  abbrev FlawlessBlock : List (List ℕ) → Block → Type 0
  FlawlessBlock around cs = AreFlawless (any_in_block (has_flaw Exit symbols) around cs) (any_in_block (has_flaw InnerIf symbols) around cs)

  -- the whole body of a loop
  body_place : (ahead : List ℕ) (body : Block) → AreOwn ahead (all_labels_in body) → IsPlace (marks_in_block false body) ahead [] [] []
  body_place ahead body o = record {
    known = λ k c e. absurd (o.apart k c (label_in_block false body k e));
    reaches = record { there = λ k c. absurd (nowhere k c); free = λ k c e. absurd (nowhere k c) };
  }

  body_marks : (body : Block) → exits (marks_in_block false body) ≡ false → (loop_in_if (marks_in_block false body) || jumps_over_loop (marks_in_block false body)) ≡ false
      → AreMarks (marks_in_block false body) (marks_in_block false body) []
  body_marks body e f =
      let p = either_false (loop_in_if (marks_in_block false body)) (jumps_over_loop (marks_in_block false body)) f in
      record { stays = e; outside = p.0; clear = ap jumps_over_loop (append-nil (marks_in_block false body)) ∙ p.1 }

  mutual
    jumps : (all : List Mark) (b : Bool) (i : ℕ) (around : List (List ℕ)) (c : Statement) (w : Surroundings) (own later : List ℕ) (more : List Mark) → IsStatement ds c w → IsPlace all w.ahead own later more
        → AreOwn w.ahead (all_labels_of c) → AreMarks all (own_marks b c) more → Flawless around c → AllJumpAhead later (parts (parts_of i c))
    jumps all b i around (Assignment l mark left right) w own later more h p o m f = (tt, tt)
    jumps all b i around (Where l mark mask left right) w own later more h p o m f = tt
    jumps all b i around (If l arms other) w own later more h p o m f =
        let front = marks_front all (marks_in_arms arms) (marks_in_block true other) more m in
        let rest = marks_rest all (marks_in_arms arms) (marks_in_block true other) more m in
        let fs = flawless_first (any_in_arms (has_flaw Exit symbols) around arms) (any_in_block (has_flaw Exit symbols) around other) (any_in_arms (has_flaw InnerIf symbols) around arms) (any_in_block (has_flaw InnerIf symbols) around other) f in
        let gs = flawless_rest (any_in_arms (has_flaw Exit symbols) around arms) (any_in_block (has_flaw Exit symbols) around other) (any_in_arms (has_flaw InnerIf symbols) around arms) (any_in_block (has_flaw InnerIf symbols) around other) f in (
          (
            ap₂ (λ xs ys. xs ++ ys) (no_loops_in_arms i arms front.outside) (no_loops_in (after_arms i arms) other rest.outside),
            jumps_in_arms all i around arms w own later (marks_in_block true other ++ more) h.2 (place_more all w.ahead own later (marks_in_block true other) more p)
                (own_front w.ahead (all_labels_in_arms arms) (all_labels_in other) o) front fs,
            jumps_in_block all true (after_arms i arms) around other w own later more h.3 p (own_rest w.ahead (all_labels_in_arms arms) (all_labels_in other) o) rest gs,
          ),
          tt,
        )
    jumps all b i around (Do l x first last step body) w own later more h p o m f =
        let e = either_false (exits (marks_in_block false body)) (any_in_block (has_flaw Exit symbols) (around ++ x ∷ []) body) f.exit_is in
        let g = either_false (loop_in_if (marks_in_block false body) || jumps_over_loop (marks_in_block false body)) (any_in_block (has_flaw InnerIf symbols) (around ++ x ∷ []) body) f.inner_is in
        (jumps_in_block (marks_in_block false body) false (next_loop_number i) (around ++ x ∷ []) body (within_loop x w) [] [] [] h.5 (body_place w.ahead body o) o (body_marks body e.0 g.0) (record { exit_is = e.1; inner_is = g.1 }), tt)
    jumps all b i around (Label n) w own later more h p o m f = (tt, tt)
    jumps all b i around (GoTo l n) w own later more h p o m f =
        let inside : list_any (is_arrival n) all ≡ true = not_false (list_any (is_arrival n) all) (either_false (not (list_any (is_arrival n) all)) false m.stays).0 in
        let clear : loop_then_label n more ≡ false = (either_false (loop_then_label n more) (jumps_over_loop more) m.clear).0 in
        (p.reaches.free n (p.known n h.1 inside) clear, tt)
    jumps all b i around (Stop l) w own later more h p o m f = tt
    jumps all b i around (Read l is) w own later more h p o m f = tt
    jumps all b i around (Print l is) w own later more h p o m f = tt
    jumps all b i around (Allocate l x es) w own later more h p o m f = tt
    jumps all b i around (Deallocate l x) w own later more h p o m f = tt

    jumps_in_arms : (all : List Mark) (i : ℕ) (around : List (List ℕ)) (arms : Arms) (w : Surroundings) (own later : List ℕ) (more : List Mark) → AreArms ds arms w → IsPlace all w.ahead own later more
        → AreOwn w.ahead (all_labels_in_arms arms) → AreMarks all (marks_in_arms arms) more → FlawlessArms around arms → BranchesJumpAhead later (branches_of i arms)
    jumps_in_arms all i around no_arms w own later more h p o m f = tt
    jumps_in_arms all i around (arm test body arms) w own later more h p o m f = (
      jumps_in_block all true i around body w own later (marks_in_arms arms ++ more) h.1 (place_more all w.ahead own later (marks_in_arms arms) more p)
          (own_front w.ahead (all_labels_in body) (all_labels_in_arms arms) o) (marks_front all (marks_in_block true body) (marks_in_arms arms) more m)
          (flawless_first (any_in_block (has_flaw Exit symbols) around body) (any_in_arms (has_flaw Exit symbols) around arms) (any_in_block (has_flaw InnerIf symbols) around body) (any_in_arms (has_flaw InnerIf symbols) around arms) f),
      jumps_in_arms all (after_block i body) around arms w own later more h.2 p
          (own_rest w.ahead (all_labels_in body) (all_labels_in_arms arms) o) (marks_rest all (marks_in_block true body) (marks_in_arms arms) more m)
          (flawless_rest (any_in_block (has_flaw Exit symbols) around body) (any_in_arms (has_flaw Exit symbols) around arms) (any_in_block (has_flaw InnerIf symbols) around body) (any_in_arms (has_flaw InnerIf symbols) around arms) f),
    )

    jumps_in_block : (all : List Mark) (b : Bool) (i : ℕ) (around : List (List ℕ)) (cs : Block) (w : Surroundings) (own later : List ℕ) (more : List Mark) → IsBlock ds cs w → IsPlace all w.ahead own later more
        → AreOwn w.ahead (all_labels_in cs) → AreMarks all (marks_in_block b cs) more → FlawlessBlock around cs → AllJumpAhead later (parts (parts_of_block i cs))
    jumps_in_block all b i around no_statements w own later more h p o m f = tt
    jumps_in_block all b i around (statement c cs) w own later more h p o m f =
        jump_joined (parts_of i c) (parts_of_block (number_after i c) cs) later
        (jumps all b i around c (before_labels (labels_of cs) w) (labels_of cs ++ own) (labels_ahead (parts (parts_of_block (number_after i c) cs)) later) (marks_in_block b cs ++ more) h.0
        (place_before all b (number_after i c) cs w.ahead own later more p) (own_first w.ahead c cs o) (marks_front all (own_marks b c) (marks_in_block b cs) more m)
        (flawless_first (any_loop (has_flaw Exit symbols) around c) (any_in_block (has_flaw Exit symbols) around cs) (any_loop (has_flaw InnerIf symbols) around c) (any_in_block (has_flaw InnerIf symbols) around cs) f))
        (jumps_in_block all b (number_after i c) around cs w own later more h.1 p (own_rest w.ahead (all_labels_of c) (all_labels_in cs) o) (marks_rest all (own_marks b c) (marks_in_block b cs) more m)
        (flawless_rest (any_loop (has_flaw Exit symbols) around c) (any_in_block (has_flaw Exit symbols) around cs) (any_loop (has_flaw InnerIf symbols) around c) (any_in_block (has_flaw InnerIf symbols) around cs) f))

  -- the body of a loop that has no flaw, nor has one in it
  pub loop_jumps : (i : ℕ) (x : List ℕ) (body : Block) (w : Surroundings) → IsBlock ds body (within_loop x w) → AreOwn w.ahead (all_labels_in body)
      → (exits (marks_in_block false body) || any_in_block (has_flaw Exit symbols) (x ∷ []) body) ≡ false
      → ((loop_in_if (marks_in_block false body) || jumps_over_loop (marks_in_block false body)) || any_in_block (has_flaw InnerIf symbols) (x ∷ []) body) ≡ false
      → AllJumpAhead [] (parts (parts_of_block (next_loop_number i) body))
  loop_jumps i x body w h o exit inner =
      let e = either_false (exits (marks_in_block false body)) (any_in_block (has_flaw Exit symbols) (x ∷ []) body) exit in
      let g = either_false (loop_in_if (marks_in_block false body) || jumps_over_loop (marks_in_block false body)) (any_in_block (has_flaw InnerIf symbols) (x ∷ []) body) inner in
      jumps_in_block (marks_in_block false body) false (next_loop_number i) (x ∷ []) body (within_loop x w) [] [] [] h (body_place w.ahead body o) o (body_marks body e.0 g.0) (record { exit_is = e.1; inner_is = g.1 })
