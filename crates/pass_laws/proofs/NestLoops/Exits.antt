-- In a loop that is left by nothing but its end there are statements alone that nests have.
use Rattle.std.proofs.Common.{◌≡◌, refl, sym, ◌∙◌, ℕ, Bool, true, false, ◌&&◌, ◌||◌, List, [], ◌∷◌, ◌++◌}
use Rattle.std.specs.List.{list_any}
use Rattle.std.proofs.lemmas.List.Folds.{list_any-append}
use Rattle.tree.specs.Plain.{Expression, Statement, Assignment, Where, If, Do, Label, GoTo, Stop, Read, Print, Allocate, Deallocate, Arms, no_arms, arm, Block, no_statements, statement, Declaration}
use Rattle.meaning.specs.Profile77.{IsStatement, AreArms, IsBlock}
use Rattle.meaning.specs.Blocks.{Surroundings, within_loop, before_labels, labels_of}
use Rattle.nest_reasons.specs.declared.flaws.Flaw.TheVariants.{Exit}
use Rattle.nest_reasons.specs.declared.marks.Mark.{Mark}
use Rattle.nest_reasons.specs.declared.marks.Mark.TheVariants.{Halts, Jumps, Arrives, Turns}
use Rattle.nest_reasons.specs.Flaws.{leaves_loop}
use Rattle.nest_reasons.specs.Loops.{has_flaw}
use Rattle.nest_reasons.specs.Walks.{any_loop, any_in_arms, any_in_block}
use Rattle.nest_reasons.specs.Marks.{own_marks, marks_in_arms, marks_in_block}
use Rattle.pass_laws.specs.nest_sources.Sources.{may_stand, arms_may_stand, block_may_stand}

pub neither : (a b : Bool) → (a || b) ≡ false → (a ≡ false) × (b ≡ false)
neither true b h = let no : ⊥ = cc in absurd no
neither false b h = (refl, h)

both : (a b : Bool) → a ≡ true → b ≡ true → (a && b) ≡ true
both true b h k = k
both false b h k = let no : ⊥ = cc in absurd no

abbrev halts : Mark → Bool
halts Halts = true
halts (Jumps n) = false
halts (Arrives n) = false
halts (Turns b) = false

-- what halts leaves
no_halts : (all ms : List Mark) → list_any (leaves_loop all) ms ≡ false → list_any halts ms ≡ false
no_halts all [] h = refl
no_halts all (m ∷ ms) h = let two = neither (leaves_loop all m) (list_any (leaves_loop all) ms) h in by m two.0 (no_halts all ms two.1)
  where
    by : (m : Mark) → leaves_loop all m ≡ false → list_any halts ms ≡ false → list_any halts (m ∷ ms) ≡ false
    by Halts e f = let no : ⊥ = cc in absurd no
    by (Jumps n) e f = f
    by (Arrives n) e f = f
    by (Turns b) e f = f

parted : (ms ns : List Mark) → list_any halts (ms ++ ns) ≡ false → (list_any halts ms ≡ false) × (list_any halts ns ≡ false)
parted ms ns h = neither (list_any halts ms) (list_any halts ns) (sym (list_any-append halts ms ns) ∙ h)

module _ (ds : List Declaration) (symbols : List (List ℕ)) where
  mutual
    stands : (c : Statement) (around : List (List ℕ)) (b : Bool) (w : Surroundings) → any_loop (has_flaw Exit symbols) around c ≡ false → list_any halts (own_marks b c) ≡ false → IsStatement ds c w
        → may_stand c ≡ true
    stands (Assignment line mark left right) around b w e f h = refl
    stands (Where line mark mask left right) around b w e f h = absurd h
    stands (If line arms other) around b w e f h =
        let es = neither (any_in_arms (has_flaw Exit symbols) around arms) (any_in_block (has_flaw Exit symbols) around other) e in
        let fs = parted (marks_in_arms arms) (marks_in_block true other) f in
        both (arms_may_stand arms) (block_may_stand other) (arms_stand arms around w es.0 fs.0 h.2) (block_stands other around true w es.1 fs.1 h.3)
    stands (Do line x first last step body) around b w e f h =
        let marks = marks_in_block false body in
        let es = neither (list_any (leaves_loop marks) marks) (any_in_block (has_flaw Exit symbols) (around ++ x ∷ []) body) e in
        block_stands body (around ++ x ∷ []) false (within_loop x w) es.1 (no_halts marks marks es.0) h.5
    stands (Label n) around b w e f h = refl
    stands (GoTo line n) around b w e f h = refl
    stands (Stop line) around b w e f h = let no : ⊥ = cc in absurd no
    stands (Read line is) around b w e f h = let no : ⊥ = cc in absurd no
    stands (Print line is) around b w e f h = let no : ⊥ = cc in absurd no
    stands (Allocate line x es) around b w e f h = absurd h
    stands (Deallocate line x) around b w e f h = absurd h

    arms_stand : (arms : Arms) (around : List (List ℕ)) (w : Surroundings) → any_in_arms (has_flaw Exit symbols) around arms ≡ false → list_any halts (marks_in_arms arms) ≡ false → AreArms ds arms w
        → arms_may_stand arms ≡ true
    arms_stand no_arms around w e f h = refl
    arms_stand (arm test body arms) around w e f h =
        let es = neither (any_in_block (has_flaw Exit symbols) around body) (any_in_arms (has_flaw Exit symbols) around arms) e in
        let fs = parted (marks_in_block true body) (marks_in_arms arms) f in
        both (block_may_stand body) (arms_may_stand arms) (block_stands body around true w es.0 fs.0 h.1) (arms_stand arms around w es.1 fs.1 h.2)

    block_stands : (cs : Block) (around : List (List ℕ)) (b : Bool) (w : Surroundings) → any_in_block (has_flaw Exit symbols) around cs ≡ false → list_any halts (marks_in_block b cs) ≡ false → IsBlock ds cs w
        → block_may_stand cs ≡ true
    block_stands no_statements around b w e f h = refl
    block_stands (statement c cs) around b w e f h =
        let es = neither (any_loop (has_flaw Exit symbols) around c) (any_in_block (has_flaw Exit symbols) around cs) e in
        let fs = parted (own_marks b c) (marks_in_block b cs) f in
        both (may_stand c) (block_may_stand cs) (stands c around b (before_labels (labels_of cs) w) es.0 fs.0 h.0) (block_stands cs around b w es.1 fs.1 h.1)

  -- the body of a loop in which no loop has the flaw
  pub loop_may_stand : (line : ℕ) (x : List ℕ) (first last step : Expression) (body : Block) (w : Surroundings)
      → any_loop (has_flaw Exit symbols) [] (Do line x first last step body) ≡ false → IsStatement ds (Do line x first last step body) w
      → block_may_stand body ≡ true
  loop_may_stand line x first last step body w e h = stands (Do line x first last step body) [] false w e refl h
