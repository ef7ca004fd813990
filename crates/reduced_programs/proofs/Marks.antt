-- Statements that aren't gathered keep their places, and forms have the marks of what stood in their loops.
use Rattle.std.proofs.Common.{◌≡◌, refl, sym, ap, ap₂, ◌∙◌, subst, ◌⊎◌, inl, inr, ℕ, Bool, true, false, cond, Option, Some, None, List, [], ◌∷◌, ◌++◌, map, Contains}
use Rattle.std.proofs.lemmas.List.{map-append}
use Rattle.std.proofs.lemmas.List.Elements.{Contains-append_cases, Contains-append_left, Contains-append_right}
use Rattle.tree.specs.Plain.{Expression, Statement, Assignment, Where, If, Do, Label, GoTo, Stop, Read, Print, Allocate, Deallocate, Arms, no_arms, arm, Block, no_statements, statement, Program}
use Rattle.tree.specs.declared.functions.Red.{Red}
use Rattle.tree.specs.declared.stmts.Mark.{Mark}
use Rattle.emission.specs.emission_marks.Marks.{Marked, Round, Turning, Under, Otherwise, marked, marked_in, marked_under}
use Rattle.meaning_laws.proofs.profiles.Lists.{cases_of, here, nowhere}
use Rattle.reductions.specs.Finding.{Context, FoundLoop, context_of, is_positive, reducible}
use Rattle.reductions.specs.Gathering.{form_of, loop_of, tested}
use Rattle.reductions.specs.Reduced.{done_in, done_in_arms, done_in_block, done_or, form, formed_or, lines_of, outward, reduced, reduced_arms, reduced_block, reduction, values_of}
use Rattle.reduction_laws.proofs.blocks.Shape.{lines_at, reducible_is}
use Rattle.translation.specs.program_marks.Marks.{mark_numbers_of}
use Rattle.reduced_programs.specs.Marks.{AreMarksKept, IsFormed, ReducedProgramKeepsMarks, done_numbers_of}

abbrev Done : Type 0
Done = List (Mark × Red)

-- ---- lists

unchanged : (xs : List Marked) → AreMarksKept xs xs []
unchanged xs = record { numbers = refl; others = λ x c n. c; formed = λ d c. absurd (nowhere d c) }

formed_left : (a b c d : List Marked) (x : Mark × Red) → IsFormed a b x → IsFormed (a ++ c) (b ++ d) x
formed_left a b c d x h = record {
  statement = h.statement;
  stood = Contains-append_left a c h.statement h.stood;
  mark = h.mark;
  form = h.form;
  stands = Contains-append_left b d h.form h.stands;
  form_mark = h.form_mark;
}

formed_right : (a b c d : List Marked) (x : Mark × Red) → IsFormed c d x → IsFormed (a ++ c) (b ++ d) x
formed_right a b c d x h = record {
  statement = h.statement;
  stood = Contains-append_right a c h.statement h.stood;
  mark = h.mark;
  form = h.form;
  stands = Contains-append_right b d h.form h.stands;
  form_mark = h.form_mark;
}

joined : (a b c d : List Marked) (xs ys : Done) → AreMarksKept a b xs → AreMarksKept c d ys → AreMarksKept (a ++ c) (b ++ d) (xs ++ ys)
joined a b c d xs ys h k = record {
  numbers = map-append mark_numbers_of b d ∙ (ap₂ (λ m n. m ++ n) h.numbers k.numbers ∙ sym (map-append mark_numbers_of a c));
  others = λ x i n. other x (Contains-append_cases a c x i) n;
  formed = λ x i. gathered x (Contains-append_cases xs ys x i);
}
  where
    numbers_are : map done_numbers_of (xs ++ ys) ≡ map done_numbers_of xs ++ map done_numbers_of ys
    numbers_are = map-append done_numbers_of xs ys

    among : (m : ℕ × ℕ) → Contains (map done_numbers_of xs ++ map done_numbers_of ys) m → Contains (map done_numbers_of (xs ++ ys)) m
    among m i = subst (λ ms. Contains ms m) (sym numbers_are) i

    other : (x : Marked) → Contains a x ⊎ Contains c x → (Contains (map done_numbers_of (xs ++ ys)) (mark_numbers_of x) → ⊥) → Contains (b ++ d) x
    other x (inl i) n = Contains-append_left b d x (h.others x i (λ j. n (among (mark_numbers_of x) (Contains-append_left (map done_numbers_of xs) (map done_numbers_of ys) (mark_numbers_of x) j))))
    other x (inr i) n = Contains-append_right b d x (k.others x i (λ j. n (among (mark_numbers_of x) (Contains-append_right (map done_numbers_of xs) (map done_numbers_of ys) (mark_numbers_of x) j))))

    gathered : (x : Mark × Red) → Contains xs x ⊎ Contains ys x → IsFormed (a ++ c) (b ++ d) x
    gathered x (inl i) = formed_left a b c d x (h.formed x i)
    gathered x (inr i) = formed_right a b c d x (k.formed x i)

-- ---- a form

one : (x y : Marked) (d : Mark × Red) → d.0 ≡ outward x.mark → y.mark ≡ d.0 → AreMarksKept (x ∷ []) (y ∷ []) (d ∷ [])
one x y d e f = record {
  numbers = ap (λ (m : Mark). (m.nest, m.stmt) ∷ []) (f ∙ e);
  others = λ z i n. other z (cases_of x [] z i) n;
  formed = λ z i. gathered z (cases_of d [] z i);
}
  where
    same : done_numbers_of d ≡ mark_numbers_of x
    same = ap (λ (m : Mark). (m.nest, m.stmt)) e

    other : (z : Marked) → (x ≡ z) ⊎ Contains [] z → (Contains (done_numbers_of d ∷ []) (mark_numbers_of z) → ⊥) → Contains (y ∷ []) z
    other z (inl g) n = absurd (n (subst (λ m. Contains (done_numbers_of d ∷ []) m) (same ∙ ap mark_numbers_of g) (here (done_numbers_of d) [])))
    other z (inr i) n = absurd (nowhere z i)

    gathered : (z : Mark × Red) → (d ≡ z) ⊎ Contains [] z → IsFormed (x ∷ []) (y ∷ []) z
    gathered z (inl g) = subst (IsFormed (x ∷ []) (y ∷ [])) g (record { statement = x; stood = here x []; mark = e; form = y; stands = here y []; form_mark = f })
    gathered z (inr i) = absurd (nowhere z i)

form_marks : (f : FoundLoop) (round : List Round) → AreMarksKept (marked round (loop_of (lines_at f) f.loop)) (marked round (form f)) (reduction f ∷ [])
form_marks f round = by (is_positive f.loop.trip)
  where
    by : (b : Bool) → AreMarksKept (marked round (loop_of (lines_at f) f.loop)) (marked round (cond b (form_of (lines_of f) f.loop (values_of f)) (tested (lines_of f) f.loop (form_of (lines_of f) f.loop (values_of f))))) (reduction f ∷ [])
    by true = one _ _ (reduction f) refl refl
    by false = one _ _ (reduction f) refl refl

-- ---- statements

module _ (w : Context) where
  mutual
    statement_marks : (c : Statement) (round : List Round) → AreMarksKept (marked round c) (marked round (reduced w c)) (done_in w c)
    statement_marks (If line arms other) round =
        joined (marked_under round arms) (marked_under round (reduced_arms w arms)) (marked_in (round ++ Otherwise ∷ []) other) (marked_in (round ++ Otherwise ∷ []) (reduced_block w other)) (done_in_arms w arms) (done_in_block w other)
        (arms_marks arms round) (block_marks other (round ++ Otherwise ∷ []))
    statement_marks (Do line x a b c body) round = by (block_marks body (round ++ Turning x a b c ∷ [])) (reducible w (Do line x a b c body)) refl
      where
        by : AreMarksKept (marked_in (round ++ Turning x a b c ∷ []) body) (marked_in (round ++ Turning x a b c ∷ []) (reduced_block w body)) (done_in_block w body) → (o : Option FoundLoop) → reducible w (Do line x a b c body) ≡ o
            → AreMarksKept (marked round (Do line x a b c body)) (marked round (formed_or w o (Do line x a b c (reduced_block w body)))) (done_or w o (done_in_block w body))
        by k None e = k
        by k (Some f) e = subst (λ d. AreMarksKept (marked round d) (marked round (form f)) (reduction f ∷ [])) (sym (reducible_is w line x a b c body f e).is) (form_marks f round)
    statement_marks (Assignment line m r e) round = unchanged (marked round (Assignment line m r e))
    statement_marks (Where line m k r e) round = unchanged (marked round (Where line m k r e))
    statement_marks (Label n) round = unchanged []
    statement_marks (GoTo line n) round = unchanged []
    statement_marks (Stop line) round = unchanged []
    statement_marks (Read line is) round = unchanged []
    statement_marks (Print line is) round = unchanged []
    statement_marks (Allocate line x es) round = unchanged []
    statement_marks (Deallocate line x) round = unchanged []

    arms_marks : (arms : Arms) (round : List Round) → AreMarksKept (marked_under round arms) (marked_under round (reduced_arms w arms)) (done_in_arms w arms)
    arms_marks no_arms round = unchanged []
    arms_marks (arm test body arms) round =
        joined (marked_in (round ++ Under test ∷ []) body) (marked_in (round ++ Under test ∷ []) (reduced_block w body)) (marked_under round arms) (marked_under round (reduced_arms w arms)) (done_in_block w body) (done_in_arms w arms)
        (block_marks body (round ++ Under test ∷ [])) (arms_marks arms round)

    block_marks : (cs : Block) (round : List Round) → AreMarksKept (marked_in round cs) (marked_in round (reduced_block w cs)) (done_in_block w cs)
    block_marks no_statements round = unchanged []
    block_marks (statement c cs) round =
        joined (marked round c) (marked round (reduced w c)) (marked_in round cs) (marked_in round (reduced_block w cs)) (done_in w c) (done_in_block w cs) (statement_marks c round) (block_marks cs round)

pub reduced_program_keeps_marks : ReducedProgramKeepsMarks
reduced_program_keeps_marks p = block_marks (context_of p) p.body []
