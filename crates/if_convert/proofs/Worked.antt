-- Bodies worked by computation: a label in an arm, jumps in no IF, jumps out of two arms, an IF in an IF.
use Rattle.std.proofs.Common.{◌≡◌, refl, ℕ, [], ◌∷◌, Some, None, false}
use Rattle.tree.specs.Plain.{Expression}
use Rattle.nest.specs.Plain.{Guarded, Run, Choice, Label, Jump, Parts, no_parts, part, no_branches, branch}
use Rattle.if_convert.specs.Masks.{Kept, Asks, Clears, Leaves, Test, Other, Unleft}
use Rattle.if_convert.specs.Converted.{converted_parts}
use Rattle.if_convert.specs.Points.{entered}
use Rattle.if_convert.specs.declared.points.Jumped.{Jumped}

abbrev to : ℕ → ℕ → Jumped
to m k = record { mask = m; label = k }

-- s0; IF (c1) THEN; IF (c2) GO TO 10; s1; 10 s2; ELSE; s3; END IF. The jump has the first mask
module _ (line : ℕ) (s0 s1 s2 s3 : Guarded) (c1 c2 : Expression) where
  abbrev in_arm : Parts
  in_arm =
      part (Run s0)
      (part (Choice (branch c1
      (part (Choice (branch c2 (part (Jump 10) no_parts) no_branches) no_parts) (part (Run s1) (part (Label 10) (part (Run s2) no_parts))))
      no_branches) (part (Run s3) no_parts))
      no_parts)

  worked_in_arm : (converted_parts line false None in_arm (entered None 0 0)).made
      ≡ Kept None s0 ∷ Clears 0 ∷ Asks None 1 (Test c1) ∷ Asks (Some 1) 2 (Test c2) ∷ Leaves (Some 2) 0
      ∷ Asks (Some 1) 3 (Unleft (to 0 10 ∷ [])) ∷ Kept (Some 3) s1 ∷ Kept (Some 1) s2 ∷ Asks None 4 (Other 1) ∷ Kept (Some 4) s3 ∷ []
  worked_in_arm = refl

-- s0; IF (c1) GO TO 20; s1; GO TO 30; s2; 20 s3; IF (c2) GO TO 40; 30 s4; 40 CONTINUE. s2 is left out
module _ (line : ℕ) (s0 s1 s2 s3 s4 : Guarded) (c1 c2 : Expression) where
  abbrev bare : Parts
  bare =
      part (Run s0)
      (part (Choice (branch c1 (part (Jump 20) no_parts) no_branches) no_parts)
      (part (Run s1)
      (part (Jump 30)
      (part (Run s2)
      (part (Label 20)
      (part (Run s3)
      (part (Choice (branch c2 (part (Jump 40) no_parts) no_branches) no_parts)
      (part (Label 30)
      (part (Run s4)
      (part (Label 40) no_parts))))))))))

  worked_bare : (converted_parts line false None bare (entered None 0 0)).made
      ≡ Kept None s0 ∷ Clears 0 ∷ Asks None 1 (Test c1) ∷ Leaves (Some 1) 0
      ∷ Asks None 2 (Unleft (to 0 20 ∷ [])) ∷ Kept (Some 2) s1 ∷ Clears 3 ∷ Leaves (Some 2) 3
      ∷ Asks None 4 (Unleft (to 3 30 ∷ [])) ∷ Kept (Some 4) s3
      ∷ Clears 5 ∷ Asks (Some 4) 6 (Test c2) ∷ Leaves (Some 6) 5
      ∷ Asks None 7 (Unleft (to 3 30 ∷ to 5 40 ∷ []))
      ∷ Asks None 8 (Unleft (to 5 40 ∷ [])) ∷ Kept (Some 8) s4 ∷ []
  worked_bare = refl

-- IF (c1) THEN; s1; IF (c2) GO TO 20; s2; ELSE IF (c3) THEN; s3; ELSE; IF (c4) GO TO 10; s4; END IF; s5; 10 s6; 20 s7
module _ (line : ℕ) (s1 s2 s3 s4 s5 s6 s7 : Guarded) (c1 c2 c3 c4 : Expression) where
  abbrev out_of_arms : Parts
  out_of_arms =
      part (Choice (branch c1
      (part (Run s1) (part (Choice (branch c2 (part (Jump 20) no_parts) no_branches) no_parts) (part (Run s2) no_parts)))
      (branch c3 (part (Run s3) no_parts) no_branches))
      (part (Choice (branch c4 (part (Jump 10) no_parts) no_branches) no_parts) (part (Run s4) no_parts)))
      (part (Run s5) (part (Label 10) (part (Run s6) (part (Label 20) (part (Run s7) no_parts)))))

  worked_out_of_arms : (converted_parts line false None out_of_arms (entered None 0 0)).made
      ≡ Clears 0 ∷ Clears 1 ∷ Asks None 2 (Test c1) ∷ Kept (Some 2) s1
      ∷ Asks (Some 2) 3 (Test c2) ∷ Leaves (Some 3) 0 ∷ Asks (Some 2) 4 (Unleft (to 0 20 ∷ [])) ∷ Kept (Some 4) s2
      ∷ Asks None 5 (Other 2) ∷ Asks (Some 5) 6 (Test c3) ∷ Kept (Some 6) s3
      ∷ Asks (Some 5) 7 (Other 6) ∷ Asks (Some 7) 8 (Test c4) ∷ Leaves (Some 8) 1
      ∷ Asks (Some 7) 9 (Unleft (to 1 10 ∷ [])) ∷ Kept (Some 9) s4
      ∷ Asks None 10 (Unleft (to 0 20 ∷ to 1 10 ∷ [])) ∷ Kept (Some 10) s5
      ∷ Asks None 11 (Unleft (to 0 20 ∷ [])) ∷ Kept (Some 11) s6 ∷ Kept None s7 ∷ []
  worked_out_of_arms = refl

-- IF (c1) THEN; IF (c2) THEN; s1; ELSE; s2; END IF; ELSE; s3; END IF
module _ (line : ℕ) (s1 s2 s3 : Guarded) (c1 c2 : Expression) where
  abbrev in_one_another : Parts
  in_one_another =
      part (Choice (branch c1
      (part (Choice (branch c2 (part (Run s1) no_parts) no_branches) (part (Run s2) no_parts)) no_parts) no_branches)
      (part (Run s3) no_parts))
      no_parts

  worked_in_one_another : (converted_parts line false None in_one_another (entered None 0 0)).made
      ≡ Asks None 0 (Test c1) ∷ Asks (Some 0) 1 (Test c2) ∷ Kept (Some 1) s1 ∷ Asks (Some 0) 2 (Other 1) ∷ Kept (Some 2) s2
      ∷ Asks None 3 (Other 0) ∷ Kept (Some 3) s3 ∷ []
  worked_in_one_another = refl
