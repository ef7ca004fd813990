-- Forms have no more blocks and statements than their loops, and the same labels.
use Rattle.std.proofs.Common.{◌≡◌, refl, sym, ap, ap₂, ◌∙◌, subst, ℕ, ◌+◌, ◌≤◌, max, Bool, true, false, cond, List, [], ◌∷◌, ◌++◌, Option, Some, None, arith}
use Rattle.tree.specs.Plain.{Expression, Statement, Assignment, Where, If, Do, Label, GoTo, Stop, Read, Print, Allocate, Deallocate, Arms, no_arms, arm, Block, no_statements, statement}
use Rattle.meaning.specs.Blocks.{blocks_in, blocks_in_arms, blocks_of, label_of, labels_of, statement_count_in, statement_count_in_arms, statement_count_of}
use Rattle.meaning.specs.Labels.{all_labels_in, all_labels_in_arms, all_labels_of, has_arm, targets_in, targets_in_arms, targets_of}
use Rattle.reductions.specs.Finding.{Context, FoundLoop, is_positive, reducible}
use Rattle.reductions.specs.Gathering.{form_of, loop_of, tested}
use Rattle.reductions.specs.Reduced.{assignment, form, formed_or, lines_of, reduced, reduced_arms, reduced_block, values_of}
use Rattle.reduction_laws.proofs.blocks.Shape.{lines_at, reducible_is}

pub record Counts (c d : Statement) : Type 0 where
  pub blocks : blocks_of d ≤ blocks_of c
  pub statements : statement_count_of d ≤ statement_count_of c
  pub labels : all_labels_of d ≡ all_labels_of c
  pub targets : targets_of d ≡ targets_of c
  pub label : label_of d ≡ label_of c

pub record ArmCounts (c d : Arms) : Type 0 where
  pub blocks : blocks_in_arms d ≤ blocks_in_arms c
  pub statements : statement_count_in_arms d ≤ statement_count_in_arms c
  pub labels : all_labels_in_arms d ≡ all_labels_in_arms c
  pub targets : targets_in_arms d ≡ targets_in_arms c
  pub some : has_arm d ≡ has_arm c

pub record BlockCounts (c d : Block) : Type 0 where
  pub blocks : blocks_in d ≤ blocks_in c
  pub statements : statement_count_in d ≤ statement_count_in c
  pub labels : all_labels_in d ≡ all_labels_in c
  pub targets : targets_in d ≡ targets_in c
  pub own : labels_of d ≡ labels_of c

same_counts : (c : Statement) → Counts c c
same_counts c = record { blocks = omega arith; statements = omega arith; labels = refl; targets = refl; label = refl }

form_counts : (f : FoundLoop) → Counts (loop_of (lines_at f) f.loop) (form f)
form_counts f = by (is_positive f.loop.trip)
  where
    by : (b : Bool) → Counts (loop_of (lines_at f) f.loop) (cond b (form_of (lines_of f) f.loop (values_of f)) (tested (lines_of f) f.loop (form_of (lines_of f) f.loop (values_of f))))
    by true = record { blocks = omega arith; statements = omega arith; labels = refl; targets = refl; label = refl }
    by false = record { blocks = omega arith; statements = omega arith; labels = refl; targets = refl; label = refl }

less_max : (a b c d : ℕ) → a ≤ c → b ≤ d → max a b ≤ max c d
less_max a b c d h k = omega (arith, h, k)

less_sum : (a b c d : ℕ) → a ≤ c → b ≤ d → a + b ≤ c + d
less_sum a b c d h k = omega (arith, h, k)

less_one : (a b : ℕ) → a ≤ b → 1 + a ≤ 1 + b
less_one a b h = omega (arith, h)

module _ (w : Context) where
  mutual
    pub counted : (c : Statement) → Counts c (reduced w c)
    counted (If line arms other) =
        let a = counted_arms arms in let b = counted_block other in
        record {
          blocks = less_one _ _ (less_max _ _ _ _ a.blocks b.blocks);
          statements = less_one _ _ (less_sum _ _ _ _ a.statements b.statements);
          labels = ap₂ (λ x y. x ++ y) a.labels b.labels;
          targets = ap₂ (λ x y. x ++ y) a.targets b.targets;
          label = refl;
        }
    counted (Do line x a b c body) = by (counted_block body) (reducible w (Do line x a b c body)) refl
      where
        by : BlockCounts body (reduced_block w body) → (o : Option FoundLoop) → reducible w (Do line x a b c body) ≡ o → Counts (Do line x a b c body) (formed_or w o (Do line x a b c (reduced_block w body)))
        by k None e = record { blocks = less_one _ _ k.blocks; statements = less_one _ _ k.statements; labels = k.labels; targets = k.targets; label = refl }
        by k (Some f) e = subst (λ d. Counts d (form f)) (sym (reducible_is w line x a b c body f e).is) (form_counts f)
    counted (Assignment line m r e) = same_counts (Assignment line m r e)
    counted (Where line m k r e) = same_counts (Where line m k r e)
    counted (Label n) = same_counts (Label n)
    counted (GoTo line n) = same_counts (GoTo line n)
    counted (Stop line) = same_counts (Stop line)
    counted (Read line is) = same_counts (Read line is)
    counted (Print line is) = same_counts (Print line is)
    counted (Allocate line x es) = same_counts (Allocate line x es)
    counted (Deallocate line x) = same_counts (Deallocate line x)

    pub counted_arms : (arms : Arms) → ArmCounts arms (reduced_arms w arms)
    counted_arms no_arms = record { blocks = omega arith; statements = omega arith; labels = refl; targets = refl; some = refl }
    counted_arms (arm test body arms) =
        let a = counted_block body in let b = counted_arms arms in
        record {
          blocks = less_max _ _ _ _ a.blocks b.blocks;
          statements = less_sum _ _ _ _ a.statements b.statements;
          labels = ap₂ (λ x y. x ++ y) a.labels b.labels;
          targets = ap₂ (λ x y. x ++ y) a.targets b.targets;
          some = refl;
        }

    pub counted_block : (cs : Block) → BlockCounts cs (reduced_block w cs)
    counted_block no_statements = record { blocks = omega arith; statements = omega arith; labels = refl; targets = refl; own = refl }
    counted_block (statement c cs) =
        let a = counted c in let b = counted_block cs in
        record {
          blocks = less_max _ _ _ _ a.blocks b.blocks;
          statements = less_sum _ _ _ _ a.statements b.statements;
          labels = ap₂ (λ x y. x ++ y) a.labels b.labels;
          targets = ap₂ (λ x y. x ++ y) a.targets b.targets;
          own = ap₂ (λ x y. x ++ y) a.label b.own;
        }
