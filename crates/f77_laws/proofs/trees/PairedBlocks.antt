-- In a block each block IF has its END IF, and each END IF its block IF.
use Rattle.std.proofs.Common.{◌≡◌, ℕ, true, false, Some, List, [], ◌∷◌, ◌++◌, refl, sym, ap, subst, ◌∙◌, append_assoc}
use Rattle.tree.specs.Plain as tree
use Rattle.meaning.specs.Store.{Store}
use Rattle.f77_grammar.specs.Statement77.{Labelled, Statement77, If, ElseIf, Else, EndIf, Do, EndDo}
use Rattle.f77_grammar.specs.program.Text.{is_block_if, is_end_if}
use Rattle.f77_grammar.specs.program.Uses.{Use77}
use Rattle.f77_grammar.specs.program.Blocks.{stands_alone, IsUnit, AreBlock77, AreArms77}
use Rattle.f77_grammar.specs.program.Blocks.IsUnit.{alone, block_if, loop, end_do}
use Rattle.f77_grammar.specs.program.Blocks.AreBlock77.{nothing, unit}
use Rattle.f77_grammar.specs.program.Blocks.AreArms77.{end_if, else_part, else_if}
use Rattle.f77_laws.specs.trees.Pairs.{ArePaired, Ends, BlocksArePaired}
use Rattle.f77_laws.specs.trees.Pairs.ArePaired.{nothing as none, other, pair}
use Rattle.f77_laws.proofs.trees.Lists.{not_both}
use Rattle.f77_laws.proofs.trees.Pairs.{paired_append}

pub alone_is_no_if : (s : Statement77) → stands_alone s ≡ true → is_block_if s ≡ false
alone_is_no_if (If c) e = absurd (not_both false e refl)
alone_is_no_if s e = refl

pub alone_is_no_end : (s : Statement77) → stands_alone s ≡ true → is_end_if s ≡ false
alone_is_no_end EndIf e = absurd (not_both false e refl)
alone_is_no_end s e = refl

-- paired statements and an END IF behind them
pub record AreEnded (xs : List Labelled) : Type 0 where
  pub between : List Labelled
  pub end : Labelled
  pub whole : xs ≡ between ++ end ∷ []
  pub is_end : is_end_if end.statement ≡ true
  pub paired : ArePaired between

-- with other paired statements in front
pub ended_behind : (xs ys : List Labelled) → ArePaired xs → AreEnded ys → AreEnded (xs ++ ys)
ended_behind xs ys h k =
    record {
      between = xs ++ k.between;
      end = k.end;
      whole = ap (λ zs. xs ++ zs) k.whole ∙ sym (append_assoc xs k.between (k.end ∷ []));
      is_end = k.is_end;
      paired = paired_append xs k.between h k.paired;
    }

only : (x : Labelled) (s : Statement77) → x.statement ≡ s → is_block_if s ≡ false → is_end_if s ≡ false
    → ArePaired (x ∷ [])
only x s e a b = other x [] (ap is_block_if e ∙ a) (ap is_end_if e ∙ b) none

pair_of : (x : Labelled) (xs : List Labelled) → is_block_if x.statement ≡ true → AreEnded xs → ArePaired (x ∷ xs)
pair_of x xs a h =
    subst (λ (zs : List Labelled). ArePaired (x ∷ zs)) (sym h.whole)
    (pair x h.end h.between [] a h.is_end h.paired none)

module _ (us : List Use77) (s : Store) (named : List ℕ) where
  mutual
    unit_paired : (xs : List Labelled) (cs : List tree.Statement) → IsUnit us s named xs cs → ArePaired xs
    unit_paired xs cs (alone x e) =
        only x x.statement refl (alone_is_no_if x.statement e) (alone_is_no_end x.statement e)
    unit_paired xs cs (block_if x c first later body arms part e h k) =
        pair_of x (first ++ later) (ap is_block_if e)
        (ended_behind first later (block_paired first body h) (arms_ended later arms part k))
    unit_paired xs cs (loop x n v a b c range body e r h) =
        paired_append (x ∷ []) range (only x (Do (Some n) v a b c) e refl refl) (block_paired range body h)
    unit_paired xs cs (end_do x end n v a b c range body e h f g t) =
        paired_append (x ∷ []) (range ++ end ∷ []) (only x (Do (Some n) v a b c) e refl refl)
        (paired_append range (end ∷ []) (block_paired range body h) (only end EndDo f refl refl))

    pub block_paired : (xs : List Labelled) (cs : List tree.Statement) → AreBlock77 us s named xs cs → ArePaired xs
    block_paired xs cs nothing = none
    block_paired xs cs (unit first rest ds es h k) =
        paired_append first rest (unit_paired first ds h) (block_paired rest es k)

    pub arms_ended : (xs : List Labelled) (arms : tree.Arms) (part : tree.Block) → AreArms77 us s named xs arms part
        → AreEnded xs
    arms_ended xs arms part (end_if x e) =
        record { between = []; end = x; whole = refl; is_end = ap is_end_if e; paired = none }
    arms_ended xs arms part (else_part x end ys body e h f) =
        record {
          between = x ∷ ys;
          end = end;
          whole = refl;
          is_end = ap is_end_if f;
          paired = paired_append (x ∷ []) ys (only x Else e refl refl) (block_paired ys body h);
        }
    arms_ended xs arms part (else_if x c next later body more o e h k) =
        ended_behind (x ∷ next) later
        (paired_append (x ∷ []) next (only x (ElseIf c) e refl refl) (block_paired next body h))
        (arms_ended later more o k)

pub blocks_are_paired : BlocksArePaired
blocks_are_paired = record { paired = block_paired; last = last }
  where
    last : (us : List Use77) (s : Store) (named : List ℕ) (x : Labelled) (first later : List Labelled)
        (body : List tree.Statement) (arms : tree.Arms) (part : tree.Block) → is_block_if x.statement ≡ true
        → AreBlock77 us s named first body → AreArms77 us s named later arms part
        → (between : List Labelled) × (end : Labelled) × (first ++ later ≡ between ++ end ∷ []) × Ends end between x
    last us s named x first later body arms part a h k =
        let e = ended_behind first later (block_paired us s named first body h) (arms_ended us s named later arms part k) in
        (e.between, e.end, e.whole, record { is_if = a; is_end = e.is_end; paired = e.paired })
