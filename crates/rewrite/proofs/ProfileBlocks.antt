-- What a rule makes of a block of the profile.
use Rattle.std.proofs.Common.{◌≡◌, refl, sym, ap, ◌∙◌, subst, ◌⊎◌, inl, inr, ℕ, zero, suc, ◌+◌, ◌<◌, ◌≤◌, max, length, get_or, Bool, true, false, List, [], ◌∷◌, ◌++◌, Option, Some, None, arith}
use Rattle.std.specs.Prelude.{IsTrue, Contains}
use Rattle.std.specs.Option.{IsSomeAnd}
use Rattle.std.specs.List.{AllByRecursion}
use mathlib.Core.Path.{ap₂}
use Rattle.tree.specs.declared.ops.Kind.{Kind}
use Rattle.tree.specs.declared.ops.Kind.TheVariants.{Integer, Logical}
use Rattle.tree.specs.Limits as limits
use Rattle.tree.specs.Plain.{Expression, Expressions, Reference, Later, Declaration, Program, Statement, Assignment, Where, If, Do, Label, GoTo, Stop, Read, Print, Allocate, Deallocate, Arms, no_arms, arm, Block, no_statements, statement}
use Rattle.meaning.specs.Blocks.{label_of, labels_of, blocks_of, blocks_in_arms, blocks_in, statement_count_of}
use Rattle.meaning.specs.Blocks.{statement_count_in_arms, statement_count_in, Surroundings, outermost, within_loop, before_labels}
use Rattle.meaning.specs.Labels.{all_labels_of, all_labels_in_arms, all_labels_in, targets_of, targets_in_arms}
use Rattle.meaning.specs.Labels.{targets_in, has_arm}
use Rattle.meaning.specs.Depths.{depth_of, depth_of_each}
use Rattle.meaning.specs.Profile90.{IsWhole, IsWholeScalar, IsAssignment, IsMasked, IsStatement, AreArms, IsBlock, AreDeclarations, IsProgram90}
use Rattle.meaning.specs.Typed.{declared, number_of_arguments}
use Rattle.meaning.specs.Typed90.{HasKind, rank_of}
use Rattle.meaning.specs.Value.{named}
use Rattle.rewrite.specs.Making.{Making, made, made_expressions, made_left}
use Rattle.rewrite.specs.MadeBlocks.{made_statement, made_arms, made_block}
use Rattle.rewrite.specs.Suits.{Suiting, Suits, SuitsEach, SuitsLeft, SuitsStatement, SuitsArms, SuitsBlock}
use Rattle.rewrite.specs.Profile.{DeclaresAlso, KeepsProfile, deepest_of, deepest_in_arms, deepest_in, with_block, MakesProfile}
use Rattle.rewrite.proofs.Profiles as made_of

-- ---- what is made has the same labels, jumps, blocks and statements

module _ (m : Making) where
  pub label-made : (c : Statement) → label_of (made_statement m c) ≡ label_of c
  label-made (Assignment line mark left right) = refl
  label-made (Where line mark mask left right) = refl
  label-made (If line arms other) = refl
  label-made (Do line x a b c body) = refl
  label-made (Label n) = refl
  label-made (GoTo line n) = refl
  label-made (Stop line) = refl
  label-made (Read line is) = refl
  label-made (Print line is) = refl
  label-made (Allocate line x es) = refl
  label-made (Deallocate line x) = refl

  pub labels-made : (cs : Block) → labels_of (made_block m cs) ≡ labels_of cs
  labels-made no_statements = refl
  labels-made (statement c cs) = ap₂ (λ a b. a ++ b) (label-made c) (labels-made cs)

  mutual
    all_labels_of-made : (c : Statement) → all_labels_of (made_statement m c) ≡ all_labels_of c
    all_labels_of-made (If line arms other) = ap₂ (λ a b. a ++ b) (all_labels_in_arms-made arms) (all_labels-made other)
    all_labels_of-made (Do line x a b c body) = all_labels-made body
    all_labels_of-made (Assignment line mark left right) = refl
    all_labels_of-made (Where line mark mask left right) = refl
    all_labels_of-made (Label n) = refl
    all_labels_of-made (GoTo line n) = refl
    all_labels_of-made (Stop line) = refl
    all_labels_of-made (Read line is) = refl
    all_labels_of-made (Print line is) = refl
    all_labels_of-made (Allocate line x es) = refl
    all_labels_of-made (Deallocate line x) = refl

    all_labels_in_arms-made : (arms : Arms) → all_labels_in_arms (made_arms m arms) ≡ all_labels_in_arms arms
    all_labels_in_arms-made no_arms = refl
    all_labels_in_arms-made (arm test body arms) = ap₂ (λ a b. a ++ b) (all_labels-made body) (all_labels_in_arms-made arms)

    pub all_labels-made : (cs : Block) → all_labels_in (made_block m cs) ≡ all_labels_in cs
    all_labels-made no_statements = refl
    all_labels-made (statement c cs) = ap₂ (λ a b. a ++ b) (all_labels_of-made c) (all_labels-made cs)

  mutual
    targets_of-made : (c : Statement) → targets_of (made_statement m c) ≡ targets_of c
    targets_of-made (If line arms other) = ap₂ (λ a b. a ++ b) (targets_in_arms-made arms) (targets-made other)
    targets_of-made (Do line x a b c body) = targets-made body
    targets_of-made (Assignment line mark left right) = refl
    targets_of-made (Where line mark mask left right) = refl
    targets_of-made (Label n) = refl
    targets_of-made (GoTo line n) = refl
    targets_of-made (Stop line) = refl
    targets_of-made (Read line is) = refl
    targets_of-made (Print line is) = refl
    targets_of-made (Allocate line x es) = refl
    targets_of-made (Deallocate line x) = refl

    targets_in_arms-made : (arms : Arms) → targets_in_arms (made_arms m arms) ≡ targets_in_arms arms
    targets_in_arms-made no_arms = refl
    targets_in_arms-made (arm test body arms) = ap₂ (λ a b. a ++ b) (targets-made body) (targets_in_arms-made arms)

    pub targets-made : (cs : Block) → targets_in (made_block m cs) ≡ targets_in cs
    targets-made no_statements = refl
    targets-made (statement c cs) = ap₂ (λ a b. a ++ b) (targets_of-made c) (targets-made cs)

  mutual
    blocks_of-made : (c : Statement) → blocks_of (made_statement m c) ≡ blocks_of c
    blocks_of-made (If line arms other) = ap₂ (λ a b. 1 + max a b) (blocks_in_arms-made arms) (blocks-made other)
    blocks_of-made (Do line x a b c body) = ap (λ a. 1 + a) (blocks-made body)
    blocks_of-made (Assignment line mark left right) = refl
    blocks_of-made (Where line mark mask left right) = refl
    blocks_of-made (Label n) = refl
    blocks_of-made (GoTo line n) = refl
    blocks_of-made (Stop line) = refl
    blocks_of-made (Read line is) = refl
    blocks_of-made (Print line is) = refl
    blocks_of-made (Allocate line x es) = refl
    blocks_of-made (Deallocate line x) = refl

    blocks_in_arms-made : (arms : Arms) → blocks_in_arms (made_arms m arms) ≡ blocks_in_arms arms
    blocks_in_arms-made no_arms = refl
    blocks_in_arms-made (arm test body arms) = ap₂ max (blocks-made body) (blocks_in_arms-made arms)

    pub blocks-made : (cs : Block) → blocks_in (made_block m cs) ≡ blocks_in cs
    blocks-made no_statements = refl
    blocks-made (statement c cs) = ap₂ max (blocks_of-made c) (blocks-made cs)

  mutual
    statement_count_of-made : (c : Statement) → statement_count_of (made_statement m c) ≡ statement_count_of c
    statement_count_of-made (If line arms other) = ap₂ (λ a b. 1 + (a + b)) (statement_count_in_arms-made arms) (statements-made other)
    statement_count_of-made (Do line x a b c body) = ap (λ a. 1 + a) (statements-made body)
    statement_count_of-made (Assignment line mark left right) = refl
    statement_count_of-made (Where line mark mask left right) = refl
    statement_count_of-made (Label n) = refl
    statement_count_of-made (GoTo line n) = refl
    statement_count_of-made (Stop line) = refl
    statement_count_of-made (Read line is) = refl
    statement_count_of-made (Print line is) = refl
    statement_count_of-made (Allocate line x es) = refl
    statement_count_of-made (Deallocate line x) = refl

    statement_count_in_arms-made : (arms : Arms) → statement_count_in_arms (made_arms m arms) ≡ statement_count_in_arms arms
    statement_count_in_arms-made no_arms = refl
    statement_count_in_arms-made (arm test body arms) = ap₂ (λ a b. a + b) (statements-made body) (statement_count_in_arms-made arms)

    pub statements-made : (cs : Block) → statement_count_in (made_block m cs) ≡ statement_count_in cs
    statements-made no_statements = refl
    statements-made (statement c cs) = ap₂ (λ a b. a + b) (statement_count_of-made c) (statements-made cs)

  has_arm-made : (arms : Arms) → has_arm (made_arms m arms) ≡ has_arm arms
  has_arm-made no_arms = refl
  has_arm-made (arm test body arms) = refl

-- ---- what stands in a name's declaration

record Has (o : Option Declaration) (P : Declaration → Type 0) : Type 0 where
  one : Declaration
  is : o ≡ Some one
  holds : P one

has : (o : Option Declaration) (P : Declaration → Type 0) → IsSomeAnd o P → Has o P
has (Some d) P h = record { one = d; is = refl; holds = h }
has None P h = absurd h

some-with : (o : Option Declaration) (P Q : Declaration → Type 0) → ((d : Declaration) → P d → Q d) → IsSomeAnd o P → IsSomeAnd o Q
some-with (Some d) P Q f h = f d h
some-with None P Q f h = h

room : (a b r n : ℕ) → a ≤ b + r → b + r ≤ n → a ≤ n
room a b r n h k = omega arith

-- of a greatest part
first : (a b r n : ℕ) → max a b + r ≤ n → a + r ≤ n
first a b r n h = omega arith

second : (a b r n : ℕ) → max a b + r ≤ n → b + r ≤ n
second a b r n h = omega arith

two-deeper : (a b c d r : ℕ) → a ≤ c + r → b ≤ d + r → max a b ≤ max c d + r
two-deeper a b c d r h k = omega arith

not_false : (b : Bool) → IsTrue b → b ≡ false → ⊥
not_false true h e = cc
not_false false h e = cc

module _ (ds es : List Declaration) (also : DeclaresAlso ds es) (raise : ℕ) (m : Making) (suits : Suiting) (keeps : KeepsProfile es raise m suits) where
  abbrev Fits : ℕ → Type 0
  Fits n = n + raise ≤ limits.expression_depth90

  -- no DO variable round it is a name that the rule gives
  abbrev AreSuited : List (List ℕ) → Type 0
  AreSuited xs = AllByRecursion (λ x. IsTrue (suits.variable x)) xs

  suited_at : (xs : List (List ℕ)) (k : ℕ) (d : List ℕ) → k < length xs → AreSuited xs → IsTrue (suits.variable (get_or xs k d))
  suited_at [] k d lt h = absurd (omega arith)
  suited_at (x ∷ xs) zero d lt h = h.0
  suited_at (x ∷ xs) (suc k) d lt h = suited_at xs k d (omega arith) h.1

  suited : (xs : List (List ℕ)) (x : List ℕ) → AreSuited xs → Contains xs x → IsTrue (suits.variable x)
  suited xs x h c = subst (λ (y : List ℕ). IsTrue (suits.variable y)) c.2 (suited_at xs c.0 x c.1 h)

  whole-made : (e : Expression) (k : Kind) → Suits m suits e → Fits (depth_of e) → IsWhole ds e k → IsWhole es (made m e) k
  whole-made e k h n t =
      let b = made_of.Becomes-made ds es also raise m suits keeps e k h t.suits in
      record { suits = b.kind; depth = room _ _ raise _ (made_of.depth-alone ds es also raise m suits keeps e _ k b) n }

  scalar-made : (e : Expression) (k : Kind) → Suits m suits e → Fits (depth_of e) → IsWholeScalar ds e k → IsWholeScalar es (made m e) k
  scalar-made e k h n t = record {
    suits = made_of.scalar-made ds es also raise m suits keeps e k h t.suits;
    depth = room _ _ raise _ (made_of.depth-made ds es also raise m suits keeps e k h t.suits.0) n;
  }

  deeper : (e : Expression) (k : Kind) → Suits m suits e → HasKind ds e k → depth_of (made m e) ≤ depth_of e + raise
  deeper e k h t = made_of.depth-made ds es also raise m suits keeps e k h t

  left-deeper : (r : Reference) (k : Kind) → SuitsLeft m suits r → HasKind ds (named r) k → depth_of (named (made_left m r)) ≤ depth_of (named r) + raise
  left-deeper r k h t = made_of.depth-alone ds es also raise m suits keeps (named r) _ k (made_of.Becomes-left ds es also raise m suits keeps r k h t)

  apart : (r : Reference) (w : Surroundings) → SuitsLeft m suits r → AreSuited w.variables → (Contains w.variables r.name → ⊥) → Contains w.variables (made_left m r).name → ⊥
  apart r w h a n c = by (keeps.target _ h.0)
    where
      by : ((made_left m r).name ≡ r.name) ⊎ (suits.variable (made_left m r).name ≡ false) → ⊥
      by (inl e) = n (subst (λ (x : List ℕ). Contains w.variables x) e c)
      by (inr e) = not_false (suits.variable (made_left m r).name) (suited w.variables (made_left m r).name a c) e

  ranks : (r : Reference) (e : Expression) (k l : Kind) → SuitsLeft m suits r → Suits m suits e → HasKind ds (named r) k → HasKind ds e l
      → (rank_of ds e ≡ 0) ⊎ (rank_of ds e ≡ rank_of ds (named r)) → (rank_of es (made m e) ≡ 0) ⊎ (rank_of es (made m e) ≡ rank_of es (named (made_left m r)))
  ranks r e k l hr he tr te q =
      let a = made_of.Becomes-left ds es also raise m suits keeps r k hr tr in
      let b = made_of.Becomes-made ds es also raise m suits keeps e l he te in
      by a.rank b.rank q
    where
      by : rank_of es (named (made_left m r)) ≡ rank_of ds (named r) → rank_of es (made m e) ≡ rank_of ds e
          → (rank_of ds e ≡ 0) ⊎ (rank_of ds e ≡ rank_of ds (named r)) → (rank_of es (made m e) ≡ 0) ⊎ (rank_of es (made m e) ≡ rank_of es (named (made_left m r)))
      by f g (inl z) = inl (g ∙ z)
      by f g (inr z) = inr (g ∙ z ∙ sym f)

  record Assigns (r : Reference) (e : Expression) (w : Surroundings) : Type 0 where
    is : IsAssignment es (made_left m r) (made m e) w
    left : depth_of (named (made_left m r)) ≤ depth_of (named r) + raise
    right : depth_of (made m e) ≤ depth_of e + raise

  assignment-made : (r : Reference) (e : Expression) (w : Surroundings) → SuitsLeft m suits r → Suits m suits e
      → Fits (depth_of (named r)) → Fits (depth_of e) → AreSuited w.variables → IsAssignment ds r e w → Assigns r e w
  assignment-made r e w hr he nr ne a t =
      let d = has (declared ds r.name) _ t.0 in
      let k = d.one.kind in
      let l = made_of.Becomes-left ds es also raise m suits keeps r k hr d.holds.0.suits in
      let deep = made_of.depth-alone ds es also raise m suits keeps (named r) _ k l in
      record {
        is = (
          some-with (declared es (made_left m r).name) _ _ (λ q p. (
            subst (λ (k : Kind). IsWhole es (named (made_left m r)) k) p.0 (record { suits = l.kind; depth = room _ _ raise _ deep nr }),
            subst (λ (k : Kind). IsWhole es (made m e) k) p.0 (whole-made e k he ne d.holds.1),
          )) l.kind.0,
          ranks r e k k hr he d.holds.0.suits d.holds.1.suits t.1,
          apart r w hr a t.2,
        );
        left = deep;
        right = deeper e k he d.holds.1.suits;
      }

  masked-made : (mask : Expression) (r : Reference) (k : Kind) → Suits m suits mask → SuitsLeft m suits r → Fits (depth_of mask) → HasKind ds (named r) k
      → IsMasked ds mask r → IsMasked es (made m mask) (made_left m r)
  masked-made mask r k hm hr n tr t =
      let l = made_of.Becomes-left ds es also raise m suits keeps r k hr tr in
      let b = made_of.Becomes-made ds es also raise m suits keeps mask Logical hm t.0.suits in
      (whole-made mask Logical hm n t.0, subst (λ (n : ℕ). 1 ≤ n) (sym l.rank) t.1, b.rank ∙ t.2 ∙ sym l.rank)

  moved : (c : Statement) (w : Surroundings) (cs : Block) → IsStatement es c (before_labels (labels_of cs) w) → IsStatement es c (before_labels (labels_of (made_block m cs)) w)
  moved c w cs h = subst (λ (ns : List ℕ). IsStatement es c (before_labels ns w)) (sym (labels-made m cs)) h

  mutual
    statement-made : (c : Statement) (w : Surroundings) → SuitsStatement m suits c → Fits (deepest_of c) → AreSuited w.variables → IsStatement ds c w
        → IsStatement es (made_statement m c) w × (deepest_of (made_statement m c) ≤ deepest_of c + raise)
    statement-made (Assignment line mark r e) w h n a t =
        let s = assignment-made r e w h.0 h.1 (first _ _ raise _ n) (second _ _ raise _ n) a t.1 in
        ((t.0, s.is), two-deeper _ _ _ _ raise s.left s.right)
    statement-made (Where line mark mask r e) w h n a t =
        let k = second _ _ raise _ n in
        let s = assignment-made r e w h.0 h.1 (first _ _ raise _ k) (second _ _ raise _ k) a t.2 in
        let d = has (declared ds r.name) _ t.2.0 in (
          (t.0, masked-made mask r d.one.kind h.2 h.0 (first _ _ raise _ n) d.holds.0.suits t.1, s.is),
          two-deeper _ _ _ _ raise (deeper mask Logical h.2 t.1.0.suits) (two-deeper _ _ _ _ raise s.left s.right),
        )
    statement-made (If line arms other) w h n a t =
        let s = arms-made arms w h.0 (first _ _ raise _ n) a t.2 in
        let o = block-made other w h.1 (second _ _ raise _ n) a t.3 in
        ((t.0, subst IsTrue (sym (has_arm-made m arms)) t.1, s.0, o.0), two-deeper _ _ _ _ raise s.1 o.1)
    statement-made (Do line x e f g body) w h n a t =
        let k = first _ _ raise _ n in
        let l = second _ _ raise _ k in
        let b = block-made body (within_loop x w) h.1 (second _ _ raise _ n) (h.0.0, a) t.5 in (
          (
            t.0,
            made_of.DoVariable-also ds es also raise m suits keeps x w.variables t.1,
            scalar-made e Integer h.0.1 (first _ _ raise _ k) t.2,
            scalar-made f Integer h.0.2 (first _ _ raise _ l) t.3,
            scalar-made g Integer h.0.3 (second _ _ raise _ l) t.4,
            b.0,
          ),
          two-deeper _ _ _ _ raise (two-deeper _ _ _ _ raise (deeper e Integer h.0.1 t.2.suits.0)
              (two-deeper _ _ _ _ raise (deeper f Integer h.0.2 t.3.suits.0) (deeper g Integer h.0.3 t.4.suits.0))) b.1,
        )
    statement-made (Label i) w h n a t = (t, omega arith)
    statement-made (GoTo line i) w h n a t = (t, omega arith)
    statement-made (Stop line) w h n a t = (t, omega arith)
    statement-made (Read line is) w h n a t =
        let s = made_of.input_items-made ds es also raise m suits keeps is w.variables h t.1 in
        ((t.0, s.0, room _ _ raise _ s.1 n), s.1)
    statement-made (Print line is) w h n a t =
        let s = made_of.output_items-made ds es also raise m suits keeps is w.variables h t.1 in
        ((t.0, s.0, room _ _ raise _ s.1 n), s.1)
    statement-made (Allocate line x vs) w h n a t =
        let s = made_of.BecomeScalars-made ds es also raise m suits keeps vs Integer h t.1.1 in (
          (
            t.0,
            (
              some-with (declared es x) _ _ (λ d e. e ∙ ap Later (sym (made_of.number_of_arguments-made ds es also raise m suits keeps vs))) (made_of.declared-also ds es also x _ t.1.0),
              s.kinds,
              room _ _ raise _ s.depth n,
            ),
          ),
          s.depth,
        )
    statement-made (Deallocate line x) w h n a t = ((t.0, made_of.declared-also ds es also x _ t.1), omega arith)

    arms-made : (arms : Arms) (w : Surroundings) → SuitsArms m suits arms → Fits (deepest_in_arms arms) → AreSuited w.variables → AreArms ds arms w
        → AreArms es (made_arms m arms) w × (deepest_in_arms (made_arms m arms) ≤ deepest_in_arms arms + raise)
    arms-made no_arms w h n a t = (tt, omega arith)
    arms-made (arm test body arms) w h n a t =
        let k = second _ _ raise _ n in
        let b = block-made body w h.1 (first _ _ raise _ k) a t.1 in
        let s = arms-made arms w h.2 (second _ _ raise _ k) a t.2 in (
          (scalar-made test Logical h.0 (first _ _ raise _ n) t.0, b.0, s.0),
          two-deeper _ _ _ _ raise (deeper test Logical h.0 t.0.suits.0) (two-deeper _ _ _ _ raise b.1 s.1),
        )

    pub block-made : (cs : Block) (w : Surroundings) → SuitsBlock m suits cs → Fits (deepest_in cs) → AreSuited w.variables → IsBlock ds cs w
        → IsBlock es (made_block m cs) w × (deepest_in (made_block m cs) ≤ deepest_in cs + raise)
    block-made no_statements w h n a t = (tt, omega arith)
    block-made (statement c cs) w h n a t =
        let s = statement-made c (before_labels (labels_of cs) w) h.0 (first _ _ raise _ n) a t.0 in
        let b = block-made cs w h.1 (second _ _ raise _ n) a t.1 in
        ((moved (made_statement m c) w cs s.0, b.0), two-deeper _ _ _ _ raise s.1 b.1)

pub made_block_makes : (m : Making) (b : Block) → MakesProfile m b (made_block m b)
made_block_makes m b suits p es raise keeps h t also declarations n =
    let s = block-made p.declarations es also raise m suits keeps b outermost h n tt t.statements in (
      record {
        name = t.name;
        declarations = declarations;
        statements = s.0;
        blocks = subst (λ (n : ℕ). n ≤ limits.block_depth90) (sym (blocks-made m b)) t.blocks;
        labels = rw (all_labels-made m b) t.labels;
        named = rw (all_labels-made m b, targets-made m b) t.named;
        few = rw (statements-made m b) t.few;
      },
      s.1,
    )
