-- The loops of a program of FORTRAN 77, and the parts that they are where loops and assignments alone stand in them.
use Rattle.std.proofs.Common.{◌≡◌, refl, subst, ℕ, ◌≤◌, false, List, [], ◌∷◌, ◌++◌, Contains, Option, Some, None}
use Rattle.std.specs.Option.{IsSomeAnd}
use Rattle.tree.specs.Plain.{Expression, Named, Reference, Statement, Assignment, Where, If, Do, Label, GoTo, Stop}
use Rattle.tree.specs.Plain.{Read, Print, Allocate, Deallocate, Arms, no_arms, arm, Block, no_statements, statement}
use Rattle.tree.specs.Plain.{Declaration}
use Rattle.meaning.specs.Blocks.{Surroundings, within_loop, before_labels, labels_of}
use Rattle.meaning.specs.Dialect.{Dialect}
use Rattle.meaning.specs.Profile77.{AreDeclarations, IsAssignment, IsStatement, AreArms, IsBlock}
use Rattle.meaning.specs.Reads.{names_in, names_in_subscripts}
use Rattle.meaning.specs.Typed77.{IsWhole, IsDoVariable}
use Rattle.meaning.specs.Typed.{declared}
use Rattle.rewrite.specs.Names.{uses_in_statement, uses_in_block, uses_in_control}
use Rattle.components.specs.Lists.{Each}
use Rattle.components.proofs.ListLaws.{Each-append}
use Rattle.nest.specs.Plain.{parts}
use Rattle.find_nests.specs.nest_parts.Numbers.{next_loop_number, number_after, after_arms, after_block}
use Rattle.find_nests.specs.nest_parts.Statements.{parts_of, parts_of_block}
use Rattle.find_nests.specs.Loops.{SourceLoop, SurroundedLoop, loops_in, loops_in_arms, loops_in_block}
use Rattle.meaning_laws.proofs.profiles.Lists.{here, there}
use Rattle.pass_laws.proofs.ReadyNests.Lists.{Each-weaker}
use Rattle.nest.specs.statement_loops.Names.{is_among}
use Rattle.pass_laws.specs.found_sources.Alone.{HaveLoopsAlone}
use Rattle.pass_laws.proofs.FoundSources.Counters.{IsShort}
use Rattle.pass_laws.proofs.FoundSources.PlainNames.{declared_short, plain, plain_subscripts}
use Rattle.pass_laws.proofs.FoundSources.Lists.{Each-left, Each-right, outside, alone_left, alone_right}
use Rattle.pass_laws.proofs.FoundSources.Numbers.{next_small, after_small, after_arms_small, after_block_small}
use Rattle.pass_laws.proofs.FoundSources.Sound.{IsSoundStatement, AreSound, sound_joined}
use Rattle.pass_laws.proofs.FoundSources.Symbols.{IsApart}

-- ---- the loops of a program

pub record IsProper (ds : List Declaration) (q : SurroundedLoop) : Type 0 where
  pub round : Surroundings
  pub variable : IsDoVariable ds q.loop.loop.variable round.variables
  pub body : IsBlock ds q.loop.loop.body (within_loop q.loop.loop.variable round)
  pub before : q.loop.before ≤ 4294967295

module _ (ds : List Declaration) where
  mutual
    proper : (k : ℕ) (around : List SourceLoop) (c : Statement) (w : Surroundings) → k ≤ 4294967295 → IsStatement ds c w → Each (IsProper ds) (loops_in k around c)
    proper k around (Assignment l mark left right) w s h = tt
    proper k around (Where l mark mask left right) w s h = tt
    proper k around (If l arms other) w s h =
        Each-append (IsProper ds) (loops_in_arms k around arms) (loops_in_block (after_arms k arms) around other)
        (proper_arms k around arms w s h.2) (proper_block (after_arms k arms) around other w (after_arms_small k arms s) h.3)
    proper k around (Do l x a b c body) w s h = (
      record { round = w; variable = h.1; body = h.5; before = s },
      proper_block (next_loop_number k) (around ++ record { line = l; variable = x; first = a; last = b; step = c; body = body } ∷ []) body (within_loop x w) (next_small k s) h.5,
    )
    proper k around (Label n) w s h = tt
    proper k around (GoTo l n) w s h = tt
    proper k around (Stop l) w s h = tt
    proper k around (Read l is) w s h = tt
    proper k around (Print l is) w s h = tt
    proper k around (Allocate l x es) w s h = tt
    proper k around (Deallocate l x) w s h = tt

    proper_arms : (k : ℕ) (around : List SourceLoop) (arms : Arms) (w : Surroundings) → k ≤ 4294967295 → AreArms ds arms w → Each (IsProper ds) (loops_in_arms k around arms)
    proper_arms k around no_arms w s h = tt
    proper_arms k around (arm test body arms) w s h =
        Each-append (IsProper ds) (loops_in_block k around body) (loops_in_arms (after_block k body) around arms)
        (proper_block k around body w s h.1) (proper_arms (after_block k body) around arms w (after_block_small k body s) h.2)

    pub proper_block : (k : ℕ) (around : List SourceLoop) (b : Block) (w : Surroundings) → k ≤ 4294967295 → IsBlock ds b w → Each (IsProper ds) (loops_in_block k around b)
    proper_block k around no_statements w s h = tt
    proper_block k around (statement c cs) w s h =
        Each-append (IsProper ds) (loops_in k around c) (loops_in_block (number_after k c) around cs)
        (proper k around c (before_labels (labels_of cs) w) s h.0) (proper_block (number_after k c) around cs w (after_small k c s) h.1)

-- ---- the parts of a block

-- a name that none of these is, where they are among those of the loops round it
free_of : (vs xs : List (List ℕ)) (x : List ℕ) → Each (Contains xs) vs → ¬ Contains xs x → is_among vs x ≡ false
free_of vs xs x h free = outside (Contains xs) vs x (λ y c e. free (subst (Contains xs) e c)) h

module _ (d : Dialect) (ds : List Declaration) (are : AreDeclarations d ds) (symbols : List (List ℕ)) where
  -- `vs` are among the variables of the loops round it
  abbrev Within : List (List ℕ) → Surroundings → Type 0
  Within vs w = Each (Contains w.variables) vs

  within_more : (vs : List (List ℕ)) (x : List ℕ) (w : Surroundings) → Within vs w → Within (vs ++ x ∷ []) (within_loop x w)
  within_more vs x w h =
      Each-append (Contains (x ∷ w.variables)) vs (x ∷ [])
      (Each-weaker (Contains w.variables) (Contains (x ∷ w.variables)) vs (λ y c. there x w.variables y c) h) (here x w.variables, tt)

  abbrev Assigns : Reference → Expression → Declaration → Type 0
  Assigns left right c = IsWhole ds (Named left.name left.subscripts) c.kind × IsWhole ds right c.kind

  assigned : (line : ℕ) (left : Reference) (right : Expression) (w : Surroundings) (vs : List (List ℕ)) → Within vs w → IsAssignment ds left right w
      → is_among symbols left.name ≡ false → IsSoundStatement symbols vs (record { line = line; guard = None; left = left; right = right })
  assigned line left right w vs i h apart = by (declared ds left.name) (declared_short d ds are left.name (Assigns left right)) h.0
    where
      by : (o : Option Declaration) → (IsSomeAnd o (Assigns left right) → IsShort left.name) → IsSomeAnd o (Assigns left right)
          → IsSoundStatement symbols vs (record { line = line; guard = None; left = left; right = right })
      by None short g = absurd g
      by (Some c) short g =
          let l = plain_subscripts d ds are left.subscripts g.0.suits.1 in
          let r = plain d ds are right c.kind g.1.suits in
          record {
            straight = record { unguarded = refl; left = l.0; right = r.0 };
            short = (short g, Each-append IsShort (names_in_subscripts left.subscripts) (names_in right) l.1 r.1);
            free = free_of vs w.variables left.name i h.1;
            apart = apart;
          }

  mutual
    sound : (k : ℕ) (c : Statement) (w : Surroundings) (vs : List (List ℕ)) → k ≤ 4294967295 → Within vs w → IsStatement ds c w
        → Each (IsApart symbols) (uses_in_statement c) → HaveLoopsAlone (parts (parts_of k c)) → AreSound symbols vs (parts (parts_of k c))
    sound k (Assignment l mark left right) w vs s i h u alone = (assigned l left right w vs i h.2 (u.0 refl), tt)
    sound k (Where l mark mask left right) w vs s i h u alone = absurd h
    sound k (If l arms other) w vs s i h u alone = absurd alone.0
    sound k (Do l x a b c body) w vs s i h u alone = (
      (
        record {
          short = declared_short d ds are x _ h.1.integer.0;
          free = free_of vs w.variables x i h.1.free;
          apart = u.0 refl;
          number = next_small k s;
        },
        sound_block (next_loop_number k) body (within_loop x w) (vs ++ x ∷ []) (next_small k s) (within_more vs x w i) h.5
            (Each-right (IsApart symbols) (uses_in_control x a b c) (uses_in_block body) u) alone.0,
      ),
      tt,
    )
    sound k (Label n) w vs s i h u alone = absurd alone.0
    sound k (GoTo l n) w vs s i h u alone = absurd alone.0
    sound k (Stop l) w vs s i h u alone = tt
    sound k (Read l is) w vs s i h u alone = tt
    sound k (Print l is) w vs s i h u alone = tt
    sound k (Allocate l x es) w vs s i h u alone = absurd h
    sound k (Deallocate l x) w vs s i h u alone = absurd h

    pub sound_block : (k : ℕ) (b : Block) (w : Surroundings) (vs : List (List ℕ)) → k ≤ 4294967295 → Within vs w → IsBlock ds b w
        → Each (IsApart symbols) (uses_in_block b) → HaveLoopsAlone (parts (parts_of_block k b)) → AreSound symbols vs (parts (parts_of_block k b))
    sound_block k no_statements w vs s i h u alone = tt
    sound_block k (statement c cs) w vs s i h u alone =
        sound_joined symbols vs (parts_of k c) (parts_of_block (number_after k c) cs)
        (sound k c (before_labels (labels_of cs) w) vs s i h.0 (Each-left (IsApart symbols) (uses_in_statement c) (uses_in_block cs) u)
        (alone_left (parts_of k c) (parts_of_block (number_after k c) cs) alone))
        (sound_block (number_after k c) cs w vs (after_small k c s) i h.1 (Each-right (IsApart symbols) (uses_in_statement c) (uses_in_block cs) u)
        (alone_right (parts_of k c) (parts_of_block (number_after k c) cs) alone))
