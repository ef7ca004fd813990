-- The loops of a program of FORTRAN 77, and the parts that they are.
use Rattle.std.proofs.Common.{◌≡◌, refl, subst, sym, ◌⊎◌, inl, inr, ℕ, ◌≤◌, false, List, [], ◌∷◌, ◌++◌, Contains}
use Rattle.std.proofs.Common.{Option, Some, None}
use Rattle.std.specs.Option.{IsSomeAnd}
use Rattle.std.proofs.lemmas.List.Elements.{Contains-append_cases, Contains-append_left, Contains-append_right}
use Rattle.tree.specs.Plain.{Expression, Named, Reference, Statement, Assignment, Where, If, Do, Label, GoTo, Stop}
use Rattle.tree.specs.Plain.{Read, Print, Allocate, Deallocate, Arms, no_arms, arm, Block, no_statements, statement}
use Rattle.tree.specs.Plain.{Declaration}
use Rattle.tree.specs.declared.ops.Kind.TheVariants.{Logical}
use Rattle.meaning.specs.Blocks.{Surroundings}
use Rattle.meaning.specs.Labels.{IsWithoutRepeats, all_labels_in, all_labels_in_arms, all_labels_of}
use Rattle.meaning.specs.Blocks.{before_labels, labels_of, label_of, within_loop}
use Rattle.meaning.specs.Dialect.{Dialect}
use Rattle.meaning.specs.Profile77.{AreArms, AreDeclarations, IsAssignment, IsBlock, IsStatement}
use Rattle.meaning.specs.Reads.{names_in, names_in_subscripts}
use Rattle.meaning.specs.Typed77.{IsWhole, IsDoVariable}
use Rattle.meaning.specs.Typed.{declared}
use Rattle.rewrite.specs.Names.{uses_in, uses_in_arms, uses_in_block, uses_in_control, uses_in_statement}
use Rattle.components.specs.Lists.{Each}
use Rattle.components.proofs.ListLaws.{Each-append}
use Rattle.nest.specs.Plain.{parts}
use Rattle.find_nests.specs.nest_parts.Numbers.{next_loop_number, number_after, after_arms, after_block}
use Rattle.find_nests.specs.nest_parts.Statements.{branches_of, parts_of, parts_of_block}
use Rattle.find_nests.specs.Loops.{SourceLoop, SurroundedLoop, loops_in, loops_in_arms, loops_in_block}
use Rattle.meaning_laws.proofs.arrays.Members.{cases_of, nowhere}
use Rattle.meaning_laws.proofs.profiles.Lists.{here, there}
use Rattle.pass_laws.proofs.ReadyNests.Lists.{Each-weaker}
use Rattle.nest.specs.statement_loops.Names.{is_among}
use Rattle.pass_laws.proofs.FoundSources.Counters.{IsShort}
use Rattle.pass_laws.proofs.FoundSources.Lists.{Each-left, Each-right, outside}
use Rattle.pass_laws.proofs.FoundSources.Numbers.{next_small, after_small, after_arms_small, after_block_small}
use Rattle.pass_laws.proofs.FoundSources.PlainNames.{declared_short, plain, plain_subscripts}
use Rattle.pass_laws.proofs.FoundSources.Sound.{IsSoundStatement}
use Rattle.pass_laws.proofs.FoundSources.Symbols.{IsApart}
use Rattle.pass_laws.proofs.BranchSources.Sound.{AreSound, AreSoundBranches, sound_joined}

-- ---- labels

-- no label stands twice, and none of those that lie ahead stands among them
pub record AreOwn (ahead labels : List ℕ) : Type 0 where
  pub once : IsWithoutRepeats labels
  pub apart : (k : ℕ) → Contains ahead k → Contains labels k → ⊥

front_once : (xs ys : List ℕ) → IsWithoutRepeats (xs ++ ys) → IsWithoutRepeats xs
front_once [] ys h = tt
front_once (x ∷ xs) ys h = (λ c. h.0 (Contains-append_left xs ys x c), front_once xs ys h.1)

rest_once : (xs ys : List ℕ) → IsWithoutRepeats (xs ++ ys) → IsWithoutRepeats ys
rest_once [] ys h = h
rest_once (x ∷ xs) ys h = rest_once xs ys h.1

across : (xs ys : List ℕ) → IsWithoutRepeats (xs ++ ys) → (k : ℕ) → Contains xs k → Contains ys k → ⊥
across [] ys h k c d = absurd (none c)
  where
    none : Contains [] k → ⊥
    none c = nowhere k c
across (x ∷ xs) ys h k c d = by (cases_of x xs k c) (across xs ys h.1 k)
  where
    by : (x ≡ k) ⊎ Contains xs k → (Contains xs k → Contains ys k → ⊥) → ⊥
    by (inl e) more = h.0 (subst (Contains (xs ++ ys)) (sym e) (Contains-append_right xs ys k d))
    by (inr i) more = more i d

pub own_front : (ahead xs ys : List ℕ) → AreOwn ahead (xs ++ ys) → AreOwn ahead xs
own_front ahead xs ys h = record { once = front_once xs ys h.once; apart = λ k c d. h.apart k c (Contains-append_left xs ys k d) }

pub own_rest : (ahead xs ys : List ℕ) → AreOwn ahead (xs ++ ys) → AreOwn ahead ys
own_rest ahead xs ys h = record { once = rest_once xs ys h.once; apart = λ k c d. h.apart k c (Contains-append_right xs ys k d) }

own_label : (c : Statement) (k : ℕ) → Contains (label_of c) k → Contains (all_labels_of c) k
own_label (Assignment l mark left right) k h = h
own_label (Where l mark mask left right) k h = h
own_label (If l arms other) k h = absurd (nowhere k h)
own_label (Do l x a b c body) k h = absurd (nowhere k h)
own_label (Label n) k h = h
own_label (GoTo l n) k h = h
own_label (Stop l) k h = h
own_label (Read l is) k h = h
own_label (Print l is) k h = h
own_label (Allocate l x es) k h = h
own_label (Deallocate l x) k h = h

own_labels : (cs : Block) (k : ℕ) → Contains (labels_of cs) k → Contains (all_labels_in cs) k
own_labels no_statements k h = h
own_labels (statement c cs) k h = by (Contains-append_cases (label_of c) (labels_of cs) k h) (own_labels cs k)
  where
    by : Contains (label_of c) k ⊎ Contains (labels_of cs) k → (Contains (labels_of cs) k → Contains (all_labels_in cs) k) → Contains (all_labels_of c ++ all_labels_in cs) k
    by (inl i) more = Contains-append_left (all_labels_of c) (all_labels_in cs) k (own_label c k i)
    by (inr i) more = Contains-append_right (all_labels_of c) (all_labels_in cs) k (more i)

-- before a statement the labels behind it lie ahead
pub own_first : (ahead : List ℕ) (c : Statement) (cs : Block) → AreOwn ahead (all_labels_of c ++ all_labels_in cs) → AreOwn (labels_of cs ++ ahead) (all_labels_of c)
own_first ahead c cs h = record { once = front_once (all_labels_of c) (all_labels_in cs) h.once; apart = apart }
  where
    apart : (k : ℕ) → Contains (labels_of cs ++ ahead) k → Contains (all_labels_of c) k → ⊥
    apart k i d = by (Contains-append_cases (labels_of cs) ahead k i)
      where
        by : Contains (labels_of cs) k ⊎ Contains ahead k → ⊥
        by (inl e) = across (all_labels_of c) (all_labels_in cs) h.once k d (own_labels cs k e)
        by (inr e) = h.apart k e (Contains-append_left (all_labels_of c) (all_labels_in cs) k d)

-- ---- the loops of a program

pub record IsProper (ds : List Declaration) (q : SurroundedLoop) : Type 0 where
  pub round : Surroundings
  pub variable : IsDoVariable ds q.loop.loop.variable round.variables
  pub body : IsBlock ds q.loop.loop.body (within_loop q.loop.loop.variable round)
  pub before : q.loop.before ≤ 4294967295
  pub labels : AreOwn round.ahead (all_labels_in q.loop.loop.body)

module _ (ds : List Declaration) where
  mutual
    proper : (k : ℕ) (around : List SourceLoop) (c : Statement) (w : Surroundings) → k ≤ 4294967295 → IsStatement ds c w → AreOwn w.ahead (all_labels_of c) → Each (IsProper ds) (loops_in k around c)
    proper k around (Assignment l mark left right) w s h o = tt
    proper k around (Where l mark mask left right) w s h o = tt
    proper k around (If l arms other) w s h o =
        Each-append (IsProper ds) (loops_in_arms k around arms) (loops_in_block (after_arms k arms) around other)
        (proper_arms k around arms w s h.2 (own_front w.ahead (all_labels_in_arms arms) (all_labels_in other) o))
        (proper_block (after_arms k arms) around other w (after_arms_small k arms s) h.3 (own_rest w.ahead (all_labels_in_arms arms) (all_labels_in other) o))
    proper k around (Do l x a b c body) w s h o = (
      record { round = w; variable = h.1; body = h.5; before = s; labels = o },
      proper_block (next_loop_number k) (around ++ record { line = l; variable = x; first = a; last = b; step = c; body = body } ∷ []) body (within_loop x w) (next_small k s) h.5 o,
    )
    proper k around (Label n) w s h o = tt
    proper k around (GoTo l n) w s h o = tt
    proper k around (Stop l) w s h o = tt
    proper k around (Read l is) w s h o = tt
    proper k around (Print l is) w s h o = tt
    proper k around (Allocate l x es) w s h o = tt
    proper k around (Deallocate l x) w s h o = tt

    proper_arms : (k : ℕ) (around : List SourceLoop) (arms : Arms) (w : Surroundings) → k ≤ 4294967295 → AreArms ds arms w → AreOwn w.ahead (all_labels_in_arms arms) → Each (IsProper ds) (loops_in_arms k around arms)
    proper_arms k around no_arms w s h o = tt
    proper_arms k around (arm test body arms) w s h o =
        Each-append (IsProper ds) (loops_in_block k around body) (loops_in_arms (after_block k body) around arms)
        (proper_block k around body w s h.1 (own_front w.ahead (all_labels_in body) (all_labels_in_arms arms) o))
        (proper_arms (after_block k body) around arms w (after_block_small k body s) h.2 (own_rest w.ahead (all_labels_in body) (all_labels_in_arms arms) o))

    pub proper_block : (k : ℕ) (around : List SourceLoop) (b : Block) (w : Surroundings) → k ≤ 4294967295 → IsBlock ds b w → AreOwn w.ahead (all_labels_in b) → Each (IsProper ds) (loops_in_block k around b)
    proper_block k around no_statements w s h o = tt
    proper_block k around (statement c cs) w s h o =
        Each-append (IsProper ds) (loops_in k around c) (loops_in_block (number_after k c) around cs)
        (proper k around c (before_labels (labels_of cs) w) s h.0 (own_first w.ahead c cs o))
        (proper_block (number_after k c) around cs w (after_small k c s) h.1 (own_rest w.ahead (all_labels_of c) (all_labels_in cs) o))

-- ---- the parts of a block

-- a name that none of these is, where they are among those of the loops round it
free_of : (vs xs : List (List ℕ)) (x : List ℕ) → Each (Contains xs) vs → ¬ Contains xs x → is_among vs x ≡ false
free_of vs xs x h free = outside (Contains xs) vs x (λ y c e. free (subst (Contains xs) e c)) h

module _ (d : Dialect) (ds : List Declaration) (are : AreDeclarations d ds) (symbols : List (List ℕ)) where
  -- `vs` are among the variables of the loops round it
  abbrev Within : List (List ℕ) → Surroundings → Type 0
  Within vs w = Each (Contains w.variables) vs

  within_more : (vs : List (List ℕ)) (x : List ℕ) (w : Surroundings) → Within vs w → Within (vs ++ x ∷ []) (within_loop x w)
  within_more vs x w h =
      Each-append (Contains (x ∷ w.variables)) vs (x ∷ [])
      (Each-weaker (Contains w.variables) (Contains (x ∷ w.variables)) vs (λ y c. there x w.variables y c) h) (here x w.variables, tt)

  abbrev Assigns : Reference → Expression → Declaration → Type 0
  Assigns left right c = IsWhole ds (Named left.name left.subscripts) c.kind × IsWhole ds right c.kind

  assigned : (line : ℕ) (left : Reference) (right : Expression) (w : Surroundings) (vs : List (List ℕ)) → Within vs w → IsAssignment ds left right w
      → is_among symbols left.name ≡ false → IsSoundStatement symbols vs (record { line = line; guard = None; left = left; right = right })
  assigned line left right w vs i h apart = by (declared ds left.name) (declared_short d ds are left.name (Assigns left right)) h.0
    where
      by : (o : Option Declaration) → (IsSomeAnd o (Assigns left right) → IsShort left.name) → IsSomeAnd o (Assigns left right)
          → IsSoundStatement symbols vs (record { line = line; guard = None; left = left; right = right })
      by None short g = absurd g
      by (Some c) short g =
          let l = plain_subscripts d ds are left.subscripts g.0.suits.1 in
          let r = plain d ds are right c.kind g.1.suits in
          record {
            straight = record { unguarded = refl; left = l.0; right = r.0 };
            short = (short g, Each-append IsShort (names_in_subscripts left.subscripts) (names_in right) l.1 r.1);
            free = free_of vs w.variables left.name i h.1;
            apart = apart;
          }

  mutual
    sound : (k : ℕ) (c : Statement) (w : Surroundings) (vs : List (List ℕ)) → k ≤ 4294967295 → Within vs w → IsStatement ds c w
        → Each (IsApart symbols) (uses_in_statement c) → AreSound symbols vs (parts (parts_of k c))
    sound k (Assignment l mark left right) w vs s i h u = (assigned l left right w vs i h.2 (u.0 refl), tt)
    sound k (Where l mark mask left right) w vs s i h u = absurd h
    sound k (If l arms other) w vs s i h u = (
      (
        sound_arms k arms w vs s i h.2 (Each-left (IsApart symbols) (uses_in_arms arms) (uses_in_block other) u),
        sound_block (after_arms k arms) other w vs (after_arms_small k arms s) i h.3 (Each-right (IsApart symbols) (uses_in_arms arms) (uses_in_block other) u),
      ),
      tt,
    )
    sound k (Do l x a b c body) w vs s i h u = (
      (
        record {
          short = declared_short d ds are x _ h.1.integer.0;
          free = free_of vs w.variables x i h.1.free;
          apart = u.0 refl;
          number = next_small k s;
        },
        sound_block (next_loop_number k) body (within_loop x w) (vs ++ x ∷ []) (next_small k s) (within_more vs x w i) h.5
            (Each-right (IsApart symbols) (uses_in_control x a b c) (uses_in_block body) u),
      ),
      tt,
    )
    sound k (Label n) w vs s i h u = (tt, tt)
    sound k (GoTo l n) w vs s i h u = (tt, tt)
    sound k (Stop l) w vs s i h u = tt
    sound k (Read l is) w vs s i h u = tt
    sound k (Print l is) w vs s i h u = tt
    sound k (Allocate l x es) w vs s i h u = absurd h
    sound k (Deallocate l x) w vs s i h u = absurd h

    sound_arms : (k : ℕ) (arms : Arms) (w : Surroundings) (vs : List (List ℕ)) → k ≤ 4294967295 → Within vs w → AreArms ds arms w
        → Each (IsApart symbols) (uses_in_arms arms) → AreSoundBranches symbols vs (branches_of k arms)
    sound_arms k no_arms w vs s i h u = tt
    sound_arms k (arm test body arms) w vs s i h u =
        let t = plain d ds are test Logical h.0.suits in
        let front = Each-left (IsApart symbols) (uses_in test ++ uses_in_block body) (uses_in_arms arms) u in (
          record { plain = t.0; short = t.1 },
          sound_block k body w vs s i h.1 (Each-right (IsApart symbols) (uses_in test) (uses_in_block body) front),
          sound_arms (after_block k body) arms w vs (after_block_small k body s) i h.2 (Each-right (IsApart symbols) (uses_in test ++ uses_in_block body) (uses_in_arms arms) u),
        )

    pub sound_block : (k : ℕ) (b : Block) (w : Surroundings) (vs : List (List ℕ)) → k ≤ 4294967295 → Within vs w → IsBlock ds b w
        → Each (IsApart symbols) (uses_in_block b) → AreSound symbols vs (parts (parts_of_block k b))
    sound_block k no_statements w vs s i h u = tt
    sound_block k (statement c cs) w vs s i h u =
        sound_joined symbols vs (parts_of k c) (parts_of_block (number_after k c) cs)
        (sound k c (before_labels (labels_of cs) w) vs s i h.0 (Each-left (IsApart symbols) (uses_in_statement c) (uses_in_block cs) u))
        (sound_block (number_after k c) cs w vs (after_small k c s) i h.1 (Each-right (IsApart symbols) (uses_in_statement c) (uses_in_block cs) u))
