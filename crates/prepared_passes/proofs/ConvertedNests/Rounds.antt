-- Loops that stand in a program are statements of the profile, in loops with variables that FORTRAN 77 has; numbers of
-- nests.
use Rattle.std.proofs.Common.{◌≡◌, ◌⊎◌, inl, inr, ap, refl, subst, ℕ, ◌≤◌, Option, Some, None, List, [], ◌∷◌, ◌++◌, length}
use Rattle.std.proofs.Common.{Contains, arith}
use Rattle.std.specs.Option.{IsSomeAnd}
use Rattle.std.specs.List.{All}
use Rattle.std.proofs.lemmas.List.Elements.{All-nil, All-cons, All-append, All-contains}
use Rattle.tree.specs.Plain.{Statement, Assignment, Where, If, Do, Label, GoTo, Stop, Read, Print, Allocate}
use Rattle.tree.specs.Plain.{Deallocate, Arms, no_arms, arm, Block, no_statements, no_subscripts, statement, Declaration}
use Rattle.tree.specs.Plain.{Program}
use Rattle.meaning.specs.Blocks.{Surroundings, before_labels, labels_of, outermost, within_loop}
use Rattle.meaning.specs.Dialect.{fortran77}
use Rattle.tree.specs.declared.width.Width.{Width}
use Rattle.meaning.specs.Profile77.{IsDeclaration, IsStatement, AreArms, IsBlock, IsProgram77}
use Rattle.meaning.specs.Typed.{declared, dimensions, number_of_subscripts}
use Rattle.meaning.specs.Typed77.{IsDoVariable}
use Rattle.meaning_laws.proofs.profiles.Lists.{all_at, cases_of, nowhere}
use Rattle.meaning_laws.proofs.profiles.Names.{found}
use Rattle.pass_laws.proofs.PreparedNests.Normal.SourceNames.{source_name}
use Rattle.pass_laws.proofs.FoundSources.Numbers.{next_small}
use Rattle.find_nests.specs.Found.{InNest, found_among, found_as, nest_of_loop, nests_with}
use Rattle.find_nests.specs.LookedAt.{reason_of}
use Rattle.find_nests.specs.declared.reasons.Reason.{Reason}
use Rattle.nest.specs.Plain.{Nest}
use Rattle.tree.specs.Names.{IsSourceName}
use Rattle.tree.specs.declared.ops.Kind.TheVariants.{Integer}
use Rattle.find_nests.specs.nest_parts.Numbers.{next_loop_number, number_after, after_arms, after_block}
use Rattle.find_nests.specs.Loops.{Numbered, SourceLoop, SurroundedLoop, as_statement, loops_in, loops_in_arms, loops_in_block}

variable_name : (width : Width) (p : Program) → IsProgram77 (fortran77 width) p → (x : List ℕ) (around : List (List ℕ))
    → IsDoVariable p.declarations x around → IsSourceName x
variable_name width p is x around h = by (declared p.declarations x) refl h.integer.0
  where
    by : (o : Option Declaration) → declared p.declarations x ≡ o
        → IsSomeAnd o (λ d. (Integer ≡ d.kind) × (number_of_subscripts no_subscripts ≡ length (dimensions d.extent))) → IsSourceName x
    by None e k = absurd k
    by (Some d) e k =
        let f = found p.declarations x d e in
        subst IsSourceName f.name (source_name d.name (all_at (IsDeclaration (fortran77 width)) p.declarations d is.declarations.each f.among).name)

module _ (width : Width) (p : Program) (program : IsProgram77 (fortran77 width) p) where
  abbrev ds : List Declaration
  ds = p.declarations

  pub record Stands (l : SurroundedLoop) : Type 0 where
    pub round : Surroundings
    pub named : All IsSourceName round.variables
    pub is : IsStatement ds (as_statement l.loop.loop) round

  abbrev AllStand : List SurroundedLoop → Type 0
  AllStand ls = All Stands ls

  mutual
    in_statement : (c : Statement) (k : ℕ) (around : List SourceLoop) (w : Surroundings) → All IsSourceName w.variables → IsStatement ds c w → AllStand (loops_in k around c)
    in_statement (Assignment line mark left right) k around w v h = All-nil Stands
    in_statement (Where line mark mask left right) k around w v h = All-nil Stands
    in_statement (If line arms other) k around w v h =
        All-append Stands (loops_in_arms k around arms) (loops_in_block (after_arms k arms) around other) (in_arms arms k around w v h.2) (in_block other (after_arms k arms) around w v h.3)
    in_statement (Do line x a b c body) k around w v h =
        let l : SourceLoop = record { line = line; variable = x; first = a; last = b; step = c; body = body } in
        All-cons Stands (record { around = around; loop = record { before = k; loop = l } }) (loops_in_block (next_loop_number k) (around ++ l ∷ []) body)
        (record { round = w; named = v; is = h })
        (in_block body (next_loop_number k) (around ++ l ∷ []) (within_loop x w)
        (All-cons IsSourceName x w.variables (variable_name width p program x w.variables h.1) v) h.5)
    in_statement (Label n) k around w v h = All-nil Stands
    in_statement (GoTo line n) k around w v h = All-nil Stands
    in_statement (Stop line) k around w v h = All-nil Stands
    in_statement (Read line is) k around w v h = All-nil Stands
    in_statement (Print line is) k around w v h = All-nil Stands
    in_statement (Allocate line x es) k around w v h = All-nil Stands
    in_statement (Deallocate line x) k around w v h = All-nil Stands

    in_arms : (arms : Arms) (k : ℕ) (around : List SourceLoop) (w : Surroundings) → All IsSourceName w.variables → AreArms ds arms w → AllStand (loops_in_arms k around arms)
    in_arms no_arms k around w v h = All-nil Stands
    in_arms (arm test body arms) k around w v h =
        All-append Stands (loops_in_block k around body) (loops_in_arms (after_block k body) around arms) (in_block body k around w v h.1) (in_arms arms (after_block k body) around w v h.2)

    in_block : (b : Block) (k : ℕ) (around : List SourceLoop) (w : Surroundings) → All IsSourceName w.variables → IsBlock ds b w → AllStand (loops_in_block k around b)
    in_block no_statements k around w v h = All-nil Stands
    in_block (statement c cs) k around w v h =
        All-append Stands (loops_in k around c) (loops_in_block (number_after k c) around cs) (in_statement c k around (before_labels (labels_of cs) w) v h.0) (in_block cs (number_after k c) around w v h.1)

  pub loop_stands : (l : SurroundedLoop) → Contains (loops_in_block 0 [] p.body) l → Stands l
  loop_stands l c =
      All-contains Stands (loops_in_block 0 [] p.body) l
      (in_block p.body 0 [] outermost (All-nil IsSourceName) program.statements) c

-- ---- numbers of nests

pub nest_number : (p : Program) (k : ℕ) (ls : List Numbered) (m : Nest) → k ≤ 4294967295
    → Contains (found_among p k ls) (InNest m) → m.number ≤ 4294967295
nest_number p k [] m small h = absurd (nowhere (InNest m) h)
nest_number p k (l ∷ ls) m small h =
    let reason = reason_of p.declarations l.loop in
    by reason (cases_of (found_as p k l reason) (found_among p (nests_with k reason) ls) (InNest m) h)
    (λ i. nest_number p (nests_with k reason) ls m (nests_small reason) i)
  where
    nests_small : (o : Option Reason) → nests_with k o ≤ 4294967295
    nests_small None = next_small k small
    nests_small (Some r) = small

    by : (o : Option Reason) → (found_as p k l o ≡ InNest m) ⊎ Contains (found_among p (nests_with k o) ls) (InNest m)
        → (Contains (found_among p (nests_with k o) ls) (InNest m) → m.number ≤ 4294967295) → m.number ≤ 4294967295
    by None (inl e) rest =
        let s : nest_of_loop p (next_loop_number k) l ≡ m = cc in
        let same = ap (λ (n : Nest). n.number) s in
        let fits = next_small k small in
        omega (arith, same, fits)
    by (Some r) (inl e) rest = let no : ⊥ = cc in absurd no
    by o (inr i) rest = rest i
