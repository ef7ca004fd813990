-- Each nest that was found has a nest with loops from 1 by 1.
use mathlib.Core.Path.{ap₂}
use Rattle.std.proofs.Common.{◌≡◌, refl, sym, ap, ◌∙◌, subst, ℕ, Bool, true, false, cond, not, ◌&&◌, ◌||◌, List, [], ◌∷◌, ◌++◌, map, filter, length, Option, Some, None, Contains}
use Rattle.std.specs.Prelude.{IsSome, is_some}
use Rattle.std.specs.List.{list_all, list_any}
use Rattle.std.specs.Option.{option_map}
use Rattle.std.specs.Str.{bytes_eq}
use Rattle.std.proofs.lemmas.Slice.Eq.{bytes_eq-Decides}
use Rattle.tree.specs.Plain.{Program, Statement, Assignment, Where, If, Do, Label as Label', GoTo, Stop, Read, Print, Allocate, Deallocate, Arms, no_arms, arm, Block, no_statements, statement, Declaration}
use Rattle.meaning.specs.Blocks.{Surroundings, outermost, within_loop, before_labels, labels_of}
use Rattle.meaning.specs.Profile77.{IsStatement, AreArms, IsBlock}
use Rattle.rewrite.specs.Names.{names_written_in}
use Rattle.linear_forms.proofs.Sizes.{both}
use Rattle.meaning_laws.proofs.profiles.Lists.{here, there}
use Rattle.components.specs.Lists.{Each}
use Rattle.components.proofs.ListLaws.{Each-append}
use Rattle.nest.specs.Plain.{Loop, Guarded, Nest, Part, Run, Turns, Choice, Label, Jump, Parts, no_parts, part, parts, Branches, no_branches, branch}
use Rattle.nest_reasons.specs.Symbols.{is_integer_scalar, is_symbol, symbols_of}
use Rattle.nest_reasons.specs.declared.flaws.Flaw.TheVariants as flaws
use Rattle.find_nests.specs.nest_parts.Numbers.{next_loop_number, number_after, after_arms, after_block}
use Rattle.find_nests.specs.nest_parts.Statements.{source_loop, parts_of, branches_of, parts_of_block}
use Rattle.find_nests.specs.bound_limits.Walks.{any_leaves}
use Rattle.find_nests.specs.declared.reasons.Reason.{Reason}
use Rattle.find_nests.specs.declared.reasons.Reason.TheVariants.{Bound, Step as Step', Deep}
use Rattle.find_nests.specs.WalkedReasons.{finds, finds_flaw}
use Rattle.find_nests.specs.Loops.{SourceLoop, Numbered, SurroundedLoop, as_statement, loops_in, loops_in_arms, loops_in_block}
use Rattle.find_nests.specs.LookedAt.{reason_of}
use Rattle.find_nests.specs.Found.{body_of, nest_of_loop}
use Rattle.find_nests.proofs.FoundLaws.{found_nest_is_loop, no_reason_holds}
use Rattle.find_nests.proofs.ReasonWalks.{finds_is}
use Rattle.last_values.specs.normal_forms.NormalLoops.{normal_loop}
use Rattle.last_values.specs.normal_forms.LastValues.{have_plain_trips}
use Rattle.last_values.specs.declared.normal_forms.loops.NormalLoop.{NormalLoop}
use Rattle.nest.specs.statement_loops.Names.{is_among}
use Rattle.last_values.specs.Occurrences.{stands_in, stands_outside_in_each, occurs_only_within}
use Rattle.last_values.specs.Behind.{are_within, ends_behind, may_end_behind, stands_behind}
use Rattle.last_values.specs.ValuesBehind.{values_behind}
use Rattle.last_values.specs.PartsInPlace.{parts_before, parts_behind}
use Rattle.last_values.specs.declared.behind.NestedLoop.{NestedLoop}
use Rattle.normal_loops.specs.Bodies.{normal_turns, normal_part, normal_parts}
use Rattle.normal_loops.specs.Counting.{counting}
use Rattle.normal_loops.specs.Loops.{with_loop, nested, nested_loops, nested_in_parts, nested_in_branches}
use Rattle.normal_loops.specs.Normal.{is_normal, are_normal}
use Rattle.normal_loops.specs.Normalised.{with_body, only_one, with_loops, normalised}
use Rattle.pass_laws.proofs.ReadyNests.Lists.{Each-Contains}
use Rattle.pass_laws.proofs.ReadyNests.LoopForms.{HaveZeros, normal_loop_is}
use Rattle.pass_laws.proofs.ReadyNests.NormalTrips.{zeros_more}
use Rattle.pass_laws.proofs.ReadyNests.Walk.{EachIn, EachInParts, EachInBranches}
use Rattle.pass_laws.specs.normal_nests.There.{NormalisedIsThere}
use Rattle.pass_laws.proofs.NormalNests.Alone.{bounds_alone, forms_of_alone}
use Rattle.pass_laws.proofs.NormalNests.LastForms.{HasForms}
use Rattle.pass_laws.proofs.NormalNests.Names.{free_form}
use Rattle.pass_laws.proofs.NormalNests.Walks.{normal_alone}

-- ---- loops in a loop have other variables

abbrev any_statement : Guarded → Type 0
any_statement s = Unit {0}

abbrev Other : List ℕ → Loop → Type 0
Other v l = bytes_eq l.variable v ≡ false

module _ (ds : List Declaration) (v : List ℕ) where
  other : (x : List ℕ) (xs : List (List ℕ)) → Contains xs v → ¬ Contains xs x → bytes_eq x v ≡ false
  other x xs h free = by (bytes_eq x v) refl
    where
      by : (b : Bool) → bytes_eq x v ≡ b → b ≡ false
      by true e = absurd (free (subst (Contains xs) (sym ((bytes_eq-Decides x v).0 e)) h))
      by false e = refl

  followed : (ps qs : List Part) → EachInParts any_statement (Other v) (parts ps) → EachInParts any_statement (Other v) (parts qs) → EachInParts any_statement (Other v) (parts (ps ++ qs))
  followed [] qs h k = k
  followed (p ∷ ps) qs h k = (h.0, followed ps qs h.1 k)

  mutual
    others : (k : ℕ) (c : Statement) (w : Surroundings) → Contains w.variables v → IsStatement ds c w → EachInParts any_statement (Other v) (parts (parts_of k c))
    others k (Assignment l mark left right) w i h = (tt, tt)
    others k (Where l mark mask left right) w i h = absurd h
    others k (If l arms rest) w i h = ((others_in_arms k arms w i h.2, others_in_block (after_arms k arms) rest w i h.3), tt)
    others k (Do l x a b c body) w i h = ((other x w.variables i h.1.free, others_in_block (next_loop_number k) body (within_loop x w) (there x w.variables v i) h.5), tt)
    others k (Label' n) w i h = (tt, tt)
    others k (GoTo l n) w i h = (tt, tt)
    others k (Stop l) w i h = tt
    others k (Read l is) w i h = tt
    others k (Print l is) w i h = tt
    others k (Allocate l x es) w i h = absurd h
    others k (Deallocate l x) w i h = absurd h

    others_in_arms : (k : ℕ) (arms : Arms) (w : Surroundings) → Contains w.variables v → AreArms ds arms w → EachInBranches any_statement (Other v) (branches_of k arms)
    others_in_arms k no_arms w i h = tt
    others_in_arms k (arm test body arms) w i h = (others_in_block k body w i h.1, others_in_arms (after_block k body) arms w i h.2)

    others_in_block : (k : ℕ) (b : Block) (w : Surroundings) → Contains w.variables v → IsBlock ds b w → EachInParts any_statement (Other v) (parts (parts_of_block k b))
    others_in_block k no_statements w i h = tt
    others_in_block k (statement c cs) w i h =
        followed (parts_of k c) (parts_of_block (number_after k c) cs) (others k c (before_labels (labels_of cs) w) i h.0) (others_in_block (number_after k c) cs w i h.1)

-- ---- the loops of a program

record IsProper (ds : List Declaration) (q : SurroundedLoop) : Type 0 where
  round : Surroundings
  body : IsBlock ds q.loop.loop.body (within_loop q.loop.loop.variable round)

module _ (ds : List Declaration) where
  mutual
    proper : (k : ℕ) (around : List SourceLoop) (c : Statement) (w : Surroundings) → IsStatement ds c w → Each (IsProper ds) (loops_in k around c)
    proper k around (Assignment l mark left right) w h = tt
    proper k around (Where l mark mask left right) w h = tt
    proper k around (If l arms rest) w h =
        Each-append (IsProper ds) (loops_in_arms k around arms) (loops_in_block (after_arms k arms) around rest)
        (proper_arms k around arms w h.2) (proper_block (after_arms k arms) around rest w h.3)
    proper k around (Do l x a b c body) w h = (
      record { round = w; body = h.5 },
      proper_block (next_loop_number k) (around ++ record { line = l; variable = x; first = a; last = b; step = c; body = body } ∷ []) body (within_loop x w) h.5,
    )
    proper k around (Label' n) w h = tt
    proper k around (GoTo l n) w h = tt
    proper k around (Stop l) w h = tt
    proper k around (Read l is) w h = tt
    proper k around (Print l is) w h = tt
    proper k around (Allocate l x es) w h = tt
    proper k around (Deallocate l x) w h = tt

    proper_arms : (k : ℕ) (around : List SourceLoop) (arms : Arms) (w : Surroundings) → AreArms ds arms w → Each (IsProper ds) (loops_in_arms k around arms)
    proper_arms k around no_arms w h = tt
    proper_arms k around (arm test body arms) w h =
        Each-append (IsProper ds) (loops_in_block k around body) (loops_in_arms (after_block k body) around arms)
        (proper_block k around body w h.1) (proper_arms (after_block k body) around arms w h.2)

    proper_block : (k : ℕ) (around : List SourceLoop) (b : Block) (w : Surroundings) → IsBlock ds b w → Each (IsProper ds) (loops_in_block k around b)
    proper_block k around no_statements w h = tt
    proper_block k around (statement c cs) w h =
        Each-append (IsProper ds) (loops_in k around c) (loops_in_block (number_after k c) around cs)
        (proper k around c (before_labels (labels_of cs) w) h.0) (proper_block (number_after k c) around cs w h.1)

-- ---- which loops may end behind all loops

all_joined : (p : NestedLoop → Bool) (xs ys : List NestedLoop) → list_all p xs ≡ true → list_all p ys ≡ true → list_all p (xs ++ ys) ≡ true
all_joined p [] ys h k = k
all_joined p (x ∷ xs) ys h k = let b = both (p x) (list_all p xs) h in ap (λ t. t && list_all p (xs ++ ys)) b.0 ∙ all_joined p xs ys b.1 k

module _ (symbols : List (List ℕ)) (v : List ℕ) where
  others_may : (round : List NormalLoop) (l : Loop) (o : Option NormalLoop) → normal_loop symbols round l ≡ o → HaveZeros (length round) round → bytes_eq l.variable v ≡ false
      → list_all (may_end_behind (length symbols) v) (nested round o) ≡ true
  others_may round l None e z h = refl
  others_may round l (Some r) e z h =
      let is = normal_loop_is symbols round l r z e in
      ap (λ b. cond b (ends_behind (length symbols) (record { round = round; turns = r })) true && true) (ap (λ x. bytes_eq x v) is.variable ∙ h)

  zeros_in : (round : List NormalLoop) (l : Loop) (o : Option NormalLoop) → normal_loop symbols round l ≡ o → HaveZeros (length round) round → HaveZeros (length (with_loop round o)) (with_loop round o)
  zeros_in round l None e z = z
  zeros_in round l (Some r) e z = let is = normal_loop_is symbols round l r z e in zeros_more round r z is.value

  mutual
    may : (round : List NormalLoop) (p : Part) → HaveZeros (length round) round → EachIn any_statement (Other v) p → list_all (may_end_behind (length symbols) v) (nested_loops symbols round p) ≡ true
    may round (Run s) z h = refl
    may round (Turns l ps) z h =
        all_joined (may_end_behind (length symbols) v) (nested round (normal_loop symbols round l)) (nested_in_parts symbols (with_loop round (normal_loop symbols round l)) ps)
        (others_may round l (normal_loop symbols round l) refl z h.0)
        (may_in_parts (with_loop round (normal_loop symbols round l)) ps (zeros_in round l (normal_loop symbols round l) refl z) h.1)
    may round (Choice bs ps) z h =
        all_joined (may_end_behind (length symbols) v) (nested_in_branches symbols round bs) (nested_in_parts symbols round ps) (may_in_branches round bs z h.0) (may_in_parts round ps z h.1)
    may round (Label k) z h = refl
    may round (Jump k) z h = refl

    may_in_parts : (round : List NormalLoop) (ps : Parts) → HaveZeros (length round) round → EachInParts any_statement (Other v) ps → list_all (may_end_behind (length symbols) v) (nested_in_parts symbols round ps) ≡ true
    may_in_parts round no_parts z h = refl
    may_in_parts round (part p ps) z h =
        all_joined (may_end_behind (length symbols) v) (nested_loops symbols round p) (nested_in_parts symbols round ps) (may round p z h.0) (may_in_parts round ps z h.1)

    may_in_branches : (round : List NormalLoop) (bs : Branches) → HaveZeros (length round) round → EachInBranches any_statement (Other v) bs → list_all (may_end_behind (length symbols) v) (nested_in_branches symbols round bs) ≡ true
    may_in_branches round no_branches z h = refl
    may_in_branches round (branch test ps bs) z h =
        all_joined (may_end_behind (length symbols) v) (nested_in_parts symbols round ps) (nested_in_branches symbols round bs) (may_in_parts round ps z h.0) (may_in_branches round bs z h.1)

  -- the outermost loop ends behind all loops
  outermost_ends : (r : NormalLoop) → HasForms (length symbols) r → ends_behind (length symbols) (record { round = []; turns = r }) ≡ true
  unfolding have_plain_trips
  outermost_ends r h = ap are_within h.is

-- ---- the variable of a loop is no symbol

module _ (v : List ℕ) (written : List (List ℕ)) where
  no_symbol : (ds : List Declaration) → is_among (map (λ (d : Declaration). d.name) (filter (is_symbol v written) ds)) v ≡ false
  no_symbol [] = refl
  no_symbol (d ∷ ds) = by (is_symbol v written d) refl (no_symbol ds)
    where
      not_true : (b : Bool) → not b ≡ true → b ≡ false
      not_true true h = let no : ⊥ = cc in absurd no
      not_true false h = refl

      by : (b : Bool) → is_symbol v written d ≡ b → is_among (map (λ (d : Declaration). d.name) (filter (is_symbol v written) ds)) v ≡ false
          → is_among (map (λ (d : Declaration). d.name) (cond b (d ∷ filter (is_symbol v written) ds) (filter (is_symbol v written) ds))) v ≡ false
      by true e h =
          let p = both (is_integer_scalar d) (not (bytes_eq d.name v) && not (list_any (bytes_eq d.name) written)) e in
          let q = both (not (bytes_eq d.name v)) (not (list_any (bytes_eq d.name) written)) p.1 in
          ap (λ b. b || is_among (map (λ (d : Declaration). d.name) (filter (is_symbol v written) ds)) v) (not_true (bytes_eq d.name v) q.0) ∙ h
      by false e h = h

-- ---- a nest

and_true : (a b : Bool) → a ≡ true → b ≡ true → (a && b) ≡ true
and_true a b h k = ap (λ t. t && b) h ∙ k

neither : (a b : Bool) → (a || b) ≡ false → (a ≡ false) × (b ≡ false)
neither true b h = let no : ⊥ = cc in absurd no
neither false b h = (refl, h)

record IsThere (symbols : List (List ℕ)) (l : Loop) : Type 0 where
  turns : NormalLoop
  is : normal_loop symbols [] l ≡ Some turns

is_there : (symbols : List (List ℕ)) (l : Loop) (ps : Parts) → is_normal symbols [] (Turns l ps) ≡ true → IsThere symbols l
is_there symbols l ps h = by (normal_loop symbols [] l) refl h
  where
    by : (o : Option NormalLoop) → normal_loop symbols [] l ≡ o → (is_some o && are_normal symbols (with_loop [] o) ps) ≡ true → IsThere symbols l
    by None e k = let no : ⊥ = cc in absurd no
    by (Some r) e k = record { turns = r; is = e }

module _ (n : Nest) (l : Loop) (ps : Parts) (body : n.body ≡ Turns l ps) (normal : is_normal n.symbols [] (Turns l ps) ≡ true) (free : is_among n.symbols l.variable ≡ false)
    (inner : EachInParts any_statement (Other l.variable) ps) where
  there_is : IsThere n.symbols l
  there_is = is_there n.symbols l ps normal

  abbrev r : NormalLoop
  r = there_is.turns

  abbrev all : List NestedLoop
  all = nested_loops n.symbols [] n.body

  variable_is : r.variable ≡ l.variable
  variable_is = (normal_loop_is n.symbols [] l r tt there_is.is).variable

  only_within : occurs_only_within l.variable (Turns l ps) ≡ true
  only_within =
      let b = bounds_alone n.symbols l r there_is.is in
      let first : stands_in l.variable l.first ≡ false = free_form n.symbols l.variable l.first b.first_form free b.first_is in
      let last : stands_in l.variable l.last ≡ false = free_form n.symbols l.variable l.last b.last_form free b.last_is in
      let itself : bytes_eq l.variable l.variable ≡ true = (bytes_eq-Decides l.variable l.variable).1 refl in
      ap₂ (λ x y. not ((x || y) || (cond (bytes_eq l.variable l.variable) false (stands_outside_in_each l.variable ps)))) first last
      ∙ ap (λ c. not (cond c false (stands_outside_in_each l.variable ps))) itself

  all_may : list_all (may_end_behind (length n.symbols) l.variable) (nested_loops n.symbols [] (Turns l ps)) ≡ true
  all_may =
      all_joined (may_end_behind (length n.symbols) l.variable) (nested [] (normal_loop n.symbols [] l)) (nested_in_parts n.symbols (with_loop [] (normal_loop n.symbols [] l)) ps)
      (ap (λ o. list_all (may_end_behind (length n.symbols) l.variable) (nested [] o)) there_is.is ∙ own)
      (may_in_parts n.symbols l.variable (with_loop [] (normal_loop n.symbols [] l)) ps (zeros_in n.symbols l.variable [] l (normal_loop n.symbols [] l) refl tt) inner)
    where
      by : (b : Bool) → (cond b (ends_behind (length n.symbols) (record { round = []; turns = r })) true && true) ≡ true
      by true = ap (λ c. c && true) (outermost_ends n.symbols l.variable r (forms_of_alone n.symbols l r there_is.is))
      by false = refl

      own : list_all (may_end_behind (length n.symbols) l.variable) (nested [] (Some r)) ≡ true
      own = by (bytes_eq r.variable l.variable)

  stands : stands_behind (length n.symbols) all n.body r.variable ≡ true
  unfolding stands_behind
  stands =
      ap (λ x. occurs_only_within x n.body && list_all (may_end_behind (length n.symbols) x) (nested_loops n.symbols [] n.body)) variable_is
      ∙ (ap (λ q. occurs_only_within l.variable q && list_all (may_end_behind (length n.symbols) l.variable) (nested_loops n.symbols [] q)) body
      ∙ and_true (occurs_only_within l.variable (Turns l ps)) (list_all (may_end_behind (length n.symbols) l.variable) (nested_loops n.symbols [] (Turns l ps))) only_within all_may)

  abbrev made : Part
  made = Turns (counting n.symbols [] l r) (parts (normal_parts n all (r ∷ []) ps))

  one_part : normal_part n all [] n.body ≡ made ∷ []
  one_part =
      ap (λ q. normal_part n all [] q) body
      ∙ ap (λ o. normal_turns n all [] l o (normal_parts n all (with_loop [] o) ps)) there_is.is
      ∙ ap (λ b. cond b (made ∷ []) (parts_before n.symbols n.line [] r ++ made ∷ parts_behind n.symbols n.line [] r)) stands

  loops_there : with_loops n all ≡ Some (with_body n (values_behind n.symbols n.line all n.body) made)
  unfolding with_loops
  loops_there = ap (λ qs. option_map (with_body n (values_behind n.symbols n.line all n.body)) (only_one qs)) one_part

  nest_there : IsSome (normalised n)
  unfolding normalised
  nest_there =
      ap (λ b. is_some (cond b (with_loops n all) None)) (ap (λ q. is_normal n.symbols [] q) body ∙ normal)
      ∙ ap (λ (o : Option Nest). is_some o) loops_there

-- ---- a nest that was found

found_there : (p : Program) (k : ℕ) (q : Numbered) → reason_of p.declarations q.loop ≡ None → IsProper p.declarations (record { around = []; loop = q }) → IsSome (normalised (nest_of_loop p k q))
found_there p k q none h =
    let symbols = symbols_of p.declarations q.loop.variable q.loop.body in
    let c = as_statement q.loop in
    let no : (r : Reason) → finds r symbols c ≡ false = λ r. finds_is r symbols c ∙ no_reason_holds symbols c r none in
    let bound = neither (finds_flaw flaws.Bound symbols c) (not (finds_flaw flaws.Step symbols c) && any_leaves symbols [] c) (no Bound) in
    let kept : any_leaves symbols [] c ≡ false = ap (λ b. not b && any_leaves symbols [] c) (sym (no Step')) ∙ bound.1 in
    let normal = both (is_normal symbols [] (body_of q)) true (normal_alone symbols q.before c kept (no Deep)) in
    nest_there (nest_of_loop p k q) (source_loop (next_loop_number q.before) q.loop.variable q.loop.first q.loop.last q.loop.step) (parts (parts_of_block (next_loop_number q.before) q.loop.body)) refl normal.0
    (no_symbol q.loop.variable (names_written_in q.loop.body) p.declarations)
    (others_in_block p.declarations q.loop.variable (next_loop_number q.before) q.loop.body (within_loop q.loop.variable h.round) (here q.loop.variable h.round.variables) h.body)

pub normalised_is_there : NormalisedIsThere
normalised_is_there d p n is h =
    let f = found_nest_is_loop p n h in
    let w = Each-Contains (IsProper p.declarations) (loops_in_block 0 [] p.body) f.loop (proper_block p.declarations 0 [] p.body outermost is.statements) f.stands in
    subst (λ (m : Nest). IsSome (normalised m)) (sym f.is) (found_there p n.number f.loop.loop f.no_reason (record { round = w.round; body = w.body }))
