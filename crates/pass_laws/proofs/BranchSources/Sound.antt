-- What the loops, statements and conditions of a nest are, and what follows for its loops from 1 by 1.
use mathlib.Core.Path.{ap₂}
use Rattle.std.proofs.Common.{◌≡◌, refl, sym, ap, ◌∙◌, subst, ℕ, true, false, ◌&&◌, List, [], ◌∷◌, ◌++◌, map}
use Rattle.std.proofs.Common.{Option, Some, None}
use Rattle.std.specs.Prelude.{is_some}
use Rattle.std.proofs.lemmas.List.{map-append}
use Rattle.components.specs.Lists.{Each}
use Rattle.components.proofs.ListLaws.{Each-append}
use Rattle.tree.specs.Plain.{Expression}
use Rattle.meaning.specs.Reads.{names_in}
use Rattle.linear_forms.proofs.Sizes.{both}
use Rattle.last_values.specs.declared.behind.NestedLoop.{NestedLoop}
use Rattle.normal_loops.specs.Loops.{nested, nested_in_branches}
use Rattle.normal_loops.specs.Normal.{are_normal, are_normal_branches, is_normal}
use Rattle.normal_loops.specs.Loops.{nested_in_parts, nested_loops, with_loop}
use Rattle.nest_order.specs.runs.Touched.{IsPlain}
use Rattle.nest.specs.Bodies.{Standing, loops_in_branches, loops_in_parts, loops_of, statements_in}
use Rattle.nest.specs.Bodies.{statements_in_branches, statements_in_parts}
use Rattle.nest.specs.Plain.{Branches, no_branches, branch, Loop, Part, Run, Turns, Choice, Label, Jump, Parts}
use Rattle.nest.specs.Plain.{no_parts, part, parts}
use Rattle.last_values.specs.normal_forms.NormalLoops.{variables_of, normal_loop}
use Rattle.last_values.specs.declared.normal_forms.loops.NormalLoop.{NormalLoop}
use Rattle.pass_laws.proofs.ReadyNests.LoopForms.{normal_loop_is}
use Rattle.pass_laws.proofs.ReadyNests.NormalTrips.{zeros_more}
use Rattle.nest.specs.statement_loops.Names.{is_among}
use Rattle.pass_laws.proofs.FoundSources.Counters.{IsShort, HasSmallNumber}
use Rattle.pass_laws.proofs.FoundSources.Sound.{AreSoundNested, AreUnder, IsSoundLoop, IsSoundNested, IsSoundStanding}
use Rattle.pass_laws.proofs.FoundSources.Sound.{IsSoundStatement}
use Rattle.pass_laws.specs.branch_meaning.Sources.{IsStraightStanding, tests_in_branches, tests_in_parts, tests_of}

-- a condition without array forms, over names of a program
pub record IsSoundTest (e : Expression) : Type 0 where
  pub plain : IsPlain e
  pub short : Each IsShort (names_in e)

module _ (symbols : List (List ℕ)) where
  abbrev mutual
    pub IsSound : List (List ℕ) → Part → Type 0
    IsSound vs (Run g) = IsSoundStatement symbols vs g
    IsSound vs (Turns l ps) = IsSoundLoop symbols vs l × AreSound (vs ++ l.variable ∷ []) ps
    IsSound vs (Choice bs ps) = AreSoundBranches vs bs × AreSound vs ps
    IsSound vs (Label k) = Unit {0}
    IsSound vs (Jump k) = Unit {0}

    pub AreSound : List (List ℕ) → Parts → Type 0
    AreSound vs no_parts = Unit {0}
    AreSound vs (part p ps) = IsSound vs p × AreSound vs ps

    pub AreSoundBranches : List (List ℕ) → Branches → Type 0
    AreSoundBranches vs no_branches = Unit {0}
    AreSoundBranches vs (branch test ps bs) = IsSoundTest test × AreSound vs ps × AreSoundBranches vs bs

  pub sound_joined : (vs : List (List ℕ)) (ps qs : List Part) → AreSound vs (parts ps) → AreSound vs (parts qs) → AreSound vs (parts (ps ++ qs))
  sound_joined vs [] qs h k = k
  sound_joined vs (p ∷ ps) qs h k = (h.0, sound_joined vs ps qs h.1 k)

  -- ---- parts as they are

  mutual
    pub small_numbers : (vs : List (List ℕ)) (p : Part) → IsSound vs p → Each HasSmallNumber (loops_of p)
    small_numbers vs (Run g) h = tt
    small_numbers vs (Turns l ps) h = (h.0.number, small_in_parts (vs ++ l.variable ∷ []) ps h.1)
    small_numbers vs (Choice bs ps) h = Each-append HasSmallNumber (loops_in_branches bs) (loops_in_parts ps) (small_in_branches vs bs h.0) (small_in_parts vs ps h.1)
    small_numbers vs (Label k) h = tt
    small_numbers vs (Jump k) h = tt

    small_in_parts : (vs : List (List ℕ)) (ps : Parts) → AreSound vs ps → Each HasSmallNumber (loops_in_parts ps)
    small_in_parts vs no_parts h = tt
    small_in_parts vs (part p ps) h =
        Each-append HasSmallNumber (loops_of p) (loops_in_parts ps) (small_numbers vs p h.0) (small_in_parts vs ps h.1)

    small_in_branches : (vs : List (List ℕ)) (bs : Branches) → AreSoundBranches vs bs → Each HasSmallNumber (loops_in_branches bs)
    small_in_branches vs no_branches h = tt
    small_in_branches vs (branch test ps bs) h =
        Each-append HasSmallNumber (loops_in_parts ps) (loops_in_branches bs) (small_in_parts vs ps h.1) (small_in_branches vs bs h.2)

  -- ---- statements

  abbrev pub IsGoodStanding : Standing → Type 0
  IsGoodStanding s = IsStraightStanding s × IsSoundStanding symbols s

  mutual
    pub standings : (vs : List (List ℕ)) (ls : List Loop) (p : Part) → map (λ (l : Loop). l.variable) ls ≡ vs → IsSound vs p → Each IsGoodStanding (statements_in ls p)
    standings vs ls (Run g) e h =
        ((h.straight, record { short = h.short; free = subst (λ xs. is_among xs g.left.name ≡ false) (sym e) h.free; apart = h.apart }), tt)
    standings vs ls (Turns l ps) e h =
        standings_in_parts (vs ++ l.variable ∷ []) (ls ++ l ∷ []) ps
        (map-append (λ (m : Loop). m.variable) ls (l ∷ []) ∙ ap (λ (xs : List (List ℕ)). xs ++ l.variable ∷ []) e) h.1
    standings vs ls (Choice bs ps) e h =
        Each-append IsGoodStanding (statements_in_branches ls bs) (statements_in_parts ls ps) (standings_in_branches vs ls bs e h.0) (standings_in_parts vs ls ps e h.1)
    standings vs ls (Label k) e h = tt
    standings vs ls (Jump k) e h = tt

    standings_in_parts : (vs : List (List ℕ)) (ls : List Loop) (ps : Parts) → map (λ (l : Loop). l.variable) ls ≡ vs → AreSound vs ps → Each IsGoodStanding (statements_in_parts ls ps)
    standings_in_parts vs ls no_parts e h = tt
    standings_in_parts vs ls (part p ps) e h =
        Each-append IsGoodStanding (statements_in ls p) (statements_in_parts ls ps) (standings vs ls p e h.0) (standings_in_parts vs ls ps e h.1)

    standings_in_branches : (vs : List (List ℕ)) (ls : List Loop) (bs : Branches) → map (λ (l : Loop). l.variable) ls ≡ vs → AreSoundBranches vs bs → Each IsGoodStanding (statements_in_branches ls bs)
    standings_in_branches vs ls no_branches e h = tt
    standings_in_branches vs ls (branch test ps bs) e h =
        Each-append IsGoodStanding (statements_in_parts ls ps) (statements_in_branches ls bs) (standings_in_parts vs ls ps e h.1) (standings_in_branches vs ls bs e h.2)

  -- ---- conditions

  mutual
    pub tests_are : (vs : List (List ℕ)) (p : Part) → IsSound vs p → Each IsSoundTest (tests_of p)
    tests_are vs (Run g) h = tt
    tests_are vs (Turns l ps) h = tests_in (vs ++ l.variable ∷ []) ps h.1
    tests_are vs (Choice bs ps) h = Each-append IsSoundTest (tests_in_branches bs) (tests_in_parts ps) (tests_of_branches vs bs h.0) (tests_in vs ps h.1)
    tests_are vs (Label k) h = tt
    tests_are vs (Jump k) h = tt

    tests_in : (vs : List (List ℕ)) (ps : Parts) → AreSound vs ps → Each IsSoundTest (tests_in_parts ps)
    tests_in vs no_parts h = tt
    tests_in vs (part p ps) h = Each-append IsSoundTest (tests_of p) (tests_in_parts ps) (tests_are vs p h.0) (tests_in vs ps h.1)

    tests_of_branches : (vs : List (List ℕ)) (bs : Branches) → AreSoundBranches vs bs → Each IsSoundTest (tests_in_branches bs)
    tests_of_branches vs no_branches h = tt
    tests_of_branches vs (branch test ps bs) h =
        Each-append IsSoundTest (test ∷ tests_in_parts ps) (tests_in_branches bs) (h.0, tests_in vs ps h.1) (tests_of_branches vs bs h.2)

  -- ---- loops from 1 by 1

  nested_joined : (qs rs : List NestedLoop) (ls ms : List Loop) → AreSoundNested symbols qs ls → AreSoundNested symbols rs ms → AreSoundNested symbols (qs ++ rs) (ls ++ ms)
  nested_joined qs rs ls ms h k = record {
    each = Each-append (IsSoundNested symbols) qs rs h.each k.each;
    counters = map-append (λ (q : NestedLoop). q.turns.counter) qs rs
        ∙ (ap₂ (λ (xs ys : List (List ℕ)). xs ++ ys) h.counters k.counters ∙ sym (map-append _ ls ms));
  }

  -- a loop with those in it
  turned : (vs : List (List ℕ)) (round : List NormalLoop) (l : Loop) (ps : Parts) (o : Option NormalLoop) → normal_loop symbols round l ≡ o
      → AreUnder symbols vs round → IsSoundLoop symbols vs l
      → ((rs : List NormalLoop) → AreUnder symbols (vs ++ l.variable ∷ []) rs → are_normal symbols rs ps ≡ true
      → AreSoundNested symbols (nested_in_parts symbols rs ps) (loops_in_parts ps))
      → (is_some o && are_normal symbols (with_loop round o) ps) ≡ true
      → AreSoundNested symbols (nested round o ++ nested_in_parts symbols (with_loop round o) ps) (l ∷ loops_in_parts ps)
  turned vs round l ps None e u s more h = let none : ⊥ = cc in absurd none
  turned vs round l ps (Some r) e u s more h =
      let is = normal_loop_is symbols round l r u.zeros e in
      let names : variables_of (round ++ r ∷ []) ≡ vs ++ l.variable ∷ [] =
      map-append (λ (q : NormalLoop). q.variable) round (r ∷ [])
      ∙ ap₂ (λ (xs : List (List ℕ)) (x : List ℕ). xs ++ x ∷ []) u.names is.variable in
      let inner = more (round ++ r ∷ []) (record { names = names; zeros = zeros_more round r u.zeros is.value }) h in
      let named = sym is.variable in
      record {
        each = (
          record {
            short = subst IsShort named s.short;
            own = subst (λ xs. is_among xs r.variable ≡ false) (sym u.names) (subst (λ x. is_among vs x ≡ false) named s.free);
            apart = subst (λ x. is_among symbols x ≡ false) named s.apart;
          },
          inner.each,
        );
        counters = ap₂ (λ (x : List ℕ) (xs : List (List ℕ)). x ∷ xs) is.counter inner.counters;
      }

  mutual
    pub nested_sound : (vs : List (List ℕ)) (round : List NormalLoop) (p : Part) → AreUnder symbols vs round → is_normal symbols round p ≡ true → IsSound vs p
        → AreSoundNested symbols (nested_loops symbols round p) (loops_of p)
    nested_sound vs round (Run g) u h s = record { each = tt; counters = refl }
    nested_sound vs round (Turns l ps) u h s =
        turned vs round l ps (normal_loop symbols round l) refl u s.0 (λ rs v k. nested_in_sound (vs ++ l.variable ∷ []) rs ps v k s.1) h
    nested_sound vs round (Choice bs ps) u h s =
        let b = both (are_normal_branches symbols round bs) (are_normal symbols round ps) h in
        nested_joined (nested_in_branches symbols round bs) (nested_in_parts symbols round ps) (loops_in_branches bs) (loops_in_parts ps)
        (nested_in_branches_sound vs round bs u b.0 s.0) (nested_in_sound vs round ps u b.1 s.1)
    nested_sound vs round (Label k) u h s = record { each = tt; counters = refl }
    nested_sound vs round (Jump k) u h s = record { each = tt; counters = refl }

    nested_in_sound : (vs : List (List ℕ)) (round : List NormalLoop) (ps : Parts) → AreUnder symbols vs round → are_normal symbols round ps ≡ true → AreSound vs ps
        → AreSoundNested symbols (nested_in_parts symbols round ps) (loops_in_parts ps)
    nested_in_sound vs round no_parts u h s = record { each = tt; counters = refl }
    nested_in_sound vs round (part p ps) u h s =
        let b = both (is_normal symbols round p) (are_normal symbols round ps) h in
        nested_joined (nested_loops symbols round p) (nested_in_parts symbols round ps) (loops_of p) (loops_in_parts ps)
        (nested_sound vs round p u b.0 s.0) (nested_in_sound vs round ps u b.1 s.1)

    nested_in_branches_sound : (vs : List (List ℕ)) (round : List NormalLoop) (bs : Branches) → AreUnder symbols vs round → are_normal_branches symbols round bs ≡ true → AreSoundBranches vs bs
        → AreSoundNested symbols (nested_in_branches symbols round bs) (loops_in_branches bs)
    nested_in_branches_sound vs round no_branches u h s = record { each = tt; counters = refl }
    nested_in_branches_sound vs round (branch test ps bs) u h s =
        let b = both (are_normal symbols round ps) (are_normal_branches symbols round bs) h in
        nested_joined (nested_in_parts symbols round ps) (nested_in_branches symbols round bs) (loops_in_parts ps) (loops_in_branches bs)
        (nested_in_sound vs round ps u b.0 s.1) (nested_in_branches_sound vs round bs u b.1 s.2)
