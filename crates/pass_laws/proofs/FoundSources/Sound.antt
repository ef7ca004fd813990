-- What the loops and statements of a nest are where nothing else stands in it, and what follows for its statements and
-- its loops from 1 by 1.
use Rattle.std.proofs.Common.{◌≡◌, refl, sym, ap, ◌∙◌, subst, ℕ, ◌≤◌, true, false, ◌&&◌, List, [], ◌∷◌, ◌++◌, map}
use Rattle.std.proofs.Common.{length, Option, Some, None}
use Rattle.std.specs.Prelude.{is_some}
use Rattle.std.proofs.lemmas.List.{map-append}
use mathlib.Core.Path.{ap₂}
use Rattle.components.specs.Lists.{Each}
use Rattle.components.proofs.ListLaws.{Each-append}
use Rattle.linear_forms.proofs.Sizes.{both}
use Rattle.last_values.specs.declared.behind.NestedLoop.{NestedLoop}
use Rattle.normal_loops.specs.Loops.{with_loop, nested, nested_loops, nested_in_parts}
use Rattle.normal_loops.specs.Normal.{is_normal, are_normal}
use Rattle.nest.specs.Bodies.{Standing, loops_of, loops_in_parts, statements_in, statements_in_parts}
use Rattle.nest.specs.Plain.{Guarded, Loop, Part, Run, Turns, Choice, Label, Jump, Parts, no_parts, part, parts}
use Rattle.last_values.specs.normal_forms.NormalLoops.{variables_of, normal_loop}
use Rattle.last_values.specs.declared.normal_forms.loops.NormalLoop.{NormalLoop}
use Rattle.pass_laws.specs.normal_runs.Sources.{IsStraightStatement, IsStraight, AreStraight, HasOwnVariable, names_of_statement}
use Rattle.pass_laws.proofs.ReadyNests.LoopForms.{HaveZeros, normal_loop_is}
use Rattle.pass_laws.proofs.ReadyNests.NormalTrips.{zeros_more}
use Rattle.nest.specs.statement_loops.Names.{is_among}
use Rattle.pass_laws.proofs.FoundSources.Counters.{IsShort, HasSmallNumber, counters_by}

-- ---- over these symbols, in loops with these variables

pub record IsSoundStatement (symbols variables : List (List ℕ)) (g : Guarded) : Type 0 where
  pub straight : IsStraightStatement g
  pub short : Each IsShort (names_of_statement g)
  pub free : is_among variables g.left.name ≡ false
  pub apart : is_among symbols g.left.name ≡ false

pub record IsSoundLoop (symbols variables : List (List ℕ)) (l : Loop) : Type 0 where
  pub short : IsShort l.variable
  pub free : is_among variables l.variable ≡ false
  pub apart : is_among symbols l.variable ≡ false
  pub number : l.number ≤ 4294967295

module _ (symbols : List (List ℕ)) where
  abbrev mutual
    pub IsSound : List (List ℕ) → Part → Type 0
    IsSound vs (Run g) = IsSoundStatement symbols vs g
    IsSound vs (Turns l ps) = IsSoundLoop symbols vs l × AreSound (vs ++ l.variable ∷ []) ps
    IsSound vs (Choice bs ps) = ⊥
    IsSound vs (Label k) = ⊥
    IsSound vs (Jump k) = ⊥

    pub AreSound : List (List ℕ) → Parts → Type 0
    AreSound vs no_parts = Unit {0}
    AreSound vs (part p ps) = IsSound vs p × AreSound vs ps

  pub sound_joined : (vs : List (List ℕ)) (ps qs : List Part) → AreSound vs (parts ps) → AreSound vs (parts qs) → AreSound vs (parts (ps ++ qs))
  sound_joined vs [] qs h k = k
  sound_joined vs (p ∷ ps) qs h k = (h.0, sound_joined vs ps qs h.1 k)

  -- ---- parts as they are

  mutual
    pub straight : (vs : List (List ℕ)) (p : Part) → IsSound vs p → IsStraight p
    straight vs (Run g) h = h.straight
    straight vs (Turns l ps) h = straight_parts (vs ++ l.variable ∷ []) ps h.1
    straight vs (Choice bs ps) h = absurd h
    straight vs (Label k) h = absurd h
    straight vs (Jump k) h = absurd h

    straight_parts : (vs : List (List ℕ)) (ps : Parts) → AreSound vs ps → AreStraight ps
    straight_parts vs no_parts h = tt
    straight_parts vs (part p ps) h = (straight vs p h.0, straight_parts vs ps h.1)

  mutual
    pub small_numbers : (vs : List (List ℕ)) (p : Part) → IsSound vs p → Each HasSmallNumber (loops_of p)
    small_numbers vs (Run g) h = tt
    small_numbers vs (Turns l ps) h = (h.0.number, small_in_parts (vs ++ l.variable ∷ []) ps h.1)
    small_numbers vs (Choice bs ps) h = absurd h
    small_numbers vs (Label k) h = absurd h
    small_numbers vs (Jump k) h = absurd h

    small_in_parts : (vs : List (List ℕ)) (ps : Parts) → AreSound vs ps → Each HasSmallNumber (loops_in_parts ps)
    small_in_parts vs no_parts h = tt
    small_in_parts vs (part p ps) h =
        Each-append HasSmallNumber (loops_of p) (loops_in_parts ps) (small_numbers vs p h.0) (small_in_parts vs ps h.1)

  -- ---- statements

  pub record IsSoundStanding (s : Standing) : Type 0 where
    pub short : Each IsShort (names_of_statement s.statement)
    pub free : is_among (map (λ (l : Loop). l.variable) s.loops) s.statement.left.name ≡ false
    pub apart : is_among symbols s.statement.left.name ≡ false

  mutual
    pub standings : (vs : List (List ℕ)) (ls : List Loop) (p : Part) → map (λ (l : Loop). l.variable) ls ≡ vs → IsSound vs p
        → Each IsSoundStanding (statements_in ls p)
    standings vs ls (Run g) e h =
        (record { short = h.short; free = subst (λ xs. is_among xs g.left.name ≡ false) (sym e) h.free; apart = h.apart }, tt)
    standings vs ls (Turns l ps) e h =
        standings_in_parts (vs ++ l.variable ∷ []) (ls ++ l ∷ []) ps
        (map-append (λ (m : Loop). m.variable) ls (l ∷ []) ∙ ap (λ (xs : List (List ℕ)). xs ++ l.variable ∷ []) e) h.1
    standings vs ls (Choice bs ps) e h = absurd h
    standings vs ls (Label k) e h = absurd h
    standings vs ls (Jump k) e h = absurd h

    standings_in_parts : (vs : List (List ℕ)) (ls : List Loop) (ps : Parts) → map (λ (l : Loop). l.variable) ls ≡ vs → AreSound vs ps
        → Each IsSoundStanding (statements_in_parts ls ps)
    standings_in_parts vs ls no_parts e h = tt
    standings_in_parts vs ls (part p ps) e h =
        Each-append IsSoundStanding (statements_in ls p) (statements_in_parts ls ps)
        (standings vs ls p e h.0) (standings_in_parts vs ls ps e h.1)

  -- ---- loops from 1 by 1

  pub record IsSoundNested (q : NestedLoop) : Type 0 where
    pub short : IsShort q.turns.variable
    pub own : HasOwnVariable q
    pub apart : is_among symbols q.turns.variable ≡ false

  -- those of these loops
  pub record AreSoundNested (qs : List NestedLoop) (ls : List Loop) : Type 0 where
    pub each : Each IsSoundNested qs
    pub counters : map (λ (q : NestedLoop). q.turns.counter) qs ≡ counters_by ls

  nested_joined : (qs rs : List NestedLoop) (ls ms : List Loop) → AreSoundNested qs ls → AreSoundNested rs ms → AreSoundNested (qs ++ rs) (ls ++ ms)
  nested_joined qs rs ls ms h k = record {
    each = Each-append IsSoundNested qs rs h.each k.each;
    counters = map-append (λ (q : NestedLoop). q.turns.counter) qs rs
        ∙ (ap₂ (λ (xs ys : List (List ℕ)). xs ++ ys) h.counters k.counters ∙ sym (map-append _ ls ms));
  }

  pub record AreUnder (vs : List (List ℕ)) (round : List NormalLoop) : Type 0 where
    pub names : variables_of round ≡ vs
    pub zeros : HaveZeros (length round) round

  -- a loop with those in it
  turned : (vs : List (List ℕ)) (round : List NormalLoop) (l : Loop) (ps : Parts) (o : Option NormalLoop) → normal_loop symbols round l ≡ o
      → AreUnder vs round → IsSoundLoop symbols vs l
      → ((rs : List NormalLoop) → AreUnder (vs ++ l.variable ∷ []) rs → are_normal symbols rs ps ≡ true
      → AreSoundNested (nested_in_parts symbols rs ps) (loops_in_parts ps))
      → (is_some o && are_normal symbols (with_loop round o) ps) ≡ true
      → AreSoundNested (nested round o ++ nested_in_parts symbols (with_loop round o) ps) (l ∷ loops_in_parts ps)
  turned vs round l ps None e u s more h = let no : ⊥ = cc in absurd no
  turned vs round l ps (Some r) e u s more h =
      let is = normal_loop_is symbols round l r u.zeros e in
      let names : variables_of (round ++ r ∷ []) ≡ vs ++ l.variable ∷ [] =
      map-append (λ (q : NormalLoop). q.variable) round (r ∷ [])
      ∙ ap₂ (λ (xs : List (List ℕ)) (x : List ℕ). xs ++ x ∷ []) u.names is.variable in
      let inner = more (round ++ r ∷ []) (record { names = names; zeros = zeros_more round r u.zeros is.value }) h in
      let named = sym is.variable in
      record {
        each = (
          record {
            short = subst IsShort named s.short;
            own = subst (λ xs. is_among xs r.variable ≡ false) (sym u.names) (subst (λ x. is_among vs x ≡ false) named s.free);
            apart = subst (λ x. is_among symbols x ≡ false) named s.apart;
          },
          inner.each,
        );
        counters = ap₂ (λ (x : List ℕ) (xs : List (List ℕ)). x ∷ xs) is.counter inner.counters;
      }

  mutual
    pub nested_sound : (vs : List (List ℕ)) (round : List NormalLoop) (p : Part) → AreUnder vs round → is_normal symbols round p ≡ true → IsSound vs p
        → AreSoundNested (nested_loops symbols round p) (loops_of p)
    nested_sound vs round (Run g) u h s = record { each = tt; counters = refl }
    nested_sound vs round (Turns l ps) u h s =
        turned vs round l ps (normal_loop symbols round l) refl u s.0 (λ rs v k. nested_in_sound (vs ++ l.variable ∷ []) rs ps v k s.1) h
    nested_sound vs round (Choice bs ps) u h s = absurd s
    nested_sound vs round (Label k) u h s = absurd s
    nested_sound vs round (Jump k) u h s = absurd s

    nested_in_sound : (vs : List (List ℕ)) (round : List NormalLoop) (ps : Parts) → AreUnder vs round → are_normal symbols round ps ≡ true → AreSound vs ps
        → AreSoundNested (nested_in_parts symbols round ps) (loops_in_parts ps)
    nested_in_sound vs round no_parts u h s = record { each = tt; counters = refl }
    nested_in_sound vs round (part p ps) u h s =
        let b = both (is_normal symbols round p) (are_normal symbols round ps) h in
        nested_joined (nested_loops symbols round p) (nested_in_parts symbols round ps) (loops_of p) (loops_in_parts ps)
        (nested_sound vs round p u b.0 s.0) (nested_in_sound vs round ps u b.1 s.1)
