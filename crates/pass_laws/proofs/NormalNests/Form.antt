-- What is made of a nest that was found is a loop.
use Rattle.std.proofs.Common.{◌≡◌, refl, sym, ap, ◌∙◌, Bool, true, false, cond, List, [], ◌∷◌, ◌++◌, length, Option, Some, None}
use Rattle.std.specs.Prelude.{IsSome}
use Rattle.nest.specs.Plain.{Loop, Nest, Part, Turns, Parts, parts}
use Rattle.find_nests.specs.nest_parts.Numbers.{next_loop_number}
use Rattle.find_nests.specs.nest_parts.Statements.{source_loop, parts_of_block}
use Rattle.find_nests.proofs.FoundLaws.{found_nest_is_loop}
use Rattle.last_values.specs.Behind.{stands_behind}
use Rattle.last_values.specs.PartsInPlace.{parts_before, parts_behind}
use Rattle.last_values.specs.declared.behind.NestedLoop.{NestedLoop}
use Rattle.last_values.specs.declared.normal_forms.loops.NormalLoop.{NormalLoop}
use Rattle.last_values.specs.normal_forms.NormalLoops.{normal_loop}
use Rattle.normal_loops.specs.Bodies.{normal_part, normal_parts, normal_turns}
use Rattle.normal_loops.specs.Counting.{counting}
use Rattle.normal_loops.specs.Loops.{with_loop}
use Rattle.normal_loops.specs.Normalised.{normalised}
use Rattle.pass_laws.specs.normal_nests.Form.{HasNormalForm, FoundNestHasNormalForm}
use Rattle.pass_laws.proofs.NormalNests.There.{normalised_is_there}
use Rattle.pass_laws.proofs.ReadyNests.Made.{made_of}

-- a part that stands among others is the only one where there is just one
only_part : (before behind : List Part) (p q : Part) → before ++ p ∷ behind ≡ q ∷ [] → q ≡ p
only_part [] behind p q h = cc
only_part (x ∷ []) behind p q h = let no : ⊥ = cc in absurd no
only_part (x ∷ y ∷ before) behind p q h = let no : ⊥ = cc in absurd no

record IsTurns (q : Part) : Type 0 where
  loop : Loop
  parts : Parts
  is : q ≡ Turns loop parts

module _ (n : Nest) (ls : List NestedLoop) (q : Part) where
  module _ (l : Loop) (r : NormalLoop) (ps : List Part) where
    abbrev made : Part
    made = Turns (counting n.symbols [] l r) (parts ps)

    alone : (before behind : List Part) → before ++ made ∷ behind ≡ q ∷ [] → IsTurns q
    alone before behind h = record { loop = counting n.symbols [] l r; parts = parts ps; is = only_part before behind made q h }

    placed_alone : (b : Bool) → cond b (made ∷ []) (parts_before n.symbols n.line [] r ++ made ∷ parts_behind n.symbols n.line [] r) ≡ q ∷ [] → IsTurns q
    placed_alone true h = alone [] [] h
    placed_alone false h = alone (parts_before n.symbols n.line [] r) (parts_behind n.symbols n.line [] r) h

  -- a loop of which one part is made
  of_turns : (l : Loop) (o : Option NormalLoop) (ps : List Part) → normal_turns n ls [] l o ps ≡ q ∷ [] → IsTurns q
  of_turns l None ps h = record { loop = l; parts = parts ps; is = only_part [] [] (Turns l (parts ps)) q h }
  of_turns l (Some r) ps h = placed_alone l r ps (stands_behind (length n.symbols) ls n.body r.variable) h

is_turns : (n m : Nest) (l : Loop) (ps : Parts) → n.body ≡ Turns l ps → normalised n ≡ Some m → IsTurns m.body
is_turns n m l ps body h =
    let made = made_of n m h in
    of_turns n made.loops m.body l (normal_loop n.symbols [] l) (normal_parts n made.loops (with_loop [] (normal_loop n.symbols [] l)) ps)
    (sym (ap (λ q. normal_part n made.loops [] q) body) ∙ made.body)

pub found_nest_has_normal_form : FoundNestHasNormalForm
found_nest_has_normal_form d p n is h = by (normalised n) refl (normalised_is_there d p n is h)
  where
    by : (o : Option Nest) → normalised n ≡ o → IsSome o → HasNormalForm n
    by None e k = let no : ⊥ = cc in absurd no
    by (Some m) e k =
        let f = found_nest_is_loop p n h in
        let q = f.loop.loop in
        let turns = is_turns n m (source_loop (next_loop_number q.before) q.loop.variable q.loop.first q.loop.last q.loop.step) (parts (parts_of_block (next_loop_number q.before) q.loop.body)) (ap (λ (k : Nest). k.body) f.is) e in
        record { normal = m; is = e; loop = turns.loop; parts = turns.parts; body = turns.is }
