-- The loop of a nest that is considered turns as often as was found, in each store.
use Rattle.std.proofs.Common.{◌≡◌, refl, sym, ap, ◌∙◌, subst, ℕ, ℤ, pos, ◌+ℤ◌, ◌-ℤ◌, Bool, true, false, ◌&&◌, cond, is_some, List, [], ◌∷◌, ◌++◌, map, length, Option, Some, None, int_div}
use Rattle.std.specs.Prelude.{IsTrue}
use Rattle.dependence_graph.specs.nest_graph.Trips as tested
use Rattle.find_nests.specs.Found.{nest_of_loop}
use Rattle.find_nests.specs.Loops.{Numbered}
use Rattle.find_nests.specs.nest_parts.Numbers.{next_loop_number}
use Rattle.find_nests.specs.nest_parts.Statements.{parts_of_block, source_loop}
use Rattle.index_split.specs.Points.{IsConsidered}
use Rattle.last_values.proofs.NormalForms.LoopNumbers.{normal_loop_has_numbers}
use Rattle.last_values.specs.Behind.{stands_behind}
use Rattle.last_values.specs.PartsInPlace.{parts_before, parts_behind}
use Rattle.last_values.specs.declared.normal_forms.loops.NormalLoop.{NormalLoop}
use Rattle.last_values.specs.normal_forms.NormalLoops.{is_constant, normal_loop}
use Rattle.last_values.specs.normal_forms.Numbers.{LoopNumbers, values_from}
use Rattle.linear_forms.specs.Linear.{number_at}
use Rattle.nest.specs.Plain.{Loop, Nest, Part, Parts, Run, Turns, parts}
use Rattle.nest.specs.declared.parts.Trip.{Trip}
use Rattle.normal_loops.specs.Bodies.{normal_parts, normal_turns}
use Rattle.normal_loops.specs.Counting.{counting}
use Rattle.normal_loops.specs.Loops.{with_loop}
use Rattle.normal_loops.specs.Normal.{are_normal}
use Rattle.normal_loops.specs.Normalised.{normalised}
use Rattle.pass_laws.proofs.NormalRuns.Numbers.{constant_number}
use Rattle.pass_laws.proofs.NormalValues.Quotients.{sign_turned}
use Rattle.pass_laws.proofs.NormalValues.Steps.{IsMade, loop_made}
use Rattle.pass_laws.proofs.ReadyNests.Made.{IsMadeOf, made_of}
use Rattle.tree.specs.Plain.{Program}

-- a part that stands among others is the only one where there is just one
only_part : (before behind : List Part) (p q : Part) → before ++ p ∷ behind ≡ q ∷ [] → q ≡ p
only_part [] behind p q h = cc
only_part (x ∷ []) behind p q h = let no : ⊥ = cc in absurd no
only_part (x ∷ y ∷ before) behind p q h = let no : ⊥ = cc in absurd no

same_turns : (a b : Loop) (ps qs : Parts) → Turns a ps ≡ Turns b qs → a ≡ b
same_turns a b ps qs h = cc

same_trip : (a b : Trip) → ◌≡◌ {A = Option Trip} (Some a) (Some b) → a ≡ b
same_trip a b h = cc

counting_trip : (symbols : List (List ℕ)) (round : List NormalLoop) (l : Loop) (r : NormalLoop) → (counting symbols round l r).trip ≡ Some r.trip
unfolding counting
counting_trip symbols round l r = refl

abbrev pub loop_of : Numbered → Loop
loop_of place = source_loop (next_loop_number place.before) place.loop.variable place.loop.first place.loop.last place.loop.step

module _ (p : Program) (number : ℕ) (place : Numbered) (m : Nest) (e : normalised (nest_of_loop p number place) ≡ Some m) (t : ℕ) (considered : IsConsidered m t) where
  abbrev n : Nest
  n = nest_of_loop p number place

  abbrev inside : Parts
  inside = parts (parts_of_block (next_loop_number place.before) place.loop.body)

  made : IsMadeOf (nest_of_loop p number place) m
  made = made_of (nest_of_loop p number place) m e

  -- its form from 1 by 1, whose trip was found to be constant
  pub record IsCounted : Type 0 where
    pub form : NormalLoop
    pub normal : normal_loop (nest_of_loop p number place).symbols [] (loop_of place) ≡ Some form
    pub trip : considered.turns.trip ≡ form.trip

  module _ (r : NormalLoop) (qs : List Part) where
    abbrev whole : Part
    whole = Turns (counting n.symbols [] (loop_of place) r) (parts qs)

    placed_is : (b : Bool) (before behind : List Part) → cond b (whole ∷ []) (before ++ whole ∷ behind) ≡ m.body ∷ [] → m.body ≡ whole
    placed_is true before behind h = only_part [] [] whole m.body h
    placed_is false before behind h = only_part before behind whole m.body h

    trip_here : m.body ≡ whole → considered.turns.trip ≡ r.trip
    trip_here h =
        let l = counting n.symbols [] (loop_of place) r in
        let same : considered.loop ≡ l = same_turns considered.loop l (parts (map Run considered.statements)) (parts qs) (sym considered.body ∙ h) in
        same_trip considered.turns.trip r.trip (sym considered.turns.is ∙ (ap (λ (k : Loop). k.trip) same ∙ counting_trip n.symbols [] (loop_of place) r))

  counted_by : (o : Option NormalLoop) → normal_loop n.symbols [] (loop_of place) ≡ o → (is_some o && are_normal n.symbols (with_loop [] o) inside) ≡ true → (qs : List Part)
      → normal_turns n made.loops [] (loop_of place) o qs ≡ m.body ∷ [] → IsCounted
  counted_by None h g qs f = let no : ⊥ = cc in absurd no
  counted_by (Some r) h g qs f = record {
    form = r;
    normal = h;
    trip = trip_here r qs (placed_is r qs (stands_behind (length n.symbols) made.loops n.body r.variable) (parts_before n.symbols n.line [] r) (parts_behind n.symbols n.line [] r) f);
  }

  pub counted : IsCounted
  counted =
      counted_by (normal_loop n.symbols [] (loop_of place)) refl made.normal
      (normal_parts n made.loops (with_loop [] (normal_loop n.symbols [] (loop_of place))) inside) made.body

  pub forms : IsMade (nest_of_loop p number place).symbols [] (loop_of place) counted.form
  forms = loop_made n.symbols [] (loop_of place) counted.form counted.normal

  constant : is_constant counted.form.trip.top ≡ true
  constant = subst (λ (x : Trip). IsTrue (tested.has_constant_top x)) counted.trip considered.turns.constant

  -- whatever the symbols are, the quotient is the trip
  pub quotient_is : (values : ℕ → ℤ) (a b : ℤ) → number_at forms.first_form (values_from (length (nest_of_loop p number place).symbols) 0 values) ≡ a
      → number_at forms.last_form (values_from (length (nest_of_loop p number place).symbols) 0 values) ≡ b → int_div ((b -ℤ a) +ℤ (loop_of place).step) (loop_of place).step ≡ pos t
  quotient_is values a b first last =
      let r = counted.form in
      let d = (loop_of place).step in
      let xs = values_from (length n.symbols) 0 values in
      let m1 = number_at forms.first_form xs in
      let m2 = number_at forms.last_form xs in
      let its : ℕ → ℤ = λ k. pos 0 in
      let numbers : LoopNumbers (length n.symbols) 0 its values r m1 m2 d
      = normal_loop_has_numbers n.symbols [] (loop_of place) r forms.first_form forms.last_form its values counted.normal forms.first_linear forms.last_linear in
      let here : int_div r.trip.top.constant r.trip.by ≡ pos t = subst (λ (x : Trip). int_div x.top.constant x.by ≡ pos t) counted.trip considered.turns.number in
      ap (λ z. int_div ((b -ℤ z) +ℤ d) d) (sym first) ∙ (ap (λ z. int_div ((z -ℤ m1) +ℤ d) d) (sym last)
      ∙ (sym (sign_turned m1 m2 d) ∙ (sym numbers.trip
      ∙ (ap (λ z. int_div z r.trip.by) (constant_number (length n.symbols) its values r.trip.top constant) ∙ here))))
