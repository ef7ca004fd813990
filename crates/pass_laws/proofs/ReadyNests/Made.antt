-- The body that is made of a nest.
use Rattle.std.proofs.Common.{◌≡◌, refl, sym, ap, ◌∙◌, Bool, true, false, cond, List, [], ◌∷◌, Some, None}
use Rattle.std.specs.Option.{option_map}
use Rattle.tree.specs.Plain.{Block}
use Rattle.nest.specs.Plain.{Part, Nest}
use Rattle.last_values.specs.ValuesBehind.{values_behind}
use Rattle.last_values.specs.declared.behind.NestedLoop.{NestedLoop}
use Rattle.normal_loops.specs.Bodies.{normal_part}
use Rattle.normal_loops.specs.Loops.{nested_loops}
use Rattle.normal_loops.specs.Normal.{is_normal}
use Rattle.normal_loops.specs.Normalised.{with_body, only_one, with_loops, normalised}

-- what m is, where it is made of n
pub record IsMadeOf (n m : Nest) : Type 0 where
  pub normal : is_normal n.symbols [] n.body ≡ true
  pub loops : List NestedLoop
  pub body : normal_part n loops [] n.body ≡ m.body ∷ []
  pub symbols : m.symbols ≡ n.symbols

body_is : (n : Nest) (more : Block) (p : Part) → (with_body n more p).body ≡ p
unfolding with_body
body_is n more p = refl

symbols_are : (n : Nest) (more : Block) (p : Part) → (with_body n more p).symbols ≡ n.symbols
unfolding with_body
symbols_are n more p = refl

module _ (n m : Nest) where
  from_bodies : (ls : List NestedLoop) (more : Block) (ps : List Part) → is_normal n.symbols [] n.body ≡ true → normal_part n ls [] n.body ≡ ps → option_map (with_body n more) (only_one ps) ≡ Some m → IsMadeOf n m
  from_bodies ls more [] t e h = let no : ⊥ = cc in absurd no
  from_bodies ls more (p ∷ []) t e h =
      let same : with_body n more p ≡ m = cc in
      record {
        normal = t;
        loops = ls;
        body = e ∙ ap (λ q. q ∷ []) (sym (body_is n more p) ∙ ap (λ (k : Nest). k.body) same);
        symbols = sym (ap (λ (k : Nest). k.symbols) same) ∙ symbols_are n more p;
      }
  from_bodies ls more (p ∷ q ∷ ps) t e h = let no : ⊥ = cc in absurd no

  from_loops : (ls : List NestedLoop) → is_normal n.symbols [] n.body ≡ true → with_loops n ls ≡ Some m → IsMadeOf n m
  unfolding with_loops
  from_loops ls t h = from_bodies ls (values_behind n.symbols n.line ls n.body) (normal_part n ls [] n.body) t refl h

  pub made_of : normalised n ≡ Some m → IsMadeOf n m
  unfolding normalised
  made_of h = by (is_normal n.symbols [] n.body) refl h
    where
      by : (b : Bool) → is_normal n.symbols [] n.body ≡ b → cond b (with_loops n (nested_loops n.symbols [] n.body)) None ≡ Some m → IsMadeOf n m
      by true t g = from_loops (nested_loops n.symbols [] n.body) t g
      by false t g = let no : ⊥ = cc in absurd no
