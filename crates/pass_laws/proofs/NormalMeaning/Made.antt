-- What is made of a nest: its body, and what comes after it.
use Rattle.std.proofs.Common.{◌≡◌, refl, sym, ap, ◌∙◌, Bool, true, false, cond, List, [], ◌∷◌, Some, None}
use Rattle.std.specs.Option.{option_map}
use Rattle.tree.specs.Plain.{Block}
use Rattle.last_values.specs.ValuesBehind.{values_behind}
use Rattle.normal_loops.specs.Bodies.{normal_part}
use Rattle.normal_loops.specs.Normal.{is_normal}
use Rattle.normal_loops.specs.Normalised.{normalised, only_one, with_body, with_loops}
use Rattle.nest.specs.Allocations.{block_then}
use Rattle.nest.specs.Plain.{Part, Nest}
use Rattle.pass_laws.specs.normal_runs.Sources.{loops_in}

abbrev pub behind : Nest → Block
behind n = values_behind n.symbols n.line (loops_in n) n.body

pub record IsMadeOf (n m : Nest) : Type 0 where
  pub body : only_one (normal_part n (loops_in n) [] n.body) ≡ Some m.body
  pub line : m.line ≡ n.line
  pub made : m.made ≡ n.made
  pub after : m.after ≡ block_then n.after (behind n)

record IsWithBody (n m : Nest) (more : Block) (p : Part) : Type 0 where
  pub body : m.body ≡ p
  pub line : m.line ≡ n.line
  pub made : m.made ≡ n.made
  pub after : m.after ≡ block_then n.after more

with_body_is : (n : Nest) (more : Block) (p : Part) → IsWithBody n (with_body n more p) more p
unfolding with_body
with_body_is n more p = record { body = refl; line = refl; made = refl; after = refl }

module _ (n m : Nest) where
  from_bodies : (ps : List Part) → normal_part n (loops_in n) [] n.body ≡ ps → option_map (with_body n (behind n)) (only_one ps) ≡ Some m
      → IsMadeOf n m
  from_bodies [] e h = let no : ⊥ = cc in absurd no
  from_bodies (p ∷ []) e h =
      let same : with_body n (behind n) p ≡ m = cc in
      let is = with_body_is n (behind n) p in
      record {
        body = ap only_one e ∙ ap Some (sym is.body ∙ ap (λ (k : Nest). k.body) same);
        line = sym (ap (λ (k : Nest). k.line) same) ∙ is.line;
        made = sym (ap (λ (k : Nest). k.made) same) ∙ is.made;
        after = sym (ap (λ (k : Nest). k.after) same) ∙ is.after;
      }
  from_bodies (p ∷ q ∷ ps) e h = let no : ⊥ = cc in absurd no

  from_loops : with_loops n (loops_in n) ≡ Some m → IsMadeOf n m
  unfolding with_loops
  from_loops h = from_bodies (normal_part n (loops_in n) [] n.body) refl h

  pub made_of : normalised n ≡ Some m → IsMadeOf n m
  unfolding normalised
  made_of h = by (is_normal n.symbols [] n.body) h
    where
      by : (b : Bool) → cond b (with_loops n (loops_in n)) None ≡ Some m → IsMadeOf n m
      by true g = from_loops g
      by false g = let no : ⊥ = cc in absurd no
