-- Whether a name is among others, as array forms and as texts say it.
use Rattle.std.proofs.Common.{◌≡◌, ℕ, Bool, true, false, ◌||◌, cond, List, [], ◌∷◌, refl}
use Rattle.std.specs.Str.{bytes_eq}
use Rattle.array_form.specs.forms.Loops.{is_among}
use Rattle.nest.specs.statement_loops.Names as texts

or_is : (a b c : Bool) → b ≡ c → (a || b) ≡ cond a true c
or_is true b c h = refl
or_is false b c h = h

pub among-is : (names : List (List ℕ)) (x : List ℕ) → texts.is_among names x ≡ is_among names x
among-is [] x = refl
among-is (y ∷ ys) x = or_is (bytes_eq y x) (texts.is_among ys x) (is_among ys x) (among-is ys x)

pub ruleset among_laws = (among-is)
