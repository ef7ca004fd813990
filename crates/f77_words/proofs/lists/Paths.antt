-- Steps that lead from a state to another.
use Rattle.std.proofs.Common.{◌≡◌, List, [], ◌∷◌, refl, sym, ◌∙◌, subst}
use Rattle.f77_grammar.specs.expressions.Words.{Word77}
use Rattle.f77_grammar.specs.declared.directions.Direction.{Direction}
use Rattle.f77_words.specs.lists.Reader.{Frame, State, Wants, Step, Go, Stop, Fail, none, step, start, Path, here, onward, Reaches}

pub joined : (d : Direction) (s t u : State) → Path d s t → Path d t u → Path d s u
joined d s t u (here _) q = q
joined d s t u (onward _ v _ e p) q = onward s v u e (joined d v t u p q)

pub one_more : (d : Direction) (s t u : State) → Path d s t → step d t ≡ Go u → Path d s u
one_more d s t u p e = joined d s t u p (onward t u u e (here u))

pub started : (d : Direction) (ws : List Word77) (fs : List Frame) → fs ≡ none ∷ [] → Path d (start ws) (Wants fs ws)
started d ws fs e = subst (λ (q : List Frame). Path d (start ws) (Wants q ws)) (sym e) (here (start ws))

pub reaches : (d : Direction) (ws : List Word77) (t : State) (end : Step) → Path d (start ws) t → step d t ≡ end → Reaches d ws end
reaches d ws t end p e = record { state = t; path = p; ends = e }

-- nothing follows
abbrev pub IsLast : Step → Type 0
IsLast (Go s) = ⊥
IsLast (Stop f) = Unit {0}
IsLast Fail = Unit {0}

goes_not : (a b : Step) (t : State) → a ≡ Go t → a ≡ b → IsLast b → ⊥
goes_not a b t e k h = subst IsLast (sym k ∙ e) h

-- there is one state alone in which steps end
pub ends_alike : (d : Direction) (s u v : State) → Path d s u → Path d s v → IsLast (step d u) → IsLast (step d v) → u ≡ v
ends_alike d s u v (here _) (here _) h k = refl
ends_alike d s u v (here _) (onward _ t _ e q) h k = absurd (goes_not (step d s) (step d s) t e refl h)
ends_alike d s u v (onward _ t _ e p) (here _) h k = absurd (goes_not (step d s) (step d s) t e refl k)
ends_alike d s u v (onward _ t _ e p) (onward _ w _ f q) h k =
    let g : Go t ≡ Go w = sym e ∙ f in
    let same : t ≡ w = cc in
    ends_alike d t u v p (subst (λ (x : State). Path d x v) (sym same) q) h k

pub ruleset paths = (one_more, reaches)
