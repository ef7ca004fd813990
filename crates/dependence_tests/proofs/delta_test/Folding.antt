-- Facts of all members, gathered one by one.
use Rattle.std.proofs.Common.{◌≡◌, ℕ, ◌+◌, ◌<◌, ◌≤◌, ◌↔◌, List, [], ◌∷◌, ◌++◌, length, take, get_or, ap, subst, sym, arith, ◌∙◌}
use Rattle.std.specs.Prelude.{ℤ, pos, ◌-ℤ◌, All}
use Rattle.std.proofs.Math.Seq.{take-length}
use Rattle.std.proofs.lemmas.List.{take_more}
use Rattle.std.proofs.lemmas.List.Elements.{All-push, All-nil, All-cons, All-head, All-tail}
use Rattle.subscripts.specs.Classes.{Loop, first_of, second_of}
use Rattle.subscripts.specs.declared.pairing.Pairing.{Pairing}
use Rattle.dependence_tests.specs.loop_lines.line_points.Lines.{OnLine}
use Rattle.dependence_tests.specs.declared.loop_lines.line_points.points.Line.{Line}
use Rattle.dependence_tests.specs.loop_lines.OneLoop.{IsLineOf}
use Rattle.dependence_tests.specs.delta_test.Constraints.{Allows}
use Rattle.dependence_tests.specs.declared.delta_test.constraint.Constraint.{Constraint}
use Rattle.dependence_tests.specs.delta_test.Groups.{line_at, OnAllLines}

pub take_all : {X : Type 0} (n : ℕ) (xs : List X) → n ≤ length xs → length xs ≤ n → take n xs ≡ xs
take_all n xs h k = let e : n ≡ length xs = omega arith in ap (λ (m : ℕ). take m xs) e ∙ take-length xs

fore : {X : Type 0} (P : X → Type 0) (xs : List X) (x : X) → All P (xs ++ (x ∷ [])) → All P xs
fore P [] x a = All-nil P
fore P (y ∷ ys) x a = All-cons P y ys (All-head P y (ys ++ (x ∷ [])) a) (fore P ys x (All-tail P y (ys ++ (x ∷ [])) a))

last : {X : Type 0} (P : X → Type 0) (xs : List X) (x : X) → All P (xs ++ (x ∷ [])) → P x
last P [] x a = All-head P x [] a
last P (y ∷ ys) x a = last P ys x (All-tail P y (ys ++ (x ∷ [])) a)

-- one member more
pub one_more : {X : Type 0} (P : X → Type 0) (xs : List X) (k : ℕ) (e : X) → k < length xs → All P (take (k + 1) xs) ↔ (All P (take k xs) × P (get_or xs k e))
one_more {X} P xs k e h =
    let m : take (k + 1) xs ≡ take k xs ++ (get_or xs k e ∷ []) = take_more xs k e h in (
      λ a. let b : All P (take k xs ++ (get_or xs k e ∷ [])) = subst (λ (z : List X). All P z) m a in (fore P (take k xs) (get_or xs k e) b, last P (take k xs) (get_or xs k e) b),
      λ p. rw m (All-push P (take k xs) (get_or xs k e) p.0 p.1),
    )

pub is_line_at : (p : Pairing) (l : Loop) (line : Line) → IsLineOf p l line → line ≡ line_at l p
is_line_at p l line h =
    ap (λ (a : ℤ). record { first = a; second = line.second; constant = line.constant }) h.first
    ∙ ap (λ (b : ℤ). record { first = first_of p l; second = b; constant = line.constant }) h.second
    ∙ ap (λ (c : ℤ). record { first = first_of p l; second = pos 0 -ℤ second_of p l; constant = c }) h.constant

-- the meet with one line more
pub line_more : (ps : List Pairing) (l : Loop) (k : ℕ) (e : Pairing) (line : Line) (shared new met : Constraint) (i j : ℤ) → k < length ps → IsLineOf (get_or ps k e) l line
    → Allows shared i j ↔ OnAllLines l (take k ps) i j → Allows new i j ↔ OnLine line i j → Allows met i j ↔ (Allows shared i j × Allows new i j)
    → Allows met i j ↔ OnAllLines l (take (k + 1) ps) i j
line_more ps l k e line shared new met i j h o s n m =
    let same = is_line_at (get_or ps k e) l line o in
    let more = one_more (λ p. OnLine (line_at l p) i j) ps k e h in (
      λ a. let b = m.0 a in more.1 (s.0 b.0, subst (λ (z : Line). OnLine z i j) same (n.0 b.1)),
      λ a. let b = more.0 a in m.1 (s.1 b.0, n.1 (subst (λ (z : Line). OnLine z i j) (sym same) b.1)),
    )
