-- How a long statement is cut into lines.
use Rattle.std.proofs.Common.{◌≡◌, ℕ, zero, suc, ◌-◌, ◌/◌, ◌<◌, ◌≤◌, List, [], ◌∷◌, ◌++◌, length, take, drop, refl, ap, ◌∙◌, append-nil, append_assoc, arith, codes, length-drop}
use Rattle.f90_grammar.specs.PrintedText.{pieces, continued}
use Rattle.f90_print.specs.Texts.{lines_text, statement_lines}

pub short-lines : (t : List ℕ) → length t ≤ 130 → statement_lines t ≡ t ++ 10 ∷ []
unfolding statement_lines
short-lines t h = let z : (length t - 1) / 130 ≡ 0 = omega arith in ap (λ n. lines_text (pieces n t)) z ∙ append-nil (t ++ 10 ∷ [])

continued-lines : (n : ℕ) (t : List ℕ) → lines_text (continued n t) ≡ 38 ∷ lines_text (pieces n t)
continued-lines zero t = refl
continued-lines (suc n) t = refl

joined : (a u : List ℕ) → ((a ++ 38 ∷ []) ++ 10 ∷ []) ++ (38 ∷ u) ≡ a ++ (codes "&\n&" ++ u)
joined a u = simp append_assoc

pub long-lines : (t : List ℕ) → 130 < length t → statement_lines t ≡ take 130 t ++ (codes "&\n&" ++ statement_lines (drop 130 t))
unfolding statement_lines
long-lines t h =
    let rest = drop 130 t in
    let z : (length t - 1) / 130 ≡ suc ((length (drop 130 t) - 1) / 130) = omega (arith, length-drop 130 t) in
    ap (λ n. lines_text (pieces n t)) z
    ∙ ap (λ u. ((take 130 t ++ 38 ∷ []) ++ 10 ∷ []) ++ u) (continued-lines ((length rest - 1) / 130) rest)
    ∙ joined (take 130 t) (statement_lines rest)
