-- How a text is cut into lines.
use Rattle.std.proofs.Common.{◌≡◌, ℕ, suc, ◌-◌, ◌/◌, ◌<◌, ◌≤◌, List, [], ◌∷◌, ◌++◌, length, take, drop, ap, arith, codes, length-drop}
use Rattle.listing.specs.graphs.Listing.{line_pieces, lines_from}

pub short-lines : (first t : List ℕ) → length t ≤ 120 → lines_from first t ≡ (first ++ t) ∷ []
unfolding lines_from
short-lines first t h = let z : (length t - 1) / 120 ≡ 0 = omega arith in ap (λ n. line_pieces first n t) z

pub long-lines : (first t : List ℕ) → 120 < length t → lines_from first t ≡ (first ++ take 120 t) ∷ lines_from (codes "!G + ") (drop 120 t)
unfolding lines_from
long-lines first t h =
    let z : (length t - 1) / 120 ≡ suc ((length (drop 120 t) - 1) / 120) = omega (arith, length-drop 120 t) in
    ap (λ n. line_pieces first n t) z
