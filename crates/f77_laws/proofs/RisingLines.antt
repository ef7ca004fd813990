-- Statements on rising lines are no more than lines.
use Rattle.std.proofs.Common.{ℕ, suc, ◌+◌, ◌<◌, ◌≤◌, List, [], ◌∷◌, length, arith}
use Rattle.std.specs.List.{AllByRecursion}
use Rattle.f77_grammar.specs.Statement77.{Labelled}
use Rattle.f77_laws.specs.Source.{AreRising}
use Rattle.f77_laws.specs.Reading.{RisingLinesAreFew}

-- statements behind one at the line `low`
behind : (low n : ℕ) (xs : List Labelled) → low < n → AreRising xs → AllByRecursion (λ (y : Labelled). low < y.line) xs → AllByRecursion (λ (y : Labelled). y.line < n) xs → suc low + length xs ≤ n
behind low n [] l h g b = omega (arith, l)
behind low n (x ∷ xs) l h g b =
    let k = behind x.line n xs b.0 h.1 h.0 b.1 in
    let m = g.0 in
    omega (arith, k, m)

pub rising_lines_are_few : RisingLinesAreFew
rising_lines_are_few [] n h b = omega arith
rising_lines_are_few (x ∷ xs) n h b = let k = behind x.line n xs b.0 h.1 h.0 b.1 in omega (arith, k)
