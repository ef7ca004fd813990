-- The columns of a line.
use Rattle.std.proofs.Common.{arith, ◌≡◌, ℕ, ◌+◌, ◌-◌, ◌≤◌, List, ◌++◌, length, take, drop, ap, sym, ◌∙◌, inl, inr}
use Rattle.std.specs.Prelude.{replicate, min}
use Rattle.std.proofs.lemmas.Bool.{cases_lt}
use Rattle.std.proofs.lemmas.List.{take_all, take-append-le, drop-replicate, take-replicate, append-nil}
use Rattle.std.proofs.Math.Seq.{take-append-add}
use Rattle.f77_grammar.specs.Cards.{columns_of}

columns_of-short : (line : List ℕ) → length line ≤ 72 → columns_of line ≡ line ++ replicate (72 - length line) 32
unfolding columns_of
columns_of-short line h =
    let e : 72 ≡ length line + (72 - length line) = omega (arith, h) in
    ap (λ n. take n (line ++ replicate 72 32)) e ∙ take-append-add line (replicate 72 32) (72 - length line)
    ∙ ap (λ xs. line ++ xs) (take-replicate (72 - length line) 72 32 (omega arith))

columns_of-long : (line : List ℕ) → 72 ≤ length line → columns_of line ≡ take 72 line
unfolding columns_of
columns_of-long line h = take-append-le 72 line (replicate 72 32) h

-- a blank card with the line's front written over it
pub columns_written : (line blank front : List ℕ) (width : ℕ) → blank ≡ replicate 72 32 → width ≡ min (length line) 72 → front ≡ take width line → front ++ drop width blank ≡ columns_of line
columns_written line blank front width b w f =
    elim (cases_lt (length line) 72) [
      | inl short ↦
          (let same : width ≡ length line = omega (arith, w, short) in
          ap (λ xs. xs ++ drop width blank) (f ∙ take_all width line (omega (arith, same))) ∙ ap (λ xs. line ++ drop width xs) b
          ∙ ap (λ xs. line ++ xs) (drop-replicate width 72 32 ∙ ap (λ n. replicate (72 - n) 32) same) ∙ sym (columns_of-short line (omega (arith, short))))
      | inr long ↦
          (let same : width ≡ 72 = omega (arith, w, long) in
          ap (λ xs. xs ++ drop width blank) (f ∙ ap (λ n. take n line) same) ∙ ap (λ xs. take 72 line ++ drop width xs) b
          ∙ ap (λ xs. take 72 line ++ xs) (drop-replicate width 72 32 ∙ ap (λ n. replicate (72 - n) 32) same) ∙ append-nil (take 72 line) ∙ sym (columns_of-long line long))
    ]
