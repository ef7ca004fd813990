-- Worked spans, as another program gives them.
use Rattle.std.proofs.Common.{◌≡◌, List, [], ◌∷◌, refl, Some, None, true, false}
use Rattle.std.specs.Prelude.{ℤ, pos, negsuc}
use Rattle.subscripts.specs.declared.affine.Span.{Span}
use Rattle.nest.specs.declared.parts.Trip.{Trip}
use Rattle.dependence_graph.specs.nest_graph.Spans.{span_after}

-- of the two outermost loops, a symbol, a constant, and the divisor
abbrev trip : ℤ → ℤ → ℤ → ℤ → ℤ → Trip
trip a b s c d = record {
  top = record {
    loops = a ∷ b ∷ pos 0 ∷ pos 0 ∷ pos 0 ∷ pos 0 ∷ pos 0 ∷ [];
    syms = (0, s) ∷ (0, pos 0) ∷ (0, pos 0) ∷ (0, pos 0) ∷ (0, pos 0) ∷ (0, pos 0) ∷ (0, pos 0) ∷ (0, pos 0) ∷ [];
    constant = c;
  };
  by = d;
}

abbrev fixed : ℤ → Span
fixed n = record { last = Some n; fixed = true }

abbrev ends : ℤ → Span
ends n = record { last = Some n; fixed = false }

abbrev open_end : Span
open_end = record { last = None; fixed = false }

constant : span_after [] (trip (pos 0) (pos 0) (pos 0) (pos 9) (pos 1)) ≡ fixed (pos 9)
constant = refl

-- -7 / 2
divided : span_after [] (trip (pos 0) (pos 0) (pos 0) (negsuc 6) (pos 2)) ≡ fixed (negsuc 2)
divided = refl

-- 13 - i within 9
falling : span_after (fixed (pos 9) ∷ []) (trip (negsuc 0) (pos 0) (pos 0) (pos 13) (pos 1)) ≡ ends (pos 12)
falling = refl

-- 2 * i - j + 2 within 9 and 12
of_two : span_after (fixed (pos 9) ∷ ends (pos 12) ∷ []) (trip (pos 2) (negsuc 0) (pos 0) (pos 2) (pos 1)) ≡ ends (pos 19)
of_two = refl

-- (3 * i - 20) / 2 within 9
halved : span_after (fixed (pos 9) ∷ []) (trip (pos 3) (pos 0) (pos 0) (negsuc 19) (pos 2)) ≡ ends (pos 3)
halved = refl

-- n, and i within n
symbol : span_after [] (trip (pos 0) (pos 0) (pos 1) (pos 0) (pos 1)) ≡ open_end
symbol = refl

within_symbol : span_after (open_end ∷ []) (trip (pos 1) (pos 0) (pos 0) (pos 0) (pos 1)) ≡ open_end
within_symbol = refl

-- -i within 9, and i + 7 within -3
negative : span_after (fixed (pos 9) ∷ []) (trip (negsuc 0) (pos 0) (pos 0) (pos 0) (pos 1)) ≡ ends (pos 0)
negative = refl

within_none : span_after (fixed (negsuc 2) ∷ []) (trip (pos 1) (pos 0) (pos 0) (pos 7) (pos 1)) ≡ ends (pos 0)
within_none = refl

-- 2^20 * i within 2^20, and one more
greatest : span_after (fixed (pos 1048576) ∷ []) (trip (pos 1048576) (pos 0) (pos 0) (pos 0) (pos 1)) ≡ ends (pos 1099511627776)
greatest = refl

too_great : span_after (fixed (pos 1048576) ∷ []) (trip (pos 1048576) (pos 0) (pos 0) (pos 1) (pos 1)) ≡ open_end
too_great = refl
