-- Texts and statements in which causes of refusal hold, or don't.
use Rattle.std.proofs.Common.{◌≡◌, ◌⊎◌, inl, inr, refl, ℕ, Bool, true, false, Option, None, Some, List, [], ◌∷◌, ◌++◌, codes, arith}
use Prim.Native.String.{String}
use Rattle.std.specs.List.{list_any}
use Rattle.tree.specs.Causes.{refusal_at}
use Rattle.tree.specs.declared.ops.Kind.TheVariants.{Integer, Logical}
use Rattle.tree.specs.declared.refusals.Cause.TheVariants.{BadByte90, LongLine, Continuation, Declared90, TypeClash90}
use Rattle.f90_grammar.specs.FreeForm.{LinePiece, IsPiece}
use Rattle.f90_grammar.specs.LineCauses.{Between, Within, LeadTo, HasLineCause, is_bad_byte90}
use Rattle.f90_grammar.specs.LineCauses.LeadTo.{nothing, comment, piece}
use Rattle.f90_grammar.specs.LineCauses.HasLineCause.{HoldsBadByte, EndsWithin}
use Rattle.f90_grammar.specs.Phrases.{Phrase90, Literal, Truth, Name, Listed, One, Value, Looped, Innermost, Round, phrase_depth90}
use Rattle.f90_grammar.specs.Forms as forms
use Rattle.f90_grammar.specs.Forms.{Form90}
use Rattle.f90_grammar.specs.Blocks.{Placed, placed_form}
use Rattle.f90_grammar.specs.Order.{Place90, is_disordered}
use Rattle.f90_grammar.specs.Contents.{has_wide_literal90}
use Rattle.f90_grammar.specs.Declared.{declares_again}
use Rattle.f90_grammar.specs.Surroundings.{is_wrong_label90}
use Rattle.f90_grammar.specs.Refusals.{HoldsAt}

-- ---- lines

-- A = &
abbrev cut : LinePiece
cut = record { before = []; is_pulled = false; chars = codes "A = "; is_continued = true; is_single = false; behind = []; comment = [] }

is_cut : IsPiece false cut
is_cut = record { blanks = refl; comment = refl; in_constant = refl; leading = refl; final = refl; single = refl; is_line = refl }

-- &
abbrev lone : LinePiece
lone = record { before = []; is_pulled = true; chars = []; is_continued = true; is_single = true; behind = []; comment = [] }

is_lone : IsPiece false lone
is_lone = record { blanks = refl; comment = refl; in_constant = refl; leading = refl; final = refl; single = refl; is_line = refl }

-- the text ends within its first statement
ends_within : HasLineCause (codes "A = &") (refusal_at Continuation 1)
ends_within = EndsWithin 1 false (piece [] cut Between is_cut nothing)

-- an ampersand alone goes on and is gone on with; the initial line is the first one
ends_behind_ampersand : HasLineCause (codes "A = &" ++ 10 ∷ codes "&") (refusal_at Continuation 1)
ends_behind_ampersand = EndsWithin 1 false (piece (codes "A = &" ∷ []) lone (Within 1 false) is_lone (piece [] cut Between is_cut nothing))

-- so too as the first line, behind a comment
ampersand_first : HasLineCause (codes "! none" ++ 10 ∷ codes "&") (refusal_at Continuation 2)
ampersand_first = EndsWithin 2 false (piece (codes "! none" ∷ []) lone Between is_lone (comment [] (codes "! none") Between refl nothing))

-- a tab, outside a comment and in one
abbrev tabbed : LinePiece
tabbed = record { before = []; is_pulled = false; chars = codes "A =" ++ 9 ∷ codes "1"; is_continued = false; is_single = false; behind = []; comment = [] }

holds_tab : HasLineCause (codes "A =" ++ 9 ∷ codes "1") (refusal_at BadByte90 1)
holds_tab = HoldsBadByte [] [] tabbed Between refl nothing (record { blanks = refl; comment = refl; in_constant = refl; leading = refl; final = refl; single = refl; is_line = refl }) refl

abbrev explained : LinePiece
explained = record { before = []; is_pulled = false; chars = codes "A = 1 "; is_continued = false; is_single = false; behind = []; comment = codes "!" ++ 9 ∷ [] }

is_explained : IsPiece false explained
is_explained = record { blanks = refl; comment = refl; in_constant = refl; leading = refl; final = refl; single = refl; is_line = refl }

explained_free : list_any is_bad_byte90 explained.chars ≡ false
explained_free = refl

-- ---- statements

abbrev s : ℕ → Form90 → Placed
s line f = placed_form line None f

abbrev v : String → Phrase90
v x = Name (codes x)

abbrev n : String → Phrase90
n digits = Literal (codes digits)

abbrev place : List Placed → Placed → List Placed → Place90
place before here after = record { before = before; here = here; after = after }

abbrev scalar : String → forms.EntityForm90
scalar x = record { name = codes x; dimensions = [] }

abbrev up_to : String → forms.Dimension
up_to digits = forms.Upper (record { sign = None; digits = codes digits })

abbrev array : String → List forms.Dimension → forms.EntityForm90
array x ds = record { name = codes x; dimensions = ds }

-- PROGRAM P
-- I = 1
-- END
abbrev title : Placed
title = s 1 (forms.Program (codes "P"))

abbrev undeclared : Placed
undeclared = s 2 (forms.Assign (v "I") (n "1"))

abbrev last : Placed
last = s 3 forms.End

abbrev short : List Placed
short = title ∷ undeclared ∷ last ∷ []

undeclared_name : HoldsAt Declared90 short (place (title ∷ []) undeclared (last ∷ []))
undeclared_name = inr (λ h. h.0)

in_order : (is_disordered short (place [] title (undeclared ∷ last ∷ [])) ≡ false) × (is_disordered short (place (title ∷ []) undeclared (last ∷ [])) ≡ false)
    × (is_disordered short (place (title ∷ undeclared ∷ []) last []) ≡ false)
in_order = (refl, refl, refl)

-- END PROGRAM with the program's name, and with another
named_end : (is_disordered (title ∷ s 2 (forms.EndProgram (Some (codes "P"))) ∷ []) (place (title ∷ []) (s 2 (forms.EndProgram (Some (codes "P")))) []) ≡ false)
    × (is_disordered (title ∷ s 2 (forms.EndProgram (Some (codes "Q"))) ∷ []) (place (title ∷ []) (s 2 (forms.EndProgram (Some (codes "Q")))) []) ≡ true)
named_end = (refl, refl)

-- a program without END
no_end : is_disordered (s 1 forms.Stop ∷ []) (place [] (s 1 forms.Stop) []) ≡ true
no_end = refl

-- IF (.TRUE.) THEN
-- DO I = 1, 2
-- END IF
-- END DO
-- END
abbrev first : Placed
first = s 1 (forms.If (Truth true))

abbrev second : Placed
second = s 2 (forms.Do (codes "I") (n "1") (n "2") None)

abbrev third : Placed
third = s 3 forms.EndIf

abbrev fourth : Placed
fourth = s 4 forms.EndDo

abbrev fifth : Placed
fifth = s 5 forms.End

abbrev crossed : List Placed
crossed = first ∷ second ∷ third ∷ fourth ∷ fifth ∷ []

-- the third line is the first that is wrong
crossed_blocks : (is_disordered crossed (place [] first (second ∷ third ∷ fourth ∷ fifth ∷ [])) ≡ false)
    × (is_disordered crossed (place (first ∷ []) second (third ∷ fourth ∷ fifth ∷ [])) ≡ false)
    × (is_disordered crossed (place (first ∷ second ∷ []) third (fourth ∷ fifth ∷ [])) ≡ true)
crossed_blocks = (refl, refl, refl)

-- a loop that stays open is wrong where it begins
open_loop : is_disordered (second ∷ fifth ∷ []) (place [] second (fifth ∷ [])) ≡ true
open_loop = refl

-- labels: 0, and one that stands twice
labels : (is_wrong_label90 [] (codes "0") ≡ true) × (is_wrong_label90 (s 1 (forms.Continue (codes "10")) ∷ []) (codes "10") ≡ true)
    × (is_wrong_label90 (s 1 (forms.Continue (codes "10")) ∷ []) (codes "20") ≡ false)
labels = (refl, refl, refl)

-- INTEGER :: K, A(3)
-- K = A
-- A = K
abbrev declared : Placed
declared = s 1 (forms.Declare Integer false (scalar "K" ∷ array "A" (up_to "3" ∷ []) ∷ []))

abbrev to_scalar : Placed
to_scalar = s 2 (forms.Assign (v "K") (v "A"))

abbrev to_array : Placed
to_array = s 3 (forms.Assign (v "A") (v "K"))

abbrev kinds : List Placed
kinds = declared ∷ to_scalar ∷ to_array ∷ s 4 forms.End ∷ []

declared_twice : (declares_again (declared ∷ []) (forms.Declare Logical false (scalar "A" ∷ [])) ≡ true) × (declares_again (declared ∷ []) (forms.Declare Logical false (scalar "B" ∷ [])) ≡ false)
declared_twice = (refl, refl)

-- an array is no value of a scalar
array_to_scalar : HoldsAt TypeClash90 kinds (place (declared ∷ []) to_scalar (to_array ∷ s 4 forms.End ∷ []))
array_to_scalar = λ h. by h.1
  where
    by : (◌≡◌ {A = ℕ} 1 0) ⊎ (◌≡◌ {A = ℕ} 1 0) → ⊥
    by (inl e) = omega arith
    by (inr e) = omega arith

scalar_to_array : HoldsAt TypeClash90 kinds (place (declared ∷ to_scalar ∷ []) to_array (s 4 forms.End ∷ [])) → ⊥
scalar_to_array h = h (((((refl, tt), tt), ((refl, tt), tt)), inl refl))

-- 2^127 and the literal before it
literals : (has_wide_literal90 (n "170141183460469231731687303715884105728") ≡ true) × (has_wide_literal90 (n "170141183460469231731687303715884105727") ≡ false)
literals = (refl, refl)

-- (/ ((K, I = 1, 3), J = 1, 3) /) is three deep, and A(K) one
depths : (phrase_depth90 (Looped (Round (Innermost (v "K") (codes "I") (n "1") (n "3")) (codes "J") (n "1") (n "3"))) ≡ 3) × (phrase_depth90 (Listed (codes "A") (One (Value (v "K")))) ≡ 1)
depths = (refl, refl)
