-- Blocks and loops (ANSI X3.9-1978, sections 11.6 to 11.10). Each opener has its closer apart from all others: END IF
-- ends the nearest block IF that hasn't ended, a statement with a label ends all loops of that label, and END DO ends
-- one alone. Whatever is opened in a block IF or in a loop is closed in it.
use Rattle.std.specs.Prelude.{ℕ, zero, suc, Bool, true, false, not, ◌&&◌, ◌||◌, Option, None, Some, if◌then◌else◌, List}
use Rattle.std.specs.Prelude.{[], ◌∷◌, nat_eq}
use Rattle.std.specs.List.{list_any}
use Rattle.f77_grammar.specs.Statement77.{Labelled, Statement77, Program, ImplicitNone, Declare, Dimension, Constants}
use Rattle.f77_grammar.specs.Statement77.{Assign, Go, Test, If, ElseIf, Else, EndIf, Do, EndDo, Continue, Stop, Read}
use Rattle.f77_grammar.specs.Statement77.{Print, End}
use Rattle.f77_grammar.specs.program.Text.{Place77, label_stands_in, is_block_if, is_last_else, loop_ends_in, unended}

-- ---- what stands since

abbrev pub up_to_if : Statement77 → Labelled → (ℕ → List Labelled) → ℕ → List Labelled
up_to_if EndIf x more n = x ∷ more (suc n)
up_to_if (If c) x more zero = []
up_to_if (If c) x more (suc n) = x ∷ more n
up_to_if s x more n = x ∷ more n

-- the statements since the nearest block IF that hasn't ended; `n` END IF statements are still without theirs
abbrev pub since : List Labelled → ℕ → List Labelled
since [] n = []
since (x ∷ xs) n = up_to_if x.statement x (since xs) n

-- all statements since the nearest block IF that hasn't ended
abbrev pub since_if : List Labelled → List Labelled
since_if before = since before 0

abbrev pub until_if : List Labelled → List Labelled
until_if [] = []
until_if (x ∷ xs) = if is_block_if x.statement then [] else x ∷ until_if xs

-- those of them that stand in no block IF that has ended
abbrev pub own_since_if : List Labelled → List Labelled
own_since_if before = until_if (unended before)

abbrev pub has_open_if : List Labelled → Bool
has_open_if before = list_any (λ (x : Labelled). is_block_if x.statement) (unended before)

abbrev pub is_do_of : ℕ → Statement77 → Bool
is_do_of n (Do (Some m) x a b c) = nat_eq m n
is_do_of n _ = false

abbrev pub begins_loop : ℕ → Labelled → Bool
begins_loop n x = is_do_of n x.statement

-- the statements since the first DO of this label, the nearest first
abbrev pub since_do : ℕ → List Labelled → List Labelled
since_do n [] = []
since_do n (x ∷ xs) = if list_any (begins_loop n) xs then x ∷ since_do n xs else []

-- ---- what is closed wrongly

abbrev pub ends_here : Statement77 → (ℕ → Bool) → ℕ → Bool
ends_here EndIf more zero = true
ends_here EndIf more (suc n) = more n
ends_here (If c) more n = more (suc n)
ends_here s more n = more n

-- a block IF before these statements has its END IF among them; `n` block IFs have been opened since
abbrev pub has_end_if77 : List Labelled → ℕ → Bool
has_end_if77 [] n = false
has_end_if77 (x ∷ xs) n = ends_here x.statement (has_end_if77 xs) n

-- a loop that was opened among `since` is still open before `rest`
abbrev pub is_loop_open : List Labelled → List Labelled → Bool
is_loop_open since rest = list_any (loop_ends_in rest) since

-- a block IF or loop that was opened among `since` is still open before `rest`
abbrev pub is_anything_open : List Labelled → List Labelled → Bool
is_anything_open since rest = has_open_if since || is_loop_open since rest

-- ELSE IF and ELSE stand where the innermost open thing is a block IF that has had no ELSE
abbrev pub suits_else : Place77 → Bool
suits_else p =
    has_open_if p.before
    && not (is_loop_open (since_if p.before) (p.here ∷ p.after))
    && not (list_any (λ (x : Labelled). is_last_else x.statement) (own_since_if p.before))

-- a loop doesn't end on these (section 11.10)
abbrev pub is_no_loop_end : Statement77 → Bool
is_no_loop_end (Go n) = true
is_no_loop_end (If c) = true
is_no_loop_end (ElseIf c) = true
is_no_loop_end Else = true
is_no_loop_end EndIf = true
is_no_loop_end Stop = true
is_no_loop_end End = true
is_no_loop_end (Do label x a b c) = true
is_no_loop_end EndDo = false
is_no_loop_end (Program x) = false
is_no_loop_end ImplicitNone = false
is_no_loop_end (Declare k es) = false
is_no_loop_end (Dimension es) = false
is_no_loop_end (Constants ds) = false
is_no_loop_end (Assign left e) = false
is_no_loop_end (Test c s) = false
is_no_loop_end Continue = false
is_no_loop_end (Read is) = false
is_no_loop_end (Print is) = false

-- a loop that was opened since the first one of this label ends here too, or later
abbrev pub is_other_open : Place77 → ℕ → Bool
is_other_open p n = is_loop_open (since_do n p.before) (p.here ∷ p.after)

-- END DO ends no loop, or more than one
abbrev pub ends_not_one : Place77 → Option ℕ → Bool
ends_not_one p None = true
ends_not_one p (Some n) = not (list_any (begins_loop n) p.before) || is_other_open p n

-- a statement that ends loops is none that a loop may end on, and nothing is left open in these loops
abbrev pub ends_loops_wrongly : Place77 → Option ℕ → Bool
ends_loops_wrongly p None = false
ends_loops_wrongly p (Some n) =
    list_any (begins_loop n) p.before && (is_no_loop_end p.here.statement
    || is_anything_open (since_do n p.before) p.after)

-- a block IF has no END IF
abbrev pub stays_open77 : Statement77 → Place77 → Bool
stays_open77 (If c) p = not (has_end_if77 p.after 0)
stays_open77 _ p = false

-- a DO has no END DO, or its label doesn't come later; END DO doesn't end one loop; END IF has no block IF or leaves a
-- loop open in it; ELSE suits nothing
abbrev pub nests_wrongly : Statement77 → Place77 → Bool
nests_wrongly (Do None x a b c) p = true
nests_wrongly (Do (Some n) x a b c) p = not (label_stands_in p.after n)
nests_wrongly EndDo p = ends_not_one p p.here.label
nests_wrongly EndIf p = not (has_open_if p.before) || is_loop_open (since_if p.before) p.after
nests_wrongly (ElseIf c) p = not (suits_else p)
nests_wrongly Else p = not (suits_else p)
nests_wrongly (Program x) p = false
nests_wrongly ImplicitNone p = false
nests_wrongly (Declare k es) p = false
nests_wrongly (Dimension es) p = false
nests_wrongly (Constants ds) p = false
nests_wrongly (Assign left e) p = false
nests_wrongly (Go n) p = false
nests_wrongly (Test c s) p = false
nests_wrongly (If c) p = false
nests_wrongly Continue p = false
nests_wrongly Stop p = false
nests_wrongly (Read is) p = false
nests_wrongly (Print is) p = false
nests_wrongly End p = false

abbrev pub is_left_open : Place77 → Bool
is_left_open p = stays_open77 p.here.statement p

abbrev pub is_closed_wrongly : Place77 → Bool
is_closed_wrongly p = nests_wrongly p.here.statement p || ends_loops_wrongly p p.here.label

abbrev pub is_nested_wrongly : Place77 → Bool
is_nested_wrongly p = is_left_open p || is_closed_wrongly p
