-- GO TO (ANSI X3.9-1978, sections 11.1 and 11.6 to 11.10): forwards, never into a block or loop.
use Rattle.std.specs.Prelude.{ℕ, Bool, true, false, ◌||◌, Option, None, Some, List, ◌∷◌}
use Rattle.std.specs.List.{list_any, find}
use Rattle.f77_grammar.specs.Statement77.{Labelled, Statement77, Go}
use Rattle.f77_grammar.specs.program.Text.{Place77, places, action, bears, is_block_if, is_else, is_end_if}
use Rattle.f77_grammar.specs.program.Text.{is_declaration, loop_ends_in, unended}

-- where the label stands among these statements; what stands before it there is what a jump passes over
abbrev pub place_of_label : ℕ → List Labelled → Option Place77
place_of_label n text = find (λ (p : Place77). bears n p.here) (places text)

abbrev pub opens_arm : Statement77 → Bool
opens_arm s = is_block_if s || is_else s

-- a block IF, one of its later arms, or a loop, was opened on the way and is still open at its end
abbrev pub enters_block : Place77 → Bool
enters_block way = list_any (λ (x : Labelled). opens_arm x.statement) (unended way.before)
    || list_any (loop_ends_in (way.here ∷ way.after)) way.before

-- ELSE IF, ELSE, END IF or a declaration
abbrev pub is_no_target : Statement77 → Bool
is_no_target s = is_else s || is_end_if s || is_declaration s

abbrev pub leads_wrongly : Option Place77 → Bool
leads_wrongly None = true
leads_wrongly (Some way) = enters_block way || is_no_target way.here.statement

-- a GO TO goes backwards, or to itself, into a block or loop, or to such a statement
abbrev pub jumps_wrongly : List Labelled → Statement77 → Bool
jumps_wrongly after (Go n) = leads_wrongly (place_of_label n after)
jumps_wrongly after _ = false

abbrev pub has_wrong_jump : Place77 → Bool
has_wrong_jump p = jumps_wrongly p.after (action p.here.statement)
