-- The pieces of a printable text are notes.
use Rattle.std.proofs.Common.{◌≡◌, refl, ap, ◌∙◌, ℕ, zero, suc, ◌-◌, ◌*◌, ◌/◌, ◌%◌, ◌<◌, ◌≤◌, List, [], ◌∷◌, ◌++◌}
use Rattle.std.proofs.Common.{length, take, drop, codes, append_assoc, arith, length-append, length-drop, length-take}
use Rattle.std.proofs.Common.{div-add-mod', mod-lt, lit<}
use Rattle.std.specs.List.{AllByRecursion}
use Rattle.f90_grammar.specs.PrintedText.{IsNote}
use Rattle.listing.specs.graphs.Lines.{Entry, entry_text}
use Rattle.listing.specs.graphs.Listing.{line_piece_length, further_line_pieces, line_pieces, lines_from, listing_lines_of, lines_of_entry}
use Rattle.listing.specs.graphs.Listing.{lines_of_entries}
use Rattle.listing_laws.proofs.notes.Printable.{ArePrintable, joined, both, word, beginning, end}

abbrev pub AreNotes : List (List ℕ) → Type 0
AreNotes ls = AllByRecursion IsNote ls

-- what stands before a piece
record BeginsNote (first : List ℕ) : Type 0 where
  rest : List ℕ
  begins : first ≡ codes "!G " ++ rest
  printable : ArePrintable first
  within : length first ≤ 12

note : (first : List ℕ) → BeginsNote first → (t : List ℕ) → ArePrintable t → length t ≤ 120 → IsNote (first ++ t)
note first b t h l =
    let k = b.within in
    record {
      rest = b.rest ++ t;
      begins = ap (λ s. s ++ t) b.begins ∙ append_assoc (codes "!G ") b.rest t;
      printable = both first t b.printable h;
      within = omega (arith, length-append first t, k, l);
    }

further : BeginsNote (codes "!G + ")
further = record { rest = codes "+ "; begins = refl; printable = word (codes "!G + ") refl; within = omega arith }

cut : (t : List ℕ) → length (take 120 t) ≤ 120
cut t = omega (arith, length-take 120 t)

notes : (first : List ℕ) → BeginsNote first → (n : ℕ) (t : List ℕ) → ArePrintable t → length t ≤ suc n * 120 → AreNotes (line_pieces first n t)
notes first b zero t h l = (note first b t h (omega (arith, l)), tt)
notes first b (suc n) t h l =
    let m : length (drop 120 t) ≤ suc n * 120 = omega (arith, l, length-drop 120 t) in
    (note first b (take line_piece_length t) (beginning line_piece_length t h) (cut t), notes (codes "!G + ") further n (drop line_piece_length t) (end line_piece_length t h) m)

-- the pieces are as many as the text needs
covered : (n : ℕ) → n ≤ suc ((n - 1) / 120) * 120
covered n = let d = div-add-mod' (n - 1) 120 in let m : (n - 1) % 120 < 120 = mod-lt (n - 1) (lit< tt) in omega arith

text_notes : (t : List ℕ) → ArePrintable t → AreNotes (listing_lines_of t)
unfolding lines_from
text_notes t h =
    notes (codes "!G ") (record { rest = []; begins = refl; printable = word (codes "!G ") refl; within = omega arith }) (further_line_pieces t) t h
    (covered (length t))

abbrev pub IsPrintableEntry : Entry → Type 0
IsPrintableEntry e = ArePrintable (entry_text e)

pub entry_notes : (es : List Entry) → AllByRecursion IsPrintableEntry es → AreNotes (lines_of_entries es)
entry_notes [] h = tt
entry_notes (e ∷ es) h = joined IsNote (lines_of_entry e) (lines_of_entries es) (text_notes (entry_text e) h.0) (entry_notes es h.1)
