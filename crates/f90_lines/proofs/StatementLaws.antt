-- What is read line by line are the statements of the lines.
use Rattle.std.proofs.Common.{arith, ◌≡◌, ℕ, ◌+◌, List, [], ◌∷◌, ◌++◌, length, flat_map, Bool, true, false, cond, refl, ap, sym, subst, ◌∙◌, append_assoc, append-nil, length-append, Option, Some, None}
use mathlib.Core.Path.{ap₂}
use Rattle.std.specs.Prelude.{option_to_list}
use Rattle.std.specs.List.{list_all}
use Rattle.std.specs.Str.Lines.{lines}
use Rattle.std.proofs.lemmas.Bool.{cond-true, cond-false, and_from}
use Rattle.std.proofs.lemmas.List.Folds.{list_all-append}
use Rattle.tree.specs.declared.stmts.Mark.{Mark}
use Rattle.tree.specs.declared.refusals.Refusal.{Refusal}
use Rattle.f90_grammar.specs.FreeForm.{LinePiece, ampersand, written_piece, is_comment_line, is_open_behind, AreFurtherPieces, joint, characters, AreMarks, FreeStatement, free_statement_at, CommentedPiece, written_block, pieces_of, comments_of, AreComments, AreStatements}
use Rattle.f90_grammar.specs.FreeForm.AreMarks.{none, mark, other}
use Rattle.f90_grammar.specs.FreeForm.AreStatements.{ends, begins}
use Rattle.f90_grammar.specs.LineCauses.{LineState, Between, Within, is_in_constant, initial_line, HasLineCause}
use Rattle.f90_laws.proofs.unique.Lines.{statements_once}
use Rattle.f90_lines.specs.Marks.{mark_in}
use Rattle.f90_lines.specs.Parts.{LinePart, part, part_of, first_chars, further_chars}
use Rattle.f90_lines.specs.Standings.{behind_lines}
use Rattle.f90_lines.specs.Readings.{Ahead, Inside, with_mark, mark_within, behind, statements_of}
use Rattle.f90_lines.proofs.MarkLaws.{mark_sound, mark_complete}
use Rattle.f90_lines.proofs.PartLaws.{IsPartOf, has_part}
use Rattle.f90_lines.proofs.StandingLaws.{behind_comment, behind_other, ends_between}

-- ---- marks

one_mark : (l : List ℕ) (o : Option Mark) → mark_in l ≡ o → AreMarks (l ∷ []) (option_to_list o)
one_mark l None e = other l (λ m h. absurd (let k = mark_complete l m h in cc)) none
one_mark l (Some m) e = mark l m (mark_sound l m e) none

marks_append : {ks ls : List (List ℕ)} {ms ns : List Mark} → AreMarks ks ms → AreMarks ls ns → AreMarks (ks ++ ls) (ms ++ ns)
marks_append none h = h
marks_append (mark line m i r) h = mark line m i (marks_append r h)
marks_append (other line i r) h = other line i (marks_append r h)

abbrev marks_of : List ℕ → List Mark
marks_of l = option_to_list (mark_in l)

marks_more : (ls : List (List ℕ)) (ms : List Mark) (l : List ℕ) → AreMarks ls ms → AreMarks (ls ++ l ∷ []) (ms ++ marks_of l)
marks_more ls ms l h = marks_append h (one_mark l (mark_in l) refl)

comments_both : (ks ls : List (List ℕ)) → AreComments ks → AreComments ls → AreComments (ks ++ ls)
comments_both ks ls h k = list_all-append is_comment_line ks ls ∙ and_from (list_all is_comment_line ks) (list_all is_comment_line ls) h k

comments_more : (ls : List (List ℕ)) (l : List ℕ) → AreComments ls → is_comment_line l ≡ true → AreComments (ls ++ l ∷ [])
comments_more ls l h k = comments_both ls (l ∷ []) h (and_from (is_comment_line l) true k refl)

-- ---- the blocks of a statement

abbrev block : List (List ℕ) → LinePiece → CommentedPiece
block cs p = record { comments = cs; piece = p }

abbrev part_seen : LinePiece → LinePart
part_seen p = part p.is_pulled p.is_continued p.chars

-- Comment lines and the lines behind them are the further lines of a statement, with these comments first, and a rest.
-- The statement has these characters and marks so far, and `out` is it and the statements of the rest
record Further (m : ℕ) (cs ls : List (List ℕ)) (o : Bool) (line : ℕ) (ahead : List Mark) (chars : List ℕ) (base : List Mark)
    (out : List FreeStatement) : Type 0 where
  pub first : CommentedPiece
  pub blocks : List CommentedPiece
  pub rest : List (List ℕ)
  pub more : List FreeStatement
  pub within : List Mark
  pub same : cs ++ ls ≡ flat_map written_block (first ∷ blocks) ++ rest
  pub comments : AreComments (comments_of (first ∷ blocks))
  pub pieces : AreFurtherPieces o (pieces_of (first ∷ blocks))
  pub marks : AreMarks (comments_of (first ∷ blocks)) within
  pub out_is : out ≡ free_statement_at line ahead (chars ++ flat_map joint (pieces_of (first ∷ blocks))) (base ++ within) ∷ more
  pub statements : AreStatements (m + 1 + length (flat_map written_block (first ∷ blocks))) rest more

abbrev InsideHolds : List (List ℕ) → Type 0
InsideHolds ls = (m : ℕ) (cs : List (List ℕ)) (ms : List Mark) (i : ℕ) (o : Bool) (line : ℕ) (ahead : List Mark) (chars : List ℕ) (base : List Mark)
    → AreComments cs → AreMarks cs ms → behind_lines (m + length cs) (Within i o) ls ≡ Between
    → Further m cs ls o line ahead chars base (statements_of (m + length cs) (Inside (free_statement_at line ahead chars (base ++ ms)) o) ls)

abbrev AheadHolds : List (List ℕ) → Type 0
AheadHolds ls = (m : ℕ) (cs : List (List ℕ)) (ms : List Mark) → AreComments cs → AreMarks cs ms
    → behind_lines (m + length cs) Between ls ≡ Between → AreStatements (m + 1) (cs ++ ls) (statements_of (m + length cs) (Ahead ms) ls)

record Holds (ls : List (List ℕ)) : Type 0 where
  pub inside : InsideHolds ls
  pub ahead : AheadHolds ls

-- ---- no lines

holds_none : Holds []
holds_none = record {
  inside = λ m cs ms i o line ahead chars base c k e. absurd (cc);
  ahead = λ m cs ms c k e. subst (λ (us : List (List ℕ)). AreStatements (m + 1) us []) (sym (append-nil cs)) (ends (m + 1) cs c);
}

-- ---- a comment line

length_more : (cs : List (List ℕ)) (l : List ℕ) (m : ℕ) → m + length (cs ++ l ∷ []) ≡ m + length cs + 1
length_more cs l m = omega (arith, length-append cs (l ∷ []))

chosen : {A : Type 0} (b : Bool) (x y : A) → b ≡ true → cond b x y ≡ x
chosen b x y h = cond-true b x y h

module _ (l : List ℕ) (ls : List (List ℕ)) (is_comment : is_comment_line l ≡ true) (more : Holds ls) where
  comment_ahead : AheadHolds (l ∷ ls)
  comment_ahead m cs ms c k e =
      let n = m + length cs in
      let g = length_more cs l m in
      let f : behind_lines (m + length (cs ++ l ∷ [])) Between ls ≡ Between
      = ap (λ (x : ℕ). behind_lines x Between ls) g
      ∙ (ap (λ (t : LineState). behind_lines (n + 1) t ls) (sym (behind_comment (n + 1) Between l is_comment)) ∙ e) in
      let r = more.ahead m (cs ++ l ∷ []) (ms ++ marks_of l) (comments_more cs l c is_comment) (marks_more cs ms l k) f in
      let s : statements_of n (Ahead ms) (l ∷ ls) ≡ statements_of (n + 1) (Ahead (ms ++ marks_of l)) ls
      = cond-true (is_comment_line l) (statements_of (n + 1) (Ahead (with_mark ms l)) ls) _ is_comment in
      let t : statements_of (m + length (cs ++ l ∷ [])) (Ahead (ms ++ marks_of l)) ls ≡ statements_of n (Ahead ms) (l ∷ ls)
      = ap (λ (x : ℕ). statements_of x (Ahead (ms ++ marks_of l)) ls) g ∙ sym s in
      subst (AreStatements (m + 1) (cs ++ l ∷ ls)) t
      (subst (λ (us : List (List ℕ)). AreStatements (m + 1) us (statements_of (m + length (cs ++ l ∷ [])) (Ahead (ms ++ marks_of l)) ls))
      (append_assoc cs (l ∷ []) ls) r)

  further_along : (m : ℕ) (cs : List (List ℕ)) (o : Bool) (line : ℕ) (ahead : List Mark) (chars : List ℕ) (base : List Mark)
      (out all : List FreeStatement) → out ≡ all → Further m (cs ++ l ∷ []) ls o line ahead chars base out
      → Further m cs (l ∷ ls) o line ahead chars base all
  further_along m cs o line ahead chars base out all e r = record {
    first = r.first;
    blocks = r.blocks;
    rest = r.rest;
    more = r.more;
    within = r.within;
    same = sym (append_assoc cs (l ∷ []) ls) ∙ r.same;
    comments = r.comments;
    pieces = r.pieces;
    marks = r.marks;
    out_is = sym e ∙ r.out_is;
    statements = r.statements;
  }

  comment_inside : InsideHolds (l ∷ ls)
  comment_inside m cs ms i o line ahead chars base c k e =
      let n = m + length cs in
      let g = length_more cs l m in
      let f : behind_lines (m + length (cs ++ l ∷ [])) (Within i o) ls ≡ Between
      = ap (λ (x : ℕ). behind_lines x (Within i o) ls) g
      ∙ (ap (λ (t : LineState). behind_lines (n + 1) t ls) (sym (behind_comment (n + 1) (Within i o) l is_comment)) ∙ e) in
      let r = more.inside m (cs ++ l ∷ []) (ms ++ marks_of l) i o line ahead chars base (comments_more cs l c is_comment) (marks_more cs ms l k) f in
      let st = free_statement_at line ahead chars (base ++ ms) in
      let s : statements_of n (Inside st o) (l ∷ ls) ≡ statements_of (n + 1) (Inside (mark_within st l) o) ls
      = cond-true (is_comment_line l) (statements_of (n + 1) (Inside (mark_within st l) o) ls) _ is_comment in
      let a : base ++ (ms ++ marks_of l) ≡ (base ++ ms) ++ marks_of l = sym (append_assoc base ms (marks_of l)) in
      let t : statements_of (m + length (cs ++ l ∷ [])) (Inside (free_statement_at line ahead chars (base ++ (ms ++ marks_of l))) o) ls
      ≡ statements_of n (Inside st o) (l ∷ ls)
      = ap₂ (λ (x : ℕ) (w : List Mark). statements_of x (Inside (free_statement_at line ahead chars w) o) ls) g a ∙ sym s in
      further_along m cs o line ahead chars base _ _ t r

-- ---- a line of a statement

single_block : (cs : List (List ℕ)) (p : LinePiece) (l : List ℕ) (ls : List (List ℕ)) → written_piece p ≡ l
    → cs ++ l ∷ ls ≡ flat_map written_block (block cs p ∷ []) ++ ls
single_block cs p l ls e =
    ap (λ (x : List ℕ). cs ++ x ∷ ls) (sym e)
    ∙ sym (ap (λ (us : List (List ℕ)). us ++ ls) (append-nil (cs ++ written_piece p ∷ [])) ∙ append_assoc cs (written_piece p ∷ []) ls)

-- the block before others
further_block : (cs : List (List ℕ)) (p : LinePiece) (l : List ℕ) (ls : List (List ℕ)) (b : CommentedPiece) (bs : List CommentedPiece) (rest : List (List ℕ))
    → written_piece p ≡ l → ls ≡ flat_map written_block (b ∷ bs) ++ rest
    → cs ++ l ∷ ls ≡ flat_map written_block (block cs p ∷ b ∷ bs) ++ rest
further_block cs p l ls b bs rest e f =
    ap₂ (λ (x : List ℕ) (us : List (List ℕ)). cs ++ x ∷ us) (sym e) f
    ∙ sym (append_assoc (cs ++ written_piece p ∷ []) (flat_map written_block (b ∷ bs)) rest
    ∙ append_assoc cs (written_piece p ∷ []) (flat_map written_block (b ∷ bs) ++ rest))

block_length : (cs : List (List ℕ)) (p : LinePiece) → length (written_block (block cs p)) ≡ length cs + 1
block_length cs p = omega (arith, length-append cs (written_piece p ∷ []))

blocks_length : (cs : List (List ℕ)) (p : LinePiece) (bs : List CommentedPiece)
    → length (flat_map written_block (block cs p ∷ bs)) ≡ length cs + 1 + length (flat_map written_block bs)
blocks_length cs p bs =
    omega (arith, length-append (cs ++ written_piece p ∷ []) (flat_map written_block bs), block_length cs p)

further_chars_of : (p : LinePiece) → further_chars (part_seen p) ≡ joint p
further_chars_of p = refl

module _ (l : List ℕ) (ls : List (List ℕ)) (no_comment : is_comment_line l ≡ false) (later : Holds ls) where
  -- the statements behind the part of a line
  out_ends : (n : ℕ) (o : Bool) (p : LinePart) (s : FreeStatement) → p.is_continued ≡ false
      → behind o p s (λ next. statements_of (n + 1) next ls) ≡ s ∷ statements_of (n + 1) (Ahead []) ls
  out_ends n o p s h =
      cond-false p.is_continued (statements_of (n + 1) (Inside s (is_open_behind o p.chars)) ls) (s ∷ statements_of (n + 1) (Ahead []) ls) h

  out_goes : (n : ℕ) (o : Bool) (p : LinePart) (s : FreeStatement) → p.is_continued ≡ true
      → behind o p s (λ next. statements_of (n + 1) next ls) ≡ statements_of (n + 1) (Inside s (is_open_behind o p.chars)) ls
  out_goes n o p s h =
      cond-true p.is_continued (statements_of (n + 1) (Inside s (is_open_behind o p.chars)) ls) (s ∷ statements_of (n + 1) (Ahead []) ls) h

  -- where the text stands behind it
  stands_ends : (n : ℕ) (s : LineState) (p : LinePart) → p ≡ part_of (is_in_constant s) l → p.is_continued ≡ false
      → behind_lines n s (l ∷ ls) ≡ behind_lines (n + 1) Between ls
  stands_ends n s p e h =
      ap (λ (t : LineState). behind_lines (n + 1) t ls)
      (behind_other (n + 1) s l p no_comment e
      ∙ cond-false p.is_continued (Within (initial_line (n + 1) s) (is_open_behind (is_in_constant s) p.chars)) Between h)

  stands_goes : (n : ℕ) (s : LineState) (p : LinePart) → p ≡ part_of (is_in_constant s) l → p.is_continued ≡ true
      → behind_lines n s (l ∷ ls) ≡ behind_lines (n + 1) (Within (initial_line (n + 1) s) (is_open_behind (is_in_constant s) p.chars)) ls
  stands_goes n s p e h =
      ap (λ (t : LineState). behind_lines (n + 1) t ls)
      (behind_other (n + 1) s l p no_comment e
      ∙ cond-true p.is_continued (Within (initial_line (n + 1) s) (is_open_behind (is_in_constant s) p.chars)) Between h)

  -- the statements of what is left, counted from a line
  rest_ahead : (n : ℕ) → behind_lines (n + 1) Between ls ≡ Between → AreStatements (n + 1 + 1) ls (statements_of (n + 1) (Ahead []) ls)
  rest_ahead n e =
      let z : n + 1 + 0 ≡ n + 1 = omega arith in
      let f : behind_lines (n + 1 + 0) Between ls ≡ Between = ap (λ (x : ℕ). behind_lines x Between ls) z ∙ e in
      subst (λ (x : ℕ). AreStatements (n + 1 + 1) ls (statements_of x (Ahead []) ls)) z (later.ahead (n + 1) [] [] refl none f)

  rest_inside : (n i : ℕ) (o : Bool) (line : ℕ) (ahead : List Mark) (chars : List ℕ) (base : List Mark)
      → behind_lines (n + 1) (Within i o) ls ≡ Between
      → Further (n + 1) [] ls o line ahead chars base (statements_of (n + 1) (Inside (free_statement_at line ahead chars base) o) ls)
  rest_inside n i o line ahead chars base e =
      let z : n + 1 + 0 ≡ n + 1 = omega arith in
      let f : behind_lines (n + 1 + 0) (Within i o) ls ≡ Between = ap (λ (x : ℕ). behind_lines x (Within i o) ls) z ∙ e in
      subst (λ (w : List Mark). Further (n + 1) [] ls o line ahead chars base (statements_of (n + 1) (Inside (free_statement_at line ahead chars w) o) ls))
      (append-nil base)
      (subst (λ (x : ℕ). Further (n + 1) [] ls o line ahead chars base (statements_of x (Inside (free_statement_at line ahead chars (base ++ [])) o) ls)) z
      (later.inside (n + 1) [] [] i o line ahead chars base refl none f))

  -- a further line of a statement
  module _ (m : ℕ) (cs : List (List ℕ)) (ms : List Mark) (i : ℕ) (o : Bool) (line : ℕ) (ahead : List Mark) (chars : List ℕ) (base : List Mark)
      (c : AreComments cs) (k : AreMarks cs ms) (e : behind_lines (m + length cs) (Within i o) (l ∷ ls) ≡ Between) (r : IsPartOf o l (part_of o l)) where
    abbrev piece_chars : List ℕ
    piece_chars = further_chars (part_of o l)

    abbrev so_far : FreeStatement
    so_far = free_statement_at line ahead chars (base ++ ms)

    abbrev with_line : FreeStatement
    with_line = free_statement_at line ahead (chars ++ piece_chars) (base ++ ms)

    chars_are : piece_chars ≡ joint r.piece
    chars_are = ap further_chars (sym r.seen)

    out_line : statements_of (m + length cs) (Inside so_far o) (l ∷ ls) ≡ behind o (part_of o l) with_line (λ next. statements_of (m + length cs + 1) next ls)
    out_line = cond-false (is_comment_line l) _ (behind o (part_of o l) with_line (λ next. statements_of (m + length cs + 1) next ls)) no_comment

    goes : r.piece.is_continued ≡ (part_of o l).is_continued
    goes = ap (λ (p : LinePart). p.is_continued) r.seen

    opens : is_open_behind o r.piece.chars ≡ is_open_behind o (part_of o l).chars
    opens = ap (λ (p : LinePart). is_open_behind o p.chars) r.seen

    last_line : (part_of o l).is_continued ≡ false → Further m cs (l ∷ ls) o line ahead chars base (statements_of (m + length cs) (Inside so_far o) (l ∷ ls))
    last_line h =
        let n = m + length cs in
        let b = block cs r.piece in
        let j : chars ++ piece_chars ≡ chars ++ flat_map joint (pieces_of (b ∷ []))
        = ap (λ (us : List ℕ). chars ++ us) (chars_are ∙ sym (append-nil (joint r.piece))) in
        let cn : comments_of (b ∷ []) ≡ cs = append-nil cs in
        let f : behind_lines (n + 1) Between ls ≡ Between = sym (stands_ends n (Within i o) (part_of o l) refl h) ∙ e in
        let q : n + 1 + 1 ≡ m + 1 + length (flat_map written_block (b ∷ [])) = omega (arith, blocks_length cs r.piece []) in
        record {
          first = b;
          blocks = [];
          rest = ls;
          more = statements_of (n + 1) (Ahead []) ls;
          within = ms;
          same = single_block cs r.piece l ls r.written;
          comments = ap (list_all is_comment_line) cn ∙ c;
          pieces = (r.is_piece, goes ∙ h);
          marks = subst (λ (us : List (List ℕ)). AreMarks us ms) (sym cn) k;
          out_is = out_line ∙ (out_ends n o (part_of o l) with_line h
              ∙ ap (λ (us : List ℕ). free_statement_at line ahead us (base ++ ms) ∷ statements_of (n + 1) (Ahead []) ls) j);
          statements = subst (λ (x : ℕ). AreStatements x ls (statements_of (n + 1) (Ahead []) ls)) q (rest_ahead n f);
        }

    next_line : (part_of o l).is_continued ≡ true → Further m cs (l ∷ ls) o line ahead chars base (statements_of (m + length cs) (Inside so_far o) (l ∷ ls))
    next_line h =
        let n = m + length cs in
        let o2 = is_open_behind o (part_of o l).chars in
        let f : behind_lines (n + 1) (Within i o2) ls ≡ Between = sym (stands_goes n (Within i o) (part_of o l) refl h) ∙ e in
        let x = rest_inside n i o2 line ahead (chars ++ piece_chars) (base ++ ms) f in
        let b = block cs r.piece in
        let bs = x.first ∷ x.blocks in
        let j : (chars ++ piece_chars) ++ flat_map joint (pieces_of bs) ≡ chars ++ flat_map joint (pieces_of (b ∷ bs))
        = append_assoc chars piece_chars (flat_map joint (pieces_of bs))
        ∙ ap (λ (us : List ℕ). chars ++ (us ++ flat_map joint (pieces_of bs))) chars_are in
        let w : (base ++ ms) ++ x.within ≡ base ++ (ms ++ x.within) = append_assoc base ms x.within in
        let q : n + 1 + 1 + length (flat_map written_block bs) ≡ m + 1 + length (flat_map written_block (b ∷ bs))
        = omega (arith, blocks_length cs r.piece bs) in
        record {
          first = b;
          blocks = bs;
          rest = x.rest;
          more = x.more;
          within = ms ++ x.within;
          same = further_block cs r.piece l ls x.first x.blocks x.rest r.written x.same;
          comments = comments_both cs (comments_of bs) c x.comments;
          pieces = (r.is_piece, goes ∙ h, subst (λ (t : Bool). AreFurtherPieces t (pieces_of bs)) (sym opens) x.pieces);
          marks = marks_append k x.marks;
          out_is = out_line ∙ (out_goes n o (part_of o l) with_line h ∙ (x.out_is
              ∙ ap₂ (λ (us : List ℕ) (vs : List Mark). free_statement_at line ahead us vs ∷ x.more) j w));
          statements = subst (λ (y : ℕ). AreStatements y x.rest x.more) q x.statements;
        }

    line_inside : (b : Bool) → (part_of o l).is_continued ≡ b
        → Further m cs (l ∷ ls) o line ahead chars base (statements_of (m + length cs) (Inside so_far o) (l ∷ ls))
    line_inside true h = next_line h
    line_inside false h = last_line h

  -- the first line of a statement
  module _ (m : ℕ) (cs : List (List ℕ)) (ms : List Mark) (c : AreComments cs) (k : AreMarks cs ms)
      (e : behind_lines (m + length cs) Between (l ∷ ls) ≡ Between) (r : IsPartOf false l (part_of false l)) where
    abbrev line_chars : List ℕ
    line_chars = first_chars (part_of false l)

    abbrev begun : FreeStatement
    begun = free_statement_at (m + length cs + 1) ms line_chars []

    line_chars_are : line_chars ≡ ampersand r.piece.is_pulled ++ r.piece.chars
    line_chars_are = ap first_chars (sym r.seen)

    out_first : statements_of (m + length cs) (Ahead ms) (l ∷ ls) ≡ behind false (part_of false l) begun (λ next. statements_of (m + length cs + 1) next ls)
    out_first = cond-false (is_comment_line l) _ (behind false (part_of false l) begun (λ next. statements_of (m + length cs + 1) next ls)) no_comment

    goes_first : r.piece.is_continued ≡ (part_of false l).is_continued
    goes_first = ap (λ (p : LinePart). p.is_continued) r.seen

    opens_first : is_open_behind false r.piece.chars ≡ is_open_behind false (part_of false l).chars
    opens_first = ap (λ (p : LinePart). is_open_behind false p.chars) r.seen

    number : m + length cs + 1 ≡ m + 1 + length cs
    number = omega arith

    only_line : (part_of false l).is_continued ≡ false → AreStatements (m + 1) (cs ++ l ∷ ls) (statements_of (m + length cs) (Ahead ms) (l ∷ ls))
    only_line h =
        let n = m + length cs in
        let b = block cs r.piece in
        let on = statements_of (n + 1) (Ahead []) ls in
        let cn : comments_of (b ∷ []) ≡ cs = append-nil cs in
        let f : behind_lines (n + 1) Between ls ≡ Between = sym (stands_ends n Between (part_of false l) refl h) ∙ e in
        let q : n + 1 + 1 ≡ m + 1 + length (flat_map written_block (b ∷ [])) = omega (arith, blocks_length cs r.piece []) in
        let ch : characters (pieces_of (b ∷ [])) ≡ line_chars
        = ap (λ (us : List ℕ). ampersand r.piece.is_pulled ++ us) (append-nil r.piece.chars) ∙ sym line_chars_are in
        let t : free_statement_at (m + 1 + length cs) ms (characters (pieces_of (b ∷ []))) [] ∷ on ≡ statements_of n (Ahead ms) (l ∷ ls)
        = ap₂ (λ (x : ℕ) (us : List ℕ). free_statement_at x ms us [] ∷ on) (sym number) ch ∙ sym (out_first ∙ out_ends n false (part_of false l) begun h) in
        subst (AreStatements (m + 1) (cs ++ l ∷ ls)) t
        (subst (λ (us : List (List ℕ)). AreStatements (m + 1) us (free_statement_at (m + 1 + length cs) ms (characters (pieces_of (b ∷ []))) [] ∷ on))
        (sym (single_block cs r.piece l ls r.written))
        (begins (m + 1) b [] ms [] ls on (ap (list_all is_comment_line) cn ∙ c) (r.is_piece, goes_first ∙ h) k none
        (subst (λ (x : ℕ). AreStatements x ls on) q (rest_ahead n f))))

    initial : (part_of false l).is_continued ≡ true → AreStatements (m + 1) (cs ++ l ∷ ls) (statements_of (m + length cs) (Ahead ms) (l ∷ ls))
    initial h =
        let n = m + length cs in
        let o2 = is_open_behind false (part_of false l).chars in
        let f : behind_lines (n + 1) (Within (n + 1) o2) ls ≡ Between = sym (stands_goes n Between (part_of false l) refl h) ∙ e in
        let x = rest_inside n (n + 1) o2 (n + 1) ms line_chars [] f in
        let b = block cs r.piece in
        let bs = x.first ∷ x.blocks in
        let q : n + 1 + 1 + length (flat_map written_block bs) ≡ m + 1 + length (flat_map written_block (b ∷ bs))
        = omega (arith, blocks_length cs r.piece bs) in
        let joints = flat_map joint (pieces_of bs) in
        let ch : characters (pieces_of (b ∷ bs)) ≡ line_chars ++ joints
        = sym (append_assoc (ampersand r.piece.is_pulled) r.piece.chars joints) ∙ ap (λ (us : List ℕ). us ++ joints) (sym line_chars_are) in
        let t : free_statement_at (m + 1 + length cs) ms (characters (pieces_of (b ∷ bs))) x.within ∷ x.more ≡ statements_of n (Ahead ms) (l ∷ ls)
        = ap₂ (λ (y : ℕ) (us : List ℕ). free_statement_at y ms us x.within ∷ x.more) (sym number) ch
        ∙ sym (out_first ∙ (out_goes n false (part_of false l) begun h ∙ x.out_is)) in
        subst (AreStatements (m + 1) (cs ++ l ∷ ls)) t
        (subst (λ (us : List (List ℕ)). AreStatements (m + 1) us (free_statement_at (m + 1 + length cs) ms (characters (pieces_of (b ∷ bs))) x.within ∷ x.more))
        (sym (further_block cs r.piece l ls x.first x.blocks x.rest r.written x.same))
        (begins (m + 1) b bs ms x.within x.rest x.more (comments_both cs (comments_of bs) c x.comments)
        (r.is_piece, goes_first ∙ h, subst (λ (t : Bool). AreFurtherPieces t (pieces_of bs)) (sym opens_first) x.pieces) k x.marks
        (subst (λ (y : ℕ). AreStatements y x.rest x.more) q x.statements)))

    line_ahead : (b : Bool) → (part_of false l).is_continued ≡ b → AreStatements (m + 1) (cs ++ l ∷ ls) (statements_of (m + length cs) (Ahead ms) (l ∷ ls))
    line_ahead true h = initial h
    line_ahead false h = only_line h

holds_by : (b : Bool) (l : List ℕ) (ls : List (List ℕ)) → is_comment_line l ≡ b → Holds ls → Holds (l ∷ ls)
holds_by true l ls e h = record { inside = comment_inside l ls e h; ahead = comment_ahead l ls e h }
holds_by false l ls e h = record {
  inside = λ m cs ms i o line ahead chars base c k f.
      line_inside l ls e h m cs ms i o line ahead chars base c k f (has_part o l e) (part_of o l).is_continued refl;
  ahead = λ m cs ms c k f. line_ahead l ls e h m cs ms c k f (has_part false l e) (part_of false l).is_continued refl;
}

holds : (ls : List (List ℕ)) → Holds ls
holds [] = holds_none
holds (l ∷ ls) = holds_by (is_comment_line l) l ls refl (holds ls)

abbrev read_of : List ℕ → List FreeStatement
read_of text = statements_of 0 (Ahead []) (lines text)

are_read : (text : List ℕ) → behind_lines 0 Between (lines text) ≡ Between → AreStatements 1 (lines text) (read_of text)
are_read text e = (holds (lines text)).ahead 0 [] [] refl none e

pub are_statements : (text : List ℕ) → ((r : Refusal) → HasLineCause text r → ⊥) → AreStatements 1 (lines text) (read_of text)
are_statements text h = are_read text (ends_between text h)

pub only_statements : (text : List ℕ) (ss : List FreeStatement) → ((r : Refusal) → HasLineCause text r → ⊥) → AreStatements 1 (lines text) ss
    → read_of text ≡ ss
only_statements text ss h k = statements_once (are_statements text h) ss k
