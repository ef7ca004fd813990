-- The lines of a printed statement are its pieces.
use Rattle.std.proofs.Common.{◌≡◌, refl, ap, ◌∙◌, sym, ℕ, zero, suc, ◌-◌, ◌*◌, ◌/◌, ◌<◌, ◌≤◌, ◌==◌, Bool, true, false, not, ◌&&◌, ◌||◌, cond, List, [], ◌∷◌, ◌++◌, length, take, drop, arith, append_assoc, append-nil, flat_map, take-append-drop, length-drop, div-mul-le_self}
use Rattle.std.specs.List.{list_all}
use Rattle.std.proofs.lemmas.Bool.{or_right, or_parts, cond-false, not-true, not_from_false, and_left, and_right, or_from}
use Rattle.f90_grammar.specs.FreeForm.{LinePiece, IsPiece, AreFurtherPieces, ArePieces, CommentedPiece, written_piece, written_block, pieces_of, comments_of, characters, joint, starts_with, ends_with, is_comment_line, is_open_behind, has_comment}
use Rattle.reading.specs.Characters.{is_blank}
use Rattle.f90_grammar.specs.PrintedText.{piece_length, further_pieces, continued, pieces, lines_of_text}

-- ---- the end of a text, and its beginning

-- the last character is neither a blank nor an ampersand
abbrev pub ends_well : List ℕ → Bool
ends_well [] = false
ends_well (c ∷ []) = not (c == 32) && not (c == 38)
ends_well (c ∷ d ∷ cs) = ends_well (d ∷ cs)

abbrev pub begins_well : List ℕ → Bool
begins_well [] = false
begins_well (c ∷ cs) = not (c == 32) && (not (c == 33) && not (c == 38))

some-end : (c d : ℕ) (cs : List ℕ) → ends_well (c ∷ d ∷ cs) ≡ ends_well (d ∷ cs)
some-end c d cs = refl

pub end_of_both : (xs ys : List ℕ) → ends_well ys ≡ true → ends_well (xs ++ ys) ≡ true
end_of_both [] ys h = h
end_of_both (x ∷ []) [] h = let q : false ≡ true = h in absurd cc
end_of_both (x ∷ []) (y ∷ ys) h = h
end_of_both (x ∷ z ∷ xs) ys h = end_of_both (z ∷ xs) ys h

end_of_drop : (n : ℕ) (t : List ℕ) → n < length t → ends_well t ≡ true → ends_well (drop n t) ≡ true
end_of_drop zero t l h = h
end_of_drop (suc n) [] l h = h
end_of_drop (suc n) (c ∷ []) l h = let k : suc n < 1 = l in absurd (omega arith)
end_of_drop (suc n) (c ∷ d ∷ cs) l h = let k : suc n < suc (length (d ∷ cs)) = l in end_of_drop n (d ∷ cs) (omega arith) h

and_true : (x y : Bool) → (x && y) ≡ true → (x ≡ true) × (y ≡ true)
and_true true y h = (refl, h)
and_true false y h = let q : false ≡ true = h in absurd cc

no_ampersand : (t : List ℕ) → ends_well t ≡ true → (list_all is_blank t ≡ false) × (ends_with 38 t ≡ false)
no_ampersand [] h = let q : false ≡ true = h in absurd cc
no_ampersand (c ∷ []) h =
    let r = and_true (not (c == 32)) (not (c == 38)) h in
    (and_left (c == 32) true (not-true (c == 32) r.0), not-true (c == 38) r.1)
no_ampersand (c ∷ d ∷ cs) h =
    let r = no_ampersand (d ∷ cs) h in
    (and_right (c == 32) (list_all is_blank (d ∷ cs)) r.0, cond-false (list_all is_blank (d ∷ cs)) (c == 38) (ends_with 38 (d ∷ cs)) r.0 ∙ r.1)

-- ---- comments and constants in two parts of a text

comment-append : (o : Bool) (xs ys : List ℕ) → has_comment o (xs ++ ys) ≡ (has_comment o xs || has_comment (is_open_behind o xs) ys)
comment-append o [] ys = refl
comment-append o (c ∷ cs) ys =
    ap (λ r. (not o && c == 33) || r) (comment-append (cond (c == 39) (not o) o) cs ys)
    ∙ or-assoc (not o && c == 33) (has_comment (cond (c == 39) (not o) o) cs) (has_comment (is_open_behind (cond (c == 39) (not o) o) cs) ys)
  where
    or-assoc : (x y z : Bool) → (x || (y || z)) ≡ ((x || y) || z)
    or-assoc true y z = refl
    or-assoc false y z = refl

-- a text without a comment, that is cut
cut_comment : (o : Bool) (n : ℕ) (t : List ℕ) → has_comment o t ≡ false
    → (has_comment o (take n t) ≡ false) × (has_comment (is_open_behind o (take n t)) (drop n t) ≡ false)
cut_comment o n t h =
    or_parts (has_comment o (take n t)) (has_comment (is_open_behind o (take n t)) (drop n t))
    (sym (comment-append o (take n t) (drop n t)) ∙ (ap (has_comment o) (take-append-drop n t) ∙ h))

-- ---- pieces

abbrev piece_of : Bool → List ℕ → Bool → LinePiece
piece_of pulled t continues =
    record { before = []; is_pulled = pulled; chars = t; is_continued = continues; is_single = false; behind = []; comment = [] }

abbrev plain : LinePiece → CommentedPiece
plain p = record { comments = []; piece = p }

-- behind the first line
abbrev pub rest_blocks : ℕ → List ℕ → List CommentedPiece
rest_blocks zero t = plain (piece_of true t false) ∷ []
rest_blocks (suc n) t = plain (piece_of true (take piece_length t) true) ∷ rest_blocks n (drop piece_length t)

abbrev pub first_piece : ℕ → List ℕ → LinePiece
first_piece zero t = piece_of false t false
first_piece (suc n) t = piece_of false (take piece_length t) true

abbrev pub further_blocks : ℕ → List ℕ → List CommentedPiece
further_blocks zero t = []
further_blocks (suc n) t = rest_blocks n (drop piece_length t)

rest-written : (n : ℕ) (t : List ℕ) → flat_map written_block (rest_blocks n t) ≡ continued n t
rest-written zero t = ap (λ cs. (38 ∷ cs) ∷ []) (append-nil t)
rest-written (suc n) t = ap (λ ls. (38 ∷ (take piece_length t ++ 38 ∷ [])) ∷ ls) (rest-written n (drop piece_length t))

pieces-written : (n : ℕ) (t : List ℕ) → written_piece (first_piece n t) ∷ flat_map written_block (further_blocks n t) ≡ pieces n t
pieces-written zero t = ap (λ cs. cs ∷ []) (append-nil t)
pieces-written (suc n) t = ap (λ ls. (take piece_length t ++ 38 ∷ []) ∷ ls) (rest-written n (drop piece_length t))

rest-characters : (n : ℕ) (t : List ℕ) → flat_map joint (pieces_of (rest_blocks n t)) ≡ t
rest-characters zero t = append-nil t
rest-characters (suc n) t = ap (λ cs. take piece_length t ++ cs) (rest-characters n (drop piece_length t)) ∙ take-append-drop piece_length t

pieces-characters : (n : ℕ) (t : List ℕ) → characters (first_piece n t ∷ pieces_of (further_blocks n t)) ≡ t
pieces-characters zero t = append-nil t
pieces-characters (suc n) t = ap (λ cs. take piece_length t ++ cs) (rest-characters n (drop piece_length t)) ∙ take-append-drop piece_length t

rest-comments : (n : ℕ) (t : List ℕ) → comments_of (rest_blocks n t) ≡ []
rest-comments zero t = refl
rest-comments (suc n) t = rest-comments n (drop piece_length t)

further-comments : (n : ℕ) (t : List ℕ) → comments_of (further_blocks n t) ≡ []
further-comments zero t = refl
further-comments (suc n) t = rest-comments n (drop piece_length t)

-- ---- each is a piece

continues : (o : Bool) (t : List ℕ) → has_comment o t ≡ false → IsPiece o (piece_of true t true)
continues o t h = record {
  blanks = refl;
  comment = not_from_false (has_comment o t) h;
  in_constant = or_right (not (is_open_behind o t)) true refl;
  leading = refl;
  final = refl;
  single = refl;
  is_line = refl;
}

closes : (o : Bool) (t : List ℕ) → has_comment o t ≡ false → ends_well t ≡ true → IsPiece o (piece_of true t false)
closes o t h e =
    let r = no_ampersand t e in
    record {
      blanks = refl;
      comment = not_from_false (has_comment o t) h;
      in_constant = or_right (not (is_open_behind o t)) true refl;
      leading = refl;
      final = not_from_false (ends_with 38 (38 ∷ t)) (cond-false (list_all is_blank t) true (ends_with 38 t) r.0 ∙ r.1);
      single = refl;
      is_line = refl;
    }

go_on : (o : Bool) (p : LinePiece) (ps : List LinePiece) → IsPiece o p → p.is_continued ≡ true → AreFurtherPieces (is_open_behind o p.chars) ps
    → AreFurtherPieces o (p ∷ ps)
go_on o p [] h c k = absurd k
go_on o p (q ∷ qs) h c k = (h, c, k)

rest_are : (o : Bool) (n : ℕ) (t : List ℕ) → has_comment o t ≡ false → ends_well t ≡ true → n * piece_length < length t
    → AreFurtherPieces o (pieces_of (rest_blocks n t))
rest_are o zero t h e l = (closes o t h e, refl)
rest_are o (suc n) t h e l =
    let r = cut_comment o piece_length t h in
    let k : suc n * 130 < length t = l in
    let m : piece_length < length t = omega arith in
    let g : n * piece_length < length (drop piece_length t) = omega (arith, length-drop piece_length t) in
    go_on o (piece_of true (take piece_length t) true) (pieces_of (rest_blocks n (drop piece_length t))) (continues o (take piece_length t) r.0) refl
    (rest_are (is_open_behind o (take piece_length t)) n (drop piece_length t) r.1 (end_of_drop piece_length t m e) g)

-- ---- the first one

begins_line : (c : ℕ) (cs more : List ℕ) → begins_well (c ∷ cs) ≡ true → (starts_with 38 (c ∷ more) ≡ false) × (is_comment_line (c ∷ more) ≡ false)
begins_line c cs more h =
    let r = and_true (not (c == 32)) (not (c == 33) && not (c == 38)) h in
    let q = and_true (not (c == 33)) (not (c == 38)) r.1 in
    let blank : (c == 32) ≡ false = not-true (c == 32) r.0 in (
      cond-false (c == 32) (starts_with 38 more) (c == 38) blank ∙ not-true (c == 38) q.1,
      or_from (list_all is_blank (c ∷ more)) (starts_with 33 (c ∷ more)) (and_left (c == 32) (list_all is_blank more) blank)
          (cond-false (c == 32) (starts_with 33 more) (c == 33) blank ∙ not-true (c == 33) q.0),
    )

opens : (c : ℕ) (cs : List ℕ) → has_comment false (c ∷ cs) ≡ false → begins_well (c ∷ cs) ≡ true → IsPiece false (piece_of false (c ∷ cs) true)
opens c cs h b =
    let r = begins_line c cs (cs ++ 38 ∷ []) b in
    record {
      blanks = refl;
      comment = not_from_false (has_comment false (c ∷ cs)) h;
      in_constant = or_right (not (is_open_behind false (c ∷ cs))) true refl;
      leading = not_from_false (starts_with 38 (c ∷ (cs ++ 38 ∷ []))) r.0;
      final = refl;
      single = refl;
      is_line = r.1;
    }

stands_alone : (c : ℕ) (cs : List ℕ) → has_comment false (c ∷ cs) ≡ false → begins_well (c ∷ cs) ≡ true → ends_well (c ∷ cs) ≡ true
    → IsPiece false (piece_of false (c ∷ cs) false)
stands_alone c cs h b e =
    let r = begins_line c cs (cs ++ []) b in
    record {
      blanks = refl;
      comment = not_from_false (has_comment false (c ∷ cs)) h;
      in_constant = or_right (not (is_open_behind false (c ∷ cs))) true refl;
      leading = not_from_false (starts_with 38 (c ∷ (cs ++ []))) r.0;
      final = not_from_false (ends_with 38 (c ∷ cs)) (no_ampersand (c ∷ cs) e).1;
      single = refl;
      is_line = r.1;
    }

first_are : (n : ℕ) (t : List ℕ) → has_comment false t ≡ false → begins_well t ≡ true → ends_well t ≡ true → n * piece_length < length t
    → ArePieces (first_piece n t ∷ pieces_of (further_blocks n t))
first_are n [] h b e l = let q : false ≡ true = b in absurd cc
first_are zero (c ∷ cs) h b e l = (stands_alone c cs h b e, refl)
first_are (suc n) (c ∷ cs) h b e l =
    let r = cut_comment false piece_length (c ∷ cs) h in
    let k : suc n * 130 < length (c ∷ cs) = l in
    let m : piece_length < length (c ∷ cs) = omega arith in
    let g : n * piece_length < length (drop piece_length (c ∷ cs)) = omega (arith, length-drop piece_length (c ∷ cs)) in
    go_on false (piece_of false (take piece_length (c ∷ cs)) true) (pieces_of (rest_blocks n (drop piece_length (c ∷ cs)))) (opens c (take 129 cs) r.0 b) refl
    (rest_are (is_open_behind false (take piece_length (c ∷ cs))) n (drop piece_length (c ∷ cs)) r.1 (end_of_drop piece_length (c ∷ cs) m e) g)

enough : (n : ℕ) → 0 < n → ((n - 1) / piece_length) * piece_length < n
enough n h = let d : ((n - 1) / 130) * 130 ≤ n - 1 = div-mul-le_self (n - 1) 130 in omega arith

some_character : (t : List ℕ) → ends_well t ≡ true → 0 < length t
some_character [] e = let q : false ≡ true = e in absurd cc
some_character (c ∷ cs) e = omega arith

-- a text that may be cut into lines
pub record IsText (t : List ℕ) : Type 0 where
  pub no_comment : has_comment false t ≡ false
  pub begins : begins_well t ≡ true
  pub ends : ends_well t ≡ true

-- its blocks, with comments before the first line
abbrev pub first_block : List (List ℕ) → List ℕ → CommentedPiece
first_block comments t = record { comments = comments; piece = first_piece (further_pieces t) t }

abbrev pub text_blocks : List ℕ → List CommentedPiece
text_blocks t = further_blocks (further_pieces t) t

pub text_pieces : (t : List ℕ) → IsText t → ArePieces (first_piece (further_pieces t) t ∷ pieces_of (text_blocks t))
text_pieces t h = first_are (further_pieces t) t h.no_comment h.begins h.ends (enough (length t) (some_character t h.ends))

pub text-written : (comments : List (List ℕ)) (t : List ℕ) → flat_map written_block (first_block comments t ∷ text_blocks t) ≡ comments ++ lines_of_text t
text-written comments t =
    append_assoc comments _ (flat_map written_block (text_blocks t)) ∙ ap (λ ls. comments ++ ls) (pieces-written (further_pieces t) t)

pub text-characters : (t : List ℕ) → characters (first_piece (further_pieces t) t ∷ pieces_of (text_blocks t)) ≡ t
text-characters t = pieces-characters (further_pieces t) t

pub text-comments : (t : List ℕ) → comments_of (text_blocks t) ≡ []
text-comments t = further-comments (further_pieces t) t
