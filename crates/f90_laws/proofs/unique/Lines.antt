-- No lines are those of two lists of statements.
use Rattle.std.proofs.Common.{arith, ◌≡◌, ℕ, ◌+◌, ◌<◌, Bool, true, false, cond, List, [], ◌∷◌, ◌++◌, length, flat_map, refl, sym, ap, subst, ◌∙◌, append_assoc, length-append}
use mathlib.Core.Path.{ap₂}
use Rattle.std.specs.List.{list_all}
use Rattle.std.specs.Char.{digit_value}
use Rattle.std.specs.Str.Parse.{AllDigits, digits_value}
use Rattle.std.proofs.lemmas.Bool.{and_parts}
use Rattle.std.proofs.lemmas.List.Folds.{list_all-append}
use Rattle.tree.specs.declared.stmts.Mark.{Mark}
use Rattle.f90_grammar.specs.FreeForm.{LinePiece, IsPiece, AreFurtherPieces, ArePieces, ampersand, written_piece, joint, characters, IsMark, AreMarks, FreeStatement, free_statement_at, CommentedPiece, written_block, pieces_of, comments_of, is_comment_line, is_open_behind, AreStatements}
use Rattle.f90_grammar.specs.FreeForm.AreMarks.{none, mark, other}
use Rattle.f90_grammar.specs.FreeForm.AreStatements.{ends, begins}
use Rattle.f90_grammar.specs.Reading.{HaveForms}
use Rattle.std.specs.Prelude.{None}
use Rattle.f90_laws.specs.unique.Unique.{OneText}
use Rattle.f90_laws.proofs.unique.Pieces.{SamePiece, piece_once}
use Rattle.f90_laws.proofs.unique.Statements.{one_reading}

-- ---- marks

no_digit : (c : ℕ) → digit_value c < 10 → c ≡ 32 → ⊥
no_digit c h e = let k : digit_value 32 < 10 = subst (λ (x : ℕ). digit_value x < 10) e h in omega arith

digits_once : (xs ys r s : List ℕ) → AllDigits 10 xs → AllDigits 10 ys → xs ++ 32 ∷ r ≡ ys ++ 32 ∷ s → (xs ≡ ys) × (r ≡ s)
digits_once [] [] r s h k e = (refl, cc)
digits_once [] (y ∷ ys) r s h k e = let w : y ≡ 32 = cc in absurd (no_digit y k.0 w)
digits_once (x ∷ xs) [] r s h k e = let w : x ≡ 32 = cc in absurd (no_digit x h.0 w)
digits_once (x ∷ xs) (y ∷ ys) r s h k e =
    let w : x ≡ y = cc in
    let t : xs ++ 32 ∷ r ≡ ys ++ 32 ∷ s = cc in
    let d = digits_once xs ys r s h.1 k.1 t in
    (ap₂ (λ (z : ℕ) (zs : List ℕ). z ∷ zs) w d.0, d.1)

abbrev mark_of : ℕ → ℕ → ℕ → Mark
mark_of a b c = record { nest = a; stmt = b; level = c }

same_mark : (m n : Mark) → m.nest ≡ n.nest → m.stmt ≡ n.stmt → m.level ≡ n.level → m ≡ n
same_mark m n a b c =
    ap (λ (x : ℕ). mark_of x m.stmt m.level) a ∙ (ap (λ (x : ℕ). mark_of n.nest x m.level) b ∙ ap (λ (x : ℕ). mark_of n.nest n.stmt x) c)

mark_once : (line : List ℕ) (m n : Mark) → IsMark line m → IsMark line n → m ≡ n
mark_once line m n h k =
    let e = sym h.same ∙ k.same in
    let f : h.first ++ 32 ∷ (h.second ++ 32 ∷ h.third) ≡ k.first ++ 32 ∷ (k.second ++ 32 ∷ k.third) = cc e in
    let a = digits_once h.first k.first _ _ h.nest.digits.1 k.nest.digits.1 f in
    let b = digits_once h.second k.second h.third k.third h.stmt.digits.1 k.stmt.digits.1 a.1 in
    same_mark m n
    (h.nest.value ∙ (ap (λ (t : List ℕ). digits_value 10 t) a.0 ∙ sym k.nest.value))
    (h.stmt.value ∙ (ap (λ (t : List ℕ). digits_value 10 t) b.0 ∙ sym k.stmt.value))
    (h.level.value ∙ (ap (λ (t : List ℕ). digits_value 10 t) b.1 ∙ sym k.level.value))

data SeenMarks (ls : List (List ℕ)) (ns : List Mark) : Type 0 where
  no_line : ls ≡ [] → ns ≡ [] → SeenMarks ls ns
  is_mark : (line : List ℕ) (n : Mark) (more : List (List ℕ)) (rest : List Mark) → ls ≡ line ∷ more → ns ≡ n ∷ rest → IsMark line n
      → AreMarks more rest → SeenMarks ls ns
  is_other : (line : List ℕ) (more : List (List ℕ)) → ls ≡ line ∷ more → ((n : Mark) → IsMark line n → ⊥) → AreMarks more ns → SeenMarks ls ns

seen_marks : {ls : List (List ℕ)} {ns : List Mark} → AreMarks ls ns → SeenMarks ls ns
seen_marks none = no_line refl refl
seen_marks (mark line n {ls} {ms} i r) = is_mark line n ls ms refl refl i r
seen_marks (other line {ls} {ms} i r) = is_other line ls refl i r

marks_once : {ls : List (List ℕ)} {ms : List Mark} → AreMarks ls ms → (ns : List Mark) → AreMarks ls ns → ms ≡ ns
marks_once none ns k = by (seen_marks k)
  where
    by : SeenMarks [] ns → [] ≡ ns
    by (no_line a b) = sym b
    by (is_mark line n more rest a b i r) = absurd (cc)
    by (is_other line more a i r) = absurd (cc)
marks_once (mark line m {ls} {ms} i r) ns k = by (λ us j. marks_once r us j) (seen_marks k)
  where
    by : ((us : List Mark) → AreMarks ls us → ms ≡ us) → SeenMarks (line ∷ ls) ns → m ∷ ms ≡ ns
    by ih (no_line a b) = absurd (cc)
    by ih (is_mark first n more rest a b j q) =
        let w : first ≡ line = cc in
        let t : more ≡ ls = cc in
        ap₂ (λ (x : Mark) (xs : List Mark). x ∷ xs) (mark_once line m n i (subst (λ (u : List ℕ). IsMark u n) w j))
        (ih rest (subst (λ (us : List (List ℕ)). AreMarks us rest) t q)) ∙ sym b
    by ih (is_other first more a j q) = let w : line ≡ first = cc in absurd (j m (subst (λ (u : List ℕ). IsMark u m) w i))
marks_once (other line {ls} {ms} i r) ns k = by (λ us j. marks_once r us j) (seen_marks k)
  where
    by : ((us : List Mark) → AreMarks ls us → ms ≡ us) → SeenMarks (line ∷ ls) ns → ms ≡ ns
    by ih (no_line a b) = absurd (cc)
    by ih (is_mark first n more rest a b j q) = let w : first ≡ line = cc in absurd (i n (subst (λ (u : List ℕ). IsMark u n) w j))
    by ih (is_other first more a j q) = let t : more ≡ ls = cc in ih ns (subst (λ (us : List (List ℕ)). AreMarks us ns) t q)

-- ---- comment lines before a line of a statement

record SameFront (cs ds : List (List ℕ)) (p q : List ℕ) (xs ys : List (List ℕ)) : Type 0 where
  pub comments : cs ≡ ds
  pub line : p ≡ q
  pub rest : xs ≡ ys

clash : (b : Bool) → b ≡ true → b ≡ false → ⊥
clash b h k = cc

fronts_once : (cs ds : List (List ℕ)) (p q : List ℕ) (xs ys : List (List ℕ)) → list_all is_comment_line cs ≡ true
    → list_all is_comment_line ds ≡ true → is_comment_line p ≡ false → is_comment_line q ≡ false → cs ++ p ∷ xs ≡ ds ++ q ∷ ys
    → SameFront cs ds p q xs ys
fronts_once [] [] p q xs ys h k a b e = record { comments = refl; line = cc; rest = cc }
fronts_once [] (d ∷ ds) p q xs ys h k a b e =
    let w : p ≡ d = cc in
    absurd (clash (is_comment_line d) (and_parts (is_comment_line d) (list_all is_comment_line ds) k).0 (sym (ap is_comment_line w) ∙ a))
fronts_once (c ∷ cs) [] p q xs ys h k a b e =
    let w : q ≡ c = cc in
    absurd (clash (is_comment_line c) (and_parts (is_comment_line c) (list_all is_comment_line cs) h).0 (sym (ap is_comment_line w) ∙ b))
fronts_once (c ∷ cs) (d ∷ ds) p q xs ys h k a b e =
    let w : c ≡ d = cc in
    let t : cs ++ p ∷ xs ≡ ds ++ q ∷ ys = cc in
    let f = fronts_once cs ds p q xs ys (and_parts (is_comment_line c) (list_all is_comment_line cs) h).1
    (and_parts (is_comment_line d) (list_all is_comment_line ds) k).1 a b t in
    record { comments = ap₂ (λ (u : List ℕ) (us : List (List ℕ)). u ∷ us) w f.comments; line = f.line; rest = f.rest }

-- ---- the lines of a statement

block_front : (b : CommentedPiece) (bs : List CommentedPiece) (r : List (List ℕ))
    → flat_map written_block (b ∷ bs) ++ r ≡ b.comments ++ written_piece b.piece ∷ (flat_map written_block bs ++ r)
block_front b bs r = simp append_assoc

split_comments : (b : CommentedPiece) (bs : List CommentedPiece) → list_all is_comment_line (comments_of (b ∷ bs)) ≡ true
    → (list_all is_comment_line b.comments ≡ true) × (list_all is_comment_line (comments_of bs) ≡ true)
split_comments b bs h =
    and_parts (list_all is_comment_line b.comments) (list_all is_comment_line (comments_of bs))
    (sym (list_all-append is_comment_line b.comments (comments_of bs)) ∙ h)

first_piece : (o : Bool) (b : CommentedPiece) (bs : List CommentedPiece) → AreFurtherPieces o (pieces_of (b ∷ bs)) → IsPiece o b.piece
first_piece o b [] h = h.0
first_piece o b (c ∷ cs) h = h.0

fronts : (o : Bool) (b : CommentedPiece) (bs : List CommentedPiece) (c : CommentedPiece) (cs : List CommentedPiece) (r s : List (List ℕ))
    → list_all is_comment_line (comments_of (b ∷ bs)) ≡ true → list_all is_comment_line (comments_of (c ∷ cs)) ≡ true
    → AreFurtherPieces o (pieces_of (b ∷ bs)) → AreFurtherPieces o (pieces_of (c ∷ cs))
    → flat_map written_block (b ∷ bs) ++ r ≡ flat_map written_block (c ∷ cs) ++ s
    → SameFront b.comments c.comments (written_piece b.piece) (written_piece c.piece) (flat_map written_block bs ++ r) (flat_map written_block cs ++ s)
fronts o b bs c cs r s h k p q e =
    fronts_once b.comments c.comments (written_piece b.piece) (written_piece c.piece) (flat_map written_block bs ++ r) (flat_map written_block cs ++ s)
    (split_comments b bs h).0 (split_comments c cs k).0 (first_piece o b bs p).is_line (first_piece o c cs q).is_line
    (sym (block_front b bs r) ∙ (e ∙ block_front c cs s))

record SameBlocks (b : CommentedPiece) (bs : List CommentedPiece) (c : CommentedPiece) (cs : List CommentedPiece) (r s : List (List ℕ)) : Type 0 where
  pub comments : b.comments ≡ c.comments
  pub further : comments_of bs ≡ comments_of cs
  pub piece : SamePiece b.piece c.piece
  pub joints : flat_map joint (pieces_of bs) ≡ flat_map joint (pieces_of cs)
  pub rest : r ≡ s

joint_same : (p q : LinePiece) → SamePiece p q → joint p ≡ joint q
joint_same p q h = by p.is_pulled q.is_pulled p.chars q.chars h.pulled h.chars
  where
    by : (a b : Bool) (x y : List ℕ) → a ≡ b → x ≡ y → cond a x (10 ∷ x) ≡ cond b y (10 ∷ y)
    by a b x y e f = rw (e, f) refl

blocks_once : (o : Bool) (b : CommentedPiece) (bs : List CommentedPiece) (c : CommentedPiece) (cs : List CommentedPiece) (r s : List (List ℕ))
    → list_all is_comment_line (comments_of (b ∷ bs)) ≡ true → list_all is_comment_line (comments_of (c ∷ cs)) ≡ true
    → AreFurtherPieces o (pieces_of (b ∷ bs)) → AreFurtherPieces o (pieces_of (c ∷ cs))
    → flat_map written_block (b ∷ bs) ++ r ≡ flat_map written_block (c ∷ cs) ++ s → SameBlocks b bs c cs r s
blocks_once o b [] c [] r s h k p q e =
    let f = fronts o b [] c [] r s h k p q e in
    record { comments = f.comments; further = refl; piece = piece_once o b.piece c.piece p.0 q.0 f.line; joints = refl; rest = f.rest }
blocks_once o b [] c (d ∷ ds) r s h k p q e =
    let f = fronts o b [] c (d ∷ ds) r s h k p q e in
    let x = piece_once o b.piece c.piece p.0 q.0 f.line in
    absurd (clash c.piece.is_continued q.1 (sym x.continued ∙ p.1))
blocks_once o b (a ∷ others) c [] r s h k p q e =
    let f = fronts o b (a ∷ others) c [] r s h k p q e in
    let x = piece_once o b.piece c.piece p.0 q.0 f.line in
    absurd (clash c.piece.is_continued (sym x.continued ∙ p.1) q.1)
blocks_once o b (a ∷ others) c (d ∷ ds) r s h k p q e =
    let f = fronts o b (a ∷ others) c (d ∷ ds) r s h k p q e in
    let x = piece_once o b.piece c.piece p.0 q.0 f.line in
    let more = subst (λ (t : List ℕ). AreFurtherPieces (is_open_behind o t) (pieces_of (d ∷ ds))) (sym x.chars) q.2 in
    let y = blocks_once (is_open_behind o b.piece.chars) a others d ds r s (split_comments b (a ∷ others) h).1 (split_comments c (d ∷ ds) k).1
    p.2 more f.rest in
    record {
      comments = f.comments;
      further = ap₂ (λ (u v : List (List ℕ)). u ++ v) y.comments y.further;
      piece = x;
      joints = ap₂ (λ (u v : List ℕ). u ++ v) (joint_same a.piece d.piece y.piece) y.joints;
      rest = y.rest;
    }

-- ---- the statements

data Seen (n : ℕ) (ls : List (List ℕ)) (ts : List FreeStatement) : Type 0 where
  no_more : ts ≡ [] → list_all is_comment_line ls ≡ true → Seen n ls ts
  one_more : (b : CommentedPiece) (bs : List CommentedPiece) (ahead within : List Mark) (rest : List (List ℕ)) (more : List FreeStatement)
      → ls ≡ flat_map written_block (b ∷ bs) ++ rest
      → ts ≡ free_statement_at (n + length b.comments) ahead (characters (pieces_of (b ∷ bs))) within ∷ more
      → list_all is_comment_line (comments_of (b ∷ bs)) ≡ true → ArePieces (pieces_of (b ∷ bs)) → AreMarks b.comments ahead
      → AreMarks (comments_of bs) within → AreStatements (n + length (flat_map written_block (b ∷ bs))) rest more → Seen n ls ts

seen : {n : ℕ} {ls : List (List ℕ)} {ts : List FreeStatement} → AreStatements n ls ts → Seen n ls ts
seen (ends n cs c) = no_more refl c
seen (begins n b bs ahead within rest more c p m w r) = one_more b bs ahead within rest more refl refl c p m w r

no_comments : (o : Bool) (b : CommentedPiece) (bs : List CommentedPiece) (r : List (List ℕ)) → AreFurtherPieces o (pieces_of (b ∷ bs))
    → list_all is_comment_line (flat_map written_block (b ∷ bs) ++ r) ≡ true → ⊥
no_comments o b bs r p h =
    let all = ap (list_all is_comment_line) (sym (block_front b bs r)) ∙ h in
    let two = and_parts (list_all is_comment_line b.comments) (list_all is_comment_line (written_piece b.piece ∷ (flat_map written_block bs ++ r)))
    (sym (list_all-append is_comment_line b.comments (written_piece b.piece ∷ (flat_map written_block bs ++ r))) ∙ all) in
    let line = and_parts (is_comment_line (written_piece b.piece)) (list_all is_comment_line (flat_map written_block bs ++ r)) two.1 in
    clash (is_comment_line (written_piece b.piece)) line.0 (first_piece o b bs p).is_line

same_statement : (n m : ℕ) (a b : List Mark) (c d : List ℕ) (v w : List Mark) → n ≡ m → a ≡ b → c ≡ d → v ≡ w
    → free_statement_at n a c v ≡ free_statement_at m b d w
same_statement n m a b c d v w e f g h = rw (e, f, g, h) refl

same_characters : (a b : Bool) (x y u v : List ℕ) → a ≡ b → x ≡ y → u ≡ v → ampersand a ++ (x ++ u) ≡ ampersand b ++ (y ++ v)
same_characters a b x y u v e f g = rw (e, f, g) refl

module _ (n : ℕ) (b : CommentedPiece) (bs : List CommentedPiece) (ahead within : List Mark) (rest : List (List ℕ)) (more : List FreeStatement)
    (c : list_all is_comment_line (comments_of (b ∷ bs)) ≡ true) (p : ArePieces (pieces_of (b ∷ bs))) (m : AreMarks b.comments ahead)
    (w : AreMarks (comments_of bs) within)
    (ih : (ts : List FreeStatement) → AreStatements (n + length (flat_map written_block (b ∷ bs))) rest ts → more ≡ ts) where
  begun : (ts : List FreeStatement) → Seen n (flat_map written_block (b ∷ bs) ++ rest) ts
      → free_statement_at (n + length b.comments) ahead (characters (pieces_of (b ∷ bs))) within ∷ more ≡ ts
  begun ts (no_more e k) = absurd (no_comments false b bs rest p k)
  begun ts (one_more d ds front inner tail others e t k q i j r) =
      let s = blocks_once false b bs d ds rest tail c k p q e in
      let x = flat_map written_block (b ∷ bs) in
      let y = flat_map written_block (d ∷ ds) in
      let l : length x + length rest ≡ length y + length tail = sym (length-append x rest) ∙ (ap length e ∙ length-append y tail) in
      let g : length x ≡ length y = omega (arith, l, ap length s.rest) in
      let z : AreStatements (n + length x) rest others
      = subst (λ (us : List (List ℕ)). AreStatements (n + length x) us others) (sym s.rest)
      (subst (λ (u : ℕ). AreStatements (n + u) tail others) (sym g) r) in
      let same = same_statement (n + length b.comments) (n + length d.comments) ahead front (characters (pieces_of (b ∷ bs)))
      (characters (pieces_of (d ∷ ds))) within inner
      (ap (λ (us : List (List ℕ)). n + length us) s.comments)
      (marks_once m front (subst (λ (us : List (List ℕ)). AreMarks us front) (sym s.comments) i))
      (same_characters b.piece.is_pulled d.piece.is_pulled b.piece.chars d.piece.chars (flat_map joint (pieces_of bs))
      (flat_map joint (pieces_of ds)) s.piece.pulled s.piece.chars s.joints)
      (marks_once w inner (subst (λ (us : List (List ℕ)). AreMarks us inner) (sym s.further) j)) in
      ap₂ (λ (u : FreeStatement) (us : List FreeStatement). u ∷ us) same (ih others z) ∙ sym t

ended : (n : ℕ) (ls : List (List ℕ)) (ts : List FreeStatement) → list_all is_comment_line ls ≡ true → Seen n ls ts → [] ≡ ts
ended n ls ts c (no_more e k) = sym e
ended n ls ts c (one_more d ds front inner tail others e t k q i j r) =
    absurd (no_comments false d ds tail q (ap (list_all is_comment_line) (sym e) ∙ c))

pub statements_once : {n : ℕ} {ls : List (List ℕ)} {ss : List FreeStatement} → AreStatements n ls ss → (ts : List FreeStatement)
    → AreStatements n ls ts → ss ≡ ts
statements_once (ends n cs c) ts k = ended n cs ts c (seen k)
statements_once (begins n b bs ahead within rest more c p m w r) ts k =
    begun n b bs ahead within rest more c p m w (λ us j. statements_once r us j) ts (seen k)

pub one_text : OneText
one_text text ps qs h k =
    let e : h.statements ≡ k.statements = statements_once h.of_lines k.statements k.of_lines in
    one_reading None k.statements ps qs (subst (λ (ss : List FreeStatement). HaveForms None ss ps) e h.have_forms) k.have_forms
