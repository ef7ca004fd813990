-- The statements of a text: their lines, their marks and their characters.
use Rattle.std.proofs.Common.{◌≡◌, ◌⊎◌, inl, inr, ℕ, ◌+◌, ◌-◌, ◌<◌, ◌≤◌, ◌^◌, Bool, true, false, not, ◌&&◌, ◌||◌, cond, IsTrue, Option, None, Some, List, [], ◌∷◌, ◌++◌, length, flat_map, refl, sym, ap, subst, ◌∙◌, arith, Contains, append_assoc, append-nil, length-append}
use Rattle.std.specs.Prelude.{map, ◌==◌, nat_lt}
use Rattle.std.specs.Option.{IfSome}
use Rattle.std.specs.List.{AllByRecursion, list_any, list_all, onto_first, slice_split}
use Rattle.std.specs.Str.Lines.{lines, lines_of_parts, strip_carriage_return}
use Rattle.std.proofs.lemmas.Bool.{or_cases}
use Rattle.tree.specs.declared.stmts.Mark.{Mark}
use Rattle.meaning.specs.Profile90.{IsMark}
use Rattle.f90_grammar.specs.FreeForm as free
use Rattle.f90_grammar.specs.FreeForm.{LinePiece, ampersand, written_piece, is_comment_line, is_open_behind, IsPiece, AreFurtherPieces, ArePieces, joint, characters, AreMarks, FreeStatement, free_statement_at, CommentedPiece, written_block, pieces_of, comments_of, AreComments, AreStatements}
use Rattle.f90_grammar.specs.FreeForm.AreMarks.{none, mark, other}
use Rattle.f90_grammar.specs.FreeForm.AreStatements.{ends, begins}
use Rattle.f90_grammar.specs.LineCauses.{LineState, Between, Within, is_in_constant, initial_line, behind_piece, LeadTo, is_bad_byte90}
use Rattle.f90_grammar.specs.LineCauses.LeadTo.{nothing, comment, piece}
use Rattle.f90_grammar.specs.Words.{Word90, HasWords}
use Rattle.f90_grammar.specs.Forms.{Form90, IsWritten90}
use Rattle.f90_grammar.specs.Blocks.{Placed}
use Rattle.f90_grammar.specs.Reading.{takes_mark, last_mark, if_taken, mark_left_over, HaveForms}
use Rattle.f90_laws.proofs.readings.Lists.{left_true, right_true, left_false, right_false, all_left, all_right, all_both}

-- ---- there are no more lines than bytes

record HasParts (parts : List (List ℕ)) : Type 0 where
  first : List ℕ
  more : List (List ℕ)
  is : parts ≡ first ∷ more

has_parts_by : (b : Bool) (x : ℕ) (parts : List (List ℕ)) → HasParts parts → HasParts (cond b ([] ∷ parts) (onto_first x parts))
has_parts_by true x parts h = record { first = []; more = parts; is = refl }
has_parts_by false x parts h = record { first = x ∷ h.first; more = h.more; is = ap (onto_first x) h.is }

has_parts : (text : List ℕ) → HasParts (slice_split (λ b. b == 10) text)
has_parts [] = record { first = []; more = []; is = refl }
has_parts (x ∷ text) = has_parts_by (x == 10) x (slice_split (λ b. b == 10) text) (has_parts text)

lines_of_parts-more : (front : List ℕ) (parts : List (List ℕ)) → HasParts parts → lines_of_parts (front ∷ parts) ≡ strip_carriage_return front ∷ lines_of_parts parts
lines_of_parts-more front parts h =
    ap (λ ps. lines_of_parts (front ∷ ps)) h.is ∙ ap (λ ps. strip_carriage_return front ∷ lines_of_parts ps) (sym h.is)

cond-length : (b : Bool) (line : List ℕ) → length (cond b [] (line ∷ [])) ≤ 1
cond-length true line = omega arith
cond-length false line = omega arith

parts-onto : (x : ℕ) (parts : List (List ℕ)) → length (lines_of_parts (onto_first x parts)) ≤ length (lines_of_parts parts) + 1
parts-onto x [] = cond-length (length (x ∷ []) == 0) (x ∷ [])
parts-onto x (p ∷ []) = omega (arith, cond-length (length (x ∷ p) == 0) (x ∷ p))
parts-onto x (p ∷ q ∷ more) = omega arith

parts-le_by : (b : Bool) (x : ℕ) (parts : List (List ℕ)) (n : ℕ) → HasParts parts → length (lines_of_parts parts) ≤ n → length (lines_of_parts (cond b ([] ∷ parts) (onto_first x parts))) ≤ n + 1
parts-le_by true x parts n h k = omega (arith, ap length (lines_of_parts-more [] parts h), k)
parts-le_by false x parts n h k = omega (arith, parts-onto x parts, k)

pub lines-le : (text : List ℕ) → length (lines text) ≤ length text
lines-le [] = omega arith
lines-le (x ∷ text) = omega (arith, parts-le_by (x == 10) x (slice_split (λ b. b == 10) text) (length text) (has_parts text) (lines-le text))

-- ---- marks

abbrev pub AreGoodMarks : List Mark → Type 0
AreGoodMarks ms = AllByRecursion IsMark ms

good_marks : (ls : List (List ℕ)) (ms : List Mark) → AreMarks ls ms → AreGoodMarks ms
good_marks ls ms none = tt
good_marks ls ms (mark line m h more) = (record { nest = h.nest.small; statement = h.stmt.small; level = h.level.small }, good_marks _ _ more)
good_marks ls ms (other line n more) = good_marks _ _ more

last_good : (o : Option Mark) (ms : List Mark) → IfSome o IsMark → AreGoodMarks ms → IfSome (last_mark o ms) IsMark
last_good o [] h g = h
last_good o (m ∷ ms) h g = last_good (Some m) ms g.0 g.1

taken_good : (b : Bool) (o : Option Mark) → IfSome o IsMark → IfSome (if_taken b o) IsMark
taken_good true o h = h
taken_good false o h = tt

left_good : (b : Bool) (o : Option Mark) → IfSome o IsMark → IfSome (mark_left_over b o) IsMark
left_good true o h = tt
left_good false o h = h

-- ---- characters

-- a character that a line holds, or the end of a line
abbrev pub IsPlain : ℕ → Type 0
IsPlain c = (c ≡ 10) ⊎ (is_bad_byte90 c ≡ false)

abbrev pub ArePlain : List ℕ → Type 0
ArePlain cs = AllByRecursion IsPlain cs

no_bad_by : (c : ℕ) (cs : List ℕ) (b : Bool) → is_bad_byte90 c ≡ b → (IsTrue (b || list_any is_bad_byte90 cs) → ⊥) → ((IsTrue (list_any is_bad_byte90 cs) → ⊥) → ArePlain cs) → ArePlain (c ∷ cs)
no_bad_by c cs true e h more = absurd (h refl)
no_bad_by c cs false e h more = (inr e, more h)

no_bad : (cs : List ℕ) → (IsTrue (list_any is_bad_byte90 cs) → ⊥) → ArePlain cs
no_bad [] h = tt
no_bad (c ∷ cs) h = no_bad_by c cs (is_bad_byte90 c) refl h (λ k. no_bad cs k)

-- the pieces of a statement, where no byte outside comments is bad
module _ (full : List (List ℕ)) (free_of_bad : (front back : List (List ℕ)) (p : LinePiece) (s : LineState) → full ≡ front ++ written_piece p ∷ back → LeadTo front s
    → IsPiece (is_in_constant s) p → IsTrue (list_any is_bad_byte90 p.chars) → ⊥) where
  comments_lead : (front comments : List (List ℕ)) (s : LineState) → LeadTo front s → AreComments comments → LeadTo (front ++ comments) s
  comments_lead front [] s l h = subst (λ ls. LeadTo ls s) (sym (append-nil front)) l
  comments_lead front (c ∷ cs) s l h =
      subst (λ ls. LeadTo ls s) (append_assoc front (c ∷ []) cs)
      (comments_lead (front ++ c ∷ []) cs s (comment front c s (left_true (is_comment_line c) (list_all is_comment_line cs) h) l) (right_true (is_comment_line c) (list_all is_comment_line cs) h))

  comments_split : (b : CommentedPiece) (bs : List CommentedPiece) → AreComments (comments_of (b ∷ bs)) → AreComments b.comments × AreComments (comments_of bs)
  comments_split b bs h = both b.comments h
    where
      both : (cs : List (List ℕ)) → AreComments (cs ++ comments_of bs) → AreComments cs × AreComments (comments_of bs)
      both [] h = (refl, h)
      both (c ∷ cs) h =
          let k = both cs (right_true (is_comment_line c) (list_all is_comment_line (cs ++ comments_of bs)) h) in
          (ap (λ t. t && list_all is_comment_line cs) (left_true (is_comment_line c) (list_all is_comment_line (cs ++ comments_of bs)) h) ∙ k.0, k.1)

  -- behind a block
  module _ (front : List (List ℕ)) (s : LineState) (b : CommentedPiece) (rest : List (List ℕ)) (same : full ≡ front ++ (written_block b ++ rest)) (leads : LeadTo front s)
      (comments : AreComments b.comments) (is_piece : IsPiece (is_in_constant s) b.piece) where
    behind_comments : LeadTo (front ++ b.comments) s
    behind_comments = comments_lead front b.comments s leads comments

    at_piece : full ≡ (front ++ b.comments) ++ written_piece b.piece ∷ rest
    at_piece = same ∙ (ap (λ ls. front ++ ls) (append_assoc b.comments (written_piece b.piece ∷ []) rest) ∙ sym (append_assoc front b.comments (written_piece b.piece ∷ rest)))

    pub piece_plain : ArePlain b.piece.chars
    piece_plain = no_bad b.piece.chars (free_of_bad (front ++ b.comments) rest b.piece s at_piece behind_comments is_piece)

    pub behind_block : LeadTo (front ++ written_block b) (behind_piece (length (front ++ b.comments) + 1) s b.piece)
    behind_block = subst (λ ls. LeadTo ls (behind_piece (length (front ++ b.comments) + 1) s b.piece)) (append_assoc front b.comments (written_piece b.piece ∷ [])) (piece (front ++ b.comments) b.piece s is_piece behind_comments)

  continued : (n : ℕ) (s : LineState) (p : LinePiece) → p.is_continued ≡ true → behind_piece n s p ≡ Within (initial_line n s) (is_open_behind (is_in_constant s) p.chars)
  continued n s p e = ap (λ b. cond b (Within (initial_line n s) (is_open_behind (is_in_constant s) p.chars)) Between) e

  ended : (n : ℕ) (s : LineState) (p : LinePiece) → p.is_continued ≡ false → behind_piece n s p ≡ Between
  ended n s p e = ap (λ b. cond b (Within (initial_line n s) (is_open_behind (is_in_constant s) p.chars)) Between) e

  pub record ReadBlocks (front : List (List ℕ)) (bs : List CommentedPiece) : Type 0 where
    pub plain : AllByRecursion (λ (b : CommentedPiece). ArePlain b.piece.chars) bs
    pub leads : LeadTo (front ++ flat_map written_block bs) Between

  read_blocks : (bs : List CommentedPiece) (front : List (List ℕ)) (s : LineState) (rest : List (List ℕ)) → full ≡ front ++ (flat_map written_block bs ++ rest) → LeadTo front s
      → AreComments (comments_of bs) → AreFurtherPieces (is_in_constant s) (pieces_of bs) → ReadBlocks front bs
  read_blocks [] front s rest e l c p = absurd p
  read_blocks (b ∷ []) front s rest e l c p =
      let cs = (comments_split b [] c).0 in
      let same = e ∙ ap (λ ls. front ++ (ls ++ rest)) (append-nil (written_block b)) in
      let n = length (front ++ b.comments) + 1 in
      record {
        plain = (piece_plain front s b rest same l cs p.0, tt);
        leads = subst (λ ls. LeadTo (front ++ ls) Between) (sym (append-nil (written_block b)))
            (subst (λ t. LeadTo (front ++ written_block b) t) (ended n s b.piece p.1) (behind_block front s b rest same l cs p.0));
      }
  read_blocks (b ∷ d ∷ bs) front s rest e l c p =
      let cs = comments_split b (d ∷ bs) c in
      let behind = flat_map written_block (d ∷ bs) in
      let same = e ∙ ap (λ ls. front ++ ls) (append_assoc (written_block b) behind rest) in
      let n = length (front ++ b.comments) + 1 in
      let within = Within (initial_line n s) (is_open_behind (is_in_constant s) b.piece.chars) in
      let more = read_blocks (d ∷ bs) (front ++ written_block b) within rest (same ∙ sym (append_assoc front (written_block b) (behind ++ rest)))
      (subst (λ t. LeadTo (front ++ written_block b) t) (continued n s b.piece p.1) (behind_block front s b (behind ++ rest) same l cs.0 p.0)) cs.1 p.2 in
      record {
        plain = (piece_plain front s b (behind ++ rest) same l cs.0 p.0, more.plain);
        leads = subst (λ ls. LeadTo ls Between) (append_assoc front (written_block b) behind) more.leads;
      }

ampersand_plain : (b : Bool) → ArePlain (ampersand b)
ampersand_plain true = (inr refl, tt)
ampersand_plain false = tt

joint_plain : (p : LinePiece) → ArePlain p.chars → ArePlain (joint p)
joint_plain p h = by p.is_pulled
  where
    by : (b : Bool) → ArePlain (cond b p.chars (10 ∷ p.chars))
    by true = h
    by false = (inl refl, h)

joints_plain : (bs : List CommentedPiece) → AllByRecursion (λ (b : CommentedPiece). ArePlain b.piece.chars) bs → ArePlain (flat_map joint (pieces_of bs))
joints_plain [] h = tt
joints_plain (b ∷ bs) h = all_both IsPlain (joint b.piece) (flat_map joint (pieces_of bs)) (joint_plain b.piece h.0) (joints_plain bs h.1)

characters_plain : (bs : List CommentedPiece) → AllByRecursion (λ (b : CommentedPiece). ArePlain b.piece.chars) bs → ArePlain (characters (pieces_of bs))
characters_plain [] h = tt
characters_plain (b ∷ bs) h =
    all_both IsPlain (ampersand b.piece.is_pulled) (b.piece.chars ++ flat_map joint (pieces_of bs)) (ampersand_plain b.piece.is_pulled)
    (all_both IsPlain b.piece.chars (flat_map joint (pieces_of bs)) h.0 (joints_plain bs h.1))

-- ---- statements

-- a statement on one of the lines from n to before m
pub record IsGoodStatement (n m : ℕ) (s : FreeStatement) : Type 0 where
  pub low : n ≤ s.line
  pub high : s.line < m
  pub ahead : AreGoodMarks s.ahead
  pub within : AreGoodMarks s.within
  pub plain : ArePlain s.chars

lower : (n k m : ℕ) (ss : List FreeStatement) → n ≤ k → AllByRecursion (IsGoodStatement k m) ss → AllByRecursion (IsGoodStatement n m) ss
lower n k m [] h g = tt
lower n k m (s ∷ ss) h g =
    let l : k ≤ s.line = g.0.low in
    (record { low = omega arith; high = g.0.high; ahead = g.0.ahead; within = g.0.within; plain = g.0.plain }, lower n k m ss h g.1)

pub record AreGoodStatements (n m : ℕ) (ss : List FreeStatement) : Type 0 where
  pub each : AllByRecursion (IsGoodStatement n m) ss
  pub few : n + length ss ≤ m

module _ (full : List (List ℕ)) (free_of_bad : (front back : List (List ℕ)) (p : LinePiece) (s : LineState) → full ≡ front ++ written_piece p ∷ back → LeadTo front s
    → IsPiece (is_in_constant s) p → IsTrue (list_any is_bad_byte90 p.chars) → ⊥) where
  pub good_statements : (n : ℕ) (ls : List (List ℕ)) (ss : List FreeStatement) (front : List (List ℕ)) → AreStatements n ls ss → full ≡ front ++ ls → LeadTo front Between
      → AreGoodStatements n (n + length ls) ss
  good_statements n ls ss front (ends k cs c) e l = record { each = tt; few = omega arith }
  good_statements n ls ss front (begins k b bs ahead within rest more c p a w h) e l =
      let own = flat_map written_block (b ∷ bs) in
      let r = read_blocks full free_of_bad (b ∷ bs) front Between rest e l c p in
      let tail = good_statements (k + length own) rest more (front ++ own) h (e ∙ sym (append_assoc front own rest)) r.leads in
      let size : length own ≡ length b.comments + (1 + length (flat_map written_block bs)) =
      omega (arith, length-append (b.comments ++ written_piece b.piece ∷ []) (flat_map written_block bs), length-append b.comments (written_piece b.piece ∷ [])) in
      let whole : length (own ++ rest) ≡ length own + length rest = length-append own rest in
      let total : (k + length own) + length rest ≡ k + length (own ++ rest) = omega (arith, whole) in
      record {
        each = (
          record { low = omega arith; high = omega (arith, whole, size); ahead = good_marks b.comments ahead a; within = good_marks (comments_of bs) within w; plain = characters_plain (b ∷ bs) r.plain },
          lower k (k + length own) (k + length (own ++ rest)) more (omega arith) (subst (λ t. AllByRecursion (IsGoodStatement (k + length own) t) more) total tail.each),
        );
        few = omega (arith, tail.few, whole, size);
      }

-- ---- forms

pub record IsFormed (n m : ℕ) (p : Placed) : Type 0 where
  pub low : n ≤ p.line
  pub high : p.line < m
  pub mark : IfSome p.mark IsMark
  pub chars : List ℕ
  pub plain : ArePlain chars
  pub words : List Word90
  pub has_words : HasWords chars words
  pub written : IsWritten90 p.form words

pub record AreFormed (n m : ℕ) (ps : List Placed) : Type 0 where
  pub each : AllByRecursion (IsFormed n m) ps
  pub few : n + length ps ≤ m

pub formed : (n m : ℕ) (o : Option Mark) (ss : List FreeStatement) (ps : List Placed) → IfSome o IsMark → AllByRecursion (IsGoodStatement n m) ss → HaveForms o ss ps
    → AllByRecursion (IsFormed n m) ps × (length ps ≡ length ss)
formed n m o [] [] g a h = (tt, refl)
formed n m o [] (p ∷ ps) g a h = absurd h
formed n m o (s ∷ ss) [] g a h = absurd h
formed n m o (s ∷ ss) (p ∷ ps) g a h =
    let pending = last_mark o s.ahead in
    let good = last_good o s.ahead g a.0.ahead in
    let tail = formed n m (last_mark (mark_left_over (takes_mark p.form) pending) s.within) ss ps (last_good (mark_left_over (takes_mark p.form) pending) s.within (left_good (takes_mark p.form) pending good) a.0.within) a.1 h.3 in (
      (
        record {
          low = subst (λ l. n ≤ l) (sym h.0) a.0.low;
          high = subst (λ l. l < m) (sym h.0) a.0.high;
          mark = subst (λ t. IfSome t IsMark) (sym h.1) (taken_good (takes_mark p.form) pending good);
          chars = s.chars;
          plain = a.0.plain;
          words = h.2.0;
          has_words = h.2.1;
          written = h.2.2;
        },
        tail.0,
      ),
      omega (arith, tail.1),
    )
