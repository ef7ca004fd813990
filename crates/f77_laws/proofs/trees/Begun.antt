-- What statements that form a block become, before what the statements after them have become.
use Rattle.std.proofs.Common.{◌≡◌, ℕ, ◌==◌, Bool, true, false, cond, Option, Some, None, List, [], ◌∷◌, ◌++◌, length}
use Rattle.std.proofs.Common.{refl, sym, ap, subst, ◌∙◌, arith, flat_map, append-nil, append_assoc}
use Rattle.tree.specs.Plain as tree
use Rattle.tree.specs.Plain.{Expression}
use Rattle.meaning.specs.Store.{Store}
use Rattle.f77_grammar.specs.Statement77.{Labelled, Statement77, If, ElseIf, Else, EndIf, Do, EndDo}
use Rattle.f77_grammar.specs.program.Text.{is_label, bears, label_stands_in, is_end_do}
use Rattle.f77_grammar.specs.program.Nesting.{is_no_loop_end}
use Rattle.f77_grammar.specs.program.Uses.{Use77}
use Rattle.f77_laws.specs.trees.Steps.{Piece, Rest, Outermost, InArm, block_of, up_to, beyond, preceded, arm_begun}
use Rattle.f77_grammar.specs.program.Tree.{label_before, resolved, simple}
use Rattle.f77_laws.specs.trees.Steps.{else_begun, if_begun, loop_begun, outermost_block}
use Rattle.f77_laws.specs.trees.Steps.{begun, rest_from}
use Rattle.f77_laws.proofs.trees.Lists.{left_false, right_false, both_false, not_both}
use Rattle.f77_laws.proofs.trees.Shapes.{label_is}
use Rattle.f77_grammar.specs.program.Blocks.{stands_alone, IsRange, IsUnit, AreBlock77, AreArms77}
use Rattle.f77_grammar.specs.program.Blocks.IsUnit.{alone, block_if, loop, end_do}
use Rattle.f77_grammar.specs.program.Blocks.AreBlock77.{nothing, unit}
use Rattle.f77_grammar.specs.program.Blocks.AreArms77.{end_if, else_part, else_if}

-- ---- pieces before others

abbrev pub onto : List Piece → Rest → Rest
onto ps (Outermost qs) = Outermost (ps ++ qs)
onto ps (InArm qs arms other r) = InArm (ps ++ qs) arms other r

none_onto : (r : Rest) → r ≡ onto [] r
none_onto (Outermost qs) = refl
none_onto (InArm qs arms other r) = refl

one_onto : (p : Piece) (ps : List Piece) (r : Rest) → preceded p (onto ps r) ≡ onto (p ∷ ps) r
one_onto p ps (Outermost qs) = refl
one_onto p ps (InArm qs arms other r) = refl

more_onto : (ps : List Piece) (p : Piece) (r : Rest) → onto ps (preceded p r) ≡ onto (ps ++ p ∷ []) r
more_onto ps p (Outermost qs) = ap Outermost (sym (append_assoc ps (p ∷ []) qs))
more_onto ps p (InArm qs arms other r) = ap (λ rs. InArm rs arms other r) (sym (append_assoc ps (p ∷ []) qs))

made_behind : (ps : List Piece) (p : Piece)
    → flat_map (λ (q : Piece). q.made) (ps ++ p ∷ []) ≡ flat_map (λ (q : Piece). q.made) ps ++ p.made
made_behind [] p = append-nil p.made
made_behind (q ∷ qs) p =
    ap (λ cs. q.made ++ cs) (made_behind qs p)
    ∙ sym (append_assoc q.made (flat_map (λ (r : Piece). r.made) qs) p.made)

-- none of them ends with the label
abbrev EndNone : ℕ → List Piece → Type 0
EndNone n [] = Unit {0}
EndNone n (p ∷ ps) = (is_label n p.ends ≡ false) × EndNone n ps

-- the last one alone ends with the label
abbrev EndWith : ℕ → List Piece → Type 0
EndWith n [] = ⊥
EndWith n (p ∷ []) = is_label n p.ends ≡ true
EndWith n (p ∷ q ∷ ps) = (is_label n p.ends ≡ false) × EndWith n (q ∷ ps)

end_later : (n : ℕ) (p : Piece) (ps : List Piece) → is_label n p.ends ≡ false → EndWith n ps → EndWith n (p ∷ ps)
end_later n p [] e h = absurd h
end_later n p (q ∷ ps) e h = (e, h)

end_behind : (n : ℕ) (ps : List Piece) (p : Piece) → EndNone n ps → is_label n p.ends ≡ true → EndWith n (ps ++ p ∷ [])
end_behind n [] p h e = e
end_behind n (q ∷ qs) p h e = end_later n q (qs ++ p ∷ []) h.0 (end_behind n qs p h.1 e)

taken : (n : ℕ) (ps qs : List Piece) → EndWith n ps → up_to n (ps ++ qs) ≡ ps
taken n [] qs h = absurd h
taken n (p ∷ []) qs h = ap (λ b. p ∷ cond b [] (up_to n qs)) h
taken n (p ∷ q ∷ ps) qs h =
    ap (λ b. p ∷ cond b [] (up_to n (q ∷ (ps ++ qs)))) h.0 ∙ ap (λ rs. p ∷ rs) (taken n (q ∷ ps) qs h.1)

left_over : (n : ℕ) (ps qs : List Piece) → EndWith n ps → beyond n (ps ++ qs) ≡ qs
left_over n [] qs h = absurd h
left_over n (p ∷ []) qs h = ap (λ b. cond b qs (beyond n qs)) h
left_over n (p ∷ q ∷ ps) qs h =
    ap (λ b. cond b (q ∷ (ps ++ qs)) (beyond n (q ∷ (ps ++ qs)))) h.0 ∙ left_over n (q ∷ ps) qs h.1

-- a loop takes those that end with its label
looped : (make : tree.Block → tree.Statement) (mark : List tree.Statement) (n : ℕ) (ps : List Piece) (r : Rest)
    → EndWith n ps
    → loop_begun make mark n (onto ps r)
    ≡ preceded (record { ends = Some n; made = mark ++ make (block_of ps) ∷ [] }) r
looped make mark n ps (Outermost qs) h =
    ap (λ rs. Outermost (record { ends = Some n; made = mark ++ make (block_of rs) ∷ [] } ∷ beyond n (ps ++ qs)))
    (taken n ps qs h)
    ∙ ap (λ rs. Outermost (record { ends = Some n; made = mark ++ make (block_of ps) ∷ [] } ∷ rs))
    (left_over n ps qs h)
looped make mark n ps (InArm qs arms o r) h =
    ap (λ rs. InArm (record { ends = Some n; made = mark ++ make (block_of rs) ∷ [] } ∷ beyond n (ps ++ qs)) arms o r)
    (taken n ps qs h)
    ∙ ap (λ rs. InArm (record { ends = Some n; made = mark ++ make (block_of ps) ∷ [] } ∷ rs) arms o r)
    (left_over n ps qs h)

-- ---- ranges

left_empty : (xs ys : List Labelled) → xs ++ ys ≡ [] → xs ≡ []
left_empty [] ys h = refl
left_empty (x ∷ xs) ys h = absurd (let e = ap length h in omega arith)

some_stand : (x : Labelled) (xs : List Labelled) → x ∷ xs ≡ [] → ⊥
some_stand x xs h = let e = ap length h in omega arith

pub none_left : (n : ℕ) (xs ys : List Labelled) → label_stands_in (xs ++ ys) n ≡ false → label_stands_in xs n ≡ false
none_left n [] ys h = refl
none_left n (x ∷ xs) ys h =
    both_false (bears n x) (label_stands_in xs n) (left_false (bears n x) (label_stands_in (xs ++ ys) n) h)
    (none_left n xs ys (right_false (bears n x) (label_stands_in (xs ++ ys) n) h))

pub none_right : (n : ℕ) (xs ys : List Labelled) → label_stands_in (xs ++ ys) n ≡ false → label_stands_in ys n ≡ false
none_right n [] ys h = h
none_right n (x ∷ xs) ys h = none_right n xs ys (right_false (bears n x) (label_stands_in (xs ++ ys) n) h)

range_left : (n : ℕ) (xs : List Labelled) (y : Labelled) (ys : List Labelled) → IsRange n (xs ++ y ∷ ys)
    → label_stands_in xs n ≡ false
range_left n [] y ys h = refl
range_left n (x ∷ []) y ys h = both_false (bears n x) false h.0 refl
range_left n (x ∷ z ∷ zs) y ys h =
    both_false (bears n x) (label_stands_in (z ∷ zs) n) h.0 (range_left n (z ∷ zs) y ys h.1)

pub range_right : (n : ℕ) (xs : List Labelled) (y : Labelled) (ys : List Labelled) → IsRange n (xs ++ y ∷ ys)
    → IsRange n (y ∷ ys)
range_right n [] y ys h = h
range_right n (x ∷ []) y ys h = h.1
range_right n (x ∷ z ∷ zs) y ys h = range_right n (z ∷ zs) y ys h.1

range_behind : (n : ℕ) (xs ys : List Labelled) → (ys ≡ [] → ⊥) → IsRange n (xs ++ ys) → IsRange n ys
range_behind n xs [] some h = absurd (some refl)
range_behind n xs (y ∷ ys) some h = range_right n xs y ys h

pub label_as : (m n : ℕ) (x : Labelled) (b : Bool) → bears m x ≡ true → bears n x ≡ b → (m == n) ≡ b
label_as m n x b h k = sym (ap (is_label n) (label_is m x.label h)) ∙ k

one_label : (m n : ℕ) (xs : List Labelled) → IsRange m xs → IsRange n xs → (m == n) ≡ true
one_label m n [] h k = absurd h
one_label m n (x ∷ []) h k = label_as m n x true h.0 k.0
one_label m n (x ∷ y ∷ ys) h k = one_label m n (y ∷ ys) h.1 k.1

other_label : (m n : ℕ) (xs : List Labelled) → IsRange m xs → label_stands_in xs n ≡ false → (m == n) ≡ false
other_label m n [] h k = absurd h
other_label m n (x ∷ []) h k = label_as m n x false h.0 (left_false (bears n x) false k)
other_label m n (x ∷ y ∷ ys) h k =
    other_label m n (y ∷ ys) h.1 (right_false (bears n x) (label_stands_in (y ∷ ys) n) k)

outer_label : (m n : ℕ) (x : Labelled) (xs : List Labelled) → IsRange m xs → IsRange n (x ∷ xs) → (m == n) ≡ true
outer_label m n x [] h k = absurd h
outer_label m n x (y ∷ ys) h k = one_label m n (y ∷ ys) h k.1

no_end : (n : ℕ) (x : Labelled) (c : Statement77) → x.statement ≡ c → is_no_loop_end c ≡ true → IsRange n (x ∷ []) → ⊥
no_end n x c e t h = let f : is_no_loop_end x.statement ≡ true = ap is_no_loop_end e ∙ t in let g = h.1 in cc

-- ---- what is formed

module _ (us : List Use77) (s : Store) (named : List ℕ) where
  abbrev become : List Labelled → Rest
  become xs = rest_from us s named xs

  record IsPiece (xs : List Labelled) (cs : List tree.Statement) : Type 0 where
    ends : Option ℕ
    begins : (ys : List Labelled) → become (xs ++ ys) ≡ preceded (record { ends = ends; made = cs }) (become ys)
    some : xs ≡ [] → ⊥
    last : (n : ℕ) → IsRange n xs → is_label n ends ≡ true
    inner : (n : ℕ) → label_stands_in xs n ≡ false → is_label n ends ≡ false

  record ArePieces (xs : List Labelled) (cs : List tree.Statement) : Type 0 where
    pieces : List Piece
    made : flat_map (λ (p : Piece). p.made) pieces ≡ cs
    begin_ : (ys : List Labelled) → become (xs ++ ys) ≡ onto pieces (become ys)
    none : xs ≡ [] → pieces ≡ []
    last : (n : ℕ) → IsRange n xs → EndWith n pieces
    inner : (n : ℕ) → label_stands_in xs n ≡ false → EndNone n pieces

  record EndIfBlock (xs : List Labelled) (arms : tree.Arms) (part : tree.Block) : Type 0 where
    begin_ : (ys : List Labelled) → become (xs ++ ys) ≡ InArm [] arms part (become ys)
    some : xs ≡ [] → ⊥
    no_range : (n : ℕ) → IsRange n xs → ⊥

  block_made : (xs : List Labelled) (cs : List tree.Statement) (h : ArePieces xs cs)
      → block_of (h.pieces ++ []) ≡ tree.block cs
  block_made xs cs h = ap block_of (append-nil h.pieces) ∙ ap tree.block h.made

  begun_alone : (x : Labelled) (c : Statement77) (r : Rest) → stands_alone c ≡ true
      → begun us s named x c r
      ≡ preceded (record { ends = x.label; made = label_before named x.label ++ simple us s x.line c }) r
  begun_alone x (If c) r e = absurd cc
  begun_alone x (ElseIf c) r e = absurd cc
  begun_alone x Else r e = absurd cc
  begun_alone x EndIf r e = absurd cc
  begun_alone x (Do label v a b c) r e = absurd cc
  begun_alone x c r e = refl

  alone_piece : (x : Labelled) → stands_alone x.statement ≡ true
      → IsPiece (x ∷ []) (label_before named x.label ++ simple us s x.line x.statement)
  alone_piece x e =
      record {
        ends = x.label;
        begins = λ ys. begun_alone x x.statement (become ys) e;
        some = some_stand x [];
        last = λ n h. h.0;
        inner = λ n h. left_false (bears n x) false h;
      }

  -- statements of a block before others
  before_others : (first later : List Labelled) (body : List tree.Statement) (arms : tree.Arms) (part : tree.Block)
      (ys : List Labelled) (h : ArePieces first body) → EndIfBlock later arms part
      → become ((first ++ later) ++ ys) ≡ InArm (h.pieces ++ []) arms part (become ys)
  before_others first later body arms part ys h k =
      ap become (append_assoc first later ys) ∙ h.begin_ (later ++ ys) ∙ ap (onto h.pieces) (k.begin_ ys)

  if_piece : (x : Labelled) (c : Expression) (first later : List Labelled) (body : List tree.Statement)
      (arms : tree.Arms) (part : tree.Block) → x.statement ≡ If c → ArePieces first body → EndIfBlock later arms part
      → IsPiece (x ∷ (first ++ later)) (label_before named x.label
      ++ tree.If x.line (tree.arm (resolved us s c) (tree.block body) arms) part ∷ [])
  if_piece x c first later body arms part e h k =
      record {
        ends = None;
        begins = λ ys.
            ap (λ t. begun us s named x t (become ((first ++ later) ++ ys))) e
            ∙ ap (if_begun x.line (label_before named x.label) (resolved us s c))
            (before_others first later body arms part ys h k)
            ∙ ap (λ t. preceded (record {
              ends = None;
              made = label_before named x.label
                  ++ tree.If x.line (tree.arm (resolved us s c) t arms) part ∷ [];
            }) (become ys)) (block_made first body h);
        some = some_stand x (first ++ later);
        last = λ n r. absurd (k.no_range n (range_behind n (x ∷ first) later k.some r));
        inner = λ n r. refl;
      }

  loop_piece : (x : Labelled) (n : ℕ) (v : List ℕ) (a b c : Expression) (range : List Labelled)
      (body : List tree.Statement) → x.statement ≡ Do (Some n) v a b c → IsRange n range → ArePieces range body
      → IsPiece (x ∷ range) (label_before named x.label
      ++ tree.Do x.line v (resolved us s a) (resolved us s b) (resolved us s c) (tree.block body) ∷ [])
  loop_piece x n v a b c range body e r h =
      record {
        ends = Some n;
        begins = λ ys.
            ap (λ t. begun us s named x t (become (range ++ ys))) e
            ∙ ap (loop_begun make (label_before named x.label) n) (h.begin_ ys)
            ∙ looped make (label_before named x.label) n h.pieces (become ys) (h.last n r)
            ∙ ap (λ t. preceded (record { ends = Some n; made = label_before named x.label ++ make t ∷ [] }) (become ys))
            (ap tree.block h.made);
        some = some_stand x range;
        last = λ k t. outer_label n k x range r t;
        inner = λ k t. other_label n k range r (right_false (bears k x) (label_stands_in range k) t);
      }
    where
      make : tree.Block → tree.Statement
      make = tree.Do x.line v (resolved us s a) (resolved us s b) (resolved us s c)

  end_do_piece : (x end : Labelled) (n : ℕ) (v : List ℕ) (a b c : Expression) (range : List Labelled)
      (body : List tree.Statement) → x.statement ≡ Do (Some n) v a b c → ArePieces range body
      → end.statement ≡ EndDo → label_stands_in range n ≡ false → bears n end ≡ true
      → IsPiece (x ∷ (range ++ end ∷ [])) (label_before named x.label
      ++ tree.Do x.line v (resolved us s a) (resolved us s b) (resolved us s c)
      (tree.block (body ++ label_before named end.label)) ∷ [])
  end_do_piece x end n v a b c range body e h f t g =
      record {
        ends = Some n;
        begins = λ ys.
            ap (λ o. begun us s named x o (become ((range ++ end ∷ []) ++ ys))) e
            ∙ ap (loop_begun make (label_before named x.label) n) (before_end ys)
            ∙ looped make (label_before named x.label) n (h.pieces ++ p ∷ []) (become ys)
            (end_behind n h.pieces p (h.inner n t) g)
            ∙ ap (λ o. preceded (record { ends = Some n; made = label_before named x.label ++ make o ∷ [] }) (become ys))
            (ap tree.block (made_behind h.pieces p ∙ ap (λ cs. cs ++ label_before named end.label) h.made));
        some = some_stand x (range ++ end ∷ []);
        last = λ k r.
            absurd (not_both (is_end_do end.statement) (ap is_end_do f) (range_right k (x ∷ range) end [] r).2);
        inner = λ k r.
            label_as n k end false g
            (left_false (bears k end) false (none_right k (x ∷ range) (end ∷ []) r));
      }
    where
      make : tree.Block → tree.Statement
      make = tree.Do x.line v (resolved us s a) (resolved us s b) (resolved us s c)

      p : Piece
      p = record { ends = end.label; made = label_before named end.label }

      end_begun : (ys : List Labelled) → become (end ∷ ys) ≡ preceded p (become ys)
      end_begun ys =
          ap (λ o. begun us s named end o (become ys)) f
          ∙ ap (λ cs. preceded (record { ends = end.label; made = cs }) (become ys)) (append-nil (label_before named end.label))

      before_end : (ys : List Labelled) → become ((range ++ end ∷ []) ++ ys) ≡ onto (h.pieces ++ p ∷ []) (become ys)
      before_end ys =
          ap become (append_assoc range (end ∷ []) ys) ∙ h.begin_ (end ∷ ys) ∙ ap (onto h.pieces) (end_begun ys)
          ∙ more_onto h.pieces p (become ys)

  no_pieces : ArePieces [] []
  no_pieces =
      record {
        pieces = [];
        made = refl;
        begin_ = λ ys. none_onto (become ys);
        none = λ e. refl;
        last = λ n h. absurd h;
        inner = λ n h. tt;
      }

  more_pieces : (first rest : List Labelled) (cs ds : List tree.Statement) → IsPiece first cs → ArePieces rest ds
      → ArePieces (first ++ rest) (cs ++ ds)
  more_pieces first rest cs ds h k =
      record {
        pieces = p ∷ k.pieces;
        made = ap (λ es. cs ++ es) k.made;
        begin_ = λ ys.
            ap become (append_assoc first rest ys) ∙ h.begins (rest ++ ys) ∙ ap (preceded p) (k.begin_ ys)
            ∙ one_onto p k.pieces (become ys);
        none = λ e. absurd (h.some (left_empty first rest e));
        last = λ n r. at_end n rest k r;
        inner = λ n r. (h.inner n (none_left n first rest r), k.inner n (none_right n first rest r));
      }
    where
      p : Piece
      p = record { ends = h.ends; made = cs }

      at_end : (n : ℕ) (zs : List Labelled) (q : ArePieces zs ds) → IsRange n (first ++ zs) → EndWith n (p ∷ q.pieces)
      at_end n [] q r =
          subst (λ (ps : List Piece). EndWith n (p ∷ ps)) (sym (q.none refl))
          (h.last n (subst (λ (xs : List Labelled). IsRange n xs) (append-nil first) r))
      at_end n (y ∷ ys) q r =
          end_later n p q.pieces (h.inner n (range_left n first y ys r)) (q.last n (range_right n first y ys r))

  end_if_ends : (x : Labelled) → x.statement ≡ EndIf → EndIfBlock (x ∷ []) tree.no_arms tree.no_statements
  end_if_ends x e =
      record {
        begin_ = λ ys. ap (λ t. begun us s named x t (become ys)) e;
        some = some_stand x [];
        no_range = λ n h. no_end n x EndIf e refl h;
      }

  else_part_ends : (x end : Labelled) (part : List Labelled) (body : List tree.Statement) → x.statement ≡ Else
      → ArePieces part body → end.statement ≡ EndIf
      → EndIfBlock (x ∷ (part ++ end ∷ [])) tree.no_arms (tree.block body)
  else_part_ends x end part body e h f =
      record {
        begin_ = λ ys.
            ap (λ t. begun us s named x t (become ((part ++ end ∷ []) ++ ys))) e
            ∙ ap else_begun (before_others part (end ∷ []) body tree.no_arms tree.no_statements ys h (end_if_ends end f))
            ∙ ap (λ t. InArm [] tree.no_arms t (become ys)) (block_made part body h);
        some = some_stand x (part ++ end ∷ []);
        no_range = λ n r. no_end n end EndIf f refl (range_right n (x ∷ part) end [] r);
      }

  else_if_ends : (x : Labelled) (c : Expression) (next later : List Labelled) (body : List tree.Statement)
      (arms : tree.Arms) (part : tree.Block) → x.statement ≡ ElseIf c → ArePieces next body
      → EndIfBlock later arms part
      → EndIfBlock (x ∷ (next ++ later)) (tree.arm (resolved us s c) (tree.block body) arms) part
  else_if_ends x c next later body arms part e h k =
      record {
        begin_ = λ ys.
            ap (λ t. begun us s named x t (become ((next ++ later) ++ ys))) e
            ∙ ap (arm_begun (resolved us s c)) (before_others next later body arms part ys h k)
            ∙ ap (λ t. InArm [] (tree.arm (resolved us s c) t arms) part (become ys)) (block_made next body h);
        some = some_stand x (next ++ later);
        no_range = λ n r. k.no_range n (range_behind n (x ∷ next) later k.some r);
      }

  mutual
    unit_pieces : (xs : List Labelled) (cs : List tree.Statement) → IsUnit us s named xs cs → IsPiece xs cs
    unit_pieces xs cs (alone x e) = alone_piece x e
    unit_pieces xs cs (block_if x c first later body arms part e h k) =
        if_piece x c first later body arms part e (block_pieces first body h) (arms_pieces later arms part k)
    unit_pieces xs cs (loop x n v a b c range body e r h) =
        loop_piece x n v a b c range body e r (block_pieces range body h)
    unit_pieces xs cs (end_do x end n v a b c range body e h f t g) =
        end_do_piece x end n v a b c range body e (block_pieces range body h) f t g

    block_pieces : (xs : List Labelled) (cs : List tree.Statement) → AreBlock77 us s named xs cs → ArePieces xs cs
    block_pieces xs cs nothing = no_pieces
    block_pieces xs cs (unit first rest ds es h k) =
        more_pieces first rest ds es (unit_pieces first ds h) (block_pieces rest es k)

    arms_pieces : (xs : List Labelled) (arms : tree.Arms) (part : tree.Block) → AreArms77 us s named xs arms part
        → EndIfBlock xs arms part
    arms_pieces xs arms part (end_if x e) = end_if_ends x e
    arms_pieces xs arms part (else_part x end ys body e h f) = else_part_ends x end ys body e (block_pieces ys body h) f
    arms_pieces xs arms part (else_if x c next later body more o e h k) =
        else_if_ends x c next later body more o e (block_pieces next body h) (arms_pieces later more o k)

  -- ---- at most one block

  abbrev pub made_in : Rest → List tree.Statement
  made_in (Outermost ps) = flat_map (λ (p : Piece). p.made) ps
  made_in (InArm ps arms part r) = flat_map (λ (p : Piece). p.made) ps

  pub block_is_made : (xs : List Labelled) (cs : List tree.Statement) → AreBlock77 us s named xs cs
      → cs ≡ made_in (rest_from us s named xs)
  block_is_made xs cs h =
      let k = block_pieces xs cs h in
      sym k.made ∙ ap (flat_map (λ (p : Piece). p.made)) (sym (append-nil k.pieces)) ∙ ap made_in (sym (k.begin_ []))
      ∙ ap (λ ys. made_in (become ys)) (append-nil xs)

  pub block_of_made : (r : Rest) → outermost_block r ≡ tree.block (made_in r)
  block_of_made (Outermost ps) = refl
  block_of_made (InArm ps arms part r) = refl
