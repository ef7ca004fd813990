-- The pieces that statements become, and those of them that a loop takes.
use Rattle.std.proofs.Common.{◌≡◌, ◌⊎◌, inl, inr, ℕ, Bool, true, false, ◌||◌, cond}
use Rattle.std.proofs.Common.{Option, Some}
use Rattle.std.proofs.Common.{List, [], ◌∷◌, ◌++◌, length, refl, sym, ap, subst, ◌∙◌, arith, flat_map, append-nil}
use Rattle.std.proofs.Common.{append_assoc}
use Rattle.std.specs.List.{list_any}
use Rattle.tree.specs.Plain as tree
use Rattle.meaning.specs.Store.{Store}
use Rattle.f77_grammar.specs.Statement77.{Labelled, EndDo}
use Rattle.f77_grammar.specs.program.Text.{is_label, is_end_do}
use Rattle.f77_grammar.specs.program.Uses.{Use77}
use Rattle.f77_laws.specs.trees.Steps.{Piece, up_to, beyond}
use Rattle.f77_grammar.specs.program.Tree.{label_before}
use Rattle.f77_laws.proofs.trees.Lists.{not_both}
use Rattle.f77_laws.proofs.trees.Frames.{Loop, closed}
use Rattle.f77_laws.proofs.trees.InnermostLoops.{EndsOne}
use Rattle.f77_laws.proofs.trees.Shapes.{Closes, label_is}
use Rattle.f77_grammar.specs.program.Blocks.{IsUnit, AreBlock77}
use Rattle.f77_grammar.specs.program.Blocks.AreBlock77.{nothing, unit}
use Rattle.f77_laws.proofs.trees.LoopEnds.{BearsLast, bears_behind, end_do_is, ends_some}

-- ---- units and pieces

-- a piece ends with the label
abbrev pub some_ends : ℕ → List Piece → Bool
some_ends n ps = list_any (λ (p : Piece). is_label n p.ends) ps

-- pieces that end loops end the innermost one
pub ends_innermost : (l : Loop) (ls : List Loop) (ps : List Piece) → Closes (l ∷ ls) ps → some_ends l.label ps ≡ true
ends_innermost l ls [] h = absurd (let e = ap length h in omega arith)
ends_innermost l ls (p ∷ ps) h = by (is_label l.label p.ends) (ends_innermost l ls ps) h
  where
    by : (b : Bool) → (Closes (l ∷ ls) ps → some_ends l.label ps ≡ true)
        → Closes (cond b (closed p.ends ls) (l ∷ ls)) ps → (b || some_ends l.label ps) ≡ true
    by true more h = refl
    by false more h = more h

module _ (us : List Use77) (s : Store) (named : List ℕ) where
  -- The statements are a unit that gives what the piece has, and their last one has the label with which that ends; it
  -- ends no loop round it where that is END DO
  pub record IsPiece (ls : List Loop) (xs : List Labelled) (p : Piece) : Type 0 where
    pub is_unit : IsUnit us s named xs p.made
    pub ended : (n : ℕ) → is_label n p.ends ≡ true → BearsLast n xs
    pub once : (front : List Labelled) (end : Labelled) → xs ≡ front ++ end ∷ [] → end.statement ≡ EndDo
        → closed p.ends ls ≡ ls

  -- END DO is a piece, too, until its DO comes; it ends the innermost loop alone
  pub record IsEndDo (ls : List Loop) (xs : List Labelled) (p : Piece) : Type 0 where
    pub end : Labelled
    pub alone_there : xs ≡ end ∷ []
    pub is_end : end.statement ≡ EndDo
    pub ends : p.ends ≡ end.label
    pub made : p.made ≡ label_before named end.label
    pub one : EndsOne p.ends ls

  abbrev pub IsPart : List Loop → List Labelled → Piece → Type 0
  IsPart ls xs p = IsPiece ls xs p ⊎ IsEndDo ls xs p

  pub record Begin (ls : List Loop) (xs : List Labelled) (p : Piece) (More : List Labelled → Type 0) : Type 0 where
    pub first : List Labelled
    pub rest : List Labelled
    pub whole : xs ≡ first ++ rest
    pub part : IsPart ls first p
    pub more : More rest

  -- the statements give the pieces, where these loops are open
  abbrev pub ArePieces : List Loop → List Labelled → List Piece → Type 0
  ArePieces ls xs [] = xs ≡ []
  ArePieces ls xs (p ∷ ps) = Begin ls xs p (λ ys. ArePieces (closed p.ends ls) ys ps)

  pub block_formed : (xs : List Labelled) (ps : List Piece) → ArePieces [] xs ps
      → AreBlock77 us s named xs (flat_map (λ (p : Piece). p.made) ps)
  block_formed xs [] h = subst (λ (zs : List Labelled). AreBlock77 us s named zs []) (sym h) nothing
  block_formed xs (p ∷ qs) h = by h.part (block_formed h.rest qs h.more)
    where
      by : IsPart [] h.first p → AreBlock77 us s named h.rest (flat_map (λ (q : Piece). q.made) qs)
          → AreBlock77 us s named xs (p.made ++ flat_map (λ (q : Piece). q.made) qs)
      by (inl u) k =
          subst (λ (zs : List Labelled). AreBlock77 us s named zs (p.made ++ flat_map (λ (q : Piece). q.made) qs))
          (sym h.whole) (unit h.first h.rest p.made (flat_map (λ (q : Piece). q.made) qs) u.is_unit k)
      by (inr e) k = absurd e.one

  -- ---- the statements of a loop

  -- a block up to END DO, which ends no other loop
  pub record OnEndDo (n : ℕ) (ls : List Loop) (range : List Labelled) (cs : List tree.Statement) (b : BearsLast n range)
      : Type 0 where
    pub body : List tree.Statement
    pub made : cs ≡ body ++ label_before named b.last.label
    pub formed : AreBlock77 us s named b.front body
    pub is_end : b.last.statement ≡ EndDo
    pub once : closed (Some n) ls ≡ ls

  -- or a block with its last statement
  abbrev pub IsBody : (n : ℕ) (ls : List Loop) (range : List Labelled) → List tree.Statement → BearsLast n range → Type 0
  IsBody n ls range cs b =
      ((is_end_do b.last.statement ≡ false) × AreBlock77 us s named range cs) ⊎ OnEndDo n ls range cs b

  body_behind : (n : ℕ) (ls : List Loop) (first range : List Labelled) (made cs : List tree.Statement)
      (b : BearsLast n range) → IsUnit us s named first made → IsBody n ls range cs b
      → IsBody n ls (first ++ range) (made ++ cs) (bears_behind n first range b)
  body_behind n ls first range made cs b h (inl k) = inl (k.0, unit first range made cs h k.1)
  body_behind n ls first range made cs b h (inr k) =
      inr (record {
        body = made ++ k.body;
        made = ap (λ es. made ++ es) k.made ∙ sym (append_assoc made k.body (label_before named b.last.label));
        formed = unit first b.front made k.body h k.formed;
        is_end = k.is_end;
        once = k.once;
      })

  -- statements in two parts: those of the loop, whose last statement bears the label, and the others
  pub record AreCut (n : ℕ) (ls : List Loop) (xs : List Labelled) (taken others : List Piece) : Type 0 where
    pub range : List Labelled
    pub back : List Labelled
    pub whole : xs ≡ range ++ back
    pub bears_last : BearsLast n range
    pub body : IsBody n ls range (flat_map (λ (p : Piece). p.made) taken) bears_last
    pub left : ArePieces (closed (Some n) ls) back others

  -- behind a first piece that ends the loop
  cut_first : (l : Loop) (ls : List Loop) (xs first rest : List Labelled) (p : Piece) (qs : List Piece)
      → is_label l.label p.ends ≡ true → xs ≡ first ++ rest → IsPart (l ∷ ls) first p
      → ArePieces (closed p.ends ls) rest qs → AreCut l.label ls xs (p ∷ []) qs
  cut_first l ls xs first rest p qs t whole (inl u) k =
      record {
        range = first ++ [];
        back = rest;
        whole = whole ∙ ap (λ zs. zs ++ rest) (sym (append-nil first));
        bears_last =
            record { front = b.front; last = b.last; whole = append-nil first ∙ b.whole; bears_it = b.bears_it };
        body = inl (other (is_end_do b.last.statement) refl, unit first [] p.made [] u.is_unit nothing);
        left = subst (λ (end : Option ℕ). ArePieces (closed end ls) rest qs) (label_is l.label p.ends t) k;
      }
    where
      b : BearsLast l.label first
      b = u.ended l.label t

      other : (d : Bool) → is_end_do b.last.statement ≡ d → is_end_do b.last.statement ≡ false
      other true e =
          absurd (ends_some p.ends l ls t (u.once b.front b.last b.whole (end_do_is b.last.statement e)))
      other false e = e
  cut_first l ls xs first rest p qs t whole (inr u) k =
      record {
        range = u.end ∷ [];
        back = rest;
        whole = whole ∙ ap (λ zs. zs ++ rest) u.alone_there;
        bears_last =
            record { front = []; last = u.end; whole = refl; bears_it = sym (ap (is_label l.label) u.ends) ∙ t };
        body =
            inr (record {
              body = [];
              made = append-nil p.made ∙ u.made;
              formed = nothing;
              is_end = u.is_end;
              once = subst (λ (end : Option ℕ). closed end ls ≡ ls) (label_is l.label p.ends t) u.one.1;
            });
        left = subst (λ (end : Option ℕ). ArePieces (closed end ls) rest qs) (label_is l.label p.ends t) k;
      }

  -- they are cut behind the first piece that ends with the label
  pub cut : (l : Loop) (ls : List Loop) (xs : List Labelled) (ps : List Piece) → ArePieces (l ∷ ls) xs ps
      → some_ends l.label ps ≡ true → AreCut l.label ls xs (up_to l.label ps) (beyond l.label ps)
  cut l ls xs [] h e = absurd (not_both false e refl)
  cut l ls xs (p ∷ qs) h e = by (is_label l.label p.ends) refl (cut l ls h.rest qs) h.part h.more e
    where
      by : (b : Bool) → is_label l.label p.ends ≡ b
          → (ArePieces (l ∷ ls) h.rest qs → some_ends l.label qs ≡ true
          → AreCut l.label ls h.rest (up_to l.label qs) (beyond l.label qs))
          → IsPart (l ∷ ls) h.first p → ArePieces (cond b (closed p.ends ls) (l ∷ ls)) h.rest qs
          → (b || some_ends l.label qs) ≡ true
          → AreCut l.label ls xs (p ∷ cond b [] (up_to l.label qs)) (cond b qs (beyond l.label qs))
      by true t more part k f = cut_first l ls xs h.first h.rest p qs t h.whole part k
      by false t more (inl u) k f =
          let c = more k f in
          record {
            range = h.first ++ c.range;
            back = c.back;
            whole = h.whole ∙ ap (λ zs. h.first ++ zs) c.whole ∙ sym (append_assoc h.first c.range c.back);
            bears_last = bears_behind l.label h.first c.range c.bears_last;
            body =
                body_behind l.label ls h.first c.range p.made (flat_map (λ (q : Piece). q.made) (up_to l.label qs))
                c.bears_last u.is_unit c.body;
            left = c.left;
          }
      by false t more (inr u) k f = absurd (not_both (is_label l.label p.ends) u.one.0 t)
