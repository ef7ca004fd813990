-- Assignments that touch different cells may be exchanged.
use Rattle.std.proofs.Common.{◌≡◌, ◌≢◌, ◌↔◌, refl, sym, ap, ◌∙◌, subst, ℕ, ◌+◌, Bool, true, false, ◌&&◌, cond, List, [], ◌∷◌, Option, None, Contains}
use Rattle.std.specs.Ordering.{int_eq}
use Rattle.std.specs.Str.{bytes_eq}
use Rattle.std.specs.List.{AllByRecursion}
use Rattle.std.specs.Cmp.Lexicographic.{pointwise, pointwise_decides}
use Rattle.std.proofs.lemmas.Slice.Eq.{bytes_eq-Decides}
use Rattle.std.proofs.lemmas.Bool.Decides.{Decides-int_eq}
use Rattle.std.proofs.lemmas.List.Elements.{recursion_from_All, All-weaker, All-contains_itself}
use mathlib.Core.Path.{fun_ext}
use Rattle.tree.specs.declared.ops.Value.{Value}
use Rattle.tree.specs.declared.stmts.Mark.{Mark}
use Rattle.tree.specs.Plain.{Expression, Reference, Assignment}
use Rattle.meaning.specs.Store.{Store, Cell, put, same_cell}
use Rattle.meaning.specs.Reads.{names_in, names_in_subscripts}
use Rattle.meaning.specs.CellsRead.{cells_read, cells_read_by}
use Rattle.meaning.specs.Run.{State, Way, Going, Jumping, Stopped, Failed, Cut, Act, does, while_going, evaluates, counts_step, stores, checks_range}
use Rattle.meaning.specs.Exchange.{Assigns, cells_read_to_assign}
use Rattle.meaning.proofs.CellFrame.{first_part, second_part, value_of-same, cell_named-same}
use Rattle.meaning.specs.Dialect.{Dialect}

-- ---- cells

both : (p q : Bool) → (p && q) ≡ true → (p ≡ true) × (q ≡ true)
both true true e = (refl, refl)
both true false e = cc
both false q e = cc

made : {c d : Cell} → c.name ≡ d.name → c.subscripts ≡ d.subscripts → c ≡ d
made e f = λ i. record { name = e i; subscripts = f i }

pub same_cell-same : (c d : Cell) → same_cell c d ≡ true → c ≡ d
same_cell-same c d e =
    let h = both (bytes_eq c.name d.name) (pointwise int_eq c.subscripts d.subscripts) e in
    made ((bytes_eq-Decides c.name d.name).0 h.0) ((pointwise_decides Decides-int_eq c.subscripts d.subscripts).0 h.1)

pub same_cell-refl : (c : Cell) → same_cell c c ≡ true
same_cell-refl c = rw ((bytes_eq-Decides c.name c.name).1 refl) ((pointwise_decides Decides-int_eq c.subscripts c.subscripts).1 refl)

pub same_cell_decides : (c d : Cell) → (same_cell c d ≡ true) ↔ (c ≡ d)
same_cell_decides c d = (same_cell-same c d, λ e. subst (λ x. same_cell c x ≡ true) e (same_cell-refl c))

-- ---- two writes

-- which of two cells a third one is
which : (p q : Bool) (v w h : Value) → (p ≡ true → q ≡ true → v ≡ w) → cond p v (cond q w h) ≡ cond q w (cond p v h)
which true true v w h e = e refl refl
which true false v w h e = refl
which false true v w h e = refl
which false false v w h e = refl

pub put-put : (c d : Cell) (v w : Value) (s : Store) → c ≢ d → put c v (put d w s) ≡ put d w (put c v s)
put-put c d v w s apart = ap (λ (h : Cell → Value). let t : Store = record { bounds = s.bounds; held = h } in t) (fun_ext (λ e. which (same_cell c e) (same_cell d e) v w (s.held e) (clash e)))
  where
    clash : (e : Cell) → same_cell c e ≡ true → same_cell d e ≡ true → v ≡ w
    clash e p q = absurd (apart (same_cell-same c e p ∙ sym (same_cell-same d e q)))

-- ---- one assignment

pub unread : (d c : Cell) (w : Value) (s : Store) → d ≢ c → s.held c ≡ (put d w s).held c
unread d c w s apart = by (same_cell d c) refl
  where
    by : (b : Bool) → same_cell d c ≡ b → s.held c ≡ cond b w (s.held c)
    by true e = absurd (apart (same_cell-same d c e))
    by false e = refl

-- the cells of a list that hasn't d hold the same after a write to d
pub others_kept : (xs : List Cell) (d : Cell) (w : Value) (s : Store) → ¬ Contains xs d → AllByRecursion (λ c. s.held c ≡ (put d w s).held c) xs
others_kept xs d w s apart = recursion_from_All (λ c. s.held c ≡ (put d w s).held c) xs
    (All-weaker (Contains xs) (λ c. s.held c ≡ (put d w s).held c) (λ c h. unread d c w s (λ e. apart (subst (Contains xs) (sym e) h))) xs (All-contains_itself xs))

bounds_kept : (xs : List (List ℕ)) (d : Cell) (w : Value) (s : Store) → AllByRecursion (λ x. s.bounds x ≡ (put d w s).bounds x) xs
bounds_kept [] d w s = tt
bounds_kept (x ∷ xs) d w s = (refl, bounds_kept xs d w s)

-- an assignment stores the same after a write to a cell that it doesn't read
pub Assigns-put : (lang : Dialect) (r : Reference) (e : Expression) (s : Store) (c d : Cell) (v w : Value)
    → Assigns lang r e s c v → ¬ Contains (cells_read_to_assign lang r e s) d → Assigns lang r e (put d w s) c v
Assigns-put lang r e s c d v w h apart =
    let kept = others_kept (cells_read_to_assign lang r e s) d w s apart in
    let right = first_part (λ x. s.held x ≡ (put d w s).held x) (cells_read lang e s) (cells_read_by lang r.subscripts s) kept in
    let left = second_part (λ x. s.held x ≡ (put d w s).held x) (cells_read lang e s) (cells_read_by lang r.subscripts s) kept in
    record {
      scalar = h.scalar;
      value = sym (value_of-same lang s (put d w s) e (bounds_kept (names_in e) d w s) right) ∙ h.value;
      cell = sym (cell_named-same lang s (put d w s) r refl (bounds_kept (names_in_subscripts r.subscripts) d w s) left) ∙ h.cell;
      range = h.range;
    }

-- a moment that goes on
abbrev pub ready : State → State
ready s = record s { way = Going }

-- the moment after an assignment
abbrev pub after : Cell → Value → State → State
after c v s = record s { store = put c v s.store; steps = s.steps + 1 + 1; way = Going }

pub assigned : (lang : Dialect) (line : ℕ) (mark : Option Mark) (r : Reference) (e : Expression) (s : State) (c : Cell) (v : Value)
    → Assigns lang r e s.store c v → does lang None (Assignment line mark r e) (ready s) ≡ after c v s
unfolding while_going evaluates counts_step stores checks_range
assigned lang line mark r e s c v h = rw (h.scalar, h.value, h.cell, h.range) refl

module _ (lang : Dialect) (line₁ line₂ : ℕ) (mark₁ mark₂ : Option Mark) (r₁ r₂ : Reference) (e₁ e₂ : Expression) (s : State) (c₁ c₂ : Cell) (v₁ v₂ : Value)
    (h₁ : Assigns lang r₁ e₁ s.store c₁ v₁) (h₂ : Assigns lang r₂ e₂ s.store c₂ v₂) (apart : c₁ ≢ c₂)
    (unread₂ : ¬ Contains (cells_read_to_assign lang r₁ e₁ s.store) c₂) (unread₁ : ¬ Contains (cells_read_to_assign lang r₂ e₂ s.store) c₁) where
  first : Act
  first = does lang None (Assignment line₁ mark₁ r₁ e₁)

  second : Act
  second = does lang None (Assignment line₂ mark₂ r₂ e₂)

  exchanged_ready : second (first (ready s)) ≡ first (second (ready s))
  unfolding first second
  exchanged_ready =
      let a₁ = assigned lang line₁ mark₁ r₁ e₁ s c₁ v₁ h₁ in
      let a₂ = assigned lang line₂ mark₂ r₂ e₂ s c₂ v₂ h₂ in
      let b₁ = assigned lang line₂ mark₂ r₂ e₂ (after c₁ v₁ s) c₂ v₂ (Assigns-put lang r₂ e₂ s.store c₂ c₁ v₂ v₁ h₂ unread₁) in
      let b₂ = assigned lang line₁ mark₁ r₁ e₁ (after c₂ v₂ s) c₁ v₁ (Assigns-put lang r₁ e₁ s.store c₁ c₂ v₁ v₂ h₁ unread₂) in
      ap second a₁ ∙ (b₁
      ∙ (ap (λ (t : Store). let u : State = record s { store = t; steps = s.steps + 1 + 1 + 1 + 1; way = Going } in u) (sym (put-put c₁ c₂ v₁ v₂ s.store apart))
      ∙ sym (ap first a₂ ∙ b₂)))

  exchanged_at : (w : Way) → second (first (record s { way = w })) ≡ first (second (record s { way = w }))
  unfolding first second while_going counts_step
  exchanged_at Going = exchanged_ready
  exchanged_at (Jumping l) = refl
  exchanged_at Stopped = refl
  exchanged_at (Failed f l) = refl
  exchanged_at Cut = refl

  pub exchanged : does lang None (Assignment line₂ mark₂ r₂ e₂) (does lang None (Assignment line₁ mark₁ r₁ e₁) s) ≡ does lang None (Assignment line₁ mark₁ r₁ e₁) (does lang None (Assignment line₂ mark₂ r₂ e₂) s)
  unfolding first second
  exchanged = exchanged_at s.way
