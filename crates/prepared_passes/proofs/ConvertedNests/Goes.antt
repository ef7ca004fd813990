-- A loop, and the loop that is made for it, from stores that are the same but for masks.
use Rattle.std.proofs.Common.{◌≡◌, refl, sym, ap, subst, ◌∙◌, inl, ℕ, ℤ, pos, negsuc, ◌≤◌, ◌^◌, Bool, true, false, cond, List, [], ◌∷◌, None, Result, Ok, Err, arith}
use Rattle.std.specs.List.{AllByRecursion}
use Rattle.tree.specs.Operators.{as_number}
use Rattle.tree.specs.Steps.{◌>>=◌}
use Rattle.tree.specs.declared.ops.Fault.{Fault}
use Rattle.tree.specs.declared.ops.Value.{Value}
use Rattle.tree.specs.Plain.{Expression}
use Rattle.meaning.specs.Reads.{names_in}
use Rattle.std.specs.Ordering.{int_eq}
use Rattle.tree.specs.declared.ops.Fault.TheVariants.{ZeroStep}
use Rattle.meaning_laws.proofs.arrays.Members.{nowhere}
use Rattle.meaning.specs.Run.{State, Way, Going, Jumping, Stopped, Failed, Cut, does, does_all}
use Rattle.meaning.specs.Store.{Cell, Store, cell_at, cell_in, put, same_cell}
use Rattle.meaning.specs.Value.{increment_of, number_of}
use Rattle.meaning.proofs.Exchanges.{unread}
use Rattle.rewrite.specs.Following.{IsSound, sequential}
use Rattle.nest.specs.Blocks.{block_of_parts, numeral, statement_of_part}
use Rattle.nest.specs.Plain.{Loop, Part, Run, Turns, Choice, Label, Jump, Parts, no_parts, part, parts}
use Rattle.nest_order.proofs.runs.Alike.{Alike, value_alike}
use Rattle.nest_order.proofs.runs.Results.{each_of}
use Rattle.nest_order.proofs.runs.Variables.{cell_name}
use Rattle.nest_steps.specs.Leading.{Led, Leads}
use Rattle.nest_steps.proofs.Mapped.{does_joined}
use Rattle.pass_laws.specs.branch_meaning.Jumps.{AllJumpAhead, labels_ahead}
use Rattle.pass_laws.proofs.BranchMeaning.Ways.{Comes, IsOn, all_from, going_comes, lands, lands_all, no_jump, part_from}
use Rattle.if_convert.specs.Converted.{around_loop, converted, converted_parts}
use Rattle.if_convert.specs.Masks.{all_parts_of}
use Rattle.if_convert.specs.Points.{Converted, entered, unless_skipped}
use Rattle.if_convert.specs.declared.points.Jumped.{Jumped}
use Rattle.if_convert.specs.declared.points.MaskPoint.{MaskPoint}
use Rattle.if_convert.proofs.BodyLaws.{parts-append}
use Rattle.prepared_passes.proofs.ConvertedNests.Beside.{Gone, IsAt, masks_of, part_gone}
use Rattle.prepared_passes.proofs.ConvertedNests.Going.{not_stopped, sound_on}
use Rattle.prepared_passes.proofs.ConvertedNests.Looping.{loops_lead}
use Rattle.prepared_passes.proofs.ConvertedNests.Masked.{AreBeside, AreFree, IsFree, IsOther, NamesOthers, flag}
use Rattle.prepared_passes.proofs.ConvertedNests.Moments.{IsLoopless, holds}
use Rattle.prepared_passes.proofs.ConvertedNests.Pending.{Ahead, IsClean, entered_clean, none_ahead, part_ahead, part_clean}
use Rattle.prepared_passes.proofs.ConvertedNests.Points.{Below, JumpsAre, Stands, below_more, going_or_jump, none_jumps, true_not_false}
use Rattle.prepared_passes.proofs.ConvertedNests.Rising.{masks_rise_parts}
use Rattle.prepared_passes.proofs.ConvertedNests.Silent.{silent-part, silent-parts}
use Rattle.prepared_passes.proofs.ConvertedNests.Ways.{IsFine}

-- ---- parts whose IFs have arms and no loops, and whose statements have no guards

abbrev mutual
  pub IsStraight : Part → Type 0
  IsStraight (Run g) = IsLoopless (Run g)
  IsStraight (Turns l ps) = AreStraight ps
  IsStraight (Choice bs other) = IsLoopless (Choice bs other)
  IsStraight (Label k) = Unit {0}
  IsStraight (Jump k) = Unit {0}

  pub AreStraight : Parts → Type 0
  AreStraight no_parts = Unit {0}
  AreStraight (part p ps) = IsStraight p × AreStraight ps

-- ---- what stores beside each other have in common

module _ (bits k0 k1 : ℕ) where
  pub like_names : (ys : List (List ℕ)) (s t : Store) → NamesOthers ys → AreBeside k0 k1 s t → AllByRecursion (Alike bits t s) ys
  like_names ys s t o h = each_of (Alike bits t s) ys (λ y i. (h.bounds y (o y i), λ is c e. h.held c (subst IsOther (sym (cell_name (t.bounds y) y is c e).0) (o y i))))

  same_number : (e : Expression) → NamesOthers (names_in e) → (s t : Store) → AreBeside k0 k1 s t → number_of (sequential bits) e t ≡ number_of (sequential bits) e s
  same_number e o s t h = ap (λ (r : Result Value Fault). do v ← r; as_number v) (value_alike bits t s e (like_names (names_in e) s t o h))

  numeral_names : (z : ℤ) → NamesOthers (names_in (numeral z))
  numeral_names (pos n) y i = absurd i
  numeral_names (negsuc n) y i = absurd i

  same_increment : (z : ℤ) (s t : Store) → AreBeside k0 k1 s t → increment_of (sequential bits) (numeral z) t ≡ increment_of (sequential bits) (numeral z) s
  same_increment z s t h = ap (λ (r : Result ℤ Fault). do z ← r; cond (int_eq z (pos 0)) (Err ZeroStep) (Ok z)) (same_number (numeral z) (numeral_names z) s t h)

  same_cell_at : (x : List ℕ) → IsOther x → (s t : Store) → AreBeside k0 k1 s t → (c : Cell) → cell_at x [] s ≡ Ok c → cell_at x [] t ≡ Ok c
  same_cell_at x o s t h c e = ap (λ b. cell_in b x []) (h.bounds x o) ∙ e

  pub placed_beside : (s t : Store) (c : Cell) (v : Value) → IsOther c.name → AreBeside k0 k1 s t → AreBeside k0 k1 (put c v s) (put c v t)
  placed_beside s t c v o h = record {
    bounds = h.bounds;
    held = λ d n. ap (cond (same_cell c d) v) (h.held d n);
    scalars = h.scalars;
    flags = λ i u. ((h.flags i u).0, sym (unread c (flag i) v t (λ e. o i (ap (λ (d : Cell). d.name) (sym e)))) ∙ (h.flags i u).1);
  }

-- ---- loops and lists of parts

going_fine : (w : Way) → IsOn w → IsFine w
going_fine Going h = tt
going_fine (Jumping k) h = tt
going_fine Stopped h = absurd h
going_fine (Failed f l) h = absurd h
going_fine Cut h = absurd h

begun_stands : (p : MaskPoint) (w : Way) (t : Store) → w ≡ Going → p.pending ≡ [] → p.guard ≡ None → p.skips ≡ false → Stands None p w (masks_of t)
begun_stands p w t e f g h =
    subst (λ (w : Way). Stands None p w (masks_of t)) (sym e)
    (record {
      block = refl;
      guard = λ s. ap (λ o. holds o (masks_of t)) g;
      skips = λ s. absurd (true_not_false p.skips s h);
      jumps = subst (λ ls. JumpsAre ls p.jump Going (masks_of t)) (sym f) (none_jumps p.jump Going (masks_of t) (λ k q. going_or_jump Going k refl q));
      own_below = tt;
      guard_below = subst (λ o. Below o p.mask) (sym g) tt;
    })

pub no_pending : (ls : List Jumped) → Ahead [] ls → ls ≡ []
no_pending [] h = refl
no_pending (l ∷ ls) h = absurd (nowhere l.label (h l (inl refl)))

-- ---- moments that are the same but for stores, steps and ways

abbrev pub Same : State → State → Type 0
Same s t = t ≡ record s { store = t.store; steps = t.steps; way = t.way }

abbrev pub Only : State → State → Type 0
Only s t = t ≡ record s { store = t.store; steps = t.steps; way = t.way }

pub same_after : (a b s t : State) → Only s a → Only t b → Same s t → Same a b
same_after a b s t e f g =
    f ∙ ap (λ (z : State). record z { store = b.store; steps = b.steps; way = b.way }) g
    ∙ sym (ap (λ (z : State). record z { store = b.store; steps = b.steps; way = b.way }) e)

pub same_going : (a b : State) → Same a b → a.way ≡ Going → b.way ≡ Going → b ≡ record a { store = b.store; steps = b.steps }
same_going a b e h i = e ∙ ap (λ (w : Way). let r : State = record a { store = b.store; steps = b.steps; way = w } in r) (i ∙ sym h)

on_sound : (w : Way) → IsOn w → IsSound w
on_sound Going h = tt
on_sound (Jumping k) h = tt
on_sound Stopped h = absurd h
on_sound (Failed f l) h = absurd h
on_sound Cut h = absurd h

module _ (bits line k0 k1 : ℕ) (few : k1 ≤ 2 ^ 32) where
  abbrev pub BodyGoes : Parts → Type 0
  BodyGoes ps = (later : List ℕ) → AllJumpAhead later ps → AreStraight ps → AreFree ps → (p : MaskPoint) (s t : State) → IsAt k0 k1 p s t.store → IsClean None p → t.way ≡ Going → Same s t
      → Comes (labels_ahead ps later) s.way → Ahead (labels_ahead ps later) p.pending → IsOn (does_all (sequential bits) None (block_of_parts line ps) s).way → (converted_parts line false None ps p).point.mask ≤ k1
      → Gone bits line k0 k1 few (converted_parts line false None ps p).point (does_all (sequential bits) None (block_of_parts line ps) s) (does_all (sequential bits) None (block_of_parts line (parts (all_parts_of line (converted_parts line false None ps p).made))) t)

  -- the body of a loop from its first point on
  body_leads : (ps : Parts) (k : ℕ) → BodyGoes ps → AllJumpAhead [] ps → AreStraight ps → AreFree ps → k0 ≤ k → (converted_parts line false None ps (entered None k k)).point.mask ≤ k1
      → Leads (AreBeside k0 k1) (AreBeside k0 k1) (does_all (sequential bits) None (block_of_parts line ps)) (does_all (sequential bits) None (block_of_parts line (parts (all_parts_of line (converted_parts line false None ps (entered None k k)).made))))
  body_leads ps k goes jumps straight free start top = record { at = at }
    where
      qs : Parts
      qs = parts (all_parts_of line (converted_parts line false None ps (entered None k k)).made)

      at : (s : State) (u : Store) (n : ℕ) → s.way ≡ Going → AreBeside k0 k1 s.store u → IsSound (does_all (sequential bits) None (block_of_parts line ps) s).way
          → Led (AreBeside k0 k1) (does_all (sequential bits) None (block_of_parts line ps) s) (does_all (sequential bits) None (block_of_parts line (parts (all_parts_of line (converted_parts line false None ps (entered None k k)).made))) (record s { store = u; steps = n }))
      at s u n w h sound =
          let t : State = record s { store = u; steps = n } in
          let a : State = does_all (sequential bits) None (block_of_parts line ps) s in
          let b : State = does_all (sequential bits) None (block_of_parts line qs) t in
          let on = sound_on a.way sound (not_stopped bits line ps s w) in
          let g = goes [] jumps straight free (entered None k k) s t (record {
            beside = h;
            stands = begun_stands (entered None k k) s.way u w refl refl refl;
            top = record { start = start; ordered = omega arith; guard = tt; guard_below = tt; pending = λ l i. absurd i };
          }) (entered_clean None k k) w refl (going_comes (labels_ahead ps []) s.way w) (none_ahead (labels_ahead ps [])) on top in
          let end = no_jump a.way on (lands_all bits line ps [] jumps s (going_comes (labels_ahead ps []) s.way w)) in
          record {
            stores = g.at.beside;
            rest = same_going a b (same_after a b s t ((silent-parts bits line ps).at s) ((silent-parts bits line qs).at t) refl) end g.going;
            going = end;
          }

  pub loop_leads : (l : Loop) (ps : Parts) (k : ℕ) → BodyGoes ps → AllJumpAhead [] ps → AreStraight ps → IsFree (Turns l ps) → k0 ≤ k → (converted_parts line false None ps (entered None k k)).point.mask ≤ k1
      → Leads (AreBeside k0 k1) (AreBeside k0 k1) (does (sequential bits) None (statement_of_part line (Turns l ps)))
      (does (sequential bits) None (statement_of_part line (Turns l (parts (all_parts_of line (converted_parts line false None ps (entered None k k)).made)))))
  loop_leads l ps k goes jumps straight free start top =
      loops_lead bits (AreBeside k0 k1) l.variable
      (λ s u a c e. same_cell_at bits k0 k1 l.variable free.0 s u a c e)
      (λ s u a c e. sym (a.held c (subst IsOther (sym (cell_name (s.bounds l.variable) l.variable [] c e).0) free.0)))
      (λ s u a c e v. placed_beside bits k0 k1 s u c v (subst IsOther (sym (cell_name (s.bounds l.variable) l.variable [] c e).0) free.0) a)
      line l.first l.last (numeral l.step) _ _
      (λ s u a z e. same_number bits k0 k1 l.first free.1 s u a ∙ e)
      (λ s u a z e. same_number bits k0 k1 l.last free.2 s u a ∙ e)
      (λ s u a z e. same_increment bits k0 k1 l.step s u a ∙ e)
      (body_leads ps k goes jumps straight free.3 start top)

  abbrev inner : Parts → MaskPoint → Converted
  inner ps p = converted_parts line false None ps (entered None p.mask p.mask)

  abbrev LoopGone : Loop → Parts → MaskPoint → State → State → Converted → Type 0
  LoopGone l ps p s t c = Gone bits line k0 k1 few c.point (does (sequential bits) None (statement_of_part line (Turns l ps)) s) (does_all (sequential bits) None (block_of_parts line (parts (all_parts_of line c.made))) t)

  loop_gone : (l : Loop) (ps : Parts) (p : MaskPoint) (s t : State) → BodyGoes ps → AllJumpAhead [] ps → AreStraight ps → IsFree (Turns l ps) → IsAt k0 k1 p s t.store → t.way ≡ Going → Same s t → s.way ≡ Going
      → p.pending ≡ [] → p.guard ≡ None → p.skips ≡ false → IsOn (does (sequential bits) None (statement_of_part line (Turns l ps)) s).way → (converted line false None (Turns l ps) p).point.mask ≤ k1
      → LoopGone l ps p s t (converted line false None (Turns l ps) p)
  loop_gone l ps p s t goes jumps straight free at going same w none guard skips on top = by p.skips skips top
    where
      u : State
      u = does (sequential bits) None (statement_of_part line (Turns l ps)) s

      by : (b : Bool) → b ≡ false → (unless_skipped b p (around_loop line l p (inner ps p))).point.mask ≤ k1 → LoopGone l ps p s t (unless_skipped b p (around_loop line l p (inner ps p)))
      by true e top = let z : ⊥ = cc in absurd z
      by false e top =
          let m = masks_rise_parts line false None ps (entered None p.mask p.mask) in
          let start = at.top.start in
          let ordered = at.top.ordered in
          let led = (loop_leads l ps p.mask goes jumps straight free start top).at s t.store t.steps w at.beside (on_sound u.way on) in
          let v : State = does_all (sequential bits) None (block_of_parts line (parts (all_parts_of line (around_loop line l p (inner ps p)).made))) t in
          let same_target : does (sequential bits) None (statement_of_part line (Turns l (parts (all_parts_of line (inner ps p).made)))) (record s { store = t.store; steps = t.steps }) ≡ v
          = ap (λ (z : State). does (sequential bits) None (statement_of_part line (Turns l (parts (all_parts_of line (inner ps p).made)))) z) (sym (same_going s t same w going)) in
          let after : Led (AreBeside k0 k1) u v = subst (λ (z : State). Led (AreBeside k0 k1) u z) same_target led in
          record {
            going = ap (λ (z : State). z.way) after.rest ∙ after.going;
            at = record {
              beside = after.stores;
              stands = begun_stands (around_loop line l p (inner ps p)).point u.way v.store after.going none guard skips;
              top = record {
                start = omega (arith, start, m);
                ordered = omega (arith, ordered, m);
                guard = at.top.guard;
                guard_below = below_more p.guard p.mask (inner ps p).point.mask m at.top.guard_below;
                pending = λ x i. (let z = at.top.pending x i in let b = z.1 in (z.0, omega (arith, b, m)));
              };
            };
          }

  -- ---- lists of parts

  abbrev ending : MaskPoint → Parts → State → State
  ending p ps t = does_all (sequential bits) None (block_of_parts line (parts (all_parts_of line (converted_parts line false None ps p).made))) t

  together : (q : Part) (ps : Parts) (p : MaskPoint) (t : State)
      → does_all (sequential bits) None (block_of_parts line (parts (all_parts_of line (converted_parts line false None (part q ps) p).made))) t
      ≡ does_all (sequential bits) None (block_of_parts line (parts (all_parts_of line (converted_parts line false None ps (converted line false None q p).point).made)))
      (does_all (sequential bits) None (block_of_parts line (parts (all_parts_of line (converted line false None q p).made))) t)
  together q ps p t =
      let c = converted line false None q p in
      let d = converted_parts line false None ps c.point in
      ap (λ xs. does_all (sequential bits) None (block_of_parts line (parts xs)) t) (parts-append line c.made d.made) ∙ does_joined bits line (all_parts_of line c.made) (all_parts_of line d.made) t

  then_goes : (q : Part) (ps : Parts) → BodyGoes ps → (later : List ℕ) → AllJumpAhead later (part q ps) → AreStraight ps → AreFree ps → (p : MaskPoint) (s t : State) → IsClean None p → Same s t
      → Comes (labels_ahead (part q ps) later) s.way → Ahead (labels_ahead (part q ps) later) p.pending → IsOn (does_all (sequential bits) None (block_of_parts line (part q ps)) s).way
      → (converted_parts line false None (part q ps) p).point.mask ≤ k1
      → Gone bits line k0 k1 few (converted line false None q p).point (does (sequential bits) None (statement_of_part line q) s) (does_all (sequential bits) None (block_of_parts line (parts (all_parts_of line (converted line false None q p).made))) t)
      → Gone bits line k0 k1 few (converted_parts line false None (part q ps) p).point (does_all (sequential bits) None (block_of_parts line (part q ps)) s) (does_all (sequential bits) None (block_of_parts line (parts (all_parts_of line (converted_parts line false None (part q ps) p).made))) t)
  then_goes q ps more later h straight free p s t clean same c a on top g =
      let d = converted line false None q p in
      let s2 : State = does (sequential bits) None (statement_of_part line q) s in
      let t2 : State = does_all (sequential bits) None (block_of_parts line (parts (all_parts_of line d.made))) t in
      subst (λ (z : State). Gone bits line k0 k1 few (converted_parts line false None (part q ps) p).point (does_all (sequential bits) None (block_of_parts line (part q ps)) s) z) (sym (together q ps p t))
      (more later h.1 straight free d.point s2 t2 g.at (part_clean line false None q p clean) g.going
      (same_after s2 t2 s t ((silent-part bits line q).at s) ((silent-parts bits line (parts (all_parts_of line d.made))).at t) same)
      (lands bits line q (labels_ahead ps later) h.0 s c) (part_ahead line false None q (labels_ahead ps later) p h.0 a) on top)

  plain_goes : (q : Part) (ps : Parts) → IsLoopless q → BodyGoes ps → BodyGoes (part q ps)
  plain_goes q ps loopless more later h straight free p s t at clean going same c a on top =
      let d = converted line false None q p in
      let on2 = all_from bits line ps (does (sequential bits) None (statement_of_part line q) s) on in
      let up = masks_rise_parts line false None ps d.point in
      then_goes q ps more later h straight.1 free.1 p s t clean same c a on top
      (part_gone bits line k0 k1 few q p s t loopless free.0 at going (going_fine (does (sequential bits) None (statement_of_part line q) s).way on2) (omega (arith, up, top)))

  loop_goes : (l : Loop) (qs ps : Parts) → BodyGoes qs → BodyGoes ps → BodyGoes (part (Turns l qs) ps)
  loop_goes l qs ps within more later h straight free p s t at clean going same c a on top =
      let d = converted line false None (Turns l qs) p in
      let on2 = all_from bits line ps (does (sequential bits) None (statement_of_part line (Turns l qs)) s) on in
      let up = masks_rise_parts line false None ps d.point in
      let w = no_jump s.way (part_from bits line (Turns l qs) s on2) c in
      let none = no_pending p.pending a in
      let is = clean.at none in
      then_goes (Turns l qs) ps more later h straight.1 free.1 p s t clean same c a on top
      (loop_gone l qs p s t within h.0 straight.0 free.0 at going same w none is.0 is.1 on2 (omega (arith, up, top)))

  none_go : BodyGoes no_parts
  none_go later h straight free p s t at clean going same c a on top = record { going = going; at = at }

  mutual
    pub parts_go : (ps : Parts) → AreStraight ps → BodyGoes ps
    parts_go no_parts e = none_go
    parts_go (part q ps) e = first_goes q ps e.0 (parts_go ps e.1)

    first_goes : (q : Part) (ps : Parts) → IsStraight q → BodyGoes ps → BodyGoes (part q ps)
    first_goes (Run g) ps e more = plain_goes (Run g) ps e more
    first_goes (Turns l qs) ps e more = loop_goes l qs ps (parts_go qs e) more
    first_goes (Choice bs other) ps e more = plain_goes (Choice bs other) ps e more
    first_goes (Label k) ps e more = plain_goes (Label k) ps tt more
    first_goes (Jump k) ps e more = plain_goes (Jump k) ps tt more
