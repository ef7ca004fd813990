-- A program with other blocks in the place of some loops goes the way of the program itself.
use Rattle.std.proofs.Common.{◌≡◌, refl, sym, ap, ◌∙◌, subst, ℕ, inl, inr, Some, None, List}
use Rattle.tree.specs.Plain.{Expression, Statement, Assignment, Where, If, Do, Label, GoTo, Stop, Read, Print}
use Rattle.tree.specs.Plain.{Allocate, Deallocate, Arms, no_arms, arm, Block, no_statements, statement, Declaration}
use Rattle.tree.specs.Plain.{Program}
use Rattle.meaning.specs.declared.End.TheVariants.{Done}
use Rattle.meaning.specs.Blocks.{Surroundings, outermost, within_loop, before_labels, labels_of}
use Rattle.meaning.specs.Dialect.{fortran77, fortran90}
use Rattle.tree.specs.declared.width.Width.{Width}
use Rattle.meaning.specs.Profile77.{IsProgram77, AreArms, IsBlock}
use Rattle.meaning.specs.Profile90 as target
use Rattle.meaning.specs.Run.{State, Way, Going, Jumping, Stopped, Failed, Cut, Act, nothing, goes, arrives}
use Rattle.meaning.specs.Run.{opening_state, does, chooses, does_all}
use Rattle.meaning.specs.Sequential.{end_of, EndsWell}
use Rattle.meaning.specs.Store.{Store, opening_store}
use Rattle.rewrite.specs.Following.{IsSound}
use Rattle.rewrite.proofs.Acts.{Stays-does_all, Beside, Follows-nothing, Follows-then, Follows-goes, Follows-either}
use Rattle.nest.specs.Allocations.{block_then}
use Rattle.meaning_laws.specs.profiles.Profiles.{AddMadeNames}
use Rattle.meaning_laws.proofs.profiles.Programs.{source_with_made_names}
use Rattle.meaning_laws.proofs.profiles.Stores.{opening_holds}
use Rattle.meaning_laws.proofs.dialects.MadeNames.{opening_agrees}
use Rattle.translation.proofs.PlacedLoops.Frames.{opening_free}
use Rattle.translation.specs.placed_loops.Beside.{AreBeside, DoesAs}
use Rattle.translation.specs.placed_loops.Laws.{PlacedLoopsKeepMeaning}
use Rattle.pass_laws.specs.prepared_runs.Unlabelled.{HasNoLabel}
use Rattle.translation.specs.placed_loops.Placed.{one, StandsFor, ArePlaced, IsPlaced}
use Rattle.translation.proofs.PlacedLoops.Passing.{IsElsewhere, evaluates_passed, does_then, EachIn, each_in, front_in, back_in}
use Rattle.translation.proofs.PlacedLoops.Passing.{block_passed}
use Rattle.translation.proofs.PlacedLoops.Steady.{steady_assignment, steady_read, steady_print}
use Rattle.translation.proofs.PlacedLoops.Beside.{Alike, Goes, id, together, stays_beside, asks, counts, one_truth, loop_beside}

module _ (width : Width) (p q : Program) (program : IsProgram77 (fortran77 width) p) (add : AddMadeNames p.declarations q.declarations) where
  abbrev ds : List Declaration
  ds = p.declarations

  abbrev es : List Declaration
  es = q.declarations

  abbrev Like : Store → Store → Type 0
  Like = Alike width p q program add

  abbrev Leads : Act → Act → Type 0
  Leads = Goes width p q program add

  abbrev same : (s u : Store) → Like s u → Like s u
  same = id width p q program add

  -- ---- a block in the place of a loop

  passed : (f g : Act) (s : State) (u : Store) (n : ℕ) → f s ≡ s → g (record s { store = u; steps = n }) ≡ record s { store = u; steps = n } → Like s.store u
      → Beside Like (f s) (g (record s { store = u; steps = n }))
  passed f g s u n e k a =
      let here : Beside Like s (record s { store = u; steps = n }) = record { stores = a; rest = refl } in
      subst (λ (r : State). Beside Like r (g (record s { store = u; steps = n }))) (sym e) (subst (λ (r : State). Beside Like s r) (sym k) here)

  -- what is passed by a run that isn't going has to follow one that goes
  going_leads : (f g : Act) → ((s : State) → IsElsewhere s.way → f s ≡ s) → ((t : State) → IsElsewhere t.way → g t ≡ t)
      → ((s t : State) → s.way ≡ Going → AreBeside width p q s t → IsSound (f s).way → AreBeside width p q (f s) (g t)) → Leads f g
  going_leads f g passes passes_beside h = record { at = λ s. by s s.way refl }
    where
      elsewhere : (s : State) (u : Store) (n : ℕ) → IsElsewhere s.way → Like s.store u → Beside Like (f s) (g (record s { store = u; steps = n }))
      elsewhere s u n e k = passed f g s u n (passes s e) (passes_beside (record s { store = u; steps = n }) e) k

      by : (s : State) (w : Way) → s.way ≡ w → (u : Store) (n : ℕ) → Like s.store u → IsSound (f s).way → Beside Like (f s) (g (record s { store = u; steps = n }))
      by s Going e u n k sound =
          let t : State = record s { store = u; steps = n } in
          together width p q program add (f s) (g t)
          (h s t e (record { store = k.agree; holds = k.holds; holds_beside = k.holds_beside; free = k.free; written = refl; input = refl; had_value = refl; way = refl }) sound)
      by s (Jumping m) e u n k sound = elsewhere s u n (subst IsElsewhere (sym e) tt) k
      by s Stopped e u n k sound = elsewhere s u n (subst IsElsewhere (sym e) tt) k
      by s (Failed f m) e u n k sound = elsewhere s u n (subst IsElsewhere (sym e) tt) k
      by s Cut e u n k sound = elsewhere s u n (subst IsElsewhere (sym e) tt) k

  does_as_loop : (line : ℕ) (x : List ℕ) (a b c : Expression) (body d : Block) → DoesAs width p q (Do line x a b c body) d → HasNoLabel d → EachIn width es d
      → Leads (does (fortran77 width) None (Do line x a b c body)) (does_all (fortran90 width) None d)
  does_as_loop line x a b c body d h l i = going_leads _ _ (λ s e. evaluates_passed line _ _ s e) (block_passed width es d i l) h

  -- ---- statements, arms and blocks

  label_leads : (n : ℕ) → Leads (does (fortran77 width) None (Label n)) (does (fortran90 width) None (Label n))
  label_leads n = record { at = λ s. (Follows-either Like Like same (arrives n s.way) (goes Going) (goes Going) nothing nothing (λ e. Follows-goes Like Like same Going) (λ e. Follows-nothing Like Like same)).at s }

  alone : (f : Act) (c : Statement) (b : Block) → b ≡ one c → Leads f (does (fortran90 width) None c) → Leads f (does_all (fortran90 width) None b)
  alone f c b e h = subst (λ (d : Block). Leads f (does_all (fortran90 width) None d)) (sym e) h

  split : (b c : Block) → does_all (fortran90 width) None (block_then b c) ≡ (λ s. does_all (fortran90 width) None c (does_all (fortran90 width) None b s))
  split b c i s = does_then (fortran90 width) None b c s i

  mutual
    statement_leads : (c : Statement) (w : Surroundings) (b : Block) → IsBlock ds (one c) w → target.IsBlock es (one c) w → StandsFor width p q c b → EachIn width es b
        → Leads (does (fortran77 width) None c) (does_all (fortran90 width) None b)
    statement_leads (Assignment line m left right) w b h k e i = alone _ _ b e (stays_beside width p q program add (Assignment line m left right) w h k (steady_assignment width line m left right))
    statement_leads (Read line is) w b h k e i = alone _ _ b e (stays_beside width p q program add (Read line is) w h k (steady_read width line is))
    statement_leads (Print line is) w b h k e i = alone _ _ b e (stays_beside width p q program add (Print line is) w h k (steady_print width line is))
    statement_leads (Label n) w b h k e i = alone _ _ b e (label_leads n)
    statement_leads (GoTo line n) w b h k e i = alone _ _ b e (counts width p q program add _ _ (Follows-goes Like Like same (Jumping n)))
    statement_leads (Stop line) w b h k e i = alone _ _ b e (counts width p q program add _ _ (Follows-goes Like Like same Stopped))
    statement_leads (Where line m mask left right) w b h k e i = absurd h.0
    statement_leads (Allocate line x ns) w b h k e i = absurd h.0
    statement_leads (Deallocate line x) w b h k e i = absurd h.0
    statement_leads (Do line x a b c body) w d h k (inl e) i = does_as_loop line x a b c body d e.0 e.1 i
    statement_leads (Do line x a b c body) w d h k (inr e) i =
        let v = (subst (EachIn width es) e.1 i).0 in
        alone _ _ d e.1 (loop_beside width p q program add line x a b c _ _ h.0.1.integer h.0.2.suits h.0.3.suits h.0.4.suits
        (block_leads body (within_loop x w) e.0 h.0.5 k.0.5 e.2 (each_in width es e.0 (within_loop x v.0) v.1.5)))
    statement_leads (If line arms other) w b h k e i =
        let v = (subst (EachIn width es) e.2 i).0 in
        alone _ _ b e.2 (arms_leads arms e.0 line w v.0 _ _ h.0.2 k.0.2 e.3 v.1.2 (block_leads other w e.1 h.0.3 k.0.3 e.4 (each_in width es e.1 v.0 v.1.3)))

    arms_leads : (arms ms : Arms) (line : ℕ) (w v : Surroundings) (f g : Act) → AreArms ds arms w → target.AreArms es arms w → ArePlaced width p q arms ms → target.AreArms es ms v → Leads f g
        → Leads (chooses (fortran77 width) None line arms f) (chooses (fortran90 width) None line ms g)
    arms_leads no_arms ms line w v f g h k e i b = subst (λ (ns : Arms). Leads f (chooses (fortran90 width) None line ns g)) (sym e) b
    arms_leads (arm test body more) ms line w v f g h k e i b =
        let j = subst (λ (ns : Arms). target.AreArms es ns v) e.2 i in
        subst (λ (ns : Arms). Leads (chooses (fortran77 width) None line (arm test body more) f) (chooses (fortran90 width) None line ns g)) (sym e.2)
        (counts width p q program add _ _ (asks width p q program add line _ _ _ _ (one_truth width p q program add test h.0.suits) (λ t.
        Follows-either Like Like same t _ _ _ _ (λ _. block_leads body w e.0 h.1 k.1 e.3 (each_in width es e.0 v j.1)) (λ _. arms_leads more e.1 line w v f g h.2 k.2 e.4 j.2 b))))

    block_leads : (cs : Block) (w : Surroundings) (d : Block) → IsBlock ds cs w → target.IsBlock es cs w → IsPlaced width p q cs d → EachIn width es d
        → Leads (does_all (fortran77 width) None cs) (does_all (fortran90 width) None d)
    block_leads no_statements w d h k e i = subst (λ (b : Block). Leads nothing (does_all (fortran90 width) None b)) (sym e) (Follows-nothing Like Like same)
    block_leads (statement c cs) w d h k e i =
        let j = subst (EachIn width es) e.2 i in
        let v = before_labels (labels_of cs) w in
        subst (λ (b : Block). Leads (does_all (fortran77 width) None (statement c cs)) (does_all (fortran90 width) None b)) (sym e.2)
        (subst (λ (g : Act). Leads (does_all (fortran77 width) None (statement c cs)) g) (sym (split e.0 e.1))
        (Follows-then Like Like same (does (fortran77 width) None c) (does_all (fortran90 width) None e.0) (does_all (fortran77 width) None cs) (does_all (fortran90 width) None e.1)
        (statement_leads c v e.0 (h.0, tt) (k.0, tt) e.3 (front_in width es e.0 e.1 j)) (Stays-does_all (fortran77 width) None cs) (block_leads cs w e.1 h.1 k.1 e.4 (back_in width es e.0 e.1 j))))

-- ---- whole runs

sound_end : (w : Way) → end_of w ≡ Some Done → IsSound w
sound_end Going e = tt
sound_end (Jumping n) e = tt
sound_end Stopped e = tt
sound_end (Failed f n) e = cc
sound_end Cut e = cc

pub placed_loops_keep_meaning : (width : Width) → PlacedLoopsKeepMeaning width
placed_loops_keep_meaning width p q input program beside add placed =
    let leads = block_leads width p q program add p.body outermost q.body program.statements (source_with_made_names (fortran77 width) p q.declarations program add).statements placed (each_in width q.declarations q.body outermost beside.statements) in
    let opening : Alike width p q program add (opening_store p) (opening_store q)
    = record { agree = opening_agrees p q.declarations add; holds = opening_holds (fortran77 width) p; holds_beside = opening_holds (fortran90 width) q; free = opening_free q } in
    let ends = λ (e : EndsWell (does_all (fortran77 width) None p.body (opening_state p input))).
    leads.at (opening_state p input) (opening_store q) 0 opening (sound_end (does_all (fortran77 width) None p.body (opening_state p input)).way e) in
    record {
      ends = λ e. ap (λ (r : State). end_of r.way) (ends e).rest ∙ e;
      output = λ e. sym (ap (λ (r : State). r.written) (ends e).rest);
      store = λ e. (ends e).stores.agree;
    }
