-- Two instances that touch no common cell of which one is written may be exchanged.
use Rattle.std.proofs.Common.{◌≡◌, refl, sym, ap, ◌∙◌, subst, ◌⊎◌, inl, inr, [], ◌∷◌, Result, Ok, Err, Option, Some, None}
use Rattle.tree.specs.Steps.{◌>>=◌}
use Rattle.tree.specs.declared.ops.Value.{Value}
use Rattle.tree.specs.declared.ops.Fault.{Fault}
use Rattle.meaning.specs.Dialect.{Dialect}
use Rattle.meaning.specs.Store.{Store, Cell, put}
use Rattle.meaning.proofs.Exchanges.{put-put}
use Rattle.meaning_laws.specs.arrays.Instances.{after}
use Rattle.nest_order.specs.orders.Lists.{In}
use Rattle.nest_order.specs.orders.Orders.{and_then, runs, MayPass, Invariant}
use Rattle.nest_order.specs.orders.Shapes.{Instance}
use Rattle.nest_order.specs.runs.Guarded.{at_iterations}
use Rattle.nest_order.specs.runs.Nests.{RunNest, acts, effect_of, reads_of, variables_round}
use Rattle.nest_order.proofs.runs.Framing.{But-put, But-iterations, effect-same}

abbrev Write : Type 0
Write = Option (Cell × Value)

-- two instances touch a common cell that one of them writes
abbrev pub Conflict : (Instance → Cell → Type 0) → (Instance → Cell → Type 0) → Instance → Instance → Type 0
Conflict Reads Writes x y = (c : Cell) × ((Writes x c × (Reads y c ⊎ Writes y c)) ⊎ (Reads x c × Writes y c))

module _ (lang : Dialect) (n : RunNest) where
  abbrev act : Instance → Store → Result Store Fault
  act = acts n lang

  abbrev does : Instance → Store → Result Write Fault
  does = effect_of n lang

  pub acted : (x : Instance) (s t : Store) → act x s ≡ Ok t → (w : Write) × (does x s ≡ Ok w) × (after w s ≡ t)
  acted x s t e = by (does x s) e
    where
      by : (r : Result Write Fault) → (do w ← r; Ok (after w s)) ≡ Ok t → (w : Write) × (r ≡ Ok w) × (after w s ≡ t)
      by (Ok w) e = (w, refl, cc)
      by (Err f) e = cc

  pub acting : (x : Instance) (s : Store) (w : Write) → does x s ≡ Ok w → act x s ≡ Ok (after w s)
  acting x s w e = ap (λ (r : Result Write Fault). do w ← r; Ok (after w s)) e

  -- Reads and Writes: the cells that an instance may read and write, from a store of I
  module _ (IsIt : Instance → Type 0) (Reads Writes : Instance → Cell → Type 0) (I : Store → Type 0)
      (reading : (x : Instance) (s : Store) (c : Cell) → IsIt x → I s → In c (reads_of n lang x s) → Reads x c)
      (writing : (x : Instance) (s : Store) (c : Cell) (v : Value) → IsIt x → I s → does x s ≡ Ok (Some (c, v)) → Writes x c)
      (kept : (x : Instance) (s : Store) (c : Cell) (v : Value) → IsIt x → I s → does x s ≡ Ok (Some (c, v)) → I (put c v s)) where
    -- a write to a cell that x may not read
    framed : (x : Instance) (s : Store) (c : Cell) (w : Value) → IsIt x → I s → ¬ (Reads x c) → does x s ≡ does x (put c w s)
    framed x s c w is i unread =
        let but = But-iterations (λ d. d ≡ c) (variables_round n x.statement) x.iterations s (put c w s) (But-put c w s) in
        effect-same lang (at_iterations (variables_round n x.statement) x.iterations s) (at_iterations (variables_round n x.statement) x.iterations (put c w s)) but.bounds
        (n.statement_at x.statement) (λ d j. but.held d (λ e. unread (subst (Reads x) e (reading x s d is i j))))

    two : (x y : Instance) (s t u : Store) → act x s ≡ Ok t → act y t ≡ Ok u → runs act (x ∷ y ∷ []) s ≡ Ok u
    two x y s t u e f = ap (λ q. and_then q (runs act (y ∷ []))) e ∙ ap (λ q. and_then q (runs act [])) f

    pub invariant : Invariant act IsIt I
    invariant x s t is i e = by (acted x s t e)
      where
        by : (w : Write) × (does x s ≡ Ok w) × (after w s ≡ t) → I t
        by h = on h.0 h.1 h.2
          where
            on : (w : Write) → does x s ≡ Ok w → after w s ≡ t → I t
            on None e f = subst I f i
            on (Some p) e f = subst I f (kept x s p.0 p.1 is i e)

    module _ (x y : Instance) (is_x : IsIt x) (is_y : IsIt y) (apart : ¬ (Conflict Reads Writes x y)) where
      pass : (s : Store) → I s → (w u : Write) → does x s ≡ Ok w → does y (after w s) ≡ Ok u → runs act (y ∷ x ∷ []) s ≡ Ok (after u (after w s))
      pass s i None None e f = two y x s s s (acting y s None f) (acting x s None e)
      pass s i None (Some q) e f =
          let wy = writing y s q.0 q.1 is_y i f in
          two y x s (put q.0 q.1 s) (put q.0 q.1 s) (acting y s (Some q) f)
          (acting x (put q.0 q.1 s) None (sym (framed x s q.0 q.1 is_x i (λ r. apart (q.0, inr (r, wy)))) ∙ e))
      pass s i (Some p) None e f =
          let wx = writing x s p.0 p.1 is_x i e in
          two y x s s (put p.0 p.1 s) (acting y s None (framed y s p.0 p.1 is_y i (λ r. apart (p.0, inl (wx, inl r))) ∙ f)) (acting x s (Some p) e)
      pass s i (Some p) (Some q) e f =
          let wx = writing x s p.0 p.1 is_x i e in
          let g : does y s ≡ Ok (Some q) = framed y s p.0 p.1 is_y i (λ r. apart (p.0, inl (wx, inl r))) ∙ f in
          let wy = writing y s q.0 q.1 is_y i g in
          let swap : put p.0 p.1 (put q.0 q.1 s) ≡ put q.0 q.1 (put p.0 p.1 s) = put-put p.0 q.0 p.1 q.1 s (λ same. apart (p.0, inl (wx, inr (subst (Writes y) (sym same) wy)))) in
          two y x s (put q.0 q.1 s) (put q.0 q.1 (put p.0 p.1 s)) (acting y s (Some q) g)
          (acting x (put q.0 q.1 s) (Some p) (sym (framed x s q.0 q.1 is_x i (λ r. apart (q.0, inr (r, wy)))) ∙ e) ∙ ap Ok swap)

      pub may_pass : MayPass act I x y
      may_pass s t i e = by (act x s) refl e
        where
          by : (r : Result Store Fault) → act x s ≡ r → and_then r (runs act (y ∷ [])) ≡ Ok t → runs act (y ∷ x ∷ []) s ≡ Ok t
          by (Err f) g e = cc
          by (Ok m) g e = on (act y m) refl e
            where
              on : (r : Result Store Fault) → act y m ≡ r → and_then r (runs act []) ≡ Ok t → runs act (y ∷ x ∷ []) s ≡ Ok t
              on (Err f) h e = cc
              on (Ok k) h e =
                  let a = acted x s m g in
                  let b = acted y m k h in
                  let last : k ≡ t = cc in
                  pass s i a.0 b.0 a.1 (ap (does y) a.2 ∙ b.1) ∙ ap Ok (ap (after b.0) a.2 ∙ (b.2 ∙ last))
