-- What a pass makes of the parts of a nest, part by part.
use Rattle.std.proofs.Common.{◌≡◌, ℕ, ◌+◌, ◌<◌, List, [], ◌∷◌, ◌++◌, map, take, length, get_or, Result, Ok, Err, IfOk, OnOk, refl, sym, ap, ◌∙◌, append_assoc, arith}
use Rattle.std.proofs.lemmas.List.{append-nil, map-append}
use Rattle.tree.specs.Plain as F
use Rattle.tree.specs.declared.lists.Memory.{Memory}
use Rattle.tree.specs.declared.lists.Seq.{Seq}
use Rattle.nest.specs.Plain as P
use Rattle.nest.specs.View.{guarded_of, loop_of, nest_of, part_of}
use Rattle.nest.specs.declared.nests.Nest.{Nest}
use Rattle.nest.specs.declared.parts.GuardedStmt.{GuardedStmt}
use Rattle.nest.specs.declared.parts.Loop.{Loop}
use Rattle.nest.specs.declared.parts.NestArm.{NestArm}
use Rattle.nest.specs.declared.parts.Part.{Part}
use Rattle.nest.specs.declared.parts.Part.TheVariants as variants
use Rattle.nest.proofs.Equations.{part_of-run, part_of-turns, part_of-choice, part_of-label, part_of-jump}
use Rattle.nest.proofs.statement_loops.StandingLaws.{one_more}
use Rattle.nest_steps.specs.Mapped.{count_of, count_in, mapped_parts_of, mapped_in}
use Rattle.nest_rewrite.specs.Assembled.{with_parts}
use Rattle.statement_passes.specs.MadeNames.{with_made}
use Rattle.statement_passes.specs.Passes.{mapped_body, mapped_nest}

-- ---- how many statements there are

count-append : (ps : List P.Part) (p : P.Part) → count_in (P.parts (ps ++ p ∷ [])) ≡ count_in (P.parts ps) + count_of p
count-append [] p = omega arith
count-append (q ∷ ps) p = let more = count-append ps p in omega (arith, more)

count_more : (list : List Part) (i : ℕ) (x : Part) → i < length list → x ≡ get_or list i x
    → count_in (P.parts (map part_of (take (i + 1) list))) ≡ count_in (P.parts (map part_of (take i list))) + count_of (part_of x)
count_more list i x h e =
    ap (λ xs. count_in (P.parts (map part_of xs))) (one_more list i x h e)
    ∙ ap (λ xs. count_in (P.parts xs)) (map-append part_of (take i list) (x ∷ []))
    ∙ count-append (map part_of (take i list)) (part_of x)

pub counted-more : (list : List Part) (i : ℕ) (x : Part) (k next new : ℕ) → i < length list → x ≡ get_or list i x
    → next ≡ k + count_in (P.parts (map part_of (take i list))) → new ≡ next + count_of (part_of x)
    → new ≡ k + count_in (P.parts (map part_of (take (i + 1) list)))
counted-more list i x k next new h e before now = let more = count_more list i x h e in omega (arith, more, before, now)

pub counted-run : (s : GuardedStmt) → count_of (part_of (variants.Run s)) ≡ 1
counted-run s = ap count_of (part_of-run s)

pub counted-turns : (l : Loop) (ps : Seq Part) → count_of (part_of (variants.Turns l ps)) ≡ count_in (P.parts (map part_of ps))
counted-turns l ps = ap count_of (part_of-turns l ps)

pub counted-choice : (bs : Seq NestArm) (ps : Seq Part) → count_of (part_of (variants.Choice bs ps)) ≡ 0
counted-choice bs ps = ap count_of (part_of-choice bs ps)

pub counted-label : (n : ℕ) → count_of (part_of (variants.Label n)) ≡ 0
counted-label n = ap count_of (part_of-label n)

pub counted-jump : (n : ℕ) → count_of (part_of (variants.Jump n)) ≡ 0
counted-jump n = ap count_of (part_of-jump n)

-- ---- what is made

module _ (each : List P.Loop → ℕ → P.Guarded → List P.Guarded) where
  in-append : (ls : List P.Loop) (k : ℕ) (ps : List P.Part) (p : P.Part)
      → mapped_in each ls k (P.parts (ps ++ p ∷ [])) ≡ mapped_in each ls k (P.parts ps) ++ mapped_parts_of each ls (k + count_in (P.parts ps)) p
  in-append ls k [] p =
      let none : k ≡ k + 0 = omega arith in
      append-nil (mapped_parts_of each ls k p) ∙ ap (λ m. mapped_parts_of each ls m p) none
  in-append ls k (q ∷ ps) p =
      let sum : (k + count_of q) + count_in (P.parts ps) ≡ k + (count_of q + count_in (P.parts ps)) = omega arith in
      ap (λ xs. mapped_parts_of each ls k q ++ xs) (in-append ls (k + count_of q) ps p)
      ∙ sym (append_assoc (mapped_parts_of each ls k q) (mapped_in each ls (k + count_of q) (P.parts ps)) (mapped_parts_of each ls ((k + count_of q) + count_in (P.parts ps)) p))
      ∙ ap (λ m. (mapped_parts_of each ls k q ++ mapped_in each ls (k + count_of q) (P.parts ps)) ++ mapped_parts_of each ls m p) sum

  in_more : (ls : List P.Loop) (k : ℕ) (list : List Part) (i : ℕ) (x : Part) → i < length list → x ≡ get_or list i x
      → mapped_in each ls k (P.parts (map part_of (take (i + 1) list)))
      ≡ mapped_in each ls k (P.parts (map part_of (take i list))) ++ mapped_parts_of each ls (k + count_in (P.parts (map part_of (take i list)))) (part_of x)
  in_more ls k list i x h e =
      ap (λ xs. mapped_in each ls k (P.parts (map part_of xs))) (one_more list i x h e)
      ∙ ap (λ xs. mapped_in each ls k (P.parts xs)) (map-append part_of (take i list) (x ∷ []))
      ∙ in-append ls k (map part_of (take i list)) (part_of x)

  pub added-more : (same : List P.Loop → ℕ → P.Guarded → List P.Guarded) (ls : List P.Loop) (list : List Part) (i : ℕ) (x : Part) (k next : ℕ)
      (first old new : List P.Part) → i < length list → x ≡ get_or list i x → same ≡ each
      → old ≡ first ++ mapped_in each ls k (P.parts (map part_of (take i list)))
      → next ≡ k + count_in (P.parts (map part_of (take i list))) → new ≡ old ++ mapped_parts_of same ls next (part_of x)
      → new ≡ first ++ mapped_in each ls k (P.parts (map part_of (take (i + 1) list)))
  added-more same ls list i x k next first old new h e alike before count now =
      now ∙ ap (λ f. old ++ mapped_parts_of f ls next (part_of x)) alike
      ∙ ap (λ xs. xs ++ mapped_parts_of each ls next (part_of x)) before
      ∙ ap (λ m. (first ++ mapped_in each ls k (P.parts (map part_of (take i list)))) ++ mapped_parts_of each ls m (part_of x)) count
      ∙ append_assoc first (mapped_in each ls k (P.parts (map part_of (take i list)))) (mapped_parts_of each ls (k + count_in (P.parts (map part_of (take i list)))) (part_of x))
      ∙ ap (λ xs. first ++ xs) (sym (in_more ls k list i x h e))

  pub mapped-run : (ls : List P.Loop) (k : ℕ) (s : GuardedStmt) → mapped_parts_of each ls k (part_of (variants.Run s)) ≡ map P.Run (each ls k (guarded_of s))
  mapped-run ls k s = ap (mapped_parts_of each ls k) (part_of-run s)

  pub mapped-turns : (ls : List P.Loop) (k : ℕ) (l : Loop) (ps : Seq Part)
      → mapped_parts_of each ls k (part_of (variants.Turns l ps)) ≡ P.Turns (loop_of l) (P.parts (mapped_in each (ls ++ loop_of l ∷ []) k (P.parts (map part_of ps)))) ∷ []
  mapped-turns ls k l ps = ap (mapped_parts_of each ls k) (part_of-turns l ps)

  pub mapped-choice : (ls : List P.Loop) (k : ℕ) (bs : Seq NestArm) (ps : Seq Part) → mapped_parts_of each ls k (part_of (variants.Choice bs ps)) ≡ part_of (variants.Choice bs ps) ∷ []
  mapped-choice ls k bs ps = ap (mapped_parts_of each ls k) (part_of-choice bs ps) ∙ ap (λ (p : P.Part). p ∷ []) (sym (part_of-choice bs ps))

  pub mapped-label : (ls : List P.Loop) (k n : ℕ) → mapped_parts_of each ls k (part_of (variants.Label n)) ≡ part_of (variants.Label n) ∷ []
  mapped-label ls k n = ap (mapped_parts_of each ls k) (part_of-label n) ∙ ap (λ (p : P.Part). p ∷ []) (sym (part_of-label n))

  pub mapped-jump : (ls : List P.Loop) (k n : ℕ) → mapped_parts_of each ls k (part_of (variants.Jump n)) ≡ part_of (variants.Jump n) ∷ []
  mapped-jump ls k n = ap (mapped_parts_of each ls k) (part_of-jump n) ∙ ap (λ (p : P.Part). p ∷ []) (sym (part_of-jump n))

  -- a loop, under which stands what was made of its body
  pub turns-added : (ls inner : List P.Loop) (k : ℕ) (l : Loop) (ps : Seq Part) (body old new : List P.Part) → inner ≡ ls ++ loop_of l ∷ []
      → body ≡ mapped_in each inner k (P.parts (map part_of ps)) → new ≡ old ++ P.Turns (loop_of l) (P.parts body) ∷ []
      → new ≡ old ++ mapped_parts_of each ls k (part_of (variants.Turns l ps))
  turns-added ls inner k l ps body old new within are now =
      now ∙ ap (λ (b : List P.Part). old ++ P.Turns (loop_of l) (P.parts b) ∷ []) (are ∙ ap (λ ms. mapped_in each ms k (P.parts (map part_of ps))) within)
      ∙ ap (λ xs. old ++ xs) (sym (mapped-turns ls k l ps))

  pub body-turns : (inner : List P.Loop) (l : Loop) (ps : Seq Part) (body : Seq Part) → inner ≡ loop_of l ∷ []
      → map part_of body ≡ mapped_in each inner 0 (P.parts (map part_of ps)) → (m : Loop) → loop_of m ≡ loop_of l
      → part_of (variants.Turns m body) ≡ mapped_body each (part_of (variants.Turns l ps))
  body-turns inner l ps body within are m same =
      part_of-turns m body ∙ ap (λ (n : P.Loop). P.Turns n (P.parts (map part_of body))) same
      ∙ ap (λ (b : List P.Part). P.Turns (loop_of l) (P.parts b)) (are ∙ ap (λ ms. mapped_in each ms 0 (P.parts (map part_of ps))) within)
      ∙ ap (mapped_body each) (sym (part_of-turns l ps))

  pub body-run : (s : GuardedStmt) → mapped_body each (part_of (variants.Run s)) ≡ part_of (variants.Run s)
  body-run s = ap (mapped_body each) (part_of-run s) ∙ sym (part_of-run s)

  pub body-choice : (bs : Seq NestArm) (ps : Seq Part) → mapped_body each (part_of (variants.Choice bs ps)) ≡ part_of (variants.Choice bs ps)
  body-choice bs ps = ap (mapped_body each) (part_of-choice bs ps) ∙ sym (part_of-choice bs ps)

  pub body-label : (n : ℕ) → mapped_body each (part_of (variants.Label n)) ≡ part_of (variants.Label n)
  body-label n = ap (mapped_body each) (part_of-label n) ∙ sym (part_of-label n)

  pub body-jump : (n : ℕ) → mapped_body each (part_of (variants.Jump n)) ≡ part_of (variants.Jump n)
  body-jump n = ap (mapped_body each) (part_of-jump n) ∙ sym (part_of-jump n)

-- ---- one part more

pub on-ok : {A E Q : Type 0} (r : Result A E) → Q → OnOk r Q
on-ok (Ok x) q = q
on-ok (Err e) q = tt

pub pushed-turns : {A E : Type 0} (r : Result A E) (made new : List Part) (m : Loop) (l : P.Loop) (ps : Seq Part) → loop_of m ≡ l
    → OnOk r (new ≡ made ++ variants.Turns m ps ∷ []) → OnOk r (map part_of new ≡ map part_of made ++ P.Turns l (P.parts (map part_of ps)) ∷ [])
pushed-turns (Ok x) made new m l ps same now =
    ap (map part_of) now ∙ map-append part_of made (variants.Turns m ps ∷ [])
    ∙ ap (λ (p : P.Part). map part_of made ++ p ∷ []) (part_of-turns m ps ∙ ap (λ (n : P.Loop). P.Turns n (P.parts (map part_of ps))) same)
pushed-turns (Err e) made new m l ps same now = now

-- ---- nests

with-mapped : (each : List P.Loop → ℕ → P.Guarded → List P.Guarded) (n : P.Nest) → with_parts n (mapped_body each n.body) n.made n.after ≡ mapped_nest each n
unfolding with_parts
with-mapped each n = refl

pub nest-mapped : (each : List P.Loop → ℕ → P.Guarded → List P.Guarded) (n : P.Nest) (p : P.Part) (as' : List P.Made) (b : F.Block) (r : Result Nest Memory)
    → p ≡ mapped_body each n.body → as' ≡ n.made → b ≡ n.after → IfOk r (λ new. nest_of new ≡ with_parts n p as' b) → IfOk r (λ new. nest_of new ≡ mapped_nest each n)
nest-mapped each n p as' b (Ok new) e f g h = h ∙ ((λ i. with_parts n (e i) (f i) (g i)) ∙ with-mapped each n)
nest-mapped each n p as' b (Err x) e f g h = h

with-more : (n : P.Nest) (as' : List P.Made) → with_parts n n.body (n.made ++ as') n.after ≡ with_made n as'
unfolding with_parts
with-more n as' = refl

pub nest-with-made : (n : P.Nest) (p : P.Part) (more as' : List P.Made) (b : F.Block) (r : Result Nest Memory)
    → p ≡ n.body → as' ≡ n.made ++ more → b ≡ n.after → IfOk r (λ new. nest_of new ≡ with_parts n p as' b) → IfOk r (λ new. nest_of new ≡ with_made n more)
nest-with-made n p more as' b (Ok new) e f g h = h ∙ ((λ i. with_parts n (e i) (f i) (g i)) ∙ with-more n more)
nest-with-made n p more as' b (Err x) e f g h = h

pub ruleset body_laws = (body-run, body-choice, body-label, body-jump)

pub ruleset turns_laws = (part_of-turns, map-append)

pub ruleset counted_laws = (counted-run, counted-turns, counted-choice, counted-label, counted-jump)

pub ruleset mapped_laws = (mapped-run, mapped-turns, mapped-choice, mapped-label, mapped-jump, counted-run, counted-turns, counted-choice, counted-label, counted-jump)
