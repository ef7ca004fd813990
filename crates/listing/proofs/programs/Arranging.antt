-- Loops that move leave all of a nest but its body as it is, whatever stands behind it.
use Rattle.std.proofs.Common.{◌≡◌, refl, sym, ap, ◌∙◌, subst, ℕ, ◌+◌, Bool, true, false, cond, List, [], Option, Some, None, length}
use Rattle.std.specs.Option.{option_map}
use Rattle.std.specs.Prelude.{unwrap_or}
use Rattle.prepared_passes.proofs.ArrangedNests.MovedChains.{moved_is}
use Rattle.dependence_graph.specs.nest_graph.Spans.{spans_of}
use Rattle.prepared_passes.specs.expansion.Found.{expanded_depth}
use Rattle.prepared_passes.specs.splitting.Laws.{split_rise}
use Rattle.interchange.specs.Arranged.{arranged, arranged_by, arranged_chain, body_in, is_changed, free_trips_of, with_moved_loops}
use Rattle.interchange.specs.Arranged.{with_order}
use Rattle.interchange.specs.Chains.{Chain, chain_of}
use Rattle.interchange.specs.Orders.{order_of}
use Rattle.interchange.specs.Reads.{read_own_elements}
use Rattle.nest.specs.Plain.{Nest}
use Rattle.nest.specs.declared.parts.Trip.{Trip}
use Rattle.subscripts.specs.declared.affine.Dirs.{Dirs}
use Rattle.tree.specs.Plain.{Block}

-- an element of a copy may be deeper by one, and canonical text, which is made anew where a read is copied and where a
-- loop moves, by 18
abbrev pub last_depth : ℕ
last_depth = (expanded_depth + split_rise) + 18

-- ---- all but the body

pub arranged_rest : (n : Nest) (vectors : List Dirs) → arranged n vectors ≡ record n { body = (arranged n vectors).body }
arranged_rest n vectors = by (with_moved_loops n vectors) refl
  where
    by : (o : Option Nest) → with_moved_loops n vectors ≡ o → unwrap_or o n ≡ record n { body = (unwrap_or o n).body }
    by None e = refl
    by (Some k) e =
        subst (λ (z : Nest). z ≡ record n { body = z.body }) (sym (moved_is n vectors k e).nest) refl

-- ---- what the code gives

pub moved_some : {A : Type 0} (k : Nest) (vectors : List Dirs) (new : Option A) (nest : A → Nest) (a : A)
    → option_map nest new ≡ with_moved_loops k vectors → new ≡ Some a → with_moved_loops k vectors ≡ Some (nest a)
moved_some k vectors new nest a made is = sym made ∙ ap (option_map nest) is

pub moved_none : {A : Type 0} (k : Nest) (vectors : List Dirs) (new : Option A) (nest : A → Nest)
    → option_map nest new ≡ with_moved_loops k vectors → new ≡ None → with_moved_loops k vectors ≡ None
moved_none k vectors new nest made is = sym made ∙ ap (option_map nest) is

pub arranged_some : (k m : Nest) (vectors : List Dirs) → with_moved_loops k vectors ≡ Some m → m ≡ arranged k vectors
arranged_some k m vectors e = sym (ap (λ o. unwrap_or o k) e)

-- ---- whatever stands behind

module _ (n : Nest) (after : Block) (vectors : List Dirs) where
  abbrev beside : Nest
  beside = record n { after = after }

  abbrev IsSame : Option Nest → Option Nest → Type 0
  IsSame o p = unwrap_or o (record n { after = after }) ≡ record (unwrap_or p n) { after = after }

  same_order : (c : Chain) (order : List ℕ) → IsSame (with_order (record n { after = after }) c order) (with_order n c order)
  same_order c order = by (is_changed order)
    where
      by : (b : Bool)
          → unwrap_or (cond b (Some (record n { body = body_in n c order; after = after })) None) (record n { after = after })
          ≡ record (unwrap_or (cond b (Some (record n { body = body_in n c order })) None) n) { after = after }
      by true = refl
      by false = refl

  same_chain : (c : Chain) (o : Option (List Trip))
      → IsSame (arranged_chain (record n { after = after }) vectors c o) (arranged_chain n vectors c o)
  same_chain c None = refl
  same_chain c (Some ts) = same_order c (order_of ts (spans_of [] c.loops) vectors (length c.loops))

  same_nest : (o : Option Chain) → IsSame (arranged_by (record n { after = after }) vectors o) (arranged_by n vectors o)
  same_nest None = refl
  same_nest (Some c) = by (read_own_elements n)
    where
      by : (b : Bool)
          → unwrap_or (cond b (arranged_chain (record n { after = after }) vectors c (free_trips_of c.loops)) None) (record n { after = after })
          ≡ record (unwrap_or (cond b (arranged_chain n vectors c (free_trips_of c.loops)) None) n) { after = after }
      by true = same_chain c (free_trips_of c.loops)
      by false = refl

  pub arranged_with_anything_behind : arranged (record n { after = after }) vectors ≡ record (arranged n vectors) { after = after }
  unfolding with_moved_loops
  arranged_with_anything_behind = same_nest (chain_of n.body)

pub arranged_beside : (k c m : Nest) (vectors : List Dirs) → k ≡ record c { after = k.after } → m ≡ arranged k vectors
    → m ≡ record (arranged c vectors) { after = m.after }
arranged_beside k c m vectors same e =
    let is : m ≡ record (arranged c vectors) { after = k.after }
    = e ∙ ap (λ (z : Nest). arranged z vectors) same ∙ arranged_with_anything_behind c k.after vectors in
    subst (λ (z : Nest). z ≡ record (arranged c vectors) { after = z.after }) (sym is) refl
