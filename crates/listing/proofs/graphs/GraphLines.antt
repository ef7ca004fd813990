-- The lines of edges and drops.
use Rattle.std.proofs.Common.{◌≡◌, ℕ, suc, ◌+◌, ◌<◌, ◌≤◌, true, false, if◌then◌else◌, List, [], ◌∷◌, ◌++◌, map, take, drop, length, get_or, refl, sym, ap, ◌∙◌, append_assoc, add-one}
use Rattle.std.proofs.Math.Seq.{drop-cons}
use Rattle.std.proofs.lemmas.List.{drop_all, map-append}
use Rattle.dependence_graph.specs.declared.graphs.Dropped.{Dropped}
use Rattle.dependence_graph.specs.declared.graphs.Edge.{Edge}
use Rattle.dependence_graph.specs.declared.graphs.Graph.{Graph}
use Rattle.nest.specs.Bodies.{Standing}
use Rattle.listing.specs.graphs.Lines.{entry_text}
use Rattle.listing.specs.graphs.Listing.{answer_entry, dependence_entries, drop_entry, edge_entry, lines_of_entries, lines_of_entry, listing_lines_of}
use Rattle.listing.specs.graphs.Order.{Found, RuledOut, before, not_before, comes_before_edge, entries_in_order}
use Rattle.listing.proofs.graphs.LoopLines.{entries-append, one_more}

next-drop : (ds : List Dropped) (k : ℕ) (d : Dropped) → k < length ds → d ≡ get_or ds k d → drop k ds ≡ d ∷ drop (k + 1) ds
next-drop ds k d h e = drop-cons ds k d h ∙ ap (λ x. x ∷ drop (suc k) ds) (sym e) ∙ ap (λ n. d ∷ drop n ds) (sym (add-one k))

pub before-more : (e : Edge) (ds : List Dropped) (k : ℕ) (d : Dropped) → k < length ds → d ≡ get_or ds k d → comes_before_edge d e ≡ true
    → before e ds ≡ take k ds ++ before e (drop k ds) → before e ds ≡ take (k + 1) ds ++ before e (drop (k + 1) ds)
before-more e ds k d h is t so =
    so ∙ ap (λ us. take k ds ++ before e us) (next-drop ds k d h is)
    ∙ ap (λ b. take k ds ++ (if b then d ∷ before e (drop (k + 1) ds) else [])) t
    ∙ sym (append_assoc (take k ds) (d ∷ []) (before e (drop (k + 1) ds)))
    ∙ ap (λ us. us ++ before e (drop (k + 1) ds)) (sym (one_more ds k d h is))

pub not-before-more : (e : Edge) (ds : List Dropped) (k : ℕ) (d : Dropped) → k < length ds → d ≡ get_or ds k d → comes_before_edge d e ≡ true
    → not_before e (drop k ds) ≡ not_before e (drop (k + 1) ds)
not-before-more e ds k d h is t =
    ap (not_before e) (next-drop ds k d h is) ∙ ap (λ b. if b then not_before e (drop (k + 1) ds) else d ∷ drop (k + 1) ds) t

pub before-none : (e : Edge) (ds : List Dropped) (k : ℕ) (d : Dropped) → k < length ds → d ≡ get_or ds k d → comes_before_edge d e ≡ false
    → before e (drop k ds) ≡ []
before-none e ds k d h is t =
    ap (before e) (next-drop ds k d h is) ∙ ap (λ b. if b then d ∷ before e (drop (k + 1) ds) else []) t

pub not-before-none : (e : Edge) (ds : List Dropped) (k : ℕ) (d : Dropped) → k < length ds → d ≡ get_or ds k d → comes_before_edge d e ≡ false
    → not_before e (drop k ds) ≡ drop k ds
not-before-none e ds k d h is t =
    ap (not_before e) (next-drop ds k d h is) ∙ ap (λ b. if b then not_before e (drop (k + 1) ds) else d ∷ drop (k + 1) ds) t
    ∙ sym (next-drop ds k d h is)

-- ---- an edge with the drops before it

ruled-out : (ts : List Standing) (ds : List Dropped) → map (answer_entry ts) (map RuledOut ds) ≡ map drop_entry ds
ruled-out ts [] = refl
ruled-out ts (d ∷ ds) = ap (λ us. drop_entry d ∷ us) (ruled-out ts ds)

pub last-lines : (ts : List Standing) (ds : List Dropped) → lines_of_entries (map (answer_entry ts) (entries_in_order [] ds)) ≡ lines_of_entries (map drop_entry ds)
last-lines ts ds = ap lines_of_entries (ruled-out ts ds)

pub edge-lines : (ts : List Standing) (e : Edge) (es : List Edge) (ds : List Dropped)
    → lines_of_entries (map (answer_entry ts) (entries_in_order (e ∷ es) ds))
    ≡ lines_of_entries (map drop_entry (before e ds))
    ++ (lines_of_entry (edge_entry ts e) ++ lines_of_entries (map (answer_entry ts) (entries_in_order es (not_before e ds))))
edge-lines ts e es ds =
    ap lines_of_entries (map-append (answer_entry ts) (map RuledOut (before e ds)) (Found e ∷ entries_in_order es (not_before e ds)))
    ∙ entries-append (map (answer_entry ts) (map RuledOut (before e ds))) (map (answer_entry ts) (Found e ∷ entries_in_order es (not_before e ds)))
    ∙ ap (λ us. us ++ lines_of_entries (map (answer_entry ts) (Found e ∷ entries_in_order es (not_before e ds)))) (ap lines_of_entries (ruled-out ts (before e ds)))

-- the edge at a place is taken
pub edge-taken : (ts : List Standing) (edges : List Edge) (i : ℕ) (e : Edge) (ds : List Dropped) (first old new : List (List ℕ)) (all : List (List ℕ))
    → i < length edges → e ≡ get_or edges i e
    → old ++ lines_of_entries (map (answer_entry ts) (entries_in_order (drop i edges) ds)) ≡ all
    → first ≡ old ++ lines_of_entries (map drop_entry (before e ds)) → new ≡ first ++ lines_of_entry (edge_entry ts e)
    → new ++ lines_of_entries (map (answer_entry ts) (entries_in_order (drop (i + 1) edges) (not_before e ds))) ≡ all
edge-taken ts edges i e ds first old new all h is so a b =
    let tail = lines_of_entries (map (answer_entry ts) (entries_in_order (drop (i + 1) edges) (not_before e ds))) in
    let drops = lines_of_entries (map drop_entry (before e ds)) in
    let line = lines_of_entry (edge_entry ts e) in
    let at : drop i edges ≡ e ∷ drop (i + 1) edges =
    drop-cons edges i e h ∙ ap (λ x. x ∷ drop (suc i) edges) (sym is) ∙ ap (λ n. e ∷ drop n edges) (sym (add-one i)) in
    ap (λ us. us ++ tail) (b ∙ ap (λ us. us ++ line) a) ∙ append_assoc (old ++ drops) line tail ∙ append_assoc old drops (line ++ tail)
    ∙ ap (λ us. old ++ us) (sym (edge-lines ts e (drop (i + 1) edges) ds))
    ∙ ap (λ es. old ++ lines_of_entries (map (answer_entry ts) (entries_in_order es ds))) (sym at) ∙ so

pub edges-taken : (ts : List Standing) (edges : List Edge) (i : ℕ) (ds : List Dropped) (old new all : List (List ℕ)) → length edges ≤ i
    → old ++ lines_of_entries (map (answer_entry ts) (entries_in_order (drop i edges) ds)) ≡ all
    → new ≡ old ++ lines_of_entries (map drop_entry ds) → new ≡ all
edges-taken ts edges i ds old new all h so is =
    is ∙ ap (λ us. old ++ us) (sym (last-lines ts ds))
    ∙ ap (λ es. old ++ lines_of_entries (map (answer_entry ts) (entries_in_order es ds))) (sym (drop_all i edges h)) ∙ so

-- as the loop goes on
pub with-drops : (ts : List Standing) (edges : List Edge) (i : ℕ) (e : Edge) (ds front back : List Dropped) (n : ℕ) (text items : List ℕ)
    (first old new start : List (List ℕ)) (g : Graph) → i < length edges → e ≡ get_or edges i e
    → old ++ lines_of_entries (map (answer_entry ts) (entries_in_order (drop i edges) ds)) ≡ start ++ lines_of_entries (dependence_entries ts g)
    → front ≡ take n ds → back ≡ drop n ds → take n ds ≡ before e ds → drop n ds ≡ not_before e ds → text ≡ items → items ≡ entry_text (edge_entry ts e)
    → first ≡ old ++ lines_of_entries (map drop_entry front) → new ≡ first ++ listing_lines_of text
    → new ++ lines_of_entries (map (answer_entry ts) (entries_in_order (drop (i + 1) edges) back)) ≡ start ++ lines_of_entries (dependence_entries ts g)
with-drops ts edges i e ds front back n text items first old new start g h is so f b t d v w a x =
    ap (λ us. new ++ lines_of_entries (map (answer_entry ts) (entries_in_order (drop (i + 1) edges) us))) (b ∙ d)
    ∙ edge-taken ts edges i e ds first old new (start ++ lines_of_entries (dependence_entries ts g)) h is so
    (a ∙ ap (λ us. old ++ lines_of_entries (map drop_entry us)) (f ∙ t))
    (x ∙ ap (λ u. first ++ listing_lines_of u) (v ∙ w))
