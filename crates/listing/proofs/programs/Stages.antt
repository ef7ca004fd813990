-- What passes make of a nest is what it is listed as, link by link, but for what stands behind; and no other nest is
-- listed.
use Rattle.std.proofs.Common.{◌≡◌, ℕ, ◌<◌, ◌^◌, Bool, List, Option, Some, None, ap, is_some, sym, true≢false, ◌∙◌, subst, refl}
use Rattle.dependence_graph.specs.declared.graphs.Place.{Place}
use Rattle.if_convert.specs.Converted.{converted_loop, converted_nest}
use Rattle.inductions.specs.Nests.{inductions_substituted}
use Rattle.interchange.specs.Arranged.{arranged, vectors_of}
use Rattle.nest.specs.Plain.{Choice, Jump, Label, Nest, Part, Run, Turns}
use Rattle.normal_loops.specs.Listed.{HasNormalLoops}
use Rattle.normal_loops.specs.Normalised.{normalised}
use Rattle.pass_laws.proofs.ListedNests.ListedNests.{listed_nest_is_normal, normal_nest_is_listed}
use Rattle.tree.specs.Plain.{Block}
use Rattle.listing.specs.declared.programs.counts.Counts.{Counts}
use Rattle.listing.specs.programs.Counted.{AreCounted}
use Rattle.listing.specs.programs.Laws.{LoopsAreListed}
use Rattle.listing.specs.programs.Passed.{IsPassedAs}
use Rattle.listing.specs.programs.Stages.{AreStagesOf, IsListedFrom, Stages, with_copies_before}
use Rattle.scalar_expand.specs.Expanded.{expanded}
use Rattle.scalar_rename.specs.Ranges.{HaveFewRanges}
use Rattle.scalar_rename.specs.Renamed.{renamed}
use Rattle.subscripts.specs.declared.affine.Dirs.{Dirs}
use Rattle.symbols_anew.specs.Nests.{with_symbols_found}
use Rattle.prepared_passes.proofs.SymbolsAnew.Same.{symbols_are_found_with_anything_behind}
use Rattle.prepared_passes.proofs.ExpandedNests.Anew.{masks_anew}
use Rattle.prepared_passes.specs.expansion.Unexpanded.{unexpanded}
use Rattle.prepared_passes.specs.splitting.Splits.{nodes_split}
use Rattle.listing.proofs.programs.Arranging.{arranged_beside, arranged_rest}
use Rattle.listing.proofs.programs.Expanding.{expanded_beside, masks_kept}
use Rattle.listing.proofs.programs.Naming.{named_from, renamed_beside, substituted_beside}
use Rattle.listing.proofs.programs.Splitting.{counted_beside, split_beside, split_rest, split_so}

-- ---- loops from 1 by 1

-- m is a nest with loops from 1 by 1, whatever stands behind it
record IsNormalBut (n m : Nest) : Type 0 where
  nest : Nest
  made : normalised n ≡ Some nest
  same : m ≡ record nest { after = m.after }

normal_link : (n m : Nest) → HasNormalLoops n m → IsNormalBut n m
normal_link n m h =
    let w = listed_nest_is_normal n m h in
    let own = normal_nest_is_listed n w.normal w.made in
    record {
      nest = w.normal;
      made = w.made;
      same =
          h.rest ∙ ap (λ (b : Part). record n { body = b; after = m.after }) w.body
          ∙ ap (λ (k : Nest). record k { after = m.after }) (sym own.rest);
    }

-- ---- masks

-- k is m with masks, whatever stands behind it
record IsConvertedBut (masks : ℕ) (m k : Nest) : Type 0 where
  nest : Nest
  made : converted_nest masks m ≡ Some nest
  same : k ≡ record nest { after = k.after }

some_is : (x y : Nest) → Some x ≡ Some y → x ≡ y
some_is x y e = cc

abbrev masks_made : ℕ → Nest → Part → Option Nest
masks_made masks n b = elim b [
  | Run g ↦ None
  | Turns l ps ↦ Some (converted_loop n masks l ps)
  | Choice bs ps ↦ None
  | Label j ↦ None
  | Jump j ↦ None
]

-- the same masks are made whatever stands behind
masks_beside : (masks : ℕ) (m k : Nest) (after : Block) → converted_nest masks (record m { after = after }) ≡ Some k
    → IsConvertedBut masks m k
unfolding converted_nest
masks_beside masks m k after e = by m.body refl e
  where
    by : (b : Part) → m.body ≡ b → masks_made masks (record m { after = after }) b ≡ Some k → IsConvertedBut masks m k
    by (Run g) f e = absurd (true≢false (sym (ap is_some e)))
    by (Turns l ps) f e =
        let is : converted_loop (record m { after = after }) masks l ps ≡ k
        = some_is (converted_loop (record m { after = after }) masks l ps) k e in
        record {
          nest = converted_loop m masks l ps;
          made = ap (masks_made masks m) f;
          same = subst (λ (j : Nest). j ≡ record (converted_loop m masks l ps) { after = j.after }) is refl;
        }
    by (Choice bs ps) f e = absurd (true≢false (sym (ap is_some e)))
    by (Label j) f e = absurd (true≢false (sym (ap is_some e)))
    by (Jump j) f e = absurd (true≢false (sym (ap is_some e)))

-- ---- symbols

-- the same symbols are found anew whatever stands behind both nests
anew_same : (n m : Nest) (after : Block)
    → with_symbols_found (record n { after = after }) m ≡ with_symbols_found n m
unfolding with_symbols_found
anew_same n m after = refl

anew_beside : (n m k : Nest) (before after : Block)
    → k ≡ with_symbols_found (record n { after = before }) (record m { after = after })
    → k ≡ record (with_symbols_found n m) { after = k.after }
anew_beside n m k before after e =
    let is = e ∙ anew_same n (record m { after = after }) before ∙ symbols_are_found_with_anything_behind n m after in
    subst (λ (j : Nest). j ≡ record (with_symbols_found n m) { after = j.after }) (sym is) refl

-- ---- the chain

-- passes make m of n, where whatever reads are copied, and the loops move by whatever vectors
pub record IsMadeBy (counts : Counts) (n m : Nest) : Type 0 where
  pub normal : Nest
  pub made : normalised n ≡ Some normal
  pub converted : Nest
  pub is_converted : converted_nest counts.masks normal ≡ Some converted
  pub anew : Nest
  pub is_anew : anew ≡ with_symbols_found normal converted
  pub substituted : Nest
  pub is_substituted : substituted ≡ inductions_substituted anew
  pub named : Nest
  pub is_named : named ≡ renamed substituted
  pub few : HaveFewRanges substituted
  pub may : Place → Bool
  pub vectors : List Dirs
  pub is_arranged : m ≡ arranged (nodes_split may (with_copies_before counts.copies (expanded named))) vectors
  pub counted : m.masks < 2 ^ 32
  pub copied : m.copies < 2 ^ 32
  pub numbered : AreCounted m

abbrev pub made_by : (counts : Counts) (n m : Nest) → IsPassedAs counts n m → IsMadeBy counts n m
made_by counts n m h = record {
  normal = h.normal;
  made = h.made;
  converted = h.converted;
  is_converted = h.is_converted;
  anew = h.anew;
  is_anew = h.is_anew;
  substituted = h.substituted;
  is_substituted = h.is_substituted;
  named = h.named;
  is_named = h.is_named;
  few = h.few;
  may = h.is_split.is.may;
  vectors = vectors_of h.graph.edges;
  is_arranged = h.is_arranged
      ∙ ap (λ (z : Nest). arranged z (vectors_of h.graph.edges))
      (split_so (with_copies_before counts.copies (expanded h.named)) h.split h.split_graph h.graph h.is_split);
  counted = h.counted;
  copied = h.copied;
  numbered = h.numbered;
}

-- the nest before expansion, by the one with masks
pub named_of : (normal converted anew substituted named : Nest) → anew ≡ with_symbols_found normal converted
    → substituted ≡ inductions_substituted anew → named ≡ renamed substituted → named ≡ unexpanded normal converted
named_of normal converted anew substituted named a i r = r ∙ ap renamed (i ∙ ap inductions_substituted a)

-- whose ranges are few
pub few_of : (normal converted anew substituted : Nest) → anew ≡ with_symbols_found normal converted
    → substituted ≡ inductions_substituted anew → HaveFewRanges substituted
    → HaveFewRanges (inductions_substituted (with_symbols_found normal converted))
few_of normal converted anew substituted a i h = subst HaveFewRanges (i ∙ ap inductions_substituted a) h

pub few_so : (counts : Counts) (n m : Nest) (h : IsMadeBy counts n m)
    → HaveFewRanges (inductions_substituted (with_symbols_found h.normal h.converted))
few_so counts n m h = few_of h.normal h.converted h.anew h.substituted h.is_anew h.is_substituted h.few

pub named_so : (counts : Counts) (n m : Nest) (h : IsMadeBy counts n m) → h.named ≡ unexpanded h.normal h.converted
named_so counts n m h =
    named_of h.normal h.converted h.anew h.substituted h.named h.is_anew h.is_substituted h.is_named

-- passes make a nest of n, and m is it, whatever stands behind m
pub record IsMadeBut (counts : Counts) (n m : Nest) : Type 0 where
  pub nest : Nest
  pub made : IsMadeBy counts n nest
  pub same : m ≡ record nest { after = m.after }

abbrev pub passed_is_listed : (counts : Counts) (n m : Nest) → IsPassedAs counts n m → IsListedFrom counts n m
passed_is_listed counts n m h = record {
  stages = record {
    normal = h.normal;
    converted = h.converted;
    anew = h.anew;
    substituted = h.substituted;
    named = h.named;
    expanded = with_copies_before counts.copies (expanded h.named);
    split_graph = h.split_graph;
    split = h.split;
    graph = h.graph;
    arranged = m;
  };
  are = record {
    normal = normal_nest_is_listed n h.normal h.made;
    converted = h.is_converted;
    is_anew = h.is_anew;
    is_substituted = h.is_substituted;
    is_named = h.is_named;
    few = h.few;
    is_expanded = refl;
    is_split_graph = h.is_split_graph;
    is_split = h.is_split;
    is_arranged = h.is_arranged;
    counted = h.counted;
    copied = h.copied;
    numbered = h.numbered;
  };
  last = refl;
}

-- what is counted isn't behind the nest
numbered_beside : (m k : Nest) → m ≡ record k { after = m.after } → AreCounted m → AreCounted k
numbered_beside m k e h =
    let c = subst AreCounted e h in record { statements = c.statements; references = c.references }

few_beside : (m k : Nest) → m ≡ record k { after = m.after } → HaveFewRanges m → HaveFewRanges k
few_beside m k e h = subst HaveFewRanges e h

-- the nests that passes make of n, and those that k are, whatever stands behind these
pub record AreBeside (counts : Counts) (n : Nest) (k : Stages) : Type 0 where
  pub last : Nest
  pub made : IsMadeBy counts n last
  pub given : k.anew ≡ record made.anew { after = k.anew.after }
  pub named : k.named ≡ record made.named { after = k.named.after }
  pub behind : k.arranged ≡ record last { after = k.arranged.after }

pub stages_beside : (counts : Counts) (n : Nest) (k : Stages) → AreStagesOf counts n k → AreBeside counts n k
stages_beside counts n k h =
    let w = normal_link n k.normal h.normal in
    let v = masks_beside counts.masks w.nest k.converted k.normal.after
    (subst (λ (j : Nest). converted_nest counts.masks j ≡ Some k.converted) w.same h.converted) in
    let a = with_symbols_found w.nest v.nest in
    let u = anew_beside w.nest v.nest k.anew k.normal.after k.converted.after
    (subst (λ (i : Nest). k.anew ≡ with_symbols_found i (record v.nest { after = k.converted.after })) w.same
    (subst (λ (i : Nest). k.anew ≡ with_symbols_found k.normal i) v.same h.is_anew)) in
    let i = inductions_substituted a in
    let q = substituted_beside k.anew a k.substituted u h.is_substituted in
    let r = renamed_beside k.substituted i k.named q h.is_named in
    let e = expanded (renamed i) in
    let c = with_copies_before counts.copies e in
    let x = counted_beside counts.copies (expanded k.named) e k.expanded
    (expanded_beside k.named (renamed i) (expanded k.named) r refl) h.is_expanded in
    let s = nodes_split h.is_split.is.may c in
    let z = split_beside k.expanded c k.split k.split_graph k.graph x h.is_split in
    let y = arranged_beside k.split s k.arranged (vectors_of k.graph.edges) z h.is_arranged in
    record {
      last = arranged s (vectors_of k.graph.edges);
      made = record {
        normal = w.nest;
        made = w.made;
        converted = v.nest;
        is_converted = v.made;
        anew = a;
        is_anew = refl;
        substituted = i;
        is_substituted = refl;
        named = renamed i;
        is_named = refl;
        few = few_beside k.substituted i q h.few;
        may = h.is_split.is.may;
        vectors = vectors_of k.graph.edges;
        is_arranged = refl;
        counted = subst (λ (j : Nest). j.masks < 2 ^ 32) y h.counted;
        copied = subst (λ (j : Nest). j.copies < 2 ^ 32) y h.copied;
        numbered = numbered_beside k.arranged (arranged s (vectors_of k.graph.edges)) y h.numbered;
      };
      given = u;
      named = r;
      behind = y;
    }

pub listed_is_made : (counts : Counts) (n m : Nest) → IsListedFrom counts n m → IsMadeBut counts n m
listed_is_made counts n m h =
    let b = stages_beside counts n h.stages h.are in
    subst (IsMadeBut counts n) (sym h.last) (record { nest = b.last; made = b.made; same = b.behind })

pub loops_are_listed : LoopsAreListed
loops_are_listed counts n m k s f g h made few ranges first split copied counted =
    let a = with_symbols_found m k in
    let i = inductions_substituted a in
    let e = expanded (renamed i) in
    let c = with_copies_before counts.copies e in
    record {
      stages = record {
        normal = m;
        converted = k;
        anew = a;
        substituted = i;
        named = renamed i;
        expanded = c;
        split_graph = f;
        split = s;
        graph = g;
        arranged = arranged s (vectors_of g.edges);
      };
      are = record {
        normal = h;
        converted = made;
        is_anew = refl;
        is_substituted = refl;
        is_named = refl;
        few = ranges;
        is_expanded = refl;
        is_split_graph = first;
        is_split = split;
        is_arranged = refl;
        counted = subst (λ (j : ℕ). j < 2 ^ 32)
            (sym (ap (λ (j : Nest). j.masks) (arranged_rest s (vectors_of g.edges))
            ∙ (ap (λ (j : Nest). j.masks) (split_so c s f g split ∙ split_rest split.is.may c)
            ∙ (masks_kept (renamed i) ∙ ((named_from a i (renamed i) refl refl).masks ∙ masks_anew m k a refl))))) few;
        copied = subst (λ (j : ℕ). j < 2 ^ 32)
            (sym (ap (λ (j : Nest). j.copies) (arranged_rest s (vectors_of g.edges)))) copied;
        numbered = counted;
      };
      last = refl;
    }
