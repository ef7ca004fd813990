-- The members of a group: each stands beside each other where each stands beside the first.
use Rattle.std.proofs.Common.{◌≡◌, ◌≤◌, ◌<◌, ℕ, sym, ◌∙◌, subst, List, length, get_or, arith}
use Rattle.std.proofs.lemmas.List.{get_or_default}
use Rattle.std.specs.Prelude.{All, IsTrue}
use Rattle.subscripts.specs.Classes.{IsZiv}
use Rattle.subscripts.specs.Shapes.{IsBeside, IsGroup, IsPairing, members}
use Rattle.subscripts.specs.declared.pairing.Group.{Group}
use Rattle.subscripts.specs.declared.pairing.Pairing.{Pairing}

pub record IsMemberBeside (f p : Pairing) : Type 0 where
  pub pairing : IsPairing p
  pub linear : IsTrue p.known
  pub not_ziv : IsZiv p → ⊥
  pub beside : IsBeside f p

beside_each : (f p q : Pairing) → IsBeside f p → IsBeside f q → IsBeside p q
beside_each f p q a b = record {
  common = b.common ∙ sym a.common;
  from_depth = b.from_depth ∙ sym a.from_depth;
  to_depth = b.to_depth ∙ sym a.to_depth;
  from_spans = b.from_spans ∙ sym a.from_spans;
  to_spans = b.to_spans ∙ sym a.to_spans;
}

-- each stands beside the first
abbrev pub AreBesideFirst : List Pairing → Type 0
AreBesideFirst ms = (k : ℕ) (q : Pairing) → k < length ms → IsMemberBeside (get_or ms 0 q) (get_or ms k q)

pub is_group : (g : Group) → 1 ≤ g.count → g.count ≤ 7 → AreBesideFirst (members g) → IsGroup g
is_group g a b h = record {
  some = a;
  count = b;
  pairings = λ k q l. (h k q l).pairing;
  linear = λ k q l. (h k q l).linear;
  not_ziv = λ k q l. (h k q l).not_ziv;
  beside = λ k q l m r n.
      subst (λ (z : Pairing). IsBeside (get_or (members g) k q) z) (get_or_default (members g) m q r n)
      (beside_each (get_or (members g) 0 q) (get_or (members g) k q) (get_or (members g) m q) (h k q l).beside (h m q n).beside);
}

-- whatever stands past the ends of the list
pub member_at : (ms : List Pairing) (i : ℕ) (q d e : Pairing) → i < length ms → IsPairing (get_or ms i d) → IsTrue (get_or ms i d).known → (IsZiv (get_or ms i d) → ⊥)
    → IsBeside (get_or ms 0 e) (get_or ms i d) → IsMemberBeside (get_or ms 0 q) (get_or ms i q)
member_at ms i q d e h a b z k =
    let n : 0 < length ms = omega arith in
    subst (λ (f : Pairing). IsMemberBeside f (get_or ms i q)) (get_or_default ms 0 e q n)
    (subst (λ (p : Pairing). IsMemberBeside (get_or ms 0 e) p) (get_or_default ms i d q h) (record { pairing = a; linear = b; not_ziv = z; beside = k }))
