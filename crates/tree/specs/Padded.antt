-- A name's bytes, padded with zeros to the length of the array that holds them.
use Rattle.std.specs.Prelude.{◌≡◌, ℕ, ◌-◌, ◌≤◌, List, ◌++◌, length, take, replicate}
use Rattle.std.proofs.Common.{sym, ap, arith, length-take}
use Rattle.tree.specs.Names.{IsName}
use Rattle.tree.specs.declared.names.Name.TheInside.{Inside}

-- what the array holds: a name, then zeros
pub record IsPadded (a : Inside) : Type 0 where
  pub within : a.len ≤ length a.bytes
  pub zeros : a.bytes ≡ take a.len a.bytes ++ replicate (31 - a.len) 0
  pub name : IsName (take a.len a.bytes)

-- the array that holds a name
abbrev pub padded : List ℕ → Inside
padded name = record { bytes = name ++ replicate (31 - length name) 0; len = length name }

with_bytes : (a : Inside) {b : List ℕ} → b ≡ a.bytes → ◌≡◌ {A = Inside} (record { bytes = b; len = a.len }) a
with_bytes a e = ap (λ (b : List ℕ). let r : Inside = record { bytes = b; len = a.len } in r) e

pub padded-take : (a : Inside) → IsPadded a → padded (take a.len a.bytes) ≡ a
padded-take a h =
    let e : length (take a.len a.bytes) ≡ a.len = simp length-take (omega (arith, h.within)) in
    rw e (with_bytes a (sym h.zeros))
