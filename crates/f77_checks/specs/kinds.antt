pub mod KnownUses
