-- The kind and the rank of an expression, from what is known of each name.
use Rattle.std.specs.Prelude.{ℕ, ◌+◌, ◌^◌, ◌==◌, nat_lt, nat_le, max, ℤ, pos, negsuc, Bool, true, false, not, ◌&&◌}
use Rattle.std.specs.Prelude.{◌||◌, if◌then◌else◌, Option, None, Some, List}
use Rattle.tree.specs.Plain.{Expression, Number, Logic, Named, Unary, Binary, Apply, Constructor, Spread, Transpose}
use Rattle.tree.specs.Plain.{Reshape, Reduce, Expressions, no_expressions, expression, Subscript, Only, Section}
use Rattle.tree.specs.Plain.{Subscripts, no_subscripts, subscript, Loops, no_loops, loop}
use Rattle.tree.specs.Plain.{Item, Single, Constant, ImpliedDo, Items, no_items, item}
use Rattle.tree.specs.declared.ops.Op.{Op}
use Rattle.tree.specs.declared.ops.Kind.{Kind}
use Rattle.tree.specs.declared.ops.Kind.TheVariants.{Integer, Logical}
use Rattle.tree.specs.declared.functions.Fun.{Fun}
use Rattle.tree.specs.declared.functions.Intrinsic.{Intrinsic}
use Rattle.tree.specs.declared.functions.Intrinsic.TheVariants as intrinsics
use Rattle.tree.specs.Limits.{array_dimensions}
use Rattle.tree.specs.Functions.{name_of_intrinsic, suits_number}
use Rattle.tree.specs.OperatorTable.{operand_kind, result_kind_of, is_unary}
use Rattle.meaning.specs.Typed.{number_of_arguments, number_of_subscripts}
use Rattle.f90_grammar.specs.Items.{Direction, Input, Output}
use Rattle.f90_names.specs.declared.kinds.declarations.names.Declared.{Declared}
use Rattle.f90_names.specs.declared.kinds.nodes.Ranked.{Ranked}

-- ---- of one node, by what was found of its parts: None where something in a part doesn't suit

abbrev pub ranked : Kind → ℕ → Ranked
ranked k n = record { kind = k; rank = n }

abbrev pub ranked_if : Bool → Kind → ℕ → Option Ranked
ranked_if b k n = if b then Some (ranked k n) else None

abbrev pub same_kind : Kind → Kind → Bool
same_kind Integer Integer = true
same_kind Logical Logical = true
same_kind _ _ = false

-- a scalar of this kind
abbrev pub is_scalar : Option Ranked → Kind → Bool
is_scalar None k = false
is_scalar (Some t) k = same_kind t.kind k && t.rank == 0

-- the ranks are equal, or one is that of a scalar
abbrev pub conform : ℕ → ℕ → Bool
conform m n = m == 0 || (n == 0 || m == n)

abbrev pub literal : ℤ → Option Ranked
literal (pos n) = ranked_if (nat_lt n (2 ^ 127)) Integer 0
literal (negsuc n) = None

-- a name with so many subscripts, whose ranks have this sum
abbrev pub name_with : Option Declared → ℕ → Option ℕ → Option Ranked
name_with None n r = None
name_with (Some d) n None = None
name_with (Some d) n (Some r) =
    if n == 0 then Some (ranked d.kind d.rank) else ranked_if (n == d.rank) d.kind r

abbrev pub unary : Op → Option Ranked → Option Ranked
unary o None = None
unary o (Some a) = ranked_if (is_unary o && same_kind a.kind (operand_kind o)) (result_kind_of o) a.rank

abbrev pub binary : Op → Option Ranked → Option Ranked → Option Ranked
binary o None b = None
binary o (Some a) None = None
binary o (Some a) (Some b) =
    ranked_if (not (is_unary o) && (same_kind a.kind (operand_kind o) && (same_kind b.kind (operand_kind o)
    && conform a.rank b.rank))) (result_kind_of o) (max a.rank b.rank)

-- a call with so many arguments, whose greatest rank this is
abbrev pub call : Fun → Bool → ℕ → Option ℕ → Option Ranked
call f free n None = None
call f free n (Some r) = ranked_if (suits_number f n && free) Integer r

-- a list of so many values under so many loops, which suit
abbrev pub constructor : ℕ → ℕ → Bool → Option Kind → Option Ranked
constructor n loops suit None = None
constructor n loops suit (Some k) = ranked_if (suit && (if loops == 0 then nat_le 1 n else n == 1)) k 1

abbrev pub spread : Bool → Option Ranked → ℕ → Option Ranked → Option Ranked
spread free None d n = None
spread free (Some a) d n =
    ranked_if (free && (nat_le 1 d && (nat_lt a.rank array_dimensions
    && (nat_le d (a.rank + 1) && is_scalar n Integer))))
    a.kind (a.rank + 1)

abbrev pub transpose : Bool → Option Ranked → Option Ranked
transpose free None = None
transpose free (Some a) = ranked_if (free && a.rank == 2) a.kind 2

-- an array with so many new extents, which suit
abbrev pub reshape : Bool → Option Ranked → ℕ → Bool → Option Ranked
reshape free None n suit = None
reshape free (Some a) n suit =
    ranked_if (free && (nat_le 1 a.rank && (nat_le 1 n && (nat_le n array_dimensions && suit)))) a.kind n

abbrev pub reduce : Bool → Option Ranked → Option Ranked
reduce free None = None
reduce free (Some a) = ranked_if (free && (nat_le 1 a.rank && same_kind a.kind Integer)) Integer 0

-- the rank of a subscript, 1 at most
abbrev pub only : Option Ranked → Option ℕ
only None = None
only (Some a) = if same_kind a.kind Integer && nat_le a.rank 1 then Some a.rank else None

abbrev pub section : Option Ranked → Option Ranked → Option Ranked → Option ℕ
section a b c = if is_scalar a Integer && (is_scalar b Integer && is_scalar c Integer) then Some 1 else None

-- the greatest rank of arguments, with one argument more
abbrev pub with_argument : ℕ → Option Ranked → Option ℕ
with_argument m None = None
with_argument m (Some a) = if same_kind a.kind Integer && conform m a.rank then Some (max m a.rank) else None

-- the kind of scalars, with one scalar more
abbrev pub with_scalar : Option Kind → Option Ranked → Option Kind
with_scalar k None = None
with_scalar None (Some a) = if a.rank == 0 then Some a.kind else None
with_scalar (Some k) (Some a) = if a.rank == 0 && same_kind a.kind k then Some k else None

-- a variable of one INTEGER
abbrev pub is_integer_scalar : Option Declared → Bool
is_integer_scalar None = false
is_integer_scalar (Some d) = same_kind d.kind Integer && d.rank == 0

abbrev pub suits_loop : Option Declared → Option Ranked → Option Ranked → Bool
suits_loop x a b = is_integer_scalar x && (is_scalar a Integer && is_scalar b Integer)

abbrev pub is_unknown : Option Declared → Bool
is_unknown None = true
is_unknown (Some d) = false

abbrev pub number_of_loops : Loops → ℕ
number_of_loops no_loops = 0
number_of_loops (loop x a b ls) = 1 + number_of_loops ls

-- ---- of a whole expression

module _ (known : List ℕ → Option Declared) where
  -- no variable hides the function
  abbrev pub is_free : Intrinsic → Bool
  is_free f = is_unknown (known (name_of_intrinsic f))

  abbrev mutual
    pub kind_in : Expression → Option Ranked
    kind_in (Number n) = literal n
    kind_in (Logic b) = Some (ranked Logical 0)
    kind_in (Named x ps) = name_with (known x) (number_of_subscripts ps) (rank_of_all 0 ps)
    kind_in (Unary o a) = unary o (kind_in a)
    kind_in (Binary o a b) = binary o (kind_in a) (kind_in b)
    kind_in (Apply f es) = call f (is_free (intrinsics.Elemental f)) (number_of_arguments es) (common_rank 0 es)
    kind_in (Constructor es ls) =
        constructor (number_of_arguments es) (number_of_loops ls) (are_loops ls) (common_kind None es)
    kind_in (Spread a d n) = spread (is_free intrinsics.Spread) (kind_in a) d (kind_in n)
    kind_in (Transpose a) = transpose (is_free intrinsics.Transpose) (kind_in a)
    kind_in (Reshape a es) =
        reshape (is_free intrinsics.Reshape) (kind_in a) (number_of_arguments es) (are_scalars Integer es)
    kind_in (Reduce r a) = reduce (is_free (intrinsics.Reduction r)) (kind_in a)

    -- the greatest rank of these arguments and of those before them
    pub common_rank : ℕ → Expressions → Option ℕ
    common_rank m no_expressions = Some m
    common_rank m (expression e es) = elim (with_argument m (kind_in e)) [ None ↦ None | Some n ↦ common_rank n es ]

    -- the kind of these scalars and of those before them, if there are any
    pub common_kind : Option Kind → Expressions → Option Kind
    common_kind k no_expressions = k
    common_kind k (expression e es) = elim (with_scalar k (kind_in e))
        [ None ↦ None | Some j ↦ common_kind (Some j) es ]

    pub are_scalars : Kind → Expressions → Bool
    are_scalars k no_expressions = true
    are_scalars k (expression e es) = is_scalar (kind_in e) k && are_scalars k es

    pub are_loops : Loops → Bool
    are_loops no_loops = true
    are_loops (loop x a b ls) = suits_loop (known x) (kind_in a) (kind_in b) && are_loops ls

    -- the sum of the ranks of these subscripts and of those before them
    pub rank_of_all : ℕ → Subscripts → Option ℕ
    rank_of_all m no_subscripts = Some m
    rank_of_all m (subscript p ps) = elim (rank_in p) [ None ↦ None | Some n ↦ rank_of_all (m + n) ps ]

    pub rank_in : Subscript → Option ℕ
    rank_in (Only e) = only (kind_in e)
    rank_in (Section a b c) = section (kind_in a) (kind_in b) (kind_in c)

-- ---- of statements

abbrev pub is_some_kind : Option Ranked → Bool
is_some_kind None = false
is_some_kind (Some t) = true

-- the left and the right side of an assignment
abbrev pub suits_sides : Option Ranked → Option Ranked → Bool
suits_sides None right = false
suits_sides (Some l) None = false
suits_sides (Some l) (Some r) = same_kind r.kind l.kind && (r.rank == 0 || r.rank == l.rank)

-- a mask and the left side, which suits
abbrev pub suits_mask : Option Ranked → Option Ranked → Bool
suits_mask None left = false
suits_mask (Some m) None = false
suits_mask (Some m) (Some l) = same_kind m.kind Logical && (nat_le 1 l.rank && m.rank == l.rank)

abbrev pub mask_and_sides : Option Ranked → Option Ranked → Option Ranked → Bool
mask_and_sides m l r = suits_mask m l && suits_sides l r

-- a variable with so many subscripts, none of which is an array
abbrev pub is_single : ℕ → Option Ranked → Bool
is_single n None = false
is_single n (Some t) = n == 0 || t.rank == 0

abbrev pub is_later_of : Option Declared → ℕ → Bool
is_later_of None n = false
is_later_of (Some d) n = d.is_allocatable && d.rank == n

abbrev pub is_later : Option Declared → Bool
is_later None = false
is_later (Some d) = d.is_allocatable

module _ (known : List ℕ → Option Declared) where
  abbrev pub are_numbers : Expression → Expression → Expression → Bool
  are_numbers a b c =
      is_scalar (kind_in known a) Integer && (is_scalar (kind_in known b) Integer && is_scalar (kind_in known c)
      Integer)

  -- a name and its extents
  abbrev pub allocates : List ℕ → Expressions → Bool
  allocates x es = is_later_of (known x) (number_of_arguments es) && are_scalars known Integer es

  -- what stands alone in a list
  abbrev pub suits_alone : Direction → Expression → Bool
  suits_alone Output e = is_some_kind (kind_in known e)
  suits_alone Input (Named x ps) = is_single (number_of_subscripts ps) (kind_in known (Named x ps))
  suits_alone Input e = false

  abbrev mutual
    pub suits_item : Direction → Item → Bool
    suits_item d (Single e) = suits_alone d e
    suits_item d (Constant t) = true
    suits_item d (ImpliedDo is x a b c) = suits_items d is && are_numbers a b c

    pub suits_items : Direction → Items → Bool
    suits_items d no_items = true
    suits_items d (item i is) = suits_item d i && suits_items d is
