-- A set of places, lines or keys is a number: p is in it where bit p, worth 2 ^ p, is 1.
--   has            whether the set has p, as a test
--   In             p is in the set
--   one_in         1 for a member of the set, and 0 for any other
--   size           how many members the set has
--   intersection   the members of both sets
--   union          the members of one set or the other
--   difference     the members of the first set that the second does not have
--   exchange       the set without the members of a second, then with those of a third
--   Subset         each member of the first set is in the second
--   Meets          the sets share a member
--   Disjoint       the sets share no member
use Rattle.std.specs.Prelude.{ℕ, ◌/◌, ◌%◌, ◌^◌, Bool, cond, T, ◌==◌, bit_and, bit_or, bit_xor, count_ones}

abbrev pub has : ℕ → ℕ → Bool
has s p = s / 2 ^ p % 2 == 1

abbrev pub In : ℕ → ℕ → Type 0
In p s = T (has s p)

abbrev pub one_in : ℕ → ℕ → ℕ
one_in s p = cond (has s p) 1 0

abbrev pub size : ℕ → ℕ
size s = count_ones s

abbrev pub intersection : ℕ → ℕ → ℕ
intersection s t = bit_and s t

abbrev pub union : ℕ → ℕ → ℕ
union s t = bit_or s t

abbrev pub difference : ℕ → ℕ → ℕ
difference s t = bit_xor s (bit_and s t)

abbrev pub exchange : ℕ → ℕ → ℕ → ℕ
exchange s dark light = union (difference s dark) light

abbrev pub Subset : ℕ → ℕ → Type 0
Subset r s = (p : ℕ) → In p r → In p s

abbrev pub Meets : ℕ → ℕ → Type 0
Meets r s = (p : ℕ) × In p r × In p s

abbrev pub Disjoint : ℕ → ℕ → Type 0
Disjoint r s = (p : ℕ) → In p r → In p s → ⊥
