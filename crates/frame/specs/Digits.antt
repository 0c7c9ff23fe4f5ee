-- Bytes as hexadecimal digits.
--   digit_of    the number that a character stands for, if it is one of 0-9 and A-F
--   is_digit    whether it is one
--   all_digits  whether every character of a list is one
--   bytes_of    the bytes that a list of digits stands for, two digits a byte
--   char_of     the character that stands for a number below 16
--   hex_of      the digits of a list of bytes
use Rattle.std.specs.Prelude.{ℕ, ◌+◌, ◌-◌, ◌*◌, ◌/◌, ◌%◌, Bool, true, cond, ◌&&◌, List, [], ◌∷◌, is_some, Some, None, Option, nat_le, nat_lt}
use Rattle.std.specs.Option.{unwrap_or}

abbrev pub digit_of : ℕ → Option ℕ
digit_of c = cond (nat_le 48 c && nat_le c 57) (Some (c - 48)) (cond (nat_le 65 c && nat_le c 70) (Some (c - 55)) None)

abbrev pub is_digit : ℕ → Bool
is_digit c = is_some (digit_of c)

abbrev pub all_digits : List ℕ → Bool
all_digits [] = true
all_digits (c ∷ cs) = is_digit c && all_digits cs

-- the number of a digit
abbrev pub number_of : ℕ → ℕ
number_of c = unwrap_or (digit_of c) 0

-- a digit that is left over makes no byte
abbrev pub bytes_of : List ℕ → List ℕ
bytes_of [] = []
bytes_of (high ∷ []) = []
bytes_of (high ∷ (low ∷ cs)) = (number_of high * 16 + number_of low) ∷ bytes_of cs

abbrev pub char_of : ℕ → ℕ
char_of d = cond (nat_lt d 10) (48 + d) (55 + d)

abbrev pub hex_of : List ℕ → List ℕ
hex_of [] = []
hex_of (b ∷ bs) = char_of (b / 16) ∷ (char_of (b % 16) ∷ hex_of bs)
