-- Names of subgroups.
use Rattle.std.specs.Prelude.{◌==◌, ℕ, Bool, ◌&&◌, ◌||◌, List, length, take, nat_le, codes, bytes_eq}
use Rattle.std.specs.List.{list_any, list_all}

abbrev pub is_letter : ℕ → Bool
is_letter b = (nat_le 65 b && nat_le b 90) || (nat_le 97 b && nat_le b 122)

-- a letter, a digit or an underscore
abbrev pub is_name_byte : ℕ → Bool
is_name_byte b = is_letter b || (nat_le 48 b && nat_le b 57) || (b == 95)

-- at most 16 such bytes, of which the first is a letter
abbrev pub is_name : List ℕ → Bool
is_name token = nat_le (length token) 16 && list_any is_letter (take 1 token) && list_all is_name_byte token

-- the keywords that name the whole group and the subgroup of 0 alone
abbrev pub is_reserved : List ℕ → Bool
is_reserved token = bytes_eq token (codes "all") || bytes_eq token (codes "none")
