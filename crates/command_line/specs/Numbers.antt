-- The numbers of a command line.
use Rattle.std.specs.Prelude.{ℕ, Bool, not, ◌&&◌, ◌==◌, if◌then◌else◌, nat_lt, nat_le, List, length, slice_index, Option, Some, None}
use Rattle.std.specs.List.{list_all}
use Rattle.std.specs.Char.{digit_value}
use Rattle.std.specs.Str.Parse.{digits_value}

-- the most that a number may be
abbrev pub most_number : ℕ
most_number = 1000000000000

-- one of `0` to `9`
abbrev pub is_digit : ℕ → Bool
is_digit b = nat_lt (digit_value b) 10

-- one to thirteen digits, the first not `0`
abbrev pub has_number_form : List ℕ → Bool
has_number_form text = nat_lt 0 (length text) && (nat_le (length text) 13 && (not (slice_index text 0 == 48) && list_all is_digit text))

-- the number that a text is: one to thirteen digits, the first not `0`, and at most 1000000000000
abbrev pub number_of : List ℕ → Option ℕ
number_of text = if has_number_form text && nat_le (digits_value 10 text) most_number then Some (digits_value 10 text) else None

-- the number of an option, and where it isn't given this one
abbrev pub number_or : ℕ → Option (List ℕ) → Option ℕ
number_or default None = Some default
number_or default (Some text) = number_of text
