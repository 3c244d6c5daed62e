-- Bytes by name, and the classes of bytes of which names, numbers and blanks consist. All of them are ASCII.
use Rattle.std.specs.Prelude.{ℕ, Bool, ◌||◌, ◌&&◌, ◌==◌, nat_le}

abbrev pub line_feed : ℕ
line_feed = 10

-- `"`
abbrev pub quote : ℕ
quote = 34

-- `#`
abbrev pub number_sign : ℕ
number_sign = 35

-- `%`
abbrev pub percent : ℕ
percent = 37

-- `*`
abbrev pub star : ℕ
star = 42

-- `0`
abbrev pub zero_digit : ℕ
zero_digit = 48

-- `\`
abbrev pub backslash : ℕ
backslash = 92

-- `a` to `z`
abbrev pub is_lower : ℕ → Bool
is_lower byte = nat_le 97 byte && nat_le byte 122

-- `A` to `Z`
abbrev pub is_upper : ℕ → Bool
is_upper byte = nat_le 65 byte && nat_le byte 90

-- a letter of either case
abbrev pub is_letter : ℕ → Bool
is_letter byte = is_lower byte || is_upper byte

-- `0` to `9`
abbrev pub is_digit : ℕ → Bool
is_digit byte = nat_le zero_digit byte && nat_le byte 57

-- a letter, a digit or `_`
abbrev pub is_word : ℕ → Bool
is_word byte = (is_letter byte || is_digit byte) || (byte == 95)

-- space, tab, line feed or carriage return
abbrev pub is_blank : ℕ → Bool
is_blank byte = (((byte == 32) || (byte == 9)) || (byte == line_feed)) || (byte == 13)
