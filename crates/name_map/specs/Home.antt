-- The home of a name, where the search for it begins; 01 has none. It comes from the bytes of the name alone, so equal names have the same home.
use Rattle.std.specs.Prelude.{◌≡◌, ℕ, zero, suc, ◌+◌, ◌*◌, ◌/◌, ◌%◌, ◌<◌, List, length}
use Rattle.characters.specs.Whitespace.{byte}
use Rattle.area.specs.Bytes.{field_at}
use Rattle.name_map.specs.declared.home.Checksum.{Checksum}

-- how many numbers there are of 32 bits, and how many homes
abbrev pub word_limit : ℕ
word_limit = 4294967296

abbrev pub home_count : ℕ
home_count = 4096

-- ---- Fletcher's checksum

-- with one number more
unfoldable pub add_number : Checksum → ℕ → Checksum
add_number c x =
    let s = (c.sum + x) % word_limit in
    record { sum = s; sums = (c.sums + s) % word_limit }

-- with k numbers more
unfoldable pub add_numbers : (ℕ → ℕ) → ℕ → Checksum → Checksum
add_numbers number zero c = c
add_numbers number (suc k) c = add_number (add_numbers number k c) (number k)

-- the number of four bytes, the low one first
abbrev pub word_at : List ℕ → ℕ → ℕ
word_at l i = field_at l i + field_at l (i + 2) * 65536

-- with k words more, of four bytes each, from place a on
abbrev pub add_words : List ℕ → ℕ → ℕ → Checksum → Checksum
add_words l a k c = add_numbers (λ j. word_at l (a + 4 * j)) k c

-- with k bytes more, from place a on
abbrev pub add_bytes : List ℕ → ℕ → ℕ → Checksum → Checksum
add_bytes l a k c = add_numbers (λ j. byte l (a + j)) k c

-- of n bytes from place a on: how many they are, then as many words as there are, then the rest
unfoldable pub checksum : List ℕ → ℕ → ℕ → Checksum
checksum l a n = add_bytes l (a + 4 * (n / 4)) (n % 4) (add_words l a (n / 4) (record { sum = n % word_limit; sums = 0 }))

-- ---- the home

abbrev pub mixed : ℕ → ℕ → ℕ
mixed h x = (h * 2654435769 + x) % word_limit

-- the two sums mixed, and of the result the highest 12 bits
unfoldable pub home_by : Checksum → ℕ
home_by c = mixed (mixed c.sum c.sums) 0 / 1048576

unfoldable pub home_of : List ℕ → ℕ
home_of name = home_by (checksum name 0 (length name))

-- r is the home of the name, and one of the homes
pub record Home (name : List ℕ) (r : ℕ) : Type 0 where
  pub is : r ≡ home_of name
  pub small : r < home_count
