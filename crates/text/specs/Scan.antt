-- The scanners that declarations and rules are read with, each one walk (01, Declarations and Rules).
use Rattle.std.specs.Prelude.{cond, not, List, ℕ, ◌+◌, ◌-◌, ◌%◌, min, eqb, leb, length, Option, Some, None}
use Rattle.characters.specs.Class.{is_blank, is_ascii_whitespace}
use Rattle.characters.specs.Walk.{first, last, skip}
use Rattle.characters.specs.Whitespace.{byte, whitespace_len, line_end_len, at_whitespace, at_line_end}

-- past the whitespace characters at i: no more of them than bytes (01, Declarations)
abbrev pub skip_whitespace : List ℕ → ℕ → ℕ
skip_whitespace s i = skip (whitespace_len s) (length s) i

-- past the line ends at i (01, Rules)
abbrev pub skip_line_ends : List ℕ → ℕ → ℕ
skip_line_ends s i = skip (line_end_len s) (length s) i

-- past the blanks at i (01, Rules)
abbrev pub skip_blanks : List ℕ → ℕ → ℕ
skip_blanks s i = first (λ k. not (is_blank (byte s k))) i (length s)

-- the first line end from i to before e, or e (01, Characters)
abbrev pub find_line_end : List ℕ → ℕ → ℕ → ℕ
find_line_end s i e = first (at_line_end s) i e

-- the end of the line that i stands in: the first line end from i on, or the end of the text (01, Characters)
abbrev pub line_end : List ℕ → ℕ → ℕ
line_end s i = find_line_end s i (length s)

-- the first whitespace character from i to before e, or e (01, Declarations)
abbrev pub find_whitespace : List ℕ → ℕ → ℕ → ℕ
find_whitespace s i e = first (at_whitespace s) i e

-- past the ASCII whitespace at i, up to e (01, Declarations)
abbrev pub skip_ascii_whitespace : List ℕ → ℕ → ℕ → ℕ
skip_ascii_whitespace s i e = first (λ k. not (is_ascii_whitespace (byte s k))) i e

-- the first ASCII whitespace from i to before e, or e (01, Declarations)
abbrev pub find_ascii_whitespace : List ℕ → ℕ → ℕ → ℕ
find_ascii_whitespace s i e = first (λ k. is_ascii_whitespace (byte s k)) i e

-- the first byte b from i to before e, or e: a `>`, a comma or a backslash (01, Rules)
abbrev pub find_byte : List ℕ → ℕ → ℕ → ℕ → ℕ
find_byte s i e b = first (λ k. eqb (byte s k) b) i e

-- the last space or tab from i to before e (01, Rules)
abbrev pub last_blank : List ℕ → ℕ → ℕ → Option ℕ
last_blank s i e = last (λ k. is_blank (byte s k)) i e

-- where the text from i to e starts without its leading whitespace (01, Declarations and Rules)
unfoldable pub trim_start : List ℕ → ℕ → ℕ → ℕ
trim_start s i e = min (skip_whitespace s i) e

-- where the text from i to e ends without its trailing whitespace: the first position from which only whitespace stands up to e (01, Declarations and Rules)
unfoldable pub trim_end : List ℕ → ℕ → ℕ → ℕ
trim_end s i e = first (λ k. leb e (skip_whitespace s k)) i e

-- from the last byte that is no backslash, of those from i to u: how many bytes stand behind it
unfoldable pub backslashes_behind : ℕ → ℕ → Option ℕ → ℕ
backslashes_behind i u None = u - i
backslashes_behind i u (Some q) = u - (q + 1)

-- how many backslashes stand in front of u, from i on (01, Rules)
unfoldable pub backslashes_before : List ℕ → ℕ → ℕ → ℕ
backslashes_before s i u = backslashes_behind i u (last (λ k. not (eqb (byte s k) 0x5c)) i u)

-- the trailing whitespace of the pattern from i to e starts at u: its first character belongs to the pattern where the backslashes before it are odd in number (01, Rules)
unfoldable pub keep_escaped : List ℕ → ℕ → ℕ → ℕ → ℕ
keep_escaped s i e u = cond (eqb u e) e (cond (eqb (backslashes_before s i u % 2) 1) (u + whitespace_len s u) u)

-- where the pattern from i to e ends without its trailing whitespace (01, Rules)
unfoldable pub trim_end_unescaped : List ℕ → ℕ → ℕ → ℕ
trim_end_unescaped s i e = keep_escaped s i e (trim_end s i e)
