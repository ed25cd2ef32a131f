-- A pattern's escapes: which stay, what each becomes, and the text that a pattern from i to c of the source s is rewritten to (01, Rules).
use Rattle.std.specs.Prelude.{ℕ, zero, suc, ◌+◌, ◌-◌, Bool, false, cond, not, ◌&&◌, ◌||◌, List, [], ◌∷◌, ◌++◌, eqb, ltb}
use Rattle.characters.specs.Class.{among, is_hex_digit, is_always_kept}
use Rattle.characters.specs.Walk.{first}
use Rattle.characters.specs.Whitespace.{byte}
use Rattle.text.specs.Range.{part}
use Rattle.text.specs.Scan.{find_byte}
use Rattle.characters.specs.Utf8.{at_edge}
-- an escape: where its backslash stands, and where its character starts and ends (01, Rules)
pub use Rattle.escape.specs.declared.Escape.{Escape}

-- ---- the escapes of a pattern

-- the first backslash from p to before e, or e (01, Rules)
abbrev pub next_backslash : List ℕ → ℕ → ℕ → ℕ
next_backslash s e p = find_byte s p e 0x5c

-- where the character ends that starts at q: an escape is a whole character (01, Rules)
abbrev pub char_end : List ℕ → ℕ → ℕ → ℕ
char_end s c q = first (at_edge s) (q + 1) c

-- the next escape from p on: the next backslash and the character behind it (01, Rules)
unfoldable pub next_escape : List ℕ → ℕ → ℕ → Escape
next_escape s c p =
    let q = next_backslash s c p in
    record { backslash = q; start = q + 1; end = char_end s c (q + 1) }

-- it is whole: its character stands within the pattern, so that its backslash is not a lone last one (01, Rules)
abbrev pub is_whole : ℕ → Escape → Bool
is_whole c e = ltb e.start c

-- the whole escapes from p to c, at most n of them: each is the next one from the end of the one before (01, Rules)
unfoldable pub escapes_from : ℕ → List ℕ → ℕ → ℕ → List Escape
escapes_from zero s c p = []
escapes_from (suc n) s c p =
    let e = next_escape s c p in
    let es = escapes_from n s c e.end in
    cond (is_whole c e) (e ∷ es) []

-- the whole escapes of the pattern from i to c, in order; there are no more of them than bytes (01, Rules)
unfoldable pub escapes : List ℕ → ℕ → ℕ → List Escape
escapes s i c = escapes_from (c - i) s c i

-- ---- which escapes stay

-- x, u, U: the letters before a code in hex digits (01, Rules)
unfoldable pub is_code_letter : ℕ → Bool
is_code_letter b = among (0x78 ∷ 0x75 ∷ 0x55 ∷ []) b

-- the byte x is a code letter and the next byte y a hex digit; more says that there is such a byte (01, Rules)
unfoldable pub is_code : ℕ → ℕ → Bool → Bool
is_code x y more = is_code_letter x && (more && is_hex_digit y)

-- whether the backslash before the byte x is kept: x is a meta character, a digit or an escape letter, or starts a code (01, Rules)
unfoldable pub is_kept_by : ℕ → ℕ → Bool → Bool
is_kept_by x y more = is_always_kept x || is_code x y more

-- the escape whose character starts at q is of the kept kind (01, Rules)
unfoldable pub is_kept : List ℕ → ℕ → ℕ → Bool
is_kept s c q = is_kept_by (byte s q) (byte s (q + 1)) (ltb (q + 1) c)

-- ---- what an escape becomes

-- what `\b` becomes: `\x08` with flag 2, else `\b` (01, Rules)
unfoldable pub backspace : Bool → List ℕ
backspace posix_escapes = cond posix_escapes (0x5c ∷ 0x78 ∷ 0x30 ∷ 0x38 ∷ []) (0x5c ∷ 0x62 ∷ [])

-- an escape but `\b` begins with its backslash if it is of the kept kind; others lose the backslash (01, Rules)
unfoldable pub escape_from : List ℕ → ℕ → Escape → ℕ
escape_from s c e = cond (is_kept s c e.start) e.backslash e.start

-- what an escape becomes (01, Rules)
unfoldable pub escaped : List ℕ → Bool → ℕ → Escape → List ℕ
escaped s posix_escapes c e = cond (eqb (byte s e.start) 0x62) (backspace posix_escapes) (part s (escape_from s c e) e.end)

-- ---- the rewritten text

-- one of the escapes passes the test
unfoldable pub any_escape : (Escape → Bool) → List Escape → Bool
any_escape test [] = false
any_escape test (e ∷ es) = test e || any_escape test es

-- place is 1: some escape is not of the kept kind (01, Rules)
unfoldable pub is_rewritten : List ℕ → ℕ → ℕ → Bool
is_rewritten s i c = any_escape (λ e. not (is_kept s c e.start)) (escapes s i c)

-- behind the last of the escapes; i where there is none
unfoldable pub last_end : ℕ → List Escape → ℕ
last_end i [] = i
last_end i (e ∷ es) = last_end e.end es

-- behind the last whole escape of the pattern (01, Rules)
unfoldable pub last_whole : List ℕ → ℕ → ℕ → ℕ
last_whole s i c = last_end i (escapes s i c)

-- where the text ends whose last whole escape ends at w: at w itself if one more backslash follows, for that one is alone (01, Rules)
unfoldable pub drop_lone : List ℕ → ℕ → ℕ → ℕ
drop_lone s c w = cond (ltb (next_backslash s c w) c) w c

-- where what is rewritten ends: a lone last backslash drops everything behind the last whole escape (01, Rules)
unfoldable pub rewritten_end : List ℕ → ℕ → ℕ → ℕ
rewritten_end s i c = drop_lone s c (last_whole s i c)

-- the text of s from p to z, with what each of the escapes becomes in the place of the escape (01, Rules)
unfoldable pub replaced : (Escape → List ℕ) → List ℕ → ℕ → ℕ → List Escape → List ℕ
replaced becomes s p z [] = part s p z
replaced becomes s p z (e ∷ es) = part s p e.backslash ++ (becomes e ++ replaced becomes s e.end z es)

-- the rewritten text of the pattern from i to c (01, Rules)
unfoldable pub unescaped : List ℕ → Bool → ℕ → ℕ → List ℕ
unescaped s posix_escapes i c = replaced (escaped s posix_escapes c) s i (rewritten_end s i c) (escapes s i c)
