-- The declarations section (01, Declarations). What is read comes first, by definitions over the source and the states; then what is
-- written of it.
use Rattle.std.specs.Prelude.{ℕ, ◌+◌, ◌-◌, Bool, cond, not, ◌&&◌, ◌||◌, List, [], ◌∷◌, eqb, ltb, leb, length, is_some}
use Rattle.characters.specs.Class.{is_letter, is_digit}
use Rattle.characters.specs.Whitespace.{byte, whitespace_len}
use Rattle.text.specs.Range.{lookahead_is}
use Rattle.text.specs.Scan.{line_end, skip_blanks, skip_ascii_whitespace, find_ascii_whitespace, find_whitespace, trim_end, trim_start}
use Rattle.area.specs.declared.AreaName.TheVariants as Areas
use Rattle.area.specs.declared.State.{State}
use Rattle.area.specs.declared.Expected.{Expected}
use Rattle.area.specs.declared.Fault.{Fault}
use Rattle.area.specs.Records.{nth_state}
use Rattle.area.specs.Contents.{append, state_format, expected_format}
use Rattle.fault.specs.Step.{Out, go, bad, next, onto, written, loop}
use Rattle.fault.specs.Faults.{add_repeat, PrematureEnd, UnknownDeclaration, InvalidName, DuplicateStartState, InvalidStartStateName}
use Rattle.section.specs.declared.options.Options.{Options}
use Rattle.section.specs.declared.reader.Line.{Line}
use Rattle.section.specs.Section.{percents, to_declaration, in_section}
use Rattle.names.specs.Names.{all_bytes, is_state_name, find_state}
use Rattle.declarations.specs.declared.Declaration.{Declaration}
use Rattle.declarations.specs.declared.Declaration.TheVariants.{States, Expecting, Unknown}

-- a part of the source: its first byte, and behind its last one
abbrev pub Range : Type 0
Range = Line

-- the part from a to e
abbrev pub range : ℕ → ℕ → Range
range a e = record { start = a; end = e }

-- without the whitespace at both ends (01, Declarations)
unfoldable pub trimmed : List ℕ → Range → Range
trimmed s r = range (trim_start s r.start r.end) (trim_end s (trim_start s r.start r.end) r.end)

-- ---- the first word of a line l, and what it declares

-- the first word ends at the first whitespace character, or with the line (01, Declarations)
unfoldable pub word_end : List ℕ → Range → ℕ
word_end s l = find_whitespace s l.start l.end

-- the first word (01, Declarations)
unfoldable pub first_word : List ℕ → Range → Range
first_word s l = range l.start (word_end s l)

-- the rest of the line, which starts behind the word; a line that is only the word once trimmed has none (01, Declarations)
unfoldable pub rest_of : List ℕ → Range → Range
rest_of s l = range (cond (eqb (word_end s l) (trim_end s l.start l.end)) l.end (word_end s l)) l.end

-- a letter or a digit (01, Declarations)
unfoldable pub is_alphanumeric : ℕ → Bool
is_alphanumeric b = is_letter b || is_digit b

-- the word w is `%`, one of the letters x and y, and letters or digits (01, Declarations)
unfoldable pub declares : ℕ → ℕ → List ℕ → Range → Bool
declares x y s w =
    eqb (byte s w.start) 0x25
    && ((eqb (byte s (w.start + 1)) x || eqb (byte s (w.start + 1)) y) && all_bytes is_alphanumeric s (w.start + 2) w.end)

-- `%s` or `%S`: inclusive states (01, Declarations)
unfoldable pub is_inclusive : List ℕ → Range → Bool
is_inclusive s w = declares 0x73 0x53 s w

-- `%x` or `%X`: exclusive states (01, Declarations)
unfoldable pub is_exclusive : List ℕ → Range → Bool
is_exclusive s w = declares 0x78 0x58 s w

-- %expect-missing (01, Declarations)
abbrev pub expect_missing : List ℕ
expect_missing = 0x25 ∷ 0x65 ∷ 0x78 ∷ 0x70 ∷ 0x65 ∷ 0x63 ∷ 0x74 ∷ 0x2d ∷ 0x6d ∷ 0x69 ∷ 0x73 ∷ 0x73 ∷ 0x69 ∷ 0x6e ∷ 0x67 ∷ []

-- the word w starts with `%expect-missing` (01, Declarations)
unfoldable pub is_expecting : List ℕ → Range → Bool
is_expecting s w = is_some (lookahead_is s expect_missing w.start)

-- names of states, exclusive ones or not; no names is an unknown declaration (01, Declarations)
unfoldable pub states_of : ℕ → Range → Declaration
states_of exclusive r = cond (eqb r.start r.end) Unknown (States exclusive r)

-- what the line says: its first word decides (01, Declarations)
unfoldable pub declaration_of : List ℕ → Range → Declaration
declaration_of s l =
    cond (is_inclusive s (first_word s l)) (states_of 0 (trimmed s (rest_of s l)))
    (cond (is_exclusive s (first_word s l)) (states_of 1 (trimmed s (rest_of s l)))
    (cond (is_expecting s (first_word s l)) (Expecting (rest_of s l).start)
    Unknown))

-- ---- names of states

-- the states and the faults
pub record Names : Type 0 where
  pub states : List State
  pub faults : List Fault

-- the record of these lists
abbrev pub names : List State → List Fault → Names
names xs fs = record { states = xs; faults = fs }

-- how many bytes their areas have
pub record NameCaps : Type 0 where
  pub c1 : ℕ
  pub c6 : ℕ

-- the record of these sizes
abbrev pub name_caps : ℕ → ℕ → NameCaps
name_caps c1 c6 = record { c1 = c1; c6 = c6 }

-- a state whose name stands from a to e (01, Areas, 1)
abbrev pub state : ℕ → ℕ → ℕ → State
state a e exclusive = record { start = a; end = e; exclusive = exclusive }

-- behind the single whitespace character that ends the name of x: there parsing goes on (01, Declarations)
unfoldable pub behind_name : List ℕ → State → ℕ
behind_name s x = x.end + whitespace_len s x.end

-- x is a new state (01, Declarations)
unfoldable pub add_state : List ℕ → NameCaps → State → Names → Out Names
add_state s k x n = onto (λ xs. names xs n.faults) (written Areas.States (behind_name s x) (append state_format k.c1 (x ∷ []) n.states))

-- x repeats the name of the state y, which is a fault (01, Declarations)
unfoldable pub repeat_state : List ℕ → NameCaps → State → State → Names → Out Names
repeat_state s k x y n =
    onto (names n.states) (written Areas.Faults (behind_name s x) (add_repeat k.c6 DuplicateStartState y.start y.end x.start x.end n.faults))

-- which state has the name of x; the number of states where none has (01, Declarations)
unfoldable pub state_named : List ℕ → State → List State → ℕ
state_named s x xs = find_state s x.start x.end xs

-- the name of x: a bad form ends parsing; a name that a state has is a repeat; any other is a new state (01, Declarations)
unfoldable pub declare_state : List ℕ → NameCaps → State → Names → Out Names
declare_state s k x n =
    cond (not (is_state_name s x.start x.end)) (bad InvalidStartStateName x.start n)
    (cond (ltb (state_named s x n.states) (length n.states)) (repeat_state s k x (nth_state n.states (state_named s x n.states)) n)
    (add_state s k x n))

-- the names in the part r, split at each single whitespace character, each declared in turn (01, Declarations)
unfoldable pub state_names : List ℕ → NameCaps → ℕ → Range → Names → Out Names
state_names s k exclusive r n =
    loop (length s) (λ a. ltb a r.end) (λ a. declare_state s k (state a (find_whitespace s a r.end) exclusive)) r.start n

-- ---- expected names of a line l

-- an expected name from a to e (01, Areas, 5)
abbrev pub expected : ℕ → ℕ → Expected
expected a e = record { start = a; end = e }

-- the word w has a double quote at each end, and these are two bytes (01, Declarations)
unfoldable pub is_quoted : List ℕ → Range → Bool
is_quoted s w = leb (w.start + 2) w.end && (eqb (byte s w.start) 0x22 && eqb (byte s (w.end - 1)) 0x22)

-- the word w of the line: a name in quotes, which are cut off, and on behind the ASCII whitespace that follows; any other is a fault at the first
-- word (01, Declarations)
unfoldable pub declare_expected : List ℕ → ℕ → Range → Range → List Expected → Out (List Expected)
declare_expected s c5 l w xs =
    cond (is_quoted s w) (written Areas.Expected (skip_ascii_whitespace s w.end l.end) (append expected_format c5 (expected (w.start + 1) (w.end - 1) ∷ []) xs))
    (bad InvalidName l.start xs)

-- the words from a to the line's end, split at ASCII whitespace, each a name in turn (01, Declarations)
unfoldable pub expected_names : List ℕ → ℕ → Range → ℕ → List Expected → Out (List Expected)
expected_names s c5 l a xs =
    loop (length s) (λ j. ltb j l.end) (λ j. declare_expected s c5 l (range j (find_ascii_whitespace s j l.end))) (skip_ascii_whitespace s a l.end) xs

-- ---- what a declaration writes

-- what the section writes: states, expected names and faults
pub record Declared : Type 0 where
  pub states : List State
  pub expected : List Expected
  pub faults : List Fault

-- how many bytes the three areas have
pub record Caps : Type 0 where
  pub c1 : ℕ
  pub c5 : ℕ
  pub c6 : ℕ

-- with other states and faults
abbrev pub with_names : Declared → Names → Declared
with_names d n = record { states = n.states; expected = d.expected; faults = n.faults }

-- with other expected names
abbrev pub with_expected : Declared → List Expected → Declared
with_expected d xs = record { states = d.states; expected = xs; faults = d.faults }

-- on at the line's end
abbrev pub then_at : {S : Type 0} → ℕ → Out S → Out S
then_at e o = next o (λ j s. go e s)

-- what the declaration in the line l writes; one that is neither of the two is a fault at the first word (01, Declarations)
unfoldable pub declare_as : List ℕ → Caps → Range → Declaration → Declared → Out Declared
declare_as s k l (States exclusive r) d =
    then_at l.end (onto (with_names d) (state_names s (name_caps k.c1 k.c6) exclusive r (names d.states d.faults)))
declare_as s k l (Expecting a) d = then_at l.end (onto (with_expected d) (expected_names s k.c5 l a d.expected))
declare_as s k l Unknown d = bad UnknownDeclaration l.start d

-- the declaration in the line from i to e (01, Declarations)
unfoldable pub declaration : List ℕ → Caps → ℕ → ℕ → Declared → Out Declared
declaration s k i e d = declare_as s k (range i e) (declaration_of s (range i e)) d

-- ---- the section

-- the section ends at i: at the `%%`, behind which blanks are skipped; or with the file, which is PrematureEnd (01, Declarations)
unfoldable pub end_declarations : List ℕ → ℕ → Declared → Out Declared
end_declarations s i d = cond (is_some (lookahead_is s percents i)) (go (skip_blanks s (i + 2)) d) (bad PrematureEnd i d)

module _ (s : List ℕ) (options : Options) (k : Caps) where
  -- a declaration, and on to the next (01, Declarations)
  unfoldable pub next_declaration : ℕ → Declared → Out Declared
  next_declaration i d = next (declaration s k i (line_end s i) d) (λ j t. go (to_declaration s options j) t)

  -- the section from i on (01, Declarations)
  unfoldable pub declarations : ℕ → Declared → Out Declared
  declarations i d = next (loop (length s) (in_section s) next_declaration (to_declaration s options i) d) (end_declarations s)
