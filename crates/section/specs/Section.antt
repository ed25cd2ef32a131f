-- The two sections of a file: lines that are skipped between what is read, and where a section ends (01, Declarations and Rules).
use Rattle.std.specs.Prelude.{ℕ, ◌+◌, ◌≤◌, ◌<◌, Bool, cond, not, ◌&&◌, List, [], ◌∷◌, eqb, length, is_some}
use Rattle.characters.specs.Walk.{repeat, skip, Between}
use Rattle.text.specs.Range.{lookahead_is}
use Rattle.text.specs.Scan.{line_end, skip_whitespace, skip_line_ends}
use Rattle.section.specs.declared.options.Options.{Options}

-- `%%`, which ends a section (01, Declarations and Rules)
abbrev pub percents : List ℕ
percents = 0x25 ∷ 0x25 ∷ []

-- `//`, which flag 1 looks for (01, Declarations)
abbrev pub slashes : List ℕ
slashes = 0x2f ∷ 0x2f ∷ []

-- a line that flag 1 skips starts at i (01, Declarations)
unfoldable pub is_comment : List ℕ → Bool → ℕ → Bool
is_comment s comments i = comments && is_some (lookahead_is s slashes i)

-- to the end of that line, if it is one (01, Declarations)
unfoldable pub past_comment : List ℕ → Options → ℕ → ℕ
past_comment s options i = cond (is_comment s options.comments i) (line_end s i) i

-- past the characters that width measures, and then past one such line
abbrev pub past_both : List ℕ → Options → (ℕ → ℕ) → ℕ → ℕ
past_both s options width i = past_comment s options (skip width (length s) i)

-- r is past all of both from i on, where the numbers are past what width measures
pub record PastComments (s : List ℕ) (options : Options) (numbers : ℕ → ℕ → Type 0) (i r : ℕ) : Type 0 where
  pub rule : (width : ℕ → ℕ) → ((k : ℕ) → 0 < width k → k + width k ≤ length s) → ((k n : ℕ) → k ≤ length s → numbers k n → Between k (length s) (skip width (length s) k) n)
      → Between i (length s) (repeat (past_both s options width) (length s) i) r

-- in the declarations: past whitespace, and then past one such line (01, Declarations)
unfoldable pub past_line : List ℕ → Options → ℕ → ℕ
past_line s options i = past_comment s options (skip_whitespace s i)

-- past all whitespace and such lines (01, Declarations)
unfoldable pub to_declaration : List ℕ → Options → ℕ → ℕ
to_declaration s options i = repeat (past_line s options) (length s) i

-- among the rules: past line ends, and then past one such line, which starts right there (01, Declarations and Rules)
unfoldable pub past_rule_line : List ℕ → Options → ℕ → ℕ
past_rule_line s options i = past_comment s options (skip_line_ends s i)

-- past all line ends and such lines (01, Rules)
unfoldable pub to_rule : List ℕ → Options → ℕ → ℕ
to_rule s options i = repeat (past_rule_line s options) (length s) i

-- a section goes on at i: neither the end of the file nor a `%%` stands there (01, Declarations and Rules)
unfoldable pub in_section : List ℕ → ℕ → Bool
in_section s i = not (eqb i (length s)) && not (is_some (lookahead_is s percents i))

-- a `%%` stands at i, and something else than whitespace behind it (01, Rules)
unfoldable pub has_routines : List ℕ → ℕ → Bool
has_routines s i = is_some (lookahead_is s percents i) && not (eqb (skip_whitespace s (i + 2)) (length s))
