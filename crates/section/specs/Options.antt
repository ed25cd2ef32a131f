-- What the caller chooses by the flags: whether lines that start with `//` are skipped, and whether `\b` becomes `\x08` (01, Declarations).
use Rattle.std.specs.Prelude.{ℕ, ◌/◌, ◌%◌, Bool, eqb}
use Rattle.section.specs.declared.options.Options.{Options}

-- flag 1 is given (01, Declarations)
unfoldable pub comments : ℕ → Bool
comments flags = eqb (flags % 2) 1

-- flag 2 is given (01, Declarations)
unfoldable pub posix_escapes : ℕ → Bool
posix_escapes flags = eqb (flags / 2 % 2) 1

-- what these flags choose
abbrev pub options : ℕ → Options
options flags = record { comments = comments flags; posix_escapes = posix_escapes flags }
