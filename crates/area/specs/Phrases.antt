-- Short words for contracts: what a reference that is lent for writing refers to before the call and after it.
use Rattle.std.specs.Prelude.{ℕ, ◌≡◌, List, length}
use denote.MutBor.{MutBor}
use denote.Triple.Both.{Both}

-- a parameter that lends a value for writing
abbrev pub Lent : Type 0 → Type 0
Lent A = Both (MutBor A) (MutBor A)

-- a slice of bytes, or an array of numbers, that is lent so
abbrev pub Bytes : Type 0
Bytes = Lent (List ℕ)

-- what it refers to before the call
abbrev pub before : {A : Type 0} → Lent A → A
before p = p.entry.now

-- what it refers to after the call
abbrev pub after : {A : Type 0} → Lent A → A
after p = p.exit.now

-- the area that was lent, of as many bytes
pub record SameArea (a b : MutBor (List ℕ)) : Type 0 where
  pub lent : b.ghost_name ≡ a.ghost_name
  pub long : length b.now ≡ length a.now
