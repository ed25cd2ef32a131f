-- What the areas of the declarations hold, as one value with their counts (01, Areas).
use Rattle.std.specs.Prelude.{◌≡◌, length}
use Rattle.area.specs.Phrases.{SameArea}
use Rattle.declarations.specs.declared.areas.DeclarationAreas.{DeclarationAreas}
use Rattle.declarations.specs.Declarations.{Names, NameCaps, name_caps, Declared, Caps}
use Rattle.declarations.specs.Answers.{names_in, HeldNames, declared_in, HeldDeclared, caps_of}

-- the three areas that were lent
pub record SameAreas (a b : DeclarationAreas) : Type 0 where
  pub states : SameArea a.states b.states
  pub expected : SameArea a.expected b.expected
  pub faults : SameArea a.faults b.faults

-- the expected names stay as they are
pub record SameExpected (a b : DeclarationAreas) : Type 0 where
  pub bytes : b.expected.now ≡ a.expected.now
  pub count : b.counts.expected ≡ a.counts.expected

-- how many bytes there are for states and faults
abbrev pub name_caps_in : DeclarationAreas → NameCaps
name_caps_in a = name_caps (length a.states.now) (length a.faults.now)

-- how many bytes there are for states, expected names and faults
abbrev pub caps_in : DeclarationAreas → Caps
caps_in a = caps_of (length a.states.now) (length a.expected.now) (length a.faults.now)

-- the states and faults (01, Areas, 1 and 6)
abbrev pub names_held_in : DeclarationAreas → Names
names_held_in a = names_in a.states.now a.faults.now a.counts.names

-- the same with the expected names (01, Areas, 5)
abbrev pub declared_held_in : DeclarationAreas → Declared
declared_held_in a = declared_in a.states.now a.expected.now a.faults.now a.counts

-- the states and faults are as many as the counts say, with zeros behind them (01, Areas)
abbrev pub NamesHeld : DeclarationAreas → Type 0
NamesHeld a = HeldNames a.states.now a.faults.now a.counts.names

-- the same with the expected names
abbrev pub DeclaredHeld : DeclarationAreas → Type 0
DeclaredHeld a = HeldDeclared a.states.now a.expected.now a.faults.now a.counts
