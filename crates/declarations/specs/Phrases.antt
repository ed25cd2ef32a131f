-- Short words for contracts: a step over what the areas of the declarations hold (01, Areas).
use Rattle.std.specs.Prelude.{ℕ, Result}
use Rattle.area.specs.Phrases.{Lent, before, after}
use Rattle.fault.specs.declared.Stop.{Stop}
use Rattle.fault.specs.Step.{Out, Does, outcome}
use Rattle.declarations.specs.declared.areas.DeclarationAreas.{DeclarationAreas}
use Rattle.declarations.specs.Declarations.{Names, NameCaps, Declared, Caps}
use Rattle.declarations.specs.Answers.{names_in, HeldNames, declared_in, HeldDeclared}
use Rattle.declarations.specs.Areas.{name_caps_in, names_held_in, caps_in, declared_held_in}

-- the step f, over areas with so many bytes, does to the states and faults in them what r and the counts afterwards tell
abbrev pub DoesNames : (NameCaps → Names → Out Names) → Lent DeclarationAreas → Result ℕ Stop → Type 0
DoesNames f p r =
    Does (HeldNames (after p).states.now (after p).faults.now) (f (name_caps_in (before p))) (names_held_in (before p))
    (names_in (after p).states.now (after p).faults.now) (outcome r (after p).counts.names)

-- the same with the expected names
abbrev pub DoesDeclared : (Caps → Declared → Out Declared) → Lent DeclarationAreas → Result ℕ Stop → Type 0
DoesDeclared f p r =
    Does (HeldDeclared (after p).states.now (after p).expected.now (after p).faults.now) (f (caps_in (before p))) (declared_held_in (before p))
    (declared_in (after p).states.now (after p).expected.now (after p).faults.now) (outcome r (after p).counts)
