-- What the areas of the declarations hold, by counts of their records (01, Areas).
use Rattle.std.specs.Prelude.{ℕ, List}
use Rattle.area.specs.Contents.{contents, state_format, expected_format, fault_format, Held}
use Rattle.fault.specs.Faults.{HeldFaults}
use Rattle.declarations.specs.declared.NameCounts.{NameCounts}
use Rattle.declarations.specs.declared.DeclarationCounts.{DeclarationCounts}
use Rattle.declarations.specs.Declarations.{Names, names, Declared, Caps}

-- the states and faults that areas 1 and 6 hold
abbrev pub names_in : List ℕ → List ℕ → NameCounts → Names
names_in l1 l6 q = names (contents state_format l1 q.states) (contents fault_format l6 q.faults)

-- areas 1 and 6 hold so many states and fault spans
pub record HeldNames (l1 l6 : List ℕ) (q : NameCounts) : Type 0 where
  pub states : Held state_format l1 q.states
  pub faults : HeldFaults l6 q.faults

-- the states, expected names and faults that areas 1, 5 and 6 hold
abbrev pub declared_in : List ℕ → List ℕ → List ℕ → DeclarationCounts → Declared
declared_in l1 l5 l6 q = record {
  states = contents state_format l1 q.names.states;
  expected = contents expected_format l5 q.expected;
  faults = contents fault_format l6 q.names.faults;
}

-- areas 1, 5 and 6 hold so many states, expected names and fault spans
pub record HeldDeclared (l1 l5 l6 : List ℕ) (q : DeclarationCounts) : Type 0 where
  pub names : HeldNames l1 l6 q.names
  pub expected : Held expected_format l5 q.expected

-- the lengths of areas 1, 5 and 6
abbrev pub caps_of : ℕ → ℕ → ℕ → Caps
caps_of c1 c5 c6 = record { c1 = c1; c5 = c5; c6 = c6 }
