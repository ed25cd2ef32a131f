-- What the contracts of the code speak of: the rules that are lent.
use Rattle.std.specs.Prelude.{ℕ, List}
use Rattle.area.specs.declared.Rule.{Rule}
use Rattle.area.specs.Contents.{contents, rule_format}
use Rattle.names.specs.Names.{name_of}

-- so many rules of area 2
abbrev pub rules_in : List ℕ → ℕ → List Rule
rules_in area count = contents rule_format area count

-- the name of each rule, in a source
abbrev pub rule_names_in : List ℕ → Rule → List ℕ
rule_names_in src = name_of src
