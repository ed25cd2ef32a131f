-- What each kind of record keeps: so many bytes, and so many records in an area.
-- Assumes nothing.
use Rattle.std.specs.Prelude.{refl}
use Rattle.std.proofs.Common.{arith}
use Rattle.area.specs.Bytes.{two, bytes}
use Rattle.area.specs.Records.{state_fields, rule_fields, entry_fields, expected_fields, fault_fields, state_width, rule_width, entry_width}
use Rattle.area.specs.Records.{expected_width, fault_width, most_states, most_rules, most_others}
use Rattle.area.specs.declared.AreaName.TheVariants as N
use Rattle.area.specs.Contents.{Sized, state_format, rule_format, entry_format, text_format, expected_format, fault_format}

pub state_sized : Sized state_format N.States state_width most_states
unfolding bytes two state_fields
state_sized = record { name_is = refl; width_is = refl; most_is = refl; narrow = omega arith; few = omega arith; wide = λ x. refl }

pub rule_sized : Sized rule_format N.Rules rule_width most_rules
unfolding bytes two rule_fields
rule_sized = record { name_is = refl; width_is = refl; most_is = refl; narrow = omega arith; few = omega arith; wide = λ x. refl }

pub entry_sized : Sized entry_format N.Entries entry_width most_others
unfolding bytes two entry_fields
entry_sized = record { name_is = refl; width_is = refl; most_is = refl; narrow = omega arith; few = omega arith; wide = λ x. refl }

pub text_sized : Sized text_format N.Text 1 most_others
text_sized = record { name_is = refl; width_is = refl; most_is = refl; narrow = omega arith; few = omega arith; wide = λ x. refl }

pub expected_sized : Sized expected_format N.Expected expected_width most_others
unfolding bytes two expected_fields
expected_sized = record { name_is = refl; width_is = refl; most_is = refl; narrow = omega arith; few = omega arith; wide = λ x. refl }

pub fault_sized : Sized fault_format N.Faults fault_width most_others
unfolding bytes two fault_fields
fault_sized = record { name_is = refl; width_is = refl; most_is = refl; narrow = omega arith; few = omega arith; wide = λ x. refl }
