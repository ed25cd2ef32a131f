-- The words of the pattern call tell its answers apart.
use Rattle.std.specs.Prelude.{Option, Some, None}
use mathlib.Core.Path.{◌≡◌, refl}
use mathlib.Core.Bool.{cond}
use lib.Dec.{eqb}
use Rattle.answers.specs.Words.{Fields, TellsApart}
use Rattle.answers.proofs.Words.{tells_by}
use Rattle.area.specs.declared.RuleText.{RuleText}
use Rattle.sheet_check.specs.Pattern.{pattern_fields}

part_back : Fields → Option RuleText
part_back f = cond (eqb f.number 0) (Some (record { place = f.a; from = f.b; length = f.c })) None

again : (x : Option RuleText) → part_back (pattern_fields x) ≡ x
unfolding part_back pattern_fields
again (Some x) = refl
again None = refl

pub pattern_tells : TellsApart pattern_fields
pattern_tells = tells_by pattern_fields part_back again
