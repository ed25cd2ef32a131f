-- The words of the parse call tell its answers apart.
use mathlib.Core.Path.{◌≡◌, refl}
use mathlib.Core.Bool.{cond}
use lib.Dec.{eqb}
use Rattle.answers.specs.Words.{Fields, TellsApart}
use Rattle.answers.proofs.Words.{tells_by}
use Rattle.std.specs.Prelude.{Ok, Err, ℕ}
use Rattle.area.specs.declared.AreaName.{AreaName}
use Rattle.area.specs.declared.AreaName.TheVariants as Areas
use Rattle.parse.specs.declared.ParseError.TheVariants.{LongFile, UnknownFlag, InvalidUtf8, AreaFull, FaultyFile}
use Rattle.parse.specs.Parse.{ParseAnswer, parse_fields}

area_back : ℕ → AreaName
area_back n =
    cond (eqb n 1) Areas.States
    (cond (eqb n 2) Areas.Rules
    (cond (eqb n 3) Areas.Entries (cond (eqb n 4) Areas.Text (cond (eqb n 5) Areas.Expected Areas.Faults))))

answer_back : Fields → ParseAnswer
answer_back f =
    cond (eqb f.number 0) (Ok tt)
    (cond (eqb f.number 1) (Err LongFile)
    (cond (eqb f.number 2) (Err UnknownFlag) (cond (eqb f.number 3) (Err InvalidUtf8) (cond (eqb f.number 4) (Err (AreaFull (area_back f.a))) (Err (FaultyFile f.a))))))

again : (x : ParseAnswer) → answer_back (parse_fields x) ≡ x
unfolding area_back answer_back parse_fields
again (Ok tt) = refl
again (Err LongFile) = refl
again (Err UnknownFlag) = refl
again (Err InvalidUtf8) = refl
again (Err (AreaFull Areas.States)) = refl
again (Err (AreaFull Areas.Rules)) = refl
again (Err (AreaFull Areas.Entries)) = refl
again (Err (AreaFull Areas.Text)) = refl
again (Err (AreaFull Areas.Expected)) = refl
again (Err (AreaFull Areas.Faults)) = refl
again (Err (FaultyFile n)) = refl

pub parse_tells : TellsApart parse_fields
parse_tells = tells_by parse_fields answer_back again
