-- The words of the link call tell its answers apart.
use Rattle.std.specs.Prelude.{Ok, Err}
use mathlib.Core.Path.{◌≡◌, refl}
use mathlib.Core.Bool.{cond}
use lib.Dec.{eqb}
use Rattle.answers.specs.Words.{Fields, TellsApart}
use Rattle.answers.proofs.Words.{tells_by}
use Rattle.link.specs.declared.LinkArea.TheVariants.{Unmapped, Unused}
use Rattle.link.specs.declared.LinkError.TheVariants.{BrokenSheet, BrokenMap, AreaFull}
use Rattle.link.specs.Link.{LinkAnswer, linked_answer, link_fields}

link_back : Fields → LinkAnswer
link_back f =
    cond (eqb f.number 0) (linked_answer f.a f.b)
    (cond (eqb f.number 6) (Err BrokenSheet) (cond (eqb f.number 7) (Err BrokenMap) (Err (AreaFull (cond (eqb f.a 7) Unmapped Unused)))))

again : (x : LinkAnswer) → link_back (link_fields x) ≡ x
unfolding link_back link_fields
again (Ok x) = refl
again (Err BrokenSheet) = refl
again (Err BrokenMap) = refl
again (Err (AreaFull Unmapped)) = refl
again (Err (AreaFull Unused)) = refl

pub link_tells : TellsApart link_fields
link_tells = tells_by link_fields link_back again
