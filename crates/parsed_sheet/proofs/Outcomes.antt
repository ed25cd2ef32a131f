-- The ways in which a call can end before its file is read, as a law over the outcomes.
use Prim.Native.Nat.{◌≤◌}
use mathlib.Core.Path.{◌≡◌}
use mathlib.Core.Bool.{true, cond}
use borrow.Author.Tests.{ltb-false}
use lib.Dec.{ltb}
use lib.ListN.{length}
use Rattle.std.proofs.lemmas.Bool.{cond_both}
use Rattle.characters.specs.Utf8.{utf8}
use Rattle.section.specs.Request.{Request}
use Rattle.parse.specs.Parse.{Caps, Outcome, long_file, unknown_flag, invalid_utf8, file, outcome}

-- what holds of each early outcome, and of a short file that is text, holds of the outcome
pub outcome_cases : (asked : Request) (k : Caps) (P : Outcome → Type 0) → P long_file → P unknown_flag → P invalid_utf8
    → (length asked.source ≤ 65535 → utf8 asked.source ≡ true → P (file asked k)) → P (outcome asked k)
unfolding outcome
outcome_cases asked k P long flag invalid read =
    let text : Outcome = cond (utf8 asked.source) (file asked k) invalid_utf8 in
    cond_both (ltb 65535 (length asked.source)) long_file (cond asked.unknown_flags unknown_flag text) P (λ _. long)
    (λ l. cond_both asked.unknown_flags unknown_flag text P (λ _. flag)
    (λ _. cond_both (utf8 asked.source) (file asked k) invalid_utf8 P (read (ltb-false 65535 (length asked.source) l)) (λ _. invalid)))
